-- What the report says where the first line is no header.
use Rattle.std.specs.Prelude.{ℕ, List, codes}
use Rattle.listing.specs.declared.header.NoHeader.{NoHeader}
use Rattle.listing.specs.declared.header.NoHeader.TheVariants.{Unread, Kind}

abbrev pub sentence : NoHeader → List ℕ
sentence Unread = codes "the first line is not KIND R SEED"
sentence (Kind _) = codes "there are kinds 1 (point names) and 2 (day cells)"
