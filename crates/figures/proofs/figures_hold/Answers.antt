use Rattle.std.proofs.Common.{refl, lit<}
use Rattle.figures.proofs.Computed.{triples_are, answers_are, fits_are, stages_are, values_are, slots_are, unfit_at_three, seals, string_is}
use Rattle.figures.proofs.figures_hold.Goals as goal

pub returns : goal.returns
returns c = (
  refl,
  (
    refl,
    (
      refl,
      (
        refl,
        (
          refl,
          (
            (λ rule. rule.1 2 (lit< tt) refl refl),
            (
              refl,
              (
                refl,
                (triples_are, (answers_are, (fits_are, (stages_are, (values_are, (slots_are, (unfit_at_three, (seals, (string_is, tt))))))))),
              ),
            ),
          ),
        ),
      ),
    ),
  ),
)
