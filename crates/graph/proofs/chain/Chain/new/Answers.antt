use Rattle.graph.proofs.Walked.{walk_vertex}
use Rattle.graph.proofs.chain.Chain.new.Goals as goal

pub returns-clause-exact : goal.returns-clause-exact
returns-clause-exact c = λ es r v vertices g n l a w. walk_vertex es r c.args.edges.now vertices g v c.args.at c.args.low n l a w
