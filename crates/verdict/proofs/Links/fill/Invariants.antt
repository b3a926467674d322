use Rattle.verdict.proofs.Linking.{Linking}
use Rattle.verdict.proofs.Links.fill.Given as goal

abbrev pub invariant-loop-k : goal.invariant-loop-k
invariant-loop-k l = Linking l.names l.self l.seen l.k
