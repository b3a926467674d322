use Rattle.std.proofs.Common.{◌∙◌}
use Rattle.matching.proofs.Finding.{slot_name}
use Rattle.matching.proofs.Prepared.name.Goals as goal

pub returns : goal.returns
returns c = λ t k. c.name.ensures.name ∙ slot_name t _ k c.args.slot.0 _ (c.number.ensures.number t k)
