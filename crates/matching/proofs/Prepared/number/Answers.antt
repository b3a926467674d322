use Rattle.std.proofs.Common.{◌∙◌, ap}
use Rattle.matching.proofs.Finding.{number_below, slot_number}
use Rattle.matching.proofs.Prepared.number.Goals as goal

pub returns : goal.returns
returns c =
    let h = c.requires.1 in
    let e = ap (λ n. n.0) c.number_at.ensures.number in record {
      within = number_below _ _ h.known c.args.slot.0 _ (e ∙ slot_number _ _ h.known c.args.slot.0 h.low h.high);
      number = λ t k. e ∙ slot_number t _ k c.args.slot.0 h.low h.high;
    }
