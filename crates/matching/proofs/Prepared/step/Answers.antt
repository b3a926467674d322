use mathlib.Core.Bool.{true≢false}
use Rattle.std.proofs.Common.{◌∙◌, ap, sym}
use Rattle.slotset.specs.Members.{member}
use Rattle.matching.proofs.Finding.{in_model, leads, none_first, none_next, none_left}
use Rattle.matching.proofs.Prepared.step.Goals as goal

pub loop-slot-init : goal.loop-slot-init
loop-slot-init c =
    let gives = c.into_iter-slot-iterator.ensures.into_iter_gives in
    let slots = c.slots-slot-items.ensures in
    let set = ap (λ s. s.set) gives ∙ slots.set in
    let at = ap (λ s. s.at) gives ∙ slots.at in
    record {
      comes = λ x. ap (λ s. member s x) set ∙ c.nexts-next.ensures.answer x;
      none = λ t k. rw at (none_first t _ k _ _ _ c.nexts-next.ensures.answer);
    }

pub name-requires : goal.name-requires
name-requires c =
    let k = c.requires.model.1 in
    let h = in_model _ _ k c.args.from.0 c.args.name.now _ c.loop-slot.invariant.comes _ c.in-Some.ensures.steps.2.there in
    (c.requires.model.0, record { known = k; low = h.0; high = h.1 })

pub returns-then-same-clause-slot : goal.returns-then-same-clause-slot
returns-then-same-clause-slot c =
    (in_model _ _ c.requires.model.1 c.args.from.0 c.args.name.now _ c.loop-slot.invariant.comes _ c.in-Some.ensures.steps.2.there).1

pub returns-then-same-clause-answer : goal.returns-then-same-clause-answer
returns-then-same-clause-answer c = λ t k.
    leads t _ k _ _ _ c.loop-slot.invariant.comes _ c.in-Some.ensures.steps.2.there
    (sym (c.name.ensures t k) ∙ c.same.ensures.0 c.if-same.true)

pub loop-slot-preserved : goal.loop-slot-preserved
loop-slot-preserved c =
    let i = c.loop-slot.invariant in
    let n = c.in-Some.ensures.steps in
    record {
      comes = λ x. ap (λ s. member s x) n.0 ∙ i.comes x;
      none = λ t k. rw n.1
          (none_next t _ k _ _ _ i.comes _ _ (i.none t k) n.2
          (λ e. true≢false (sym (c.same.ensures.1 (c.name.ensures t k ∙ e)) ∙ c.if-same.false)));
    }

pub returns-clause-answer : goal.returns-clause-answer
returns-clause-answer c = λ t k.
    let i = c.loop-slot.invariant in
    none_left t _ k _ _ _ i.comes _ (i.none t k) c.in-None.ensures.steps.1
