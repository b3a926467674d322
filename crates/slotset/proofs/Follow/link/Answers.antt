use Rattle.std.proofs.Common.{ℕ, ◌<◌, false, ◌≡◌, ◌∙◌, ap, sym, subst, arith}
use Rattle.slotset.specs.Members.{member, FirstAfter}
use Rattle.slotset.proofs.Squares.{Linked, linked_start, linked_next, linked_rest, first_slot}
use Rattle.slotset.proofs.Follow.link.Goals as goal

pub loop-p-init : goal.loop-p-init
loop-p-init c = record {
  same = ap (λ s. s.set) c.into_iter-p-iterator.ensures.into_iter_gives ∙ c.slots-p-items.ensures.set;
  linked = subst (λ k. Linked c.args.from c.args.to c.args.self.now k c.args.self.now)
      (sym (ap (λ s. s.at) c.into_iter-p-iterator.ensures.into_iter_gives ∙ c.slots-p-items.ensures.at)) (linked_start _ _ _);
}

pub offset_bounds-self-p : goal.offset_bounds-self-p
offset_bounds-self-p c = let s = first_slot _ _ _ c.in-Some.ensures.steps.2 in omega (arith, s.0, s.1)

pub bounds-self-p : goal.bounds-self-p
bounds-self-p c = let s = first_slot _ _ _ c.in-Some.ensures.steps.2 in omega (arith, s.0, s.1)

pub offset_bounds-self-p-in-loop-p : goal.offset_bounds-self-p-in-loop-p
offset_bounds-self-p-in-loop-p c = let s = first_slot _ _ _ c.in-Some.ensures.steps.2 in omega (arith, s.0, s.1)

pub bounds-self-p-in-loop-p : goal.bounds-self-p-in-loop-p
bounds-self-p-in-loop-p c = let s = first_slot _ _ _ c.in-Some.ensures.steps.2 in omega (arith, s.0, s.1)

pub loop-p-preserved : goal.loop-p-preserved
loop-p-preserved c =
    let i = c.loop-p.invariant in
    let n = c.in-Some.ensures.steps in
    let first = subst (λ s. FirstAfter s c.loop-p.p-iterator.at c.in-Some.p.0) i.same n.2 in
    let s = first_slot _ _ _ first in
    record {
      same = n.0 ∙ i.same;
      linked = rw n.1 (linked_next _ _ _ _ _ _ i.linked first (omega (arith, s.0, s.1)) _ c.bitor.ensures);
    }

pub returns : goal.returns
returns c =
    let i = c.loop-p.invariant in
    linked_rest _ _ _ _ _ i.linked (subst (λ s. (y : ℕ) → c.loop-p.p-iterator.at < y → member s y ≡ false) i.same c.in-None.ensures.steps.1)
