use Rattle.std.proofs.Common.{◌≡◌, ◌∙◌, subst, ℕ, ◌+◌, ◌/◌, ◌^◌, ◌%◌, ◌<◌, refl, arith, rules}
use lib.Pow.{shr-shr}
use Rattle.std.specs.Int.{w128, bit_at, trailing_zeros}
use Rattle.std.proofs.lemmas.Nat.Bits.{bit_at_lowest, bit_at-trailing_zeros}
use Rattle.slotset.specs.declared.Slots.{Slots}
use Rattle.slotset.specs.Members.{IsSlot, FirstAfter}
use Rattle.slotset.proofs.Sets.{AreLeft, none_left, first_left, next_slot, rest_left}
use Rattle.slotset.proofs.SlotsIterator.next.Goals as goal

-- the slot right behind
module _ (s : Slots) (odd : s.left % 2 ≡ 1) where
  here : bit_at s.left 0 ≡ 1
  here = bit_at_lowest s.left ∙ odd

  none : (i : ℕ) → i < 0 → bit_at s.left i ≡ 0
  none i h = absurd (omega arith)

  behind : s.at + 0 + 1 ≡ s.at + 1
  behind = omega arith

  first : FirstAfter s.set s.at (s.at + 1)
  first = subst (FirstAfter s.set s.at) behind (first_left s.set s.at s.left s.left_are 0 here none)

  slot : IsSlot (s.at + 1)
  slot = subst IsSlot behind (next_slot s.set s.at s.left s.left_are 0 here none)

  rest : AreLeft s.set (s.at + 1) (s.left / 2 ^ 1)
  rest = subst (λ p. AreLeft s.set p (s.left / 2 ^ 1)) behind (rest_left s.set s.at s.left s.left_are 0 here none _ refl)

-- the slot of the lowest mark
module _ (s : Slots) (some : s.left ≡ 0 → ⊥) (fits : s.left < 2 ^ 128) where
  abbrev passed : ℕ
  passed = trailing_zeros w128 s.left

  lowest : (passed < 128) × (bit_at s.left passed ≡ 1) × ((i : ℕ) → i < passed → bit_at s.left i ≡ 0)
  lowest = bit_at-trailing_zeros w128 s.left (omega (arith, some)) fits

  first_low : FirstAfter s.set s.at (s.at + passed + 1)
  first_low = first_left s.set s.at s.left s.left_are passed lowest.1 lowest.2

  slot_low : IsSlot (s.at + passed + 1)
  slot_low = next_slot s.set s.at s.left s.left_are passed lowest.1 lowest.2

  rest_low : AreLeft s.set (s.at + passed + 1) (s.left / 2 ^ passed / 2 ^ 1)
  rest_low = rest_left s.set s.at s.left s.left_are passed lowest.1 lowest.2 _ (shr-shr s.left passed 1)

pub overflow_add-at : goal.overflow_add-at
overflow_add-at c = let k = slot c.args.self.now c.if-left-eq1.true in omega (arith, k.1)

pub invariant_of-self : goal.invariant_of-self
invariant_of-self c = record { left_are = rest c.args.self.now c.if-left-eq1.true }

pub returns-then-left-eq1-clause-steps : goal.returns-then-left-eq1-clause-steps
returns-then-left-eq1-clause-steps c = (refl, refl, first c.args.self.now c.if-left-eq1.true)

pub returns-then-left-eq1-clause-goes : goal.returns-then-left-eq1-clause-goes
returns-then-left-eq1-clause-goes c =
    let k = slot c.args.self.now c.if-left-eq1.true in record { on = λ e. (tt, tt, omega (arith, k.1)); keeps = tt; rests = λ e. tt }

pub returns-then-left-eq0-clause-steps : goal.returns-then-left-eq0-clause-steps
returns-then-left-eq0-clause-steps c =
    let s = c.args.self.now in (refl, none_left s.set s.at s.left s.left_are c.if-left-eq0.true)

pub overflow_add-at-2 : goal.overflow_add-at-2
overflow_add-at-2 c = let k = slot_low c.args.self.now c.if-left-eq0.false (search rules) in omega (arith, k.1)

pub overflow_add-at-3 : goal.overflow_add-at-3
overflow_add-at-3 c = let k = slot_low c.args.self.now c.if-left-eq0.false (search rules) in omega (arith, k.1)

pub invariant_of-self-2 : goal.invariant_of-self-2
invariant_of-self-2 c = record { left_are = rest_low c.args.self.now c.if-left-eq0.false (search rules) }

pub returns-clause-steps : goal.returns-clause-steps
returns-clause-steps c = (refl, refl, first_low c.args.self.now c.if-left-eq0.false (search rules))

pub returns-clause-goes : goal.returns-clause-goes
returns-clause-goes c =
    let k = slot_low c.args.self.now c.if-left-eq0.false (search rules) in
    record { on = λ e. (tt, tt, omega (arith, k.1)); keeps = tt; rests = λ e. tt }
