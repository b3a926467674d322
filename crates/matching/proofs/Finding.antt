-- The slot that a name leads to, found among those that can come next. Assumes nothing.
use mathlib.Core.Bool.{true, false, false≢true}
use mathlib.Core.List.{List, [], ◌∷◌, map, nil≢cons, head-eq_of_cons-eq, tail-eq_of_cons-eq}
use mathlib.Core.Path.{◌≡◌, sym, ap, ◌∙◌}
use Prim.Native.Nat.{ℕ, zero, suc, ◌+◌, ◌-◌, ◌≤◌, ◌<◌}
use native.Mathlib.Omega.{arith}
use native.Mathlib.Decide.{ℕ_discrete, dec_lt}
use lib.ListN.{length, get_or, take}
use Rattle.std.proofs.lemmas.List.{get_or-take}
use Rattle.model.specs.declared.NameNumber.{NameNumber}
use Rattle.meaning.specs.Trees.{Tree, leaves}
use Rattle.meaning.specs.Slots.{first_leaf, named}
use Rattle.meaning.specs.Runs.{Step}
use Rattle.meaning.specs.Inner.Expressions.{slotted, next}
use Rattle.meaning.proofs.Main.{next_correct}
use Rattle.meaning.proofs.Clashes.{goes_within, next_goes}
use Rattle.meaning.proofs.Renaming.{leaves_relabel}
use Rattle.names.specs.Bytes.{Bytes}
use Rattle.table.specs.Encoding.{same_bytes, index, names}
use Rattle.draft.specs.Drafts.{name_at}
use Rattle.verdict.specs.Inner.Search.{can, numbers_of}
use Rattle.slotset.specs.declared.SlotSet.{SlotSet}
use Rattle.slotset.specs.Members.{member, FirstAfter}
use Rattle.naming.specs.Places.{number_at}
use Rattle.naming.proofs.Leaves.{number_known, number_name}
use Rattle.matching.specs.Inner.Memory.{Known}
use Rattle.matching.specs.declared.Prepared.{Prepared}

-- the name leads from q to no slot up to this one
abbrev pub NoneUpTo : Tree Bytes → ℕ → Bytes → ℕ → Type 0
NoneUpTo t q a n = (x : ℕ) → x ≤ n → Step t q a x → ⊥

-- what is at a place among numbers
number_here : (ms : List NameNumber) (f : Bytes → ℕ) (l : List Bytes) (i : ℕ) (m : NameNumber) (d : Bytes) →
    numbers_of ms ≡ map f l → i < length l → (get_or ms i m).0 ≡ f (get_or l i d)
number_here ms f [] i m d e h = absurd (omega arith)
number_here [] f (a ∷ l) i m d e h = absurd (nil≢cons e)
number_here (n ∷ ms) f (a ∷ l) zero m d e h = head-eq_of_cons-eq e
number_here (n ∷ ms) f (a ∷ l) (suc i) m d e h = number_here ms f l i m d (tail-eq_of_cons-eq e) (omega arith)

module _ (t : Tree Bytes) (p : Prepared) (k : Known t p) where
  pub slots_are : p.draft.slots ≡ length (leaves t)
  slots_are = ap (λ c. c.slots) k.holds.counts_are

  -- the name number that is held for a slot, and the name
  number_is : (i : ℕ) → i < p.draft.slots → (get_or p.names i (record { 0 = 0 })).0 ≡ number_at t (i + 1)
  number_is i h =
      ap (λ m. m.0) (sym (get_or-take p.draft.slots p.names i (record { 0 = 0 }) h))
      ∙ number_here (take p.draft.slots p.names) (λ a. index same_bytes a (names t)) (leaves t) i
      (record { 0 = 0 }) (first_leaf t)
      (k.names_are ∙ leaves_relabel (λ a. index same_bytes a (names t)) t) (omega (arith, slots_are))
      ∙ ap (λ j. index same_bytes (get_or (leaves t) j (first_leaf t)) (names t)) (omega arith)

  pub slot_number : (x : ℕ) → 1 ≤ x → x ≤ p.draft.slots →
      (get_or p.names (x - 1) (record { 0 = 0 })).0 ≡ number_at t x
  slot_number x f h = number_is (x - 1) (omega arith) ∙ ap (number_at t) (omega arith)

  pub number_below : (x v : ℕ) → v ≡ number_at t x → v < length p.draft.names.items
  number_below x v e = number_known p.draft t k.holds x v e

  pub slot_name : (x v : ℕ) → v ≡ number_at t x → name_at p.draft v ≡ named t x
  slot_name x v e = number_name p.draft t k.holds x v e

  step_slot : (q : ℕ) (a : Bytes) (x : ℕ) → Step t q a x → (1 ≤ x) × (x ≤ p.draft.slots)
  step_slot q a x s = let h = goes_within t q x ((next_goes t q x).0 s.next) in let e = slots_are in omega arith

  -- the name leads from q to slots of this set alone
  module _
      (q : ℕ) (a : Bytes) (set : SlotSet) (comes : (x : ℕ) → member set x ≡ can p.first p.follow q x) where
    is_next : (x : ℕ) → member set x ≡ next (slotted t) q x
    is_next x = comes x ∙ k.nexts q x

    pub in_model : (x : ℕ) → member set x ≡ true → (1 ≤ x) × (x ≤ p.draft.slots)
    in_model x e =
        let h = goes_within t q x ((next_goes t q x).0 ((next_correct t q x).0 (sym (is_next x) ∙ e))) in
        let l = slots_are in
        omega arith

    pub leads : (x : ℕ) → member set x ≡ true → named t x ≡ a → Step t q a x
    leads x e n = record { next = (next_correct t q x).0 (sym (is_next x) ∙ e); name = n }

    not_in : (x : ℕ) → Step t q a x → member set x ≡ false → ⊥
    not_in x s e = false≢true (sym e ∙ is_next x ∙ (next_correct t q x).1 s.next)

    pub none_first : NoneUpTo t q a 0
    none_first x l s = let r = step_slot q a x s in omega arith

    -- the next slot of the set is not so named
    pub none_next : (n y : ℕ) → NoneUpTo t q a n → FirstAfter set n y → (named t y ≡ a → ⊥) → NoneUpTo t q a y
    none_next n y f h o x l s = go (dec_lt n x) (ℕ_discrete x y)
      where
        go : Dec (n < x) → Dec (x ≡ y) → ⊥
        go (no g) d = f x (omega (arith, g)) s
        go (yes g) (yes e) = o (ap (named t) (sym e) ∙ s.name)
        go (yes g) (no e) = not_in x s (h.none x g (omega (arith, e)))

    -- no slot of the set is left
    pub none_left : (n : ℕ) → NoneUpTo t q a n → ((x : ℕ) → n < x → member set x ≡ false) → (x : ℕ) → Step t q a x → ⊥
    none_left n f h x s = go (dec_lt n x)
      where
        go : Dec (n < x) → ⊥
        go (yes g) = not_in x s (h x g)
        go (no g) = f x (omega (arith, g)) s
