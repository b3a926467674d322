-- The links of equal names, from the last slot down: which slots above k are linked, and which is seen of each name.
-- Assumes nothing.
use mathlib.Core.Bool.{Bool, true, false, true≢false, ◌||◌}
use mathlib.Core.List.{List}
use mathlib.Core.Path.{◌≡◌, refl, sym, ap, subst, ◌∙◌}
use Prim.Native.Nat.{ℕ, zero, suc, ◌-◌, ◌≤◌, ◌<◌}
use native.Mathlib.Omega.{arith}
use native.Mathlib.Decide.{ℕ_discrete}
use lib.Dec.{eqb}
use lib.ListN.{length, get_or, set, length-set}
use lib.Seq.{get_or-set_same, get_or-set_other}
use borrow.Author.Tests.{eqb-true, eqb-false}
use Rattle.std.specs.Prelude.{Option, None, Some}
use Rattle.model.specs.Limits.{slot_limit, name_count_limit}
use Rattle.model.specs.declared.NameNumber.{NameNumber}
use Rattle.model.specs.declared.Slot.{Slot}
use Rattle.slotset.specs.declared.SlotSet.{SlotSet}
use Rattle.slotset.specs.Members.{member}
use Rattle.verdict.specs.Inner.Search.{name_at, IsNextNamed, IsNextAlike, slot_of, link}
use Rattle.verdict.specs.declared.Links.{Links}

-- of the slots above k: each is linked, and the first one of each name is seen
pub record Linking (names : List NameNumber) (links : Links) (seen : List ℕ) (k : ℕ) : Type 0 where
  pub room : length links.later ≡ slot_limit
  pub seen_room : length seen ≡ name_count_limit
  pub linked : (z : ℕ) → k < z → z ≤ length names → IsNextAlike names z (link links z)
  pub firsts : (n : NameNumber) → n.0 < name_count_limit → IsNextNamed names n k (slot_of (get_or seen n.0 0))
  pub within : (z : ℕ) → member links.linked z ≡ true → z ≤ length names
  pub low : (z : ℕ) → member links.linked z ≡ true → k < z
  pub none : (z : ℕ) → member links.linked z ≡ false → k < z → z ≤ length names → link links z ≡ None

pub none_seen : (names : List NameNumber) (n : NameNumber) (k y : ℕ) → length names ≤ k → y ≡ 0 →
    IsNextNamed names n k (slot_of y)
none_seen names n k y h e = subst (λ w. IsNextNamed names n k (slot_of w)) (sym e) (λ z a b _. omega (arith, a, b, h))

-- one slot further down, to slot x
module _ (names : List NameNumber) (x : ℕ) (is_slot : 0 < x) (here : x ≤ length names) where
  -- where x has another name
  unlike : (n : NameNumber) (r : Option Slot) → (n ≡ name_at names x → ⊥) → IsNextNamed names n x r →
      IsNextNamed names n (x - 1) r
  unlike n None other a = λ z b c e. go z b c e (ℕ_discrete z x)
    where
      go : (z : ℕ) → x - 1 < z → z ≤ length names → n ≡ name_at names z → Dec (z ≡ x) → ⊥
      go z b c e (yes i) = other (e ∙ ap (name_at names) i)
      go z b c e (no i) = a z (omega (arith, b, i)) c e
  unlike n (Some y) other a = record {
    ahead = omega (arith, a.ahead);
    within = a.within;
    same = a.same;
    none = λ z b c e. go z b c e (ℕ_discrete z x);
  }
    where
      go : (z : ℕ) → x - 1 < z → z < y.0 → n ≡ name_at names z → Dec (z ≡ x) → ⊥
      go z b c e (yes i) = other (e ∙ ap (name_at names) i)
      go z b c e (no i) = a.none z (omega (arith, b, i)) c e

  -- where x has this name
  alike : (n : NameNumber) (y : ℕ) → y ≡ x → n ≡ name_at names x → IsNextNamed names n (x - 1) (slot_of y)
  alike n zero is e = absurd (omega (arith, is))
  alike n (suc y) is e = record {
    ahead = omega (arith, is);
    within = omega (arith, is);
    same = e ∙ ap (name_at names) (sym is);
    none = λ z b c _. omega (arith, is, b, c);
  }

  module _ (links : Links) (seen : List ℕ) (l : Linking names links seen x) where
    abbrev next : ℕ
    next = get_or seen (name_at names x).0 0

    module _ (y : ℕ) (is : y ≡ x) (known : (name_at names x).0 < name_count_limit) where
      firsts_more : (n : NameNumber) → n.0 < name_count_limit →
          IsNextNamed names n (x - 1) (slot_of (get_or (set seen (name_at names x).0 y) n.0 0))
      firsts_more n h = go (ℕ_discrete n.0 (name_at names x).0)
        where
          go : Dec (n.0 ≡ (name_at names x).0) →
              IsNextNamed names n (x - 1) (slot_of (get_or (set seen (name_at names x).0 y) n.0 0))
          go (yes i) =
              let put = get_or-set_same seen (name_at names x).0 y 0 (omega (arith, known, l.seen_room)) in
              subst (λ w. IsNextNamed names n (x - 1) (slot_of w))
              (sym (ap (λ m. get_or (set seen (name_at names x).0 y) m 0) i ∙ put))
              (alike n y is (ap (λ (m : ℕ). record { 0 = m }) i))
          go (no i) =
              subst (λ w. IsNextNamed names n (x - 1) (slot_of w))
              (sym (get_or-set_other seen (name_at names x).0 n.0 y 0 i))
              (unlike n (slot_of (get_or seen n.0 0)) (λ e. i (ap (λ (m : NameNumber). m.0) e)) (l.firsts n h))

      -- the links with that of x, and the slots that have one
      pub linking_more : (all : SlotSet) → length names ≤ slot_limit → ((z : ℕ) → member all z ≡ true → z ≤ length names) →
          ((z : ℕ) → member all z ≡ false → member links.linked z ≡ false) → ((z : ℕ) → member all z ≡ true → x - 1 < z) →
          (member all x ≡ false → next ≡ 0) →
          Linking names (record { later = set links.later (x - 1) next; linked = all })
          (set seen (name_at names x).0 y) (x - 1)
      linking_more all few within more low none = record {
        room = length-set links.later (x - 1) next ∙ l.room;
        seen_room = length-set seen (name_at names x).0 y ∙ l.seen_room;
        linked = λ z c d. go_linked z c d (ℕ_discrete z x);
        firsts = firsts_more;
        within = within;
        low = low;
        none = λ z b c d. go_none z b c d (ℕ_discrete z x);
      }
        where
          put : (z : ℕ) → z ≡ x → get_or (set links.later (x - 1) next) (z - 1) 0 ≡ next
          put z i =
              ap (λ w. get_or (set links.later (x - 1) next) (w - 1) 0) i
              ∙ get_or-set_same links.later (x - 1) next 0 (omega (arith, l.room))

          kept : (z : ℕ) → x < z → get_or (set links.later (x - 1) next) (z - 1) 0 ≡ get_or links.later (z - 1) 0
          kept z h = get_or-set_other links.later (x - 1) (z - 1) next 0 (omega (arith, h))

          go_linked : (z : ℕ) → x - 1 < z → z ≤ length names → Dec (z ≡ x) →
              IsNextAlike names z (slot_of (get_or (set links.later (x - 1) next) (z - 1) 0))
          go_linked z c d (yes i) =
              subst (IsNextAlike names z) (sym (ap slot_of (put z i)))
              (subst (λ w. IsNextAlike names w (slot_of next)) (sym i) (l.firsts (name_at names x) known))
          go_linked z c d (no i) =
              let h : x < z = omega (arith, c, i) in
              subst (IsNextAlike names z) (sym (ap slot_of (kept z h))) (l.linked z h d)

          go_none : (z : ℕ) → member all z ≡ false → x - 1 < z → z ≤ length names → Dec (z ≡ x) →
              slot_of (get_or (set links.later (x - 1) next) (z - 1) 0) ≡ None
          go_none z b c d (yes i) = ap slot_of (put z i ∙ none (sym (ap (member all) i) ∙ b))
          go_none z b c d (no i) =
              let h : x < z = omega (arith, c, i) in
              ap slot_of (kept z h) ∙ l.none z (more z b) h d

      -- where a slot with the name of x is seen, so that x is one of them
      pub linking_with : (all : SlotSet) (s : ℕ) → length names ≤ slot_limit → s ≡ x →
          ((z : ℕ) → member all z ≡ (member links.linked z || eqb z s)) →
          Linking names (record { later = set links.later (x - 1) next; linked = all })
          (set seen (name_at names x).0 y) (x - 1)
      linking_with all s few here_too with_s = linking_more all few
          (λ z e. (go_in z (member links.linked z) refl (sym (with_s z) ∙ e)).1)
          (λ z e. go_more z (member links.linked z) (sym (with_s z) ∙ e))
          (λ z e. (go_in z (member links.linked z) refl (sym (with_s z) ∙ e)).0)
          (λ e. absurd (eqb-false x s (go_none (member links.linked x) (sym (with_s x) ∙ e)) (sym here_too)))
        where
          go_in : (z : ℕ) (b : Bool) → member links.linked z ≡ b → (b || eqb z s) ≡ true → (x - 1 < z) × (z ≤ length names)
          go_in z true i e = (omega (arith, l.low z i), l.within z i)
          go_in z false i e = let h : z ≡ x = eqb-true z s e ∙ here_too in (omega (arith, h), omega (arith, h))

          go_more : (z : ℕ) (b : Bool) → (b || eqb z s) ≡ false → b ≡ false
          go_more z true e = e
          go_more z false e = refl

          go_none : (b : Bool) → (b || eqb x s) ≡ false → eqb x s ≡ false
          go_none true e = absurd (true≢false e)
          go_none false e = e

      -- where none is seen
      pub linking_same : length names ≤ slot_limit → next ≡ 0 →
          Linking names (record { later = set links.later (x - 1) next; linked = links.linked })
          (set seen (name_at names x).0 y) (x - 1)
      linking_same few none =
          linking_more links.linked few l.within (λ z e. e) (λ z e. omega (arith, l.low z e)) (λ e. none)
