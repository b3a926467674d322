-- The nodes that are names, slot by slot. Assumes nothing.
use Rattle.std.proofs.Common.{List, [], ◌≡◌, ℕ, ◌+◌, ◌-◌, ◌<◌, Some, None, length, get_or, drop, length-drop, sym, ap, ◌∙◌, subst, arith}
use Rattle.std.specs.Prelude.{filter, slice_get}
use Rattle.std.specs.Option.{option_map}
use Rattle.std.proofs.lemmas.List.{length-take-le}
use Rattle.std.proofs.lemmas.Option.{slice_get-map, slice_get_within, slice_get-get_or, get_or_from_slice_get, none-some}
use Rattle.std.specs.Borrow.{Bor}
use Rattle.model.specs.Nodes.{is_leaf}
use Rattle.model.specs.declared.Node.{Node}
use Rattle.meaning.specs.Trees.{Tree, leaves}
use Rattle.meaning.specs.Slots.{first_leaf, named}
use Rattle.meaning.proofs.Renaming.{leaves_count}
use Rattle.names.specs.Bytes.{Bytes}
use Rattle.table.specs.Encoding.{same_bytes, index, names, numbers}
use Rattle.table.specs.Inner.Tests.{leaves_of}
use Rattle.table.proofs.Folds.{leaves_nodes}
use Rattle.draft.specs.Parts.{span_at}
use Rattle.draft.specs.Drafts.{nodes_of, name_at, IsNamePart, Holds}
use Rattle.draft.specs.declared.Draft.{Draft}
use Rattle.draft.proofs.Holding.{name_here}
use Rattle.draft.proofs.Named.{value, leaf_values}
use Rattle.loader.specs.Answers.{Loaded}
use Rattle.naming.specs.Places.{IsPart, name_start, number_at}
use Rattle.naming.specs.SlotNames.{HasSlot}
use Rattle.naming.specs.Inner.Finding.{NamePart}
use Rattle.naming.proofs.Numbers.{number_names, number_below, number_is}

leaf_at : (ns : List Node) (i : ℕ) → slice_get (leaves_of ns) i ≡ option_map value (slice_get (filter is_leaf ns) i)
leaf_at ns i = ap (λ l. slice_get l i) (leaf_values ns) ∙ slice_get-map value (filter is_leaf ns) i

-- a draft that holds a model
module _ (d : Draft) (t : Tree Bytes) (held : Holds d t) where
  slots_are : leaves_of (nodes_of d) ≡ leaves (numbers t)
  slots_are = ap leaves_of held.nodes_are ∙ leaves_nodes (numbers t)

  slot_count : length (leaves_of (nodes_of d)) ≡ length (leaves t)
  slot_count = ap length slots_are ∙ leaves_count (λ a. index same_bytes a (names t)) t

  -- no such slot
  pub no_leaf : (s i : ℕ) → i + 1 ≡ s → slice_get (filter is_leaf (nodes_of d)) i ≡ None → HasSlot t s → ⊥
  no_leaf s i e h k =
      let ls : List ℕ = leaves_of (nodes_of d) in
      none-some (get_or ls i 0)
      (sym (leaf_at (nodes_of d) i ∙ ap (option_map value) h)
      ∙ slice_get-get_or ls i 0 (omega (arith, slot_count, k.0, k.1)))

  -- such a slot, and its name's number
  pub leaf_number : (s i : ℕ) → i + 1 ≡ s → (n : Node) → slice_get (filter is_leaf (nodes_of d)) i ≡ Some n →
      HasSlot t s × (n.value ≡ number_at t s)
  leaf_number s i e n h =
      let ls : List ℕ = leaves_of (nodes_of d) in
      let here : slice_get ls i ≡ Some n.value = leaf_at (nodes_of d) i ∙ ap (option_map value) h in
      let z : ℕ = first_leaf (numbers t) in
      let j : s - 1 ≡ i = omega arith in (
        (omega arith, omega (arith, slice_get_within ls i n.value here, slot_count)),
        number_is t s n.value
            (ap (λ (k : ℕ). get_or (leaves (numbers t)) k z) j ∙ ap (λ l. get_or l i z) (sym slots_are)
            ∙ get_or_from_slice_get ls i n.value z here),
      )

  -- that number is one of the draft's, and says the slot's name
  module _ (s v : ℕ) (e : v ≡ number_at t s) where
    pub number_known : v < length d.names.items
    number_known = omega (arith, e, number_below t s, ap (λ c. c.names) held.counts_are)

    pub number_name : name_at d v ≡ named t s
    number_name =
        sym (name_here d v number_known) ∙ ap (λ l. get_or l v []) held.names_are
        ∙ ap (λ (k : ℕ). get_or (names t) k []) e ∙ number_names t s

-- a table that loads: the name is a part of it
size_of : (d : Draft) (v : ℕ) → v < length d.names.items →
    (span_at d.names.items v).end - (span_at d.names.items v).start ≡ length (name_at d v)
size_of d v h =
    let p = d.inside v h in
    let s = span_at d.names.items v in
    sym
    (length-take-le (s.end - s.start) (drop s.start d.source.now)
    (omega (arith, p.ordered, p.within, length-drop s.start d.source.now)))

pub name_part : (table : Bor (List ℕ)) (d : Draft) (t : Tree Bytes) → Loaded table d t → (s v : ℕ) → HasSlot t s →
    v ≡ number_at t s → (r : Bor (List ℕ)) → IsNamePart d v r → NamePart table s r t
name_part table d t l s v has e r p =
    let k : v < length d.names.items = number_known d t l.holds s v e in
    let a : (span_at d.names.items v).start ≡ name_start t (number_at t s) = l.places v k ∙ ap (name_start t) e in
    let m : (span_at d.names.items v).end - (span_at d.names.items v).start ≡ length (named t s) =
    size_of d v k ∙ ap length (number_name d t l.holds s v e) in
    record {
      loads = l.loads;
      has = has;
      part =
          subst (λ (x : Bor (List ℕ)). IsPart x (name_start t (number_at t s)) (length (named t s)) r) l.source_is
          (subst (λ (k : ℕ). IsPart d.source k (length (named t s)) r) a
          (subst (λ (k : ℕ). IsPart d.source (span_at d.names.items v).start k r) m p));
    }
