-- The name numbers of the slots, taken from the nodes of a draft. Assumes nothing.
use Rattle.std.proofs.Common.{List, [], ◌∷◌, ◌++◌, ◌≡◌, ℕ, ◌<◌, length, get_or, take, set, sym, ap, ◌∙◌, arith}
use Rattle.std.specs.List.{filter, enumerate_from}
use Rattle.std.proofs.lemmas.List.{length-map, map-append, get_or-map, take_more, take_more_set, take_all, length_push}
use Rattle.std.proofs.lemmas.List.FromFn.{length-enumerate_from, get_or-enumerate_from}
use Rattle.model.specs.Nodes.{is_leaf}
use Rattle.model.specs.declared.NameNumber.{NameNumber}
use Rattle.model.specs.declared.Node.{Node}
use Rattle.table.specs.Inner.Tests.{leaves_of}
use Rattle.draft.specs.Drafts.{nodes_of}
use Rattle.draft.specs.declared.Draft.{Draft}
use Rattle.draft.proofs.Holding.{leaf_count_leaves}
use Rattle.draft.proofs.Named.{value, leaf_values}
use Rattle.verdict.specs.Inner.Search.{numbers_of}

-- the slots that a draft counts
slot_count : (d : Draft) → length (leaves_of (nodes_of d)) ≡ d.slots
slot_count d = sym (leaf_count_leaves (nodes_of d)) ∙ sym d.slots_counted

-- the names among the nodes, with their places from 0
abbrev pub placed : List Node → List (ℕ × Node)
placed ns = enumerate_from 0 (filter is_leaf ns)

-- as many as the draft counts
placed_count : (d : Draft) (ns : List Node) → ns ≡ nodes_of d → length (placed ns) ≡ d.slots
placed_count d ns e =
    length-enumerate_from 0 (filter is_leaf ns) ∙ sym (length-map (filter is_leaf ns) value)
    ∙ ap length (sym (leaf_values ns) ∙ ap leaves_of e) ∙ slot_count d

-- a turn: s is the place k, and v is the name number there
abbrev pub Turn : Draft → (k s v : ℕ) → Type 0
Turn d k s v = (s ≡ k) × (k < d.slots) × (v ≡ get_or (leaves_of (nodes_of d)) k v)

pub leaf_turn : (d : Draft) (ns : List Node) (k s v : ℕ) (n : Node) → ns ≡ nodes_of d → v ≡ n.value →
    (k < length (placed ns)) × ((s, n) ≡ get_or (placed ns) k (s, n)) → Turn d k s v
leaf_turn d ns k s v n e w t =
    let ls : List Node = filter is_leaf ns in
    let h : k < length ls = omega (arith, t.0, length-enumerate_from 0 ls) in
    let p = t.1 ∙ get_or-enumerate_from 0 ls k (s, n) h in (
      omega (arith, ap (λ q. q.0) p),
      omega (arith, t.0, placed_count d ns e),
      w ∙ ap (λ q. q.1.value) p ∙ sym (get_or-map value ls k n v h) ∙ ap (λ l. get_or l k v) (sym (leaf_values ns) ∙ ap leaves_of e),
    )

-- one name more is written
pub names_more : {A : Type 0} (d : Draft) (names : List NameNumber) (xs : List A) (x : A) (s v : ℕ) →
    numbers_of (take (length xs) names) ≡ take (length xs) (leaves_of (nodes_of d)) → s < length names → Turn d (length xs) s v →
    numbers_of (take (length (xs ++ x ∷ [])) (set names s (record { 0 = v })))
    ≡ take (length (xs ++ x ∷ [])) (leaves_of (nodes_of d))
names_more d names xs x s v f h t =
    let k : ℕ = length xs in
    let ls : List ℕ = leaves_of (nodes_of d) in
    rw (length_push xs x, t.0)
    (ap numbers_of (take_more_set names k (record { 0 = v }) (omega (arith, t.0, h)))
    ∙ map-append (λ (m : NameNumber). m.0) (take k names) (record { 0 = v } ∷ [])
    ∙ ap (λ l. l ++ v ∷ []) f
    ∙ ap (λ z. take k ls ++ z ∷ []) t.2
    ∙ sym (take_more ls k v (omega (arith, t.1, slot_count d))))

-- all are written
pub names_all : (d : Draft) (ns : List Node) (names : List NameNumber) (k : ℕ) → ns ≡ nodes_of d → k ≡ length (placed ns) →
    numbers_of (take k names) ≡ take k (leaves_of (nodes_of d)) →
    numbers_of (take d.slots names) ≡ leaves_of (nodes_of d)
names_all d ns names k e h f =
    let c : k ≡ d.slots = h ∙ placed_count d ns e in
    ap (λ n. numbers_of (take n names)) (sym c) ∙ f ∙ take_all k (leaves_of (nodes_of d)) (omega (arith, c, slot_count d))
