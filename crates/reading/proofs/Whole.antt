-- The fields of a draft are those of its model's table, and what they are packed into is that table. Assumes nothing.
use mathlib.Core.List.{List, [], ◌∷◌, ◌++◌}
use mathlib.Core.Path.{◌≡◌, refl, sym, ap, ap₂, subst, ◌∙◌}
use Prim.Native.Nat.{ℕ, zero, suc, ◌+◌, ◌*◌, ◌/◌, ◌≤◌, ◌<◌}
use native.Mathlib.Omega.{arith}
use lib.ListN.{length, drop}
use lib.Seq.{paste, sets, sets-eq, take_all}
use Rattle.fields.specs.Bits.{bits_of}
use Rattle.fields.proofs.Places.{bits_length}
use Rattle.fields.proofs.WholeBytes.{AllBytes, bits_paste, bytes_paste, bits_unique}
use Rattle.model.specs.Limits.{table_room}
use Rattle.model.specs.declared.Counts.{Counts}
use Rattle.model.specs.declared.Kind.TheVariants.{Sequence, Choice}
use Rattle.model.specs.declared.Node.{Node}
use Rattle.meaning.specs.Trees.{Tree, leaf, sequence, choice, Members, last, and, count, nodes}
use Rattle.names.specs.Bytes.{Bytes}
use Rattle.table.specs.Fields.{Field, all_bits}
use Rattle.table.specs.Encoding.{names, numbers, node_fields, name_fields, tree_fields, all_tree_fields, table_fields, encode}
use Rattle.table.specs.Models.{Lawful}
use Rattle.table.specs.Inner.Draft.{preorder, all_preorder, words}
use Rattle.table.proofs.Words.{Words}
use Rattle.table.proofs.Packing.{bytes_of, name_bytes, words_small, names_bytewise}
use Rattle.table.proofs.Lawful.{names_few, numbers_values, numbers_small, names_lawful, table_bytes_lem, table_bits}
use Rattle.draft.specs.Drafts.{Holds}
use Rattle.draft.specs.declared.Draft.{Draft}
use Rattle.reading.specs.Inner.Packed.{IsPackable, IsPacked}
use Rattle.reading.specs.Inner.Packing.{Put, all_node_fields, draft_fields}
use Rattle.reading.proofs.Putting.{Left, left_start, left_done}
use Rattle.reading.proofs.Longest.{table_length}

-- ---- the table is bytes
words_bytes : (ws : List ℕ) (s : Bytes) → Words ws → AllBytes s → AllBytes (bytes_of ws ++ s)
words_bytes [] s h b i = b i
words_bytes (w ∷ ws) s h b zero = let l : w < 65536 = h.0 in omega arith
words_bytes (w ∷ ws) s h b (suc zero) = omega arith
words_bytes (w ∷ ws) s h b (suc (suc i)) = words_bytes ws s h.1 b i

encode_bytes : (t : Tree Bytes) → Lawful t → AllBytes (encode t)
encode_bytes t l =
    subst AllBytes (sym (table_bytes_lem t l))
    (words_bytes (nodes t ∷ length (names t) ∷ words (numbers t)) (name_bytes (names t)) (
      (let a = l.within.small in omega arith),
      ((let b = names_few t l in omega arith), words_small (numbers t) (numbers_values t l) (numbers_small t l)),
    )
    (names_bytewise (names t) (names_lawful t l)))

-- what the bits of a table were put into has the table at its front, and the bytes past it stay
put_table :
    (s room room' : Bytes) (fs : List Field) (r : ℕ) → AllBytes s → AllBytes room → AllBytes room' →
    all_bits fs ≡ bits_of s → length s ≤ length room → Put room 0 fs r room' →
    (r / 8 ≡ length s) × (room' ≡ s ++ drop (r / 8) room)
put_table s room room' fs r bs br br' e h p =
    let n : ℕ = length s in
    let a = bits_length s in
    let b = bits_length room in
    let q : r / 8 ≡ n = let z = p.place in let y = ap length e in omega arith in
    let z : 0 + length (bits_of s) ≡ 0 + 8 * n = omega arith in
    let f : bits_of room' ≡ bits_of (paste room 0 s n) =
    p.bits ∙ ap (sets (bits_of room) 0) e
    ∙ sets-eq (bits_of s) (bits_of room) 0 (omega arith)
    ∙ ap₂ (λ x (k : ℕ). x ++ drop k (bits_of room)) (sym (take_all (8 * n) (bits_of s) (omega arith))) z
    ∙ sym (bits_paste room s 0 n) in (
      q,
      bits_unique room' (paste room 0 s n) br' (bytes_paste room s 0 n br bs) f
          ∙ ap₂ (λ x (k : ℕ). x ++ drop k room) (take_all n s (omega arith))
          (let y : 0 + n ≡ n = omega arith in y ∙ sym q),
    )

-- ---- a draft
fields_append : (a b : List Node) → all_node_fields (a ++ b) ≡ all_node_fields a ++ all_node_fields b
fields_append [] b = refl
fields_append (n ∷ a) b = ap (λ fs. node_fields n.kind n.mark n.value ++ fs) (fields_append a b)

-- the fields of a tree are those of its nodes
mutual
  fields_preorder : (t : Tree ℕ) → all_node_fields (preorder t) ≡ tree_fields t
  fields_preorder (leaf m a) = refl
  fields_preorder (sequence m ts) = ap (λ fs. node_fields Sequence m (count ts) ++ fs) (all_fields_preorder ts)
  fields_preorder (choice m t ts) =
      ap (λ fs. node_fields Choice m (suc (count ts)) ++ fs)
      (fields_append (preorder t) (all_preorder ts) ∙ ap₂ ◌++◌ (fields_preorder t) (all_fields_preorder ts))

  all_fields_preorder : (ts : Members ℕ) → all_node_fields (all_preorder ts) ≡ all_tree_fields ts
  all_fields_preorder (last t) = fields_preorder t
  all_fields_preorder (and t ts) =
      fields_append (preorder t) (all_preorder ts) ∙ ap₂ ◌++◌ (fields_preorder t) (all_fields_preorder ts)

-- those of a draft are its model's
held_fields : (d : Draft) (t : Tree Bytes) → Holds d t → draft_fields d ≡ table_fields t
held_fields d t h =
    ap₂ (λ (c : Counts) fs. record { width = 16; value = c.nodes } ∷ record { width = 16; value = c.names } ∷ fs)
    h.counts_are
    (ap₂ (λ fs ns. fs ++ name_fields ns) (ap all_node_fields h.nodes_are ∙ fields_preorder (numbers t)) h.names_are)

module _ (d : Draft) (room : Bytes) where
  pub pack_start : IsPackable d room → Left room 0 (draft_fields d) room 0 (draft_fields d)
  pack_start p =
      let l = table_length p.tree p.lawful in
      let e = ap length (ap all_bits (held_fields d p.tree p.holds) ∙ sym (table_bits p.tree p.lawful)) in
      let b = bits_length (encode p.tree) in
      let f = p.fits in
      left_start (record { here = omega arith; near = omega arith })

  pub packed_lem : (r : ℕ) (room' : Bytes) → table_room ≤ length room → Left room 0 (draft_fields d) room' r [] →
      AllBytes room → AllBytes room' → IsPacked d room (r / 8) room'
  packed_lem r room' f p b b' t l h =
      let k = table_length t l in
      put_table (encode t) room room' (draft_fields d) r (encode_bytes t l) b b'
      (ap all_bits (held_fields d t h) ∙ sym (table_bits t l)) (omega arith) (left_done p)
