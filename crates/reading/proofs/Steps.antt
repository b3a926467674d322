-- What is left to put: a byte, a node or a name, and the others. Assumes nothing.
use Rattle.std.proofs.Common.{List, [], ◌∷◌, ◌++◌, ◌≡◌, ℕ, ◌+◌, ◌*◌, ◌≤◌, ◌<◌, length, get_or, drop, sym, ap, subst, ◌∙◌, append-nil, append_assoc, add-one, drop-cons, arith}
use lib.Seq.{drop-length}
use Rattle.model.specs.Nodes.{node_at}
use Rattle.model.specs.declared.Node.{Node}
use Rattle.names.specs.Bytes.{Bytes}
use Rattle.table.specs.Fields.{Field, all_bits}
use Rattle.table.specs.Encoding.{node_fields, name_fields}
use Rattle.reading.specs.Inner.Packing.{Fits, Put, byte_fields, all_node_fields}
use Rattle.reading.proofs.Putting.{Left, left_done, length_field}

drop_more : {A : Type 0} (xs : List A) (i : ℕ) (z : A) → i < length xs → drop i xs ≡ get_or xs i z ∷ drop (i + 1) xs
drop_more xs i z h = rw (add-one i) (drop-cons xs i z h)

past : {A : Type 0} (xs : List A) (i : ℕ) → length xs ≤ i → i ≤ length xs → drop i xs ≡ []
past xs i h k = let e : i ≡ length xs = omega arith in ap (λ (j : ℕ). drop j xs) e ∙ drop-length xs

-- the length of a name fits its byte's type
byte_bits : (s : Bytes) → length (all_bits (byte_fields s ++ [])) ≡ 8 * length s
unfolding all_bits
byte_bits [] = omega arith
byte_bits (b ∷ s) = omega (arith, length_field (record { width = 8; value = b }) (byte_fields s ++ []), byte_bits s)

pub name_small : (s room : Bytes) (at : ℕ) → Fits room at (name_fields (s ∷ [])) → length s < 65536
name_small s room at f =
    omega (arith, length_field (record { width = 8; value = length s }) (byte_fields s ++ []), byte_bits s, f.near)

module _ {room₀ room : Bytes} {at₀ at : ℕ} {all : List Field} where
  -- the bytes of a name from i on
  pub byte_left : (s : Bytes) (i : ℕ) → i < length s → Left room₀ at₀ all room at (byte_fields (drop i s) ++ []) →
      Left room₀ at₀ all room at (record { width = 8; value = get_or s i 0 } ∷ (byte_fields (drop (i + 1) s) ++ []))
  byte_left s i h l = subst (Left room₀ at₀ all room at) (ap (λ x. byte_fields x ++ []) (drop_more s i 0 h)) l

  pub bytes_done : (s : Bytes) (i : ℕ) → length s ≤ i → i ≤ length s →
      Left room₀ at₀ all room at (byte_fields (drop i s) ++ []) → Put room₀ at₀ all at room
  bytes_done s i h k l = left_done (subst (Left room₀ at₀ all room at) (ap (λ x. byte_fields x ++ []) (past s i h k)) l)

  -- the nodes from i on, and the names
  pub node_left : (these ns : List Node) (fs : List Field) (i : ℕ) → these ≡ ns → i < length these →
      Left room₀ at₀ all room at (all_node_fields (drop i ns) ++ fs) → let n = node_at these i in
      Left room₀ at₀ all room at (node_fields n.kind n.mark n.value ++ (all_node_fields (drop (i + 1) ns) ++ fs))
  node_left these ns fs i e h l =
      let n : Node = node_at these i in
      let k = ap length e in
      subst (Left room₀ at₀ all room at)
      (ap (λ x. all_node_fields x ++ fs) (drop_more ns i _ (omega arith) ∙ ap (λ x. node_at x i ∷ drop (i + 1) ns) (sym e))
      ∙ append_assoc (node_fields n.kind n.mark n.value) (all_node_fields (drop (i + 1) ns)) fs)
      l

  pub nodes_done : (ns : List Node) (fs : List Field) (i : ℕ) → length ns ≤ i → i ≤ length ns →
      Left room₀ at₀ all room at (all_node_fields (drop i ns) ++ fs) → Left room₀ at₀ all room at fs
  nodes_done ns fs i h k l = subst (Left room₀ at₀ all room at) (ap (λ x. all_node_fields x ++ fs) (past ns i h k)) l

  -- the names from i on, of which s is the first
  pub name_left : (ns : List Bytes) (i : ℕ) (s : Bytes) → s ≡ get_or ns i [] → i < length ns →
      Left room₀ at₀ all room at (name_fields (drop i ns)) →
      Left room₀ at₀ all room at (name_fields (s ∷ []) ++ name_fields (drop (i + 1) ns))
  name_left ns i s e h l =
      subst (Left room₀ at₀ all room at)
      (ap name_fields (drop_more ns i [] h ∙ ap (λ x. x ∷ drop (i + 1) ns) (sym e))
      ∙ ap (λ fs. record { width = 8; value = length s } ∷ (fs ++ name_fields (drop (i + 1) ns)))
      (sym (append-nil (byte_fields s))))
      l

  pub names_done : (ns : List Bytes) (i : ℕ) → length ns ≤ i → i ≤ length ns →
      Left room₀ at₀ all room at (name_fields (drop i ns)) → Left room₀ at₀ all room at []
  names_done ns i h k l = subst (Left room₀ at₀ all room at) (ap name_fields (past ns i h k)) l
