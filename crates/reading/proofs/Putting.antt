-- Fields put one behind another: what is left to put, put behind what was, is the whole. Assumes nothing.
use mathlib.Core.List.{List, [], ◌∷◌, ◌++◌, append-nil}
use mathlib.Core.Path.{◌≡◌, refl, sym, ap, ◌∙◌}
use Prim.Native.Nat.{ℕ, ◌+◌, ◌*◌, ◌≤◌}
use native.Mathlib.Omega.{arith}
use lib.ListN.{length, take, drop, length-append}
use lib.Seq.{paste, sets, sets-eq, length-sets, take_all}
use Rattle.names.proofs.Places.{sets_append}
use Rattle.fields.specs.Bits.{bits_of, bits_n, Room}
use Rattle.fields.proofs.Places.{bits_n_length, bits_length}
use Rattle.names.specs.Bytes.{Bytes}
use Rattle.table.specs.Fields.{Field, all_bits}
use Rattle.table.proofs.Packing.{bits_append_fields}
use Rattle.reading.specs.Inner.Packing.{Fits, Put}

-- the bits of fields, one field more and one behind another
pub length_field : (f : Field) (fs : List Field) → length (all_bits (f ∷ fs)) ≡ f.width + length (all_bits fs)
unfolding all_bits
length_field f fs = length-append (bits_n f.width f.value) (all_bits fs)
    ∙ ap (λ (n : ℕ). n + length (all_bits fs)) (bits_n_length f.width f.value)

length_fields : (fs gs : List Field) → length (all_bits (fs ++ gs)) ≡ length (all_bits fs) + length (all_bits gs)
length_fields fs gs = ap length (bits_append_fields fs gs) ∙ length-append (all_bits fs) (all_bits gs)

-- what the cursor put is a field
pub put_field :
    (room room' : Bytes) (at w v r : ℕ) → at + w ≤ 8 * length room →
    bits_of room' ≡ paste (bits_of room) at (bits_n w v) w → r ≡ at + w →
    Put room at (record { width = w; value = v } ∷ []) r room'
unfolding all_bits
put_field room room' at w v r h e p =
    let n = bits_n_length w v in
    let l = bits_length room in
    let z : bits_n w v ++ [] ≡ bits_n w v = append-nil (bits_n w v) in
    record {
      place = rw (z, n) p;
      bits =
          e
          ∙ ap (λ x. take at (bits_of room) ++ x ++ drop (at + w) (bits_of room)) (take_all w (bits_n w v) (omega arith))
          ∙ ap (λ (k : ℕ). take at (bits_of room) ++ bits_n w v ++ drop (at + k) (bits_of room)) (sym n)
          ∙ sym (sets-eq (bits_n w v) (bits_of room) at (omega arith))
          ∙ ap (sets (bits_of room) at) (sym z);
    }

-- a room stays as long as it was
put_size : (room room' : Bytes) (at : ℕ) (bs : List ℕ) → bits_of room' ≡ sets (bits_of room) at bs →
    length room' ≡ length room
put_size room room' at bs e =
    let a = bits_length room in
    let b = bits_length room' in
    let c = ap length e ∙ length-sets (bits_of room) at bs in
    omega arith

-- fields `all` are put at `at₀`; those in `fs` are left, at `at`
pub record Left (room₀ : Bytes) (at₀ : ℕ) (all : List Field) (room : Bytes) (at : ℕ) (fs : List Field) : Type 0 where
  pub fits : Fits room at fs
  pub size : length room ≡ length room₀
  pub place : at + length (all_bits fs) ≡ at₀ + length (all_bits all)
  pub bits : sets (bits_of room) at (all_bits fs) ≡ sets (bits_of room₀) at₀ (all_bits all)

module _ {room₀ : Bytes} {at₀ : ℕ} {all : List Field} where
  -- all are left at the start, and none at the end
  pub left_start : Fits room₀ at₀ all → Left room₀ at₀ all room₀ at₀ all
  left_start h = record { fits = h; size = refl; place = refl; bits = refl }

  pub left_done : {room : Bytes} {at : ℕ} → Left room₀ at₀ all room at [] → Put room₀ at₀ all at room
  unfolding all_bits
  left_done l = record { place = let p = l.place in omega arith; bits = l.bits }

  -- there is room for the first of them, and when they are put, the others are left
  module _ {room : Bytes} {at : ℕ} (fs gs : List Field) (l : Left room₀ at₀ all room at (fs ++ gs)) where
    pub left_first : Fits room at fs
    left_first =
        let a = length_fields fs gs in
        let f = l.fits in
        record { here = omega arith; near = omega arith }

    pub left_then : {r : ℕ} {room' : Bytes} → Put room at fs r room' → Left room₀ at₀ all room' r gs
    left_then {r} {room'} p =
        let a = length_fields fs gs in
        let b = put_size room room' at (all_bits fs) p.bits in
        let f = l.fits in
        let q = p.place in
        let o = l.place in
        record {
          fits = record { here = omega arith; near = omega arith };
          size = b ∙ l.size;
          place = omega arith;
          bits =
              ap (λ x. sets x r (all_bits gs)) p.bits
              ∙ ap (λ (k : ℕ). sets (sets (bits_of room) at (all_bits fs)) k (all_bits gs)) q
              ∙ sets_append (bits_of room) at (all_bits fs) (all_bits gs)
              ∙ ap (sets (bits_of room) at) (sym (bits_append_fields fs gs))
              ∙ l.bits;
        }

  -- one field: there is room for it at the cursor, and what the cursor put leaves the others
  module _ {room : Bytes} {at w v : ℕ} {gs : List Field}
      (l : Left room₀ at₀ all room at (record { width = w; value = v } ∷ gs)) where
    pub field_room : w ≤ 16 → Room room at w
    field_room h =
        let a = length_field (record { width = w; value = v }) gs in
        let f = l.fits in
        (omega arith, (omega arith, h))

    pub field_then :
        (x r : ℕ) (room' : Bytes) → x ≡ v → (bits_of room' ≡ paste (bits_of room) at (bits_n w x) w) × (r ≡ at + w) →
        Left room₀ at₀ all room' r gs
    field_then x r room' e p =
        let a = length_field (record { width = w; value = v }) gs in
        let f = l.fits in
        left_then (record { width = w; value = v } ∷ []) gs l
        (put_field room room' at w v r (omega arith)
        (p.0 ∙ ap (λ (k : ℕ). paste (bits_of room) at (bits_n w k) w) e) p.1)
