use Rattle.std.proofs.Common.{◌≡◌, ◌-◌, ◌≤◌, ◌<◌, ◌++◌, ◌∙◌, ap, ap₂, sym, refl, subst, ℕ, zero, suc, List, [], ◌∷◌, length, get_or, take, drop, length-drop, take-append-drop, arith}
use Rattle.std.specs.Int.{w64, from_le_bytes}
use Rattle.std.proofs.lemmas.Nat.{le_bytes_8}
use Rattle.names.proofs.same.Goals as goal

abbrev Bytes256 : List ℕ → Type 0
Bytes256 s = (k : ℕ) → get_or s k 0 < 256

small_take : (n : ℕ) (s : List ℕ) → Bytes256 s → Bytes256 (take n s)
small_take zero s f k = omega arith
small_take (suc n) [] f k = omega arith
small_take (suc n) (b ∷ s) f zero = f zero
small_take (suc n) (b ∷ s) f (suc k) = small_take n s (λ j. f (suc j)) k

small_drop : (n : ℕ) (s : List ℕ) → Bytes256 s → Bytes256 (drop n s)
small_drop zero s f k = f k
small_drop (suc n) [] f k = f k
small_drop (suc n) (b ∷ s) f k = small_drop n s (λ j. f (suc j)) k

-- eight bytes are told by their number
word_same : (x y : List ℕ) → length x ≡ 8 → length y ≡ 8 → Bytes256 x → Bytes256 y → from_le_bytes w64 x ≡ from_le_bytes w64 y →
    x ≡ y
word_same x y l m f g e = sym (le_bytes_8 x _ l f refl) ∙ le_bytes_8 y _ m g e

-- lists with the same last eight are the same exactly when what stands before is
module _ (a b : List ℕ) (n : ℕ) (x y u v : List ℕ) (p : x ≡ take n a) (q : y ≡ drop n a) (r : u ≡ take n b) (s : v ≡ drop n b)
    (e : y ≡ v) where
  same_whole : x ≡ u → a ≡ b
  same_whole f =
      sym (take-append-drop n a) ∙ ap₂ (λ i j. i ++ j) (sym p ∙ f ∙ r) (sym q ∙ e ∙ s) ∙ take-append-drop n b

  same_front : a ≡ b → x ≡ u
  same_front f = p ∙ ap (take n) f ∙ sym r

pub loop-front-preserved : goal.loop-front-preserved
loop-front-preserved c =
    let i = c.loop-front.invariant in
    let left = c.loop-front.left.now in
    let other = c.loop-front.other.now in
    let p = c.in-Some-Some in
    let x = p.ensures.cases in
    let y = p.ensures'.cases in
    let n : ℕ = length left - 8 in
    let z : length other - 8 ≡ n = omega (arith, i.sizes) in
    let more : 8 ≤ length left = omega (arith, x.2) in
    let front = y.0 ∙ ap (λ k. take k other) z in
    let back = y.1 ∙ ap (λ k. drop k other) z in
    let size : length p.word.now ≡ 8 = ap length x.1 ∙ length-drop n left ∙ omega (arith, more) in
    let other_size : length p.other_word.now ≡ 8 = ap length back ∙ length-drop n other ∙ omega (arith, more, i.sizes) in
    let words = word_same p.word.now p.other_word.now size other_size
    (subst Bytes256 (sym x.1) (small_drop n left i.bytes)) (subst Bytes256 (sym back) (small_drop n other i.other_bytes))
    (sym c.from_le_bytes.ensures ∙ c.if-from_le_bytes.false ∙ c.from_le_bytes-in-Some-Some.ensures) in
    let whole = same_whole left other n _ _ _ _ x.0 x.1 front back words in
    let part = same_front left other n _ _ _ _ x.0 x.1 front back words in
    record {
      sizes = omega (arith, x.2, y.2, i.sizes);
      bytes = subst Bytes256 (sym x.0) (small_take n left i.bytes);
      other_bytes = subst Bytes256 (sym front) (small_take n other i.other_bytes);
      same = (λ h. i.same.0 (whole h), λ h. part (i.same.1 h));
    }
