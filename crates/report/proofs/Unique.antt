-- What users rely on: any two outputs that an input permits are the same, and a text has one first line. Assumes nothing.
use Rattle.std.proofs.Common.{◌≡◌, ℕ, ◌≤◌, ◌++◌, length, Bool, true, false, refl, sym, ap, subst, ◌∙◌, arith}
use mathlib.Core.Bool.{true≢false}
use Rattle.model.specs.Limits.{text_limit}
use Rattle.model.specs.declared.Clash.{Clash}
use Rattle.model.specs.declared.Refusal.{Refusal}
use Rattle.meaning.specs.Trees.{Tree}
use Rattle.meaning.specs.Clashes as Meaning
use Rattle.meaning.specs.Slots.{named}
use Rattle.names.specs.Bytes.{Bytes}
use Rattle.children.proofs.Main.{words_unique, refused_unique, words_not_refused}
use Rattle.grammar.proofs.Main.{reads_unique, reads_not_refused}
use Rattle.grammar.specs.Faults as Grammar
use Rattle.grammar.proofs.Main.{refused_unique as text_refused_unique}
use Rattle.table.specs.Models.{counts}
use Rattle.verdict.specs.declared.Verdict.{Verdict}
use Rattle.verdict.specs.declared.Verdict.TheVariants.{Deterministic, Ambiguous}
use Rattle.verdict.proofs.Main.{verdict_unique}
use Rattle.matching.specs.Matches.{Says}
use Rattle.matching.proofs.Unique.{says_unique}
use Rattle.report.specs.LineEnd.{LineEnd}
use Rattle.report.specs.Lines.{model_line, ambiguous_line, deterministic_line, matched_line, children_line, refused_line}
use Rattle.report.proofs.Printing.{line_end_is}
use Rattle.report.specs.Prints.{TextRefused, too_long, of_text, PrintsChildren, refused, matched, PrintsVerdict, ambiguous, deterministic, model, Prints, unread, printed}

text_unique : {text : Bytes} {f g : Refusal} → TextRefused text f → TextRefused text g → f ≡ g
text_unique (too_long h) (too_long k) = refl
text_unique (too_long h) (of_text k r) = absurd (omega arith)
text_unique (of_text h r) (too_long k) = absurd (omega arith)
text_unique (of_text h r) (of_text k s) = text_refused_unique r s

read_or_refused : {text : Bytes} {t : Tree Bytes} {f : Refusal} → Grammar.Reads text t → TextRefused text f →
    length text ≤ text_limit → ⊥
read_or_refused p (too_long h) l = omega arith
read_or_refused p (of_text h r) l = reads_not_refused p r

-- the lines of a verdict, but for what follows `deterministic`
second : Tree Bytes → Verdict → Bytes
second t Deterministic = deterministic_line
second t (Ambiguous c) = ambiguous_line c (named t c.x.0)

is_clear : Verdict → Bool
is_clear Deterministic = true
is_clear (Ambiguous c) = false

not_both : {c : Clash} → Ambiguous c ≡ Deterministic → ⊥
unfolding is_clear
not_both e = true≢false (sym (ap is_clear e))

module _ (t : Tree Bytes) (children : Bytes) where
  children_unique : (a b : Bytes) → ¬ Meaning.Ambiguous t → PrintsChildren t children a →
      PrintsChildren t children b → a ≡ b
  children_unique a b clear (refused r) (refused s) = ap children_line (refused_unique children r s)
  children_unique a b clear (refused r) (matched m {ws} u l w s) = absurd (words_not_refused children ws l w r)
  children_unique a b clear (matched m {ws} u l w s) (refused r) = absurd (words_not_refused children ws l w r)
  children_unique a b clear (matched m {ws} u l w s) (matched k {ws = vs} v n x z) =
      let e = words_unique children vs ws x w in
      ap (matched_line ws) (says_unique t clear ws m k u v s (subst (λ y. Says t y k v) e z)).0
      ∙ ap (λ y. matched_line y k) (sym e)

  verdict_lines_unique : (a b : Bytes) → PrintsVerdict t children a → PrintsVerdict t children b → a ≡ b
  unfolding second
  verdict_lines_unique a b (ambiguous {c} f) (ambiguous {c = d} g) =
      ap (second t) (verdict_unique t (Ambiguous c) (Ambiguous d) f g)
  verdict_lines_unique a b (ambiguous {c} f) (deterministic n p) =
      absurd (not_both (verdict_unique t (Ambiguous c) Deterministic f n))
  verdict_lines_unique a b (deterministic n p) (ambiguous {c} f) =
      absurd (not_both (verdict_unique t (Ambiguous c) Deterministic f n))
  verdict_lines_unique a b (deterministic {third} n p) (deterministic {third = other} m q) =
      ap (λ y. deterministic_line ++ y) (children_unique third other n p q)

pub prints_unique : (text children a b : Bytes) → Prints text children a → Prints text children b → a ≡ b
prints_unique text children a b (unread r) (unread s) = ap refused_line (text_unique r s)
prints_unique text children a b (unread r) (printed (model l p v)) = absurd (read_or_refused p r l)
prints_unique text children a b (printed (model l p v)) (unread r) = absurd (read_or_refused p r l)
prints_unique text children a b (printed (model {t} {rest} l p v)) (printed (model {t = u} {rest = other} m q w)) =
    let e = reads_unique q p in
    ap (λ y. model_line (counts t) ++ y)
    (verdict_lines_unique t children rest other v (subst (λ z. PrintsVerdict z children other) e w))
    ∙ ap (λ z. model_line (counts z) ++ other) (sym e)

pub line_end_unique : (text : Bytes) (r q : ℕ) → LineEnd text r → LineEnd text q → r ≡ q
line_end_unique text r q h k = sym (line_end_is h) ∙ line_end_is k
