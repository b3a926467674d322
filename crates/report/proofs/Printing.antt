-- What the lines that are put say. Assumes nothing.
use Rattle.std.proofs.Common.{◌≡◌, ◌+◌, ◌-◌, ◌≤◌, ◌++◌, ℕ, suc, List, [], ◌∷◌, length, get_or, take, drop, Bor, sym, ap, ap₂, subst, ◌∙◌, arith}
use Rattle.std.specs.Prelude.{Ok, codes, None, ◌==◌, min}
use Rattle.std.specs.List.{position_or_len}
use Rattle.std.proofs.lemmas.List.{take_all, drop_min, length-drop}
use Rattle.std.proofs.lemmas.List.Sums.{position_or_len_is}
use Rattle.std.proofs.lemmas.Bool.Decides.{nat_tests}
use Rattle.model.specs.Limits.{table_room, text_limit, name_limit, slot_room}
use Rattle.model.specs.declared.Refusal.{Refusal}
use Rattle.model.specs.declared.Slot.{Slot}
use Rattle.meaning.specs.Trees.{Tree}
use Rattle.names.specs.Bytes.{Bytes}
use Rattle.names.specs.Names.{Name}
use Rattle.children.proofs.Main.{words_unique, words_not_refused}
use Rattle.grammar.specs.Faults as Grammar
use Rattle.table.specs.Models.{Loads}
use Rattle.table.proofs.Main.{loads_unique}
use Rattle.reading.specs.Reads.{ReadRefused, fault_1, fault_2, of_text as text_fault}
use Rattle.matching.specs.Passed.{Passed}
use Rattle.matching.specs.Matches.{Answers, Placed, MatchRefused, by_model, by_room, by_children}
use Rattle.matching.specs.declared.Matched.{Matched}
use Rattle.matching.specs.declared.Matched.TheVariants.{Allowed, Stopped, Short}
use Rattle.matching.proofs.Unique.{answers_unique}
use Rattle.matching.specs.declared.Part.{Part}
use Rattle.matching.specs.Parts.{PartWhere, PartAnswer, Is, stopped, short, short_at_start, allowed, bad_children}
use Rattle.matching.specs.Parts
use Rattle.meaning.specs.Clashes.{FirstClash}
use Rattle.meaning.proofs.Clashes.{next_goes, goes_within, clash_correct}
use Rattle.naming.specs.SlotNames.{HasSlot}
use Rattle.verdict.specs.declared.Verdict.{Verdict}
use Rattle.verdict.specs.Verdicts.{VerdictOn}
use Rattle.table.specs.Models.{counts}
use Rattle.model.specs.declared.Counts.{Counts}
use Rattle.writer.specs.Answers.{CountAnswer}
use Rattle.model.specs.Refusals.{number_of, place_of}
use Rattle.report.specs.LineEnd.{LineEnd}
use Rattle.report.specs.Lines.{line, model_line, matched_line, children_line}
use Rattle.report.specs.Prints.{Adds, TextRefused, too_long, of_text, PrintsChildren, refused, matched, PrintsVerdict, PrintsModel, model, Prints, unread, printed, model_text, child_text}
use Rattle.children.proofs.Placing.{words_names}
use Rattle.names.proofs.Each.{each_at}
use Rattle.matching.proofs.Passing.{passed_unique, passed_free}

-- lines that are put
pub adds : {Line : Bytes → Type 0} {old new : Bytes} (more : Bytes) → Line more → new ≡ old ++ more → Adds Line old new
adds more says added = record { more = more; says = says; added = added }

-- a text that is refused, where there is room
pub text_refused : {text room : Bytes} {f : Refusal} → table_room ≤ length room → ReadRefused text room f → TextRefused text f
text_refused w (fault_1 h) = too_long h
text_refused w (fault_2 h l) = absurd (omega arith)
text_refused w (text_fault a r) = of_text a.short r

-- the first line, and those that follow
pub model_prints :
    {text children old first all : Bytes} {c : Counts} (t : Tree Bytes) (rest : Bytes) → length text ≤ text_limit →
    Grammar.Reads text t → c ≡ counts t → old ≡ [] → first ≡ old ++ model_line c → all ≡ first ++ rest →
    PrintsVerdict t children rest → PrintsModel text children all
model_prints {text} {children} t rest l r n o f a v =
    subst (PrintsModel text children)
    (sym (a ∙ ap (λ z. z ++ rest) (f ∙ ap₂ (λ y z. y ++ model_line z) o n)))
    (model l r v)

-- the verdict on the model that a table is of
pub verdict_at :
    {s : Bytes} {v w : Verdict} (t : Tree Bytes) → Loads s t → v ≡ w → (u : Tree Bytes) × Loads s u × VerdictOn u v →
    VerdictOn t w
verdict_at {w = w} t l e j =
    subst (λ u. VerdictOn u w) (loads_unique _ j.0 t j.1 l) (subst (VerdictOn j.0) e j.2)

-- the counts of the model that a table is of
pub counted_at : {s : Bytes} {c : Counts} (t : Tree Bytes) → Loads s t → CountAnswer s (Ok c) → c ≡ counts t
counted_at t l a =
    ap (λ f. record { nodes = f.a; slots = f.b; names = f.c }) a.2 ∙ ap counts (loads_unique _ a.0 t a.1 l)

-- x is a slot
pub clash_slot : {p x y : ℕ} (t : Tree Bytes) → FirstClash t p x y → HasSlot t x
clash_slot {p} {x} {y} t f =
    let g = goes_within t p x ((next_goes t p x).0 ((clash_correct t p x y).0 f.clash).0) in
    (g.0, omega (arith, g.1))

-- the answer that was found
pub placed_at :
    {table children before after : Bytes} {m k : Matched} → m ≡ k → Placed table children before m after →
    Placed table children before k after
placed_at {table} {children} {before} {after} e p = subst (λ m. Placed table children before m after) e p

module _ {table children : Bytes} (t : Tree Bytes) (h : Passed table t) where
  -- what matching answers is what is said
  pub matched_prints : {before after : Bytes} (m : Matched) (p : Placed table children before m after) →
      PrintsChildren t children (matched_line p.answers.names m)
  matched_prints m p =
      let a = p.answers in
      subst (λ u. PrintsChildren u children (matched_line a.names m)) (passed_unique table a.model t a.passed h)
      (matched m p.slots a.short a.words a.says)

  pub refused_prints : {room : ℕ} {f : Refusal} → slot_room ≤ room → MatchRefused table children room f →
      PrintsChildren t children (children_line f)
  refused_prints w (by_model n) = absurd (passed_free table t h n)
  refused_prints w (by_room u p l) = absurd (omega arith)
  refused_prints w (by_children u p l r) = refused r

-- the child that stopped
abbrev child_of : Matched → ℕ
child_of (Allowed n) = 0
child_of (Stopped k s) = suc k
child_of (Short n s) = 0

module _ (table children : Bor (List ℕ)) (r : Bor (List ℕ)) (k : ℕ) (s : Slot) (u : List ℕ)
    (m : Answers table.now children.now (Stopped k s) u) where
  same_child : (q : Matched) (v : List ℕ) → Answers table.now children.now q v → suc k ≡ child_of q
  same_child q v n = ap child_of (answers_unique table.now children.now (Stopped k s) q u v m n).0

  named_by : (p : Part) → PartWhere table.now children.now p → Is p table children r → r.now ≡ get_or m.names (k - 1) []
  named_by p (Parts.refused n) i = absurd (passed_free table.now m.model m.passed n)
  named_by p (bad_children t h n) i = absurd (words_not_refused children.now m.names m.short m.words n)
  named_by p (allowed {n} {u = v} a) i = let e = same_child (Allowed n) v a in absurd (omega arith)
  named_by p (short_at_start {n} {s = x} {u = v} a z) i = let e = same_child (Short n x) v a in absurd (omega arith)
  named_by p (short {n} {s = x} {u = v} a z e) i = let e = same_child (Short n x) v a in absurd (omega arith)
  named_by p (stopped {k = j} {s = x} {u = v} n c) i =
      let f = same_child (Stopped j x) v n in
      let g : j ≡ k = omega arith in
      i.bytes ∙ c.here ∙ ap (λ z. get_or n.names (z - 1) []) g
      ∙ ap (λ ws. get_or ws (k - 1) []) (words_unique children.now n.names m.names n.words m.words)

  -- the name part is its name
  pub stopped_name : PartAnswer table children r → r.now ≡ get_or m.names (k - 1) []
  stopped_name h = named_by h.place h.says h.is

  -- which is short
  pub stopped_short : length (get_or m.names (k - 1) []) ≤ name_limit
  stopped_short =
      (each_at Name m.names (k - 1) [] (words_names m.words) (omega (arith, m.says.0.0, m.says.0.1))).short

-- ---- all that is printed
pub refused_page :
    (input : Bytes) {text page all children : Bytes} {f : Refusal} {n q : ℕ} → text ≡ model_text input → TextRefused text f →
    page ≡ [] → n ≡ number_of f → q ≡ place_of f → all ≡ page ++ line (codes "refused") (n ∷ q ∷ []) None →
    Prints (model_text input) children all
refused_page input {children = children} {f = f} e r p n q a =
    subst (Prints (model_text input) children)
    (sym (a ∙ ap₂ (λ y z. y ++ line (codes "refused") z None) p (ap₂ (λ y z. y ∷ z ∷ []) n q)))
    (unread (subst (λ z. TextRefused z f) e r))

pub model_page :
    (input : Bytes) {text children page : Bytes} → text ≡ model_text input → children ≡ child_text input →
    PrintsModel text children page → Prints (model_text input) (child_text input) page
model_page input {text} {page = page} e f m =
    printed (subst (λ z. PrintsModel z (child_text input) page) e (subst (λ z. PrintsModel text z page) f m))

-- ---- the first line feed
pub line_end_is : {s : Bytes} {r : ℕ} → LineEnd s r → position_or_len (λ b. b == 10) s ≡ r
line_end_is {s} {r} e =
    position_or_len_is (λ b. b == 10) s r 0 e.within (λ i h. let n = e.first i h in grind (arith, nat_tests))
    (λ h. let f = e.feed h in grind (arith, nat_tests))

-- what stands before it, and behind it
pub before_it : {s : Bytes} {r : ℕ} → LineEnd s r → take r s ≡ model_text s
before_it {s} e = ap (λ i. take i s) (sym (line_end_is e))

pub behind_it : {s : Bytes} {r next : ℕ} → LineEnd s r → next ≡ min (r + 1) (length s) →
    take (length s - next) (drop next s) ≡ child_text s
behind_it {s} {r} {next} e m =
    take_all _ (drop next s) (let l = length-drop next s in omega arith)
    ∙ ap (λ i. drop i s) m
    ∙ drop_min (r + 1) s
    ∙ ap (λ i. drop (i + 1) s) (sym (line_end_is e))
