-- From a draft that was loaded and surveyed to a model made ready. Assumes nothing.
use mathlib.Core.Bool.{true, false, false≢true}
use mathlib.Core.List.{List}
use mathlib.Core.Path.{◌≡◌, refl, sym, ap, ap₂, ◌∙◌}
use Prim.Native.Nat.{ℕ, zero, suc}
use lib.ListN.{take}
use denote.Ref.{Bor}
use Rattle.std.specs.Prelude.{Result, Ok, Err}
use Rattle.std.specs.Result.{is_err}
use Rattle.model.specs.declared.Refusal.{Refusal}
use Rattle.meaning.specs.Trees.{Tree}
use Rattle.meaning.specs.Inner.Expressions.{slotted, next, ends}
use Rattle.names.specs.Bytes.{Bytes}
use Rattle.slotset.specs.declared.Follow.{Follow}
use Rattle.table.specs.Encoding.{numbers}
use Rattle.table.specs.Inner.Tests.{leaves_of}
use Rattle.table.proofs.Folds.{leaves_nodes}
use Rattle.draft.specs.Drafts.{nodes_of, IsModel}
use Rattle.draft.specs.declared.Draft.{Draft}
use Rattle.loader.specs.Answers.{Loaded}
use Rattle.survey.specs.Inner.Finding.{Surveyed}
use Rattle.survey.specs.declared.Survey.{Survey}
use Rattle.verdict.specs.Inner.Search.{can, numbers_of}
use Rattle.verdict.proofs.Weighing.{model_few}
use Rattle.matching.specs.Passed.{Passed, NotPassed}
use Rattle.matching.specs.Inner.Memory.{stop, Known, Ready, PrepareAnswer}
use Rattle.matching.specs.declared.Prepared.{Prepared}

pub loaded_model : (table : Bor (List ℕ)) (d : Draft) (t : Tree Bytes) → Loaded table d t → IsModel d t
loaded_model table d t l = record { lawful = l.loads.lawful; holds = l.holds }

module _ (t : Tree Bytes) (r : Survey) (q : Follow) (s : Surveyed t r q) where
  nexts : (p x : ℕ) → can r.first q p x ≡ next (slotted t) p x
  nexts zero x = s.first_correct x
  nexts (suc p) x = s.follow_correct (suc p) x

  stops : (x : ℕ) → stop r.empty r.last x ≡ ends (slotted t) x
  stops zero = s.empty_correct
  stops (suc x) = s.last_correct (suc x)

-- what is surveyed of the draft, and kept
pub made_known :
    (t : Tree Bytes) (p : Prepared) (r : Survey) → IsModel p.draft t → Surveyed t r p.follow → p.first ≡ r.first →
    p.last ≡ r.last → p.empty ≡ r.empty → numbers_of (take p.draft.slots p.names) ≡ leaves_of (nodes_of p.draft) →
    Known t p
made_known t p r m s f l e n = record {
  holds = m.holds;
  names_are = n ∙ ap leaves_of m.holds.nodes_are ∙ leaves_nodes (numbers t);
  nexts = λ q x. ap (λ z. can z p.follow q x) f ∙ nexts t r p.follow s q x;
  stops = λ x. ap₂ (λ z w. stop z w x) e l ∙ stops t r p.follow s x;
  few = model_few p.draft t m;
}

-- ---- a model that is ready is passed
pub ready_passed : (table : Bor (List ℕ)) (p : Prepared) (m : Ready table p) → Passed table.now m.model
ready_passed table p m = record { loads = m.loaded.loads; clear = m.clear }

pub is_ready : (table : Bor (List ℕ)) (p : Prepared) (r : Result (Unit {0}) Refusal) → PrepareAnswer table p r →
    false ≡ is_err r → Ready table p
is_ready table p (Ok u) h e = h
is_ready table p (Err f) h e = absurd (false≢true e)

pub not_ready : (table : Bor (List ℕ)) (p : Prepared) (r : Result (Unit {0}) Refusal) → PrepareAnswer table p r →
    true ≡ is_err r → (f : Refusal) × (r ≡ Err f) × NotPassed table.now f
not_ready table p (Ok u) h e = absurd (false≢true (sym e))
not_ready table p (Err f) h e = (f, refl, h)
