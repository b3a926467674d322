-- Two answers that say the same: drafts of one model, or one refusal; made from one source, or from equal bytes. Assumes nothing.
use mathlib.Core.Path.{◌≡◌, sym, ap, ◌∙◌}
use Rattle.std.specs.Prelude.{Result, Ok, Err}
use Rattle.model.specs.declared.Refusal.{Refusal}
use Rattle.meaning.specs.Trees.{Tree}
use Rattle.names.specs.Bytes.{Bytes}
use Rattle.table.specs.Encoding.{names, numbers}
use Rattle.table.specs.Models.{counts}
use Rattle.table.specs.Inner.Draft.{preorder}
use Rattle.draft.specs.Drafts.{nodes_of, names_of, Holds}
use Rattle.draft.specs.declared.Draft.{Draft}

-- what is used of two drafts is the same
pub record SameDraft (d e : Draft) : Type 0 where
  pub source : d.source ≡ e.source
  pub nodes : nodes_of d ≡ nodes_of e
  pub names_are : names_of d ≡ names_of e
  pub same_slots : d.slots ≡ e.slots

-- such drafts, or the same refusal
abbrev pub SameAnswer : Result Draft Refusal → Result Draft Refusal → Type 0
SameAnswer (Ok d) (Ok e) = SameDraft d e
SameAnswer (Ok d) (Err g) = ⊥
SameAnswer (Err f) (Ok e) = ⊥
SameAnswer (Err f) (Err g) = f ≡ g

-- drafts of one model, made from one source
pub same_model : (d e : Draft) (t u : Tree Bytes) → Holds d t → Holds e u → t ≡ u → d.source ≡ e.source → SameDraft d e
same_model d e t u a b q s = record {
  source = s;
  nodes = a.nodes_are ∙ ap (λ t. preorder (numbers t)) q ∙ sym b.nodes_are;
  names_are = a.names_are ∙ ap names q ∙ sym b.names_are;
  same_slots = ap (λ c. c.slots) (a.counts_are ∙ ap counts q ∙ sym b.counts_are);
}

-- what is said of the model is the same, wherever the bytes lie that the drafts are made from
pub record SameModel (d e : Draft) : Type 0 where
  pub nodes : nodes_of d ≡ nodes_of e
  pub names_are : names_of d ≡ names_of e
  pub same_slots : d.slots ≡ e.slots

-- such drafts, or the same refusal
abbrev pub SaysSame : Result Draft Refusal → Result Draft Refusal → Type 0
SaysSame (Ok d) (Ok e) = SameModel d e
SaysSame (Ok d) (Err g) = ⊥
SaysSame (Err f) (Ok e) = ⊥
SaysSame (Err f) (Err g) = f ≡ g

-- drafts of one model
pub one_model : (d e : Draft) (t u : Tree Bytes) → Holds d t → Holds e u → t ≡ u → SameModel d e
one_model d e t u a b q = record {
  nodes = a.nodes_are ∙ ap (λ t. preorder (numbers t)) q ∙ sym b.nodes_are;
  names_are = a.names_are ∙ ap names q ∙ sym b.names_are;
  same_slots = ap (λ c. c.slots) (a.counts_are ∙ ap counts q ∙ sym b.counts_are);
}
