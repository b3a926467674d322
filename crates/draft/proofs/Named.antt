-- The nodes that are names, and their name numbers. Assumes nothing.
use Rattle.std.proofs.Common.{Bool, cond, List, [], ◌∷◌, ◌≡◌, ℕ, map, refl, ap, ◌∙◌}
use Rattle.std.specs.Prelude.{filter}
use denote.Enum.Bare.{sameb}
use Rattle.model.specs.Nodes.{is_name, is_leaf}
use Rattle.model.specs.contracts.Kind.{the_type}
use Rattle.model.specs.declared.Kind.{Kind}
use Rattle.model.specs.declared.Kind.TheVariants.{Name, Sequence, Choice}
use Rattle.model.specs.declared.Node.{Node}
use Rattle.table.specs.Inner.Tests.{leaves_of, number_cons}

-- the derived test of a kind is the definition's
pub name_test : (k : Kind) (b : Bool) → b ≡ sameb the_type k Name → b ≡ is_name k
name_test Name b e = e
name_test Sequence b e = e
name_test Choice b e = e

-- the name numbers of nodes are the values of those that are names
abbrev pub value : Node → ℕ
value n = n.value

number_step : (n : Node) (b : Bool) (ns : List Node) → b ≡ is_leaf n →
    number_cons n.kind n.value (map value ns) ≡ map value (cond b (n ∷ ns) ns)
number_step n b ns e = rw e (by_kind n.kind)
  where
    by_kind : (k : Kind) → number_cons k n.value (map value ns) ≡ map value (cond (is_name k) (n ∷ ns) ns)
    by_kind Name = refl
    by_kind Sequence = refl
    by_kind Choice = refl

pub leaf_values : (ns : List Node) → leaves_of ns ≡ map value (filter is_leaf ns)
unfolding leaves_of
leaf_values [] = refl
leaf_values (n ∷ ns) = ap (number_cons n.kind n.value) (leaf_values ns) ∙ number_step n (is_leaf n) (filter is_leaf ns) refl
