-- The nodes that are names, and the i-th of them. Assumes nothing.
use Rattle.std.proofs.Common.{ap, ◌∙◌, rules, tests}
use Rattle.std.specs.Prelude.{filter, slice_get}
use Rattle.std.proofs.lemmas.Iterator.{YieldsList-from_slice}
use Rattle.std.proofs.lemmas.Iterator.Consumers.{nth_from_yields_List, YieldsList-from_filter}
use Rattle.model.specs.Nodes.{is_leaf}
use Rattle.draft.proofs.Named.{name_test}
use Rattle.naming.proofs.nth_leaf.Goals as goal

pub returns : goal.returns
returns c =
    c.copied.ensures
    ∙ nth_from_yields_List c.nth.result _ c.args.i c.nth.ensures.ran
    (YieldsList-from_filter _ is_leaf (YieldsList-from_slice c.nodes.result.now cc) c.filter.ensures.closure
    (λ x r q k. search (rules, tests, name_test)))
    ∙ ap (λ l. slice_get (filter is_leaf l) c.args.i) c.nodes.ensures.nodes
