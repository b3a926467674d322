use Rattle.std.proofs.Common.{◌<◌, length, length-set, arith, rules, tests}
use Rattle.std.proofs.lemmas.Iterator.{YieldsList, YieldsList-from_slice}
use Rattle.std.proofs.lemmas.Iterator.Consumers.{YieldsList-at, YieldsList-from_filter, YieldsList-from_enumerate, YieldsList-turn, YieldsList-end}
use Rattle.model.specs.Nodes.{is_leaf}
use Rattle.draft.proofs.Named.{name_test}
use Rattle.verdict.proofs.Filling.{placed, Turn, leaf_turn, names_more, names_all}
use Rattle.verdict.proofs.fill_slot_names.Given.{iterator-loop-slot}
use Rattle.verdict.proofs.fill_slot_names.Goals as goal
use Rattle.verdict.proofs.fill_slot_names.Goals.{After-into_iter-slot-iterator}

-- what the chain yields
road : (c : After-into_iter-slot-iterator) →
    YieldsList iterator-loop-slot.next_gives (λ p. (p.0, p.1.now)) c.into_iter-slot-iterator.result (placed c.nodes.result.now)
road c =
    YieldsList-at c.into_iter-slot-iterator.ensures.into_iter_gives
    (YieldsList-from_enumerate
    (YieldsList-at c.enumerate-slot-items.ensures.source
    (YieldsList-from_filter _ is_leaf (YieldsList-from_slice c.nodes.result.now cc) c.filter-leaves.ensures.closure
    (λ x r q k. search (rules, tests, name_test)))) (cc))

turn : (c : goal.After-from) → Turn c.args.draft.now (length c.loop-slot.yielded) c.in-Some.slot c.from.result
turn c =
    leaf_turn c.args.draft.now c.nodes.result.now _ _ _ c.in-Some.leaf.now c.nodes.ensures.nodes c.from.ensures
    (YieldsList-turn (road (goal.at.bounds-names-slot c).After-into_iter-slot-iterator) c.loop-slot.yielded _ c.loop-slot.yielded_by
    _ _ (c.in-Some.slot, c.in-Some.leaf) c.in-Some.is c.next.ensures.steps)

pub bounds-names-slot : goal.bounds-names-slot
bounds-names-slot c = omega (arith, (turn c).0, (turn c).1, c.requires)

pub loop-slot-preserved : goal.loop-slot-preserved
loop-slot-preserved c =
    let l = c.loop-slot in
    let s : c.in-Some.slot < length l.names = omega (arith, (turn c).0, (turn c).1, c.requires, l.invariant.room) in
    record {
      room = simp length-set l.invariant.room;
      filled = names_more c.args.draft.now l.names l.yielded _ c.in-Some.slot c.from.result l.invariant.filled s (turn c);
    }

pub returns : goal.returns
returns c =
    let end = YieldsList-end (road (goal.at.returns c).After-into_iter-slot-iterator) c.loop-slot.yielded _ c.loop-slot.yielded_by
    _ _ c.in-None.is c.next.ensures.steps in
    record {
      answer = names_all c.args.draft.now _ c.loop-slot.names _ c.nodes.ensures.nodes end.1 c.loop-slot.invariant.filled;
    }
