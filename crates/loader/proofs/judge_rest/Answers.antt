-- The last tests are passed, or the first that is not is the refusal. Assumes nothing.
use Rattle.std.proofs.Common.{arith, ◌≡◌, ◌∙◌, sym, true, false, [], length}
use Rattle.table.specs.Inner.Tests.{leaves_of, ordered, nests, large}
use Rattle.draft.specs.Drafts.{nodes_of}
use Rattle.loader.proofs.Rest.{slots, below, bad_order, is_large, is_long, passes, large_slots, large_deep, large_no}
use Rattle.loader.proofs.judge_rest.Goals as goal
use Rattle.loader.proofs.judge_rest.Goals.{then-draft-gt-SLOTS-via-then-draft-gt-SLOTS, then-draft-gt-SLOTS-via-else-draft-gt-SLOTS+then-not-is_nested}

pub returns-then-not-in_order : goal.returns-then-not-in_order
returns-then-not-in_order c =
    let d = c.args.draft.now in
    bad_order d.source.now d c.requires (sym (rw (c.len.ensures.value, c.nodes-nodes.ensures.nodes) at c.in_order.ensures) ∙ c.if-not-in_order.true)

pub returns-then-draft-gt-SLOTS : goal.returns-then-draft-gt-SLOTS
returns-then-draft-gt-SLOTS c =
    let d = c.args.draft.now in
    let o : ordered (length d.names.items) 0 (leaves_of (nodes_of d)) ≡ true =
    sym (rw (c.len.ensures.value, c.nodes-nodes.ensures.nodes) at c.in_order.ensures) ∙ c.if-not-in_order.false in
    let l = slots d.source.now d c.requires in
    elim c.then-draft-gt-SLOTS.branch [
      | then-draft-gt-SLOTS-via-then-draft-gt-SLOTS w ↦
          is_large d.source.now d c.requires o (large_slots (nodes_of d) (omega arith))
      | then-draft-gt-SLOTS-via-else-draft-gt-SLOTS+then-not-is_nested w ↦
          is_large d.source.now d c.requires o
          (large_deep (nodes_of d) (sym (rw c.nodes-nodes.ensures.nodes at w.is_nested.ensures) ∙ w.if-not-is_nested.true))
    ]

pub text_length-requires : goal.text_length-requires
text_length-requires c = let d = c.args.draft.now in below d.source.now d c.requires

pub returns-then-text_length-gt-TEXT : goal.returns-then-text_length-gt-TEXT
returns-then-text_length-gt-TEXT c =
    let d = c.args.draft.now in
    let o : ordered (length d.names.items) 0 (leaves_of (nodes_of d)) ≡ true =
    sym (rw (c.len.ensures.value, c.nodes-nodes.ensures.nodes) at c.in_order.ensures) ∙ c.if-not-in_order.false in
    let n : nests [] (nodes_of d) ≡ true =
    sym (rw c.nodes-nodes.ensures.nodes at c.is_nested.ensures) ∙ c.if-not-is_nested.false in
    let l = slots d.source.now d c.requires in
    let g : large (nodes_of d) ≡ false = large_no (nodes_of d) (omega arith) n in
    is_long d.source.now d c.requires o g (rw c.text_length.ensures at c.if-text_length-gt-TEXT.true)

pub returns : goal.returns
returns c =
    let d = c.args.draft.now in
    let o : ordered (length d.names.items) 0 (leaves_of (nodes_of d)) ≡ true =
    sym (rw (c.len.ensures.value, c.nodes-nodes.ensures.nodes) at c.in_order.ensures) ∙ c.if-not-in_order.false in
    let n : nests [] (nodes_of d) ≡ true =
    sym (rw c.nodes-nodes.ensures.nodes at c.is_nested.ensures) ∙ c.if-not-is_nested.false in
    let l = slots d.source.now d c.requires in
    let g : large (nodes_of d) ≡ false = large_no (nodes_of d) (omega arith) n in
    let t = rw c.text_length.ensures at c.if-text_length-gt-TEXT.false in
    (_, passes d.source.now d c.requires o g t)
