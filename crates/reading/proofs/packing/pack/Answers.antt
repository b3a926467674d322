-- The header, the nodes and the names, one behind another. Assumes nothing.
use Rattle.std.proofs.Common.{[], ◌∷◌, ◌<◌, length, sym, ap, ◌∙◌, arith}
use Rattle.table.specs.Encoding.{name_fields}
use Rattle.draft.specs.Drafts.{nodes_of, names_of}
use Rattle.draft.proofs.Holding.{names_length, name_here}
use Rattle.reading.proofs.Putting.{left_first, left_then, field_then}
use Rattle.reading.proofs.Steps.{node_left, nodes_done, name_left, names_done}
use Rattle.reading.proofs.Whole.{pack_start, packed_lem}
use Rattle.reading.proofs.packing.pack.Goals as goal

pub loop-node-init : goal.loop-node-init
loop-node-init c =
    let p = c.put-second in
    let q = c.put-next in
    record {
      bytes = λ i. omega (arith, c.type_inv.table i);
      left =
          field_then
          (field_then (pack_start c.args.draft.now c.args.table.now c.requires) _ p.result.at p.new.s
          (ap (λ k. k.nodes) c.counts-counts.ensures) (p.ensures.bits, p.ensures.next)) _
          q.result.at q.new.s (ap (λ k. k.names) c.counts-counts.ensures) (q.ensures.bits, q.ensures.next);
    }

pub put_node-next-requires : goal.put_node-next-requires
put_node-next-requires c =
    let d = c.args.draft.now in
    let l = c.loop-node in
    left_first _ _
    (node_left c.nodes-node-items.result.now (nodes_of d) (name_fields (names_of d)) l.node-index
    c.nodes-node-items.ensures.nodes c.loop-node-test.true l.invariant.left)

pub loop-node-preserved : goal.loop-node-preserved
loop-node-preserved c =
    let d = c.args.draft.now in
    let l = c.loop-node in
    record {
      bytes = λ i. omega (arith, c.type_inv.table i);
      left =
          left_then _ _
          (node_left c.nodes-node-items.result.now (nodes_of d) (name_fields (names_of d)) l.node-index
          c.nodes-node-items.ensures.nodes c.loop-node-test.true l.invariant.left)
          c.put_node-next.ensures;
    }

pub put_name-next-requires : goal.put_name-next-requires
put_name-next-requires c =
    let d = c.args.draft.now in
    let l = c.loop-n in
    let h : l.n < length d.names.items = omega (arith, c.loop-n-test.true, ap (λ k. k.names) c.counts-counts.ensures) in
    left_first (name_fields (c.name.result.now ∷ [])) _
    (name_left (names_of d) l.n c.name.result.now (c.name.ensures.name ∙ sym (name_here d l.n h))
    (omega (arith, names_length d)) l.invariant.left)

pub loop-n-init : goal.loop-n-init
loop-n-init c =
    let d = c.args.draft.now in
    let l = c.loop-node in
    let e = ap length c.nodes-node-items.ensures.nodes in
    record {
      bytes = l.invariant.bytes;
      left =
          nodes_done (nodes_of d) (name_fields (names_of d)) l.node-index (omega (arith, e)) (omega (arith, e))
          l.invariant.left;
    }

pub loop-n-preserved : goal.loop-n-preserved
loop-n-preserved c =
    let d = c.args.draft.now in
    let l = c.loop-n in
    let h : l.n < length d.names.items = omega (arith, c.loop-n-test.true, ap (λ k. k.names) c.counts-counts.ensures) in
    record {
      bytes = λ i. omega (arith, c.type_inv.table i);
      left =
          left_then (name_fields (c.name.result.now ∷ [])) _
          (name_left (names_of d) l.n c.name.result.now (c.name.ensures.name ∙ sym (name_here d l.n h))
          (omega (arith, names_length d)) l.invariant.left)
          c.put_name-next.ensures;
    }

pub returns : goal.returns
returns c =
    let d = c.args.draft.now in
    let l = c.loop-n in
    let e = ap (λ k. k.names) c.counts-counts.ensures in
    record {
      answer =
          packed_lem d c.args.table.now l.next.at l.table c.requires.fits
          (names_done (names_of d) l.n (omega (arith, names_length d, e)) (omega (arith, names_length d, e)) l.invariant.left)
          (λ i. grind arith) l.invariant.bytes;
    }
