-- Three fields, one behind another. Assumes nothing.
use Rattle.std.proofs.Common.{arith, refl}
use Rattle.reading.proofs.Putting.{left_start, left_done, field_room, field_then}
use Rattle.reading.proofs.packing.put_node.Goals as goal

pub put-second-requires : goal.put-second-requires
put-second-requires c = field_room (left_start c.requires) (omega arith)

pub put-third-requires : goal.put-third-requires
put-third-requires c =
    let p = c.put-second in
    field_room (field_then (left_start c.requires) _ p.result.at p.new.s c.from.ensures (p.ensures.bits, p.ensures.next)) (omega arith)

pub put-requires : goal.put-requires
put-requires c =
    let p = c.put-second in
    let q = c.put-third in
    let l = field_then (left_start c.requires) _ p.result.at p.new.s c.from.ensures (p.ensures.bits, p.ensures.next) in
    field_room (field_then l _ q.result.at q.new.s c.from-2.ensures (q.ensures.bits, q.ensures.next)) (omega arith)

pub returns : goal.returns
returns c =
    let p = c.put-second in
    let q = c.put-third in
    let r = c.put in
    let l = field_then (left_start c.requires) _ p.result.at p.new.s c.from.ensures (p.ensures.bits, p.ensures.next) in
    let k = field_then l _ q.result.at q.new.s c.from-2.ensures (q.ensures.bits, q.ensures.next) in
    left_done (field_then k _ r.result.at r.new.s refl (r.ensures.bits, r.ensures.next))
