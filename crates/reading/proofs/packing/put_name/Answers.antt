-- The length, and then one byte more. Assumes nothing.
use Rattle.std.proofs.Common.{refl, arith}
use Rattle.reading.proofs.Putting.{left_start, field_room, field_then}
use Rattle.reading.proofs.Steps.{name_small, byte_left, bytes_done}
use Rattle.reading.proofs.packing.put_name.Goals as goal

pub overflow_cast-name : goal.overflow_cast-name
overflow_cast-name c = omega (arith, name_small c.args.name.now c.args.table.now c.args.cursor.at c.requires)

pub put-next-requires : goal.put-next-requires
put-next-requires c = field_room (left_start c.requires) (omega arith)

pub loop-byte-init : goal.loop-byte-init
loop-byte-init c =
    let p = c.put-next in
    field_then (left_start c.requires) _ p.result.at p.new.s refl (p.ensures.bits, p.ensures.next)

pub put-next-requires-in-loop-byte : goal.put-next-requires-in-loop-byte
put-next-requires-in-loop-byte c =
    let l = c.loop-byte in
    field_room (byte_left c.args.name.now l.byte-index c.loop-byte-test.true l.invariant) (omega arith)

pub loop-byte-preserved : goal.loop-byte-preserved
loop-byte-preserved c =
    let l = c.loop-byte in
    let p = c.put-next-in-loop-byte in
    field_then (byte_left c.args.name.now l.byte-index c.loop-byte-test.true l.invariant) _ p.result.at p.new.s
    c.from.ensures (p.ensures.bits, p.ensures.next)

pub returns : goal.returns
returns c =
    let l = c.loop-byte in
    bytes_done c.args.name.now l.byte-index c.loop-byte-test.false (omega arith) l.invariant
