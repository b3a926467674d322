use Rattle.std.proofs.Common.{◌≡◌, length, take}
use Rattle.model.specs.Limits.{slot_limit}
use Rattle.table.specs.Inner.Tests.{leaves_of}
use Rattle.draft.specs.Drafts.{nodes_of}
use Rattle.verdict.specs.Inner.Search.{numbers_of}
use Rattle.verdict.proofs.fill_slot_names.Given as goal

abbrev pub invariant-loop-slot : goal.invariant-loop-slot
invariant-loop-slot l = record {
  room : length l.names ≡ slot_limit;
  filled : numbers_of (take (length l.yielded) l.names) ≡ take (length l.yielded) (leaves_of (nodes_of l.draft));
}
