-- The names before are distinct.
use Rattle.std.proofs.Common.{◌≡◌, true, take}
use Rattle.table.specs.Inner.Tests.{apart}
use Rattle.draft.specs.Drafts.{names_of}
use Rattle.loader.proofs.are_distinct.Given as goal

abbrev pub invariant-loop-i : goal.invariant-loop-i
invariant-loop-i l = apart (take l.i (names_of l.draft)) ≡ true
