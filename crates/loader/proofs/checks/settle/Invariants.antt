-- The groups that are popped are done.
use Rattle.std.proofs.Common.{◌≡◌, ◌≤◌, length}
use Rattle.std.specs.Prelude.{reverse}
use Rattle.model.specs.Limits.{group_limit}
use Rattle.table.specs.Inner.Tests.{settle}
use Rattle.loader.proofs.checks.settle.Given as goal

abbrev pub invariant-loop-wanted : goal.invariant-loop-wanted
invariant-loop-wanted l = record {
  low : length l.groups.items ≤ group_limit;
  same : settle (reverse l.groups.items) ≡ settle (reverse l.fn.groups.items);
}

abbrev pub decreases-loop-wanted : goal.decreases-loop-wanted
decreases-loop-wanted l = length l.groups.items
