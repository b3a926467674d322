-- What is left, with the stack, is tested as the whole was.
use Rattle.std.proofs.Common.{drop, [], ◌≡◌, ◌≤◌, length}
use Rattle.std.specs.Prelude.{reverse}
use Rattle.model.specs.Limits.{group_limit}
use Rattle.table.specs.Inner.Tests.{nests}
use Rattle.loader.proofs.checks.is_nested.Given as goal

abbrev pub invariant-loop-node : goal.invariant-loop-node
invariant-loop-node l = record {
  low : length l.groups.items ≤ group_limit;
  rest : nests (reverse l.groups.items) (drop l.node-index l.nodes) ≡ nests [] l.nodes;
}
