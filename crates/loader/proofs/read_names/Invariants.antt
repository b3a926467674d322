-- The names before the place are read.
use Rattle.std.proofs.Common.{length, ◌≡◌}
use Rattle.draft.specs.Drafts.{nodes_of}
use Rattle.loader.proofs.Names.{Reading}
use Rattle.loader.proofs.read_names.Given as goal

abbrev pub invariant-loop-k : goal.invariant-loop-k
invariant-loop-k l = record {
  source : l.draft.source ≡ l.fn.draft.source;
  nodes : nodes_of l.draft ≡ nodes_of l.fn.draft;
  count : length l.draft.names.items ≡ l._k;
  reading : Reading l.fn.draft.source.now l.from l.fn.names l.draft l.at;
}
