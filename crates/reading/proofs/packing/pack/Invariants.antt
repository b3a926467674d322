-- The nodes, and then the names, from here on are left. Assumes nothing.
use Rattle.std.proofs.Common.{◌++◌, drop}
use Rattle.fields.proofs.WholeBytes.{AllBytes}
use Rattle.table.specs.Encoding.{name_fields}
use Rattle.draft.specs.Drafts.{nodes_of, names_of}
use Rattle.reading.specs.Inner.Packing.{all_node_fields, draft_fields}
use Rattle.reading.proofs.Putting.{Left}
use Rattle.reading.proofs.packing.pack.Given as goal

abbrev pub invariant-loop-node : goal.invariant-loop-node
invariant-loop-node l = record {
  bytes : AllBytes l.table;
  left :
      Left l.fn.table 0 (draft_fields l.draft) l.table l.next.at
      (all_node_fields (drop l.node-index (nodes_of l.draft)) ++ name_fields (names_of l.draft));
}

abbrev pub invariant-loop-n : goal.invariant-loop-n
invariant-loop-n l = record {
  bytes : AllBytes l.table;
  left : Left l.fn.table 0 (draft_fields l.draft) l.table l.next.at (name_fields (drop l.n (names_of l.draft)));
}
