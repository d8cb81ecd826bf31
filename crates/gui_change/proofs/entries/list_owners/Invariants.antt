use Rattle.std.proofs.Common.{◌≡◌, ◌≤◌, ◌+◌, ◌++◌, drop, length, vec_len, vec_capacity}
use Rattle.gui_change.specs.Entries.{owners}
use Rattle.gui_change.proofs.entries.list_owners.Given as goal

abbrev pub invariant-loop-entry : goal.invariant-loop-entry
invariant-loop-entry l =
    record {
      listed : l.listed.items ++ owners (drop l.entry-index l.painted) ≡ owners l.painted;
      room : vec_len l.listed + length (owners (drop l.entry-index l.painted)) ≤ vec_capacity l.listed;
      capacity : vec_capacity l.listed ≡ vec_capacity l.fn.listed;
    }
