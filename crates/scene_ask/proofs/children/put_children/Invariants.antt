use Rattle.std.proofs.Common.{◌≡◌, ◌≤◌, ◌++◌, ℕ, List, codes, flat_map, Some}
use Rattle.std.specs.Io.KnownBytes.{Appends}
use Rattle.gui_base.specs.Forest.{roots}
use Rattle.gui_core.specs.Machines.{machine_of, pending_in}
use Rattle.gui_damage.specs.Pending.{total}
use Rattle.scene_ask.specs.Asking.{count, answer_line}
use Rattle.scene_script.specs.declared.questions.Question.TheVariants.{Children}
use Rattle.scene_ask.proofs.children.put_children.Given as goal

-- the line was written but for the names of the children that are still to come
abbrev pub invariant-loop-child : goal.invariant-loop-child
invariant-loop-child g l = record {
  bytes : List ℕ;
  whole : bytes ++ (flat_map count (roots l.child-iterator.left) ++ codes "\n") ≡ answer_line l.number (machine_of l.gui) (total (pending_in l.gui).areas) (Some (Children l.fn.h));
  written : Appends (g.A.Sink.state l.fn.answers).held (g.A.Sink.state l.answers).held bytes;
  later : (g.A.Sink.state l.fn.answers).faults ≤ (g.A.Sink.state l.answers).faults;
}
