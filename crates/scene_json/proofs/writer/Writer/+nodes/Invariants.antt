use Rattle.std.proofs.Common.{◌≡◌, ◌+◌, ◌*◌, drop}
use Rattle.serde_json.specs.View.{items_view}
use Rattle.scene_json.specs.Scenes.{node_lines}
use Rattle.scene_json.specs.Writing.{each}
use Rattle.scene_json.proofs.writer.Writer.+nodes.Given as goal

abbrev pub decreases-node_lines : goal.decreases-node_lines
decreases-node_lines a = 4 * a.levels

abbrev pub decreases-node_above : goal.decreases-node_above
decreases-node_above a = 4 * a.levels + 3

abbrev pub decreases-below : goal.decreases-below
decreases-below a = 4 * a.levels + 2

abbrev pub decreases-each_node : goal.decreases-each_node
decreases-each_node a = 4 * a.levels + 1

-- the nodes to come make of what is written what all of them make of what was
abbrev pub invariant-each_node-loop-node : goal.invariant-each_node-loop-node
invariant-each_node-loop-node l =
    each (node_lines l.levels l.parent) (items_view (drop l.node-index l.nodes)) l.self
    ≡ each (node_lines l.levels l.parent) (items_view l.nodes) l.initial.self
