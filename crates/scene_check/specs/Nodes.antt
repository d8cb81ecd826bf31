-- The trees of a scene in JSON: the numbers and the kinds of its nodes, as they stand in it.
use Rattle.std.specs.Prelude.{ℕ, zero, suc, ℤ, unsigned_abs, List, codes, Some, None}
use Rattle.std.specs.declared.option.Option.{Option}
use Rattle.serde_json.specs.Data.{Data, Items, no_items, item}
use Rattle.serde_json.specs.Find.{get, as_array}
use Rattle.serde_json.specs.Read.{read}
use Rattle.gui_base.specs.Forest.{Forest, Empty, Tree, and_then}
use Rattle.run_defs.specs.Commands.{kind}
use Rattle.run_defs.specs.Fields.{value_or}
use Rattle.run_defs.specs.Language.{Word}
use Rattle.scene_json.specs.Scenes.{head}
use Rattle.scene_check.specs.Outlines.{Node}

-- the handle and the kind that a node names
abbrev pub node_named : ℤ × Word → Node
node_named t = (unsigned_abs t.0, value_or kind.stand_in (kind.says t.1))

-- those of nodes one after another
abbrev pub trees_of_items : (Data → Forest Node) → Items → Forest Node
trees_of_items tree no_items = Empty
trees_of_items tree (item d ds) = and_then (tree d) (trees_of_items tree ds)

abbrev pub trees_in : (Data → Forest Node) → Option Items → Forest Node
trees_in tree None = Empty
trees_in tree (Some ds) = trees_of_items tree ds

abbrev pub children_in : (Data → Forest Node) → Option Data → Forest Node
children_in tree None = Empty
children_in tree (Some d) = trees_in tree (as_array d)

-- a node, and those below it
abbrev pub tree_of : (Data → Forest Node) → Data → Option (ℤ × Word) → Forest Node
tree_of tree d None = Empty
tree_of tree d (Some t) = Tree (node_named t) (children_in tree (get (codes "children") d)) Empty

-- the same, down to so many levels
unfoldable pub tree_at : ℕ → Data → Forest Node
tree_at zero d = Empty
tree_at (suc levels) d = tree_of (tree_at levels) d (head d)

-- the trees of a scene
abbrev pub trees_of_scene : Data → Forest Node
trees_of_scene d = children_in (tree_at 15) (get (codes "children") d)

abbrev pub trees_of_value : Option Data → Forest Node
trees_of_value None = Empty
trees_of_value (Some d) = trees_of_scene d

-- the trees of the scene that these bytes are
abbrev pub trees_of : List ℕ → Forest Node
trees_of bytes = trees_of_value (read bytes)
