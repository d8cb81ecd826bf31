-- The trees of scenes that were worked out by hand.
use Rattle.std.proofs.Common.{refl}
use Rattle.serde_json.proofs.OnLiterals.{serde_json_on_literals}
use Rattle.gui_base.specs.Names.{named}
use Rattle.scene_check.specs.Examples.{TreesAreWorked}
use Rattle.scene_check.specs.Nodes.{tree_at}

pub trees_are_worked : TreesAreWorked
unfolding serde_json_on_literals tree_at named
trees_are_worked = record { label = refl; nothing = refl; nested = refl }
