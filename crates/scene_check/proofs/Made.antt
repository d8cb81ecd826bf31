-- Trees on the first screen of a store as it is opened.
use Rattle.std.proofs.Common.{◌≡◌, ◌∙◌, refl, ap, ℕ, ◌+◌, ◌≤◌, true, arith}
use Rattle.std.specs.Prelude.{None}
use Rattle.gui_base.specs.Forest.{Forest, children_by, height}
use Rattle.gui_base.specs.Limits.{Bounds}
use Rattle.scene_defs.specs.Scene.{first_scene, first_trees}
use Rattle.scene_check.specs.Checking.{refusal_of_all, changed_by_all}
use Rattle.scene_check.specs.Fitting.{only_full}
use Rattle.scene_check.specs.Made.{screen, on_screen, MayStand, TreesAreMade}
use Rattle.scene_check.specs.Outlines.{is_node, outline_of}
use Rattle.scene_check.specs.Trees.{Wanted, making, outline_wanted, Grown}
use Rattle.scene_check.proofs.Differing.{all_new_first}
use Rattle.scene_check.proofs.Outlines.{scenes_are_outlined}
use Rattle.scene_check.proofs.Trees.{trees_grow}

room : (n : ℕ) → n ≤ 15 → 1 + n ≤ 16
room n h = omega (arith, h)

grown : (trees : Forest Wanted) → MayStand trees → Grown (outline_of first_trees) screen trees
grown trees m = trees_grow.grow (outline_of first_trees) screen trees refl (room (height trees) m.low) m.wanted (all_new_first (making screen trees) m.in_range m.differ)

fit : (limits : Bounds) (trees : Forest Wanted) → MayStand trees → only_full (refusal_of_all (first_scene limits) (making screen trees)) ≡ true
fit limits trees m = scenes_are_outlined.fits (first_scene limits) (making screen trees) m.in_range (grown trees m).there

made : (limits : Bounds) (trees : Forest Wanted) → MayStand trees → refusal_of_all (first_scene limits) (making screen trees) ≡ None →
    on_screen (changed_by_all (first_scene limits) (making screen trees)) ≡ outline_wanted trees
made limits trees m none =
    ap (children_by (is_node 3)) (scenes_are_outlined.stands (first_scene limits) (making screen trees) m.in_range (grown trees m).there none ∙ (grown trees m).stands)

pub trees_are_made : TreesAreMade
trees_are_made = record { fits = fit; made = made }
