-- What changes that are about the same have in common.
use Rattle.std.proofs.Common.{◌≡◌, refl, ℕ, true, Option, Some, None, option_map}
use Rattle.gui_base.specs.Forest.{parent_of}
use Rattle.gui_base.specs.declared.Handle.{Handle}
use Rattle.gui_base.specs.declared.props.Prop.{Prop}
use Rattle.gui_style.specs.Styles.{uses_style}
use Rattle.gui_tree.specs.Handles.{as_handle}
use Rattle.scene_defs.specs.declared.Change.{Change}
use Rattle.scene_defs.specs.declared.Change.TheVariants as change
use Rattle.debt_defs.specs.declared.subject.Subject.TheVariants.{Shared, Goes, Moves}
use Rattle.scene_defs.specs.Change.{scene_after}
use Rattle.scene_defs.specs.Scene.{Scene, handles_of}
use Rattle.debt_defs.specs.Subject.{subject_of}
use Rattle.debt_defs.specs.Orders.{leaves_trees}
use Rattle.gui_concerns.specs.Concerned.{is_below_user}
use Rattle.gui_concerns.specs.Edits.{beside, edit_of}
use Rattle.gui_concerns.specs.declared.edit.Edit.TheVariants.{Same}

-- Where the same objects stand in the same trees, the change leaves the trees.
not-beside : (above : Option Handle) → Same ≡ beside above → ⊥
not-beside None is = cc
not-beside (Some p) is = cc

pub leaves-by : (scene : Scene) (c : Change) → Same ≡ edit_of scene c → leaves_trees scene c ≡ true
leaves-by scene (change.Screen n) is = cc
leaves-by scene (change.New n p kind) is = cc
leaves-by scene (change.Delete h) is = cc
leaves-by scene (change.Parent h p) is = cc
leaves-by scene (change.Index h n) is = absurd (not-beside (option_map as_handle (parent_of (handles_of scene.trees) h.0)) is)
leaves-by scene (change.Front h) is = absurd (not-beside (option_map as_handle (parent_of (handles_of scene.trees) h.0)) is)
leaves-by scene (change.Back h) is = absurd (not-beside (option_map as_handle (parent_of (handles_of scene.trees) h.0)) is)
leaves-by scene (change.Load h) is = cc
leaves-by scene c is = refl

-- The users of a style stay where what it gives changes.
pub users-stay : (scene : Scene) (c : Change) (s : ℕ) (prop : Prop) (k : ℕ) → Shared s prop ≡ subject_of c → uses_style (scene_after scene c).book k s ≡ uses_style scene.book k s
users-stay scene (change.Set t p value) s prop k is = refl
users-stay scene (change.Unset t p) s prop k is = refl
users-stay scene c s prop k is = cc

pub users-stay-below : (scene : Scene) (c : Change) (s : ℕ) (prop : Prop) (k : ℕ) → Shared s prop ≡ subject_of c → is_below_user (scene_after scene c) s k ≡ is_below_user scene s k
users-stay-below scene (change.Set t p value) s prop k is = refl
users-stay-below scene (change.Unset t p) s prop k is = refl
users-stay-below scene c s prop k is = cc

-- What goes away, and what goes below another.
pub goes-is : (c : Change) (h : Handle) → Goes h ≡ subject_of c → c ≡ change.Delete h
goes-is (change.Delete g) h is = cc
goes-is c h is = cc

pub moves-is : (c : Change) (h p : Handle) → Moves h p ≡ subject_of c → c ≡ change.Parent h p
moves-is (change.Parent g q) h p is = cc
moves-is c h p is = cc
