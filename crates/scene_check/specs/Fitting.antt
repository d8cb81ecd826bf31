-- What the changes of a scene are refused for, where they name what is there: a pool alone.
use Rattle.std.specs.Prelude.{◌≡◌, ◌==◌, ℕ, ℤ, pos, List, Bool, true, false, Some, None, is_some}
use Rattle.std.specs.declared.option.Option.{Option}
use Rattle.gui_base.specs.Forest.{parent_of, depth_of}
use Rattle.gui_base.specs.Words.{same_prop}
use Rattle.gui_base.specs.declared.Handle.{Handle}
use Rattle.gui_base.specs.declared.intervals.TheConstants.{MAX_DEPTH}
use Rattle.gui_base.specs.declared.props.Prop.{Prop}
use Rattle.gui_base.specs.declared.props.Prop.TheVariants.{TextFont}
use Rattle.gui_base.specs.declared.refusal.Refusal.{Refusal}
use Rattle.gui_base.specs.declared.refusal.Refusal.TheVariants.{Full}
use Rattle.gui_base.specs.declared.words.Flag.{Flag}
use Rattle.gui_base.specs.declared.words.Kind.{Kind}
use Rattle.gui_base.specs.declared.words.Length.{Length}
use Rattle.gui_base.specs.declared.words.Selector.{Selector}
use Rattle.scene_defs.specs.declared.Change.TheVariants as change
use Rattle.scene_defs.specs.declared.Feature.TheVariants.{Text}
use Rattle.scene_defs.specs.Change.{answer_of}
use Rattle.scene_defs.specs.Deeds.{is_in_range}
use Rattle.scene_defs.specs.Edits.{has_feature_at}
use Rattle.scene_defs.specs.Scene.{Scene, is_there, handles_of}

-- no refusal but that of a full pool
abbrev pub only_full : Option Refusal → Bool
only_full None = true
only_full (Some (Full pool)) = true
only_full (Some refusal) = false

-- whether an object has a parent, and whether it may have no children by its depth
abbrev pub has_parent : Scene → ℕ → Bool
has_parent scene h = is_some (parent_of (handles_of scene.trees) h)

abbrev pub is_deepest : Scene → ℕ → Bool
is_deepest scene h = depth_of (handles_of scene.trees) h == MAX_DEPTH

pub record ChangesFit : Type 0 where
  pub new : (scene : Scene) (n p : Handle) (kind : Kind) →
      is_in_range (change.New n p kind) ≡ true → is_there scene p.0 ≡ true → is_there scene n.0 ≡ false →
      is_deepest scene p.0 ≡ false → only_full (answer_of scene (change.New n p kind)) ≡ true
  pub size : (scene : Scene) (h : Handle) (width height : Length) →
      is_in_range (change.Size h width height) ≡ true → is_there scene h.0 ≡ true → has_parent scene h.0 ≡ true →
      only_full (answer_of scene (change.Size h width height)) ≡ true
  pub place : (scene : Scene) (h : Handle) (x y : ℤ) →
      is_in_range (change.Pos h x y) ≡ true → is_there scene h.0 ≡ true → has_parent scene h.0 ≡ true →
      only_full (answer_of scene (change.Pos h x y)) ≡ true
  pub flag : (scene : Scene) (h : Handle) (flag : Flag) (on : Bool) →
      is_in_range (change.Flag h flag on) ≡ true → is_there scene h.0 ≡ true →
      only_full (answer_of scene (change.Flag h flag on)) ≡ true
  pub local : (scene : Scene) (h : Handle) (selector : Selector) (prop : Prop) (value : ℤ) →
      is_in_range (change.Local h selector prop value) ≡ true → is_there scene h.0 ≡ true →
      (same_prop prop TextFont ≡ true → value ≡ pos 0) →
      only_full (answer_of scene (change.Local h selector prop value)) ≡ true
  pub text : (scene : Scene) (h : Handle) (text : List ℕ) →
      is_in_range (change.Text h text) ≡ true → is_there scene h.0 ≡ true →
      has_feature_at scene Text h.0 ≡ true →
      only_full (answer_of scene (change.Text h text)) ≡ true
