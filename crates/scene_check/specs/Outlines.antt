-- The outline of a scene: its objects, of which kinds they are, and how they stand; and what changes make of it.
use Rattle.std.specs.Prelude.{◌≡◌, ◌==◌, ℕ, pos, Bool, true, false, not, ◌&&◌, ◌||◌, cond, List, [], ◌∷◌, None, is_some}
use Rattle.std.specs.List.{list_all}
use Rattle.std.specs.Ordering.{int_eq}
use Rattle.gui_base.specs.Forest.{Forest, Empty, Tree, map_forest, added_by, has, has_by, depth_of, parent_of}
use Rattle.gui_base.specs.Words.{same_prop}
use Rattle.gui_base.specs.declared.intervals.TheConstants.{MAX_DEPTH}
use Rattle.gui_base.specs.declared.props.Prop.TheVariants.{TextFont}
use Rattle.gui_base.specs.declared.words.Kind.{Kind}
use Rattle.scene_defs.specs.declared.Change.{Change}
use Rattle.scene_defs.specs.declared.Change.TheVariants as change
use Rattle.scene_defs.specs.Deeds.{is_in_range}
use Rattle.scene_defs.specs.Row.{has_text}
use Rattle.scene_defs.specs.Scene.{Object, Scene}
use Rattle.scene_check.specs.Checking.{refusal_of_all, changed_by_all}
use Rattle.scene_check.specs.Fitting.{only_full}

-- the handle and the kind of an object
abbrev pub Node : Type 0
Node = ℕ × Kind

abbrev pub node_of : Object → Node
node_of object = (object.handle, object.row.kind)

abbrev pub outline_of : Forest Object → Forest Node
outline_of trees = map_forest node_of trees

abbrev pub handle_in : Node → ℕ
handle_in node = node.0

abbrev pub handles_in : Forest Node → Forest ℕ
handles_in outline = map_forest handle_in outline

abbrev pub is_node : ℕ → Node → Bool
is_node h node = node.0 == h

-- whether the first object h has a kind that has a text
abbrev pub has_text_at : ℕ → Forest Node → Bool
has_text_at h Empty = false
has_text_at h (Tree node cs rest) =
    cond (is_node h node) (has_text node.1) (cond (has_by (is_node h) cs) (has_text_at h cs) (has_text_at h rest))

-- whether h is there, and whether it has a parent too
abbrev pub has_node : Forest Node → ℕ → Bool
has_node outline h = has (handles_in outline) h

abbrev pub has_child : Forest Node → ℕ → Bool
has_child outline h = has_node outline h && is_some (parent_of (handles_in outline) h)

-- whether n may be a new child of p
abbrev pub may_have : Forest Node → ℕ → ℕ → Bool
may_have outline p n =
    has_node outline p && (not (has_node outline n) && not (depth_of (handles_in outline) p == MAX_DEPTH))

-- whether a change is one of those that scenes are made by, and what it names is there
abbrev pub names_there : Forest Node → Change → Bool
names_there outline (change.New n p kind) = may_have outline p.0 n.0
names_there outline (change.Size h width height) = has_child outline h.0
names_there outline (change.Pos h x y) = has_child outline h.0
names_there outline (change.Flag h flag on) = has_node outline h.0
names_there outline (change.Text h text) = has_node outline h.0 && has_text_at h.0 outline
names_there outline (change.Local h selector prop value) =
    has_node outline h.0 && (not (same_prop prop TextFont) || int_eq value (pos 0))
names_there outline other = false

-- the outline after such a change
abbrev pub outline_after : Forest Node → Change → Forest Node
outline_after outline (change.New n p kind) = added_by (is_node p.0) (n.0, kind) outline
outline_after outline other = outline

-- whether each of them names what is there once those before it are done
abbrev pub all_there : Forest Node → List Change → Bool
all_there outline [] = true
all_there outline (change ∷ changes) =
    names_there outline change && all_there (outline_after outline change) changes

-- the outline after all of them
abbrev pub outlined : Forest Node → List Change → Forest Node
outlined outline [] = outline
outlined outline (change ∷ changes) = outlined (outline_after outline change) changes

pub record ScenesAreOutlined : Type 0 where
  -- the first refusal is that of a full pool
  pub fits : (scene : Scene) (changes : List Change) →
      list_all is_in_range changes ≡ true → all_there (outline_of scene.trees) changes ≡ true →
      only_full (refusal_of_all scene changes) ≡ true
  -- where there is none, the objects stand as the changes say
  pub stands : (scene : Scene) (changes : List Change) →
      list_all is_in_range changes ≡ true → all_there (outline_of scene.trees) changes ≡ true →
      refusal_of_all scene changes ≡ None →
      outline_of (changed_by_all scene changes).trees ≡ outlined (outline_of scene.trees) changes
