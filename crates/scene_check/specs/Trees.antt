-- Trees of objects that are wanted, and the changes that make them.
use Rattle.std.specs.Prelude.{◌≡◌, ◌≤◌, ◌+◌, ◌==◌, ℕ, pos, Bool, true, false, not, ◌&&◌, ◌||◌, List, [], ◌∷◌, ◌++◌}
use Rattle.std.specs.List.{list_all}
use Rattle.std.specs.Ordering.{int_eq}
use Rattle.gui_base.specs.Forest.{Forest, Empty, Tree, and_then, all_by, height, map_forest, depth_of, with_children_by}
use Rattle.gui_base.specs.Words.{same_prop}
use Rattle.gui_base.specs.declared.Handle.{Handle}
use Rattle.gui_base.specs.declared.props.Prop.TheVariants.{TextFont}
use Rattle.gui_base.specs.declared.words.Kind.{Kind}
use Rattle.scene_defs.specs.declared.Change.{Change}
use Rattle.scene_defs.specs.declared.Change.TheVariants as change
use Rattle.scene_defs.specs.Row.{has_text}
use Rattle.scene_check.specs.Outlines.{Node, is_node, handles_in, has_node, outline_after, all_there, outlined}

-- an object that is wanted, and the changes that set what is its own
pub record Wanted : Type 0 where
  pub handle : Handle
  pub kind : Kind
  pub own : List Change

-- whether a change sets what is the own of an object h of this kind
abbrev pub is_own : ℕ → Kind → Change → Bool
is_own h kind (change.Size g width height) = g.0 == h
is_own h kind (change.Pos g x y) = g.0 == h
is_own h kind (change.Flag g flag on) = g.0 == h
is_own h kind (change.Text g text) = g.0 == h && has_text kind
is_own h kind (change.Local g selector prop value) =
    g.0 == h && (not (same_prop prop TextFont) || int_eq value (pos 0))
is_own h kind other = false

abbrev pub is_wanted : Wanted → Bool
is_wanted wanted = list_all (is_own wanted.handle.0 wanted.kind) wanted.own

-- the changes that make trees below p: each object before what is its own, and that before those below it
abbrev pub making : Handle → Forest Wanted → List Change
making p Empty = []
making p (Tree wanted cs rest) =
    change.New wanted.handle p wanted.kind ∷ (wanted.own ++ (making wanted.handle cs ++ making p rest))

-- the outline of the trees
abbrev pub node_wanted : Wanted → Node
node_wanted wanted = (wanted.handle.0, wanted.kind)

abbrev pub outline_wanted : Forest Wanted → Forest Node
outline_wanted trees = map_forest node_wanted trees

-- whether a change makes no object that is there
abbrev pub is_new : Forest Node → Change → Bool
is_new outline (change.New n p kind) = not (has_node outline n.0)
is_new outline other = true

-- whether each of them makes none that is there once those before it are done
abbrev pub all_new : Forest Node → List Change → Bool
all_new outline [] = true
all_new outline (change ∷ changes) = is_new outline change && all_new (outline_after outline change) changes

-- the outline with more children of p
abbrev pub with_trees : ℕ → Forest Node → Forest Node → Forest Node
with_trees p trees outline = with_children_by (is_node p) (λ cs. and_then cs trees) outline

-- what the changes that make trees come to below p, where p is there, none is made twice, and none stands too deep
pub record Grown (outline : Forest Node) (p : Handle) (trees : Forest Wanted) : Type 0 where
  pub there : all_there outline (making p trees) ≡ true
  pub stands : outlined outline (making p trees) ≡ with_trees p.0 (outline_wanted trees) outline

pub record TreesGrow : Type 0 where
  pub grow : (outline : Forest Node) (p : Handle) (trees : Forest Wanted) →
      has_node outline p.0 ≡ true → depth_of (handles_in outline) p.0 + height trees ≤ 16 →
      all_by is_wanted trees ≡ true → all_new outline (making p trees) ≡ true →
      Grown outline p trees
