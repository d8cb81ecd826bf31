-- What walks down the trees of a scene meet.
use Rattle.std.proofs.Common.{◌≡◌, ◌≢◌, ◌∙◌, ◌≤◌, ◌+◌, refl, sym, ap, subst, ℕ, Bool, true, false, eqb, if◌then◌else◌, Option, Some, None, List, [], ◌∷◌, ◌++◌, length, append_assoc, arith}
use Rattle.std.specs.List.{flat_map}
use Rattle.std.proofs.lemmas.Bool.Decides.{nat_tests}
use Rattle.std.proofs.lemmas.List.{append-nil, length-append}
use Rattle.gui_base.specs.Area.{Rect}
use Rattle.gui_base.specs.declared.Handle.{Handle}
use Rattle.gui_base.specs.declared.words.Flag.TheVariants.{Hidden}
use Rattle.gui_base.specs.Forest.{Forest, Empty, Tree, size, preorder, roots, first_root, and_then, tree_at, tree_by, children_of, children_by, next_by}
use Rattle.gui_base.proofs.Forests.{map-children_by, map-size, map-tree_by}
use Rattle.gui_base.proofs.Visits.{HasCome, walk_begins, walk_goes_on, trees_from, name_of}
use Rattle.gui_tree.specs.Handles.{as_handle}
use Rattle.scene_defs.specs.declared.Row.{Row}
use Rattle.scene_defs.specs.Row.{is_on, shown_row}
use Rattle.scene_defs.specs.Place.{panel_of, place}
use Rattle.scene_defs.specs.Scene.{Object, Scene, handle_of, handles_of, is_at, object_at, row_at}
use Rattle.scene_defs.specs.Shown.{Entry, Seen, bars_over, entry_coats, own, painted}
use Rattle.scene_defs.specs.Valid.{IsValid, is_root_at}
use Rattle.scene_defs.specs.Visible.{met, seen_of, root_tree}
use Rattle.scene_defs.specs.Walk.{seen_alone, walked}
use Rattle.scene_defs.proofs.Distinct.{there, IsDistinct, distinct_once}
use Rattle.scene_defs.proofs.Validity.{valid_is_showable}
use Rattle.scene_defs.proofs.Walks.{nothing_below_nothing, shown_by_walk}
use Rattle.cover_defs.specs.Steps.{object_count}
use Rattle.gui_paint.specs.Walking.{seen_through, seen_so, bars_so, tree_walk, below_walk}
use Rattle.gui_paint.proofs.Trees.{no_tree, object_named, object_with, tree_is}

-- One object, and all below it.
module _ (scene : Scene) (clip : Rect) (h : ℕ) where
  -- what is seen of an object, by its row and its place
  seen_is : (object : Object) (row : Row) (area : Option Rect) → object.row ≡ shown_row row → object.handle ≡ h → place scene h ≡ area → seen_of (place scene) (Some clip) object ≡ seen_through clip row area
  seen_is object row area rows named at =
      ap (λ (k : ℕ). if is_on object.row.flags Hidden then None else met (Some clip) (place scene k)) named
      ∙ (ap (λ (r : Row). if is_on r.flags Hidden then None else met (Some clip) (place scene h)) rows
      ∙ ap (λ (p : Option Rect). if is_on row.flags Hidden then None else met (Some clip) p) at)

  walk_is : (row : Row) (area seen : Option Rect) → Some (shown_row row) ≡ row_at scene h → place scene h ≡ area → seen_through clip row area ≡ seen →
      tree_walk scene clip h ≡ seen_alone (entry_coats scene) seen (own h) ++ (walked (place scene) (entry_coats scene) seen (children_by (is_at h) scene.trees) ++ seen_alone (entry_coats scene) seen (bars_over h))
  walk_is row area seen is at through =
      let found = object_with (object_at scene h) (shown_row row) is in
      let object = found.0 in
      let named = object_named scene.trees h object found.1 in
      let below = λ (v : Option Rect). walked (place scene) (entry_coats scene) v (children_by (is_at h) scene.trees) in
      let by = λ (v : Option Rect) (k : ℕ). seen_alone (entry_coats scene) v (own k) ++ (below v ++ seen_alone (entry_coats scene) v (bars_over k)) in
      let v = seen_of (place scene) (Some clip) object in
      ap (walked (place scene) (entry_coats scene) (Some clip)) (tree_is scene h object found.1)
      ∙ (ap (λ (l : List Seen). seen_alone (entry_coats scene) v (own object.handle) ++ (below v ++ l)) (append-nil (seen_alone (entry_coats scene) v (bars_over object.handle)))
      ∙ (ap (by v) named ∙ ap (λ (v : Option Rect). by v h) (seen_is object row area found.2 named at ∙ through)))

  pub visits : (row : Row) (area visible : Rect) → Some (shown_row row) ≡ row_at scene h → place scene h ≡ Some area → seen_through clip row (Some area) ≡ Some visible →
      tree_walk scene clip h ≡ seen_so scene visible h ∷ (below_walk scene visible h ++ bars_so scene visible h ∷ [])
  visits row area visible is at through = walk_is row (Some area) (Some visible) is at through

  -- nothing is met where nothing is seen
  pub meets_nothing : (row : Row) (area : Option Rect) → Some (shown_row row) ≡ row_at scene h → place scene h ≡ area → seen_through clip row area ≡ None → tree_walk scene clip h ≡ []
  meets_nothing row area is at through =
      walk_is row area None is at through
      ∙ (append-nil (walked (place scene) (entry_coats scene) None (children_by (is_at h) scene.trees))
      ∙ nothing_below_nothing (place scene) (entry_coats scene) (children_by (is_at h) scene.trees))

  pub placeless : (row : Row) → Some (shown_row row) ≡ row_at scene h → place scene h ≡ None → tree_walk scene clip h ≡ []
  placeless row is at = meets_nothing row None is at (go (is_on row.flags Hidden)) where
    go : (hidden : Bool) → (if hidden then None else met (Some clip) None) ≡ None
    go true = refl
    go false = refl

  pub meets_none : None ≡ row_at scene h → tree_walk scene clip h ≡ []
  meets_none none = ap (walked (place scene) (entry_coats scene) (Some clip)) (no_tree scene h none)

  -- one object more than those below it
  pub one_more : (row : Row) → Some (shown_row row) ≡ row_at scene h → size (tree_by (is_at h) scene.trees) ≡ size (children_by (is_at h) scene.trees) + 1
  one_more row is =
      let found = object_with (object_at scene h) (shown_row row) is in
      ap size (tree_is scene h found.0 found.1) ∙ omega arith

children_none : (f : Forest Object) (h : ℕ) → tree_by (is_at h) f ≡ Empty → children_by (is_at h) f ≡ Empty
children_none Empty h e = refl
children_none (Tree object cs rest) h e = grind (arith, nat_tests, children_none cs h, children_none rest h)

pub no_children : (scene : Scene) (h : ℕ) → None ≡ row_at scene h → size (children_by (is_at h) scene.trees) ≡ 0
no_children scene h none = ap size (children_none scene.trees h (no_tree scene h none))

-- what a walk meets in trees that stand side by side
walked-and_then : (place : ℕ → Option Rect) (lays : Entry → _) (clip : Option Rect) (f g : Forest Object) → walked place lays clip (and_then f g) ≡ walked place lays clip f ++ walked place lays clip g
walked-and_then place lays clip Empty g = refl
walked-and_then place lays clip (Tree object cs rest) g =
    let v = seen_of place clip object in
    let first = seen_alone lays v (own object.handle) in
    let inner = walked place lays v cs in
    let last = seen_alone lays v (bars_over object.handle) in
    let later = walked place lays clip rest in
    let more = walked place lays clip g in
    ap (λ (l : List Seen). first ++ (inner ++ (last ++ l))) (walked-and_then place lays clip rest g)
    ∙ (ap (λ (l : List Seen). first ++ (inner ++ l)) (sym (append_assoc last later more))
    ∙ (ap (λ (l : List Seen). first ++ l) (sym (append_assoc inner (last ++ later) more))
    ∙ sym (append_assoc first (inner ++ (last ++ later)) more)))

-- the same by their handles
abbrev pub trees_walk : Scene → Rect → Forest ℕ → List Seen
trees_walk scene clip trees = flat_map (tree_walk scene clip) (roots trees)

-- What a walk meets below an object is what it meets in the trees of its children.
module _ (scene : Scene) (clip : Rect) (h : ℕ) (valid : IsValid scene) where
  abbrev walk : Forest Object → List Seen
  walk trees = walked (place scene) (entry_coats scene) (Some clip) trees

  distinct : IsDistinct scene.trees
  distinct = distinct_once scene.trees valid.trees.once

  walks_each : (trees : Forest Object) (next : Option Handle) → HasCome handle_of scene.trees h next → trees_from handle_of next scene.trees ≡ trees → walk trees ≡ trees_walk scene clip (handles_of trees)
  walks_each Empty next come at = refl
  walks_each (Tree object cs rest) next come at =
      let f = scene.trees in
      let child : Handle = as_handle object.handle in
      let first : next ≡ Some child = come.0 ∙ ap (λ (t : Forest Object). name_of handle_of (first_root t)) at in
      let beside = name_of handle_of (next_by (is_at object.handle) f) in
      let on = walk_goes_on handle_of f h child beside distinct (subst (HasCome handle_of f h) first come) refl in
      let same : Tree on.node on.children on.rest ≡ Tree object cs rest = sym on.from ∙ (ap (λ (n : Option Handle). trees_from handle_of n f) (sym first) ∙ at) in
      let tree : tree_by (is_at object.handle) f ≡ Tree on.node on.children Empty = on.tree in
      let alone : tree_by (is_at object.handle) f ≡ Tree object cs Empty = cc in
      let more : on.rest ≡ rest = cc in
      walked-and_then (place scene) (entry_coats scene) (Some clip) (Tree object cs Empty) rest
      ∙ (ap (λ (t : Forest Object). walk t ++ walk rest) (sym alone)
      ∙ ap (λ (l : List Seen). tree_walk scene clip object.handle ++ l) (walks_each rest beside on.come (on.later ∙ more)))

  pub walks_below : below_walk scene clip h ≡ trees_walk scene clip (children_of (handles_of scene.trees) h)
  walks_below =
      let f = scene.trees in
      let first = name_of handle_of (first_root (children_by (is_at h) f)) in
      let begins = walk_begins handle_of f h first distinct refl in
      walks_each (children_by (is_at h) f) first begins.1 begins.0 ∙ ap (trees_walk scene clip) (map-children_by handle_of (λ k. eqb k h) f)

-- an object and all below it, and what is below it, as the tree of handles counts them
pub size_at : (scene : Scene) (h : ℕ) → size (tree_at (handles_of scene.trees) h) ≡ size (tree_by (is_at h) scene.trees)
size_at scene h = ap size (sym (map-tree_by handle_of (λ k. eqb k h) scene.trees)) ∙ map-size handle_of (tree_by (is_at h) scene.trees)

pub size_below : (scene : Scene) (h : ℕ) → size (children_of (handles_of scene.trees) h) ≡ size (children_by (is_at h) scene.trees)
size_below scene h = ap size (sym (map-children_by handle_of (λ k. eqb k h) scene.trees)) ∙ map-size handle_of (children_by (is_at h) scene.trees)

-- The three roots that are shown.
-- a root's tree is the tree of its handle
root_tree-tree_by : (f : Forest Object) (h : ℕ) → IsDistinct f → is_root_at f h ≡ true → (there f h ≡ true) × (root_tree f h ≡ tree_by (is_at h) f)
root_tree-tree_by Empty h d i = cc
root_tree-tree_by (Tree object cs rest) h d i = grind (arith, nat_tests, root_tree-tree_by rest h d.4, d.0 h)

size-roots : (trees : Forest Object) (a : ℕ) → a ≢ 1 → a ≢ 2 → size (root_tree trees a) + (size (root_tree trees 1) + size (root_tree trees 2)) ≤ size trees
size-roots Empty a one two = omega arith
size-roots (Tree o cs rest) a one two = grind (arith, nat_tests, size-roots rest a one two)

length-preorder : (f : Forest Object) → length (preorder (handles_of f)) ≡ size f
length-preorder Empty = refl
length-preorder (Tree o cs rest) = omega (arith, length-append (preorder (handles_of cs)) (preorder (handles_of rest)), length-preorder cs, length-preorder rest)

module _ (scene : Scene) (valid : IsValid scene) where
  root_alone : (h : ℕ) → is_root_at scene.trees h ≡ true → root_tree scene.trees h ≡ tree_by (is_at h) scene.trees
  root_alone h i = (root_tree-tree_by scene.trees h (distinct_once scene.trees valid.trees.once) i).1

  -- the active screen and the two layers, one after another, are all that is painted
  pub three_walks : tree_walk scene (panel_of scene) scene.active ++ (tree_walk scene (panel_of scene) 1 ++ tree_walk scene (panel_of scene) 2) ≡ painted scene
  three_walks =
      let f = scene.trees in
      let walk = walked (place scene) (entry_coats scene) (Some (panel_of scene)) in
      sym (shown_by_walk scene (valid_is_showable scene valid)
      ∙ (walked-and_then (place scene) (entry_coats scene) (Some (panel_of scene)) (root_tree f scene.active) (and_then (root_tree f 1) (root_tree f 2))
      ∙ (ap (λ (l : List Seen). walk (root_tree f scene.active) ++ l) (walked-and_then (place scene) (entry_coats scene) (Some (panel_of scene)) (root_tree f 1) (root_tree f 2))
      ∙ rw (root_alone scene.active valid.trees.active, root_alone 1 valid.trees.top_layer, root_alone 2 valid.trees.system_layer) refl)))

  -- they have no more objects than there are
  pub three_sizes : size (tree_by (is_at scene.active) scene.trees) + (size (tree_by (is_at 1) scene.trees) + size (tree_by (is_at 2) scene.trees)) ≤ object_count scene
  three_sizes =
      let showable = valid_is_showable scene valid in
      omega (
        arith,
        size-roots scene.trees scene.active showable.above_top showable.above_system,
        length-preorder scene.trees,
        ap size (root_alone scene.active valid.trees.active),
        ap size (root_alone 1 valid.trees.top_layer),
        ap size (root_alone 2 valid.trees.system_layer),
      )
