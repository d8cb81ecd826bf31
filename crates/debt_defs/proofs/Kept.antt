-- The order of what is painted, change by change.
use Rattle.std.proofs.Common.{◌≡◌, sym, ap, ℕ, true, cond, ◌||◌, Option, Some, None, is_some, option_map, refl, inl, inr, eq-eqb}
use Rattle.std.specs.List.{filter}
use Rattle.std.proofs.lemmas.Bool.{cases_Bool, and_left, and_right, not_from_true, false≢true}
use Rattle.gui_base.specs.declared.refusal.Refusal.{Refusal}
use Rattle.gui_base.specs.Forest.{Forest, Empty, Tree, and_then, cut_by, preorder, with_row_by}
use Rattle.gui_base.proofs.Forests.{map-with_row_by}
use Rattle.style_defs.specs.Book.{Book}
use Rattle.scene_defs.specs.declared.Change.{Change}
use Rattle.scene_defs.specs.declared.Change.TheVariants as change
use Rattle.scene_defs.specs.Scene.{Object, Scene, handle_of, handles_of, is_at, new_object}
use Rattle.scene_defs.specs.Row.{Setter}
use Rattle.scene_defs.specs.Deeds.{setter_of}
use Rattle.scene_defs.specs.Assets.{AssetChange}
use Rattle.scene_defs.specs.Styling.{Styling}
use Rattle.scene_defs.specs.Change.{answer_of, after_by, styling_in, asset_change_in, scene_after, scene_by}
use Rattle.scene_defs.specs.Edits.{over_row, over_text, parent_object, last_below, at_index_below}
use Rattle.scene_defs.specs.Visible.{root_tree, shown_trees}
use Rattle.scene_defs.specs.Shown.{entries_in}
use Rattle.scene_defs.specs.Valid.{IsValid}
use Rattle.scene_defs.proofs.Distinct.{IsDistinct, distinct_once, distinct-three, three}
use Rattle.scene_defs.proofs.Validity.{change_keeps_valid}
use Rattle.debt_defs.specs.Named.{named}
use Rattle.debt_defs.specs.Orders.{remains, sets_text, KeepOrder, OthersKeepOrder, SettersKeepOrder}
use Rattle.debt_defs.proofs.Orders.{at, order-kept, cut-last, cut-added, cut-moved, cut-moved_last, cut-deleted}
use Rattle.debt_defs.proofs.Roots.{load-kept}

handles-both : (f g : Forest Object) → handles_of (and_then f g) ≡ and_then (handles_of f) (handles_of g)
handles-both Empty g = refl
handles-both (Tree object cs rest) g = ap (Tree object.handle (handles_of cs)) (handles-both rest g)

abbrev shown_handles : Scene → Forest ℕ
shown_handles scene = handles_of (shown_trees scene)

-- Changes that leave the trees.
module _ (h : ℕ) (f : Object → Object) (stays : (object : Object) → (f object).handle ≡ object.handle) where
  abbrev set : Forest Object → Forest Object
  set = with_row_by (is_at h) f

  handles-set : (g : Forest Object) → handles_of (set g) ≡ handles_of g
  handles-set g = map-with_row_by handle_of (λ k. true) (is_at h) f stays g

  one-set : (object : Object) → (cond (is_at h object) (f object) object).handle ≡ object.handle
  one-set object = elim (cases_Bool (is_at h object)) [ inl is ↦ rw is (stays object) | inr isnt ↦ rw isnt refl ]

  root-set : (g : Forest Object) (a : ℕ) → handles_of (root_tree (set g) a) ≡ handles_of (root_tree g a)
  root-set Empty a = refl
  root-set (Tree object cs rest) a = elim (cases_Bool (is_at a object)) [
    | inl is ↦ rw (one-set object, is, one-set object, handles-set cs) refl
    | inr isnt ↦ rw (one-set object, isnt) (root-set rest a)
  ]

  order-set : (g : Forest Object) (a : ℕ) → handles_of (three (set g) a) ≡ handles_of (three g a)
  order-set g a = simp (handles-both, root-set)

pub after-order : (scene : Scene) (change : Change) (setter : Option Setter) (styling : Option Styling) (assets : Option AssetChange) →
    (is_some (option_map (λ (s : Setter). s.handle) setter) || (sets_text change || (is_some styling || is_some assets))) ≡ true → shown_handles (after_by setter styling assets scene change) ≡ shown_handles scene
after-order scene change (Some setter) styling assets leaves = order-set setter.handle.0 (over_row setter.after) (λ object. refl) scene.trees scene.active
after-order scene change None (Some styling) assets leaves = refl
after-order scene change None None (Some assets) leaves = refl
after-order scene (change.Text h text) None None None leaves = order-set h.0 (over_text text) (λ object. refl) scene.trees scene.active
after-order scene (change.Screen n) None None None leaves = absurd (false≢true leaves)
after-order scene change None None None leaves = absurd (false≢true leaves)

pub setters_keep_order : SettersKeepOrder
setters_keep_order scene change leaves = let kept = by (answer_of scene change) in (ap preorder kept, ap entries_in kept) where
  by : (answer : Option Refusal) → shown_handles (scene_by answer scene change) ≡ shown_handles scene
  by None = after-order scene change (setter_of change) (styling_in scene change) (asset_change_in scene change) leaves
  by (Some refusal) = refl

-- Changes of the trees.
module _ (scene : Scene) (v : IsValid scene) where
  distinct : IsDistinct (three scene.trees scene.active)
  distinct = distinct-three scene.trees scene.active v.trees.once v.trees.above_top v.trees.above_system

-- the trees differ in the tree at h alone
edited : (scene : Scene) (trees : Forest Object) (book : Book) (h : ℕ) → IsValid scene → IsValid (record scene { trees = trees; book = book }) →
    cut_by (is_at h) trees ≡ cut_by (is_at h) scene.trees → KeepOrder (Some h) scene (record scene { trees = trees; book = book })
edited scene trees book h v w same =
    let after : Scene = record scene { trees = trees; book = book } in
    order-kept (remains (Some h) scene after) scene.trees trees scene.active h (distinct scene v) (distinct after w) (sym same)
    (λ k part. and_right _ _ (and_left _ _ (not_from_true _ part)))
    (λ k part. and_right _ _ (and_right _ _ (not_from_true _ part)))

loaded : (scene : Scene) (h : ℕ) → IsValid scene → IsValid (record scene { active = h }) → KeepOrder (Some h) scene (record scene { active = h })
loaded scene h v w =
    let after : Scene = record scene { active = h } in
    load-kept (remains (Some h) scene after) scene.trees scene.active h (distinct_once scene.trees v.trees.once)
    v.trees.above_top v.trees.above_system w.trees.above_top w.trees.above_system
    (λ k out. and_left _ _ (and_left _ _ out)) (λ k out. and_left _ _ (and_right _ _ out))

-- a tree that goes to another place below its parent
moved-to : (parent : Option Object) (trees : Forest Object) (h n : ℕ) → cut_by (is_at h) (at_index_below parent trees h n) ≡ cut_by (is_at h) trees
moved-to None trees h n = refl
moved-to (Some p) trees h n = cut-moved (is_at h) (is_at p.handle) n trees

moved-last : (parent : Option Object) (trees : Forest Object) (h : ℕ) → cut_by (is_at h) (last_below parent trees h) ≡ cut_by (is_at h) trees
moved-last None trees h = refl
moved-last (Some p) trees h = cut-moved_last (is_at h) (is_at p.handle) trees

keeps : (scene : Scene) (change : Change) → IsValid scene → IsValid (scene_after scene change) → KeepOrder (named change) scene (scene_after scene change)
keeps scene (change.Screen n) v w = edited scene _ scene.book n.0 v w (cut-last (is_at n.0) scene.trees (new_object n.0 _) (eq-eqb n.0 n.0 refl))
keeps scene (change.New n p kind) v w = edited scene _ scene.book n.0 v w (cut-added (is_at n.0) (is_at p.0) (new_object n.0 kind) scene.trees (eq-eqb n.0 n.0 refl))
keeps scene (change.Delete h) v w = edited scene _ _ h.0 v w (cut-deleted (is_at h.0) scene.trees)
keeps scene (change.Parent h p) v w = edited scene _ scene.book h.0 v w (cut-moved_last (is_at h.0) (is_at p.0) scene.trees)
keeps scene (change.Index h n) v w = edited scene _ scene.book h.0 v w (moved-to (parent_object scene h.0) scene.trees h.0 n)
keeps scene (change.Front h) v w = edited scene _ scene.book h.0 v w (moved-last (parent_object scene h.0) scene.trees h.0)
keeps scene (change.Back h) v w = edited scene _ scene.book h.0 v w (moved-to (parent_object scene h.0) scene.trees h.0 0)
keeps scene (change.Load h) v w = loaded scene h.0 v w
keeps scene change v w = ap (λ t. filter (at (remains (named change) scene (scene_after scene change))) (entries_in t)) (sym (after-order scene change (setter_of change) (styling_in scene change) (asset_change_in scene change) refl))

pub others_keep_order : OthersKeepOrder
others_keep_order scene change v c = by (answer_of scene change) (change_keeps_valid scene change v c) where
  by : (answer : Option Refusal) → IsValid (scene_by answer scene change) → KeepOrder (named change) scene (scene_by answer scene change)
  by None w = keeps scene change v w
  by (Some refusal) w = refl
