-- Whether an object lies below another, or below a user of a style: whether the walk up from it meets one.
use Rattle.std.proofs.Common.{◌≡◌, ◌∙◌, sym, ap, refl, ℕ, ◌<◌, Bool, true, false, eqb, ◌||◌, List, [], ◌∷◌, map, length, Option, Some, None, is_some, option_map, arith}
use Rattle.std.specs.List.{list_any}
use Rattle.std.proofs.lemmas.Bool.{false≢true}
use Rattle.gui_base.specs.Forest.{Forest, parent_of, path_of, with_row_by, StandsOnce}
use Rattle.gui_base.specs.declared.Handle.{Handle}
use Rattle.gui_base.specs.declared.refusal.Refusal.{Refusal}
use Rattle.gui_base.proofs.Forests.{map-path_by, map-with_row_by}
use Rattle.gui_tree.specs.Handles.{as_handle}
use Rattle.gui_tree.specs.Walks.{line_of, line_from}
use Rattle.gui_tree.proofs.Paths.{line_step, any_line}
use Rattle.scene_defs.specs.declared.Change.{Change}
use Rattle.scene_defs.specs.declared.Change.TheVariants as change
use Rattle.scene_defs.specs.Assets.{AssetChange}
use Rattle.scene_defs.specs.Change.{answer_of, after_by, styling_in, asset_change_in, scene_by, changed}
use Rattle.scene_defs.specs.Edits.{over_row, over_text}
use Rattle.scene_defs.specs.Row.{Setter}
use Rattle.scene_defs.specs.Deeds.{setter_of}
use Rattle.scene_defs.specs.Scene.{Object, Scene, handle_of, handles_of, is_at, path_at}
use Rattle.scene_defs.specs.Styling.{Styling}
use Rattle.debt_defs.specs.Concerns.{lies_in}
use Rattle.debt_defs.specs.SceneLook.{is_among}
use Rattle.debt_defs.specs.Orders.{sets_text, leaves_trees}
use Rattle.gui_style.specs.Styles.{uses_style}
use Rattle.gui_concerns.specs.Concerned.{is_below, is_below_user}

-- whether the walk up meets what passes a test from here on
abbrev pub meets_from : Forest ℕ → (ℕ → Bool) → Option Handle → Bool
meets_from f test o = list_any test (line_from o f)

-- how many steps are left
abbrev pub steps_from : Forest ℕ → Option Handle → ℕ
steps_from f o = length (line_from o f)

-- one step up from k
pub record Climbs (f : Forest ℕ) (test : ℕ → Bool) (k : Handle) (next : Option Handle) : Type 0 where
  pub met : test k.0 ≡ false → meets_from f test (Some k) ≡ meets_from f test next
  pub fewer : steps_from f next < steps_from f (Some k)

pub climbs : (f : Forest ℕ) (test : ℕ → Bool) (k : Handle) (next : Option Handle) → StandsOnce f → next ≡ option_map as_handle (parent_of f k.0) → Climbs f test k next
climbs f test k next once up =
    let line : line_of f k.0 ≡ k.0 ∷ line_from next f = line_step f k.0 once ∙ ap (λ (o : Option Handle). k.0 ∷ line_from o f) (sym up) in
    record {
      met = λ off. ap (list_any test) line ∙ ap (λ (b : Bool). b || list_any test (line_from next f)) off;
      fewer = omega (arith, ap (λ (hs : List ℕ). length hs) line);
    }

-- A path as handles.
any-handle : (test : ℕ → Bool) (objects : List Object) → list_any (λ (object : Object). test object.handle) objects ≡ list_any test (map handle_of objects)
any-handle test [] = refl
any-handle test (object ∷ objects) = rw (any-handle test objects) refl

any-above : (scene : Scene) (test : ℕ → Bool) (k : ℕ) → list_any (λ (object : Object). test object.handle) (path_at scene k) ≡ list_any test (path_of (handles_of scene.trees) k)
any-above scene test k = any-handle test (path_at scene k) ∙ ap (list_any test) (map-path_by handle_of (λ j. eqb j k) [] scene.trees)

lies-among : (scene : Scene) (h k : ℕ) → lies_in scene h k ≡ is_among (path_of (handles_of scene.trees) k) h
lies-among scene h k = any-above scene (λ j. eqb j h) k

-- it lies below what is on its path
pub below_path : (scene : Scene) (h k : ℕ) → (eqb k h || list_any (λ j. eqb j h) (path_of (handles_of scene.trees) k)) ≡ is_below scene h k
below_path scene h k = ap (λ (b : Bool). eqb k h || b) (sym (lies-among scene h k))

pub user_path : (scene : Scene) (number k : ℕ) → (uses_style scene.book k number || list_any (λ j. uses_style scene.book j number) (path_of (handles_of scene.trees) k)) ≡ is_below_user scene number k
user_path scene number k = ap (λ (b : Bool). uses_style scene.book k number || b) (sym (any-above scene (λ j. uses_style scene.book j number) k))

-- and what the walk up meets
pub below_met : (scene : Scene) (h k : ℕ) → StandsOnce (handles_of scene.trees) → list_any (λ j. eqb j h) (line_of (handles_of scene.trees) k) ≡ is_below scene h k
below_met scene h k once = sym (any_line (handles_of scene.trees) (λ j. eqb j h) k once) ∙ below_path scene h k

pub user_met : (scene : Scene) (number k : ℕ) → StandsOnce (handles_of scene.trees) → list_any (λ j. uses_style scene.book j number) (line_of (handles_of scene.trees) k) ≡ is_below_user scene number k
user_met scene number k once = sym (any_line (handles_of scene.trees) (λ j. uses_style scene.book j number) k once) ∙ user_path scene number k

-- Changes that leave the trees leave what lies below an object.
set-handles : (h : ℕ) (f : Object → Object) → ((object : Object) → (f object).handle ≡ object.handle) → (g : Forest Object) →
    handles_of (with_row_by (is_at h) f g) ≡ handles_of g
set-handles h f stays g = map-with_row_by handle_of (λ k. true) (is_at h) f stays g

pub after-handles : (scene : Scene) (change : Change) (setter : Option Setter) (styling : Option Styling) (assets : Option AssetChange) →
    (is_some (option_map (λ (s : Setter). s.handle) setter) || (sets_text change || (is_some styling || is_some assets))) ≡ true →
    handles_of (after_by setter styling assets scene change).trees ≡ handles_of scene.trees
after-handles scene change (Some setter) styling assets leaves = set-handles setter.handle.0 (over_row setter.after) (λ object. refl) scene.trees
after-handles scene change None (Some styling) assets leaves = refl
after-handles scene change None None (Some assets) leaves = refl
after-handles scene (change.Text h text) None None None leaves = set-handles h.0 (over_text text) (λ object. refl) scene.trees
after-handles scene (change.Screen n) None None None leaves = absurd (false≢true leaves)
after-handles scene change None None None leaves = absurd (false≢true leaves)

pub handles-stay : (scene : Scene) (change : Change) → leaves_trees scene change ≡ true → handles_of (changed scene change).trees ≡ handles_of scene.trees
handles-stay scene change leaves = by (answer_of scene change) where
  by : (answer : Option Refusal) → handles_of (scene_by answer scene change).trees ≡ handles_of scene.trees
  by None = after-handles scene change (setter_of change) (styling_in scene change) (asset_change_in scene change) leaves
  by (Some refusal) = refl

pub below_stays : (scene : Scene) (change : Change) (h k : ℕ) → leaves_trees scene change ≡ true → is_below (changed scene change) h k ≡ is_below scene h k
below_stays scene change h k leaves =
    let after = changed scene change in
    let lies : lies_in after h k ≡ lies_in scene h k =
    lies-among after h k ∙ (ap (λ (f : Forest ℕ). is_among (path_of f k) h) (handles-stay scene change leaves) ∙ sym (lies-among scene h k)) in
    ap (λ (b : Bool). eqb k h || b) lies
