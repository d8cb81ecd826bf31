-- Whether the focus may pass to an object, by its row and the rows above it.
use Rattle.std.proofs.Common.{◌≡◌, ◌∙◌, refl, sym, ap, Bool, false, ◌||◌, ◌&&◌, not, List, [], ◌∷◌, ◌++◌, ℕ}
use Rattle.std.specs.Prelude.{Option, Some, None, is_some, option_map}
use Rattle.std.specs.List.{list_any}
use Rattle.std.specs.Option.{option_to_list}
use Rattle.gui_base.specs.declared.Handle.{Handle}
use Rattle.gui_base.specs.declared.words.State.TheVariants.{Disabled}
use Rattle.gui_tree.specs.Walks.{line_of}
use Rattle.run_defs.specs.Making.{is_hidden, is_usable, is_in, is_in_state, lets_focus}
use Rattle.scene_defs.specs.Scene.{Object, Scene, handles_of, row_of, is_there, object_at, row_at, path_at}
use Rattle.scene_defs.specs.Valid.{IsValid}
use Rattle.gui_board.specs.Hiding.{hides}
use Rattle.gui_board.proofs.Climbs.{objects_at, path_is, path_starts, there_is, StartsAt}

-- whether one of these objects is hidden, by their handles
hidden_at : (scene : Scene) (hs : List ℕ) → list_any is_hidden (objects_at scene hs) ≡ list_any (λ k. hides (row_at scene k)) hs
hidden_at scene [] = refl
hidden_at scene (k ∷ hs) = by (object_at scene k) (hidden_at scene hs) where
  by : (o : Option Object) → list_any is_hidden (objects_at scene hs) ≡ list_any (λ j. hides (row_at scene j)) hs →
      list_any is_hidden (option_to_list o ++ objects_at scene hs) ≡ (hides (option_map row_of o) || list_any (λ j. hides (row_at scene j)) hs)
  by None e = e
  by (Some a) e = ap (λ (b : Bool). is_hidden a || b) e

pub hidden_line : (scene : Scene) (h : ℕ) → IsValid scene → list_any is_hidden (path_at scene h) ≡ list_any (λ k. hides (row_at scene k)) (line_of (handles_of scene.trees) h)
hidden_line scene h valid = ap (list_any is_hidden) (path_is scene valid h) ∙ hidden_at scene (line_of (handles_of scene.trees) h)

usable_is : (scene : Scene) (h : Handle) → is_usable scene h ≡ (is_there scene h.0 && (not (is_in_state Disabled scene h) && not (list_any is_hidden (path_at scene h.0))))
usable_is scene h = by (object_at scene h.0) (path_at scene h.0) (path_starts scene h.0) (there_is scene h.0) where
  by : (o : Option Object) (path : List Object) → StartsAt o path → is_there scene h.0 ≡ is_some o →
      lets_focus path ≡ (is_there scene h.0 && (not (is_in Disabled (option_map row_of o)) && not (list_any is_hidden path)))
  by None path starts there = rw (starts, there) refl
  by (Some a) path starts there = rw (starts.1, there) refl

-- what is not there is not usable
pub gone_unusable : (scene : Scene) (h : Handle) (there : Bool) → there ≡ is_there scene h.0 → there ≡ false → false ≡ is_usable scene h
gone_unusable scene h there e gone = sym (usable_is scene h ∙ ap (λ (b : Bool). b && (not (is_in_state Disabled scene h) && not (list_any is_hidden (path_at scene h.0)))) (sym e ∙ gone))

-- what tests have told of one that may be
pub usable_by : (scene : Scene) (h : Handle) (there disabled hidden : Bool) → there ≡ is_there scene h.0 → disabled ≡ is_in_state Disabled scene h → hidden ≡ list_any is_hidden (path_at scene h.0) →
    (there && (not disabled && not hidden)) ≡ is_usable scene h
usable_by scene h there disabled hidden e f g = rw (e, f, g) (sym (usable_is scene h))
