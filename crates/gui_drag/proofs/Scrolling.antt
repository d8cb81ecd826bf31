-- What can be scrolled of an object and those above it, and how far it then is.
use Rattle.std.proofs.Common.{◌≡◌, ◌∙◌, refl, sym, ap, subst, ℕ, Bool, true, false, ◌&&◌, inl, inr, List, [], ◌∷◌, ◌++◌, ℤ, cond}
use Rattle.std.specs.Prelude.{Option, Some, None, option_map, find, nat_lt, unwrap_or}
use Rattle.std.specs.Option.{option_to_list}
use Rattle.std.proofs.lemmas.Bool.{cases_Bool, eqb-true}
use Rattle.gui_base.specs.Forest.{Forest, Empty, Tree, has_by}
use Rattle.gui_base.specs.declared.Handle.{Handle}
use Rattle.gui_base.specs.declared.words.Flag.TheVariants.{Scrollable}
use Rattle.gui_boxes.specs.Scrolls.{span_from}
use Rattle.gui_tree.specs.Handles.{as_handle}
use Rattle.gui_tree.specs.Walks.{line_of}
use Rattle.run_defs.specs.Dragging.{along, pair_of, put_scroll, put_scroll_in, reach_of}
use Rattle.run_defs.specs.Dragging as dragging
use Rattle.run_defs.specs.Making.{make}
use Rattle.run_defs.specs.Pointing.{has_flag}
use Rattle.scene_defs.specs.declared.Change.TheVariants as change
use Rattle.scene_defs.specs.declared.Row.{Row}
use Rattle.scene_defs.specs.Scene.{Object, Scene, handles_of, is_at, object_at, object_by, path_at, row_at, row_of}
use Rattle.scene_defs.specs.Valid.{IsValid}
use Rattle.gui_drag.specs.Dragging.{can_scroll, is_scrolled_to}
use Rattle.gui_board.specs.Stages.{Stage, Played}
use Rattle.gui_board.proofs.Climbs.{objects_at, path_is}
use Rattle.gui_board.proofs.Plays.{idle}

-- the object that is found at h is h
found_handle : (f : Forest Object) (h : ℕ) (a : Object) → object_by (is_at h) f ≡ Some a → a.handle ≡ h
found_handle Empty h a e = cc
found_handle (Tree o cs rest) h a e = elim (cases_Bool (is_at h o)) [
  | inl is ↦ let same : o ≡ a = cc (rw is at e) in ap (λ (b : Object). b.handle) (sym same) ∙ eqb-true o.handle h is
  | inr isnt ↦ elim (cases_Bool (has_by (is_at h) cs)) [
    | inl below ↦ found_handle cs h a (rw (isnt, below) at e)
    | inr beside ↦ found_handle rest h a (rw (isnt, beside) at e)
  ]
]

-- The first on a path that can be scrolled.

abbrev pub first_on : Scene → Bool → List Object → Option Handle
first_on scene down path = option_map (λ (a : Object). as_handle a.handle) (find (dragging.can_scroll scene down) path)

-- an object on the path is the first of it, if it can be scrolled
first_step : (scene : Scene) (down : Bool) (h : Handle) (o : Option Object) (rest : List Object) → object_at scene h.0 ≡ o →
    first_on scene down (option_to_list o ++ rest) ≡ cond (has_flag Scrollable (option_map row_of o) && nat_lt 0 (along down (reach_of scene h.0))) (Some h) (first_on scene down rest)
first_step scene down h None rest e = refl
first_step scene down h (Some a) rest e =
    let at : a.handle ≡ h.0 = found_handle scene.trees h.0 a e in
    elim (cases_Bool (dragging.can_scroll scene down a)) [
      | inl can ↦ let here : (has_flag Scrollable (Some a.row) && nat_lt 0 (along down (reach_of scene h.0))) ≡ true = subst (λ (n : ℕ). (has_flag Scrollable (Some a.row) && nat_lt 0 (along down (reach_of scene n))) ≡ true) at can in
          rw (can, here) (ap (λ (n : ℕ). Some (as_handle n)) at)
      | inr cannot ↦ let here : (has_flag Scrollable (Some a.row) && nat_lt 0 (along down (reach_of scene h.0))) ≡ false = subst (λ (n : ℕ). (has_flag Scrollable (Some a.row) && nat_lt 0 (along down (reach_of scene n))) ≡ false) at cannot in
          rw (cannot, here) refl
    ]

-- the same by handles
abbrev pub first_at : Scene → Bool → List ℕ → Option Handle
first_at scene down hs = option_map as_handle (find (λ (k : ℕ). can_scroll scene down (as_handle k)) hs)

first_along : (scene : Scene) (down : Bool) (hs : List ℕ) → first_on scene down (objects_at scene hs) ≡ first_at scene down hs
first_along scene down [] = refl
first_along scene down (k ∷ hs) =
    first_step scene down (as_handle k) (object_at scene k) (objects_at scene hs) refl ∙ by (can_scroll scene down (as_handle k)) (first_along scene down hs) where
      by : (b : Bool) → first_on scene down (objects_at scene hs) ≡ first_at scene down hs →
          cond b (Some (as_handle k)) (first_on scene down (objects_at scene hs)) ≡ option_map as_handle (cond b (Some k) (find (λ (j : ℕ). can_scroll scene down (as_handle j)) hs))
      by true e = refl
      by false e = e

pub first_line : (scene : Scene) (down : Bool) (h : ℕ) → IsValid scene → first_on scene down (path_at scene h) ≡ first_at scene down (line_of (handles_of scene.trees) h)
first_line scene down h valid = ap (first_on scene down) (path_is scene valid h) ∙ first_along scene down (line_of (handles_of scene.trees) h)

-- What places tell.

pub pair_or_none : (o : Option (ℕ × ℕ)) (n : ℕ × ℕ) → n ≡ unwrap_or o (0, 0) → n ≡ pair_of (option_map span_from o)
pair_or_none None n e = e
pair_or_none (Some m) n e = e

-- An object is scrolled so far.

pub scrolled_none : (a : Stage) (x y : ℤ) (h : Handle) → row_at a.machine.scene h.0 ≡ None → Played a a (put_scroll x y h a.machine)
unfolding put_scroll
scrolled_none a x y h e = subst (λ (row : Option Row). Played a a (put_scroll_in row x y h a.machine)) (sym e) (idle a)

pub scrolled_same : (a : Stage) (x y : ℤ) (h : Handle) (row : Row) → row_at a.machine.scene h.0 ≡ Some row → is_scrolled_to row x y ≡ true → Played a a (put_scroll x y h a.machine)
unfolding put_scroll
scrolled_same a x y h row e same = subst (λ (o : Option Row). Played a a (put_scroll_in o x y h a.machine)) (sym e) (rw same (idle a))

pub scrolled_made : (a b : Stage) (x y : ℤ) (h : Handle) (row : Row) → row_at a.machine.scene h.0 ≡ Some row → is_scrolled_to row x y ≡ false →
    Played a b (make (change.Scroll h x y) a.machine) → Played a b (put_scroll x y h a.machine)
unfolding put_scroll
scrolled_made a b x y h row e apart played = subst (λ (o : Option Row). Played a b (put_scroll_in o x y h a.machine)) (sym e) (rw apart played)
