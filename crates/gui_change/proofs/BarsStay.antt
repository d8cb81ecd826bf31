-- Where bars stay as they are.
use Rattle.std.proofs.Common.{◌≡◌, ◌∙◌, refl, sym, ap, ℕ, Bool, true, false, List, [], Option, Some, None, option_map, inl, inr}
use Rattle.std.proofs.lemmas.Bool.{both_ways, cases_Bool, false_from_ne_true}
use Rattle.gui_base.specs.Area.{Rect}
use Rattle.gui_base.specs.Forest.{has}
use Rattle.gui_base.specs.declared.Handle.{Handle}
use Rattle.gui_base.specs.declared.words.Flag.TheVariants.{Scrollable}
use Rattle.layout_defs.specs.Boxes.{Box}
use Rattle.layout_defs.specs.Solving.{Span}
use Rattle.widget_defs.specs.Items.{Item}
use Rattle.widget_defs.specs.Items as widget
use Rattle.widget_defs.specs.Looks.{Look}
use Rattle.scene_defs.specs.declared.Row.{Row}
use Rattle.scene_defs.specs.Items.{bars, bars_of, pair_of}
use Rattle.scene_defs.specs.Looks.{look_of}
use Rattle.scene_defs.specs.Place.{offset, place, reach}
use Rattle.scene_defs.specs.Row.{is_on}
use Rattle.scene_defs.specs.Scene.{Object, Scene, handles_of, is_there, object_at, row_at}
use Rattle.debt_defs.specs.Concerns.{look_at}
use Rattle.gui_layout.specs.Scenes.{scene_box}
use Rattle.gui_layout.specs.Solved.{AreReached}
use Rattle.gui_layout.specs.Tops.{ScrollsStay, in_trees_at, is_over}
use Rattle.gui_layout.specs.declared.places.Places.{Places}
use Rattle.gui_layout.proofs.Bars.{no_row, not_scrollable}
use Rattle.gui_layout.proofs.Overs.{over-is}
use Rattle.gui_layout.proofs.SceneBoxes.{named, row_found, row_gone}
use Rattle.gui_change.specs.Marking.{MovesSame, ScrollsSame}
use Rattle.gui_change.specs.Settled.{LooksSame}

-- bars by what they are made of
abbrev shown : Option Look → ℕ × ℕ → ℕ × ℕ → Option Rect → List Item
shown None far by at = []
shown (Some look) far by None = []
shown (Some look) far by (Some area) = widget.bars (record look { reach = far; offset = by }) area

bars-are : (scene : Scene) (h : ℕ) (object : Option Object) (at : Option Rect) → object_at scene h ≡ object → bars_of scene object at ≡ shown (option_map (look_of scene) object) (pair_of (reach scene h)) (pair_of (offset scene h)) at
bars-are scene h None at is = refl
bars-are scene h (Some object) None is = refl
bars-are scene h (Some object) (Some area) is =
    let handle = named scene.trees h object is in
    ap (λ (k : ℕ). widget.bars (record (look_of scene object) { reach = pair_of (reach scene k); offset = pair_of (offset scene k) }) area) handle

bars-by : (scene : Scene) (h : ℕ) → bars scene h ≡ shown (look_at scene h) (pair_of (reach scene h)) (pair_of (offset scene h)) (place scene h)
bars-by scene h = bars-are scene h (object_at scene h) (place scene h) refl

-- what looks the same, stands in the same place and moves its children as before shows the same bars
moved-alike : (before after : Scene) (h : ℕ) → LooksSame before after h → place after h ≡ place before h → reach after h ≡ reach before h → offset after h ≡ offset before h → bars after h ≡ bars before h
moved-alike before after h same stands far by =
    bars-by after h
    ∙ (ap (λ (l : Option Look). shown l (pair_of (reach after h)) (pair_of (offset after h)) (place after h)) same.look
    ∙ (ap (λ (r : Option Span). shown (look_at before h) (pair_of r) (pair_of (offset after h)) (place after h)) far
    ∙ (ap (λ (o : Option Span). shown (look_at before h) (pair_of (reach before h)) (pair_of o) (place after h)) by
    ∙ (ap (shown (look_at before h) (pair_of (reach before h)) (pair_of (offset before h))) stands ∙ sym (bars-by before h)))))

-- the box of an object that is there tells whether it is scrollable
pub told-scrollable : (scene : Scene) (h : ℕ) (row : Row) → row_at scene h ≡ Some row → is_on row.flags Scrollable ≡ (scene_box scene h).scrollable
told-scrollable scene h row is = ap (λ (b : Box). b.scrollable) (row_found scene h row (sym is)).1

-- what is not scrollable shows none
no-bars : (scene : Scene) (h : ℕ) → (scene_box scene h).scrollable ≡ false → is_there scene h ≡ true → bars scene h ≡ []
no-bars scene h off there = by (row_at scene h) refl where
  by : (row : Option Row) → row_at scene h ≡ row → bars scene h ≡ []
  by None none = absurd (both_ways (is_there scene h) (row_gone scene h (sym none)) there)
  by (Some row) is = not_scrollable scene h row (sym is) (told-scrollable scene h row is ∙ off)

-- So it is for what was settled before and after, where it scrolls as before.
module _ (before after : Scene) (old new : Places) (was : AreReached old before) (is : AreReached new after) where
  pub bars-still : (k : ℕ) → LooksSame before after k → place after k ≡ place before k → MovesSame old new k → bars after k ≡ bars before k
  bars-still k same stands moves = moved-alike before after k same stands (sym (is.reaches k) ∙ (moves.reach ∙ was.reaches k)) (sym (is.offsets k) ∙ (moves.offset ∙ was.offsets k))

  pub bars-alike : (k : ℕ) → LooksSame before after k → place after k ≡ place before k → is_there after k ≡ true → is_there before k ≡ true → scene_box after k ≡ scene_box before k → ScrollsSame old new after k → bars after k ≡ bars before k
  bars-alike k same stands there there_before box scrolls = elim (cases_Bool (scene_box after k).scrollable) [
    | inl on ↦ bars-still k same stands (scrolls on)
    | inr off ↦ no-bars after k off there ∙ sym (no-bars before k (ap (λ (b : Box). b.scrollable) (sym box) ∙ off) there_before)
  ]

-- what is not there shows none
pub gone-bars : (scene : Scene) (h : ℕ) → is_there scene h ≡ false → bars scene h ≡ []
gone-bars scene h gone = by (row_at scene h) refl where
  by : (row : Option Row) → row_at scene h ≡ row → bars scene h ≡ []
  by None none = no_row scene h (sym none)
  by (Some row) is = absurd (both_ways (is_there scene h) gone (row_found scene h row (sym is)).0)

-- What lies in no tree that was solved, and is not marked, scrolls as before: it is over none of these trees, as
-- one that is scrolls nothing.
pub scrolls-same : (old new : Places) (scene : Scene) (m : ℕ → Bool) (us : List Handle) (k : ℕ) → ScrollsStay old new scene m us → has (handles_of scene.trees) k ≡ true → in_trees_at (handles_of scene.trees) us k ≡ false → m k ≡ false →
    ScrollsSame old new scene k
scrolls-same old new scene m us k stays there out unmarked on =
    let trees = handles_of scene.trees in
    let off : is_over trees us k ≡ false = false_from_ne_true (is_over trees us k) (λ over.
    let o = over-is trees us k over in
    both_ways (scene_box scene k).scrollable (stays.steady o.top k o.listed o.parent).still on) in
    record { reach = stays.reaches k there out off unmarked; offset = stays.offsets k there out off unmarked }
