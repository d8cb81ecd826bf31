-- What the bars of an object go by.
use Rattle.std.proofs.Common.{◌≡◌, ◌∙◌, ◌≤◌, refl, sym, ap, ℕ, Bool, true, false, min, if◌then◌else◌, Option, Some, None, unwrap_or, option_map, [], arith}
use Rattle.std.specs.Prelude.{IfSome, MatchOption}
use Rattle.std.proofs.lemmas.Bool.Decides.{nat_tests}
use Rattle.gui_base.specs.declared.words.Flag.TheVariants.{Scrollable}
use Rattle.gui_base.specs.declared.area.Area.{Area}
use Rattle.gui_base.specs.Area.{Rect}
use Rattle.gui_base.specs.Corners.{rect_of}
use Rattle.layout_defs.specs.Laws.{row_by, is_placed_at}
use Rattle.layout_defs.specs.Reach.{IsNear}
use Rattle.layout_defs.specs.Solving.{Placed, Span, no_span, offset_at}
use Rattle.widget_defs.specs.Items as widget
use Rattle.widget_defs.specs.Looks.{Look}
use Rattle.scene_defs.specs.declared.Row.{Row}
use Rattle.scene_defs.specs.Items.{bar_look, bars, bars_of, pair_of}
use Rattle.scene_defs.specs.Looks.{look_of}
use Rattle.scene_defs.specs.Place.{offset, place, reach, solved_of}
use Rattle.scene_defs.specs.Row.{is_on}
use Rattle.scene_defs.specs.Scene.{Object, Scene, is_there, object_at, row_at, row_of}
use Rattle.gui_layout.specs.Painted.{ShowsBarsIn}
use Rattle.gui_layout.specs.Scenes.{object_with}
use Rattle.gui_boxes.specs.Scrolls.{span_from}
use Rattle.gui_layout.proofs.SceneBoxes.{named, object_found}

-- two numbers, or none
pub pair_is : (n : Option (ℕ × ℕ)) (s : Option Span) → option_map span_from n ≡ s → unwrap_or n (0, 0) ≡ pair_of s
pair_is None s is = ap pair_of is
pair_is (Some n) s is = ap pair_of is

-- no object moves its children further than they reach
abbrev IsWithin : ℕ × ℕ → ℕ × ℕ → Type 0
IsWithin some others = (some.0 ≤ others.0) × (some.1 ≤ others.1)

least : (m n : ℕ) → min m n ≤ n
least m n = grind (arith, nat_tests)

offset_by : (scrollable : Bool) (across down : ℕ) (reach : Span) →
    IsWithin (pair_of (Some (if scrollable then record { across = min across reach.across; down = min down reach.down } else no_span))) (pair_of (Some reach))
offset_by true across down reach = (least across reach.across, least down reach.down)
offset_by false across down reach = (omega arith, omega arith)

abbrev reach_of : Placed → Span
reach_of p = p.reach

offset_placed : (p : Option Placed) → IsWithin (pair_of (option_map offset_at p)) (pair_of (option_map reach_of p))
offset_placed None = (omega arith, omega arith)
offset_placed (Some p) = offset_by p.tall.box.scrollable p.tall.box.across.scroll p.tall.box.down.scroll p.reach

pub offset_within : (scene : Scene) (h : ℕ) → IsWithin (pair_of (offset scene h)) (pair_of (reach scene h))
unfolding reach offset
offset_within scene h = offset_placed (row_by (is_placed_at h) (solved_of scene))

-- a look with both is that of the bars
pub shows_bars : (scene : Scene) (h : ℕ) (look : Look) (r o : ℕ × ℕ) → Some look ≡ option_map (look_of scene) (object_at scene h) → r ≡ pair_of (reach scene h) → o ≡ pair_of (offset scene h) →
    Some (record look { reach = r; offset = o }) ≡ option_map (bar_look scene) (object_at scene h)
shows_bars scene h look r o is far by = go (object_at scene h) refl is where
  go : (x : Option Object) → object_at scene h ≡ x → Some look ≡ option_map (look_of scene) x → Some (record look { reach = r; offset = o }) ≡ option_map (bar_look scene) x
  go None e f = cc
  go (Some object) e f =
      let same : look ≡ look_of scene object = cc in
      let handle = sym (named scene.trees h object e) in
      let reaches = far ∙ ap (λ (k : ℕ). pair_of (reach scene k)) handle in
      let moves = by ∙ ap (λ (k : ℕ). pair_of (offset scene k)) handle in
      λ i. Some (record (same i) { reach = reaches i; offset = moves i })

-- the bars of an object by its look and its place
look_bars : (scene : Scene) (area : Rect) (look : Look) (x : Option Object) → Some look ≡ option_map (bar_look scene) x → widget.bars look area ≡ bars_of scene x (Some area)
look_bars scene area look None is = cc
look_bars scene area look (Some object) is =
    let same : look ≡ bar_look scene object = cc in
    ap (λ (l : Look). widget.bars l area) same

pub bars_of_look : (scene : Scene) (h : ℕ) (area : Rect) (look : Look) → Some look ≡ option_map (bar_look scene) (object_at scene h) → place scene h ≡ Some area → widget.bars look area ≡ bars scene h
bars_of_look scene h area look is at = look_bars scene area look (object_at scene h) is ∙ ap (bars_of scene (object_at scene h)) (sym at)

-- What has no row, no place, or no scrollable children shows no bars.
pub no_row : (scene : Scene) (h : ℕ) → None ≡ row_at scene h → bars scene h ≡ []
no_row scene h none = go (object_at scene h) none where
  go : (x : Option Object) → None ≡ option_map row_of x → bars_of scene x (place scene h) ≡ []
  go None e = refl
  go (Some object) e = cc

pub no_place : (scene : Scene) (h : ℕ) → place scene h ≡ None → bars scene h ≡ []
no_place scene h none = ap (bars_of scene (object_at scene h)) none ∙ go (object_at scene h) where
  go : (x : Option Object) → bars_of scene x None ≡ []
  go None = refl
  go (Some object) = refl

pub not_scrollable : (scene : Scene) (h : ℕ) (row : Row) → Some row ≡ row_at scene h → is_on row.flags Scrollable ≡ false → bars scene h ≡ []
not_scrollable scene h row is off = ap (λ (x : Option Object). bars_of scene x (place scene h)) (object_found scene h row is) ∙ go (place scene h) where
  object : Object
  object = object_with scene h row

  go : (area : Option Rect) → bars_of scene (Some object) area ≡ []
  go None = refl
  go (Some area) = rw off refl

-- a scrollable object that is there, by what is told of its place
pub stands_or_not : (scene : Scene) (h : ℕ) (told : Option Area) → is_there scene h ≡ true → option_map rect_of told ≡ place scene h → IfSome told (λ area. IsNear (rect_of area)) →
    MatchOption told (bars scene h ≡ []) (λ area. ShowsBarsIn scene h (rect_of area))
stands_or_not scene h None there is near = no_place scene h (sym is)
stands_or_not scene h (Some area) there is near = record { there = there; stands = sym is; near = near }
