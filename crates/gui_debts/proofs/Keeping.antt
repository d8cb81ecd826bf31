-- Bars that are kept in few bytes.
use Rattle.std.proofs.Common.{◌≡◌, ◌∙◌, ap, refl, ℕ, ℤ, pos, ◌+ℤ◌, ◌-ℤ◌, arith, Bool, true, false, ◌++◌, ◌==◌, if◌then◌else◌, Option, Some, None, List, [], ◌∷◌}
use Rattle.std.proofs.lemmas.Bool.{and_parts, eqb-true}
use Rattle.std.proofs.lemmas.Int.{ints, clamps}
use Rattle.std.specs.Int.{int_max, int_min}
use Rattle.gui_base.specs.Area.{Rect}
use Rattle.gui_base.specs.declared.color.Rgb565.{Rgb565}
use Rattle.widget_defs.specs.Items.{Item, bottom_bar, fill_of, right_bar}
use Rattle.widget_defs.specs.Looks.{Look, PartValues}
use Rattle.scene_defs.specs.Items.{bar_look, bars, bars_of, items, items_of as paint_of}
use Rattle.scene_defs.specs.Place.{place}
use Rattle.scene_defs.specs.Scene.{Object, Scene, object_at}
use Rattle.debt_defs.specs.Same.{same_color}
use Rattle.debt_defs.proofs.Samenesses.{visible-is}
use Rattle.gui_debts.specs.Bars.{Kept, items_in, kept_of, same_kept}
use Rattle.gui_debts.specs.Kept.{bottom_of, narrow, right_of, wide}
use Rattle.gui_debts.specs.Seen.{place_in}

-- the bars of an object are made again of what is kept of them
abbrev bar : Bool → Rect → PartValues → List Item
bar fits area values = if fits then [] else fill_of area values ∷ []

kept-again : (scrollable right bottom : Bool) (some other : Rect) (values : PartValues) →
    items_in (kept_of (if scrollable then bar right some values ++ bar bottom other values else [])) ≡ (if scrollable then bar right some values ++ bar bottom other values else [])
kept-again false right bottom some other values = refl
kept-again true true true some other values = refl
kept-again true true false some other values = refl
kept-again true false true some other values = refl
kept-again true false false some other values = refl

bars-again : (scene : Scene) (object : Option Object) (at : Option Rect) → items_in (kept_of (bars_of scene object at)) ≡ bars_of scene object at
bars-again scene None at = refl
bars-again scene (Some object) None = refl
bars-again scene (Some object) (Some area) =
    let look = bar_look scene object in
    kept-again look.scrollable (look.reach.1 == 0) (look.reach.0 == 0) (right_bar look area) (bottom_bar look area) look.scrollbar

-- and so they are of what is kept beside their place
int-least : (x : ℤ) → x ≡ int_min x (((x -ℤ pos 3) +ℤ pos 4) -ℤ pos 1)
int-least x = omega (arith, ints, clamps)

right-again : (look : Look) (place : Rect) → right_of place (right_bar look place) ≡ right_bar look place
right-again look place = λ i. record {
  x1 = int_max place.x1 (place.x2 -ℤ pos 3);
  y1 = (right_bar look place).y1;
  x2 = int-least place.x2 i;
  y2 = (right_bar look place).y2;
}

bottom-again : (look : Look) (place : Rect) → bottom_of place (bottom_bar look place) ≡ bottom_bar look place
bottom-again look place = λ i. record {
  x1 = (bottom_bar look place).x1;
  y1 = int_max place.y1 (place.y2 -ℤ pos 3);
  x2 = (bottom_bar look place).x2;
  y2 = int-least place.y2 i;
}

abbrev two : Rect → Rect → PartValues → List Item
two right bottom values = fill_of right values ∷ fill_of bottom values ∷ []

wide-again : (scrollable right bottom : Bool) (at some other : Rect) (values : PartValues) → right_of at some ≡ some → bottom_of at other ≡ other →
    items_in (wide (narrow (kept_of (if scrollable then bar right some values ++ bar bottom other values else []))) (Some at)) ≡ (if scrollable then bar right some values ++ bar bottom other values else [])
wide-again false right bottom at some other values r b = refl
wide-again true true true at some other values r b = refl
wide-again true true false at some other values r b = refl
wide-again true false true at some other values r b = refl
wide-again true false false at some other values r b =
    ap (λ (x : Rect). two x (bottom_of at other) values) r ∙ ap (λ (x : Rect). two some x values) b

wide-seen : (scene : Scene) (object : Option Object) (at : Option Rect) → items_in (wide (narrow (kept_of (bars_of scene object at))) (place_in (paint_of scene object at))) ≡ bars_of scene object at
wide-seen scene None at = refl
wide-seen scene (Some object) None = refl
wide-seen scene (Some object) (Some area) =
    let look = bar_look scene object in
    wide-again look.scrollable (look.reach.1 == 0) (look.reach.0 == 0) area (right_bar look area) (bottom_bar look area) look.scrollbar (right-again look area) (bottom-again look area)

pub bars-seen : (scene : Scene) (h : ℕ) → items_in (wide (narrow (kept_of (bars scene h))) (place_in (items scene h))) ≡ bars scene h
bars-seen scene h = wide-seen scene (object_at scene h) (place scene h)

pub bars-kept : (scene : Scene) (h : ℕ) → items_in (kept_of (bars scene h)) ≡ bars scene h
bars-kept scene h = bars-again scene (object_at scene h) (place scene h)

color-is : (a b : Rgb565) → same_color a b ≡ true → a ≡ b
color-is a b same = ap (λ (n : ℕ). rgb n) (eqb-true a.0 b.0 same) where
  rgb : ℕ → Rgb565
  rgb n = record { 0 = n }

-- what is the same is equal
pub same-kept : (a b : Kept) → same_kept a b ≡ true → a ≡ b
same-kept a b same =
    let both = and_parts _ _ same in
    let areas = and_parts _ _ both.0 in
    let fill = and_parts _ _ both.1 in
    let first : a.first ≡ b.first = visible-is a.first b.first areas.0 in
    let second : a.second ≡ b.second = visible-is a.second b.second areas.1 in
    let color : a.color ≡ b.color = color-is a.color b.color fill.0 in
    let opa : a.opa ≡ b.opa = eqb-true a.opa b.opa fill.1 in
    λ i. record { first = first i; second = second i; color = color i; opa = opa i }
