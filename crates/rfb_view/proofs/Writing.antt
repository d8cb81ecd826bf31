-- A panel without a pixel has no area to write in.
use Rattle.std.proofs.Common.{◌≡◌, ap, refl, ℤ, true, List, [], length, Option, option_map, None, arith}
use Rattle.std.specs.Prelude.{unwrap_or}
use Rattle.std.proofs.lemmas.Int.{ints}
use Rattle.gui_base.specs.declared.color.Rgb565.{Rgb565}
use Rattle.gui_base.specs.Area.{Rect, has, is_within, size_of}
use Rattle.gui_color.proofs.Places.{place_fits}
use Rattle.gui_edge.specs.Panel.{Shows}

corner : (panel area : Rect) → is_within panel area ≡ true → has panel area.x1 area.y1 ≡ true
corner panel area h = grind (arith, ints)

pub none_shown : (panel area : Rect) (color : ℤ → ℤ → Rgb565) (old new : List Rgb565) → is_within panel area ≡ true → length old ≡ size_of panel → old ≡ [] → Shows panel area color old new
none_shown panel area color old new inside all none =
    let few : length old ≡ 0 = ap length none in
    absurd (omega (arith, place_fits panel area.x1 area.y1 (corner panel area inside)))

-- what is not there lends nothing
pub none_lent : {X V : Type 0} (items : V → List X) (lent : Option V) → lent ≡ None → unwrap_or (option_map items lent) [] ≡ []
none_lent items lent e = rw e refl
