-- Bars, as they are kept beside the place of their object.
use Rattle.std.specs.Prelude.{ℕ, Bool, true, false, ◌-ℤ◌, pos, Some, None, option_map}
use Rattle.std.specs.declared.option.Option.{Option}
use Rattle.std.specs.Int.{int_max}
use Rattle.gui_base.specs.Area.{Rect}
use Rattle.gui_base.specs.Corners.{rect_of}
use Rattle.gui_base.specs.declared.color.Rgb565.{Rgb565}
use Rattle.gui_debts.specs.Bars.{Kept}
use Rattle.gui_debts.specs.declared.kept.KeptBars.{KeptBars}
use Rattle.gui_debts.specs.declared.kept.ShownBars.{ShownBars}
use Rattle.gui_debts.specs.declared.kept.ShownBars.TheVariants.{Nothing, One, Two}

-- the lines of one area, and the columns of another
abbrev pub crossed : Rect → Rect → Rect
crossed lines columns = record { x1 = columns.x1; y1 = lines.y1; x2 = columns.x2; y2 = lines.y2 }

-- of the last four columns of a place some lines, and of its last four lines some columns
abbrev pub right_of : Rect → Rect → Rect
right_of place lines =
    record { x1 = int_max place.x1 (place.x2 -ℤ pos 3); y1 = lines.y1; x2 = place.x2; y2 = lines.y2 }

abbrev pub bottom_of : Rect → Rect → Rect
bottom_of place columns =
    record { x1 = columns.x1; y1 = int_max place.y1 (place.y2 -ℤ pos 3); x2 = columns.x2; y2 = place.y2 }

-- whether there are none
abbrev pub shows_none : ShownBars → Bool
shows_none Nothing = true
shows_none One = false
shows_none Two = false

-- what is kept: of one bar its area, and of two the lines of the first and the columns of the second
pub record Packed : Type 0 where
  pub shown : ShownBars
  pub area : Rect
  pub color : Rgb565
  pub opa : ℕ

abbrev pub packed_in : KeptBars → Packed
packed_in bars =
    record { shown = bars.shown; area = rect_of bars.area; color = bars.color; opa = bars.opa }

abbrev pub narrow_of : Option Rect → Option Rect → Rgb565 → ℕ → Packed
narrow_of None second color opa = record {
  shown = Nothing;
  area = record { x1 = pos 0; y1 = pos 0; x2 = pos 0; y2 = pos 0 };
  color = color;
  opa = opa;
}
narrow_of (Some bar) None color opa = record { shown = One; area = bar; color = color; opa = opa }
narrow_of (Some right) (Some bottom) color opa =
    record { shown = Two; area = crossed right bottom; color = color; opa = opa }

abbrev pub narrow : Kept → Packed
narrow kept = narrow_of kept.first kept.second kept.color kept.opa

-- the bars of what is kept, by the place of their object
abbrev pub first_of : ShownBars → Rect → Option Rect → Option Rect
first_of Nothing area place = None
first_of One area place = Some area
first_of Two area place = option_map (λ at. right_of at area) place

abbrev pub second_of : ShownBars → Rect → Option Rect → Option Rect
second_of Nothing area place = None
second_of One area place = None
second_of Two area place = option_map (λ at. bottom_of at area) place

abbrev pub wide : Packed → Option Rect → Kept
wide packed place = record {
  first = first_of packed.shown packed.area place;
  second = second_of packed.shown packed.area place;
  color = packed.color;
  opa = packed.opa;
}
