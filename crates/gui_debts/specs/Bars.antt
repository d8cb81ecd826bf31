-- Bars, as they are kept in few bytes.
use Rattle.std.specs.Prelude.{ℕ, Bool, ◌&&◌, ◌==◌, Some, None, List, [], ◌∷◌, ◌++◌, option_map}
use Rattle.std.specs.declared.option.Option.{Option}
use Rattle.gui_base.specs.Area.{Rect}
use Rattle.gui_base.specs.Color.{black}
use Rattle.gui_base.specs.Corners.{rect_of}
use Rattle.gui_base.specs.declared.color.Rgb565.{Rgb565}
use Rattle.pack_defs.specs.Packing.{color_of, opa_of}
use Rattle.widget_defs.specs.declared.ItemPaint.TheVariants.{Fill}
use Rattle.widget_defs.specs.Items.{Item}
use Rattle.debt_defs.specs.Same.{same_color, same_visible}
use Rattle.gui_debts.specs.declared.bars.Bars.{Bars}

-- at most two areas, which are filled alike
pub record Kept : Type 0 where
  pub first : Option Rect
  pub second : Option Rect
  pub color : Rgb565
  pub opa : ℕ

abbrev pub kept_in : Bars → Kept
kept_in bars = record {
  first = option_map rect_of bars.first;
  second = option_map rect_of bars.second;
  color = bars.color;
  opa = bars.opa;
}

abbrev pub no_bars : Kept
no_bars = record { first = None; second = None; color = black; opa = 0 }

-- an area that is filled, if there is one
abbrev pub bar_in : Option Rect → Rgb565 → ℕ → List Item
bar_in None color opa = []
bar_in (Some area) color opa = record { area = area; paint = Fill color opa } ∷ []

-- the bars, from back to front
abbrev pub items_in : Kept → List Item
items_in kept = bar_in kept.first kept.color kept.opa ++ bar_in kept.second kept.color kept.opa

abbrev pub bars_in : Bars → List Item
bars_in bars = items_in (kept_in bars)

-- what is kept of items that are bars
abbrev pub kept_of : List Item → Kept
kept_of (bar ∷ []) =
    record { first = Some bar.area; second = None; color = color_of bar.paint; opa = opa_of bar.paint }
kept_of (bar ∷ other ∷ []) = record {
  first = Some bar.area;
  second = Some other.area;
  color = color_of bar.paint;
  opa = opa_of bar.paint;
}
kept_of items = no_bars

-- whether the same areas are filled alike
abbrev pub same_kept : Kept → Kept → Bool
same_kept a b =
    (same_visible a.first b.first && same_visible a.second b.second)
    && (same_color a.color b.color && (a.opa == b.opa))
