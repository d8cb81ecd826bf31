-- The items that can be painted.
use Rattle.std.specs.Prelude.{◌≡◌, ◌&&◌, ℕ, Bool, true, false, nat_le, List, Some}
use Rattle.gui_base.specs.Area.{Rect, width_of}
use Rattle.text_defs.specs.Building.{is_finished}
use Rattle.text_defs.specs.Fonts.{Font, finished}
use Rattle.text_defs.specs.declared.TextLook.{TextLook}
use Rattle.widget_defs.specs.declared.ItemPaint.{ItemPaint}
use Rattle.widget_defs.specs.declared.ItemPaint.TheVariants.{Fill, Ring, Ink, Picture}
use Rattle.widget_defs.specs.Items.{Item}
use Rattle.gui_widgets.specs.Texts.{IsSetIn}

-- the most pixels that a text can be set in
abbrev pub widest_area : ℕ
widest_area = 400000

-- a text's font is finished, and the text is set in an area that is not too wide
pub record IsDrawable (fonts : List Font) (area : Rect) (look : TextLook) : Type 0 where
  pub finished : finished fonts look.font ≡ Some true
  pub set : IsSetIn widest_area area look

abbrev pub IsPaintableIn : List Font → Rect → ItemPaint → Type 0
IsPaintableIn fonts area (Ink look color opa) = IsDrawable fonts area look
IsPaintableIn fonts area (Fill color opa) = Unit {0}
IsPaintableIn fonts area (Ring width color opa) = Unit {0}
IsPaintableIn fonts area (Picture image recolor opa) = Unit {0}

-- the text of an item, if it has one, can be drawn
abbrev pub IsPaintable : List Font → Item → Type 0
IsPaintable fonts item = IsPaintableIn fonts item.area item.paint

-- whether an item has no text
abbrev pub is_plain_paint : ItemPaint → Bool
is_plain_paint (Ink look color opa) = false
is_plain_paint (Fill color opa) = true
is_plain_paint (Ring width color opa) = true
is_plain_paint (Picture image recolor opa) = true

abbrev pub is_plain : Item → Bool
is_plain item = is_plain_paint item.paint

-- whether the text of an item, if it has one, can be drawn
abbrev pub is_drawable_paint : List Font → Rect → ItemPaint → Bool
is_drawable_paint fonts area (Ink look color opa) =
    is_finished fonts look.font && (nat_le look.letter 100 && (nat_le look.line 100 && nat_le (width_of area) widest_area))
is_drawable_paint fonts area (Fill color opa) = true
is_drawable_paint fonts area (Ring width color opa) = true
is_drawable_paint fonts area (Picture image recolor opa) = true

abbrev pub is_drawable : List Font → Item → Bool
is_drawable fonts item = is_drawable_paint fonts item.area item.paint
