-- What drawing the text of an item asks for.
use Rattle.std.specs.Prelude.{◌≡◌, ◌≤◌, ℕ, max, None}
use Rattle.gui_base.specs.Area.{Rect, width_of}
use Rattle.text_defs.specs.declared.TextLook.{TextLook}
use Rattle.widget_defs.specs.declared.ItemPaint.{ItemPaint}
use Rattle.widget_defs.specs.declared.ItemPaint.TheVariants.{Fill, Ring, Ink, Picture}
use Rattle.widget_defs.specs.declared.kinds.Shown.TheVariants.{BoxAndText}
use Rattle.widget_defs.specs.Items.{Item}
use Rattle.widget_defs.specs.Kinds.{shows}
use Rattle.widget_defs.specs.Looks.{Look}
use Rattle.widget_defs.specs.Sizes.{text_size}

-- the widest run that a text can have
abbrev pub widest_text : ℕ
widest_text = 355000

-- letters and lines stand no further apart than they may, and the area is so wide at most
pub record IsSetIn (most : ℕ) (area : Rect) (look : TextLook) : Type 0 where
  pub letter : look.letter ≤ 100
  pub line : look.line ≤ 100
  pub wide : width_of area ≤ most

abbrev pub IsPaintIn : ℕ → Rect → ItemPaint → Type 0
IsPaintIn most area (Ink look color opa) = IsSetIn most area look
IsPaintIn most area (Fill color opa) = Unit {0}
IsPaintIn most area (Ring width color opa) = Unit {0}
IsPaintIn most area (Picture image recolor opa) = Unit {0}

-- the text of an item, if it has one, is set so, in no more pixels than a place of this width or a text has
abbrev pub IsTextIn : ℕ → Item → Type 0
IsTextIn width item = IsPaintIn (max width widest_text) item.area item.paint

-- a text beside a box is no wider than a text can be
abbrev pub IsCaption : Look → Type 0
IsCaption look = shows look.kind ≡ BoxAndText → (text_size look None).0 ≤ widest_text
