-- The fonts that styles name.
use Rattle.std.specs.Prelude.{◌≡◌, ℤ, Bool, true, not, ◌||◌, List}
use Rattle.std.specs.List.{All}
use Rattle.gui_base.specs.Area.{nat_of}
use Rattle.gui_base.specs.Words.{same_prop}
use Rattle.gui_base.specs.declared.props.Prop.{Prop}
use Rattle.gui_base.specs.declared.props.Prop.TheVariants.{TextFont}
use Rattle.style_defs.specs.Book.{Book}
use Rattle.style_defs.specs.Cascade.{Style}
use Rattle.style_defs.specs.declared.Entry.{Entry}
use Rattle.style_defs.specs.declared.Setting.{Setting}
use Rattle.text_defs.specs.Building.{is_finished}
use Rattle.text_defs.specs.Fonts.{Font}

-- whether a value names a font that is finished, where its property is a font
abbrev pub is_ready : List Font → Prop → ℤ → Bool
is_ready fonts prop value = not (same_prop prop TextFont) || is_finished fonts (nat_of value)

module _ (fonts : List Font) where
  abbrev pub IsReadySetting : Setting → Type 0
  IsReadySetting setting = is_ready fonts setting.prop setting.value ≡ true

  abbrev pub IsReadyEntry : Entry → Type 0
  IsReadyEntry entry = is_ready fonts entry.prop entry.value ≡ true

  abbrev pub IsReadyStyle : Style → Type 0
  IsReadyStyle style = All IsReadySetting style.settings

  -- each font that a style or an object names is finished
  pub record AreReady (book : Book) : Type 0 where
    pub settings : All IsReadyStyle book.styles
    pub locals : All (All IsReadyEntry) book.locals
