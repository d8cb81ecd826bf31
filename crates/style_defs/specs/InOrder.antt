-- Books that are in order.
use Rattle.std.specs.Prelude.{◌≡◌, ℕ, Bool, true, ◌&&◌, nat_lt, List, [], ◌∷◌, length}
use Rattle.std.specs.List.{All, list_all}
use Rattle.gui_base.specs.Props.{is_value}
use Rattle.style_defs.specs.declared.Entry.{Entry}
use Rattle.style_defs.specs.declared.Setting.{Setting}
use Rattle.style_defs.specs.declared.Use.{Use}
use Rattle.style_defs.specs.Book.{Book, locals_of, uses_of}
use Rattle.style_defs.specs.Cascade.{Style, has_style}

-- whether a style has a smaller number
abbrev pub comes_before : Style → Style → Bool
comes_before style other = nat_lt style.number other.number

-- whether each style has a greater number than those before it
abbrev pub are_ordered : List Style → Bool
are_ordered [] = true
are_ordered (style ∷ styles) = list_all (comes_before style) styles && are_ordered styles

-- Each value that is set is one of its property's.
abbrev pub IsSetting : Setting → Type 0
IsSetting setting = is_value setting.prop setting.value ≡ true

abbrev pub IsEntry : Entry → Type 0
IsEntry entry = is_value entry.prop entry.value ≡ true

abbrev pub IsStyle : Style → Type 0
IsStyle style = All IsSetting style.settings

-- the style that an object uses is there
abbrev pub IsUsed : List Style → Use → Type 0
IsUsed styles u = has_style styles u.style ≡ true

-- a book that is in order, with a place for each number of sixteen bits
pub record IsBook (book : Book) : Type 0 where
  pub ordered : are_ordered book.styles ≡ true
  pub settings : All IsStyle book.styles
  pub locals : All (All IsEntry) book.locals
  pub used : All (All (IsUsed book.styles)) book.uses
  pub local_places : length book.locals ≡ 65536
  pub use_places : length book.uses ≡ 65536

-- an object sets nothing locally, and uses no style
pub record IsBare (book : Book) (h : ℕ) : Type 0 where
  pub locals : locals_of book h ≡ []
  pub uses : uses_of book h ≡ []
