-- What a contract sees of `Fonts`, what its calls answer and what they leave.
use Rattle.std.specs.Prelude.{ℕ, ◌-◌, nat_lt, if◌then◌else◌, List, [], length, Result, Some, None}
use Rattle.std.specs.declared.option.Option.{Option}
use Rattle.gui_base.specs.Refusing.{first_of, result_of}
use Rattle.gui_base.specs.declared.limits.Pool.{Pool}
use Rattle.gui_base.specs.declared.limits.Pool.TheVariants.{Fonts as FontSlots, Glyphs, Ink}
use Rattle.gui_base.specs.declared.refusal.Refusal.{Refusal}
use Rattle.gui_base.specs.declared.refusal.Refusal.TheVariants.{Full}
use Rattle.text_defs.specs.Building as building
use Rattle.text_defs.specs.Building.{begin_tests, glyph_tests, finish_tests}
use Rattle.text_defs.specs.Face.{Face}
use Rattle.text_defs.specs.Fonts.{Font, Glyph, face}

-- the fonts beside the built-in one, and how many more fonts, glyphs and bytes of their bits fit
pub record FontSet : Type 0 where
  pub fonts : List Font
  pub spare_fonts : ℕ
  pub spare_glyphs : ℕ
  pub spare_ink : ℕ

abbrev pub Answer : Type 0
Answer = Result (Unit {0}) Refusal

abbrev pub face_in : FontSet → ℕ → Face
face_in set name = face set.fonts name

-- no font yet
abbrev pub no_fonts : ℕ → ℕ → ℕ → FontSet
no_fonts fonts glyphs ink = record { fonts = []; spare_fonts = fonts; spare_glyphs = glyphs; spare_ink = ink }

-- full where fewer slots are spare than are needed; else `later` tells
abbrev pub full_or : ℕ → ℕ → Pool → Option Refusal → Option Refusal
full_or spare need pool later = if nat_lt spare need then Some (Full pool) else later

abbrev pub begin_answer : FontSet → ℕ → Answer
begin_answer set name =
    result_of (first_of (begin_tests set.fonts name) (full_or set.spare_fonts 1 FontSlots None))

-- with a font more, which has no glyph yet
abbrev pub with_font : FontSet → ℕ → ℕ → ℕ → FontSet
with_font set name height advance =
    record set { fonts = building.with_font set.fonts name height advance; spare_fonts = set.spare_fonts - 1 }

abbrev pub glyph_answer : FontSet → ℕ → Glyph → Answer
glyph_answer set name g =
    result_of (first_of (glyph_tests set.fonts name g)
    (full_or set.spare_glyphs 1 Glyphs (full_or set.spare_ink (length g.rows) Ink None)))

-- with a glyph more
abbrev pub with_glyph : FontSet → ℕ → Glyph → FontSet
with_glyph set name g =
    record set {
      fonts = building.with_glyph set.fonts name g;
      spare_glyphs = set.spare_glyphs - 1;
      spare_ink = set.spare_ink - length g.rows;
    }

abbrev pub finish_answer : FontSet → ℕ → Answer
finish_answer set name = result_of (first_of (finish_tests set.fonts name) None)

-- with a font finished
abbrev pub with_finished : FontSet → ℕ → FontSet
with_finished set name = record set { fonts = building.with_finished set.fonts name }
