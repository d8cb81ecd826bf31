-- Fonts that were worked out by hand.
use Rattle.std.proofs.Common.{refl}
use Rattle.std.specs.Fmt.{digits}
use Rattle.gui_base.specs.Names.{named}
use Rattle.bdf_font.specs.Bdf.{keyword_of, after_line, fits, bdf}
use Rattle.bdf_font.specs.Lines.{integer}
use Rattle.bdf_font.specs.Texts.{font_line, glyph_text, end_line, left_line}
use Rattle.bdf_font.specs.Examples.{FontsAreWorked}

pub fonts_are_worked : FontsAreWorked
unfolding bdf after_line keyword_of named integer fits font_line glyph_text end_line left_line digits
fonts_are_worked = record {
  one_glyph = refl;
  missing_row = refl;
  lenient_font = refl;
  some_left_out = refl;
  nothing = refl;
  no_end = refl;
  no_start = refl;
  no_box = refl;
  high_box = refl;
  five_numbers = refl;
  far_number = refl;
  no_code = refl;
  no_number = refl;
  far_code = refl;
  negative_box = refl;
  odd_digits = refl;
  short_row = refl;
  row_too_many = refl;
}
