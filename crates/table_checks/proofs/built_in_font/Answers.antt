use Rattle.std.proofs.Common.{refl}
use Rattle.hex.specs.Hex.{decode_pairs}
use Rattle.text_defs.specs.BuiltIn.{column_of}
use Rattle.scene_defs.specs.RowBytes.{bytes_in_hex}
use Rattle.table_checks.proofs.built_in_font.Goals as goal

pub returns-clause-sheet : goal.returns-clause-sheet
unfolding column_of bytes_in_hex decode_pairs
returns-clause-sheet c = record {
  glyphs = refl;
  columns = refl;
  none_before = refl;
  first = refl;
  last = refl;
  none_after = refl;
  height = refl;
  advance = refl;
  missing_advance = refl;
  missing_dot = refl;
  left_of_it = refl;
}

pub returns-clause-letters : goal.returns-clause-letters
unfolding column_of
returns-clause-letters c = record {
  upper_a = refl;
  lower_g = refl;
  exclamation_mark = refl;
  seven = refl;
  percent_sign = refl;
  tilde = refl;
}
