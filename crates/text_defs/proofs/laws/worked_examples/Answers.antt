use Rattle.std.proofs.Common.{refl}
use Rattle.text_defs.specs.Ink.{inked}
use Rattle.text_defs.specs.Lines.{lines, run_width, greatest}
use Rattle.text_defs.specs.Fonts.{face}
use Rattle.text_defs.specs.Bits.{bit_of}
use Rattle.text_defs.specs.BuiltIn.{column_of}
use Rattle.text_defs.specs.Images.{texel_at}
use Rattle.text_defs.proofs.laws.worked_examples.Goals as goal

pub returns-clause-lines : goal.returns-clause-lines
unfolding lines run_width greatest face
returns-clause-lines c = record {
  after_a_space = refl;
  without_a_space = refl;
  space_at_the_end = refl;
  spaces_alone = refl;
  exactly_fits = refl;
  two_bytes = refl;
  empty = refl;
  newline_at_the_end = refl;
  two_newlines = refl;
  no_width = refl;
  wide_enough = refl;
  no_advances = refl;
  spaces_between = refl;
  one_empty_line = refl;
}

pub returns-clause-ink : goal.returns-clause-ink
unfolding inked lines run_width greatest face bit_of column_of
returns-clause-ink c = record {
  first = refl;
  second = refl;
  left_of_it = refl;
  right_of_it = refl;
  below = refl;
  bar = refl;
  no_bar = refl;
  bar_ends = refl;
  centred = refl;
  too_wide = refl;
  second_line = refl;
}

pub returns-clause-images : goal.returns-clause-images
unfolding texel_at
returns-clause-images c = record {
  begun = refl;
  no_size = refl;
  done = refl;
  size = refl;
  none = refl;
  red = refl;
  green = refl;
  opacity = refl;
  both = refl;
}
