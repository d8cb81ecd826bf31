use Rattle.std.proofs.Common.{refl}
use Rattle.text_defs.specs.Lines.{lines, run_width, greatest}
use Rattle.widget_defs.proofs.laws.worked_examples.Goals as goal

pub returns-clause-items : goal.returns-clause-items
unfolding lines run_width greatest
returns-clause-items c = record {
  object = refl;
  screen = refl;
  button = refl;
  pressed_button = refl;
  list = refl;
  label = refl;
  content = refl;
  no_content = refl;
  bar = refl;
  slider = refl;
  rounded = refl;
  upright = refl;
  checkbox = refl;
  checked_box = refl;
  left_caption = refl;
  image = refl;
  cut_image = refl;
  no_image = refl;
}

pub returns-clause-bars : goal.returns-clause-bars
returns-clause-bars c = record {
  at_top = refl;
  at_bottom = refl;
  both_ways = refl;
  in_small = refl;
  none_fitting = refl;
  none_fixed = refl;
}

pub returns-clause-sizes : goal.returns-clause-sizes
unfolding lines run_width greatest
returns-clause-sizes c = record {
  label_width = refl;
  label_in_two_lines = refl;
  label_in_one_line = refl;
  wide_letter = refl;
  empty_width = refl;
  empty_height = refl;
  spaced_width = refl;
  spaced_height = refl;
  checkbox_width = refl;
  checkbox_height = refl;
  two_lines = refl;
  empty_checkbox = refl;
  image_width = refl;
  image_height = refl;
  no_image = refl;
  others = refl;
}
