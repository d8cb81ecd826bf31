use Rattle.std.proofs.Common.{refl}
use Rattle.run_defs.specs.Numbers.{number, natural}
use Rattle.run_defs.specs.Words.{with_width, setting_of, sets_a_pool, with_pool, with_further}
use Rattle.table_checks.proofs.pools.Goals as goal

pub returns-clause-rows : goal.returns-clause-rows
returns-clause-rows c = refl

pub returns-clause-defaults : goal.returns-clause-defaults
unfolding number natural with_width setting_of sets_a_pool with_pool with_further
returns-clause-defaults c = refl

pub returns-clause-most : goal.returns-clause-most
unfolding number natural with_width setting_of sets_a_pool with_pool with_further
returns-clause-most c = record {
  objects = refl;
  styles = refl;
  entries = refl;
  uses = refl;
  texts = refl;
  fonts = refl;
  glyphs = refl;
  ink = refl;
  images = refl;
  pixels = refl;
  handlers = refl;
  groups = refl;
  anims = refl;
  made = refl;
}

pub returns-clause-more : goal.returns-clause-more
unfolding number natural with_width setting_of sets_a_pool with_pool with_further
returns-clause-more c = record {
  objects = refl;
  styles = refl;
  entries = refl;
  uses = refl;
  texts = refl;
  fonts = refl;
  glyphs = refl;
  ink = refl;
  images = refl;
  pixels = refl;
  handlers = refl;
  groups = refl;
  anims = refl;
  made = refl;
  no_roots = refl;
  none_made = refl;
}

pub returns-clause-least : goal.returns-clause-least
unfolding number natural with_width setting_of sets_a_pool with_pool with_further
returns-clause-least c = refl

pub returns-clause-sizes : goal.returns-clause-sizes
unfolding number natural with_width setting_of sets_a_pool with_pool with_further
returns-clause-sizes c = record {
  largest = refl;
  smallest = refl;
  too_wide = refl;
  too_high = refl;
  no_width = refl;
  no_height = refl;
  no_lines = refl;
  too_many_lines = refl;
}

pub returns-clause-blocks : goal.returns-clause-blocks
unfolding number natural with_width setting_of sets_a_pool with_pool with_further
returns-clause-blocks c = record {
  bytes = refl;
  pixels = refl;
  beside = refl;
  largest = refl;
  lines = refl;
  width = refl;
  height = refl;
  no_width = refl;
  no_height = refl;
  too_wide = refl;
  too_high = refl;
  twice = refl;
  none = refl;
  nothing = refl;
  one_number = refl;
  no_second = refl;
  no_first = refl;
  three = refl;
  leading_zero = refl;
  other_letter = refl;
}
