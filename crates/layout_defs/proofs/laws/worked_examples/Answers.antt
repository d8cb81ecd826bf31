use Rattle.std.proofs.Common.{refl}
use Rattle.layout_defs.proofs.laws.worked_examples.Goals as goal

pub returns-clause-by_hand : goal.returns-clause-by_hand
returns-clause-by_hand c = record {
  content_and_percent = refl;
  three_share = refl;
  one_between = refl;
  two_too_wide = refl;
  nested_contents = refl;
  wrapped_from_the_last = refl;
  reach_of_high = refl;
  scrolled_whole = refl;
  flat = refl;
  reach_of_flat = refl;
  not_scrollable = refl;
  reach_of_fixed = refl;
  reach_of_column = refl;
  offset_of_column = refl;
  column_moved = refl;
}

pub returns-clause-made : goal.returns-clause-made
returns-clause-made c = record { first = refl; second = refl; third = refl }
