use Rattle.std.proofs.Common.{refl}
use Rattle.std.specs.Str.{chars, is_utf8}
use lib.Utf8.{encode}
use Rattle.gui_base.specs.Bits.{has_bit, with_bit}
use Rattle.gui_base.specs.Color.{mix, mix_channel}
use Rattle.scene_defs.specs.Place.{place, reach, offset}
use Rattle.debt_defs.proofs.worked_examples.Goals as goal

pub returns : goal.returns
unfolding place reach offset has_bit with_bit mix mix_channel chars is_utf8 encode
returns c = record {
  debts = record {
    moved = refl;
    coloured = refl;
    coloured_again = refl;
    moved_along = refl;
    both_touched = refl;
    forty_in_four = refl;
    to_front = refl;
    to_front_again = refl;
    followed = refl;
    both_users = refl;
    slid = refl;
    said = refl;
    hidden = refl;
    deleted = refl;
    made = refl;
    loaded = refl;
    unseen = refl;
    refused = refl;
    whole_blocks = refl;
    both_blocks = refl;
    same_blocks = refl;
  };
  concerned = record {
    place = refl;
    fill = refl;
    text = refl;
    state = refl;
    value = refl;
    words = refl;
    style = refl;
    order = refl;
    parents = refl;
    load = refl;
    scroll = refl;
  };
  scrolling = record {
    scrolled = refl;
    no_farther = refl;
    let_go = refl;
    joined = refl;
    shorter = refl;
    bar = refl;
    below_bar = refl;
    beside_bar = refl;
    above_moved = refl;
    moved_bar = refl;
  };
}
