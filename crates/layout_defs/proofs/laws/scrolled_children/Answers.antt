use Rattle.layout_defs.proofs.Scrolling.{still_stands_flat, moved_as_their_room, reaches_anywhere, sizes_ask_no_scroll}
use Rattle.layout_defs.proofs.laws.scrolled_children.Goals as goal

pub returns : goal.returns
returns c = record { flat = still_stands_flat; moved = moved_as_their_room; reach = reaches_anywhere; sizes = sizes_ask_no_scroll }
