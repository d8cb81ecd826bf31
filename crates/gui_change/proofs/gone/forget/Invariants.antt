use Rattle.std.proofs.Common.{◌≡◌, ◌<◌, ℕ, List, None, drop}
use Rattle.std.specs.Prelude.{option_map}
use Rattle.std.specs.List.{flat_map}
use Rattle.gui_base.specs.declared.Handle.{Handle}
use Rattle.gui_damage.specs.Gridded.{added_all_in}
use Rattle.gui_boxes.specs.Listing.{HasThese, times}
use Rattle.gui_pool.specs.Table.{value_at}
use Rattle.gui_tree.specs.Handles.{numbers}
use Rattle.gui_change.specs.Gone.{KnowsSome, owed_gone}
use Rattle.gui_concerns.specs.Handles.{number_of}
use Rattle.gui_change.proofs.gone.forget.Given as goal

abbrev pub invariant-loop-h : goal.invariant-loop-h
invariant-loop-h l =
    let left = drop l.h-index l.gone in
    let owes = owed_gone (option_map number_of l.named) l.fn.table in
    record {
      none : (k : ℕ) → times left k < times l.gone k → value_at l.table k ≡ None;
      rest : (k : ℕ) → times left k ≡ times l.gone k → value_at l.table k ≡ value_at l.fn.table k;
      some : (objects : ℕ) (hs : List Handle) → HasThese objects l.fn.table hs → KnowsSome objects l.table hs;
      owed : added_all_in l.damage (flat_map owes (numbers left)) ≡ added_all_in l.fn.damage (flat_map owes (numbers l.gone));
    }
