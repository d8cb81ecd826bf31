use Rattle.std.proofs.Common.{◌≡◌, ◌++◌, ℕ, Some, drop}
use Rattle.std.specs.Prelude.{option_map}
use Rattle.std.specs.List.{flat_map}
use Rattle.gui_damage.specs.Gridded.{added_all_in}
use Rattle.gui_boxes.specs.Listing.{HasThese}
use Rattle.gui_pool.specs.Table.{value_at}
use Rattle.gui_store.specs.Views.{scene_of}
use Rattle.gui_tree.specs.Handles.{numbers}
use Rattle.gui_change.specs.Gone.{gone_of, owed_gone, shown_of}
use Rattle.gui_concerns.specs.Handles.{number_of}
use Rattle.gui_debts.specs.declared.seen.Seen.{Seen}
use Rattle.gui_change.proofs.gone.forget_hidden.Given as goal

abbrev pub invariant-loop-h : goal.invariant-loop-h
invariant-loop-h l =
    let scene = scene_of l.store in
    let left = gone_of scene (drop l.h-index l.listed) in
    let owes = owed_gone (option_map number_of l.named) l.fn.table in
    record {
      these : HasThese scene.limits.objects l.table (left ++ shown_of scene l.listed);
      rest : (h : ℕ) (s : Seen) → value_at l.table h ≡ Some s → value_at l.fn.table h ≡ Some s;
      owed : added_all_in l.damage (flat_map owes (numbers left)) ≡ added_all_in l.fn.damage (flat_map owes (numbers (gone_of scene l.listed)));
    }
