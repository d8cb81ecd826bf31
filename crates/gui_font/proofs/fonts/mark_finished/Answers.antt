use Rattle.std.proofs.Common.{arith, slice_index_or, false}
use Rattle.std.proofs.lemmas.List.{get_or_default}
use Rattle.std.proofs.lemmas.List.Edits.{map_over_more}
use Rattle.gui_font.specs.Views.{marked}
use Rattle.gui_font.specs.declared.fonts.FontSlot.{FontSlot}
use Rattle.gui_font.proofs.fonts.mark_finished.Goals as goal

pub loop-slot-preserved : goal.loop-slot-preserved
loop-slot-preserved c =
    let none : FontSlot = record { name = 0; height = 0; advance = 0; finished = false } in
    let slot : FontSlot = slice_index_or c.loop-slot.fonts c.loop-slot.slot-index none in
    rw c.marked.ensures (map_over_more (marked c.args.name) c.args.fonts.now c.loop-slot.fonts c.loop-slot.slot-index slot c.loop-slot-test.true c.loop-slot.invariant
    (get_or_default c.loop-slot.fonts c.loop-slot.slot-index none slot (omega arith)))
