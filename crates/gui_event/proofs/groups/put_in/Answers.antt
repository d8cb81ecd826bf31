use Rattle.play_defs.specs.Focus.{in_place_of}
use Rattle.gui_event.proofs.Turns.{one_more}
use Rattle.gui_event.proofs.groups.put_in.Goals as goal

pub groups-preserved : goal.groups-preserved
groups-preserved c =
    let f = in_place_of c.args.group in
    one_more f c.args.groups.now c.groups.groups c.groups.other-index _ _ c.groups-test.true c.groups.invariant c.in_place_of.ensures
