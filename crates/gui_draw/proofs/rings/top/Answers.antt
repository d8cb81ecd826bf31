use Rattle.gui_draw.proofs.Between.{both_kept, count_kept}
use Rattle.gui_draw.proofs.rings.top.Goals as goal

pub first_end-requires-clause-coordinates : goal.first_end-requires-clause-coordinates
first_end-requires-clause-coordinates c = both_kept _ _ c.args.area.y1_fits c.args.area.y2_fits

pub first_end-requires-clause-few : goal.first_end-requires-clause-few
first_end-requires-clause-few c = count_kept _ _ _ c.args.area.y1_fits c.args.area.y2_fits c.requires.thin.lines
