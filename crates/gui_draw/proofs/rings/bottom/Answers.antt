use Rattle.gui_draw.proofs.Between.{both_kept, count_kept}
use Rattle.gui_draw.proofs.rings.bottom.Goals as goal

pub last_start-requires-clause-coordinates : goal.last_start-requires-clause-coordinates
last_start-requires-clause-coordinates c = both_kept _ _ c.args.area.y1_fits c.args.area.y2_fits

pub last_start-requires-clause-few : goal.last_start-requires-clause-few
last_start-requires-clause-few c = count_kept _ _ _ c.args.area.y1_fits c.args.area.y2_fits c.requires.thin.lines
