use Rattle.gui_store.specs.Views.{scene_of}
use Rattle.gui_change.proofs.canvas.Canvas.is_bars_at.Goals as goal

pub returns : goal.returns
returns c =
    let canvas = c.args.self.now in
    c.is_bars_at.ensures (scene_of canvas.store) canvas.shows
