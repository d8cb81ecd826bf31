use Rattle.std.proofs.Common.{refl}
use Rattle.gui_color.specs.Buffer.{color_at, place}
use Rattle.panel_stream.specs.Viewer.{viewing, colors_in}
use Rattle.panel_stream.proofs.worked_stream.Goals as goal

pub returns : goal.returns
unfolding viewing colors_in color_at place
returns c = record { sends = refl; viewed = refl; cut_shows = refl; cut_keeps = refl }
