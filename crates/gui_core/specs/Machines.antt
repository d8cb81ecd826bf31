-- The machine that a `Gui` is, and the areas of its panel that are pending.
use Rattle.gui_damage.specs.Pending.{Pending}
use Rattle.gui_edge.specs.Panel.{PanelState}
use Rattle.gui_play.specs.Boards as boards
use Rattle.gui_refresh.specs.Stages.{Refreshing, Stage, stage}
use Rattle.run_defs.specs.Machine.{Machine}
use Rattle.gui_core.specs.declared.gui.Gui.{Gui}

abbrev pub machine_of : Gui → Machine
machine_of gui = boards.machine_of gui.board

abbrev pub pending_in : Gui → Pending
pending_in gui = boards.pending_of gui.board

-- the buffers of its refresher
abbrev pub refresher_in : Gui → Refreshing
refresher_in gui = gui.refresher

-- the machine's refresher, a panel, and what is pending
abbrev pub stage_of : Gui → PanelState → Stage
stage_of gui panel = stage (refresher_in gui) panel (pending_in gui)
