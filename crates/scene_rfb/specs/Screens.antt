-- A machine on a panel in memory.
use Rattle.gui_core.specs.Machines.{machine_of, stage_of}
use Rattle.gui_core.specs.declared.gui.Gui.{Gui}
use Rattle.gui_play.specs.Panels.{AgreesWith, CanSend}
use Rattle.rfb_view.specs.ViewPanel.{ViewState, view_state}

-- The panel can get the machine's picture, and each of its pixels is pending or right.
pub record IsShown (gui : Gui) (panel : ViewState) : Type 0 where
  pub can : CanSend (stage_of gui (view_state panel)) (machine_of gui).scene
  pub agrees : AgreesWith (stage_of gui (view_state panel)) (machine_of gui).scene
