-- How a machine and the panel that it sends to stand between two frames.
use Rattle.gui_edge.specs.Panel.{PanelState}
use Rattle.gui_core.specs.Machines.{machine_of, stage_of}
use Rattle.gui_core.specs.declared.gui.Gui.{Gui}
use Rattle.gui_play.specs.Panels.{AgreesWith, CanSend}

-- The panel has the machine's sizes and what the machine started, and each of its pixels is pending or its
-- newest copy is right.
pub record IsReady (gui : Gui) (panel : PanelState) : Type 0 where
  pub can : CanSend (stage_of gui panel) (machine_of gui).scene
  pub agrees : AgreesWith (stage_of gui panel) (machine_of gui).scene

-- whatever panel was ready before is so after
abbrev pub StaysReady : Gui → Gui → Type 0
StaysReady old new = (panel : PanelState) → IsReady old panel → IsReady new panel
