-- How a panel goes on agreeing with the scene.
use Rattle.std.proofs.Common.{◌≡◌, sym, subst, List, [], ◌∷◌}
use Rattle.gui_base.specs.Area.{Rect}
use Rattle.gui_damage.specs.Adding.{AddsAll}
use Rattle.gui_damage.specs.Pending.{covered}
use Rattle.gui_edge.specs.Panel.{PanelState, HasSizes}
use Rattle.gui_refresh.specs.Keeping.{ChangesPending}
use Rattle.gui_refresh.specs.Stages.{Refreshing, stage}
use Rattle.gui_refresh.proofs.Agreement.{whole_agrees, change_agrees, not_when}
use Rattle.run_defs.specs.declared.Command.{Command}
use Rattle.run_defs.specs.Machine.{Machine}
use Rattle.run_defs.specs.Step.{step, IsCommand}
use Rattle.run_defs.specs.Owing.{command_owes}
use Rattle.run_laws.proofs.Commands.{owed_holds_all}
use Rattle.scene_defs.specs.Picture.{paint}
use Rattle.scene_defs.specs.Place.{panel_of}
use Rattle.scene_defs.specs.Scene.{Scene}
use Rattle.scene_defs.specs.Valid.{IsValid}
use Rattle.gui_play.specs.Panels.{AgreesWith, GoesOnAgreeing}
use Rattle.gui_board.proofs.Sending.{panel_is, of_panel}

-- where all of the panel is pending
pub whole_agrees_with : (refresher : Refreshing) (scene : Scene) (areas : List Rect) → areas ≡ panel_of scene ∷ [] → (panel : PanelState) → HasSizes panel scene.limits → AgreesWith (stage refresher panel (of_panel scene areas)) scene
whole_agrees_with refresher scene areas whole panel sizes =
    whole_agrees (paint scene) (stage refresher panel (of_panel scene areas)) (sym (panel_is scene panel sizes)) whole

-- where a command made pending what it owes
pub goes_on : (machine after : Machine) (command : Command) (old new : List Rect) → IsValid machine.scene → IsCommand command → after ≡ (step machine command).machine →
    AddsAll (of_panel machine.scene old) (of_panel after.scene new) (command_owes machine command) → GoesOnAgreeing (of_panel machine.scene old) (of_panel after.scene new) machine.scene after.scene
goes_on machine after command old new valid is next adds = λ refresher panel sizes h.
    let now = stage refresher panel (of_panel machine.scene old) in
    let changes : ChangesPending now.pending (of_panel after.scene new) (paint machine.scene) (paint after.scene) = record {
      keeps = adds.keeps;
      same = λ x y inside out.
          subst (λ (m : Machine). paint m.scene x y ≡ paint machine.scene x y) (sym next)
          (owed_holds_all machine command x y valid is (not_when (covered (command_owes machine command) x y) (covered new x y) (adds.covers x y) out));
    } in
    change_agrees (paint machine.scene) (paint after.scene) now (of_panel after.scene new) (sym (panel_is machine.scene panel sizes)) changes h
