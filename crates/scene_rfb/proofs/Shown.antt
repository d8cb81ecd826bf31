-- A machine stays on its panel.
use Rattle.std.proofs.Common.{◌≡◌, ◌∙◌, sym, ap, subst, refl, arith, None, false}
use Rattle.std.specs.Option.{ForSome}
use Rattle.gui_base.specs.Limits.{Bounds}
use Rattle.gui_color.specs.Buffer.{Buffer}
use Rattle.gui_core.specs.Machines.{machine_of, pending_in, refresher_in, stage_of}
use Rattle.gui_core.specs.declared.gui.Gui.{Gui}
use Rattle.gui_edge.specs.Panel.{PanelState, HasSizes}
use Rattle.gui_play.specs.Panels.{AgreesWith, CanSend, GoesOnAgreeing, Refreshes}
use Rattle.gui_refresh.specs.Stages.{Refreshing, stage}
use Rattle.gui_refresh.specs.declared.Refreshed.{Refreshed}
use Rattle.gui_refresh.specs.declared.Refreshed.TheVariants.{Done, Fault}
use Rattle.rfb_view.specs.ViewPanel.{ViewState, view_state}
use Rattle.run_defs.specs.Owing.{slice_limit}
use Rattle.run_defs.specs.Machine.{Machine}
use Rattle.run_defs.specs.Run.{ShowsScene}
use Rattle.run_defs.specs.Step.{step}
use Rattle.run_defs.specs.declared.Command.{Command}
use Rattle.run_defs.proofs.Steps.{step-limits}
use Rattle.scene_rfb.specs.Screens.{IsShown}

-- once both were opened in the same sizes
pub opened_shown : (gui : Gui) (panel : ViewState) (limits : Bounds) → (machine_of gui).scene.limits ≡ limits → HasSizes (view_state panel) limits → panel.coming ≡ None →
    refresher_in gui ≡ record (refresher_in gui) { drawn = None; free = 2; started = false } →
    ((panel : PanelState) → HasSizes panel (machine_of gui).scene.limits → AgreesWith (stage_of gui panel) (machine_of gui).scene) → IsShown gui panel
opened_shown gui panel limits is sizes none still agrees =
    let has = subst (λ (b : Bounds). HasSizes (view_state panel) b) (sym is) sizes in
    record {
      can = record {
        sizes = has;
        started = rw none (ap (λ (r : Refreshing). r.started) still);
        coming = λ buf some. let never = sym none ∙ some in cc;
      };
      agrees = agrees (view_state panel) has;
    }

-- after a change of the machine
pub shown_step : (old new : Gui) (panel : ViewState) → refresher_in new ≡ refresher_in old → (machine_of new).scene.limits ≡ (machine_of old).scene.limits →
    GoesOnAgreeing (pending_in old) (pending_in new) (machine_of old).scene (machine_of new).scene → IsShown old panel → IsShown new panel
shown_step old new panel same limits goes h = record {
  can = record {
    sizes = subst (HasSizes (view_state panel)) (sym limits) h.can.sizes;
    started = ap (λ (r : Refreshing). r.started) same ∙ h.can.started;
    coming = subst (λ (l : Bounds). ForSome panel.coming (λ (buf : Buffer). buf.limit ≡ slice_limit l)) (sym limits) h.can.coming;
  };
  agrees = goes (refresher_in new) (view_state panel) h.can.sizes (subst (λ (r : Refreshing). AgreesWith (stage r (view_state panel) (pending_in old)) (machine_of old).scene) (sym same) h.agrees);
}

-- after a command, which leaves the limits
pub shown_after : (old new : Gui) (command : Command) (panel : ViewState) → machine_of new ≡ (step (machine_of old) command).machine → refresher_in new ≡ refresher_in old →
    GoesOnAgreeing (pending_in old) (pending_in new) (machine_of old).scene (machine_of new).scene → IsShown old panel → IsShown new panel
shown_after old new command panel is same goes h =
    shown_step old new panel same (ap (λ (m : Machine). m.scene.limits) is ∙ step-limits (machine_of old) command) goes h

-- after a refresh
pub shown_refresh : (old new : Gui) (before after : ViewState) (answer : Refreshed) → machine_of new ≡ machine_of old → Refreshes (stage_of old (view_state before)) (stage_of new (view_state after)) (machine_of old).scene answer → IsShown old before → IsShown new after
shown_refresh old new before after answer same r h = record {
  can = subst (λ (m : Machine). CanSend (stage_of new (view_state after)) m.scene) (sym same) r.sends.can;
  agrees = subst (λ (m : Machine). AgreesWith (stage_of new (view_state after)) m.scene) (sym same) (r.sends.agrees h.agrees);
}

-- a panel that never fails shows the picture then
pub shows_picture : (answer : Refreshed) (old new : Gui) (before after : ViewState) → Refreshes (stage_of old (view_state before)) (stage_of new (view_state after)) (machine_of old).scene answer → IsShown old before → ShowsScene (view_state after).shows (machine_of old).scene
shows_picture Done old new before after r h = r.done refl h.agrees
shows_picture Fault old new before after r h = absurd (let f = r.fault refl in omega (arith, f))
