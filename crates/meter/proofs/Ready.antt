-- A panel that is ready stays so while the machine carries out commands.
use Rattle.std.proofs.Common.{◌≡◌, ◌∙◌, ap, sym, subst, None, false}
use Rattle.std.specs.Prelude.{is_some}
use Rattle.std.specs.Option.{ForSome}
use Rattle.gui_base.specs.Limits.{Bounds}
use Rattle.gui_edge.specs.Panel.{PanelState, HasSizes}
use Rattle.gui_core.specs.Machines.{machine_of, pending_in, refresher_in, stage_of}
use Rattle.gui_core.specs.declared.gui.Gui.{Gui}
use Rattle.gui_play.specs.Panels.{AgreesWith, GoesOnAgreeing}
use Rattle.gui_refresh.specs.Stages.{Refreshing, stage}
use Rattle.run_defs.specs.Owing.{slice_limit}
use Rattle.run_defs.specs.Machine.{Machine}
use Rattle.run_defs.specs.Step.{step}
use Rattle.run_defs.specs.declared.Command.{Command}
use Rattle.run_defs.proofs.Steps.{step-limits}
use Rattle.meter.specs.Ready.{IsReady, StaysReady}

-- No command changes the limits, and none touches what is drawn and in flight.
pub stays_ready : (old new : Gui) (command : Command) → machine_of new ≡ (step (machine_of old) command).machine → refresher_in new ≡ refresher_in old →
    GoesOnAgreeing (pending_in old) (pending_in new) (machine_of old).scene (machine_of new).scene → StaysReady old new
stays_ready old new command is same goes panel ready =
    let limits = ap (λ (m : Machine). m.scene.limits) is ∙ step-limits (machine_of old) command in
    record {
      can = record {
        sizes = subst (λ (b : Bounds). HasSizes panel b) (sym limits) ready.can.sizes;
        started = subst (λ (r : Refreshing). r.started ≡ is_some panel.coming) (sym same) ready.can.started;
        coming = subst (λ (b : Bounds). ForSome panel.coming (λ buf. buf.limit ≡ slice_limit b)) (sym limits) ready.can.coming;
      };
      agrees = subst (λ (r : Refreshing). AgreesWith (stage r panel (pending_in new)) (machine_of new).scene) (sym same) (goes (refresher_in old) panel ready.can.sizes ready.agrees);
    }

-- A machine and a panel that were just opened in the same sizes are ready.
pub opened_ready : (gui : Gui) (panel : PanelState) (limits : Bounds) → (machine_of gui).scene.limits ≡ limits → HasSizes panel limits → panel.coming ≡ None →
    refresher_in gui ≡ record (refresher_in gui) { drawn = None; free = 2; started = false } →
    ((panel : PanelState) → HasSizes panel (machine_of gui).scene.limits → AgreesWith (stage_of gui panel) (machine_of gui).scene) → IsReady gui panel
opened_ready gui panel limits is sizes none still agrees =
    let has = subst (λ (b : Bounds). HasSizes panel b) (sym is) sizes in
    record {
      can = record {
        sizes = has;
        started = rw none (ap (λ (r : Refreshing). r.started) still);
        coming = λ buf some. let never = sym none ∙ some in cc;
      };
      agrees = agrees panel has;
    }
