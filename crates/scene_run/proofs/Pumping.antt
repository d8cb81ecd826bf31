-- What a pump line does to the panel, and how a line leaves the buffers.
use Rattle.std.proofs.Common.{◌≡◌, sym, subst, ℕ, ◌+◌, ◌≤◌, [], ◌∷◌, arith, Option}
use Rattle.std.specs.Prelude.{is_some}
use Rattle.std.proofs.KnownBytes.{Appends-nil}
use Rattle.gui_damage.specs.Pending.{Pending}
use Rattle.gui_edge.specs.Panel.{PanelState}
use Rattle.gui_play.specs.Panels.{CanSend, AgreesWith, Pumps}
use Rattle.gui_refresh.specs.Stages.{Refreshing, Stage, stage}
use Rattle.owed_defs.specs.declared.Pumped.{Pumped as Answer}
use Rattle.owed_defs.specs.declared.Pumped.TheVariants.{Idle, Moved, Waiting, Fault}
use Rattle.run_defs.specs.Machine.{Machine}
use Rattle.run_defs.specs.Run.{Pumped, fault_count}
use Rattle.scene_defs.specs.Scene.{Scene}
use Rattle.scene_run.specs.Effects.{PanelEffects}

-- a pump faulted only where a start or a transfer failed
pub pump_faults : (number : ℕ) (answer : Answer) (old new : Stage) (scene : Scene) → Pumps old new scene answer → old.panel.flush_faults + fault_count (Pumped number answer ∷ []) ≤ new.panel.flush_faults
pump_faults number Idle old new scene p = omega (arith, p.sends.keeps.flush_faults)
pump_faults number Moved old new scene p = omega (arith, p.sends.keeps.flush_faults)
pump_faults number Waiting old new scene p = omega (arith, p.sends.keeps.flush_faults)
pump_faults number Fault old new scene p = omega (arith, p.leaves.faults, p.leaves.rose)

-- it presents nothing
pub pump_effects : (number : ℕ) (answer : Answer) (seen : Option Scene) (old new : Stage) (scene : Scene) → Pumps old new scene answer → PanelEffects old.panel new.panel seen (Pumped number answer ∷ [])
pump_effects number answer seen old new scene p = record {
  frames = λ told. rw p.sends.keeps.frames (Appends-nil _);
  shown = tt;
  faults = pump_faults number answer old new scene p;
  keeps = record {
    told = p.sends.keeps.told;
    flush_faults = p.sends.keeps.flush_faults;
    present_faults = omega (arith, p.sends.keeps.present_faults);
    turn = p.sends.keeps.turn;
  };
}

-- where the buffers stay as they are, what is pending says nothing of what may be sent
pub can_keeps : (old new : Refreshing) (panel : PanelState) (before after : Pending) (scene : Scene) → new ≡ old → CanSend (stage old panel before) scene → CanSend (stage new panel after) scene
can_keeps old new panel before after scene same can = record {
  sizes = can.sizes;
  started = subst (λ (r : Refreshing). r.started ≡ is_some panel.coming) (sym same) can.started;
  coming = can.coming;
}

pub agrees_keeps : (old new : Refreshing) (panel : PanelState) (pending : Pending) (scene : Scene) → new ≡ old → AgreesWith (stage old panel pending) scene → AgreesWith (stage new panel pending) scene
agrees_keeps old new panel pending scene same = subst (λ (r : Refreshing). AgreesWith (stage r panel pending) scene) (sym same)

-- where the machine stays as it is, what agreed with its scene still does
pub agrees_on : (now : Stage) (old new : Machine) → new ≡ old → AgreesWith now old.scene → AgreesWith now new.scene
agrees_on now old new same = subst (λ (m : Machine). AgreesWith now m.scene) (sym same)
