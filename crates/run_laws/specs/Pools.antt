-- The pools of a machine, beside those of its scene.
use Rattle.std.specs.Prelude.{◌≤◌, length, sum_by}
use Rattle.gui_base.specs.Limits.{Bounds}
use Rattle.run_defs.specs.Machine.{Machine, first_machine}
use Rattle.run_defs.specs.Step.{step}
use Rattle.run_defs.specs.declared.Command.{Command}

-- no pool is over its count: the handlers of all objects, the groups, and the animations that run
pub record FitsPools (machine : Machine) : Type 0 where
  pub handlers : sum_by length machine.handlers ≤ machine.scene.limits.handlers
  pub groups : length machine.groups.groups ≤ machine.scene.limits.groups
  pub anims : length machine.anims ≤ machine.scene.limits.anims

abbrev pub FirstFitsPools : Type 0
FirstFitsPools = (limits : Bounds) → FitsPools (first_machine limits)

abbrev pub StepsKeepPools : Type 0
StepsKeepPools =
    (machine : Machine) (command : Command) → FitsPools machine → FitsPools (step machine command).machine
