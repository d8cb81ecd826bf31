-- The objects that animations move.
use Rattle.std.specs.Prelude.{ℕ, ◌≡◌, true}
use Rattle.gui_base.specs.Limits.{Bounds}
use Rattle.run_defs.specs.Animating.{is_animated}
use Rattle.run_defs.specs.Machine.{Machine, first_machine}
use Rattle.run_defs.specs.Step.{IsCommand, step}
use Rattle.run_defs.specs.declared.Command.{Command}
use Rattle.scene_defs.specs.Scene.{is_there}
use Rattle.scene_defs.specs.Valid.{IsValid}

-- an animation runs only for an object that is there
abbrev pub AnimatedAreThere : Machine → Type 0
AnimatedAreThere machine =
    (h : ℕ) → is_animated h machine.anims ≡ true → is_there machine.scene h ≡ true

abbrev pub FirstAnimatedAreThere : Type 0
FirstAnimatedAreThere = (limits : Bounds) → AnimatedAreThere (first_machine limits)

abbrev pub StepsKeepAnimated : Type 0
StepsKeepAnimated =
    (machine : Machine) (command : Command) → IsValid machine.scene → IsCommand command →
    AnimatedAreThere machine → AnimatedAreThere (step machine command).machine
