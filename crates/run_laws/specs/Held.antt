-- The objects that a machine holds on to, beside the members of groups and those that animations move.
use Rattle.std.specs.Prelude.{ℕ, ◌≡◌, true, false, [], Some, IfSome}
use Rattle.std.specs.List.{AllByRecursion}
use Rattle.std.specs.declared.option.Option.{Option}
use Rattle.gui_base.specs.Limits.{Bounds}
use Rattle.gui_base.specs.declared.Handle.{Handle}
use Rattle.play_defs.specs.Focus.{Groups, group_of}
use Rattle.play_defs.specs.Handlers.{handlers_of}
use Rattle.play_defs.specs.declared.Group.{Group}
use Rattle.run_defs.specs.Machine.{Machine, first_machine}
use Rattle.run_defs.specs.Step.{IsCommand, step}
use Rattle.run_defs.specs.declared.Command.{Command}
use Rattle.run_laws.specs.Members.{AreJoined}
use Rattle.scene_defs.specs.Scene.{Scene, is_there}
use Rattle.scene_defs.specs.Valid.{IsValid}

-- the object that has the focus of a group is a member of that group
abbrev pub FocusesMember : Groups → Group → Type 0
FocusesMember groups group = IfSome group.focused (λ h. group_of groups h ≡ Some group.id)

-- an object is there, where there is one
abbrev pub IsThereIfAny : Scene → Option Handle → Type 0
IsThereIfAny scene target = IfSome target (λ h. is_there scene h.0 ≡ true)

pub record AreHeld (machine : Machine) : Type 0 where
  pub focused : AllByRecursion (FocusesMember machine.groups) machine.groups.groups
  -- what each device is held on is there, and what a press of the pointer scrolls
  pub pointer : IsThereIfAny machine.scene machine.pointer.target
  pub scrolled : IfSome machine.scrolling (λ scrolling. IsThereIfAny machine.scene scrolling.object)
  pub keypad : IsThereIfAny machine.scene machine.keypad.target
  pub encoder : IsThereIfAny machine.scene machine.encoder.target
  -- an object that is not there has no handlers
  pub handlers : (h : ℕ) → is_there machine.scene h ≡ false → handlers_of machine.handlers h ≡ []

abbrev pub FirstAreHeld : Type 0
FirstAreHeld = (limits : Bounds) → AreHeld (first_machine limits)

abbrev pub StepsKeepHeld : Type 0
StepsKeepHeld =
    (machine : Machine) (command : Command) → IsValid machine.scene → IsCommand command →
    AreJoined machine → AreHeld machine → AreHeld (step machine command).machine
