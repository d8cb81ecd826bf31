-- What a command owes.
use Rattle.std.specs.Prelude.{◌≡◌, true, false, [], ℤ}
use Rattle.std.specs.List.{list_all}
use Rattle.gui_base.specs.Area.{is_within}
use Rattle.gui_base.specs.declared.refusal.Refusal.{Refusal}
use Rattle.scene_defs.specs.Picture.{paint}
use Rattle.scene_defs.specs.Place.{panel_of}
use Rattle.scene_defs.specs.Valid.{HasWholeBlocks, IsValid}
use Rattle.run_defs.specs.declared.Command.{Command}
use Rattle.run_defs.specs.declared.Reply.TheVariants.{Refused}
use Rattle.run_defs.specs.Machine.{Machine}
use Rattle.run_defs.specs.Step.{step, IsCommand}
use Rattle.debt_defs.specs.Frame.{covered}
use Rattle.run_defs.specs.Owing.{command_owes}

-- where the panel consists of whole blocks, each area that a command owes has a pixel, and lies in the panel
abbrev pub CommandWithinPanel : Type 0
CommandWithinPanel = (machine : Machine) (command : Command) → HasWholeBlocks machine.scene.limits →
    list_all (is_within (panel_of machine.scene)) (command_owes machine command) ≡ true

-- a command that is refused owes nothing
abbrev pub RefusedOwesNothing : Type 0
RefusedOwesNothing = (machine : Machine) (command : Command) (refusal : Refusal) →
    (step machine command).reply ≡ Refused refusal → command_owes machine command ≡ []

-- a pixel that no owed area has keeps its paint
abbrev pub OwedHoldsAllThatChanges : Type 0
OwedHoldsAllThatChanges = (machine : Machine) (command : Command) (x y : ℤ) →
    IsValid machine.scene → IsCommand command → covered (command_owes machine command) x y ≡ false →
    paint (step machine command).machine.scene x y ≡ paint machine.scene x y
