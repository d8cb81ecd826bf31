-- Commands on events and groups.
use Rattle.run_defs.specs.declared.Command.{Command}
use Rattle.run_defs.specs.declared.Command.TheVariants as ask

-- a command that is no change of the scene
abbrev pub IsPlay : Command → Type 0
IsPlay (ask.Change change) = ⊥
IsPlay command = Unit {0}
