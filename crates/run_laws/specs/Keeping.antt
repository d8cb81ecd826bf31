-- What goes on holding as rules are played.
use Rattle.std.specs.Prelude.{◌≡◌, true, None, List}
use Rattle.gui_base.specs.Forest.{preorder}
use Rattle.gui_base.specs.declared.Handle.{Handle}
use Rattle.gui_base.specs.declared.events.Action.{Action}
use Rattle.gui_base.specs.declared.events.EventKind.{EventKind}
use Rattle.play_defs.specs.Handlers.{handlers_of}
use Rattle.play_defs.specs.declared.Anim.{Anim}
use Rattle.run_defs.specs.Animating.{animate}
use Rattle.run_defs.specs.Events.{act}
use Rattle.run_defs.specs.Machine.{Machine}
use Rattle.run_defs.specs.Making.{handles, removed}
use Rattle.run_defs.specs.Play.{each}
use Rattle.run_defs.specs.Step.{IsCommand, step}
use Rattle.run_defs.specs.declared.Command.{Command}
use Rattle.scene_defs.specs.Change.{answer_of}
use Rattle.scene_defs.specs.Edits.{tree_below}
use Rattle.scene_defs.specs.Scene.{Scene, handles_of, is_there}
use Rattle.scene_defs.specs.Valid.{IsValid}
use Rattle.scene_defs.specs.declared.Change.TheVariants.{Delete}

-- an object that is still there after an action of its own has its handlers
abbrev pub ActKeepsHandlers : Type 0
ActKeepsHandlers =
    (kind : EventKind) (target current : Handle) (action : Action) (machine : Machine) →
    is_there (act kind target current action machine).machine.scene current.0 ≡ true →
    handlers_of (act kind target current action machine).machine.handlers current.0
    ≡ handlers_of machine.handlers current.0

-- a delete removes an object and all below it, each before those below it
abbrev pub DeleteRemovesAllBelow : Type 0
DeleteRemovesAllBelow =
    (scene : Scene) (h : Handle) → IsValid scene → answer_of scene (Delete h) ≡ None →
    removed scene (Delete h) ≡ handles (preorder (handles_of (tree_below scene h.0)))

-- the scene stays in order
abbrev pub StepsKeepScenesValid : Type 0
StepsKeepScenesValid =
    (machine : Machine) (command : Command) → IsValid machine.scene → IsCommand command →
    IsValid (step machine command).machine.scene

-- the animations and the time are those from before
pub record RunsOn (before after : Machine) : Type 0 where
  pub anims : after.anims ≡ before.anims
  pub time : after.time ≡ before.time

-- what animations give their objects leaves both as they are
abbrev pub AnimatingRunsOn : Type 0
AnimatingRunsOn =
    (anims : List Anim) (machine : Machine) → RunsOn machine (each animate anims machine).machine
