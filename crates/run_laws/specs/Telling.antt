-- What an event writes into the log.
use Rattle.std.specs.Prelude.{ℕ, ◌≡◌, ◌⊎◌, true, List, map}
use Rattle.std.specs.List.{AllByRecursion, flat_map}
use Rattle.gui_base.specs.declared.Handle.{Handle}
use Rattle.gui_base.specs.declared.events.EventKind.{EventKind}
use Rattle.gui_base.specs.declared.refusal.Refusal.{Refusal}
use Rattle.run_defs.specs.Events.{event_line, path, send}
use Rattle.run_defs.specs.Machine.{Machine}
use Rattle.run_defs.specs.Making.{refused_line}
use Rattle.scene_defs.specs.Valid.{is_among}

-- a line that tells of an event, and of an object among these
pub record TellsOfEvent (kind : EventKind) (target : Handle) (path : List Handle) (line : List ℕ) : Type 0 where
  pub current : Handle
  pub on_path : is_among (map (λ (h : Handle). h.0) path) current.0 ≡ true
  pub line_is : line ≡ event_line kind target current

-- a line that tells of an action that was refused
pub record TellsOfRefusal (line : List ℕ) : Type 0 where
  pub refusal : Refusal
  pub line_is : line ≡ refused_line refusal

-- bytes of the log are such lines in a row
pub record AreTold (kind : EventKind) (target : Handle) (path : List Handle) (bytes : List ℕ) : Type 0 where
  pub lines : List (List ℕ)
  pub bytes_are : flat_map (λ line. line) lines ≡ bytes
  pub tell : AllByRecursion (λ line. TellsOfEvent kind target path line ⊎ TellsOfRefusal line) lines

-- an event tells of its target, and of the objects on its path whose handlers run, and of nothing else but
-- the actions of these that were refused
abbrev pub EventsTellOfTheirPaths : Type 0
EventsTellOfTheirPaths =
    (kind : EventKind) (target : Handle) (machine : Machine) →
    AreTold kind target (path machine.scene target) (send kind target machine).lines
