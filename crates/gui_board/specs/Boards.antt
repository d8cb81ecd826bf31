-- What a board is: a machine, what is pending, and how the log goes.
use Rattle.std.specs.Prelude.{◌≡◌, Bool, true, false, List, Ok, Err}
use Rattle.std.specs.declared.result.Result.{Result}
use Rattle.gui_change.specs.Canvas.{scene_in}
use Rattle.gui_damage.specs.Pending.{Pending}
use Rattle.gui_edge.specs.Sink.{SinkState}
use Rattle.gui_edge.specs.declared.Failed.{Failed}
use Rattle.play_defs.specs.Focus.{Groups}
use Rattle.play_defs.specs.declared.Anim.{Anim}
use Rattle.play_defs.specs.declared.Handler.{Handler}
use Rattle.run_defs.specs.Machine.{Machine}
use Rattle.run_defs.specs.Play.{Rule}
use Rattle.run_defs.specs.declared.Reply.{Reply}
use Rattle.run_defs.specs.declared.Reply.TheVariants.{Ok as Fine}
use Rattle.scene_defs.specs.Place.{panel_of}
use Rattle.scene_defs.specs.Scene.{Scene}
use Rattle.gui_board.specs.declared.board.Board.{Board}
use Rattle.gui_board.specs.declared.inputs.Inputs.{Inputs}
use Rattle.gui_board.specs.Inputs.{pointer_of, keypad_of, encoder_of}
use Rattle.gui_board.specs.Stages.{Stage, Played}

-- the machine with this scene, these handlers, groups and animations, and this time and these devices
abbrev pub machine_with : Scene → List (List Handler) → Groups → List Anim → Inputs → Machine
machine_with scene handlers groups anims inputs = record {
  scene = scene;
  handlers = handlers;
  groups = groups;
  time = inputs.time;
  pointer = pointer_of inputs;
  scrolling = inputs.scrolling;
  keypad = keypad_of inputs;
  encoder = encoder_of inputs;
  keypad_group = inputs.keypad_group;
  encoder_group = inputs.encoder_group;
  anims = anims;
}

abbrev pub machine_of : Board → Machine
machine_of board =
    machine_with (scene_in board.canvas) board.handlers.lists board.groups.all board.anims.running
    board.inputs

-- the areas of the panel that are pending
abbrev pub pending_of : Board → Pending
pending_of board = record { panel = panel_of (scene_in board.canvas); areas = board.damage.areas }

-- the board and a log
abbrev pub stage : Board → SinkState → Stage
stage board log = record {
  machine = machine_of board;
  pending = pending_of board;
  cut = board.scribe.cut;
  noted = board.scribe.noted;
  log = log;
}

-- a rule was played, and its lines were written into the log
abbrev pub Plays : Board → Board → SinkState → SinkState → Rule → Type 0
Plays old new before after rule = Played (stage old before) (stage new after) (rule (machine_of old))

-- a rule was played that leaves the log as it is, whatever that is
abbrev pub Quiet : Board → Board → Rule → Type 0
Quiet old new rule = (log : SinkState) → Plays old new log log rule

-- a step begins: the log has not failed in it, and no action was refused
pub record IsFresh (board : Board) : Type 0 where
  pub uncut : board.scribe.cut ≡ false
  pub unnoted : board.scribe.noted ≡ false

-- the answer of a step that was done, by whether the log has failed and whether an action was refused
abbrev pub IsEnd : Bool → Bool → Result Reply Failed → Type 0
IsEnd cut noted (Ok reply) = (cut ≡ false) × (reply ≡ Fine noted)
IsEnd cut noted (Err failed) = cut ≡ true

abbrev pub IsOutcome : Board → Result Reply Failed → Type 0
IsOutcome board result = IsEnd board.scribe.cut board.scribe.noted result
