-- What the input devices hold, and what they are held on.
use Rattle.std.specs.Prelude.{if◌then◌else◌, None, option_map}
use Rattle.std.specs.declared.option.Option.{Option}
use Rattle.gui_base.specs.declared.Handle.{Handle}
use Rattle.play_defs.specs.Focus.{is_it}
use Rattle.play_defs.specs.declared.Held.{Held}
use Rattle.play_defs.specs.declared.Press.{Press}
use Rattle.play_defs.specs.declared.Scrolling.{Scrolling}
use Rattle.play_defs.specs.declared.Touch.{Touch}
use Rattle.run_defs.specs.Machine.{Device}
use Rattle.run_defs.specs.Making.{unscrolled}
use Rattle.gui_board.specs.declared.inputs.Inputs.{Inputs}

abbrev pub pointer_of : Inputs → Device Touch
pointer_of inputs = record { held = inputs.pointer; target = inputs.pointer_target }

abbrev pub keypad_of : Inputs → Device Held
keypad_of inputs = record { held = inputs.keypad; target = inputs.keypad_target }

abbrev pub encoder_of : Inputs → Device Press
encoder_of inputs = record { held = inputs.encoder; target = inputs.encoder_target }

abbrev pub first_inputs : Inputs
first_inputs = record {
  time = 0;
  pointer = None;
  keypad = None;
  encoder = None;
  pointer_target = None;
  keypad_target = None;
  encoder_target = None;
  scrolling = None;
  keypad_group = 0;
  encoder_group = 0;
}

-- a target, unless it is h
abbrev pub target_without : Handle → Option Handle → Option Handle
target_without h target = if is_it h target then None else target

-- what is scrolled, unless it is h
abbrev pub scrolling_without : Handle → Option Scrolling → Option Scrolling
scrolling_without h scrolling = option_map (unscrolled h) scrolling

-- what is held on h is held on nothing, and what scrolls h scrolls nothing
abbrev pub without_target : Handle → Inputs → Inputs
without_target h inputs = record inputs {
  pointer_target = target_without h inputs.pointer_target;
  keypad_target = target_without h inputs.keypad_target;
  encoder_target = target_without h inputs.encoder_target;
  scrolling = scrolling_without h inputs.scrolling;
}
