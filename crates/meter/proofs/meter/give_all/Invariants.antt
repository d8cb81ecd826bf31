use Rattle.std.proofs.Common.{◌≡◌, drop}
use Rattle.gui_core.specs.Machines.{machine_of}
use Rattle.meter.specs.Commands.{after_all, refusal_of_all}
use Rattle.meter.specs.Ready.{StaysReady}
use Rattle.meter.proofs.meter.give_all.Given as goal

-- the commands to come make of the machine what all of them make of the one that was
abbrev pub invariant-loop-command : goal.invariant-loop-command
invariant-loop-command l = record {
  answer : refusal_of_all (machine_of l.gui) (drop l.command-index l.commands) ≡ refusal_of_all (machine_of l.initial.gui) l.commands;
  machine : after_all (machine_of l.gui) (drop l.command-index l.commands) ≡ after_all (machine_of l.initial.gui) l.commands;
  ready : StaysReady l.initial.gui l.gui;
}
