use Rattle.std.proofs.Common.{◌≡◌, ◌++◌, map, take, drop}
use Rattle.play_defs.specs.Focus.{in_place_of}
use Rattle.gui_event.proofs.groups.put_in.Given as goal

abbrev pub invariant-groups : goal.invariant-groups
invariant-groups l =
    l.groups ≡ map (in_place_of l.group) (take l.other-index l.initial.groups) ++ drop l.other-index l.initial.groups
