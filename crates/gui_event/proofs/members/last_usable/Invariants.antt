use Rattle.std.proofs.Common.{◌≡◌, Bool, reverse, length}
use Rattle.std.specs.List.{find}
use Rattle.gui_base.specs.declared.Handle.{Handle}
use Rattle.play_defs.specs.Focus.{members_of}
use Rattle.gui_event.proofs.members.last_usable.Given as goal

-- the members behind the rest were not accepted
abbrev pub invariant-rest : goal.invariant-rest
invariant-rest g l =
    (test : Handle → Bool) → ((h : Handle) (r : Bool) → g.U.Fn.post l.usable (h, tt) r → r ≡ test h) →
    find test (reverse (members_of l.id l.members)) ≡ find test (reverse (members_of l.id l.rest))

abbrev pub decreases-rest : goal.decreases-rest
decreases-rest g l = length l.rest
