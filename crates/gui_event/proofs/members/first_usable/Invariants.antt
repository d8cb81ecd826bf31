use Rattle.std.proofs.Common.{◌≡◌, Bool, drop}
use Rattle.std.specs.List.{find}
use Rattle.gui_base.specs.declared.Handle.{Handle}
use Rattle.play_defs.specs.Focus.{members_of}
use Rattle.gui_event.proofs.members.first_usable.Given as goal

-- the members so far were not accepted
abbrev pub invariant-members : goal.invariant-members
invariant-members g l =
    (test : Handle → Bool) → ((h : Handle) (r : Bool) → g.U.Fn.post l.usable (h, tt) r → r ≡ test h) →
    find test (members_of l.id l.members) ≡ find test (members_of l.id (drop l.member-index l.members))
