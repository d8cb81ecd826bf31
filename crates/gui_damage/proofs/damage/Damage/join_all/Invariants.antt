use Rattle.std.proofs.Common.{◌≡◌, length}
use Rattle.gui_damage.specs.Joining.{JoinsPairs}
use Rattle.gui_damage.specs.Rounded.{IsRounded}
use Rattle.gui_damage.proofs.damage.Damage.join_all.Given as goal

abbrev pub invariant-loop-i : goal.invariant-loop-i
invariant-loop-i g l = record {
  round : l.self-inside.round ≡ l.initial.self-inside.round;
  panel : l.self-inside.list.panel ≡ (g.R.Round.rules l.self-inside.round).panel;
  joins : JoinsPairs (g.R.Round.rules l.self-inside.round).round l.initial.self-inside.list.areas l.self-inside.list.areas;
  sound : IsRounded (g.R.Round.rules l.self-inside.round) l.self-inside.list.areas;
}

abbrev pub decreases-loop-i : goal.decreases-loop-i
decreases-loop-i g l = length l.self-inside.list.areas
