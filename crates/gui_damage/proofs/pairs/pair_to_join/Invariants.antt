use Rattle.std.proofs.Common.{ℕ, ◌<◌}
use Rattle.gui_damage.specs.Damage.{rects_of}
use Rattle.gui_damage.specs.Joining.{HasNoPartner}
use Rattle.gui_damage.proofs.pairs.pair_to_join.Given as goal

abbrev pub invariant-loop-i : goal.invariant-loop-i
invariant-loop-i g l = (i : ℕ) → i < l.i → HasNoPartner (g.R.Round.rules l.round).round (rects_of l.areas) i
