use Rattle.std.proofs.Common.{◌≡◌, ℕ, ◌<◌, false, slice_index_or}
use Rattle.gui_base.specs.Area.{Rect}
use Rattle.gui_damage.specs.Damage.{rects_of}
use Rattle.gui_damage.specs.Joining.{can_join}
use Rattle.gui_damage.proofs.pairs.partner_of.Given as goal

abbrev pub invariant-loop-j : goal.invariant-loop-j
invariant-loop-j g l = (j : ℕ) (d : Rect) → l.i < j → j < l.j → can_join (g.R.Round.rules l.round).round (slice_index_or (rects_of l.areas) l.i d) (slice_index_or (rects_of l.areas) j d) ≡ false
