-- Whether a number lies in an interval.
use Rattle.std.specs.Prelude.{ℕ, Bool, ◌&&◌, nat_le, ℤ, int_le}
use Rattle.gui_base.specs.declared.intervals.Count.{Count}
use Rattle.gui_base.specs.declared.intervals.Interval.{Interval}

-- whether a number from 0 on lies in an interval, both ends included
abbrev pub is_counted : Count → ℕ → Bool
is_counted count n = nat_le count.low n && nat_le n count.high

-- whether an integer lies in an interval, both ends included
abbrev pub is_within : Interval → ℤ → Bool
is_within interval n = int_le interval.low n && int_le n interval.high
