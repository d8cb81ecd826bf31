use Rattle.std.proofs.Common.{◌≡◌, ◌++◌, map, take}
use Rattle.bdf_font.specs.Bdf.{upper}
use Rattle.bdf_font.proofs.rows.push_upper.Given as goal

abbrev pub invariant-loop-digit : goal.invariant-loop-digit
invariant-loop-digit l = l.digits.items ≡ l.initial.digits.items ++ map upper (take l.digit-index l.row)
