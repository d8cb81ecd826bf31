use Rattle.std.proofs.Common.{◌≡◌, true, min, take}
use Rattle.std.specs.List.{list_all}
use Rattle.run_defs.specs.Numbers.{is_digit, value_of}
use Rattle.scene_script.specs.Numbers.{beyond}
use Rattle.scene_script.proofs.numbers.capped_value.Given as goal

abbrev pub invariant-loop-digit : goal.invariant-loop-digit
invariant-loop-digit l =
    (l.value ≡ min (value_of (take l.digit-index l.digits)) beyond)
    × (list_all is_digit (take l.digit-index l.digits) ≡ true)
