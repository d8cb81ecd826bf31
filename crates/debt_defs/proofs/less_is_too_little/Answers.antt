use Rattle.std.proofs.Common.{refl, arith, ◌≢◌, ℕ, ◌≤◌}
use Rattle.std.proofs.lemmas.Bool.Decides.{nat_tests}
use Rattle.gui_base.specs.Bits.{has_bit}
use Rattle.gui_base.specs.Color.{mix, mix_channel}
use Rattle.gui_base.specs.Forest.{StandsOnce}
use Rattle.scene_defs.specs.Scene.{handles_of}
use Rattle.scene_defs.specs.Place.{place, reach, offset}
use Rattle.scene_defs.specs.Walk.{IsShowable}
use Rattle.text_defs.specs.Fonts.{face}
use Rattle.text_defs.specs.Lines.{lines, run_width, greatest}
use Rattle.text_defs.specs.Ink.{inked}
use Rattle.text_defs.specs.BuiltIn.{column_of}
use Rattle.std.specs.Str.{chars, is_utf8}
use lib.Utf8.{encode}
use Rattle.debt_defs.specs.Examples.{one, in_row, overlapping, labelled, styled}
use Rattle.debt_defs.proofs.less_is_too_little.Goals as goal

one_once : StandsOnce (handles_of one.trees)
one_once k = grind (arith, nat_tests)

two_once : StandsOnce (handles_of overlapping.trees)
two_once k = grind (arith, nat_tests)

no_layer : (n : ℕ) → 3 ≤ n → (n ≢ 1) × (n ≢ 2)
no_layer n low = (λ e. absurd (omega arith), λ e. absurd (omega arith))

one_showable : IsShowable one
one_showable = let n = no_layer 3 (omega arith) in record { once = one_once; above_top = n.0; above_system = n.1 }

two_showable : IsShowable overlapping
two_showable = let n = no_layer 3 (omega arith) in record { once = two_once; above_top = n.0; above_system = n.1 }

row_showable : IsShowable in_row
row_showable = let n = no_layer 3 (omega arith) in record { once = two_once; above_top = n.0; above_system = n.1 }

label_showable : IsShowable labelled
label_showable = let n = no_layer 3 (omega arith) in record { once = one_once; above_top = n.0; above_system = n.1 }

styled_showable : IsShowable styled
styled_showable = let n = no_layer 3 (omega arith) in record { once = two_once; above_top = n.0; above_system = n.1 }

pub returns : goal.returns
unfolding place reach offset has_bit mix mix_channel face lines run_width greatest inked chars is_utf8 encode column_of
returns c = record {
  new_places = record { showable = one_showable; outside = refl; painted = refl };
  named_object = record { showable = row_showable; outside = refl; painted = refl };
  one_user = record { showable = styled_showable; outside = refl; painted = refl };
  differing = record { showable = two_showable; outside = refl; painted = refl };
  text = record { showable = label_showable; outside = refl; painted = refl };
}
