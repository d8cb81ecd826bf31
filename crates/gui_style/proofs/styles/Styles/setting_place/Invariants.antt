use Rattle.std.proofs.Common.{◌≡◌, ◌+◌, ◌<◌, ◌^◌, map, length}
use Rattle.style_defs.specs.Cascade.{sets, settings_of}
use Rattle.style_defs.specs.Firsts.{place_by}
use Rattle.style_defs.proofs.Places.{beyond}
use Rattle.gui_style.specs.Kept.{setting_in}
use Rattle.gui_style.proofs.styles.Styles.setting_place.Given as goal

abbrev pub invariant-loop-entry : goal.invariant-loop-entry
invariant-loop-entry l = record {
  rest : place_by (sets l.prop) (settings_of l.self.book.styles l.style) ≡ beyond l.place (place_by (sets l.prop) (map setting_in l.entries));
  few : l.place + length l.entries < 2 ^ 32;
}

abbrev pub decreases-loop-entry : goal.decreases-loop-entry
decreases-loop-entry l = length l.entries
