use Rattle.std.proofs.Common.{◌≡◌}
use denote.Shadow.{shadow}
use denote.Text.{Utf8}
use Rattle.gui_core.specs.Machines.{refresher_in}
use Rattle.row_tests.proofs.playing.play.Given as goal

abbrev pub invariant-loop : goal.invariant-loop
invariant-loop l = shadow (Utf8 l.rest) × (refresher_in l.gui ≡ refresher_in l.fn.gui)
