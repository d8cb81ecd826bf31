use Rattle.std.proofs.Common.{◌≡◌}
use Rattle.std.specs.List.{list_any}
use Rattle.gui_style.specs.Styles.{uses_style}
use Rattle.gui_store.specs.Views.{scene_of}
use Rattle.gui_concerns.specs.Concerned.{is_below_user}
use Rattle.gui_concerns.proofs.concerned.is_below_user.Given as goal

abbrev pub invariant-loop-above : goal.invariant-loop-above
invariant-loop-above l = is_below_user (scene_of l.store) l.style l.fn.k.0 ≡ list_any (λ j. uses_style (scene_of l.store).book j l.style) l.above-iterator
