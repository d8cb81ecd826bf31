use Rattle.std.proofs.Common.{◌≡◌, ℕ, true, false, None, length}
use Rattle.std.specs.List.{list_any}
use Rattle.gui_store.specs.Views.{scene_of}
use Rattle.gui_style.specs.Styles.{is_handle, uses_style}
use Rattle.gui_debts.specs.Sightings.{AreSighted}
use Rattle.gui_change.specs.Sees.{IsSeenIn, SeesAgain}
use Rattle.gui_change.proofs.seeing.see_users.Given as goal

abbrev pub invariant-loop-h : goal.invariant-loop-h
invariant-loop-h l =
    let scene = scene_of l.after.store.now in
    record {
      nearby : AreSighted scene l.nearby;
      sees : SeesAgain None scene l.fn.table l.table l.fn.damage l.damage;
      done : (k : ℕ) → uses_style scene.book k l.style ≡ true → list_any (is_handle k) l.users ≡ false → IsSeenIn l.table scene k;
    }

abbrev pub decreases-loop-h : goal.decreases-loop-h
decreases-loop-h l = length l.users
