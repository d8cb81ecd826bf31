use Rattle.std.proofs.Common.{◌≡◌, ℕ, true, false, None, length}
use Rattle.std.specs.List.{list_any}
use Rattle.gui_store.specs.Views.{scene_of}
use Rattle.gui_style.specs.Styles.{is_handle, uses_style}
use Rattle.gui_concerns.specs.Concerned.{is_below}
use Rattle.gui_change.specs.Sees.{IsRoom, IsSeenIn, SeesAgain, is_below_other}
use Rattle.gui_change.proofs.seeing.see_below_users.Given as goal

abbrev pub invariant-loop-h : goal.invariant-loop-h
invariant-loop-h l =
    let scene = scene_of l.after.store.now in
    record {
      room : IsRoom scene.limits.objects l.listed;
      sees : SeesAgain None scene l.fn.table l.table l.fn.damage l.damage;
      done : (u k : ℕ) → uses_style scene.book u l.style ≡ true → is_below_other scene l.style u ≡ false → is_below scene u k ≡ true → list_any (is_handle u) l.users ≡ false → IsSeenIn l.table scene k;
    }

abbrev pub decreases-loop-h : goal.decreases-loop-h
decreases-loop-h l = length l.users
