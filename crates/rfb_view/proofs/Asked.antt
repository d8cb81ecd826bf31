-- When words ask for a session.
use Rattle.std.proofs.Common.{◌≡◌, ℕ, List, ◌∷◌, Some, None, Ok, Err, refl}
use Rattle.gui_base.specs.Limits.{Bounds}
use Rattle.run_defs.specs.Numbers.{natural}
use Rattle.run_defs.specs.Words.{limits_of}
use Rattle.run_defs.specs.declared.LineFault.{LineFault}
use Rattle.rfb_view.specs.Words.{settings_of}

pub no_number : (ms : List ℕ) (words : List (List ℕ)) (fault : LineFault) → natural 0 60000 ms ≡ Err fault → settings_of (ms ∷ words) ≡ None
no_number ms words fault e = rw e refl

pub no_limits : (ms : List ℕ) (words : List (List ℕ)) (n : ℕ) → natural 0 60000 ms ≡ Ok n → limits_of words ≡ None → settings_of (ms ∷ words) ≡ None
no_limits ms words n e f = rw (e, f) refl

pub a_made_script : (ms : List ℕ) (words : List (List ℕ)) (n k : ℕ) (limits : Bounds) → natural 0 60000 ms ≡ Ok n → limits_of words ≡ Some limits → limits.make ≡ Some k → settings_of (ms ∷ words) ≡ None
a_made_script ms words n k limits e f g = rw (e, f, g) refl

pub settings : (ms : List ℕ) (words : List (List ℕ)) (n : ℕ) (limits : Bounds) → natural 0 60000 ms ≡ Ok n → limits_of words ≡ Some limits → limits.make ≡ None → settings_of (ms ∷ words) ≡ Some (record { ms = n; limits = limits })
settings ms words n limits e f g = rw (e, f, g) refl

pub ruleset asked = (no_number, no_limits, a_made_script, settings)
