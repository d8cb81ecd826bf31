-- What the words of the command line ask of a session: the milliseconds that pass at each request of the
-- viewer, and the limits, which ask for no made script.
use Rattle.std.specs.Prelude.{ℕ, List, [], ◌∷◌, Some, None}
use Rattle.std.specs.declared.option.Option.{Option}
use Rattle.gui_base.specs.Bounded.{bounds_of}
use Rattle.gui_base.specs.Limits.{Bounds}
use Rattle.run_defs.specs.Words.{limits_of, number_within}
use Rattle.rfb_view.specs.declared.words.Settings.{Settings}

-- what a session is run with
pub record Wanted : Type 0 where
  pub ms : ℕ
  pub limits : Bounds

abbrev pub numbers_of : Settings → Wanted
numbers_of settings = record { ms = settings.ms; limits = bounds_of settings.limits }

-- these settings, where no made script is asked for
abbrev pub unmade : ℕ → Bounds → Option ℕ → Option Wanted
unmade ms limits None = Some (record { ms = ms; limits = limits })
unmade ms limits (Some k) = None

-- these settings, where the words have limits
abbrev pub with_limits : ℕ → Option Bounds → Option Wanted
with_limits ms None = None
with_limits ms (Some limits) = unmade ms limits limits.make

-- the settings of the words after the first one, which says the milliseconds
abbrev pub with_ms : Option ℕ → List (List ℕ) → Option Wanted
with_ms None words = None
with_ms (Some ms) words = with_limits ms (limits_of words)

-- the settings of the words: the milliseconds from 0 to 60,000, and then the limits
abbrev pub settings_of : List (List ℕ) → Option Wanted
settings_of [] = None
settings_of (ms ∷ words) = with_ms (number_within 0 60000 ms) words
