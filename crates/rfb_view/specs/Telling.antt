-- What the log is told of a line of the script of a session.
use Rattle.std.specs.Prelude.{ℕ, List, [], ◌∷◌}
use Rattle.run_defs.specs.Machine.{Machine}
use Rattle.run_defs.specs.Run.{Told, moment, entry, told}
use Rattle.run_defs.specs.Script.{Said}
use Rattle.session_defs.specs.Sessions.{unframed}

-- the line asks for no frame, so that none is numbered
abbrev pub line_tells : Machine → ℕ → Said → List Told
line_tells machine number said = told (entry (moment machine number 1) (unframed said) ∷ []) []
