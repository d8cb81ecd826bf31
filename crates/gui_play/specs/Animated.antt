-- An animation that runs, by its parts.
use Rattle.std.specs.Prelude.{ℕ}
use Rattle.play_defs.specs.declared.Anim.{Anim}
use Rattle.play_defs.specs.declared.AnimSpec.{AnimSpec}

abbrev pub anim_at : AnimSpec → ℕ → Anim
anim_at spec started = record { spec = spec; started = started }
