-- How `Anims` keeps its animations. No public clause cites this module.
use Rattle.std.specs.Prelude.{ℕ, ◌≤◌, List, map, length}
use Rattle.play_defs.specs.declared.Anim.{Anim}
use Rattle.gui_anim.specs.Anims.{Anims}
use Rattle.gui_anim.specs.declared.running.Running.{Running}

abbrev pub anim_in : Running → Anim
anim_in anim = record { spec = anim.spec; started = anim.started }

abbrev pub anims_of : List Running → ℕ → Anims
anims_of running size = record { running = map anim_in running; size = size }

pub record AreAnims (running : List Running) (size capacity : ℕ) : Type 0 where
  pub few : length running ≤ size
  pub room : size ≤ capacity
