-- How plays add up.
use Rattle.run_defs.specs.Play.{Rule, only, ◌▷◌}
use Rattle.gui_board.specs.Stages.{Stage, Played}

abbrev pub NothingIsPlayed : Type 0
NothingIsPlayed = (now : Stage) → Played now now (only now.machine)

-- one rule and then another, which begins where the first ended
abbrev pub PlaysFollow : Type 0
PlaysFollow =
    (old now new : Stage) (first second : Rule) → Played old now (first old.machine) →
    Played now new (second now.machine) → Played old new ((first ▷ second) old.machine)
