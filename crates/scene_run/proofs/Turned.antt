-- A run leaves its panel turned as it was.
use Rattle.std.proofs.Common.{◌≡◌, ◌∙◌, ℕ, List, Option, Some, None, inl, inr}
use Rattle.run_defs.specs.Machine.{Machine}
use Rattle.run_defs.specs.Script.{Said}
use Rattle.scene_run.specs.Effects.{Output, Halted}
use Rattle.scene_run.specs.Headline.{Outside, Ended, MadeEnded, RunsAs}
use Rattle.scene_run.specs.Making.{MadeBroke}
use Rattle.scene_run.specs.declared.status.Status.{Status}
use Rattle.scene_run.specs.declared.status.Status.TheVariants.{Done, Noted, ReadFault, WriteFault, TooLong}

halted_turn : (first : Machine) (old new : Output) (lines : List Said) → Halted first old new lines → new.panel.turn ≡ old.panel.turn
halted_turn first old new lines h = h.breaks.turn ∙ h.answers.effects.panel.keeps.turn

ended_turn : (first : Machine) (old new : Outside) (taken : List ℕ) (status : Status) → Ended first old new taken status → new.output.panel.turn ≡ old.output.panel.turn
ended_turn first old new taken Done h = h.answers.effects.panel.keeps.turn
ended_turn first old new taken Noted h = h.answers.effects.panel.keeps.turn
ended_turn first old new taken ReadFault h = h.1.effects.panel.keeps.turn
ended_turn first old new taken TooLong h = h.1.effects.panel.keeps.turn
ended_turn first old new taken WriteFault h = halted_turn first old.output new.output _ h
ended_turn first old new taken status h = absurd h

broke_turn : (k : ℕ) (first : Machine) (old new : Output) → MadeBroke k first old new → new.panel.turn ≡ old.panel.turn
broke_turn k first old new (inl h) = halted_turn first _ _ _ h.halted
broke_turn k first old new (inr h) = h.answers.effects.panel.keeps.turn

made_turn : (k : ℕ) (first : Machine) (old new : Output) (status : Status) → MadeEnded k first old new status → new.panel.turn ≡ old.panel.turn
made_turn k first old new Done h = h.answers.effects.panel.keeps.turn
made_turn k first old new Noted h = h.answers.effects.panel.keeps.turn
made_turn k first old new WriteFault h = broke_turn k first old new h
made_turn k first old new status h = absurd h

pub runs_turn : (make : Option ℕ) (first : Machine) (old new : Outside) (status : Status) → RunsAs make first old new status → new.output.panel.turn ≡ old.output.panel.turn
runs_turn None first old new status h = ended_turn first old new h.taken status h.ended
runs_turn (Some k) first old new status h = made_turn k first old.output new.output status h.ended
