use Rattle.scene_run.proofs.answer.answer.Given as goal

abbrev pub ghosts-pump_counted : goal.ghosts-pump_counted
ghosts-pump_counted g a = record { name = a.blank.name; parts = a.blank.parts }
