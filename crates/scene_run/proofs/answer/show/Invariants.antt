use Rattle.scene_run.proofs.answer.show.Given as goal

abbrev pub ghosts-refresh_counted : goal.ghosts-refresh_counted
ghosts-refresh_counted g a = record { name = a.blank.name; parts = a.blank.parts }
