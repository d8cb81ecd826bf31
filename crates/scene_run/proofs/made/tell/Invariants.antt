use Rattle.scene_run.proofs.made.tell.Given as goal

abbrev pub ghosts-picture_sum : goal.ghosts-picture_sum
ghosts-picture_sum g a = record { name = a.blank.name; parts = a.blank.parts }
