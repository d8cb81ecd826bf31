use Rattle.scene_host.proofs.top.run_host.Given as goal

abbrev pub ghosts-run_counted : goal.ghosts-run_counted
ghosts-run_counted g a = record { name = a.blank.name; parts = a.blank.parts }
