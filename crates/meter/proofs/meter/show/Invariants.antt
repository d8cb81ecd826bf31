use Rattle.meter.proofs.meter.show.Given as goal

abbrev pub ghosts-refresh : goal.ghosts-refresh
ghosts-refresh g a = record { name = a.blank.name; parts = a.blank.parts }
