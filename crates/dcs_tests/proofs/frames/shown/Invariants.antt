use Rattle.dcs_tests.proofs.frames.shown.Given as goal

abbrev pub ghosts-line : goal.ghosts-line
ghosts-line a = record { name = a.blank.name; parts = a.blank.parts }
