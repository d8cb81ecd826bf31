use Rattle.dcs_tests.proofs.rows.sent.Given as goal

abbrev pub ghosts-line : goal.ghosts-line
ghosts-line a = record { name = a.blank.name; parts = a.blank.parts }
