use Rattle.row_tests.proofs.playing.has_sum.Given as goal

abbrev pub ghosts-sum : goal.ghosts-sum
ghosts-sum a = record { name = a.blank.name; parts = a.blank.parts }
