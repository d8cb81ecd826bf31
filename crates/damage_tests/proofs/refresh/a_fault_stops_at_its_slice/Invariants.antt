use Rattle.damage_tests.proofs.refresh.a_fault_stops_at_its_slice.Given as goal

abbrev pub ghosts-refresh_twice : goal.ghosts-refresh_twice
ghosts-refresh_twice g a = record { name = a.blank.name; parts = a.blank.parts }
