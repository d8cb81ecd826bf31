use Rattle.damage_tests.proofs.refresh.only_what_is_pending_is_sent.Given as goal

abbrev pub ghosts-refresh_changes : goal.ghosts-refresh_changes
ghosts-refresh_changes g a = record { name = a.blank.name; parts = a.blank.parts }
