use Rattle.damage_tests.proofs.refresh.a_full_list_becomes_the_panel_after_a_fault.Given as goal

abbrev pub ghosts-refresh_full_list : goal.ghosts-refresh_full_list
ghosts-refresh_full_list g a = record { name = a.blank.name; parts = a.blank.parts }
