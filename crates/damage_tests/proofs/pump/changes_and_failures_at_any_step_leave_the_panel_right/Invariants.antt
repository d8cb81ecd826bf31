use Rattle.damage_tests.proofs.pump.changes_and_failures_at_any_step_leave_the_panel_right.Given as goal

abbrev pub ghosts-pump_in_turn : goal.ghosts-pump_in_turn
ghosts-pump_in_turn g a = record { name = a.blank.name; parts = a.blank.parts }
