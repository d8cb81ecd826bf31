use Rattle.rfb_tests.proofs.panel.a_panel_shows_what_it_is_sent.Given as goal

abbrev pub ghosts-black_buffer : goal.ghosts-black_buffer
ghosts-black_buffer a b = record { name = b.blank.name; parts = b.blank.parts }
