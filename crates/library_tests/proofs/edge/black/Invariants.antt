use Rattle.library_tests.proofs.edge.black.Given as goal

abbrev pub ghosts-black_buffer : goal.ghosts-black_buffer
ghosts-black_buffer a = record { name = a.blank.name; parts = a.blank.parts }
