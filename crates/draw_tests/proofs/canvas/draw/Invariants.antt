use Rattle.draw_tests.proofs.canvas.draw.Given as goal

abbrev pub ghosts-draw_counted : goal.ghosts-draw_counted
ghosts-draw_counted a = record { name = a.blank.name; parts = a.blank.parts }
