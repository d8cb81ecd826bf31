use Rattle.scene_rfb.proofs.screen.ScreenViewed.paint.Given as goal

abbrev pub ghosts-refresh_counted : goal.ghosts-refresh_counted
ghosts-refresh_counted a = record { name = a.blank.name; parts = a.blank.parts }
