use Rattle.scene_defs.proofs.Finished.{fonts_stay, images_stay}
use Rattle.scene_defs.proofs.laws.finished_stays.Goals as goal

pub returns-clause-fonts : goal.returns-clause-fonts
returns-clause-fonts c = fonts_stay

pub returns-clause-images : goal.returns-clause-images
returns-clause-images c = images_stay
