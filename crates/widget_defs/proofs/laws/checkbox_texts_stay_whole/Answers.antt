use Rattle.widget_defs.proofs.Captions.{captions-stay_whole}
use Rattle.widget_defs.proofs.laws.checkbox_texts_stay_whole.Goals as goal

pub returns : goal.returns
returns c = captions-stay_whole
