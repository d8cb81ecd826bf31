use Rattle.std.proofs.Common.{rules, not}
use Rattle.std.proofs.lemmas.Fn.{filter_same}
use Rattle.play_defs.specs.Animation.{moves}
use Rattle.gui_anim.proofs.Lists.{as_seen}
use Rattle.gui_anim.proofs.anims.Anims.drop_moving.Goals as goal

pub returns : goal.returns
returns c =
    rw (← c.self.view_is) (as_seen (λ anim. not (moves c.args.h.0 c.args.var anim)) _ _ _ (filter_same _ _ _ (λ x b f' k. search rules) _ _ c.retain.ensures.filtered))
