use Rattle.std.proofs.Common.{rules, not}
use Rattle.std.proofs.lemmas.Fn.{filter_same}
use Rattle.play_defs.specs.Animation.{has_ended}
use Rattle.gui_anim.proofs.Lists.{as_seen}
use Rattle.gui_anim.proofs.anims.Anims.drop_ended.Goals as goal

pub returns : goal.returns
returns c =
    rw (← c.self.view_is) (as_seen (λ anim. not (has_ended c.args.now anim)) _ _ _ (filter_same _ _ _ (λ x b f' k. search rules) _ _ c.retain.ensures.filtered))
