use Rattle.std.proofs.Common.{◌∙◌}
use Rattle.rfb_view.proofs.Talks.{pixels_many}
use Rattle.rfb_view.proofs.talk.Talk.look.Goals as goal

pub answer-requires-clause-each : goal.answer-requires-clause-each
answer-requires-clause-each g c =
    pixels_many _ (g.V.Viewed.machine c.args.viewed.now) _ _ (c.pixels.ensures ∙ c.paint.ensures.painted) c.requires.over.width_is c.requires.over.height_is
