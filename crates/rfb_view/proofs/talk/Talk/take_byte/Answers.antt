use Rattle.std.proofs.Common.{◌∙◌, ap, ℕ}
use Rattle.session_defs.specs.Parts.{size_after}
use Rattle.rfb_view.proofs.Talks.{is_whole}
use Rattle.rfb_view.proofs.talk.Talk.take_byte.Goals as goal

pub answer_part-requires-clause-whole : goal.answer_part-requires-clause-whole
answer_part-requires-clause-whole g c =
    is_whole c.args.self.now.due _ c.push.new.self.head (c.push.ensures.size c.if-not-push.false ∙ ap (λ (n : ℕ). size_after n c.push.new.self.head) c.count.ensures)
