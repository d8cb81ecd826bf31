use Rattle.bdf_font.proofs.Lengthening.{whole_text}
use Rattle.bdf_font.proofs.text.text_by.Goals as goal

pub returns : goal.returns
returns c = whole_text c.args.number c.args.bounds c.args.glyphs.now c.args.left_out _ _ _ _ _ c.new-text.ensures.items c.in_ok-push_font.ensures c.in_ok-push_glyphs.ensures c.in_ok-push_end.ensures c.in_ok-push_left.ensures
