use Rattle.std.proofs.Common.{arith}
use Rattle.bdf_font.proofs.Lengthening.{glyph_pushed}
use Rattle.bdf_font.proofs.text.push_glyphs.Goals as goal

pub loop-glyph-preserved : goal.loop-glyph-preserved
loop-glyph-preserved c = glyph_pushed _ _ _ _ _ _ _ (omega arith) c.glyph-item.is c.loop-glyph.invariant c.in_ok-push_glyph.ensures
