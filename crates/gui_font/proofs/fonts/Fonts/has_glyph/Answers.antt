use Rattle.std.proofs.Common.{◌≡◌, ◌∙◌, sym, true}
use Rattle.gui_font.specs.Views.{has_slot}
use Rattle.gui_font.proofs.Growing.{slot_there, glyph_there}
use Rattle.gui_font.proofs.Slots.{listed_there, has_glyph_listed}
use Rattle.gui_font.proofs.fonts.Fonts.has_glyph.Goals as goal

pub returns : goal.returns
returns c =
    let i = c.self.inside in
    let listed = listed_there i.glyphs.items i.ink.items i.fonts.items c.args.id c.if-id-eq0.false (rw (← c.self.view_is) at c.requires) in
    let there : has_slot i.fonts.items c.args.id ≡ true = sym (slot_there i.glyphs.items i.ink.items i.fonts.items c.args.id) ∙ listed in
    rw (← c.self.view_is) (has_glyph_listed _ c.args.id c.args.code _ c.if-id-eq0.false (c.is_some.ensures ∙ glyph_there i.glyphs.items i.ink.items i.fonts.items c.args.id c.args.code c.glyph_at.result there (rw c.as_slice.ensures.value at (c.glyph_at.ensures.glyph i.ink.items))))
