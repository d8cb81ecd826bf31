use Rattle.std.proofs.Common.{refl}
use Rattle.gui_font.proofs.Slots.{bits_none, bits_some, listed_there}
use Rattle.gui_font.proofs.fonts.Fonts.bits.Goals as goal

pub returns-in_err-glyph : goal.returns-in_err-glyph
returns-in_err-glyph c =
    let i = c.self.inside in
    let there = listed_there i.glyphs.items i.ink.items i.fonts.items c.args.font c.requires.listed (rw (← c.self.view_is) at c.requires.there) in
    rw (c.from_residual.ensures, ← c.self.view_is) (bits_none i.glyphs.items i.ink.items i.fonts.items c.args.font c.args.c c.requires.listed there (rw c.as_slice.ensures.value at (c.in_err-glyph.ensures.glyph i.ink.items)))

pub returns : goal.returns
returns c =
    let i = c.self.inside in
    let there = listed_there i.glyphs.items i.ink.items i.fonts.items c.args.font c.requires.listed (rw (← c.self.view_is) at c.requires.there) in
    rw (← c.self.view_is) (bits_some i.glyphs.items i.ink.items i.fonts.items c.args.font c.args.c c.in_ok-glyph.glyph _ _ _ c.self.invariant c.requires.listed there
    (rw c.as_slice.ensures.value at (c.in_ok-glyph.ensures.glyph i.ink.items)) (rw c.as_slice.ensures.value at c.in_ok-glyph.ensures.member) refl
    (rw (c.as_slice-2.ensures.value, c.bytes_of.ensures) refl))
