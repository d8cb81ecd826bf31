use Rattle.std.proofs.Common.{sym, ◌∙◌, arith}
use Rattle.std.proofs.lemmas.Int.{ints}
use Rattle.bdf_font.specs.Bdf.{top_of}
use Rattle.bdf_font.proofs.Fitting.{fits_is, code_range, place_range, made_glyph, code_below}
use Rattle.bdf_font.proofs.characters.glyph_of.Goals as goal

pub overflow_cast-shape : goal.overflow_cast-shape
overflow_cast-shape c =
    let f = fits_is c.args.character.now (sym c.fits.ensures ∙ c.if-fits.true) in let low = f.advance_low in let high = f.advance_high in grind (arith, ints, low, high)

pub overflow_cast-shape-then-fits : goal.overflow_cast-shape-then-fits
overflow_cast-shape-then-fits c =
    let f = fits_is c.args.character.now (sym c.fits.ensures ∙ c.if-fits.true) in let low = f.w_low in let high = f.w_high in grind (arith, ints, low, high)

pub overflow_cast-shape-then-fits-2 : goal.overflow_cast-shape-then-fits-2
overflow_cast-shape-then-fits-2 c =
    let f = fits_is c.args.character.now (sym c.fits.ensures ∙ c.if-fits.true) in let low = f.h_low in let high = f.h_high in grind (arith, ints, low, high)

pub overflow_cast-shape-then-fits-3 : goal.overflow_cast-shape-then-fits-3
overflow_cast-shape-then-fits-3 c =
    let f = fits_is c.args.character.now (sym c.fits.ensures ∙ c.if-fits.true) in let r = place_range c.args.character.now.shape.x f.ox in let low = r.0 in let high = r.1 in grind (arith, ints, low, high)

pub overflow_cast-shape-then-fits-4 : goal.overflow_cast-shape-then-fits-4
overflow_cast-shape-then-fits-4 c =
    let f = fits_is c.args.character.now (sym c.fits.ensures ∙ c.if-fits.true) in let r = place_range (top_of c.args.character.now) f.oy in let low = r.0 in let high = r.1 in let is = c.top_of.ensures in grind (arith, ints, low, high, is)

pub overflow_cast-result : goal.overflow_cast-result
overflow_cast-result c =
    let f = fits_is c.args.character.now (sym c.fits.ensures ∙ c.if-fits.true) in let r = code_range c.args.character.now.code f.code in let low = r.0 in let high = r.1 in grind (arith, ints, low, high)

pub returns-then-fits-clause-glyph : goal.returns-then-fits-clause-glyph
returns-then-fits-clause-glyph c =
    let f = fits_is c.args.character.now (sym c.fits.ensures ∙ c.if-fits.true) in sym (made_glyph c.args.character.now c.top_of.result c.top_of.ensures (sym c.fits.ensures ∙ c.if-fits.true) f)

pub returns-then-fits-clause-code : goal.returns-then-fits-clause-code
returns-then-fits-clause-code c =
    let f = fits_is c.args.character.now (sym c.fits.ensures ∙ c.if-fits.true) in code_below c.args.character.now f
