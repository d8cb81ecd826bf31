use Rattle.std.proofs.Common.{◌≡◌, ◌∙◌, sym, ap, arith, Some, None, ◌<◌}
use Rattle.std.specs.Option.{option_copied, option_map}
use Rattle.gui_pool.specs.Table.{value_at}
use Rattle.gui_font.specs.Views.{glyph_in, key_of}
use Rattle.gui_font.proofs.Indexing.{glyph_found, placed_some, placed_none}
use Rattle.gui_font.proofs.fonts.glyph_at.Goals as goal

pub returns-clause-glyph : goal.returns-clause-glyph
returns-clause-glyph c = λ ink.
    let at : value_at c.args.index.now (key_of c.args.font c.args.code) ≡ Some c.in_ok-place.field-0.now =
    ap (value_at c.args.index.now) (sym c.key_of.ensures.value) ∙ sym c.get.ensures ∙ ap option_copied c.in_ok-place.was in
    let code : c.args.code < 1114112 = omega arith in
    let placed = placed_some c.args.index.now c.args.glyphs.now c.args.font c.args.code c.in_ok-place.field-0.now _ c.requires (omega arith) code at in
    ap (option_map (glyph_in ink)) (sym placed.1) ∙ sym (glyph_found c.args.glyphs.now ink c.args.font c.args.code)

pub returns-in_err-place-clause-glyph : goal.returns-in_err-place-clause-glyph
returns-in_err-place-clause-glyph c = λ ink.
    let at : value_at c.args.index.now (key_of c.args.font c.args.code) ≡ None =
    ap (value_at c.args.index.now) (sym c.key_of.ensures.value) ∙ sym c.get.ensures ∙ ap option_copied c.in_err-place.was in
    let code : c.args.code < 1114112 = omega arith in
    ap (option_map (glyph_in ink)) (c.from_residual.ensures ∙ sym (placed_none c.args.index.now c.args.glyphs.now c.args.font c.args.code c.requires (omega arith) code at))
    ∙ sym (glyph_found c.args.glyphs.now ink c.args.font c.args.code)
