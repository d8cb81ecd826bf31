use Rattle.gui_draw.proofs.Common.{◌≡◌, ◌∙◌, rules, get_or, black}
use Rattle.gui_base.specs.Color.{parts}
use Rattle.gui_color.proofs.Mixes.{masked_all}
use Rattle.text_defs.specs.Bits.{bit}
use Rattle.text_defs.specs.BuiltIn.{column_of}
use Rattle.gui_draw.proofs.stamps.ink_dots.Goals as goal

pub returns-then-opa-ge252 : goal.returns-then-opa-ge252
returns-then-opa-ge252 c =
    let all : parts c.args.opa ≡ 32 = search rules in
    λ k h. c.cover_dots.ensures k h ∙ masked_all (bit (column_of c.args.c k) c.args.y) c.args.fg (get_or c.args.row.now k black) c.args.opa all
