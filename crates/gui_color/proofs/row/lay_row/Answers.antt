use Rattle.std.proofs.Common.{◌≡◌, ◌∙◌, sym, rules}
use Rattle.gui_base.specs.Color.{mix, parts}
use Rattle.gui_base.specs.declared.color.Rgb565.{Rgb565}
use Rattle.gui_color.proofs.Mixes.{mix_all}
use Rattle.gui_color.proofs.Rows.{same_map}
use Rattle.gui_color.proofs.row.lay_row.Goals as goal

pub returns-then-this-ne0 : goal.returns-then-this-ne0
returns-then-this-ne0 g c =
    let all : parts c.args.opa ≡ 32 = c.requires.covers (search rules) in
    c.cover_row.ensures ∙ sym (same_map (λ bg. mix c.args.fg bg c.args.opa) (λ (bg : Rgb565). c.args.fg) (λ bg. mix_all c.args.fg bg c.args.opa all) c.args.row.now)
