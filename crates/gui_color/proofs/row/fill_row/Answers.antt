use Rattle.std.proofs.Common.{◌≡◌, ◌∙◌, sym, rules}
use Rattle.gui_base.specs.Color.{mix, parts}
use Rattle.gui_base.specs.declared.color.Rgb565.{Rgb565}
use Rattle.gui_color.proofs.Mixes.{mix_all, mix_none}
use Rattle.gui_color.proofs.Rows.{same_map, map_self}
use Rattle.gui_color.proofs.row.fill_row.Goals as goal

pub returns-in-0 : goal.returns-in-0
returns-in-0 c =
    let none : parts c.args.opa ≡ 0 = search rules in
    sym (map_self (λ bg. mix c.args.fg bg c.args.opa) (λ bg. mix_none c.args.fg bg c.args.opa none) c.args.row.now)

pub returns-in-32 : goal.returns-in-32
returns-in-32 c =
    let all : parts c.args.opa ≡ 32 = search rules in
    c.cover_row.ensures ∙ sym (same_map (λ bg. mix c.args.fg bg c.args.opa) (λ (bg : Rgb565). c.args.fg) (λ bg. mix_all c.args.fg bg c.args.opa all) c.args.row.now)
