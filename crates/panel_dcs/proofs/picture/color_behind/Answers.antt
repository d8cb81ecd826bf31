use Rattle.std.proofs.Common.{sym, subst, ℕ, ◌<◌, pos}
use Rattle.panel_dcs.specs.Turning.{turned}
use Rattle.panel_dcs.proofs.Picturing.{peeked}
use Rattle.panel_dcs.proofs.picture.color_behind.Goals as goal

pub peek-requires-clause-column : goal.peek-requires-clause-column
peek-requires-clause-column g c = subst (λ (n : ℕ). c.column_of.result < n) (sym c.requires.ready.columns) c.column_of.ensures.inside

pub peek-requires-clause-page : goal.peek-requires-clause-page
peek-requires-clause-page g c = subst (λ (n : ℕ). c.page_of.result < n) (sym c.requires.ready.pages) c.page_of.ensures.inside

pub returns : goal.returns
returns g c =
    peeked (turned c.args.sizes) (g.B.Bus.state c.args.bus.now).chip _ c.column_of.result c.page_of.result (pos c.args.x) (pos c.args.y) c.requires.ready.device
    c.column_of.ensures.value c.page_of.ensures.value c.column_of.ensures.inside c.page_of.ensures.inside c.peek.ensures
