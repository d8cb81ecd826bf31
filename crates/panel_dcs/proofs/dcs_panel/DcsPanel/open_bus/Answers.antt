use Rattle.std.proofs.Common.{refl, ◌∙◌, ap, subst, arith}
use Rattle.std.proofs.lemmas.Grind.{common_steps}
use Rattle.gui_base.specs.Gridded.{size_in}
use Rattle.panel_dcs.specs.DcsPanel.{OpensBus, resized}
use Rattle.panel_dcs.specs.Turning.{turned, columns_of, pages_of}
use Rattle.panel_dcs.proofs.Opening.{none_comes, closed_stays, sized, opened_is, dcs_opens}
use Rattle.panel_dcs.proofs.dcs_panel.DcsPanel.open_bus.Goals as goal

pub invariant_of-self : goal.invariant_of-self
invariant_of-self g c = closed_stays _ c.self.inside.limit (g.B.Bus.state c.self.inside.bus) (g.B.Bus.state c.open.new.self) c.self.inside.coming c.self.inside.row (ap (λ d. d.state.limit) c.self.view_is ∙ c.requires.closed) c.self.invariant

pub invariant_of-self-in-Err-NoMemory : goal.invariant_of-self-in-Err-NoMemory
invariant_of-self-in-Err-NoMemory g c = closed_stays _ c.self.inside.limit (g.B.Bus.state c.self.inside.bus) (g.B.Bus.state c.open.new.self) c.self.inside.coming c.self.inside.row (ap (λ d. d.state.limit) c.self.view_is ∙ c.requires.closed) c.self.invariant

pub invariant_of-self-in-Err : goal.invariant_of-self-in-Err
invariant_of-self-in-Err g c = closed_stays _ c.self.inside.limit (g.B.Bus.state c.self.inside.bus) (g.B.Bus.state c.send_opening.new.bus) c.self.inside.coming c.self.inside.row (ap (λ d. d.state.limit) c.self.view_is ∙ c.requires.closed) c.self.invariant

pub invariant_of-self-in-Ok-send_opening : goal.invariant_of-self-in-Ok-send_opening
invariant_of-self-in-Ok-send_opening g c =
    opened_is (turned (record { turn = c.self.inside.sizes.turn; width = c.args.width; height = c.args.height })) c.args.limit (g.B.Bus.state c.self.inside.bus) (g.B.Bus.state c.open.new.self) (g.B.Bus.state c.send_opening.new.bus) c.self.inside.coming c.self.inside.row c.requires.sizes
    (none_comes _ c.self.inside.limit (g.B.Bus.state c.self.inside.bus) c.self.inside.coming c.self.inside.row (ap (λ d. d.state.limit) c.self.view_is ∙ c.requires.closed) c.self.invariant)
    (sized (g.B.Bus.state c.self.inside.bus) (g.B.Bus.state c.open.new.self) c.columns_of.result (columns_of (turned (record { turn = c.self.inside.sizes.turn; width = c.args.width; height = c.args.height }))) c.pages_of.result (pages_of (turned (record { turn = c.self.inside.sizes.turn; width = c.args.width; height = c.args.height }))) c.columns_of.ensures c.pages_of.ensures c.in-Ok.ensures)
    c.in-Ok-send_opening.ensures.0

pub returns-in-Ok-send_opening-clause-answer : goal.returns-in-Ok-send_opening-clause-answer
returns-in-Ok-send_opening-clause-answer g c =
    dcs_opens g.F.Sink.state g.B.Bus.state _ _ (g.B.Bus.state c.open.new.self) c.send_opening.new.bus (turned (record { turn = c.self.inside.sizes.turn; width = c.args.width; height = c.args.height })) c.args.limit (size_in c.args.block) (ap (λ d. d.state) c.self.view_is) refl
    (none_comes _ c.self.inside.limit (g.B.Bus.state c.self.inside.bus) c.self.inside.coming c.self.inside.row (ap (λ d. d.state.limit) c.self.view_is ∙ c.requires.closed) c.self.invariant)
    (sized (g.B.Bus.state c.self.inside.bus) (g.B.Bus.state c.open.new.self) c.columns_of.result (columns_of (turned (record { turn = c.self.inside.sizes.turn; width = c.args.width; height = c.args.height }))) c.pages_of.result (pages_of (turned (record { turn = c.self.inside.sizes.turn; width = c.args.width; height = c.args.height }))) c.columns_of.ensures c.pages_of.ensures c.in-Ok.ensures)
    c.in-Ok-send_opening.ensures.0 c.in-Ok-send_opening.ensures.1

pub returns-in-Ok-send_opening-clause-opened : goal.returns-in-Ok-send_opening-clause-opened
returns-in-Ok-send_opening-clause-opened g c =
    subst (λ v. OpensBus (resized v.state.turned c.args.width c.args.height) (g.B.Bus.state v.state.bus) (g.B.Bus.state c.send_opening.new.bus)) c.self.view_is
    (record {
      mid = g.B.Bus.state c.open.new.self;
      opens = sized (g.B.Bus.state c.self.inside.bus) (g.B.Bus.state c.open.new.self) c.columns_of.result (columns_of (turned (record { turn = c.self.inside.sizes.turn; width = c.args.width; height = c.args.height }))) c.pages_of.result (pages_of (turned (record { turn = c.self.inside.sizes.turn; width = c.args.width; height = c.args.height }))) c.columns_of.ensures c.pages_of.ensures c.in-Ok.ensures;
      hears = c.in-Ok-send_opening.ensures.0;
    })

pub invariant_of-self-inside-in-Ok-send_opening : goal.invariant_of-self-inside-in-Ok-send_opening
invariant_of-self-inside-in-Ok-send_opening g c = grind (arith, common_steps)

pub returns-in-Err-Failed-clause-answer : goal.returns-in-Err-Failed-clause-answer
returns-in-Err-Failed-clause-answer g c = grind (arith, common_steps)

pub returns-in-Err-NoMemory-clause-answer : goal.returns-in-Err-NoMemory-clause-answer
returns-in-Err-NoMemory-clause-answer g c = grind (arith, common_steps)
