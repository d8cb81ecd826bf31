use Rattle.panel_dcs.specs.Bus.{Feeds}
use Rattle.panel_dcs.specs.Controller.{data_bytes}
use Rattle.panel_dcs.specs.Polls.{next_row, rows_of}
use Rattle.panel_dcs.specs.Transfers.{row_bytes}
use Rattle.std.proofs.Common.{◌≡◌, subst, ap, ◌∙◌, ◌+◌, sym, refl, arith}
use Rattle.std.proofs.lemmas.Grind.{common_steps}
use Rattle.panel_dcs.proofs.Answering.{poll_breaks, poll_arrives, poll_goes_on}
use Rattle.panel_dcs.proofs.Starting.{some_is, none_flies, next_flies}
use Rattle.panel_dcs.proofs.dcs_panel.DcsPanel.poll_row.Goals as goal

pub data-requires : goal.data-requires
data-requires g c = (c.self.invariant.flying c.in-Some.buf (sym c.take.ensures.value ∙ c.in-Some.is)).ready.opened

pub returns-in-Err-clause-answer : goal.returns-in-Err-clause-answer
returns-in-Err-clause-answer g c =
    let e = sym c.take.ensures.value ∙ c.in-Some.is in
    poll_breaks g.F.Sink.state g.B.Bus.state _ _ c.data.new.self c.take.new.self c.in-Some.buf c.as_slice.result.now (ap (λ d. d.state) c.self.view_is) e c.take.ensures.after
    (c.self.invariant.flying c.in-Some.buf e) (c.as_slice.ensures.value ∙ c.row_bytes-bytes.ensures) c.in-Err.ensures

pub returns-then-self-rows-clause-answer : goal.returns-then-self-rows-clause-answer
returns-then-self-rows-clause-answer g c =
    let e = sym c.take.ensures.value ∙ c.in-Some.is in
    poll_arrives g.F.Sink.state g.B.Bus.state _ _ c.data.new.self c.take.new.self c.in-Some.buf c.as_slice.result.now _ c.rows_of-rows.result (ap (λ d. d.state) c.self.view_is) e c.take.ensures.after
    (c.self.invariant.flying c.in-Some.buf e) (c.as_slice.ensures.value ∙ c.row_bytes-bytes.ensures) c.in-Ok.ensures.0 c.in-Ok.ensures.1 c.rows_of-rows.ensures c.if-self-rows.true

pub returns-else-self-rows-clause-answer : goal.returns-else-self-rows-clause-answer
returns-else-self-rows-clause-answer g c =
    let e = sym c.take.ensures.value ∙ c.in-Some.is in
    poll_goes_on g.F.Sink.state g.B.Bus.state _ _ c.data.new.self _ c.in-Some.buf c.as_slice.result.now _ c.rows_of-rows.result (ap (λ d. d.state) c.self.view_is) e refl
    (c.self.invariant.flying c.in-Some.buf e) (c.as_slice.ensures.value ∙ c.row_bytes-bytes.ensures) c.in-Ok.ensures.0 c.in-Ok.ensures.1 c.rows_of-rows.ensures c.if-self-rows.false c.saturating_add-self-inside.ensures

pub invariant_of-self-in-Ok : goal.invariant_of-self-in-Ok
invariant_of-self-in-Ok g c =
    let e = sym c.take.ensures.value ∙ c.in-Some.is in
    next_flies _ c.self.inside.limit c.self.invariant.closed (g.B.Bus.state c.self.inside.bus) (g.B.Bus.state c.data.new.self) c.self.inside.row c.rows_of-rows.result _ c.in-Some.buf c.as_slice.result.now refl
    (c.self.invariant.flying c.in-Some.buf e) (c.as_slice.ensures.value ∙ c.row_bytes-bytes.ensures) c.in-Ok.ensures.0 c.rows_of-rows.ensures c.if-self-rows.false

pub row_bytes-bytes-requires-clause-width : goal.row_bytes-bytes-requires-clause-width
row_bytes-bytes-requires-clause-width g c = (c.self.invariant.flying c.in-Some.buf (sym c.take.ensures.value ∙ c.in-Some.is)).ready.width

pub row_bytes-bytes-requires-clause-height : goal.row_bytes-bytes-requires-clause-height
row_bytes-bytes-requires-clause-height g c = (c.self.invariant.flying c.in-Some.buf (sym c.take.ensures.value ∙ c.in-Some.is)).ready.height

pub invariant_of-self : goal.invariant_of-self
invariant_of-self g c =
    none_flies _ c.self.inside.limit c.self.invariant.closed (g.B.Bus.state c.self.inside.bus) (g.B.Bus.state c.data.new.self) _ c.take.new.self c.self.inside.row c.take.ensures.after c.self.invariant.ready c.in-Err.ensures.feeds

pub invariant_of-self-then-self-rows : goal.invariant_of-self-then-self-rows
invariant_of-self-then-self-rows g c =
    none_flies _ c.self.inside.limit c.self.invariant.closed (g.B.Bus.state c.self.inside.bus) (g.B.Bus.state c.data.new.self) _ c.take.new.self (c.self.inside.row + 1) c.take.ensures.after c.self.invariant.ready c.in-Ok.ensures.0

pub returns-then-self-rows-clause-sent : goal.returns-then-self-rows-clause-sent
returns-then-self-rows-clause-sent g c =
    subst (λ v. Feeds (g.B.Bus.state v.state.bus) (g.B.Bus.state c.data.new.self) (row_bytes (next_row v.state.turned c.in-Some.buf v.state.row))) c.self.view_is
    (subst (λ l. Feeds (g.B.Bus.state c.self.inside.bus) (g.B.Bus.state c.data.new.self) (data_bytes l)) (c.as_slice.ensures.value ∙ c.row_bytes-bytes.ensures) c.in-Ok.ensures.0)

pub returns-else-self-rows-clause-sent : goal.returns-else-self-rows-clause-sent
returns-else-self-rows-clause-sent g c = λ other is.
    subst (λ b. Feeds (g.B.Bus.state c.args.self.now.state.bus) (g.B.Bus.state c.data.new.self) (row_bytes (next_row c.args.self.now.state.turned b c.args.self.now.state.row)))
    (some_is c.in-Some.buf other (sym (sym c.take.ensures.value ∙ c.in-Some.is) ∙ ap (λ d. d.state.coming) c.self.view_is ∙ is))
    (subst (λ v. Feeds (g.B.Bus.state v.state.bus) (g.B.Bus.state c.data.new.self) (row_bytes (next_row v.state.turned c.in-Some.buf v.state.row))) c.self.view_is
    (subst (λ l. Feeds (g.B.Bus.state c.self.inside.bus) (g.B.Bus.state c.data.new.self) (data_bytes l)) (c.as_slice.ensures.value ∙ c.row_bytes-bytes.ensures) c.in-Ok.ensures.0))

pub returns-then-self-rows-clause-rows : goal.returns-then-self-rows-clause-rows
returns-then-self-rows-clause-rows g c = subst (λ v. v.state.row + 1 ≡ rows_of v.state.turned c.in-Some.buf.area) c.self.view_is (c.if-self-rows.true ∙ c.rows_of-rows.ensures)

pub returns-else-self-rows-clause-rows : goal.returns-else-self-rows-clause-rows
returns-else-self-rows-clause-rows g c = ap (λ v. v.state.row + 1) c.self.view_is

pub row_bytes-bytes-requires-clause-inside : goal.row_bytes-bytes-requires-clause-inside
row_bytes-bytes-requires-clause-inside g c = grind (arith, common_steps)

pub invariant_of-self-inside-in-Ok : goal.invariant_of-self-inside-in-Ok
invariant_of-self-inside-in-Ok g c = grind (arith, common_steps)
