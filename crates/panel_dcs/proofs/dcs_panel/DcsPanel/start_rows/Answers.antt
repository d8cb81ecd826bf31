use Rattle.std.proofs.Common.{◌∙◌, sym, ap, subst, refl, ℕ, ◌+◌, min, Some}
use Rattle.gui_base.specs.Area.{Rect, size_of}
use Rattle.gui_edge.specs.Causes.{last_count}
use Rattle.panel_dcs.specs.Bus.{Feeds}
use Rattle.panel_dcs.specs.Transfers.{start_bytes}
use Rattle.panel_dcs.specs.declared.chip.Window.{Window}
use Rattle.panel_dcs.specs.Polls.{Sides, window_of}
use Rattle.panel_dcs.specs.Turning.{turned}
use Rattle.panel_dcs.proofs.Polling.{sides}
use Rattle.panel_dcs.proofs.Starting.{has_limit, none_flies, start_flies, can_start, dcs_starts, all_starts, dcs_started}
use Rattle.panel_dcs.proofs.dcs_panel.DcsPanel.start_rows.Goals as goal

pub window_of-requires : goal.window_of-requires
window_of-requires g c =
    let can = can_start g.F.Sink.state g.B.Bus.state _ _ c.args.buf (ap (λ d. d.state) c.self.view_is) c.requires.area in
    subst (λ (r : Rect). Sides c.self.inside.sizes.width c.self.inside.sizes.height r) (sym c.area-area.ensures) (sides (turned c.self.inside.sizes) c.args.buf.area can.inside)

pub send_start-requires : goal.send_start-requires
send_start-requires g c =
    let can = can_start g.F.Sink.state g.B.Bus.state _ _ c.args.buf (ap (λ d. d.state) c.self.view_is) c.requires.area in
    (c.self.invariant.ready (has_limit (turned c.self.inside.sizes) c.self.inside.limit c.args.buf.area can.inside can.small)).opened

pub invariant_of-self : goal.invariant_of-self
invariant_of-self g c =
    none_flies _ c.self.inside.limit c.self.invariant.closed (g.B.Bus.state c.self.inside.bus) (g.B.Bus.state c.send_start.new.bus) _ c.self.inside.coming c.self.inside.row (ap (λ d. d.state.coming) c.self.view_is ∙ c.requires.free) c.self.invariant.ready c.in-Err.ensures.feeds

pub invariant_of-self-in-Ok : goal.invariant_of-self-in-Ok
invariant_of-self-in-Ok g c =
    let can = can_start g.F.Sink.state g.B.Bus.state _ _ c.args.buf (ap (λ d. d.state) c.self.view_is) c.requires.area in
    start_flies (turned c.self.inside.sizes) c.self.inside.limit c.self.invariant.closed (g.B.Bus.state c.self.inside.bus) (g.B.Bus.state c.send_start.new.bus) _ c.args.buf c.window_of.result refl c.self.invariant.ready can.inside can.small
    (c.window_of.ensures ∙ ap (λ (r : Rect). window_of (turned c.self.inside.sizes) r) c.area-area.ensures) c.in-Ok.ensures.0

pub returns-in-Err-clause-same : goal.returns-in-Err-clause-same
returns-in-Err-clause-same g c =
    dcs_starts g.F.Sink.state g.B.Bus.state _ _ c.send_start.new.bus c.self.inside.coming c.self.inside.row _ c.args.buf c.window_of.result c.in-Err.ensures.prefix c.in-Err.ensures.rest (ap (λ d. d.state) c.self.view_is)
    (c.saturating_add-self-inside.ensures ∙ ap (λ (n : ℕ). min (c.self.inside.sent + n) last_count) (c.size.ensures ∙ ap size_of c.area-area.ensures)) c.in-Err.ensures.whole c.in-Err.ensures.feeds

pub returns-in-Ok-clause-same : goal.returns-in-Ok-clause-same
returns-in-Ok-clause-same g c =
    all_starts g.F.Sink.state g.B.Bus.state _ _ c.send_start.new.bus (Some c.args.buf) 0 _ c.args.buf c.window_of.result (ap (λ d. d.state) c.self.view_is)
    (c.saturating_add-self-inside-in-Ok.ensures ∙ ap (λ (n : ℕ). min (c.self.inside.sent + n) last_count) (c.size-in-Ok.ensures ∙ ap size_of c.area-area.ensures)) c.in-Ok.ensures.0

pub returns-in-Ok-clause-ok : goal.returns-in-Ok-clause-ok
returns-in-Ok-clause-ok g c =
    dcs_started g.F.Sink.state g.B.Bus.state _ _ c.send_start.new.bus (Some c.args.buf) _ c.args.buf (ap (λ d. d.state) c.self.view_is) refl c.in-Ok.ensures.1

pub returns-in-Ok-clause-sent : goal.returns-in-Ok-clause-sent
returns-in-Ok-clause-sent g c =
    subst (λ v. Feeds (g.B.Bus.state v.state.bus) (g.B.Bus.state c.send_start.new.bus) (start_bytes (window_of v.state.turned c.args.buf.area))) c.self.view_is
    (subst (λ (w : Window). Feeds (g.B.Bus.state c.self.inside.bus) (g.B.Bus.state c.send_start.new.bus) (start_bytes w)) (c.window_of.ensures ∙ ap (λ (r : Rect). window_of (turned c.self.inside.sizes) r) c.area-area.ensures) c.in-Ok.ensures.0)
