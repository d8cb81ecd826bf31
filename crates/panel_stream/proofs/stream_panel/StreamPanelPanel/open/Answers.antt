use Rattle.std.proofs.Common.{◌∙◌, sym, ap, subst, ◌<◌, true}
use Rattle.gui_base.specs.Gridded.{size_in}
use Rattle.std.specs.Io.KnownBytes.{Appends}
use Rattle.gui_edge.specs.Sink.{AppendsPrefix}
use Rattle.gui_edge.specs.Panel.{Opens, StaysClosed}
use Rattle.panel_stream.specs.StreamPanel.{stream_state}
use Rattle.panel_stream.proofs.Answering.{opens, opens_streams, stays_closed, positive, ticked}
use Rattle.panel_stream.proofs.stream_panel.StreamPanelPanel.open.Goals as goal

pub invariant_of-self-in-Ok : goal.invariant_of-self-in-Ok
invariant_of-self-in-Ok g c =
    opens_streams g.T.Sink.state (record { out = c.self.inside.out; width = c.self.inside.width; height = c.self.inside.height; limit = c.self.inside.limit; block = size_in c.self.inside.block; broken = c.self.inside.broken; coming = c.self.inside.coming; sent = c.self.inside.sent; flush_faults = c.self.inside.flush_faults; present_faults = c.self.inside.present_faults }) c.put.new.self c.args.width c.args.height c.args.limit c.if-self.false (positive c.args.width c.args.limit c.requires.sizes.some_width c.requires.sizes.least_limit) (g.met.T.Steady.steady c.put.new.self ∙ sym (g.met.T.Steady.steady c.self.inside.out)) (subst (λ l. Appends (g.T.Sink.state c.self.inside.out).held (g.T.Sink.state c.put.new.self).held l) c.sizes_bytes.ensures c.in-Ok.ensures.ok) c.self.invariant

pub returns-in-Err : goal.returns-in-Err
returns-in-Err g c =
    subst (λ v. StaysClosed (stream_state g.T.Sink.state v.state) (stream_state g.T.Sink.state (record { out = c.put.new.self; width = c.self.inside.width; height = c.self.inside.height; limit = c.self.inside.limit; block = size_in c.self.inside.block; broken = true; coming = c.self.inside.coming; sent = c.self.inside.sent; flush_faults = c.tick-in-Err.new.self; present_faults = c.self.inside.present_faults })) × (v.state.flush_faults < c.tick-in-Err.new.self)) c.self.view_is
    (stays_closed g.T.Sink.state (record { out = c.self.inside.out; width = c.self.inside.width; height = c.self.inside.height; limit = c.self.inside.limit; block = size_in c.self.inside.block; broken = c.self.inside.broken; coming = c.self.inside.coming; sent = c.self.inside.sent; flush_faults = c.self.inside.flush_faults; present_faults = c.self.inside.present_faults }) c.put.new.self c.args.width c.args.height c.tick-in-Err.new.self c.if-self.false (ap (λ v. v.state.limit) c.self.view_is ∙ c.requires.closed) (ticked c.self.inside.flush_faults c.tick-in-Err.new.self c.tick-in-Err.ensures) (g.met.T.Steady.steady c.put.new.self ∙ sym (g.met.T.Steady.steady c.self.inside.out)) (subst (λ l. AppendsPrefix (g.T.Sink.state c.self.inside.out).held (g.T.Sink.state c.put.new.self).held l) c.sizes_bytes.ensures c.in-Err.ensures.err) c.self.invariant)

pub returns-in-Ok : goal.returns-in-Ok
returns-in-Ok g c =
    subst (λ v. Opens (stream_state g.T.Sink.state v.state) (stream_state g.T.Sink.state (record { out = c.put.new.self; width = c.args.width; height = c.args.height; limit = c.args.limit; block = size_in c.args.block; broken = c.self.inside.broken; coming = c.self.inside.coming; sent = c.self.inside.sent; flush_faults = c.self.inside.flush_faults; present_faults = c.self.inside.present_faults })) c.args.width c.args.height c.args.limit (size_in c.args.block)) c.self.view_is
    (opens g.T.Sink.state (record { out = c.self.inside.out; width = c.self.inside.width; height = c.self.inside.height; limit = c.self.inside.limit; block = size_in c.self.inside.block; broken = c.self.inside.broken; coming = c.self.inside.coming; sent = c.self.inside.sent; flush_faults = c.self.inside.flush_faults; present_faults = c.self.inside.present_faults }) c.put.new.self c.args.width c.args.height c.args.limit (size_in c.args.block) c.if-self.false (g.met.T.Steady.steady c.put.new.self ∙ sym (g.met.T.Steady.steady c.self.inside.out)) (subst (λ l. Appends (g.T.Sink.state c.self.inside.out).held (g.T.Sink.state c.put.new.self).held l) c.sizes_bytes.ensures c.in-Ok.ensures.ok) c.self.invariant.streams)
