use Rattle.std.proofs.Common.{◌∙◌, sym, subst, true}
use Rattle.gui_base.specs.Gridded.{size_in}
use Rattle.gui_edge.specs.Panel.{Arrives, Breaks}
use Rattle.panel_stream.specs.StreamPanel.{stream_state}
use Rattle.panel_stream.proofs.Answering.{fits_inside, wide, not_zero, arrives, arrives_streams, breaks, breaks_streams, ticked}
use Rattle.panel_stream.proofs.stream_panel.StreamPanelPanel.poll.Goals as goal

pub write_area-requires : goal.write_area-requires
write_area-requires g c =
    fits_inside c.self.inside.width c.self.inside.height c.self.inside.limit (size_in c.self.inside.block) c.in-Some.buf c.self.ranges.1.0.1 c.self.ranges.1.1.0.1 (c.self.inside.flying c.in-Some.buf (sym c.take.ensures.value ∙ c.in-Some.is))

pub invariant_of-self-in-Ok : goal.invariant_of-self-in-Ok
invariant_of-self-in-Ok g c =
    arrives_streams g.T.Sink.state (record { out = c.self.inside.out; width = c.self.inside.width; height = c.self.inside.height; limit = c.self.inside.limit; block = size_in c.self.inside.block; broken = c.self.inside.broken; coming = c.self.inside.coming; sent = c.self.inside.sent; flush_faults = c.self.inside.flush_faults; present_faults = c.self.inside.present_faults }) c.write_area.new.out c.in-Some.buf c.if-self.false (not_zero c.self.inside.limit (λ n. wide c.self.inside.width c.self.inside.height c.self.inside.limit (size_in c.self.inside.block) c.in-Some.buf (c.self.inside.flying c.in-Some.buf (sym c.take.ensures.value ∙ c.in-Some.is)) (c.self.invariant.closed n))) (g.met.T.Steady.steady c.write_area.new.out ∙ sym (g.met.T.Steady.steady c.self.inside.out)) c.in-Ok.ensures.ok (fits_inside c.self.inside.width c.self.inside.height c.self.inside.limit (size_in c.self.inside.block) c.in-Some.buf c.self.ranges.1.0.1 c.self.ranges.1.1.0.1 (c.self.inside.flying c.in-Some.buf (sym c.take.ensures.value ∙ c.in-Some.is))) c.in-Ok.ensures.whole c.self.invariant

pub invariant_of-self-in-Err : goal.invariant_of-self-in-Err
invariant_of-self-in-Err g c =
    breaks_streams g.T.Sink.state (record { out = c.self.inside.out; width = c.self.inside.width; height = c.self.inside.height; limit = c.self.inside.limit; block = size_in c.self.inside.block; broken = c.self.inside.broken; coming = c.self.inside.coming; sent = c.self.inside.sent; flush_faults = c.self.inside.flush_faults; present_faults = c.self.inside.present_faults }) c.write_area.new.out c.in-Some.buf c.if-self.false (not_zero c.self.inside.limit (λ n. wide c.self.inside.width c.self.inside.height c.self.inside.limit (size_in c.self.inside.block) c.in-Some.buf (c.self.inside.flying c.in-Some.buf (sym c.take.ensures.value ∙ c.in-Some.is)) (c.self.invariant.closed n))) (g.met.T.Steady.steady c.write_area.new.out ∙ sym (g.met.T.Steady.steady c.self.inside.out)) c.in-Err.ensures.err (fits_inside c.self.inside.width c.self.inside.height c.self.inside.limit (size_in c.self.inside.block) c.in-Some.buf c.self.ranges.1.0.1 c.self.ranges.1.1.0.1 (c.self.inside.flying c.in-Some.buf (sym c.take.ensures.value ∙ c.in-Some.is))) c.in-Err.ensures.whole c.self.invariant

pub returns-in-Ok : goal.returns-in-Ok
returns-in-Ok g c =
    subst (λ v. Arrives (stream_state g.T.Sink.state v.state) (stream_state g.T.Sink.state (record { out = c.write_area.new.out; width = c.self.inside.width; height = c.self.inside.height; limit = c.self.inside.limit; block = size_in c.self.inside.block; broken = c.self.inside.broken; coming = c.take.new.self; sent = c.self.inside.sent; flush_faults = c.self.inside.flush_faults; present_faults = c.self.inside.present_faults })) c.in-Some.buf) c.self.view_is
    (arrives g.T.Sink.state (record { out = c.self.inside.out; width = c.self.inside.width; height = c.self.inside.height; limit = c.self.inside.limit; block = size_in c.self.inside.block; broken = c.self.inside.broken; coming = c.self.inside.coming; sent = c.self.inside.sent; flush_faults = c.self.inside.flush_faults; present_faults = c.self.inside.present_faults }) c.write_area.new.out c.take.new.self c.in-Some.buf (sym c.take.ensures.value ∙ c.in-Some.is) c.take.ensures.after c.if-self.false (not_zero c.self.inside.limit (λ n. wide c.self.inside.width c.self.inside.height c.self.inside.limit (size_in c.self.inside.block) c.in-Some.buf (c.self.inside.flying c.in-Some.buf (sym c.take.ensures.value ∙ c.in-Some.is)) (c.self.invariant.closed n))) (g.met.T.Steady.steady c.write_area.new.out ∙ sym (g.met.T.Steady.steady c.self.inside.out)) c.in-Ok.ensures.ok (fits_inside c.self.inside.width c.self.inside.height c.self.inside.limit (size_in c.self.inside.block) c.in-Some.buf c.self.ranges.1.0.1 c.self.ranges.1.1.0.1 (c.self.inside.flying c.in-Some.buf (sym c.take.ensures.value ∙ c.in-Some.is))) c.in-Ok.ensures.whole c.self.invariant.streams)

pub returns-in-Err : goal.returns-in-Err
returns-in-Err g c =
    subst (λ v. Breaks (stream_state g.T.Sink.state v.state) (stream_state g.T.Sink.state (record { out = c.write_area.new.out; width = c.self.inside.width; height = c.self.inside.height; limit = c.self.inside.limit; block = size_in c.self.inside.block; broken = true; coming = c.take.new.self; sent = c.self.inside.sent; flush_faults = c.tick-in-Err.new.self; present_faults = c.self.inside.present_faults })) c.in-Some.buf) c.self.view_is
    (breaks g.T.Sink.state (record { out = c.self.inside.out; width = c.self.inside.width; height = c.self.inside.height; limit = c.self.inside.limit; block = size_in c.self.inside.block; broken = c.self.inside.broken; coming = c.self.inside.coming; sent = c.self.inside.sent; flush_faults = c.self.inside.flush_faults; present_faults = c.self.inside.present_faults }) c.write_area.new.out c.take.new.self c.tick-in-Err.new.self c.in-Some.buf (sym c.take.ensures.value ∙ c.in-Some.is) c.take.ensures.after c.if-self.false (not_zero c.self.inside.limit (λ n. wide c.self.inside.width c.self.inside.height c.self.inside.limit (size_in c.self.inside.block) c.in-Some.buf (c.self.inside.flying c.in-Some.buf (sym c.take.ensures.value ∙ c.in-Some.is)) (c.self.invariant.closed n))) (ticked c.self.inside.flush_faults c.tick-in-Err.new.self c.tick-in-Err.ensures) (g.met.T.Steady.steady c.write_area.new.out ∙ sym (g.met.T.Steady.steady c.self.inside.out)) c.in-Err.ensures.err (fits_inside c.self.inside.width c.self.inside.height c.self.inside.limit (size_in c.self.inside.block) c.in-Some.buf c.self.ranges.1.0.1 c.self.ranges.1.1.0.1 (c.self.inside.flying c.in-Some.buf (sym c.take.ensures.value ∙ c.in-Some.is))) c.in-Err.ensures.whole c.self.invariant.streams)
