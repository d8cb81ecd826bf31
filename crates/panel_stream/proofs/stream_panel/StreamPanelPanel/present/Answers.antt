use Rattle.std.proofs.Common.{◌∙◌, sym, subst, ◌<◌, true, arith}
use Rattle.gui_base.specs.Gridded.{size_in}
use Rattle.gui_edge.specs.Panel.{Presents, WritesFrame, WritesPrefix}
use Rattle.panel_stream.specs.StreamPanel.{stream_state}
use Rattle.panel_stream.proofs.Answering.{presents, writes_frame, mark_streams, presents_not, writes_prefix, unmarked_streams}
use Rattle.panel_stream.proofs.stream_panel.StreamPanelPanel.present.Goals as goal

pub invariant_of-self-in-Ok : goal.invariant_of-self-in-Ok
invariant_of-self-in-Ok g c =
    mark_streams g.T.Sink.state (record { out = c.self.inside.out; width = c.self.inside.width; height = c.self.inside.height; limit = c.self.inside.limit; block = size_in c.self.inside.block; broken = c.self.inside.broken; coming = c.self.inside.coming; sent = c.self.inside.sent; flush_faults = c.self.inside.flush_faults; present_faults = c.self.inside.present_faults }) c.put.new.self c.if-self.false (subst (λ v. 0 < v.state.limit) (sym c.self.view_is) c.requires.opened) (g.met.T.Steady.steady c.put.new.self ∙ sym (g.met.T.Steady.steady c.self.inside.out)) c.in-Ok.ensures.ok c.self.invariant

pub invariant_of-self-in-Err : goal.invariant_of-self-in-Err
invariant_of-self-in-Err g c =
    unmarked_streams g.T.Sink.state (record { out = c.self.inside.out; width = c.self.inside.width; height = c.self.inside.height; limit = c.self.inside.limit; block = size_in c.self.inside.block; broken = c.self.inside.broken; coming = c.self.inside.coming; sent = c.self.inside.sent; flush_faults = c.self.inside.flush_faults; present_faults = c.self.inside.present_faults }) c.put.new.self c.if-self.false (subst (λ v. 0 < v.state.limit) (sym c.self.view_is) c.requires.opened) (g.met.T.Steady.steady c.put.new.self ∙ sym (g.met.T.Steady.steady c.self.inside.out)) c.in-Err.ensures.err c.self.invariant

pub returns-in-Ok-clause-same : goal.returns-in-Ok-clause-same
returns-in-Ok-clause-same g c =
    subst (λ v. Presents (stream_state g.T.Sink.state v.state) (stream_state g.T.Sink.state (record { out = c.put.new.self; width = c.self.inside.width; height = c.self.inside.height; limit = c.self.inside.limit; block = size_in c.self.inside.block; broken = c.self.inside.broken; coming = c.self.inside.coming; sent = c.self.inside.sent; flush_faults = c.self.inside.flush_faults; present_faults = c.self.inside.present_faults }))) c.self.view_is
    (presents g.T.Sink.state (record { out = c.self.inside.out; width = c.self.inside.width; height = c.self.inside.height; limit = c.self.inside.limit; block = size_in c.self.inside.block; broken = c.self.inside.broken; coming = c.self.inside.coming; sent = c.self.inside.sent; flush_faults = c.self.inside.flush_faults; present_faults = c.self.inside.present_faults }) c.put.new.self c.if-self.false (subst (λ v. 0 < v.state.limit) (sym c.self.view_is) c.requires.opened) (g.met.T.Steady.steady c.put.new.self ∙ sym (g.met.T.Steady.steady c.self.inside.out)) c.in-Ok.ensures.ok c.self.invariant.streams)

pub returns-in-Ok-clause-ok : goal.returns-in-Ok-clause-ok
returns-in-Ok-clause-ok g c =
    subst (λ v. WritesFrame (stream_state g.T.Sink.state v.state) (stream_state g.T.Sink.state (record { out = c.put.new.self; width = c.self.inside.width; height = c.self.inside.height; limit = c.self.inside.limit; block = size_in c.self.inside.block; broken = c.self.inside.broken; coming = c.self.inside.coming; sent = c.self.inside.sent; flush_faults = c.self.inside.flush_faults; present_faults = c.self.inside.present_faults }))) c.self.view_is
    (writes_frame g.T.Sink.state (record { out = c.self.inside.out; width = c.self.inside.width; height = c.self.inside.height; limit = c.self.inside.limit; block = size_in c.self.inside.block; broken = c.self.inside.broken; coming = c.self.inside.coming; sent = c.self.inside.sent; flush_faults = c.self.inside.flush_faults; present_faults = c.self.inside.present_faults }) c.put.new.self c.if-self.false (subst (λ v. 0 < v.state.limit) (sym c.self.view_is) c.requires.opened) (g.met.T.Steady.steady c.put.new.self ∙ sym (g.met.T.Steady.steady c.self.inside.out)) c.in-Ok.ensures.ok c.self.invariant.streams)

pub returns-in-Err-clause-same : goal.returns-in-Err-clause-same
returns-in-Err-clause-same g c =
    subst (λ v. Presents (stream_state g.T.Sink.state v.state) (stream_state g.T.Sink.state (record { out = c.put.new.self; width = c.self.inside.width; height = c.self.inside.height; limit = c.self.inside.limit; block = size_in c.self.inside.block; broken = true; coming = c.self.inside.coming; sent = c.self.inside.sent; flush_faults = c.self.inside.flush_faults; present_faults = c.saturating_add-self-inside-in-Err.result }))) c.self.view_is
    (presents_not g.T.Sink.state (record { out = c.self.inside.out; width = c.self.inside.width; height = c.self.inside.height; limit = c.self.inside.limit; block = size_in c.self.inside.block; broken = c.self.inside.broken; coming = c.self.inside.coming; sent = c.self.inside.sent; flush_faults = c.self.inside.flush_faults; present_faults = c.self.inside.present_faults }) c.put.new.self c.saturating_add-self-inside-in-Err.result c.if-self.false (subst (λ v. 0 < v.state.limit) (sym c.self.view_is) c.requires.opened) (let r = c.self.ranges in let e = c.saturating_add-self-inside-in-Err.ensures in grind arith) (g.met.T.Steady.steady c.put.new.self ∙ sym (g.met.T.Steady.steady c.self.inside.out)) c.in-Err.ensures.err c.self.invariant.streams)

pub returns-in-Err-clause-err : goal.returns-in-Err-clause-err
returns-in-Err-clause-err g c =
    subst (λ v. WritesPrefix (stream_state g.T.Sink.state v.state) (stream_state g.T.Sink.state (record { out = c.put.new.self; width = c.self.inside.width; height = c.self.inside.height; limit = c.self.inside.limit; block = size_in c.self.inside.block; broken = true; coming = c.self.inside.coming; sent = c.self.inside.sent; flush_faults = c.self.inside.flush_faults; present_faults = c.saturating_add-self-inside-in-Err.result }))) c.self.view_is
    (writes_prefix g.T.Sink.state (record { out = c.self.inside.out; width = c.self.inside.width; height = c.self.inside.height; limit = c.self.inside.limit; block = size_in c.self.inside.block; broken = c.self.inside.broken; coming = c.self.inside.coming; sent = c.self.inside.sent; flush_faults = c.self.inside.flush_faults; present_faults = c.self.inside.present_faults }) c.put.new.self c.saturating_add-self-inside-in-Err.result c.if-self.false (subst (λ v. 0 < v.state.limit) (sym c.self.view_is) c.requires.opened) (g.met.T.Steady.steady c.put.new.self ∙ sym (g.met.T.Steady.steady c.self.inside.out)) c.in-Err.ensures.err c.self.invariant.streams)
