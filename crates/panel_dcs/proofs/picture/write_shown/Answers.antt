use Rattle.std.proofs.Common.{◌∙◌, take, arith}
use Rattle.gui_edge.proofs.Prefixes.{on_err}
use Rattle.panel_dcs.specs.Turning.{turned}
use Rattle.panel_dcs.proofs.Picturing.{head_breaks, lines_begin, line_of, line_breaks, lines_more, lines_end}
use Rattle.panel_dcs.proofs.picture.write_shown.Goals as goal

pub returns-in_err-put-clause-err : goal.returns-in_err-put-clause-err
returns-in_err-put-clause-err g c =
    on_err c.from_residual.result (head_breaks (turned c.args.sizes) (g.B.Bus.state c.args.bus.now).chip _ _ c.as_slice.result.now (c.as_slice.ensures.value ∙ c.head.ensures) c.in_err-put.ensures.err)

pub loop-y-init : goal.loop-y-init
loop-y-init g c = record {
  written = lines_begin (turned c.args.sizes) (g.B.Bus.state c.args.bus.now).chip _ _ c.as_slice.result.now (c.as_slice.ensures.value ∙ c.head.ensures) c.in_ok-put.ensures.ok;
  later = c.put.ensures.cause.later;
}

pub returns-in_err-put_pixels-clause-err : goal.returns-in_err-put_pixels-clause-err
returns-in_err-put_pixels-clause-err g c =
    on_err c.from_residual-in_err-put_pixels.result
    (line_breaks (turned c.args.sizes) (g.B.Bus.state c.args.bus.now).chip _ _ _ c.loop-y.y (take c.from.result c.line_behind-line.result) c.loop-y-test.true c.loop-y.invariant.written (line_of (turned c.args.sizes) (g.B.Bus.state c.args.bus.now).chip c.line_behind-line.result c.loop-y.y c.from.result c.from.ensures c.line_behind-line.ensures)
    c.in_err-put_pixels.ensures.err)

pub loop-y-preserved : goal.loop-y-preserved
loop-y-preserved g c = record {
  written = lines_more (turned c.args.sizes) (g.B.Bus.state c.args.bus.now).chip _ _ _ c.loop-y.y (take c.from.result c.line_behind-line.result) c.loop-y-test.true c.loop-y.invariant.written (line_of (turned c.args.sizes) (g.B.Bus.state c.args.bus.now).chip c.line_behind-line.result c.loop-y.y c.from.result c.from.ensures c.line_behind-line.ensures)
      c.in_ok-put_pixels.ensures.ok;
  later = (let before = c.loop-y.invariant.later in let after = c.put_pixels.ensures.cause.later in omega arith);
}

pub returns-clause-ok : goal.returns-clause-ok
returns-clause-ok g c =
    let done = c.loop-y-test.false in
    let most = c.loop-y.auto.y-end in
    lines_end (turned c.args.sizes) (g.B.Bus.state c.args.bus.now).chip _ _ c.loop-y.y (omega arith) c.loop-y.invariant.written
