use Rattle.std.proofs.Common.{◌∙◌, refl, replicate, arith}
use Rattle.std.proofs.lemmas.List.{length-set}
use Rattle.gui_base.specs.Color.{black}
use Rattle.panel_dcs.specs.Turning.{turned}
use Rattle.panel_dcs.proofs.Picturing.{line_begins, line_more, line_ends}
use Rattle.panel_dcs.proofs.picture.line_behind.Goals as goal

pub loop-x-init : goal.loop-x-init
loop-x-init g c = record { len = refl; colors = line_begins (turned c.args.sizes) (g.B.Bus.state c.args.bus.now).chip (replicate 1024 black) c.args.y }

pub loop-x-preserved : goal.loop-x-preserved
loop-x-preserved g c = record {
  len = length-set c.loop-x.line c.from.result c.color_behind.result ∙ c.loop-x.invariant.len;
  colors = (let few = c.requires.ready.width in let lt = c.loop-x-test.true in let len = c.loop-x.invariant.len in
      line_more (turned c.args.sizes) (g.B.Bus.state c.args.bus.now).chip c.loop-x.line c.color_behind.result c.loop-x.x c.args.y c.from.result c.from.ensures (omega arith) c.loop-x.invariant.colors c.color_behind.ensures);
}

pub returns : goal.returns
returns g c =
    let done = c.loop-x-test.false in
    let most = c.loop-x.auto.x-end in
    line_ends (turned c.args.sizes) (g.B.Bus.state c.args.bus.now).chip c.loop-x.line c.loop-x.x c.args.y (omega arith) c.loop-x.invariant.colors
