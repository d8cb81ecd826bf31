use Rattle.std.proofs.Common.{◌≡◌, ◌+◌, ◌-◌, arith}
use Rattle.gui_base.specs.Color.{parts}
use Rattle.gui_color.proofs.Mixes.{mix_is}
use Rattle.gui_color.proofs.mixing.mix.Goals as goal

pub returns : goal.returns
returns c =
    let parts_are = c.parts_of-parts.ensures in
    let fits = c.ranges.opa.fits in
    let all : 32 - parts c.args.opa + parts c.args.opa ≡ 32 = omega (arith, fits) in
    rw (mix_is c.args.fg c.args.bg c.args.opa (32 - parts c.args.opa) all, ← parts_are, ← c.red_of.ensures, ← c.red_of-2.ensures, ← c.green_of.ensures, ← c.green_of-2.ensures, ← c.blue_of.ensures, ← c.blue_of-2.ensures, ← c.mixed_channel.ensures, ← c.mixed_channel-2.ensures, ← c.mixed_channel-3.ensures) c.color_of.ensures
