use Rattle.std.proofs.Common.{◌∙◌, sym, ap, ◌≤◌, ◌<◌, false, length, take, arith}
use Rattle.std.proofs.lemmas.Grind.{common_steps}
use Rattle.scene_defs.specs.Quoted.{unescaped}
use Rattle.scene_defs.proofs.Unescaping.{begun, begun-nothing, begun-written, no_more_fits}
use Rattle.scene_defs.proofs.texts.unescape.Goals as goal

pub loop-rest-init : goal.loop-rest-init
loop-rest-init c = (omega arith, begun-nothing _)

pub returns-then-len-room : goal.returns-then-len-room
returns-then-len-room c =
    let full : length c.args.room.now ≤ length (take c.loop-rest.len c.loop-rest.room) = grind (arith, common_steps) in
    let text = ap (begun (take c.loop-rest.len c.loop-rest.room)) c.in_ok-byte.ensures.some in
    cc (no_more_fits (length c.args.room.now) (take c.loop-rest.len c.loop-rest.room) c.in_ok-byte.byte (unescaped false c.in_ok-byte.others.now) full, text, c.loop-rest.invariant.1)

pub loop-rest-preserved : goal.loop-rest-preserved
loop-rest-preserved c =
    let text = ap (begun (take c.loop-rest.len c.loop-rest.room)) c.in_ok-byte.ensures.some in
    let within : c.loop-rest.len < length c.loop-rest.room = omega arith in
    let more = begun-written c.loop-rest.room c.loop-rest.len c.in_ok-byte.byte (unescaped false c.in_ok-byte.others.now) within in
    (grind (arith, common_steps), more ∙ (sym text ∙ c.loop-rest.invariant.1))
