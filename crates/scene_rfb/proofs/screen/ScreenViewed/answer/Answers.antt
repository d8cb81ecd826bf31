use Rattle.std.proofs.Common.{refl}
use Rattle.scene_rfb.proofs.screen.ScreenViewed.answer.Goals as goal

pub returns-in-Err : goal.returns-in-Err
returns-in-Err g c =
    let e = c.refuse-in-Err.ensures in
    rw c.in-Err.is (record { machine = refl; noted = e.noted; ok = e.ok; err = e.err; cause = e.cause })
