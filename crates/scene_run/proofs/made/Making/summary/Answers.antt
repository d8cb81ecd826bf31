use Rattle.std.proofs.Common.{refl}
use Rattle.scene_run.proofs.made.Making.summary.Goals as goal

pub returns : goal.returns
returns c = λ lines ts counts.
    rw (c.push_bytes.ensures, c.push_count-6.ensures.items, c.push_count-5.ensures.items, c.push_count-4.ensures.items, c.push_count-3.ensures.items, c.push_count-2.ensures.items, c.push_count.ensures.items, c.new-text.ensures)
    (rw (c.from.ensures, c.from-2.ensures, counts.all, counts.refused, counts.frames, counts.faults) refl)
