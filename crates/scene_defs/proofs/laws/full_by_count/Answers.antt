use Rattle.scene_defs.proofs.Changes.{full_without_room, done_with_room, refused_whatever_limits}
use Rattle.scene_defs.proofs.laws.full_by_count.Goals as goal

pub returns : goal.returns
returns c = record { without_room = full_without_room; with_room = done_with_room; others = refused_whatever_limits }
