use Rattle.std.proofs.Common.{◌≡◌, ◌≤◌, false, length, take}
use Rattle.scene_defs.specs.Quoted.{unescaped}
use Rattle.scene_defs.proofs.Unescaping.{begun}
use Rattle.scene_defs.proofs.texts.unescape.Given as goal

-- the bytes that are written begin the text, and the rest of it is still to be read
abbrev pub invariant-loop-rest : goal.invariant-loop-rest
invariant-loop-rest l = (l.len ≤ length l.room) × (begun (take l.len l.room) (unescaped false l.rest) ≡ unescaped false l.inside)

abbrev pub decreases-loop-rest : goal.decreases-loop-rest
decreases-loop-rest l = length l.rest
