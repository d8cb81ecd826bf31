use Rattle.std.proofs.Common.{◌-◌, ◌++◌, length, take, sym, ap, ◌∙◌, append_assoc, length-append, arith}
use Rattle.gui_pool.specs.Pieces.{joined}
use Rattle.gui_pool.proofs.Cuts.{take-both}
use Rattle.gui_pool.proofs.chains.copy.Goals as goal

pub loop-chunk-preserved : goal.loop-chunk-preserved
loop-chunk-preserved c =
    let was = c.loop-chunk.invariant in
    let left = c.loop-chunk.left in
    let chunk = c.in-Some.chunk.now in let piece = c.split_at.result.0.now in let rest = joined c.next.new.self in
    let out = c.in-Ok.ensures.ok in
    let is = c.split_at.ensures.front ∙ ap (λ k. take k chunk) c.min.ensures in
    let long = c.split_at.ensures.front_len ∙ c.min.ensures in
    let first = take-both left chunk rest piece is long in
    record {
      bytes =
          ap (λ xs. xs ++ take (left - length piece) rest) out ∙ append_assoc c.loop-chunk.out.items piece (take (left - length piece) rest)
          ∙ ap (λ ys. c.loop-chunk.out.items ++ ys) first
          ∙ sym (ap (λ is. c.loop-chunk.out.items ++ take left (joined is)) c.in-Some.ensures)
          ∙ was.bytes;
      few = let few = was.few in let grown = ap length out in let sum = length-append c.loop-chunk.out.items piece in let l = long in omega arith;
    }
