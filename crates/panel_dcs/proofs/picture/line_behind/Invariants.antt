use Rattle.std.proofs.Common.{◌≡◌, ℕ, pos, map, take, length}
use Rattle.std.specs.Prelude.{IfSome}
use Rattle.std.specs.List.{range_with_len}
use Rattle.panel_dcs.specs.Turning.{turned, color_behind}
use Rattle.panel_dcs.proofs.picture.line_behind.Given as goal

-- the colours behind the pixels so far
abbrev pub invariant-loop-x : goal.invariant-loop-x
invariant-loop-x g l = record {
  len : length l.line ≡ 1024;
  colors : IfSome (g.B.Bus.state l.bus).chip (λ chip. take l.x l.line ≡ map (λ (k : ℕ). color_behind (turned l.sizes) chip.memory (pos k) (pos l.y)) (range_with_len 0 l.x));
}
