-- What a draw buffer ends as, once the loan of some of its pixels is over.
use Rattle.std.specs.Prelude.{ℕ, ℤ, List}
use Rattle.std.specs.Borrow.{Lends, MutBor, Fml, Array}
use Rattle.gui_base.specs.declared.color.Rgb565.{Rgb565}
use Rattle.gui_base.specs.contracts.color.Rgb565.{the_row as rgb_row}
use Rattle.gui_color.specs.Buffer.{Buffer, with_row, with_run}
use Rattle.gui_color.specs.contracts.buffer.DrawBuf.{the_row}

-- the buffer ends with the last colours behind r written over row y from column x1 on
abbrev pub LendsRow : MutBor Buffer → ℤ → ℤ → MutBor (List Rgb565) → Fml
LendsRow buf y x1 r = Lends the_row (Array rgb_row 0) buf r (with_row buf.now y x1)

-- the buffer ends with the last colours behind r written over as many of its pixels from a place on
abbrev pub LendsRun : MutBor Buffer → ℕ → MutBor (List Rgb565) → Fml
LendsRun buf from r = Lends the_row (Array rgb_row 0) buf r (λ ws. record buf.now { pixels = with_run buf.now.pixels from ws })
