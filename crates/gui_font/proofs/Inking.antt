-- The ink of a run cell by cell, and of lines one by one.
use Rattle.std.proofs.Common.{◌≡◌, refl, ℕ, zero, suc, ◌+◌, ◌-◌, ◌<◌, false, ◌||◌, List, [], ◌∷◌, take, Some, arith, ℤ, ◌-ℤ◌}
use Rattle.std.specs.Prelude.{pos}
use Rattle.gui_base.specs.declared.words.TextAlign.{TextAlign}
use Rattle.text_defs.specs.Face.{Face}
use Rattle.text_defs.specs.Ink.{run_inked, cell_inked, lines_inked, line_at, inked}
use Rattle.text_defs.specs.Lines.{LineSetting, TextLine, lines}
use Rattle.text_defs.specs.declared.TextLook.{TextLook}
use Rattle.gui_font.specs.Walks.{setting}
use Rattle.gui_font.specs.Runs.{GivesRun}
use Rattle.gui_font.specs.declared.lines.Run.{Run}

module _ (face : Face) (letter : ℕ) (x y : ℤ) where
  pub run_none : (n : ℕ) (cs : List ℕ) → cs ≡ [] → run_inked face letter (take n cs) x y ≡ false
  run_none zero cs e = refl
  run_none (suc n) cs e = rw e refl

  pub run_over : (n : ℕ) (cs : List ℕ) → n ≡ 0 → run_inked face letter (take n cs) x y ≡ false
  run_over n cs e = rw e refl

  -- the first cell of a run, and then the others
  pub run_first : (n c : ℕ) (cs rest : List ℕ) → 0 < n → cs ≡ c ∷ rest →
      run_inked face letter (take n cs) x y ≡ (cell_inked face.height (face.cell c) x y || run_inked face letter (take (n - 1) rest) (x -ℤ pos ((face.cell c).advance + letter)) y)
  run_first zero c cs rest some e = absurd (omega arith)
  run_first (suc n) c cs rest some e = let m : suc n - 1 ≡ n = omega arith in rw (e, m) refl

module _ (s : LineSetting) (align : TextAlign) (pitch whole : ℕ) (x y : ℤ) where
  pub lines_none : (lines : List TextLine) → lines ≡ [] → lines_inked s align pitch whole lines x y ≡ false
  lines_none lines e = rw e refl

  -- the first line, and then the others
  pub lines_first : (before after : List TextLine) (run : Run) (given : GivesRun s before after run) →
      lines_inked s align pitch whole before x y ≡ (run_inked s.face s.letter given.first.chars (x -ℤ line_at align (pos whole) run.line.width) y || lines_inked s align pitch whole after x (y -ℤ pos pitch))
  lines_first before after run given = rw (given.steps, given.line) refl

-- the ink of a text is that of its lines
pub text_inked : (face : Face) (look : TextLook) (cs : List ℕ) (width : ℕ) (x y : ℤ) (s : LineSetting) (runs : List TextLine) (whole : ℕ) (x' y' : ℤ) →
    s ≡ setting face look (Some width) → runs ≡ lines (setting face look (Some width)) cs → whole ≡ width → x' ≡ x → y' ≡ y →
    lines_inked s look.align (face.height + look.line) whole runs x' y' ≡ inked face look.letter look.line look.align cs width x y
unfolding inked
text_inked face look cs width x y s runs whole x' y' a b c d e = rw (a, b, c, d, e) refl
