use Rattle.std.proofs.Common.{ℕ, length, ◌<◌, ◌≤◌, w32, ◌∙◌, sym, ap, arith, inl, inr, Option, List, refl}
use Rattle.std.specs.Borrow.{Bor}
use Rattle.std.proofs.lemmas.Int.{to_z_pos}
use Rattle.std.proofs.lemmas.Bool.{cases_Bool}
use Rattle.gui_font.specs.Walks.{bytes_left}
use Rattle.gui_font.specs.LinesLeft.{runs_after, setting_of}
use Rattle.gui_font.proofs.LineLists.{whole_newline, runs_next, runs_none, line_is}
use Rattle.gui_font.proofs.lines.Lines.next_run.Goals as goal

pub returns-in_err-text-clause-run : goal.returns-in_err-text-clause-run
returns-in_err-text-clause-run c =
    let none = ap (λ (o : Option (Bor (List ℕ))). runs_after (setting_of c.args.self.now) c.args.self.now.len o) c.in_err-text.was ∙ runs_none _ c.args.self.now.len in
    rw c.from_residual.ensures (none, none)

pub next_line-self-requires : goal.next_line-self-requires
next_line-self-requires c =
    let cut = c.first_line-cut.ensures in
    elim (cases_Bool c.first_line-cut.result.broken) [
      | inl broken ↦ inl broken
      | inr whole ↦ inr (whole_newline _ _ _ (sym cut.broken_is ∙ whole) cut.ends.left)
    ]

pub returns-clause-run : goal.returns-clause-run
returns-clause-run c =
    let self = c.args.self.now in
    let cut = c.first_line-cut.ensures in
    let small : c.first_line-cut.result.stop.width < 2147483648 = omega (arith, cut.small) in
    let fits : length c.in_ok-text.text.now ≤ self.len = omega (arith, ap bytes_left c.in_ok-text.was, self.within) in
    let steps = runs_next (setting_of self) self.len c.first_line-cut.result.stop.count c.first_line-cut.result.stop.width c.in_ok-text.text c.first_line-cut.result.stop.rest c.first_line-cut.result.broken c.next_line-self.result
    cut c.next_line-self.ensures.left c.next_line-self.ensures.bytes fits in
    record {
      first = _;
      steps = ap (λ (o : Option (Bor (List ℕ))). runs_after (setting_of self) self.len o) c.in_ok-text.was ∙ steps;
      line = rw (to_z_pos w32 c.first_line-cut.result.stop.width small) (line_is (setting_of self) self.len _ c.first_line-cut.result.stop.width c.in_ok-text.text c.first_line-cut.result.stop.rest c.first_line-cut.result.broken cut fits);
      characters = rw cut.ends.count_is refl;
      within = omega (arith, cut.ends.count_is, cut.ends.within);
    }
