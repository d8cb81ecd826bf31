use Rattle.std.proofs.Common.{◌≡◌, ◌∙◌, ap, sym, ℕ, [], drop}
use Rattle.run_defs.specs.Made.{made_lines}
use Rattle.scene_script.proofs.MadeLemmas.{none_left}
use Rattle.scene_script.proofs.made.LinesLeft.next_line.Goals as goal

pub returns-then-self-eq-LINES-clause-end : goal.returns-then-self-eq-LINES-clause-end
returns-then-self-eq-LINES-clause-end c =
    let none : c.args.self.now ≡ [] = sym c.self.view_is
    ∙ (ap (λ (place : ℕ). drop place made_lines) c.if-self-eq-LINES.true ∙ none_left) in
    (none, none)
