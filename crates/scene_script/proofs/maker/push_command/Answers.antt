use Rattle.std.proofs.Common.{◌∙◌, ap₂, ℕ, List, ◌++◌, decimal}
use Rattle.scene_script.proofs.maker.push_command.Goals as goal

pub returns-in-Opacity-clause-text : goal.returns-in-Opacity-clause-text
returns-in-Opacity-clause-text c =
    rw c.in-Opacity.is (c.push_number.ensures.bytes
    ∙ ap₂ (λ (t : List ℕ) (n : ℕ). t ++ decimal n) c.push_between-in-Opacity.ensures.bytes c.draw-in-Opacity.ensures.value)
