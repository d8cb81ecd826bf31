-- A question is a comment.
use Rattle.std.proofs.Common.{◌≡◌, ◌∙◌, ℕ, ◌≤◌, Bool, true, false, ◌==◌, ◌&&◌, List, [], ◌∷◌, length, arith, refl, Option}
use Rattle.std.specs.Prelude.{Some, None, Ok}
use Rattle.std.proofs.lemmas.Bool.Decides.{nat_tests}
use Rattle.run_defs.specs.Language.{is_comment}
use Rattle.run_defs.specs.Script.{max_line, parse, line_says}
use Rattle.run_defs.specs.declared.Line.TheVariants.{Blank}
use Rattle.scene_script.specs.Questions.{asked_in, QuestionsSayNothing}

comment : (line words : List ℕ) → asked_in line ≡ Some words → is_comment line ≡ true
comment [] words e = absurd (cc)
comment (a ∷ []) words e = absurd (cc)
comment (a ∷ b ∷ bs) words e = grind (arith, nat_tests)

pub question_says_nothing : QuestionsSayNothing
unfolding line_says
question_says_nothing line words few e = let h = comment line words e in grind (arith, nat_tests, h)
