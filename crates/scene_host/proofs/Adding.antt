-- How what is answered is added.
use Rattle.std.proofs.Common.{◌≡◌, ◌∙◌, sym, ap, inl, inr, subst, ℕ, ◌≤◌, true, false, List, [], arith, refl, Option, Some, None}
use Rattle.std.specs.Io.KnownBytes.{Appends}
use Rattle.std.proofs.KnownBytes.{Appends-nil}
use Rattle.std.proofs.lemmas.Bool.Decides.{nat_tests, eqb_tells}
use Rattle.gui_edge.specs.Causes.{Rose}
use Rattle.gui_edge.specs.Sink.{SinkState, AppendsPrefix}
use Rattle.run_defs.specs.Language.{words_of}
use Rattle.run_defs.specs.Machine.{Machine}
use Rattle.run_defs.specs.Script.{is_newline}
use Rattle.scene_ask.specs.Asking.{answer_line}
use Rattle.scene_script.specs.Cutting.{Cutting, pushed}
use Rattle.scene_script.specs.Questions.{question_said}
use Rattle.scene_host.specs.Answering.{reply_to, IsAnswered, Answering, Adds}

-- a byte is not the end of the script
pub not_last : (old new : Cutting) (b : ℕ) → new ≡ pushed old b → new.last ≡ false
not_last old new b is = elim (eqb_tells b 10) [
  | inl end ↦ ap (λ (c : Cutting). c.last) is ∙ rw end.1 refl
  | inr other ↦
      let test : is_newline b ≡ false = grind (arith, nat_tests, other.1) in
      ap (λ (c : Cutting). c.last) is ∙ rw test refl
]

-- once a write failed nothing is added
pub adds_still : (old new : Answering) (text : List ℕ) → old.answered ≡ false → new.answered ≡ false → new.answers ≡ old.answers → Adds old new text
adds_still old new text was is same = record { adds = λ e. absurd (cc); stays = λ e. (is, same) }

-- nothing is asked
pub adds_none : (old new : Answering) (number : ℕ) (machine : Machine) (pending : ℕ) (asked : Option (List ℕ)) → None ≡ asked → old.answered ≡ true → new.answered ≡ true → new.answers ≡ old.answers → Adds old new (reply_to number machine pending asked)
adds_none old new number machine pending asked none was is same = rw (← none) (record {
  adds = λ e. subst (λ (s : SinkState). IsAnswered old.answers s new.answered []) (sym same) (record {
    whole = λ f. Appends-nil old.answers.held;
    part = λ f. absurd (cc);
    cause = λ f. absurd (cc);
    later = omega arith;
  });
  stays = λ e. absurd (cc);
})

-- the answer was written
pub adds_whole : (old new : Answering) (number : ℕ) (machine : Machine) (pending : ℕ) (asked : Option (List ℕ)) (words : List ℕ) → Some words ≡ asked → old.answered ≡ true → new.answered ≡ true →
    Appends old.answers.held new.answers.held (answer_line number machine pending (question_said (words_of words))) → old.answers.faults ≤ new.answers.faults → Adds old new (reply_to number machine pending asked)
adds_whole old new number machine pending asked words some was is grows later = rw (← some) (record {
  adds = λ e. record { whole = λ f. grows; part = λ f. absurd (cc); cause = λ f. absurd (cc); later = later };
  stays = λ e. absurd (cc);
})

-- a write of it failed
pub adds_part : (old new : Answering) (number : ℕ) (machine : Machine) (pending : ℕ) (asked : Option (List ℕ)) (words : List ℕ) → Some words ≡ asked → old.answered ≡ true → new.answered ≡ false →
    AppendsPrefix old.answers.held new.answers.held (answer_line number machine pending (question_said (words_of words))) → Rose old.answers.faults new.answers.faults → old.answers.faults ≤ new.answers.faults → Adds old new (reply_to number machine pending asked)
adds_part old new number machine pending asked words some was is grows rose later = rw (← some) (record {
  adds = λ e. record { whole = λ f. absurd (cc); part = λ f. grows; cause = λ f. rose; later = later };
  stays = λ e. absurd (cc);
})
