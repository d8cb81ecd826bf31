-- What one command does among several.
use Rattle.std.proofs.Common.{◌≡◌, ◌∙◌, ap, refl, sym, ℕ, ◌+◌, ◌<◌, List, ◌∷◌, drop, length, get_or, Option, Some, None, Ok, Err}
use Rattle.std.proofs.lemmas.List.{drop_more}
use Rattle.gui_base.specs.declared.refusal.Refusal.{Refusal}
use Rattle.gui_base.specs.Refusing.{result_of}
use Rattle.run_defs.specs.Machine.{Machine}
use Rattle.run_defs.specs.declared.Command.{Command}
use Rattle.meter.specs.Commands.{after, after_all, refusal_of, refusal_of_all}

-- those that begin with one that is done come to what the others come to after it
pub record GoesOn (machine : Machine) (command : Command) (commands : List Command) : Type 0 where
  pub answer : refusal_of_all machine (command ∷ commands) ≡ refusal_of_all (after machine command) commands
  pub after_them : after_all machine (command ∷ commands) ≡ after_all (after machine command) commands

goes_on : (machine : Machine) (command : Command) (commands : List Command) (answer : Option Refusal) → refusal_of machine command ≡ answer → Ok tt ≡ result_of answer → GoesOn machine command commands
goes_on machine command commands None is done = record { answer = rw is refl; after_them = rw is refl }
goes_on machine command commands (Some why) is done = cc

stops : (machine : Machine) (command : Command) (commands : List Command) (why : Refusal) (answer : Option Refusal) → refusal_of machine command ≡ answer → Err why ≡ result_of answer → after_all machine (command ∷ commands) ≡ after machine command
stops machine command commands why None is refused = cc
stops machine command commands why (Some other) is refused = rw is refl

refuses : (machine : Machine) (command : Command) (commands : List Command) (why : Refusal) (answer : Option Refusal) → refusal_of machine command ≡ answer → Err why ≡ result_of answer → Err why ≡ result_of (refusal_of_all machine (command ∷ commands))
refuses machine command commands why None is refused = cc
refuses machine command commands why (Some other) is refused = rw is refused

module _ (machine : Machine) (commands : List Command) (i : ℕ) (command : Command) (more : i < length commands) (at : command ≡ get_or commands i command) where
  listed : drop i commands ≡ command ∷ drop (i + 1) commands
  listed = drop_more commands i command more ∙ ap (λ (c : Command). c ∷ drop (i + 1) commands) (sym at)

  -- one that is done, in its place
  pub done_at : Ok tt ≡ result_of (refusal_of machine command) →
      (refusal_of_all (after machine command) (drop (i + 1) commands) ≡ refusal_of_all machine (drop i commands)) × (after_all (after machine command) (drop (i + 1) commands) ≡ after_all machine (drop i commands))
  done_at done =
      let goes = goes_on machine command (drop (i + 1) commands) (refusal_of machine command) refl done in
      (sym (ap (refusal_of_all machine) listed ∙ goes.answer), sym (ap (after_all machine) listed ∙ goes.after_them))

  -- one that is refused, in its place
  pub refused_at : (why : Refusal) → Err why ≡ result_of (refusal_of machine command) → after machine command ≡ after_all machine (drop i commands)
  refused_at why refused = sym (ap (after_all machine) listed ∙ stops machine command (drop (i + 1) commands) why (refusal_of machine command) refl refused)

  pub refuses_at : (why : Refusal) → Err why ≡ result_of (refusal_of machine command) → Err why ≡ result_of (refusal_of_all machine (drop i commands))
  refuses_at why refused =
      refuses machine command (drop (i + 1) commands) why (refusal_of machine command) refl refused ∙ sym (ap (λ (cs : List Command). result_of (refusal_of_all machine cs)) listed)
