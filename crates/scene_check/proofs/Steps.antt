-- What one change does among several.
use Rattle.std.proofs.Common.{◌≡◌, ◌∙◌, ap, refl, sym, ℕ, ◌+◌, ◌<◌, List, ◌∷◌, drop, length, get_or, Option, Some, None, Ok, Err}
use Rattle.std.proofs.lemmas.List.{drop_more}
use Rattle.gui_base.specs.declared.refusal.Refusal.{Refusal}
use Rattle.gui_base.specs.Refusing.{result_of}
use Rattle.scene_defs.specs.declared.Change.{Change}
use Rattle.scene_defs.specs.Scene.{Scene}
use Rattle.scene_check.specs.Checking.{after_one, changed_by_all, refusal_of, refusal_of_all}

-- those that begin with one that is done come to what the others come to after it
pub record GoesOn (scene : Scene) (change : Change) (changes : List Change) : Type 0 where
  pub answer : refusal_of_all scene (change ∷ changes) ≡ refusal_of_all (after_one scene change) changes
  pub after : changed_by_all scene (change ∷ changes) ≡ changed_by_all (after_one scene change) changes

goes_on : (scene : Scene) (change : Change) (changes : List Change) (answer : Option Refusal) → refusal_of scene change ≡ answer → Ok tt ≡ result_of answer → GoesOn scene change changes
goes_on scene change changes None is done = record { answer = rw is refl; after = rw is refl }
goes_on scene change changes (Some why) is done = cc

stops : (scene : Scene) (change : Change) (changes : List Change) (why : Refusal) (answer : Option Refusal) → refusal_of scene change ≡ answer → Err why ≡ result_of answer → changed_by_all scene (change ∷ changes) ≡ after_one scene change
stops scene change changes why None is refused = cc
stops scene change changes why (Some other) is refused = rw is refl

module _ (scene : Scene) (changes : List Change) (i : ℕ) (change : Change) (more : i < length changes) (at : change ≡ get_or changes i change) where
  listed : drop i changes ≡ change ∷ drop (i + 1) changes
  listed = drop_more changes i change more ∙ ap (λ (c : Change). c ∷ drop (i + 1) changes) (sym at)

  -- one that is done, in its place
  pub done_at : Ok tt ≡ result_of (refusal_of scene change) →
      (refusal_of_all (after_one scene change) (drop (i + 1) changes) ≡ refusal_of_all scene (drop i changes)) × (changed_by_all (after_one scene change) (drop (i + 1) changes) ≡ changed_by_all scene (drop i changes))
  done_at done =
      let goes = goes_on scene change (drop (i + 1) changes) (refusal_of scene change) refl done in
      (sym (ap (refusal_of_all scene) listed ∙ goes.answer), sym (ap (changed_by_all scene) listed ∙ goes.after))

  -- one that is refused, in its place
  pub refused_at : (why : Refusal) → Err why ≡ result_of (refusal_of scene change) → after_one scene change ≡ changed_by_all scene (drop i changes)
  refused_at why refused = sym (ap (changed_by_all scene) listed ∙ stops scene change (drop (i + 1) changes) why (refusal_of scene change) refl refused)
