-- Who is there keeps its handlers over an action.
use Rattle.std.proofs.Common.{◌≡◌, ◌≢◌, ◌∙◌, sym, ap, refl, ℕ, Bool, true, false, not, Option, Some, None, List, [], ◌∷◌}
use Rattle.std.specs.Prelude.{if◌then◌else◌}
use Rattle.std.proofs.lemmas.Bool.{false≢true}
use Rattle.std.proofs.lemmas.List.{get_or-set_other}
use Rattle.gui_base.specs.declared.Handle.{Handle}
use Rattle.gui_base.specs.declared.refusal.Refusal.{Refusal}
use Rattle.gui_base.specs.declared.words.State.{State}
use Rattle.gui_base.specs.declared.words.State.TheVariants.{Focused}
use Rattle.gui_base.specs.Forest.{Forest, has}
use Rattle.gui_base.proofs.Forests.{map-with_row_by}
use Rattle.play_defs.specs.Focus.{group_of}
use Rattle.play_defs.specs.Handlers.{handlers_of, forgotten}
use Rattle.play_defs.specs.declared.Handler.{Handler}
use Rattle.scene_defs.specs.declared.Change.{Change}
use Rattle.scene_defs.specs.declared.Change.TheVariants as change
use Rattle.scene_defs.specs.Change.{answer_of, changed, scene_by}
use Rattle.scene_defs.specs.Deeds.{deleted}
use Rattle.scene_defs.specs.Edits.{below}
use Rattle.scene_defs.specs.Scene.{Scene, handle_of, handles_of, is_at, is_there}
use Rattle.run_defs.specs.Events.{asked, say, say_or_change, act}
use Rattle.run_defs.specs.Machine.{Machine}
use Rattle.run_defs.specs.Making.{make, make_by, put_state, is_same, is_in_state, heir, pass_on, leave_from, leave_group, without_handlers, without_targets, without_anims, forget, not_there, handles, removed_by, made, note, attempt, attempt_by}
use Rattle.run_defs.specs.Play.{nothing, with, ◌⊳◌, ◌▷◌, each}
use Rattle.run_laws.specs.Keeping.{ActKeepsHandlers}

-- the same objects are there, and all handlers stay
record Keeps (before after : Machine) : Type 0 where
  there : (c : ℕ) → is_there after.scene c ≡ is_there before.scene c
  handlers : after.handlers ≡ before.handlers

keeps_all : (m : Machine) → Keeps m m
keeps_all m = record { there = λ c. refl; handlers = refl }

keeps_then : (l m n : Machine) → Keeps l m → Keeps m n → Keeps l n
keeps_then l m n h k = record { there = λ c. k.there c ∙ h.there c; handlers = k.handlers ∙ h.handlers }

put_state-keeps : (state : State) (on : Bool) (h : Handle) (m : Machine) → Keeps m (put_state state on h m).machine
unfolding put_state make
put_state-keeps state on h m = by_test (is_same (is_in_state state m.scene h) on) where
  by_scene : (answer : Option Refusal) → handles_of (scene_by answer m.scene (change.State h state on)).trees ≡ handles_of m.scene.trees
  by_scene None = map-with_row_by handle_of (λ k. true) (is_at h.0) _ (λ object. refl) m.scene.trees
  by_scene (Some refusal) = refl

  by_answer : (answer : Option Refusal) → Keeps m (make_by answer (change.State h state on) m).machine
  by_answer None = record { there = λ c. ap (λ (f : Forest ℕ). has f c) (by_scene (answer_of m.scene (change.State h state on))); handlers = refl }
  by_answer (Some refusal) = keeps_all m

  by_test : (b : Bool) → Keeps m ((if b then nothing else make (change.State h state on)) m).machine
  by_test true = keeps_all m
  by_test false = by_answer (answer_of m.scene (change.State h state on))

pass_on-keeps : (id : ℕ) (h : Handle) (next : Option Handle) (m : Machine) → Keeps m (pass_on id h next m).machine
unfolding with ◌▷◌ ◌⊳◌
pass_on-keeps id h None m = record { there = λ c. refl; handlers = refl }
pass_on-keeps id h (Some k) m = let later = put_state-keeps Focused true k _ in record { there = later.there; handlers = later.handlers }

leave_group-keeps : (h : Handle) (m : Machine) → Keeps m (leave_group h m).machine
unfolding leave_group leave_from
leave_group-keeps h m = by (group_of m.groups h) where
  by : (id : Option ℕ) → Keeps m (leave_from id h m).machine
  by None = keeps_all m
  by (Some id) = pass_on-keeps id h (heir m id h) m

-- what is forgotten of an object that goes
record Forgets (h : Handle) (before after : Machine) : Type 0 where
  there : (c : ℕ) → is_there after.scene c ≡ is_there before.scene c
  handlers : after.handlers ≡ forgotten before.handlers h.0

forget-forgets : (h : Handle) (m : Machine) → Forgets h m (forget h m).machine
unfolding forget with ◌▷◌ ◌⊳◌
forget-forgets h m = let k = leave_group-keeps h (without_anims h (without_targets h (without_handlers h m))) in record { there = k.there; handlers = k.handlers }

-- the objects of a list are forgotten: who is there stays there, and who is none of them has its handlers
each-there : (c : ℕ) (hs : List ℕ) (m : Machine) → is_there (each forget (handles hs) m).machine.scene c ≡ is_there m.scene c
unfolding each ◌▷◌ ◌⊳◌
each-there c [] m = refl
each-there c (h ∷ hs) m = each-there c hs (forget (record { 0 = h }) m).machine ∙ (forget-forgets (record { 0 = h }) m).there c

abbrev IsAbsent : ℕ → List ℕ → Type 0
IsAbsent c [] = Unit {0}
IsAbsent c (h ∷ hs) = (c ≢ h) × IsAbsent c hs

each-handlers : (c : ℕ) (hs : List ℕ) (m : Machine) → IsAbsent c hs → handlers_of (each forget (handles hs) m).machine.handlers c ≡ handlers_of m.handlers c
unfolding each ◌▷◌ ◌⊳◌
each-handlers c [] m apart = refl
each-handlers c (h ∷ hs) m apart =
    each-handlers c hs (forget (record { 0 = h }) m).machine apart.1
    ∙ (ap (λ (lists : List (List Handler)). handlers_of lists c) (forget-forgets (record { 0 = h }) m).handlers ∙ get_or-set_other m.handlers h c [] [] apart.0)

-- who is there is none of those that are not
filtered-absent : (scene : Scene) (c : ℕ) (hs : List ℕ) → is_there scene c ≡ true → IsAbsent c (not_there scene hs)
filtered-absent scene c [] there = tt
filtered-absent scene c (h ∷ hs) there = by (is_there scene h) refl (filtered-absent scene c hs there) where
  by : (b : Bool) → is_there scene h ≡ b → IsAbsent c (not_there scene hs) → IsAbsent c (if not b then h ∷ not_there scene hs else not_there scene hs)
  by true e rest = rest
  by false e rest = ((λ same. false≢true (sym (ap (λ (k : ℕ). is_there scene k) same ∙ e) ∙ there)), rest)

-- the machine after a change alone
make-scene : (change : Change) (m : Machine) → (make change m).machine.scene ≡ changed m.scene change
unfolding make
make-scene change m = by (answer_of m.scene change) refl where
  by : (answer : Option Refusal) → answer_of m.scene change ≡ answer → (make_by answer change m).machine.scene ≡ changed m.scene change
  by None e = refl
  by (Some refusal) e = sym (ap (λ (answer : Option Refusal). scene_by answer m.scene change) e)

make-handlers : (change : Change) (m : Machine) → (make change m).machine.handlers ≡ m.handlers
unfolding make
make-handlers change m = by (answer_of m.scene change) where
  by : (answer : Option Refusal) → (make_by answer change m).machine.handlers ≡ m.handlers
  by None = refl
  by (Some refusal) = refl

made-handlers : (c : ℕ) (change : Change) (m : Machine) → is_there (made change m).machine.scene c ≡ true → handlers_of (made change m).machine.handlers c ≡ handlers_of m.handlers c
unfolding made ◌▷◌ ◌⊳◌ each
made-handlers c change m there =
    by (deleted change) there ∙ ap (λ (lists : List (List Handler)). handlers_of lists c) (make-handlers change m) where
      by : (d : Option Handle) → is_there (each forget (removed_by m.scene (changed m.scene change) d) (make change m).machine).machine.scene c ≡ true →
          handlers_of (each forget (removed_by m.scene (changed m.scene change) d) (make change m).machine).machine.handlers c ≡ handlers_of (make change m).machine.handlers c
      by None is = refl
      by (Some h) is =
          let gone = not_there (changed m.scene change) (below m.scene h.0) in
          let still : is_there (changed m.scene change) c ≡ true =
          sym (ap (λ (scene : Scene). is_there scene c) (make-scene change m)) ∙ (sym (each-there c gone (make change m).machine) ∙ is) in
          each-handlers c gone (make change m).machine (filtered-absent (changed m.scene change) c (below m.scene h.0) still)

attempt-handlers : (c : ℕ) (change : Change) (m : Machine) → is_there (attempt change m).machine.scene c ≡ true → handlers_of (attempt change m).machine.handlers c ≡ handlers_of m.handlers c
unfolding attempt note
attempt-handlers c change m = by (answer_of m.scene change) where
  by : (answer : Option Refusal) → is_there (attempt_by answer change m).machine.scene c ≡ true → handlers_of (attempt_by answer change m).machine.handlers c ≡ handlers_of m.handlers c
  by None is = made-handlers c change m is
  by (Some refusal) is = refl

pub act_keeps : ActKeepsHandlers
unfolding act say
act_keeps kind target current action m = by_there (is_there m.scene current.0) where
  by_asked : (change : Option Change) → is_there (say_or_change kind target current change m).machine.scene current.0 ≡ true →
      handlers_of (say_or_change kind target current change m).machine.handlers current.0 ≡ handlers_of m.handlers current.0
  by_asked None is = refl
  by_asked (Some change) is = attempt-handlers current.0 change m is

  by_there : (b : Bool) → is_there ((if b then say_or_change kind target current (asked target action) else nothing) m).machine.scene current.0 ≡ true →
      handlers_of ((if b then say_or_change kind target current (asked target action) else nothing) m).machine.handlers current.0 ≡ handlers_of m.handlers current.0
  by_there true is = by_asked (asked target action) is
  by_there false is = refl
