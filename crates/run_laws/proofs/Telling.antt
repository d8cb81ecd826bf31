-- What an event writes: lines that tell of an object on its path, or of a refused action.
use Rattle.std.proofs.Common.{◌≡◌, sym, refl, ℕ, Bool, true, false, Option, Some, None, List, [], ◌∷◌, ◌++◌, map, append-nil, append_assoc, arith, inl, inr}
use Rattle.std.specs.Prelude.{if◌then◌else◌, ◌⊎◌}
use Rattle.std.specs.List.{AllByRecursion, flat_map}
use Rattle.std.proofs.lemmas.Bool.Decides.{nat_tests}
use Rattle.gui_base.specs.declared.Handle.{Handle}
use Rattle.gui_base.specs.declared.events.Action.{Action}
use Rattle.gui_base.specs.declared.events.EventKind.{EventKind}
use Rattle.gui_base.specs.declared.refusal.Refusal.{Refusal}
use Rattle.gui_base.specs.declared.words.State.{State}
use Rattle.scene_defs.specs.declared.Change.{Change}
use Rattle.scene_defs.specs.declared.Change.TheVariants as change
use Rattle.scene_defs.specs.Change.{answer_of}
use Rattle.scene_defs.specs.Scene.{is_there}
use Rattle.scene_defs.specs.Valid.{is_among}
use Rattle.run_defs.specs.Events.{path, actions_at, asked, event_line, say, say_or_change, act, run_at, send}
use Rattle.run_defs.specs.Machine.{Machine}
use Rattle.run_defs.specs.Making.{make, make_by, put_state, leave_group, without_handlers, without_targets, without_anims, forget, removed, made, note, attempt, attempt_by, refused_line}
use Rattle.run_defs.specs.Play.{Rule, nothing, with, ◌⊳◌, ◌▷◌, each}
use Rattle.run_defs.proofs.Inputs.{good_leave_group}
use Rattle.run_defs.proofs.Playing.{good_each, good_put}
use Rattle.run_laws.specs.Telling.{TellsOfEvent, TellsOfRefusal, AreTold, EventsTellOfTheirPaths}

-- Rules that write nothing.
abbrev Quiet : Rule → Type 0
Quiet rule = (m : Machine) → (rule m).lines ≡ []

quiet_nothing : Quiet nothing
quiet_nothing m = refl

quiet_then : (first second : Rule) → Quiet first → Quiet second → Quiet (first ▷ second)
unfolding ◌▷◌ ◌⊳◌
quiet_then first second h k m = rw (h m, k (first m).machine) refl

quiet_look : (f : Machine → Rule) → ((m : Machine) → Quiet (f m)) → Quiet (λ m. f m m)
quiet_look f h m = h m m

quiet_with : (f : Machine → Machine) → Quiet (with f)
unfolding with
quiet_with f m = refl

quiet_make : (change : Change) → Quiet (make change)
unfolding make
quiet_make change m = by (answer_of m.scene change) where
  by : (reason : Option Refusal) → (make_by reason change m).lines ≡ []
  by None = refl
  by (Some refusal) = refl

quiet_put : (state : State) (on : Bool) (h : Handle) → Quiet (put_state state on h)
quiet_put state on h = good_put Quiet quiet_nothing quiet_look state on h (quiet_make (change.State h state on))

quiet_leave_group : (h : Handle) → Quiet (leave_group h)
quiet_leave_group = good_leave_group Quiet quiet_then quiet_look quiet_nothing quiet_put (λ f count. quiet_with _)

quiet_forget : (h : Handle) → Quiet (forget h)
unfolding forget
quiet_forget h =
    quiet_then _ _ (quiet_then _ _ (quiet_then _ _ (quiet_with (without_handlers h)) (quiet_with (without_targets h))) (quiet_with (without_anims h))) (quiet_leave_group h)

quiet_made : (change : Change) → Quiet (made change)
unfolding made
quiet_made change m = quiet_then (make change) (each forget (removed m.scene change)) (quiet_make change) (good_each Quiet quiet_nothing quiet_then forget quiet_forget (removed m.scene change)) m

-- Lists of lines.
flat_append : (xs ys : List (List ℕ)) → flat_map (λ line. line) (xs ++ ys) ≡ flat_map (λ line. line) xs ++ flat_map (λ line. line) ys
flat_append [] ys = refl
flat_append (x ∷ xs) ys = rw (flat_append xs ys) (sym (append_assoc x (flat_map (λ line. line) xs) (flat_map (λ line. line) ys)))

all_append : {A : Type 0} (P : A → Type 0) (xs ys : List A) → AllByRecursion P xs → AllByRecursion P ys → AllByRecursion P (xs ++ ys)
all_append P [] ys h k = k
all_append P (x ∷ xs) ys h k = (h.0, all_append P xs ys h.1 k)

-- Rules that write such lines.
module _ (kind : EventKind) (target : Handle) (hs : List Handle) where
  abbrev IsTold : List ℕ → Type 0
  IsTold line = TellsOfEvent kind target hs line ⊎ TellsOfRefusal line

  abbrev Tells : Rule → Type 0
  Tells rule = (m : Machine) → AreTold kind target hs (rule m).lines

  tells_quiet : (rule : Rule) → Quiet rule → Tells rule
  tells_quiet rule quiet m = record { lines = []; bytes_are = sym (quiet m); tell = tt }

  tells_then : (first second : Rule) → Tells first → Tells second → Tells (first ▷ second)
  unfolding ◌▷◌ ◌⊳◌
  tells_then first second h k m =
      let a = h m in
      let b = k (first m).machine in record {
        lines = a.lines ++ b.lines;
        bytes_are = rw (flat_append a.lines b.lines, a.bytes_are, b.bytes_are) refl;
        tell = all_append IsTold a.lines b.lines a.tell b.tell;
      }

  one_line : (line : List ℕ) → IsTold line → AreTold kind target hs line
  one_line line told = record { lines = line ∷ []; bytes_are = append-nil line; tell = (told, tt) }

  tells_attempt : (change : Change) → Tells (attempt change)
  unfolding attempt note
  tells_attempt change m = by (answer_of m.scene change) where
    by : (reason : Option Refusal) → AreTold kind target hs (attempt_by reason change m).lines
    by None = tells_quiet (made change) (quiet_made change) m
    by (Some refusal) = one_line (refused_line refusal) (inr (record { refusal = refusal; line_is = refl }))

  tells_act : (current : Handle) → is_among (map (λ (h : Handle). h.0) hs) current.0 ≡ true → (a : Action) → Tells (act kind target current a)
  unfolding act say
  tells_act current on a m = by (is_there m.scene current.0) where
    by_asked : (change : Option Change) → AreTold kind target hs (say_or_change kind target current change m).lines
    by_asked None = one_line (event_line kind target current) (inl (record { current = current; on_path = on; line_is = refl }))
    by_asked (Some change) = tells_attempt change m

    by : (b : Bool) → AreTold kind target hs ((if b then say_or_change kind target current (asked target a) else nothing) m).lines
    by true = by_asked (asked target a)
    by false = tells_quiet nothing quiet_nothing m

  tells_run : (current : Handle) → is_among (map (λ (h : Handle). h.0) hs) current.0 ≡ true → Tells (run_at kind target current)
  unfolding run_at
  tells_run current on m = good_each Tells (tells_quiet nothing quiet_nothing) tells_then (act kind target current) (tells_act current on) (actions_at m current kind) m

  tells_along : (rest : List Handle) → ((k : ℕ) → is_among (map (λ (h : Handle). h.0) rest) k ≡ true → is_among (map (λ (h : Handle). h.0) hs) k ≡ true) → Tells (each (run_at kind target) rest)
  unfolding each
  tells_along [] within m = tells_quiet nothing quiet_nothing m
  tells_along (current ∷ rest) within m =
      tells_then (run_at kind target current) (each (run_at kind target) rest)
      (tells_run current (within current.0 (grind (arith, nat_tests))))
      (tells_along rest (λ k is. within k (grind (arith, nat_tests, is)))) m

pub events_tell : EventsTellOfTheirPaths
unfolding send
events_tell kind target machine =
    let hs = path machine.scene target in
    tells_along kind target hs hs (λ k is. is) machine
