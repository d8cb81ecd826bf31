-- No pool of a machine is over its count, whatever is played.
use Rattle.std.proofs.Common.{◌≡◌, ◌<◌, ◌≤◌, ◌+◌, ap, refl, ℕ, Bool, true, false, Option, Some, None, List, [], ◌∷◌, ◌++◌, filter, length, sum_by, length-append, arith, inl, inr}
use Rattle.std.specs.Prelude.{not}
use Rattle.std.specs.List.{list_any}
use Rattle.std.proofs.lemmas.Bool.{cases_Bool, cases_lt}
use Rattle.std.proofs.lemmas.Bool.Decides.{nat_tests}
use Rattle.std.proofs.lemmas.List.{set_past}
use Rattle.std.proofs.lemmas.List.Folds.{sum_by-replicate}
use Rattle.std.proofs.lemmas.List.Sums.{sum_by-set}
use Rattle.gui_base.specs.Refusing.{Test, first_of}
use Rattle.gui_base.specs.declared.Handle.{Handle}
use Rattle.gui_base.specs.declared.events.Action.{Action}
use Rattle.gui_base.specs.declared.events.EventKind.{EventKind}
use Rattle.gui_base.specs.declared.limits.Pool.{Pool}
use Rattle.gui_base.specs.declared.limits.Pool.TheVariants.{Handlers, Groups as GroupSlots, Anims}
use Rattle.gui_base.specs.declared.refusal.Refusal.{Refusal}
use Rattle.gui_base.specs.declared.words.State.{State}
use Rattle.play_defs.specs.Animation.{is_moved, moves, started, stopped}
use Rattle.play_defs.specs.Focus.{Groups, joined}
use Rattle.play_defs.specs.Handlers.{handlers_of, no_handlers, with_handler}
use Rattle.play_defs.specs.declared.Anim.{Anim}
use Rattle.play_defs.specs.declared.AnimSpec.{AnimSpec}
use Rattle.play_defs.specs.declared.Group.{Group}
use Rattle.play_defs.specs.declared.Handler.{Handler}
use Rattle.scene_defs.specs.Change.{answer_of}
use Rattle.scene_defs.specs.Scene.{Scene}
use Rattle.scene_defs.specs.declared.Change.{Change}
use Rattle.scene_defs.specs.declared.Change.TheVariants as change
use Rattle.scene_defs.proofs.Changes.{change_keeps_limits, range_done}
use Rattle.run_defs.specs.declared.Command.{Command}
use Rattle.run_defs.specs.declared.Command.TheVariants as ask
use Rattle.run_defs.specs.Events.{asked, say, say_or_change}
use Rattle.run_defs.specs.Machine.{Machine}
use Rattle.run_defs.specs.Making.{make, make_by, put_state, with_groups, leave_group, without_handlers, without_targets, without_anims, forget, removed, made, note, attempt, attempt_by}
use Rattle.run_defs.specs.Play.{Rule, nothing, with, ◌⊳◌, ◌▷◌, each}
use Rattle.run_defs.specs.Step.{answer, tests_of, full_by, full_for, anims_full, is_command_in_range, rule_of, unless, step}
use Rattle.run_defs.proofs.Inputs.{IsAside, IsClosed, length-filtered, forgotten-aside, untargeted-aside, unmoved-aside, good_leave_group, good_join, good_rule}
use Rattle.run_defs.proofs.Playing.{good_each, good_put}
use Rattle.run_laws.specs.Pools.{FitsPools, FirstFitsPools, StepsKeepPools}

abbrev Keeps : Rule → Type 0
Keeps rule = (m : Machine) → FitsPools m → FitsPools (rule m).machine

keeps_nothing : Keeps nothing
keeps_nothing m s = s

keeps_then : (first second : Rule) → Keeps first → Keeps second → Keeps (first ▷ second)
unfolding ◌▷◌ ◌⊳◌
keeps_then first second h k m s = k (first m).machine (h m s)

keeps_look : (f : Machine → Rule) → ((m : Machine) → Keeps (f m)) → Keeps (λ m. f m m)
keeps_look f h m s = h m m s

keeps_aside : (f : Machine → Machine) → IsAside f → Keeps (with f)
unfolding with
keeps_aside f is m s =
    let limits : (f m).scene.limits ≡ m.scene.limits = ap (λ (scene : Scene). scene.limits) (is.scene m) in record {
      handlers = rw limits (omega (arith, is.handlers m, s.handlers));
      groups = rw limits (omega (arith, is.groups m, s.groups));
      anims = rw limits (omega (arith, is.running m, s.anims));
    }

keeps_groups : (f : Groups → Groups) → ((groups : Groups) → length (f groups).groups ≡ length groups.groups) → Keeps (with_groups f)
unfolding with
keeps_groups f count m s = record { handlers = s.handlers; groups = omega (arith, count m.groups, s.groups); anims = s.anims }

-- Changes.
keeps_make : (change : Change) → Keeps (make change)
unfolding make
keeps_make change m s = by (answer_of m.scene change) where
  by : (reason : Option Refusal) → FitsPools (make_by reason change m).machine
  by None = let limits = change_keeps_limits m.scene change in record { handlers = rw limits s.handlers; groups = rw limits s.groups; anims = rw limits s.anims }
  by (Some refusal) = s

keeps_put : (state : State) (on : Bool) (h : Handle) → Keeps (put_state state on h)
keeps_put state on h = good_put Keeps keeps_nothing keeps_look state on h (keeps_make (change.State h state on))

keeps_leave_group : (h : Handle) → Keeps (leave_group h)
keeps_leave_group = good_leave_group Keeps keeps_then keeps_look keeps_nothing keeps_put keeps_groups

keeps_forget : (h : Handle) → Keeps (forget h)
unfolding forget
keeps_forget h =
    keeps_then _ _ (keeps_then _ _ (keeps_then _ _ (keeps_aside (without_handlers h) (forgotten-aside h)) (keeps_aside (without_targets h) (untargeted-aside h))) (keeps_aside (without_anims h) (unmoved-aside h)))
    (keeps_leave_group h)

keeps_made : (change : Change) → Keeps (made change)
unfolding made
keeps_made change m s = keeps_then (make change) (each forget (removed m.scene change)) (keeps_make change) (good_each Keeps keeps_nothing keeps_then forget keeps_forget (removed m.scene change)) m s

keeps_attempt : (change : Change) → Keeps (attempt change)
unfolding attempt note
keeps_attempt change m s = by (answer_of m.scene change) where
  by : (reason : Option Refusal) → FitsPools (attempt_by reason change m).machine
  by None = keeps_made change m s
  by (Some refusal) = s

keeps_asked : (kind : EventKind) (target current : Handle) (change : Option Change) → Keeps (say_or_change kind target current change)
unfolding say
keeps_asked kind target current None m s = s
keeps_asked kind target current (Some change) m s = keeps_attempt change m s

keeps_closed : IsClosed Keeps
keeps_closed = record {
  none = keeps_nothing;
  next = keeps_then;
  look = keeps_look;
  aside = keeps_aside;
  value = λ h n. keeps_make (change.Value h n);
  place = λ h x y. keeps_make (change.Pos h x y);
  scroll = λ h x y. keeps_make (change.Scroll h x y);
  size = λ h width height. keeps_make (change.Size h width height);
  state = λ h state on. keeps_make (change.State h state on);
  acted = λ kind target current a. keeps_asked kind target current (asked target a);
  left = keeps_leave_group;
}

-- What a command adds that is done finds room.

no_later : (ts : List Test) (later : Option Refusal) → first_of ts later ≡ None → later ≡ None
no_later [] later e = e
no_later (t ∷ ts) later e = grind (arith, e, no_later ts later)

not_full : (slots used : ℕ) (pool : Pool) → full_by slots used pool ≡ None → used < slots
not_full slots used pool e = grind (arith, nat_tests, e)

-- one handler more of an object
more_handlers : (lists : List (List Handler)) (h : ℕ) (kind : EventKind) (a : Action) → sum_by length (with_handler lists h kind a) ≤ sum_by length lists + 1
more_handlers lists h kind a =
    let new : Handler = record { kind = kind; action = a } in
    let more = handlers_of lists h ++ new ∷ [] in
    elim (cases_lt h (length lists)) [
      | inl within ↦ omega (arith, sum_by-set (λ (xs : List Handler). length xs) lists h more [] within, length-append (handlers_of lists h) (new ∷ []))
      | inr past ↦ rw (set_past lists h more past) (omega arith)
    ]

-- an animation that takes the place of another
fewer_by_one : (test : Anim → Bool) (anims : List Anim) → list_any test anims ≡ true → length (filter (λ anim. not (test anim)) anims) + 1 ≤ length anims
fewer_by_one test [] is = cc
fewer_by_one test (anim ∷ anims) is = elim (cases_Bool (test anim)) [
  | inl on ↦ rw on (omega (arith, length-filtered (λ anim. not (test anim)) anims))
  | inr off ↦ let rest = fewer_by_one test anims (rw off at is) in rw off (omega (arith, rest))
]

one_more : (m : Machine) (spec : AnimSpec) → anims_full m spec ≡ None → FitsPools m → length (started spec m.time m.anims) ≤ m.scene.limits.anims
one_more m spec room s =
    let test : Anim → Bool = λ anim. moves spec.h.0 spec.var anim in
    let new : Anim = record { spec = spec; started = m.time } in
    let more = length-append (stopped spec.h.0 spec.var m.anims) (new ∷ []) in
    elim (cases_Bool (is_moved spec.h.0 spec.var m.anims)) [
      | inl is ↦ omega (arith, more, fewer_by_one test m.anims is, s.anims)
      | inr isnt ↦ omega (arith, more, length-filtered (λ anim. not (test anim)) m.anims, not_full m.scene.limits.anims (length m.anims) Anims (rw isnt at room))
    ]

rule_fits : (command : Command) (m : Machine) → answer m command ≡ None → FitsPools m → FitsPools (rule_of command m).machine
unfolding with
rule_fits (ask.Change change) m none s = keeps_made change m s
rule_fits (ask.On h kind a) m none s =
    let full = no_later (tests_of m (ask.On h kind a)) (full_for m (ask.On h kind a)) (range_done (is_command_in_range (ask.On h kind a)) _ none).1 in
    let room = not_full m.scene.limits.handlers (sum_by length m.handlers) Handlers full in
    record { handlers = omega (arith, room, more_handlers m.handlers h.0 kind a); groups = s.groups; anims = s.anims }
rule_fits (ask.Group id) m none s =
    let full = no_later (tests_of m (ask.Group id)) (full_for m (ask.Group id)) (range_done (is_command_in_range (ask.Group id)) _ none).1 in
    let room = not_full m.scene.limits.groups (length m.groups.groups) GroupSlots full in
    let new : Group = record { id = id; focused = None; editing = false } in
    record { handlers = s.handlers; groups = omega (arith, room, length-append m.groups.groups (new ∷ [])); anims = s.anims }
rule_fits (ask.Join id h) m none s = good_join Keeps keeps_closed id h (keeps_groups (λ groups. joined groups id h) (λ groups. refl)) m s
rule_fits (ask.Anim spec) m none s =
    let full = no_later (tests_of m (ask.Anim spec)) (full_for m (ask.Anim spec)) (range_done (is_command_in_range (ask.Anim spec)) _ none).1 in
    record { handlers = s.handlers; groups = s.groups; anims = one_more m spec full s }
rule_fits command m none s = good_rule Keeps keeps_closed command tt m s

pub steps_keep_pools : StepsKeepPools
unfolding step
steps_keep_pools machine command s = by (answer machine command) refl where
  by : (reason : Option Refusal) → answer machine command ≡ reason → FitsPools (unless reason (rule_of command) machine).machine
  by None none = rule_fits command machine none s
  by (Some refusal) e = s

none_first : sum_by length no_handlers ≡ 0
unfolding no_handlers
none_first = sum_by-replicate (λ (xs : List Handler). length xs) 65536 []

pub first_fits_pools : FirstFitsPools
first_fits_pools limits = record { handlers = omega (arith, none_first); groups = omega arith; anims = omega arith }
