-- The handlers of an object, one after another, and the objects on a path.
use Rattle.std.proofs.Common.{◌≡◌, ◌∙◌, sym, ap, subst, refl, ℕ, zero, suc, ◌+◌, ◌<◌, ◌≤◌, true, false, List, [], ◌∷◌, ◌++◌, length, take, drop, map, get_or, sum_by, inl, inr, Some, None, arith}
use Rattle.std.specs.Prelude.{slice_get}
use Rattle.std.proofs.lemmas.Bool.{cases_lt}
use Rattle.std.proofs.lemmas.List.{take_more, take-append-drop, get_or_past}
use Rattle.std.proofs.lemmas.List.Sums.{get_or-le-sum_by}
use Rattle.std.proofs.lemmas.Option.{slice_get_within, get_or_from_slice_get}
use Rattle.gui_base.specs.declared.Handle.{Handle}
use Rattle.gui_base.specs.declared.events.Action.{Action}
use Rattle.gui_base.specs.declared.events.EventKind.{EventKind}
use Rattle.gui_tree.specs.Handles.{as_handle}
use Rattle.play_defs.specs.Handlers.{actions_of, handlers_of}
use Rattle.play_defs.specs.declared.Handler.{Handler}
use Rattle.run_defs.specs.Events.{act, run_at, path, send}
use Rattle.run_defs.specs.Machine.{Machine}
use Rattle.run_defs.specs.Making.{handles}
use Rattle.run_defs.specs.Play.{Play, Rule, both, only, ◌⊳◌, ◌▷◌, each}
use Rattle.run_laws.proofs.Keeps.{act_keeps}
use Rattle.scene_defs.specs.Scene.{is_there}
use Rattle.gui_board.specs.Handling.{actions_on, Handles, run_by, Sends}
use Rattle.gui_board.specs.Stages.{Stage, Played}
use Rattle.gui_board.proofs.Plays.{idle, played_more, each-append, both_nothing, played_each_none, played_step, played_whole}

pub handles_start : (kind : EventKind) (target current : Handle) (a : Stage) → Handles kind target current a a 0
unfolding each
handles_start kind target current a = record { done = idle a; same = λ _. refl; count = omega arith }

-- the rules for the first n of a list, and then that for the next
pub played_next : {A : Type 0} (a b c : Stage) (rule : A → Rule) (xs : List A) (n : ℕ) (x : A) → slice_get xs n ≡ Some x → Played a b (each rule (take n xs) a.machine) → Played b c (rule x b.machine) →
    Played a c (each rule (take (n + 1) xs) a.machine)
played_next {A} a b c rule xs n x e h k =
    let last : get_or xs n x ≡ x = get_or_from_slice_get xs n x x e in
    played_more a b c rule xs n x (take_more xs n x (slice_get_within xs n x e) ∙ ap (λ (y : A). take n xs ++ y ∷ []) last) h k

pub handles_next : (kind : EventKind) (target current : Handle) (a b c : Stage) (n : ℕ) (action : Action) → Handles kind target current a b n → is_there b.machine.scene current.0 ≡ true → slice_get (actions_on kind current b) n ≡ Some action →
    Played b c (act kind target current action b.machine) → Handles kind target current a c (n + 1)
handles_next kind target current a b c n action h there e k =
    let listed : slice_get (actions_on kind current a) n ≡ Some action = ap (λ (xs : List Action). slice_get xs n) (sym (h.same there)) ∙ e in
    record {
      done = played_next a b c (act kind target current) (actions_on kind current a) n action listed h.done k;
      same = λ s.
          ap (λ (m : Machine). actions_on kind current (record c { machine = m })) k.machine
          ∙ (ap (actions_of kind) (act_keeps kind target current action b.machine (sym (ap (λ (m : Machine). is_there m.scene current.0) k.machine) ∙ s)) ∙ h.same there);
      count = let l : n < length (actions_on kind current a) = slice_get_within (actions_on kind current a) n action listed in omega arith;
    }

-- past the end of a list
pub past : {A : Type 0} (xs : List A) (n : ℕ) → slice_get xs n ≡ None → length xs ≤ n
past [] n e = omega arith
past (x ∷ xs) zero e = absurd (some_none e) where
  some_none : Some x ≡ None → ⊥
  some_none k = cc
past (x ∷ xs) (suc n) e = let l : length xs ≤ n = past xs n e in omega arith

pub handles_end : (kind : EventKind) (target current : Handle) (a b : Stage) (n : ℕ) → Handles kind target current a b n → is_there b.machine.scene current.0 ≡ true → slice_get (actions_on kind current b) n ≡ None →
    Played a b (run_at kind target current a.machine)
unfolding run_at
handles_end kind target current a b n h there e =
    let listed : slice_get (actions_on kind current a) n ≡ None = ap (λ (xs : List Action). slice_get xs n) (sym (h.same there)) ∙ e in
    played_whole a b (act kind target current) (actions_on kind current a) n (past (actions_on kind current a) n listed) h.done

-- an object that is gone runs no handler
each_gone : (kind : EventKind) (target current : Handle) (actions : List Action) (m : Machine) → is_there m.scene current.0 ≡ false → each (act kind target current) actions m ≡ only m
unfolding each act ◌▷◌ ◌⊳◌
each_gone kind target current [] m e = refl
each_gone kind target current (action ∷ actions) m e = rw e (each_gone kind target current actions m e)

pub handles_gone : (kind : EventKind) (target current : Handle) (a b : Stage) (n : ℕ) → Handles kind target current a b n → is_there b.machine.scene current.0 ≡ false → Played a b (run_at kind target current a.machine)
unfolding run_at
handles_gone kind target current a b n h e =
    let xs : List Action = actions_on kind current a in
    let rule : Action → Rule = act kind target current in
    let first : Play = each rule (take n xs) a.machine in
    let gone : is_there first.machine.scene current.0 ≡ false = sym (ap (λ (m : Machine). is_there m.scene current.0) h.done.machine) ∙ e in
    let rest : each rule (drop n xs) first.machine ≡ only first.machine = each_gone kind target current (drop n xs) first.machine gone in
    let all : each rule xs a.machine ≡ first =
    ap (λ (ys : List Action). each rule ys a.machine) (sym (take-append-drop n xs))
    ∙ (each-append rule (take n xs) (drop n xs) a.machine ∙ (ap (λ (p : Play). both first p) rest ∙ both_nothing first)) in
    subst (λ (p : Play). Played a b p) (sym all) h.done

-- No object has more handlers than there are.

few_handlers : (lists : List (List Handler)) (h : ℕ) → length (handlers_of lists h) ≤ sum_by length lists
few_handlers lists h = elim (cases_lt h (length lists)) [
  | inl within ↦ get_or-le-sum_by length lists h [] within
  | inr past_end ↦ rw (get_or_past lists h [] past_end) (omega arith)
]

few_actions : (kind : EventKind) (handlers : List Handler) → length (actions_of kind handlers) ≤ length handlers
few_actions kind [] = omega arith
few_actions kind (handler ∷ handlers) = grind (arith, few_actions kind handlers)

pub handles_all : (kind : EventKind) (target current : Handle) (a b : Stage) (n : ℕ) → Handles kind target current a b n → sum_by length a.machine.handlers ≤ n → Played a b (run_at kind target current a.machine)
unfolding run_at
handles_all kind target current a b n h l =
    let few = few_actions kind (handlers_of a.machine.handlers current.0) in
    let fewer = few_handlers a.machine.handlers current.0 in
    played_whole a b (act kind target current) (actions_on kind current a) n (omega (arith, few, fewer, l)) h.done

-- The objects on a path, one after another.

each-map : {A B : Type 0} (rule : B → Rule) (f : A → B) (xs : List A) (m : Machine) → each rule (map f xs) m ≡ each (λ x. rule (f x)) xs m
unfolding each ◌▷◌ ◌⊳◌
each-map rule f [] m = refl
each-map rule f (x ∷ xs) m = ap (λ (p : Play). both (rule (f x) m) p) (each-map rule f xs (rule (f x) m).machine)

pub sends_start : (kind : EventKind) (target : Handle) (a : Stage) (path : List ℕ) → Sends kind target a a path 0
sends_start kind target a path = record { done = played_each_none a (run_by kind target) }

pub sends_next : (kind : EventKind) (target : Handle) (a b c : Stage) (path : List ℕ) (n d : ℕ) → n < length path → Sends kind target a b path n → Played b c (run_by kind target (get_or path n d) b.machine) → Sends kind target a c path (n + 1)
sends_next kind target a b c path n d l h k = record { done = played_step a b c (run_by kind target) path n d l h.done k }

pub sends_end : (kind : EventKind) (target : Handle) (a b : Stage) (numbers : List ℕ) (n : ℕ) → length numbers ≤ n → handles numbers ≡ path a.machine.scene target → Sends kind target a b numbers n → Played a b (send kind target a.machine)
unfolding send
sends_end kind target a b numbers n l e h =
    let whole : Played a b (each (run_by kind target) numbers a.machine) = played_whole a b (run_by kind target) numbers n l h.done in
    let same = sym (each-map (run_at kind target) as_handle numbers a.machine) ∙ ap (λ (hs : List Handle). each (run_at kind target) hs a.machine) e in
    subst (λ (p : Play). Played a b p) same whole
