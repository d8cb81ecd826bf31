-- A line more of the script of a session.
use Rattle.std.proofs.Common.{◌≡◌, ◌∙◌, sym, ap, refl, inl, inr, ℕ, ◌+◌, ◌-◌, ◌<◌, ◌≤◌, ◌==◌, ◌||◌, ◌&&◌, Bool, true, false, nat_lt, slice_index, List, [], ◌∷◌, ◌++◌, length, length-append, length-take, take, map, append-nil, if◌then◌else◌, Option, Some, None, Ok, Err, arith}
use Rattle.std.proofs.lemmas.Bool.{cases_Bool}
use Rattle.std.proofs.lemmas.Bool.Decides.{nat_tests}
use Rattle.std.proofs.lemmas.Grind.{flat_map-append}
use Rattle.std.proofs.lemmas.List.{map-append, length-map}
use Rattle.std.proofs.lemmas.List.Folds.{list_any-append}
use Rattle.run_defs.specs.declared.Line.TheVariants.{Blank, Frame, Pump, Make}
use Rattle.run_defs.specs.Machine.{Machine}
use Rattle.run_defs.specs.Run.{Moment, Told, moment, first_moment, after, after_all, entry, entries, told, asks_outcome, outcome_count, frames_asked, machine_after, log_lines, log_text, notes, noted}
use Rattle.run_defs.specs.Script.{Said, is_newline, without_return, ended_says, open_says, max_line}
use Rattle.run_defs.proofs.Runs.{outcome_count-cons, after_all-append, after_all-number, told_more}
use Rattle.scene_script.specs.Cutting.{Cutting, kept, kept_with, begun, cut_of, last_cut, pushed, finished, cut_line, cut_says}
use Rattle.session_defs.specs.Parts.{Intake, is_rfb}
use Rattle.session_defs.specs.Sessions.{unframed, script_says, script_tells}
use Rattle.rfb_view.specs.Cuts.{begins_by, begins}
use Rattle.rfb_view.specs.Reading.{scripted}
use Rattle.rfb_view.specs.Running.{script_log}
use Rattle.rfb_view.specs.Telling.{line_tells}

-- What a cutter says.

newline_says : (rest : List ℕ) → cut_line (cut_of (kept rest)) (kept rest) false ≡ ended_says rest ∷ []
newline_says rest = grind (arith, nat_tests)

says_newline : (c : Cutting) (rest : List ℕ) → begun c ≡ kept rest → cut_says (pushed c 10) ≡ ended_says rest ∷ []
says_newline c rest e = ap (λ (o : Option (List ℕ)). cut_line (cut_of o) o false) e ∙ newline_says rest

pub begun_newline : (c : Cutting) → begun (pushed c 10) ≡ Some []
begun_newline c = ended (begun c) where
  ended : (o : Option (List ℕ)) → begun (record { bytes = o; answer = cut_of o; last = false }) ≡ Some []
  ended None = refl
  ended (Some bytes) = refl

kept_more : (bs : List ℕ) (b : ℕ) → kept_with (kept bs) b ≡ kept (bs ++ b ∷ [])
kept_more bs b = grind (arith, nat_tests, length-append bs (b ∷ []))

pub begun_other : (c : Cutting) (rest : List ℕ) (b : ℕ) → is_newline b ≡ false → begun c ≡ kept rest → begun (pushed c b) ≡ kept (rest ++ b ∷ [])
begun_other c rest b test e = rw test (ap (λ (o : Option (List ℕ)). kept_with o b) e ∙ kept_more rest b)

pub says_other : (c : Cutting) (b : ℕ) → is_newline b ≡ false → cut_says (pushed c b) ≡ []
says_other c b test = rw test refl

pub begins_other : (c : Cutting) (b : ℕ) → is_newline b ≡ false → begins (pushed c b) ≡ false
begins_other c b test = rw test refl

-- a line that is too long is not the line `rfb`
no_rfb : (x y z : Bool) → (x && (y && (z && false))) ≡ false
no_rfb true true true = refl
no_rfb true true false = refl
no_rfb true false z = refl
no_rfb false y z = refl

long_rfb : (line : List ℕ) → 4 ≤ length line → is_rfb line ≡ false
long_rfb [] h = absurd (omega arith)
long_rfb (a ∷ []) h = absurd (omega arith)
long_rfb (a ∷ b ∷ []) h = absurd (omega arith)
long_rfb (a ∷ b ∷ c ∷ []) h = absurd (omega arith)
long_rfb (a ∷ b ∷ c ∷ d ∷ rest) h = no_rfb (a == 114) (b == 102) (c == 98)

long_return : (rest : List ℕ) → max_line < length rest → is_rfb (without_return rest) ≡ false
long_return rest long = by (slice_index rest (length rest - 1) == 13)
  where
    by : (b : Bool) → is_rfb (if b then take (length rest - 1) rest else rest) ≡ false
    by true = long_rfb (take (length rest - 1) rest) (omega (arith, length-take (length rest - 1) rest))
    by false = long_rfb rest (omega arith)

begins_kept : (rest : List ℕ) → begins_by (cut_of (kept rest)) (kept rest) false ≡ is_rfb (without_return rest)
begins_kept rest = elim (cases_Bool (nat_lt max_line (length rest))) [
  | inl long ↦ rw long (sym (long_return rest (grind (arith, nat_tests))))
  | inr short ↦ rw short refl
]

begins_newline : (c : Cutting) (rest : List ℕ) → begun c ≡ kept rest → begins (pushed c 10) ≡ is_rfb (without_return rest)
begins_newline c rest e = ap (λ (o : Option (List ℕ)). begins_by (cut_of o) o false) e ∙ begins_kept rest

-- at the end
last_says : (rest : List ℕ) → cut_line (last_cut (kept rest)) (kept rest) true ≡ open_says rest
last_says [] = refl
last_says (b ∷ rest) = grind (arith, nat_tests)

pub says_finished : (c : Cutting) (rest : List ℕ) → begun c ≡ kept rest → cut_says (finished c) ≡ open_says rest
says_finished c rest e = ap (λ (o : Option (List ℕ)). cut_line (last_cut o) o true) e ∙ last_says rest

begins_last : (rest : List ℕ) → begins_by (last_cut (kept rest)) (kept rest) true ≡ is_rfb rest
begins_last [] = refl
begins_last (b ∷ rest) = elim (cases_Bool (nat_lt max_line (length (b ∷ rest)))) [
  | inl long ↦ rw long (sym (long_rfb (b ∷ rest) (grind (arith, nat_tests))))
  | inr short ↦ rw short refl
]

pub begins_finished : (c : Cutting) (rest : List ℕ) → begun c ≡ kept rest → begins (finished c) ≡ is_rfb rest
begins_finished c rest e = ap (λ (o : Option (List ℕ)). begins_by (last_cut o) o true) e ∙ begins_last rest

is_ten : (byte : ℕ) → is_newline byte ≡ true → byte ≡ 10
is_ten byte e = grind (arith, nat_tests)

pub says_line : (c : Cutting) (rest : List ℕ) (byte : ℕ) → is_newline byte ≡ true → begun c ≡ kept rest → cut_says (pushed c byte) ≡ ended_says rest ∷ []
says_line c rest byte test e = ap (λ (b : ℕ). cut_says (pushed c b)) (is_ten byte test) ∙ says_newline c rest e

pub begins_line : (c : Cutting) (rest : List ℕ) (byte : ℕ) → is_newline byte ≡ true → begun c ≡ kept rest → begins (pushed c byte) ≡ is_rfb (without_return rest)
begins_line c rest byte test e = ap (λ (b : ℕ). begins (pushed c b)) (is_ten byte test) ∙ begins_newline c rest e

pub begun_line : (c : Cutting) (byte : ℕ) → is_newline byte ≡ true → begun (pushed c byte) ≡ Some []
begun_line c byte test = ap (λ (b : ℕ). begun (pushed c b)) (is_ten byte test) ∙ begun_newline c

-- What lines say.

-- what a line of the script of a session says
abbrev pub line_says : List ℕ → Said
line_says line = unframed (ended_says line)

quiet : (now : Moment) (said : Said) → asks_outcome (entry now (unframed said)) ≡ false
quiet now (Ok Blank) = refl
quiet now (Ok Frame) = refl
quiet now (Ok Pump) = refl
quiet now (Ok (Make command)) = refl
quiet now (Err fault) = refl

no_frame : (said : Said) → frames_asked (unframed said) ≡ 0
no_frame (Ok Blank) = refl
no_frame (Ok Frame) = refl
no_frame (Ok Pump) = refl
no_frame (Ok (Make command)) = refl
no_frame (Err fault) = refl

pub all_quiet : (now : Moment) (lines : List (List ℕ)) → outcome_count (entries now (map line_says lines)) ≡ 0
all_quiet now [] = refl
all_quiet now (line ∷ lines) =
    outcome_count-cons (entry now (line_says line)) (entries (after now (line_says line)) (map line_says lines))
    ∙ rw (quiet now (ended_says line), all_quiet (after now (line_says line)) lines) refl

frame_stays : (now : Moment) (lines : List (List ℕ)) → (after_all now (map line_says lines)).frame ≡ now.frame
frame_stays now [] = refl
frame_stays now (line ∷ lines) =
    frame_stays (after now (line_says line)) lines ∙ ap (λ (n : ℕ). now.frame + n) (no_frame (ended_says line)) ∙ none now.frame
  where
    none : (n : ℕ) → n + 0 ≡ n
    none n = omega arith

moment_by : (now : Moment) (machine : Machine) (n f : ℕ) → machine ≡ now.machine → n ≡ now.number → f ≡ now.frame → moment machine n f ≡ now
moment_by now machine n f e h k = rw (e, h, k) refl

pub says_all : (intake : Intake) → script_says false intake ≡ map line_says intake.lines
says_all intake = append-nil (map line_says intake.lines)

module _ (first : Machine) (intake : Intake) (machine : Machine) (number : ℕ) (machine_is : machine ≡ scripted first intake) (number_is : number ≡ 1 + length intake.lines) where
  moment_is : moment machine number 1 ≡ after_all (first_moment first) (map line_says intake.lines)
  moment_is =
      let lines = intake.lines in
      moment_by (after_all (first_moment first) (map line_says lines)) machine number 1
      (machine_is ∙ ap (λ (says : List Said). (after_all (first_moment first) says).machine) (says_all intake))
      (number_is ∙ sym (after_all-number (first_moment first) (map line_says lines) ∙ ap (λ (n : ℕ). 1 + n) (length-map lines line_says)))
      (sym (frame_stays (first_moment first) lines))

  -- what is told where one more is said
  pub told_with : (said : Said) → told (entries (first_moment first) (map line_says intake.lines ++ unframed said ∷ [])) [] ≡ script_log first intake ++ line_tells machine number said
  told_with said =
      told_more (first_moment first) (moment machine number 1) (map line_says intake.lines) (unframed said ∷ []) [] [] moment_is (sym (all_quiet (first_moment first) intake.lines))
      ∙ ap (λ (says : List Said). script_tells first says ++ line_tells machine number said) (sym (says_all intake))

  pub machine_with : (said : Said) → (after_all (first_moment first) (map line_says intake.lines ++ unframed said ∷ [])).machine ≡ machine_after machine (unframed said)
  machine_with said =
      ap (λ (m : Moment). m.machine) (after_all-append (first_moment first) (map line_says intake.lines) (unframed said ∷ []))
      ∙ ap (λ (m : Moment). machine_after m.machine (unframed said)) (sym moment_is)

  -- an intake with a line more
  module _ (next : Intake) (line : List ℕ) (lines_are : next.lines ≡ intake.lines ++ line ∷ []) where
    says_more : script_says false next ≡ map line_says intake.lines ++ line_says line ∷ []
    says_more = says_all next ∙ ap (map line_says) lines_are ∙ map-append line_says intake.lines (line ∷ [])

    pub log_more : script_log first next ≡ script_log first intake ++ line_tells machine number (ended_says line)
    log_more = ap (script_tells first) says_more ∙ told_with (ended_says line)

    pub machine_more : scripted first next ≡ machine_after machine (line_says line)
    machine_more = ap (λ (says : List Said). (after_all (first_moment first) says).machine) says_more ∙ machine_with (ended_says line)

-- an intake with the same lines
pub log_same : (first : Machine) (a b : Intake) → a.lines ≡ b.lines → script_log first a ≡ script_log first b
log_same first a b e = ap (script_tells first) (says_all a ∙ ap (map line_says) e ∙ sym (says_all b))

pub machine_same : (first : Machine) (a b : Intake) → a.lines ≡ b.lines → scripted first a ≡ scripted first b
machine_same first a b e = ap (λ (says : List Said). (after_all (first_moment first) says).machine) (says_all a ∙ ap (map line_says) e ∙ sym (says_all b))

-- texts and notes of lines one after another
pub text_more : (ts us : List Told) → log_text (ts ++ us) ≡ log_text ts ++ log_text us
text_more ts us = flat_map-append log_lines ts us

pub noted_more : (ts us : List Told) → noted (ts ++ us) ≡ (noted ts || noted us)
noted_more ts us = list_any-append notes ts us
