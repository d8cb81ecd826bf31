-- How what is answered grows by a byte.
use Rattle.std.proofs.Common.{◌≡◌, ◌≢◌, ◌∙◌, sym, ap, subst, ℕ, ◌+◌, ◌*◌, ◌≤◌, pos, is_some, length-append, Bool, true, false, if◌then◌else◌, nat_lt, List, [], ◌∷◌, ◌++◌, map, length, append_assoc, append-nil, arith, refl, inl, inr, Option, Some, None}
use Rattle.std.proofs.KnownBytes.{Appends-nil, Appends-trans}
use Rattle.std.proofs.lemmas.Bool.Decides.{nat_tests, eqb_tells}
use Rattle.std.specs.List.{AllByRecursion}
use Rattle.gui_base.specs.Area.{area_at, size_of}
use Rattle.gui_base.specs.Limits.{Bounds}
use Rattle.gui_damage.specs.Pending.{most_areas}
use Rattle.gui_edge.proofs.Prefixes.{AppendsPrefix-append, AppendsPrefix-behind}
use Rattle.gui_edge.specs.Causes.{Rose}
use Rattle.gui_edge.specs.Sink.{SinkState, AppendsPrefix}
use Rattle.run_defs.proofs.Runs.{after_all-limits}
use Rattle.run_defs.proofs.Lines.{lines_of-newline, lines_of-other}
use Rattle.run_defs.specs.Machine.{Machine}
use Rattle.run_defs.specs.Run.{Moment, first_moment, after, after_all}
use Rattle.run_defs.specs.Script.{max_line, is_newline, lines_of, rest_of, without_return, ended_says, says_cut}
use Rattle.scene_run.proofs.Bytes.{stops_more}
use Rattle.scene_run.specs.Effects.{Output}
use Rattle.scene_run.specs.Running.{Reading, HasRead, Reads, Stops}
use Rattle.scene_ask.specs.Asking.{most_pending}
use Rattle.scene_script.proofs.Cuts.{pushed_takes}
use Rattle.scene_script.specs.Cutting.{Cutting, begun, kept, cut_of, pushed, HasTaken}
use Rattle.scene_script.specs.Questions.{asked_in}
use Rattle.scene_host.specs.Answering.{reply_to, answer_to, answers_of, answers_to, asks_by, cut_asks, IsAnswered, ArePending, Answering, Adds, HasHeard}
use Rattle.scene_host.specs.Asked.{Hears, StopsHearing}

pub answered_none : (s : SinkState) → IsAnswered s s true []
answered_none s = record {
  whole = λ e. Appends-nil s.held;
  part = λ (e : true ≡ false). absurd (cc);
  cause = λ (e : true ≡ false). absurd (cc);
  later = omega arith;
}

pub answered_more : (start : SinkState) (old new : Answering) (done text : List ℕ) → IsAnswered start old.answers old.answered done → Adds old new text → IsAnswered start new.answers new.answered (done ++ text)
answered_more start old new done text h k = by_flag old.answered refl where
  by_flag : (b : Bool) → old.answered ≡ b → IsAnswered start new.answers new.answered (done ++ text)
  by_flag true is =
      let a = k.adds is in record {
        whole = λ e. Appends-trans start.held old.answers.held new.answers.held done text (h.whole is) (a.whole e);
        part = λ e. AppendsPrefix-behind start.held old.answers.held new.answers.held done text (h.whole is) (a.part e);
        cause = λ e. omega (arith, h.later, a.cause e);
        later = omega (arith, h.later, a.later);
      }
  by_flag false is =
      let none : new.answered ≡ false = (k.stays is).0 in
      let same : new.answers ≡ old.answers = (k.stays is).1 in record {
        whole = λ e. absurd (cc);
        part = λ e. subst (λ (t : SinkState). AppendsPrefix start.held t.held (done ++ text)) (sym same) (AppendsPrefix-append start.held old.answers.held done text (h.part is));
        cause = λ e. subst (λ (t : SinkState). Rose start.faults t.faults) (sym same) (h.cause is);
        later = subst (λ (t : SinkState). start.faults ≤ t.faults) (sym same) h.later;
      }

answers_of-more : (now : Moment) (pendings : List ℕ) (pending : ℕ) (lines : List (List ℕ)) (line : List ℕ) → length pendings ≡ length lines →
    answers_of now (pendings ++ pending ∷ []) (lines ++ line ∷ []) ≡ answers_of now pendings lines ++ answer_to (after_all now (map ended_says lines)) pending line
answers_of-more now [] pending [] line e = append-nil (answer_to now pending line)
answers_of-more now [] pending (l ∷ lines) line e = absurd (omega arith)
answers_of-more now (p ∷ pendings) pending [] line e = absurd (omega arith)
answers_of-more now (p ∷ pendings) pending (l ∷ lines) line e =
    ap (λ (t : List ℕ). answer_to now p l ++ t) (answers_of-more (after now (ended_says l)) pendings pending lines line (omega arith))
    ∙ sym (append_assoc (answer_to now p l) (answers_of (after now (ended_says l)) pendings lines) _)

long_reply : (number : ℕ) (machine : Machine) (pending : ℕ) (rest : List ℕ) (long : Bool) →
    reply_to number machine pending (asks_by (cut_of (if long then None else Some rest)) (if long then None else Some rest)) ≡ (if long then [] else reply_to number machine pending (asked_in (without_return rest)))
long_reply number machine pending rest true = refl
long_reply number machine pending rest false = refl

newline_reply : (number : ℕ) (machine : Machine) (pending : ℕ) (rest : List ℕ) →
    reply_to number machine pending (asks_by (cut_of (kept rest)) (kept rest)) ≡ (if nat_lt max_line (length rest) then [] else reply_to number machine pending (asked_in (without_return rest)))
newline_reply number machine pending rest = long_reply number machine pending rest (nat_lt max_line (length rest))

abbrev pub moment_at : Machine → List ℕ → Moment
moment_at first bytes = after_all (first_moment first) (says_cut bytes)

-- a newline ends the line
ended_more : (first : Machine) (pendings : List ℕ) (pending : ℕ) (bytes : List ℕ) (c : Cutting) → HasTaken c bytes → length pendings ≡ length (lines_of bytes) →
    answers_to first (pendings ++ pending ∷ []) (bytes ++ 10 ∷ []) ≡ answers_to first pendings bytes ++ reply_to (moment_at first bytes).number (moment_at first bytes).machine pending (asks_by (cut_of (begun c)) (begun c))
ended_more first pendings pending bytes c h each =
    let now : Moment = moment_at first bytes in
    ap (answers_of (first_moment first) (pendings ++ pending ∷ [])) (lines_of-newline bytes)
    ∙ answers_of-more (first_moment first) pendings pending (lines_of bytes) (rest_of bytes) each
    ∙ ap (λ (t : List ℕ). answers_to first pendings bytes ++ t)
    (sym (newline_reply now.number now.machine pending (rest_of bytes)) ∙ ap (λ (o : Option (List ℕ)). reply_to now.number now.machine pending (asks_by (cut_of o) o)) (sym h))

byte_ended : (first : Machine) (pendings : List ℕ) (pending : ℕ) (bytes : List ℕ) (c : Cutting) (b : ℕ) → b ≡ 10 → HasTaken c bytes → length pendings ≡ length (lines_of bytes) →
    answers_to first (pendings ++ pending ∷ []) (bytes ++ b ∷ []) ≡ answers_to first pendings bytes ++ reply_to (moment_at first bytes).number (moment_at first bytes).machine pending (cut_asks (pushed c b))
byte_ended first pendings pending bytes c b newline h each = rw newline (ended_more first pendings pending bytes c h each)

-- and no other byte does
byte_more : (first : Machine) (pendings : List ℕ) (pending : ℕ) (bytes : List ℕ) (c : Cutting) (b : ℕ) → b ≢ 10 →
    answers_to first pendings (bytes ++ b ∷ []) ≡ answers_to first pendings bytes ++ reply_to (moment_at first bytes).number (moment_at first bytes).machine pending (cut_asks (pushed c b))
byte_more first pendings pending bytes c b other =
    let test : is_newline b ≡ false = grind (arith, nat_tests, other) in
    rw test (ap (answers_of (first_moment first) pendings) (lines_of-other bytes b other) ∙ sym (append-nil (answers_to first pendings bytes)))

few_more : (most : ℕ) (pendings : List ℕ) (pending : ℕ) → AllByRecursion (λ n. n ≤ most) pendings → pending ≤ most → AllByRecursion (λ n. n ≤ most) (pendings ++ pending ∷ [])
few_more most [] pending few one = (one, tt)
few_more most (p ∷ pendings) pending few one = (few.0, few_more most pendings pending few.1 one)

length_more : {A : Type 0} (xs : List A) (x : A) → length (xs ++ x ∷ []) ≡ length xs + 1
length_more xs x = length-append xs (x ∷ [])

-- these numbers and one more, where a newline ends a line
pending_ended : (first : Machine) (pendings : List ℕ) (pending : ℕ) (bytes : List ℕ) (b : ℕ) → b ≡ 10 → ArePending first pendings bytes → pending ≤ most_pending first → ArePending first (pendings ++ pending ∷ []) (bytes ++ b ∷ [])
pending_ended first pendings pending bytes b newline h few = record {
  each = rw (newline, lines_of-newline bytes) (omega (arith, length_more pendings pending, length_more (lines_of bytes) (rest_of bytes), h.each));
  few = few_more (most_pending first) pendings pending h.few few;
}

-- How many pixels are pending at a line, which is of no account where it is not answered.
record IsNumbered (old new : Answering) (number : ℕ) (machine : Machine) (asked : Option (List ℕ)) : Type 0 where
  pending : ℕ
  few : pending ≤ most_pending machine
  adds : Adds old new (reply_to number machine pending asked)

numbered : (old new : Answering) (number : ℕ) (machine : Machine) (pending : ℕ) (asked : Option (List ℕ)) → Adds old new (reply_to number machine pending asked) →
    (old.answered ≡ true → is_some asked ≡ true → pending ≤ most_pending machine) → IsNumbered old new number machine asked
numbered old new number machine pending None adds few = record { pending = 0; few = omega arith; adds = adds }
numbered old new number machine pending (Some words) adds few = by_flag old.answered refl where
  by_flag : (b : Bool) → old.answered ≡ b → IsNumbered old new number machine (Some words)
  by_flag true is = record { pending = pending; few = few is refl; adds = adds }
  by_flag false is = record { pending = 0; few = omega arith; adds = record { adds = λ e. absurd (cc); stays = adds.stays } }

module _ (old : Reading) (asking asked : Answering) (b pending : ℕ) (is : asked.cutter ≡ pushed asking.cutter b)
    (adds : Adds asking asked (reply_to old.run.moment.number old.run.moment.machine pending (cut_asks asked.cutter)))
    (few : asking.answered ≡ true → is_some (cut_asks asked.cutter) ≡ true → pending ≤ most_pending old.run.moment.machine)
    (first : Machine) (start : Output) (begins : SinkState) (before : List ℕ) (r : HasRead first start old before) (h : HasHeard first begins asking before) where
  abbrev now : Moment
  now = moment_at first before

  line : HasTaken asked.cutter (before ++ b ∷ [])
  line = subst (λ (c : Cutting). HasTaken c (before ++ b ∷ [])) (sym is) ((pushed_takes asking.cutter b).has before h.line)

  here : IsNumbered asking asked now.number now.machine (cut_asks (pushed asking.cutter b))
  here = subst (λ (c : Cutting). IsNumbered asking asked now.number now.machine (cut_asks c)) is
      (subst (λ (m : Moment). IsNumbered asking asked m.number m.machine (cut_asks asked.cutter)) r.answered.moment (numbered asking asked _ _ pending (cut_asks asked.cutter) adds few))

  same_most : most_pending now.machine ≡ most_pending first
  same_most = ap (λ (limits : Bounds). most_areas * size_of (area_at (pos 0) (pos 0) limits.width limits.height)) (after_all-limits (first_moment first) (says_cut before))

  heard_newline : b ≡ 10 → HasHeard first begins asked (before ++ b ∷ [])
  heard_newline newline = record {
    line = line;
    pendings = h.pendings ++ here.pending ∷ [];
    pending = pending_ended first h.pendings here.pending before b newline h.pending (omega (arith, here.few, same_most));
    answered = subst (IsAnswered begins asked.answers asked.answered) (sym (byte_ended first h.pendings here.pending before asking.cutter b newline h.line h.pending.each)) (answered_more begins asking asked _ _ h.answered here.adds);
  }

  heard_other : b ≢ 10 → HasHeard first begins asked (before ++ b ∷ [])
  heard_other other = record {
    line = line;
    pendings = h.pendings;
    pending = record { each = rw (lines_of-other before b other) h.pending.each; few = h.pending.few };
    answered = subst (IsAnswered begins asked.answers asked.answered) (sym (byte_more first h.pendings here.pending before asking.cutter b other)) (answered_more begins asking asked _ _ h.answered here.adds);
  }

  heard_more : HasHeard first begins asked (before ++ b ∷ [])
  heard_more = elim (eqb_tells b 10) [
    | inl newline ↦ heard_newline newline.1
    | inr other ↦ heard_other other.1
  ]

-- a byte was heard
pub hears_byte : (old : Reading) (asking asked : Answering) (b pending : ℕ) → asked.cutter ≡ pushed asking.cutter b →
    Adds asking asked (reply_to old.run.moment.number old.run.moment.machine pending (cut_asks asked.cutter)) →
    (asking.answered ≡ true → is_some (cut_asks asked.cutter) ≡ true → pending ≤ most_pending old.run.moment.machine) → Hears old asking asked (b ∷ [])
hears_byte old asking asked b pending is adds few = record { from = λ first start begins before r h. heard_more old asking asked b pending is adds few first start begins before r h }

pub hears_none : (now : Reading) (asking : Answering) → Hears now asking asking []
hears_none now asking = record { from = λ first start begun before r h. rw (append-nil before) h }

pub hears_more : (a b : Reading) (x y z : Answering) (xs ys all : List ℕ) → all ≡ xs ++ ys → Reads a b xs → Hears a x y xs → Hears b y z ys → Hears a x z all
hears_more a b x y z xs ys all e reads h k = record {
  from = λ first start begun before r heard.
      subst (HasHeard first begun z) (append_assoc before xs ys ∙ ap (λ (t : List ℕ). before ++ t) (sym e))
      (k.from first start begun (before ++ xs) (reads.from first start before r) (h.from first start begun before r heard));
}

-- a write failed in bytes after some, and before others
pub stops_hearing : (a b : Reading) (new : Output) (x y z : Answering) (xs ys rest all : List ℕ) → all ≡ xs ++ (ys ++ rest) → Reads a b xs → Hears a x y xs → Stops b new ys → Hears b y z ys → StopsHearing a new x z all
stops_hearing a b new x y z xs ys rest all e reads h stops k = record {
  done = xs ++ ys;
  rest = rest;
  split = append_assoc xs ys rest ∙ sym e;
  stops = stops_more a b new xs ys [] (xs ++ ys) (ap (λ (t : List ℕ). xs ++ t) (sym (append-nil ys))) reads stops;
  hears = hears_more a b x y z xs ys (xs ++ ys) refl reads h k;
}
