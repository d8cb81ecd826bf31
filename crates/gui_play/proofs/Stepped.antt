-- A command that was carried out, and one that was refused.
use Rattle.std.proofs.Common.{◌≡◌, ◌∙◌, sym, ap, subst, refl, ℕ, Bool, false, ◌||◌, List, Result, Ok, Err, Option, Some, None, arith}
use Rattle.std.specs.Prelude.{IfOk, OnOk, OnErr}
use Rattle.std.proofs.KnownBytes.{Appends-nil}
use Rattle.std.specs.Io.KnownBytes.{Appends}
use Rattle.gui_base.specs.Refusing.{result_of}
use Rattle.gui_base.specs.declared.refusal.Refusal.{Refusal}
use Rattle.gui_edge.specs.declared.Failed.{Failed}
use Rattle.gui_edge.specs.Causes.{HasCause}
use Rattle.gui_edge.specs.Sink.{SinkState, AppendsPrefix}
use Rattle.run_defs.specs.Play.{Play, Rule, only}
use Rattle.run_defs.specs.Step.{done, unless}
use Rattle.run_defs.specs.declared.Reply.{Reply}
use Rattle.run_defs.specs.declared.Reply.TheVariants.{Ok as Fine, Refused}
use Rattle.gui_board.specs.Boards.{IsEnd}
use Rattle.gui_board.specs.Stages.{Stage, Played}
use Rattle.gui_play.specs.Steps.{Steps}
use Rattle.gui_board.specs.Writing.{WritesBy}

-- the clauses on the log
record Logged (old new : SinkState) (result : Result Reply Failed) (lines : List ℕ) (reply : Reply) : Type 0 where
  said : IfOk result (λ r. r ≡ reply)
  lines_ok : OnOk result (Appends old.held new.held lines)
  prefix : OnErr result (AppendsPrefix old.held new.held lines)
  cause : HasCause old.faults new.faults result

logged : (cut noted : Bool) (old new : SinkState) (lines : List ℕ) (result : Result Reply Failed) → IsEnd cut noted result → WritesBy false cut old new lines → Logged old new result lines (Fine noted)
logged cut noted old new lines (Err failed) o w =
    let v = subst (λ (b : Bool). WritesBy false b old new lines) o w in
    record { said = tt; lines_ok = tt; prefix = v.0; cause = record { later = v.2; failed = v.1 } }
logged cut noted old new lines (Ok reply) o w =
    let v = subst (λ (b : Bool). WritesBy false b old new lines) o.0 w in
    record { said = o.1; lines_ok = v.0; prefix = tt; cause = record { later = v.1; failed = tt } }

-- a play was played from the beginning of a step on
pub steps_done : (a b : Stage) (play : Play) (result : Result Reply Failed) → a.cut ≡ false → a.noted ≡ false → Played a b play → IsEnd b.cut b.noted result → Steps a b result (done play)
steps_done a b play result uncut unnoted p o =
    let noted : b.noted ≡ play.noted = p.noted ∙ ap (λ (n : Bool). n || play.noted) unnoted in
    let lines = subst (λ (cut : Bool). WritesBy cut b.cut a.log b.log play.lines) uncut p.lines in
    let log : Logged a.log b.log result play.lines (Fine play.noted) =
    subst (λ (n : Bool). Logged a.log b.log result play.lines (Fine n)) noted (logged b.cut b.noted a.log b.log play.lines result o lines) in
    record { machine = p.machine; owed = p.owed; reply = log.said; lines = log.lines_ok; cut = log.prefix; cause = log.cause; refused = λ refusal e. cc }

-- the same of a command against which there may be a refusal
pub steps_unless : (a b : Stage) (reason : Option Refusal) (rule : Rule) (result : Result Reply Failed) → reason ≡ None → a.cut ≡ false → a.noted ≡ false → Played a b (rule a.machine) → IsEnd b.cut b.noted result →
    Steps a b result (unless reason rule a.machine)
steps_unless a b reason rule result e uncut unnoted p o = rw e (steps_done a b (rule a.machine) result uncut unnoted p o)

-- where there is one, nothing is done
pub steps_refused : (a b : Stage) (reason : Option Refusal) (refusal : Refusal) (rule : Rule) → reason ≡ Some refusal → Played a b (only a.machine) → b.pending ≡ a.pending → b.log ≡ a.log →
    Steps a b (Ok (Refused refusal)) (unless reason rule a.machine)
steps_refused a b reason refusal rule e p stays same =
    rw e (record {
      machine = p.machine;
      owed = p.owed;
      reply = refl;
      lines = rw same (Appends-nil a.log.held);
      cut = tt;
      cause = rw same (record { later = omega arith; failed = tt });
      refused = λ other e. record { answer = ap Ok e; pending = stays; log = same };
    })

pub none_of_ok : (o : Option Refusal) → Ok tt ≡ result_of o → o ≡ None
none_of_ok None e = refl
none_of_ok (Some x) e = cc

pub some_of_err : (o : Option Refusal) (x : Refusal) → Err x ≡ result_of o → o ≡ Some x
some_of_err None x e = cc
some_of_err (Some y) x e = let same : x ≡ y = cc in ap (λ (z : Refusal). Some z) (sym same)
