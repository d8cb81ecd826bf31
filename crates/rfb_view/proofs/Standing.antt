-- A byte more of a run, in the script.
use Rattle.std.proofs.Common.{◌≡◌, ◌∙◌, sym, ap, subst, refl, ℕ, ◌+◌, ◌*◌, ◌||◌, Bool, true, false, [], ◌∷◌, ◌++◌, append-nil, Option, None, arith}
use Rattle.std.specs.Io.KnownBytes.{Appends}
use Rattle.std.proofs.KnownBytes.{Appends-nil, Appends-trans}
use Rattle.std.proofs.lemmas.List.{length_push}
use Rattle.gui_base.specs.Limits.{Bounds}
use Rattle.run_defs.specs.Machine.{Machine}
use Rattle.run_defs.specs.Run.{moment, machine_after, log_text, noted}
use Rattle.run_defs.specs.Script.{Said, is_newline, without_return, ended_says}
use Rattle.run_defs.proofs.Runs.{after-limits}
use Rattle.scene_script.specs.Cutting.{pushed}
use Rattle.session_defs.specs.Formats.{own}
use Rattle.session_defs.specs.Parts.{Intake, is_rfb, takes_byte}
use Rattle.session_defs.specs.Sessions.{begun_on, unframed, version}
use Rattle.session_defs.specs.Updates.{Sight, none_known}
use Rattle.session_defs.specs.declared.RfbBad.{RfbBad}
use Rattle.rfb_view.specs.Cuts.{Begins, Waits, AnswersLine}
use Rattle.rfb_view.specs.Reading.{InSession}
use Rattle.rfb_view.specs.Running.{Scripting, Wrote, Conversing, Stands, script_log}
use Rattle.rfb_view.specs.Talking.{Outs, due_of, count_due}
use Rattle.rfb_view.specs.Telling.{line_tells}
use Rattle.rfb_view.specs.declared.run.Run.{Run}
use Rattle.rfb_view.proofs.Reading.{session_begins}
use Rattle.rfb_view.proofs.Scripts.{begun_other, begun_line, log_more, machine_more, text_more, noted_more}
use Rattle.rfb_view.proofs.Talks.{or_false}

-- the run stands in the script
pub stands_script : (first : Machine) (start : Outs) (is : Machine) (new : Run) (after : Outs) (intake : Intake) → new.begun ≡ false → Scripting first start is new after intake → Stands new.begun new.talk.fault first start is new after intake
stands_script first start is new after intake e h = subst (λ (b : Bool). Stands b new.talk.fault first start is new after intake) (sym e) h

pub script_stands : (first : Machine) (start : Outs) (is : Machine) (new : Run) (after : Outs) (intake : Intake) → new.begun ≡ false → Stands new.begun new.talk.fault first start is new after intake → Scripting first start is new after intake
script_stands first start is new after intake e h = subst (λ (b : Bool). Stands b new.talk.fault first start is new after intake) e h

-- the sight with which a session begins goes by the sizes alone
sight_of : (a b : Machine) → a.scene.limits ≡ b.scene.limits → (begun_on a).sight ≡ (begun_on b).sight
sight_of a b e = ap (λ (l : Bounds). let sight : Sight = record { format = own; sent = none_known (l.width * l.height); request = None } in sight) e

module _ (first : Machine) (start : Outs) (was : Machine) (old : Run) (before : Outs) (intake : Intake) (h : Scripting first start was old before intake) (in_script : old.begun ≡ false) (byte : ℕ) where
  abbrev mid : Run
  mid = record old { cutter = pushed old.cutter byte }

  -- no line is whole
  waits_at : is_newline byte ≡ false → Scripting first start was mid before (record intake { rest = intake.rest ++ byte ∷ [] })
  waits_at e = record {
    script = record { begun = h.script.begun; none = h.script.none; line_is = refl; machine_is = h.script.machine_is };
    line = begun_other old.cutter intake.rest byte e h.line;
    number = h.number;
    fresh = h.fresh;
    notes = h.notes;
    out = h.out;
    log = h.log;
  }

  waits_taken : is_newline byte ≡ false → takes_byte intake byte ≡ record intake { rest = intake.rest ++ byte ∷ [] }
  waits_taken e = rw (h.script.begun, e) refl

  pub goes_waiting : (is : Machine) (new : Run) (after : Outs) → is_newline byte ≡ false → Waits was mid before is new after → Stands new.begun new.talk.fault first start is new after (takes_byte intake byte)
  goes_waiting is new after e w =
      let there : Stands mid.begun mid.talk.fault first start was mid before (takes_byte intake byte) =
      subst (λ (i : Intake). Stands mid.begun mid.talk.fault first start was mid before i) (sym (waits_taken e)) (stands_script first start was mid before _ in_script (waits_at e)) in
      rw (w.machine, w.run, w.outs_are) there

  -- a line was answered
  abbrev with_line : Intake
  with_line = record intake { lines = intake.lines ++ intake.rest ∷ []; rest = [] }

  abbrev answered : Run
  answered = record mid {
    number = old.number + 1;
    talk = record old.talk { noted = old.talk.noted || noted (line_tells was old.number (ended_says intake.rest)) };
  }

  line_taken : is_newline byte ≡ true → is_rfb (without_return intake.rest) ≡ false → takes_byte intake byte ≡ with_line
  line_taken e other = rw (h.script.begun, e, other) refl

  line_at : (is : Machine) (after : Outs) → is_newline byte ≡ true → is ≡ machine_after was (unframed (ended_says intake.rest)) → after.out ≡ before.out →
      Appends before.log.held after.log.held (log_text (line_tells was old.number (ended_says intake.rest))) → Scripting first start is answered after with_line
  line_at is after e machine out log =
      let more = log_more first intake was old.number h.script.machine_is h.number with_line intake.rest refl in
      let said : Said = ended_says intake.rest in
      let limits : is.scene.limits ≡ was.scene.limits = ap (λ (m : Machine). m.scene.limits) machine ∙ after-limits (moment was old.number 1) (unframed said) in
      record {
        script = record { begun = h.script.begun; none = h.script.none; line_is = refl; machine_is = machine ∙ sym (machine_more first intake was old.number h.script.machine_is h.number with_line intake.rest refl) };
        line = begun_line old.cutter byte e;
        number = omega (arith, h.number, length_push intake.lines intake.rest);
        fresh = record { sight_is = h.fresh.sight_is ∙ sight_of was is (sym limits); due_is = h.fresh.due_is; fault_is = h.fresh.fault_is; heard = h.fresh.heard };
        notes = ap (λ (b : Bool). b || noted (line_tells was old.number said)) h.notes ∙ sym (noted_more (script_log first intake) (line_tells was old.number said)) ∙ ap noted (sym more);
        out = rw out h.out;
        log = subst (Appends _ _) (sym (ap log_text more ∙ text_more (script_log first intake) (line_tells was old.number said))) (Appends-trans _ _ _ _ _ h.log log);
      }

  pub goes_line : (is : Machine) (new : Run) (after : Outs) → is_newline byte ≡ true → is_rfb (without_return intake.rest) ≡ false → AnswersLine (ended_says intake.rest) was mid before is new after →
      Stands new.begun new.talk.fault first start is new after (takes_byte intake byte)
  goes_line is new after e other a =
      let there : Stands answered.begun answered.talk.fault first start is answered after (takes_byte intake byte) =
      subst (λ (i : Intake). Stands answered.begun answered.talk.fault first start is answered after i) (sym (line_taken e other))
      (stands_script first start is answered after with_line in_script (line_at is after e a.machine a.out a.log)) in
      rw a.run there

  -- the session begins
  abbrev begun_run : Run
  begun_run = record mid { begun = true }

  abbrev begun_intake : Intake
  begun_intake = record intake { begun = true; rest = [] }

  begin_taken : is_newline byte ≡ true → is_rfb (without_return intake.rest) ≡ true → takes_byte intake byte ≡ begun_intake
  begin_taken e rfb = rw (h.script.begun, e, rfb) refl

  begin_wrote : (after : Outs) → Appends before.out.held after.out.held version → after.log ≡ before.log → Wrote first start was begun_run after begun_intake (begun_on was)
  begin_wrote after out log = record {
    middle = before;
    out = h.out;
    log = h.log;
    talks = record {
      machine_is = refl;
      sight_is = h.fresh.sight_is;
      due_is = ap due_of h.fresh.due_is;
      fault_is = h.fresh.fault_is;
      notes_is = h.notes ∙ or_false (noted (script_log first intake));
      out = rw (append-nil version) out;
      log = rw log (Appends-nil before.log.held);
    };
  }

  begin_at : (after : Outs) → is_newline byte ≡ true → is_rfb (without_return intake.rest) ≡ true → Appends before.out.held after.out.held version → after.log ≡ before.log → Conversing first start was begun_run after begun_intake
  begin_at after e rfb out log =
      let count : 0 ≡ count_due old.talk.due = ap count_due (sym h.fresh.due_is) in record {
        session = begun_on was;
        goes = subst (λ (i : Intake). InSession old.talk.ms first i old.talk.hearing (count_due old.talk.due) (begun_on was)) (begin_taken e rfb)
            (subst (λ (n : ℕ). InSession old.talk.ms first (takes_byte intake byte) old.talk.hearing n (begun_on was)) count
            (session_begins old.talk.ms first intake intake.rest was old.talk.hearing byte h.script e rfb h.fresh.heard));
        wrote = begin_wrote after out log;
      }

  pub goes_begins : (is : Machine) (new : Run) (after : Outs) → is_newline byte ≡ true → is_rfb (without_return intake.rest) ≡ true → Begins was mid before is new after → Stands new.begun new.talk.fault first start is new after (takes_byte intake byte)
  goes_begins is new after e rfb b =
      let at : Stands true None first start was begun_run after begun_intake = begin_at after e rfb b.out b.log in
      let there : Stands true old.talk.fault first start was begun_run after begun_intake = subst (λ (f : Option RfbBad). Stands true f first start was begun_run after begun_intake) (sym h.fresh.fault_is) at in
      let taken : Stands begun_run.begun begun_run.talk.fault first start was begun_run after (takes_byte intake byte) = subst (λ (i : Intake). Stands true old.talk.fault first start was begun_run after i) (sym (begin_taken e rfb)) there in
      rw (b.machine, b.run) taken
