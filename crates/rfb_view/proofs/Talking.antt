-- A byte more of a run, in the session.
use Rattle.std.proofs.Common.{◌≡◌, ◌∙◌, sym, ap, subst, refl, inl, inr, ℕ, ◌+◌, ◌==◌, min, ◌⊎◌, ◌||◌, Bool, true, false, bytes_eq, if◌then◌else◌, List, [], ◌∷◌, ◌++◌, length, append-nil, Option, Some, None, is_some}
use Rattle.std.specs.List.{list_any}
use Rattle.std.specs.Io.KnownBytes.{Appends}
use Rattle.std.proofs.KnownBytes.{Appends-trans}
use Rattle.std.proofs.lemmas.Grind.{flat_map-append}
use Rattle.std.proofs.lemmas.List.Folds.{list_any-append}
use Rattle.run_defs.specs.Machine.{Machine}
use Rattle.gui_edge.specs.Sink.{AppendsPrefix}
use Rattle.gui_edge.proofs.Prefixes.{AppendsPrefix-behind}
use Rattle.run_defs.specs.Run.{Told, log_text, noted}
use Rattle.session_defs.specs.Messages.{Message, Wants, Passes, Asks, Inputs, Errs, message_of}
use Rattle.session_defs.specs.Parts.{Intake, takes_byte, size_after}
use Rattle.session_defs.specs.Sessions.{Session, Write, Due as Step, Version, Security, Sharing, Saying, begun_on, part, parts, part_due, says, session_of, bytes_of, lines_of, notes_of, greets, fails, version, offer, chosen, turned_down}
use Rattle.session_defs.specs.Updates.{Sight}
use Rattle.session_defs.specs.declared.RfbBad.{RfbBad}
use Rattle.session_defs.specs.declared.RfbBad.TheVariants as bad
use Rattle.rfb_view.specs.Hearing.{HearingState, HasHeard}
use Rattle.rfb_view.specs.Reading.{InSession, scripted}
use Rattle.rfb_view.specs.Running.{Wrote, Conversing, Failing, Stands, script_log}
use Rattle.rfb_view.specs.Talking.{Outs, Talks, Broke, Listens, Answers, Takes, is_part, bare, due_of, count_due}
use Rattle.rfb_view.specs.declared.run.Run.{Run}
use Rattle.rfb_view.specs.declared.talk.Due.{Due}
use Rattle.rfb_view.specs.declared.talk.Due.TheVariants as due
use Rattle.rfb_view.specs.declared.talk.Talk.{Talk}
use Rattle.rfb_view.proofs.Reading.{session_byte, session_part, session_told, parts_more, fault_stays}
use Rattle.rfb_view.proofs.Scripts.{log_same, machine_same}

-- a session that has written this
abbrev pub writing : List Write → Session → Session
writing writes session = record session { writes = writes }

-- What a part writes goes behind what was written before.

says_writes : (ms : ℕ) (message : Message) (s : Session) (w : List Write) → says ms message (writing w s) ≡ writing (w ++ (says ms message (writing [] s)).writes) (says ms message (writing [] s))
says_writes ms (Wants format) s w = refl
says_writes ms Passes s w = refl
says_writes ms (Asks changes area) s w = refl
says_writes ms (Inputs command) s w = refl
says_writes ms (Errs why) s w = ap (λ (l : List Write). let out : Session = record s { writes = l; fault = Some why } in out) (sym (append-nil w))

version_writes : (b : Bool) (ms : ℕ) (s : Session) (w : List Write) → (if b then greets Security offer (writing w s) else fails bad.Version (writing w s))
    ≡ writing (w ++ (if b then greets Security offer (writing [] s) else fails bad.Version (writing [] s)).writes) (if b then greets Security offer (writing [] s) else fails bad.Version (writing [] s))
version_writes true ms s w = refl
version_writes false ms s w = ap (λ (l : List Write). let out : Session = record s { writes = l; fault = Some bad.Version } in out) (sym (append-nil w))

security_writes : (b : Bool) (ms : ℕ) (s : Session) (w : List Write) → (if b then greets Sharing chosen (writing w s) else fails bad.Security (greets Security turned_down (writing w s)))
    ≡ writing (w ++ (if b then greets Sharing chosen (writing [] s) else fails bad.Security (greets Security turned_down (writing [] s))).writes) (if b then greets Sharing chosen (writing [] s) else fails bad.Security (greets Security turned_down (writing [] s)))
security_writes true ms s w = refl
security_writes false ms s w = refl

due_writes : (ms : ℕ) (step : Step) (bytes : List ℕ) (s : Session) (w : List Write) → part_due ms step bytes (writing w s) ≡ writing (w ++ (part_due ms step bytes (writing [] s)).writes) (part_due ms step bytes (writing [] s))
due_writes ms Version bytes s w = version_writes (bytes_eq bytes version) ms s w
due_writes ms Security bytes s w = security_writes (bytes_eq bytes (1 ∷ [])) ms s w
due_writes ms Sharing bytes s w = refl
due_writes ms Saying bytes s w = says_writes ms (message_of bytes) s w

or_assoc : (a b c : Bool) → ((a || b) || c) ≡ (a || (b || c))
or_assoc true b c = refl
or_assoc false b c = refl

-- Which part is due then.

abbrev count_step : Step → ℕ
count_step Version = 0
count_step Security = 1
count_step Sharing = 2
count_step Saying = 3

count_is : (d : Due) → count_due d ≡ count_step (due_of d)
count_is due.Version = refl
count_is due.Security = refl
count_is due.Sharing = refl
count_is due.Saying = refl

says_due : (ms : ℕ) (message : Message) (s : Session) → (says ms message s).due ≡ s.due
says_due ms (Wants format) s = refl
says_due ms Passes s = refl
says_due ms (Asks changes area) s = refl
says_due ms (Inputs command) s = refl
says_due ms (Errs why) s = refl

next_due : (ms : ℕ) (step : Step) (bytes : List ℕ) (s : Session) → s.due ≡ step → (part_due ms step bytes s).fault ≡ None → count_step (part_due ms step bytes s).due ≡ min (count_step step + 1) 3
next_due ms Version bytes s is on = by (bytes_eq bytes version) on
  where
    by : (b : Bool) → (if b then greets Security offer s else fails bad.Version s).fault ≡ None → count_step (if b then greets Security offer s else fails bad.Version s).due ≡ 1
    by true on = refl
    by false on = absurd (cc)
next_due ms Security bytes s is on = by (bytes_eq bytes (1 ∷ [])) on
  where
    by : (b : Bool) → (if b then greets Sharing chosen s else fails bad.Security (greets Security turned_down s)).fault ≡ None → count_step (if b then greets Sharing chosen s else fails bad.Security (greets Security turned_down s)).due ≡ 2
    by true on = refl
    by false on = absurd (cc)
next_due ms Sharing bytes s is on = refl
next_due ms Saying bytes s is on = ap count_step (says_due ms (message_of bytes) s ∙ is)

-- A talk over a session, and then over a part of it.

module _ (notes : Bool) (start before after : Outs) (was : Machine) (old : Talk) (session : Session) (is : Machine) (new : Talk) (h : Talks notes start before was old session) (none : session.fault ≡ None) where
  -- the session is the talk's own, with what was written before
  session_of_talk : session ≡ writing session.writes (bare was old)
  session_of_talk = by session.machine session.sight session.due session.fault h.machine_is h.sight_is h.due_is h.fault_is
    where
      by : (m : Machine) (s : Sight) (d : Step) (f : Option RfbBad) → was ≡ m → old.sight ≡ s → due_of old.due ≡ d → old.fault ≡ f →
          (let one : Session = record { machine = m; sight = s; due = d; writes = session.writes; fault = f } in one) ≡ writing session.writes (bare was old)
      by m s d f a b c e = rw (← a, ← b, ← c, ← e) refl

  module _ (ms : ℕ) (bytes : List ℕ) where
    abbrev one : Session
    one = part_due ms (due_of old.due) bytes (bare was old)

    abbrev both : Session
    both = part_due ms session.due bytes session

    both_is : both ≡ writing (session.writes ++ one.writes) one
    both_is =
        ap (λ (d : Step). part_due ms d bytes session) (sym h.due_is)
        ∙ ap (part_due ms (due_of old.due) bytes) session_of_talk
        ∙ due_writes ms (due_of old.due) bytes (bare was old) session.writes

    pub talks_on : Talks old.noted before after is new one → Talks notes start after is new both
    talks_on k = subst (Talks notes start after is new) (sym both_is) (record {
      machine_is = k.machine_is;
      sight_is = k.sight_is;
      due_is = k.due_is;
      fault_is = k.fault_is;
      notes_is = k.notes_is ∙ ap (λ (b : Bool). b || list_any notes_of one.writes) h.notes_is ∙ or_assoc notes (list_any notes_of session.writes) (list_any notes_of one.writes)
          ∙ ap (λ (b : Bool). notes || b) (sym (list_any-append notes_of session.writes one.writes));
      out = subst (Appends _ _) (sym (flat_map-append bytes_of session.writes one.writes)) (Appends-trans _ _ _ _ _ h.out k.out);
      log = subst (Appends _ _) (sym (flat_map-append lines_of session.writes one.writes)) (Appends-trans _ _ _ _ _ h.log k.log);
    })

    pub broke_on : Broke before after one → Broke start after both
    broke_on k = subst (Broke start after) (sym both_is) (record {
      out = subst (AppendsPrefix _ _) (sym (flat_map-append bytes_of session.writes one.writes)) (AppendsPrefix-behind _ _ _ _ _ h.out k.out);
      log = subst (AppendsPrefix _ _) (sym (flat_map-append lines_of session.writes one.writes)) (AppendsPrefix-behind _ _ _ _ _ h.log k.log);
    })

    pub part_is : part ms session bytes ≡ both
    part_is = by session.fault none
      where
        by : (f : Option RfbBad) → f ≡ None → (if is_some f then session else both) ≡ both
        by f e = rw e refl

-- The lines of the script stay as they are in the session.

lines_stay : (intake : Intake) (byte : ℕ) → intake.begun ≡ true → (takes_byte intake byte).lines ≡ intake.lines
lines_stay intake byte e = rw e (by (length (intake.rest ++ byte ∷ []) == size_after (length intake.parts) (intake.rest ++ byte ∷ [])))
  where
    by : (b : Bool) → (if b then (let one : Intake = record intake { begun = true; parts = intake.parts ++ (intake.rest ++ byte ∷ []) ∷ []; rest = [] } in one) else (let two : Intake = record intake { begun = true; rest = intake.rest ++ byte ∷ [] } in two)).lines ≡ intake.lines
    by true = refl
    by false = refl

begun_stays : (intake : Intake) (byte : ℕ) → intake.begun ≡ true → (takes_byte intake byte).begun ≡ true
begun_stays intake byte e = rw e (by (length (intake.rest ++ byte ∷ []) == size_after (length intake.parts) (intake.rest ++ byte ∷ [])))
  where
    by : (b : Bool) → (if b then (let one : Intake = record intake { begun = true; parts = intake.parts ++ (intake.rest ++ byte ∷ []) ∷ []; rest = [] } in one) else (let two : Intake = record intake { begun = true; rest = intake.rest ++ byte ∷ [] } in two)).begun ≡ true
    by true = refl
    by false = refl

-- what was written, as after other bytes with the same lines
wrote_as : (first : Machine) (start : Outs) (is : Machine) (run : Run) (now : Outs) (a b : Intake) (session : Session) → b.lines ≡ a.lines → Wrote first start is run now a session → Wrote first start is run now b session
wrote_as first start is run now a b session e w =
    let same = log_same first a b (sym e) in record {
      middle = w.middle;
      out = w.out;
      log = subst (λ (ts : List Told). Appends start.log.held w.middle.log.held (log_text ts)) same w.log;
      talks = subst (λ (ts : List Told). Talks (noted ts) w.middle now is run.talk session) same w.talks;
    }

module _ (first : Machine) (start : Outs) (was : Machine) (old : Run) (before : Outs) (intake : Intake) (h : Conversing first start was old before intake) (byte : ℕ) where
  abbrev bytes : List ℕ
  bytes = intake.rest ++ byte ∷ []

  abbrev with_talk : Talk → Run
  with_talk talk = record old { talk = talk }

  -- a byte of a part
  listens_at : (hearing : HearingState) → HasHeard hearing bytes → is_part old.talk bytes ≡ false → Conversing first start was (with_talk (let t : Talk = record old.talk { hearing = hearing } in t)) before (takes_byte intake byte)
  listens_at hearing heard e = record {
    session = h.session;
    goes = session_byte old.talk.ms first intake old.talk.hearing hearing (count_due old.talk.due) h.session byte h.goes heard e;
    wrote = wrote_as first start was _ before intake (takes_byte intake byte) h.session (lines_stay intake byte h.goes.begun) (record {
      middle = h.wrote.middle;
      out = h.wrote.out;
      log = h.wrote.log;
      talks = record {
        machine_is = h.wrote.talks.machine_is;
        sight_is = h.wrote.talks.sight_is;
        due_is = h.wrote.talks.due_is;
        fault_is = h.wrote.talks.fault_is;
        notes_is = h.wrote.talks.notes_is;
        out = h.wrote.talks.out;
        log = h.wrote.talks.log;
      };
    });
  }

  goes_listening : (is : Machine) (talk : Talk) (after : Outs) → old.talk.fault ≡ None → is_part old.talk bytes ≡ false → Listens bytes before after was old.talk is talk → Stands true talk.fault first start is (with_talk talk) after (takes_byte intake byte)
  goes_listening is talk after none e l =
      let t : Talk = record old.talk { hearing = talk.hearing } in
      let at : Stands true None first start was (with_talk t) before (takes_byte intake byte) = listens_at talk.hearing l.heard e in
      let there : Stands true t.fault first start was (with_talk t) before (takes_byte intake byte) = subst (λ (f : Option RfbBad). Stands true f first start was (with_talk t) before (takes_byte intake byte)) (sym none) at in
      let moved : Stands true t.fault first start is (with_talk t) after (takes_byte intake byte) = rw (l.machine_is, l.outs_are) there in
      subst (λ (u : Talk). Stands true u.fault first start is (with_talk u) after (takes_byte intake byte)) (sym l.talk_is) moved

  -- a whole part
  module _ (is : Machine) (talk : Talk) (after : Outs) (none : old.talk.fault ≡ None) (whole : is_part old.talk bytes ≡ true) (a : Answers bytes before after was old.talk is talk) where
    quiet : h.session.fault ≡ None
    quiet = sym h.wrote.talks.fault_is ∙ none

    abbrev next : Session
    next = part_due old.talk.ms h.session.due bytes h.session

    next_is : next ≡ part old.talk.ms h.session bytes
    next_is = sym (part_is _ h.wrote.middle before after was old.talk h.session is talk h.wrote.talks quiet old.talk.ms bytes)

    talks : Talks (noted (script_log first intake)) h.wrote.middle after is talk next
    talks = talks_on _ h.wrote.middle before after was old.talk h.session is talk h.wrote.talks quiet old.talk.ms bytes a.goes.talks

    wrote : Wrote first start is (with_talk talk) after (takes_byte intake byte) next
    wrote = wrote_as first start is (with_talk talk) after intake (takes_byte intake byte) next (lines_stay intake byte h.goes.begun) (record { middle = h.wrote.middle; out = h.wrote.out; log = h.wrote.log; talks = talks })

    count : next.fault ≡ None → min (count_due old.talk.due + 1) 3 ≡ count_due talk.due
    count on =
        ap (λ (n : ℕ). min (n + 1) 3) (count_is old.talk.due ∙ ap count_step h.wrote.talks.due_is)
        ∙ sym (next_due old.talk.ms h.session.due bytes h.session refl on)
        ∙ ap count_step (sym talks.due_is) ∙ sym (count_is talk.due)

    goes_on_at : next.fault ≡ None → Conversing first start is (with_talk talk) after (takes_byte intake byte)
    goes_on_at on = record {
      session = next;
      goes = subst (λ (n : ℕ). InSession talk.ms first (takes_byte intake byte) talk.hearing n next) (count on)
          (subst (λ (m : ℕ). InSession m first (takes_byte intake byte) talk.hearing (min (count_due old.talk.due + 1) 3) next) (sym a.goes.stays.ms)
          (session_part old.talk.ms first intake old.talk.hearing talk.hearing (count_due old.talk.due) h.session next byte h.goes a.heard whole next_is on));
      wrote = wrote;
    }

    fails_at : Failing first start is (with_talk talk) after (takes_byte intake byte)
    fails_at = record {
      session = next;
      begun = begun_stays intake byte h.goes.begun;
      session_is = subst (λ (m : ℕ). session_of m first false (takes_byte intake byte) ≡ Some next) (sym a.goes.stays.ms)
          (session_told old.talk.ms first intake old.talk.hearing (count_due old.talk.due) h.session next byte h.goes whole next_is);
      wrote = wrote;
    }

    goes_answering : Stands true talk.fault first start is (with_talk talk) after (takes_byte intake byte)
    goes_answering = by talk.fault refl
      where
        by : (f : Option RfbBad) → talk.fault ≡ f → Stands true f first start is (with_talk talk) after (takes_byte intake byte)
        by None e = goes_on_at (sym talks.fault_is ∙ e)
        by (Some why) e = fails_at

  pub goes_taking : (is : Machine) (talk : Talk) (after : Outs) → old.talk.fault ≡ None → Takes (is_part old.talk bytes) bytes before after was old.talk is talk → Stands true talk.fault first start is (with_talk talk) after (takes_byte intake byte)
  goes_taking is talk after none t = by (is_part old.talk bytes) refl t
    where
      by : (b : Bool) → is_part old.talk bytes ≡ b → Takes b bytes before after was old.talk is talk → Stands true talk.fault first start is (with_talk talk) after (takes_byte intake byte)
      by true e t = goes_answering is talk after none e t
      by false e t = goes_listening is talk after none e t

pub log_kept : (first : Machine) (intake : Intake) (byte : ℕ) → intake.begun ≡ true → script_log first intake ≡ script_log first (takes_byte intake byte)
log_kept first intake byte e = log_same first intake (takes_byte intake byte) (sym (lines_stay intake byte e))

-- After a part at fault nothing is looked at.

parts_stay : (intake : Intake) (byte : ℕ) → intake.begun ≡ true → ((takes_byte intake byte).parts ≡ intake.parts) ⊎ ((takes_byte intake byte).parts ≡ intake.parts ++ (intake.rest ++ byte ∷ []) ∷ [])
parts_stay intake byte e = rw e (by (length (intake.rest ++ byte ∷ []) == size_after (length intake.parts) (intake.rest ++ byte ∷ [])))
  where
    by : (b : Bool) → ((if b then (let one : Intake = record intake { begun = true; parts = intake.parts ++ (intake.rest ++ byte ∷ []) ∷ []; rest = [] } in one) else (let two : Intake = record intake { begun = true; rest = intake.rest ++ byte ∷ [] } in two)).parts ≡ intake.parts)
        ⊎ ((if b then (let one : Intake = record intake { begun = true; parts = intake.parts ++ (intake.rest ++ byte ∷ []) ∷ []; rest = [] } in one) else (let two : Intake = record intake { begun = true; rest = intake.rest ++ byte ∷ [] } in two)).parts ≡ intake.parts ++ (intake.rest ++ byte ∷ []) ∷ [])
    by true = inr refl
    by false = inl refl

session_by : (ms : ℕ) (first : Machine) (i : Intake) → i.begun ≡ true → session_of ms first false i ≡ Some (parts ms (begun_on (scripted first i)) i.parts)
session_by ms first i e = rw e refl

some_same : {X : Type 0} (a b : X) → Some a ≡ Some b → a ≡ b
some_same a b e = cc

module _ (first : Machine) (start : Outs) (was : Machine) (run : Run) (before : Outs) (intake : Intake) (h : Failing first start was run before intake) (byte : ℕ) (why : RfbBad) (fault : run.talk.fault ≡ Some why) where
  at_fault : h.session.fault ≡ Some why
  at_fault = sym h.wrote.talks.fault_is ∙ fault

  was_session : parts run.talk.ms (begun_on (scripted first intake)) intake.parts ≡ h.session
  was_session = some_same _ _ (sym (session_by run.talk.ms first intake h.begun) ∙ h.session_is)

  abbrev new_intake : Intake
  new_intake = takes_byte intake byte

  scripts_same : scripted first new_intake ≡ scripted first intake
  scripts_same = machine_same first new_intake intake (lines_stay intake byte h.begun)

  is_session : parts run.talk.ms (begun_on (scripted first new_intake)) new_intake.parts ≡ h.session
  is_session =
      ap (λ (m : Machine). parts run.talk.ms (begun_on m) new_intake.parts) scripts_same
      ∙ elim (parts_stay intake byte h.begun) [
        | inl same ↦ ap (λ (l : List (List ℕ)). parts run.talk.ms (begun_on (scripted first intake)) l) same ∙ was_session
        | inr more ↦
            ap (λ (l : List (List ℕ)). parts run.talk.ms (begun_on (scripted first intake)) l) more
            ∙ parts_more run.talk.ms (begun_on (scripted first intake)) intake.parts (intake.rest ++ byte ∷ [])
            ∙ ap (λ (s : Session). part run.talk.ms s (intake.rest ++ byte ∷ [])) was_session
            ∙ fault_stays run.talk.ms h.session why (intake.rest ++ byte ∷ []) at_fault
      ]

  pub still_fails : Failing first start was run before new_intake
  still_fails = record {
    session = h.session;
    begun = begun_stays intake byte h.begun;
    session_is = session_by run.talk.ms first new_intake (begun_stays intake byte h.begun) ∙ ap Some is_session;
    wrote = wrote_as first start was run before intake new_intake h.session (lines_stay intake byte h.begun) h.wrote;
  }
