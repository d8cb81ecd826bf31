-- What a run has written, and how it stops.
use Rattle.std.proofs.Common.{◌≡◌, ◌∙◌, sym, ap, subst, refl, inl, inr, ℕ, ◌<◌, ◌≤◌, ◌⊎◌, ◌||◌, ◌&&◌, not, nat_lt, Bool, true, false, List, [], ◌∷◌, ◌++◌, length, append-nil, flat_map, Option, option_map, Some, None, arith}
use Rattle.std.specs.Io.KnownBytes.{Appends}
use Rattle.std.proofs.KnownBytes.{Appends-trans}
use Rattle.std.proofs.lemmas.Bool.{cases_Bool}
use Rattle.std.proofs.lemmas.Bool.Decides.{nat_tests}
use Rattle.gui_edge.specs.Sink.{AppendsPrefix}
use Rattle.gui_edge.proofs.Prefixes.{AppendsPrefix-append, AppendsPrefix-behind}
use Rattle.run_defs.specs.Machine.{Machine}
use Rattle.run_defs.specs.Run.{Told, log_text}
use Rattle.run_defs.specs.Script.{Said, is_newline, without_return, ended_says, max_script}
use Rattle.scene_script.specs.Cutting.{pushed, cut_says}
use Rattle.session_defs.specs.Parts.{Intake, cut, is_rfb, takes_byte}
use Rattle.session_defs.specs.Sessions.{Session, Outcome, Overlong, Faulty, outcome, outcome_in, output_of, log_of, session_of, writes_in, bytes_of, lines_of, begun_on, version, stop, is_too_long, max_run, parts, part_due}
use Rattle.session_defs.specs.declared.RfbBad.{RfbBad}
use Rattle.rfb_view.specs.Cuts.{begins, CutBroke}
use Rattle.rfb_view.specs.Endings.{BrokeAt, Writes, stopped}
use Rattle.rfb_view.specs.Hearing.{HasHeard}
use Rattle.rfb_view.specs.Reading.{scripted}
use Rattle.rfb_view.specs.Running.{Scripting, Wrote, Conversing, Stands, HasRead, BreaksOff, IsShort, StopsWith, script_log}
use Rattle.rfb_view.specs.Talking.{Outs, Broke, bare, due_of, is_part}
use Rattle.rfb_view.specs.Telling.{line_tells}
use Rattle.rfb_view.specs.declared.run.Run.{Run}
use Rattle.rfb_view.proofs.Reading.{cut_more, session_so_far, session_told}
use Rattle.rfb_view.proofs.Scripts.{says_line, begins_line, says_other, begins_other, log_more, text_more}
use Rattle.rfb_view.proofs.Standing.{script_stands}
use Rattle.rfb_view.proofs.Talking.{broke_on, part_is, log_kept}

outcome_so_far : (ms : ℕ) (first : Machine) (bytes : List ℕ) → outcome ms first false bytes ≡ outcome_in ms first false (cut bytes)
unfolding outcome
outcome_so_far ms first bytes = refl

pub no_parts : (ms : ℕ) (s : Session) → parts ms s [] ≡ s
unfolding parts
no_parts ms s = refl

pub prefix_of : (a b : Option (List ℕ)) (xs : List ℕ) → Appends a b xs → AppendsPrefix a b xs
prefix_of a b xs h = record { prefix = xs; rest = []; whole = append-nil xs; grows = h }

-- What was written, by the session.

writes_by : (ms : ℕ) (first : Machine) (start now : Outs) (bytes : List ℕ) (s : Option Session) → session_of ms first false (cut bytes) ≡ s → Appends start.out.held now.out.held (flat_map bytes_of (writes_in s)) →
    Appends start.log.held now.log.held (log_text (script_log first (cut bytes)) ++ flat_map lines_of (writes_in s)) → Writes ms first false start now bytes
writes_by ms first start now bytes s e out log = record {
  out = subst (λ (o : Outcome). Appends start.out.held now.out.held (output_of o)) (sym (outcome_so_far ms first bytes)) (subst (λ (t : Option Session). Appends start.out.held now.out.held (flat_map bytes_of (writes_in t))) (sym e) out);
  log = subst (λ (o : Outcome). Appends start.log.held now.log.held (log_of first o)) (sym (outcome_so_far ms first bytes))
      (subst (λ (t : Option Session). Appends start.log.held now.log.held (log_text (script_log first (cut bytes)) ++ flat_map lines_of (writes_in t))) (sym e) log);
}

pub broke_at : (ms : ℕ) (first : Machine) (start now : Outs) (bytes : List ℕ) (intake : Intake) (s : Option Session) → cut bytes ≡ intake → session_of ms first false intake ≡ s → AppendsPrefix start.out.held now.out.held (flat_map bytes_of (writes_in s)) →
    AppendsPrefix start.log.held now.log.held (log_text (script_log first intake) ++ flat_map lines_of (writes_in s)) → BrokeAt ms first false start now bytes
broke_at ms first start now bytes intake s is e out log =
    let o : outcome ms first false bytes ≡ outcome_in ms first false intake = outcome_so_far ms first bytes ∙ ap (outcome_in ms first false) is in record {
      out = subst (λ (o : Outcome). AppendsPrefix start.out.held now.out.held (output_of o)) (sym o) (subst (λ (t : Option Session). AppendsPrefix start.out.held now.out.held (flat_map bytes_of (writes_in t))) (sym e) out);
      log = subst (λ (o : Outcome). AppendsPrefix start.log.held now.log.held (log_of first o)) (sym o)
          (subst (λ (t : Option Session). AppendsPrefix start.log.held now.log.held (log_text (script_log first intake) ++ flat_map lines_of (writes_in t))) (sym e) log);
    }

pub no_session : (ms : ℕ) (first : Machine) (i : Intake) → i.begun ≡ false → session_of ms first false i ≡ None
no_session ms first i e = rw e refl

scripting_writes : (ms : ℕ) (first : Machine) (start : Outs) (is : Machine) (run : Run) (now : Outs) (bytes : List ℕ) → Scripting first start is run now (cut bytes) → Writes ms first false start now bytes
scripting_writes ms first start is run now bytes h = writes_by ms first start now bytes None (no_session ms first (cut bytes) h.script.begun) h.out (rw (append-nil (log_text (script_log first (cut bytes)))) h.log)

wrote_writes : (ms : ℕ) (first : Machine) (start : Outs) (is : Machine) (run : Run) (now : Outs) (bytes : List ℕ) (session : Session) → session_of ms first false (cut bytes) ≡ Some session → Wrote first start is run now (cut bytes) session → Writes ms first false start now bytes
wrote_writes ms first start is run now bytes session e w =
    writes_by ms first start now bytes (Some session) e (Appends-trans _ _ _ _ _ w.out w.talks.out) (Appends-trans _ _ _ _ _ w.log w.talks.log)

-- How it stands.

-- so many bytes are not too many
pub short_enough : (b : Bool) (count : ℕ) → (b ≡ false → count ≤ max_script) → count ≤ max_run → ((not b && nat_lt max_script count) || nat_lt max_run count) ≡ false
short_enough true count h k = grind (arith, nat_tests)
short_enough false count h k = let l : count ≤ max_script = h refl in grind (arith, nat_tests)

too_many : (b : Bool) (count : ℕ) → (((b ≡ false) × (max_script < count)) ⊎ (max_run < count)) → ((not b && nat_lt max_script count) || nat_lt max_run count) ≡ true
too_many b count (inl h) = rw h.0 (let l = h.1 in grind (arith, nat_tests))
too_many true count (inr h) = grind (arith, nat_tests)
too_many false count (inr h) = grind (arith, nat_tests)

-- whether the session has begun
begun_is : (begun : Bool) (fault : Option RfbBad) (first : Machine) (start : Outs) (is : Machine) (run : Run) (now : Outs) (intake : Intake) → Stands begun fault first start is run now intake → intake.begun ≡ begun
begun_is false fault first start is run now intake h = h.script.begun
begun_is true None first start is run now intake h = h.goes.begun
begun_is true (Some why) first start is run now intake h = h.begun

-- the session, as far as there is one, and its fault
data HasSession (ms : ℕ) (first : Machine) (fault : Option RfbBad) (intake : Intake) : Type 0 where
  Nothing : session_of ms first false intake ≡ None → fault ≡ None → HasSession ms first fault intake
  One : (session : Session) → session_of ms first false intake ≡ Some session → session.fault ≡ fault → HasSession ms first fault intake

session_at : (begun : Bool) (fault : Option RfbBad) (first : Machine) (start : Outs) (is : Machine) (run : Run) (now : Outs) (intake : Intake) → run.talk.fault ≡ fault → Stands begun fault first start is run now intake → HasSession run.talk.ms first fault intake
session_at false fault first start is run now intake e h = Nothing (no_session run.talk.ms first intake h.script.begun) (sym e ∙ h.fresh.fault_is)
session_at true None first start is run now intake e h = One h.session (session_so_far run.talk.ms first intake run.talk.hearing _ h.session h.goes) h.goes.goes_on
session_at true (Some why) first start is run now intake e h = One h.session h.session_is (sym h.wrote.talks.fault_is ∙ e)

stops_by : (ms : ℕ) (first : Machine) (fault : Option RfbBad) (bytes : List ℕ) → HasSession ms first fault (cut bytes) → is_too_long (outcome_in ms first false (cut bytes)) bytes ≡ false →
    stop first false bytes (outcome_in ms first false (cut bytes)) ≡ option_map Faulty fault
stops_by ms first fault bytes (Nothing none quiet) short = rw (short, none, quiet) refl
stops_by ms first None bytes (One session is e) short = rw (short, is, e) refl
stops_by ms first (Some why) bytes (One session is e) short = rw (short, is, e) refl

module _ (first : Machine) (start : Outs) (is : Machine) (run : Run) (now : Outs) (taken : List ℕ) (h : HasRead first start is run now taken) where
  -- all is written
  pub reads_write : Writes run.talk.ms first false start now taken
  reads_write = by run.begun run.talk.fault h
    where
      by : (b : Bool) (f : Option RfbBad) → Stands b f first start is run now (cut taken) → Writes run.talk.ms first false start now taken
      by false f h = scripting_writes run.talk.ms first start is run now taken h
      by true None h = wrote_writes run.talk.ms first start is run now taken h.session (session_so_far run.talk.ms first (cut taken) run.talk.hearing _ h.session h.goes) h.wrote
      by true (Some why) h = wrote_writes run.talk.ms first start is run now taken h.session h.session_is h.wrote

  begun_here : (cut taken).begun ≡ run.begun
  begun_here = begun_is run.begun run.talk.fault first start is run now (cut taken) h

  stop_here : IsShort run (length taken) → stop first false taken (outcome run.talk.ms first false taken) ≡ option_map Faulty run.talk.fault
  stop_here short =
      ap (stop first false taken) (outcome_so_far run.talk.ms first taken)
      ∙ stops_by run.talk.ms first run.talk.fault taken (session_at run.begun run.talk.fault first start is run now (cut taken) refl h)
      (short_enough (cut taken).begun (length taken) (λ e. short.script (sym begun_here ∙ e)) short.all)

  -- it goes on
  pub goes_on_here : IsShort run (length taken) → run.talk.fault ≡ None → stop first false taken (outcome run.talk.ms first false taken) ≡ None
  goes_on_here short none = stop_here short ∙ ap (option_map Faulty) none

  -- it stops at a fault
  pub stops_faulty : (why : RfbBad) → IsShort run (length taken) → run.talk.fault ≡ Some why → StopsWith run.talk.ms first false start now taken (stopped (Faulty why))
  stops_faulty why short fault = record { how = Faulty why; stop_is = stop_here short ∙ ap (option_map Faulty) fault; status_is = refl; writes = reads_write }

  -- too many bytes were taken
  pub stops_overlong : (((run.begun ≡ false) × (max_script < length taken)) ⊎ (max_run < length taken)) → StopsWith run.talk.ms first false start now taken (stopped Overlong)
  stops_overlong many = record { how = Overlong; stop_is = ap (stop first false taken) (outcome_so_far run.talk.ms first taken) ∙ over; status_is = refl; writes = reads_write }
    where
      long : is_too_long (outcome_in run.talk.ms first false (cut taken)) taken ≡ true
      long = too_many (cut taken).begun (length taken) (elim many [ inl m ↦ inl (begun_here ∙ m.0, m.1) | inr m ↦ inr m ])

      over : stop first false taken (outcome_in run.talk.ms first false (cut taken)) ≡ Some Overlong
      over = rw long refl

-- A write failed at a byte.

module _ (was : Machine) (old : Run) (before after : Outs) (byte : ℕ) where
  abbrev mid : Run
  mid = record old { cutter = pushed old.cutter byte }

  abbrev one_more : List ℕ → List ℕ
  one_more taken = taken ++ byte ∷ []

  script_broke : (first : Machine) (start : Outs) (taken : List ℕ) → Scripting first start was old before (cut taken) → CutBroke (begins (pushed old.cutter byte)) (cut_says (pushed old.cutter byte)) was mid before after → BrokeAt old.talk.ms first false start after (one_more taken)
  script_broke first start taken h d = elim (cases_Bool (is_newline byte)) [
    | inr other ↦ absurd (told false [] (begins_other old.cutter byte other) (says_other old.cutter byte other))
    | inl line ↦ elim (cases_Bool (is_rfb (without_return (cut taken).rest))) [
      | inl rfb ↦ begins_at line rfb (told true _ (begins_line old.cutter (cut taken).rest byte line h.line ∙ rfb) refl)
      | inr none ↦ line_at line none (told false (ended_says (cut taken).rest ∷ []) (begins_line old.cutter (cut taken).rest byte line h.line ∙ none) (says_line old.cutter (cut taken).rest byte line h.line))
    ]
  ]
    where
      told : (b : Bool) (says : List Said) → begins (pushed old.cutter byte) ≡ b → cut_says (pushed old.cutter byte) ≡ says → CutBroke b says was mid before after
      told b says e k = subst (λ (x : Bool). CutBroke x says was mid before after) e (subst (λ (l : List Said). CutBroke (begins (pushed old.cutter byte)) l was mid before after) k d)

      begins_at : is_newline byte ≡ true → is_rfb (without_return (cut taken).rest) ≡ true → CutBroke true (cut_says (pushed old.cutter byte)) was mid before after → BrokeAt old.talk.ms first false start after (one_more taken)
      begins_at line rfb b =
          let i = cut taken in
          let next : Intake = record i { begun = true; rest = [] } in
          let is : cut (one_more taken) ≡ next = cut_more taken byte ∙ rw (h.script.begun, line, rfb) refl in
          broke_at old.talk.ms first start after (one_more taken) next (Some (parts old.talk.ms (begun_on (scripted first next)) i.parts)) is refl
          (subst (λ (s : Session). AppendsPrefix start.out.held after.out.held (flat_map bytes_of s.writes)) (sym (ap (parts old.talk.ms (begun_on (scripted first next))) h.script.none ∙ no_parts old.talk.ms (begun_on (scripted first next))))
          (rw (append-nil version) (AppendsPrefix-behind _ _ _ _ _ h.out b.1)))
          (AppendsPrefix-append _ _ (log_text (script_log first i)) _ (prefix_of start.log.held after.log.held (log_text (script_log first i)) (rw b.0 h.log)))

      line_at : is_newline byte ≡ true → is_rfb (without_return (cut taken).rest) ≡ false → CutBroke false (ended_says (cut taken).rest ∷ []) was mid before after → BrokeAt old.talk.ms first false start after (one_more taken)
      line_at line none b =
          let i = cut taken in
          let next : Intake = record i { lines = i.lines ++ i.rest ∷ []; rest = [] } in
          let is : cut (one_more taken) ≡ next = cut_more taken byte ∙ rw (h.script.begun, line, none) refl in
          let more = log_more first i was old.number h.script.machine_is h.number next i.rest refl in
          broke_at old.talk.ms first start after (one_more taken) next None is (no_session old.talk.ms first next h.script.begun)
          (prefix_of start.out.held after.out.held [] (rw b.0 h.out))
          (rw (append-nil (log_text (script_log first next))) (subst (AppendsPrefix _ _) (sym (ap log_text more ∙ text_more (script_log first i) (line_tells was old.number (ended_says i.rest)))) (AppendsPrefix-behind _ _ _ _ _ h.log b.1)))

  pub breaks_cut : old.begun ≡ false → CutBroke (begins (pushed old.cutter byte)) (cut_says (pushed old.cutter byte)) was mid before after → BreaksOff was old before after (byte ∷ [])
  breaks_cut in_script d = record {
    read = byte ∷ [];
    unread = [];
    bytes_are = refl;
    from = λ first start taken h. script_broke first start taken (script_stands first start was old before (cut taken) in_script h) d;
  }

  talk_broke : (first : Machine) (start : Outs) (taken : List ℕ) (c : Conversing first start was old before (cut taken)) → old.talk.fault ≡ None → is_part old.talk ((cut taken).rest ++ byte ∷ []) ≡ true →
      Broke before after (part_due old.talk.ms (due_of old.talk.due) ((cut taken).rest ++ byte ∷ []) (bare was old.talk)) → BrokeAt old.talk.ms first false start after (one_more taken)
  talk_broke first start taken c none whole b =
      let i = cut taken in
      let bytes : List ℕ = i.rest ++ byte ∷ [] in
      let quiet : c.session.fault ≡ None = sym c.wrote.talks.fault_is ∙ none in
      let k = broke_on _ c.wrote.middle before after was old.talk c.session was old.talk c.wrote.talks quiet old.talk.ms bytes b in
      let next = sym (part_is _ c.wrote.middle before after was old.talk c.session was old.talk c.wrote.talks quiet old.talk.ms bytes) in
      broke_at old.talk.ms first start after (one_more taken) (takes_byte i byte) _ (cut_more taken byte) (session_told old.talk.ms first i old.talk.hearing _ c.session _ byte c.goes whole next)
      (AppendsPrefix-behind _ _ _ _ _ c.wrote.out k.out)
      (subst (λ (ts : List Told). AppendsPrefix start.log.held after.log.held (log_text ts ++ flat_map lines_of (part_due old.talk.ms c.session.due bytes c.session).writes)) (log_kept first i byte c.goes.begun) (AppendsPrefix-behind _ _ _ _ _ c.wrote.log k.log))

  pub breaks_talk : old.begun ≡ true → old.talk.fault ≡ None →
      ((heard : List ℕ) → HasHeard old.talk.hearing heard → (is_part old.talk (heard ++ byte ∷ []) ≡ true) × Broke before after (part_due old.talk.ms (due_of old.talk.due) (heard ++ byte ∷ []) (bare was old.talk))) →
      BreaksOff was old before after (byte ∷ [])
  breaks_talk in_session none d = record {
    read = byte ∷ [];
    unread = [];
    bytes_are = refl;
    from = λ first start taken h.
        let c : Conversing first start was old before (cut taken) = subst (λ (f : Option RfbBad). Stands true f first start was old before (cut taken)) none (subst (λ (b : Bool). Stands b old.talk.fault first start was old before (cut taken)) in_session h) in
        let both = d (cut taken).rest c.goes.heard in
        talk_broke first start taken c none both.0 both.1;
  }
