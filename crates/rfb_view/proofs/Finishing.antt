-- The end of the bytes of a run.
use Rattle.std.proofs.Common.{◌≡◌, ◌∙◌, sym, ap, subst, refl, inl, inr, ℕ, ◌≤◌, ◌||◌, ◌&&◌, not, Bool, true, false, if◌then◌else◌, List, [], ◌∷◌, ◌++◌, length, map, append-nil, flat_map, Option, Some, None}
use Rattle.std.specs.List.{list_any}
use Rattle.std.specs.Io.KnownBytes.{Appends}
use Rattle.std.proofs.KnownBytes.{Appends-trans}
use Rattle.std.proofs.lemmas.Bool.{cases_Bool}
use Rattle.gui_edge.specs.Sink.{AppendsPrefix}
use Rattle.gui_edge.proofs.Prefixes.{AppendsPrefix-behind}
use Rattle.run_defs.specs.Machine.{Machine}
use Rattle.run_defs.specs.Run.{log_text, noted}
use Rattle.run_defs.specs.Script.{Said, open_says, parse}
use Rattle.scene_script.specs.Cutting.{finished, cut_says}
use Rattle.session_defs.specs.Parts.{Intake, cut, ended, is_rfb}
use Rattle.session_defs.specs.Sessions.{Session, Outcome, Faulty, outcome, outcome_in, output_of, log_of, session_of, script_says, script_tells, bytes_of, lines_of, notes_of, begun_on, unframed, version, stop, is_too_long, max_run, machine_after_script, parts, writes_in}
use Rattle.session_defs.specs.Sessions.{is_saying, is_none_left, Finished}
use Rattle.session_defs.specs.declared.RfbBad.{RfbBad}
use Rattle.session_defs.specs.declared.RfbBad.TheVariants as bad
use Rattle.rfb_view.specs.Cuts.{begins, CutDone, CutBroke}
use Rattle.rfb_view.specs.Endings.{BrokeAt, Writes, stopped, end_of, lack}
use Rattle.rfb_view.specs.Hearing.{HasHeard}
use Rattle.rfb_view.specs.Running.{Scripting, Conversing, Stands, HasRead, IsShort, StopsWith, Finishes, FinishBreaks, script_log}
use Rattle.rfb_view.specs.Talking.{Outs, due_of}
use Rattle.rfb_view.specs.Telling.{line_tells}
use Rattle.rfb_view.specs.declared.run.Run.{Run}
use Rattle.rfb_view.specs.declared.status.RfbStatus.{RfbStatus}
use Rattle.rfb_view.specs.declared.status.RfbStatus.TheVariants.{Bad}
use Rattle.rfb_view.proofs.Reading.{session_so_far}
use Rattle.rfb_view.proofs.Scripts.{line_says, says_finished, begins_finished, told_with, text_more}
use Rattle.rfb_view.proofs.Standing.{script_stands}
use Rattle.rfb_view.proofs.Stopping.{reads_write, no_parts, prefix_of, short_enough}

outcome_at_end : (ms : ℕ) (first : Machine) (bytes : List ℕ) → outcome ms first true bytes ≡ outcome_in ms first true (ended (cut bytes))
unfolding outcome
outcome_at_end ms first bytes = refl

outcome_before : (ms : ℕ) (first : Machine) (bytes : List ℕ) → outcome ms first false bytes ≡ outcome_in ms first false (cut bytes)
unfolding outcome
outcome_before ms first bytes = refl

-- In the session the end of the bytes adds nothing.

begun_outcome : (ms : ℕ) (first : Machine) (i : Intake) → i.begun ≡ true → outcome_in ms first true (ended i) ≡ outcome_in ms first false i
begun_outcome ms first i e = rw e refl

module _ (first : Machine) (start : Outs) (was : Machine) (old : Run) (before : Outs) (taken : List ℕ) (h : HasRead first start was old before taken) (in_session : old.begun ≡ true) (none : old.talk.fault ≡ None) where
  conversing : Conversing first start was old before (cut taken)
  conversing = subst (λ (f : Option RfbBad). Stands true f first start was old before (cut taken)) none (subst (λ (b : Bool). Stands b old.talk.fault first start was old before (cut taken)) in_session h)

  same : outcome old.talk.ms first true taken ≡ outcome old.talk.ms first false taken
  same = outcome_at_end old.talk.ms first taken ∙ begun_outcome old.talk.ms first (cut taken) conversing.goes.begun ∙ sym (outcome_before old.talk.ms first taken)

  stop_begun : IsShort old (length taken) → stop first true taken (outcome_in old.talk.ms first false (cut taken)) ≡ Some (end_of old.talk (cut taken).rest)
  stop_begun short =
      let c = conversing in
      let few : is_too_long (outcome_in old.talk.ms first false (cut taken)) taken ≡ false = short_enough (cut taken).begun (length taken) (λ e. absurd (let y = c.goes.begun in cc)) short.all in
      by c.session (session_so_far old.talk.ms first (cut taken) old.talk.hearing _ c.session c.goes) few c.goes.goes_on
      ∙ ap Some (ends c.session c.wrote.talks.due_is c.wrote.talks.notes_is)
    where
      by : (s : Session) → session_of old.talk.ms first false (cut taken) ≡ Some s → is_too_long (outcome_in old.talk.ms first false (cut taken)) taken ≡ false → s.fault ≡ None →
          stop first true taken (outcome_in old.talk.ms first false (cut taken)) ≡ Some (if is_saying s.due && is_none_left (cut taken).rest then Finished (noted (script_log first (cut taken)) || list_any notes_of s.writes) else Faulty bad.Cut)
      by s e few quiet = rw (few, e, quiet) refl

      ends : (s : Session) → due_of old.talk.due ≡ s.due → old.talk.noted ≡ (noted (script_log first (cut taken)) || list_any notes_of s.writes) →
          (if is_saying s.due && is_none_left (cut taken).rest then Finished (noted (script_log first (cut taken)) || list_any notes_of s.writes) else Faulty bad.Cut) ≡ end_of old.talk (cut taken).rest
      ends s d n = rw (← d, ← n) refl

  pub finished_session : (status : RfbStatus) → IsShort old (length taken) → ((heard : List ℕ) → HasHeard old.talk.hearing heard → status ≡ stopped (end_of old.talk heard)) → StopsWith old.talk.ms first true start before taken status
  finished_session status short is =
      let w = reads_write first start was old before taken h in record {
        how = end_of old.talk (cut taken).rest;
        stop_is = ap (stop first true taken) (same ∙ outcome_before old.talk.ms first taken) ∙ stop_begun short;
        status_is = is (cut taken).rest conversing.goes.heard;
        writes = record {
          out = subst (λ (o : Outcome). Appends start.out.held before.out.held (output_of o)) (sym same) w.out;
          log = subst (λ (o : Outcome). Appends start.log.held before.log.held (log_of first o)) (sym same) w.log;
        };
      }

-- In the script what is left of a line is a line.

module _ (ms : ℕ) (first : Machine) (start : Outs) (taken : List ℕ) (i next : Intake) (is : cut taken ≡ i) (ends : ended i ≡ next) where
  at_end : outcome ms first true taken ≡ outcome_in ms first true next
  at_end = outcome_at_end ms first taken ∙ ap (λ (j : Intake). outcome_in ms first true (ended j)) is ∙ ap (outcome_in ms first true) ends

  pub writes_end : (now : Outs) → Appends start.out.held now.out.held (output_of (outcome_in ms first true next)) → Appends start.log.held now.log.held (log_of first (outcome_in ms first true next)) → Writes ms first true start now taken
  writes_end now out log = record {
    out = subst (λ (o : Outcome). Appends start.out.held now.out.held (output_of o)) (sym at_end) out;
    log = subst (λ (o : Outcome). Appends start.log.held now.log.held (log_of first o)) (sym at_end) log;
  }

  pub broke_end : (now : Outs) → AppendsPrefix start.out.held now.out.held (output_of (outcome_in ms first true next)) → AppendsPrefix start.log.held now.log.held (log_of first (outcome_in ms first true next)) → BrokeAt ms first true start now taken
  broke_end now out log = record {
    out = subst (λ (o : Outcome). AppendsPrefix start.out.held now.out.held (output_of o)) (sym at_end) out;
    log = subst (λ (o : Outcome). AppendsPrefix start.log.held now.log.held (log_of first o)) (sym at_end) log;
  }

  pub stops_end : (why : RfbBad) → stop first true taken (outcome_in ms first true next) ≡ Some (Faulty why) → (now : Outs) → Writes ms first true start now taken → StopsWith ms first true start now taken (Bad why)
  stops_end why stops now writes = record { how = Faulty why; stop_is = ap (stop first true taken) at_end ∙ stops; status_is = refl; writes = writes }

module _ (was : Machine) (old : Run) (before : Outs) (in_script : old.begun ≡ false) where
  abbrev mid : Run
  mid = record old { cutter = finished old.cutter }

  module _ (first : Machine) (start : Outs) (taken : List ℕ) (h : Scripting first start was old before (cut taken)) where
    -- the line `rfb`
    abbrev begun_intake : Intake
    begun_intake = record (cut taken) { begun = true; rest = [] }

    rfb_ends : is_rfb (cut taken).rest ≡ true → ended (cut taken) ≡ begun_intake
    rfb_ends rfb = rw (h.script.begun, rfb) refl

    rfb_session : session_of old.talk.ms first true begun_intake ≡ Some (begun_on (machine_after_script first (script_says true begun_intake)))
    rfb_session = by (cut taken).parts h.script.none
      where
        by : (p : List (List ℕ)) → p ≡ [] → Some (parts old.talk.ms (begun_on (machine_after_script first (script_says true begun_intake))) p) ≡ Some (begun_on (machine_after_script first (script_says true begun_intake)))
        by p e = rw e (ap Some (no_parts old.talk.ms _))

    rfb_output : output_of (outcome_in old.talk.ms first true begun_intake) ≡ version
    rfb_output = ap (λ (s : Option Session). flat_map bytes_of (writes_in s)) rfb_session ∙ append-nil version

    rfb_log : log_of first (outcome_in old.talk.ms first true begun_intake) ≡ log_text (script_log first (cut taken))
    rfb_log = ap (λ (s : Option Session). log_text (script_log first (cut taken)) ++ flat_map lines_of (writes_in s)) rfb_session ∙ append-nil (log_text (script_log first (cut taken)))

    rfb_stops : length taken ≤ max_run → stop first true taken (outcome_in old.talk.ms first true begun_intake) ≡ Some (Faulty bad.Cut)
    rfb_stops short =
        let few : is_too_long (outcome_in old.talk.ms first true begun_intake) taken ≡ false = short_enough true (length taken) (λ e. absurd (cc)) short in
        rw (few, rfb_session) refl

    -- another line, or none
    other_ends : is_rfb (cut taken).rest ≡ false → ended (cut taken) ≡ cut taken
    other_ends other = rw (h.script.begun, other) refl

    other_output : output_of (outcome_in old.talk.ms first true (cut taken)) ≡ []
    other_output = by (cut taken).begun h.script.begun
      where
        by : (b : Bool) → b ≡ false → flat_map bytes_of (writes_in (if b then Some (parts old.talk.ms (begun_on (machine_after_script first (script_says true (cut taken)))) (cut taken).parts) else None)) ≡ []
        by b e = rw e refl

    last_log : (says : List Said) → open_says (cut taken).rest ≡ says → log_of first (outcome_in old.talk.ms first true (cut taken)) ≡ log_text (script_tells first (map line_says (cut taken).lines ++ map unframed says))
    last_log says e = by (cut taken).begun h.script.begun ∙ ap (λ (l : List Said). log_text (script_tells first (map line_says (cut taken).lines ++ map unframed l))) e
      where
        by : (b : Bool) → b ≡ false → log_text (script_tells first (map line_says (cut taken).lines ++ (if true && not b then map unframed (open_says (cut taken).rest) else []))) ++ flat_map lines_of (writes_in (if b then Some (parts old.talk.ms (begun_on (machine_after_script first (script_says true (cut taken)))) (cut taken).parts) else None))
            ≡ log_text (script_tells first (map line_says (cut taken).lines ++ map unframed (open_says (cut taken).rest)))
        by b e = rw e (append-nil _)

    none_log : open_says (cut taken).rest ≡ [] → log_of first (outcome_in old.talk.ms first true (cut taken)) ≡ log_text (script_log first (cut taken))
    none_log e = last_log [] e

    one_log : (said : Said) → open_says (cut taken).rest ≡ said ∷ [] → log_of first (outcome_in old.talk.ms first true (cut taken)) ≡ log_text (script_log first (cut taken)) ++ log_text (line_tells was old.number said)
    one_log said e =
        last_log (said ∷ []) e
        ∙ ap log_text (told_with first (cut taken) was old.number h.script.machine_is h.number said)
        ∙ text_more (script_log first (cut taken)) (line_tells was old.number said)

    other_stops : IsShort old (length taken) → stop first true taken (outcome_in old.talk.ms first true (cut taken)) ≡ Some (Faulty bad.NoSession)
    other_stops short =
        let few : is_too_long (outcome_in old.talk.ms first true (cut taken)) taken ≡ false = short_enough (cut taken).begun (length taken) (λ e. short.script in_script) short.all in
        by (cut taken).begun h.script.begun few
      where
        by : (b : Bool) → (cut taken).begun ≡ false → is_too_long (outcome_in old.talk.ms first true (cut taken)) taken ≡ false → stop first true taken (outcome_in old.talk.ms first true (cut taken)) ≡ Some (Faulty bad.NoSession)
        by b e few = rw (few, e) refl

    -- what is left says one line at most
    data Left : List Said → Type 0 where
      None_left : (open_says (cut taken).rest ≡ []) → Left []
      One_left : (said : Said) → (open_says (cut taken).rest ≡ said ∷ []) → Left (said ∷ [])

    left : (rest : List ℕ) → (cut taken).rest ≡ rest → Left (open_says rest)
    left [] e = None_left (ap open_says e)
    left (b ∷ bs) e = One_left (parse (b ∷ bs)) (ap open_says e)

  -- by what is left
  done_as : (b : Bool) (says : List Said) (is : Machine) (new : Run) (after : Outs) → begins (finished old.cutter) ≡ b → cut_says (finished old.cutter) ≡ says → CutDone (begins (finished old.cutter)) (cut_says (finished old.cutter)) was mid before is new after → CutDone b says was mid before is new after
  done_as b says is new after e h d = subst (λ (x : Bool). CutDone x says was mid before is new after) e (subst (λ (l : List Said). CutDone (begins (finished old.cutter)) l was mid before is new after) h d)

  broke_as : (b : Bool) (says : List Said) (after : Outs) → begins (finished old.cutter) ≡ b → cut_says (finished old.cutter) ≡ says → CutBroke (begins (finished old.cutter)) (cut_says (finished old.cutter)) was mid before after → CutBroke b says was mid before after
  broke_as b says after e h d = subst (λ (x : Bool). CutBroke x says was mid before after) e (subst (λ (l : List Said). CutBroke (begins (finished old.cutter)) l was mid before after) h d)

  module _ (is : Machine) (new : Run) (after : Outs) (first : Machine) (start : Outs) (taken : List ℕ) (h : Scripting first start was old before (cut taken)) (short : IsShort old (length taken)) where
    stops_rfb : is_rfb (cut taken).rest ≡ true → CutDone true (cut_says (finished old.cutter)) was mid before is new after → StopsWith old.talk.ms first true start after taken (Bad (lack new.begun))
    stops_rfb rfb d =
        let begun : new.begun ≡ true = ap (λ (r : Run). r.begun) d.run in
        subst (λ (b : Bool). StopsWith old.talk.ms first true start after taken (Bad (lack b))) (sym begun)
        (stops_end old.talk.ms first start taken (cut taken) (begun_intake first start taken h) refl (rfb_ends first start taken h rfb) bad.Cut (rfb_stops first start taken h short.all) after
        (writes_end old.talk.ms first start taken (cut taken) (begun_intake first start taken h) refl (rfb_ends first start taken h rfb) after
        (subst (Appends _ _) (sym (rfb_output first start taken h)) (Appends-trans _ _ _ _ _ h.out d.out))
        (subst (Appends _ _) (sym (rfb_log first start taken h)) (rw d.log h.log))))

    stops_other : is_rfb (cut taken).rest ≡ false → new.begun ≡ false → Writes old.talk.ms first true start after taken → StopsWith old.talk.ms first true start after taken (Bad (lack new.begun))
    stops_other other begun writes =
        subst (λ (b : Bool). StopsWith old.talk.ms first true start after taken (Bad (lack b))) (sym begun)
        (stops_end old.talk.ms first start taken (cut taken) (cut taken) refl (other_ends first start taken h other) bad.NoSession (other_stops first start taken h short) after writes)

    stops_left : (says : List Said) → Left first start taken h says → is_rfb (cut taken).rest ≡ false → CutDone false says was mid before is new after → StopsWith old.talk.ms first true start after taken (Bad (lack new.begun))
    stops_left _ (None_left e) other d =
        stops_other other (ap (λ (r : Run). r.begun) d.run ∙ in_script)
        (writes_end old.talk.ms first start taken (cut taken) (cut taken) refl (other_ends first start taken h other) after
        (subst (Appends _ _) (sym (other_output first start taken h)) (rw d.outs_are h.out))
        (subst (Appends _ _) (sym (none_log first start taken h e)) (rw d.outs_are h.log)))
    stops_left _ (One_left said e) other d =
        stops_other other (ap (λ (r : Run). r.begun) d.run ∙ in_script)
        (writes_end old.talk.ms first start taken (cut taken) (cut taken) refl (other_ends first start taken h other) after
        (subst (Appends _ _) (sym (other_output first start taken h)) (rw d.out h.out))
        (subst (Appends _ _) (sym (one_log first start taken h said e)) (Appends-trans _ _ _ _ _ h.log d.log)))

    stops_cut : CutDone (begins (finished old.cutter)) (cut_says (finished old.cutter)) was mid before is new after → StopsWith old.talk.ms first true start after taken (Bad (lack new.begun))
    stops_cut d = elim (cases_Bool (is_rfb (cut taken).rest)) [
      | inl rfb ↦ stops_rfb rfb (done_as true _ is new after (begins_finished old.cutter (cut taken).rest h.line ∙ rfb) refl d)
      | inr other ↦ stops_left (open_says (cut taken).rest) (left first start taken h (cut taken).rest refl) other
          (done_as false (open_says (cut taken).rest) is new after (begins_finished old.cutter (cut taken).rest h.line ∙ other) (says_finished old.cutter (cut taken).rest h.line) d)
    ]

  pub finishes_cut : (is : Machine) (new : Run) (after : Outs) → CutDone (begins (finished old.cutter)) (cut_says (finished old.cutter)) was mid before is new after → Finishes was old before after (Bad (lack new.begun))
  finishes_cut is new after d = record {
    from = λ first start taken r short none. stops_cut is new after first start taken (script_stands first start was old before (cut taken) in_script r) short d;
  }

  module _ (after : Outs) (first : Machine) (start : Outs) (taken : List ℕ) (h : Scripting first start was old before (cut taken)) where
    broke_left : (says : List Said) → Left first start taken h says → is_rfb (cut taken).rest ≡ false → CutBroke false says was mid before after → BrokeAt old.talk.ms first true start after taken
    broke_left _ (None_left e) other d = absurd d
    broke_left _ (One_left said e) other d =
        broke_end old.talk.ms first start taken (cut taken) (cut taken) refl (other_ends first start taken h other) after
        (subst (AppendsPrefix _ _) (sym (other_output first start taken h)) (prefix_of start.out.held after.out.held [] (rw d.0 h.out)))
        (subst (AppendsPrefix _ _) (sym (one_log first start taken h said e)) (AppendsPrefix-behind _ _ _ _ _ h.log d.1))

    broke_cut : CutBroke (begins (finished old.cutter)) (cut_says (finished old.cutter)) was mid before after → BrokeAt old.talk.ms first true start after taken
    broke_cut d = elim (cases_Bool (is_rfb (cut taken).rest)) [
      | inl rfb ↦
          let b = broke_as true _ after (begins_finished old.cutter (cut taken).rest h.line ∙ rfb) refl d in
          broke_end old.talk.ms first start taken (cut taken) (begun_intake first start taken h) refl (rfb_ends first start taken h rfb) after
          (subst (AppendsPrefix _ _) (sym (rfb_output first start taken h)) (AppendsPrefix-behind _ _ _ _ _ h.out b.1))
          (subst (AppendsPrefix _ _) (sym (rfb_log first start taken h)) (prefix_of start.log.held after.log.held (log_text (script_log first (cut taken))) (rw b.0 h.log)))
      | inr other ↦ broke_left (open_says (cut taken).rest) (left first start taken h (cut taken).rest refl) other
          (broke_as false (open_says (cut taken).rest) after (begins_finished old.cutter (cut taken).rest h.line ∙ other) (says_finished old.cutter (cut taken).rest h.line) d)
    ]

  pub breaks_at_end : (after : Outs) → CutBroke (begins (finished old.cutter)) (cut_says (finished old.cutter)) was mid before after → FinishBreaks was old before after
  breaks_at_end after d = record {
    from = λ first start taken r. broke_cut after first start taken (script_stands first start was old before (cut taken) in_script r) d;
  }

-- In the session.
pub finishes_session : (was : Machine) (old : Run) (before : Outs) (status : RfbStatus) → old.begun ≡ true → ((heard : List ℕ) → HasHeard old.talk.hearing heard → status ≡ stopped (end_of old.talk heard)) → Finishes was old before before status
finishes_session was old before status in_session is = record {
  from = λ first start taken r short none. finished_session first start was old before taken r in_session none status short is;
}
