-- A run goes on over bytes.
use Rattle.std.proofs.Common.{◌≡◌, ◌∙◌, sym, ap, subst, refl, inl, inr, ℕ, ◌+◌, ◌≤◌, Bool, true, false, List, [], ◌∷◌, ◌++◌, length, length-append, append_assoc, Option, Some, None, Ok, Err, Result, is_some, arith}
use Rattle.std.specs.Prelude.{OnOk}
use Rattle.std.proofs.lemmas.Bool.{cases_Bool}
use Rattle.run_defs.specs.Machine.{Machine}
use Rattle.run_defs.specs.Run.{moment}
use Rattle.run_defs.specs.Script.{Said, is_newline, without_return, ended_says}
use Rattle.run_defs.proofs.Runs.{after-limits}
use Rattle.scene_script.specs.Cutting.{pushed, cut_says}
use Rattle.session_defs.specs.Parts.{Intake, cut, is_rfb, takes_byte}
use Rattle.session_defs.specs.Sessions.{unframed}
use Rattle.session_defs.specs.declared.RfbBad.{RfbBad}
use Rattle.rfb_view.specs.Cuts.{begins, CutDone}
use Rattle.rfb_view.specs.Endings.{BrokeAt}
use Rattle.rfb_view.specs.Hearing.{HasHeard}
use Rattle.rfb_view.specs.Running.{Scripting, Conversing, Failing, Stands, HasRead, HasRoom, ReadsOn, BreaksOff}
use Rattle.rfb_view.specs.Talking.{Outs, IsOver, Stays, Takes, is_part}
use Rattle.rfb_view.specs.declared.run.Run.{Run}
use Rattle.rfb_view.specs.declared.talk.Talk.{Talk}
use Rattle.rfb_view.proofs.Reading.{cut_more}
use Rattle.rfb_view.proofs.Scripts.{says_line, begins_line, says_other, begins_other}
use Rattle.rfb_view.proofs.Standing.{script_stands, goes_waiting, goes_line, goes_begins}
use Rattle.rfb_view.proofs.Talking.{goes_taking, still_fails}
use Rattle.rfb_view.proofs.Talks.{over_as}

-- What a cut line leaves as it is.

pub record Keeps (was : Machine) (old : Run) (is : Machine) (new : Run) : Type 0 where
  pub number : new.number ≤ old.number + 1
  pub hearing : new.talk.hearing ≡ old.talk.hearing
  pub ms : new.talk.ms ≡ old.talk.ms
  pub begun : new.begun ≡ false → old.begun ≡ false
  pub over : IsOver was old.talk → IsOver is new.talk

cut_keeps : (b : Bool) (says : List Said) (was : Machine) (old : Run) (before : Outs) (is : Machine) (new : Run) (after : Outs) → CutDone b says was old before is new after → Keeps was old is new
cut_keeps true says was old before is new after d = rw (d.machine, d.run) (record { number = omega arith; hearing = refl; ms = refl; begun = λ e. absurd (cc); over = λ o. over_as was was old.talk old.talk refl refl refl o.sight o })
cut_keeps false [] was old before is new after d = rw (d.machine, d.run) (record { number = omega arith; hearing = refl; ms = refl; begun = λ e. e; over = λ o. o })
cut_keeps false (said ∷ says) was old before is new after d =
    rw d.run (record {
      number = omega arith;
      hearing = refl;
      ms = refl;
      begun = λ e. e;
      over = λ o. over_as was is old.talk _ (ap (λ (m : Machine). m.scene.limits) d.machine ∙ after-limits (moment was old.number 1) (unframed said)) refl refl o.sight o;
    })

-- A byte of the script.

module _ (was : Machine) (old : Run) (before : Outs) (is : Machine) (new : Run) (after : Outs) (byte : ℕ) (in_script : old.begun ≡ false) where
  abbrev mid : Run
  mid = record old { cutter = pushed old.cutter byte }

  done_as : (b : Bool) (says : List Said) → begins (pushed old.cutter byte) ≡ b → cut_says (pushed old.cutter byte) ≡ says → CutDone (begins (pushed old.cutter byte)) (cut_says (pushed old.cutter byte)) was mid before is new after → CutDone b says was mid before is new after
  done_as b says e h d = subst (λ (x : Bool). CutDone x says was mid before is new after) e (subst (λ (l : List Said). CutDone (begins (pushed old.cutter byte)) l was mid before is new after) h d)

  goes_cut : (first : Machine) (start : Outs) (intake : Intake) → Scripting first start was old before intake → CutDone (begins (pushed old.cutter byte)) (cut_says (pushed old.cutter byte)) was mid before is new after →
      Stands new.begun new.talk.fault first start is new after (takes_byte intake byte)
  goes_cut first start intake h d = elim (cases_Bool (is_newline byte)) [
    | inr other ↦ goes_waiting first start was old before intake h in_script byte is new after other (done_as false [] (begins_other old.cutter byte other) (says_other old.cutter byte other) d)
    | inl line ↦ elim (cases_Bool (is_rfb (without_return intake.rest))) [
      | inl rfb ↦ goes_begins first start was old before intake h in_script byte is new after line rfb (done_as true _ (begins_line old.cutter intake.rest byte line h.line ∙ rfb) refl d)
      | inr none ↦ goes_line first start was old before intake h in_script byte is new after line none (done_as false (ended_says intake.rest ∷ []) (begins_line old.cutter intake.rest byte line h.line ∙ none) (says_line old.cutter intake.rest byte line h.line) d)
    ]
  ]

  pub reads_cut : IsOver was old.talk → CutDone (begins (pushed old.cutter byte)) (cut_says (pushed old.cutter byte)) was mid before is new after → ReadsOn was old before is new after (byte ∷ [])
  reads_cut over d =
      let k : Keeps was mid is new = cut_keeps _ _ was mid before is new after d in record {
        from = λ first start taken h.
            subst (Stands new.begun new.talk.fault first start is new after) (sym (cut_more taken byte))
            (goes_cut first start (cut taken) (script_stands first start was old before (cut taken) in_script h) d);
        room = λ more r. record { number = λ b. let n = r.number in_script in omega (arith, k.number, n); count = rw k.hearing (omega (arith, r.count)) };
        number = k.number;
        count = rw k.hearing (omega arith);
        ms = k.ms;
        over = k.over over;
      }

-- A byte of the session.

module _ (was : Machine) (old : Run) (before : Outs) (is : Machine) (talk : Talk) (after : Outs) (byte : ℕ) (in_session : old.begun ≡ true) (none : old.talk.fault ≡ None) where
  conversing : (first : Machine) (start : Outs) (intake : Intake) → Stands old.begun old.talk.fault first start was old before intake → Conversing first start was old before intake
  conversing first start intake h = subst (λ (f : Option RfbBad). Stands true f first start was old before intake) none (subst (λ (b : Bool). Stands b old.talk.fault first start was old before intake) in_session h)

  pub reads_talk : IsOver is talk → Stays old.talk talk → talk.hearing.count ≤ old.talk.hearing.count + 1 →
      ((heard : List ℕ) → HasHeard old.talk.hearing heard → Takes (is_part old.talk (heard ++ byte ∷ [])) (heard ++ byte ∷ []) before after was old.talk is talk) →
      ReadsOn was old before is (let new : Run = record old { talk = talk } in new) after (byte ∷ [])
  reads_talk over stays count takes = record {
    from = λ first start taken h.
        let c : Conversing first start was old before (cut taken) = conversing first start (cut taken) h in
        let new : Run = record old { talk = talk } in
        subst (Stands new.begun new.talk.fault first start is new after) (sym (cut_more taken byte))
        (subst (λ (b : Bool). Stands b talk.fault first start is new after (takes_byte (cut taken) byte)) (sym in_session)
        (goes_taking first start was old before (cut taken) c byte is talk after none (takes (cut taken).rest c.goes.heard)));
    room = λ more r. record { number = λ b. let n = r.number b in omega (arith, n); count = omega (arith, r.count, count) };
    number = omega arith;
    count = count;
    ms = stays.ms;
    over = over;
  }

-- After a fault.

pub reads_nothing : (was : Machine) (old : Run) (before : Outs) (byte : ℕ) (why : RfbBad) → old.begun ≡ true → old.talk.fault ≡ Some why → IsOver was old.talk → ReadsOn was old before was old before (byte ∷ [])
reads_nothing was old before byte why in_session fault over = record {
  from = λ first start taken h.
      let f : Failing first start was old before (cut taken) = subst (λ (f : Option RfbBad). Stands true f first start was old before (cut taken)) fault (subst (λ (b : Bool). Stands b old.talk.fault first start was old before (cut taken)) in_session h) in
      let still : Stands true (Some why) first start was old before (takes_byte (cut taken) byte) = still_fails first start was old before (cut taken) f byte why fault in
      subst (Stands old.begun old.talk.fault first start was old before) (sym (cut_more taken byte))
      (subst (λ (b : Bool). Stands b old.talk.fault first start was old before (takes_byte (cut taken) byte)) (sym in_session)
      (subst (λ (g : Option RfbBad). Stands true g first start was old before (takes_byte (cut taken) byte)) (sym fault) still));
  room = λ more r. record { number = λ b. let n = r.number b in omega (arith, n); count = omega (arith, r.count) };
  number = omega arith;
  count = omega arith;
  ms = refl;
  over = over;
}

pub some_fault : (fault : Option RfbBad) → is_some fault ≡ true → (why : RfbBad) × (fault ≡ Some why)
some_fault None e = absurd (cc)
some_fault (Some why) e = (why, refl)

pub no_fault : (fault : Option RfbBad) → is_some fault ≡ false → fault ≡ None
no_fault None e = refl
no_fault (Some why) e = absurd (cc)

-- four facts of an answer that is no failure
pub on_ok_four : {T E A B C D F : Type 0} (r : Result T E) → (A → B → C → D → F) → OnOk r A → OnOk r B → OnOk r C → OnOk r D → OnOk r F
on_ok_four (Ok x) f a b c d = f a b c d
on_ok_four (Err e) f a b c d = tt

-- Several bytes.

pub room_less : (run : Run) (room less : ℕ) → less ≤ room → HasRoom run room → HasRoom run less
room_less run room less le h = record { number = λ b. let n = h.number b in omega (arith, n, le); count = omega (arith, h.count, le) }

pub reads_more : (was mid is : Machine) (old next new : Run) (before between after : Outs) (xs ys all : List ℕ) → xs ++ ys ≡ all → ReadsOn was old before mid next between xs → ReadsOn mid next between is new after ys → ReadsOn was old before is new after all
reads_more was mid is old next new before between after xs ys all e h k = subst (ReadsOn was old before is new after) e (record {
  from = λ first start taken r. subst (HasRead first start is new after) (append_assoc taken xs ys) (k.from first start (taken ++ xs) (h.from first start taken r));
  number = omega (arith, h.number, k.number, length-append xs ys);
  count = omega (arith, h.count, k.count, length-append xs ys);
  room = λ more r. k.room more (h.room (more + length ys) (room_less old _ _ (omega (arith, length-append xs ys)) r));
  ms = k.ms ∙ h.ms;
  over = k.over;
})

pub breaks_more : (was mid : Machine) (old next : Run) (before between after : Outs) (xs ys rest all : List ℕ) → xs ++ (ys ++ rest) ≡ all → ReadsOn was old before mid next between xs → BreaksOff mid next between after ys → BreaksOff was old before after all
breaks_more was mid old next before between after xs ys rest all e h k = record {
  read = xs ++ k.read;
  unread = k.unread ++ rest;
  bytes_are = append_assoc xs k.read (k.unread ++ rest) ∙ ap (λ (l : List ℕ). xs ++ l) (sym (append_assoc k.read k.unread rest) ∙ ap (λ (l : List ℕ). l ++ rest) k.bytes_are) ∙ e;
  from = λ first start taken r.
      subst (λ (n : ℕ). BrokeAt n first false start after (taken ++ (xs ++ k.read))) h.ms
      (subst (BrokeAt next.talk.ms first false start after) (append_assoc taken xs k.read) (k.from first start (taken ++ xs) (h.from first start taken r)));
}
