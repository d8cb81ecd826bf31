-- A run that nothing fails comes to its end.
use Rattle.std.proofs.Common.{◌≡◌, ◌∙◌, ◌≤◌, ◌+◌, ap, sym, refl, ℕ, zero, suc, Bool, true, false, cond, ◌||◌, Option, Some, None, List, [], ◌∷◌, length, length-append, map, replicate, arith, inl, inr}
use Rattle.std.specs.Prelude.{nat_lt, if◌then◌else◌}
use Rattle.std.specs.List.{list_any}
use Rattle.std.specs.Io.KnownBytes.{Consumes, IsAtEnd}
use Rattle.std.proofs.KnownBytes.{Consumes-whole}
use Rattle.std.proofs.lemmas.List.Sums.{sum_by-cons}
use Rattle.run_defs.specs.declared.Outcome.{Outcome}
use Rattle.owed_defs.specs.declared.Pumped.TheVariants.{Idle, Moved, Waiting, Fault as PumpFault}
use Rattle.run_defs.specs.declared.FrameEnd.TheVariants.{Done as FrameDone, Fault as FrameFault}
use Rattle.run_defs.specs.declared.Outcome.TheVariants.{Frame as OfFrame, Pump as OfPump}
use Rattle.run_defs.specs.Machine.{Machine, first_machine}
use Rattle.run_defs.specs.Made.{made_says}
use Rattle.run_defs.specs.Run.{Entry, Silent, Replies, Frames, Pumps, Told, Replied, Framed, Pumped, first_moment, entries, FrameKind, kind_of, Fits, told, fault_count, is_fault, noted}
use Rattle.run_defs.specs.Script.{Said, Whole, says}
use Rattle.run_defs.specs.Step.{is_noted}
use Rattle.run_defs.proofs.MadeFrames.{made_frames}
use Rattle.run_defs.proofs.Runs.{fits_rest}
use Rattle.scene_run.specs.Effects.{Output, Answers, WriteFailed}
use Rattle.scene_run.specs.Headline.{Outside, AnswersScript, RunsAs}
use Rattle.scene_run.specs.Laws.{NothingFailed, ScriptFits, is_failed, all_done, told_done, some_refused, CompletesScript, CompletesMade, Completes, RunsAreComplete}
use Rattle.scene_run.specs.Making.{AnswersMade, panel_alone, refused_count}
use Rattle.scene_run.specs.declared.status.Status.{Status}
use Rattle.scene_run.specs.declared.status.Status.TheVariants.{Done, Noted, Usage, ReadFault, WriteFault, PanelFault, NoMemory, TooLong}

fault_count-cons : (t : Told) (ts : List Told) → fault_count (t ∷ ts) ≡ cond (is_fault t) 1 0 + fault_count ts
fault_count-cons t ts = sum_by-cons (λ (t : Told). cond (is_fault t) 1 0) t ts

-- where none of the frames and pumps that are told faulted, none of their outcomes failed
none_failed : (es : List Entry) (o : List Outcome) → Fits es o → fault_count (told es o) ≡ 0 → list_any is_failed o ≡ false
none_failed [] [] fits none = refl
none_failed [] (x ∷ o) fits none = cc
none_failed (Silent ∷ es) o fits none = none_failed es o fits none
none_failed (Replies n lines reply ∷ es) o fits none = none_failed es o fits (omega (arith, fault_count-cons (Replied n lines reply) (told es o)))
none_failed (Frames n k scene ∷ es) [] fits none = cc
none_failed (Frames n k scene ∷ es) (OfFrame FrameDone ∷ o) fits none = none_failed es o (fits_rest _ _ _ _ fits) (omega (arith, fault_count-cons (Framed n k scene FrameDone) (told es o)))
none_failed (Frames n k scene ∷ es) (OfFrame FrameFault ∷ o) fits none = absurd (omega (arith, fault_count-cons (Framed n k scene FrameFault) (told es o)))
none_failed (Frames n k scene ∷ es) (OfPump answer ∷ o) fits none = cc
none_failed (Pumps n ∷ es) [] fits none = cc
none_failed (Pumps n ∷ es) (OfFrame end ∷ o) fits none = cc
none_failed (Pumps n ∷ es) (OfPump Idle ∷ o) fits none = none_failed es o (fits_rest _ _ _ _ fits) (omega (arith, fault_count-cons (Pumped n Idle) (told es o)))
none_failed (Pumps n ∷ es) (OfPump Moved ∷ o) fits none = none_failed es o (fits_rest _ _ _ _ fits) (omega (arith, fault_count-cons (Pumped n Moved) (told es o)))
none_failed (Pumps n ∷ es) (OfPump Waiting ∷ o) fits none = none_failed es o (fits_rest _ _ _ _ fits) (omega (arith, fault_count-cons (Pumped n Waiting) (told es o)))
none_failed (Pumps n ∷ es) (OfPump PumpFault ∷ o) fits none = absurd (omega (arith, fault_count-cons (Pumped n PumpFault) (told es o)))

-- frames of which none failed are all done
frames_done : (n : ℕ) (o : List Outcome) → map kind_of o ≡ replicate n FrameKind → list_any is_failed o ≡ false → o ≡ replicate n (OfFrame FrameDone)
frames_done zero [] kinds well = refl
frames_done zero (x ∷ o) kinds well = cc
frames_done (suc n) [] kinds well = cc
frames_done (suc n) (OfFrame FrameDone ∷ o) kinds well = ap (λ (os : List Outcome). OfFrame FrameDone ∷ os) (frames_done n o (fits_rest _ _ _ _ kinds) well)
frames_done (suc n) (OfFrame FrameFault ∷ o) kinds well = cc
frames_done (suc n) (OfPump answer ∷ o) kinds well = cc

-- then only replies are noted
refused_alone : (ts : List Told) → fault_count ts ≡ 0 → noted ts ≡ some_refused ts
refused_alone [] none = refl
refused_alone (Replied n lines reply ∷ ts) none = ap (λ (b : Bool). is_noted reply || b) (refused_alone ts (omega (arith, fault_count-cons (Replied n lines reply) ts)))
refused_alone (Framed n k scene FrameDone ∷ ts) none = refused_alone ts (omega (arith, fault_count-cons (Framed n k scene FrameDone) ts))
refused_alone (Framed n k scene FrameFault ∷ ts) none = absurd (omega (arith, fault_count-cons (Framed n k scene FrameFault) ts))
refused_alone (Pumped n answer ∷ ts) none = refused_alone ts (omega (arith, fault_count-cons (Pumped n answer) ts))

-- where no start and no transfer failed, no line that was answered faulted
none_told : (first : Machine) (old new : Output) (lines : List Said) (h : Answers first old new lines) → new.panel.flush_faults ≤ old.panel.flush_faults → fault_count (told (entries (first_moment first) lines) h.outcomes) ≡ 0
none_told first old new lines h few = omega (arith, h.effects.panel.faults)

nothing_left : (bytes taken : List ℕ) (left : Option (List ℕ)) → Consumes (Some bytes) left taken → IsAtEnd left → left ≡ Some []
nothing_left bytes taken None h end = absurd h
nothing_left bytes taken (Some ys) h end = ap (λ (xs : List ℕ). Some xs) end

script_completes : (first : Machine) (bytes taken : List ℕ) (old new : Outside) (status : Status) (notes : Bool) → old.source.left ≡ Some bytes → NothingFailed old new → Consumes old.source.left new.source.left taken →
    AnswersScript first old new taken notes → status ≡ (if notes then Noted else Done) → CompletesScript first bytes old new status
script_completes first bytes taken old new status notes told_bytes nothing consumes h is =
    let source = rw told_bytes at consumes in
    let same : taken ≡ bytes = Consumes-whole (Some bytes) new.source.left taken (λ (xs : List ℕ). taken ≡ xs) source h.end refl in
    let es = entries (first_moment first) (says Whole taken) in
    let none = none_told first old.output new.output (says Whole taken) h.answers nothing.flushes in
    rw (← same) (record {
      read = nothing_left bytes taken new.source.left source h.end;
      outcomes = h.answers.outcomes;
      fits = h.answers.fits;
      well = none_failed es h.answers.outcomes h.answers.fits none;
      effects = h.answers.effects;
      status_is = is ∙ ap (λ (b : Bool). if b then Noted else Done) (sym h.notes_is ∙ refused_alone (told es h.answers.outcomes) none);
    })

or_false : (b : Bool) → (b || false) ≡ b
or_false true = refl
or_false false = refl

made_completes : (k : ℕ) (first : Machine) (old new : Output) (status : Status) (notes : Bool) → new.panel.flush_faults ≤ old.panel.flush_faults → AnswersMade k first old new notes → status ≡ (if notes then Noted else Done) →
    CompletesMade k first old new status
made_completes k first old new status notes few h is =
    let lines = made_says k first.scene.limits in
    let es = entries (first_moment first) lines in
    let o = h.answers.outcomes in
    let none = none_told first (panel_alone old.panel) (panel_alone new.panel) lines h.answers few in
    let done : o ≡ all_done = frames_done 11 o (h.answers.fits ∙ made_frames k first.scene.limits (first_moment first)) (none_failed es o h.answers.fits none) in
    let zero_faults = rw done at none in
    let notes_is = rw done at h.notes_is in
    record {
      panel = rw done at h.answers.effects.panel;
      log = rw done at h.log;
      status_is = is ∙ ap (λ (b : Bool). if b then Noted else Done) (sym notes_is ∙ rw zero_faults (or_false (nat_lt 0 (refused_count (told_done first lines)))));
    }

-- what ended by itself is complete
ended_well : (make : Option ℕ) (left : Option (List ℕ)) (first : Machine) (old new : Outside) (notes : Bool) → old.source.left ≡ left → RunsAs make first old new (if notes then Noted else Done) → NothingFailed old new → ScriptFits make left →
    Completes make first left old new (if notes then Noted else Done)
ended_well (Some k) left first old new true e runs nothing fits = made_completes k first old.output new.output Noted true nothing.flushes runs.ended refl
ended_well (Some k) left first old new false e runs nothing fits = made_completes k first old.output new.output Done false nothing.flushes runs.ended refl
ended_well None None first old new notes e runs nothing fits = absurd fits
ended_well None (Some bytes) first old new true e runs nothing fits = script_completes first bytes runs.taken old new Noted true e nothing runs.source runs.ended refl
ended_well None (Some bytes) first old new false e runs nothing fits = script_completes first bytes runs.taken old new Done false e nothing runs.source runs.ended refl

taken_few : (bytes taken : List ℕ) (left : Option (List ℕ)) → Consumes (Some bytes) left taken → length taken ≤ length bytes
taken_few bytes taken None h = absurd h
taken_few bytes taken (Some ys) h = omega (arith, ap length h, length-append taken ys)

-- a script that fits is not too long
not_long : (make : Option ℕ) (left : Option (List ℕ)) (first : Machine) (old new : Outside) → old.source.left ≡ left → RunsAs make first old new TooLong → ScriptFits make left → ⊥
not_long (Some k) left first old new e runs fits = runs.ended
not_long None None first old new e runs fits = fits
not_long None (Some bytes) first old new e runs fits = omega (arith, runs.ended.0, taken_few bytes runs.taken new.source.left (rw e at runs.source), fits)

nothing_broke : (old new : Outside) → NothingFailed old new → WriteFailed old.output new.output → ⊥
nothing_broke old new nothing (inl rose) = nothing.puts rose
nothing_broke old new nothing (inr rose) = nothing.presents rose

pub runs_complete : RunsAreComplete
runs_complete limits old new Done runs nothing fits = inr (ended_well limits.make old.source.left (first_machine limits) old new false refl runs.headline nothing fits)
runs_complete limits old new Noted runs nothing fits = inr (ended_well limits.make old.source.left (first_machine limits) old new true refl runs.headline nothing fits)
runs_complete limits old new Usage runs nothing fits = let e : Some limits ≡ None = runs.usage refl in cc
runs_complete limits old new ReadFault runs nothing fits = absurd (nothing.reads (runs.read_fault refl))
runs_complete limits old new WriteFault runs nothing fits = absurd (nothing_broke old new nothing (runs.write_fault refl))
runs_complete limits old new PanelFault runs nothing fits = absurd (omega (arith, runs.panel_fault refl, nothing.flushes))
runs_complete limits old new NoMemory runs nothing fits = inl refl
runs_complete limits old new TooLong runs nothing fits = absurd (not_long limits.make old.source.left (first_machine limits) old new refl runs.headline fits)
