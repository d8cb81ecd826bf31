-- How a run goes on over a line.
use Rattle.std.proofs.Common.{◌≡◌, ◌∙◌, sym, ap, subst, ℕ, ◌+◌, ◌≤◌, ◌⊎◌, ◌||◌, Bool, List, [], ◌∷◌, ◌++◌, length, length-append, append_assoc, append-nil, arith, rules, refl, inl, inr, Option}
use Rattle.std.specs.Prelude.{IfSome, Some, None}
use Rattle.std.specs.Prelude.{Ok, Err}
use Rattle.std.specs.Option.{ForSome, option_to_list, option_map}
use Rattle.std.proofs.lemmas.List.Folds.{list_any-append}
use Rattle.scene_defs.specs.Scene.{Scene}
use Rattle.gui_base.specs.Limits.{Bounds}
use Rattle.gui_color.specs.Buffer.{Buffer}
use Rattle.run_defs.specs.declared.Line.TheVariants.{Blank, Frame, Pump, Make}
use Rattle.run_defs.specs.declared.Outcome.{Outcome}
use Rattle.run_defs.specs.declared.Outcome.TheVariants.{Frame as OfFrame, Pump as OfPump}
use Rattle.run_defs.specs.Machine.{Machine}
use Rattle.run_defs.specs.Script.{Said}
use Rattle.run_defs.specs.Run.{Moment, moment, first_moment, Entry, entry, entries, after, after_all, outcome_count, Fits, ShowsScene, Told, told, notes, noted, frames_asked, machine_after}
use Rattle.run_defs.proofs.Runs.{entries-append, after_all-append, after-limits, after_all-limits, after_all-frame, outcome_count_more, told_more, fits-length, fits-append}
use Rattle.gui_edge.specs.Panel.{HasSizes}
use Rattle.gui_damage.specs.Pending.{Pending}
use Rattle.gui_refresh.specs.Owing.{standing_of, flight_of}
use Rattle.gui_refresh.specs.Stages.{Refreshing, Stage, stage}
use Rattle.gui_play.specs.Panels.{AgreesWith, CanSend}
use Rattle.run_laws.specs.Accounts.{LineCounts}
use Rattle.run_defs.specs.Owing.{slice_limit}
use Rattle.run_laws.specs.Pumping.{LineFlies}
use Rattle.scene_run.specs.Counting.{frames_in}
use Rattle.scene_run.specs.Effects.{Output, Effects, LineBreaks, WriteFailed, Halted, PumpsAsAllowed, GrewBy}
use Rattle.scene_run.specs.Running.{Running, stage_at, IsReady, Answered, GoesOn, Halts}
use Rattle.scene_run.proofs.Effects.{Effects-more, break_cause}
use Rattle.scene_run.proofs.Owing.{accounted_line, flown_line, sends_as_owed, pumps_as_allowed, pumps_before}

-- a panel with the sizes of this moment has those of the first one, since no line changes the limits
pub first_sizes : (first : Machine) (start new : Output) (now : Running) (lines : List Said) → Answered first start now lines → HasSizes new.panel now.moment.machine.scene.limits → HasSizes new.panel first.scene.limits
first_sizes first start new now lines h sizes = subst (HasSizes new.panel) (ap (λ (m : Moment). m.machine.scene.limits) h.moment ∙ after_all-limits (first_moment first) lines) sizes

-- what may be sent goes by the limits of a scene alone
pub can_send_on : (now : Stage) (a b : Scene) → a.limits ≡ b.limits → CanSend now a → CanSend now b
can_send_on now a b same can = record {
  sizes = subst (HasSizes now.panel) same can.sizes;
  started = can.started;
  coming = subst (λ (l : Bounds). ForSome now.panel.coming (λ (buf : Buffer). buf.limit ≡ slice_limit l)) same can.coming;
}

-- the outcomes of some lines and then of one more
pub fits_more : (first : Machine) (before : List Said) (now : Moment) (said : Said) (o x : List Outcome) → now ≡ after_all (first_moment first) before → Fits (entries (first_moment first) before) o → Fits (entry now said ∷ []) x →
    Fits (entries (first_moment first) (before ++ said ∷ [])) (o ++ x)
fits_more first before now said o x is h k =
    subst (λ (es : List Entry). Fits es (o ++ x)) (sym (entries-append (first_moment first) before (said ∷ [])))
    (fits-append (entries (first_moment first) before) (entry (after_all (first_moment first) before) said ∷ []) o x h (subst (λ (m : Moment). Fits (entry m said ∷ []) x) is k))

-- an outcome that fits a line is that of a frame where the line asks for one
pub frames_fit : (now : Moment) (said : Said) (outcome : Option Outcome) → Fits (entry now said ∷ []) (option_to_list outcome) → frames_in outcome ≡ frames_asked said
frames_fit now (Ok Blank) None h = refl
frames_fit now (Ok Blank) (Some x) h = cc
frames_fit now (Ok Frame) None h = cc
frames_fit now (Ok Frame) (Some (OfFrame end)) h = refl
frames_fit now (Ok Frame) (Some (OfPump answer)) h = cc
frames_fit now (Ok Pump) None h = refl
frames_fit now (Ok Pump) (Some (OfFrame end)) h = cc
frames_fit now (Ok Pump) (Some (OfPump answer)) h = refl
frames_fit now (Ok (Make command)) None h = refl
frames_fit now (Ok (Make command)) (Some x) h = cc
frames_fit now (Err fault) None h = refl
frames_fit now (Err fault) (Some x) h = cc

pub ready_less : (now : Running) (room less : ℕ) → less ≤ room → IsReady now room → IsReady now less
ready_less now room less le h = search rules

pub goes_on_none : (now : Running) → GoesOn now now []
goes_on_none now = record { from = λ first start before h. rw (append-nil before) h; ready = λ room h. search rules }

-- what is kept of notes goes on over the notes of a line
pub noted_more : (old new : Option Bool) (n : Bool) (ts us all : List Told) → all ≡ ts ++ us → n ≡ noted us → new ≡ option_map (λ m. m || n) old → IfSome old (λ m. m ≡ noted ts) → IfSome new (λ m. m ≡ noted all)
noted_more None new n ts us all more one is h = rw is tt
noted_more (Some m) new n ts us all more one is h =
    rw is (ap (λ (k : Bool). k || n) h ∙ (ap (λ (k : Bool). noted ts || k) one ∙ (sym (list_any-append notes ts us) ∙ ap noted (sym more))))

unfoldable pub goes_on_one : (old new : Running) (said : Said) (outcome : Option Outcome) (n : Bool) →
    ((seen : Option Scene) → IfSome seen (ShowsScene old.output.panel.shows) → Effects old.output new.output seen (told (entry old.moment said ∷ []) (option_to_list outcome))) →
    Fits (entry old.moment said ∷ []) (option_to_list outcome) → n ≡ noted (told (entry old.moment said ∷ []) (option_to_list outcome)) → new.moment.machine ≡ machine_after old.moment.machine said →
    new.moment.number ≡ old.moment.number + 1 → new.moment.frame ≡ old.moment.frame + frames_in outcome → new.noted ≡ option_map (λ m. m || n) old.noted → CanSend (stage_at new) old.moment.machine.scene →
    AgreesWith (stage_at new) new.moment.machine.scene →
    LineCounts old.moment.machine.scene.limits old.moment.machine said (option_to_list outcome) (standing_of (stage_at old)) (standing_of (stage_at new)) →
    LineFlies old.moment.machine said (option_to_list outcome) (flight_of (stage_at old)) (flight_of (stage_at new)) → GoesOn old new (said ∷ [])
goes_on_one old new said outcome n effects fits notes_are machine number frame noted_is can agrees counts flies = record {
  from = λ first start before h.
      let now = first_moment first in
      let o = h.answers.outcomes in
      let x = option_to_list outcome in
      let ts = told (entries now before) o in
      let each = fits-length (entries now before) o h.answers.fits in
      let more = told_more now old.moment before (said ∷ []) o x h.moment each in
      let all = fits_more first before old.moment said o x h.moment h.answers.fits fits in
      let many = fits-length (entries now (before ++ said ∷ [])) (o ++ x) all in
      let account = accounted_line first _ before o old.moment said x _ _ h.moment each counts h.accounted in
      let flown = flown_line first _ before o old.moment said x _ _ h.moment each flies h.flown in
      record {
        answers = record {
          outcomes = o ++ x;
          fits = all;
          effects = subst (Effects start new.output None) (sym more) (Effects-more start old.output new.output None ts _ h.answers.effects (effects _ h.answers.effects.panel.shown));
          slices = first_sizes first start new.output old before h can.sizes;
          owed = sends_as_owed first start.panel (stage_at new) (before ++ said ∷ []) (o ++ x) (omega (arith, many)) account;
          pumps = pumps_as_allowed first start.panel (stage_at new) (before ++ said ∷ []) (o ++ x) many flown;
        };
        moment = next ∙ (ap (λ (m : Moment). after m said) h.moment ∙ sym (after_all-append now before (said ∷ [])));
        noted_is = noted_more old.noted new.noted n ts _ _ more notes_are noted_is h.noted_is;
        accounted = account;
        flown = flown;
      };
  ready = λ room h. record {
    can = can_send_on (stage_at new) _ _ (sym (ap (λ (m : Machine). m.scene.limits) machine ∙ after-limits old.moment said)) can;
    agrees = agrees;
    number = omega (arith, h.number);
    frame = omega (arith, after_all-frame old.moment (said ∷ []), frames, h.frame);
  };
} where
  frames : frames_in outcome ≡ frames_asked said
  frames = frames_fit old.moment said outcome fits

  next : moment new.moment.machine new.moment.number new.moment.frame ≡ after old.moment said
  next = rw (machine, number, frame, frames) refl

-- the outcomes at a line where a write failed are not more than are asked for
last_few : (e : Entry) (last : List Outcome) → ((last ≡ []) ⊎ Fits (e ∷ []) last) → length last ≤ outcome_count (e ∷ [])
last_few e last (inl none) = rw none (omega arith)
last_few e last (inr fits) = omega (arith, fits-length (e ∷ []) last fits)

pub halts_at : (old : Running) (new : Output) (refresher : Refreshing) (pending : Pending) (said : Said) →
    LineBreaks old.moment.machine old.moment.number old.moment.frame said old.output new (stage_at old) (stage refresher new.panel pending) →
    HasSizes new.panel old.moment.machine.scene.limits → Halts old new (said ∷ [])
halts_at old new refresher pending said broke sizes = record {
  from = λ first start before h.
      let at = stage refresher new.panel pending in
      let now = after_all (first_moment first) before in
      let there : LineBreaks now.machine now.number now.frame said old.output new (stage_at old) at = subst (λ (m : Moment). LineBreaks m.machine m.number m.frame said old.output new (stage_at old) at) h.moment broke in
      let o = h.answers.outcomes in
      let each = fits-length (entries (first_moment first) before) o h.answers.fits in
      let account = accounted_line first _ before o now said there.breaks.last _ _ refl each there.counts h.accounted in
      let many = outcome_count_more (first_moment first) now before (said ∷ []) refl in
      record {
        answered = before;
        said = said;
        unreached = [];
        lines_are = refl;
        between = old.output;
        answers = h.answers;
        breaks = there.breaks;
        slices = first_sizes first start new old before h sizes;
        owed = sends_as_owed first start.panel at (before ++ said ∷ []) (o ++ there.breaks.last) (omega (arith, length-append o there.breaks.last, each, last_few _ _ there.breaks.one, many)) account;
        pumps = pumps_at first start before h at there.breaks.last there.flies;
      };
} where
  pumps_at : (first : Machine) (start : Output) (before : List Said) (h : Answered first start old before) (at : Stage) (last : List Outcome) →
      ((Fits (entry (after_all (first_moment first) before) said ∷ []) last × LineFlies (after_all (first_moment first) before).machine said last (flight_of (stage_at old)) (flight_of at))
      ⊎ ((last ≡ []) × GrewBy old.output.panel at.panel)) → PumpsAsAllowed first start.panel at.panel (before ++ said ∷ []) (h.answers.outcomes ++ last)
  pumps_at first start before h at last (inl went) =
      let o = h.answers.outcomes in
      let now = after_all (first_moment first) before in
      let all = fits_more first before now said o last refl h.answers.fits went.0 in
      let flown = flown_line first _ before o now said last _ _ refl (fits-length (entries (first_moment first) before) o h.answers.fits) went.1 h.flown in
      pumps_as_allowed first start.panel at (before ++ said ∷ []) (o ++ last) (fits-length (entries (first_moment first) (before ++ said ∷ [])) (o ++ last) all) flown
  pumps_at first start before h at last (inr none) =
      let o = h.answers.outcomes in
      let same = sym (append-nil o) ∙ ap (λ (x : List Outcome). o ++ x) (sym none.0) in
      subst (λ (x : List Outcome). PumpsAsAllowed first start.panel at.panel (before ++ said ∷ []) x) same
      (pumps_before first start.panel at.panel (stage_at old) before said o (fits-length (entries (first_moment first) before) o h.answers.fits) none.1 h.flown)

-- more lines, which were not reached, change nothing of it
pub halted_on : (first : Machine) (start now : Output) (lines more all : List Said) → all ≡ lines ++ more → Halted first start now lines → Halted first start now all
halted_on first start now lines more all e h = record {
  answered = h.answered;
  said = h.said;
  unreached = h.unreached ++ more;
  lines_are = sym (append_assoc h.answered (h.said ∷ h.unreached) more) ∙ (ap (λ (t : List Said). t ++ more) h.lines_are ∙ sym e);
  between = h.between;
  answers = h.answers;
  breaks = h.breaks;
  slices = h.slices;
  owed = h.owed;
  pumps = h.pumps;
}

-- the count of failed writes rose since the start
pub halted_cause : (first : Machine) (start now : Output) (lines : List Said) → Halted first start now lines → WriteFailed start now
halted_cause first start now lines h = rose start h.between now h.answers.effects.log_faults h.answers.effects.panel.keeps.present_faults
    (break_cause h.between now _ h.breaks.last h.breaks.cause) where
      rose : (a b c : Output) → a.log.faults ≤ b.log.faults → a.panel.present_faults ≤ b.panel.present_faults → WriteFailed b c → WriteFailed a c
      rose a b c log panel (inl e) = inl (omega arith)
      rose a b c log panel (inr e) = inr (omega arith)
