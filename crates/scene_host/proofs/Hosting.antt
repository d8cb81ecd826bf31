-- How a script was read and heard so far, and how that ends.
use Rattle.std.proofs.Common.{◌≡◌, ◌∙◌, sym, ap, subst, ℕ, ◌+◌, ◌-◌, ◌≤◌, ◌<◌, min, Bool, true, if◌then◌else◌, false, List, [], ◌∷◌, ◌++◌, length, length-append, length-take, take, drop, take-append-drop, append_assoc, append-nil, arith, refl, inl, inr, Some}
use Rattle.std.proofs.lemmas.List.{places, same_lists, take_all}
use Rattle.std.specs.Io.KnownBytes.{Consumes, IsAtEnd, Keeps}
use Rattle.gui_core.specs.Machines.{machine_of, pending_in, refresher_in, stage_of}
use Rattle.gui_edge.specs.Panel.{PanelState}
use Rattle.gui_edge.specs.Sink.{SinkState}
use Rattle.gui_edge.specs.Source.{SourceState}
use Rattle.gui_play.specs.Panels.{CanSend}
use Rattle.run_defs.specs.Machine.{Machine}
use Rattle.run_defs.specs.Script.{max_script}
use Rattle.scene_run.proofs.Bytes.{reads_none, stops_more}
use Rattle.scene_defs.specs.Place.{panel_of}
use Rattle.scene_run.proofs.Gone.{gone_start, runs_unread, runs_whole, runs_broken_last, gone_more, runs_long, runs_broken}
use Rattle.scene_run.specs.Effects.{Output, SinceOpening}
use Rattle.scene_run.specs.Headline.{Outside, outside}
use Rattle.scene_run.specs.Running.{Running, Reading, IsStill, reading, Reads, Ends, StopsAtEnd}
use Rattle.scene_run.specs.declared.runner.Runner.{Runner}
use Rattle.scene_run.specs.declared.status.Status.{Status}
use Rattle.scene_run.specs.declared.status.Status.TheVariants.{Done, Noted, ReadFault, WriteFault, TooLong}
use Rattle.scene_script.specs.Cutting.{HasTaken}
use Rattle.scene_host.proofs.Hearing.{answered_none}
use Rattle.scene_host.specs.Answering.{Answering, answering, HasHeard}
use Rattle.scene_host.specs.declared.asker.Asker.{Asker}
use Rattle.scene_host.specs.Asked.{Heard, RunsAsked, Hears, StopsHearing, HasGone}

abbrev at : SourceState → Output → Outside
at source output = record { source = source; output = output }

-- the bytes that there is room for are those within the longest script
within_longest : (taken buffer : List ℕ) (count room most : ℕ) → length taken + room ≡ most → taken ++ take (min count room) buffer ≡ take most (taken ++ take count buffer)
within_longest taken buffer count room most is = same_lists _ _ (grind (arith, places)) (λ i d lt. grind (arith, places))

within_count : (buffer : List ℕ) (count room : ℕ) → take (min count room) buffer ≡ take (min count room) (take count buffer)
within_count buffer count room = same_lists _ _ (grind (arith, places)) (λ i d lt. grind (arith, places))

module _ (first : Machine) (old : Outside) (start : SinkState) (mid source : SourceState) (a : Reading) (x : Answering) (room : ℕ) (h : HasGone first old start mid a x room) where
  heard_all : (new : Outside) (status : Status) → Heard first old new start x.answers x.answered h.gone.taken status
  heard_all new status = record {
    bytes = h.gone.taken;
    rest = [];
    split = append-nil h.gone.taken;
    all = λ e. sym (take_all max_script h.gone.taken (omega (arith, h.gone.many)));
    halted = λ e. inl refl;
    pendings = h.heard.pendings;
    pending = h.heard.pending;
    answers = h.heard.answered;
  }

  -- a read failed
  pub asked_unread : Keeps mid.left source.left → RunsAsked first old (at source a.run.output) start x.answers x.answered ReadFault
  unfolding runs_unread
  asked_unread keeps = record { runs = runs_unread first old mid source a room h.gone keeps; heard = heard_all (at source a.run.output) ReadFault }

  -- nothing more was read
  module _ (consumes : Consumes mid.left source.left []) (end : IsAtEnd source.left) where
    pub asked_whole : (b : Running) (noted : Bool) → Ends a b → b.noted ≡ Some noted → RunsAsked first old (at source b.output) start x.answers x.answered (if noted then Noted else Done)
    unfolding runs_whole
    asked_whole b noted ends is = record {
      runs = runs_whole first old mid source a room h.gone consumes end b noted ends is;
      heard = heard_all (at source b.output) (if noted then Noted else Done);
    }

    -- a write failed at the last line
    pub asked_broken_last : (output : Output) → StopsAtEnd a output → RunsAsked first old (at source output) start x.answers x.answered WriteFault
    unfolding runs_broken_last
    asked_broken_last output stops = record {
      runs = runs_broken_last first old mid source a room h.gone consumes end output stops;
      heard = heard_all (at source output) WriteFault;
    }

  -- bytes were read, and those that there was room for were taken
  module _ (buffer within : List ℕ) (count : ℕ) (fits : count ≤ length buffer) (is : within ≡ take (min count room) buffer) (consumes : Consumes mid.left source.left (take count buffer)) where
    begun_is : h.gone.taken ++ within ≡ take max_script (h.gone.taken ++ take count buffer)
    begun_is = rw is (within_longest h.gone.taken buffer count room max_script h.gone.many)

    heard_within : (y : Answering) → Hears a x y within → HasHeard first start y (take max_script (h.gone.taken ++ take count buffer))
    heard_within y hears = subst (HasHeard first start y) begun_is (hears.from first old.output start h.gone.taken h.gone.read h.heard)

    pub has_gone_more : (b : Reading) (y : Answering) → count ≤ room → Reads a b within → Hears a x y within → HasGone first old start source b y (room - count)
    unfolding gone_more
    has_gone_more b y few reads hears = record {
      gone = gone_more first old mid source a room h.gone buffer within count fits is consumes b few reads;
      heard = subst (HasHeard first start y) (take_all max_script (h.gone.taken ++ take count buffer) (omega (arith, length-append h.gone.taken (take count buffer), length-take count buffer, h.gone.many))) (heard_within y hears);
    }

    -- more was read than may be taken
    pub asked_long : (b : Reading) (y : Answering) → room < count → Reads a b within → Hears a x y within → RunsAsked first old (at source b.run.output) start y.answers y.answered TooLong
    unfolding runs_long
    asked_long b y long reads hears = record {
      runs = runs_long first old mid source a room h.gone buffer within count fits is consumes b long reads;
      heard = record {
        bytes = take max_script (h.gone.taken ++ take count buffer);
        rest = drop max_script (h.gone.taken ++ take count buffer);
        split = take-append-drop max_script (h.gone.taken ++ take count buffer);
        all = λ e. refl;
        halted = λ (e : TooLong ≡ WriteFault). absurd (cc);
        pendings = (heard_within y hears).pendings;
        pending = (heard_within y hears).pending;
        answers = (heard_within y hears).answered;
      };
    }

    -- a write failed
    pub asked_broken : (output : Output) (y : Answering) → StopsHearing a output x y within → RunsAsked first old (at source output) start y.answers y.answered WriteFault
    unfolding runs_broken
    asked_broken output y stops = record {
      runs = runs_broken first old mid source a room h.gone buffer within count fits is consumes output (stops_more a a output [] stops.done stops.rest within (sym stops.split) (reads_none a) stops.stops);
      heard = record {
        bytes = h.gone.taken ++ stops.done;
        rest = stops.rest ++ drop (min count room) (take count buffer);
        split = parts;
        all = λ e. absurd (e refl);
        halted = λ e. inr (stops.stops.from first old.output h.gone.taken h.gone.read);
        pendings = (stops.hears.from first old.output start h.gone.taken h.gone.read h.heard).pendings;
        pending = (stops.hears.from first old.output start h.gone.taken h.gone.read h.heard).pending;
        answers = (stops.hears.from first old.output start h.gone.taken h.gone.read h.heard).answered;
      };
    } where
      parts : (h.gone.taken ++ stops.done) ++ (stops.rest ++ drop (min count room) (take count buffer)) ≡ h.gone.taken ++ take count buffer
      parts =
          append_assoc h.gone.taken stops.done _
          ∙ ap (λ (t : List ℕ). h.gone.taken ++ t) (
          sym (append_assoc stops.done stops.rest _)
          ∙ ap (λ (t : List ℕ). t ++ drop (min count room) (take count buffer)) (stops.split ∙ is ∙ within_count buffer count room)
          ∙ take-append-drop (min count room) (take count buffer))

-- nothing is read and heard yet
pub gone_first : (first : Machine) (source : SourceState) (log : SinkState) (before panel : PanelState) (runner : Runner) → machine_of runner.gui ≡ first → HasTaken runner.cutter [] → runner.number ≡ 1 → runner.frame ≡ 1 → runner.noted ≡ false →
    (pending_in runner.gui).areas ≡ panel_of first.scene ∷ [] → IsStill (refresher_in runner.gui) → CanSend (stage_of runner.gui panel) first.scene → SinceOpening before panel → (asker : Asker) (answers : SinkState) → HasTaken asker.cutter [] → asker.answered ≡ true →
    HasGone first (outside source log before) answers source (reading runner log panel) (answering asker answers) 16777216
unfolding gone_start
gone_first first source log before panel runner is line number frame noted whole still can since asker answers heard all = record {
  gone = gone_start first source log before panel runner is line number frame noted whole still can since;
  heard = record { line = heard; pendings = []; pending = record { each = refl; few = tt }; answered = rw all (answered_none answers) };
}
