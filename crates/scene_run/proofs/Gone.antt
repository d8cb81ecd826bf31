-- How a script was read so far, and how its reading ends.
use Rattle.std.proofs.Common.{◌≡◌, ◌∙◌, sym, ap, ℕ, ◌+◌, ◌-◌, ◌≤◌, ◌<◌, min, Bool, true, false, List, [], ◌∷◌, ◌++◌, length, length-append, length-take, take, append-nil, arith, rules, refl, Option}
use Rattle.std.specs.Prelude.{Some, None, IfSome, is_some, nat_lt, if◌then◌else◌}
use Rattle.std.proofs.KnownBytes.{Consumes-nil, Appends-nil, Consumes-trans, Consumes-kept}
use Rattle.std.proofs.lemmas.Bool.Decides.{nat_tests}
use Rattle.std.proofs.lemmas.List.{places, same_lists, take_all}
use Rattle.std.specs.Io.KnownBytes.{Consumes, IsAtEnd, Keeps}
use Rattle.run_defs.specs.Machine.{Machine}
use Rattle.run_defs.specs.Script.{Whole, says, says_cut, rest_of, open_says, max_script}
use Rattle.run_defs.specs.Run.{first_moment}
use Rattle.gui_edge.specs.Source.{SourceState}
use Rattle.gui_edge.specs.Sink.{SinkState}
use Rattle.gui_edge.specs.Panel.{PanelState, HasSizes}
use Rattle.scene_defs.specs.Place.{panel_of}
use Rattle.gui_core.specs.Machines.{machine_of, pending_in, refresher_in, stage_of}
use Rattle.gui_core.specs.declared.gui.Gui.{Gui}
use Rattle.gui_play.specs.Panels.{CanSend}
use Rattle.scene_script.specs.Cutting.{HasTaken}
use Rattle.scene_run.specs.Effects.{Output, output, SinceOpening, Halted}
use Rattle.scene_run.specs.Running.{Running, Reading, Answered, IsStill, stage_at, running, reading, Reads, Stops, Ends, StopsAtEnd, Gone}
use Rattle.scene_run.specs.Headline.{Outside, outside, AnswersScript, end_of, end_reached, Ended, Runs}
use Rattle.scene_run.specs.declared.runner.Runner.{Runner}
use Rattle.scene_run.specs.declared.status.Status.TheVariants.{Done, Noted, ReadFault, WriteFault, TooLong}
use Rattle.scene_run.proofs.Going.{halted_on}
use Rattle.scene_run.proofs.Owing.{accounted_start, flown_start, sends_as_owed, pumps_as_allowed}

abbrev at : SourceState → Output → Outside
at source output = record { source = source; output = output }

-- nothing came to a panel since now
pub since_none : (p : PanelState) → SinceOpening p p
since_none p = search (rules, Appends-nil)

-- no line is answered yet, and nothing came to the panel since it was `before`
pub answered_none : (first : Machine) (before : PanelState) (now : Running) → now.moment ≡ first_moment first → IfSome now.noted (λ m. m ≡ false) → now.pending.areas ≡ panel_of first.scene ∷ [] → IsStill now.refresher → CanSend (stage_at now) first.scene →
    SinceOpening before now.output.panel → Answered first (output now.output.log before) now []
answered_none first before now is noted whole still can since =
    let account = accounted_start first before (stage_at now) whole still since in
    let flown = flown_start first before (stage_at now) whole still (sym can.started ∙ still.started) since in record {
      answers = record {
        outcomes = [];
        fits = refl;
        effects = record { panel = since.effects; log = Appends-nil now.output.log.held; log_faults = omega arith };
        slices = can.sizes;
        owed = sends_as_owed first before (stage_at now) [] [] (omega arith) account;
        pumps = pumps_as_allowed first before (stage_at now) [] [] refl flown;
      };
      moment = is;
      noted_is = noted;
      accounted = account;
      flown = flown;
    }

-- a machine and a panel that begin
pub can_begin : (gui : Gui) (panel : PanelState) → HasSizes panel (machine_of gui).scene.limits → panel.coming ≡ None → IsStill (refresher_in gui) → CanSend (stage_of gui panel) (machine_of gui).scene
can_begin gui panel sizes unstarted still = record {
  sizes = sizes;
  started = still.started ∙ sym (ap is_some unstarted);
  coming = λ buf is. let none : Some buf ≡ None = sym is ∙ unstarted in cc;
}

-- nothing is read yet
unfoldable pub gone_start : (first : Machine) (source : SourceState) (log : SinkState) (before panel : PanelState) (runner : Runner) → machine_of runner.gui ≡ first → HasTaken runner.cutter [] → runner.number ≡ 1 → runner.frame ≡ 1 → runner.noted ≡ false →
    (pending_in runner.gui).areas ≡ panel_of first.scene ∷ [] → IsStill (refresher_in runner.gui) → CanSend (stage_of runner.gui panel) first.scene → SinceOpening before panel → Gone first (outside source log before) source (reading runner log panel) 16777216
gone_start first source log before panel runner is line number frame noted whole still can since = record {
  taken = [];
  source_is = Consumes-nil source.left;
  many = refl;
  read = record { answered = answered_none first before (running runner log panel) (cc) noted whole still can since; line = line };
}

longer : (first : Machine) (start now : Output) (taken : List ℕ) (left : Option (List ℕ)) → Halted first start now (says_cut taken) → Halted first start now (says (end_of left) taken)
longer first start now taken None h = halted_on first start now _ (open_says (rest_of taken)) _ refl h
longer first start now taken (Some []) h = halted_on first start now _ (open_says (rest_of taken)) _ refl h
longer first start now taken (Some (b ∷ bytes)) h = h

pub halted_by : (first : Machine) (start now : Output) (taken : List ℕ) (left : Option (List ℕ)) (long : Bool) → nat_lt max_script (length taken) ≡ long → Halted first start now (says_cut (take max_script taken)) →
    Halted first start now (says (end_reached left taken) taken)
halted_by first start now taken left true e h = rw e h
halted_by first start now taken left false e h =
    let few : length taken ≤ max_script = grind (arith, nat_tests) in
    rw e (longer first start now taken left (rw (take_all max_script taken few) at h))

pub end_is : (left : Option (List ℕ)) → IsAtEnd left → end_of left ≡ Whole
end_is None e = refl
end_is (Some bs) e = rw e refl

pub ended_noting : (first : Machine) (old new : Outside) (taken : List ℕ) (notes : Bool) → AnswersScript first old new taken notes → Ended first old new taken (if notes then Noted else Done)
ended_noting first old new taken true h = h
ended_noting first old new taken false h = h

-- the bytes that there is room for are those within the longest script
within_longest : (taken buffer : List ℕ) (count room most : ℕ) → length taken + room ≡ most → taken ++ take (min count room) buffer ≡ take most (taken ++ take count buffer)
within_longest taken buffer count room most is = same_lists _ _ (grind (arith, places)) (λ i d lt. grind (arith, places))

module _ (first : Machine) (old : Outside) (mid source : SourceState) (a : Reading) (room : ℕ) (h : Gone first old mid a room) where
  -- a read failed
  unfoldable pub runs_unread : Keeps mid.left source.left → Runs first old (at source a.run.output) ReadFault
  runs_unread keeps = record {
    taken = h.taken;
    source = Consumes-kept old.source.left mid.left source.left h.taken h.source_is keeps;
    ended = (omega (arith, h.many), h.read.answered.answers);
  }

  -- nothing more was read
  module _ (consumes : Consumes mid.left source.left []) (end : IsAtEnd source.left) where
    pub source_done : Consumes old.source.left source.left h.taken
    source_done = rw (append-nil h.taken) at (Consumes-trans old.source.left mid.left source.left h.taken [] h.source_is consumes)

    -- the script was answered to its end
    unfoldable pub runs_whole : (b : Running) (noted : Bool) → Ends a b → b.noted ≡ Some noted → Runs first old (at source b.output) (if noted then Noted else Done)
    runs_whole b noted ends is =
        let whole = ends.from first old.output h.taken h.read in record {
          taken = h.taken;
          source = source_done;
          ended = ended_noting first old (at source b.output) h.taken noted (record { end = end; small = omega (arith, h.many); answers = whole.answers; notes_is = sym (rw is at whole.noted_is) });
        }

    -- a write failed at the last line
    unfoldable pub runs_broken_last : (output : Output) → StopsAtEnd a output → Runs first old (at source output) WriteFault
    runs_broken_last output stops =
        let short : nat_lt max_script (length h.taken) ≡ false = grind (arith, nat_tests, h.many) in record {
          taken = h.taken;
          source = source_done;
          ended = rw (short, end_is source.left end) (stops.from first old.output h.taken h.read);
        }

  -- bytes were read, and those that there was room for were taken
  module _ (buffer within : List ℕ) (count : ℕ) (fits : count ≤ length buffer) (is : within ≡ take (min count room) buffer) (consumes : Consumes mid.left source.left (take count buffer)) where
    pub more_taken : Consumes old.source.left source.left (h.taken ++ take count buffer)
    more_taken = Consumes-trans old.source.left mid.left source.left h.taken (take count buffer) h.source_is consumes

    pub many : length (h.taken ++ take count buffer) ≡ length h.taken + count
    many = omega (arith, length-append h.taken (take count buffer), length-take count buffer)

    pub begun_is : h.taken ++ within ≡ take max_script (h.taken ++ take count buffer)
    begun_is = rw is (within_longest h.taken buffer count room max_script h.many)

    unfoldable pub gone_more : (b : Reading) → count ≤ room → Reads a b within → Gone first old source b (room - count)
    gone_more b few reads = record {
      taken = h.taken ++ take count buffer;
      source_is = more_taken;
      many = omega (arith, many, h.many);
      read = rw (begun_is, take_all max_script (h.taken ++ take count buffer) (omega (arith, many, h.many))) at (reads.from first old.output h.taken h.read);
    }

    -- more was read than may be taken
    unfoldable pub runs_long : (b : Reading) → room < count → Reads a b within → Runs first old (at source b.run.output) TooLong
    runs_long b long reads = record {
      taken = h.taken ++ take count buffer;
      source = more_taken;
      ended = (omega (arith, many, h.many), rw begun_is at ((reads.from first old.output h.taken h.read).answered.answers));
    }

    -- a write failed
    unfoldable pub runs_broken : (output : Output) → Stops a output within → Runs first old (at source output) WriteFault
    runs_broken output stops = record {
      taken = h.taken ++ take count buffer;
      source = more_taken;
      ended = halted_by first old.output output (h.taken ++ take count buffer) source.left _ refl (rw begun_is at (stops.from first old.output h.taken h.read));
    }
