-- What was read of a run so far.
use Rattle.std.proofs.Common.{◌≡◌, ◌∙◌, sym, ap, subst, refl, inl, inr, ℕ, ◌+◌, ◌≤◌, ◌<◌, Bool, true, false, not, ◌&&◌, ◌||◌, nat_lt, List, [], ◌++◌, length, length-append, length-take, take, append-nil, append_assoc, ◌⊎◌, Some, None, arith}
use Rattle.std.specs.Io.KnownBytes.{Consumes, IsAtEnd, Keeps}
use Rattle.std.proofs.KnownBytes.{Consumes-nil, Consumes-trans, Consumes-kept, Appends-nil}
use Rattle.std.proofs.lemmas.Bool.{cases_Bool}
use Rattle.std.proofs.lemmas.Bool.Decides.{nat_tests}
use Rattle.gui_edge.specs.Causes.{Rose}
use Rattle.gui_edge.specs.Source.{SourceState}
use Rattle.run_defs.specs.Machine.{Machine}
use Rattle.run_defs.specs.Script.{max_script}
use Rattle.scene_script.specs.Cutting.{HasTaken}
use Rattle.session_defs.specs.Parts.{cut, untaken}
use Rattle.session_defs.specs.Sessions.{Stop, Finished, Overlong, Faulty, stop, outcome, max_run}
use Rattle.session_defs.specs.declared.RfbBad.{RfbBad}
use Rattle.rfb_view.specs.Endings.{Outside, outside, Serves, Ended, Stopped, stopped, Writes, BrokeAt, EndsIf, IsEnd, InPieces, Nothing, Further, ReadSo, max_read}
use Rattle.rfb_view.specs.Running.{IsFresh, Scripting, Stands, HasRead, ReadsOn, BreaksOff, HasRoom, IsShort, StopsWith, Finishes, FinishBreaks, is_overlong}
use Rattle.rfb_view.specs.Talking.{Outs}
use Rattle.rfb_view.specs.declared.run.Run.{Run}
use Rattle.rfb_view.specs.declared.status.RfbStatus.{RfbStatus}
use Rattle.rfb_view.specs.declared.status.RfbStatus.TheVariants.{Done, Noted, Usage, NoMemory, ReadFault, WriteFault, TooLong, Bad}
use Rattle.rfb_view.proofs.Stopping.{reads_write, goes_on_here, stops_faulty, stops_overlong}

-- a status by how it stopped
ended_with : (ms : ℕ) (first : Machine) (old new : Outside) (taken : List ℕ) (status : RfbStatus) (how : Stop) → status ≡ stopped how → (whole : Bool) → StopsWith ms first whole old.outs new.outs taken status → EndsIf whole new.source → (status ≡ TooLong → whole ≡ false) → Ended ms first old new taken status
ended_with ms first old new taken status how is whole s end long = by how is
  where
    with_status : (status : RfbStatus) → StopsWith ms first whole old.outs new.outs taken status → (status ≡ TooLong → whole ≡ false) → Stopped ms first old new taken status
    with_status status s long = record { whole = whole; end = end; how = s.how; stop_is = s.stop_is; status_is = s.status_is; long = long; writes = s.writes }

    by : (how : Stop) → status ≡ stopped how → Ended ms first old new taken status
    by (Finished false) e = rw e (with_status Done (rw e at s) (rw e at long))
    by (Finished true) e = rw e (with_status Noted (rw e at s) (rw e at long))
    by Overlong e = rw e (with_status TooLong (rw e at s) (rw e at long))
    by (Faulty why) e = rw e (with_status (Bad why) (rw e at s) (rw e at long))

-- at the end of the bytes they are not too many
no_overrun : {P : Type 0} (status : RfbStatus) → IsEnd status → status ≡ TooLong → P
no_overrun Done well e = absurd (cc)
no_overrun Noted well e = absurd (cc)
no_overrun (Bad why) well e = absurd (cc)
no_overrun ReadFault well e = absurd well
no_overrun WriteFault well e = absurd well
no_overrun Usage well e = absurd well
no_overrun NoMemory well e = absurd well
no_overrun TooLong well e = absurd well

-- So many bytes were taken from a source since then, and the run went on over them.
pub record Gone (first_source source : SourceState) (was : Machine) (old : Run) (before : Outs) (is : Machine) (new : Run) (after : Outs) (count : ℕ) : Type 0 where
  pub taken : List ℕ
  pub many : length taken ≡ count
  pub source_is : Consumes first_source.left source.left taken
  pub reads : (first : Machine) (start : Outs) → HasRead first start was old before [] → HasRead first start is new after taken
  pub ms : new.talk.ms ≡ old.talk.ms
  pub so : (first : Machine) (start : Outs) → HasRead first start was old before [] → ReadSo old.talk.ms first taken

-- nothing was read
read_none : (ms : ℕ) (first : Machine) → ReadSo ms first []
read_none ms first = record { read = []; last = []; taken_is = refl; few = omega arith; pieces = Nothing }

-- where a run goes on, the last piece is one of those after which it does
pieces_all : (ms : ℕ) (first : Machine) (taken : List ℕ) → ReadSo ms first taken → stop first false taken (outcome ms first false taken) ≡ None → InPieces ms first taken
pieces_all ms first taken so goes =
    let on : stop first false (so.read ++ so.last) (outcome ms first false (so.read ++ so.last)) ≡ None = subst (λ (l : List ℕ). stop first false l (outcome ms first false l) ≡ None) (sym so.taken_is) goes in
    subst (InPieces ms first) so.taken_is (Further so.read so.last so.pieces so.few on)

pub gone_none : (source : SourceState) (was : Machine) (old : Run) (before : Outs) → Gone source source was old before was old before 0
gone_none source was old before = record { taken = []; many = refl; source_is = Consumes-nil source.left; reads = λ first start h. h; ms = refl; so = λ first start h. read_none old.talk.ms first }

module _ (at mid source : SourceState) (was : Machine) (old : Run) (before : Outs) (is : Machine) (new : Run) (after : Outs) (count : ℕ) (h : Gone at mid was old before is new after count) where
  -- a read failed
  pub serves_unread : IsShort new count → new.talk.fault ≡ None → Keeps mid.left source.left → (first : Machine) (start : Outs) → HasRead first start was old before [] → Serves old.talk.ms first (outside at start) (outside source after) ReadFault
  serves_unread short quiet keeps first start r =
      let now = h.reads first start r in record {
        taken = h.taken;
        source = Consumes-kept at.left mid.left source.left h.taken h.source_is keeps;
        so = h.so first start r;
        ended = record {
          goes_on = subst (λ (m : ℕ). stop first false h.taken (outcome m first false h.taken) ≡ None) h.ms (goes_on_here first start is new after h.taken now (subst (IsShort new) (sym h.many) short) quiet);
          writes = subst (λ (m : ℕ). Writes m first false start after h.taken) h.ms (reads_write first start is new after h.taken now);
        };
      }

  source_done : Consumes mid.left source.left [] → Consumes at.left source.left h.taken
  source_done c = rw (append-nil h.taken) at (Consumes-trans at.left mid.left source.left h.taken [] h.source_is c)

  -- the bytes ended
  pub serves_whole : (last : Outs) (status : RfbStatus) → IsEnd status → IsShort new count → new.talk.fault ≡ None → Consumes mid.left source.left [] → IsAtEnd source.left → Finishes is new after last status → (first : Machine) (start : Outs) → HasRead first start was old before [] → Serves old.talk.ms first (outside at start) (outside source last) status
  serves_whole last status well short quiet c end f first start r =
      let s = f.from first start h.taken (h.reads first start r) (subst (IsShort new) (sym h.many) short) quiet in record {
        taken = h.taken;
        source = source_done c;
        so = h.so first start r;
        ended = ended_with old.talk.ms first (outside at start) (outside source last) h.taken status s.how s.status_is true (subst (λ (m : ℕ). StopsWith m first true start last h.taken status) h.ms s) end (no_overrun status well);
      }

  pub serves_broken_last : (last : Outs) → Consumes mid.left source.left [] → IsAtEnd source.left → FinishBreaks is new after last → (first : Machine) (start : Outs) → HasRead first start was old before [] → Serves old.talk.ms first (outside at start) (outside source last) WriteFault
  serves_broken_last last c end f first start r = record {
    taken = h.taken;
    source = source_done c;
    so = h.so first start r;
    ended = record { whole = true; end = end; read = h.taken; unread = []; taken_is = append-nil h.taken; last = λ e. refl; broke = subst (λ (m : ℕ). BrokeAt m first true start last h.taken) h.ms (f.from first start h.taken (h.reads first start r)) };
  }

  -- bytes were read, and the run went on before
  module _ (short : IsShort new count) (quiet : new.talk.fault ≡ None) (buffer piece : List ℕ) (n : ℕ) (fits : n ≤ length buffer) (few : length buffer ≤ max_read) (piece_is : piece ≡ take n buffer) (consumes : Consumes mid.left source.left (take n buffer)) where
    length-piece : length piece ≡ n
    length-piece = rw piece_is (omega (arith, length-take n buffer))

    so_more : (first : Machine) (start : Outs) → HasRead first start was old before [] → ReadSo old.talk.ms first (h.taken ++ piece)
    so_more first start r =
        let now = goes_on_here first start is new after h.taken (h.reads first start r) (subst (IsShort new) (sym h.many) short) quiet in
        let goes : stop first false h.taken (outcome old.talk.ms first false h.taken) ≡ None = subst (λ (m : ℕ). stop first false h.taken (outcome m first false h.taken) ≡ None) h.ms now in
        record { read = h.taken; last = piece; taken_is = refl; few = omega (arith, length-piece); pieces = pieces_all old.talk.ms first h.taken (h.so first start r) goes }

    pub gone_more : (now : Machine) (next : Run) (later : Outs) → ReadsOn is new after now next later piece → Gone at source was old before now next later (count + n)
    gone_more now next later k = record {
      taken = h.taken ++ piece;
      many = omega (arith, length-append h.taken piece, h.many, length-piece);
      source_is = rw piece_is (Consumes-trans at.left mid.left source.left h.taken (take n buffer) h.source_is consumes);
      reads = λ first start r. k.from first start h.taken (h.reads first start r);
      ms = k.ms ∙ h.ms;
      so = so_more;
    }

    pub serves_broken : (last : Outs) → BreaksOff is new after last piece → (first : Machine) (start : Outs) → HasRead first start was old before [] → Serves old.talk.ms first (outside at start) (outside source last) WriteFault
    serves_broken last b first start r = record {
      taken = h.taken ++ piece;
      source = rw piece_is (Consumes-trans at.left mid.left source.left h.taken (take n buffer) h.source_is consumes);
      so = so_more first start r;
      ended = record {
        whole = false;
        end = tt;
        read = h.taken ++ b.read;
        unread = b.unread;
        taken_is = append_assoc h.taken b.read b.unread ∙ ap (λ (l : List ℕ). h.taken ++ l) b.bytes_are;
        last = λ e. absurd (cc);
        broke = subst (λ (m : ℕ). BrokeAt m first false start last (h.taken ++ b.read)) h.ms (b.from first start h.taken (h.reads first start r));
      };
    }

-- The run stops after the bytes so far.
module _ (at source : SourceState) (was : Machine) (old : Run) (before : Outs) (is : Machine) (new : Run) (after : Outs) (count : ℕ) (h : Gone at source was old before is new after count) where
  pub serves_long : is_overlong new count ≡ true → (first : Machine) (start : Outs) → HasRead first start was old before [] → Serves old.talk.ms first (outside at start) (outside source after) TooLong
  serves_long over first start r = record {
    taken = h.taken;
    source = h.source_is;
    so = h.so first start r;
    ended = ended_with old.talk.ms first (outside at start) (outside source after) h.taken TooLong Overlong refl false
        (subst (λ (m : ℕ). StopsWith m first false start after h.taken TooLong) h.ms (stops_overlong first start is new after h.taken (h.reads first start r) (rw h.many (many new.begun count over)))) tt (λ e. refl);
  }
    where
      many : (b : Bool) (n : ℕ) → ((not b && nat_lt max_script n) || nat_lt max_run n) ≡ true → (((b ≡ false) × (max_script < n)) ⊎ (max_run < n))
      many true n e = inr (grind (arith, nat_tests))
      many false n e = elim (cases_Bool (nat_lt max_script n)) [
        | inl long ↦ inl (refl, grind (arith, nat_tests))
        | inr short ↦ inr (grind (arith, nat_tests))
      ]

  pub serves_bad : (why : RfbBad) → IsShort new count → new.talk.fault ≡ Some why → (first : Machine) (start : Outs) → HasRead first start was old before [] → Serves old.talk.ms first (outside at start) (outside source after) (Bad why)
  serves_bad why short fault first start r = record {
    taken = h.taken;
    source = h.source_is;
    so = h.so first start r;
    ended = ended_with old.talk.ms first (outside at start) (outside source after) h.taken (Bad why) (Faulty why) refl false
        (subst (λ (m : ℕ). StopsWith m first false start after h.taken (Bad why)) h.ms (stops_faulty first start is new after h.taken (h.reads first start r) why (subst (IsShort new) (sym h.many) short) fault)) tt (λ e. refl);
  }

pub not_long : (run : Run) (count : ℕ) → is_overlong run count ≡ false → IsShort run count
not_long run count e = record { script = λ b. few run.begun b e; all = most run.begun e }
  where
    few : (b : Bool) → b ≡ false → ((not b && nat_lt max_script count) || nat_lt max_run count) ≡ false → count ≤ max_script
    few true h e = absurd (cc)
    few false h e = elim (cases_Bool (nat_lt max_script count)) [
      | inl long ↦ absurd (let k : ((not false && nat_lt max_script count) || nat_lt max_run count) ≡ true = rw long refl in cc)
      | inr short ↦ grind (arith, nat_tests)
    ]

    most : (b : Bool) → ((not b && nat_lt max_script count) || nat_lt max_run count) ≡ false → count ≤ max_run
    most true e = grind (arith, nat_tests)
    most false e = elim (cases_Bool (nat_lt max_script count)) [
      | inl long ↦ absurd (let k : ((not false && nat_lt max_script count) || nat_lt max_run count) ≡ true = rw long refl in cc)
      | inr short ↦ let k : nat_lt max_run count ≡ false = rw short at e in grind (arith, nat_tests)
    ]

-- A run of which nothing is read.

cut_none : cut [] ≡ untaken
unfolding cut
cut_none = refl

pub fresh_read : (was : Machine) (old : Run) (before : Outs) → IsFresh was old.talk → old.talk.noted ≡ false → HasTaken old.cutter [] → old.number ≡ 1 → old.begun ≡ false → HasRead was before was old before []
fresh_read was old before fresh unnoted line number in_script =
    subst (Stands old.begun old.talk.fault was before was old before) (sym cut_none)
    (subst (λ (b : Bool). Stands b old.talk.fault was before was old before untaken) (sym in_script) at)
  where
    at : Scripting was before was old before untaken
    at = record {
      script = record { begun = refl; none = refl; line_is = refl; machine_is = refl };
      line = line;
      number = number;
      fresh = fresh;
      notes = unnoted;
      out = Appends-nil before.out.held;
      log = Appends-nil before.log.held;
    }

-- Causes.

-- a count that rose later rose since the start
pub rose_out : (a b c : Outs) → a.out.faults ≤ b.out.faults → a.log.faults ≤ b.log.faults → (Rose b.out.faults c.out.faults ⊎ Rose b.log.faults c.log.faults) → (Rose a.out.faults c.out.faults ⊎ Rose a.log.faults c.log.faults)
rose_out a b c out log (inl e) = inl (omega arith)
rose_out a b c out log (inr e) = inr (omega arith)

pub rose_source : (a b c : ℕ) → a ≤ b → Rose b c → Rose a c
rose_source a b c low e = omega arith

-- at the end of the bytes nothing failed
pub no_read_fault : {P : Type 0} (status : RfbStatus) → IsEnd status → status ≡ ReadFault → P
no_read_fault Done well e = absurd (cc)
no_read_fault Noted well e = absurd (cc)
no_read_fault (Bad why) well e = absurd (cc)
no_read_fault ReadFault well e = absurd well
no_read_fault WriteFault well e = absurd well
no_read_fault Usage well e = absurd well
no_read_fault NoMemory well e = absurd well
no_read_fault TooLong well e = absurd well

pub no_write_fault : {P : Type 0} (status : RfbStatus) → IsEnd status → status ≡ WriteFault → P
no_write_fault Done well e = absurd (cc)
no_write_fault Noted well e = absurd (cc)
no_write_fault (Bad why) well e = absurd (cc)
no_write_fault ReadFault well e = absurd well
no_write_fault WriteFault well e = absurd well
no_write_fault Usage well e = absurd well
no_write_fault NoMemory well e = absurd well
no_write_fault TooLong well e = absurd well

-- there are numbers for the bytes of a piece
pub room_for : (run : Run) (taken most : ℕ) → most ≤ 4096 → IsShort run taken → run.number ≤ 1 + taken → run.talk.hearing.count ≤ taken → HasRoom run most
room_for run taken most few short number count = record {
  number = λ b. let s = short.script b in omega (arith, s, number, few);
  count = let a = short.all in omega (arith, a, count, few);
}
