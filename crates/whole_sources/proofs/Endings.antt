-- How a program ends that reads a source whole.
use Rattle.std.proofs.Common.{◌≡◌, refl, sym, ℕ, List}
use Rattle.std.specs.Prelude.{Ok, Err}
use Rattle.std.specs.declared.result.Result.{Result}
use Rattle.std.specs.Io.KnownBytes.{Appends}
use Rattle.gui_edge.specs.Causes.{Rose}
use Rattle.gui_edge.specs.Sink.{SinkState, AppendsPrefix}
use Rattle.gui_edge.specs.Source.{SourceState}
use Rattle.whole_sources.specs.declared.Unread.TheVariants.{ReadFault, NoMemory, TooLong}
use Rattle.whole_sources.specs.Whole.{ReadsWhole}
use Rattle.whole_sources.specs.Endings.{streams, Translates, Written, Bad, ReadFailed, WriteFailed, MemoryRanOut, TooMany, AllTaken}

module _ {B : Type 0} (means : List ℕ → Result (List ℕ) B) (old new : SourceState) where
  pub ends_read_failed : (out : SinkState) → ReadsWhole old new (Err ReadFault) → Translates means (streams old out) (streams new out) ReadFailed
  ends_read_failed out h = record { taken = h.taken; source = h.source; ended = (h.whole_or.0, (h.whole_or.1, refl)) }

  pub ends_no_memory : (out : SinkState) → ReadsWhole old new (Err NoMemory) → Translates means (streams old out) (streams new out) MemoryRanOut
  ends_no_memory out h = record { taken = h.taken; source = h.source; ended = (h.whole_or, refl) }

  pub ends_too_many : (out : SinkState) → ReadsWhole old new (Err TooLong) → Translates means (streams old out) (streams new out) TooMany
  ends_too_many out h = record { taken = h.taken; source = h.source; ended = (h.whole_or, refl) }

  -- the source was read
  module _ (bytes : List ℕ) (h : ReadsWhole old new (Ok bytes)) where
    all_taken : AllTaken new h.taken
    all_taken = record { end = h.whole_or.1; small = h.whole_or.2 }

    -- memory ran out after that
    pub ends_full : (out : SinkState) → Translates means (streams old out) (streams new out) MemoryRanOut
    ends_full out = record { taken = h.taken; source = h.source; ended = (h.whole_or.2, refl) }

    pub ends_bad : (out : SinkState) (fault : B) → Err fault ≡ means bytes → Translates means (streams old out) (streams new out) (Bad fault)
    ends_bad out fault e = record { taken = h.taken; source = h.source; ended = (all_taken, (rw h.whole_or.0 (sym e), refl)) }

    pub ends_written : (before after : SinkState) (text : List ℕ) → Ok text ≡ means bytes → Appends before.held after.held text → Translates means (streams old before) (streams new after) Written
    ends_written before after text e grows = record { taken = h.taken; source = h.source; ended = (all_taken, rw (h.whole_or.0, ← e) grows) }

    pub ends_write_failed : (before after : SinkState) (text : List ℕ) → Ok text ≡ means bytes → AppendsPrefix before.held after.held text → Rose before.faults after.faults →
        Translates means (streams old before) (streams new after) WriteFailed
    ends_write_failed before after text e grows rose = record { taken = h.taken; source = h.source; ended = (all_taken, (rw (h.whole_or.0, ← e) grows, rose)) }

pub ruleset endings = (ends_read_failed, ends_no_memory, ends_too_many, ends_full, ends_bad, ends_written, ends_write_failed)
