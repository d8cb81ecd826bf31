-- How the bytes of a source are taken one piece after another.
use Rattle.std.proofs.Common.{refl, ℕ, ◌-◌, ◌≤◌, ◌<◌, List, [], ◌++◌, length, length-append, length-take, take, append-nil, arith}
use Rattle.std.specs.Prelude.{Ok, Err}
use Rattle.std.proofs.KnownBytes.{Consumes-nil, Consumes-trans, Consumes-kept}
use Rattle.std.specs.Io.KnownBytes.{Consumes, IsAtEnd, Keeps}
use Rattle.gui_edge.specs.Causes.{Rose}
use Rattle.gui_edge.specs.Source.{SourceState}
use Rattle.whole_sources.specs.declared.Unread.TheVariants.{ReadFault, NoMemory, TooLong}
use Rattle.whole_sources.specs.Whole.{ReadsWhole}

-- these bytes were taken
pub record Taken (old now : SourceState) (bytes : List ℕ) : Type 0 where
  pub source : Consumes old.left now.left bytes
  pub small : length bytes ≤ 16777216
  pub later : old.faults ≤ now.faults

pub taken_none : (old : SourceState) → Taken old old []
taken_none old = record { source = Consumes-nil old.left; small = omega arith; later = omega arith }

-- a piece more
pub taken_more : (old mid now : SourceState) (bytes buffer : List ℕ) (count : ℕ) → Taken old mid bytes → Consumes mid.left now.left (take count buffer) →
    mid.faults ≤ now.faults → count ≤ 16777216 - length bytes → Taken old now (bytes ++ take count buffer)
taken_more old mid now bytes buffer count h consumes later fits =
    let small = h.small in
    let before = h.later in
    record {
      source = Consumes-trans old.left mid.left now.left bytes (take count buffer) h.source consumes;
      small = omega (arith, length-append bytes (take count buffer), length-take count buffer);
      later = omega (arith, before, later);
    }

pub read_all : (old mid now : SourceState) (bytes buffer : List ℕ) → Taken old mid bytes → Consumes mid.left now.left (take 0 buffer) → IsAtEnd now.left → mid.faults ≤ now.faults →
    ReadsWhole old now (Ok bytes)
read_all old mid now bytes buffer h consumes end later =
    let before = h.later in
    record {
      taken = bytes;
      source = rw (append-nil bytes) at (Consumes-trans old.left mid.left now.left bytes [] h.source consumes);
      whole_or = (refl, end, h.small);
      later = omega (arith, before, later);
    }

pub read_failed : (old mid now : SourceState) (bytes : List ℕ) → Taken old mid bytes → Keeps mid.left now.left → Rose mid.faults now.faults → mid.faults ≤ now.faults → ReadsWhole old now (Err ReadFault)
read_failed old mid now bytes h keeps rose later =
    let before = h.later in
    record {
      taken = bytes;
      source = Consumes-kept old.left mid.left now.left bytes h.source keeps;
      whole_or = (h.small, omega (arith, before, later, rose));
      later = omega (arith, before, later);
    }

pub too_long : (old mid now : SourceState) (bytes buffer : List ℕ) (count : ℕ) → Taken old mid bytes → count ≤ length buffer → Consumes mid.left now.left (take count buffer) → mid.faults ≤ now.faults → 16777216 - length bytes < count →
    ReadsWhole old now (Err TooLong)
too_long old mid now bytes buffer count h within consumes later long =
    let before = h.later in
    record {
      taken = bytes ++ take count buffer;
      source = Consumes-trans old.left mid.left now.left bytes (take count buffer) h.source consumes;
      whole_or = omega (arith, length-append bytes (take count buffer), length-take count buffer);
      later = omega (arith, before, later);
    }

pub no_memory : (old now : SourceState) (bytes : List ℕ) → Taken old now bytes → ReadsWhole old now (Err NoMemory)
no_memory old now bytes h = record { taken = bytes; source = h.source; whole_or = h.small; later = h.later }
