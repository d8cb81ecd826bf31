-- How a run goes on over bytes.
use Rattle.std.proofs.Common.{◌≡◌, ◌∙◌, sym, ap, subst, ℕ, ◌+◌, List, [], ◌∷◌, ◌++◌, length, length-append, append_assoc, append-nil, arith, rules}
use Rattle.run_defs.specs.Script.{says_cut}
use Rattle.run_defs.proofs.Lines.{says_cut-longer}
use Rattle.scene_script.specs.Cutting.{Cutting, Takes, Finishes, cut_says}
use Rattle.scene_run.specs.Effects.{Output, Halted}
use Rattle.scene_run.specs.Running.{Running, Reading, Answered, HasRead, GoesOn, Halts, Reads, Stops, Ends, StopsAtEnd}
use Rattle.scene_run.proofs.Going.{ready_less, halted_on}

pub reads_none : (now : Reading) → Reads now now []
reads_none now = record { from = λ first start before h. rw (append-nil before) h; ready = λ room h. search rules }

pub reads_byte : (old new : Reading) (cutter : Cutting) (byte : ℕ) → Takes old.cutter cutter byte → new.cutter ≡ cutter → GoesOn old.run new.run (cut_says cutter) → Reads old new (byte ∷ [])
reads_byte old new cutter byte takes same goes = record {
  from = λ first start before h. record {
    answered = subst (Answered first start new.run) (takes.says before h.line) (goes.from first start _ h.answered);
    line = rw same (takes.has before h.line);
  };
  ready = λ room h. goes.ready room h;
}

pub stops_byte : (old : Reading) (new : Output) (cutter : Cutting) (byte : ℕ) → Takes old.cutter cutter byte → Halts old.run new (cut_says cutter) → Stops old new (byte ∷ [])
stops_byte old new cutter byte takes halts = record { from = λ first start before h. subst (Halted first start new) (takes.says before h.line) (halts.from first start _ h.answered) }

pub reads_more : (a b c : Reading) (xs ys all : List ℕ) → all ≡ xs ++ ys → Reads a b xs → Reads b c ys → Reads a c all
reads_more a b c xs ys all e h k = record {
  from = λ first start before r. subst (HasRead first start c) (append_assoc before xs ys ∙ ap (λ (t : List ℕ). before ++ t) (sym e)) (k.from first start _ (h.from first start before r));
  ready = λ room r. k.ready room (h.ready (room + length ys) (ready_less a.run _ _ (omega (arith, ap length e, length-append xs ys)) r));
}

-- a write failed in bytes after some, and before others
pub stops_more : (a b : Reading) (c : Output) (xs ys rest all : List ℕ) → all ≡ xs ++ (ys ++ rest) → Reads a b xs → Stops b c ys → Stops a c all
stops_more a b c xs ys rest all e h k = record {
  from = λ first start before r.
      let done = (before ++ xs) ++ ys in
      let more = says_cut-longer done rest in
      let bytes : before ++ all ≡ done ++ rest = ap (λ (t : List ℕ). before ++ t) e ∙ simp append_assoc in
      halted_on first start c (says_cut done) more.0 _ (ap says_cut bytes ∙ more.1) (k.from first start _ (h.from first start before r));
}

pub ends : (old : Reading) (new : Running) (cutter : Cutting) → Finishes old.cutter cutter → GoesOn old.run new (cut_says cutter) → Ends old new
ends old new cutter finishes goes = record { from = λ first start script h. subst (Answered first start new) (finishes.says script h.line) (goes.from first start _ h.answered) }

-- a write failed at the last line
pub stops_at_end : (old : Reading) (new : Output) (cutter : Cutting) → Finishes old.cutter cutter → Halts old.run new (cut_says cutter) → StopsAtEnd old new
stops_at_end old new cutter finishes halts = record { from = λ first start script h. subst (Halted first start new) (finishes.says script h.line) (halts.from first start _ h.answered) }
