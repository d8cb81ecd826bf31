-- Lines in turn.
use Rattle.std.proofs.Common.{◌∙◌, sym, subst, ◌≤◌, ℕ, Bool, true, false, List, [], ◌++◌, arith, refl}
use Rattle.std.proofs.KnownBytes.{Appends-trans, Appends-nil}
use Rattle.gui_edge.specs.Causes.{Rose}
use Rattle.gui_edge.specs.Sink.{SinkState, AppendsPrefix}
use Rattle.gui_edge.proofs.Prefixes.{AppendsPrefix-append, AppendsPrefix-behind}
use Rattle.gui_board.specs.Writing.{WritesBy}

pub writes_in_turn : (p q r : Bool) (a b c : SinkState) (xs ys : List ℕ) → WritesBy p q a b xs → WritesBy q r b c ys → WritesBy p r a c (xs ++ ys)
writes_in_turn true true true a b c xs ys h k = k ∙ h
writes_in_turn true true false a b c xs ys h k = k
writes_in_turn true false r a b c xs ys h k = absurd h
writes_in_turn false true true a b c xs ys h k =
    let P : SinkState → Type 0 = λ (z : SinkState). AppendsPrefix a.held z.held (xs ++ ys) × Rose a.faults z.faults × (a.faults ≤ z.faults) in
    subst P (sym k) (AppendsPrefix-append a.held b.held xs ys h.0, h.1, h.2)
writes_in_turn false true false a b c xs ys h k = absurd k
writes_in_turn false false true a b c xs ys h k =
    (AppendsPrefix-behind a.held b.held c.held xs ys h.0 k.0, omega (arith, h.1, k.1), omega (arith, h.1, k.2))
writes_in_turn false false false a b c xs ys h k = (Appends-trans a.held b.held c.held xs ys h.0 k.0, omega (arith, h.1, k.1))

-- nothing is written
pub writes_nothing : (p : Bool) (a : SinkState) → WritesBy p p a a []
writes_nothing true a = refl
writes_nothing false a = (Appends-nil a.held, omega arith)
