use Rattle.std.proofs.Common.{arith, ◌≡◌, ℕ, ℤ, ◌+ℤ◌, ◌-ℤ◌, rules, FitsSigned, w8, w64}
use Rattle.std.specs.Prelude.{pos}
use Rattle.std.specs.Int.{int_max, int_min}
use Rattle.std.proofs.lemmas.Int.{to_z-of_z}
use Rattle.gui_draw.proofs.Spanning.{span_none, span_some, start_below, start_near, lt_true, lt_false}
use Rattle.gui_draw.proofs.glyphs.seen_span.Goals as goal
use Rattle.gui_draw.proofs.glyphs.seen_span.Goals.{After-least-to}

-- the numbers of the code, as they are
record Numbers (low high cell offset start from to : ℤ) (advance size : ℕ) : Type 0 where
  start_is : start ≡ cell +ℤ offset
  from_is : from ≡ int_max (int_max low cell) start
  to_is : to ≡ int_min (int_min high ((cell +ℤ pos advance) -ℤ pos 1)) ((start +ℤ pos size) -ℤ pos 1)

numbers : (c : After-least-to) → Numbers c.args.low c.args.high c.args.cell c.args.offset c.start_of-start.result c.greatest-from.result c.least-to.result c.args.advance c.args.size
numbers c =
    let low : FitsSigned w64 c.args.low = search rules in
    let high : FitsSigned w64 c.args.high = search rules in
    let cell : FitsSigned w64 c.args.cell = search rules in
    let start : FitsSigned w64 c.start_of-start.result = search rules in
    let end : FitsSigned w64 c.end_of.result = search rules in
    let end_2 : FitsSigned w64 c.end_of-2.result = search rules in
    let offset : FitsSigned w8 c.args.offset = search rules in
    let offset_e = to_z-of_z w8 c.args.offset offset in
    let low_e = to_z-of_z w64 c.args.low low in
    let high_e = to_z-of_z w64 c.args.high high in
    let cell_e = to_z-of_z w64 c.args.cell cell in
    let start_e = to_z-of_z w64 c.start_of-start.result start in
    let end_e = to_z-of_z w64 c.end_of.result end in
    let end_2_e = to_z-of_z w64 c.end_of-2.result end_2 in
    let stop = rw cell_e at c.end_of.ensures in
    let stop_2 = rw start_e at c.end_of-2.ensures in
    record {
      start_is = rw (cell_e, offset_e) at c.start_of-start.ensures;
      from_is = rw (low_e, cell_e, start_e) at c.greatest-from.ensures;
      to_is = rw (high_e, end_e, end_2_e, stop, stop_2) at c.least-to.ensures;
    }

pub returns-then-to-from : goal.returns-then-to-from
returns-then-to-from c = λ v.
    let n = numbers (goal.at.returns-then-to-from c).After-least-to in
    let b : FitsSigned w64 c.greatest-from.result = search rules in
    let d : FitsSigned w64 c.least-to.result = search rules in
    let less = lt_true _ _ (rw (to_z-of_z w64 c.greatest-from.result b, to_z-of_z w64 c.least-to.result d) at c.if-to-from.true) in
    span_none c.args.low c.args.high c.args.cell c.start_of-start.result c.greatest-from.result c.least-to.result v c.args.offset c.args.advance c.args.size n.start_is n.from_is n.to_is less

pub distance_from-first-requires : goal.distance_from-first-requires
distance_from-first-requires c =
    let n = numbers (goal.at.distance_from-first-requires c).After-least-to in
    let a : FitsSigned w64 c.start_of-start.result = search rules in
    let b : FitsSigned w64 c.greatest-from.result = search rules in
    let d : FitsSigned w64 c.least-to.result = search rules in
    let order = lt_false _ _ (rw (to_z-of_z w64 c.greatest-from.result b, to_z-of_z w64 c.least-to.result d) at c.if-to-from.false) in
    rw (to_z-of_z w64 c.start_of-start.result a, to_z-of_z w64 c.greatest-from.result b) (record {
      order = start_below c.args.low c.args.cell c.start_of-start.result c.greatest-from.result n.from_is;
      near = start_near c.args.high c.args.cell c.start_of-start.result c.greatest-from.result c.least-to.result c.args.advance c.args.size (omega arith) n.to_is order;
    })

pub returns : goal.returns
returns c =
    let n = numbers (goal.at.returns c).After-least-to in
    let a : FitsSigned w64 c.start_of-start.result = search rules in
    let b : FitsSigned w64 c.greatest-from.result = search rules in
    let d : FitsSigned w64 c.least-to.result = search rules in
    let at = rw (to_z-of_z w64 c.start_of-start.result a, to_z-of_z w64 c.greatest-from.result b) at c.distance_from-first.ensures in
    let order = lt_false _ _ (rw (to_z-of_z w64 c.greatest-from.result b, to_z-of_z w64 c.least-to.result d) at c.if-to-from.false) in
    rw (to_z-of_z w64 c.greatest-from.result b, to_z-of_z w64 c.least-to.result d)
    (span_some c.args.low c.args.high c.args.cell c.start_of-start.result c.greatest-from.result c.least-to.result c.args.offset c.args.advance c.args.size c.distance_from-first.result n.start_is n.from_is n.to_is order at)
