use Rattle.std.proofs.Common.{◌∙◌, sym, eqb, ◌&&◌}
use Rattle.std.proofs.lemmas.Bool.{and_parts}
use Rattle.gui_base.specs.Forest.{has}
use Rattle.gui_concerns.specs.Marking.{AlsoMarks}
use Rattle.gui_concerns.proofs.Marks.{also-none, also-one, room, there-still}
use Rattle.gui_concerns.proofs.marking.mark_there.Goals as goal
use Rattle.gui_concerns.proofs.marking.mark_there.Goals.{After-mark}

pub returns-then-not-has-clause-marks : goal.returns-then-not-has-clause-marks
returns-then-not-has-clause-marks c = also-none c.args.marks.now c.args.h.0 (has c.args.tree.now.forest) (sym c.has.ensures ∙ c.if-not-has.true)

pub mark-requires : goal.mark-requires
mark-requires c = record { room = room c.args.marks.now c.args.tree.now.forest c.args.h c.requires.room (sym c.has.ensures ∙ c.if-not-has.false) }

also : (c : After-mark) → AlsoMarks c.args.marks.now c.mark.new.self (λ k. eqb c.args.h.0 k && has c.args.tree.now.forest k)
also c =
    also-one c.args.marks.now c.mark.new.self c.args.h.0 (has c.args.tree.now.forest) (sym c.has.ensures ∙ c.if-not-has.false) c.mark.ensures.own c.mark.ensures.others c.mark.ensures.parents

pub returns-clause-marks : goal.returns-clause-marks
returns-clause-marks c = also (goal.at.returns-clause-marks c).After-mark

pub returns-clause-room : goal.returns-clause-room
returns-clause-room c =
    let f = c.args.tree.now.forest in
    there-still c.args.marks.now c.mark.new.self f (λ k. eqb c.args.h.0 k && has f k) c.requires.room (also (goal.at.returns-clause-room c).After-mark)
    (λ k is. (and_parts (eqb c.args.h.0 k) (has f k) is).1) c.mark.ensures.most
