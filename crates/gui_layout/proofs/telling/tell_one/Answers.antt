use Rattle.std.proofs.Common.{◌∙◌, sym, arith}
use Rattle.gui_boxes.specs.Pending.{is_first}
use Rattle.gui_boxes.specs.Tables.{told}
use Rattle.gui_boxes.proofs.Adding.{left-fewer}
use Rattle.gui_boxes.proofs.Reports.{tells-none, tells-one}
use Rattle.gui_layout.proofs.telling.tell_one.Goals as goal

pub tell-requires-clause-touched : goal.tell-requires-clause-touched
tell-requires-clause-touched c = sym c.is_touched.ensures ∙ c.if-is_touched.true

-- a touched object that is there is not listed yet, so fewer are than there are objects
pub tell-requires-clause-room : goal.tell-requires-clause-room
tell-requires-clause-room c =
    let left = c.requires.left in
    let fewer = left-fewer c.args.moved.now.items c.args.h c.args.tree.now.forest left.once left.there c.requires.there (left.left c.args.h.0 (sym c.is_touched.ensures ∙ c.if-is_touched.true)) in
    let room = c.requires.room in
    omega arith

pub returns-then-is_touched-clause-tells : goal.returns-then-is_touched-clause-tells
returns-then-is_touched-clause-tells c =
    tells-one c.args.tree.now.forest (is_first c.args.pending.now) (told c.args.entries.now) (told c.tell.new.entries) c.args.moved.now.items c.tell.new.moved.items c.args.h.0 c.requires.there c.tell.ensures.own c.tell.ensures.others c.tell.ensures.rest

pub returns-then-is_touched-clause-own : goal.returns-then-is_touched-clause-own
returns-then-is_touched-clause-own c = c.tell.ensures.own.rests.untouched

pub returns-then-is_touched-clause-others : goal.returns-then-is_touched-clause-others
returns-then-is_touched-clause-others c = λ k other. (c.tell.ensures.others k other).touched

pub returns-else-is_touched-clause-tells : goal.returns-else-is_touched-clause-tells
returns-else-is_touched-clause-tells c = tells-none c.args.tree.now.forest (is_first c.args.pending.now) (told c.args.entries.now) c.args.moved.now.items
