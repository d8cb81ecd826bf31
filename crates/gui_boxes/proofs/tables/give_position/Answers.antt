use Rattle.std.proofs.Common.{◌≡◌, ◌∙◌, ap, sym, subst, set, true, ℕ}
use Rattle.std.proofs.lemmas.List.{set-get_or}
use Rattle.gui_base.specs.Forest.{leaf}
use Rattle.layout_defs.specs.Solving.{nowhere}
use Rattle.gui_boxes.specs.Slots.{slot_of}
use Rattle.gui_boxes.specs.Settled.{Layout}
use Rattle.gui_boxes.specs.Tables.{told, touched_or}
use Rattle.gui_boxes.specs.Touched.{is_touched, Touches}
use Rattle.gui_boxes.proofs.Listed.{told_short}
use Rattle.gui_boxes.proofs.Touched.{touches_set, touches_same}
use Rattle.gui_boxes.proofs.tables.give_position.Goals as goal
use Rattle.gui_boxes.proofs.tables.give_position.Goals.{After-set_position}

module _ (c : After-set_position) where
  abbrev l : Layout
  l = told c.args.entries.now

  abbrev h : ℕ
  h = c.args.h.0

  set_is : told c.set_position.new.entries ≡ record l { touched = set l.touched h true; slots = set l.slots h (slot_of c.args.position) }
  set_is = c.set_position.ensures.set ∙ ap (λ (k : Layout). record k { slots = set k.slots h (slot_of c.args.position) }) c.touch.ensures.set

pub returns-clause-slots : goal.returns-clause-slots
returns-clause-slots c = ap (λ (k : Layout). k.slots) (set_is (goal.at.returns-clause-slots c).After-set_position)

pub returns-clause-touches : goal.returns-clause-touches
returns-clause-touches c =
    let l = told c.args.entries.now in
    let h = c.args.h.0 in
    subst (λ (k : Layout). Touches nowhere (is_touched l) (is_touched k) l.slots k.slots (leaf h)) (sym (set_is (goal.at.returns-clause-touches c).After-set_position))
    (touches_set nowhere l.touched l.slots h (slot_of c.args.position) (told_short touched_or c.args.entries.now h c.requires))

pub returns-clause-rest : goal.returns-clause-rest
returns-clause-rest c =
    let d = (goal.at.returns-clause-rest c).After-set_position in
    let l = told c.args.entries.now in
    let is = set_is d in
    is ∙ (ap (λ ws. record l { slots = ws; touched = set l.touched c.args.h.0 true }) (sym (ap (λ (k : Layout). k.slots) is))
    ∙ ap (λ ts. record l { slots = (told c.set_position.new.entries).slots; touched = ts }) (sym (ap (λ (k : Layout). k.touched) is)))

pub returns-then-is_same-clause-slots : goal.returns-then-is_same-clause-slots
returns-then-is_same-clause-slots c =
    let l = told c.args.entries.now in
    sym (set-get_or l.slots c.args.h.0 nowhere) ∙ ap (set l.slots c.args.h.0) (sym c.entry_of.ensures.told.slot ∙ c.is_same.ensures.same c.if-is_same.true)

pub returns-then-is_same-clause-touches : goal.returns-then-is_same-clause-touches
returns-then-is_same-clause-touches c = touches_same nowhere (is_touched (told c.args.entries.now)) (told c.args.entries.now).slots (leaf c.args.h.0)
