use Rattle.std.proofs.Common.{◌≡◌, ◌∙◌, ap, sym, subst, set, true, ℕ}
use Rattle.std.proofs.lemmas.List.{set-get_or}
use Rattle.gui_base.specs.Forest.{leaf}
use Rattle.gui_boxes.specs.Settled.{Layout}
use Rattle.gui_boxes.specs.Tables.{told, touched_or}
use Rattle.gui_boxes.specs.Touched.{is_touched, Touches}
use Rattle.gui_boxes.proofs.Listed.{told_short}
use Rattle.gui_boxes.proofs.Touched.{touches_set, touches_same}
use Rattle.gui_boxes.proofs.tables.give_width.Goals as goal
use Rattle.gui_boxes.proofs.tables.give_width.Goals.{After-set_width}

module _ (c : After-set_width) where
  abbrev l : Layout
  l = told c.args.entries.now

  abbrev h : ℕ
  h = c.args.h.0

  set_is : told c.set_width.new.entries ≡ record l { touched = set l.touched h true; widths = set l.widths h c.args.pixels }
  set_is = c.set_width.ensures.set ∙ ap (λ (k : Layout). record k { widths = set k.widths h c.args.pixels }) c.touch.ensures.set

pub returns-clause-widths : goal.returns-clause-widths
returns-clause-widths c = ap (λ (k : Layout). k.widths) (set_is (goal.at.returns-clause-widths c).After-set_width)

pub returns-clause-touches : goal.returns-clause-touches
returns-clause-touches c =
    let l = told c.args.entries.now in
    let h = c.args.h.0 in
    subst (λ (k : Layout). Touches 0 (is_touched l) (is_touched k) l.widths k.widths (leaf h)) (sym (set_is (goal.at.returns-clause-touches c).After-set_width))
    (touches_set 0 l.touched l.widths h c.args.pixels (told_short touched_or c.args.entries.now h c.requires.listed))

pub returns-clause-rest : goal.returns-clause-rest
returns-clause-rest c =
    let d = (goal.at.returns-clause-rest c).After-set_width in
    let l = told c.args.entries.now in
    let is = set_is d in
    is ∙ (ap (λ ws. record l { widths = ws; touched = set l.touched c.args.h.0 true }) (sym (ap (λ (k : Layout). k.widths) is))
    ∙ ap (λ ts. record l { widths = (told c.set_width.new.entries).widths; touched = ts }) (sym (ap (λ (k : Layout). k.touched) is)))

pub returns-then-entry_of-pixels-clause-widths : goal.returns-then-entry_of-pixels-clause-widths
returns-then-entry_of-pixels-clause-widths c =
    let l = told c.args.entries.now in
    sym (set-get_or l.widths c.args.h.0 0) ∙ ap (set l.widths c.args.h.0) (sym c.entry_of.ensures.told.width ∙ c.if-entry_of-pixels.true)

pub returns-then-entry_of-pixels-clause-touches : goal.returns-then-entry_of-pixels-clause-touches
returns-then-entry_of-pixels-clause-touches c = touches_same 0 (is_touched (told c.args.entries.now)) (told c.args.entries.now).widths (leaf c.args.h.0)
