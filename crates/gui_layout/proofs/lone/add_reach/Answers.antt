use Rattle.std.proofs.Common.{◌∙◌, ap, sym, get_or, max, eq-eqb}
use Rattle.std.proofs.lemmas.Bool.{both_ways}
use Rattle.std.proofs.lemmas.List.{get_or-set_same, get_or-set_other}
use Rattle.layout_defs.specs.Solving.{Span}
use Rattle.gui_boxes.specs.Kids.{flat_scrolled}
use Rattle.gui_boxes.specs.Layouts.{ButScrolls}
use Rattle.gui_boxes.specs.Scrolls.{not_scrolled}
use Rattle.gui_boxes.specs.Settled.{Layout}
use Rattle.gui_boxes.specs.Tables.{scrolled_or, told}
use Rattle.gui_boxes.specs.Views.{box_at}
use Rattle.gui_boxes.proofs.Listed.{told_short}
use Rattle.gui_layout.proofs.Without.{with-one}
use Rattle.gui_layout.proofs.lone.add_reach.Goals as goal
use Rattle.gui_layout.proofs.lone.add_reach.Goals.{After-set_scrolled}

rest : (c : After-set_scrolled) → ButScrolls (told c.args.entries.now) (told c.set_scrolled.new.entries)
rest c =
    c.set_scrolled.ensures.set
    ∙ ap (λ (rs : _). record (told c.args.entries.now) { scrolls = rs }) (sym (ap (λ (m : Layout). m.scrolls) c.set_scrolled.ensures.set))

pub returns-clause-rest : goal.returns-clause-rest
returns-clause-rest c = rest (goal.at.returns-clause-rest c).After-set_scrolled

pub returns-clause-others : goal.returns-clause-others
returns-clause-others c k other =
    let l = told c.args.entries.now in
    ap (λ (m : Layout). get_or m.scrolls k not_scrolled) c.set_scrolled.ensures.set
    ∙ get_or-set_other l.scrolls c.args.parent.0 k _ not_scrolled (λ e. both_ways _ other (eq-eqb c.args.parent.0 k (sym e)))

pub returns-clause-flat : goal.returns-clause-flat
returns-clause-flat c f kid without =
    let d = (goal.at.returns-clause-flat c).After-set_scrolled in
    let h = c.args.h.0 in
    let p = c.args.parent.0 in
    let l = told c.args.entries.now in
    let own = c.entry_of-own.result.now in
    let short = told_short scrolled_or c.args.entries.now p c.requires.parent in
    let out = c.out_of-out.ensures p h in
    let across = c.farther_of-reach.ensures.across ∙ ap (λ (r : Span). max own.scrolled.reach.across r.across) out in
    let down = c.farther_of-reach.ensures.down ∙ ap (λ (r : Span). max own.scrolled.reach.down r.down) out in
    record {
      still = ap (λ (m : Layout). (box_at m.boxes p).scrollable) (rest d) ∙ without.still;
      read =
          ap (λ (m : Layout). get_or m.scrolls p not_scrolled) c.set_scrolled.ensures.set
          ∙ (get_or-set_same l.scrolls p _ not_scrolled short
          ∙ (with-one f l h p own c.entry_of-kid.result.now c.entry_of-own.ensures.told c.entry_of-kid.ensures.told kid without c.farther_of-reach.result.across c.farther_of-reach.result.down across down
          ∙ sym (ap (λ (m : Layout). flat_scrolled m f p) (rest d))));
    }
