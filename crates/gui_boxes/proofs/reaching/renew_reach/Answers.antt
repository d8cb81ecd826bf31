use Rattle.std.proofs.Common.{◌≡◌, ◌∙◌, ap, sym, subst, get_or, false, eqb, eq-eqb, inl, inr}
use Rattle.std.proofs.lemmas.Bool.{cases_Bool, eqb-true, both_ways}
use Rattle.std.proofs.lemmas.List.{get_or-set_same, get_or-set_other}
use Rattle.layout_defs.specs.Boxes.{Box}
use Rattle.layout_defs.specs.Solving.{Span, no_span}
use Rattle.gui_tree.proofs.Below.{own_tree}
use Rattle.gui_boxes.specs.Around.{IsFlat}
use Rattle.gui_boxes.specs.Kids.{flat_scrolled}
use Rattle.gui_boxes.specs.Layouts.{ButScrolls}
use Rattle.gui_boxes.specs.Scrolls.{not_scrolled}
use Rattle.gui_boxes.specs.Settled.{Layout}
use Rattle.gui_boxes.specs.Tables.{scrolled_or, told}
use Rattle.gui_boxes.specs.Views.{box_at}
use Rattle.gui_boxes.proofs.Listed.{told_short}
use Rattle.gui_boxes.proofs.reaching.renew_reach.Goals as goal
use Rattle.gui_boxes.proofs.reaching.renew_reach.Goals.{After-set_scrolled}

pub entry_of-requires : goal.entry_of-requires
entry_of-requires c = c.requires.listed c.args.h.0 (own_tree c.args.tree.now.forest c.args.h.0 c.requires.there)

pub set_scrolled-requires : goal.set_scrolled-requires
set_scrolled-requires c = c.requires.listed c.args.h.0 (own_tree c.args.tree.now.forest c.args.h.0 c.requires.there)

rest : (c : After-set_scrolled) → ButScrolls (told c.args.entries.now) (told c.set_scrolled.new.entries)
rest c =
    c.set_scrolled.ensures.set
    ∙ ap (λ (rs : _). record (told c.args.entries.now) { scrolls = rs }) (sym (ap (λ (m : Layout). m.scrolls) c.set_scrolled.ensures.set))

flat : (c : After-set_scrolled) → (box_at (told c.args.entries.now).boxes c.args.h.0).scrollable ≡ false → IsFlat c.args.tree.now.forest (told c.set_scrolled.new.entries) c.args.h.0
flat c still =
    let h = c.args.h.0 in
    let f = c.args.tree.now.forest in
    let l = told c.args.entries.now in
    let short = told_short scrolled_or c.args.entries.now h (c.requires.listed h (own_tree f h c.requires.there)) in
    record {
      still = ap (λ (m : Layout). (box_at m.boxes h).scrollable) (rest c) ∙ still;
      read =
          ap (λ (m : Layout). get_or m.scrolls h not_scrolled) c.set_scrolled.ensures.set
          ∙ (get_or-set_same l.scrolls h _ not_scrolled short
          ∙ (ap (λ (r : Span). record { reach = r; offset = no_span }) c.reach_of-reach.ensures ∙ sym (ap (λ (m : Layout). flat_scrolled m f h) (rest c))));
    }

not-still : (c : After-set_scrolled) → (box_at (told c.args.entries.now).boxes c.args.h.0).scrollable ≡ false
not-still c = ap (λ (b : Box). b.scrollable) (sym c.entry_of.ensures.told.wanted) ∙ c.if-entry_of.false

pub returns-clause-own : goal.returns-clause-own
returns-clause-own c still = flat (goal.at.returns-clause-own c).After-set_scrolled still

pub returns-clause-others : goal.returns-clause-others
returns-clause-others c k other =
    let h = c.args.h.0 in
    let l = told c.args.entries.now in
    ap (λ (m : Layout). get_or m.scrolls k not_scrolled) c.set_scrolled.ensures.set
    ∙ get_or-set_other l.scrolls h k _ not_scrolled (λ e. both_ways _ other (eq-eqb h k (sym e)))

pub returns-clause-reads : goal.returns-clause-reads
returns-clause-reads c =
    let d = (goal.at.returns-clause-reads c).After-set_scrolled in
    let h = c.args.h.0 in
    let l = told c.args.entries.now in
    record {
      each = λ k. elim (cases_Bool (eqb h k)) [
        | inl is ↦ inr (subst (λ j. IsFlat c.args.tree.now.forest (told c.set_scrolled.new.entries) j) (eqb-true h k is) (flat d (not-still d)))
        | inr other ↦ inl (ap (λ (m : Layout). get_or m.scrolls k not_scrolled) c.set_scrolled.ensures.set ∙ get_or-set_other l.scrolls h k _ not_scrolled (λ e. both_ways _ other (eq-eqb h k (sym e))))
      ];
      rest = rest d;
    }
