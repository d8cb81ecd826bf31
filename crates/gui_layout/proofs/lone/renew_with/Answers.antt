use Rattle.std.proofs.Common.{◌≡◌, ◌∙◌, sym, subst, Some, false, eqb, inl, inr}
use Rattle.std.proofs.lemmas.Bool.{cases_Bool, eqb-true}
use Rattle.gui_tree.proofs.Below.{own_tree}
use Rattle.gui_boxes.specs.Around.{IsFlat}
use Rattle.gui_boxes.specs.Tables.{told}
use Rattle.gui_layout.specs.Tops.{is_it}
use Rattle.gui_layout.proofs.Climbing.{IsAbove, is_above}
use Rattle.gui_layout.proofs.Siblings.{parent-child}
use Rattle.gui_layout.proofs.lone.renew_with.Goals as goal
use Rattle.gui_layout.proofs.lone.renew_with.Goals.{In-Some, After-add_reach}

above : (c : In-Some) → IsAbove c.args.tree.now.forest c.args.h.0 c.in-Some.parent
above c = is_above c.args.tree.now.forest c.args.h.0 c.in-Some.parent c.requires.once c.requires.there (sym c.in-Some.is ∙ c.parent.ensures)

pub add_reach-requires-clause-parent : goal.add_reach-requires-clause-parent
add_reach-requires-clause-parent c =
    let p = c.in-Some.parent in
    let up = above (goal.at.add_reach-requires-clause-parent c).In-Some in
    c.requires.listed p.0 up.parent p.0 (own_tree c.args.tree.now.forest p.0 up.there)

pub add_reach-requires-clause-own : goal.add_reach-requires-clause-own
add_reach-requires-clause-own c =
    let p = c.in-Some.parent in
    let h = c.args.h.0 in
    let up = above (goal.at.add_reach-requires-clause-own c).In-Some in
    c.requires.listed p.0 up.parent h (up.encloses h (own_tree c.args.tree.now.forest h c.requires.there))

flat : (c : After-add_reach) → IsFlat c.args.tree.now.forest (told c.add_reach.new.entries) c.in-Some.parent.0
flat c =
    let p = c.in-Some.parent in
    let f = c.args.tree.now.forest in
    let up = (above (goal.at.After-add_reach c).In-Some).parent in
    c.add_reach.ensures.flat f (parent-child f c.args.h.0 p.0 c.requires.once up) (c.requires.without p.0 up)

pub returns-in-Some-clause-own : goal.returns-in-Some-clause-own
returns-in-Some-clause-own c q up =
    let d = (goal.at.returns-in-Some-clause-own c).After-add_reach in
    let first = (above (goal.at.returns-in-Some-clause-own c).In-Some).parent in
    let same : c.in-Some.parent.0 ≡ q = let e : Some c.in-Some.parent.0 ≡ Some q = sym first ∙ up in cc in
    subst (λ j. IsFlat c.args.tree.now.forest (told c.add_reach.new.entries) j) same (flat d)

pub returns-in-Some-clause-reads : goal.returns-in-Some-clause-reads
returns-in-Some-clause-reads c =
    let d = (goal.at.returns-in-Some-clause-reads c).After-add_reach in
    let p = c.in-Some.parent.0 in
    record {
      each = λ k. elim (cases_Bool (eqb p k)) [
        | inl is ↦ inr (subst (λ j. IsFlat c.args.tree.now.forest (told c.add_reach.new.entries) j) (eqb-true p k is) (flat d))
        | inr other ↦ inl (c.add_reach.ensures.others k other)
      ];
      rest = c.add_reach.ensures.rest;
    }

pub returns-in-Some-clause-others : goal.returns-in-Some-clause-others
returns-in-Some-clause-others c k off =
    let up = (above (goal.at.returns-in-Some-clause-others c).In-Some).parent in
    c.add_reach.ensures.others k (subst (λ o. is_it k o ≡ false) up off)
