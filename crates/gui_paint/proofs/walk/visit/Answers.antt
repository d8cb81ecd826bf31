use Rattle.std.proofs.Common.{◌≡◌, ◌∙◌, sym, subst, Option, Some, None, [], arith}
use Rattle.std.specs.Prelude.{MatchOption}
use Rattle.gui_base.specs.Corners.{rect_of}
use Rattle.scene_defs.specs.Place.{place}
use Rattle.gui_store.specs.Views.{scene_of}
use Rattle.gui_paint.specs.Walking.{IsVisit, tree_walk}
use Rattle.gui_paint.specs.declared.walk.SeenObject.{SeenObject}
use Rattle.gui_paint.proofs.Trees.{is_there_row}
use Rattle.gui_paint.proofs.Walking.{visits, placeless, meets_nothing, meets_none, one_more, no_children}
use Rattle.gui_paint.proofs.walk.visit.Goals as goal

pub returns-in_err-row-clause-met : goal.returns-in_err-row-clause-met
returns-in_err-row-clause-met g c =
    let scene = scene_of c.args.shown.now.store.now in
    subst (λ (r : Option SeenObject). MatchOption r (tree_walk scene (rect_of c.args.clip) c.args.h.0 ≡ []) (λ seen. IsVisit scene (rect_of c.args.clip) c.args.h.0 (rect_of seen.place) (rect_of seen.visible)))
    (sym c.from_residual.ensures) (meets_none scene (rect_of c.args.clip) c.args.h.0 c.in_err-row.ensures.value)

pub returns-in_err-row-clause-steps : goal.returns-in_err-row-clause-steps
returns-in_err-row-clause-steps g c = omega (arith, no_children (scene_of c.args.shown.now.store.now) c.args.h.0 c.in_err-row.ensures.value)

pub returns-in_err-place-clause-met : goal.returns-in_err-place-clause-met
returns-in_err-place-clause-met g c =
    let scene = scene_of c.args.shown.now.store.now in
    let none : place scene c.args.h.0 ≡ None = sym (c.in_err-place.ensures.value ∙ c.args.shown.now.solved c.args.h.0) in
    subst (λ (r : Option SeenObject). MatchOption r (tree_walk scene (rect_of c.args.clip) c.args.h.0 ≡ []) (λ seen. IsVisit scene (rect_of c.args.clip) c.args.h.0 (rect_of seen.place) (rect_of seen.visible)))
    (sym c.from_residual-in_err-place.ensures) (placeless scene (rect_of c.args.clip) c.args.h.0 c.in_ok-row.row.now c.in_ok-row.ensures.value none)

pub returns-in_err-place-clause-steps : goal.returns-in_err-place-clause-steps
returns-in_err-place-clause-steps g c = omega (arith, one_more (scene_of c.args.shown.now.store.now) (rect_of c.args.clip) c.args.h.0 c.in_ok-row.row.now c.in_ok-row.ensures.value, c.tick.ensures)

pub returns-in_err-visible-clause-met : goal.returns-in_err-visible-clause-met
returns-in_err-visible-clause-met g c =
    let scene = scene_of c.args.shown.now.store.now in
    let at : place scene c.args.h.0 ≡ Some (rect_of c.in_ok-place.place) = sym (c.in_ok-place.ensures.value ∙ c.args.shown.now.solved c.args.h.0) in
    subst (λ (r : Option SeenObject). MatchOption r (tree_walk scene (rect_of c.args.clip) c.args.h.0 ≡ []) (λ seen. IsVisit scene (rect_of c.args.clip) c.args.h.0 (rect_of seen.place) (rect_of seen.visible)))
    (sym c.from_residual-in_err-visible.ensures) (meets_nothing scene (rect_of c.args.clip) c.args.h.0 c.in_ok-row.row.now (Some (rect_of c.in_ok-place.place)) c.in_ok-row.ensures.value at (sym c.in_err-visible.ensures))

pub returns-in_err-visible-clause-steps : goal.returns-in_err-visible-clause-steps
returns-in_err-visible-clause-steps g c = omega (arith, one_more (scene_of c.args.shown.now.store.now) (rect_of c.args.clip) c.args.h.0 c.in_ok-row.row.now c.in_ok-row.ensures.value, c.tick.ensures)

pub returns-clause-met : goal.returns-clause-met
returns-clause-met g c =
    let scene = scene_of c.args.shown.now.store.now in
    let row = c.in_ok-row.row.now in
    let is = c.in_ok-row.ensures.value in
    let at : place scene c.args.h.0 ≡ Some (rect_of c.in_ok-place.place) = sym (c.in_ok-place.ensures.value ∙ c.args.shown.now.solved c.args.h.0) in
    record {
      stands = record { there = is_there_row scene c.args.h.0 row is; stands = at; near = c.in_ok-place.ensures.near; narrow = c.in_ok-place.ensures.narrow };
      walk = visits scene (rect_of c.args.clip) c.args.h.0 row (rect_of c.in_ok-place.place) (rect_of c.in_ok-visible.visible) is at (sym c.in_ok-visible.ensures);
      small = omega (arith, one_more scene (rect_of c.args.clip) c.args.h.0 row is);
    }

pub returns-clause-steps : goal.returns-clause-steps
returns-clause-steps g c = omega (arith, one_more (scene_of c.args.shown.now.store.now) (rect_of c.args.clip) c.args.h.0 c.in_ok-row.row.now c.in_ok-row.ensures.value, c.tick.ensures)
