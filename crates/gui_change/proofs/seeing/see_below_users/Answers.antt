use Rattle.std.proofs.Common.{◌≡◌, ◌∙◌, sym, ap, subst, ℕ, Bool, true, eqb, ◌||◌, None, inl, inr}
use Rattle.std.specs.List.{list_any}
use Rattle.std.proofs.lemmas.Bool.{both_ways, cases_Bool, eqb-true}
use Rattle.gui_store.specs.Views.{scene_of}
use Rattle.gui_style.specs.Styles.{is_handle}
use Rattle.gui_concerns.specs.Concerned.{is_below}
use Rattle.gui_change.specs.Sees.{is_below_other}
use Rattle.gui_change.proofs.SeenAgain.{shown-still, then-again}
use Rattle.gui_change.proofs.SeenBelow.{user-below}
use Rattle.gui_change.proofs.seeing.see_below_users.Goals as goal

pub see_below-requires-clause-shown : goal.see_below-requires-clause-shown
see_below-requires-clause-shown c = shown-still (scene_of c.args.after.now.store.now) c.args.table.now c.loop-h.table c.loop-h.invariant.sees.listing c.requires.shown

pub loop-h-preserved-then-is_below_other : goal.loop-h-preserved-then-is_below_other
loop-h-preserved-then-is_below_other c =
    let scene = scene_of c.args.after.now.store.now in
    let h = c.in-Some.h.now.0 in
    let other : is_below_other scene c.args.style h ≡ true = sym c.is_below_other.ensures ∙ c.if-is_below_other.true in
    record {
      room = c.loop-h.invariant.room;
      sees = c.loop-h.invariant.sees;
      done = λ u k uses top below left. elim (cases_Bool (eqb h u)) [
        | inl is ↦ absurd (both_ways (is_below_other scene c.args.style u) top (subst (λ (j : ℕ). is_below_other scene c.args.style j ≡ true) (eqb-true h u is) other))
        | inr differs ↦ c.loop-h.invariant.done u k uses top below
            (ap (list_any (is_handle u)) c.in-Some.ensures ∙ (ap (λ (b : Bool). b || list_any (is_handle u) c.next.new.self) differs ∙ left))
      ];
    }

pub loop-h-preserved : goal.loop-h-preserved
loop-h-preserved c =
    let scene = scene_of c.args.after.now.store.now in
    let h = c.in-Some.h.now.0 in
    record {
      room = c.see_below.ensures.room;
      sees = then-again None scene c.args.table.now c.loop-h.table c.see_below.new.table c.args.damage.now c.loop-h.damage c.see_below.new.damage c.loop-h.invariant.sees c.see_below.ensures.sees;
      done = λ u k uses top below left. elim (cases_Bool (eqb h u)) [
        | inl is ↦ c.see_below.ensures.all k (subst (λ (j : ℕ). is_below scene j k ≡ true) (sym (eqb-true h u is)) below)
        | inr other ↦ c.see_below.ensures.sees.seen k (c.loop-h.invariant.done u k uses top below
            (ap (list_any (is_handle u)) c.in-Some.ensures ∙ (ap (λ (b : Bool). b || list_any (is_handle u) c.next.new.self) other ∙ left)))
      ];
    }

pub returns-clause-all : goal.returns-clause-all
returns-clause-all c k =
    user-below (scene_of c.args.after.now.store.now) c.args.style c.tree-tree.ensures.valid.trees.once k (λ u uses top below. c.loop-h.invariant.done u k uses top below (ap (list_any (is_handle u)) c.in_default.ensures.0))
