use Rattle.std.proofs.Common.{None, ◌≡◌, ◌∙◌, ◌∷◌, ◌+◌, refl, sym, ap, subst, ℕ, eqb, drop, get_or, List, inl, inr, arith}
use Rattle.std.proofs.lemmas.Bool.{cases_Bool, eqb-true}
use Rattle.std.proofs.lemmas.List.{drop_all}
use Rattle.gui_base.specs.declared.Handle.{Handle}
use Rattle.gui_boxes.specs.Listing.{times}
use Rattle.gui_boxes.proofs.Entered.{now as next_of, nothing as nobody}
use Rattle.gui_store.specs.Views.{scene_of}
use Rattle.gui_change.specs.Sees.{IsSeenIn}
use Rattle.gui_change.proofs.Downward.{none-down, then-down}
use Rattle.gui_change.proofs.SeenAgain.{shown-still}
use Rattle.gui_change.proofs.down.see_moved.Goals as goal

pub loop-h-init : goal.loop-h-init
loop-h-init c = record {
  nearby = c.new-nearby.ensures;
  down = none-down (scene_of c.args.after.now.store.now) c.args.table.now c.args.damage.now;
  done = λ k less. absurd (omega (arith, less));
}

pub see_down-requires-clause-known : goal.see_down-requires-clause-known
see_down-requires-clause-known c = c.loop-h.invariant.down.sees.keeps c.args.after.now.painted c.requires.known

pub see_down-requires-clause-shown : goal.see_down-requires-clause-shown
see_down-requires-clause-shown c =
    shown-still (scene_of c.args.after.now.store.now) c.args.table.now c.loop-h.table c.loop-h.invariant.down.sees.listing c.requires.shown

-- the named one was seen
pub loop-h-preserved-then-is_named : goal.loop-h-preserved-then-is_named
loop-h-preserved-then-is_named c =
    let hs = c.args.moved.now in
    let i = c.loop-h.h-index in
    let h = get_or hs i nobody in
    let later = drop (i + 1) hs in
    let next : drop i hs ≡ h ∷ later = next_of hs i c.loop-h-test.true in
    let inv = c.loop-h.invariant in
    record {
      nearby = inv.nearby;
      down = inv.down;
      done = λ k less. elim (cases_Bool (eqb h.0 k)) [
        | inl here ↦ subst (λ (n : ℕ). IsSeenIn c.loop-h.table (scene_of c.args.after.now.store.now) n) (eqb-true h.0 k here) (inv.down.sees.seen h.0 (c.requires.own h.0 (sym c.is_named.ensures ∙ c.if-is_named.true)))
        | inr other ↦
            let same : times (drop i hs) k ≡ 0 + times later k = ap (λ (l : List Handle). times l k) next ∙ rw other refl in
            inv.done k (omega (arith, same, less))
      ];
    }

pub loop-h-preserved : goal.loop-h-preserved
loop-h-preserved c =
    let scene = scene_of c.args.after.now.store.now in
    let hs = c.args.moved.now in
    let i = c.loop-h.h-index in
    let h = get_or hs i nobody in
    let later = drop (i + 1) hs in
    let next : drop i hs ≡ h ∷ later = next_of hs i c.loop-h-test.true in
    let inv = c.loop-h.invariant in
    record {
      nearby = c.see_down.ensures.nearby;
      down = then-down None scene c.args.table.now c.loop-h.table c.see_down.new.table c.args.damage.now c.loop-h.damage c.see_down.new.damage inv.down c.see_down.ensures.down;
      done = λ k less. elim (cases_Bool (eqb h.0 k)) [
        | inl here ↦ subst (λ (n : ℕ). IsSeenIn c.see_down.new.table scene n) (eqb-true h.0 k here) c.see_down.ensures.own
        | inr other ↦
            let same : times (drop i hs) k ≡ 0 + times later k = ap (λ (l : List Handle). times l k) next ∙ rw other refl in
            c.see_down.ensures.down.sees.seen k (inv.done k (omega (arith, same, less)))
      ];
    }

pub returns-clause-down : goal.returns-clause-down
returns-clause-down c = c.loop-h.invariant.down

pub returns-clause-all : goal.returns-clause-all
returns-clause-all c k some =
    let left = ap (λ (l : List Handle). times l k) (drop_all c.loop-h.h-index c.args.moved.now c.loop-h-test.false) in
    c.loop-h.invariant.done k (omega (arith, left, some))
