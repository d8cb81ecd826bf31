use Rattle.std.proofs.Common.{◌∙◌, ap, subst, Bool, eqb, ◌||◌, None, inl, inr}
use Rattle.std.specs.List.{list_any}
use Rattle.std.proofs.lemmas.Bool.{cases_Bool, eqb-true}
use Rattle.gui_store.specs.Views.{scene_of}
use Rattle.gui_style.specs.Styles.{is_handle}
use Rattle.gui_change.specs.Sees.{IsSeenIn}
use Rattle.gui_change.proofs.SeenAgain.{shown-still, then-again}
use Rattle.gui_change.proofs.seeing.see_users.Goals as goal

pub see_one-requires-clause-shown : goal.see_one-requires-clause-shown
see_one-requires-clause-shown c = shown-still (scene_of c.args.after.now.store.now) c.args.table.now c.loop-h.table c.loop-h.invariant.sees.listing c.requires.shown

pub loop-h-preserved : goal.loop-h-preserved
loop-h-preserved c =
    let scene = scene_of c.args.after.now.store.now in
    let h = c.in-Some.h.now.0 in
    record {
      nearby = c.see_one.ensures.nearby;
      sees = then-again None scene c.args.table.now c.loop-h.table c.see_one.new.table c.args.damage.now c.loop-h.damage c.see_one.new.damage c.loop-h.invariant.sees c.see_one.ensures.sees;
      done = λ k uses left. elim (cases_Bool (eqb h k)) [
        | inl is ↦ subst (IsSeenIn c.see_one.new.table scene) (eqb-true h k is) c.see_one.ensures.own
        | inr other ↦ c.see_one.ensures.sees.seen k (c.loop-h.invariant.done k uses
            (ap (list_any (is_handle k)) c.in-Some.ensures ∙ (ap (λ (b : Bool). b || list_any (is_handle k) c.next.new.self) other ∙ left)))
      ];
    }

pub returns-clause-all : goal.returns-clause-all
returns-clause-all c k uses = c.loop-h.invariant.done k uses (ap (list_any (is_handle k)) c.in_default.ensures.0)
