use Rattle.std.proofs.Common.{◌≡◌, ◌∙◌, sym, ap, refl, ℕ, None, true, false}
use Rattle.gui_base.specs.Forest.{Forest, has}
use Rattle.gui_store.specs.Views.{scene_of}
use Rattle.scene_defs.specs.Scene.{is_there}
use Rattle.gui_change.proofs.SeenAgain.{hidden-again}
use Rattle.gui_change.proofs.SeenBelow.{below-tree, gone-below, gone-unknown}
use Rattle.gui_change.proofs.seeing.see_below.Goals as goal

pub returns-then-not-has-clause-sees : goal.returns-then-not-has-clause-sees
returns-then-not-has-clause-sees c =
    let scene = scene_of c.args.after.now.store.now in
    let gone : is_there scene c.args.h.0 ≡ false = ap (λ (f : Forest ℕ). has f c.args.h.0) (sym c.tree.ensures.forest) ∙ (sym c.has.ensures ∙ c.if-not-has.true) in
    hidden-again scene None c.args.table.now c.requires.shown c.args.h.0 (λ k off. refl) c.args.damage.now
    (gone-unknown scene c.tree.ensures.valid c.args.h.0 c.args.table.now c.requires.shown gone)

pub returns-then-not-has-clause-all : goal.returns-then-not-has-clause-all
returns-then-not-has-clause-all c =
    let scene = scene_of c.args.after.now.store.now in
    let gone : is_there scene c.args.h.0 ≡ false = ap (λ (f : Forest ℕ). has f c.args.h.0) (sym c.tree.ensures.forest) ∙ (sym c.has.ensures ∙ c.if-not-has.true) in
    gone-below scene c.tree.ensures.valid c.args.h.0 c.args.table.now c.requires.shown gone

pub returns-clause-all : goal.returns-clause-all
returns-clause-all c k below =
    let scene = scene_of c.args.after.now.store.now in
    let there : is_there scene c.args.h.0 ≡ true = ap (λ (f : Forest ℕ). has f c.args.h.0) (sym c.tree.ensures.forest) ∙ (sym c.has.ensures ∙ c.if-not-has.false) in
    c.see_tree.ensures.all k (below-tree scene c.tree.ensures.valid c.args.h.0 there k below)
