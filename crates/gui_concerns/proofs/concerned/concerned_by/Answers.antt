use Rattle.std.proofs.Common.{refl, ◌∙◌, sym, ap, ℕ}
use Rattle.gui_base.specs.Forest.{Forest}
use Rattle.gui_base.specs.declared.Handle.{Handle}
use Rattle.debt_defs.specs.declared.subject.Subject.TheVariants as subject
use Rattle.gui_store.specs.Views.{scene_of}
use Rattle.gui_concerns.specs.Concerned.{parent_or_self}
use Rattle.gui_concerns.specs.declared.concerned.Concerned.TheVariants.{Nobody, One, Both}
use Rattle.gui_concerns.proofs.Covering.{covers_same, covers_spread, covers_styled, covers_own, covers_users, covers_below_users}
use Rattle.gui_concerns.proofs.Parents.{covers_goes, covers_moves, covers_among}
use Rattle.gui_concerns.proofs.concerned.concerned_by.Goals as goal

pub returns-in-Own-clause-covers : goal.returns-in-Own-clause-covers
returns-in-Own-clause-covers c = covers_same (scene_of c.args.store.now) c.args.change.now (One c.in-Own.h) (subject.Own c.in-Own.h) (λ k. refl) c.in-Own.ensures

pub returns-in-Spread-clause-covers : goal.returns-in-Spread-clause-covers
returns-in-Spread-clause-covers c = covers_spread (scene_of c.args.store.now) c.args.change.now c.in-Spread.h c.in-Spread.ensures

pub returns-in-Styled-clause-covers : goal.returns-in-Styled-clause-covers
returns-in-Styled-clause-covers c = covers_own (scene_of c.args.store.now) c.args.change.now c.in-Styled.h c.in-Styled.reach c.in-Styled.ensures (sym c.is_own.ensures ∙ c.if-is_own.true)

pub returns-in-Styled-2-clause-covers : goal.returns-in-Styled-2-clause-covers
returns-in-Styled-2-clause-covers c = covers_styled (scene_of c.args.store.now) c.args.change.now _ _ c.in-Styled.ensures

pub returns-in-Shared-clause-covers : goal.returns-in-Shared-clause-covers
returns-in-Shared-clause-covers c = covers_users (scene_of c.args.store.now) c.args.change.now c.in-Shared.style c.in-Shared.prop c.in-Shared.ensures (sym c.if-not-inherits.ensures)

pub returns-in-Shared-2-clause-covers : goal.returns-in-Shared-2-clause-covers
returns-in-Shared-2-clause-covers c = covers_below_users (scene_of c.args.store.now) c.args.change.now _ _ c.in-Shared.ensures

pub returns-in-Comes-clause-covers : goal.returns-in-Comes-clause-covers
returns-in-Comes-clause-covers c =
    covers_same (scene_of c.args.store.now) c.args.change.now (Both c.in-Comes.n c.in-Comes.parent) (subject.Comes c.in-Comes.n c.in-Comes.parent) (λ k. refl) c.in-Comes.ensures

pub returns-in-Goes-clause-covers : goal.returns-in-Goes-clause-covers
returns-in-Goes-clause-covers c =
    let trees = ap (λ (f : Forest ℕ). parent_or_self f c.in-Goes.h.0) c.tree-tree.ensures.forest in
    covers_goes (scene_of c.args.store.now) c.tree-tree.ensures.valid _ _ (ap (λ (p : Handle). p.0) c.parent_or_self.ensures ∙ trees) c.args.change.now c.in-Goes.ensures

pub returns-in-Moves-clause-covers : goal.returns-in-Moves-clause-covers
returns-in-Moves-clause-covers c =
    let trees = ap (λ (f : Forest ℕ). parent_or_self f c.in-Moves.h.0) c.tree-tree.ensures.forest in
    covers_moves (scene_of c.args.store.now) c.tree-tree.ensures.valid _ _ (ap (λ (p : Handle). p.0) c.parent_or_self-in-Moves.ensures ∙ trees) c.args.change.now _ c.in-Moves.ensures

pub returns-in-Among-clause-covers : goal.returns-in-Among-clause-covers
returns-in-Among-clause-covers c =
    let trees = ap (λ (f : Forest ℕ). parent_or_self f c.in-Among.h.0) c.tree-tree.ensures.forest in
    covers_among (scene_of c.args.store.now) c.tree-tree.ensures.valid _ _ (ap (λ (p : Handle). p.0) c.parent_or_self-in-Among.ensures ∙ trees) c.args.change.now c.in-Among.ensures

pub returns-in-Nobody-clause-covers : goal.returns-in-Nobody-clause-covers
returns-in-Nobody-clause-covers c = covers_same (scene_of c.args.store.now) c.args.change.now Nobody subject.Nobody (λ k. refl) c.in-Nobody.ensures
