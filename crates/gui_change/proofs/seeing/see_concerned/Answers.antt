use Rattle.std.proofs.Common.{◌≡◌, ◌∙◌, sym, subst, ℕ, true, eqb, ◌||◌, None, inl, inr}
use Rattle.std.proofs.lemmas.Bool.{eqb-true, or_cases}
use Rattle.gui_store.specs.Views.{scene_of}
use Rattle.gui_pool.specs.Table.{Table}
use Rattle.scene_defs.specs.Scene.{Scene}
use Rattle.gui_concerns.specs.Concerned.{is_below, may_be}
use Rattle.gui_change.specs.Sees.{IsSeenIn}
use Rattle.gui_concerns.specs.declared.concerned.Concerned.{Concerned}
use Rattle.gui_debts.specs.declared.seen.Seen.{Seen}
use Rattle.gui_change.proofs.SeenAgain.{shown-still, then-again}
use Rattle.gui_change.proofs.seeing.see_concerned.Goals as goal

-- the objects that may be concerned, as the match tells them
told : (scene : Scene) (a b : Concerned) (k : ℕ) → a ≡ b → may_be scene a k ≡ true → may_be scene b k ≡ true
told scene a b k is may = subst (λ (c : Concerned). may_be scene c k ≡ true) is may

-- one of two
of-both : (t : Table Seen) (scene : Scene) (h m k : ℕ) → IsSeenIn t scene h → IsSeenIn t scene m → (eqb k h || eqb k m) ≡ true → IsSeenIn t scene k
of-both t scene h m k own other is = elim (or_cases (eqb k h) (eqb k m) is) [
  | inl a ↦ subst (IsSeenIn t scene) (sym (eqb-true k h a)) own
  | inr b ↦ subst (IsSeenIn t scene) (sym (eqb-true k m b)) other
]

pub see_below-requires-in-Moved-clause-shown : goal.see_below-requires-in-Moved-clause-shown
see_below-requires-in-Moved-clause-shown c = shown-still (scene_of c.args.after.now.store.now) c.args.table.now c.see_both-in-Moved.new.table c.see_both-in-Moved.ensures.sees.listing c.requires.shown

pub returns-in-One-clause-all : goal.returns-in-One-clause-all
returns-in-One-clause-all c k may =
    let scene = scene_of c.args.after.now.store.now in
    let same = eqb-true k c.in-One.h.0 (told scene c.args.after.now.concerned _ k c.in-One.is may) in
    subst (IsSeenIn c.args.table.now scene) (sym same) (c.requires.own c.in-One.h.0 (sym c.is_named.ensures ∙ c.if-is_named.true))

pub returns-in-One-2-clause-all : goal.returns-in-One-2-clause-all
returns-in-One-2-clause-all c k may =
    let scene = scene_of c.args.after.now.store.now in
    let same = eqb-true k c.in-One-2.h.0 (told scene c.args.after.now.concerned _ k c.in-One-2.is may) in
    subst (IsSeenIn c.see_one.new.table scene) (sym same) c.see_one.ensures.own

pub returns-in-Both-clause-all : goal.returns-in-Both-clause-all
returns-in-Both-clause-all c k may =
    let scene = scene_of c.args.after.now.store.now in
    of-both c.see_both.new.table scene c.in-Both.h.0 c.in-Both.k.0 k c.see_both.ensures.own c.see_both.ensures.other (told scene c.args.after.now.concerned _ k c.in-Both.is may)

pub returns-in-Below-clause-all : goal.returns-in-Below-clause-all
returns-in-Below-clause-all c k may = c.see_beneath.ensures.all k (told (scene_of c.args.after.now.store.now) c.args.after.now.concerned _ k c.in-Below.is may)

pub see_beneath-requires-clause-own : goal.see_beneath-requires-clause-own
see_beneath-requires-clause-own c = c.requires.own c.in-Below.h.0 (sym c.if-is_named-2.ensures)

pub returns-in-Below-2-clause-all : goal.returns-in-Below-2-clause-all
returns-in-Below-2-clause-all c k may = c.see_below.ensures.all k (told (scene_of c.args.after.now.store.now) c.args.after.now.concerned _ k c.in-Below-2.is may)

pub returns-in-Moved-clause-sees : goal.returns-in-Moved-clause-sees
returns-in-Moved-clause-sees c =
    then-again None (scene_of c.args.after.now.store.now) c.args.table.now c.see_both-in-Moved.new.table c.see_below-in-Moved.new.table c.args.damage.now c.see_both-in-Moved.new.damage c.see_below-in-Moved.new.damage
    c.see_both-in-Moved.ensures.sees c.see_below-in-Moved.ensures.sees

pub returns-in-Moved-clause-all : goal.returns-in-Moved-clause-all
returns-in-Moved-clause-all c k may =
    let scene = scene_of c.args.after.now.store.now in
    let two = c.see_both-in-Moved.ensures in
    let m = c.in-Moved in
    elim (or_cases (eqb k m.k.0 || eqb k m.m.0) (is_below scene m.h.0 k) (told scene c.args.after.now.concerned _ k m.is may)) [
      | inl either ↦ c.see_below-in-Moved.ensures.sees.seen k (of-both c.see_both-in-Moved.new.table scene m.k.0 m.m.0 k two.own two.other either)
      | inr below ↦ c.see_below-in-Moved.ensures.all k below
    ]

pub returns-in-Users-clause-all : goal.returns-in-Users-clause-all
returns-in-Users-clause-all c k may = c.see_users.ensures.all k (told (scene_of c.args.after.now.store.now) c.args.after.now.concerned _ k c.in-Users.is may)

pub returns-in-BelowUsers-clause-all : goal.returns-in-BelowUsers-clause-all
returns-in-BelowUsers-clause-all c k may = c.see_below_users.ensures.all k (told (scene_of c.args.after.now.store.now) c.args.after.now.concerned _ k c.in-BelowUsers.is may)

pub returns-in-Anybody-clause-all : goal.returns-in-Anybody-clause-all
returns-in-Anybody-clause-all c k may = c.see_shown.ensures.all k
