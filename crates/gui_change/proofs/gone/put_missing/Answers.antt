use Rattle.std.proofs.Common.{◌≡◌, ◌∙◌, ◌∷◌, ◌+◌, refl, sym, ap, subst, drop, get_or, List, false, is_some}
use Rattle.std.proofs.lemmas.List.{drop_all}
use Rattle.gui_base.specs.declared.Handle.{Handle}
use Rattle.gui_boxes.specs.Listing.{AreProper}
use Rattle.gui_boxes.proofs.These.{HasBut, MayPut, but_first, but_none, but_put}
use Rattle.gui_pool.specs.Table.{value_at}
use Rattle.gui_store.specs.Views.{scene_of}
use Rattle.gui_change.proofs.Missing.{missing, missing-begins, missing-known, missing-other, missing-told}
use Rattle.gui_boxes.proofs.Entered.{now as next_of, nothing as nobody}
use Rattle.gui_change.proofs.Orders.{few_shown, shown_proper}
use Rattle.gui_change.proofs.Reordering.{copied-some}
use Rattle.gui_change.proofs.Staying.{times-item}
use Rattle.gui_change.proofs.Renewing.{put-keeps, put-sights}
use Rattle.gui_change.proofs.gone.put_missing.Goals as goal
use Rattle.gui_change.proofs.gone.put_missing.Goals.{After-is_some, After-tree-tree}

proper : (c : After-tree-tree) → AreProper c.args.listed.now
proper c = shown_proper (scene_of c.args.store.now) c.tree-tree.ensures.valid c.args.listed.now c.requires.listed

pub loop-h-init : goal.loop-h-init
loop-h-init c = record {
  but = missing-begins c.args.table.now (scene_of c.args.store.now).limits.objects c.args.listed.now (proper c) c.requires.some;
  sights = λ h. refl;
  known = λ concerned scene known. known;
}

-- what is left, one object after another
left : (c : After-is_some) → HasBut (scene_of c.args.store.now).limits.objects c.loop-h.table c.args.listed.now (missing c.args.table.now (get_or c.args.listed.now c.loop-h.h-index nobody ∷ drop (c.loop-h.h-index + 1) c.args.listed.now))
left c =
    subst (λ (hs : List Handle). HasBut (scene_of c.args.store.now).limits.objects c.loop-h.table c.args.listed.now (missing c.args.table.now hs))
    (next_of c.args.listed.now c.loop-h.h-index c.loop-h-test.true) c.loop-h.invariant.but

-- whether something is known of the next one
told : (c : After-is_some) → is_some (value_at c.args.table.now (get_or c.args.listed.now c.loop-h.h-index nobody).0) ≡ c.is_some.result
told c =
    let hs = c.args.listed.now in
    let i = c.loop-h.h-index in
    let h = get_or hs i nobody in
    sym (missing-told c.args.table.now (scene_of c.args.store.now).limits.objects c.loop-h.table h hs (drop (i + 1) hs)
    (shown_proper (scene_of c.args.store.now) c.tree-tree.ensures.valid hs c.requires.listed) (times-item hs i c.loop-h-test.true) (left c))
    ∙ (ap is_some (sym c.get.ensures) ∙ (copied-some c.get.result ∙ sym c.is_some.ensures))

pub loop-h-preserved-then-is_some : goal.loop-h-preserved-then-is_some
loop-h-preserved-then-is_some c =
    let d = (goal.at.loop-h-preserved-then-is_some c).After-is_some in
    let hs = c.args.listed.now in
    let i = c.loop-h.h-index in
    record {
      but = subst (HasBut (scene_of c.args.store.now).limits.objects c.loop-h.table hs) (missing-known c.args.table.now (get_or hs i nobody) (drop (i + 1) hs) (told d ∙ c.if-is_some.true)) (left d);
      sights = c.loop-h.invariant.sights;
      known = c.loop-h.invariant.known;
    }

-- the next one, where nothing is known of it
first : (c : After-is_some) → c.is_some.result ≡ false → HasBut (scene_of c.args.store.now).limits.objects c.loop-h.table c.args.listed.now (get_or c.args.listed.now c.loop-h.h-index nobody ∷ missing c.args.table.now (drop (c.loop-h.h-index + 1) c.args.listed.now))
first c none =
    let hs = c.args.listed.now in
    let i = c.loop-h.h-index in
    subst (HasBut (scene_of c.args.store.now).limits.objects c.loop-h.table hs) (missing-other c.args.table.now (get_or hs i nobody) (drop (i + 1) hs) (told c ∙ none)) (left c)

may : (c : After-is_some) → c.is_some.result ≡ false → MayPut c.loop-h.table (get_or c.args.listed.now c.loop-h.h-index nobody)
may c none =
    let scene = scene_of c.args.store.now in
    let valid = c.tree-tree.ensures.valid in
    let hs = c.args.listed.now in
    let i = c.loop-h.h-index in
    but_first scene.limits.objects c.loop-h.table (get_or hs i nobody) hs (missing c.args.table.now (drop (i + 1) hs)) (shown_proper scene valid hs c.requires.listed) (few_shown scene valid hs c.requires.listed) (first c none)

pub put-requires-clause-within : goal.put-requires-clause-within
put-requires-clause-within c = (may (goal.at.put-requires-clause-within c).After-is_some c.if-is_some.false).within

pub put-requires-clause-room : goal.put-requires-clause-room
put-requires-clause-room c = (may (goal.at.put-requires-clause-room c).After-is_some c.if-is_some.false).room

pub loop-h-preserved : goal.loop-h-preserved
loop-h-preserved c =
    let d = (goal.at.loop-h-preserved c).After-is_some in
    let hs = c.args.listed.now in
    let i = c.loop-h.h-index in
    let h = get_or hs i nobody in
    let t = c.loop-h.table in
    let u = c.put.new.table in
    let v = c.nothing.result in
    let can = may d c.if-is_some.false in
    record {
      but = but_put (scene_of c.args.store.now).limits.objects t u h v hs (missing c.args.table.now (drop (i + 1) hs)) can c.put.ensures (first d c.if-is_some.false);
      sights = λ k. put-sights t u h.0 v can.within c.put.ensures can.vacant c.nothing.ensures.sight k ∙ c.loop-h.invariant.sights k;
      known = λ concerned scene known. put-keeps t u h.0 v can.within c.put.ensures c.nothing.ensures.items concerned scene (c.loop-h.invariant.known concerned scene known);
    }

pub returns-clause-these : goal.returns-clause-these
returns-clause-these c =
    let hs = c.args.listed.now in
    let objects = (scene_of c.args.store.now).limits.objects in
    let none = ap (missing c.args.table.now) (drop_all c.loop-h.h-index hs c.loop-h-test.false) in
    but_none objects c.loop-h.table hs (subst (HasBut objects c.loop-h.table hs) none c.loop-h.invariant.but)
