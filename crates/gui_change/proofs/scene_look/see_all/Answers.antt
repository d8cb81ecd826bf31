use Rattle.std.proofs.Common.{◌+◌, ap, subst, drop, get_or}
use Rattle.std.specs.Prelude.{is_some}
use Rattle.std.proofs.lemmas.List.{drop_all}
use Rattle.gui_store.specs.Views.{scene_of}
use Rattle.gui_boxes.proofs.These.{HasBut, but_all, but_none, but_first, but_put, some_none}
use Rattle.gui_boxes.proofs.Entered.{now as next_of, nothing as nobody}
use Rattle.gui_change.proofs.Orders.{listed_there, shown_proper}
use Rattle.gui_change.proofs.Sighted.{seen_put}
use Rattle.gui_change.proofs.scene_look.see_all.Goals as goal

pub loop-h-init : goal.loop-h-init
loop-h-init c = record {
  nearby = c.new-nearby.ensures;
  but = but_all c.args.table.now.spare c.args.table.now c.args.listed.now c.requires.blank;
  seen = λ h s found. some_none c.args.table.now.spare c.args.table.now h c.requires.blank (ap is_some found);
}

pub see-seen-requires-clause-there : goal.see-seen-requires-clause-there
see-seen-requires-clause-there c =
    rw c.see-sighting.ensures.handle
    (listed_there (scene_of c.args.store.now) c.requires.valid c.args.listed.now c.requires.order c.loop-h.h-index c.loop-h-test.true)

pub put-requires : goal.put-requires
put-requires c =
    let hs = c.args.listed.now in
    let i = c.loop-h.h-index in
    let t = c.loop-h.table in
    let objects = c.args.table.now.spare in
    let proper = shown_proper (scene_of c.args.store.now) c.requires.valid hs c.requires.order in
    let may = but_first objects t (get_or hs i nobody) hs (drop (i + 1) hs) proper c.requires.few (subst (HasBut objects t hs) (next_of hs i c.loop-h-test.true) c.loop-h.invariant.but) in
    record { within = may.within; vacant = may.vacant; room = may.room }

pub loop-h-preserved : goal.loop-h-preserved
loop-h-preserved c =
    let hs = c.args.listed.now in
    let i = c.loop-h.h-index in
    let t = c.loop-h.table in
    let objects = c.args.table.now.spare in
    let proper = shown_proper (scene_of c.args.store.now) c.requires.valid hs c.requires.order in
    let but = subst (HasBut objects t hs) (next_of hs i c.loop-h-test.true) c.loop-h.invariant.but in
    let may = but_first objects t (get_or hs i nobody) hs (drop (i + 1) hs) proper c.requires.few but in
    record {
      nearby = c.see-sighting.ensures.nearby;
      but = but_put objects t c.put.new.table (get_or hs i nobody) c.see-seen.result hs (drop (i + 1) hs) may c.put.ensures but;
      seen = seen_put (scene_of c.args.store.now) t c.put.new.table (get_or hs i nobody).0 c.see-seen.result may.within c.put.ensures (rw c.see-sighting.ensures.handle at c.see-seen.ensures) c.loop-h.invariant.seen;
    }

pub returns-clause-these : goal.returns-clause-these
returns-clause-these c =
    let hs = c.args.listed.now in
    let objects = c.args.table.now.spare in
    but_none objects c.loop-h.table hs (subst (HasBut objects c.loop-h.table hs) (drop_all c.loop-h.h-index hs c.loop-h-test.false) c.loop-h.invariant.but)
