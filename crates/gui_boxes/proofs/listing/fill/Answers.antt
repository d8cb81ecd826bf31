use Rattle.std.proofs.Common.{◌≡◌, ◌<◌, ◌∷◌, ◌+◌, ℕ, length, subst, add-one, drop, get_or, List, drop-cons}
use Rattle.std.proofs.lemmas.List.{drop_all}
use Rattle.gui_base.specs.declared.Handle.{Handle}
use Rattle.gui_boxes.proofs.These.{HasBut, but_all, but_none, but_first, but_put}
use Rattle.gui_boxes.proofs.listing.fill.Goals as goal

abbrev none : Handle
none = record { 0 = 0 }

now : (hs : List Handle) (i : ℕ) → i < length hs → drop i hs ≡ get_or hs i none ∷ drop (i + 1) hs
now hs i within = rw (add-one, drop-cons hs i none)

pub loop-h-init : goal.loop-h-init
loop-h-init g c = but_all c.args.table.now.spare c.args.table.now c.args.listed.now c.requires.blank

pub put-requires : goal.put-requires
put-requires g c =
    let hs = c.args.listed.now in
    let i = c.loop-h.h-index in
    let t = c.loop-h.table in
    let objects = c.args.table.now.spare in
    let may = but_first objects t (get_or hs i none) hs (drop (i + 1) hs) c.requires.proper c.requires.few (subst (HasBut objects t hs) (now hs i c.loop-h-test.true) c.loop-h.invariant) in
    record { within = may.within; vacant = may.vacant; room = may.room }

pub loop-h-preserved : goal.loop-h-preserved
loop-h-preserved g c =
    let hs = c.args.listed.now in
    let i = c.loop-h.h-index in
    let t = c.loop-h.table in
    let objects = c.args.table.now.spare in
    let but = subst (HasBut objects t hs) (now hs i c.loop-h-test.true) c.loop-h.invariant in
    let may = but_first objects t (get_or hs i none) hs (drop (i + 1) hs) c.requires.proper c.requires.few but in
    but_put objects t c.put.new.table (get_or hs i none) c.args.value hs (drop (i + 1) hs) may c.put.ensures but

pub returns : goal.returns
returns g c =
    let hs = c.args.listed.now in
    let objects = c.args.table.now.spare in
    but_none objects c.loop-h.table hs (subst (HasBut objects c.loop-h.table hs) (drop_all c.loop-h.h-index hs c.loop-h-test.false) c.loop-h.invariant)
