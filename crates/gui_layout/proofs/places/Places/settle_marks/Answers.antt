use Rattle.std.proofs.Common.{◌≡◌, ◌<◌, sym, ap, subst, List, [], ◌∷◌, arith}
use Rattle.std.specs.Prelude.{IfSome}
use Rattle.gui_base.specs.declared.Handle.{Handle}
use Rattle.gui_boxes.specs.Listing.{times}
use Rattle.gui_boxes.proofs.Pendings.{marked-times, own-all, pending-none, times-marked}
use Rattle.gui_boxes.proofs.These.{length_kept, these_kept}
use Rattle.gui_layout.proofs.places.Places.settle_marks.Goals as goal

pub settle_listed-requires-clause-marked : goal.settle_listed-requires-clause-marked
settle_listed-requires-clause-marked c k some =
    let marks = c.args.marks.now in
    times-marked marks.objects marks.pending marks.listed.items k marks.marks (subst (λ (hs : List Handle). 0 < times hs k) c.as_slice.ensures.value some)

pub settle_listed-requires-clause-listed : goal.settle_listed-requires-clause-listed
settle_listed-requires-clause-listed c k is =
    let marks = c.args.marks.now in
    subst (λ (hs : List Handle). 0 < times hs k) (sym c.as_slice.ensures.value) (marked-times marks.objects marks.pending marks.listed.items k marks.marks.these is)

-- as many may be listed as may be marked
pub settle_listed-requires-clause-room : goal.settle_listed-requires-clause-room
settle_listed-requires-clause-room c =
    let marks = c.args.marks.now in
    let all = marks.marks.these.room in
    let room = marks.solved_room in
    rw (c.as_slice.ensures.value, c.clear.ensures.capacity) (omega arith)

pub invariant_of-marks : goal.invariant_of-marks
invariant_of-marks c =
    let marks = c.args.marks.now in
    let room = marks.room in
    let solved_room = marks.solved_room in
    record {
      marks = c.clear_marks.ensures.marks marks.objects (these_kept marks.objects marks.pending c.settle_listed.new.pending marks.listed.items c.settle_listed.ensures.marks marks.marks.these) (rw (length_kept marks.pending c.settle_listed.new.pending c.settle_listed.ensures.marks) marks.marks.keys);
      room = rw c.clear_marks.ensures.capacity room;
      solved_room = rw (c.settle_listed.ensures.capacity, c.clear.ensures.capacity) solved_room;
    }

pub returns-clause-empty : goal.returns-clause-empty
returns-clause-empty c k =
    let marks = c.args.marks.now in
    let now = c.clear_marks.ensures.marks marks.objects (these_kept marks.objects marks.pending c.settle_listed.new.pending marks.listed.items c.settle_listed.ensures.marks marks.marks.these) (rw (length_kept marks.pending c.settle_listed.new.pending c.settle_listed.ensures.marks) marks.marks.keys) in
    pending-none marks.objects c.clear_marks.new.pending c.clear_marks.new.listed.items k now.these (ap (λ (hs : List Handle). times hs k) c.clear_marks.ensures.empty)

pub settle_listed-requires-clause-alone : goal.settle_listed-requires-clause-alone
settle_listed-requires-clause-alone c =
    subst (λ (hs : List Handle). IfSome c.args.lone (λ h. hs ≡ h ∷ [])) (sym c.as_slice.ensures.value) c.requires.alone

pub returns-clause-settles : goal.returns-clause-settles
returns-clause-settles c = c.settle_listed.ensures.settles

pub returns-clause-moves : goal.returns-clause-moves
returns-clause-moves c = c.settle_listed.ensures.moves

pub returns-clause-scrolls : goal.returns-clause-scrolls
returns-clause-scrolls c = c.settle_listed.ensures.scrolls

-- no mark is settled or raised before
pub settle_listed-requires-clause-first : goal.settle_listed-requires-clause-first
settle_listed-requires-clause-first c k =
    let marks = c.args.marks.now in
    own-all marks.objects marks.pending marks.listed.items k marks.marks

pub returns-clause-lists : goal.returns-clause-lists
returns-clause-lists c = c.settle_listed.ensures.lists
