use Rattle.std.proofs.Common.{◌≡◌, ◌∙◌, sym, subst, ℕ, true, List, option_map}
use Rattle.gui_store.specs.Views.{scene_of}
use Rattle.scene_defs.specs.Shown.{order}
use Rattle.debt_defs.specs.SceneLook.{is_among}
use Rattle.gui_change.specs.Dues.{OwesAll}
use Rattle.gui_concerns.specs.Handles.{number_of}
use Rattle.gui_debts.specs.Sights.{KeepOthers}
use Rattle.gui_concerns.specs.declared.concerned.Concerned.{Concerned}
use Rattle.gui_change.proofs.Owing.{again_is_debt}
use Rattle.gui_change.proofs.Repainted.{painted-known}
use Rattle.gui_change.specs.Marking.{beside_moved, moved_by}
use Rattle.gui_change.specs.Shifted.{WasShifted}
use Rattle.gui_change.proofs.Still.{entries-stay, kept, order-stays, was-shifted}
use Rattle.gui_change.proofs.edits.see_same.Goals as goal

pub settle_moved-kept-requires-clause-was : goal.settle_moved-kept-requires-clause-was
settle_moved-kept-requires-clause-was c = kept c.args.places.now c.args.look.now (scene_of c.args.made.now.store.now) c.args.made.now.change.now c.args.made.now.concerned c.requires.was.removed c.requires.was.seen

pub invariant_of-after-clause-solved : goal.invariant_of-after-clause-solved
invariant_of-after-clause-solved c = c.settle_moved-kept.ensures.settles.settled.solved

pub see_shifted-requires-clause-painted : goal.see_shifted-requires-clause-painted
see_shifted-requires-clause-painted c =
    let look = c.args.look.now in
    let scene = scene_of c.args.made.now.store.now in
    subst (λ (some : Concerned). KeepOthers look.seen some scene) (sym c.painted_by.ensures)
    (painted-known c.args.places.now look scene c.args.made.now.change.now c.args.made.now.concerned c.requires.was c.requires.known)

pub invariant_of-after-clause-reached : goal.invariant_of-after-clause-reached
invariant_of-after-clause-reached c = c.settle_moved-kept.ensures.settles.settled.reached

pub see_shifted-requires-clause-entries : goal.see_shifted-requires-clause-entries
see_shifted-requires-clause-entries c =
    c.requires.was.seen.shows.entries
    ∙ sym (entries-stay c.args.places.now c.args.look.now (scene_of c.args.made.now.store.now) c.args.made.now.change.now c.args.made.now.concerned c.requires.was.removed c.requires.was.seen)

pub see_shifted-requires-clause-entries_room : goal.see_shifted-requires-clause-entries_room
see_shifted-requires-clause-entries_room c = c.requires.was.seen.shows.entries_room

pub see_shifted-requires-clause-was : goal.see_shifted-requires-clause-was
see_shifted-requires-clause-was c =
    let old = c.args.places.now in
    let look = c.args.look.now in
    let made = c.args.made.now in
    let scene = scene_of made.store.now in
    let was = c.requires.was in
    let settles = c.settle_moved-kept.ensures.settles in
    let named = option_map number_of made.named in
    subst (λ (some : Concerned). WasShifted look.seen scene named some c.moved_by-moved.result.now) (sym c.beside_moved.ensures)
    (subst (WasShifted look.seen scene named (beside_moved made.change.now made.concerned)) (sym c.moved_by-moved.ensures)
    (was-shifted old look scene made.change.now made.concerned was.removed was.seen c.settle_moved-kept.new.places (moved_by c.settle_moved-kept.new.places c.settle_moved-kept.new.marks c.settle_moved-kept.result) settles.settled settles.stays
    (c.settle_moved-kept.ensures.boxes (kept old look scene made.change.now made.concerned was.removed was.seen)) settles.scrolls c.settle_moved-kept.ensures.all named))

pub returns-clause-debt : goal.returns-clause-debt
returns-clause-debt c before shows =
    let scene = scene_of c.args.made.now.store.now in
    let look = c.args.look.now in
    let was = c.requires.was in
    let ordered = order-stays c.args.places.now look scene c.args.made.now.change.now c.args.made.now.concerned was.removed was.seen in
    let same : order scene ≡ order before = ordered ∙ (sym was.seen.shows.order ∙ shows.order) in
    let still = λ (h : ℕ) (i : is_among (order before) h ≡ true). subst (λ (hs : List ℕ). is_among hs h ≡ true) (sym same) i in
    subst (OwesAll c.args.damage.now c.see_shifted.new.damage) (again_is_debt scene.limits.objects (option_map number_of c.args.made.now.named) look before scene shows still) c.see_shifted.ensures.debt
