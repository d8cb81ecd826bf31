use Rattle.std.proofs.Common.{◌≡◌, ◌∙◌, ◌<◌, ◌+◌, ◌∷◌, [], refl, sym, ap, subst, ℕ, true, false, eqb, cond, length, add-one, drop, get_or, List, drop-cons, arith}
use Rattle.std.proofs.lemmas.Bool.{eqb-true, both_ways, false_from_ne_true}
use Rattle.std.proofs.lemmas.List.{drop_all}
use Rattle.gui_base.specs.Forest.{has}
use Rattle.gui_base.specs.declared.Handle.{Handle}
use Rattle.gui_store.specs.Views.{scene_of}
use Rattle.scene_defs.specs.Scene.{handles_of}
use Rattle.gui_boxes.specs.Listing.{times}
use Rattle.gui_boxes.specs.Pending.{is_pending}
use Rattle.gui_boxes.specs.Tables.{Listing, IsListed}
use Rattle.gui_layout.proofs.Stepping.{marked-fewer, settles-none, settles-then}
use Rattle.gui_layout.proofs.Tops.{one-listed, solves-none, solves-then}
use Rattle.gui_layout.specs.Tops.{ScrollsAt, SolvesAt}
use Rattle.gui_layout.specs.Moved.{Propagates}
use Rattle.gui_layout.specs.Scenes.{scene_box}
use Rattle.gui_layout.specs.SettledBut.{in_marked}
use Rattle.gui_layout.specs.Solved.{layout_of}
use Rattle.gui_layout.proofs.Spreading.{propagates-none, propagates-then}
use Rattle.gui_layout.proofs.Overs.{scrolls-none, scrolls-then}
use Rattle.std.specs.Option.{option_to_list}
use Rattle.gui_layout.proofs.places.Places.settle_marked.Goals as goal

abbrev none : Handle
none = record { 0 = 0 }

now : (hs : List Handle) (i : ℕ) → i < length hs → drop i hs ≡ get_or hs i none ∷ drop (i + 1) hs
now hs i within = rw (add-one, drop-cons hs i none)

-- a mark that is left is not this one
later : (hs : List Handle) (h : Handle) (k : ℕ) (next : List Handle) → hs ≡ h ∷ next → eqb h.0 k ≡ false → 0 < times hs k → 0 < times next k
later hs h k next is other some =
    let same : times hs k ≡ 0 + times next k = ap (λ xs. times xs k) is ∙ ap (λ b. cond b 1 0 + times next k) other in omega arith

pub loop-h-init : goal.loop-h-init
loop-h-init c = record {
  settles = settles-none (scene_of c.args.store.now) c.args.self.now (is_pending c.args.pending.now);
  solves = subst (λ us. SolvesAt c.args.self.now c.args.self.now (scene_of c.args.store.now) (is_pending c.args.pending.now) (is_pending c.args.pending.now) us) (sym c.requires.empty) (solves-none (scene_of c.args.store.now) c.args.self.now (is_pending c.args.pending.now));
  scrolls = subst (λ us. ScrollsAt c.args.self.now c.args.self.now (scene_of c.args.store.now) (is_pending c.args.pending.now) us) (sym c.requires.empty) (scrolls-none (scene_of c.args.store.now) c.args.self.now (is_pending c.args.pending.now));
  ready = c.requires.ready;
  moves =
      (let scene = scene_of c.args.store.now in
      let l = layout_of c.args.self.now in
      let s = in_marked (is_pending c.args.pending.now) scene in
      subst (λ us. Propagates (scene_box scene) (handles_of scene.trees) s l l us) (sym c.requires.empty) (propagates-none (scene_box scene) (handles_of scene.trees) s l));
  first = λ k. refl;
  few = rw c.requires.empty (omega arith);
  left = λ k is there. c.requires.marked k is;
  marks = refl;
  capacity = refl;
}

-- the objects of the marked trees have entries still, and their boxes are those of the scene
pub settle_mark-top-requires-clause-entries : goal.settle_mark-top-requires-clause-entries
settle_mark-top-requires-clause-entries c k is =
    let f = handles_of (scene_of c.args.store.now).trees in
    let inv = c.loop-h.invariant in
    subst (λ (ks : Listing). IsListed ks k) (sym inv.settles.listed) (c.requires.entries k (marked-fewer (is_pending c.args.pending.now) (is_pending c.loop-h.pending) k f inv.settles.fewer is))

pub settle_mark-top-requires-clause-boxes : goal.settle_mark-top-requires-clause-boxes
settle_mark-top-requires-clause-boxes c k is =
    let f = handles_of (scene_of c.args.store.now).trees in
    let inv = c.loop-h.invariant in
    inv.settles.boxes k (c.requires.boxes k (marked-fewer (is_pending c.args.pending.now) (is_pending c.loop-h.pending) k f inv.settles.fewer is))

pub loop-h-preserved : goal.loop-h-preserved
loop-h-preserved c =
    let scene = scene_of c.args.store.now in
    let f = handles_of scene.trees in
    let hs = c.args.marked.now in
    let i = c.loop-h.h-index in
    let h = get_or hs i none in
    let inv = c.loop-h.invariant in
    let done = c.settle_mark-top.ensures in
    let pending = c.settle_mark-top.new.pending in
    record {
      settles = settles-then scene c.args.self.now c.loop-h.self c.settle_mark-top.new.self (is_pending c.args.pending.now) (is_pending c.loop-h.pending) (is_pending pending) inv.settles done.settles;
      solves = subst (λ us. SolvesAt c.args.self.now c.settle_mark-top.new.self scene (is_pending c.args.pending.now) (is_pending pending) us) (sym c.add_any.ensures.items)
          (solves-then scene c.args.self.now c.loop-h.self c.settle_mark-top.new.self (is_pending c.args.pending.now) (is_pending c.loop-h.pending) (is_pending pending) c.loop-h.solved.items (option_to_list c.settle_mark-top.result) inv.solves done.solves);
      scrolls = subst (λ us. ScrollsAt c.args.self.now c.settle_mark-top.new.self scene (is_pending c.args.pending.now) us) (sym c.add_any.ensures.items)
          (scrolls-then scene c.args.store.now.kept.valid.trees.once c.args.self.now c.loop-h.self c.settle_mark-top.new.self (is_pending c.args.pending.now) (is_pending c.loop-h.pending) c.loop-h.solved.items (option_to_list c.settle_mark-top.result) inv.settles.fewer inv.scrolls done.scrolls);
      ready = done.ready;
      moves = subst (λ us. Propagates (scene_box scene) f (in_marked (is_pending c.args.pending.now) scene) (layout_of c.args.self.now) (layout_of c.settle_mark-top.new.self) us) (sym c.add_any.ensures.items)
          (propagates-then (scene_box scene) f (in_marked (is_pending c.args.pending.now) scene) (in_marked (is_pending c.loop-h.pending) scene) (λ k i. marked-fewer (is_pending c.args.pending.now) (is_pending c.loop-h.pending) k f inv.settles.fewer i)
          (layout_of c.args.self.now) (layout_of c.loop-h.self) (layout_of c.settle_mark-top.new.self) c.loop-h.solved.items (option_to_list c.settle_mark-top.result) inv.moves done.moves);
      first = λ k. done.first k ∙ inv.first k;
      few =
          let more = one-listed c.loop-h.solved.items c.settle_mark-top.result in
          let before = inv.few in
          rw c.add_any.ensures.items (omega arith);
      left = λ k is there.
          let other : eqb h.0 k ≡ false = false_from_ne_true (eqb h.0 k) (λ e.
          let same = eqb-true h.0 k e in
          both_ways (is_pending pending k) (subst (λ j. is_pending pending j ≡ false) same (done.own (subst (λ j. has f j ≡ true) (sym same) there))) is) in
          later (drop i hs) h k (drop (i + 1) hs) (now hs i c.loop-h-test.true) other (inv.left k (done.settles.fewer k is) there);
      marks = done.marks ∙ inv.marks;
      capacity = c.add_any.ensures.capacity ∙ inv.capacity;
    }

-- each object before this one has added one at most
pub add_any-requires : goal.add_any-requires
add_any-requires c =
    let few = c.loop-h.invariant.few in
    let within = c.loop-h-test.true in
    let capacity = c.loop-h.invariant.capacity in
    let room = c.requires.room in
    omega arith

pub returns-clause-all : goal.returns-clause-all
returns-clause-all c k there =
    let hs = c.args.marked.now in
    let pending = c.loop-h.pending in
    let inv = c.loop-h.invariant in
    let none_left : drop c.loop-h.h-index hs ≡ [] = drop_all c.loop-h.h-index hs c.loop-h-test.false in
    false_from_ne_true (is_pending pending k) (λ is.
    let some : 0 < times [] k = subst (λ xs. 0 < times xs k) none_left (inv.left k is there) in absurd (omega arith))
