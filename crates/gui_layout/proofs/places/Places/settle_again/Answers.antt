use Rattle.std.proofs.Common.{◌≡◌, ◌<◌, refl, sym, subst, ℕ, false, eqb, eq-eqb, [], ◌∷◌, List, Option, Some, None}
use Rattle.std.proofs.lemmas.Bool.{both_ways, false_from_ne_true}
use Rattle.std.specs.Prelude.{IfSome}
use Rattle.gui_base.specs.Forest.{Forest, StandsOnce, parent_of}
use Rattle.gui_base.specs.declared.Handle.{Handle}
use Rattle.gui_pool.specs.Table.{value_at}
use Rattle.gui_store.specs.Views.{scene_of}
use Rattle.scene_defs.specs.Scene.{Scene, handles_of}
use Rattle.gui_boxes.specs.declared.marks.Marks.{Marks}
use Rattle.gui_layout.specs.declared.places.Places.{Places}
use Rattle.gui_boxes.specs.Around.{IsFlatWithout, SparesOne}
use Rattle.gui_boxes.specs.Listing.{times}
use Rattle.gui_boxes.specs.Marks.{is_changed, is_marked, is_parent}
use Rattle.gui_layout.specs.SettledBut.{AreSettledButMarks, WereSettled, anyone, in_marked}
use Rattle.gui_layout.specs.Solved.{layout_of}
use Rattle.gui_layout.proofs.Before.{flat-before, right_fewer, settled_but_marks}
use Rattle.gui_layout.proofs.Overs.{root-in}
use Rattle.gui_boxes.proofs.Pendings.{all-any, marked-times, part-any}
use Rattle.gui_layout.proofs.Siblings.{around, one-only, parent-child}
use Rattle.gui_layout.proofs.places.Places.settle_again.Goals as goal

module _ (p : Places) (scene : Scene) (marks : Marks) (were : WereSettled p scene (is_changed marks) (is_parent marks)) (once : StandsOnce (handles_of scene.trees)) where
  abbrev f : Forest ℕ
  f = handles_of scene.trees

  but : AreSettledButMarks p scene (is_changed marks) (is_parent marks)
  but = settled_but_marks p were.before scene (is_changed marks) (is_parent marks) were.settled were.once once were.limits were.each

  -- where one alone is marked, its parent is not
  unmarked : (h : Handle) (q : ℕ) → marks.listed.items ≡ h ∷ [] → eqb q h.0 ≡ false → is_marked marks q ≡ false
  unmarked h q only other =
      false_from_ne_true (is_marked marks q) (λ is.
      let some : 0 < times (h ∷ []) q = subst (λ (hs : List Handle). 0 < times hs q) only (marked-times marks.objects marks.pending marks.listed.items q marks.marks.these is) in
      both_ways (eqb q h.0) other (eq-eqb q h.0 (sym (one-only h q some))))

  -- so its reach is read, and the siblings reach as far as is told
  siblings : (h : Handle) → marks.listed.items ≡ h ∷ [] → ((q : ℕ) → parent_of f h.0 ≡ Some q → SparesOne f (layout_of p) h.0 q) → (q : ℕ) → parent_of f h.0 ≡ Some q → IsFlatWithout f (layout_of p) h.0 q
  siblings h only spared q up =
      let at = around f h.0 q once (root-in f h.0 q (parent-child f h.0 q once up)) up in
      let un = unmarked h q only at.other in
      let one = spared q up in
      let whole : is_changed marks q ≡ false = false_from_ne_true (is_changed marks q) (λ is. both_ways (is_marked marks q) un (all-any (value_at marks.pending q) is)) in
      let kids : is_parent marks q ≡ false = false_from_ne_true (is_parent marks q) (λ is. both_ways (is_marked marks q) un (part-any (value_at marks.pending q) is)) in
      one.spares (flat-before p were.before scene (is_changed marks) (is_parent marks) were.settled were.once once were.limits were.each q at.there whole kids one.still)

  without : (lone : Option Handle) → IfSome lone (λ h. marks.listed.items ≡ h ∷ []) → IfSome lone (λ h. (q : ℕ) → parent_of f h.0 ≡ Some q → SparesOne f (layout_of p) h.0 q) →
      IfSome lone (λ h. (q : ℕ) → parent_of f h.0 ≡ Some q → IsFlatWithout f (layout_of p) h.0 q)
  without None only spared = tt
  without (Some h) only spared = siblings h only spared

alone : (lone : Option Handle) (hs us : List Handle) → us ≡ hs → IfSome lone (λ h. us ≡ h ∷ []) → IfSome lone (λ h. hs ≡ h ∷ [])
alone lone hs us same only = subst (λ (ks : List Handle). IfSome lone (λ h. ks ≡ h ∷ [])) same only

pub settle_marks-requires-clause-but : goal.settle_marks-requires-clause-but
settle_marks-requires-clause-but c =
    let scene = scene_of c.args.store.now in
    let marks = c.args.marks.now in
    right_fewer c.args.self.now scene anyone (in_marked (is_marked marks) scene) (is_changed marks) (is_parent marks) (λ k looked. refl)
    (but c.args.self.now scene marks c.requires.were c.args.store.now.kept.valid.trees.once).right

pub settle_marks-requires-clause-alone : goal.settle_marks-requires-clause-alone
settle_marks-requires-clause-alone c = alone c.lone_child-lone.result c.args.marks.now.listed.items c.as_slice.result.now c.as_slice.ensures.value c.lone_child-lone.ensures.alone

pub settle_marks-requires-clause-without : goal.settle_marks-requires-clause-without
settle_marks-requires-clause-without c =
    let scene = scene_of c.args.store.now in
    let marks = c.args.marks.now in
    let p = c.args.self.now in
    let lone = c.lone_child-lone.result in
    without p scene marks c.requires.were c.args.store.now.kept.valid.trees.once lone
    (alone lone marks.listed.items c.as_slice.result.now c.as_slice.ensures.value c.lone_child-lone.ensures.alone)
    (subst (λ (t : Forest ℕ). IfSome lone (λ h. (q : ℕ) → parent_of t h.0 ≡ Some q → SparesOne t (layout_of p) h.0 q)) c.tree.ensures.forest c.lone_child-lone.ensures.spared)

pub returns-clause-settled : goal.returns-clause-settled
returns-clause-settled c = c.settle_marks.ensures.settles.settled (but c.args.self.now (scene_of c.args.store.now) c.args.marks.now c.requires.were c.args.store.now.kept.valid.trees.once)

pub returns-clause-naturals : goal.returns-clause-naturals
returns-clause-naturals c = (c.settle_marks.ensures.settles.settled (but c.args.self.now (scene_of c.args.store.now) c.args.marks.now c.requires.were c.args.store.now.kept.valid.trees.once)).naturals

pub returns-clause-tops : goal.returns-clause-tops
returns-clause-tops c = c.settle_marks.ensures.moves.tops

pub returns-clause-whole : goal.returns-clause-whole
returns-clause-whole c = c.settle_marks.ensures.moves.whole

pub returns-clause-stays : goal.returns-clause-stays
returns-clause-stays c = c.settle_marks.ensures.moves.stays

pub returns-clause-scrolls_stay : goal.returns-clause-scrolls_stay
returns-clause-scrolls_stay c = c.settle_marks.ensures.scrolls

pub returns-clause-moved_once : goal.returns-clause-moved_once
returns-clause-moved_once c = c.settle_marks.ensures.lists.once

pub returns-clause-moved_there : goal.returns-clause-moved_there
returns-clause-moved_there c = c.settle_marks.ensures.lists.there

pub returns-clause-moved_whole : goal.returns-clause-moved_whole
returns-clause-moved_whole c = c.settle_marks.ensures.lists.whole

pub returns-clause-moved_stays : goal.returns-clause-moved_stays
returns-clause-moved_stays c = c.settle_marks.ensures.lists.stays

pub returns-clause-moved_reaches : goal.returns-clause-moved_reaches
returns-clause-moved_reaches c = c.settle_marks.ensures.lists.reaches

pub returns-clause-moved_offsets : goal.returns-clause-moved_offsets
returns-clause-moved_offsets c = c.settle_marks.ensures.lists.offsets

pub returns-clause-moved_only : goal.returns-clause-moved_only
returns-clause-moved_only c = c.settle_marks.ensures.lists.only
