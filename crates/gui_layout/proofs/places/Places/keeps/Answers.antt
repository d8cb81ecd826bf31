use Rattle.std.proofs.Common.{◌≡◌, ◌∙◌, ◌<◌, refl, sym, subst, ℕ, true, false, eqb, eq-eqb, [], ◌∷◌, List, Option, Some, None}
use Rattle.std.proofs.lemmas.Bool.{both_ways, false_from_ne_true, false≢true}
use Rattle.gui_base.specs.Forest.{Forest}
use Rattle.gui_base.specs.declared.Handle.{Handle}
use Rattle.gui_pool.specs.Table.{value_at}
use Rattle.gui_store.specs.Views.{scene_of}
use Rattle.gui_boxes.specs.declared.mark.Mark.{Mark}
use Rattle.gui_boxes.specs.declared.mark.Mark.TheVariants.{All, Children, Raised, Settled}
use Rattle.gui_boxes.specs.declared.marks.Marks.{Marks}
use Rattle.gui_boxes.specs.Listing.{times}
use Rattle.gui_boxes.specs.Marks.{is_changed, is_marked, is_parent}
use Rattle.gui_boxes.specs.Pending.{is_all, is_part}
use Rattle.gui_boxes.proofs.Pendings.{all-any, marked-times, part-any}
use Rattle.gui_layout.specs.Kept.{Keeps}
use Rattle.gui_layout.proofs.Kept.{kept-settled}
use Rattle.gui_layout.proofs.Siblings.{one-only}
use Rattle.gui_layout.proofs.places.Places.keeps.Goals as goal

all-part : (o : Option Mark) → is_all o ≡ true → is_part o ≡ false
all-part None is = absurd (false≢true is)
all-part (Some All) is = refl
all-part (Some Children) is = absurd (false≢true is)
all-part (Some Raised) is = refl
all-part (Some Settled) is = refl

module _ (marks : Marks) (h : Handle) (only : marks.listed.items ≡ h ∷ []) where
  -- nothing else is marked
  it : (k : ℕ) → is_marked marks k ≡ true → k ≡ h.0
  it k is = sym (one-only h k (subst (λ (hs : List Handle). 0 < times hs k) only (marked-times marks.objects marks.pending marks.listed.items k marks.marks.these is)))

  changed : (k : ℕ) → eqb k h.0 ≡ false → is_changed marks k ≡ false
  changed k other = false_from_ne_true (is_changed marks k) (λ is. both_ways (eqb k h.0) other (eq-eqb k h.0 (it k (all-any (value_at marks.pending k) is))))

  no-parent : is_changed marks h.0 ≡ true → (k : ℕ) → is_parent marks k ≡ false
  no-parent is k = false_from_ne_true (is_parent marks k) (λ part.
      let same : k ≡ h.0 = it k (part-any (value_at marks.pending k) part) in
      both_ways (is_parent marks k) (all-part (value_at marks.pending k) (subst (λ j. is_changed marks j ≡ true) (sym same) is)) part)

pub returns-then-keeps-clause-settled : goal.returns-then-keeps-clause-settled
returns-then-keeps-clause-settled c were =
    let scene = scene_of c.args.store.now in
    let marks = c.args.marks.now in
    let h = c.in_ok-h.h in
    let only : marks.listed.items ≡ h ∷ [] = sym c.as_slice.ensures.value ∙ c.in_ok-h.ensures in
    let keeps : Keeps c.tree.result.now.forest c.args.self.now.entries scene h.0 = c.keeps.ensures c.if-keeps.true in
    kept-settled c.args.self.now were.before scene (is_changed marks) (is_parent marks) h.0 were.settled were.once c.args.store.now.kept.valid were.limits were.each (changed marks h only)
    (no-parent marks h only (sym c.is_pending.ensures ∙ c.if-is_pending.true)) (subst (λ (f : Forest ℕ). Keeps f c.args.self.now.entries scene h.0) c.tree.ensures.forest keeps)

pub returns-then-keeps-clause-alone : goal.returns-then-keeps-clause-alone
returns-then-keeps-clause-alone c k is = it c.args.marks.now c.in_ok-h.h (sym c.as_slice.ensures.value ∙ c.in_ok-h.ensures) k is
