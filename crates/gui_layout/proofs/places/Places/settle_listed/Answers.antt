use Rattle.std.proofs.Common.{◌≡◌, ◌∙◌, ◌<◌, ◌≤◌, ◌+◌, ◌⊎◌, refl, sym, ap, subst, ℕ, zero, suc, Bool, true, false, eqb, eq-eqb, Option, Some, None, List, [], ◌∷◌, get_or, inl, inr, arith}
use Rattle.std.specs.Prelude.{is_some, option_map, IfSome, IsSome}
use Rattle.gui_tree.proofs.Below.{own_tree}
use Rattle.gui_boxes.specs.declared.layout_box.LayoutBox.{LayoutBox}
use Rattle.scene_defs.specs.Scene.{Scene}
use Rattle.layout_defs.specs.OwnHeights.{but_height}
use Rattle.gui_layout.specs.declared.places.Places.{Places}
use Rattle.gui_boxes.specs.declared.entry.Entry.{Entry}
use Rattle.gui_boxes.specs.Listing.{times}
use Rattle.gui_layout.specs.Marked.{AllFillBut, AllFitBut, marked_trees}
use Rattle.gui_layout.specs.Scenes.{scene_box}
use Rattle.gui_boxes.specs.Scrolls.{scrolled_at}
use Rattle.gui_layout.specs.Scrolled.{IsScrolledIn}
use Rattle.gui_boxes.specs.Settled.{IsSettled, Known, Layout, known_at}
use Rattle.gui_layout.specs.Settles.{known_in}
use Rattle.gui_layout.specs.Solved.{AreStanding, layout_of, moved_in, offset_in, place_at, reach_in}
use Rattle.gui_boxes.specs.Tables.{IsListed, Listing, area_in, listing_of}
use Rattle.gui_boxes.specs.Touched.{IsAtRest, is_touched, standing_at}
use Rattle.gui_boxes.specs.Layouts.{ButTold}
use Rattle.gui_boxes.specs.Standing.{reported_at}
use Rattle.gui_boxes.specs.Telling.{IsTold, IsUntold, Tells}
use Rattle.gui_boxes.proofs.InTrees.{tree-there}
use Rattle.gui_boxes.proofs.Reports.{standing-told}
use Rattle.gui_layout.specs.Calm.{StandsOver}
use Rattle.gui_layout.specs.Moved.{AreClosed, ListsMoved, Spreads}
use Rattle.gui_layout.proofs.Lifting.{tree-of, up-inside}
use Rattle.gui_layout.proofs.Shown.{offset-shown, place-shown, reach-shown, standing-shown}
use Rattle.gui_layout.proofs.Spreading.{standing-same}
use Rattle.gui_layout.specs.Tops.{ScrollsAt, in_trees_at, is_over}
use Rattle.gui_boxes.specs.Views.{box_at}
use Rattle.gui_layout.proofs.Apart.{naturals-alike, none-of, place-alike}
use Rattle.gui_boxes.proofs.Listed.{listed_some, some_listed}
use Rattle.gui_layout.proofs.Marking.{marked-has}
use Rattle.gui_layout.proofs.Overs.{over-is}
use Rattle.gui_layout.proofs.ReachSizes.{all-reached, marked-reached, offset-alike, reach-alike}
use Rattle.gui_layout.proofs.Renewals.{some-kept}
use Rattle.gui_layout.proofs.Rescrolled.{no-roots, nobody-root, right-scrolled, unmarked-root}
use Rattle.gui_layout.proofs.Before.{marked-closed}
use Rattle.gui_layout.proofs.Siblings.{around, one-only, one-times, without-kept}
use Rattle.std.proofs.lemmas.Bool.{cases_Bool, both_ways, false≢true, false_from_ne_true}
use Rattle.gui_base.specs.Forest.{Forest, StandsOnce, children_of, has, map_forest, parent_of}
use Rattle.gui_base.specs.declared.Handle.{Handle}
use Rattle.gui_boxes.specs.Around.{IsFlatWithout}
use Rattle.gui_pool.specs.Table.{value_at}
use Rattle.gui_store.specs.Views.{scene_of}
use Rattle.scene_defs.specs.Scene.{handles_of}
use Rattle.gui_boxes.specs.Pending.{is_first, is_marked_in, is_partly, is_pending}
use Rattle.gui_layout.specs.Raised.{Rests}
use Rattle.gui_layout.specs.SettledBut.{AreRightBut, AreRightButChanged, AreScrolledBut, anyone, in_marked, nobody}
use Rattle.gui_layout.proofs.NaturalSizes.{all-naturals}
use Rattle.gui_layout.proofs.Closing.{marked-places, marked-settled, marked-sizes}
use Rattle.gui_tree.proofs.Parts.{distinct_once}
use Rattle.gui_boxes.proofs.Pendings.{all-any, any-part, part-any}
use Rattle.gui_layout.proofs.Grades.{narrowed, right-both, right-raised, settled-raised}
use Rattle.gui_layout.proofs.Stepping.{mark-inside, mark-own, marked-fewer}
use Rattle.gui_layout.proofs.places.Places.settle_listed.Goals as goal
use Rattle.gui_layout.proofs.places.Places.settle_listed.Goals.{After-raise_marks, After-settle_changed, After-tell_moved}

-- what is pending now was marked
were : (c : After-raise_marks) (k : ℕ) → is_pending c.raise_marks.new.pending k ≡ true → is_marked_in c.args.pending.now k ≡ true
were c k is = sym (c.raise_marks.ensures.any k) ∙ all-any (value_at c.raise_marks.new.pending k) is

-- of what was marked the rest goes by none of its children
rest : (c : After-raise_marks) (k : ℕ) → is_marked_in c.args.pending.now k ≡ true → is_pending c.raise_marks.new.pending k ≡ false → Rests (handles_of (scene_of c.args.store.now).trees) c.args.self.now.entries k
rest c k is none =
    let off : is_pending c.args.pending.now k ≡ false = false_from_ne_true (is_pending c.args.pending.now k) (λ on. both_ways (is_pending c.raise_marks.new.pending k) none (c.raise_marks.ensures.more k on)) in
    subst (λ (f : Forest ℕ). Rests f c.args.self.now.entries k) c.tree-tree.ensures.forest
    (c.raise_marks.ensures.own k (c.requires.listed k is) (any-part (value_at c.args.pending.now k) is off) none)

half : (c : After-raise_marks) (k : ℕ) → is_partly c.args.pending.now k ≡ true → is_pending c.raise_marks.new.pending k ≡ false → Rests (handles_of (scene_of c.args.store.now).trees) c.args.self.now.entries k
half c k is none = rest c k (part-any (value_at c.args.pending.now k) is) none

pub settle_changed-requires-clause-listed : goal.settle_changed-requires-clause-listed
settle_changed-requires-clause-listed c k is =
    let d = (goal.at.settle_changed-requires-clause-listed c).After-raise_marks in
    c.requires.listed k (were d k is)

pub settle_changed-requires-clause-entries : goal.settle_changed-requires-clause-entries
settle_changed-requires-clause-entries c k listed none =
    let d = (goal.at.settle_changed-requires-clause-entries c).After-raise_marks in
    (rest d k (c.requires.marked k listed) none).some

pub settle_changed-requires-clause-but : goal.settle_changed-requires-clause-but
settle_changed-requires-clause-but c =
    let d = (goal.at.settle_changed-requires-clause-but c).After-raise_marks in
    let scene = scene_of c.args.store.now in
    let w = is_marked_in c.args.pending.now in
    let n = is_pending c.raise_marks.new.pending in
    narrowed c.args.self.now scene (in_marked w scene) (in_marked n scene) n (λ k i. marked-fewer w n k (handles_of scene.trees) (were d) i)
    (right-raised c.args.self.now scene (is_pending c.args.pending.now) (is_partly c.args.pending.now) n c.raise_marks.ensures.more (half d) (in_marked w scene) c.requires.but)

-- what has not changed was not marked
unpending : (c : After-raise_marks) (k : ℕ) → is_pending c.raise_marks.new.pending k ≡ false → is_pending c.args.pending.now k ≡ false
unpending c k none = false_from_ne_true (is_pending c.args.pending.now k) (λ on. both_ways (is_pending c.raise_marks.new.pending k) none (c.raise_marks.ensures.more k on))

pub settle_changed-requires-clause-above : goal.settle_changed-requires-clause-above
settle_changed-requires-clause-above c h k some is encloses there none =
    let d = (goal.at.settle_changed-requires-clause-above c).After-raise_marks in
    let f = handles_of (scene_of c.args.store.now).trees in
    let w = is_marked_in c.args.pending.now in
    c.requires.but.placed k there (mark-inside w h k k f (c.requires.marked h some) (encloses h (own_tree f h is)) (own_tree f k there)) (unpending d k none)

pub settle_changed-requires-clause-calm : goal.settle_changed-requires-clause-calm
settle_changed-requires-clause-calm c k there looked =
    let d = (goal.at.settle_changed-requires-clause-calm c).After-raise_marks in
    (c.requires.but.calm k there (marked-fewer (is_marked_in c.args.pending.now) (is_pending c.raise_marks.new.pending) k (handles_of (scene_of c.args.store.now).trees) (were d) looked)).untouched

pub settle_changed-requires-clause-scrolled : goal.settle_changed-requires-clause-scrolled
settle_changed-requires-clause-scrolled c k there looked unlisted none =
    let d = (goal.at.settle_changed-requires-clause-scrolled c).After-raise_marks in
    let f = handles_of (scene_of c.args.store.now).trees in
    let w = is_marked_in c.args.pending.now in
    let n = is_pending c.raise_marks.new.pending in
    let distinct = distinct_once f c.args.store.now.kept.valid.trees.once in
    let in_w : has (marked_trees w f) k ≡ true = marked-fewer w n k f (were d) looked in
    let unmarked : w k ≡ false = false_from_ne_true (w k) (λ is. let some = c.requires.listed k is in absurd (omega arith)) in
    let un : is_pending c.args.pending.now k ≡ false = false_from_ne_true (is_pending c.args.pending.now k) (λ is. both_ways (w k) unmarked (all-any (value_at c.args.pending.now k) is)) in
    let off : is_partly c.args.pending.now k ≡ false = false_from_ne_true (is_partly c.args.pending.now k) (λ is. both_ways (w k) unmarked (part-any (value_at c.args.pending.now k) is)) in
    c.requires.but.scrolled k there in_w un off (record {
      looked = λ j kid. marked-closed w k j f distinct in_w kid;
      unchanged = no-roots (is_pending c.args.pending.now) (children_of f k) (λ j kid. unpending d j (unmarked-root n (children_of f k) j none kid));
    })

-- all objects of the marked trees have entries then
module _ (c : After-settle_changed) where
  abbrev scene : Scene
  scene = scene_of c.args.store.now

  abbrev f : Forest ℕ
  f = handles_of scene.trees

  abbrev w : ℕ → Bool
  w = is_marked_in c.args.pending.now

  abbrev n : ℕ → Bool
  n = is_pending c.raise_marks.new.pending

  abbrev mid : Places
  mid = c.settle_changed.new.self

  abbrev raised : After-raise_marks
  raised = (goal.at.After-settle_changed c).After-raise_marks

  once : StandsOnce f
  once = c.args.store.now.kept.valid.trees.once

  -- what is looked at is right
  right-mid : (s : ℕ → Bool) → AreRightBut c.args.self.now scene s (is_pending c.args.pending.now) (is_partly c.args.pending.now) → AreRightButChanged mid scene s nobody
  right-mid s was = c.settle_changed.ensures.settles.right s (right-raised c.args.self.now scene (is_pending c.args.pending.now) (is_partly c.args.pending.now) n c.raise_marks.ensures.more (half raised) s was)

  placed : (k : ℕ) → has (marked_trees w f) k ≡ true → IsListed (listing_of mid.entries) k
  placed k is = some_listed mid.entries k ((right-mid (in_marked w scene) c.requires.but).placed k (marked-has w k f is) is refl)

pub renew_reaches-requires-clause-there : goal.renew_reaches-requires-clause-there
renew_reaches-requires-clause-there c u some = c.settle_changed.ensures.moves.tops u (subst (λ us. 0 < times us u) c.as_slice.ensures.value some)

pub renew_reaches-requires-clause-above : goal.renew_reaches-requires-clause-above
renew_reaches-requires-clause-above c u q some up k is =
    let d = (goal.at.renew_reaches-requires-clause-above c).After-settle_changed in
    placed d k (marked-fewer (w d) (n d) k (f d) (were (raised d)) (c.settle_changed.ensures.scrolls.marked u q (subst (λ us. 0 < times us u) c.as_slice.ensures.value some) up k is))

pub renew_reaches-requires-clause-own : goal.renew_reaches-requires-clause-own
renew_reaches-requires-clause-own c h some there k is =
    let d = (goal.at.renew_reaches-requires-clause-own c).After-settle_changed in
    placed d k (mark-inside (w d) h h k (f d) (c.requires.marked h some) (own_tree (f d) h there) is)

-- where one object is marked alone and solved alone, its siblings reach as far as they did
pub renew_reaches-requires-clause-lone : goal.renew_reaches-requires-clause-lone
renew_reaches-requires-clause-lone c h q lone only up =
    let d = (goal.at.renew_reaches-requires-clause-lone c).After-settle_changed in
    let g = f d in
    let old = c.args.self.now in
    let alone : c.args.marked.now ≡ h ∷ [] = subst (λ (o : Option Handle). IfSome o (λ i. c.args.marked.now ≡ i ∷ [])) lone c.requires.alone in
    let without : (p : ℕ) → parent_of g h.0 ≡ Some p → IsFlatWithout g (layout_of old) h.0 p =
    subst (λ (o : Option Handle). IfSome o (λ i. (p : ℕ) → parent_of g i.0 ≡ Some p → IsFlatWithout g (layout_of old) i.0 p)) lone c.requires.without in
    let tops : c.settle_changed.new.solved.items ≡ h ∷ [] = sym c.as_slice.ensures.value ∙ only in
    let there : has g h.0 ≡ true = c.settle_changed.ensures.moves.tops h.0 (subst (λ us. 0 < times us h.0) (sym tops) (one-times h)) in
    let at = around g h.0 q (once d) there up in
    let marked : w d h.0 ≡ true = c.requires.marked h.0 (subst (λ us. 0 < times us h.0) (sym alone) (one-times h)) in
    let looked : in_marked (w d) (scene d) q ≡ true = mark-inside (w d) h.0 q q g marked (at.inside h.0 (own_tree g h.0 there)) (own_tree g q at.there) in
    let un : (j : ℕ) → eqb j h.0 ≡ false → w d j ≡ false =
    λ j other. false_from_ne_true (w d j) (λ is. both_ways (eqb j h.0) other (eq-eqb j h.0 (sym (one-only h j (subst (λ us. 0 < times us j) alone (c.requires.listed j is)))))) in
    without-kept (scene d) old (mid d) (in_marked (w d) (scene d)) (is_pending c.args.pending.now) (is_partly c.args.pending.now) (n d) h q (once d)
    (subst (λ us. ScrollsAt old (mid d) (scene d) (n d) us) tops c.settle_changed.ensures.scrolls) there up c.requires.but (right-mid d (in_marked (w d) (scene d)) c.requires.but) looked
    (λ j kid. marked-closed (w d) q j g (distinct_once g (once d)) looked kid) (λ j other. false_from_ne_true (is_pending c.args.pending.now j) (λ is. both_ways (w d j) (un j other) (all-any (value_at c.args.pending.now j) is)))
    (without q up)

none-times : (m : ℕ) → (0 < m → ⊥) → m ≡ 0
none-times zero not = refl
none-times (suc m) not = absurd (not (omega arith))

-- who has the same place has an entry as before
same-place : (t u : Option Entry) → option_map area_in u ≡ option_map area_in t → is_some u ≡ is_some t
same-place None None is = refl
same-place None (Some e) is = cc
same-place (Some e) None is = cc
same-place (Some e) (Some g) is = refl

-- what moved is told of the same trees
pub tell_moved-requires-clause-limits : goal.tell_moved-requires-clause-limits
tell_moved-requires-clause-limits c = c.renew_reaches.ensures.limits ∙ (c.settle_changed.ensures.limits ∙ c.requires.limits)

pub tell_moved-requires-clause-there : goal.tell_moved-requires-clause-there
tell_moved-requires-clause-there c u some = c.settle_changed.ensures.moves.tops u (subst (λ us. 0 < times us u) c.as_slice-2.ensures.value some)

pub tell_moved-requires-clause-trees : goal.tell_moved-requires-clause-trees
tell_moved-requires-clause-trees c u some k is =
    let d = (goal.at.tell_moved-requires-clause-trees c).After-settle_changed in
    let listed : 0 < times c.settle_changed.new.solved.items u = subst (λ us. 0 < times us u) c.as_slice-2.ensures.value some in
    subst (λ (ks : Listing). IsListed ks k) (sym c.renew_reaches.ensures.listed) (placed d k (marked-fewer (w d) (n d) k (f d) (were (raised d)) (c.settle_changed.ensures.spreads.inside u k listed is)))

pub tell_moved-requires-clause-closed : goal.tell_moved-requires-clause-closed
tell_moved-requires-clause-closed c =
    let g = handles_of (scene_of c.args.store.now).trees in
    subst (λ (us : List Handle). AreClosed g (is_touched (layout_of c.renew_reaches.new.self)) us) (sym c.as_slice-2.ensures.value)
    (subst (λ (l : Layout). AreClosed g (is_touched l) c.settle_changed.new.solved.items) (sym c.renew_reaches.ensures.reads.rest) c.settle_changed.ensures.spreads.closed)

pub tell_moved-requires-clause-above : goal.tell_moved-requires-clause-above
tell_moved-requires-clause-above c h k some is encloses there =
    let d = (goal.at.tell_moved-requires-clause-above c).After-settle_changed in
    subst (λ (ks : Listing). IsListed ks k) (sym c.renew_reaches.ensures.listed) (placed d k (mark-inside (w d) h k k (f d) (c.requires.marked h some) (encloses h (own_tree (f d) h is)) (own_tree (f d) k there)))

-- Then reaches are read and what moved is told, and nothing else changes.
module _ (c : After-tell_moved) where
  abbrev d : After-settle_changed
  d = (goal.at.After-tell_moved c).After-settle_changed

  abbrev us : List Handle
  us = c.settle_changed.new.solved.items

  abbrev old : Places
  old = c.args.self.now

  abbrev read : Places
  read = c.renew_reaches.new.self

  abbrev last : Places
  last = c.tell_moved.new.self

  but_read : layout_of read ≡ record (layout_of (mid d)) { scrolls = (layout_of read).scrolls }
  but_read = c.renew_reaches.ensures.reads.rest

  but_told : ButTold (layout_of read) (layout_of last)
  but_told = c.tell_moved.ensures.tells.rest

  but : layout_of last ≡ record (layout_of (mid d)) { scrolls = (layout_of read).scrolls; touched = (layout_of last).touched; reported = (layout_of last).reported }
  but = but_told ∙ ap (λ (l : Layout). record l { touched = (layout_of last).touched; reported = (layout_of last).reported }) but_read

  some : (k : ℕ) → is_some (value_at (mid d).entries k) ≡ is_some (value_at last.entries k)
  some k = sym (some-kept (mid d).entries last.entries k (c.tell_moved.ensures.listed ∙ c.renew_reaches.ensures.listed))

  knows : known_in last (scene d) ≡ known_in (mid d) (scene d)
  knows = ap (λ (l : Layout). known_at (scene_box (scene d)) l) but

  known-last : (k : ℕ) → known_in last (scene d) k ≡ known_in (mid d) (scene d) k
  known-last k = ap (λ (l : Layout). known_at (scene_box (scene d)) l k) but

  stands : (k : ℕ) → place_at last k ≡ place_at (mid d) k
  stands k = place-alike k (mid d) last (scene d) (known-last k) (some k)

  scrolled : (s : ℕ → Bool) → AreRightBut old (scene d) s (is_pending c.args.pending.now) (is_partly c.args.pending.now) → AreScrolledBut last (scene d) s nobody nobody
  scrolled s was k there looked un off looks =
      subst (λ (l : Layout). IsScrolledIn (known_at (scene_box (scene d)) l) l.scrolls (f d) k) (sym but_told)
      (right-scrolled (scene d) old (mid d) read (is_pending c.args.pending.now) (is_partly c.args.pending.now) (n d) us c.args.marked.now (once d)
      c.settle_changed.ensures.scrolls c.settle_changed.ensures.moves.whole c.raise_marks.ensures.more (half (raised d)) c.renew_reaches.ensures.reads
      (λ u q some up still. c.renew_reaches.ensures.above u q (subst (λ vs. 0 < times vs u) (sym c.as_slice.ensures.value) some) up still)
      c.renew_reaches.ensures.own (λ j part. c.requires.listed j (part-any (value_at c.args.pending.now j) part)) s was (right-mid d s was) k there looked un off looks)

  right-last : (s : ℕ → Bool) → AreRightButChanged (mid d) (scene d) s nobody → AreRightButChanged last (scene d) s nobody
  right-last s now = record {
    boxes = λ k there looked un. ap (λ (l : Layout). but_height (box_at l.boxes k)) but ∙ now.boxes k there looked un;
    placed = λ k there looked un. sym (some k) ∙ now.placed k there looked un;
    fit = subst (λ (known : ℕ → Known). AllFitBut s nobody known (f d)) (sym knows) now.fit;
    fill = subst (λ (known : ℕ → Known). AllFillBut s nobody (scene d).limits.width (scene d).limits.height known (f d)) (sym knows) now.fill;
  }

  read-scrolls : (k : ℕ) → scrolled_at (layout_of last).scrolls k ≡ scrolled_at (layout_of read).scrolls k
  read-scrolls k = ap (λ (l : Layout). scrolled_at l.scrolls k) but_told

  -- outside of the marked trees what is told of how far children are scrolled stays
  kept : (k : ℕ) → has (f d) k ≡ true → in_marked (w d) (scene d) k ≡ false → scrolled_at (layout_of last).scrolls k ≡ scrolled_at (layout_of old).scrolls k
  kept k there out =
      let unmarked : times c.args.marked.now k ≡ 0 = none-times (times c.args.marked.now k) (λ some. both_ways (in_marked (w d) (scene d) k) out (mark-own (w d) k (f d) (c.requires.marked k some) there)) in
      let out_n : in_marked (n d) (scene d) k ≡ false = false_from_ne_true (in_marked (n d) (scene d) k) (λ i. both_ways (in_marked (w d) (scene d) k) out (marked-fewer (w d) (n d) k (f d) (were (raised d)) i)) in
      let not_over : is_over (f d) us k ≡ false =
      false_from_ne_true (is_over (f d) us k) (λ i.
      let o = over-is (f d) us k i in
      both_ways (in_marked (n d) (scene d) k) out_n (c.settle_changed.ensures.scrolls.marked o.top k o.listed o.parent k (own_tree (f d) k there))) in
      read-scrolls k
      ∙ (c.renew_reaches.ensures.others k (subst (λ vs. is_over (f d) vs k ≡ false) (sym c.as_slice.ensures.value) not_over) unmarked
      ∙ c.settle_changed.ensures.settles.other_scrolls k there out_n)

  -- and so it does outside of the trees that were solved, where none of their parents is and none is marked
  kept-outside : (k : ℕ) → has (f d) k ≡ true → in_trees_at (f d) us k ≡ false → is_over (f d) us k ≡ false → w d k ≡ false →
      scrolled_at (layout_of last).scrolls k ≡ scrolled_at (layout_of old).scrolls k
  kept-outside k there out over un =
      let unmarked : times c.args.marked.now k ≡ 0 = none-times (times c.args.marked.now k) (λ some. both_ways (w d k) un (c.requires.marked k some)) in
      read-scrolls k
      ∙ (c.renew_reaches.ensures.others k (subst (λ vs. is_over (f d) vs k ≡ false) (sym c.as_slice.ensures.value) over) unmarked
      ∙ c.settle_changed.ensures.scrolls.kept k there out)

  entered : (k : ℕ) → has (f d) k ≡ true → in_trees_at (f d) us k ≡ false → is_some (value_at old.entries k) ≡ is_some (value_at last.entries k)
  entered k there out = sym (same-place (value_at old.entries k) (value_at (mid d).entries k) (c.settle_changed.ensures.moves.stays k there out)) ∙ some k

  -- all that stood right stands so
  standing-last : AreStanding (mid d) (scene d) → AreStanding last (scene d)
  standing-last stand = record {
    boxes = λ k boxed.
        let was : IsSome (get_or (layout_of (mid d)).boxes k None) = subst (λ (bs : List (Option LayoutBox)). IsSome (get_or bs k None)) (ap (λ (l : Layout). l.boxes) but) boxed in
        ap (λ (l : Layout). but_height (box_at l.boxes k)) but ∙ stand.boxes k was;
    settled = subst (λ (known : ℕ → Known). IsSettled (scene d).limits.width (scene d).limits.height (map_forest known (f d))) (sym knows) stand.settled;
    there = λ k. sym (some k) ∙ stand.there k;
    solved = λ k. stands k ∙ stand.solved k;
  }

-- What is told of each object.
module _ (c : After-tell_moved) where
  abbrev g : Forest ℕ
  g = f (d c)

  abbrev a : Layout
  a = layout_of (old c)

  abbrev b : Layout
  b = layout_of (mid (d c))

  abbrev r : Layout
  r = layout_of (read c)

  abbrev z : Layout
  z = layout_of (last c)

  abbrev marks : ℕ → Bool
  marks = is_first c.settle_changed.new.pending

  abbrev looked : ℕ → Bool
  looked = in_marked (w (d c)) (scene (d c))

  spreads : Spreads (old c) (mid (d c)) (scene (d c)) (n (d c)) c.args.marked.now (us c)
  spreads = c.settle_changed.ensures.spreads

  tells : Tells g marks r z [] (moved_in (last c))
  tells = c.tell_moved.ensures.tells

  abbrev Told : ℕ → Type 0
  Told k = IsTold marks r z [] (moved_in (last c)) k

  flag : (k : ℕ) → is_touched r k ≡ is_touched b k
  flag k = ap (λ (l : Layout). is_touched l k) (but_read c)

  reported : (k : ℕ) → has g k ≡ true → is_some (value_at (old c).entries k) ≡ true → reported_at r.reported k ≡ reported_at a.reported k
  reported k there had = ap (λ (l : Layout). reported_at l.reported k) (but_read c) ∙ spreads.reported k there had

  reported-off : (k : ℕ) → has g k ≡ true → times c.args.marked.now k ≡ 0 → reported_at r.reported k ≡ reported_at a.reported k
  reported-off k there off = ap (λ (l : Layout). reported_at l.reported k) (but_read c) ∙ spreads.unlisted k there off

  -- what stands over a listed object, or lies in a tree that was solved, lies in the marked trees
  over-looked : (k : ℕ) → StandsOver g c.args.marked.now k ⊎ (in_trees_at g (us c) k ≡ true) → looked k ≡ true
  over-looked k (inl over) =
      let inside = up-inside g over.low k (once (d c)) over.there over.up in
      mark-inside (w (d c)) over.low k k g (c.requires.marked over.low over.listed) inside (own_tree g k (tree-there k over.low g inside))
  over-looked k (inr i) =
      let o = tree-of g (us c) k i in
      marked-fewer (w (d c)) (n (d c)) k g (were (raised (d c))) (spreads.inside o.top k o.listed o.inside)

  told-looked : (k : ℕ) → Told k → looked k ≡ true
  told-looked k told =
      over-looked k (subst (λ (vs : List Handle). StandsOver g c.args.marked.now k ⊎ (in_trees_at g vs k ≡ true)) c.as_slice-2.ensures.value (c.tell_moved.ensures.within k told.touched told.rests.untouched))

  -- what was at rest and is touched is told
  is-told : (k : ℕ) → has g k ≡ true → IsAtRest a k → is_touched b k ≡ true → Told k
  is-told k there rest on =
      let off : is_touched z k ≡ false = elim (spreads.over k there rest.untouched on) [
        | inl o ↦ c.tell_moved.ensures.own k o
        | inr i ↦ c.tell_moved.ensures.inside k (subst (λ (vs : List Handle). in_trees_at g vs k ≡ true) (sym c.as_slice-2.ensures.value) i)
      ] in
      elim (tells.each k) [ inl same ↦ absurd (false≢true (sym off ∙ (same.touched ∙ (flag k ∙ on)))) | inr told ↦ told ]

  -- and what is not touched is not
  not-told : (k : ℕ) → is_touched b k ≡ false → IsUntold r z [] (moved_in (last c)) k
  not-told k none = elim (tells.each k) [ inl same ↦ same | inr told ↦ absurd (false≢true (sym (flag k ∙ none) ∙ told.touched)) ]

  unlisted : (k : ℕ) → has g k ≡ true → is_touched b k ≡ false → times c.args.marked.now k ≡ 0
  unlisted k there none = none-times (times c.args.marked.now k) (λ some. false≢true (sym none ∙ spreads.listed k some there))

  -- so it stands as before
  still : (k : ℕ) → has g k ≡ true → is_touched b k ≡ false → standing_at r k ≡ standing_at a k
  still k there none =
      let not_over : is_over g (us c) k ≡ false =
      false_from_ne_true (is_over g (us c) k) (λ i. let o = over-is g (us c) k i in false≢true (sym none ∙ spreads.above o.top k o.listed o.parent)) in
      standing-same (scene_box (scene (d c))) b r k (ap (λ (l : Layout). known_at (scene_box (scene (d c))) l k) (but_read c))
      (c.renew_reaches.ensures.others k (subst (λ vs. is_over g vs k ≡ false) (sym c.as_slice.ensures.value) not_over) (unlisted k there none))
      ∙ spreads.still k there none

  -- what was at rest is so still
  rests-last : (k : ℕ) → has g k ≡ true → IsAtRest a k → IsAtRest z k
  rests-last k there rest = elim (cases_Bool (is_touched b k)) [
    | inl on ↦ (is-told k there rest on).rests
    | inr none ↦ record {
      untouched = (not-told k none).touched ∙ (flag k ∙ none);
      told =
          (not-told k none).reported
          ∙ (reported-off k there (unlisted k there none)
          ∙ (rest.told ∙ (sym (still k there none) ∙ sym (standing-told r z k (but_told c)))));
    }
  ]

  -- no object outside of the marked trees is listed
  out-unlisted : (k : ℕ) → looked k ≡ false → times (moved_in (last c)) k ≡ 0
  out-unlisted k out = elim (tells.each k) [ inl same ↦ same.listed | inr told ↦ absurd (both_ways (looked k) out (told-looked k told)) ]

  one-most : (k : ℕ) → times (moved_in (last c)) k ≤ 1
  one-most k = elim (tells.each k) [
    | inl same ↦ let none : times (moved_in (last c)) k ≡ 0 = same.listed in omega arith
    | inr told ↦ let few = told.once in let is : times (moved_in (last c)) k ≡ 0 + told.more = told.listed in omega arith
  ]

  only-there : (k : ℕ) → 0 < times (moved_in (last c)) k → has g k ≡ true
  only-there k some = elim (tells.each k) [
    | inl same ↦ let none : times (moved_in (last c)) k ≡ 0 = same.listed in absurd (omega arith)
    | inr told ↦ tells.there k told.touched told.rests.untouched
  ]

  -- what has changed is marked still, and nothing else is
  first-as : (k : ℕ) → marks k ≡ is_pending c.args.pending.now k
  first-as k = c.settle_changed.ensures.first k ∙ (c.raise_marks.ensures.first k ∙ c.requires.first k)

  first-is : (k : ℕ) → is_pending c.args.pending.now k ≡ true → marks k ≡ true
  first-is k on = first-as k ∙ on

  unfirst : (k : ℕ) → marks k ≡ false → is_pending c.args.pending.now k ≡ false
  unfirst k off = sym (first-as k) ∙ off

  -- an object that has not changed had an entry
  had : (k : ℕ) → has g k ≡ true → looked k ≡ true → is_pending c.args.pending.now k ≡ false → is_some (value_at (old c).entries k) ≡ true
  had k there at off = c.requires.but.placed k there at off

  whole : (k : ℕ) → has g k ≡ true → is_pending c.args.pending.now k ≡ true → 0 < times (moved_in (last c)) k
  whole k there on =
      let marked : w (d c) k ≡ true = all-any (value_at c.args.pending.now k) on in
      let at = mark-own (w (d c)) k g marked there in
      let told = is-told k there (c.requires.but.calm k there at) (spreads.listed k (c.requires.listed k marked) there) in
      let is : times (moved_in (last c)) k ≡ 0 + told.more = told.listed in
      some-more k told is (λ off. both_ways (marks k) (told.none off).unmarked (first-is k on))
    where
      some-more : (k : ℕ) (told : Told k) → times (moved_in (last c)) k ≡ 0 + told.more → (told.more ≡ 0 → ⊥) → 0 < times (moved_in (last c)) k
      some-more k told is not = by told.more refl where
        by : (m : ℕ) → told.more ≡ m → 0 < times (moved_in (last c)) k
        by zero off = absurd (not off)
        by (suc m) some = omega (arith, is, some)

  -- what is looked at and not listed stands as before
  stays-looked : (k : ℕ) → has g k ≡ true → looked k ≡ true → times (moved_in (last c)) k ≡ 0 → standing_at z k ≡ standing_at a k
  stays-looked k there at none =
      let rest = c.requires.but.calm k there at in
      standing-told r z k (but_told c)
      ∙ elim (cases_Bool (is_touched b k)) [
        | inl on ↦
            let told = is-told k there rest on in
            let is : times (moved_in (last c)) k ≡ 0 + told.more = told.listed in
            let off : told.more ≡ 0 = omega (arith, is, none) in
            let same = told.none off in
            sym same.told ∙ (reported k there (had k there at (unfirst k same.unmarked)) ∙ rest.told)
        | inr calm ↦ still k there calm
      ]

  -- an object that is looked at has an entry
  have : (k : ℕ) → looked k ≡ true → is_some (value_at (last c).entries k) ≡ true
  have k at = sym (some c k) ∙ listed_some (mid (d c)).entries k (placed (d c) k at)

  unchanged : (k : ℕ) → has g k ≡ true → times (moved_in (last c)) k ≡ 0 → is_pending c.args.pending.now k ≡ false
  unchanged k there none = false_from_ne_true (is_pending c.args.pending.now k) (λ on. let listed = whole k there on in absurd (omega (arith, listed, none)))

  both-have : (k : ℕ) → has g k ≡ true → looked k ≡ true → times (moved_in (last c)) k ≡ 0 → is_some (value_at (old c).entries k) ≡ is_some (value_at (last c).entries k)
  both-have k there at none = had k there at (unchanged k there none) ∙ sym (have k at)

  out-n : (k : ℕ) → looked k ≡ false → in_marked (n (d c)) (scene (d c)) k ≡ false
  out-n k out = false_from_ne_true (in_marked (n (d c)) (scene (d c)) k) (λ i. both_ways (looked k) out (marked-fewer (w (d c)) (n (d c)) k g (were (raised (d c))) i))

  out-stands : (k : ℕ) → has g k ≡ true → looked k ≡ false → place_at (last c) k ≡ place_at (old c) k
  out-stands k there out = stands c k ∙ c.settle_changed.ensures.settles.others k there (out-n k out)

  out-have : (k : ℕ) → has g k ≡ true → looked k ≡ false → is_some (value_at (old c).entries k) ≡ is_some (value_at (last c).entries k)
  out-have k there out = sym (same-place (value_at (old c).entries k) (value_at (mid (d c)).entries k) (c.settle_changed.ensures.settles.others k there (out-n k out))) ∙ some c k

  -- an object that has not changed and stands as before is not listed
  same-unlisted : (k : ℕ) → has g k ≡ true → looked k ≡ true → is_pending c.args.pending.now k ≡ false → standing_at z k ≡ standing_at a k → times (moved_in (last c)) k ≡ 0
  same-unlisted k there at off same = elim (cases_Bool (is_touched b k)) [
    | inl on ↦
        let rest = c.requires.but.calm k there at in
        let told = is-told k there rest on in
        let is : times (moved_in (last c)) k ≡ 0 + told.more = told.listed in
        let zero_more = told.only (record {
          unmarked = first-as k ∙ off;
          told = reported k there (had k there at off) ∙ (rest.told ∙ (sym same ∙ standing-told r z k (but_told c)));
        }) in
        omega (arith, is, zero_more)
    | inr calm ↦ (not-told k calm).listed
  ]

  lists : ListsMoved (old c) (last c) (scene (d c)) (is_pending c.args.pending.now)
  lists = record {
    once = one-most;
    there = only-there;
    whole = whole;
    stays = λ k there none. elim (cases_Bool (looked k)) [
      | inl at ↦ place-shown k (old c).entries (last c).entries (stays-looked k there at none) (both-have k there at none)
      | inr out ↦ out-stands k there out
    ];
    reaches = λ k there none. elim (cases_Bool (looked k)) [
      | inl at ↦ reach-shown k (old c).entries (last c).entries (stays-looked k there at none) (both-have k there at none)
      | inr out ↦ reach-alike k (old c).entries (last c).entries (kept c k there out) (out-have k there out)
    ];
    offsets = λ k there none. elim (cases_Bool (looked k)) [
      | inl at ↦ offset-shown k (old c).entries (last c).entries (stays-looked k there at none) (both-have k there at none)
      | inr out ↦ offset-alike k (old c).entries (last c).entries (kept c k there out) (out-have k there out)
    ];
    only = λ k there off place reach offset. elim (cases_Bool (looked k)) [
      | inl at ↦ same-unlisted k there at off (standing-shown k (old c).entries (last c).entries (had k there at off) (have k at) place reach offset)
      | inr out ↦ out-unlisted k out
    ];
  }

pub returns-clause-lists : goal.returns-clause-lists
returns-clause-lists c = lists (goal.at.returns-clause-lists c).After-tell_moved

pub returns-clause-moves : goal.returns-clause-moves
returns-clause-moves c =
    let e = (goal.at.returns-clause-moves c).After-tell_moved in
    let moves = c.settle_changed.ensures.moves in
    record {
      tops = moves.tops;
      whole = λ k there is. moves.whole k there (c.raise_marks.ensures.more k is);
      stays = λ k there out. stands e k ∙ moves.stays k there out;
    }

pub returns-clause-scrolls : goal.returns-clause-scrolls
returns-clause-scrolls c =
    let e = (goal.at.returns-clause-scrolls c).After-tell_moved in
    let old = c.args.self.now.entries in
    let new = c.tell_moved.new.self.entries in
    record {
      reaches = λ k there out over un. reach-alike k old new (kept-outside e k there out over un) (entered e k there out);
      offsets = λ k there out over un. offset-alike k old new (kept-outside e k there out over un) (entered e k there out);
      steady = c.settle_changed.ensures.scrolls.steady;
    }

-- where there is no place, there is no entry
no-entry : (t : Option Entry) → option_map area_in t ≡ None → is_some t ≡ false
no-entry None none = refl
no-entry (Some e) none = cc

pub returns-clause-settles : goal.returns-clause-settles
returns-clause-settles c =
    let e = (goal.at.returns-clause-settles c).After-tell_moved in
    let d = (goal.at.returns-clause-settles c).After-settle_changed in
    let scene = scene_of c.args.store.now in
    let f = handles_of scene.trees in
    let valid = c.args.store.now.kept.valid in
    let distinct = distinct_once f valid.trees.once in
    let old = c.args.self.now in
    let mid = c.settle_changed.new.self in
    let new = c.tell_moved.new.self in
    let w = is_marked_in c.args.pending.now in
    let m = is_pending c.args.pending.now in
    let p = is_partly c.args.pending.now in
    let n = is_pending c.raise_marks.new.pending in
    let more = c.raise_marks.ensures.more in
    let raised = (goal.at.returns-clause-settles c).After-raise_marks in
    let done = c.settle_changed.ensures.settles in
    let s = in_marked w scene in
    let now = right-last e s (right-mid d s c.requires.but) in
    let settled = marked-settled scene new w now in
    let scrolls : (k : ℕ) → s k ≡ true → IsScrolledIn (known_in new scene) (layout_of new).scrolls f k =
    λ k is. scrolled e s c.requires.but k (marked-has w k f is) is refl refl (record { looked = λ j kid. marked-closed w k j f distinct is kid; unchanged = nobody-root (children_of f k) }) in
    let reached = λ (k : ℕ) (is : s k ≡ true). marked-reached scene valid new.entries w settled scrolls k is (now.placed k (marked-has w k f is) is refl) in
    let unmarked : (k : ℕ) → in_marked w scene k ≡ false → in_marked n scene k ≡ false = λ k out. false_from_ne_true (in_marked n scene k) (λ i. both_ways (in_marked w scene k) out (marked-fewer w n k f (were raised) i)) in
    let pending : (k : ℕ) → w k ≡ true → has f k ≡ false → n k ≡ true = λ k is out. elim (cases_Bool (n k)) [ inl on ↦ on | inr none ↦ absurd (both_ways (has f k) out (rest raised k is none).there) ] in
    let gone : (k : ℕ) → w k ≡ true → has f k ≡ false → is_some (value_at new.entries k) ≡ false = λ k is out. sym (some e k) ∙ no-entry (value_at mid.entries k) (done.gone k (pending k is out) out) in
    let same : (k : ℕ) → has f k ≡ true → in_marked w scene k ≡ false → is_some (value_at old.entries k) ≡ is_some (value_at new.entries k) =
    λ k there out. sym (same-place (value_at old.entries k) (value_at mid.entries k) (done.others k there (unmarked k out))) ∙ some e k in
    record {
      solved = marked-places scene new w now valid;
      gone = λ k is out. stands e k ∙ done.gone k (pending k is out) out;
      others = λ k there out. stands e k ∙ done.others k there (unmarked k out);
      naturals = marked-sizes scene new w now valid;
      gone_naturals = λ k is out. naturals-alike k mid new scene (known-last e k) (some e k) ∙ done.gone_naturals k (pending k is out) out;
      other_naturals = λ k there out. naturals-alike k mid new scene (known-last e k) (some e k) ∙ done.other_naturals k there (unmarked k out);
      scrolls = record {
        reaches = λ k is. (reached k is).reaches;
        offsets = λ k is. (reached k is).offsets;
        gone_reaches = λ k is out. none-of reach_in (value_at new.entries k) (gone k is out);
        gone_offsets = λ k is out. none-of offset_in (value_at new.entries k) (gone k is out);
        other_reaches = λ k there out. reach-alike k old.entries new.entries (kept e k there out) (same k there out);
        other_offsets = λ k there out. offset-alike k old.entries new.entries (kept e k there out) (same k there out);
      };
      right = λ s was. right-both new scene s (right-last e s (right-mid d s was)) (scrolled e s was) (λ k there looked. rests-last e k there (was.calm k there looked));
      settled = λ was.
          let stand = done.settled (settled-raised old scene m p n more (half raised) was) in
          let stands_now = standing-last e stand in
          let told_right = λ (k : ℕ) (there : has f k ≡ true). scrolled e anyone was.right k there refl refl refl (record { looked = λ j kid. refl; unchanged = nobody-root (children_of f k) }) in
          let shown = all-reached scene valid new.entries stands_now.settled told_right stands_now.there in
          record {
            boxes = stands_now.boxes;
            settled = stands_now.settled;
            there = stands_now.there;
            solved = stands_now.solved;
            scrolled = told_right;
            calm = λ k there. rests-last e k there (was.right.calm k there refl);
            reached = record { reaches = λ h. (shown h).reaches; offsets = λ h. (shown h).offsets };
            naturals = all-naturals scene valid new.entries stands_now.settled stands_now.there;
          };
    }
