-- Marks that are settled one after another.
use Rattle.std.proofs.Common.{◌≡◌, ◌∙◌, refl, sym, ap, subst, ℕ, Bool, true, false, eqb, ◌||◌, get_or, List, Option, Some, None, inl, inr}
use Rattle.std.specs.Prelude.{slice_index_or}
use Rattle.std.proofs.lemmas.Bool.{cases_Bool, eqb-true, or_cases, or_left, or_right, or_parts, both_ways, false_from_ne_true, false≢true}
use Rattle.gui_base.specs.Forest.{Forest, Empty, Tree, StandsOnce, has, has_by, parent_of, tree_at}
use Rattle.gui_base.specs.Limits.{Bounds}
use Rattle.layout_defs.specs.Solving.{Room, nowhere, own_slot, room_of, width_in}
use Rattle.scene_defs.specs.Scene.{Scene, handles_of}
use Rattle.gui_boxes.specs.declared.frame.Frame.{Frame}
use Rattle.gui_boxes.specs.declared.frame.Frame.TheVariants.{Panel, Content}
use Rattle.gui_boxes.specs.declared.layout_box.LayoutBox.{LayoutBox}
use Rattle.gui_layout.specs.declared.places.Places.{Places}
use Rattle.gui_boxes.specs.Frames.{IsFrameOf, StandsIn}
use Rattle.gui_layout.specs.Marked.{marked_trees}
use Rattle.gui_layout.specs.Renewed.{IsRenewed}
use Rattle.gui_layout.specs.Scenes.{scene_box}
use Rattle.gui_boxes.specs.Settled.{Known, Layout, FillsPanel, IsSteady, StandsFree, corner, known_at, tall_of, wide_of}
use Rattle.gui_layout.specs.Settles.{FillsRoot, LetsStand, SolvesTree, Settles, known_in}
use Rattle.gui_boxes.specs.Slots.{room_in}
use Rattle.gui_layout.specs.Solved.{layout_of}
use Rattle.gui_boxes.specs.Views.{box_at}
use Rattle.gui_layout.proofs.Marking.{Stays, fill-step, step}
use Rattle.gui_boxes.proofs.Each.{tree_first}
use Rattle.gui_tree.proofs.Parts.{distinct_once}
use Rattle.gui_layout.proofs.Renewals.{room-same, steady-same}
use Rattle.gui_boxes.proofs.InTrees.{tree-in}
use Rattle.gui_layout.proofs.Settling.{parent-root, root-out}
use Rattle.gui_layout.proofs.Solves.{rest_same}

-- A mark lies in a marked tree, and so does all that lies in a tree with it.
has-mark : (m : ℕ → Bool) (h : ℕ) (f : Forest ℕ) → m h ≡ true → has f h ≡ true → has_by m f ≡ true
has-mark m h Empty marked is = absurd (false≢true is)
has-mark m h (Tree k cs rest) marked is = elim (or_cases (eqb k h) (has cs h || has rest h) is) [
  | inl e ↦ or_left (m k) (has_by m cs || has_by m rest) (subst (λ j. m j ≡ true) (sym (eqb-true k h e)) marked)
  | inr e ↦ or_right (m k) (has_by m cs || has_by m rest) (elim (or_cases (has cs h) (has rest h) e) [
    | inl i ↦ or_left (has_by m cs) (has_by m rest) (has-mark m h cs marked i)
    | inr i ↦ or_right (has_by m cs) (has_by m rest) (has-mark m h rest marked i)
  ])
]

top-mark : (m : ℕ → Bool) (t h : ℕ) (cs : Forest ℕ) → m h ≡ true → has (Tree t cs Empty) h ≡ true → (m t || has_by m cs) ≡ true
top-mark m t h cs marked is = elim (or_cases (eqb t h) (has cs h || false) is) [
  | inl e ↦ or_left (m t) (has_by m cs) (subst (λ j. m j ≡ true) (sym (eqb-true t h e)) marked)
  | inr e ↦ elim (or_cases (has cs h) false e) [ inl i ↦ or_right (m t) (has_by m cs) (has-mark m h cs marked i) | inr i ↦ absurd (false≢true i) ]
]

below-in : (t k : ℕ) (cs rest : Forest ℕ) → has cs k ≡ true → has (Tree t cs rest) k ≡ true
below-in t k cs rest i = or_right (eqb t k) (has cs k || has rest k) (or_left (has cs k) (has rest k) i)

beside-in : (t k : ℕ) (cs rest : Forest ℕ) → has rest k ≡ true → has (Tree t cs rest) k ≡ true
beside-in t k cs rest i = or_right (eqb t k) (has cs k || has rest k) (or_right (has cs k) (has rest k) i)

pub mark-inside : (m : ℕ → Bool) (h u k : ℕ) (f : Forest ℕ) → m h ≡ true → has (tree_at f u) h ≡ true → has (tree_at f u) k ≡ true → has (marked_trees m f) k ≡ true
mark-inside m h u k Empty marked own is = absurd (false≢true is)
mark-inside m h u k (Tree t cs rest) marked own is = elim (cases_Bool (eqb t u)) [
  | inl same ↦
      let some : (m t || has_by m cs) ≡ true = top-mark m t h cs marked (rw same at own) in
      let there : has (Tree t cs Empty) k ≡ true = rw same at is in
      rw some (tree_first t cs (marked_trees m rest) k there)
  | inr other ↦ elim (cases_Bool (has cs u)) [
    | inl below ↦
        let mark : has (tree_at cs u) h ≡ true = rw (other, below) at own in
        let there : has (tree_at cs u) k ≡ true = rw (other, below) at is in
        let some : (m t || has_by m cs) ≡ true = or_right (m t) (has_by m cs) (has-mark m h cs marked (tree-in u h cs mark)) in
        rw some (below-in t k cs (marked_trees m rest) (tree-in u k cs there))
    | inr out ↦
        let later = mark-inside m h u k rest marked (rw (other, out) at own) (rw (other, out) at is) in
        elim (cases_Bool (m t || has_by m cs)) [ inl some ↦ rw some (beside-in t k cs (marked_trees m rest) later) | inr none ↦ rw none later ]
  ]
]

-- so does the marked object itself
pub mark-own : (m : ℕ → Bool) (h : ℕ) (f : Forest ℕ) → m h ≡ true → has f h ≡ true → has (marked_trees m f) h ≡ true
mark-own m h Empty marked is = is
mark-own m h (Tree t cs rest) marked is = elim (cases_Bool (has (Tree t cs Empty) h)) [
  | inl own ↦ let some : (m t || has_by m cs) ≡ true = top-mark m t h cs marked own in rw some (tree_first t cs (marked_trees m rest) h own)
  | inr out ↦
      let parts : (eqb t h ≡ false) × ((has cs h || false) ≡ false) = or_parts (eqb t h) (has cs h || false) out in
      let none : (has cs h ≡ false) × (false ≡ false) = or_parts (has cs h) false parts.1 in
      let later = mark-own m h rest marked (rw (parts.0, none.0) at is) in
      elim (cases_Bool (m t || has_by m cs)) [ inl some ↦ rw some (beside-in t h cs (marked_trees m rest) later) | inr off ↦ rw off later ]
]

-- fewer marks mark fewer trees
has-fewer : (m n : ℕ → Bool) (f : Forest ℕ) → ((k : ℕ) → n k ≡ true → m k ≡ true) → has_by n f ≡ true → has_by m f ≡ true
has-fewer m n Empty fewer is = is
has-fewer m n (Tree k cs rest) fewer is = elim (or_cases (n k) (has_by n cs || has_by n rest) is) [
  | inl e ↦ or_left (m k) (has_by m cs || has_by m rest) (fewer k e)
  | inr e ↦ or_right (m k) (has_by m cs || has_by m rest) (elim (or_cases (has_by n cs) (has_by n rest) e) [
    | inl i ↦ or_left (has_by m cs) (has_by m rest) (has-fewer m n cs fewer i)
    | inr i ↦ or_right (has_by m cs) (has_by m rest) (has-fewer m n rest fewer i)
  ])
]

pub marked-fewer : (m n : ℕ → Bool) (k : ℕ) (f : Forest ℕ) → ((j : ℕ) → n j ≡ true → m j ≡ true) → has (marked_trees n f) k ≡ true → has (marked_trees m f) k ≡ true
marked-fewer m n k Empty fewer is = is
marked-fewer m n k (Tree t cs rest) fewer is = elim (cases_Bool (n t || has_by n cs)) [
  | inl some ↦
      let more : (m t || has_by m cs) ≡ true = elim (or_cases (n t) (has_by n cs) some) [ inl e ↦ or_left (m t) (has_by m cs) (fewer t e) | inr e ↦ or_right (m t) (has_by m cs) (has-fewer m n cs fewer e) ] in
      let there : has (Tree t cs (marked_trees n rest)) k ≡ true = rw some at is in
      rw more (elim (or_cases (eqb t k) (has cs k || has (marked_trees n rest) k) there) [
        | inl e ↦ or_left (eqb t k) (has cs k || has (marked_trees m rest) k) e
        | inr e ↦ or_right (eqb t k) (has cs k || has (marked_trees m rest) k) (elim (or_cases (has cs k) (has (marked_trees n rest) k) e) [
          | inl i ↦ or_left (has cs k) (has (marked_trees m rest) k) i
          | inr i ↦ or_right (has cs k) (has (marked_trees m rest) k) (marked-fewer m n k rest fewer i)
        ])
      ])
  | inr none ↦
      let later = marked-fewer m n k rest fewer (rw none at is) in
      elim (cases_Bool (m t || has_by m cs)) [ inl some ↦ rw some (beside-in t k cs (marked_trees m rest) later) | inr off ↦ rw off later ]
]

-- A tree that stands in a frame.
module _ (scene : Scene) (boxes : List (Option LayoutBox)) (l m : Layout) (u : ℕ) (limits : Bounds) where
  abbrev old : ℕ → Known
  old = known_at (scene_box scene) l

  abbrev new : ℕ → Known
  new = known_at (scene_box scene) m

  free : (q : ℕ) (inside : _) → IsRenewed scene boxes q → StandsIn (Content inside) (new u) → IsFrameOf limits (known_at (box_at boxes) l) (Some q) (Content inside) → IsSteady (old q).box × StandsFree (old q) (new u)
  free q inside but stand is_frame =
      let width = get_or l.widths q 0 in
      let slot = slice_index_or l.slots q nowhere in
      let room : room_in inside ≡ room_of (tall_of (old q)) slot = is_frame.1 ∙ room-same (box_at boxes q) (scene_box scene q) but q width (get_or l.natural_heights q 0) slot in (
        steady-same (box_at boxes q) (scene_box scene q) but q (record { free = is_frame.0.free; still = is_frame.0.still; wide = is_frame.0.wide; high = is_frame.0.high }),
        record {
          is_wide = stand.width ∙ ap (λ (r : Room). width_in r.width (wide_of (new u))) room;
          stands = stand.slot ∙ ap (λ (r : Room). own_slot r (tall_of (new u))) room;
        },
      )

  pub lets-stand : (frame : Frame) (up : Option ℕ) → StandsIn frame (new u) → IsFrameOf limits (known_at (box_at boxes) l) up frame → ((q : ℕ) → up ≡ Some q → IsRenewed scene boxes q) → LetsStand old new u up
  lets-stand frame None stands is renewed = tt
  lets-stand (Panel width height) (Some q) stands is renewed = absurd is
  lets-stand (Content inside) (Some q) stands is renewed = free q inside (renewed q refl) stands is

  pub root-fills : (frame : Frame) (up : Option ℕ) → StandsIn frame (new u) → IsFrameOf limits (known_at (box_at boxes) l) up frame → FillsRoot limits (new u) up
  root-fills (Panel width height) None stands is = record { is_wide = stands.width ∙ is.0; at_corner = stands.slot ∙ ap corner is.1 }
  root-fills (Content inside) None stands is = absurd is
  root-fills frame (Some q) stands is = tt

-- One tree that is solved settles the marks in it.
fills-by : (limits : Bounds) (k : Known) (up : Option ℕ) → up ≡ None → FillsRoot limits k up → FillsPanel limits.width limits.height k
fills-by limits k None none fills = fills
fills-by limits k (Some p) none fills = cc

module _ (scene : Scene) where
  abbrev f : Forest ℕ
  f = handles_of scene.trees

  pub settles-none : (p : Places) (m : ℕ → Bool) → Settles p p scene m m
  settles-none p m = record {
    fewer = λ k is. is;
    fit = λ s all. all;
    fill = λ s all. all;
    others = λ k there out. refl;
    scrolls = λ k there out. refl;
    boxes = λ k is. is;
    listed = refl;
    limits = refl;
  }

  pub settles-then : (a b c : Places) (m n o : ℕ → Bool) → Settles a b scene m n → Settles b c scene n o → Settles a c scene m o
  settles-then a b c m n o first later = record {
    fewer = λ k is. first.fewer k (later.fewer k is);
    fit = λ s all. later.fit s (first.fit s all);
    fill = λ s all. later.fill s (first.fill s all);
    others = λ k there out.
        let still : has (marked_trees n f) k ≡ false = false_from_ne_true (has (marked_trees n f) k) (λ i. both_ways (has (marked_trees m f) k) out (marked-fewer m n k f first.fewer i)) in
        later.others k there still ∙ first.others k there out;
    scrolls = λ k there out.
        let still : has (marked_trees n f) k ≡ false = false_from_ne_true (has (marked_trees n f) k) (λ i. both_ways (has (marked_trees m f) k) out (marked-fewer m n k f first.fewer i)) in
        later.scrolls k there still ∙ first.scrolls k there out;
    boxes = λ k is. later.boxes k (first.boxes k is);
    listed = later.listed ∙ first.listed;
    limits = later.limits ∙ first.limits;
  }

  pub settles-one : StandsOnce f → (a b : Places) (m n : ℕ → Bool) (h u : ℕ) → m h ≡ true → has (tree_at f h) h ≡ true → SolvesTree a b scene h u → ((k : ℕ) → has (tree_at f u) k ≡ true → n k ≡ false) → ((k : ℕ) → has (tree_at f u) k ≡ false → n k ≡ m k) → Settles a b scene m n
  settles-one once a b m n h u marked own tree gone left =
      let distinct = distinct_once f once in
      let stays : (k : ℕ) → has (tree_at f u) k ≡ false → Stays (known_in a scene) (known_in b scene) m n k =
      λ k out. record { known = rest_same (scene_box scene) (layout_of a) (layout_of b) (tree_at f u) k tree.keeps out; mark = left k out } in
      record {
        fewer = λ k is. elim (cases_Bool (has (tree_at f u) k)) [ inl i ↦ absurd (both_ways (n k) (gone k i) is) | inr out ↦ sym (left k out) ∙ is ];
        fit = λ s all.
            step s (known_in a scene) (known_in b scene) m n u None f distinct tree.there stays
            tree.lets all tree.fit;
        fill = λ s all.
            fill-step s (known_in a scene) (known_in b scene) m n u scene.limits.width scene.limits.height f
            (λ k i other. stays k (root-out u k f distinct i other))
            (λ i. fills-by scene.limits (known_in b scene u) (parent_of f u) (parent-root u None f distinct i) tree.fills) all;
        others = λ k there out.
            let gone_out : has (tree_at f u) k ≡ false = false_from_ne_true (has (tree_at f u) k) (λ i. both_ways (has (marked_trees m f) k) out (mark-inside m h u k f marked (tree.encloses h own) i)) in
            rest_same (scene_box scene) (layout_of a) (layout_of b) (tree_at f u) k tree.keeps gone_out;
        scrolls = λ k there out.
            let gone_out : has (tree_at f u) k ≡ false = false_from_ne_true (has (tree_at f u) k) (λ i. both_ways (has (marked_trees m f) k) out (mark-inside m h u k f marked (tree.encloses h own) i)) in
            tree.keeps.scrolls.others k gone_out;
        boxes = tree.boxes;
        listed = tree.listed;
        limits = tree.limits;
      }
