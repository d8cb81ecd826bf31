-- A tree that is settled anew below a parent that stays as it is.
use Rattle.std.proofs.Common.{◌≡◌, ◌∙◌, refl, sym, ap, subst, ℕ, Bool, true, false, max, eqb, eq-eqb, ◌||◌, ◌⊎◌, List, [], ◌∷◌, map, Option, Some, inl, inr}
use Rattle.std.proofs.lemmas.Bool.{cases_Bool, eqb-true, or_cases, or_left, or_right, or_parts, both_ways, false_from_ne_true, false≢true}
use Rattle.gui_base.specs.Forest.{Forest, Empty, Tree, has, tree_at, parent_by}
use Rattle.gui_base.specs.declared.words.Length.{Length}
use Rattle.gui_base.specs.declared.words.Length.TheVariants.{Pixels, Percent, Content}
use Rattle.layout_defs.specs.declared.Course.TheVariants.{Free}
use Rattle.layout_defs.specs.Boxes.{Box, course_of, inner, inset, is_reversed}
use Rattle.layout_defs.specs.Solving.{Wide, Tall, Slot, tall_box, width_in, own_slot, dealt, natural_size, natural_width, natural_height, kid_widths, kid_widths_by, kid_slots, kids_width, kids_height, room_of, flow_slots, ordered_slots, in_order, taking_part, wide_box}
use Rattle.layout_defs.proofs.Scrolling.{still_stands_flat}
use Rattle.gui_boxes.specs.Settled.{Known, wide_of, tall_of, width_of, slot_of, Fits, StandsFree, IsSteady, is_content}
pub use Rattle.gui_layout.specs.Marked.{is_root}
use Rattle.gui_boxes.proofs.InTrees.{tree-in, tree-there}
use Rattle.gui_boxes.proofs.Lists.{dealt-none}
use Rattle.gui_tree.proofs.Parts.{IsDistinct}

-- Roots and trees.

pub root-has : (u : ℕ) (f : Forest ℕ) → is_root u f ≡ true → has f u ≡ true
root-has u Empty is = is
root-has u (Tree h cs rest) is = elim (cases_Bool (eqb h u)) [
  | inl same ↦ or_left _ _ same
  | inr other ↦ or_right _ _ (or_right _ _ (root-has u rest (rw other at is)))
]

-- a root lies in no other root's tree
pub root-out : (u k : ℕ) (f : Forest ℕ) → IsDistinct f → is_root k f ≡ true → eqb k u ≡ false → has (tree_at f u) k ≡ false
root-out u k Empty distinct is other = refl
root-out u k (Tree h cs rest) distinct is other = false_from_ne_true (has (tree_at (Tree h cs rest) u) k) (λ e.
    let root : (eqb h k ≡ true) ⊎ (is_root k rest ≡ true) = or_cases (eqb h k) (is_root k rest) is in
    elim root [ inl top ↦ first e top | inr later ↦ beside e later (root-out u k rest distinct.4 later other) ])
  where
    at_k : (g : Forest ℕ) → eqb h k ≡ true → has g h ≡ false → has g k ≡ true → ⊥
    at_k g top out i = both_ways (has g k) (subst (λ m. has g m ≡ false) (eqb-true h k top) out) i

    not_u : eqb h k ≡ true → eqb h u ≡ false
    not_u top = subst (λ m. eqb m u ≡ false) (sym (eqb-true h k top)) other

    first : has (tree_at (Tree h cs rest) u) k ≡ true → eqb h k ≡ true → ⊥
    first e top = elim (cases_Bool (has cs u)) [
      | inl below ↦ at_k cs top distinct.1 (tree-in u k cs (rw (not_u top, below) at e))
      | inr out ↦ at_k rest top distinct.2 (tree-in u k rest (rw (not_u top, out) at e))
    ]

    in_rest : is_root k rest ≡ true → has cs k ≡ true → ⊥
    in_rest later i = both_ways (has rest k) (distinct.0 k i) (root-has k rest later)

    beside : has (tree_at (Tree h cs rest) u) k ≡ true → is_root k rest ≡ true → has (tree_at rest u) k ≡ false → ⊥
    beside e later gone = elim (cases_Bool (eqb h u)) [
      | inl same ↦
          let top : (eqb h k ≡ true) ⊎ ((has cs k || false) ≡ true) = or_cases (eqb h k) (has cs k || false) (rw same at e) in
          elim top [
            | inl i ↦ at_k rest i distinct.2 (root-has k rest later)
            | inr i ↦
                let low : (has cs k ≡ true) ⊎ (false ≡ true) = or_cases (has cs k) false i in
                elim low [ inl j ↦ in_rest later j | inr j ↦ absurd (false≢true j) ]
          ]
      | inr isnt ↦ elim (cases_Bool (has cs u)) [
        | inl below ↦ in_rest later (tree-in u k cs (rw (isnt, below) at e))
        | inr out ↦ both_ways (has (tree_at rest u) k) gone (rw (isnt, out) at e)
      ]
    ]

-- Parents.

abbrev pub is_at : ℕ → ℕ → Bool
is_at u h = eqb h u

-- what stands above a root
pub parent-root : (u : ℕ) (above : Option ℕ) (f : Forest ℕ) → IsDistinct f → is_root u f ≡ true → parent_by (is_at u) above f ≡ above
parent-root u above Empty distinct is = absurd (false≢true is)
parent-root u above (Tree h cs rest) distinct is = elim (cases_Bool (eqb h u)) [
  | inl same ↦ rw same refl
  | inr other ↦
      let later : is_root u rest ≡ true = rw other at is in
      let out : has cs u ≡ false = false_from_ne_true (has cs u) (λ i. both_ways (has rest u) (distinct.0 u i) (root-has u rest later)) in
      rw (other, out) (parent-root u above rest distinct.4 later)
]

-- the parent of an object lies outside its tree
pub parent-out : (u p : ℕ) (above : Option ℕ) (f : Forest ℕ) → IsDistinct f → has f u ≡ true → parent_by (is_at u) above f ≡ Some p → (above ≡ Some p → has f p ≡ false) → has (tree_at f u) p ≡ false
parent-out u p above Empty distinct there is out = refl
parent-out u p above (Tree h cs rest) distinct there is out = elim (cases_Bool (eqb h u)) [
  | inl same ↦
      let up : above ≡ Some p = rw same at is in
      false_from_ne_true (has (tree_at (Tree h cs rest) u) p) (λ i. both_ways (has (Tree h cs rest) p) (out up) (tree-in u p (Tree h cs rest) i))
  | inr isnt ↦ elim (cases_Bool (has cs u)) [
    | inl below ↦
        rw (isnt, below) (parent-out u p (Some h) cs distinct.3 below (rw (isnt, below) at is) (λ e.
        let top : h ≡ p = cc in subst (λ m. has cs m ≡ false) top distinct.1))
    | inr gone ↦
        rw (isnt, gone) (parent-out u p above rest distinct.4 (rw (isnt, gone) at there) (rw (isnt, gone) at is) (λ e.
        let parts : (eqb h p ≡ false) × ((has cs p || has rest p) ≡ false) = or_parts (eqb h p) (has cs p || has rest p) (out e) in
        let later : (has cs p ≡ false) × (has rest p ≡ false) = or_parts (has cs p) (has rest p) parts.1 in later.1))
  ]
]

-- and its tree holds that of the object
pub parent-in : (u p k : ℕ) (above : Option ℕ) (f : Forest ℕ) → IsDistinct f → has (tree_at f u) k ≡ true → parent_by (is_at u) above f ≡ Some p → (above ≡ Some p) ⊎ (has (tree_at f p) k ≡ true)
parent-in u p k above Empty distinct there is = absurd (false≢true there)
parent-in u p k above (Tree h cs rest) distinct there is = elim (cases_Bool (eqb h u)) [
  | inl same ↦ inl (rw same at is)
  | inr isnt ↦ elim (cases_Bool (has cs u)) [
    | inl below ↦
        let inner : has (tree_at cs u) k ≡ true = rw (isnt, below) at there in
        let step : (Some h ≡ Some p) ⊎ (has (tree_at cs p) k ≡ true) = parent-in u p k (Some h) cs distinct.3 inner (rw (isnt, below) at is) in
        elim step [ inl e ↦ inr (top (tree-in u k cs inner) e) | inr i ↦ inr (deeper i) ]
    | inr gone ↦
        let later : has (tree_at rest u) k ≡ true = rw (isnt, gone) at there in
        let step : (above ≡ Some p) ⊎ (has (tree_at rest p) k ≡ true) = parent-in u p k above rest distinct.4 later (rw (isnt, gone) at is) in
        elim step [ inl e ↦ inl e | inr i ↦ inr (beside i) ]
  ]
]
  where
    top : has cs k ≡ true → Some h ≡ Some p → has (tree_at (Tree h cs rest) p) k ≡ true
    top i e =
        let same : h ≡ p = cc in
        let is_top : eqb h p ≡ true = eq-eqb h p same in
        rw is_top (or_right (eqb h k) (has cs k || false) (or_left (has cs k) false i))

    deeper : has (tree_at cs p) k ≡ true → has (tree_at (Tree h cs rest) p) k ≡ true
    deeper i =
        let there : has cs p ≡ true = tree-there p k cs i in
        let other : eqb h p ≡ false = false_from_ne_true (eqb h p) (λ e. both_ways (has cs h) distinct.1 (subst (λ m. has cs m ≡ true) (sym (eqb-true h p e)) there)) in
        rw (other, there) i

    beside : has (tree_at rest p) k ≡ true → has (tree_at (Tree h cs rest) p) k ≡ true
    beside i =
        let there : has rest p ≡ true = tree-there p k rest i in
        let other : eqb h p ≡ false = false_from_ne_true (eqb h p) (λ e. both_ways (has rest h) distinct.2 (subst (λ m. has rest m ≡ true) (sym (eqb-true h p e)) there)) in
        let gone : has cs p ≡ false = false_from_ne_true (has cs p) (λ j. both_ways (has rest p) (distinct.0 p j) there) in
        rw (other, gone) i

-- Steady parents.

pub size-steady : (s : Length) (n a b : ℕ) → is_content s ≡ false → natural_size s n a ≡ natural_size s n b
size-steady (Pixels m) n a b is = refl
size-steady (Percent m) n a b is = refl
size-steady Content n a b is = cc

pub width-steady : (box : Box) (some others : List Wide) → is_content box.across.size ≡ false → natural_width box some ≡ natural_width box others
width-steady box some others is =
    size-steady box.across.size (inset box.across) (max box.own_width (kids_width (course_of box.flow) box (taking_part wide_box some)))
    (max box.own_width (kids_width (course_of box.flow) box (taking_part wide_box others))) is

pub height-steady : (box : Box) (width : ℕ) (some others : List Tall) → is_content box.down.size ≡ false → natural_height box width some ≡ natural_height box width others
height-steady box width some others is =
    let room = inner box.across width in
    size-steady box.down.size (inset box.down) (max (box.own_height room) (kids_height (course_of box.flow) box room (taking_part tall_box some)))
    (max (box.own_height room) (kids_height (course_of box.flow) box room (taking_part tall_box others))) is

none-in_order : {A : Type 0} (back : Bool) → in_order {A = A} back [] ≡ []
none-in_order true = refl
none-in_order false = refl

pub free-widths : (box : Box) (width : ℕ) (kids : List Wide) → course_of box.flow ≡ Free → kid_widths box width kids ≡ map (width_in (inner box.across width)) kids
free-widths box width kids free = ap (λ course. kid_widths_by course box (inner box.across width) kids) free

pub free-slots : (tall : Tall) (slot : Slot) (kids : List Tall) → course_of tall.box.flow ≡ Free → tall.box.scrollable ≡ false → kid_slots tall slot kids ≡ map (own_slot (room_of tall slot)) kids
free-slots tall slot kids free still =
    let room = room_of tall slot in
    let back = is_reversed tall.box.flow in
    let taking = in_order back (taking_part tall_box kids) in
    let none : flow_slots tall.box room (taking_part tall_box kids) ≡ [] =
    ap (λ course. in_order back (ordered_slots course tall.box room taking)) free ∙ none-in_order back in
    still_stands_flat tall slot kids still ∙ ap (dealt tall_box (own_slot room) kids) none ∙ dealt-none tall_box (own_slot room) kids

-- children that all stand by themselves
abbrev pub AllFree : Known → List Known → Type 0
AllFree p [] = Unit {0}
AllFree p (k ∷ ks) = StandsFree p k × AllFree p ks

all-free : (p : Known) (ks : List Known) → map width_of ks ≡ map (width_in (inner p.box.across p.width)) (map wide_of ks) → map slot_of ks ≡ map (own_slot (room_of (tall_of p) p.slot)) (map tall_of ks) → AllFree p ks
all-free p [] wide slot = tt
all-free p (k ∷ ks) wide slot =
    let width : k.width ≡ width_in (inner p.box.across p.width) (wide_of k) = cc in
    let stands : k.slot ≡ own_slot (room_of (tall_of p) p.slot) (tall_of k) = cc in
    let wides : map width_of ks ≡ map (width_in (inner p.box.across p.width)) (map wide_of ks) = cc in
    let slots : map slot_of ks ≡ map (own_slot (room_of (tall_of p) p.slot)) (map tall_of ks) = cc in
    (record { is_wide = width; stands = stands }, all-free p ks wides slots)

pub free-wide : (p : Known) (ks : List Known) → AllFree p ks → map width_of ks ≡ map (width_in (inner p.box.across p.width)) (map wide_of ks)
free-wide p [] all = refl
free-wide p (k ∷ ks) all = ap (λ n. n ∷ map width_of ks) all.0.is_wide ∙ ap (λ ns. width_in (inner p.box.across p.width) (wide_of k) ∷ ns) (free-wide p ks all.1)

pub free-stand : (p : Known) (ks : List Known) → AllFree p ks → map slot_of ks ≡ map (own_slot (room_of (tall_of p) p.slot)) (map tall_of ks)
free-stand p [] all = refl
free-stand p (k ∷ ks) all = ap (λ n. n ∷ map slot_of ks) all.0.stands ∙ ap (λ ns. own_slot (room_of (tall_of p) p.slot) (tall_of k) ∷ ns) (free-stand p ks all.1)

pub fits-free : (p : Known) (ks : List Known) → IsSteady p.box → Fits p ks → AllFree p ks
fits-free p ks steady fits =
    all-free p ks (fits.widths ∙ free-widths p.box p.width (map wide_of ks) steady.free) (fits.slots ∙ free-slots (tall_of p) p.slot (map tall_of ks) steady.free steady.still)
