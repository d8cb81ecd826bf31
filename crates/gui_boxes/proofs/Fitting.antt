-- Objects fit that the passes have seen to, and objects that fit stand where they are solved.
use Rattle.std.proofs.Common.{◌≡◌, ◌∙◌, refl, sym, ap, subst, ℕ, List, ◌∷◌, get_or, map}
use Rattle.gui_base.specs.Forest.{Forest, Empty, Tree, roots, map_forest}
use Rattle.layout_defs.specs.Boxes.{Box}
use Rattle.layout_defs.specs.Solving.{Wide, Widened, Tall, Placed, Slot, solved, natural_width, natural_height, kid_widths, kid_reach, kid_slots, nowhere, with_widths, with_natural_heights, with_slots}
use Rattle.layout_defs.specs.Tables.{Holds}
use Rattle.gui_boxes.specs.Found.{boxed, widths_of}
use Rattle.gui_boxes.specs.Scrolls.{HoldsScrolls, not_scrolled, scrolled_placed}
use Rattle.gui_boxes.specs.Settled.{Known, wide_of, tall_of, width_of, slot_of, EachKids, NaturalWidthFits, WidthsFit, NaturalHeightFits, SlotsFit, AllFit, Layout, known_at, known, corner, AllFill, IsSettled}
use Rattle.gui_boxes.specs.Slots.{HoldsPlaced, slot_at, talls, tall_at}
use Rattle.gui_boxes.proofs.Passes.{roots_known}

same_tree : {A : Type 0} (a b : A) (cs ds rest later : Forest A) → a ≡ b → cs ≡ ds → rest ≡ later → Tree a cs rest ≡ Tree b ds later
same_tree {A} a b cs ds rest later row children others = ap (λ (r : A). Tree r cs rest) row ∙ (ap (λ (f : Forest A). Tree b f rest) children ∙ ap (λ (f : Forest A). Tree b ds f) others)

abbrev widened_at : (ℕ → Box) → List ℕ → ℕ → Widened
widened_at box widths h = record { box = record (box h) { handle = h }; width = get_or widths h 0 }

abbrev heights_of : (ℕ → Box) → List ℕ → Forest ℕ → Forest Tall
heights_of box widths f = with_natural_heights (map_forest (widened_at box widths) f)

-- Objects fit where each pass has seen to them.
pub fit_of : (f : Forest Known) → EachKids NaturalWidthFits f → EachKids WidthsFit f → EachKids NaturalHeightFits f → EachKids SlotsFit f → AllFit f
fit_of Empty naturals widths heights slots = tt
fit_of (Tree k cs rest) naturals widths heights slots = (
  record { natural_width = naturals.0; widths = widths.0; natural_height = heights.0; slots = slots.0 },
  fit_of cs naturals.1 widths.1 heights.1 slots.1,
  fit_of rest naturals.2 widths.2 heights.2 slots.2,
)

module _ (box : ℕ → Box) (l : Layout) where
  abbrev knows : Forest ℕ → Forest Known
  knows f = known box l f

  pub tall_roots : (f : Forest ℕ) → roots (talls box l.widths l.natural_heights f) ≡ map tall_of (roots (knows f))
  tall_roots f = roots_known tall_of (known_at box l) f

  -- what is known of objects that fit is what the definition gives of their boxes
  abbrev wides : Forest ℕ → Forest Wide
  wides f = map_forest (λ h. wide_of (known_at box l h)) f

  -- an object with these children
  abbrev placed_with : ℕ → Forest ℕ → Placed
  placed_with h cs =
      let tall = tall_at box l.widths l.natural_heights h in
      let slot = slot_at l.slots h in
      record { tall = tall; slot = slot; reach = kid_reach tall slot (roots (talls box l.widths l.natural_heights cs)) }

  abbrev placed_trees : Forest ℕ → Forest Placed
  placed_trees Empty = Empty
  placed_trees (Tree h cs rest) = Tree (placed_with h cs) (placed_trees cs) (placed_trees rest)

  wides_given : (f : Forest ℕ) → AllFit (knows f) → widths_of box f ≡ wides f
  wides_given Empty fit = refl
  wides_given (Tree h cs rest) fit =
      let own = record (box h) { handle = h } in
      let below = wides_given cs fit.1 in
      let natural = ap (λ (t : Forest Wide). natural_width own (roots t)) below ∙ (ap (natural_width own) (roots_known wide_of (known_at box l) cs) ∙ sym fit.0.natural_width) in
      same_tree _ _ _ _ _ _ (ap (λ n. record { box = own; natural = n }) natural) below (wides_given rest fit.2)

  widths_given : (f : Forest ℕ) → AllFit (knows f) → with_widths (map width_of (roots (knows f))) (wides f) ≡ map_forest (widened_at box l.widths) f
  widths_given Empty fit = refl
  widths_given (Tree h cs rest) fit =
      let own = record (box h) { handle = h } in
      let kids = ap (kid_widths own (known_at box l h).width) (roots_known wide_of (known_at box l) cs) ∙ sym fit.0.widths in
      same_tree _ _ _ _ _ _ refl (ap (λ ws. with_widths ws (wides cs)) kids ∙ widths_given cs fit.1) (widths_given rest fit.2)

  heights_given : (f : Forest ℕ) → AllFit (knows f) → heights_of box l.widths f ≡ talls box l.widths l.natural_heights f
  heights_given Empty fit = refl
  heights_given (Tree h cs rest) fit =
      let own = record (box h) { handle = h } in
      let width = (known_at box l h).width in
      let below = heights_given cs fit.1 in
      let natural = ap (λ (t : Forest Tall). natural_height own width (roots t)) below ∙ (ap (natural_height own width) (tall_roots cs) ∙ sym fit.0.natural_height) in
      same_tree _ _ _ _ _ _ (ap (λ n. record { box = own; width = width; natural_height = n }) natural) below (heights_given rest fit.2)

  slots_given : (f : Forest ℕ) → AllFit (knows f) → with_slots (map slot_of (roots (knows f))) (talls box l.widths l.natural_heights f) ≡ placed_trees f
  slots_given Empty fit = refl
  slots_given (Tree h cs rest) fit =
      let k = known_at box l h in
      let kids = ap (kid_slots (tall_of k) k.slot) (tall_roots cs) ∙ sym fit.0.slots in
      same_tree _ _ _ _ _ _ refl (ap (λ ss. with_slots ss (talls box l.widths l.natural_heights cs)) kids ∙ slots_given cs fit.1) (slots_given rest fit.2)

  -- a table has of each object what it tells
  told_holds : {A V : Type 0} (g : ℕ → A) (handle : A → ℕ) (value : A → V) (d : V) (table : List V) → ((h : ℕ) → get_or table (handle (g h)) d ≡ value (g h)) → (f : Forest ℕ) → Holds handle value d table (map_forest g f)
  told_holds g handle value d table is Empty = tt
  told_holds g handle value d table is (Tree h cs rest) = (is h, told_holds g handle value d table is cs, told_holds g handle value d table is rest)

  placed_hold : {V : Type 0} (value : Placed → V) (d : V) (table : List V) → ((h : ℕ) (cs : Forest ℕ) → get_or table h d ≡ value (placed_with h cs)) → (f : Forest ℕ) → Holds (λ (p : Placed). p.tall.box.handle) value d table (placed_trees f)
  placed_hold value d table is Empty = tt
  placed_hold value d table is (Tree h cs rest) = (is h cs, placed_hold value d table is cs, placed_hold value d table is rest)

  scrolls_hold : (f : Forest ℕ) → HoldsScrolls box l.widths l.natural_heights l.slots l.scrolls f → Holds (λ (p : Placed). p.tall.box.handle) scrolled_placed not_scrolled l.scrolls (placed_trees f)
  scrolls_hold Empty holds = tt
  scrolls_hold (Tree h cs rest) holds = (holds.0, scrolls_hold cs holds.1, scrolls_hold rest holds.2)

  -- Where all fit, and the roots fill the panel, the places are those that are solved.
  module _ (width height : ℕ) where
    fill_widths : (f : Forest ℕ) → AllFill width height (roots (knows f)) → map (λ _. width) (roots (wides f)) ≡ map width_of (roots (knows f))
    fill_widths Empty fill = refl
    fill_widths (Tree h cs rest) fill = ap (λ n. n ∷ map (λ _. width) (roots (wides rest))) (sym fill.0.is_wide) ∙ ap (λ ns. (known_at box l h).width ∷ ns) (fill_widths rest fill.1)

    fill_slots : (f : Forest ℕ) → AllFill width height (roots (knows f)) → map (λ _. corner height) (roots (talls box l.widths l.natural_heights f)) ≡ map slot_of (roots (knows f))
    fill_slots Empty fill = refl
    fill_slots (Tree h cs rest) fill =
        ap (λ s. s ∷ map (λ _. corner height) (roots (talls box l.widths l.natural_heights rest))) (sym fill.0.at_corner) ∙ ap (λ ss. (known_at box l h).slot ∷ ss) (fill_slots rest fill.1)

    -- the trees that are solved are those that the tables tell
    solved_is : (f : Forest ℕ) → IsSettled width height (knows f) → solved width height (boxed box f) ≡ placed_trees f
    solved_is f settled =
        let fit = settled.fit in
        let wide : with_widths (map (λ _. width) (roots (widths_of box f))) (widths_of box f) ≡ map_forest (widened_at box l.widths) f =
        ap (λ (t : Forest Wide). with_widths (map (λ _. width) (roots t)) t) (wides_given f fit) ∙ (ap (λ ws. with_widths ws (wides f)) (fill_widths f settled.fill) ∙ widths_given f fit) in
        let tall = ap with_natural_heights wide ∙ heights_given f fit in
        ap (λ (t : Forest Tall). with_slots (map (λ _. corner height) (roots t)) t) tall
        ∙ (ap (λ (ss : List Slot). with_slots ss (talls box l.widths l.natural_heights f)) (fill_slots f settled.fill) ∙ slots_given f fit)

    pub settled_placed : (f : Forest ℕ) → IsSettled width height (knows f) → HoldsPlaced l.widths l.slots (solved width height (boxed box f))
    settled_placed f settled =
        subst (HoldsPlaced l.widths l.slots) (sym (solved_is f settled))
        (placed_hold (λ p. p.tall.width) 0 l.widths (λ h cs. refl) f, placed_hold (λ p. p.slot) nowhere l.slots (λ h cs. refl) f)

    -- where it is told of each how far its children reach and are moved, that is so too
    pub settled_scrolled : (f : Forest ℕ) → IsSettled width height (knows f) → HoldsScrolls box l.widths l.natural_heights l.slots l.scrolls f → Holds (λ (p : Placed). p.tall.box.handle) scrolled_placed not_scrolled l.scrolls (solved width height (boxed box f))
    settled_scrolled f settled holds =
        subst (Holds (λ (p : Placed). p.tall.box.handle) scrolled_placed not_scrolled l.scrolls) (sym (solved_is f settled)) (scrolls_hold f holds)

    -- and so are their natural sizes
    pub settled_wide : (f : Forest ℕ) → IsSettled width height (knows f) → Holds (λ (w : Wide). w.box.handle) (λ (w : Wide). w.natural) 0 l.natural_widths (widths_of box f)
    settled_wide f settled =
        subst (Holds (λ (w : Wide). w.box.handle) (λ (w : Wide). w.natural) 0 l.natural_widths) (sym (wides_given f settled.fit))
        (told_holds (λ h. wide_of (known_at box l h)) (λ w. w.box.handle) (λ w. w.natural) 0 l.natural_widths (λ h. refl) f)

    pub settled_high : (f : Forest ℕ) → IsSettled width height (knows f) → Holds (λ (p : Placed). p.tall.box.handle) (λ (p : Placed). p.tall.natural_height) 0 l.natural_heights (solved width height (boxed box f))
    settled_high f settled =
        subst (Holds (λ (p : Placed). p.tall.box.handle) (λ (p : Placed). p.tall.natural_height) 0 l.natural_heights) (sym (solved_is f settled))
        (placed_hold (λ p. p.tall.natural_height) 0 l.natural_heights (λ h cs. refl) f)
