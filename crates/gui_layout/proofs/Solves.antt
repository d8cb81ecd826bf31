-- Roots that are solved one after another.
use Rattle.std.proofs.Common.{◌≡◌, ◌∙◌, refl, sym, ap, subst, ℕ, true, false, eq-eqb, List, [], ◌∷◌, get_or, map, pos}
use Rattle.gui_base.specs.Forest.{Forest, Empty, Tree, has, roots, map_forest}
use Rattle.layout_defs.specs.Boxes.{Box}
use Rattle.layout_defs.specs.Solving.{Wide, Widened, Tall, Placed, Slot, kid_widths, with_widths, with_natural_heights, kid_slots, with_slots, nowhere, solved}
use Rattle.std.proofs.lemmas.Bool.{false_from_ne_true, or_left, or_right}
use Rattle.gui_boxes.specs.Slots.{talls}
use Rattle.gui_base.proofs.Forests.{map-agree}
use Rattle.gui_boxes.specs.Found.{boxed, widths_of}
use Rattle.gui_boxes.specs.Layouts.{KeepsRest}
use Rattle.gui_boxes.specs.Scrolls.{HoldsScrolls, not_scrolled, scrolled_at, scrolled_in}
use Rattle.gui_boxes.proofs.Fitting.{tall_roots}
use Rattle.gui_boxes.specs.Settled.{Layout, Known, tall_of, known_at, known, IsSettled}
use Rattle.gui_tree.proofs.Parts.{IsDistinct}
use Rattle.gui_boxes.proofs.Keeps.{keeps_none, keeps_first, elsewhere}

abbrev wide_handle : Wide → ℕ
wide_handle w = w.box.handle

abbrev widened_handle : Widened → ℕ
widened_handle w = w.box.handle

abbrev tall_handle : Tall → ℕ
tall_handle t = t.box.handle

abbrev pub placed_handle : Placed → ℕ
placed_handle p = p.tall.box.handle

-- a forest's handles are those of its boxes
pub widths-handles : (box : ℕ → Box) (f : Forest ℕ) → map_forest wide_handle (widths_of box f) ≡ f
widths-handles box Empty = refl
widths-handles box (Tree h cs rest) = rw (widths-handles box cs, widths-handles box rest) refl

-- each pass keeps the handles
handles_widened : (ws : List ℕ) (f : Forest Wide) → map_forest widened_handle (with_widths ws f) ≡ map_forest wide_handle f
handles_widened ws Empty = refl
handles_widened [] (Tree w cs rest) = rw (handles_widened [] cs, handles_widened [] rest) refl
handles_widened (v ∷ ws) (Tree w cs rest) = rw (handles_widened (kid_widths w.box v (roots cs)) cs, handles_widened ws rest) refl

handles_tall : (f : Forest Widened) → map_forest tall_handle (with_natural_heights f) ≡ map_forest widened_handle f
handles_tall Empty = refl
handles_tall (Tree w cs rest) = rw (handles_tall cs, handles_tall rest) refl

handles_placed : (ss : List Slot) (f : Forest Tall) → map_forest placed_handle (with_slots ss f) ≡ map_forest tall_handle f
handles_placed ss Empty = refl
handles_placed [] (Tree t cs rest) = rw (handles_placed [] cs, handles_placed [] rest) refl
handles_placed (s ∷ ss) (Tree t cs rest) = rw (handles_placed (kid_slots t s (roots cs)) cs, handles_placed ss rest) refl

module _ (box : ℕ → Box) (width height : ℕ) where
  pub handles_solved : (f : Forest ℕ) → map_forest placed_handle (solved width height (boxed box f)) ≡ f
  handles_solved f =
      let wide = widths_of box f in
      let widened = with_widths (map (λ _. width) (roots wide)) wide in
      let tall = with_natural_heights widened in
      handles_placed (map (λ _. record { x = pos 0; y = pos 0; height = height }) (roots tall)) tall
      ∙ (handles_tall widened ∙ (handles_widened (map (λ _. width) (roots wide)) wide ∙ widths-handles box f))

-- the same is known of an object whose entries are the same
pub known_same : (box : ℕ → Box) (b c : Layout) (k : ℕ) → get_or c.natural_widths k 0 ≡ get_or b.natural_widths k 0 → get_or c.widths k 0 ≡ get_or b.widths k 0 →
    get_or c.natural_heights k 0 ≡ get_or b.natural_heights k 0 → get_or c.slots k nowhere ≡ get_or b.slots k nowhere → known_at box c k ≡ known_at box b k
known_same box b c k natural_width width natural_height slot =
    λ i. record { box = record (box k) { handle = k }; natural_width = natural_width i; width = width i; natural_height = natural_height i; slot = slot i }

-- where the same is known of all objects of a forest, and told of how far their children are scrolled, that is
-- told right still
pub scrolls-kept : (box : ℕ → Box) (b c : Layout) (f : Forest ℕ) → ((k : ℕ) → has f k ≡ true → known_at box c k ≡ known_at box b k) → ((k : ℕ) → has f k ≡ true → scrolled_at c.scrolls k ≡ scrolled_at b.scrolls k) →
    HoldsScrolls box b.widths b.natural_heights b.slots b.scrolls f → HoldsScrolls box c.widths c.natural_heights c.slots c.scrolls f
scrolls-kept box b c Empty same stay holds = tt
scrolls-kept box b c (Tree h cs rest) same stay holds =
    let here : has (Tree h cs rest) h ≡ true = or_left _ _ (eq-eqb h h refl) in
    let below : (k : ℕ) → has cs k ≡ true → has (Tree h cs rest) k ≡ true = λ k i. or_right _ _ (or_left _ _ i) in
    let beside : (k : ℕ) → has rest k ≡ true → has (Tree h cs rest) k ≡ true = λ k i. or_right _ _ (or_right _ _ i) in
    let kids : roots (talls box b.widths b.natural_heights cs) ≡ roots (talls box c.widths c.natural_heights cs) =
    tall_roots box b cs ∙ (ap (λ (g : Forest Known). map tall_of (roots g)) (map-agree (known_at box b) (known_at box c) cs (λ k i. sym (same k (below k i)))) ∙ sym (tall_roots box c cs)) in (
      stay h here
          ∙ (holds.0
          ∙ (ap (scrolled_in (tall_of (known_at box b h)) (known_at box b h).slot) kids
          ∙ ap (λ (k : Known). scrolled_in (tall_of k) k.slot (roots (talls box c.widths c.natural_heights cs))) (sym (same h here)))),
      scrolls-kept box b c cs (λ k i. same k (below k i)) (λ k i. stay k (below k i)) holds.1,
      scrolls-kept box b c rest (λ k i. same k (beside k i)) (λ k i. stay k (beside k i)) holds.2,
    )

pub rest_same : (box : ℕ → Box) (b c : Layout) (f : Forest ℕ) (k : ℕ) → KeepsRest b c f → has f k ≡ false → known_at box c k ≡ known_at box b k
rest_same box b c f k keeps out = known_same box b c k (keeps.natural_widths.others k out) (keeps.widths.others k out) (keeps.natural_heights.others k out) (keeps.slots.others k out)

module _ (box : ℕ → Box) (width height : ℕ) where
  -- these trees are settled, it is told how far their children are scrolled, and nothing else changes
  pub record Solves (old new : Layout) (f : Forest ℕ) : Type 0 where
    pub settled : IsSettled width height (known box new f)
    pub scrolled : HoldsScrolls box new.widths new.natural_heights new.slots new.scrolls f
    pub others : KeepsRest old new f

  pub solves_none : (l : Layout) → Solves l l Empty
  solves_none l = record {
    settled = record { fit = tt; fill = tt };
    scrolled = tt;
    others = record { natural_widths = keeps_none 0 l.natural_widths; widths = keeps_none 0 l.widths; natural_heights = keeps_none 0 l.natural_heights; slots = keeps_none nowhere l.slots; scrolls = keeps_none not_scrolled l.scrolls };
  }

  pub solves_first : (a b c : Layout) (h : ℕ) (cs rest : Forest ℕ) → IsDistinct (Tree h cs rest) → Solves a b (Tree h cs Empty) → Solves b c rest → Solves a c (Tree h cs rest)
  solves_first a b c h cs rest distinct first later =
      let tree = Tree h cs Empty in
      let same : known box b tree ≡ known box c tree =
      map-agree (known_at box b) (known_at box c) tree (λ k i. sym (rest_same box b c rest k later.others (false_from_ne_true (has rest k) (λ j. elsewhere h cs rest distinct k i j)))) in
      let stays : (k : ℕ) → has tree k ≡ true → has rest k ≡ false = λ k i. false_from_ne_true (has rest k) (λ j. elsewhere h cs rest distinct k i j) in
      let held = scrolls-kept box b c tree (λ k i. rest_same box b c rest k later.others (stays k i)) (λ k i. later.others.scrolls.others k (stays k i)) first.scrolled in
      let now : IsSettled width height (known box c tree) = subst (IsSettled width height) same first.settled in
      record {
        settled = record { fit = (now.fit.0, now.fit.1, later.settled.fit); fill = (now.fill.0, later.settled.fill) };
        scrolled = (held.0, held.1, later.scrolled);
        others = record {
          natural_widths = keeps_first 0 a.natural_widths b.natural_widths c.natural_widths h cs rest first.others.natural_widths later.others.natural_widths;
          widths = keeps_first 0 a.widths b.widths c.widths h cs rest first.others.widths later.others.widths;
          natural_heights = keeps_first 0 a.natural_heights b.natural_heights c.natural_heights h cs rest first.others.natural_heights later.others.natural_heights;
          slots = keeps_first nowhere a.slots b.slots c.slots h cs rest first.others.slots later.others.slots;
          scrolls = keeps_first not_scrolled a.scrolls b.scrolls c.scrolls h cs rest first.others.scrolls later.others.scrolls;
        };
      }
