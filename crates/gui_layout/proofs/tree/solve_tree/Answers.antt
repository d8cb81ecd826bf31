use Rattle.std.proofs.Common.{◌≡◌, ◌∙◌, ◌≤◌, refl, sym, ap, subst, ℕ, Bool, true, false, eqb, ◌||◌, List, get_or, set, arith}
use Rattle.std.proofs.lemmas.Bool.{false≢true, or_parts}
use Rattle.std.proofs.lemmas.List.{get_or-set_other}
use Rattle.gui_base.specs.Forest.{Forest, has, height, children_of, tree_at}
use Rattle.gui_store.specs.Views.{scene_of}
use Rattle.layout_defs.specs.Boxes.{Box}
use Rattle.layout_defs.specs.OwnHeights.{but_height}
use Rattle.layout_defs.specs.Solving.{Slot, nowhere}
use Rattle.layout_defs.specs.Tables.{KeepsOthers}
use Rattle.gui_layout.specs.Renewed.{AreRenewed}
use Rattle.gui_boxes.specs.Frames.{framed_slot, framed_width, StandsIn}
use Rattle.gui_boxes.specs.Kids.{told_trees}
use Rattle.gui_boxes.specs.Layouts.{KeepsRest}
use Rattle.gui_layout.specs.OwnHeights.{AreFixedIf}
use Rattle.gui_layout.specs.Scenes.{scene_box}
use Rattle.gui_boxes.specs.Settled.{Layout, known, known_at, EachKids, NaturalWidthFits, WidthsFit, NaturalHeightFits, SlotsFit, AllFit}
use Rattle.gui_boxes.specs.Slots.{HasRoom, slot_at, slot_of}
use Rattle.gui_boxes.specs.Tables.{Listing, IsListed, AreListed, listing_of, slot_or, told, width_or}
use Rattle.gui_boxes.specs.Views.{box_of, box_at}
use Rattle.gui_layout.proofs.Bridges.{entry_set, keeps_set}
use Rattle.gui_tree.proofs.Below.{own_tree, tree_is, tree_low, whole_tree}
use Rattle.gui_boxes.proofs.Keeps.{keeps_wider}
use Rattle.gui_layout.proofs.Alone.{same_width, same_slot}
use Rattle.gui_boxes.specs.Scrolls.{HoldsScrolls, not_scrolled}
use Rattle.gui_boxes.proofs.Listed.{told_short}
use Rattle.gui_boxes.proofs.Stands.{room_fewer}
use Rattle.gui_boxes.specs.Touched.{HoldsScrollsIf, IfTouched, IsClosed, KeepsCalm, is_touched}
use Rattle.gui_boxes.proofs.Touched.{calm_then}
use Rattle.gui_layout.specs.Calm.{MovesTouched}
use Rattle.gui_layout.proofs.Propagating.{Found, Keeps, all-fit, all-scrolls, heights-if, naturals-if, same-known, scrolls-if, slots-if, widths-if}
use Rattle.gui_layout.proofs.tree.solve_tree.Goals as goal
use Rattle.gui_layout.proofs.tree.solve_tree.Goals.{After-find_natural_widths, After-set_width, After-find_widths, After-set_own_heights, After-find_natural_heights, After-set_position, After-find_places}

-- the entries of the tree stay through the passes
own_listed : (c : After-find_natural_widths) → IsListed (listing_of c.find_natural_widths.new.entries) c.args.h.0
own_listed c =
    subst (λ (ks : Listing). IsListed ks c.args.h.0) (sym c.find_natural_widths.ensures.listed)
    (c.requires.listed c.args.h.0 (own_tree c.args.tree.now.forest c.args.h.0 c.requires.there))

wide_listed : (c : After-set_width) → listing_of c.set_width.new.entries ≡ listing_of c.args.entries.now
wide_listed c = c.set_width.ensures.listed ∙ c.find_natural_widths.ensures.listed

fixed_listed : (c : After-set_own_heights) → listing_of c.set_own_heights.new.entries ≡ listing_of c.args.entries.now
fixed_listed c = c.set_own_heights.ensures.listed ∙ (c.find_widths.ensures.listed ∙ wide_listed (goal.at.After-set_own_heights c).After-set_width)

high_listed : (c : After-find_natural_heights) → listing_of c.find_natural_heights.new.entries ≡ listing_of c.args.entries.now
high_listed c = c.find_natural_heights.ensures.listed ∙ fixed_listed (goal.at.After-find_natural_heights c).After-set_own_heights

own_high : (c : After-find_natural_heights) → IsListed (listing_of c.find_natural_heights.new.entries) c.args.h.0
own_high c =
    subst (λ (ks : Listing). IsListed ks c.args.h.0) (sym (high_listed c))
    (c.requires.listed c.args.h.0 (own_tree c.args.tree.now.forest c.args.h.0 c.requires.there))

pub entry_of-own-requires : goal.entry_of-own-requires
entry_of-own-requires c = own_listed (goal.at.entry_of-own-requires c).After-find_natural_widths

pub set_width-requires-clause-listed : goal.set_width-requires-clause-listed
set_width-requires-clause-listed c = own_listed (goal.at.set_width-requires-clause-listed c).After-find_natural_widths

pub find_widths-requires-clause-listed : goal.find_widths-requires-clause-listed
find_widths-requires-clause-listed c = subst (λ (ks : Listing). AreListed ks (tree_at c.args.tree.now.forest c.args.h.0)) (sym (wide_listed (goal.at.find_widths-requires-clause-listed c).After-set_width)) c.requires.listed

-- boxes and natural widths as they are told once the object's own width is set
naturals_told : (c : After-set_width) → told c.set_width.new.entries ≡ record (told c.args.entries.now) { natural_widths = (told c.find_natural_widths.new.entries).natural_widths; widths = (told c.set_width.new.entries).widths }
naturals_told c =
    c.set_width.ensures.set
    ∙ (ap (λ ws. record (told c.find_natural_widths.new.entries) { widths = ws }) (sym (ap (λ (l : Layout). l.widths) c.set_width.ensures.set))
    ∙ ap (λ (l : Layout). record l { widths = (told c.set_width.new.entries).widths }) c.find_natural_widths.ensures.rest)

-- what is told once widths are found, but for the boxes
widths_told : (c : After-find_widths) → told c.find_widths.new.entries ≡ record (told c.args.entries.now) { natural_widths = (told c.find_natural_widths.new.entries).natural_widths; widths = (told c.find_widths.new.entries).widths; touched = (told c.find_widths.new.entries).touched }
widths_told c =
    c.find_widths.ensures.rest
    ∙ ap (λ (l : Layout). record l { widths = (told c.find_widths.new.entries).widths; touched = (told c.find_widths.new.entries).touched }) (naturals_told (goal.at.After-find_widths c).After-set_width)

pub set_own_heights-requires-clause-boxes : goal.set_own_heights-requires-clause-boxes
set_own_heights-requires-clause-boxes c =
    let d = (goal.at.set_own_heights-requires-clause-boxes c).After-find_widths in
    subst (λ (l : Layout). AreRenewed (scene_of c.args.store.now) l.boxes (tree_at c.args.tree.now.forest c.args.h.0)) (sym (widths_told d)) c.requires.boxes

pub set_own_heights-requires-clause-listed : goal.set_own_heights-requires-clause-listed
set_own_heights-requires-clause-listed c =
    let d = (goal.at.set_own_heights-requires-clause-listed c).After-set_width in
    subst (λ (ks : Listing). AreListed ks (tree_at c.args.tree.now.forest c.args.h.0)) (sym (c.find_widths.ensures.listed ∙ wide_listed d)) c.requires.listed

pub find_natural_heights-requires-clause-listed : goal.find_natural_heights-requires-clause-listed
find_natural_heights-requires-clause-listed c =
    let d = (goal.at.find_natural_heights-requires-clause-listed c).After-set_own_heights in
    subst (λ (ks : Listing). AreListed ks (tree_at c.args.tree.now.forest c.args.h.0)) (sym (fixed_listed d)) c.requires.listed

pub entry_of-own-requires-2 : goal.entry_of-own-requires-2
entry_of-own-requires-2 c = own_high (goal.at.entry_of-own-requires-2 c).After-find_natural_heights

pub set_position-requires : goal.set_position-requires
set_position-requires c = own_high (goal.at.set_position-requires c).After-find_natural_heights

pub find_places-requires-clause-listed : goal.find_places-requires-clause-listed
find_places-requires-clause-listed c =
    let d = (goal.at.find_places-requires-clause-listed c).After-find_natural_heights in
    subst (λ (ks : Listing). AreListed ks (tree_at c.args.tree.now.forest c.args.h.0)) (sym (c.set_position.ensures.listed ∙ high_listed d)) c.requires.listed

-- the object's slot is the one that it was given
placed : (c : After-set_position) → slot_at (told c.set_position.new.entries).slots c.args.h.0 ≡ slot_of c.framed_position-position.result
placed c =
    let t = c.find_natural_heights.new.entries in
    entry_set nowhere (told t).slots (told c.set_position.new.entries).slots c.args.h.0 _ (told_short slot_or t c.args.h.0 (own_high (goal.at.After-set_position c).After-find_natural_heights)) (ap (λ (l : Layout). l.slots) c.set_position.ensures.set)

pub find_places-requires-clause-room : goal.find_places-requires-clause-room
find_places-requires-clause-room c =
    let d = (goal.at.find_places-requires-clause-room c).After-set_position in
    let f = c.args.tree.now.forest in
    let h = c.args.h.0 in
    let high = tree_low f h in
    let low = c.requires.low in
    let lower : height (tree_at f h) ≤ 16 = omega arith in
    room_fewer _ (height (tree_at f h)) 16 (subst (λ (s : Slot). HasRoom s 16) (sym (placed d)) c.framed_position-position.ensures.room) lower

pub returns-clause-listed : goal.returns-clause-listed
returns-clause-listed c = c.find_places.ensures.listed ∙ (c.set_position.ensures.listed ∙ high_listed (goal.at.returns-clause-listed c).After-find_natural_heights)

pub find_natural_widths-requires-clause-closed : goal.find_natural_widths-requires-clause-closed
find_natural_widths-requires-clause-closed c = c.requires.calm.closed

pub find_widths-requires-clause-closed : goal.find_widths-requires-clause-closed
find_widths-requires-clause-closed c =
    let d = (goal.at.find_widths-requires-clause-closed c).After-set_width in
    subst (λ (l : Layout). IsClosed (is_touched l) (tree_at c.args.tree.now.forest c.args.h.0)) (sym (naturals_told d)) c.requires.calm.closed

pub set_own_heights-requires-clause-closed : goal.set_own_heights-requires-clause-closed
set_own_heights-requires-clause-closed c = c.find_widths.ensures.closed

pub find_natural_heights-requires-clause-closed : goal.find_natural_heights-requires-clause-closed
find_natural_heights-requires-clause-closed c =
    subst (λ (l : Layout). IsClosed (is_touched l) (tree_at c.args.tree.now.forest c.args.h.0)) (sym c.set_own_heights.ensures.rest) c.find_widths.ensures.closed

pub find_places-requires-clause-closed : goal.find_places-requires-clause-closed
find_places-requires-clause-closed c =
    let touched : Layout → List Bool = λ l. l.touched in
    let same = ap touched c.set_position.ensures.set ∙ (ap touched c.find_natural_heights.ensures.rest ∙ ap touched c.set_own_heights.ensures.rest) in
    subst (λ (ts : List Bool). IsClosed (λ k. get_or ts k false) (tree_at c.args.tree.now.forest c.args.h.0)) (sym same) c.find_widths.ensures.closed

-- what is not in a tree is not below its top
below_out : (f : Forest ℕ) (h k : ℕ) → has f h ≡ true → has (tree_at f h) k ≡ false → has (children_of f h) k ≡ false
below_out f h k there out =
    let whole : (eqb h k || (has (children_of f h) k || false)) ≡ false = subst (λ (t : Forest ℕ). has t k ≡ false) (tree_is f h there) out in
    let p : (eqb h k ≡ false) × ((has (children_of f h) k || false) ≡ false) = or_parts _ _ whole in
    let q : (has (children_of f h) k ≡ false) × (false ≡ false) = or_parts _ _ p.1 in
    q.0

-- What the passes leave of what is told, one after another.
module _ (c : After-find_places) where
  abbrev f : Forest ℕ
  f = c.args.tree.now.forest

  abbrev h : ℕ
  h = c.args.h.0

  abbrev box : ℕ → Box
  box = scene_box (scene_of c.args.store.now)

  abbrev start : Layout
  start = told c.args.entries.now

  abbrev wide : Layout
  wide = record start { natural_widths = (told c.find_natural_widths.new.entries).natural_widths; widths = (told c.find_widths.new.entries).widths; touched = (told c.find_widths.new.entries).touched }

  abbrev high : Layout
  high = record wide { boxes = (told c.set_own_heights.new.entries).boxes; natural_heights = (told c.find_natural_heights.new.entries).natural_heights }

  abbrev l : Layout
  l = record high { slots = (told c.find_places.new.entries).slots; scrolls = (told c.find_places.new.entries).scrolls; touched = (told c.find_places.new.entries).touched }

  told_high : told c.find_natural_heights.new.entries ≡ high
  told_high =
      c.find_natural_heights.ensures.rest
      ∙ ap (λ (k : Layout). record k { natural_heights = high.natural_heights })
      (c.set_own_heights.ensures.rest ∙ ap (λ (k : Layout). record k { boxes = high.boxes }) (widths_told (goal.at.After-find_places c).After-find_widths))

  told_set : told c.set_position.new.entries ≡ record high { slots = (told c.set_position.new.entries).slots }
  told_set =
      let slots = (told c.set_position.new.entries).slots in
      c.set_position.ensures.set
      ∙ (ap (λ (ss : List Slot). record (told c.find_natural_heights.new.entries) { slots = ss }) (sym (ap (λ (k : Layout). k.slots) c.set_position.ensures.set)) ∙ ap (λ (k : Layout). record k { slots = slots }) told_high)

  told_all : told c.find_places.new.entries ≡ l
  told_all = c.find_places.ensures.rest ∙ ap (λ (k : Layout). record k { slots = l.slots; scrolls = l.scrolls; touched = l.touched }) told_set

  -- each object of the tree is told as it is in the scene, but for its own height, which is fixed
  abbrev tree : Forest ℕ
  tree = tree_at f h

  alike : (k : ℕ) → has tree k ≡ true → but_height (box_at start.boxes k) ≡ but_height (box k)
  alike = c.requires.boxes

  -- which objects are touched: when the passes begin, once widths are found, and once all is
  abbrev t : ℕ → Bool
  t = is_touched start

  abbrev u : ℕ → Bool
  u = is_touched wide

  abbrev v : ℕ → Bool
  v = is_touched l

  -- as the layout of a moment tells it
  at_start : told c.find_natural_widths.new.entries ≡ record start { natural_widths = wide.natural_widths }
  at_start = c.find_natural_widths.ensures.rest

  at_set : told c.set_width.new.entries ≡ record start { natural_widths = wide.natural_widths; widths = (told c.set_width.new.entries).widths }
  at_set = naturals_told (goal.at.After-find_places c).After-set_width

  at_wide : told c.find_widths.new.entries ≡ wide
  at_wide = widths_told (goal.at.After-find_places c).After-find_widths

  at_fixed : told c.set_own_heights.new.entries ≡ record wide { boxes = high.boxes }
  at_fixed = c.set_own_heights.ensures.rest ∙ ap (λ (k : Layout). record k { boxes = high.boxes }) at_wide

  fixed : AreFixedIf u box wide.widths high.boxes tree
  fixed = subst (λ (k : Layout). AreFixedIf (is_touched k) box k.widths high.boxes tree) at_wide c.set_own_heights.ensures.fixed

  fixed_alike : (k : ℕ) → has tree k ≡ true → but_height (box_at high.boxes k) ≡ but_height (box k)
  fixed_alike k i = c.set_own_heights.ensures.boxes k (ap (λ (m : Layout). but_height (box_at m.boxes k)) at_wide ∙ alike k i)

  set_widths : (told c.set_width.new.entries).widths ≡ set start.widths h c.framed_width-width.result
  set_widths = ap (λ (k : Layout). k.widths) c.set_width.ensures.set ∙ ap (λ (k : Layout). set k.widths h c.framed_width-width.result) at_start

  set_slots : (told c.set_position.new.entries).slots ≡ set start.slots h (slot_of c.framed_position-position.result)
  set_slots = ap (λ (k : Layout). k.slots) c.set_position.ensures.set ∙ ap (λ (k : Layout). set k.slots h (slot_of c.framed_position-position.result)) told_high

  -- the object itself is touched, so what is set of it is no change of what is not
  own_calm : {V : Type 0} (d : V) (old new : List V) (x : V) → new ≡ set old h x → KeepsCalm d t old new
  own_calm d old new x is k none = ap (λ vs. get_or vs k d) is ∙ get_or-set_other old h k x d (λ e. false≢true (sym none ∙ (ap t e ∙ c.requires.own)))

  wider : (k : ℕ) → t k ≡ true → u k ≡ true
  wider k is = c.find_widths.ensures.touches.more k (ap (λ (m : Layout). is_touched m k) at_set ∙ is)

  later : (k : ℕ) → u k ≡ true → v k ≡ true
  later k is = c.find_places.ensures.touches.more k (ap (λ (m : Layout). is_touched m k) told_set ∙ is)

  keeps : Keeps start l t u v tree
  keeps = record {
    closed = c.requires.calm.closed;
    closed_wide = c.find_widths.ensures.closed;
    closed_last = c.find_places.ensures.closed;
    wider = wider;
    later = later;
    naturals = c.find_natural_widths.ensures.calm;
    widths = calm_then 0 t u start.widths (told c.set_width.new.entries).widths l.widths wider (own_calm 0 start.widths (told c.set_width.new.entries).widths _ set_widths) c.find_widths.ensures.touches.calm;
    heights = subst (λ (k : Layout). KeepsCalm 0 (is_touched k) k.natural_heights l.natural_heights) at_fixed c.find_natural_heights.ensures.calm;
    slots = calm_then nowhere t v start.slots (told c.set_position.new.entries).slots l.slots (λ k is. later k (wider k is)) (own_calm nowhere start.slots (told c.set_position.new.entries).slots _ set_slots) c.find_places.ensures.touches.calm;
  }

  found : Found box l t u v tree
  found = record {
    naturals = naturals-if t box (record start { natural_widths = wide.natural_widths }) l tree alike refl (subst (λ (k : Layout). EachKids (IfTouched t NaturalWidthFits) (told_trees k tree)) at_start c.find_natural_widths.ensures.found);
    widths = widths-if u box wide l tree alike refl refl (subst (λ (k : Layout). EachKids (IfTouched u WidthsFit) (told_trees k tree)) at_wide c.find_widths.ensures.found);
    heights =
        heights-if u box high l tree fixed_alike fixed refl refl
        (subst (λ (k : Layout). EachKids (IfTouched u NaturalHeightFits) (told_trees k tree)) told_high (subst (λ (k : Layout). EachKids (IfTouched (is_touched k) NaturalHeightFits) (told_trees (told c.find_natural_heights.new.entries) tree)) at_fixed c.find_natural_heights.ensures.found));
    slots = slots-if v box l l tree fixed_alike refl refl refl (subst (λ (k : Layout). EachKids (IfTouched v SlotsFit) (told_trees k tree)) told_all c.find_places.ensures.found);
  }

  calm_scrolls : KeepsCalm not_scrolled v start.scrolls l.scrolls
  calm_scrolls = subst (λ (k : Layout). KeepsCalm not_scrolled v k.scrolls l.scrolls) told_set c.find_places.ensures.calm_scrolls

  inside : has tree h ≡ true
  inside = own_tree f h c.requires.there

  fit : AllFit (known box l tree)
  fit = all-fit box start l t u v tree keeps c.requires.calm.fit found

  moves : MovesTouched box start l tree
  moves = record {
    more = λ k is. later k (wider k is);
    others = λ k out.
        let low : has (children_of f h) k ≡ false = below_out f h k c.requires.there out in
        c.find_places.ensures.touches.others k low ∙ (ap (λ (m : Layout). is_touched m k) told_set ∙ (c.find_widths.ensures.touches.others k low ∙ ap (λ (m : Layout). is_touched m k) at_set));
    closed = c.find_places.ensures.closed;
    known = same-known box start l t u v tree keeps;
    scrolls = calm_scrolls;
    reported = refl;
  }

  scrolled : HoldsScrolls box l.widths l.natural_heights l.slots l.scrolls tree
  scrolled =
      all-scrolls t v (λ k is. later k (wider k is)) box start l moves.known calm_scrolls tree c.find_places.ensures.closed c.requires.calm.scrolled
      (scrolls-if v (box_at high.boxes) box l.widths l.natural_heights l.slots l.scrolls tree fixed_alike
      (subst (λ (k : Layout). HoldsScrollsIf v (box_at k.boxes) k.widths k.natural_heights l.slots l.scrolls tree) told_set c.find_places.ensures.scrolled))

  -- the width and the slot that were set, since what is below alone changed later
  out : has (children_of f h) h ≡ false
  out = (whole_tree f h c.requires.once c.requires.there).out

  set_width_is : get_or l.widths h 0 ≡ c.framed_width-width.result
  set_width_is =
      let t = c.find_natural_widths.new.entries in
      c.find_widths.ensures.others.others h out
      ∙ entry_set 0 (told t).widths (told c.set_width.new.entries).widths h _ (told_short width_or t h (own_listed (goal.at.After-find_places c).After-find_natural_widths)) (ap (λ (k : Layout). k.widths) c.set_width.ensures.set)

  set_slot_is : slot_at l.slots h ≡ slot_of c.framed_position-position.result
  set_slot_is = c.find_places.ensures.others.others h out ∙ placed (goal.at.After-find_places c).After-set_position

  own : but_height (box_of h c.entry_of-own.result.now.wanted) ≡ but_height (box h)
  own = ap but_height (c.entry_of-own.ensures.told.wanted ∙ ap (λ (k : Layout). box_at k.boxes h) c.find_natural_widths.ensures.rest) ∙ alike h inside

  -- its box once its own height is set
  set_own : but_height (box_of h c.entry_of-own-2.result.now.wanted) ≡ but_height (box h)
  set_own = ap but_height (c.entry_of-own-2.ensures.told.wanted ∙ ap (λ (k : Layout). box_at k.boxes h) told_high) ∙ fixed_alike h inside

  stands : StandsIn c.args.frame (known_at box l h)
  stands =
      let kid = box_of h c.entry_of-own.result.now.wanted in
      let tall = box_of h c.entry_of-own-2.result.now.wanted in
      let frame = c.args.frame in
      let read = c.entry_of-own-2.ensures.told in
      record {
        width =
            set_width_is
            ∙ (c.framed_width-width.ensures.value h
            ∙ (ap (λ m. framed_width frame (record { box = kid; natural = m })) c.entry_of-own.ensures.told.natural_width
            ∙ same_width frame kid (box h) h (get_or l.natural_widths h 0) own));
        slot =
            set_slot_is
            ∙ (c.framed_position-position.ensures.value h
            ∙ (ap (λ m. framed_slot frame (record { box = tall; width = m; natural_height = c.entry_of-own-2.result.now.natural_height.pixels })) (read.width ∙ ap (λ (k : Layout). get_or k.widths h 0) told_high)
            ∙ (ap (λ m. framed_slot frame (record { box = tall; width = get_or l.widths h 0; natural_height = m })) read.natural_height
            ∙ same_slot frame tall (box h) h (get_or l.widths h 0) (get_or l.natural_heights h 0) set_own)));
      }

  widened : {V : Type 0} (d : V) (a b : List V) → KeepsOthers d a b (children_of f h) → KeepsOthers d a b tree
  widened d a b keeps = subst (KeepsOthers d a b) (sym (tree_is f h c.requires.there)) (keeps_wider d a b h (children_of f h) keeps)

  others : KeepsRest start l tree
  others =
      record {
        natural_widths = c.find_natural_widths.ensures.others;
        widths = keeps_set 0 start.widths (told c.set_width.new.entries).widths l.widths h _ tree inside set_widths (widened 0 (told c.set_width.new.entries).widths l.widths c.find_widths.ensures.others);
        natural_heights = subst (λ (xs : List ℕ). KeepsOthers 0 xs l.natural_heights tree) (ap (λ (k : Layout). k.natural_heights) at_fixed) c.find_natural_heights.ensures.others;
        slots = keeps_set nowhere start.slots (told c.set_position.new.entries).slots l.slots h _ tree inside set_slots (widened nowhere (told c.set_position.new.entries).slots l.slots c.find_places.ensures.others);
        scrolls = subst (λ (k : Layout). KeepsOthers not_scrolled k.scrolls l.scrolls tree) told_set c.find_places.ensures.other_scrolls;
      }

pub returns-clause-fit : goal.returns-clause-fit
returns-clause-fit c =
    let e = (goal.at.returns-clause-fit c).After-find_places in
    subst (λ (k : Layout). AllFit (known (box e) k (tree e))) (sym (told_all e)) (fit e)

pub returns-clause-stands : goal.returns-clause-stands
returns-clause-stands c =
    let e = (goal.at.returns-clause-stands c).After-find_places in
    subst (λ (k : Layout). StandsIn c.args.frame (known_at (box e) k c.args.h.0)) (sym (told_all e)) (stands e)

pub returns-clause-scrolled : goal.returns-clause-scrolled
returns-clause-scrolled c =
    let e = (goal.at.returns-clause-scrolled c).After-find_places in
    subst (λ (k : Layout). HoldsScrolls (box e) k.widths k.natural_heights k.slots k.scrolls (tree e)) (sym (told_all e)) (scrolled e)

pub returns-clause-moves : goal.returns-clause-moves
returns-clause-moves c =
    let e = (goal.at.returns-clause-moves c).After-find_places in
    subst (λ (k : Layout). MovesTouched (box e) (start e) k (tree e)) (sym (told_all e)) (moves e)

pub returns-clause-others : goal.returns-clause-others
returns-clause-others c =
    let e = (goal.at.returns-clause-others c).After-find_places in
    subst (λ (k : Layout). KeepsRest (start e) k (tree e)) (sym (told_all e)) (others e)

pub returns-clause-boxes : goal.returns-clause-boxes
returns-clause-boxes c =
    let e = (goal.at.returns-clause-boxes c).After-find_places in
    let wide_told = widths_told (goal.at.returns-clause-boxes c).After-find_widths in
    λ k was.
    ap (λ (j : Layout). but_height (box_at j.boxes k)) (told_all e)
    ∙ c.set_own_heights.ensures.boxes k (ap (λ (j : Layout). but_height (box_at j.boxes k)) wide_told ∙ was)

pub find_places-requires-clause-once : goal.find_places-requires-clause-once
find_places-requires-clause-once c = c.requires.once
