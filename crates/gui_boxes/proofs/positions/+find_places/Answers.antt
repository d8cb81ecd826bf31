use Rattle.std.proofs.Common.{◌≡◌, ◌≤◌, ◌∙◌, sym, ap, subst, ℕ, Bool, true, false, List, get_or, map, set, arith, rules}
use Rattle.std.specs.List.{All}
use Rattle.std.proofs.lemmas.Bool.{both_ways, false≢true, false_from_ne_true}
use Rattle.std.proofs.lemmas.List.{get_or-set_other}
use Rattle.std.proofs.lemmas.List.Elements.{All-head, All-tail}
use Rattle.gui_base.specs.Forest.{Forest, Empty, Tree, has, height, children_of, roots, tree_at}
use Rattle.gui_tree.proofs.Below.{begins_below, steps_below, tree_is, own_tree, leaf_tree, whole_tree}
use Rattle.layout_defs.specs.Solving.{Slot, nowhere}
use Rattle.layout_defs.specs.Tables.{KeepsOthers}
use Rattle.gui_boxes.specs.Kids.{tall_kids, told_trees}
use Rattle.gui_boxes.specs.Tables.{Listing, IsListed, listing_of, told, AreListed, scrolled_or}
use Rattle.gui_boxes.specs.Settled.{Known, Layout, EachKids, SlotsFit, slot_of}
use Rattle.gui_boxes.specs.Views.{box_at}
use Rattle.gui_boxes.specs.Slots.{slot_at, at_roots, tall_at, IsBelow}
use Rattle.gui_boxes.specs.Scrolls.{Scrolled, not_scrolled, scrolled_in}
use Rattle.gui_boxes.specs.Touched.{is_touched, HoldsScrollsIf, IfTouched, IsClosed, KeepsCalm, Touches}
use Rattle.gui_boxes.proofs.Touched.{calm_at, calm_then, closed_agree, closed_kids, closed_roots, closed_whole, touches_same}
use Rattle.gui_boxes.proofs.Keeps.{keeps_same}
use Rattle.gui_boxes.proofs.Listed.{told_short}
use Rattle.gui_boxes.proofs.Passes.{slots_pass, beside_same, roots_read}
use Rattle.gui_boxes.proofs.Reached.{Reaches, Reached, reached_none, reached_first, reached_top, reaches_leaf, reaches-calm}
use Rattle.gui_boxes.proofs.Stands.{room_below, room_fewer}
use Rattle.gui_boxes.proofs.positions.+find_places.Goals as goal
use Rattle.gui_boxes.proofs.positions.+find_places.Goals.{In-None, After-set_scrolled}

pub set_kid_positions-requires-clause-room : goal.set_kid_positions-requires-clause-room
set_kid_positions-requires-clause-room t c =
    let f = c.args.tree.now.forest in
    let h = c.args.h.0 in
    let high : 1 ≤ height (tree_at f h) = rw (tree_is f h c.requires.there) (omega arith) in
    room_fewer (slot_at (told c.args.entries.now).slots h) 1 (height (tree_at f h)) c.requires.room high

pub loop-child-init : goal.loop-child-init
loop-child-init t c =
    let was = told c.args.entries.now in
    let now = told c.set_kid_positions.new.entries in
    let begins = begins_below c.args.tree.now.forest c.args.h.0 _ (c.into_iter-child-iterator.ensures.into_iter_gives ∙ c.children-child-items.ensures.walk) in
    let f = c.args.tree.now.forest in
    let h = c.args.h.0 in
    let set_kids = c.set_kid_positions.ensures in
    let is : is_touched was h ≡ true = search rules in
    record {
      below = begins.is;
      listed = set_kids.listed;
      rest = set_kids.rest;
      more = set_kids.touches.more;
      calm = set_kids.touches.calm;
      calm_scrolls = subst (KeepsCalm not_scrolled (is_touched now) was.scrolls) (sym set_kids.scrolled) (λ k none. get_or-set_other was.scrolls h k _ not_scrolled (λ e. false≢true (sym none ∙ (ap (is_touched now) e ∙ set_kids.touches.more h is))));
      closed = rw begins.all (closed_roots (is_touched was) (is_touched now) set_kids.touches.more (children_of f h) set_kids.roots (closed_kids (is_touched was) f h c.requires.there c.requires.closed));
      near = rw begins.all set_kids.near;
      later = λ (t : ℕ → Bool) (u : List Slot) (v : List Scrolled) rest. subst (Reached was (is_touched now) t now.slots u now.scrolls v) begins.all rest;
    }

pub find_places-requires : goal.find_places-requires
find_places-requires t c =
    let inv = c.loop-child.invariant in
    let f = c.args.tree.now.forest in
    let h = c.in-Some.child.0 in
    let trees = c.next.new.self.left in
    let g = steps_below f c.args.h.0 _ _ _ inv.below c.in-Some.ensures.steps in
    let fewer = g.fewer in
    let parent = slot_at (told c.args.entries.now).slots c.args.h.0 in
    let slots = (told c.loop-child.entries).slots in
    let child = slot_at slots h in
    let near : All (IsBelow parent) (at_roots slots (Tree h g.children trees)) = subst (λ (t : Forest ℕ). All (IsBelow parent) (at_roots slots t)) g.left inv.near in
    let below : IsBelow parent child = All-head (IsBelow parent) child (at_roots slots trees) near in
    let listed : AreListed (listing_of c.loop-child.entries) (tree_at f h) = λ k i. subst (λ (ks : Listing). IsListed ks k) (sym inv.listed) (c.requires.listed k (g.inside k i)) in
    let room = c.requires.enough in
    let touched = is_touched (told c.loop-child.entries) in
    let closed : IsClosed touched (Tree h g.children trees) = subst (IsClosed touched) g.left inv.closed in
    (search rules, (c.requires.once, (listed, (c.requires.few, (g.there, (omega arith, (room_below parent child (height (tree_at f h)) (height (tree_at f c.args.h.0)) c.requires.room below g.lower, subst (IsClosed touched) (sym g.tree) (closed.0, closed.1, tt))))))))

pub loop-child-preserved : goal.loop-child-preserved
loop-child-preserved t c =
    let inv = c.loop-child.invariant in
    let f = c.args.tree.now.forest in
    let was = told c.args.entries.now in
    let trees = c.next.new.self.left in
    let g = steps_below f c.args.h.0 _ _ _ inv.below c.in-Some.ensures.steps in
    let h = c.in-Some.child.0 in
    let begun = told c.loop-child.entries in
    let a = begun.slots in
    let r = begun.scrolls in
    let b = (told c.find_places.new.entries).slots in
    let v = (told c.find_places.new.entries).scrolls in
    let done = c.find_places.ensures in
    let parent = slot_at was.slots c.args.h.0 in
    let near : All (IsBelow parent) (at_roots a (Tree h g.children trees)) = subst (λ (t : Forest ℕ). All (IsBelow parent) (at_roots a t)) g.left inv.near in
    let now = told c.find_places.new.entries in
    let t = is_touched begun in
    let w = is_touched now in
    let rest = done.rest ∙ ap (λ (l : Layout). record l { slots = b; scrolls = v; touched = now.touched }) inv.rest in
    let closed : IsClosed w (Tree h g.children Empty) = subst (IsClosed w) g.tree done.closed in
    let touches : (k : ℕ) → has g.children k ≡ false → w k ≡ t k = λ k out. done.touches.others k (ap (λ (t : Forest ℕ). has t k) g.below ∙ out) in
    let ahead : IsClosed t (Tree h g.children trees) = subst (IsClosed t) g.left inv.closed in
    let first : Reaches was w a b r v h g.children = record {
      found =
          subst (λ (l : Layout). EachKids (IfTouched w SlotsFit) (told_trees l (Tree h g.children Empty))) rest
          (subst (λ (t : Forest ℕ). EachKids (IfTouched w SlotsFit) (told_trees now t)) g.tree done.found);
      below = subst (KeepsOthers nowhere a b) g.below done.others;
      scrolled =
          subst (λ (l : Layout). HoldsScrollsIf w (box_at l.boxes) l.widths l.natural_heights b v (Tree h g.children Empty)) inv.rest
          (subst (HoldsScrollsIf w (box_at begun.boxes) begun.widths begun.natural_heights b v) g.tree done.scrolled);
      others = subst (KeepsOthers not_scrolled r v) g.tree done.other_scrolls;
    } in
    let by = (slots_pass was).by in
    let stay : at_roots a trees ≡ at_roots b trees =
    sym (roots_read slot_of (by a) trees) ∙ (ap (λ (ks : Forest Known). map slot_of (roots ks)) (beside_same (slots_pass was) a b h g.children trees g.once first.below) ∙ roots_read slot_of (by b) trees) in
    record {
      below = g.is;
      listed = done.listed ∙ inv.listed;
      rest = rest;
      more = λ k is. done.touches.more k (inv.more k is);
      calm = calm_then nowhere t w was.slots a b done.touches.more inv.calm done.touches.calm;
      calm_scrolls = calm_then not_scrolled t w was.scrolls r v done.touches.more inv.calm_scrolls done.calm_scrolls;
      closed = closed_agree t w trees (λ k i. touches k (false_from_ne_true (has g.children k) (λ j. both_ways _ (g.once.0 k j) i))) ahead.2;
      near = subst (All (IsBelow parent)) stay (All-tail (IsBelow parent) (get_or a h nowhere) (at_roots a trees) near);
      later = λ (x : ℕ → Bool) (u : List Slot) (z : List Scrolled) rest.
          inv.later x u z (subst (Reached was t x a u r z) (sym g.left) (reached_first was t w x a b u r v z h g.children trees g.once first closed touches rest));
    }

-- an object with children
module _ (t : ℕ) (c : In-None t) where
  abbrev forest : Forest ℕ
  forest = c.args.tree.now.forest

  abbrev top : ℕ
  top = c.args.h.0

  abbrev was : Layout
  was = told c.args.entries.now

  abbrev begun : Layout
  begun = told c.set_kid_positions.new.entries

  abbrev now : Layout
  now = told c.loop-child.entries

  abbrev touched : ℕ → Bool
  touched = is_touched now

  abbrev own : Scrolled
  own = scrolled_in (tall_at (box_at was.boxes) was.widths was.natural_heights top) (get_or was.slots top nowhere) (tall_kids was forest top)

  lower : Reached was (is_touched begun) touched begun.slots now.slots (set was.scrolls top own) now.scrolls (children_of forest top)
  lower =
      subst (λ (q : List Scrolled). Reached was (is_touched begun) touched begun.slots now.slots q now.scrolls (children_of forest top)) c.set_kid_positions.ensures.scrolled
      (c.loop-child.invariant.later touched now.slots now.scrolls (rw c.in-None.ensures.steps.0 (reached_none was touched now.slots now.scrolls)))

  all_found : Reaches was touched was.slots now.slots was.scrolls now.scrolls top (children_of forest top)
  all_found =
      let short = told_short scrolled_or c.args.entries.now top (c.requires.listed top (own_tree forest top c.requires.there)) in
      reached_top was (is_touched begun) touched was.slots begun.slots now.slots was.scrolls now.scrolls top (children_of forest top) (whole_tree forest top c.requires.once c.requires.there).out short c.set_kid_positions.ensures.kids c.set_kid_positions.ensures.others lower

pub returns-clause-found : goal.returns-clause-found
returns-clause-found t c =
    let d = (goal.at.returns-clause-found t c).In-None in
    subst (EachKids (IfTouched (touched t d) SlotsFit)) (sym (ap (told_trees (told c.loop-child.entries)) (tree_is c.args.tree.now.forest c.args.h.0 c.requires.there)))
    (subst (λ (l : Layout). EachKids (IfTouched (touched t d) SlotsFit) (told_trees l (Tree c.args.h.0 (children_of c.args.tree.now.forest c.args.h.0) Empty))) (sym c.loop-child.invariant.rest) (all_found t d).found)

pub returns-clause-others : goal.returns-clause-others
returns-clause-others t c = (all_found t (goal.at.returns-clause-others t c).In-None).below

pub returns-clause-scrolled : goal.returns-clause-scrolled
returns-clause-scrolled t c =
    let d = (goal.at.returns-clause-scrolled t c).In-None in
    let was = told c.args.entries.now in
    let now = told c.loop-child.entries in
    subst (HoldsScrollsIf (touched t d) (box_at was.boxes) was.widths was.natural_heights now.slots now.scrolls) (sym (tree_is c.args.tree.now.forest c.args.h.0 c.requires.there)) (all_found t d).scrolled

pub returns-clause-other_scrolls : goal.returns-clause-other_scrolls
returns-clause-other_scrolls t c =
    subst (KeepsOthers not_scrolled (told c.args.entries.now).scrolls (told c.loop-child.entries).scrolls) (sym (tree_is c.args.tree.now.forest c.args.h.0 c.requires.there)) (all_found t (goal.at.returns-clause-other_scrolls t c).In-None).others

-- the object itself is touched
pub returns-clause-closed : goal.returns-clause-closed
returns-clause-closed t c =
    let d = (goal.at.returns-clause-closed t c).In-None in
    let is : is_touched (was t d) (top t d) ≡ true = search rules in
    let own : touched t d (top t d) ≡ true = c.loop-child.invariant.more (top t d) is in
    subst (IsClosed (touched t d)) (sym (tree_is (forest t d) (top t d) c.requires.there)) (λ none. absurd (false≢true (sym none ∙ own)), (lower t d).closed, tt)

pub returns-clause-touches : goal.returns-clause-touches
returns-clause-touches t c =
    let d = (goal.at.returns-clause-touches t c).In-None in
    record {
      more = c.loop-child.invariant.more;
      others = λ k out. (lower t d).touches k out ∙ c.set_kid_positions.ensures.touches.others k out;
      calm = c.loop-child.invariant.calm;
    }

pub set_scrolled-requires : goal.set_scrolled-requires
set_scrolled-requires t c = c.requires.listed c.args.h.0 (own_tree c.args.tree.now.forest c.args.h.0 c.requires.there)

-- an object without children
module _ (t : ℕ) (c : After-set_scrolled t) where
  abbrev f : Forest ℕ
  f = c.args.tree.now.forest

  abbrev h : ℕ
  h = c.args.h.0

  abbrev l : Layout
  l = told c.args.entries.now

  abbrev m : Layout
  m = told c.set_scrolled.new.entries

  is_leaf : tree_at f h ≡ Tree h Empty Empty
  is_leaf = leaf_tree f h c.first_child.result c.is_none.result c.requires.there c.first_child.ensures c.is_none.ensures c.if-is_none.true

  set_slots : m.slots ≡ l.slots
  set_slots = ap (λ (k : Layout). k.slots) c.set_scrolled.ensures.set

  set_touched : m.touched ≡ l.touched
  set_touched = ap (λ (k : Layout). k.touched) c.set_scrolled.ensures.set

  own_touched : is_touched l h ≡ true
  own_touched = search rules

  leaf : (u : ℕ → Bool) → Reaches l u l.slots l.slots l.scrolls m.scrolls h Empty
  leaf u =
      let short = told_short scrolled_or c.args.entries.now h (c.requires.listed h (own_tree f h c.requires.there)) in
      subst (λ (rs : List Scrolled). Reaches l u l.slots l.slots l.scrolls rs h Empty) (sym (ap (λ (k : Layout). k.scrolls) c.set_scrolled.ensures.set)) (reaches_leaf l u l.slots l.scrolls h short)

pub returns-then-is_none-clause-found : goal.returns-then-is_none-clause-found
returns-then-is_none-clause-found t c =
    let d = (goal.at.returns-then-is_none-clause-found t c).After-set_scrolled in
    let u = is_touched (m t d) in
    subst (EachKids (IfTouched u SlotsFit)) (sym (ap (told_trees (m t d)) (is_leaf t d)))
    (subst (λ (k : Layout). EachKids (IfTouched u SlotsFit) (told_trees k (Tree (h t d) Empty Empty))) (sym c.set_scrolled.ensures.set) (leaf t d u).found)

pub returns-then-is_none-clause-others : goal.returns-then-is_none-clause-others
returns-then-is_none-clause-others t c =
    let d = (goal.at.returns-then-is_none-clause-others t c).After-set_scrolled in
    subst (λ (ss : List Slot). KeepsOthers nowhere (l t d).slots ss (children_of (f t d) (h t d))) (sym (set_slots t d)) (keeps_same nowhere (l t d).slots (children_of (f t d) (h t d)))

pub returns-then-is_none-clause-scrolled : goal.returns-then-is_none-clause-scrolled
returns-then-is_none-clause-scrolled t c =
    let d = (goal.at.returns-then-is_none-clause-scrolled t c).After-set_scrolled in
    let u = is_touched (m t d) in
    let told_in = HoldsScrollsIf u (box_at (l t d).boxes) (l t d).widths (l t d).natural_heights in
    subst (λ (ss : List Slot). told_in ss (m t d).scrolls (tree_at (f t d) (h t d))) (sym (set_slots t d)) (subst (told_in (l t d).slots (m t d).scrolls) (sym (is_leaf t d)) (leaf t d u).scrolled)

pub returns-then-is_none-clause-other_scrolls : goal.returns-then-is_none-clause-other_scrolls
returns-then-is_none-clause-other_scrolls t c =
    let d = (goal.at.returns-then-is_none-clause-other_scrolls t c).After-set_scrolled in
    subst (KeepsOthers not_scrolled (l t d).scrolls (m t d).scrolls) (sym (is_leaf t d)) (leaf t d (is_touched (l t d))).others

pub returns-then-is_none-clause-closed : goal.returns-then-is_none-clause-closed
returns-then-is_none-clause-closed t c =
    let d = (goal.at.returns-then-is_none-clause-closed t c).After-set_scrolled in
    subst (λ (ts : List Bool). IsClosed (λ k. get_or ts k false) (tree_at (f t d) (h t d))) (sym (set_touched t d)) c.requires.closed

pub returns-then-is_none-clause-touches : goal.returns-then-is_none-clause-touches
returns-then-is_none-clause-touches t c =
    let d = (goal.at.returns-then-is_none-clause-touches t c).After-set_scrolled in
    let cs = children_of (f t d) (h t d) in
    subst (λ (k : Layout). Touches nowhere (is_touched (l t d)) (is_touched k) (l t d).slots k.slots cs) (sym c.set_scrolled.ensures.set) (touches_same nowhere (is_touched (l t d)) (l t d).slots cs)

pub returns-then-is_none-clause-calm_scrolls : goal.returns-then-is_none-clause-calm_scrolls
returns-then-is_none-clause-calm_scrolls t c =
    let d = (goal.at.returns-then-is_none-clause-calm_scrolls t c).After-set_scrolled in
    subst (λ (k : Layout). KeepsCalm not_scrolled (is_touched k) (l t d).scrolls k.scrolls) (sym c.set_scrolled.ensures.set)
    (λ k none. get_or-set_other (l t d).scrolls (h t d) k _ not_scrolled (λ e. false≢true (sym none ∙ (ap (is_touched (l t d)) e ∙ own_touched t d))))

pub returns-then-is_none-clause-rest : goal.returns-then-is_none-clause-rest
returns-then-is_none-clause-rest t c =
    let d = (goal.at.returns-then-is_none-clause-rest t c).After-set_scrolled in
    c.set_scrolled.ensures.set
    ∙ (ap (λ (rs : List Scrolled). record (l t d) { scrolls = rs }) (sym (ap (λ (k : Layout). k.scrolls) c.set_scrolled.ensures.set))
    ∙ (ap (λ (ss : List Slot). record (l t d) { slots = ss; scrolls = (m t d).scrolls }) (sym (set_slots t d))
    ∙ ap (λ (ts : List Bool). record (l t d) { slots = (m t d).slots; scrolls = (m t d).scrolls; touched = ts }) (sym (set_touched t d))))

-- an object that is not touched
pub is_touched-requires : goal.is_touched-requires
is_touched-requires t c = c.requires.listed c.args.h.0 (own_tree c.args.tree.now.forest c.args.h.0 c.requires.there)

pub returns-then-not-is_touched-clause-found : goal.returns-then-not-is_touched-clause-found
returns-then-not-is_touched-clause-found t c =
    let l = told c.args.entries.now in
    calm_at (is_touched l) c.args.tree.now.forest c.args.h.0 c.requires.there c.requires.closed SlotsFit l (search rules)

pub returns-then-not-is_touched-clause-others : goal.returns-then-not-is_touched-clause-others
returns-then-not-is_touched-clause-others t c = keeps_same nowhere (told c.args.entries.now).slots (children_of c.args.tree.now.forest c.args.h.0)

pub returns-then-not-is_touched-clause-other_scrolls : goal.returns-then-not-is_touched-clause-other_scrolls
returns-then-not-is_touched-clause-other_scrolls t c = keeps_same not_scrolled (told c.args.entries.now).scrolls (tree_at c.args.tree.now.forest c.args.h.0)

pub returns-then-not-is_touched-clause-touches : goal.returns-then-not-is_touched-clause-touches
returns-then-not-is_touched-clause-touches t c = touches_same nowhere (is_touched (told c.args.entries.now)) (told c.args.entries.now).slots (children_of c.args.tree.now.forest c.args.h.0)

pub returns-then-not-is_touched-clause-scrolled : goal.returns-then-not-is_touched-clause-scrolled
returns-then-not-is_touched-clause-scrolled t c =
    let l = told c.args.entries.now in
    let f = c.args.tree.now.forest in
    let h = c.args.h.0 in
    let told_in = HoldsScrollsIf (is_touched l) (box_at l.boxes) l.widths l.natural_heights l.slots l.scrolls in
    let none : is_touched l h ≡ false = search rules in
    let whole = closed_whole (is_touched l) f h c.requires.there c.requires.closed in
    subst told_in (sym (tree_is f h c.requires.there)) (λ is. absurd (false≢true (sym none ∙ is)), reaches-calm (box_at l.boxes) l.widths l.natural_heights (is_touched l) l.slots l.scrolls (children_of f h) (whole.0 none), tt)
