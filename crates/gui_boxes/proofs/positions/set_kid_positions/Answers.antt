use Rattle.std.proofs.Common.{◌≡◌, ◌∙◌, refl, ℕ, sym, ap, subst, map, set, take, List, arith}
use Rattle.std.specs.List.{All}
use Rattle.std.proofs.lemmas.Int.{ints}
use Rattle.std.proofs.lemmas.List.Elements.{All-weaker}
use Rattle.gui_base.specs.Forest.{Forest, children_of, tree_at}
use Rattle.layout_defs.specs.Boxes.{Box}
use Rattle.layout_defs.specs.Scrolling.{moved_room}
use Rattle.layout_defs.specs.Solving.{Tall, Slot, Room, nowhere, tall_box, own_slot, dealt, taking_part, flow_slots, flat_slots, kid_reach, moved, reach_in, room_of}
use Rattle.layout_defs.specs.Tables.{KeepsOthers}
use Rattle.layout_defs.specs.declared.Course.{Course}
use Rattle.gui_boxes.specs.Kids.{tall_kids}
use Rattle.gui_boxes.specs.Scrolls.{Scrolled, moves_of, scrolled_by, scrolled_in, scrolled_of, span_of}
use Rattle.gui_boxes.specs.Settled.{Known, Layout, known_at, tall_of}
use Rattle.gui_boxes.specs.Sizings.{kid_by}
use Rattle.gui_boxes.specs.Tables.{Listing, AreListed, IsListed, listing_of, told}
use Rattle.gui_boxes.specs.Views.{box_at, box_of}
use Rattle.gui_boxes.specs.Slots.{slot_at, at_roots, room_in, item_slot, tall_at, IsAtCorner, IsBelow, IsClose, HasRoom}
use Rattle.gui_boxes.specs.Touched.{is_touched, AtRoots, Touches}
use Rattle.gui_boxes.proofs.Kids.{kid_told, named}
use Rattle.layout_defs.proofs.Scrolling.{dealt-moved}
use Rattle.gui_boxes.proofs.Moving.{items-moved, moved_below}
use Rattle.gui_boxes.proofs.Passes.{roots_read}
use Rattle.gui_tree.proofs.Below.{own_tree}
use Rattle.gui_boxes.proofs.Stands.{flat_slots_are}
use Rattle.gui_boxes.proofs.positions.set_kid_positions.Goals as goal
use Rattle.gui_boxes.proofs.positions.set_kid_positions.Goals.{After-deal_positions, After-flat_reach-reach, After-scrolled_by-scrolled, After-set_scrolled}

module _ (c : After-flat_reach-reach) where
  abbrev f : Forest ℕ
  f = c.args.tree.now.forest

  abbrev h : ℕ
  h = c.args.h.0

  abbrev l : Layout
  l = told c.args.entries.now

  abbrev kids : List Tall
  kids = tall_kids l f h

  abbrev tall : Tall
  tall = tall_at (box_at l.boxes) l.widths l.natural_heights h

  abbrev slot : Slot
  slot = slot_at l.slots h

  abbrev room : Room
  room = room_in c.inside_of-inside.result

  abbrev flow : List Slot
  flow = map (item_slot c.course_of-course.result room) (take c.place_flow-count.result c.place_flow-count.new.items)

  -- where the children stand flat
  abbrev flat : List Slot
  flat = dealt tall_box (own_slot room) kids flow

  own_is : IsListed (listing_of c.args.entries.now) h
  own_is = c.requires.listed h (own_tree f h c.requires.there)

  room_is : room ≡ room_of tall slot
  room_is =
      let own = kid_by h c.entry_of-own.result.now in
      subst (λ (k : Known). room ≡ room_of (tall_of k) k.slot) (kid_told l h c.entry_of-own.result.now c.entry_of-own.ensures.told) (c.inside_of-inside.ensures.value h own.natural_height)

  stand : flat ≡ flat_slots tall slot kids
  stand =
      let own = kid_by h c.entry_of-own.result.now in
      let items = take c.place_flow-count.result c.place_flow-count.new.items in
      let is : flow ≡ flow_slots own.box room (taking_part tall_box kids) =
      ap (λ (course : Course). map (item_slot course room) items) c.course_of-course.ensures ∙ c.place_flow-count.ensures.slots in
      subst (λ (k : Known). flat ≡ flat_slots (tall_of k) k.slot kids) (kid_told l h c.entry_of-own.result.now c.entry_of-own.ensures.told)
      (flat_slots_are (tall_of own) own.slot room kids flow flat (c.inside_of-inside.ensures.value h own.natural_height) refl is)

  corner_of : IsAtCorner slot room
  corner_of = subst (λ (s : Slot). IsAtCorner s room) c.entry_of-own.ensures.told.slot c.inside_of-inside.ensures.near

pub entry_of-own-requires : goal.entry_of-own-requires
entry_of-own-requires c = c.requires.listed c.args.h.0 (own_tree c.args.tree.now.forest c.args.h.0 c.requires.there)

pub inside_of-inside-requires-clause-room : goal.inside_of-inside-requires-clause-room
inside_of-inside-requires-clause-room c = subst (λ (s : Slot). HasRoom s 1) (sym c.entry_of-own.ensures.told.slot) c.requires.room

pub entry_of-requires : goal.entry_of-requires
entry_of-requires c = own_is (goal.at.entry_of-requires c).After-flat_reach-reach

pub set_scrolled-requires : goal.set_scrolled-requires
set_scrolled-requires c = own_is (goal.at.set_scrolled-requires c).After-flat_reach-reach

pub moved_inside-requires-clause-left : goal.moved_inside-requires-clause-left
moved_inside-requires-clause-left c =
    let a = (corner_of (goal.at.moved_inside-requires-clause-left c).After-flat_reach-reach).left in let b = c.requires.room.left in omega (arith, ints)

pub moved_inside-requires-clause-top : goal.moved_inside-requires-clause-top
moved_inside-requires-clause-top c =
    let a = (corner_of (goal.at.moved_inside-requires-clause-top c).After-flat_reach-reach).top in let b = c.requires.room.top in omega (arith, ints)

pub deal_positions-requires : goal.deal_positions-requires
deal_positions-requires c = record { listed = subst (λ (ks : Listing). AreListed ks (tree_at c.args.tree.now.forest c.args.h.0)) (sym c.set_scrolled.ensures.listed) c.requires.listed }

-- how far they reach, and how far they are moved
module _ (c : After-scrolled_by-scrolled) where
  abbrev d : After-flat_reach-reach
  d = (goal.at.After-scrolled_by-scrolled c).After-flat_reach-reach

  reaches : span_of c.flat_reach-reach.result ≡ kid_reach (tall d) (slot d) (kids d)
  reaches = c.flat_reach-reach.ensures ∙ (ap (λ (r : Room). reach_in r (kids d) (flat d)) (room_is d) ∙ ap (reach_in (room_of (tall d) (slot d)) (kids d)) (stand d))

  is_scrolled : scrolled_of c.scrolled_by-scrolled.result ≡ scrolled_in (tall d) (slot d) (kids d)
  is_scrolled =
      let i = c.args.h.0 in
      let is : box_of i c.entry_of.result.now.wanted ≡ (tall d).box = c.entry_of.ensures.told.wanted ∙ sym (named (told c.args.entries.now).boxes i) in
      c.scrolled_by-scrolled.ensures i ∙ (ap (λ (b : Box). scrolled_by b (span_of c.flat_reach-reach.result)) is ∙ ap (scrolled_by (tall d).box) reaches)

-- once they are dealt
module _ (c : After-deal_positions) where
  abbrev b : After-scrolled_by-scrolled
  b = (goal.at.After-deal_positions c).After-scrolled_by-scrolled

  abbrev e : After-flat_reach-reach
  e = (goal.at.After-deal_positions c).After-flat_reach-reach

  abbrev set_own : Layout
  set_own = told c.set_scrolled.new.entries

  abbrev new : Layout
  new = told c.deal_positions.new.entries

  set_is : set_own ≡ record (l e) { scrolls = set (l e).scrolls (h e) (scrolled_of c.scrolled_by-scrolled.result) }
  set_is = c.set_scrolled.ensures.set

  same_slots : set_own.slots ≡ (l e).slots
  same_slots = ap (λ (m : Layout). m.slots) set_is

  same_touched : set_own.touched ≡ (l e).touched
  same_touched = ap (λ (m : Layout). m.touched) set_is

  same_kids : tall_kids set_own (f e) (h e) ≡ kids e
  same_kids =
      let cs = children_of (f e) (h e) in
      ap (λ (m : Layout). tall_kids m (f e) (h e)) set_is
      ∙ (roots_read tall_of (known_at (box_at (l e).boxes) (l e)) cs ∙ sym (roots_read tall_of (known_at (box_at (l e).boxes) (l e)) cs))

  moved_is : at_roots new.slots (children_of (f e) (h e)) ≡ map (moved (moves_of c.scrolled_by-scrolled.result.offset)) (flat e)
  moved_is =
      let offset = moves_of c.scrolled_by-scrolled.result.offset in
      let course = c.course_of-course.result in
      let items = take c.place_flow-count.result c.place_flow-count.new.items in
      let later = moved_room offset (room e) in
      c.deal_positions.ensures.deals.dealt
      ∙ (ap (λ (r : Room). dealt tall_box (own_slot r) (tall_kids set_own (f e) (h e)) (map (item_slot course r) items)) c.moved_inside.ensures
      ∙ (ap (λ (ks : List Tall). dealt tall_box (own_slot later) ks (map (item_slot course later) items)) same_kids
      ∙ (ap (dealt tall_box (own_slot later) (kids e)) (items-moved course offset (room e) items) ∙ dealt-moved offset (room e) (kids e) (flow e))))

pub returns-clause-kids : goal.returns-clause-kids
returns-clause-kids c =
    let d = (goal.at.returns-clause-kids c).After-deal_positions in
    moved_is d
    ∙ (ap (map (moved (moves_of c.scrolled_by-scrolled.result.offset))) (stand (e d)) ∙ ap (λ (s : Scrolled). map (moved s.offset) (flat_slots (tall (e d)) (slot (e d)) (kids (e d)))) (is_scrolled (b d)))

pub returns-clause-others : goal.returns-clause-others
returns-clause-others c =
    let d = (goal.at.returns-clause-others c).After-deal_positions in
    subst (λ (ss : List Slot). KeepsOthers nowhere ss (new d).slots (children_of (f (e d)) (h (e d)))) (same_slots d) c.deal_positions.ensures.deals.others

pub returns-clause-near : goal.returns-clause-near
returns-clause-near c =
    let d = (goal.at.returns-clause-near c).After-deal_positions in
    let o = c.scrolled_by-scrolled.result.offset in
    let later = moved_room (moves_of o) (room (e d)) in
    let ss = at_roots (new d).slots (children_of (f (e d)) (h (e d))) in
    All-weaker (IsClose later.x later.y) (IsBelow (slot (e d))) (moved_below (slot (e d)) (room (e d)) (moves_of o) (corner_of (e d)) o.across_fits o.down_fits) ss
    (subst (λ (r : Room). All (IsClose r.x r.y) ss) c.moved_inside.ensures c.deal_positions.ensures.deals.close)

pub returns-clause-scrolled : goal.returns-clause-scrolled
returns-clause-scrolled c =
    let d = (goal.at.returns-clause-scrolled c).After-deal_positions in
    ap (λ (m : Layout). m.scrolls) c.deal_positions.ensures.rest
    ∙ (ap (λ (m : Layout). m.scrolls) (set_is d) ∙ ap (set (l (e d)).scrolls (h (e d))) (is_scrolled (b d)))

pub returns-clause-touches : goal.returns-clause-touches
returns-clause-touches c =
    let d = (goal.at.returns-clause-touches c).After-deal_positions in
    subst (λ (m : Layout). Touches nowhere (is_touched m) (is_touched (new d)) m.slots (new d).slots (children_of (f (e d)) (h (e d)))) (set_is d) c.deal_positions.ensures.touches

pub returns-clause-roots : goal.returns-clause-roots
returns-clause-roots c =
    let d = (goal.at.returns-clause-roots c).After-deal_positions in
    subst (λ (m : Layout). AtRoots (is_touched m) (is_touched (new d)) (children_of (f (e d)) (h (e d)))) (set_is d) c.deal_positions.ensures.roots

pub returns-clause-rest : goal.returns-clause-rest
returns-clause-rest c =
    let d = (goal.at.returns-clause-rest c).After-deal_positions in
    let n = new d in
    c.deal_positions.ensures.rest
    ∙ (ap (λ (m : Layout). record m { slots = n.slots; touched = n.touched }) (set_is d)
    ∙ ap (λ (rs : List Scrolled). record (l (e d)) { slots = n.slots; scrolls = rs; touched = n.touched }) (sym (ap (λ (m : Layout). m.scrolls) c.deal_positions.ensures.rest ∙ ap (λ (m : Layout). m.scrolls) (set_is d))))

pub returns-clause-listed : goal.returns-clause-listed
returns-clause-listed c = c.deal_positions.ensures.listed ∙ c.set_scrolled.ensures.listed
