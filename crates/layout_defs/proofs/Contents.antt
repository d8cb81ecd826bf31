-- What is as wide as its content.
use Rattle.std.proofs.Common.{◌≡◌, ◌∙◌, refl, sym, ap, ℕ, ◌+◌, ◌-◌, ◌<◌, ◌≤◌, zero, suc, min, max, Bool, true, false, List, [], ◌∷◌, ◌++◌, length, get_or, map, fold, reverse, ℤ, pos, ◌+ℤ◌, arith}
use Rattle.std.specs.List.{All, flat_map}
use Rattle.std.proofs.lemmas.Bool.{false≢true}
use Rattle.std.proofs.lemmas.Int.{ints}
use Rattle.std.proofs.lemmas.List.{append-nil, get_or-map, length-map, reverse-reverse}
use Rattle.std.proofs.lemmas.Simd.{map-map as list-map-map}
use Rattle.gui_base.specs.Area.{nat_of}
use Rattle.gui_base.specs.declared.words.Length.{Length}
use Rattle.gui_base.specs.declared.words.Length.TheVariants.{Pixels, Percent, Content}
use Rattle.layout_defs.specs.declared.Course.{Course}
use Rattle.layout_defs.specs.declared.Course.TheVariants.{Free, Across}
use Rattle.layout_defs.specs.declared.Side.{Side}
use Rattle.layout_defs.specs.declared.Side.TheVariants.{Near}
use Rattle.layout_defs.specs.Boxes.{Box, brought, course_of, inner, inset, is_reversed, size_in, wraps}
use Rattle.layout_defs.specs.Contents.{ChildrenFillRow, ContentHoldsChildren, HasItsWidth, WrapsContent, ends_at, is_percent, natural_room}
use Rattle.layout_defs.specs.Flex.{TrackItem, shared, shared_track, spanned, tracks, weight_of}
use Rattle.layout_defs.specs.Solving.{Wide, aligned_at, flowing, in_order, kids_width, main_sizes, natural_size, natural_width, reach, row_widths, side_at, taking_part, wide_box, width_in, width_item}
use Rattle.layout_defs.proofs.OwnHeights.{in_order-map}
use Rattle.layout_defs.proofs.Shares.{nothing_shared}
use Rattle.layout_defs.proofs.Stands.{get_or-le-fold}
use Rattle.layout_defs.proofs.Tracks.{one_track}

-- A natural size is a size, and it is what an object gets that is no percentage.
size-natural : (size : Length) (around inside room natural : ℕ) → natural ≡ natural_size size around inside → is_percent size ≡ false → size_in size room natural ≡ natural
size-natural (Pixels n) around inside room natural is whole = sym is
size-natural (Percent n) around inside room natural is whole = absurd (false≢true (sym whole))
size-natural Content around inside room natural is whole = omega (arith, is)

size-small : (size : Length) (around inside natural : ℕ) → natural ≡ natural_size size around inside → brought natural ≡ natural
size-small (Pixels n) around inside natural is = omega (arith, is)
size-small (Percent n) around inside natural is = omega (arith, is)
size-small Content around inside natural is = omega (arith, is)

module _ (kid : Wide) (own : HasItsWidth kid) where
  abbrev inside : ℕ
  inside = max kid.box.own_width (kids_width (course_of kid.box.flow) kid.box (taking_part wide_box own.kids))

  width-natural : (room : ℕ) → width_in room kid ≡ kid.natural
  width-natural room = size-natural kid.box.across.size (inset kid.box.across) inside room kid.natural own.natural own.size

  natural-small : brought kid.natural ≡ kid.natural
  natural-small = size-small kid.box.across.size (inset kid.box.across) inside kid.natural own.natural

-- The content area is as wide as what the object shows, or as its children, whichever is wider.
content-room : (box : Box) (kids : List Wide) → WrapsContent box kids → natural_room box kids ≡ max box.own_width (kids_width (course_of box.flow) box (taking_part wide_box kids))
content-room box kids wraps =
    let inside = max box.own_width (kids_width (course_of box.flow) box (taking_part wide_box kids)) in
    let natural : natural_width box kids ≡ min (inset box.across + inside) 8191 = ap (λ (s : Length). natural_size s (inset box.across) inside) wraps.size in
    omega (arith, natural, wraps.small)

-- Without flex.
near-end : (wanted : ℤ) (natural : ℕ) → nat_of ((pos 0 +ℤ wanted) +ℤ pos natural) ≡ nat_of (pos natural +ℤ wanted)
near-end wanted natural =
    let same : ((pos 0 +ℤ wanted) +ℤ pos natural) ≡ (pos natural +ℤ wanted) = omega (arith, ints) in
    ap nat_of same

pub content_holds_children : ContentHoldsChildren
content_holds_children box kids free wraps i d short own near =
    let ks = taking_part wide_box kids in
    let kid = get_or ks i d in
    let room = natural_room box kids in
    let reaches = map (λ (k : Wide). reach k.box.across.side k.box.across.wanted k.natural) ks in
    let most : get_or reaches i 0 ≤ fold max 0 reaches = get_or-le-fold 0 reaches i 0 (omega (arith, short, length-map ks (λ (k : Wide). reach k.box.across.side k.box.across.wanted k.natural))) in
    let there : get_or reaches i 0 ≡ reach kid.box.across.side kid.box.across.wanted kid.natural = get_or-map (λ (k : Wide). reach k.box.across.side k.box.across.wanted k.natural) ks i d 0 short in
    let by_side : reach kid.box.across.side kid.box.across.wanted kid.natural ≡ nat_of (pos kid.natural +ℤ kid.box.across.wanted) = ap (λ (s : Side). reach s kid.box.across.wanted kid.natural) near in
    let wide : room ≡ max box.own_width (kids_width Free box ks) = content-room box kids wraps ∙ ap (λ (c : Course). max box.own_width (kids_width c box ks)) free in
    let end : ends_at room kid ≡ nat_of (pos kid.natural +ℤ kid.box.across.wanted) =
    ap (λ n. nat_of ((side_at kid.box.across.side room n +ℤ kid.box.across.wanted) +ℤ pos n)) (width-natural kid own room)
    ∙ (ap (λ (s : Side). nat_of ((side_at s room kid.natural +ℤ kid.box.across.wanted) +ℤ pos kid.natural)) near
    ∙ near-end kid.box.across.wanted kid.natural) in
    omega (arith, most, there, by_side, wide, end)

-- Rows.
abbrev plain : ℕ → TrackItem
plain n = record { main = n; cross = 0; grow = 0 }

abbrev natural_of : Wide → ℕ
natural_of kid = kid.natural

weight-plain : (ns : List ℕ) → weight_of (map plain ns) ≡ 0
weight-plain [] = refl
weight-plain (n ∷ ns) = weight-plain ns

none-shared : (extent gap : ℕ) (items : List TrackItem) → weight_of items ≡ 0 → shared false extent gap items ≡ items
none-shared extent gap [] none = refl
none-shared extent gap (item ∷ items) none =
    ap (flat_map (shared_track extent gap)) (one_track extent gap item items)
    ∙ (append-nil (shared_track extent gap (item ∷ items))
    ∙ nothing_shared extent gap (item ∷ items) none)

main-plain : (ns : List ℕ) → main_sizes (map plain ns) ≡ map brought ns
main-plain [] = refl
main-plain (n ∷ ns) = ap (λ (ms : List ℕ). brought n ∷ ms) (main-plain ns)

order-twice : (back : Bool) (ns : List ℕ) → in_order back (in_order back ns) ≡ ns
order-twice true ns = reverse-reverse ns
order-twice false ns = refl

module _ (room : ℕ) where
  items-plain : (ks : List Wide) → All (λ (kid : Wide). HasItsWidth kid) ks → All (λ (kid : Wide). kid.box.grow ≡ 0) ks → map (width_item room) ks ≡ map plain (map natural_of ks)
  items-plain [] own still = refl
  items-plain (k ∷ ks) own still =
      let width = width-natural k (own 0 k (omega arith)) room in
      let grow : k.box.grow ≡ 0 = still 0 k (omega arith) in
      let rest = items-plain ks (λ i d short. own (suc i) d (omega (arith, short))) (λ i d short. still (suc i) d (omega (arith, short))) in
      λ i. record { main = width i; cross = 0; grow = grow i } ∷ rest i

naturals-small : (ks : List Wide) → All (λ (kid : Wide). HasItsWidth kid) ks → map brought (map natural_of ks) ≡ map natural_of ks
naturals-small [] own = refl
naturals-small (k ∷ ks) own =
    let first = natural-small k (own 0 k (omega arith)) in
    let rest = naturals-small ks (λ i d short. own (suc i) d (omega (arith, short))) in
    λ i. first i ∷ rest i

flowing-still : (ks : List Wide) → All (λ (kid : Wide). kid.box.grow ≡ 0) ks → map (λ (k : Wide). flowing k.box k.natural) ks ≡ map natural_of ks
flowing-still [] still = refl
flowing-still (k ∷ ks) still =
    let grow : k.box.grow ≡ 0 = still 0 k (omega arith) in
    let first : flowing k.box k.natural ≡ k.natural = rw grow refl in
    let rest = flowing-still ks (λ i d short. still (suc i) d (omega (arith, short))) in
    λ i. first i ∷ rest i

-- each child of such a row has its natural width
row-natural : (box : Box) (room : ℕ) (kids : List Wide) → wraps box.flow ≡ false → All (λ (kid : Wide). HasItsWidth kid) (taking_part wide_box kids) →
    All (λ (kid : Wide). kid.box.grow ≡ 0) (taking_part wide_box kids) → row_widths box room kids ≡ map natural_of (taking_part wide_box kids)
row-natural box room kids one own still =
    let ks = taking_part wide_box kids in
    let back = is_reversed box.flow in
    let gap = box.across.gap in
    let ns = map natural_of ks in
    let all = λ (w : Bool) (items : List TrackItem). in_order back (main_sizes (shared w room gap (in_order back items))) in
    ap (λ w. all w (map (width_item room) ks)) one
    ∙ (ap (all false) (items-plain room ks own still)
    ∙ (ap (λ (items : List TrackItem). in_order back (main_sizes (shared false room gap items))) (in_order-map plain back ns)
    ∙ (ap (λ (items : List TrackItem). in_order back (main_sizes items)) (none-shared room gap (map plain (in_order back ns)) (weight-plain (in_order back ns)))
    ∙ (ap (in_order back) (main-plain (in_order back ns))
    ∙ (in_order-map brought back (in_order back ns)
    ∙ (ap (map brought) (order-twice back ns)
    ∙ naturals-small ks own))))))

pub children_fill_row : ChildrenFillRow
children_fill_row box kids across one wraps own still narrow =
    let ks = taking_part wide_box kids in
    let room = natural_room box kids in
    let gap = box.across.gap in
    let wide : room ≡ max box.own_width (kids_width Across box ks) = content-room box kids wraps ∙ ap (λ (c : Course). max box.own_width (kids_width c box ks)) across in
    let sum : kids_width Across box ks ≡ spanned gap (map natural_of ks) = ap (spanned gap) (flowing-still ks still) in
    let widths : spanned gap (row_widths box room kids) ≡ spanned gap (map natural_of ks) = ap (spanned gap) (row-natural box room kids one own still) in
    let most : max box.own_width (kids_width Across box ks) ≡ kids_width Across box ks = omega (arith, narrow) in
    widths ∙ (sym sum ∙ (sym most ∙ sym wide))
