-- Tables whose handles have values.
use Rattle.std.proofs.Common.{◌≡◌, ◌∙◌, sym, ap, refl, ℕ, zero, suc, ◌<◌, true, false, Bool, List, [], ◌∷◌, length, map, set, get_or, arith}
use Rattle.std.specs.Prelude.{Option, Some, None, is_some, IsSome}
use Rattle.std.proofs.lemmas.Bool.{false≢true}
use Rattle.std.proofs.lemmas.List.{map-set, length-map}
use Rattle.std.proofs.Math.ListN.{get_or-map}
use Rattle.std.proofs.Math.Seq.{map-set_same}
use Rattle.gui_pool.specs.Table.{Table, value_at, value_replaced}
use Rattle.gui_boxes.specs.declared.entry.Entry.{Entry}
use Rattle.gui_boxes.specs.Scrolls.{scrolled_of}
use Rattle.gui_boxes.specs.Slots.{slot_of}
use Rattle.gui_boxes.specs.Standing.{standing_of}
use Rattle.gui_boxes.specs.Tables.{IsEntry, IsListed, listing_of, natural_height_or, natural_width_or, reported_or, scrolled_or, slot_or, told, touched_or, wanted_or, width_or}
use Rattle.gui_boxes.specs.Views.{box_or}

module _ {T : Type 0} where
  short_in : (os : List (Option T)) (h : ℕ) → get_or (map is_some os) h false ≡ true → h < length os
  short_in [] h e = absurd (false≢true e)
  short_in (o ∷ os) zero e = omega arith
  short_in (o ∷ os) (suc h) e = let l = short_in os h e in omega arith

  some_in : (os : List (Option T)) (h : ℕ) → get_or (map is_some os) h false ≡ true → IsSome (get_or os h None)
  some_in [] h e = absurd (false≢true e)
  some_in (None ∷ os) zero e = absurd (false≢true e)
  some_in (Some v ∷ os) zero e = refl
  some_in (o ∷ os) (suc h) e = some_in os h e

  -- a handle that is listed has a value
  pub listed_some : (t : Table T) (h : ℕ) → IsListed (listing_of t) h → IsSome (value_at t h)
  listed_some t h e = some_in t.values h e

  pub some_listed : (t : Table T) (h : ℕ) → IsSome (value_at t h) → IsListed (listing_of t) h
  some_listed t h some = get_or-map is_some t.values h None ∙ some

  -- the same handles are listed where a value is another
  pub listed_replaced : (t : Table T) (h : ℕ) (v : T) → IsListed (listing_of t) h → listing_of (value_replaced t h v) ≡ listing_of t
  listed_replaced t h v e = ap (λ (flags : List Bool). record { flags = flags; spare = t.spare }) (map-set_same is_some t.values h (Some v) None (sym e ∙ get_or-map is_some t.values h None))

  pub short : (t : Table T) (h : ℕ) → IsListed (listing_of t) h → h < length t.values
  short t h e = short_in t.values h e

-- What is told of a handle.
pub told_at : {A : Type 0} (f : Option Entry → A) (t : Table Entry) (h : ℕ) → get_or (map f t.values) h (f None) ≡ f (value_at t h)
told_at f t h = get_or-map f t.values h None

pub told_short : {A : Type 0} (f : Option Entry → A) (t : Table Entry) (h : ℕ) → IsListed (listing_of t) h → h < length (map f t.values)
told_short f t h e = let s = short t h e in omega (arith, length-map t.values f)

-- an entry tells what is told of its handle
pub is_entry : (t : Table Entry) (h : ℕ) (e : Entry) → Some e ≡ value_at t h → IsEntry (told t) h e
is_entry t h e is = record {
  wanted = ap (box_or h) (ap wanted_or is ∙ sym (told_at wanted_or t h));
  natural_width = ap natural_width_or is ∙ sym (told_at natural_width_or t h);
  width = ap width_or is ∙ sym (told_at width_or t h);
  natural_height = ap natural_height_or is ∙ sym (told_at natural_height_or t h);
  slot = ap slot_or is ∙ sym (told_at slot_or t h);
  scrolled = ap scrolled_or is ∙ sym (told_at scrolled_or t h);
  touched = ap touched_or is ∙ sym (told_at touched_or t h);
  reported = ap reported_or is ∙ sym (told_at reported_or t h);
}

-- Another entry for a handle: what it tells otherwise is set, and all else is the same.
module _ (t : Table Entry) (h : ℕ) (e v : Entry) (was : Some e ≡ value_at t h) where
  same_told : {A : Type 0} (f : Option Entry → A) → f (Some v) ≡ f (Some e) → map f (value_replaced t h v).values ≡ map f t.values
  same_told f same = map-set_same f t.values h (Some v) None (same ∙ ap f was)

  set_told : {A : Type 0} (f : Option Entry → A) → map f (value_replaced t h v).values ≡ set (map f t.values) h (f (Some v))
  set_told f = map-set f t.values h (Some v)

  pub wanted_set : v ≡ record e { wanted = v.wanted } → told (value_replaced t h v) ≡ record (told t) { boxes = set (told t).boxes h (Some v.wanted) }
  wanted_set is = λ i. record {
    boxes = set_told wanted_or i;
    natural_widths = same_told natural_width_or (ap (λ (x : Entry). x.natural_width.pixels) is) i;
    widths = same_told width_or (ap (λ (x : Entry). x.width.pixels) is) i;
    natural_heights = same_told natural_height_or (ap (λ (x : Entry). x.natural_height.pixels) is) i;
    slots = same_told slot_or (ap (λ (x : Entry). slot_of x.position) is) i;
    scrolls = same_told scrolled_or (ap (λ (x : Entry). scrolled_of x.scrolled) is) i;
    touched = same_told touched_or (ap (λ (x : Entry). x.touched) is) i;
    reported = same_told reported_or (ap (λ (x : Entry). standing_of x.reported) is) i;
  }

  pub natural_width_set : v ≡ record e { natural_width = v.natural_width } → told (value_replaced t h v) ≡ record (told t) { natural_widths = set (told t).natural_widths h v.natural_width.pixels }
  natural_width_set is = λ i. record {
    boxes = same_told wanted_or (ap (λ (x : Entry). Some x.wanted) is) i;
    natural_widths = set_told natural_width_or i;
    widths = same_told width_or (ap (λ (x : Entry). x.width.pixels) is) i;
    natural_heights = same_told natural_height_or (ap (λ (x : Entry). x.natural_height.pixels) is) i;
    slots = same_told slot_or (ap (λ (x : Entry). slot_of x.position) is) i;
    scrolls = same_told scrolled_or (ap (λ (x : Entry). scrolled_of x.scrolled) is) i;
    touched = same_told touched_or (ap (λ (x : Entry). x.touched) is) i;
    reported = same_told reported_or (ap (λ (x : Entry). standing_of x.reported) is) i;
  }

  pub width_set : v ≡ record e { width = v.width } → told (value_replaced t h v) ≡ record (told t) { widths = set (told t).widths h v.width.pixels }
  width_set is = λ i. record {
    boxes = same_told wanted_or (ap (λ (x : Entry). Some x.wanted) is) i;
    natural_widths = same_told natural_width_or (ap (λ (x : Entry). x.natural_width.pixels) is) i;
    widths = set_told width_or i;
    natural_heights = same_told natural_height_or (ap (λ (x : Entry). x.natural_height.pixels) is) i;
    slots = same_told slot_or (ap (λ (x : Entry). slot_of x.position) is) i;
    scrolls = same_told scrolled_or (ap (λ (x : Entry). scrolled_of x.scrolled) is) i;
    touched = same_told touched_or (ap (λ (x : Entry). x.touched) is) i;
    reported = same_told reported_or (ap (λ (x : Entry). standing_of x.reported) is) i;
  }

  pub natural_height_set : v ≡ record e { natural_height = v.natural_height } → told (value_replaced t h v) ≡ record (told t) { natural_heights = set (told t).natural_heights h v.natural_height.pixels }
  natural_height_set is = λ i. record {
    boxes = same_told wanted_or (ap (λ (x : Entry). Some x.wanted) is) i;
    natural_widths = same_told natural_width_or (ap (λ (x : Entry). x.natural_width.pixels) is) i;
    widths = same_told width_or (ap (λ (x : Entry). x.width.pixels) is) i;
    natural_heights = set_told natural_height_or i;
    slots = same_told slot_or (ap (λ (x : Entry). slot_of x.position) is) i;
    scrolls = same_told scrolled_or (ap (λ (x : Entry). scrolled_of x.scrolled) is) i;
    touched = same_told touched_or (ap (λ (x : Entry). x.touched) is) i;
    reported = same_told reported_or (ap (λ (x : Entry). standing_of x.reported) is) i;
  }

  pub position_set : v ≡ record e { position = v.position } → told (value_replaced t h v) ≡ record (told t) { slots = set (told t).slots h (slot_of v.position) }
  position_set is = λ i. record {
    boxes = same_told wanted_or (ap (λ (x : Entry). Some x.wanted) is) i;
    natural_widths = same_told natural_width_or (ap (λ (x : Entry). x.natural_width.pixels) is) i;
    widths = same_told width_or (ap (λ (x : Entry). x.width.pixels) is) i;
    natural_heights = same_told natural_height_or (ap (λ (x : Entry). x.natural_height.pixels) is) i;
    slots = set_told slot_or i;
    scrolls = same_told scrolled_or (ap (λ (x : Entry). scrolled_of x.scrolled) is) i;
    touched = same_told touched_or (ap (λ (x : Entry). x.touched) is) i;
    reported = same_told reported_or (ap (λ (x : Entry). standing_of x.reported) is) i;
  }

  pub scrolled_set : v ≡ record e { scrolled = v.scrolled } → told (value_replaced t h v) ≡ record (told t) { scrolls = set (told t).scrolls h (scrolled_of v.scrolled) }
  scrolled_set is = λ i. record {
    boxes = same_told wanted_or (ap (λ (x : Entry). Some x.wanted) is) i;
    natural_widths = same_told natural_width_or (ap (λ (x : Entry). x.natural_width.pixels) is) i;
    widths = same_told width_or (ap (λ (x : Entry). x.width.pixels) is) i;
    natural_heights = same_told natural_height_or (ap (λ (x : Entry). x.natural_height.pixels) is) i;
    slots = same_told slot_or (ap (λ (x : Entry). slot_of x.position) is) i;
    scrolls = set_told scrolled_or i;
    touched = same_told touched_or (ap (λ (x : Entry). x.touched) is) i;
    reported = same_told reported_or (ap (λ (x : Entry). standing_of x.reported) is) i;
  }

  pub touched_set : v ≡ record e { touched = v.touched } → told (value_replaced t h v) ≡ record (told t) { touched = set (told t).touched h v.touched }
  touched_set is = λ i. record {
    boxes = same_told wanted_or (ap (λ (x : Entry). Some x.wanted) is) i;
    natural_widths = same_told natural_width_or (ap (λ (x : Entry). x.natural_width.pixels) is) i;
    widths = same_told width_or (ap (λ (x : Entry). x.width.pixels) is) i;
    natural_heights = same_told natural_height_or (ap (λ (x : Entry). x.natural_height.pixels) is) i;
    slots = same_told slot_or (ap (λ (x : Entry). slot_of x.position) is) i;
    scrolls = same_told scrolled_or (ap (λ (x : Entry). scrolled_of x.scrolled) is) i;
    touched = set_told touched_or i;
    reported = same_told reported_or (ap (λ (x : Entry). standing_of x.reported) is) i;
  }

  pub rested_set : v ≡ record e { touched = v.touched; reported = v.reported } → told (value_replaced t h v) ≡ record (told t) { touched = set (told t).touched h v.touched; reported = set (told t).reported h (standing_of v.reported) }
  rested_set is = λ i. record {
    boxes = same_told wanted_or (ap (λ (x : Entry). Some x.wanted) is) i;
    natural_widths = same_told natural_width_or (ap (λ (x : Entry). x.natural_width.pixels) is) i;
    widths = same_told width_or (ap (λ (x : Entry). x.width.pixels) is) i;
    natural_heights = same_told natural_height_or (ap (λ (x : Entry). x.natural_height.pixels) is) i;
    slots = same_told slot_or (ap (λ (x : Entry). slot_of x.position) is) i;
    scrolls = same_told scrolled_or (ap (λ (x : Entry). scrolled_of x.scrolled) is) i;
    touched = set_told touched_or i;
    reported = set_told reported_or i;
  }
