-- Images as they are kept.
use Rattle.std.proofs.Common.{◌≡◌, ◌∙◌, refl, sym, ap, subst, ℕ, zero, suc, ◌+◌, ◌-◌, ◌*◌, ◌<◌, ◌≤◌, Bool, true, false, eqb, eqb-true, eq-eqb, ltb, ◌&&◌, cond, List, [], ◌∷◌, ◌++◌, map, length, take, drop, set, get_or, slice_range, slice_index, replicate, Option, Some, None, is_some, option_map, IfSome, arith, inl, inr, append_assoc}
use Rattle.std.specs.List.{position, position_or_len, find, slice_get}
use Rattle.std.proofs.lemmas.Bool.{ltb-true, cases_Bool, cases_eq, false≢true}
use Rattle.std.proofs.lemmas.Bool.Decides.{nat_tests}
use Rattle.std.proofs.lemmas.List.{map-append, drop-append-le, length-drop, length-take-le, length-append, length-set, length-replicate, get_or-set_same, get_or-set_other, get_or-take, get_or-drop, drop-take, take-append-drop}
use Rattle.std.proofs.lemmas.List.Folds.{find_at, position_or_len-set}
use Rattle.std.proofs.lemmas.List.Quantifiers.{position-Some}
use Rattle.std.proofs.lemmas.List.Sums.{position_or_len_is}
use Rattle.std.proofs.lemmas.Nat.{mul-le}
use Rattle.std.proofs.lemmas.Option.{same_Some, slice_get-get_or, slice_get_past}
use Rattle.std.proofs.lemmas.Slice.{drop-append-drop}
use Rattle.std.proofs.Math.Seq.{take-append_seam}
use Rattle.gui_base.specs.declared.words.Format.{Format}
use Rattle.gui_base.specs.declared.words.Format.TheVariants as format
use Rattle.gui_pool.specs.Table.{Table, value_at, value_inserted}
use Rattle.text_defs.specs.Images.{Image, image_of, with_image, with_row, takes_row, takes_if, texel_size, texel_in, texel_at, texel_of, finished, size_in}
use Rattle.gui_font.specs.Stores.{need_of, image_in, is_image, written, AreLaid, IsPlaced, AreStored}
use Rattle.gui_font.specs.Views.{IsMember}
use Rattle.gui_font.specs.declared.images.ImageSlot.{ImageSlot}
use Rattle.gui_font.proofs.Growing.{front_range}
use Rattle.gui_font.proofs.Indexing.{position_new, position_other, none_at_end, not_found}

-- an image by its number
pub image_found : (slots : List ImageSlot) (bytes : List ℕ) (name : ℕ) → image_of (map (image_in bytes) slots) name ≡ option_map (image_in bytes) (find (is_image name) slots)
image_found [] bytes name = refl
image_found (s ∷ ss) bytes name = elim (cases_Bool (eqb s.name name)) [
  | inl here ↦ rw here refl
  | inr other ↦ rw other (image_found ss bytes name)
]

pub found_at : (slots : List ImageSlot) (name place : ℕ) (d : ImageSlot) → position (is_image name) slots ≡ Some place →
    (place < length slots) × ((get_or slots place d).name ≡ name) × (position_or_len (is_image name) slots ≡ place) × (find (is_image name) slots ≡ Some (get_or slots place d))
found_at slots name place d at =
    let facts = position-Some (is_image name) slots place d at in
    let first : position_or_len (is_image name) slots ≡ place = position_or_len_is (is_image name) slots place d (omega (arith, facts.0)) facts.2 (λ l. facts.1) in
    (facts.0, eqb-true _ _ facts.1, first, find_at (is_image name) slots ∙ ap (slice_get slots) first ∙ slice_get-get_or slots place d facts.0)

pub none_at : (slots : List ImageSlot) (name : ℕ) → position (is_image name) slots ≡ None → find (is_image name) slots ≡ None
none_at slots name at = find_at (is_image name) slots ∙ ap (slice_get slots) (none_at_end (is_image name) slots at) ∙ slice_get_past slots (length slots) (omega arith)

-- an image lies inside the bytes
pub laid_end : (slots : List ImageSlot) (at «end» : ℕ) → AreLaid at slots «end» → at ≤ «end»
laid_end [] at «end» h = omega arith
laid_end (s ∷ ss) at «end» h = let l = laid_end ss (at + need_of s) «end» h.2 in omega arith

pub laid_inside : (slots : List ImageSlot) (at «end» k : ℕ) (d : ImageSlot) → AreLaid at slots «end» → k < length slots →
    (at ≤ (get_or slots k d).start) × ((get_or slots k d).start + need_of (get_or slots k d) ≤ «end») × ((get_or slots k d).given ≤ need_of (get_or slots k d))
laid_inside [] at «end» k d h l = absurd (omega arith)
laid_inside (s ∷ ss) at «end» zero d h l = let e = h.0 in let m = laid_end ss (at + need_of s) «end» h.2 in (omega arith, omega arith, h.1)
laid_inside (s ∷ ss) at «end» (suc k) d h l =
    let r = laid_inside ss (at + need_of s) «end» k d h.2 (omega arith) in
    (omega (arith, r.0), r.1, r.2)

pub member_inside : (slots : List ImageSlot) («end» : ℕ) (s : ImageSlot) → AreLaid 0 slots «end» → IsMember s slots → (s.start + need_of s ≤ «end») × (s.given ≤ need_of s)
member_inside slots «end» s h m =
    let r = laid_inside slots 0 «end» m.at s h m.below in
    subst (λ (t : ImageSlot). (t.start + need_of t ≤ «end») × (t.given ≤ need_of t)) m.is (r.1, r.2)

-- one image more at the end
pub laid_more : (slots : List ImageSlot) (at «end» : ℕ) (s : ImageSlot) → AreLaid at slots «end» → s.start ≡ «end» → s.given ≤ need_of s → AreLaid at (slots ++ s ∷ []) («end» + need_of s)
laid_more [] at «end» s h start given = (start ∙ sym h, given, ap (λ n. n + need_of s) h)
laid_more (t ∷ ts) at «end» s h start given = (h.0, h.1, laid_more ts (at + need_of t) «end» s h.2 start given)

pub images_stay : (slots : List ImageSlot) (at : ℕ) (bytes more : List ℕ) → AreLaid at slots (length bytes) → map (image_in (bytes ++ more)) slots ≡ map (image_in bytes) slots
images_stay [] at bytes more h = refl
images_stay (s ∷ ss) at bytes more h =
    let start = h.0 in
    let given = h.1 in
    let inside = laid_end ss (at + need_of s) (length bytes) h.2 in
    let range : slice_range (bytes ++ more) s.start (s.start + s.given) ≡ slice_range bytes s.start (s.start + s.given) = front_range bytes more s.start (s.start + s.given) (omega arith) (omega arith) in
    rw (range, images_stay ss (at + need_of s) bytes more h.2) refl

-- bytes that are written leave what lies before and behind them
range_before : (bytes row : List ℕ) (from i j : ℕ) → i ≤ j → j ≤ from → from + length row ≤ length bytes → slice_range (written bytes from row) i j ≡ slice_range bytes i j
range_before bytes row from i j a b c =
    let l : length (take from bytes) ≡ from = length-take-le from bytes (omega arith) in
    let front : slice_range (take from bytes ++ (row ++ drop (from + length row) bytes)) i j ≡ slice_range (take from bytes) i j = front_range (take from bytes) (row ++ drop (from + length row) bytes) i j a (omega arith) in
    ap (λ (xs : List ℕ). slice_range xs i j) (append_assoc (take from bytes) row (drop (from + length row) bytes)) ∙ front
    ∙ sym (front_range (take from bytes) (drop from bytes) i j a (omega arith)) ∙ ap (λ (xs : List ℕ). slice_range xs i j) (take-append-drop from bytes)

range_after : (bytes row : List ℕ) (from i j : ℕ) → from + length row ≤ i → from + length row ≤ length bytes → slice_range (written bytes from row) i j ≡ slice_range bytes i j
range_after bytes row from i j a b =
    let l : length (take from bytes ++ row) ≡ from + length row = omega (arith, length-append (take from bytes) row, length-take-le from bytes (omega arith)) in
    ap (take (j - i)) (drop-append-drop (from + length row) bytes (take from bytes ++ row) i a l)

range_own : (bytes row : List ℕ) (start from : ℕ) → start ≤ from → from + length row ≤ length bytes → slice_range (written bytes from row) start (from + length row) ≡ slice_range bytes start from ++ row
range_own bytes row start from a b =
    let rest = drop (from + length row) bytes in
    let own = slice_range bytes start from in
    let l : length (take from bytes) ≡ from = length-take-le from bytes (omega arith) in
    let e : from ≡ start + (from - start) = omega arith in
    let kept : drop start (take from bytes) ≡ own = ap (λ n. drop start (take n bytes)) e ∙ drop-take start (from - start) bytes in
    let n : length own ≡ from - start = length-take-le (from - start) (drop start bytes) (omega (arith, length-drop start bytes)) in
    let m : from + length row - start ≡ length (own ++ row) = omega (arith, length-append own row) in
    let both : drop start (take from bytes ++ row) ≡ own ++ row = drop-append-le start (take from bytes) row (omega arith) ∙ ap (λ xs. xs ++ row) kept in
    let whole : drop start (written bytes from row) ≡ own ++ row ++ rest = drop-append-le start (take from bytes ++ row) rest (omega (arith, length-append (take from bytes) row)) ∙ ap (λ xs. xs ++ rest) both in
    ap (take (from + length row - start)) whole ∙ ap (λ k. take k (own ++ row ++ rest)) m ∙ take-append_seam (own ++ row) rest

pub length-written : (bytes row : List ℕ) (from : ℕ) → from + length row ≤ length bytes → length (written bytes from row) ≡ length bytes
length-written bytes row from h = omega (
  arith,
  length-append (take from bytes ++ row) (drop (from + length row) bytes),
  length-append (take from bytes) row,
  length-take-le from bytes (omega arith),
  length-drop (from + length row) bytes,
)

rows_after : (slots : List ImageSlot) (at «end» : ℕ) (bytes row : List ℕ) (from : ℕ) → AreLaid at slots «end» → from + length row ≤ at → from + length row ≤ length bytes → map (image_in (written bytes from row)) slots ≡ map (image_in bytes) slots
rows_after [] at «end» bytes row from h a b = refl
rows_after (s ∷ ss) at «end» bytes row from h a b =
    let start = h.0 in
    let range : slice_range (written bytes from row) s.start (s.start + s.given) ≡ slice_range bytes s.start (s.start + s.given) = range_after bytes row from s.start (s.start + s.given) (omega arith) b in
    rw (range, rows_after ss (at + need_of s) «end» bytes row from h.2 (omega arith) b) refl

-- the slot with so many bytes more
abbrev pub longer : ImageSlot → ℕ → ImageSlot
longer s n = record s { given = s.given + n }

-- a row more in the first image of a number
pub images_given : (slots : List ImageSlot) (at k name : ℕ) (bytes row : List ℕ) (d : ImageSlot) → AreLaid at slots (length bytes) → position_or_len (is_image name) slots ≡ k → k < length slots →
    (get_or slots k d).given + length row ≤ need_of (get_or slots k d) →
    map (image_in (written bytes ((get_or slots k d).start + (get_or slots k d).given) row)) (set slots k (longer (get_or slots k d) (length row))) ≡ with_row (map (image_in bytes) slots) name row
images_given [] at k name bytes row d h e l fits = absurd (omega arith)
images_given (s ∷ ss) at zero name bytes row d h e l fits = elim (cases_Bool (eqb s.name name)) [
  | inr other ↦ let no = rw other at e in absurd (omega arith)
  | inl here ↦
      let start = h.0 in
      let inside = laid_end ss (at + need_of s) (length bytes) h.2 in
      let sum : s.start + (s.given + length row) ≡ s.start + s.given + length row = omega arith in
      let own : slice_range (written bytes (s.start + s.given) row) s.start (s.start + s.given + length row) ≡ slice_range bytes s.start (s.start + s.given) ++ row = range_own bytes row s.start (s.start + s.given) (omega arith) (omega arith) in
      let others = rows_after ss (at + need_of s) (length bytes) bytes row (s.start + s.given) h.2 (omega arith) (omega arith) in
      rw (here, sum, own, others) refl
]
images_given (s ∷ ss) at (suc k) name bytes row d h e l fits = elim (cases_Bool (eqb s.name name)) [
  | inl here ↦ let no = rw here at e in absurd (omega arith)
  | inr other ↦
      let rest : position_or_len (is_image name) ss ≡ k = let more = rw other at e in omega arith in
      let start = h.0 in
      let given = h.1 in
      let t = get_or ss k d in
      let inside = laid_inside ss (at + need_of s) (length bytes) k d h.2 (omega arith) in
      let low = inside.0 in
      let high = inside.1 in
      let range : slice_range (written bytes (t.start + t.given) row) s.start (s.start + s.given) ≡ slice_range bytes s.start (s.start + s.given) =
      range_before bytes row (t.start + t.given) s.start (s.start + s.given) (omega arith) (omega arith) (omega arith) in
      rw (other, range, images_given ss (at + need_of s) k name bytes row d h.2 rest (omega arith) fits) refl
]

pub laid_given : (slots : List ImageSlot) (at «end» k n : ℕ) (d : ImageSlot) → AreLaid at slots «end» → k < length slots → (get_or slots k d).given + n ≤ need_of (get_or slots k d) → AreLaid at (set slots k (longer (get_or slots k d) n)) «end»
laid_given [] at «end» k n d h l fits = absurd (omega arith)
laid_given (s ∷ ss) at «end» zero n d h l fits = (h.0, fits, h.2)
laid_given (s ∷ ss) at «end» (suc k) n d h l fits = (h.0, h.1, laid_given ss (at + need_of s) «end» k n d h.2 (omega arith) fits)

all_three : (a b c : Bool) → (a && b && c) ≡ true → (a ≡ true) × (b ≡ true) × (c ≡ true)
all_three true true true h = (refl, refl, refl)
all_three true true false h = absurd (false≢true h)
all_three true false c h = absurd (false≢true h)
all_three false b c h = absurd (false≢true h)

-- a row that is taken fits
pub given_length : (bytes : List ℕ) (s : ImageSlot) → s.start + s.given ≤ length bytes → length (slice_range bytes s.start (s.start + s.given)) ≡ s.given
given_length bytes s h =
    let n : s.start + s.given - s.start ≡ s.given = omega arith in
    ap (λ k. length (take k (drop s.start bytes))) n ∙ length-take-le s.given (drop s.start bytes) (omega (arith, length-drop s.start bytes))

row_sum : (y h stride given len : ℕ) → y < h → y * stride ≡ given → len ≡ stride → given + len ≤ h * stride
row_sum y h stride given len a b c = let m : (y + 1) * stride ≤ h * stride = mul-le _ _ h stride (omega arith) (omega arith) in omega arith

pub row_fits : (bytes : List ℕ) (s : ImageSlot) (y len : ℕ) → s.start + s.given ≤ length bytes → takes_row (image_in bytes s) y len ≡ true → s.given + len ≤ need_of s
row_fits bytes s y len inside takes =
    let t = all_three _ _ _ takes in
    row_sum y s.height (s.width * texel_size s.format) s.given len (ltb-true _ _ t.0) (eqb-true _ _ t.1 ∙ given_length bytes s inside) (eqb-true _ _ t.2)

pub row_at : (bytes : List ℕ) (s : ImageSlot) (y len : ℕ) → s.start + s.given ≤ length bytes → takes_row (image_in bytes s) y len ≡ true → y * (s.width * texel_size s.format) ≡ s.given
row_at bytes s y len inside takes = let t = all_three _ _ _ takes in eqb-true _ _ t.1 ∙ given_length bytes s inside

-- what the index keeps
pub placed_set : (index : Table ℕ) (slots : List ImageSlot) (k : ℕ) (s d : ImageSlot) → IsPlaced index slots → s.name ≡ (get_or slots k d).name → IsPlaced index (set slots k s)
placed_set index slots k s d is same = record {
  keys = is.keys;
  places = λ name l.
      let at : position_or_len (is_image name) (set slots k s) ≡ position_or_len (is_image name) slots = position_or_len-set (is_image name) slots k s d (ap (λ n. eqb n name) same) in
      let all : length (set slots k s) ≡ length slots = length-set slots k s in
      is.places name l ∙ rw (at, all) refl;
}

pub placed_more : (index : Table ℕ) (slots : List ImageSlot) (s : ImageSlot) → IsPlaced index slots → s.name < 65536 → position (is_image s.name) slots ≡ None → IsPlaced (value_inserted index s.name (length slots)) (slots ++ s ∷ [])
placed_more index slots s is name new = record {
  keys = length-set index.values s.name (Some (length slots)) ∙ is.keys;
  places = λ other l. elim (cases_eq other s.name) [
    | inl same ↦
        let passes : is_image other s ≡ true = eq-eqb s.name other (sym same) in
        let none : position (is_image other) slots ≡ None = rw same new in
        let within : s.name < length index.values = rw is.keys name in
        ap (λ k. value_at (value_inserted index s.name (length slots)) k) same
        ∙ get_or-set_same index.values s.name (Some (length slots)) None within
        ∙ sym (position_new (is_image other) slots s none passes)
    | inr different ↦
        let fails : is_image other s ≡ false = grind (arith, nat_tests) in
        get_or-set_other index.values s.name other (Some (length slots)) None different ∙ is.places other l ∙ sym (position_other (is_image other) slots s fails)
  ];
}

-- what is asked of an image, from its slot
module _ (images : List Image) (bytes : List ℕ) (name : ℕ) (s : ImageSlot) (is : Some (image_in bytes s) ≡ image_of images name) (inside : s.start + s.given ≤ length bytes) where
  pub finished_is : finished images name ≡ Some (eqb s.given (need_of s))
  finished_is = rw (← is) (ap (λ n. Some (eqb n (need_of s))) (given_length bytes s inside))

  pub size_is : size_in images name ≡ cond (eqb s.given (need_of s)) (Some (s.width, s.height)) None
  size_is = rw (← is) (ap (λ n. cond (eqb n (need_of s)) (Some (s.width, s.height)) None) (given_length bytes s inside))

  pub takes_is : (y len : ℕ) → takes_if (image_of images name) y len ≡ (ltb y s.height && eqb (y * (s.width * texel_size s.format)) s.given && eqb len (s.width * texel_size s.format))
  takes_is y len = rw (← is) (ap (λ n. ltb y s.height && eqb (y * (s.width * texel_size s.format)) n && eqb len (s.width * texel_size s.format)) (given_length bytes s inside))

-- an image that is not there has no place
pub no_place : (slots : List ImageSlot) (bytes : List ℕ) (name : ℕ) → is_some (image_of (map (image_in bytes) slots) name) ≡ false → position (is_image name) slots ≡ None
no_place slots bytes name none =
    let unseen : is_some (option_map (image_in bytes) (find (is_image name) slots)) ≡ false = rw image_found at none in
    not_found (is_image name) slots (unmapped (find (is_image name) slots) unseen) where
      unmapped : (o : Option ImageSlot) → is_some (option_map (image_in bytes) o) ≡ false → is_some o ≡ false
      unmapped None h = refl
      unmapped (Some t) h = h

-- what is kept with an image more
pub stored_more : (index : Table ℕ) (slots : List ImageSlot) (bytes : List ℕ) (room : ℕ) (s : ImageSlot) → AreStored index slots bytes room → s.name < 65536 → position (is_image s.name) slots ≡ None →
    s.start ≡ length bytes → s.given ≡ 0 → 1 ≤ index.spare → AreStored (value_inserted index s.name (length slots)) (slots ++ s ∷ []) (bytes ++ replicate (need_of s) 0) room
stored_more index slots bytes room s is name new start given spare =
    let one = length-append slots (s ∷ []) in
    let fits = is.fits in
    let few = is.few in
    let all : length (bytes ++ replicate (need_of s) 0) ≡ length bytes + need_of s = omega (arith, length-append bytes (replicate (need_of s) 0), length-replicate {A = ℕ} (need_of s) 0) in
    record {
      laid = rw all (laid_more slots 0 (length bytes) s is.laid start (omega arith));
      placed = placed_more index slots s is.placed name new;
      fits = omega (arith, one);
      few = omega (arith, one);
    }

pub images_begun : (slots : List ImageSlot) (bytes more : List ℕ) (s : ImageSlot) → AreLaid 0 slots (length bytes) → s.given ≡ 0 →
    map (image_in (bytes ++ more)) (slots ++ s ∷ []) ≡ with_image (map (image_in bytes) slots) s.name s.format s.width s.height
images_begun slots bytes more s laid given =
    let none : s.start + s.given - s.start ≡ 0 = omega arith in
    map-append (image_in (bytes ++ more)) slots (s ∷ [])
    ∙ rw (images_stay slots 0 bytes more laid, none) refl

-- what is known of the image that takes a row
pub record Taken (slots : List ImageSlot) (bytes row : List ℕ) (name y place : ℕ) (s : ImageSlot) : Type 0 where
  pub at : y * (s.width * texel_size s.format) ≡ s.given
  pub below : place < length slots
  pub first : position_or_len (is_image name) slots ≡ place
  pub fits : s.given + length row ≤ need_of s
  pub inside : s.start + s.given + length row ≤ length bytes

pub taken : (index : Table ℕ) (slots : List ImageSlot) (bytes row : List ℕ) (room name y place : ℕ) (s : ImageSlot) → AreStored index slots bytes room → takes_if (image_of (map (image_in bytes) slots) name) y (length row) ≡ true →
    position (is_image name) slots ≡ Some place → s ≡ get_or slots place s → Taken slots bytes row name y place s
taken index slots bytes row room name y place s is takes at same =
    let found = found_at slots name place s at in
    let image : image_of (map (image_in bytes) slots) name ≡ Some (image_in bytes s) = image_found slots bytes name ∙ ap (option_map (image_in bytes)) found.3 ∙ ap (λ t. Some (image_in bytes t)) (sym same) in
    let takes' : takes_row (image_in bytes s) y (length row) ≡ true = rw image at takes in
    let laid = laid_inside slots 0 (length bytes) place s is.laid found.0 in
    let low : s.start + need_of s ≤ length bytes = subst (λ (t : ImageSlot). t.start + need_of t ≤ length bytes) (sym same) laid.1 in
    let given : s.given ≤ need_of s = subst (λ (t : ImageSlot). t.given ≤ need_of t) (sym same) laid.2 in
    let fits = row_fits bytes s y (length row) (omega arith) takes' in
    record { at = row_at bytes s y (length row) (omega arith) takes'; below = found.0; first = found.2; fits = fits; inside = omega arith }

-- what is kept with a row more
pub stored_given : (index : Table ℕ) (slots : List ImageSlot) (bytes row : List ℕ) (room name y place : ℕ) (s : ImageSlot) → AreStored index slots bytes room → Taken slots bytes row name y place s → s ≡ get_or slots place s →
    AreStored index (set slots place (longer s (length row))) (written bytes (s.start + s.given) row) room
stored_given index slots bytes row room name y place s is taken same =
    let n : length (set slots place (longer s (length row))) ≡ length slots = length-set slots place (longer s (length row)) in
    let fits : (get_or slots place s).given + length row ≤ need_of (get_or slots place s) = subst (λ (t : ImageSlot). t.given + length row ≤ need_of t) same taken.fits in
    let laid : AreLaid 0 (set slots place (longer s (length row))) (length bytes) =
    subst (λ (t : ImageSlot). AreLaid 0 (set slots place (longer t (length row))) (length bytes)) (sym same) (laid_given slots 0 (length bytes) place (length row) s is.laid taken.below fits) in
    record {
      laid = rw (length-written bytes row (s.start + s.given) taken.inside) laid;
      placed = placed_set index slots place (longer s (length row)) s is.placed (ap (λ (t : ImageSlot). t.name) same);
      fits = rw n is.fits;
      few = rw n is.few;
    }

pub images_with_row : (index : Table ℕ) (slots : List ImageSlot) (bytes row : List ℕ) (room name y place : ℕ) (s : ImageSlot) → AreStored index slots bytes room → Taken slots bytes row name y place s → s ≡ get_or slots place s →
    map (image_in (written bytes (s.start + s.given) row)) (set slots place (longer s (length row))) ≡ with_row (map (image_in bytes) slots) name row
images_with_row index slots bytes row room name y place s is taken same =
    let fits : (get_or slots place s).given + length row ≤ need_of (get_or slots place s) = subst (λ (t : ImageSlot). t.given + length row ≤ need_of t) same taken.fits in
    subst (λ (t : ImageSlot). map (image_in (written bytes (t.start + t.given) row)) (set slots place (longer t (length row))) ≡ with_row (map (image_in bytes) slots) name row) (sym same)
    (images_given slots 0 place name bytes row s is.laid taken.first taken.below fits)

-- the bytes of a pixel lie in its row, and the row in the image
pub texel_fits : (w h x y size : ℕ) → x < w → y < h → y * (w * size) + x * size + size ≤ h * (w * size)
texel_fits w h x y size left above =
    let row : (x + 1) * size ≤ w * size = mul-le _ _ w size (omega arith) (omega arith) in
    let all : (y + 1) * (w * size) ≤ h * (w * size) = mul-le _ _ h (w * size) (omega arith) (omega arith) in
    omega arith

-- a byte of an image
index_in : (bytes : List ℕ) (start given at : ℕ) → at < given → slice_index (slice_range bytes start (start + given)) at ≡ slice_index bytes (start + at)
index_in bytes start given at below =
    let n : start + given - start ≡ given = omega arith in
    ap (λ k. get_or (take k (drop start bytes)) at 0) n ∙ get_or-take given (drop start bytes) at 0 below ∙ get_or-drop start bytes at 0

pub texel_moves : (format : Format) (bytes : List ℕ) (start given at : ℕ) → at + texel_size format ≤ given → texel_in format bytes (start + at) ≡ texel_in format (slice_range bytes start (start + given)) at
texel_moves format.Rgb565 bytes start given at h =
    let next : start + at + 1 ≡ start + (at + 1) = omega arith in
    rw (next, index_in bytes start given at (omega arith), index_in bytes start given (at + 1) (omega arith)) refl
texel_moves format.Rgb565Alpha bytes start given at h =
    let next : start + at + 1 ≡ start + (at + 1) = omega arith in
    let third : start + at + 2 ≡ start + (at + 2) = omega arith in
    rw (next, third, index_in bytes start given at (omega arith), index_in bytes start given (at + 1) (omega arith), index_in bytes start given (at + 2) (omega arith)) refl
texel_moves format.Alpha bytes start given at h = rw (index_in bytes start given at (omega arith)) refl

-- an image that is not there takes no row
pub absent_takes : (slots : List ImageSlot) (bytes : List ℕ) (name y len : ℕ) → position (is_image name) slots ≡ None → takes_if (image_of (map (image_in bytes) slots) name) y len ≡ true → ⊥
absent_takes slots bytes name y len none takes =
    let image : image_of (map (image_in bytes) slots) name ≡ None = image_found slots bytes name ∙ ap (option_map (image_in bytes)) (none_at slots name none) in
    false≢true (rw image at takes)

-- what is known of the image whose pixel is looked at
pub record Seen (images : List Image) (bytes : List ℕ) (name : ℕ) (s : ImageSlot) (x y : ℕ) : Type 0 where
  pub whole : s.given ≡ need_of s
  pub inside : s.start + s.given ≤ length bytes
  pub fits : y * (s.width * texel_size s.format) + x * texel_size s.format + texel_size s.format ≤ need_of s
  pub texel : texel_in s.format bytes (s.start + y * (s.width * texel_size s.format) + x * texel_size s.format) ≡ texel_of images name x y

pub seen : (slots : List ImageSlot) (bytes : List ℕ) (name : ℕ) (s : ImageSlot) (x y : ℕ) → AreLaid 0 slots (length bytes) → Some (image_in bytes s) ≡ image_of (map (image_in bytes) slots) name → IsMember s slots →
    finished (map (image_in bytes) slots) name ≡ Some true → IfSome (size_in (map (image_in bytes) slots) name) (λ size. (x < size.0) × (y < size.1)) → Seen (map (image_in bytes) slots) bytes name s x y
unfolding texel_at
seen slots bytes name s x y laid is member done within =
    let m = member_inside slots (length bytes) s laid member in
    let low = m.0 in
    let given = m.1 in
    let inside : s.start + s.given ≤ length bytes = omega arith in
    let whole : eqb s.given (need_of s) ≡ true = same_Some _ _ (sym (finished_is (map (image_in bytes) slots) bytes name s is inside) ∙ done) in
    let all : s.given ≡ need_of s = eqb-true _ _ whole in
    let size : size_in (map (image_in bytes) slots) name ≡ Some (s.width, s.height) = size_is (map (image_in bytes) slots) bytes name s is inside ∙ rw whole refl in
    let near : (x < s.width) × (y < s.height) = rw size at within in
    let fits = texel_fits s.width s.height x y (texel_size s.format) near.0 near.1 in
    let sum : s.start + y * (s.width * texel_size s.format) + x * texel_size s.format ≡ s.start + (y * (s.width * texel_size s.format) + x * texel_size s.format) = omega arith in
    record {
      whole = all;
      inside = inside;
      fits = fits;
      texel = ap (texel_in s.format bytes) sum ∙ texel_moves s.format bytes s.start s.given (y * (s.width * texel_size s.format) + x * texel_size s.format) (omega arith) ∙ rw (← is) refl;
    }

-- the texels of an image, by its own bytes
pub slot_texels : (images : List Image) (bytes : List ℕ) (name : ℕ) (s : ImageSlot) → Some (image_in bytes s) ≡ image_of images name → (x y : ℕ) →
    texel_in s.format (slice_range bytes s.start (s.start + s.given)) (y * (s.width * texel_size s.format) + x * texel_size s.format) ≡ texel_of images name x y
unfolding texel_at
slot_texels images bytes name s is x y = rw (← is) refl
