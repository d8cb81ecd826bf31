-- What is news of an area lies in its lines.
use Rattle.std.proofs.Common.{◌≡◌, ◌∙◌, sym, ap, refl, ℕ, zero, suc, ◌+◌, ◌*◌, ◌-◌, ◌/◌, ◌%◌, ◌<◌, ◌≤◌, ℤ, pos, negsuc, ◌+ℤ◌, ◌-ℤ◌, ◌≤ℤ◌, ◌==◌, Bool, true, false, not, ◌&&◌, cond, if◌then◌else◌, List, [], ◌∷◌, ◌++◌, length, map, fold, replicate, Option, option_map, slice_index_or, get_or, nat_abs, Some, None, arith, rules}
use Rattle.std.specs.List.{filter, range_with_len}
use Rattle.std.proofs.lemmas.Bool.Decides.{nat_tests}
use Rattle.std.proofs.lemmas.Int.{ints}
use Rattle.std.proofs.lemmas.List.{append-nil, get_or-map, get_or_default}
use Rattle.std.proofs.lemmas.List.Elements.{filter-append}
use Rattle.std.proofs.lemmas.List.Sums.{fold-append}
use Rattle.std.proofs.lemmas.Nat.{div-mul-add, mod-mul-add, div_below, le-div, mul-le}
use Rattle.gui_base.specs.declared.color.Rgb565.{Rgb565}
use Rattle.gui_base.specs.Area.{Rect, has, area_at, is_within, joined, nat_of, width_of, height_of}
use Rattle.gui_base.specs.Color.{black}
use Rattle.gui_color.specs.Buffer.{no_pixel}
use Rattle.session_defs.specs.Formats.{number}
use Rattle.session_defs.specs.declared.Format.{Format}
use Rattle.session_defs.specs.Updates.{Sight, has_pixel, pixel_area, is_news, is_number, news_area, known_at, none_known}
use Rattle.session_defs.proofs.Reading.{nat_is, end_is, corners_are}
use Rattle.rfb_view.specs.Sights.{is_untold, with_untold}

pub range_split : (a m n : ℕ) → range_with_len a (m + n) ≡ range_with_len a m ++ range_with_len (a + m) n
range_split a zero n =
    let many : 0 + n ≡ n = omega arith in
    let here : a ≡ a + 0 = omega arith in
    ap (λ (k : ℕ). range_with_len a k) many ∙ ap (λ (k : ℕ). range_with_len k n) here
range_split a (suc m) n =
    let many : suc m + n ≡ suc (m + n) = omega arith in
    let here : (a + 1) + m ≡ a + suc m = omega arith in
    ap (λ (k : ℕ). range_with_len a k) many
    ∙ ap (λ (l : List ℕ). a ∷ l) (range_split (a + 1) m n ∙ ap (λ (k : ℕ). range_with_len (a + 1) m ++ range_with_len k n) here)

module _ (p q : ℕ → Bool) where
  filter_none : (a n : ℕ) → ((i : ℕ) → a ≤ i → i < a + n → p i ≡ false) → filter p (range_with_len a n) ≡ []
  filter_none a zero h = refl
  filter_none a (suc n) h = rw (h a (omega arith) (omega arith)) (filter_none (a + 1) n (λ i low high. h i (omega arith) (omega arith)))

  filter_same : (a n : ℕ) → ((i : ℕ) → a ≤ i → i < a + n → p i ≡ q i) → filter p (range_with_len a n) ≡ filter q (range_with_len a n)
  filter_same a zero h = refl
  filter_same a (suc n) h = rw (h a (omega arith) (omega arith), filter_same (a + 1) n (λ i low high. h i (omega arith) (omega arith))) refl

  filter_split : (a m n : ℕ) → filter p (range_with_len a (m + n)) ≡ filter p (range_with_len a m) ++ filter p (range_with_len (a + m) n)
  filter_split a m n = ap (filter p) (range_split a m n) ∙ filter-append p (range_with_len a m) (range_with_len (a + m) n)

  filter_first : (m n : ℕ) → filter p (range_with_len 0 (m + n)) ≡ filter p (range_with_len 0 m) ++ filter p (range_with_len m n)
  filter_first m n =
      let here : 0 + m ≡ m = omega arith in
      filter_split 0 m n ∙ ap (λ (k : ℕ). filter p (range_with_len 0 m) ++ filter p (range_with_len k n)) here

-- an area with these first column, first line, and sizes
abbrev pub block : ℕ → ℕ → ℕ → ℕ → Rect
block left top columns lines = area_at (pos left) (pos top) columns lines

-- which pixels it has
pub has_in : (l t c n x y : ℕ) → l ≤ x → x < l + c → t ≤ y → y < t + n → has (block l t c n) (pos x) (pos y) ≡ true
has_in l t c n x y left right up down = grind (arith, ints, nat_tests)

pub out_left : (l t c n x y : ℕ) → x < l → has (block l t c n) (pos x) (pos y) ≡ false
out_left l t c n x y h = grind (arith, ints, nat_tests)

pub out_right : (l t c n x y : ℕ) → l + c ≤ x → has (block l t c n) (pos x) (pos y) ≡ false
out_right l t c n x y h = grind (arith, ints, nat_tests)

pub out_up : (l t c n x y : ℕ) → y < t → has (block l t c n) (pos x) (pos y) ≡ false
out_up l t c n x y h = grind (arith, ints, nat_tests)

pub out_down : (l t c n x y : ℕ) → t + n ≤ y → has (block l t c n) (pos x) (pos y) ≡ false
out_down l t c n x y h = grind (arith, ints, nat_tests)

-- a pixel of a line
pub has_at : (width : ℕ) (area : Rect) (y x i : ℕ) → x < width → i ≡ y * width + x → has_pixel width area i ≡ has area (pos x) (pos y)
has_at width area y x i h e = rw (e, mod-mul-add y width x h, div-mul-add y width x h) refl

-- an area inside of a panel
pub block_is : (width height : ℕ) (area : Rect) → is_within (block 0 0 width height) area ≡ true → area ≡ block (nat_of area.x1) (nat_of area.y1) (width_of area) (height_of area)
block_is width height area h =
    corners_are area.x1 area.y1 area.x2 area.y2 _ _ _ _
    (sym (nat_is area.x1 (grind (arith, ints)))) (sym (nat_is area.y1 (grind (arith, ints))))
    (sym (end_is area.x1 area.x2 (grind (arith, ints)) (grind (arith, ints)))) (sym (end_is area.y1 area.y2 (grind (arith, ints)) (grind (arith, ints))))

-- it begins in the panel, and fits
pub record Fitting (width height : ℕ) (area : Rect) : Type 0 where
  pub left : pos 0 ≤ℤ area.x1
  pub top : pos 0 ≤ℤ area.y1
  pub wide : nat_of area.x1 + width_of area ≤ width
  pub high : nat_of area.y1 + height_of area ≤ height
  pub some : 0 < width

pub block_fits : (width height : ℕ) (area : Rect) → is_within (block 0 0 width height) area ≡ true → Fitting width height area
block_fits width height area h =
    let x : pos 0 ≤ℤ area.x1 = grind (arith, ints) in
    let y : pos 0 ≤ℤ area.y1 = grind (arith, ints) in
    let columns : area.x1 ≤ℤ area.x2 = grind (arith, ints) in
    let lines : area.y1 ≤ℤ area.y2 = grind (arith, ints) in
    let right : area.x2 ≤ℤ ((pos 0 +ℤ pos width) -ℤ pos 1) = grind (arith, ints) in
    let bottom : area.y2 ≤ℤ ((pos 0 +ℤ pos height) -ℤ pos 1) = grind (arith, ints) in
    let e = end_is area.x1 area.x2 x columns in
    let f = end_is area.y1 area.y2 y lines in
    record {
      left = x;
      top = y;
      wide = omega (arith, ints, e, right);
      high = omega (arith, ints, f, bottom);
      some = omega (arith, ints, nat_is area.x1 x, columns, right);
    }

pub abs_is : (z : ℤ) → pos 0 ≤ℤ z → nat_abs z ≡ nat_of z
abs_is (pos n) h = refl
abs_is (negsuc n) h = absurd (omega (arith, ints))

module _ (width : ℕ) (sight : Sight) (colors : List Rgb565) where
  abbrev test : Rect → ℕ → Bool
  test area i = is_news width sight.format colors sight.sent area i

  test_out : (area : Rect) (i : ℕ) → has_pixel width area i ≡ false → test area i ≡ false
  test_out area i h = ap (λ (b : Bool). b && is_untold sight colors i) h

  test_in : (area : Rect) (i : ℕ) → has_pixel width area i ≡ true → test area i ≡ is_untold sight colors i
  test_in area i h = ap (λ (b : Bool). b && is_untold sight colors i) h

  -- the news of a line
  row_news : (l t c n y : ℕ) → l + c ≤ width → t ≤ y → y < t + n →
      filter (test (block l t c n)) (range_with_len (y * width) width) ≡ filter (is_untold sight colors) (range_with_len (y * width + l) c)
  row_news l t c n y wide up down =
      let area : Rect = block l t c n in
      let p : ℕ → Bool = test area in
      let q : ℕ → Bool = is_untold sight colors in
      let a : ℕ = y * width in
      let rest : ℕ = width - (l + c) in
      let all : width ≡ l + (c + rest) = omega arith in
      let before : filter p (range_with_len a l) ≡ [] =
      filter_none p q a l (λ i low high. test_out area i (has_at width area y (i - a) i (omega arith) (omega arith) ∙ out_left l t c n (i - a) y (omega arith))) in
      let after : filter p (range_with_len ((a + l) + c) rest) ≡ [] =
      filter_none p q ((a + l) + c) rest (λ i low high. test_out area i (has_at width area y (i - a) i (omega arith) (omega arith) ∙ out_right l t c n (i - a) y (omega arith))) in
      let within : filter p (range_with_len (a + l) c) ≡ filter q (range_with_len (a + l) c) =
      filter_same p q (a + l) c (λ i low high. test_in area i (has_at width area y (i - a) i (omega arith) (omega arith) ∙ has_in l t c n (i - a) y (omega arith) (omega arith) up down)) in
      ap (λ (k : ℕ). filter p (range_with_len a k)) all
      ∙ filter_split p q a l (c + rest)
      ∙ ap (λ (xs : List ℕ). xs ++ filter p (range_with_len (a + l) (c + rest))) before
      ∙ filter_split p q (a + l) c rest
      ∙ ap (λ (xs : List ℕ). filter p (range_with_len (a + l) c) ++ xs) after
      ∙ append-nil (filter p (range_with_len (a + l) c))
      ∙ within

  abbrev step : Rect → ℕ → Rect
  step area i = joined area (pixel_area width i)

  -- the area around the news in the first lines of the panel
  abbrev pub news_to : Rect → ℕ → Rect
  news_to area y = fold step no_pixel (filter (test area) (range_with_len 0 (y * width)))

  -- there are none above the area
  pub news_above : (l t c n : ℕ) → 0 < width → news_to (block l t c n) t ≡ no_pixel
  news_above l t c n some =
      let area : Rect = block l t c n in
      ap (λ (xs : List ℕ). fold step no_pixel xs)
      (filter_none (test area) (test area) 0 (t * width) (λ i low high. let below : i < t * width = omega arith in test_out area i (out_up l t c n (i % width) (i / width) (div_below i width t some below))))

  -- one line more
  pub news_more : (l t c n y : ℕ) → l + c ≤ width → t ≤ y → y < t + n → news_to (block l t c n) (y + 1) ≡ with_untold width sight colors (y * width + l) c (news_to (block l t c n) y)
  news_more l t c n y wide up down =
      let p : ℕ → Bool = test (block l t c n) in
      let more : (y + 1) * width ≡ y * width + width = omega arith in
      ap (λ (k : ℕ). fold step no_pixel (filter p (range_with_len 0 k))) more
      ∙ ap (λ (xs : List ℕ). fold step no_pixel xs) (filter_first p p (y * width) width)
      ∙ fold-append step no_pixel (filter p (range_with_len 0 (y * width))) (filter p (range_with_len (y * width) width))
      ∙ ap (λ (xs : List ℕ). fold step (news_to (block l t c n) y) xs) (row_news l t c n y wide up down)

  -- and none below it
  pub news_below : (l t c n height : ℕ) → 0 < width → t + n ≤ height → length colors ≡ width * height → news_area width colors sight (block l t c n) ≡ news_to (block l t c n) (t + n)
  news_below l t c n height some high all =
      let area : Rect = block l t c n in
      let p : ℕ → Bool = test area in
      let end : ℕ = (t + n) * width in
      let fits : end ≤ length colors = omega (arith, mul-le (t + n) width height width high (omega arith)) in
      let rest : ℕ = length colors - end in
      let whole : length colors ≡ end + rest = omega arith in
      let none : filter p (range_with_len end rest) ≡ [] =
      filter_none p p end rest (λ i low high. test_out area i (out_down l t c n (i % width) (i / width) (le-div (t + n) i width some low))) in
      ap (λ (k : ℕ). fold step no_pixel (filter p (range_with_len 0 k))) whole
      ∙ ap (λ (xs : List ℕ). fold step no_pixel xs) (filter_first p p end rest ∙ ap (λ (xs : List ℕ). filter p (range_with_len 0 end) ++ xs) none ∙ append-nil (filter p (range_with_len 0 end)))

-- one pixel more
pub untold_more : (width : ℕ) (sight : Sight) (colors : List Rgb565) (from n : ℕ) (area : Rect) → with_untold width sight colors from (n + 1) area ≡ (if is_untold sight colors (from + n) then joined (with_untold width sight colors from n area) (pixel_area width (from + n)) else with_untold width sight colors from n area)
untold_more width sight colors from n area =
    let q : ℕ → Bool = is_untold sight colors in
    ap (λ (xs : List ℕ). fold (step width sight colors) area xs) (filter_split q q from n 1)
    ∙ fold-append (step width sight colors) area (filter q (range_with_len from n)) (filter q ((from + n) ∷ []))
    ∙ last (q (from + n))
  where
    last : (b : Bool) → fold (step width sight colors) (with_untold width sight colors from n area) (cond b ((from + n) ∷ []) []) ≡ (if b then joined (with_untold width sight colors from n area) (pixel_area width (from + n)) else with_untold width sight colors from n area)
    last true = refl
    last false = refl

-- equal colours have the same number
pub same_number : (f : Format) (a b : Rgb565) → a ≡ b → (number f a == number f b) ≡ true
same_number f a b e = rw e (search rules)

-- what was told of a pixel
pub known_is : (f : Format) (sent : List (Option Rgb565)) (i : ℕ) → i < length sent → known_at (map (option_map (number f)) sent) i ≡ option_map (number f) (slice_index_or sent i None)
known_is f sent i h = get_or-map (option_map (number f)) sent i None None h

pub forgotten : (f : Format) (n : ℕ) → map (option_map (number f)) (replicate n None) ≡ none_known n
forgotten f zero = refl
forgotten f (suc n) = ap (λ l. None ∷ l) (forgotten f n)

-- a pixel of a line, as the area of it alone
pub pixel_is : (width y x i : ℕ) (a b : ℤ) → x < width → i ≡ y * width + x → a ≡ pos x → b ≡ pos y → (let area : Rect = record { x1 = a; y1 = b; x2 = a; y2 = b } in area) ≡ pixel_area width i
pixel_is width y x i a b h e f g = rw (e, f, g, mod-mul-add y width x h, div-mul-add y width x h) refl

-- whether a pixel of a line is told of
pub told_as : (sight : Sight) (colors : List Rgb565) (i j : ℕ) (d : Rgb565) (b told : Bool) → told ≡ is_number (known_at sight.sent j) (number sight.format (get_or colors j d)) → told ≡ b → i ≡ j → j < length colors → is_untold sight colors i ≡ not b
told_as sight colors i j d b told is e same h =
    rw same (ap not (ap (λ (c : Rgb565). is_number (known_at sight.sent j) (number sight.format c)) (get_or_default colors j black d h) ∙ sym is ∙ e))

-- what is not there is no clone of anything else
pub only_none : {X : Type 0} (P : Option X → Type 0) → ((x : X) → P (Some x) → ⊥) → (y : Option X) → P y → y ≡ None
only_none P h None e = refl
only_none P h (Some x) e = absurd (h x e)

-- of each pixel this is known, and no request is open
abbrev pub fresh : Format → List (Option ℕ) → Sight
fresh format known = record { format = format; sent = known; request = None }
