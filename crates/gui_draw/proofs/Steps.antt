-- One drawing after another.
use Rattle.gui_draw.proofs.Common.{◌≡◌, ◌∙◌, refl, sym, ap, subst, ℕ, ◌+◌, Bool, true, false, ◌&&◌, ◌||◌, if◌then◌else◌, List, length, slice_index_or, Option, None, arith, ℤ, ◌≤ℤ◌, Rgb565, Rect, has, count_between, Dab, Coat, laid, only, within, black, Buffer, HoldsRow, distance, pixel_at, with_row, row_area, row_count, pixel_count, Draws}
use Rattle.gui_draw.proofs.Counts.{pixel_count_same, pixel_count_both, pixel_count_none, pixel_count_row}

-- nothing is laid on the buffer
pub draws_none : (buf : Buffer) (steps : ℕ) (coat : Coat) → ((x y : ℤ) → has buf.area x y ≡ true → coat x y ≡ None) → Draws buf buf steps steps coat
draws_none buf steps coat none = record {
  area_stays = refl;
  limit_stays = refl;
  pixels = λ x y i. sym (ap (λ (d : Option Dab). laid d (pixel_at buf x y)) (none x y i));
  steps = let n = pixel_count_none buf.area coat none in omega arith;
}

-- coats that agree on the buffer's area
pub draws_same : (old new : Buffer) (from to : ℕ) (a b : Coat) → ((x y : ℤ) → has old.area x y ≡ true → a x y ≡ b x y) → Draws old new from to a → Draws old new from to b
draws_same old new from to a b same h = record {
  area_stays = h.area_stays;
  limit_stays = h.limit_stays;
  pixels = λ x y i. h.pixels x y i ∙ ap (λ (d : Option Dab). laid d (pixel_at old x y)) (same x y i);
  steps = h.steps ∙ ap (λ (n : ℕ). from + n) (pixel_count_same old.area a b same);
}

-- a coat where one test holds, and then where another does that never holds beside it
laid_once : (a b : Bool) (d : Option Dab) (under : Rgb565) → (a && b) ≡ false →
    laid (if b then d else None) (laid (if a then d else None) under) ≡ laid (if (a || b) then d else None) under
laid_once true true d under h = cc
laid_once true false d under h = refl
laid_once false b d under h = refl

pub draws_both : (old mid new : Buffer) (from via to : ℕ) (a b : ℤ → ℤ → Bool) (coat : Coat) → ((x y : ℤ) → has old.area x y ≡ true → (a x y && b x y) ≡ false) →
    Draws old mid from via (only a coat) → Draws mid new via to (only b coat) → Draws old new from to (only (λ x y. a x y || b x y) coat)
draws_both old mid new from via to a b coat apart h k = record {
  area_stays = k.area_stays ∙ h.area_stays;
  limit_stays = k.limit_stays ∙ h.limit_stays;
  pixels = λ x y i.
      k.pixels x y (subst (λ (area : Rect). has area x y ≡ true) (sym h.area_stays) i)
      ∙ (ap (laid (if b x y then coat x y else None)) (h.pixels x y i)
      ∙ laid_once (a x y) (b x y) (coat x y) (pixel_at old x y) (apart x y i));
  steps =
      let second : pixel_count mid.area (only b coat) ≡ pixel_count old.area (only b coat) = ap (λ (area : Rect). pixel_count area (only b coat)) h.area_stays in
      omega (arith, h.steps, k.steps, second, pixel_count_both old.area a b coat apart);
}

-- writing a part of a row, where each colour is the coat over the old one
laid_inside : (inside : Bool) (d : Option Dab) (under written : Rgb565) → (inside ≡ true → written ≡ laid d under) → (if inside then written else under) ≡ laid (if inside then d else None) under
laid_inside true d under written h = h refl
laid_inside false d under written h = refl

pub draws_row : (buf : Buffer) (y x1 x2 : ℤ) (ws : List Rgb565) (coat : Coat) (from to : ℕ) → HoldsRow buf y x1 x2 → x1 ≤ℤ x2 → has buf.area x1 y ≡ true → has buf.area x2 y ≡ true → length ws ≡ count_between x1 x2 →
    ((x v : ℤ) → has (row_area y x1 x2) x v ≡ true → slice_index_or ws (distance x1 x) black ≡ laid (coat x v) (pixel_at buf x v)) → to ≡ from + row_count coat y x1 (count_between x1 x2) →
    Draws buf (with_row buf y x1 ws) from to (within (row_area y x1 x2) coat)
draws_row buf y x1 x2 ws coat from to row order first last n each counted = record {
  area_stays = refl;
  limit_stays = refl;
  pixels = λ x v i. row.written ws n x v i ∙ laid_inside (has (row_area y x1 x2) x v) (coat x v) (pixel_at buf x v) (slice_index_or ws (distance x1 x) black) (each x v);
  steps = omega (arith, counted, pixel_count_row buf.area y x1 x2 coat order first last);
}
