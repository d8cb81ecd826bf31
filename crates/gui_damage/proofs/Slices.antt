-- The slice that is taken from a list, and what is left.
use Rattle.std.proofs.Common.{◌≡◌, ◌∙◌, refl, sym, ap, ℕ, ◌/◌, ◌<◌, ◌≤◌, true, false, List, [], ◌∷◌, ◌++◌, length, get_or, drop, take, arith, eq-eqb, append-nil}
use Rattle.std.specs.List.{refill, list_all}
use Rattle.std.proofs.lemmas.Int.{ints}
use Rattle.std.proofs.lemmas.List.{drop_all, take_all}
use Rattle.std.proofs.lemmas.Nat.{le-div}
use Rattle.std.proofs.lemmas.Bool.{ne_eqb}
use Rattle.gui_base.specs.Area.{Rect, is_empty, width_of, height_of, is_within}
use Rattle.gui_damage.specs.Pending.{Pending, IsPending}
use Rattle.gui_base.specs.Lines.{lines_below}
use Rattle.gui_damage.specs.Slices.{slice_lines, left_after, HasLine}
use Rattle.gui_damage.proofs.Lines.{in_order, count_is, size_pos}
use Rattle.gui_damage.proofs.Listed.{within, within_below, and_both, and_first, and_second}

-- a list that is not empty begins with its first element
pub from_first : {X : Type 0} (xs : List X) (x : X) → 0 < length xs → x ≡ get_or xs 0 x → xs ≡ x ∷ drop 1 xs
from_first [] x h e = absurd (omega arith)
from_first (y ∷ ys) x h e = ap (λ z. z ∷ ys) (sym e)

pub refill_all : {X : Type 0} (xs ys : List X) → length ys ≡ length xs → refill (length xs) xs ys ≡ ys
refill_all xs ys same =
    ap (λ rest. take (length xs) (ys ++ rest)) (drop_all (length ys) xs (omega arith))
    ∙ (ap (take (length xs)) (append-nil ys) ∙ take_all (length xs) ys (omega arith))

-- an area of the panel is no wider than it
pub width_within : (panel area : Rect) → is_within panel area ≡ true → is_empty panel ≡ false → width_of area ≤ width_of panel
width_within panel area h some =
    let w = within panel area h in
    let order = in_order area w.some in
    let whole = in_order panel some in
    omega (arith, ints, count_is area.x1 area.x2 order.across, count_is panel.x1 panel.x2 whole.across, w.around.left, w.around.right)

-- a slice has a line
pub one_line : (panel area : Rect) (limit : ℕ) → is_within panel area ≡ true → width_of area ≤ limit → 0 < slice_lines limit area
one_line panel area limit h wide =
    let w = within panel area h in
    let pos_size = size_pos area w.some in
    let least : 1 ≤ limit / width_of area = le-div 1 limit (width_of area) pos_size.0 (omega arith) in
    omega (arith, pos_size.1)

module _ (panel first : Rect) (rest : List Rect) (h : IsPending (record { panel = panel; areas = first ∷ rest })) where
  pub first_within : is_within panel first ≡ true
  first_within = and_first _ _ h.each

  pub first_some : is_empty first ≡ false
  first_some = (within panel first first_within).some

  pub without_first : IsPending (record { panel = panel; areas = rest })
  without_first = record { some = h.some; each = and_second _ _ h.each; few = let few = h.few in omega arith }

  pub with_below : (lines : ℕ) → lines < height_of first → IsPending (record { panel = panel; areas = lines_below first lines ∷ rest })
  with_below lines below = record { some = h.some; each = and_both _ _ (within_below panel first lines first_within below) (and_second _ _ h.each); few = h.few }

-- a limit of at least the panel's width has room for a line of each area
pub line_of_panel : (p : Pending) (limit : ℕ) → IsPending p → width_of p.panel ≤ limit → HasLine limit p.areas
line_of_panel p limit h wide = go p.areas h.each where
  go : (areas : List Rect) → list_all (is_within p.panel) areas ≡ true → HasLine limit areas
  go [] each = tt
  go (first ∷ rest) each = let narrow = width_within p.panel first (and_first _ _ each) h.some in omega (arith, narrow, wide)

pub left_whole : (limit : ℕ) (first : Rect) (rest : List Rect) → slice_lines limit first ≡ height_of first → left_after limit (first ∷ rest) ≡ rest
left_whole limit first rest e = rw (eq-eqb _ _ e) refl

pub left_below : (limit : ℕ) (first : Rect) (rest : List Rect) → (slice_lines limit first ≡ height_of first → ⊥) → left_after limit (first ∷ rest) ≡ lines_below first (slice_lines limit first) ∷ rest
left_below limit first rest ne = rw (ne_eqb _ _ ne) refl
