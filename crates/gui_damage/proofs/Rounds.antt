-- Lists of rounded areas.
use Rattle.std.proofs.Common.{◌≡◌, ◌∙◌, sym, ap, subst, ℕ, ◌*◌, ◌/◌, ◌<◌, ◌≤◌, ◌==◌, ℤ, ◌≤ℤ◌, true, false, List, [], ◌∷◌, ◌++◌, length, arith, inl, inr, Some}
use Rattle.std.specs.List.{AllByRecursion}
use Rattle.std.proofs.Math.Nat.{mul-le-mul_right, mul-div_cancel}
use Rattle.std.proofs.lemmas.Int.{ints}
use Rattle.std.proofs.lemmas.Bool.{cases_Bool, eqb-true, eqb-false}
use Rattle.std.proofs.lemmas.Nat.{le-div, mul-le}
use Rattle.gui_base.specs.Area.{Rect, is_empty, width_of, height_of, common, is_within}
use Rattle.gui_base.proofs.Areas.{Around, around_corners}
use Rattle.gui_damage.specs.Adding.{is_listed, added}
use Rattle.gui_damage.specs.Pending.{Pending, IsPending, most_areas}
use Rattle.gui_damage.specs.Rounded.{IsRounded, pending_by, whole_steps}
use Rattle.gui_base.specs.Rounding.{Rounding, IsRounding, IsRound}
use Rattle.gui_base.specs.Lines.{lines_below}
use Rattle.gui_damage.specs.Slices.{slice_lines, left_after, first_of, HasLine}
use Rattle.gui_damage.proofs.Lines.{size_pos}
use Rattle.gui_damage.proofs.Listed.{within, within_self, alone, added_listed, added_full, added_last}
use Rattle.gui_damage.proofs.Additions.{common_within, added_panel}
use Rattle.gui_damage.proofs.Debts.{added_pending}
use Rattle.gui_damage.proofs.Slices.{width_within, first_within, first_some, without_first, with_below, left_whole, left_below}

antisym : (x y : ℤ) → x ≤ℤ y → y ≤ℤ x → x ≡ y
antisym x y a b = omega (arith, ints)

same_corners : (a b : Rect) → Around a b → Around b a → a ≡ b
same_corners a b h k =
    ap (λ (x : ℤ). record a { x1 = x }) (antisym a.x1 b.x1 h.left k.left)
    ∙ (ap (λ (y : ℤ). record a { x1 = b.x1; y1 = y }) (antisym a.y1 b.y1 h.top k.top)
    ∙ (ap (λ (x : ℤ). record a { x1 = b.x1; y1 = b.y1; x2 = x }) (antisym a.x2 b.x2 k.right h.right)
    ∙ ap (λ (y : ℤ). record b { y2 = y }) (antisym a.y2 b.y2 k.bottom h.bottom)))

-- the panel is its own rounding
pub whole : (rules : Rounding) → IsRounding rules → IsRound rules rules.panel
whole rules is =
    let self = within_self rules.panel is.some in
    same_corners (rules.round rules.panel) rules.panel (around_corners _ _ (is.holds rules.panel self)) (within rules.panel (rules.round rules.panel) (is.inside rules.panel self)).around

pub rounded_one : (rules : Rounding) → IsRounding rules → IsRounded rules (rules.panel ∷ [])
rounded_one rules is = record { pending = alone rules.panel is.some; round = (whole rules is, tt) }

all_more : (P : Rect → Type 0) (xs : List Rect) (x : Rect) → AllByRecursion P xs → P x → AllByRecursion P (xs ++ x ∷ [])
all_more P [] x h k = (k, tt)
all_more P (y ∷ ys) x h k = (h.0, all_more P ys x h.1 k)

sound_areas : (rules : Rounding) (q : Pending) → q.panel ≡ rules.panel → IsPending q → IsPending (pending_by rules q.areas)
sound_areas rules q e h = subst (λ (p : Rect). IsPending (record { panel = p; areas = q.areas })) e h

-- a rounding was added
pub rounded_added : (rules : Rounding) (areas : List Rect) (part : Rect) → IsRounding rules → IsRounded rules areas → is_within rules.panel part ≡ true → IsRounded rules (added (pending_by rules areas) (rules.round part)).areas
rounded_added rules areas part is h inside =
    let p = pending_by rules areas in
    let area = rules.round part in
    let there = is.inside part inside in
    let met = common_within rules.panel area there in
    let some = subst (λ (r : Rect). is_empty r ≡ false) (sym met) (within rules.panel area there).some in
    record {
      pending = sound_areas rules (added p area) (added_panel p area) (added_pending p area h.pending);
      round = elim (cases_Bool (is_listed areas (common area rules.panel))) [
        | inl e ↦ subst (λ (q : Pending). AllByRecursion (IsRound rules) q.areas) (sym (added_listed p area some e)) h.round
        | inr e ↦ elim (cases_Bool (length areas == most_areas)) [
          | inl full ↦ subst (λ (q : Pending). AllByRecursion (IsRound rules) q.areas) (sym (added_full p area some e full)) (whole rules is, tt)
          | inr room ↦ subst (λ (q : Pending). AllByRecursion (IsRound rules) q.areas) (sym (added_last p area some e room)) (all_more (IsRound rules) areas (common area rules.panel) h.round (subst (IsRound rules) (sym met) (is.again part inside)))
        ]
      ];
    }

pub same_some : (a b : Rect) → Some a ≡ Some b → a ≡ b
same_some a b h = cc

pub one_step : (rules : Rounding) (limit : ℕ) (area : Rect) → IsRounding rules → is_within rules.panel area ≡ true → width_of rules.panel * rules.step ≤ limit → 1 ≤ (limit / width_of area) / rules.step
one_step rules limit area is inside wide =
    let least = is.least in
    let some = size_pos area (within rules.panel area inside).some in
    let narrow = mul-le-mul_right rules.step (width_within rules.panel area inside is.some) in
    let fits : rules.step * width_of area ≤ limit = omega (arith, narrow) in
    let lines : rules.step ≤ limit / width_of area = le-div rules.step limit (width_of area) some.0 fits in
    le-div 1 (limit / width_of area) rules.step (omega arith) (omega (arith, lines))

line_of : (rules : Rounding) (limit : ℕ) (area : Rect) → IsRounding rules → is_within rules.panel area ≡ true → width_of rules.panel * rules.step ≤ limit → width_of area ≤ whole_steps rules limit area
line_of rules limit area is inside wide =
    let least = is.least in
    let one = one_step rules limit area is inside wide in
    let lines : 1 * 1 ≤ (limit / width_of area) / rules.step * rules.step = mul-le 1 1 ((limit / width_of area) / rules.step) rules.step one least in
    let all = mul-le-mul_right (width_of area) lines in
    omega (arith, all)

-- the limit in whole steps has room for a line of the first area
pub has_line : (rules : Rounding) (limit : ℕ) (areas : List Rect) (first : Rect) → IsRounding rules → IsRounded rules areas → Some first ≡ first_of areas → width_of rules.panel * rules.step ≤ limit → HasLine (whole_steps rules limit first) areas
has_line rules limit [] first is h e wide = cc
has_line rules limit (f ∷ rest) first is h e wide =
    subst (λ (a : Rect). width_of f ≤ whole_steps rules limit a) (sym (same_some first f e)) (line_of rules limit f is (first_within rules.panel f rest h.pending) wide)

-- the lines of the slice, where it does not take all
pub lines_taken : (rules : Rounding) (limit : ℕ) (area : Rect) → 0 < width_of area → slice_lines (whole_steps rules limit area) area < height_of area → slice_lines (whole_steps rules limit area) area ≡ (limit / width_of area) / rules.step * rules.step
lines_taken rules limit area some below = omega (arith, mul-div_cancel ((limit / width_of area) / rules.step * rules.step) some)

-- what is left after a slice in whole steps
left_first : (rules : Rounding) (limit : ℕ) (f : Rect) (rest : List Rect) → IsRounding rules → IsRounded rules (f ∷ rest) → width_of rules.panel * rules.step ≤ limit → IsRounded rules (left_after (whole_steps rules limit f) (f ∷ rest))
left_first rules limit f rest is h wide =
    let most : ℕ = whole_steps rules limit f in elim (cases_Bool (slice_lines most f == height_of f)) [
      | inl e ↦ subst (IsRounded rules) (sym (left_whole most f rest (eqb-true (slice_lines most f) (height_of f) e))) (record { pending = without_first rules.panel f rest h.pending; round = h.round.1 })
      | inr e ↦
          let short = eqb-false (slice_lines most f) (height_of f) e in
          let below : slice_lines most f < height_of f = omega arith in
          let lines = lines_taken rules limit f (size_pos f (first_some rules.panel f rest h.pending)).0 below in
          let one = one_step rules limit f is (first_within rules.panel f rest h.pending) wide in
          let cut = is.cut f ((limit / width_of f) / rules.step) (first_within rules.panel f rest h.pending) h.round.0 one (subst (λ n. n < height_of f) lines below) in
          subst (IsRounded rules) (sym (left_below most f rest short)) (record {
            pending = with_below rules.panel f rest h.pending (slice_lines most f) below;
            round = (subst (λ n. IsRound rules (lines_below f n)) (sym lines) cut.1, h.round.1);
          })
    ]

pub rounded_left : (rules : Rounding) (limit : ℕ) (areas : List Rect) (first : Rect) → IsRounding rules → IsRounded rules areas → Some first ≡ first_of areas → width_of rules.panel * rules.step ≤ limit →
    IsRounded rules (left_after (whole_steps rules limit first) areas)
rounded_left rules limit [] first is h e wide = cc
rounded_left rules limit (f ∷ rest) first is h e wide =
    subst (λ (a : Rect). IsRounded rules (left_after (whole_steps rules limit a) (f ∷ rest))) (sym (same_some first f e)) (left_first rules limit f rest is h wide)
