-- A slice in whole steps, and what is left after it.
use Rattle.std.proofs.Common.{◌≡◌, ◌∙◌, refl, sym, ap, subst, ℕ, ◌*◌, ◌/◌, ◌<◌, ◌≤◌, ◌==◌, List, [], ◌∷◌, arith, inl, inr, Some, None}
use Rattle.std.proofs.Math.Nat.{mul-le-mul_right, div-mul-le_self}
use Rattle.std.proofs.lemmas.Bool.{cases_Bool, eqb-true, eqb-false}
use Rattle.gui_base.specs.Area.{Rect, width_of, height_of}
use Rattle.gui_base.specs.Lines.{top_lines}
use Rattle.gui_base.specs.Rounding.{Rounding, IsRounding, IsRound}
use Rattle.gui_damage.specs.Rounded.{IsRounded, TakesRound, pending_by, whole_steps, round_slice_of, left_round}
use Rattle.gui_damage.specs.Slices.{slice_lines}
use Rattle.gui_damage.proofs.Lines.{size_pos}
use Rattle.gui_damage.proofs.Rounds.{has_line, lines_taken, one_step, rounded_left, same_some}
use Rattle.gui_damage.proofs.Slices.{first_within, first_some}
use Rattle.gui_damage.proofs.Takings.{takes, top_all}

-- whole steps of lines have no more pixels than the limit
steps_within : (rules : Rounding) (limit : ℕ) (area : Rect) → whole_steps rules limit area ≤ limit
steps_within rules limit area =
    let lines = div-mul-le_self (limit / width_of area) rules.step in
    let all = mul-le-mul_right (width_of area) lines in
    omega (arith, all, div-mul-le_self limit (width_of area))

-- the slice is its own rounding
slice_round : (rules : Rounding) (limit : ℕ) (f : Rect) (rest : List Rect) → IsRounding rules → IsRounded rules (f ∷ rest) → width_of rules.panel * rules.step ≤ limit →
    IsRound rules (top_lines f (slice_lines (whole_steps rules limit f) f))
slice_round rules limit f rest is h wide =
    let most : ℕ = whole_steps rules limit f in
    let some = first_some rules.panel f rest h.pending in
    elim (cases_Bool (slice_lines most f == height_of f)) [
      | inl e ↦ subst (IsRound rules) (sym (ap (top_lines f) (eqb-true (slice_lines most f) (height_of f) e) ∙ top_all f some)) h.round.0
      | inr e ↦
          let short = eqb-false (slice_lines most f) (height_of f) e in
          let below : slice_lines most f < height_of f = omega arith in
          let lines = lines_taken rules limit f (size_pos f some).0 below in
          let inside = first_within rules.panel f rest h.pending in
          let cut = is.cut f (limit / width_of f / rules.step) inside h.round.0 (one_step rules limit f is inside wide) (subst (λ n. n < height_of f) lines below) in
          subst (λ n. IsRound rules (top_lines f n)) (sym lines) cut.0
    ]

pub round_takes : (rules : Rounding) (limit : ℕ) (areas : List Rect) (slice : Rect) → IsRounding rules → IsRounded rules areas → width_of rules.panel * rules.step ≤ limit → Some slice ≡ round_slice_of rules limit areas →
    TakesRound rules limit areas (left_round rules limit areas) slice
round_takes rules limit [] slice is h wide e = cc
round_takes rules limit (f ∷ rest) slice is h wide e =
    let most : ℕ = whole_steps rules limit f in
    let t = takes (pending_by rules (f ∷ rest)) most slice h.pending (has_line rules limit (f ∷ rest) f is h refl wide) e in
    let small = t.small in
    record {
      takes = record {
        inside = t.inside;
        small = omega (arith, small, steps_within rules limit f);
        some = t.some;
        each = t.each;
        sizes = t.sizes;
        fewer = t.fewer;
        pending = t.pending;
      };
      round = subst (IsRound rules) (sym (same_some slice (top_lines f (slice_lines most f)) e)) (slice_round rules limit f rest is h wide);
      rest = rounded_left rules limit (f ∷ rest) f is h refl wide;
    }

pub round_takes_none : (rules : Rounding) (limit : ℕ) (areas : List Rect) → None ≡ round_slice_of rules limit areas → areas ≡ []
round_takes_none rules limit [] h = refl
round_takes_none rules limit (first ∷ rest) h = cc
