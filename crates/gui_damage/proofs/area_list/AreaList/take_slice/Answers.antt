use Rattle.std.proofs.Common.{◌≡◌, ◌∙◌, sym, ap, subst, ℕ, ◌<◌, ◌≤◌, List, ◌∷◌, length, get_or, drop, set, Some, arith}
use Rattle.std.specs.List.{refill}
use Rattle.std.proofs.lemmas.List.{length-set}
use Rattle.std.proofs.lemmas.Bool.Decides.{nat_tests}
use Rattle.gui_base.specs.Area.{Rect, width_of, height_of}
use Rattle.gui_damage.specs.Damage.{rects_of, pending_of}
use Rattle.gui_damage.specs.Pending.{Pending, IsPending}
use Rattle.gui_base.specs.Lines.{top_lines, lines_below}
use Rattle.gui_damage.specs.Slices.{slice_lines, slice_of, left_after, HasLine}
use Rattle.gui_base.specs.declared.area.Area.{Area}
use Rattle.gui_base.specs.Corners.{rect_of}
use Rattle.gui_damage.proofs.Slices.{from_first, refill_all, one_line, first_within, first_some, without_first, with_below, left_whole, left_below}
use Rattle.gui_damage.proofs.area_list.AreaList.take_slice.Goals as goal
use Rattle.gui_damage.proofs.area_list.AreaList.take_slice.Goals.{After-min-lines}

abbrev first_of : (c : After-min-lines) → Rect
first_of c = rect_of c.index-deref-0.result

abbrev rest_of : (c : After-min-lines) → List Area
rest_of c = drop 1 c.self.inside.listed.items

items_are : (c : After-min-lines) → c.self.inside.listed.items ≡ c.index-deref-0.result ∷ rest_of c
items_are c =
    let some : 0 < length c.self.inside.listed.items = grind (arith, nat_tests) in
    from_first c.self.inside.listed.items c.index-deref-0.result some (subst (λ (xs : List Area). c.index-deref-0.result ≡ get_or xs 0 c.index-deref-0.result) c.deref.ensures.0 c.index-deref-0.is)

pending : (c : After-min-lines) → IsPending (record { panel = rect_of c.self.inside.panel; areas = first_of c ∷ rects_of (rest_of c) })
pending c = subst (λ (xs : List Area). IsPending (pending_of c.self.inside.panel xs)) (items_are c) c.self.invariant

lines_are : (c : After-min-lines) → c.min-lines.result ≡ slice_lines c.args.limit (first_of c)
lines_are c = rw (← c.width.ensures, ← c.height.ensures) c.min-lines.ensures

wide : (c : After-min-lines) → width_of (first_of c) ≤ c.args.limit
wide c = subst (λ (xs : List Area). HasLine c.args.limit (rects_of xs)) (items_are c) (subst (λ (p : Pending). HasLine c.args.limit p.areas) (sym c.self.view_is) c.requires)

pub top_lines-slice-requires-clause-line : goal.top_lines-slice-requires-clause-line
top_lines-slice-requires-clause-line c =
    subst (λ (n : ℕ). 0 < n) (sym (lines_are c)) (one_line (rect_of c.self.inside.panel) (first_of c) c.args.limit (first_within _ _ _ (pending c)) (wide c))

pub top_lines-slice-requires-clause-some : goal.top_lines-slice-requires-clause-some
top_lines-slice-requires-clause-some c = first_some _ _ _ (pending c)

pub lines_below-requires-clause-some : goal.lines_below-requires-clause-some
lines_below-requires-clause-some c = first_some _ _ _ (pending (goal.at.lines_below-requires-clause-some c).After-min-lines)

pub invariant_of-self : goal.invariant_of-self
invariant_of-self c =
    let d = (goal.at.invariant_of-self c).After-min-lines in
    subst (λ (xs : List Area). IsPending (pending_of c.self.inside.panel xs)) (sym c.remove.ensures.items) (without_first _ _ _ (pending d))

left_items : (c : goal.After-self-1) → refill (length c.self.inside.listed.items) c.self.inside.listed.items (set c.deref_mut.result.now 0 c.lines_below.result) ≡ c.lines_below.result ∷ drop 1 c.self.inside.listed.items
left_items c =
    let d = (goal.at.invariant_of-self-2 c).After-min-lines in
    let same = c.deref_mut.ensures.value in
    refill_all c.self.inside.listed.items (set c.deref_mut.result.now 0 c.lines_below.result) (length-set c.deref_mut.result.now 0 c.lines_below.result ∙ ap length same)
    ∙ ap (λ (xs : List Area). set xs 0 c.lines_below.result) (same ∙ items_are d)

pub invariant_of-self-2 : goal.invariant_of-self-2
invariant_of-self-2 c =
    let d = (goal.at.invariant_of-self-2 c).After-min-lines in
    let below : c.min-lines.result < height_of (first_of d) = omega (arith, lines_are d, c.height-2.ensures, c.if-lines-height.false) in
    subst (λ (xs : List Area). IsPending (pending_of c.self.inside.panel xs)) (sym (left_items c))
    (subst (λ (r : Rect). IsPending (record { panel = rect_of c.self.inside.panel; areas = r ∷ rects_of (rest_of d) })) (sym c.lines_below.ensures) (with_below _ _ _ (pending d) c.min-lines.result below))

slice_now : (c : After-min-lines) (slice : Rect) → slice ≡ top_lines (first_of c) c.min-lines.result → Some slice ≡ slice_of c.args.limit c.args.self.now.areas
slice_now c slice e =
    ap Some (e ∙ ap (top_lines (first_of c)) (lines_are c))
    ∙ (ap (λ (xs : List Area). slice_of c.args.limit (rects_of xs)) (sym (items_are c)) ∙ ap (λ (p : Pending). slice_of c.args.limit p.areas) c.self.view_is)

left_now : (c : After-min-lines) (left : List Rect) → left ≡ left_after c.args.limit (first_of c ∷ rects_of (rest_of c)) →
    record { panel = rect_of c.self.inside.panel; areas = left } ≡ record c.args.self.now { areas = left_after c.args.limit c.args.self.now.areas }
left_now c left e =
    ap (λ (areas : List Rect). record { panel = rect_of c.self.inside.panel; areas = areas }) (e ∙ ap (λ (xs : List Area). left_after c.args.limit (rects_of xs)) (sym (items_are c)))
    ∙ ap (λ (p : Pending). record p { areas = left_after c.args.limit p.areas }) c.self.view_is

pub returns-then-lines-height-clause-slice : goal.returns-then-lines-height-clause-slice
returns-then-lines-height-clause-slice c = slice_now (goal.at.returns-then-lines-height-clause-slice c).After-min-lines (rect_of c.top_lines-slice.result) c.top_lines-slice.ensures

pub returns-then-lines-height-clause-rest : goal.returns-then-lines-height-clause-rest
returns-then-lines-height-clause-rest c =
    let d = (goal.at.returns-then-lines-height-clause-rest c).After-min-lines in
    left_now d (rects_of c.remove.new.self.items) (ap rects_of c.remove.ensures.items ∙ sym (left_whole c.args.limit (first_of d) (rects_of (rest_of d)) (sym (lines_are d) ∙ (c.if-lines-height.true ∙ c.height-2.ensures))))

pub returns-clause-slice : goal.returns-clause-slice
returns-clause-slice c = slice_now (goal.at.returns-clause-slice c).After-min-lines (rect_of c.top_lines-slice.result) c.top_lines-slice.ensures

pub returns-clause-rest : goal.returns-clause-rest
returns-clause-rest c =
    let d = (goal.at.returns-clause-rest c).After-min-lines in
    let short = λ (e : slice_lines c.args.limit (first_of d) ≡ height_of (first_of d)). c.if-lines-height.false (lines_are d ∙ (e ∙ sym c.height-2.ensures)) in
    ap (pending_of c.self.inside.panel) (left_items c)
    ∙ left_now d (rects_of (c.lines_below.result ∷ rest_of d))
    (ap (λ (r : Rect). r ∷ rects_of (rest_of d)) (c.lines_below.ensures ∙ ap (lines_below (first_of d)) (lines_are d)) ∙ sym (left_below c.args.limit (first_of d) (rects_of (rest_of d)) short))
