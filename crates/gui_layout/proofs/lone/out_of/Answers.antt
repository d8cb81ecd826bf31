use Rattle.std.proofs.Common.{◌≡◌, ◌∙◌, ap, ℕ, ℤ, pos, ◌+ℤ◌, Bool, true, false, max, cond, w32, to_z, of_z, refl, arith}
use Rattle.std.proofs.lemmas.Int.{ints, to_z-of_z}
use Rattle.layout_defs.specs.Solving.{end_across, end_down}
use Rattle.gui_boxes.specs.Scrolls.{at_corner}
use Rattle.gui_boxes.specs.Settled.{tall_of}
use Rattle.gui_boxes.specs.Sizings.{kid_by}
use Rattle.gui_layout.proofs.lone.out_of.Goals as goal

-- a coordinate as it is read
abbrev kept : ℤ → ℤ
kept z = to_z w32 (of_z w32 z)

-- the end of one alone
alone : (hidden : Bool) (end : ℕ) → cond hidden 0 (max 0 end) ≡ cond hidden 0 (max end 0)
alone true end = refl
alone false end = omega arith

pub returns : goal.returns
returns c h k =
    let room = at_corner (kept c.inner_corner-x.result) (kept c.inner_corner-y.result) in
    let own = c.args.own.now in
    let kid = kid_by k c.args.kid.now in
    let across = c.farther-ends.ensures.across k ∙ alone kid.box.hidden (end_across room (tall_of kid) kid.slot) in
    let down = c.farther-ends.ensures.down k ∙ alone kid.box.hidden (end_down room (tall_of kid) kid.slot) in
    let cx = c.inner_corner-x.ensures in
    let cy = c.inner_corner-y.ensures in
    let px : kept own.position.x ≡ own.position.x = let a = own.position.x_fits.0 in let b = own.position.x_fits.1 in to_z-of_z w32 own.position.x (omega (arith, ints)) in
    let py : kept own.position.y ≡ own.position.y = let a = own.position.y_fits.0 in let b = own.position.y_fits.1 in to_z-of_z w32 own.position.y (omega (arith, ints)) in
    let x : kept c.inner_corner-x.result ≡ own.position.x +ℤ pos own.wanted.across.before =
    (let a = cx.least in let b = cx.most in to_z-of_z w32 c.inner_corner-x.result (omega (arith, ints))) ∙ (cx.value ∙ ap (λ z. z +ℤ pos own.wanted.across.before) px) in
    let y : kept c.inner_corner-y.result ≡ own.position.y +ℤ pos own.wanted.down.before =
    (let a = cy.least in let b = cy.most in to_z-of_z w32 c.inner_corner-y.result (omega (arith, ints))) ∙ (cy.value ∙ ap (λ z. z +ℤ pos own.wanted.down.before) py) in
    rw (c.saturating_sub.ensures, c.saturating_sub-2.ensures, across, down, x, y, c.inner-wide.ensures.value, c.inner-high.ensures.value) refl
