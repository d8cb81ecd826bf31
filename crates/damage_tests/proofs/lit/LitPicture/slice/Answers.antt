use Rattle.std.proofs.Common.{◌≡◌, ◌∙◌, refl, sym, ap, subst, Bool, true, false, if◌then◌else◌, Some, None, ℤ, arith}
use Rattle.gui_base.specs.Area.{Rect, has}
use Rattle.gui_base.specs.Coats.{laid, within, fill_coat}
use Rattle.gui_base.specs.Color.{black, white, mix, mix_channel}
use Rattle.gui_base.specs.Corners.{rect_of}
use Rattle.damage_tests.proofs.Counting.{pixel_count_most}
use Rattle.damage_tests.proofs.lit.LitPicture.slice.Goals as goal

-- white over black is white
laid_if : (lit : Bool) → laid (if lit then Some (record { color = white; opa = 255 }) else None) black ≡ (if lit then white else black)
unfolding mix mix_channel
laid_if true = refl
laid_if false = refl

filled : (area part : Rect) (x y : ℤ) → has area x y ≡ true → laid (within area (fill_coat part white 255) x y) black ≡ (if has part x y then white else black)
filled area part x y i = rw i (laid_if (has part x y))

pub returns-clause-colors : goal.returns-clause-colors
returns-clause-colors g c =
    let area = rect_of c.area-area.result in
    let part = rect_of c.args.self.now.part in
    let drawn = c.fill.ensures in
    record {
      area_stays = drawn.area_stays;
      limit_stays = drawn.limit_stays;
      pixels = λ x y i. drawn.pixels x y i ∙ (ap (laid (within area (fill_coat part white 255) x y)) (c.requires x y i) ∙ filled area part x y (subst (λ (a : Rect). has a x y ≡ true) (sym c.area-area.ensures) i));
    }

pub returns-clause-steps : goal.returns-clause-steps
returns-clause-steps g c =
    let drawn = c.fill.ensures.steps in
    let most = pixel_count_most c.args.buf.now.area (within (rect_of c.area-area.result) (fill_coat (rect_of c.args.self.now.part) white 255)) in
    omega (arith, drawn, most)
