use Rattle.std.proofs.Common.{◌≡◌, ◌∙◌, sym, ap, subst, refl, ℕ, ◌+◌, ◌*◌, ◌<◌, Bool, true, false, length, if◌then◌else◌, arith, rules, w32}
use Rattle.std.proofs.lemmas.Int.{to_z-of_z}
use Rattle.gui_base.specs.declared.area.Area.{Area}
use Rattle.gui_base.specs.Area.{Rect, joined}
use Rattle.gui_base.specs.Corners.{rect_of}
use Rattle.session_defs.specs.Updates.{pixel_area}
use Rattle.rfb_view.specs.Sights.{is_untold, with_untold}
use Rattle.rfb_view.proofs.Lines.{untold_more, pixel_is, told_as}
use Rattle.rfb_view.proofs.sight.Sight.join_news.Goals.{then-not-was_told, else-not-was_told}
use Rattle.rfb_view.proofs.sight.Sight.join_news.Goals as goal

pub loop-column-preserved : goal.loop-column-preserved
loop-column-preserved c =
    let i : ℕ = c.args.line * c.args.width + c.args.block.left + c.loop-column.column in
    let j : ℕ = c.from.result * c.from-2.result + c.from-3.result + c.from-in-loop-column.result in
    let same : i ≡ j = rw (c.from.ensures, c.from-2.ensures, c.from-3.ensures, c.from-in-loop-column.ensures) refl in
    let inside : c.args.block.left + c.loop-column.column < c.args.width = omega (arith, c.loop-column-test.true, c.requires.wide) in
    let below : i < length c.args.colors.now = omega (arith, inside, c.requires.high) in
    let below_too : j < length c.args.colors.now = subst (λ (k : ℕ). k < length c.args.colors.now) same below in
    let more = untold_more c.args.width c.args.self.now c.args.colors.now (c.args.line * c.args.width + c.args.block.left) c.loop-column.column (rect_of c.args.news) in
    elim c.if-not-was_told.branch [
      | then-not-was_told w ↦
          let untold : is_untold c.args.self.now c.args.colors.now i ≡ true = told_as c.args.self.now c.args.colors.now i j _ false c.was_told.result c.was_told.ensures w.if-not-was_told.true same below_too in
          let x = to_z-of_z w32 w.from-x.result (search rules) ∙ w.from-x.ensures in
          let y = to_z-of_z w32 w.from-y.result (search rules) ∙ w.from-y.ensures in
          let pixel = pixel_is c.args.width c.args.line (c.args.block.left + c.loop-column.column) i _ _ inside (omega arith) x y in
          ap (λ (area : Area). rect_of area) w.news-is ∙ w.join-news.ensures.corners ∙ ap (λ (a : Rect). joined (rect_of c.loop-column.news) a) pixel
          ∙ ap (λ (a : Rect). joined a (pixel_area c.args.width i)) c.loop-column.invariant
          ∙ sym (more ∙ ap (λ (b : Bool). if b then joined (with_untold c.args.width c.args.self.now c.args.colors.now (c.args.line * c.args.width + c.args.block.left) c.loop-column.column (rect_of c.args.news)) (pixel_area c.args.width i) else with_untold c.args.width c.args.self.now c.args.colors.now (c.args.line * c.args.width + c.args.block.left) c.loop-column.column (rect_of c.args.news)) untold)
      | else-not-was_told w ↦
          let told : is_untold c.args.self.now c.args.colors.now i ≡ false = told_as c.args.self.now c.args.colors.now i j _ true c.was_told.result c.was_told.ensures w.if-not-was_told.false same below_too in
          ap (λ (area : Area). rect_of area) w.news-is ∙ c.loop-column.invariant
          ∙ sym (more ∙ ap (λ (b : Bool). if b then joined (with_untold c.args.width c.args.self.now c.args.colors.now (c.args.line * c.args.width + c.args.block.left) c.loop-column.column (rect_of c.args.news)) (pixel_area c.args.width i) else with_untold c.args.width c.args.self.now c.args.colors.now (c.args.line * c.args.width + c.args.block.left) c.loop-column.column (rect_of c.args.news)) told)
    ]
