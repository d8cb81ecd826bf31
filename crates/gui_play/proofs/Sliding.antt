-- A slider takes its value from a column.
use Rattle.std.proofs.Common.{◌≡◌, sym, ap, subst, refl, Bool, true, false, Option, Some, None, option_map, ℤ}
use Rattle.std.specs.Prelude.{if◌then◌else◌}
use Rattle.gui_base.specs.Area.{Rect}
use Rattle.gui_base.specs.declared.Handle.{Handle}
use Rattle.run_defs.specs.Play.{Rule, nothing}
use Rattle.run_defs.specs.Pointing.{content, value_at}
use Rattle.run_defs.specs.Reactions.{is_slider, put_value, slide, slide_by, slide_in}
use Rattle.scene_defs.specs.Scene.{row_at}
use Rattle.scene_defs.specs.declared.Row.{Row}
use Rattle.gui_play.specs.Sliding.{slid_in, slid_value}
use Rattle.gui_board.specs.Stages.{Stage, Played}
use Rattle.gui_board.proofs.Plays.{idle}

none_if : (b : Bool) (row : Row) (area : Option Rect) (x : ℤ) (h : Handle) → (if b then option_map (λ a. value_at row a x) area else None) ≡ None → (if b then slide_in row area x h else nothing) ≡ nothing
none_if true row None x h e = refl
none_if true row (Some a) x h e = cc
none_if false row area x h e = refl

some_if : (b : Bool) (row : Row) (area : Option Rect) (x n : ℤ) (h : Handle) → (if b then option_map (λ a. value_at row a x) area else None) ≡ Some n → (if b then slide_in row area x h else nothing) ≡ put_value n h
some_if true row None x n h e = cc
some_if true row (Some a) x n h e = let same : value_at row a x ≡ n = cc in ap (λ (m : ℤ). put_value m h) same
some_if false row area x n h e = cc

slides_none : (row : Option Row) (area : Option Rect) (x : ℤ) (h : Handle) → slid_in row area x ≡ None → slide_by row area x h ≡ nothing
slides_none None area x h e = refl
slides_none (Some row) area x h e = none_if (is_slider row.kind) row area x h e

slides_some : (row : Option Row) (area : Option Rect) (x n : ℤ) (h : Handle) → slid_in row area x ≡ Some n → slide_by row area x h ≡ put_value n h
slides_some None area x n h e = cc
slides_some (Some row) area x n h e = some_if (is_slider row.kind) row area x n h e

-- what is no slider does nothing
pub slid_none : (a : Stage) (x : ℤ) (h : Handle) → slid_value a.machine.scene x h ≡ None → Played a a (slide x h a.machine)
unfolding slide
slid_none a x h e =
    let scene = a.machine.scene in
    subst (λ (rule : Rule). Played a a (rule a.machine)) (sym (slides_none (row_at scene h.0) (content scene h.0) x h e)) (idle a)

pub slid : (a b : Stage) (x n : ℤ) (h : Handle) → slid_value a.machine.scene x h ≡ Some n → Played a b (put_value n h a.machine) → Played a b (slide x h a.machine)
unfolding slide
slid a b x n h e played =
    let scene = a.machine.scene in
    subst (λ (rule : Rule). Played a b (rule a.machine)) (sym (slides_some (row_at scene h.0) (content scene h.0) x n h e)) played
