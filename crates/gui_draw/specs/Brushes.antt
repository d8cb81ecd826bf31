-- What is drawn with.
use Rattle.std.specs.Prelude.{Bool, ℤ}
use Rattle.gui_base.specs.Coats.{Coat, within, only, plain}
use Rattle.gui_base.specs.Corners.{rect_of}
use Rattle.gui_draw.specs.declared.brush.Brush.{Brush}

-- its colour where a test holds
abbrev pub dabbed : Brush → (ℤ → ℤ → Bool) → Coat
dabbed brush test = only test (plain brush.fg brush.opa)

-- the same in its part alone
abbrev pub stroke : Brush → (ℤ → ℤ → Bool) → Coat
stroke brush test = within (rect_of brush.part) (dabbed brush test)
