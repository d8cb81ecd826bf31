-- Panels of whole blocks.
use Rattle.std.proofs.Common.{◌≡◌, refl, sym, subst, pos}
use Rattle.gui_base.specs.Area.{Rect, area_at}
use Rattle.gui_base.specs.Grids.{HasBlocks}

pub four_by_two : (panel : Rect) → panel ≡ area_at (pos 0) (pos 0) 16 8 → HasBlocks 4 2 panel
four_by_two panel e = subst (HasBlocks 4 2) (sym e) (record { left = refl; top = refl; some = refl; wide = refl; high = refl })

pub bytes : (panel : Rect) → panel ≡ area_at (pos 0) (pos 0) 8 24 → HasBlocks 1 8 panel
bytes panel e = subst (HasBlocks 1 8) (sym e) (record { left = refl; top = refl; some = refl; wide = refl; high = refl })
