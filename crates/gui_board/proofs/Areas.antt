-- The areas of a scene's panel.
use Rattle.std.proofs.Common.{◌≡◌, ◌∙◌, sym, ap, subst, List}
use Rattle.std.specs.Prelude.{pos}
use Rattle.gui_base.specs.Area.{Rect, area_at}
use Rattle.gui_base.specs.Limits.{Bounds}
use Rattle.gui_damage.specs.Adding.{AddsAll}
use Rattle.gui_damage.specs.Pending.{Pending}
use Rattle.scene_defs.specs.Place.{panel_of}
use Rattle.scene_defs.specs.Scene.{Scene}
use Rattle.gui_board.proofs.Sending.{of_panel}

pub same_panel : (before after : Scene) → after.limits ≡ before.limits → panel_of after ≡ panel_of before
same_panel before after e = ap (λ (b : Bounds). area_at (pos 0) (pos 0) b.width b.height) e

-- what was added to a list of the scene's panel
pub adds_of_panel : (before after : Scene) (old new : Pending) (debt : List Rect) → old.panel ≡ panel_of before → after.limits ≡ before.limits → AddsAll old new debt → AddsAll (of_panel before old.areas) (of_panel after new.areas) debt
adds_of_panel before after old new debt panel same adds =
    let next : new.panel ≡ panel_of after = adds.panel ∙ (panel ∙ sym (same_panel before after same)) in
    subst (λ (r : Rect). AddsAll (of_panel before old.areas) (record { panel = r; areas = new.areas }) debt) next
    (subst (λ (r : Rect). AddsAll (record { panel = r; areas = old.areas }) new debt) panel adds)

-- where a list stays as it was
pub stays_of_panel : (before after : Scene) (old new : Pending) → after.limits ≡ before.limits → new ≡ old → of_panel after new.areas ≡ of_panel before old.areas
stays_of_panel before after old new same e =
    ap (λ (r : Rect). record { panel = r; areas = new.areas }) (same_panel before after same) ∙ ap (λ (p : Pending). of_panel before p.areas) e
