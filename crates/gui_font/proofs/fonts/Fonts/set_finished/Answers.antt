use Rattle.std.proofs.Common.{◌≡◌, ◌∙◌, map, refl, arith}
use Rattle.std.specs.Vec.{with_items}
use Rattle.std.proofs.lemmas.List.{with_items_is}
use Rattle.gui_font.specs.Views.{marked}
use Rattle.gui_font.proofs.Growing.{kept_marked, fonts_marked}
use Rattle.gui_font.proofs.fonts.Fonts.set_finished.Goals as goal
use Rattle.gui_font.proofs.fonts.Fonts.set_finished.Goals.{After-self-1}

items_are : (c : After-self-1) → (with_items c.self.inside.fonts c.mark_finished.new.fonts).items ≡ map (marked c.args.id) c.self.inside.fonts.items
items_are c =
    let e : c.mark_finished.new.fonts ≡ map (marked c.args.id) c.self.inside.fonts.items = rw c.as_mut_slice.ensures.value at c.mark_finished.ensures in
    with_items_is c.self.inside.fonts c.mark_finished.new.fonts (omega arith) ∙ e

pub invariant_of-self : goal.invariant_of-self
invariant_of-self c = rw (items_are c) (kept_marked c.self.inside.fonts.items _ _ _ _ c.args.id c.self.invariant)

pub returns : goal.returns
returns c = let i = c.self.inside in rw (← c.self.view_is, items_are c, fonts_marked i.fonts.items i.glyphs.items i.ink.items c.args.id) refl
