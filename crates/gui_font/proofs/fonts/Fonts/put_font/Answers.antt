use Rattle.std.proofs.Common.{◌≡◌, refl, ◌-◌, arith, false}
use Rattle.std.specs.Prelude.{vec_capacity, vec_len}
use Rattle.gui_font.proofs.Growing.{fonts_begun, kept_begun}
use Rattle.gui_font.proofs.Slots.{not_listed}
use Rattle.gui_font.proofs.fonts.Fonts.put_font.Goals as goal

pub invariant_of-self : goal.invariant_of-self
invariant_of-self c = let i = c.self.inside in rw c.push_reserved.ensures.items (kept_begun i.fonts.items _ _ _ _ _ c.self.invariant)

pub returns : goal.returns
returns c =
    let p = c.push_reserved.ensures in
    let i = c.self.inside in
    let none = not_listed i.glyphs.items i.ink.items i.fonts.items c.args.id (rw (← c.self.view_is) at c.requires.new) in
    let room : vec_capacity c.push_reserved.new.self - vec_len c.push_reserved.new.self ≡ vec_capacity i.fonts - vec_len i.fonts - 1 = omega (arith, p.capacity, p.len) in
    rw (← c.self.view_is, p.items, room, fonts_begun i.fonts.items _ i.glyphs.items i.ink.items _ (record { name = c.args.id; height = c.args.height; advance = c.args.advance; finished = false }) c.self.invariant none) refl
