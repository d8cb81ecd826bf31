-- What lines of a font and of a scene say.
use Rattle.std.proofs.Common.{refl, [], ◌∷◌}
use Rattle.gui_base.specs.declared.intervals.TheConstants.{FONT, FONT_HEIGHT, ADVANCE, GLYPH_WIDTH, GLYPH_HEIGHT}
use Rattle.gui_base.specs.Names.{named}
use Rattle.run_defs.specs.Commands.{command_says, code, glyph_offset, bytes, new_handle, handle, kind}
use Rattle.run_defs.specs.Commands.{coordinate, extent, flag, switch, text, selector, property, value_for}
use Rattle.run_defs.specs.Fields.{count_in}
use Rattle.line_texts.specs.Commands.{FontLinesSay, SceneLinesSay}
use Rattle.line_texts.proofs.FieldsRead.{reads}

pub font_lines_say : FontLinesSay
unfolding command_says named
font_lines_say = record {
  font = λ f h a font height advance e1 e2 e3.
      let r1 = reads (count_in FONT) f (h ∷ a ∷ []) font e1 in
      let r2 = reads (count_in FONT_HEIGHT) h (a ∷ []) height e2 in
      let r3 = reads (count_in ADVANCE) a [] advance e3 in
      rw (r1.value_is, r1.past_is, r2.value_is, r2.past_is, r3.value_is, r3.past_is) refl;
  glyph = λ f c a w h x y d font number advance width height ox oy rows e1 e2 e3 e4 e5 e6 e7 e8.
      let r1 = reads (count_in FONT) f (c ∷ a ∷ w ∷ h ∷ x ∷ y ∷ d ∷ []) font e1 in
      let r2 = reads code c (a ∷ w ∷ h ∷ x ∷ y ∷ d ∷ []) number e2 in
      let r3 = reads (count_in ADVANCE) a (w ∷ h ∷ x ∷ y ∷ d ∷ []) advance e3 in
      let r4 = reads (count_in GLYPH_WIDTH) w (h ∷ x ∷ y ∷ d ∷ []) width e4 in
      let r5 = reads (count_in GLYPH_HEIGHT) h (x ∷ y ∷ d ∷ []) height e5 in
      let r6 = reads glyph_offset x (y ∷ d ∷ []) ox e6 in
      let r7 = reads glyph_offset y (d ∷ []) oy e7 in
      let r8 = reads bytes d [] rows e8 in
      rw (
        r1.value_is,
        r1.past_is,
        r2.value_is,
        r2.past_is,
        r3.value_is,
        r3.past_is,
        r4.value_is,
        r4.past_is,
        r5.value_is,
        r5.past_is,
        r6.value_is,
        r6.past_is,
        r7.value_is,
        r7.past_is,
        r8.value_is,
        r8.past_is,
      ) refl;
  end = λ f font e1.
      let r1 = reads (count_in FONT) f [] font e1 in
      rw (r1.value_is, r1.past_is) refl;
}

pub scene_lines_say : SceneLinesSay
unfolding command_says named
scene_lines_say = record {
  new = λ i p k id parent which e1 e2 e3.
      let r1 = reads new_handle i (p ∷ k ∷ []) id e1 in
      let r2 = reads handle p (k ∷ []) parent e2 in
      let r3 = reads kind k [] which e3 in
      rw (r1.value_is, r1.past_is, r2.value_is, r2.past_is, r3.value_is, r3.past_is) refl;
  pos = λ i x y id a b e1 e2 e3.
      let r1 = reads handle i (x ∷ y ∷ []) id e1 in
      let r2 = reads coordinate x (y ∷ []) a e2 in
      let r3 = reads coordinate y [] b e3 in
      rw (r1.value_is, r1.past_is, r2.value_is, r2.past_is, r3.value_is, r3.past_is) refl;
  size = λ i w h id width height e1 e2 e3.
      let r1 = reads handle i (w ∷ h ∷ []) id e1 in
      let r2 = reads extent w (h ∷ []) width e2 in
      let r3 = reads extent h [] height e3 in
      rw (r1.value_is, r1.past_is, r2.value_is, r2.past_is, r3.value_is, r3.past_is) refl;
  flag = λ i f s id which on e1 e2 e3.
      let r1 = reads handle i (f ∷ s ∷ []) id e1 in
      let r2 = reads flag f (s ∷ []) which e2 in
      let r3 = reads switch s [] on e3 in
      rw (r1.value_is, r1.past_is, r2.value_is, r2.past_is, r3.value_is, r3.past_is) refl;
  text = λ i t id shown e1 e2.
      let r1 = reads handle i (t ∷ []) id e1 in
      let r2 = reads text t [] shown e2 in
      rw (r1.value_is, r1.past_is, r2.value_is, r2.past_is) refl;
  local = λ i s p v id where_to prop n e1 e2 e3 e4.
      let r1 = reads handle i (s ∷ p ∷ v ∷ []) id e1 in
      let r2 = reads selector s (p ∷ v ∷ []) where_to e2 in
      let r3 = reads property p (v ∷ []) prop e3 in
      let r4 = reads (value_for prop) v [] n e4 in
      rw (r1.value_is, r1.past_is, r2.value_is, r2.past_is, r3.value_is, r3.past_is, r4.value_is, r4.past_is) refl;
}
