-- The items of an object can be painted.
use Rattle.std.proofs.Common.{◌≡◌, ◌≤◌, refl, ℕ, ℤ, pos, negsuc, max, Bool, true, false, List, [], ◌∷◌, Option, Some, None, unwrap_or, arith}
use Rattle.std.specs.List.{All}
use Rattle.std.proofs.lemmas.Bool.Decides.{nat_tests}
use Rattle.std.proofs.lemmas.Int.{ints}
use Rattle.std.proofs.lemmas.List.Elements.{All-nil, All-cons}
use Rattle.gui_base.specs.Area.{Rect, nat_of, width_of}
use Rattle.gui_base.specs.Props.{is_value}
use Rattle.gui_base.specs.declared.props.Prop.TheVariants.{TextFont}
use Rattle.text_defs.specs.Building.{is_finished}
use Rattle.text_defs.specs.Fonts.{Font, finished}
use Rattle.widget_defs.specs.declared.ImageLook.{ImageLook}
use Rattle.widget_defs.specs.declared.kinds.Shown.{Shown}
use Rattle.widget_defs.specs.declared.kinds.Shown.TheVariants as shown
use Rattle.widget_defs.specs.Kinds.{shows}
use Rattle.widget_defs.specs.Items.{Item, items, fill_of, ring_of, ink_of, picture_of, content_of, content_items, shown_items, share_area, knob_area, box_area, caption_area}
use Rattle.widget_defs.specs.Looks.{Look, PartValues, number_of, text_look, left_look}
use Rattle.gui_widgets.specs.Texts.{IsTextIn, widest_text}
use Rattle.gui_paint.specs.Paintable.{IsPaintable, widest_area}

module _ (fonts : List Font) (look : Look) (ended : finished fonts (number_of (look.main TextFont)) ≡ Some true) (width : ℕ) (narrow : max width widest_text ≤ widest_area) where
  -- an item can be painted if its text is set so
  abbrev IsReady : Item → Type 0
  IsReady item = IsTextIn width item → IsPaintable fonts item

  text_ready : (area : Rect) → IsReady (ink_of area look.main (text_look look.main))
  text_ready area s = record { finished = ended; set = record { letter = s.letter; line = s.line; wide = omega (arith, s.wide) } }

  caption_ready : (area : Rect) → IsReady (ink_of area look.main (left_look look.main))
  caption_ready area s = record { finished = ended; set = record { letter = s.letter; line = s.line; wide = omega (arith, s.wide) } }

  part_ready : (area : Rect) (part : PartValues) (rest : List Item) → All IsReady rest → All IsReady (fill_of area part ∷ ring_of area part ∷ rest)
  part_ready area part rest more =
      All-cons IsReady (fill_of area part) (ring_of area part ∷ rest) (λ s. tt) (All-cons IsReady (ring_of area part) rest (λ s. tt) more)

  picture_ready : (image : Option ImageLook) (content : Rect) → All IsReady (picture_of image look.main content)
  picture_ready None content = All-nil IsReady
  picture_ready (Some image) content = All-cons IsReady _ [] (λ s. tt) (All-nil IsReady)

  shown_ready : (what : Shown) (content : Rect) → All IsReady (shown_items what look content)
  shown_ready shown.Text content = All-cons IsReady (ink_of content look.main (text_look look.main)) [] (text_ready content) (All-nil IsReady)
  shown_ready shown.Picture content = picture_ready look.image content
  shown_ready shown.Share content = part_ready (share_area look content) look.indicator [] (All-nil IsReady)
  shown_ready shown.ShareAndKnob content =
      part_ready (share_area look content) look.indicator (fill_of (knob_area look content) look.knob ∷ ring_of (knob_area look content) look.knob ∷ [])
      (part_ready (knob_area look content) look.knob [] (All-nil IsReady))
  shown_ready shown.BoxAndText content =
      part_ready (box_area look content) look.indicator (ink_of (caption_area look content) look.main (left_look look.main) ∷ [])
      (All-cons IsReady (ink_of (caption_area look content) look.main (left_look look.main)) [] (caption_ready (caption_area look content)) (All-nil IsReady))
  shown_ready what content = All-nil IsReady

  all_ready : (place : Rect) → All IsReady (items look place)
  all_ready place = part_ready place look.main (content_items look.kind look (content_of place look.main)) (shown_ready (shows look.kind) (content_of place look.main))

-- the items of an object whose font is finished, where it stands in a place that is not too wide
pub items_ready : (fonts : List Font) (look : Look) (place : Rect) → finished fonts (number_of (look.main TextFont)) ≡ Some true → width_of place ≤ widest_area → All (IsTextIn (width_of place)) (items look place) → All (IsPaintable fonts) (items look place)
items_ready fonts look place ended narrow texts k d within =
    all_ready fonts look ended (width_of place) (omega arith) place k d within (texts k d within)

-- a number that names a finished font, as the value of a property
pub ended_by : (answer : Option Bool) → unwrap_or answer false ≡ true → answer ≡ Some true
ended_by None is = cc
ended_by (Some done) is = rw is refl

pub font_ended : (fonts : List Font) (value : ℤ) → is_value TextFont value ≡ true → is_finished fonts (nat_of value) ≡ true → finished fonts (number_of value) ≡ Some true
font_ended fonts (pos n) fits is = ended_by (finished fonts n) is
font_ended fonts (negsuc n) fits is = absurd (grind (arith, ints, nat_tests))
