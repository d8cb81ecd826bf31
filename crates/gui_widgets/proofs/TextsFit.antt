-- The texts of items can be drawn.
use Rattle.std.proofs.Common.{◌≡◌, ◌≤◌, ℕ, ◌+◌, ◌-◌, max, true, refl, List, [], ◌∷◌, Option, Some, None, arith, ℤ, pos, negsuc}
use Rattle.std.specs.List.{All}
use Rattle.std.proofs.lemmas.Bool.Decides.{nat_tests}
use Rattle.std.proofs.lemmas.Int.{ints}
use Rattle.std.proofs.lemmas.List.Elements.{All-nil, All-cons}
use Rattle.gui_base.specs.Area.{Rect, width_of}
use Rattle.gui_base.specs.Props.{is_value}
use Rattle.gui_base.specs.declared.props.Prop.TheVariants as prop
use Rattle.widget_defs.specs.declared.ImageLook.{ImageLook}
use Rattle.widget_defs.specs.declared.kinds.Shown.{Shown}
use Rattle.widget_defs.specs.declared.kinds.Shown.TheVariants as shown
use Rattle.widget_defs.specs.Kinds.{shows}
use Rattle.widget_defs.specs.Items.{Item, items, fill_of, ring_of, ink_of, picture_of, content_of, content_items, shown_items, inset, share_area, knob_area, box_area, caption_area}
use Rattle.widget_defs.specs.Looks.{Look, PartValues, AreValues, number_of, text_look, left_look}
use Rattle.widget_defs.specs.Sizes.{text_size}
use Rattle.widget_defs.proofs.Captions.{count-is}
use Rattle.gui_widgets.specs.Texts.{IsSetIn, IsTextIn, IsCaption, widest_text}

letter-small : (v : ℤ) → is_value prop.TextLetterSpace v ≡ true → number_of v ≤ 100
letter-small (pos n) h = grind (arith, ints, nat_tests)
letter-small (negsuc n) h = absurd (grind (arith, ints, nat_tests))

line-small : (v : ℤ) → is_value prop.TextLineSpace v ≡ true → number_of v ≤ 100
line-small (pos n) h = grind (arith, ints, nat_tests)
line-small (negsuc n) h = absurd (grind (arith, ints, nat_tests))

module _ (look : Look) (values : AreValues look.main) (width : ℕ) where
  abbrev Fits : Item → Type 0
  Fits item = IsTextIn width item

  set_in : (area : Rect) → width_of area ≤ max width widest_text → IsSetIn (max width widest_text) area (text_look look.main)
  set_in area wide =
      record {
        letter = letter-small (look.main prop.TextLetterSpace) (values prop.TextLetterSpace);
        line = line-small (look.main prop.TextLineSpace) (values prop.TextLineSpace);
        wide = wide;
      }

  set_left : (area : Rect) → width_of area ≤ max width widest_text → IsSetIn (max width widest_text) area (left_look look.main)
  set_left area wide =
      record {
        letter = letter-small (look.main prop.TextLetterSpace) (values prop.TextLetterSpace);
        line = line-small (look.main prop.TextLineSpace) (values prop.TextLineSpace);
        wide = wide;
      }

  part-fits : (area : Rect) (part : PartValues) (rest : List Item) → All Fits rest → All Fits (fill_of area part ∷ ring_of area part ∷ rest)
  part-fits area part rest more =
      All-cons Fits (fill_of area part) (ring_of area part ∷ rest) tt (All-cons Fits (ring_of area part) rest tt more)

  picture-fits : (image : Option ImageLook) (content : Rect) → All Fits (picture_of image look.main content)
  picture-fits None content = All-nil Fits
  picture-fits (Some image) content = All-cons Fits _ [] tt (All-nil Fits)

  shown-fits : (what : Shown) (content : Rect) → width_of content ≤ width → (what ≡ shown.BoxAndText → (text_size look None).0 ≤ widest_text) → All Fits (shown_items what look content)
  shown-fits shown.Text content within caption =
      All-cons Fits (ink_of content look.main (text_look look.main)) [] (set_in content (omega arith)) (All-nil Fits)
  shown-fits shown.Picture content within caption = picture-fits look.image content
  shown-fits shown.Share content within caption = part-fits (share_area look content) look.indicator [] (All-nil Fits)
  shown-fits shown.ShareAndKnob content within caption =
      part-fits (share_area look content) look.indicator (fill_of (knob_area look content) look.knob ∷ ring_of (knob_area look content) look.knob ∷ [])
      (part-fits (knob_area look content) look.knob [] (All-nil Fits))
  shown-fits shown.BoxAndText content within caption =
      let narrow = caption refl in
      let is : width_of (caption_area look content) ≡ (text_size look None).0 = count-is _ (text_size look None).0 in
      part-fits (box_area look content) look.indicator (ink_of (caption_area look content) look.main (left_look look.main) ∷ [])
      (All-cons Fits (ink_of (caption_area look content) look.main (left_look look.main)) [] (set_left (caption_area look content) (omega (arith, is, narrow))) (All-nil Fits))
  shown-fits what content within caption = All-nil Fits

pub texts-fit : (look : Look) (place : Rect) → AreValues look.main → IsCaption look → All (IsTextIn (width_of place)) (items look place)
texts-fit look place values caption =
    let content = content_of place look.main in
    let is : width_of content ≡ width_of place - (inset look.main prop.PadLeft + inset look.main prop.PadRight) = count-is _ (width_of place - (inset look.main prop.PadLeft + inset look.main prop.PadRight)) in
    part-fits look values (width_of place) place look.main (content_items look.kind look content) (shown-fits look values (width_of place) (shows look.kind) content (omega (arith, is)) caption)
