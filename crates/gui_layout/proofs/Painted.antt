-- A look with the values that its items go by paints the same as the whole one.
use Rattle.std.proofs.Common.{◌≡◌, ◌∙◌, refl, sym, ap, true, false, List, [], ◌∷◌, ◌++◌, inl, inr}
use Rattle.std.proofs.lemmas.Bool.{cases_Bool}
use Rattle.gui_base.specs.Area.{Rect}
use Rattle.gui_base.specs.declared.words.Kind.{Kind}
use Rattle.widget_defs.specs.declared.kinds.Shown.{Shown}
use Rattle.widget_defs.specs.declared.kinds.Shown.TheVariants as shown
use Rattle.widget_defs.specs.Kinds.{shows, is_something, has_indicator, has_knob}
use Rattle.widget_defs.specs.Items.{Item, items, part_of, content_of, content_items, shown_items, share_area, knob_area, box_area, caption_area, ink_of}
use Rattle.widget_defs.specs.Looks.{Look, PartValues, left_look}
use Rattle.gui_layout.specs.Painted.{paints_content, paints_indicator, paints_knob, FillsAs}

-- the look has what the items of the whole one go by
pub record IsEnough (look whole : Look) : Type 0 where
  pub kind : look.kind ≡ whole.kind
  pub fills : FillsAs look.main whole.main
  pub main : paints_content whole.kind ≡ true → look.main ≡ whole.main
  pub face : paints_content whole.kind ≡ true → look.face ≡ whole.face
  pub indicator : paints_indicator whole.kind ≡ true → FillsAs look.indicator whole.indicator
  pub knob : paints_knob whole.kind ≡ true → FillsAs look.knob whole.knob
  pub text : look.text ≡ whole.text
  pub value : look.value ≡ whole.value
  pub min : look.min ≡ whole.min
  pub max : look.max ≡ whole.max
  pub image : look.image ≡ whole.image

part-same : (area : Rect) (some others : PartValues) → FillsAs some others → part_of area some ≡ part_of area others
part-same area some others f = rw (f.bg_color, f.bg_opa, f.border_color, f.border_opa, f.border_width) refl

no-content : (what : Shown) (look : Look) (content : Rect) → is_something what ≡ false → shown_items what look content ≡ []
no-content shown.Nothing look content none = refl
no-content what look content none = cc

-- the whole look with the other parts of another one
abbrev mixed : Look → Look → Look
mixed look whole = record whole {
  scrollbar = look.scrollbar;
  indicator = look.indicator;
  knob = look.knob;
  scrollable = look.scrollable;
  reach = look.reach;
  offset = look.offset;
}

content-same : (what : Shown) (look whole : Look) (content : Rect) → (has_indicator what ≡ true → FillsAs look.indicator whole.indicator) → (has_knob what ≡ true → FillsAs look.knob whole.knob) →
    shown_items what (mixed look whole) content ≡ shown_items what whole content
content-same shown.Share look whole content indicator knob = part-same (share_area whole content) look.indicator whole.indicator (indicator refl)
content-same shown.ShareAndKnob look whole content indicator knob =
    ap (λ (is : List Item). is ++ part_of (knob_area whole content) look.knob) (part-same (share_area whole content) look.indicator whole.indicator (indicator refl))
    ∙ ap (λ (is : List Item). part_of (share_area whole content) whole.indicator ++ is) (part-same (knob_area whole content) look.knob whole.knob (knob refl))
content-same shown.BoxAndText look whole content indicator knob =
    ap (λ (is : List Item). is ++ ink_of (caption_area whole content) whole.main (left_look whole.main) ∷ []) (part-same (box_area whole content) look.indicator whole.indicator (indicator refl))
content-same what look whole content indicator knob = refl

pub same-items : (look whole : Look) → IsEnough look whole → (area : Rect) → items look area ≡ items whole area
same-items look whole e area = elim (cases_Bool (paints_content whole.kind)) [
  | inl paints ↦
      let is : look ≡ mixed look whole = λ i. record {
        kind = e.kind i;
        main = e.main paints i;
        scrollbar = look.scrollbar;
        indicator = look.indicator;
        knob = look.knob;
        text = e.text i;
        face = e.face paints i;
        value = e.value i;
        min = e.min i;
        max = e.max i;
        image = e.image i;
        scrollable = look.scrollable;
        reach = look.reach;
        offset = look.offset;
      } in
      ap (λ (l : Look). items l area) is
      ∙ ap (λ (is : List Item). part_of area whole.main ++ is) (content-same (shows whole.kind) look whole (content_of area whole.main) e.indicator e.knob)
  | inr none ↦
      ap (λ (k : Kind). part_of area look.main ++ content_items k look (content_of area look.main)) e.kind
      ∙ (ap (λ (is : List Item). part_of area look.main ++ is) (no-content (shows whole.kind) look (content_of area look.main) none)
      ∙ (ap (λ (is : List Item). is ++ []) (part-same area look.main whole.main e.fills)
      ∙ ap (λ (is : List Item). part_of area whole.main ++ is) (sym (no-content (shows whole.kind) whole (content_of area whole.main) none))))
]
