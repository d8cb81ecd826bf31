use Rattle.std.proofs.Common.{◌≡◌, ◌∙◌, sym, ap, refl, true, option_map, arith}
use Rattle.std.specs.Str.{chars, is_utf8}
use Rattle.std.proofs.lemmas.Bool.{and_parts}
use Rattle.std.proofs.lemmas.Bool.Decides.{nat_tests}
use Rattle.std.proofs.lemmas.Int.{ints}
use Rattle.gui_base.specs.declared.props.Prop.TheVariants.{TextFont}
use Rattle.text_defs.specs.Fonts.{face}
use Rattle.widget_defs.specs.Looks.{number_of}
use Rattle.scene_defs.specs.Looks.{look_of, image_look}
use Rattle.scene_defs.specs.Row.{shown_row}
use Rattle.scene_defs.specs.Texts.{is_short}
use Rattle.gui_store.specs.Views.{scene_of}
use Rattle.gui_layout.proofs.Painted.{same-items}
use Rattle.gui_layout.proofs.Ranged.{fits, kept_by}
use Rattle.gui_layout.proofs.SceneBoxes.{object_found, row_found}
use Rattle.gui_layout.specs.Scenes.{object_with}
use Rattle.gui_layout.proofs.looks.paint_look_in.Goals as goal

pub text_of-requires : goal.text_of-requires
text_of-requires c = (row_found (scene_of c.args.store.now) c.args.h.0 (shown_row c.args.row.now) c.requires.row).0

pub returns-clause-look : goal.returns-clause-look
returns-clause-look c =
    let row = c.args.row.now in
    let k = kept_by row c.requires.in_range in
    let value = fits row.value (omega (arith, ints, k.low, k.least)) (omega (arith, ints, k.high, k.most)) in
    let min = fits row.min k.least (omega (arith, ints, k.low, k.high, k.most)) in
    let max = fits row.max (omega (arith, ints, k.low, k.high, k.least)) k.most in
    let text : (is_utf8 c.text_of.result.now ≡ true) × (is_short c.text_of.result.now ≡ true) = and_parts _ _ c.text_of.ensures.valid in
    let short = text.1 in
    record {
      main = c.main_values.ensures.in_range;
      scrollbar = c.part_values.ensures.in_range;
      indicator = c.part_values-2.ensures.in_range;
      knob = c.part_values-3.ensures.in_range;
      short = grind (arith, nat_tests, short);
      ranged = record { ends = rw (min, max) k.ends; low = rw (min, value) k.low; high = rw (value, max) k.high };
      low = rw min k.least;
      high = rw max k.most;
      across = omega arith;
      down = omega arith;
    }

pub returns-clause-paints : goal.returns-clause-paints
returns-clause-paints c =
    let scene = scene_of c.args.store.now in
    let row = c.args.row.now in
    let k = kept_by row c.requires.in_range in
    let whole = look_of scene (object_with scene c.args.h.0 (shown_row row)) in
    record {
      whole = whole;
      is = sym (ap (option_map (look_of scene)) (object_found scene c.args.h.0 (shown_row row) c.requires.row));
      items = same-items _ whole (record {
        kind = refl;
        fills = c.main_values.ensures.fills;
        main = λ paints i prop. c.main_values.ensures.all paints prop i;
        face = λ paints i. face (c.fonts.ensures i) (number_of (c.main_values.ensures.all paints TextFont i));
        indicator = λ paints. c.part_values-2.ensures.fills (c.paints_indicator.ensures ∙ paints);
        knob = λ paints. c.part_values-3.ensures.fills (c.paints_knob.ensures ∙ paints);
        text = ap chars c.text_of.ensures.text;
        value = fits row.value (omega (arith, ints, k.low, k.least)) (omega (arith, ints, k.high, k.most));
        min = fits row.min k.least (omega (arith, ints, k.low, k.high, k.most));
        max = fits row.max (omega (arith, ints, k.low, k.high, k.least)) k.most;
        image = c.image_look.ensures ∙ ap (λ is. image_look is row.image) c.images.ensures;
      });
      text = ap chars c.text_of.ensures.text;
    }
