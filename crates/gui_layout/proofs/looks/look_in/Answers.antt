use Rattle.std.proofs.Common.{◌≡◌, ◌∙◌, sym, ap, true, Some, option_map, arith}
use Rattle.std.specs.Str.{chars, is_utf8}
use Rattle.std.proofs.lemmas.Bool.{and_parts}
use Rattle.std.proofs.lemmas.Bool.Decides.{nat_tests}
use Rattle.std.proofs.lemmas.Int.{ints}
use Rattle.gui_base.specs.declared.props.Prop.TheVariants.{TextFont}
use Rattle.text_defs.specs.Fonts.{face}
use Rattle.widget_defs.specs.Looks.{number_of}
use Rattle.scene_defs.specs.Looks.{look_of, image_look}
use Rattle.scene_defs.specs.Row.{shown_row}
use Rattle.scene_defs.specs.Texts.{is_short}
use Rattle.gui_store.specs.Views.{scene_of}
use Rattle.gui_layout.proofs.Ranged.{fits, kept_by}
use Rattle.gui_layout.proofs.SceneBoxes.{object_found, row_found}
use Rattle.gui_layout.proofs.looks.look_in.Goals as goal

pub text_of-requires : goal.text_of-requires
text_of-requires c = (row_found (scene_of c.args.store.now) c.args.h.0 (shown_row c.args.row.now) c.requires.row).0

pub returns-clause-look : goal.returns-clause-look
returns-clause-look c =
    let row = c.args.row.now in
    let k = kept_by row c.requires.in_range in
    let value = fits row.value (omega (arith, ints, k.low, k.least)) (omega (arith, ints, k.high, k.most)) in
    let min = fits row.min k.least (omega (arith, ints, k.low, k.high, k.most)) in
    let max = fits row.max (omega (arith, ints, k.low, k.high, k.least)) k.most in
    let text : (is_utf8 c.text_of.result.now ≡ true) × (is_short c.text_of.result.now ≡ true) = and_parts _ _ c.text_of.ensures.valid in
    let short = text.1 in
    record {
      main = c.values.ensures.in_range;
      scrollbar = c.values-2.ensures.in_range;
      indicator = c.values-3.ensures.in_range;
      knob = c.values-4.ensures.in_range;
      short = grind (arith, nat_tests, short);
      ranged = record { ends = rw (min, max) k.ends; low = rw (min, value) k.low; high = rw (value, max) k.high };
      low = rw min k.least;
      high = rw max k.most;
      across = omega arith;
      down = omega arith;
    }

pub returns-clause-shows : goal.returns-clause-shows
returns-clause-shows c =
    let scene = scene_of c.args.store.now in
    let row = c.args.row.now in
    let k = kept_by row c.requires.in_range in
    let value = fits row.value (omega (arith, ints, k.low, k.least)) (omega (arith, ints, k.high, k.most)) in
    let min = fits row.min k.least (omega (arith, ints, k.low, k.high, k.most)) in
    let max = fits row.max (omega (arith, ints, k.low, k.high, k.least)) k.most in
    let image = c.image_look.ensures ∙ ap (λ is. image_look is row.image) c.images.ensures in
    (λ i. Some (record {
      kind = row.kind;
      main = λ prop. c.values.ensures.values prop i;
      scrollbar = λ prop. c.values-2.ensures.values prop i;
      indicator = λ prop. c.values-3.ensures.values prop i;
      knob = λ prop. c.values-4.ensures.values prop i;
      text = chars (c.text_of.ensures.text i);
      face = face (c.fonts.ensures i) (number_of (c.values.ensures.values TextFont i));
      value = value i;
      min = min i;
      max = max i;
      image = image i;
      scrollable = c.is_on.ensures i;
      reach = (0, 0);
      offset = (0, 0);
    }))
    ∙ sym (ap (option_map (look_of scene)) (object_found scene c.args.h.0 (shown_row row) c.requires.row))

pub returns-clause-scrollbar : goal.returns-clause-scrollbar
returns-clause-scrollbar c = c.values-2.ensures.values
