use Rattle.std.proofs.Common.{◌≡◌, ◌∙◌, sym, ap, Some, None}
use Rattle.std.specs.List.{position}
use Rattle.std.specs.Option.{option_map}
use Rattle.gui_font.specs.Stores.{image_in, is_image}
use Rattle.gui_font.proofs.Storing.{image_found, found_at, none_at}
use Rattle.gui_font.proofs.images.slot_of.Goals as goal

pub returns-clause-image : goal.returns-clause-image
returns-clause-image c = λ bytes.
    let at : position (is_image c.args.name) c.args.slots.now ≡ Some c.in_ok-place.place = sym c.place_of.ensures ∙ c.in_ok-place.was in
    let found = found_at c.args.slots.now c.args.name c.in_ok-place.place _ at in
    ap (option_map (image_in bytes)) (sym found.3) ∙ sym (image_found c.args.slots.now bytes c.args.name)

pub returns-in_err-place-clause-image : goal.returns-in_err-place-clause-image
returns-in_err-place-clause-image c = λ bytes.
    let at : position (is_image c.args.name) c.args.slots.now ≡ None = sym c.place_of.ensures ∙ c.in_err-place.was in
    ap (option_map (image_in bytes)) (c.from_residual.ensures ∙ sym (none_at c.args.slots.now c.args.name at)) ∙ sym (image_found c.args.slots.now bytes c.args.name)
