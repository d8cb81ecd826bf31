use Rattle.std.proofs.Common.{◌≡◌, ◌≤◌, ℕ, ap, refl, arith, None, ℤ, pos, ◌≤ℤ◌, w32, to_z, of_z}
use Rattle.std.specs.Int.RustNames.{unsigned_abs}
use Rattle.std.proofs.lemmas.Int.{ints}
use Rattle.widget_defs.specs.Sizes.{text_size}
use Rattle.gui_widgets.specs.Looks.{widget_of}
use Rattle.gui_widgets.proofs.Spreads.{few-reach}
use Rattle.gui_widgets.proofs.painting.caption_area.Goals as goal

-- a side of the text, as it is read
side-is : (z : ℤ) (n m most : ℕ) → z ≡ pos n → z ≤ℤ pos most → most ≤ 355255 → m ≡ unsigned_abs (to_z w32 (of_z w32 z)) → (m ≡ n) × (n ≤ most)
side-is z n m most is small few read = (omega (arith, ints), omega (arith, ints))

pub returns-clause-area : goal.returns-clause-area
returns-clause-area c =
    let size = text_size (widget_of c.args.look.now) None in
    let w = side-is _ size.0 _ 355000 (ap (λ p. p.0) c.text_size-width.ensures.size) c.text_size-width.ensures.small.0 (omega arith) c.unsigned_abs.ensures.value in
    let h = side-is _ size.1 _ 355255 (ap (λ p. p.1) c.text_size-width.ensures.size) c.text_size-width.ensures.small.1 (omega arith) c.unsigned_abs-2.ensures.value in
    rw (c.later_part.ensures, c.text_offset.ensures.value, w.0, h.0) refl

pub returns-clause-narrow : goal.returns-clause-narrow
returns-clause-narrow c =
    let size = text_size (widget_of c.args.look.now) None in
    (side-is _ size.0 _ 355000 (ap (λ p. p.0) c.text_size-width.ensures.size) c.text_size-width.ensures.small.0 (omega arith) c.unsigned_abs.ensures.value).1

pub later_part-requires : goal.later_part-requires
later_part-requires c =
    let size = text_size (widget_of c.args.look.now) None in
    let w = side-is _ size.0 _ 355000 (ap (λ p. p.0) c.text_size-width.ensures.size) c.text_size-width.ensures.small.0 (omega arith) c.unsigned_abs.ensures.value in
    let h = side-is _ size.1 _ 355255 (ap (λ p. p.1) c.text_size-width.ensures.size) c.text_size-width.ensures.small.1 (omega arith) c.unsigned_abs-2.ensures.value in
    let few = c.text_offset.ensures.small in
    record { across = few-reach _ _ c.requires.content.x1 (omega (arith, w, few)); down = few-reach _ _ c.requires.content.y1 (omega (arith, h)) }
