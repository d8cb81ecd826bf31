-- What a contract sees of a record.
use Rattle.std.specs.Prelude.{Bool, true, false}
use Rattle.gui_base.specs.Corners.{rect_of}
use Rattle.gui_pack.specs.declared.record.More.{More}
use Rattle.gui_pack.specs.declared.record.More.TheVariants as more
use Rattle.gui_pack.specs.declared.record.Paints.{Paints}
use Rattle.pack_defs.specs.Paints.{Paints as Kept, More as Rest}
use Rattle.pack_defs.specs.Paints.More.{NoMore, OneText, OneImage, OnePart, TwoParts, PartText}

abbrev pub more_in : More → Rest
more_in more.Nothing = NoMore
more_in (more.Text area text) = OneText (rect_of area) text
more_in (more.Image area image) = OneImage (rect_of area) image
more_in (more.Part area part) = OnePart (rect_of area) part
more_in (more.TwoParts area part other_area other) =
    TwoParts (rect_of area) part (rect_of other_area) other
more_in (more.PartText area part text_area text) = PartText (rect_of area) part (rect_of text_area) text

abbrev pub paints_in : Paints → Kept
paints_in paints =
    record { place = rect_of paints.place; main = paints.main; more = more_in paints.more }

-- whether an object paints its own part alone
abbrev pub is_alone : More → Bool
is_alone more.Nothing = true
is_alone rest = false
