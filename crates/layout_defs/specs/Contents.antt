-- Laws of what is as wide as its content.
use Rattle.std.specs.Prelude.{◌≡◌, ◌≤◌, ◌<◌, ℕ, Bool, true, false, List, pos, ◌+ℤ◌}
use Rattle.std.specs.List.{All}
use Rattle.gui_base.specs.Area.{nat_of}
use Rattle.gui_base.specs.declared.words.Length.{Length}
use Rattle.gui_base.specs.declared.words.Length.TheVariants.{Pixels, Percent, Content}
use Rattle.layout_defs.specs.declared.Course.TheVariants.{Free, Across}
use Rattle.layout_defs.specs.declared.Side.TheVariants.{Near}
use Rattle.layout_defs.specs.Boxes.{Box, course_of, wraps, inner}
use Rattle.layout_defs.specs.Flex.{spanned}
use Rattle.layout_defs.specs.Solving.{Wide, wide_box, taking_part, aligned_at, natural_width, kids_width, width_in}
use Rattle.layout_defs.specs.Solving.{row_widths}

abbrev pub is_percent : Length → Bool
is_percent (Pixels n) = false
is_percent (Percent n) = true
is_percent Content = false

-- a child has the natural width that some children give it, and is not so many percent of its parent wide
pub record HasItsWidth (kid : Wide) : Type 0 where
  pub kids : List Wide
  pub natural : kid.natural ≡ natural_width kid.box kids
  pub size : is_percent kid.box.across.size ≡ false

-- an object is as wide as its content, and less wide than the greatest size
pub record WrapsContent (box : Box) (kids : List Wide) : Type 0 where
  pub size : box.across.size ≡ Content
  pub small : natural_width box kids < 8191

-- how wide its content area then is
abbrev pub natural_room : Box → List Wide → ℕ
natural_room box kids = inner box.across (natural_width box kids)

-- where a child ends in a content area so wide, without flex
abbrev pub ends_at : ℕ → Wide → ℕ
ends_at room kid =
    let width = width_in room kid in
    nat_of (aligned_at kid.box.across room width +ℤ pos width)

-- without flex each child that stands by its near side ends within it
abbrev pub ContentHoldsChildren : Type 0
ContentHoldsChildren =
    (box : Box) (kids : List Wide) → course_of box.flow ≡ Free → WrapsContent box kids →
    All (λ (kid : Wide). HasItsWidth kid → kid.box.across.side ≡ Near →
    ends_at (natural_room box kids) kid ≤ natural_room box kids) (taking_part wide_box kids)

-- the children of a row, with the gaps between them, fill it, where none grows and what it shows is not wider
abbrev pub ChildrenFillRow : Type 0
ChildrenFillRow =
    (box : Box) (kids : List Wide) → course_of box.flow ≡ Across → wraps box.flow ≡ false → WrapsContent box kids →
    All (λ (kid : Wide). HasItsWidth kid) (taking_part wide_box kids) →
    All (λ (kid : Wide). kid.box.grow ≡ 0) (taking_part wide_box kids) →
    box.own_width ≤ kids_width Across box (taking_part wide_box kids) →
    spanned box.across.gap (row_widths box (natural_room box kids) kids) ≡ natural_room box kids
