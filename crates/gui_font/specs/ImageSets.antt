-- What a contract sees of `Images`, what its calls answer and what they leave.
use Rattle.std.specs.Prelude.{ℕ, ◌-◌, List, [], None}
use Rattle.gui_base.specs.Refusing.{first_of, result_of}
use Rattle.gui_base.specs.declared.limits.Pool.TheVariants.{Images as ImageSlots, Pixels}
use Rattle.gui_base.specs.declared.words.Format.{Format}
use Rattle.text_defs.specs.Images as images
use Rattle.text_defs.specs.Images.{Image, begin_tests, row_tests, image_bytes}
use Rattle.gui_font.specs.Sets.{Answer, full_or}

-- the images, and how many more images and bytes fit
pub record ImageSet : Type 0 where
  pub images : List Image
  pub spare_images : ℕ
  pub spare_pixels : ℕ

-- no image yet
abbrev pub no_images : ℕ → ℕ → ImageSet
no_images count bytes = record { images = []; spare_images = count; spare_pixels = bytes }

abbrev pub begin_answer : ImageSet → ℕ → Format → ℕ → ℕ → Answer
begin_answer set name format w h =
    result_of (first_of (begin_tests set.images name)
    (full_or set.spare_images 1 ImageSlots (full_or set.spare_pixels (image_bytes format w h) Pixels None)))

-- with an image more, which has no row yet
abbrev pub with_image : ImageSet → ℕ → Format → ℕ → ℕ → ImageSet
with_image set name format w h =
    record set {
      images = images.with_image set.images name format w h;
      spare_images = set.spare_images - 1;
      spare_pixels = set.spare_pixels - image_bytes format w h;
    }

abbrev pub row_answer : ImageSet → ℕ → ℕ → List ℕ → Answer
row_answer set name y bytes = result_of (first_of (row_tests set.images name y bytes) None)

-- with a row more
abbrev pub with_row : ImageSet → ℕ → List ℕ → ImageSet
with_row set name bytes = record set { images = images.with_row set.images name bytes }
