-- The pools, and the limits that the words of the command line give them.
use Rattle.std.specs.Prelude.{◌≡◌, ℕ, List, [], ◌∷◌, map, ◌++◌, Some, None, codes}
use Rattle.std.specs.declared.option.Option.{Option}
use Rattle.gui_base.specs.Grids.{one_pixel}
use Rattle.gui_base.specs.Limits.{Bounds, with_sizes, with_block}
use Rattle.gui_base.specs.Pools.{pool_name, least, most, default}
use Rattle.gui_base.specs.declared.limits.Pool.{Pool}
use Rattle.gui_base.specs.declared.limits.Pool.TheVariants.{Objects, Styles, Entries, Uses, Texts, Fonts}
use Rattle.gui_base.specs.declared.limits.Pool.TheVariants.{Glyphs, Ink, Images, Pixels, Handlers, Groups}
use Rattle.gui_base.specs.declared.limits.Pool.TheVariants.{Anims}
use Rattle.gui_base.specs.declared.pools.TheConstants.{POOLS}
use Rattle.run_defs.specs.Language.{words_of}
use Rattle.run_defs.specs.Words.{limits_of}

-- a pool, its name, the fewest and the most slots that it may have, and how many it has where no word asks
abbrev pub PoolRow : Type 0
PoolRow = Pool × List ℕ × ℕ × ℕ × ℕ

abbrev pub row_of : Pool → PoolRow
row_of pool = (pool, pool_name pool, least pool, most pool, default pool)

abbrev pub PoolsAreThese : Type 0
PoolsAreThese =
    map row_of POOLS
    ≡ (Objects, codes "objects", 3, 4000, 256)
    ∷ (Styles, codes "styles", 0, 999, 64)
    ∷ (Entries, codes "entries", 0, 20000, 1024)
    ∷ (Uses, codes "uses", 0, 20000, 512)
    ∷ (Texts, codes "texts", 0, 20000, 1024)
    ∷ (Fonts, codes "fonts", 0, 99, 4)
    ∷ (Glyphs, codes "glyphs", 0, 5000, 512)
    ∷ (Ink, codes "ink", 0, 262144, 16384)
    ∷ (Images, codes "images", 0, 999, 16)
    ∷ (Pixels, codes "pixels", 0, 4194304, 65536)
    ∷ (Handlers, codes "handlers", 0, 4000, 256)
    ∷ (Groups, codes "groups", 0, 99, 8)
    ∷ (Anims, codes "anims", 0, 1000, 32)
    ∷ []

-- the limits that these words ask for
abbrev pub asked : List ℕ → Option Bounds
asked line = limits_of (words_of line)

-- a panel of 4 by 2 pixels with a draw buffer of one line, where no word asks for a pool
abbrev pub plain : Bounds
plain = record {
  width = 4;
  height = 2;
  lines = 1;
  block = one_pixel;
  objects = 256;
  styles = 64;
  entries = 1024;
  uses = 512;
  texts = 1024;
  fonts = 4;
  glyphs = 512;
  ink = 16384;
  images = 16;
  pixels = 65536;
  handlers = 256;
  groups = 8;
  anims = 32;
  make = None;
}

abbrev pub DefaultsAreThese : Type 0
DefaultsAreThese = asked (codes "4 2 1") ≡ Some plain

pub record MostIsTaken : Type 0 where
  pub objects : asked (codes "4 2 1 objects=4000") ≡ Some (record plain { objects = 4000 })
  pub styles : asked (codes "4 2 1 styles=999") ≡ Some (record plain { styles = 999 })
  pub entries : asked (codes "4 2 1 entries=20000") ≡ Some (record plain { entries = 20000 })
  pub uses : asked (codes "4 2 1 uses=20000") ≡ Some (record plain { uses = 20000 })
  pub texts : asked (codes "4 2 1 texts=20000") ≡ Some (record plain { texts = 20000 })
  pub fonts : asked (codes "4 2 1 fonts=99") ≡ Some (record plain { fonts = 99 })
  pub glyphs : asked (codes "4 2 1 glyphs=5000") ≡ Some (record plain { glyphs = 5000 })
  pub ink : asked (codes "4 2 1 ink=262144") ≡ Some (record plain { ink = 262144 })
  pub images : asked (codes "4 2 1 images=999") ≡ Some (record plain { images = 999 })
  pub pixels : asked (codes "4 2 1 pixels=4194304") ≡ Some (record plain { pixels = 4194304 })
  pub handlers : asked (codes "4 2 1 handlers=4000") ≡ Some (record plain { handlers = 4000 })
  pub groups : asked (codes "4 2 1 groups=99") ≡ Some (record plain { groups = 99 })
  pub anims : asked (codes "4 2 1 anims=1000") ≡ Some (record plain { anims = 1000 })
  pub made : asked (codes "4 2 1 make=1000") ≡ Some (record plain { make = Some 1000 })

-- one more than the most, and for the objects one fewer than the roots
pub record MoreIsNot : Type 0 where
  pub objects : asked (codes "4 2 1 objects=4001") ≡ None
  pub styles : asked (codes "4 2 1 styles=1000") ≡ None
  pub entries : asked (codes "4 2 1 entries=20001") ≡ None
  pub uses : asked (codes "4 2 1 uses=20001") ≡ None
  pub texts : asked (codes "4 2 1 texts=20001") ≡ None
  pub fonts : asked (codes "4 2 1 fonts=100") ≡ None
  pub glyphs : asked (codes "4 2 1 glyphs=5001") ≡ None
  pub ink : asked (codes "4 2 1 ink=262145") ≡ None
  pub images : asked (codes "4 2 1 images=1000") ≡ None
  pub pixels : asked (codes "4 2 1 pixels=4194305") ≡ None
  pub handlers : asked (codes "4 2 1 handlers=4001") ≡ None
  pub groups : asked (codes "4 2 1 groups=100") ≡ None
  pub anims : asked (codes "4 2 1 anims=1001") ≡ None
  pub made : asked (codes "4 2 1 make=1001") ≡ None
  pub no_roots : asked (codes "4 2 1 objects=2") ≡ None
  pub none_made : asked (codes "4 2 1 make=0") ≡ None

-- no slots at all, but three for the roots
abbrev pub LeastIsTaken : Type 0
LeastIsTaken =
    asked (codes "4 2 1 objects=3 styles=0 entries=0 uses=0 texts=0 fonts=0 glyphs=0 ink=0 images=0 pixels=0"
    ++ codes " handlers=0 groups=0 anims=0 make=1")
    ≡ Some (record {
      width = 4;
      height = 2;
      lines = 1;
      block = one_pixel;
      objects = 3;
      styles = 0;
      entries = 0;
      uses = 0;
      texts = 0;
      fonts = 0;
      glyphs = 0;
      ink = 0;
      images = 0;
      pixels = 0;
      handlers = 0;
      groups = 0;
      anims = 0;
      make = Some 1;
    })

-- the sizes of a panel, and the lines of its draw buffer
pub record SizesAreThese : Type 0 where
  pub largest :
      asked (codes "1024 1024 1024") ≡ Some (record plain { width = 1024; height = 1024; lines = 1024 })
  pub smallest : asked (codes "1 1 1") ≡ Some (record plain { width = 1; height = 1; lines = 1 })
  pub too_wide : asked (codes "1025 2 1") ≡ None
  pub too_high : asked (codes "4 1025 1") ≡ None
  pub no_width : asked (codes "0 2 1") ≡ None
  pub no_height : asked (codes "4 0 1") ≡ None
  pub no_lines : asked (codes "4 2 0") ≡ None
  pub too_many_lines : asked (codes "4 2 3") ≡ None

-- a panel of 8 by 4 pixels with a draw buffer of all its lines, and blocks of this size
abbrev in_blocks : ℕ → ℕ → Bounds
in_blocks w h = with_block (with_sizes 8 4 4) (record { w = w; h = h })

-- the blocks that the panel takes
pub record BlocksAreThese : Type 0 where
  pub bytes : asked (codes "8 4 4 block=4x2") ≡ Some (in_blocks 4 2)
  pub pixels : asked (codes "8 4 4 block=1x1") ≡ Some (in_blocks 1 1)
  pub beside : asked (codes "8 4 4 fonts=0 block=8x4 make=7")
      ≡ Some (record (in_blocks 8 4) { fonts = 0; make = Some 7 })
  pub largest : asked (codes "16 16 16 block=16x16")
      ≡ Some (with_block (with_sizes 16 16 16) (record { w = 16; h = 16 }))
  -- the lines, the width and the height have whole blocks
  pub lines : asked (codes "8 4 3 block=4x2") ≡ None
  pub width : asked (codes "8 4 4 block=3x2") ≡ None
  pub height : asked (codes "8 5 4 block=4x2") ≡ None
  pub no_width : asked (codes "8 4 4 block=0x1") ≡ None
  pub no_height : asked (codes "8 4 4 block=1x0") ≡ None
  pub too_wide : asked (codes "17 4 4 block=17x1") ≡ None
  pub too_high : asked (codes "8 17 17 block=1x17") ≡ None
  pub twice : asked (codes "8 4 4 block=4x2 block=4x2") ≡ None
  -- what is no size
  pub none : asked (codes "8 4 4 block") ≡ None
  pub nothing : asked (codes "8 4 4 block=") ≡ None
  pub one_number : asked (codes "8 4 4 block=4") ≡ None
  pub no_second : asked (codes "8 4 4 block=4x") ≡ None
  pub no_first : asked (codes "8 4 4 block=x2") ≡ None
  pub three : asked (codes "8 4 4 block=4x2x1") ≡ None
  pub leading_zero : asked (codes "8 4 4 block=04x2") ≡ None
  pub other_letter : asked (codes "8 4 4 block=4X2") ≡ None
