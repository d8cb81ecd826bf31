-- The name and the sizes of each pool.
use Rattle.std.specs.Prelude.{ℕ, List}
use Rattle.gui_base.specs.declared.limits.Pool.{Pool}
use Rattle.gui_base.specs.declared.limits.Pool.TheVariants.{Objects, Styles, Entries, Uses, Texts, Fonts}
use Rattle.gui_base.specs.declared.limits.Pool.TheVariants.{Glyphs, Ink, Images, Pixels, Handlers, Groups}
use Rattle.gui_base.specs.declared.limits.Pool.TheVariants.{Anims}
use Rattle.gui_base.specs.declared.pools.TheConstants as constant

-- its name, the fewest and the most slots that it may have, and how many it has where no word asks
abbrev pub PoolRow : Type 0
PoolRow = (record { now : List ℕ }) × ℕ × ℕ × ℕ

-- the row of each pool, as the table of the code has it
abbrev pub row_of : Pool → PoolRow
row_of Objects = constant.OBJECTS
row_of Styles = constant.STYLES
row_of Entries = constant.ENTRIES
row_of Uses = constant.USES
row_of Texts = constant.TEXTS
row_of Fonts = constant.FONTS
row_of Glyphs = constant.GLYPHS
row_of Ink = constant.INK
row_of Images = constant.IMAGES
row_of Pixels = constant.PIXELS
row_of Handlers = constant.HANDLERS
row_of Groups = constant.GROUPS
row_of Anims = constant.ANIMS

-- its name, as the command line and the log write it
abbrev pub pool_name : Pool → List ℕ
pool_name pool = (row_of pool).0.now

-- the fewest slots that it may have
abbrev pub least : Pool → ℕ
least pool = (row_of pool).1

-- the most slots that it may have
abbrev pub most : Pool → ℕ
most pool = (row_of pool).2

-- how many slots it has where no word asks for another number
abbrev pub default : Pool → ℕ
default pool = (row_of pool).3
