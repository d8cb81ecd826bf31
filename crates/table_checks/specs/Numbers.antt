-- The intervals of numbers, and the bounds that stand alone.
use Rattle.std.specs.Prelude.{◌≡◌, ℕ, pos, neg_ℤ}
use Rattle.gui_base.specs.declared.intervals.Count.{Count}
use Rattle.gui_base.specs.declared.intervals.Interval.{Interval}
use Rattle.gui_base.specs.declared.intervals.TheConstants as constant
use Rattle.gui_pool.specs.Texts.{chunk_count}
use Rattle.play_defs.specs.declared.TheConstants.{LONG_AFTER, REPEAT_AFTER, WHOLE}
use Rattle.scene_defs.specs.Texts.{most_text}
use Rattle.run_defs.specs.Script.{max_line, max_script}

-- from one number to another, both included
abbrev pub counted : ℕ → ℕ → Count
counted low high = record { low = low; high = high }

abbrev pub up_to : ℕ → Interval
up_to high = record { low = pos 0; high = pos high }

-- from a number below 0 to the same above
abbrev pub around_zero : ℕ → Interval
around_zero n = record { low = neg_ℤ (pos n); high = pos n }

pub record CountsAreThese : Type 0 where
  pub handle : constant.HANDLE ≡ counted 1 9999
  pub new_handle : constant.NEW_HANDLE ≡ counted 10 9999
  pub index : constant.INDEX ≡ counted 0 3999
  pub extent : constant.EXTENT ≡ counted 0 4000
  pub percent : constant.PERCENT ≡ counted 0 100
  pub grow : constant.GROW ≡ counted 0 255
  pub solved : constant.SOLVED ≡ counted 0 8191
  pub style : constant.STYLE ≡ counted 1 999
  pub font : constant.FONT ≡ counted 1 99
  pub font_height : constant.FONT_HEIGHT ≡ counted 1 64
  pub advance : constant.ADVANCE ≡ counted 0 64
  pub glyph_width : constant.GLYPH_WIDTH ≡ counted 0 32
  pub glyph_height : constant.GLYPH_HEIGHT ≡ counted 0 64
  pub image : constant.IMAGE ≡ counted 1 999
  pub image_side : constant.IMAGE_SIDE ≡ counted 1 256
  pub image_row : constant.IMAGE_ROW ≡ counted 0 255
  pub group : constant.GROUP ≡ counted 1 99
  pub device_group : constant.DEVICE_GROUP ≡ counted 0 99
  pub tick : constant.TICK ≡ counted 0 60000
  pub anim_time : constant.ANIM_TIME ≡ counted 1 60000
  pub repeat : constant.REPEAT ≡ counted 1 1000

pub record IntervalsAreThese : Type 0 where
  pub coordinate : constant.COORDINATE ≡ around_zero 4000
  pub scroll : constant.SCROLL ≡ up_to 8191
  pub opacity : constant.OPACITY ≡ up_to 255
  pub color : constant.COLOR ≡ up_to 16777215
  pub border : constant.BORDER ≡ up_to 100
  pub pad : constant.PAD ≡ up_to 1000
  pub text_space : constant.TEXT_SPACE ≡ up_to 100
  pub text_font : constant.TEXT_FONT ≡ up_to 99
  pub text_align : constant.TEXT_ALIGN ≡ up_to 2
  pub glyph_offset : constant.GLYPH_OFFSET ≡ around_zero 64
  -- the last character of Unicode, 10FFFF in hexadecimal
  pub code : constant.CODE ≡ record { low = pos 32; high = pos 1114111 }
  pub value : constant.VALUE ≡ around_zero 10000
  pub turn : constant.TURN ≡ around_zero 100

pub record BoundsAreThese : Type 0 where
  pub depth : constant.MAX_DEPTH ≡ 16
  pub text : most_text ≡ 1000
  pub line : max_line ≡ 4096
  pub script : max_script ≡ 16777216
  -- a press is a long one, and is told of again, after so many milliseconds
  pub long_press : LONG_AFTER ≡ 400
  pub repeated_press : REPEAT_AFTER ≡ 100
  pub parts_of_an_animation : WHOLE ≡ 1024
  -- a chunk holds 28 bytes of a text
  pub no_chunk : chunk_count 0 ≡ 0
  pub one_chunk : chunk_count 28 ≡ 1
  pub two_chunks : chunk_count 29 ≡ 2
  pub longest_text : chunk_count 1000 ≡ 36
