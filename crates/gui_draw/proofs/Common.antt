-- The names that several proofs of the crate use.
pub use Rattle.std.proofs.Common.{pos, ◌≡◌, ◌≢◌, ◌∙◌, refl, sym, ap, subst, ℕ, zero, suc, ◌+◌, ◌-◌, ◌*◌, ◌<◌, ◌≤◌, Bool, true, false, ◌&&◌, ◌||◌, if◌then◌else◌, Option, None, is_some, arith, ℤ, ◌≤ℤ◌, ◌+ℤ◌, List, length, slice_index_or, map, ◌-ℤ◌, not, inl, inr, rules, FitsSigned, w32, ◌/◌, ◌%◌, ◌^◌, eqb, ltb, Some, ◌<ℤ◌, [], ◌∷◌, ◌++◌, take, drop, slice_range, get_or, set, ◌⊎◌, w8, w64, below_more, get_or-set_other, get_or-set_same}
pub use Rattle.std.proofs.lemmas.Bool.Decides.{nat_tests}
pub use Rattle.std.proofs.lemmas.Int.{ints, to_z-of_z}
pub use Rattle.std.proofs.lemmas.List.{length-map, get_or-map}
pub use Rattle.std.specs.Int.Signed.{le_z, lt_z}
pub use mir.Val.{to_z, of_z}
pub use Rattle.gui_base.specs.Area.{Rect, has, width_of, height_of, count_between, is_empty}
pub use Rattle.gui_base.specs.Coats.{Dab, Coat, only, within, laid, plain, fill_coat, ring_coat, shrunk, is_between}
pub use Rattle.gui_base.specs.Color.{black, mix}
pub use Rattle.gui_base.specs.Corners.{rect_of}
pub use Rattle.gui_base.specs.declared.color.Rgb565.{Rgb565}
pub use Rattle.gui_color.specs.Buffer.{distance, row_area, Buffer, HoldsRow, pixel_at, with_row, row_of}
unfoldable pub use Rattle.gui_draw.specs.Counts.{sum_below, row_count, pixel_count}
pub use Rattle.gui_draw.specs.Counts.{one_if, one_if_laid}
pub use Rattle.gui_draw.specs.Drawing.{Draws}
pub use Rattle.gui_draw.specs.Parts.{IsInside, IsPart, IsOutside, HasLine, line_of}
pub use Rattle.gui_draw.specs.Rings.{IsThin, IsThick, top_band, bottom_band, left_band, right_band}
pub use Rattle.std.specs.Prelude.{negsuc}
pub use Rattle.std.specs.Str.{chars}
pub use Rattle.std.specs.Int.{int_max, int_min}
pub use Rattle.std.proofs.lemmas.Bool.{cases_Bool}
pub use Rattle.text_defs.specs.Face.{Face, Cell}
pub use Rattle.gui_font.specs.Sets.{face_in}
pub use Rattle.gui_draw.specs.Dots.{dot_of, dots_in, HasDots}
pub use Rattle.gui_draw.specs.Glyphs.{glyph_from, glyph_at, span_rect}
pub use Rattle.gui_draw.specs.Spans.{is_among, is_seen, IsSpan, IsFar}
pub use Rattle.gui_draw.specs.Runs.{cell_at, run_at, lines_at, letter_count, DrawsIn, IsPen}
unfoldable pub use Rattle.gui_color.specs.Masks.{mask_bit}
pub use Rattle.gui_color.specs.Masks.{masked}
