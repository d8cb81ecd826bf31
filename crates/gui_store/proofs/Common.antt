-- The names that several proofs of the crate use.
pub use Rattle.std.proofs.Common.{rules, Ok, ◌≡◌, ◌<◌, ◌≤◌, ◌∙◌, sym, ap, subst, ℕ, zero, suc, ◌+◌, ◌-◌, Bool, true, false, length, slice_set, List, Option, Some, None, option_map, refl, arith, length-set, nat_lt, nat_eq, eqb-true, ◌++◌, [], ◌∷◌, cond, eqb, inl, inr, ◌⊎◌, unwrap_or, is_some, Err, slice_index_or, IsSome, SFits, w32, not}
pub use Rattle.std.proofs.lemmas.Bool.Decides.{nat_tests}
pub use Rattle.std.proofs.lemmas.List.{get_or-set_same, get_or-set_other, get_or_past, length-append, ext_get_or, set_past}
pub use Rattle.std.proofs.lemmas.Result.{err_from_is_err_and, on_ok_weaker, on_err_weaker}
pub use Rattle.std.specs.Option.{option_copied, option_or}
pub use Rattle.std.specs.Prelude.{if◌then◌else◌, OnOk, OnErr, IsErrAnd, IfSome, map, ℤ}
pub use Rattle.gui_base.proofs.Forests.{map-and_then, map-size, map-cut_by, map-tree_by, map-parent_by, map-added_by, map-moved_by, map-moved_last_by, map-has_by, map-agree, map-set, map-path_by}
pub use Rattle.gui_base.proofs.Visits.{count-has, count-off, IsDistinct, distinct_handles}
pub use Rattle.gui_base.specs.Forest.{Forest, Empty, Tree, and_then, leaf, put_at, has, size, count, preorder, cut, cut_by, tree_at, parent_of, with_children_by, all_by, map_forest, with_row_by, parent_by, path_by, path_of, StandsOnce}
pub use Rattle.gui_base.specs.Limits.{Bounds}
pub use Rattle.gui_base.specs.Refusing.{Test, first_of, result_of, root_tests, child_tests, removal_tests, move_tests, parent_tests, Place, refusal_of}
pub use Rattle.gui_base.specs.declared.Handle.{Handle}
pub use Rattle.gui_base.specs.declared.intervals.TheConstants.{HANDLE, NEW_HANDLE}
pub use Rattle.gui_base.specs.declared.limits.Pool.TheVariants.{Objects, Styles as StyleSlots, Entries, Uses, Texts, Fonts as FontSlots, Glyphs, Ink, Images as ImageSlots, Pixels}
pub use Rattle.gui_font.specs.ImageSets.{ImageSet, no_images}
pub use Rattle.gui_font.specs.Sets.{FontSet, no_fonts}
pub use Rattle.scene_defs.specs.Assets.{AssetChange}
pub use Rattle.scene_defs.specs.Deeds.{asset_change_of, is_in_range, row_after, row_set, setter_of, styling_of}
pub use Rattle.gui_store.specs.Assets.{AreSlots as AreAssetSlots, IsBuilt, IsAnswered as AreAnswered, AreBuilt, full_for as full_for_assets}
pub use Rattle.gui_base.specs.declared.pools.TheConstants.{POOLS}
pub use Rattle.gui_base.specs.declared.refusal.Refusal.{Refusal}
pub use Rattle.gui_base.specs.declared.refusal.Refusal.TheVariants.{Full, Unknown, Kind as WrongKind}
pub use Rattle.gui_pool.specs.Table.{Table, value_at, value_inserted, value_replaced, value_removed}
pub use Rattle.gui_tree.specs.Handles.{numbers, as_handle}
pub use Rattle.gui_tree.specs.Trees.{Answer, full_answer, Trees, opened, add_root_answer, add_answer, remove_answer, move_answer, set_parent_answer, with_root, with_child, at_index, below, moved_below, without as without_tree, without}
pub use Rattle.scene_defs.proofs.Changes.{tests-fail, room_in_range, none_short, one_short, first-then, first-some, sets_row_alone}
pub use Rattle.scene_defs.proofs.Totals.{total, total-cut, total-parts, one, one_at, chunks, chunks-total, size-total, count-total}
pub use Rattle.scene_defs.proofs.Validity.{added_sum, removed_sum, first_is_valid, set_sums, after_leaves, after_valid, slots_add_up}
pub use Rattle.scene_defs.specs.Edits.{is_screen_kind, below as all_below, tree_below, parent_object, over_row, at_index_below, last_below, book_without}
pub use Rattle.scene_defs.specs.Change.{answer_in_range, answer_of, tests, first_short, scene_after, scene_by, need_of, freed_by, object_tests, need_by, freed_by_styling}
pub use Rattle.scene_defs.specs.Row.{new_row, shown_row}
pub use Rattle.scene_defs.specs.Scene.{is_there, Object, Scene, is_at, handles_of, spare, new_object, first_scene, object_at, object_by, row_at, value, styled_of}
pub use Rattle.scene_defs.specs.Valid.{IsValid, IsChange, is_root_at, IsRow, in_order}
pub use Rattle.scene_defs.specs.declared.Change.{Change}
pub use Rattle.gui_store.specs.Parts.{Parts, scene_in, AreKept}
pub use Rattle.gui_store.specs.Styling.{AreSlots, IsStyled, IsAnswered, full_for, named_by, IsRestyled}
pub use Rattle.gui_style.specs.Styles.{Styles, all_forgotten, forgotten}
pub use Rattle.scene_defs.specs.Styling.{Styling, of_entries, one_unless}
pub use Rattle.style_defs.specs.Book.{Book, entries_in, uses_in, locals_of, uses_of, no_lists, empty_book}
pub use Rattle.gui_store.specs.Removed.{removed_after}
pub use Rattle.gui_store.specs.RowSets.{KeptRow, RowSet, chunks_at, chunks_of}
pub use Rattle.gui_store.specs.Rows.{new_kept, kept_in, row_in, row_of, row_shown, object_of, object_in, HaveRows, rows_without, set_without}
pub use Rattle.gui_store.specs.Views.{parts_of, scene_of}
pub use Rattle.scene_defs.specs.declared.Row.{Row}
