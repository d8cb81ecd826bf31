-- What styles give the objects of a store.
use Rattle.std.specs.Prelude.{ℕ, ℤ, if◌then◌else◌, List, map, None}
use Rattle.std.specs.declared.option.Option.{Option}
use Rattle.std.specs.Option.{option_or}
use Rattle.gui_base.specs.declared.props.Prop.{Prop}
use Rattle.gui_base.specs.declared.words.Part.{Part}
use Rattle.gui_base.specs.Forest.{path_of}
use Rattle.gui_base.specs.Props.{inherits}
use Rattle.style_defs.specs.Value.{won, inherited}
use Rattle.scene_defs.specs.Scene.{styled_of}
use Rattle.gui_store.specs.Parts.{Parts}
use Rattle.gui_store.specs.Rows.{object_in}

module _ (p : Parts) where
  -- what wins for a part of h
  abbrev pub won_at : ℕ → Part → Prop → Option ℤ
  won_at h part prop = won p.styles.book.styles (styled_of p.styles.book (object_in p.rows h)) part prop

  -- what wins for the main part of the first of these, else of the next, and so on
  abbrev pub inherited_along : List ℕ → Prop → Option ℤ
  inherited_along hs prop =
      inherited p.styles.book.styles (map (styled_of p.styles.book) (map (object_in p.rows) hs)) prop

  -- what wins for the main part of h, else of the nearest above
  abbrev pub inherited_at : ℕ → Prop → Option ℤ
  inherited_at h prop = inherited_along (path_of p.tree.forest h) prop

  -- what wins for a part of h, or is inherited
  abbrev pub given_at : ℕ → Part → Prop → Option ℤ
  given_at h part prop = option_or (won_at h part prop) (if inherits prop then inherited_at h prop else None)
