-- The value of a property goes by the path of its object.
use Rattle.gui_store.proofs.Common.{if◌then◌else◌, ◌≡◌, ◌∙◌, sym, ap, ℕ, List, [], Option, Some, None, Parts, AreKept, scene_in, Object, Row, is_at, row_in, row_shown, object_in, unwrap_or, option_or, value, styled_of, map-path_by, map, ℤ}
use Rattle.gui_base.specs.declared.props.Prop.{Prop}
use Rattle.gui_tree.proofs.Paths.{goes_up}
use Rattle.gui_base.specs.Props.{inherits}
use Rattle.gui_store.specs.Values.{won_at, inherited_along, given_at}
use Rattle.gui_store.proofs.Kept.{once, read-on, read-at}
use Rattle.style_defs.specs.Kinds.{default_in}
use Rattle.style_defs.specs.Value.{value_on}
use Rattle.gui_base.specs.declared.words.Part.{Part}

-- the value of a property is what is given, or else the default for the row that is read
pub value-is : (p : Parts) (k : AreKept p) (h : ℕ) (part : Part) (prop : Prop) (row : Row) (o : Option ℤ) → Some row ≡ row_shown p.rows h →
    o ≡ given_at p h part prop → unwrap_or o (default_in row.kind part row.states prop) ≡ value (scene_in p) h part prop
value-is p k h part prop row o read given =
    let f = p.tree.forest in
    let u = goes_up f h (once p k) (read-on p k h row read) in
    let shown = λ (objects : List Object). value_on p.styles.book.styles (map (styled_of p.styles.book) objects) part prop in
    let default = λ (row : Row). default_in row.kind part row.states prop in
    ap (λ (row : Row). unwrap_or o (default row)) (read-at p k h row read)
    ∙ ap (λ (o : Option ℤ). unwrap_or o (default (row_in p.rows h))) (given ∙ ap (λ (hs : List ℕ). option_or (won_at p h part prop) (if inherits prop then inherited_along p hs prop else None)) u.path)
    ∙ ap shown (sym (ap (map (object_in p.rows)) u.path) ∙ map-path_by (object_in p.rows) (is_at h) [] f)
