-- What a new object of each kind has, and what each kind sets by itself.
use Rattle.std.specs.Prelude.{◌≡◌, ℕ, List, [], ◌∷◌, ◌++◌, map, codes, pos, Some, None, Ok}
use Rattle.std.specs.declared.option.Option.{Option}
use Rattle.gui_base.specs.declared.words.Align.TheVariants.{TopLeft}
use Rattle.gui_base.specs.declared.words.Kind.{Kind}
use Rattle.gui_base.specs.declared.words.Kind.TheVariants as kind
use Rattle.gui_base.specs.declared.words.Placing.TheVariants.{Start}
use Rattle.gui_base.specs.declared.words.Part.TheVariants.{Scrollbar}
use Rattle.style_defs.specs.Kinds.{KindRow, kind_rows, part_rows}
use Rattle.widget_defs.specs.declared.kinds.KindFacts.{KindFacts}
use Rattle.widget_defs.specs.Kinds.{facts}
use Rattle.scene_defs.specs.Row.{new_row, no_name}
use Rattle.scene_defs.specs.declared.Change.TheVariants as change
use Rattle.scene_defs.specs.declared.Row.{Row}
use Rattle.run_defs.specs.declared.Command.TheVariants.{Change as CommandOf}
use Rattle.run_defs.specs.declared.Line.TheVariants.{Make}
use Rattle.run_defs.specs.Script.{Said, parse}

-- a new object: its flags, wanted sizes and flow are its kind's, and all else is the same for each
abbrev pub fresh : Kind → KindFacts → Row
fresh kind row = record {
  kind = kind;
  flags = row.flags;
  states = 0;
  x = pos 0;
  y = pos 0;
  align = TopLeft;
  width = row.width;
  height = row.height;
  flow = row.flow;
  places = (Start, Start, Start);
  grow = 0;
  scroll_x = pos 0;
  scroll_y = pos 0;
  value = pos 0;
  min = pos 0;
  max = pos 100;
  image = None;
  text = no_name;
}

abbrev pub NewRowsAreThese : Type 0
NewRowsAreThese = (kind : Kind) → new_row kind ≡ fresh kind (facts kind)

-- what a line sets locally
abbrev pub set_by : Said → Option KindRow
set_by (Ok (Make (CommandOf (change.Local h selector prop value)))) =
    Some (selector.part, selector.states, prop, value)
set_by said = None

-- what lines set, of which each begins with a part
abbrev pub set_locally : List (List ℕ) → List (Option KindRow)
set_locally lines = map (λ line. set_by (parse (codes "local 10 " ++ line))) lines

abbrev pub set_by_kind : Kind → List (Option KindRow)
set_by_kind kind = map (λ row. Some row) (kind_rows kind)

-- A kind sets by itself what these lines would set for one object, and no more.
pub record KindsSetThese : Type 0 where
  pub screen :
      set_by_kind kind.Screen
      ≡ set_locally (
      codes "main bg_opa 255"
      ∷ [])
  pub layer : kind_rows kind.Layer ≡ []
  pub object : kind_rows kind.Obj ≡ []
  pub label : kind_rows kind.Label ≡ []
  pub button :
      set_by_kind kind.Button
      ≡ set_locally (
      codes "main bg_opa 255"
      ∷ codes "main bg_color #2196F3"
      ∷ codes "main:pressed bg_color #1976D2"
      ∷ codes "main pad_top 4"
      ∷ codes "main pad_bottom 4"
      ∷ codes "main pad_left 4"
      ∷ codes "main pad_right 4"
      ∷ [])
  pub image : kind_rows kind.Image ≡ []
  pub bar :
      set_by_kind kind.Bar
      ≡ set_locally (
      codes "main bg_opa 255"
      ∷ codes "main bg_color #E0E0E0"
      ∷ codes "indicator bg_opa 255"
      ∷ codes "indicator bg_color #2196F3"
      ∷ [])
  pub slider :
      set_by_kind kind.Slider
      ≡ set_locally (
      codes "main bg_opa 255"
      ∷ codes "main bg_color #E0E0E0"
      ∷ codes "indicator bg_opa 255"
      ∷ codes "indicator bg_color #2196F3"
      ∷ codes "knob bg_opa 255"
      ∷ codes "knob bg_color #1976D2"
      ∷ [])
  pub checkbox :
      set_by_kind kind.Checkbox
      ≡ set_locally (
      codes "main pad_column 4"
      ∷ codes "indicator border_width 1"
      ∷ codes "indicator:checked bg_opa 255"
      ∷ codes "indicator:checked bg_color #2196F3"
      ∷ [])
  pub list :
      set_by_kind kind.List
      ≡ set_locally (
      codes "main bg_opa 255"
      ∷ codes "main border_width 1"
      ∷ codes "main pad_top 2"
      ∷ codes "main pad_bottom 2"
      ∷ codes "main pad_left 2"
      ∷ codes "main pad_right 2"
      ∷ codes "main pad_row 2"
      ∷ [])
  -- all have the same bars
  pub bars :
      (kind : Kind) → map (λ row. Some row) (part_rows kind Scrollbar)
      ≡ set_locally (
      codes "scrollbar bg_opa 255"
      ∷ codes "scrollbar bg_color #9E9E9E"
      ∷ [])
