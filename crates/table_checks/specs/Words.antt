-- The words of the language, and what lines say.
use Rattle.std.specs.Prelude.{◌≡◌, ℕ, Bool, true, false, List, [], ◌∷◌, ◌++◌, map, codes, Ok, pos, negsuc, None}
use Rattle.gui_base.specs.Names.{Names, table}
use Rattle.gui_base.specs.declared.words.Kind.{Kind}
use Rattle.gui_base.specs.declared.words.Kind.TheVariants as kind
use Rattle.gui_base.specs.declared.words.Part.{Part}
use Rattle.gui_base.specs.declared.words.Part.TheVariants as part
use Rattle.gui_base.specs.declared.words.Align.{Align}
use Rattle.gui_base.specs.declared.words.Align.TheVariants as align
use Rattle.gui_base.specs.declared.words.Flow.{Flow}
use Rattle.gui_base.specs.declared.words.Flow.TheVariants as flow
use Rattle.gui_base.specs.declared.words.Placing.{Placing}
use Rattle.gui_base.specs.declared.words.Placing.TheVariants as placing
use Rattle.gui_base.specs.declared.words.TextAlign.{TextAlign}
use Rattle.gui_base.specs.declared.words.TextAlign.TheVariants as text_align
use Rattle.gui_base.specs.declared.words.Format.{Format}
use Rattle.gui_base.specs.declared.words.Format.TheVariants as format
use Rattle.gui_base.specs.declared.events.EventKind.{EventKind}
use Rattle.gui_base.specs.declared.events.EventKind.TheVariants as event
use Rattle.gui_base.specs.declared.events.Key.{Key}
use Rattle.gui_base.specs.declared.events.Key.TheVariants as key
use Rattle.gui_base.specs.declared.events.Var.{Var}
use Rattle.gui_base.specs.declared.events.Var.TheVariants as var
use Rattle.gui_base.specs.declared.events.Path.{Path}
use Rattle.gui_base.specs.declared.events.Path.TheVariants as path
use Rattle.gui_base.specs.declared.props.Prop.TheVariants as prop
use Rattle.gui_base.specs.declared.Handle.{Handle}
use Rattle.gui_base.specs.declared.events.TheConstants.{EVENTS, KEYS, DOWN_UP, VARS, PATHS}
use Rattle.gui_base.specs.declared.words.TheConstants.{KINDS, ON_OFF, PARTS, ALIGNS, FLOWS}
use Rattle.gui_base.specs.declared.words.TheConstants.{PLACINGS, CROSS_PLACINGS, TEXT_ALIGNS, FORMATS}
use Rattle.scene_defs.specs.declared.Change.{Change}
use Rattle.scene_defs.specs.declared.Change.TheVariants as change
use Rattle.run_defs.specs.declared.Command.TheVariants.{Change as CommandOf, Anim}
use Rattle.run_defs.specs.declared.Line.TheVariants.{Pump, Make}
use Rattle.run_defs.specs.declared.names.ActionName.{ActionName}
use Rattle.run_defs.specs.declared.names.Name.{Name}
use Rattle.run_defs.specs.declared.names.TheConstants.{COMMANDS, ACTIONS}
use Rattle.run_defs.specs.Language.{words_of}
use Rattle.run_defs.specs.Script.{Said, parse}

abbrev pub names : {A : Type 0} → Names A → List (List ℕ)
names words = map (λ t. t.0) words

abbrev pub meanings : {A : Type 0} → Names A → List A
meanings words = map (λ t. t.1) words

pub record WordsAreThese : Type 0 where
  pub kinds :
      names (table {A = Kind} KINDS) ≡ words_of (codes "obj label button image bar slider checkbox list")
  pub mean_kinds :
      meanings (table {A = Kind} KINDS)
      ≡ kind.Obj ∷ kind.Label ∷ kind.Button ∷ kind.Image ∷ kind.Bar ∷ kind.Slider ∷ kind.Checkbox ∷
      kind.List ∷ []
  pub switches :
      names (table {A = Bool} ON_OFF) ≡ words_of (codes "on off")
  pub mean_switches :
      meanings (table {A = Bool} ON_OFF)
      ≡ true ∷ false ∷ []
  pub parts :
      names (table {A = Part} PARTS) ≡ words_of (codes "main scrollbar indicator knob")
  pub mean_parts :
      meanings (table {A = Part} PARTS)
      ≡ part.Main ∷ part.Scrollbar ∷ part.Indicator ∷ part.Knob ∷ []
  pub aligns :
      names (table {A = Align} ALIGNS) ≡ words_of
      (codes "top_left top_mid top_right left_mid center right_mid bottom_left "
      ++ codes "bottom_mid bottom_right")
  pub mean_aligns :
      meanings (table {A = Align} ALIGNS)
      ≡ align.TopLeft ∷ align.TopMid ∷ align.TopRight ∷ align.LeftMid ∷ align.Center ∷
      align.RightMid ∷ align.BottomLeft ∷ align.BottomMid ∷ align.BottomRight ∷ []
  pub flows :
      names (table {A = Flow} FLOWS) ≡ words_of
      (codes "none row column row_wrap column_wrap row_reverse column_reverse "
      ++ codes "row_wrap_reverse column_wrap_reverse")
  pub mean_flows :
      meanings (table {A = Flow} FLOWS)
      ≡ flow.Free ∷ flow.Row ∷ flow.Column ∷ flow.RowWrap ∷ flow.ColumnWrap ∷ flow.RowReverse ∷
      flow.ColumnReverse ∷ flow.RowWrapReverse ∷ flow.ColumnWrapReverse ∷ []
  pub placings :
      names (table {A = Placing} PLACINGS)
      ≡ words_of (codes "start end center space_evenly space_around space_between")
  pub mean_placings :
      meanings (table {A = Placing} PLACINGS)
      ≡ placing.Start ∷ placing.End ∷ placing.Center ∷ placing.SpaceEvenly ∷ placing.SpaceAround ∷
      placing.SpaceBetween ∷ []
  pub cross_placings :
      names (table {A = Placing} CROSS_PLACINGS) ≡ words_of (codes "start end center")
  pub mean_cross_placings :
      meanings (table {A = Placing} CROSS_PLACINGS)
      ≡ placing.Start ∷ placing.End ∷ placing.Center ∷ []
  pub text_aligns :
      names (table {A = TextAlign} TEXT_ALIGNS) ≡ words_of (codes "left center right")
  pub mean_text_aligns :
      meanings (table {A = TextAlign} TEXT_ALIGNS)
      ≡ text_align.Left ∷ text_align.Center ∷ text_align.Right ∷ []
  pub formats :
      names (table {A = Format} FORMATS) ≡ words_of (codes "565 565a alpha")
  pub mean_formats :
      meanings (table {A = Format} FORMATS)
      ≡ format.Rgb565 ∷ format.Rgb565Alpha ∷ format.Alpha ∷ []
  pub events :
      names (table {A = EventKind} EVENTS) ≡ words_of
      (codes "pressed pressing long_pressed long_pressed_repeat released "
      ++ codes "short_clicked clicked value_changed focused defocused key")
  pub mean_events :
      meanings (table {A = EventKind} EVENTS)
      ≡ event.Pressed ∷ event.Pressing ∷ event.LongPressed ∷ event.LongPressedRepeat ∷
      event.Released ∷ event.ShortClicked ∷ event.Clicked ∷ event.ValueChanged ∷ event.Focused ∷
      event.Defocused ∷ event.Key ∷ []
  pub keys :
      names (table {A = Key} KEYS) ≡ words_of (codes "up down left right enter next prev")
  pub mean_keys :
      meanings (table {A = Key} KEYS)
      ≡ key.Up ∷ key.Down ∷ key.Left ∷ key.Right ∷ key.Enter ∷ key.Next ∷ key.Prev ∷ []
  pub pushes :
      names (table {A = Bool} DOWN_UP) ≡ words_of (codes "down up")
  pub mean_pushes :
      meanings (table {A = Bool} DOWN_UP)
      ≡ true ∷ false ∷ []
  pub vars :
      names (table {A = Var} VARS) ≡ words_of (codes "x y width height value")
  pub mean_vars :
      meanings (table {A = Var} VARS)
      ≡ var.X ∷ var.Y ∷ var.Width ∷ var.Height ∷ var.Value ∷ []
  pub paths :
      names (table {A = Path} PATHS) ≡ words_of (codes "linear step ease_in ease_out ease_in_out")
  pub mean_paths :
      meanings (table {A = Path} PATHS)
      ≡ path.Linear ∷ path.Step ∷ path.EaseIn ∷ path.EaseOut ∷ path.EaseInOut ∷ []

-- Their names alone. What each command means is told by the lines below, by the logs of runs that were worked
-- out elsewhere, which tell what each action means too, or by what the lines of a font's text say.
pub record CommandsAreThese : Type 0 where
  pub commands :
      names (table {A = Name} COMMANDS)
      ≡ words_of
      (codes "frame pump screen new delete parent index front back load flag state pos align size "
      ++ codes "flex places grow scroll text value range source style set unset use unuse local "
      ++ codes "unlocal font glyph endfont image row on off send group join leave focus keypad "
      ++ codes "encoder touch release key turn push tick anim stop")
  pub actions :
      names (table {A = ActionName} ACTIONS)
      ≡ words_of (codes "say delete load front flag state value local")

abbrev pub asks : Change → Said
asks change = Ok (Make (CommandOf change))

abbrev pub h : ℕ → Handle
h n = record { 0 = n }

abbrev pub LinesAreThese : Type 0
LinesAreThese =
    map (λ line. parse line) (
    codes "pump"
    ∷ codes "screen 10"
    ∷ codes "new 9999 1 list"
    ∷ codes "delete 9999"
    ∷ codes "parent 10 1"
    ∷ codes "index 10 3999"
    ∷ codes "front 10"
    ∷ codes "back 11"
    ∷ codes "load 3"
    ∷ codes "style 999"
    ∷ codes "set 1 bg_opa 200"
    ∷ codes "unset 1 text_line_space"
    ∷ codes "local 10 scrollbar:disabled pad_top 1000"
    ∷ codes "unlocal 10 indicator:user1 img_opa"
    ∷ codes "endfont 1"
    ∷ codes "places 10 end center space_between"
    ∷ codes "grow 11 255"
    ∷ codes "source 12 999"
    ∷ codes "use 13 7 main"
    ∷ codes "unuse 13 8 knob:pressed"
    ∷ codes "image 5 565a 2 256"
    ∷ codes "row 5 1 00fF"
    ∷ codes "anim 10 value -5 4000 1 60000 250 forever ease_in_out"
    ∷ [])
    ≡ Ok Pump
    ∷ asks (change.Screen (h 10))
    ∷ asks (change.New (h 9999) (h 1) kind.List)
    ∷ asks (change.Delete (h 9999))
    ∷ asks (change.Parent (h 10) (h 1))
    ∷ asks (change.Index (h 10) 3999)
    ∷ asks (change.Front (h 10))
    ∷ asks (change.Back (h 11))
    ∷ asks (change.Load (h 3))
    ∷ asks (change.Style 999)
    ∷ asks (change.Set 1 prop.BgOpa (pos 200))
    ∷ asks (change.Unset 1 prop.TextLineSpace)
    ∷ asks (change.Local (h 10) (record { part = part.Scrollbar; states = 128 }) prop.PadTop (pos 1000))
    ∷ asks (change.Unlocal (h 10) (record { part = part.Indicator; states = 4096 }) prop.ImgOpa)
    ∷ asks (change.EndFont 1)
    ∷ asks (change.Places (h 10) placing.End placing.Center placing.SpaceBetween)
    ∷ asks (change.Grow (h 11) 255)
    ∷ asks (change.Source (h 12) 999)
    ∷ asks (change.Use (h 13) 7 (record { part = part.Main; states = 0 }))
    ∷ asks (change.Unuse (h 13) 8 (record { part = part.Knob; states = 32 }))
    ∷ asks (change.Image 5 format.Rgb565Alpha 2 256)
    ∷ asks (change.ImageRow 5 1 (0 ∷ 255 ∷ []))
    ∷ Ok (Make (Anim (record {
      h = h 10;
      var = var.Value;
      start = negsuc 4;
      end = pos 4000;
      time = 1;
      delay = 60000;
      playback = 250;
      repeat = None;
      path = path.EaseInOut;
    })))
    ∷ []
