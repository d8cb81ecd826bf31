-- How many lines the made script has, and that it asks for eleven frames and for no pump.
use Rattle.std.proofs.Common.{◌≡◌, ◌∙◌, sym, ap, refl, ℕ, suc, ◌+◌, Bool, true, false, cond, List, [], ◌∷◌, ◌++◌, map, length, Ok, Err, Some, None}
use Rattle.std.proofs.lemmas.List.Concat.{flat_map-cons}
use Rattle.std.specs.Prelude.{codes, decimal, nat_lt, replicate}
use Rattle.std.specs.List.{list_any, flat_map}
use Rattle.std.specs.declared.option.Option.{Option}
use Rattle.gui_base.specs.Limits.{Bounds}
use Rattle.hex.specs.Hex.{encode_upper}
use Rattle.gui_base.specs.Names.{named}
use Rattle.scene_defs.specs.declared.Change.{Change}
use Rattle.run_defs.specs.Commands.{command_says, change_line, tree_fields, row_fields, style_fields}
use Rattle.run_defs.specs.Fields.{Made, Progress, start, past, ended, ended_by}
use Rattle.run_defs.specs.Language.{Word, is_comment, is_control, words_from, words_of}
use Rattle.run_defs.specs.declared.Command.TheVariants as ask
use Rattle.run_defs.specs.declared.names.RowName.TheVariants as row
use Rattle.run_defs.specs.declared.names.StyleName.TheVariants as style
use Rattle.run_defs.specs.declared.names.TreeName.TheVariants as tree
use Rattle.run_defs.specs.Made.{drawn, draw, number_text, pair_text, command_drawn, command_at, line_drawn, texts_drawn, made_lines, made_says}
use Rattle.run_defs.specs.Run.{Moment, after, entry, entries, Kind, FrameKind, PumpKind, kinds_asked}
use Rattle.run_defs.specs.Script.{Said, parse, line_says, words_say, max_line}
use Rattle.run_defs.specs.declared.Command.{Command}
use Rattle.run_defs.specs.declared.Line.TheVariants.{Blank, Frame, Pump, Make}
use Rattle.run_defs.specs.declared.LineFault.{LineFault}
use Rattle.run_defs.specs.declared.LineFault.TheVariants.{Long, Syntax}
use Rattle.run_defs.specs.declared.made.MadeCommand.{MadeCommand}
use Rattle.run_defs.specs.declared.made.MadeCommand.TheVariants.{New, Size, Pos, Color, Opacity, Front}
use Rattle.run_defs.specs.declared.made.MadeLine.{MadeLine}
use Rattle.run_defs.specs.declared.made.MadeLine.TheVariants.{Object, Drawn, Frame as FrameLine}

-- which outcomes a line asks for
abbrev asked : Said → List Kind
asked (Ok Blank) = []
asked (Ok Frame) = FrameKind ∷ []
asked (Ok Pump) = PumpKind ∷ []
asked (Ok (Make command)) = []
asked (Err fault) = []

-- a line of a command asks for no outcome, whatever its fields come to
ended_asks : (rest : List Word) (fault : Option LineFault) (command : Command) →
    asked (ended_by rest fault (Make command)) ≡ []
ended_asks [] None command = refl
ended_asks [] (Some fault) command = refl
ended_asks (word ∷ words) fault command = refl

-- a change is none
change_asks : (m : Made Change) → asked (ended (change_line m)) ≡ []
change_asks m = ended_asks m.at.rest m.at.fault (ask.Change m.made)

-- nor is a line that may be too long or have a control character
said_asks : (long control : Bool) (said : Said) → asked said ≡ [] →
    asked (cond long (Err Long) (cond control (Err Syntax) said)) ≡ []
said_asks true control said none = refl
said_asks false true said none = refl
said_asks false false said none = none

-- a line whose words are those of a change asks for no outcome
words_ask : (text : List ℕ) (m : Made Change) → is_comment text ≡ false →
    words_say (words_of text) ≡ ended (change_line m) → asked (parse text) ≡ []
unfolding line_says
words_ask text m plain says =
    rw plain (said_asks (nat_lt max_line (length text)) (list_any is_control text) (words_say (words_of text))
    (ap asked says ∙ change_asks m))

-- the fields of a line after its name
abbrev behind : List ℕ → Progress
behind bytes = start (words_from false bytes)

text_asks : (width height : ℕ) (command : MadeCommand) (h x : ℕ) →
    asked (parse (command_drawn width height command h x).text) ≡ []
unfolding command_says named past
text_asks width height New h x =
    words_ask (command_drawn width height New h x).text
    (tree_fields tree.New (behind (decimal h ++ codes " 3 obj"))) refl refl
text_asks width height Size h x =
    words_ask (command_drawn width height Size h x).text
    (row_fields row.Size (behind (pair_text [] h (1 + draw width x) (1 + draw height (drawn x))))) refl refl
text_asks width height Pos h x =
    words_ask (command_drawn width height Pos h x).text
    (row_fields row.Pos (behind (pair_text [] h (draw width x) (draw height (drawn x))))) refl refl
text_asks width height Color h x =
    words_ask (command_drawn width height Color h x).text
    (style_fields style.Local (behind (number_text [] h (codes " main bg_color #")
    ++ encode_upper (draw 256 x ∷ draw 256 (drawn x) ∷ draw 256 (drawn (drawn x)) ∷ [])))) refl refl
text_asks width height Opacity h x =
    words_ask (command_drawn width height Opacity h x).text
    (style_fields style.Local (behind (number_text [] h (codes " main bg_opa ") ++ decimal (draw 256 x)))) refl refl
text_asks width height Front h x =
    words_ask (command_drawn width height Front h x).text (tree_fields tree.Front (behind (decimal h))) refl refl

-- which outcomes a line of the made script asks for
abbrev kinds_in : MadeLine → List Kind
kinds_in (Object command h) = []
kinds_in Drawn = []
kinds_in FrameLine = FrameKind ∷ []

line_asks : (width height : ℕ) (line : MadeLine) (x : ℕ) →
    asked (parse (line_drawn width height line x).text) ≡ kinds_in line
unfolding line_says command_says named past
line_asks width height (Object command h) x = text_asks width height command h x
line_asks width height Drawn x = text_asks width height (command_at (draw 4 (drawn x))) (10 + draw 50 x) (drawn (drawn x))
line_asks width height FrameLine x = refl

asks_as : (now : Moment) (said : Said) → kinds_asked (entry now said) ≡ asked said
asks_as now (Ok Blank) = refl
asks_as now (Ok Frame) = refl
asks_as now (Ok Pump) = refl
asks_as now (Ok (Make command)) = refl
asks_as now (Err fault) = refl

joined : {a b c d : List Kind} → a ≡ b → c ≡ d → a ++ c ≡ b ++ d
joined p q = cc

all_ask : (width height : ℕ) (lines : List MadeLine) (x : ℕ) (now : Moment) →
    flat_map kinds_asked (entries now (map (λ line. parse line) (texts_drawn width height lines x))) ≡ flat_map kinds_in lines
all_ask width height [] x now = refl
all_ask width height (line ∷ lines) x now =
    let said : Said = parse (line_drawn width height line x).text in
    let next : ℕ = (line_drawn width height line x).x in
    let one = asks_as now said ∙ line_asks width height line x in
    let others = all_ask width height lines next (after now said) in
    flat_map-cons kinds_asked (entry now said) (entries (after now said) (map (λ line. parse line) (texts_drawn width height lines next)))
    ∙ (joined one others ∙ sym (flat_map-cons kinds_in line lines))

drawn_length : (width height : ℕ) (lines : List MadeLine) (x : ℕ) →
    length (map (λ line. parse line) (texts_drawn width height lines x)) ≡ length lines
drawn_length width height [] x = refl
drawn_length width height (line ∷ lines) x = ap suc (drawn_length width height lines (line_drawn width height line x).x)

pub made_line_count : (k : ℕ) (limits : Bounds) → length (made_says k limits) ≡ 1261
unfolding made_lines
made_line_count k limits = drawn_length limits.width limits.height made_lines k

pub made_frames : (k : ℕ) (limits : Bounds) (now : Moment) → flat_map kinds_asked (entries now (made_says k limits)) ≡ replicate 11 FrameKind
unfolding made_lines
made_frames k limits now = all_ask limits.width limits.height made_lines k now
