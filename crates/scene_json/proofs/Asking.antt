-- All lines of a scene ask for changes.
use Rattle.std.proofs.Common.{◌≡◌, ◌∙◌, refl, sym, ap, ap₂, subst, ℕ, zero, suc, true, false, Bool, List, [], ◌∷◌, ◌++◌, append_assoc, map, arith}
use Rattle.std.proofs.lemmas.List.{map-append}
use Rattle.std.proofs.lemmas.Grind.{flat_map-append}
use Rattle.std.proofs.lemmas.List.Elements.{All-append, All-cons, All-nil}
use Rattle.std.specs.Prelude.{ℤ, Some, None, Err, codes, if◌then◌else◌, IfOk, nat_lt, length}
use Rattle.std.specs.Fmt.{signed_decimal}
use Rattle.std.specs.List.{list_all, list_any}
use Rattle.std.specs.Ordering.{int_eq}
use Rattle.std.specs.Str.{is_utf8}
use Rattle.std.specs.declared.option.Option.{Option}
use Rattle.gui_base.specs.Names.{named}
use Rattle.gui_base.specs.declared.props.Prop.{Prop}
use Rattle.run_defs.specs.Commands.{command_says}
use Rattle.run_defs.specs.Fields.{ended_by}
use Rattle.run_defs.specs.Language.{Word, words_of, is_control}
use Rattle.run_defs.specs.Script.{Said, parse, line_says, max_line, says, Whole}
use Rattle.run_defs.specs.declared.Command.TheVariants as ask
use Rattle.run_defs.specs.declared.Line.TheVariants.{Make}
use Rattle.run_defs.specs.declared.LineFault.{LineFault}
use Rattle.run_defs.specs.declared.LineFault.TheVariants.{Long, Syntax}
use Rattle.run_defs.specs.Laws.{IsInRange}
use Rattle.run_defs.proofs.Ranges.{says_in_range}
use Rattle.scene_defs.specs.Deeds.{is_in_range}
use Rattle.scene_defs.specs.Valid.{IsChange}
use Rattle.scene_defs.specs.declared.Change.{Change}
use Rattle.serde_json.specs.Data.{Data, Items, no_items, item, Members, no_members, member}
use Rattle.serde_json.specs.Find.{get, as_str, as_array, as_object}
use Rattle.serde_json.specs.Read.{read}
use Rattle.line_texts.specs.LineTexts.{spaced, line_text, ended_lines}
use Rattle.line_texts.specs.Quoting.{quoted, is_in_text}
use Rattle.line_texts.specs.Commands.{asks}
use Rattle.scene_json.proofs.Scripts.{says_asked}
use Rattle.scene_json.specs.Asked.{is_scene_change, Asks, LinesAsk}
use Rattle.scene_json.specs.Scenes.{two, put_two, put_pair, size_line, pos_line, put_flag, flag_lines, has_text, put_text, text_line, put_value, put_prop, prop_lines, local_lines, own_lines, node_itself, head, in_nodes, node_of, node_lines, first_nodes, has_one, scene, scene_in, text_or}
use Rattle.scene_json.specs.Words.{extent_word, number_word, string_word, value_word, prop_named, is_selector}
use Rattle.scene_json.specs.Writing.{Writing, ◌>>=◌, says_some, put, put_line, put_id, each, each_member, in_list, in_object, if_there, nothing_written}

-- Lines.

-- what is said asks for a change of a scene, where it is not refused
abbrev pub Fits : Said → Type 0
Fits said = says_some said ≡ true → (change : Change) × ((said ≡ asks change) × (is_scene_change change ≡ true))

ended_fits : (words : List Word) (fault : Option LineFault) (change : Change) → is_scene_change change ≡ true → Fits (ended_by words fault (Make (ask.Change change)))
ended_fits [] None change h e = (change, (refl, h))
ended_fits [] (Some fault) change h e = cc
ended_fits (word ∷ words) fault change h e = cc

or_refused : (b : Bool) (fault : LineFault) (said : Said) → Fits said → Fits (if b then Err fault else said)
or_refused true fault said h e = cc
or_refused false fault said h e = h e

pub new_fits : (words : List Word) → Fits (command_says (codes "new") words)
unfolding command_says named
new_fits words = ended_fits _ _ _ refl

pub size_fits : (words : List Word) → Fits (command_says (codes "size") words)
unfolding command_says named
size_fits words = ended_fits _ _ _ refl

pub pos_fits : (words : List Word) → Fits (command_says (codes "pos") words)
unfolding command_says named
pos_fits words = ended_fits _ _ _ refl

pub flag_fits : (words : List Word) → Fits (command_says (codes "flag") words)
unfolding command_says named
flag_fits words = ended_fits _ _ _ refl

pub text_fits : (words : List Word) → Fits (command_says (codes "text") words)
unfolding command_says named
text_fits words = ended_fits _ _ _ refl

pub local_fits : (words : List Word) → Fits (command_says (codes "local") words)
unfolding command_says named
local_fits words = ended_fits _ _ _ refl

new_asked : (rest : List ℕ) → Fits (parse (codes "new" ++ 32 ∷ rest))
unfolding line_says
new_asked rest =
    let line = codes "new" ++ 32 ∷ rest in
    or_refused (nat_lt max_line (length line)) Long (line_says line)
    (or_refused (list_any is_control line) Syntax (command_says (codes "new") (words_of rest)) (new_fits (words_of rest)))

size_asked : (rest : List ℕ) → Fits (parse (codes "size" ++ 32 ∷ rest))
unfolding line_says
size_asked rest =
    let line = codes "size" ++ 32 ∷ rest in
    or_refused (nat_lt max_line (length line)) Long (line_says line)
    (or_refused (list_any is_control line) Syntax (command_says (codes "size") (words_of rest)) (size_fits (words_of rest)))

pos_asked : (rest : List ℕ) → Fits (parse (codes "pos" ++ 32 ∷ rest))
unfolding line_says
pos_asked rest =
    let line = codes "pos" ++ 32 ∷ rest in
    or_refused (nat_lt max_line (length line)) Long (line_says line)
    (or_refused (list_any is_control line) Syntax (command_says (codes "pos") (words_of rest)) (pos_fits (words_of rest)))

flag_asked : (rest : List ℕ) → Fits (parse (codes "flag" ++ 32 ∷ rest))
unfolding line_says
flag_asked rest =
    let line = codes "flag" ++ 32 ∷ rest in
    or_refused (nat_lt max_line (length line)) Long (line_says line)
    (or_refused (list_any is_control line) Syntax (command_says (codes "flag") (words_of rest)) (flag_fits (words_of rest)))

text_asked : (rest : List ℕ) → Fits (parse (codes "text" ++ 32 ∷ rest))
unfolding line_says
text_asked rest =
    let line = codes "text" ++ 32 ∷ rest in
    or_refused (nat_lt max_line (length line)) Long (line_says line)
    (or_refused (list_any is_control line) Syntax (command_says (codes "text") (words_of rest)) (text_fits (words_of rest)))

local_asked : (rest : List ℕ) → Fits (parse (codes "local" ++ 32 ∷ rest))
unfolding line_says
local_asked rest =
    let line = codes "local" ++ 32 ∷ rest in
    or_refused (nat_lt max_line (length line)) Long (line_says line)
    (or_refused (list_any is_control line) Syntax (command_says (codes "local") (words_of rest)) (local_fits (words_of rest)))

-- Texts.

all_and : (p : Change → Bool) (cs : List Change) (c : Change) → list_all p cs ≡ true → p c ≡ true → list_all p (cs ++ c ∷ []) ≡ true
all_and p [] c h k = grind (arith, k)
all_and p (d ∷ cs) c h k = grind (arith, h, k, all_and p cs c)

-- a change that a line asks for is in range and allowed
pub ranged : (line : List ℕ) (change : Change) → parse line ≡ asks change → (is_in_range change ≡ true) × IsChange change
ranged line change e = subst IsInRange e (says_in_range line)

abbrev AsksOr : Option Writing → Type 0
AsksOr None = Unit {0}
AsksOr (Some w) = Asks w.text

abbrev Keeps : (Writing → Option Writing) → Type 0
Keeps f = (w : Writing) → Asks w.text → AsksOr (f w)

one_more : (text line : List ℕ) (change : Change) → parse line ≡ asks change → is_scene_change change ≡ true → Asks text → Asks (text ++ line ++ 10 ∷ [])
one_more text line change e h g =
    let text_is : text ++ line ++ 10 ∷ [] ≡ ended_lines (g.lines ++ line ∷ []) =
    append_assoc text line (10 ∷ [])
    ∙ ap₂ (λ (xs ys : List ℕ). xs ++ ys) g.text_is (sym (append_assoc line (10 ∷ []) []))
    ∙ sym (flat_map-append (λ (line : List ℕ). line ++ 10 ∷ []) g.lines (line ∷ [])) in
    let asked : map (λ line. parse line) (g.lines ++ line ∷ []) ≡ map asks (g.changes ++ change ∷ []) =
    map-append (λ (line : List ℕ). parse line) g.lines (line ∷ [])
    ∙ ap₂ (λ (xs ys : List Said). xs ++ ys) g.asked (ap (λ (said : Said). said ∷ []) e)
    ∙ sym (map-append asks g.changes (change ∷ [])) in
    record {
      lines = g.lines ++ line ∷ [];
      changes = g.changes ++ change ∷ [];
      text_is = text_is;
      asked = asked;
      script = ap (says Whole) text_is ∙ says_asked (g.lines ++ line ∷ []) (g.changes ++ change ∷ []) asked;
      scenes = all_and is_scene_change g.changes change g.scenes h;
      in_range = all_and is_in_range g.changes change g.in_range (ranged line change e).0;
      allowed = All-append IsChange g.changes (change ∷ []) g.allowed (All-cons IsChange change [] (ranged line change e).1 (All-nil IsChange));
    }

put_keeps : (line : List ℕ) → Fits (parse line) → Keeps (put line)
unfolding put
put_keeps line f w g = by (says_some (parse line)) refl where
  by : (b : Bool) → says_some (parse line) ≡ b → AsksOr (if b then Some (record w { text = w.text ++ line ++ 10 ∷ [] }) else None)
  by true e = let t = f e in one_more w.text line t.0 t.1.0 t.1.1 g
  by false e = tt

-- How parts are put together.

both : (o : Option Writing) (f : Writing → Option Writing) → AsksOr o → Keeps f → AsksOr (o >>= f)
both None f g k = tt
both (Some w) f g k = k w g

if_so : (b : Bool) (o : Option Writing) → AsksOr o → AsksOr (if b then o else None)
if_so true o g = g
if_so false o g = tt

if_not : (b : Bool) (o : Option Writing) → AsksOr o → AsksOr (if b then None else o)
if_not true o g = tt
if_not false o g = g

each_keeps : (f : Data → Writing → Option Writing) → ((d : Data) → Keeps (f d)) → (ds : Items) → Keeps (each f ds)
each_keeps f k no_items w g = g
each_keeps f k (item d ds) w g = both (f d w) (each f ds) (k d w g) (each_keeps f k ds)

each_member_keeps : (f : Word → Data → Writing → Option Writing) → ((name : Word) (d : Data) → Keeps (f name d)) → (ms : Members) → Keeps (each_member f ms)
each_member_keeps f k no_members w g = g
each_member_keeps f k (member name d ms) w g = both (f name d w) (each_member f ms) (k name d w g) (each_member_keeps f k ms)

list_keeps : (f : Data → Writing → Option Writing) → ((d : Data) → Keeps (f d)) → (ds : Option Items) → Keeps (in_list f ds)
list_keeps f k None w g = tt
list_keeps f k (Some ds) w g = each_keeps f k ds w g

object_keeps : (f : Word → Data → Writing → Option Writing) → ((name : Word) (d : Data) → Keeps (f name d)) → (ms : Option Members) → Keeps (in_object f ms)
object_keeps f k None w g = tt
object_keeps f k (Some ms) w g = each_member_keeps f k ms w g

there_keeps : (d : Option Data) (f : Data → Writing → Option Writing) → ((d : Data) → Keeps (f d)) → Keeps (if_there d f)
there_keeps None f k w g = g
there_keeps (Some d) f k w g = k d w g

-- What nodes say.

two_keeps : (name id : Word) → ((a b : Word) → Keeps (put_line name (id ∷ a ∷ b ∷ []))) → (a b : Option Word) → Keeps (put_two name id a b)
two_keeps name id k (Some a) (Some b) w g = k a b w g
two_keeps name id k (Some a) None w g = tt
two_keeps name id k None b w g = tt

pair_keeps : (name id : Word) (word : Data → Option Word) → ((a b : Word) → Keeps (put_line name (id ∷ a ∷ b ∷ []))) → (t : Option (Data × Data)) → Keeps (put_pair name id word t)
pair_keeps name id word k None w g = tt
pair_keeps name id word k (Some t) w g = two_keeps name id k (word t.0) (word t.1) w g

size_keeps : (id : Word) (d : Data) → Keeps (size_line id d)
size_keeps id d = pair_keeps (codes "size") id extent_word
    (λ a b. put_keeps (line_text (codes "size") (id ∷ a ∷ b ∷ [])) (size_asked (id ++ spaced (a ∷ b ∷ [])))) (two (as_array d))

pos_keeps : (id : Word) (d : Data) → Keeps (pos_line id d)
pos_keeps id d = pair_keeps (codes "pos") id number_word
    (λ a b. put_keeps (line_text (codes "pos") (id ∷ a ∷ b ∷ [])) (pos_asked (id ++ spaced (a ∷ b ∷ [])))) (two (as_array d))

flag_keeps : (id : Word) (flag : Option Word) → Keeps (put_flag id flag)
flag_keeps id None w g = tt
flag_keeps id (Some flag) w g =
    put_keeps (line_text (codes "flag") (id ∷ flag ∷ codes "on" ∷ [])) (flag_asked (id ++ spaced (flag ∷ codes "on" ∷ []))) w g

flags_keep : (id : Word) (d : Data) → Keeps (flag_lines id d)
flags_keep id d = list_keeps (λ flag. put_flag id (string_word flag)) (λ flag. flag_keeps id (string_word flag)) (as_array d)

put_text_keeps : (id : Word) (text : Option (List ℕ)) → Keeps (put_text id text)
put_text_keeps id None w g = tt
put_text_keeps id (Some text) w g =
    if_so (list_all is_in_text text) (put_line (codes "text") (id ∷ quoted text ∷ []) w)
    (put_keeps (line_text (codes "text") (id ∷ quoted text ∷ [])) (text_asked (id ++ spaced (quoted text ∷ []))) w g)

text_keeps : (id kind : Word) (d : Data) → Keeps (text_line id kind d)
text_keeps id kind d w g = if_so (has_text kind) (put_text id (as_str d) w) (put_text_keeps id (as_str d) w g)

value_keeps : (id selector prop : Word) (value : Option Word) → Keeps (put_value id selector prop value)
value_keeps id selector prop None w g = tt
value_keeps id selector prop (Some value) w g =
    put_keeps (line_text (codes "local") (id ∷ selector ∷ prop ∷ value ∷ [])) (local_asked (id ++ spaced (selector ∷ prop ∷ value ∷ []))) w g

prop_keeps : (id selector name : Word) (p : Option Prop) (d : Data) → Keeps (put_prop id selector name p d)
prop_keeps id selector name None d w g = tt
prop_keeps id selector name (Some p) d w g = value_keeps id selector name (value_word p d) w g

props_keep : (id selector : Word) (d : Data) → Keeps (prop_lines id selector d)
props_keep id selector d w g =
    if_so (is_selector selector) (in_object (λ name value. put_prop id selector name (prop_named name) value) (as_object d) w)
    (object_keeps (λ name value. put_prop id selector name (prop_named name) value) (λ name value. prop_keeps id selector name (prop_named name) value) (as_object d) w g)

local_keeps : (id : Word) (d : Data) → Keeps (local_lines id d)
local_keeps id d = object_keeps (prop_lines id) (props_keep id) (as_object d)

own_keeps : (id kind : Word) (d : Data) → Keeps (own_lines id kind d)
own_keeps id kind d w g =
    both _ (if_there (get (codes "local") d) (local_lines id))
    (both _ (if_there (get (codes "text") d) (text_line id kind))
    (both _ (if_there (get (codes "flags") d) (flag_lines id))
    (both _ (if_there (get (codes "pos") d) (pos_line id))
    (there_keeps (get (codes "size") d) (size_line id) (size_keeps id) w g)
    (there_keeps (get (codes "pos") d) (pos_line id) (pos_keeps id)))
    (there_keeps (get (codes "flags") d) (flag_lines id) (flags_keep id)))
    (there_keeps (get (codes "text") d) (text_line id kind) (text_keeps id kind)))
    (there_keeps (get (codes "local") d) (local_lines id) (local_keeps id))

id_keeps : (number : ℤ) → Keeps (put_id number)
id_keeps number w g = if_not (list_any (λ other. int_eq other number) w.ids) (Some (record w { ids = w.ids ++ number ∷ [] })) g

itself_keeps : (number : ℤ) (id parent kind : Word) (d : Data) → Keeps (node_itself number id parent kind d)
itself_keeps number id parent kind d w g =
    both _ (own_lines id kind d)
    (both (put_id number w) (put_line (codes "new") (id ∷ parent ∷ kind ∷ [])) (id_keeps number w g)
    (put_keeps (line_text (codes "new") (id ∷ parent ∷ kind ∷ [])) (new_asked (id ++ spaced (parent ∷ kind ∷ [])))))
    (own_keeps id kind d)

node_keeps : (child : Word → Data → Writing → Option Writing) → ((parent : Word) (d : Data) → Keeps (child parent d)) → (parent : Word) (d : Data) (t : Option (ℤ × Word)) → Keeps (node_of child parent d t)
node_keeps child k parent d None w g = tt
node_keeps child k parent d (Some t) w g =
    both _ (if_there (get (codes "children") d) (in_nodes (child (signed_decimal t.0))))
    (itself_keeps t.0 (signed_decimal t.0) parent t.1 d w g)
    (there_keeps (get (codes "children") d) (in_nodes (child (signed_decimal t.0)))
    (λ below. list_keeps (child (signed_decimal t.0)) (k (signed_decimal t.0)) (as_array below)))

nodes_keep : (levels : ℕ) (parent : Word) (d : Data) → Keeps (node_lines levels parent d)
unfolding node_lines
nodes_keep zero parent d w g = tt
nodes_keep (suc levels) parent d w g = node_keeps (node_lines levels) (nodes_keep levels) parent d (head d) w g

first_keep : (d : Option Data) → Keeps (first_nodes d)
first_keep None w g = tt
first_keep (Some d) w g = list_keeps (node_lines 15 (codes "3")) (nodes_keep 15 (codes "3")) (as_array d) w g

nothing_asks : Asks []
nothing_asks = record { lines = []; changes = []; text_is = refl; asked = refl; script = refl; scenes = refl; in_range = refl; allowed = All-nil IsChange }

scene_asks : (d : Data) → AsksOr (scene d)
unfolding scene
scene_asks d = if_so (has_one (as_object d)) (first_nodes (get (codes "children") d) nothing_written) (first_keep (get (codes "children") d) nothing_written nothing_asks)

read_asks : (d : Option Data) → AsksOr (d >>= scene)
read_asks None = tt
read_asks (Some d) = scene_asks d

in_asks : (bytes : List ℕ) → AsksOr (scene_in bytes)
unfolding scene_in
in_asks bytes = if_so (is_utf8 bytes) (read bytes >>= scene) (read_asks (read bytes))

of_text : (o : Option Writing) → AsksOr o → IfOk (text_or o) Asks
of_text None g = tt
of_text (Some w) g = g

pub lines_ask : LinesAsk
lines_ask bytes = of_text (scene_in bytes) (in_asks bytes)
