-- The lines of a script that make a scene in JSON.
use Rattle.std.specs.Prelude.{ℕ, ℤ, zero, suc, Bool, true, false, ◌&&◌, ◌||◌, if◌then◌else◌, List, [], ◌∷◌}
use Rattle.std.specs.Prelude.{codes, bytes_eq, Some, None, Ok, Err}
use Rattle.std.specs.Fmt.{signed_decimal}
use Rattle.std.specs.List.{list_all}
use Rattle.std.specs.Option.{option_and_then, option_zip}
use Rattle.std.specs.Str.{is_utf8}
use Rattle.std.specs.declared.option.Option.{Option}
use Rattle.std.specs.declared.result.Result.{Result}
use Rattle.serde_json.specs.Data.{Data, Items, no_items, item, Members, no_members, member}
use Rattle.serde_json.specs.Find.{get, as_str, as_array, as_object}
use Rattle.serde_json.specs.Read.{read}
use Rattle.gui_base.specs.declared.props.Prop.{Prop}
use Rattle.run_defs.specs.Language.{Word}
use Rattle.line_texts.specs.Quoting.{quoted, is_in_text}
use Rattle.scene_json.specs.Words.{integer, number_word, string_word, extent_word, value_word, prop_named, is_selector}
use Rattle.scene_json.specs.Writing.{Writing, nothing_written, ◌>>=◌, put_line, put_id}
use Rattle.scene_json.specs.Writing.{in_list, in_object, if_there}

-- the two values of a list of two
abbrev pub two : Option Items → Option (Data × Data)
two (Some (item a (item b no_items))) = Some (a, b)
two items = None

-- whether all its keys are such
abbrev pub all_keys : (Word → Bool) → Members → Bool
all_keys is_key no_members = true
all_keys is_key (member key d ms) = is_key key && all_keys is_key ms

-- whether it is an object with such keys alone
abbrev pub has_keys : (Word → Bool) → Option Members → Bool
has_keys is_key None = false
has_keys is_key (Some ms) = all_keys is_key ms

-- whether it is an object with one key
abbrev pub has_one : Option Members → Bool
has_one (Some (member key d no_members)) = true
has_one members = false

-- What a node says of itself.

abbrev pub put_two : Word → Word → Option Word → Option Word → Writing → Option Writing
put_two name id (Some a) (Some b) w = put_line name (id ∷ a ∷ b ∷ []) w
put_two name id a b w = None

abbrev pub put_pair : Word → Word → (Data → Option Word) → Option (Data × Data) → Writing → Option Writing
put_pair name id word None w = None
put_pair name id word (Some t) w = put_two name id (word t.0) (word t.1) w

abbrev pub size_line : Word → Data → Writing → Option Writing
size_line id d w = put_pair (codes "size") id extent_word (two (as_array d)) w

abbrev pub pos_line : Word → Data → Writing → Option Writing
pos_line id d w = put_pair (codes "pos") id number_word (two (as_array d)) w

abbrev pub put_flag : Word → Option Word → Writing → Option Writing
put_flag id None w = None
put_flag id (Some flag) w = put_line (codes "flag") (id ∷ flag ∷ codes "on" ∷ []) w

abbrev pub flag_lines : Word → Data → Writing → Option Writing
flag_lines id d w = in_list (λ flag. put_flag id (string_word flag)) (as_array d) w

-- the kinds of objects that have a text
abbrev pub has_text : Word → Bool
has_text kind = bytes_eq kind (codes "label") || bytes_eq kind (codes "checkbox")

abbrev pub put_text : Word → Option (List ℕ) → Writing → Option Writing
put_text id None w = None
put_text id (Some text) w =
    if list_all is_in_text text then put_line (codes "text") (id ∷ quoted text ∷ []) w else None

abbrev pub text_line : Word → Word → Data → Writing → Option Writing
text_line id kind d w = if has_text kind then put_text id (as_str d) w else None

abbrev pub put_value : Word → Word → Word → Option Word → Writing → Option Writing
put_value id selector name None w = None
put_value id selector name (Some value) w =
    put_line (codes "local") (id ∷ selector ∷ name ∷ value ∷ []) w

abbrev pub put_prop : Word → Word → Word → Option Prop → Data → Writing → Option Writing
put_prop id selector name None d w = None
put_prop id selector name (Some p) d w = put_value id selector name (value_word p d) w

-- the properties for one selector, which is looked at also where there are none
abbrev pub prop_lines : Word → Word → Data → Writing → Option Writing
prop_lines id selector d w =
    if is_selector selector
    then in_object (λ name value. put_prop id selector name (prop_named name) value) (as_object d) w
    else None

abbrev pub local_lines : Word → Data → Writing → Option Writing
local_lines id d w = in_object (prop_lines id) (as_object d) w

abbrev pub own_lines : Word → Word → Data → Writing → Option Writing
own_lines id kind d w =
    if_there (get (codes "size") d) (size_line id) w
    >>= if_there (get (codes "pos") d) (pos_line id)
    >>= if_there (get (codes "flags") d) (flag_lines id)
    >>= if_there (get (codes "text") d) (text_line id kind)
    >>= if_there (get (codes "local") d) (local_lines id)

-- Nodes, and those below them.

-- a node with this number, this word for it, this parent and this kind
abbrev pub node_itself : ℤ → Word → Word → Word → Data → Writing → Option Writing
node_itself number id parent kind d w =
    put_id number w
    >>= put_line (codes "new") (id ∷ parent ∷ kind ∷ [])
    >>= own_lines id kind d

abbrev pub is_node_key : Word → Bool
is_node_key key =
    bytes_eq key (codes "children") || bytes_eq key (codes "flags") || bytes_eq key (codes "id")
    || bytes_eq key (codes "kind") || bytes_eq key (codes "local") || bytes_eq key (codes "pos")
    || bytes_eq key (codes "size") || bytes_eq key (codes "text")

-- the number and the kind of a node
abbrev pub head : Data → Option (ℤ × Word)
head d =
    if has_keys is_node_key (as_object d)
    then option_zip (option_and_then integer (get (codes "id") d)) (option_and_then string_word (get (codes "kind") d))
    else None

-- the nodes of a list
abbrev pub in_nodes : (Data → Writing → Option Writing) → Data → Writing → Option Writing
in_nodes child d w = in_list child (as_array d) w

-- a node, and then the nodes below it
abbrev pub node_of : (Word → Data → Writing → Option Writing) → Word → Data → Option (ℤ × Word) → Writing → Option Writing
node_of child parent d None w = None
node_of child parent d (Some t) w =
    node_itself t.0 (signed_decimal t.0) parent t.1 d w
    >>= if_there (get (codes "children") d) (in_nodes (child (signed_decimal t.0)))

-- a node and those below it, down to so many levels
unfoldable pub node_lines : ℕ → Word → Data → Writing → Option Writing
node_lines zero parent d w = None
node_lines (suc levels) parent d w = node_of (node_lines levels) parent d (head d) w

-- Scenes.

-- the nodes of a scene, which stand on the first screen, down to 15 levels
abbrev pub first_nodes : Option Data → Writing → Option Writing
first_nodes None w = None
first_nodes (Some d) w = in_nodes (node_lines 15 (codes "3")) d w

-- the lines of a scene: one key, and a list of nodes
abbrev pub scene_lines : Data → Writing → Option Writing
scene_lines d w = if has_one (as_object d) then first_nodes (get (codes "children") d) w else None

unfoldable pub scene : Data → Option Writing
scene d = scene_lines d nothing_written

-- the scene that these bytes are
unfoldable pub scene_in : List ℕ → Option Writing
scene_in bytes = if is_utf8 bytes then read bytes >>= scene else None

-- there is no scene
pub data NoScene : Type 0 where
  no_scene : NoScene

abbrev pub text_or : Option Writing → Result (List ℕ) NoScene
text_or None = Err no_scene
text_or (Some w) = Ok w.text

-- the text of the scene that these bytes are
abbrev pub scene_text : List ℕ → Result (List ℕ) NoScene
scene_text bytes = text_or (scene_in bytes)
