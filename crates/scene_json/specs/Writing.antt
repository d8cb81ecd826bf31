-- What is written of a scene, line by line: a text that goes on, or none where there is no scene.
use Rattle.std.specs.Prelude.{ℕ, ℤ, Bool, true, false, if◌then◌else◌, List, [], ◌∷◌, ◌++◌, Some, None, Ok, Err}
use Rattle.std.specs.List.{list_any}
use Rattle.std.specs.Ordering.{int_eq}
use Rattle.std.specs.declared.option.Option.{Option}
use Rattle.serde_json.specs.Data.{Data, Items, no_items, item, Members, no_members, member}
use Rattle.run_defs.specs.Language.{Word}
use Rattle.run_defs.specs.Script.{Said, parse}
use Rattle.line_texts.specs.LineTexts.{line_text}

-- What is written so far: the text, and the ids of its nodes.
pub record Writing : Type 0 where
  pub text : List ℕ
  pub ids : List ℤ

abbrev pub nothing_written : Writing
nothing_written = record { text = []; ids = [] }

-- the writing, where it goes on
abbrev pub going : Bool → Writing → Option Writing
going true w = Some w
going false w = None

infixl 10 ◌>>=◌
-- the second step, where the first gave something
abbrev pub ◌>>=◌ : {A B : Type 0} → Option A → (A → Option B) → Option B
None >>= f = None
Some a >>= f = f a

-- whether a line asks for something
abbrev pub says_some : Said → Bool
says_some (Ok line) = true
says_some (Err fault) = false

-- a line more, where it is one of the language
unfoldable pub put : List ℕ → Writing → Option Writing
put line w =
    if says_some (parse line) then Some (record w { text = w.text ++ line ++ 10 ∷ [] }) else None

-- the line of this name and these words
abbrev pub put_line : Word → List Word → Writing → Option Writing
put_line name words w = put (line_text name words) w

-- an id that no node before has
abbrev pub put_id : ℤ → Writing → Option Writing
put_id id w =
    if list_any (λ other. int_eq other id) w.ids then None else Some (record w { ids = w.ids ++ id ∷ [] })

-- the values of a list, one after another
abbrev pub each : (Data → Writing → Option Writing) → Items → Writing → Option Writing
each f no_items w = Some w
each f (item d ds) w = f d w >>= each f ds

-- the members of an object, in the order of the bytes of their keys
abbrev pub each_member : (Word → Data → Writing → Option Writing) → Members → Writing → Option Writing
each_member f no_members w = Some w
each_member f (member key d ms) w = f key d w >>= each_member f ms

-- a list is meant
abbrev pub in_list : (Data → Writing → Option Writing) → Option Items → Writing → Option Writing
in_list f None w = None
in_list f (Some ds) w = each f ds w

-- an object is meant
abbrev pub in_object : (Word → Data → Writing → Option Writing) → Option Members → Writing → Option Writing
in_object f None w = None
in_object f (Some ms) w = each_member f ms w

-- what may lack
abbrev pub if_there : Option Data → (Data → Writing → Option Writing) → Writing → Option Writing
if_there None f w = Some w
if_there (Some d) f w = f d w
