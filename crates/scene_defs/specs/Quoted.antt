-- A text as a line quotes it.
use Rattle.std.specs.Prelude.{◌≡◌, ◌≤◌, ℕ, Bool, true, false, ◌==◌, nat_lt, nat_le, if◌then◌else◌}
use Rattle.std.specs.Prelude.{List, [], ◌∷◌, length, Some, None, option_map}
use Rattle.std.specs.Str.{is_utf8}
use Rattle.std.specs.declared.option.Option.{Option}
use Rattle.scene_defs.specs.declared.texts.Form.{Form}
use Rattle.scene_defs.specs.declared.texts.Form.TheVariants.{Plain, Quoted}

-- what a byte after a backslash stands for: a quote, a backslash, or an n for a newline
abbrev pub escape_of : ℕ → Option ℕ
escape_of c = if c == 34 then Some 34 else if c == 92 then Some 92 else if c == 110 then Some 10 else None

-- a byte before the others, where there are both
abbrev pub put_first : Option ℕ → Option (List ℕ) → Option (List ℕ)
put_first None text = None
put_first (Some b) text = option_map (λ bytes. b ∷ bytes) text

-- what stands between quotes, read from its start or from after a backslash. Nothing there ends it
abbrev pub unescaped : Bool → List ℕ → Option (List ℕ)
unescaped false [] = Some []
unescaped true [] = None
unescaped true (c ∷ cs) = put_first (escape_of c) (unescaped false cs)
unescaped false (c ∷ cs) =
    if c == 92 then unescaped true cs else if c == 34 then None
    else put_first (Some c) (unescaped false cs)

-- the text, where so many bytes hold it
abbrev pub that_fits : ℕ → Option (List ℕ) → Option (List ℕ)
that_fits room None = None
that_fits room (Some text) = if nat_le (length text) room then Some text else None

-- the most bytes between the quotes of a line
abbrev pub most_quoted : ℕ
most_quoted = 4096

-- the bytes, where they are UTF-8
abbrev pub if_utf8 : Option (List ℕ) → Option (List ℕ)
if_utf8 None = None
if_utf8 (Some text) = if is_utf8 text then Some text else None

-- the text between quotes, where it is one
unfoldable pub text_in_quotes : List ℕ → Option (List ℕ)
text_in_quotes inside =
    if nat_lt most_quoted (length inside) then None else if_utf8 (unescaped false inside)

abbrev pub or_none : Option (List ℕ) → List ℕ
or_none None = []
or_none (Some text) = text

abbrev pub text_in : Form → List ℕ
text_in (Plain text) = text.now
text_in (Quoted inside) = or_none (text_in_quotes inside.now)

-- what stands between the quotes is a text
abbrev pub IsSaid : Option (List ℕ) → Type 0
IsSaid None = false ≡ true
IsSaid (Some text) = is_utf8 text ≡ true

abbrev pub IsForm : Form → Type 0
IsForm (Plain text) = is_utf8 text.now ≡ true
IsForm (Quoted inside) = (length inside.now ≤ most_quoted) × IsSaid (text_in_quotes inside.now)
