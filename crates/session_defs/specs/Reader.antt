-- What a viewer reads of the bytes that it gets, in the formats that it set: a greeting, and then updates of one
-- area each, with the pixels as they are.
use Rattle.std.specs.Prelude.{ℕ, ◌+◌, ◌*◌, Bool, ◌&&◌, ◌==◌, nat_le, if◌then◌else◌, List, [], ◌∷◌, length, take, drop, Some, None}
use Rattle.std.specs.declared.option.Option.{Option}
use Rattle.session_defs.specs.Bytes.{at, sixteen_at, thirty_two_at}
use Rattle.session_defs.specs.Formats.{bytes_each}
use Rattle.session_defs.specs.declared.Format.{Format}
use Rattle.session_defs.specs.Updates.{none_known}
use Rattle.session_defs.specs.Viewer.{viewed}

-- The greeting: twelve bytes of version, two of securities, four that tell that one was chosen, and the screen,
-- which has its columns and lines, sixteen bytes of a format, and a name after the name's length.

-- how many columns the screen has
abbrev pub columns_read : List ℕ → ℕ
columns_read bytes = sixteen_at bytes 18

-- how many lines the screen has
abbrev pub lines_read : List ℕ → ℕ
lines_read bytes = sixteen_at bytes 20

-- how many bytes the greeting has
abbrev pub greeting_size : List ℕ → ℕ
greeting_size bytes = 42 + thirty_two_at bytes 38

-- An update: its kind is 0, one area follows, encoding 0 says that its pixels are raw, and then they come.

-- how many bytes one has whose pixels have this format
abbrev pub update_size : Format → List ℕ → ℕ
update_size format bytes = 16 + sixteen_at bytes 8 * sixteen_at bytes 10 * bytes_each format

-- whether a whole one begins the bytes
abbrev pub is_update : Format → List ℕ → Bool
is_update format bytes =
    at bytes 0 == 0
    && (sixteen_at bytes 2 == 1 && (thirty_two_at bytes 12 == 0 && nat_le (update_size format bytes) (length bytes)))

-- what is on the screen after updates in these formats, each over those before it; None where the bytes are
-- anything else
abbrev pub reads : ℕ → List Format → List ℕ → List (Option ℕ) → Option (List (Option ℕ))
reads width [] [] view = Some view
reads width [] (b ∷ bytes) view = None
reads width (format ∷ formats) bytes view =
    if is_update format bytes
    then reads width formats (drop (update_size format bytes) bytes)
    (viewed width format (take (update_size format bytes) bytes) view)
    else None

-- what is on the screen of a viewer that got these bytes from the start on, with updates in these formats
abbrev pub screen_read : List Format → List ℕ → Option (List (Option ℕ))
screen_read formats bytes =
    reads (columns_read bytes) formats (drop (greeting_size bytes) bytes)
    (none_known (columns_read bytes * lines_read bytes))
