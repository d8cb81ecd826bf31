-- The texts and the pictures of objects.
use Rattle.std.specs.Prelude.{ℕ, Bool, true, false, ◌&&◌, nat_le, length, List, Some, None, unwrap_or}
use Rattle.std.specs.Str.{is_utf8}
use Rattle.std.specs.declared.option.Option.{Option}
use Rattle.text_defs.specs.Images.{Image, finished}

-- the most bytes of a text
abbrev pub most_text : ℕ
most_text = 1000

-- whether a text is not too long for an object
abbrev pub is_short : List ℕ → Bool
is_short text = nat_le (length text) most_text

-- a text in UTF-8 that is not too long
abbrev pub is_text : List ℕ → Bool
is_text text = is_utf8 text && is_short text

-- whether there is an image of this number that is finished
abbrev pub is_whole_image : List Image → ℕ → Bool
is_whole_image images i = unwrap_or (finished images i) false

-- whether the image of an object, if it has one, is finished
abbrev pub is_shown_image : List Image → Option ℕ → Bool
is_shown_image images None = true
is_shown_image images (Some i) = is_whole_image images i
