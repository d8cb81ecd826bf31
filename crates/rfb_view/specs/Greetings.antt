-- What a viewer gets to know of a screen of these sizes.
use Rattle.std.specs.Prelude.{ℕ, List, ◌++◌, codes}
use Rattle.session_defs.specs.Bytes.{sixteen, thirty_two}
use Rattle.session_defs.specs.Formats.{own_bytes}

abbrev pub screen_of : ℕ → ℕ → List ℕ
screen_of width height = sixteen width ++ sixteen height ++ own_bytes ++ thirty_two 5 ++ codes "scene"
