-- What a viewer has is what the panel shows.
use Rattle.std.specs.Prelude.{◌≡◌, ℕ, List}
use Rattle.panel_stream.specs.StreamPanel.{shown_by}
use Rattle.panel_stream.specs.Viewer.{replayed}

abbrev pub ViewersSee : Type 0
ViewersSee =
    (width height : ℕ) (bytes : List ℕ) → (replayed bytes).width ≡ width → (replayed bytes).height ≡ height →
    shown_by width height bytes ≡ (replayed bytes).pixels
