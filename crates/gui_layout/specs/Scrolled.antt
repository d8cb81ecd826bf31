-- How far an object scrolls its children, by what is known of it and of them.
use Rattle.std.specs.Prelude.{◌≡◌, ℕ, List, map}
use Rattle.gui_base.specs.Forest.{Forest, children_of, map_forest, roots}
use Rattle.gui_boxes.specs.Scrolls.{Scrolled, scrolled_at, scrolled_in}
use Rattle.gui_boxes.specs.Settled.{Known, tall_of}

abbrev pub scrolled_known : Known → List Known → Scrolled
scrolled_known k kids = scrolled_in (tall_of k) k.slot (map tall_of kids)

-- it is told so of h, which has these children
abbrev pub IsScrolled : (ℕ → Known) → List Scrolled → ℕ → Forest ℕ → Type 0
IsScrolled known scrolls h cs =
    scrolled_at scrolls h ≡ scrolled_known (known h) (roots (map_forest known cs))

-- and of h in a forest
abbrev pub IsScrolledIn : (ℕ → Known) → List Scrolled → Forest ℕ → ℕ → Type 0
IsScrolledIn known scrolls f h = IsScrolled known scrolls h (children_of f h)
