-- The bytes of colours.
use Rattle.std.proofs.Common.{◌≡◌, ◌∙◌, sym, ap, ℕ, List, ◌++◌, append_assoc, take, drop, take-append-drop}
use Rattle.std.proofs.lemmas.Grind.{flat_map-append}
use Rattle.gui_base.specs.declared.color.Rgb565.{Rgb565}
use Rattle.panel_stream.specs.Viewer.{two_bytes, color_bytes}

-- the bytes of colours are those of the first and those of the others
pub bytes_more : (bytes all : List ℕ) (colors : List Rgb565) (n : ℕ) → bytes ++ color_bytes colors ≡ all → (bytes ++ color_bytes (take n colors)) ++ color_bytes (drop n colors) ≡ all
bytes_more bytes all colors n h =
    append_assoc bytes _ _ ∙ (ap (λ (zs : List ℕ). bytes ++ zs) (sym (flat_map-append (λ (c : Rgb565). two_bytes c.0) (take n colors) (drop n colors)) ∙ ap color_bytes (take-append-drop n colors)) ∙ h)
