-- The built-in font.
use Rattle.std.specs.Prelude.{◌≡◌, ℕ, zero, suc, ◌+◌, true, false, if◌then◌else◌, List, [], ◌∷◌, ◌++◌}
use Rattle.std.specs.Prelude.{map, length, codes, pos, negsuc, Some}
use Rattle.scene_defs.specs.RowBytes.{bytes_in_hex}
use Rattle.run_defs.specs.Language.{words_of}
use Rattle.text_defs.specs.BuiltIn.{built_in, column_of, dot_in, has_built_in}

-- The glyphs of the codes 32 to 126 in order: of each five columns from the left, two hexadecimal digits
-- each, bit 0 the top row.
abbrev pub sheet : List ℕ
sheet =
    codes "0000000000 00005F0000 0007000700 147F147F14 242A7F2A12 2313086462 3649552250 0005030000"
    ++ codes " 001C224100 0041221C00 14083E0814 08083E0808 0050300000 0808080808 0060600000 2010080402"
    ++ codes " 3E5149453E 00427F4000 4261514946 2141454B31 1814127F10 2745454539 3C4A494930 0171090503"
    ++ codes " 3649494936 064949291E 0036360000 0056360000 0814224100 1414141414 0041221408 0201510906"
    ++ codes " 324979413E 7E1111117E 7F49494936 3E41414122 7F4141221C 7F49494941 7F09090901 3E4149497A"
    ++ codes " 7F0808087F 00417F4100 2040413F01 7F08142241 7F40404040 7F020C027F 7F0408107F 3E4141413E"
    ++ codes " 7F09090906 3E4151215E 7F09192946 4649494931 01017F0101 3F4040403F 1F2040201F 3F4038403F"
    ++ codes " 6314081463 0708700807 6151494543 007F414100 0204081020 0041417F00 0402010204 4040404040"
    ++ codes " 0001020400 2054545478 7F48444438 3844444420 384444487F 3854545418 087E090102 0C5252523E"
    ++ codes " 7F08040478 00447D4000 2040443D00 7F10284400 00417F4000 7C04180478 7C08040478 3844444438"
    ++ codes " 7C14141408 081414187C 7C08040408 4854545420 043F444020 3C4040207C 1C2040201C 3C4030403C"
    ++ codes " 4428102844 0C5050503C 4464544C44 0008364100 00007F0000 0041360800 1008081008"

-- so many codes from the first on
abbrev pub codes_from : ℕ → ℕ → List ℕ
codes_from first zero = []
codes_from first (suc n) = first ∷ codes_from (first + 1) n

abbrev pub columns_of : ℕ → List ℕ
columns_of code = map (column_of code) (codes_from 0 5)

-- the glyph of a code as rows of dots: a number sign where there is ink
abbrev pub drawn_row : ℕ → ℕ → List ℕ
drawn_row code y = map (λ x. if dot_in code (pos x) (pos y) then 35 else 46) (codes_from 0 6)

abbrev pub drawn : ℕ → List (List ℕ)
drawn code = map (drawn_row code) (codes_from 0 8)

pub record SheetIsTheFont : Type 0 where
  pub glyphs : length (words_of sheet) ≡ 95
  pub columns :
      map (λ code. Some (columns_of code)) (codes_from 32 95)
      ≡ map (λ word. bytes_in_hex word) (words_of sheet)
  pub none_before : has_built_in 31 ≡ false
  pub first : has_built_in 32 ≡ true
  pub last : has_built_in 126 ≡ true
  pub none_after : has_built_in 127 ≡ false
  pub height : built_in.height ≡ 8
  pub advance : (built_in.cell 65).advance ≡ 6
  -- a character without a glyph is an empty cell
  pub missing_advance : (built_in.cell 233).advance ≡ 6
  pub missing_dot : (built_in.cell 233).dot (pos 0) (pos 0) ≡ false
  pub left_of_it : dot_in 65 (negsuc 0) (pos 4) ≡ false

pub record LettersAreDrawn : Type 0 where
  pub upper_a :
      drawn 65
      ≡ codes ".###.."
      ∷ codes "#...#."
      ∷ codes "#...#."
      ∷ codes "#...#."
      ∷ codes "#####."
      ∷ codes "#...#."
      ∷ codes "#...#."
      ∷ codes "......"
      ∷ []
  pub lower_g :
      drawn 103
      ≡ codes "......"
      ∷ codes ".####."
      ∷ codes "#...#."
      ∷ codes "#...#."
      ∷ codes ".####."
      ∷ codes "....#."
      ∷ codes ".###.."
      ∷ codes "......"
      ∷ []
  pub exclamation_mark :
      drawn 33
      ≡ codes "..#..."
      ∷ codes "..#..."
      ∷ codes "..#..."
      ∷ codes "..#..."
      ∷ codes "..#..."
      ∷ codes "......"
      ∷ codes "..#..."
      ∷ codes "......"
      ∷ []
  pub seven :
      drawn 55
      ≡ codes "#####."
      ∷ codes "....#."
      ∷ codes "...#.."
      ∷ codes "..#..."
      ∷ codes ".#...."
      ∷ codes ".#...."
      ∷ codes ".#...."
      ∷ codes "......"
      ∷ []
  pub percent_sign :
      drawn 37
      ≡ codes "##...."
      ∷ codes "##..#."
      ∷ codes "...#.."
      ∷ codes "..#..."
      ∷ codes ".#...."
      ∷ codes "#..##."
      ∷ codes "...##."
      ∷ codes "......"
      ∷ []
  pub tilde :
      drawn 126
      ≡ codes "......"
      ∷ codes "......"
      ∷ codes "......"
      ∷ codes ".##.#."
      ∷ codes "#..#.."
      ∷ codes "......"
      ∷ codes "......"
      ∷ codes "......"
      ∷ []
