-- The lines of the made script say their changes.
use Rattle.std.proofs.Common.{◌≡◌, ◌∙◌, refl, sym, ap, ℕ, zero, suc, ◌+◌, ◌-◌, ◌*◌, ◌/◌, ◌%◌, ◌≤◌, ◌<◌, true, false, List, [], ◌∷◌, ◌++◌, length, get_or, append_assoc, append-nil, length-append, arith}
use Rattle.std.specs.Prelude.{codes, decimal, bytes_eq, ◌==◌, pos, Some, None, slice_index}
use Rattle.std.specs.List.{list_all}
use Rattle.std.proofs.lemmas.Int.{ints}
use Rattle.std.proofs.lemmas.Bool.Decides.{nat_tests}
use native.Mathlib.Nat.{mod-lt}
use Rattle.hex.specs.Hex.{IsBytes, encode_upper, encode_with, hex_digit_value, upper_digits}
use Rattle.hex.proofs.HexLemmas.{IsDigits-upper_digits, decode_of-encode_upper, decode_sized-twice, length-encode_with}
use Rattle.gui_base.specs.Names.{named}
use Rattle.gui_base.specs.declared.intervals.TheConstants.{COORDINATE, EXTENT, HANDLE, NEW_HANDLE, OPACITY}
use Rattle.gui_base.specs.declared.props.Prop.TheVariants.{BgColor, BgOpa}
use Rattle.gui_base.specs.declared.words.Kind.TheVariants.{Obj}
use Rattle.gui_base.specs.declared.words.Length.TheVariants.{Pixels}
use Rattle.gui_base.specs.declared.words.Part.TheVariants.{Main}
use Rattle.scene_defs.specs.declared.Change.TheVariants as change
use Rattle.run_defs.specs.Commands.{command_says, coordinate, extent, handle, kind, new_handle, property, selector, value_for}
use Rattle.run_defs.specs.Fields.{over}
use Rattle.run_defs.specs.Language.{Word}
use Rattle.run_defs.specs.Lengths.{before_percent, length_said}
use Rattle.run_defs.specs.Made.{draw, drawn, pair_text}
use Rattle.run_defs.specs.Numbers.{color, color_from, is_digit, natural, number}
use Rattle.run_defs.specs.Script.{parse}
use Rattle.run_defs.specs.Selectors.{selector_named}
use Rattle.run_defs.specs.declared.made.MadeCommand.TheVariants.{New, Size, Pos, Color, Opacity, Front}
use Rattle.line_texts.specs.Commands.{Says, asks}
use Rattle.line_texts.specs.LineTexts.{is_letter, is_plain, line_text, spaced}
use Rattle.line_texts.specs.MadeLines.{MadeCommandsSay}
use Rattle.line_texts.proofs.Commands.{scene_lines_say}
use Rattle.line_texts.proofs.FieldsRead.{reads}
use Rattle.line_texts.proofs.Numbers.{count_says, decimal_digits, number_says}
use Rattle.line_texts.proofs.Plain.{prints_words, prints_short}
use Rattle.line_texts.proofs.Words.{words_say_so}

-- Numbers.

pub draw_below : (n x : ℕ) → 1 ≤ n → draw n x < n
unfolding draw
draw_below n x some = mod-lt (drawn x / 65536) some

new_handle_says : (h : ℕ) → 10 ≤ h → h ≤ 9999 → Says new_handle (decimal h) (record { 0 = h })
unfolding over
new_handle_says h least most = rw (count_says NEW_HANDLE.low NEW_HANDLE.high h (omega (arith, most)) (grind (arith, nat_tests, least, most))) refl

handle_says : (h : ℕ) → 10 ≤ h → h ≤ 9999 → Says handle (decimal h) (record { 0 = h })
unfolding over
handle_says h least most = rw (count_says HANDLE.low HANDLE.high h (omega (arith, most)) (grind (arith, nat_tests, least, most))) refl

first_screen_says : Says handle (codes "3") (record { 0 = 3 })
unfolding over natural number
first_screen_says = refl

coordinate_says : (n : ℕ) → n < 1024 → Says coordinate (decimal n) (pos n)
coordinate_says n few = number_says COORDINATE.low COORDINATE.high (pos n) (omega (arith, few)) (grind (arith, ints, nat_tests, few))

opacity_says : (n : ℕ) → n < 256 → Says (value_for BgOpa) (decimal n) (pos n)
opacity_says n few = number_says OPACITY.low OPACITY.high (pos n) (omega (arith, few)) (grind (arith, ints, nat_tests, few))

-- digits end with no percent sign
last_digit : (ds : List ℕ) → list_all is_digit ds ≡ true → (get_or ds (length ds - 1) 0 == 37) ≡ false
last_digit [] h = refl
last_digit (b ∷ []) h = grind (arith, nat_tests, h)
last_digit (b ∷ c ∷ cs) h =
    let shorter : suc (suc (length cs)) - 1 ≡ suc (suc (length cs) - 1) = omega arith in
    rw shorter (last_digit (c ∷ cs) (grind (arith, nat_tests, h)))

no_percent : (ds : List ℕ) → list_all is_digit ds ≡ true → before_percent ds ≡ None
no_percent ds h = rw (last_digit ds h) refl

no_content : (ds : List ℕ) → list_all is_digit ds ≡ true → bytes_eq ds (codes "content") ≡ false
no_content [] h = refl
no_content (b ∷ bs) h = grind (arith, nat_tests, h)

extent_says : (n : ℕ) → n ≤ 1024 → Says extent (decimal n) (Pixels n)
unfolding length_said
extent_says n few =
    let digits = decimal_digits n (omega (arith, few)) in
    rw (no_percent (decimal n) digits, no_content (decimal n) digits, count_says EXTENT.low EXTENT.high n (omega (arith, few)) (grind (arith, nat_tests, few))) refl

-- Colours.

bytes : (a b c : ℕ) → a < 256 → b < 256 → c < 256 → IsBytes (a ∷ b ∷ c ∷ [])
bytes a b c ha hb hc zero = ha
bytes a b c ha hb hc (suc zero) = hb
bytes a b c ha hb hc (suc (suc zero)) = hc
bytes a b c ha hb hc (suc (suc (suc i))) = omega arith

color_says : (a b c : ℕ) → a < 256 → b < 256 → c < 256 → Says (value_for BgColor) (35 ∷ encode_upper (a ∷ b ∷ c ∷ [])) (pos (65536 * a + 256 * b + c))
unfolding color
color_says a b c ha hb hc =
    let digits = encode_upper (a ∷ b ∷ c ∷ []) in
    ap (λ r. color_from r) (decode_sized-twice digits 3 (length-encode_with upper_digits (a ∷ b ∷ c ∷ [])) ∙ decode_of-encode_upper (a ∷ b ∷ c ∷ []) (bytes a b c ha hb hc))

-- and a word of a line
digit_letter : (c d : ℕ) → hex_digit_value c ≡ Some d → is_letter c ≡ true
digit_letter c d h = grind (arith, nat_tests, h)

letter : (d : ℕ) → d < 16 → is_letter (slice_index upper_digits d) ≡ true
letter d h = digit_letter (slice_index upper_digits d) d (IsDigits-upper_digits d h)

plain_color : (a b c : ℕ) → a < 256 → b < 256 → c < 256 → is_plain (35 ∷ encode_upper (a ∷ b ∷ c ∷ [])) ≡ true
unfolding encode_with
plain_color a b c ha hb hc =
    rw (
      letter (a / 16) (omega (arith, ha)),
      letter (a % 16) (omega arith),
      letter (b / 16) (omega (arith, hb)),
      letter (b % 16) (omega arith),
      letter (c / 16) (omega (arith, hc)),
      letter (c % 16) (omega arith),
    ) refl

-- Words.

obj_says : Says kind (codes "obj") Obj
unfolding named
obj_says = refl

main_says : Says selector (codes "main") (record { part = Main; states = 0 })
unfolding named selector_named
main_says = refl

bg_color_says : Says property (codes "bg_color") BgColor
unfolding named property
bg_color_says = refl

bg_opa_says : Says property (codes "bg_opa") BgOpa
unfolding named property
bg_opa_says = refl

-- Lines.

to_the_right : (n h s a b : List ℕ) → n ++ h ++ s ++ a ++ s ++ b ≡ n ++ (h ++ (s ++ (a ++ (s ++ b))))
to_the_right n h s a b =
    append_assoc (n ++ h ++ s ++ a) s b
    ∙ append_assoc (n ++ h ++ s) a (s ++ b)
    ∙ append_assoc (n ++ h) s (a ++ (s ++ b))
    ∙ append_assoc n h (s ++ (a ++ (s ++ b)))

-- the text of a line of two numbers
pair_line : (name : Word) (h a b : ℕ) → pair_text name h a b ≡ name ++ (decimal h ++ spaced (decimal a ∷ decimal b ∷ []))
pair_line name h a b =
    to_the_right name (decimal h) (codes " ") (decimal a) (decimal b)
    ∙ ap (λ (last : List ℕ). name ++ (decimal h ++ (codes " " ++ (decimal a ++ (codes " " ++ last))))) (sym (append-nil (decimal b)))

pair_length : (h a b : ℕ) → h ≤ 9999 → a ≤ 1024 → b ≤ 1024 → length (decimal h ++ spaced (decimal a ∷ decimal b ∷ [])) ≤ 32
pair_length h a b few fewer fewest =
    let one = length-append (decimal h) (spaced (decimal a ∷ decimal b ∷ [])) in
    let two = length-append (decimal a) (spaced (decimal b ∷ [])) in
    let three = length-append (decimal b) [] in
    omega (arith, one, two, three, prints_short.count h (omega (arith, few)), prints_short.count a (omega (arith, fewer)), prints_short.count b (omega (arith, fewest)))

-- a number is a plain word
plain_number : (n : ℕ) → n ≤ 9999 → is_plain (decimal n) ≡ true
plain_number n few = prints_words.count n (omega (arith, few))

new_line : (h : ℕ) → 10 ≤ h → h ≤ 9999 → parse (line_text (codes "new") (decimal h ∷ codes "3" ∷ codes "obj" ∷ [])) ≡ asks (change.New (record { 0 = h }) (record { 0 = 3 }) Obj)
new_line h least most =
    let len = length-append (decimal h) (spaced (codes "3" ∷ codes "obj" ∷ [])) in
    words_say_so (codes "new") (decimal h ∷ codes "3" ∷ codes "obj" ∷ []) refl (rw (plain_number h most) refl) (omega (arith, len, prints_short.count h (omega (arith, most))))
    ∙ scene_lines_say.new (decimal h) (codes "3") (codes "obj") _ _ _ (new_handle_says h least most) first_screen_says obj_says

size_line : (h a b : ℕ) → 10 ≤ h → h ≤ 9999 → a ≤ 1024 → b ≤ 1024 → parse (line_text (codes "size") (decimal h ∷ decimal a ∷ decimal b ∷ [])) ≡ asks (change.Size (record { 0 = h }) (Pixels a) (Pixels b))
size_line h a b least most few fewer =
    let len = pair_length h a b most few fewer in
    words_say_so (codes "size") (decimal h ∷ decimal a ∷ decimal b ∷ []) refl (rw (plain_number h most, plain_number a (omega (arith, few)), plain_number b (omega (arith, fewer))) refl) (omega (arith, len))
    ∙ scene_lines_say.size (decimal h) (decimal a) (decimal b) _ _ _ (handle_says h least most) (extent_says a few) (extent_says b fewer)

pos_line : (h a b : ℕ) → 10 ≤ h → h ≤ 9999 → a < 1024 → b < 1024 → parse (line_text (codes "pos") (decimal h ∷ decimal a ∷ decimal b ∷ [])) ≡ asks (change.Pos (record { 0 = h }) (pos a) (pos b))
pos_line h a b least most few fewer =
    let len = pair_length h a b most (omega (arith, few)) (omega (arith, fewer)) in
    words_say_so (codes "pos") (decimal h ∷ decimal a ∷ decimal b ∷ []) refl (rw (plain_number h most, plain_number a (omega (arith, few)), plain_number b (omega (arith, fewer))) refl) (omega (arith, len))
    ∙ scene_lines_say.pos (decimal h) (decimal a) (decimal b) _ _ _ (handle_says h least most) (coordinate_says a few) (coordinate_says b fewer)

color_line : (h a b c : ℕ) → 10 ≤ h → h ≤ 9999 → a < 256 → b < 256 → c < 256 →
    parse (line_text (codes "local") (decimal h ∷ codes "main" ∷ codes "bg_color" ∷ (35 ∷ encode_upper (a ∷ b ∷ c ∷ [])) ∷ []))
    ≡ asks (change.Local (record { 0 = h }) (record { part = Main; states = 0 }) BgColor (pos (65536 * a + 256 * b + c)))
color_line h a b c least most ha hb hc =
    let digits = encode_upper (a ∷ b ∷ c ∷ []) in
    let len = length-append (decimal h) (spaced (codes "main" ∷ codes "bg_color" ∷ (35 ∷ digits) ∷ [])) in
    let more = length-append digits [] in
    let six = length-encode_with upper_digits (a ∷ b ∷ c ∷ []) in
    words_say_so (codes "local") (decimal h ∷ codes "main" ∷ codes "bg_color" ∷ (35 ∷ digits) ∷ []) refl (rw (plain_number h most, plain_color a b c ha hb hc) refl)
    (omega (arith, len, more, six, prints_short.count h (omega (arith, most))))
    ∙ scene_lines_say.local (decimal h) (codes "main") (codes "bg_color") (35 ∷ digits) _ _ _ _ (handle_says h least most) main_says bg_color_says (color_says a b c ha hb hc)

opacity_line : (h a : ℕ) → 10 ≤ h → h ≤ 9999 → a < 256 →
    parse (line_text (codes "local") (decimal h ∷ codes "main" ∷ codes "bg_opa" ∷ decimal a ∷ []))
    ≡ asks (change.Local (record { 0 = h }) (record { part = Main; states = 0 }) BgOpa (pos a))
opacity_line h a least most few =
    let len = length-append (decimal h) (spaced (codes "main" ∷ codes "bg_opa" ∷ decimal a ∷ [])) in
    let more = length-append (decimal a) [] in
    words_say_so (codes "local") (decimal h ∷ codes "main" ∷ codes "bg_opa" ∷ decimal a ∷ []) refl (rw (plain_number h most, plain_number a (omega (arith, few))) refl)
    (omega (arith, len, more, prints_short.count h (omega (arith, most)), prints_short.count a (omega (arith, few))))
    ∙ scene_lines_say.local (decimal h) (codes "main") (codes "bg_opa") (decimal a) _ _ _ _ (handle_says h least most) main_says bg_opa_says (opacity_says a few)

front_says : (h : ℕ) → 10 ≤ h → h ≤ 9999 → command_says (codes "front") (decimal h ∷ []) ≡ asks (change.Front (record { 0 = h }))
unfolding command_says named
front_says h least most =
    let one = reads handle (decimal h) [] _ (handle_says h least most) in
    rw (one.value_is, one.past_is) refl

front_line : (h : ℕ) → 10 ≤ h → h ≤ 9999 → parse (line_text (codes "front") (decimal h ∷ [])) ≡ asks (change.Front (record { 0 = h }))
front_line h least most =
    let len = length-append (decimal h) [] in
    words_say_so (codes "front") (decimal h ∷ []) refl (rw (plain_number h most) refl) (omega (arith, len, prints_short.count h (omega (arith, most))))
    ∙ front_says h least most

pub made_commands_say : MadeCommandsSay
made_commands_say width height New h x w1 w2 h1 h2 least most = new_line h least most
made_commands_say width height Size h x w1 w2 h1 h2 least most =
    let a = draw_below width x w1 in
    let b = draw_below height (drawn x) h1 in
    ap parse (pair_line (codes "size ") h (1 + draw width x) (1 + draw height (drawn x)))
    ∙ size_line h (1 + draw width x) (1 + draw height (drawn x)) least most (omega (arith, a, w2)) (omega (arith, b, h2))
made_commands_say width height Pos h x w1 w2 h1 h2 least most =
    let a = draw_below width x w1 in
    let b = draw_below height (drawn x) h1 in
    ap parse (pair_line (codes "pos ") h (draw width x) (draw height (drawn x)))
    ∙ pos_line h (draw width x) (draw height (drawn x)) least most (omega (arith, a, w2)) (omega (arith, b, h2))
made_commands_say width height Color h x w1 w2 h1 h2 least most =
    let digits = encode_upper (draw 256 x ∷ draw 256 (drawn x) ∷ draw 256 (drawn (drawn x)) ∷ []) in
    ap parse (ap (λ (t : List ℕ). codes "local " ++ t) (append_assoc (decimal h) (codes " main bg_color #") digits)
    ∙ ap (λ (t : List ℕ). codes "local " ++ (decimal h ++ (codes " main bg_color #" ++ t))) (sym (append-nil digits)))
    ∙ color_line h (draw 256 x) (draw 256 (drawn x)) (draw 256 (drawn (drawn x))) least most (draw_below 256 x (omega arith)) (draw_below 256 (drawn x) (omega arith)) (draw_below 256 (drawn (drawn x)) (omega arith))
made_commands_say width height Opacity h x w1 w2 h1 h2 least most =
    ap parse (ap (λ (t : List ℕ). codes "local " ++ t) (append_assoc (decimal h) (codes " main bg_opa ") (decimal (draw 256 x)))
    ∙ ap (λ (t : List ℕ). codes "local " ++ (decimal h ++ (codes " main bg_opa " ++ t))) (sym (append-nil (decimal (draw 256 x)))))
    ∙ opacity_line h (draw 256 x) least most (draw_below 256 x (omega arith))
made_commands_say width height Front h x w1 w2 h1 h2 least most =
    ap parse (ap (λ (t : List ℕ). codes "front " ++ t) (sym (append-nil (decimal h)))) ∙ front_line h least most
