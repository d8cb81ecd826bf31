-- The list of lines of a text, one line at a time.
use Rattle.std.proofs.Common.{◌≡◌, ◌∙◌, refl, sym, ap, subst, ℕ, zero, suc, ◌+◌, ◌-◌, ◌<◌, ◌≤◌, Bool, true, false, not, eqb, ltb, if◌then◌else◌, List, [], ◌∷◌, length, drop, Option, Some, None, option_map, IfSome, arith}
use Rattle.std.specs.Prelude.{pos}
use Rattle.std.specs.Borrow.{Bor}
use Rattle.std.specs.Str.{chars}
use Rattle.std.proofs.lemmas.Bool.Decides.{nat_tests}
use Rattle.std.proofs.lemmas.List.{length-drop}
use Rattle.std.proofs.lemmas.List.Sums.{prefix_len-le-length, prefix_len_stops}
use Rattle.text_defs.specs.Lines.{LineSetting, TextLine, fitting, segment_length, after_space, byte_count, first_length, first_line, is_broken, left_after, after_newline, bytes_to_next, or_else, lines_of, lines}
use Rattle.gui_font.specs.Walks.{IsCut, line_of, bytes_left, StartsWithNewline}
use Rattle.gui_font.specs.LinesLeft.{most_lines, runs_after}
use Rattle.gui_font.proofs.Scanning.{next_at}

or_else_one : (m n : ℕ) → 1 ≤ n → 1 ≤ or_else m n
or_else_one zero n h = h
or_else_one (suc m) n h = omega arith

less_is : (a b : ℕ) → ltb a b ≡ true → a < b
less_is a b h = grind (arith, nat_tests)

-- a line that does not end its segment has a character
pub broken_some : (s : LineSetting) (cs : List ℕ) → is_broken s cs ≡ true → (1 ≤ first_length s cs) × (1 ≤ length cs)
broken_some s cs h =
    let less = less_is _ _ h in
    let most = prefix_len-le-length (λ k. not (eqb k 10)) cs in
    let one = or_else_one (after_space cs (fitting s cs)) (fitting s cs) (omega arith) in
    (rw h one, omega arith)

-- what is left has fewer lines
newline_shorter : (ks : List ℕ) (n : ℕ) → length ks ≤ n → most_lines (after_newline ks) ≤ n
newline_shorter [] n h = omega arith
newline_shorter (c ∷ ks) n h = omega arith

shorter_by : (broken : Bool) (k : ℕ) (cs : List ℕ) → (broken ≡ true → (1 ≤ k) × (1 ≤ length cs)) → most_lines (if broken then Some (drop k cs) else after_newline (drop k cs)) ≤ length cs
shorter_by true k cs some = let h = some refl in omega (arith, length-drop k cs, h.0, h.1)
shorter_by false k cs some = newline_shorter (drop k cs) (length cs) (omega (arith, length-drop k cs))

left_shorter : (s : LineSetting) (cs : List ℕ) → most_lines (left_after s cs) ≤ length cs
left_shorter s cs = shorter_by (is_broken s cs) (first_length s cs) cs (broken_some s cs)

lines_enough : (s : LineSetting) (n m at : ℕ) (left : Option (List ℕ)) → most_lines left ≤ n → most_lines left ≤ m → lines_of s n at left ≡ lines_of s m at left
lines_enough s n m at None a b = refl
lines_enough s zero m at (Some cs) a b = absurd (omega arith)
lines_enough s (suc n) zero at (Some cs) a b = absurd (omega arith)
lines_enough s (suc n) (suc m) at (Some cs) a b =
    let shorter = left_shorter s cs in
    ap (λ (ls : List TextLine). record { start = at; chars = first_line s cs } ∷ ls) (lines_enough s n m (at + bytes_to_next s cs) (left_after s cs) (omega arith) (omega arith))

-- after a segment comes its newline
pub whole_newline : (s : LineSetting) (cs rest : List ℕ) → is_broken s cs ≡ false → rest ≡ drop (first_length s cs) cs → StartsWithNewline rest
whole_newline s cs rest whole is c more e =
    let at = next_at cs (segment_length cs) c more (sym (rw whole at is) ∙ e) in
    let stops = prefix_len_stops (λ k. not (eqb k 10)) cs 0 at.below in
    let here = at.is in
    grind (arith, nat_tests)

lines_more : (s : LineSetting) (n at : ℕ) (cs : List ℕ) → lines_of s (n + 1) at (Some cs) ≡ record { start = at; chars = first_line s cs } ∷ lines_of s n (at + bytes_to_next s cs) (left_after s cs)
lines_more s n at cs = let e : n + 1 ≡ suc n = omega arith in rw e refl

left_is_after : (s : LineSetting) (cs rest : List ℕ) (broken : Bool) → broken ≡ is_broken s cs → rest ≡ drop (first_length s cs) cs → left_after s cs ≡ (if broken then Some rest else after_newline rest)
left_is_after s cs rest broken b e =
    ap (λ (t : Bool). if t then Some (drop (first_length s cs) cs) else after_newline (drop (first_length s cs) cs)) (sym b)
    ∙ ap (λ (ks : List ℕ). if broken then Some ks else after_newline ks) (sym e)

-- the lines of what is left, from where it begins
rest_lines : (s : LineSetting) (n at len skip : ℕ) (rest : List ℕ) (left : Option (Bor (List ℕ))) → IfSome left (λ t. length t.now + skip ≡ length rest) → at + length rest ≡ len + skip →
    most_lines (option_map (λ t. chars t.now) left) ≤ n →
    lines_of s n at (option_map (λ t. chars t.now) left) ≡ lines_of s (most_lines (option_map (λ t. chars t.now) left)) (len - bytes_left left) (option_map (λ t. chars t.now) left)
rest_lines s n at len skip rest None bytes starts fits = refl
rest_lines s n at len skip rest (Some t) bytes starts fits =
    let e : at ≡ len - length t.now = omega arith in
    rw e (lines_enough s n (length (chars t.now) + 1) (len - length t.now) (Some (chars t.now)) fits (omega arith))

pub runs_next : (s : LineSetting) (len count width : ℕ) (text rest : Bor (List ℕ)) (broken : Bool) (left : Option (Bor (List ℕ))) → IsCut s (chars text.now) (length text.now) count width rest.now broken →
    option_map (λ t. chars t.now) left ≡ (if broken then Some (chars rest.now) else after_newline (chars rest.now)) → IfSome left (λ t. length t.now + (if broken then 0 else 1) ≡ length rest.now) →
    length text.now ≤ len →
    runs_after s len (Some text) ≡ record { start = len - length text.now; chars = first_line s (chars text.now) } ∷ runs_after s len left
unfolding runs_after
runs_next s len count width text rest broken left cut left_is bytes fits =
    let cs = chars text.now in
    let at = len - length text.now in
    let taken = cut.ends.taken in
    let is : left_after s cs ≡ option_map (λ t. chars t.now) left = left_is_after s cs (chars rest.now) broken cut.broken_is cut.ends.left ∙ sym left_is in
    let skip : bytes_to_next s cs ≡ byte_count (first_line s cs) + (if broken then 0 else 1) = ap (λ (t : Bool). byte_count (first_line s cs) + (if t then 0 else 1)) (sym cut.broken_is) in
    let few : most_lines (option_map (λ t. chars t.now) left) ≤ length cs = subst (λ (l : Option (List ℕ)). most_lines l ≤ length cs) is (left_shorter s cs) in
    let later = rest_lines s (length cs) (at + bytes_to_next s cs) len (if broken then 0 else 1) rest.now left bytes (omega arith) few in
    lines_more s (length cs) at cs
    ∙ (ap (λ (l : Option (List ℕ)). record { start = at; chars = first_line s cs } ∷ lines_of s (length cs) (at + bytes_to_next s cs) l) is
    ∙ ap (λ (ls : List TextLine). record { start = at; chars = first_line s cs } ∷ ls) later)

-- the first line as its bytes and its width
pub line_is : (s : LineSetting) (len count width : ℕ) (text rest : Bor (List ℕ)) (broken : Bool) → IsCut s (chars text.now) (length text.now) count width rest.now broken → length text.now ≤ len →
    record { start = len - length text.now; «end» = len - length rest.now; width = pos width } ≡ line_of s (record { start = len - length text.now; chars = first_line s (chars text.now) })
line_is s len count width text rest broken cut fits =
    let at = len - length text.now in
    let taken = cut.ends.taken in
    let ends : len - length rest.now ≡ at + byte_count (first_line s (chars text.now)) = omega arith in
    rw (ends, cut.ends.width_is) refl

pub runs_first : (s : LineSetting) (text : Bor (List ℕ)) → runs_after s (length text.now) (Some text) ≡ lines s (chars text.now)
unfolding runs_after lines
runs_first s text = ap (λ (n : ℕ). lines_of s (length (chars text.now) + 1) n (Some (chars text.now))) (omega arith)

pub runs_none : (s : LineSetting) (len : ℕ) → runs_after s len None ≡ []
unfolding runs_after
runs_none s len = refl
