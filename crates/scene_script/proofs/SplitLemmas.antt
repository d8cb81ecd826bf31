-- How words that begin with no dash are split: the first three by their names, and a list of what follows them.
use Rattle.std.proofs.Common.{◌≡◌, ◌∙◌, refl, ap, ap₂, ℕ, Bool, true, false, true≢false, ◌≤◌, ◌&&◌, ◌||◌, List, [], ◌∷◌, ◌++◌, length, drop, arith, append_assoc}
use Rattle.std.specs.Prelude.{Some, None, codes, slice_get, unwrap_or, fold, is_some, if◌then◌else◌, option_and_then}
use Rattle.std.specs.Option.{option_map_or}
use Rattle.std.specs.Str.{bytes_eq}
use Rattle.clap.specs.Lexer.{strip_byte, long_of, long_of_rest, short_of, short_of_rest}
use Rattle.std.specs.declared.option.Option.{Option}
use Rattle.std.specs.List.{list_any, list_all}
use Rattle.clap.specs.Walk.{Held, Row, Rule, Text, Walk, Waiting, Step, idle, positional, option, value, trailing, subcommand_met, subcommand_or_other, long_or_other, short_or_plain, plain_word, walked, walk_from, word_met, after_step, to_positional, arg_by_index, finished, nothing_held, reading_by, rows_of, first_of, all_of}
use Rattle.clap.specs.Simple.{Shape, built, matches_of, is_simple, entered}
use Rattle.clap.specs.Takes.{takes, walk_passes, turn_passes, word_passes, step_passes, settle_passes, entered_passes, other_passes, flag_word_passes, bundle_passes, default_passes, is_valid}
use Rattle.clap.specs.Matches.{first_value}
use Rattle.clap.specs.declared.parser.matches.Found.{Found}
use Rattle.clap.specs.declared.parser.matches.ValueSource.TheVariants.{CommandLine}
use Rattle.clap.proofs.WalkLemmas.{first_value-rows, raw_values-rows}
use Rattle.scene_script.specs.CommandLine.{begins_with_dash, further_rule, needed, scene_app, Splits}

-- ---- the command

abbrev width_rule : Rule
width_rule = needed (codes "width")

abbrev height_rule : Rule
height_rule = needed (codes "height")

abbrev lines_rule : Rule
lines_rule = needed (codes "lines")

abbrev shape : Shape
shape = (built scene_app).top

abbrev rules : List Rule
rules = shape.rules

pub simple : is_simple scene_app ≡ true
simple = refl

-- ---- one word

data Ready : Waiting → Type 0 where
  idly : Ready idle
  further : Ready positional

abbrev at : ℕ → Waiting → Held → Walk
at position waiting h = record { held = h; waiting = waiting; position = position; is_trailing = false; stopped = None }

no_dashes : (word : Text) → begins_with_dash word ≡ false → bytes_eq word (45 ∷ 45 ∷ []) ≡ false
no_dashes [] e = refl
no_dashes (b ∷ bs) e = ap (λ (x : Bool). x && bytes_eq bs (45 ∷ [])) e

no_dash : (word : Text) → begins_with_dash word ≡ false → strip_byte 45 word ≡ None
no_dash [] e = refl
no_dash (b ∷ bs) e = ap (λ (x : Bool). if x then Some bs else None) e

no_long : (word : Text) → begins_with_dash word ≡ false → long_of word ≡ None
no_long word e = ap (λ (o : Option Text). option_and_then long_of_rest (option_and_then (strip_byte 45) o)) (no_dash word e)

no_short : (word : Text) → begins_with_dash word ≡ false → short_of word ≡ None
no_short word e = ap (λ (o : Option Text). option_and_then short_of_rest o) (no_dash word e)

value_met : (waiting : Waiting) (word : Text) (h : Held) → Ready waiting → plain_word rules waiting word h ≡ (h, value)
value_met idle word h r = refl
value_met positional word h r = refl
value_met (option id) word h r = elim r [ ]

no_name : (waiting : Waiting) (word : Text) → Ready waiting → subcommand_met [] waiting word ≡ None
no_name idle word r = refl
no_name positional word r = refl
no_name (option id) word r = elim r [ ]

-- a word is a value
word_is_value : (waiting : Waiting) (position : ℕ) (word : Text) (h : Held) → Ready waiting → begins_with_dash word ≡ false →
    word_met rules [] false waiting position word h ≡ (h, value)
word_is_value waiting position word h r e =
    ap (λ (o : Option Text). subcommand_or_other rules o waiting position word h) (no_name waiting word r)
    ∙ ap (λ (x : Bool). if x then (h, trailing position) else long_or_other rules waiting word (long_of word) h) (no_dashes word e)
    ∙ ap (λ (o : Option (Text × Option Text)). long_or_other rules waiting word o h) (no_long word e)
    ∙ ap (λ (o : Option Text). short_or_plain rules waiting word o h) (no_short word e)
    ∙ value_met waiting word h r

-- ---- what is held after words

abbrev row : Rule → List Text → Row
row a values = record { id = a.id; values = values; count = None; source = Some CommandLine; reading = reading_by a }

abbrev further_rows : List Text → List Row
further_rows [] = []
further_rows (word ∷ words) = row further_rule (word ∷ words) ∷ []

abbrev three_rows : Text → Text → Text → List Row
three_rows a b d = row width_rule (a ∷ []) ∷ row height_rule (b ∷ []) ∷ row lines_rule (d ∷ []) ∷ []

-- these rows, and one more word of an argument
abbrev held : List Row → Rule → Text → Held
held rows a word = record { rows = rows; pending = Some (a.id, word ∷ []); skip = 0 }

-- the walk after further words, the last of which is this one
abbrev in_further : Text → Text → Text → List Text → Text → Walk
in_further a b d seen last = at 4 positional (held (three_rows a b d ++ further_rows seen) further_rule last)

-- a word goes to the argument of its place
goes : (waiting : Waiting) (position : ℕ) (h : Held) (word : Text) → Ready waiting → begins_with_dash word ≡ false →
    walked rules [] (at position waiting h) word ≡ to_positional rules (arg_by_index rules position) word (at position waiting h) h
unfolding walked
goes waiting position h word r e =
    ap (λ (met : Held × Step). after_step rules word (at position waiting h) met.0 met.1) (word_is_value waiting position word h r e)

walked_1 : (a : Text) → begins_with_dash a ≡ false → walked rules [] (walk_from nothing_held) a ≡ at 2 idle (held [] width_rule a)
walked_1 a p = goes idle 1 nothing_held a idly p

walked_2 : (a b : Text) → begins_with_dash b ≡ false →
    walked rules [] (at 2 idle (held [] width_rule a)) b ≡ at 3 idle (held (row width_rule (a ∷ []) ∷ []) height_rule b)
walked_2 a b p = goes idle 2 (held [] width_rule a) b idly p

abbrev two_rows : Text → Text → List Row
two_rows a b = row width_rule (a ∷ []) ∷ row height_rule (b ∷ []) ∷ []

walked_3 : (a b d : Text) → begins_with_dash d ≡ false →
    walked rules [] (at 3 idle (held (row width_rule (a ∷ []) ∷ []) height_rule b)) d ≡ at 4 idle (held (two_rows a b) lines_rule d)
walked_3 a b d p = goes idle 3 (held (row width_rule (a ∷ []) ∷ []) height_rule b) d idly p

walked_4 : (a b d u : Text) → begins_with_dash u ≡ false →
    walked rules [] (at 4 idle (held (two_rows a b) lines_rule d)) u ≡ in_further a b d [] u
walked_4 a b d u p = goes idle 4 (held (two_rows a b) lines_rule d) u idly p

walked_on : (a b d : Text) (seen : List Text) (last u : Text) → begins_with_dash u ≡ false →
    walked rules [] (in_further a b d seen last) u ≡ in_further a b d (seen ++ last ∷ []) u
walked_on a b d [] last u p = goes positional 4 (held (three_rows a b d) further_rule last) u further p
walked_on a b d (s ∷ seen) last u p = goes positional 4 (held (three_rows a b d ++ further_rows (s ∷ seen)) further_rule last) u further p

-- ---- all words

or_false : (a b : Bool) → (a || b) ≡ false → (a ≡ false) × (b ≡ false)
or_false true b e = absurd (true≢false e)
or_false false b e = (refl, e)

abbrev walk_on : Walk → List Text → Walk
walk_on w words = fold (walked rules []) w words

-- the walk is after these further words
record Ends (a b d : Text) (words : List Text) (w : Walk) : Type 0 where
  seen : List Text
  last : Text
  all : seen ++ last ∷ [] ≡ words
  is : w ≡ in_further a b d seen last

ends : (a b d : Text) (seen : List Text) (last : Text) (words : List Text) → list_any begins_with_dash words ≡ false →
    Ends a b d (seen ++ last ∷ words) (walk_on (in_further a b d seen last) words)
ends a b d seen last [] p = record { seen = seen; last = last; all = refl; is = refl }
ends a b d seen last (u ∷ words) p =
    let both = or_false (begins_with_dash u) (list_any begins_with_dash words) p in
    let rest = ends a b d (seen ++ last ∷ []) u words both.1 in
    record {
      seen = rest.seen;
      last = rest.last;
      all = rest.all ∙ append_assoc seen (last ∷ []) (u ∷ words);
      is = ap (λ (w : Walk). walk_on w words) (walked_on a b d seen last u both.0) ∙ rest.is;
    }

walk_2 : (a b : Text) (words : List Text) → begins_with_dash a ≡ false → begins_with_dash b ≡ false →
    walk_on (walk_from nothing_held) (a ∷ b ∷ words) ≡ walk_on (at 3 idle (held (row width_rule (a ∷ []) ∷ []) height_rule b)) words
walk_2 a b words p q =
    ap (λ (w : Walk). walk_on w (b ∷ words)) (walked_1 a p) ∙ ap (λ (w : Walk). walk_on w words) (walked_2 a b q)

walk_3 : (a b d : Text) (words : List Text) → begins_with_dash a ≡ false → begins_with_dash b ≡ false → begins_with_dash d ≡ false →
    walk_on (walk_from nothing_held) (a ∷ b ∷ d ∷ words) ≡ walk_on (at 4 idle (held (two_rows a b) lines_rule d)) words
walk_3 a b d words p q r = walk_2 a b (d ∷ words) p q ∙ ap (λ (w : Walk). walk_on w words) (walked_3 a b d r)

-- the rows of all words
abbrev split_rows : List Text → List Row
split_rows [] = []
split_rows (a ∷ []) = row width_rule (a ∷ []) ∷ []
split_rows (a ∷ b ∷ []) = two_rows a b
split_rows (a ∷ b ∷ d ∷ words) = three_rows a b d ++ further_rows words

abbrev end_rows : Walk → List Row
end_rows w = finished rules w.held

rows_in_further : (a b d : Text) (seen : List Text) (last : Text) →
    end_rows (in_further a b d seen last) ≡ three_rows a b d ++ further_rows (seen ++ last ∷ [])
rows_in_further a b d [] last = refl
rows_in_further a b d (s ∷ seen) last = refl

rows_at_end : (a b d : Text) (words : List Text) (w : Walk) → Ends a b d words w → end_rows w ≡ three_rows a b d ++ further_rows words
rows_at_end a b d words w e =
    ap end_rows e.is ∙ rows_in_further a b d e.seen e.last ∙ ap (λ (ws : List Text). three_rows a b d ++ further_rows ws) e.all

rows_split : (words : List Text) → list_any begins_with_dash words ≡ false → matches_of scene_app words ≡ split_rows words
rows_split [] p = refl
rows_split (a ∷ []) p =
    let first = or_false (begins_with_dash a) false p in
    ap end_rows (walked_1 a first.0)
rows_split (a ∷ b ∷ []) p =
    let first = or_false (begins_with_dash a) _ p in
    let second = or_false (begins_with_dash b) _ first.1 in
    ap end_rows (walk_2 a b [] first.0 second.0)
rows_split (a ∷ b ∷ d ∷ []) p =
    let first = or_false (begins_with_dash a) _ p in
    let second = or_false (begins_with_dash b) _ first.1 in
    let third = or_false (begins_with_dash d) _ second.1 in
    ap end_rows (walk_3 a b d [] first.0 second.0 third.0)
rows_split (a ∷ b ∷ d ∷ u ∷ words) p =
    let first = or_false (begins_with_dash a) _ p in
    let second = or_false (begins_with_dash b) _ first.1 in
    let third = or_false (begins_with_dash d) _ second.1 in
    let fourth = or_false (begins_with_dash u) _ third.1 in
    ap end_rows (walk_3 a b d (u ∷ words) first.0 second.0 third.0 ∙ ap (λ (w : Walk). walk_on w words) (walked_4 a b d u fourth.0))
    ∙ rows_at_end a b d (u ∷ words) _ (ends a b d [] u words fourth.1)

-- what the getters read
split_reads : (words : List Text) → (first_of (codes "width") (split_rows words) ≡ slice_get words 0)
    × (first_of (codes "height") (split_rows words) ≡ slice_get words 1) × (first_of (codes "lines") (split_rows words) ≡ slice_get words 2)
    × (unwrap_or (all_of (codes "further") (split_rows words)) [] ≡ drop 3 words)
split_reads [] = (refl, refl, refl, refl)
split_reads (a ∷ []) = (refl, refl, refl, refl)
split_reads (a ∷ b ∷ []) = (refl, refl, refl, refl)
split_reads (a ∷ b ∷ d ∷ []) = (refl, refl, refl, refl)
split_reads (a ∷ b ∷ d ∷ u ∷ words) = (refl, refl, refl, refl)

pub splits : (words : List Text) (found : Found) → list_any begins_with_dash words ≡ false → rows_of found ≡ matches_of scene_app words → Splits words found
splits words found p e =
    let rows = e ∙ rows_split words p in
    let reads = split_reads words in
    let value : (id : Text) → first_value found id ≡ first_of id (split_rows words) = λ id. first_value-rows found id ∙ ap (first_of id) rows in
    record {
      width = value (codes "width") ∙ reads.0;
      height = value (codes "height") ∙ reads.1;
      lines = value (codes "lines") ∙ reads.2;
      further = ap (λ (o : Option (List Text)). unwrap_or o []) (raw_values-rows found (codes "further") ∙ ap (all_of (codes "further")) rows) ∙ reads.3;
    }

-- ---- the parse passes

plain_passes : (waiting : Waiting) (word : Text) (h : Held) → Ready waiting → begins_with_dash word ≡ false → word_passes shape [] false waiting word h ≡ true
plain_passes waiting word h r e =
    ap (λ (o : Option Text). other_passes shape o word h) (no_name waiting word r)
    ∙ ap (λ (x : Bool). x || flag_word_passes rules false (long_of word) word h) (no_dashes word e)
    ∙ ap (λ (o : Option (Text × Option Text)). flag_word_passes rules false o word h) (no_long word e)
    ∙ ap (λ (o : Option Text). option_map_or (λ flags. bundle_passes rules false flags h) o true) (no_short word e)

turn : (waiting : Waiting) (position : ℕ) (h : Held) (word : Text) → Ready waiting → begins_with_dash word ≡ false →
    turn_passes shape [] (at position waiting h) word ≡ step_passes shape position h value
turn waiting position h word r e =
    ap₂ (λ (b : Bool) (met : Held × Step). b && step_passes shape position met.0 met.1) (plain_passes waiting word h r e) (word_is_value waiting position word h r e)

passes_more : (w after : Walk) (word : Text) (words : List Text) → turn_passes shape [] w word ≡ true → walked rules [] w word ≡ after →
    walk_passes shape [] after words ≡ true → walk_passes shape [] w (word ∷ words) ≡ true
unfolding walk_passes
passes_more w after word words t e p = ap₂ (λ (x : Bool) (y : Bool). x && y) t (ap (λ (v : Walk). walk_passes shape [] v words) e ∙ p)

none_passes : (w : Walk) → walk_passes shape [] w [] ≡ true
unfolding walk_passes
none_passes w = refl

passes_on : (a b d : Text) (seen : List Text) (last : Text) (words : List Text) → list_any begins_with_dash words ≡ false →
    walk_passes shape [] (in_further a b d seen last) words ≡ true
passes_on a b d seen last [] p = none_passes (in_further a b d seen last)
passes_on a b d seen last (u ∷ words) p =
    let both = or_false (begins_with_dash u) (list_any begins_with_dash words) p in
    passes_more (in_further a b d seen last) (in_further a b d (seen ++ last ∷ []) u) u words
    (turn positional 4 (held (three_rows a b d ++ further_rows seen) further_rule last) u further both.0)
    (walked_on a b d seen last u both.0) (passes_on a b d (seen ++ last ∷ []) u words both.1)

passes_rest : (a b d : Text) (words : List Text) → list_any begins_with_dash words ≡ false →
    walk_passes shape [] (at 4 idle (held (two_rows a b) lines_rule d)) words ≡ true
passes_rest a b d [] p = none_passes (at 4 idle (held (two_rows a b) lines_rule d))
passes_rest a b d (u ∷ words) p =
    let both = or_false (begins_with_dash u) (list_any begins_with_dash words) p in
    passes_more (at 4 idle (held (two_rows a b) lines_rule d)) (in_further a b d [] u) u words
    (turn idle 4 (held (two_rows a b) lines_rule d) u idly both.0) (walked_4 a b d u both.0) (passes_on a b d [] u words both.1)

passes_all : (a b d : Text) (words : List Text) → begins_with_dash a ≡ false → begins_with_dash b ≡ false → begins_with_dash d ≡ false →
    list_any begins_with_dash words ≡ false → walk_passes shape [] (walk_from nothing_held) (a ∷ b ∷ d ∷ words) ≡ true
passes_all a b d words p q r rest =
    passes_more (walk_from nothing_held) (at 2 idle (held [] width_rule a)) a (b ∷ d ∷ words) (turn idle 1 nothing_held a idly p) (walked_1 a p)
    (passes_more (at 2 idle (held [] width_rule a)) (at 3 idle (held (row width_rule (a ∷ []) ∷ []) height_rule b)) b (d ∷ words)
    (turn idle 2 (held [] width_rule a) b idly q) (walked_2 a b q)
    (passes_more (at 3 idle (held (row width_rule (a ∷ []) ∷ []) height_rule b)) (at 4 idle (held (two_rows a b) lines_rule d)) d words
    (turn idle 3 (held (row width_rule (a ∷ []) ∷ []) height_rule b) d idly r) (walked_3 a b d r) (passes_rest a b d words rest)))

-- what is asked at the end of a walk
abbrev end_passes : Walk → Bool → Bool
end_passes w passed = entered_passes (built scene_app) w.stopped && (passed && (settle_passes rules false w.held
    && (list_all default_passes rules && is_valid shape (finished rules w.held) (is_some (entered (built scene_app) w.stopped)))))

ends_in_further : (a b d : Text) (seen : List Text) (last : Text) → end_passes (in_further a b d seen last) true ≡ true
ends_in_further a b d [] last = refl
ends_in_further a b d (s ∷ seen) last = refl

walk_ends : (a b d : Text) (words : List Text) → list_any begins_with_dash words ≡ false →
    end_passes (walk_on (at 4 idle (held (two_rows a b) lines_rule d)) words) true ≡ true
walk_ends a b d [] p = refl
walk_ends a b d (u ∷ words) p =
    let both = or_false (begins_with_dash u) (list_any begins_with_dash words) p in
    let end = ends a b d [] u words both.1 in
    ap (λ (w : Walk). end_passes w true) (ap (λ (w : Walk). walk_on w words) (walked_4 a b d u both.0) ∙ end.is)
    ∙ ends_in_further a b d end.seen end.last

taken_3 : (a b d : Text) (words : List Text) → begins_with_dash a ≡ false → begins_with_dash b ≡ false → begins_with_dash d ≡ false →
    list_any begins_with_dash words ≡ false → takes scene_app (a ∷ b ∷ d ∷ words) ≡ true
taken_3 a b d words p q r rest =
    ap₂ end_passes (walk_3 a b d words p q r) (passes_all a b d words p q r rest) ∙ walk_ends a b d words rest

pub taken : (words : List Text) → list_any begins_with_dash words ≡ false → 3 ≤ length words → takes scene_app words ≡ true
taken [] p h = absurd (omega arith)
taken (a ∷ []) p h = absurd (omega arith)
taken (a ∷ b ∷ []) p h = absurd (omega arith)
taken (a ∷ b ∷ d ∷ words) p h =
    let first = or_false (begins_with_dash a) _ p in
    let second = or_false (begins_with_dash b) _ first.1 in
    let third = or_false (begins_with_dash d) _ second.1 in
    taken_3 a b d words first.0 second.0 third.0 third.1
