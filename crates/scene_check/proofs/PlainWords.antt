-- The words of the lines of a scene are words of a line.
use Rattle.std.proofs.Common.{◌≡◌, refl, sym, subst, ℕ, ℤ, suc, ◌+◌, ◌<◌, ◌^◌, true, false, not, Bool, ◌&&◌, ◌||◌, List, [], ◌∷◌, cond, take, drop, arith}
use Rattle.std.specs.Prelude.{Some, None, is_some, bytes_eq, codes, option_map, if◌then◌else◌}
use Rattle.std.specs.Fmt.{signed_decimal}
use Rattle.std.specs.List.{list_all, list_any, slice_split, before_first, after_first, onto_first, position_or_len}
use Rattle.std.specs.Option.{option_and_then, option_zip}
use Rattle.std.specs.declared.option.Option.{Option}
use Rattle.std.proofs.lemmas.Bool.Decides.{nat_tests}
use Rattle.std.proofs.lemmas.Slice.Eq.{bytes_eq-Decides}
use Rattle.gui_base.specs.Bits.{has_bit, with_bit, state_bit}
use Rattle.gui_base.specs.Names.{Names, table, named}
use Rattle.gui_base.specs.declared.props.Prop.{Prop}
use Rattle.gui_base.specs.declared.props.TheConstants.{PROPS}
use Rattle.gui_base.specs.declared.words.Part.{Part}
use Rattle.gui_base.specs.declared.words.State.{State}
use Rattle.gui_base.specs.declared.words.TheConstants.{PARTS, STATES}
use Rattle.run_defs.specs.Language.{Word, is_quote}
use Rattle.run_defs.specs.Selectors.{is_plus, is_colon, part_in, state_named}
use Rattle.serde_json.specs.Data.{Data}
use Rattle.serde_json.specs.Find.{as_str, as_object, get}
use Rattle.line_texts.specs.LineTexts.{is_letter, is_plain}
use Rattle.line_texts.proofs.Plain.{prints_words}
use Rattle.scene_json.specs.Scenes.{head, has_keys, is_node_key}
use Rattle.scene_json.specs.Words.{that, either, integer, number_word, string_word, is_share, extent_word, is_zero, font_word, is_string_prop, is_font, value_word, prop_named, with_new_states, are_states, is_selector}
use Rattle.scene_check.specs.Integers.{are_short}
use Rattle.scene_check.proofs.Holding.{both_hold, Or}
use Rattle.scene_check.proofs.Integers.{short_integer, some_below}
use lib.Signed.{mag}

-- Names of tables.

named_plain : {A : Type 0} (names : Names A) (word : Word) → list_all (λ (t : Word × A). is_plain t.0) names ≡ true → is_some (named names word) ≡ true → is_plain word ≡ true
unfolding named
named_plain [] word h e = cc
named_plain {A} (t ∷ names) word h e =
    let two = both_hold (is_plain t.0) (list_all (λ (t : Word × A). is_plain t.0) names) h in
    by (bytes_eq word t.0) refl two.0 (named_plain names word two.1) e where
      by : (b : Bool) → bytes_eq word t.0 ≡ b → is_plain t.0 ≡ true → (is_some (named names word) ≡ true → is_plain word ≡ true) → is_some (if b then Some t.1 else named names word) ≡ true → is_plain word ≡ true
      by true is p f e = subst (λ (w : Word). is_plain w ≡ true) (sym ((bytes_eq-Decides word t.0).0 is)) p
      by false is p f e = f e

some_is : {A : Type 0} (o : Option A) (a : A) → o ≡ Some a → is_some o ≡ true
some_is None a e = cc
some_is (Some b) a e = refl

pub plain_prop : (name : Word) (p : Prop) → prop_named name ≡ Some p → is_plain name ≡ true
unfolding prop_named
plain_prop name p e = named_plain (table {A = Prop} PROPS) name refl (some_is (named (table {A = Prop} PROPS) name) p e)

-- Selectors.

plain_letters : (word : Word) → is_plain word ≡ true → list_all is_letter word ≡ true
plain_letters [] h = cc
plain_letters (b ∷ bs) h = (both_hold (not (is_quote b)) (list_all is_letter (b ∷ bs)) h).1

abbrev all_letters : List Word → Bool
all_letters words = list_all (λ word. list_all is_letter word) words

state_letters : (name : Word) (s : State) → state_named name ≡ Some s → list_all is_letter name ≡ true
unfolding state_named
state_letters name s e = plain_letters name (named_plain (table {A = State} STATES) name refl (some_is (named (table {A = State} STATES) name) s e))

states_letters : (set : ℕ) (names : List Word) → is_some (with_new_states set names) ≡ true → all_letters names ≡ true
states_letters set [] h = refl
states_letters set (name ∷ names) h = by (state_named name) refl (λ later. states_letters later names) h where
  in_set : (b : Bool) (s : State) → ((later : ℕ) → is_some (with_new_states later names) ≡ true → all_letters names ≡ true) → list_all is_letter name ≡ true →
      is_some (if b then None else with_new_states (with_bit set (state_bit s) true) names) ≡ true → all_letters (name ∷ names) ≡ true
  in_set true s k l h = cc
  in_set false s k l h = rw l (k (with_bit set (state_bit s) true) h)

  by : (o : Option State) → state_named name ≡ o → ((later : ℕ) → is_some (with_new_states later names) ≡ true → all_letters names ≡ true) →
      is_some (option_and_then (λ state. if has_bit set (state_bit state) then None else with_new_states (with_bit set (state_bit state) true) names) o) ≡ true → all_letters (name ∷ names) ≡ true
  by None e k h = cc
  by (Some s) e k h = in_set (has_bit set (state_bit s)) s k (state_letters name s e) h

onto_letters : (x : ℕ) (pieces : List Word) → all_letters (onto_first x pieces) ≡ true → (is_letter x ≡ true) × (all_letters pieces ≡ true)
onto_letters x [] h = ((both_hold (is_letter x) true (both_hold (is_letter x && true) true h).0).0, refl)
onto_letters x (piece ∷ pieces) h =
    let two = both_hold (is_letter x && list_all is_letter piece) (all_letters pieces) h in
    let first = both_hold (is_letter x) (list_all is_letter piece) two.0 in
    (first.0, rw (first.1) two.1)

plus_letter : (x : ℕ) → is_plus x ≡ true → is_letter x ≡ true
plus_letter x h = grind (arith, nat_tests, h)

pieces_letters : (xs : List ℕ) → all_letters (slice_split is_plus xs) ≡ true → list_all is_letter xs ≡ true
pieces_letters [] h = refl
pieces_letters (x ∷ xs) h = by (is_plus x) refl (pieces_letters xs) h where
  by : (b : Bool) → is_plus x ≡ b → (all_letters (slice_split is_plus xs) ≡ true → list_all is_letter xs ≡ true) → all_letters (cond b ([] ∷ slice_split is_plus xs) (onto_first x (slice_split is_plus xs))) ≡ true → list_all is_letter (x ∷ xs) ≡ true
  by true e k h = rw (plus_letter x e) (k h)
  by false e k h = let two = onto_letters x (slice_split is_plus xs) h in rw (two.0) (k two.1)

colon_letter : (x : ℕ) → is_colon x ≡ true → is_letter x ≡ true
colon_letter x h = grind (arith, nat_tests, h)

take_later : (x : ℕ) (xs : List ℕ) (n i : ℕ) → i ≡ suc n → take i (x ∷ xs) ≡ x ∷ take n xs
take_later x xs n i e = rw e refl

drop_later : (x : ℕ) (xs : List ℕ) (n i : ℕ) → i ≡ suc n → drop i (x ∷ xs) ≡ drop n xs
drop_later x xs n i e = rw e refl

-- what stands before and after the first colon, where it is the first byte, and where it is another
at_colon : (x : ℕ) (xs : List ℕ) → is_colon x ≡ true → (before_first is_colon (x ∷ xs) ≡ []) × (after_first is_colon (x ∷ xs) ≡ xs)
at_colon x xs e = (rw e refl, rw e refl)

past_other : (x : ℕ) (xs : List ℕ) → is_colon x ≡ false → (before_first is_colon (x ∷ xs) ≡ x ∷ before_first is_colon xs) × (after_first is_colon (x ∷ xs) ≡ after_first is_colon xs)
past_other x xs e =
    let n = position_or_len is_colon xs in
    (rw e (take_later x xs n (1 + n) (omega arith)), rw e (drop_later x xs (n + 1) (1 + n + 1) (omega arith)))

abbrev Letters : List ℕ → Type 0
Letters xs = list_all is_letter xs ≡ true

without_colon : (xs : List ℕ) → list_any is_colon xs ≡ false → Letters (before_first is_colon xs) → Letters xs
without_colon [] e h = refl
without_colon (x ∷ xs) e h = by (is_colon x) refl (without_colon xs) e h where
  by : (b : Bool) → is_colon x ≡ b → (list_any is_colon xs ≡ false → Letters (before_first is_colon xs) → Letters xs) →
      (b || list_any is_colon xs) ≡ false → Letters (before_first is_colon (x ∷ xs)) → Letters (x ∷ xs)
  by true is f e h = cc
  by false is f e h =
      let two = both_hold (is_letter x) (list_all is_letter (before_first is_colon xs)) (subst Letters (past_other x xs is).0 h) in
      rw (two.0) (f e two.1)

around_colon : (xs : List ℕ) → Letters (before_first is_colon xs) → Letters (after_first is_colon xs) → Letters xs
around_colon [] h k = refl
around_colon (x ∷ xs) h k = by (is_colon x) refl (around_colon xs) h k where
  by : (b : Bool) → is_colon x ≡ b → (Letters (before_first is_colon xs) → Letters (after_first is_colon xs) → Letters xs) →
      Letters (before_first is_colon (x ∷ xs)) → Letters (after_first is_colon (x ∷ xs)) → Letters (x ∷ xs)
  by true is f h k = rw (colon_letter x is) (subst Letters (at_colon x xs is).1 k)
  by false is f h k =
      let two = both_hold (is_letter x) (list_all is_letter (before_first is_colon xs)) (subst Letters (past_other x xs is).0 h) in
      rw (two.0) (f two.1 (subst Letters (past_other x xs is).1 k))

plain_from : (xs : List ℕ) → is_plain (before_first is_colon xs) ≡ true → Letters xs → is_plain xs ≡ true
plain_from [] h k = h
plain_from (x ∷ xs) h k = by (is_colon x) refl h where
  by : (b : Bool) → is_colon x ≡ b → is_plain (before_first is_colon (x ∷ xs)) ≡ true → is_plain (x ∷ xs) ≡ true
  by true is h = let none : is_plain [] ≡ true = subst (λ (word : Word). is_plain word ≡ true) (at_colon x xs is).0 h in cc
  by false is h =
      let first = both_hold (not (is_quote x)) (list_all is_letter (x ∷ before_first is_colon xs)) (subst (λ (word : Word). is_plain word ≡ true) (past_other x xs is).0 h) in
      rw (first.0) k

pub plain_selector : (word : Word) → is_selector word ≡ true → is_plain word ≡ true
plain_selector word h =
    let two = both_hold (is_some (part_in word)) (if list_any is_colon word then are_states (slice_split is_plus (after_first is_colon word)) else true) h in
    let before : is_plain (before_first is_colon word) ≡ true = named_plain (table {A = Part} PARTS) (before_first is_colon word) refl two.0 in
    plain_from word before (by (list_any is_colon word) refl (plain_letters (before_first is_colon word) before) two.1) where
      by : (b : Bool) → list_any is_colon word ≡ b → list_all is_letter (before_first is_colon word) ≡ true →
          (if b then are_states (slice_split is_plus (after_first is_colon word)) else true) ≡ true → list_all is_letter word ≡ true
      by true e l h = around_colon word l (pieces_letters (after_first is_colon word) (states_letters 0 (slice_split is_plus (after_first is_colon word)) h))
      by false e l h = without_colon word e l

-- Values.

-- what is so of a word, where there is one
abbrev pub PlainOr : Option Word → Type 0
PlainOr word = Or is_plain word

plain_that : (test : Word → Bool) (o : Option Word) → PlainOr o → PlainOr (that test o)
plain_that test None h = tt
plain_that test (Some word) h = by (test word) h where
  by : (b : Bool) → is_plain word ≡ true → PlainOr (if b then Some word else None)
  by true h = h
  by false h = tt

plain_either : (a b : Option Word) → PlainOr a → PlainOr b → PlainOr (either a b)
plain_either None b h k = k
plain_either (Some a) b h k = h

pub plain_id : (n : ℤ) → mag n < 2 ^ 63 → is_plain (signed_decimal n) ≡ true
plain_id n h = prints_words.number n h

pub plain_number : (d : Data) → are_short d ≡ true → PlainOr (number_word d)
plain_number d s = by (integer d) refl where
  by : (o : Option ℤ) → integer d ≡ o → PlainOr (option_map signed_decimal o)
  by None e = tt
  by (Some n) e = plain_id n (short_integer d n s e)

pub plain_string : (d : Data) → PlainOr (string_word d)
plain_string d = by (as_str d) where
  is : (word : Word) (b : Bool) → is_plain word ≡ b → PlainOr (if b then Some word else None)
  is word true e = e
  is word false e = tt

  by : (o : Option (List ℕ)) → PlainOr (that is_plain o)
  by None = tt
  by (Some word) = is word (is_plain word) refl

pub plain_extent : (d : Data) → are_short d ≡ true → PlainOr (extent_word d)
plain_extent d s = plain_either (number_word d) (that is_share (string_word d)) (plain_number d s) (plain_that is_share (string_word d) (plain_string d))

pub plain_value : (p : Prop) (d : Data) → are_short d ≡ true → PlainOr (value_word p d)
plain_value p d s = by (is_string_prop p) (is_font p) where
  by : (a b : Bool) → PlainOr (if a then string_word d else if b then font_word d else number_word d)
  by true b = plain_string d
  by false true = plain_that is_zero (number_word d) (plain_number d s)
  by false false = plain_number d s

-- The number and the kind of a node.

abbrev pub HeadOr : Option (ℤ × Word) → Type 0
HeadOr None = Unit {0}
HeadOr (Some t) = (mag t.0 < 2 ^ 63) × (is_plain t.1 ≡ true)

-- a number that fits 64 bits
abbrev ShortOr : Option ℤ → Type 0
ShortOr None = Unit {0}
ShortOr (Some n) = mag n < 2 ^ 63

short_at : (d : Option Data) → Or are_short d → ShortOr (option_and_then integer d)
short_at None s = tt
short_at (Some d) s = by (integer d) refl where
  by : (o : Option ℤ) → integer d ≡ o → ShortOr o
  by None e = tt
  by (Some n) e = short_integer d n s e

plain_at : (d : Option Data) → PlainOr (option_and_then string_word d)
plain_at None = tt
plain_at (Some d) = plain_string d

zipped : (n : Option ℤ) (word : Option Word) → ShortOr n → PlainOr word → HeadOr (option_zip n word)
zipped None None h k = tt
zipped None (Some word) h k = tt
zipped (Some n) None h k = tt
zipped (Some n) (Some word) h k = (h, k)

pub plain_head : (d : Data) → are_short d ≡ true → HeadOr (head d)
plain_head d s = by (has_keys is_node_key (as_object d)) where
  by : (b : Bool) → HeadOr (if b then option_zip (option_and_then integer (get (codes "id") d)) (option_and_then string_word (get (codes "kind") d)) else None)
  by true = zipped (option_and_then integer (get (codes "id") d)) (option_and_then string_word (get (codes "kind") d)) (short_at (get (codes "id") d) (some_below (codes "id") d s)) (plain_at (get (codes "kind") d))
  by false = tt
