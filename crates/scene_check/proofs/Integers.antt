-- The integers of what is read of JSON fit 64 bits.
use Rattle.std.proofs.Common.{◌≡◌, refl, subst, ℕ, zero, suc, ◌<◌, ◌^◌, true, false, Bool, ◌&&◌, List, drop, Ordering, Less, Equal, Greater, arith}
use Rattle.std.specs.Prelude.{ℤ, pos, Some, None, nat_lt, nat_le, if◌then◌else◌, option_map, option_and_then}
use Rattle.std.specs.declared.option.Option.{Option}
use Rattle.std.specs.Ordering.{match_ordering, nat_cmp}
use Rattle.std.specs.Cmp.Lexicographic.{slice_cmp}
use Rattle.std.proofs.lemmas.Bool.Decides.{nat_tests}
use Rattle.fast_float.specs.Text.{scan, with_sign, Parts, digits_of}
use Rattle.json.specs.Json as json
use Rattle.json.specs.Lex.{tokens}
use Rattle.serde_json.specs.Data.{Num, unsigned, negative, float, Data, null, boolean, number, string, array, object, Items, item, Members, no_members, member, put}
use Rattle.serde_json.specs.Find.{get, get_member, as_array, as_object}
use Rattle.serde_json.specs.Read.{read, of_json, of_items, of_members, number_of, number_from, is_integer, float_of, max_depth}
use Rattle.scene_json.specs.Words.{integer}
use Rattle.scene_check.specs.Integers.{is_short, are_short, items_short, members_short, IntegersAreShort}
use lib.Signed.{mag}
use Rattle.scene_check.proofs.Holding.{both_hold, Or}

short_digits : (n : ℕ) → nat_le n (2 ^ 63) ≡ true → nat_lt 0 n ≡ true → nat_lt (mag (with_sign true n)) (2 ^ 63) ≡ true
short_digits zero h k = cc
short_digits (suc n) h k = grind (arith, nat_tests, h)

short_float : (sign finite : Bool) (num : Num) → is_short num ≡ true → Or is_short (if finite then Some num else None)
short_float sign true num h = h
short_float sign false num h = tt

short_from : (sign : Bool) (p : Parts) → Or is_short (number_from sign p)
short_from false p = by (is_integer p && nat_lt (digits_of p) (2 ^ 64)) (float_short false p) where
  float_short : (sign : Bool) (p : Parts) → Or is_short (float_of sign p)
  float_short sign p = short_float sign _ _ refl

  by : (b : Bool) → Or is_short (float_of false p) → Or is_short (if b then Some (unsigned (digits_of p)) else float_of false p)
  by true e = refl
  by false e = e
short_from true p = by (is_integer p) (nat_lt 0 (digits_of p)) (nat_le (digits_of p) (2 ^ 63)) refl refl (short_float true _ _ refl) where
  by : (a b c : Bool) → nat_lt 0 (digits_of p) ≡ b → nat_le (digits_of p) (2 ^ 63) ≡ c → Or is_short (float_of true p) →
      Or is_short (if a && b && c then Some (negative (with_sign true (digits_of p))) else float_of true p)
  by true true true e f g = short_digits (digits_of p) f e
  by true true false e f g = g
  by true false c e f g = g
  by false b c e f g = g

short_number : (s : List ℕ) → Or is_short (number_of s)
unfolding number_of
short_number s = by _ where
  by : (b : Bool) → Or is_short (if b then number_from true (scan (drop 1 s)) else number_from false (scan s))
  by true = short_from true (scan (drop 1 s))
  by false = short_from false (scan s)

-- Values.

members-match_ordering : (o : Ordering) (a b c : Members) → members_short a ≡ true → members_short b ≡ true → members_short c ≡ true → members_short (match_ordering o a b c) ≡ true
members-match_ordering Less a b c p q r = p
members-match_ordering Equal a b c p q r = q
members-match_ordering Greater a b c p q r = r

members-put : (k : List ℕ) (d : Data) (ms : Members) → are_short d ≡ true → members_short ms ≡ true → members_short (put k d ms) ≡ true
members-put k d no_members p q = rw p refl
members-put k d (member l e ms) p q =
    let two = both_hold (are_short e) (members_short ms) q in
    members-match_ordering (slice_cmp nat_cmp k l) (member k d (member l e ms)) (member l d ms) (member l e (put k d ms))
    (rw p q) (rw p two.1) (rw (two.0) (members-put k d ms p two.1))

mapped_number : (n : Option Num) → Or is_short n → Or are_short (option_map number n)
mapped_number None h = tt
mapped_number (Some n) h = h

mapped_array : (ds : Option Items) → Or items_short ds → Or are_short (option_map array ds)
mapped_array None h = tt
mapped_array (Some ds) h = h

mapped_object : (ms : Option Members) → Or members_short ms → Or are_short (option_map object ms)
mapped_object None h = tt
mapped_object (Some ms) h = h

one_item : (d : Data) (ds : Option Items) → are_short d ≡ true → Or items_short ds → Or items_short (option_map (item d) ds)
one_item d None h k = tt
one_item d (Some ds) h k = rw h k

and_items : (d : Option Data) (ds : Option Items) → Or are_short d → Or items_short ds → Or items_short (option_and_then (λ e. option_map (item e) ds) d)
and_items None ds h k = tt
and_items (Some d) ds h k = one_item d ds h k

and_members : (d : Option Data) (f : Data → Option Members) → Or are_short d → ((e : Data) → are_short e ≡ true → Or members_short (f e)) → Or members_short (option_and_then f d)
and_members None f h k = tt
and_members (Some d) f h k = k d h

mutual
  short-of_json : (j : json.Json) → Or are_short (of_json j)
  short-of_json json.null = refl
  short-of_json (json.boolean b) = refl
  short-of_json (json.number s) = mapped_number (number_of s) (short_number s)
  short-of_json (json.string s) = refl
  short-of_json (json.array js) = mapped_array (of_items js) (short-of_items js)
  short-of_json (json.object ms) = mapped_object (of_members ms no_members) (short-of_members ms no_members refl)

  short-of_items : (js : json.Items) → Or items_short (of_items js)
  short-of_items json.no_items = refl
  short-of_items (json.item j js) = and_items (of_json j) (of_items js) (short-of_json j) (short-of_items js)

  short-of_members : (ms : json.Members) (found : Members) → members_short found ≡ true → Or members_short (of_members ms found)
  short-of_members json.no_members found h = h
  short-of_members (json.member k j ms) found h =
      and_members (of_json j) (λ d. of_members ms (put k d found)) (short-of_json j) (λ d e. short-of_members ms (put k d found) (members-put k d found e h))

known : {A : Type 0} (p : A → Bool) (o : Option A) (a : A) → Or p o → o ≡ Some a → p a ≡ true
known p o a h e = subst (Or p) e h

read_by : (j : Option json.Json) → Or are_short (option_and_then of_json j)
read_by None = tt
read_by (Some j) = short-of_json j

some_member : (k : List ℕ) (ms : Members) → members_short ms ≡ true → Or are_short (get_member k ms)
some_member k no_members h = tt
some_member k (member l e ms) h =
    let two = both_hold (are_short e) (members_short ms) h in
    by (slice_cmp nat_cmp k l) two.0 (some_member k ms two.1) where
      by : (o : Ordering) → are_short e ≡ true → Or are_short (get_member k ms) → Or are_short (match_ordering o (get_member k ms) (Some e) (get_member k ms))
      by Less p q = q
      by Equal p q = p
      by Greater p q = q

pub short_array : (d : Data) → are_short d ≡ true → Or items_short (as_array d)
short_array null h = tt
short_array (boolean b) h = tt
short_array (number n) h = tt
short_array (string s) h = tt
short_array (array ds) h = h
short_array (object ms) h = tt

pub short_object : (d : Data) → are_short d ≡ true → Or members_short (as_object d)
short_object null h = tt
short_object (boolean b) h = tt
short_object (number n) h = tt
short_object (string s) h = tt
short_object (array ds) h = tt
short_object (object ms) h = h

pub some_below : (k : List ℕ) (d : Data) → are_short d ≡ true → Or are_short (get k d)
some_below k null h = tt
some_below k (boolean b) h = tt
some_below k (number n) h = tt
some_below k (string s) h = tt
some_below k (array ds) h = tt
some_below k (object ms) h = some_member k ms h

short_unsigned : (m : ℕ) (n : ℤ) → (if nat_lt m (2 ^ 63) then Some (pos m) else None) ≡ Some n → mag n < 2 ^ 63
short_unsigned m n e = by (nat_lt m (2 ^ 63)) refl e where
  same : (k : ℤ) → Some (pos m) ≡ Some k → pos m ≡ k
  same k e = cc

  by : (b : Bool) → nat_lt m (2 ^ 63) ≡ b → (if b then Some (pos m) else None) ≡ Some n → mag n < 2 ^ 63
  by true is e = subst (λ (k : ℤ). mag k < 2 ^ 63) (same n e) (grind (arith, nat_tests, is))
  by false is e = cc

pub short_integer : (d : Data) (n : ℤ) → are_short d ≡ true → integer d ≡ Some n → mag n < 2 ^ 63
short_integer null n h e = cc
short_integer (boolean b) n h e = cc
short_integer (number (unsigned m)) n h e = short_unsigned m n e
short_integer (number (negative z)) n h e = subst (λ (k : ℤ). mag k < 2 ^ 63) (same z n e) (grind (arith, nat_tests, h)) where
  same : (z n : ℤ) → Some z ≡ Some n → z ≡ n
  same z n e = cc
short_integer (number (float x)) n h e = cc
short_integer (string s) n h e = cc
short_integer (array ds) n h e = cc
short_integer (object ms) n h e = cc

pub integers_are_short : IntegersAreShort
integers_are_short = record {
  read = λ bytes d e. known are_short (read bytes) d (read_by (option_and_then (λ p. json.if_last p.0 p.1) (json.value max_depth (tokens bytes)))) e;
  below = λ key d below h e. known are_short (get key d) below (some_below key d h) e;
  integer = short_integer;
}
