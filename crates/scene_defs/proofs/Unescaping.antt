-- How a text is read from between quotes, byte by byte.
use Rattle.std.proofs.Common.{◌≡◌, refl, ap, sym, ◌∙◌, ℕ, suc, Bool, true, false, ◌+◌, ◌<◌, ◌≤◌, List, [], ◌∷◌, ◌++◌, length, take, set, arith, append_assoc, length-append}
use Rattle.std.specs.Prelude.{Some, None, Ok, Err, is_ok, MatchResult, IfSome, ◌==◌, nat_lt}
use Rattle.std.specs.declared.option.Option.{Option}
use Rattle.std.specs.declared.result.Result.{Result}
use Rattle.std.specs.Str.{IsUtf8, is_utf8}
use Rattle.std.proofs.lemmas.List.{take_more_set}
use Rattle.std.proofs.lemmas.Bool.{cond_both, false_from_ne_true, false≢true}
use Rattle.std.proofs.lemmas.Option.{IfSome_then}
use Rattle.std.proofs.lemmas.Bool.Decides.{nat_tests}
use Rattle.std.proofs.lemmas.Str.{IsUtf8-from_is_utf8, is_utf8-from_IsUtf8}
use Rattle.scene_defs.specs.Quoted.{escape_of, put_first, unescaped, that_fits, if_utf8, text_in_quotes, most_quoted, or_none, IsSaid}

-- a text that these bytes begin
abbrev pub begun : List ℕ → Option (List ℕ) → Option (List ℕ)
begun bytes None = None
begun bytes (Some text) = Some (bytes ++ text)

pub begun-nothing : (o : Option (List ℕ)) → begun [] o ≡ o
begun-nothing None = refl
begun-nothing (Some text) = refl

pub begun-more : (bytes : List ℕ) (b : ℕ) (o : Option (List ℕ)) → begun bytes (put_first (Some b) o) ≡ begun (bytes ++ b ∷ []) o
begun-more bytes b None = refl
begun-more bytes b (Some text) = grind (arith, append_assoc)

pub no_more_fits : (room : ℕ) (bytes : List ℕ) (b : ℕ) (o : Option (List ℕ)) → room ≤ length bytes → that_fits room (begun bytes (put_first (Some b) o)) ≡ None
no_more_fits room bytes b None h = refl
no_more_fits room bytes b (Some text) h = grind (arith, nat_tests, h, length-append)

-- one byte more is written
pub begun-written : (room : List ℕ) (len b : ℕ) (o : Option (List ℕ)) → len < length room → begun (take (len + 1) (set room len b)) o ≡ begun (take len room) (put_first (Some b) o)
begun-written room len b o h = ap (λ (t : List ℕ). begun t o) (take_more_set room len b h) ∙ sym (begun-more (take len room) b o)

-- a text is no longer than what stands between the quotes
IsWithin : ℕ → Option (List ℕ) → Type 0
IsWithin n o = IfSome o (λ text. length text ≤ n)

within-more : (n : ℕ) (o : Option (List ℕ)) → IsWithin n o → IsWithin (suc n) o
unfolding IsWithin
within-more n o h = IfSome_then o h (λ text within. omega (arith, within))

within-put_first : (n : ℕ) (b : Option ℕ) (o : Option (List ℕ)) → IsWithin n o → IsWithin (suc n) (put_first b o)
unfolding IsWithin
within-put_first n None o h = tt
within-put_first n (Some b) None h = tt
within-put_first n (Some b) (Some text) h = omega (arith, h)

unescaped-within : (escaped : Bool) (inside : List ℕ) → IsWithin (length inside) (unescaped escaped inside)
unfolding IsWithin
unescaped-within false [] = omega arith
unescaped-within true [] = tt
unescaped-within false (c ∷ cs) =
    let further = within-put_first (length cs) (Some c) _ (unescaped-within false cs) in
    cond_both (c == 92) _ _ (IsWithin (suc (length cs))) (λ e. within-more (length cs) _ (unescaped-within true cs))
    (λ e. cond_both (c == 34) None _ (IsWithin (suc (length cs))) (λ e. tt) (λ e. further))
unescaped-within true (c ∷ cs) = within-put_first (length cs) (escape_of c) _ (unescaped-within false cs)

-- so it fits in as many bytes as stand there
that_fits-within : (n room : ℕ) (o : Option (List ℕ)) → IsWithin n o → n ≤ room → that_fits room o ≡ o
unfolding IsWithin
that_fits-within n room None h k = refl
that_fits-within n room (Some text) h k = grind (arith, nat_tests, h, k)

pub that_fits-inside : (room : ℕ) (inside : List ℕ) → length inside ≤ room → that_fits room (unescaped false inside) ≡ unescaped false inside
that_fits-inside room inside h = that_fits-within (length inside) room (unescaped false inside) (unescaped-within false inside) h

pub text_in_quotes-short : (inside : List ℕ) → length inside ≤ most_quoted → text_in_quotes inside ≡ if_utf8 (that_fits most_quoted (unescaped false inside))
unfolding text_in_quotes
text_in_quotes-short inside h =
    let short : nat_lt most_quoted (length inside) ≡ false = grind (arith, nat_tests, h) in
    rw (short, that_fits-inside most_quoted inside h)

-- UTF-8 by what a reader of it answers
pub is_ok-utf8 : {S E : Type 0} (bytes : List ℕ) (P : S → Type 0) (Q : E → Type 0) (r : Result S E) → MatchResult r (λ s. P s × IsUtf8 bytes) (λ e. ¬ (IsUtf8 bytes) × Q e) → is_ok r ≡ is_utf8 bytes
is_ok-utf8 bytes P Q (Ok s) h = sym (is_utf8-from_IsUtf8 bytes h.1)
is_ok-utf8 bytes P Q (Err e) h = sym (false_from_ne_true (is_utf8 bytes) (λ e. h.0 (IsUtf8-from_is_utf8 bytes e)))

-- what stands between quotes, where it is a text of no more bytes than the room
said_fits : (room : ℕ) (o : Option (List ℕ)) → IsSaid (if_utf8 o) → length (or_none (if_utf8 o)) ≤ room → that_fits room o ≡ Some (or_none (if_utf8 o))
said_fits room None h k = absurd (false≢true h)
said_fits room (Some text) h k = grind (arith, nat_tests, h, k)

pub text_fits : (room : ℕ) (inside : List ℕ) → IsSaid (text_in_quotes inside) → length (or_none (text_in_quotes inside)) ≤ room →
    that_fits room (unescaped false inside) ≡ Some (or_none (text_in_quotes inside))
unfolding text_in_quotes
text_fits room inside h k =
    cond_both (nat_lt most_quoted (length inside)) None (if_utf8 (unescaped false inside))
    (λ o. IsSaid o → length (or_none o) ≤ room → that_fits room (unescaped false inside) ≡ Some (or_none o))
    (λ long h k. absurd (false≢true h)) (λ short. said_fits room (unescaped false inside)) h k

-- a text between quotes is UTF-8
if_utf8-is : (o : Option (List ℕ)) → IfSome (if_utf8 o) (λ text. is_utf8 text ≡ true)
if_utf8-is None = tt
if_utf8-is (Some text) = cond_both (is_utf8 text) (Some text) None (λ o. IfSome o (λ t. is_utf8 t ≡ true)) (λ e. e) (λ e. tt)

pub text_in_quotes-utf8 : (inside : List ℕ) → IfSome (text_in_quotes inside) (λ text. is_utf8 text ≡ true)
unfolding text_in_quotes
text_in_quotes-utf8 inside =
    let text = unescaped false inside in
    cond_both (nat_lt most_quoted (length inside)) None (if_utf8 text) (λ o. IfSome o (λ t. is_utf8 t ≡ true)) (λ long. tt) (λ short. if_utf8-is text)
