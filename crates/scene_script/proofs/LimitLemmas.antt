-- What limits words have, by how they are split.
use Rattle.std.proofs.Common.{◌≡◌, ◌∙◌, refl, ap, sym, ℕ, Bool, true, false, true≢false, ◌≤◌, ◌<◌, ◌&&◌, ◌||◌, List, [], ◌∷◌, drop, length, arith}
use Rattle.std.specs.Prelude.{Some, None, codes, option_map, unwrap_or, slice_get, pos, neg_ℤ, if◌then◌else◌, int_le, unsigned_abs}
use Rattle.std.specs.declared.option.Option.{Option}
use Rattle.std.specs.List.{list_any, list_all, before_first}
use Rattle.std.proofs.lemmas.Int.{ints}
use Rattle.std.proofs.lemmas.Bool.{and_parts, eqb-true}
use Rattle.std.proofs.lemmas.Bool.Decides.{nat_tests}
use Rattle.clap.specs.Matches.{first_value, matched_of, raw_values}
use Rattle.clap.specs.declared.parser.matches.Found.{Found}
use Rattle.gui_base.specs.Grids.{BlockSize}
use Rattle.gui_base.specs.Limits.{Bounds, HaveBlocks}
use Rattle.run_defs.specs.Language.{mapped}
use Rattle.run_defs.specs.Numbers.{natural, number, within, value_of}
use Rattle.run_defs.specs.Words.{if_said, limits_of, number_within, setting_of, sets_a_pool, sets_a_limit, with_width, with_height, with_further, is_x, sized, size_said, are_whole}
use Rattle.scene_script.specs.CommandLine.{begins_with_dash, limits_by, Splits}
use Rattle.scene_script.proofs.WordLemmas.{nothing_after}

pub limits_split : (words : List (List ℕ)) → limits_of words ≡ limits_by (slice_get words 0) (slice_get words 1) (slice_get words 2) (drop 3 words)
limits_split [] = refl
limits_split (a ∷ []) = refl
limits_split (a ∷ b ∷ []) = refl
limits_split (a ∷ b ∷ d ∷ words) = refl

-- ---- a word that begins with a dash

negative : (low high v : ℕ) → 1 ≤ low → int_le (pos low) (neg_ℤ (pos v)) ≡ false
negative low high v h = grind (arith, ints, nat_tests)

signed : (low high : ℕ) (bs : List ℕ) (c : Bool) → 1 ≤ low →
    if_said (mapped unsigned_abs (within (pos low) (pos high) (if c then Some (neg_ℤ (pos (value_of bs))) else None))) ≡ None
signed low high bs false h = refl
signed low high bs true h = rw (negative low high (value_of bs) h) refl

dash_is : (b : ℕ) (bs : List ℕ) → begins_with_dash (b ∷ bs) ≡ true → b ≡ 45
dash_is b bs e = grind (arith, nat_tests, e)

no_number : (low high : ℕ) (word : List ℕ) → 1 ≤ low → begins_with_dash word ≡ true → number_within low high word ≡ None
unfolding natural number
no_number low high [] h e = absurd (true≢false (sym e))
no_number low high (b ∷ []) h e = rw (dash_is b [] e) refl
no_number low high (b ∷ d ∷ bs) h e = rw (dash_is b (d ∷ bs) e) (signed low high (d ∷ bs) _ h)

no_setting : (word : List ℕ) → begins_with_dash word ≡ true → sets_a_limit word ≡ false
unfolding sets_a_pool setting_of
no_setting [] e = refl
no_setting (b ∷ bs) e = rw (dash_is b bs e) refl

and_false : (x y : Bool) → y ≡ false → (x && y) ≡ false
and_false true y e = e
and_false false y e = refl

-- a word and the words after it, one of which begins with a dash
no_setting_of : (word : List ℕ) (words : List (List ℕ)) (x : Bool) → begins_with_dash word ≡ x → (x || list_any begins_with_dash words) ≡ true →
    (list_any begins_with_dash words ≡ true → list_all sets_a_limit words ≡ false) → list_all sets_a_limit (word ∷ words) ≡ false
no_setting_of word words true is e later = ap (λ (x : Bool). x && list_all sets_a_limit words) (no_setting word is)
no_setting_of word words false is e later = and_false (sets_a_limit word) (list_all sets_a_limit words) (later e)

no_settings : (words : List (List ℕ)) → list_any begins_with_dash words ≡ true → list_all sets_a_limit words ≡ false
no_settings [] e = absurd (true≢false (sym e))
no_settings (word ∷ words) e = no_setting_of word words (begins_with_dash word) refl e (no_settings words)

no_pools : (limits : Option Bounds) (words : List (List ℕ)) → list_any begins_with_dash words ≡ true → with_further limits words ≡ None
unfolding with_further
no_pools None words e = refl
no_pools (Some limits) words e = rw (no_settings words e) refl

pub nothing_set : (words : List (List ℕ)) → with_further None words ≡ None
unfolding with_further
nothing_set words = refl

no_width : (width : Option ℕ) (height lines : List ℕ) → width ≡ None → with_width width height lines ≡ None
unfolding with_width
no_width width height lines e = rw e refl

no_height : (width : Option ℕ) (height lines : List ℕ) → number_within 1 1024 height ≡ None → with_width width height lines ≡ None
unfolding with_width
no_height None height lines e = refl
no_height (Some width) height lines e = rw e refl

some_height : (width : ℕ) (height : Option ℕ) (lines : List ℕ) → begins_with_dash lines ≡ true → with_height width height lines ≡ None
some_height width None lines e = refl
some_height width (Some height) lines e = rw (no_number 1 height lines (omega arith) e) refl

no_lines : (width : Option ℕ) (height lines : List ℕ) → begins_with_dash lines ≡ true → with_width width height lines ≡ None
unfolding with_width
no_lines None height lines e = refl
no_lines (Some width) height lines e = some_height width (number_within 1 1024 height) lines e

no_sizes : (limits : Option Bounds) (words : List (List ℕ)) → limits ≡ None → with_further limits words ≡ None
no_sizes limits words e = ap (λ (l : Option Bounds). with_further l words) e ∙ nothing_set words

third_dash : (width : Option ℕ) (b d : List ℕ) (words : List (List ℕ)) (x : Bool) → begins_with_dash d ≡ x → (x || list_any begins_with_dash words) ≡ true →
    with_further (with_width width b d) words ≡ None
third_dash width b d words true is e = no_sizes (with_width width b d) words (no_lines width b d is)
third_dash width b d words false is e = no_pools (with_width width b d) words e

second_dash : (width : Option ℕ) (b d : List ℕ) (words : List (List ℕ)) (x : Bool) → begins_with_dash b ≡ x →
    (x || list_any begins_with_dash (d ∷ words)) ≡ true → with_further (with_width width b d) words ≡ None
second_dash width b d words true is e = no_sizes (with_width width b d) words (no_height width b d (no_number 1 1024 b (omega arith) is))
second_dash width b d words false is e = third_dash width b d words (begins_with_dash d) refl e

first_dash : (a b d : List ℕ) (words : List (List ℕ)) (x : Bool) → begins_with_dash a ≡ x →
    (x || list_any begins_with_dash (b ∷ d ∷ words)) ≡ true → limits_of (a ∷ b ∷ d ∷ words) ≡ None
first_dash a b d words true is e =
    no_sizes (with_width (number_within 1 1024 a) b d) words (no_width (number_within 1 1024 a) b d (no_number 1 1024 a (omega arith) is))
first_dash a b d words false is e = second_dash (number_within 1 1024 a) b d words (begins_with_dash b) refl e

-- words have no limits where one of them begins with a dash
pub dash_has_none : (words : List (List ℕ)) → list_any begins_with_dash words ≡ true → limits_of words ≡ None
dash_has_none [] e = refl
dash_has_none (a ∷ []) e = refl
dash_has_none (a ∷ b ∷ []) e = refl
dash_has_none (a ∷ b ∷ d ∷ words) e = first_dash a b d words (begins_with_dash a) refl e

-- ---- the blocks

-- a text without an x says no size
pub no_size : (text : List ℕ) → list_any is_x text ≡ false → size_said text ≡ None
unfolding natural number
no_size text none = ap (λ (rest : List ℕ). sized (number_within 1 16 (before_first is_x text)) (number_within 1 16 rest)) (nothing_after is_x text none) ∙ no_second (number_within 1 16 (before_first is_x text)) where
  no_second : (w : Option ℕ) → sized w (number_within 1 16 []) ≡ None
  no_second None = refl
  no_second (Some w) = refl

pub blocks_of_test : (limits : Bounds) (block : BlockSize) → are_whole limits block ≡ true → HaveBlocks limits.width limits.height limits.lines block.w block.h
blocks_of_test limits block whole =
    let p = and_parts _ _ whole in
    let q = and_parts _ _ p.0 in
    record { wide = eqb-true _ _ q.0; high = eqb-true _ _ q.1; lined = eqb-true _ _ p.1 }

-- ---- words that are split

pub by_split : (words : List (List ℕ)) (found : Found) → Splits words found →
    limits_by (first_value found (codes "width")) (first_value found (codes "height")) (first_value found (codes "lines"))
    (unwrap_or (option_map raw_values (matched_of found (codes "further"))) []) ≡ limits_of words
by_split words found s = rw (s.width, s.height, s.lines, s.further) (sym (limits_split words))

pub few_have_none : (words : List (List ℕ)) → length words < 3 → limits_of words ≡ None
few_have_none [] h = refl
few_have_none (a ∷ []) h = refl
few_have_none (a ∷ b ∷ []) h = refl
few_have_none (a ∷ b ∷ d ∷ words) h = absurd (omega arith)
