-- A book without styles.
use Rattle.std.proofs.Common.{◌≡◌, refl, ap, ℕ, zero, suc, ◌+◌, List, [], length, sum_by, replicate, get_or}
use Rattle.std.specs.List.{All}
use Rattle.std.proofs.lemmas.List.{length-replicate}
use Rattle.std.proofs.lemmas.List.Elements.{All-nil, All-replicate}
use Rattle.std.proofs.lemmas.List.Folds.{sum_by-replicate}
use Rattle.style_defs.specs.declared.Entry.{Entry}
use Rattle.style_defs.specs.declared.Use.{Use}
use Rattle.style_defs.specs.Book.{empty_book, no_lists, entries_in, uses_in}
use Rattle.style_defs.specs.InOrder.{IsBook, IsBare, IsEntry, IsStyle, IsUsed}

module _ (A : Type 0) where
  get-empty : (n h : ℕ) → get_or {A = List A} (replicate n []) h [] ≡ []
  get-empty zero h = refl
  get-empty (suc n) zero = refl
  get-empty (suc n) (suc h) = get-empty n h

  pub all_of_none : (P : List A → Type 0) → P [] → All P (no_lists {A = A})
  unfolding no_lists
  all_of_none P none = All-replicate P 65536 [] none

  long : length (no_lists {A = A}) ≡ 65536
  unfolding no_lists
  long = length-replicate {A = List A} 65536 []

  none_at : (h : ℕ) → get_or (no_lists {A = A}) h [] ≡ []
  unfolding no_lists
  none_at h = get-empty 65536 h

  none_in : sum_by (λ (xs : List A). length xs) no_lists ≡ 0
  unfolding no_lists
  none_in = sum_by-replicate (λ (xs : List A). length xs) 65536 []

pub empty_in_order : IsBook empty_book
empty_in_order = record { ordered = refl; settings = All-nil IsStyle; locals = all_of_none Entry (All IsEntry) (All-nil IsEntry); used = all_of_none Use (All (IsUsed [])) (All-nil (IsUsed [])); local_places = long Entry; use_places = long Use }

pub empty_bare : (h : ℕ) → IsBare empty_book h
empty_bare h = record { locals = none_at Entry h; uses = none_at Use h }

pub no_entries : entries_in empty_book ≡ 0
no_entries = ap (λ n. 0 + n) (none_in Entry)

pub no_uses : uses_in empty_book ≡ 0
no_uses = none_in Use
