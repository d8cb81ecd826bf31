-- The first bytes of a part tell its size.
use Rattle.std.proofs.Common.{◌≡◌, ◌∙◌, sym, ap, refl, ℕ, zero, suc, ◌+◌, ◌<◌, ◌≤◌, ◌==◌, nat_lt, List, [], ◌∷◌, ◌++◌, length, take, length-take, arith}
use Rattle.std.proofs.lemmas.Bool.Decides.{nat_tests}
use Rattle.std.proofs.lemmas.List.{get_or-take, take_all, take-append-le, length_push}
use Rattle.session_defs.specs.Messages.{size_of_message, message_of}
use Rattle.session_defs.specs.Parts.{size_after}
use Rattle.session_defs.specs.Sessions.{is_none_left}
use Rattle.rfb_view.specs.Hearing.{HearingState, HasHeard}

short_same : (bytes : List ℕ) (n : ℕ) → n < 20 → nat_lt (length (take 20 bytes)) n ≡ nat_lt (length bytes) n
short_same bytes n h = rw (length-take 20 bytes) (grind (arith, nat_tests))

pub message_by_head : (bytes : List ℕ) → size_of_message (take 20 bytes) ≡ size_of_message bytes
message_by_head bytes =
    rw (
      get_or-take 20 bytes 0 0 (omega arith),
      get_or-take 20 bytes 2 0 (omega arith),
      get_or-take 20 bytes 3 0 (omega arith),
      get_or-take 20 bytes 4 0 (omega arith),
      get_or-take 20 bytes 5 0 (omega arith),
      get_or-take 20 bytes 6 0 (omega arith),
      get_or-take 20 bytes 7 0 (omega arith),
      short_same bytes 4 (omega arith),
      short_same bytes 8 (omega arith),
    )
    refl

-- What a message says is told by its first twenty bytes.
pub said_by_head : (bytes : List ℕ) → message_of (take 20 bytes) ≡ message_of bytes
said_by_head bytes =
    rw (
      get_or-take 20 bytes 0 0 (omega arith),
      get_or-take 20 bytes 1 0 (omega arith),
      get_or-take 20 bytes 2 0 (omega arith),
      get_or-take 20 bytes 3 0 (omega arith),
      get_or-take 20 bytes 4 0 (omega arith),
      get_or-take 20 bytes 5 0 (omega arith),
      get_or-take 20 bytes 6 0 (omega arith),
      get_or-take 20 bytes 7 0 (omega arith),
      get_or-take 20 bytes 8 0 (omega arith),
      get_or-take 20 bytes 9 0 (omega arith),
      get_or-take 20 bytes 10 0 (omega arith),
      get_or-take 20 bytes 11 0 (omega arith),
      get_or-take 20 bytes 12 0 (omega arith),
      get_or-take 20 bytes 13 0 (omega arith),
      get_or-take 20 bytes 14 0 (omega arith),
      get_or-take 20 bytes 15 0 (omega arith),
      get_or-take 20 bytes 16 0 (omega arith),
    )
    refl

pub size_by_head : (n : ℕ) (bytes : List ℕ) → size_after n (take 20 bytes) ≡ size_after n bytes
size_by_head zero bytes = refl
size_by_head (suc zero) bytes = refl
size_by_head (suc (suc zero)) bytes = refl
size_by_head (suc (suc (suc n))) bytes = message_by_head bytes

-- one byte more
pub heard_more : (old new : HearingState) (bytes : List ℕ) (byte : ℕ) → HasHeard old bytes → new.count ≡ old.count + 1 → new.head ≡ take 20 (bytes ++ byte ∷ []) → HasHeard new (bytes ++ byte ∷ [])
heard_more old new bytes byte h count head = record { head = head; count = count ∙ (ap (λ (n : ℕ). n + 1) h.count ∙ sym (length_push bytes byte)) }

-- the head takes it, or has enough
pub head_more : (bytes : List ℕ) (byte : ℕ) → length (take 20 bytes) < 20 → take 20 bytes ++ byte ∷ [] ≡ take 20 (bytes ++ byte ∷ [])
head_more bytes byte h =
    let short : length bytes < 20 = omega (arith, length-take {A = ℕ}) in
    let all : length (bytes ++ byte ∷ []) ≤ 20 = omega (arith, length_push bytes byte) in
    rw (take_all 20 bytes (omega arith), take_all 20 (bytes ++ byte ∷ []) all) refl

pub head_full : (bytes : List ℕ) (byte : ℕ) → 20 ≤ length (take 20 bytes) → take 20 bytes ≡ take 20 (bytes ++ byte ∷ [])
head_full bytes byte h = let long : 20 ≤ length bytes = omega (arith, length-take {A = ℕ}) in sym (take-append-le 20 bytes (byte ∷ []) long)

-- a part of few bytes is all there
pub whole_head : (hearing : HearingState) (bytes : List ℕ) → HasHeard hearing bytes → hearing.count ≤ 20 → hearing.head ≡ bytes
whole_head hearing bytes h few = h.head ∙ take_all 20 bytes (omega (arith, h.count))

-- nothing was heard where no byte was counted
pub none_heard : (hearing : HearingState) (bytes : List ℕ) → HasHeard hearing bytes → (hearing.count == 0) ≡ is_none_left bytes
none_heard hearing [] h = rw h.count (grind (arith, nat_tests))
none_heard hearing (b ∷ bytes) h = rw h.count (grind (arith, nat_tests))
