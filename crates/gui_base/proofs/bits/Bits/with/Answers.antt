use Rattle.std.proofs.Common.{◌≡◌, ◌∙◌, ◌<◌, ap, ℕ, ◌^◌, Bool, true, false, refl, inl, inr, nat_eq, w16}
use Rattle.std.specs.Prelude.{if◌then◌else◌}
use Rattle.std.specs.Int.{bit_at}
use Rattle.std.proofs.Math.Pow.{pow-lt}
use Rattle.std.proofs.lemmas.Bool.Decides.{eqb_tells}
use Rattle.std.proofs.lemmas.Nat.{one_shl, or_lt}
use Rattle.std.proofs.lemmas.Nat.Bits.{bit_at_set_same, bit_at_set_other, bit_at_clear_same, bit_at_clear_other}
use Rattle.gui_base.specs.Bits.{has_bit, with_bit}
use Rattle.gui_base.proofs.bits.Bits.with.Goals as goal

-- a bit that is set so, and each other bit as it was
told : (old new bit k : ℕ) (on : Bool) → (nat_eq (bit_at new bit) 1 ≡ on) → ((i : ℕ) → i < 16 → (i ≡ bit → ⊥) → bit_at new i ≡ bit_at old i) → k < 16 → has_bit new k ≡ (if nat_eq k bit then on else has_bit old k)
unfolding has_bit
told old new bit k on here others fits = elim (eqb_tells k bit) [
  | inl is ↦ rw is.0 (ap (λ (i : ℕ). nat_eq (bit_at new i) 1) is.1 ∙ here)
  | inr isnt ↦ rw isnt.0 (ap (λ (b : ℕ). nat_eq b 1) (others k fits isnt.1))
]

pub returns-then-on-clause-value : goal.returns-then-on-clause-value
unfolding with_bit
returns-then-on-clause-value c = rw (c.if-on.true, one_shl c.args.bit 16 c.requires) refl

pub returns-then-on-clause-has : goal.returns-then-on-clause-has
returns-then-on-clause-has c = λ k fits.
    rw c.if-on.true
    (told c.args.self.0 _ c.args.bit k true (ap (λ (b : ℕ). nat_eq b 1) (bit_at_set_same w16 c.args.self.0 c.args.bit c.requires))
    (λ i low other. bit_at_set_other w16 c.args.self.0 c.args.bit c.requires i other) fits)

pub returns-then-on-clause-below : goal.returns-then-on-clause-below
returns-then-on-clause-below c = λ n less fits. rw (one_shl c.args.bit 16 c.requires) (or_lt n c.args.self.0 (2 ^ c.args.bit) fits (pow-lt less))

pub returns-else-on-clause-value : goal.returns-else-on-clause-value
unfolding with_bit
returns-else-on-clause-value c = rw (c.if-on.false, one_shl c.args.bit 16 c.requires) refl

pub returns-else-on-clause-has : goal.returns-else-on-clause-has
returns-else-on-clause-has c = λ k fits.
    rw c.if-on.false
    (told c.args.self.0 _ c.args.bit k false (ap (λ (b : ℕ). nat_eq b 1) (bit_at_clear_same w16 c.args.self.0 c.args.bit c.requires))
    (λ i low other. bit_at_clear_other w16 c.args.self.0 c.args.bit c.requires i low other) fits)
