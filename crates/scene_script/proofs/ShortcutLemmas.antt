-- The words that are found without a search of a table.
use Rattle.std.proofs.Common.{◌≡◌, refl, ℕ, ◌≤◌, ◌<◌, List, [], ◌∷◌, length, get_or, arith}
use Rattle.std.specs.Prelude.{Some, codes}
use Rattle.gui_base.specs.Names.{table, named}
use Rattle.gui_base.specs.declared.words.Part.TheVariants.{Main}
use Rattle.run_defs.specs.Selectors.{selector_named}
use Rattle.run_defs.specs.declared.names.DeviceName.TheVariants as device
use Rattle.run_defs.specs.declared.names.Name.{Name}
use Rattle.run_defs.specs.declared.names.Name.TheVariants as name
use Rattle.run_defs.specs.declared.names.RowName.TheVariants as row
use Rattle.run_defs.specs.declared.names.StyleName.TheVariants as style
use Rattle.run_defs.specs.declared.names.TreeName.TheVariants as tree
use Rattle.run_defs.specs.declared.names.TheConstants.{COMMANDS}

-- a word of three bytes, one of four, and one of five, by its bytes
pub three : (word : List ℕ) (a b c : ℕ) → 3 ≤ length word → length word < 4 → get_or word 0 0 ≡ a → get_or word 1 0 ≡ b →
    get_or word 2 0 ≡ c → word ≡ a ∷ b ∷ c ∷ []
three [] a b c least most p q r = absurd (omega arith)
three (v ∷ []) a b c least most p q r = absurd (omega arith)
three (v ∷ w ∷ []) a b c least most p q r = absurd (omega arith)
three (v ∷ w ∷ x ∷ []) a b c least most p q r = rw (p, q, r) refl
three (v ∷ w ∷ x ∷ y ∷ ys) a b c least most p q r = absurd (omega arith)

pub four : (word : List ℕ) (a b c d : ℕ) → 4 ≤ length word → length word < 5 → get_or word 0 0 ≡ a → get_or word 1 0 ≡ b →
    get_or word 2 0 ≡ c → get_or word 3 0 ≡ d → word ≡ a ∷ b ∷ c ∷ d ∷ []
four [] a b c d least most p q r s = absurd (omega arith)
four (v ∷ []) a b c d least most p q r s = absurd (omega arith)
four (v ∷ w ∷ []) a b c d least most p q r s = absurd (omega arith)
four (v ∷ w ∷ x ∷ []) a b c d least most p q r s = absurd (omega arith)
four (v ∷ w ∷ x ∷ y ∷ []) a b c d least most p q r s = rw (p, q, r, s) refl
four (v ∷ w ∷ x ∷ y ∷ z ∷ zs) a b c d least most p q r s = absurd (omega arith)

pub five : (word : List ℕ) (a b c d e : ℕ) → 5 ≤ length word → length word < 6 → get_or word 0 0 ≡ a → get_or word 1 0 ≡ b →
    get_or word 2 0 ≡ c → get_or word 3 0 ≡ d → get_or word 4 0 ≡ e → word ≡ a ∷ b ∷ c ∷ d ∷ e ∷ []
five [] a b c d e least most p q r s t = absurd (omega arith)
five (v ∷ []) a b c d e least most p q r s t = absurd (omega arith)
five (v ∷ w ∷ []) a b c d e least most p q r s t = absurd (omega arith)
five (v ∷ w ∷ x ∷ []) a b c d e least most p q r s t = absurd (omega arith)
five (v ∷ w ∷ x ∷ y ∷ []) a b c d e least most p q r s t = absurd (omega arith)
five (v ∷ w ∷ x ∷ y ∷ z ∷ []) a b c d e least most p q r s t = rw (p, q, r, s, t) refl
five (v ∷ w ∷ x ∷ y ∷ z ∷ u ∷ us) a b c d e least most p q r s t = absurd (omega arith)

-- what they mean
pub pos : named (table {A = Name} COMMANDS) (codes "pos") ≡ Some (name.Row row.Pos)
unfolding named
pos = refl

pub set : named (table {A = Name} COMMANDS) (codes "set") ≡ Some (name.Style style.Set)
unfolding named
set = refl

pub size : named (table {A = Name} COMMANDS) (codes "size") ≡ Some (name.Row row.Size)
unfolding named
size = refl

pub text : named (table {A = Name} COMMANDS) (codes "text") ≡ Some (name.Row row.Text)
unfolding named
text = refl

pub tick : named (table {A = Name} COMMANDS) (codes "tick") ≡ Some (name.Device device.Tick)
unfolding named
tick = refl

pub local : named (table {A = Name} COMMANDS) (codes "local") ≡ Some (name.Style style.Local)
unfolding named
local = refl

pub front : named (table {A = Name} COMMANDS) (codes "front") ≡ Some (name.Tree tree.Front)
unfolding named
front = refl

pub value : named (table {A = Name} COMMANDS) (codes "value") ≡ Some (name.Row row.Value)
unfolding named
value = refl

pub main : selector_named (codes "main") ≡ Some (record { part = Main; states = 0 })
unfolding selector_named named
main = refl
