use Rattle.std.proofs.Common.{◌≡◌, ◌+◌, ◌<◌, ℕ, true, false, is_some, Option, Some, None, Bor, List, [], ◌∷◌, length, set, get_or, slice_get, refl, sym, ap, ◌∙◌, length-set, arith}
use Rattle.std.proofs.lemmas.List.{set-set, set-get_or, get_or-set_same}
use Rattle.std.proofs.lemmas.List.Edits.{length-remove}
use Rattle.std.specs.List.{remove}
use Rattle.std.specs.Option.{option_copied}
use Rattle.gui_pool.specs.Lists.{Lists, list_of, removed, cleared}
use Rattle.gui_pool.proofs.lists.Lists.clear.Goals as goal

some_long : {T : Type 0} (o : Option (Bor T)) (xs : List T) → is_some o ≡ true → option_copied o ≡ slice_get xs 0 → 0 < length xs
some_long o (x ∷ xs) some first = omega arith
some_long (Some x) [] some first = cc
some_long None [] some first = cc

none_empty : {T : Type 0} (o : Option (Bor T)) (xs : List T) → is_some o ≡ false → option_copied o ≡ slice_get xs 0 → xs ≡ []
none_empty o [] none first = refl
none_empty (Some y) (x ∷ xs) none first = cc
none_empty None (x ∷ xs) none first = cc

twice : {T : Type 0} (t : Lists T) (o n : ℕ) → o < length t.lists → n < length (list_of t o) → cleared (removed t o n) o ≡ cleared t o
twice t o n within there =
    let now : get_or (set t.lists o (remove (list_of t o) n)) o [] ≡ remove (list_of t o) n = get_or-set_same t.lists o (remove (list_of t o) n) [] within in
    let spare : t.spare + 1 + length (get_or (set t.lists o (remove (list_of t o) n)) o []) ≡ t.spare + length (list_of t o) = (let same = ap length now in let one = length-remove (list_of t o) n there in omega arith) in
    λ i. record { lists = set-set t.lists o (remove (list_of t o) n) [] i; spare = spare i; size = t.size }

none_left : {T : Type 0} (t : Lists T) (o : ℕ) → get_or t.lists o [] ≡ [] → t ≡ cleared t o
none_left t o is =
    let same : t.lists ≡ set t.lists o [] = sym (set-get_or t.lists o []) ∙ ap (set t.lists o) is in
    let spare : t.spare ≡ t.spare + length (list_of t o) = (let no = ap length is in omega arith) in
    λ i. record { lists = same i; spare = spare i; size = t.size }

pub loop-self-preserved : goal.loop-self-preserved
loop-self-preserved g c =
    let t = c.loop-self.self in
    let there = some_long c.nth.result (list_of t c.args.owner) (sym c.is_some.ensures ∙ c.loop-self-test.true) c.nth.ensures in
    record {
      others = rw c.remove.ensures.removed (twice t c.args.owner 0 c.loop-self.invariant.within there ∙ c.loop-self.invariant.others);
      within = rw c.remove.ensures.removed (rw length-set c.loop-self.invariant.within);
    }

pub returns : goal.returns
returns g c =
    let t = c.loop-self.self in
    let none = none_empty c.nth.result (list_of t c.args.owner) (sym c.is_some.ensures ∙ c.loop-self-test.false) c.nth.ensures in
    none_left t c.args.owner none ∙ c.loop-self.invariant.others
