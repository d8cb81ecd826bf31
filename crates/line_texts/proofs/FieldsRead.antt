-- Fields read words that say something, one after another.
use Rattle.std.proofs.Common.{◌≡◌, refl, List, ◌∷◌}
use Rattle.std.specs.Prelude.{Ok}
use Rattle.run_defs.specs.Fields.{Field, value, past, start}
use Rattle.run_defs.specs.Language.{Word}

pub record Reads {A : Type 0} (field : Field A) (word : Word) (words : List Word) (a : A) : Type 0 where
  pub value_is : value field (start (word ∷ words)) ≡ a
  pub past_is : past field (start (word ∷ words)) ≡ start words

pub reads : {A : Type 0} (field : Field A) (word : Word) (words : List Word) (a : A) → field.says word ≡ Ok a → Reads field word words a
unfolding value past
reads field word words a e = record { value_is = rw e refl; past_is = rw e refl }
