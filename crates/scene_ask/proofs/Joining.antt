-- Texts that are added to.
use Rattle.std.proofs.Common.{◌≡◌, ◌∙◌, ap, ℕ, Bool, true, if◌then◌else◌, List, ◌++◌, append_assoc, Option, Some}
use Rattle.scene_ask.specs.Asking.{says_of}

pub two_more : (t a b t1 t2 : List ℕ) → t1 ≡ t ++ a → t2 ≡ t1 ++ b → t2 ≡ t ++ (a ++ b)
two_more t a b t1 t2 e f = f ∙ ap (λ l. l ++ b) e ∙ append_assoc t a b

-- something that is there is said after its name
pub says_some : {A : Type 0} (words : A → List ℕ) (o : Option A) (x : A) (t name t1 t2 : List ℕ) → Some x ≡ o → t1 ≡ t ++ name → t2 ≡ t1 ++ words x → t2 ≡ t ++ (name ++ says_of words o)
says_some words o x t name t1 t2 is e f = rw (← is) (two_more t name (words x) t1 t2 e f)

-- and so is what stands under a test that passed
pub says_then : (test : Bool) (t name words none t1 t2 : List ℕ) → test ≡ true → t1 ≡ t ++ name → t2 ≡ t1 ++ words → t2 ≡ t ++ (name ++ (if test then words else none))
says_then test t name words none t1 t2 is e f = rw is (two_more t name words t1 t2 e f)
