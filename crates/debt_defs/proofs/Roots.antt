-- The order where another screen is loaded.
use Rattle.std.proofs.Common.{◌≡◌, ◌≢◌, ◌∙◌, sym, ap, ℕ, Bool, true, false, eqb, ◌||◌, ◌++◌, refl, inl, inr, arith}
use Rattle.std.specs.List.{filter}
use Rattle.std.proofs.lemmas.Bool.{cases_Bool, or_cases, or_from, both_ways, false_from_ne_true, eqb-true}
use Rattle.std.proofs.lemmas.Bool.Decides.{nat_tests, eqb_tells}
use Rattle.std.proofs.lemmas.List.Elements.{filter-append}
use Rattle.gui_base.specs.Forest.{Forest, Empty, Tree, and_then}
use Rattle.scene_defs.specs.Scene.{Object, is_at}
use Rattle.scene_defs.specs.Visible.{root_tree}
use Rattle.scene_defs.proofs.Distinct.{there, IsDistinct, three, there-and_then, there_from_root}
use Rattle.debt_defs.proofs.Orders.{entries_of, at, filter-none, entries-then}

-- two roots have no handle in common
apart : (f : Forest Object) (a b k : ℕ) → IsDistinct f → a ≢ b → there (root_tree f a) k ≡ true → there (root_tree f b) k ≡ false
apart Empty a b k d ne i = refl
apart (Tree object cs rest) a b k d ne i = elim (cases_Bool (is_at a object)) [
  | inl is ↦
      let other : is_at b object ≡ false = grind (arith, nat_tests) in
      let here : (eqb object.handle k || (there cs k || false)) ≡ true = rw is at i in
      rw other (false_from_ne_true _ (λ j. only here (there_from_root rest b k j)))
  | inr isnt ↦
      let later : there (root_tree rest a) k ≡ true = rw isnt at i in
      elim (cases_Bool (is_at b object)) [
        | inl is ↦ rw is (false_from_ne_true _ (λ j. only j (there_from_root rest a k later)))
        | inr else ↦ rw else (apart rest a b k d.4 ne later)
      ]
]
  where
    only : (eqb object.handle k || (there cs k || false)) ≡ true → there rest k ≡ true → ⊥
    only here later = elim (or_cases _ _ here) [
      | inl is ↦ both_ways _ d.2 (ap (there rest) (eqb-true _ _ is) ∙ later)
      | inr below ↦ elim (or_cases _ _ below) [
        | inl i ↦ both_ways _ (d.0 k i) later
        | inr i ↦ both_ways _ refl i
      ]
    ]

-- what stands in a screen is not shown where another is active
off-screen : (f : Forest Object) (a b k : ℕ) → IsDistinct f → a ≢ b → a ≢ 1 → a ≢ 2 → there (root_tree f a) k ≡ true → there (three f b) k ≡ false
off-screen f a b k d ne one two i =
    there-and_then (root_tree f b) (and_then (root_tree f 1) (root_tree f 2)) k
    ∙ or_from _ _ (apart f a b k d ne i)
    (there-and_then (root_tree f 1) (root_tree f 2) k ∙ or_from _ _ (apart f a 1 k d one i) (apart f a 2 k d two i))

-- the layers are left where a test leaves the screen out
layers-left : (q : ℕ → Bool) (f : Forest Object) (a : ℕ) → ((k : ℕ) → there (root_tree f a) k ≡ true → q k ≡ false) →
    filter (at q) (entries_of (three f a)) ≡ filter (at q) (entries_of (and_then (root_tree f 1) (root_tree f 2)))
layers-left q f a none =
    let layers = and_then (root_tree f 1) (root_tree f 2) in
    ap (filter (at q)) (entries-then (root_tree f a) layers)
    ∙ filter-append (at q) (entries_of (root_tree f a)) (entries_of layers)
    ∙ ap (λ l. l ++ filter (at q) (entries_of layers)) (filter-none q (root_tree f a) none)

-- what is shown before and after a load keeps its order
pub load-kept : (q : ℕ → Bool) (f : Forest Object) (a b : ℕ) → IsDistinct f → a ≢ 1 → a ≢ 2 → b ≢ 1 → b ≢ 2 →
    ((k : ℕ) → there (three f a) k ≡ false → q k ≡ false) → ((k : ℕ) → there (three f b) k ≡ false → q k ≡ false) →
    filter (at q) (entries_of (three f a)) ≡ filter (at q) (entries_of (three f b))
load-kept q f a b d a1 a2 b1 b2 first second = elim (eqb_tells a b) [
  | inl is ↦ ap (λ c. filter (at q) (entries_of (three f c))) is.1
  | inr isnt ↦
      layers-left q f a (λ k i. second k (off-screen f a b k d isnt.1 a1 a2 i))
      ∙ sym (layers-left q f b (λ k i. first k (off-screen f b a k d (λ e. isnt.1 (sym e)) b1 b2 i)))
]
