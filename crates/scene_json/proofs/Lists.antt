-- Lists of values.
use Rattle.std.proofs.Common.{◌≡◌, ◌≢◌, refl, ℕ, zero, suc, ◌≤◌, List, [], ◌∷◌, length, drop, arith}
use Rattle.std.specs.Prelude.{Some, None}
use Rattle.std.specs.declared.option.Option.{Option}
use Rattle.serde_json.specs.Data.{Data}
use Rattle.serde_json.specs.View.{items_view}
use Rattle.serde_json.specs.declared.value.Value.{Value}
use Rattle.scene_json.specs.Scenes.{two}
use Rattle.scene_json.specs.Writing.{Writing, each}

pub two_other : (vs : List Value) → length vs ≢ 2 → two (Some (items_view vs)) ≡ None
two_other [] n = refl
two_other (a ∷ []) n = refl
two_other (a ∷ b ∷ []) n = absurd (n refl)
two_other (a ∷ b ∷ c ∷ vs) n = refl

-- no value is left
pub each_done : (f : Data → Writing → Option Writing) (vs : List Value) (i : ℕ) (w : Writing) → length vs ≤ i → each f (items_view (drop i vs)) w ≡ Some w
each_done f [] zero w le = refl
each_done f [] (suc i) w le = refl
each_done f (u ∷ vs) zero w le = absurd (omega arith)
each_done f (u ∷ vs) (suc i) w le = each_done f vs i w (omega arith)
