-- A change of one entry of a table.
use Rattle.std.proofs.Common.{◌≡◌, ◌≢◌, ◌∙◌, ◌<◌, ap, subst, ℕ, true, false, List, length, set, get_or}
use Rattle.std.proofs.lemmas.List.{length-set, get_or-set_same, get_or-set_other}
use Rattle.std.proofs.lemmas.Bool.{both_ways}
use Rattle.gui_base.specs.Forest.{Forest, has}
use Rattle.layout_defs.specs.Tables.{KeepsOthers}

-- a change of one object's entry alone, and then of those of its trees
pub keeps_set : {V : Type 0} (d : V) (old between new : List V) (h : ℕ) (v : V) (f : Forest ℕ) → has f h ≡ true → between ≡ set old h v → KeepsOthers d between new f → KeepsOthers d old new f
keeps_set d old between new h v f inside is keeps = record {
  long = keeps.long ∙ (ap length is ∙ length-set old h v);
  others = λ k out.
      let other : k ≢ h = λ e. both_ways _ (subst (λ m. has f m ≡ false) e out) inside in
      keeps.others k out ∙ (ap (λ t. get_or t k d) is ∙ get_or-set_other old h k v d other);
}

pub entry_set : {V : Type 0} (d : V) (old new : List V) (h : ℕ) (v : V) → h < length old → new ≡ set old h v → get_or new h d ≡ v
entry_set d old new h v short is = ap (λ t. get_or t h d) is ∙ get_or-set_same old h v d short
