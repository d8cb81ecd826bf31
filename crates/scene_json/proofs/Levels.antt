-- Nodes level by level, and objects of one member.
use Rattle.std.proofs.Common.{◌≡◌, ◌≢◌, refl, ℕ, zero, suc, ◌-◌, ◌==◌, List, [], ◌∷◌, length, arith}
use Rattle.std.proofs.lemmas.Bool.Decides.{nat_tests}
use Rattle.std.specs.Prelude.{Some, None, String}
use Rattle.std.specs.declared.alloc.Global.{Global}
use Rattle.run_defs.specs.Language.{Word}
use Rattle.serde_json.specs.Data.{Data}
use Rattle.serde_json.specs.View.{members_view}
use Rattle.serde_json.specs.declared.value.Value.{Value}
use Rattle.scene_json.specs.Scenes.{node_lines, node_of, head, has_one}
use Rattle.scene_json.specs.Writing.{Writing}

-- no level is left
pub no_levels : (levels : ℕ) (parent : Word) (d : Data) (w : Writing) → levels ≡ 0 → node_lines levels parent d w ≡ None
unfolding node_lines
no_levels zero parent d w e = refl
no_levels (suc levels) parent d w e = absurd (omega arith)

pub more_levels : (levels : ℕ) (parent : Word) (d : Data) (w : Writing) → levels ≢ 0 → node_lines levels parent d w ≡ node_of (node_lines (levels - 1)) parent d (head d) w
unfolding node_lines
more_levels zero parent d w n = absurd (n refl)
more_levels (suc levels) parent d w n = let e : suc levels - 1 ≡ levels = omega arith in rw e refl

pub one_member : (es : List (String Global × Value)) → has_one (Some (members_view es)) ≡ (length es == 1)
one_member [] = refl
one_member (e ∷ []) = refl
one_member (e ∷ f ∷ es) = grind (arith, nat_tests)
