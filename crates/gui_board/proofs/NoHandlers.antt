-- The first machine.
use Rattle.std.proofs.Common.{◌≡◌, ◌∙◌, sym, subst, ℕ, ◌<◌, List, [], length, replicate, get_or}
use Rattle.std.proofs.lemmas.List.{ext_get_or, length-replicate, get_or-replicate}
use Rattle.gui_base.specs.Limits.{Bounds}
use Rattle.play_defs.specs.Focus.{Groups, no_groups}
use Rattle.play_defs.specs.Handlers.{no_handlers, handlers_of}
use Rattle.play_defs.specs.declared.Anim.{Anim}
use Rattle.play_defs.specs.declared.Handler.{Handler}
use Rattle.run_defs.specs.Machine.{first_machine}
use Rattle.scene_defs.specs.Scene.{Scene, first_scene}
use Rattle.gui_board.specs.Boards.{machine_with}
use Rattle.gui_board.specs.Inputs.{first_inputs}
use Rattle.gui_board.specs.declared.inputs.Inputs.{Inputs}

empty_lists : {A : Type 0} (n : ℕ) (lists : List (List A)) → length lists ≡ n → ((h : ℕ) → get_or lists h [] ≡ []) → lists ≡ replicate n []
empty_lists n lists long none =
    ext_get_or [] lists (replicate n []) (long ∙ sym (length-replicate n []))
    (λ h within. none h ∙ sym (get_or-replicate n h [] [] (subst (λ (m : ℕ). h < m) long within)))

pub no_handlers_is : (lists : List (List Handler)) → length lists ≡ 65536 → ((h : ℕ) → handlers_of lists h ≡ []) → lists ≡ no_handlers
unfolding no_handlers
no_handlers_is lists long none = empty_lists 65536 lists long none

-- the first machine
pub first_machine_is : (scene : Scene) (handlers : List (List Handler)) (groups : Groups) (anims : List Anim) (inputs : Inputs) (limits : Bounds) → scene ≡ first_scene limits → handlers ≡ no_handlers → groups ≡ no_groups → anims ≡ [] → inputs ≡ first_inputs →
    machine_with scene handlers groups anims inputs ≡ first_machine limits
first_machine_is scene handlers groups anims inputs limits a b c d e = λ i. machine_with (a i) (b i) (c i) (d i) (e i)
