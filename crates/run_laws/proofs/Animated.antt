-- What animations give their objects leaves the animations and the time.
use Rattle.std.proofs.Common.{◌∙◌, refl, Option, Some, None, [], ◌∷◌}
use Rattle.std.specs.Prelude.{ℤ, ◌-◌}
use Rattle.gui_base.specs.declared.Handle.{Handle}
use Rattle.gui_base.specs.declared.events.Var.{Var}
use Rattle.gui_base.specs.declared.refusal.Refusal.{Refusal}
use Rattle.play_defs.specs.Animation.{value_at}
use Rattle.play_defs.specs.declared.Anim.{Anim}
use Rattle.play_defs.specs.declared.AnimSpec.{AnimSpec}
use Rattle.play_defs.specs.declared.AnimValue.{AnimValue}
use Rattle.play_defs.specs.declared.AnimValue.TheVariants.{Before, Now, Last}
use Rattle.scene_defs.specs.declared.Change.{Change}
use Rattle.scene_defs.specs.declared.Row.{Row}
use Rattle.scene_defs.specs.Change.{answer_of}
use Rattle.scene_defs.specs.Scene.{row_at}
use Rattle.run_defs.specs.Animating.{var_change, make_some, put_var_in, put_var, put_anim, animate}
use Rattle.run_defs.specs.Machine.{Machine}
use Rattle.run_defs.specs.Making.{make, make_by}
use Rattle.run_defs.specs.Play.{◌⊳◌, ◌▷◌, each}
use Rattle.run_laws.specs.Keeping.{RunsOn, AnimatingRunsOn}

on_itself : (m : Machine) → RunsOn m m
on_itself m = record { anims = refl; time = refl }

on_make : (change : Change) (m : Machine) → RunsOn m (make change m).machine
unfolding make
on_make change m = by (answer_of m.scene change) where
  by : (answer : Option Refusal) → RunsOn m (make_by answer change m).machine
  by None = record { anims = refl; time = refl }
  by (Some refusal) = on_itself m

on_some : (change : Option Change) (m : Machine) → RunsOn m (make_some change m).machine
on_some None m = on_itself m
on_some (Some change) m = on_make change m

on_put_in : (var : Var) (row : Option Row) (n : ℤ) (h : Handle) (m : Machine) → RunsOn m (put_var_in var row n h m).machine
on_put_in var None n h m = on_itself m
on_put_in var (Some row) n h m = on_some (var_change var row n h) m

on_put : (var : Var) (n : ℤ) (h : Handle) (m : Machine) → RunsOn m (put_var var n h m).machine
unfolding put_var
on_put var n h m = on_put_in var (row_at m.scene h.0) n h m

on_anim : (spec : AnimSpec) (value : AnimValue) (m : Machine) → RunsOn m (put_anim spec value m).machine
on_anim spec Before m = on_itself m
on_anim spec (Now n) m = on_put spec.var n spec.h m
on_anim spec (Last n) m = on_put spec.var n spec.h m

on_animate : (anim : Anim) (m : Machine) → RunsOn m (animate anim m).machine
unfolding animate
on_animate anim m = on_anim anim.spec (value_at anim.spec (m.time - anim.started)) m

pub animating_runs_on : AnimatingRunsOn
unfolding each ◌▷◌ ◌⊳◌
animating_runs_on [] m = on_itself m
animating_runs_on (anim ∷ anims) m =
    let first = on_animate anim m in
    let rest = animating_runs_on anims (animate anim m).machine in
    record { anims = rest.anims ∙ first.anims; time = rest.time ∙ first.time }
