-- Animations give their objects what they have.
use Rattle.std.proofs.Common.{◌≡◌, ◌∙◌, sym, ap, subst, refl, ℕ, ◌+◌, Option, Some, None, List, take, ℤ, inl, inr, arith}
use Rattle.std.specs.Prelude.{slice_get, option_map}
use Rattle.std.proofs.lemmas.Int.{ints}
use Rattle.gui_anim.specs.Anims.{as_pair}
use Rattle.gui_base.specs.declared.Handle.{Handle}
use Rattle.gui_base.specs.declared.events.Var.{Var}
use Rattle.gui_base.specs.declared.events.Var.TheVariants.{X, Y, Width, Height, Value}
use Rattle.play_defs.specs.Animation.{IsAnim, IsEnd}
use Rattle.play_defs.specs.Laws.{IsBetween}
use Rattle.play_defs.specs.declared.Anim.{Anim}
use Rattle.play_defs.specs.declared.AnimSpec.{AnimSpec}
use Rattle.run_defs.specs.Animating.{animate, var_change, make_some, put_var, put_var_in}
use Rattle.run_defs.specs.Machine.{Machine}
use Rattle.run_defs.specs.Making.{make}
use Rattle.run_defs.specs.Play.{each}
use Rattle.run_laws.proofs.Animated.{animating_runs_on}
use Rattle.scene_defs.specs.Row.{shown_row}
use Rattle.scene_defs.specs.Scene.{row_at}
use Rattle.scene_defs.specs.declared.Change.{Change}
use Rattle.scene_defs.specs.declared.Row.{Row}
use Rattle.gui_play.specs.Animated.{anim_at}
use Rattle.gui_board.specs.Stages.{Stage, Played}
use Rattle.gui_board.proofs.Handled.{past, played_next}
use Rattle.gui_board.proofs.Plays.{idle, played_whole}

-- what lies between the ends of an animation may be one
pub given_end : (spec : AnimSpec) (n : ℤ) → IsAnim spec → IsBetween spec.start spec.end n → IsEnd n
given_end spec n is (inl up) = grind (arith, ints, is.start, is.end, up.0, up.1)
given_end spec n is (inr down) = grind (arith, ints, is.start, is.end, down.0, down.1)

-- A variable becomes a number.

-- no text takes part
shown_change : (var : Var) (row : Row) (n : ℤ) (h : Handle) → var_change var (shown_row row) n h ≡ var_change var row n h
shown_change X row n h = refl
shown_change Y row n h = refl
shown_change Width row n h = refl
shown_change Height row n h = refl
shown_change Value row n h = refl

pub var_of_none : (a : Stage) (var : Var) (n : ℤ) (h : Handle) → row_at a.machine.scene h.0 ≡ None → Played a a (put_var var n h a.machine)
unfolding put_var
var_of_none a var n h e = subst (λ (o : Option Row). Played a a (put_var_in var o n h a.machine)) (sym e) (idle a)

put_in : (a b : Stage) (var : Var) (n : ℤ) (h : Handle) (row : Row) (change : Option Change) → row_at a.machine.scene h.0 ≡ Some (shown_row row) → change ≡ var_change var row n h → Played a b (make_some change a.machine) → Played a b (put_var var n h a.machine)
unfolding put_var
put_in a b var n h row change e is played =
    subst (λ (o : Option Row). Played a b (put_var_in var o n h a.machine)) (sym e)
    (subst (λ (c : Option Change). Played a b (make_some c a.machine)) (is ∙ sym (shown_change var row n h)) played)

pub var_kept : (a : Stage) (var : Var) (n : ℤ) (h : Handle) (row : Row) → row_at a.machine.scene h.0 ≡ Some (shown_row row) → None ≡ var_change var row n h → Played a a (put_var var n h a.machine)
var_kept a var n h row e is = put_in a a var n h row None e is (idle a)

pub var_put : (a b : Stage) (var : Var) (n : ℤ) (h : Handle) (row : Row) (change : Change) → row_at a.machine.scene h.0 ≡ Some (shown_row row) → Some change ≡ var_change var row n h → Played a b (make change a.machine) → Played a b (put_var var n h a.machine)
var_put a b var n h row change e is played = put_in a b var n h row (Some change) e is played

-- One animation after another.

-- an animation is known by its parts
from_pair : (spec : AnimSpec) (started : ℕ) (o : Option Anim) → option_map as_pair o ≡ Some (spec, started) → o ≡ Some (anim_at spec started)
from_pair spec started None f = ap (option_map (λ (p : AnimSpec × ℕ). anim_at p.0 p.1)) f
from_pair spec started (Some anim) f = ap (option_map (λ (p : AnimSpec × ℕ). anim_at p.0 p.1)) f

-- those that have given what they have leave the animations as they are
module _ (a b : Stage) (n : ℕ) (h : Played a b (each animate (take n a.machine.anims) a.machine)) where
  still_run : b.machine.anims ≡ a.machine.anims
  still_run = ap (λ (m : Machine). m.anims) h.machine ∙ (animating_runs_on (take n a.machine.anims) a.machine).anims

  pub animated_next : (c : Stage) (spec : AnimSpec) (started : ℕ) → option_map as_pair (slice_get b.machine.anims n) ≡ Some (spec, started) → Played b c (animate (anim_at spec started) b.machine) →
      Played a c (each animate (take (n + 1) a.machine.anims) a.machine)
  animated_next c spec started e k =
      played_next a b c animate a.machine.anims n (anim_at spec started) (ap (λ (xs : List Anim). slice_get xs n) (sym still_run) ∙ from_pair spec started (slice_get b.machine.anims n) e) h k

  pub animated_end : option_map as_pair (slice_get b.machine.anims n) ≡ None → Played a b (each animate a.machine.anims a.machine)
  animated_end e =
      played_whole a b animate a.machine.anims n (past a.machine.anims n (ap (λ (xs : List Anim). slice_get xs n) (sym still_run) ∙ from_none (slice_get b.machine.anims n) e)) h where
        from_none : (o : Option Anim) → option_map as_pair o ≡ None → o ≡ None
        from_none None f = refl
        from_none (Some anim) f = cc
