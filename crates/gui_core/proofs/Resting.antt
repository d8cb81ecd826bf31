-- When a pump finds nothing to do.
use Rattle.std.proofs.Common.{◌≡◌, ◌↔◌, refl, ap, inl, inr}
use Rattle.gui_play.specs.Panels.{Pumps}
use Rattle.gui_refresh.specs.Refreshes.{IsAtRest}
use Rattle.gui_refresh.specs.Stages.{Stage}
use Rattle.gui_refresh.proofs.Pumps.{rest_of}
use Rattle.owed_defs.specs.Progress.{Progress, at_rest, Pumping}
use Rattle.owed_defs.specs.declared.Pumped.{Pumped}
use Rattle.owed_defs.specs.declared.Pumped.TheVariants.{Idle, Moved, Waiting, Fault}
use Rattle.scene_defs.specs.Scene.{Scene}

none_moves : (p q : Progress) → p ≡ at_rest → Pumping p q Moved → ⊥
none_moves p q rest moves = elim moves [
  | inl d ↦ let was = d.was in let none = ap (λ (r : Progress). r.pending) rest in cc
  | inr e ↦ elim e [
    | inl s ↦ let was = s.was in let none = ap (λ (r : Progress). r.drawn) rest in cc
    | inr a ↦ let was = a.was in let none = ap (λ (r : Progress). r.flying) rest in cc
  ]
]

none_waits : (p q : Progress) → p ≡ at_rest → Pumping p q Waiting → ⊥
none_waits p q rest waits = let was = waits.1 in let none = ap (λ (r : Progress). r.flying) rest in cc

-- it is idle exactly where nothing was pending, drawn or in flight
pub idle_at_rest : (scene : Scene) (old new : Stage) (answer : Pumped) → Pumps old new scene answer → (answer ≡ Idle) ↔ IsAtRest old
idle_at_rest scene old new Idle h = let s = h.step in (λ e. record { pending = s.pending; drawn = s.drawn; coming = s.coming }, λ rest. refl)
idle_at_rest scene old new Moved h = (λ e. cc, λ rest. absurd (none_moves _ _ (rest_of old rest) h.pumping))
idle_at_rest scene old new Waiting h = (λ e. cc, λ rest. absurd (none_waits _ _ (rest_of old rest) h.pumping))
idle_at_rest scene old new Fault h = (
  λ e. cc,
  λ rest. elim h.step [
    | inl b ↦ let was = b.breaks.was in let none = rest.coming in cc
    | inr u ↦ let was = u.1.was in let none = rest.drawn in cc
  ],
)
