-- A rule so many times.
use Rattle.std.proofs.Common.{zero, suc, add-one, ◌≡◌, ◌∙◌, sym, ap, subst, ℕ, ◌+◌}
use Rattle.run_defs.specs.Devices.{times}
use Rattle.run_defs.specs.Machine.{Machine}
use Rattle.run_defs.specs.Play.{Play, Rule, both, ◌⊳◌, ◌▷◌}
use Rattle.gui_board.specs.Stages.{Stage, Played}
use Rattle.gui_board.proofs.Plays.{idle, played_on, both_nothing, both_assoc}

times-more : (n : ℕ) (rule : Rule) (m : Machine) → times (suc n) rule m ≡ (times n rule m ⊳ rule)
unfolding times ◌▷◌ ◌⊳◌
times-more zero rule m = both_nothing (rule m)
times-more (suc n) rule m =
    ap (λ (p : Play). both (rule m) p) (times-more n rule (rule m).machine)
    ∙ sym (both_assoc (rule m) (times n rule (rule m).machine) (rule (times n rule (rule m).machine).machine))

pub played_times_none : (a : Stage) (rule : Rule) → Played a a (times 0 rule a.machine)
unfolding times
played_times_none a rule = idle a

pub played_times_more : (a b c : Stage) (rule : Rule) (n : ℕ) → Played a b (times n rule a.machine) → Played b c (rule b.machine) → Played a c (times (n + 1) rule a.machine)
played_times_more a b c rule n h k =
    rw add-one (subst (λ (p : Play). Played a c p) (sym (times-more n rule a.machine)) (played_on a b c (times n rule a.machine) rule h k))
