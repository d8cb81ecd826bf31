use Rattle.std.proofs.Common.{◌≡◌, take}
use Rattle.gui_style.specs.Styles.{all_forgotten}
use Rattle.gui_style.proofs.styles.Styles.forget_all.Given as goal

abbrev pub invariant-loop-h : goal.invariant-loop-h
invariant-loop-h l = l.self ≡ all_forgotten l.initial.self (take l.h-index l.handles)
