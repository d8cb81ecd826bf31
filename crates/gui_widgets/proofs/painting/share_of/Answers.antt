use Rattle.std.proofs.Common.{◌≡◌, ◌≤◌, ◌*◌, ◌/◌, ◌∙◌, refl, ap, subst, sym, arith, rules, ◌-ℤ◌, w32, to_z, of_z}
use Rattle.std.specs.Int.RustNames.{unsigned_abs}
use Rattle.std.proofs.lemmas.Int.{ints}
use Rattle.widget_defs.specs.Items.{share_of}
use Rattle.widget_defs.specs.Looks.{number_of}
use Rattle.widget_defs.proofs.Shares.{share-within}
use Rattle.gui_widgets.specs.Looks.{widget_of}
use Rattle.gui_widgets.proofs.painting.share_of.Goals as goal
use Rattle.gui_widgets.proofs.painting.share_of.Goals.{After-from-3}

part_is : (c : After-from-3) → c.unsigned_abs-part.result ≡ number_of (c.args.look.now.value -ℤ c.args.look.now.min)
part_is c =
    let l = c.args.look.now in
    let low = c.requires.low in let high = c.requires.high in let above = c.requires.ranged.low in let below = c.requires.ranged.high in
    let read : to_z w32 (of_z w32 (to_z w32 (of_z w32 l.value) -ℤ to_z w32 (of_z w32 l.min))) ≡ l.value -ℤ l.min = omega (arith, ints) in
    c.unsigned_abs-part.ensures.value ∙ ap unsigned_abs read

all_is : (c : After-from-3) → c.unsigned_abs-all.result ≡ number_of (c.args.look.now.max -ℤ c.args.look.now.min)
all_is c =
    let l = c.args.look.now in
    let low = c.requires.low in let high = c.requires.high in let above = c.requires.ranged.low in let below = c.requires.ranged.high in
    let read : to_z w32 (of_z w32 (to_z w32 (of_z w32 l.max) -ℤ to_z w32 (of_z w32 l.min))) ≡ l.max -ℤ l.min = omega (arith, ints) in
    c.unsigned_abs-all.ensures.value ∙ ap unsigned_abs read

share_is : (c : After-from-3) → c.from.result * c.from-2.result / c.from-3.result ≡ share_of (widget_of c.args.look.now) c.args.n
share_is c = rw (c.from.ensures, c.from-2.ensures, c.from-3.ensures, part_is c, all_is c) refl

within : (c : After-from-3) → c.from.result * c.from-2.result / c.from-3.result ≤ c.args.n
within c = subst (λ n. n ≤ c.args.n) (sym (share_is c)) (share-within (widget_of c.args.look.now) c.requires.ranged c.args.n)

pub overflow_cast-result : goal.overflow_cast-result
overflow_cast-result c = let least = within c in let fits = c.ranges.n in search rules

pub returns-clause-value : goal.returns-clause-value
returns-clause-value c = share_is c

pub returns-clause-within : goal.returns-clause-within
returns-clause-within c = within c
