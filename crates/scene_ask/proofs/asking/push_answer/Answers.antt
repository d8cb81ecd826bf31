use Rattle.std.proofs.Common.{◌≡◌, ◌∙◌, ap, true, rules, w32, ◌++◌, ℤ}
use Rattle.std.proofs.lemmas.Int.{to_z-of_z}
use Rattle.gui_core.specs.Machines.{machine_of}
use Rattle.run_defs.specs.Pointing.{hit}
use Rattle.scene_defs.specs.Scene.{Scene, is_there, value}
use Rattle.scene_ask.specs.Asking.{integer}
use Rattle.scene_ask.proofs.Joining.{two_more, says_then}
use Rattle.scene_ask.proofs.asking.push_answer.Goals as goal

pub returns-then-has-clause-items : goal.returns-then-has-clause-items
returns-then-has-clause-items c =
    let scene : Scene = (machine_of c.args.gui.now).scene in
    let asked = c.in-Property in
    let there : is_there scene asked.h.0 ≡ true = search rules in
    let is : c.value.result ≡ value scene asked.h.0 asked.part asked.prop =
    c.value.ensures.value ∙ ap (λ (s : Scene). value s asked.h.0 asked.part asked.prop) c.store-then-has.ensures in
    let said = rw (to_z-of_z w32 c.value.result (search rules)) at c.push_integer.ensures.items in
    rw asked.is (says_then _ _ _ _ _ _ _ there c.push_bytes.ensures (said ∙ ap (λ (n : ℤ). c.push_bytes.new.text.items ++ integer n) is))

pub returns-in-Hit-clause-items : goal.returns-in-Hit-clause-items
returns-in-Hit-clause-items c =
    let asked = c.in-Hit in
    let is : c.hit.result ≡ hit (machine_of c.args.gui.now).scene asked.x asked.y =
    rw (to_z-of_z w32 asked.x (search rules), to_z-of_z w32 asked.y (search rules)) at c.hit.ensures in
    rw (asked.is, ← is) (two_more _ _ _ _ _ c.push_bytes-in-Hit.ensures c.push_handle.ensures.items)
