use Rattle.std.proofs.Common.{map, sym, ap, ◌∙◌, arith}
use Rattle.gui_pool.specs.Lists.{list_of}
use Rattle.style_defs.specs.Cascade.{sets}
use Rattle.style_defs.specs.Firsts.{place_by}
use Rattle.style_defs.proofs.Places.{beyond_none}
use Rattle.gui_style.specs.Kept.{setting_in}
use Rattle.gui_style.proofs.Shared.{settings_made}
use Rattle.gui_style.proofs.styles.Styles.setting_place.Goals as goal

pub loop-entry-init : goal.loop-entry-init
loop-entry-init c =
    let s = c.self.inside in let test = sets c.args.prop in
    let few = c.of-entries.ensures.few in
    let its = settings_made s.made s.entries c.args.style (c.self.invariant.unmade c.args.style) in
    let same = its ∙ ap (λ o. map setting_in (list_of s.entries o)) (sym c.style_owner.ensures.value) ∙ ap (map setting_in) (sym c.of-entries.ensures.value) in
    record {
      rest = rw (← c.self.view_is) (ap (place_by test) same ∙ sym (beyond_none (place_by test (map setting_in c.of-entries.result))));
      few = omega arith;
    }
