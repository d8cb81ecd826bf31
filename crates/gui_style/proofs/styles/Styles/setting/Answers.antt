use Rattle.std.proofs.Common.{◌≡◌, ◌+◌, ap, ◌∙◌, sym, Some, rules}
use Rattle.std.specs.List.{filter}
use Rattle.gui_pool.specs.Lists.{list_of}
use Rattle.style_defs.specs.Cascade.{setting_of, settings_of}
use Rattle.gui_style.specs.Filed.{has_prop}
use Rattle.gui_style.specs.Kept.{first_style}
use Rattle.gui_style.proofs.Shared.{settings_made}
use Rattle.gui_style.proofs.OfProp.{first_setting, no_setting}
use Rattle.gui_style.proofs.styles.Styles.setting.Goals as goal

pub returns-in_err-entry : goal.returns-in_err-entry
returns-in_err-entry c =
    let s = c.self.inside in let its = list_of s.entries (first_style + c.args.style) in
    let none = no_setting c.args.prop its (ap (λ o. filter (has_prop c.args.prop) (list_of s.entries o)) (sym c.style_owner.ensures.value) ∙ sym c.of_prop-entries.ensures.value ∙ c.in_err-entry.ensures.0) in
    rw (← c.self.view_is) (c.from_residual.ensures ∙ sym none ∙ ap (λ ss. setting_of ss c.args.prop) (sym (settings_made s.made s.entries c.args.style (c.self.invariant.unmade c.args.style))))

pub returns : goal.returns
returns c =
    let s = c.self.inside in let its = list_of s.entries (first_style + c.args.style) in
    let x = c.in_ok-entry.entry.now in
    let some = first_setting c.args.prop its c.next.new.self x (ap (λ o. filter (has_prop c.args.prop) (list_of s.entries o)) (sym c.style_owner.ensures.value) ∙ sym c.of_prop-entries.ensures.value ∙ c.in_ok-entry.ensures) in
    let is : setting_of (settings_of c.args.self.now.book.styles c.args.style) c.args.prop ≡ Some x.value =
    rw (← c.self.view_is) (ap (λ ss. setting_of ss c.args.prop) (settings_made s.made s.entries c.args.style (c.self.invariant.unmade c.args.style)) ∙ some) in
    rw is (search rules)
