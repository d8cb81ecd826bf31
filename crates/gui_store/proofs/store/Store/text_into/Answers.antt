use Rattle.gui_store.proofs.Common.{◌≡◌, ◌∙◌, sym, ap, subst, true, Some, option_map, KeptRow, kept_in, parts_of}
use Rattle.scene_defs.specs.Edits.{text_of}
use Rattle.scene_defs.specs.Texts.{is_text}
use Rattle.gui_store.proofs.Kept.{there-is, object-is, text_fits}
use Rattle.gui_store.proofs.Edits.{found-kept}
use Rattle.gui_store.proofs.store.Store.text_into.Goals as goal
use Rattle.gui_store.proofs.store.Store.text_into.Goals.{After-text_into}

told : (c : After-text_into) → c.text_into.new.out.items ≡ (kept_in c.args.self.now.rows.rows c.args.h.0).text
told c =
    let p = parts_of c.args.self.now in
    let on = sym (there-is p c.args.h.0) ∙ c.requires in
    let is : Some (kept_in p.rows c.args.h.0).text ≡ Some c.text_into.new.out.items = ap (option_map (λ (k : KeptRow). k.text)) (sym (found-kept p c.args.self.now.kept c.args.h.0 on)) ∙ c.text_into.ensures in
    cc

pub text_into-requires : goal.text_into-requires
text_into-requires c =
    let p = parts_of c.args.self.now in
    c.args.self.now.kept.rows c.args.h.0 ∙ (sym (there-is p c.args.h.0) ∙ c.requires)

pub returns-clause-text : goal.returns-clause-text
returns-clause-text c =
    let p = parts_of c.args.self.now in
    let on = sym (there-is p c.args.h.0) ∙ c.requires in
    told (goal.at.returns-clause-text c).After-text_into ∙ sym (ap text_of (object-is p c.args.h.0 on))

pub returns-clause-valid : goal.returns-clause-valid
returns-clause-valid c =
    let p = parts_of c.args.self.now in
    let on = sym (there-is p c.args.h.0) ∙ c.requires in
    subst (λ t. is_text t ≡ true) (sym (told (goal.at.returns-clause-valid c).After-text_into)) (text_fits p c.args.self.now.kept c.args.h.0 on)
