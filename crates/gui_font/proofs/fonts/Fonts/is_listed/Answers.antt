use Rattle.std.proofs.Common.{◌∙◌, sym}
use Rattle.gui_font.proofs.Slots.{face_absent, face_zero}
use Rattle.gui_font.proofs.fonts.Fonts.is_listed.Goals as goal

pub returns-then-id-ne0-clause-built_in : goal.returns-then-id-ne0-clause-built_in
returns-then-id-ne0-clause-built_in c = λ none. face_absent c.args.self.now.fonts c.args.id c.if-id-ne0.true (sym c.has_font.ensures ∙ none)

pub returns-else-id-ne0-clause-built_in : goal.returns-else-id-ne0-clause-built_in
returns-else-id-ne0-clause-built_in c = λ none. face_zero c.args.self.now.fonts c.args.id c.if-id-ne0.false
