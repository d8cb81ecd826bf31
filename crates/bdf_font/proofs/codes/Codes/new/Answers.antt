use Rattle.std.proofs.Common.{refl, sym, ◌∙◌, arith}
use Rattle.bdf_font.proofs.CodeSets.{none_in}
use Rattle.bdf_font.proofs.codes.Codes.new.Goals as goal

pub returns-in-Ok : goal.returns-in-Ok
returns-in-Ok c = none_in c.resize.new.self.items 69632 (sym c.resize.new.self.ok.0 ∙ c.in-Ok.ensures.len) (λ i d lt. c.in-Ok.ensures.by_index.1 i d refl (omega arith) lt)
