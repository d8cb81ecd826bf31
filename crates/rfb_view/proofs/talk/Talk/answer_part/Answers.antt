use Rattle.std.proofs.Common.{◌∙◌, sym, subst, refl}
use Rattle.std.specs.Io.KnownBytes.{Appends}
use Rattle.std.proofs.lemmas.Result.{on_ok_weaker, on_err_weaker}
use Rattle.gui_edge.specs.Sink.{AppendsPrefix}
use Rattle.rfb_view.proofs.Talks.{turned, shared, shared_broke}
use Rattle.rfb_view.proofs.talk.Talk.answer_part.Goals as goal

pub returns-else-is_choice-clause-talks : goal.returns-else-is_choice-clause-talks
returns-else-is_choice-clause-talks g c =
    on_ok_weaker c.put.result
    (λ out. λ heard h. turned _ _ c.args.self.now _ heard c.in-Security.is (sym (c.is_choice.ensures heard h) ∙ c.if-is_choice.false) c.requires.over (subst (Appends _ _) c.turned_down.ensures out) refl)
    c.put.ensures.ok

pub returns-in-Sharing-clause-talks : goal.returns-in-Sharing-clause-talks
returns-in-Sharing-clause-talks g c =
    on_ok_weaker c.greet-in-Sharing.result
    (λ out. λ heard h. shared _ _ c.args.self.now _ _ heard c.in-Sharing.is c.greet-in-Sharing.ensures.talk c.requires.over (subst (Appends _ _) (c.as_slice.ensures.value ∙ c.screen-bytes.ensures) out) refl)
    c.greet-in-Sharing.ensures.ok

pub returns-in-Sharing-clause-broke : goal.returns-in-Sharing-clause-broke
returns-in-Sharing-clause-broke g c =
    on_err_weaker c.greet-in-Sharing.result
    (λ out. λ heard h. shared_broke _ _ c.args.self.now _ heard c.in-Sharing.is c.requires.over (subst (AppendsPrefix _ _) (c.as_slice.ensures.value ∙ c.screen-bytes.ensures) out) refl)
    c.greet-in-Sharing.ensures.err
