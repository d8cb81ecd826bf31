use Rattle.std.proofs.Common.{◌≡◌, ◌∙◌, sym, ap, map, List, length, vec_len, ℕ, Option, option_map}
use Rattle.std.proofs.lemmas.List.{length-map}
use Rattle.session_defs.specs.Formats.{number}
use Rattle.session_defs.specs.Updates.{Sight, none_known}
use Rattle.rfb_view.proofs.Lines.{fresh, forgotten, only_none}
use Rattle.rfb_view.proofs.sight.Sight.set_format.Goals as goal

pub returns : goal.returns
returns c =
    let f = c.args.format in
    let blank = c.fill.ensures.items (only_none _ (λ x e. e)) in
    let count : vec_len c.self.inside.sent ≡ length c.args.self.now.sent =
    c.self.inside.sent.ok.0 ∙ sym (length-map c.self.inside.sent.items (option_map (number c.self.inside.format))) ∙ ap (λ (s : Sight). length s.sent) c.self.view_is in
    ap (λ (known : List (Option ℕ)). fresh f known) (ap (map (option_map (number f))) blank ∙ forgotten f (vec_len c.self.inside.sent) ∙ ap none_known count)
