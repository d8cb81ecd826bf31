use Rattle.std.proofs.Common.{◌∙◌, ap, map, List, ℕ, Option, option_map}
use Rattle.session_defs.specs.Formats.{own, number}
use Rattle.rfb_view.proofs.Lines.{fresh, forgotten, only_none}
use Rattle.rfb_view.proofs.sight.Sight.open.Goals as goal

pub returns-in-Ok : goal.returns-in-Ok
returns-in-Ok c =
    let blank = c.in-Ok.ensures.items_if_clones_equal (only_none _ (λ x e. e)) in
    ap (λ (known : List (Option ℕ)). fresh own known) (ap (map (option_map (number own))) blank ∙ forgotten own c.args.pixels)
