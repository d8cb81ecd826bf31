use Rattle.std.proofs.Common.{◌∙◌, sym, ap, subst}
use Rattle.std.specs.Prelude.{IsSome}
use Rattle.std.specs.Option.{option_copied}
use Rattle.std.proofs.lemmas.Bool.{false≢true}
use Rattle.gui_boxes.proofs.Listed.{is_entry, listed_some}
use Rattle.gui_boxes.proofs.tables.entry_of.Goals as goal

pub returns : goal.returns
returns c =
    let is = ap option_copied (sym c.in-Some.is) ∙ c.get.ensures in
    record { entry = is; told = is_entry c.args.entries.now c.args.h.0 _ is }

pub unreachable-requires : goal.unreachable-requires
unreachable-requires c = false≢true (subst IsSome (sym c.in_default.ensures) (listed_some c.args.entries.now c.args.h.0 c.requires))
