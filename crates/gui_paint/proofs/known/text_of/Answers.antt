use Rattle.std.proofs.Common.{sym, subst}
use Rattle.std.proofs.lemmas.Bool.{and_parts}
use Rattle.std.proofs.lemmas.Str.{IsUtf8-from_is_utf8}
use Rattle.std.specs.Prelude.{IsUtf8}
use Rattle.gui_paint.proofs.known.text_of.Goals as goal

pub unreachable-requires : goal.unreachable-requires
unreachable-requires c =
    let utf8 = IsUtf8-from_is_utf8 c.text_into.new.out.items (and_parts _ _ c.text_into.ensures.valid).0 in
    c.in-Err.ensures.cases.0 (subst IsUtf8 (sym c.as_slice.ensures.value) utf8)
