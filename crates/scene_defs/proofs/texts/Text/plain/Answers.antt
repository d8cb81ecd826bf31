use Rattle.std.proofs.Common.{refl}
use Rattle.std.proofs.lemmas.Str.{is_utf8-from_IsUtf8}
use Rattle.scene_defs.proofs.texts.Text.plain.Goals as goal

pub invariant_of-result : goal.invariant_of-result
invariant_of-result c = (refl, is_utf8-from_IsUtf8 c.args.text.now c.utf8.text)

pub returns-clause-utf8 : goal.returns-clause-utf8
returns-clause-utf8 c = is_utf8-from_IsUtf8 c.args.text.now c.utf8.text
