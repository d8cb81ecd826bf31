use Rattle.std.proofs.Common.{◌≡◌, ◌∙◌, ◌≤◌, ℕ, List, Some, None, sym, ap, arith, length}
use Rattle.std.specs.Prelude.{option_map, unwrap_or}
use Rattle.std.specs.declared.option.Option.{Option}
use denote.Ref.{Bor}
use Rattle.scene_defs.specs.Quoted.{text_in, text_in_quotes, or_none, IsSaid}
use Rattle.scene_defs.proofs.Unescaping.{text_fits}
use Rattle.scene_defs.proofs.texts.Text.read.Goals as goal

bytes_of : (text : Option (Bor (List ℕ))) (other : Bor (List ℕ)) (bytes : List ℕ) → option_map (λ (b : Bor (List ℕ)). b.now) text ≡ Some bytes → (unwrap_or text other).now ≡ bytes
bytes_of None other bytes e = cc
bytes_of (Some text) other bytes e = cc

pub returns-in-Quoted : goal.returns-in-Quoted
returns-in-Quoted c =
    let said : IsSaid (text_in_quotes c.in-Quoted.inside.now) = (rw c.in-Quoted.is at c.self.invariant.1).1 in
    let text : c.args.self.now ≡ or_none (text_in_quotes c.in-Quoted.inside.now) = sym c.self.view_is ∙ ap text_in c.in-Quoted.is in
    let short : length (or_none (text_in_quotes c.in-Quoted.inside.now)) ≤ length c.args.room.now = omega (arith, ap length text) in
    let whole = text_fits (length c.args.room.now) c.in-Quoted.inside.now said short in
    ap (λ (b : Bor (List ℕ)). b.now) c.unwrap_or.ensures ∙ (bytes_of c.unescape.result _ _ (c.unescape.ensures ∙ whole) ∙ sym text)
