use Rattle.std.proofs.Common.{◌≡◌, ◌+◌, ◌-◌, ◌++◌, ◌∷◌, ℕ, List, [], suc, take, drop, length, set, sym, ap, ◌∙◌, length-set, arith}
use Rattle.std.proofs.lemmas.List.{get_or-set_same, set-set, take_min, drop_min}
use Rattle.gui_pool.specs.Lists.{Lists, list_of}
use Rattle.gui_pool.specs.Pieces.{pieces}
use Rattle.gui_pool.specs.Texts.{chunk_count}
use Rattle.gui_pool.proofs.Cuts.{next_piece}
use Rattle.gui_pool.proofs.chains.fill.Goals as goal

pub pieces-preserved : goal.pieces-preserved
pieces-preserved c =
    let was = c.pieces.invariant in
    let n = chunk_count (length c.args.text.now) in
    let t = c.pieces.chunks in let o = c.args.owner in
    let added = c.in-Ok.ensures.added in
    let done = list_of t o in
    let chunk = c.padded.result in
    let list : list_of c.push.new.self o ≡ done ++ chunk ∷ [] = ap (λ (u : Lists (List ℕ)). list_of u o) added ∙ get_or-set_same t.lists o (done ++ chunk ∷ []) [] was.within in
    let one : n - c.pieces._i ≡ suc (n - (c.pieces._i + 1)) = (let at = c.pieces-test.true in let all = c.chunk_count-i-end.ensures in omega arith) in
    let front = c.split_at.ensures.front ∙ ap (λ k. take k c.pieces.rest.now) c.min.ensures ∙ take_min 28 c.pieces.rest.now in
    let back = c.split_at.ensures.back ∙ ap (λ k. drop k c.pieces.rest.now) c.min.ensures ∙ drop_min 28 c.pieces.rest.now in
    record {
      whole = ap (λ xs. xs ++ pieces (n - (c.pieces._i + 1)) c.split_at.result.1.now) list ∙ next_piece (n - c.pieces._i) (n - (c.pieces._i + 1)) done c.pieces.rest.now c.split_at.result.0.now c.split_at.result.1.now chunk one front back c.padded.ensures ∙ was.whole;
      others = ap (λ (u : Lists (List ℕ)). u.lists) added ∙ ap (λ ls. set ls o (done ++ chunk ∷ [])) was.others ∙ set-set c.args.chunks.now.lists o done (done ++ chunk ∷ []) ∙ ap (set c.args.chunks.now.lists o) (sym list);
      within = let same = ap (λ (u : Lists (List ℕ)). length u.lists) added ∙ length-set t.lists o (done ++ chunk ∷ []) in let within = was.within in omega arith;
      spare = let same = ap (λ (u : Lists (List ℕ)). u.spare) added in let sum = was.spare in let room = c.requires.room in let at = c.pieces-test.true in let all = c.chunk_count-i-end.ensures in omega arith;
      size = ap (λ (u : Lists (List ℕ)). u.size) added ∙ was.size;
    }
