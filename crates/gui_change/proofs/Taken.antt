-- Where the entries of a tree that goes are taken out.
use Rattle.std.proofs.Common.{◌≡◌, ◌∙◌, ◌+◌, ◌-◌, refl, sym, ap, ℕ, eq-eqb, inl, inr, List, [], ◌∷◌, ◌++◌, Some, None, take, drop, length, append_assoc, arith}
use Rattle.std.specs.List.{position}
use Rattle.std.proofs.lemmas.List.{append-nil, drop-map, drop_at, length-append, length-map, length-take-le, map-append, take-map, take_at}
use Rattle.scene_defs.specs.Shown.{Entry as Painted, bars_over, own}
use Rattle.gui_change.specs.Goes.{Goes, TakesOut}
use Rattle.gui_change.specs.Entries.{all_entries, entry_in}
use Rattle.gui_change.specs.Fronts.{is_of}
use Rattle.gui_change.specs.declared.entries.Entry.{Entry}
use Rattle.gui_change.proofs.Placing.{found-at, found-nowhere, turned}

module _ (h : ℕ) (es : List Entry) (new : List Painted) where
  pub none-there : position (is_of h) es ≡ None → Goes h (all_entries es) new → all_entries es ≡ new
  none-there none (inl x) = sym x.same
  none-there none (inr g) =
      let some = found-at h es g.before (g.inside ++ (bars_over h ∷ g.after)) (own h) g.was g.first (eq-eqb h h refl) in
      let e : None ≡ Some (length g.before) = sym none ∙ some in
      cc

  pub goes-where : (start : ℕ) → position (is_of h) es ≡ Some start → Goes h (all_entries es) new → TakesOut h (all_entries es) new
  goes-where start found (inl x) =
      let e : Some start ≡ None = sym found ∙ found-nowhere h es x.none in
      cc
  goes-where start found (inr g) = g

  module _ (start : ℕ) (found : position (is_of h) es ≡ Some start) (g : TakesOut h (all_entries es) new) where
    begins : length g.before ≡ start
    begins =
        let some = found-at h es g.before (g.inside ++ (bars_over h ∷ g.after)) (own h) g.was g.first (eq-eqb h h refl) in
        let e : Some (length g.before) ≡ Some start = sym some ∙ found in
        cc

    abbrev head : List Painted
    head = g.before ++ (own h ∷ [])

    long : length head ≡ start + 1
    long = let a = length-append g.before (own h ∷ []) in let b = begins in omega (arith, a, b)

    from-own : all_entries (drop (start + 1) es) ≡ g.inside ++ (bars_over h ∷ g.after)
    from-own =
        sym (drop-map entry_in (start + 1) es)
        ∙ (ap (drop (start + 1)) (g.was ∙ sym (append_assoc g.before (own h ∷ []) (g.inside ++ (bars_over h ∷ g.after)))) ∙ drop_at head (g.inside ++ (bars_over h ∷ g.after)) (start + 1) long)

    pub bars-there : position (is_of h) (drop (start + 1) es) ≡ Some (length g.inside)
    bars-there = found-at h (drop (start + 1) es) g.inside g.after (bars_over h) from-own g.whole (eq-eqb h h refl)

    module _ (below : ℕ) (bars : position (is_of h) (drop (start + 1) es) ≡ Some below) where
      abbrev tree : List Painted
      tree = own h ∷ (g.inside ++ (bars_over h ∷ []))

      wide : length tree ≡ below + 2
      wide =
          let e : Some (length g.inside) ≡ Some below = sym bars-there ∙ bars in
          let same : length g.inside ≡ below = cc in
          let a = length-append g.inside (bars_over h ∷ []) in
          omega (arith, a, same)

      was : all_entries es ≡ g.before ++ (tree ++ g.after)
      was = g.was ∙ ap (λ l. g.before ++ (own h ∷ l)) (sym (append_assoc g.inside (bars_over h ∷ []) g.after))

      -- how long all is
      pub size : length es ≡ start + (below + 2) + length g.after
      size =
          let a = length-append g.before (tree ++ g.after) in
          let b = length-append tree g.after in
          let c = sym (length-map es entry_in) ∙ ap length was in
          let d = begins in
          let e = wide in
          omega (arith, a, b, c, d, e)

      -- after it was brought behind all that follow it
      module _ (xs : List Entry) (rest : ℕ) (left : rest ≡ length es - start - (below + 2))
          (brought : xs ≡ drop (below + 2) (take (below + 2 + rest) (drop start es)) ++ (take (below + 2) (drop start es) ++ drop (below + 2 + rest) (drop start es))) where
        pub many : rest ≡ length g.after
        many = let a = size in omega (arith, a, left)

        behind : all_entries xs ≡ g.after ++ (tree ++ [])
        behind =
            let from : all_entries (drop start es) ≡ tree ++ (g.after ++ []) =
            sym (drop-map entry_in start es) ∙ (ap (drop start) was ∙ (drop_at g.before (tree ++ g.after) start begins ∙ ap (λ l. tree ++ l) (sym (append-nil g.after)))) in
            ap (λ (l : List Entry). all_entries l) brought ∙ turned (drop start es) tree g.after [] (below + 2) rest from wide (sym many)

        as-long : length xs ≡ length es - start
        as-long =
            let a = sym (length-map xs entry_in) ∙ ap length behind in
            let b = length-append g.after (tree ++ []) in
            let c = length-append tree [] in
            let d = size in
            let e = wide in
            omega (arith, a, b, c, d, e)

        pub kept : length (take start es ++ (xs ++ [])) ≡ length es
        kept =
            let a = length-append (take start es) (xs ++ []) in
            let b = length-append xs [] in
            let c = size in
            let d = length-take-le start es (omega (arith, c)) in
            let e = as-long in
            omega (arith, a, b, c, d, e)

        pub placed : all_entries (take (start + rest) (take start es ++ (xs ++ []))) ≡ new
        placed =
            let first : all_entries (take start es) ≡ g.before = sym (take-map entry_in start es) ∙ (ap (take start) was ∙ take_at g.before (tree ++ g.after) start begins) in
            let front = g.before ++ g.after in
            let all : all_entries (take start es ++ (xs ++ [])) ≡ front ++ (tree ++ []) =
            map-append entry_in (take start es) (xs ++ [])
            ∙ (ap (λ l. l ++ all_entries (xs ++ [])) first
            ∙ (ap (λ (l : List Entry). g.before ++ all_entries l) (append-nil xs)
            ∙ (ap (λ l. g.before ++ l) behind ∙ sym (append_assoc g.before g.after (tree ++ []))))) in
            let n : length front ≡ start + rest = let a = length-append g.before g.after in let b = begins in let c = many in omega (arith, a, b, c) in
            sym (take-map entry_in (start + rest) (take start es ++ (xs ++ [])))
            ∙ (ap (take (start + rest)) all ∙ (take_at front (tree ++ []) (start + rest) n ∙ sym g.is))
