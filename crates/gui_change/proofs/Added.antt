-- Where the entries of an object go that comes, the last child of another.
use Rattle.std.proofs.Common.{◌≡◌, ◌∙◌, ◌+◌, ◌-◌, refl, sym, ap, ℕ, eq-eqb, inl, inr, List, [], ◌∷◌, ◌++◌, Some, None, take, drop, length, append_assoc, arith}
use Rattle.std.specs.List.{position}
use Rattle.std.proofs.lemmas.List.{append-nil, drop-map, drop_at, length-append, length-map, map-append, take-map, take_at}
use Rattle.scene_defs.specs.Shown.{Entry as Painted, bars_over, own}
use Rattle.gui_change.specs.Comes.{AddsLast, Comes}
use Rattle.gui_change.specs.Entries.{all_entries, entry_in}
use Rattle.gui_change.specs.Fronts.{is_of}
use Rattle.gui_change.specs.declared.entries.Entry.{Entry}
use Rattle.gui_change.proofs.Placing.{found-at, found-nowhere, turned}

module _ (h p : ℕ) (es : List Entry) (new : List Painted) where
  pub none-there : position (is_of p) es ≡ None → Comes h p (all_entries es) new → all_entries es ≡ new
  none-there none (inl x) = sym x.same
  none-there none (inr g) =
      let some = found-at p es g.before (g.inside ++ (bars_over p ∷ g.after)) (own p) g.was g.first (eq-eqb p p refl) in
      let e : None ≡ Some (length g.before) = sym none ∙ some in
      cc

  pub goes-where : (start : ℕ) → position (is_of p) es ≡ Some start → Comes h p (all_entries es) new → AddsLast h p (all_entries es) new
  goes-where start found (inl x) =
      let e : Some start ≡ None = sym found ∙ found-nowhere p es x.none in
      cc
  goes-where start found (inr g) = g

  module _ (start : ℕ) (found : position (is_of p) es ≡ Some start) (g : AddsLast h p (all_entries es) new) where
    begins : length g.before ≡ start
    begins =
        let some = found-at p es g.before (g.inside ++ (bars_over p ∷ g.after)) (own p) g.was g.first (eq-eqb p p refl) in
        let e : Some (length g.before) ≡ Some start = sym some ∙ found in
        cc

    abbrev head : List Painted
    head = g.before ++ (own p ∷ [])

    long : length head ≡ start + 1
    long = let a = length-append g.before (own p ∷ []) in let b = begins in omega (arith, a, b)

    from-own : all_entries (drop (start + 1) es) ≡ g.inside ++ (bars_over p ∷ g.after)
    from-own =
        sym (drop-map entry_in (start + 1) es)
        ∙ (ap (drop (start + 1)) (g.was ∙ sym (append_assoc g.before (own p ∷ []) (g.inside ++ (bars_over p ∷ g.after)))) ∙ drop_at head (g.inside ++ (bars_over p ∷ g.after)) (start + 1) long)

    pub bars-there : position (is_of p) (drop (start + 1) es) ≡ Some (length g.inside)
    bars-there = found-at p (drop (start + 1) es) g.inside g.after (bars_over p) from-own g.whole (eq-eqb p p refl)

    module _ (below : ℕ) (bars : position (is_of p) (drop (start + 1) es) ≡ Some below) where
      abbrev place : ℕ
      place = start + 1 + below

      abbrev front : List Painted
      front = head ++ g.inside

      wide : length front ≡ place
      wide =
          let e : Some (length g.inside) ≡ Some below = sym bars-there ∙ bars in
          let same : length g.inside ≡ below = cc in
          let a = length-append head g.inside in
          let b = long in
          omega (arith, a, b, same)

      was : all_entries es ≡ front ++ (bars_over p ∷ g.after)
      was =
          g.was
          ∙ (sym (append_assoc g.before (own p ∷ []) (g.inside ++ (bars_over p ∷ g.after))) ∙ sym (append_assoc head g.inside (bars_over p ∷ g.after)))

      is : new ≡ front ++ (own h ∷ (bars_over h ∷ (bars_over p ∷ g.after)))
      is =
          g.is
          ∙ (sym (append_assoc g.before (own p ∷ []) (g.inside ++ (own h ∷ (bars_over h ∷ (bars_over p ∷ g.after))))) ∙ sym (append_assoc head g.inside (own h ∷ (bars_over h ∷ (bars_over p ∷ g.after)))))

      -- two entries more
      pub size : length new ≡ length es + 2
      size =
          let a = length-append front (bars_over p ∷ g.after) in
          let b = length-append front (own h ∷ (bars_over h ∷ (bars_over p ∷ g.after))) in
          let c = ap length is in
          let d = sym (length-map es entry_in) ∙ ap length was in
          omega (arith, a, b, c, d)

      -- after two more entries were listed behind all, and were brought there
      module _ (fs xs : List Entry) (more : all_entries fs ≡ all_entries es ++ (own h ∷ (bars_over h ∷ []))) (count : ℕ) (rest : count ≡ length es - place)
          (brought : xs ≡ drop count (take (count + 2) (drop place fs)) ++ (take count (drop place fs) ++ drop (count + 2) (drop place fs))) where
        pub placed : all_entries (take place fs ++ (xs ++ [])) ≡ new
        placed =
            let two = own h ∷ (bars_over h ∷ []) in
            let old = bars_over p ∷ g.after in
            let all : all_entries fs ≡ front ++ (old ++ two) = more ∙ (ap (λ l. l ++ two) was ∙ append_assoc front old two) in
            let first : all_entries (take place fs) ≡ front = sym (take-map entry_in place fs) ∙ (ap (take place) all ∙ take_at front (old ++ two) place wide) in
            let later : all_entries (drop place fs) ≡ old ++ (two ++ []) =
            sym (drop-map entry_in place fs) ∙ (ap (drop place) all ∙ (drop_at front (old ++ two) place wide ∙ ap (λ l. old ++ l) (sym (append-nil two)))) in
            let lens = length-append front old in
            let size = sym (length-map es entry_in) ∙ ap length was in
            let w = wide in
            let len : length old ≡ count = omega (arith, lens, size, w, rest) in
            let second : all_entries xs ≡ two ++ (old ++ []) = ap (λ (l : List Entry). all_entries l) brought ∙ turned (drop place fs) old two [] count 2 later len refl in
            map-append entry_in (take place fs) (xs ++ [])
            ∙ (ap (λ l. l ++ all_entries (xs ++ [])) first
            ∙ (ap (λ (l : List Entry). front ++ all_entries l) (append-nil xs)
            ∙ (ap (λ l. front ++ l) second ∙ (ap (λ l. front ++ (two ++ l)) (append-nil old) ∙ sym is))))
