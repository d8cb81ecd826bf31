-- Where entries are found, and entries that are brought behind others.
use Rattle.std.proofs.Common.{◌≡◌, ◌∙◌, ◌+◌, ◌-◌, ◌≤◌, refl, sym, ap, ℕ, true, false, eqb, eq-eqb, nat_lt, inl, inr, List, [], ◌∷◌, ◌++◌, Some, None, take, drop, length, append_assoc, arith}
use Rattle.std.specs.List.{position, position_or_len}
use Rattle.std.proofs.lemmas.Bool.{or_parts}
use Rattle.std.proofs.lemmas.Bool.Decides.{nat_tests}
use Rattle.std.proofs.lemmas.List.{append-nil, drop-map, drop_all, drop_at, length-append, length-drop, length-map, length-take-le, map-append, take-map, take_at}
use Rattle.scene_defs.specs.Shown.{Entry as Painted, bars_over, own}
use Rattle.gui_change.specs.Entries.{all_entries, entry_in}
use Rattle.gui_change.specs.Fronts.{Fronts, GoesLast, is_of, names}
use Rattle.gui_change.specs.declared.entries.Entry.{Entry}
use borrow.Rule.Slice.PartMut.{put_mid}

-- The first entry of an object.
spot : (h : ℕ) (es : List Entry) (xs ys : List Painted) (e : Painted) → all_entries es ≡ xs ++ (e ∷ ys) → names h xs ≡ false → eqb e.handle h ≡ true → position_or_len (is_of h) es ≡ length xs
spot h [] [] ys e is none here = cc
spot h [] (x ∷ xs) ys e is none here = cc
spot h (g ∷ es) [] ys e is none here =
    let same : entry_in g ≡ e = cc in
    let it : eqb g.h.0 h ≡ true = ap (λ (q : Painted). eqb q.handle h) same ∙ here in
    rw it refl
spot h (g ∷ es) (x ∷ xs) ys e is none here =
    let same : entry_in g ≡ x = cc in
    let rest : all_entries es ≡ xs ++ (e ∷ ys) = cc in
    let parts : (eqb x.handle h ≡ false) × (names h xs ≡ false) = or_parts (eqb x.handle h) (names h xs) none in
    let it : eqb g.h.0 h ≡ false = ap (λ (q : Painted). eqb q.handle h) same ∙ parts.0 in
    let later = spot h es xs ys e rest parts.1 here in
    rw it (omega (arith, later))

pub found-at : (h : ℕ) (es : List Entry) (xs ys : List Painted) (e : Painted) → all_entries es ≡ xs ++ (e ∷ ys) → names h xs ≡ false → eqb e.handle h ≡ true → position (is_of h) es ≡ Some (length xs)
found-at h es xs ys e is none here =
    let at = spot h es xs ys e is none here in
    let long : length es ≡ length xs + length (e ∷ ys) = sym (length-map es entry_in) ∙ (ap length is ∙ length-append xs (e ∷ ys)) in
    let within : nat_lt (length xs) (length es) ≡ true = grind (arith, nat_tests, long) in
    rw (at, within) refl

spot-none : (h : ℕ) (es : List Entry) → names h (all_entries es) ≡ false → position_or_len (is_of h) es ≡ length es
spot-none h [] none = refl
spot-none h (g ∷ es) none =
    let parts : (eqb g.h.0 h ≡ false) × (names h (all_entries es) ≡ false) = or_parts (eqb g.h.0 h) (names h (all_entries es)) none in
    let later = spot-none h es parts.1 in
    rw parts.0 (omega (arith, later))

pub found-nowhere : (h : ℕ) (es : List Entry) → names h (all_entries es) ≡ false → position (is_of h) es ≡ None
found-nowhere h es none =
    let at = spot-none h es none in
    let past : nat_lt (length es) (length es) ≡ false = grind (arith, nat_tests) in
    rw (at, past) refl

-- Entries at the head that go behind those that follow them.
pub turned : (es : List Entry) (front back after : List Painted) (len more : ℕ) → all_entries es ≡ front ++ (back ++ after) → length front ≡ len → length back ≡ more →
    all_entries (drop len (take (len + more) es) ++ (take len es ++ drop (len + more) es)) ≡ back ++ (front ++ after)
turned es front back after len more is long wide =
    let n = len + more in
    let all : all_entries es ≡ (front ++ back) ++ after = is ∙ sym (append_assoc front back after) in
    let both : length (front ++ back) ≡ n = length-append front back ∙ (ap (λ i. i + length back) long ∙ ap (λ i. len + i) wide) in
    let head : all_entries (take n es) ≡ front ++ back = sym (take-map entry_in n es) ∙ (ap (take n) all ∙ take_at (front ++ back) after n both) in
    let first : all_entries (drop len (take n es)) ≡ back = sym (drop-map entry_in len (take n es)) ∙ (ap (drop len) head ∙ drop_at front back len long) in
    let second : all_entries (take len es) ≡ front = sym (take-map entry_in len es) ∙ (ap (take len) is ∙ take_at front (back ++ after) len long) in
    let third : all_entries (drop n es) ≡ after = sym (drop-map entry_in n es) ∙ (ap (drop n) all ∙ drop_at (front ++ back) after n both) in
    map-append entry_in (drop len (take n es)) (take len es ++ drop n es)
    ∙ (ap (λ l. l ++ all_entries (take len es ++ drop n es)) first
    ∙ ap (λ l. back ++ l) (map-append entry_in (take len es) (drop n es) ∙ (ap (λ l. l ++ all_entries (drop n es)) second ∙ ap (λ l. front ++ l) third)))

-- A tree whose entries come first.
module _ (h p : ℕ) (es : List Entry) (inside beside after : List Painted) (whole : names h inside ≡ false) (last : names p beside ≡ false)
    (is : all_entries es ≡ own h ∷ (inside ++ (bars_over h ∷ (beside ++ (bars_over p ∷ after))))) where
  abbrev tree : List Painted
  tree = own h ∷ (inside ++ (bars_over h ∷ []))

  parts : all_entries es ≡ tree ++ (beside ++ (bars_over p ∷ after))
  parts = is ∙ ap (λ l. own h ∷ l) (sym (append_assoc inside (bars_over h ∷ []) (beside ++ (bars_over p ∷ after))))

  pub own-bars : position (is_of h) (drop 1 es) ≡ Some (length inside)
  own-bars = found-at h (drop 1 es) inside (beside ++ (bars_over p ∷ after)) (bars_over h) (sym (drop-map entry_in 1 es) ∙ ap (drop 1) is) whole (eq-eqb h h refl)

  module _ (below : ℕ) (found : position (is_of h) (drop 1 es) ≡ Some below) where
    long : length tree ≡ below + 2
    long =
        let e : Some (length inside) ≡ Some below = sym own-bars ∙ found in
        let same : length inside ≡ below = cc in
        let l = length-append inside (bars_over h ∷ []) in
        omega (arith, l, same)

    pub parent-bars : position (is_of p) (drop (below + 2) es) ≡ Some (length beside)
    parent-bars =
        found-at p (drop (below + 2) es) beside after (bars_over p)
        (sym (drop-map entry_in (below + 2) es) ∙ (ap (drop (below + 2)) parts ∙ drop_at tree (beside ++ (bars_over p ∷ after)) (below + 2) long)) last (eq-eqb p p refl)

    pub brought-behind : (more : ℕ) → position (is_of p) (drop (below + 2) es) ≡ Some more →
        all_entries (drop (below + 2) (take (below + 2 + more) es) ++ (take (below + 2) es ++ drop (below + 2 + more) es)) ≡ beside ++ (own h ∷ (inside ++ (bars_over h ∷ (bars_over p ∷ after))))
    brought-behind more bars =
        let e : Some (length beside) ≡ Some more = sym parent-bars ∙ bars in
        let wide : length beside ≡ more = cc in
        turned es tree beside (bars_over p ∷ after) (below + 2) more parts long wide
        ∙ ap (λ l. beside ++ (own h ∷ l)) (append_assoc inside (bars_over h ∷ []) (bars_over p ∷ after))

-- A tree that is listed somewhere.
module _ (h p : ℕ) (es : List Entry) (new : List Painted) where
  pub none-listed : position (is_of h) es ≡ None → Fronts h p (all_entries es) new → all_entries es ≡ new
  none-listed none (inl x) = sym x.same
  none-listed none (inr g) =
      let tree = g.inside ++ (bars_over h ∷ (g.beside ++ (bars_over p ∷ g.after))) in
      let some = found-at h es g.before tree (own h) g.was g.first (eq-eqb h h refl) in
      let e : None ≡ Some (length g.before) = sym none ∙ some in
      cc

  -- it goes last, where it is listed
  pub goes-where : (start : ℕ) → position (is_of h) es ≡ Some start → Fronts h p (all_entries es) new → GoesLast h p (all_entries es) new
  goes-where start found (inl x) =
      let e : Some start ≡ None = sym found ∙ found-nowhere h es x.none in
      cc
  goes-where start found (inr g) = g

  module _ (start : ℕ) (found : position (is_of h) es ≡ Some start) (g : GoesLast h p (all_entries es) new) where
    abbrev listed : List Painted
    listed = own h ∷ (g.inside ++ (bars_over h ∷ (g.beside ++ (bars_over p ∷ g.after))))

    begins : length g.before ≡ start
    begins =
        let some = found-at h es g.before (g.inside ++ (bars_over h ∷ (g.beside ++ (bars_over p ∷ g.after)))) (own h) g.was g.first (eq-eqb h h refl) in
        let e : Some (length g.before) ≡ Some start = sym some ∙ found in
        cc

    pub from-own : all_entries (drop start es) ≡ listed
    from-own = sym (drop-map entry_in start es) ∙ (ap (drop start) g.was ∙ drop_at g.before listed start begins)

    -- after the part from there on was turned
    module _ (fs : List Entry) (now : all_entries fs ≡ g.beside ++ (own h ∷ (g.inside ++ (bars_over h ∷ (bars_over p ∷ g.after))))) where
      as-many : length fs ≡ length (drop start es)
      as-many =
          let a = length-append g.beside (own h ∷ (g.inside ++ (bars_over h ∷ (bars_over p ∷ g.after)))) in
          let b = length-append g.inside (bars_over h ∷ (bars_over p ∷ g.after)) in
          let c = length-append g.inside (bars_over h ∷ (g.beside ++ (bars_over p ∷ g.after))) in
          let d = length-append g.beside (bars_over p ∷ g.after) in
          let same : length (g.beside ++ (own h ∷ (g.inside ++ (bars_over h ∷ (bars_over p ∷ g.after))))) ≡ length listed = omega (arith, a, b, c, d) in
          sym (length-map fs entry_in) ∙ (ap length now ∙ (same ∙ (ap length (sym from-own) ∙ length-map (drop start es) entry_in)))

      pub put-length : start ≤ length es → length (put_mid start (length es - start) es fs) ≡ length es
      put-length within =
          let k = length es - start in
          let a = length-append (take start es) (fs ++ drop k (drop start es)) in
          let b = length-append fs (drop k (drop start es)) in
          let c = length-take-le start es within in
          let d = length-drop k (drop start es) in
          let e = length-drop start es in
          let f = as-many in
          omega (arith, a, b, c, d, e, f, within)

      pub put-last : all_entries (put_mid start (length es - start) es fs) ≡ new
      put-last =
          let k = length es - start in
          let none : drop k (drop start es) ≡ [] = drop_all k (drop start es) (let l = length-drop start es in omega (arith, l)) in
          let front : all_entries (take start es) ≡ g.before = sym (take-map entry_in start es) ∙ (ap (take start) g.was ∙ take_at g.before listed start begins) in
          map-append entry_in (take start es) (fs ++ drop k (drop start es))
          ∙ (ap (λ l. l ++ all_entries (fs ++ drop k (drop start es))) front
          ∙ (ap (λ (l : List Entry). g.before ++ all_entries (fs ++ l)) none
          ∙ (ap (λ (l : List Entry). g.before ++ all_entries l) (append-nil fs) ∙ (ap (λ l. g.before ++ l) now ∙ sym g.is))))
