-- What `Buckets` makes of its slots: a value read, put in the place of another, put behind all others, or taken out.
use Rattle.std.proofs.Common.{◌≡◌, ◌≢◌, ◌⊎◌, ℕ, zero, suc, ◌<◌, ◌≤◌, List, [], ◌∷◌, ◌++◌, length, Option, Some, None, option_map, slice_get, get_or, set, refl, sym, ap, inl, inr, ◌∙◌, subst, arith, length-append, length-set}
use Rattle.std.proofs.lemmas.List.{get_or-set_same, get_or-set_other, get_or_past}
use Rattle.gui_pool.specs.Slots.{Slots, with_value, inserted, removed}
use Rattle.gui_pool.specs.declared.buckets.Node.{Node}
use Rattle.gui_pool.specs.Runs.{nowhere, next_or, at, slot_at, IsRun, run_from, linked_slots}
use Rattle.gui_pool.proofs.Runs.{Cells, IsRunIn, kept, plain, kept_in, weaken, Holds, HasRank, one_rank, join, split, slot_at_next, slot_at_end, RanksAbove, RanksUpTo, ranked_above, ranked_up_to, Changes}

module _ {T : Type 0} where
  abbrev pub node_at : T → ℕ → Node T
  node_at value next = record { value = value; next = next }

  abbrev pub value_of : Option (Node T) → Option T
  value_of o = option_map (λ node. node.value) o

  nowhere_stays : (cells : Cells T) (n : ℕ) → length cells ≤ nowhere → slot_at cells nowhere n ≡ nowhere
  nowhere_stays cells zero small = refl
  nowhere_stays cells (suc n) small =
      ap (λ k. next_or nowhere (at cells k)) (nowhere_stays cells n small) ∙ ap (next_or nowhere) (get_or_past cells nowhere None small)

  -- a list as what stands before a place, the value there, and what stands behind it
  pub record Broken (xs : List T) (n : ℕ) : Type 0 where
    pub front : List T
    pub value : T
    pub back : List T
    pub whole : xs ≡ front ++ value ∷ back
    pub long : length front ≡ n

  pub broken : (xs : List T) (n : ℕ) → n < length xs → Broken xs n
  broken [] n lt = absurd (omega arith)
  broken (x ∷ xs) zero lt = record { front = []; value = x; back = xs; whole = refl; long = refl }
  broken (x ∷ xs) (suc n) lt =
      let b = broken xs n (omega arith) in
      record { front = x ∷ b.front; value = b.value; back = b.back; whole = ap (λ ys. x ∷ ys) b.whole; long = ap suc b.long }

  pub held_within : (cells : Cells T) (k : ℕ) (node : Node T) → at cells k ≡ Some node → k < length cells
  held_within [] k node e = cc
  held_within (c ∷ cells) zero node e = omega arith
  held_within (c ∷ cells) (suc k) node e = let within = held_within cells k node e in omega arith

  -- the last value of a list that has one
  pub ends : (xs : List T) → (xs ≡ []) ⊎ ((front : List T) × (last : T) × (xs ≡ front ++ last ∷ []))
  ends [] = inl refl
  ends (x ∷ xs) =
      elim (ends xs) [
        | inl e ↦ inr ([], x, ap (λ ys. x ∷ ys) e)
        | inr e ↦ inr (x ∷ e.0, e.1, ap (λ ys. x ∷ ys) e.2)
      ]

  -- a value behind all others, in a slot that was vacant
  abbrev pub pushed : Slots (Node T) → ℕ → T → Slots (Node T)
  pushed s slot v = inserted s slot (node_at v nowhere)

module _ {T : Type 0} (owner : ℕ → ℕ) where
  -- the value at a place of a run
  pub reads : (cells : Cells T) (bucket first : ℕ) (xs : List T) (n : ℕ) → length cells ≤ nowhere → IsRun owner cells bucket first xs nowhere → value_of (at cells (slot_at cells first n)) ≡ slice_get xs n
  reads cells bucket first [] n small run =
      ap (λ k. value_of (at cells (slot_at cells k n))) run ∙ ap (λ k. value_of (at cells k)) (nowhere_stays cells n small) ∙ ap value_of (get_or_past cells nowhere None small)
  reads cells bucket first (x ∷ xs) zero small run = ap value_of run.1
  reads cells bucket first (x ∷ xs) (suc n) small run =
      ap (λ k. value_of (at cells k)) (slot_at_next cells first n) ∙ ap (λ o. value_of (at cells (slot_at cells (next_or nowhere o) n))) run.1 ∙ reads cells bucket run.0 xs n small run.2

  -- the same of a run
  pub record Parts (cells : Cells T) (bucket first : ℕ) (front : List T) (value : T) (back : List T) : Type 0 where
    pub slot : ℕ
    pub next : ℕ
    pub before : IsRunIn owner (RanksAbove owner cells bucket (suc (length back))) cells bucket first front slot
    pub here : at cells slot ≡ Some (node_at value next)
    pub after : IsRunIn owner (RanksUpTo owner cells bucket (length back)) cells bucket next back nowhere
    pub own : owner slot ≡ bucket
    pub place : slot_at cells first (length front) ≡ slot
    pub rank : HasRank owner cells bucket slot (suc (length back))

  pub parts : (cells : Cells T) (bucket first : ℕ) (front : List T) (value : T) (back : List T) → IsRun owner cells bucket first (front ++ value ∷ back) nowhere → Parts cells bucket first front value back
  parts cells bucket first front value back run =
      let two = split owner cells bucket first front (value ∷ back) nowhere run in
      record {
        slot = two.0;
        next = two.2.0;
        before = ranked_above owner cells bucket first front two.0 (value ∷ back) two.1 two.2;
        here = two.2.1;
        after = ranked_up_to owner cells bucket two.2.0 back (length back) two.2.2 (omega arith);
        own = two.2.3;
        place = slot_at_end owner cells bucket first front two.0 two.1;
        rank = (value ∷ back, two.2, refl);
      }

  -- a slot of another rank is another slot
  above_other : (cells : Cells T) (bucket m k q : ℕ) → length cells ≤ nowhere → HasRank owner cells bucket q m → RanksAbove owner cells bucket m k → k ≢ q
  above_other cells bucket m k q small rank above =
      λ e. let same = one_rank owner cells bucket q m above.0 small rank (subst (λ j. HasRank owner cells bucket j above.0) e above.1) in let lt = above.2 in omega arith

  up_to_other : (cells : Cells T) (bucket m n k q : ℕ) → length cells ≤ nowhere → HasRank owner cells bucket q n → m < n → RanksUpTo owner cells bucket m k → k ≢ q
  up_to_other cells bucket m n k q small rank lt up =
      λ e. let same = one_rank owner cells bucket q n up.0 small rank (subst (λ j. HasRank owner cells bucket j up.0) e up.1) in let le = up.2 in omega arith

  -- a slot of another bucket is another slot
  pub apart : (cells : Cells T) (bucket o k q : ℕ) → o ≢ bucket → Holds owner cells o k → owner q ≡ bucket → k ≢ q
  apart cells bucket o k q ne held is = λ e. ne (sym held.2 ∙ ap owner e ∙ is)

  -- where a slot of a bucket comes to stand behind another, the first part of the run goes on with the values from that slot on
  relinked : (s : Slots (Node T)) (bucket first : ℕ) (front : List T) (p : ℕ) (v : T) (next slot : ℕ) (rest : List T) → IsRunIn owner (λ k. k ≢ p) s.slots bucket first front p → at s.slots p ≡ Some (node_at v next) → owner p ≡ bucket → IsRunIn owner (λ k. k ≢ p) s.slots bucket slot rest nowhere → IsRun owner (set s.slots p (Some (node_at v slot))) bucket first (front ++ v ∷ rest) nowhere
  relinked s bucket first front p v next slot rest before here own after =
      let cells = s.slots in let new = Some (node_at v slot) in
      let cells' = set cells p new in
      let same : (k : ℕ) → k ≢ p → at cells' k ≡ at cells k = λ k ne. get_or-set_other cells p k new None ne in
      join owner cells' bucket first front p (v ∷ rest) nowhere (kept owner (λ k. k ≢ p) cells cells' bucket first front p same before) (slot, get_or-set_same cells p new None (held_within cells p (node_at v next) here), kept owner (λ k. k ≢ p) cells cells' bucket slot rest nowhere same after, own)

  -- a run of which each slot meets P, and holds a value of the bucket
  both : (cells : Cells T) (bucket first : ℕ) (xs : List T) (to : ℕ) (P : ℕ → Type 0) → IsRunIn owner P cells bucket first xs to → IsRunIn owner (λ k. Holds owner cells bucket k × P k) cells bucket first xs to
  both cells bucket first [] to P run = run
  both cells bucket first (x ∷ xs) to P run =
      (((node_at x run.1, run.2, run.4), run.0), run.1, run.2, both cells bucket run.1 xs to P run.3, run.4)

  -- another value in the place of one
  pub replaced : (s : Slots (Node T)) (firsts : List ℕ) (bucket : ℕ) (front : List T) (value : T) (back : List T) (w : T) → bucket < length firsts → length s.slots ≤ nowhere → run_from s.slots (get_or firsts bucket 0) ≡ front ++ value ∷ back
      → (p : Parts s.slots bucket (get_or firsts bucket 0) front value back) → Changes owner s (with_value s p.slot (node_at w p.next)) firsts firsts bucket (front ++ w ∷ back)
  replaced s firsts bucket front value back w within small whole p =
      let cells = s.slots in let first = get_or firsts bucket 0 in
      let cells' = set cells p.slot (Some (node_at w p.next)) in
      let slot_in = held_within cells p.slot (node_at value p.next) p.here in
      let same : (k : ℕ) → k ≢ p.slot → at cells' k ≡ at cells k = λ k ne. get_or-set_other cells p.slot k (Some (node_at w p.next)) None ne in
      let before = kept owner (RanksAbove owner cells bucket (suc (length back))) cells cells' bucket first front p.slot (λ k r. same k (above_other cells bucket (suc (length back)) k p.slot small p.rank r)) p.before in
      let after = kept owner (RanksUpTo owner cells bucket (length back)) cells cells' bucket p.next back nowhere (λ k r. same k (up_to_other cells bucket (length back) (suc (length back)) k p.slot small p.rank (omega arith) r)) p.after in
      record {
        long = length-set cells p.slot (Some (node_at w p.next));
        all = refl;
        within = within;
        others = λ o ne. refl;
        same = λ o ne k held. same k (apart cells bucket o k p.slot ne held p.own);
        run = join owner cells' bucket first front p.slot (w ∷ back) nowhere before (p.next, get_or-set_same cells p.slot (Some (node_at w p.next)) None slot_in, after, p.own);
        count = let was = ap length whole in let now = length-append front (w ∷ back) in let then = length-append front (value ∷ back) in omega arith;
      }

  pub push_first : (s : Slots (Node T)) (firsts : List ℕ) (bucket : ℕ) (v : T) (slot : ℕ) → owner slot ≡ bucket → bucket < length firsts → s.spare ≢ 0 → at s.slots slot ≡ None → slot < length s.slots → run_from s.slots (get_or firsts bucket 0) ≡ [] → Changes owner s (pushed s slot v) firsts (set firsts bucket slot) bucket (v ∷ [])
  push_first s firsts bucket v slot own within some vacant slot_in none =
      let cells = s.slots in let new = Some (node_at v nowhere) in
      let cells' = set cells slot new in
      let first : get_or (set firsts bucket slot) bucket 0 ≡ slot = get_or-set_same firsts bucket slot 0 within in
      let run : IsRun owner cells' bucket slot (v ∷ []) nowhere = (nowhere, get_or-set_same cells slot new None slot_in, refl, own) in
      record {
        long = length-set cells slot new;
        all = length-set firsts bucket slot;
        within = within;
        others = λ o ne. get_or-set_other firsts bucket o slot 0 ne;
        same = λ o ne k held. get_or-set_other cells slot k new None (λ e. let there = held.1 in let here : at cells k ≡ None = ap (at cells) e ∙ vacant in cc);
        run = subst (λ k. IsRun owner cells' bucket k (v ∷ []) nowhere) (sym first) run;
        count = let was = ap length none in omega arith;
      }

  pub push_more : (s : Slots (Node T)) (firsts : List ℕ) (bucket : ℕ) (front : List T) (last v : T) (slot : ℕ) → owner slot ≡ bucket → bucket < length firsts → length s.slots ≤ nowhere → s.spare ≢ 0 → at s.slots slot ≡ None → slot < length s.slots → run_from s.slots (get_or firsts bucket 0) ≡ front ++ last ∷ [] → (p : Parts s.slots bucket (get_or firsts bucket 0) front last [])
      → (at (pushed s slot v).slots (slot_at (pushed s slot v).slots (get_or firsts bucket 0) (length front)) ≡ Some (node_at last p.next)) × Changes owner s (linked_slots (pushed s slot v) (get_or firsts bucket 0) (suc (length front)) slot) firsts firsts bucket (front ++ last ∷ v ∷ [])
  push_more s firsts bucket front last v slot own within small some vacant slot_in whole p =
      let cells = s.slots in let first = get_or firsts bucket 0 in
      let new = Some (node_at v nowhere) in
      let s1 = pushed s slot v in
      let cells1 = set cells slot new in
      let held = node_at last p.next in
      -- the slot was vacant, and no slot of a run is
      let same : (k : ℕ) (node : Node T) → at cells k ≡ Some node → at cells1 k ≡ at cells k = λ k node there. get_or-set_other cells slot k new None (λ e. let here : at cells k ≡ None = ap (at cells) e ∙ vacant in cc) in
      let Before : ℕ → Type 0 = λ k. Holds owner cells bucket k × (k ≢ p.slot) in
      let before : IsRunIn owner Before cells bucket first front p.slot = both cells bucket first front p.slot (λ k. k ≢ p.slot) (weaken owner (RanksAbove owner cells bucket 1) (λ k. k ≢ p.slot) cells bucket first front p.slot (λ k r. above_other cells bucket 1 k p.slot small p.rank r) p.before) in
      let before1 : IsRunIn owner (λ k. k ≢ p.slot) cells1 bucket first front p.slot = weaken owner Before (λ k. k ≢ p.slot) cells1 bucket first front p.slot (λ k b. b.1) (kept_in owner Before cells cells1 bucket first front p.slot (λ k b. same k b.0.0 b.0.1) before) in
      let here1 : at cells1 p.slot ≡ Some held = same p.slot held p.here ∙ p.here in
      let other : slot ≢ p.slot = λ e. let there : at cells p.slot ≡ None = ap (at cells) (sym e) ∙ vacant in let here = p.here in cc in
      let place1 : slot_at cells1 first (length front) ≡ p.slot = slot_at_end owner cells1 bucket first front p.slot (plain owner (λ k. k ≢ p.slot) cells1 bucket first front p.slot before1) in
      let run = relinked s1 bucket first front p.slot last p.next slot (v ∷ []) before1 here1 p.own (other, nowhere, get_or-set_same cells slot new None slot_in, refl, own) in
      let made : linked_slots s1 first (suc (length front)) slot ≡ with_value s1 p.slot (node_at last slot) = rw (place1, here1) refl in
      let New = Some (node_at last slot) in (
        ap (at cells1) place1 ∙ here1,
        rw made (record {
          long = length-set cells1 p.slot New ∙ length-set cells slot new;
          all = refl;
          within = within;
          others = λ o ne. refl;
          same = λ o ne k held. get_or-set_other cells1 p.slot k New None (apart cells bucket o k p.slot ne held p.own) ∙ same k held.0 held.1;
          run = run;
          count = let was = ap length whole in let now = length-append front (last ∷ v ∷ []) in let then = length-append front (last ∷ []) in omega arith;
        }),
      )

  -- a value taken out, the first or another
  pub remove_first : (s : Slots (Node T)) (firsts : List ℕ) (bucket : ℕ) (value : T) (back : List T) → bucket < length firsts → length s.slots ≤ nowhere → run_from s.slots (get_or firsts bucket 0) ≡ value ∷ back → (p : Parts s.slots bucket (get_or firsts bucket 0) [] value back)
      → Changes owner s (removed s p.slot) firsts (set firsts bucket p.next) bucket back
  remove_first s firsts bucket value back within small whole p =
      let cells = s.slots in let cells' = set cells p.slot None in
      let first : get_or (set firsts bucket p.next) bucket 0 ≡ p.next = get_or-set_same firsts bucket p.next 0 within in
      let same : (k : ℕ) → k ≢ p.slot → at cells' k ≡ at cells k = λ k ne. get_or-set_other cells p.slot k None None ne in
      let after = kept owner (RanksUpTo owner cells bucket (length back)) cells cells' bucket p.next back nowhere (λ k r. same k (up_to_other cells bucket (length back) (suc (length back)) k p.slot small p.rank (omega arith) r)) p.after in
      record {
        long = length-set cells p.slot None;
        all = length-set firsts bucket p.next;
        within = within;
        others = λ o ne. get_or-set_other firsts bucket o p.next 0 ne;
        same = λ o ne k held. same k (apart cells bucket o k p.slot ne held p.own);
        run = subst (λ k. IsRun owner cells' bucket k back nowhere) (sym first) after;
        count = let was = ap length whole in omega arith;
      }

  -- the run up to the value before, that value, and the run from the value behind on
  pub remove_more : (s : Slots (Node T)) (firsts : List ℕ) (bucket : ℕ) (front : List T) (v value : T) (back : List T) → bucket < length firsts → length s.slots ≤ nowhere → run_from s.slots (get_or firsts bucket 0) ≡ front ++ v ∷ value ∷ back → (p : Parts s.slots bucket (get_or firsts bucket 0) front v (value ∷ back))
      → (q : Parts s.slots bucket p.next [] value back)
      → (at (removed s q.slot).slots (slot_at (removed s q.slot).slots (get_or firsts bucket 0) (length front)) ≡ Some (node_at v p.next)) × Changes owner s (linked_slots (removed s q.slot) (get_or firsts bucket 0) (suc (length front)) q.next) firsts firsts bucket (front ++ v ∷ back)
  remove_more s firsts bucket front v value back within small whole p q =
      let cells = s.slots in let first = get_or firsts bucket 0 in
      let s1 = removed s q.slot in let cells1 = set cells q.slot None in
      let held = node_at v p.next in
      let same : (k : ℕ) → k ≢ q.slot → at cells1 k ≡ at cells k = λ k ne. get_or-set_other cells q.slot k None None ne in
      let long = length back in
      let lower : (k : ℕ) → RanksAbove owner cells bucket (suc (suc long)) k → k ≢ q.slot = λ k r. above_other cells bucket (suc long) k q.slot small q.rank (r.0, r.1, (let lt = r.2 in omega arith)) in
      let above : (k : ℕ) → RanksAbove owner cells bucket (suc (suc long)) k → k ≢ p.slot = λ k r. above_other cells bucket (suc (suc long)) k p.slot small p.rank r in
      let before1 = weaken owner (RanksAbove owner cells bucket (suc (suc long))) (λ k. k ≢ p.slot) cells1 bucket first front p.slot above (kept_in owner (RanksAbove owner cells bucket (suc (suc long))) cells cells1 bucket first front p.slot (λ k r. same k (lower k r)) p.before) in
      let after1 = weaken owner (RanksUpTo owner cells bucket long) (λ k. k ≢ p.slot) cells1 bucket q.next back nowhere (λ k r. up_to_other cells bucket long (suc (suc long)) k p.slot small p.rank (omega arith) r) (kept_in owner (RanksUpTo owner cells bucket long) cells cells1 bucket q.next back nowhere (λ k r. same k (up_to_other cells bucket long (suc long) k q.slot small q.rank (omega arith) r)) q.after) in
      let apart_ : p.slot ≢ q.slot = above_other cells bucket (suc long) p.slot q.slot small q.rank (suc (suc long), p.rank, omega arith) in
      let here1 : at cells1 p.slot ≡ Some held = same p.slot apart_ ∙ p.here in
      let place1 : slot_at cells1 first (length front) ≡ p.slot = slot_at_end owner cells1 bucket first front p.slot (plain owner (λ k. k ≢ p.slot) cells1 bucket first front p.slot before1) in
      let run = relinked s1 bucket first front p.slot v p.next q.next back before1 here1 p.own after1 in
      let made : linked_slots s1 first (suc (length front)) q.next ≡ with_value s1 p.slot (node_at v q.next) = rw (place1, here1) refl in
      let New = Some (node_at v q.next) in (
        ap (at cells1) place1 ∙ here1,
        rw made (record {
          long = length-set cells1 p.slot New ∙ length-set cells q.slot None;
          all = refl;
          within = within;
          others = λ o ne. refl;
          same = λ o ne k held. get_or-set_other cells1 p.slot k New None (apart cells bucket o k p.slot ne held p.own) ∙ same k (apart cells bucket o k q.slot ne held q.own);
          run = run;
          count = let was = ap length whole in let now = length-append front (v ∷ back) in let then = length-append front (v ∷ value ∷ back) in omega arith;
        }),
      )
