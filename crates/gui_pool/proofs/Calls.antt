-- What each call of `Buckets` leaves: sound lists, of which one is another than before.
use Rattle.std.proofs.Common.{◌≡◌, ◌≢◌, ◌⊎◌, ℕ, suc, ◌+◌, ◌<◌, List, [], ◌∷◌, ◌++◌, length, map, Some, None, slice_get, get_or, set, refl, sym, ap, inl, inr, ◌∙◌, subst, arith, length-append, append_assoc}
use Rattle.std.proofs.lemmas.Bool.{cases_eq}
use Rattle.std.proofs.lemmas.List.{set_at, length-map, get_or-map, get_or_default}
use Rattle.std.specs.List.{remove}
use Rattle.std.proofs.lemmas.Option.{same_Some}
use Rattle.gui_pool.specs.Slots.{Slots, with_value, removed}
use Rattle.gui_pool.specs.declared.buckets.Node.{Node}
use Rattle.gui_pool.specs.Runs.{nowhere, next_or, at, slot_at, IsRun, run_from, AreRuns, linked_slots, linked_firsts, IsHeldBefore}
use Rattle.gui_pool.proofs.Runs.{RanksUpTo, plain, Changes, AreRunsBy, runs_by, by_owner, IsRun-reowned, AreRuns-changed, runs_changed}
use Rattle.gui_pool.proofs.Listed.{node_at, Broken, broken, Parts, parts, replaced, pushed, push_first, push_more, remove_first, remove_more, ends}

-- one number where two others are the same, and else another
abbrev pick : {k slot : ℕ} → (k ≡ slot) ⊎ (k ≢ slot) → ℕ → ℕ → ℕ
pick (inl same) a b = a
pick (inr ne) a b = b

pick-same : {k slot : ℕ} (which : (k ≡ slot) ⊎ (k ≢ slot)) (a b : ℕ) → k ≡ slot → pick which a b ≡ a
pick-same (inl same) a b e = refl
pick-same (inr ne) a b e = absurd (ne e)

pick-other : {k slot : ℕ} (which : (k ≡ slot) ⊎ (k ≢ slot)) (a b : ℕ) → k ≢ slot → pick which a b ≡ b
pick-other (inl same) a b ne = absurd (ne same)
pick-other (inr other) a b ne = refl

-- a slot is of the bucket, and all others are of theirs
abbrev with_owner : (ℕ → ℕ) → ℕ → ℕ → ℕ → ℕ
with_owner owner slot bucket k = pick (cases_eq k slot) bucket (owner k)

module _ {T : Type 0} where
  -- the lists after a call
  pub record Left (s s' : Slots (Node T)) (firsts firsts' : List ℕ) (bucket : ℕ) (xs : List T) : Type 0 where
    pub sound : AreRuns s' firsts'
    pub lists : map (run_from s'.slots) firsts' ≡ set (map (run_from s.slots) firsts) bucket xs
    pub long : length s'.slots ≡ length s.slots
    pub count : length xs + s'.spare ≡ length (get_or (map (run_from s.slots) firsts) bucket []) + s.spare

  get-middle : (front : List T) (x : T) (back : List T) → slice_get (front ++ x ∷ back) (length front) ≡ Some x
  get-middle [] x back = refl
  get-middle (y ∷ front) x back = get-middle front x back

  pub remove-middle : (front : List T) (x : T) (back : List T) → remove (front ++ x ∷ back) (length front) ≡ front ++ back
  remove-middle [] x back = refl
  remove-middle (y ∷ front) x back = ap (λ ys. y ∷ ys) (remove-middle front x back)

  -- a value behind all others
  pub record Pushed (s : Slots (Node T)) (firsts : List ℕ) (bucket slot n : ℕ) (v : T) : Type 0 where
    pub held : IsHeldBefore (pushed s slot v) (get_or firsts bucket 0) n
    pub left : Left s (linked_slots (pushed s slot v) (get_or firsts bucket 0) n slot) firsts (linked_firsts firsts bucket n slot) bucket (get_or (map (run_from s.slots) firsts) bucket [] ++ v ∷ [])

  -- a value taken out
  pub record Removed (s : Slots (Node T)) (firsts : List ℕ) (bucket slot n next : ℕ) : Type 0 where
    pub held : IsHeldBefore (removed s slot) (get_or firsts bucket 0) n
    pub left : Left s (linked_slots (removed s slot) (get_or firsts bucket 0) n next) firsts (linked_firsts firsts bucket n next) bucket (remove (get_or (map (run_from s.slots) firsts) bucket []) n)

-- the bucket of each slot that has a value
module _ {T : Type 0} (owner : ℕ → ℕ) where
  left : (s s' : Slots (Node T)) (firsts firsts' : List ℕ) (bucket : ℕ) (xs : List T) → AreRunsBy owner s firsts → Changes owner s s' firsts firsts' bucket xs → Left s s' firsts firsts' bucket xs
  left s s' firsts firsts' bucket xs sound changes = record {
    sound = runs_by owner s' firsts' (AreRuns-changed owner s s' firsts firsts' bucket xs sound changes);
    lists = runs_changed owner s s' firsts firsts' bucket xs sound changes;
    long = changes.long;
    count = changes.count ∙ ap (λ ys. length ys + s.spare) (sym (get_or-map (run_from s.slots) firsts bucket 0 [] changes.within));
  }

  -- the value of a bucket at a place, with what stands before and behind it
  pub record Found (s : Slots (Node T)) (firsts : List ℕ) (bucket n : ℕ) : Type 0 where
    pub within : bucket < length firsts
    pub list : get_or (map (run_from s.slots) firsts) bucket [] ≡ run_from s.slots (get_or firsts bucket 0)
    pub broken : Broken (run_from s.slots (get_or firsts bucket 0)) n
    pub parts : Parts owner s.slots bucket (get_or firsts bucket 0) broken.front broken.value broken.back
    pub slot : slot_at s.slots (get_or firsts bucket 0) n ≡ parts.slot
    pub value : slice_get (get_or (map (run_from s.slots) firsts) bucket []) n ≡ Some broken.value

  pub found : (s : Slots (Node T)) (firsts : List ℕ) (bucket n : ℕ) → AreRunsBy owner s firsts → bucket < length (map (run_from s.slots) firsts) → n < length (get_or (map (run_from s.slots) firsts) bucket []) → Found s firsts bucket n
  found s firsts bucket n sound lt there =
      let first = get_or firsts bucket 0 in
      let within : bucket < length firsts = omega (arith, length-map firsts (run_from s.slots)) in
      let list : get_or (map (run_from s.slots) firsts) bucket [] ≡ run_from s.slots first = get_or-map (run_from s.slots) firsts bucket 0 [] within in
      let b = broken (run_from s.slots first) n (let e = ap length list in omega arith) in
      let p = parts owner s.slots bucket first b.front b.value b.back (subst (λ xs. IsRun owner s.slots bucket first xs nowhere) b.whole (sound.runs bucket within)) in
      record {
        within = within;
        list = list;
        broken = b;
        parts = p;
        slot = ap (slot_at s.slots first) (sym b.long) ∙ p.place;
        value = ap (λ xs. slice_get xs n) (list ∙ b.whole) ∙ ap (slice_get (b.front ++ b.value ∷ b.back)) (sym b.long) ∙ get-middle b.front b.value b.back;
      }

  -- another value in the place of one
  pub replaces : (s : Slots (Node T)) (firsts : List ℕ) (bucket n : ℕ) (w : T) → AreRunsBy owner s firsts → (f : Found s firsts bucket n) → Left s (with_value s f.parts.slot (node_at w f.parts.next)) firsts firsts bucket (set (get_or (map (run_from s.slots) firsts) bucket []) n w)
  replaces s firsts bucket n w sound f =
      let b = f.broken in
      let new : set (get_or (map (run_from s.slots) firsts) bucket []) n w ≡ b.front ++ w ∷ b.back = ap (λ xs. set xs n w) (f.list ∙ b.whole) ∙ set_at b.front b.value b.back w n b.long in
      rw new (left s (with_value s f.parts.slot (node_at w f.parts.next)) firsts firsts bucket (b.front ++ w ∷ b.back) sound (replaced owner s firsts bucket b.front b.value b.back w f.within sound.small b.whole f.parts))

  pushes_own : (s : Slots (Node T)) (firsts : List ℕ) (bucket slot n : ℕ) (v : T) → owner slot ≡ bucket → AreRunsBy owner s firsts → bucket < length (map (run_from s.slots) firsts) → n ≡ length (get_or (map (run_from s.slots) firsts) bucket []) → at s.slots slot ≡ None → slot < length s.slots → s.spare ≢ 0 → Pushed s firsts bucket slot n v
  pushes_own s firsts bucket slot n v own sound lt is vacant slot_in some =
      let first = get_or firsts bucket 0 in
      let within : bucket < length firsts = omega (arith, length-map firsts (run_from s.slots)) in
      let list : get_or (map (run_from s.slots) firsts) bucket [] ≡ run_from s.slots first = get_or-map (run_from s.slots) firsts bucket 0 [] within in
      elim (ends (run_from s.slots first)) [
        | inl none ↦
            let zero_long : n ≡ 0 = is ∙ ap length (list ∙ none) in
            subst (λ k. Pushed s firsts bucket slot k v) (sym zero_long) (record {
              held = tt;
              left = rw (list ∙ none) (left s (pushed s slot v) firsts (set firsts bucket slot) bucket (v ∷ []) sound (push_first owner s firsts bucket v slot own within some vacant slot_in none));
            })
        | inr e ↦
            let front = e.0 in let last = e.1 in
            let more : n ≡ suc (length front) = (let long = ap length (list ∙ e.2) in let parts = length-append front (last ∷ []) in omega arith) in
            let p = parts owner s.slots bucket first front last [] (subst (λ xs. IsRun owner s.slots bucket first xs nowhere) e.2 (sound.runs bucket within)) in
            let pushed_ = push_more owner s firsts bucket front last v slot own within sound.small some vacant slot_in e.2 p in
            subst (λ k. Pushed s firsts bucket slot k v) (sym more) (record {
              held = rw pushed_.0 refl;
              left = rw (list ∙ e.2, append_assoc) (left s (linked_slots (pushed s slot v) first (suc (length front)) slot) firsts firsts bucket (front ++ last ∷ v ∷ []) sound pushed_.1);
            })
      ]

  -- the first value, or one behind another
  pub removes : (s : Slots (Node T)) (firsts : List ℕ) (bucket n : ℕ) → AreRunsBy owner s firsts → (f : Found s firsts bucket n) → Removed s firsts bucket f.parts.slot n f.parts.next
  removes s firsts bucket n sound f =
      let cells = s.slots in let first = get_or firsts bucket 0 in
      let b = f.broken in let p = f.parts in
      elim (ends b.front) [
        | inl none ↦
            let zero_long : n ≡ 0 = sym b.long ∙ ap length none in
            let whole : run_from cells first ≡ b.value ∷ b.back = b.whole ∙ ap (λ xs. xs ++ b.value ∷ b.back) none in
            let q = subst (λ xs. Parts owner cells bucket first xs b.value b.back) none p in
            let q_slot : q.slot ≡ p.slot = sym q.place ∙ ap (λ xs. slot_at cells first (length xs)) (sym none) ∙ p.place in
            let q_next : q.next ≡ p.next = ap (next_or nowhere) (sym q.here ∙ ap (at cells) q_slot ∙ p.here) in
            rw (zero_long, ← q_slot, ← q_next) (record {
              held = tt;
              left = rw (f.list ∙ whole) (left s (removed s q.slot) firsts (set firsts bucket q.next) bucket b.back sound (remove_first owner s firsts bucket b.value b.back f.within sound.small whole q));
            })
        | inr e ↦
            let front = e.0 in let v = e.1 in
            let more : n ≡ suc (length front) = (let long = ap length e.2 in let was = b.long in let sums = length-append front (v ∷ []) in omega arith) in
            let whole : run_from cells first ≡ front ++ v ∷ b.value ∷ b.back = b.whole ∙ ap (λ xs. xs ++ b.value ∷ b.back) e.2 ∙ append_assoc front (v ∷ []) (b.value ∷ b.back) in
            let r = parts owner cells bucket first front v (b.value ∷ b.back) (subst (λ xs. IsRun owner cells bucket first xs nowhere) whole (sound.runs bucket f.within)) in
            let q = parts owner cells bucket r.next [] b.value b.back (plain owner (RanksUpTo owner cells bucket (suc (length b.back))) cells bucket r.next (b.value ∷ b.back) nowhere r.after) in
            let q_slot : q.slot ≡ p.slot = sym q.place ∙ sym (ap (next_or nowhere) (ap (at cells) r.place ∙ r.here)) ∙ ap (slot_at cells first) (sym more ∙ sym b.long) ∙ p.place in
            let q_next : q.next ≡ p.next = ap (next_or nowhere) (sym q.here ∙ ap (at cells) q_slot ∙ p.here) in
            let gone = remove_more owner s firsts bucket front v b.value b.back f.within sound.small whole r q in
            let list : remove (get_or (map (run_from cells) firsts) bucket []) n ≡ front ++ v ∷ b.back = ap (λ xs. remove xs n) (f.list ∙ b.whole) ∙ ap (remove (b.front ++ b.value ∷ b.back)) (sym b.long) ∙ remove-middle b.front b.value b.back ∙ ap (λ xs. xs ++ b.back) e.2 ∙ append_assoc front (v ∷ []) b.back in
            rw (more, ← q_slot, ← q_next) (record {
              held = rw gone.0 refl;
              left = rw (ap (remove (get_or (map (run_from cells) firsts) bucket [])) (sym more) ∙ list) (left s (linked_slots (removed s q.slot) first (suc (length front)) q.next) firsts firsts bucket (front ++ v ∷ b.back) sound gone.1);
            })
      ]

module _ {T : Type 0} where
  -- a slot that has no value may come to be of any bucket
  reowned : (owner : ℕ → ℕ) (s : Slots (Node T)) (firsts : List ℕ) (bucket slot : ℕ) → at s.slots slot ≡ None → AreRunsBy owner s firsts → AreRunsBy (with_owner owner slot bucket) s firsts
  reowned owner s firsts bucket slot vacant sound =
      let same : (k : ℕ) (node : Node T) → at s.slots k ≡ Some node → with_owner owner slot bucket k ≡ owner k = λ k node there. pick-other (cases_eq k slot) bucket (owner k) (λ e. let here : at s.slots k ≡ None = ap (at s.slots) e ∙ vacant in cc) in
      record {
        runs = λ o within. IsRun-reowned owner (with_owner owner slot bucket) s.slots o (get_or firsts o 0) (run_from s.slots (get_or firsts o 0)) nowhere same (sound.runs o within);
        counted = sound.counted;
        small = sound.small;
      }

  pub pushes : (s : Slots (Node T)) (firsts : List ℕ) (bucket slot n : ℕ) (v : T) → AreRuns s firsts → bucket < length (map (run_from s.slots) firsts) → n ≡ length (get_or (map (run_from s.slots) firsts) bucket []) → at s.slots slot ≡ None → slot < length s.slots → s.spare ≢ 0 → Pushed s firsts bucket slot n v
  pushes s firsts bucket slot n v sound lt is vacant slot_in some =
      let owner = with_owner sound.owner slot bucket in
      pushes_own owner s firsts bucket slot n v (pick-same (cases_eq slot slot) bucket (sound.owner slot) refl) (reowned sound.owner s firsts bucket slot vacant (by_owner s firsts sound)) lt is vacant slot_in some

  -- what a call has read: the bucket's first slot, and the slot at the place
  pub record Read (s : Slots (Node T)) (firsts : List ℕ) (bucket n first slot : ℕ) : Type 0 where
    pub sound : AreRuns s firsts
    pub within : bucket < length (map (run_from s.slots) firsts)
    pub there : n < length (get_or (map (run_from s.slots) firsts) bucket [])
    pub is_first : first ≡ get_or firsts bucket first
    pub is_slot : slot ≡ slot_at s.slots first n

  module _ (s : Slots (Node T)) (firsts : List ℕ) (bucket n first slot : ℕ) (r : Read s firsts bucket n first slot) where
    f : Found r.sound.owner s firsts bucket n
    f = found r.sound.owner s firsts bucket n (by_owner s firsts r.sound) r.within r.there

    at_slot : slot ≡ f.parts.slot
    at_slot = r.is_slot ∙ ap (λ k. slot_at s.slots k n) (r.is_first ∙ get_or_default firsts bucket first 0 f.within) ∙ f.slot

    -- a value is there
    pub never_vacant : at s.slots slot ≡ None → ⊥
    never_vacant none = let here : at s.slots f.parts.slot ≡ None = ap (at s.slots) (sym at_slot) ∙ none in let some = f.parts.here in cc

    module _ (node : Node T) (here : at s.slots slot ≡ Some node) where
      is_node : node ≡ node_at f.broken.value f.parts.next
      is_node = same_Some node (node_at f.broken.value f.parts.next) (sym here ∙ ap (at s.slots) at_slot ∙ f.parts.here)

      pub read_value : Some node.value ≡ slice_get (get_or (map (run_from s.slots) firsts) bucket []) n
      read_value = ap (λ i. Some i.value) is_node ∙ sym f.value

      pub replace_leaves : (w : T) → Left s (with_value s slot (record node { value = w })) firsts firsts bucket (set (get_or (map (run_from s.slots) firsts) bucket []) n w)
      replace_leaves w = rw (at_slot, is_node) (replaces r.sound.owner s firsts bucket n w (by_owner s firsts r.sound) f)

      pub remove_leaves : Removed s firsts bucket slot n node.next
      remove_leaves = rw (at_slot, is_node) (removes r.sound.owner s firsts bucket n (by_owner s firsts r.sound) f)
