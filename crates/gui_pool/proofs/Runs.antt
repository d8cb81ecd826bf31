-- Runs of values in slots: what a run is made of, and what it keeps where other slots change.
use Rattle.std.proofs.Common.{◌≡◌, ◌≢◌, ℕ, zero, suc, ◌+◌, ◌<◌, ◌≤◌, List, [], ◌∷◌, ◌++◌, length, map, sum_by, Option, Some, None, get_or, set, refl, sym, ap, inl, inr, ◌∙◌, subst, arith, length-append, length-set}
use Rattle.std.proofs.lemmas.Bool.{cases_eq}
use Rattle.std.proofs.lemmas.List.{get_or-set_same, get_or-set_other, get_or_past, length-map, ext_get_or, get_or-map, get_or_default}
use Rattle.std.proofs.lemmas.Option.{same_Some}
use Rattle.std.proofs.lemmas.List.Sums.{get_or-le-sum_by, sum_by-set}
use Rattle.gui_pool.specs.Slots.{Slots}
use Rattle.gui_pool.specs.declared.buckets.Node.{Node}
use Rattle.gui_pool.specs.Runs.{nowhere, next_or, at, slot_at, IsRun, values, run_from, AreRuns, IsToCome}

abbrev pub Cells : Type 0 → Type 0
Cells T = List (Option (Node T))

module _ {T : Type 0} where
  pub slot_at_next : (cells : Cells T) (first n : ℕ) → slot_at cells first (suc n) ≡ slot_at cells (next_or nowhere (at cells first)) n
  slot_at_next cells first zero = refl
  slot_at_next cells first (suc n) = ap (λ k. next_or nowhere (at cells k)) (slot_at_next cells first n)

  -- a run goes by the buckets of the slots that have values
  pub IsRun-reowned : (owner owner' : ℕ → ℕ) (cells : Cells T) (bucket first : ℕ) (xs : List T) (to : ℕ) → ((k : ℕ) (node : Node T) → at cells k ≡ Some node → owner' k ≡ owner k) → IsRun owner cells bucket first xs to → IsRun owner' cells bucket first xs to
  IsRun-reowned owner owner' cells bucket first [] to same run = run
  IsRun-reowned owner owner' cells bucket first (x ∷ xs) to same run =
      (run.0, run.1, IsRun-reowned owner owner' cells bucket run.0 xs to same run.2, same first (record { value = x; next = run.0 }) run.1 ∙ run.3)

-- the bucket of each slot that has a value
module _ {T : Type 0} (owner : ℕ → ℕ) where
  -- a run of which each slot meets P
  abbrev pub IsRunIn : (ℕ → Type 0) → Cells T → ℕ → ℕ → List T → ℕ → Type 0
  IsRunIn P cells bucket first [] to = first ≡ to
  IsRunIn P cells bucket first (x ∷ xs) to =
      P first × (next : ℕ) × (at cells first ≡ Some (record { value = x; next = next })) × IsRunIn P cells bucket next xs to × (owner first ≡ bucket)

  -- where the slots of a run are as before, so is the run
  pub kept : (P : ℕ → Type 0) (cells cells' : Cells T) (bucket first : ℕ) (xs : List T) (to : ℕ) → ((k : ℕ) → P k → at cells' k ≡ at cells k) → IsRunIn P cells bucket first xs to → IsRun owner cells' bucket first xs to
  kept P cells cells' bucket first [] to same run = run
  kept P cells cells' bucket first (x ∷ xs) to same run =
      (run.1, same first run.0 ∙ run.2, kept P cells cells' bucket run.1 xs to same run.3, run.4)

  pub plain : (P : ℕ → Type 0) (cells : Cells T) (bucket first : ℕ) (xs : List T) (to : ℕ) → IsRunIn P cells bucket first xs to → IsRun owner cells bucket first xs to
  plain P cells bucket first xs to run = kept P cells cells bucket first xs to (λ k p. refl) run

  pub kept_in : (P : ℕ → Type 0) (cells cells' : Cells T) (bucket first : ℕ) (xs : List T) (to : ℕ) → ((k : ℕ) → P k → at cells' k ≡ at cells k) → IsRunIn P cells bucket first xs to → IsRunIn P cells' bucket first xs to
  kept_in P cells cells' bucket first [] to same run = run
  kept_in P cells cells' bucket first (x ∷ xs) to same run =
      (run.0, run.1, same first run.0 ∙ run.2, kept_in P cells cells' bucket run.1 xs to same run.3, run.4)

  pub weaken : (P Q : ℕ → Type 0) (cells : Cells T) (bucket first : ℕ) (xs : List T) (to : ℕ) → ((k : ℕ) → P k → Q k) → IsRunIn P cells bucket first xs to → IsRunIn Q cells bucket first xs to
  weaken P Q cells bucket first [] to less run = run
  weaken P Q cells bucket first (x ∷ xs) to less run =
      (less first run.0, run.1, run.2, weaken P Q cells bucket run.1 xs to less run.3, run.4)

  -- a slot that holds a value of the bucket
  abbrev pub Holds : Cells T → ℕ → ℕ → Type 0
  Holds cells bucket k = (node : Node T) × (at cells k ≡ Some node) × (owner k ≡ bucket)

  -- each slot of a run holds a value of its bucket
  pub all_hold : (cells : Cells T) (bucket first : ℕ) (xs : List T) (to : ℕ) → IsRun owner cells bucket first xs to → IsRunIn (Holds cells bucket) cells bucket first xs to
  all_hold cells bucket first [] to run = run
  all_hold cells bucket first (x ∷ xs) to run =
      ((record { value = x; next = run.0 }, run.1, run.3), run.0, run.1, all_hold cells bucket run.0 xs to run.2, run.3)

  -- a run ends at its first slot that has no value, so it has one length
  pub same_length : (cells : Cells T) (bucket first : ℕ) (xs ys : List T) → length cells ≤ nowhere → IsRun owner cells bucket first xs nowhere → IsRun owner cells bucket first ys nowhere → length xs ≡ length ys
  same_length cells bucket first [] [] small a b = refl
  same_length cells bucket first [] (y ∷ ys) small a b =
      let none : at cells first ≡ None = ap (at cells) a ∙ get_or_past cells nowhere None small in
      let some = b.1 in cc
  same_length cells bucket first (x ∷ xs) [] small a b =
      let none : at cells first ≡ None = ap (at cells) b ∙ get_or_past cells nowhere None small in
      let some = a.1 in cc
  same_length cells bucket first (x ∷ xs) (y ∷ ys) small a b =
      let one = a.1 in let other = b.1 in
      let next : b.0 ≡ a.0 = ap (next_or nowhere) (sym other ∙ one) in
      ap suc (same_length cells bucket a.0 xs ys small a.2 (subst (λ k. IsRun owner cells bucket k ys nowhere) next b.2))

  -- so many values stand from the slot on
  abbrev pub HasRank : Cells T → ℕ → ℕ → ℕ → Type 0
  HasRank cells bucket k rank = (xs : List T) × IsRun owner cells bucket k xs nowhere × (length xs ≡ rank)

  pub one_rank : (cells : Cells T) (bucket k m n : ℕ) → length cells ≤ nowhere → HasRank cells bucket k m → HasRank cells bucket k n → m ≡ n
  one_rank cells bucket k m n small a b = sym a.2 ∙ same_length cells bucket k a.0 b.0 small a.1 b.1 ∙ b.2

  pub join : (cells : Cells T) (bucket first : ℕ) (xs : List T) (mid : ℕ) (ys : List T) (to : ℕ) → IsRun owner cells bucket first xs mid → IsRun owner cells bucket mid ys to → IsRun owner cells bucket first (xs ++ ys) to
  join cells bucket first [] mid ys to a b = subst (λ k. IsRun owner cells bucket k ys to) (sym a) b
  join cells bucket first (x ∷ xs) mid ys to a b = (a.0, a.1, join cells bucket a.0 xs mid ys to a.2 b, a.3)

  -- the first part of a run ends at the slot that stands so many places on, where the other part begins
  pub split : (cells : Cells T) (bucket first : ℕ) (xs ys : List T) (to : ℕ) → IsRun owner cells bucket first (xs ++ ys) to → (mid : ℕ) × IsRun owner cells bucket first xs mid × IsRun owner cells bucket mid ys to
  split cells bucket first [] ys to run = (first, refl, run)
  split cells bucket first (x ∷ xs) ys to run =
      let rest = split cells bucket run.0 xs ys to run.2 in (rest.0, (run.0, run.1, rest.1, run.3), rest.2)

  pub slot_at_end : (cells : Cells T) (bucket first : ℕ) (xs : List T) (to : ℕ) → IsRun owner cells bucket first xs to → slot_at cells first (length xs) ≡ to
  slot_at_end cells bucket first [] to run = run
  slot_at_end cells bucket first (x ∷ xs) to run =
      slot_at_next cells first (length xs) ∙ ap (λ o. slot_at cells (next_or nowhere o) (length xs)) run.1 ∙ slot_at_end cells bucket run.0 xs to run.2

  -- in front of a slot each slot has a greater rank
  abbrev pub RanksAbove : Cells T → ℕ → ℕ → ℕ → Type 0
  RanksAbove cells bucket m k = (rank : ℕ) × HasRank cells bucket k rank × (m < rank)

  abbrev pub RanksUpTo : Cells T → ℕ → ℕ → ℕ → Type 0
  RanksUpTo cells bucket m k = (rank : ℕ) × HasRank cells bucket k rank × (rank ≤ m)

  pub ranked_above : (cells : Cells T) (bucket first : ℕ) (xs : List T) (mid : ℕ) (ys : List T) → IsRun owner cells bucket first xs mid → IsRun owner cells bucket mid ys nowhere → IsRunIn (RanksAbove cells bucket (length ys)) cells bucket first xs mid
  ranked_above cells bucket first [] mid ys a b = a
  ranked_above cells bucket first (x ∷ xs) mid ys a b =
      let whole = join cells bucket first (x ∷ xs) mid ys nowhere a b in
      let long = length-append xs ys in
      ((suc (length (xs ++ ys)), (x ∷ (xs ++ ys), whole, refl), omega arith), a.0, a.1, ranked_above cells bucket a.0 xs mid ys a.2 b, a.3)

  pub ranked_up_to : (cells : Cells T) (bucket first : ℕ) (xs : List T) (m : ℕ) → IsRun owner cells bucket first xs nowhere → length xs ≤ m → IsRunIn (RanksUpTo cells bucket m) cells bucket first xs nowhere
  ranked_up_to cells bucket first [] m a le = a
  ranked_up_to cells bucket first (x ∷ xs) m a le =
      ((suc (length xs), (x ∷ xs, a, refl), le), a.0, a.1, ranked_up_to cells bucket a.0 xs m a.2 (omega arith), a.3)

  -- what is read from a slot on is the run that begins there
  pub values_run : (cells : Cells T) (bucket first : ℕ) (xs : List T) (n : ℕ) → length cells ≤ nowhere → IsRun owner cells bucket first xs nowhere → length xs ≤ n → values n cells first ≡ xs
  values_run cells bucket first [] zero small run le = refl
  values_run cells bucket first [] (suc n) small run le =
      let none : at cells first ≡ None = ap (at cells) run ∙ get_or_past cells nowhere None small in
      rw none refl
  values_run cells bucket first (x ∷ xs) zero small run le = absurd (omega arith)
  values_run cells bucket first (x ∷ xs) (suc n) small run le =
      rw run.1 (ap (λ ys. x ∷ ys) (values_run cells bucket run.0 xs n small run.2 (omega arith)))

  -- the change of one bucket's list: other lists stay where their slots stay
  pub record Changes (s s' : Slots (Node T)) (firsts firsts' : List ℕ) (bucket : ℕ) (xs : List T) : Type 0 where
    pub long : length s'.slots ≡ length s.slots
    pub all : length firsts' ≡ length firsts
    pub within : bucket < length firsts
    pub others : (o : ℕ) → o ≢ bucket → get_or firsts' o 0 ≡ get_or firsts o 0
    pub same : (o : ℕ) → o ≢ bucket → (k : ℕ) → Holds s.slots o k → at s'.slots k ≡ at s.slots k
    pub run : IsRun owner s'.slots bucket (get_or firsts' bucket 0) xs nowhere
    pub count : length xs + s'.spare ≡ length (run_from s.slots (get_or firsts bucket 0)) + s.spare

  -- from its first slot on, the values of each bucket come to an end, by the bucket of each slot
  pub record AreRunsBy (s : Slots (Node T)) (firsts : List ℕ) : Type 0 where
    pub runs : (bucket : ℕ) → bucket < length firsts → IsRun owner s.slots bucket (get_or firsts bucket 0) (run_from s.slots (get_or firsts bucket 0)) nowhere
    pub counted : sum_by length (map (run_from s.slots) firsts) + s.spare ≡ length s.slots
    pub small : length s.slots ≤ nowhere

  pub runs_by : (s : Slots (Node T)) (firsts : List ℕ) → AreRunsBy s firsts → AreRuns s firsts
  runs_by s firsts sound = record { owner = owner; runs = sound.runs; counted = sound.counted; small = sound.small }

  -- a list is no longer than there are slots
  pub fits : (s : Slots (Node T)) (firsts : List ℕ) → AreRunsBy s firsts → (o : ℕ) → o < length firsts → length (run_from s.slots (get_or firsts o 0)) + s.spare ≤ length s.slots
  fits s firsts sound o within =
      let read : ℕ → List T = λ first. run_from s.slots first in
      let here : get_or (map read firsts) o [] ≡ read (get_or firsts o 0) = get_or-map read firsts o 0 [] within in
      let part : length (get_or (map read firsts) o []) ≤ sum_by length (map read firsts) = get_or-le-sum_by length (map read firsts) o [] (rw (length-map firsts read) within) in
      let same : length (get_or (map read firsts) o []) ≡ length (read (get_or firsts o 0)) = ap length here in
      let counted = sound.counted in
      omega arith

  -- a value at the slot is the first of the run, and without one nothing is left
  pub stepped : (cells : Cells T) (bucket slot : ℕ) (xs : List T) (node : Node T) → length cells ≤ nowhere → length xs ≤ length cells → IsRun owner cells bucket slot xs nowhere → at cells slot ≡ Some node → (xs ≡ node.value ∷ run_from cells node.next) × IsRun owner cells bucket node.next (run_from cells node.next) nowhere
  stepped cells bucket slot [] node small few run here =
      let none : at cells slot ≡ None = ap (at cells) run ∙ get_or_past cells nowhere None small in cc
  stepped cells bucket slot (x ∷ xs) node small few run here =
      let same : node ≡ record { value = x; next = run.0 } = same_Some node (record { value = x; next = run.0 }) (sym here ∙ run.1) in
      let rest : run_from cells run.0 ≡ xs = values_run cells bucket run.0 xs (length cells) small run.2 (omega arith) in
      rw same (ap (λ ys. x ∷ ys) (sym rest), rw rest run.2)

  pub all_came : (cells : Cells T) (bucket slot : ℕ) (xs : List T) → IsRun owner cells bucket slot xs nowhere → at cells slot ≡ None → xs ≡ []
  all_came cells bucket slot [] run none = refl
  all_came cells bucket slot (x ∷ xs) run none = let some = run.1 in cc

  module _ (s s' : Slots (Node T)) (firsts firsts' : List ℕ) (bucket : ℕ) (xs : List T) (sound : AreRunsBy s firsts) (changes : Changes s s' firsts firsts' bucket xs) where
    abbrev read : ℕ → List T
    read first = run_from s.slots first

    abbrev read' : ℕ → List T
    read' first = run_from s'.slots first

    small : length s'.slots ≤ nowhere
    small = let long = changes.long in let was = sound.small in omega arith

    at_bucket : read' (get_or firsts' bucket 0) ≡ xs
    at_bucket =
        let long = changes.long in let count = changes.count in let fit = fits s firsts sound bucket changes.within in
        values_run s'.slots bucket (get_or firsts' bucket 0) xs (length s'.slots) small changes.run (omega arith)

    run_at_other : (o : ℕ) → o ≢ bucket → o < length firsts → IsRun owner s'.slots o (get_or firsts' o 0) (read (get_or firsts o 0)) nowhere
    run_at_other o ne within =
        let first = get_or firsts o 0 in
        rw (changes.others o ne) (kept (Holds s.slots o) s.slots s'.slots o first (read first) nowhere (changes.same o ne) (all_hold s.slots o first (read first) nowhere (sound.runs o within)))

    at_other : (o : ℕ) → o ≢ bucket → o < length firsts → read' (get_or firsts' o 0) ≡ read (get_or firsts o 0)
    at_other o ne within =
        let long = changes.long in let fit = fits s firsts sound o within in
        values_run s'.slots o (get_or firsts' o 0) (read (get_or firsts o 0)) (length s'.slots) small (run_at_other o ne within) (omega arith)

    each : (o : ℕ) → o < length firsts → get_or (map read' firsts') o [] ≡ get_or (set (map read firsts) bucket xs) o []
    each o within =
        let within' : o < length firsts' = let all = changes.all in omega arith in
        let here : get_or (map read' firsts') o [] ≡ read' (get_or firsts' o 0) = get_or-map read' firsts' o 0 [] within' in
        let there : get_or (map read firsts) o [] ≡ read (get_or firsts o 0) = get_or-map read firsts o 0 [] within in
        elim (cases_eq o bucket) [
          | inl same ↦
              let last : get_or (set (map read firsts) bucket xs) bucket [] ≡ xs = get_or-set_same (map read firsts) bucket xs [] (rw (length-map firsts read) changes.within) in
              here ∙ ap (λ k. read' (get_or firsts' k 0)) same ∙ at_bucket ∙ sym last ∙ ap (λ k. get_or (set (map read firsts) bucket xs) k []) (sym same)
          | inr ne ↦ here ∙ at_other o ne within ∙ sym there ∙ sym (get_or-set_other (map read firsts) bucket o xs [] ne)
        ]

    -- the bucket's list is the new one, and all others are as before
    pub runs_changed : map read' firsts' ≡ set (map read firsts) bucket xs
    runs_changed =
        ext_get_or [] (map read' firsts') (set (map read firsts) bucket xs) (length-map firsts' read' ∙ changes.all ∙ sym (length-map firsts read) ∙ sym (length-set (map read firsts) bucket xs)) (λ i lt. each i (let all = changes.all in let long = length-map firsts' read' in omega arith))

    pub AreRuns-changed : AreRunsBy s' firsts'
    AreRuns-changed = record {
      runs = λ o within. elim (cases_eq o bucket) [
        | inl same ↦ subst (λ k. IsRun owner s'.slots k (get_or firsts' k 0) (read' (get_or firsts' k 0)) nowhere) (sym same) (rw at_bucket changes.run)
        | inr ne ↦
            let was : o < length firsts = let all = changes.all in omega arith in
            rw (at_other o ne was) (run_at_other o ne was)
      ];
      counted =
          let all = ap (sum_by length) runs_changed in
          let here : get_or (map read firsts) bucket [] ≡ read (get_or firsts bucket 0) = get_or-map read firsts bucket 0 [] changes.within in
          let lens : length (get_or (map read firsts) bucket []) ≡ length (read (get_or firsts bucket 0)) = ap length here in
          let sums = sum_by-set length (map read firsts) bucket xs [] (rw (length-map firsts read) changes.within) in
          let counted = sound.counted in let count = changes.count in let long = changes.long in
          omega arith;
      small = small;
    }

module _ {T : Type 0} where
  pub by_owner : (s : Slots (Node T)) (firsts : List ℕ) (sound : AreRuns s firsts) → AreRunsBy sound.owner s firsts
  by_owner s firsts sound = record { runs = sound.runs; counted = sound.counted; small = sound.small }

  -- the list of a bucket, whose first slot has been read
  pub record FirstRead (s : Slots (Node T)) (firsts : List ℕ) (bucket first : ℕ) : Type 0 where
    pub owner : ℕ → ℕ
    pub within : bucket < length firsts
    pub at_first : first ≡ get_or firsts bucket 0
    pub list : get_or (map (run_from s.slots) firsts) bucket [] ≡ run_from s.slots first
    pub run : IsRun owner s.slots bucket first (run_from s.slots first) nowhere
    pub few : length (run_from s.slots first) + s.spare ≤ length s.slots
    pub small : length s.slots ≤ nowhere

  pub first_read : (s : Slots (Node T)) (firsts : List ℕ) (bucket first : ℕ) → AreRuns s firsts → bucket < length (map (run_from s.slots) firsts) → first ≡ get_or firsts bucket first → FirstRead s firsts bucket first
  first_read s firsts bucket first sound lt is =
      let within : bucket < length firsts = omega (arith, length-map firsts (run_from s.slots)) in
      let at_first : first ≡ get_or firsts bucket 0 = is ∙ get_or_default firsts bucket first 0 within in
      record {
        owner = sound.owner;
        within = within;
        at_first = at_first;
        list = get_or-map (run_from s.slots) firsts bucket 0 [] within ∙ ap (run_from s.slots) (sym at_first);
        run = rw at_first (sound.runs bucket within);
        few = rw at_first (fits sound.owner s firsts (by_owner s firsts sound) bucket within);
        small = sound.small;
      }

  pub come : (s : Slots (Node T)) (slot : ℕ) (node : Node T) → IsToCome s slot → at s.slots slot ≡ Some node → (run_from s.slots slot ≡ node.value ∷ run_from s.slots node.next) × IsToCome s node.next
  come s slot node coming here =
      let step = stepped coming.owner s.slots coming.bucket slot (run_from s.slots slot) node coming.small coming.few coming.run here in
      let shorter = ap length step.0 in
      let few = coming.few in
      (step.0, record { owner = coming.owner; bucket = coming.bucket; run = step.1; few = omega arith; small = coming.small })

  pub gone : (s : Slots (Node T)) (slot : ℕ) → IsToCome s slot → at s.slots slot ≡ None → run_from s.slots slot ≡ []
  gone s slot coming none = all_came coming.owner s.slots coming.bucket slot (run_from s.slots slot) coming.run none
