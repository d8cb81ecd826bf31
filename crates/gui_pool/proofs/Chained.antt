-- What a text put or dropped leaves.
use Rattle.std.proofs.Common.{◌≡◌, ◌≢◌, ◌≤◌, ◌<◌, ℕ, zero, suc, ◌+◌, ◌-◌, true, is_some, count_by, sum_by, List, [], ◌∷◌, length, take, drop, cond, replicate, ◌^◌, set, get_or, option_map, Option, Some, None, refl, sym, ap, ◌∙◌, subst, inl, inr, arith, length-set}
use Rattle.std.proofs.lemmas.Bool.{cases_eq, cases_lt}
use Rattle.std.proofs.lemmas.List.{get_or-set_same, get_or-set_other, ext_get_or, get_or_past, length-replicate}
use Rattle.std.proofs.lemmas.List.Sums.{sum_by-cons}
use Rattle.gui_pool.specs.Slots.{Slots, get, inserted, removed}
use Rattle.gui_pool.specs.Lists.{Lists, list_of, total, cleared}
use Rattle.gui_pool.specs.Pieces.{pieces, joined, filled}
use Rattle.gui_pool.specs.Texts.{chunk_count}
use Rattle.gui_pool.specs.Texts.{Texts, text_of, put, dropped, need_in, chunks_used, IsFree}
use Rattle.gui_pool.specs.KeptTexts.{text_in, shown, texts_in, chunks_of, IsLength, IsHeld, AreTexts}
use Rattle.gui_pool.proofs.Cuts.{together}

shown-get : (c : Lists (List ℕ)) (i : ℕ) (os : List (Option ℕ)) (k : ℕ) → get_or (shown c i os) k None ≡ text_in c (i + k) (get_or os k None)
shown-get c i [] k = refl
shown-get c i (o ∷ os) zero = ap (λ j. text_in c j o) (let e : i ≡ i + 0 = omega arith in e)
shown-get c i (o ∷ os) (suc k) =
    shown-get c (suc i) os k ∙ ap (λ j. text_in c j (get_or os k None)) (let e : suc i + k ≡ i + suc k = omega arith in e)

pub shown-at : (c : Lists (List ℕ)) (os : List (Option ℕ)) (k : ℕ) → get_or (shown c 0 os) k None ≡ text_in c k (get_or os k None)
shown-at c os k = shown-get c 0 os k ∙ ap (λ j. text_in c j (get_or os k None)) (let e : 0 + k ≡ k = omega arith in e)

length-shown : (c : Lists (List ℕ)) (i : ℕ) (os : List (Option ℕ)) → length (shown c i os) ≡ length os
length-shown c i [] = refl
length-shown c i (o ∷ os) = ap suc (length-shown c (suc i) os)

-- another text in one slot
shown-set : (c c' : Lists (List ℕ)) (os : List (Option ℕ)) (slot : ℕ) (o : Option ℕ) → slot < length os → ((k : ℕ) → k ≢ slot → list_of c' k ≡ list_of c k) → shown c' 0 (set os slot o) ≡ set (shown c 0 os) slot (text_in c' slot o)
shown-set c c' os slot o within others =
    let long = length-shown c 0 os in
    ext_get_or None (shown c' 0 (set os slot o)) (set (shown c 0 os) slot (text_in c' slot o))
    (length-shown c' 0 (set os slot o) ∙ length-set os slot o ∙ sym long ∙ sym (length-set (shown c 0 os) slot (text_in c' slot o)))
    (λ k lt. elim (cases_eq k slot) [
      | inl same ↦
          shown-at c' (set os slot o) k ∙ ap (λ j. text_in c' j (get_or (set os slot o) j None)) same ∙ ap (text_in c' slot) (get_or-set_same os slot o None within)
          ∙ sym (ap (λ j. get_or (set (shown c 0 os) slot (text_in c' slot o)) j None) same ∙ get_or-set_same (shown c 0 os) slot (text_in c' slot o) None (let l = long in omega arith))
      | inr ne ↦
          shown-at c' (set os slot o) k ∙ ap (text_in c' k) (get_or-set_other os slot k o None ne) ∙ ap (λ chunks. option_map (λ n. take n (joined chunks)) (get_or os k None)) (others k ne)
          ∙ sym (get_or-set_other (shown c 0 os) slot k (text_in c' slot o) None ne ∙ shown-at c os k)
    ])

length-pieces : (n : ℕ) (text : List ℕ) → length (pieces n text) ≡ n
length-pieces zero text = refl
length-pieces (suc n) text = ap suc (length-pieces n (drop 28 text))

-- a text takes a chunk at least
fewer : (os : List (Option ℕ)) (ls : List (List (List ℕ))) → length ls ≡ length os → ((k : ℕ) → length (get_or ls k []) ≡ chunks_of (get_or os k None)) → ((k : ℕ) → IsLength (get_or os k None)) → count_by is_some os ≤ sum_by length ls
fewer [] ls long counts lengths = omega arith
fewer (o ∷ os) [] long counts lengths = absurd (omega arith)
fewer (None ∷ os) (l ∷ ls) long counts lengths =
    let rest = fewer os ls (omega arith) (λ k. counts (suc k)) (λ k. lengths (suc k)) in
    let a = sum_by-cons length l ls in let b = sum_by-cons (λ (o : Option ℕ). cond (is_some o) 1 0) None os in
    omega arith
fewer (Some n ∷ os) (l ∷ ls) long counts lengths =
    let rest = fewer os ls (omega arith) (λ k. counts (suc k)) (λ k. lengths (suc k)) in
    let a = sum_by-cons length l ls in let b = sum_by-cons (λ (o : Option ℕ). cond (is_some o) 1 0) (Some n) os in
    let here = counts 0 in let one = (lengths 0).0 in
    omega arith

module _ (lens : Slots ℕ) (chunks : Lists (List ℕ)) (kept : AreTexts lens chunks) where
  -- where there is no slot for a length there is no chunk either
  pub none_left : lens.spare ≡ 0 → count_by is_some lens.slots + lens.spare ≡ length lens.slots → total chunks + chunks.spare ≡ chunks.size → chunks.spare ≡ 0
  none_left none held all =
      let less = fewer lens.slots chunks.lists kept.owners kept.counts kept.lengths in
      let slots = kept.slots in omega arith

  module _ (slot : ℕ) (within : slot < length lens.slots) where
    in_chunks : slot < length chunks.lists
    in_chunks = let owners = kept.owners in omega arith

    module _ (text : List ℕ) (some : (1 ≤ length text) × (length text ≤ 1000)) where
      abbrev need : ℕ
      need = chunk_count (length text)

      abbrev chunks' : Lists (List ℕ)
      chunks' = filled chunks slot text

      abbrev lens' : Slots ℕ
      lens' = inserted lens slot (length text)

      mine : list_of chunks' slot ≡ pieces need text
      mine = get_or-set_same chunks.lists slot (pieces need text) [] in_chunks

      others : (k : ℕ) → k ≢ slot → list_of chunks' k ≡ list_of chunks k
      others k ne = get_or-set_other chunks.lists slot k (pieces need text) [] ne

      back : take (length text) (joined (list_of chunks' slot)) ≡ text
      back = ap (λ cs. take (length text) (joined cs)) mine ∙ together need text (omega arith)

      same_held : (k : ℕ) (o : Option ℕ) → list_of chunks k ≡ list_of chunks' k → IsHeld chunks k o → IsHeld chunks' k o
      same_held k None e h = tt
      same_held k (Some n) e h = ap (λ cs. length (take n (joined cs))) (sym e) ∙ h

      pub put_shows : texts_in lens' chunks' ≡ put (texts_in lens chunks) (suc slot) text
      put_shows =
          λ i. record {
            texts = (shown-set chunks chunks' lens.slots slot (Some (length text)) within others ∙ ap (λ t. set (shown chunks 0 lens.slots) slot (Some t)) back) i;
            spare = chunks.spare - need;
          }

      pub put_named : text_of (texts_in lens' chunks') (suc slot) ≡ Some text
      put_named =
          shown-at chunks' lens'.slots slot ∙ ap (text_in chunks' slot) (get_or-set_same lens.slots slot (Some (length text)) None within) ∙ ap Some back

      pub put_kept : AreTexts lens' chunks'
      put_kept = record {
        owners = length-set chunks.lists slot (pieces need text) ∙ kept.owners ∙ sym (length-set lens.slots slot (Some (length text)));
        slots = kept.slots ∙ sym (length-set lens.slots slot (Some (length text)));
        small = let long = length-set lens.slots slot (Some (length text)) in let small = kept.small in omega arith;
        counts = λ k. elim (cases_eq k slot) [
          | inl same ↦ ap (λ j. length (list_of chunks' j)) same ∙ ap length mine ∙ length-pieces need text ∙ sym (ap (λ j. chunks_of (get lens' j)) same ∙ ap chunks_of (get_or-set_same lens.slots slot (Some (length text)) None within))
          | inr ne ↦ ap length (others k ne) ∙ kept.counts k ∙ sym (ap chunks_of (get_or-set_other lens.slots slot k (Some (length text)) None ne))
        ];
        lengths = λ k. elim (cases_eq k slot) [
          | inl same ↦ subst IsLength (sym (ap (get lens') same ∙ get_or-set_same lens.slots slot (Some (length text)) None within)) some
          | inr ne ↦ subst IsLength (sym (get_or-set_other lens.slots slot k (Some (length text)) None ne)) (kept.lengths k)
        ];
        whole = λ k. elim (cases_eq k slot) [
          | inl same ↦ subst (λ j. IsHeld chunks' j (get lens' j)) (sym same) (subst (IsHeld chunks' slot) (sym (get_or-set_same lens.slots slot (Some (length text)) None within)) (ap length back))
          | inr ne ↦ subst (IsHeld chunks' k) (sym (get_or-set_other lens.slots slot k (Some (length text)) None ne)) (same_held k (get lens k) (sym (others k ne)) (kept.whole k))
        ];
      }

  -- A text dropped.
  module _ (slot n : ℕ) (there : get lens slot ≡ Some n) where
    within_slots : slot < length lens.slots
    within_slots =
        elim (cases_lt slot (length lens.slots)) [
          | inl lt ↦ lt
          | inr ge ↦ let none = get_or_past lens.slots slot None ge in cc
        ]

    gone : (k : ℕ) → k ≢ slot → list_of (cleared chunks slot) k ≡ list_of chunks k
    gone k ne = get_or-set_other chunks.lists slot k [] [] ne

    held_in : (c : Lists (List ℕ)) (k : ℕ) (o : Option ℕ) → list_of c k ≡ list_of chunks k → IsHeld chunks k o → IsHeld c k o
    held_in c k None e h = tt
    held_in c k (Some m) e h = ap (λ cs. length (take m (joined cs))) e ∙ h

    pub drop_within : slot < length chunks.lists
    drop_within = in_chunks slot within_slots

    text_there : get_or (shown chunks 0 lens.slots) slot None ≡ Some (take n (joined (list_of chunks slot)))
    text_there = shown-at chunks lens.slots slot ∙ ap (text_in chunks slot) there

    pub chunks_back : length (list_of chunks slot) ≡ need_in (get_or (shown chunks 0 lens.slots) slot None)
    chunks_back =
        kept.counts slot ∙ ap chunks_of there ∙ sym (ap chunk_count (subst (IsHeld chunks slot) there (kept.whole slot))) ∙ sym (ap need_in text_there)

    pub drop_shows : texts_in (removed lens slot) (cleared chunks slot) ≡ dropped (texts_in lens chunks) (suc slot)
    drop_shows =
        λ i. record {
          texts = shown-set chunks (cleared chunks slot) lens.slots slot None within_slots gone i;
          spare = chunks.spare + chunks_back i;
        }

    pub drop_kept : AreTexts (removed lens slot) (cleared chunks slot)
    drop_kept = record {
      owners = length-set chunks.lists slot [] ∙ kept.owners ∙ sym (length-set lens.slots slot None);
      slots = kept.slots ∙ sym (length-set lens.slots slot None);
      small = let long = length-set lens.slots slot None in let small = kept.small in omega arith;
      counts = λ k. elim (cases_eq k slot) [
        | inl same ↦ ap (λ j. length (list_of (cleared chunks slot) j)) same ∙ ap length (get_or-set_same chunks.lists slot [] [] drop_within) ∙ sym (ap (λ j. chunks_of (get (removed lens slot) j)) same ∙ ap chunks_of (get_or-set_same lens.slots slot None None within_slots))
        | inr ne ↦ ap length (gone k ne) ∙ kept.counts k ∙ sym (ap chunks_of (get_or-set_other lens.slots slot k None None ne))
      ];
      lengths = λ k. elim (cases_eq k slot) [
        | inl same ↦ subst IsLength (sym (ap (get (removed lens slot)) same ∙ get_or-set_same lens.slots slot None None within_slots)) tt
        | inr ne ↦ subst IsLength (sym (get_or-set_other lens.slots slot k None None ne)) (kept.lengths k)
      ];
      whole = λ k. elim (cases_eq k slot) [
        | inl same ↦ subst (IsHeld (cleared chunks slot) k) (sym (ap (get (removed lens slot)) same ∙ get_or-set_same lens.slots slot None None within_slots)) tt
        | inr ne ↦ subst (IsHeld (cleared chunks slot) k) (sym (get_or-set_other lens.slots slot k None None ne)) (held_in (cleared chunks slot) k (get lens k) (gone k ne) (kept.whole k))
      ];
    }

some_of : (c : Lists (List ℕ)) (slot : ℕ) (o : Option ℕ) → is_some (text_in c slot o) ≡ true → (n : ℕ) × (o ≡ Some n)
some_of c slot None e = cc
some_of c slot (Some n) e = (n, refl)

-- a text that is named has a length
-- a vacant slot names no text
pub no_text : (lens : Slots ℕ) (chunks : Lists (List ℕ)) (slot : ℕ) → get lens slot ≡ None → IsFree (texts_in lens chunks) (suc slot)
no_text lens chunks slot vacant = shown-at chunks lens.slots slot ∙ ap (text_in chunks slot) vacant

pub text_held : (lens : Slots ℕ) (chunks : Lists (List ℕ)) (slot : ℕ) → is_some (text_of (texts_in lens chunks) (suc slot)) ≡ true → (n : ℕ) × (get lens slot ≡ Some n)
text_held lens chunks slot e =
    some_of chunks slot (get lens slot) (sym (ap is_some (shown-at chunks lens.slots slot)) ∙ e)

-- what is free once a text is dropped
pub dropped-spare : (t : Texts) (id : ℕ) → (dropped t id).spare ≡ t.spare + need_in (text_of t id)
dropped-spare t zero = omega arith
dropped-spare t (suc slot) = refl

-- the chunks of a named text
pub held_chunks : (lens : Slots ℕ) (chunks : Lists (List ℕ)) (kept : AreTexts lens chunks) (slot : ℕ) → is_some (text_of (texts_in lens chunks) (suc slot)) ≡ true → (slot < length chunks.lists) × (length (list_of chunks slot) ≡ need_in (text_of (texts_in lens chunks) (suc slot)))
held_chunks lens chunks kept slot e =
    let h = text_held lens chunks slot e in
    (drop_within lens chunks kept slot h.0 h.1, chunks_back lens chunks kept slot h.0 h.1)

-- The chunks in use are those that the texts need.
held-need : (c : Lists (List ℕ)) (k : ℕ) (o : Option ℕ) → IsHeld c k o → need_in (text_in c k o) ≡ chunks_of o
held-need c k None h = refl
held-need c k (Some n) h = ap chunk_count h

used : (c : Lists (List ℕ)) (i : ℕ) (os : List (Option ℕ)) (ls : List (List (List ℕ))) → length ls ≡ length os → ((k : ℕ) → length (get_or ls k []) ≡ chunks_of (get_or os k None)) → ((k : ℕ) → IsHeld c (i + k) (get_or os k None)) → sum_by need_in (shown c i os) ≡ sum_by length ls
used c i [] [] long counts whole = refl
used c i [] (l ∷ ls) long counts whole = absurd (omega arith)
used c i (o ∷ os) [] long counts whole = absurd (omega arith)
used c i (o ∷ os) (l ∷ ls) long counts whole =
    let step : (k : ℕ) → i + suc k ≡ suc i + k = λ k. omega arith in
    let rest = used c (suc i) os ls (omega arith) (λ k. counts (suc k)) (λ k. subst (λ j. IsHeld c j (get_or os k None)) (step k) (whole (suc k))) in
    let first : i + 0 ≡ i = omega arith in
    let here = held-need c i o (subst (λ j. IsHeld c j o) first (whole 0)) ∙ sym (counts 0) in
    sum_by-cons need_in (text_in c i o) (shown c (suc i) os) ∙ ap (λ n. n + sum_by need_in (shown c (suc i) os)) here ∙ ap (λ n. length l + n) rest ∙ sym (sum_by-cons length l ls)

pub chunks-add_up : (lens : Slots ℕ) (chunks : Lists (List ℕ)) → AreTexts lens chunks → total chunks + chunks.spare ≡ chunks.size → chunks_used (texts_in lens chunks) + chunks.spare ≡ length (texts_in lens chunks).texts
chunks-add_up lens chunks kept all =
    let at : (k : ℕ) → k ≡ 0 + k = λ k. omega arith in
    let sum = used chunks 0 lens.slots chunks.lists kept.owners kept.counts (λ k. subst (λ j. IsHeld chunks j (get lens k)) (at k) (kept.whole k)) in
    ap (λ n. n + chunks.spare) sum ∙ all ∙ kept.slots ∙ sym (length-shown chunks 0 lens.slots)

-- As they are opened.
none_at : (n k : ℕ) → get_or (replicate {A = Option ℕ} n None) k None ≡ None
none_at zero k = refl
none_at (suc n) zero = refl
none_at (suc n) (suc k) = none_at n k

module _ (lens : Slots ℕ) (chunks : Lists (List ℕ)) (n : ℕ) (few : n < 2 ^ 32) (slots : lens.slots ≡ replicate n None) (owners : length chunks.lists ≡ n) (lists : (k : ℕ) → list_of chunks k ≡ []) (size : chunks.size ≡ n) where
  vacant : (k : ℕ) → get lens k ≡ None
  vacant k = ap (λ os. get_or os k None) slots ∙ none_at n k

  long : length lens.slots ≡ n
  long = ap length slots ∙ length-replicate n None

  pub all_there : length (texts_in lens chunks).texts ≡ n
  all_there = length-shown chunks 0 lens.slots ∙ long

  pub none_there : (slot : ℕ) → text_of (texts_in lens chunks) (suc slot) ≡ None
  none_there slot = shown-at chunks lens.slots slot ∙ ap (text_in chunks slot) (vacant slot)

  pub opened_kept : AreTexts lens chunks
  opened_kept = record {
    owners = owners ∙ sym long;
    slots = size ∙ sym long;
    small = let l = long in omega arith;
    counts = λ k. ap length (lists k) ∙ sym (ap chunks_of (vacant k));
    lengths = λ k. subst IsLength (sym (vacant k)) tt;
    whole = λ k. subst (IsHeld chunks k) (sym (vacant k)) tt;
  }

-- the length that a slot holds is that of its text
pub length_held : (lens : Slots ℕ) (chunks : Lists (List ℕ)) (kept : AreTexts lens chunks) (slot n : ℕ) → get lens slot ≡ Some n → (slot < length chunks.lists) × (n ≤ 1000) × (text_of (texts_in lens chunks) (suc slot) ≡ Some (take n (joined (list_of chunks slot))))
length_held lens chunks kept slot n there =
    (drop_within lens chunks kept slot n there, (subst IsLength there (kept.lengths slot)).1, shown-at chunks lens.slots slot ∙ ap (text_in chunks slot) there)
