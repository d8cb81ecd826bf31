-- What is known where an object came, the last child of its parent.
use Rattle.std.proofs.Common.{◌≡◌, ◌∙◌, refl, sym, ap, subst, ℕ, ◌+◌, ◌≤◌, eqb, eq-eqb, cond, true, false, List, [], ◌∷◌, ◌++◌, length, is_some, Bool, inl, inr, arith}
use Rattle.std.proofs.lemmas.Bool.{cases_Bool, or_parts}
use Rattle.std.proofs.lemmas.Grind.{flat_map-append}
use Rattle.gui_base.specs.declared.Handle.{Handle}
use Rattle.gui_boxes.specs.Listing.{AreProper, HasThese, times, value_count}
use Rattle.gui_boxes.proofs.These.{HasBut, MayPut, but_first, but_none, but_put, times-append, times_of}
use Rattle.gui_pool.specs.Table.{Table, value_at}
use Rattle.scene_defs.specs.Shown.{Entry as Painted, bars_over, own}
use Rattle.gui_debts.specs.declared.seen.Seen.{Seen}
use Rattle.gui_change.specs.Comes.{AddsLast, Comes, PutsNothing}
use Rattle.gui_change.specs.Entries.{all_entries, own_handles, own_of, owners}
use Rattle.gui_change.specs.Fronts.{names}
use Rattle.gui_change.specs.declared.entries.Entry.{Entry}
use Rattle.gui_change.proofs.Alike.{alike-each, same-length, these_alike}
use Rattle.gui_change.proofs.Lessened.{numbers-times}
use Rattle.gui_change.proofs.Listed.{owners-numbers}

split : (a b : List Painted) (k : ℕ) → times_of (own_handles (a ++ b)) k ≡ times_of (own_handles a) k + times_of (own_handles b) k
split a b k = ap (λ (ks : List ℕ). times_of ks k) (flat_map-append own_of a b) ∙ times-append (own_handles a) (own_handles b) k

-- how often an object is listed
count : (es : List Entry) (k : ℕ) → times (owners es) k ≡ times_of (own_handles (all_entries es)) k
count es k = sym (numbers-times (owners es) k) ∙ ap (λ (ks : List ℕ). times_of ks k) (owners-numbers es)

-- what has no entry is not listed
unnamed : (p : ℕ) (es : List Painted) → names p es ≡ false → times_of (own_handles es) p ≡ 0
unnamed p [] none = refl
unnamed p (e ∷ es) none =
    let both = or_parts (eqb e.handle p) (names p es) none in
    let rest = unnamed p es both.1 in
    split (e ∷ []) es p ∙ (let first = alone e.is_bars refl both.0 in omega (arith, first, rest)) where
      alone : (b : Bool) → e.is_bars ≡ b → eqb e.handle p ≡ false → times_of (own_handles (e ∷ [])) p ≡ 0
      alone true is off = rw is refl
      alone false is off = rw (is, off) refl

module _ (h p : Handle) (es fs : List Entry) (new : List Painted) (is : all_entries fs ≡ new) (comes : Comes h.0 p.0 (all_entries es) new) where
  -- how often each is listed then
  counts : AddsLast h.0 p.0 (all_entries es) new → (k : ℕ) → (times (owners fs) k ≡ cond (eqb h.0 k) 1 0 + times (owners es) k) × (cond (eqb p.0 k) 1 0 ≤ times (owners es) k)
  counts adds k =
      let old_is = count es k ∙ ap (λ (l : List Painted). times_of (own_handles l) k) adds.was in
      let new_is = count fs k ∙ ap (λ (l : List Painted). times_of (own_handles l) k) (is ∙ adds.is) in
      let a = split adds.before (own p.0 ∷ (adds.inside ++ (bars_over p.0 ∷ adds.after))) k in
      let b = split adds.inside (bars_over p.0 ∷ adds.after) k in
      let c = split adds.before (own p.0 ∷ (adds.inside ++ (own h.0 ∷ (bars_over h.0 ∷ (bars_over p.0 ∷ adds.after))))) k in
      let d = split adds.inside (own h.0 ∷ (bars_over h.0 ∷ (bars_over p.0 ∷ adds.after))) k in
      (omega (arith, old_is, new_is, a, b, c, d), omega (arith, old_is, a, b))

  module _ (objects : ℕ) (t : Table Seen) (these : HasThese objects t (owners es)) where
    -- the parent is listed where something is known of it
    adds : is_some (value_at t p.0) ≡ true → AddsLast h.0 p.0 (all_entries es) new
    adds some = elim comes [
      | inl out ↦
          let none = count es p.0 ∙ unnamed p.0 (all_entries es) out.none in
          let each = these.each p.0 in
          let one : value_count t p.0 ≡ 1 = ap (λ b. cond b 1 0) some in
          absurd (omega (arith, none, each, one))
      | inr it ↦ it
    ]

    but : AddsLast h.0 p.0 (all_entries es) new → HasBut objects t (owners fs) (h ∷ [])
    but it =
        let room = these.room in
        let longer : length (owners fs) ≡ length (h ∷ owners es) = same-length (h ∷ owners es) (owners fs) (λ k. let c = (counts it k).0 in omega (arith, c)) in
        record {
          keys = these.keys;
          room = omega (arith, room, longer);
          each = λ k. let a = these.each k in let c = (counts it k).0 in omega (arith, a, c);
        }

    module _ (proper : AreProper (owners fs)) (few : length (owners fs) ≤ objects) where
      -- so the new one may be put in
      pub may-put : is_some (value_at t p.0) ≡ true → MayPut t h
      may-put some = but_first objects t h (owners fs) [] proper few (but (adds some))

      -- and then something is known of all that is listed
      pub these-joined : (u : Table Seen) → (is_some (value_at t p.0) ≡ true → PutsNothing t u h.0) → (is_some (value_at t p.0) ≡ false → u ≡ t) → HasThese objects u (owners fs)
      these-joined u puts same = elim (cases_Bool (is_some (value_at t p.0))) [
        | inl some ↦
            let put = puts some in
            but_none objects u (owners fs) (but_put objects t u h put.value (owners fs) [] (may-put some) put.is (but (adds some)))
        | inr none ↦ elim comes [
          | inl out ↦
              subst (λ (v : Table Seen). HasThese objects v (owners fs)) (sym (same none))
              (these_alike objects t (owners es) (owners fs) (alike-each (owners es) (owners fs) (λ k. count fs k ∙ (ap (λ (l : List Painted). times_of (own_handles l) k) (is ∙ out.same) ∙ sym (count es k)))) these)
          | inr it ↦
              let each = these.each p.0 in
              let zero : value_count t p.0 ≡ 0 = ap (λ b. cond b 1 0) none in
              let listed : 1 ≤ times (owners es) p.0 = rw (eq-eqb p.0 p.0 refl) at (counts it p.0).1 in
              absurd (omega (arith, each, zero, listed))
        ]
      ]
