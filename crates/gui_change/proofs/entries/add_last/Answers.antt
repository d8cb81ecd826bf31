use Rattle.std.proofs.Common.{◌≡◌, ◌∙◌, ◌+◌, ◌-◌, ◌∷◌, ◌++◌, sym, ap, true, false, List, [], Some, None, append_assoc, take, drop, length, position, arith}
use Rattle.std.proofs.lemmas.List.{drop_all, length-drop, length-map, map-append, take_rest, with_items_is}
use Rattle.std.proofs.lemmas.Slice.{between_to_end}
use Rattle.scene_defs.specs.Shown.{bars_over, own}
use Rattle.gui_change.specs.Entries.{all_entries, entry_in}
use Rattle.gui_change.specs.Fronts.{is_of}
use Rattle.gui_change.specs.declared.entries.Entry.{Entry}
use Rattle.gui_change.proofs.Added.{bars-there, goes-where, none-there, placed, size}
use Rattle.gui_change.proofs.entries.add_last.Goals as goal
use borrow.Rule.Slice.PartMut.{put_mid}

pub returns-in_default-clause-listed : goal.returns-in_default-clause-listed
returns-in_default-clause-listed c after comes =
    let p = c.args.parent.0 in
    let es = c.args.listed.now.items in
    let none : position (is_of p) es ≡ None = ap (λ (l : List Entry). position (is_of p) l) (sym c.as_slice.ensures.value) ∙ (sym c.place_of.ensures.place ∙ c.in_default.is) in
    none-there c.args.h.0 p es after none comes

pub returns-in_default-place_of-clause-listed : goal.returns-in_default-place_of-clause-listed
returns-in_default-place_of-clause-listed c after comes =
    let h = c.args.h.0 in
    let p = c.args.parent.0 in
    let es = c.args.listed.now.items in
    let s = c.as_slice-2.result.now in
    let start = c.in-Some.start in
    let found : position (is_of p) es ≡ Some start = ap (λ (l : List Entry). position (is_of p) l) (sym c.as_slice.ensures.value) ∙ (sym c.place_of.ensures.place ∙ c.in-Some.is) in
    let g = goes-where h p es after start found comes in
    let none : position (is_of p) (drop (start + 1) es) ≡ None =
    ap (λ (l : List Entry). position (is_of p) (drop (start + 1) l)) (sym c.as_slice-2.ensures.value)
    ∙ (ap (λ (l : List Entry). position (is_of p) l) (sym (between_to_end s (start + 1) (length s) (omega arith))) ∙ (sym c.place_of-2.ensures.place ∙ c.in_default-place_of.is)) in
    let e : None ≡ Some (length g.inside) = sym none ∙ bars-there h p es after start found g in
    cc

pub returns-clause-listed : goal.returns-clause-listed
returns-clause-listed c after comes =
    let h = c.args.h.0 in
    let p = c.args.parent.0 in
    let es = c.args.listed.now.items in
    let s = c.as_slice-2.result.now in
    let start = c.in-Some.start in
    let below = c.in-Some-place_of.below in
    let place = start + 1 + below in
    let found : position (is_of p) es ≡ Some start = ap (λ (l : List Entry). position (is_of p) l) (sym c.as_slice.ensures.value) ∙ (sym c.place_of.ensures.place ∙ c.in-Some.is) in
    let g = goes-where h p es after start found comes in
    let bars : position (is_of p) (drop (start + 1) es) ≡ Some below =
    ap (λ (l : List Entry). position (is_of p) (drop (start + 1) l)) (sym c.as_slice-2.ensures.value)
    ∙ (ap (λ (l : List Entry). position (is_of p) l) (sym (between_to_end s (start + 1) (length s) (omega arith))) ∙ (sym c.place_of-2.ensures.place ∙ c.in-Some-place_of.is)) in
    let fs = c.as_mut_slice.result.now in
    let xs = c.bring_behind.new.listed in
    let v = c.push_reserved-2.new.self in
    let lent = c.as_mut_slice.ensures.value in
    let first : Entry = record { h = c.args.h; is_bars = false } in
    let second : Entry = record { h = c.args.h; is_bars = true } in
    let all : fs ≡ es ++ (first ∷ (second ∷ [])) =
    lent ∙ (c.push_reserved-2.ensures.items ∙ (ap (λ (l : List Entry). l ++ (second ∷ [])) c.push_reserved.ensures.items ∙ append_assoc es (first ∷ []) (second ∷ []))) in
    let more : all_entries fs ≡ all_entries es ++ (own h ∷ (bars_over h ∷ [])) = ap (λ (l : List Entry). all_entries l) all ∙ map-append entry_in es (first ∷ (second ∷ [])) in
    let count = c.len.result - place in
    let l = c.len.ensures in
    let k = c.as_slice.ensures.len in
    let m = ap length c.as_slice.ensures.value in
    let rest : count ≡ length es - place = omega (arith, l, k, m) in
    let brought = c.bring_behind.ensures ∙ ap (λ (o : List Entry). drop count (take (count + 2) o) ++ (take count o ++ drop (count + 2) o)) (take_rest fs place) in
    let now = placed h p es after start found g below bars fs xs more count rest brought in
    let none : drop (length fs - place) (drop place fs) ≡ [] = drop_all (length fs - place) (drop place fs) (let d = length-drop place fs in omega (arith, d)) in
    let mid : all_entries (put_mid place (length fs - place) fs xs) ≡ after = ap (λ (o : List Entry). all_entries (take place fs ++ (xs ++ o))) none ∙ now in
    let kept = sym (length-map (put_mid place (length fs - place) fs xs) entry_in) ∙ (ap length mid ∙ size h p es after start found g below bars) in
    let long = c.as_mut_slice.ensures.len in
    let two = ap length all in
    ap (λ (o : List Entry). all_entries o) (with_items_is v (put_mid place (length fs - place) fs xs) (omega (arith, kept, long, two))) ∙ mid
