use Rattle.std.proofs.Common.{◌≡◌, ◌∙◌, ◌+◌, ◌-◌, ◌++◌, sym, ap, List, [], Some, None, take, drop, length, position, arith}
use Rattle.std.proofs.lemmas.List.{drop_all, length-drop, take_rest, with_items_is}
use Rattle.std.proofs.lemmas.Slice.{between_to_end}
use Rattle.gui_change.specs.Entries.{all_entries}
use Rattle.gui_change.specs.Fronts.{is_of}
use Rattle.gui_change.specs.declared.entries.Entry.{Entry}
use Rattle.gui_change.proofs.Taken.{bars-there, goes-where, kept, none-there, placed}
use Rattle.gui_change.proofs.entries.take_out.Goals as goal
use borrow.Rule.Slice.PartMut.{put_mid}

pub returns-in_default-clause-listed : goal.returns-in_default-clause-listed
returns-in_default-clause-listed c after goes =
    let h = c.args.h.0 in
    let es = c.args.listed.now.items in
    let none : position (is_of h) es ≡ None = ap (λ (l : List Entry). position (is_of h) l) (sym c.as_slice.ensures.value) ∙ (sym c.place_of.ensures.place ∙ c.in_default.is) in
    none-there h es after none goes

pub returns-in_default-place_of-clause-listed : goal.returns-in_default-place_of-clause-listed
returns-in_default-place_of-clause-listed c after goes =
    let h = c.args.h.0 in
    let es = c.args.listed.now.items in
    let s = c.as_slice-2.result.now in
    let start = c.in-Some.start in
    let found : position (is_of h) es ≡ Some start = ap (λ (l : List Entry). position (is_of h) l) (sym c.as_slice.ensures.value) ∙ (sym c.place_of.ensures.place ∙ c.in-Some.is) in
    let g = goes-where h es after start found goes in
    let none : position (is_of h) (drop (start + 1) es) ≡ None =
    ap (λ (l : List Entry). position (is_of h) (drop (start + 1) l)) (sym c.as_slice-2.ensures.value)
    ∙ (ap (λ (l : List Entry). position (is_of h) l) (sym (between_to_end s (start + 1) (length s) (omega arith))) ∙ (sym c.place_of-2.ensures.place ∙ c.in_default-place_of.is)) in
    let e : None ≡ Some (length g.inside) = sym none ∙ bars-there h es after start found g in
    cc

pub returns-clause-listed : goal.returns-clause-listed
returns-clause-listed c after goes =
    let h = c.args.h.0 in
    let v = c.args.listed.now in
    let es = v.items in
    let s = c.as_slice-2.result.now in
    let start = c.in-Some.start in
    let below = c.in-Some-place_of.below in
    let found : position (is_of h) es ≡ Some start = ap (λ (l : List Entry). position (is_of h) l) (sym c.as_slice.ensures.value) ∙ (sym c.place_of.ensures.place ∙ c.in-Some.is) in
    let g = goes-where h es after start found goes in
    let bars : position (is_of h) (drop (start + 1) es) ≡ Some below =
    ap (λ (l : List Entry). position (is_of h) (drop (start + 1) l)) (sym c.as_slice-2.ensures.value)
    ∙ (ap (λ (l : List Entry). position (is_of h) l) (sym (between_to_end s (start + 1) (length s) (omega arith))) ∙ (sym c.place_of-2.ensures.place ∙ c.in-Some-place_of.is)) in
    let fs = c.as_mut_slice.result.now in
    let xs = c.bring_behind.new.listed in
    let lent : fs ≡ es = c.as_mut_slice.ensures.value in
    let rest = c.len.result - start - (below + 2) in
    let l = c.len.ensures in
    let k = c.as_slice.ensures.len in
    let m = ap length c.as_slice.ensures.value in
    let left : rest ≡ length es - start - (below + 2) = omega (arith, l, k, m) in
    let brought =
    c.bring_behind.ensures
    ∙ ap (λ (o : List Entry). drop (below + 2) (take (below + 2 + rest) o) ++ (take (below + 2) o ++ drop (below + 2 + rest) o)) (take_rest fs start ∙ ap (drop start) lent) in
    let now = placed h es after start found g below bars xs rest left brought in
    let long = kept h es after start found g below bars xs rest left brought in
    let none : drop (length fs - start) (drop start fs) ≡ [] = drop_all (length fs - start) (drop start fs) (let d = length-drop start fs in omega (arith, d)) in
    let len = c.as_mut_slice.ensures.len in
    let many = ap length lent in
    let all : length (put_mid start (length fs - start) fs xs) ≡ length es =
    ap (λ (o : List Entry). length (take start fs ++ (xs ++ o))) none ∙ (ap (λ (o : List Entry). length (take start o ++ (xs ++ []))) lent ∙ long) in
    let same : length (put_mid start (length fs - start) fs xs) ≡ v.len = all ∙ omega (arith, len, many) in
    let mid : all_entries (take (start + rest) (put_mid start (length fs - start) fs xs)) ≡ after =
    ap (λ (o : List Entry). all_entries (take (start + rest) (take start fs ++ (xs ++ o)))) none
    ∙ (ap (λ (o : List Entry). all_entries (take (start + rest) (take start o ++ (xs ++ [])))) lent ∙ now) in
    ap (λ (o : List Entry). all_entries o) c.truncate.ensures.items
    ∙ (ap (λ (o : List Entry). all_entries (take (start + rest) o)) (with_items_is v (put_mid start (length fs - start) fs xs) same) ∙ mid)
