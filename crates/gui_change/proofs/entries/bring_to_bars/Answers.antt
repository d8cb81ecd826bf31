use Rattle.std.proofs.Common.{◌≡◌, ◌∙◌, ◌+◌, sym, ap, ℕ, List, Option, Some, None, drop, length, position, arith}
use Rattle.std.proofs.lemmas.Slice.{between_to_end}
use Rattle.gui_change.specs.Entries.{all_entries}
use Rattle.gui_change.specs.Fronts.{is_of}
use Rattle.gui_change.specs.declared.entries.Entry.{Entry}
use Rattle.gui_change.proofs.Placing.{brought-behind, own-bars, parent-bars}
use Rattle.gui_change.proofs.entries.bring_to_bars.Goals as goal

-- what is found from a place on
found-from : (h : ℕ) (es xs : List Entry) (n : ℕ) (o : Option ℕ) → xs ≡ drop n es → position (is_of h) xs ≡ o → position (is_of h) (drop n es) ≡ o
found-from h es xs n o is found = ap (λ (l : List Entry). position (is_of h) l) (sym is) ∙ found

pub returns-in_default : goal.returns-in_default
returns-in_default c inside beside after whole last is =
    let es = c.args.listed.now in
    let h = c.args.h.0 in
    let none : position (is_of h) (drop 1 es) ≡ None = found-from h es _ 1 None (between_to_end es 1 (length es) (omega arith)) (sym c.place_of.ensures.place ∙ c.in_default.is) in
    let e : None ≡ Some (length inside) = sym none ∙ own-bars h c.args.parent.0 es inside beside after whole last is in
    cc

pub returns-in_default-place_of : goal.returns-in_default-place_of
returns-in_default-place_of c inside beside after whole last is =
    let es = c.args.listed.now in
    let h = c.args.h.0 in
    let p = c.args.parent.0 in
    let n = c.in-Some.below in
    let found : position (is_of h) (drop 1 es) ≡ Some n = found-from h es _ 1 (Some n) (between_to_end es 1 (length es) (omega arith)) (sym c.place_of.ensures.place ∙ c.in-Some.is) in
    let none : position (is_of p) (drop (n + 2) es) ≡ None = found-from p es _ (n + 2) None (between_to_end es (n + 2) (length es) (omega arith)) (sym c.place_of-2.ensures.place ∙ c.in_default-place_of.is) in
    let e : None ≡ Some (length beside) = sym none ∙ parent-bars h p es inside beside after whole last is n found in
    cc

pub returns : goal.returns
returns c inside beside after whole last is =
    let es = c.args.listed.now in
    let h = c.args.h.0 in
    let p = c.args.parent.0 in
    let n = c.in-Some.below in
    let m = c.in-Some-place_of.more in
    let found : position (is_of h) (drop 1 es) ≡ Some n = found-from h es _ 1 (Some n) (between_to_end es 1 (length es) (omega arith)) (sym c.place_of.ensures.place ∙ c.in-Some.is) in
    let bars : position (is_of p) (drop (n + 2) es) ≡ Some m = found-from p es _ (n + 2) (Some m) (between_to_end es (n + 2) (length es) (omega arith)) (sym c.place_of-2.ensures.place ∙ c.in-Some-place_of.is) in
    ap (λ (l : List Entry). all_entries l) c.bring_behind.ensures ∙ brought-behind h p es inside beside after whole last is n found m bars
