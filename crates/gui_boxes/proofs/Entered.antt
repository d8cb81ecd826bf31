-- Lists of marked handles, one after another.
use Rattle.std.proofs.Common.{◌≡◌, ◌∙◌, ◌<◌, ◌≤◌, ◌+◌, ◌∷◌, [], refl, ap, ℕ, zero, suc, false, eqb, eq-eqb, cond, length, add-one, drop, get_or, List, drop-cons, arith}
use Rattle.std.proofs.lemmas.List.{drop_all}
use Rattle.gui_base.specs.declared.Handle.{Handle}
use Rattle.gui_boxes.specs.Listing.{times}

abbrev pub nothing : Handle
nothing = record { 0 = 0 }

pub now : (hs : List Handle) (i : ℕ) → i < length hs → drop i hs ≡ get_or hs i nothing ∷ drop (i + 1) hs
now hs i within = rw (add-one, drop-cons hs i nothing)

fewer : (hs : List Handle) (i k : ℕ) → times (drop i hs) k ≤ times hs k
fewer hs zero k = omega arith
fewer [] (suc i) k = omega arith
fewer (h ∷ hs) (suc i) k = let a = fewer hs i k in omega arith

pub first-times : (hs : List Handle) (i : ℕ) → i < length hs → 0 < times hs (get_or hs i nothing).0
first-times hs i within =
    let h = get_or hs i nothing in
    let is : times (drop i hs) h.0 ≡ 1 + times (drop (i + 1) hs) h.0 = ap (λ xs. times xs h.0) (now hs i within) ∙ ap (λ b. cond b 1 0 + times (drop (i + 1) hs) h.0) (eq-eqb h.0 h.0 refl) in
    let a = fewer hs i h.0 in omega arith

pub next-times : (hs : List Handle) (i k : ℕ) → i < length hs → eqb (get_or hs i nothing).0 k ≡ false → times (drop i hs) k ≡ times (drop (i + 1) hs) k
next-times hs i k within other =
    ap (λ xs. times xs k) (now hs i within) ∙ (ap (λ b. cond b 1 0 + times (drop (i + 1) hs) k) other ∙ omega arith)

pub none-left : (hs : List Handle) (i k : ℕ) → length hs ≤ i → times (drop i hs) k ≡ 0
none-left hs i k past = ap (λ xs. times xs k) (drop_all i hs past)
