-- Marks of objects that are there: each of them may be marked.
use Rattle.std.proofs.Common.{◌≡◌, ◌∙◌, refl, sym, ap, subst, ℕ, ◌<◌, Bool, true, false, eqb, eq-eqb, not, ◌&&◌, ◌||◌, length, List, [], ◌∷◌, inl, inr, arith}
use Rattle.std.specs.Prelude.{Option, Some, None, is_some}
use Rattle.std.proofs.lemmas.Bool.{cases_Bool, and_parts, eqb-true, both_ways, false≢true, false_from_ne_true}
use Rattle.gui_base.specs.Forest.{Forest, has, size}
use Rattle.gui_base.specs.declared.Handle.{Handle}
use Rattle.gui_base.proofs.Forests.{map-size}
use Rattle.scene_defs.specs.Scene.{Scene, handle_of, handles_of}
use Rattle.scene_defs.specs.Valid.{IsValid}
use Rattle.gui_boxes.specs.Listing.{times}
use Rattle.gui_pool.specs.Table.{value_at}
use Rattle.gui_boxes.specs.Marks.{is_changed, is_marked, is_parent, mark_count, most_marks}
use Rattle.gui_boxes.specs.Pending.{is_any}
use Rattle.gui_boxes.specs.declared.mark.Mark.{Mark}
use Rattle.gui_boxes.specs.declared.marks.Marks.{Marks}
use Rattle.gui_boxes.proofs.Adding.{listed-fewer}
use Rattle.gui_boxes.proofs.Pendings.{all-any, any-part, part-any, times-marked}
use Rattle.gui_concerns.specs.Marking.{AlsoMarks, AreMarked, AreUnmarked}

-- What is marked lies in these trees, and one more object does: so one more may be marked.
pub room : (marks : Marks) (f : Forest ℕ) (h : Handle) → AreMarked marks f → has f h.0 ≡ true → is_marked marks h.0 ≡ false → mark_count marks < most_marks marks
room marks f h marked there none =
    let fewer : length marks.listed.items < size f =
    listed-fewer marks.objects marks.pending marks.listed.items h f marks.marks.these (λ k some. marked.there k (any-is k some)) there
    (false_from_ne_true (is_some (value_at marks.pending h.0)) (λ some. both_ways (is_marked marks h.0) none (any-is h.0 some))) in
    let fit = marked.room in
    omega arith
  where
    any-is : (k : ℕ) → is_some (value_at marks.pending k) ≡ true → is_marked marks k ≡ true
    any-is k some = by (value_at marks.pending k) refl some where
      by : (o : Option Mark) → value_at marks.pending k ≡ o → is_some o ≡ true → is_marked marks k ≡ true
      by None is some = absurd (false≢true some)
      by (Some mark) is some = ap is_any is ∙ marks.marks.good k mark is

-- Where objects of these trees are marked besides, all that is marked is one of theirs.
pub there-still : (old new : Marks) (f : Forest ℕ) (m : ℕ → Bool) → AreMarked old f → AlsoMarks old new m → ((k : ℕ) → m k ≡ true → has f k ≡ true) → most_marks new ≡ most_marks old → AreMarked new f
there-still old new f m was also there most = record {
  there = λ k is. elim (cases_Bool (is_changed new k)) [
    | inl all ↦ elim (cases_Bool (is_changed old k)) [
      | inl before ↦ was.there k (all-any (value_at old.pending k) before)
      | inr off ↦ there k (let both : (is_changed old k || m k) ≡ true = sym (also.changed k) ∙ all in rw off at both)
    ]
    | inr off ↦ was.there k (part-any (value_at old.pending k) (also.parents k (any-part (value_at new.pending k) is off)))
  ];
  room = let fit = was.room in omega arith;
}

pub or-true : (b : Bool) → (b || true) ≡ true
or-true true = refl
or-true false = refl

pub or-false : (b : Bool) → b ≡ (b || false)
or-false true = refl
or-false false = refl

-- One object more.
pub also-one : (old new : Marks) (h : ℕ) (may : ℕ → Bool) → may h ≡ true → is_changed new h ≡ true → ((k : ℕ) → eqb k h ≡ false → is_changed new k ≡ is_changed old k) →
    ((k : ℕ) → is_parent new k ≡ (is_parent old k && not (eqb k h))) → AlsoMarks old new (λ k. eqb h k && may k)
also-one old new h may is own others parents = record {
  changed = λ k. elim (cases_Bool (eqb h k)) [
    | inl same ↦ subst (λ j. is_changed new j ≡ (is_changed old j || (eqb h j && may j))) (eqb-true h k same) (own ∙ sym at-own)
    | inr other ↦ others k (flip k other) ∙ rw other (or-false (is_changed old k))
  ];
  parents = λ k is_one. let both : (is_parent old k && not (eqb k h)) ≡ true = sym (parents k) ∙ is_one in (and_parts (is_parent old k) (not (eqb k h)) both).0;
}
  where
    flip : (k : ℕ) → eqb h k ≡ false → eqb k h ≡ false
    flip k other = false_from_ne_true (eqb k h) (λ e. both_ways (eqb h k) other (subst (λ j. eqb h j ≡ true) (sym (eqb-true k h e)) (eq-eqb h h refl)))

    at-own : (is_changed old h || (eqb h h && may h)) ≡ true
    at-own = let self : eqb h h ≡ true = eq-eqb h h refl in rw (self, is) (or-true (is_changed old h))

-- no object more
pub also-none : (marks : Marks) (h : ℕ) (may : ℕ → Bool) → may h ≡ false → AlsoMarks marks marks (λ k. eqb h k && may k)
also-none marks h may off = record {
  changed = λ k. elim (cases_Bool (eqb h k)) [
    | inl same ↦ let none : may k ≡ false = subst (λ j. may j ≡ false) (eqb-true h k same) off in rw (same, none) (or-false (is_changed marks k))
    | inr other ↦ rw other (or-false (is_changed marks k))
  ];
  parents = λ k is. is;
}

-- the same objects more, told by another test
pub also-alike : (old new : Marks) (m n : ℕ → Bool) → AlsoMarks old new m → ((k : ℕ) → m k ≡ n k) → AlsoMarks old new n
also-alike old new m n also same = record {
  changed = λ k. also.changed k ∙ ap (λ (b : Bool). is_changed old k || b) (same k);
  parents = also.parents;
}

-- some more, and then others
pub or-three : (a b c : Bool) → ((a || b) || c) ≡ (a || (b || c))
or-three true b c = refl
or-three false b c = refl

pub also-both : (old mid new : Marks) (m n : ℕ → Bool) → AlsoMarks old mid m → AlsoMarks mid new n → AlsoMarks old new (λ k. m k || n k)
also-both old mid new m n first then = record {
  changed = λ k. then.changed k ∙ (ap (λ (b : Bool). b || n k) (first.changed k) ∙ or-three (is_changed old k) (m k) (n k));
  parents = λ k is. first.parents k (then.parents k is);
}

pub flip-eqb : (h k : ℕ) → eqb h k ≡ eqb k h
flip-eqb h k = elim (cases_Bool (eqb h k)) [
  | inl same ↦ let e : h ≡ k = eqb-true h k same in subst (λ j. eqb h j ≡ eqb j h) e refl
  | inr other ↦ other ∙ sym (false_from_ne_true (eqb k h) (λ e. both_ways (eqb h k) other (subst (λ j. eqb h j ≡ true) (sym (eqb-true k h e)) (eq-eqb h h refl))))
]

-- One object more, whatever it is.
pub also-mark : (old new : Marks) (h : ℕ) → is_changed new h ≡ true → ((k : ℕ) → eqb k h ≡ false → is_changed new k ≡ is_changed old k) → ((k : ℕ) → is_parent new k ≡ (is_parent old k && not (eqb k h))) → AlsoMarks old new (λ k. eqb h k)
also-mark old new h own others parents = also-alike old new (λ k. eqb h k && true) (λ k. eqb h k) (also-one old new h (λ k. true) refl own others parents) (λ k. and-true (eqb h k)) where
  and-true : (b : Bool) → (b && true) ≡ b
  and-true true = refl
  and-true false = refl

-- Where nothing is marked, no mark is counted, and what is marked lies anywhere.
pub none-changed : (marks : Marks) (k : ℕ) → is_marked marks k ≡ false → is_changed marks k ≡ false
none-changed marks k none = false_from_ne_true (is_changed marks k) (λ is. both_ways (is_marked marks k) none (all-any (value_at marks.pending k) is))

pub none-there : (marks : Marks) (scene : Scene) → IsValid scene → AreUnmarked marks scene.limits.objects → AreMarked marks (handles_of scene.trees)
none-there marks scene valid none =
    let fit = valid.pools.objects in
    let most = none.most in
    record { there = λ k is. absurd (both_ways (is_marked marks k) (none.none k) is); room = omega (arith, map-size handle_of scene.trees) }

pub count-none : (marks : Marks) → ((k : ℕ) → is_marked marks k ≡ false) → mark_count marks ≡ 0
count-none marks none = by marks.listed.items refl where
  by : (hs : List Handle) → marks.listed.items ≡ hs → mark_count marks ≡ 0
  by [] is = ap (λ (hs : List Handle). length hs) is
  by (h ∷ hs) is =
      let listed : 0 < times marks.listed.items h.0 = rw is (let self : eqb h.0 h.0 ≡ true = eq-eqb h.0 h.0 refl in rw self (omega arith)) in
      absurd (both_ways (is_marked marks h.0) (none h.0) (times-marked marks.objects marks.pending marks.listed.items h.0 marks.marks listed))

-- where nothing is marked, what is marked later has changed, or has other children
pub marked-changed : (old new : Marks) (k : ℕ) → is_marked old k ≡ false → (is_parent new k ≡ true → is_parent old k ≡ true) → is_marked new k ≡ true → is_changed new k ≡ true
marked-changed old new k none parents is = elim (cases_Bool (is_changed new k)) [
  | inl all ↦ all
  | inr off ↦ absurd (both_ways (is_marked old k) none (part-any (value_at old.pending k) (parents (any-part (value_at new.pending k) is off))))
]

-- so what has not changed, and has no other children, is not marked
pub unmarked-by : (old new : Marks) (k : ℕ) → is_marked old k ≡ false → is_changed new k ≡ false → (is_parent new k ≡ true → is_parent old k ≡ true) → is_marked new k ≡ false
unmarked-by old new k none changed parents = false_from_ne_true (is_marked new k) (λ is. both_ways (is_changed new k) changed (marked-changed old new k none parents is))

-- and so an object is not marked, if that is no other than before
pub unmarked-still : (old new : Marks) (k : ℕ) → is_marked old k ≡ false → is_changed new k ≡ is_changed old k → is_parent new k ≡ is_parent old k → is_marked new k ≡ false
unmarked-still old new k none changed parents = unmarked-by old new k none (changed ∙ none-changed old k none) (λ part. sym parents ∙ part)
