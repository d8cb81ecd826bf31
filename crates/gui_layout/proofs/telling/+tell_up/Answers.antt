use Rattle.std.proofs.Common.{◌≡◌, ◌∙◌, ◌≤◌, ◌<◌, sym, subst, ℕ, true, false, eqb, ◌||◌, ◌⊎◌, inl, inr, length, None, rules}
use Rattle.std.specs.Prelude.{option_map, vec_capacity}
use Rattle.std.proofs.lemmas.Bool.{cases_Bool, eqb-true, false≢true, or_cases, or_left, or_right}
use Rattle.gui_base.specs.Forest.{has, parent_of, path_of, size}
use Rattle.gui_tree.specs.Handles.{as_handle}
use Rattle.gui_boxes.specs.Frames.{Encloses}
use Rattle.gui_boxes.specs.Pending.{is_first}
use Rattle.gui_boxes.specs.Tables.{IsListed, Listing, listing_of, told}
use Rattle.gui_boxes.specs.Telling.{ListsLeft}
use Rattle.gui_boxes.specs.Touched.{is_touched}
use Rattle.gui_boxes.proofs.Reports.{calm-still, left-then, tells-then}
use Rattle.gui_layout.specs.Calm.{is_up}
use Rattle.gui_layout.proofs.Climbing.{is_above, up_none, up_own, up_some}
use Rattle.gui_layout.proofs.telling.+tell_up.Goals as goal
use Rattle.gui_layout.proofs.telling.+tell_up.Goals.{After-tell_one}

pub tell_one-requires-clause-listed : goal.tell_one-requires-clause-listed
tell_one-requires-clause-listed t c = c.requires.listed c.args.h.0 (λ k i. i) c.requires.there

pub tell_up-requires : goal.tell_up-requires
tell_up-requires t c =
    let g = c.args.tree.now.forest in
    let up = is_above g c.args.h.0 c.in-Some.parent c.requires.once c.requires.there c.in-Some.ensures in
    let higher : length (path_of g c.in-Some.parent.0) < length (path_of g c.args.h.0) = up.higher in
    let listed : (k : ℕ) → Encloses g k c.in-Some.parent.0 → has g k ≡ true → IsListed (listing_of c.tell_one.new.entries) k =
    λ k encloses there. subst (λ (ks : Listing). IsListed ks k) (sym c.tell_one.ensures.listed) (c.requires.listed k (λ j i. encloses j (up.encloses j i)) there) in
    let left : ListsLeft g (is_touched (told c.tell_one.new.entries)) c.tell_one.new.moved.items = left-then g (is_first c.args.pending.now) (told c.args.entries.now) (told c.tell_one.new.entries) c.args.moved.now.items c.tell_one.new.moved.items c.requires.left c.tell_one.ensures.tells in
    let room : size g ≤ vec_capacity c.tell_one.new.moved = rw c.tell_one.ensures.capacity c.requires.room in
    (search rules, (c.requires.once, (up.there, (listed, (left, room)))))

pub returns-in-Some-clause-tells : goal.returns-in-Some-clause-tells
returns-in-Some-clause-tells t c =
    tells-then c.args.tree.now.forest (is_first c.args.pending.now) (told c.args.entries.now) (told c.tell_one.new.entries) (told c.tell_up.new.entries) c.args.moved.now.items c.tell_one.new.moved.items c.tell_up.new.moved.items c.tell_one.ensures.tells c.tell_up.ensures.tells

pub returns-in-Some-clause-own : goal.returns-in-Some-clause-own
returns-in-Some-clause-own t c k up =
    let h = c.args.h.0 in
    let f = c.args.tree.now.forest in
    let either : (eqb h k || is_up f k c.in-Some.parent.0) ≡ true = sym (up_some f h k c.in-Some.parent c.requires.once c.requires.there c.in-Some.ensures) ∙ up in
    let cases : (eqb h k ≡ true) ⊎ (is_up f k c.in-Some.parent.0 ≡ true) = or_cases _ _ either in
    elim cases [
      | inl same ↦
          calm-still f (is_first c.args.pending.now) (told c.tell_one.new.entries) (told c.tell_up.new.entries) c.tell_one.new.moved.items c.tell_up.new.moved.items k c.tell_up.ensures.tells
          (subst (λ j. is_touched (told c.tell_one.new.entries) j ≡ false) (eqb-true h k same) c.tell_one.ensures.own)
      | inr higher ↦ c.tell_up.ensures.own k higher
    ]

pub returns-in-Some-clause-within : goal.returns-in-Some-clause-within
returns-in-Some-clause-within t c k on off =
    let h = c.args.h.0 in
    let f = c.args.tree.now.forest in
    let is = up_some f h k c.in-Some.parent c.requires.once c.requires.there c.in-Some.ensures in
    is ∙ elim (cases_Bool (is_touched (told c.tell_one.new.entries) k)) [
      | inl still ↦ or_right (eqb h k) (is_up f k c.in-Some.parent.0) (c.tell_up.ensures.within k still off)
      | inr none ↦ elim (cases_Bool (eqb h k)) [
        | inl same ↦ or_left (eqb h k) (is_up f k c.in-Some.parent.0) same
        | inr other ↦ absurd (false≢true (sym none ∙ (c.tell_one.ensures.others k other ∙ on)))
      ]
    ]

pub returns-in_default-clause-own : goal.returns-in_default-clause-own
returns-in_default-clause-own t c k up =
    let f = c.args.tree.now.forest in
    let h = c.args.h.0 in
    let none : None ≡ option_map as_handle (parent_of f h) = cc in
    subst (λ j. is_touched (told c.tell_one.new.entries) j ≡ false) (eqb-true h k (up_none f h k c.requires.once c.requires.there none up)) c.tell_one.ensures.own

pub returns-in_default-clause-within : goal.returns-in_default-clause-within
returns-in_default-clause-within t c k on off =
    let f = c.args.tree.now.forest in
    let h = c.args.h.0 in
    elim (cases_Bool (eqb h k)) [
      | inl same ↦ subst (λ j. is_up f j h ≡ true) (eqb-true h k same) (up_own f h c.requires.once c.requires.there)
      | inr other ↦ absurd (false≢true (sym off ∙ (c.tell_one.ensures.others k other ∙ on)))
    ]
