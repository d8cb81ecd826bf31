use Rattle.std.proofs.Common.{◌≡◌, ◌∙◌, [], ◌+◌, ◌≤◌, sym, ap, refl, ℕ, Bool, true, false, eqb, cond, ◌||◌, List, drop, get_or, arith}
use Rattle.std.proofs.lemmas.List.{drop_all}
use Rattle.debt_defs.specs.SceneLook.{is_among}
use Rattle.gui_base.specs.declared.Handle.{Handle}
use Rattle.gui_tree.specs.Handles.{numbers}
use Rattle.gui_boxes.specs.Marks.{is_changed, is_marked, mark_count}
use Rattle.gui_concerns.proofs.Marks.{also-mark, or-false, or-three}
use Rattle.gui_boxes.proofs.Entered.{now as next_of, nothing as nobody}
use Rattle.gui_concerns.proofs.marking.mark_listed.Goals as goal

pub loop-h-init : goal.loop-h-init
loop-h-init c = record { changed = λ k. refl; parents = λ k is. is; most = refl; count = omega arith }

pub mark-requires : goal.mark-requires
mark-requires c =
    let within = c.loop-h-test.true in
    let room = c.requires.room in
    let count = c.loop-h.invariant.count in
    let most = c.loop-h.invariant.most in
    record { room = λ none. omega arith }

grown : (b : Bool) (n m : ℕ) → m ≡ cond b n (n + 1) → m ≤ n + 1
grown true n m is = omega arith
grown false n m is = omega arith

pub loop-h-preserved : goal.loop-h-preserved
loop-h-preserved c =
    let hs = c.args.listed.now in
    let i = c.loop-h.h-index in
    let inv = c.loop-h.invariant in
    let h = get_or hs i nobody in
    let now = next_of hs i c.loop-h-test.true in
    let also = also-mark c.loop-h.marks c.mark.new.self h.0 c.mark.ensures.own c.mark.ensures.others c.mark.ensures.parents in
    let more = grown (is_marked c.loop-h.marks h.0) (mark_count c.loop-h.marks) (mark_count c.mark.new.self) c.mark.ensures.count in
    let count = inv.count in
    record {
      changed = λ k.
          ap (λ (b : Bool). b || is_among (numbers (drop (i + 1) hs)) k) (also.changed k)
          ∙ (or-three (is_changed c.loop-h.marks k) (eqb h.0 k) (is_among (numbers (drop (i + 1) hs)) k)
          ∙ (ap (λ (ks : List Handle). is_changed c.loop-h.marks k || is_among (numbers ks) k) (sym now) ∙ inv.changed k));
      parents = λ k is. inv.parents k (also.parents k is);
      most = c.mark.ensures.most ∙ inv.most;
      count = omega arith;
    }

pub returns-clause-marks : goal.returns-clause-marks
returns-clause-marks c =
    let hs = c.args.listed.now in
    let end : drop c.loop-h.h-index hs ≡ [] = drop_all c.loop-h.h-index hs c.loop-h-test.false in
    record {
      changed = λ k.
          or-false (is_changed c.loop-h.marks k)
          ∙ (ap (λ (ks : List Handle). is_changed c.loop-h.marks k || is_among (numbers ks) k) (sym end) ∙ c.loop-h.invariant.changed k);
      parents = c.loop-h.invariant.parents;
    }
