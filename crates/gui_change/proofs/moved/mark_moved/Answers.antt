use Rattle.std.proofs.Common.{◌≡◌, ◌∙◌, sym, ℕ, true, false, ◌&&◌, arith}
use Rattle.std.proofs.lemmas.Bool.{and_from, both_ways, false_from_ne_true, or_right}
use Rattle.gui_store.specs.Views.{scene_of}
use Rattle.scene_defs.specs.Scene.{is_there}
use Rattle.gui_boxes.specs.Marks.{is_changed, is_marked, is_parent}
use Rattle.gui_layout.proofs.Entering.{few}
use Rattle.gui_concerns.specs.Concerned.{may_be}
use Rattle.gui_concerns.specs.Moving.{moves_nobody}
use Rattle.gui_concerns.proofs.Marks.{marked-changed}
use Rattle.gui_change.proofs.Unmoved.{nobody-boxes, nobody-told, others-boxes, others-told}
use Rattle.gui_change.proofs.moved.mark_moved.Goals as goal
use Rattle.gui_change.proofs.moved.mark_moved.Goals.{After-mark_concerned}

pub returns-then-moves_nobody-clause-tell : goal.returns-then-moves_nobody-clause-tell
returns-then-moves_nobody-clause-tell c edit removed kept places was =
    let marks = c.args.marks.now in
    nobody-told places (scene_of c.args.store.now) c.args.change.now c.args.concerned was.was (is_changed marks) (is_parent marks) (sym c.moves_nobody.ensures ∙ c.if-moves_nobody.true)

pub mark_concerned-requires : goal.mark_concerned-requires
mark_concerned-requires c =
    let fit = few (scene_of c.args.store.now) c.tree-tree.ensures.valid in
    let most = c.requires.none.most in
    record { room = record { there = λ k is. absurd (both_ways (is_marked c.args.marks.now k) (c.requires.none.none k) is); room = omega arith } }

-- what is there and may be concerned is marked
marked : (c : After-mark_concerned) (k : ℕ) → is_there (scene_of c.args.store.now) k ≡ true → may_be (scene_of c.args.store.now) c.args.concerned k ≡ true → is_changed c.mark_concerned.new.marks k ≡ true
marked c k there may =
    let scene = scene_of c.args.store.now in
    c.mark_concerned.ensures.marks.changed k ∙ or_right (is_changed c.args.marks.now k) (is_there scene k && may_be scene c.args.concerned k) (and_from (is_there scene k) (may_be scene c.args.concerned k) there may)

-- so what is there and not marked is none that the change may concern
off-may : (c : After-mark_concerned) (k : ℕ) → is_there (scene_of c.args.store.now) k ≡ true → is_changed c.mark_concerned.new.marks k ≡ false → may_be (scene_of c.args.store.now) c.args.concerned k ≡ false
off-may c k there off =
    false_from_ne_true (may_be (scene_of c.args.store.now) c.args.concerned k) (λ may. both_ways (is_changed c.mark_concerned.new.marks k) off (marked c k there may))

pub returns-clause-all : goal.returns-clause-all
returns-clause-all c moves = marked (goal.at.returns-clause-all c).After-mark_concerned

pub returns-then-moves_nobody-clause-all : goal.returns-then-moves_nobody-clause-all
returns-then-moves_nobody-clause-all c moves = absurd (both_ways (moves_nobody c.args.change.now) moves (sym c.moves_nobody.ensures ∙ c.if-moves_nobody.true))

pub returns-clause-tell : goal.returns-clause-tell
returns-clause-tell c edit removed kept places was =
    let scene = scene_of c.args.store.now in
    let marks = c.mark_concerned.new.marks in
    others-told places scene edit c.args.change.now c.args.concerned removed was (is_changed marks) (is_parent marks) kept (off-may (goal.at.returns-clause-tell c).After-mark_concerned)

pub returns-then-moves_nobody-clause-boxes : goal.returns-then-moves_nobody-clause-boxes
returns-then-moves_nobody-clause-boxes c edit removed kept places was k there un =
    nobody-boxes places (scene_of c.args.store.now) c.args.change.now c.args.concerned was.was (sym c.moves_nobody.ensures ∙ c.if-moves_nobody.true) k

pub returns-clause-boxes : goal.returns-clause-boxes
returns-clause-boxes c edit removed kept places was k there un =
    others-boxes places (scene_of c.args.store.now) edit c.args.change.now c.args.concerned removed was k there (off-may (goal.at.returns-clause-boxes c).After-mark_concerned k there un)

pub returns-then-moves_nobody-clause-whole : goal.returns-then-moves_nobody-clause-whole
returns-then-moves_nobody-clause-whole c k is = absurd (both_ways (is_marked c.args.marks.now k) (c.requires.none.none k) is)

pub returns-clause-whole : goal.returns-clause-whole
returns-clause-whole c k is = marked-changed c.args.marks.now c.mark_concerned.new.marks k (c.requires.none.none k) (c.mark_concerned.ensures.marks.parents k) is
