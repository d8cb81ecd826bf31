use Rattle.std.proofs.Common.{refl, get_or, map, ◌≡◌, ◌≤◌, ◌+◌, ◌∙◌, sym, ap, subst, ℕ, Bool, true, List, set, arith, rules}
use Rattle.std.proofs.lemmas.List.{get_or-set_same, get_or-set_other}
use Rattle.std.proofs.lemmas.Bool.{false≢true}
use Rattle.gui_base.specs.Forest.{Forest, Empty, Tree, children_of, roots, size, tree_at}
use Rattle.gui_tree.proofs.Below.{begins_below, steps_below, whole_tree, own_tree}
use Rattle.gui_boxes.proofs.Listed.{told_short}
use Rattle.gui_boxes.specs.Kids.{tall_kids, told_trees}
use Rattle.gui_boxes.specs.Settled.{Layout, EachKids, NaturalHeightFits, known_at, tall_of}
use Rattle.gui_boxes.specs.Tables.{Listing, IsListed, listing_of, natural_height_or, told, AreListed}
use Rattle.gui_boxes.specs.Views.{box_at, box_of}
use Rattle.layout_defs.specs.Boxes.{Box, course_of}
use Rattle.layout_defs.specs.Solving.{Tall, natural_height}
use Rattle.layout_defs.specs.Tables.{KeepsOthers}
use Rattle.gui_boxes.specs.declared.measuring.Run.{Run}
use Rattle.gui_boxes.specs.Totals.{Sum, total_of, run_down, down_kid, with_kid, sum_of}
use Rattle.gui_boxes.proofs.Kids.{named, kid_told}
use Rattle.gui_boxes.proofs.Passes.{Pass, Finds, finds_none, finds_top, Gathers, gathers_none, gathers_more, trees_by, heights_pass}
use Rattle.gui_boxes.specs.Touched.{is_touched, IfTouched, IsClosed}
use Rattle.gui_boxes.proofs.Touched.{touched_pass, calm_at, closed_kids}
use Rattle.gui_boxes.proofs.heights.+find_natural_heights.Goals as goal
use Rattle.gui_boxes.proofs.heights.+find_natural_heights.Goals.{In-None, After-set_natural_height}

pub loop-child-init : goal.loop-child-init
loop-child-init t c =
    let f = c.args.tree.now.forest in
    let was = told c.args.entries.now in
    let begins = begins_below f c.args.h.0 _ (c.into_iter-child-iterator.ensures.into_iter_gives ∙ c.children-child-items.ensures.walk) in
    let few = begins.few in
    let most = c.requires.few in
    let none : c.no_kids-total.result.count ≡ 0 = ap (λ (s : Sum). s.count) c.no_kids-total.ensures in
    record {
      below = begins.is;
      few = omega arith;
      listed = refl;
      rest = refl;
      closed = rw begins.all (closed_kids (is_touched was) f c.args.h.0 c.requires.there c.requires.closed);
      calm = λ k none. refl;
      gathered = rw begins.all (gathers_none (touched_pass (is_touched was) (heights_pass was)) tall_of down_kid c.run_down-run.result was.natural_heights (children_of f c.args.h.0) (total_of c.no_kids-total.result) c.no_kids-total.ensures);
    }

pub find_natural_heights-requires : goal.find_natural_heights-requires
find_natural_heights-requires t c =
    let inv = c.loop-child.invariant in
    let was = told c.args.entries.now in
    let f = c.args.tree.now.forest in
    let g = steps_below f c.args.h.0 _ _ _ inv.below c.in-Some.ensures.steps in
    let fewer = g.fewer in
    let listed : AreListed (listing_of c.loop-child.entries) (tree_at f c.in-Some.child.0) = λ k i. subst (λ (ks : Listing). IsListed ks k) (sym inv.listed) (c.requires.listed k (g.inside k i)) in
    let room = c.requires.enough in
    let closed : IsClosed (is_touched was) (Tree c.in-Some.child.0 g.children c.next.new.self.left) = subst (IsClosed (is_touched was)) g.left inv.closed in
    let first : IsClosed (is_touched (told c.loop-child.entries)) (tree_at f c.in-Some.child.0) =
    subst (λ (l : Layout). IsClosed (is_touched l) (tree_at f c.in-Some.child.0)) (sym inv.rest) (subst (IsClosed (is_touched was)) (sym g.tree) (closed.0, closed.1, tt)) in
    (search rules, (listed, (c.requires.few, (g.there, (omega arith, first)))))

pub entry_of-requires : goal.entry_of-requires
entry_of-requires t c = c.requires.listed c.args.h.0 (own_tree c.args.tree.now.forest c.args.h.0 c.requires.there)

-- the child has an entry still
pub entry_of-kid-requires : goal.entry_of-kid-requires
entry_of-kid-requires t c =
    let inv = c.loop-child.invariant in
    let g = steps_below c.args.tree.now.forest c.args.h.0 _ _ _ inv.below c.in-Some.ensures.steps in
    subst (λ (ks : Listing). IsListed ks c.in-Some.child.0) (sym (c.find_natural_heights.ensures.listed ∙ inv.listed)) (c.requires.listed c.in-Some.child.0 g.own)

pub loop-child-preserved : goal.loop-child-preserved
loop-child-preserved t c =
    let inv = c.loop-child.invariant in
    let was = told c.args.entries.now in
    let touched = is_touched was in
    let p = touched_pass touched (heights_pass was) in
    let g = steps_below c.args.tree.now.forest c.args.h.0 _ _ _ inv.below c.in-Some.ensures.steps in
    let h = c.in-Some.child.0 in
    let trees = c.next.new.self.left in
    let done = c.find_natural_heights.ensures in
    let a = (told c.loop-child.entries).natural_heights in
    let now = told c.find_natural_heights.new.entries in
    let rest : now ≡ record was { natural_heights = now.natural_heights } = done.rest ∙ ap (λ (l : Layout). record l { natural_heights = now.natural_heights }) inv.rest in
    let first : Finds p a now.natural_heights (Tree h g.children Empty) = record {
      found =
          subst (λ (l : Layout). EachKids (IfTouched touched NaturalHeightFits) (told_trees l (Tree h g.children Empty))) rest
          (subst (λ (t : Forest ℕ). EachKids (IfTouched touched NaturalHeightFits) (told_trees now t)) g.tree (subst (λ (l : Layout). EachKids (IfTouched (is_touched l) NaturalHeightFits) (told_trees now (tree_at c.args.tree.now.forest h))) inv.rest done.found));
      others = subst (KeepsOthers 0 a now.natural_heights) g.tree done.others;
    } in
    let few : c.loop-child.total.count + size (Tree h g.children trees) ≤ 4000 = rw g.left at inv.few in
    let more = c.with_kid-total.ensures.count in
    let closed : IsClosed touched (Tree h g.children trees) = subst (IsClosed touched) g.left inv.closed in
    let kid = ap tall_of (kid_told now h c.entry_of-kid.result.now c.entry_of-kid.ensures.told ∙ ap (λ (l : Layout). known_at (box_at l.boxes) l h) rest) in
    let run = c.run_down-run.result in
    let cs = children_of c.args.tree.now.forest c.args.h.0 in
    let total = total_of c.loop-child.total in
    record {
      below = g.is;
      few = omega arith;
      listed = done.listed ∙ inv.listed;
      rest = rest;
      closed = closed.2;
      calm = λ k none. done.calm k (ap (λ (l : Layout). is_touched l k) inv.rest ∙ none) ∙ inv.calm k none;
      gathered =
          gathers_more p tall_of down_kid run was.natural_heights cs a now.natural_heights total (total_of c.with_kid-total.result) h g.children trees g.once first
          (c.with_kid-total.ensures.value h ∙ ap (λ (k : Tall). with_kid run total (down_kid k)) kid)
          (subst (Gathers p tall_of down_kid run was.natural_heights cs a total) g.left inv.gathered);
    }

-- once all below the object are found
module _ (t : ℕ) (c : In-None t) where
  abbrev f : Forest ℕ
  f = c.args.tree.now.forest

  abbrev h : ℕ
  h = c.args.h.0

  abbrev cs : Forest ℕ
  cs = children_of f h

  abbrev was : Layout
  was = told c.args.entries.now

  abbrev touched : ℕ → Bool
  touched = is_touched was

  abbrev p : Pass ℕ
  p = touched_pass touched (heights_pass was)

  abbrev now : List ℕ
  now = (told c.loop-child.entries).natural_heights

  abbrev kids : List Tall
  kids = map tall_of (roots (trees_by p now cs))

  gathered : Gathers p tall_of down_kid c.run_down-run.result was.natural_heights cs now (total_of c.loop-child.total) Empty
  gathered = subst (Gathers p tall_of down_kid c.run_down-run.result was.natural_heights cs now (total_of c.loop-child.total)) c.in-None.ensures.steps.0 c.loop-child.invariant.gathered

  still : AreListed (listing_of c.loop-child.entries) (tree_at f h)
  still k i = subst (λ (ks : Listing). IsListed ks k) (sym c.loop-child.invariant.listed) (c.requires.listed k i)

  still_own : IsListed (listing_of c.loop-child.entries) h
  still_own = still h (own_tree f h c.requires.there)

pub entry_of-own-requires : goal.entry_of-own-requires
entry_of-own-requires t c = still_own t (goal.at.entry_of-own-requires t c).In-None

pub set_natural_height-requires-clause-listed : goal.set_natural_height-requires-clause-listed
set_natural_height-requires-clause-listed t c = still_own t (goal.at.set_natural_height-requires-clause-listed t c).In-None

pub natural_height-natural-requires-clause-listed : goal.natural_height-natural-requires-clause-listed
natural_height-natural-requires-clause-listed t c = still t (goal.at.natural_height-natural-requires-clause-listed t c).In-None

pub natural_height-natural-requires-clause-total : goal.natural_height-natural-requires-clause-total
natural_height-natural-requires-clause-total t c =
    let d = (goal.at.natural_height-natural-requires-clause-total t c).In-None in
    let own : box_of (h t d) c.entry_of-own.result.now.wanted ≡ box_at (was t d).boxes (h t d) = c.entry_of-own.ensures.told.wanted ∙ ap (λ (l : Layout). box_at l.boxes (h t d)) c.loop-child.invariant.rest in
    let course = c.course_of.ensures ∙ ap (λ (b : Box). course_of b.flow) (c.entry_of.ensures.told.wanted ∙ sym own) in
    (gathered t d).sums (now t d) (finds_none (p t d) (now t d))
    ∙ (ap (λ (run : Run). sum_of down_kid run (kids t d)) (c.run_down-run.ensures ∙ ap run_down course)
    ∙ ap (λ (l : Layout). sum_of down_kid (run_down (course_of c.entry_of-own.result.now.wanted.flow)) (tall_kids l (f t d) (h t d))) (sym c.loop-child.invariant.rest))

module _ (t : ℕ) (c : After-set_natural_height t) where
  abbrev d : In-None t
  d = (goal.at.After-set_natural_height t c).In-None

  abbrev n : ℕ
  n = c.natural_height-natural.result

  top : Finds (p t d) (was t d).natural_heights (set (now t d) (h t d) n) (tree_at (f t d) (h t d))
  top =
      let own = box_at (was t d).boxes (h t d) in
      let width = get_or (was t d).widths (h t d) 0 in
      let is : n ≡ natural_height (record own { handle = h t d }) width (kids t d) =
      c.natural_height-natural.ensures.value
      ∙ (ap (λ (l : Layout). natural_height (box_at l.boxes (h t d)) (get_or l.widths (h t d) 0) (tall_kids l (f t d) (h t d))) c.loop-child.invariant.rest
      ∙ ap (λ (b : Box). natural_height b width (kids t d)) (sym (named (was t d).boxes (h t d)))) in
      let fits : NaturalHeightFits ((heights_pass (was t d)).by (set (now t d) (h t d) n) (h t d)) (roots (trees_by (p t d) (now t d) (cs t d))) =
      get_or-set_same (now t d) (h t d) n 0 (told_short natural_height_or c.loop-child.entries (h t d) (still_own t d)) ∙ is in
      let whole = whole_tree (f t d) (h t d) c.children-child-items.ensures.once c.requires.there in
      subst (Finds (p t d) (was t d).natural_heights (set (now t d) (h t d) n)) (sym whole.tree)
      (finds_top (p t d) (was t d).natural_heights (now t d) (h t d) n (cs t d) whole.out (λ is. fits) ((gathered t d).found (now t d) (finds_none (p t d) (now t d))))

  rest : told c.set_natural_height.new.entries ≡ record (was t d) { natural_heights = set (now t d) (h t d) n }
  rest = c.set_natural_height.ensures.set ∙ ap (λ (l : Layout). record l { natural_heights = set (now t d) (h t d) n }) c.loop-child.invariant.rest

pub returns-clause-found : goal.returns-clause-found
returns-clause-found t c =
    let e = (goal.at.returns-clause-found t c).After-set_natural_height in
    subst (λ (l : Layout). EachKids (IfTouched (is_touched (told c.args.entries.now)) NaturalHeightFits) (told_trees l (tree_at c.args.tree.now.forest c.args.h.0))) (sym (rest t e)) (top t e).found

-- the object is touched, so another natural height of it may be written
pub returns-clause-calm : goal.returns-clause-calm
returns-clause-calm t c =
    let e = (goal.at.returns-clause-calm t c).After-set_natural_height in
    let d = (goal.at.returns-clause-calm t c).In-None in
    let is : touched t d (h t d) ≡ true = search rules in
    λ k none. ap (λ (l : Layout). get_or l.natural_heights k 0) (rest t e) ∙ (get_or-set_other (now t d) (h t d) k (n t e) 0 (λ e. false≢true (sym none ∙ (ap (touched t d) e ∙ is))) ∙ c.loop-child.invariant.calm k none)

pub returns-clause-others : goal.returns-clause-others
returns-clause-others t c =
    let e = (goal.at.returns-clause-others t c).After-set_natural_height in
    subst (λ (l : Layout). KeepsOthers 0 (told c.args.entries.now).natural_heights l.natural_heights (tree_at c.args.tree.now.forest c.args.h.0)) (sym (rest t e)) (top t e).others

pub returns-clause-rest : goal.returns-clause-rest
returns-clause-rest t c =
    let e = (goal.at.returns-clause-rest t c).After-set_natural_height in
    rest t e ∙ ap (λ (ns : List ℕ). record (told c.args.entries.now) { natural_heights = ns }) (sym (ap (λ (l : Layout). l.natural_heights) (rest t e)))

-- an object that is not touched
pub is_touched-requires : goal.is_touched-requires
is_touched-requires t c = c.requires.listed c.args.h.0 (own_tree c.args.tree.now.forest c.args.h.0 c.requires.there)

pub returns-then-not-is_touched-clause-found : goal.returns-then-not-is_touched-clause-found
returns-then-not-is_touched-clause-found t c =
    let l = told c.args.entries.now in
    calm_at (is_touched l) c.args.tree.now.forest c.args.h.0 c.requires.there c.requires.closed NaturalHeightFits l (search rules)
