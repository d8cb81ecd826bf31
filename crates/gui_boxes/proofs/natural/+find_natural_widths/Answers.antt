use Rattle.std.proofs.Common.{◌≡◌, ◌≤◌, ◌+◌, ◌∙◌, refl, sym, ap, subst, ℕ, Bool, true, get_or, List, map, set, arith, rules}
use Rattle.std.proofs.lemmas.List.{get_or-set_same, get_or-set_other}
use Rattle.std.proofs.lemmas.Bool.{false≢true}
use Rattle.gui_base.specs.Forest.{Forest, Empty, Tree, children_of, roots, size, tree_at}
use Rattle.gui_tree.proofs.Below.{begins_below, steps_below, whole_tree, own_tree}
use Rattle.gui_boxes.proofs.Listed.{told_short}
use Rattle.gui_boxes.specs.Kids.{told_trees}
use Rattle.gui_boxes.specs.Settled.{Layout, EachKids, NaturalWidthFits, known_at, wide_of}
use Rattle.gui_boxes.specs.Tables.{Listing, IsListed, listing_of, natural_width_or, told, AreListed}
use Rattle.gui_boxes.specs.Views.{box_at, box_of}
use Rattle.layout_defs.specs.Boxes.{Box, course_of}
use Rattle.layout_defs.specs.Solving.{Wide, natural_width}
use Rattle.layout_defs.specs.Tables.{KeepsOthers}
use Rattle.gui_boxes.specs.declared.measuring.Run.{Run}
use Rattle.gui_boxes.specs.Totals.{Sum, total_of, run_across, across_kid, with_kid, sum_of}
use Rattle.gui_boxes.proofs.Kids.{named, kid_told}
use Rattle.gui_boxes.proofs.Passes.{Pass, Finds, finds_none, finds_top, Gathers, gathers_none, gathers_more, trees_by, naturals_pass}
use Rattle.gui_boxes.specs.Touched.{is_touched, IfTouched, IsClosed}
use Rattle.gui_boxes.proofs.Touched.{touched_pass, calm_at, closed_kids}
use Rattle.gui_boxes.proofs.natural.+find_natural_widths.Goals as goal
use Rattle.gui_boxes.proofs.natural.+find_natural_widths.Goals.{In-None, After-set_natural_width}

pub loop-child-init : goal.loop-child-init
loop-child-init t c =
    let f = c.args.tree.now.forest in
    let was = told c.args.entries.now in
    let begins = begins_below f c.args.h.0 _ (c.into_iter-child-iterator.ensures.into_iter_gives ∙ c.children-child-items.ensures.walk) in
    let few = begins.few in
    let most = c.requires.few in
    let none : c.no_kids-total.result.count ≡ 0 = ap (λ (s : Sum). s.count) c.no_kids-total.ensures in
    record {
      below = begins.is;
      listed = refl;
      rest = refl;
      few = omega arith;
      closed = rw begins.all (closed_kids (is_touched was) f c.args.h.0 c.requires.there c.requires.closed);
      calm = λ k none. refl;
      gathered = rw begins.all (gathers_none (touched_pass (is_touched was) (naturals_pass was)) wide_of across_kid c.run_across-run.result was.natural_widths (children_of f c.args.h.0) (total_of c.no_kids-total.result) c.no_kids-total.ensures);
    }

pub find_natural_widths-requires : goal.find_natural_widths-requires
find_natural_widths-requires t c =
    let inv = c.loop-child.invariant in
    let was = told c.args.entries.now in
    let f = c.args.tree.now.forest in
    let g = steps_below f c.args.h.0 _ _ _ inv.below c.in-Some.ensures.steps in
    let fewer = g.fewer in
    let listed : AreListed (listing_of c.loop-child.entries) (tree_at f c.in-Some.child.0) = λ k i. subst (λ (ks : Listing). IsListed ks k) (sym inv.listed) (c.requires.listed k (g.inside k i)) in
    let closed : IsClosed (is_touched was) (Tree c.in-Some.child.0 g.children c.next.new.self.left) = subst (IsClosed (is_touched was)) g.left inv.closed in
    let first : IsClosed (is_touched (told c.loop-child.entries)) (tree_at f c.in-Some.child.0) =
    subst (λ (l : Layout). IsClosed (is_touched l) (tree_at f c.in-Some.child.0)) (sym inv.rest) (subst (IsClosed (is_touched was)) (sym g.tree) (closed.0, closed.1, tt)) in
    (search rules, (listed, (c.requires.few, (g.there, first))))

pub entry_of-requires : goal.entry_of-requires
entry_of-requires t c = c.requires.listed c.args.h.0 (own_tree c.args.tree.now.forest c.args.h.0 c.requires.there)

-- the child has an entry still
pub entry_of-kid-requires : goal.entry_of-kid-requires
entry_of-kid-requires t c =
    let inv = c.loop-child.invariant in
    let g = steps_below c.args.tree.now.forest c.args.h.0 _ _ _ inv.below c.in-Some.ensures.steps in
    subst (λ (ks : Listing). IsListed ks c.in-Some.child.0) (sym (c.find_natural_widths.ensures.listed ∙ inv.listed)) (c.requires.listed c.in-Some.child.0 g.own)

-- each child before this one has added one at most
pub with_kid-total-requires : goal.with_kid-total-requires
with_kid-total-requires t c =
    let inv = c.loop-child.invariant in
    let g = steps_below c.args.tree.now.forest c.args.h.0 _ _ _ inv.below c.in-Some.ensures.steps in
    let few : c.loop-child.total.count + size (Tree c.in-Some.child.0 g.children c.next.new.self.left) ≤ 4000 = rw g.left at inv.few in
    record { count = omega arith }

pub loop-child-preserved : goal.loop-child-preserved
loop-child-preserved t c =
    let inv = c.loop-child.invariant in
    let was = told c.args.entries.now in
    let touched = is_touched was in
    let p = touched_pass touched (naturals_pass was) in
    let g = steps_below c.args.tree.now.forest c.args.h.0 _ _ _ inv.below c.in-Some.ensures.steps in
    let h = c.in-Some.child.0 in
    let trees = c.next.new.self.left in
    let done = c.find_natural_widths.ensures in
    let a = (told c.loop-child.entries).natural_widths in
    let now = told c.find_natural_widths.new.entries in
    let rest : now ≡ record was { natural_widths = now.natural_widths } = done.rest ∙ ap (λ (l : Layout). record l { natural_widths = now.natural_widths }) inv.rest in
    let first : Finds p a now.natural_widths (Tree h g.children Empty) = record {
      found =
          subst (λ (l : Layout). EachKids (IfTouched touched NaturalWidthFits) (told_trees l (Tree h g.children Empty))) rest
          (subst (λ (t : Forest ℕ). EachKids (IfTouched touched NaturalWidthFits) (told_trees now t)) g.tree (subst (λ (l : Layout). EachKids (IfTouched (is_touched l) NaturalWidthFits) (told_trees now (tree_at c.args.tree.now.forest h))) inv.rest done.found));
      others = subst (KeepsOthers 0 a now.natural_widths) g.tree done.others;
    } in
    let few : c.loop-child.total.count + size (Tree h g.children trees) ≤ 4000 = rw g.left at inv.few in
    let more = c.with_kid-total.ensures.count in
    let closed : IsClosed touched (Tree h g.children trees) = subst (IsClosed touched) g.left inv.closed in
    let kid = ap wide_of (kid_told now h c.entry_of-kid.result.now c.entry_of-kid.ensures.told ∙ ap (λ (l : Layout). known_at (box_at l.boxes) l h) rest) in
    let run = c.run_across-run.result in
    let cs = children_of c.args.tree.now.forest c.args.h.0 in
    let total = total_of c.loop-child.total in
    record {
      below = g.is;
      listed = done.listed ∙ inv.listed;
      rest = rest;
      few = omega arith;
      closed = closed.2;
      calm = λ k none. done.calm k (ap (λ (l : Layout). is_touched l k) inv.rest ∙ none) ∙ inv.calm k none;
      gathered =
          gathers_more p wide_of across_kid run was.natural_widths cs a now.natural_widths total (total_of c.with_kid-total.result) h g.children trees g.once first
          (c.with_kid-total.ensures.value h ∙ ap (λ (k : Wide). with_kid run total (across_kid k)) kid)
          (subst (Gathers p wide_of across_kid run was.natural_widths cs a total) g.left inv.gathered);
    }

still : (t : ℕ) (c : In-None t) → IsListed (listing_of c.loop-child.entries) c.args.h.0
still t c = subst (λ (ks : Listing). IsListed ks c.args.h.0) (sym c.loop-child.invariant.listed) (c.requires.listed c.args.h.0 (own_tree c.args.tree.now.forest c.args.h.0 c.requires.there))

pub entry_of-own-requires : goal.entry_of-own-requires
entry_of-own-requires t c = still t (goal.at.entry_of-own-requires t c).In-None

pub set_natural_width-requires-clause-listed : goal.set_natural_width-requires-clause-listed
set_natural_width-requires-clause-listed t c = still t (goal.at.set_natural_width-requires-clause-listed t c).In-None

-- once all below the object are found
module _ (t : ℕ) (c : After-set_natural_width t) where
  abbrev f : Forest ℕ
  f = c.args.tree.now.forest

  abbrev h : ℕ
  h = c.args.h.0

  abbrev cs : Forest ℕ
  cs = children_of f h

  abbrev was : Layout
  was = told c.args.entries.now

  abbrev touched : ℕ → Bool
  touched = is_touched was

  abbrev p : Pass ℕ
  p = touched_pass touched (naturals_pass was)

  abbrev now : List ℕ
  now = (told c.loop-child.entries).natural_widths

  abbrev n : ℕ
  n = c.natural_width-natural.result

  gathered : Gathers p wide_of across_kid c.run_across-run.result was.natural_widths cs now (total_of c.loop-child.total) Empty
  gathered = subst (Gathers p wide_of across_kid c.run_across-run.result was.natural_widths cs now (total_of c.loop-child.total)) c.in-None.ensures.steps.0 c.loop-child.invariant.gathered

  fits : NaturalWidthFits ((naturals_pass was).by (set now h n) h) (roots (trees_by p now cs))
  fits =
      let kids = map wide_of (roots (trees_by p now cs)) in
      let own : box_of h c.entry_of-own.result.now.wanted ≡ box_at was.boxes h = c.entry_of-own.ensures.told.wanted ∙ ap (λ (l : Layout). box_at l.boxes h) c.loop-child.invariant.rest in
      let course = c.course_of.ensures ∙ ap (λ (b : Box). course_of b.flow) (c.entry_of.ensures.told.wanted ∙ sym own) in
      let total = gathered.sums now (finds_none p now) ∙ ap (λ (run : Run). sum_of across_kid run kids) (c.run_across-run.ensures ∙ ap run_across course) in
      get_or-set_same now h n 0 (told_short natural_width_or c.loop-child.entries h (still t (goal.at.After-set_natural_width t c).In-None))
      ∙ (c.natural_width-natural.ensures.value h kids total ∙ ap (λ (b : Box). natural_width b kids) (own ∙ sym (named was.boxes h)))

  top : Finds p was.natural_widths (set now h n) (tree_at f h)
  top =
      let whole = whole_tree f h c.children-child-items.ensures.once c.requires.there in
      subst (Finds p was.natural_widths (set now h n)) (sym whole.tree) (finds_top p was.natural_widths now h n cs whole.out (λ is. fits) (gathered.found now (finds_none p now)))

  rest : told c.set_natural_width.new.entries ≡ record was { natural_widths = set now h n }
  rest = c.set_natural_width.ensures.set ∙ ap (λ (l : Layout). record l { natural_widths = set now h n }) c.loop-child.invariant.rest

pub returns-clause-found : goal.returns-clause-found
returns-clause-found t c =
    let d = (goal.at.returns-clause-found t c).After-set_natural_width in
    subst (λ (l : Layout). EachKids (IfTouched (touched t d) NaturalWidthFits) (told_trees l (tree_at (f t d) (h t d)))) (sym (rest t d)) (top t d).found

-- the object is touched, so another natural width of it may be written
pub returns-clause-calm : goal.returns-clause-calm
returns-clause-calm t c =
    let d = (goal.at.returns-clause-calm t c).After-set_natural_width in
    let is : touched t d (h t d) ≡ true = search rules in
    λ k none. ap (λ (l : Layout). get_or l.natural_widths k 0) (rest t d) ∙ (get_or-set_other (now t d) (h t d) k (n t d) 0 (λ e. false≢true (sym none ∙ (ap (touched t d) e ∙ is))) ∙ c.loop-child.invariant.calm k none)

pub returns-clause-others : goal.returns-clause-others
returns-clause-others t c =
    let d = (goal.at.returns-clause-others t c).After-set_natural_width in
    subst (λ (l : Layout). KeepsOthers 0 (was t d).natural_widths l.natural_widths (tree_at (f t d) (h t d))) (sym (rest t d)) (top t d).others

pub returns-clause-rest : goal.returns-clause-rest
returns-clause-rest t c =
    let d = (goal.at.returns-clause-rest t c).After-set_natural_width in
    rest t d ∙ ap (λ (ns : List ℕ). record (was t d) { natural_widths = ns }) (sym (ap (λ (l : Layout). l.natural_widths) (rest t d)))

-- an object that is not touched
pub is_touched-requires : goal.is_touched-requires
is_touched-requires t c = c.requires.listed c.args.h.0 (own_tree c.args.tree.now.forest c.args.h.0 c.requires.there)

pub returns-then-not-is_touched-clause-found : goal.returns-then-not-is_touched-clause-found
returns-then-not-is_touched-clause-found t c =
    let l = told c.args.entries.now in
    calm_at (is_touched l) c.args.tree.now.forest c.args.h.0 c.requires.there c.requires.closed NaturalWidthFits l (search rules)
