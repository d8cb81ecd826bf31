use Rattle.std.proofs.Common.{◌≡◌, ◌<◌, ◌∙◌, refl, sym, ap, subst, ℕ, zero, suc, Bool, true, false, None, ◌⊎◌, inl, inr, arith}
use Rattle.std.specs.Prelude.{is_some}
use Rattle.std.proofs.lemmas.Bool.{cases_Bool, both_ways, false≢true, false_from_ne_true}
use Rattle.gui_base.specs.Forest.{Forest, StandsOnce, children_of, has}
use Rattle.gui_tree.proofs.Parts.{distinct_once}
use Rattle.gui_boxes.specs.Frames.{Encloses}
use Rattle.gui_boxes.specs.Touched.{is_touched}
use Rattle.gui_layout.specs.Calm.{IsClosedUp, IsReady}
use Rattle.gui_layout.specs.Marked.{is_root}
use Rattle.gui_layout.specs.Scrolled.{IsScrolledIn}
use Rattle.gui_layout.specs.declared.places.Places.{Places}
use Rattle.gui_layout.proofs.Before.{marked-closed}
use Rattle.gui_layout.proofs.Overs.{kid-parent, root-in, scrolled-same}
use Rattle.gui_layout.proofs.Rescrolled.{no-roots}
use Rattle.gui_pool.specs.Table.{value_at}
use Rattle.gui_store.specs.Views.{scene_of}
use Rattle.layout_defs.specs.OwnHeights.{but_height}
use Rattle.scene_defs.specs.Scene.{Scene, handles_of}
use Rattle.gui_boxes.specs.Listing.{times}
use Rattle.gui_boxes.specs.Pending.{is_pending}
use Rattle.gui_layout.specs.Renewed.{IsRenewed}
use Rattle.gui_boxes.specs.Listing.{SameValue}
use Rattle.gui_layout.specs.Scenes.{scene_box}
use Rattle.gui_boxes.specs.Settled.{Layout, known_at}
use Rattle.gui_layout.specs.Naturals.{naturals_in}
use Rattle.gui_layout.specs.Settles.{known_in}
use Rattle.gui_layout.specs.Solved.{layout_of}
use Rattle.gui_boxes.specs.Tables.{area_in, touched_or}
use Rattle.gui_layout.specs.Tops.{in_trees_at}
use Rattle.gui_layout.proofs.Apart.{naturals-alike, none-of, place-alike}
use Rattle.gui_layout.proofs.Closing.{all-settled, marked-places, marked-sizes, right}
use Rattle.gui_boxes.proofs.Listed.{some_listed, told_at}
use Rattle.gui_layout.proofs.Marking.{all-alike, marked-has}
use Rattle.gui_layout.proofs.Renewals.{some-kept}
use Rattle.gui_layout.specs.SettledBut.{in_marked}
use Rattle.gui_boxes.specs.Scrolls.{scrolled_at}
use Rattle.gui_boxes.specs.Standing.{reported_at}
use Rattle.gui_tree.proofs.Below.{own_tree}
use Rattle.gui_layout.proofs.Readying.{marked-up}
use Rattle.gui_layout.proofs.Spreading.{standing-same}
use Rattle.gui_layout.proofs.Staying.{box-alike, known-alike, reported-alike, scrolled-alike}
use Rattle.gui_layout.proofs.Stepping.{mark-own}
use Rattle.gui_layout.proofs.places.Places.settle_changed.Goals as goal
use Rattle.gui_layout.proofs.places.Places.settle_changed.Goals.{After-enter_marked, After-renew_marked, After-settle_marked}

none-or-some : (n : ℕ) → n ≡ 0 ⊎ 0 < n
none-or-some zero = inl refl
none-or-some (suc n) = inr (omega arith)

-- an object without a mark keeps its entries while others come and go
same : (c : After-enter_marked) (k : ℕ) → has (handles_of (scene_of c.args.store.now).trees) k ≡ true → is_pending c.args.pending.now k ≡ false → SameValue k c.args.self.now.entries c.enter_marked.new.self.entries
same c k there un =
    let here = subst (λ (f : Forest ℕ). has f k ≡ true) (sym c.tree-tree.ensures.forest) there in
    let first = c.leave_gone.ensures.kept k here in
    elim (none-or-some (times c.args.marked.now k)) [
      | inl off ↦ c.enter_marked.ensures.others k there off
      | inr listed ↦ c.enter_marked.ensures.kept k there (ap is_some first ∙ c.requires.entries k listed un)
    ] ∙ first

-- an object has entries where it is marked or had a place
entered : (c : After-enter_marked) (k : ℕ) → has (handles_of (scene_of c.args.store.now).trees) k ≡ true → (is_pending c.args.pending.now k ≡ false → is_some (value_at c.args.self.now.entries k) ≡ true) → is_some (value_at c.enter_marked.new.self.entries k) ≡ true
entered c k there had = elim (cases_Bool (is_pending c.args.pending.now k)) [
  | inl is ↦ c.enter_marked.ensures.own k (c.requires.listed k is) there
  | inr un ↦ ap is_some (same c k there un) ∙ had un
]

-- all above what is listed has entries
above : (c : After-enter_marked) (h k : ℕ) → 0 < times c.args.marked.now h → let f = handles_of (scene_of c.args.store.now).trees in has f h ≡ true → Encloses f k h → has f k ≡ true → is_some (value_at c.enter_marked.new.self.entries k) ≡ true
above c h k some is encloses there = entered c k there (λ un. c.requires.above h k some is encloses there un)

pub renew_marked-requires-clause-entries : goal.renew_marked-requires-clause-entries
renew_marked-requires-clause-entries c = λ k some on there. c.enter_marked.ensures.own k some there

pub renew_marked-requires-clause-above : goal.renew_marked-requires-clause-above
renew_marked-requires-clause-above c h k some is encloses there = above (goal.at.renew_marked-requires-clause-above c).After-enter_marked h k some is encloses there

-- what is not touched is not once others have come and gone
untouched : (c : After-enter_marked) (k : ℕ) → has (handles_of (scene_of c.args.store.now).trees) k ≡ true → is_touched (layout_of c.args.self.now) k ≡ false → is_touched (layout_of c.enter_marked.new.self) k ≡ false
untouched c k there was =
    let here = subst (λ (f : Forest ℕ). has f k ≡ true) (sym c.tree-tree.ensures.forest) there in
    let first : touched_or (value_at c.args.self.now.entries k) ≡ false = sym (told_at touched_or c.args.self.now.entries k) ∙ was in
    told_at touched_or c.enter_marked.new.self.entries k ∙ c.enter_marked.ensures.calm k there (ap touched_or (c.leave_gone.ensures.kept k here) ∙ first)

-- what is known of it is the same, and so is its box
alike : (c : After-renew_marked) (k : ℕ) → has (handles_of (scene_of c.args.store.now).trees) k ≡ true → is_pending c.args.pending.now k ≡ false → known_in c.renew_marked.new.self (scene_of c.args.store.now) k ≡ known_in c.args.self.now (scene_of c.args.store.now) k
alike c k there un =
    let d = (goal.at.After-renew_marked c).After-enter_marked in
    let box = scene_box (scene_of c.args.store.now) in
    ap (λ (l : Layout). known_at box l k) c.renew_marked.ensures.rest
    ∙ known-alike box k c.args.self.now.entries c.enter_marked.new.self.entries (same d k there un)

boxed : (c : After-renew_marked) (k : ℕ) → has (handles_of (scene_of c.args.store.now).trees) k ≡ true → is_pending c.args.pending.now k ≡ false → IsRenewed (scene_of c.args.store.now) (layout_of c.args.self.now).boxes k → IsRenewed (scene_of c.args.store.now) (layout_of c.renew_marked.new.self).boxes k
boxed c k there un was =
    let d = (goal.at.After-renew_marked c).After-enter_marked in
    c.renew_marked.ensures.kept k (ap but_height (box-alike k c.args.self.now.entries c.enter_marked.new.self.entries (same d k there un)) ∙ was)

renewed : (c : After-renew_marked) (k : ℕ) → has (handles_of (scene_of c.args.store.now).trees) k ≡ true → is_pending c.args.pending.now k ≡ true → IsRenewed (scene_of c.args.store.now) (layout_of c.renew_marked.new.self).boxes k
renewed c k there is = c.renew_marked.ensures.own k (c.requires.listed k is) is there

pub settle_marked-requires-clause-entries : goal.settle_marked-requires-clause-entries
settle_marked-requires-clause-entries c k is =
    let d = (goal.at.settle_marked-requires-clause-entries c).After-enter_marked in
    let there = marked-has (is_pending c.args.pending.now) k (handles_of (scene_of c.args.store.now).trees) is in
    some_listed c.renew_marked.new.self.entries k
    (some-kept c.enter_marked.new.self.entries c.renew_marked.new.self.entries k c.renew_marked.ensures.listed
    ∙ entered d k there (λ un. c.requires.but.placed k there is un))

pub settle_marked-requires-clause-boxes : goal.settle_marked-requires-clause-boxes
settle_marked-requires-clause-boxes c k is =
    let d = (goal.at.settle_marked-requires-clause-boxes c).After-renew_marked in
    let there = marked-has (is_pending c.args.pending.now) k (handles_of (scene_of c.args.store.now).trees) is in
    elim (cases_Bool (is_pending c.args.pending.now k)) [
      | inl on ↦ renewed d k there on
      | inr un ↦ boxed d k there un (c.requires.but.boxes k there is un)
    ]

-- all is ready: what is not touched is not listed, and none of its children is pending
module _ (c : After-renew_marked) where
  abbrev d : After-enter_marked
  d = (goal.at.After-renew_marked c).After-enter_marked

  abbrev scene : Scene
  scene = scene_of c.args.store.now

  abbrev f : Forest ℕ
  f = handles_of scene.trees

  abbrev m : ℕ → Bool
  m = is_pending c.args.pending.now

  abbrev s : ℕ → Bool
  s = in_marked m scene

  abbrev mid : Places
  mid = c.renew_marked.new.self

  closed : IsClosedUp f s (is_touched (layout_of mid))
  closed = c.renew_marked.ensures.closed s (λ k p there looked is up. absurd (false≢true (sym (untouched d k there (c.requires.calm k there looked)) ∙ is)))

  touched : (k : ℕ) → has f k ≡ true → m k ≡ true → is_touched (layout_of mid) k ≡ true
  touched k there on = c.renew_marked.ensures.touched k (c.requires.listed k on) there

  unlisted : (k : ℕ) → has f k ≡ true → is_touched (layout_of mid) k ≡ false → times c.args.marked.now k ≡ 0
  unlisted k there none = elim (none-or-some (times c.args.marked.now k)) [
    | inl off ↦ off
    | inr some ↦ absurd (false≢true (sym none ∙ c.renew_marked.ensures.touched k some there))
  ]

  once : StandsOnce f
  once = c.args.store.now.kept.valid.trees.once

  still : (k j : ℕ) → has f k ≡ true → s k ≡ true → is_touched (layout_of mid) k ≡ false → is_root j (children_of f k) ≡ true → m j ≡ false
  still k j there looked none kid =
      let in_f : has f j ≡ true = root-in f j k kid in
      let low : s j ≡ true = marked-closed m k j f (distinct_once f once) looked kid in
      false_from_ne_true (m j) (λ on. false≢true (sym none ∙ closed j k in_f low (touched j in_f on) (kid-parent f None j k (distinct_once f once) kid)))

  scrolled : (k : ℕ) → has f k ≡ true → s k ≡ true → is_touched (layout_of mid) k ≡ false → IsScrolledIn (known_in mid scene) (layout_of mid).scrolls f k
  scrolled k there looked none =
      let off = unlisted k there none in
      let un : m k ≡ false = false_from_ne_true (m k) (λ on. false≢true (sym none ∙ touched k there on)) in
      let kids = still k in
      let was = c.requires.scrolled k there looked off (no-roots m (children_of f k) (λ j kid. kids j there looked none kid)) in
      scrolled-same (known_in c.args.self.now scene) (known_in mid scene) (layout_of c.args.self.now).scrolls (layout_of mid).scrolls f k (alike c k there un) (λ j kid. alike c j (root-in f j k kid) (kids j there looked none kid))
      (ap (λ (l : Layout). scrolled_at l.scrolls k) c.renew_marked.ensures.rest ∙ scrolled-alike k c.args.self.now.entries c.enter_marked.new.self.entries (same d k there un)) was

  ready : IsReady (scene_box scene) (layout_of mid) f s m
  ready = record {
    fit = all-alike s m (known_in c.args.self.now scene) (known_in mid scene) f (λ k there un. alike c k there un) c.requires.but.fit;
    closed = closed;
    marked = touched;
    scrolled = scrolled;
  }

pub settle_marked-requires-clause-ready : goal.settle_marked-requires-clause-ready
settle_marked-requires-clause-ready c = ready (goal.at.settle_marked-requires-clause-ready c).After-renew_marked

-- an object has a place where it has a box
placed : (c : After-settle_marked) (k : ℕ) → is_some (value_at c.settle_marked.new.self.entries k) ≡ is_some (value_at c.enter_marked.new.self.entries k)
placed c k =
    some-kept c.renew_marked.new.self.entries c.settle_marked.new.self.entries k c.settle_marked.ensures.settles.listed
    ∙ some-kept c.enter_marked.new.self.entries c.renew_marked.new.self.entries k c.renew_marked.ensures.listed

-- outside of the trees that are solved none has changed, and what has not changed stands where it stood
pub returns-clause-moves : goal.returns-clause-moves
returns-clause-moves c =
    let e = (goal.at.returns-clause-moves c).After-renew_marked in
    let g = (goal.at.returns-clause-moves c).After-enter_marked in
    let scene = scene_of c.args.store.now in
    let f = handles_of scene.trees in
    let m = is_pending c.args.pending.now in
    let us = c.settle_marked.new.solved.items in
    let old = c.args.self.now in
    let mid = c.renew_marked.new.self in
    let new = c.settle_marked.new.self in
    let solves = c.settle_marked.ensures.solves in
    let whole : (k : ℕ) → has f k ≡ true → m k ≡ true → in_trees_at f us k ≡ true = λ k there is. solves.whole k there is (c.settle_marked.ensures.all k there) in
    record {
      tops = solves.tops;
      whole = whole;
      stays = λ k there out.
          let off : m k ≡ false = false_from_ne_true (m k) (λ on. both_ways (in_trees_at f us k) out (whole k there on)) in
          place-alike k mid new scene (solves.stays k there out) (sym (some-kept mid.entries new.entries k c.settle_marked.ensures.settles.listed))
          ∙ place-alike k old mid scene (alike e k there off) (sym (some-kept c.enter_marked.new.self.entries mid.entries k c.renew_marked.ensures.listed ∙ ap is_some (same g k there off)));
    }

-- and so it is with what is told of how far children are scrolled
pub returns-clause-scrolls : goal.returns-clause-scrolls
returns-clause-scrolls c =
    let e = (goal.at.returns-clause-scrolls c).After-renew_marked in
    let g = (goal.at.returns-clause-scrolls c).After-enter_marked in
    let scene = scene_of c.args.store.now in
    let f = handles_of scene.trees in
    let m = is_pending c.args.pending.now in
    let us = c.settle_marked.new.solved.items in
    let scrolls = c.settle_marked.ensures.scrolls in
    let off : (k : ℕ) → has f k ≡ true → in_trees_at f us k ≡ false → m k ≡ false =
    λ k there out. false_from_ne_true (m k) (λ on. both_ways (in_trees_at f us k) out (c.settle_marked.ensures.solves.whole k there on (c.settle_marked.ensures.all k there))) in
    record {
      scrolled = scrolls.scrolled;
      kept = λ k there out.
          scrolls.kept k there out
          ∙ (ap (λ (l : Layout). scrolled_at l.scrolls k) c.renew_marked.ensures.rest
          ∙ scrolled-alike k c.args.self.now.entries c.enter_marked.new.self.entries (same g k there (off k there out)));
      known = λ k there out. scrolls.known k there out ∙ alike e k there (off k there out);
      steady = scrolls.steady;
      marked = scrolls.marked;
    }

-- and so it is with what is touched
pub returns-clause-spreads : goal.returns-clause-spreads
returns-clause-spreads c =
    let e = (goal.at.returns-clause-spreads c).After-renew_marked in
    let g = (goal.at.returns-clause-spreads c).After-enter_marked in
    let scene = scene_of c.args.store.now in
    let f = handles_of scene.trees in
    let m = is_pending c.args.pending.now in
    let s = in_marked m scene in
    let box = scene_box scene in
    let old = c.args.self.now in
    let entered = c.enter_marked.new.self in
    let mid = c.renew_marked.new.self in
    let new = c.settle_marked.new.self in
    let moves = c.settle_marked.ensures.moves in
    let before : (k : ℕ) → is_touched (layout_of new) k ≡ false → is_touched (layout_of mid) k ≡ false = λ k none. false_from_ne_true (is_touched (layout_of mid) k) (λ is. false≢true (sym none ∙ moves.more k is)) in
    let up : IsClosedUp f s (is_touched (layout_of new)) = moves.closed s (closed e) in
    let first : (k : ℕ) → has f k ≡ true → SameValue k old.entries c.leave_gone.new.self.entries = λ k there. c.leave_gone.ensures.kept k (subst (λ (t : Forest ℕ). has t k ≡ true) (sym c.tree-tree.ensures.forest) there) in
    let told : (k : ℕ) → SameValue k old.entries entered.entries → reported_at (layout_of new).reported k ≡ reported_at (layout_of old).reported k =
    λ k same. ap (λ ss. reported_at ss k) moves.reported ∙ (ap (λ (l : Layout). reported_at l.reported k) c.renew_marked.ensures.rest ∙ reported-alike k old.entries entered.entries same) in
    record {
      over = λ k there off on. elim (cases_Bool (is_touched (layout_of mid) k)) [
        | inl is ↦ inl (c.renew_marked.ensures.over k (untouched g k there off) is)
        | inr none ↦ inr (moves.inside k none on)
      ];
      still = λ k there none.
          let off : m k ≡ false = false_from_ne_true (m k) (λ on. false≢true (sym (before k none) ∙ touched e k there on)) in
          standing-same box (layout_of mid) (layout_of new) k (moves.known k none) (moves.scrolls k none)
          ∙ standing-same box (layout_of old) (layout_of mid) k (alike e k there off) (ap (λ (l : Layout). scrolled_at l.scrolls k) c.renew_marked.ensures.rest ∙ scrolled-alike k old.entries entered.entries (same g k there off));
      reported = λ k there had. told k (c.enter_marked.ensures.kept k there (ap is_some (first k there) ∙ had) ∙ first k there);
      unlisted = λ k there off. told k (c.enter_marked.ensures.others k there off ∙ first k there);
      closed = record { looked = s; inside = moves.looked; higher = λ k p there looked parent. marked-up m k p f (distinct_once f (once e)) there looked parent; closed = up };
      listed = λ k some there. moves.more k (c.renew_marked.ensures.touched k some there);
      above = λ u q some parent.
          let there = c.settle_marked.ensures.solves.tops u some in
          up u q there (moves.looked u u some (own_tree f u there)) (moves.tops u some) parent;
      inside = moves.looked;
    }

pub returns-clause-settles : goal.returns-clause-settles
returns-clause-settles c =
    let d = (goal.at.returns-clause-settles c).After-settle_marked in
    let e = (goal.at.returns-clause-settles c).After-renew_marked in
    let g = (goal.at.returns-clause-settles c).After-enter_marked in
    let scene = scene_of c.args.store.now in
    let f = handles_of scene.trees in
    let m = is_pending c.args.pending.now in
    let n = is_pending c.settle_marked.new.pending in
    let old = c.args.self.now in
    let mid = c.renew_marked.new.self in
    let new = c.settle_marked.new.self in
    let valid = c.tree-tree.ensures.valid in
    let settles = c.settle_marked.ensures.settles in
    let stands : (k : ℕ) → has f k ≡ true → (m k ≡ false → is_some (value_at old.entries k) ≡ true) → is_some (value_at new.entries k) ≡ true = λ k is had. placed d k ∙ entered g k is had in
    let gone : (k : ℕ) → has f k ≡ false → is_some (value_at c.leave_gone.new.self.entries k) ≡ false → is_some (value_at new.entries k) ≡ false =
    λ k out none. placed d k ∙ c.enter_marked.ensures.none k out none in
    let now = right scene old mid new m n (alike e) (boxed e) (renewed e) stands settles c.settle_marked.ensures.all (in_marked m scene) c.requires.but in
    let un : (k : ℕ) → has f k ≡ true → in_marked m scene k ≡ false → m k ≡ false = λ k is out. false_from_ne_true (m k) (λ on. both_ways (in_marked m scene k) out (mark-own m k f on is)) in
    let standing : (k : ℕ) → is_some (value_at mid.entries k) ≡ is_some (value_at new.entries k) = λ k. sym (some-kept mid.entries new.entries k settles.listed) in
    let stood : (k : ℕ) → has f k ≡ true → m k ≡ false → is_some (value_at old.entries k) ≡ is_some (value_at mid.entries k) =
    λ k is off. sym (some-kept c.enter_marked.new.self.entries mid.entries k c.renew_marked.ensures.listed ∙ ap is_some (same g k is off)) in
    record {
      solved = marked-places scene new m now valid;
      gone = λ k is out.
          none-of area_in (value_at new.entries k) (gone k out (c.leave_gone.ensures.gone k (c.requires.listed k is) (subst (λ (t : Forest ℕ). has t k ≡ false) (sym c.tree-tree.ensures.forest) out)));
      others = λ k is out. place-alike k mid new scene (settles.others k is out) (standing k) ∙ place-alike k old mid scene (alike e k is (un k is out)) (stood k is (un k is out));
      naturals = marked-sizes scene new m now valid;
      gone_naturals = λ k is out.
          none-of naturals_in (value_at new.entries k) (gone k out (c.leave_gone.ensures.gone k (c.requires.listed k is) (subst (λ (t : Forest ℕ). has t k ≡ false) (sym c.tree-tree.ensures.forest) out)));
      other_naturals = λ k is out. naturals-alike k mid new scene (settles.others k is out) (standing k) ∙ naturals-alike k old mid scene (alike e k is (un k is out)) (stood k is (un k is out));
      other_scrolls = λ k is out.
          settles.scrolls k is out
          ∙ (ap (λ (l : Layout). scrolled_at l.scrolls k) c.renew_marked.ensures.rest
          ∙ scrolled-alike k old.entries c.enter_marked.new.self.entries (same g k is (un k is out)));
      right = λ s was. right scene old mid new m n (alike e) (boxed e) (renewed e) stands settles c.settle_marked.ensures.all s was;
      settled = λ was.
          let some : (k : ℕ) → is_some (value_at new.entries k) ≡ has f k =
          λ k. elim (cases_Bool (has f k)) [
            | inl is ↦ stands k is (λ un. was.there k un ∙ is) ∙ sym is
            | inr out ↦ elim (cases_Bool (m k)) [
              | inl on ↦ gone k out (c.leave_gone.ensures.gone k (c.requires.listed k on) (subst (λ (t : Forest ℕ). has t k ≡ false) (sym c.tree-tree.ensures.forest) out)) ∙ sym out
              | inr un ↦ gone k out (c.leave_gone.ensures.none k (was.there k un ∙ out)) ∙ sym out
            ]
          ] in
          all-settled scene old mid new m n (alike e) (boxed e) (renewed e) stands settles c.settle_marked.ensures.all valid was.right some;
    }
