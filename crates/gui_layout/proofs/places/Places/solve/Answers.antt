use Rattle.std.proofs.Common.{◌≡◌, ◌<◌, ◌≤◌, ◌∙◌, ap, sym, subst, ℕ, true, List, arith}
use Rattle.std.specs.Prelude.{is_some}
use Rattle.gui_base.specs.Forest.{Forest, has, size}
use Rattle.gui_base.specs.declared.Handle.{Handle}
use Rattle.gui_base.specs.Limits.{Bounds}
use Rattle.scene_defs.specs.Scene.{Scene, handles_of}
use Rattle.gui_store.specs.Views.{scene_of}
use Rattle.gui_pool.specs.Table.{value_at}
use Rattle.gui_boxes.specs.Listing.{times}
use Rattle.gui_boxes.specs.Settled.{Layout, known, known_at, IsSettled}
use Rattle.gui_boxes.specs.Tables.{listing_of, IsListed, Listing, told}
use Rattle.gui_layout.specs.Scenes.{HoldsBoxes, scene_box}
use Rattle.gui_layout.specs.Scrolled.{IsScrolledIn}
use Rattle.gui_boxes.specs.Scrolls.{HoldsScrolls}
use Rattle.gui_layout.proofs.Alike.{all-scrolled}
use Rattle.gui_tree.proofs.Parts.{distinct_once}
use Rattle.gui_layout.proofs.ReachSizes.{all-reached}
use Rattle.gui_layout.proofs.Entering.{few, flat, all_placed}
use Rattle.gui_layout.proofs.NaturalSizes.{all-naturals}
use Rattle.gui_boxes.proofs.Fitting.{settled_placed}
use Rattle.gui_boxes.proofs.Listed.{listed_some, some_listed}
use Rattle.gui_boxes.proofs.These.{are_listed, count-some, these_kept, has_value, some-count}
use Rattle.gui_layout.proofs.places.Places.solve.Goals as goal
use Rattle.gui_layout.proofs.places.Places.solve.Goals.{After-rest_all, After-touch_all}

pub solve_trees-requires-clause-few : goal.solve_trees-requires-clause-few
solve_trees-requires-clause-few c =
    let scene = scene_of c.args.store.now in
    let fits : size (handles_of scene.trees) ≤ scene.limits.objects = few scene c.tree.ensures.valid in
    let objects : c.args.self.now.limits.objects ≡ scene.limits.objects = ap (λ (b : Bounds). b.objects) c.requires.limits in
    let most = c.args.self.now.limits.scene.most_objects in
    rw c.tree.ensures.forest (omega arith)

pub solve_trees-requires-clause-low : goal.solve_trees-requires-clause-low
solve_trees-requires-clause-low c = let low = flat (scene_of c.args.store.now) c.tree.ensures.valid in rw c.tree.ensures.forest (omega arith)

pub solve_trees-requires-clause-enough : goal.solve_trees-requires-clause-enough
solve_trees-requires-clause-enough c =
    let scene = scene_of c.args.store.now in
    let fits : size (handles_of scene.trees) ≤ scene.limits.objects = few scene c.tree.ensures.valid in
    let objects : c.args.self.now.limits.objects ≡ scene.limits.objects = ap (λ (b : Bounds). b.objects) c.requires.limits in
    let room = c.args.self.now.items_room in
    let long = c.as_mut_slice.ensures.len in
    rw c.tree.ensures.forest (omega arith)

-- what is listed has an entry, and the objects of the store are listed
has-entry : (c : After-touch_all) (k : ℕ) → 0 < times c.as_slice-listed.result.now k → IsListed (listing_of c.args.self.now.entries) k
has-entry c k some =
    let self = c.args.self.now in
    some_listed self.entries k (count-some self.entries k (subst (λ n. 0 < n) (sym (self.kept.each k)) (subst (λ (hs : List Handle). 0 < times hs k) c.as_slice-listed.ensures.value some)))

entries-there : (c : After-touch_all) (k : ℕ) → has (handles_of (scene_of c.args.store.now).trees) k ≡ true → IsListed (listing_of c.args.self.now.entries) k
entries-there c k there = let self = c.args.self.now in are_listed self.listed.items _ c.requires.listed self.limits.objects self.entries self.kept k there

listed-there : (c : After-touch_all) (k : ℕ) → has (handles_of (scene_of c.args.store.now).trees) k ≡ true → 0 < times c.as_slice-listed.result.now k
listed-there c k there =
    let self = c.args.self.now in
    let some : 0 < times self.listed.items k = subst (λ n. 0 < n) (self.kept.each k) (some-count self.entries k (listed_some self.entries k (entries-there c k there))) in
    subst (λ (hs : List Handle). 0 < times hs k) (sym c.as_slice-listed.ensures.value) some

pub touch_all-requires : goal.touch_all-requires
touch_all-requires c k some =
    let self = c.args.self.now in
    some_listed self.entries k (count-some self.entries k (subst (λ n. 0 < n) (sym (self.kept.each k)) (subst (λ (hs : List Handle). 0 < times hs k) c.as_slice-listed.ensures.value some)))

pub solve_trees-requires-clause-boxes : goal.solve_trees-requires-clause-boxes
solve_trees-requires-clause-boxes c = subst (λ (l : Layout). HoldsBoxes l.boxes (scene_of c.args.store.now)) (sym c.touch_all.ensures.rest) c.requires.boxes

pub solve_trees-requires-clause-listed : goal.solve_trees-requires-clause-listed
solve_trees-requires-clause-listed c k there =
    let d = (goal.at.solve_trees-requires-clause-listed c).After-touch_all in
    subst (λ (ks : Listing). IsListed ks k) (sym c.touch_all.ensures.listed) (entries-there d k (subst (λ (f : Forest ℕ). has f k ≡ true) c.tree.ensures.forest there))

pub solve_trees-requires-clause-touched : goal.solve_trees-requires-clause-touched
solve_trees-requires-clause-touched c k there =
    let d = (goal.at.solve_trees-requires-clause-touched c).After-touch_all in
    c.touch_all.ensures.own k (listed-there d k (subst (λ (f : Forest ℕ). has f k ≡ true) c.tree.ensures.forest there))

pub rest_all-requires : goal.rest_all-requires
rest_all-requires c k some =
    let d = (goal.at.rest_all-requires c).After-touch_all in
    subst (λ (ks : Listing). IsListed ks k) (sym (c.solve_trees.ensures.listed ∙ c.touch_all.ensures.listed)) (has-entry d k some)

pub invariant_of-self : goal.invariant_of-self
invariant_of-self c =
    let self = c.args.self.now in
    record {
      kept = these_kept self.limits.objects self.entries c.rest_all.new.entries self.listed.items (c.rest_all.ensures.listed ∙ (c.solve_trees.ensures.listed ∙ c.touch_all.ensures.listed)) self.kept;
      list_room = self.list_room;
      found_room = self.found_room;
      items_room = self.items_room;
    }

module _ (c : After-rest_all) where
  abbrev scene : Scene
  scene = scene_of c.args.store.now

  abbrev f : Forest ℕ
  f = handles_of scene.trees

  abbrev last : Layout
  last = told c.rest_all.new.entries

  back : record (told c.solve_trees.new.entries) { touched = last.touched; reported = last.reported } ≡ last
  back = sym c.rest_all.ensures.rest

  settled : IsSettled scene.limits.width scene.limits.height (known (scene_box scene) last f)
  settled =
      let self = c.args.self.now in
      let wide : self.limits.width ≡ scene.limits.width = ap (λ (b : Bounds). b.width) c.requires.limits in
      let high : self.limits.height ≡ scene.limits.height = ap (λ (b : Bounds). b.height) c.requires.limits in
      let was : IsSettled scene.limits.width scene.limits.height (known (scene_box scene) (told c.solve_trees.new.entries) f) = rw (← wide, ← high, ← c.tree.ensures.forest) c.solve_trees.ensures.settled in
      subst (λ (l : Layout). IsSettled scene.limits.width scene.limits.height (known (scene_box scene) l f)) back was

  scrolled : (k : ℕ) → has f k ≡ true → IsScrolledIn (known_at (scene_box scene) last) last.scrolls f k
  scrolled k there =
      let l = told c.solve_trees.new.entries in
      let was : IsScrolledIn (known_at (scene_box scene) l) l.scrolls f k =
      all-scrolled (scene_box scene) l f k (distinct_once f c.tree.ensures.valid.trees.once) (subst (HoldsScrolls (scene_box scene) l.widths l.natural_heights l.slots l.scrolls) c.tree.ensures.forest c.solve_trees.ensures.scrolled) there in
      subst (λ (m : Layout). IsScrolledIn (known_at (scene_box scene) m) m.scrolls f k) back was

  some : (h : ℕ) → is_some (value_at c.rest_all.new.entries h) ≡ has f h
  some =
      let self = c.args.self.now in
      has_value self.listed.items f c.requires.listed self.limits.objects c.rest_all.new.entries
      (these_kept self.limits.objects self.entries c.rest_all.new.entries self.listed.items (c.rest_all.ensures.listed ∙ (c.solve_trees.ensures.listed ∙ c.touch_all.ensures.listed)) self.kept)

pub returns-clause-settled : goal.returns-clause-settled
returns-clause-settled c =
    let d = (goal.at.returns-clause-settled c).After-rest_all in
    let g = (goal.at.returns-clause-settled c).After-touch_all in
    let t = c.rest_all.new.entries in
    record {
      boxes = subst (λ (l : Layout). HoldsBoxes l.boxes (scene d)) (back d) c.solve_trees.ensures.boxes;
      settled = settled d;
      there = some d;
      solved = all_placed (scene d) c.tree.ensures.valid t (some d) (settled_placed (scene_box (scene d)) (told t) (scene d).limits.width (scene d).limits.height (f d) (settled d));
      scrolled = scrolled d;
      reached =
          let shown = all-reached (scene d) c.tree.ensures.valid t (settled d) (scrolled d) (some d) in
          record { reaches = λ h. (shown h).reaches; offsets = λ h. (shown h).offsets };
      naturals = all-naturals (scene d) c.tree.ensures.valid t (settled d) (some d);
      calm = λ h there. c.rest_all.ensures.own h (listed-there g h there);
    }

pub returns-clause-naturals : goal.returns-clause-naturals
returns-clause-naturals c =
    let d = (goal.at.returns-clause-naturals c).After-rest_all in
    all-naturals (scene_of c.args.store.now) c.tree.ensures.valid c.rest_all.new.entries (settled d) (some d)
