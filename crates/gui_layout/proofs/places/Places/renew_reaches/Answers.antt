use Rattle.std.proofs.Common.{◌≡◌, ◌∙◌, sym, ap, subst, ℕ, Some, true, false}
use Rattle.gui_base.specs.Forest.{Forest, has, parent_of, tree_at}
use Rattle.gui_store.specs.Views.{scene_of}
use Rattle.scene_defs.specs.Scene.{handles_of}
use Rattle.gui_boxes.specs.Around.{IsFlat, IsFlatWithout, ReadsReaches}
use Rattle.gui_boxes.specs.Settled.{Layout}
use Rattle.gui_boxes.specs.Tables.{Listing, AreListed, listing_of, told}
use Rattle.gui_boxes.specs.Views.{box_at}
use Rattle.gui_layout.specs.Tops.{is_over}
use Rattle.gui_layout.proofs.Overs.{flat-stays, if-still, reads-then, still-before}
use Rattle.gui_boxes.proofs.These.{these_kept}
use Rattle.gui_layout.proofs.places.Places.renew_reaches.Goals as goal
use Rattle.gui_layout.proofs.places.Places.renew_reaches.Goals.{After-renew_all_there}

pub renew_around-last-requires-clause-there : goal.renew_around-last-requires-clause-there
renew_around-last-requires-clause-there c u some = subst (λ (g : Forest ℕ). has g u ≡ true) (sym c.tree-tree.ensures.forest) (c.requires.there u some)

pub renew_around-last-requires-clause-listed : goal.renew_around-last-requires-clause-listed
renew_around-last-requires-clause-listed c u q some up =
    let forest = c.tree-tree.ensures.forest in
    subst (λ (g : Forest ℕ). AreListed (listing_of c.args.self.now.entries) (tree_at g q)) (sym forest) (c.requires.above u q some (subst (λ (g : Forest ℕ). parent_of g u ≡ Some q) forest up))

pub renew_around-last-requires-clause-lone : goal.renew_around-last-requires-clause-lone
renew_around-last-requires-clause-lone c h q lone only up =
    let forest = c.tree-tree.ensures.forest in
    subst (λ (g : Forest ℕ). IsFlatWithout g (told c.args.self.now.entries) h.0 q) (sym forest) (c.requires.lone h q lone only (subst (λ (g : Forest ℕ). parent_of g h.0 ≡ Some q) forest up))

pub renew_all_there-requires-clause-listed : goal.renew_all_there-requires-clause-listed
renew_all_there-requires-clause-listed c k some there =
    let forest = c.tree-tree.ensures.forest in
    subst (λ (g : Forest ℕ). AreListed (listing_of c.renew_around-last.new.entries) (tree_at g k)) (sym forest)
    (subst (λ (ks : Listing). AreListed ks (tree_at (handles_of (scene_of c.args.store.now).trees) k)) (sym c.renew_around-last.ensures.listed)
    (c.requires.own k some (subst (λ (g : Forest ℕ). has g k ≡ true) forest there)))

pub renew_all_there-requires-clause-last : goal.renew_all_there-requires-clause-last
renew_all_there-requires-clause-last c =
    let g = c.tree-tree.result.now.forest in
    if-still g (told c.args.self.now.entries) (told c.renew_around-last.new.entries) (told c.renew_around-last.new.entries) c.renew_around-last.result
    (λ k still. ap (λ (l : Layout). (box_at l.boxes k).scrollable) (sym c.renew_around-last.ensures.reads.rest) ∙ still) c.renew_around-last.ensures.last

pub invariant_of-self : goal.invariant_of-self
invariant_of-self c =
    let self = c.args.self.now in
    record {
      kept = these_kept self.limits.objects self.entries c.renew_all_there.new.entries self.listed.items (c.renew_all_there.ensures.listed ∙ c.renew_around-last.ensures.listed) self.kept;
      list_room = self.list_room;
      found_room = self.found_room;
      items_room = self.items_room;
    }

module _ (c : After-renew_all_there) where
  abbrev f : Forest ℕ
  f = handles_of (scene_of c.args.store.now).trees

  abbrev was : Layout
  was = told c.args.self.now.entries

  abbrev mid : Layout
  mid = told c.renew_around-last.new.entries

  abbrev last : Layout
  last = told c.renew_all_there.new.entries

  first : ReadsReaches f was mid
  first = subst (λ (g : Forest ℕ). ReadsReaches g was mid) c.tree-tree.ensures.forest c.renew_around-last.ensures.reads

  later : ReadsReaches f mid last
  later = subst (λ (g : Forest ℕ). ReadsReaches g mid last) c.tree-tree.ensures.forest c.renew_all_there.ensures.reads

pub returns-clause-reads : goal.returns-clause-reads
returns-clause-reads c =
    let d = (goal.at.returns-clause-reads c).After-renew_all_there in
    reads-then (f d) (was d) (mid d) (last d) (first d) (later d)

pub returns-clause-above : goal.returns-clause-above
returns-clause-above c u q some up still =
    let d = (goal.at.returns-clause-above c).After-renew_all_there in
    let forest = c.tree-tree.ensures.forest in
    flat-stays (f d) (mid d) (last d) q (later d)
    (subst (λ (g : Forest ℕ). IsFlat g (mid d) q) forest (c.renew_around-last.ensures.own u q some (subst (λ (g : Forest ℕ). parent_of g u ≡ Some q) (sym forest) up) still))

pub returns-clause-own : goal.returns-clause-own
returns-clause-own c k some there still =
    let d = (goal.at.returns-clause-own c).After-renew_all_there in
    let forest = c.tree-tree.ensures.forest in
    subst (λ (g : Forest ℕ). IsFlat g (last d) k) forest
    (c.renew_all_there.ensures.own k some (subst (λ (g : Forest ℕ). has g k ≡ true) (sym forest) there) (still-before (f d) (was d) (mid d) k (first d) still))

pub returns-clause-others : goal.returns-clause-others
returns-clause-others c k off none =
    c.renew_all_there.ensures.others k none
    ∙ c.renew_around-last.ensures.others k (subst (λ (g : Forest ℕ). is_over g c.args.tops.now k ≡ false) (sym c.tree-tree.ensures.forest) off)

pub returns-clause-listed : goal.returns-clause-listed
returns-clause-listed c = c.renew_all_there.ensures.listed ∙ c.renew_around-last.ensures.listed
