use Rattle.gui_store.proofs.Common.{rules, ◌≡◌, first_scene, Parts, scene_in, AreKept}
use Rattle.gui_base.specs.Bounded.{bounds_of}
use Rattle.gui_base.proofs.Bounds.{limits_gridded}
use Rattle.scene_defs.specs.Valid.{gridded}
use Rattle.gui_store.proofs.Edits.{first-kept}
use Rattle.gui_store.proofs.store.Store.open.Goals as goal
use Rattle.gui_store.proofs.store.Store.open.Goals.{After-insert_new-3}

abbrev parts : (c : After-insert_new-3) → Parts
parts c = record { tree = c.in_ok-tree.tree; rows = c.insert_new-3.new.self.rows; spare_texts = c.insert_new-3.new.self.spare_texts; styles = c.in_ok-styles.styles; fonts = c.in_ok-fonts.fonts; images = c.in_ok-images.images; active = 3; limits = bounds_of c.args.limits.now }

opened : (c : After-insert_new-3) → AreKept (parts c) × (scene_in (parts c) ≡ first_scene (bounds_of c.args.limits.now))
opened c =
    let t = c.in-Ok.ensures in
    rw (c.insert_new-3.ensures, c.insert_new-2.ensures, c.insert_new.ensures)
    (first-kept c.in_ok-tree.tree (bounds_of c.args.limits.now) c.args.limits.now.scene.least_objects (gridded (limits_gridded c.args.limits.now)) c.in_ok-tree.ensures
    c.in-Ok.rows.rows c.in-Ok.rows.spare_texts t.handles t.empty t.spare t.spare_texts c.in_ok-styles.styles (search (rules, c.in_ok-styles.ensures)) c.in_ok-fonts.fonts c.in_ok-images.images c.in_ok-fonts.ensures c.in_ok-images.ensures)

pub invariant_of-result : goal.invariant_of-result
invariant_of-result c = record { kept = (opened (goal.at.invariant_of-result c).After-insert_new-3).0 }

pub returns-clause-scene : goal.returns-clause-scene
returns-clause-scene c = (opened (goal.at.returns-clause-scene c).After-insert_new-3).1
