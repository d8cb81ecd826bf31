use Rattle.std.proofs.Common.{◌≡◌, ◌<◌, ℕ, true, length, rules}
use Rattle.gui_base.specs.Forest.{has, path_of}
use Rattle.gui_boxes.specs.Frames.{Encloses}
use Rattle.gui_boxes.specs.Tables.{IsListed, listing_of}
use Rattle.gui_layout.proofs.Climbing.{is_above}
use Rattle.gui_layout.proofs.places.Places.+frame_of.Goals as goal

pub steady_inside-requires : goal.steady_inside-requires
steady_inside-requires t c =
    let up = is_above c.args.tree.now.forest c.args.h.0 c.in-Some.parent c.requires.once c.requires.there c.in-Some.ensures in
    c.requires.listed c.in-Some.parent.0 up.encloses up.there

pub frame_of-requires : goal.frame_of-requires
frame_of-requires t c =
    let f = c.args.tree.now.forest in
    let up = is_above f c.args.h.0 c.in-Some.parent c.requires.once c.requires.there c.in-Some.ensures in
    let higher : length (path_of f c.in-Some.parent.0) < length (path_of f c.args.h.0) = up.higher in
    let listed : (k : ℕ) → Encloses f k c.in-Some.parent.0 → has f k ≡ true → IsListed (listing_of c.args.self.now.entries) k = λ k encloses there. c.requires.listed k (λ j i. encloses j (up.encloses j i)) there in
    (search rules, (c.requires.once, (up.there, listed)))

pub returns-in-None-clause-encloses : goal.returns-in-None-clause-encloses
returns-in-None-clause-encloses t c =
    let up = is_above c.args.tree.now.forest c.args.h.0 c.in-Some.parent c.requires.once c.requires.there c.in-Some.ensures in
    λ k inside. c.frame_of.ensures.encloses k (up.encloses k inside)
