use Rattle.std.proofs.Common.{◌≡◌, length, replicate, rules}
use Rattle.std.proofs.lemmas.List.{length-replicate}
use Rattle.gui_base.specs.Color.{black}
use Rattle.gui_base.specs.Area.{size_of}
use Rattle.gui_base.specs.Corners.{rect_of}
use Rattle.gui_color.proofs.Pixels.{pixel_at-black}
use Rattle.gui_color.proofs.Runs.{front_is}
use Rattle.gui_color.proofs.buffer.DrawBuf.begin.Goals as goal

pub returns-clause-black : goal.returns-clause-black
returns-clause-black g c =
    let p = c.self.inside.pixels in
    let size = size_of (rect_of c.args.area) in
    let fits = rw (← c.self.view_is) at c.requires.fits in
    let n : length c.slice_mut.result.now ≡ size = search rules in
    rw (c.clear.ensures.black, n) (front_is p.items (replicate size black) p.len size p.ok.0 fits (length-replicate size black))

pub returns-clause-each_black : goal.returns-clause-each_black
returns-clause-each_black g c = λ x y i. pixel_at-black _ (size_of (rect_of c.args.area)) x y (returns-clause-black g c)
