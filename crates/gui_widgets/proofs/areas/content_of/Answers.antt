use Rattle.std.proofs.Common.{◌-◌, ◌+◌, ◌∙◌, ap}
use Rattle.gui_widgets.proofs.Spreads.{content-reaches, content-starts, content-ends}
use Rattle.gui_widgets.proofs.areas.content_of.Goals as goal

pub part_at-requires-clause-across : goal.part_at-requires-clause-across
part_at-requires-clause-across c =
    let p = c.args.place in
    content-reaches p.x1 p.x2 c.requires.place.x1 c.requires.place.x2 c.inset-left.result c.inset-right.result c.saturating_sub-width.result c.inset-left.ensures.most c.inset-right.ensures.most
    (c.saturating_sub-width.ensures ∙ ap (λ n. n - (c.inset-left.result + c.inset-right.result)) c.width.ensures)

pub part_at-requires-clause-down : goal.part_at-requires-clause-down
part_at-requires-clause-down c =
    let p = c.args.place in
    content-reaches p.y1 p.y2 c.requires.place.y1 c.requires.place.y2 c.inset-top.result c.inset-bottom.result c.saturating_sub-height.result c.inset-top.ensures.most c.inset-bottom.ensures.most
    (c.saturating_sub-height.ensures ∙ ap (λ n. n - (c.inset-top.result + c.inset-bottom.result)) c.height.ensures)

pub returns-clause-near : goal.returns-clause-near
returns-clause-near c =
    let p = c.args.place in
    let w = c.saturating_sub-width.ensures ∙ ap (λ n. n - (c.inset-left.result + c.inset-right.result)) c.width.ensures in
    let h = c.saturating_sub-height.ensures ∙ ap (λ n. n - (c.inset-top.result + c.inset-bottom.result)) c.height.ensures in
    rw c.part_at.ensures (record {
      x1 = content-starts p.x1 p.x2 c.requires.place.x1 c.requires.place.x2 c.inset-left.result c.inset-right.result c.saturating_sub-width.result c.inset-left.ensures.most c.inset-right.ensures.most w;
      y1 = content-starts p.y1 p.y2 c.requires.place.y1 c.requires.place.y2 c.inset-top.result c.inset-bottom.result c.saturating_sub-height.result c.inset-top.ensures.most c.inset-bottom.ensures.most h;
      x2 = content-ends p.x1 p.x2 c.requires.place.x1 c.requires.place.x2 c.inset-left.result c.inset-right.result c.saturating_sub-width.result c.inset-left.ensures.most c.inset-right.ensures.most w;
      y2 = content-ends p.y1 p.y2 c.requires.place.y1 c.requires.place.y2 c.inset-top.result c.inset-bottom.result c.saturating_sub-height.result c.inset-top.ensures.most c.inset-bottom.ensures.most h;
    })
