use Rattle.layout_defs.proofs.Contents.{children_fill_row, content_holds_children}
use Rattle.layout_defs.proofs.laws.contents_hold_children.Goals as goal

pub returns : goal.returns
returns c = record { near = content_holds_children; row = children_fill_row }
