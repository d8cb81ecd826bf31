use Rattle.gui_layout.proofs.places.Places.settle.Goals as goal

pub returns-clause-solved : goal.returns-clause-solved
returns-clause-solved c = c.settle_marks.ensures.settles.solved

pub returns-clause-gone : goal.returns-clause-gone
returns-clause-gone c = c.settle_marks.ensures.settles.gone

pub returns-clause-others : goal.returns-clause-others
returns-clause-others c = c.settle_marks.ensures.settles.others

pub returns-clause-tops : goal.returns-clause-tops
returns-clause-tops c = c.settle_marks.ensures.moves.tops

pub returns-clause-whole : goal.returns-clause-whole
returns-clause-whole c = c.settle_marks.ensures.moves.whole

pub returns-clause-stays : goal.returns-clause-stays
returns-clause-stays c = c.settle_marks.ensures.moves.stays

pub returns-clause-scrolls_stay : goal.returns-clause-scrolls_stay
returns-clause-scrolls_stay c = c.settle_marks.ensures.scrolls

pub returns-clause-right : goal.returns-clause-right
returns-clause-right c = c.settle_marks.ensures.settles.right

pub returns-clause-settled : goal.returns-clause-settled
returns-clause-settled c = c.settle_marks.ensures.settles.settled

pub returns-clause-reaches : goal.returns-clause-reaches
returns-clause-reaches c = c.settle_marks.ensures.settles.scrolls.reaches

pub returns-clause-gone_reaches : goal.returns-clause-gone_reaches
returns-clause-gone_reaches c = c.settle_marks.ensures.settles.scrolls.gone_reaches

pub returns-clause-other_reaches : goal.returns-clause-other_reaches
returns-clause-other_reaches c = c.settle_marks.ensures.settles.scrolls.other_reaches

pub returns-clause-offsets : goal.returns-clause-offsets
returns-clause-offsets c = c.settle_marks.ensures.settles.scrolls.offsets

pub returns-clause-gone_offsets : goal.returns-clause-gone_offsets
returns-clause-gone_offsets c = c.settle_marks.ensures.settles.scrolls.gone_offsets

pub returns-clause-other_offsets : goal.returns-clause-other_offsets
returns-clause-other_offsets c = c.settle_marks.ensures.settles.scrolls.other_offsets

pub returns-clause-naturals : goal.returns-clause-naturals
returns-clause-naturals c = c.settle_marks.ensures.settles.naturals

pub returns-clause-gone_naturals : goal.returns-clause-gone_naturals
returns-clause-gone_naturals c = c.settle_marks.ensures.settles.gone_naturals

pub returns-clause-other_naturals : goal.returns-clause-other_naturals
returns-clause-other_naturals c = c.settle_marks.ensures.settles.other_naturals

pub returns-clause-moved_once : goal.returns-clause-moved_once
returns-clause-moved_once c = c.settle_marks.ensures.lists.once

pub returns-clause-moved_there : goal.returns-clause-moved_there
returns-clause-moved_there c = c.settle_marks.ensures.lists.there

pub returns-clause-moved_whole : goal.returns-clause-moved_whole
returns-clause-moved_whole c = c.settle_marks.ensures.lists.whole

pub returns-clause-moved_stays : goal.returns-clause-moved_stays
returns-clause-moved_stays c = c.settle_marks.ensures.lists.stays

pub returns-clause-moved_reaches : goal.returns-clause-moved_reaches
returns-clause-moved_reaches c = c.settle_marks.ensures.lists.reaches

pub returns-clause-moved_offsets : goal.returns-clause-moved_offsets
returns-clause-moved_offsets c = c.settle_marks.ensures.lists.offsets

pub returns-clause-moved_only : goal.returns-clause-moved_only
returns-clause-moved_only c = c.settle_marks.ensures.lists.only
