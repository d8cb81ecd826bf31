use Rattle.meter.proofs.meter.show_number.Goals as goal

pub show-requires : goal.show-requires
show-requires g c = c.set_number.ensures.ready _ c.requires
