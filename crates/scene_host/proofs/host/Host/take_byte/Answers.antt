use Rattle.scene_host.proofs.Hearing.{hears_byte}
use Rattle.scene_host.proofs.host.Host.take_byte.Goals as goal

pub returns-clause-hears : goal.returns-clause-hears
returns-clause-hears g c = hears_byte _ _ _ _ _ c.hear.ensures.line c.hear.ensures.adds c.hear.ensures.few
