use Rattle.std.proofs.Common.{refl}
use Rattle.std.specs.Fmt.{digits}
use Rattle.gui_base.specs.Bits.{has_bit, with_bit}
use Rattle.gui_base.specs.Color.{mix, mix_channel}
use Rattle.scene_defs.specs.Place.{place}
use Rattle.run_defs.specs.Making.{make, made}
use Rattle.run_defs.specs.Play.{◌⊳◌, ◌▷◌, each}
use Rattle.run_defs.specs.Step.{step}
use Rattle.run_laws.proofs.worked_examples.Goals as goal

pub returns : goal.returns
unfolding digits mix mix_channel place has_bit with_bit make made ◌⊳◌ ◌▷◌ each step
returns c = record {
  windows = refl;
  pumps = record {
    fits = refl;
    log = refl;
    happens = refl;
    obeys = (tt, (tt, (tt, (tt, (refl, (tt, (tt, (tt, (tt, (tt, tt))))))))));
    shows = refl;
  };
}
