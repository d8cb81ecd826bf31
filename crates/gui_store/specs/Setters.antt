-- What a setter asks for before it sets the row.
use Rattle.scene_defs.specs.Row.{Setter}
use Rattle.gui_store.specs.declared.setter.Setter.{Setter as Asked}

abbrev pub asked_of : Setter → Asked
asked_of setter =
    record {
      handle = setter.handle;
      fits = setter.fits;
      needs_parent = setter.needs_parent;
      feature = setter.feature;
      image = setter.image;
    }
