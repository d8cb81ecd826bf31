-- The kinds of objects that have a size of their own.
use Rattle.std.specs.Prelude.{Bool}
use Rattle.gui_base.specs.declared.words.Kind.{Kind}
use Rattle.widget_defs.specs.Kinds.{shows, has_size}

abbrev pub has_own_size : Kind → Bool
has_own_size kind = has_size (shows kind)
