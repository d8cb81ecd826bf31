-- How many handlers, groups, members and animations a board has room for.
use Rattle.std.specs.Prelude.{◌≡◌}
use Rattle.gui_anim.specs.Anims.{Anims}
use Rattle.gui_base.specs.Limits.{Bounds}
use Rattle.gui_event.specs.Groups.{FocusGroups}
use Rattle.gui_event.specs.Handlers.{Handlers}

-- there is room for as many handlers, groups, members and animations as the limits say
pub record AreSized (handlers : Handlers) (groups : FocusGroups) (anims : Anims) (limits : Bounds) :
    Type 0 where
  pub handlers_fit : handlers.size ≡ limits.handlers
  pub groups_fit : groups.size ≡ limits.groups
  pub members_fit : groups.objects ≡ limits.objects
  pub anims_fit : anims.size ≡ limits.anims
