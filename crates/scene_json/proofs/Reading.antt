-- From the bytes to the scene.
use Rattle.std.proofs.Common.{◌≡◌, refl, ℕ, true, false, List}
use Rattle.std.proofs.lemmas.Str.{IsUtf8-from_is_utf8, is_utf8-from_IsUtf8}
use Rattle.std.specs.Prelude.{Bool, Some, None, if◌then◌else◌}
use Rattle.std.specs.Str.{IsUtf8, is_utf8}
use Rattle.std.specs.declared.option.Option.{Option}
use Rattle.serde_json.specs.Data.{Data}
use Rattle.serde_json.specs.Read.{read}
use Rattle.scene_json.specs.Scenes.{scene, scene_in}
use Rattle.scene_json.specs.Writing.{◌>>=◌}

-- bytes that are a value are the scene of this value
pub scene_in-reads : (bytes : List ℕ) (d : Data) → IsUtf8 bytes → read bytes ≡ Some d → scene_in bytes ≡ scene d
unfolding scene_in
scene_in-reads bytes d u e = rw (is_utf8-from_IsUtf8 bytes u, e) refl

none_by : (b : Bool) (o : Option Data) → (b ≡ true → o ≡ None) → (if b then o >>= scene else None) ≡ None
none_by true o f = rw (f refl) refl
none_by false o f = refl

-- bytes that are none are no scene
pub scene_in-none : (bytes : List ℕ) → (IsUtf8 bytes → read bytes ≡ None) → scene_in bytes ≡ None
unfolding scene_in
scene_in-none bytes f = none_by (is_utf8 bytes) (read bytes) (λ e. f (IsUtf8-from_is_utf8 bytes e))

pub ruleset reading = (scene_in-reads, scene_in-none)
