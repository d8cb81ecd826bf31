-- Sinks that hold nothing yet.
use Rattle.std.proofs.Common.{◌≡◌, ℕ, refl, subst, List, [], Some}
use Rattle.std.specs.Option.{ForSome}
use Rattle.panel_stream.specs.Viewer.{viewing}
use Rattle.panel_stream.specs.StreamPanel.{AreWhole}

-- no bytes are whole records
none_whole : AreWhole []
unfolding viewing
none_whole = refl

pub empty_whole : (held : List ℕ) → held ≡ [] → ForSome (Some held) AreWhole
empty_whole held empty = λ bytes is.
    let none : [] ≡ bytes = cc in
    subst AreWhole none none_whole
