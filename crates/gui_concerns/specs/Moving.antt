-- Which changes leave every object its box, whatever the scene: what they set is nothing that layout goes by. And
-- which leave what every object paints where it stands.
use Rattle.std.specs.Prelude.{Bool, true, false, not, ◌&&◌, if◌then◌else◌}
use Rattle.gui_base.specs.declared.props.Prop.{Prop}
use Rattle.gui_base.specs.declared.props.Prop.TheVariants.{BgColor, BgOpa, BorderColor, BorderOpa}
use Rattle.gui_base.specs.declared.props.Prop.TheVariants.{ImgRecolor, ImgOpa, TextColor, TextOpa, TextAlign}
use Rattle.gui_base.specs.declared.words.Flag.{Flag}
use Rattle.gui_base.specs.declared.words.Flag.TheVariants.{Hidden, Clickable, Checkable, Bubble, Scrollable}
use Rattle.gui_base.specs.declared.words.Part.TheVariants.{Main}
use Rattle.gui_base.specs.declared.words.Selector.{Selector}
use Rattle.gui_base.specs.Words.{same_part}
use Rattle.scene_defs.specs.declared.Change.{Change}
use Rattle.scene_defs.specs.declared.Change.TheVariants as change
use Rattle.debt_defs.specs.declared.subject.Subject.{Subject}
use Rattle.debt_defs.specs.declared.subject.Subject.TheVariants.{Nobody}
use Rattle.debt_defs.specs.Subject.{subject_of}
use Rattle.gui_concerns.specs.declared.concerned.Concerned.{Concerned}
use Rattle.gui_concerns.specs.declared.concerned.Concerned.TheVariants as concerned

-- whether layout goes by the value of a property of the main part: by all but colours, opacities and how the
-- lines of a text are aligned
abbrev pub goes_by : Prop → Bool
goes_by BgColor = false
goes_by BgOpa = false
goes_by BorderColor = false
goes_by BorderOpa = false
goes_by ImgRecolor = false
goes_by ImgOpa = false
goes_by TextColor = false
goes_by TextOpa = false
goes_by TextAlign = false
goes_by prop = true

-- whether layout goes by what is set for a selector: it goes by the main part alone
abbrev pub goes_by_set : Selector → Prop → Bool
goes_by_set selector prop = same_part selector.part Main && goes_by prop

-- whether layout goes by a flag
abbrev pub goes_by_flag : Flag → Bool
goes_by_flag Hidden = true
goes_by_flag Clickable = false
goes_by_flag Checkable = false
goes_by_flag Bubble = false
goes_by_flag Scrollable = true

-- whether a change is about no object
abbrev pub is_nobody : Subject → Bool
is_nobody Nobody = true
is_nobody subject = false

-- Whether a change leaves the trees, and every object its box. What is set of a row, of styles or of an object
-- is then nothing that layout goes by. No text or picture shows a font or an image that is not finished, so
-- what is given to these moves nobody. Each setter that is not named here may move something.
abbrev pub moves_nobody : Change → Bool
moves_nobody (change.Load h) = true
moves_nobody (change.Flag h flag on) = not (goes_by_flag flag)
moves_nobody (change.Value h n) = true
moves_nobody (change.Range h low high) = true
moves_nobody (change.Set s prop value) = not (goes_by prop)
moves_nobody (change.Unset s prop) = not (goes_by prop)
moves_nobody (change.Local h selector prop value) = not (goes_by_set selector prop)
moves_nobody (change.Unlocal h selector prop) = not (goes_by_set selector prop)
moves_nobody change = is_nobody (subject_of change)

-- Whether a change sets where an object stands and is seen, and nothing that it paints by: no value, text, picture
-- or state. Any other may change what something paints.
abbrev pub sets_no_paint : Change → Bool
sets_no_paint (change.Flag h flag on) = true
sets_no_paint (change.Pos h x y) = true
sets_no_paint (change.Align h align x y) = true
sets_no_paint (change.Size h width height) = true
sets_no_paint (change.Scroll h x y) = true
sets_no_paint (change.Flex h flow) = true
sets_no_paint (change.Places h main cross track) = true
sets_no_paint (change.Grow h n) = true
sets_no_paint change = false

-- of the objects that a change may concern those that may paint something else where they stand
abbrev pub painted_by : Change → Concerned → Concerned
painted_by change some = if sets_no_paint change then concerned.Nobody else some
