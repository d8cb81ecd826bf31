-- What a viewer has after the bytes of a call, and so what the panel shows and its frames.
use Rattle.std.proofs.Common.{◌≡◌, ◌∙◌, sym, ap, refl, subst, inl, inr, ◌⊎◌, ℕ, ◌*◌, ◌<◌, ℤ, Bool, true, false, if◌then◌else◌, nat_lt, ◌==◌, List, [], ◌∷◌, ◌++◌, append-nil, length, drop, fold, Option, Some, None, is_some, arith}
use Rattle.std.specs.Prelude.{IfSome, option_map}
use Rattle.std.specs.Option.{ForSome}
use Rattle.std.specs.Io.KnownBytes.{Appends}
use Rattle.std.proofs.lemmas.List.{length-replicate, nil_from_length}
use Rattle.gui_base.specs.declared.color.Rgb565.{Rgb565}
use Rattle.gui_base.specs.Area.{Rect, has}
use Rattle.gui_base.specs.Color.{black}
use Rattle.gui_base.specs.Ppm.{ppm}
use Rattle.gui_color.specs.Buffer.{Buffer, IsWhole, color_at}
use Rattle.gui_edge.specs.KeepsTelling.{KeepsTelling}
use Rattle.gui_edge.specs.Panel.{Shows, SameOutside}
use Rattle.gui_edge.specs.Sink.{AppendsPrefix}
use Rattle.panel_stream.specs.StreamPanel.{IsInside, AreWhole, Streams, shown_by, frames_by}
use Rattle.panel_stream.specs.Viewer.{Viewer, first_viewer, byte_at, number_at, record_len, sizes_kind, area_kind, frame_kind, takes, takes_sizes, takes_area, takes_frame, area_said, colors_in, with_byte, viewing, replayed, painted, picture_of, panel_of, sizes_bytes, area_bytes, frame_bytes, color_bytes}
use Rattle.panel_stream.proofs.Pictures.{picture_is, length-picture_of, painted_shows}
use Rattle.panel_stream.proofs.Records.{colors_back, area_told, frame_record, sizes_record, area_record, sizes_back}
use Rattle.panel_stream.proofs.Viewing.{IsRecord, views_record, views_prefix, viewing-append}

-- A viewer has as many pixels as its sizes say, whatever bytes come.
abbrev Full : Viewer → Type 0
Full v = length v.pixels ≡ v.width * v.height

one_of : (b : Bool) (x y : Viewer) → Full x → Full y → Full (if b then x else y)
one_of true x y h k = h
one_of false x y h k = k

takes_full : (v : Viewer) (bytes : List ℕ) → Full v → Full (takes v bytes)
takes_full v bytes h =
    one_of (byte_at bytes 0 == sizes_kind) (takes_sizes v bytes) _ (length-replicate (number_at bytes 1 * number_at bytes 3) black)
    (one_of (byte_at bytes 0 == area_kind) (takes_area v bytes) _ (length-picture_of v.width v.height (λ x y. if has (area_said bytes) x y then color_at (area_said bytes) (colors_in (drop 9 bytes)) x y else color_at (panel_of v.width v.height) v.pixels x y))
    (one_of (byte_at bytes 0 == frame_kind) (takes_frame v) v h h))

byte_full : (v : Viewer) (byte : ℕ) → Full v → Full (with_byte v byte)
byte_full v byte h =
    let bytes = v.kept ++ byte ∷ [] in
    one_of (nat_lt (length bytes) (record_len bytes)) (record v { kept = bytes }) (takes (record v { kept = [] }) bytes) h (takes_full (record v { kept = [] }) bytes h)

bytes_full : (v : Viewer) (bytes : List ℕ) → Full v → Full (fold with_byte v bytes)
bytes_full v [] h = h
bytes_full v (b ∷ bytes) h = bytes_full (with_byte v b) bytes (byte_full v b h)

none_full : Full first_viewer
none_full = refl

pub replayed_full : (bytes : List ℕ) → Full (replayed bytes)
unfolding viewing
replayed_full bytes = bytes_full first_viewer bytes none_full

-- A panel of the viewer's sizes shows the viewer's pixels.
pub shown_is : (width height : ℕ) (bytes : List ℕ) → (replayed bytes).width ≡ width → (replayed bytes).height ≡ height → shown_by width height bytes ≡ (replayed bytes).pixels
shown_is width height bytes w h =
    let v = replayed bytes in
    subst (λ (n : ℕ). shown_by n height bytes ≡ v.pixels) w
    (subst (λ (n : ℕ). shown_by v.width n bytes ≡ v.pixels) h
    (picture_is v.width v.height v.pixels (replayed_full bytes)))

-- What a viewer with whole records takes.
abbrev ready : Viewer → Viewer
ready v = record v { kept = [] }

area_takes : (v : Viewer) (buf : Buffer) → IsInside buf.area → takes v (area_bytes buf) ≡ record v { pixels = painted v.width v.height v.pixels buf.area buf.pixels }
area_takes v buf i =
    ap (λ (a : Rect). record v { pixels = painted v.width v.height v.pixels a (colors_in (color_bytes buf.pixels)) }) (area_told buf i)
    ∙ ap (λ (l : List Rgb565). record v { pixels = painted v.width v.height v.pixels buf.area l }) (colors_back buf.pixels)

-- the bytes after others are a record, or a prefix of one
pub whole_is : (x y r : List ℕ) → IsRecord r → AreWhole x → y ≡ x ++ r → replayed y ≡ takes (ready (replayed x)) r
whole_is x y r i w e = ap replayed e ∙ viewing-append first_viewer x r ∙ views_record (replayed x) r i w

abbrev Kept : List ℕ → List ℕ → Type 0
Kept x y = (p : List ℕ) × (replayed y ≡ record (replayed x) { kept = p })

prefix_is : (x y prefix rest r : List ℕ) → IsRecord r → AreWhole x → prefix ++ rest ≡ r → y ≡ x ++ prefix → Kept x y ⊎ (replayed y ≡ takes (ready (replayed x)) r)
prefix_is x y prefix [] r i w all e = inr (whole_is x y r i w (e ∙ ap (λ (l : List ℕ). x ++ l) (sym (append-nil prefix) ∙ all)))
prefix_is x y prefix (b ∷ rest) r i w all e =
    inl (prefix, ap replayed e ∙ viewing-append first_viewer x prefix ∙ views_prefix (replayed x) prefix (b ∷ rest) r i w all (omega arith))

-- Where the bytes before are told, so are those after, and the other way round.
pub told_on : (f : List ℕ → List Rgb565) (old new : Option (List ℕ)) (bs : List ℕ) (R : List Rgb565 → List Rgb565 → Type 0) → is_some new ≡ is_some old → Appends old new bs →
    ((x y : List ℕ) → old ≡ Some x → y ≡ x ++ bs → R (f x) (f y)) → KeepsTelling (option_map f old) (option_map f new) R
told_on f None None bs R t h step = tt
told_on f None (Some y) bs R t h step = absurd (cc)
told_on f (Some x) None bs R t h step = absurd (cc)
told_on f (Some x) (Some y) bs R t h step = step x y refl h

pub frames_on : (old new : Option (List ℕ)) (bs : List ℕ) → is_some new ≡ is_some old → Appends old new bs →
    ((x y : List ℕ) → old ≡ Some x → y ≡ x ++ bs → frames_by y ≡ frames_by x) → option_map frames_by new ≡ option_map frames_by old
frames_on None None bs t h step = refl
frames_on None (Some y) bs t h step = absurd (cc)
frames_on (Some x) None bs t h step = absurd (cc)
frames_on (Some x) (Some y) bs t h step = ap Some (step x y refl h)

pub streams_on : (old new : Option (List ℕ)) (bs : List ℕ) (S : List ℕ → Type 0) → is_some new ≡ is_some old → Appends old new bs →
    ((x y : List ℕ) → old ≡ Some x → y ≡ x ++ bs → S y) → ForSome new S
streams_on None None bs S t h step y e = absurd (cc)
streams_on None (Some z) bs S t h step y e = absurd (cc)
streams_on (Some x) None bs S t h step y e = absurd (cc)
streams_on (Some x) (Some z) bs S t h step y e = let same : z ≡ y = cc in subst S same (step x z refl h)

-- A record of an area came through.
pub record AreaCame (width height limit : ℕ) (broken : Bool) (area : Rect) (color : ℤ → ℤ → Rgb565) (x y : List ℕ) : Type 0 where
  pub frames : frames_by y ≡ frames_by x
  pub shows : Shows (panel_of width height) area color (shown_by width height x) (shown_by width height y)
  pub streams : Streams width height limit broken y

abbrev pub Opened : ℕ → ℕ → ℕ → List ℕ → Type 0
Opened width height limit x = Streams width height limit false x

pub area_came : (width height limit : ℕ) (broken : Bool) (buf : Buffer) (x y : List ℕ) → 0 < limit → IsInside buf.area → Streams width height limit false x →
    replayed y ≡ takes (ready (replayed x)) (area_bytes buf) → AreaCame width height limit broken buf.area (color_at buf.area buf.pixels) x y
area_came width height limit broken buf x y some i s e =
    let v = replayed x in
    let is : replayed y ≡ record v { pixels = painted v.width v.height v.pixels buf.area buf.pixels; kept = [] } = e ∙ area_takes (ready v) buf i in
    let w = s.width_is some in
    let h = s.height_is some in
    let w' : (replayed y).width ≡ width = ap (λ (u : Viewer). u.width) is ∙ w in
    let h' : (replayed y).height ≡ height = ap (λ (u : Viewer). u.height) is ∙ h in
    let old : shown_by width height x ≡ v.pixels = shown_is width height x w h in
    let new : shown_by width height y ≡ painted v.width v.height v.pixels buf.area buf.pixels = shown_is width height y w' h' ∙ ap (λ (u : Viewer). u.pixels) is in
    record {
      frames = ap (λ (u : Viewer). u.frames) is;
      shows =
          subst (λ (l : List Rgb565). Shows (panel_of width height) buf.area (color_at buf.area buf.pixels) l (shown_by width height y)) (sym old)
          (subst (λ (l : List Rgb565). Shows (panel_of width height) buf.area (color_at buf.area buf.pixels) v.pixels l) (sym new)
          (subst (λ (n : ℕ). Shows (panel_of n height) buf.area (color_at buf.area buf.pixels) v.pixels (painted v.width v.height v.pixels buf.area buf.pixels)) w
          (subst (λ (n : ℕ). Shows (panel_of v.width n) buf.area (color_at buf.area buf.pixels) v.pixels (painted v.width v.height v.pixels buf.area buf.pixels)) h
          (painted_shows v.width v.height buf.area v.pixels buf.pixels (replayed_full x)))));
      streams = record { whole = λ b. ap (λ (u : Viewer). u.kept) is; width_is = λ o. w'; height_is = λ o. h' };
    }

-- A prefix of one came through.
pub record Same (width height limit : ℕ) (x y : List ℕ) : Type 0 where
  pub frames : frames_by y ≡ frames_by x
  pub shows : shown_by width height y ≡ shown_by width height x
  pub streams : Streams width height limit true y

pub kept_same : (width height limit : ℕ) (x y : List ℕ) → (0 < limit → (replayed x).width ≡ width) → (0 < limit → (replayed x).height ≡ height) → Kept x y → Same width height limit x y
kept_same width height limit x y w h k =
    let is = k.1 in
    record {
      frames = ap (λ (u : Viewer). u.frames) is;
      shows = ap (λ (u : Viewer). picture_of width height (λ a b. color_at (panel_of u.width u.height) u.pixels a b)) is;
      streams = record {
        whole = λ (b : true ≡ false). absurd (cc);
        width_is = λ o. ap (λ (u : Viewer). u.width) is ∙ w o;
        height_is = λ o. ap (λ (u : Viewer). u.height) is ∙ h o;
      };
    }

outside_of : (panel area : Rect) (color : ℤ → ℤ → Rgb565) (old new : List Rgb565) → Shows panel area color old new → SameOutside panel area old new
outside_of panel area color old new h = record { len = h.len; outside = λ x y i o. h.each x y i ∙ rw o refl }

outside_same : (panel area : Rect) (old new : List Rgb565) → new ≡ old → SameOutside panel area old new
outside_same panel area old new e = record { len = ap (λ (l : List Rgb565). length l) e; outside = λ x y i o. ap (λ (l : List Rgb565). color_at panel l x y) e }

pub record AreaBroke (width height limit : ℕ) (area : Rect) (x y : List ℕ) : Type 0 where
  pub frames : frames_by y ≡ frames_by x
  pub shows : SameOutside (panel_of width height) area (shown_by width height x) (shown_by width height y)
  pub streams : Streams width height limit true y

pub area_broke : (width height limit : ℕ) (buf : Buffer) (x y prefix rest : List ℕ) → 0 < limit → IsInside buf.area → IsWhole buf → Streams width height limit false x →
    prefix ++ rest ≡ area_bytes buf → y ≡ x ++ prefix → AreaBroke width height limit buf.area x y
area_broke width height limit buf x y prefix rest some i w s all e =
    elim (prefix_is x y prefix rest (area_bytes buf) (area_record buf w) (s.whole refl) all e) [
      | inl k ↦
          let same = kept_same width height limit x y s.width_is s.height_is k in
          record { frames = same.frames; shows = outside_same (panel_of width height) buf.area _ _ same.shows; streams = same.streams }
      | inr t ↦
          let came = area_came width height limit true buf x y some i s t in
          record { frames = came.frames; shows = outside_of (panel_of width height) buf.area (color_at buf.area buf.pixels) _ _ came.shows; streams = came.streams }
    ]

-- A mark came through.
pub record MarkCame (width height limit : ℕ) (broken : Bool) (x y : List ℕ) : Type 0 where
  pub frames : frames_by y ≡ frames_by x ++ ppm width height (shown_by width height x)
  pub shows : shown_by width height y ≡ shown_by width height x
  pub streams : Streams width height limit broken y

pub mark_came : (width height limit : ℕ) (broken : Bool) (x y : List ℕ) → 0 < limit → Streams width height limit false x →
    replayed y ≡ takes (ready (replayed x)) frame_bytes → MarkCame width height limit broken x y
mark_came width height limit broken x y some s e =
    let v = replayed x in
    let w = s.width_is some in
    let h = s.height_is some in
    record {
      frames =
          ap (λ (u : Viewer). u.frames) e
          ∙ ap (λ (n : ℕ). v.frames ++ ppm n v.height v.pixels) w
          ∙ ap (λ (n : ℕ). v.frames ++ ppm width n v.pixels) h
          ∙ ap (λ (l : List Rgb565). v.frames ++ ppm width height l) (sym (shown_is width height x w h));
      shows = ap (λ (u : Viewer). picture_of width height (λ a b. color_at (panel_of u.width u.height) u.pixels a b)) e;
      streams = record { whole = λ b. ap (λ (u : Viewer). u.kept) e; width_is = λ o. ap (λ (u : Viewer). u.width) e ∙ w; height_is = λ o. ap (λ (u : Viewer). u.height) e ∙ h };
    }

-- The sizes came through.
pub record SizesCame (width height limit : ℕ) (broken : Bool) (x y : List ℕ) : Type 0 where
  pub frames : frames_by y ≡ frames_by x
  pub streams : Streams width height limit broken y

pub sizes_came : (width height limit : ℕ) (broken : Bool) (x y : List ℕ) → replayed y ≡ takes (ready (replayed x)) (sizes_bytes width height) → SizesCame width height limit broken x y
sizes_came width height limit broken x y e = record {
  frames = ap (λ (u : Viewer). u.frames) e;
  streams = record {
    whole = λ b. ap (λ (u : Viewer). u.kept) e;
    width_is = λ o. ap (λ (u : Viewer). u.width) e ∙ sizes_back width;
    height_is = λ o. ap (λ (u : Viewer). u.height) e ∙ sizes_back height;
  };
}

-- A put of a mark, of which a prefix came through.
pub mark_broke : (width height limit : ℕ) (x y prefix rest : List ℕ) → 0 < limit → Streams width height limit false x → prefix ++ rest ≡ frame_bytes → y ≡ x ++ prefix →
    Same width height limit x y ⊎ MarkCame width height limit true x y
mark_broke width height limit x y prefix rest some s all e =
    elim (prefix_is x y prefix rest frame_bytes frame_record (s.whole refl) all e) [
      | inl k ↦ inl (kept_same width height limit x y s.width_is s.height_is k)
      | inr t ↦ inr (mark_came width height limit true x y some s t)
    ]

pub shown_on : (width height : ℕ) (old new : Option (List ℕ)) (bs : List ℕ) → is_some new ≡ is_some old → Appends old new bs →
    ((x y : List ℕ) → old ≡ Some x → y ≡ x ++ bs → shown_by width height y ≡ shown_by width height x) → option_map (shown_by width height) new ≡ option_map (shown_by width height) old
shown_on width height None None bs t h step = refl
shown_on width height None (Some y) bs t h step = absurd (cc)
shown_on width height (Some x) None bs t h step = absurd (cc)
shown_on width height (Some x) (Some y) bs t h step = ap Some (step x y refl h)

-- The frame was written, where it is told.
pub written_on : (width height : ℕ) (old new : Option (List ℕ)) (bs : List ℕ) → is_some new ≡ is_some old → Appends old new bs →
    ((x y : List ℕ) → old ≡ Some x → y ≡ x ++ bs → frames_by y ≡ frames_by x ++ ppm width height (shown_by width height x)) →
    IfSome (option_map (shown_by width height) old) (λ colors. Appends (option_map frames_by old) (option_map frames_by new) (ppm width height colors))
written_on width height None None bs t h step = tt
written_on width height None (Some y) bs t h step = absurd (cc)
written_on width height (Some x) None bs t h step = absurd (cc)
written_on width height (Some x) (Some y) bs t h step = step x y refl h

abbrev pub Writes : ℕ → ℕ → List ℕ → List ℕ → Type 0
Writes width height x y = AppendsPrefix (Some (frames_by x)) (Some (frames_by y)) (ppm width height (shown_by width height x))

pub prefix_on : (width height : ℕ) (old new : Option (List ℕ)) (bs : List ℕ) → is_some new ≡ is_some old → Appends old new bs →
    ((x y : List ℕ) → old ≡ Some x → y ≡ x ++ bs → Writes width height x y) →
    IfSome (option_map (shown_by width height) old) (λ colors. AppendsPrefix (option_map frames_by old) (option_map frames_by new) (ppm width height colors))
prefix_on width height None None bs t h step = tt
prefix_on width height None (Some y) bs t h step = absurd (cc)
prefix_on width height (Some x) None bs t h step = absurd (cc)
prefix_on width height (Some x) (Some y) bs t h step = step x y refl h

pub nothing_written : (width height : ℕ) (x y : List ℕ) → frames_by y ≡ frames_by x → Writes width height x y
nothing_written width height x y e = record { prefix = []; rest = ppm width height (shown_by width height x); whole = refl; grows = e ∙ sym (append-nil (frames_by x)) }

pub all_written : (width height : ℕ) (x y : List ℕ) → frames_by y ≡ frames_by x ++ ppm width height (shown_by width height x) → Writes width height x y
all_written width height x y e = record { prefix = ppm width height (shown_by width height x); rest = []; whole = append-nil (ppm width height (shown_by width height x)); grows = e }

-- Sizes of which a prefix came through, before the panel is opened.
none_shown : (width height : ℕ) (bytes : List ℕ) → width ≡ 0 → shown_by width height bytes ≡ []
none_shown width height bytes e =
    let none : width * height ≡ 0 = omega (arith, ap (λ (n : ℕ). n * height) e) in
    nil_from_length (shown_by width height bytes) (length-picture_of width height (λ a b. color_at (panel_of (replayed bytes).width (replayed bytes).height) (replayed bytes).pixels a b) ∙ none)

pub shown_full : (width height : ℕ) (bytes : List ℕ) → length (shown_by width height bytes) ≡ width * height
shown_full width height bytes = length-picture_of width height (λ a b. color_at (panel_of (replayed bytes).width (replayed bytes).height) (replayed bytes).pixels a b)

pub record SizesBroke (width height : ℕ) (x y : List ℕ) : Type 0 where
  pub frames : frames_by y ≡ frames_by x
  pub shows : shown_by width height y ≡ shown_by width height x

pub sizes_broke : (wide high width height : ℕ) (x y prefix rest : List ℕ) → width ≡ 0 → AreWhole x → prefix ++ rest ≡ sizes_bytes wide high → y ≡ x ++ prefix → SizesBroke width height x y
sizes_broke wide high width height x y prefix rest none w all e = record {
  frames = elim (prefix_is x y prefix rest (sizes_bytes wide high) (sizes_record wide high) w all e) [
    | inl k ↦ ap (λ (u : Viewer). u.frames) k.1
    | inr t ↦ ap (λ (u : Viewer). u.frames) t
  ];
  shows = none_shown width height y none ∙ sym (none_shown width height x none);
}
