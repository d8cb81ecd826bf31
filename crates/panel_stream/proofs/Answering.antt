-- How a panel over a stream answers.
use Rattle.std.proofs.Common.{◌≡◌, refl, subst, inl, inr, ℕ, ◌+◌, ◌*◌, ◌^◌, min, ◌<◌, ◌≤◌, Bool, true, false, List, ◌++◌, length, Option, Some, None, is_some, arith}
use Rattle.std.proofs.lemmas.Int.{ints}
use Rattle.std.specs.Prelude.{option_map}
use Rattle.std.specs.Option.{ForSome}
use Rattle.std.specs.Io.KnownBytes.{Appends}
use Rattle.gui_base.specs.Grids.{BlockSize}
use Rattle.gui_color.specs.Buffer.{Buffer, IsWhole, color_at}
use Rattle.gui_edge.specs.Causes.{last_count}
use Rattle.gui_edge.specs.KeepsTelling.{KeepsTelling}
use Rattle.gui_edge.specs.Panel.{Opens, StaysClosed, Arrives, Breaks, Presents, WritesFrame, WritesPrefix, Shows, SameOutside}
use Rattle.gui_edge.specs.Sink.{SinkState, AppendsPrefix}
use Rattle.panel_stream.specs.StreamPanel.{StreamState, stream_state, IsInside, IsStreaming, Streams, Fits, shown_by}
use Rattle.panel_stream.specs.Viewer.{panel_of, sizes_bytes, area_bytes, frame_bytes}
use Rattle.panel_stream.proofs.Records.{area_record, sizes_record, frame_record}
use Rattle.panel_stream.proofs.Telling.{told_on, frames_on, streams_on, shown_on, written_on, prefix_on, whole_is, AreaCame, area_came, AreaBroke, area_broke, MarkCame, mark_came, mark_broke, Writes, nothing_written, all_written, SizesCame, sizes_came, SizesBroke, sizes_broke, shown_full}

-- A buffer that could be started has an area that a record can tell, and the panel is opened.
pub fits_inside : (width height limit : ℕ) (block : BlockSize) (buf : Buffer) → width < 65536 → height < 65536 → Fits width height limit block buf → IsInside buf.area
fits_inside width height limit block buf w h f =
    let i = f.inside in
    record { left = grind (arith, ints); top = grind (arith, ints); columns = grind (arith, ints); lines = grind (arith, ints); right = grind (arith, ints); bottom = grind (arith, ints) }

pub wide : (width height limit : ℕ) (block : BlockSize) (buf : Buffer) → Fits width height limit block buf → width ≡ 0 → ⊥
wide width height limit block buf f e = let i = f.inside in grind (arith, ints)

pub not_zero : (n : ℕ) → (n ≡ 0 → ⊥) → 0 < n
not_zero n h = grind arith

pub ticked : (n m : ℕ) → m ≡ n + 1 → n < m
ticked n m e = omega arith

pub rises : (n m : ℕ) → n < 2 ^ 64 → m ≡ min (n + 1) last_count → n ≤ m
rises n m r e = grind arith

pub positive : (width limit : ℕ) → 1 ≤ width → width ≤ limit → 0 < limit
positive width limit a b = omega arith

module _ {Out : Type 0} (sink : Out → SinkState) where
  -- the panel with another sink and what else changes
  abbrev pub after : StreamState Out → Out → Bool → Option Buffer → ℕ → ℕ → StreamState Out
  after s out broken coming flush present = record s { out = out; broken = broken; coming = coming; flush_faults = flush; present_faults = present }

  pub arrives : (s : StreamState Out) (out : Out) (coming : Option Buffer) (buf : Buffer) → s.coming ≡ Some buf → coming ≡ None → s.broken ≡ false → 0 < s.limit → is_some (sink out).held ≡ is_some (sink s.out).held →
      Appends (sink s.out).held (sink out).held (area_bytes buf) → IsInside buf.area → IsWhole buf → ForSome (sink s.out).held (Streams s.width s.height s.limit s.broken) →
      Arrives (stream_state sink s) (stream_state sink (record s { out = out; coming = coming })) buf
  arrives s out coming buf was gone b some t a i w st =
      let came : (x y : List ℕ) → (sink s.out).held ≡ Some x → y ≡ x ++ area_bytes buf → AreaCame s.width s.height s.limit s.broken buf.area (color_at buf.area buf.pixels) x y = λ x y e f.
      let s' : Streams s.width s.height s.limit false x = subst (λ (c : Bool). Streams s.width s.height s.limit c x) b (st x e) in
      area_came s.width s.height s.limit s.broken buf x y some i s' (whole_is x y (area_bytes buf) (area_record buf w) (s'.whole refl) f) in
      record {
        was = was;
        is = rw (gone, frames_on (sink s.out).held (sink out).held (area_bytes buf) t a (λ x y e f. (came x y e f).frames)) refl;
        shows = told_on (shown_by s.width s.height) (sink s.out).held (sink out).held (area_bytes buf) (Shows (panel_of s.width s.height) buf.area (color_at buf.area buf.pixels)) t a (λ x y e f. (came x y e f).shows);
      }

  pub arrives_streams : (s : StreamState Out) (out : Out) (buf : Buffer) → s.broken ≡ false → 0 < s.limit → is_some (sink out).held ≡ is_some (sink s.out).held →
      Appends (sink s.out).held (sink out).held (area_bytes buf) → IsInside buf.area → IsWhole buf → IsStreaming s.width s.height s.limit s.broken (sink s.out).held →
      IsStreaming s.width s.height s.limit s.broken (sink out).held
  arrives_streams s out buf b some t a i w st = record {
    closed = st.closed;
    streams = streams_on (sink s.out).held (sink out).held (area_bytes buf) (Streams s.width s.height s.limit s.broken) t a (λ x y e f.
        let s' : Streams s.width s.height s.limit false x = subst (λ (c : Bool). Streams s.width s.height s.limit c x) b (st.streams x e) in
        (area_came s.width s.height s.limit s.broken buf x y some i s' (whole_is x y (area_bytes buf) (area_record buf w) (s'.whole refl) f)).streams);
  }

  pub breaks : (s : StreamState Out) (out : Out) (coming : Option Buffer) (flush : ℕ) (buf : Buffer) → s.coming ≡ Some buf → coming ≡ None → s.broken ≡ false → 0 < s.limit → s.flush_faults < flush → is_some (sink out).held ≡ is_some (sink s.out).held →
      AppendsPrefix (sink s.out).held (sink out).held (area_bytes buf) → IsInside buf.area → IsWhole buf → ForSome (sink s.out).held (Streams s.width s.height s.limit s.broken) →
      Breaks (stream_state sink s) (stream_state sink (record s { out = out; broken = true; coming = coming; flush_faults = flush })) buf
  breaks s out coming flush buf was gone b some rose t a i w st =
      let broke : (x y : List ℕ) → (sink s.out).held ≡ Some x → y ≡ x ++ a.prefix → AreaBroke s.width s.height s.limit buf.area x y = λ x y e f.
      area_broke s.width s.height s.limit buf x y a.prefix a.rest some i w (subst (λ (c : Bool). Streams s.width s.height s.limit c x) b (st x e)) a.whole f in
      record {
        was = was;
        is = rw (gone, frames_on (sink s.out).held (sink out).held a.prefix t a.grows (λ x y e f. (broke x y e f).frames)) refl;
        count = rose;
        shows = told_on (shown_by s.width s.height) (sink s.out).held (sink out).held a.prefix (SameOutside (panel_of s.width s.height) buf.area) t a.grows (λ x y e f. (broke x y e f).shows);
      }

  pub breaks_streams : (s : StreamState Out) (out : Out) (buf : Buffer) → s.broken ≡ false → 0 < s.limit → is_some (sink out).held ≡ is_some (sink s.out).held →
      AppendsPrefix (sink s.out).held (sink out).held (area_bytes buf) → IsInside buf.area → IsWhole buf → IsStreaming s.width s.height s.limit s.broken (sink s.out).held →
      IsStreaming s.width s.height s.limit true (sink out).held
  breaks_streams s out buf b some t a i w st = record {
    closed = st.closed;
    streams = streams_on (sink s.out).held (sink out).held a.prefix (Streams s.width s.height s.limit true) t a.grows (λ x y e f.
        (area_broke s.width s.height s.limit buf x y a.prefix a.rest some i w (subst (λ (c : Bool). Streams s.width s.height s.limit c x) b (st.streams x e)) a.whole f).streams);
  }

  -- The mark.
  mark : (s : StreamState Out) (x y : List ℕ) → s.broken ≡ false → 0 < s.limit → Streams s.width s.height s.limit s.broken x → y ≡ x ++ frame_bytes → MarkCame s.width s.height s.limit s.broken x y
  mark s x y b some st f =
      let s' : Streams s.width s.height s.limit false x = subst (λ (c : Bool). Streams s.width s.height s.limit c x) b st in
      mark_came s.width s.height s.limit s.broken x y some s' (whole_is x y frame_bytes frame_record (s'.whole refl) f)

  pub presents : (s : StreamState Out) (out : Out) → s.broken ≡ false → 0 < s.limit → is_some (sink out).held ≡ is_some (sink s.out).held → Appends (sink s.out).held (sink out).held frame_bytes →
      ForSome (sink s.out).held (Streams s.width s.height s.limit s.broken) → Presents (stream_state sink s) (stream_state sink (record s { out = out }))
  presents s out b some t a st = record {
    is = rw (shown_on s.width s.height (sink s.out).held (sink out).held frame_bytes t a (λ x y e f. (mark s x y b some (st x e) f).shows)) refl;
    present_faults = omega arith;
  }

  pub writes_frame : (s : StreamState Out) (out : Out) → s.broken ≡ false → 0 < s.limit → is_some (sink out).held ≡ is_some (sink s.out).held → Appends (sink s.out).held (sink out).held frame_bytes →
      ForSome (sink s.out).held (Streams s.width s.height s.limit s.broken) → WritesFrame (stream_state sink s) (stream_state sink (record s { out = out }))
  writes_frame s out b some t a st = written_on s.width s.height (sink s.out).held (sink out).held frame_bytes t a (λ x y e f. (mark s x y b some (st x e) f).frames)

  pub mark_streams : (s : StreamState Out) (out : Out) → s.broken ≡ false → 0 < s.limit → is_some (sink out).held ≡ is_some (sink s.out).held → Appends (sink s.out).held (sink out).held frame_bytes →
      IsStreaming s.width s.height s.limit s.broken (sink s.out).held → IsStreaming s.width s.height s.limit s.broken (sink out).held
  mark_streams s out b some t a st = record {
    closed = st.closed;
    streams = streams_on (sink s.out).held (sink out).held frame_bytes (Streams s.width s.height s.limit s.broken) t a (λ x y e f. (mark s x y b some (st.streams x e) f).streams);
  }

  pub record MarkBroke (s : StreamState Out) (x y : List ℕ) : Type 0 where
    pub shows : shown_by s.width s.height y ≡ shown_by s.width s.height x
    pub writes : Writes s.width s.height x y
    pub streams : Streams s.width s.height s.limit true y

  broke_mark : (s : StreamState Out) (x y prefix rest : List ℕ) → s.broken ≡ false → 0 < s.limit → Streams s.width s.height s.limit s.broken x → prefix ++ rest ≡ frame_bytes → y ≡ x ++ prefix → MarkBroke s x y
  broke_mark s x y prefix rest b some st all f =
      elim (mark_broke s.width s.height s.limit x y prefix rest some (subst (λ (c : Bool). Streams s.width s.height s.limit c x) b st) all f) [
        | inl same ↦ record { shows = same.shows; writes = nothing_written s.width s.height x y same.frames; streams = same.streams }
        | inr came ↦ record { shows = came.shows; writes = all_written s.width s.height x y came.frames; streams = came.streams }
      ]

  pub presents_not : (s : StreamState Out) (out : Out) (present : ℕ) → s.broken ≡ false → 0 < s.limit → s.present_faults ≤ present → is_some (sink out).held ≡ is_some (sink s.out).held → AppendsPrefix (sink s.out).held (sink out).held frame_bytes →
      ForSome (sink s.out).held (Streams s.width s.height s.limit s.broken) → Presents (stream_state sink s) (stream_state sink (record s { out = out; broken = true; present_faults = present }))
  presents_not s out present b some le t a st = record {
    is = rw (shown_on s.width s.height (sink s.out).held (sink out).held a.prefix t a.grows (λ x y e f. (broke_mark s x y a.prefix a.rest b some (st x e) a.whole f).shows)) refl;
    present_faults = le;
  }

  pub writes_prefix : (s : StreamState Out) (out : Out) (present : ℕ) → s.broken ≡ false → 0 < s.limit → is_some (sink out).held ≡ is_some (sink s.out).held → AppendsPrefix (sink s.out).held (sink out).held frame_bytes →
      ForSome (sink s.out).held (Streams s.width s.height s.limit s.broken) → WritesPrefix (stream_state sink s) (stream_state sink (record s { out = out; broken = true; present_faults = present }))
  writes_prefix s out present b some t a st = prefix_on s.width s.height (sink s.out).held (sink out).held a.prefix t a.grows (λ x y e f. (broke_mark s x y a.prefix a.rest b some (st x e) a.whole f).writes)

  pub unmarked_streams : (s : StreamState Out) (out : Out) → s.broken ≡ false → 0 < s.limit → is_some (sink out).held ≡ is_some (sink s.out).held → AppendsPrefix (sink s.out).held (sink out).held frame_bytes →
      IsStreaming s.width s.height s.limit s.broken (sink s.out).held → IsStreaming s.width s.height s.limit true (sink out).held
  unmarked_streams s out b some t a st = record {
    closed = st.closed;
    streams = streams_on (sink s.out).held (sink out).held a.prefix (Streams s.width s.height s.limit true) t a.grows (λ x y e f. (broke_mark s x y a.prefix a.rest b some (st.streams x e) a.whole f).streams);
  }

  -- The opening.
  sizes : (s : StreamState Out) (width height limit : ℕ) (x y : List ℕ) → s.broken ≡ false → Streams s.width s.height s.limit s.broken x → y ≡ x ++ sizes_bytes width height → SizesCame width height limit s.broken x y
  sizes s width height limit x y b st f =
      let s' : Streams s.width s.height s.limit false x = subst (λ (c : Bool). Streams s.width s.height s.limit c x) b st in
      sizes_came width height limit s.broken x y (whole_is x y (sizes_bytes width height) (sizes_record width height) (s'.whole refl) f)

  told_sized : (width height width' height' : ℕ) (old new : Option (List ℕ)) (bs : List ℕ) → is_some new ≡ is_some old → Appends old new bs →
      KeepsTelling (option_map (shown_by width height) old) (option_map (shown_by width' height') new) (λ before after. length after ≡ width' * height')
  told_sized width height width' height' None None bs t a = tt
  told_sized width height width' height' None (Some y) bs t a = absurd (cc)
  told_sized width height width' height' (Some x) None bs t a = absurd (cc)
  told_sized width height width' height' (Some x) (Some y) bs t a = shown_full width' height' y

  pub opens : (s : StreamState Out) (out : Out) (width height limit : ℕ) (block : BlockSize) → s.broken ≡ false → is_some (sink out).held ≡ is_some (sink s.out).held → Appends (sink s.out).held (sink out).held (sizes_bytes width height) →
      ForSome (sink s.out).held (Streams s.width s.height s.limit s.broken) →
      Opens (stream_state sink s) (stream_state sink (record s { out = out; width = width; height = height; limit = limit; block = block })) width height limit block
  opens s out width height limit block b t a st = record {
    is = rw (frames_on (sink s.out).held (sink out).held (sizes_bytes width height) t a (λ x y e f. (sizes s width height limit x y b (st x e) f).frames)) refl;
    shows = told_sized s.width s.height width height (sink s.out).held (sink out).held (sizes_bytes width height) t a;
  }

  pub opens_streams : (s : StreamState Out) (out : Out) (width height limit : ℕ) → s.broken ≡ false → 0 < limit → is_some (sink out).held ≡ is_some (sink s.out).held → Appends (sink s.out).held (sink out).held (sizes_bytes width height) →
      IsStreaming s.width s.height s.limit s.broken (sink s.out).held → IsStreaming width height limit s.broken (sink out).held
  opens_streams s out width height limit b some t a st = record {
    closed = λ none. absurd (omega arith);
    streams = streams_on (sink s.out).held (sink out).held (sizes_bytes width height) (Streams width height limit s.broken) t a (λ x y e f. (sizes s width height limit x y b (st.streams x e) f).streams);
  }

  pub stays_closed : (s : StreamState Out) (out : Out) (wide' high flush : ℕ) → s.broken ≡ false → s.limit ≡ 0 → s.flush_faults < flush → is_some (sink out).held ≡ is_some (sink s.out).held → AppendsPrefix (sink s.out).held (sink out).held (sizes_bytes wide' high) →
      IsStreaming s.width s.height s.limit s.broken (sink s.out).held →
      StaysClosed (stream_state sink s) (stream_state sink (record s { out = out; broken = true; flush_faults = flush })) × (s.flush_faults < flush)
  stays_closed s out wide' high flush b none rose t a st =
      let broke : (x y : List ℕ) → (sink s.out).held ≡ Some x → y ≡ x ++ a.prefix → SizesBroke s.width s.height x y = λ x y e f.
      sizes_broke wide' high s.width s.height x y a.prefix a.rest (st.closed none) ((subst (λ (c : Bool). Streams s.width s.height s.limit c x) b (st.streams x e)).whole refl) a.whole f in (
        record {
          is = rw (
            frames_on (sink s.out).held (sink out).held a.prefix t a.grows (λ x y e f. (broke x y e f).frames),
            shown_on s.width s.height (sink s.out).held (sink out).held a.prefix t a.grows (λ x y e f. (broke x y e f).shows),
            none,
          ) refl;
          flush_faults = omega arith;
        },
        rose,
      )

  pub closed_streams : (s : StreamState Out) (out : Out) (bs : List ℕ) → s.limit ≡ 0 → is_some (sink out).held ≡ is_some (sink s.out).held → Appends (sink s.out).held (sink out).held bs → IsStreaming s.width s.height s.limit s.broken (sink s.out).held →
      IsStreaming s.width s.height s.limit true (sink out).held
  closed_streams s out bs none t a st = record {
    closed = st.closed;
    streams = λ y e. record { whole = λ (b : true ≡ false). absurd (cc); width_is = λ some. absurd (omega arith); height_is = λ some. absurd (omega arith) };
  }
