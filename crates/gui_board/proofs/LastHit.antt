-- The last hit in paint order.
use Rattle.std.proofs.Common.{◌≡◌, ◌∙◌, refl, sym, ap, subst, ℕ, ℤ, ◌+◌, ◌-◌, ◌<◌, ◌≤◌, Bool, true, false, List, [], ◌∷◌, ◌++◌, Option, Some, None, option_map, map, take, drop, length, get_or, arith, add-one, drop-cons}
use Rattle.std.specs.Prelude.{if◌then◌else◌, find, reverse, is_some, ◌&&◌}
use Rattle.std.specs.List.{filter}
use Rattle.std.proofs.lemmas.Bool.{false≢true}
use Rattle.std.proofs.lemmas.List.{reverse-append, take-append-drop}
use Rattle.gui_base.specs.Area.{Rect}
use Rattle.gui_base.specs.Forest.{Forest, Empty, Tree, preorder}
use Rattle.gui_base.specs.declared.Handle.{Handle}
use Rattle.gui_base.specs.declared.words.Flag.TheVariants.{Clickable}
use Rattle.gui_debts.specs.Seen.{IsShownAt, visible_of}
use Rattle.gui_debts.specs.declared.seen.ShownEntry.{ShownEntry}
use Rattle.run_defs.specs.Pointing.{hit, is_flagged, is_hit, seen_handle}
use Rattle.scene_defs.specs.Scene.{Scene, handles_of}
use Rattle.scene_defs.specs.Shown.{Entry, Seen, entries, entries_in, order, own, seen}
use Rattle.scene_defs.specs.Visible.{holds, shown_trees, visible}
use Rattle.gui_board.specs.Hits.{hit_of}

abbrev or_else : {A : Type 0} → Option A → Option A → Option A
or_else None other = other
or_else (Some x) other = Some x

or_else-none : {A : Type 0} (a : Option A) → or_else a None ≡ a
or_else-none None = refl
or_else-none (Some x) = refl

find-append : {A : Type 0} (test : A → Bool) (xs ys : List A) → find test (xs ++ ys) ≡ or_else (find test xs) (find test ys)
find-append test [] ys = refl
find-append test (x ∷ xs) ys = by (test x) (find-append test xs ys) where
  by : (b : Bool) → find test (xs ++ ys) ≡ or_else (find test xs) (find test ys) → (if b then Some x else find test (xs ++ ys)) ≡ or_else (if b then Some x else find test xs) (find test ys)
  by true rest = refl
  by false rest = rest

module _ (scene : Scene) (x y : ℤ) where
  abbrev test : Seen → Bool
  test = is_hit scene x y

  -- the last of these objects that the point hits, or else the one that is known
  abbrev last_hit : Option Handle → List ℕ → Option Handle
  last_hit known [] = known
  last_hit known (h ∷ hs) = last_hit (if test (seen scene h) then Some (record { 0 = h }) else known) hs

  last_hit-append : (known : Option Handle) (hs ks : List ℕ) → last_hit known (hs ++ ks) ≡ last_hit (last_hit known hs) ks
  last_hit-append known [] ks = refl
  last_hit-append known (h ∷ hs) ks = last_hit-append (if test (seen scene h) then Some (record { 0 = h }) else known) hs ks

  -- those of these objects that are seen, and the last of them that is hit
  abbrev lines : List ℕ → List Seen
  lines hs = filter (λ s. is_some s.visible) (map (seen scene) hs)

  abbrev last : List Seen → Option Handle
  last seens = option_map seen_handle (find test (reverse seens))

  one : (a : Option Seen) (b : Bool) (s : Seen) (known : Option Handle) → or_else (option_map seen_handle a) (if b then Some (seen_handle s) else known) ≡ or_else (option_map seen_handle (or_else a (if b then Some s else None))) known
  one None true s known = refl
  one None false s known = refl
  one (Some t) b s known = refl

  more : (s : Seen) (rest : List Seen) → find test (reverse (s ∷ rest)) ≡ or_else (find test (reverse rest)) (if test s then Some s else None)
  more s rest = ap (find test) (reverse-append (s ∷ []) rest) ∙ find-append test (reverse rest) (s ∷ [])

  unseen : (area : Option Rect) (b : Bool) → is_some area ≡ false → (b && holds area x y) ≡ false
  unseen None true e = refl
  unseen None false e = refl
  unseen (Some a) b e = cc

  next : (h : ℕ) (rest : List Seen) (known : Option Handle) (q : Bool) → is_some (visible scene h) ≡ q →
      or_else (last rest) (if test (seen scene h) then Some (record { 0 = h }) else known) ≡ or_else (last (if q then seen scene h ∷ rest else rest)) known
  next h rest known true e =
      one (find test (reverse rest)) (test (seen scene h)) (seen scene h) known
      ∙ ap (λ (a : Option Seen). or_else (option_map seen_handle a) known) (sym (more (seen scene h) rest))
  next h rest known false e =
      ap (λ (b : Bool). or_else (last rest) (if b then Some (record { 0 = h }) else known)) (unseen (visible scene h) (is_flagged Clickable scene (record { 0 = h })) e)

  hits : (known : Option Handle) (hs : List ℕ) → last_hit known hs ≡ or_else (last (lines hs)) known
  hits known [] = refl
  hits known (h ∷ hs) =
      hits (if test (seen scene h) then Some (record { 0 = h }) else known) hs ∙ next h (lines hs) known (is_some (visible scene h)) refl

  -- the last hit of all that is shown
  hit_is : last_hit None (order scene) ≡ hit scene x y
  unfolding hit
  hit_is = hits None (order scene) ∙ or_else-none (last (lines (order scene)))

  -- the last of these entries that is hit, or else what is known
  abbrev pub last_entry : Option Handle → List Entry → Option Handle
  last_entry known [] = known
  last_entry known (e ∷ es) = last_entry (or_else (hit_of scene x y e) known) es

  last_entry-append : (known : Option Handle) (es ks : List Entry) → last_entry known (es ++ ks) ≡ last_entry (last_entry known es) ks
  last_entry-append known [] ks = refl
  last_entry-append known (e ∷ es) ks = last_entry-append (or_else (hit_of scene x y e) known) es ks

  own_is : (h : ℕ) (known : Option Handle) (b : Bool) → or_else (if b then Some (record { 0 = h }) else None) known ≡ (if b then Some (record { 0 = h }) else known)
  own_is h known true = refl
  own_is h known false = refl

  -- an object is hit where its own entry is
  entries_are : (known : Option Handle) (f : Forest ℕ) → last_entry known (entries_in f) ≡ last_hit known (preorder f)
  entries_are known Empty = refl
  entries_are known (Tree h cs rest) =
      let here : Option Handle = if test (seen scene h) then Some (record { 0 = h }) else known in
      let below : Option Handle = last_hit here (preorder cs) in
      ap (λ (k : Option Handle). last_entry k (entries_in cs ++ (record { handle = h; is_bars = true } ∷ entries_in rest))) (own_is h known (test (seen scene h)))
      ∙ (last_entry-append here (entries_in cs) (record { handle = h; is_bars = true } ∷ entries_in rest)
      ∙ (ap (λ (k : Option Handle). last_entry k (entries_in rest)) (entries_are here cs)
      ∙ (entries_are below rest ∙ sym (last_hit-append here (preorder cs) (preorder rest)))))

  -- the last hit of all that is painted
  last_is : last_entry None (entries scene) ≡ hit scene x y
  last_is = entries_are None (handles_of (shown_trees scene)) ∙ hit_is

  -- no entry from the nth on is hit
  abbrev pub NoneFrom : ℕ → Type 0
  NoneFrom n = (known : Option Handle) → last_entry known (drop n (entries scene)) ≡ known

  drop_at : (es : List Entry) (n : ℕ) → n < length es → drop n es ≡ get_or es n (own 0) ∷ drop (n + 1) es
  drop_at es n within = rw (add-one, drop-cons es n (own 0)) refl

  -- it is hit, and none after it is
  found : (n : ℕ) (h : Handle) → n < length (entries scene) → NoneFrom (n + 1) → hit_of scene x y (get_or (entries scene) n (own 0)) ≡ Some h → Some h ≡ hit scene x y
  found n h within none is =
      let es = entries scene in
      let before = last_entry None (take n es) in
      let whole : last_entry None es ≡ last_entry before (drop n es) =
      ap (last_entry None) (sym (take-append-drop n es)) ∙ last_entry-append None (take n es) (drop n es) in
      let from : last_entry before (drop n es) ≡ Some h =
      ap (last_entry before) (drop_at es n within)
      ∙ (ap (λ (k : Option Handle). last_entry (or_else k before) (drop (n + 1) es)) is ∙ none (Some h)) in
      sym (sym last_is ∙ (whole ∙ from))

  less-one : (n : ℕ) → 0 < n → n - 1 + 1 ≡ n
  less-one n some = omega arith

  -- the entry before the nth is hit
  pub hit_before : (n : ℕ) (o : Option Handle) → 0 < n → n ≤ length (entries scene) → NoneFrom n → o ≡ hit_of scene x y (get_or (entries scene) (n - 1) (own 0)) → is_some o ≡ true → o ≡ hit scene x y
  hit_before n None some within none is there = absurd (false≢true there)
  hit_before n (Some h) some within none is there =
      found (n - 1) h (omega arith) (subst NoneFrom (sym (less-one n some)) none) (sym is)

  -- it is not
  pub none_before : (n : ℕ) (o : Option Handle) → 0 < n → n ≤ length (entries scene) → NoneFrom n → o ≡ hit_of scene x y (get_or (entries scene) (n - 1) (own 0)) → is_some o ≡ false → NoneFrom (n - 1)
  none_before n (Some h) some within none is isnt known = absurd (false≢true (sym isnt))
  none_before n None some within none is isnt known =
      let es = entries scene in
      ap (last_entry known) (drop_at es (n - 1) (omega arith))
      ∙ (ap (λ (k : Option Handle). last_entry (or_else k known) (drop (n - 1 + 1) es)) (sym is)
      ∙ subst NoneFrom (sym (less-one n some)) none known)

  -- none is hit at all
  pub none_hit : (n : ℕ) → n ≤ 0 → NoneFrom n → None ≡ hit scene x y
  none_hit n none left =
      let zero : n ≡ 0 = omega arith in
      sym (sym last_is ∙ subst NoneFrom zero left None)

  -- whether the nth is hit, by what is known of it
  pub hit_known : (n : ℕ) (e : ShownEntry) (area : Option Rect) (clicked : Bool) → IsShownAt scene n e → (get_or (entries scene) n (own 0)).is_bars ≡ false → area ≡ visible_of e →
      clicked ≡ (is_flagged Clickable scene e.h && holds area x y) → hit_of scene x y (get_or (entries scene) n (own 0)) ≡ (if clicked then Some e.h else None)
  hit_known n e area clicked shown isnt seen_is is =
      let entry = shown.entry (own 0) in
      ap (hit_of scene x y) entry
      ∙ (ap (λ (q : Bool). if q then None else (if test (seen scene e.h.0) then Some e.h else None)) (sym (ap (λ (k : Entry). k.is_bars) entry) ∙ isnt)
      ∙ (ap (λ (a : Option Rect). if (is_flagged Clickable scene e.h && holds a x y) then Some e.h else None) (sym (seen_is ∙ shown.known.visible))
      ∙ ap (λ (q : Bool). if q then Some e.h else None) (sym is)))
