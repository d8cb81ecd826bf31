-- Tables in which as much is known as in others, or less, where objects moved.
use Rattle.std.proofs.Common.{◌≡◌, ◌∙◌, refl, sym, ap, ℕ, true, false, [], Option, Some, None, option_map, is_some, List, arith, eqb, inl, inr, subst}
use Rattle.std.proofs.lemmas.Bool.{both_ways, cases_Bool, eqb-true}
use Rattle.gui_base.specs.declared.Handle.{Handle}
use Rattle.gui_boxes.specs.Listing.{times}
use Rattle.gui_pool.specs.Table.{Table, value_at}
use Rattle.widget_defs.specs.Looks.{Look}
use Rattle.scene_defs.specs.Items.{items}
use Rattle.scene_defs.specs.Looks.{look_of}
use Rattle.scene_defs.specs.Place.{place}
use Rattle.scene_defs.specs.Scene.{Object, Scene, is_there, object_at, row_of}
use Rattle.scene_defs.specs.Valid.{IsValid}
use Rattle.gui_layout.proofs.SceneBoxes.{row_found}
use Rattle.gui_layout.proofs.Seen.{gone_is}
use Rattle.debt_defs.specs.Debt.{is_named}
use Rattle.gui_concerns.specs.declared.concerned.Concerned.{Concerned}
use Rattle.gui_concerns.specs.declared.concerned.Concerned.TheVariants.{Nobody, One, Both, Below, Moved, Users, BelowUsers, Anybody}
use Rattle.gui_debts.specs.Owed.{Sight, sight_of}
use Rattle.gui_debts.specs.Seen.{IsSeen}
use Rattle.gui_debts.specs.Sights.{AreSeen, KeepOthers}
use Rattle.gui_debts.specs.declared.seen.Seen.{Seen}
use Rattle.gui_debts.proofs.Sparing.{none-keep, painted, painted-is}
use Rattle.gui_change.specs.Again.{sight_in}
use Rattle.gui_change.specs.Gone.{is_shown}
use Rattle.gui_change.specs.Sees.{IsSeenIn}
use Rattle.gui_change.specs.Shifted.{WasJoined, WasShifted, but_named}
use Rattle.gui_change.proofs.BarsStay.{gone-bars}
use Rattle.gui_change.proofs.Shifting.{some-of}
use Rattle.gui_change.proofs.Sighted.{seen-by-sight}

-- nothing is seen of what is not there
pub gone-sight : (scene : Scene) → IsValid scene → (h : ℕ) → is_there scene h ≡ false → sight_in scene h ≡ sight_of None
gone-sight scene valid h gone = by (object_at scene h) refl where
  by : (o : Option Object) → object_at scene h ≡ o → sight_in scene h ≡ sight_of None
  by None none =
      let nowhere = gone_is scene valid h (sym (ap (option_map row_of) none)) in
      let empty : items scene h ≡ [] = painted-is scene (object_at scene h) (place scene h) ∙ ap (λ (l : Option Look). painted l (place scene h)) (ap (option_map (look_of scene)) none) in
      let bare = gone-bars scene h gone in
      λ i. record { visible = nowhere i; items = empty i; bars = bare i }
  by (Some object) is = absurd (both_ways (is_there scene h) gone (row_found scene h (row_of object) (sym (ap (option_map row_of) is))).0)

-- where less is known, the same holds of it
pub fewer-shifted : (old new : Table Seen) (after : Scene) (named : Option ℕ) (concerned : Concerned) (moved : List Handle) → ((k : ℕ) (s : Seen) → value_at new k ≡ Some s → value_at old k ≡ Some s) → WasShifted old after named concerned moved →
    WasShifted new after named concerned moved
fewer-shifted old new after named concerned moved fewer was = record {
  before = was.before;
  valid = was.valid;
  seen = λ k s found. was.seen k s (fewer k s found);
  stands = λ k some there off other. was.stands k (known k some) there off other;
  paints = λ k some there off other apart. was.paints k (known k some) there off other apart;
} where
  known : (k : ℕ) → is_some (value_at new k) ≡ true → is_some (value_at old k) ≡ true
  known k some = let s = some-of (value_at new k) some in ap is_some (fewer k s.0 s.1)

-- what is shown for the first time is known to be seen nowhere
module _ (old new : Table Seen) (after : Scene) (named : Option ℕ) (concerned : Concerned) (moved : List Handle) (was : WasJoined old after named concerned moved) (sights : (k : ℕ) → sight_of (value_at new k) ≡ sight_of (value_at old k))
    (shown : (k : ℕ) → is_some (value_at new k) ≡ true → is_shown after k ≡ true) where
  known : (k : ℕ) → is_some (value_at new k) ≡ true → times moved k ≡ 0 → is_some (value_at old k) ≡ true
  known k some off = by (value_at old k) refl where
    by : (o : Option Seen) → value_at old k ≡ o → is_some (value_at old k) ≡ true
    by None none = let more = was.fresh k (shown k some) none in absurd (omega (arith, more, off))
    by (Some s) is = ap is_some is

  seen : AreSeen new was.was.before
  seen k s found = by (value_at old k) refl where
    by : (o : Option Seen) → value_at old k ≡ o → IsSeen was.was.before k s
    by None none =
        let same : sight_of (Some s) ≡ sight_in was.was.before k = ap sight_of (sym found) ∙ (sights k ∙ (ap sight_of none ∙ sym (was.unseen k (shown k (ap is_some found)) none))) in
        record {
          visible = ap (λ (x : Sight). x.visible) same;
          items = λ some. ap (λ (x : Sight). x.items) same;
          bars = λ some. ap (λ (x : Sight). x.bars) same;
          keeps = none-keep was.was.before k s.paints (ap (λ (x : Sight). x.items) (ap sight_of (sym found) ∙ (sights k ∙ ap sight_of none)));
        }
    by (Some t) is = seen-by-sight was.was.before k t s (ap sight_of (sym is) ∙ (sym (sights k) ∙ ap sight_of found)) (was.was.seen k t is)

  pub joined : WasShifted new after named concerned moved
  joined = record {
    before = was.was.before;
    valid = was.was.valid;
    seen = seen;
    stands = λ k some there off other. was.was.stands k (known k some off) there off other;
    paints = λ k some there off other apart. was.was.paints k (known k some off) there off other apart;
  }

-- where what is known of the named one is seen of it, it keeps its items too
pub keeps-but : (t : Table Seen) (scene : Scene) (named : Option ℕ) (painted : Concerned) → KeepOthers t painted scene → ((k : ℕ) → is_named named k ≡ true → IsSeenIn t scene k) → KeepOthers t (but_named painted named) scene
keeps-but t scene named Nobody known own = known
keeps-but t scene named (One h) known own = elim (cases_Bool (is_named named h.0)) [
  | inl is ↦ rw is (λ k s there off found. elim (cases_Bool (eqb k h.0)) [
    | inl here ↦ (own k (subst (λ (j : ℕ). is_named named j ≡ true) (sym (eqb-true k h.0 here)) is) s found).keeps
    | inr other ↦ known k s there other found
  ])
  | inr isnt ↦ rw isnt known
]
keeps-but t scene named (Both h p) known own = known
keeps-but t scene named (Below h) known own = known
keeps-but t scene named (Moved h p q) known own = known
keeps-but t scene named (Users n) known own = known
keeps-but t scene named (BelowUsers n) known own = known
keeps-but t scene named Anybody known own = known
