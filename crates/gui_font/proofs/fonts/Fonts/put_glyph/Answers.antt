use Rattle.std.proofs.Common.{◌≡◌, ◌∙◌, sym, refl, true, ◌-◌, arith, length, ◌≤◌, ap}
use Rattle.std.specs.Prelude.{vec_len, vec_capacity}
use Rattle.gui_pool.specs.Table.{value_at, value_inserted}
use Rattle.gui_font.specs.Views.{has_slot, key_of}
use Rattle.gui_font.proofs.Growing.{slot_there, kept_more, fonts_given, no_place}
use Rattle.gui_font.proofs.Slots.{listed_there}
use Rattle.gui_font.proofs.fonts.Fonts.put_glyph.Goals as goal
use Rattle.gui_font.proofs.fonts.Fonts.put_glyph.Goals.{After-append}

pub overflow_cast-place : goal.overflow_cast-place
overflow_cast-place c = let few = c.self.invariant.few in omega arith

slot_there_at : (c : After-append) → has_slot c.self.inside.fonts.items c.args.id ≡ true
slot_there_at c =
    let i = c.self.inside in
    sym (slot_there i.glyphs.items i.ink.items i.fonts.items c.args.id) ∙ listed_there i.glyphs.items i.ink.items i.fonts.items c.args.id c.requires.listed (rw (← c.self.view_is) at c.requires.there)

index_is : (c : After-append) → c.insert.new.self ≡ value_inserted c.self.inside.index (key_of c.args.id c.args.code) (length c.self.inside.glyphs.items)
index_is c = c.in-Ok.ensures.inserts ∙ ap (λ k. value_inserted c.self.inside.index k c.len-place.result) c.key_of.ensures.value ∙ ap (value_inserted c.self.inside.index (key_of c.args.id c.args.code)) (omega arith)

pub insert-requires-clause-vacant : goal.insert-requires-clause-vacant
insert-requires-clause-vacant c =
    let i = c.self.inside in
    let listed = listed_there i.glyphs.items i.ink.items i.fonts.items c.args.id c.requires.listed (rw (← c.self.view_is) at c.requires.there) in
    let there : has_slot i.fonts.items c.args.id ≡ true = sym (slot_there i.glyphs.items i.ink.items i.fonts.items c.args.id) ∙ listed in
    let none = no_place i.glyphs.items i.ink.items i.fonts.items c.args.id c.args.code c.requires.listed there (rw (← c.self.view_is) at c.requires.new) in
    ap (value_at i.index) c.key_of.ensures.value ∙ c.self.invariant.indexed.places c.args.id c.args.code (omega arith) (omega arith) ∙ none

pub invariant_of-self : goal.invariant_of-self
invariant_of-self c =
    let i = c.self.inside in
    let there = slot_there_at c in
    let none = no_place i.glyphs.items i.ink.items i.fonts.items c.args.id c.args.code c.requires.listed there (rw (← c.self.view_is) at c.requires.new) in
    let spare : 1 ≤ i.index.spare = rw (← c.self.view_is) at c.requires.glyphs in
    rw (c.push_reserved.ensures.items, c.append.ensures.items, c.as_slice.ensures.value, index_is c, c.push_reserved.ensures.capacity)
    (kept_more i.fonts.items i.index i.glyphs.items i.ink.items c.args.rows.now _ (record { font = c.args.id; code = c.args.code; shape = c.args.shape; ink = length i.ink.items }) c.self.invariant there refl c.requires.long (omega arith) (omega arith) none spare)

pub returns : goal.returns
returns c =
    let i = c.self.inside in
    let p = c.push_reserved.ensures in
    let a = c.append.ensures in
    let ink : vec_capacity c.append.new.ink - vec_len c.append.new.ink ≡ vec_capacity i.ink - vec_len i.ink - length c.args.rows.now = omega (arith, a.capacity, a.len) in
    rw (
      ← c.self.view_is,
      p.items,
      a.items,
      index_is c,
      ink,
      c.as_slice.ensures.value,
      fonts_given i.fonts.items i.fonts.items _ i.glyphs.items i.ink.items c.args.rows.now _ (record { font = c.args.id; code = c.args.code; shape = c.args.shape; ink = length i.ink.items }) c.self.invariant refl c.requires.long,
    ) refl
