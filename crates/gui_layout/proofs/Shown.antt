-- What is shown of an object, by where it stands.
use Rattle.std.proofs.Common.{◌≡◌, ◌∙◌, refl, sym, ap, ℕ, ℤ, pos, true, Option, Some, None, option_map}
use Rattle.std.specs.Prelude.{is_some, ◌+ℤ◌, ◌-ℤ◌}
use Rattle.std.proofs.lemmas.Bool.{false≢true}
use Rattle.std.proofs.Math.IntN.{+ℤ-neg_ℤ_cancel, +ℤ_comm, -ℤ-+ℤ_cancel}
use Rattle.gui_base.specs.Area.{Rect, area_at}
use Rattle.gui_pool.specs.Table.{Table, value_at}
use Rattle.gui_boxes.specs.declared.entry.Entry.{Entry}
use Rattle.gui_boxes.specs.Standing.{Standing}
use Rattle.gui_boxes.specs.Tables.{area_in, standing_in, told}
use Rattle.gui_boxes.specs.Touched.{standing_at}
use Rattle.gui_layout.specs.Solved.{offset_in, reach_in}
use Rattle.gui_layout.proofs.Staying.{standing-entry, standing_or}

-- what an entry shows goes by where it stands
shown : {A : Type 0} (g : Standing → A) (h : Entry → A) → ((x : Entry) → h x ≡ g (standing_in x)) → (v w : Option Entry) → is_some v ≡ is_some w → standing_or w ≡ standing_or v → option_map h w ≡ option_map h v
shown g h is None None some same = refl
shown g h is None (Some y) some same = absurd (false≢true some)
shown g h is (Some x) None some same = absurd (false≢true (sym some))
shown g h is (Some x) (Some y) some same = ap (λ a. Some a) (is y ∙ (ap g same ∙ sym (is x)))

pos-is : (a b : ℕ) → pos a ≡ pos b → a ≡ b
pos-is a b e = cc

module _ (k : ℕ) (d e : Table Entry) where
  module _ (same : standing_at (told e) k ≡ standing_at (told d) k) (some : is_some (value_at d k) ≡ is_some (value_at e k)) where
    stood : standing_or (value_at e k) ≡ standing_or (value_at d k)
    stood = sym (standing-entry e k) ∙ (same ∙ standing-entry d k)

    pub place-shown : option_map area_in (value_at e k) ≡ option_map area_in (value_at d k)
    place-shown = shown (λ s. area_at s.slot.x s.slot.y s.width s.slot.height) area_in (λ x. refl) (value_at d k) (value_at e k) some stood

    pub reach-shown : option_map reach_in (value_at e k) ≡ option_map reach_in (value_at d k)
    reach-shown = shown (λ s. s.scrolled.reach) reach_in (λ x. refl) (value_at d k) (value_at e k) some stood

    pub offset-shown : option_map offset_in (value_at e k) ≡ option_map offset_in (value_at d k)
    offset-shown = shown (λ s. s.scrolled.offset) offset_in (λ x. refl) (value_at d k) (value_at e k) some stood

  -- and where it stands follows from what is shown
  wide : (x y : ℤ) (a b : ℕ) → x ≡ y → (x +ℤ pos a) -ℤ pos 1 ≡ (y +ℤ pos b) -ℤ pos 1 → a ≡ b
  wide x y a b first last =
      let ends : (x +ℤ pos a) ≡ (y +ℤ pos b) = sym (-ℤ-+ℤ_cancel (x +ℤ pos a) (pos 1)) ∙ (ap (λ n. n +ℤ pos 1) last ∙ -ℤ-+ℤ_cancel (y +ℤ pos b) (pos 1)) in
      let turned : (pos a +ℤ x) ≡ (pos b +ℤ x) = +ℤ_comm (pos a) x ∙ (ends ∙ (ap (λ n. n +ℤ pos b) (sym first) ∙ +ℤ_comm x (pos b))) in
      pos-is a b (sym (+ℤ-neg_ℤ_cancel (pos a) x) ∙ (ap (λ n. n -ℤ x) turned ∙ +ℤ-neg_ℤ_cancel (pos b) x))

  entry-stands : (x y : Entry) → area_in y ≡ area_in x → reach_in y ≡ reach_in x → offset_in y ≡ offset_in x → standing_in y ≡ standing_in x
  entry-stands x y area reach offset =
      let left : y.position.x ≡ x.position.x = ap (λ (r : Rect). r.x1) area in
      let top : y.position.y ≡ x.position.y = ap (λ (r : Rect). r.y1) area in
      let width : y.width.pixels ≡ x.width.pixels = wide y.position.x x.position.x y.width.pixels x.width.pixels left (ap (λ (r : Rect). r.x2) area) in
      let height : y.position.height ≡ x.position.height = wide y.position.y x.position.y y.position.height x.position.height top (ap (λ (r : Rect). r.y2) area) in
      λ i. record {
        width = width i;
        slot = record { x = left i; y = top i; height = height i };
        scrolled = record { reach = reach i; offset = offset i };
      }

  stands : (v w : Option Entry) → is_some v ≡ true → is_some w ≡ true → option_map area_in w ≡ option_map area_in v → option_map reach_in w ≡ option_map reach_in v → option_map offset_in w ≡ option_map offset_in v → standing_or w ≡ standing_or v
  stands None w had has area reach offset = absurd (false≢true had)
  stands (Some x) None had has area reach offset = absurd (false≢true has)
  stands (Some x) (Some y) had has area reach offset = entry-stands x y (some-is area) (some-is reach) (some-is offset)
    where
      some-is : {A : Type 0} {a b : A} → Some a ≡ Some b → a ≡ b
      some-is e = cc

  pub standing-shown : is_some (value_at d k) ≡ true → is_some (value_at e k) ≡ true → option_map area_in (value_at e k) ≡ option_map area_in (value_at d k) → option_map reach_in (value_at e k) ≡ option_map reach_in (value_at d k) → option_map offset_in (value_at e k) ≡ option_map offset_in (value_at d k) →
      standing_at (told e) k ≡ standing_at (told d) k
  standing-shown had has area reach offset = standing-entry e k ∙ (stands (value_at d k) (value_at e k) had has area reach offset ∙ sym (standing-entry d k))
