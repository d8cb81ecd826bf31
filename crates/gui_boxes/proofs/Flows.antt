-- Slots that are dealt child by child.
use Rattle.std.proofs.Common.{◌≡◌, ◌∙◌, refl, sym, ap, subst, ℕ, ◌<◌, Bool, List, ◌∷◌, length, get_or, set, map}
use Rattle.std.specs.List.{All}
use Rattle.std.proofs.lemmas.List.{get_or-set_same, length-set}
use Rattle.std.proofs.lemmas.List.Elements.{All-nil, All-cons}
use Rattle.gui_base.specs.Forest.{Forest, Empty, Tree, roots}
use Rattle.layout_defs.specs.declared.Course.{Course}
use Rattle.layout_defs.specs.declared.Course.TheVariants.{Free, Across, Down}
use Rattle.layout_defs.specs.Boxes.{Box}
use Rattle.layout_defs.specs.Solving.{Tall, tall_box, Slot, Room, own_slot, dealt, in_order, ordered_slots, nowhere}
use Rattle.gui_flex.specs.declared.item.FlexItem.{FlexItem}
use Rattle.gui_flex.specs.Items.{item_of, items_of}
use Rattle.gui_boxes.specs.Kids.{told_trees, Deals}
use Rattle.gui_boxes.specs.Settled.{Layout, known_at, tall_of}
use Rattle.gui_boxes.specs.Views.{box_at}
use Rattle.gui_boxes.specs.Slots.{flow_item, item_slot, arranged, at_roots, IsClose}
use Rattle.gui_tree.proofs.Parts.{IsDistinct}
use Rattle.gui_boxes.proofs.Keeps.{keeps_none, keeps_same, keeps_first, keeps_top}
use Rattle.gui_boxes.proofs.Lists.{map-in_order}

module _ (l : Layout) (room : Room) where
  abbrev pub talls : Forest ℕ → List Tall
  talls f = map tall_of (roots (told_trees l f))

  pub slots_none : (t flow : List Slot) → Deals l room t t Empty flow
  slots_none t flow = record { dealt = refl; others = keeps_none nowhere t; close = All-nil (IsClose room.x room.y) }

  pub slots_first : (a c : List Slot) (h : ℕ) (slot : Slot) (cs rest : Forest ℕ) (kid : Tall) (flow later : List Slot) → IsDistinct (Tree h cs rest) → h < length a → kid ≡ tall_of (known_at (box_at l.boxes) l h) →
      dealt tall_box (own_slot room) (kid ∷ talls rest) flow ≡ slot ∷ dealt tall_box (own_slot room) (talls rest) later → IsClose room.x room.y slot → Deals l room (set a h slot) c rest later → Deals l room a c (Tree h cs rest) flow
  slots_first a c h slot cs rest kid flow later distinct short is_kid is close deals =
      let top : get_or c h nowhere ≡ slot = deals.others.others h distinct.2 ∙ get_or-set_same a h slot nowhere short in
      let heads : at_roots c (Tree h cs rest) ≡ slot ∷ at_roots c rest = ap (λ (s : Slot). s ∷ at_roots c rest) top in
      record {
        dealt = heads ∙ (ap (λ ss. slot ∷ ss) deals.dealt ∙ (sym is ∙ ap (λ (k : Tall). dealt tall_box (own_slot room) (k ∷ talls rest) flow) is_kid));
        others = keeps_first nowhere a (set a h slot) c h cs rest (keeps_top nowhere a a h cs slot (keeps_same nowhere a cs) (length-set a h slot)) deals.others;
        close = subst (All (IsClose room.x room.y)) (sym heads) (All-cons (IsClose room.x room.y) slot (at_roots c rest) close deals.close);
      }

-- items that are made of children and placed in the order of the flow
arranged_kids : (course : Course) (box : Box) (room : Room) (kids : List Tall) → (course ≡ Free → ⊥) → arranged course box room (map (flow_item course room.height) kids) ≡ ordered_slots course box room kids
arranged_kids Free box room kids other = absurd (other refl)
arranged_kids Across box room kids other = refl
arranged_kids Down box room kids other = refl

pub flow_is : (course : Course) (box : Box) (room : Room) (back : Bool) (kids : List Tall) (filled turned placed final : List FlexItem) → (course ≡ Free → ⊥) →
    items_of filled ≡ map (flow_item course room.height) kids → turned ≡ in_order back filled → map (item_slot course room) placed ≡ arranged course box room (items_of turned) → final ≡ in_order back placed →
    map (item_slot course room) final ≡ in_order back (ordered_slots course box room (in_order back kids))
flow_is course box room back kids filled turned placed final other fills turns places ends =
    let items : items_of turned ≡ map (flow_item course room.height) (in_order back kids) =
    ap items_of turns ∙ (map-in_order item_of back filled ∙ (ap (in_order back) fills ∙ sym (map-in_order (flow_item course room.height) back kids))) in
    ap (map (item_slot course room)) ends
    ∙ (map-in_order (item_slot course room) back placed
    ∙ ap (in_order back) (places ∙ (ap (arranged course box room) items ∙ arranged_kids course box room (in_order back kids) other)))
