use Rattle.std.proofs.Common.{◌≡◌, ◌∙◌, ◌<◌, ◌++◌, ◌∷◌, [], refl, sym, subst, false, List, length, arith}
use Rattle.std.specs.Prelude.{is_some}
use Rattle.gui_base.specs.declared.Handle.{Handle}
use Rattle.gui_pool.specs.Table.{Table, value_at}
use Rattle.gui_boxes.specs.declared.mark.Mark.{Mark}
use Rattle.gui_boxes.specs.declared.mark.Mark.TheVariants.{Children}
use Rattle.gui_boxes.specs.Pending.{AreMarks}
use Rattle.gui_boxes.proofs.Pendings.{joined-marks, some-any}
use Rattle.gui_boxes.proofs.marks.Marks.mark_children.Goals as goal

pub invariant_of-self : goal.invariant_of-self
invariant_of-self c =
    let self = c.args.self.now in
    let h = c.args.h in
    let keys = self.marks.keys in
    let low : h.0 < 65536 = c.well_formed.1.0.1.1.0.1 in
    let within : h.0 < length self.pending.values = omega arith in
    let off : is_some (value_at self.pending h.0) ≡ false = sym c.has_mark.ensures ∙ c.if-has_mark.false in
    let few : length self.listed.items < self.objects = c.requires.room (some-any self.objects self.pending self.listed.items h.0 self.marks ∙ off) in
    let room = self.room in
    record {
      marks = subst (λ (hs : List Handle). AreMarks self.objects c.put.new.table hs) (sym c.push_reserved.ensures.items)
          (subst (λ (t : Table Mark). AreMarks self.objects t (self.listed.items ++ h ∷ [])) (sym c.put.ensures) (joined-marks self.objects self.pending self.listed.items h Children self.marks refl refl within off few));
      room = rw c.push_reserved.ensures.capacity room;
      solved_room = self.solved_room;
    }
