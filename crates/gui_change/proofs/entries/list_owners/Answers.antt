use Rattle.std.proofs.Common.{◌≡◌, ◌∙◌, ◌++◌, ◌∷◌, ◌+◌, [], refl, sym, ap, List, drop, length, get_or, append_assoc, arith}
use Rattle.std.proofs.lemmas.List.{append-nil, drop_all}
use Rattle.gui_base.specs.declared.Handle.{Handle}
use Rattle.gui_change.specs.Entries.{owners}
use Rattle.gui_change.specs.declared.entries.Entry.{Entry}
use Rattle.gui_change.proofs.Lending.{no_entry}
use Rattle.gui_change.proofs.Listed.{own_left, own_next}
use Rattle.gui_change.proofs.entries.list_owners.Goals as goal
use Rattle.gui_change.proofs.entries.list_owners.Goals.{then-not-entry, else-not-entry}

pub loop-entry-init : goal.loop-entry-init
loop-entry-init c =
    let room = c.requires.room in
    let none = c.requires.len in
    record { listed = ap (λ (hs : List Handle). hs ++ owners c.args.painted.now) c.requires.empty; room = omega (arith, room, none); capacity = refl }

pub push_reserved-requires : goal.push_reserved-requires
push_reserved-requires c =
    let count = ap length (own_next c.args.painted.now c.loop-entry.entry-index c.loop-entry-test.true c.if-not-entry.true) in
    let room = c.loop-entry.invariant.room in
    omega (arith, count, room)

pub loop-entry-preserved : goal.loop-entry-preserved
loop-entry-preserved c =
    let es = c.args.painted.now in
    let i = c.loop-entry.entry-index in
    let within = c.loop-entry-test.true in
    let inv = c.loop-entry.invariant in
    let before = c.loop-entry.listed.items in
    let room = inv.room in
    elim c.if-not-entry.branch [
      | then-not-entry w ↦
          let h = (get_or es i no_entry).h in
          let next = own_next es i within w.if-not-entry.true in
          let count = ap length next in
          let len = w.push_reserved.ensures.len in
          let same = w.push_reserved.ensures.capacity in
          rw w.listed-is (record {
            listed =
                ap (λ (l : List Handle). l ++ owners (drop (i + 1) es)) w.push_reserved.ensures.items
                ∙ (append_assoc before (h ∷ []) (owners (drop (i + 1) es))
                ∙ (ap (λ (l : List Handle). before ++ l) (sym next) ∙ inv.listed));
            room = omega (arith, count, room, len, same);
            capacity = same ∙ inv.capacity;
          })
      | else-not-entry w ↦
          let left = own_left es i within w.if-not-entry.false in
          let count = ap length left in
          rw w.listed-is (record {
            listed = ap (λ (l : List Handle). before ++ l) (sym left) ∙ inv.listed;
            room = omega (arith, count, room);
            capacity = inv.capacity;
          })
    ]

pub returns-clause-listed : goal.returns-clause-listed
returns-clause-listed c =
    let before = c.loop-entry.listed.items in
    let none : drop c.loop-entry.entry-index c.args.painted.now ≡ [] = drop_all c.loop-entry.entry-index c.args.painted.now c.loop-entry-test.false in
    sym (append-nil before) ∙ (ap (λ (l : List Entry). before ++ owners l) (sym none) ∙ c.loop-entry.invariant.listed)
