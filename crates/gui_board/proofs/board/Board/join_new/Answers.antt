use Rattle.std.proofs.Common.{subst}
use Rattle.run_laws.proofs.Members.{one_more_fits}
use Rattle.scene_defs.specs.Valid.{IsValid}
use Rattle.gui_board.specs.Boards.{machine_of}
use Rattle.gui_board.proofs.Answering.{may_join}
use Rattle.gui_board.proofs.board.Board.join_new.Goals as goal

pub join-requires-clause-room : goal.join-requires-clause-room
join-requires-clause-room g c =
    let machine = machine_of c.args.self.now in
    let valid : IsValid machine.scene = subst IsValid c.store.ensures.scene c.tree-tree.ensures.valid in
    let may = may_join machine c.args.id c.args.h c.requires.answer in
    one_more_fits machine c.args.h valid c.requires.members may.0 may.1
