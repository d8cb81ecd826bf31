use Rattle.std.proofs.Common.{sym, subst, FitsSigned, w32, rules}
use Rattle.std.proofs.lemmas.Int.{to_z-of_z}
use Rattle.gui_input.specs.Points.{IsPoint}
use Rattle.gui_board.specs.Boards.{machine_of}
use Rattle.gui_play.proofs.Touching.{lifted_point, touched_point}
use Rattle.gui_play.proofs.commands.carry_out.Goals as goal

pub feed_pointer-requires : goal.feed_pointer-requires
feed_pointer-requires g c =
    let x : FitsSigned w32 c.in-Touch.x = search rules in
    let y : FitsSigned w32 c.in-Touch.y = search rules in
    let is = simp to_z-of_z at c.down_at.ensures in
    subst IsPoint (sym is) (touched_point (machine_of c.args.board.now) c.in-Touch.x c.in-Touch.y (rw c.in-Touch.is at c.requires.answer))

pub feed_pointer-requires-in-Release : goal.feed_pointer-requires-in-Release
feed_pointer-requires-in-Release g c = subst IsPoint (sym c.lifted.ensures) lifted_point

pub returns-in-On : goal.returns-in-On
returns-in-On g c = rw c.in-On.is (c.add_handler.ensures (g.S.Sink.state c.args.log.now))

pub returns-in-Off : goal.returns-in-Off
returns-in-Off g c = rw c.in-Off.is (c.drop_handlers.ensures (g.S.Sink.state c.args.log.now))

pub returns-in-Group : goal.returns-in-Group
returns-in-Group g c = rw c.in-Group.is (c.add_group.ensures (g.S.Sink.state c.args.log.now))

pub returns-in-Leave : goal.returns-in-Leave
returns-in-Leave g c = rw c.in-Leave.is (c.leave.ensures (g.S.Sink.state c.args.log.now))

pub returns-in-Keypad : goal.returns-in-Keypad
returns-in-Keypad g c = rw c.in-Keypad.is (c.set_keypad_group.ensures (g.S.Sink.state c.args.log.now))

pub returns-in-Encoder : goal.returns-in-Encoder
returns-in-Encoder g c = rw c.in-Encoder.is (c.set_encoder_group.ensures (g.S.Sink.state c.args.log.now))

pub returns-in-Anim : goal.returns-in-Anim
returns-in-Anim g c = rw c.in-Anim.is (c.start_anim.ensures (g.S.Sink.state c.args.log.now))

pub returns-in-Stop : goal.returns-in-Stop
returns-in-Stop g c = rw c.in-Stop.is (c.stop_anim.ensures (g.S.Sink.state c.args.log.now))

pub join_new-requires : goal.join_new-requires
join_new-requires g c = record { answer = rw c.in-Join.is at c.requires.answer; members = c.requires.members }

pub returns-in-Send : goal.returns-in-Send
returns-in-Send g c = rw c.in-Send.is c.send.ensures

pub returns-in-Join : goal.returns-in-Join
returns-in-Join g c = rw c.in-Join.is c.join_new.ensures

pub returns-in-Focus : goal.returns-in-Focus
returns-in-Focus g c = rw c.in-Focus.is c.focus.ensures

pub returns-in-Key : goal.returns-in-Key
returns-in-Key g c = rw c.in-Key.is c.feed_keypad.ensures

pub returns-in-Push : goal.returns-in-Push
returns-in-Push g c = rw c.in-Push.is c.feed_encoder-in-Push.ensures

pub returns-in-Tick : goal.returns-in-Tick
returns-in-Tick g c = rw c.in-Tick.is c.tick.ensures
