use Rattle.std.proofs.Common.{sym, ◌∙◌, ap, arith}
use Rattle.gui_base.specs.Names.{named, table}
use Rattle.run_defs.specs.declared.names.Name.{Name}
use Rattle.run_defs.specs.declared.names.TheConstants.{COMMANDS}
use Rattle.scene_script.proofs.ShortcutLemmas.{three, four, five, pos, set, size, text, tick, local, front, value}
use Rattle.scene_script.proofs.commands.command_named.Goals as goal

pub returns-in-pos : goal.returns-in-pos
returns-in-pos c =
    let word = three c.args.word.now 112 111 115 (omega arith) (omega arith) (omega arith) (omega arith) (omega arith) in
    sym (ap (named (table {A = Name} COMMANDS)) word ∙ pos)

pub returns-in-set : goal.returns-in-set
returns-in-set c =
    let word = three c.args.word.now 115 101 116 (omega arith) (omega arith) (omega arith) (omega arith) (omega arith) in
    sym (ap (named (table {A = Name} COMMANDS)) word ∙ set)

pub returns-in-size : goal.returns-in-size
returns-in-size c =
    let word = four c.args.word.now 115 105 122 101 (omega arith) (omega arith) (omega arith) (omega arith) (omega arith) (omega arith) in
    sym (ap (named (table {A = Name} COMMANDS)) word ∙ size)

pub returns-in-116 : goal.returns-in-116
returns-in-116 c =
    let word = four c.args.word.now 116 101 120 116 (omega arith) (omega arith) (omega arith) (omega arith) (omega arith) (omega arith) in
    sym (ap (named (table {A = Name} COMMANDS)) word ∙ text)

pub returns-in-tick : goal.returns-in-tick
returns-in-tick c =
    let word = four c.args.word.now 116 105 99 107 (omega arith) (omega arith) (omega arith) (omega arith) (omega arith) (omega arith) in
    sym (ap (named (table {A = Name} COMMANDS)) word ∙ tick)

pub returns-in-local : goal.returns-in-local
returns-in-local c =
    let word = five c.args.word.now 108 111 99 97 108 (omega arith) (omega arith) (omega arith) (omega arith) (omega arith) (omega arith) (omega arith) in
    sym (ap (named (table {A = Name} COMMANDS)) word ∙ local)

pub returns-in-front : goal.returns-in-front
returns-in-front c =
    let word = five c.args.word.now 102 114 111 110 116 (omega arith) (omega arith) (omega arith) (omega arith) (omega arith) (omega arith) (omega arith) in
    sym (ap (named (table {A = Name} COMMANDS)) word ∙ front)

pub returns-in-value : goal.returns-in-value
returns-in-value c =
    let word = five c.args.word.now 118 97 108 117 101 (omega arith) (omega arith) (omega arith) (omega arith) (omega arith) (omega arith) (omega arith) in
    sym (ap (named (table {A = Name} COMMANDS)) word ∙ value)
