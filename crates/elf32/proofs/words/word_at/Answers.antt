use Rattle.std.proofs.Common.{◌-◌, drop, length, arith}
use Rattle.std.proofs.lemmas.List.{length-drop, take_all}
use Rattle.elf32.proofs.FourBytes.{word_there, word_number}
use Rattle.elf32.proofs.words.word_at.Goals as goal

pub returns-clause-there : goal.returns-clause-there
returns-clause-there c =
    let there = word_there c.args.bytes.now c.args.at (λ i. let fits = c.type_inv.bytes i in omega (arith, fits)) c.requires in
    let long = length-drop c.args.at c.args.bytes.now in
    let all = take_all (length c.args.bytes.now - c.args.at) (drop c.args.at c.args.bytes.now) in
    grind (arith, there, long, all)

pub returns-clause-number : goal.returns-clause-number
returns-clause-number c =
    let number = word_number c.args.bytes.now c.args.at c.requires in
    let long = length-drop c.args.at c.args.bytes.now in
    let all = take_all (length c.args.bytes.now - c.args.at) (drop c.args.at c.args.bytes.now) in
    grind (arith, number, long, all)
