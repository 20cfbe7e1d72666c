use Rattle.std.proofs.Common.{sym, ap, length, Some}
use Rattle.std.specs.Prelude.{Ok}
use Rattle.nim_types.specs.Types.{sequence}
use Rattle.nim_types.specs.Table.{type_at}
use Rattle.nim_program.specs.Nodes.{new_sequence}
use Rattle.nim_program.specs.View.{expr_of}
use Rattle.expr_rules.specs.Answers.{node}
use Rattle.expr_parts.proofs.ForCallers.{below_as, made_as}
use Rattle.expr_operations.proofs.new_sequences.so_many.Goals as goal

pub returns-in-Ok-clause-answers : goal.returns-in-Ok-clause-answers
returns-in-Ok-clause-answers c = λ ts facts u.
    let n = node c.args.number c.args.at in
    let e = expr_of ts c.args.elements in
    made_as ts (Ok (new_sequence n (sequence (type_at ts c.args.of)) e))
    (λ ts. new_sequence n (type_at ts c.in-Ok.ty) (expr_of ts c.args.elements)) c.on_one.result
    (ap (λ t. Ok (new_sequence n t e)) (sym (c.in-Ok.ensures.means ts facts u))) c.on_one.ensures.expr c.on_one.ensures.memory

pub returns-in-Ok-clause-within : goal.returns-in-Ok-clause-within
returns-in-Ok-clause-within c = below_as (length c.add.new.types) (Some c.in-Ok.ty) c.on_one.result c.in-Ok.ensures.below c.on_one.ensures.number
