use Rattle.std.proofs.Common.{refl}
use Rattle.std.specs.Prelude.{Ok}
use Rattle.nim_program.specs.Program.{Literal}
use Rattle.nim_program.specs.View.{literal_of}
use Rattle.expr_rules.specs.Constants.{constant_rule}
use Rattle.expr_parts.specs.View.{valued_of}
use Rattle.expr_parts.proofs.ForCallers.{goes, stops}
use Rattle.nim_types.specs.Table.{type_at}
use Rattle.decl_stmts.specs.ViewDefinitions.{fixed_of}
use Rattle.decl_stmts.proofs.constants.fixed_value.Goals as goal

pub returns-in-Ok-clause-answers : goal.returns-in-Ok-clause-answers
returns-in-Ok-clause-answers c = λ ts env u.
    let v = c.args.value in
    goes (fixed_of ts) literal_of (constant_rule env.facts (valued_of ts v))
    (λ (l : Literal). Ok (record { of = type_at ts v.ty; literal = l })) c.in-Ok.literal
    (Ok (record { ty = v.ty; literal = c.in-Ok.literal })) (c.in-Ok.ensures ts env.facts u) refl

pub returns-in-Err-clause-answers : goal.returns-in-Err-clause-answers
returns-in-Err-clause-answers c = λ ts env u.
    let v = c.args.value in
    stops (fixed_of ts) literal_of (constant_rule env.facts (valued_of ts v))
    (λ (l : Literal). Ok (record { of = type_at ts v.ty; literal = l })) c.in-Err.stop
    (c.in-Err.ensures ts env.facts u)
