use Rattle.std.proofs.Common.{ap, ◌∙◌}
use Rattle.std.specs.Prelude.{ℤ, Ok, Option}
use Rattle.nim_types.specs.Table.{type_at}
use Rattle.nim_program.specs.declared.expr.Expr.{Expr}
use Rattle.nim_program.specs.Program.{Read, Element}
use Rattle.nim_program.specs.View.{expr_of, if_type}
use Rattle.expr_rules.specs.Answers.{node, typed_as}
use Rattle.expr_rules.specs.Constructions.{element_of}
use Rattle.expr_rules.specs.Paths.{path_of}
use Rattle.expr_parts.specs.View.{valued_of}
use Rattle.arc_base.proofs.ForCallers.{answers_as, makes}
use Rattle.expr_parts.proofs.Fields.{if_ok}
use Rattle.expr_parts.proofs.parts.element_of.Goals as goal

pub returns-in-Some-clause-answers : goal.returns-in-Some-clause-answers
returns-in-Some-clause-answers c = λ ts facts k h.
    let of = λ (e : Expr). typed_as (expr_of ts e) k in
    let v = valued_of ts c.args.value in
    let i = valued_of ts c.args.index in
    let ty = type_at ts c.in-Some.ty in
    let made = λ (z : Option ℤ). Read (Element (node c.args.number c.args.at) ty (path_of v.expr) i.expr z) in
    answers_as of (element_of facts c.args.number k c.args.at v i (if_type ts c.args.ty)) (Ok (typed_as (made c.args.constant) k)) c.read_element.result
    (ap (λ o. element_of facts c.args.number k c.args.at v i (if_type ts o)) c.in-Some.is ∙ ap (λ z. Ok (typed_as (made z) k)) h)
    (makes of (typed_as (made c.args.constant) k) c.read_element.result
    (if_ok c.read_element.result c.read_element.ensures.expr (λ e is. ap (λ x. typed_as x k) (is ts))) c.read_element.ensures.memory)
