use Rattle.std.proofs.Common.{◌≡◌, [], length, sym, ap, ◌∙◌}
use Rattle.std.specs.Prelude.{map, Ok}
use Rattle.std.specs.Vec.{vec_len}
use Rattle.arc_base.specs.Refusal.{and_then}
use Rattle.nim_types.specs.Table.{type_at}
use Rattle.expr_rules.specs.Names.{named_type, formed_type}
use Rattle.expr_parts.specs.View.{env_of}
use Rattle.expr_parts.proofs.ForCallers.{answers_as}
use Rattle.decl_rules.specs.Written.{spelled_as, named_by}
use Rattle.decl_written.specs.ViewWritten.{at_once_of}
use Rattle.decl_written.proofs.AtOnce.{then_ok, empty_is, some_is, formed_by_name}
use Rattle.decl_written.proofs.written.by_name.Goals as goal

pub returns-then-is_empty-clause-answers : goal.returns-then-is_empty-clause-answers
returns-then-is_empty-clause-answers c = λ ts facts u.
    let env = env_of ts facts c.args.scope.now in
    let at = c.args.at in
    let x = c.args.text.now in
    let counted : vec_len c.args.given ≡ length c.args.given.items = search in
    let none = empty_is c.args.given.items (vec_len c.args.given) counted (sym c.is_empty.ensures ∙ c.if-is_empty.true) in
    answers_as (at_once_of ts) (named_by env at x (map (at_once_of ts) c.args.given.items)) (and_then (named_type env at x) (λ ty. Ok (spelled_as ty [])))
    c.named_type.result
    (ap (λ is. named_by env at x (map (at_once_of ts) is)) none)
    (then_ok (type_at ts) (λ ty. spelled_as ty []) (named_type env at x) c.named_type.result (c.named_type.ensures.answers ts facts))

pub returns-else-is_empty-clause-answers : goal.returns-else-is_empty-clause-answers
returns-else-is_empty-clause-answers c = λ ts facts u.
    let env = env_of ts facts c.args.scope.now in
    let at = c.args.at in
    let x = c.args.text.now in
    let counted : vec_len c.args.given ≡ length c.args.given.items = search in
    let some = some_is c.args.given.items (vec_len c.args.given) counted (sym c.is_empty.ensures ∙ c.if-is_empty.false) in
    let said = formed_type env at x (map (type_at ts) c.args.given.items) in
    answers_as (at_once_of ts) (named_by env at x (map (at_once_of ts) c.args.given.items)) (and_then said (λ ty. Ok (spelled_as ty [])))
    c.formed_type.result
    (ap (λ is. named_by env at x (map (at_once_of ts) is)) some.2 ∙ formed_by_name ts env at x some.0 some.1
    ∙ ap (λ is. and_then (formed_type env at x (map (type_at ts) is)) (λ ty. Ok (spelled_as ty []))) (sym some.2))
    (then_ok (type_at ts) (λ ty. spelled_as ty []) said c.formed_type.result (c.formed_type.ensures.answers ts facts u))
