use Rattle.std.proofs.Common.{length}
use Rattle.std.specs.Prelude.{Ok}
use Rattle.arc_base.specs.Refusal.{and_then}
use Rattle.nim_tree.specs.Terms.{term_of}
use Rattle.expr_rules.specs.Answers.{value_of, Typed}
use Rattle.expr_rules.specs.Typed.{typed}
use Rattle.expr_parts.specs.View.{env_of, typed_of, want_of, number_of}
use Rattle.expr_parts.proofs.ForCallers.{goes, stops}
use Rattle.decl_rules.specs.Values.{as_value}
use Rattle.decl_written.specs.ViewWritten.{numbered_of}
use Rattle.decl_written.proofs.Valued.{type_within}
use Rattle.decl_written.proofs.values.valued_term.Goals as goal

pub returns-in-Ok-clause-answers : goal.returns-in-Ok-clause-answers
returns-in-Ok-clause-answers c = λ ts facts u.
    goes (numbered_of ts) (typed_of ts) (typed (env_of ts facts c.args.scope.now) (want_of ts c.args.want) c.args.first (term_of c.args.tree.now))
    (λ (x : Typed). and_then (value_of x.expr) (λ v. Ok (as_value v x.next))) c.in-Ok.typed c.valued.result (c.in-Ok.ensures.answers ts facts u)
    (c.valued.ensures.answers ts)

pub returns-in-Ok-clause-within : goal.returns-in-Ok-clause-within
returns-in-Ok-clause-within c =
    type_within (length c.type_expr.new.types) (λ v. v.value.ty) (number_of c.in-Ok.typed.expr) c.in-Ok.typed.ty c.valued.result c.in-Ok.ensures.number
    c.in-Ok.ensures.within c.valued.ensures.number

pub returns-in-Err-clause-answers : goal.returns-in-Err-clause-answers
returns-in-Err-clause-answers c = λ ts facts u.
    stops (numbered_of ts) (typed_of ts) (typed (env_of ts facts c.args.scope.now) (want_of ts c.args.want) c.args.first (term_of c.args.tree.now))
    (λ (x : Typed). and_then (value_of x.expr) (λ v. Ok (as_value v x.next))) c.in-Err.stop (c.in-Err.ensures.answers ts facts u)
