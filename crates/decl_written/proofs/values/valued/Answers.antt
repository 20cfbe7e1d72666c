use Rattle.std.proofs.Common.{refl}
use Rattle.std.specs.Prelude.{Ok}
use Rattle.nim_program.specs.View.{expr_of}
use Rattle.expr_rules.specs.Answers.{value_of}
use Rattle.expr_parts.specs.View.{valued_of}
use Rattle.expr_parts.proofs.ForCallers.{goes, stops}
use Rattle.decl_rules.specs.Values.{as_value}
use Rattle.decl_written.specs.ViewWritten.{numbered_of}
use Rattle.decl_written.proofs.values.valued.Goals as goal

pub returns-in-Ok-clause-answers : goal.returns-in-Ok-clause-answers
returns-in-Ok-clause-answers c = λ ts.
    goes (numbered_of ts) (valued_of ts) (value_of (expr_of ts c.args.typed.expr)) (λ v. Ok (as_value v c.args.typed.next)) c.in-Ok.value
    (Ok (record { value = c.in-Ok.value; next = c.args.typed.next })) (c.in-Ok.ensures.answers ts) refl

pub returns-in-Err-clause-answers : goal.returns-in-Err-clause-answers
returns-in-Err-clause-answers c = λ ts.
    stops (numbered_of ts) (valued_of ts) (value_of (expr_of ts c.args.typed.expr)) (λ v. Ok (as_value v c.args.typed.next)) c.in-Err.stop
    (c.in-Err.ensures.answers ts)
