use Rattle.std.proofs.Common.{◌<◌, ◌∙◌, ap, subst, sym, length, ◌∷◌, [], List, Some, false}
use Rattle.std.specs.Prelude.{Ok}
use Rattle.indent_scanner.specs.Words.{normal}
use Rattle.nim_types.specs.Types.{Ty}
use Rattle.nim_types.specs.declared.types.TypeDef.{TypeDef}
use Rattle.nim_types.specs.Table.{type_at}
use Rattle.nim_program.specs.declared.stmt.Stmt.TheVariants as S
use Rattle.nim_program.specs.Nodes.{one_value}
use Rattle.nim_program.specs.Program as P
use Rattle.nim_program.specs.View.{expr_of}
use Rattle.expr_rules.specs.Answers.{node}
use Rattle.expr_rules.specs.Env.{Env, variable}
use Rattle.expr_parts.specs.View.{entry_of}
use Rattle.decl_rules.specs.State.{State, declares}
use Rattle.decl_rules.specs.Definitions.{initialised, is_var_binding}
use Rattle.decl_parts.specs.View.{around_of, place_of}
use Rattle.decl_written.specs.ViewWritten.{numbered_of}
use Rattle.decl_stmts.proofs.Defining.{new_is, still_kept, defining_made, defining_forgets}
use Rattle.decl_stmts.proofs.definitions.with_value.Goals as goal

pub returns : goal.returns
returns c =
    let old = c.args.state.now in
    let new = c.begin_variable.new.state in
    let n = node old.node c.args.at in
    let d = c.args.name.now in
    defining_made (λ (ts : List Ty) (env : Env) (st : State). Ok
    (initialised (around_of ts c.args.around) c.args.at c.args.binding (numbered_of ts c.args.given) st d))
    (S.Declare n c.in-Ok.place false (Some c.args.given.value.expr)) c.in-Ok-variable.decl c.new_of.result (still_kept c.begin_variable.ensures.kept)
    (λ ts b waits u.
    let ty = type_at ts c.args.given.value.ty in
    let by = λ (p : P.Declared). declares n p false (one_value (expr_of ts c.args.given.value.expr)) ∷ [] in
    ap Ok (new_is ts b old new (around_of ts c.args.around) c.args.binding d ty c.args.given.next waits (entry_of ts c.in-Ok-variable.decl)
    (by (place_of old.place d.text d.at ty)) _
    (c.in-Ok.ensures.behind ts b) (c.in-Ok-variable.ensures.entry ts
    ∙ ap (λ x. variable (normal x) c.in-Ok.place.number ty (is_var_binding c.args.binding) c.args.around.outermost) c.as_slice-word.ensures
    ∙ ap (λ k. variable (normal d.text) k ty (is_var_binding c.args.binding) c.args.around.outermost) c.in-Ok.ensures.number)
    (ap by (c.in-Ok.ensures.place ts))))
    (c.in-Ok-variable.ensures.within (length new.types)
    (subst (λ (t : List TypeDef). c.args.given.value.ty < length t) (sym c.begin_variable.ensures.kept.types) c.requires.given))
    c.new_of.ensures.stmts c.new_of.ensures.decl c.new_of.ensures.memory

pub returns-in-Err : goal.returns-in-Err
returns-in-Err c =
    defining_forgets c.args.state.now c.begin_variable.new.state
    (λ (ts : List Ty) (env : Env) (st : State). Ok
    (initialised (around_of ts c.args.around) c.args.at c.args.binding (numbered_of ts c.args.given) st c.args.name.now))
    c.in-Err.stop (still_kept c.begin_variable.ensures.kept) c.in-Err.ensures.memory

pub returns-in-Err-variable : goal.returns-in-Err-variable
returns-in-Err-variable c =
    defining_forgets c.args.state.now c.begin_variable.new.state
    (λ (ts : List Ty) (env : Env) (st : State). Ok
    (initialised (around_of ts c.args.around) c.args.at c.args.binding (numbered_of ts c.args.given) st c.args.name.now))
    c.in-Err-variable.stop (still_kept c.begin_variable.ensures.kept) c.in-Err-variable.ensures.memory
