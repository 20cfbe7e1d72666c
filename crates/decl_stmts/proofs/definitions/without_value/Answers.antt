use Rattle.std.proofs.Common.{◌<◌, ◌∙◌, ap, subst, sym, length, ◌∷◌, [], Some, None, List, ℕ, false}
use Rattle.std.proofs.lemmas.Result.{err_from_is_err_and}
use Rattle.std.specs.Prelude.{Ok}
use Rattle.indent_scanner.specs.Words.{normal}
use Rattle.nim_types.specs.Types.{Ty}
use Rattle.nim_types.specs.declared.types.TypeDef.{TypeDef}
use Rattle.nim_types.specs.Table.{type_at}
use Rattle.nim_program.specs.declared.stmt.Stmt.TheVariants as S
use Rattle.nim_program.specs.Program as P
use Rattle.nim_program.specs.View.{declared_of}
use Rattle.expr_rules.specs.Answers.{node}
use Rattle.expr_rules.specs.Env.{Env, variable}
use Rattle.expr_parts.specs.View.{entry_of}
use Rattle.decl_rules.specs.State.{State, declares, declaring, stated_as}
use Rattle.decl_rules.specs.Definitions.{default_rule, is_var_binding, with_variable}
use Rattle.decl_parts.specs.View.{around_of, state_of, place_of}
use Rattle.decl_stmts.proofs.Defining.{new_is, still_kept, still_same, defining_made, defining_forgets}
use Rattle.decl_stmts.proofs.definitions.without_value.Goals as goal

pub returns : goal.returns
returns c =
    let old = c.args.state.now in
    let new = c.begin_variable.new.state in
    let n = node old.node c.args.at in
    let d = c.args.name.now in
    defining_made (λ (ts : List Ty) (env : Env) (st : State). default_rule (around_of ts c.args.around) c.args.at c.args.binding
    (Some (type_at ts c.args.ty)) st d)
    (S.Declare n c.in_ok-place.place false None) c.in_ok-decl.decl c.new_of.result (still_kept c.begin_variable.ensures.kept)
    (λ ts b waits u.
    let ty = type_at ts c.args.ty in
    let a = around_of ts c.args.around in
    let st = declaring (state_of ts b old) waits in
    let by = λ (p : P.Declared). declares n p false P.NoArg ∷ [] in
    let first = by (place_of old.place d.text d.at ty) in
    ap (λ (k : ℕ). Ok (stated_as first (with_variable st a c.args.binding d ty k))) (sym c.in_ok-next.ensures.next)
    ∙ ap Ok (new_is ts b old new a c.args.binding d ty c.in_ok-next.next waits (entry_of ts c.in_ok-decl.decl) first
    (by (declared_of ts c.in_ok-place.place)) (c.in_ok-place.ensures.behind ts b) (c.in_ok-decl.ensures.entry ts
    ∙ ap (λ x. variable (normal x) c.in_ok-place.place.number ty (is_var_binding c.args.binding) c.args.around.outermost) c.as_slice.ensures
    ∙ ap (λ k. variable (normal d.text) k ty (is_var_binding c.args.binding) c.args.around.outermost) c.in_ok-place.ensures.number)
    (ap by (c.in_ok-place.ensures.place ts))))
    (c.in_ok-decl.ensures.within (length new.types)
    (subst (λ (t : List TypeDef). c.args.ty < length t) (sym c.begin_variable.ensures.kept.types) c.requires.ty))
    c.new_of.ensures.stmts c.new_of.ensures.decl c.new_of.ensures.memory

pub returns-in_err-place : goal.returns-in_err-place
returns-in_err-place c =
    let p = err_from_is_err_and c.from_residual-in_err-place.result c.from_residual-in_err-place.ensures.1 in
    rw (p.1, p.2) (defining_forgets c.args.state.now c.begin_variable.new.state
    (λ (ts : List Ty) (env : Env) (st : State). default_rule (around_of ts c.args.around) c.args.at c.args.binding
    (Some (type_at ts c.args.ty)) st c.args.name.now)
    _ (still_kept c.begin_variable.ensures.kept) c.in_err-place.ensures.memory)

pub returns-in_err-decl : goal.returns-in_err-decl
returns-in_err-decl c =
    let p = err_from_is_err_and c.from_residual-in_err-decl.result c.from_residual-in_err-decl.ensures.1 in
    rw (p.1, p.2) (defining_forgets c.args.state.now c.begin_variable.new.state
    (λ (ts : List Ty) (env : Env) (st : State). default_rule (around_of ts c.args.around) c.args.at c.args.binding
    (Some (type_at ts c.args.ty)) st c.args.name.now)
    _ (still_kept c.begin_variable.ensures.kept) c.in_err-decl.ensures.memory)

pub returns-in_err-next : goal.returns-in_err-next
returns-in_err-next c =
    let p = err_from_is_err_and c.from_residual.result c.from_residual.ensures.1 in
    rw (p.1, p.2) (defining_forgets c.args.state.now c.args.state.now
    (λ (ts : List Ty) (env : Env) (st : State). default_rule (around_of ts c.args.around) c.args.at c.args.binding
    (Some (type_at ts c.args.ty)) st c.args.name.now)
    _ (still_same c.args.state.now) c.in_err-next.ensures.memory)
