use Rattle.std.proofs.Common.{subst, ap₂, List}
use Rattle.nim_tree.specs.Terms.{term_of}
use Rattle.nim_types.specs.Types.{Ty, Facts}
use Rattle.nim_types.specs.Table.{facts_in}
use Rattle.nim_program.specs.View.{if_type}
use Rattle.expr_rules.specs.Env.{Env}
use Rattle.expr_parts.specs.View.{Under}
use Rattle.expr_constants.proofs.ForCallers.{fixed_by, made_fixed, scope_fixed, type_fixed}
use Rattle.decl_rules.specs.Values.{Value}
use Rattle.decl_written.specs.ViewWritten.{numbered_of}
use Rattle.decl_rules.specs.Definitions.{definition_value, fixed_value}
use Rattle.decl_parts.specs.View.{env_in}
use Rattle.decl_parts.proofs.ForCallers.{typing_then, typing_stops, facts_kept}
use Rattle.decl_stmts.specs.ViewDefinitions.{fixed_of, FixedWithin}
use Rattle.decl_stmts.proofs.constants.constant_value.Goals as goal

pub returns-in-Ok : goal.returns-in-Ok
returns-in-Ok c =
    let old = c.args.state.now in
    let mid = c.definition_value.new.state in
    typing_then (λ (ts : List Ty) (env : Env) (v : Value). fixed_value env v.given) c.in-Ok.ensures
    (λ ts u. c.fixed_value.ensures.answers ts (env_in ts old)
    (subst (λ (f : Facts). Under mid.types ts f) (facts_kept old.types mid.types ts c.in-Ok.ensures.grown u) u))
    c.fixed_value.ensures.fits

pub returns-in-Err : goal.returns-in-Err
returns-in-Err c = typing_stops fixed_of FixedWithin (λ (ts : List Ty) (env : Env) (v : Value). fixed_value env v.given) c.in-Err.ensures

pub fixed_value-requires-clause-value : goal.fixed_value-requires-clause-value
fixed_value-requires-clause-value c = c.in-Ok.ensures.fits

pub fixed_value-requires-clause-fixed : goal.fixed_value-requires-clause-fixed
fixed_value-requires-clause-fixed c =
    let old = c.args.state.now in
    let new = c.definition_value.new.state.types in
    let tree = term_of c.args.value.now in
    let given = c.in-Ok.given in
    let under = c.in-Ok.ensures.grown.under in
    fixed_by new (λ (v : Value). v.given.expr) (λ ts. numbered_of ts given)
    (made_fixed new numbered_of (λ ts. definition_value (env_in ts old) (if_type ts c.args.ty) 0 tree) given
    (λ ts facts u. c.in-Ok.ensures.answers ts (subst (λ (f : Facts). Under new ts f) u.said u))
    (λ ts facts u. ap₂ (λ env ty. definition_value env ty 0 tree)
    (scope_fixed old.types new old.scope (facts_in old.types) c.requires.ready.all.decls under ts facts u)
    (type_fixed old.types new c.args.ty c.requires.ty under ts facts u)))
