use Rattle.std.proofs.Common.{◌∙◌, ◌+◌, ◌∷◌, [], length, List, ap, sym, subst, drop, get_or, arith, drop_of_length-le}
use Rattle.std.proofs.lemmas.Result.{err_from_is_err_and}
use Rattle.std.specs.Prelude.{option_map}
use Rattle.nim_tree.specs.Terms.{term_of}
use Rattle.nim_types.specs.Types.{Ty}
use Rattle.nim_program.specs.View.{if_type}
use Rattle.expr_rules.specs.Env.{Env}
use Rattle.expr_parts.specs.View.{DeclsWithin}
use Rattle.expr_parts.proofs.ForCallers.{forgets}
use Rattle.decl_rules.specs.State.{State}
use Rattle.decl_rules.specs.Definitions.{variable_rule, variables_rule}
use Rattle.decl_parts.specs.View.{around_of, env_in, state_of}
use Rattle.decl_parts.proofs.ForCallers.{next_name, decls_more, decls_both, below_more}
use Rattle.decl_stmts.specs.declared.definitions.News.{News}
use Rattle.decl_stmts.specs.ViewDefinitions.{news_as}
use Rattle.decl_stmts.proofs.Defining.{still_same, still_on, ready_still}
use Rattle.decl_stmts.proofs.Waiting.{names_begin, names_goes, names_stops, names_end}
use Rattle.decl_stmts.proofs.definitions.variables.Goals as goal

pub loop-name-init : goal.loop-name-init
loop-name-init c =
    let old = c.args.state.now in
    let rule = λ (ts : List Ty). variables_rule (around_of ts c.args.around) c.args.at c.args.binding (env_in ts old) (if_type ts c.args.ty)
    (option_map term_of c.args.def.now.value) in
    record {
      still = still_same old;
      fits = subst (DeclsWithin (length old.types)) (sym c.new-waits.ensures.items) tt;
      done = names_begin old (record { stmts = c.new-stmts.result; waits = c.new-waits.result }) rule c.args.def.now.names.items c.new-stmts.ensures.items
          c.new-waits.ensures.items;
    }

pub loop-name-preserved : goal.loop-name-preserved
loop-name-preserved c =
    let old = c.args.state.now in
    let at = c.loop-name in
    let item = c.name-item.result in
    let new = c.variable_of.new.state in
    let all = c.args.def.now.names.items in
    let value = option_map term_of c.args.def.now.value in
    let e = next_name all at.name-index item
    (c.name-item.is ∙ ap (λ l. get_or l at.name-index item) c.deref-name-items.ensures.value) (omega (arith, c.loop-name-test.true)) in
    let rule = λ (ts : List Ty). variables_rule (around_of ts c.args.around) c.args.at c.args.binding (env_in ts old) (if_type ts c.args.ty) value in
    let one = λ (ts : List Ty) (env : Env) (st : State). variable_rule (around_of ts c.args.around) c.args.at c.args.binding env
    (if_type ts c.args.ty) value st item in
    let waits = c.in_ok-add_new-in-Ok.ensures.waits in
    record {
      still = still_on at.invariant.still c.in-Ok.ensures.still;
      fits =
          subst (DeclsWithin (length new.types)) (sym waits)
          (decls_both (length new.types) at.all.waits.items (c.in-Ok.new.decl ∷ [])
          (decls_more (length at.state.types) (length new.types) at.all.waits.items c.in-Ok.ensures.still.grown.length at.invariant.fits)
          (c.in-Ok.ensures.fits, tt));
      done =
          names_goes old at.state new at.all c.add_new.new.all c.in-Ok.new rule one all (drop at.name-index all)
          (drop (at.name-index + 1) all) at.invariant.done
          at.invariant.still (λ ts st. ap (rule ts st) e) c.in-Ok.ensures c.in_ok-add_new-in-Ok.ensures.stmts waits;
    }

pub returns-clause-answers : goal.returns-clause-answers
returns-clause-answers c = λ ts b u.
    let old = c.args.state.now in
    let at = c.loop-name in
    let all = c.args.def.now.names.items in
    let rule = λ (ts : List Ty). variables_rule (around_of ts c.args.around) c.args.at c.args.binding (env_in ts old) (if_type ts c.args.ty)
    (option_map term_of c.args.def.now.value) in
    names_end old at.state at.all rule all (drop at.name-index all) at.invariant.done
    (λ ts st. ap (rule ts st) (drop_of_length-le all (omega (arith, c.loop-name-test.false)))) ts b u

pub returns-in-Err-clause-still : goal.returns-in-Err-clause-still
returns-in-Err-clause-still c = still_on c.loop-name.invariant.still c.in-Err.ensures.still

pub returns-in-Err-clause-answers : goal.returns-in-Err-clause-answers
returns-in-Err-clause-answers c = λ ts b u.
    let old = c.args.state.now in
    let at = c.loop-name in
    let item = c.name-item.result in
    let new = c.variable_of.new.state in
    let all = c.args.def.now.names.items in
    let value = option_map term_of c.args.def.now.value in
    let e = next_name all at.name-index item
    (c.name-item.is ∙ ap (λ l. get_or l at.name-index item) c.deref-name-items.ensures.value) (omega (arith, c.loop-name-test.true)) in
    let rule = λ (ts : List Ty). variables_rule (around_of ts c.args.around) c.args.at c.args.binding (env_in ts old) (if_type ts c.args.ty) value in
    let one = λ (ts : List Ty) (env : Env) (st : State). variable_rule (around_of ts c.args.around) c.args.at c.args.binding env
    (if_type ts c.args.ty) value st item in
    names_stops old at.state new at.all c.in-Err.stop (λ ts b (n : News). news_as ts b new n) rule one all (drop at.name-index all)
    (drop (at.name-index + 1) all)
    at.invariant.done at.invariant.still (λ ts st. ap (rule ts st) e) c.in-Err.ensures ts b u

pub returns-in_err-add_new-in-Ok-clause-answers : goal.returns-in_err-add_new-in-Ok-clause-answers
returns-in_err-add_new-in-Ok-clause-answers c = λ ts b u.
    let value = option_map term_of c.args.def.now.value in
    let all = c.args.def.now.names.items in
    let p = err_from_is_err_and c.from_residual.result c.from_residual.ensures.1 in
    rw (p.1, p.2) (forgets (news_as ts b c.variable_of.new.state)
    (variables_rule (around_of ts c.args.around) c.args.at c.args.binding (env_in ts c.args.state.now) (if_type ts c.args.ty) value
    (state_of ts b c.args.state.now) all) _ c.in_err-add_new-in-Ok.ensures.memory)

pub returns-in_err-add_new-in-Ok-clause-still : goal.returns-in_err-add_new-in-Ok-clause-still
returns-in_err-add_new-in-Ok-clause-still c = still_on c.loop-name.invariant.still c.in-Ok.ensures.still

pub variable_of-requires-clause-ready : goal.variable_of-requires-clause-ready
variable_of-requires-clause-ready c = ready_still c.loop-name.invariant.still c.requires.ready

pub variable_of-requires-clause-ty : goal.variable_of-requires-clause-ty
variable_of-requires-clause-ty c =
    let at = c.loop-name in
    below_more (length c.args.state.now.types) (length at.state.types) c.args.ty at.invariant.still.grown.length c.requires.ty
