use Rattle.std.proofs.Common.{refl, sym, ap, ◌∙◌, arith}
use Rattle.std.proofs.lemmas.Result.{err_from_is_err_and}
use Rattle.parse_exprs.specs.Input.{origin_of}
use Rattle.std.specs.Prelude.{map}
use Rattle.nim_tree.specs.Statements.{parameters_of}
use Rattle.parse_exprs.specs.declared.input.Bracket.TheVariants.{Round}
use Rattle.parse_exprs.specs.Look.{closes_at}
use Rattle.parse_decls.proofs.Coming.{behind_at, close_fails, close_found}
use Rattle.parse_decls.proofs.Repeats.{params_loop, and_next, loop_on, loop_fails, loop_ends, begins, only_one}
use Rattle.parse_decls.proofs.head.read_more_params.Goals as goal

pub loop-alloc-init : goal.loop-alloc-init
loop-alloc-init c = begins (params_loop (origin_of c.args.input.now)) _ c.args.input.now
    _ _ _ _ (ap (map parameters_of) (only_one _ c.in_ok-all.ensures.ok c.new.ensures.items)) (λ o h. h) (omega arith) c.requires.within

pub returns-in_err-one : goal.returns-in_err-one
returns-in_err-one c =
    let p = err_from_is_err_and c.from_residual-in_err-one.result c.from_residual-in_err-one.ensures.1 in
    let b = behind_at c.loop-alloc.next c.args.input.now.tokens.now in
    rw (p.1, p.2) (loop_fails (params_loop (origin_of c.args.input.now)) _ c.args.input.now _ _ _ _ _ b c.loop-alloc.invariant
    (sym c.separator_at.ensures ∙ c.loop-alloc-test.true) c.in_err-one.ensures)

pub loop-alloc-preserved : goal.loop-alloc-preserved
loop-alloc-preserved c =
    let b = behind_at c.loop-alloc.next c.args.input.now.tokens.now in
    loop_on (params_loop (origin_of c.args.input.now)) _ c.args.input.now _ _ _ _ _ _ _ _ b refl (omega arith) c.loop-alloc.invariant
    (sym c.separator_at.ensures ∙ c.loop-alloc-test.true) c.in_ok-one.ensures
    (ap (map parameters_of) c.in_ok-all-2.ensures.ok ∙ and_next parameters_of c.loop-alloc.all.items c.in_ok-one.one.value)

pub returns-then-not-closes_at : goal.returns-then-not-closes_at
returns-then-not-closes_at c =
    let h = loop_ends (params_loop (origin_of c.args.input.now)) _ c.args.input.now _ _ _ c.loop-alloc.invariant
    (sym c.separator_at.ensures ∙ c.loop-alloc-test.false) in
    close_fails _ _ _ h.leads (sym c.closes_at.ensures ∙ c.if-not-closes_at.true) _ c.stuck.ensures

pub returns : goal.returns
returns c =
    let h = loop_ends (params_loop (origin_of c.args.input.now)) _ c.args.input.now _ _ _ c.loop-alloc.invariant
    (sym c.separator_at.ensures ∙ c.loop-alloc-test.false) in
    let g = h.goes in
    close_found c.args.input.now (closes_at Round) _ _ refl h.leads (sym c.closes_at.ensures ∙ c.if-not-closes_at.false) (omega (arith, g))
