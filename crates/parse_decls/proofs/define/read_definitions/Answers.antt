use Rattle.std.proofs.Common.{refl, sym, ap, ◌∙◌, arith}
use Rattle.std.proofs.lemmas.Result.{err_from_is_err_and}
use Rattle.parse_exprs.specs.Input.{origin_of}
use Rattle.std.specs.Prelude.{map}
use Rattle.nim_tree.specs.Statements.{definition_of}
use Rattle.parse_decls.proofs.Coming.{found}
use Rattle.parse_decls.proofs.Repeats.{definitions_loop, and_next, loop_on, loop_fails, loop_ends, begins}
use Rattle.parse_decls.proofs.define.read_definitions.Goals as goal

pub loop-alloc-init : goal.loop-alloc-init
loop-alloc-init c = begins (definitions_loop (origin_of c.args.input.now) c.args.spaces) _ c.args.input.now
    _ _ _ _ (ap (map definition_of) c.new-all.ensures.items) (λ o h. h) (omega arith) c.requires.within

pub returns-in_err-one : goal.returns-in_err-one
returns-in_err-one c =
    let p = err_from_is_err_and c.from_residual.result c.from_residual.ensures.1 in
    rw (p.1, p.2) (loop_fails (definitions_loop (origin_of c.args.input.now) c.args.spaces) _ c.args.input.now _ _ _ _ _ refl c.loop-alloc.invariant
    (sym c.stands_at.ensures ∙ c.loop-alloc-test.true) c.in_err-one.ensures)

pub loop-alloc-preserved : goal.loop-alloc-preserved
loop-alloc-preserved c =
    loop_on (definitions_loop (origin_of c.args.input.now) c.args.spaces) _ c.args.input.now _ _ _ _ _ _ _ _ refl refl (omega arith) c.loop-alloc.invariant
    (sym c.stands_at.ensures ∙ c.loop-alloc-test.true) c.in_ok-one.ensures
    (ap (map definition_of) c.in_ok-all.ensures.ok ∙ and_next definition_of c.loop-alloc.all.items c.in_ok-one.one.value)

pub returns : goal.returns
returns c =
    let h = loop_ends (definitions_loop (origin_of c.args.input.now) c.args.spaces) _ c.args.input.now _ _ _ c.loop-alloc.invariant
    (sym c.stands_at.ensures ∙ c.loop-alloc-test.false) in
    found _ _ h.leads h.goes h.within
