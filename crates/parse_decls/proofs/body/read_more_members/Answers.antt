use Rattle.std.proofs.Common.{refl, sym, ◌∙◌, arith}
use Rattle.std.proofs.lemmas.Result.{err_from_is_err_and}
use Rattle.parse_exprs.specs.Input.{origin_of}
use Rattle.parse_decls.specs.Look.{more_members_at}
use Rattle.parse_decls.proofs.Coming.{found, within_at}
use Rattle.parse_decls.proofs.Repeats.{members_loop, loop_on, loop_fails, loop_ends, begins, only_one}
use Rattle.parse_decls.proofs.body.read_more_members.Goals as goal

pub loop-alloc-init : goal.loop-alloc-init
loop-alloc-init c = begins (members_loop (origin_of c.args.input.now) c.args.spaces) _ c.args.input.now
    _ _ _ _ (only_one _ c.in_ok-all.ensures.ok c.new.ensures.items) (λ o h. h) (omega arith) c.requires.within

pub past_comma-begins-requires : goal.past_comma-begins-requires
past_comma-begins-requires c =
    record {
      within = within_at (more_members_at c.args.spaces) refl c.loop-alloc.next c.args.input.now.tokens.now
          (sym c.more_members_at.ensures ∙ c.loop-alloc-test.true);
    }

pub returns-in_err-one : goal.returns-in_err-one
returns-in_err-one c =
    let p = err_from_is_err_and c.from_residual-in_err-one.result c.from_residual-in_err-one.ensures.1 in
    rw (p.1, p.2) (loop_fails (members_loop (origin_of c.args.input.now) c.args.spaces) _ c.args.input.now _ _ _ _ _ (sym c.past_comma-begins.ensures.past)
    c.loop-alloc.invariant (sym c.more_members_at.ensures ∙ c.loop-alloc-test.true) c.in_err-one.ensures)

pub loop-alloc-preserved : goal.loop-alloc-preserved
loop-alloc-preserved c =
    loop_on (members_loop (origin_of c.args.input.now) c.args.spaces) _ c.args.input.now _ _ _ _ _ _ _ _ (sym c.past_comma-begins.ensures.past) refl
    c.past_comma-begins.ensures.goes c.loop-alloc.invariant (sym c.more_members_at.ensures ∙ c.loop-alloc-test.true) c.in_ok-one.ensures
    c.in_ok-all-2.ensures.ok

pub returns : goal.returns
returns c =
    let h = loop_ends (members_loop (origin_of c.args.input.now) c.args.spaces) _ c.args.input.now _ _ _ c.loop-alloc.invariant
    (sym c.more_members_at.ensures ∙ c.loop-alloc-test.false) in
    found _ _ h.leads h.goes h.within
