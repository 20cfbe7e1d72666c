use Rattle.std.proofs.Common.{◌≡◌, ℕ, ◌+◌, ◌-◌, suc, List, [], ◌∷◌, ◌++◌, Bool, refl, sym, ap, ap₂, subst, ◌∙◌, arith}
use Rattle.std.proofs.lemmas.Result.{err_from_is_err_and}
use Rattle.std.specs.Prelude.{◌||◌}
use Rattle.indent_scanner.specs.declared.token.Token.{Token}
use Rattle.nim_tree.specs.declared.expr.Expr.{Expr}
use Rattle.nim_tree.specs.declared.stmt.Stmt.{Stmt}
use Rattle.nim_tree.specs.declared.stmt.Handler.{Handler}
use Rattle.nim_tree.specs.Terms.{term_of}
use Rattle.nim_tree.specs.Statements.{and_statement, no_branches, and_branch, branches, selects, repeats, counts, tries, defers, proclaims, statement_of}
use Rattle.nim_tree.specs.Statements.{statements_of, handlers_of, head_of, course_of}
use Rattle.nim_tree.proofs.ForCallers.{conditional, selected_statement as selected, repeated, counted, tried, deferred, proclaimed}
use Rattle.parse_exprs.specs.declared.layout.Layout.TheVariants.{Lines}
use Rattle.parse_exprs.specs.Look.{place_at}
use Rattle.parse_exprs.specs.Input.{origin_of, from_at}
use Rattle.parse_decls.specs.Look.{behind}
use Rattle.parse_decls.specs.Outcome.{got, Settles}
use Rattle.parse_decls.specs.Run.{run_name, run_head}
use Rattle.parse_decls.specs.Gives.{Fails, Found}
use Rattle.parse_decls.proofs.ForCallers.{settles_stuck, told_fails, fails_then, fails_leads, comes_leads, leads_suc, leads_then, leads_on, leads_if}
use Rattle.parse_decls.proofs.ForCallers.{leads_else, leads_unless, found}
use Rattle.parse_stmts.specs.declared.look.Lead.TheVariants as L
use Rattle.parse_stmts.specs.Run.{run_here, run_course, run_binding, run_compound, run_body, run_block, run_if, run_branch, run_case}
use Rattle.parse_stmts.specs.Run.{run_branches, run_try, run_proc, are_some, have_some, hold_some}
use Rattle.parse_stmts.specs.Blocks.{block_of, chosen_of}
use Rattle.parse_stmts.proofs.Steps.{head_on, fails_at, settles_at}
use Rattle.parse_stmts.proofs.Lists.{one_more_statement}
use Rattle.parse_stmts.proofs.Blocking.{statements_start, statements_on, statements_fail, statements_end, statements_stuck, statement_none, statement_line}
use Rattle.parse_stmts.proofs.Blocking.{statement_choice, is_choice, choice_is_alone, choice_has_blocks, some_goes, not_choice, statement_compound}
use Rattle.parse_stmts.proofs.Blocking.{compound_line, compound_by, body_on, body_stuck, block_line, block_stuck, block_deeper, elifs_on, elifs_fail, elifs_end}
use Rattle.parse_stmts.proofs.Blocking.{ofs_on, ofs_fail, ofs_end, ofs_start, else_on, else_none, finally_on, finally_none, handlers_fail, handlers_end}
use Rattle.parse_stmts.proofs.Joining.{fails_suc, suc_at, branch_is, branch_fail_is, single_part, line_start, level_start, block_got, of_stuck, handlers_start}
use Rattle.parse_stmts.proofs.Joining.{handlers_more, handlers_last, and_caught_is, branches_on, branches_stuck}
use Rattle.parse_stmts.proofs.block.+statements.Goals as goal

pub statements::read_statements-loop-alloc-init : goal.statements::read_statements-loop-alloc-init
statements::read_statements-loop-alloc-init t c =
    let input = c.args.input.now in let x = origin_of input in let n = c.args.spaces in let left = c.args.left in
    record { leads = statements_start x n left _ _ (ap statements_of c.new-all.ensures.items); goes = omega arith; within = c.requires.within }

pub statements::read_statements-returns-in_err-more : goal.statements::read_statements-returns-in_err-more
statements::read_statements-returns-in_err-more t c =
    let input = c.args.input.now in let x = origin_of input in let n = c.args.spaces in let left = c.args.left in
    let p = err_from_is_err_and c.from_residual.result c.from_residual.ensures.1 in
    let so = c.loop-alloc.invariant in let ts = from_at input c.loop-alloc.next in let some = statements_of c.loop-alloc.all.items in
    rw (p.1, p.2)
    (fails_leads _ _ _ so.leads _ (statements_fail x n left some ts (sym c.stands_at.ensures ∙ c.loop-alloc-test.true) _ c.in_err-more.ensures))

pub statements::read_statements-loop-alloc-preserved : goal.statements::read_statements-loop-alloc-preserved
statements::read_statements-loop-alloc-preserved t c =
    let input = c.args.input.now in let x = origin_of input in let n = c.args.spaces in let left = c.args.left in
    let so = c.loop-alloc.invariant in let ts = from_at input c.loop-alloc.next in let some = statements_of c.loop-alloc.all.items in let h =
    c.in_ok-more.ensures in
    record {
      leads = leads_on (statements_on x n left some _ ts _ (sym c.stands_at.ensures ∙ c.loop-alloc-test.true) h.runs) so.leads;
      goes = omega (arith, h.goes, so.goes);
      within = h.within;
    }

pub statements::read_statements-returns-then-ends_at : goal.statements::read_statements-returns-then-ends_at
statements::read_statements-returns-then-ends_at t c =
    let input = c.args.input.now in let x = origin_of input in let n = c.args.spaces in let left = c.args.left in
    let so = c.loop-alloc.invariant in let ts = from_at input c.loop-alloc.next in let some = statements_of c.loop-alloc.all.items in
    found _ _ (leads_on (statements_end x n left some ts (sym c.stands_at.ensures ∙ c.loop-alloc-test.false) (sym c.ends_at.ensures ∙ c.if-ends_at.true))
    so.leads) so.goes so.within

pub statements::read_statements-returns-else-ends_at : goal.statements::read_statements-returns-else-ends_at
statements::read_statements-returns-else-ends_at t c =
    let input = c.args.input.now in let x = origin_of input in let n = c.args.spaces in let left = c.args.left in
    let so = c.loop-alloc.invariant in let ts = from_at input c.loop-alloc.next in let some = statements_of c.loop-alloc.all.items in
    told_fails x
    (so.leads _ (statements_stuck x n left some ts (sym c.stands_at.ensures ∙ c.loop-alloc-test.false) (sym c.ends_at.ensures ∙ c.if-ends_at.false)))
    _ c.stuck.ensures

pub statements::read_statement-returns-in_default : goal.statements::read_statement-returns-in_default
statements::read_statement-returns-in_default t c =
    let input = c.args.input.now in let x = origin_of input in let n = c.args.spaces in let left = c.args.left in
    let some = statements_of c.args.some.items in let ts = from_at input c.args.at in let rest = from_at input (suc c.args.at) in
    told_fails x (statement_none x n left some ts c.in_default.ensures.none) _ c.stuck.ensures

pub statements::read_statement-returns-in-Line : goal.statements::read_statement-returns-in-Line
statements::read_statement-returns-in-Line t c =
    let input = c.args.input.now in let x = origin_of input in let n = c.args.spaces in let left = c.args.left in
    let some = statements_of c.args.some.items in let ts = from_at input c.args.at in let rest = from_at input (suc c.args.at) in
    comes_leads (λ all. statements_of all.items) _ _ input _ (statement_line x n left some c.in-Some.token rest ts _ c.in-Some.ensures.some
    (sym c.lead_at-lead.ensures) c.in-Line.is) _ (omega arith) _ c.read_line.ensures

pub statements::read_statement-returns-in_err-one-in_default-lead : goal.statements::read_statement-returns-in_err-one-in_default-lead
statements::read_statement-returns-in_err-one-in_default-lead t c =
    let input = c.args.input.now in let x = origin_of input in let n = c.args.spaces in let left = c.args.left in
    let p = err_from_is_err_and c.from_residual.result c.from_residual.ensures.1 in
    let some = statements_of c.args.some.items in let ts = from_at input c.args.at in let rest = from_at input (suc c.args.at) in
    rw (p.1, p.2)
    (fails_leads _ _ _ (statement_compound x n left some c.in-Some.token rest ts _ c.in-Some.ensures.some (sym c.lead_at-lead.ensures)
    c.in_default-lead.not-Line (not_choice _ c.in_default-lead.not-If c.in_default-lead.not-Case))
    _ (fails_then _ _ _ _ c.in_err-one-in_default-lead.ensures))

pub statements::read_statement-returns-in_ok-and_one-in_default-lead : goal.statements::read_statement-returns-in_ok-and_one-in_default-lead
statements::read_statement-returns-in_ok-and_one-in_default-lead t c =
    let input = c.args.input.now in let x = origin_of input in let n = c.args.spaces in let left = c.args.left in
    let some = statements_of c.args.some.items in let ts = from_at input c.args.at in let rest = from_at input (suc c.args.at) in let h =
    c.in_ok-one-in_default-lead.ensures in
    rw (ap statements_of c.in_ok-and_one-in_default-lead.ensures.ok ∙ one_more_statement _ _)
    (found _ _ (leads_on (leads_then _ h.runs) (statement_compound x n left some c.in-Some.token rest ts _ c.in-Some.ensures.some
    (sym c.lead_at-lead.ensures) c.in_default-lead.not-Line (not_choice _ c.in_default-lead.not-If c.in_default-lead.not-Case)))
    h.goes h.within)

pub statements::read_compound-returns-in-Line : goal.statements::read_compound-returns-in-Line
statements::read_compound-returns-in-Line t c =
    let input = c.args.input.now in let x = origin_of input in let n = c.args.spaces in let left = c.args.left in
    let rest = from_at input (suc c.args.at) in told_fails x (compound_line x n left c.args.token rest _ c.args.lead c.requires.head c.in-Line.is)
    _ c.stuck.ensures

pub statements::read_compound-returns-in-If : goal.statements::read_compound-returns-in-If
statements::read_compound-returns-in-If t c =
    let input = c.args.input.now in let x = origin_of input in let n = c.args.spaces in let left = c.args.left in
    let rest = from_at input (suc c.args.at) in
    comes_leads statement_of _ _ input
    _ (leads_on (leads_suc (λ k. run_if k x n left c.args.token rest) (λ k. run_compound k L.If x n left c.args.token rest) (λ k. refl))
    (compound_by x n left c.args.token rest c.args.lead L.If c.in-If.is)) _ (omega arith) _ c.read_if.ensures

pub statements::read_compound-returns-in-Case : goal.statements::read_compound-returns-in-Case
statements::read_compound-returns-in-Case t c =
    let input = c.args.input.now in let x = origin_of input in let n = c.args.spaces in let left = c.args.left in
    let rest = from_at input (suc c.args.at) in
    comes_leads statement_of _ _ input
    _ (leads_on (leads_suc (λ k. run_case k x n left c.args.token rest) (λ k. run_compound k L.Case x n left c.args.token rest) (λ k. refl))
    (compound_by x n left c.args.token rest c.args.lead L.Case c.in-Case.is)) _ (omega arith) _ c.read_case.ensures

pub statements::read_compound-returns-in-Try : goal.statements::read_compound-returns-in-Try
statements::read_compound-returns-in-Try t c =
    let input = c.args.input.now in let x = origin_of input in let n = c.args.spaces in let left = c.args.left in
    let rest = from_at input (suc c.args.at) in
    comes_leads statement_of _ _ input
    _ (leads_on (leads_suc (λ k. run_try k x n left c.args.token rest) (λ k. run_compound k L.Try x n left c.args.token rest) (λ k. refl))
    (compound_by x n left c.args.token rest c.args.lead L.Try c.in-Try.is)) _ (omega arith) _ c.read_try.ensures

pub statements::read_compound-returns-in-Proc : goal.statements::read_compound-returns-in-Proc
statements::read_compound-returns-in-Proc t c =
    let input = c.args.input.now in let x = origin_of input in let n = c.args.spaces in let left = c.args.left in
    let rest = from_at input (suc c.args.at) in
    comes_leads statement_of _ _ input
    _ (leads_on (leads_suc (λ k. run_proc k x n left c.args.token rest) (λ k. run_compound k L.Proc x n left c.args.token rest) (λ k. refl))
    (compound_by x n left c.args.token rest c.args.lead L.Proc c.in-Proc.is)) _ (omega arith) _ c.read_proc.ensures

pub statements::read_compound-returns-in-While : goal.statements::read_compound-returns-in-While
statements::read_compound-returns-in-While t c =
    let input = c.args.input.now in let x = origin_of input in let n = c.args.spaces in let left = c.args.left in
    let rest = from_at input (suc c.args.at) in comes_leads statement_of _ _ input _ (compound_by x n left c.args.token rest c.args.lead L.While c.in-While.is)
    _ (omega arith) _ c.read_while.ensures

pub statements::read_compound-returns-in-For : goal.statements::read_compound-returns-in-For
statements::read_compound-returns-in-For t c =
    let input = c.args.input.now in let x = origin_of input in let n = c.args.spaces in let left = c.args.left in
    let rest = from_at input (suc c.args.at) in comes_leads statement_of _ _ input _ (compound_by x n left c.args.token rest c.args.lead L.For c.in-For.is)
    _ (omega arith) _ c.read_for.ensures

pub statements::read_compound-returns-in-Defer : goal.statements::read_compound-returns-in-Defer
statements::read_compound-returns-in-Defer t c =
    let input = c.args.input.now in let x = origin_of input in let n = c.args.spaces in let left = c.args.left in
    let rest = from_at input (suc c.args.at) in comes_leads statement_of _ _ input _ (compound_by x n left c.args.token rest c.args.lead L.Defer c.in-Defer.is)
    _ (omega arith) _ c.read_defer.ensures

pub statements::read_compound-returns-in-Type : goal.statements::read_compound-returns-in-Type
statements::read_compound-returns-in-Type t c =
    let input = c.args.input.now in let x = origin_of input in let n = c.args.spaces in let left = c.args.left in
    let rest = from_at input (suc c.args.at) in comes_leads statement_of _ _ input _ (compound_by x n left c.args.token rest c.args.lead L.Type c.in-Type.is)
    _ (omega arith) _ (c.read_types_section.ensures left)

pub statements::read_compound-returns-in-Section : goal.statements::read_compound-returns-in-Section
statements::read_compound-returns-in-Section t c =
    let input = c.args.input.now in let x = origin_of input in let n = c.args.spaces in let left = c.args.left in
    let rest = from_at input (suc c.args.at) in
    comes_leads statement_of _ _ input _ (compound_by x n left c.args.token rest c.args.lead L.Section c.in-Section.is) _ (omega arith)
    _ (c.read_section.ensures left)

pub statements::read_body-returns-in-Some : goal.statements::read_body-returns-in-Some
statements::read_body-returns-in-Some t c =
    let input = c.args.input.now in let x = origin_of input in let n = c.args.spaces in let left = c.args.left in
    let h = c.in-Some.ensures in comes_leads block_of _ _ input _ (body_on x n left _ _ h.is h.behind) _ (omega (arith, h.goes)) _ c.read_block.ensures

pub statements::read_body-returns-in-None : goal.statements::read_body-returns-in-None
statements::read_body-returns-in-None t c =
    let input = c.args.input.now in let x = origin_of input in let n = c.args.spaces in let left = c.args.left in
    told_fails x (body_stuck x n left _ c.in-None.ensures) _ c.stuck.ensures

pub statements::read_block-returns-then-left-eq0 : goal.statements::read_block-returns-then-left-eq0
statements::read_block-returns-then-left-eq0 t c =
    let input = c.args.input.now in let x = origin_of input in let n = c.args.spaces in let left = c.args.left in
    subst (λ (m : ℕ). Fails (λ k. run_block k x n m (from_at input c.args.at)) x c.no_level.result) (sym c.if-left-eq0.true) c.no_level.ensures

pub statements::read_block-returns-then-on_line_at : goal.statements::read_block-returns-then-on_line_at
statements::read_block-returns-then-on_line_at t c =
    let input = c.args.input.now in let x = origin_of input in let n = c.args.spaces in let left = c.args.left in
    let same : suc (left - 1) ≡ left = (let g = c.if-left-eq0.false in omega (arith, g)) in let ts = from_at input c.args.at in
    comes_leads block_of _ _ input _ (leads_on (line_start x n _ _ ts (ap statements_of c.new.ensures.items))
    (block_line x n left (left - 1) ts same (sym c.on_line_at.ensures ∙ c.if-on_line_at.true))) _ (omega arith) _ c.read_line.ensures

pub statements::read_block-returns-then-not-deeper_at : goal.statements::read_block-returns-then-not-deeper_at
statements::read_block-returns-then-not-deeper_at t c =
    let input = c.args.input.now in let x = origin_of input in let n = c.args.spaces in let left = c.args.left in
    let same : suc (left - 1) ≡ left = (let g = c.if-left-eq0.false in omega (arith, g)) in let ts = from_at input c.args.at in
    told_fails x (block_stuck x n left (left - 1) ts same (sym c.on_line_at.ensures ∙ c.if-on_line_at.false)
    (sym c.deeper_at.ensures ∙ c.if-not-deeper_at.true)) _ c.stuck.ensures

pub statements::read_block-returns : goal.statements::read_block-returns
statements::read_block-returns t c =
    let input = c.args.input.now in let x = origin_of input in let n = c.args.spaces in let left = c.args.left in
    let same : suc (left - 1) ≡ left = (let g = c.if-left-eq0.false in omega (arith, g)) in let ts = from_at input c.args.at in
    comes_leads block_of _ _ input _ (leads_on (level_start x _ _ (left - 1) ts c.level_at.ensures)
    (block_deeper x n left (left - 1) ts same (sym c.on_line_at.ensures ∙ c.if-on_line_at.false) (sym c.deeper_at.ensures ∙ c.if-not-deeper_at.false)))
    _ (omega arith) _ c.read_statements.ensures

pub branches::read_if-returns-in_err-first : goal.branches::read_if-returns-in_err-first
branches::read_if-returns-in_err-first t c =
    let input = c.args.input.now in let x = origin_of input in let n = c.args.spaces in let left = c.args.left in
    let p = err_from_is_err_and c.from_residual.result c.from_residual.ensures.1 in
    let ts = from_at input (suc c.args.at) in let e = suc_at input c.args.at in
    rw (p.1, p.2)
    (fails_suc _ _ x
    (λ k. refl) _ (fails_then _ _ _ _ (fails_at (λ m k. run_branch k x n left no_branches (place_at x c.args.token) m) x e
    _ (branch_fail_is x n left _ _ _ _ _ c.no_branches.ensures c.place_at-place.ensures _ c.in_err-first.ensures))))

pub branches::read_if-returns-in_err-all : goal.branches::read_if-returns-in_err-all
branches::read_if-returns-in_err-all t c =
    let input = c.args.input.now in let x = origin_of input in let n = c.args.spaces in let left = c.args.left in
    let p = err_from_is_err_and c.from_residual-in_err-all.result c.from_residual-in_err-all.ensures.1 in
    let ts = from_at input (suc c.args.at) in let e = suc_at input c.args.at in
    rw (p.1, p.2)
    (fails_leads
    _ _ _ (leads_on
    (leads_then _ (settles_at (λ m k. run_branch k x n left no_branches (place_at x c.args.token) m) e
    (branch_is x n left _ _ _ _ _ c.no_branches.ensures c.place_at-place.ensures c.in_ok-first.ensures.runs))) (leads_suc _ _ (λ k. refl)))
    _ (fails_then _ _ _ _ c.in_err-all.ensures))

pub branches::read_if-returns-in_err-other : goal.branches::read_if-returns-in_err-other
branches::read_if-returns-in_err-other t c =
    let input = c.args.input.now in let x = origin_of input in let n = c.args.spaces in let left = c.args.left in
    let p = err_from_is_err_and c.from_residual-in_err-other.result c.from_residual-in_err-other.ensures.1 in
    let ts = from_at input (suc c.args.at) in let e = suc_at input c.args.at in
    rw (p.1, p.2)
    (fails_leads
    _ _ _ (leads_on (leads_then _ c.in_ok-all.ensures.runs)
    (leads_on (leads_then _ (settles_at (λ m k. run_branch k x n left no_branches (place_at x c.args.token) m) e
    (branch_is x n left _ _ _ _ _ c.no_branches.ensures c.place_at-place.ensures c.in_ok-first.ensures.runs))) (leads_suc _ _ (λ k. refl))))
    _ (fails_then _ _ _ _ c.in_err-other.ensures))

pub branches::read_if-returns : goal.branches::read_if-returns
branches::read_if-returns t c =
    let input = c.args.input.now in let x = origin_of input in let n = c.args.spaces in let left = c.args.left in
    let ts = from_at input (suc c.args.at) in let e = suc_at input c.args.at in let h = c.in_ok-other.ensures in
    rw (conditional c.place_at-place.result c.in_ok-all.all.value c.in_ok-other.other.value
    ∙ ap (λ p. branches p (chosen_of c.in_ok-all.all.value) (block_of c.in_ok-other.other.value)) c.place_at-place.ensures)
    (found _ _ (leads_on (leads_then _ h.runs)
    (leads_on (leads_then _ c.in_ok-all.ensures.runs)
    (leads_on (leads_then _ (settles_at (λ m k. run_branch k x n left no_branches (place_at x c.args.token) m) e
    (branch_is x n left _ _ _ _ _ c.no_branches.ensures c.place_at-place.ensures c.in_ok-first.ensures.runs)))
    (leads_suc _ _ (λ k. refl))))) (omega (arith, h.goes, c.in_ok-all.ensures.goes, c.in_ok-first.ensures.goes)) h.within)

pub branches::read_branch-returns-in_err-condition : goal.branches::read_branch-returns-in_err-condition
branches::read_branch-returns-in_err-condition t c =
    let input = c.args.input.now in let x = origin_of input in let n = c.args.spaces in let left = c.args.left in
    let p = err_from_is_err_and c.from_residual.result c.from_residual.ensures.1 in
    rw (p.1, p.2) (fails_suc _ _ x (λ k. refl) _ (fails_then _ _ _ _ c.in_err-condition.ensures))

pub branches::read_branch-returns-in_err-block : goal.branches::read_branch-returns-in_err-block
branches::read_branch-returns-in_err-block t c =
    let input = c.args.input.now in let x = origin_of input in let n = c.args.spaces in let left = c.args.left in
    let p = err_from_is_err_and c.from_residual-in_err-block.result c.from_residual-in_err-block.ensures.1 in
    rw (p.1, p.2) (fails_leads _ _ _ (leads_on (leads_then _ c.in_ok-condition.ensures.runs) (leads_suc _ _ (λ k. refl)))
    _ (fails_then _ _ _ _ c.in_err-block.ensures))

pub branches::read_branch-returns : goal.branches::read_branch-returns
branches::read_branch-returns t c =
    let input = c.args.input.now in let x = origin_of input in let n = c.args.spaces in let left = c.args.left in
    let h = c.in_ok-block.ensures in
    rw (c.in_ok-and_branch.ensures.ok ∙ ap (λ tests. and_branch (chosen_of c.args.some) c.args.place tests (block_of c.in_ok-block.block.value))
    (single_part c.in_ok-tests.tests.items c.in_ok-condition.condition.value
    (c.in_ok-tests.ensures.ok ∙ ap (λ (l : List Expr). l ++ c.in_ok-condition.condition.value ∷ []) c.new.ensures.items)))
    (found _ _ (leads_on (leads_then _ h.runs) (leads_on (leads_then _ c.in_ok-condition.ensures.runs) (leads_suc _ _ (λ k. refl))))
    (omega (arith, h.goes, c.in_ok-condition.ensures.goes)) h.within)

pub branches::read_elifs-returns-in_err-more : goal.branches::read_elifs-returns-in_err-more
branches::read_elifs-returns-in_err-more t c =
    let input = c.args.input.now in let x = origin_of input in let n = c.args.spaces in let left = c.args.left in
    let p = err_from_is_err_and c.from_residual.result c.from_residual.ensures.1 in
    let so = c.loop-place.invariant in let ts = from_at input c.loop-place.next in let some = chosen_of c.loop-place.all in let rest =
    from_at input (c.loop-place.next + 1) in let m = c.in-Some.ensures in let e = head_on input c.loop-place.next m.tok m.head in
    rw (p.1, p.2) (fails_leads _ _ _ so.leads _ (elifs_fail x n left some m.tok rest ts c.in-Some.place e m.stands m.is _ c.in_err-more.ensures))

pub branches::read_elifs-loop-place-preserved : goal.branches::read_elifs-loop-place-preserved
branches::read_elifs-loop-place-preserved t c =
    let input = c.args.input.now in let x = origin_of input in let n = c.args.spaces in let left = c.args.left in
    let so = c.loop-place.invariant in let ts = from_at input c.loop-place.next in let some = chosen_of c.loop-place.all in let rest =
    from_at input (c.loop-place.next + 1) in let m = c.in-Some.ensures in let e = head_on input c.loop-place.next m.tok m.head in let h =
    c.in_ok-more.ensures in
    record {
      leads = leads_on (elifs_on x n left some _ m.tok rest ts _ c.in-Some.place e m.stands m.is h.runs) so.leads;
      goes = omega (arith, h.goes, so.goes);
      within = h.within;
    }

pub branches::read_elifs-returns : goal.branches::read_elifs-returns
branches::read_elifs-returns t c =
    let input = c.args.input.now in let x = origin_of input in let n = c.args.spaces in let left = c.args.left in
    let so = c.loop-place.invariant in let ts = from_at input c.loop-place.next in let some = chosen_of c.loop-place.all in let rest =
    from_at input (c.loop-place.next + 1) in found _ _ (leads_on (elifs_end x n left some ts c.in_default.ensures) so.leads) so.goes so.within

pub branches::read_ofs-loop-place-init : goal.branches::read_ofs-loop-place-init
branches::read_ofs-loop-place-init t c =
    let input = c.args.input.now in let x = origin_of input in let n = c.args.spaces in let left = c.args.left in
    record { leads = ofs_start x n left _ _ _ c.no_branches-all.ensures; goes = omega arith; within = c.requires.within }

pub branches::read_ofs-returns-in_err-more : goal.branches::read_ofs-returns-in_err-more
branches::read_ofs-returns-in_err-more t c =
    let input = c.args.input.now in let x = origin_of input in let n = c.args.spaces in let left = c.args.left in
    let p = err_from_is_err_and c.from_residual.result c.from_residual.ensures.1 in
    let so = c.loop-place.invariant in let ts = from_at input c.loop-place.next in let some = chosen_of c.loop-place.all in let rest =
    from_at input (c.loop-place.next + 1) in let m = c.in-Some.ensures in let e = head_on input c.loop-place.next m.tok m.head in
    rw (p.1, p.2) (fails_leads _ _ _ so.leads _ (ofs_fail x n left some m.tok rest ts c.in-Some.place e m.stands m.is _ c.in_err-more.ensures))

pub branches::read_ofs-loop-place-preserved : goal.branches::read_ofs-loop-place-preserved
branches::read_ofs-loop-place-preserved t c =
    let input = c.args.input.now in let x = origin_of input in let n = c.args.spaces in let left = c.args.left in
    let so = c.loop-place.invariant in let ts = from_at input c.loop-place.next in let some = chosen_of c.loop-place.all in let rest =
    from_at input (c.loop-place.next + 1) in let m = c.in-Some.ensures in let e = head_on input c.loop-place.next m.tok m.head in let h =
    c.in_ok-more.ensures in
    record {
      leads = leads_on (ofs_on x n left some _ m.tok rest ts _ c.in-Some.place e m.stands m.is h.runs) so.leads;
      goes = omega (arith, h.goes, so.goes);
      within = h.within;
    }

pub branches::read_ofs-returns : goal.branches::read_ofs-returns
branches::read_ofs-returns t c =
    let input = c.args.input.now in let x = origin_of input in let n = c.args.spaces in let left = c.args.left in
    let so = c.loop-place.invariant in let ts = from_at input c.loop-place.next in let some = chosen_of c.loop-place.all in let rest =
    from_at input (c.loop-place.next + 1) in found _ _ (leads_on (ofs_end x n left some ts c.in_default.ensures) so.leads) so.goes so.within

pub branches::read_else-returns-in-Some : goal.branches::read_else-returns-in-Some
branches::read_else-returns-in-Some t c =
    let input = c.args.input.now in let x = origin_of input in let n = c.args.spaces in let left = c.args.left in
    let m = c.in-Some.ensures in
    comes_leads block_of _ _ input _ (else_on x n left (from_at input c.args.at) (from_at input (c.args.at + 1)) m.is
    (ap behind (head_on input c.args.at m.tok m.head))) _ (omega arith) _ c.read_body.ensures

pub branches::read_else-returns-in-None : goal.branches::read_else-returns-in-None
branches::read_else-returns-in-None t c =
    let input = c.args.input.now in let x = origin_of input in let n = c.args.spaces in let left = c.args.left in
    found _ _ (leads_on (block_got _ _ _ (ap statements_of c.new.ensures.items)) (else_none x n left _ c.in-None.ensures)) (omega arith) c.requires.within

pub compound::read_finally-returns-in-Some : goal.compound::read_finally-returns-in-Some
compound::read_finally-returns-in-Some t c =
    let input = c.args.input.now in let x = origin_of input in let n = c.args.spaces in let left = c.args.left in
    let m = c.in-Some.ensures in
    comes_leads block_of _ _ input _ (finally_on x n left (from_at input c.args.at) (from_at input (c.args.at + 1)) m.is
    (ap behind (head_on input c.args.at m.tok m.head))) _ (omega arith) _ c.read_body.ensures

pub compound::read_finally-returns-in-None : goal.compound::read_finally-returns-in-None
compound::read_finally-returns-in-None t c =
    let input = c.args.input.now in let x = origin_of input in let n = c.args.spaces in let left = c.args.left in
    found _ _ (leads_on (block_got _ _ _ (ap statements_of c.new.ensures.items)) (finally_none x n left _ c.in-None.ensures)) (omega arith) c.requires.within

pub branches::read_case-returns-in_err-selector : goal.branches::read_case-returns-in_err-selector
branches::read_case-returns-in_err-selector t c =
    let input = c.args.input.now in let x = origin_of input in let n = c.args.spaces in let left = c.args.left in
    let p = err_from_is_err_and c.from_residual.result c.from_residual.ensures.1 in
    let e = suc_at input c.args.at in
    rw (p.1, p.2) (fails_suc _ _ x (λ k. refl) _ (fails_then _ _ _ _ (fails_at (λ m k. run_here k x n m) x e _ c.in_err-selector.ensures)))

pub branches::read_case-returns : goal.branches::read_case-returns
branches::read_case-returns t c =
    let input = c.args.input.now in let x = origin_of input in let n = c.args.spaces in let left = c.args.left in
    let e = suc_at input c.args.at in let h = c.in_ok-selector.ensures in
    comes_leads statement_of _ _ input _ (leads_on (leads_then _ (settles_at (λ m k. run_here k x n m) e h.runs)) (leads_suc _ _ (λ k. refl))) _ (omega arith)
    _ c.read_branches.ensures

pub branches::read_of-returns-in_err-first : goal.branches::read_of-returns-in_err-first
branches::read_of-returns-in_err-first t c =
    let input = c.args.input.now in let x = origin_of input in let n = c.args.spaces in let left = c.args.left in
    let p = err_from_is_err_and c.from_residual.result c.from_residual.ensures.1 in
    rw (p.1, p.2) (fails_leads _ _ _ (leads_on (leads_unless _ _ (sym c.stays.ensures ∙ c.if-not-stays.false)) (leads_suc _ _ (λ k. refl)))
    _ (fails_then _ _ _ _ c.in_err-first.ensures))

pub branches::read_of-returns-then-not-stays : goal.branches::read_of-returns-then-not-stays
branches::read_of-returns-then-not-stays t c =
    let input = c.args.input.now in let x = origin_of input in let n = c.args.spaces in let left = c.args.left in
    told_fails x (of_stuck x n left _ _ _ (sym c.stays.ensures ∙ c.if-not-stays.true)) _ c.stuck.ensures

pub branches::read_of-returns-in_err-labels : goal.branches::read_of-returns-in_err-labels
branches::read_of-returns-in_err-labels t c =
    let input = c.args.input.now in let x = origin_of input in let n = c.args.spaces in let left = c.args.left in
    let p = err_from_is_err_and c.from_residual-in_err-labels.result c.from_residual-in_err-labels.ensures.1 in
    rw (p.1, p.2)
    (fails_leads
    _ _ _ (leads_on (leads_then _ c.in_ok-first.ensures.runs)
    (leads_on (leads_unless _ _ (sym c.stays.ensures ∙ c.if-not-stays.false)) (leads_suc _ _ (λ k. refl))))
    _ (fails_then _ _ _ _ c.in_err-labels.ensures))

pub branches::read_of-returns-in_err-block : goal.branches::read_of-returns-in_err-block
branches::read_of-returns-in_err-block t c =
    let input = c.args.input.now in let x = origin_of input in let n = c.args.spaces in let left = c.args.left in
    let p = err_from_is_err_and c.from_residual-in_err-block.result c.from_residual-in_err-block.ensures.1 in
    rw (p.1, p.2)
    (fails_leads
    _ _ _ (leads_on (leads_then _ c.in_ok-labels.ensures.runs)
    (leads_on (leads_then _ c.in_ok-first.ensures.runs)
    (leads_on (leads_unless _ _ (sym c.stays.ensures ∙ c.if-not-stays.false)) (leads_suc _ _ (λ k. refl)))))
    _ (fails_then _ _ _ _ c.in_err-block.ensures))

pub branches::read_of-returns : goal.branches::read_of-returns
branches::read_of-returns t c =
    let input = c.args.input.now in let x = origin_of input in let n = c.args.spaces in let left = c.args.left in
    let h = c.in_ok-block.ensures in
    rw c.in_ok-and_branch.ensures.ok
    (found _ _ (leads_on (leads_then _ h.runs)
    (leads_on (leads_then _ c.in_ok-labels.ensures.runs)
    (leads_on (leads_then _ c.in_ok-first.ensures.runs)
    (leads_on (leads_unless _ _ (sym c.stays.ensures ∙ c.if-not-stays.false)) (leads_suc _ _ (λ k. refl))))))
    (omega (arith, h.goes, c.in_ok-labels.ensures.goes, c.in_ok-first.ensures.goes)) h.within)

pub compound::read_while-returns-in_err-condition : goal.compound::read_while-returns-in_err-condition
compound::read_while-returns-in_err-condition t c =
    let input = c.args.input.now in let x = origin_of input in let n = c.args.spaces in let left = c.args.left in
    let p = err_from_is_err_and c.from_residual.result c.from_residual.ensures.1 in
    let e = suc_at input c.args.at in
    rw (p.1, p.2) (fails_suc _ _ x (λ k. refl) _ (fails_then _ _ _ _ (fails_at (λ m k. run_here k x n m) x e _ c.in_err-condition.ensures)))

pub compound::read_while-returns-in-Err : goal.compound::read_while-returns-in-Err
compound::read_while-returns-in-Err t c =
    let input = c.args.input.now in let x = origin_of input in let n = c.args.spaces in let left = c.args.left in
    let e = suc_at input c.args.at in
    fails_leads _ _ _ (leads_on (leads_then _ (settles_at (λ m k. run_here k x n m) e c.in_ok-condition.ensures.runs)) (leads_suc _ _ (λ k. refl)))
    _ (fails_then _ _ _ _ c.in-Err.ensures)

pub compound::read_while-returns : goal.compound::read_while-returns
compound::read_while-returns t c =
    let input = c.args.input.now in let x = origin_of input in let n = c.args.spaces in let left = c.args.left in
    let e = suc_at input c.args.at in let h = c.in-Ok.ensures in
    rw (repeated c.place_at.result c.in_ok-condition.condition.value c.in-Ok.block.value
    ∙ ap (λ p. repeats p (term_of c.in_ok-condition.condition.value) (statements_of c.in-Ok.block.value.items)) c.place_at.ensures)
    (found _ _ (leads_on (leads_then _ h.runs) (leads_on (leads_then _ (settles_at (λ m k. run_here k x n m) e c.in_ok-condition.ensures.runs))
    (leads_suc _ _ (λ k. refl)))) (omega (arith, h.goes, c.in_ok-condition.ensures.goes)) h.within)

pub compound::read_for-returns-in_err-variable : goal.compound::read_for-returns-in_err-variable
compound::read_for-returns-in_err-variable t c =
    let input = c.args.input.now in let x = origin_of input in let n = c.args.spaces in let left = c.args.left in
    let p = err_from_is_err_and c.from_residual.result c.from_residual.ensures.1 in
    let e = suc_at input c.args.at in
    rw (p.1, p.2) (fails_suc _ _ x (λ k. refl) _ (fails_then _ _ _ _ (fails_at (λ m k. run_name x (Lines n) m) x e _ c.in_err-variable.ensures)))

pub compound::read_for-returns-in_default : goal.compound::read_for-returns-in_default
compound::read_for-returns-in_default t c =
    let input = c.args.input.now in let x = origin_of input in let n = c.args.spaces in let left = c.args.left in
    let e = suc_at input c.args.at in
    told_fails x ((leads_on (leads_then _ (settles_at (λ m k. run_name x (Lines n) m) e c.in_ok-variable.ensures.runs)) (leads_suc _ _ (λ k. refl)))
    _ (settles_stuck _ _ c.in_default.ensures)) _ c.stuck.ensures

pub compound::read_for-returns-in_err-over : goal.compound::read_for-returns-in_err-over
compound::read_for-returns-in_err-over t c =
    let input = c.args.input.now in let x = origin_of input in let n = c.args.spaces in let left = c.args.left in
    let p = err_from_is_err_and c.from_residual-in_err-over.result c.from_residual-in_err-over.ensures.1 in
    let e = suc_at input c.args.at in
    rw (p.1, p.2)
    (fails_leads
    _ _ _ (leads_on (leads_unless _ _ c.in-Some.ensures.is)
    (leads_on (leads_then _ (settles_at (λ m k. run_name x (Lines n) m) e c.in_ok-variable.ensures.runs)) (leads_suc _ _ (λ k. refl))))
    _ (fails_then _ _ _ _ (fails_at (λ m k. run_course k x n m) x c.in-Some.ensures.behind _ c.in_err-over.ensures)))

pub compound::read_for-returns-in-Err : goal.compound::read_for-returns-in-Err
compound::read_for-returns-in-Err t c =
    let input = c.args.input.now in let x = origin_of input in let n = c.args.spaces in let left = c.args.left in
    let e = suc_at input c.args.at in
    fails_leads _ _ _ (leads_on (leads_then _ (settles_at (λ m k. run_course k x n m) c.in-Some.ensures.behind c.in_ok-over.ensures.runs))
    (leads_on (leads_unless _ _ c.in-Some.ensures.is)
    (leads_on (leads_then _ (settles_at (λ m k. run_name x (Lines n) m) e c.in_ok-variable.ensures.runs)) (leads_suc _ _ (λ k. refl)))))
    _ (fails_then _ _ _ _ c.in-Err.ensures)

pub compound::read_for-returns : goal.compound::read_for-returns
compound::read_for-returns t c =
    let input = c.args.input.now in let x = origin_of input in let n = c.args.spaces in let left = c.args.left in
    let e = suc_at input c.args.at in let h = c.in-Ok.ensures in
    rw (counted c.place_at.result c.in_ok-variable.variable.value c.in_ok-over.over.value c.in-Ok.block.value
    ∙ ap (λ p. counts p c.in_ok-variable.variable.value (course_of c.in_ok-over.over.value) (statements_of c.in-Ok.block.value.items))
    c.place_at.ensures)
    (found _ _ (leads_on (leads_then _ h.runs)
    (leads_on (leads_then _ (settles_at (λ m k. run_course k x n m) c.in-Some.ensures.behind c.in_ok-over.ensures.runs))
    (leads_on (leads_unless _ _ c.in-Some.ensures.is)
    (leads_on (leads_then _ (settles_at (λ m k. run_name x (Lines n) m) e c.in_ok-variable.ensures.runs)) (leads_suc _ _ (λ k. refl))))))
    (omega (arith, h.goes, c.in_ok-over.ensures.goes, c.in-Some.ensures.goes, c.in_ok-variable.ensures.goes)) h.within)

pub compound::read_defer-returns-in_err-block : goal.compound::read_defer-returns-in_err-block
compound::read_defer-returns-in_err-block t c =
    let input = c.args.input.now in let x = origin_of input in let n = c.args.spaces in let left = c.args.left in
    let p = err_from_is_err_and c.from_residual.result c.from_residual.ensures.1 in
    let e = suc_at input c.args.at in
    rw (p.1, p.2) (fails_suc _ _ x (λ k. refl) _ (fails_then _ _ _ _ (fails_at (λ m k. run_body k x n left m) x e _ c.in_err-block.ensures)))

pub compound::read_defer-returns : goal.compound::read_defer-returns
compound::read_defer-returns t c =
    let input = c.args.input.now in let x = origin_of input in let n = c.args.spaces in let left = c.args.left in
    let e = suc_at input c.args.at in let h = c.in_ok-block.ensures in
    rw (deferred c.place_at.result c.in_ok-block.block.value ∙ ap (λ p. defers p (statements_of c.in_ok-block.block.value.items)) c.place_at.ensures)
    (found _ _ (leads_on (leads_then _ (settles_at (λ m k. run_body k x n left m) e h.runs)) (leads_suc _ _ (λ k. refl))) (omega (arith, h.goes)) h.within)

pub compound::read_try-returns-in_err-block : goal.compound::read_try-returns-in_err-block
compound::read_try-returns-in_err-block t c =
    let input = c.args.input.now in let x = origin_of input in let n = c.args.spaces in let left = c.args.left in
    let p = err_from_is_err_and c.from_residual.result c.from_residual.ensures.1 in
    let e = suc_at input c.args.at in
    rw (p.1, p.2) (fails_suc _ _ x (λ k. refl) _ (fails_then _ _ _ _ (fails_at (λ m k. run_body k x n left m) x e _ c.in_err-block.ensures)))

pub compound::read_try-returns-in_err-all : goal.compound::read_try-returns-in_err-all
compound::read_try-returns-in_err-all t c =
    let input = c.args.input.now in let x = origin_of input in let n = c.args.spaces in let left = c.args.left in
    let p = err_from_is_err_and c.from_residual-in_err-all.result c.from_residual-in_err-all.ensures.1 in
    let e = suc_at input c.args.at in
    rw (p.1, p.2)
    (fails_leads _ _ _ (leads_on (leads_then _ (settles_at (λ m k. run_body k x n left m) e c.in_ok-block.ensures.runs)) (leads_suc _ _ (λ k. refl)))
    _ (fails_then _ _ _ _ c.in_err-all.ensures))

pub compound::read_try-returns-in_err-last : goal.compound::read_try-returns-in_err-last
compound::read_try-returns-in_err-last t c =
    let input = c.args.input.now in let x = origin_of input in let n = c.args.spaces in let left = c.args.left in
    let p = err_from_is_err_and c.from_residual-in_err-last.result c.from_residual-in_err-last.ensures.1 in
    let e = suc_at input c.args.at in
    rw (p.1, p.2)
    (fails_leads
    _ _ _ (leads_on (leads_then _ c.in_ok-all.ensures.runs)
    (leads_on (leads_then _ (settles_at (λ m k. run_body k x n left m) e c.in_ok-block.ensures.runs)) (leads_suc _ _ (λ k. refl))))
    _ (fails_then _ _ _ _ c.in_err-last.ensures))

pub compound::read_try-returns-then-not-have_some : goal.compound::read_try-returns-then-not-have_some
compound::read_try-returns-then-not-have_some t c =
    let input = c.args.input.now in let x = origin_of input in let n = c.args.spaces in let left = c.args.left in
    let e = suc_at input c.args.at in
    told_fails x
    ((leads_on (leads_then _ c.in_ok-last.ensures.runs)
    (leads_on (leads_then _ c.in_ok-all.ensures.runs)
    (leads_on (leads_then _ (settles_at (λ m k. run_body k x n left m) e c.in_ok-block.ensures.runs)) (leads_suc _ _ (λ k. refl)))))
    _ (settles_stuck _ _ (ap₂ (λ (a : List Handler) (b : List Stmt). have_some (handlers_of a) || hold_some (statements_of b))
    (sym c.deref.ensures.value) (sym c.deref-2.ensures.value) ∙ sym c.have_some.ensures ∙ c.if-not-have_some.true))) _ c.stuck.ensures

pub compound::read_try-returns : goal.compound::read_try-returns
compound::read_try-returns t c =
    let input = c.args.input.now in let x = origin_of input in let n = c.args.spaces in let left = c.args.left in
    let e = suc_at input c.args.at in let h = c.in_ok-last.ensures in
    rw (tried c.place_at.result c.in_ok-block.block.value c.in_ok-all.all.value c.in_ok-last.last.value
    ∙ ap (λ p. tries p (statements_of c.in_ok-block.block.value.items) (handlers_of c.in_ok-all.all.value.items)
    (statements_of c.in_ok-last.last.value.items)) c.place_at.ensures)
    (found _ _ (leads_on
    (leads_unless _ _ (ap₂ (λ (a : List Handler) (b : List Stmt). have_some (handlers_of a) || hold_some (statements_of b))
    (sym c.deref.ensures.value) (sym c.deref-2.ensures.value) ∙ sym c.have_some.ensures ∙ c.if-not-have_some.false))
    (leads_on (leads_then _ c.in_ok-last.ensures.runs)
    (leads_on (leads_then _ c.in_ok-all.ensures.runs)
    (leads_on (leads_then _ (settles_at (λ m k. run_body k x n left m) e c.in_ok-block.ensures.runs)) (leads_suc _ _ (λ k. refl))))))
    (omega (arith, h.goes, c.in_ok-all.ensures.goes, c.in_ok-block.ensures.goes)) h.within)

pub compound::read_handler-returns-in_err-types-clause-runs : goal.compound::read_handler-returns-in_err-types-clause-runs
compound::read_handler-returns-in_err-types-clause-runs t c =
    let input = c.args.input.now in let x = origin_of input in let n = c.args.spaces in let left = c.args.left in
    let p = err_from_is_err_and c.from_residual.result c.from_residual.ensures.1 in
    rw (p.1, p.2) (fails_suc _ _ x (λ k. refl) _ (fails_then _ _ _ _ c.in_err-types.ensures))

pub compound::read_handler-returns-in_err-binding-clause-runs : goal.compound::read_handler-returns-in_err-binding-clause-runs
compound::read_handler-returns-in_err-binding-clause-runs t c =
    let input = c.args.input.now in let x = origin_of input in let n = c.args.spaces in let left = c.args.left in
    let p = err_from_is_err_and c.from_residual-in_err-binding.result c.from_residual-in_err-binding.ensures.1 in
    rw (p.1, p.2)
    (fails_leads _ _ _ (leads_on (leads_then _ c.in_ok-types.ensures.runs) (leads_suc _ _ (λ k. refl)))
    _ (fails_then _ _ _ _ (subst (λ (b : Bool). Fails (λ k. run_binding b x n (from_at input c.in_ok-types.types.next)) x c.in_err-binding.field-0.0)
    (c.are_some.ensures ∙ ap are_some c.deref.ensures.value) c.in_err-binding.ensures)))

pub compound::read_handler-returns-in_err-block-clause-runs : goal.compound::read_handler-returns-in_err-block-clause-runs
compound::read_handler-returns-in_err-block-clause-runs t c =
    let input = c.args.input.now in let x = origin_of input in let n = c.args.spaces in let left = c.args.left in
    let p = err_from_is_err_and c.from_residual-in_err-block.result c.from_residual-in_err-block.ensures.1 in
    rw (p.1, p.2)
    (fails_leads
    _ _ _ (leads_on
    (leads_then _ (subst (λ (b : Bool). Settles (λ k. run_binding b x n (from_at input c.in_ok-types.types.next))
    (got c.in_ok-binding.binding.value (from_at input c.in_ok-binding.binding.next)))
    (c.are_some.ensures ∙ ap are_some c.deref.ensures.value) c.in_ok-binding.ensures.runs))
    (leads_on (leads_then _ c.in_ok-types.ensures.runs) (leads_suc _ _ (λ k. refl)))) _ (fails_then _ _ _ _ c.in_err-block.ensures))

pub compound::read_handler-returns-clause-runs : goal.compound::read_handler-returns-clause-runs
compound::read_handler-returns-clause-runs t c =
    let input = c.args.input.now in let x = origin_of input in let n = c.args.spaces in let left = c.args.left in
    let h = c.in_ok-block.ensures in
    found _ _ (leads_on (leads_then _ h.runs)
    (leads_on (leads_then
    _ (subst (λ (b : Bool). Settles (λ k. run_binding b x n (from_at input c.in_ok-types.types.next))
    (got c.in_ok-binding.binding.value (from_at input c.in_ok-binding.binding.next)))
    (c.are_some.ensures ∙ ap are_some c.deref.ensures.value) c.in_ok-binding.ensures.runs))
    (leads_on (leads_then _ c.in_ok-types.ensures.runs) (leads_suc _ _ (λ k. refl)))))
    (omega (arith, h.goes, c.in_ok-binding.ensures.goes, c.in_ok-types.ensures.goes)) h.within

pub compound::read_handlers-loop-place-init : goal.compound::read_handlers-loop-place-init
compound::read_handlers-loop-place-init t c =
    let input = c.args.input.now in let x = origin_of input in let n = c.args.spaces in let left = c.args.left in
    record { leads = handlers_start x n left _ _ (ap handlers_of c.new-all.ensures.items); goes = omega arith; within = c.requires.within }

pub compound::read_handlers-returns-in_err-one : goal.compound::read_handlers-returns-in_err-one
compound::read_handlers-returns-in_err-one t c =
    let input = c.args.input.now in let x = origin_of input in let n = c.args.spaces in let left = c.args.left in
    let p = err_from_is_err_and c.from_residual.result c.from_residual.ensures.1 in
    let so = c.loop-place.invariant in let ts = from_at input c.loop-place.next in let some = handlers_of c.loop-place.all.items in let rest =
    from_at input (c.loop-place.next + 1) in let m = c.in-Some.ensures in let e = head_on input c.loop-place.next m.tok m.head in
    rw (p.1, p.2) (fails_leads _ _ _ so.leads _ (handlers_fail x n left some m.tok rest ts e m.is _ c.in_err-one.ensures.runs))

pub compound::read_handlers-loop-place-preserved : goal.compound::read_handlers-loop-place-preserved
compound::read_handlers-loop-place-preserved t c =
    let input = c.args.input.now in let x = origin_of input in let n = c.args.spaces in let left = c.args.left in
    let so = c.loop-place.invariant in let ts = from_at input c.loop-place.next in let some = handlers_of c.loop-place.all.items in let rest =
    from_at input (c.loop-place.next + 1) in let m = c.in-Some.ensures in let e = head_on input c.loop-place.next m.tok m.head in let h =
    c.in_ok-one.ensures.runs in
    record {
      leads = leads_on
          (handlers_more x n left some _ m.tok _ ts _ _ e m.is h.runs (ap are_some (sym c.deref.ensures.value) ∙ sym c.are_some-goes_on.ensures
          ∙ c.if-not-goes_on.false) (and_caught_is some c.loop-place.all.items _ c.in_ok-one.one.value _ (c.in_ok-all.ensures.ok)
          (c.in_ok-one.ensures.stands ∙ m.stands))) so.leads;
      goes = omega (arith, h.goes, so.goes);
      within = h.within;
    }

pub compound::read_handlers-returns-then-not-goes_on : goal.compound::read_handlers-returns-then-not-goes_on
compound::read_handlers-returns-then-not-goes_on t c =
    let input = c.args.input.now in let x = origin_of input in let n = c.args.spaces in let left = c.args.left in
    let so = c.loop-place.invariant in let ts = from_at input c.loop-place.next in let some = handlers_of c.loop-place.all.items in let rest =
    from_at input (c.loop-place.next + 1) in let m = c.in-Some.ensures in let e = head_on input c.loop-place.next m.tok m.head in let h =
    c.in_ok-one.ensures.runs in
    found _ _ (leads_on (handlers_last x n left some _ m.tok _ ts _ _ e m.is h.runs (ap are_some (sym c.deref.ensures.value) ∙ sym c.are_some-goes_on.ensures
    ∙ c.if-not-goes_on.true) (and_caught_is some c.loop-place.all.items _ c.in_ok-one.one.value _ (c.in_ok-all.ensures.ok)
    (c.in_ok-one.ensures.stands ∙ m.stands))) so.leads) (omega (arith, h.goes, so.goes)) h.within

pub compound::read_handlers-returns : goal.compound::read_handlers-returns
compound::read_handlers-returns t c =
    let input = c.args.input.now in let x = origin_of input in let n = c.args.spaces in let left = c.args.left in
    let so = c.loop-place.invariant in let ts = from_at input c.loop-place.next in let some = handlers_of c.loop-place.all.items in let rest =
    from_at input (c.loop-place.next + 1) in found _ _ (leads_on (handlers_end x n left some ts c.in_default.ensures) so.leads) so.goes so.within

pub compound::read_proc-returns-in_err-head : goal.compound::read_proc-returns-in_err-head
compound::read_proc-returns-in_err-head t c =
    let input = c.args.input.now in let x = origin_of input in let n = c.args.spaces in let left = c.args.left in
    let p = err_from_is_err_and c.from_residual.result c.from_residual.ensures.1 in
    let e = suc_at input c.args.at in
    rw (p.1, p.2) (fails_suc _ _ x (λ k. refl) _ (fails_then _ _ _ _ (fails_at (λ m k. run_head k x (Lines n) m) x e _ c.in_err-head.ensures.runs)))

pub compound::read_proc-returns-in_default : goal.compound::read_proc-returns-in_default
compound::read_proc-returns-in_default t c =
    let input = c.args.input.now in let x = origin_of input in let n = c.args.spaces in let left = c.args.left in
    let e = suc_at input c.args.at in let h = c.in_ok-head.ensures.runs in
    rw (proclaimed c.place_at-place.result c.in_ok-head.head.value c.new.result
    ∙ ap₂ (λ p (b : List Stmt). proclaims p (head_of c.in_ok-head.head.value) (statements_of b)) c.place_at-place.ensures c.new.ensures.items)
    (found _ _ (leads_on (leads_else _ _ c.in_default.ensures)
    (leads_on (leads_then _ (settles_at (λ m k. run_head k x (Lines n) m) e c.in_ok-head.ensures.runs.runs)) (leads_suc _ _ (λ k. refl))))
    (omega (arith, h.goes)) h.within)

pub compound::read_proc-returns-in-Err : goal.compound::read_proc-returns-in-Err
compound::read_proc-returns-in-Err t c =
    let input = c.args.input.now in let x = origin_of input in let n = c.args.spaces in let left = c.args.left in
    let e = suc_at input c.args.at in
    fails_leads
    _ _ _ (leads_on (leads_if _ _ c.in-Some.ensures.is)
    (leads_on (leads_then _ (settles_at (λ m k. run_head k x (Lines n) m) e c.in_ok-head.ensures.runs.runs)) (leads_suc _ _ (λ k. refl))))
    _ (fails_then _ _ _ _ (fails_at (λ m k. run_block k x n left m) x c.in-Some.ensures.behind _ c.in-Err.ensures))

pub compound::read_proc-returns : goal.compound::read_proc-returns
compound::read_proc-returns t c =
    let input = c.args.input.now in let x = origin_of input in let n = c.args.spaces in let left = c.args.left in
    let e = suc_at input c.args.at in let h = c.in-Ok.ensures in
    rw (proclaimed c.place_at-place.result c.in_ok-head.head.value c.in-Ok.block.value
    ∙ ap (λ p. proclaims p (head_of c.in_ok-head.head.value) (statements_of c.in-Ok.block.value.items)) c.place_at-place.ensures)
    (found _ _ (leads_on (leads_then _ (settles_at (λ m k. run_block k x n left m) c.in-Some.ensures.behind c.in-Ok.ensures.runs))
    (leads_on (leads_if _ _ c.in-Some.ensures.is)
    (leads_on (leads_then _ (settles_at (λ m k. run_head k x (Lines n) m) e c.in_ok-head.ensures.runs.runs)) (leads_suc _ _ (λ k. refl)))))
    (omega (arith, h.goes, c.in-Some.ensures.goes, c.in_ok-head.ensures.runs.goes)) h.within)

pub branches::read_branches-returns-in-Err : goal.branches::read_branches-returns-in-Err
branches::read_branches-returns-in-Err t c =
    let input = c.args.input.now in let x = origin_of input in let n = c.args.spaces in let left = c.args.left in
    let tok = c.args.token in let s = term_of c.args.selector.value in let mid = from_at input c.past_colon-next.result in let past =
    c.past_colon-next.ensures.past in
    subst (λ (m : List Token). Fails (λ k. run_branches k x n left tok s m) x c.in-Err.stop) past
    (fails_leads _ _ _ (branches_on x n left tok s c.in-Some.first _ mid c.branch_level-level.result c.in-Some.ensures.some (sym c.in-Some.ensures.is)
    c.branch_level-level.ensures) _ (fails_then _ _ _ _ c.in-Err.ensures))

pub branches::read_branches-returns-in-Err-read_else : goal.branches::read_branches-returns-in-Err-read_else
branches::read_branches-returns-in-Err-read_else t c =
    let input = c.args.input.now in let x = origin_of input in let n = c.args.spaces in let left = c.args.left in
    let tok = c.args.token in let s = term_of c.args.selector.value in let mid = from_at input c.past_colon-next.result in let past =
    c.past_colon-next.ensures.past in
    subst (λ (m : List Token). Fails (λ k. run_branches k x n left tok s m) x c.in-Err-read_else.stop) past
    (fails_leads
    _ _ _ (leads_on (leads_then _ c.in-Ok.ensures.runs)
    (branches_on x n left tok s c.in-Some.first _ mid c.branch_level-level.result c.in-Some.ensures.some (sym c.in-Some.ensures.is)
    c.branch_level-level.ensures)) _ (fails_then _ _ _ _ c.in-Err-read_else.ensures))

pub branches::read_branches-returns-in_default : goal.branches::read_branches-returns-in_default
branches::read_branches-returns-in_default t c =
    let input = c.args.input.now in let x = origin_of input in let n = c.args.spaces in let left = c.args.left in
    let tok = c.args.token in let s = term_of c.args.selector.value in let mid = from_at input c.past_colon-next.result in let past =
    c.past_colon-next.ensures.past in subst (λ (m : List Token). Fails (λ k. run_branches k x n left tok s m) x c.stuck.result) past
    (told_fails x (branches_stuck x n left tok s mid (sym c.in_default.ensures.is)) _ c.stuck.ensures)

pub branches::read_branches-returns : goal.branches::read_branches-returns
branches::read_branches-returns t c =
    let input = c.args.input.now in let x = origin_of input in let n = c.args.spaces in let left = c.args.left in
    let tok = c.args.token in let s = term_of c.args.selector.value in let mid = from_at input c.past_colon-next.result in let past =
    c.past_colon-next.ensures.past in let h = c.in-Ok-read_else.ensures in
    rw (selected c.place_at-place.result c.args.selector.value c.in-Ok.all.value c.in-Ok-read_else.other.value
    ∙ ap (λ p. selects p s (chosen_of c.in-Ok.all.value) (block_of c.in-Ok-read_else.other.value)) c.place_at-place.ensures)
    (subst (λ (m : List Token). Found (λ k. run_branches k x n left tok s m) input (suc c.args.at)
    (selects (place_at x tok) s (chosen_of c.in-Ok.all.value) (block_of c.in-Ok-read_else.other.value)) c.in-Ok-read_else.other.next) past
    (found _ _ (leads_on (leads_then _ h.runs)
    (leads_on (leads_then _ c.in-Ok.ensures.runs)
    (branches_on x n left tok s c.in-Some.first _ mid c.branch_level-level.result c.in-Some.ensures.some (sym c.in-Some.ensures.is)
    c.branch_level-level.ensures))) (omega (arith, h.goes, c.in-Ok.ensures.goes, c.past_colon-next.ensures.goes, c.requires.goes))
    h.within))

pub statements::read_choice-returns-in_err-alone : goal.statements::read_choice-returns-in_err-alone
statements::read_choice-returns-in_err-alone t c =
    let input = c.args.input.now in let x = origin_of input in
    let p = err_from_is_err_and c.from_residual.result c.from_residual.ensures.1 in
    rw (p.1, p.2) (fails_then _ _ _ _ c.in_err-alone.ensures.runs)

pub statements::read_choice-returns-in_err-one-in-None : goal.statements::read_choice-returns-in_err-one-in-None
statements::read_choice-returns-in_err-one-in-None t c =
    let input = c.args.input.now in let x = origin_of input in let n = c.args.spaces in let left = c.args.left in
    let p = err_from_is_err_and c.from_residual-in_err-one-in-None.result c.from_residual-in_err-one-in-None.ensures.1 in
    let some = statements_of c.args.some.items in let ts = from_at input c.args.at in let rest = from_at input (suc c.args.at) in
    rw (p.1, p.2) (fails_leads _ _ _ (choice_has_blocks x n left some c.args.token ts rest _ c.args.lead _ c.in_ok-alone.ensures.runs.runs c.in-None.is)
    _ (fails_then _ _ _ _ c.in_err-one-in-None.ensures))

pub statements::read_choice-returns-in_ok-and_one-in-Some : goal.statements::read_choice-returns-in_ok-and_one-in-Some
statements::read_choice-returns-in_ok-and_one-in-Some t c =
    let input = c.args.input.now in let x = origin_of input in let n = c.args.spaces in let left = c.args.left in
    let some = statements_of c.args.some.items in let ts = from_at input c.args.at in let rest = from_at input (suc c.args.at) in let h =
    c.in_ok-alone.ensures in
    found _ _ (choice_is_alone x n left some c.args.token ts rest _ c.args.lead _ c.in-Some.value _ h.runs.runs c.in-Some.is
    (ap statements_of c.in_ok-and_one-in-Some.ensures.ok ∙ one_more_statement _ _ ∙ ap (and_statement some) c.as_statement.ensures))
    (some_goes _ c.in-Some.value c.in-Some.is h.goes) h.runs.within

pub statements::read_choice-returns-in_ok-and_one-in-None : goal.statements::read_choice-returns-in_ok-and_one-in-None
statements::read_choice-returns-in_ok-and_one-in-None t c =
    let input = c.args.input.now in let x = origin_of input in let n = c.args.spaces in let left = c.args.left in
    let some = statements_of c.args.some.items in let ts = from_at input c.args.at in let rest = from_at input (suc c.args.at) in let h =
    c.in_ok-one-in-None.ensures in
    rw (ap statements_of c.in_ok-and_one-in-None.ensures.ok ∙ one_more_statement _ _)
    (found _ _ (leads_on (leads_then _ h.runs) (choice_has_blocks x n left some c.args.token ts rest _ c.args.lead _ c.in_ok-alone.ensures.runs.runs
    c.in-None.is)) h.goes h.within)

pub statements::read_statement-returns-in-If : goal.statements::read_statement-returns-in-If
statements::read_statement-returns-in-If t c =
    let input = c.args.input.now in let x = origin_of input in let n = c.args.spaces in let left = c.args.left in
    let some = statements_of c.args.some.items in let ts = from_at input c.args.at in let rest = from_at input (suc c.args.at) in
    comes_leads (λ all. statements_of all.items) _ _ input _ (statement_choice x n left some c.in-Some.token rest ts _ c.in-Some.ensures.some
    (sym c.lead_at-lead.ensures) (is_choice _ c.in-If.is)) _ (omega arith) _ c.read_choice.ensures
