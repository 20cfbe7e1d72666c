use Rattle.std.proofs.Common.{◌≡◌, ◌≤◌, ◌<◌, ◌+◌, ◌-◌, suc, false, refl, sym, ap, ap₂, subst, ◌∙◌, arith}
use Rattle.std.specs.Prelude.{Some, None, max, is_some}
use Rattle.std.proofs.lemmas.Result.{err_from_is_err_and}
use Rattle.nim_tree.specs.Terms.{term_of, parts_of, choices_of, levels, most_levels, levels_in, unary, sequence, named, if_term, part, no_parts, and_part}
use Rattle.nim_tree.specs.Terms.{place_of, binary, range}
use Rattle.nim_tree.specs.Terms.{choice, no_choices, and_choice}
use Rattle.parse_exprs.specs.declared.layout.Layout.TheVariants.{Brackets}
use Rattle.parse_exprs.specs.declared.input.Bracket.TheVariants.{Square}
use Rattle.parse_exprs.specs.Look.{place_at, single_of, grouped, applied, names_in, names_behind, closes_at, stays, square_at, first_of_at, past_colon}
use Rattle.parse_exprs.specs.Look.{past_start}
use Rattle.parse_exprs.specs.Outcome.{got, bad, Settles}
use Rattle.parse_exprs.specs.Run.{run_expr, run_level, run_chain, run_unary, run_suffixes, run_enclosed, run_list, run_parts, run_part, run_value, run_own_line}
use Rattle.parse_exprs.specs.Run.{run_elifs, run_label, run_labels, run_ofs, run_branches, run_otherwise}
use Rattle.parse_exprs.specs.Input.{origin_of, from_at}
use Rattle.parse_exprs.specs.Gives.{Fails, Comes, tree_in, tail_of}
use Rattle.parse_exprs.proofs.Levels.{single_level, grouped_levels, applied_levels, most_and, levels_and}
use Rattle.parse_exprs.proofs.Standing.{behind_one, behind_two, behind_next, plus_one, head_one, stands}
use Rattle.parse_exprs.proofs.Coming.{fails_up, fails_on, stuck_here, comes_up, goes_up, found_by, onward_from, onward_on, leads_is}
use Rattle.parse_exprs.proofs.Finding.{found_at, tail}
use Rattle.parse_exprs.proofs.Going.{expr_if, expr_case, expr_operators, level_unary, level_bad, level_on, chain_ends, chain_deep, chain_bad, chain_on}
use Rattle.parse_exprs.proofs.Going.{unary_none, unary_signed, unsigned_bad, unsigned_command, unsigned_got, signed_stuck, signed_bad, signed_got, primary_bad}
use Rattle.parse_exprs.proofs.Going.{primary_on, suffixes_end, suffixes_deep, suffixes_bad, suffixes_on, applied_bad, applied_none, applied_got, atom_none}
use Rattle.parse_exprs.proofs.Going.{atom_single, atom_group, group_bad, group_none, group_got, seq_no_at, seq_no_stay, seq_no_square, seq_bad, seq_got}
use Rattle.parse_exprs.proofs.Going.{enclosed_empty, enclosed_bad, enclosed_open, enclosed_got, list_bad, list_on, parts_end, parts_bad, parts_on, part_plain}
use Rattle.parse_exprs.proofs.Going.{named_none, named_no_name, named_no_colon, named_bad, named_got}
use Rattle.parse_exprs.proofs.Branching.{value_no_colon, value_on, value_below, own_not_deeper, own_bad, own_open, own_got, tail_no_stay, tail_bad}
use Rattle.parse_exprs.proofs.Branching.{tail_value_bad, tail_got, elifs_end, elifs_bad, elifs_on, else_stuck, else_goes, if_deep, if_none, if_bad}
use Rattle.parse_exprs.proofs.Branching.{if_elifs_bad, if_else_bad, if_got, label_bad, label_one, label_no_stay, label_high_bad, label_got, labels_end}
use Rattle.parse_exprs.proofs.Branching.{labels_bad, labels_on, of_no_stay, of_bad, of_labels_bad, of_value_bad, of_got, ofs_end, ofs_bad, ofs_on}
use Rattle.parse_exprs.proofs.Branching.{otherwise_none, otherwise_bad, otherwise_got, branches_stuck, branches_bad, branches_ofs_bad, branches_on, case_deep}
use Rattle.parse_exprs.proofs.Branching.{case_none, case_no_stay, case_bad, case_on}
use Rattle.parse_exprs.proofs.read.+exprs.Goals as goal

pub operators::read_expr-returns-in-If : goal.operators::read_expr-returns-in-If
operators::read_expr-returns-in-If t c =
    comes_up c.args.input.now (expr_if (origin_of c.args.input.now) c.args.layout c.args.left (from_at c.args.input.now c.args.at)
    (sym c.lead_at.ensures ∙ c.in-If.is)) (omega arith) (omega arith) c.read_if.result c.read_if.ensures

pub operators::read_expr-returns-in-Case : goal.operators::read_expr-returns-in-Case
operators::read_expr-returns-in-Case t c =
    comes_up c.args.input.now (expr_case (origin_of c.args.input.now) c.args.layout c.args.left (from_at c.args.input.now c.args.at)
    (sym c.lead_at.ensures ∙ c.in-Case.is)) (omega arith) (omega arith) c.read_case.result c.read_case.ensures

pub operators::read_expr-returns-in-Operand : goal.operators::read_expr-returns-in-Operand
operators::read_expr-returns-in-Operand t c =
    comes_up c.args.input.now (expr_operators (origin_of c.args.input.now) c.args.layout c.args.left (from_at c.args.input.now c.args.at)
    (sym c.lead_at.ensures ∙ c.in-Operand.is)) (omega arith) (omega arith) c.read_level.result c.read_level.ensures

pub operators::read_level-returns-then-level-eq0 : goal.operators::read_level-returns-then-level-eq0
operators::read_level-returns-then-level-eq0 t c =
    comes_up c.args.input.now (level_unary (origin_of c.args.input.now) c.args.layout c.args.level c.args.left (from_at c.args.input.now c.args.at)
    c.if-level-eq0.true) (omega arith) (omega arith) c.read_unary.result c.read_unary.ensures

pub operators::read_level-returns-in_err-a : goal.operators::read_level-returns-in_err-a
operators::read_level-returns-in_err-a t c =
    let p = err_from_is_err_and c.from_residual.result c.from_residual.ensures.1 in
    let same : suc (c.args.level - 1) ≡ c.args.level = let g = c.if-level-eq0.false in omega (arith, g) in
    rw (p.1, p.2)
    (fails_up c.args.input.now c.in_err-a.field-0.0 (level_bad (origin_of c.args.input.now) c.args.layout (c.args.level - 1) c.args.level c.args.left same
    (past_start c.args.layout) refl (from_at c.args.input.now c.args.at)) c.in_err-a.ensures)

pub operators::read_level-loop-op-init : goal.operators::read_level-loop-op-init
operators::read_level-loop-op-init t c =
    let same : suc (c.args.level - 1) ≡ c.args.level = let g = c.if-level-eq0.false in omega (arith, g) in
    onward_from c.args.input.now (level_on (origin_of c.args.input.now) c.args.layout (c.args.level - 1) c.args.level c.args.left same c.past_start-rest.result
    (sym c.past_start-rest.ensures) (from_at c.args.input.now c.args.at) (term_of c.in_ok-a.a.tree) (from_at c.args.input.now c.in_ok-a.a.next))
    c.in_ok-a.ensures

pub operators::read_level-returns-in_err-a-2 : goal.operators::read_level-returns-in_err-a-2
operators::read_level-returns-in_err-a-2 t c =
    let p = err_from_is_err_and c.from_residual-in_err-a-2.result c.from_residual-in_err-a-2.ensures.1 in
    rw (p.1, p.2) (fails_on c.args.input.now c.in_err-a-2.field-0.0 c.loop-op.invariant.leads c.in_err-a-2.ensures)

pub operators::read_level-loop-op-preserved : goal.operators::read_level-loop-op-preserved
operators::read_level-loop-op-preserved t c =
    onward_on c.args.input.now c.loop-op.invariant (let g = c.loop-op.invariant.goes in omega (arith, g)) c.in_ok-a-2.ensures

pub operators::read_level-returns : goal.operators::read_level-returns
operators::read_level-returns t c =
    found_by c.args.input.now c.loop-op.invariant (chain_ends (origin_of c.args.input.now) c.past_start-rest.result (c.args.level - 1) c.args.left
    (term_of c.loop-op.a.tree) (from_at c.args.input.now c.loop-op.a.next) (sym c.op_at.ensures ∙ c.in_default.is))

pub operators::read_more-returns-then-depth-left : goal.operators::read_more-returns-then-depth-left
operators::read_more-returns-then-depth-left t c =
    chain_deep (origin_of c.args.input.now) c.args.layout c.args.tighter (term_of c.args.a.tree) c.args.op (from_at c.args.input.now c.args.a.next)
    c.requires.operator c.args.left (let d = c.requires.depth in let g = c.if-depth-left.true in omega (arith, d, g))

pub operators::read_more-returns-in_err-b : goal.operators::read_more-returns-in_err-b
operators::read_more-returns-in_err-b t c =
    let p = err_from_is_err_and c.from_residual-in_err-b.result c.from_residual-in_err-b.ensures.1 in
    let same : suc (c.args.left - 1) ≡ c.args.left = let g = c.if-depth-left.false in omega (arith, g) in
    let few : levels (term_of c.args.a.tree) ≤ c.args.left - 1 = let d = c.requires.depth in let g = c.if-depth-left.false in omega (arith, d, g) in
    let back = sym (behind_one c.args.a.next c.args.input.now.tokens.now) in
    rw (p.1, p.2)
    (fails_up c.args.input.now c.in_err-b.field-0.0 (chain_bad (origin_of c.args.input.now) c.args.layout c.args.tighter (term_of c.args.a.tree) c.args.op
    (from_at c.args.input.now c.args.a.next) c.requires.operator c.args.left (c.args.left - 1) same few)
    (subst (λ v. Fails (λ k. run_level k (origin_of c.args.input.now) c.args.layout c.args.tighter (c.args.left - 1) v) c.args.input.now
    c.in_err-b.field-0.0) back c.in_err-b.ensures))

pub operators::read_more-returns : goal.operators::read_more-returns
operators::read_more-returns t c =
    let same : suc (c.args.left - 1) ≡ c.args.left = let g = c.if-depth-left.false in omega (arith, g) in
    let few : levels (term_of c.args.a.tree) ≤ c.args.left - 1 = let d = c.requires.depth in let g = c.if-depth-left.false in omega (arith, d, g) in
    let runs = subst (λ v. Settles (λ k. run_level k (origin_of c.args.input.now) c.args.layout c.args.tighter (c.args.left - 1) v)
    (got (term_of c.in_ok-b.b.tree) (from_at c.args.input.now c.in_ok-b.b.next))) (sym (behind_one c.args.a.next c.args.input.now.tokens.now))
    c.in_ok-b.ensures.runs in
    let made = c.in_ok-all.ensures.ok
    ∙ ap (λ a. binary (place_of (term_of a)) c.args.op (term_of a) (term_of c.in_ok-b.b.tree)) c.in_ok-first.ensures.ok in
    let high = ap levels made in
    record {
      leads = leads_is (λ u us k. run_chain k (origin_of c.args.input.now) c.args.layout c.args.tighter c.args.left u us) made refl
          (chain_on (origin_of c.args.input.now) c.args.layout c.args.tighter (term_of c.args.a.tree) c.args.op (from_at c.args.input.now c.args.a.next)
          c.requires.operator c.args.left (c.args.left - 1) same few (term_of c.in_ok-b.b.tree) (from_at c.args.input.now c.in_ok-b.b.next) runs);
      depth = let a = c.requires.depth in let b = c.in_ok-b.ensures.depth in let m = c.max-deeper.ensures in omega (arith, a, b, m, high);
      few = let a = c.in_ok-b.ensures.few in let b = c.requires.depth in let m = c.max-deeper.ensures in omega (arith, a, b, m, few, same);
      goes = let a = c.in_ok-b.ensures.goes in omega (arith, a);
      within = c.in_ok-b.ensures.within;
    }

pub operators::read_unary-returns-then-left-eq0 : goal.operators::read_unary-returns-then-left-eq0
operators::read_unary-returns-then-left-eq0 t c =
    subst (λ m. Fails (λ k. run_unary k (origin_of c.args.input.now) c.args.layout m (from_at c.args.input.now c.args.at)) c.args.input.now c.no_level.result)
    (sym c.if-left-eq0.true) (c.no_level.ensures c.args.layout)

pub operators::read_unary-returns-in_default : goal.operators::read_unary-returns-in_default
operators::read_unary-returns-in_default t c =
    let some : 0 < c.args.left = let g = c.if-left-eq0.false in omega (arith, g) in
    unary_none (origin_of c.args.input.now) c.args.layout c.args.left (from_at c.args.input.now c.args.at) some c.in_default.ensures.none

pub operators::read_unary-returns-in-Some-sign_of : goal.operators::read_unary-returns-in-Some-sign_of
operators::read_unary-returns-in-Some-sign_of t c =
    let same : suc (c.args.left - 1) ≡ c.args.left = let g = c.if-left-eq0.false in omega (arith, g) in
    comes_up c.args.input.now (unary_signed (origin_of c.args.input.now) c.args.layout c.args.left (c.args.left - 1) same c.in-Some.token
    (from_at c.args.input.now (suc c.args.at)) (from_at c.args.input.now c.args.at) c.in-Some.ensures.some (Some c.in-Some-sign_of.op)
    (sym c.sign_of.ensures ∙ c.in-Some-sign_of.is)) (omega arith) (omega arith) c.read_signed.result c.read_signed.ensures

pub operators::read_unary-returns-in-None : goal.operators::read_unary-returns-in-None
operators::read_unary-returns-in-None t c =
    let same : suc (c.args.left - 1) ≡ c.args.left = let g = c.if-left-eq0.false in omega (arith, g) in
    comes_up c.args.input.now (unary_signed (origin_of c.args.input.now) c.args.layout c.args.left (c.args.left - 1) same c.in-Some.token
    (from_at c.args.input.now (suc c.args.at)) (from_at c.args.input.now c.args.at) c.in-Some.ensures.some None (sym c.sign_of.ensures ∙ c.in-None.is))
    (omega arith) (omega arith) c.read_unsigned.result c.read_unsigned.ensures

pub operators::read_unsigned-returns-in_err-a : goal.operators::read_unsigned-returns-in_err-a
operators::read_unsigned-returns-in_err-a t c =
    let p = err_from_is_err_and c.from_residual.result c.from_residual.ensures.1 in
    let same : suc (c.args.left - 1) ≡ c.args.left = let g = c.requires.some in omega (arith, g) in
    rw (p.1, p.2)
    (fails_up c.args.input.now c.in_err-a.field-0.0 (unsigned_bad (origin_of c.args.input.now) c.args.layout c.args.left (c.args.left - 1) same c.args.token
    (from_at c.args.input.now (suc c.args.at)) (from_at c.args.input.now c.args.at) c.requires.head c.at_start.result (sym c.at_start.ensures))
    c.in_err-a.ensures)

pub operators::read_unsigned-returns-then-no_command_on : goal.operators::read_unsigned-returns-then-no_command_on
operators::read_unsigned-returns-then-no_command_on t c =
    let same : suc (c.args.left - 1) ≡ c.args.left = let g = c.requires.some in omega (arith, g) in
    let a = c.in_ok-a.ensures in
    record {
      runs = unsigned_got (origin_of c.args.input.now) c.args.layout c.args.left (c.args.left - 1) same c.args.token (from_at c.args.input.now (suc c.args.at))
          (from_at c.args.input.now c.args.at) c.requires.head c.at_start.result (sym c.at_start.ensures) (term_of c.in_ok-a.a.tree)
          (from_at c.args.input.now c.in_ok-a.a.next) a.runs (sym c.no_command_on.ensures ∙ c.if-no_command_on.true);
      depth = a.depth;
      few = a.few;
      goes = a.goes;
      within = a.within;
    }

pub operators::read_unsigned-returns-else-no_command_on : goal.operators::read_unsigned-returns-else-no_command_on
operators::read_unsigned-returns-else-no_command_on t c =
    let same : suc (c.args.left - 1) ≡ c.args.left = let g = c.requires.some in omega (arith, g) in
    unsigned_command (origin_of c.args.input.now) c.args.layout c.args.left (c.args.left - 1) same c.args.token (from_at c.args.input.now (suc c.args.at))
    (from_at c.args.input.now c.args.at) c.requires.head c.at_start.result (sym c.at_start.ensures) (term_of c.in_ok-a.a.tree)
    (from_at c.args.input.now c.in_ok-a.a.next) c.in_ok-a.ensures.runs (sym c.no_command_on.ensures ∙ c.if-no_command_on.false)

pub operators::read_signed-returns-then-not-stays : goal.operators::read_signed-returns-then-not-stays
operators::read_signed-returns-then-not-stays t c =
    let one = plus_one c.args.at c.args.input.now.tokens.now in
    stuck_here c.args.input.now (c.args.at + 1) (signed_stuck (origin_of c.args.input.now) c.args.layout (c.args.left - 1) c.args.op c.args.token
    (from_at c.args.input.now (suc c.args.at)) (ap (stays c.args.layout) one ∙ (sym c.stays.ensures ∙ c.if-not-stays.true))) one

pub operators::read_signed-returns-in_err-a : goal.operators::read_signed-returns-in_err-a
operators::read_signed-returns-in_err-a t c =
    let p = err_from_is_err_and c.from_residual.result c.from_residual.ensures.1 in
    let one = plus_one c.args.at c.args.input.now.tokens.now in
    let stay = ap (stays c.args.layout) one ∙ (sym c.stays.ensures ∙ c.if-not-stays.false) in
    rw (p.1, p.2)
    (fails_up c.args.input.now c.in_err-a.field-0.0 (signed_bad (origin_of c.args.input.now) c.args.layout (c.args.left - 1) c.args.op c.args.token
    (from_at c.args.input.now (suc c.args.at)) c.past_start.result (sym c.past_start.ensures) stay)
    (subst (λ v. Fails (λ k. run_unary k (origin_of c.args.input.now) c.past_start.result (c.args.left - 1) v) c.args.input.now c.in_err-a.field-0.0)
    (sym one) c.in_err-a.ensures))

pub operators::read_signed-returns : goal.operators::read_signed-returns
operators::read_signed-returns t c =
    let one = plus_one c.args.at c.args.input.now.tokens.now in
    let stay = ap (stays c.args.layout) one ∙ (sym c.stays.ensures ∙ c.if-not-stays.false) in
    let runs = subst (λ v. Settles (λ k. run_unary k (origin_of c.args.input.now) c.past_start.result (c.args.left - 1) v)
    (got (term_of c.in_ok-a.a.tree) (from_at c.args.input.now c.in_ok-a.a.next))) (sym one) c.in_ok-a.ensures.runs in
    let made = ap (λ p. unary p c.args.op (term_of c.in_ok-a.a.tree)) (sym c.place_at.ensures) ∙ sym c.in_ok-all.ensures.ok in
    let high = ap levels c.in_ok-all.ensures.ok in
    found_at c.args.input.now (signed_got (origin_of c.args.input.now) c.args.layout (c.args.left - 1) c.args.op c.args.token
    (from_at c.args.input.now (suc c.args.at)) c.past_start.result (sym c.past_start.ensures) stay (term_of c.in_ok-a.a.tree)
    (from_at c.args.input.now c.in_ok-a.a.next) runs) made refl
    (let d = c.in_ok-a.ensures.depth in omega (arith, d, high)) (let f = c.in_ok-a.ensures.few in let g = c.requires.some in omega (arith, f, g))
    (let g = c.in_ok-a.ensures.goes in omega (arith, g)) c.in_ok-a.ensures.within

pub operators::read_primary-returns-in_err-a : goal.operators::read_primary-returns-in_err-a
operators::read_primary-returns-in_err-a t c =
    let p = err_from_is_err_and c.from_residual.result c.from_residual.ensures.1 in
    rw (p.1, p.2)
    (fails_up c.args.input.now c.in_err-a.field-0.0 (primary_bad (origin_of c.args.input.now) c.args.layout c.args.command c.args.left
    (from_at c.args.input.now c.args.at)) c.in_err-a.ensures)

pub operators::read_primary-loop-alloc-init : goal.operators::read_primary-loop-alloc-init
operators::read_primary-loop-alloc-init t c =
    onward_from c.args.input.now (primary_on (origin_of c.args.input.now) c.args.layout c.args.command c.args.left (from_at c.args.input.now c.args.at)
    (term_of c.in_ok-a.a.tree) (from_at c.args.input.now c.in_ok-a.a.next)) c.in_ok-a.ensures

pub operators::read_primary-returns-in_err-a-2 : goal.operators::read_primary-returns-in_err-a-2
operators::read_primary-returns-in_err-a-2 t c =
    let p = err_from_is_err_and c.from_residual-in_err-a-2.result c.from_residual-in_err-a-2.ensures.1 in
    rw (p.1, p.2) (fails_on c.args.input.now c.in_err-a-2.field-0.0 c.loop-alloc.invariant.leads c.in_err-a-2.ensures)

pub operators::read_primary-loop-alloc-preserved : goal.operators::read_primary-loop-alloc-preserved
operators::read_primary-loop-alloc-preserved t c =
    onward_on c.args.input.now c.loop-alloc.invariant (let g = c.loop-alloc.invariant.goes in omega (arith, g)) c.in_ok-a-2.ensures

pub operators::read_primary-returns : goal.operators::read_primary-returns
operators::read_primary-returns t c =
    found_by c.args.input.now c.loop-alloc.invariant (suffixes_end (origin_of c.args.input.now) c.args.layout c.args.command c.args.left
    (term_of c.loop-alloc.a.tree) (from_at c.args.input.now c.loop-alloc.a.next) (sym c.suffix_at.ensures ∙ c.loop-alloc-test.false))

pub operators::read_suffix-returns-then-a-left : goal.operators::read_suffix-returns-then-a-left
operators::read_suffix-returns-then-a-left t c =
    suffixes_deep (origin_of c.args.input.now) c.args.layout c.args.command (term_of c.args.a.tree) (from_at c.args.input.now c.args.a.next) c.requires.suffix
    c.args.left (let d = c.requires.depth in let g = c.if-a-left.true in omega (arith, d, g))

pub operators::read_suffix-returns-in-Some : goal.operators::read_suffix-returns-in-Some
operators::read_suffix-returns-in-Some t c =
    let same : suc (c.args.left - 1) ≡ c.args.left = let g = c.if-a-left.false in omega (arith, g) in
    let few : levels (term_of c.args.a.tree) ≤ c.args.left - 1 = let d = c.requires.depth in let g = c.if-a-left.false in omega (arith, d, g) in
    let is = sym c.bracket_at.ensures ∙ c.in-Some.is in
    goes_up (λ u us k. run_suffixes k (origin_of c.args.input.now) c.args.layout c.args.command c.args.left u us) c.args.input.now c.args.left
    (term_of c.args.a.tree) c.args.a.next
    (suffixes_on (origin_of c.args.input.now) c.args.layout c.args.command (term_of c.args.a.tree) (from_at c.args.input.now c.args.a.next) c.requires.suffix
    c.args.left (c.args.left - 1) same few (Some c.in-Some.bracket) is)
    (suffixes_bad (origin_of c.args.input.now) c.args.layout c.args.command (term_of c.args.a.tree) (from_at c.args.input.now c.args.a.next)
    c.requires.suffix c.args.left (c.args.left - 1) same few (Some c.in-Some.bracket) is) c.read_applied.result c.read_applied.ensures

pub operators::read_suffix-returns-in-None : goal.operators::read_suffix-returns-in-None
operators::read_suffix-returns-in-None t c =
    let same : suc (c.args.left - 1) ≡ c.args.left = let g = c.if-a-left.false in omega (arith, g) in
    let few : levels (term_of c.args.a.tree) ≤ c.args.left - 1 = let d = c.requires.depth in let g = c.if-a-left.false in omega (arith, d, g) in
    let is = sym c.bracket_at.ensures ∙ c.in-None.is in
    goes_up (λ u us k. run_suffixes k (origin_of c.args.input.now) c.args.layout c.args.command c.args.left u us) c.args.input.now c.args.left
    (term_of c.args.a.tree) c.args.a.next
    (suffixes_on (origin_of c.args.input.now) c.args.layout c.args.command (term_of c.args.a.tree) (from_at c.args.input.now c.args.a.next) c.requires.suffix
    c.args.left (c.args.left - 1) same few None is) (suffixes_bad (origin_of c.args.input.now) c.args.layout c.args.command (term_of c.args.a.tree)
    (from_at c.args.input.now c.args.a.next) c.requires.suffix c.args.left (c.args.left - 1) same few None is) c.read_field.result c.read_field.ensures

pub operators::read_applied-returns-in_err-parts : goal.operators::read_applied-returns-in_err-parts
operators::read_applied-returns-in_err-parts t c =
    let p = err_from_is_err_and c.from_residual-in_err-parts.result c.from_residual-in_err-parts.ensures.1 in
    let named = ap (names_behind (term_of c.args.a.tree) c.args.bracket) (behind_one c.args.a.next c.args.input.now.tokens.now)
    ∙ sym c.names_behind-names.ensures in
    rw (p.1, p.2)
    (fails_up c.args.input.now c.in_err-parts.field-0.0 (applied_bad (origin_of c.args.input.now) c.args.layout (c.args.left - 1) (term_of c.args.a.tree)
    (from_at c.args.input.now c.args.a.next) c.args.bracket c.names_behind-names.result named) c.in_err-parts.ensures)

pub operators::read_applied-returns-in-Some : goal.operators::read_applied-returns-in-Some
operators::read_applied-returns-in-Some t c =
    let named = ap (names_behind (term_of c.args.a.tree) c.args.bracket) (behind_one c.args.a.next c.args.input.now.tokens.now)
    ∙ sym c.names_behind-names.ensures in
    let base = ap (λ b. applied c.args.bracket c.names_behind-names.result (term_of b) (parts_of c.in_ok-parts.parts.parts.items))
    (sym c.in_ok-base.ensures.ok) ∙ sym c.make_applied.ensures in
    let is = base ∙ ap tree_in c.in-Some.is in
    let high = applied_levels c.args.bracket c.names_behind-names.result (term_of c.args.a.tree) (parts_of c.in_ok-parts.parts.parts.items)
    (term_of c.in-Some.tree) is in
    found_at c.args.input.now (applied_got (origin_of c.args.input.now) c.args.layout (c.args.left - 1) (term_of c.args.a.tree)
    (from_at c.args.input.now c.args.a.next) c.args.bracket c.names_behind-names.result named (parts_of c.in_ok-parts.parts.parts.items)
    (from_at c.args.input.now c.in_ok-parts.parts.next) (term_of c.in-Some.tree) is c.in_ok-parts.ensures.runs) refl refl
    (let a = c.requires.depth in let b = c.in_ok-parts.ensures.depth in let m = c.max-deeper.ensures in omega (arith, a, b, m, high))
    (let a = c.in_ok-parts.ensures.few in let g = c.requires.few in let m = c.max-deeper.ensures in omega (arith, a, g, m))
    c.in_ok-parts.ensures.goes c.in_ok-parts.ensures.within

pub operators::read_applied-returns-in-None : goal.operators::read_applied-returns-in-None
operators::read_applied-returns-in-None t c =
    let named = ap (names_behind (term_of c.args.a.tree) c.args.bracket) (behind_one c.args.a.next c.args.input.now.tokens.now)
    ∙ sym c.names_behind-names.ensures in
    let base = ap (λ b. applied c.args.bracket c.names_behind-names.result (term_of b) (parts_of c.in_ok-parts.parts.parts.items))
    (sym c.in_ok-base.ensures.ok) ∙ sym c.make_applied.ensures in
    stuck_here c.args.input.now (c.args.a.next + 1) (applied_none (origin_of c.args.input.now) c.args.layout (c.args.left - 1) (term_of c.args.a.tree)
    (from_at c.args.input.now c.args.a.next) c.args.bracket c.names_behind-names.result named (parts_of c.in_ok-parts.parts.parts.items)
    (from_at c.args.input.now c.in_ok-parts.parts.next) (base ∙ ap tree_in c.in-None.is) c.in_ok-parts.ensures.runs)
    (behind_one c.args.a.next c.args.input.now.tokens.now)

pub atoms::read_atom-returns-in_default : goal.atoms::read_atom-returns-in_default
atoms::read_atom-returns-in_default t c =
    atom_none (origin_of c.args.input.now) c.args.layout c.args.left (from_at c.args.input.now c.args.at) c.in_default.ensures.none

pub atoms::read_atom-returns-in-Some-single : goal.atoms::read_atom-returns-in-Some-single
atoms::read_atom-returns-in-Some-single t c =
    let is = sym (sym (ap tree_in c.in-Some-single.is) ∙ c.in_ok-single.ensures.ok ∙ ap₂ (λ p s. single_of p s c.in-Some.token.kind) c.place_at.ensures
    c.spelling.ensures) in
    found_at c.args.input.now (atom_single (origin_of c.args.input.now) c.args.layout c.args.left c.in-Some.token (from_at c.args.input.now (suc c.args.at))
    (from_at c.args.input.now c.args.at) c.in-Some.ensures.some (term_of c.in-Some-single.tree) is) refl
    (plus_one c.args.at c.args.input.now.tokens.now)
    (sym (single_level (origin_of c.args.input.now) c.in-Some.token (term_of c.in-Some-single.tree) is)) (let g = c.requires.some in omega (arith, g))
    (omega arith) (let w = c.in-Some.ensures.within in omega (arith, w))

pub atoms::read_atom-returns-in-Some-bracket_at : goal.atoms::read_atom-returns-in-Some-bracket_at
atoms::read_atom-returns-in-Some-bracket_at t c =
    let none = sym (sym (ap tree_in c.in_default-single.is) ∙ c.in_ok-single.ensures.ok ∙ ap₂ (λ p s. single_of p s c.in-Some.token.kind) c.place_at.ensures
    c.spelling.ensures) in
    comes_up c.args.input.now (atom_group (origin_of c.args.input.now) c.args.layout c.args.left c.in-Some.token (from_at c.args.input.now (suc c.args.at))
    (from_at c.args.input.now c.args.at) c.in-Some.ensures.some (Some c.in-Some-bracket_at.bracket) none
    (sym c.bracket_at.ensures ∙ c.in-Some-bracket_at.is)) (omega arith) (omega arith) c.read_group.result (c.read_group.ensures c.args.layout)

pub atoms::read_atom-returns-in-None : goal.atoms::read_atom-returns-in-None
atoms::read_atom-returns-in-None t c =
    let none = sym (sym (ap tree_in c.in_default-single.is) ∙ c.in_ok-single.ensures.ok ∙ ap₂ (λ p s. single_of p s c.in-Some.token.kind) c.place_at.ensures
    c.spelling.ensures) in
    comes_up c.args.input.now (atom_group (origin_of c.args.input.now) c.args.layout c.args.left c.in-Some.token (from_at c.args.input.now (suc c.args.at))
    (from_at c.args.input.now c.args.at) c.in-Some.ensures.some None none (sym c.bracket_at.ensures ∙ c.in-None.is)) (omega arith)
    (omega arith) c.read_sequence.result c.read_sequence.ensures

pub atoms::read_group-returns-in_err-parts : goal.atoms::read_group-returns-in_err-parts
atoms::read_group-returns-in_err-parts t c =
    let p = err_from_is_err_and c.from_residual.result c.from_residual.ensures.1 in
    let same : suc (c.args.left - 1) ≡ c.args.left = let g = c.requires.some in omega (arith, g) in
    let named = ap (names_in c.args.bracket) (plus_one c.args.at c.args.input.now.tokens.now) ∙ sym c.names_in-names.ensures in
    rw (p.1, p.2)
    (λ i. fails_up c.args.input.now c.in_err-parts.field-0.0 (group_bad (origin_of c.args.input.now) i c.args.left (c.args.left - 1) same c.args.token
    (from_at c.args.input.now (suc c.args.at)) c.args.bracket c.names_in-names.result named (from_at c.args.input.now c.args.at) c.requires.head)
    c.in_err-parts.ensures)

pub atoms::read_group-returns-in-Some : goal.atoms::read_group-returns-in-Some
atoms::read_group-returns-in-Some t c =
    let same : suc (c.args.left - 1) ≡ c.args.left = let g = c.requires.some in omega (arith, g) in
    let named = ap (names_in c.args.bracket) (plus_one c.args.at c.args.input.now.tokens.now) ∙ sym c.names_in-names.ensures in
    let is = ap (λ p. grouped c.args.bracket c.names_in-names.result p (parts_of c.in_ok-parts.parts.parts.items)) (sym c.place_at.ensures)
    ∙ sym c.in_ok-all.ensures.ok ∙ ap tree_in c.in-Some.is in
    let high = grouped_levels c.args.bracket c.names_in-names.result (place_at (origin_of c.args.input.now) c.args.token)
    (parts_of c.in_ok-parts.parts.parts.items) (term_of c.in-Some.tree) is in
    λ i. found_at c.args.input.now (group_got (origin_of c.args.input.now) i c.args.left (c.args.left - 1) same c.args.token
    (from_at c.args.input.now (suc c.args.at)) c.args.bracket c.names_in-names.result named (from_at c.args.input.now c.args.at) c.requires.head
    (parts_of c.in_ok-parts.parts.parts.items) (from_at c.args.input.now c.in_ok-parts.parts.next) (term_of c.in-Some.tree) is
    c.in_ok-parts.ensures.runs) refl refl
    (let b = c.in_ok-parts.ensures.depth in omega (arith, b, high)) (let a = c.in_ok-parts.ensures.few in let g = c.requires.some in omega (arith, a, g))
    c.in_ok-parts.ensures.goes c.in_ok-parts.ensures.within

pub atoms::read_group-returns-in-None : goal.atoms::read_group-returns-in-None
atoms::read_group-returns-in-None t c =
    let same : suc (c.args.left - 1) ≡ c.args.left = let g = c.requires.some in omega (arith, g) in
    let named = ap (names_in c.args.bracket) (plus_one c.args.at c.args.input.now.tokens.now) ∙ sym c.names_in-names.ensures in
    let is = ap (λ p. grouped c.args.bracket c.names_in-names.result p (parts_of c.in_ok-parts.parts.parts.items)) (sym c.place_at.ensures)
    ∙ sym c.in_ok-all.ensures.ok ∙ ap tree_in c.in-None.is in
    λ i. stuck_here c.args.input.now (c.args.at + 1) (group_none (origin_of c.args.input.now) i c.args.left (c.args.left - 1) same c.args.token
    (from_at c.args.input.now (suc c.args.at)) c.args.bracket c.names_in-names.result named (from_at c.args.input.now c.args.at) c.requires.head
    (parts_of c.in_ok-parts.parts.parts.items) (from_at c.args.input.now c.in_ok-parts.parts.next) is c.in_ok-parts.ensures.runs)
    (plus_one c.args.at c.args.input.now.tokens.now)

pub atoms::read_sequence-returns-then-not-is_at_sign : goal.atoms::read_sequence-returns-then-not-is_at_sign
atoms::read_sequence-returns-then-not-is_at_sign t c =
    let same : suc (c.args.left - 1) ≡ c.args.left = let g = c.requires.some in omega (arith, g) in
    stuck_here c.args.input.now c.args.at (seq_no_at (origin_of c.args.input.now) c.args.layout c.args.left (c.args.left - 1) same c.args.token
    (from_at c.args.input.now (suc c.args.at)) (sym c.is_at_sign.ensures ∙ c.if-not-is_at_sign.true)) (sym c.requires.head)

pub atoms::read_sequence-returns-then-not-stays : goal.atoms::read_sequence-returns-then-not-stays
atoms::read_sequence-returns-then-not-stays t c =
    let same : suc (c.args.left - 1) ≡ c.args.left = let g = c.requires.some in omega (arith, g) in
    let one = plus_one c.args.at c.args.input.now.tokens.now in
    let at_is = sym c.is_at_sign.ensures ∙ c.if-not-is_at_sign.false in
    stuck_here c.args.input.now (c.args.at + 1) (seq_no_stay (origin_of c.args.input.now) c.args.layout c.args.left (c.args.left - 1) same c.args.token
    (from_at c.args.input.now (suc c.args.at)) at_is (ap (stays c.args.layout) one ∙ (sym c.stays.ensures ∙ c.if-not-stays.true))) one

pub atoms::read_sequence-returns-then-not-square_at : goal.atoms::read_sequence-returns-then-not-square_at
atoms::read_sequence-returns-then-not-square_at t c =
    let same : suc (c.args.left - 1) ≡ c.args.left = let g = c.requires.some in omega (arith, g) in
    let one = plus_one c.args.at c.args.input.now.tokens.now in
    let at_is = sym c.is_at_sign.ensures ∙ c.if-not-is_at_sign.false in
    let stay = ap (stays c.args.layout) one ∙ (sym c.stays.ensures ∙ c.if-not-stays.false) in
    stuck_here c.args.input.now (c.args.at + 1) (seq_no_square (origin_of c.args.input.now) c.args.layout c.args.left (c.args.left - 1) same c.args.token
    (from_at c.args.input.now (suc c.args.at)) at_is stay (ap square_at one ∙ (sym c.square_at.ensures ∙ c.if-not-square_at.true))) one

pub atoms::read_sequence-returns-in_err-parts : goal.atoms::read_sequence-returns-in_err-parts
atoms::read_sequence-returns-in_err-parts t c =
    let p = err_from_is_err_and c.from_residual.result c.from_residual.ensures.1 in
    let same : suc (c.args.left - 1) ≡ c.args.left = let g = c.requires.some in omega (arith, g) in
    let one = plus_one c.args.at c.args.input.now.tokens.now in
    let at_is = sym c.is_at_sign.ensures ∙ c.if-not-is_at_sign.false in
    let stay = ap (stays c.args.layout) one ∙ (sym c.stays.ensures ∙ c.if-not-stays.false) in
    let square = ap square_at one ∙ (sym c.square_at.ensures ∙ c.if-not-square_at.false) in
    rw (p.1, p.2)
    (fails_up c.args.input.now c.in_err-parts.field-0.0 (seq_bad (origin_of c.args.input.now) c.args.layout c.args.left (c.args.left - 1) same c.args.token
    (from_at c.args.input.now (suc c.args.at)) at_is stay square)
    (subst (λ v. Fails (λ k. run_enclosed k (origin_of c.args.input.now) Square false (c.args.left - 1) v) c.args.input.now c.in_err-parts.field-0.0)
    (sym one) c.in_err-parts.ensures))

pub atoms::read_sequence-returns : goal.atoms::read_sequence-returns
atoms::read_sequence-returns t c =
    let same : suc (c.args.left - 1) ≡ c.args.left = let g = c.requires.some in omega (arith, g) in
    let one = plus_one c.args.at c.args.input.now.tokens.now in
    let at_is = sym c.is_at_sign.ensures ∙ c.if-not-is_at_sign.false in
    let stay = ap (stays c.args.layout) one ∙ (sym c.stays.ensures ∙ c.if-not-stays.false) in
    let square = ap square_at one ∙ (sym c.square_at.ensures ∙ c.if-not-square_at.false) in
    let runs = subst (λ v. Settles (λ k. run_enclosed k (origin_of c.args.input.now) Square false (c.args.left - 1) v)
    (got (parts_of c.in_ok-parts.parts.parts.items) (from_at c.args.input.now c.in_ok-parts.parts.next))) (sym one) c.in_ok-parts.ensures.runs in
    let made = ap (λ p. sequence p (parts_of c.in_ok-parts.parts.parts.items)) (sym c.place_at.ensures) ∙ sym c.make_sequence.ensures in
    let high = ap levels c.make_sequence.ensures in
    found_at c.args.input.now (seq_got (origin_of c.args.input.now) c.args.layout c.args.left (c.args.left - 1) same c.args.token
    (from_at c.args.input.now (suc c.args.at)) at_is stay square (parts_of c.in_ok-parts.parts.parts.items)
    (from_at c.args.input.now c.in_ok-parts.parts.next) runs) made refl
    (let b = c.in_ok-parts.ensures.depth in omega (arith, b, high)) (let a = c.in_ok-parts.ensures.few in let g = c.requires.some in omega (arith, a, g))
    (let a = c.in_ok-parts.ensures.goes in omega (arith, a)) c.in_ok-parts.ensures.within

pub parts::read_enclosed-returns-then-closes_at : goal.parts::read_enclosed-returns-then-closes_at
parts::read_enclosed-returns-then-closes_at t c =
    let back = behind_one c.args.at c.args.input.now.tokens.now in
    let closed = sym c.closes_at.ensures ∙ c.if-closes_at.true in
    found_at c.args.input.now (enclosed_empty (origin_of c.args.input.now) c.args.bracket c.args.names c.args.left (from_at c.args.input.now c.args.at)
    (ap (closes_at c.args.bracket) back ∙ closed)) (sym (ap parts_of c.no_parts.ensures.parts)) (behind_two c.args.at c.args.input.now.tokens.now
    ∙ ap (from_at c.args.input.now) (sym c.no_parts.ensures.next))
    (c.no_parts.ensures.depth ∙ sym (ap (λ l. most_levels (parts_of l)) c.no_parts.ensures.parts)) (let d = c.no_parts.ensures.depth in omega (arith, d))
    (let n = c.no_parts.ensures.next in omega (arith, n))
    (let n = c.no_parts.ensures.next in let w = stands (closes_at c.args.bracket) (c.args.at + 1) c.args.input.now.tokens.now refl closed in
    omega (arith, n, w))

pub parts::read_enclosed-returns-in_err-some : goal.parts::read_enclosed-returns-in_err-some
parts::read_enclosed-returns-in_err-some t c =
    let p = err_from_is_err_and c.from_residual.result c.from_residual.ensures.1 in
    let back = behind_one c.args.at c.args.input.now.tokens.now in
    let unclosed = ap (closes_at c.args.bracket) back ∙ (sym c.closes_at.ensures ∙ c.if-closes_at.false) in
    rw (p.1, p.2)
    (fails_up c.args.input.now c.in_err-some.field-0.0 (enclosed_bad (origin_of c.args.input.now) c.args.bracket c.args.names c.args.left
    (from_at c.args.input.now c.args.at) unclosed)
    (subst (λ v. Fails (λ k. run_list k (origin_of c.args.input.now) c.args.names c.args.left v) c.args.input.now c.in_err-some.field-0.0)
    (sym back) c.in_err-some.ensures))

pub parts::read_enclosed-returns-then-not-closes_at : goal.parts::read_enclosed-returns-then-not-closes_at
parts::read_enclosed-returns-then-not-closes_at t c =
    let back = behind_one c.args.at c.args.input.now.tokens.now in
    let unclosed = ap (closes_at c.args.bracket) back ∙ (sym c.closes_at.ensures ∙ c.if-closes_at.false) in
    let runs = subst (λ v. Settles (λ k. run_list k (origin_of c.args.input.now) c.args.names c.args.left v)
    (got (parts_of c.in_ok-some.some.parts.items) (from_at c.args.input.now c.in_ok-some.some.next))) (sym back) c.in_ok-some.ensures.runs in
    enclosed_open (origin_of c.args.input.now) c.args.bracket c.args.names c.args.left (from_at c.args.input.now c.args.at) unclosed
    (parts_of c.in_ok-some.some.parts.items) (from_at c.args.input.now c.in_ok-some.some.next) (sym c.closes_at-2.ensures ∙ c.if-not-closes_at.true) runs

pub parts::read_enclosed-returns : goal.parts::read_enclosed-returns
parts::read_enclosed-returns t c =
    let back = behind_one c.args.at c.args.input.now.tokens.now in
    let unclosed = ap (closes_at c.args.bracket) back ∙ (sym c.closes_at.ensures ∙ c.if-closes_at.false) in
    let runs = subst (λ v. Settles (λ k. run_list k (origin_of c.args.input.now) c.args.names c.args.left v)
    (got (parts_of c.in_ok-some.some.parts.items) (from_at c.args.input.now c.in_ok-some.some.next))) (sym back) c.in_ok-some.ensures.runs in
    let closed = sym c.closes_at-2.ensures ∙ c.if-not-closes_at.false in
    found_at c.args.input.now (enclosed_got (origin_of c.args.input.now) c.args.bracket c.args.names c.args.left (from_at c.args.input.now c.args.at) unclosed
    (parts_of c.in_ok-some.some.parts.items) (from_at c.args.input.now c.in_ok-some.some.next) closed runs) refl
    (behind_one c.in_ok-some.some.next c.args.input.now.tokens.now)
    c.in_ok-some.ensures.depth c.in_ok-some.ensures.few (let g = c.in_ok-some.ensures.goes in omega (arith, g))
    (let w = stands (closes_at c.args.bracket) c.in_ok-some.some.next c.args.input.now.tokens.now refl closed in omega (arith, w))

pub parts::read_list-returns-in_err-first : goal.parts::read_list-returns-in_err-first
parts::read_list-returns-in_err-first t c =
    let p = err_from_is_err_and c.from_residual.result c.from_residual.ensures.1 in
    rw (p.1, p.2)
    (fails_up c.args.input.now c.in_err-first.field-0.0
    (list_bad (origin_of c.args.input.now) c.args.names c.args.left (from_at c.args.input.now c.args.at)) c.in_err-first.ensures)

pub parts::read_list-loop-alloc-init : goal.parts::read_list-loop-alloc-init
parts::read_list-loop-alloc-init t c =
    let is = c.in_ok-some.ensures.parts ∙ ap (λ l. and_part (parts_of l) (term_of c.in_ok-first.first.tree)) c.no_parts.ensures.parts in
    let high = ap most_levels is in
    record {
      leads = leads_is (λ u us k. run_parts k (origin_of c.args.input.now) c.args.names c.args.left u us) is
          (ap (from_at c.args.input.now) c.in_ok-some.ensures.next)
          (list_on (origin_of c.args.input.now) c.args.names c.args.left (from_at c.args.input.now c.args.at) (term_of c.in_ok-first.first.tree)
          (from_at c.args.input.now c.in_ok-first.first.next) c.in_ok-first.ensures.runs);
      depth = let d = c.in_ok-some.ensures.depth in let z = c.no_parts.ensures.depth in let f = c.in_ok-first.ensures.depth in omega (arith, d, z, f, high);
      few = let d = c.in_ok-some.ensures.depth in let z = c.no_parts.ensures.depth in let f = c.in_ok-first.ensures.few in omega (arith, d, z, f);
      goes = let n = c.in_ok-some.ensures.next in let g = c.in_ok-first.ensures.goes in omega (arith, n, g);
      within = let n = c.in_ok-some.ensures.next in let g = c.in_ok-first.ensures.within in omega (arith, n, g);
    }

pub parts::read_list-returns-in_err-last : goal.parts::read_list-returns-in_err-last
parts::read_list-returns-in_err-last t c =
    let p = err_from_is_err_and c.from_residual-in_err-last.result c.from_residual-in_err-last.ensures.1 in
    let test = sym c.punct_at.ensures ∙ c.loop-alloc-test.true in
    let back = behind_one c.loop-alloc.some.next c.args.input.now.tokens.now in
    rw (p.1, p.2)
    (fails_up c.args.input.now c.in_err-last.field-0.0
    (λ why h. c.loop-alloc.invariant.leads (bad why)
    (parts_bad (origin_of c.args.input.now) c.args.names c.args.left (from_at c.args.input.now c.loop-alloc.some.next)
    (parts_of c.loop-alloc.some.parts.items) test why h))
    (subst (λ v. Fails (λ k. run_part k (origin_of c.args.input.now) c.args.names c.args.left v) c.args.input.now c.in_err-last.field-0.0)
    (sym back) c.in_err-last.ensures))

pub parts::read_list-loop-alloc-preserved : goal.parts::read_list-loop-alloc-preserved
parts::read_list-loop-alloc-preserved t c =
    let test = sym c.punct_at.ensures ∙ c.loop-alloc-test.true in
    let back = behind_one c.loop-alloc.some.next c.args.input.now.tokens.now in
    let runs = subst (λ v. Settles (λ k. run_part k (origin_of c.args.input.now) c.args.names c.args.left v)
    (got (term_of c.in_ok-last.last.tree) (from_at c.args.input.now c.in_ok-last.last.next))) (sym back) c.in_ok-last.ensures.runs in
    let high = ap most_levels c.in_ok-some-2.ensures.parts ∙ most_and (parts_of c.loop-alloc.some.parts.items) (term_of c.in_ok-last.last.tree) in
    onward_on c.args.input.now {more = suc c.loop-alloc.some.next} c.loop-alloc.invariant (let g = c.loop-alloc.invariant.goes in omega (arith, g)) (record {
      leads = leads_is (λ u us k. run_parts k (origin_of c.args.input.now) c.args.names c.args.left u us) c.in_ok-some-2.ensures.parts
          (ap (from_at c.args.input.now) c.in_ok-some-2.ensures.next)
          (parts_on (origin_of c.args.input.now) c.args.names c.args.left (from_at c.args.input.now c.loop-alloc.some.next)
          (parts_of c.loop-alloc.some.parts.items) test (term_of c.in_ok-last.last.tree) (from_at c.args.input.now c.in_ok-last.last.next) runs);
      depth =
          let s = c.loop-alloc.invariant.depth in
          let d = c.in_ok-some-2.ensures.depth in
          let f = c.in_ok-last.ensures.depth in
          omega (arith, s, d, f, high);
      few = let s = c.loop-alloc.invariant.few in let d = c.in_ok-some-2.ensures.depth in let f = c.in_ok-last.ensures.few in omega (arith, s, d, f);
      goes = let n = c.in_ok-some-2.ensures.next in let g = c.in_ok-last.ensures.goes in omega (arith, n, g);
      within = let n = c.in_ok-some-2.ensures.next in let g = c.in_ok-last.ensures.within in omega (arith, n, g);
    })

pub parts::read_list-returns : goal.parts::read_list-returns
parts::read_list-returns t c =
    found_by c.args.input.now c.loop-alloc.invariant
    (parts_end (origin_of c.args.input.now) c.args.names c.args.left (from_at c.args.input.now c.loop-alloc.some.next)
    (parts_of c.loop-alloc.some.parts.items) (sym c.punct_at.ensures ∙ c.loop-alloc-test.false))

pub parts::read_part-returns-else-names : goal.parts::read_part-returns-else-names
parts::read_part-returns-else-names t c =
    subst (λ m. Comes (λ k. run_part k (origin_of c.args.input.now) m c.args.left (from_at c.args.input.now c.args.at)) c.args.input.now c.args.left
    (suc c.args.at) c.read_expr.result) (sym c.if-names.false)
    (comes_up c.args.input.now (part_plain (origin_of c.args.input.now) c.args.left (from_at c.args.input.now c.args.at)) (omega arith)
    (omega arith) c.read_expr.result c.read_expr.ensures)

pub parts::read_named-returns-in_default : goal.parts::read_named-returns-in_default
parts::read_named-returns-in_default t c =
    named_none (origin_of c.args.input.now) c.args.left (from_at c.args.input.now c.args.at) c.in_default.ensures.none

pub parts::read_named-returns-then-not-is_name_at : goal.parts::read_named-returns-then-not-is_name_at
parts::read_named-returns-then-not-is_name_at t c =
    let head = head_one c.args.at c.args.input.now.tokens.now c.in-Some.ensures.some in
    named_no_name (origin_of c.args.input.now) c.args.left c.in-Some.token (from_at c.args.input.now (c.args.at + 1)) (from_at c.args.input.now c.args.at) head
    (sym c.is_name_at.ensures ∙ c.if-not-is_name_at.true)

pub parts::read_named-returns-then-not-punct_at : goal.parts::read_named-returns-then-not-punct_at
parts::read_named-returns-then-not-punct_at t c =
    let head = head_one c.args.at c.args.input.now.tokens.now c.in-Some.ensures.some in
    let name = sym c.is_name_at.ensures ∙ c.if-not-is_name_at.false in
    named_no_colon (origin_of c.args.input.now) c.args.left c.in-Some.token (from_at c.args.input.now (c.args.at + 1)) (from_at c.args.input.now c.args.at) head
    name (sym c.punct_at.ensures ∙ c.if-not-punct_at.true)

pub parts::read_named-returns-in_err-a : goal.parts::read_named-returns-in_err-a
parts::read_named-returns-in_err-a t c =
    let p = err_from_is_err_and c.from_residual.result c.from_residual.ensures.1 in
    let head = head_one c.args.at c.args.input.now.tokens.now c.in-Some.ensures.some in
    let name = sym c.is_name_at.ensures ∙ c.if-not-is_name_at.false in
    let colon = sym c.punct_at.ensures ∙ c.if-not-punct_at.false in
    let back = behind_next c.args.at c.args.input.now.tokens.now in
    rw (p.1, p.2)
    (fails_up c.args.input.now c.in_err-a.field-0.0
    (named_bad (origin_of c.args.input.now) c.args.left c.in-Some.token (from_at c.args.input.now (c.args.at + 1)) (from_at c.args.input.now c.args.at)
    head name colon) (subst (λ v. Fails (λ k. run_expr k (origin_of c.args.input.now) Brackets c.args.left v) c.args.input.now c.in_err-a.field-0.0)
    (sym back) c.in_err-a.ensures))

pub parts::read_named-returns : goal.parts::read_named-returns
parts::read_named-returns t c =
    let head = head_one c.args.at c.args.input.now.tokens.now c.in-Some.ensures.some in
    let name = sym c.is_name_at.ensures ∙ c.if-not-is_name_at.false in
    let colon = sym c.punct_at.ensures ∙ c.if-not-punct_at.false in
    let back = behind_next c.args.at c.args.input.now.tokens.now in
    let runs = subst
    (λ v. Settles (λ k. run_expr k (origin_of c.args.input.now) Brackets c.args.left v)
    (got (term_of c.in_ok-a.a.tree) (from_at c.args.input.now c.in_ok-a.a.next))) (sym back) c.in_ok-a.ensures.runs in
    let made = ap₂ (λ p s. named p s (term_of c.in_ok-a.a.tree)) (sym c.place_at.ensures) (sym c.spelling.ensures) ∙ sym c.in_ok-tree.ensures.ok in
    let high = ap levels c.in_ok-tree.ensures.ok in
    found_at c.args.input.now (named_got (origin_of c.args.input.now) c.args.left c.in-Some.token (from_at c.args.input.now (c.args.at + 1))
    (from_at c.args.input.now c.args.at) head name colon (term_of c.in_ok-a.a.tree) (from_at c.args.input.now c.in_ok-a.a.next) runs) made refl
    (let d = c.in_ok-a.ensures.depth in omega (arith, d, high)) c.in_ok-a.ensures.few (let g = c.in_ok-a.ensures.goes in omega (arith, g))
    c.in_ok-a.ensures.within

pub branches::read_value-returns-then-not-colon_at : goal.branches::read_value-returns-then-not-colon_at
branches::read_value-returns-then-not-colon_at t c =
    value_no_colon (origin_of c.args.input.now) c.args.layout c.args.left (from_at c.args.input.now c.args.at) (sym c.colon_at.ensures ∙ c.if-not-colon_at.true)

pub branches::read_value-returns-then-stays : goal.branches::read_value-returns-then-stays
branches::read_value-returns-then-stays t c =
    let one = behind_one c.args.at c.args.input.now.tokens.now in
    let colon = sym c.colon_at.ensures ∙ c.if-not-colon_at.false in
    let stay = ap (stays c.args.layout) one ∙ (sym c.stays.ensures ∙ c.if-stays.true) in
    comes_up c.args.input.now (value_on (origin_of c.args.input.now) c.args.layout c.args.left (from_at c.args.input.now c.args.at) colon stay) (omega arith)
    (omega arith) c.read_expr.result
    (subst (λ v. Comes (λ k. run_expr k (origin_of c.args.input.now) c.args.layout c.args.left v) c.args.input.now c.args.left (suc (c.args.at + 1))
    c.read_expr.result) (sym one) c.read_expr.ensures)

pub branches::read_value-returns-else-stays : goal.branches::read_value-returns-else-stays
branches::read_value-returns-else-stays t c =
    let one = behind_one c.args.at c.args.input.now.tokens.now in
    let colon = sym c.colon_at.ensures ∙ c.if-not-colon_at.false in
    let stay = ap (stays c.args.layout) one ∙ (sym c.stays.ensures ∙ c.if-stays.false) in
    comes_up c.args.input.now (value_below (origin_of c.args.input.now) c.args.layout c.args.left (from_at c.args.input.now c.args.at) colon stay) (omega arith)
    (omega arith) c.read_own_line.result
    (subst (λ v. Comes (λ k. run_own_line k (origin_of c.args.input.now) c.args.layout c.args.left v) c.args.input.now c.args.left (suc (c.args.at + 1))
    c.read_own_line.result) (sym one) c.read_own_line.ensures)

pub branches::read_own_line-returns-then-not-deeper_line_at : goal.branches::read_own_line-returns-then-not-deeper_line_at
branches::read_own_line-returns-then-not-deeper_line_at t c =
    own_not_deeper (origin_of c.args.input.now) c.args.layout c.args.left (from_at c.args.input.now c.args.at)
    (sym c.deeper_line_at.ensures ∙ c.if-not-deeper_line_at.true)

pub branches::read_own_line-returns-in_err-value : goal.branches::read_own_line-returns-in_err-value
branches::read_own_line-returns-in_err-value t c =
    let p = err_from_is_err_and c.from_residual.result c.from_residual.ensures.1 in
    let deeper = sym c.deeper_line_at.ensures ∙ c.if-not-deeper_line_at.false in
    rw (p.1, p.2)
    (fails_up c.args.input.now c.in_err-value.field-0.0 (own_bad (origin_of c.args.input.now) c.args.layout c.args.left (from_at c.args.input.now c.args.at)
    deeper c.line_layout-own.result (sym c.line_layout-own.ensures)) c.in_err-value.ensures)

pub branches::read_own_line-returns-then-closed_at : goal.branches::read_own_line-returns-then-closed_at
branches::read_own_line-returns-then-closed_at t c =
    let deeper = sym c.deeper_line_at.ensures ∙ c.if-not-deeper_line_at.false in
    let v = c.in_ok-value.ensures in
    record {
      runs = own_got (origin_of c.args.input.now) c.args.layout c.args.left (from_at c.args.input.now c.args.at) deeper c.line_layout-own.result
          (sym c.line_layout-own.ensures) (term_of c.in_ok-value.value.tree) (from_at c.args.input.now c.in_ok-value.value.next) v.runs
          (sym c.closed_at.ensures ∙ c.if-closed_at.true);
      depth = v.depth;
      few = v.few;
      goes = v.goes;
      within = v.within;
    }

pub branches::read_own_line-returns-else-closed_at : goal.branches::read_own_line-returns-else-closed_at
branches::read_own_line-returns-else-closed_at t c =
    let deeper = sym c.deeper_line_at.ensures ∙ c.if-not-deeper_line_at.false in
    own_open (origin_of c.args.input.now) c.args.layout c.args.left (from_at c.args.input.now c.args.at) deeper c.line_layout-own.result
    (sym c.line_layout-own.ensures) (term_of c.in_ok-value.value.tree) (from_at c.args.input.now c.in_ok-value.value.next) c.in_ok-value.ensures.runs
    (sym c.closed_at.ensures ∙ c.if-closed_at.false)

pub branches::read_tail-returns-then-not-stays : goal.branches::read_tail-returns-then-not-stays
branches::read_tail-returns-then-not-stays t c =
    tail_no_stay (origin_of c.args.input.now) c.args.layout c.args.left (from_at c.args.input.now c.args.at) (sym c.stays.ensures ∙ c.if-not-stays.true)

pub branches::read_tail-returns-in_err-condition : goal.branches::read_tail-returns-in_err-condition
branches::read_tail-returns-in_err-condition t c =
    let p = err_from_is_err_and c.from_residual.result c.from_residual.ensures.1 in
    let stay = sym c.stays.ensures ∙ c.if-not-stays.false in
    rw (p.1, p.2)
    (fails_up c.args.input.now c.in_err-condition.field-0.0
    (tail_bad (origin_of c.args.input.now) c.args.layout c.args.left (from_at c.args.input.now c.args.at) stay c.past_start.result
    (sym c.past_start.ensures)) c.in_err-condition.ensures)

pub branches::read_tail-returns-in_err-value : goal.branches::read_tail-returns-in_err-value
branches::read_tail-returns-in_err-value t c =
    let p = err_from_is_err_and c.from_residual-in_err-value.result c.from_residual-in_err-value.ensures.1 in
    let stay = sym c.stays.ensures ∙ c.if-not-stays.false in
    let next = ap (from_at c.args.input.now) c.in_ok-tests.ensures.next in
    rw (p.1, p.2)
    (fails_up c.args.input.now c.in_err-value.field-0.0
    (tail_value_bad (origin_of c.args.input.now) c.args.layout c.args.left (from_at c.args.input.now c.args.at) stay c.past_start.result
    (sym c.past_start.ensures) (term_of c.in_ok-condition.condition.tree) (from_at c.args.input.now c.in_ok-condition.condition.next)
    c.in_ok-condition.ensures.runs)
    (subst (λ v. Fails (λ k. run_value k (origin_of c.args.input.now) c.args.layout c.args.left v) c.args.input.now c.in_err-value.field-0.0) next
    c.in_err-value.ensures))

pub branches::read_tail-returns : goal.branches::read_tail-returns
branches::read_tail-returns t c =
    let stay = sym c.stays.ensures ∙ c.if-not-stays.false in
    let next = ap (from_at c.args.input.now) c.in_ok-tests.ensures.next in
    let runs = subst (λ v. Settles (λ k. run_value k (origin_of c.args.input.now) c.args.layout c.args.left v)
    (got (term_of c.in_ok-value.value.tree) (from_at c.args.input.now c.in_ok-value.value.next))) next c.in_ok-value.ensures.runs in
    let is = c.in_ok-tests.ensures.parts ∙ ap (λ l. and_part (parts_of l) (term_of c.in_ok-condition.condition.tree)) c.no_parts.ensures.parts in
    let tests : parts_of c.with_value.result.tests.items ≡ part (term_of c.in_ok-condition.condition.tree) no_parts =
    ap parts_of c.with_value.ensures.tests ∙ is in
    let value = ap term_of c.with_value.ensures.value in
    let made = ap₂ tail (sym tests) (sym value) in
    let high = ap₂ (λ ps v. max (most_levels ps) (levels v)) tests value in
    found_at c.args.input.now (tail_got (origin_of c.args.input.now) c.args.layout c.args.left (from_at c.args.input.now c.args.at) stay c.past_start.result
    (sym c.past_start.ensures) (term_of c.in_ok-condition.condition.tree) (from_at c.args.input.now c.in_ok-condition.condition.next)
    c.in_ok-condition.ensures.runs (term_of c.in_ok-value.value.tree) (from_at c.args.input.now c.in_ok-value.value.next) runs) made
    (ap (from_at c.args.input.now) (sym c.with_value.ensures.next))
    (let w = c.with_value.ensures.depth in let d = c.in_ok-tests.ensures.depth in let z = c.no_parts.ensures.depth in let a = c.in_ok-condition.ensures.depth in
    let b = c.in_ok-value.ensures.depth in omega (arith, w, d, z, a, b, high))
    (let w = c.with_value.ensures.depth in let d = c.in_ok-tests.ensures.depth in let z = c.no_parts.ensures.depth in let a = c.in_ok-condition.ensures.few in
    let b = c.in_ok-value.ensures.few in omega (arith, w, d, z, a, b))
    (let n = c.with_value.ensures.next in let m = c.in_ok-tests.ensures.next in let a = c.in_ok-condition.ensures.goes in let b = c.in_ok-value.ensures.goes in
    omega (arith, n, m, a, b))
    (let n = c.with_value.ensures.next in let b = c.in_ok-value.ensures.within in omega (arith, n, b))

pub branches::read_elifs-returns-in_err-last : goal.branches::read_elifs-returns-in_err-last
branches::read_elifs-returns-in_err-last t c =
    let p = err_from_is_err_and c.from_residual.result c.from_residual.ensures.1 in
    let head = head_one c.loop-token.some.next c.args.input.now.tokens.now c.in-Some.ensures.some in
    let test = sym c.elif_at.ensures.is ∙ ap is_some c.in-Some.is in
    rw (p.1, p.2)
    (fails_up c.args.input.now c.in_err-last.field-0.0
    (λ why h. c.loop-token.invariant.leads (bad why)
    (elifs_bad (origin_of c.args.input.now) c.args.layout c.args.left (choices_of c.loop-token.some.branches.items) c.in-Some.token
    (from_at c.args.input.now (c.loop-token.some.next + 1)) (from_at c.args.input.now c.loop-token.some.next) head test why h))
    c.in_err-last.ensures)

pub branches::read_elifs-loop-token-preserved : goal.branches::read_elifs-loop-token-preserved
branches::read_elifs-loop-token-preserved t c =
    let head = head_one c.loop-token.some.next c.args.input.now.tokens.now c.in-Some.ensures.some in
    let test = sym c.elif_at.ensures.is ∙ ap is_some c.in-Some.is in
    let is = c.in_ok-some.ensures.branches
    ∙ ap (λ p. and_choice (choices_of c.loop-token.some.branches.items) p (parts_of c.in_ok-last.last.tests.items) (term_of c.in_ok-last.last.value))
    c.place_at.ensures in
    let high = ap levels_in is ∙ levels_and (choices_of c.loop-token.some.branches.items) (place_at (origin_of c.args.input.now) c.in-Some.token)
    (parts_of c.in_ok-last.last.tests.items) (term_of c.in_ok-last.last.value) in
    onward_on c.args.input.now c.loop-token.invariant c.loop-token.invariant.goes (record {
      leads = leads_is (λ u us k. run_elifs k (origin_of c.args.input.now) c.args.layout c.args.left u us) is
          (ap (from_at c.args.input.now) c.in_ok-some.ensures.next)
          (elifs_on (origin_of c.args.input.now) c.args.layout c.args.left (choices_of c.loop-token.some.branches.items) c.in-Some.token
          (from_at c.args.input.now (c.loop-token.some.next + 1)) (from_at c.args.input.now c.loop-token.some.next) head test (tail_of c.in_ok-last.last)
          (from_at c.args.input.now c.in_ok-last.last.next) c.in_ok-last.ensures.runs);
      depth = let s = c.loop-token.invariant.depth in let d = c.in_ok-some.ensures.depth in let f = c.in_ok-last.ensures.depth in omega (arith, s, d, f, high);
      few = let s = c.loop-token.invariant.few in let d = c.in_ok-some.ensures.depth in let f = c.in_ok-last.ensures.few in omega (arith, s, d, f);
      goes = let n = c.in_ok-some.ensures.next in let g = c.in_ok-last.ensures.goes in omega (arith, n, g);
      within = let n = c.in_ok-some.ensures.next in let g = c.in_ok-last.ensures.within in omega (arith, n, g);
    })

pub branches::read_elifs-returns : goal.branches::read_elifs-returns
branches::read_elifs-returns t c =
    found_by c.args.input.now c.loop-token.invariant
    (elifs_end (origin_of c.args.input.now) c.args.layout c.args.left (choices_of c.loop-token.some.branches.items)
    (from_at c.args.input.now c.loop-token.some.next) (sym c.elif_at.ensures.is ∙ ap is_some c.in_default.is))

pub branches::read_ofs-returns-in_err-last : goal.branches::read_ofs-returns-in_err-last
branches::read_ofs-returns-in_err-last t c =
    let p = err_from_is_err_and c.from_residual.result c.from_residual.ensures.1 in
    let head = head_one c.loop-token.some.next c.args.input.now.tokens.now c.in-Some.ensures.some in
    let test = sym c.of_at.ensures.is ∙ ap is_some c.in-Some.is in
    rw (p.1, p.2)
    (fails_up c.args.input.now c.in_err-last.field-0.0
    (λ why h. c.loop-token.invariant.leads (bad why)
    (ofs_bad (origin_of c.args.input.now) c.args.layout c.args.left (choices_of c.loop-token.some.branches.items) c.in-Some.token
    (from_at c.args.input.now (c.loop-token.some.next + 1)) (from_at c.args.input.now c.loop-token.some.next) head test why h))
    c.in_err-last.ensures)

pub branches::read_ofs-loop-token-preserved : goal.branches::read_ofs-loop-token-preserved
branches::read_ofs-loop-token-preserved t c =
    let head = head_one c.loop-token.some.next c.args.input.now.tokens.now c.in-Some.ensures.some in
    let test = sym c.of_at.ensures.is ∙ ap is_some c.in-Some.is in
    let is = c.in_ok-some.ensures.branches
    ∙ ap (λ p. and_choice (choices_of c.loop-token.some.branches.items) p (parts_of c.in_ok-last.last.tests.items) (term_of c.in_ok-last.last.value))
    c.place_at.ensures in
    let high = ap levels_in is ∙ levels_and (choices_of c.loop-token.some.branches.items) (place_at (origin_of c.args.input.now) c.in-Some.token)
    (parts_of c.in_ok-last.last.tests.items) (term_of c.in_ok-last.last.value) in
    onward_on c.args.input.now c.loop-token.invariant c.loop-token.invariant.goes (record {
      leads = leads_is (λ u us k. run_ofs k (origin_of c.args.input.now) c.args.layout c.args.left u us) is
          (ap (from_at c.args.input.now) c.in_ok-some.ensures.next)
          (ofs_on (origin_of c.args.input.now) c.args.layout c.args.left (choices_of c.loop-token.some.branches.items) c.in-Some.token
          (from_at c.args.input.now (c.loop-token.some.next + 1)) (from_at c.args.input.now c.loop-token.some.next) head test (tail_of c.in_ok-last.last)
          (from_at c.args.input.now c.in_ok-last.last.next) c.in_ok-last.ensures.runs);
      depth = let s = c.loop-token.invariant.depth in let d = c.in_ok-some.ensures.depth in let f = c.in_ok-last.ensures.depth in omega (arith, s, d, f, high);
      few = let s = c.loop-token.invariant.few in let d = c.in_ok-some.ensures.depth in let f = c.in_ok-last.ensures.few in omega (arith, s, d, f);
      goes = let n = c.in_ok-some.ensures.next in let g = c.in_ok-last.ensures.goes in omega (arith, n, g);
      within = let n = c.in_ok-some.ensures.next in let g = c.in_ok-last.ensures.within in omega (arith, n, g);
    })

pub branches::read_ofs-returns : goal.branches::read_ofs-returns
branches::read_ofs-returns t c =
    found_by c.args.input.now c.loop-token.invariant
    (ofs_end (origin_of c.args.input.now) c.args.layout c.args.left (choices_of c.loop-token.some.branches.items)
    (from_at c.args.input.now c.loop-token.some.next) (sym c.of_at.ensures.is ∙ ap is_some c.in_default.is))

pub branches::read_else-returns-then-not-else_at : goal.branches::read_else-returns-then-not-else_at
branches::read_else-returns-then-not-else_at t c =
    else_stuck (origin_of c.args.input.now) c.args.layout c.args.left (from_at c.args.input.now c.args.at) (sym c.else_at.ensures ∙ c.if-not-else_at.true)

pub branches::read_else-returns : goal.branches::read_else-returns
branches::read_else-returns t c =
    comes_up c.args.input.now (else_goes (origin_of c.args.input.now) c.args.layout c.args.left (from_at c.args.input.now c.args.at)
    (sym c.else_at.ensures ∙ c.if-not-else_at.false)) (omega arith) (omega arith) c.read_value.result
    (subst (λ v. Comes (λ k. run_value k (origin_of c.args.input.now) c.args.layout c.args.left v) c.args.input.now c.args.left (suc (c.args.at + 1))
    c.read_value.result) (sym (behind_one c.args.at c.args.input.now.tokens.now)) c.read_value.ensures)

pub branches::read_if-returns-then-left-eq0 : goal.branches::read_if-returns-then-left-eq0
branches::read_if-returns-then-left-eq0 t c =
    if_deep (origin_of c.args.input.now) c.args.layout c.args.left (from_at c.args.input.now c.args.at) c.if-left-eq0.true

pub branches::read_if-returns-in_default : goal.branches::read_if-returns-in_default
branches::read_if-returns-in_default t c =
    let same : suc (c.args.left - 1) ≡ c.args.left = let g = c.if-left-eq0.false in omega (arith, g) in
    if_none (origin_of c.args.input.now) c.args.layout c.args.left (c.args.left - 1) same (from_at c.args.input.now c.args.at) c.in_default.ensures.none

pub branches::read_if-returns-in_err-tail : goal.branches::read_if-returns-in_err-tail
branches::read_if-returns-in_err-tail t c =
    let p = err_from_is_err_and c.from_residual.result c.from_residual.ensures.1 in
    let same : suc (c.args.left - 1) ≡ c.args.left = let g = c.if-left-eq0.false in omega (arith, g) in
    let head = head_one c.args.at c.args.input.now.tokens.now c.in-Some.ensures.some in
    rw (p.1, p.2)
    (fails_up c.args.input.now c.in_err-tail.field-0.0 (if_bad (origin_of c.args.input.now) c.args.layout c.args.left (c.args.left - 1) same c.in-Some.token
    (from_at c.args.input.now (c.args.at + 1)) (from_at c.args.input.now c.args.at) head) c.in_err-tail.ensures)

pub branches::read_if-returns-in_err-all : goal.branches::read_if-returns-in_err-all
branches::read_if-returns-in_err-all t c =
    let p = err_from_is_err_and c.from_residual-in_err-all.result c.from_residual-in_err-all.ensures.1 in
    let same : suc (c.args.left - 1) ≡ c.args.left = let g = c.if-left-eq0.false in omega (arith, g) in
    let head = head_one c.args.at c.args.input.now.tokens.now c.in-Some.ensures.some in
    let is = c.in_ok-first.ensures.branches ∙ ap₂ (λ cs p. and_choice cs p (parts_of c.in_ok-tail.tail.tests.items) (term_of c.in_ok-tail.tail.value))
    (ap choices_of c.no_branches.ensures.branches) c.place_at-place.ensures in
    let next = ap (from_at c.args.input.now) c.in_ok-first.ensures.next in
    rw (p.1, p.2)
    (fails_up c.args.input.now c.in_err-all.field-0.0
    (if_elifs_bad (origin_of c.args.input.now) c.args.layout c.args.left (c.args.left - 1) same c.in-Some.token
    (from_at c.args.input.now (c.args.at + 1)) (from_at c.args.input.now c.args.at) head (tail_of c.in_ok-tail.tail)
    (from_at c.args.input.now c.in_ok-tail.tail.next) c.in_ok-tail.ensures.runs)
    (subst (λ v. Fails
    (λ k. run_elifs k (origin_of c.args.input.now) c.args.layout (c.args.left - 1)
    (choice (place_at (origin_of c.args.input.now) c.in-Some.token) (parts_of c.in_ok-tail.tail.tests.items)
    (term_of c.in_ok-tail.tail.value) no_choices) v) c.args.input.now c.in_err-all.field-0.0) next
    (subst (λ u. Fails
    (λ k. run_elifs k (origin_of c.args.input.now) c.args.layout (c.args.left - 1) u (from_at c.args.input.now c.in_ok-first.first.next))
    c.args.input.now c.in_err-all.field-0.0) is c.in_err-all.ensures)))

pub branches::read_if-returns-in_err-otherwise : goal.branches::read_if-returns-in_err-otherwise
branches::read_if-returns-in_err-otherwise t c =
    let p = err_from_is_err_and c.from_residual-in_err-otherwise.result c.from_residual-in_err-otherwise.ensures.1 in
    let same : suc (c.args.left - 1) ≡ c.args.left = let g = c.if-left-eq0.false in omega (arith, g) in
    let head = head_one c.args.at c.args.input.now.tokens.now c.in-Some.ensures.some in
    let is = c.in_ok-first.ensures.branches ∙ ap₂ (λ cs p. and_choice cs p (parts_of c.in_ok-tail.tail.tests.items) (term_of c.in_ok-tail.tail.value))
    (ap choices_of c.no_branches.ensures.branches) c.place_at-place.ensures in
    let next = ap (from_at c.args.input.now) c.in_ok-first.ensures.next in
    let runs = subst
    (λ v. Settles
    (λ k. run_elifs k (origin_of c.args.input.now) c.args.layout (c.args.left - 1)
    (choice (place_at (origin_of c.args.input.now) c.in-Some.token) (parts_of c.in_ok-tail.tail.tests.items) (term_of c.in_ok-tail.tail.value)
    no_choices) v) (got (choices_of c.in_ok-all.all.branches.items) (from_at c.args.input.now c.in_ok-all.all.next))) next
    (subst (λ u. Settles
    (λ k. run_elifs k (origin_of c.args.input.now) c.args.layout (c.args.left - 1) u (from_at c.args.input.now c.in_ok-first.first.next))
    (got (choices_of c.in_ok-all.all.branches.items) (from_at c.args.input.now c.in_ok-all.all.next))) is c.in_ok-all.ensures.runs) in
    rw (p.1, p.2)
    (fails_up c.args.input.now c.in_err-otherwise.field-0.0
    (if_else_bad (origin_of c.args.input.now) c.args.layout c.args.left (c.args.left - 1) same c.in-Some.token
    (from_at c.args.input.now (c.args.at + 1)) (from_at c.args.input.now c.args.at) head (tail_of c.in_ok-tail.tail)
    (from_at c.args.input.now c.in_ok-tail.tail.next) c.in_ok-tail.ensures.runs (choices_of c.in_ok-all.all.branches.items)
    (from_at c.args.input.now c.in_ok-all.all.next) runs) c.in_err-otherwise.ensures)

pub branches::read_if-returns : goal.branches::read_if-returns
branches::read_if-returns t c =
    let same : suc (c.args.left - 1) ≡ c.args.left = let g = c.if-left-eq0.false in omega (arith, g) in
    let head = head_one c.args.at c.args.input.now.tokens.now c.in-Some.ensures.some in
    let is = c.in_ok-first.ensures.branches ∙ ap₂ (λ cs p. and_choice cs p (parts_of c.in_ok-tail.tail.tests.items) (term_of c.in_ok-tail.tail.value))
    (ap choices_of c.no_branches.ensures.branches) c.place_at-place.ensures in
    let next = ap (from_at c.args.input.now) c.in_ok-first.ensures.next in
    let runs = subst
    (λ v. Settles
    (λ k. run_elifs k (origin_of c.args.input.now) c.args.layout (c.args.left - 1)
    (choice (place_at (origin_of c.args.input.now) c.in-Some.token) (parts_of c.in_ok-tail.tail.tests.items) (term_of c.in_ok-tail.tail.value)
    no_choices) v) (got (choices_of c.in_ok-all.all.branches.items) (from_at c.args.input.now c.in_ok-all.all.next))) next
    (subst (λ u. Settles
    (λ k. run_elifs k (origin_of c.args.input.now) c.args.layout (c.args.left - 1) u (from_at c.args.input.now c.in_ok-first.first.next))
    (got (choices_of c.in_ok-all.all.branches.items) (from_at c.args.input.now c.in_ok-all.all.next))) is c.in_ok-all.ensures.runs) in
    let made = ap (λ p. if_term p (choices_of c.in_ok-all.all.branches.items) (term_of c.in_ok-otherwise.otherwise.tree)) (sym c.place_at-place.ensures)
    ∙ sym c.in_ok-tree.ensures.ok in
    let high = ap levels c.in_ok-tree.ensures.ok in
    found_at c.args.input.now (if_got (origin_of c.args.input.now) c.args.layout c.args.left (c.args.left - 1) same c.in-Some.token
    (from_at c.args.input.now (c.args.at + 1)) (from_at c.args.input.now c.args.at) head (tail_of c.in_ok-tail.tail)
    (from_at c.args.input.now c.in_ok-tail.tail.next) c.in_ok-tail.ensures.runs (choices_of c.in_ok-all.all.branches.items)
    (from_at c.args.input.now c.in_ok-all.all.next) runs (term_of c.in_ok-otherwise.otherwise.tree)
    (from_at c.args.input.now c.in_ok-otherwise.otherwise.next) c.in_ok-otherwise.ensures.runs) made refl
    (let a = c.in_ok-all.ensures.depth in let b = c.in_ok-otherwise.ensures.depth in let m = c.max-deeper.ensures in omega (arith, a, b, m, high))
    (let a = c.in_ok-all.ensures.few in let b = c.in_ok-otherwise.ensures.few in let m = c.max-deeper.ensures in omega (arith, a, b, m, same))
    (let a = c.in_ok-tail.ensures.goes in let n = c.in_ok-first.ensures.next in let b = c.in_ok-all.ensures.goes in let d = c.in_ok-otherwise.ensures.goes in
    omega (arith, a, n, b, d)) c.in_ok-otherwise.ensures.within

pub branches::read_label-returns-in_err-low : goal.branches::read_label-returns-in_err-low
branches::read_label-returns-in_err-low t c =
    let p = err_from_is_err_and c.from_residual.result c.from_residual.ensures.1 in
    rw (p.1, p.2)
    (fails_up c.args.input.now c.in_err-low.field-0.0
    (label_bad (origin_of c.args.input.now) c.args.layout c.args.left (from_at c.args.input.now c.args.at)) c.in_err-low.ensures)

pub branches::read_label-returns-then-not-dots_at : goal.branches::read_label-returns-then-not-dots_at
branches::read_label-returns-then-not-dots_at t c =
    found_at c.args.input.now (label_one (origin_of c.args.input.now) c.args.layout c.args.left (from_at c.args.input.now c.args.at)
    (term_of c.in_ok-low.low.tree) (from_at c.args.input.now c.in_ok-low.low.next) c.in_ok-low.ensures.runs
    (sym c.dots_at.ensures ∙ c.if-not-dots_at.true)) refl refl c.in_ok-low.ensures.depth c.in_ok-low.ensures.few c.in_ok-low.ensures.goes
    c.in_ok-low.ensures.within

pub branches::read_label-returns-then-not-stays : goal.branches::read_label-returns-then-not-stays
branches::read_label-returns-then-not-stays t c =
    let dots = sym c.dots_at.ensures ∙ c.if-not-dots_at.false in
    let back = behind_one c.in_ok-low.low.next c.args.input.now.tokens.now in
    stuck_here c.args.input.now (c.in_ok-low.low.next + 1)
    (label_no_stay (origin_of c.args.input.now) c.args.layout c.args.left (from_at c.args.input.now c.args.at) (term_of c.in_ok-low.low.tree)
    (from_at c.args.input.now c.in_ok-low.low.next) c.in_ok-low.ensures.runs dots
    (ap (stays c.args.layout) back ∙ (sym c.stays.ensures ∙ c.if-not-stays.true))) back

pub branches::read_label-returns-in_err-high : goal.branches::read_label-returns-in_err-high
branches::read_label-returns-in_err-high t c =
    let p = err_from_is_err_and c.from_residual-in_err-high.result c.from_residual-in_err-high.ensures.1 in
    let dots = sym c.dots_at.ensures ∙ c.if-not-dots_at.false in
    let back = behind_one c.in_ok-low.low.next c.args.input.now.tokens.now in
    let stay = ap (stays c.args.layout) back ∙ (sym c.stays.ensures ∙ c.if-not-stays.false) in
    rw (p.1, p.2)
    (fails_up c.args.input.now c.in_err-high.field-0.0
    (label_high_bad (origin_of c.args.input.now) c.args.layout c.args.left (from_at c.args.input.now c.args.at) (term_of c.in_ok-low.low.tree)
    (from_at c.args.input.now c.in_ok-low.low.next) c.in_ok-low.ensures.runs dots stay)
    (subst (λ v. Fails (λ k. run_expr k (origin_of c.args.input.now) c.args.layout c.args.left v) c.args.input.now c.in_err-high.field-0.0)
    (sym back) c.in_err-high.ensures))

pub branches::read_label-returns : goal.branches::read_label-returns
branches::read_label-returns t c =
    let dots = sym c.dots_at.ensures ∙ c.if-not-dots_at.false in
    let back = behind_one c.in_ok-low.low.next c.args.input.now.tokens.now in
    let stay = ap (stays c.args.layout) back ∙ (sym c.stays.ensures ∙ c.if-not-stays.false) in
    let runs = subst (λ v. Settles (λ k. run_expr k (origin_of c.args.input.now) c.args.layout c.args.left v)
    (got (term_of c.in_ok-high.high.tree) (from_at c.args.input.now c.in_ok-high.high.next))) (sym back) c.in_ok-high.ensures.runs in
    let made = c.in_ok-tree.ensures.ok
    ∙ ap (λ a. range (place_of (term_of a)) (term_of a) (term_of c.in_ok-high.high.tree)) c.in_ok-first.ensures.ok in
    let high = ap levels made in
    found_at c.args.input.now (label_got (origin_of c.args.input.now) c.args.layout c.args.left (from_at c.args.input.now c.args.at)
    (term_of c.in_ok-low.low.tree) (from_at c.args.input.now c.in_ok-low.low.next) c.in_ok-low.ensures.runs dots stay (term_of c.in_ok-high.high.tree)
    (from_at c.args.input.now c.in_ok-high.high.next) runs) (sym made) refl
    (let a = c.in_ok-low.ensures.depth in let b = c.in_ok-high.ensures.depth in let m = c.max-deeper.ensures in omega (arith, a, b, m, high))
    (let a = c.in_ok-low.ensures.few in let b = c.in_ok-high.ensures.few in let m = c.max-deeper.ensures in omega (arith, a, b, m))
    (let a = c.in_ok-low.ensures.goes in let b = c.in_ok-high.ensures.goes in omega (arith, a, b)) c.in_ok-high.ensures.within

pub branches::read_labels-returns-in_err-last : goal.branches::read_labels-returns-in_err-last
branches::read_labels-returns-in_err-last t c =
    let p = err_from_is_err_and c.from_residual.result c.from_residual.ensures.1 in
    let test = sym c.comma_at.ensures ∙ c.loop-alloc-test.true in
    let back = behind_one c.loop-alloc.some.next c.args.input.now.tokens.now in
    rw (p.1, p.2)
    (fails_up c.args.input.now c.in_err-last.field-0.0
    (λ why h. c.loop-alloc.invariant.leads (bad why)
    (labels_bad (origin_of c.args.input.now) c.args.layout c.args.left (parts_of c.loop-alloc.some.parts.items)
    (from_at c.args.input.now c.loop-alloc.some.next) test why h))
    (subst (λ v. Fails (λ k. run_label k (origin_of c.args.input.now) c.args.layout c.args.left v) c.args.input.now c.in_err-last.field-0.0)
    (sym back) c.in_err-last.ensures))

pub branches::read_labels-loop-alloc-preserved : goal.branches::read_labels-loop-alloc-preserved
branches::read_labels-loop-alloc-preserved t c =
    let test = sym c.comma_at.ensures ∙ c.loop-alloc-test.true in
    let back = behind_one c.loop-alloc.some.next c.args.input.now.tokens.now in
    let runs = subst (λ v. Settles (λ k. run_label k (origin_of c.args.input.now) c.args.layout c.args.left v)
    (got (term_of c.in_ok-last.last.tree) (from_at c.args.input.now c.in_ok-last.last.next))) (sym back) c.in_ok-last.ensures.runs in
    let high = ap most_levels c.in_ok-some.ensures.parts ∙ most_and (parts_of c.loop-alloc.some.parts.items) (term_of c.in_ok-last.last.tree) in
    onward_on c.args.input.now c.loop-alloc.invariant c.loop-alloc.invariant.goes (record {
      leads = leads_is (λ u us k. run_labels k (origin_of c.args.input.now) c.args.layout c.args.left u us) c.in_ok-some.ensures.parts
          (ap (from_at c.args.input.now) c.in_ok-some.ensures.next)
          (labels_on (origin_of c.args.input.now) c.args.layout c.args.left (parts_of c.loop-alloc.some.parts.items)
          (from_at c.args.input.now c.loop-alloc.some.next) test (term_of c.in_ok-last.last.tree) (from_at c.args.input.now c.in_ok-last.last.next) runs);
      depth = let s = c.loop-alloc.invariant.depth in let d = c.in_ok-some.ensures.depth in let f = c.in_ok-last.ensures.depth in omega (arith, s, d, f, high);
      few = let s = c.loop-alloc.invariant.few in let d = c.in_ok-some.ensures.depth in let f = c.in_ok-last.ensures.few in omega (arith, s, d, f);
      goes = let n = c.in_ok-some.ensures.next in let g = c.in_ok-last.ensures.goes in omega (arith, n, g);
      within = let n = c.in_ok-some.ensures.next in let g = c.in_ok-last.ensures.within in omega (arith, n, g);
    })

pub branches::read_labels-returns : goal.branches::read_labels-returns
branches::read_labels-returns t c =
    found_by c.args.input.now c.loop-alloc.invariant (labels_end (origin_of c.args.input.now) c.args.layout c.args.left (parts_of c.loop-alloc.some.parts.items)
    (from_at c.args.input.now c.loop-alloc.some.next) (sym c.comma_at.ensures ∙ c.loop-alloc-test.false))

pub branches::read_of-returns-then-not-stays : goal.branches::read_of-returns-then-not-stays
branches::read_of-returns-then-not-stays t c =
    of_no_stay (origin_of c.args.input.now) c.args.layout c.args.left (from_at c.args.input.now c.args.at) (sym c.stays.ensures ∙ c.if-not-stays.true)

pub branches::read_of-returns-in_err-first : goal.branches::read_of-returns-in_err-first
branches::read_of-returns-in_err-first t c =
    let p = err_from_is_err_and c.from_residual.result c.from_residual.ensures.1 in
    let stay = sym c.stays.ensures ∙ c.if-not-stays.false in
    rw (p.1, p.2)
    (fails_up c.args.input.now c.in_err-first.field-0.0
    (of_bad (origin_of c.args.input.now) c.args.layout c.args.left (from_at c.args.input.now c.args.at) stay c.past_start-inner.result
    (sym c.past_start-inner.ensures)) c.in_err-first.ensures)

pub branches::read_of-returns-in_err-labels : goal.branches::read_of-returns-in_err-labels
branches::read_of-returns-in_err-labels t c =
    let p = err_from_is_err_and c.from_residual-in_err-labels.result c.from_residual-in_err-labels.ensures.1 in
    let stay = sym c.stays.ensures ∙ c.if-not-stays.false in
    let is = c.in_ok-one.ensures.parts ∙ ap (λ l. and_part (parts_of l) (term_of c.in_ok-first.first.tree)) c.no_parts.ensures.parts in
    let next = ap (from_at c.args.input.now) c.in_ok-one.ensures.next in
    rw (p.1, p.2)
    (fails_up c.args.input.now c.in_err-labels.field-0.0
    (of_labels_bad (origin_of c.args.input.now) c.args.layout c.args.left (from_at c.args.input.now c.args.at) stay c.past_start-inner.result
    (sym c.past_start-inner.ensures) (term_of c.in_ok-first.first.tree) (from_at c.args.input.now c.in_ok-first.first.next)
    c.in_ok-first.ensures.runs)
    (subst (λ v. Fails
    (λ k. run_labels k (origin_of c.args.input.now) c.past_start-inner.result c.args.left (part (term_of c.in_ok-first.first.tree) no_parts) v)
    c.args.input.now c.in_err-labels.field-0.0) next
    (subst (λ u. Fails (λ k. run_labels k (origin_of c.args.input.now) c.past_start-inner.result c.args.left u
    (from_at c.args.input.now c.in_ok-one.one.next)) c.args.input.now c.in_err-labels.field-0.0) is c.in_err-labels.ensures)))

pub branches::read_of-returns-in_err-value : goal.branches::read_of-returns-in_err-value
branches::read_of-returns-in_err-value t c =
    let p = err_from_is_err_and c.from_residual-in_err-value.result c.from_residual-in_err-value.ensures.1 in
    let stay = sym c.stays.ensures ∙ c.if-not-stays.false in
    let is = c.in_ok-one.ensures.parts ∙ ap (λ l. and_part (parts_of l) (term_of c.in_ok-first.first.tree)) c.no_parts.ensures.parts in
    let next = ap (from_at c.args.input.now) c.in_ok-one.ensures.next in
    let all = subst
    (λ v. Settles (λ k. run_labels k (origin_of c.args.input.now) c.past_start-inner.result c.args.left (part (term_of c.in_ok-first.first.tree) no_parts)
    v) (got (parts_of c.in_ok-labels.labels.parts.items) (from_at c.args.input.now c.in_ok-labels.labels.next))) next
    (subst (λ u. Settles (λ k. run_labels k (origin_of c.args.input.now) c.past_start-inner.result c.args.left u
    (from_at c.args.input.now c.in_ok-one.one.next))
    (got (parts_of c.in_ok-labels.labels.parts.items) (from_at c.args.input.now c.in_ok-labels.labels.next))) is c.in_ok-labels.ensures.runs) in
    rw (p.1, p.2)
    (fails_up c.args.input.now c.in_err-value.field-0.0
    (of_value_bad (origin_of c.args.input.now) c.args.layout c.args.left (from_at c.args.input.now c.args.at) stay c.past_start-inner.result
    (sym c.past_start-inner.ensures) (term_of c.in_ok-first.first.tree) (from_at c.args.input.now c.in_ok-first.first.next)
    c.in_ok-first.ensures.runs (parts_of c.in_ok-labels.labels.parts.items) (from_at c.args.input.now c.in_ok-labels.labels.next) all)
    c.in_err-value.ensures)

pub branches::read_of-returns : goal.branches::read_of-returns
branches::read_of-returns t c =
    let stay = sym c.stays.ensures ∙ c.if-not-stays.false in
    let is = c.in_ok-one.ensures.parts ∙ ap (λ l. and_part (parts_of l) (term_of c.in_ok-first.first.tree)) c.no_parts.ensures.parts in
    let next = ap (from_at c.args.input.now) c.in_ok-one.ensures.next in
    let all = subst
    (λ v. Settles (λ k. run_labels k (origin_of c.args.input.now) c.past_start-inner.result c.args.left (part (term_of c.in_ok-first.first.tree) no_parts)
    v) (got (parts_of c.in_ok-labels.labels.parts.items) (from_at c.args.input.now c.in_ok-labels.labels.next))) next
    (subst (λ u. Settles (λ k. run_labels k (origin_of c.args.input.now) c.past_start-inner.result c.args.left u
    (from_at c.args.input.now c.in_ok-one.one.next))
    (got (parts_of c.in_ok-labels.labels.parts.items) (from_at c.args.input.now c.in_ok-labels.labels.next))) is c.in_ok-labels.ensures.runs) in
    let tests : parts_of c.with_value.result.tests.items ≡ (parts_of c.in_ok-labels.labels.parts.items) = ap parts_of c.with_value.ensures.tests in
    let value = ap term_of c.with_value.ensures.value in
    let high = ap₂ (λ ps v. max (most_levels ps) (levels v)) tests value in
    found_at c.args.input.now (of_got (origin_of c.args.input.now) c.args.layout c.args.left (from_at c.args.input.now c.args.at) stay c.past_start-inner.result
    (sym c.past_start-inner.ensures) (term_of c.in_ok-first.first.tree) (from_at c.args.input.now c.in_ok-first.first.next) c.in_ok-first.ensures.runs
    (parts_of c.in_ok-labels.labels.parts.items) (from_at c.args.input.now c.in_ok-labels.labels.next) all (term_of c.in_ok-value.value.tree)
    (from_at c.args.input.now c.in_ok-value.value.next) c.in_ok-value.ensures.runs) (ap₂ tail (sym tests) (sym value))
    (ap (from_at c.args.input.now) (sym c.with_value.ensures.next))
    (let w = c.with_value.ensures.depth in let a = c.in_ok-labels.ensures.depth in let b = c.in_ok-value.ensures.depth in omega (arith, w, a, b, high))
    (let w = c.with_value.ensures.depth in let a = c.in_ok-labels.ensures.few in let b = c.in_ok-value.ensures.few in omega (arith, w, a, b))
    (let n = c.with_value.ensures.next in let m = c.in_ok-one.ensures.next in let f = c.in_ok-first.ensures.goes in let a = c.in_ok-labels.ensures.goes in
    let b = c.in_ok-value.ensures.goes in omega (arith, n, m, f, a, b))
    (let n = c.with_value.ensures.next in let b = c.in_ok-value.ensures.within in omega (arith, n, b))

pub branches::read_case-returns-then-left-eq0 : goal.branches::read_case-returns-then-left-eq0
branches::read_case-returns-then-left-eq0 t c =
    case_deep (origin_of c.args.input.now) c.args.layout c.args.left (from_at c.args.input.now c.args.at) c.if-left-eq0.true

pub branches::read_case-returns-in_default : goal.branches::read_case-returns-in_default
branches::read_case-returns-in_default t c =
    let same : suc (c.args.left - 1) ≡ c.args.left = let g = c.if-left-eq0.false in omega (arith, g) in
    case_none (origin_of c.args.input.now) c.args.layout c.args.left (c.args.left - 1) same (from_at c.args.input.now c.args.at) c.in_default.ensures.none

pub branches::read_case-returns-then-not-stays : goal.branches::read_case-returns-then-not-stays
branches::read_case-returns-then-not-stays t c =
    let same : suc (c.args.left - 1) ≡ c.args.left = let g = c.if-left-eq0.false in omega (arith, g) in
    let head = head_one c.args.at c.args.input.now.tokens.now c.in-Some.ensures.some in
    case_no_stay (origin_of c.args.input.now) c.args.layout c.args.left (c.args.left - 1) same c.in-Some.token (from_at c.args.input.now (c.args.at + 1))
    (from_at c.args.input.now c.args.at) head (sym c.stays.ensures ∙ c.if-not-stays.true)

pub branches::read_case-returns-in_err-selector : goal.branches::read_case-returns-in_err-selector
branches::read_case-returns-in_err-selector t c =
    let p = err_from_is_err_and c.from_residual.result c.from_residual.ensures.1 in
    let same : suc (c.args.left - 1) ≡ c.args.left = let g = c.if-left-eq0.false in omega (arith, g) in
    let head = head_one c.args.at c.args.input.now.tokens.now c.in-Some.ensures.some in
    let stay = sym c.stays.ensures ∙ c.if-not-stays.false in
    rw (p.1, p.2)
    (fails_up c.args.input.now c.in_err-selector.field-0.0
    (case_bad (origin_of c.args.input.now) c.args.layout c.args.left (c.args.left - 1) same c.in-Some.token (from_at c.args.input.now (c.args.at + 1))
    (from_at c.args.input.now c.args.at) head stay c.past_start.result (sym c.past_start.ensures)) c.in_err-selector.ensures)

pub branches::read_case-returns : goal.branches::read_case-returns
branches::read_case-returns t c =
    let same : suc (c.args.left - 1) ≡ c.args.left = let g = c.if-left-eq0.false in omega (arith, g) in
    let head = head_one c.args.at c.args.input.now.tokens.now c.in-Some.ensures.some in
    let stay = sym c.stays.ensures ∙ c.if-not-stays.false in
    comes_up c.args.input.now (case_on (origin_of c.args.input.now) c.args.layout c.args.left (c.args.left - 1) same c.in-Some.token
    (from_at c.args.input.now (c.args.at + 1)) (from_at c.args.input.now c.args.at) head stay c.past_start.result (sym c.past_start.ensures)
    (term_of c.in_ok-selector.selector.tree) (from_at c.args.input.now c.in_ok-selector.selector.next) c.in_ok-selector.ensures.runs) (omega arith)
    (let g = c.in_ok-selector.ensures.goes in omega (arith, g)) c.read_branches.result
    (subst (λ p. Comes (λ k. run_branches k (origin_of c.args.input.now) c.args.layout (c.args.left - 1) p (term_of c.in_ok-selector.selector.tree)
    (past_colon c.args.layout (from_at c.args.input.now c.in_ok-selector.selector.next))) c.args.input.now c.args.left
    (suc c.in_ok-selector.selector.next) c.read_branches.result) c.place_at.ensures c.read_branches.ensures)

pub branches::read_branches-returns-in_default : goal.branches::read_branches-returns-in_default
branches::read_branches-returns-in_default t c =
    stuck_here c.args.input.now c.past_colon-at.result (branches_stuck (origin_of c.args.input.now) c.args.layout (c.args.left - 1) c.args.place
    (term_of c.args.selector.tree) (past_colon c.args.layout (from_at c.args.input.now c.args.selector.next))
    (ap (first_of_at c.args.layout) (sym c.past_colon-at.ensures.past) ∙ (sym c.first_of_at.ensures.is ∙ ap is_some c.in_default.is)))
    (sym c.past_colon-at.ensures.past)

pub branches::read_branches-returns-in_err-tail : goal.branches::read_branches-returns-in_err-tail
branches::read_branches-returns-in_err-tail t c =
    let p = err_from_is_err_and c.from_residual-in_err-tail.result c.from_residual-in_err-tail.ensures.1 in
    let head = sym c.past_colon-at.ensures.past ∙ head_one c.past_colon-at.result c.args.input.now.tokens.now c.in-Some.ensures.some in
    let test = ap (first_of_at c.args.layout) (sym c.past_colon-at.ensures.past) ∙ (sym c.first_of_at.ensures.is ∙ ap is_some c.in-Some.is) in
    rw (p.1, p.2)
    (fails_up c.args.input.now c.in_err-tail.field-0.0 (branches_bad (origin_of c.args.input.now) c.args.layout (c.args.left - 1) c.args.place
    (term_of c.args.selector.tree) c.in-Some.token (from_at c.args.input.now (c.past_colon-at.result + 1))
    (past_colon c.args.layout (from_at c.args.input.now c.args.selector.next)) head test c.branch_layout-inner.result
    (sym c.branch_layout-inner.ensures)) c.in_err-tail.ensures)

pub branches::read_branches-returns-in_err-all : goal.branches::read_branches-returns-in_err-all
branches::read_branches-returns-in_err-all t c =
    let p = err_from_is_err_and c.from_residual-in_err-all.result c.from_residual-in_err-all.ensures.1 in
    let head = sym c.past_colon-at.ensures.past ∙ head_one c.past_colon-at.result c.args.input.now.tokens.now c.in-Some.ensures.some in
    let test = ap (first_of_at c.args.layout) (sym c.past_colon-at.ensures.past) ∙ (sym c.first_of_at.ensures.is ∙ ap is_some c.in-Some.is) in
    let is = c.in_ok-first.ensures.branches ∙ ap₂ (λ cs p. and_choice cs p (parts_of c.in_ok-tail.tail.tests.items) (term_of c.in_ok-tail.tail.value))
    (ap choices_of c.no_branches.ensures.branches) c.place_at.ensures in
    let next = ap (from_at c.args.input.now) c.in_ok-first.ensures.next in
    rw (p.1, p.2)
    (fails_up c.args.input.now c.in_err-all.field-0.0 (branches_ofs_bad (origin_of c.args.input.now) c.args.layout (c.args.left - 1) c.args.place
    (term_of c.args.selector.tree) c.in-Some.token (from_at c.args.input.now (c.past_colon-at.result + 1))
    (past_colon c.args.layout (from_at c.args.input.now c.args.selector.next)) head test c.branch_layout-inner.result
    (sym c.branch_layout-inner.ensures) (tail_of c.in_ok-tail.tail) (from_at c.args.input.now c.in_ok-tail.tail.next) c.in_ok-tail.ensures.runs)
    (subst (λ v. Fails (λ k. run_ofs k (origin_of c.args.input.now) c.branch_layout-inner.result (c.args.left - 1)
    (choice (place_at (origin_of c.args.input.now) c.in-Some.token) (parts_of c.in_ok-tail.tail.tests.items)
    (term_of c.in_ok-tail.tail.value) no_choices) v) c.args.input.now c.in_err-all.field-0.0) next
    (subst (λ u. Fails (λ k. run_ofs k (origin_of c.args.input.now) c.branch_layout-inner.result (c.args.left - 1) u
    (from_at c.args.input.now c.in_ok-first.first.next)) c.args.input.now c.in_err-all.field-0.0) is c.in_err-all.ensures)))

pub branches::read_branches-returns : goal.branches::read_branches-returns
branches::read_branches-returns t c =
    let head = sym c.past_colon-at.ensures.past ∙ head_one c.past_colon-at.result c.args.input.now.tokens.now c.in-Some.ensures.some in
    let test = ap (first_of_at c.args.layout) (sym c.past_colon-at.ensures.past) ∙ (sym c.first_of_at.ensures.is ∙ ap is_some c.in-Some.is) in
    let is = c.in_ok-first.ensures.branches ∙ ap₂ (λ cs p. and_choice cs p (parts_of c.in_ok-tail.tail.tests.items) (term_of c.in_ok-tail.tail.value))
    (ap choices_of c.no_branches.ensures.branches) c.place_at.ensures in
    let next = ap (from_at c.args.input.now) c.in_ok-first.ensures.next in
    let runs = subst
    (λ v. Settles (λ k. run_ofs k (origin_of c.args.input.now) c.branch_layout-inner.result (c.args.left - 1)
    (choice (place_at (origin_of c.args.input.now) c.in-Some.token) (parts_of c.in_ok-tail.tail.tests.items) (term_of c.in_ok-tail.tail.value)
    no_choices) v) (got (choices_of c.in_ok-all.all.branches.items) (from_at c.args.input.now c.in_ok-all.all.next))) next
    (subst (λ u. Settles (λ k. run_ofs k (origin_of c.args.input.now) c.branch_layout-inner.result (c.args.left - 1) u
    (from_at c.args.input.now c.in_ok-first.first.next))
    (got (choices_of c.in_ok-all.all.branches.items) (from_at c.args.input.now c.in_ok-all.all.next))) is c.in_ok-all.ensures.runs) in
    comes_up c.args.input.now (branches_on (origin_of c.args.input.now) c.args.layout (c.args.left - 1) c.args.place (term_of c.args.selector.tree)
    c.in-Some.token (from_at c.args.input.now (c.past_colon-at.result + 1)) (past_colon c.args.layout (from_at c.args.input.now c.args.selector.next))
    head test c.branch_layout-inner.result (sym c.branch_layout-inner.ensures) (tail_of c.in_ok-tail.tail)
    (from_at c.args.input.now c.in_ok-tail.tail.next) c.in_ok-tail.ensures.runs (choices_of c.in_ok-all.all.branches.items)
    (from_at c.args.input.now c.in_ok-all.all.next) runs) (omega arith) (let p = c.past_colon-at.ensures.goes in let a = c.in_ok-tail.ensures.goes in
    let n = c.in_ok-first.ensures.next in let b = c.in_ok-all.ensures.goes in omega (arith, p, a, n, b)) c.read_otherwise.result
    (subst (λ a. Comes (λ k. run_otherwise k (origin_of c.args.input.now) c.branch_layout-inner.result (c.args.left - 1) c.args.place (term_of a)
    (choices_of c.in_ok-all.all.branches.items) (from_at c.args.input.now c.in_ok-all.all.next)) c.args.input.now c.args.left c.in_ok-all.all.next
    c.read_otherwise.result) c.in_ok-selected.ensures.ok c.read_otherwise.ensures)

pub branches::read_otherwise-returns-then-not-else_on : goal.branches::read_otherwise-returns-then-not-else_on
branches::read_otherwise-returns-then-not-else_on t c =
    let made = c.make_case.ensures in
    let high = ap levels made in
    found_at c.args.input.now (otherwise_none (origin_of c.args.input.now) c.args.layout (c.args.left - 1) c.args.place (term_of c.args.selector.value)
    (choices_of c.args.all.branches.items) (from_at c.args.input.now c.args.all.next) (sym c.else_on.ensures ∙ c.if-not-else_on.true)) (sym made) refl
    (let a = c.requires.selector_depth in let b = c.requires.depth in let m = c.max-deeper.ensures in omega (arith, a, b, m, high))
    (let a = c.requires.selector_few in let b = c.requires.few in let m = c.max-deeper.ensures in omega (arith, a, b, m)) (omega arith) c.requires.within

pub branches::read_otherwise-returns-in_err-value : goal.branches::read_otherwise-returns-in_err-value
branches::read_otherwise-returns-in_err-value t c =
    let p = err_from_is_err_and c.from_residual.result c.from_residual.ensures.1 in
    let back = sym (behind_one c.args.all.next c.args.input.now.tokens.now) in
    let test = sym c.else_on.ensures ∙ c.if-not-else_on.false in
    rw (p.1, p.2)
    (fails_up c.args.input.now c.in_err-value.field-0.0 (otherwise_bad (origin_of c.args.input.now) c.args.layout (c.args.left - 1) c.args.place
    (term_of c.args.selector.value) (choices_of c.args.all.branches.items) (from_at c.args.input.now c.args.all.next) test)
    (subst (λ v. Fails (λ k. run_value k (origin_of c.args.input.now) c.args.layout (c.args.left - 1) v) c.args.input.now c.in_err-value.field-0.0) back
    c.in_err-value.ensures))

pub branches::read_otherwise-returns : goal.branches::read_otherwise-returns
branches::read_otherwise-returns t c =
    let back = sym (behind_one c.args.all.next c.args.input.now.tokens.now) in
    let test = sym c.else_on.ensures ∙ c.if-not-else_on.false in
    let runs = subst (λ v. Settles (λ k. run_value k (origin_of c.args.input.now) c.args.layout (c.args.left - 1) v)
    (got (term_of c.in_ok-value.value.tree) (from_at c.args.input.now c.in_ok-value.value.next))) back c.in_ok-value.ensures.runs in
    let high = ap levels c.in_ok-tree.ensures.ok in
    found_at c.args.input.now (otherwise_got (origin_of c.args.input.now) c.args.layout (c.args.left - 1) c.args.place (term_of c.args.selector.value)
    (choices_of c.args.all.branches.items) (from_at c.args.input.now c.args.all.next) test (term_of c.in_ok-value.value.tree)
    (from_at c.args.input.now c.in_ok-value.value.next) runs) (sym c.in_ok-tree.ensures.ok) refl
    (let a = c.requires.selector_depth in let b = c.requires.depth in let v = c.in_ok-value.ensures.depth in let m = c.max-deeper.ensures in
    let n = c.max-deepest.ensures in omega (arith, a, b, v, m, n, high))
    (let a = c.requires.selector_few in let b = c.requires.few in let v = c.in_ok-value.ensures.few in let m = c.max-deeper.ensures in
    let n = c.max-deepest.ensures in omega (arith, a, b, v, m, n))
    (let g = c.in_ok-value.ensures.goes in omega (arith, g)) c.in_ok-value.ensures.within
