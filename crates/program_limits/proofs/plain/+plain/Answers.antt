use Rattle.std.proofs.Common.{◌∙◌, ap, ap₂, sym, ◌||◌}
use Rattle.nim_program.specs.Program.{NoArg}
use Rattle.nim_program.specs.View.{stmt_before, stmts_of}
use Rattle.nim_program.proofs.ForCallers.{decided, selected_statement, repeated}
use Rattle.nim_meaning.specs.LeftOut.{out_if, ◌or_then◌, earlier, first_unbuilt}
use Rattle.program_limits.specs.Known.{known_types, known_facts}
use Rattle.program_limits.proofs.Firsts.{or_nothing, stmt_out}
use Rattle.program_limits.proofs.plain.+plain.Goals as goal

pub of_stmt-returns-in-If : goal.of_stmt-returns-in-If
of_stmt-returns-in-If t c =
    λ rest.
    let ts = known_types c.args.known.now in
    let facts = known_facts c.args.known.now in
    let given = c.in-If in
    let blocks = c.or_then-blocks.ensures ∙ (ap (λ x. c.of_branches.result or_then x) c.of_block.ensures
    ∙ sym (c.of_branches.ensures (stmts_of ts given.otherwise.items))) in
    stmt_out facts (stmt_before ts c.args.stmt.now rest) rest _ c.or_then-in-If.result
    (ap (λ s. stmt_before ts s rest) given.is ∙ decided ts given.node rest given.branches given.otherwise)
    (c.or_then-in-If.ensures ∙ ap₂ (λ a b. a or_then b)
    (c.out_if-here.ensures ∙ ap (λ b. out_if b given.node) c.first_unbuilt.ensures)
    (c.earlier.ensures ∙ ap₂ earlier c.of_conditions.ensures blocks))

pub of_stmt-returns-in-Case : goal.of_stmt-returns-in-Case
of_stmt-returns-in-Case t c =
    λ rest.
    let ts = known_types c.args.known.now in
    let facts = known_facts c.args.known.now in
    let given = c.in-Case in
    let blocks = c.or_then-blocks-in-Case.ensures ∙ (ap (λ x. c.of_arms.result or_then x) c.of_block-in-Case.ensures
    ∙ sym (c.of_arms.ensures (stmts_of ts given.otherwise.items))) in
    stmt_out facts (stmt_before ts c.args.stmt.now rest) rest _ c.or_then-in-Case.result
    (ap (λ s. stmt_before ts s rest) given.is ∙ selected_statement ts given.node rest given.selector given.branches given.otherwise)
    (c.or_then-in-Case.ensures ∙ ap₂ (λ a b. a or_then b)
    (c.out_if-here-in-Case.ensures ∙ ap (λ b. out_if b given.node)
    (c.gives_unbuilt.ensures ∙ ap (first_unbuilt facts) (sym (c.operand_type.ensures ts NoArg))))
    (c.earlier-in-Case.ensures ∙ ap₂ earlier (sym (or_nothing c.of_operand.result) ∙ sym (c.of_operand.ensures NoArg)) blocks))

pub of_stmt-returns-in-Loop : goal.of_stmt-returns-in-Loop
of_stmt-returns-in-Loop t c =
    λ rest.
    let ts = known_types c.args.known.now in
    let facts = known_facts c.args.known.now in
    let given = c.in-Loop in
    stmt_out facts (stmt_before ts c.args.stmt.now rest) rest _ c.or_then-in-Loop.result
    (ap (λ s. stmt_before ts s rest) given.is ∙ repeated ts given.node rest given.kind given.head given.body)
    (c.or_then-in-Loop.ensures ∙ ap₂ (λ a b. a or_then b)
    (c.out_if-here-in-Loop.ensures ∙ ap (λ b. out_if b given.node)
    (c.either-unbuilt.ensures ∙ ap₂ (λ a b. a || b) c.variable_unbuilt.ensures c.head_unbuilt.ensures))
    (c.or_then-inside.ensures ∙ ap₂ (λ a b. a or_then b) c.of_operands-in-Loop.ensures c.of_block-in-Loop.ensures))
