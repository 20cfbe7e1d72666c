use Rattle.std.proofs.Common.{Bool, true, List, [], sym, ap, ◌∙◌}
use Rattle.nim_program.specs.declared.operation.Use.TheVariants.{Owned}
use Rattle.nim_program.specs.Program.{node_of}
use Rattle.nim_program.specs.View.{expr_of}
use Rattle.nim_meaning.specs.Waiting.{held_if}
use Rattle.flat_code.specs.declared.line.Line.{Line}
use Rattle.flattening.specs.ExprLines.{taken_lines, value_ends}
use Rattle.flattening.specs.Views.{types_of, facts_of, modes_of}
use Rattle.flattening.proofs.Writing.{puts_two, puts_as}
use Rattle.flattening.proofs.waits.put_branch_ends.Goals as goal

pub returns-then-has_hooks : goal.returns-then-has_hooks
returns-then-has_hooks c =
    let a = c.args.around.now in
    let ts = types_of a in
    let value = expr_of ts c.args.value.now in
    let all = λ (b : Bool) (k : List Line). value_ends ts (facts_of a) (modes_of a) value Owned (taken_lines (held_if b (node_of value).number []) k) in
    puts_as (all true) _ (puts_two c.put_value_ends.ensures (c.put_taken_up.ensures ts))
    (λ k. ap (λ b. all b k) (sym c.if-has_hooks.true ∙ c.has_hooks.ensures))
