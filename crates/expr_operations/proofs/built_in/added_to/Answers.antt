use Rattle.std.proofs.Common.{[], ◌∷◌, ap, ◌∙◌}
use Rattle.nim_program.specs.declared.operation.Operation.TheVariants as operation
use Rattle.nim_program.specs.Nodes.{acting, path_and_value}
use Rattle.expr_rules.specs.Builtins.{done, is_text}
use Rattle.expr_rules.specs.Paths.{path_of}
use Rattle.expr_operations.proofs.Written.{add_text, add_other}
use Rattle.expr_operations.proofs.built_in.added_to.Goals as goal

pub returns-then-is_text : goal.returns-then-is_text
returns-then-is_text c = λ ts n v o e.
    add_text v.of o (λ w. done (v ∷ []) (acting n operation.Append (path_and_value (path_of v.expr) w.expr)))
    (λ w. done (v ∷ []) (acting n operation.Add (path_and_value (path_of v.expr) w.expr)))
    (ap is_text e ∙ c.is_text.ensures ts ∙ c.if-is_text.true)

pub returns-else-is_text : goal.returns-else-is_text
returns-else-is_text c = λ ts n v o e.
    add_other v.of o (λ w. done (v ∷ []) (acting n operation.Append (path_and_value (path_of v.expr) w.expr)))
    (λ w. done (v ∷ []) (acting n operation.Add (path_and_value (path_of v.expr) w.expr)))
    (ap is_text e ∙ c.is_text.ensures ts ∙ c.if-is_text.false)
