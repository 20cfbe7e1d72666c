use Rattle.std.proofs.Common.{◌≡◌, drop}
use Rattle.std.specs.Prelude.{map}
use Rattle.nim_tree.specs.Statements.{parameters_of}
use Rattle.decl_rules.specs.LeftOut.{left_in_parameters}
use Rattle.check_forms.specs.Waiting.{names_in}
use Rattle.check_forms.proofs.parts.of_params.Given as goal

-- the whole is what the rest is
abbrev pub invariant-loop-param : goal.invariant-loop-param
invariant-loop-param l = left_in_parameters (names_in l.names) (map parameters_of l.fn.params)
    ≡ left_in_parameters (names_in l.names) (map parameters_of (drop l.param-index l.params))
