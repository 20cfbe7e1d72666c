use Rattle.std.proofs.Common.{◌≡◌, drop}
use Rattle.std.specs.Prelude.{map}
use Rattle.nim_tree.specs.Types.{declaration_of}
use Rattle.decl_rules.specs.LeftOut.{left_in_declarations}
use Rattle.check_forms.specs.Waiting.{names_in}
use Rattle.check_forms.proofs.types.of_declarations.Given as goal

-- the whole is what the rest is
abbrev pub invariant-loop-def : goal.invariant-loop-def
invariant-loop-def l = left_in_declarations (names_in l.names) (map declaration_of l.fn.defs)
    ≡ left_in_declarations (names_in l.names) (map declaration_of (drop l.def-index l.defs))
