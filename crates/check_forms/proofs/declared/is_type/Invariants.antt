use Rattle.std.proofs.Common.{◌≡◌, drop}
use Rattle.std.specs.Prelude.{map}
use Rattle.nim_tree.specs.Types.{declaration_of}
use Rattle.expr_rules.specs.Constructions.{is_among}
use Rattle.decl_rules.specs.LeftOut.{declared_types}
use Rattle.check_forms.proofs.declared.is_type.Given as goal

-- the whole is what the rest is
abbrev pub invariant-loop-def : goal.invariant-loop-def
invariant-loop-def l = is_among l.name (declared_types (map declaration_of l.fn.defs))
    ≡ is_among l.name (declared_types (map declaration_of (drop l.def-index l.defs)))
