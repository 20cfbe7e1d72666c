use Rattle.std.proofs.Common.{◌≡◌, drop}
use Rattle.decl_rules.specs.Elaborated.{none_left_out}
use Rattle.check_decls.specs.Modules.{in_order}
use Rattle.check_decls.proofs.modules.check_all_forms.Given as goal

-- the whole is what the rest is
abbrev pub invariant-loop-i : goal.invariant-loop-i
invariant-loop-i l = none_left_out (in_order l.modules l.order) ≡ none_left_out (in_order l.modules (drop l.i l.order))
