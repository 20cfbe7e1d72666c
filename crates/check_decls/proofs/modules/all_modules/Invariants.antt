use Rattle.std.proofs.Common.{drop}
use Rattle.decl_rules.specs.Elaborated.{modules_stated}
use Rattle.check_decls.specs.Modules.{in_order}
use Rattle.check_decls.specs.View.{Carried, Reached}
use Rattle.check_decls.proofs.modules.all_modules.Given as goal

abbrev pub invariant-loop-i : goal.invariant-loop-i
invariant-loop-i l = record {
  carried : Carried l.fn.draft l.draft (λ st. modules_stated st (in_order l.modules l.order)) (λ st. modules_stated st (in_order l.modules (drop l.i l.order)));
  reached : Reached l.draft;
}
