-- The loops.
use Rattle.std.proofs.Common.{ℕ, ◌++◌, List, [], ◌∷◌, refl}
use Rattle.nim_tree.specs.declared.name.Name.{Name}
use Rattle.nim_tree.specs.Terms.{Term, Parts, and_part}
use Rattle.parse_exprs.specs.declared.layout.Layout.TheVariants.{Brackets, Lines}
use Rattle.parse_exprs.specs.Look.{Origin, comma_at}
use Rattle.parse_decls.specs.Look.{behind}
use Rattle.parse_decls.specs.Outcome.{got}
use Rattle.parse_decls.proofs.ForCallers.{Loop}
use Rattle.parse_stmts.specs.Run.{run_value, run_operands, run_module_name, run_more_modules, run_label, run_labels}

abbrev pub operands_loop : Origin → ℕ → Loop Parts Term Parts
operands_loop x n = record {
  run = λ some ts k. run_operands k x n some ts;
  test = comma_at (Lines n);
  skip = behind;
  step = λ ts k. run_value k x n ts;
  add = and_part;
  finish = λ some ts k. got some ts;
  law = λ some ts k. refl;
}

abbrev pub modules_loop : Origin → ℕ → Loop (List Name) Name (List Name)
modules_loop x n = record {
  run = λ some ts k. run_more_modules k x n some ts;
  test = comma_at (Lines n);
  skip = behind;
  step = λ ts k. run_module_name x Brackets ts;
  add = λ some one. some ++ one ∷ [];
  finish = λ some ts k. got some ts;
  law = λ some ts k. refl;
}

abbrev pub labels_loop : Origin → ℕ → Loop Parts Term Parts
labels_loop x n = record {
  run = λ some ts k. run_labels k x n some ts;
  test = comma_at (Lines n);
  skip = behind;
  step = λ ts k. run_label k x n ts;
  add = and_part;
  finish = λ some ts k. got some ts;
  law = λ some ts k. refl;
}
