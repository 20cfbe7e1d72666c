use Rattle.parse_stmts.proofs.Verdicts.{deep_once, left_out_once, none_once, never_both, module_faulty}
use Rattle.parse_stmts.proofs.tree.one_fault.Goals as goal

pub returns-clause-deep : goal.returns-clause-deep
returns-clause-deep c = λ x tokens p q d e. deep_once d e

pub returns-clause-left_out : goal.returns-clause-left_out
returns-clause-left_out c = λ x tokens p q d e. left_out_once d e

pub returns-clause-stuck : goal.returns-clause-stuck
returns-clause-stuck c = λ x tokens p q d e. none_once d e

pub returns-clause-either : goal.returns-clause-either
returns-clause-either c = λ x tokens p q d e. never_both d e

pub returns-clause-deep_none : goal.returns-clause-deep_none
returns-clause-deep_none c = λ x tokens t p d e. module_faulty d e.deep

pub returns-clause-left_out_none : goal.returns-clause-left_out_none
returns-clause-left_out_none c = λ x tokens t p d e. module_faulty d e.stops
