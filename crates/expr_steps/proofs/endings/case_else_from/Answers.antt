use Rattle.std.proofs.Common.{sym, subst, ap, ◌∙◌, length}
use Rattle.nim_types.specs.Table.{IsBelow}
use Rattle.nim_program.specs.View.{expr_of}
use Rattle.expr_rules.specs.Answers.{gives}
use Rattle.expr_rules.specs.Choices.{branch_value, case_else_rule}
use Rattle.expr_parts.specs.View.{number_of, typed_of, valued_of}
use Rattle.expr_parts.proofs.ForCallers.{goes, grown_same, stops}
use Rattle.expr_steps.specs.ViewChoices.{picked_of}
use Rattle.expr_steps.proofs.Branched.{branching_within}
use Rattle.expr_steps.proofs.endings.case_else_from.Goals as goal

pub branch_value-requires : goal.branch_value-requires
branch_value-requires c =
    let n = length c.args.types.now in record {
      branching = branching_within n c.args.given.values c.requires.given;
      expr = subst (IsBelow n) c.requires.last.0 c.requires.last.1;
    }

pub returns-in-Ok : goal.returns-in-Ok
returns-in-Ok c =
    let n = length c.args.types.now in record {
      grown = grown_same c.args.types.now;
      answers = λ ts facts u.
          let p = picked_of ts c.args.given in
          let v = valued_of ts c.args.selector.value in
          goes (typed_of ts) (expr_of ts) (branch_value p.values (expr_of ts c.args.last.expr))
          (λ e. gives (case_else_rule c.args.number c.args.at v p e) c.args.last.next) c.in-Ok.otherwise c.case_else_with.result
          (c.in-Ok.ensures.answers ts facts u) (c.case_else_with.ensures.answers ts);
      fits = c.case_else_with.ensures.within n (subst (IsBelow n) (c.requires.last.0 ∙ sym (ap number_of c.in-Ok.ensures.same)) c.requires.last.1);
    }

pub returns-in-Err : goal.returns-in-Err
returns-in-Err c = record {
  grown = grown_same c.args.types.now;
  answers = λ ts facts u.
      let p = picked_of ts c.args.given in
      let v = valued_of ts c.args.selector.value in
      stops (typed_of ts) (expr_of ts) (branch_value p.values (expr_of ts c.args.last.expr))
      (λ e. gives (case_else_rule c.args.number c.args.at v p e) c.args.last.next) c.in-Err.stop (c.in-Err.ensures.answers ts facts u);
  fits = tt;
}
