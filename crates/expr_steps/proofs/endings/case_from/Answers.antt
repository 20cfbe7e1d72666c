use Rattle.std.proofs.Common.{sym, ap, ◌∙◌, length}
use Rattle.std.specs.Prelude.{Option, Ok, Err}
use Rattle.arc_base.specs.Refusal.{and_then}
use Rattle.nim_types.specs.Types.{Ty}
use Rattle.nim_program.specs.Nodes.{selecting}
use Rattle.nim_program.specs.Program.{Choose, ByLabels}
use Rattle.nim_program.specs.View.{expr_of, if_type}
use Rattle.expr_rules.specs.Answers.{gives, node}
use Rattle.expr_rules.specs.Choices.{case_node, cover_rule, gives_in}
use Rattle.expr_parts.specs.View.{typed_of, valued_of}
use Rattle.expr_parts.proofs.ForCallers.{answers_as, grown_same, stops}
use Rattle.expr_steps.specs.ViewChoices.{picked_of}
use Rattle.expr_steps.proofs.endings.case_from.Goals as goal

pub returns-in-Ok : goal.returns-in-Ok
returns-in-Ok c =
    let n = length c.args.types.now in record {
      grown = grown_same c.args.types.now;
      answers = λ ts facts u.
          let p = picked_of ts c.args.given in
          let v = valued_of ts c.args.selector.value in
          let at = c.args.at in
          let made = λ (g : Option Ty). Choose (node c.args.number at) g (ByLabels p.rows) (selecting v.expr p.parts) in
          let said = λ (g : Option Ty). cover_rule facts at v.of g p.labels in
          let next = p.next in
          let is = c.gives-ty.ensures.ty ts in
          answers_as (typed_of ts) (and_then (and_then (said (gives_in p.values)) (λ _. Ok (made (gives_in p.values)))) (λ e. gives e next))
          (gives (made (if_type ts c.gives-ty.result)) next) c.case_with.result
          (ap (λ g. and_then (and_then (said g) (λ _. Ok (made g))) (λ e. gives e next)) (sym is)
          ∙ ap (λ z. and_then (and_then z (λ _. Ok (made (if_type ts c.gives-ty.result)))) (λ e. gives e next)) (c.in-Ok.ensures ts facts u))
          (c.case_with.ensures.answers ts);
      fits = c.case_with.ensures.within n (c.gives-ty.ensures.within n c.requires.given);
    }

pub returns-in-Err : goal.returns-in-Err
returns-in-Err c = record {
  grown = grown_same c.args.types.now;
  answers = λ ts facts u.
      let p = picked_of ts c.args.given in
      let v = valued_of ts c.args.selector.value in
      let at = c.args.at in
      let said = λ (g : Option Ty). cover_rule facts at v.of g p.labels in
      let node = case_node c.args.number at v p in
      stops (typed_of ts) (expr_of ts) (and_then (said (gives_in p.values)) (λ _. Ok node)) (λ e. gives e p.next) c.in-Err.stop
      (stops {S = Unit {0}} (expr_of ts) (λ _. tt) (said (gives_in p.values)) (λ _. Ok node) c.in-Err.stop
      (answers_as {T = Unit {0}} (λ _. tt) (said (gives_in p.values)) (said (if_type ts c.gives-ty.result)) (Err c.in-Err.stop)
      (ap said (sym (c.gives-ty.ensures.ty ts)))
      (c.in-Err.ensures ts facts u)));
  fits = tt;
}
