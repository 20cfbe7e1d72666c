use Rattle.std.proofs.Common.{◌∙◌, sym, ap, subst, length, Bool}
use Rattle.std.specs.Prelude.{map, ◌&&◌}
use Rattle.expr_parts.specs.View.{ParametersWithin, parameter_of}
use Rattle.decl_rules.specs.Heads.{same_types}
use Rattle.expr_parts.proofs.ForCallers.{nothing_left}
use Rattle.decl_parts.proofs.Matching.{types_on, types_off, types_last}
use Rattle.decl_parts.proofs.heads.same_types.Goals as goal

pub returns-then-not-is_same : goal.returns-then-not-is_same
returns-then-not-is_same c = λ ts facts u.
    let at = c.loop-p in
    let l = c.in-Some in
    let r = c.in-Some-split_first in
    sym (at.invariant.same ts facts u)
    ∙ types_on ts l.p.now r.q.now l.more_left.now r.more_right.now at.left.now at.right.now c.is_same.result l.ensures.cases.0 r.ensures.cases.0
    (c.is_same.ensures ts facts u)
    ∙ ap (λ (b : Bool). b && same_types (map (parameter_of ts) l.more_left.now) (map (parameter_of ts) r.more_right.now)) c.if-not-is_same.true

pub loop-p-preserved : goal.loop-p-preserved
loop-p-preserved c =
    let at = c.loop-p in
    let l = c.in-Some in
    let r = c.in-Some-split_first in
    let n = length c.args.types.now in
    record {
      left = (subst (ParametersWithin n) l.ensures.cases.0 at.invariant.left).1;
      right = (subst (ParametersWithin n) r.ensures.cases.0 at.invariant.right).1;
      same = λ ts facts u.
          sym (types_on ts l.p.now r.q.now l.more_left.now r.more_right.now at.left.now at.right.now c.is_same.result l.ensures.cases.0 r.ensures.cases.0
          (c.is_same.ensures ts facts u)
          ∙ ap (λ (b : Bool). b && same_types (map (parameter_of ts) l.more_left.now) (map (parameter_of ts) r.more_right.now)) c.if-not-is_same.false)
          ∙ at.invariant.same ts facts u;
    }

pub returns-in-None : goal.returns-in-None
returns-in-None c = λ ts facts u.
    let at = c.loop-p in
    let l = c.in-Some in
    sym (at.invariant.same ts facts u)
    ∙ types_off ts l.p.now l.more_left.now at.left.now at.right.now l.ensures.cases.0 (nothing_left at.right.now c.in-None.ensures.cases)

pub returns : goal.returns
returns c = λ ts facts u.
    let at = c.loop-p in
    sym (at.invariant.same ts facts u) ∙ types_last ts at.left.now at.right.now (nothing_left at.left.now c.in_default.ensures.cases)
    ∙ sym c.is_empty.ensures
