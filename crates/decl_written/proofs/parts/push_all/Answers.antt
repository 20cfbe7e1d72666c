use Rattle.std.proofs.Common.{◌+◌, ◌∷◌, ◌++◌, [], ap, sym, ◌∙◌, drop, arith, append-nil, append_assoc}
use Rattle.std.specs.Prelude.{map}
use Rattle.expr_parts.proofs.ForCallers.{next_item, none_left}
use Rattle.decl_written.proofs.parts.push_all.Goals as goal

pub loop-name-preserved : goal.loop-name-preserved
loop-name-preserved c =
    let at = c.loop-name in
    let ty = c.args.ty in
    let rest = map (λ _. ty) (drop (at._name-index + 1) c.args.declared.now) in
    let e = next_item c.args.declared.now at._name-index c._name-item.result c._name-item.is c.loop-name-test.true in
    ap (λ is. is ++ rest) c.in_ok-push.ensures.ok ∙ append_assoc at.types (ty ∷ []) rest ∙ ap (λ ds. at.types ++ map (λ _. ty) ds) (sym e)
    ∙ at.invariant

pub returns : goal.returns
returns c =
    let at = c.loop-name in
    let ty = c.args.ty in
    let none = none_left c.args.declared.now at._name-index (omega (arith, c.loop-name-test.false)) in
    sym (append-nil at.types) ∙ ap (λ ds. at.types ++ map (λ _. ty) ds) (sym none) ∙ at.invariant
