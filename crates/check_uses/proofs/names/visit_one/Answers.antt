use Rattle.std.proofs.Common.{◌∷◌, [], ◌∙◌, ap, sym, subst, Some}
use Rattle.std.specs.Prelude.{nat_eq}
use Rattle.check_uses.specs.Uses.{occurrence_of}
use Rattle.check_uses.specs.Search.{visited, Leaves}
use Rattle.check_uses.proofs.Searching.{leaves_test}
use Rattle.check_uses.proofs.names.visit_one.Goals as goal

pub returns-in-Global : goal.returns-in-Global
returns-in-Global c =
    let used = nat_eq c.in-Global.place c.args.global in
    let old = c.args.reached.now in
    subst (λ o. Leaves used old (visited c.args.global (occurrence_of o ∷ []) old)) (sym c.in-Global.is) (leaves_test used old)

pub returns-in_ok-add-in-Calls : goal.returns-in_ok-add-in-Calls
returns-in_ok-add-in-Calls c =
    ap (λ o. visited c.args.global (occurrence_of o ∷ []) c.args.reached.now) c.in-Calls.is ∙ ap Some (sym c.in_ok-add-in-Calls.ensures)

pub returns-in-Hands : goal.returns-in-Hands
returns-in-Hands c = ap (λ o. visited c.args.global (occurrence_of o ∷ []) c.args.reached.now) c.in-Hands.is
