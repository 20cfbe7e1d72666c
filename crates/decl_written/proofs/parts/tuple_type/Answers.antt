use Rattle.std.proofs.Common.{◌≡◌, [], sym, ap, ◌∙◌}
use Rattle.std.specs.Prelude.{Bool, true, false, Ok, if◌then◌else◌}
use Rattle.arc_base.specs.declared.place.Code.TheVariants.{NotTyped}
use Rattle.arc_base.specs.Refusal.{and_then}
use Rattle.nim_types.specs.Table.{type_at}
use Rattle.expr_rules.specs.Answers.{not_typed}
use Rattle.expr_rules.specs.Sizes.{is_sized}
use Rattle.expr_parts.proofs.ForCallers.{refuses}
use Rattle.decl_rules.specs.Written.{at_once, spelled_as, formed_rule}
use Rattle.decl_written.specs.ViewWritten.{at_once_of, tuple_in}
use Rattle.decl_written.proofs.parts.tuple_type.Goals as goal

pub returns-then-not-is_sized-clause-answers : goal.returns-then-not-is_sized-clause-answers
returns-then-not-is_sized-clause-answers c = λ ts facts u.
    let ty = tuple_in ts c.args.parts in
    let is : type_at ts c.in_ok-id.id ≡ ty = c.in_ok-id.ensures.means ts facts u in
    let large : is_sized facts ty ≡ false = ap (is_sized facts) (sym is) ∙ c.is_sized.ensures ts facts u ∙ c.if-not-is_sized.true in
    refuses (at_once_of ts) (formed_rule at_once facts c.args.at ty []) NotTyped c.args.at c.refusal.result c.refusal.ensures
    (ap (λ (b : Bool). and_then {A = Unit {0}} (if b then Ok tt else not_typed c.args.at) (λ _. Ok (spelled_as ty []))) large)

pub returns-clause-answers : goal.returns-clause-answers
returns-clause-answers c = λ ts facts u.
    let ty = tuple_in ts c.args.parts in
    let is : type_at ts c.in_ok-id.id ≡ ty = c.in_ok-id.ensures.means ts facts u in
    let small : is_sized facts ty ≡ true = ap (is_sized facts) (sym is) ∙ c.is_sized.ensures ts facts u ∙ c.if-not-is_sized.false in
    ap (λ (b : Bool). and_then {A = Unit {0}} (if b then Ok tt else not_typed c.args.at) (λ _. Ok (spelled_as ty []))) small
    ∙ ap (λ t. Ok (spelled_as t [])) (sym is)
