use Rattle.std.proofs.Common.{◌≡◌, sym, ap, ◌∙◌, []}
use Rattle.std.specs.Prelude.{map}
use Rattle.arc_base.specs.declared.place.Code.TheVariants.{NotTyped}
use Rattle.nim_program.specs.View.{expr_of}
use Rattle.expr_rules.specs.Constructions.{array_rule}
use Rattle.expr_parts.specs.View.{valued_of}
use Rattle.expr_parts.proofs.ForCallers.{refuses}
use Rattle.expr_builds.proofs.Tupling.{first_is, no_value}
use Rattle.expr_builds.specs.ViewBuilt.{first_number}
use Rattle.expr_builds.proofs.tuples.array_rule.Goals as goal

pub returns-in-Some-clause-answers : goal.returns-in-Some-clause-answers
returns-in-Some-clause-answers c = λ ts env u.
    let f = first_is c.args.values.items c.in-Some.of (ap first_number (sym c.as_slice.ensures.value) ∙ sym c.first_type.ensures.first ∙ c.in-Some.is) in
    c.array_of.ensures.answers ts env u f.0 f.1 f.2.0 f.2.1

pub returns-in-None-clause-answers : goal.returns-in-None-clause-answers
returns-in-None-clause-answers c = λ ts env u.
    let none : c.args.values.items ≡ [] = no_value c.args.values.items
    (ap first_number (sym c.as_slice.ensures.value) ∙ sym c.first_type.ensures.first ∙ c.in-None.is) in
    refuses (expr_of ts) (array_rule env c.args.number c.args.at (map (valued_of ts) c.args.values.items)) NotTyped c.args.at c.refusal.result c.refusal.ensures
    (ap (λ vs. array_rule env c.args.number c.args.at (map (valued_of ts) vs)) none)
