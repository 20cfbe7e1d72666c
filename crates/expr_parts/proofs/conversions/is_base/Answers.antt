use Rattle.std.proofs.Common.{ap, ◌∙◌, arith}
use Rattle.nim_types.specs.Table.{type_at}
use Rattle.expr_rules.specs.Constructions.{base_of, is_some_type}
use Rattle.expr_parts.proofs.conversions.is_base.Goals as goal

pub is_same-requires-clause-a : goal.is_same-requires-clause-a
is_same-requires-clause-a c = let h = c.in-Some.ensures.within c.args.distinct c.entry.ensures.within in omega (arith, h, c.requires.distinct)

pub returns-in-Some : goal.returns-in-Some
returns-in-Some c = λ ts facts u.
    ap (λ o. is_some_type o (type_at ts c.args.ty))
    (ap (base_of facts) (c.entry.ensures.means ts facts u) ∙ c.in-Some.ensures.base ts facts (c.entry.ensures.says ts facts u))
    ∙ c.is_same.ensures ts facts u

pub returns-in-None : goal.returns-in-None
returns-in-None c = λ ts facts u.
    ap (λ o. is_some_type o (type_at ts c.args.ty))
    (ap (base_of facts) (c.entry.ensures.means ts facts u) ∙ c.in-None.ensures.base ts facts (c.entry.ensures.says ts facts u))
