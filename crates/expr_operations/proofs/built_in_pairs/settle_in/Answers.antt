use Rattle.std.proofs.Common.{◌≡◌, sym, subst, ◌∙◌}
use Rattle.std.specs.Prelude.{option_map}
use Rattle.nim_types.specs.Table.{type_at}
use Rattle.expr_operations.specs.declared.built_in.Taken.{Taken}
use Rattle.expr_rules.specs.Answers.{settled}
use Rattle.expr_rules.specs.Builtins.{settled_in}
use Rattle.expr_parts.specs.View.{operand_of, valued_of}
use Rattle.expr_operations.specs.ViewOperations.{taken_types}
use Rattle.expr_operations.proofs.Written.{one_settles}
use Rattle.expr_operations.proofs.built_in_pairs.settle_in.Goals as goal

pub returns-in-One : goal.returns-in-One
returns-in-One c = record {
  given = λ ts facts u.
      let o = operand_of ts c.args.operand in
      subst (λ (t : Taken). option_map (valued_of ts) c.settle.result ≡ settled_in (taken_types ts t) o) (sym c.in-One.is)
      (c.settle.ensures.given ts facts u ∙ sym (one_settles (settled (type_at ts c.in-One.ty) o)));
}

pub returns-in-Either : goal.returns-in-Either
returns-in-Either c = record {
  given = λ ts facts u.
      let o = operand_of ts c.args.operand in
      subst (λ (t : Taken). option_map (valued_of ts) c.settle_or.result ≡ settled_in (taken_types ts t) o) (sym c.in-Either.is)
      (c.settle_or.ensures.given ts facts u);
}
