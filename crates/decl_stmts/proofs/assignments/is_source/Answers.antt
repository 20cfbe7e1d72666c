use Rattle.std.proofs.Common.{◌≡◌, ◌∙◌, ap, refl}
use Rattle.nim_tree.specs.declared.stmt.AssignOp.{AssignOp}
use Rattle.nim_tree.specs.declared.stmt.AssignOp.TheVariants as sign
use Rattle.nim_types.specs.Types.{Ty, same}
use Rattle.nim_types.specs.Table.{type_at}
use Rattle.decl_rules.specs.Values.{is_source}
use Rattle.decl_stmts.proofs.assignments.is_source.Goals as goal

others : (op : AssignOp) (t s : Ty) → (op ≡ sign.Join → ⊥) → is_source op t s ≡ same t s
others sign.Set t s f = refl
others sign.Plus t s f = refl
others sign.Minus t s f = refl
others sign.Times t s f = refl
others sign.Join t s f = absurd (f refl)

pub returns-in-Join : goal.returns-in-Join
returns-in-Join c = λ ts facts u.
    ap (λ (o : AssignOp). is_source o (type_at ts c.args.target) (type_at ts c.args.ty)) c.in-Join.is ∙ c.is_joined.ensures ts facts u

pub returns-in_default : goal.returns-in_default
returns-in_default c = λ ts facts u.
    others c.args.op (type_at ts c.args.target) (type_at ts c.args.ty) c.in_default.not-Join ∙ c.is_same.ensures ts facts u
