use Rattle.std.proofs.Common.{◌≡◌, ◌∙◌, ap, refl, Bool}
use Rattle.std.specs.Prelude.{◌||◌}
use Rattle.nim_tree.specs.declared.stmt.AssignOp.TheVariants.{Join}
use Rattle.nim_types.specs.Types as type
use Rattle.nim_types.specs.Types.{Ty, same}
use Rattle.nim_types.specs.Table.{type_at}
use Rattle.decl_rules.specs.Values.{is_source}
use Rattle.decl_stmts.specs.ViewStated.{is_char}
use Rattle.decl_stmts.proofs.assignments.is_joined.Goals as goal

joined : (t s : Ty) → is_source Join t s ≡ (is_char s || same t s)
joined t type.int = refl
joined t type.bool = refl
joined t type.char = refl
joined t type.text = refl
joined t (type.sequence s) = refl
joined t (type.array n s) = refl
joined t (type.tuple names all) = refl
joined t (type.parameter n) = refl
joined t (type.enum key) = refl
joined t (type.object key all) = refl
joined t (type.distinct key) = refl
joined t (type.ref name s) = refl
joined t (type.exception key) = refl

pub returns-then-is_char : goal.returns-then-is_char
returns-then-is_char c = λ ts facts u.
    let t = type_at ts c.args.target in
    let s = type_at ts c.args.ty in
    joined t s ∙ ap (λ (k : Bool). k || same t s) (ap is_char (c.entry.ensures.means ts facts u) ∙ c.is_char.ensures ts ∙ c.if-is_char.true)

pub returns : goal.returns
returns c = λ ts facts u.
    let t = type_at ts c.args.target in
    let s = type_at ts c.args.ty in
    joined t s ∙ ap (λ (k : Bool). k || same t s) (ap is_char (c.entry.ensures.means ts facts u) ∙ c.is_char.ensures ts ∙ c.if-is_char.false)
    ∙ c.is_same.ensures ts facts u
