-- The types of a table have forms.
use Rattle.std.proofs.Common.{◌≡◌, ◌<◌, ℕ, zero, suc, true, List, [], ◌∷◌, length, sym, subst, arith}
use Rattle.std.proofs.lemmas.Bool.{or_left, or_right}
use Rattle.nim_types.specs.Types.{Ty, same}
use Rattle.nim_types.specs.Forms.{HasForm}
use Rattle.nim_types.specs.declared.types.TypeDef.{TypeDef}
use Rattle.nim_types.specs.Table.{type_at, types_in, facts_in}
use Rattle.nim_types.proofs.ForCallers.{same_refl, count}
use Rattle.nim_program.specs.Kinds.{is_among_types}
use Rattle.nim_program.specs.Program.{Program}
use Rattle.nim_program.specs.Sizes.{HaveForms}
use Rattle.nim_program.specs.Typed.{IsTyped}

among_at : (ts : List Ty) (i : ℕ) → i < length ts → is_among_types ts (type_at ts i) ≡ true
among_at [] i l = absurd (omega (arith, l))
among_at (t ∷ ts) zero l = or_left (same t t) (is_among_types ts t) (same_refl t)
among_at (t ∷ ts) (suc i) l =
    or_right (same (type_at ts i) t) (is_among_types ts (type_at ts i)) (among_at ts i (omega (arith, l)))

pub forms_of_table : (table : List TypeDef) (program : Program) → program.types ≡ types_in table → program.facts ≡ facts_in table → IsTyped program
    → HaveForms table
forms_of_table table program types facts typed ty l =
    let inside : ty < length (types_in table) = subst (λ n. ty < n) (sym (count table)) l in
    let h = typed.forms (type_at (types_in table) ty)
    (subst (λ ts. is_among_types ts (type_at (types_in table) ty) ≡ true) (sym types) (among_at (types_in table) ty inside)) in
    (h.0, subst (λ known. HasForm known (type_at (types_in table) ty) h.0) facts h.1)
