-- Types by number, and their sizes.
use Rattle.std.proofs.Common.{true, ◌≡◌, ◌≤◌, ◌-◌, ◌^◌, ℕ, zero, suc, List, [], ◌∷◌, length, min, refl, sym, ap, ◌∙◌, arith}
use Rattle.nim_types.specs.Types.{Ty, int, Facts}
use Rattle.nim_types.specs.Forms.{Form, HasForm, size, form_of}
use Rattle.nim_types.specs.declared.types.TypeDef.{TypeDef}
use Rattle.nim_types.specs.Table.{type_at}
use Rattle.nim_program.specs.Sizes.{HaveForms, HaveSizes}

-- a number beyond the types is that of an int
pub int_beyond : (ts : List Ty) (i : ℕ) → length ts ≤ i → type_at ts i ≡ int
int_beyond [] i l = refl
int_beyond (t ∷ ts) zero l = absurd (omega (arith, l))
int_beyond (t ∷ ts) (suc i) l = int_beyond ts i (omega (arith, l))

-- the law of forms is passed on
pub sizes_by : (ds : List TypeDef) → ((facts : Facts) (ty : Ty) (f : Form) → HasForm facts ty f → form_of facts ty ≡ f) → HaveForms ds → HaveSizes ds
sizes_by ds computed forms ty bytes l h =
    let found = forms ty l in
    h true found.0 found.1 ∙ ap (λ f. min (size f) (2 ^ 32 - 1)) (sym (computed _ _ found.0 found.1))
