-- How what a part gives is put together.
use Rattle.std.proofs.Common.{◌≡◌, ℕ, false, refl, ap, subst, sym, ◌∙◌}
use Rattle.arc_base.specs.BigStep.{then_do}
use Rattle.nim_types.specs.Types.{Ty, Facts}
use Rattle.std.specs.Prelude.{Bool, ◌∷◌, Option}
use Rattle.nim_meaning.specs.Ways.{Point}
use Rattle.nim_program.specs.Program.{Act, Doing, Building, Giving, Calling}
use Rattle.nim_meaning.specs.Values.{Value}
use Rattle.nim_meaning.specs.Acts.{Does, give, onward, ◌>>=◌, branch, costs, worked, passing, with_trail}
use Rattle.nim_meaning.specs.Deeds as deeds
use Rattle.nim_meaning.specs.Deeds.{Deed, carry, ◌>>=◌ as then_deed}
use Rattle.nim_meaning.specs.Here.{gives_hooked}
use Rattle.nim_meaning.specs.Places.{Destination}
use Rattle.nim_meaning.specs.Steps.{kept_by}
use Rattle.typing_laws.specs.Given.{AlwaysGives}

pub given : {A : Type 0} (x : A) → AlwaysGives (give x) x
given x s = record { behind = s; is = refl; same_world = refl; same_units = refl; same_out = refl }

pub after : {A B : Type 0} (act : Does A) (rest : A → Does B) (x : A) (y : B) → AlwaysGives act x → AlwaysGives (rest x) y → AlwaysGives (act >>= rest) y
after act rest x y g h s =
    let i = g s in
    let j = h i.behind in
    record {
      behind = j.behind;
      is = ap (λ q. then_do q (onward rest)) i.is ∙ j.is;
      same_world = j.same_world ∙ i.same_world;
      same_units = j.same_units ∙ i.same_units;
      same_out = j.same_out ∙ i.same_out;
    }

pub costing : {A : Type 0} (n : ℕ) (act : Does A) (x : A) → AlwaysGives act x → AlwaysGives (costs n act) x
costing n act x g s = g (worked n s)

pub branching : {A : Type 0} (b : Bool) (act other : Does A) (x : A) → b ≡ false → AlwaysGives other x → AlwaysGives (branch b act other) x
branching b act other x e g = subst (λ b. AlwaysGives (branch b act other) x) (sym e) g

pub passes : {A : Type 0} (p : Point) (act : Does A) (x : A) → AlwaysGives act x → AlwaysGives (passing p act) x
passes p act x g s = g (with_trail (p ∷ s.trail) s)

-- what a node made is handed over as it is, where it has no hooks
pub handed_over : (facts : Facts) (act : Act) (ty : Option Ty) (to : Destination) (deed : Deed Value) (v : Value) → gives_hooked facts ty ≡ false
    → AlwaysGives (carry (then_deed deed (λ x. deeds.give x))) v → AlwaysGives (carry (then_deed deed (kept_by act (gives_hooked facts ty) to))) v
handed_over facts act ty to deed v e g = subst (λ b. AlwaysGives (carry (then_deed deed (kept_by act b to))) v) (sym e) (by act)
  where
    by : (x : Act) → AlwaysGives (carry (then_deed deed (kept_by x false to))) v
    by (Giving literal) = g
    by (Doing operation) = g
    by (Building fields) = g
    by (Calling proc types) = g
