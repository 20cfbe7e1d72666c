-- What the place of a value asks for, by numbers of types.
use Rattle.std.proofs.Common.{◌≡◌, ℕ, List, [], ◌∷◌, refl, ap, Some, None, Option}
use Rattle.std.specs.Prelude.{map}
use Rattle.nim_types.specs.Types.{Ty}
use Rattle.nim_types.specs.Table.{type_at, AllBelow}
use Rattle.expr_parts.specs.declared.parts.Found.{Found}
use Rattle.expr_rules.specs.Answers.{Want, nothing, whole, inner}
use Rattle.expr_rules.specs.Choices.{branch_want, decided}
use Rattle.expr_rules.specs.Constructions.{types_in}
use Rattle.expr_rules.specs.Demands.{elements, first_type, is_first, want_in}
use Rattle.expr_parts.specs.View.{found_of}
use Rattle.expr_builds.specs.ViewBuilt.{FoundsWithin}
use Rattle.expr_steps.specs.ViewTyping.{is_inner}

-- the first type that is left is that of an inner place
pub inner_first : (all : List Ty) (t : Ty) → is_first all t ≡ is_inner (first_type all) t
inner_first [] t = refl
inner_first (u ∷ rest) t = refl

-- an element is wanted as a branch is
pub elements_want : (w : Want) (o : Option Ty) → want_in (elements w o) ≡ branch_want (decided w o)
elements_want nothing None = refl
elements_want nothing (Some t) = refl
elements_want (whole u) None = refl
elements_want (whole u) (Some t) = refl
elements_want (inner u) None = refl
elements_want (inner u) (Some t) = refl

pub field_types_are : (ts : List Ty) (fs : List Found) → map (type_at ts) (map (λ f. f.ty) fs) ≡ types_in (map (found_of ts) fs)
field_types_are ts [] = refl
field_types_are ts (f ∷ fs) = ap (λ all. type_at ts f.ty ∷ all) (field_types_are ts fs)

pub field_types_within : (n : ℕ) (fs : List Found) → FoundsWithin n fs → AllBelow n (map (λ f. f.ty) fs)
field_types_within n [] w = tt
field_types_within n (f ∷ fs) w = (w.0, field_types_within n fs w.1)
