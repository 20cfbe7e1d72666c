-- The operands of a line: what temporaries have.
use Rattle.std.proofs.Common.{◌≡◌, List, [], ◌∷◌, Option, Some, None, ap, refl, subst}
use Rattle.std.specs.Prelude.{option_map}
use Rattle.nim_meaning.specs.State.{World, load}
use Rattle.nim_meaning.specs.Values.{Value, Operand, Given, location_of, value_of}
use Rattle.flat_code.specs.declared.block.BlockLine.{BlockLine}
use Rattle.flat_code.specs.declared.line.From.{From}
use Rattle.flat_code.specs.Lines.{fetch, using_all, using}
use Rattle.flat_code.specs.Scene.{Temps, Did}
use Rattle.word_lowering.proofs.Lines.{Basis, Settles, using_settles, Completes}
use Rattle.word_lowering.proofs.Options.{none_some, some_same}
use Rattle.word_lowering.proofs.Related.{Both}

-- they have these operands
abbrev pub Have : Temps → List From → List Operand → Type 0
Have temps [] [] = Unit {0}
Have temps (f ∷ from) (z ∷ xs) = (fetch temps f ≡ Some z) × Have temps from xs
Have temps from xs = ⊥

-- the value of an operand that is one
pub given_value : (o : Option Value) (z : Operand) → option_map Given o ≡ Some z → o ≡ Some (value_of z)
given_value None z e = absurd (none_some z e)
given_value (Some v) z e = ap (λ w. Some (value_of w)) (some_same (Given v) z e)

pub given_load : (world : World) (o : Option Value) (z : Operand) → option_map Given o ≡ Some z → load world (location_of z) ≡ value_of z
given_load world None z e = absurd (none_some z e)
given_load world (Some v) z e = subst (λ w. load world (location_of w) ≡ value_of w) (some_same (Given v) z e) refl

module _ (x : Basis) (g : Both) (rest : List BlockLine) (temps : Temps) where
  pub using_all_settles : (from : List From) (go : List Operand → Did) → ((xs : List Operand) → Have temps from xs → Settles x g rest (go xs))
      → Settles x g rest (using_all temps from go)
  using_all_settles [] go h = h [] tt
  using_all_settles (f ∷ from) go h =
      using_settles x g rest (fetch temps f) (λ z. using_all temps from (λ xs. go (z ∷ xs)))
      (λ z e. using_all_settles from (λ xs. go (z ∷ xs)) (λ xs all. h (z ∷ xs) (e, all)))

  pub using_completes : {A : Type 0} (o : Option A) (go : A → Did) → ((a : A) → o ≡ Some a → Completes x g rest (go a)) → Completes x g rest (using o go)
  using_completes None go h = λ before. tt
  using_completes (Some a) go h = h a refl

  pub using_all_completes : (from : List From) (go : List Operand → Did) → ((xs : List Operand) → Have temps from xs → Completes x g rest (go xs))
      → Completes x g rest (using_all temps from go)
  using_all_completes [] go h = h [] tt
  using_all_completes (f ∷ from) go h =
      using_completes (fetch temps f) (λ z. using_all temps from (λ xs. go (z ∷ xs)))
      (λ z e. using_all_completes from (λ xs. go (z ∷ xs)) (λ xs all. h (z ∷ xs) (e, all)))
