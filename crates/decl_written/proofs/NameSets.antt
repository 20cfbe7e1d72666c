-- Sets of names.
use Rattle.std.proofs.Common.{◌≡◌, ℕ, Bool, true, false, List, [], ◌∷◌, refl, ap, ap₂, ◌∙◌}
use Rattle.std.specs.Prelude.{◌||◌, if◌then◌else◌}
use Rattle.std.specs.HashSet.{HashSet, IsEmpty, contains}
use Rattle.std.specs.List.{list_any}
use Rattle.std.proofs.lemmas.Cmp.{nat_list_eq_equiv}
use Rattle.nim_types.specs.Types.{same_text}
use Rattle.decl_written.specs.ViewWritten.{HasNames}

or_else : (b c : Bool) → ◌≡◌ {A = Bool} (if b then true else c) (b || c)
or_else true c = refl
or_else false c = refl

-- with one name more
pub added : {S : Type 0} (old new : HashSet (List ℕ) S) (key : List ℕ) (before : List (List ℕ)) → HasNames old before
    → ((q : List ℕ) → contains same_text new q ≡ (if same_text key q then true else contains same_text old q)) → HasNames new (key ∷ before)
added old new key before h more = λ q.
    more q ∙ or_else (same_text key q) (contains same_text old q) ∙ ap₂ (λ a b. a || b) (nat_list_eq_equiv.symm key q) (h q)

pub no_names : {S : Type 0} (set : HashSet (List ℕ) S) → IsEmpty set → HasNames set []
no_names set h = λ x. ap (list_any (same_text x)) h
