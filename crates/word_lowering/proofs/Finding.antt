-- Places by their numbers.
use Rattle.std.proofs.Common.{◌≡◌, ℕ, ◌+◌, ◌<◌, Bool, true, false, List, [], ◌∷◌, length, drop, get_or, refl, sym, ap}
use Rattle.std.proofs.Common.{◌∙◌, arith, Some}
use Rattle.std.specs.Prelude.{nat_eq, ◌&&◌, if◌then◌else◌}
use Rattle.std.specs.HashMap.{HashMap, get}
use Rattle.std.specs.Map.{lookup}
use Rattle.std.proofs.lemmas.List.{drop_more, drop_all}
use Rattle.flat_code.specs.declared.place.PlaceKind.{PlaceKind}
use Rattle.word_lowering.specs.declared.homes.Housed.{Housed}
use Rattle.word_lowering.specs.Lookups.{found}
use Rattle.word_lowering.specs.PlaceTable.{from_there, FindsFrom}

-- ---- numbers

module _ {S : Type 0} (all : List Housed) where
  pub first_leads : (index : HashMap ℕ ℕ S) → index.entries ≡ [] → FindsFrom index (drop (length all) all) all
  first_leads index e = λ n is_kind.
      ap (λ es. found is_kind n (from_there (lookup (nat_eq n) es) all)) e
      ∙ sym (ap (λ (hs : List Housed). found is_kind n hs) (drop_all (length all) all (omega arith)))

  -- one place before those that are left
  pub next_leads : (i : ℕ) (h d : Housed) (old new : HashMap ℕ ℕ S) → i < length all → h ≡ get_or all i d
      → ((n : ℕ) → get nat_eq new n ≡ (if nat_eq h.number n then Some i else get nat_eq old n)) → FindsFrom old (drop (i + 1) all) all
      → FindsFrom new (drop i all) all
  next_leads i h d old new lt e put leads = λ n is_kind.
      ap (λ o. found is_kind n (from_there o all)) (put n) ∙ by n is_kind (nat_eq h.number n) refl
    where
      is : drop i all ≡ h ∷ drop (i + 1) all
      is = drop_more all i d lt ∙ ap (λ (y : Housed). y ∷ drop (i + 1) all) (sym e)

      by : (n : ℕ) (is_kind : PlaceKind → Bool) (b : Bool) → nat_eq h.number n ≡ b
          → found is_kind n (from_there (if b then Some i else get nat_eq old n) all) ≡ found is_kind n (drop i all)
      by n is_kind true s = refl
      by n is_kind false s =
          leads n is_kind
          ∙ sym (ap (λ (hs : List Housed). found is_kind n hs) is
          ∙ ap (λ (b : Bool). if b && is_kind h.kind then h else found is_kind n (drop (i + 1) all)) s)
