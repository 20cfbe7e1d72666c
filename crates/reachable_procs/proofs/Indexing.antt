-- Where the first procedure of each number stands.
use Rattle.std.proofs.Common.{◌≡◌, ℕ, ◌+◌, ◌<◌, List, [], ◌∷◌, length, refl, sym, ap, ◌∙◌, arith, Some, drop, get_or}
use Rattle.std.specs.Prelude.{Bool, true, false, nat_eq, if◌then◌else◌}
use Rattle.std.specs.HashMap.{HashMap, get}
use Rattle.std.specs.Map.{lookup}
use Rattle.std.proofs.lemmas.List.{drop_all, drop_more}
use Rattle.word_code.specs.declared.word.WordProc.{WordProc}
use Rattle.word_code.specs.Words.{from_proc}
use Rattle.reachable_procs.specs.Search.{from_there, LeadsFrom}

module _ {S : Type 0} (procs : List WordProc) where
  pub first_leads : (index : HashMap ℕ ℕ S) → index.entries ≡ [] → LeadsFrom index (length procs) procs
  first_leads index e n =
      ap (λ es. from_there (lookup (nat_eq n) es) procs) e ∙ sym (ap (from_proc n) (drop_all (length procs) procs (omega arith)))

  -- one procedure before those that are left
  pub next_leads : (i : ℕ) (p d : WordProc) (old new : HashMap ℕ ℕ S) → i < length procs → p ≡ get_or procs i d
      → ((n : ℕ) → get nat_eq new n ≡ (if nat_eq p.number n then Some i else get nat_eq old n)) → LeadsFrom old (i + 1) procs → LeadsFrom new i procs
  next_leads i p d old new lt e put leads n = ap (λ o. from_there o procs) (put n) ∙ by (nat_eq p.number n) refl ∙ sym (ap (from_proc n) is)
    where
      is : drop i procs ≡ p ∷ drop (i + 1) procs
      is = drop_more procs i d lt ∙ ap (λ (y : WordProc). y ∷ drop (i + 1) procs) (sym e)

      by : (b : Bool) → nat_eq p.number n ≡ b → from_there (if b then Some i else get nat_eq old n) procs
          ≡ from_proc n (p ∷ drop (i + 1) procs)
      by true s = is ∙ sym (ap (λ b. if b then p ∷ drop (i + 1) procs else from_proc n (drop (i + 1) procs)) s)
      by false s = leads n ∙ sym (ap (λ b. if b then p ∷ drop (i + 1) procs else from_proc n (drop (i + 1) procs)) s)
