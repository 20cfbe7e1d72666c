-- Which places are globals, by marks.
use Rattle.std.proofs.Common.{◌≡◌, ◌≢◌, ◌<◌, ◌+◌, ℕ, List, [], ◌∷◌, ◌++◌, Bool, true, false, inl, inr, length, take, set}
use Rattle.std.proofs.Common.{get_or, map, refl, sym, ap, ◌∙◌}
use Rattle.std.specs.Prelude.{◌||◌, nat_eq}
use Rattle.std.proofs.Common.{get_or-set_same, get_or-set_other}
use Rattle.std.proofs.lemmas.Bool.{cases_Bool, eqb-true, eqb-false}
use Rattle.std.proofs.lemmas.List.{take_more}
use Rattle.nim_types.specs.Types.{Ty}
use Rattle.nim_program.specs.declared.stmt.PlaceDecl.{PlaceDecl}
use Rattle.nim_program.specs.View.{declared_of}
use Rattle.nim_program.specs.Sizes.{is_global}

or_false : (a : Bool) → a ≡ (a || false)
or_false true = refl
or_false false = refl

or_true : (a : Bool) → true ≡ (a || true)
or_true true = refl
or_true false = refl

or_behind : (a b c : Bool) → (a || (b || c)) ≡ ((a || b) || c)
or_behind true b c = refl
or_behind false b c = refl

marked : (marks : List Bool) (j n : ℕ) → j < length marks → get_or (set marks j true) n false ≡ (get_or marks n false || nat_eq j n)
marked marks j n l = elim (cases_Bool (nat_eq j n)) [
  | inl t ↦
      ap (λ i. get_or (set marks j true) i false) (sym (eqb-true j n t)) ∙ get_or-set_same marks j true false l ∙ or_true (get_or marks n false) ∙
      ap (λ b. get_or marks n false || b) (sym t)
  | inr f ↦
      let other : n ≢ j = λ e. eqb-false j n f (sym e) in
      get_or-set_other marks j n true false other ∙ or_false (get_or marks n false) ∙ ap (λ b. get_or marks n false || b) (sym f)
]

module _ (ts : List Ty) where
  one_more : (xs : List PlaceDecl) (x : PlaceDecl) (n : ℕ) →
      is_global (map (declared_of ts) (xs ++ x ∷ [])) n ≡ (is_global (map (declared_of ts) xs) n || nat_eq x.number n)
  one_more [] x n = sym (or_false (nat_eq x.number n))
  one_more (y ∷ xs) x n =
      ap (λ b. nat_eq y.number n || b) (one_more xs x n) ∙ or_behind (nat_eq y.number n) (is_global (map (declared_of ts) xs) n) (nat_eq x.number n)

  pub next_marked : (xs : List PlaceDecl) (i : ℕ) (x : PlaceDecl) (marks : List Bool) (n : ℕ) → i < length xs → x ≡ get_or xs i x →
      x.number < length marks → get_or marks n false ≡ is_global (map (declared_of ts) (take i xs)) n →
      get_or (set marks x.number true) n false ≡ is_global (map (declared_of ts) (take (i + 1) xs)) n
  next_marked xs i x marks n l e m h =
      marked marks x.number n m ∙ ap (λ b. b || nat_eq x.number n) h ∙ sym (one_more (take i xs) x n) ∙
      ap (λ y. is_global (map (declared_of ts) (take i xs ++ y ∷ [])) n) e ∙
      ap (λ ys. is_global (map (declared_of ts) ys) n) (sym (take_more xs i x l))
