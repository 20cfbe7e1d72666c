-- The table of a code's instructions.
use Rattle.std.proofs.Common.{◌≡◌, ℕ, zero, suc, ◌+◌, ◌-◌, ◌*◌, ◌≤◌, List, [], ◌∷◌, ◌++◌, length, take, drop, Option, Some, None, true, refl, sym, ap}
use Rattle.std.proofs.Common.{subst, ◌∙◌, arith, ◌⊎◌, inl, inr}
use Rattle.std.specs.Prelude.{IfSome}
use Rattle.std.specs.List.{slice_get, slice_range}
use Rattle.std.proofs.lemmas.Bool.{le-leb, and_from, cond-true}
use Rattle.std.proofs.lemmas.Option.{none-some, same_Some}
use Rattle.rv32_isa.specs.declared.table.Decoded.{Decoded}
use Rattle.rv32_isa.specs.Hooks.{code_at}
use Rattle.rv32_isa.specs.Words.{little}
use Rattle.rv32_isa.specs.State.{State, lies_in, part}
use Rattle.rv32_isa.specs.Table.{IsOf, StandsAt, AreDecoded}
use Rattle.rv32_isa.specs.Next.{IsNext}

-- in a list with one more
last_or : {X : Type 0} (xs : List X) (x y : X) (i : ℕ) → slice_get (xs ++ x ∷ []) i ≡ Some y → (slice_get xs i ≡ Some y) ⊎ ((i ≡ length xs) × (x ≡ y))
last_or [] x y zero e = inr (refl, same_Some x y e)
last_or [] x y (suc i) e = absurd (none-some y e)
last_or (z ∷ xs) x y zero e = inl e
last_or (z ∷ xs) x y (suc i) e = elim (last_or xs x y i e) [ inl h ↦ inl h | inr h ↦ inr (ap suc h.0, h.1) ]

stands : (code : List ℕ) (n : ℕ) (last : Option Decoded) → 4 * n + 4 ≤ length code → IfSome last (IsOf (slice_range code (4 * n) (4 * n + 4))) →
    (d : Decoded) → last ≡ Some d → StandsAt code n d
stands code n last within h d e =
    let size : 4 * n + 4 - 4 * n ≡ 4 = omega arith in
    record {
      within = within;
      here = subst (λ k. IsOf (take k (drop (4 * n) code)) d) size
          (subst (λ o. IfSome o (IsOf (slice_range code (4 * n) (4 * n + 4)))) e h);
    }

-- one more
pub more_table : (code : List ℕ) (table : List (Option Decoded)) (n : ℕ) (last : Option Decoded) → n ≡ length table → AreDecoded code table →
    4 * n + 4 ≤ length code → IfSome last (IsOf (slice_range code (4 * n) (4 * n + 4))) → AreDecoded code (table ++ last ∷ [])
more_table code table n last count h within is =
    λ i d e. elim (last_or table last (Some d) i e)
    [ inl f ↦ h i d f | inr f ↦ subst (λ k. StandsAt code k d) (count ∙ sym f.0) (stands code n last within is d f.1) ]

-- what the table has for the program counter comes next
pub next_is : (s : State) (table : List (Option Decoded)) (i : ℕ) (found : Option Decoded) → AreDecoded s.code table → code_at ≤ s.pc →
    4 * i ≡ s.pc - code_at → slice_get table i ≡ Some found → IfSome found (IsNext s)
next_is s table i None h low at e = tt
next_is s table i (Some d) h low at e =
    let st = h i d e in
    let within = st.within in
    let lies : lies_in code_at s.code s.pc 4 ≡ true = and_from _ _ (le-leb _ _ low) (le-leb _ _ (omega arith)) in
    let word : little (part code_at s.code s.pc 4) ≡ d.word = ap (λ k. little (take 4 (drop k s.code))) (sym at) ∙ st.here.word in
    record {
      fetched = cond-true (lies_in code_at s.code s.pc 4) (Some (little (part code_at s.code s.pc 4))) None lies ∙ ap Some word;
      row = st.here.row;
      fields = st.here.fields;
    }
