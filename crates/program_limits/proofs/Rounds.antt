-- How large the types of a table are, round by round.
use Rattle.std.proofs.Common.{◌≡◌, ℕ, zero, suc, ◌+◌, ◌<◌, Bool, true, false, List, [], ◌∷◌, ◌++◌, length, Some, refl, ap, subst, ◌∙◌}
use Rattle.std.proofs.Common.{arith, ⊎_elim}
use Rattle.std.proofs.lemmas.Bool.{cases_lt}
use Rattle.std.specs.Prelude.{slice_get}
use Rattle.nim_types.specs.declared.types.TypeDef.{TypeDef}
use Rattle.program_limits.specs.declared.summary.Summary.{Summary}
use Rattle.program_limits.specs.Summaries.{summary_at, summary_or, AreKnown, IsLast, AreNext}

pub first_zero : (first : Bool) (n : ℕ) (ds : List TypeDef) (last : List Summary) → first ≡ true → IsLast first n ds last → n ≡ 0
first_zero true n ds last e h = h
first_zero false n ds last e h = cc

pub last_known : (first : Bool) (n : ℕ) (ds : List TypeDef) (last : List Summary) → first ≡ false → IsLast first n ds last →
    (k : ℕ) × (n ≡ suc k) × AreKnown k ds last (length ds)
last_known true n ds last e h = cc
last_known false n ds last e h = h

at_front : (xs ys : List Summary) (i : ℕ) → i < length xs → slice_get (xs ++ ys) i ≡ slice_get xs i
at_front [] ys i lt = absurd (omega (arith, lt))
at_front (x ∷ xs) ys zero lt = refl
at_front (x ∷ xs) ys (suc i) lt = at_front xs ys i (omega (arith, lt))

at_end : (xs : List Summary) (x : Summary) → slice_get (xs ++ x ∷ []) (length xs) ≡ Some x
at_end [] x = refl
at_end (y ∷ xs) x = at_end xs x

-- one more is listed
pub known_more : (n : ℕ) (ds : List TypeDef) (old new : List Summary) (one : Summary) (ty : ℕ) → length old ≡ ty → new ≡ old ++ one ∷ [] →
    AreKnown n ds old ty → one ≡ summary_at n ds ty → AreKnown n ds new (ty + 1)
known_more n ds old new one ty long is known e i lt = ap (λ l. summary_or (slice_get l i)) is ∙ ⊎_elim
    (λ less. ap summary_or (at_front old (one ∷ []) i (omega (arith, less, long))) ∙ known i less)
    (λ most.
    let same : i ≡ length old = omega (arith, lt, most, long) in
    let here : i ≡ ty = omega (arith, lt, most) in
    ap (λ k. summary_or (slice_get (old ++ one ∷ []) k)) same ∙ ap summary_or (at_end old one) ∙ e ∙ ap (summary_at n ds) (omega (arith, here)))
    (cases_lt i ty)

-- where a round changes nothing, none does
pub known_on : (ds : List TypeDef) (of next : List Summary) → AreNext false ds of next → next ≡ of → (d n : ℕ) → AreKnown n ds of (length ds) →
    AreKnown (d + n) ds of (length ds)
known_on ds of next h same zero n known = subst (λ m. AreKnown m ds of (length ds)) (let e : n ≡ 0 + n = omega arith in e) known
known_on ds of next h same (suc d) n known =
    let e : suc (d + n) ≡ suc d + n = omega arith in
    subst (λ m. AreKnown m ds of (length ds)) e
    (subst (λ l. AreKnown (suc (d + n)) ds l (length ds)) same
    (h.known (suc (d + n)) (d + n, refl, known_on ds of next h same d n known)))
