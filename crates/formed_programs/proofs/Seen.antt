-- Places that typed code sees are open, and procedures name globals that are open where they are called.
use Rattle.std.proofs.Common.{◌≡◌, ℕ, zero, suc, ◌≤◌, inl, inr, Bool, true, false, List, [], ◌∷◌, ◌++◌, Option, Some, None, refl, sym, ap, subst}
use Rattle.std.proofs.Common.{length, arith}
use Rattle.std.specs.Prelude.{nat_eq, ◌⊎◌, take, map, slice_get, if◌then◌else◌}
use Rattle.std.proofs.lemmas.Bool.{both_ways, and_parts, eqb-true, leb-true}
use Rattle.nim_types.specs.Types.{Ty}
use Rattle.nim_program.specs.Program.{Declared, Param, Body, Proc, Args, NoArg, ByValue, ByPath}
use Rattle.nim_program.specs.Scopes.{Placed, placed, Here, look, count_below, is_ready, is_no_hook, are_taken, call_fits}
use Rattle.flattening.specs.Formed.{Ground, Scope, With, IsAmong, count, params_of}

-- ---- numbers of places

abbrev pub numbers : List Placed → List ℕ
numbers places = map (λ p. p.number) places

some_one : {A : Type 0} {x y : A} → Some x ≡ Some y → x ≡ y
some_one e = cc

not_there : {A : Type 0} {x : A} {B : Type 0} → None ≡ Some x → B
not_there e = cc

pub looked : (places : List Placed) (n : ℕ) (ty : Ty) → look places n ≡ Some ty → IsAmong n (numbers places)
looked [] n ty e = not_there e
looked (p ∷ ps) n ty e = at (nat_eq p.number n) refl e (λ e. looked ps n ty e)
  where
    at : (b : Bool) → nat_eq p.number n ≡ b → (if b then Some p.of else look ps n) ≡ Some ty
        → (look ps n ≡ Some ty → IsAmong n (numbers ps)) → IsAmong n (numbers (p ∷ ps))
    at true same e rest = inl (sym (eqb-true p.number n same))
    at false same e rest = inr (rest e)

pub at_end : (places : List Placed) (p : Placed) (n : ℕ) → IsAmong n (numbers (places ++ p ∷ [])) → IsAmong n (numbers places) ⊎ (n ≡ p.number)
at_end [] p n (inl e) = inr e
at_end [] p n (inr e) = absurd e
at_end (q ∷ qs) p n (inl e) = inl (inl e)
at_end (q ∷ qs) p n (inr h) = by_rest (at_end qs p n h)
  where
    by_rest : IsAmong n (numbers qs) ⊎ (n ≡ p.number) → IsAmong n (numbers (q ∷ qs)) ⊎ (n ≡ p.number)
    by_rest (inl h) = inl (inr h)
    by_rest (inr e) = inr e

pub one_further : (places : List Placed) (p : Placed) (filled n : ℕ) → slice_get places filled ≡ Some p
    → IsAmong n (numbers (take (suc filled) places)) → IsAmong n (numbers (take filled places)) ⊎ (n ≡ p.number)
one_further [] p filled n e h = absurd h
one_further (q ∷ qs) p zero n e (inl h) = inr (subst (λ q. n ≡ q.number) (some_one e) h)
one_further (q ∷ qs) p zero n e (inr h) = absurd h
one_further (q ∷ qs) p (suc filled) n e (inl h) = inl (inl h)
one_further (q ∷ qs) p (suc filled) n e (inr h) = by_rest (one_further qs p filled n e h)
  where
    by_rest : IsAmong n (numbers (take filled qs)) ⊎ (n ≡ p.number) → IsAmong n (numbers (take (suc filled) (q ∷ qs))) ⊎ (n ≡ p.number)
    by_rest (inl h) = inl (inr h)
    by_rest (inr e) = inr e

pub more_taken : (places : List Placed) (few many n : ℕ) → few ≤ many → IsAmong n (numbers (take few places)) → IsAmong n (numbers (take many places))
more_taken [] zero many n l h = absurd h
more_taken [] (suc few) many n l h = absurd h
more_taken (p ∷ ps) zero many n l h = absurd h
more_taken (p ∷ ps) (suc few) zero n l h = absurd (omega (arith, l))
more_taken (p ∷ ps) (suc few) (suc many) n l (inl e) = inl e
more_taken (p ∷ ps) (suc few) (suc many) n l (inr h) = inr (more_taken ps few many n (omega (arith, l)) h)

-- ---- what a procedure may name: the globals before it

abbrev pub named_by_body : (globals : List Placed) → Option Body → List ℕ
named_by_body globals None = []
named_by_body globals (Some body) = numbers (take (count_below body.first globals) globals)

abbrev pub named_by : (globals : List Placed) → Option Proc → List ℕ
named_by globals None = []
named_by globals (Some proc) = named_by_body globals proc.body

-- ---- what is open

pub record Sees (globals : List Placed) (Open : Scope) (filled : ℕ) (places : List Placed) : Type 0 where
  pub local : (n : ℕ) → IsAmong n (numbers places) → Open false n
  pub global : (n : ℕ) → IsAmong n (numbers (take filled globals)) → Open true n

-- with a place that is declared
pub sees_place : (globals : List Placed) (g : Ground) (Open : Scope) (filled : ℕ) (places : List Placed) (d : Declared) → Sees globals Open filled places
    → Sees globals (With g Open d.number) filled (places ++ placed d ∷ [])
sees_place globals g Open filled places d sees =
    record { local = λ n h. own n (at_end places (placed d) n h); global = λ n h. inl (sees.global n h) }
  where
    own : (n : ℕ) → IsAmong n (numbers places) ⊎ (n ≡ d.number) → With g Open d.number false n
    own n (inl h) = inl (sees.local n h)
    own n (inr e) = inr (e, tt)

-- with the next global, in the start code
pub sees_global : (globals : List Placed) (g : Ground) (Open : Scope) (filled : ℕ) (places : List Placed) (d : Declared) (p : Placed) → g.top ≡ true
    → slice_get globals filled ≡ Some p → p.number ≡ d.number → Sees globals Open filled places
    → Sees globals (With g Open d.number) (suc filled) places
sees_global globals g Open filled places d p top e same sees =
    record { local = λ n h. inl (sees.local n h); global = λ n h. own n (one_further globals p filled n e h) }
  where
    own : (n : ℕ) → IsAmong n (numbers (take filled globals)) ⊎ (n ≡ p.number) → With g Open d.number true n
    own n (inl h) = inl (sees.global n h)
    own n (inr e) = inr (subst (λ m. n ≡ m) same e, top)

-- ---- calls

never : {A : Type 0} → false ≡ true → A
never e = absurd (both_ways false refl e)

counted : (types : List Ty) (params : List Param) (operands : Args) → are_taken types params operands ≡ true → count operands ≡ length params
counted types [] NoArg h = refl
counted types [] (ByValue value rest) h = never h
counted types [] (ByPath path rest) h = never h
counted types (p ∷ params) NoArg h = never h
counted types (p ∷ params) (ByValue value rest) h = ap suc (counted types params rest (and_parts _ _ (and_parts _ _ h).1).1)
counted types (p ∷ params) (ByPath path rest) h = ap suc (counted types params rest (and_parts _ _ (and_parts _ _ h).1).1)

pub as_many : (here : Here) (proc : Option Proc) (types : List Ty) (ty : Option Ty) (operands : Args) → call_fits here proc types ty operands ≡ true
    → count operands ≡ length (params_of proc)
as_many here None types ty operands h = never h
as_many here (Some proc) types ty operands h = counted types proc.params operands (and_parts _ _ (and_parts _ _ h).1).1

ready : (here : Here) (Open : Scope) (body : Option Body) → is_ready here body ≡ true
    → ((n : ℕ) → IsAmong n (numbers (take here.filled here.globals)) → Open true n)
    → (n : ℕ) → IsAmong n (named_by_body here.globals body) → Open true n
ready here Open None h opened n is = absurd is
ready here Open (Some body) h opened n is =
    opened n (more_taken here.globals (count_below body.first here.globals) here.filled n (leb-true (count_below body.first here.globals) here.filled h) is)

pub all_open : (here : Here) (Open : Scope) (proc : Option Proc) (types : List Ty) (ty : Option Ty) (operands : Args)
    → call_fits here proc types ty operands ≡ true → ((n : ℕ) → IsAmong n (numbers (take here.filled here.globals)) → Open true n)
    → (n : ℕ) → IsAmong n (named_by here.globals proc) → Open true n
all_open here Open None types ty operands h opened n is = absurd is
all_open here Open (Some proc) types ty operands h opened n is =
    ready here Open proc.body (and_parts (is_no_hook proc.hook) (is_ready here proc.body) (and_parts _ _ (and_parts _ _ h).0).0).1 opened n is
