-- What lines do, by the words of their variables.
use Rattle.std.proofs.Common.{◌≡◌, ℕ, ◌%◌, ◌^◌, [], Bool, Result, Ok, Err, Option, Some, None, refl, ap, ◌∙◌, arith}
use Rattle.std.specs.Prelude.{◌==◌, if◌then◌else◌}
use Rattle.rv32_isa.specs.declared.machine.FaultKind.{FaultKind}
use Rattle.word_code.specs.Words.{WordDid, Passes, Fails, WordScene, loads, sets, using}
use Rattle.word_runner.specs.Acts.{both_of}
use Rattle.word_runner.specs.View.{ok_in}

-- two words, where both are there
abbrev using_both : Option (ℕ × ℕ) → (ℕ → ℕ → WordDid) → WordDid
using_both None go = Fails
using_both (Some (a, b)) go = go a b

both_used : (o p : Option ℕ) (go : ℕ → ℕ → WordDid) → using_both (both_of o p) go ≡ using o (λ a. using p (λ b. go a b))
both_used None p go = refl
both_used (Some a) None go = refl
both_used (Some a) (Some b) go = refl

by_both : (o p : Option ℕ) (q : Option (ℕ × ℕ)) (go : ℕ → ℕ → WordDid) → q ≡ both_of o p → using_both q go ≡ using o (λ a. using p (λ b. go a b))
by_both o p q go e = ap (λ q. using_both q go) e ∙ both_used o p go

-- one of two isn't there, or both are
pub none_of : (o p : Option ℕ) (go : ℕ → ℕ → WordDid) → None ≡ both_of o p → Fails ≡ using o (λ a. using p (λ b. go a b))
none_of o p go e = by_both o p None go e

pub both_there : (o p : Option ℕ) (a b : ℕ) (go : ℕ → ℕ → WordDid) → Some (a, b) ≡ both_of o p → go a b ≡ using o (λ a. using p (λ b. go a b))
both_there o p a b go e = by_both o p (Some (a, b)) go e

-- the same of one
pub none_at : (o : Option ℕ) (go : ℕ → WordDid) → None ≡ o → Fails ≡ using o go
none_at o go e = ap (λ o. using o go) e

pub one_there : (o : Option ℕ) (a : ℕ) (go : ℕ → WordDid) → Some a ≡ o → go a ≡ using o go
one_there o a go e = ap (λ o. using o go) e

-- only the low 32 bits count
pub low_sets : (x : WordScene) (to n m : ℕ) → n ≡ m % 2 ^ 32 → sets x to n ≡ sets x to m
low_sets x to n m e = ap (λ (k : ℕ). Passes [] (record x { vars = λ v. if v == to then Some k else x.vars v })) (low n m e)
  where
    low : (n m : ℕ) → n ≡ m % 2 ^ 32 → n % 2 ^ 32 ≡ m % 2 ^ 32
    low n m e = omega (arith, e)

-- what a test says
pub tested : (b c : Bool) (y z : WordDid) → b ≡ c → (if b then y else z) ≡ (if c then y else z)
tested b c y z e = ap (λ (b : Bool). if b then y else z) e

-- a number that was loaded
pub by_load : (x : WordScene) (to : ℕ) (o : Option ℕ) (r : Result ℕ FaultKind) → o ≡ ok_in r → using o (λ a. sets x to a) ≡ loads x to r
by_load x to o (Ok n) e = ap (λ o. using o (λ a. sets x to a)) e
by_load x to o (Err kind) e = ap (λ o. using o (λ a. sets x to a)) e
