-- The text in order: each body comes once, behind so many globals.
use Rattle.std.proofs.Common.{◌≡◌, ℕ, suc, Bool, true, false, List, [], ◌∷◌, ◌++◌, refl, sym, ap, subst, ◌∙◌}
use Rattle.std.specs.Prelude.{◌||◌, not, nat_eq, Ok}
use Rattle.std.proofs.lemmas.Bool.{and_parts, eqb-true}
use Rattle.arc_base.specs.declared.place.Place.{Place}
use Rattle.nim_program.specs.Program.{Proc, Stmts, Empty, Then, Declare, Defer}
use Rattle.expr_rules.specs.Answers.{Answer}
use Rattle.decl_rules.specs.State.{Item, announces, completes, code, is_completed, Step, does, declares, defers, block_of}
use Rattle.decl_rules.specs.Whole.{declares_any, comes_in_time, if_in_time, item_rule, text_rule}
use Rattle.typing_laws.proofs.Tests.{never, ever}
use Rattle.typing_laws.proofs.Arms.{then_is}

-- so many globals, and those that statements of module code declare
abbrev pub counted : ℕ → Stmts → ℕ
counted k Empty = k
counted k (Then s rest) = counted k rest
counted k (Declare node place cursor value rest) = counted (suc k) rest
counted k (Defer node last rest) = counted k rest

-- and those that a text declares
abbrev pub behind : ℕ → List Item → ℕ
behind k [] = k
behind k (announces q at ∷ rest) = behind k rest
behind k (completes q stmts ∷ rest) = behind k rest
behind k (code stmts ∷ rest) = behind (counted k stmts) rest

-- what holds of the number of each body's procedure and of the globals before it
abbrev pub EachBody : (ℕ → ℕ → Type 0) → ℕ → List Item → Type 0
EachBody holds k [] = Unit {0}
EachBody holds k (announces q at ∷ rest) = EachBody holds k rest
EachBody holds k (completes q stmts ∷ rest) = holds q k × EachBody holds k rest
EachBody holds k (code stmts ∷ rest) = EachBody holds (counted k stmts) rest

-- ---- texts one after another

pub behind_both : (k : ℕ) (xs ys : List Item) → behind k (xs ++ ys) ≡ behind (behind k xs) ys
behind_both k [] ys = refl
behind_both k (announces q at ∷ xs) ys = behind_both k xs ys
behind_both k (completes q stmts ∷ xs) ys = behind_both k xs ys
behind_both k (code stmts ∷ xs) ys = behind_both (counted k stmts) xs ys

module _ (holds : ℕ → ℕ → Type 0) where
  pub each_both : (k : ℕ) (xs ys : List Item) → EachBody holds k xs → EachBody holds (behind k xs) ys → EachBody holds k (xs ++ ys)
  each_both k [] ys h i = i
  each_both k (announces q at ∷ xs) ys h i = each_both k xs ys h i
  each_both k (completes q stmts ∷ xs) ys h i = (h.0, each_both k xs ys h.1 i)
  each_both k (code stmts ∷ xs) ys h i = each_both (counted k stmts) xs ys h i

  pub each_behind : (k : ℕ) (xs ys : List Item) → EachBody holds k (xs ++ ys) → EachBody holds (behind k xs) ys
  each_behind k [] ys h = h
  each_behind k (announces q at ∷ xs) ys h = each_behind k xs ys h
  each_behind k (completes q stmts ∷ xs) ys h = each_behind k xs ys h.1
  each_behind k (code stmts ∷ xs) ys h = each_behind (counted k stmts) xs ys h

  -- a number that no body has
  pub never_completed : (n k : ℕ) (xs : List Item) → ((q k : ℕ) → holds q k → nat_eq n q ≡ false) → EachBody holds k xs → is_completed n xs ≡ false
  never_completed n k [] apart h = refl
  never_completed n k (announces q at ∷ xs) apart h = never_completed n k xs apart h
  never_completed n k (completes q stmts ∷ xs) apart h =
      ap (λ b. b || is_completed n xs) (apart q k h.0) ∙ never_completed n k xs apart h.1
  never_completed n k (code stmts ∷ xs) apart h = never_completed n (counted k stmts) xs apart h

module _ (holds then_holds : ℕ → ℕ → Type 0) where
  pub each_so : (k : ℕ) (xs : List Item) → ((q k : ℕ) → holds q k → then_holds q k) → EachBody holds k xs → EachBody then_holds k xs
  each_so k [] go h = tt
  each_so k (announces q at ∷ xs) go h = each_so k xs go h
  each_so k (completes q stmts ∷ xs) go h = (go q k h.0, each_so k xs go h.1)
  each_so k (code stmts ∷ xs) go h = each_so (counted k stmts) xs go h

  -- where a procedure has no body yet, of those of all others
  pub each_other : (n k : ℕ) (xs : List Item) → ((q k : ℕ) → nat_eq n q ≡ false → holds q k → then_holds q k) → is_completed n xs ≡ false
      → EachBody holds k xs → EachBody then_holds k xs
  each_other n k [] go c h = tt
  each_other n k (announces q at ∷ xs) go c h = each_other n k xs go c h
  each_other n k (completes q stmts ∷ xs) go c h =
      let d = neither (nat_eq n q) (is_completed n xs) c in (go q k d.0 h.0, each_other n k xs go d.1 h.1)
    where
      neither : (a b : Bool) → (a || b) ≡ false → (a ≡ false) × (b ≡ false)
      neither true b e = ever e
      neither false b e = (refl, e)
  each_other n k (code stmts ∷ xs) go c h = each_other n (counted k stmts) xs go c h

-- ---- statements that declare no global

none_counted : (k : ℕ) (stmts : Stmts) → declares_any stmts ≡ false → counted k stmts ≡ k
none_counted k Empty e = refl
none_counted k (Then s rest) e = none_counted k rest e
none_counted k (Declare node place cursor value rest) e = ever e
none_counted k (Defer node last rest) e = none_counted k rest e

pub counted_both : (k : ℕ) (xs ys : List Step) → counted k (block_of (xs ++ ys)) ≡ counted (counted k (block_of xs)) (block_of ys)
counted_both k [] ys = refl
counted_both k (does s ∷ xs) ys = counted_both k xs ys
counted_both k (declares node place cursor value ∷ xs) ys = counted_both (suc k) xs ys
counted_both k (defers node last ∷ xs) ys = counted_both k xs ys

-- ---- each procedure has its body in time

module _ (holds : ℕ → ℕ → Type 0) (n : ℕ) where
  pub in_time : (k : ℕ) (items : List Item) → comes_in_time n items ≡ true → EachBody holds k items → holds n k
  in_time k [] c h = never c
  in_time k (announces q at ∷ rest) c h = in_time k rest c h
  in_time k (completes q stmts ∷ rest) c h = by_test (nat_eq n q) refl c (λ c. in_time k rest c h.1)
    where
      by_test : (b : Bool) → nat_eq n q ≡ b → (b || comes_in_time n rest) ≡ true → (comes_in_time n rest ≡ true → holds n k) → holds n k
      by_test true e c go = subst (λ q. holds q k) (sym (eqb-true n q e)) h.0
      by_test false e c go = go c
  in_time k (code stmts ∷ rest) c h =
      let p = and_parts (not (declares_any stmts)) (comes_in_time n rest) c in
      in_time k rest p.1 (subst (λ k. EachBody holds k rest) (none_counted k stmts (none (declares_any stmts) p.0)) h)
    where
      none : (b : Bool) → not b ≡ true → b ≡ false
      none true e = never e
      none false e = refl

pub asked_in_time : (all : List Proc) (before : List Item) (n : ℕ) (at : Place) (after : List Item)
    → text_rule all (before ++ announces n at ∷ after) ≡ Ok tt → comes_in_time n after ≡ true
asked_in_time all [] n at after e =
    let t = then_is (if_in_time (comes_in_time n after) at) (λ _. text_rule all after) tt e in by_test (comes_in_time n after) t.value t.is
  where
    by_test : (b : Bool) (x : Unit {0}) → ◌≡◌ {A = Answer (Unit {0})} (if_in_time b at) (Ok x) → b ≡ true
    by_test true x e = refl
    by_test false x e = cc
asked_in_time all (item ∷ before) n at after e =
    let t = then_is (item_rule all item (before ++ announces n at ∷ after)) (λ _. text_rule all (before ++ announces n at ∷ after)) tt e in
    asked_in_time all before n at after t.next
