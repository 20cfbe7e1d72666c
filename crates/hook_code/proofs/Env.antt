-- What is known of the temporaries of a hook before a line, by the lines alone.
use Rattle.std.proofs.Common.{◌≡◌, ◌⊎◌, ℕ, ◌<◌, ◌^◌, Bool, true, false, List, [], ◌∷◌, Option, Some, None}
use Rattle.std.specs.Prelude.{slice_get, nat_eq, if◌then◌else◌}
use Rattle.nim_types.specs.declared.types.TypeDef.{TypeDef}
use Rattle.nim_types.specs.declared.types.TypeDef.TheVariants as D
use Rattle.flat_code.specs.declared.line.Line.TheVariants as L
use Rattle.hook_lifting.specs.declared.lifted.Hook.{Hook}
use Rattle.hook_lifting.specs.declared.lifted.LiftedLine.{LiftedLine}
use Rattle.hook_lifting.specs.declared.lifted.LiftedLine.TheVariants as O
use Rattle.hook_code.specs.Surroundings.{IsHandled, IsDistinct, plain_parts}
use Rattle.hook_code.specs.Promises.{from_own}

-- Of locations whether a value may be put there, and the types; of handles whether they are surely there, and may be put to a place, and the types; which
-- numbers there are, and whether the next one of the loop's has 32 bits; and the type of the value under way, if there is one.
pub record Env : Type 0 where
  pub at : ℕ → Option (Bool × ℕ)
  pub has : ℕ → Option (Bool × (Bool × ℕ))
  pub counts : ℕ → Bool
  pub small : Bool
  pub begun : Option ℕ

abbrev pub set : {A : Type 0} → (ℕ → A) → ℕ → A → ℕ → A
set held t o u = if nat_eq u t then o else held u

abbrev pub IsPart : ℕ → Type 0
IsPart t = (t ≡ 2) ⊎ (t ≡ 3)

abbrev pub IsCount : ℕ → Type 0
IsCount t = (t ≡ 4) ⊎ ((t ≡ 5) ⊎ (t ≡ 8))

abbrev pub IsPair : ℕ → Type 0
IsPair t = (t ≡ 6) ⊎ (t ≡ 7)

-- What may not be put to a place is from where a hook works from.
abbrev pub IsFrom : (own : Bool) → (place : ℕ) → Type 0
IsFrom true j = Unit {0}
IsFrom false j = j ≡ 1

-- a location leads to a type, or to the value under way, of that type
abbrev pub LeadsBy : Env → (place : ℕ) → (own : Bool) → (ty : ℕ) → Type 0
LeadsBy e j o ty = (e.at j ≡ Some (o, ty)) ⊎ ((j ≡ 2) × (e.begun ≡ Some ty) × (o ≡ true))

abbrev pub Holds : Env → (t : ℕ) → (full own : Bool) → (ty : ℕ) → Type 0
Holds e t full o ty = e.has t ≡ Some (full, (o, ty))

-- what is known of one is known of another too
pub record Covers (e f : Env) : Type 0 where
  pub at : (j : ℕ) (x : Bool × ℕ) → f.at j ≡ Some x → e.at j ≡ Some x
  pub has : (t : ℕ) (x : Bool × (Bool × ℕ)) → f.has t ≡ Some x → e.has t ≡ Some x
  pub counts : (t : ℕ) → f.counts t ≡ true → e.counts t ≡ true
  pub small : f.small ≡ true → e.small ≡ true
  pub begun : e.begun ≡ f.begun

abbrev pub counted : Env → (to : ℕ) → Env
counted e to = record e { counts = set e.counts to true; small = false }

-- a loop's number is one too many
abbrev pub turned : Env → (counter : ℕ) → Env
turned e c = record e { counts = set e.counts c false; small = false }

abbrev pub located : Env → (to : ℕ) → (own : Bool) → (ty : ℕ) → Env
located e to o t = record e { at = set e.at to (Some (o, t)) }

abbrev pub led : Env → (to : ℕ) → (own : Bool) → (ty : ℕ) → Env
led e to o t = record e { at = set e.at to (Some (o, t)); small = true }

abbrev pub handled : Env → (to : ℕ) → (full own : Bool) → (ty : ℕ) → Env
handled e to full o t = record e { has = set e.has to (Some (full, (o, t))) }

abbrev pub under_way : Env → (ty : ℕ) → Env
under_way e t = record e { at = set e.at 2 None; begun = Some t }

abbrev pub over : Env → (to ty : ℕ) → Env
over e to t = record e { has = set e.has to (Some (false, (true, t))); begun = None }

module _ (table : List TypeDef) (ty : ℕ) (joined : ℕ → Env) (IsDone : Hook → ℕ → Type 0) where
  abbrev pub part_type : (part : ℕ) → Option ℕ
  part_type i = slice_get (plain_parts (slice_get table ty)) i

  -- what a line asks for, and what is known behind it
  pub data Fits : Env → LiftedLine → Env → Type 0 where
    a_part : {e : Env} {to from i of : ℕ} {o : Bool} → IsPart to → e.at from ≡ Some (o, ty) → e.begun ≡ None → part_type i ≡ Some of
        → Fits e (O.Plain (L.Part to from i)) (located e to o of)
    a_zero : {e : Env} {to : ℕ} → IsCount to → Fits e (O.Plain (L.Zero to)) (counted e to)
    a_test : {e : Env} {c l name : ℕ} → IsCount c → IsCount l → e.counts c ≡ true → e.counts l ≡ true → Covers e (joined name)
        → Fits e (O.Plain (L.Beyond c l false name)) (counted e c)
    a_turn : {e : Env} {l name : ℕ} → IsCount l → e.counts 4 ≡ true → e.counts l ≡ true → (l ≡ 4 → ⊥) → e.small ≡ true
        → Covers (counted e 4) (joined name) → Fits e (O.Plain (L.CountTurn 4 l false name)) (turned e 4)
    a_label : {e : Env} {name : ℕ} → Covers e (joined name) → Fits e (O.Plain (L.Label name)) (joined name)
    a_return : {e : Env} {t : ℕ} {o : Bool} → e.at 0 ≡ Some (o, t) → e.begun ≡ None → Fits e (O.Plain (L.Return None)) e
    a_hook : {e : Env} {hook : Hook} {of to from : ℕ} {o : Bool} → LeadsBy e to true of → LeadsBy e from o of → (from_own hook ≡ true → o ≡ true)
        → IsDone hook of → Fits e (O.Hook hook of to from) e
    a_base : {e : Env} {hook : Hook} {base : ℕ} {o : Bool} → e.at 0 ≡ Some (true, ty) → e.at 1 ≡ Some (o, ty) → (from_own hook ≡ true → o ≡ true)
        → IsDistinct (slice_get table ty) base → IsDone hook base
        → Fits e (O.Hook hook base 0 1) e
    a_load : {e : Env} {to at t : ℕ} {o : Bool} → IsPair to → e.at at ≡ Some (o, t) → IsFrom o at → IsHandled (slice_get table t) →
        Fits e (O.Load to at) (handled e to true o t)
    a_count : {e : Env} {to of t : ℕ} {o : Bool} → IsCount to → Holds e of true o t → Fits e (O.Count to of) (counted e to)
    a_number : {e : Env} {to n : ℕ} → IsCount to → n < 2 ^ 32 → Fits e (O.Number to n) (counted e to)
    an_element : {e : Env} {to of at el : ℕ} {o : Bool} → IsPart to → Holds e of true o ty → e.at at ≡ Some (o, ty) → IsFrom o at
        → slice_get table ty ≡ Some (D.Seq el) → e.counts 4 ≡ true → e.begun ≡ None → Fits e (O.Element to of at 4) (led e to o el)
    a_member : {e : Env} {to at n el : ℕ} {o : Bool} → IsPart to → e.at at ≡ Some (o, ty) → slice_get table ty ≡ Some (D.Array n el) → n < 2 ^ 32
        → e.counts 4 ≡ true → e.begun ≡ None → Fits e (O.Member to at 4 n) (led e to o el)
    a_take : {e : Env} {to at of t el : ℕ} {o : Bool} → IsPair to → Holds e of true o t → e.at at ≡ Some (true, ty) → slice_get table ty ≡ Some (D.Seq el)
        → Fits e (O.Take ty to at of) (handled e to true true ty)
    a_give_back : {e : Env} {at of t other : ℕ} → Holds e of true true t → e.at at ≡ Some (true, t) → IsHandled (slice_get table t) →
        Fits e (O.GiveBack other at of) e
    a_trade : {e : Env} {to from t : ℕ} → e.at to ≡ Some (true, t) → e.at from ≡ Some (true, t) → IsHandled (slice_get table t) → Fits e (O.Trade to from) e
    a_begin : {e : Env} {t : ℕ} → e.begun ≡ None → IsHandled (slice_get table t) → Fits e (O.Begin t 2) (under_way e t)
    a_push : {e : Env} {of t : ℕ} {full : Bool} → e.begun ≡ None → Holds e of full true t → IsHandled (slice_get table t) → Fits e (O.Push 2 of) (under_way e t)
    a_pop : {e : Env} {to t : ℕ} → IsPair to → e.begun ≡ Some t → IsHandled (slice_get table t) → Fits e (O.Pop to 2) (over e to t)
    an_exchange : {e : Env} {to at of t : ℕ} {full : Bool} → IsPair to → e.at at ≡ Some (true, t) → Holds e of full true t → (of ≡ to → ⊥)
        → IsHandled (slice_get table t) → Fits e (O.Exchange to at of) (handled e to true true t)
    a_copy : {e : Env} {to of : ℕ} → IsCount to → IsCount of → e.counts of ≡ true → Fits e (O.Copy to of) (counted e to)
    a_shorten : {e : Env} {at of count t el : ℕ} → Holds e of true true t → e.at at ≡ Some (true, t) → IsCount count → e.counts count ≡ true
        → IsHandled (slice_get table t) → slice_get table t ≡ Some (D.Seq el) → Fits e (O.Shorten at of count) e
    a_forget : {e : Env} {of count t el : ℕ} → Holds e of true true t → IsCount count → e.counts count ≡ true → slice_get table t ≡ Some (D.Seq el)
        → Fits e (O.Forget of count) e

  pub data AllFit : Env → List LiftedLine → Type 0 where
    none : {e : Env} → AllFit e []
    more : {e f : Env} {line : LiftedLine} {lines : List LiftedLine} → Fits e line f → AllFit f lines → AllFit e (line ∷ lines)
