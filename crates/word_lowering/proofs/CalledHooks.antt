-- The call of a hook stands before what follows, and names variables of its procedure alone.
use Rattle.std.proofs.Common.{inr, ℕ, ◌<◌, ◌≤◌, List, ◌∷◌, length, Bool, true, false, Option, Some, None, refl, arith}
use Rattle.flat_code.specs.declared.line.From.{From}
use Rattle.word_code.specs.declared.word.Test.TheVariants as test
use Rattle.word_code.specs.declared.word.WordInstr.{WordInstr}
use Rattle.word_code.specs.declared.word.WordInstr.TheVariants.{Argument, Branch, Call, Constant, Label}
use Rattle.hook_lifting.specs.declared.lifted.Hook.{Hook}
use Rattle.hook_lifting.specs.declared.lifted.Hook.TheVariants.{Copies, Ends}
use Rattle.hook_code.specs.HookCode.{hook_number}
use Rattle.word_lowering.specs.declared.homes.TheConstants.{FIRST, OWN_FROM, SECOND}
use Rattle.word_lowering.specs.declared.homes.Home.{Home}
use Rattle.word_lowering.specs.declared.homes.Home.TheVariants.{Placed}
use Rattle.word_lowering.specs.declared.homes.Housed.{Housed}
use Rattle.word_lowering.specs.declared.homes.Waiter.{Waiter}
use Rattle.word_lowering.specs.LineCode as code
use Rattle.word_lowering.specs.LineCode.{Around}
use Rattle.word_lowering.specs.Spots.{address, spot_of}
use Rattle.word_lowering.proofs.Fronts.{IsFront, front_address, front_none, front_on, moved_front, cleared_front}
use Rattle.word_lowering.proofs.LayoutBounds.{IsBelow}
use Rattle.word_lowering.proofs.NamedCode.{AllNamed, first_is, second_is}
use Rattle.word_lowering.proofs.NamedCode as named

-- ---- before what follows

module _ (own many : ℕ) (x : Around) where
  pub hook_front : (hook : Hook) (ty : ℕ) (to from : Home) → IsFront own many (code.hook_code x hook ty to from)
  hook_front hook ty to from =
      front_address own many FIRST to (λ k. address SECOND from ∷ handed k) (front_address own many SECOND from handed (record { is = λ k. refl; fine = tt }))
    where
      handed : List WordInstr → List WordInstr
      handed k =
          Argument 0 FIRST ∷ Argument 1 SECOND ∷ Call FIRST (hook_number (code.proc_number (length x.layouts)) hook ty) ∷ k

  pub got_front : (copied blank : Bool) (ty : Option ℕ) (to from : Housed) → IsFront own many (code.got_code x copied blank ty to from)
  got_front true blank (Some ty) to from = hook_front Copies ty to.home from.home
  got_front true true None to from = cleared_front own many to.is_word to.bytes (spot_of to)
  got_front true false None to from = moved_front own many from.is_word from.bytes (spot_of to) (spot_of from)
  got_front false true ty to from = cleared_front own many to.is_word to.bytes (spot_of to)
  got_front false false ty to from = moved_front own many from.is_word from.bytes (spot_of to) (spot_of from)

  pub assigned_front : (hooked : Bool) (row : List WordInstr → List WordInstr) (ty : Option ℕ) (from : List From) → IsFront own many row
      → IsFront own many (code.assigned_code x hooked row ty from)
  assigned_front true row (Some ty) from f =
      hook_front (code.taking from 1) ty (code.operand_at (code.operands x from) 0).home (code.operand_at (code.operands x from) 1).home
  assigned_front true row None from f = f
  assigned_front false row ty from f = f

  pub ends_front : (stands : Bool) (ty : ℕ) (home : Home) → IsFront own many (code.ends_code x stands ty home)
  ends_front true ty home = front_none own many
  ends_front false ty home = hook_front Ends ty home home

  pub waiter_ends_front : 7 < own → (ty : ℕ) (there : Option Waiter) → IsFront own many (code.waiter_ends_code x own ty there)
  waiter_ends_front high ty None = front_none own many
  waiter_ends_front high ty (Some w) =
      front_on own many (λ k. Constant FIRST 0 ∷ Branch test.Equal w.variable FIRST own ∷ k)
      (λ k. code.hook_code x Ends ty (Placed w.at) (Placed w.at) (Label own ∷ Constant w.variable 0 ∷ k))
      (record { is = λ k. refl; fine = (inr high, tt) })
      (front_on own many (code.hook_code x Ends ty (Placed w.at) (Placed w.at)) (λ k. Label own ∷ Constant w.variable 0 ∷ k)
      (hook_front Ends ty (Placed w.at) (Placed w.at)) (record { is = λ k. refl; fine = ((0, omega arith, omega arith), tt) }))

-- ---- variables of the procedure

module _ (vars : ℕ) (many : OWN_FROM ≤ vars) (x : Around) where
  pub hook_named : (hook : Hook) (ty : ℕ) (to from : Home) {k : List WordInstr} → IsBelow vars to → IsBelow vars from → AllNamed vars k
      → AllNamed vars (code.hook_code x hook ty to from k)
  hook_named hook ty to from t f rest =
      named.address vars many FIRST to (first_is vars many) t
      (named.address vars many SECOND from (second_is vars many) f
      (named.argument vars many (omega arith) (first_is vars many)
      (named.argument vars many (omega arith) (second_is vars many) (named.call vars many (first_is vars many) rest))))

  pub got_named : (copied blank : Bool) (ty : Option ℕ) (to from : Housed) {k : List WordInstr} → IsBelow vars to.home → IsBelow vars from.home
      → AllNamed vars k → AllNamed vars (code.got_code x copied blank ty to from k)
  got_named true blank (Some ty) to from t f rest = hook_named Copies ty to.home from.home t f rest
  got_named true true None to from t f rest = named.cleared vars many to.is_word to.bytes (spot_of to) (named.spot_below vars to t) rest
  got_named true false None to from t f rest =
      named.moved vars many from.is_word from.bytes (spot_of to) (spot_of from) (named.spot_below vars to t) (named.spot_below vars from f) rest
  got_named false true ty to from t f rest = named.cleared vars many to.is_word to.bytes (spot_of to) (named.spot_below vars to t) rest
  got_named false false ty to from t f rest =
      named.moved vars many from.is_word from.bytes (spot_of to) (spot_of from) (named.spot_below vars to t) (named.spot_below vars from f) rest

  pub assigned_named : (hooked : Bool) (row : List WordInstr → List WordInstr) (ty : Option ℕ) (from : List From) {k : List WordInstr}
      → IsBelow vars (code.operand_at (code.operands x from) 0).home → IsBelow vars (code.operand_at (code.operands x from) 1).home → AllNamed vars (row k)
      → AllNamed vars k → AllNamed vars (code.assigned_code x hooked row ty from k)
  assigned_named true row (Some ty) from t f by_row rest =
      hook_named (code.taking from 1) ty (code.operand_at (code.operands x from) 0).home (code.operand_at (code.operands x from) 1).home t f rest
  assigned_named true row None from t f by_row rest = by_row
  assigned_named false row ty from t f by_row rest = by_row

  pub ends_named : (stands : Bool) (ty : ℕ) (home : Home) {k : List WordInstr} → IsBelow vars home → AllNamed vars k
      → AllNamed vars (code.ends_code x stands ty home k)
  ends_named true ty home h rest = rest
  ends_named false ty home h rest = hook_named Ends ty home home h h rest

  pub waiter_ends_named : (label ty : ℕ) (w : Waiter) {k : List WordInstr} → w.variable < vars → AllNamed vars k
      → AllNamed vars (code.waiter_ends_code x label ty (Some w) k)
  waiter_ends_named label ty w v rest =
      named.constant vars many (first_is vars many)
      (named.branch vars many v (first_is vars many)
      (hook_named Ends ty (Placed w.at) (Placed w.at) tt tt (named.label vars many (named.constant vars many v rest))))
