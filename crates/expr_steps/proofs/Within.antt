-- What stands in a table stands in a longer one.
use Rattle.std.proofs.Common.{ℕ, ◌<◌, ◌≤◌, ◌++◌, List, [], ◌∷◌, Option, Some, None, arith}
use Rattle.nim_types.specs.Table.{IsBelow, AllBelow}
use Rattle.expr_steps.specs.declared.asks.Asks.{Asks}
use Rattle.expr_steps.specs.declared.asks.Asks.TheVariants as asks
use Rattle.expr_parts.specs.declared.branching.Branching.{Branching}
use Rattle.expr_parts.specs.declared.branching.Branching.TheVariants as branching
use Rattle.expr_parts.specs.declared.parts.Found.{Found}
use Rattle.expr_parts.specs.declared.scope.What.{What}
use Rattle.expr_parts.specs.declared.value.Value.{Value}
use Rattle.expr_parts.specs.declared.value.Want.{Want}
use Rattle.expr_parts.specs.declared.value.Want.TheVariants as want
use Rattle.expr_parts.specs.declared.value.Operand.{Operand}
use Rattle.expr_parts.specs.declared.value.Operand.TheVariants as operand
use Rattle.expr_parts.specs.View.{OperandWithin, OperandsWithin}
use Rattle.expr_parts.specs.ViewReady.{ValuesWithin, WantWithin, BranchesWithin}
use Rattle.expr_builds.specs.ViewBuilt.{FoundsWithin}
use Rattle.expr_steps.specs.ViewTyping.{AsksWithin}

pub below_more : {n m : ℕ} → n ≤ m → (o : Option ℕ) → IsBelow n o → IsBelow m o
below_more h None b = tt
below_more h (Some i) b = omega (arith, h, b)

pub all_below_more : {n m : ℕ} → n ≤ m → (is : List ℕ) → AllBelow n is → AllBelow m is
all_below_more h [] b = tt
all_below_more h (i ∷ is) b = (let c = b.0 in omega (arith, h, c), all_below_more h is b.1)

pub operand_more : {n m : ℕ} → n ≤ m → (o : Operand) → OperandWithin n o → OperandWithin m o
operand_more h (operand.Value v) b = omega (arith, h, b)
operand_more h (operand.Open at number) b = tt
operand_more h (operand.Type id) b = omega (arith, h, b)
operand_more h operand.Input b = tt

pub operands_more : {n m : ℕ} → n ≤ m → (os : List Operand) → OperandsWithin n os → OperandsWithin m os
operands_more h [] b = tt
operands_more h (o ∷ os) b = (operand_more h o b.0, operands_more h os b.1)

pub operands_and : (n : ℕ) (os : List Operand) (o : Operand) → OperandsWithin n os → OperandWithin n o → OperandsWithin n (os ++ o ∷ [])
operands_and n [] o b c = (c, tt)
operands_and n (x ∷ os) o b c = (b.0, operands_and n os o b.1 c)

pub values_more : {n m : ℕ} → n ≤ m → (vs : List Value) → ValuesWithin n vs → ValuesWithin m vs
values_more h [] b = tt
values_more h (v ∷ vs) b = (let c = b.0 in omega (arith, h, c), values_more h vs b.1)

pub values_and : {n : ℕ} → (vs : List Value) (v : Value) → ValuesWithin n vs → v.ty < n → ValuesWithin n (vs ++ v ∷ [])
values_and [] v b c = (c, tt)
values_and (x ∷ vs) v b c = (b.0, values_and vs v b.1 c)

pub want_more : {n m : ℕ} → n ≤ m → (w : Want) → WantWithin n w → WantWithin m w
want_more h want.Nothing b = tt
want_more h (want.Whole id) b = omega (arith, h, b)
want_more h (want.Inner id) b = omega (arith, h, b)

pub asks_more : {n m : ℕ} → n ≤ m → (left : List ℕ) (a : Asks) → AsksWithin n left a → AsksWithin m left a
asks_more h left asks.Anything b = tt
asks_more h left (asks.Exactly id) b = omega (arith, h, b)
asks_more h left asks.Selector b = tt
asks_more h left asks.Parts b = all_below_more h left b
asks_more h left asks.Fields b = all_below_more h left b
asks_more h left (asks.Elements w ty) b = (want_more h w b.0, below_more h ty b.1)

pub found_more : {n m : ℕ} → n ≤ m → (all : List Found) → FoundsWithin n all → FoundsWithin m all
found_more h [] b = tt
found_more h (f ∷ all) b = (let c = b.0 in omega (arith, h, c), found_more h all b.1)

pub branches_more : {n m : ℕ} → n ≤ m → (b : Branching) → BranchesWithin n b → BranchesWithin m b
branches_more h (branching.Undecided w) b = want_more h w b
branches_more h (branching.Decided w ty) b = (want_more h w b.0, below_more h ty b.1)
