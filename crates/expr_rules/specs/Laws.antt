-- Statements of the laws of the typing rules.
use Rattle.std.specs.Prelude.{◌≡◌, ◌↔◌, ◌⊎◌, ℕ, suc, ℤ, int_le, true, List, length, Option, Ok}
use Rattle.arc_base.specs.declared.place.Place.{Place}
use Rattle.arc_base.specs.declared.place.Code.{Code}
use Rattle.arc_base.specs.Refusal.{IsRefusal}
use Rattle.nim_tree.specs.Terms.{Term}
use Rattle.nim_types.specs.Types.{Ty, Facts}
use Rattle.nim_program.specs.Program.{Expr, Path, Label, Ordinals}
use Rattle.nim_program.specs.Folds.{nodes}
use Rattle.expr_rules.specs.Env.{Env}
use Rattle.expr_rules.specs.Answers.{Want, typed_as, Operand}
use Rattle.expr_rules.specs.Paths.{can_be_written, overlap}
use Rattle.expr_rules.specs.Names.{is_nothing, call_rule}
use Rattle.expr_rules.specs.Overloads.{Overlap, CanBeWritten}
use Rattle.expr_rules.specs.Meant.{IsUnknown, IsCall, IsNoCall}
use Rattle.expr_rules.specs.Covered.{Meets, HasTwice, AreEnough}
use Rattle.expr_rules.specs.Choices.{has_value, has_any, are_covered, clashes, is_enough}
use Rattle.expr_rules.specs.Rules.{IsTyped}
use Rattle.expr_rules.specs.Refusals.{IsRefused}
use Rattle.expr_rules.specs.Typed.{typed}
use Rattle.expr_rules.specs.Numbers.{Run}

-- some node stands for it
abbrev pub HasNode : Env → Want → ℕ → Term → Type 0
HasNode env want n t = (e : Expr) × (m : ℕ) × IsTyped env want n t e m

-- some code and place say why none does
abbrev pub HasRefusal : Env → Want → ℕ → Term → Type 0
HasRefusal env want n t = (c : Code) × (p : Place) × IsRefused env want n t c p

abbrev pub EachTerm : Type 0
EachTerm = (env : Env) (want : Want) (n : ℕ) (t : Term) → HasNode env want n t ⊎ HasRefusal env want n t

abbrev pub OneNode : Type 0
OneNode = (env : Env) (want : Want) (n m k : ℕ) (t : Term) (e f : Expr) → IsTyped env want n t e m → IsTyped env want n t f k → (f ≡ e) × (k ≡ m)

abbrev pub OneRefusal : Type 0
OneRefusal = (env : Env) (want : Want) (n : ℕ) (t : Term) (c d : Code) (p q : Place) → IsRefused env want n t c p → IsRefused env want n t d q
    → (d ≡ c) × (q ≡ p)

abbrev pub NotBoth : Type 0
NotBoth = (env : Env) (want : Want) (n m : ℕ) (t : Term) (e : Expr) (c : Code) (p : Place) → IsTyped env want n t e m → IsRefused env want n t c p → ⊥

-- the computation gives what the rules say, and refuses what they refuse
abbrev pub NodesComputed : Type 0
NodesComputed = (env : Env) (want : Want) (n m : ℕ) (t : Term) (e : Expr) → IsTyped env want n t e m ↔ (typed env want n t ≡ Ok (typed_as e m))

abbrev pub RefusalsComputed : Type 0
RefusalsComputed = (env : Env) (want : Want) (n : ℕ) (t : Term) (c : Code) (p : Place) → IsRefused env want n t c p ↔ IsRefusal (typed env want n t) c p

-- ---- what labels cover

-- each number from one to another is a value of some label
abbrev pub IsCovered : ℤ → ℤ → List Label → Type 0
IsCovered from to labels = (z : ℤ) → int_le from z ≡ true → int_le z to ≡ true → has_any z labels ≡ true

abbrev pub Covering : Type 0
Covering = (from to : ℤ) (labels : List Label) → (are_covered (suc (length labels)) from to labels ≡ true) ↔ IsCovered from to labels

-- ---- numbers of nodes

-- the nodes of what stands for a term have the numbers from n up to m, in order of text
abbrev pub NumberedSo : Type 0
NumberedSo = (env : Env) (want : Want) (n m : ℕ) (t : Term) (e : Expr) → IsTyped env want n t e m → Run n (nodes e) m

-- ---- what the rules say of calls, arguments and labels

abbrev pub CallsComputed : Type 0
CallsComputed = (env : Env) (n : ℕ) (at : Place) (x : List ℕ) (os : List Operand) (e : Expr)
    → IsCall env n at x os e ↔ (call_rule env n at x os ≡ Ok e)

abbrev pub NoCallsComputed : Type 0
NoCallsComputed = (env : Env) (n : ℕ) (at : Place) (x : List ℕ) (os : List Operand) (c : Code) (p : Place)
    → IsNoCall env n at x os c p ↔ IsRefusal (call_rule env n at x os) c p

abbrev pub OverlapComputed : Type 0
OverlapComputed = (a b : Path) → Overlap a b ↔ (overlap a b ≡ true)

abbrev pub WritingComputed : Type 0
WritingComputed = (env : Env) (t : Term) (e : Expr) → CanBeWritten env t e ↔ (can_be_written env t e ≡ true)

abbrev pub TwiceComputed : Type 0
TwiceComputed = (l : Label) (before : List Label) → HasTwice l before ↔ (clashes l before ≡ true)

-- labels meet exactly where some number is a value of both
abbrev pub MeetingSo : Type 0
MeetingSo = (a b c d : ℤ) → int_le a b ≡ true → int_le c d ≡ true
    → Meets (Ordinals a b) (Ordinals c d) ↔ ((z : ℤ) × (has_value z (Ordinals a b) ≡ true) × (has_value z (Ordinals c d) ≡ true))

abbrev pub EnoughComputed : Type 0
EnoughComputed = (facts : Facts) (ty : Ty) (gives : Option Ty) (labels : List Label)
    → AreEnough facts ty gives labels ↔ (is_enough facts ty gives labels ≡ true)

abbrev pub UnknownComputed : Type 0
UnknownComputed = (env : Env) (x : List ℕ) → IsUnknown env x ↔ (is_nothing env x ≡ true)
