-- Expressions, values and operands that are right at a place of a program.
use Rattle.std.proofs.Common.{◌≡◌, ℕ, true, List, [], ◌∷◌, Option, Some, refl, sym, ap, subst, ◌∙◌}
use Rattle.std.specs.Prelude.{◌&&◌}
use Rattle.std.proofs.lemmas.Bool.{and_from, and_parts}
use Rattle.arc_base.specs.declared.place.Place.{Place}
use Rattle.nim_types.specs.Types.{Ty}
use Rattle.nim_program.specs.declared.expr.Node.{Node}
use Rattle.nim_program.specs.declared.operation.Operation.{Operation}
use Rattle.nim_program.specs.Program as P
use Rattle.nim_program.specs.Program.{Literal, Act, Doing, Giving, Expr, Path, Args, NoArg, ByValue, ByPath, type_of, type_at, types_in}
use Rattle.nim_program.specs.Kinds.{kind_of, kind_if, is_there, is_held, is_constant}
use Rattle.nim_program.specs.Fitting.{fits, places_in}
use Rattle.nim_program.specs.Scopes.{Here}
use Rattle.nim_program.specs.Program.{is_written}
use Rattle.nim_program.specs.Typed.{is_whole, are_placed, may_take_all, act_fits, is_typed, is_typed_path, are_typed, is_read, is_located}
use Rattle.expr_rules.specs.Answers.{Valued, valued, Operand, value, open_sequence, a_type, the_input, no_elements, exprs_of}
use Rattle.expr_rules.specs.Paths.{path_of}
use Rattle.typing_laws.specs.Sound.{Sound, of_sequence}
use Rattle.typing_laws.specs.Knows.{IfSound}
use Rattle.typing_laws.proofs.Tests.{both, never, some_one}
use Rattle.typing_laws.proofs.SoundKinds.{held}

pub record Right (here : Here) (e : Expr) : Type 0 where
  pub typed : is_typed here e ≡ true
  pub sound : IfSound here.facts (type_of e)

pub record RightValue (here : Here) (v : Valued) : Type 0 where
  pub typed : is_typed here v.expr ≡ true
  pub sound : Sound here.facts v.of
  pub gives : type_of v.expr ≡ Some v.of
  pub written : v.writable ≡ true → is_written (path_of v.expr) ≡ true

abbrev pub RightOperand : Here → Operand → Type 0
RightOperand here (value v) = RightValue here v
RightOperand here (open_sequence at n) = Unit {0}
RightOperand here (a_type ty) = Sound here.facts ty
RightOperand here the_input = Unit {0}

abbrev pub AllRight : Here → List Operand → Type 0
AllRight here [] = Unit {0}
AllRight here (o ∷ rest) = RightOperand here o × AllRight here rest

abbrev pub ValuesRight : Here → List Valued → Type 0
ValuesRight here [] = Unit {0}
ValuesRight here (v ∷ rest) = RightValue here v × ValuesRight here rest

-- ---- nodes

pub doing : (here : Here) (n : Node) (ty : Option Ty) (o : Operation) (operands : Args) → fits here.facts o ty (types_in operands) ≡ true
    → are_placed (places_in o) operands ≡ true → may_take_all here o operands ≡ true → are_typed here operands ≡ true → IfSound here.facts ty
    → Right here (P.Apply n ty (Doing o) operands)
doing here n ty o operands f p m t s =
    record {
      typed = and_from (act_fits here ty (Doing o) operands) (are_typed here operands)
          (and_from (fits here.facts o ty (types_in operands)) (are_placed (places_in o) operands && may_take_all here o operands) f
          (and_from (are_placed (places_in o) operands) (may_take_all here o operands) p m)) t;
      sound = s;
    }

pub giving : (here : Here) (n : Node) (ty : Ty) (l : Literal) → is_constant here.facts ty l ≡ true → Sound here.facts ty
    → Right here (P.Apply n (Some ty) (Giving l) NoArg)
giving here n ty l c s = record { typed = and_from (is_constant here.facts ty l) true c refl; sound = s }

-- one value, and two
pub on_one : (here : Here) (n : Node) (ty : Option Ty) (o : Operation) (v : Valued) → RightValue here v → fits here.facts o ty (Some v.of ∷ []) ≡ true
    → places_in o ≡ 0 → IfSound here.facts ty → Right here (P.Apply n ty (Doing o) (ByValue v.expr NoArg))
on_one here n ty o v h f p s =
    doing here n ty o (ByValue v.expr NoArg) (subst (λ a. fits here.facts o ty (a ∷ []) ≡ true) (sym h.gives) f)
    (ap (λ k. are_placed k (ByValue v.expr NoArg)) p) refl (both h.typed refl) s

pub on_two : (here : Here) (n : Node) (ty : Option Ty) (o : Operation) (v w : Valued) → RightValue here v → RightValue here w
    → fits here.facts o ty (Some v.of ∷ Some w.of ∷ []) ≡ true → places_in o ≡ 0 → IfSound here.facts ty
    → Right here (P.Apply n ty (Doing o) (ByValue v.expr (ByValue w.expr NoArg)))
on_two here n ty o v w h k f p s =
    doing here n ty o (ByValue v.expr (ByValue w.expr NoArg))
    (subst (λ a. fits here.facts o ty (a ∷ type_of w.expr ∷ []) ≡ true) (sym h.gives)
    (subst (λ b. fits here.facts o ty (Some v.of ∷ b ∷ []) ≡ true) (sym k.gives) f)) (ap (λ i. are_placed i (ByValue v.expr (ByValue w.expr NoArg))) p) refl
    (both h.typed (both k.typed refl)) s

-- so many values
pub values_typed : (here : Here) (vs : List Valued) → ValuesRight here vs → are_typed here (exprs_of vs) ≡ true
values_typed here [] h = refl
values_typed here (v ∷ vs) h = both h.0.typed (values_typed here vs h.1)

pub values_placed : (vs : List Valued) → are_placed 0 (exprs_of vs) ≡ true
values_placed [] = refl
values_placed (v ∷ vs) = values_placed vs

pub values_taken : (here : Here) (o : Operation) (vs : List Valued) → may_take_all here o (exprs_of vs) ≡ true
values_taken here o [] = refl
values_taken here o (v ∷ vs) = values_taken here o vs

-- an empty sequence
pub none_right : (here : Here) (at : Place) (n : ℕ) (ty : Ty) → Sound here.facts ty → RightValue here (no_elements at n ty)
none_right here at n ty h = record { typed = refl; sound = of_sequence h; gives = refl; written = λ e. never e }

-- a node as a value that can't be written
pub as_value : (here : Here) (e : Expr) (ty : Ty) → Right here e → type_of e ≡ Some ty → RightValue here (valued e ty)
as_value here e ty h g = record { typed = h.typed; sound = subst (IfSound here.facts) g h.sound; gives = g; written = λ e. never e }

-- ---- paths

pub same_type : (e : Expr) → type_at (path_of e) ≡ type_of e
same_type (P.Apply n ty act operands) = refl
same_type (P.Read path) = refl
same_type (P.Early n ty short a b) = refl
same_type (P.Choose n ty chooser parts) = refl

there_by : {o : Option Ty} {ty : Ty} → o ≡ Some ty → is_there o ≡ true
there_by e = ap is_there e

pub path_typed : (here : Here) (e : Expr) (ty : Ty) → is_typed here e ≡ true → type_of e ≡ Some ty → is_typed_path here (path_of e) ≡ true
path_typed here (P.Apply n t act operands) ty h e = both (there_by e) h
path_typed here (P.Read path) ty h e = (and_parts (is_read here.facts path) (is_typed_path here path) h).1
path_typed here (P.Early n t short a b) ty h e = h
path_typed here (P.Choose n t chooser parts) ty h e = both (there_by e) h

pub path_whole : (here : Here) (e : Expr) (ty : Ty) → is_typed here e ≡ true → type_of e ≡ Some ty → Sound here.facts ty
    → is_whole here.facts (path_of e) ≡ true
path_whole here (P.Apply n t act operands) ty h e s = subst (λ o. is_held (kind_if here.facts o) ≡ true) (sym e) (held s)
path_whole here (P.Read path) ty h e s =
    (and_parts (is_located path) (is_whole here.facts path) (and_parts (is_read here.facts path) (is_typed_path here path) h).0).1
path_whole here (P.Early n t short a b) ty h e s = subst (λ t. is_held (kind_of here.facts t) ≡ true) (sym (some_one e)) (held s)
path_whole here (P.Choose n t chooser parts) ty h e s = subst (λ o. is_held (kind_if here.facts o) ≡ true) (sym e) (held s)

-- of a value, as an operand
pub path_right : (here : Here) (v : Valued) → RightValue here v
    → (type_at (path_of v.expr) ≡ Some v.of) × (is_whole here.facts (path_of v.expr) ≡ true) × (is_typed_path here (path_of v.expr) ≡ true)
path_right here v h = (same_type v.expr ∙ h.gives, path_whole here v.expr v.of h.typed h.gives h.sound, path_typed here v.expr v.of h.typed h.gives)

pub operand_typed : (here : Here) (v : Valued) (rest : Args) → RightValue here v → are_typed here rest ≡ true
    → are_typed here (ByPath (path_of v.expr) rest) ≡ true
operand_typed here v rest h t = let q = path_right here v h in both (both q.1 q.2) t
