-- What lines of expressions name: the line of what is done gives its temporary; and none of them is a label.
use Rattle.std.proofs.Common.{◌≡◌, ℕ, Bool, true, false, List, [], ◌∷◌, ◌++◌, Option, Some, None, refl, sym}
use Rattle.std.proofs.lemmas.Bool.{both_ways}
use Rattle.nim_types.specs.Types.{Ty, Facts}
use Rattle.nim_program.specs.declared.program.Mode.{Mode}
use Rattle.nim_program.specs.Program.{Literal, Number, Characters, NoObject, PartsOf, ElementsOf, Act, Doing, Building, Giving, Calling}
use Rattle.nim_program.specs.Program.{Expr, Apply, Read, Early, Choose, Args, ByValue, Kind, Count}
use Rattle.flat_code.specs.declared.line.From.{From}
use Rattle.flat_code.specs.declared.line.Line.{Line}
use Rattle.flat_code.specs.declared.line.Piece.{Piece}
use Rattle.flat_code.specs.declared.line.Piece.TheVariants as P
use Rattle.flat_code.specs.declared.line.UseAt.{UseAt}
use Rattle.flat_code.specs.Pieces.{pieces_of, pieces_of_all, count_of}
use Rattle.flat_code.specs.Alike.{value_name, location_name, name_of, is_one_text, gives_text}
use Rattle.flat_code.specs.Whole.{label_in, target, back_to}
use Rattle.flattening.specs.ExprLines.{act_line, begin_line}

-- a line that is no label, and leads to none
abbrev pub IsQuiet : Line → Type 0
IsQuiet l = (label_in l ≡ None) × (target l ≡ None) × (back_to l ≡ None)

pub never : {A : Type 0} → false ≡ true → A
never e = absurd (both_ways false refl e)

-- ---- texts that stand in the code

abbrev pub act_text : Act → Bool
act_text (Giving (Characters text)) = true
act_text act = false

abbrev pub is_literal : Expr → Bool
is_literal (Apply node ty act operands) = act_text act
is_literal (Read path) = false
is_literal (Early node ty short left right) = false
is_literal (Choose node ty chooser parts) = false

-- what a loop counts from
abbrev pub CountsFrom : Kind → Args → Type 0
CountsFrom (Count variable inclusive) (ByValue first rest) = is_literal first ≡ false
CountsFrom kind head = Unit {0}

no_text : (pieces : List Piece) (piece : Piece) → is_one_text (piece ∷ []) ≡ false → is_one_text (pieces ++ piece ∷ []) ≡ false
no_text [] piece e = e
no_text (P.Ordinal z ∷ pieces) piece e = refl
no_text (P.Text text ∷ []) piece e = refl
no_text (P.Text text ∷ other ∷ pieces) piece e = refl
no_text (P.Nil ∷ pieces) piece e = refl
no_text (P.Parts n ∷ pieces) piece e = refl
no_text (P.Elements n ∷ pieces) piece e = refl

pub literal_no_text : (literal : Literal) → act_text (Giving literal) ≡ false → is_one_text (pieces_of literal) ≡ false
literal_no_text (Number z) e = refl
literal_no_text (Characters text) e = never (sym e)
literal_no_text NoObject e = refl
literal_no_text (PartsOf all) e = no_text (pieces_of_all all) (P.Parts (count_of all)) refl
literal_no_text (ElementsOf all) e = no_text (pieces_of_all all) (P.Elements (count_of all)) refl

module _ (types : List Ty) (facts : Facts) (modes : (proc position : ℕ) → Mode) where
  pub act_name : (t : ℕ) (act : Act) (how : UseAt) (ty : Option Ty) (of : List (Option Ty)) (from : List From) →
      name_of (act_line types facts modes t act how ty of from) ≡ Some (value_name t)
  act_name t (Doing operation) how ty of from = refl
  act_name t (Building fields) how None of from = refl
  act_name t (Building fields) how (Some ty) of from = refl
  act_name t (Giving literal) how None of from = refl
  act_name t (Giving literal) how (Some ty) of from = refl
  act_name t (Calling proc of_params) how ty of from = refl

  pub act_no_text : (t : ℕ) (act : Act) (how : UseAt) (ty : Option Ty) (of : List (Option Ty)) (from : List From) → act_text act ≡ false →
      gives_text (act_line types facts modes t act how ty of from) ≡ false
  act_no_text t (Doing operation) how ty of from e = refl
  act_no_text t (Building fields) how None of from e = refl
  act_no_text t (Building fields) how (Some ty) of from e = refl
  act_no_text t (Giving literal) how None of from e = literal_no_text literal e
  act_no_text t (Giving literal) how (Some ty) of from e = literal_no_text literal e
  act_no_text t (Calling proc of_params) how ty of from e = refl

  pub plain_act : (t : ℕ) (act : Act) (how : UseAt) (ty : Option Ty) (of : List (Option Ty)) (from : List From) →
      IsQuiet (act_line types facts modes t act how ty of from)
  plain_act t (Doing operation) how ty of from = (refl, refl, refl)
  plain_act t (Building fields) how None of from = (refl, refl, refl)
  plain_act t (Building fields) how (Some ty) of from = (refl, refl, refl)
  plain_act t (Giving literal) how None of from = (refl, refl, refl)
  plain_act t (Giving literal) how (Some ty) of from = (refl, refl, refl)
  plain_act t (Calling proc of_params) how ty of from = (refl, refl, refl)

  pub begin_name : (constant : Option Literal) (value : Expr) (t : ℕ) →
      (name_of (begin_line types facts constant value t) ≡ Some (location_name t)) × IsQuiet (begin_line types facts constant value t)
  begin_name None value t = (refl, (refl, refl, refl))
  begin_name (Some literal) value t = (refl, (refl, refl, refl))
