-- Expressions as a whole: what is shown of constants, objects and operations, put together.
use Rattle.std.proofs.Common.{◌≡◌, sym, subst, ℕ, Bool, true, List, [], ◌∷◌, Option, Some}
use Rattle.nim_types.specs.Types.{Ty}
use Rattle.nim_types.proofs.ForCallers.{the_form}
use Rattle.nim_program.specs.declared.expr.Node.{Node}
use Rattle.nim_program.specs.declared.operation.Use.{Use}
use Rattle.nim_program.specs.Program.{Calling, Literal, Expr, Apply, Path, Args}
use Rattle.nim_program.specs.Uses.{use_of}
use Rattle.nim_program.specs.Typed.{act_fits, is_typed, is_typed_path, are_typed}
use Rattle.nim_program.specs.Kinds.{is_constant}
use Rattle.nim_program.specs.Scopes as scopes
use Rattle.nim_meaning.specs.Values.{literal_value}
use Rattle.nim_meaning.specs.Marks.{Distinct}
use Rattle.nim_meaning.specs.Here.{Here, form_for}
use Rattle.holders.specs.Owned.{Constant, Has}
use Rattle.holders.specs.Territory.{Owner}
use Rattle.holders.specs.Asked.{Limits, Simple, IfSimple, ActAsked, Asked, AskedAt, AllAsked, FactsOfTheirSort}
use Rattle.holders.specs.Evaluating.{value_nodes, path_nodes, operand_nodes, Bare}
use Rattle.holders.specs.Claimed.{ValueSo, AimSo, ReadySo, NoCalls, known_at}
use Rattle.holders.proofs.OperandKinds.{AllRegular}
use Rattle.holders.proofs.GivingLiterals.{TextForm}
use Rattle.holders.proofs.LiteralForms.{literal_has, literal_text}
use Rattle.holders.proofs.TakenSo.{taken_operation_so}
use Rattle.holders.proofs.BuildingRows.{built_so}
use Rattle.holders.proofs.AllOfExpressions.{Elsewhere, value_so, aim_so}

module _ (here : Here) (scope : scopes.Here) (limits : Limits) (root : (global : Bool) → ℕ → ℕ) (first places : ℕ) (os : List Owner)
    (OfCall : ℕ → Args → Type 0) where
  -- calls
  abbrev pub CallsSo : Type 0
  CallsSo = (node : Node) (ty : Option Ty) (proc : ℕ) (types : List Ty) (operands : Args) (how : Use) → IfSimple here.facts ty →
      ActAsked here.facts limits OfCall (Calling proc types) operands → AllAsked here.facts limits OfCall operands → AllRegular here.facts operands →
      act_fits (known_at here scope) ty (Calling proc types) operands ≡ true → are_typed (known_at here scope) operands ≡ true →
      Distinct (node.number ∷ operand_nodes operands) →
      ReadySo here (known_at here scope) limits root first places os (use_of here.modes (Calling proc types)) operands 0 →
      ValueSo here (known_at here scope) limits root first places os (Apply node ty (Calling proc types) operands) how

  pub all_but_calls : FactsOfTheirSort here.facts → CallsSo → Elsewhere here scope limits root first places os OfCall
  all_but_calls sorted calls = record {
    constants = λ ty literal simple e. constant_has ty literal simple e;
    texts = λ ty t simple e. subst TextForm (sym (the_form simple.has)) (literal_text here.facts sorted t simple.has e);
    taken = λ node ty operation operands how takes simple act asked regular typed placed d ready.
        taken_operation_so here known_here limits root first places os OfCall node ty operation operands how takes simple act asked regular typed placed
        d ready;
    built = λ node ty set operands how simple asked regular typed d ready.
        built_so here known_here limits root first places os sorted node ty set operands how simple regular typed d ready;
    called = calls;
  }
    where
      known_here : scopes.Here
      known_here = known_at here scope

      constant_has : (ty : Ty) (literal : Literal) → Simple here.facts ty → is_constant here.facts ty literal ≡ true →
          Bare (form_for here.facts (Some ty)) (literal_value literal)
      constant_has ty literal simple e world =
          subst (λ f. Has world Constant f (literal_value literal) []) (sym (the_form simple.has))
          (literal_has here.facts sorted literal simple.has simple.blocks e world)

-- ---- without calls

module _ (here : Here) (scope : scopes.Here) (limits : Limits) (root : (global : Bool) → ℕ → ℕ) (first places : ℕ) (os : List Owner)
    (sorted : FactsOfTheirSort here.facts) where
  without_calls : Elsewhere here scope limits root first places os NoCalls
  without_calls =
      all_but_calls here scope limits root first places os NoCalls sorted
      (λ node ty proc types operands how simple act asked regular fit typed d ready. absurd act.1.1)

  pub value_comes : (e : Expr) (how : Use) → is_typed (known_at here scope) e ≡ true → Asked here.facts limits NoCalls e → Distinct (value_nodes e) →
      ValueSo here (known_at here scope) limits root first places os e how
  value_comes e how typed asked d = value_so here scope limits root first places os NoCalls without_calls e typed asked d how

  pub path_comes : (path : Path) → is_typed_path (known_at here scope) path ≡ true → AskedAt here.facts limits NoCalls path → Distinct (path_nodes path) →
      AimSo here (known_at here scope) limits root first places os path
  path_comes path typed asked d = aim_so here scope limits root first places os NoCalls without_calls path typed asked d
