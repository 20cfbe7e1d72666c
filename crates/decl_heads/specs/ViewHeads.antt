-- What the heads of procedures stand for under a list of types, and what is said of calls that declare what they give. Contracts of
-- the pass alone speak of it.
use Rattle.std.specs.Prelude.{◌≡◌, ℕ, suc, ◌+◌, ◌<◌, List, [], ◌∷◌, ◌++◌}
use Rattle.std.specs.Prelude.{length, map, Bool, true, false, Option, None, Some, Ok, slice_get}
use Rattle.std.specs.Prelude.{Result, IfOk, OnOk}
use Rattle.arc_base.specs.declared.place.Place.{Place}
use Rattle.arc_base.specs.declared.place.Code.TheVariants.{Redefined}
use Rattle.arc_base.specs.declared.place.Stop.{Stop}
use Rattle.arc_base.specs.Refusal.{and_then, refused, Answers}
use Rattle.indent_scanner.specs.Words.{normal}
use Rattle.nim_tree.specs.declared.name.Name.{Name}
use Rattle.nim_tree.specs.Types.{Written}
use Rattle.nim_tree.specs.Statements.{Parameters, Head}
use Rattle.nim_types.specs.Types as type
use Rattle.nim_types.specs.Types.{Ty}
use Rattle.nim_types.specs.Table.{type_at, IsBelow}
use Rattle.nim_program.specs.declared.program.Param.{Param}
use Rattle.nim_program.specs.View.{if_type}
use Rattle.expr_rules.specs.Answers.{Answer}
use Rattle.expr_rules.specs.Env.{Env}
use Rattle.expr_parts.specs.declared.scope.Decl.{Decl}
use Rattle.expr_parts.specs.View.{Grown}
use Rattle.decl_rules.specs.State.{State, if_new, is_completed}
use Rattle.decl_rules.specs.Written.{written_type, if_written}
use Rattle.decl_rules.specs.Heads.{Given, mode_of, given_as, is_taken, group_names, with_parameters, parameters_rule, has_result, Signature, Headed}
use Rattle.decl_parts.specs.declared.state.State.{State as RustState}
use Rattle.decl_parts.specs.View.{Beside, Over, state_of, Ready}
use Rattle.decl_heads.specs.declared.signature.Signature.{Signature as RustSignature}
use Rattle.decl_heads.specs.declared.heads.Headed.{Headed as RustHeaded}
use Rattle.decl_heads.specs.declared.completion.Completion.{Completion}
use Rattle.decl_heads.specs.declared.completion.Completion.TheVariants as completion

-- ---- parameters

abbrev pub given_of : List Ty → Param → Given
given_of ts p = record { name = record { at = p.place.at; text = p.place.name }; mode = p.mode; of = type_at ts p.place.ty }

abbrev pub GivenWithin : ℕ → List Param → Type 0
GivenWithin n [] = Unit {0}
GivenWithin n (p ∷ rest) = (p.place.ty < n) × GivenWithin n rest

-- their places follow one another
abbrev pub AreNumbered : ℕ → List Param → Type 0
AreNumbered n [] = Unit {0}
AreNumbered n (p ∷ rest) = (p.place.number ≡ n) × AreNumbered (suc n) rest

-- a name of a group, behind others
abbrev pub group_name : State → Bool → List (List ℕ) → Name → Answer (Unit {0})
group_name st result before x = if_new (is_taken st result before (normal x.text)) x.at

-- parameters, and the state behind them
pub record Opening : Type 0 where
  pub params : List Given
  pub state : State

abbrev pub opening_as : List Given → State → Opening
opening_as params st = record { params = params; state = st }

abbrev pub opening : State → List Given → Opening
opening st params = opening_as params (with_parameters st params)

abbrev pub opened_as : List Ty → Beside → RustState → List Param → Opening
opened_as ts b st all = opening_as (map (given_of ts) all) (state_of ts b st)

abbrev pub group_typed : State → Parameters → Answer Opening
group_typed st g = and_then (written_type st.env g.of) (λ ty. Ok (opening st (given_as g.names (mode_of g.mode) ty)))

abbrev pub group_rule : State → Bool → Parameters → Answer Opening
group_rule st result g = and_then (group_names st result [] g.names) (λ _. group_typed st g)

abbrev pub opening_rule : State → Bool → List Parameters → Answer Opening
opening_rule st result all = and_then (parameters_rule st result all) (λ params. Ok (opening st params))

-- those of a group, before others
abbrev pub and_opening : Opening → Opening → Opening
and_opening first rest = opening_as (first.params ++ rest.params) rest.state

-- ---- what is declared

-- where nothing was refused: types and declarations were added, and places counted on
pub record Extends (old new : RustState) : Type 0 where
  pub begins : (more : List Decl) × (new.scope.decls ≡ old.scope.decls ++ more)
  pub frame : new ≡ record old { types = new.types; scope = record old.scope { decls = new.scope.decls }; place = new.place }
  pub ready : Ready new

-- what a call says that declares what is known
pub record Declares (old new : RustState) (said : List Ty → State → State) : Type 0 where
  pub extends : Ready old → Extends old new
  pub view : (ts : List Ty) (b : Beside) → state_of ts b new ≡ said ts (state_of ts b old)

-- What a call says that declares parameters, whose places are the next ones.
pub record Opens {T : Type 0} (old new : RustState) (of : T → List Param) (said : List Ty → State → Answer Opening) (result : Result T Stop)
    : Type 0 where
  pub grown : Grown old.types new.types
  pub extends : OnOk result (Extends old new)
  pub answers : (ts : List Ty) (b : Beside) → Over new ts
      → Answers (λ x. opened_as ts b new (of x)) (said ts (state_of ts b old)) result
  pub fits : IfOk result (λ x. GivenWithin (length new.types) (of x))
  pub numbered : IfOk result (λ x. AreNumbered old.place (of x))
  pub place : IfOk result (λ x. new.place ≡ old.place + length (of x))

-- ---- signatures

abbrev pub signature_of : List Ty → RustSignature → Signature
signature_of ts s = record { params = map (given_of ts) s.params; gives = if_type ts s.gives }

pub record SignatureWithin (n : ℕ) (s : RustSignature) : Type 0 where
  pub params : GivenWithin n s.params
  pub gives : IsBelow n s.gives

abbrev pub signature_as : List Given → Option Ty → Signature
signature_as params gives = record { params = params; gives = gives }

-- with the type of the result, behind parameters
abbrev pub with_gives : Env → Option Written → List Given → Answer Signature
with_gives env written params = and_then (if_written env written) (λ gives. Ok (signature_as params gives))

-- in a scope that has been entered
abbrev pub signature_inside : State → Head → Answer Signature
signature_inside st h =
    and_then (opening_rule st (has_result h.gives) h.params) (λ o. with_gives o.state.env h.gives o.params)

-- ---- the procedure that a head is of

abbrev pub holds_at : Option Bool → Bool
holds_at None = false
holds_at (Some b) = b

-- how many procedures there are, and which of them have their body
pub record AreCompleted (completed : List Bool) (b : Beside) : Type 0 where
  pub count : length completed ≡ length b.procs
  pub each : (p : ℕ) → is_completed p b.text ≡ holds_at (slice_get completed p)

-- what a further declaration completes
abbrev pub completed_by : Place → Completion → Answer (Option ℕ)
completed_by at completion.Nothing = Ok None
completed_by at (completion.Of number) = Ok (Some number)
completed_by at completion.Never = refused Redefined at

abbrev pub is_bool_type : Option Ty → Bool
is_bool_type (Some type.bool) = true
is_bool_type _ = false

abbrev pub headed_of : List Ty → RustSignature → RustHeaded → Headed
headed_of ts s k = record { signature = signature_of ts s; number = k.number; is_new = k.is_new; borrowed = k.borrowed }
