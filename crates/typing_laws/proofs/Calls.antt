-- Calls of procedures.
use Rattle.std.proofs.Common.{◌≡◌, ℕ, Bool, true, false, List, [], ◌∷◌, ◌++◌, Option, Some, None, refl, sym, ap, subst, ◌∙◌}
use Rattle.std.specs.Prelude.{nat_eq, if◌then◌else◌}
use Rattle.std.proofs.lemmas.Bool.{and_from, not_from_false}
use Rattle.arc_base.specs.declared.place.Place.{Place}
use Rattle.nim_types.specs.Types as type
use Rattle.nim_types.specs.Types.{Ty, Tys, no_types, types, Facts, same, same_text}
use Rattle.nim_program.specs.declared.operation.Comparison.{Comparison}
use Rattle.nim_program.specs.declared.operation.Operation.TheVariants as O
use Rattle.nim_program.specs.declared.program.Mode.{Mode}
use Rattle.nim_program.specs.declared.program.Mode.TheVariants as M
use Rattle.nim_program.specs.Program.{Expr, Path, Args, Param, Calling}
use Rattle.nim_program.specs.Nodes.{call}
use Rattle.nim_program.specs.Kinds.{is_of, plain_kind, is_shown, is_compared}
use Rattle.nim_program.specs.Scopes.{Here, given, all_given, given_if, is_var, are_taken, call_fits}
use Rattle.nim_program.specs.Typed.{are_typed, act_fits}
use Rattle.expr_rules.specs.Env.{Env, Known, Parameter, Procedure, Entry, variable, constant, named, pending, procedure, input, callable, known_next}
use Rattle.expr_rules.specs.Env.{known_behind, known_as, known, name_in, a_variable, a_constant, procedures}
use Rattle.expr_rules.specs.Env as env_of
use Rattle.expr_rules.specs.Answers.{node, Valued, Operand}
use Rattle.expr_rules.specs.Overloads as V
use Rattle.expr_rules.specs.Overloads.{Fits as FitOperands, fits_none, fits_more, OneFits, this_fits, later_fits, AreArguments, args_none, args_value, args_var}
use Rattle.expr_rules.specs.Meant.{IsBorrowed, borrowed_comparison, borrowed_dollar}
use Rattle.indent_scanner.specs.Words.{normal}
use Rattle.typing_laws.specs.Sound.{Sound, AreSound, of_bool, of_text}
use Rattle.typing_laws.specs.Knows.{IfSound, AllParameters, AreOf, none_of, one_of, IsCalled, IsBorrowedFor, ProcedureFits, EntryFits, EntriesFit, Knows}
use Rattle.typing_laws.proofs.Tests.{both, same_by, is_by, value_by_same}
use Rattle.typing_laws.proofs.SoundKinds.{shown_by, compared_by}
use Rattle.typing_laws.proofs.Right.{Right, RightValue, AllRight, on_one, on_two, path_right, operand_typed}
use Rattle.typing_laws.proofs.Settled.{settled_right}

-- ---- what a name is known as

abbrev pub AllFit : Here → List Procedure → Type 0
AllFit here [] = Unit {0}
AllFit here (p ∷ rest) = ProcedureFits here p × AllFit here rest

abbrev pub KnownFits : Here → Known → Type 0
KnownFits here env_of.unknown = Unit {0}
KnownFits here (a_variable place of writable global) = EntryFits here (variable [] place of writable global)
KnownFits here (a_constant of value) = EntryFits here (constant [] of value)
KnownFits here (env_of.a_type of) = Sound here.facts of
KnownFits here env_of.a_pending_type = Unit {0}
KnownFits here (procedures all) = AllFit here all
KnownFits here env_of.the_input = Unit {0}

module _ (here : Here) where
  pub callable_fits : (k : Known) → KnownFits here k → AllFit here (callable k)
  callable_fits env_of.unknown h = tt
  callable_fits (a_variable place of writable global) h = tt
  callable_fits (a_constant of value) h = tt
  callable_fits (env_of.a_type of) h = tt
  callable_fits env_of.a_pending_type h = tt
  callable_fits (procedures all) h = h
  callable_fits env_of.the_input h = tt

  one_more : (all : List Procedure) (p : Procedure) → AllFit here all → ProcedureFits here p → AllFit here (all ++ p ∷ [])
  one_more [] p h k = (k, tt)
  one_more (q ∷ all) p h k = (h.0, one_more all p h.1 k)

  next_fits : (k : Known) (e : Entry) → KnownFits here k → EntryFits here e → KnownFits here (known_next k e)
  next_fits k (variable name place of writable global) h f = f
  next_fits k (constant name of value) h f = f
  next_fits k (named name of) h f = f
  next_fits k (pending name) h f = tt
  next_fits k (procedure name callee) h f = one_more (callable k) callee (callable_fits k h) f.0
  next_fits k (input name) h f = tt

  behind_fits : (k : Known) (x : List ℕ) (entries : List Entry) → KnownFits here k → EntriesFit here entries → KnownFits here (known_behind k x entries)
  behind_fits k x [] h f = h
  behind_fits k x (e ∷ rest) h f =
      by_test (same_text x (name_in e)) (behind_fits (known_next k e) x rest (next_fits k e h f.0) f.1) (behind_fits k x rest h f.1)
    where
      by_test : (b : Bool) → KnownFits here (known_behind (known_next k e) x rest) → KnownFits here (known_behind k x rest)
          → KnownFits here (known_behind (if b then known_next k e else k) x rest)
      by_test true h f = h
      by_test false h f = f

  pub as_known : (env : Env) (x : List ℕ) → Knows here env → KnownFits here (known_as env x)
  as_known env x knows = behind_fits env_of.unknown x env.entries tt knows.entries

  pub known_fits : (env : Env) (x : List ℕ) → Knows here env → KnownFits here (known env x)
  known_fits env x knows = as_known env (normal x) knows

  -- ---- without types for type parameters

  mutual
    none_given : (t : Ty) → given [] t ≡ t
    none_given type.int = refl
    none_given type.bool = refl
    none_given type.char = refl
    none_given type.text = refl
    none_given (type.sequence t) = ap type.sequence (none_given t)
    none_given (type.array n t) = ap (λ t. type.array n t) (none_given t)
    none_given (type.tuple names ts) = ap (λ ts. type.tuple names ts) (no_more_given ts)
    none_given (type.parameter n) = refl
    none_given (type.enum key) = refl
    none_given (type.object key ts) = ap (λ ts. type.object key ts) (no_more_given ts)
    none_given (type.distinct key) = refl
    none_given (type.ref name t) = ap (λ t. type.ref name t) (none_given t)
    none_given (type.exception key) = refl

    no_more_given : (ts : Tys) → all_given [] ts ≡ ts
    no_more_given no_types = refl
    no_more_given (types t ts) = ap (λ t. types t (all_given [] ts)) (none_given t) ∙ ap (λ ts. types t ts) (no_more_given ts)

  none_given_if : (t : Option Ty) → given_if [] t ≡ t
  none_given_if None = refl
  none_given_if (Some t) = ap (λ t. Some t) (none_given t)

  -- ---- arguments

  -- values of the types of parameters
  abbrev pub GivenRight : List (Parameter × Valued) → Type 0
  GivenRight [] = Unit {0}
  GivenRight (a ∷ rest) = (RightValue here a.1 × (a.1.of ≡ a.0.of)) × GivenRight rest

  pub given_right : {ps : List Parameter} {os : List Operand} {all : List (Parameter × Valued)} → AllParameters (λ q. Sound here.facts q.of) ps
      → AllRight here os → FitOperands ps os all → GivenRight all
  given_right s h fits_none = tt
  given_right s h (fits_more f rest) = (settled_right here s.0 h.0 f, given_right s.1 h.1 rest)

  var_or_not : (m : Mode) → V.is_var m ≡ is_var m
  var_or_not M.Plain = refl
  var_or_not M.Sink = refl
  var_or_not M.Var = refl

  argument_of : (v : Valued) (p : Parameter) (q : Param) → RightValue here v → v.of ≡ p.of → q.place.of ≡ p.of → (Some v.of ≡ Some (given [] q.place.of))
  argument_of v p q h e f = ap (λ t. Some t) (e ∙ sym f ∙ sym (none_given q.place.of))

  of_argument : {s : Option Ty} {t u : Ty} → s ≡ Some t → Some t ≡ Some u → is_of s (Some u) ≡ true
  of_argument {s} {t} {u} e f = is_by e (sym f)

  taken : {before : List Path} {ps : List Parameter} {qs : List Param} {os : List Operand} {all : List (Parameter × Valued)} {args : Args} → AreOf ps qs
      → FitOperands ps os all → GivenRight all → AreArguments before all args → (are_taken [] qs args ≡ true) × (are_typed here args ≡ true)
  taken none_of fits_none h args_none = (refl, refl)
  taken (one_of {p = p} {q = q} e m rest) (fits_more {v = v} f fit) h (args_value {args = args} n more) =
      let r = taken rest fit h.1 more in (
        both (not_from_false (is_var q.mode) (sym (var_or_not q.mode) ∙ ap V.is_var m ∙ n))
            (both (of_argument h.0.0.gives (argument_of v p q h.0.0 h.0.1 e)) r.0),
        both h.0.0.typed r.1,
      )
  taken (one_of {p = p} {q = q} e m rest) (fits_more {v = v} f fit) h (args_var {args = args} n w o more) =
      let r = taken rest fit h.1 more in (
        both (both (sym (var_or_not q.mode) ∙ ap V.is_var m ∙ n) (h.0.0.written w))
            (both (of_argument (path_right here v h.0.0).0 (argument_of v p q h.0.0 h.0.1 e)) r.0),
        operand_typed here v args h.0.0 r.1,
      )

  -- ---- calls

  pub called_right : (n : ℕ) (at : Place) (p : Procedure) {os : List Operand} {all : List (Parameter × Valued)} {args : Args} → IsCalled here p
      → AllParameters (λ q. Sound here.facts q.of) p.params → IfSound here.facts p.gives → AllRight here os → FitOperands p.params os all
      → AreArguments [] all args → Right here (call (node n at) p.gives p.number args)
  called_right n at p {args = args} is s g h f a =
      let t = taken is.params f (given_right s h f) a in
      let ready = both (both is.no_hook is.ready) (ap (nat_eq 0) is.types) in
      let fit : call_fits here (Some is.proc) [] p.gives args ≡ true =
      both ready (both (value_by_same (given_if [] is.proc.gives) p.gives (none_given_if is.proc.gives ∙ is.gives)) t.0) in
      record {
        typed = and_from (act_fits here p.gives (Calling p.number []) args) (are_typed here args)
            (subst (λ o. call_fits here o [] p.gives args ≡ true) (sym is.there) fit) t.1;
        sound = g;
      }

  -- ---- what is borrowed

  pub borrowed_right : AreSound here.facts → (n : ℕ) (at : Place) (p : Procedure) (c : Option Comparison) {os : List Operand}
      {all : List (Parameter × Valued)} {e : Expr} → IsBorrowedFor here.facts p → AllParameters (λ q. Sound here.facts q.of) p.params → AllRight here os
      → FitOperands p.params os all → IsBorrowed n at c all e → Right here e
  borrowed_right sound n at p c is s h f b = by_all is.all (given_right s h f) f b
    where
      by_all : {ps : List Parameter} {os : List Operand} {all : List (Parameter × Valued)} {c : Option Comparison} {e : Expr}
          → AllParameters (λ q. q.of ≡ is.of) ps → GivenRight all → FitOperands ps os all → IsBorrowed n at c all e → Right here e
      by_all of g fits_none b = elim b [ ]
      by_all of g (fits_more f (fits_more k (fits_more l more))) b = elim b [ ]
      by_all of g (fits_more {v = v} f (fits_more {v = w} k fits_none)) (borrowed_comparison {c = c}) =
          let x : is.of ≡ v.of = sym (g.0.1 ∙ of.0) in
          let y : is.of ≡ w.of = sym (g.1.0.1 ∙ of.1.0) in
          on_two here (node n at) (Some type.bool) (O.Compare c) v w g.0.0 g.1.0.0
          (both (same_by (sym x ∙ y)) (subst (λ t. is_compared c (plain_kind here.facts t) ≡ true) x
          (compared_by c (plain_kind here.facts is.of) is.selected))) refl of_bool
      by_all of g (fits_more {v = v} f fits_none) borrowed_dollar =
          let x : is.of ≡ v.of = sym (g.0.1 ∙ of.0) in
          on_one here (node n at) (Some type.text) O.Show v g.0.0
          (subst (λ t. is_shown (plain_kind here.facts t) ≡ true) x (shown_by (plain_kind here.facts is.of) is.selected)) refl of_text

  -- the one that fits is one of those that are known
  pub one_fits : {ps : List Procedure} {os : List Operand} {p : Procedure} {all : List (Parameter × Valued)} → AllFit here ps → OneFits ps os p all
      → ProcedureFits here p × FitOperands p.params os all
  one_fits h (this_fits f none) = (h.0, f)
  one_fits h (later_fits other f) = one_fits h.1 f
