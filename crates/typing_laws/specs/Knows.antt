-- Declarations of the rules that are true of a program, at a place of it.
use Rattle.std.specs.Prelude.{◌≡◌, Bool, true, false, List, [], ◌∷◌, codes, Option, Some, None, slice_get}
use Rattle.nim_types.specs.Types.{Ty, text, Fact, Facts, fact_of}
use Rattle.nim_program.specs.Program.{Param, Proc}
use Rattle.nim_program.specs.Kinds.{is_constant, is_selected, plain_kind}
use Rattle.nim_program.specs.Scopes.{Here, type_in, is_ready, is_no_hook}
use Rattle.expr_rules.specs.Env.{Parameter, Procedure, Entry, variable, constant, named, pending, procedure, input, Env}
use Rattle.typing_laws.specs.Sound.{Sound, AreSound}

abbrev pub IfSound : Facts → Option Ty → Type 0
IfSound facts None = Unit {0}
IfSound facts (Some ty) = Sound facts ty

abbrev pub AllParameters : (Parameter → Type 0) → List Parameter → Type 0
AllParameters holds [] = Unit {0}
AllParameters holds (p ∷ rest) = holds p × AllParameters holds rest

-- the same types and modes
pub data AreOf : List Parameter → List Param → Type 0 where
  none_of : AreOf [] []
  one_of : {p : Parameter} {ps : List Parameter} {q : Param} {qs : List Param} → q.place.of ≡ p.of → q.mode ≡ p.mode → AreOf ps qs → AreOf (p ∷ ps) (q ∷ qs)

-- The procedure of the number has a body, which knows no more globals than have a value here.
pub record IsCalled (here : Here) (p : Procedure) : Type 0 where
  pub proc : Proc
  pub there : slice_get here.procs p.number ≡ Some proc
  pub no_hook : is_no_hook proc.hook ≡ true
  pub ready : is_ready here proc.body ≡ true
  pub types : proc.type_params ≡ 0
  pub gives : proc.gives ≡ p.gives
  pub params : AreOf p.params proc.params

-- What is borrowed takes values of one type, which are shown as those of its base are.
pub record IsBorrowedFor (facts : Facts) (p : Procedure) : Type 0 where
  pub of : Ty
  pub sound : Sound facts of
  pub all : AllParameters (λ q. q.of ≡ of) p.params
  pub selected : is_selected (plain_kind facts of) ≡ true

abbrev pub Fits : Here → (borrowed : Bool) → Procedure → Type 0
Fits here true p = IsBorrowedFor here.facts p
Fits here false p = IsCalled here p

abbrev pub ProcedureFits : Here → Procedure → Type 0
ProcedureFits here p = Fits here p.borrowed p × AllParameters (λ q. Sound here.facts q.of) p.params × IfSound here.facts p.gives

-- What is called `$` gives a text.
abbrev pub EntryFits : Here → Entry → Type 0
EntryFits here (variable name place of writable global) = (type_in here global place ≡ Some of) × Sound here.facts of
EntryFits here (constant name of value) = (is_constant here.facts of value ≡ true) × Sound here.facts of
EntryFits here (named name of) = Sound here.facts of
EntryFits here (pending name) = Unit {0}
EntryFits here (procedure name callee) = ProcedureFits here callee × (name ≡ codes "$" → callee.gives ≡ Some text)
EntryFits here (input name) = Unit {0}

abbrev pub EntriesFit : Here → List Entry → Type 0
EntriesFit here [] = Unit {0}
EntriesFit here (e ∷ rest) = EntryFits here e × EntriesFit here rest

-- each declaration is true there, and what is said of types is said there
pub record Knows (here : Here) (env : Env) : Type 0 where
  pub sound : AreSound here.facts
  pub said : (ty : Ty) (fact : Fact) → fact_of env.facts ty ≡ Some fact → fact_of here.facts ty ≡ Some fact
  pub entries : EntriesFit here env.entries

-- where no more is said of types than under the declarations
abbrev pub with_facts : Here → Facts → Here
with_facts here facts = record here { facts = facts }

-- The declarations are true of the whole program, and of what they know of its types themselves.
pub record KnowsWell (here : Here) (env : Env) : Type 0 where
  pub all : Knows here env
  pub own : Knows (with_facts here env.facts) env
