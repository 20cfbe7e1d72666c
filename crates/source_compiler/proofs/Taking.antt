-- What a command takes of typed programs: a main module is taken or refused, with one code at one place, and never both.
use Rattle.std.proofs.Common.{◌≡◌, ◌≤◌, ◌<◌, ◌⊎◌, inl, inr, ℕ, List, length, Result, Ok, Err, refl, sym, ap, subst, ◌∙◌, arith}
use Rattle.std.specs.Prelude.{IfErr}
use Rattle.arc_base.specs.declared.place.Place.{Place}
use Rattle.arc_base.specs.declared.place.Code.{Code}
use Rattle.arc_base.specs.declared.place.Stop.{Stop}
use Rattle.arc_base.specs.declared.place.Stop.TheVariants.{Refused, Memory}
use Rattle.arc_base.specs.Stops.{OnRefusal}
use Rattle.arc_base.specs.Refusal.{Refusal, IsRefusal}
use Rattle.nim_plan.specs.declared.plan.Plan.{Plan}
use Rattle.nim_program.specs.Program.{Program}
use Rattle.plain_plan.specs.Plain.{plain_plan}
use Rattle.source_compiler.specs.declared.compiler.NotCompiled.{NotCompiled}
use Rattle.source_compiler.specs.declared.compiler.NotCompiled.TheVariants as why
use Rattle.source_compiler.specs.Source.{Module, alone, unlisted, RefusesAlone, Reads, Refuses}
use Rattle.core_compiler.specs.Compile.{HasCodeWhereWithin, UnlessMemory}
use Rattle.source_compiler.specs.Limits.{Limits, no_limits}
use Rattle.source_compiler.specs.Compile.{IsProgram, AreTurnedDown, by_reading, by_limits, IsNoProgram, source_most, IsStop, IsOkOrMemory, OnTooLong, OnRefused}
use Rattle.source_compiler.specs.Compile.{HaveCodeWhereWithin, WhereDecided}
use Rattle.source_compiler.proofs.Unlisted.{within_same}
use Rattle.source_compiler.proofs.Reading.{Rules, reads_only, read_not_refused, refuses_once, refuses_alone}

-- ---- taken, or refused

abbrev pub IsReadOrRefused : List Module → Type 0
IsReadOrRefused modules = ((program : Program) × Reads modules program) ⊎ ((code : Code) × (at : Place) × Refuses modules code at)

abbrev pub IsTakenOrRefused : Limits → (name source : List ℕ) → Type 0
IsTakenOrRefused limits name source = IsProgram limits name source ⊎ ((code : Code) × (at : Place) × IsNoProgram limits name source code at)

by_answer : (limits : Limits) (name source : List ℕ) → length source ≤ source_most → (program : Program) → Reads (alone name source) program
    → (result : Result (Unit {0}) Refusal) → limits program ≡ result → IsTakenOrRefused limits name source
by_answer limits name source within program reads (Ok u) e = inl (record { within = within; program = program; reads = reads; taken = e })
by_answer limits name source within program reads (Err refusal) e =
    inr (refusal.code, refusal.at, record { within = within; refused = by_limits program reads e })

pub taken_or_refused : (limits : Limits) (name source : List ℕ) → length source ≤ source_most → IsReadOrRefused (alone name source)
    → IsTakenOrRefused limits name source
taken_or_refused limits name source within (inl read) = by_answer limits name source within read.0 read.1 (limits read.0) refl
taken_or_refused limits name source within (inr refused) = inr (refused.0, refused.1, record { within = within; refused = by_reading refused.2 })

-- ---- never both, and one refusal

not_both : {A B : Type 0} (of : A → Result B Refusal) (x : B) (refusal : Refusal) (a b : A) → a ≡ b → of a ≡ Ok x → of b ≡ Err refusal → ⊥
not_both of x refusal a b e f g = cc

refusal_same : {A : Type 0} (x y : Refusal) → ◌≡◌ {A = Result A Refusal} (Err x) (Err y) → x ≡ y
refusal_same x y e = cc

same_refusal : {A B : Type 0} (of : A → Result B Refusal) (c d : Code) (p q : Place) {a b : A} → a ≡ b → IsRefusal (of a) c p → IsRefusal (of b) d q
    → (c ≡ d) × (p ≡ q)
same_refusal of c d p q e r s = let k = refusal_same _ _ (sym r ∙ ap of e ∙ s) in (ap (λ x. x.code) k, ap (λ x. x.at) k)

module _ (rules : Rules) (limits : Limits) (name source : List ℕ) where
  taken_not_down : (c : Code) (at : Place) → IsProgram limits name source → AreTurnedDown limits (alone name source) c at → ⊥
  taken_not_down c at is (by_reading refused) = read_not_refused rules (alone name source) is.program c at is.reads refused
  taken_not_down c at is (by_limits program reads refused) =
      not_both limits tt _ is.program program (sym (reads_only rules (alone name source) is.program program is.reads reads)) is.taken refused

  pub taken_not_refused : (c : Code) (at : Place) → IsProgram limits name source → IsNoProgram limits name source c at → ⊥
  taken_not_refused c at is none = taken_not_down c at is none.refused

  down_once : (c d : Code) (p q : Place) → AreTurnedDown limits (alone name source) c p → AreTurnedDown limits (alone name source) d q → (c ≡ d) × (p ≡ q)
  down_once c d p q (by_reading r) (by_reading s) = refuses_once rules (alone name source) c d p q r s
  down_once c d p q (by_reading r) (by_limits program reads s) = absurd (read_not_refused rules (alone name source) program c p reads r)
  down_once c d p q (by_limits program reads r) (by_reading s) = absurd (read_not_refused rules (alone name source) program d q reads s)
  down_once c d p q (by_limits program reads r) (by_limits other again s) =
      same_refusal limits c d p q (sym (reads_only rules (alone name source) program other reads again)) r s

  pub no_program_once : (c d : Code) (p q : Place) → IsNoProgram limits name source c p → IsNoProgram limits name source d q → (c ≡ d) × (p ≡ q)
  no_program_once c d p q r s = down_once c d p q r.refused s.refused

-- ---- what calls answer

-- what is said where a call was refused
abbrev pub IsSaid : NotCompiled → Limits → List ℕ → Type 0
IsSaid e limits source = OnRefused e (λ code at. (name : List ℕ) → IsNoProgram limits name source code at)

abbrev pub NotBothLaw : Type 0
NotBothLaw = (limits : Limits) (name source : List ℕ) (c : Code) (at : Place) → IsProgram limits name source → IsNoProgram limits name source c at → ⊥

-- where a source can't be refused, it was taken, or memory was wanting
pub never_refused : {T : Type 0} (result : Result T NotCompiled) (limits : Limits) (name source : List ℕ) → NotBothLaw
    → IfErr result (λ e. OnTooLong e (source_most < length source)) → IfErr result (λ e. IsSaid e limits source)
    → IsProgram limits name source → IsOkOrMemory result
never_refused (Ok x) limits name source law long said is = tt
never_refused (Err why.TooLong) limits name source law long said is = let far : source_most < length source = long in absurd (omega (arith, far, is.within))
never_refused (Err (why.Refused code at)) limits name source law long said is = absurd (law limits name source code at is (said name))
never_refused (Err why.Memory) limits name source law long said is = tt

-- a stop of a stage, as the compiler says it
pub turned_down : (source : List ℕ) (e : NotCompiled) (stop : Stop) → length source ≤ source_most → IsStop stop e
    → OnRefusal stop (λ code at. (limits : Limits) (name : List ℕ) → AreTurnedDown limits (alone name source) code at)
    → OnRefused e (λ code at. (limits : Limits) (name : List ℕ) → IsNoProgram limits name source code at)
turned_down source e (Refused c at) within told h =
    subst (λ e. OnRefused e (λ code at. (limits : Limits) (name : List ℕ) → IsNoProgram limits name source code at)) (sym told)
    (λ limits name. record { within = within; refused = h limits name })
turned_down source e Memory within told h =
    subst (λ e. OnRefused e (λ code at. (limits : Limits) (name : List ℕ) → IsNoProgram limits name source code at)) (sym told) tt

pub down_by_limits : (limits : Limits) (source : List ℕ) (e : NotCompiled) (stop : Stop) → length source ≤ source_most → IsStop stop e
    → OnRefusal stop (λ code at. (name : List ℕ) → AreTurnedDown limits (alone name source) code at) → IsSaid e limits source
down_by_limits limits source e (Refused c at) within told h =
    subst (λ e. IsSaid e limits source) (sym told) (λ name. record { within = within; refused = h name })
down_by_limits limits source e Memory within told h = subst (λ e. IsSaid e limits source) (sym told) tt

pub no_long : (source : List ℕ) (e : NotCompiled) (stop : Stop) → IsStop stop e → OnTooLong e (source_most < length source)
no_long source e (Refused c at) told = subst (λ e. OnTooLong e (source_most < length source)) (sym told) tt
no_long source e Memory told = subst (λ e. OnTooLong e (source_most < length source)) (sym told) tt

-- what no limits matter for
pub for_limits : (limits : Limits) (source : List ℕ) (e : NotCompiled)
    → OnRefused e (λ code at. (limits : Limits) (name : List ℕ) → IsNoProgram limits name source code at) → IsSaid e limits source
for_limits limits source why.TooLong h = tt
for_limits limits source (why.Refused code at) h = h limits
for_limits limits source why.Memory h = tt

-- a refusal of the source alone
pub down_by_reading : (source : List ℕ) (stop : Stop) → OnRefusal stop (RefusesAlone source)
    → OnRefusal stop (λ code at. (limits : Limits) (name : List ℕ) → AreTurnedDown limits (alone name source) code at)
down_by_reading source (Refused c at) h = λ limits name. by_reading (refuses_alone name source c at h)
down_by_reading source Memory h = tt

-- ---- code

abbrev pub OnlyLaw : Type 0
OnlyLaw = (modules : List Module) (p q : Program) → Reads modules p → Reads modules q → p ≡ q

-- what is refused whatever the limits are is no program, so that nothing is said of its code
pub unread : NotBothLaw → (source : List ℕ) (code : Code) (at : Place)
    → ((limits : Limits) (name : List ℕ) → IsNoProgram limits name source code at) → (name : List ℕ) (bytes : ℕ)
    → HaveCodeWhereWithin (alone name source) bytes
unread law source code at down name bytes = λ program reads. absurd (law no_limits name source code at
    (record { within = (down no_limits name).within; program = program; reads = reads; taken = refl }) (down no_limits name))

-- the code of the one program that the module is
pub code_read : OnlyLaw → (name source : List ℕ) (program : Program) (bytes : ℕ) → Reads (alone name source) program
    → HasCodeWhereWithin program (plain_plan program) bytes → HaveCodeWhereWithin (alone name source) bytes
code_read law name source program bytes reads has = λ other r.
    subst (λ p. HasCodeWhereWithin p (plain_plan p) bytes) (law (alone name source) program other reads r) has

abbrev pub SaysCode : (T : Type 0) → NotCompiled → (bytes : ℕ) → List ℕ → Type 0
SaysCode T e bytes source = WhereDecided {T = T} (Err e) ((name : List ℕ) → HaveCodeWhereWithin (alone name source) bytes)

pub unread_code : (T : Type 0) → NotBothLaw → (source : List ℕ) (e : NotCompiled)
    → OnRefused e (λ code at. (limits : Limits) (name : List ℕ) → IsNoProgram limits name source code at) → (bytes : ℕ) → SaysCode T e bytes source
unread_code T law source why.TooLong h bytes = tt
unread_code T law source (why.Refused code at) h bytes = λ name. unread law source code at h name bytes
unread_code T law source why.Memory h bytes = tt

pub stopped_code : (T U : Type 0) → OnlyLaw → (source : List ℕ) (program : Program) (plan : Plan) (bytes : ℕ) → plan ≡ plain_plan (unlisted program)
    → ((name : List ℕ) → Reads (alone name source) (unlisted program)) → (e : NotCompiled) (stop : Stop) → IsStop stop e
    → UnlessMemory {T = U} (Err stop) (HasCodeWhereWithin program plan bytes) → SaysCode T e bytes source
stopped_code T U law source program plan bytes plain reads e (Refused c at) told has =
    let same = within_same program (plain_plan (unlisted program)) (subst (λ (p : Plan). HasCodeWhereWithin program p bytes) plain has) in
    subst (λ e. SaysCode T e bytes source) (sym told) (λ name. code_read law name source (unlisted program) bytes (reads name) same)
stopped_code T U law source program plan bytes plain reads e Memory told has = subst (λ e. SaysCode T e bytes source) (sym told) tt
