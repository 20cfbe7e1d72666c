-- What the stages of the compiler give one another.
use Rattle.std.proofs.Common.{◌≡◌, ◌≢◌, refl, ℕ, zero, suc, List, [], ◌∷◌, true, None, Result, Ok, Err, subst, arith}
use Rattle.std.specs.Prelude.{All, IfOk, IfErr}
use Rattle.std.specs.List.{list_all}
use Rattle.std.proofs.lemmas.Bool.{and_parts}
use Rattle.arc_base.specs.Behaviour.{Sound}
use Rattle.arc_base.specs.Stops.{OnRefusal}
use Rattle.arc_base.specs.declared.place.Stop.{Stop}
use Rattle.arc_base.specs.declared.place.Stop.TheVariants.{Refused, Memory}
use Rattle.arc_base.specs.Refusal.{Refusal, Answers}
use Rattle.indent_scanner.specs.declared.token.Token.{Token}
use Rattle.indent_scanner.specs.Tokens.{Tokens}
use Rattle.indent_scanner.specs.Tokens.{IsRefused as IsRefusedByBytes}
use Rattle.nim_tree.specs.Statements.{Statements}
use Rattle.nim_types.specs.Types as type
use Rattle.nim_types.specs.Types.{Ty, members, Facts}
use Rattle.nim_types.specs.declared.types.TypeDef.{TypeDef}
use Rattle.nim_types.specs.Table.{types_in, facts_in}
use Rattle.nim_plan.specs.declared.plan.Plan.{Plan}
use Rattle.nim_program.specs.declared.program.Program.{Program as RustProgram}
use Rattle.nim_program.specs.Numbering.{is_numbered_program}
use Rattle.nim_program.specs.Program.{Program}
use Rattle.nim_program.specs.Typed.{IsTyped}
use Rattle.nim_meaning.specs.LeftOut.{first_left_out}
use Rattle.nim_meaning.specs.Meaning.{meaning}
use Rattle.parse_stmts.specs.Parsed.{IsRefused}
use Rattle.decl_rules.specs.Elaborated.{Module, elaborated}
use Rattle.decl_rules.specs.Laws.{ProgramsComputed, ReasonsComputed}
use Rattle.decl_rules.specs.ProgramRules.{IsProgram as AreTyped, p_program}
use Rattle.lending_laws.specs.Apart.{AreLentApart}
use Rattle.typing_laws.specs.Sound.{has_bytes, is_said, AreSound}
use Rattle.typing_laws.specs.Trees.{StatementsRead, ModulesRead}
use Rattle.typing_laws.specs.Programs.{IsWholeTable, NodesWithin}
use Rattle.check_decls.specs.Modules.{program_in, types_or, IsWhole}
use Rattle.core_compiler.specs.Compile.{MembersNamed, IsSoundWhereBuilt}
use Rattle.source_compiler.specs.Source.{main_module, IsTree, lone, unlisted, read_program, ReadsAlone, RefusesAlone, by_bytes, by_tokens, by_rules}
use Rattle.source_compiler.specs.Source.{alone, Reads}
use Rattle.source_compiler.specs.Limits.{Limits}
use Rattle.source_compiler.specs.Compile.{AreTurnedDown, by_limits, ReleasesWhereBuilt}
use Rattle.source_compiler.proofs.ReadTokens.{never}
use Rattle.holders.specs.Released.{LeavesNoBlock}

-- ---- what each step says of its refusal

pub refused_bytes : (source : List ℕ) (stop : Stop) → OnRefusal stop (IsRefusedByBytes source 0) → OnRefusal stop (RefusesAlone source)
refused_bytes source (Refused c at) h = by_bytes h
refused_bytes source Memory h = tt

pub refused_tokens : (source : List ℕ) (tokens : List Token) (stop : Stop) → Tokens source tokens → OnRefusal stop (IsRefused (main_module source) tokens)
    → OnRefusal stop (RefusesAlone source)
refused_tokens source tokens (Refused c at) scanned h = by_tokens tokens scanned h
refused_tokens source tokens Memory scanned h = tt

-- ---- what typing says

-- what is a program with a list of types is one without
without_list : (types : List Ty) (all : List Module) (program : Program) → AreTyped types all program → AreTyped [] all (unlisted program)
without_list types all program (p_program none modules text) = p_program none modules text

-- with whatever types where there is no program
abbrev pub IsElaborated : Statements → Result RustProgram Stop → Type 0
IsElaborated tree result = (ts : List Ty) → Answers program_in (elaborated (types_or ts result) (lone tree)) result

abbrev pub TypedLaw : Type 0
TypedLaw = (p : RustProgram) (all : List Module) → AreTyped (types_in p.types) all (program_in p) → ModulesRead all → IsWholeTable p.types
    → NodesWithin all → IsTyped (program_in p) × (is_numbered_program (program_in p) ≡ true)

module _ (source : List ℕ) (tokens : List Token) (tree : Statements) (is : IsTree source tokens tree) where
  pub typing_reads : ProgramsComputed → (result : Result RustProgram Stop) → IsElaborated tree result
      → IfOk result (λ program. ReadsAlone source (read_program program))
  typing_reads computed (Ok p) said = record {
    tokens = tokens;
    tree = tree;
    is_tree = is;
    typed = without_list (types_in p.types) (lone tree) (program_in p) ((computed (types_in p.types) (lone tree) (program_in p)).1 (said []));
  }
  typing_reads computed (Err stop) said = tt

  pub typing_refuses : ReasonsComputed → (result : Result RustProgram Stop) → IsElaborated tree result
      → IfErr result (λ stop. OnRefusal stop (RefusesAlone source))
  typing_refuses computed (Ok program) said = tt
  typing_refuses computed (Err (Refused code at)) said = by_rules tokens tree is ((computed [] (lone tree) code at).1 (said []))
  typing_refuses computed (Err Memory) said = tt

-- what is read is typed
pub typing_typed : TypedLaw → ProgramsComputed → (tree : Statements) → StatementsRead tree → (result : Result RustProgram Stop) → IsElaborated tree result
    → IfOk result (IsWhole (lone tree)) → IfOk result (λ p. IsTyped (program_in p)) × IfOk result (λ p. is_numbered_program (program_in p) ≡ true)
typing_typed law computed tree read (Ok p) said whole =
    law p (lone tree) ((computed (types_in p.types) (lone tree) (program_in p)).1 (said [])) (read, tt)
    (record { table = whole.table; forms = whole.forms; ints = whole.ints }) whole.nodes
typing_typed law computed tree read (Err stop) said whole = (tt, tt)

-- and never wrong
abbrev pub LentLaw : Type 0
LentLaw = (types : List Ty) (all : List Module) (program : Program) → AreTyped types all program → AreLentApart program

abbrev pub OfRuns : (Program → Plan → (heap : ℕ) → (input : List ℕ) → Type 0) → Type 0
OfRuns P = (program : Program) (table : List TypeDef) → program.facts ≡ facts_in table → IsTyped program → is_numbered_program program ≡ true →
    AreLentApart program → first_left_out program ≡ None → (plan : Plan) (heap : ℕ) (input : List ℕ) → P program plan heap input

abbrev pub NeverWrong : Type 0
NeverWrong = OfRuns (λ program plan heap input. Sound (meaning program plan heap input))

pub typing_runs : (P : Program → Plan → (heap : ℕ) → (input : List ℕ) → Type 0) → TypedLaw → LentLaw → OfRuns P → ProgramsComputed → (tree : Statements) →
    StatementsRead tree → (result : Result RustProgram Stop) → IsElaborated tree result → IfOk result (IsWhole (lone tree)) →
    IfOk result (λ p. (plan : Plan) → first_left_out (program_in p) ≡ None → (heap : ℕ) (input : List ℕ) → P (program_in p) plan heap input)
typing_runs P law lent runs computed tree read (Ok p) said whole =
    let is = (computed (types_in p.types) (lone tree) (program_in p)).1 (said []) in
    let typed = typing_typed law computed tree read (Ok p) said whole in
    λ plan built heap input. runs (program_in p) p.types refl typed.0 typed.1 (lent (types_in p.types) (lone tree) (program_in p) is) built plan heap input
typing_runs P law lent runs computed tree read (Err stop) said whole = tt

pub typing_sound : TypedLaw → LentLaw → NeverWrong → ProgramsComputed → (tree : Statements) → StatementsRead tree → (result : Result RustProgram Stop) →
    IsElaborated tree result → IfOk result (IsWhole (lone tree)) → IfOk result (λ p. (plan : Plan) → IsSoundWhereBuilt (program_in p) plan)
typing_sound = typing_runs (λ program plan heap input. Sound (meaning program plan heap input))

-- and leave no block
pub typing_released : TypedLaw → LentLaw → OfRuns LeavesNoBlock → ProgramsComputed → (tree : Statements) → StatementsRead tree →
    (result : Result RustProgram Stop) → IsElaborated tree result → IfOk result (IsWhole (lone tree)) →
    IfOk result (λ p. (plan : Plan) → ReleasesWhereBuilt (program_in p) plan)
typing_released = typing_runs LeavesNoBlock

-- ---- names of members

some_bytes : (name : List ℕ) → has_bytes name ≡ true → name ≢ []
some_bytes [] h e = never h
some_bytes (b ∷ bytes) h e = cc

all_bytes : (names : List (List ℕ)) → list_all has_bytes names ≡ true → All (λ name. name ≢ []) names
all_bytes [] h k d l = absurd (omega (arith, l))
all_bytes (name ∷ names) h zero d l = some_bytes name (and_parts (has_bytes name) (list_all has_bytes names) h).0
all_bytes (name ∷ names) h (suc k) d l = all_bytes names (and_parts (has_bytes name) (list_all has_bytes names) h).1 k d (omega (arith, l))

-- each member of an enum has a name, where what is said of types is sound
members_named : (facts : Facts) → AreSound facts → MembersNamed facts
members_named facts sound = record { names = λ ty all e. by_type ty all (sound.said ty (members all) e) }
  where
    by_type : (ty : Ty) (all : List (List ℕ)) → is_said ty (members all) ≡ true → All (λ name. name ≢ []) all
    by_type (type.enum key) [] h = never h
    by_type (type.enum key) (first ∷ rest) h = all_bytes (first ∷ rest) h
    by_type ty all h = never h

abbrev pub SoundLaw : Type 0
SoundLaw = (p : RustProgram) (all : List Module) → AreTyped (types_in p.types) all (program_in p) → ModulesRead all → IsWholeTable p.types
    → NodesWithin all → AreSound (program_in p).facts

pub typing_named : SoundLaw → ProgramsComputed → (tree : Statements) → StatementsRead tree → (result : Result RustProgram Stop) → IsElaborated tree result
    → IfOk result (IsWhole (lone tree)) → IfOk result (λ p. MembersNamed (program_in p).facts)
typing_named law computed tree read (Ok p) said whole =
    members_named (program_in p).facts
    (law p (lone tree) ((computed (types_in p.types) (lone tree) (program_in p)).1 (said [])) (read, tt)
    (record { table = whole.table; forms = whole.forms; ints = whole.ints }) whole.nodes)
typing_named law computed tree read (Err stop) said whole = tt

-- ---- what can't be compiled

pub limits_down : (T : Type 0) (limits : Limits) (program : Program) (source : List ℕ) → ((name : List ℕ) → Reads (alone name source) program) →
    (of : T → Unit {0}) (stop : Stop) → Answers of (limits program) (Err stop)
    → OnRefusal stop (λ code at. (name : List ℕ) → AreTurnedDown limits (alone name source) code at)
limits_down T limits program source reads of (Refused code at) said = λ name. by_limits program (reads name) said
limits_down T limits program source reads of Memory said = tt

-- what is said under a plan, under one that is equal
pub under_plan : (T : Type 0) (said : Plan → Result (Unit {0}) Refusal) (p q : Plan) (of : T → Unit {0}) (stop : Stop) → p ≡ q →
    Answers of (said p) (Err stop) → Answers of (said q) (Err stop)
under_plan T said p q of stop e h = subst (λ (r : Plan). Answers of (said r) (Err stop)) e h
