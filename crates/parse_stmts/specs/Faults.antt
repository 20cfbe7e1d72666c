-- Where the text of statements can't go on.
--
-- It is read in the order of its tokens. The first that can't go on decides (`Why`): an expression or a written type has a level
-- too many, which names its first token; a block begins where no level is left, which names the block's first token; or another
-- token has to stand there, and where the language leaves out what stands there, a keyword, a pragma or a path of an import, that
-- is said. What was read before it is as the grammar says.
use Rattle.std.specs.Prelude.{◌≡◌, ℕ, zero, suc, ◌<◌, true, false, ◌&&◌, ◌||◌, List, [], ◌∷◌, Some, Option}
use Rattle.arc_base.specs.declared.place.Place.{Place}
use Rattle.indent_scanner.specs.declared.token.Token.{Token}
use Rattle.nim_tree.specs.declared.name.Name.{Name}
use Rattle.nim_tree.specs.declared.stmt.AssignOp.{AssignOp}
use Rattle.nim_tree.specs.declared.stmt.Binding.{Binding}
use Rattle.nim_tree.specs.Terms.{Term, Parts, no_parts, part, levels}
use Rattle.nim_tree.specs.Statements.{Head, Course, Statement, Statements, empty, Branches, no_branches, Handlers, no_handlers}
use Rattle.parse_exprs.specs.declared.layout.Layout.{Layout}
use Rattle.parse_exprs.specs.declared.layout.Layout.TheVariants.{Brackets, Lines}
use Rattle.parse_exprs.specs.Look.{Origin, place_at, stays, colon_at, comma_at, past_colon, dots_at, expr_at, lead_at, name_on, branch_at, is_elif, is_else}
use Rattle.parse_exprs.specs.Look.{is_of, first_of_at, is_punct, operand_on}
use Rattle.parse_exprs.specs.Faults as F
use Rattle.parse_decls.specs.Look.{behind, deeper_at, stands_at, level_at, equals_at}
use Rattle.parse_decls.specs.Outcome.{Why, too_deep, left_out, stuck_at}
use Rattle.parse_decls.specs.Grammar.{IsName, Names}
use Rattle.parse_decls.specs.Faults.{FaultsEach, FaultsListed, FaultsPresent, FaultsName, FaultsNames, of_fault, FaultsTerm, FaultsDefinition}
use Rattle.parse_decls.specs.Faults.{FaultsDefinitionBlock, FaultsDeclarations, FaultsHead}
use Rattle.parse_stmts.specs.declared.look.Lead.TheVariants as L
use Rattle.parse_stmts.specs.declared.look.Simple.{Simple}
use Rattle.parse_stmts.specs.declared.look.Simple.TheVariants as S
use Rattle.parse_stmts.specs.Look.{end_at, on_line_at, ends_at, opens_block, chooses, lead, simple_of, atom_at, assign_on, is_in, is_as, is_except, is_finally}
use Rattle.parse_stmts.specs.Look.{word_on, below_at, path_at, assigned_by, branch_level}
use Rattle.parse_stmts.specs.Alone.{IsAlone, NotAlone}
use Rattle.parse_stmts.specs.Handling.{are_some, Caught, have_some, hold_some}
use Rattle.parse_stmts.specs.Grammar.{IsValue, IsHere, IsCalled, NoCommand, IsModuleName, Binds, IsSimple, IsLabel, MoreLabels, IsCourse, Alias, IsProcedure}
use Rattle.parse_stmts.specs.Grammar.{AreStatements, IsStatement, IsBody, IsBranch, MoreElifs, IsOf, MoreOfs, IsHandler, MoreHandlers, IsFinally}

-- ---- expressions

abbrev pub FaultsValue : Origin → ℕ → Why → List Token → Type 0
FaultsValue x n = FaultsTerm x (Lines n)

-- one on this line
pub data FaultsHere (x : Origin) (n : ℕ) (why : Why) : List Token → Type 0 where
  f_line : {ts : List Token} → stays (Lines n) ts ≡ false → why ≡ stuck_at ts → FaultsHere x n why ts
  f_value : {ts : List Token} → stays (Lines n) ts ≡ true → FaultsValue x n why ts → FaultsHere x n why ts

abbrev pub FaultsOptional : Origin → ℕ → Why → List Token → Type 0
FaultsOptional x n = FaultsPresent (λ ts. stays (Lines n) ts && expr_at x ts) (FaultsValue x n)

-- what may be called, of at most 64 levels
pub record FaultsCalled (x : Origin) (n : ℕ) (why : Why) (ts : List Token) : Type 0 where
  pub fault : F.Fault
  pub is : F.FaultsPrimary x fault (Lines n) true 63 ts
  pub at : why ≡ of_fault ts fault

-- ---- simple statements

-- a path, which is left out, or no name
pub data FaultsModuleName (x : Origin) (i : Layout) (why : Why) : List Token → Type 0 where
  f_path : {ts : List Token} → path_at x i ts ≡ true → why ≡ left_out ts → FaultsModuleName x i why ts
  f_module : {ts : List Token} → path_at x i ts ≡ false → FaultsName (name_on i) why ts → FaultsModuleName x i why ts

abbrev pub FaultsModules : Origin → ℕ → Why → List Token → Type 0
FaultsModules x n = FaultsListed (IsModuleName x (Lines n)) (FaultsModuleName x (Lines n)) (comma_at (Lines n)) behind (IsModuleName x Brackets)
    (FaultsModuleName x Brackets)

-- behind an operand
abbrev pub FaultsOperands : Origin → ℕ → Why → List Token → Type 0
FaultsOperands x n = FaultsEach (comma_at (Lines n)) behind (IsValue x n) (FaultsValue x n)

pub data FaultsPlain (x : Origin) (n : ℕ) (why : Why) : List Token → Type 0 where
  f_callee : {ts : List Token} → atom_at x ts ≡ true → FaultsCalled x n why ts → FaultsPlain x n why ts
  f_operand : {a : Term} {ts mid : List Token} → atom_at x ts ≡ true → IsCalled x n a ts mid → operand_on x (Lines n) mid ≡ true
      → FaultsValue x n why mid
      → FaultsPlain x n why ts
  f_operands : {a b : Term} {ts mid end : List Token} → atom_at x ts ≡ true → IsCalled x n a ts mid → operand_on x (Lines n) mid ≡ true
      → IsValue x n b mid end
      → FaultsOperands x n why end → FaultsPlain x n why ts
  f_expression : {ts : List Token} → NoCommand x n ts → FaultsValue x n why ts → FaultsPlain x n why ts
  f_assigned : {op : AssignOp} {a : Term} {ts mid : List Token} → NoCommand x n ts → IsValue x n a ts mid
      → assigned_by (lead_at ts) (assign_on x n mid) ≡ Some op
      → FaultsHere x n why (behind mid) → FaultsPlain x n why ts

pub data FaultsSimple (x : Origin) (n : ℕ) (why : Why) : List Token → Type 0 where
  f_nothing : why ≡ stuck_at [] → FaultsSimple x n why []
  f_discard : {tok : Token} {ts : List Token} → simple_of tok.kind ≡ S.Discard → FaultsOptional x n why ts → FaultsSimple x n why (tok ∷ ts)
  f_return : {tok : Token} {ts : List Token} → simple_of tok.kind ≡ S.Return → FaultsOptional x n why ts → FaultsSimple x n why (tok ∷ ts)
  f_raise : {tok : Token} {ts : List Token} → simple_of tok.kind ≡ S.Raise → FaultsOptional x n why ts → FaultsSimple x n why (tok ∷ ts)
  f_import : {tok : Token} {ts : List Token} → simple_of tok.kind ≡ S.Import → FaultsModules x n why ts → FaultsSimple x n why (tok ∷ ts)
  f_define : {word : Simple} {binding : Binding} {tok : Token} {ts : List Token} → simple_of tok.kind ≡ word → Binds word binding
      → FaultsDefinition x (Lines n) why ts
      → FaultsSimple x n why (tok ∷ ts)
  f_plain : {tok : Token} {ts : List Token} → simple_of tok.kind ≡ S.Plain → FaultsPlain x n why (tok ∷ ts) → FaultsSimple x n why (tok ∷ ts)

pub data FaultsLine (x : Origin) (n : ℕ) (why : Why) : List Token → Type 0 where
  f_simple : {ts : List Token} → FaultsSimple x n why ts → FaultsLine x n why ts
  f_semicolon : {s : Statement} {ts mid : List Token} → IsSimple x n s ts mid → word_on n (is_punct 59) mid ≡ true
      → stays (Lines n) (behind mid) ≡ false
      → why ≡ stuck_at (behind mid)
      → FaultsLine x n why ts
  f_next_simple : {s : Statement} {ts mid : List Token} → IsSimple x n s ts mid → word_on n (is_punct 59) mid ≡ true
      → stays (Lines n) (behind mid) ≡ true
      → FaultsLine x n why (behind mid)
      → FaultsLine x n why ts

-- ---- parts of statements with blocks

pub data FaultsLabel (x : Origin) (n : ℕ) (why : Why) : List Token → Type 0 where
  f_label : {ts : List Token} → FaultsValue x n why ts → FaultsLabel x n why ts
  f_range : {a : Term} {ts mid : List Token} → IsValue x n a ts mid → dots_at x (Lines n) mid ≡ true → FaultsHere x n why (behind mid)
      → FaultsLabel x n why ts

-- behind a label
abbrev pub FaultsLabels : Origin → ℕ → Why → List Token → Type 0
FaultsLabels x n = FaultsEach (comma_at (Lines n)) behind (IsLabel x n) (FaultsLabel x n)

pub data FaultsCourse (x : Origin) (n : ℕ) (why : Why) : List Token → Type 0 where
  f_from : {ts : List Token} → FaultsHere x n why ts → FaultsCourse x n why ts
  f_up_to : {a : Term} {ts mid : List Token} → IsHere x n a ts mid → dots_at x (Lines n) mid ≡ true → FaultsHere x n why (behind mid)
      → FaultsCourse x n why ts
  f_below : {a : Term} {ts mid : List Token} → IsHere x n a ts mid → dots_at x (Lines n) mid ≡ false → below_at x n mid ≡ true
      → FaultsHere x n why (behind mid)
      → FaultsCourse x n why ts

abbrev pub FaultsAlias : Origin → ℕ → Why → List Token → Type 0
FaultsAlias x n = FaultsPresent (word_on n is_as) (λ why ts. FaultsName (name_on (Lines n)) why (behind ts))

-- ---- statements

mutual
  pub data FaultsStatements (x : Origin) (why : Why) : ℕ → ℕ → List Token → Type 0 where
    f_statement : {n left : ℕ} {ts : List Token} → stands_at n ts ≡ true → FaultsStatement x why n left ts → FaultsStatements x why n left ts
    f_next_statement : {n left : ℕ} {some more : Statements} {ts mid : List Token} → stands_at n ts ≡ true → IsStatement x n left some more ts mid
        → FaultsStatements x why n left mid → FaultsStatements x why n left ts
    -- a line returns to no level, or something stands behind a statement
    f_no_end : {n left : ℕ} {ts : List Token} → stands_at n ts ≡ false → ends_at n ts ≡ false → why ≡ stuck_at ts
        → FaultsStatements x why n left ts

  pub data FaultsStatement (x : Origin) (why : Why) : ℕ → ℕ → List Token → Type 0 where
    f_one_line : {n left : ℕ} {tok : Token} {ts : List Token} → lead n tok ts ≡ L.Line → FaultsLine x n why (tok ∷ ts)
        → FaultsStatement x why n left (tok ∷ ts)
    -- an expression alone on its line has a level too many
    f_alone : {n left : ℕ} {a : Term} {tok : Token} {ts rest : List Token} → chooses (lead n tok ts) ≡ true → IsAlone x n a (tok ∷ ts) rest
        → 64 < levels a
        → why ≡ too_deep (tok ∷ ts) → FaultsStatement x why n left (tok ∷ ts)
    f_choice : {n left : ℕ} {tok : Token} {ts : List Token} → chooses (lead n tok ts) ≡ true → NotAlone x n (tok ∷ ts)
        → FaultsCompound x why n left (tok ∷ ts)
        → FaultsStatement x why n left (tok ∷ ts)
    f_compound : {n left : ℕ} {tok : Token} {ts : List Token} → chooses (lead n tok ts) ≡ false → FaultsCompound x why n left (tok ∷ ts)
        → FaultsStatement x why n left (tok ∷ ts)

  pub data FaultsCompound (x : Origin) (why : Why) : ℕ → ℕ → List Token → Type 0 where
    f_if : {n left : ℕ} {tok : Token} {ts : List Token} → lead n tok ts ≡ L.If → FaultsBranch x why n left ts
        → FaultsCompound x why n left (tok ∷ ts)
    f_elifs : {n left : ℕ} {one : Branches} {tok : Token} {ts mid : List Token} → lead n tok ts ≡ L.If
        → IsBranch x n left no_branches (place_at x tok) one ts mid
        → FaultsElifs x why n left mid → FaultsCompound x why n left (tok ∷ ts)
    f_if_else : {n left : ℕ} {one all : Branches} {tok : Token} {ts mid end : List Token} → lead n tok ts ≡ L.If
        → IsBranch x n left no_branches (place_at x tok) one ts mid
        → MoreElifs x n left one all mid end → FaultsElse x why n left end → FaultsCompound x why n left (tok ∷ ts)
    f_case : {n left : ℕ} {tok : Token} {ts : List Token} → lead n tok ts ≡ L.Case → FaultsHere x n why ts → FaultsCompound x why n left (tok ∷ ts)
    f_branches : {n left : ℕ} {a : Term} {tok : Token} {ts mid : List Token} → lead n tok ts ≡ L.Case → IsHere x n a ts mid
        → FaultsBranches x why n left (past_colon (Lines n) mid) → FaultsCompound x why n left (tok ∷ ts)
    f_while : {n left : ℕ} {tok : Token} {ts : List Token} → lead n tok ts ≡ L.While → FaultsHere x n why ts
        → FaultsCompound x why n left (tok ∷ ts)
    f_while_body : {n left : ℕ} {a : Term} {tok : Token} {ts mid : List Token} → lead n tok ts ≡ L.While → IsHere x n a ts mid
        → FaultsBody x why n left mid
        → FaultsCompound x why n left (tok ∷ ts)
    f_for : {n left : ℕ} {tok : Token} {ts : List Token} → lead n tok ts ≡ L.For → FaultsName (name_on (Lines n)) why ts
        → FaultsCompound x why n left (tok ∷ ts)
    f_no_in : {n left : ℕ} {name : Name} {tok : Token} {ts mid : List Token} → lead n tok ts ≡ L.For → IsName x (Lines n) name ts mid
        → word_on n is_in mid ≡ false
        → why ≡ stuck_at mid → FaultsCompound x why n left (tok ∷ ts)
    f_course : {n left : ℕ} {name : Name} {tok : Token} {ts mid : List Token} → lead n tok ts ≡ L.For → IsName x (Lines n) name ts mid
        → word_on n is_in mid ≡ true
        → FaultsCourse x n why (behind mid) → FaultsCompound x why n left (tok ∷ ts)
    f_for_body : {n left : ℕ} {name : Name} {course : Course} {tok : Token} {ts mid end : List Token} → lead n tok ts ≡ L.For
        → IsName x (Lines n) name ts mid
        → word_on n is_in mid ≡ true → IsCourse x n course (behind mid) end → FaultsBody x why n left end → FaultsCompound x why n left (tok ∷ ts)
    f_try : {n left : ℕ} {tok : Token} {ts : List Token} → lead n tok ts ≡ L.Try → FaultsBody x why n left ts
        → FaultsCompound x why n left (tok ∷ ts)
    f_handlers : {n left : ℕ} {body : Statements} {tok : Token} {ts mid : List Token} → lead n tok ts ≡ L.Try → IsBody x n left body ts mid
        → FaultsHandlers x why n left mid
        → FaultsCompound x why n left (tok ∷ ts)
    f_finally : {n left : ℕ} {body : Statements} {all : Handlers} {tok : Token} {ts mid end : List Token} → lead n tok ts ≡ L.Try
        → IsBody x n left body ts mid
        → MoreHandlers x n left no_handlers all mid end → FaultsFinally x why n left end → FaultsCompound x why n left (tok ∷ ts)
    -- neither a handler nor a `finally`
    f_try_alone : {n left : ℕ} {body last : Statements} {all : Handlers} {tok : Token} {ts mid end rest : List Token} → lead n tok ts ≡ L.Try
        → IsBody x n left body ts mid
        → MoreHandlers x n left no_handlers all mid end → IsFinally x n left last end rest → (have_some all || hold_some last) ≡ false
        → why ≡ stuck_at rest
        → FaultsCompound x why n left (tok ∷ ts)
    f_defer : {n left : ℕ} {tok : Token} {ts : List Token} → lead n tok ts ≡ L.Defer → FaultsBody x why n left ts
        → FaultsCompound x why n left (tok ∷ ts)
    f_head : {n left : ℕ} {tok : Token} {ts : List Token} → lead n tok ts ≡ L.Proc → FaultsHead x (Lines n) why ts
        → FaultsCompound x why n left (tok ∷ ts)
    f_proc_body : {n left : ℕ} {head : Head} {tok : Token} {ts mid : List Token} → lead n tok ts ≡ L.Proc → IsProcedure x n head ts mid
        → equals_at (Lines n) mid ≡ true
        → FaultsBlock x why n left (behind mid) → FaultsCompound x why n left (tok ∷ ts)
    f_types : {n left : ℕ} {tok : Token} {ts : List Token} → lead n tok ts ≡ L.Type → FaultsDeclarations x n why ts
        → FaultsCompound x why n left (tok ∷ ts)
    f_section : {n left : ℕ} {tok : Token} {ts : List Token} → lead n tok ts ≡ L.Section → FaultsDefinitionBlock x n why ts
        → FaultsCompound x why n left (tok ∷ ts)

  -- a colon and a block
  pub data FaultsBody (x : Origin) (why : Why) : ℕ → ℕ → List Token → Type 0 where
    f_no_colon : {n left : ℕ} {ts : List Token} → colon_at (Lines n) ts ≡ false → why ≡ stuck_at ts → FaultsBody x why n left ts
    f_body : {n left : ℕ} {ts : List Token} → colon_at (Lines n) ts ≡ true → FaultsBlock x why n left (behind ts) → FaultsBody x why n left ts

  pub data FaultsBlock (x : Origin) (why : Why) : ℕ → ℕ → List Token → Type 0 where
    f_no_level : {n : ℕ} {ts : List Token} → opens_block x n ts ≡ true → why ≡ too_deep ts → FaultsBlock x why n zero ts
    f_no_start : {n : ℕ} {ts : List Token} → opens_block x n ts ≡ false → why ≡ stuck_at ts → FaultsBlock x why n zero ts
    f_no_block : {n left : ℕ} {ts : List Token} → on_line_at ts ≡ false → deeper_at n ts ≡ false → why ≡ stuck_at ts
        → FaultsBlock x why n (suc left) ts
    f_line_block : {n left : ℕ} {ts : List Token} → on_line_at ts ≡ true → FaultsLine x n why ts → FaultsBlock x why n (suc left) ts
    f_deeper_block : {n left : ℕ} {ts : List Token} → on_line_at ts ≡ false → deeper_at n ts ≡ true → FaultsStatements x why (level_at ts) left ts
        → FaultsBlock x why n (suc left) ts

  -- a condition, a colon and a block
  pub data FaultsBranch (x : Origin) (why : Why) : ℕ → ℕ → List Token → Type 0 where
    f_condition : {n left : ℕ} {ts : List Token} → FaultsHere x n why ts → FaultsBranch x why n left ts
    f_branch_body : {n left : ℕ} {a : Term} {ts mid : List Token} → IsHere x n a ts mid → FaultsBody x why n left mid → FaultsBranch x why n left ts

  pub data FaultsElifs (x : Origin) (why : Why) : ℕ → ℕ → List Token → Type 0 where
    f_elif : {n left : ℕ} {tok : Token} {ts : List Token} → branch_at (Lines n) is_elif (tok ∷ ts) ≡ true → FaultsBranch x why n left ts
        → FaultsElifs x why n left (tok ∷ ts)
    f_next_elif : {n left : ℕ} {some more : Branches} {at : Place} {tok : Token} {ts mid : List Token} → branch_at (Lines n) is_elif (tok ∷ ts) ≡ true
        → IsBranch x n left some at more ts mid → FaultsElifs x why n left mid → FaultsElifs x why n left (tok ∷ ts)

  pub data FaultsElse (x : Origin) (why : Why) : ℕ → ℕ → List Token → Type 0 where
    f_else : {n left : ℕ} {ts : List Token} → branch_at (Lines n) is_else ts ≡ true → FaultsBody x why n left (behind ts) → FaultsElse x why n left ts

  -- the branches of a `case`
  pub data FaultsBranches (x : Origin) (why : Why) : ℕ → ℕ → List Token → Type 0 where
    f_no_of : {n left : ℕ} {ts : List Token} → first_of_at (Lines n) ts ≡ false → why ≡ stuck_at ts → FaultsBranches x why n left ts
    f_ofs : {n left : ℕ} {tok : Token} {ts : List Token} → first_of_at (Lines n) (tok ∷ ts) ≡ true
        → FaultsOfs x why (branch_level n tok.indent) left (tok ∷ ts) → FaultsBranches x why n left (tok ∷ ts)
    f_of_else : {n left : ℕ} {all : Branches} {tok : Token} {ts end : List Token} → first_of_at (Lines n) (tok ∷ ts) ≡ true
        → MoreOfs x (branch_level n tok.indent) left no_branches all (tok ∷ ts) end → FaultsElse x why (branch_level n tok.indent) left end
        → FaultsBranches x why n left (tok ∷ ts)

  -- behind `of`
  pub data FaultsOf (x : Origin) (why : Why) : ℕ → ℕ → List Token → Type 0 where
    f_of_line : {n left : ℕ} {ts : List Token} → stays (Lines n) ts ≡ false → why ≡ stuck_at ts → FaultsOf x why n left ts
    f_of_label : {n left : ℕ} {ts : List Token} → stays (Lines n) ts ≡ true → FaultsLabel x n why ts → FaultsOf x why n left ts
    f_of_labels : {n left : ℕ} {a : Term} {ts mid : List Token} → stays (Lines n) ts ≡ true → IsLabel x n a ts mid → FaultsLabels x n why mid
        → FaultsOf x why n left ts
    f_of_body : {n left : ℕ} {a : Term} {tests : Parts} {ts mid end : List Token} → stays (Lines n) ts ≡ true → IsLabel x n a ts mid
        → MoreLabels x n (part a no_parts) tests mid end → FaultsBody x why n left end → FaultsOf x why n left ts

  pub data FaultsOfs (x : Origin) (why : Why) : ℕ → ℕ → List Token → Type 0 where
    f_of : {n left : ℕ} {tok : Token} {ts : List Token} → branch_at (Lines n) is_of (tok ∷ ts) ≡ true → FaultsOf x why n left ts
        → FaultsOfs x why n left (tok ∷ ts)
    f_next_of : {n left : ℕ} {some more : Branches} {at : Place} {tok : Token} {ts mid : List Token} → branch_at (Lines n) is_of (tok ∷ ts) ≡ true
        → IsOf x n left some at more ts mid → FaultsOfs x why n left mid → FaultsOfs x why n left (tok ∷ ts)

  -- behind `except`
  pub data FaultsHandler (x : Origin) (why : Why) : ℕ → ℕ → List Token → Type 0 where
    f_bare : {n left : ℕ} {ts : List Token} → colon_at (Lines n) ts ≡ true → FaultsBody x why n left ts → FaultsHandler x why n left ts
    f_names : {n left : ℕ} {ts : List Token} → colon_at (Lines n) ts ≡ false → FaultsNames x (Lines n) why ts → FaultsHandler x why n left ts
    f_alias : {n left : ℕ} {names : List Name} {ts a : List Token} → colon_at (Lines n) ts ≡ false → Names x (Lines n) names ts a
        → FaultsAlias x n why a
        → FaultsHandler x why n left ts
    f_handler_body : {n left : ℕ} {names : List Name} {alias : Option Name} {ts a b : List Token} → colon_at (Lines n) ts ≡ false
        → Names x (Lines n) names ts a
        → Alias x n alias a b
        → FaultsBody x why n left b → FaultsHandler x why n left ts

  pub data FaultsHandlers (x : Origin) (why : Why) : ℕ → ℕ → List Token → Type 0 where
    f_handler : {n left : ℕ} {tok : Token} {ts : List Token} → branch_at (Lines n) is_except (tok ∷ ts) ≡ true → FaultsHandler x why n left ts
        → FaultsHandlers x why n left (tok ∷ ts)
    f_next_handler : {n left : ℕ} {one : Caught} {tok : Token} {ts mid : List Token} → branch_at (Lines n) is_except (tok ∷ ts) ≡ true
        → IsHandler x n left one ts mid
        → are_some one.names ≡ true → FaultsHandlers x why n left mid → FaultsHandlers x why n left (tok ∷ ts)

  pub data FaultsFinally (x : Origin) (why : Why) : ℕ → ℕ → List Token → Type 0 where
    f_finally_body : {n left : ℕ} {ts : List Token} → branch_at (Lines n) is_finally ts ≡ true → FaultsBody x why n left (behind ts)
        → FaultsFinally x why n left ts

-- the tokens of a module
pub data FaultsModule (x : Origin) (why : Why) : List Token → Type 0 where
  f_statements : {tokens : List Token} → FaultsStatements x why (level_at tokens) 64 tokens → FaultsModule x why tokens
  -- a line stands behind fewer spaces than the first
  f_rest : {all : Statements} {tokens rest : List Token} → AreStatements x (level_at tokens) 64 empty all tokens rest → end_at rest ≡ false
      → why ≡ stuck_at rest
      → FaultsModule x why tokens
