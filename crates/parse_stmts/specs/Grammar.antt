-- The grammar of statements.
--
--     module  = { stmt }
--     stmt    = line | compound
--     line    = simple { ';' simple }
--     block   = line | { stmt }
--     simple  = 'discard' [ expr ] | 'return' [ expr ] | 'raise' [ expr ] | 'break' | 'continue' | 'import' name { ',' name }
--             | ('let' | 'var' | 'const') def | expr [ asgn expr ] | primary expr { ',' expr }
--     asgn    = '=' | '+=' | '-=' | '*=' | '&='
--     if      = 'if' expr ':' block { 'elif' expr ':' block } [ 'else' ':' block ]
--     case    = 'case' expr [ ':' ] of { of } [ 'else' ':' block ]
--     of      = 'of' label { ',' label } ':' block
--     label   = expr [ '..' expr ]
--     while   = 'while' expr ':' block
--     for     = 'for' name 'in' expr [ ('..' | '..<') expr ] ':' block
--     try     = 'try' ':' block { 'except' [ name { ',' name } [ 'as' name ] ] ':' block } [ 'finally' ':' block ]
--     defer   = 'defer' ':' block
--     proc    = 'proc' head [ '=' block ]
--     section = ('let' | 'var' | 'const') { def } | 'type' ( tdef | { tdef } )
--
-- Each relation says: these tokens begin with that, and these are the tokens behind it. A statement stands behind n spaces.
-- A block is a line on the line of its colon (or `=`), or begins on the next line behind more spaces than n, and each of its
-- statements begins a line behind the same number; it ends where a line stands behind fewer, or the source ends. The words
-- `elif`, `else`, `of`, `except` and `finally` begin a line behind n spaces, or follow on the line of their own statement; the
-- first `of` may stand deeper, and sets the number for those that follow.
--
-- What can go on goes on: where a repetition or an optional part ends, the token that would begin more of it doesn't stand.
-- A relation with two trees of one sort has first what stands before these tokens, and then that and what they are.
--
-- An `if` or `case` that begins a line as a statement is an expression where it can be read as one that is alone on its line, and
-- has blocks else.
--
-- Each expression and each written type has at most 64 levels. `left` is the number of levels of blocks that are left, of which
-- each block takes one.
use Rattle.std.specs.Prelude.{◌≡◌, ℕ, suc, ◌≤◌, true, false, ◌&&◌, ◌||◌, List, [], ◌∷◌, ◌++◌, Option, Some, None}
use Rattle.arc_base.specs.declared.place.Place.{Place}
use Rattle.indent_scanner.specs.declared.token.Token.{Token}
use Rattle.nim_tree.specs.declared.name.Name.{Name}
use Rattle.nim_tree.specs.declared.stmt.AssignOp.{AssignOp}
use Rattle.nim_tree.specs.declared.stmt.Binding.{Binding}
use Rattle.nim_tree.specs.declared.stmt.Binding.TheVariants as B
use Rattle.nim_tree.specs.Lists.{highest}
use Rattle.nim_tree.specs.Terms.{Term, range, Parts, no_parts, part, and_part, place_of, levels}
use Rattle.nim_tree.specs.Types.{Declaration, declaration_levels}
use Rattle.nim_tree.specs.Statements.{Definition, definition_levels, Head, head_type_levels, Course, each, up_to, below, Statement, discards, returns, raises}
use Rattle.nim_tree.specs.Statements.{breaks, continues, imports, evaluates, assigns, commands, defines, types, repeats, counts, tries, defers, proclaims}
use Rattle.nim_tree.specs.Statements.{branches, selects, Statements, empty, and_statement, Branches, no_branches, and_branch, Handlers, no_handlers}
use Rattle.parse_exprs.specs.declared.layout.Layout.{Layout}
use Rattle.parse_exprs.specs.declared.layout.Layout.TheVariants.{Brackets, Lines}
use Rattle.parse_exprs.specs.Look.{Origin, place_at, stays, colon_at, comma_at, past_colon, dots_at, expr_at, lead_at, branch_at, is_elif, is_else, is_of}
use Rattle.parse_exprs.specs.Look.{first_of_at, is_punct, operand_on}
use Rattle.parse_exprs.specs.Grammar.{IsCallee}
use Rattle.parse_decls.specs.Look.{behind, deeper_at, stands_at, level_at, equals_at}
use Rattle.parse_decls.specs.Grammar.{Maybe, IsName, Names, IsDefinitionBlock, IsDeclarations, IsHead}
use Rattle.parse_decls.specs.Faults.{Short, ShortTerm, ShortDefinition}
use Rattle.parse_stmts.specs.declared.look.Lead.TheVariants as L
use Rattle.parse_stmts.specs.declared.look.Simple.{Simple}
use Rattle.parse_stmts.specs.declared.look.Simple.TheVariants as S
use Rattle.parse_stmts.specs.Look.{end_at, on_line_at, ends_at, chooses, lead, simple_of, atom_at, assign_on, is_in, is_as, is_except, is_finally, word_on}
use Rattle.parse_stmts.specs.Look.{below_at, path_at, assigned_by, branch_level, binding_of}
use Rattle.parse_stmts.specs.Alone.{IsAlone, NotAlone}
use Rattle.parse_stmts.specs.Handling.{are_some, Caught, and_caught, have_some, hold_some}

-- ---- expressions

-- an expression
abbrev pub IsValue : Origin → ℕ → Term → List Token → List Token → Type 0
IsValue x n = ShortTerm x (Lines n)

-- one that begins on this line
pub record IsHere (x : Origin) (n : ℕ) (a : Term) (ts rest : List Token) : Type 0 where
  pub here : stays (Lines n) ts ≡ true
  pub value : IsValue x n a ts rest

-- one on this line, where there is one
abbrev pub Optional : Origin → ℕ → Option Term → List Token → List Token → Type 0
Optional x n = Maybe (λ ts. stays (Lines n) ts && expr_at x ts) (IsValue x n)

-- an atom with what stands behind it, where a command may begin
pub record IsCalled (x : Origin) (n : ℕ) (a : Term) (ts rest : List Token) : Type 0 where
  pub reads : IsCallee x (Lines n) a ts rest
  pub few : levels a ≤ 64

-- nothing that may be called stands here, or no operand stands behind it
pub data NoCommand (x : Origin) (n : ℕ) : List Token → Type 0 where
  n_other : {ts : List Token} → atom_at x ts ≡ false → NoCommand x n ts
  n_alone : {a : Term} {ts mid : List Token} → IsCalled x n a ts mid → operand_on x (Lines n) mid ≡ false → NoCommand x n ts

-- definitions, declarations of types, and what stands behind `proc`
abbrev pub AreDefinitions : Origin → ℕ → List Definition → List Token → List Token → Type 0
AreDefinitions x n = Short 64 (highest definition_levels) (IsDefinitionBlock x n)

abbrev pub AreTypes : Origin → ℕ → List Declaration → List Token → List Token → Type 0
AreTypes x n = Short 64 (highest declaration_levels) (IsDeclarations x n)

abbrev pub IsProcedure : Origin → ℕ → Head → List Token → List Token → Type 0
IsProcedure x n = Short 64 head_type_levels (IsHead x (Lines n))

-- ---- simple statements

-- the name of a module, without a path
pub record IsModuleName (x : Origin) (i : Layout) (name : Name) (ts rest : List Token) : Type 0 where
  pub plain : path_at x i ts ≡ false
  pub is : IsName x i name ts rest

-- more names of modules: { ',' name }
pub data MoreModules (x : Origin) (n : ℕ) : List Name → List Name → List Token → List Token → Type 0 where
  m_over : {all : List Name} {rest : List Token} → comma_at (Lines n) rest ≡ false → MoreModules x n all all rest rest
  m_next : {name : Name} {some all : List Name} {ts mid rest : List Token} → comma_at (Lines n) ts ≡ true → IsModuleName x Brackets name (behind ts) mid
      → MoreModules x n (some ++ name ∷ []) all mid rest → MoreModules x n some all ts rest

-- more operands of a command: { ',' expr }
pub data MoreOperands (x : Origin) (n : ℕ) : Parts → Parts → List Token → List Token → Type 0 where
  o_over : {all : Parts} {rest : List Token} → comma_at (Lines n) rest ≡ false → MoreOperands x n all all rest rest
  o_next : {a : Term} {some all : Parts} {ts mid rest : List Token} → comma_at (Lines n) ts ≡ true → IsValue x n a (behind ts) mid
      → MoreOperands x n (and_part some a) all mid rest → MoreOperands x n some all ts rest

-- A statement that begins with no word of its own. Only an expression of operators is assigned to.
pub data IsPlain (x : Origin) (n : ℕ) : Statement → List Token → List Token → Type 0 where
  p_command : {a b : Term} {all : Parts} {ts mid end rest : List Token} → atom_at x ts ≡ true → IsCalled x n a ts mid → operand_on x (Lines n) mid ≡ true
      → IsValue x n b mid end
      → MoreOperands x n (part b no_parts) all end rest → IsPlain x n (commands (place_of a) a all) ts rest
  p_value : {a : Term} {ts rest : List Token} → NoCommand x n ts → IsValue x n a ts rest → assigned_by (lead_at ts) (assign_on x n rest) ≡ None
      → IsPlain x n (evaluates (place_of a) a) ts rest
  p_assign : {op : AssignOp} {a b : Term} {ts mid rest : List Token} → NoCommand x n ts → IsValue x n a ts mid
      → assigned_by (lead_at ts) (assign_on x n mid) ≡ Some op
      → IsHere x n b (behind mid) rest → IsPlain x n (assigns (place_of a) op a b) ts rest

-- the word of a definition, and what it binds names to
pub data Binds : Simple → Binding → Type 0 where
  b_let : Binds S.Let B.Let
  b_var : Binds S.Var B.Var
  b_const : Binds S.Const B.Const

pub data IsSimple (x : Origin) (n : ℕ) : Statement → List Token → List Token → Type 0 where
  i_discard : {a : Option Term} {tok : Token} {ts rest : List Token} → simple_of tok.kind ≡ S.Discard → Optional x n a ts rest
      → IsSimple x n (discards (place_at x tok) a) (tok ∷ ts) rest
  i_return : {a : Option Term} {tok : Token} {ts rest : List Token} → simple_of tok.kind ≡ S.Return → Optional x n a ts rest
      → IsSimple x n (returns (place_at x tok) a) (tok ∷ ts) rest
  i_raise : {a : Option Term} {tok : Token} {ts rest : List Token} → simple_of tok.kind ≡ S.Raise → Optional x n a ts rest
      → IsSimple x n (raises (place_at x tok) a) (tok ∷ ts) rest
  i_break : {tok : Token} {ts : List Token} → simple_of tok.kind ≡ S.Break → IsSimple x n (breaks (place_at x tok)) (tok ∷ ts) ts
  i_continue : {tok : Token} {ts : List Token} → simple_of tok.kind ≡ S.Continue → IsSimple x n (continues (place_at x tok)) (tok ∷ ts) ts
  i_import : {name : Name} {all : List Name} {tok : Token} {ts mid rest : List Token} → simple_of tok.kind ≡ S.Import → IsModuleName x (Lines n) name ts mid
      → MoreModules x n (name ∷ []) all mid rest → IsSimple x n (imports (place_at x tok) all) (tok ∷ ts) rest
  i_define : {word : Simple} {binding : Binding} {d : Definition} {tok : Token} {ts rest : List Token} → simple_of tok.kind ≡ word → Binds word binding
      → ShortDefinition x (Lines n) d ts rest
      → IsSimple x n (defines (place_at x tok) binding (d ∷ [])) (tok ∷ ts) rest
  i_plain : {s : Statement} {tok : Token} {ts rest : List Token} → simple_of tok.kind ≡ S.Plain → IsPlain x n s (tok ∷ ts) rest → IsSimple x n s (tok ∷ ts) rest

-- simple statements with `;` between them
pub data IsLine (x : Origin) (n : ℕ) : Statements → Statements → List Token → List Token → Type 0 where
  l_last : {s : Statement} {some : Statements} {ts rest : List Token} → IsSimple x n s ts rest → word_on n (is_punct 59) rest ≡ false
      → IsLine x n some (and_statement some s) ts rest
  l_more : {s : Statement} {some all : Statements} {ts mid rest : List Token} → IsSimple x n s ts mid → word_on n (is_punct 59) mid ≡ true
      → stays (Lines n) (behind mid) ≡ true → IsLine x n (and_statement some s) all (behind mid) rest → IsLine x n some all ts rest

-- ---- parts of statements with blocks

-- a label of an `of` branch
pub data IsLabel (x : Origin) (n : ℕ) : Term → List Token → List Token → Type 0 where
  a_one : {a : Term} {ts rest : List Token} → IsValue x n a ts rest → dots_at x (Lines n) rest ≡ false → IsLabel x n a ts rest
  a_range : {a b : Term} {ts mid rest : List Token} → IsValue x n a ts mid → dots_at x (Lines n) mid ≡ true → IsHere x n b (behind mid) rest
      → IsLabel x n (range (place_of a) a b) ts rest

-- more labels: { ',' label }
pub data MoreLabels (x : Origin) (n : ℕ) : Parts → Parts → List Token → List Token → Type 0 where
  a_over : {all : Parts} {rest : List Token} → comma_at (Lines n) rest ≡ false → MoreLabels x n all all rest rest
  a_next : {a : Term} {some all : Parts} {ts mid rest : List Token} → comma_at (Lines n) ts ≡ true → IsLabel x n a (behind ts) mid
      → MoreLabels x n (and_part some a) all mid rest → MoreLabels x n some all ts rest

-- what a `for` goes over
pub data IsCourse (x : Origin) (n : ℕ) : Course → List Token → List Token → Type 0 where
  f_each : {a : Term} {ts rest : List Token} → IsHere x n a ts rest → dots_at x (Lines n) rest ≡ false → below_at x n rest ≡ false
      → IsCourse x n (each a) ts rest
  f_up_to : {a b : Term} {ts mid rest : List Token} → IsHere x n a ts mid → dots_at x (Lines n) mid ≡ true → IsHere x n b (behind mid) rest
      → IsCourse x n (up_to a b) ts rest
  f_below : {a b : Term} {ts mid rest : List Token} → IsHere x n a ts mid → dots_at x (Lines n) mid ≡ false → below_at x n mid ≡ true
      → IsHere x n b (behind mid) rest
      → IsCourse x n (below a b) ts rest

-- `as` and a name, where they stand
abbrev pub Alias : Origin → ℕ → Option Name → List Token → List Token → Type 0
Alias x n = Maybe (word_on n is_as) (λ name ts rest. IsName x (Lines n) name (behind ts) rest)

-- ---- statements

mutual
  pub data AreStatements (x : Origin) : ℕ → ℕ → Statements → Statements → List Token → List Token → Type 0 where
    s_over : {n left : ℕ} {all : Statements} {rest : List Token} → stands_at n rest ≡ false → ends_at n rest ≡ true → AreStatements x n left all all rest rest
    s_next : {n left : ℕ} {some more all : Statements} {ts mid rest : List Token} → stands_at n ts ≡ true → IsStatement x n left some more ts mid
        → AreStatements x n left more all mid rest → AreStatements x n left some all ts rest

  -- a line of statements, or one with blocks
  pub data IsStatement (x : Origin) : ℕ → ℕ → Statements → Statements → List Token → List Token → Type 0 where
    s_line : {n left : ℕ} {some all : Statements} {tok : Token} {ts rest : List Token} → lead n tok ts ≡ L.Line → IsLine x n some all (tok ∷ ts) rest
        → IsStatement x n left some all (tok ∷ ts) rest
    -- an `if` or `case` that can be read as an expression alone on its line
    s_alone : {n left : ℕ} {a : Term} {some : Statements} {tok : Token} {ts rest : List Token} → chooses (lead n tok ts) ≡ true → IsAlone x n a (tok ∷ ts) rest
        → levels a ≤ 64 → IsStatement x n left some (and_statement some (evaluates (place_of a) a)) (tok ∷ ts) rest
    -- or can't
    s_choice : {n left : ℕ} {s : Statement} {some : Statements} {tok : Token} {ts rest : List Token} → chooses (lead n tok ts) ≡ true → NotAlone x n (tok ∷ ts)
        → IsCompound x n left s (tok ∷ ts) rest → IsStatement x n left some (and_statement some s) (tok ∷ ts) rest
    s_compound : {n left : ℕ} {s : Statement} {some : Statements} {tok : Token} {ts rest : List Token} → chooses (lead n tok ts) ≡ false
        → IsCompound x n left s (tok ∷ ts) rest → IsStatement x n left some (and_statement some s) (tok ∷ ts) rest

  pub data IsCompound (x : Origin) : ℕ → ℕ → Statement → List Token → List Token → Type 0 where
    c_if : {n left : ℕ} {one all : Branches} {other : Statements} {tok : Token} {ts mid end rest : List Token} → lead n tok ts ≡ L.If
        → IsBranch x n left no_branches (place_at x tok) one ts mid → MoreElifs x n left one all mid end → IsElse x n left other end rest
        → IsCompound x n left (branches (place_at x tok) all other) (tok ∷ ts) rest
    c_case : {n left : ℕ} {a : Term} {s : Statement} {tok : Token} {ts mid rest : List Token} → lead n tok ts ≡ L.Case → IsHere x n a ts mid
        → AreBranches x n left (place_at x tok) a s (past_colon (Lines n) mid) rest → IsCompound x n left s (tok ∷ ts) rest
    c_while : {n left : ℕ} {a : Term} {body : Statements} {tok : Token} {ts mid rest : List Token} → lead n tok ts ≡ L.While → IsHere x n a ts mid
        → IsBody x n left body mid rest
        → IsCompound x n left (repeats (place_at x tok) a body) (tok ∷ ts) rest
    c_for : {n left : ℕ} {name : Name} {course : Course} {body : Statements} {tok : Token} {ts mid end rest : List Token} → lead n tok ts ≡ L.For
        → IsName x (Lines n) name ts mid
        → word_on n is_in mid ≡ true → IsCourse x n course (behind mid) end → IsBody x n left body end rest
        → IsCompound x n left (counts (place_at x tok) name course body) (tok ∷ ts) rest
    -- it has a handler or a `finally`
    c_try : {n left : ℕ} {body last : Statements} {all : Handlers} {tok : Token} {ts mid end rest : List Token} → lead n tok ts ≡ L.Try
        → IsBody x n left body ts mid
        → MoreHandlers x n left no_handlers all mid end → IsFinally x n left last end rest → (have_some all || hold_some last) ≡ true
        → IsCompound x n left (tries (place_at x tok) body all last) (tok ∷ ts) rest
    c_defer : {n left : ℕ} {body : Statements} {tok : Token} {ts rest : List Token} → lead n tok ts ≡ L.Defer → IsBody x n left body ts rest
        → IsCompound x n left (defers (place_at x tok) body) (tok ∷ ts) rest
    c_proc : {n left : ℕ} {head : Head} {body : Statements} {tok : Token} {ts mid rest : List Token} → lead n tok ts ≡ L.Proc → IsProcedure x n head ts mid
        → equals_at (Lines n) mid ≡ true → IsBlock x n left body (behind mid) rest
        → IsCompound x n left (proclaims (place_at x tok) head body) (tok ∷ ts) rest
    c_forward : {n left : ℕ} {head : Head} {tok : Token} {ts rest : List Token} → lead n tok ts ≡ L.Proc → IsProcedure x n head ts rest
        → equals_at (Lines n) rest ≡ false → IsCompound x n left (proclaims (place_at x tok) head empty) (tok ∷ ts) rest
    c_type : {n left : ℕ} {all : List Declaration} {tok : Token} {ts rest : List Token} → lead n tok ts ≡ L.Type → AreTypes x n all ts rest
        → IsCompound x n left (types (place_at x tok) all) (tok ∷ ts) rest
    c_section : {n left : ℕ} {all : List Definition} {tok : Token} {ts rest : List Token} → lead n tok ts ≡ L.Section → AreDefinitions x n all ts rest
        → IsCompound x n left (defines (place_at x tok) (binding_of tok.kind) all) (tok ∷ ts) rest

  -- a colon and a block
  pub data IsBody (x : Origin) : ℕ → ℕ → Statements → List Token → List Token → Type 0 where
    b_body : {n left : ℕ} {body : Statements} {ts rest : List Token} → colon_at (Lines n) ts ≡ true → IsBlock x n left body (behind ts) rest
        → IsBody x n left body ts rest

  pub data IsBlock (x : Origin) : ℕ → ℕ → Statements → List Token → List Token → Type 0 where
    b_line : {n left : ℕ} {all : Statements} {ts rest : List Token} → on_line_at ts ≡ true → IsLine x n empty all ts rest
        → IsBlock x n (suc left) all ts rest
    b_deeper : {n left : ℕ} {all : Statements} {ts rest : List Token} → on_line_at ts ≡ false → deeper_at n ts ≡ true
        → AreStatements x (level_at ts) left empty all ts rest
        → IsBlock x n (suc left) all ts rest

  -- a condition, a colon and a block, behind some branches
  pub data IsBranch (x : Origin) : ℕ → ℕ → Branches → Place → Branches → List Token → List Token → Type 0 where
    r_branch : {n left : ℕ} {a : Term} {some : Branches} {body : Statements} {at : Place} {ts mid rest : List Token} → IsHere x n a ts mid
        → IsBody x n left body mid rest
        → IsBranch x n left some at (and_branch some at (part a no_parts) body) ts rest

  -- { 'elif' expr ':' block }
  pub data MoreElifs (x : Origin) : ℕ → ℕ → Branches → Branches → List Token → List Token → Type 0 where
    r_over : {n left : ℕ} {all : Branches} {rest : List Token} → branch_at (Lines n) is_elif rest ≡ false → MoreElifs x n left all all rest rest
    r_elif : {n left : ℕ} {some more all : Branches} {tok : Token} {ts mid rest : List Token} → branch_at (Lines n) is_elif (tok ∷ ts) ≡ true
        → IsBranch x n left some (place_at x tok) more ts mid → MoreElifs x n left more all mid rest → MoreElifs x n left some all (tok ∷ ts) rest

  -- [ 'else' ':' block ]
  pub data IsElse (x : Origin) : ℕ → ℕ → Statements → List Token → List Token → Type 0 where
    r_no_else : {n left : ℕ} {rest : List Token} → branch_at (Lines n) is_else rest ≡ false → IsElse x n left empty rest rest
    r_else : {n left : ℕ} {body : Statements} {ts rest : List Token} → branch_at (Lines n) is_else ts ≡ true → IsBody x n left body (behind ts) rest
        → IsElse x n left body ts rest

  -- AreBranches x n left at a s ts rest: these are the branches of the `case` s, which begins at the place at and is over a
  pub data AreBranches (x : Origin) : ℕ → ℕ → Place → Term → Statement → List Token → List Token → Type 0 where
    r_branches : {n left : ℕ} {at : Place} {a : Term} {all : Branches} {other : Statements} {tok : Token} {ts end rest : List Token}
        → first_of_at (Lines n) (tok ∷ ts) ≡ true
        → MoreOfs x (branch_level n tok.indent) left no_branches all (tok ∷ ts) end → IsElse x (branch_level n tok.indent) left other end rest
        → AreBranches x n left at a (selects at a all other) (tok ∷ ts) rest

  -- labels, a colon and a block, behind some branches
  pub data IsOf (x : Origin) : ℕ → ℕ → Branches → Place → Branches → List Token → List Token → Type 0 where
    r_of : {n left : ℕ} {a : Term} {tests : Parts} {some : Branches} {body : Statements} {at : Place} {ts mid end rest : List Token} → stays (Lines n) ts ≡ true
        → IsLabel x n a ts mid
        → MoreLabels x n (part a no_parts) tests mid end → IsBody x n left body end rest → IsOf x n left some at (and_branch some at tests body) ts rest

  -- { of }
  pub data MoreOfs (x : Origin) : ℕ → ℕ → Branches → Branches → List Token → List Token → Type 0 where
    r_last : {n left : ℕ} {all : Branches} {rest : List Token} → branch_at (Lines n) is_of rest ≡ false → MoreOfs x n left all all rest rest
    r_next : {n left : ℕ} {some more all : Branches} {tok : Token} {ts mid rest : List Token} → branch_at (Lines n) is_of (tok ∷ ts) ≡ true
        → IsOf x n left some (place_at x tok) more ts mid → MoreOfs x n left more all mid rest → MoreOfs x n left some all (tok ∷ ts) rest

  -- exception types, a name for the exception, a colon and a block
  pub data IsHandler (x : Origin) : ℕ → ℕ → Caught → List Token → List Token → Type 0 where
    h_bare : {n left : ℕ} {body : Statements} {ts rest : List Token} → colon_at (Lines n) ts ≡ true → IsBody x n left body ts rest
        → IsHandler x n left (record { names = []; binding = None; body = body }) ts rest
    h_typed : {n left : ℕ} {names : List Name} {alias : Option Name} {body : Statements} {ts a b rest : List Token} → colon_at (Lines n) ts ≡ false
        → Names x (Lines n) names ts a
        → Alias x n alias a b → IsBody x n left body b rest → IsHandler x n left (record { names = names; binding = alias; body = body }) ts rest

  -- handlers; one without exception types is the last
  pub data MoreHandlers (x : Origin) : ℕ → ℕ → Handlers → Handlers → List Token → List Token → Type 0 where
    h_over : {n left : ℕ} {all : Handlers} {rest : List Token} → branch_at (Lines n) is_except rest ≡ false → MoreHandlers x n left all all rest rest
    h_last : {n left : ℕ} {some : Handlers} {one : Caught} {tok : Token} {ts rest : List Token} → branch_at (Lines n) is_except (tok ∷ ts) ≡ true
        → IsHandler x n left one ts rest
        → are_some one.names ≡ false → MoreHandlers x n left some (and_caught some (place_at x tok) one) (tok ∷ ts) rest
    h_next : {n left : ℕ} {some all : Handlers} {one : Caught} {tok : Token} {ts mid rest : List Token} → branch_at (Lines n) is_except (tok ∷ ts) ≡ true
        → IsHandler x n left one ts mid
        → are_some one.names ≡ true → MoreHandlers x n left (and_caught some (place_at x tok) one) all mid rest → MoreHandlers x n left some all (tok ∷ ts) rest

  -- [ 'finally' ':' block ]
  pub data IsFinally (x : Origin) : ℕ → ℕ → Statements → List Token → List Token → Type 0 where
    h_no_finally : {n left : ℕ} {rest : List Token} → branch_at (Lines n) is_finally rest ≡ false → IsFinally x n left empty rest rest
    h_finally : {n left : ℕ} {body : Statements} {ts rest : List Token} → branch_at (Lines n) is_finally ts ≡ true → IsBody x n left body (behind ts) rest
        → IsFinally x n left body ts rest

-- The tokens of a module, up to the end of the source, are these statements; its first line sets the number of spaces.
pub record IsModule (x : Origin) (tokens : List Token) (all : Statements) : Type 0 where
  pub rest : List Token
  pub reads : AreStatements x (level_at tokens) 64 empty all tokens rest
  pub whole : end_at rest ≡ true
