-- Modules that are parsed are read: blocks have statements, branches have labels, and what is said of their parts.
use Rattle.std.proofs.Common.{◌≡◌, ℕ, ◌≤◌, true, List, length, Option, refl, sym, ◌∙◌, ◌+◌, arith}
use Rattle.std.specs.Prelude.{All}
use Rattle.arc_base.specs.declared.place.Place.{Place}
use Rattle.indent_scanner.specs.declared.token.Token.{Token}
use Rattle.indent_scanner.specs.Meaning.{IsSpelledIn}
use Rattle.nim_tree.specs.declared.name.Name.{Name}
use Rattle.nim_tree.specs.Terms.{Term, Parts, no_parts, part}
use Rattle.nim_tree.specs.Statements.{Course, Statement, Statements, empty, then, and_statement, Branches, no_branches, branch, and_branch, Handlers}
use Rattle.nim_tree.specs.Statements.{no_handlers, handler, and_handler}
use Rattle.parse_exprs.specs.declared.layout.Layout.TheVariants.{Lines}
use Rattle.parse_exprs.specs.Look.{Origin}
use Rattle.parse_decls.specs.Look.{stands_at}
use Rattle.parse_decls.specs.Grammar as D
use Rattle.parse_stmts.specs.Grammar as G
use Rattle.parse_stmts.specs.Grammar.{IsValue, IsHere, Optional, MoreModules, MoreOperands, IsPlain, IsSimple, IsLine, IsLabel, MoreLabels, IsCourse}
use Rattle.parse_stmts.specs.Grammar.{Alias, AreStatements, IsStatement, IsCompound, IsBody, IsBlock, IsBranch, MoreElifs, IsElse, AreBranches, IsOf}
use Rattle.parse_stmts.specs.Grammar.{MoreOfs, IsHandler, MoreHandlers, IsFinally, IsModule}
use Rattle.parse_stmts.specs.Handling.{Caught}
use Rattle.typing_laws.specs.Trees.{IsRead, AreRead, has_some, IfRead, CourseRead, StatementRead, StatementsRead, BranchesRead, HandlersRead}
use Rattle.source_compiler.specs.Source.{main_module}
use Rattle.source_compiler.specs.Compile.{source_most}
use Rattle.source_compiler.proofs.ReadTokens.{never, all_read, Good, tail, behind_good, past_colon_good}
use Rattle.source_compiler.proofs.ReadExprs.{and_part_read, and_part_some, TestsRead, expr_read, callee_read}
use Rattle.source_compiler.proofs.ReadDecls.{stands_here, name_good, names_good, definition_read, block_read, declarations_read, head_read}

-- ---- one more behind

and_statement_read : (some : Statements) (s : Statement) → StatementsRead some → StatementRead s → StatementsRead (and_statement some s)
and_statement_read empty s h k = (k, tt)
and_statement_read (then first rest) s h k = (h.0, and_statement_read rest s h.1 k)

and_statement_some : (some : Statements) (s : Statement) → has_some (and_statement some s) ≡ true
and_statement_some empty s = refl
and_statement_some (then first rest) s = refl

-- a block that has a statement
abbrev BlockRead : Statements → Type 0
BlockRead body = (has_some body ≡ true) × StatementsRead body

and_branch_read : (some : Branches) (at : Place) (tests : Parts) (body : Statements) → BranchesRead some → TestsRead tests → BlockRead body
    → BranchesRead (and_branch some at tests body)
and_branch_read no_branches at tests body h t k = (t, (k, tt))
and_branch_read (branch p first block rest) at tests body h t k = (h.0, (h.1.0, and_branch_read rest at tests body h.1.1 t k))

and_handler_read : (some : Handlers) (at : Place) (names : List Name) (binding : Option Name) (body : Statements) → HandlersRead some → StatementsRead body
    → HandlersRead (and_handler some at names binding body)
and_handler_read no_handlers at names binding body h k = (k, tt)
and_handler_read (handler p first b block rest) at names binding body h k = (h.0, and_handler_read rest at names binding body h.1 k)

-- ---- a statement at least

line_some : {x : Origin} {n : ℕ} {some all : Statements} {ts rest : List Token} → IsLine x n some all ts rest → has_some all ≡ true
line_some (G.l_last {s = s} {some = some} h w) = and_statement_some some s
line_some (G.l_more h w s k) = line_some k

statement_some : {x : Origin} {n left : ℕ} {some more : Statements} {ts rest : List Token} → IsStatement x n left some more ts rest → has_some more ≡ true
statement_some (G.s_line l h) = line_some h
statement_some (G.s_alone {some = some} c h l) = and_statement_some some _
statement_some (G.s_choice {s = s} {some = some} c a h) = and_statement_some some s
statement_some (G.s_compound {s = s} {some = some} c h) = and_statement_some some s

still_some : {x : Origin} {n left : ℕ} {some all : Statements} {ts rest : List Token} → AreStatements x n left some all ts rest → has_some some ≡ true
    → has_some all ≡ true
still_some (G.s_over s e) h = h
still_some (G.s_next s k more) h = still_some more (statement_some k)

statements_some : {x : Origin} {n left : ℕ} {some all : Statements} {ts rest : List Token} → AreStatements x n left some all ts rest
    → stands_at n ts ≡ true → has_some all ≡ true
statements_some (G.s_over s e) h = never (sym s ∙ h)
statements_some (G.s_next s k more) h = still_some more (statement_some k)

module _ (x : Origin) where
  -- what it is, and what is left
  abbrev Reads : Type 0 → List Token → Type 0
  Reads A rest = A × Good x rest

  value : {n : ℕ} {a : Term} {ts rest : List Token} → IsValue x n a ts rest → Good x ts → Reads (IsRead a) rest
  value h g = expr_read x h.reads g

  here : {n : ℕ} {a : Term} {ts rest : List Token} → IsHere x n a ts rest → Good x ts → Reads (IsRead a) rest
  here h g = value h.value g

  optional : {n : ℕ} {o : Option Term} {ts rest : List Token} → Optional x n o ts rest → Good x ts → Reads (IfRead o) rest
  optional (D.e_none e) g = (tt, g)
  optional (D.e_some e h) g = value h g

  -- ---- simple statements

  more_modules : {n : ℕ} {some all : List Name} {ts rest : List Token} → MoreModules x n some all ts rest → Good x ts → Good x rest
  more_modules (G.m_over e) g = g
  more_modules (G.m_next {ts = ts} e h k) g = more_modules k (name_good x h.is (behind_good x ts g))

  more_operands : {n : ℕ} {some all : Parts} {ts rest : List Token} → MoreOperands x n some all ts rest → Good x ts → AreRead some
      → Reads (AreRead all) rest
  more_operands (G.o_over e) g r = (r, g)
  more_operands (G.o_next {a = a} {some = some} {ts = ts} e h k) g r =
      let b = value h (behind_good x ts g) in more_operands k b.1 (and_part_read some a r b.0)

  plain : {n : ℕ} {s : Statement} {ts rest : List Token} → IsPlain x n s ts rest → Good x ts → Reads (StatementRead s) rest
  plain (G.p_command e h o k m) g =
      let a = callee_read x h.reads g in
      let b = value k a.1 in
      let c = more_operands m b.1 (b.0, tt) in ((a.0, c.0), c.1)
  plain (G.p_value c h e) g = value h g
  plain (G.p_assign {mid = mid} c h e k) g =
      let a = value h g in
      let b = here k (behind_good x mid a.1) in ((a.0, b.0), b.1)

  simple : {n : ℕ} {s : Statement} {ts rest : List Token} → IsSimple x n s ts rest → Good x ts → Reads (StatementRead s) rest
  simple (G.i_discard e h) g = optional h (tail x g)
  simple (G.i_return e h) g = optional h (tail x g)
  simple (G.i_raise e h) g = optional h (tail x g)
  simple (G.i_break e) g = (tt, tail x g)
  simple (G.i_continue e) g = (tt, tail x g)
  simple (G.i_import e h k) g = (tt, more_modules k (name_good x h.is (tail x g)))
  simple (G.i_define e b h) g = let d = definition_read x h.reads (tail x g) in ((refl, (d.0, tt)), d.1)
  simple (G.i_plain e h) g = plain h g

  line : {n : ℕ} {some all : Statements} {ts rest : List Token} → IsLine x n some all ts rest → Good x ts → StatementsRead some
      → Reads (StatementsRead all) rest
  line (G.l_last {s = s} {some = some} h w) g r = let a = simple h g in (and_statement_read some s r a.0, a.1)
  line (G.l_more {s = s} {some = some} {mid = mid} h w e k) g r =
      let a = simple h g in line k (behind_good x mid a.1) (and_statement_read some s r a.0)

  -- ---- parts of statements with blocks

  label : {n : ℕ} {a : Term} {ts rest : List Token} → IsLabel x n a ts rest → Good x ts → Reads (IsRead a) rest
  label (G.a_one h e) g = value h g
  label (G.a_range {mid = mid} h e k) g =
      let a = value h g in
      let b = here k (behind_good x mid a.1) in ((a.0, b.0), b.1)

  more_labels : {n : ℕ} {some all : Parts} {ts rest : List Token} → MoreLabels x n some all ts rest → Good x ts → TestsRead some
      → Reads (TestsRead all) rest
  more_labels (G.a_over e) g r = (r, g)
  more_labels (G.a_next {a = a} {some = some} {ts = ts} e h k) g r =
      let b = label h (behind_good x ts g) in more_labels k b.1 (and_part_some some a, and_part_read some a r.1 b.0)

  course : {n : ℕ} {c : Course} {ts rest : List Token} → IsCourse x n c ts rest → Good x ts → Reads (CourseRead c) rest
  course (G.f_each h d b) g = here h g
  course (G.f_up_to {mid = mid} h d k) g =
      let a = here h g in
      let b = here k (behind_good x mid a.1) in ((a.0, b.0), b.1)
  course (G.f_below {mid = mid} h d e k) g =
      let a = here h g in
      let b = here k (behind_good x mid a.1) in ((a.0, b.0), b.1)

  alias : {n : ℕ} {o : Option Name} {ts rest : List Token} → Alias x n o ts rest → Good x ts → Good x rest
  alias (D.e_none e) g = g
  alias (D.e_some {ts = ts} e h) g = name_good x h (behind_good x ts g)

  -- ---- statements

  mutual
    statements : {n left : ℕ} {some all : Statements} {ts rest : List Token} → AreStatements x n left some all ts rest → Good x ts → StatementsRead some
        → Reads (StatementsRead all) rest
    statements (G.s_over s e) g r = (r, g)
    statements (G.s_next s h k) g r = let a = statement h g r in statements k a.1 a.0

    statement : {n left : ℕ} {some more : Statements} {ts rest : List Token} → IsStatement x n left some more ts rest → Good x ts → StatementsRead some
        → Reads (StatementsRead more) rest
    statement (G.s_line l h) g r = line h g r
    statement (G.s_alone {some = some} c h l) g r = let a = expr_read x h.begins.reads g in (and_statement_read some _ r a.0, a.1)
    statement (G.s_choice {s = s} {some = some} c n h) g r = let a = compound h g in (and_statement_read some s r a.0, a.1)
    statement (G.s_compound {s = s} {some = some} c h) g r = let a = compound h g in (and_statement_read some s r a.0, a.1)

    compound : {n left : ℕ} {s : Statement} {ts rest : List Token} → IsCompound x n left s ts rest → Good x ts → Reads (StatementRead s) rest
    compound (G.c_if l h k e) g =
        let a = one_branch h (tail x g) tt in
        let b = elifs k a.1 a.0 in
        let c = other e b.1 in ((b.0, c.0), c.1)
    compound (G.c_case {n = n} {mid = mid} l h k) g =
        let a = here h (tail x g) in case_branches k (past_colon_good x (Lines n) mid a.1) a.0
    compound (G.c_while l h k) g =
        let a = here h (tail x g) in
        let b = colon_block k a.1 in ((a.0, b.0), b.1)
    compound (G.c_for {mid = mid} l h w k b) g =
        let a = course k (behind_good x mid (name_good x h (tail x g))) in
        let c = colon_block b a.1 in ((a.0, c.0), c.1)
    compound (G.c_try l h k f e) g =
        let a = colon_block h (tail x g) in
        let b = handlers k a.1 tt in
        let c = final f b.1 in (((a.0.1, b.0), c.0), c.1)
    compound (G.c_defer l h) g = let a = colon_block h (tail x g) in (a.0.1, a.1)
    compound (G.c_proc {mid = mid} l h e k) g =
        let a = head_read x h.reads (tail x g) in
        let b = block k (behind_good x mid a.1) in ((a.0, b.0.1), b.1)
    compound (G.c_forward l h e) g = let a = head_read x h.reads (tail x g) in ((a.0, tt), a.1)
    compound (G.c_type l h) g = declarations_read x h.reads (tail x g)
    compound (G.c_section l h) g = block_read x h.reads (tail x g)

    colon_block : {n left : ℕ} {body : Statements} {ts rest : List Token} → IsBody x n left body ts rest → Good x ts → Reads (BlockRead body) rest
    colon_block (G.b_body {ts = ts} e h) g = block h (behind_good x ts g)

    block : {n left : ℕ} {body : Statements} {ts rest : List Token} → IsBlock x n left body ts rest → Good x ts → Reads (BlockRead body) rest
    block (G.b_line o h) g = let a = line h g tt in ((line_some h, a.0), a.1)
    block {n} (G.b_deeper {ts = ts} o d h) g = let a = statements h g tt in ((statements_some h (stands_here n ts d), a.0), a.1)

    one_branch : {n left : ℕ} {some all : Branches} {at : Place} {ts rest : List Token} → IsBranch x n left some at all ts rest → Good x ts
        → BranchesRead some → Reads (BranchesRead all) rest
    one_branch {at = at} (G.r_branch {a = a} {some = some} {body = body} h k) g r =
        let b = here h g in
        let c = colon_block k b.1 in (and_branch_read some at (part a no_parts) body r (refl, (b.0, tt)) c.0, c.1)

    elifs : {n left : ℕ} {some all : Branches} {ts rest : List Token} → MoreElifs x n left some all ts rest → Good x ts → BranchesRead some
        → Reads (BranchesRead all) rest
    elifs (G.r_over e) g r = (r, g)
    elifs (G.r_elif e h k) g r = let a = one_branch h (tail x g) r in elifs k a.1 a.0

    other : {n left : ℕ} {body : Statements} {ts rest : List Token} → IsElse x n left body ts rest → Good x ts → Reads (StatementsRead body) rest
    other (G.r_no_else e) g = (tt, g)
    other (G.r_else {ts = ts} e h) g = let a = colon_block h (behind_good x ts g) in (a.0.1, a.1)

    case_branches : {n left : ℕ} {at : Place} {a : Term} {s : Statement} {ts rest : List Token} → AreBranches x n left at a s ts rest → Good x ts
        → IsRead a → Reads (StatementRead s) rest
    case_branches (G.r_branches e h k) g r =
        let a = ofs h g tt in
        let b = other k a.1 in ((r, (a.0, b.0)), b.1)

    one_of : {n left : ℕ} {some all : Branches} {at : Place} {ts rest : List Token} → IsOf x n left some at all ts rest → Good x ts → BranchesRead some
        → Reads (BranchesRead all) rest
    one_of {at = at} (G.r_of {tests = tests} {some = some} {body = body} s h k b) g r =
        let a = label h g in
        let t = more_labels k a.1 (refl, (a.0, tt)) in
        let c = colon_block b t.1 in (and_branch_read some at tests body r t.0 c.0, c.1)

    ofs : {n left : ℕ} {some all : Branches} {ts rest : List Token} → MoreOfs x n left some all ts rest → Good x ts → BranchesRead some
        → Reads (BranchesRead all) rest
    ofs (G.r_last e) g r = (r, g)
    ofs (G.r_next e h k) g r = let a = one_of h (tail x g) r in ofs k a.1 a.0

    one_handler : {n left : ℕ} {one : Caught} {ts rest : List Token} → IsHandler x n left one ts rest → Good x ts → Reads (StatementsRead one.body) rest
    one_handler (G.h_bare e h) g = let a = colon_block h g in (a.0.1, a.1)
    one_handler (G.h_typed e n k h) g = let a = colon_block h (alias k (names_good x n g)) in (a.0.1, a.1)

    handlers : {n left : ℕ} {some all : Handlers} {ts rest : List Token} → MoreHandlers x n left some all ts rest → Good x ts → HandlersRead some
        → Reads (HandlersRead all) rest
    handlers (G.h_over e) g r = (r, g)
    handlers (G.h_last {some = some} {one = one} e h n) g r =
        let a = one_handler h (tail x g) in (and_handler_read some _ one.names one.binding one.body r a.0, a.1)
    handlers (G.h_next {some = some} {one = one} e h n k) g r =
        let a = one_handler h (tail x g) in handlers k a.1 (and_handler_read some _ one.names one.binding one.body r a.0)

    final : {n left : ℕ} {body : Statements} {ts rest : List Token} → IsFinally x n left body ts rest → Good x ts → Reads (StatementsRead body) rest
    final (G.h_no_finally e) g = (tt, g)
    final (G.h_finally {ts = ts} e h) g = let a = colon_block h (behind_good x ts g) in (a.0.1, a.1)

-- a module whose tokens are spelled, and few
pub module_read : (x : Origin) (tokens : List Token) (all : Statements) → IsModule x tokens all → All (IsSpelledIn x.source) tokens
    → length tokens ≤ 2147483647 → StatementsRead all
module_read x tokens all h s l = (statements x h.reads (record { read = all_read x tokens s; few = l }) tt).0

-- the main module of a source that isn't too long
pub trees_read : (source : List ℕ) (tokens : List Token) (tree : Statements) → All (IsSpelledIn source) tokens → length tokens ≤ length source + 1
    → length source ≤ source_most → IsModule (main_module source) tokens tree → StatementsRead tree
trees_read source tokens tree spelled count short h = module_read (main_module source) tokens tree h spelled (omega (arith, count, short))
