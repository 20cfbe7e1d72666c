-- Reading as a computation by steps: the same as Grammar.antt and Faults.antt say, in the order of the tokens.
--
-- Each function takes the steps that are left. n is the number of spaces that the statement stands behind, and left the
-- number of levels of blocks that are left.
use Rattle.std.specs.Prelude.{ℕ, zero, suc, Bool, true, nat_lt, ◌&&◌, ◌||◌, if◌then◌else◌, List, [], ◌∷◌, ◌++◌, Option, Some, None}
use Rattle.arc_base.specs.declared.place.Place.{Place}
use Rattle.indent_scanner.specs.declared.token.Token.{Token}
use Rattle.nim_tree.specs.declared.name.Name.{Name}
use Rattle.nim_tree.specs.declared.stmt.AssignOp.{AssignOp}
use Rattle.nim_tree.specs.declared.stmt.Binding.{Binding}
use Rattle.nim_tree.specs.declared.stmt.Binding.TheVariants as B
use Rattle.nim_tree.specs.Terms.{Term, range, Parts, no_parts, part, and_part, place_of, levels}
use Rattle.nim_tree.specs.Statements.{Course, each, up_to, below, Statement, discards, returns, raises, breaks, continues, imports, evaluates, assigns}
use Rattle.nim_tree.specs.Statements.{commands, defines, types, repeats, counts, tries, defers, proclaims, branches, selects, Statements, empty, and_statement}
use Rattle.nim_tree.specs.Statements.{Branches, no_branches, and_branch, Handlers, no_handlers}
use Rattle.parse_exprs.specs.declared.layout.Layout.{Layout}
use Rattle.parse_exprs.specs.declared.layout.Layout.TheVariants.{Brackets, Lines, Start}
use Rattle.parse_exprs.specs.Look.{Origin, place_at, stays, colon_at, comma_at, past_colon, dots_at, expr_at, lead_at, branch_at, is_elif, is_else, is_of}
use Rattle.parse_exprs.specs.Look.{first_of_at, is_punct, operand_on}
use Rattle.parse_exprs.specs.Outcome as E
use Rattle.parse_exprs.specs.Run.{run_expr, run_primary}
use Rattle.parse_decls.specs.Look.{behind, deeper_at, stands_at, level_at, equals_at}
use Rattle.parse_decls.specs.Outcome.{Out, got, bad, then_do, too_deep, left_out, stuck_at, tired, unless_stuck, of_expr}
use Rattle.parse_decls.specs.Run.{most_levels, run_name, run_names, run_def, run_def_block, run_types, run_head}
use Rattle.parse_stmts.specs.declared.alone.TheConstants.{MOST_ALONE}
use Rattle.parse_stmts.specs.declared.look.Lead.{Lead}
use Rattle.parse_stmts.specs.declared.look.Lead.TheVariants as L
use Rattle.parse_stmts.specs.declared.look.Simple.{Simple}
use Rattle.parse_stmts.specs.declared.look.Simple.TheVariants as S
pub use Rattle.parse_stmts.specs.Look.{assigned_by, branch_level, binding_of}
pub use Rattle.parse_stmts.specs.Handling.{Caught, and_caught, are_some, have_some, hold_some}
use Rattle.parse_stmts.specs.Look.{end_at, on_line_at, ends_at, opens_block, line_over, chooses, lead, simple_of, atom_at, assign_on, is_in, is_as, is_except}
use Rattle.parse_stmts.specs.Look.{is_finally, word_on, below_at, path_at}

-- ---- expressions

-- a whole expression
abbrev pub run_value : ℕ → Origin → ℕ → List Token → Out Term
run_value k x n ts = of_expr ts (run_expr k x (Lines n) most_levels ts)

-- one that begins on this line
abbrev pub run_here : ℕ → Origin → ℕ → List Token → Out Term
run_here k x n ts = unless_stuck (stays (Lines n) ts) ts (run_value k x n ts)

-- one on this line, where there is one
abbrev pub run_optional : ℕ → Origin → ℕ → List Token → Out (Option Term)
run_optional k x n ts = if stays (Lines n) ts && expr_at x ts then then_do (run_value k x n ts) (λ a rest. got (Some a) rest) else got None ts

-- ---- simple statements

abbrev pub run_module_name : Origin → Layout → List Token → Out Name
run_module_name x i ts = if path_at x i ts then bad (left_out ts) else run_name x i ts

abbrev pub run_more_modules : ℕ → Origin → ℕ → List Name → List Token → Out (List Name)
run_more_modules zero x n some ts = bad tired
run_more_modules (suc k) x n some ts =
    if comma_at (Lines n) ts then then_do (run_module_name x Brackets (behind ts)) (λ name mid. run_more_modules k x n (some ++ name ∷ []) mid) else got some ts

abbrev pub run_operands : ℕ → Origin → ℕ → Parts → List Token → Out Parts
run_operands zero x n some ts = bad tired
run_operands (suc k) x n some ts =
    if comma_at (Lines n) ts then then_do (run_value k x n (behind ts)) (λ a mid. run_operands k x n (and_part some a) mid) else got some ts

-- behind the callee of a command
abbrev pub run_command : ℕ → Origin → ℕ → Term → List Token → Out Statement
run_command k x n a ts = then_do (run_value k x n ts)
    (λ b mid. then_do (run_operands k x n (part b no_parts) mid) (λ all rest. got (commands (place_of a) a all) rest))

abbrev pub run_assigned : ℕ → Option AssignOp → Origin → ℕ → Term → List Token → Out Statement
run_assigned k None x n a ts = got (evaluates (place_of a) a) ts
run_assigned k (Some op) x n a ts = then_do (run_here k x n (behind ts)) (λ b rest. got (assigns (place_of a) op a b) rest)

-- an expression, which may be assigned to
abbrev pub run_expression : ℕ → Origin → ℕ → List Token → Out Statement
run_expression k x n ts = then_do (run_value k x n ts) (λ a mid. run_assigned k (assigned_by (lead_at ts) (assign_on x n mid)) x n a mid)

-- a command, where an operand stands behind what may be called
abbrev pub run_plain : ℕ → Origin → ℕ → List Token → Out Statement
run_plain k x n ts =
    if atom_at x ts then then_do (of_expr ts (run_primary k x (Lines n) true most_levels ts))
    (λ a mid. if operand_on x (Lines n) mid then run_command k x n a mid else run_expression k x n ts)
    else run_expression k x n ts

abbrev pub run_bound : ℕ → Binding → Origin → ℕ → Place → List Token → Out Statement
run_bound k binding x n at ts = then_do (run_def k x (Lines n) ts) (λ one rest. got (defines at binding (one ∷ [])) rest)

abbrev pub run_simple_by : ℕ → Simple → Origin → ℕ → Token → List Token → Out Statement
run_simple_by k S.Discard x n tok ts = then_do (run_optional k x n ts) (λ a rest. got (discards (place_at x tok) a) rest)
run_simple_by k S.Return x n tok ts = then_do (run_optional k x n ts) (λ a rest. got (returns (place_at x tok) a) rest)
run_simple_by k S.Raise x n tok ts = then_do (run_optional k x n ts) (λ a rest. got (raises (place_at x tok) a) rest)
run_simple_by k S.Break x n tok ts = got (breaks (place_at x tok)) ts
run_simple_by k S.Continue x n tok ts = got (continues (place_at x tok)) ts
run_simple_by k S.Import x n tok ts =
    then_do (run_module_name x (Lines n) ts)
    (λ name mid. then_do (run_more_modules k x n (name ∷ []) mid) (λ all rest. got (imports (place_at x tok) all) rest))
run_simple_by k S.Let x n tok ts = run_bound k B.Let x n (place_at x tok) ts
run_simple_by k S.Var x n tok ts = run_bound k B.Var x n (place_at x tok) ts
run_simple_by k S.Const x n tok ts = run_bound k B.Const x n (place_at x tok) ts
run_simple_by k S.Plain x n tok ts = run_plain k x n (tok ∷ ts)

abbrev pub run_simple : ℕ → Origin → ℕ → List Token → Out Statement
run_simple k x n [] = bad (stuck_at [])
run_simple k x n (tok ∷ ts) = run_simple_by k (simple_of tok.kind) x n tok ts

-- simple statements with `;` between them, behind some others
abbrev pub run_line : ℕ → Origin → ℕ → Statements → List Token → Out Statements
run_line zero x n some ts = bad tired
run_line (suc k) x n some ts =
    then_do (run_simple k x n ts) (λ s mid.
    if word_on n (is_punct 59) mid then unless_stuck (stays (Lines n) (behind mid)) (behind mid) (run_line k x n (and_statement some s) (behind mid))
    else got (and_statement some s) mid)

-- ---- parts of statements with blocks

-- a label of an `of` branch
abbrev pub run_label : ℕ → Origin → ℕ → List Token → Out Term
run_label k x n ts =
    then_do (run_value k x n ts) (λ a mid.
    if dots_at x (Lines n) mid then then_do (run_here k x n (behind mid)) (λ b rest. got (range (place_of a) a b) rest) else got a mid)

abbrev pub run_labels : ℕ → Origin → ℕ → Parts → List Token → Out Parts
run_labels zero x n some ts = bad tired
run_labels (suc k) x n some ts = if comma_at (Lines n) ts then then_do (run_label k x n (behind ts)) (λ a mid. run_labels k x n (and_part some a) mid)
    else got some ts

-- what a `for` goes over
abbrev pub run_course : ℕ → Origin → ℕ → List Token → Out Course
run_course k x n ts =
    then_do (run_here k x n ts) (λ a mid.
    if dots_at x (Lines n) mid then then_do (run_here k x n (behind mid)) (λ b rest. got (up_to a b) rest) else
    if below_at x n mid then then_do (run_here k x n (behind mid)) (λ b rest. got (below a b) rest) else
    got (each a) mid)

-- the exception types of a handler
abbrev pub run_types_of : ℕ → Origin → ℕ → List Token → Out (List Name)
run_types_of k x n ts = if colon_at (Lines n) ts then got [] ts else run_names k x (Lines n) ts

-- `as` and a name, behind exception types
abbrev pub run_binding : Bool → Origin → ℕ → List Token → Out (Option Name)
run_binding some x n ts = if some && word_on n is_as ts then then_do (run_name x (Lines n) (behind ts)) (λ name rest. got (Some name) rest) else got None ts

-- an expression that is alone on its line, where it is one of at most `MOST_ALONE` levels, of which it may have 64
abbrev pub alone_in : ℕ → List Token → E.Out Term → Out (Option Term)
alone_in n whole (E.got a rest) = if line_over n rest then (if nat_lt most_levels (levels a) then bad (too_deep whole) else got (Some a) rest)
    else got None whole
alone_in n whole (E.bad E.tired) = bad tired
alone_in n whole (E.bad why) = got None whole

abbrev pub run_alone : ℕ → Origin → ℕ → List Token → Out (Option Term)
run_alone k x n ts = alone_in n ts (run_expr k x (Start n) MOST_ALONE ts)

-- ---- statements

abbrev mutual
  -- statements first on their lines behind n spaces, behind some others
  pub run_statements : ℕ → Origin → ℕ → ℕ → Statements → List Token → Out Statements
  run_statements zero x n left some ts = bad tired
  run_statements (suc k) x n left some ts =
      if stands_at n ts then then_do (run_statement k x n left some ts) (λ all mid. run_statements k x n left all mid) else unless_stuck (ends_at n ts) ts
      (got some ts)

  -- a statement, or a line of them, behind some others
  pub run_statement : ℕ → Origin → ℕ → ℕ → Statements → List Token → Out Statements
  run_statement zero x n left some ts = bad tired
  run_statement (suc k) x n left some [] = bad (stuck_at [])
  run_statement (suc k) x n left some (tok ∷ ts) = run_led k (lead n tok ts) x n left some tok ts

  pub run_led : ℕ → Lead → Origin → ℕ → ℕ → Statements → Token → List Token → Out Statements
  run_led zero it x n left some tok ts = bad tired
  run_led (suc k) L.Line x n left some tok ts = run_line k x n some (tok ∷ ts)
  run_led (suc k) it x n left some tok ts =
      if chooses it then then_do (run_alone k x n (tok ∷ ts)) (λ found rest. run_choice k found it x n left some tok ts rest)
      else then_do (run_compound k it x n left tok ts) (λ s rest. got (and_statement some s) rest)

  -- `if` or `case`, which is that expression where there is one, and has blocks else
  pub run_choice : ℕ → Option Term → Lead → Origin → ℕ → ℕ → Statements → Token → List Token → List Token → Out Statements
  run_choice zero found it x n left some tok ts rest = bad tired
  run_choice (suc k) (Some a) it x n left some tok ts rest = got (and_statement some (evaluates (place_of a) a)) rest
  run_choice (suc k) None it x n left some tok ts rest = then_do (run_compound k it x n left tok ts) (λ s rest. got (and_statement some s) rest)

  pub run_compound : ℕ → Lead → Origin → ℕ → ℕ → Token → List Token → Out Statement
  run_compound zero it x n left tok ts = bad tired
  -- a line is none
  run_compound (suc k) L.Line x n left tok ts = bad (stuck_at (tok ∷ ts))
  run_compound (suc k) L.If x n left tok ts = run_if k x n left tok ts
  run_compound (suc k) L.Case x n left tok ts = run_case k x n left tok ts
  run_compound (suc k) L.While x n left tok ts =
      then_do (run_here k x n ts) (λ c mid. then_do (run_body k x n left mid) (λ block rest. got (repeats (place_at x tok) c block) rest))
  run_compound (suc k) L.For x n left tok ts =
      then_do (run_name x (Lines n) ts) (λ name mid.
      unless_stuck (word_on n is_in mid) mid (
      then_do (run_course k x n (behind mid)) (λ course end.
      then_do (run_body k x n left end) (λ block rest.
      got (counts (place_at x tok) name course block) rest))))
  run_compound (suc k) L.Try x n left tok ts = run_try k x n left tok ts
  run_compound (suc k) L.Defer x n left tok ts = then_do (run_body k x n left ts) (λ block rest. got (defers (place_at x tok) block) rest)
  run_compound (suc k) L.Proc x n left tok ts = run_proc k x n left tok ts
  run_compound (suc k) L.Type x n left tok ts = then_do (run_types k x n ts) (λ all rest. got (types (place_at x tok) all) rest)
  run_compound (suc k) L.Section x n left tok ts = then_do (run_def_block k x n ts) (λ all rest. got (defines (place_at x tok) (binding_of tok.kind) all) rest)

  -- a colon and a block
  pub run_body : ℕ → Origin → ℕ → ℕ → List Token → Out Statements
  run_body zero x n left ts = bad tired
  run_body (suc k) x n left ts = unless_stuck (colon_at (Lines n) ts) ts (run_block k x n left (behind ts))

  -- a block: a line, or statements behind more spaces
  pub run_block : ℕ → Origin → ℕ → ℕ → List Token → Out Statements
  run_block zero x n left ts = bad tired
  run_block (suc k) x n zero ts = bad (if opens_block x n ts then too_deep ts else stuck_at ts)
  run_block (suc k) x n (suc left) ts =
      if on_line_at ts then run_line k x n empty ts else
      unless_stuck (deeper_at n ts) ts (run_statements k x (level_at ts) left empty ts)

  -- ---- `if`

  pub run_if : ℕ → Origin → ℕ → ℕ → Token → List Token → Out Statement
  run_if zero x n left tok ts = bad tired
  run_if (suc k) x n left tok ts =
      then_do (run_branch k x n left no_branches (place_at x tok) ts) (λ one mid.
      then_do (run_elifs k x n left one mid) (λ all end.
      then_do (run_else k x n left end) (λ other rest.
      got (branches (place_at x tok) all other) rest)))

  -- a condition, a colon and a block, behind some others
  pub run_branch : ℕ → Origin → ℕ → ℕ → Branches → Place → List Token → Out Branches
  run_branch zero x n left some at ts = bad tired
  run_branch (suc k) x n left some at ts =
      then_do (run_here k x n ts) (λ c mid. then_do (run_body k x n left mid) (λ block rest. got (and_branch some at (part c no_parts) block) rest))

  pub run_elifs : ℕ → Origin → ℕ → ℕ → Branches → List Token → Out Branches
  run_elifs zero x n left some ts = bad tired
  run_elifs (suc k) x n left some [] = got some []
  run_elifs (suc k) x n left some (tok ∷ ts) =
      if branch_at (Lines n) is_elif (tok ∷ ts) then then_do (run_branch k x n left some (place_at x tok) ts) (λ all mid. run_elifs k x n left all mid)
      else got some (tok ∷ ts)

  -- `else`, a colon and a block, where there is one
  pub run_else : ℕ → Origin → ℕ → ℕ → List Token → Out Statements
  run_else zero x n left ts = bad tired
  run_else (suc k) x n left ts = if branch_at (Lines n) is_else ts then run_body k x n left (behind ts) else got empty ts

  -- ---- `case`

  pub run_case : ℕ → Origin → ℕ → ℕ → Token → List Token → Out Statement
  run_case zero x n left tok ts = bad tired
  run_case (suc k) x n left tok ts = then_do (run_here k x n ts) (λ s mid. run_branches k x n left tok s (past_colon (Lines n) mid))

  pub run_branches : ℕ → Origin → ℕ → ℕ → Token → Term → List Token → Out Statement
  run_branches zero x n left tok s mid = bad tired
  run_branches (suc k) x n left tok s [] = bad (stuck_at [])
  run_branches (suc k) x n left tok s (first ∷ mid) =
      unless_stuck (first_of_at (Lines n) (first ∷ mid)) (first ∷ mid) (
      then_do (run_ofs k x (branch_level n first.indent) left no_branches (first ∷ mid)) (λ all end.
      then_do (run_else k x (branch_level n first.indent) left end) (λ other rest.
      got (selects (place_at x tok) s all other) rest)))

  -- labels, a colon and a block, behind some others
  pub run_of : ℕ → Origin → ℕ → ℕ → Branches → Place → List Token → Out Branches
  run_of zero x n left some at ts = bad tired
  run_of (suc k) x n left some at ts =
      unless_stuck (stays (Lines n) ts) ts (
      then_do (run_label k x n ts) (λ a mid.
      then_do (run_labels k x n (part a no_parts) mid) (λ labels end.
      then_do (run_body k x n left end) (λ block rest.
      got (and_branch some at labels block) rest))))

  -- the first `of` may begin its line deeper, and so sets the level n
  pub run_ofs : ℕ → Origin → ℕ → ℕ → Branches → List Token → Out Branches
  run_ofs zero x n left some ts = bad tired
  run_ofs (suc k) x n left some [] = got some []
  run_ofs (suc k) x n left some (tok ∷ ts) =
      if branch_at (Lines n) is_of (tok ∷ ts) then then_do (run_of k x n left some (place_at x tok) ts) (λ all mid. run_ofs k x n left all mid)
      else got some (tok ∷ ts)

  -- ---- `try` and `proc`

  pub run_try : ℕ → Origin → ℕ → ℕ → Token → List Token → Out Statement
  run_try zero x n left tok ts = bad tired
  run_try (suc k) x n left tok ts =
      then_do (run_body k x n left ts) (λ block mid.
      then_do (run_handlers k x n left no_handlers mid) (λ all end.
      then_do (run_finally k x n left end) (λ last rest.
      unless_stuck (have_some all || hold_some last) rest (got (tries (place_at x tok) block all last) rest))))

  -- exception types, a name for the exception, a colon and a block
  pub run_handler : ℕ → Origin → ℕ → ℕ → List Token → Out Caught
  run_handler zero x n left ts = bad tired
  run_handler (suc k) x n left ts =
      then_do (run_types_of k x n ts) (λ names a.
      then_do (run_binding (are_some names) x n a) (λ binding b.
      then_do (run_body k x n left b) (λ block rest.
      got (record { names = names; binding = binding; body = block }) rest)))

  -- a bare `except` is the last
  pub run_handlers : ℕ → Origin → ℕ → ℕ → Handlers → List Token → Out Handlers
  run_handlers zero x n left some ts = bad tired
  run_handlers (suc k) x n left some [] = got some []
  run_handlers (suc k) x n left some (tok ∷ ts) =
      if branch_at (Lines n) is_except (tok ∷ ts) then
      then_do (run_handler k x n left ts) (λ one mid.
      if are_some one.names then run_handlers k x n left (and_caught some (place_at x tok) one) mid else got (and_caught some (place_at x tok) one) mid)
      else got some (tok ∷ ts)

  pub run_finally : ℕ → Origin → ℕ → ℕ → List Token → Out Statements
  run_finally zero x n left ts = bad tired
  run_finally (suc k) x n left ts = if branch_at (Lines n) is_finally ts then run_body k x n left (behind ts) else got empty ts

  pub run_proc : ℕ → Origin → ℕ → ℕ → Token → List Token → Out Statement
  run_proc zero x n left tok ts = bad tired
  run_proc (suc k) x n left tok ts =
      then_do (run_head k x (Lines n) ts) (λ head mid.
      if equals_at (Lines n) mid then then_do (run_block k x n left (behind mid)) (λ block rest. got (proclaims (place_at x tok) head block) rest)
      else got (proclaims (place_at x tok) head empty) mid)

-- the statements of a module, which stand behind as many spaces as its first line
abbrev pub run_module : ℕ → Origin → List Token → Out Statements
run_module k x ts = then_do (run_statements k x (level_at ts) 64 empty ts) (λ all rest. unless_stuck (end_at rest) rest (got all rest))

-- `if` or `case` with its first token, which stands before these tokens, and with all of them
abbrev pub choice_run : Lead → Origin → ℕ → ℕ → Statements → Token → List Token → List Token → ℕ → Out Statements
choice_run it x n left some tok whole ts k = then_do (run_alone k x n whole) (λ found rest. run_choice k found it x n left some tok ts rest)
