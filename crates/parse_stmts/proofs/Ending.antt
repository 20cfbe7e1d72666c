-- Reading ends: one line for each function of specs/Run.antt. A call has fewer tokens, or a lower number behind `64 *`.
use Rattle.std.proofs.Common.{ℕ, zero, suc, ◌<◌, ◌≤◌, ◌+◌, ◌*◌, List, [], ◌∷◌, ◌++◌, length, Bool, true, false, arith}
use Rattle.std.specs.Prelude.{Option, Some, None, nat_lt, ◌&&◌, ◌||◌, if◌then◌else◌}
use Rattle.arc_base.specs.declared.place.Place.{Place}
use Rattle.indent_scanner.specs.declared.token.Token.{Token}
use Rattle.nim_tree.specs.declared.name.Name.{Name}
use Rattle.nim_tree.specs.declared.stmt.AssignOp.{AssignOp}
use Rattle.nim_tree.specs.declared.stmt.Binding.{Binding}
use Rattle.nim_tree.specs.declared.stmt.Binding.TheVariants as B
use Rattle.nim_tree.specs.Terms.{Term, Parts, no_parts, part, and_part, levels}
use Rattle.nim_tree.specs.Statements.{Statements, empty, and_statement, Branches, no_branches, Handlers, no_handlers}
use Rattle.parse_exprs.specs.declared.layout.Layout.{Layout}
use Rattle.parse_exprs.specs.declared.layout.Layout.TheVariants.{Brackets, Lines, Start}
use Rattle.parse_exprs.specs.Look.{Origin, place_at, goes_on, stays, colon_at, comma_at, past_colon, dots_at, expr_at, lead_at, branch_at, is_elif, is_else}
use Rattle.parse_exprs.specs.Look.{is_of, first_of_at, is_punct, operand_on}
use Rattle.parse_exprs.specs.Ends as N
use Rattle.parse_exprs.specs.Outcome as E
use Rattle.parse_exprs.proofs.ForCallers.{exprs_end, callees_end}
use Rattle.parse_decls.specs.Ends.{HasPlace, Ends, e_read, e_not}
use Rattle.parse_decls.specs.Look.{behind, deeper_at, stands_at, level_at, equals_at}
use Rattle.parse_decls.specs.Outcome.{Why, too_deep, Out, got, bad, then_do, stuck_at}
use Rattle.parse_decls.specs.Run.{most_levels}
use Rattle.parse_decls.proofs.ForCallers.{names_end, definitions_end, definition_blocks_end, type_declarations_end, heads_end, wider, ends_then, ends_stuck}
use Rattle.parse_decls.proofs.ForCallers.{ends_unless, ends_if, ends_of, ends_expr, behind_within, ends_name}
use Rattle.parse_stmts.specs.declared.alone.TheConstants.{MOST_ALONE}
use Rattle.parse_stmts.specs.declared.look.Lead.{Lead}
use Rattle.parse_stmts.specs.declared.look.Lead.TheVariants as L
use Rattle.parse_stmts.specs.declared.look.Simple.{Simple}
use Rattle.parse_stmts.specs.declared.look.Simple.TheVariants as S
use Rattle.parse_stmts.specs.Handling.{and_caught, are_some, have_some, hold_some}
use Rattle.parse_stmts.specs.Look.{assigned_by, branch_level, end_at, on_line_at, ends_at, opens_block, line_over, lead, simple_of, atom_at, assign_on, is_in}
use Rattle.parse_stmts.specs.Look.{is_as, is_except, is_finally, word_on, below_at, path_at}
use Rattle.parse_stmts.specs.Run.{run_value, run_here, run_optional, run_module_name, run_more_modules, run_operands, run_command, run_assigned, run_expression}
use Rattle.parse_stmts.specs.Run.{run_plain, run_bound, run_simple_by, run_simple, run_line, run_label, run_labels, run_course, run_types_of, run_binding}
use Rattle.parse_stmts.specs.Run.{alone_in, run_alone, run_statements, run_statement, run_led, run_choice, run_compound, run_body, run_block, run_if}
use Rattle.parse_stmts.specs.Run.{run_branch, run_elifs, run_else, run_case, run_branches, run_of, run_ofs, run_try, run_handler, run_handlers, run_finally}
use Rattle.parse_stmts.specs.Run.{run_proc, run_module}

-- ---- expressions

ends_value : (k : ℕ) (x : Origin) (n : ℕ) (ts : List Token) → 64 * length ts + 32 ≤ k → Ends (length ts) (run_value k x n ts)
ends_value k x n ts le = ends_expr k x (Lines n) ts le

ends_here : (k : ℕ) (x : Origin) (n : ℕ) (ts : List Token) → 64 * length ts + 32 ≤ k → Ends (length ts) (run_here k x n ts)
ends_here k x n ts le = ends_unless (stays (Lines n) ts) ts (ends_value k x n ts le)

ends_optional : (k : ℕ) (x : Origin) (n : ℕ) (ts : List Token) → 64 * length ts + 32 ≤ k → Ends (suc (length ts)) (run_optional k x n ts)
ends_optional k x n ts le = ends_if (stays (Lines n) ts && expr_at x ts) (ends_then _ (ends_value k x n ts le) (λ a rest lt. e_read (omega (arith, lt))))
    (e_read (omega arith))

-- ---- simple statements

ends_module_name : (x : Origin) (i : Layout) (ts : List Token) → Ends (length ts) (run_module_name x i ts)
ends_module_name x i [] = ends_name x i []
ends_module_name x i (tok ∷ ts) = ends_if (path_at x i (tok ∷ ts)) (e_not (omega arith)) (ends_name x i (tok ∷ ts))

ends_more_modules : (k : ℕ) (x : Origin) (n : ℕ) (some : List Name) (ts : List Token) → 64 * length ts + 1 ≤ k
    → Ends (suc (length ts)) (run_more_modules k x n some ts)
ends_more_modules zero x n some ts le = absurd (omega (arith, le))
ends_more_modules (suc k) x n some [] le = e_read (omega arith)
ends_more_modules (suc k) x n some (tok ∷ ts) le =
    ends_if (comma_at (Lines n) (tok ∷ ts)) (ends_then _ (ends_module_name x Brackets ts)
    (λ name mid lt. wider (omega (arith, lt)) (ends_more_modules k x n (some ++ name ∷ []) mid (omega (arith, le, lt))))) (e_read (omega arith))

ends_operands : (k : ℕ) (x : Origin) (n : ℕ) (some : Parts) (ts : List Token) → 64 * length ts + 1 ≤ k → Ends (suc (length ts)) (run_operands k x n some ts)
ends_operands zero x n some ts le = absurd (omega (arith, le))
ends_operands (suc k) x n some [] le = e_read (omega arith)
ends_operands (suc k) x n some (tok ∷ ts) le =
    ends_if (comma_at (Lines n) (tok ∷ ts)) (ends_then _ (ends_value k x n ts (omega (arith, le)))
    (λ a mid lt. wider (omega (arith, lt)) (ends_operands k x n (and_part some a) mid (omega (arith, le, lt))))) (e_read (omega arith))

ends_command : (k : ℕ) (x : Origin) (n : ℕ) (a : Term) (ts : List Token) → 64 * length ts + 32 ≤ k → Ends (length ts) (run_command k x n a ts)
ends_command k x n a ts le =
    ends_then _ (ends_value k x n ts le) (λ b mid lt.
    ends_then _ (ends_operands k x n (part b no_parts) mid (omega (arith, le, lt))) (λ all rest less. e_read (omega (arith, lt, less))))

ends_assigned : (k : ℕ) (op : Option AssignOp) (x : Origin) (n : ℕ) (a : Term) (ts : List Token) → 64 * length ts + 32 ≤ k
    → Ends (suc (length ts)) (run_assigned k op x n a ts)
ends_assigned k None x n a ts le = e_read (omega arith)
ends_assigned k (Some op) x n a ts le = let h = behind_within ts in ends_then _ (ends_here k x n (behind ts) (omega (arith, le, h)))
    (λ b rest lt. e_read (omega (arith, lt, h)))

ends_expression : (k : ℕ) (x : Origin) (n : ℕ) (ts : List Token) → 64 * length ts + 32 ≤ k → Ends (length ts) (run_expression k x n ts)
ends_expression k x n ts le =
    ends_then _ (ends_value k x n ts le)
    (λ a mid lt. wider (omega (arith, lt)) (ends_assigned k (assigned_by (lead_at ts) (assign_on x n mid)) x n a mid (omega (arith, le, lt))))

ends_plain : (k : ℕ) (x : Origin) (n : ℕ) (ts : List Token) → 64 * length ts + 32 ≤ k → Ends (length ts) (run_plain k x n ts)
ends_plain k x n ts le =
    ends_if (atom_at x ts) (ends_then _ (ends_of ts (omega arith) (callees_end x n ts k le)) (λ a mid lt.
    ends_if (operand_on x (Lines n) mid) (wider (omega (arith, lt)) (ends_command k x n a mid (omega (arith, le, lt)))) (ends_expression k x n ts le)))
    (ends_expression k x n ts le)

ends_bound : (k : ℕ) (binding : Binding) (x : Origin) (n : ℕ) (at : Place) (ts : List Token) → 64 * length ts + 64 ≤ k
    → Ends (length ts) (run_bound k binding x n at ts)
ends_bound k binding x n at ts le = ends_then _ (definitions_end x (Lines n) ts k le) (λ one rest lt. e_read lt)

ends_simple_by : (k : ℕ) (it : Simple) (x : Origin) (n : ℕ) (tok : Token) (ts : List Token) → 64 * suc (length ts) + 32 ≤ k
    → Ends (suc (length ts)) (run_simple_by k it x n tok ts)
ends_simple_by k S.Discard x n tok ts le = ends_then _ (ends_optional k x n ts (omega (arith, le))) (λ a rest lt. e_read lt)
ends_simple_by k S.Return x n tok ts le = ends_then _ (ends_optional k x n ts (omega (arith, le))) (λ a rest lt. e_read lt)
ends_simple_by k S.Raise x n tok ts le = ends_then _ (ends_optional k x n ts (omega (arith, le))) (λ a rest lt. e_read lt)
ends_simple_by k S.Break x n tok ts le = e_read (omega arith)
ends_simple_by k S.Continue x n tok ts le = e_read (omega arith)
ends_simple_by k S.Import x n tok ts le =
    ends_then _ (ends_module_name x (Lines n) ts) (λ name mid lt.
    ends_then _ (ends_more_modules k x n (name ∷ []) mid (omega (arith, le, lt))) (λ all rest less. e_read (omega (arith, lt, less))))
ends_simple_by k S.Let x n tok ts le = wider (omega arith) (ends_bound k B.Let x n (place_at x tok) ts (omega (arith, le)))
ends_simple_by k S.Var x n tok ts le = wider (omega arith) (ends_bound k B.Var x n (place_at x tok) ts (omega (arith, le)))
ends_simple_by k S.Const x n tok ts le = wider (omega arith) (ends_bound k B.Const x n (place_at x tok) ts (omega (arith, le)))
ends_simple_by k S.Plain x n tok ts le = ends_plain k x n (tok ∷ ts) le

ends_simple : (k : ℕ) (x : Origin) (n : ℕ) (ts : List Token) → 64 * length ts + 32 ≤ k → Ends (length ts) (run_simple k x n ts)
ends_simple k x n [] le = e_not tt
ends_simple k x n (tok ∷ ts) le = ends_simple_by k (simple_of tok.kind) x n tok ts le

ends_line : (k : ℕ) (x : Origin) (n : ℕ) (some : Statements) (ts : List Token) → 64 * length ts + 33 ≤ k → Ends (length ts) (run_line k x n some ts)
ends_line zero x n some ts le = absurd (omega (arith, le))
ends_line (suc k) x n some ts le =
    ends_then _ (ends_simple k x n ts (omega (arith, le))) (λ s mid lt.
    let h = behind_within mid in
    ends_if (word_on n (is_punct 59) mid) (ends_unless (stays (Lines n) (behind mid)) (behind mid)
    (wider (omega (arith, lt, h)) (ends_line k x n (and_statement some s) (behind mid) (omega (arith, le, lt, h))))) (e_read lt))

-- ---- parts of statements with blocks

ends_label : (k : ℕ) (x : Origin) (n : ℕ) (ts : List Token) → 64 * length ts + 32 ≤ k → Ends (length ts) (run_label k x n ts)
ends_label k x n ts le =
    ends_then _ (ends_value k x n ts le) (λ a mid lt.
    let h = behind_within mid in
    ends_if (dots_at x (Lines n) mid) (ends_then _ (ends_here k x n (behind mid) (omega (arith, le, lt, h)))
    (λ b rest less. e_read (omega (arith, lt, h, less)))) (e_read lt))

ends_labels : (k : ℕ) (x : Origin) (n : ℕ) (some : Parts) (ts : List Token) → 64 * length ts + 1 ≤ k → Ends (suc (length ts)) (run_labels k x n some ts)
ends_labels zero x n some ts le = absurd (omega (arith, le))
ends_labels (suc k) x n some [] le = e_read (omega arith)
ends_labels (suc k) x n some (tok ∷ ts) le =
    ends_if (comma_at (Lines n) (tok ∷ ts)) (ends_then _ (ends_label k x n ts (omega (arith, le)))
    (λ a mid lt. wider (omega (arith, lt)) (ends_labels k x n (and_part some a) mid (omega (arith, le, lt))))) (e_read (omega arith))

ends_course : (k : ℕ) (x : Origin) (n : ℕ) (ts : List Token) → 64 * length ts + 32 ≤ k → Ends (length ts) (run_course k x n ts)
ends_course k x n ts le =
    ends_then _ (ends_here k x n ts le) (λ a mid lt.
    let h = behind_within mid in
    ends_if (dots_at x (Lines n) mid) (ends_then _ (ends_here k x n (behind mid) (omega (arith, le, lt, h)))
    (λ b rest less. e_read (omega (arith, lt, h, less))))
    (ends_if (below_at x n mid) (ends_then _ (ends_here k x n (behind mid) (omega (arith, le, lt, h)))
    (λ b rest less. e_read (omega (arith, lt, h, less)))) (e_read lt)))

ends_types_of : (k : ℕ) (x : Origin) (n : ℕ) (ts : List Token) → 64 * length ts + 64 ≤ k → Ends (suc (length ts)) (run_types_of k x n ts)
ends_types_of k x n ts le = ends_if (colon_at (Lines n) ts) (e_read (omega arith)) (wider (omega arith) (names_end x (Lines n) ts k le))

ends_binding : (some : Bool) (x : Origin) (n : ℕ) (ts : List Token) → Ends (suc (length ts)) (run_binding some x n ts)
ends_binding some x n ts =
    let h = behind_within ts in
    ends_if (some && word_on n is_as ts) (ends_then _ (ends_name x (Lines n) (behind ts)) (λ name rest lt. e_read (omega (arith, lt, h))))
    (e_read (omega arith))

past_within_by : (b : Bool) (tok : Token) (ts : List Token) → length (if b then ts else tok ∷ ts) ≤ suc (length ts)
past_within_by true tok ts = omega arith
past_within_by false tok ts = omega arith

past_within : (i : Layout) (ts : List Token) → length (past_colon i ts) ≤ length ts
past_within i [] = omega arith
past_within i (tok ∷ ts) = past_within_by (goes_on i tok.indent && is_punct 58 tok.kind) tok ts

-- ---- an expression that is alone on its line

-- where one is found fewer than m tokens are left
data Finds (m : ℕ) : Out (Option Term) → Type 0 where
  f_some : {a : Term} {rest : List Token} → length rest < m → Finds m (got (Some a) rest)
  f_none : {rest : List Token} → Finds m (got None rest)
  f_not : {why : Why} → HasPlace why → Finds m (bad why)

finds_few : (b : Bool) (whole : List Token) (a : Term) (rest : List Token) → length rest < length whole
    → Finds (length whole) (if b then bad (too_deep whole) else got (Some a) rest)
finds_few true whole a rest lt = f_not (omega (arith, lt))
finds_few false whole a rest lt = f_some lt

finds_over : (b c : Bool) (whole : List Token) (a : Term) (rest : List Token) → length rest < length whole
    → Finds (length whole) (if b then (if c then bad (too_deep whole) else got (Some a) rest) else got None whole)
finds_over true c whole a rest lt = finds_few c whole a rest lt
finds_over false c whole a rest lt = f_none

finds_in : {o : E.Out Term} (n : ℕ) (whole : List Token) → N.Ends (length whole) o → Finds (length whole) (alone_in n whole o)
finds_in n whole (N.e_read {a = a} {rest = rest} lt) = finds_over (line_over n rest) (nat_lt most_levels (levels a)) whole a rest lt
finds_in n whole (N.e_deep some) = f_none
finds_in n whole N.e_stuck = f_none

finds_alone : (k : ℕ) (x : Origin) (n : ℕ) (ts : List Token) → 64 * length ts + 32 ≤ k → Finds (length ts) (run_alone k x n ts)
finds_alone k x n ts le = finds_in n ts (exprs_end x (Start n) MOST_ALONE ts k le)

ends_found : {Y : Type 0} {m n : ℕ} {o : Out (Option Term)} (go : Option Term → List Token → Out Y) → Finds m o
    → ((a : Term) (rest : List Token) → length rest < m → Ends n (go (Some a) rest)) → ((rest : List Token) → Ends n (go None rest)) → Ends n (then_do o go)
ends_found go (f_some lt) f g = f _ _ lt
ends_found go f_none f g = g _
ends_found go (f_not p) f g = e_not p

ends_alone : (k : ℕ) (a : Term) (it : Lead) (x : Origin) (n left : ℕ) (some : Statements) (tok : Token) (ts rest : List Token) → length rest < suc (length ts)
    → 1 ≤ k → Ends (suc (length ts)) (run_choice k (Some a) it x n left some tok ts rest)
ends_alone zero a it x n left some tok ts rest lt le = absurd (omega (arith, le))
ends_alone (suc k) a it x n left some tok ts rest lt le = e_read lt

ends_choice : (k : ℕ) (it : Lead) (x : Origin) (n left : ℕ) (some : Statements) (tok : Token) (ts : List Token) → 64 * suc (length ts) + 32 ≤ k
    → ((rest : List Token) → Ends (suc (length ts)) (run_choice k None it x n left some tok ts rest))
    → Ends (suc (length ts)) (then_do (run_alone k x n (tok ∷ ts)) (λ found rest. run_choice k found it x n left some tok ts rest))
ends_choice k it x n left some tok ts le h =
    ends_found (λ found rest. run_choice k found it x n left some tok ts rest) (finds_alone k x n (tok ∷ ts) (omega (arith, le)))
    (λ a rest lt. ends_alone k a it x n left some tok ts rest lt (omega (arith, le))) h

-- ---- statements

ends_no_level : {m : ℕ} (b : Bool) (tok : Token) (ts : List Token) → Ends {X = Statements} m (bad (if b then too_deep (tok ∷ ts) else stuck_at (tok ∷ ts)))
ends_no_level true tok ts = e_not (omega arith)
ends_no_level false tok ts = ends_stuck (tok ∷ ts)

mutual
  ends_statements : (k : ℕ) (x : Origin) (n left : ℕ) (some : Statements) (ts : List Token) → 64 * length ts + 50 ≤ k
      → Ends (suc (length ts)) (run_statements k x n left some ts)
  ends_statements zero x n left some ts le = absurd (omega (arith, le))
  ends_statements (suc k) x n left some ts le =
      ends_if (stands_at n ts) (ends_then _ (ends_statement k x n left some ts (omega (arith, le)))
      (λ all mid lt. wider (omega (arith, lt)) (ends_statements k x n left all mid (omega (arith, le, lt)))))
      (ends_unless (ends_at n ts) ts (e_read (omega arith)))

  ends_statement : (k : ℕ) (x : Origin) (n left : ℕ) (some : Statements) (ts : List Token) → 64 * length ts + 49 ≤ k
      → Ends (length ts) (run_statement k x n left some ts)
  ends_statement zero x n left some ts le = absurd (omega (arith, le))
  ends_statement (suc k) x n left some [] le = e_not tt
  ends_statement (suc k) x n left some (tok ∷ ts) le = ends_led k (lead n tok ts) x n left some tok ts (omega (arith, le))

  ends_led : (k : ℕ) (it : Lead) (x : Origin) (n left : ℕ) (some : Statements) (tok : Token) (ts : List Token) → 64 * suc (length ts) + 48 ≤ k
      → Ends (suc (length ts)) (run_led k it x n left some tok ts)
  ends_led zero it x n left some tok ts le = absurd (omega (arith, le))
  ends_led (suc k) L.Line x n left some tok ts le = ends_line k x n some (tok ∷ ts) (omega (arith, le))
  ends_led (suc k) L.If x n left some tok ts le =
      ends_choice k L.If x n left some tok ts (omega (arith, le)) (λ rest. ends_no_choice k L.If x n left some tok ts rest (omega (arith, le)))
  ends_led (suc k) L.Case x n left some tok ts le =
      ends_choice k L.Case x n left some tok ts (omega (arith, le)) (λ rest. ends_no_choice k L.Case x n left some tok ts rest (omega (arith, le)))
  ends_led (suc k) it x n left some tok ts le = ends_then _ (ends_compound k it x n left tok ts (omega (arith, le))) (λ s rest lt. e_read lt)

  ends_no_choice : (k : ℕ) (it : Lead) (x : Origin) (n left : ℕ) (some : Statements) (tok : Token) (ts rest : List Token) → 64 * suc (length ts) + 47 ≤ k
      → Ends (suc (length ts)) (run_choice k None it x n left some tok ts rest)
  ends_no_choice zero it x n left some tok ts rest le = absurd (omega (arith, le))
  ends_no_choice (suc k) it x n left some tok ts rest le = ends_then _ (ends_compound k it x n left tok ts (omega (arith, le))) (λ s mid lt. e_read lt)

  ends_compound : (k : ℕ) (it : Lead) (x : Origin) (n left : ℕ) (tok : Token) (ts : List Token) → 64 * suc (length ts) + 46 ≤ k
      → Ends (suc (length ts)) (run_compound k it x n left tok ts)
  ends_compound zero it x n left tok ts le = absurd (omega (arith, le))
  ends_compound (suc k) L.Line x n left tok ts le = ends_stuck (tok ∷ ts)
  ends_compound (suc k) L.If x n left tok ts le = ends_the_if k x n left tok ts (omega (arith, le))
  ends_compound (suc k) L.Case x n left tok ts le = ends_case k x n left tok ts (omega (arith, le))
  ends_compound (suc k) L.While x n left tok ts le =
      ends_then _ (ends_here k x n ts (omega (arith, le))) (λ c mid lt.
      ends_then _ (ends_body k x n left mid (omega (arith, le, lt))) (λ block rest less. e_read (omega (arith, lt, less))))
  ends_compound (suc k) L.For x n left tok ts le =
      ends_then _ (ends_name x (Lines n) ts) (λ name mid lt.
      let h = behind_within mid in
      ends_unless (word_on n is_in mid) mid (
      ends_then _ (ends_course k x n (behind mid) (omega (arith, le, lt, h))) (λ course end less.
      ends_then _ (ends_body k x n left end (omega (arith, le, lt, h, less))) (λ block rest least. e_read (omega (arith, lt, h, less, least))))))
  ends_compound (suc k) L.Try x n left tok ts le = ends_try k x n left tok ts (omega (arith, le))
  ends_compound (suc k) L.Defer x n left tok ts le = ends_then _ (ends_body k x n left ts (omega (arith, le))) (λ block rest lt. e_read (omega (arith, lt)))
  ends_compound (suc k) L.Proc x n left tok ts le = ends_proc k x n left tok ts (omega (arith, le))
  ends_compound (suc k) L.Type x n left tok ts le = ends_then _ (type_declarations_end x n ts k (omega (arith, le))) (λ all rest lt. e_read lt)
  ends_compound (suc k) L.Section x n left tok ts le = ends_then _ (definition_blocks_end x n ts k (omega (arith, le))) (λ all rest lt. e_read lt)

  ends_body : (k : ℕ) (x : Origin) (n left : ℕ) (ts : List Token) → 64 * length ts + 52 ≤ k → Ends (suc (length ts)) (run_body k x n left ts)
  ends_body zero x n left ts le = absurd (omega (arith, le))
  ends_body (suc k) x n left ts le =
      let h = behind_within ts in ends_unless (colon_at (Lines n) ts) ts (wider (omega (arith, h)) (ends_block k x n left (behind ts) (omega (arith, le, h))))

  ends_block : (k : ℕ) (x : Origin) (n left : ℕ) (ts : List Token) → 64 * length ts + 51 ≤ k → Ends (suc (length ts)) (run_block k x n left ts)
  ends_block zero x n left ts le = absurd (omega (arith, le))
  ends_block (suc k) x n zero [] le = e_not tt
  ends_block (suc k) x n zero (tok ∷ ts) le = ends_no_level (opens_block x n (tok ∷ ts)) tok ts
  ends_block (suc k) x n (suc left) ts le =
      ends_if (on_line_at ts) (wider (omega arith) (ends_line k x n empty ts (omega (arith, le))))
      (ends_unless (deeper_at n ts) ts (ends_statements k x (level_at ts) left empty ts (omega (arith, le))))

  -- ---- `if`

  ends_the_if : (k : ℕ) (x : Origin) (n left : ℕ) (tok : Token) (ts : List Token) → 64 * suc (length ts) + 45 ≤ k
      → Ends (suc (length ts)) (run_if k x n left tok ts)
  ends_the_if zero x n left tok ts le = absurd (omega (arith, le))
  ends_the_if (suc k) x n left tok ts le =
      ends_then _ (ends_branch k x n left no_branches (place_at x tok) ts (omega (arith, le))) (λ one mid lt.
      ends_then _ (ends_elifs k x n left one mid (omega (arith, le, lt))) (λ all end less.
      ends_then _ (ends_else k x n left end (omega (arith, le, lt, less))) (λ other rest least. e_read (omega (arith, lt, less, least)))))

  ends_branch : (k : ℕ) (x : Origin) (n left : ℕ) (some : Branches) (at : Place) (ts : List Token) → 64 * length ts + 53 ≤ k
      → Ends (length ts) (run_branch k x n left some at ts)
  ends_branch zero x n left some at ts le = absurd (omega (arith, le))
  ends_branch (suc k) x n left some at ts le =
      ends_then _ (ends_here k x n ts (omega (arith, le))) (λ c mid lt.
      ends_then _ (ends_body k x n left mid (omega (arith, le, lt))) (λ block rest less. e_read (omega (arith, lt, less))))

  ends_elifs : (k : ℕ) (x : Origin) (n left : ℕ) (some : Branches) (ts : List Token) → 64 * length ts + 1 ≤ k
      → Ends (suc (length ts)) (run_elifs k x n left some ts)
  ends_elifs zero x n left some ts le = absurd (omega (arith, le))
  ends_elifs (suc k) x n left some [] le = e_read (omega arith)
  ends_elifs (suc k) x n left some (tok ∷ ts) le =
      ends_if (branch_at (Lines n) is_elif (tok ∷ ts)) (ends_then _ (ends_branch k x n left some (place_at x tok) ts (omega (arith, le)))
      (λ all mid lt. wider (omega (arith, lt)) (ends_elifs k x n left all mid (omega (arith, le, lt))))) (e_read (omega arith))

  ends_else : (k : ℕ) (x : Origin) (n left : ℕ) (ts : List Token) → 64 * length ts + 53 ≤ k → Ends (suc (length ts)) (run_else k x n left ts)
  ends_else zero x n left ts le = absurd (omega (arith, le))
  ends_else (suc k) x n left ts le =
      let h = behind_within ts in
      ends_if (branch_at (Lines n) is_else ts) (wider (omega (arith, h)) (ends_body k x n left (behind ts) (omega (arith, le, h)))) (e_read (omega arith))

  -- ---- `case`

  ends_case : (k : ℕ) (x : Origin) (n left : ℕ) (tok : Token) (ts : List Token) → 64 * suc (length ts) + 45 ≤ k
      → Ends (suc (length ts)) (run_case k x n left tok ts)
  ends_case zero x n left tok ts le = absurd (omega (arith, le))
  ends_case (suc k) x n left tok ts le =
      ends_then _ (ends_here k x n ts (omega (arith, le))) (λ s mid lt.
      let h = past_within (Lines n) mid in wider (omega (arith, lt, h)) (ends_branches k x n left tok s (past_colon (Lines n) mid) (omega (arith, le, lt, h))))

  ends_branches : (k : ℕ) (x : Origin) (n left : ℕ) (tok : Token) (s : Term) (ts : List Token) → 64 * length ts + 54 ≤ k
      → Ends (suc (length ts)) (run_branches k x n left tok s ts)
  ends_branches zero x n left tok s ts le = absurd (omega (arith, le))
  ends_branches (suc k) x n left tok s [] le = e_not tt
  ends_branches (suc k) x n left tok s (first ∷ ts) le =
      let m : ℕ = branch_level n first.indent in
      ends_unless (first_of_at (Lines n) (first ∷ ts)) (first ∷ ts) (
      ends_then _ (ends_ofs k x m left no_branches (first ∷ ts) (omega (arith, le))) (λ all end lt.
      ends_then _ (ends_else k x m left end (omega (arith, le, lt))) (λ other rest less. e_read (omega (arith, lt, less)))))

  ends_the_of : (k : ℕ) (x : Origin) (n left : ℕ) (some : Branches) (at : Place) (ts : List Token) → 64 * length ts + 53 ≤ k
      → Ends (length ts) (run_of k x n left some at ts)
  ends_the_of zero x n left some at ts le = absurd (omega (arith, le))
  ends_the_of (suc k) x n left some at ts le =
      ends_unless (stays (Lines n) ts) ts (
      ends_then _ (ends_label k x n ts (omega (arith, le))) (λ a mid lt.
      ends_then _ (ends_labels k x n (part a no_parts) mid (omega (arith, le, lt))) (λ labels end less.
      ends_then _ (ends_body k x n left end (omega (arith, le, lt, less))) (λ block rest least. e_read (omega (arith, lt, less, least))))))

  ends_ofs : (k : ℕ) (x : Origin) (n left : ℕ) (some : Branches) (ts : List Token) → 64 * length ts + 1 ≤ k
      → Ends (suc (length ts)) (run_ofs k x n left some ts)
  ends_ofs zero x n left some ts le = absurd (omega (arith, le))
  ends_ofs (suc k) x n left some [] le = e_read (omega arith)
  ends_ofs (suc k) x n left some (tok ∷ ts) le =
      ends_if (branch_at (Lines n) is_of (tok ∷ ts)) (ends_then _ (ends_the_of k x n left some (place_at x tok) ts (omega (arith, le)))
      (λ all mid lt. wider (omega (arith, lt)) (ends_ofs k x n left all mid (omega (arith, le, lt))))) (e_read (omega arith))

  -- ---- `try` and `proc`

  ends_try : (k : ℕ) (x : Origin) (n left : ℕ) (tok : Token) (ts : List Token) → 64 * suc (length ts) + 45 ≤ k
      → Ends (suc (length ts)) (run_try k x n left tok ts)
  ends_try zero x n left tok ts le = absurd (omega (arith, le))
  ends_try (suc k) x n left tok ts le =
      ends_then _ (ends_body k x n left ts (omega (arith, le))) (λ block mid lt.
      ends_then _ (ends_handlers k x n left no_handlers mid (omega (arith, le, lt))) (λ all end less.
      ends_then _ (ends_finally k x n left end (omega (arith, le, lt, less))) (λ last rest least.
      ends_unless (have_some all || hold_some last) rest (e_read (omega (arith, lt, less, least))))))

  ends_handler : (k : ℕ) (x : Origin) (n left : ℕ) (ts : List Token) → 64 * length ts + 65 ≤ k → Ends (suc (length ts)) (run_handler k x n left ts)
  ends_handler zero x n left ts le = absurd (omega (arith, le))
  ends_handler (suc k) x n left ts le =
      ends_then _ (ends_types_of k x n ts (omega (arith, le))) (λ names a la.
      ends_then _ (ends_binding (are_some names) x n a) (λ binding b lb.
      ends_then _ (ends_body k x n left b (omega (arith, le, la, lb))) (λ block rest lt. e_read (omega (arith, la, lb, lt)))))

  ends_handlers : (k : ℕ) (x : Origin) (n left : ℕ) (some : Handlers) (ts : List Token) → 64 * length ts + 2 ≤ k
      → Ends (suc (length ts)) (run_handlers k x n left some ts)
  ends_handlers zero x n left some ts le = absurd (omega (arith, le))
  ends_handlers (suc k) x n left some [] le = e_read (omega arith)
  ends_handlers (suc k) x n left some (tok ∷ ts) le =
      ends_if (branch_at (Lines n) is_except (tok ∷ ts)) (ends_then _ (ends_handler k x n left ts (omega (arith, le))) (λ one mid lt.
      ends_if (are_some one.names) (wider (omega (arith, lt)) (ends_handlers k x n left (and_caught some (place_at x tok) one) mid (omega (arith, le, lt))))
      (e_read (omega (arith, lt))))) (e_read (omega arith))

  ends_finally : (k : ℕ) (x : Origin) (n left : ℕ) (ts : List Token) → 64 * length ts + 53 ≤ k → Ends (suc (length ts)) (run_finally k x n left ts)
  ends_finally zero x n left ts le = absurd (omega (arith, le))
  ends_finally (suc k) x n left ts le =
      let h = behind_within ts in
      ends_if (branch_at (Lines n) is_finally ts) (wider (omega (arith, h)) (ends_body k x n left (behind ts) (omega (arith, le, h)))) (e_read (omega arith))

  ends_proc : (k : ℕ) (x : Origin) (n left : ℕ) (tok : Token) (ts : List Token) → 64 * suc (length ts) + 45 ≤ k
      → Ends (suc (length ts)) (run_proc k x n left tok ts)
  ends_proc zero x n left tok ts le = absurd (omega (arith, le))
  ends_proc (suc k) x n left tok ts le =
      ends_then _ (heads_end x (Lines n) ts k (omega (arith, le))) (λ head mid lt.
      let h = behind_within mid in
      ends_if (equals_at (Lines n) mid) (ends_then _ (ends_block k x n left (behind mid) (omega (arith, le, lt, h)))
      (λ block rest less. e_read (omega (arith, lt, h, less))))
      (e_read (omega (arith, lt))))

pub ends_module : (k : ℕ) (x : Origin) (ts : List Token) → 64 * length ts + 50 ≤ k → Ends (suc (length ts)) (run_module k x ts)
ends_module k x ts le =
    ends_then _ (ends_statements k x (level_at ts) 64 empty ts le) (λ all rest lt. ends_unless (end_at rest) rest (e_read lt))
