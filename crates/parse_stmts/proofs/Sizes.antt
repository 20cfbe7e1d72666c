-- A tree has at most two nodes for each token.
use Rattle.std.proofs.Common.{◌≡◌, ℕ, suc, ◌≤◌, ◌+◌, ◌*◌, List, [], ◌∷◌, length, arith, length-append}
use Rattle.std.specs.Prelude.{Option}
use Rattle.arc_base.specs.declared.place.Place.{Place}
use Rattle.indent_scanner.specs.declared.token.Token.{Token}
use Rattle.nim_tree.specs.declared.name.Name.{Name}
use Rattle.nim_tree.specs.Lists.{if_there, one}
use Rattle.nim_tree.specs.Terms.{Term, Parts, no_parts, part, nodes, nodes_in, place_of}
use Rattle.nim_tree.specs.Statements.{Course, course_nodes, Statement, evaluates, Statements, empty, then as next, and_statement, Branches, no_branches, branch}
use Rattle.nim_tree.specs.Statements.{and_branch, Handlers, no_handlers, handler, nodes_of, all_nodes, branch_nodes, handler_nodes}
use Rattle.parse_exprs.specs.Look.{Origin, place_at, lead_at, is_punct, is_elif, is_else, is_of}
use Rattle.parse_decls.specs.Grammar.{e_none, e_some}
use Rattle.parse_decls.proofs.ForCallers.{names_takes, declarations_takes, head_takes}
use Rattle.parse_stmts.specs.Look.{is_in, is_as, is_except, is_finally}
use Rattle.parse_stmts.specs.Run.{Caught, and_caught}
use Rattle.parse_stmts.specs.Grammar.{MoreModules, m_over, m_next, MoreOperands, o_over, o_next, IsPlain, p_command, p_value, p_assign}
use Rattle.parse_stmts.specs.Grammar.{IsSimple, i_discard, i_return, i_raise, i_break, i_continue, i_import, i_define, i_plain, IsLine, l_last, l_more}
use Rattle.parse_stmts.specs.Grammar.{IsLabel, a_one, a_range, MoreLabels, a_over, a_next, IsCourse, f_each, f_up_to, f_below, Alias, AreStatements, s_over}
use Rattle.parse_stmts.specs.Grammar.{s_next, IsStatement, s_line, s_alone, s_choice, s_compound, IsCompound, c_if, c_case, c_while, c_for, c_try, c_defer}
use Rattle.parse_stmts.specs.Grammar.{c_proc, c_forward, c_type, c_section, IsBody, b_body, IsBlock, b_line, b_deeper, IsBranch, r_branch, MoreElifs, r_over}
use Rattle.parse_stmts.specs.Grammar.{r_elif, IsElse, r_no_else, r_else, AreBranches, r_branches, IsOf, r_of, MoreOfs, r_last, r_next, IsHandler, h_bare}
use Rattle.parse_stmts.specs.Grammar.{h_typed, MoreHandlers, h_over, h_last, h_next, IsFinally, h_no_finally, h_finally, IsModule}
use Rattle.parse_stmts.proofs.Spanning.{Spans, no_spans, then_spans, within, one_token, word_spans, branch_spans, comma_spans, colon_spans, equals_spans}
use Rattle.parse_stmts.proofs.Spanning.{dots_spans, below_spans, past_spans, assign_spans, name_spans, takes_spans, some_nodes, expression_spans, value_spans}
use Rattle.parse_stmts.proofs.Spanning.{here_spans, called_spans, optional_spans, nodes_and, definition_spans, definitions_spans}

-- ---- one more

statement_more : (some : Statements) (s : Statement) → all_nodes (and_statement some s) ≡ all_nodes some + nodes_of s
statement_more empty s = omega arith
statement_more (next first rest) s = let h = statement_more rest s in omega (arith, h)

branch_more : (some : Branches) (at : Place) (tests : Parts) (body : Statements)
    → branch_nodes (and_branch some at tests body) ≡ branch_nodes some + suc (nodes_in tests + all_nodes body)
branch_more no_branches at tests body = omega arith
branch_more (branch p ts block rest) at tests body = let h = branch_more rest at tests body in omega (arith, h)

handler_more : (some : Handlers) (at : Place) (c : Caught)
    → handler_nodes (and_caught some at c) ≡ handler_nodes some + suc (length c.names + if_there one c.binding + all_nodes c.body)
handler_more no_handlers at c = omega arith
handler_more (handler p names alias body rest) at c = let h = handler_more rest at c in omega (arith, h)

-- ---- simple statements

modules_spans : {x : Origin} {n : ℕ} {some all : List Name} {ts rest : List Token} → MoreModules x n some all ts rest
    → Spans (length some) (length all) ts rest
modules_spans (m_over e) = no_spans
modules_spans {n = n} {some = some} {ts = ts} (m_next {name = name} e d m) =
    let h = length-append some (name ∷ []) in within (then_spans (comma_spans n ts e) (then_spans (name_spans d.is) (modules_spans m))) (omega (arith, h))

operands_spans : {x : Origin} {n : ℕ} {some all : Parts} {ts rest : List Token} → MoreOperands x n some all ts rest
    → Spans (nodes_in some) (nodes_in all) ts rest
operands_spans (o_over e) = no_spans
operands_spans {n = n} {some = some} {ts = ts} (o_next {a = a} e d m) =
    let h = nodes_and some a in within (then_spans (comma_spans n ts e) (then_spans (value_spans d) (operands_spans m))) (omega (arith, h))

plain_spans : {x : Origin} {n : ℕ} {s : Statement} {ts rest : List Token} → IsPlain x n s ts rest → Spans 0 (nodes_of s) ts rest
plain_spans (p_command {a = a} e c o d m) =
    let h = some_nodes a in
    within (then_spans (called_spans c) (then_spans (value_spans d) (operands_spans m))) (omega (arith, h))
plain_spans (p_value {a = a} c d e) = let h = some_nodes a in within (value_spans d) (omega (arith, h))
plain_spans {x} {n} (p_assign {op = op} {ts = ts} {mid = mid} c d e h) =
    within (then_spans (value_spans d) (then_spans (assign_spans x n (lead_at ts) op mid e) (here_spans h))) (omega arith)

simple_spans : {x : Origin} {n : ℕ} {s : Statement} {ts rest : List Token} → IsSimple x n s ts rest → Spans 0 (nodes_of s) ts rest
simple_spans (i_discard {tok = tok} {ts = ts} e d) = within (then_spans (one_token tok ts) (optional_spans d)) (omega arith)
simple_spans (i_return {tok = tok} {ts = ts} e d) = within (then_spans (one_token tok ts) (optional_spans d)) (omega arith)
simple_spans (i_raise {tok = tok} {ts = ts} e d) = within (then_spans (one_token tok ts) (optional_spans d)) (omega arith)
simple_spans (i_break {tok = tok} {ts = ts} e) = within (one_token tok ts) (omega arith)
simple_spans (i_continue {tok = tok} {ts = ts} e) = within (one_token tok ts) (omega arith)
simple_spans (i_import {tok = tok} {ts = ts} e d m) =
    within (then_spans (one_token tok ts) (then_spans (name_spans d.is) (modules_spans m))) (omega arith)
simple_spans (i_define {d = d} {tok = tok} {ts = ts} e b r) =
    within (then_spans (one_token tok ts) (definition_spans d r.reads)) (omega arith)
simple_spans (i_plain e d) = plain_spans d

line_spans : {x : Origin} {n : ℕ} {some all : Statements} {ts rest : List Token} → IsLine x n some all ts rest
    → Spans (all_nodes some) (all_nodes all) ts rest
line_spans (l_last {s = s} {some = some} d e) =
    let h = statement_more some s in within (simple_spans d) (omega (arith, h))
line_spans {n = n} (l_more {s = s} {some = some} {mid = mid} d e h m) =
    let k = statement_more some s in
    within (then_spans (simple_spans d) (then_spans (word_spans n (is_punct 59) mid e) (line_spans m))) (omega (arith, k))

-- ---- parts of statements with blocks

label_spans : {x : Origin} {n : ℕ} {a : Term} {ts rest : List Token} → IsLabel x n a ts rest → Spans 0 (2 * nodes a) ts rest
label_spans (a_one d e) = value_spans d
label_spans {x} {n} (a_range {mid = mid} d e h) = within (then_spans (value_spans d) (then_spans (dots_spans x n mid e) (here_spans h))) (omega arith)

labels_spans : {x : Origin} {n : ℕ} {some all : Parts} {ts rest : List Token} → MoreLabels x n some all ts rest
    → Spans (nodes_in some) (nodes_in all) ts rest
labels_spans (a_over e) = no_spans
labels_spans {n = n} {some = some} {ts = ts} (a_next {a = a} e d m) =
    let h = nodes_and some a in within (then_spans (comma_spans n ts e) (then_spans (label_spans d) (labels_spans m))) (omega (arith, h))

course_spans : {x : Origin} {n : ℕ} {a : Course} {ts rest : List Token} → IsCourse x n a ts rest → Spans 0 (2 * course_nodes a) ts rest
course_spans (f_each h e g) = here_spans h
course_spans {x} {n} (f_up_to {mid = mid} h e d) = within (then_spans (here_spans h) (then_spans (dots_spans x n mid e) (here_spans d))) (omega arith)
course_spans {x} {n} (f_below {mid = mid} h e g d) = within (then_spans (here_spans h) (then_spans (below_spans x n mid g) (here_spans d))) (omega arith)

alias_spans : {x : Origin} {n : ℕ} {a : Option Name} {ts rest : List Token} → Alias x n a ts rest → Spans 0 (if_there one a) ts rest
alias_spans (e_none e) = no_spans
alias_spans {n = n} (e_some {ts = ts} e d) = within (then_spans (word_spans n is_as ts e) (name_spans d)) (omega arith)

-- ---- statements

mutual
  pub statements_spans : {x : Origin} {n left : ℕ} {some all : Statements} {ts rest : List Token} → AreStatements x n left some all ts rest
      → Spans (all_nodes some) (all_nodes all) ts rest
  statements_spans (s_over e h) = no_spans
  statements_spans (s_next e d m) = within (then_spans (statement_spans d) (statements_spans m)) (omega arith)

  statement_spans : {x : Origin} {n left : ℕ} {some all : Statements} {ts rest : List Token} → IsStatement x n left some all ts rest
      → Spans (all_nodes some) (all_nodes all) ts rest
  statement_spans (s_line e d) = line_spans d
  statement_spans (s_alone {a = a} {some = some} c d few) =
      let h = statement_more some (evaluates (place_of a) a) in let r = some_nodes a in
      within (expression_spans d.begins.reads.spells) (omega (arith, h, r))
  statement_spans (s_choice {s = s} {some = some} c w d) =
      let h = statement_more some s in within (compound_spans d) (omega (arith, h))
  statement_spans (s_compound {s = s} {some = some} c d) =
      let h = statement_more some s in within (compound_spans d) (omega (arith, h))

  compound_spans : {x : Origin} {n left : ℕ} {s : Statement} {ts rest : List Token} → IsCompound x n left s ts rest
      → Spans 0 (nodes_of s) ts rest
  compound_spans (c_if {tok = tok} {ts = ts} e b m o) =
      within (then_spans (one_token tok ts) (then_spans (one_branch_spans b) (then_spans (elifs_spans m) (else_spans o)))) (omega arith)
  compound_spans {n = n} (c_case {tok = tok} {ts = ts} {mid = mid} e h d) =
      within (then_spans (one_token tok ts) (then_spans (here_spans h) (then_spans (past_spans n mid) (branches_spans d)))) (omega arith)
  compound_spans (c_while {tok = tok} {ts = ts} e h d) =
      within (then_spans (one_token tok ts) (then_spans (here_spans h) (body_spans d))) (omega arith)
  compound_spans {n = n} (c_for {tok = tok} {ts = ts} {mid = mid} e i g c d) =
      within (then_spans (one_token tok ts) (then_spans (name_spans i) (then_spans (word_spans n is_in mid g)
      (then_spans (course_spans c) (body_spans d))))) (omega arith)
  compound_spans (c_try {tok = tok} {ts = ts} e b m f g) =
      within (then_spans (one_token tok ts) (then_spans (body_spans b) (then_spans (handlers_spans m) (finally_spans f)))) (omega arith)
  compound_spans (c_defer {tok = tok} {ts = ts} e d) = within (then_spans (one_token tok ts) (body_spans d)) (omega arith)
  compound_spans {n = n} (c_proc {head = head} {tok = tok} {ts = ts} {mid = mid} e h g b) =
      within (then_spans (one_token tok ts)
      (then_spans (takes_spans (head_takes head ts mid h.reads)) (then_spans (equals_spans n mid g) (block_spans b)))) (omega arith)
  compound_spans (c_forward {head = head} {tok = tok} {ts = ts} {rest = rest} e h g) =
      within (then_spans (one_token tok ts) (takes_spans (head_takes head ts rest h.reads))) (omega arith)
  compound_spans (c_type {all = all} {tok = tok} {ts = ts} {rest = rest} e d) =
      within (then_spans (one_token tok ts) (takes_spans (declarations_takes all ts rest d.reads))) (omega arith)
  compound_spans (c_section {tok = tok} {ts = ts} e d) = within (then_spans (one_token tok ts) (definitions_spans d.reads)) (omega arith)

  body_spans : {x : Origin} {n left : ℕ} {body : Statements} {ts rest : List Token} → IsBody x n left body ts rest
      → Spans 0 (2 + all_nodes body) ts rest
  body_spans {n = n} {ts = ts} (b_body e d) = within (then_spans (colon_spans n ts e) (block_spans d)) (omega arith)

  block_spans : {x : Origin} {n left : ℕ} {body : Statements} {ts rest : List Token} → IsBlock x n left body ts rest
      → Spans 0 (all_nodes body) ts rest
  block_spans (b_line e d) = line_spans d
  block_spans (b_deeper e h d) = statements_spans d

  one_branch_spans : {x : Origin} {n left : ℕ} {some all : Branches} {at : Place} {ts rest : List Token} → IsBranch x n left some at all ts rest
      → Spans (branch_nodes some) (branch_nodes all) ts rest
  one_branch_spans (r_branch {a = a} {some = some} {body = body} {at = at} h d) =
      let k = branch_more some at (part a no_parts) body in within (then_spans (here_spans h) (body_spans d)) (omega (arith, k))

  elifs_spans : {x : Origin} {n left : ℕ} {some all : Branches} {ts rest : List Token} → MoreElifs x n left some all ts rest
      → Spans (branch_nodes some) (branch_nodes all) ts rest
  elifs_spans (r_over e) = no_spans
  elifs_spans {n = n} {ts = whole} (r_elif e d m) = within (then_spans (branch_spans n is_elif whole e) (then_spans (one_branch_spans d) (elifs_spans m)))
      (omega arith)

  else_spans : {x : Origin} {n left : ℕ} {body : Statements} {ts rest : List Token} → IsElse x n left body ts rest
      → Spans 0 (all_nodes body) ts rest
  else_spans (r_no_else e) = no_spans
  else_spans {n = n} {ts = ts} (r_else e d) = within (then_spans (branch_spans n is_else ts e) (body_spans d)) (omega arith)

  branches_spans : {x : Origin} {n left : ℕ} {at : Place} {a : Term} {s : Statement} {ts rest : List Token} → AreBranches x n left at a s ts rest
      → Spans (suc (suc (nodes a))) (nodes_of s) ts rest
  branches_spans (r_branches e m o) = within (then_spans (ofs_spans m) (else_spans o)) (omega arith)

  one_of_spans : {x : Origin} {n left : ℕ} {some all : Branches} {at : Place} {ts rest : List Token} → IsOf x n left some at all ts rest
      → Spans (branch_nodes some) (branch_nodes all) ts rest
  one_of_spans (r_of {tests = tests} {some = some} {body = body} {at = at} e d m b) =
      let k = branch_more some at tests body in
      within (then_spans (label_spans d) (then_spans (labels_spans m) (body_spans b))) (omega (arith, k))

  ofs_spans : {x : Origin} {n left : ℕ} {some all : Branches} {ts rest : List Token} → MoreOfs x n left some all ts rest
      → Spans (branch_nodes some) (branch_nodes all) ts rest
  ofs_spans (r_last e) = no_spans
  ofs_spans {n = n} {ts = whole} (r_next e d m) = within (then_spans (branch_spans n is_of whole e) (then_spans (one_of_spans d) (ofs_spans m)))
      (omega arith)

  handler_spans : {x : Origin} {n left : ℕ} {c : Caught} {ts rest : List Token} → IsHandler x n left c ts rest
      → Spans 0 (length c.names + if_there one c.binding + all_nodes c.body) ts rest
  handler_spans (h_bare c b) = within (body_spans b) (omega arith)
  handler_spans (h_typed c d l b) = within (then_spans (takes_spans (names_takes d)) (then_spans (alias_spans l) (body_spans b))) (omega arith)

  handlers_spans : {x : Origin} {n left : ℕ} {some all : Handlers} {ts rest : List Token} → MoreHandlers x n left some all ts rest
      → Spans (handler_nodes some) (handler_nodes all) ts rest
  handlers_spans (h_over e) = no_spans
  handlers_spans {x} {n} {some = some} {ts = whole} (h_last {one = c} {tok = tok} e d g) =
      let k = handler_more some (place_at x tok) c in
      within (then_spans (branch_spans n is_except whole e) (handler_spans d)) (omega (arith, k))
  handlers_spans {x} {n} {some = some} {ts = whole} (h_next {one = c} {tok = tok} e d g m) =
      let k = handler_more some (place_at x tok) c in
      within (then_spans (branch_spans n is_except whole e) (then_spans (handler_spans d) (handlers_spans m))) (omega (arith, k))

  finally_spans : {x : Origin} {n left : ℕ} {body : Statements} {ts rest : List Token} → IsFinally x n left body ts rest
      → Spans 0 (all_nodes body) ts rest
  finally_spans (h_no_finally e) = no_spans
  finally_spans {n = n} {ts = ts} (h_finally e d) = within (then_spans (branch_spans n is_finally ts e) (body_spans d)) (omega arith)

-- ---- a module

pub module_nodes : {x : Origin} {tokens : List Token} {all : Statements} → IsModule x tokens all → all_nodes all ≤ 8 * length tokens
module_nodes d = let s = statements_spans d.reads in let p = s.size in omega (arith, p)
