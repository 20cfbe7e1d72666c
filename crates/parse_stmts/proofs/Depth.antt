-- A tree that is read has no more than 64 levels of blocks, of each expression and of each written type.
use Rattle.std.proofs.Common.{◌≡◌, ℕ, suc, pred, ◌≤◌, List, [], ◌∷◌, Bool, true, refl, ap, ◌∙◌, arith}
use Rattle.std.specs.Prelude.{Option, Some, None, ◌==◌, ◌&&◌}
use Rattle.std.proofs.lemmas.Bool.{eq-eqb}
use Rattle.arc_base.specs.declared.place.Place.{Place}
use Rattle.indent_scanner.specs.declared.token.Token.{Token}
use Rattle.nim_tree.specs.Lists.{highest, if_there}
use Rattle.nim_tree.specs.Terms.{Term, Parts, no_parts, part, and_part, most_levels, levels, place_of}
use Rattle.nim_tree.specs.Statements.{Definition, definition_levels, definition_term_levels, definition_type_levels, Course, course_term_levels, Statement}
use Rattle.nim_tree.specs.Statements.{evaluates, branches, selects, Statements, empty, then as next, and_statement, Branches, no_branches, branch, and_branch}
use Rattle.nim_tree.specs.Statements.{Handlers, no_handlers, handler, block_levels_of, block_levels, levels_if_block, branch_block_levels, handler_block_levels}
use Rattle.nim_tree.specs.Statements.{term_levels_of, term_levels, branch_term_levels, handler_term_levels, type_levels_of, type_levels, branch_type_levels}
use Rattle.nim_tree.specs.Statements.{handler_type_levels}
use Rattle.parse_exprs.specs.Look.{Origin, place_at, branch_at, first_of_at, first_goes_on, branch_goes_on, is_of}
use Rattle.parse_exprs.specs.declared.layout.Layout.TheVariants.{Lines}
use Rattle.parse_exprs.proofs.ForCallers.{both_of, false_true}
use Rattle.parse_decls.specs.Grammar.{e_none, e_some}
use Rattle.parse_stmts.specs.Run.{Caught, and_caught, branch_level}
use Rattle.parse_stmts.specs.Grammar.{Optional, MoreOperands, o_over, o_next, IsPlain, p_command, p_value, p_assign, IsSimple, i_discard, i_return, i_raise}
use Rattle.parse_stmts.specs.Grammar.{i_break, i_continue, i_import, i_define, i_plain, IsLine, l_last, l_more, IsLabel, a_one, a_range, MoreLabels, a_over}
use Rattle.parse_stmts.specs.Grammar.{a_next, IsCourse, f_each, f_up_to, f_below, AreStatements, s_over, s_next, IsStatement, s_line, s_alone, s_choice}
use Rattle.parse_stmts.specs.Grammar.{s_compound, IsCompound, c_if, c_case, c_while, c_for, c_try, c_defer, c_proc, c_forward, c_type, c_section, IsBody}
use Rattle.parse_stmts.specs.Grammar.{b_body, IsBlock, b_line, b_deeper, IsBranch, r_branch, MoreElifs, r_over, r_elif, IsElse, r_no_else, r_else, AreBranches}
use Rattle.parse_stmts.specs.Grammar.{r_branches, IsOf, r_of, MoreOfs, r_last, r_next, IsHandler, h_bare, h_typed, MoreHandlers, h_over, h_last, h_next}
use Rattle.parse_stmts.specs.Grammar.{IsFinally, h_no_finally, h_finally, IsModule}
use Rattle.parse_stmts.specs.Parsed.{HasFew}

-- few levels, where so many levels of blocks are left
pub record Low (left blocks terms types : ℕ) : Type 0 where
  pub of_blocks : blocks ≤ left
  pub of_terms : terms ≤ 64
  pub of_types : types ≤ 64

abbrev pub LowOne : ℕ → Statement → Type 0
LowOne left s = Low left (block_levels_of s) (term_levels_of s) (type_levels_of s)

abbrev pub LowAll : ℕ → Statements → Type 0
LowAll left all = Low left (block_levels all) (term_levels all) (type_levels all)

-- of a block that takes a level
abbrev pub LowBlock : ℕ → Statements → Type 0
LowBlock left body = Low left (suc (block_levels body)) (term_levels body) (type_levels body)

-- of one that may be missing
abbrev pub LowMaybe : ℕ → Statements → Type 0
LowMaybe left body = Low (pred left) (block_levels body) (term_levels body) (type_levels body)

abbrev pub LowBranches : ℕ → Branches → Type 0
LowBranches left all = Low (pred left) (branch_block_levels all) (branch_term_levels all) (branch_type_levels all)

abbrev pub LowHandlers : ℕ → Handlers → Type 0
LowHandlers left all = Low (pred left) (handler_block_levels all) (handler_term_levels all) (handler_type_levels all)

low_and : {left : ℕ} (some : Statements) (s : Statement) → LowAll left some → LowOne left s → LowAll left (and_statement some s)
low_and empty s h k =
    (let a = k.of_blocks in let b = k.of_terms in let c = k.of_types in
    record { of_blocks = omega (arith, a); of_terms = omega (arith, b); of_types = omega (arith, c) })
low_and {left} (next first rest) s h k =
    let a = h.of_blocks in let b = h.of_terms in let c = h.of_types in
    let r = low_and rest s (record { of_blocks = omega (arith, a); of_terms = omega (arith, b); of_types = omega (arith, c) }) k in
    let d = r.of_blocks in let e = r.of_terms in let f = r.of_types in
    record { of_blocks = omega (arith, a, d); of_terms = omega (arith, b, e); of_types = omega (arith, c, f) }

low_part : (some : Parts) (a : Term) → most_levels some ≤ 64 → levels a ≤ 64 → most_levels (and_part some a) ≤ 64
low_part no_parts a h k = omega (arith, k)
low_part (part first rest) a h k = let r = low_part rest a (omega (arith, h)) k in omega (arith, h, r)

low_branch : {left : ℕ} (some : Branches) (at : Place) (tests : Parts) (body : Statements) → LowBranches left some → most_levels tests ≤ 64 → LowBlock left body
    → LowBranches left (and_branch some at tests body)
low_branch no_branches at tests body h t k =
    let a = k.of_blocks in let b = k.of_terms in let c = k.of_types in
    record { of_blocks = omega (arith, a); of_terms = omega (arith, t, b); of_types = omega (arith, c) }
low_branch {left} (branch p ts one rest) at tests body h t k =
    let a = h.of_blocks in let b = h.of_terms in let c = h.of_types in
    let r = low_branch rest at tests body (record { of_blocks = omega (arith, a); of_terms = omega (arith, b); of_types = omega (arith, c) }) t k in
    let d = r.of_blocks in let e = r.of_terms in let f = r.of_types in
    record { of_blocks = omega (arith, a, d); of_terms = omega (arith, b, e); of_types = omega (arith, c, f) }

low_handler : {left : ℕ} (some : Handlers) (at : Place) (one : Caught) → LowHandlers left some → Low left (suc (block_levels one.body)) (term_levels one.body)
    (type_levels one.body)
    → LowHandlers left (and_caught some at one)
low_handler no_handlers at one h k =
    let a = k.of_blocks in let b = k.of_terms in let c = k.of_types in
    record { of_blocks = omega (arith, a); of_terms = omega (arith, b); of_types = omega (arith, c) }
low_handler {left} (handler p names alias body rest) at one h k =
    let a = h.of_blocks in let b = h.of_terms in let c = h.of_types in
    let r = low_handler rest at one (record { of_blocks = omega (arith, a); of_terms = omega (arith, b); of_types = omega (arith, c) }) k in
    let d = r.of_blocks in let e = r.of_terms in let f = r.of_types in
    record { of_blocks = omega (arith, a, d); of_terms = omega (arith, b, e); of_types = omega (arith, c, f) }

-- ---- the first branch of a `case`

first_goes : (n : ℕ) (o : Option ℕ) (b : Bool) → (first_goes_on (Lines n) o && b) ≡ true → (branch_goes_on (Lines (branch_level n o)) o && b) ≡ true
first_goes n None b e = e
first_goes n (Some m) b e =
    let h = (both_of (first_goes_on (Lines n) (Some m)) b e).1 in
    let same : (m == m) ≡ true = eq-eqb m m refl in
    ap (λ c. c && b) same ∙ h

pub first_branch : (n : ℕ) (tok : Token) (ts : List Token) → first_of_at (Lines n) (tok ∷ ts) ≡ true → branch_at (Lines (branch_level n tok.indent)) is_of
    (tok ∷ ts) ≡ true
first_branch n tok ts e = first_goes n tok.indent (is_of tok.kind) e

-- ---- simple statements

optional_low : {x : Origin} {n : ℕ} {a : Option Term} {ts rest : List Token} → Optional x n a ts rest → if_there levels a ≤ 64
optional_low (e_none e) = omega arith
optional_low (e_some e d) = d.few

operands_low : {x : Origin} {n : ℕ} {some all : Parts} {ts rest : List Token} → most_levels some ≤ 64 → MoreOperands x n some all ts rest → most_levels all ≤ 64
operands_low h (o_over e) = h
operands_low {some = some} h (o_next {a = a} e d m) = operands_low (low_part some a h d.few) m

plain_low : {x : Origin} {n : ℕ} {s : Statement} {ts rest : List Token} → IsPlain x n s ts rest → LowOne 0 s
plain_low (p_command {b = b} e c o d m) =
    let a = c.few in let k = operands_low (let f = d.few in omega (arith, f)) m in
    record { of_blocks = omega arith; of_terms = omega (arith, a, k); of_types = omega arith }
plain_low (p_value c d e) = record { of_blocks = omega arith; of_terms = d.few; of_types = omega arith }
plain_low (p_assign c d e h) =
    (let a = d.few in let b = h.value.few in record { of_blocks = omega arith; of_terms = omega (arith, a, b); of_types = omega arith })

values_low : (all : List Definition) → highest definition_levels all ≤ 64 → highest definition_term_levels all ≤ 64
values_low [] h = omega arith
values_low (d ∷ all) h = let r = values_low all (omega (arith, h)) in omega (arith, h, r)

annotations_low : (all : List Definition) → highest definition_levels all ≤ 64 → highest definition_type_levels all ≤ 64
annotations_low [] h = omega arith
annotations_low (d ∷ all) h = let r = annotations_low all (omega (arith, h)) in omega (arith, h, r)

simple_low : {x : Origin} {n : ℕ} {s : Statement} {ts rest : List Token} → IsSimple x n s ts rest → LowOne 0 s
simple_low (i_discard e d) = record { of_blocks = omega arith; of_terms = optional_low d; of_types = omega arith }
simple_low (i_return e d) = record { of_blocks = omega arith; of_terms = optional_low d; of_types = omega arith }
simple_low (i_raise e d) = record { of_blocks = omega arith; of_terms = optional_low d; of_types = omega arith }
simple_low (i_break e) = record { of_blocks = omega arith; of_terms = omega arith; of_types = omega arith }
simple_low (i_continue e) = record { of_blocks = omega arith; of_terms = omega arith; of_types = omega arith }
simple_low (i_import e d m) = record { of_blocks = omega arith; of_terms = omega arith; of_types = omega arith }
simple_low (i_define e b d) = (let p = d.few in record { of_blocks = omega arith; of_terms = omega (arith, p); of_types = omega (arith, p) })
simple_low (i_plain e d) = plain_low d

line_low : {x : Origin} {n left : ℕ} {some all : Statements} {ts rest : List Token} → LowAll left some → IsLine x n some all ts rest → LowAll left all
line_low h (l_last {s = s} {some = some} d e) =
    let k = simple_low d in
    low_and some s h (let a = k.of_blocks in record { of_blocks = omega (arith, a); of_terms = k.of_terms; of_types = k.of_types })
line_low h (l_more {s = s} {some = some} d e g m) =
    let k = simple_low d in
    line_low (low_and some s h (let a = k.of_blocks in record { of_blocks = omega (arith, a); of_terms = k.of_terms; of_types = k.of_types })) m

label_low : {x : Origin} {n : ℕ} {a : Term} {ts rest : List Token} → IsLabel x n a ts rest → levels a ≤ 64
label_low (a_one d e) = d.few
label_low (a_range d e h) = (let a = d.few in let b = h.value.few in omega (arith, a, b))

labels_low : {x : Origin} {n : ℕ} {some all : Parts} {ts rest : List Token} → most_levels some ≤ 64 → MoreLabels x n some all ts rest → most_levels all ≤ 64
labels_low h (a_over e) = h
labels_low {some = some} h (a_next {a = a} e d m) = labels_low (low_part some a h (label_low d)) m

course_low : {x : Origin} {n : ℕ} {a : Course} {ts rest : List Token} → IsCourse x n a ts rest → course_term_levels a ≤ 64
course_low (f_each h e g) = h.value.few
course_low (f_up_to h e d) = (let a = h.value.few in let b = d.value.few in omega (arith, a, b))
course_low (f_below h e g d) = (let a = h.value.few in let b = d.value.few in omega (arith, a, b))

-- ---- statements with blocks

block_if_there : (left : ℕ) (body : Statements) → suc (block_levels body) ≤ left → levels_if_block body ≤ left
block_if_there left empty h = omega arith
block_if_there left (next first rest) h = h

one_part : (a : Term) → levels a ≤ 64 → most_levels (part a no_parts) ≤ 64
one_part a h = omega (arith, h)

may_miss : {left : ℕ} (body : Statements) → LowBlock left body → LowMaybe left body
may_miss body h = (let a = h.of_blocks in record { of_blocks = omega (arith, a); of_terms = h.of_terms; of_types = h.of_types })

none_low : (left : ℕ) → LowBranches left no_branches
none_low left = record { of_blocks = omega arith; of_terms = omega arith; of_types = omega arith }

-- branches of which there is one, and their `else`
record LowRest (left : ℕ) (all : Branches) : Type 0 where
  free : 1 ≤ left
  low : LowBranches left all

if_low : {left : ℕ} (at : Place) (chosen : Branches) (other : Statements) → 1 ≤ left → LowBranches left chosen → LowMaybe left other
    → LowOne left (branches at chosen other)
if_low at chosen other free h k =
    let a = h.of_blocks in let b = h.of_terms in let c = h.of_types in let d = k.of_blocks in let e = k.of_terms in let f = k.of_types in
    record { of_blocks = omega (arith, free, a, d); of_terms = omega (arith, b, e); of_types = omega (arith, c, f) }

case_low : {left : ℕ} (at : Place) (s : Term) (chosen : Branches) (other : Statements) → levels s ≤ 64 → 1 ≤ left → LowBranches left chosen
    → LowMaybe left other → LowOne left (selects at s chosen other)
case_low at s chosen other few free h k =
    let a = h.of_blocks in let b = h.of_terms in let c = h.of_types in let d = k.of_blocks in let e = k.of_terms in let f = k.of_types in
    record { of_blocks = omega (arith, free, a, d); of_terms = omega (arith, few, b, e); of_types = omega (arith, c, f) }

mutual
  pub statements_low : {x : Origin} {n left : ℕ} {some all : Statements} {ts rest : List Token} → LowAll left some → AreStatements x n left some all ts rest
      → LowAll left all
  statements_low h (s_over e g) = h
  statements_low h (s_next e d m) = statements_low (statement_low h d) m

  statement_low : {x : Origin} {n left : ℕ} {some all : Statements} {ts rest : List Token} → LowAll left some → IsStatement x n left some all ts rest
      → LowAll left all
  statement_low h (s_line e d) = line_low h d
  statement_low h (s_alone {a = a} {some = some} c d few) = low_and some (evaluates (place_of a) a) h
      (record { of_blocks = omega arith; of_terms = few; of_types = omega arith })
  statement_low h (s_choice {s = s} {some = some} c w d) = low_and some s h (compound_low d)
  statement_low h (s_compound {s = s} {some = some} c d) = low_and some s h (compound_low d)

  compound_low : {x : Origin} {n left : ℕ} {s : Statement} {ts rest : List Token} → IsCompound x n left s ts rest → LowOne left s
  compound_low {x} {left = left} (c_if {all = all} {other = other} {tok = tok} e b m o) =
      let k = branch_low (none_low left) b in if_low (place_at x tok) all other k.free (elifs_low k.low m) (else_low o)
  compound_low (c_case e h d) = branches_low h.value.few d
  compound_low (c_while e h d) =
      (let k = body_low d in let a = k.of_terms in let b = h.value.few in
      record { of_blocks = k.of_blocks; of_terms = omega (arith, a, b); of_types = k.of_types })
  compound_low (c_for e i g c d) =
      (let k = body_low d in let a = k.of_terms in let b = course_low c in
      record { of_blocks = k.of_blocks; of_terms = omega (arith, a, b); of_types = k.of_types })
  compound_low (c_try e b m f g) =
      let h = body_low b in let k = handlers_low (record { of_blocks = omega arith; of_terms = omega arith; of_types = omega arith }) m in let l =
      finally_low f in
      let a = h.of_blocks in let c = h.of_terms in let d = h.of_types in let i = k.of_blocks in let j = k.of_terms in let q = k.of_types in let r =
      l.of_blocks in let s = l.of_terms in let t = l.of_types in
      record { of_blocks = omega (arith, a, i, r); of_terms = omega (arith, c, j, s); of_types = omega (arith, d, q, t) }
  compound_low (c_defer e d) = let k = body_low d in record { of_blocks = k.of_blocks; of_terms = k.of_terms; of_types = k.of_types }
  compound_low {left = left} (c_proc {body = body} e h g b) =
      let k = block_low b in let c = k.of_types in let p = h.few in
      record { of_blocks = block_if_there left body k.of_blocks; of_terms = k.of_terms; of_types = omega (arith, c, p) }
  compound_low (c_forward e h g) =
      let p = h.few in record { of_blocks = omega arith; of_terms = omega arith; of_types = omega (arith, p) }
  compound_low (c_type e d) = record { of_blocks = omega arith; of_terms = omega arith; of_types = d.few }
  compound_low (c_section {all = all} e d) = record { of_blocks = omega arith; of_terms = values_low all d.few; of_types = annotations_low all d.few }

  body_low : {x : Origin} {n left : ℕ} {body : Statements} {ts rest : List Token} → IsBody x n left body ts rest → LowBlock left body
  body_low (b_body e d) = block_low d

  block_low : {x : Origin} {n left : ℕ} {body : Statements} {ts rest : List Token} → IsBlock x n left body ts rest → LowBlock left body
  block_low (b_line e d) =
      let k = line_low {left = 0} (record { of_blocks = omega arith; of_terms = omega arith; of_types = omega arith }) d in
      let a = k.of_blocks in record { of_blocks = omega (arith, a); of_terms = k.of_terms; of_types = k.of_types }
  block_low (b_deeper e g d) =
      let k = statements_low (record { of_blocks = omega arith; of_terms = omega arith; of_types = omega arith }) d in
      let a = k.of_blocks in record { of_blocks = omega (arith, a); of_terms = k.of_terms; of_types = k.of_types }

  branch_low : {x : Origin} {n left : ℕ} {some all : Branches} {at : Place} {ts rest : List Token} → LowBranches left some
      → IsBranch x n left some at all ts rest → LowRest left all
  branch_low h (r_branch {a = a} {some = some} {body = body} {at = at} i d) =
      let k = body_low d in let b = k.of_blocks in
      record { free = omega (arith, b); low = low_branch some at (part a no_parts) body h (one_part a i.value.few) k }

  elifs_low : {x : Origin} {n left : ℕ} {some all : Branches} {ts rest : List Token} → LowBranches left some → MoreElifs x n left some all ts rest
      → LowBranches left all
  elifs_low h (r_over e) = h
  elifs_low h (r_elif e d m) = elifs_low (let k = branch_low h d in k.low) m

  else_low : {x : Origin} {n left : ℕ} {body : Statements} {ts rest : List Token} → IsElse x n left body ts rest → LowMaybe left body
  else_low (r_no_else e) = record { of_blocks = omega arith; of_terms = omega arith; of_types = omega arith }
  else_low (r_else {body = body} e d) = may_miss body (body_low d)

  branches_low : {x : Origin} {n left : ℕ} {at : Place} {a : Term} {s : Statement} {ts rest : List Token} → levels a ≤ 64 → AreBranches x n left at a s ts rest
      → LowOne left s
  branches_low {n = n} few (r_branches {at = at} {a = a} {all = all} {other = other} {tok = tok} {ts = ts} e m o) =
      let k = first_ofs_low (first_branch n tok ts e) m in case_low at a all other few k.free k.low (else_low o)

  of_low : {x : Origin} {n left : ℕ} {some all : Branches} {at : Place} {ts rest : List Token} → LowBranches left some → IsOf x n left some at all ts rest
      → LowRest left all
  of_low h (r_of {a = a} {tests = tests} {some = some} {body = body} {at = at} e d m b) =
      let k = body_low b in let c = k.of_blocks in
      record { free = omega (arith, c); low = low_branch some at tests body h (labels_low (one_part a (label_low d)) m) k }

  ofs_low : {x : Origin} {n left : ℕ} {some all : Branches} {ts rest : List Token} → LowBranches left some → MoreOfs x n left some all ts rest
      → LowBranches left all
  ofs_low h (r_last e) = h
  ofs_low h (r_next e d m) = ofs_low (let k = of_low h d in k.low) m

  first_ofs_low : {x : Origin} {n left : ℕ} {all : Branches} {ts rest : List Token} → branch_at (Lines n) is_of ts ≡ true
      → MoreOfs x n left no_branches all ts rest → LowRest left all
  first_ofs_low {n = n} {ts = ts} h (r_last e) = false_true (branch_at (Lines n) is_of ts) e h
  first_ofs_low {left = left} h (r_next e d m) = let k = of_low (none_low left) d in record { free = k.free; low = ofs_low k.low m }

  handler_low : {x : Origin} {n left : ℕ} {one : Caught} {ts rest : List Token} → IsHandler x n left one ts rest → Low left (suc (block_levels one.body))
      (term_levels one.body) (type_levels one.body)
  handler_low (h_bare c b) = body_low b
  handler_low (h_typed c d l b) = body_low b

  handlers_low : {x : Origin} {n left : ℕ} {some all : Handlers} {ts rest : List Token} → LowHandlers left some → MoreHandlers x n left some all ts rest
      → LowHandlers left all
  handlers_low h (h_over e) = h
  handlers_low {x} {some = some} h (h_last {one = one} {tok = tok} e d g) = low_handler some (place_at x tok) one h (handler_low d)
  handlers_low {x} {some = some} h (h_next {one = one} {tok = tok} e d g m) = handlers_low (low_handler some (place_at x tok) one h (handler_low d)) m

  finally_low : {x : Origin} {n left : ℕ} {body : Statements} {ts rest : List Token} → IsFinally x n left body ts rest → LowMaybe left body
  finally_low (h_no_finally e) = record { of_blocks = omega arith; of_terms = omega arith; of_types = omega arith }
  finally_low (h_finally {body = body} e d) = may_miss body (body_low d)

pub module_few : {x : Origin} {tokens : List Token} {all : Statements} → IsModule x tokens all → HasFew all
module_few d =
    let k = statements_low (record { of_blocks = omega arith; of_terms = omega arith; of_types = omega arith }) d.reads in
    record { blocks = k.of_blocks; terms = k.of_terms; types = k.of_types }
