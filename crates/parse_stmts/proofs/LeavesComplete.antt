-- What the grammar says of expressions and simple statements is read, and where they can't go on it is said.
use Rattle.std.proofs.Common.{◌≡◌, ℕ, List, Bool, true, false, refl, ap}
use Rattle.std.specs.Prelude.{Option, Some, None}
use Rattle.indent_scanner.specs.declared.token.Token.{Token}
use Rattle.nim_tree.specs.declared.name.Name.{Name}
use Rattle.nim_tree.specs.Terms.{Term, Parts}
use Rattle.nim_tree.specs.Statements.{Course, Statement, Statements}
use Rattle.parse_exprs.specs.declared.layout.Layout.{Layout}
use Rattle.parse_exprs.specs.declared.layout.Layout.TheVariants.{Brackets, Lines}
use Rattle.parse_exprs.specs.Look.{Origin, comma_at}
use Rattle.parse_decls.specs.Look.{behind}
use Rattle.parse_decls.specs.Outcome.{Why, Out, got, bad, Settles}
use Rattle.parse_decls.specs.Grammar.{e_none, e_some}
use Rattle.parse_decls.specs.Faults.{FaultsEach, f_here, f_later, f_first, f_next}
use Rattle.parse_decls.proofs.ForCallers.{settles_got, settles_is, settles_then, settles_bad, settles_unless, settles_stuck, settles_if, settles_else}
use Rattle.parse_decls.proofs.ForCallers.{settles_why}
use Rattle.parse_stmts.specs.Look.{atom_at}
use Rattle.parse_stmts.specs.Run.{run_here, run_optional, run_module_name, run_more_modules, run_operands, run_assigned, run_expression, run_plain}
use Rattle.parse_stmts.specs.Run.{run_simple_by, run_simple, run_line, run_label, run_labels, run_course, run_binding}
use Rattle.parse_stmts.specs.Grammar.{IsHere, Optional, NoCommand, n_other, n_alone, IsModuleName, MoreModules, m_over, m_next, MoreOperands, o_over, o_next}
use Rattle.parse_stmts.specs.Grammar.{IsPlain, p_command, p_value, p_assign, b_let, b_var, b_const, IsSimple, i_discard, i_return, i_raise, i_break, i_continue}
use Rattle.parse_stmts.specs.Grammar.{i_import, i_define, i_plain, IsLine, l_last, l_more, IsLabel, a_one, a_range, MoreLabels, a_over, a_next, IsCourse}
use Rattle.parse_stmts.specs.Grammar.{f_each, f_up_to, f_below, Alias}
use Rattle.parse_stmts.specs.Faults as F
use Rattle.parse_stmts.specs.Faults.{FaultsHere, FaultsOptional, FaultsModuleName, FaultsOperands, FaultsPlain}
use Rattle.parse_stmts.specs.Faults.{FaultsSimple, FaultsLine, FaultsLabel, FaultsLabels, FaultsCourse, FaultsAlias}
use Rattle.parse_stmts.proofs.Means.{settles_next}
use Rattle.parse_stmts.proofs.Leaves.{Laws}

-- ---- expressions

pub here_read : {x : Origin} {n : ℕ} {a : Term} {ts rest : List Token} → Laws → IsHere x n a ts rest → Settles (λ k. run_here k x n ts) (got a rest)
here_read law h = settles_unless _ h.here ((law.value _ _).complete _ _ _ h.value)

pub optional_read : {x : Origin} {n : ℕ} {a : Option Term} {ts rest : List Token} → Laws → Optional x n a ts rest
    → Settles (λ k. run_optional k x n ts) (got a rest)
optional_read law (e_none e) = settles_else _ e settles_got
optional_read law (e_some e d) = settles_if _ e (settles_then _ ((law.value _ _).complete _ _ _ d) settles_got)

pub here_faults : {x : Origin} {n : ℕ} {why : Why} {ts : List Token} → Laws → FaultsHere x n why ts → Settles (λ k. run_here k x n ts) (bad why)
here_faults law (F.f_line e q) = settles_why q (settles_stuck _ _ e)
here_faults law (F.f_value e w) = settles_unless _ e ((law.value _ _).faults _ _ w)

pub optional_faults : {x : Origin} {n : ℕ} {why : Why} {ts : List Token} → Laws → FaultsOptional x n why ts → Settles (λ k. run_optional k x n ts) (bad why)
optional_faults law w = settles_if _ w.begins (settles_bad _ ((law.value _ _).faults _ _ w.at))

-- ---- imports

pub module_read : {x : Origin} {i : Layout} {a : Name} {ts rest : List Token} → Laws → IsModuleName x i a ts rest
    → Settles (λ k. run_module_name x i ts) (got a rest)
module_read law d = settles_else _ d.plain ((law.name _ _).complete _ _ _ d.is)

pub module_faults : {x : Origin} {i : Layout} {why : Why} {ts : List Token} → Laws → FaultsModuleName x i why ts
    → Settles (λ k. run_module_name x i ts) (bad why)
module_faults law (F.f_path e q) = settles_if _ e (settles_why q settles_got)
module_faults law (F.f_module e w) = settles_else _ e ((law.name _ _).faults _ _ w)

pub modules_read : {x : Origin} {n : ℕ} {some all : List Name} {ts rest : List Token} → Laws → MoreModules x n some all ts rest
    → Settles (λ k. run_more_modules k x n some ts) (got all rest)
modules_read law (m_over e) = settles_next (settles_else _ e settles_got)
modules_read law (m_next e d m) = settles_next (settles_if _ e (settles_then _ (module_read law d) (modules_read law m)))

pub modules_faults : {x : Origin} {n : ℕ} {why : Why} {ts : List Token} → Laws → (some : List Name) → FaultsEach (comma_at (Lines n)) behind
    (IsModuleName x Brackets) (FaultsModuleName x Brackets) why ts
    → Settles (λ k. run_more_modules k x n some ts) (bad why)
modules_faults law some (f_here e w) = settles_next (settles_if _ e (settles_bad _ (module_faults law w)))
modules_faults law some (f_later e d w) = settles_next (settles_if _ e (settles_then _ (module_read law d) (modules_faults law _ w)))

-- ---- commands and assignments

pub operands_read : {x : Origin} {n : ℕ} {some all : Parts} {ts rest : List Token} → Laws → MoreOperands x n some all ts rest
    → Settles (λ k. run_operands k x n some ts) (got all rest)
operands_read law (o_over e) = settles_next (settles_else _ e settles_got)
operands_read law (o_next e d m) = settles_next (settles_if _ e (settles_then _ ((law.value _ _).complete _ _ _ d) (operands_read law m)))

pub operands_faults : {x : Origin} {n : ℕ} {why : Why} {ts : List Token} → Laws → (some : Parts) → FaultsOperands x n why ts
    → Settles (λ k. run_operands k x n some ts) (bad why)
operands_faults law some (f_here e w) = settles_next (settles_if _ e (settles_bad _ ((law.value _ _).faults _ _ w)))
operands_faults law some (f_later e d w) = settles_next (settles_if _ e (settles_then _ ((law.value _ _).complete _ _ _ d) (operands_faults law _ w)))

-- where no operand stands, the expression is read
no_command : {x : Origin} {n : ℕ} {ts : List Token} {o : Out Statement} → Laws → NoCommand x n ts → Settles (λ k. run_expression k x n ts) o
    → Settles (λ k. run_plain k x n ts) o
no_command law (n_other e) h = settles_else _ e h
no_command {x} {n} {ts} {o} law (n_alone c e) h = one (atom_at x ts) refl
  where
    one : (b : Bool) → atom_at x ts ≡ b → Settles (λ k. run_plain k x n ts) o
    one true g = settles_if _ g (settles_then _ ((law.called _ _).complete _ _ _ c) (settles_else _ e h))
    one false g = settles_else _ g h

-- of another case of a computation
pub settles_at : {A X : Type 0} {o : Out X} {a b : A} (run : A → ℕ → Out X) → a ≡ b → Settles (λ k. run b k) o → Settles (λ k. run a k) o
settles_at run e h = settles_is h (λ k. ap (λ c. run c k) e)

pub plain_read : {x : Origin} {n : ℕ} {s : Statement} {ts rest : List Token} → Laws → IsPlain x n s ts rest → Settles (λ k. run_plain k x n ts) (got s rest)
plain_read law (p_command e c o d m) =
    settles_if _ e
    (settles_then _ ((law.called _ _).complete _ _ _ c)
    (settles_if _ o (settles_then _ ((law.value _ _).complete _ _ _ d) (settles_then _ (operands_read law m) settles_got))))
plain_read {x} {n} law (p_value {a = a} {rest = rest} c d e) =
    no_command law c (settles_then _ ((law.value _ _).complete _ _ _ d) (settles_at (λ op k. run_assigned k op x n a rest) e settles_got))
plain_read {x} {n} law (p_assign {a = a} {mid = mid} c d e h) =
    no_command law c
    (settles_then _ ((law.value _ _).complete _ _ _ d) (settles_at (λ op k. run_assigned k op x n a mid) e (settles_then _ (here_read law h) settles_got)))

pub plain_faults : {x : Origin} {n : ℕ} {why : Why} {ts : List Token} → Laws → FaultsPlain x n why ts → Settles (λ k. run_plain k x n ts) (bad why)
plain_faults law (F.f_callee e w) = settles_if _ e (settles_bad _ ((law.called _ _).faults _ _ w))
plain_faults law (F.f_operand e c o w) =
    settles_if _ e (settles_then _ ((law.called _ _).complete _ _ _ c) (settles_if _ o (settles_bad _ ((law.value _ _).faults _ _ w))))
plain_faults law (F.f_operands e c o d w) =
    settles_if _ e
    (settles_then _ ((law.called _ _).complete _ _ _ c)
    (settles_if _ o (settles_then _ ((law.value _ _).complete _ _ _ d) (settles_bad _ (operands_faults law _ w)))))
plain_faults law (F.f_expression c w) = no_command law c (settles_bad _ ((law.value _ _).faults _ _ w))
plain_faults {x} {n} law (F.f_assigned {a = a} {mid = mid} c d e w) =
    no_command law c
    (settles_then _ ((law.value _ _).complete _ _ _ d) (settles_at (λ op k. run_assigned k op x n a mid) e (settles_bad _ (here_faults law w))))

-- ---- simple statements

pub simple_read : {x : Origin} {n : ℕ} {s : Statement} {ts rest : List Token} → Laws → IsSimple x n s ts rest → Settles (λ k. run_simple k x n ts) (got s rest)
simple_read {x} {n} law (i_discard {tok = tok} {ts = ts} e d) = settles_at (λ it k. run_simple_by k it x n tok ts) e
    (settles_then _ (optional_read law d) settles_got)
simple_read {x} {n} law (i_return {tok = tok} {ts = ts} e d) = settles_at (λ it k. run_simple_by k it x n tok ts) e
    (settles_then _ (optional_read law d) settles_got)
simple_read {x} {n} law (i_raise {tok = tok} {ts = ts} e d) = settles_at (λ it k. run_simple_by k it x n tok ts) e
    (settles_then _ (optional_read law d) settles_got)
simple_read {x} {n} law (i_break {tok = tok} {ts = ts} e) = settles_at (λ it k. run_simple_by k it x n tok ts) e settles_got
simple_read {x} {n} law (i_continue {tok = tok} {ts = ts} e) = settles_at (λ it k. run_simple_by k it x n tok ts) e settles_got
simple_read {x} {n} law (i_import {tok = tok} {ts = ts} e d m) = settles_at (λ it k. run_simple_by k it x n tok ts) e
    (settles_then _ (module_read law d) (settles_then _ (modules_read law m) settles_got))
simple_read {x} {n} law (i_define {tok = tok} {ts = ts} e b_let d) = settles_at (λ it k. run_simple_by k it x n tok ts) e
    (settles_then _ ((law.definition _ _).complete _ _ _ d) settles_got)
simple_read {x} {n} law (i_define {tok = tok} {ts = ts} e b_var d) = settles_at (λ it k. run_simple_by k it x n tok ts) e
    (settles_then _ ((law.definition _ _).complete _ _ _ d) settles_got)
simple_read {x} {n} law (i_define {tok = tok} {ts = ts} e b_const d) = settles_at (λ it k. run_simple_by k it x n tok ts) e
    (settles_then _ ((law.definition _ _).complete _ _ _ d) settles_got)
simple_read {x} {n} law (i_plain {tok = tok} {ts = ts} e d) = settles_at (λ it k. run_simple_by k it x n tok ts) e (plain_read law d)

pub simple_faults : {x : Origin} {n : ℕ} {why : Why} {ts : List Token} → Laws → FaultsSimple x n why ts → Settles (λ k. run_simple k x n ts) (bad why)
simple_faults law (F.f_nothing q) = settles_why q settles_got
simple_faults {x} {n} law (F.f_discard {tok = tok} {ts = ts} e w) = settles_at (λ it k. run_simple_by k it x n tok ts) e (settles_bad _ (optional_faults law w))
simple_faults {x} {n} law (F.f_return {tok = tok} {ts = ts} e w) = settles_at (λ it k. run_simple_by k it x n tok ts) e (settles_bad _ (optional_faults law w))
simple_faults {x} {n} law (F.f_raise {tok = tok} {ts = ts} e w) = settles_at (λ it k. run_simple_by k it x n tok ts) e (settles_bad _ (optional_faults law w))
simple_faults {x} {n} law (F.f_import {tok = tok} {ts = ts} e (f_first w)) = settles_at (λ it k. run_simple_by k it x n tok ts) e
    (settles_bad _ (module_faults law w))
simple_faults {x} {n} law (F.f_import {tok = tok} {ts = ts} e (f_next d w)) = settles_at (λ it k. run_simple_by k it x n tok ts) e
    (settles_then _ (module_read law d) (settles_bad _ (modules_faults law _ w)))
simple_faults {x} {n} law (F.f_define {tok = tok} {ts = ts} e b_let w) = settles_at (λ it k. run_simple_by k it x n tok ts) e
    (settles_bad _ ((law.definition _ _).faults _ _ w))
simple_faults {x} {n} law (F.f_define {tok = tok} {ts = ts} e b_var w) = settles_at (λ it k. run_simple_by k it x n tok ts) e
    (settles_bad _ ((law.definition _ _).faults _ _ w))
simple_faults {x} {n} law (F.f_define {tok = tok} {ts = ts} e b_const w) = settles_at (λ it k. run_simple_by k it x n tok ts) e
    (settles_bad _ ((law.definition _ _).faults _ _ w))
simple_faults {x} {n} law (F.f_plain {tok = tok} {ts = ts} e w) = settles_at (λ it k. run_simple_by k it x n tok ts) e (plain_faults law w)

pub line_read : {x : Origin} {n : ℕ} {some all : Statements} {ts rest : List Token} → Laws → IsLine x n some all ts rest
    → Settles (λ k. run_line k x n some ts) (got all rest)
line_read law (l_last d e) = settles_next (settles_then _ (simple_read law d) (settles_else _ e settles_got))
line_read law (l_more d e h m) = settles_next (settles_then _ (simple_read law d) (settles_if _ e (settles_unless _ h (line_read law m))))

pub line_faults : {x : Origin} {n : ℕ} {why : Why} {ts : List Token} → Laws → (some : Statements) → FaultsLine x n why ts
    → Settles (λ k. run_line k x n some ts) (bad why)
line_faults law some (F.f_simple w) = settles_next (settles_bad _ (simple_faults law w))
line_faults law some (F.f_semicolon d e h q) = settles_next (settles_then _ (simple_read law d) (settles_if _ e (settles_why q (settles_stuck _ _ h))))
line_faults law some (F.f_next_simple d e h w) = settles_next (settles_then _ (simple_read law d) (settles_if _ e (settles_unless _ h (line_faults law _ w))))

-- ---- parts of statements with blocks

pub label_read : {x : Origin} {n : ℕ} {a : Term} {ts rest : List Token} → Laws → IsLabel x n a ts rest → Settles (λ k. run_label k x n ts) (got a rest)
label_read law (a_one d e) = settles_then _ ((law.value _ _).complete _ _ _ d) (settles_else _ e settles_got)
label_read law (a_range d e h) = settles_then _ ((law.value _ _).complete _ _ _ d) (settles_if _ e (settles_then _ (here_read law h) settles_got))

pub label_faults : {x : Origin} {n : ℕ} {why : Why} {ts : List Token} → Laws → FaultsLabel x n why ts → Settles (λ k. run_label k x n ts) (bad why)
label_faults law (F.f_label w) = settles_bad _ ((law.value _ _).faults _ _ w)
label_faults law (F.f_range d e w) = settles_then _ ((law.value _ _).complete _ _ _ d) (settles_if _ e (settles_bad _ (here_faults law w)))

pub labels_read : {x : Origin} {n : ℕ} {some all : Parts} {ts rest : List Token} → Laws → MoreLabels x n some all ts rest
    → Settles (λ k. run_labels k x n some ts) (got all rest)
labels_read law (a_over e) = settles_next (settles_else _ e settles_got)
labels_read law (a_next e d m) = settles_next (settles_if _ e (settles_then _ (label_read law d) (labels_read law m)))

pub labels_faults : {x : Origin} {n : ℕ} {why : Why} {ts : List Token} → Laws → (some : Parts) → FaultsLabels x n why ts
    → Settles (λ k. run_labels k x n some ts) (bad why)
labels_faults law some (f_here e w) = settles_next (settles_if _ e (settles_bad _ (label_faults law w)))
labels_faults law some (f_later e d w) = settles_next (settles_if _ e (settles_then _ (label_read law d) (labels_faults law _ w)))

pub course_read : {x : Origin} {n : ℕ} {a : Course} {ts rest : List Token} → Laws → IsCourse x n a ts rest → Settles (λ k. run_course k x n ts) (got a rest)
course_read law (f_each h e g) = settles_then _ (here_read law h) (settles_else _ e (settles_else _ g settles_got))
course_read law (f_up_to h e d) = settles_then _ (here_read law h) (settles_if _ e (settles_then _ (here_read law d) settles_got))
course_read law (f_below h e g d) = settles_then _ (here_read law h) (settles_else _ e (settles_if _ g (settles_then _ (here_read law d) settles_got)))

pub course_faults : {x : Origin} {n : ℕ} {why : Why} {ts : List Token} → Laws → FaultsCourse x n why ts → Settles (λ k. run_course k x n ts) (bad why)
course_faults law (F.f_from w) = settles_bad _ (here_faults law w)
course_faults law (F.f_up_to h e w) = settles_then _ (here_read law h) (settles_if _ e (settles_bad _ (here_faults law w)))
course_faults law (F.f_below h e g w) = settles_then _ (here_read law h) (settles_else _ e (settles_if _ g (settles_bad _ (here_faults law w))))

pub alias_read : {x : Origin} {n : ℕ} {a : Option Name} {ts rest : List Token} → Laws → Alias x n a ts rest → Settles (λ k. run_binding true x n ts)
    (got a rest)
alias_read law (e_none e) = settles_else _ e settles_got
alias_read law (e_some e d) = settles_if _ e (settles_then _ ((law.name _ _).complete _ _ _ d) settles_got)

pub alias_faults : {why : Why} {ts : List Token} → Laws → (x : Origin) (n : ℕ) → FaultsAlias x n why ts → Settles (λ k. run_binding true x n ts) (bad why)
alias_faults {why = why} {ts = ts} law x n w =
    settles_if (λ k. got None ts) w.begins (settles_bad (λ k name rest. got (Some name) rest) ((law.name x (Lines n)).faults why (behind ts) w.at))
