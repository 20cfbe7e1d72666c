-- What is read of expressions and simple statements means what the grammar says.
use Rattle.std.proofs.Common.{◌≡◌, ℕ, zero, suc, List, [], ◌∷◌, ◌++◌, true, refl}
use Rattle.std.specs.Prelude.{Option, Some, None}
use Rattle.indent_scanner.specs.declared.token.Token.{Token}
use Rattle.nim_tree.specs.declared.name.Name.{Name}
use Rattle.nim_tree.specs.declared.stmt.AssignOp.{AssignOp}
use Rattle.nim_tree.specs.declared.stmt.Binding.{Binding}
use Rattle.nim_tree.specs.Terms.{Term, Parts, no_parts, part, and_part}
use Rattle.nim_tree.specs.Statements.{Statements, and_statement}
use Rattle.parse_exprs.specs.declared.layout.Layout.{Layout}
use Rattle.parse_exprs.specs.declared.layout.Layout.TheVariants.{Brackets, Lines}
use Rattle.parse_exprs.specs.Look.{Origin, place_at, comma_at, lead_at, name_on, operand_on}
use Rattle.parse_exprs.specs.Run.{run_primary}
use Rattle.parse_decls.specs.Look.{behind}
use Rattle.parse_decls.specs.Outcome.{of_expr}
use Rattle.parse_decls.specs.Run.{most_levels, run_name, run_names, run_def, run_def_block, run_types, run_head}
use Rattle.parse_decls.specs.Grammar.{e_none, e_some, IsName, Names}
use Rattle.parse_decls.specs.Faults.{FaultsEach, f_here, f_later, f_first, f_next, FaultsName, FaultsNames, ShortDefinition, FaultsDefinition}
use Rattle.parse_decls.specs.Faults.{FaultsDefinitionBlock, FaultsDeclarations, FaultsHead}
use Rattle.parse_stmts.specs.declared.look.Simple.{Simple}
use Rattle.parse_stmts.specs.declared.look.Simple.TheVariants as S
use Rattle.parse_stmts.specs.Look.{simple_of, atom_at, assign_on}
use Rattle.parse_stmts.specs.Run.{run_value, run_here, run_optional, run_module_name, run_more_modules, run_operands, run_command, assigned_by, run_assigned}
use Rattle.parse_stmts.specs.Run.{run_expression, run_plain, run_bound, run_simple_by, run_simple, run_line, run_label, run_labels, run_course, run_binding}
use Rattle.parse_stmts.specs.Grammar.{IsValue, IsHere, Optional, IsCalled, NoCommand, n_other, n_alone, AreDefinitions, AreTypes, IsProcedure, IsModuleName}
use Rattle.parse_stmts.specs.Grammar.{MoreModules, m_over, m_next, MoreOperands, o_over, o_next, IsPlain, p_command, p_value, p_assign, Binds, b_let, b_var}
use Rattle.parse_stmts.specs.Grammar.{b_const, IsSimple, i_discard, i_return, i_raise, i_break, i_continue, i_import, i_define, i_plain, IsLine, l_last, l_more}
use Rattle.parse_stmts.specs.Grammar.{IsLabel, a_one, a_range, MoreLabels, a_over, a_next, IsCourse, f_each, f_up_to, f_below, Alias}
use Rattle.parse_stmts.specs.Faults as F
use Rattle.parse_stmts.specs.Faults.{FaultsValue, FaultsHere, FaultsOptional, FaultsCalled, FaultsModuleName, FaultsOperands, FaultsPlain}
use Rattle.parse_stmts.specs.Faults.{FaultsSimple, FaultsLine, FaultsLabel, FaultsLabels, FaultsCourse, FaultsAlias}
use Rattle.parse_stmts.proofs.Means.{Means, m_got, m_bad, m_tired, means_map, means_then, means_unless, means_if, Told}

-- what the parsers of expressions and declarations read
pub record Laws : Type 0 where
  pub value : (x : Origin) (n : ℕ) → Told (λ k ts. run_value k x n ts) (IsValue x n) (FaultsValue x n)
  pub called : (x : Origin) (n : ℕ) → Told (λ k ts. of_expr ts (run_primary k x (Lines n) true most_levels ts)) (IsCalled x n) (FaultsCalled x n)
  pub name : (x : Origin) (i : Layout) → Told (λ k ts. run_name x i ts) (IsName x i) (FaultsName (name_on i))
  pub names : (x : Origin) (n : ℕ) → Told (λ k ts. run_names k x (Lines n) ts) (Names x (Lines n)) (FaultsNames x (Lines n))
  pub definition : (x : Origin) (n : ℕ) → Told (λ k ts. run_def k x (Lines n) ts) (ShortDefinition x (Lines n)) (FaultsDefinition x (Lines n))
  pub definitions : (x : Origin) (n : ℕ) → Told (λ k ts. run_def_block k x n ts) (AreDefinitions x n) (FaultsDefinitionBlock x n)
  pub types : (x : Origin) (n : ℕ) → Told (λ k ts. run_types k x n ts) (AreTypes x n) (FaultsDeclarations x n)
  pub head : (x : Origin) (n : ℕ) → Told (λ k ts. run_head k x (Lines n) ts) (IsProcedure x n) (FaultsHead x (Lines n))

-- ---- expressions

pub means_value : (law : Laws) (k : ℕ) (x : Origin) (n : ℕ) (ts : List Token) → Means (λ a rest. IsValue x n a ts rest) (λ why. FaultsValue x n why ts)
    (run_value k x n ts)
means_value law k x n ts = (law.value x n).means k ts

pub means_here : (law : Laws) (k : ℕ) (x : Origin) (n : ℕ) (ts : List Token) → Means (λ a rest. IsHere x n a ts rest) (λ why. FaultsHere x n why ts)
    (run_here k x n ts)
means_here law k x n ts = means_unless _ _ (λ e. means_map (means_value law k x n ts) (λ a rest d. record { here = e; value = d }) (λ why w. F.f_value e w))
    (λ e. F.f_line e refl)

pub means_optional : (law : Laws) (k : ℕ) (x : Origin) (n : ℕ) (ts : List Token) → Means (λ a rest. Optional x n a ts rest) (λ why. FaultsOptional x n why ts)
    (run_optional k x n ts)
means_optional law k x n ts =
    means_if _ (λ e. means_then (means_value law k x n ts) (λ a rest d. m_got (e_some e d)) (λ why w. record { begins = e; at = w })) (λ e. m_got (e_none e))

-- ---- imports

pub means_module : (law : Laws) (x : Origin) (i : Layout) (ts : List Token) → Means (λ a rest. IsModuleName x i a ts rest) (λ why. FaultsModuleName x i why ts)
    (run_module_name x i ts)
means_module law x i ts =
    means_if _ (λ e. m_bad (F.f_path e refl)) (λ e. means_map ((law.name x i).means 0 ts) (λ a rest d. record { plain = e; is = d }) (λ why w. F.f_module e w))

pub means_modules : (law : Laws) (k : ℕ) (x : Origin) (n : ℕ) (some : List Name) (ts : List Token)
    → Means (λ all rest. MoreModules x n some all ts rest)
    (λ why. FaultsEach (comma_at (Lines n)) behind (IsModuleName x Brackets) (FaultsModuleName x Brackets) why ts) (run_more_modules k x n some ts)
means_modules law zero x n some ts = m_tired
means_modules law (suc k) x n some ts =
    means_if _ (λ e. means_then (means_module law x Brackets (behind ts))
    (λ name mid d. means_map (means_modules law k x n (some ++ name ∷ []) mid) (λ all rest m. m_next e d m) (λ why w. f_later e d w)) (λ why w. f_here e w))
    (λ e. m_got (m_over e))

-- ---- commands and assignments

pub means_operands : (law : Laws) (k : ℕ) (x : Origin) (n : ℕ) (some : Parts) (ts : List Token)
    → Means (λ all rest. MoreOperands x n some all ts rest) (λ why. FaultsOperands x n why ts) (run_operands k x n some ts)
means_operands law zero x n some ts = m_tired
means_operands law (suc k) x n some ts =
    means_if _ (λ e. means_then (means_value law k x n (behind ts))
    (λ a mid d. means_map (means_operands law k x n (and_part some a) mid) (λ all rest m. o_next e d m) (λ why w. f_later e d w)) (λ why w. f_here e w))
    (λ e. m_got (o_over e))

means_assigned : (law : Laws) (k : ℕ) (op : Option AssignOp) (x : Origin) (n : ℕ) (a : Term) (ts mid : List Token) → NoCommand x n ts → IsValue x n a ts mid
    → assigned_by (lead_at ts) (assign_on x n mid) ≡ op
    → Means (λ s rest. IsPlain x n s ts rest) (λ why. FaultsPlain x n why ts) (run_assigned k op x n a mid)
means_assigned law k None x n a ts mid c d e = m_got (p_value c d e)
means_assigned law k (Some op) x n a ts mid c d e = means_then (means_here law k x n (behind mid)) (λ b rest h. m_got (p_assign c d e h))
    (λ why w. F.f_assigned c d e w)

means_expression : (law : Laws) (k : ℕ) (x : Origin) (n : ℕ) (ts : List Token) → NoCommand x n ts
    → Means (λ s rest. IsPlain x n s ts rest) (λ why. FaultsPlain x n why ts) (run_expression k x n ts)
means_expression law k x n ts c = means_then (means_value law k x n ts) (λ a mid d. means_assigned law k _ x n a ts mid c d refl) (λ why w. F.f_expression c w)

means_command : (law : Laws) (k : ℕ) (x : Origin) (n : ℕ) (a : Term) (ts mid : List Token) → atom_at x ts ≡ true → IsCalled x n a ts mid
    → operand_on x (Lines n) mid ≡ true
    → Means (λ s rest. IsPlain x n s ts rest) (λ why. FaultsPlain x n why ts) (run_command k x n a mid)
means_command law k x n a ts mid e c o =
    means_then (means_value law k x n mid)
    (λ b end d. means_then (means_operands law k x n (part b no_parts) end) (λ all rest m. m_got (p_command e c o d m)) (λ why w. F.f_operands e c o d w))
    (λ why w. F.f_operand e c o w)

pub means_plain : (law : Laws) (k : ℕ) (x : Origin) (n : ℕ) (ts : List Token) → Means (λ s rest. IsPlain x n s ts rest) (λ why. FaultsPlain x n why ts)
    (run_plain k x n ts)
means_plain law k x n ts =
    means_if _ (λ e. means_then ((law.called x n).means k ts)
    (λ a mid c. means_if _ (λ o. means_command law k x n a ts mid e c o) (λ o. means_expression law k x n ts (n_alone c o))) (λ why w. F.f_callee e w))
    (λ e. means_expression law k x n ts (n_other e))

-- ---- simple statements

means_bound : {word : Simple} {binding : Binding} (law : Laws) (k : ℕ) (x : Origin) (n : ℕ) (tok : Token) (ts : List Token) → simple_of tok.kind ≡ word
    → Binds word binding
    → Means (λ s rest. IsSimple x n s (tok ∷ ts) rest) (λ why. FaultsSimple x n why (tok ∷ ts)) (run_bound k binding x n (place_at x tok) ts)
means_bound law k x n tok ts e b = means_then ((law.definition x n).means k ts) (λ d rest h. m_got (i_define e b h)) (λ why w. F.f_define e b w)

means_simple_by : (law : Laws) (k : ℕ) (it : Simple) (x : Origin) (n : ℕ) (tok : Token) (ts : List Token) → simple_of tok.kind ≡ it
    → Means (λ s rest. IsSimple x n s (tok ∷ ts) rest) (λ why. FaultsSimple x n why (tok ∷ ts)) (run_simple_by k it x n tok ts)
means_simple_by law k S.Discard x n tok ts e = means_then (means_optional law k x n ts) (λ a rest d. m_got (i_discard e d)) (λ why w. F.f_discard e w)
means_simple_by law k S.Return x n tok ts e = means_then (means_optional law k x n ts) (λ a rest d. m_got (i_return e d)) (λ why w. F.f_return e w)
means_simple_by law k S.Raise x n tok ts e = means_then (means_optional law k x n ts) (λ a rest d. m_got (i_raise e d)) (λ why w. F.f_raise e w)
means_simple_by law k S.Break x n tok ts e = m_got (i_break e)
means_simple_by law k S.Continue x n tok ts e = m_got (i_continue e)
means_simple_by law k S.Import x n tok ts e =
    means_then (means_module law x (Lines n) ts)
    (λ name mid d. means_then (means_modules law k x n (name ∷ []) mid) (λ all rest m. m_got (i_import e d m)) (λ why w. F.f_import e (f_next d w)))
    (λ why w. F.f_import e (f_first w))
means_simple_by law k S.Let x n tok ts e = means_bound law k x n tok ts e b_let
means_simple_by law k S.Var x n tok ts e = means_bound law k x n tok ts e b_var
means_simple_by law k S.Const x n tok ts e = means_bound law k x n tok ts e b_const
means_simple_by law k S.Plain x n tok ts e = means_map (means_plain law k x n (tok ∷ ts)) (λ s rest p. i_plain e p) (λ why w. F.f_plain e w)

pub means_simple : (law : Laws) (k : ℕ) (x : Origin) (n : ℕ) (ts : List Token) → Means (λ s rest. IsSimple x n s ts rest) (λ why. FaultsSimple x n why ts)
    (run_simple k x n ts)
means_simple law k x n [] = m_bad (F.f_nothing refl)
means_simple law k x n (tok ∷ ts) = means_simple_by law k _ x n tok ts refl

pub means_line : (law : Laws) (k : ℕ) (x : Origin) (n : ℕ) (some : Statements) (ts : List Token) → Means (λ all rest. IsLine x n some all ts rest)
    (λ why. FaultsLine x n why ts) (run_line k x n some ts)
means_line law zero x n some ts = m_tired
means_line law (suc k) x n some ts =
    means_then (means_simple law k x n ts)
    (λ s mid d. means_if _
    (λ e. means_unless _ _ (λ h. means_map (means_line law k x n (and_statement some s) (behind mid)) (λ all rest m. l_more d e h m)
    (λ why w. F.f_next_simple d e h w))
    (λ h. F.f_semicolon d e h refl))
    (λ e. m_got (l_last d e)))
    (λ why w. F.f_simple w)

-- ---- parts of statements with blocks

pub means_label : (law : Laws) (k : ℕ) (x : Origin) (n : ℕ) (ts : List Token) → Means (λ a rest. IsLabel x n a ts rest) (λ why. FaultsLabel x n why ts)
    (run_label k x n ts)
means_label law k x n ts =
    means_then (means_value law k x n ts)
    (λ a mid d. means_if _ (λ e. means_then (means_here law k x n (behind mid)) (λ b rest h. m_got (a_range d e h)) (λ why w. F.f_range d e w))
    (λ e. m_got (a_one d e)))
    (λ why w. F.f_label w)

pub means_labels : (law : Laws) (k : ℕ) (x : Origin) (n : ℕ) (some : Parts) (ts : List Token) → Means (λ all rest. MoreLabels x n some all ts rest)
    (λ why. FaultsLabels x n why ts) (run_labels k x n some ts)
means_labels law zero x n some ts = m_tired
means_labels law (suc k) x n some ts =
    means_if _ (λ e. means_then (means_label law k x n (behind ts))
    (λ a mid d. means_map (means_labels law k x n (and_part some a) mid) (λ all rest m. a_next e d m) (λ why w. f_later e d w)) (λ why w. f_here e w))
    (λ e. m_got (a_over e))

pub means_course : (law : Laws) (k : ℕ) (x : Origin) (n : ℕ) (ts : List Token) → Means (λ a rest. IsCourse x n a ts rest) (λ why. FaultsCourse x n why ts)
    (run_course k x n ts)
means_course law k x n ts =
    means_then (means_here law k x n ts)
    (λ a mid d. means_if _ (λ e. means_then (means_here law k x n (behind mid)) (λ b rest h. m_got (f_up_to d e h)) (λ why w. F.f_up_to d e w))
    (λ e. means_if _ (λ g. means_then (means_here law k x n (behind mid)) (λ b rest h. m_got (f_below d e g h)) (λ why w. F.f_below d e g w))
    (λ g. m_got (f_each d e g))))
    (λ why w. F.f_from w)

pub means_alias : (law : Laws) (x : Origin) (n : ℕ) (ts : List Token) → Means (λ a rest. Alias x n a ts rest) (λ why. FaultsAlias x n why ts)
    (run_binding true x n ts)
means_alias law x n ts =
    means_if _ (λ e. means_then ((law.name x (Lines n)).means 0 (behind ts)) (λ name rest d. m_got (e_some e d)) (λ why w. record { begins = e; at = w }))
    (λ e. m_got (e_none e))
