-- The nodes of what stands for a term are numbered one by one.
use Rattle.std.proofs.Common.{◌≡◌, ℕ, suc, Bool, true, false, List, [], ◌∷◌, refl, sym, ap, subst, ◌∙◌, append-nil}
use Rattle.std.specs.Prelude.{codes, Option, Some, None, Ok}
use Rattle.arc_base.specs.declared.place.Place.{Place}
use Rattle.indent_scanner.specs.Words.{normal}
use Rattle.indent_scanner.specs.Meaning.{inner as inside_of}
use Rattle.nim_tree.specs.Terms.{Term, Parts, Choices}
use Rattle.nim_types.specs.Types as type
use Rattle.nim_types.specs.Types.{Ty}
use Rattle.nim_program.specs.Program as P
use Rattle.nim_program.specs.Program.{Expr, Args, NoArg, ByValue, ByPath, Label, type_of}
use Rattle.nim_program.specs.Folds.{nodes}
use Rattle.nim_program.specs.Nodes.{one_value, followed_by, selecting}
use Rattle.expr_rules.specs.Env.{Env, callable, known_as}
use Rattle.expr_rules.specs.Answers.{Answer, Typed, typed_as, place_in, Valued, valued_by, Want, Operand, value}
use Rattle.expr_rules.specs.Answers.{types_of, wanted}
use Rattle.expr_rules.specs.Paths.{can_be_written}
use Rattle.expr_rules.specs.Demands.{Asks, accepts, Demand}
use Rattle.expr_rules.specs.Constructions.{part_names, are_names, tuple_type, tuple_rule, array_rule, empty_rule, sequence_rule}
use Rattle.expr_rules.specs.Constructions.{construct_rule}
use Rattle.expr_rules.specs.Choices.{Branching, Chosen, Picked, if_rule, case_else_rule, branch_value, agrees, if_agrees, case_node}
use Rattle.expr_rules.specs.Names.{own_dollars, dollar_call}
use Rattle.expr_rules.specs.Sizes.{is_sized}
use Rattle.expr_rules.specs.Typed.{accepted, accepted_by}
use Rattle.expr_rules.specs.Rules.{IsTyped, t_int, t_char, t_text, t_variable, t_constant, t_paren, t_named, t_tuple, t_array, t_sequence, t_construct}
use Rattle.expr_rules.specs.Rules.{t_field, t_dot, t_index, t_call, t_quoted_call, t_method, t_new_sequence, t_conversion, t_unary, t_dollar, t_binary, t_if}
use Rattle.expr_rules.specs.Rules.{t_case}
use Rattle.expr_rules.specs.Rules.{t_case_else}
use Rattle.expr_rules.specs.Rules.{IsValue, v_value, AreValues, v_none, v_more, IsOperand, o_value}
use Rattle.expr_rules.specs.Rules.{o_shown, o_open, o_type, o_input, AreOperands, o_none, o_more, AreConditions, c_none, c_more, ArePicks, k_none, k_more}
use Rattle.expr_rules.specs.Numbers.{Run, run_over, run_on}
use Rattle.expr_rules.specs.Laws.{NumberedSo}
use Rattle.expr_rules.proofs.Numbers.{Sure, s_ok, s_err, sure_ok, sure_then, sure_if, operand_numbers, all_numbers, value_numbers, Node_of}
use Rattle.expr_rules.proofs.Listed.{numbers, path_numbers, args_numbers, numbers_are, Leads}
use Rattle.expr_rules.proofs.Numbers.{parts_same, sequence_made, conversion_node}
use Rattle.expr_rules.proofs.Numbers.{unary_node, one_node, all_fit, binary_node, TypedRuns, leads_node, call_node, field_node, index_runs}
use Rattle.expr_rules.proofs.Called.{call_complete, conversion_back}

-- ---- rules

tuple_node : (env : Env) (want : Want) (n : ℕ) (at : Place) (names : List (List ℕ)) (vs : List Valued)
    → Sure (Node_of n (value_numbers vs)) (tuple_rule env want n at names vs)
tuple_node env want n at names vs =
    sure_if (are_names names vs) (sure_if (is_sized env.facts (tuple_type names want (types_of vs)))
    (s_ok (λ rest. ap (λ ns. n ∷ ns) (parts_same vs rest))) s_err) s_err

array_node : (env : Env) (n : ℕ) (at : Place) (vs : List Valued) → Sure (Node_of n (value_numbers vs)) (array_rule env n at vs)
array_node env n at [] = s_err
array_node env n at (v ∷ vs) = sure_if _ (sure_if _ (s_ok (λ rest. ap (λ ns. n ∷ ns) (parts_same (v ∷ vs) rest))) s_err) s_err

sequence_node : (want : Want) (n : ℕ) (at : Place) (vs : List Valued) → Sure (Node_of n (value_numbers vs)) (sequence_rule want n at vs)
sequence_node want n at [] = by_type (wanted want)
  where
    by_type : (t : Option Ty) → Sure (Node_of n (value_numbers [])) (empty_rule n at t)
    by_type (Some (type.sequence t)) = s_ok (λ rest. refl)
    by_type _ = s_err
sequence_node want n at (v ∷ vs) = s_ok (λ rest. ap (λ ns. n ∷ ns) (parts_same (v ∷ vs) rest))

-- ---- branches

-- `else` behind them
else_last : (parts : Args) (e : Expr) (rest : List ℕ) → args_numbers (followed_by parts (one_value e)) rest ≡ args_numbers parts (numbers e rest)
else_last NoArg e rest = refl
else_last (ByValue x more) e rest = ap (numbers x) (else_last more e rest)
else_last (ByPath path more) e rest = ap (path_numbers path) (else_last more e rest)

selector_first : (e : Expr) (parts : Args) (rest : List ℕ) → args_numbers (selecting e parts) rest ≡ numbers e (args_numbers parts rest)
selector_first (P.Read path) parts rest = refl
selector_first e parts rest = refl

-- ---- values that rules hand on

accepted_same : (g : Asks) (w : Bool) (e : Expr) → Sure (λ v. v.expr ≡ e) (accepted g w e)
accepted_same g w e = sure_then (valued_same e (type_of e)) (λ v f. by_test (record v { writable = w }) f (accepts g v.of))
  where
    by_test : (v : Valued) → v.expr ≡ e → (b : Bool) → Sure (λ v. v.expr ≡ e) (accepted_by b v)
    by_test v f true = s_ok f
    by_test v f false = s_err

    valued_same : (e : Expr) (t : Option Ty) → Sure (λ v. v.expr ≡ e) (valued_by e t)
    valued_same e (Some t) = s_ok refl
    valued_same e None = s_err

branch_same : (b : Branching) (x : Expr) → Sure (λ e. e ≡ x) (branch_value b x)
branch_same b x = by_test (agrees b (type_of x))
  where
    by_test : (c : Bool) → Sure (λ e. e ≡ x) (if_agrees c x)
    by_test true = s_ok refl
    by_test false = s_err

dollar_node : (env : Env) (n : ℕ) (w : Valued) → Sure (Node_of n (numbers w.expr)) (dollar_call env n w)
dollar_node env n w =
    one_node n (place_in w.expr) (codes "$") (own_dollars env w) (value w ∷ []) _ (all_fit (callable (known_as env (codes "$"))) (value w ∷ [])) s_err

-- ---- the induction

-- what leads on, by equal numbers
lead_as : {n m : ℕ} (f g : List ℕ → List ℕ) → ((rest : List ℕ) → g rest ≡ f rest) → Leads n m f → Leads n m g
lead_as {n} f g e h rest k r = subst (λ ns. Run n ns k) (sym (e rest)) (h rest k r)

lead_both : {n m k : ℕ} (f g : List ℕ → List ℕ) → Leads n m f → Leads m k g → Leads n k (λ rest. f (g rest))
lead_both f g h i rest l r = h (g rest) l (i rest l r)

lead_node : {n m : ℕ} (f : List ℕ → List ℕ) (e : Expr) → Leads (suc n) m f → Node_of n f e → Leads n m (numbers e)
lead_node {n} {m} f e h g = leads_node n m f e h g

runs_of : {n m : ℕ} {e : Expr} {r : Answer Typed} → Sure (TypedRuns n) r → r ≡ Ok (typed_as e m) → Leads n m (numbers e)
runs_of s e = sure_ok s e

same_expr : {e x : Expr} → e ≡ x → (rest : List ℕ) → numbers e rest ≡ numbers x rest
same_expr e rest = ap (λ y. numbers y rest) e

mutual
  typed_run : {env : Env} {want : Want} {n m : ℕ} {t : Term} {e : Expr} → IsTyped env want n t e m → Leads n m (numbers e)
  typed_run t_int = λ rest k r. run_on r
  typed_run t_char = λ rest k r. run_on r
  typed_run t_text = λ rest k r. run_on r
  typed_run (t_variable e) = λ rest k r. run_on r
  typed_run (t_constant e) = λ rest k r. run_on r
  typed_run (t_paren h) = typed_run h
  typed_run (t_named h) = typed_run h
  typed_run {env} {want} {n} {m} (t_tuple {at = at} {inside = inside} {vs = vs} {e = e} h r) =
      lead_node (value_numbers vs) e (values_run h) (sure_ok (tuple_node env want n at (part_names inside) vs) r)
  typed_run {env} {want} {n} {m} (t_array {at = at} {vs = vs} {e = e} h r) =
      lead_node (value_numbers vs) e (values_run h) (sure_ok (array_node env n at vs) r)
  typed_run {env} {want} {n} {m} (t_sequence {at = at} {vs = vs} {e = e} h r) =
      lead_node (value_numbers vs) e (values_run h) (sure_ok (sequence_node want n at vs) r)
  typed_run {env} {want} {n} {m} (t_construct {at = at} {ty = ty} {chosen = chosen} {vs = vs} o f h) =
      lead_node (value_numbers vs) (construct_rule n at ty chosen vs) (values_run h) (λ rest. ap (λ ns. n ∷ ns) (parts_same vs rest))
  typed_run {env} {want} {n} (t_field {at = at} {x = x} {o = o} {e = e} h f) =
      lead_node (all_numbers (o ∷ [])) e (operand_run h) (field_node env n at (normal x) o e f)
  typed_run {env} {want} {n} (t_dot {at = at} {x = x} {o = o} {e = e} h f k d r) =
      lead_node (all_numbers (o ∷ [])) e (operand_run h) (sure_ok (call_node env n at (normal x) (o ∷ [])) (call_complete r))
  typed_run {env} {want} {n} (t_index {m = m} {k = k} {at = at} {v = v} {w = w} h g r) =
      runs_of (index_runs env n m k at v w (value_run h) (value_run g)) r
  typed_run {env} {want} {n} (t_call {at = at} {x = x} {os = os} {e = y} e f h r) =
      lead_node (all_numbers os) y (operands_run h) (sure_ok (call_node env n at (normal x) os) (call_complete r))
  typed_run {env} {want} {n} (t_quoted_call {at = at} {x = x} {os = os} {e = y} e h r) =
      lead_node (all_numbers os) y (operands_run h) (sure_ok (call_node env n at (inside_of x) os) (call_complete r))
  typed_run {env} {want} {n} (t_method {at = at} {x = x} {o = o} {os = os} {e = y} f g e h r) =
      lead_node (all_numbers (o ∷ os)) y (lead_both (operand_numbers o) (all_numbers os) (operand_run g) (operands_run h))
      (sure_ok (call_node env n at (normal x) (o ∷ os)) (call_complete r))
  typed_run {env} {want} {n} (t_new_sequence {at = at} {ty = ty} {os = os} {e = e} f g h r) =
      lead_node (all_numbers os) e (operands_run h) (sure_ok (sequence_made n at ty os) r)
  typed_run {env} {want} {n} (t_conversion {at = at} {ty = ty} {os = os} {e = e} f b s h i) =
      lead_node (all_numbers os) e (operands_run h) (sure_ok (conversion_node env n at ty os) (conversion_back i))
  typed_run {env} {want} {n} (t_unary {at = at} {op = op} {v = v} {e = e} h d r) =
      lead_node (numbers v.expr) e (value_run h) (sure_ok (unary_node n at op v) r)
  typed_run {env} {want} {n} (t_dollar {at = at} {v = v} {e = e} h d r) =
      lead_node (numbers v.expr) e (value_run h) (sure_ok (call_node env n at (codes "$") (value v ∷ [])) (call_complete r))
  typed_run {env} {want} {n} (t_binary {at = at} {op = op} {o = o} {r = q} {e = e} h g r) =
      lead_node (λ rest. operand_numbers o (operand_numbers q rest)) e (lead_both (operand_numbers o) (operand_numbers q) (operand_run h) (operand_run g))
      (sure_ok (binary_node env n at op o q) r)
  typed_run {env} {want} {n} {m} (t_if {at = at} {c = b} {x = x} {e = e} h g r) =
      lead_node (λ rest. args_numbers b.parts (numbers e rest)) (if_rule n at b e) (lead_both (args_numbers b.parts) (numbers e) (conditions_run h)
      (lead_as (numbers x) (numbers e) (same_expr (sure_ok (branch_same b.values x) r)) (typed_run g)))
      (λ rest. ap (λ ns. n ∷ ns) (else_last b.parts e rest))
  typed_run {env} {want} {n} (t_case {at = at} {v = v} {p = p} h k r) =
      lead_node (λ rest. numbers v.expr (args_numbers p.parts rest)) (case_node n at v p)
      (lead_both (numbers v.expr) (args_numbers p.parts) (value_run h) (picks_run k)) (λ rest. ap (λ ns. n ∷ ns) (selector_first v.expr p.parts rest))
  typed_run {env} {want} {n} (t_case_else {m = m} {at = at} {v = v} {p = p} {x = x} {e = e} h k i r) =
      lead_node (λ rest. numbers v.expr (args_numbers p.parts (numbers e rest))) (case_else_rule n at v p e)
      (lead_both (numbers v.expr) (λ rest. args_numbers p.parts (numbers e rest))
      (value_run h) (lead_both (args_numbers p.parts) (numbers e) (picks_run k)
      (lead_as (numbers x) (numbers e) (same_expr (sure_ok (branch_same p.values x) r)) (typed_run i))))
      (λ rest. ap (λ ns. n ∷ ns) (selector_first v.expr (followed_by p.parts (one_value e)) rest ∙ ap (numbers v.expr) (else_last p.parts e rest)))

  value_run : {env : Env} {g : Asks} {n m : ℕ} {t : Term} {v : Valued} → IsValue env g n t v m → Leads n m (numbers v.expr)
  value_run {env} {g} {t = t} (v_value {e = e} {v = v} h a) =
      lead_as (numbers e) (numbers v.expr) (same_expr (sure_ok (accepted_same g (can_be_written env t e) e) a)) (typed_run h)

  values_run : {env : Env} {g : Asks} {n m : ℕ} {ts : Parts} {vs : List Valued} → AreValues env g n ts vs m → Leads n m (value_numbers vs)
  values_run v_none = λ rest k r. r
  values_run (v_more {v = v} {vs = vs} h k) = lead_both (numbers v.expr) (value_numbers vs) (value_run h) (values_run k)

  operand_run : {env : Env} {d : Demand} {n m : ℕ} {t : Term} {o : Operand} → IsOperand env d n t o m → Leads n m (operand_numbers o)
  operand_run (o_value s h i) = value_run h
  operand_run {env} {d} {n} (o_shown {w = w} {e = e} s h i g r) = lead_node (numbers w.expr) e (value_run g) (sure_ok (dollar_node env n w) r)
  operand_run (o_open s) = λ rest k r. run_on r
  operand_run (o_type s h) = λ rest k r. r
  operand_run (o_input s) = λ rest k r. r

  operands_run : {env : Env} {d : Demand} {n m : ℕ} {ts : Parts} {os : List Operand} → AreOperands env d n ts os m
      → Leads n m (all_numbers os)
  operands_run o_none = λ rest k r. r
  operands_run (o_more {o = o} {os = os} h k) = lead_both (operand_numbers o) (all_numbers os) (operand_run h) (operands_run k)

  conditions_run : {env : Env} {b : Branching} {n : ℕ} {ts : Choices} {all : Chosen} → AreConditions env b n ts all
      → Leads n all.next (args_numbers all.parts)
  conditions_run c_none = λ rest k r. r
  conditions_run {b = b} (c_more {at = at} {c = v} {x = x} {e = e} {more = more} g h r k) =
      lead_both (numbers v.expr) (λ rest. numbers e (args_numbers more.parts rest)) (value_run g)
      (lead_both (numbers e) (args_numbers more.parts)
      (lead_as (numbers x) (numbers e) (same_expr (sure_ok (branch_same b x) r)) (typed_run h)) (conditions_run k))

  picks_run : {env : Env} {ty : Ty} {before : List Label} {b : Branching} {n : ℕ} {ts : Choices} {all : Picked}
      → ArePicks env ty before b n ts all → Leads n all.next (args_numbers all.parts)
  picks_run k_none = λ rest k r. r
  picks_run {b = b} (k_more {x = x} {e = e} {more = more} g h r k) =
      lead_both (numbers e) (args_numbers more.parts) (lead_as (numbers x) (numbers e) (same_expr (sure_ok (branch_same b x) r)) (typed_run h))
      (picks_run k)

pub numbered : NumberedSo
numbered env want n m t e h = subst (λ ns. Run n ns m) (numbers_are e [] ∙ append-nil (nodes e)) (typed_run h [] m run_over)
