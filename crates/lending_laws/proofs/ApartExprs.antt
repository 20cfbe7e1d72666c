-- What stands for a term lends well.
use Rattle.std.proofs.Common.{◌≡◌, ℕ, Bool, true, false, List, [], ◌∷◌, codes, refl, sym, ap, subst, ◌∙◌, Option, Some, None}
use Rattle.std.specs.Prelude.{not, ◌&&◌}
use Rattle.arc_base.specs.declared.place.Place.{Place}
use Rattle.arc_base.specs.Refusal.{and_then}
use Rattle.indent_scanner.specs.Words.{normal}
use Rattle.indent_scanner.specs.Meaning.{inner as inside_of}
use Rattle.nim_tree.specs.Terms.{Term, Parts, Choices}
use Rattle.nim_types.specs.Types as type
use Rattle.nim_types.specs.Types.{Ty}
use Rattle.nim_program.specs.Program as P
use Rattle.nim_program.specs.Program.{Expr, Args, NoArg, ByValue, ByPath, Label, type_of}
use Rattle.nim_program.specs.Nodes.{one_value, followed_by, selecting}
use Rattle.expr_rules.specs.Env.{Env, unknown, a_variable, callable, known, known_as}
use Rattle.expr_rules.specs.Answers.{Valued, place_in, valued_by, Want, wanted, types_of, Operand, value}
use Rattle.expr_rules.specs.Paths.{path_of, is_some, is_writable, has_writable_root, can_be_written, root_of}
use Rattle.expr_rules.specs.Demands.{Asks, accepts, Demand}
use Rattle.expr_rules.specs.Constructions.{are_names, part_names, tuple_type, tuple_rule, array_rule, empty_rule, sequence_rule}
use Rattle.expr_rules.specs.Choices.{Branching, Chosen, Picked, branch_value, agrees, if_agrees}
use Rattle.expr_rules.specs.Names.{own_dollars, dollar_call, field_of}
use Rattle.expr_rules.specs.Sizes.{is_sized}
use Rattle.expr_rules.specs.Typed.{accepted, accepted_by}
use Rattle.expr_rules.specs.Laws.{CallsComputed}
use Rattle.expr_rules.specs.Rules.{IsTyped, t_int, t_char, t_text, t_variable, t_constant, t_paren, t_named, t_tuple, t_array, t_sequence, t_construct}
use Rattle.expr_rules.specs.Rules.{t_field, t_dot, t_index, t_call, t_quoted_call, t_method, t_new_sequence, t_conversion, t_unary, t_dollar, t_binary, t_if}
use Rattle.expr_rules.specs.Rules.{t_case}
use Rattle.expr_rules.specs.Meant.{IsConversion, empty_object, from_source, from_wrapper, IsCall}
use Rattle.expr_rules.specs.Overloads.{IsSettled, by_type, by_place}
use Rattle.expr_rules.specs.Rules.{t_case_else}
use Rattle.expr_rules.specs.Rules.{IsValue, v_value, AreValues, v_none, v_more, IsOperand, o_value}
use Rattle.expr_rules.specs.Rules.{o_shown, o_open, o_type, o_input, AreOperands, o_none, o_more, AreConditions, c_none, c_more, ArePicks, k_none, k_more}
use Rattle.lending_laws.specs.Apart.{has_fields, ExprLends, ArgsLend}
use Rattle.lending_laws.proofs.Sure.{Sure, s_ok, s_err, sure_ok, sure_if, never}
use Rattle.lending_laws.proofs.Scopes.{EntriesSpared, KnownSpared, known_spared}
use Rattle.lending_laws.proofs.ApartRules.{Unkept, Made, ValueLends, OperandLends, OperandUnkept, AllLend, ValuesLend, FieldLends}
use Rattle.lending_laws.proofs.ApartRules.{exprs_part, exprs_spare, unary_parts, one_parts, fitting_parts, binary_parts}
use Rattle.lending_laws.proofs.ApartRules.{call_parts, field_parts, index_parts, made_parts}

pub valued_parts : (R : Expr → Type 0) (e : Expr) (t : Option Ty) → R e → Sure (λ v. R v.expr) (valued_by e t)
valued_parts R e (Some t) h = s_ok h
valued_parts R e None h = s_err

pub second_true : (a b : Bool) → (a && b) ≡ true → b ≡ true
second_true true b e = e
second_true false b e = cc

module _ (kept : ℕ → Bool) where
  -- ---- rules

  tuple_parts : (env : Env) (want : Want) (n : ℕ) (at : Place) (names : List (List ℕ)) (vs : List Valued) → ValuesLend kept vs
      → Sure (ExprLends kept) (tuple_rule env want n at names vs)
  tuple_parts env want n at names vs h =
      sure_if (are_names names vs)
      (sure_if (is_sized env.facts (tuple_type names want (types_of vs))) (s_ok ((tt, exprs_spare kept vs), exprs_part kept vs h)) s_err) s_err

  array_parts : (env : Env) (n : ℕ) (at : Place) (vs : List Valued) → ValuesLend kept vs → Sure (ExprLends kept) (array_rule env n at vs)
  array_parts env n at [] h = s_err
  array_parts env n at (v ∷ vs) h = sure_if _ (sure_if _ (s_ok ((tt, exprs_spare kept (v ∷ vs)), exprs_part kept (v ∷ vs) h)) s_err) s_err

  sequence_parts : (want : Want) (n : ℕ) (at : Place) (vs : List Valued) → ValuesLend kept vs → Sure (ExprLends kept) (sequence_rule want n at vs)
  sequence_parts want n at [] h = by_type (wanted want)
    where
      by_type : (t : Option Ty) → Sure (ExprLends kept) (empty_rule n at t)
      by_type (Some (type.sequence t)) = s_ok ((tt, tt), tt)
      by_type _ = s_err
  sequence_parts want n at (v ∷ vs) h = s_ok ((tt, exprs_spare kept (v ∷ vs)), exprs_part kept (v ∷ vs) h)

  -- ---- branches

  -- `else` behind them
  pub else_parts : (parts : Args) (e : Expr) → ArgsLend kept parts → ExprLends kept e → ArgsLend kept (followed_by parts (one_value e))
  else_parts NoArg e h k = (k, tt)
  else_parts (ByValue x more) e h k = (h.0, else_parts more e h.1 k)
  else_parts (ByPath path more) e h k = (h.0, else_parts more e h.1 k)

  selector_parts : (e : Expr) (parts : Args) → ExprLends kept e → ArgsLend kept parts → ArgsLend kept (selecting e parts)
  selector_parts (P.Read path) parts h k = (h, k)
  selector_parts (P.Apply node ty act operands) parts h k = (h, k)
  selector_parts (P.Early node ty short a b) parts h k = (h, k)
  selector_parts (P.Choose node ty chooser more) parts h k = (h, k)

  -- ---- terms

  -- what stands for a term begins at no place that is kept where the term begins at a name that may be written
  abbrev pub TermLends : Env → Term → Expr → Type 0
  TermLends env t e = ExprLends kept e × (has_writable_root env t ≡ true → Unkept kept (path_of e))

  by_itself : {A : Type 0} (e : Expr) → Made kept e → ExprLends kept e × (A → Unkept kept (path_of e))
  by_itself e h = (h.0, λ w. h.1)

  named_unkept : (env : Env) (x : List ℕ) (place : ℕ) (of : Ty) (writable global : Bool) → EntriesSpared kept env.entries
      → known env x ≡ a_variable place of writable global → is_writable (known env x) ≡ true → (not global && kept place) ≡ false
  named_unkept env x place of writable global s e w =
      subst (KnownSpared kept) e (known_spared kept unknown (normal x) env.entries tt s) (sym (ap is_writable e) ∙ w)

  -- ---- values that rules hand on

  abbrev pub ValueOf : Env → Term → Valued → Type 0
  ValueOf env t v = ValueLends kept v × (has_writable_root env t ≡ true → Unkept kept (path_of v.expr))

  accepted_parts : (env : Env) (t : Term) (g : Asks) (e : Expr) → TermLends env t e → Sure (ValueOf env t) (accepted g (can_be_written env t e) e)
  accepted_parts env t g e h = by_type (type_of e) refl
    where
      written : can_be_written env t e ≡ true → Unkept kept (path_of e)
      written w = h.1 (second_true (is_some (root_of (path_of e))) (has_writable_root env t) w)

      by_test : (of : Ty) → type_of e ≡ Some of → (b : Bool)
          → Sure (ValueOf env t) (accepted_by b (record { expr = e; of = of; writable = can_be_written env t e }))
      by_test of is true = s_ok ((h.0, written, λ k. subst (λ o. has_fields o ≡ true) (sym is) k), h.1)
      by_test of is false = s_err

      by_type : (of : Option Ty) → type_of e ≡ of → Sure (ValueOf env t)
          (and_then (valued_by e of) (λ v. accepted_by (accepts g v.of) (record v { writable = can_be_written env t e })))
      by_type (Some of) is = by_test of is (accepts g of)
      by_type None is = s_err

  branch_parts : (b : Branching) (x : Expr) → ExprLends kept x → Sure (ExprLends kept) (branch_value b x)
  branch_parts b x h = by_test (agrees b (type_of x))
    where
      by_test : (c : Bool) → Sure (ExprLends kept) (if_agrees c x)
      by_test true = s_ok h
      by_test false = s_err

  dollar_parts : (env : Env) (n : ℕ) (w : Valued) → ValueLends kept w → Sure (Made kept) (dollar_call env n w)
  dollar_parts env n w h =
      one_parts kept n (place_in w.expr) (codes "$") (own_dollars env w) _
      (fitting_parts kept (callable (known_as env (codes "$"))) (value w ∷ []) (h, tt)) s_err

  settled_value : {ty : Ty} {o : Operand} {v : Valued} → OperandLends kept o → IsSettled ty o v → ExprLends kept v.expr
  settled_value h (by_type e) = h.0
  settled_value h by_place = ((tt, tt), tt)

  converted_parts : {env : Env} {n : ℕ} {at : Place} {ty : Ty} {os : List Operand} {e : Expr} → AllLend kept os → IsConversion env n at ty os e
      → Made kept e
  converted_parts h (empty_object f) = (((tt, tt), tt), refl)
  converted_parts h (from_source s k) = (((tt, tt), (settled_value h.0 k, tt)), refl)
  converted_parts h (from_wrapper b s) = (((tt, tt), (h.0.0, tt)), refl)

  some_parts : (o : Operand) (a : Option Expr) (e : Expr) → FieldLends kept o a → a ≡ Some e → FieldLends kept o (Some e)
  some_parts o (Some x) e h f = subst (FieldLends kept o) f h
  some_parts o None e h f = cc

  -- ---- the induction

  module _ (calls : CallsComputed) where
    by_call : (env : Env) (n : ℕ) (at : Place) (x : List ℕ) (os : List Operand) (e : Expr) → AllLend kept os → IsCall env n at x os e → Made kept e
    by_call env n at x os e h r = sure_ok (call_parts kept env n at x os h) ((calls env n at x os e).0 r)

    mutual
      pub typed_parts : {env : Env} {want : Want} {n m : ℕ} {t : Term} {e : Expr} → EntriesSpared kept env.entries → IsTyped env want n t e m
          → TermLends env t e
      typed_parts s t_int = (((tt, tt), tt), λ w. refl)
      typed_parts s t_char = (((tt, tt), tt), λ w. refl)
      typed_parts s t_text = (((tt, tt), tt), λ w. refl)
      typed_parts {env} s (t_variable {place = place} {x = x} {of = of} {writable = writable} {global = global} e) =
          (tt, λ w. named_unkept env x place of writable global s e w)
      typed_parts s (t_constant e) = (((tt, tt), tt), λ w. refl)
      typed_parts s (t_paren h) = typed_parts s h
      typed_parts s (t_named h) = ((typed_parts s h).0, λ w. never w)
      typed_parts {env} {want} {n} s (t_tuple {at = at} {inside = inside} {vs = vs} h r) =
          (sure_ok (tuple_parts env want n at (part_names inside) vs (values_parts s h)) r, λ w. never w)
      typed_parts {env} {want} {n} s (t_array {at = at} {vs = vs} h r) = (sure_ok (array_parts env n at vs (values_parts s h)) r, λ w. never w)
      typed_parts {env} {want} {n} s (t_sequence {at = at} {vs = vs} h r) = (sure_ok (sequence_parts want n at vs (values_parts s h)) r, λ w. never w)
      typed_parts s (t_construct {vs = vs} o f h) = (((tt, tt), exprs_part kept vs (values_parts s h)), λ w. never w)
      typed_parts {env} {want} {n} s (t_field {at = at} {x = x} {o = o} {e = e} h f) =
          let v = operand_parts s h in
          let part = some_parts o (field_of env n at (normal x) o) e (field_parts kept env n at (normal x) o v.0) f in
          (part.0, λ w. part.1 (v.1 w))
      typed_parts {env} {want} {n} s (t_dot {at = at} {x = x} {o = o} {e = e} h f k d r) =
          by_itself e (by_call env n at (normal x) (o ∷ []) e ((operand_parts s h).0, tt) r)
      typed_parts {env} {want} {n} s (t_index {m = m} {k = k} {at = at} {v = v} {w = i} {e = e} h g r) =
          let a = value_parts s h in
          let part = sure_ok (index_parts kept env n m k at v i a.0 (value_parts s g).0.0) r in
          (part.0, λ w. part.1 (a.1 w))
      typed_parts {env} {want} {n} s (t_call {at = at} {x = x} {os = os} {e = y} e f h r) =
          by_itself y (by_call env n at (normal x) os y (operands_parts s h) r)
      typed_parts {env} {want} {n} s (t_quoted_call {at = at} {x = x} {os = os} {e = y} e h r) =
          by_itself y (by_call env n at (inside_of x) os y (operands_parts s h) r)
      typed_parts {env} {want} {n} s (t_method {at = at} {x = x} {o = o} {os = os} {e = y} f g e h r) =
          by_itself y (by_call env n at (normal x) (o ∷ os) y ((operand_parts s g).0, operands_parts s h) r)
      typed_parts {env} {want} {n} s (t_new_sequence {at = at} {ty = ty} {os = os} {e = e} f g h r) =
          by_itself e (sure_ok (made_parts kept n at ty os (operands_parts s h)) r)
      typed_parts s (t_conversion {e = e} f b g h i) = by_itself e (converted_parts (operands_parts s h) i)
      typed_parts {env} {want} {n} s (t_unary {at = at} {op = op} {v = v} {e = e} h d r) =
          by_itself e (sure_ok (unary_parts kept n at op v (value_parts s h).0.0) r)
      typed_parts {env} {want} {n} s (t_dollar {at = at} {v = v} {e = e} h d r) =
          by_itself e (by_call env n at (codes "$") (value v ∷ []) e ((value_parts s h).0, tt) r)
      typed_parts {env} {want} {n} s (t_binary {at = at} {op = op} {o = o} {r = q} {e = e} h g r) =
          by_itself e (sure_ok (binary_parts kept env n at op o q (operand_parts s h).0 (operand_parts s g).0) r)
      typed_parts s (t_if {c = b} {x = x} {e = e} h g r) =
          (else_parts b.parts e (conditions_parts s h) (sure_ok (branch_parts b.values x (typed_parts s g).0) r), λ w. refl)
      typed_parts s (t_case {v = v} {p = p} h k r) = (selector_parts v.expr p.parts (value_parts s h).0.0 (picks_parts s k), λ w. refl)
      typed_parts s (t_case_else {v = v} {p = p} {x = x} {e = e} h k i r) = (
        selector_parts v.expr (followed_by p.parts (one_value e)) (value_parts s h).0.0
            (else_parts p.parts e (picks_parts s k) (sure_ok (branch_parts p.values x (typed_parts s i).0) r)),
        λ w. refl,
      )

      pub value_parts : {env : Env} {g : Asks} {n m : ℕ} {t : Term} {v : Valued} → EntriesSpared kept env.entries → IsValue env g n t v m → ValueOf env t v
      value_parts {env} {g} {t = t} s (v_value {e = e} h a) = sure_ok (accepted_parts env t g e (typed_parts s h)) a

      values_parts : {env : Env} {g : Asks} {n m : ℕ} {ts : Parts} {vs : List Valued} → EntriesSpared kept env.entries → AreValues env g n ts vs m
          → ValuesLend kept vs
      values_parts s v_none = tt
      values_parts s (v_more h k) = ((value_parts s h).0, values_parts s k)

      operand_parts : {env : Env} {d : Demand} {n m : ℕ} {t : Term} {o : Operand} → EntriesSpared kept env.entries → IsOperand env d n t o m
          → OperandLends kept o × (has_writable_root env t ≡ true → OperandUnkept kept o)
      operand_parts s (o_value f h i) = value_parts s h
      operand_parts {env} {d} {n} s (o_shown {w = w} {e = e} f h i g r) =
          let made = sure_ok (dollar_parts env n w (value_parts s g).0) r in ((made.0, λ w. made.1, λ is. cc), λ w. made.1)
      operand_parts s (o_open f) = (tt, λ w. tt)
      operand_parts s (o_type f h) = (tt, λ w. tt)
      operand_parts s (o_input f) = (tt, λ w. tt)

      operands_parts : {env : Env} {d : Demand} {n m : ℕ} {ts : Parts} {os : List Operand} → EntriesSpared kept env.entries → AreOperands env d n ts os m
          → AllLend kept os
      operands_parts s o_none = tt
      operands_parts s (o_more h k) = ((operand_parts s h).0, operands_parts s k)

      conditions_parts : {env : Env} {b : Branching} {n : ℕ} {ts : Choices} {all : Chosen} → EntriesSpared kept env.entries → AreConditions env b n ts all
          → ArgsLend kept all.parts
      conditions_parts s c_none = tt
      conditions_parts {b = b} s (c_more {x = x} g h r k) =
          ((value_parts s g).0.0, (sure_ok (branch_parts b x (typed_parts s h).0) r, conditions_parts s k))

      picks_parts : {env : Env} {ty : Ty} {before : List Label} {b : Branching} {n : ℕ} {ts : Choices} {all : Picked} → EntriesSpared kept env.entries
          → ArePicks env ty before b n ts all → ArgsLend kept all.parts
      picks_parts s k_none = tt
      picks_parts {b = b} s (k_more {x = x} g h r k) = (sure_ok (branch_parts b x (typed_parts s h).0) r, picks_parts s k)
