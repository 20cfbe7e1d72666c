-- Which terms have no typed node, with the code and the place that say why: one constructor for each way of failing. What stands
-- before a failing part is typed, so the first failure in order of text is meant, operands before their operation.
use Rattle.std.specs.Prelude.{◌≡◌, ℕ, suc, ℤ, true, false, ◌&&◌, List, [], ◌∷◌, ◌++◌, codes, Some, None, Ok}
use Rattle.arc_base.specs.declared.place.Place.{Place}
use Rattle.arc_base.specs.declared.place.Code.{Code}
use Rattle.arc_base.specs.declared.place.Code.TheVariants.{UnknownName, NotTyped, CaseCover, LeftOut}
use Rattle.arc_base.specs.Refusal.{IsRefusal}
use Rattle.indent_scanner.specs.Words.{normal}
use Rattle.indent_scanner.specs.Meaning.{inner as inside_of}
use Rattle.nim_tree.specs.declared.expr.UnaryOp.{UnaryOp}
use Rattle.nim_tree.specs.declared.expr.BinaryOp.{BinaryOp}
use Rattle.nim_tree.specs.Terms as term
use Rattle.nim_tree.specs.Terms.{Term, Parts, no_parts, part, Choices, no_choices, choice, place_of}
use Rattle.nim_types.specs.Types as type
use Rattle.nim_types.specs.Types.{Ty}
use Rattle.nim_program.specs.Program.{Expr, Label, type_of}
use Rattle.expr_rules.specs.Env.{Env, known}
use Rattle.expr_rules.specs.Answers.{Valued, value_of, Want, nothing, wanted, within, Operand, value}
use Rattle.expr_rules.specs.Paths.{can_be_written}
use Rattle.expr_rules.specs.Operators.{unary_rule, binary_rule}
use Rattle.expr_rules.specs.Demands.{Asks, anything, exactly, selector, parts, fields, elements, want_in, asks_behind, Demand, arguments, demand_behind}
use Rattle.expr_rules.specs.Demands.{operator_demand, bare, call_demand, receiver_demand, special, ordinary, is_type, is_a_type}
use Rattle.expr_rules.specs.Constructions.{Found, object_of, tuple_wants, tuple_rule, array_want, array_rule, sequence_want, sequence_rule, index_rule}
use Rattle.expr_rules.specs.FieldsGiven.{AreFields, AreNoFields}
use Rattle.expr_rules.specs.Constructions.{part_names, part_count, types_in}
use Rattle.expr_rules.specs.Choices.{Branching, undecided, branch_want, branching_behind, branch_value, label_value, range_of, gives_in}
use Rattle.expr_rules.specs.Choices.{Chosen, Picked}
use Rattle.expr_rules.specs.Covered.{LacksValue, HasTwice}
use Rattle.expr_rules.specs.Meant.{IsUnknown, Unfit, ConvertsNot, IsNoCall}
use Rattle.expr_rules.specs.Builtins.{is_new_sequence}
use Rattle.expr_rules.specs.Names.{is_value_name, count_rule, quoted_rule, makes_sequence, bracket_rule, new_sequence_rule, field_of, default_of_value}
use Rattle.expr_rules.specs.Names.{is_single, formed_type, is_array, length_rule, array_type, is_shown_by_call, dollar_call}
use Rattle.expr_rules.specs.Typed.{accepted, is_dollar, is_range, is_callee, is_pair, is_type_term}
use Rattle.expr_rules.specs.Rules.{IsTyped, IsValue, AreValues, IsOperand, AreOperands, AreConditions, ArePicks, AreLabels, IsLabel, Spells, SpellAll}

mutual
  -- IsRefused env want n t code at: no node stands for t, as the code says at the place
  pub data IsRefused (env : Env) : Want → ℕ → Term → Code → Place → Type 0 where
    r_unknown : {want : Want} {n : ℕ} {at : Place} {x : List ℕ} → IsUnknown env (normal x) → IsRefused env want n (term.name at x) UnknownName at
    -- a type, a procedure, a built-in operation or standard input
    r_no_value : {want : Want} {n : ℕ} {at : Place} {x : List ℕ} → (IsUnknown env (normal x) → ⊥) → is_value_name (known env x) ≡ false
        → IsRefused env want n (term.name at x) NotTyped at
    r_quoted : {want : Want} {n : ℕ} {at : Place} {x : List ℕ} → IsRefused env want n (term.quoted at x) NotTyped at
    -- not built yet
    r_nil : {want : Want} {n : ℕ} {at : Place} → IsRefused env want n (term.nil at) LeftOut at
    -- a range is a label alone
    r_range : {want : Want} {n : ℕ} {at : Place} {a b : Term} → IsRefused env want n (term.range at a b) NotTyped at
    r_paren : {want : Want} {n : ℕ} {at p : Place} {a : Term} {c : Code} → IsRefused env want n a c p → IsRefused env want n (term.paren at a) c p
    r_named : {want : Want} {n : ℕ} {at p : Place} {x : List ℕ} {a : Term} {c : Code} → IsRefused env want n a c p
        → IsRefused env want n (term.named at x a) c p
    r_tuple_part : {want : Want} {n : ℕ} {at p : Place} {inside : Parts} {c : Code}
        → AreNoValues env (parts (tuple_wants (wanted want) (part_count inside))) (suc n) inside c p
        → IsRefused env want n (term.tuple at inside) c p
    r_tuple : {want : Want} {n m : ℕ} {at p : Place} {inside : Parts} {vs : List Valued} {c : Code}
        → AreValues env (parts (tuple_wants (wanted want) (part_count inside))) (suc n) inside vs m
        → IsRefusal (tuple_rule env want n at (part_names inside) vs) c p → IsRefused env want n (term.tuple at inside) c p
    r_array_element : {want : Want} {n : ℕ} {at p : Place} {inside : Parts} {c : Code}
        → AreNoValues env (elements (array_want (wanted want)) None) (suc n) inside c p → IsRefused env want n (term.array at inside) c p
    r_array : {want : Want} {n m : ℕ} {at p : Place} {inside : Parts} {vs : List Valued} {c : Code}
        → AreValues env (elements (array_want (wanted want)) None) (suc n) inside vs m → IsRefusal (array_rule env n at vs) c p
        → IsRefused env want n (term.array at inside) c p
    r_sequence_element : {want : Want} {n : ℕ} {at p : Place} {inside : Parts} {c : Code}
        → AreNoValues env (elements (sequence_want (wanted want)) None) (suc n) inside c p → IsRefused env want n (term.sequence at inside) c p
    r_sequence : {want : Want} {n m : ℕ} {at p : Place} {inside : Parts} {vs : List Valued} {c : Code}
        → AreValues env (elements (sequence_want (wanted want)) None) (suc n) inside vs m → IsRefusal (sequence_rule want n at vs) c p
        → IsRefused env want n (term.sequence at inside) c p
    r_unknown_type : {want : Want} {n : ℕ} {at : Place} {x : List ℕ} {inside : Parts} → IsUnknown env (normal x)
        → IsRefused env want n (term.construct at x inside) UnknownName at
    -- no object, or one of which nothing is known yet
    r_no_object : {want : Want} {n : ℕ} {at : Place} {x : List ℕ} {inside : Parts} → (IsUnknown env (normal x) → ⊥)
        → object_of env (known env x) ≡ None → IsRefused env want n (term.construct at x inside) NotTyped at
    r_no_fields : {want : Want} {n : ℕ} {at : Place} {x : List ℕ} {inside : Parts} {ty : Ty} {c : Code} → object_of env (known env x) ≡ Some ty
        → AreNoFields env ty (part_names inside) c → IsRefused env want n (term.construct at x inside) c at
    r_construct_field : {want : Want} {n : ℕ} {at p : Place} {x : List ℕ} {inside : Parts} {ty : Ty} {chosen : List Found} {c : Code}
        → object_of env (known env x) ≡ Some ty → AreFields env ty (part_names inside) chosen
        → AreNoValues env (fields (types_in chosen)) (suc n) inside c p → IsRefused env want n (term.construct at x inside) c p
    r_field_base : {want : Want} {n : ℕ} {at p : Place} {a : Term} {x : List ℕ} {c : Code}
        → IsNoOperand env (receiver_demand env (normal x) a) (suc n) a c p → IsRefused env want n (term.field at a x) c p
    r_no_field : {want : Want} {n m : ℕ} {at : Place} {a : Term} {x : List ℕ} {o : Operand}
        → IsOperand env (receiver_demand env (normal x) a) (suc n) a o m → field_of env n at (normal x) o ≡ None → IsUnknown env (normal x)
        → IsRefused env want n (term.field at a x) UnknownName at
    -- `.default` behind a value
    r_dot_default : {want : Want} {n m : ℕ} {at p : Place} {a : Term} {x : List ℕ} {o : Operand}
        → IsOperand env (receiver_demand env (normal x) a) (suc n) a o m → field_of env n at (normal x) o ≡ None
        → (IsUnknown env (normal x) → ⊥) → default_of_value (normal x) o ≡ Some p → IsRefused env want n (term.field at a x) NotTyped p
    r_dot : {want : Want} {n m : ℕ} {at p : Place} {a : Term} {x : List ℕ} {o : Operand} {c : Code}
        → IsOperand env (receiver_demand env (normal x) a) (suc n) a o m → field_of env n at (normal x) o ≡ None
        → (IsUnknown env (normal x) → ⊥) → default_of_value (normal x) o ≡ None → IsNoCall env n at (normal x) (o ∷ []) c p
        → IsRefused env want n (term.field at a x) c p
    r_index_base : {want : Want} {n : ℕ} {at p : Place} {a i : Term} {c : Code} → IsNoValue env anything (suc n) a c p
        → IsRefused env want n (term.index at a (part i no_parts)) c p
    r_index_part : {want : Want} {n m : ℕ} {at p : Place} {a i : Term} {v : Valued} {c : Code} → IsValue env anything (suc n) a v m
        → IsNoValue env anything m i c p → IsRefused env want n (term.index at a (part i no_parts)) c p
    r_index : {want : Want} {n m k : ℕ} {at p : Place} {a i : Term} {v w : Valued} {c : Code} → IsValue env anything (suc n) a v m
        → IsValue env anything m i w k → IsRefusal (index_rule env n m k at v w) c p
        → IsRefused env want n (term.index at a (part i no_parts)) c p
    r_indexes : {want : Want} {n : ℕ} {at : Place} {a : Term} {inside : Parts} → is_single inside ≡ false
        → IsRefused env want n (term.index at a inside) NotTyped at
    r_callee : {want : Want} {n : ℕ} {at p : Place} {x : List ℕ} {inside : Parts} → IsUnknown env (normal x)
        → IsRefused env want n (term.call at (term.name p x) inside) UnknownName p
    r_count : {want : Want} {n : ℕ} {at p q : Place} {x : List ℕ} {inside : Parts} {c : Code} → (IsUnknown env (normal x) → ⊥)
        → IsRefusal (count_rule at (normal x) inside) c q → IsRefused env want n (term.call at (term.name p x) inside) c q
    r_argument : {want : Want} {n : ℕ} {at p q : Place} {x : List ℕ} {inside : Parts} {c : Code} → (IsUnknown env (normal x) → ⊥)
        → count_rule at (normal x) inside ≡ Ok tt → AreNoOperands env (call_demand env (normal x) inside) (suc n) inside c q
        → IsRefused env want n (term.call at (term.name p x) inside) c q
    r_call : {want : Want} {n m : ℕ} {at p q : Place} {x : List ℕ} {inside : Parts} {os : List Operand} {c : Code}
        → (IsUnknown env (normal x) → ⊥) → count_rule at (normal x) inside ≡ Ok tt
        → AreOperands env (call_demand env (normal x) inside) (suc n) inside os m → IsNoCall env n at (normal x) os c q
        → IsRefused env want n (term.call at (term.name p x) inside) c q
    r_quoted_callee : {want : Want} {n : ℕ} {at p q : Place} {x : List ℕ} {inside : Parts} {c : Code}
        → IsRefusal (quoted_rule at (inside_of x) inside) c q → IsRefused env want n (term.call at (term.quoted p x) inside) c q
    r_quoted_argument : {want : Want} {n : ℕ} {at p q : Place} {x : List ℕ} {inside : Parts} {c : Code}
        → quoted_rule at (inside_of x) inside ≡ Ok tt → AreNoOperands env arguments (suc n) inside c q
        → IsRefused env want n (term.call at (term.quoted p x) inside) c q
    r_quoted_call : {want : Want} {n m : ℕ} {at p q : Place} {x : List ℕ} {inside : Parts} {os : List Operand} {c : Code}
        → quoted_rule at (inside_of x) inside ≡ Ok tt → AreOperands env arguments (suc n) inside os m
        → IsNoCall env n at (inside_of x) os c q → IsRefused env want n (term.call at (term.quoted p x) inside) c q
    r_method_count : {want : Want} {n : ℕ} {at p q : Place} {a : Term} {x : List ℕ} {inside : Parts} {c : Code}
        → IsRefusal (count_rule at (normal x) (part a inside)) c q → IsRefused env want n (term.call at (term.field p a x) inside) c q
    r_method_base : {want : Want} {n : ℕ} {at p q : Place} {a : Term} {x : List ℕ} {inside : Parts} {c : Code}
        → count_rule at (normal x) (part a inside) ≡ Ok tt → IsNoOperand env (call_demand env (normal x) (part a inside)) (suc n) a c q
        → IsRefused env want n (term.call at (term.field p a x) inside) c q
    r_no_method : {want : Want} {n l : ℕ} {at p : Place} {a : Term} {x : List ℕ} {inside : Parts} {o : Operand}
        → count_rule at (normal x) (part a inside) ≡ Ok tt → IsOperand env (call_demand env (normal x) (part a inside)) (suc n) a o l
        → IsUnknown env (normal x) → IsRefused env want n (term.call at (term.field p a x) inside) UnknownName at
    r_method_argument : {want : Want} {n l : ℕ} {at p q : Place} {a : Term} {x : List ℕ} {inside : Parts} {o : Operand} {c : Code}
        → count_rule at (normal x) (part a inside) ≡ Ok tt → IsOperand env (call_demand env (normal x) (part a inside)) (suc n) a o l
        → (IsUnknown env (normal x) → ⊥)
        → AreNoOperands env (demand_behind (call_demand env (normal x) (part a inside))) l inside c q
        → IsRefused env want n (term.call at (term.field p a x) inside) c q
    r_method : {want : Want} {n l m : ℕ} {at p q : Place} {a : Term} {x : List ℕ} {inside : Parts} {o : Operand} {os : List Operand} {c : Code}
        → count_rule at (normal x) (part a inside) ≡ Ok tt → IsOperand env (call_demand env (normal x) (part a inside)) (suc n) a o l
        → (IsUnknown env (normal x) → ⊥)
        → AreOperands env (demand_behind (call_demand env (normal x) (part a inside))) l inside os m
        → IsNoCall env n at (normal x) (o ∷ os) c q → IsRefused env want n (term.call at (term.field p a x) inside) c q
    r_new_type : {want : Want} {n : ℕ} {at p q r : Place} {x : List ℕ} {t : Term} {inside : Parts} {c : Code}
        → is_new_sequence (normal x) ≡ true → SpellsNothing env t c r
        → IsRefused env want n (term.call at (term.index p (term.name q x) (part t no_parts)) inside) c r
    r_new_length : {want : Want} {n : ℕ} {at p q r : Place} {x : List ℕ} {t : Term} {inside : Parts} {ty : Ty} {c : Code}
        → is_new_sequence (normal x) ≡ true → Spells env t ty → AreNoOperands env arguments (suc n) inside c r
        → IsRefused env want n (term.call at (term.index p (term.name q x) (part t no_parts)) inside) c r
    r_new_sequence : {want : Want} {n m : ℕ} {at p q r : Place} {x : List ℕ} {t : Term} {inside : Parts} {ty : Ty} {os : List Operand} {c : Code}
        → is_new_sequence (normal x) ≡ true → Spells env t ty → AreOperands env arguments (suc n) inside os m
        → IsRefusal (new_sequence_rule n at ty os) c r
        → IsRefused env want n (term.call at (term.index p (term.name q x) (part t no_parts)) inside) c r
    r_bracket_callee : {want : Want} {n : ℕ} {at p q r : Place} {x : List ℕ} {given inside : Parts} {c : Code}
        → makes_sequence (normal x) given ≡ false → IsRefusal (bracket_rule env at (normal x)) c r
        → IsRefused env want n (term.call at (term.index p (term.name q x) given) inside) c r
    r_bracket_type : {want : Want} {n : ℕ} {at p q r : Place} {x : List ℕ} {given inside : Parts} {c : Code}
        → makes_sequence (normal x) given ≡ false → bracket_rule env at (normal x) ≡ Ok tt
        → SpellsNothing env (term.index p (term.name q x) given) c r
        → IsRefused env want n (term.call at (term.index p (term.name q x) given) inside) c r
    r_bracket_argument : {want : Want} {n : ℕ} {at p q r : Place} {x : List ℕ} {given inside : Parts} {ty : Ty} {c : Code}
        → makes_sequence (normal x) given ≡ false → bracket_rule env at (normal x) ≡ Ok tt
        → Spells env (term.index p (term.name q x) given) ty → AreNoOperands env arguments (suc n) inside c r
        → IsRefused env want n (term.call at (term.index p (term.name q x) given) inside) c r
    r_conversion : {want : Want} {n m : ℕ} {at p q r : Place} {x : List ℕ} {given inside : Parts} {ty : Ty} {os : List Operand}
        → makes_sequence (normal x) given ≡ false → bracket_rule env at (normal x) ≡ Ok tt
        → Spells env (term.index p (term.name q x) given) ty → AreOperands env arguments (suc n) inside os m
        → ConvertsNot env n at ty os → Unfit at os r → IsRefused env want n (term.call at (term.index p (term.name q x) given) inside) NotTyped r
    r_no_callee : {want : Want} {n : ℕ} {at : Place} {a : Term} {inside : Parts} → is_callee a ≡ false
        → IsRefused env want n (term.call at a inside) NotTyped at
    r_unary_operand : {want : Want} {n : ℕ} {at p : Place} {op : UnaryOp} {a : Term} {c : Code} → IsNoValue env anything (suc n) a c p
        → IsRefused env want n (term.unary at op a) c p
    r_unary : {want : Want} {n m : ℕ} {at p : Place} {op : UnaryOp} {a : Term} {v : Valued} {c : Code} → IsValue env anything (suc n) a v m
        → is_dollar op ≡ false → IsRefusal (unary_rule n at op v) c p → IsRefused env want n (term.unary at op a) c p
    r_dollar : {want : Want} {n m : ℕ} {at p : Place} {op : UnaryOp} {a : Term} {v : Valued} {c : Code} → IsValue env anything (suc n) a v m
        → is_dollar op ≡ true → IsNoCall env n at (codes "$") (value v ∷ []) c p → IsRefused env want n (term.unary at op a) c p
    r_left : {want : Want} {n : ℕ} {at p : Place} {op : BinaryOp} {a b : Term} {c : Code} → IsNoOperand env (operator_demand op) (suc n) a c p
        → IsRefused env want n (term.binary at op a b) c p
    r_right : {want : Want} {n m : ℕ} {at p : Place} {op : BinaryOp} {a b : Term} {o : Operand} {c : Code}
        → IsOperand env (operator_demand op) (suc n) a o m → IsNoOperand env (operator_demand op) m b c p
        → IsRefused env want n (term.binary at op a b) c p
    r_binary : {want : Want} {n m k : ℕ} {at p : Place} {op : BinaryOp} {a b : Term} {o r : Operand} {c : Code}
        → IsOperand env (operator_demand op) (suc n) a o m → IsOperand env (operator_demand op) m b r k
        → IsRefusal (binary_rule env n at op o r) c p → IsRefused env want n (term.binary at op a b) c p
    r_if_branch : {want : Want} {n : ℕ} {at p : Place} {all : Choices} {a : Term} {c : Code}
        → AreNoConditions env (undecided (within want)) (suc n) all c p → IsRefused env want n (term.if_term at all a) c p
    r_if_else : {want : Want} {n : ℕ} {at p : Place} {all : Choices} {a : Term} {b : Chosen} {c : Code}
        → AreConditions env (undecided (within want)) (suc n) all b → IsRefused env (branch_want b.values) b.next a c p
        → IsRefused env want n (term.if_term at all a) c p
    r_if_value : {want : Want} {n m : ℕ} {at p : Place} {all : Choices} {a : Term} {b : Chosen} {x : Expr} {c : Code}
        → AreConditions env (undecided (within want)) (suc n) all b → IsTyped env (branch_want b.values) b.next a x m
        → IsRefusal (branch_value b.values x) c p → IsRefused env want n (term.if_term at all a) c p
    r_case_selector : {want : Want} {n : ℕ} {at p : Place} {a : Term} {all : Choices} {c : Code} → IsNoValue env selector (suc n) a c p
        → IsRefused env want n (term.case_term at a all) c p
    r_case_branch : {want : Want} {n m : ℕ} {at p : Place} {a : Term} {all : Choices} {v : Valued} {c : Code}
        → IsValue env selector (suc n) a v m → AreNoPicks env v.of [] (undecided (within want)) m all c p
        → IsRefused env want n (term.case_term at a all) c p
    r_case : {want : Want} {n m : ℕ} {at : Place} {a : Term} {all : Choices} {v : Valued} {b : Picked}
        → IsValue env selector (suc n) a v m → ArePicks env v.of [] (undecided (within want)) m all b
        → LacksValue env.facts v.of (gives_in b.values) b.labels → IsRefused env want n (term.case_term at a all) CaseCover at
    r_case_else_selector : {want : Want} {n : ℕ} {at p : Place} {a b : Term} {all : Choices} {c : Code} → IsNoValue env selector (suc n) a c p
        → IsRefused env want n (term.case_else at a all b) c p
    r_case_else_branch : {want : Want} {n m : ℕ} {at p : Place} {a b : Term} {all : Choices} {v : Valued} {c : Code}
        → IsValue env selector (suc n) a v m → AreNoPicks env v.of [] (undecided (within want)) m all c p
        → IsRefused env want n (term.case_else at a all b) c p
    r_case_else : {want : Want} {n m : ℕ} {at p : Place} {a b : Term} {all : Choices} {v : Valued} {k : Picked} {c : Code}
        → IsValue env selector (suc n) a v m → ArePicks env v.of [] (undecided (within want)) m all k
        → IsRefused env (branch_want k.values) k.next b c p → IsRefused env want n (term.case_else at a all b) c p
    r_case_else_last : {want : Want} {n m l : ℕ} {at p : Place} {a b : Term} {all : Choices} {v : Valued} {k : Picked} {x : Expr} {c : Code}
        → IsValue env selector (suc n) a v m → ArePicks env v.of [] (undecided (within want)) m all k
        → IsTyped env (branch_want k.values) k.next b x l → IsRefusal (branch_value k.values x) c p
        → IsRefused env want n (term.case_else at a all b) c p

  pub data IsNoValue (env : Env) : Asks → ℕ → Term → Code → Place → Type 0 where
    f_value : {g : Asks} {n : ℕ} {a : Term} {c : Code} {p : Place} → IsRefused env (want_in g) n a c p → IsNoValue env g n a c p
    -- no value, or not of the type that is asked for
    f_type : {g : Asks} {n m : ℕ} {a : Term} {e : Expr} {c : Code} {p : Place} → IsTyped env (want_in g) n a e m
        → IsRefusal (accepted g (can_be_written env a e) e) c p → IsNoValue env g n a c p

  pub data AreNoValues (env : Env) : Asks → ℕ → Parts → Code → Place → Type 0 where
    f_first_value : {g : Asks} {n : ℕ} {a : Term} {rest : Parts} {c : Code} {p : Place} → IsNoValue env g n a c p
        → AreNoValues env g n (part a rest) c p
    f_rest_values : {g : Asks} {n m : ℕ} {a : Term} {rest : Parts} {v : Valued} {c : Code} {p : Place} → IsValue env g n a v m
        → AreNoValues env (asks_behind g v.of) m rest c p → AreNoValues env g n (part a rest) c p

  pub data IsNoOperand (env : Env) : Demand → ℕ → Term → Code → Place → Type 0 where
    f_ordinary : {d : Demand} {n : ℕ} {a : Term} {c : Code} {p : Place} → special d a ≡ ordinary → IsNoValue env anything n a c p
        → IsNoOperand env d n a c p
    f_shown_again : {d : Demand} {n m : ℕ} {a : Term} {v : Valued} {c : Code} {p : Place} → special d a ≡ ordinary
        → IsValue env anything n a v m → is_shown_by_call env d v ≡ true → IsNoValue env anything (suc n) a c p → IsNoOperand env d n a c p
    f_shown : {d : Demand} {n m k : ℕ} {a : Term} {v w : Valued} {c : Code} {p : Place} → special d a ≡ ordinary
        → IsValue env anything n a v m → is_shown_by_call env d v ≡ true → IsValue env anything (suc n) a w k
        → IsRefusal (dollar_call env n w) c p → IsNoOperand env d n a c p
    f_spelled : {d : Demand} {n : ℕ} {a : Term} {c : Code} {p : Place} → special d a ≡ is_type → SpellsNothing env a c p
        → IsNoOperand env d n a c p

  pub data AreNoOperands (env : Env) : Demand → ℕ → Parts → Code → Place → Type 0 where
    f_first : {d : Demand} {n : ℕ} {a : Term} {rest : Parts} {c : Code} {p : Place} → IsNoOperand env d n a c p
        → AreNoOperands env d n (part a rest) c p
    f_rest : {d : Demand} {n m : ℕ} {a : Term} {rest : Parts} {o : Operand} {c : Code} {p : Place} → IsOperand env d n a o m
        → AreNoOperands env (demand_behind d) m rest c p → AreNoOperands env d n (part a rest) c p

  pub data AreNoConditions (env : Env) : Branching → ℕ → Choices → Code → Place → Type 0 where
    -- no tree of an `if`
    f_tests : {b : Branching} {n : ℕ} {at : Place} {tests : Parts} {a : Term} {rest : Choices} → is_single tests ≡ false
        → AreNoConditions env b n (choice at tests a rest) NotTyped at
    f_condition : {b : Branching} {n : ℕ} {at p : Place} {t a : Term} {rest : Choices} {c : Code}
        → IsNoValue env (exactly type.bool) n t c p → AreNoConditions env b n (choice at (part t no_parts) a rest) c p
    f_branch : {b : Branching} {n m : ℕ} {at p : Place} {t a : Term} {rest : Choices} {v : Valued} {c : Code}
        → IsValue env (exactly type.bool) n t v m → IsRefused env (branch_want b) m a c p
        → AreNoConditions env b n (choice at (part t no_parts) a rest) c p
    f_branch_value : {b : Branching} {n m k : ℕ} {at p : Place} {t a : Term} {rest : Choices} {v : Valued} {x : Expr} {c : Code}
        → IsValue env (exactly type.bool) n t v m → IsTyped env (branch_want b) m a x k → IsRefusal (branch_value b x) c p
        → AreNoConditions env b n (choice at (part t no_parts) a rest) c p
    f_conditions : {b : Branching} {n m k : ℕ} {at p : Place} {t a : Term} {rest : Choices} {v : Valued} {x e : Expr} {c : Code}
        → IsValue env (exactly type.bool) n t v m → IsTyped env (branch_want b) m a x k → branch_value b x ≡ Ok e
        → AreNoConditions env (branching_behind b (type_of e)) k rest c p
        → AreNoConditions env b n (choice at (part t no_parts) a rest) c p

  pub data AreNoPicks (env : Env) : Ty → List Label → Branching → ℕ → Choices → Code → Place → Type 0 where
    f_labels : {ty : Ty} {before : List Label} {b : Branching} {n : ℕ} {at p : Place} {tests : Parts} {a : Term} {rest : Choices} {c : Code}
        → AreNoLabels env ty before tests c p → AreNoPicks env ty before b n (choice at tests a rest) c p
    f_pick : {ty : Ty} {before ls : List Label} {b : Branching} {n : ℕ} {at p : Place} {tests : Parts} {a : Term} {rest : Choices} {c : Code}
        → AreLabels env ty before tests ls → IsRefused env (branch_want b) n a c p → AreNoPicks env ty before b n (choice at tests a rest) c p
    f_pick_value : {ty : Ty} {before ls : List Label} {b : Branching} {n k : ℕ} {at p : Place} {tests : Parts} {a : Term} {rest : Choices}
        {x : Expr} {c : Code} → AreLabels env ty before tests ls → IsTyped env (branch_want b) n a x k → IsRefusal (branch_value b x) c p
        → AreNoPicks env ty before b n (choice at tests a rest) c p
    f_picks : {ty : Ty} {before ls : List Label} {b : Branching} {n k : ℕ} {at p : Place} {tests : Parts} {a : Term} {rest : Choices}
        {x e : Expr} {c : Code} → AreLabels env ty before tests ls → IsTyped env (branch_want b) n a x k → branch_value b x ≡ Ok e
        → AreNoPicks env ty (before ++ ls) (branching_behind b (type_of e)) k rest c p → AreNoPicks env ty before b n (choice at tests a rest) c p

  pub data AreNoLabels (env : Env) : Ty → List Label → Parts → Code → Place → Type 0 where
    f_label : {ty : Ty} {before : List Label} {a : Term} {rest : Parts} {c : Code} {p : Place} → is_range a ≡ false
        → IsNoLabel env ty a c p → AreNoLabels env ty before (part a rest) c p
    -- a value twice
    f_label_again : {ty : Ty} {before : List Label} {a : Term} {rest : Parts} {k : Label} → is_range a ≡ false
        → IsLabel env ty a k → HasTwice k before → AreNoLabels env ty before (part a rest) CaseCover (place_of (bare a))
    f_label_rest : {ty : Ty} {before : List Label} {a : Term} {rest : Parts} {k : Label} {c : Code} {p : Place} → is_range a ≡ false
        → IsLabel env ty a k → (HasTwice k before → ⊥) → AreNoLabels env ty (before ++ k ∷ []) rest c p
        → AreNoLabels env ty before (part a rest) c p
    f_low : {ty : Ty} {before : List Label} {at p : Place} {a b : Term} {rest : Parts} {c : Code} → IsNoLabel env ty a c p
        → AreNoLabels env ty before (part (term.range at a b) rest) c p
    f_high : {ty : Ty} {before : List Label} {at p : Place} {a b : Term} {rest : Parts} {low : Label} {c : Code} → IsLabel env ty a low
        → IsNoLabel env ty b c p → AreNoLabels env ty before (part (term.range at a b) rest) c p
    f_range : {ty : Ty} {before : List Label} {at p : Place} {a b : Term} {rest : Parts} {low high : Label} {c : Code} → IsLabel env ty a low
        → IsLabel env ty b high → IsRefusal (range_of at low high) c p → AreNoLabels env ty before (part (term.range at a b) rest) c p
    f_range_again : {ty : Ty} {before : List Label} {at : Place} {a b : Term} {rest : Parts} {low high k : Label}
        → IsLabel env ty a low → IsLabel env ty b high → range_of at low high ≡ Ok k → HasTwice k before
        → AreNoLabels env ty before (part (term.range at a b) rest) CaseCover at
    f_range_rest : {ty : Ty} {before : List Label} {at p : Place} {a b : Term} {rest : Parts} {low high k : Label} {c : Code}
        → IsLabel env ty a low → IsLabel env ty b high → range_of at low high ≡ Ok k → (HasTwice k before → ⊥)
        → AreNoLabels env ty (before ++ k ∷ []) rest c p → AreNoLabels env ty before (part (term.range at a b) rest) c p

  pub data IsNoLabel (env : Env) : Ty → Term → Code → Place → Type 0 where
    f_no_term : {ty : Ty} {a : Term} {c : Code} {p : Place} → IsRefused env nothing 0 a c p → IsNoLabel env ty a c p
    f_no_value : {ty : Ty} {m : ℕ} {a : Term} {e : Expr} {c : Code} {p : Place} → IsTyped env nothing 0 a e m → IsRefusal (value_of e) c p
        → IsNoLabel env ty a c p
    -- of another type, or no constant
    f_no_constant : {ty : Ty} {m : ℕ} {a : Term} {e : Expr} {v : Valued} {c : Code} {p : Place} → IsTyped env nothing 0 a e m
        → value_of e ≡ Ok v → IsRefusal (label_value env.facts ty v) c p → IsNoLabel env ty a c p

  pub data SpellsNothing (env : Env) : Term → Code → Place → Type 0 where
    f_paren : {at p : Place} {a : Term} {c : Code} → SpellsNothing env a c p → SpellsNothing env (term.paren at a) c p
    f_unknown : {at : Place} {x : List ℕ} → IsUnknown env (normal x) → SpellsNothing env (term.name at x) UnknownName at
    f_named : {at : Place} {x : List ℕ} → (IsUnknown env (normal x) → ⊥) → is_a_type (known env x) ≡ false
        → SpellsNothing env (term.name at x) NotTyped at
    f_former : {at p : Place} {x : List ℕ} {given : Parts} → IsUnknown env (normal x)
        → SpellsNothing env (term.index at (term.name p x) given) UnknownName p
    f_length_term : {at p q : Place} {x : List ℕ} {l a : Term} {c : Code} → (IsUnknown env (normal x) → ⊥) → is_array x ≡ true
        → IsRefused env nothing 0 l c q → SpellsNothing env (term.index at (term.name p x) (part l (part a no_parts))) c q
    f_length_value : {at p q : Place} {x : List ℕ} {l a : Term} {m : ℕ} {e : Expr} {c : Code} → (IsUnknown env (normal x) → ⊥)
        → is_array x ≡ true → IsTyped env nothing 0 l e m → IsRefusal (value_of e) c q
        → SpellsNothing env (term.index at (term.name p x) (part l (part a no_parts))) c q
    -- no constant int
    f_length : {at p q : Place} {x : List ℕ} {l a : Term} {m : ℕ} {e : Expr} {v : Valued} {c : Code} → (IsUnknown env (normal x) → ⊥)
        → is_array x ≡ true → IsTyped env nothing 0 l e m → value_of e ≡ Ok v → IsRefusal (length_rule env.facts v) c q
        → SpellsNothing env (term.index at (term.name p x) (part l (part a no_parts))) c q
    f_element : {at p q : Place} {x : List ℕ} {l a : Term} {m : ℕ} {e : Expr} {v : Valued} {k : ℤ} {c : Code}
        → (IsUnknown env (normal x) → ⊥) → is_array x ≡ true → IsTyped env nothing 0 l e m → value_of e ≡ Ok v
        → length_rule env.facts v ≡ Ok k → SpellsNothing env a c q
        → SpellsNothing env (term.index at (term.name p x) (part l (part a no_parts))) c q
    -- too long or too large, or no array
    f_array : {at p q : Place} {x : List ℕ} {l a : Term} {m : ℕ} {e : Expr} {v : Valued} {k : ℤ} {of : Ty} {c : Code}
        → (IsUnknown env (normal x) → ⊥) → is_array x ≡ true → IsTyped env nothing 0 l e m → value_of e ≡ Ok v
        → length_rule env.facts v ≡ Ok k → Spells env a of → IsRefusal (array_type env at k of) c q
        → SpellsNothing env (term.index at (term.name p x) (part l (part a no_parts))) c q
    f_arguments : {at p q : Place} {x : List ℕ} {given : Parts} {c : Code} → (IsUnknown env (normal x) → ⊥)
        → (is_array x && is_pair given) ≡ false → SpellsNoTypes env given c q → SpellsNothing env (term.index at (term.name p x) given) c q
    f_formed : {at p q : Place} {x : List ℕ} {given : Parts} {ts : List Ty} {c : Code} → (IsUnknown env (normal x) → ⊥)
        → (is_array x && is_pair given) ≡ false → SpellAll env given ts → IsRefusal (formed_type env at x ts) c q
        → SpellsNothing env (term.index at (term.name p x) given) c q
    f_no_type : {a : Term} → is_type_term a ≡ false → SpellsNothing env a NotTyped (place_of a)

  pub data SpellsNoTypes (env : Env) : Parts → Code → Place → Type 0 where
    f_first_type : {a : Term} {rest : Parts} {c : Code} {p : Place} → SpellsNothing env a c p → SpellsNoTypes env (part a rest) c p
    f_rest_types : {a : Term} {rest : Parts} {ty : Ty} {c : Code} {p : Place} → Spells env a ty → SpellsNoTypes env rest c p
        → SpellsNoTypes env (part a rest) c p
