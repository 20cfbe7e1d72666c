-- The typing rules of expressions: which typed node stands for a term under the declarations of `env`, with the type that its place
-- gives and the number of its first node.
--
--     term ──IsTyped──> typed node, and the next number        each term is typed in one way,
--       └────IsRefused──> code and place (Refusals.antt)       or refused in one way
--
-- One constructor for each construct. Operands come first, in order of text; the rule of the construct then looks at their types.
use Rattle.std.specs.Prelude.{◌≡◌, ℕ, suc, ℤ, pos, Bool, true, false, ◌&&◌, List, [], ◌∷◌, ◌++◌, codes, Some, None, Ok}
use Rattle.arc_base.specs.declared.place.Place.{Place}
use Rattle.indent_scanner.specs.Words.{normal}
use Rattle.indent_scanner.specs.Meaning.{inner as inside_of}
use Rattle.indent_scanner.specs.ByForm.{characters}
use Rattle.nim_tree.specs.declared.expr.UnaryOp.{UnaryOp}
use Rattle.nim_tree.specs.declared.expr.BinaryOp.{BinaryOp}
use Rattle.nim_tree.specs.Terms as term
use Rattle.nim_tree.specs.Terms.{Term, Parts, no_parts, part, Choices, no_choices, choice, place_of}
use Rattle.nim_types.specs.Types as type
use Rattle.nim_types.specs.Types.{Ty}
use Rattle.nim_program.specs.Program.{Expr, Read, Variable, NoArg, ByValue, Literal, Number, Characters, Label, type_of}
use Rattle.nim_program.specs.Nodes.{literal}
use Rattle.expr_rules.specs.Env as env_of
use Rattle.expr_rules.specs.Env.{Env, a_variable, a_constant, known}
use Rattle.expr_rules.specs.Answers.{node, typed_as, Valued, valued, value_of, Want, nothing, wanted, within, Operand, value, open_sequence, a_type, the_input}
use Rattle.expr_rules.specs.Paths.{can_be_written}
use Rattle.expr_rules.specs.Operators.{unary_rule, binary_rule}
use Rattle.expr_rules.specs.Demands.{Asks, anything, exactly, selector, parts, fields, elements, want_in, asks_behind, Demand, arguments, demand_behind}
use Rattle.expr_rules.specs.Demands.{operator_demand, call_demand, receiver_demand, special, ordinary, is_open, is_type, is_stdin}
use Rattle.expr_rules.specs.Constructions.{Found, object_of, tuple_wants, tuple_rule, array_want, array_rule, sequence_want, sequence_rule, index_rule}
use Rattle.expr_rules.specs.FieldsGiven.{AreFields}
use Rattle.expr_rules.specs.Constructions.{part_names, part_count, types_in, construct_rule}
use Rattle.expr_rules.specs.Choices.{Branching, undecided, branch_want, branching_behind, branch_value, label_value, range_of, gives_in}
use Rattle.expr_rules.specs.Choices.{Chosen, Picked, if_rule, case_node, case_else_rule}
use Rattle.expr_rules.specs.Covered.{AreEnough, HasTwice}
use Rattle.expr_rules.specs.Meant.{IsUnknown, IsConversion, IsCall}
use Rattle.expr_rules.specs.Builtins.{is_new_sequence}
use Rattle.expr_rules.specs.Names.{count_rule, quoted_rule, makes_sequence, bracket_rule, new_sequence_rule, field_of, default_of_value}
use Rattle.expr_rules.specs.Names.{formed_type, is_array, length_rule, array_type, is_shown_by_call, dollar_call}
use Rattle.expr_rules.specs.Typed.{accepted, is_dollar, is_range, is_pair}

mutual
  -- IsTyped env want n t e m: e stands for t, and its nodes have the numbers from n up to m
  pub data IsTyped (env : Env) : Want → ℕ → Term → Expr → ℕ → Type 0 where
    t_int : {want : Want} {n : ℕ} {at : Place} {z : ℤ} → IsTyped env want n (term.int at z) (literal (node n at) type.int (Number z)) (suc n)
    t_char : {want : Want} {n : ℕ} {at : Place} {c : ℕ} → IsTyped env want n (term.char at c) (literal (node n at) type.char (Number (pos c))) (suc n)
    t_text : {want : Want} {n : ℕ} {at : Place} {bytes : List ℕ}
        → IsTyped env want n (term.text at bytes) (literal (node n at) type.text (Characters (characters bytes))) (suc n)
    t_variable : {want : Want} {n place : ℕ} {at : Place} {x : List ℕ} {of : Ty} {writable global : Bool}
        → known env x ≡ a_variable place of writable global
        → IsTyped env want n (term.name at x) (Read (Variable (node n at) of place global)) (suc n)
    t_constant : {want : Want} {n : ℕ} {at : Place} {x : List ℕ} {of : Ty} {value : Literal} → known env x ≡ a_constant of value
        → IsTyped env want n (term.name at x) (literal (node n at) of value) (suc n)
    t_paren : {want : Want} {n m : ℕ} {at : Place} {a : Term} {e : Expr} → IsTyped env want n a e m → IsTyped env want n (term.paren at a) e m
    t_named : {want : Want} {n m : ℕ} {at : Place} {x : List ℕ} {a : Term} {e : Expr} → IsTyped env want n a e m
        → IsTyped env want n (term.named at x a) e m
    t_tuple : {want : Want} {n m : ℕ} {at : Place} {inside : Parts} {vs : List Valued} {e : Expr}
        → AreValues env (parts (tuple_wants (wanted want) (part_count inside))) (suc n) inside vs m
        → tuple_rule env want n at (part_names inside) vs ≡ Ok e → IsTyped env want n (term.tuple at inside) e m
    t_array : {want : Want} {n m : ℕ} {at : Place} {inside : Parts} {vs : List Valued} {e : Expr}
        → AreValues env (elements (array_want (wanted want)) None) (suc n) inside vs m → array_rule env n at vs ≡ Ok e
        → IsTyped env want n (term.array at inside) e m
    t_sequence : {want : Want} {n m : ℕ} {at : Place} {inside : Parts} {vs : List Valued} {e : Expr}
        → AreValues env (elements (sequence_want (wanted want)) None) (suc n) inside vs m → sequence_rule want n at vs ≡ Ok e
        → IsTyped env want n (term.sequence at inside) e m
    t_construct : {want : Want} {n m : ℕ} {at : Place} {x : List ℕ} {inside : Parts} {ty : Ty} {chosen : List Found} {vs : List Valued}
        → object_of env (known env x) ≡ Some ty → AreFields env ty (part_names inside) chosen
        → AreValues env (fields (types_in chosen)) (suc n) inside vs m
        → IsTyped env want n (term.construct at x inside) (construct_rule n at ty chosen vs) m
    t_field : {want : Want} {n m : ℕ} {at : Place} {a : Term} {x : List ℕ} {o : Operand} {e : Expr}
        → IsOperand env (receiver_demand env (normal x) a) (suc n) a o m → field_of env n at (normal x) o ≡ Some e
        → IsTyped env want n (term.field at a x) e m
    -- no field, but a call with one operand
    t_dot : {want : Want} {n m : ℕ} {at : Place} {a : Term} {x : List ℕ} {o : Operand} {e : Expr}
        → IsOperand env (receiver_demand env (normal x) a) (suc n) a o m → field_of env n at (normal x) o ≡ None
        → (IsUnknown env (normal x) → ⊥) → default_of_value (normal x) o ≡ None → IsCall env n at (normal x) (o ∷ []) e
        → IsTyped env want n (term.field at a x) e m
    t_index : {want : Want} {n m k l : ℕ} {at : Place} {a i : Term} {v w : Valued} {e : Expr} → IsValue env anything (suc n) a v m
        → IsValue env anything m i w k → index_rule env n m k at v w ≡ Ok (typed_as e l)
        → IsTyped env want n (term.index at a (part i no_parts)) e l
    t_call : {want : Want} {n m : ℕ} {at p : Place} {x : List ℕ} {inside : Parts} {os : List Operand} {e : Expr}
        → (IsUnknown env (normal x) → ⊥) → count_rule at (normal x) inside ≡ Ok tt
        → AreOperands env (call_demand env (normal x) inside) (suc n) inside os m → IsCall env n at (normal x) os e
        → IsTyped env want n (term.call at (term.name p x) inside) e m
    t_quoted_call : {want : Want} {n m : ℕ} {at p : Place} {x : List ℕ} {inside : Parts} {os : List Operand} {e : Expr}
        → quoted_rule at (inside_of x) inside ≡ Ok tt → AreOperands env arguments (suc n) inside os m
        → IsCall env n at (inside_of x) os e → IsTyped env want n (term.call at (term.quoted p x) inside) e m
    t_method : {want : Want} {n l m : ℕ} {at p : Place} {a : Term} {x : List ℕ} {inside : Parts} {o : Operand} {os : List Operand} {e : Expr}
        → count_rule at (normal x) (part a inside) ≡ Ok tt → IsOperand env (call_demand env (normal x) (part a inside)) (suc n) a o l
        → (IsUnknown env (normal x) → ⊥)
        → AreOperands env (demand_behind (call_demand env (normal x) (part a inside))) l inside os m
        → IsCall env n at (normal x) (o ∷ os) e → IsTyped env want n (term.call at (term.field p a x) inside) e m
    t_new_sequence : {want : Want} {n m : ℕ} {at p q : Place} {x : List ℕ} {t : Term} {inside : Parts} {ty : Ty} {os : List Operand} {e : Expr}
        → is_new_sequence (normal x) ≡ true → Spells env t ty → AreOperands env arguments (suc n) inside os m
        → new_sequence_rule n at ty os ≡ Ok e
        → IsTyped env want n (term.call at (term.index p (term.name q x) (part t no_parts)) inside) e m
    t_conversion : {want : Want} {n m : ℕ} {at p q : Place} {x : List ℕ} {given inside : Parts} {ty : Ty} {os : List Operand} {e : Expr}
        → makes_sequence (normal x) given ≡ false → bracket_rule env at (normal x) ≡ Ok tt
        → Spells env (term.index p (term.name q x) given) ty → AreOperands env arguments (suc n) inside os m
        → IsConversion env n at ty os e
        → IsTyped env want n (term.call at (term.index p (term.name q x) given) inside) e m
    t_unary : {want : Want} {n m : ℕ} {at : Place} {op : UnaryOp} {a : Term} {v : Valued} {e : Expr} → IsValue env anything (suc n) a v m
        → is_dollar op ≡ false → unary_rule n at op v ≡ Ok e → IsTyped env want n (term.unary at op a) e m
    t_dollar : {want : Want} {n m : ℕ} {at : Place} {op : UnaryOp} {a : Term} {v : Valued} {e : Expr} → IsValue env anything (suc n) a v m
        → is_dollar op ≡ true → IsCall env n at (codes "$") (value v ∷ []) e → IsTyped env want n (term.unary at op a) e m
    t_binary : {want : Want} {n m k : ℕ} {at : Place} {op : BinaryOp} {a b : Term} {o r : Operand} {e : Expr}
        → IsOperand env (operator_demand op) (suc n) a o m → IsOperand env (operator_demand op) m b r k
        → binary_rule env n at op o r ≡ Ok e → IsTyped env want n (term.binary at op a b) e k
    t_if : {want : Want} {n m : ℕ} {at : Place} {all : Choices} {a : Term} {c : Chosen} {x e : Expr}
        → AreConditions env (undecided (within want)) (suc n) all c → IsTyped env (branch_want c.values) c.next a x m
        → branch_value c.values x ≡ Ok e → IsTyped env want n (term.if_term at all a) (if_rule n at c e) m
    t_case : {want : Want} {n m : ℕ} {at : Place} {a : Term} {all : Choices} {v : Valued} {p : Picked} → IsValue env selector (suc n) a v m
        → ArePicks env v.of [] (undecided (within want)) m all p → AreEnough env.facts v.of (gives_in p.values) p.labels
        → IsTyped env want n (term.case_term at a all) (case_node n at v p) p.next
    t_case_else : {want : Want} {n m k : ℕ} {at : Place} {a b : Term} {all : Choices} {v : Valued} {p : Picked} {x e : Expr}
        → IsValue env selector (suc n) a v m → ArePicks env v.of [] (undecided (within want)) m all p
        → IsTyped env (branch_want p.values) p.next b x k → branch_value p.values x ≡ Ok e
        → IsTyped env want n (term.case_else at a all b) (case_else_rule n at v p e) k

  -- IsValue env g n t v m: the term is the value, as it is asked for
  pub data IsValue (env : Env) : Asks → ℕ → Term → Valued → ℕ → Type 0 where
    v_value : {g : Asks} {n m : ℕ} {a : Term} {e : Expr} {v : Valued} → IsTyped env (want_in g) n a e m
        → accepted g (can_be_written env a e) e ≡ Ok v → IsValue env g n a v m

  pub data AreValues (env : Env) : Asks → ℕ → Parts → List Valued → ℕ → Type 0 where
    v_none : {g : Asks} {n : ℕ} → AreValues env g n no_parts [] n
    v_more : {g : Asks} {n m k : ℕ} {a : Term} {rest : Parts} {v : Valued} {vs : List Valued} → IsValue env g n a v m
        → AreValues env (asks_behind g v.of) m rest vs k → AreValues env g n (part a rest) (v ∷ vs) k

  -- IsOperand env d n t o m: the term is the operand, as it is demanded
  pub data IsOperand (env : Env) : Demand → ℕ → Term → Operand → ℕ → Type 0 where
    o_value : {d : Demand} {n m : ℕ} {a : Term} {v : Valued} → special d a ≡ ordinary → IsValue env anything n a v m
        → is_shown_by_call env d v ≡ false → IsOperand env d n a (value v) m
    -- what `echo` shows by a `$` of one's own: the call's number comes before those of the value
    o_shown : {d : Demand} {n m k : ℕ} {a : Term} {v w : Valued} {e : Expr} → special d a ≡ ordinary → IsValue env anything n a v m
        → is_shown_by_call env d v ≡ true → IsValue env anything (suc n) a w k → dollar_call env n w ≡ Ok e
        → IsOperand env d n a (value (valued e type.text)) k
    o_open : {d : Demand} {n : ℕ} {a : Term} {at : Place} → special d a ≡ is_open at → IsOperand env d n a (open_sequence at n) (suc n)
    o_type : {d : Demand} {n : ℕ} {a : Term} {ty : Ty} → special d a ≡ is_type → Spells env a ty → IsOperand env d n a (a_type ty) n
    o_input : {d : Demand} {n : ℕ} {a : Term} → special d a ≡ is_stdin → IsOperand env d n a the_input n

  pub data AreOperands (env : Env) : Demand → ℕ → Parts → List Operand → ℕ → Type 0 where
    o_none : {d : Demand} {n : ℕ} → AreOperands env d n no_parts [] n
    o_more : {d : Demand} {n m k : ℕ} {a : Term} {rest : Parts} {o : Operand} {os : List Operand} → IsOperand env d n a o m
        → AreOperands env (demand_behind d) m rest os k → AreOperands env d n (part a rest) (o ∷ os) k

  -- branches of an `if`, behind others
  pub data AreConditions (env : Env) : Branching → ℕ → Choices → Chosen → Type 0 where
    c_none : {b : Branching} {n : ℕ} → AreConditions env b n no_choices (record { parts = NoArg; values = b; next = n })
    c_more : {b : Branching} {n m k : ℕ} {at : Place} {t a : Term} {rest : Choices} {c : Valued} {x e : Expr} {more : Chosen}
        → IsValue env (exactly type.bool) n t c m → IsTyped env (branch_want b) m a x k → branch_value b x ≡ Ok e
        → AreConditions env (branching_behind b (type_of e)) k rest more
        → AreConditions env b n (choice at (part t no_parts) a rest)
        (record { parts = ByValue c.expr (ByValue e more.parts); values = more.values; next = more.next })

  -- branches of a `case` over values of the type, behind others with these labels
  pub data ArePicks (env : Env) : Ty → List Label → Branching → ℕ → Choices → Picked → Type 0 where
    k_none : {ty : Ty} {before : List Label} {b : Branching} {n : ℕ}
        → ArePicks env ty before b n no_choices (record { rows = []; labels = before; parts = NoArg; values = b; next = n })
    k_more : {ty : Ty} {before ls : List Label} {b : Branching} {n k : ℕ} {at : Place} {tests : Parts} {a : Term} {rest : Choices} {x e : Expr}
        {more : Picked} → AreLabels env ty before tests ls → IsTyped env (branch_want b) n a x k → branch_value b x ≡ Ok e
        → ArePicks env ty (before ++ ls) (branching_behind b (type_of e)) k rest more
        → ArePicks env ty before b n (choice at tests a rest)
        (record { rows = ls ∷ more.rows; labels = more.labels; parts = ByValue e more.parts; values = more.values; next = more.next })

  -- labels of values of the type, behind others
  pub data AreLabels (env : Env) : Ty → List Label → Parts → List Label → Type 0 where
    l_none : {ty : Ty} {before : List Label} → AreLabels env ty before no_parts []
    l_value : {ty : Ty} {before ls : List Label} {a : Term} {rest : Parts} {k : Label} → is_range a ≡ false → IsLabel env ty a k
        → (HasTwice k before → ⊥) → AreLabels env ty (before ++ k ∷ []) rest ls → AreLabels env ty before (part a rest) (k ∷ ls)
    l_range : {ty : Ty} {before ls : List Label} {at : Place} {a b : Term} {rest : Parts} {low high k : Label} → IsLabel env ty a low
        → IsLabel env ty b high → range_of at low high ≡ Ok k → (HasTwice k before → ⊥) → AreLabels env ty (before ++ k ∷ []) rest ls
        → AreLabels env ty before (part (term.range at a b) rest) (k ∷ ls)

  -- a constant of the type
  pub data IsLabel (env : Env) : Ty → Term → Label → Type 0 where
    l_constant : {ty : Ty} {m : ℕ} {a : Term} {e : Expr} {v : Valued} {l : Label} → IsTyped env nothing 0 a e m → value_of e ≡ Ok v
        → label_value env.facts ty v ≡ Ok l → IsLabel env ty a l

  -- the type that a term spells
  pub data Spells (env : Env) : Term → Ty → Type 0 where
    s_paren : {at : Place} {a : Term} {ty : Ty} → Spells env a ty → Spells env (term.paren at a) ty
    s_named : {at : Place} {x : List ℕ} {ty : Ty} → known env x ≡ env_of.a_type ty → Spells env (term.name at x) ty
    s_array : {at p : Place} {x : List ℕ} {l a : Term} {m : ℕ} {e : Expr} {v : Valued} {k : ℤ} {of ty : Ty}
        → (IsUnknown env (normal x) → ⊥) → is_array x ≡ true → IsTyped env nothing 0 l e m → value_of e ≡ Ok v
        → length_rule env.facts v ≡ Ok k → Spells env a of → array_type env at k of ≡ Ok ty
        → Spells env (term.index at (term.name p x) (part l (part a no_parts))) ty
    s_formed : {at p : Place} {x : List ℕ} {given : Parts} {ts : List Ty} {ty : Ty} → (IsUnknown env (normal x) → ⊥)
        → (is_array x && is_pair given) ≡ false → SpellAll env given ts → formed_type env at x ts ≡ Ok ty
        → Spells env (term.index at (term.name p x) given) ty

  pub data SpellAll (env : Env) : Parts → List Ty → Type 0 where
    s_none : SpellAll env no_parts []
    s_more : {a : Term} {rest : Parts} {ty : Ty} {ts : List Ty} → Spells env a ty → SpellAll env rest ts → SpellAll env (part a rest) (ty ∷ ts)
