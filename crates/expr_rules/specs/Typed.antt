-- The typed node that stands for a term, as a computation: by the rules of the other files, and `and_then`. Each operand is typed
-- in order of text, and the first refusal counts.
use Rattle.std.specs.Prelude.{ℕ, suc, pos, Bool, true, false, ◌&&◌, if◌then◌else◌, List, [], ◌∷◌, ◌++◌, codes, None, Ok}
use Rattle.arc_base.specs.declared.place.Place.{Place}
use Rattle.arc_base.specs.declared.place.Code.TheVariants.{LeftOut}
use Rattle.arc_base.specs.Refusal.{and_then, refused}
use Rattle.indent_scanner.specs.Words.{normal}
use Rattle.indent_scanner.specs.Meaning.{inner as inside_of}
use Rattle.indent_scanner.specs.ByForm.{characters}
use Rattle.nim_tree.specs.declared.expr.UnaryOp.{UnaryOp}
use Rattle.nim_tree.specs.declared.expr.UnaryOp.TheVariants as unary_sign
use Rattle.nim_tree.specs.Terms as term
use Rattle.nim_tree.specs.Terms.{Term, Parts, no_parts, part, Choices, no_choices, choice, place_of}
use Rattle.nim_types.specs.Types as type
use Rattle.nim_types.specs.Types.{Ty, Facts}
use Rattle.nim_program.specs.Program.{Expr, NoArg, ByValue, Number, Characters, Label, type_of}
use Rattle.nim_program.specs.Nodes.{literal}
use Rattle.expr_rules.specs.Env.{Env}
use Rattle.expr_rules.specs.Answers.{Answer, not_typed, node, place_in, Typed, gives, Valued, valued, value_of, Want, nothing, wanted, within, Operand, value}
use Rattle.expr_rules.specs.Answers.{open_sequence, a_type, the_input}
use Rattle.expr_rules.specs.Paths.{can_be_written}
use Rattle.expr_rules.specs.Operators.{unary_rule, binary_rule}
use Rattle.expr_rules.specs.Demands.{Asks, anything, exactly, selector, parts, fields, elements, want_in, asks_behind, accepts, Demand, arguments}
use Rattle.expr_rules.specs.Demands.{demand_behind}
use Rattle.expr_rules.specs.Demands.{operator_demand, bare, call_demand, receiver_demand, Special, special, ordinary, is_open, is_type, is_stdin}
use Rattle.expr_rules.specs.Constructions.{part_names, part_count, tuple_wants, tuple_rule, array_want, array_rule, sequence_want, sequence_rule, index_rule}
use Rattle.expr_rules.specs.Constructions.{plan_for, types_in, construct_rule, conversion_rule}
use Rattle.expr_rules.specs.Choices.{Branching, undecided, branch_want, branching_behind, branch_value, label_value, range_of, new_label}
use Rattle.expr_rules.specs.Choices.{Chosen, Picked, if_rule, case_rule, case_else_rule}
use Rattle.expr_rules.specs.Builtins.{is_new_sequence}
use Rattle.expr_rules.specs.Names.{named_value, callee_rule, count_rule, quoted_rule, bracket_rule, call_rule, new_sequence_rule, field_rule}
use Rattle.expr_rules.specs.Names.{named_type, formed_type, is_array, length_rule, array_type, is_shown_by_call, dollar_call}

-- ---- values

-- a value, and the first number behind its nodes
pub record Value : Type 0 where
  pub given : Valued
  pub next : ℕ

pub record Values : Type 0 where
  pub all : List Valued
  pub next : ℕ

abbrev pub as_value : Valued → ℕ → Value
as_value v n = record { given = v; next = n }

abbrev pub accepted_by : Bool → Valued → Answer Valued
accepted_by true v = Ok v
accepted_by false v = not_typed (place_in v.expr)

-- a value that is what is asked for, else no rule fits at it
abbrev pub accepted : Asks → (writable : Bool) → Expr → Answer Valued
accepted g writable e = and_then (value_of e) (λ v. accepted_by (accepts g v.of) (record v { writable = writable }))

-- the value that a term is, by what stands for it
abbrev pub value_by : Env → Asks → Term → Answer Typed → Answer Value
value_by env g t answer = and_then answer (λ x. and_then (accepted g (can_be_written env t x.expr) x.expr) (λ v. Ok (as_value v x.next)))

-- ---- operands

-- an operand, and the first number behind its nodes
pub record Part : Type 0 where
  pub operand : Operand
  pub next : ℕ

pub record Several : Type 0 where
  pub operands : List Operand
  pub next : ℕ

abbrev pub part_of : Operand → ℕ → Answer Part
part_of operand next = Ok (record { operand = operand; next = next })

-- a value as it is, or the call that shows it, whose number comes before those of the value
abbrev pub shown_by : Env → ℕ → Bool → Value → (ℕ → Answer Value) → Answer Part
shown_by env n false x again = part_of (value x.given) x.next
shown_by env n true x again =
    and_then (again (suc n)) (λ y. and_then (dollar_call env n y.given) (λ e. part_of (value (valued e type.text)) y.next))

abbrev pub part_by : Env → Demand → Special → ℕ → (ℕ → Answer Value) → Answer Ty → Answer Part
part_by env d ordinary n as_value as_type = and_then (as_value n) (λ x. shown_by env n (is_shown_by_call env d x.given) x as_value)
part_by env d (is_open p) n as_value as_type = part_of (open_sequence p n) (suc n)
part_by env d is_type n as_value as_type = and_then as_type (λ ty. part_of (a_type ty) n)
part_by env d is_stdin n as_value as_type = part_of the_input n

-- the operand that a term is, by what stands for it, numbered from some number on, and by the type that it spells
abbrev pub operand_by : Env → Demand → ℕ → Term → (ℕ → Answer Typed) → Answer Ty → Answer Part
operand_by env d n a as_typed as_type = part_by env d (special d a) n (λ k. value_by env anything a (as_typed k)) as_type

-- `$` is called, other operators are on a value
abbrev pub is_dollar : UnaryOp → Bool
is_dollar unary_sign.Dollar = true
is_dollar _ = false

abbrev pub unary_call : Env → ℕ → Place → UnaryOp → Valued → Answer Expr
unary_call env n at op v = if is_dollar op then call_rule env n at (codes "$") (value v ∷ []) else unary_rule n at op v

-- the value of a label
abbrev pub label_from : Facts → Ty → Answer Typed → Answer Label
label_from facts ty answer = and_then answer (λ x. and_then (value_of x.expr) (label_value facts ty))

-- ---- forms

-- what may be called: a name, a name in backticks, a name behind a dot, or a name with something in brackets
abbrev pub is_callee : Term → Bool
is_callee (term.name at x) = true
is_callee (term.quoted at x) = true
is_callee (term.field at a x) = true
is_callee (term.index at (term.name p x) given) = true
is_callee _ = false

abbrev pub is_range : Term → Bool
is_range (term.range at a b) = true
is_range _ = false

-- a name, or a name with something in brackets
abbrev pub is_type_term : Term → Bool
is_type_term (term.paren at a) = true
is_type_term (term.name at x) = true
is_type_term (term.index at (term.name p x) given) = true
is_type_term _ = false

-- a length and an element
abbrev pub is_pair : Parts → Bool
is_pair (part l (part a no_parts)) = true
is_pair _ = false

abbrev mutual
  pub typed : Env → Want → ℕ → Term → Answer Typed
  typed env want n (term.int at z) = gives (literal (node n at) type.int (Number z)) (suc n)
  typed env want n (term.char at c) = gives (literal (node n at) type.char (Number (pos c))) (suc n)
  typed env want n (term.text at bytes) = gives (literal (node n at) type.text (Characters (characters bytes))) (suc n)
  typed env want n (term.name at x) = named_value env n at x
  typed env want n (term.quoted at x) = not_typed at
  typed env want n (term.nil at) = refused LeftOut at
  typed env want n (term.paren at a) = typed env want n a
  typed env want n (term.named at x a) = typed env want n a
  typed env want n (term.range at a b) = not_typed at
  typed env want n (term.tuple at inside) =
      and_then (values env (parts (tuple_wants (wanted want) (part_count inside))) (suc n) inside) (λ vs.
      and_then (tuple_rule env want n at (part_names inside) vs.all) (λ e. gives e vs.next))
  typed env want n (term.array at inside) =
      and_then (values env (elements (array_want (wanted want)) None) (suc n) inside) (λ vs.
      and_then (array_rule env n at vs.all) (λ e. gives e vs.next))
  typed env want n (term.sequence at inside) =
      and_then (values env (elements (sequence_want (wanted want)) None) (suc n) inside) (λ vs.
      and_then (sequence_rule want n at vs.all) (λ e. gives e vs.next))
  typed env want n (term.construct at x inside) =
      and_then (plan_for env at x (part_names inside)) (λ plan.
      and_then (values env (fields (types_in plan.chosen)) (suc n) inside) (λ vs.
      gives (construct_rule n at plan.of plan.chosen vs.all) vs.next))
  typed env want n (term.field at a x) =
      and_then (operand_by env (receiver_demand env (normal x) a) (suc n) a (λ k. typed env nothing k a) (read_type env a)) (λ o.
      and_then (field_rule env n at (normal x) o.operand) (λ e. gives e o.next))
  typed env want n (term.index at a (part i no_parts)) =
      and_then (value_by env anything a (typed env nothing (suc n) a)) (λ v.
      and_then (value_by env anything i (typed env nothing v.next i)) (λ w. index_rule env n v.next w.next at v.given w.given))
  typed env want n (term.index at a inside) = not_typed at
  typed env want n (term.call at (term.name p x) inside) =
      and_then (callee_rule env p (normal x)) (λ _. and_then (count_rule at (normal x) inside) (λ _.
      and_then (operands env (call_demand env (normal x) inside) (suc n) inside) (λ os.
      and_then (call_rule env n at (normal x) os.operands) (λ e. gives e os.next))))
  typed env want n (term.call at (term.quoted p x) inside) =
      and_then (quoted_rule at (inside_of x) inside) (λ _.
      and_then (operands env arguments (suc n) inside) (λ os. and_then (call_rule env n at (inside_of x) os.operands) (λ e. gives e os.next)))
  typed env want n (term.call at (term.field p a x) inside) =
      and_then (count_rule at (normal x) (part a inside)) (λ _.
      and_then (operand_by env (call_demand env (normal x) (part a inside)) (suc n) a (λ k. typed env nothing k a) (read_type env a)) (λ o.
      and_then (callee_rule env at (normal x)) (λ _.
      and_then (operands env (demand_behind (call_demand env (normal x) (part a inside))) o.next inside) (λ os.
      and_then (call_rule env n at (normal x) (o.operand ∷ os.operands)) (λ e. gives e os.next)))))
  typed env want n (term.call at (term.index p (term.name q x) (part t no_parts)) inside) =
      if is_new_sequence (normal x) then
      and_then (read_type env t) (λ ty.
      and_then (operands env arguments (suc n) inside) (λ os. and_then (new_sequence_rule n at ty os.operands) (λ e. gives e os.next)))
      else
      and_then (bracket_rule env at (normal x)) (λ _. and_then (read_type env (term.index p (term.name q x) (part t no_parts))) (λ ty.
      and_then (operands env arguments (suc n) inside) (λ os. and_then (conversion_rule env n at ty os.operands) (λ e. gives e os.next))))
  typed env want n (term.call at (term.index p (term.name q x) given) inside) =
      and_then (bracket_rule env at (normal x)) (λ _. and_then (read_type env (term.index p (term.name q x) given)) (λ ty.
      and_then (operands env arguments (suc n) inside) (λ os. and_then (conversion_rule env n at ty os.operands) (λ e. gives e os.next))))
  typed env want n (term.call at a inside) = not_typed at
  typed env want n (term.unary at op a) =
      and_then (value_by env anything a (typed env nothing (suc n) a)) (λ v. and_then (unary_call env n at op v.given) (λ e. gives e v.next))
  typed env want n (term.binary at op a b) =
      and_then (operand_by env (operator_demand op) (suc n) a (λ k. typed env nothing k a) (read_type env a)) (λ o.
      and_then (operand_by env (operator_demand op) o.next b (λ k. typed env nothing k b) (read_type env b)) (λ r.
      and_then (binary_rule env n at op o.operand r.operand) (λ e. gives e r.next)))
  typed env want n (term.if_term at choices a) =
      and_then (conditions env (undecided (within want)) (suc n) choices) (λ c.
      and_then (typed env (branch_want c.values) c.next a) (λ x.
      and_then (branch_value c.values x.expr) (λ e. gives (if_rule n at c e) x.next)))
  typed env want n (term.case_term at a choices) =
      and_then (value_by env selector a (typed env nothing (suc n) a)) (λ v.
      and_then (picks env v.given.of [] (undecided (within want)) v.next choices) (λ p.
      and_then (case_rule env n at v.given p) (λ e. gives e p.next)))
  typed env want n (term.case_else at a choices b) =
      and_then (value_by env selector a (typed env nothing (suc n) a)) (λ v.
      and_then (picks env v.given.of [] (undecided (within want)) v.next choices) (λ p.
      and_then (typed env (branch_want p.values) p.next b) (λ x.
      and_then (branch_value p.values x.expr) (λ e. gives (case_else_rule n at v.given p e) x.next))))

  -- values in order, as it is asked of them
  pub values : Env → Asks → ℕ → Parts → Answer Values
  values env g n no_parts = Ok (record { all = []; next = n })
  values env g n (part a rest) =
      and_then (value_by env g a (typed env (want_in g) n a)) (λ v.
      and_then (values env (asks_behind g v.given.of) v.next rest) (λ vs. Ok (record { all = v.given ∷ vs.all; next = vs.next })))

  -- operands in order, as it is demanded of the first
  pub operands : Env → Demand → ℕ → Parts → Answer Several
  operands env d n no_parts = Ok (record { operands = []; next = n })
  operands env d n (part a rest) =
      and_then (operand_by env d n a (λ k. typed env nothing k a) (read_type env a)) (λ o.
      and_then (operands env (demand_behind d) o.next rest) (λ os. Ok (record { operands = o.operand ∷ os.operands; next = os.next })))

  -- the branches of an `if`
  pub conditions : Env → Branching → ℕ → Choices → Answer Chosen
  conditions env b n no_choices = Ok (record { parts = NoArg; values = b; next = n })
  conditions env b n (choice at (part t no_parts) a rest) =
      and_then (value_by env (exactly type.bool) t (typed env (want_in (exactly type.bool)) n t)) (λ c.
      and_then (typed env (branch_want b) c.next a) (λ x.
      and_then (branch_value b x.expr) (λ e.
      and_then (conditions env (branching_behind b (type_of e)) x.next rest) (λ more.
      Ok (record { parts = ByValue c.given.expr (ByValue e more.parts); values = more.values; next = more.next })))))
  conditions env b n (choice at tests a rest) = not_typed at

  -- the branches of a `case` over values of a type, behind some labels
  pub picks : Env → Ty → List Label → Branching → ℕ → Choices → Answer Picked
  picks env ty before b n no_choices = Ok (record { rows = []; labels = before; parts = NoArg; values = b; next = n })
  picks env ty before b n (choice at tests a rest) =
      and_then (labels env ty before tests) (λ ls.
      and_then (typed env (branch_want b) n a) (λ x.
      and_then (branch_value b x.expr) (λ e.
      and_then (picks env ty (before ++ ls) (branching_behind b (type_of e)) x.next rest) (λ more.
      Ok (record { rows = ls ∷ more.rows; labels = more.labels; parts = ByValue e more.parts; values = more.values; next = more.next })))))

  -- labels in order; they are no nodes
  pub labels : Env → Ty → List Label → Parts → Answer (List Label)
  labels env ty before no_parts = Ok []
  labels env ty before (part (term.range at a b) rest) =
      and_then (label_from env.facts ty (typed env nothing 0 a)) (λ low.
      and_then (label_from env.facts ty (typed env nothing 0 b)) (λ high.
      and_then (range_of at low high) (λ l. and_then (new_label at before l) (λ l.
      and_then (labels env ty (before ++ l ∷ []) rest) (λ more. Ok (l ∷ more))))))
  labels env ty before (part a rest) =
      and_then (label_from env.facts ty (typed env nothing 0 a)) (λ l.
      and_then (new_label (place_of (bare a)) before l) (λ l.
      and_then (labels env ty (before ++ l ∷ []) rest) (λ more. Ok (l ∷ more))))

  -- the type that a term spells
  pub read_type : Env → Term → Answer Ty
  read_type env (term.paren at a) = read_type env a
  read_type env (term.name at x) = named_type env at x
  read_type env (term.index at (term.name p x) given) =
      and_then (callee_rule env p (normal x)) (λ _.
      if is_array x && is_pair given then read_array env at given else and_then (read_types env given) (λ ts. formed_type env at x ts))
  read_type env a = not_typed (place_of a)

  -- of a length and an element
  pub read_array : Env → Place → Parts → Answer Ty
  read_array env at (part l (part a no_parts)) =
      and_then (typed env nothing 0 l) (λ y. and_then (value_of y.expr) (λ v. and_then (length_rule env.facts v) (λ k.
      and_then (read_type env a) (λ t. array_type env at k t))))
  read_array env at given = not_typed at

  pub read_types : Env → Parts → Answer (List Ty)
  read_types env no_parts = Ok []
  read_types env (part a rest) = and_then (read_type env a) (λ t. and_then (read_types env rest) (λ ts. Ok (t ∷ ts)))
