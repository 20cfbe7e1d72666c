-- What the rules say of a form, as one call of the cycle behind another.
use Rattle.std.proofs.Common.{◌≡◌, ℕ, suc, List, [], ◌∷◌, sym, ap, ap₂, ◌∙◌}
use Rattle.std.specs.Prelude.{Bool, ◌&&◌, if◌then◌else◌, None, Ok}
use Rattle.arc_base.specs.declared.place.Place.{Place}
use Rattle.arc_base.specs.Refusal.{and_then}
use Rattle.indent_scanner.specs.Words.{normal}
use Rattle.indent_scanner.specs.Meaning.{inner as inside_of}
use Rattle.nim_tree.specs.declared.expr.UnaryOp.{UnaryOp}
use Rattle.nim_tree.specs.declared.expr.BinaryOp.{BinaryOp}
use Rattle.nim_tree.specs.Terms as term
use Rattle.nim_tree.specs.Terms.{Term, Parts, no_parts, part, Choices}
use Rattle.nim_types.specs.Types.{Ty}
use Rattle.nim_program.specs.Program.{NoArg}
use Rattle.expr_rules.specs.Env.{Env}
use Rattle.expr_rules.specs.Builtins.{is_new_sequence}
use Rattle.expr_rules.specs.Answers.{Answer, Typed, value_of, Want, wanted, within, nothing, Operand}
use Rattle.expr_rules.specs.Choices.{Chosen, Picked, branch_want, undecided}
use Rattle.expr_rules.specs.Constructions.{Plan, part_names, part_count, tuple_wants, array_want, sequence_want, types_in}
use Rattle.expr_rules.specs.Demands as asks
use Rattle.expr_rules.specs.Demands.{anything, selector, Demand, arguments, demand_behind, operator_demand, call_demand, receiver_demand}
use Rattle.expr_rules.specs.Names.{callee_rule, count_rule, quoted_rule, bracket_rule, formed_type, is_array, array_type, length_rule}
use Rattle.expr_rules.specs.Typed.{Value, Part, Several, typed, values, operands, read_type, read_array, read_types, is_pair}
use Rattle.expr_steps.specs.ViewDemands.{SameDemand}
use Rattle.expr_steps.specs.ViewEndings.{tuple_end, array_end, sequence_end, object_end, field_end, call_end, new_sequence_end, conversion_end, unary_end}
use Rattle.expr_steps.specs.ViewEndings.{binary_end}
use Rattle.expr_steps.specs.ViewEndings.{index_end, if_end, case_end, case_else_end}
use Rattle.check_exprs.specs.ViewTyped.{sequence_said, conversion_said, value_said, operand_said, operands_said, operands_onto, conditions_said, picks_said}
use Rattle.check_exprs.proofs.Folding.{operands_first, conditions_first, picks_first, opened, nested}

-- ---- constructions

pub tuple_chain : (env : Env) (want : Want) (n : ℕ) (at : Place) (ps : Parts) (ws : List Want) (k : ℕ) → tuple_wants (wanted want) (part_count ps) ≡ ws
    → k ≡ suc n
    → typed env want n (term.tuple at ps) ≡ and_then (values env (asks.parts ws) k ps) (tuple_end env want n at (part_names ps))
tuple_chain env want n at ps ws k w e =
    ap₂ (λ us m. and_then (values env (asks.parts us) m ps) (tuple_end env want n at (part_names ps))) w (sym e)

pub array_chain : (env : Env) (want : Want) (n : ℕ) (at : Place) (ps : Parts) (w : Want) (k : ℕ) → w ≡ array_want (wanted want) → k ≡ suc n
    → typed env want n (term.array at ps) ≡ and_then (values env (asks.elements w None) k ps) (array_end env n at)
array_chain env want n at ps w k h e = ap₂ (λ u m. and_then (values env (asks.elements u None) m ps) (array_end env n at)) (sym h) (sym e)

pub sequence_chain : (env : Env) (want : Want) (n : ℕ) (at : Place) (ps : Parts) (w : Want) (k : ℕ) → w ≡ sequence_want (wanted want) → k ≡ suc n
    → typed env want n (term.sequence at ps) ≡ and_then (values env (asks.elements w None) k ps) (sequence_end want n at)
sequence_chain env want n at ps w k h e = ap₂ (λ u m. and_then (values env (asks.elements u None) m ps) (sequence_end want n at)) (sym h) (sym e)

-- behind the plan
abbrev pub object_go : Env → ℕ → Place → Parts → Plan → Answer Typed
object_go env n at ps plan = and_then (values env (asks.fields (types_in plan.chosen)) (suc n) ps) (object_end n at plan)

pub object_chain : (env : Env) (n : ℕ) (at : Place) (ps : Parts) (plan : Plan) (us : List Ty) (k : ℕ) → us ≡ types_in plan.chosen → k ≡ suc n
    → object_go env n at ps plan ≡ and_then (values env (asks.fields us) k ps) (object_end n at plan)
object_chain env n at ps plan us k h e = ap₂ (λ vs m. and_then (values env (asks.fields vs) m ps) (object_end n at plan)) (sym h) (sym e)

-- ---- parts of values, and operators

pub field_chain : (env : Env) (want : Want) (n : ℕ) (at : Place) (a : Term) (x y : List ℕ) (d : Demand) (k : ℕ) → y ≡ normal x
    → SameDemand env (receiver_demand env y a) d → k ≡ suc n
    → typed env want n (term.field at a x) ≡ and_then (operand_said env d k a) (field_end env n at y)
field_chain env want n at a x y d k w h e =
    ap (λ z. and_then (operand_said env (receiver_demand env z a) (suc n) a) (field_end env n at z)) (sym w)
    ∙ ap (λ o. and_then o (field_end env n at y)) (h (suc n) a (λ k. typed env nothing k a) (read_type env a))
    ∙ ap (λ m. and_then (operand_said env d m a) (field_end env n at y)) (sym e)

-- behind the first value
abbrev pub element_go : Env → ℕ → Place → Term → Value → Answer Typed
element_go env n at i v = and_then (value_said env anything v.next i) (index_end env n at v)

pub element_chain : (env : Env) (want : Want) (n : ℕ) (at : Place) (a i : Term) (k : ℕ) → k ≡ suc n
    → typed env want n (term.index at a (part i no_parts)) ≡ and_then (value_said env anything k a) (element_go env n at i)
element_chain env want n at a i k e = ap (λ m. and_then (value_said env anything m a) (element_go env n at i)) (sym e)

pub unary_chain : (env : Env) (want : Want) (n : ℕ) (at : Place) (op : UnaryOp) (a : Term) (k : ℕ) → k ≡ suc n
    → typed env want n (term.unary at op a) ≡ and_then (value_said env anything k a) (unary_end env n at op)
unary_chain env want n at op a k e = ap (λ m. and_then (value_said env anything m a) (unary_end env n at op)) (sym e)

-- behind the left operand
abbrev pub binary_go : Env → Demand → ℕ → Place → BinaryOp → Term → Part → Answer Typed
binary_go env d n at op b o = and_then (operand_said env d o.next b) (binary_end env n at op o)

pub binary_chain : (env : Env) (want : Want) (n : ℕ) (at : Place) (op : BinaryOp) (a b : Term) (d : Demand) (k : ℕ) → d ≡ operator_demand op → k
    ≡ suc n
    → typed env want n (term.binary at op a b) ≡ and_then (operand_said env d k a) (binary_go env d n at op b)
binary_chain env want n at op a b d k h e = ap₂ (λ f m. and_then (operand_said env f m a) (binary_go env f n at op b)) (sym h) (sym e)

-- ---- calls

-- operands that nothing stands before
operands_alone : (env : Env) (d : Demand) (n k : ℕ) (before : List Operand) (ps : Parts) (go : Several → Answer Typed) → k ≡ suc n → before ≡ []
    → and_then (operands env d (suc n) ps) go ≡ and_then (operands_said env d k before ps) go
operands_alone env d n k before ps go e b =
    ap (λ z. and_then z go) (operands_first env d (suc n) ps ∙ ap₂ (λ m xs. operands_said env d m xs ps) (sym e) (sym b))

abbrev pub counted_go : Env → ℕ → Place → List ℕ → Parts → Answer Typed
counted_go env n at y ps =
    and_then (count_rule at y ps) (λ _. and_then (operands env (call_demand env y ps) (suc n) ps) (call_end env n at y))

pub named_chain : (env : Env) (want : Want) (n : ℕ) (at p : Place) (x y : List ℕ) (ps : Parts) → y ≡ normal x
    → typed env want n (term.call at (term.name p x) ps) ≡ and_then (callee_rule env p y) (λ (_ : Unit {0}). counted_go env n at y ps)
named_chain env want n at p x y ps w =
    ap (λ z. and_then (callee_rule env p z) (λ (_ : Unit {0}). counted_go env n at z ps)) (sym w)

pub counted_chain : (env : Env) (n : ℕ) (at : Place) (y : List ℕ) (ps : Parts) (d : Demand) (k : ℕ) (before : List Operand) → count_rule at y ps
    ≡ Ok tt
    → call_demand env y ps ≡ d → k ≡ suc n → before ≡ []
    → counted_go env n at y ps ≡ and_then (operands_said env d k before ps) (call_end env n at y)
counted_chain env n at y ps d k before c h e b =
    ap (λ z. and_then z (λ (_ : Unit {0}). and_then (operands env (call_demand env y ps) (suc n) ps) (call_end env n at y))) c
    ∙ ap (λ f. and_then (operands env f (suc n) ps) (call_end env n at y)) h
    ∙ operands_alone env d n k before ps (call_end env n at y) e b

abbrev pub quoted_go : Env → ℕ → Place → List ℕ → Parts → Answer Typed
quoted_go env n at y ps = and_then (operands env arguments (suc n) ps) (call_end env n at y)

pub quoted_chain : (env : Env) (want : Want) (n : ℕ) (at p : Place) (x y : List ℕ) (ps : Parts) → y ≡ inside_of x
    → typed env want n (term.call at (term.quoted p x) ps) ≡ and_then (quoted_rule at y ps) (λ (_ : Unit {0}). quoted_go env n at y ps)
quoted_chain env want n at p x y ps w = ap (λ z. and_then (quoted_rule at z ps) (λ (_ : Unit {0}). quoted_go env n at z ps)) (sym w)

pub arguments_chain : (env : Env) (n : ℕ) (at : Place) (y : List ℕ) (ps : Parts) (k : ℕ) (before : List Operand) → k ≡ suc n → before ≡ []
    → quoted_go env n at y ps ≡ and_then (operands_said env arguments k before ps) (call_end env n at y)
arguments_chain env n at y ps k before e b = operands_alone env arguments n k before ps (call_end env n at y) e b

-- behind the first operand
abbrev pub method_then : Env → ℕ → Place → List ℕ → Demand → Parts → Part → Answer Typed
method_then env n at y d ps o =
    and_then (operands env (demand_behind d) o.next ps) (λ os. call_end env n at y (operands_onto (o.operand ∷ []) os))

abbrev pub method_behind : Env → ℕ → Place → List ℕ → Demand → Parts → Part → Answer Typed
method_behind env n at y d ps o = and_then (callee_rule env at y) (λ (_ : Unit {0}). method_then env n at y d ps o)

abbrev pub method_go : Env → ℕ → Place → List ℕ → Term → Parts → Answer Typed
method_go env n at y a ps =
    and_then (operand_said env (call_demand env y (part a ps)) (suc n) a) (method_behind env n at y (call_demand env y (part a ps)) ps)

pub method_chain : (env : Env) (want : Want) (n : ℕ) (at p : Place) (a : Term) (x y : List ℕ) (ps : Parts) → y ≡ normal x
    → typed env want n (term.call at (term.field p a x) ps) ≡ and_then (count_rule at y (part a ps)) (λ (_ : Unit {0}). method_go env n at y a ps)
method_chain env want n at p a x y ps w = ap (λ z. and_then (count_rule at z (part a ps)) (λ (_ : Unit {0}). method_go env n at z a ps)) (sym w)

pub receiver_chain : (env : Env) (want : Want) (n : ℕ) (at p : Place) (a : Term) (x y : List ℕ) (ps : Parts) (d : Demand) (k : ℕ) → y ≡ normal x
    → count_rule at y (part a ps) ≡ Ok tt → call_demand env y (part a ps) ≡ d → k ≡ suc n
    → typed env want n (term.call at (term.field p a x) ps) ≡ and_then (operand_said env d k a) (method_behind env n at y d ps)
receiver_chain env want n at p a x y ps d k w c h e =
    method_chain env want n at p a x y ps w
    ∙ ap (λ z. and_then z (λ (_ : Unit {0}). method_go env n at y a ps)) c
    ∙ ap₂ (λ f m. and_then (operand_said env f m a) (method_behind env n at y f ps)) h (sym e)

pub behind_chain : (env : Env) (n : ℕ) (at : Place) (y : List ℕ) (d e : Demand) (ps : Parts) (o : Part) (before : List Operand) → e ≡ demand_behind d
    → before ≡ o.operand ∷ []
    → method_then env n at y d ps o ≡ and_then (operands_said env e o.next before ps) (call_end env n at y)
behind_chain env n at y d e ps o before h b =
    ap₂ (λ f xs. and_then (operands env f o.next ps) (λ os. call_end env n at y (operands_onto xs os))) (sym h) (sym b)
    ∙ sym (opened (operands_onto before) (call_end env n at y) (operands env e o.next ps))

abbrev pub new_then : Env → ℕ → Place → Parts → Ty → Answer Typed
new_then env n at ps ty = and_then (operands env arguments (suc n) ps) (new_sequence_end n at ty)

-- of `newSeq`, and of another name with one part in its brackets
pub bracket_chain : (env : Env) (want : Want) (n : ℕ) (at p q : Place) (x y : List ℕ) (given : Parts) (t : Term) (ps : Parts) (b : Bool) → y ≡ normal x
    → given ≡ part t no_parts → is_new_sequence y ≡ b
    → typed env want n (term.call at (term.index p (term.name q x) given) ps)
    ≡ (if b then sequence_said env n at t ps else conversion_said env n at p q x (part t no_parts) ps)
bracket_chain env want n at p q x y given t ps b w alone is =
    ap (λ g. typed env want n (term.call at (term.index p (term.name q x) g) ps)) alone
    ∙ ap (λ b. if b then sequence_said env n at t ps else conversion_said env n at p q x (part t no_parts) ps) (ap is_new_sequence (sym w) ∙ is)

abbrev pub conversion_then : Env → ℕ → Place → Parts → Ty → Answer Typed
conversion_then env n at ps ty = and_then (operands env arguments (suc n) ps) (conversion_end env n at ty)

-- behind the test of the name
abbrev pub conversion_go : Env → ℕ → (at p q : Place) → List ℕ → (given ps : Parts) → Answer Typed
conversion_go env n at p q x given ps = and_then (read_type env (term.index p (term.name q x) given)) (conversion_then env n at ps)

pub conversion_chain : (env : Env) (n : ℕ) (at p q : Place) (x y : List ℕ) (given ps : Parts) → y ≡ normal x
    → conversion_said env n at p q x given ps ≡ and_then (bracket_rule env at y) (λ (_ : Unit {0}). conversion_go env n at p q x given ps)
conversion_chain env n at p q x y given ps w =
    ap (λ z. and_then (bracket_rule env at z) (λ (_ : Unit {0}). conversion_go env n at p q x given ps)) (sym w)

pub conversion_behind : (env : Env) (n : ℕ) (at p q : Place) (x y : List ℕ) (given ps : Parts) → y ≡ normal x → bracket_rule env at y ≡ Ok tt
    → conversion_said env n at p q x given ps ≡ conversion_go env n at p q x given ps
conversion_behind env n at p q x y given ps w c =
    conversion_chain env n at p q x y given ps w ∙ ap (λ z. and_then z (λ (_ : Unit {0}). conversion_go env n at p q x given ps)) c

pub converted_chain : (env : Env) (n : ℕ) (at : Place) (ps : Parts) (ty : Ty) (k : ℕ) (before : List Operand) → k ≡ suc n → before ≡ []
    → conversion_then env n at ps ty ≡ and_then (operands_said env arguments k before ps) (conversion_end env n at ty)
converted_chain env n at ps ty k before e b = operands_alone env arguments n k before ps (conversion_end env n at ty) e b

pub length_chain : (env : Env) (n : ℕ) (at : Place) (ps : Parts) (ty : Ty) (k : ℕ) (before : List Operand) → k ≡ suc n → before ≡ []
    → new_then env n at ps ty ≡ and_then (operands_said env arguments k before ps) (new_sequence_end n at ty)
length_chain env n at ps ty k before e b = operands_alone env arguments n k before ps (new_sequence_end n at ty) e b

-- ---- branches

abbrev pub if_go : Env → ℕ → Place → Term → Chosen → Answer Typed
if_go env n at a c = and_then (typed env (branch_want c.values) c.next a) (if_end n at c)

pub if_chain : (env : Env) (want : Want) (n : ℕ) (at : Place) (cs : Choices) (a : Term) (none : Chosen)
    → none ≡ record { parts = NoArg; values = undecided (within want); next = suc n }
    → typed env want n (term.if_term at cs a) ≡ and_then (conditions_said env none cs) (if_go env n at a)
if_chain env want n at cs a none h =
    ap (λ z. and_then z (if_go env n at a)) (conditions_first env (undecided (within want)) (suc n) cs ∙ ap (λ c. conditions_said env c cs) (sym h))

abbrev pub case_then : Env → ℕ → Place → Value → Picked → Answer Typed
case_then env n at v p = case_end env.facts n at v p

abbrev pub else_then : Env → ℕ → Place → Term → Value → Picked → Answer Typed
else_then env n at b v p = and_then (typed env (branch_want p.values) p.next b) (case_else_end n at v p)

-- behind the selector
abbrev pub case_go : Env → Want → ℕ → Place → Choices → Value → Answer Typed
case_go env want n at cs v =
    and_then (picks_said env v.given.of (record { rows = []; labels = []; parts = NoArg; values = undecided (within want); next = v.next }) cs)
    (case_then env n at v)

abbrev pub else_go : Env → Want → ℕ → Place → Choices → Term → Value → Answer Typed
else_go env want n at cs b v =
    and_then (picks_said env v.given.of (record { rows = []; labels = []; parts = NoArg; values = undecided (within want); next = v.next }) cs)
    (else_then env n at b v)

pub case_chain : (env : Env) (want : Want) (n : ℕ) (at : Place) (a : Term) (cs : Choices) (k : ℕ) → k ≡ suc n
    → typed env want n (term.case_term at a cs) ≡ and_then (value_said env selector k a) (case_go env want n at cs)
case_chain env want n at a cs k e =
    ap (λ f. and_then (value_said env selector (suc n) a) f)
    (λ i v. and_then (picks_first env v.given.of (undecided (within want)) v.next cs i) (case_then env n at v))
    ∙ ap (λ m. and_then (value_said env selector m a) (case_go env want n at cs)) (sym e)

pub else_chain : (env : Env) (want : Want) (n : ℕ) (at : Place) (a : Term) (cs : Choices) (b : Term) (k : ℕ) → k ≡ suc n
    → typed env want n (term.case_else at a cs b) ≡ and_then (value_said env selector k a) (else_go env want n at cs b)
else_chain env want n at a cs b k e =
    ap (λ f. and_then (value_said env selector (suc n) a) f)
    (λ i v. and_then (picks_first env v.given.of (undecided (within want)) v.next cs i) (else_then env n at b v))
    ∙ ap (λ m. and_then (value_said env selector m a) (else_go env want n at cs b)) (sym e)

-- ---- written types

abbrev pub formed_go : Env → Place → List ℕ → Parts → Answer Ty
formed_go env at x given = and_then (read_types env given) (λ ts. formed_type env at x ts)

abbrev pub formed_by : Env → Place → List ℕ → Parts → Bool → Answer Ty
formed_by env at x given b = if b then read_array env at given else formed_go env at x given

pub formed_chain : (env : Env) (at p : Place) (x y : List ℕ) (given : Parts) → y ≡ normal x
    → read_type env (term.index at (term.name p x) given)
    ≡ and_then (callee_rule env p y) (λ (_ : Unit {0}). formed_by env at x given (is_array x && is_pair given))
formed_chain env at p x y given w =
    ap (λ z. and_then (callee_rule env p z) (λ (_ : Unit {0}). formed_by env at x given (is_array x && is_pair given))) (sym w)

pub formed_so : (env : Env) (at p : Place) (x y : List ℕ) (given : Parts) (b : Bool) → y ≡ normal x → callee_rule env p y ≡ Ok tt
    → (is_array x && is_pair given) ≡ b → read_type env (term.index at (term.name p x) given) ≡ formed_by env at x given b
formed_so env at p x y given b w c h =
    formed_chain env at p x y given w
    ∙ ap (λ z. and_then z (λ (_ : Unit {0}). formed_by env at x given (is_array x && is_pair given))) c
    ∙ ap (formed_by env at x given) h

-- behind what stands for the length
abbrev pub array_behind : Env → Place → Term → Typed → Answer Ty
array_behind env at o y =
    and_then (value_of y.expr) (λ v. and_then (length_rule env.facts v) (λ k. and_then (read_type env o) (λ t. array_type env at k t)))

pub length_first : (env : Env) (at : Place) (o : Term) (y : Typed)
    → array_behind env at o y
    ≡ and_then (and_then (value_of y.expr) (length_rule env.facts)) (λ k. and_then (read_type env o) (λ t. array_type env at k t))
length_first env at o y =
    sym (nested (length_rule env.facts) (λ k. and_then (read_type env o) (λ t. array_type env at k t)) (value_of y.expr))
