-- How many tokens parts of statements take: one for two nodes at most.
use Rattle.std.proofs.Common.{◌≡◌, ℕ, ◌≤◌, ◌+◌, ◌*◌, List, [], ◌∷◌, length, Bool, true, false, arith}
use Rattle.std.specs.Prelude.{Option, Some, if◌then◌else◌}
use Rattle.indent_scanner.specs.declared.token.Tok.{Tok}
use Rattle.indent_scanner.specs.declared.token.Token.{Token}
use Rattle.nim_tree.specs.declared.name.Name.{Name}
use Rattle.nim_tree.specs.declared.stmt.AssignOp.{AssignOp}
use Rattle.nim_tree.specs.Lists.{total, if_there}
use Rattle.nim_tree.specs.Terms.{Term, Parts, no_parts, part, and_part, nodes, nodes_in, int, char, text, name, quoted, nil, paren, tuple, array, sequence}
use Rattle.nim_tree.specs.Terms.{construct, named, field, call, index, unary, binary, if_term, case_term, case_else, range}
use Rattle.nim_tree.specs.Statements.{Definition, definition_nodes}
use Rattle.parse_exprs.specs.declared.layout.Layout.{Layout}
use Rattle.parse_exprs.specs.declared.layout.Layout.TheVariants.{Lines}
use Rattle.parse_exprs.specs.Look.{Origin, name_on, colon_at, comma_at, past_colon, dots_at, branch_at}
use Rattle.parse_exprs.specs.Grammar.{SpellsExpr}
use Rattle.parse_exprs.proofs.ForCallers.{expr_spans, primary_spans}
use Rattle.parse_decls.specs.Look.{behind, equals_at}
use Rattle.parse_decls.specs.Grammar.{e_none, e_some, IsName, n_name, IsDefined, IsDefinitionBlock}
use Rattle.parse_decls.proofs.ForCallers.{Takes, definition_takes, definition_block_takes}
use Rattle.parse_exprs.specs.declared.input.Lead.{Lead as ExprLead}
use Rattle.parse_exprs.specs.declared.input.Lead.TheVariants as E
use Rattle.parse_stmts.specs.Look.{assign_on, word_on, below_at}
use Rattle.parse_stmts.specs.Run.{assigned_by}
use Rattle.parse_stmts.specs.Grammar.{IsValue, IsHere, Optional, IsCalled}

-- before so many nodes, and then these tokens, make those after
pub record Spans (before after : ℕ) (ts rest : List Token) : Type 0 where
  pub size : after + 2 * length rest ≤ before + 2 * length ts

pub no_spans : {a : ℕ} {ts : List Token} → Spans a a ts ts
no_spans = record { size = omega arith }

pub then_spans : {a b c d : ℕ} {ts mid rest : List Token} → Spans a b ts mid → Spans c d mid rest → Spans (a + c) (b + d) ts rest
then_spans p q = (let i = p.size in let j = q.size in record { size = omega (arith, i, j) })

pub within : {a b c d : ℕ} {ts rest : List Token} → Spans a b ts rest → d + a ≤ b + c → Spans c d ts rest
within p le = (let i = p.size in record { size = omega (arith, i, le) })

pub one_token : (tok : Token) (ts : List Token) → Spans 0 2 (tok ∷ ts) ts
one_token tok ts = record { size = omega arith }

-- ---- a token of some kind

pub word_spans : (n : ℕ) (is : Tok → Bool) (ts : List Token) → word_on n is ts ≡ true → Spans 0 2 ts (behind ts)
word_spans n is [] h = cc
word_spans n is (tok ∷ ts) h = one_token tok ts

pub branch_spans : (n : ℕ) (is : Tok → Bool) (ts : List Token) → branch_at (Lines n) is ts ≡ true → Spans 0 2 ts (behind ts)
branch_spans n is [] h = cc
branch_spans n is (tok ∷ ts) h = one_token tok ts

pub comma_spans : (n : ℕ) (ts : List Token) → comma_at (Lines n) ts ≡ true → Spans 0 2 ts (behind ts)
comma_spans n [] h = cc
comma_spans n (tok ∷ ts) h = one_token tok ts

pub colon_spans : (n : ℕ) (ts : List Token) → colon_at (Lines n) ts ≡ true → Spans 0 2 ts (behind ts)
colon_spans n [] h = cc
colon_spans n (tok ∷ ts) h = one_token tok ts

pub equals_spans : (n : ℕ) (ts : List Token) → equals_at (Lines n) ts ≡ true → Spans 0 2 ts (behind ts)
equals_spans n [] h = cc
equals_spans n (tok ∷ ts) h = one_token tok ts

pub dots_spans : (x : Origin) (n : ℕ) (ts : List Token) → dots_at x (Lines n) ts ≡ true → Spans 0 2 ts (behind ts)
dots_spans x n [] h = cc
dots_spans x n (tok ∷ ts) h = one_token tok ts

pub below_spans : (x : Origin) (n : ℕ) (ts : List Token) → below_at x n ts ≡ true → Spans 0 2 ts (behind ts)
below_spans x n [] h = cc
below_spans x n (tok ∷ ts) h = one_token tok ts

past_by : (b : Bool) (tok : Token) (ts : List Token) → Spans 0 0 (tok ∷ ts) (if b then ts else tok ∷ ts)
past_by true tok ts = record { size = omega arith }
past_by false tok ts = no_spans

pub past_spans : (n : ℕ) (ts : List Token) → Spans 0 0 ts (past_colon (Lines n) ts)
past_spans n [] = no_spans
past_spans n (tok ∷ ts) = past_by (colon_at (Lines n) (tok ∷ ts)) tok ts

pub assign_spans : (x : Origin) (n : ℕ) (l : ExprLead) (op : AssignOp) (ts : List Token) → assigned_by l (assign_on x n ts) ≡ Some op
    → Spans 0 2 ts (behind ts)
assign_spans x n E.Operand op [] h = cc
assign_spans x n E.If op [] h = cc
assign_spans x n E.Case op [] h = cc
assign_spans x n l op (tok ∷ ts) h = one_token tok ts

-- ---- names

name_on_spans : (i : Layout) (ts : List Token) (tok : Token) → name_on i ts ≡ Some tok → Spans 0 2 ts (behind ts)
name_on_spans i [] tok e = cc
name_on_spans i (here ∷ ts) tok e = one_token here ts

pub name_spans : {x : Origin} {i : Layout} {a : Name} {ts rest : List Token} → IsName x i a ts rest → Spans 0 2 ts rest
name_spans {i = i} (n_name {tok = tok} {ts = ts} e) = name_on_spans i ts tok e

-- ---- what the parsers below take

pub takes_spans : {n : ℕ} {ts rest : List Token} → Takes n ts rest → Spans 0 (2 * n) ts rest
takes_spans t = (let p = t.size in record { size = omega (arith, p) })

-- ---- expressions

-- a tree has a node
pub some_nodes : (t : Term) → 1 ≤ nodes t
some_nodes (int at value) = omega arith
some_nodes (char at value) = omega arith
some_nodes (text at bs) = omega arith
some_nodes (name at bs) = omega arith
some_nodes (quoted at bs) = omega arith
some_nodes (nil at) = omega arith
some_nodes (paren at a) = omega arith
some_nodes (tuple at ps) = omega arith
some_nodes (array at ps) = omega arith
some_nodes (sequence at ps) = omega arith
some_nodes (construct at bs ps) = omega arith
some_nodes (named at bs a) = omega arith
some_nodes (field at a bs) = omega arith
some_nodes (call at a ps) = omega arith
some_nodes (index at a ps) = omega arith
some_nodes (unary at op a) = omega arith
some_nodes (binary at op a b) = omega arith
some_nodes (if_term at cs a) = omega arith
some_nodes (case_term at a cs) = omega arith
some_nodes (case_else at a cs b) = omega arith
some_nodes (range at a b) = omega arith

pub expression_spans : {x : Origin} {i : Layout} {a : Term} {ts rest : List Token} → SpellsExpr x i a ts rest → Spans 0 (2 * nodes a) ts rest
expression_spans d = (let s = expr_spans d in let p = s.size in record { size = omega (arith, p) })

pub value_spans : {x : Origin} {n : ℕ} {a : Term} {ts rest : List Token} → IsValue x n a ts rest → Spans 0 (2 * nodes a) ts rest
value_spans d = expression_spans d.reads.spells

pub here_spans : {x : Origin} {n : ℕ} {a : Term} {ts rest : List Token} → IsHere x n a ts rest → Spans 0 (2 * nodes a) ts rest
here_spans h = value_spans h.value

pub called_spans : {x : Origin} {n : ℕ} {a : Term} {ts rest : List Token} → IsCalled x n a ts rest → Spans 0 (2 * nodes a) ts rest
called_spans d = (let s = primary_spans d.reads.spells in let p = s.size in record { size = omega (arith, p) })

pub optional_spans : {x : Origin} {n : ℕ} {a : Option Term} {ts rest : List Token} → Optional x n a ts rest → Spans 0 (2 * if_there nodes a) ts rest
optional_spans (e_none e) = no_spans
optional_spans (e_some e d) = value_spans d

pub nodes_and : (ps : Parts) (a : Term) → nodes_in (and_part ps a) ≡ nodes_in ps + nodes a
nodes_and no_parts a = omega arith
nodes_and (part b ps) a = let h = nodes_and ps a in omega (arith, h)

-- ---- definitions

pub definition_spans : {x : Origin} {first : Layout} {n : ℕ} (d : Definition) {ts rest : List Token} → IsDefined x first (Lines n) d ts rest
    → Spans 0 (2 * definition_nodes d) ts rest
definition_spans d {ts} {rest} r = takes_spans (definition_takes d ts rest r)

pub definitions_spans : {x : Origin} {n : ℕ} {all : List Definition} {ts rest : List Token} → IsDefinitionBlock x n all ts rest
    → Spans 0 (2 * total definition_nodes all) ts rest
definitions_spans {all = all} {ts = ts} {rest = rest} d = takes_spans (definition_block_takes all ts rest d)
