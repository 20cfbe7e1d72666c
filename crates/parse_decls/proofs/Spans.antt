-- What is read has at least as many tokens as nodes, and the end of the source is none of them.
use Rattle.std.proofs.Common.{◌≡◌, ℕ, ◌≤◌, ◌+◌, List, [], ◌∷◌, length, drop, Bool, true, false, refl, sym, ap, subst, ◌∙◌, arith}
use Rattle.std.specs.Prelude.{Option, Some, None, ◌&&◌, ◌||◌, codes, if◌then◌else◌}
use Rattle.indent_scanner.specs.declared.token.Key.TheVariants as K
use Rattle.indent_scanner.specs.declared.token.Tok.{Tok}
use Rattle.indent_scanner.specs.declared.token.Tok.TheVariants as T
use Rattle.indent_scanner.specs.declared.token.Token.{Token}
use Rattle.indent_scanner.specs.Words.{is_named}
use Rattle.nim_tree.specs.declared.name.Name.{Name}
use Rattle.nim_tree.specs.declared.name.Declared.{Declared}
use Rattle.nim_tree.specs.declared.name.Pragma.{Pragma}
use Rattle.nim_tree.specs.declared.stmt.ParamMode.{ParamMode}
use Rattle.nim_tree.specs.declared.stmt.ParamMode.TheVariants as M
use Rattle.nim_tree.specs.Lists.{total, if_there, one as count_one}
use Rattle.nim_tree.specs.Terms.{Term, nodes}
use Rattle.nim_tree.specs.Types.{Written, Arguments, Fields, Body, Declaration, type_nodes, argument_nodes, field_nodes, body_nodes, declaration_nodes}
use Rattle.nim_tree.specs.Statements.{Definition, Parameters, Head, definition_nodes, parameter_nodes, head_nodes}
use Rattle.parse_exprs.specs.declared.layout.Layout.{Layout}
use Rattle.parse_exprs.specs.declared.layout.Layout.TheVariants.{Brackets, Lines}
use Rattle.parse_exprs.specs.declared.input.Bracket.{Bracket}
use Rattle.parse_exprs.specs.declared.input.Bracket.TheVariants.{Round, Square}
use Rattle.parse_exprs.specs.Look.{Origin, spelling, goes_on, is_name, is_punct, is_run, kind_at, name_on, closes_at, closing, colon_at, comma_at, bracket_of}
use Rattle.parse_exprs.specs.Grammar.{IsExpr}
use Rattle.parse_exprs.specs.Parsed.{HasNoEnd}
use Rattle.parse_exprs.proofs.ForCallers.{both_of, Free, stop, step, expr_spans, no_end_at}
use Rattle.parse_decls.specs.declared.look.TypeLead.{TypeLead}
use Rattle.parse_decls.specs.declared.look.TypeLead.TheVariants as L
use Rattle.parse_decls.specs.declared.look.BodyLead.{BodyLead}
use Rattle.parse_decls.specs.declared.look.BodyLead.TheVariants as B
use Rattle.parse_decls.specs.Look.{behind, level_at, star_at, past_star, proc_name_on, is_quoted, opens_at, is_bracket, equals_at, of_at, is_of, separator_at}
use Rattle.parse_decls.specs.Look.{is_pragma_open, is_pragma_close, pragmas_at, type_lead, type_lead_of, named_lead, mode_at, mode_of, past_mode, past_if_mode}
use Rattle.parse_decls.specs.Look.{is_object, object_at, body_lead, body_lead_of}
use Rattle.parse_decls.specs.Grammar.{Each, e_over, e_next, Listed, e_first, Perhaps, e_missing, e_present, Maybe, e_none, e_some, Closed, IsName, n_name}
use Rattle.parse_decls.specs.Grammar.{Names, IsDeclared, n_declared, Declareds, Generics, IsPragma, n_pragma, Pragmas, HoldsTypes, h_name, h_array, IsType}
use Rattle.parse_decls.specs.Grammar.{t_name, t_generic, t_array, t_ref, t_empty, t_tuple, IsTypes, t_last, t_next, IsField, t_field, IsFields, t_last_field}
use Rattle.parse_decls.specs.Grammar.{t_next_field, IsTyped, Annotation, Given, IsDefined, Definitions, IsDefinitionBlock, Parent, IsFieldLines, o_over}
use Rattle.parse_decls.specs.Grammar.{o_field, FieldBlock, IsMembers, o_line, o_block, IsBody, o_object, o_ref_object, o_enum, o_distinct, o_alias}
use Rattle.parse_decls.specs.Grammar.{IsDeclaration, IsDeclarations, o_declarations, o_declaration, IsParameter, IsParameters, h_none, h_some, ParameterList}
use Rattle.parse_decls.specs.Grammar.{IsHead}

-- from ts to rest there are at least n tokens, none of which is the end
pub record Takes (n : ℕ) (ts rest : List Token) : Type 0 where
  pub size : n + length rest ≤ length ts
  pub free : Free ts rest

joined : {ts mid rest : List Token} → Free ts mid → Free mid rest → Free ts rest
joined stop g = g
joined (step h f) g = step h (joined f g)

pub takes_none : {ts : List Token} → Takes 0 ts ts
takes_none = record { size = omega arith; free = stop }

pub takes_then : {a b : ℕ} {ts mid rest : List Token} → Takes a ts mid → Takes b mid rest → Takes (a + b) ts rest
takes_then f g = record { size = (let p = f.size in let q = g.size in omega (arith, p, q)); free = joined f.free g.free }

pub takes_less : {a b : ℕ} {ts rest : List Token} → Takes a ts rest → b ≤ a → Takes b ts rest
takes_less f le = record { size = (let p = f.size in omega (arith, p, le)); free = f.free }

takes_at : {n : ℕ} {ts rest end : List Token} → rest ≡ end → Takes n ts end → Takes n ts rest
takes_at {n} {ts} e f = subst (λ r. Takes n ts r) (sym e) f

takes_expr : {x : Origin} {i : Layout} {t : Term} {ts rest : List Token} → IsExpr x i t ts rest → Takes (nodes t) ts rest
takes_expr d = let s = expr_spans d.spells in record { size = (let p = s.size in omega (arith, p)); free = s.free }

-- ---- one token

takes_token : {tok : Token} {ts : List Token} → (tok.kind ≡ T.End → ⊥) → Takes 1 (tok ∷ ts) ts
takes_token h = record { size = omega arith; free = step h stop }

no_end : (test : Tok → Bool) (kind : Tok) → test T.End ≡ false → test kind ≡ true → kind ≡ T.End → ⊥
no_end test kind n h e = let k = sym n ∙ sym (ap test e) ∙ h in cc

-- where a test holds that the end doesn't pass
takes_kind : (test : Tok → Bool) (ts : List Token) → test T.End ≡ false → kind_at test ts ≡ true → Takes 1 ts (behind ts)
takes_kind test [] n h = cc
takes_kind test (tok ∷ ts) n h = takes_token (no_end test tok.kind n h)

comma_takes : (i : Layout) (ts : List Token) → comma_at i ts ≡ true → Takes 1 ts (behind ts)
comma_takes i [] h = cc
comma_takes i (tok ∷ ts) h = takes_token (no_end (is_punct 44) tok.kind refl (both_of (goes_on i tok.indent) (is_punct 44 tok.kind) h).1)

colon_takes : (i : Layout) (ts : List Token) → colon_at i ts ≡ true → Takes 1 ts (behind ts)
colon_takes i [] h = cc
colon_takes i (tok ∷ ts) h = takes_token (no_end (is_punct 58) tok.kind refl (both_of (goes_on i tok.indent) (is_punct 58 tok.kind) h).1)

equals_takes : (i : Layout) (ts : List Token) → equals_at i ts ≡ true → Takes 1 ts (behind ts)
equals_takes i [] h = cc
equals_takes i (tok ∷ ts) h = takes_token (no_end (is_punct 61) tok.kind refl (both_of (goes_on i tok.indent) (is_punct 61 tok.kind) h).1)

of_takes : (i : Layout) (ts : List Token) → of_at i ts ≡ true → Takes 1 ts (behind ts)
of_takes i [] h = cc
of_takes i (tok ∷ ts) h = takes_token (no_end is_of tok.kind refl (both_of (goes_on i tok.indent) (is_of tok.kind) h).1)

object_takes : (i : Layout) (ts : List Token) → object_at i ts ≡ true → Takes 1 ts (behind ts)
object_takes i [] h = cc
object_takes i (tok ∷ ts) h = takes_token (no_end is_object tok.kind refl (both_of (goes_on i tok.indent) (is_object tok.kind) h).1)

pragmas_takes : (i : Layout) (ts : List Token) → pragmas_at i ts ≡ true → Takes 1 ts (behind ts)
pragmas_takes i [] h = cc
pragmas_takes i (tok ∷ ts) h = takes_token (no_end is_pragma_open tok.kind refl (both_of (goes_on i tok.indent) (is_pragma_open tok.kind) h).1)

bracket_no_end : (b : Bracket) → is_bracket b None ≡ false
bracket_no_end Round = refl
bracket_no_end Square = refl

opens_takes : (i : Layout) (b : Bracket) (ts : List Token) → opens_at i b ts ≡ true → Takes 1 ts (behind ts)
opens_takes i b [] h = cc
opens_takes i b (tok ∷ ts) h =
    takes_token (no_end (λ k. is_bracket b (bracket_of k)) tok.kind (bracket_no_end b)
    (both_of (goes_on i tok.indent) (is_bracket b (bracket_of tok.kind)) h).1)

closes_takes : (b : Bracket) (ts : List Token) → closes_at b ts ≡ true → Takes 1 ts (behind ts)
closes_takes b ts h = takes_kind (is_punct (closing b)) ts refl h

separator_by : (ts : List Token) (c : Bool) → kind_at (is_punct 44) ts ≡ c → (c || kind_at (is_punct 59) ts) ≡ true → Takes 1 ts (behind ts)
separator_by ts true e h = takes_kind (is_punct 44) ts refl e
separator_by ts false e h = takes_kind (is_punct 59) ts refl h

separator_takes : (ts : List Token) → separator_at ts ≡ true → Takes 1 ts (behind ts)
separator_takes ts h = separator_by ts (kind_at (is_punct 44) ts) refl h

some_if : {A : Type 0} (a : A) {b : A} (c : Bool) → (if c then Some a else None) ≡ Some b → c ≡ true
some_if a true e = refl
some_if a false e = cc

name_takes : (i : Layout) (ts : List Token) (one : Token) → name_on i ts ≡ Some one → Takes 1 ts (behind ts)
name_takes i [] one h = cc
name_takes i (tok ∷ ts) one h =
    takes_token (no_end is_name tok.kind refl (both_of (goes_on i tok.indent) (is_name tok.kind) (some_if tok (goes_on i tok.indent && is_name tok.kind) h)).1)

proc_name_takes : (i : Layout) (ts : List Token) (one : Token) → proc_name_on i ts ≡ Some one → Takes 1 ts (behind ts)
proc_name_takes i [] one h = cc
proc_name_takes i (tok ∷ ts) one h =
    takes_token (no_end (λ k. is_name k || is_quoted k) tok.kind refl
    (both_of (goes_on i tok.indent) (is_name tok.kind || is_quoted tok.kind)
    (some_if tok (goes_on i tok.indent && (is_name tok.kind || is_quoted tok.kind)) h)).1)

star_by : (i : Layout) (tok : Token) (ts : List Token) (x : Origin) (c : Bool) → star_at x i (tok ∷ ts) ≡ c → Takes 0 (tok ∷ ts) (if c then ts else tok ∷ ts)
star_by i tok ts x true e =
    takes_less (takes_token
    (no_end (λ k. is_run (codes "*") k (spelling x tok)) tok.kind refl (both_of (goes_on i tok.indent) (is_run (codes "*") tok.kind (spelling x tok)) e).1))
    (omega arith)
star_by i tok ts x false e = takes_none

star_takes : (x : Origin) (i : Layout) (ts : List Token) → Takes 0 ts (past_star x i ts)
star_takes x i [] = takes_none
star_takes x i (tok ∷ ts) = star_by i tok ts x (star_at x i (tok ∷ ts)) refl

-- the mode of a parameter, where there is one
mode_takes_by : (x : Origin) (tok : Token) (ts : List Token) (m : ParamMode) → mode_of x tok ts tok.kind ≡ m → Takes 0 (tok ∷ ts) (past_if_mode m (tok ∷ ts))
mode_takes_by x tok ts M.Plain e = takes_none
mode_takes_by x tok ts M.Var e = takes_less (takes_token (λ h. (let k = sym (ap (mode_of x tok ts) h) ∙ e in cc))) (omega arith)
mode_takes_by x tok ts M.Sink e = takes_less (takes_token (λ h. (let k = sym (ap (mode_of x tok ts) h) ∙ e in cc))) (omega arith)

no_mode : (x : Origin) (m : ParamMode) → mode_at x [] ≡ m → Takes 0 [] (past_if_mode m [])
no_mode x M.Plain e = takes_none
no_mode x M.Var e = takes_none
no_mode x M.Sink e = takes_none

mode_takes : (x : Origin) (ts : List Token) → Takes 0 ts (past_mode x ts)
mode_takes x [] = no_mode x (mode_at x []) refl
mode_takes x (tok ∷ ts) = mode_takes_by x tok ts (mode_at x (tok ∷ ts)) refl

-- ---- lists and optional parts

-- m counts what f counts of each
pub record Counts {A : Type 0} (f : A → ℕ) (m : List A → ℕ) : Type 0 where
  pub none : m [] ≡ 0
  pub more : (a : A) (all : List A) → m (a ∷ all) ≡ f a + m all

counts_one : {A : Type 0} → Counts {A = A} (λ a. 1) length
counts_one = record { none = refl; more = λ a all. omega arith }

counts_total : {A : Type 0} (f : A → ℕ) → Counts f (total f)
counts_total f = record { none = refl; more = λ a all. refl }

each_takes : {A : Type 0} {f : A → ℕ} {m : List A → ℕ} {goes : List Token → Bool} {past : List Token → List Token} {R : A → List Token → List Token → Type 0}
    {all : List A} {ts rest : List Token} → Counts f m
    → ((ts : List Token) → goes ts ≡ true → Takes 0 ts (past ts)) → ((a : A) (ts rest : List Token) → R a ts rest → Takes (f a) ts rest)
    → Each goes past R all ts rest → Takes (m all) ts rest
each_takes c g r (e_over h) = takes_less takes_none (let n = c.none in omega (arith, n))
each_takes {m = m} {past = past} c g r (e_next {a = a} {all = all} {ts = ts} {mid = mid} h d t) =
    takes_less (takes_then (g ts h) (takes_then (r a (past ts) mid d) (each_takes {m = m} c g r t))) (let n = c.more a all in omega (arith, n))

listed_takes : {A : Type 0} {f : A → ℕ} {m : List A → ℕ} {goes : List Token → Bool} {past : List Token → List Token}
    {P R : A → List Token → List Token → Type 0} {all : List A} {ts rest : List Token} → Counts f m
    → ((ts : List Token) → goes ts ≡ true → Takes 0 ts (past ts)) → ((a : A) (ts rest : List Token) → P a ts rest → Takes (f a) ts rest)
    → ((a : A) (ts rest : List Token) → R a ts rest → Takes (f a) ts rest)
    → Listed P goes past R all ts rest → Takes (m all) ts rest
listed_takes {m = m} c g p r (e_first {a = a} {all = all} {ts = ts} {mid = mid} d t) =
    takes_less (takes_then (p a ts mid d) (each_takes {m = m} c g r t)) (let n = c.more a all in omega (arith, n))

closed_takes : {A : Type 0} {n : ℕ} {closes : List Token → Bool} {R : A → List Token → List Token → Type 0} {a : A} {ts rest : List Token}
    → Takes 1 ts (behind ts) → ((ts : List Token) → closes ts ≡ true → Takes 1 ts (behind ts)) → ((ts rest : List Token) → R a ts rest → Takes n ts rest)
    → Closed closes R a ts rest → Takes n ts rest
closed_takes {ts = ts} o c r d = takes_at d.next (takes_less (takes_then o (takes_then (r (behind ts) d.end d.inside) (c d.end d.closed))) (omega arith))

perhaps_takes : {A : Type 0} {f : A → ℕ} {goes : List Token → Bool} {none : A} {R : A → List Token → List Token → Type 0} {a : A} {ts rest : List Token}
    → f none ≡ 0 → ((a : A) (ts rest : List Token) → goes ts ≡ true → R a ts rest → Takes (f a) ts rest) → Perhaps goes none R a ts rest → Takes (f a) ts rest
perhaps_takes z r (e_missing h) = takes_less takes_none (omega (arith, z))
perhaps_takes z r (e_present {a = a} {ts = ts} {rest = rest} h d) = r a ts rest h d

maybe_takes : {A : Type 0} {f : A → ℕ} {goes : List Token → Bool} {R : A → List Token → List Token → Type 0} {o : Option A} {ts rest : List Token}
    → ((a : A) (ts rest : List Token) → goes ts ≡ true → R a ts rest → Takes (f a) ts rest) → Maybe goes R o ts rest → Takes (if_there f o) ts rest
maybe_takes r (e_none h) = takes_none
maybe_takes r (e_some {a = a} {ts = ts} {rest = rest} h d) = r a ts rest h d

-- ---- names

is_name_takes : {x : Origin} {i : Layout} (a : Name) (ts rest : List Token) → IsName x i a ts rest → Takes 1 ts rest
is_name_takes {i = i} a ts rest (n_name {tok = tok} {ts = ts'} h) = name_takes i ts' tok h

pub names_takes : {x : Origin} {i : Layout} {all : List Name} {ts rest : List Token} → Names x i all ts rest → Takes (length all) ts rest
names_takes {i = i} d = listed_takes {m = length} counts_one (λ ts h. takes_less (comma_takes i ts h) (omega arith)) is_name_takes is_name_takes d

declared_takes : {x : Origin} {i : Layout} {on : List Token → Option Token} → ((ts : List Token) (one : Token) → on ts ≡ Some one → Takes 1 ts (behind ts))
    → (a : Declared) (ts rest : List Token) → IsDeclared x i on a ts rest → Takes 1 ts rest
declared_takes {x} {i} n a ts rest (n_declared {tok = tok} {ts = ts'} h) = takes_less (takes_then (n ts' tok h) (star_takes x i (behind ts'))) (omega arith)

pub declareds_takes : {x : Origin} (first : Layout) {i : Layout} {all : List Declared} {ts rest : List Token} → Declareds x first i all ts rest
    → Takes (length all) ts rest
declareds_takes first {i = i} d = listed_takes {m = length} counts_one (λ ts h. takes_less (comma_takes i ts h) (omega arith))
    (declared_takes (name_takes first)) (declared_takes (name_takes Brackets)) d

generics_takes : {x : Origin} (i : Layout) {all : List Name} {ts rest : List Token} → Generics x i all ts rest → Takes (length all) ts rest
generics_takes i d = perhaps_takes {f = length} refl (λ a ts rest h e. closed_takes (opens_takes i Square ts h) (closes_takes Square)
    (λ ts rest n. names_takes n) e) d

pragma_takes : {x : Origin} (a : Pragma) (ts rest : List Token) → IsPragma x a ts rest → Takes 1 ts rest
pragma_takes a ts rest (n_pragma {tok = tok} {ts = ts'} h k) = name_takes Brackets ts' tok h

pub all_pragmas_takes : {x : Origin} (i : Layout) {all : List Pragma} {ts rest : List Token} → Pragmas x i all ts rest → Takes (length all) ts rest
all_pragmas_takes i d =
    perhaps_takes {f = length} refl (λ a ts rest h e. closed_takes (pragmas_takes i ts h) (λ ts c. takes_kind is_pragma_close ts refl c)
    (λ ts rest n. listed_takes {m = length} counts_one (λ ts c. takes_less (comma_takes Brackets ts c) (omega arith)) pragma_takes pragma_takes n) e) d

-- ---- types

lead_takes : {l : TypeLead} (x : Origin) (i : Layout) (tok : Token) (ts : List Token) → type_lead x i tok ts ≡ l → (l ≡ L.Other → ⊥) → Takes 1 (tok ∷ ts) ts
lead_takes x i tok ts q n = takes_token (λ h. n (sym q ∙ ap (type_lead_of x i tok ts) h))

named_array : (a b : Bool) → named_lead a b ≡ L.Array → b ≡ true
named_array true true e = refl
named_array true false e = cc
named_array false b e = cc

array_opens : (x : Origin) (i : Layout) (tok : Token) (ts : List Token) (k : Tok) → type_lead_of x i tok ts k ≡ L.Array → opens_at i Square ts ≡ true
array_opens x i tok ts T.Name e = named_array (is_named (spelling x tok) (codes "array")) (opens_at i Square ts) e
array_opens x i tok ts (T.Key K.Ref) e = cc
array_opens x i tok ts (T.Key K.Tuple) e = cc
array_opens x i tok ts (T.Key _) e = cc
array_opens x i tok ts _ e = cc

array_takes : (x : Origin) (i : Layout) (tok : Token) (ts : List Token) → type_lead x i tok ts ≡ L.Array → Takes 1 ts (behind ts)
array_takes x i tok ts q = opens_takes i Square ts (array_opens x i tok ts tok.kind q)

holds_takes : {x : Origin} {i : Layout} {tok : Token} {ts : List Token} → HoldsTypes x i tok ts → Takes 2 (tok ∷ ts) (behind ts)
holds_takes {x} {i} {tok} {ts} (h_name q o) = takes_then (lead_takes x i tok ts q (λ e. cc)) (opens_takes i Square ts o)
holds_takes {x} {i} {tok} {ts} (h_array q t lacks) = takes_then (lead_takes x i tok ts q (λ e. cc)) (array_takes x i tok ts q)

mutual
  pub type_takes : {x : Origin} {i : Layout} {a : Written} {ts rest : List Token} → IsType x i a ts rest → Takes (type_nodes a) ts rest
  type_takes {x} {i} (t_name {tok = tok} {ts = ts} q o) = lead_takes x i tok ts q (λ e. cc)
  type_takes (t_generic {end = end} q d t c) =
      takes_less (takes_then (holds_takes q) (takes_then (type_takes d) (takes_then (types_takes t) (closes_takes Square end c)))) (omega arith)
  type_takes {x} {i} (t_array {tok = tok} {ts = ts} {mid = mid} {end = end} q d c t e) =
      takes_less (takes_then (lead_takes x i tok ts q (λ e. cc))
      (takes_then (array_takes x i tok ts q)
      (takes_then (takes_expr d) (takes_then (comma_takes Brackets mid c) (takes_then (type_takes t) (closes_takes Square end e)))))) (omega arith)
  type_takes {x} {i} (t_ref {tok = tok} {ts = ts} q s d) = takes_less (takes_then (lead_takes x i tok ts q (λ e. cc)) (type_takes d)) (omega arith)
  type_takes {x} {i} (t_empty {tok = tok} {ts = ts} q o c) =
      takes_less (takes_then (lead_takes x i tok ts q (λ e. cc)) (takes_then (opens_takes i Square ts o) (closes_takes Square (behind ts) c))) (omega arith)
  type_takes {x} {i} (t_tuple {tok = tok} {ts = ts} {end = end} q o n d t c) =
      takes_less (takes_then (lead_takes x i tok ts q (λ e. cc))
      (takes_then (opens_takes i Square ts o) (takes_then (field_takes d) (takes_then (fields_takes t) (closes_takes Square end c))))) (omega arith)

  types_takes : {x : Origin} {all : Arguments} {ts rest : List Token} → IsTypes x all ts rest → Takes (argument_nodes all) ts rest
  types_takes (t_last n) = takes_none
  types_takes (t_next {ts = ts} g d t) = takes_less (takes_then (comma_takes Brackets ts g) (takes_then (type_takes d) (types_takes t))) (omega arith)

  field_takes : {x : Origin} {names : List Declared} {a : Written} {ts rest : List Token} → IsField x names a ts rest
      → Takes (length names + type_nodes a) ts rest
  field_takes (t_field {mid = mid} n c d) = takes_less (takes_then (declareds_takes Brackets n) (takes_then (colon_takes Brackets mid c) (type_takes d)))
      (omega arith)

  fields_takes : {x : Origin} {all : Fields} {ts rest : List Token} → IsFields x all ts rest → Takes (field_nodes all) ts rest
  fields_takes (t_last_field n) = takes_none
  fields_takes (t_next_field {ts = ts} g d t) = takes_less (takes_then (comma_takes Brackets ts g) (takes_then (field_takes d) (fields_takes t))) (omega arith)

typed_takes : {x : Origin} {i : Layout} (a : Written) (ts rest : List Token) → IsTyped x i a ts rest → Takes (type_nodes a) ts rest
typed_takes {i = i} a ts rest d = takes_less (takes_then (colon_takes i ts d.colon) (type_takes d.of)) (omega arith)

pub annotation_takes : {x : Origin} (i : Layout) {o : Option Written} {ts rest : List Token} → Annotation x i o ts rest → Takes (if_there type_nodes o) ts rest
annotation_takes i d = maybe_takes {f = type_nodes} (λ a ts rest h t. typed_takes a ts rest t) d

-- ---- definitions

given_takes : {x : Origin} (i : Layout) {o : Option Term} {ts rest : List Token} → Given x i o ts rest → Takes (if_there nodes o) ts rest
given_takes i d = maybe_takes {f = nodes} (λ a ts rest h v. takes_less (takes_then (equals_takes i ts h) (takes_expr v.value)) (omega arith)) d

pub definition_takes : {x : Origin} {first i : Layout} (d : Definition) (ts rest : List Token) → IsDefined x first i d ts rest
    → Takes (definition_nodes d) ts rest
definition_takes {first = first} {i = i} d ts rest r =
    takes_less (takes_then (declareds_takes first r.names)
    (takes_then (all_pragmas_takes i r.pragmas) (takes_then (annotation_takes i r.annotation) (given_takes i r.value)))) (omega arith)

pub definitions_takes : {x : Origin} {n : ℕ} {all : List Definition} {ts rest : List Token} → Definitions x n all ts rest
    → Takes (total definition_nodes all) ts rest
definitions_takes d = each_takes {m = total definition_nodes} (counts_total definition_nodes) (λ ts h. takes_none) definition_takes d

pub definition_block_takes : {x : Origin} {n : ℕ} (all : List Definition) (ts rest : List Token) → IsDefinitionBlock x n all ts rest
    → Takes (total definition_nodes all) ts rest
definition_block_takes all ts rest d = definitions_takes d.lines

-- ---- declarations of types

parent_takes : {x : Origin} (i : Layout) {o : Option Name} {ts rest : List Token} → Parent x i o ts rest → Takes (if_there count_one o) ts rest
parent_takes i d = maybe_takes {f = count_one} (λ a ts rest h n. takes_less (takes_then (of_takes i ts h) (is_name_takes a (behind ts) rest n)) (omega arith)) d

field_lines_takes : {x : Origin} {n : ℕ} {all : Fields} {ts rest : List Token} → IsFieldLines x n all ts rest → Takes (field_nodes all) ts rest
field_lines_takes (o_over h) = takes_none
field_lines_takes (o_field {a = a} {mid = mid} {end = end} g n d t) =
    takes_less (takes_then (declareds_takes Brackets n) (takes_then (typed_takes a mid end d) (field_lines_takes t))) (omega arith)

field_block_takes : {x : Origin} (n : ℕ) {all : Fields} {ts rest : List Token} → FieldBlock x n all ts rest → Takes (field_nodes all) ts rest
field_block_takes n d = perhaps_takes {f = field_nodes} refl (λ a ts rest h t. field_lines_takes t) d

member_or : (m : ℕ) (ts : List Token) (c : Bool) → comma_at (Lines m) ts ≡ c → Takes 0 ts (if c then behind ts else ts)
member_or m ts true e = takes_less (comma_takes (Lines m) ts e) (omega arith)
member_or m ts false e = takes_none

members_takes : {x : Origin} {n : ℕ} {all : List Name} {ts rest : List Token} → IsMembers x n all ts rest → Takes (length all) ts rest
members_takes (o_line h d) = names_takes d
members_takes (o_block {ts = at} h d) = listed_takes {m = length} counts_one (λ ts g. member_or (level_at at) ts (comma_at (Lines (level_at at)) ts) refl)
    is_name_takes is_name_takes d

body_lead_takes : {l : BodyLead} (n : ℕ) (tok : Token) (ts : List Token) → body_lead (Lines n) (tok ∷ ts) ≡ l → (l ≡ B.Alias → ⊥) → Takes 1 (tok ∷ ts) ts
body_lead_takes n tok ts q h = takes_token (λ e. h (sym q ∙ ap (body_lead_of (Lines n) ts) e))

ref_by : (c : Bool) → (if c then B.RefObject else B.Alias) ≡ B.RefObject → c ≡ true
ref_by true e = refl
ref_by false e = cc

ref_object : (n : ℕ) (ts : List Token) (k : Tok) → body_lead_of (Lines n) ts k ≡ B.RefObject → object_at (Lines n) ts ≡ true
ref_object n ts (T.Key K.Ref) e = ref_by (object_at (Lines n) ts) e
ref_object n ts (T.Key K.Object) e = cc
ref_object n ts (T.Key K.Enum) e = cc
ref_object n ts (T.Key K.Distinct) e = cc
ref_object n ts (T.Key _) e = cc
ref_object n ts _ e = cc

body_takes : {x : Origin} {n : ℕ} {b : Body} {ts rest : List Token} → IsBody x n b ts rest → Takes (body_nodes b) ts rest
body_takes {n = n} (o_object {tok = tok} {ts = ts} q p f) =
    takes_less (takes_then (body_lead_takes n tok ts q (λ e. cc)) (takes_then (parent_takes (Lines n) p) (field_block_takes n f))) (omega arith)
body_takes {n = n} (o_ref_object {tok = tok} {ts = ts} q p f) =
    takes_less (takes_then (body_lead_takes n tok ts q (λ e. cc))
    (takes_then (object_takes (Lines n) ts (ref_object n ts tok.kind q)) (takes_then (parent_takes (Lines n) p) (field_block_takes n f)))) (omega arith)
body_takes {n = n} (o_enum {tok = tok} {ts = ts} q d) = takes_less (takes_then (body_lead_takes n tok ts q (λ e. cc)) (members_takes d)) (omega arith)
body_takes {n = n} (o_distinct {tok = tok} {ts = ts} q s d) = takes_less (takes_then (body_lead_takes n tok ts q (λ e. cc)) (type_takes d)) (omega arith)
body_takes (o_alias q d) = type_takes d

pub declaration_takes : {x : Origin} {first : Layout} {n : ℕ} (d : Declaration) (ts rest : List Token) → IsDeclaration x first n d ts rest
    → Takes (declaration_nodes d) ts rest
declaration_takes {first = first} {n = n} d ts rest r =
    takes_less (takes_then (declared_takes (name_takes first) d.name ts r.past_name r.name)
    (takes_then (generics_takes (Lines n) r.parameters) (takes_then (equals_takes (Lines n) r.past_parameters r.equals) (body_takes r.body))))
    (omega arith)

pub declarations_takes : {x : Origin} {n : ℕ} (all : List Declaration) (ts rest : List Token) → IsDeclarations x n all ts rest
    → Takes (total declaration_nodes all) ts rest
declarations_takes all ts rest (o_declarations h d) = each_takes {m = total declaration_nodes} (counts_total declaration_nodes)
    (λ ts g. takes_none) declaration_takes d
declarations_takes all ts rest (o_declaration {d = one} h d) = takes_less (declaration_takes one ts rest d) (omega arith)

-- ---- heads of procedures

parameter_takes : {x : Origin} (p : Parameters) (ts rest : List Token) → IsParameter x p ts rest → Takes (parameter_nodes p) ts rest
parameter_takes {x} p ts rest r =
    takes_less (takes_then (names_takes r.names)
    (takes_then (colon_takes Brackets r.past_names r.colon) (takes_then (mode_takes x (behind r.past_names)) (type_takes r.of)))) (omega arith)

parameters_takes : {x : Origin} {all : List Parameters} {ts rest : List Token} → Takes 1 ts (behind ts) → IsParameters x all ts rest
    → Takes (total parameter_nodes all) ts rest
parameters_takes o (h_none {ts = ts} c) = takes_less (takes_then o (closes_takes Round (behind ts) c)) (omega arith)
parameters_takes o (h_some c d) = closed_takes o (closes_takes Round) (λ ts rest n. listed_takes {m = total parameter_nodes} (counts_total parameter_nodes)
    (λ ts h. takes_less (separator_takes ts h) (omega arith)) parameter_takes parameter_takes n) d

parameter_list_takes : {x : Origin} (i : Layout) {all : List Parameters} {ts rest : List Token} → ParameterList x i all ts rest
    → Takes (total parameter_nodes all) ts rest
parameter_list_takes i d = perhaps_takes {f = total parameter_nodes} refl (λ a ts rest h e. parameters_takes (opens_takes i Round ts h) e) d

pub head_takes : {x : Origin} {i : Layout} (h : Head) (ts rest : List Token) → IsHead x i h ts rest → Takes (head_nodes h) ts rest
head_takes {i = i} h ts rest r =
    takes_less (takes_then (declared_takes (proc_name_takes i) h.name ts r.past_name r.name)
    (takes_then (generics_takes i r.generics)
    (takes_then (parameter_list_takes i r.params) (takes_then (annotation_takes i r.gives) (all_pragmas_takes i r.pragmas))))) (omega arith)

-- ---- at places of all tokens

pub takes_no_end : (tokens : List Token) (from next n : ℕ) → Takes n (drop from tokens) (drop next tokens) → next ≤ length tokens → HasNoEnd tokens from next
takes_no_end tokens from next n f within = no_end_at tokens from next n (record { size = (let p = f.size in omega (arith, p)); free = f.free }) within
