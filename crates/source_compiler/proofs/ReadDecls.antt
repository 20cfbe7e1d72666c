-- Declarations that are parsed are read: definitions have names, an enum has members with names, as many as an int counts, and the name of a
-- procedure that isn't in backticks isn't `$`.
use Rattle.std.proofs.Common.{◌≡◌, ℕ, suc, ◌≤◌, Bool, true, false, List, [], ◌∷◌, length, Option, Some, None, refl, sym, subst, ◌∙◌, arith}
use Rattle.std.specs.Prelude.{codes, ◌&&◌, ◌||◌, if◌then◌else◌}
use Rattle.std.specs.List.{list_all}
use Rattle.std.proofs.lemmas.Bool.{and_parts, le-leb, eq-eqb}
use Rattle.indent_scanner.specs.declared.token.Tok.{Tok}
use Rattle.indent_scanner.specs.declared.token.Tok.TheVariants as T
use Rattle.indent_scanner.specs.declared.token.Token.{Token}
use Rattle.indent_scanner.specs.Words.{normal}
use Rattle.nim_tree.specs.declared.name.Name.{Name}
use Rattle.nim_tree.specs.declared.name.Declared.{Declared}
use Rattle.nim_tree.specs.declared.name.Pragma.{Pragma}
use Rattle.nim_tree.specs.declared.stmt.ParamMode.{ParamMode}
use Rattle.nim_tree.specs.declared.stmt.ParamMode.TheVariants as M
use Rattle.nim_tree.specs.Terms.{Term}
use Rattle.nim_tree.specs.Types.{Written, Arguments, Fields, Body, Declaration}
use Rattle.nim_tree.specs.Statements.{Definition, Parameters, Head}
use Rattle.nim_types.specs.Types.{same_text}
use Rattle.decl_rules.specs.Sections.{texts_of}
use Rattle.parse_exprs.specs.declared.layout.Layout.{Layout}
use Rattle.parse_exprs.specs.declared.layout.Layout.TheVariants.{Brackets, Lines}
use Rattle.parse_exprs.specs.Look.{Origin, spelling, goes_on, is_run, is_name, name_on, comma_at}
use Rattle.parse_decls.specs.Look.{behind, spaces_at, deeper_than, equals, number_or, deeper_at, stands_at, level_at, past_star, proc_name_on, is_quoted}
use Rattle.parse_decls.specs.Look.{past_if_mode, mode_at, past_comma}
use Rattle.parse_decls.specs.Grammar as G
use Rattle.parse_decls.specs.Grammar.{Each, Listed, Perhaps, Maybe, Closed, IsName, Names, IsDeclared, Declareds, Generics, IsPragma, Pragmas}
use Rattle.parse_decls.specs.Grammar.{IsType, IsTypes, IsField, IsFields, Annotation, Given, IsDefined, Definitions, IsDefinitionBlock, IsFieldLines}
use Rattle.parse_decls.specs.Grammar.{FieldBlock, IsMembers, IsBody, IsDeclaration, IsDeclarations, IsParameter, IsParameters, ParameterList, IsHead}
use Rattle.typing_laws.specs.Sound.{has_bytes, are_members}
use Rattle.typing_laws.specs.Trees.{has_name, IfRead, DefinitionsRead, BodyRead, TypesRead, NameRead}
use Rattle.source_compiler.proofs.ReadTokens.{some_one, none_some, never, both, KindRead, Good, tail, behind_good}
use Rattle.source_compiler.proofs.ReadExprs.{expr_read}

-- ---- lists

-- a first one is there
pub listed_some : {A : Type 0} {First Item : A → List Token → List Token → Type 0} {goes : List Token → Bool} {past : List Token → List Token}
    {all : List A} {ts rest : List Token} → Listed First goes past Item all ts rest → has_name all ≡ true
listed_some (G.e_first h k) = refl

-- the line of a block that begins deeper begins here
pub stands_here : (n : ℕ) (ts : List Token) → deeper_at n ts ≡ true → stands_at (level_at ts) ts ≡ true
stands_here n ts h = by_spaces (spaces_at ts) h
  where
    by_spaces : (o : Option ℕ) → deeper_than n o ≡ true → equals (number_or 0 o) o ≡ true
    by_spaces None h = never h
    by_spaces (Some m) h = eq-eqb m m refl

module _ (x : Origin) where
  each_good : {A : Type 0} {goes : List Token → Bool} {past : List Token → List Token} {Item : A → List Token → List Token → Type 0} {all : List A}
      {ts rest : List Token} → ((ts : List Token) → Good x ts → Good x (past ts))
      → ((a : A) (ts rest : List Token) → Item a ts rest → Good x ts → Good x rest) → Each goes past Item all ts rest → Good x ts → Good x rest
  each_good past item (G.e_over e) g = g
  each_good past item (G.e_next {a = a} {ts = ts} {mid = mid} e h k) g = each_good past item k (item a _ mid h (past ts g))

  listed_good : {A : Type 0} {goes : List Token → Bool} {past : List Token → List Token} {First Item : A → List Token → List Token → Type 0} {all : List A}
      {ts rest : List Token} → ((ts : List Token) → Good x ts → Good x (past ts))
      → ((a : A) (ts rest : List Token) → First a ts rest → Good x ts → Good x rest)
      → ((a : A) (ts rest : List Token) → Item a ts rest → Good x ts → Good x rest) → Listed First goes past Item all ts rest → Good x ts → Good x rest
  listed_good past first item (G.e_first {a = a} {ts = ts} {mid = mid} h k) g = each_good past item k (first a ts mid h g)

  perhaps_good : {A : Type 0} {goes : List Token → Bool} {none : A} {Item : A → List Token → List Token → Type 0} {a : A} {ts rest : List Token}
      → ((a : A) (ts rest : List Token) → Item a ts rest → Good x ts → Good x rest) → Perhaps goes none Item a ts rest → Good x ts → Good x rest
  perhaps_good item (G.e_missing e) g = g
  perhaps_good item (G.e_present {a = a} {ts = ts} {rest = rest} e h) g = item a ts rest h g

  maybe_good : {A : Type 0} {goes : List Token → Bool} {Item : A → List Token → List Token → Type 0} {o : Option A} {ts rest : List Token}
      → ((a : A) (ts rest : List Token) → Item a ts rest → Good x ts → Good x rest) → Maybe goes Item o ts rest → Good x ts → Good x rest
  maybe_good item (G.e_none e) g = g
  maybe_good item (G.e_some {a = a} {ts = ts} {rest = rest} e h) g = item a ts rest h g

  closed_good : {A : Type 0} {closes : List Token → Bool} {Item : A → List Token → List Token → Type 0} {a : A} {ts rest : List Token}
      → ((a : A) (ts rest : List Token) → Item a ts rest → Good x ts → Good x rest) → Closed closes Item a ts rest → Good x ts → Good x rest
  closed_good {a = a} {ts = ts} item h g =
      subst (Good x) (sym h.next) (behind_good x h.end (item a (behind ts) h.end h.inside (behind_good x ts g)))

  -- ---- names

  pub name_good : {i : Layout} {name : Name} {ts rest : List Token} → IsName x i name ts rest → Good x ts → Good x rest
  name_good (G.n_name {ts = ts} e) g = behind_good x ts g

  pub names_good : {i : Layout} {all : List Name} {ts rest : List Token} → Names x i all ts rest → Good x ts → Good x rest
  names_good h g = listed_good (behind_good x) (λ a ts rest k. name_good k) (λ a ts rest k. name_good k) h g

  past_star_good : (i : Layout) (ts : List Token) → Good x ts → Good x (past_star x i ts)
  past_star_good i [] g = g
  past_star_good i (tok ∷ ts) g = by_test (goes_on i tok.indent && is_run (codes "*") tok.kind (spelling x tok))
    where
      by_test : (b : Bool) → Good x (if b then ts else tok ∷ ts)
      by_test true = tail x g
      by_test false = g

  declared_good : {i : Layout} {name : List Token → Option Token} {d : Declared} {ts rest : List Token} → IsDeclared x i name d ts rest → Good x ts
      → Good x rest
  declared_good {i} (G.n_declared {ts = ts} e) g = past_star_good i (behind ts) (behind_good x ts g)

  declareds_good : (first i : Layout) {all : List Declared} {ts rest : List Token} → Declareds x first i all ts rest → Good x ts → Good x rest
  declareds_good first i h g = listed_good (behind_good x) (λ a ts rest k. declared_good k) (λ a ts rest k. declared_good k) h g

  generics_good : (i : Layout) {all : List Name} {ts rest : List Token} → Generics x i all ts rest → Good x ts → Good x rest
  generics_good i h g = perhaps_good (λ a ts rest k. closed_good (λ b us end l. names_good l) k) h g

  pragma_good : {p : Pragma} {ts rest : List Token} → IsPragma x p ts rest → Good x ts → Good x rest
  pragma_good (G.n_pragma {ts = ts} e f) g = behind_good x ts g

  pragmas_good : (i : Layout) {all : List Pragma} {ts rest : List Token} → Pragmas x i all ts rest → Good x ts → Good x rest
  pragmas_good i h g =
      perhaps_good (λ a ts rest k. closed_good (λ b us end l.
      listed_good (behind_good x) (λ c vs mid m. pragma_good m) (λ c vs mid m. pragma_good m) l) k) h g

  -- ---- written types

  mutual
    type_good : {i : Layout} {a : Written} {ts rest : List Token} → IsType x i a ts rest → Good x ts → Good x rest
    type_good (G.t_name l e) g = tail x g
    type_good (G.t_generic {ts = ts} {end = end} h k m e) g = behind_good x end (types_good m (type_good k (behind_good x ts (tail x g))))
    type_good (G.t_array {ts = ts} {mid = mid} {end = end} l h c k e) g =
        behind_good x end (type_good k (behind_good x mid (expr_read x h (behind_good x ts (tail x g))).1))
    type_good (G.t_ref l s h) g = type_good h (tail x g)
    type_good (G.t_empty {ts = ts} l o c) g = behind_good x (behind ts) (behind_good x ts (tail x g))
    type_good (G.t_tuple {ts = ts} {end = end} l o c h k e) g = behind_good x end (fields_good k (field_good h (behind_good x ts (tail x g))))

    types_good : {all : Arguments} {ts rest : List Token} → IsTypes x all ts rest → Good x ts → Good x rest
    types_good (G.t_last e) g = g
    types_good (G.t_next {ts = ts} e h k) g = types_good k (type_good h (behind_good x ts g))

    field_good : {names : List Declared} {a : Written} {ts rest : List Token} → IsField x names a ts rest → Good x ts → Good x rest
    field_good (G.t_field {mid = mid} h c k) g = type_good k (behind_good x mid (declareds_good Brackets Brackets h g))

    fields_good : {all : Fields} {ts rest : List Token} → IsFields x all ts rest → Good x ts → Good x rest
    fields_good (G.t_last_field e) g = g
    fields_good (G.t_next_field {ts = ts} e h k) g = fields_good k (field_good h (behind_good x ts g))

  annotation_good : {i : Layout} {o : Option Written} {ts rest : List Token} → Annotation x i o ts rest → Good x ts → Good x rest
  annotation_good h g = maybe_good (λ a ts rest k. λ g. type_good k.of (behind_good x ts g)) h g

  -- ---- definitions

  given_read : {i : Layout} {o : Option Term} {ts rest : List Token} → Given x i o ts rest → Good x ts → IfRead o × Good x rest
  given_read (G.e_none e) g = (tt, g)
  given_read (G.e_some {ts = ts} e h) g = expr_read x h.value (behind_good x ts g)

  pub definition_read : {first i : Layout} {d : Definition} {ts rest : List Token} → IsDefined x first i d ts rest → Good x ts
      → ((has_name d.names ≡ true) × IfRead d.value) × Good x rest
  definition_read {first} {i} h g =
      let v = given_read h.value (annotation_good h.annotation (pragmas_good i h.pragmas (declareds_good first i h.names g))) in
      ((listed_some h.names, v.0), v.1)

  definitions_read : {n : ℕ} {all : List Definition} {ts rest : List Token} → Definitions x n all ts rest → Good x ts
      → DefinitionsRead all × Good x rest
  definitions_read (G.e_over e) g = (tt, g)
  definitions_read (G.e_next e h k) g =
      let d = definition_read h g in
      let r = definitions_read k d.1 in ((d.0, r.0), r.1)

  some_lines : {n : ℕ} {all : List Definition} {ts rest : List Token} → Definitions x n all ts rest → stands_at n ts ≡ true → has_name all ≡ true
  some_lines (G.e_over e) s = never (sym e ∙ s)
  some_lines (G.e_next e h k) s = refl

  pub block_read : {n : ℕ} {all : List Definition} {ts rest : List Token} → IsDefinitionBlock x n all ts rest → Good x ts
      → ((has_name all ≡ true) × DefinitionsRead all) × Good x rest
  block_read {n} {ts = ts} h g =
      let r = definitions_read h.lines g in ((some_lines h.lines (stands_here n ts h.deeper), r.0), r.1)

  -- ---- declarations of types

  name_shorter : {i : Layout} {name : Name} {ts rest : List Token} → IsName x i name ts rest → suc (length rest) ≤ length ts
  name_shorter {i} (G.n_name {tok = tok} {ts = ts} e) = by_tokens ts e
    where
      by_tokens : (ts : List Token) → name_on i ts ≡ Some tok → suc (length (behind ts)) ≤ length ts
      by_tokens [] e = none_some e
      by_tokens (t ∷ ts) e = omega arith

  behind_shorter : (ts : List Token) → length (behind ts) ≤ length ts
  behind_shorter [] = omega arith
  behind_shorter (tok ∷ ts) = omega arith

  past_comma_shorter : (i : Layout) (ts : List Token) → length (past_comma i ts) ≤ length ts
  past_comma_shorter i ts = by_test (comma_at i ts)
    where
      by_test : (b : Bool) → length (if b then behind ts else ts) ≤ length ts
      by_test true = behind_shorter ts
      by_test false = omega arith

  past_comma_good : (i : Layout) (ts : List Token) → Good x ts → Good x (past_comma i ts)
  past_comma_good i ts g = by_test (comma_at i ts)
    where
      by_test : (b : Bool) → Good x (if b then behind ts else ts)
      by_test true = behind_good x ts g
      by_test false = g

  -- as many names as tokens at most
  each_count : {i : Layout} {goes : List Token → Bool} {past : List Token → List Token} {all : List Name} {ts rest : List Token}
      → ((ts : List Token) → length (past ts) ≤ length ts) → Each goes past (IsName x i) all ts rest → length all ≤ length ts
  each_count short (G.e_over e) = omega arith
  each_count short (G.e_next {ts = ts} e h k) =
      let a = name_shorter h in
      let b = short ts in
      let c = each_count short k in omega (arith, a, b, c)

  listed_count : {i j : Layout} {goes : List Token → Bool} {past : List Token → List Token} {all : List Name} {ts rest : List Token}
      → ((ts : List Token) → length (past ts) ≤ length ts) → Listed (IsName x i) goes past (IsName x j) all ts rest → length all ≤ length ts
  listed_count short (G.e_first h k) =
      let a = name_shorter h in
      let b = each_count short k in omega (arith, a, b)

  few_names : (all : List Name) (ts : List Token) → Good x ts → length all ≤ length ts → length all ≤ 2147483647
  few_names all ts g l = let m = g.few in omega (arith, l, m)

  some_bytes : (kind : Tok) (bytes : List ℕ) → KindRead kind bytes → is_name kind ≡ true → has_bytes bytes ≡ true
  some_bytes T.Name bytes h e = h.0
  some_bytes other bytes h e = never e

  -- a name has bytes
  name_bytes : {i : Layout} {name : Name} {ts rest : List Token} → IsName x i name ts rest → Good x ts → has_bytes name.text ≡ true
  name_bytes {i} (G.n_name {tok = tok} {ts = ts} e) g = by_tokens ts e g
    where
      by_tokens : (ts : List Token) → name_on i ts ≡ Some tok → Good x ts → has_bytes (spelling x tok) ≡ true
      by_tokens [] e g = none_some e
      by_tokens (t ∷ ts) e g = by_test (goes_on i t.indent && is_name t.kind) refl e
        where
          by_test : (b : Bool) → (goes_on i t.indent && is_name t.kind) ≡ b → (if b then Some t else None) ≡ Some tok → has_bytes (spelling x tok) ≡ true
          by_test true c e =
              subst (λ u. has_bytes (spelling x u) ≡ true) (some_one e)
              (some_bytes t.kind (spelling x t) g.read.0 (and_parts (goes_on i t.indent) (is_name t.kind) c).1)
          by_test false c e = none_some e

  each_bytes : {i : Layout} {goes : List Token → Bool} {past : List Token → List Token} {all : List Name} {ts rest : List Token}
      → ((ts : List Token) → Good x ts → Good x (past ts)) → Each goes past (IsName x i) all ts rest → Good x ts
      → list_all has_bytes (texts_of all) ≡ true
  each_bytes past (G.e_over e) g = refl
  each_bytes past (G.e_next {ts = ts} e h k) g = let p = past ts g in both (name_bytes h p) (each_bytes past k (name_good h p))

  listed_members : {i j : Layout} {goes : List Token → Bool} {past : List Token → List Token} {all : List Name} {ts rest : List Token}
      → ((ts : List Token) → Good x ts → Good x (past ts)) → Listed (IsName x i) goes past (IsName x j) all ts rest → Good x ts
      → are_members (texts_of all) ≡ true
  listed_members past (G.e_first h k) g = both (name_bytes h g) (each_bytes past k (name_good h g))

  members_read : {n : ℕ} {all : List Name} {ts rest : List Token} → IsMembers x n all ts rest → Good x ts
      → ((are_members (texts_of all) ≡ true) × (length all ≤ 2147483647)) × Good x rest
  members_read (G.o_line {all = all} {ts = ts} e h) g =
      ((listed_members (behind_good x) h g, few_names all ts g (listed_count behind_shorter h)), names_good h g)
  members_read (G.o_block {all = all} {ts = ts} e h) g = (
    (
      listed_members (past_comma_good (Lines (level_at ts))) h g,
      few_names all ts g (listed_count (past_comma_shorter (Lines (level_at ts))) h),
    ),
    listed_good (past_comma_good (Lines (level_at ts))) (λ a us end k. name_good k) (λ a us end k. name_good k) h g,
  )

  field_lines_good : {n : ℕ} {all : Fields} {ts rest : List Token} → IsFieldLines x n all ts rest → Good x ts → Good x rest
  field_lines_good (G.o_over e) g = g
  field_lines_good {n} (G.o_field {mid = mid} e h k l) g = field_lines_good l (type_good k.of (behind_good x mid (declareds_good Brackets (Lines n) h g)))

  field_block_good : (n : ℕ) {all : Fields} {ts rest : List Token} → FieldBlock x n all ts rest → Good x ts → Good x rest
  field_block_good n h g = perhaps_good (λ a ts rest k. field_lines_good k) h g

  parent_good : {i : Layout} {goes : List Token → Bool} {o : Option Name} {ts rest : List Token}
      → Maybe goes (λ name ts rest. IsName x i name (behind ts) rest) o ts rest → Good x ts → Good x rest
  parent_good h g = maybe_good (λ a ts rest k. λ g. name_good k (behind_good x ts g)) h g

  body_read : {n : ℕ} {b : Body} {ts rest : List Token} → IsBody x n b ts rest → Good x ts → BodyRead b × Good x rest
  body_read {n} (G.o_object l p f) g = (tt, field_block_good n f (parent_good p (tail x g)))
  body_read {n} (G.o_ref_object {ts = ts} l p f) g = (tt, field_block_good n f (parent_good p (behind_good x ts (tail x g))))
  body_read (G.o_enum {all = all} l h) g =
      let m = members_read h (tail x g) in ((m.0.0, le-leb (length all) 2147483647 m.0.1), m.1)
  body_read (G.o_distinct l s h) g = (tt, type_good h (tail x g))
  body_read (G.o_alias l h) g = (tt, type_good h g)

  declaration_read : {first : Layout} {n : ℕ} {d : Declaration} {ts rest : List Token} → IsDeclaration x first n d ts rest → Good x ts
      → BodyRead d.body × Good x rest
  declaration_read {n = n} h g = body_read h.body (behind_good x h.past_parameters (generics_good (Lines n) h.parameters (declared_good h.name g)))

  lines_read : {goes : List Token → Bool} {first : Layout} {n : ℕ} {all : List Declaration} {ts rest : List Token}
      → Each goes (λ ts. ts) (IsDeclaration x first n) all ts rest → Good x ts → TypesRead all × Good x rest
  lines_read (G.e_over e) g = (tt, g)
  lines_read (G.e_next e h k) g =
      let d = declaration_read h g in
      let r = lines_read k d.1 in ((d.0, r.0), r.1)

  pub declarations_read : {n : ℕ} {all : List Declaration} {ts rest : List Token} → IsDeclarations x n all ts rest → Good x ts
      → TypesRead all × Good x rest
  declarations_read (G.o_declarations e h) g = lines_read h g
  declarations_read (G.o_declaration e h) g = let d = declaration_read h g in ((d.0, tt), d.1)

  -- ---- heads of procedures

  past_mode_good : (m : ParamMode) (ts : List Token) → Good x ts → Good x (past_if_mode m ts)
  past_mode_good M.Plain ts g = g
  past_mode_good M.Var ts g = behind_good x ts g
  past_mode_good M.Sink ts g = behind_good x ts g

  parameter_good : {p : Parameters} {ts rest : List Token} → IsParameter x p ts rest → Good x ts → Good x rest
  parameter_good h g =
      type_good h.of (past_mode_good (mode_at x (behind h.past_names)) (behind h.past_names) (behind_good x h.past_names (names_good h.names g)))

  parameters_good : {all : List Parameters} {ts rest : List Token} → IsParameters x all ts rest → Good x ts → Good x rest
  parameters_good (G.h_none {ts = ts} e) g = behind_good x (behind ts) (behind_good x ts g)
  parameters_good (G.h_some e h) g =
      closed_good (λ a ts rest k. listed_good (behind_good x) (λ b us end l. parameter_good l) (λ b us end l. parameter_good l) k) h g

  plain_name : (kind : Tok) (bytes : List ℕ) → KindRead kind bytes → (is_name kind || is_quoted kind) ≡ true → is_quoted kind ≡ false
      → same_text (normal bytes) (codes "$") ≡ false
  plain_name T.Name bytes h e q = h.1
  plain_name T.Quoted bytes h e q = never (sym q)
  plain_name other bytes h e q = never e

  head_name : {i : Layout} {d : Declared} {ts rest : List Token} → IsDeclared x i (proc_name_on i) d ts rest → Good x ts → NameRead d
  head_name {i} (G.n_declared {tok = tok} {ts = ts} e) g = by_tokens ts e g
    where
      by_tokens : (ts : List Token) → proc_name_on i ts ≡ Some tok → Good x ts → is_quoted tok.kind ≡ false
          → same_text (normal (spelling x tok)) (codes "$") ≡ false
      by_tokens [] e g q = none_some e
      by_tokens (t ∷ ts) e g q = by_test (goes_on i t.indent && (is_name t.kind || is_quoted t.kind)) refl e
        where
          itself : (is_name t.kind || is_quoted t.kind) ≡ true → t ≡ tok → same_text (normal (spelling x tok)) (codes "$") ≡ false
          itself n same =
              subst (λ u. is_quoted u.kind ≡ false → same_text (normal (spelling x u)) (codes "$") ≡ false) same
              (plain_name t.kind (spelling x t) g.read.0 n) q

          by_test : (b : Bool) → (goes_on i t.indent && (is_name t.kind || is_quoted t.kind)) ≡ b → (if b then Some t else None) ≡ Some tok
              → same_text (normal (spelling x tok)) (codes "$") ≡ false
          by_test true c e = itself (and_parts (goes_on i t.indent) (is_name t.kind || is_quoted t.kind) c).1 (some_one e)
          by_test false c e = none_some e

  parameter_list_good : (i : Layout) {all : List Parameters} {ts rest : List Token} → ParameterList x i all ts rest → Good x ts → Good x rest
  parameter_list_good i h g = perhaps_good (λ a ts rest k. parameters_good k) h g

  pub head_read : {i : Layout} {h : Head} {ts rest : List Token} → IsHead x i h ts rest → Good x ts → NameRead h.name × Good x rest
  head_read {i} h g = (
    head_name h.name g,
    pragmas_good i h.pragmas (annotation_good h.gives (parameter_list_good i h.params (generics_good i h.generics (declared_good h.name g)))),
  )
