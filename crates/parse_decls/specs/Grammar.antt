-- The grammar of declarations: names, written types, definitions, declarations of types, and heads of procedures.
--
--     def     = name ['*'] { ',' name ['*'] } [ pragmas ] [ ':' type ] [ '=' expr ]
--     tdef    = name ['*'] [ '[' name { ',' name } ']' ] '=' body
--     body    = ['ref'] 'object' [ 'of' name ] { field } | 'enum' members | 'distinct' type | type
--     field   = name ['*'] { ',' name ['*'] } ':' type
--     members = name { ',' name } | name { [','] name }
--     type    = 'array' '[' expr ',' type ']' | name [ '[' type { ',' type } ']' ] | 'ref' type | 'tuple' '[' [ field { ',' field } ] ']'
--     pragmas = '{.' name { ',' name } '.}'
--     head    = name ['*'] [ '[' name { ',' name } ']' ] [ '(' [ param { (',' | ';') param } ] ')' ] [ ':' type ] [ pragmas ]
--     param   = name { ',' name } ':' [ 'var' | 'sink' ] type
--
-- Each relation says: these tokens begin with that, and these are the tokens behind it. A declaration stands behind n spaces
-- (the layout `Lines n`). Line ends are ignored inside brackets and straight behind a comma; what stands behind `:`, `=`,
-- `ref` or `distinct` begins on the same line. A block begins on the next line behind more spaces than n, and each of its
-- lines stands behind the same number; so the first name there may begin a line. What can go on goes on: where a repetition or an
-- optional part ends, the token that would begin more of it doesn't stand.
use Rattle.std.specs.Prelude.{◌≡◌, ◌≤◌, ℕ, Bool, true, false, List, [], ◌∷◌, Option, Some, None}
use Rattle.indent_scanner.specs.declared.token.Token.{Token}
use Rattle.nim_tree.specs.declared.name.Name.{Name}
use Rattle.nim_tree.specs.declared.name.Declared.{Declared}
use Rattle.nim_tree.specs.declared.name.Pragma.{Pragma}
use Rattle.nim_tree.specs.declared.name.PragmaKind.{PragmaKind}
use Rattle.nim_tree.specs.Terms.{Term, levels}
use Rattle.nim_tree.specs.Types.{Written, named, array, ref_to, tuple_of, Arguments, no_arguments, argument, Fields, no_fields, fields, Body, object, enum}
use Rattle.nim_tree.specs.Types.{distinct, alias, Declaration}
use Rattle.nim_tree.specs.Statements.{Definition, Parameters, Head}
use Rattle.parse_exprs.specs.declared.layout.Layout.{Layout}
use Rattle.parse_exprs.specs.declared.layout.Layout.TheVariants.{Brackets, Lines}
use Rattle.parse_exprs.specs.declared.input.Bracket.TheVariants.{Round, Square}
use Rattle.parse_exprs.specs.Look.{Origin, spelling, place_at, closes_at, name_on, stays, colon_at, comma_at, kind_at}
use Rattle.parse_exprs.specs.Grammar.{IsExpr}
use Rattle.parse_exprs.specs.Faults.{FaultsExpr, stuck_at}
use Rattle.parse_decls.specs.declared.look.TypeLead.TheVariants as L
use Rattle.parse_decls.specs.declared.look.BodyLead.TheVariants as B
use Rattle.parse_decls.specs.Look.{behind, deeper_at, stands_at, level_at, name_of, declared_of, star_at, past_star, proc_name_on, is_quoted, opens_at}
use Rattle.parse_decls.specs.Look.{equals_at, of_at, separator_at, is_pragma_close, pragmas_at, pragma_named, pragma_of, type_lead, type_at, mode_at, past_mode}
use Rattle.parse_decls.specs.Look.{body_lead, more_members_at, past_comma}
use Rattle.parse_decls.specs.Run.{most_levels}

-- ---- repetitions and optional parts

-- one after another, as long as one more goes on; it begins at what `past` gives
pub data Each {A : Type 0} (goes : List Token → Bool) (past : List Token → List Token) (Item : A → List Token → List Token → Type 0) : List A → List Token
    → List Token → Type 0 where
  e_over : {rest : List Token} → goes rest ≡ false → Each goes past Item [] rest rest
  e_next : {a : A} {all : List A} {ts mid rest : List Token} → goes ts ≡ true → Item a (past ts) mid → Each goes past Item all mid rest
      → Each goes past Item (a ∷ all) ts rest

-- a first one, and each that goes on
pub data Listed {A : Type 0} (First : A → List Token → List Token → Type 0) (goes : List Token → Bool) (past : List Token → List Token)
    (Item : A → List Token → List Token → Type 0) : List A → List Token → List Token → Type 0 where
  e_first : {a : A} {all : List A} {ts mid rest : List Token} → First a ts mid → Each goes past Item all mid rest
      → Listed First goes past Item (a ∷ all) ts rest

-- this where it goes on, else none
pub data Perhaps {A : Type 0} (goes : List Token → Bool) (none : A) (Item : A → List Token → List Token → Type 0) : A → List Token → List Token → Type 0 where
  e_missing : {ts : List Token} → goes ts ≡ false → Perhaps goes none Item none ts ts
  e_present : {a : A} {ts rest : List Token} → goes ts ≡ true → Item a ts rest → Perhaps goes none Item a ts rest

pub data Maybe {A : Type 0} (goes : List Token → Bool) (Item : A → List Token → List Token → Type 0) : Option A → List Token → List Token → Type 0 where
  e_none : {ts : List Token} → goes ts ≡ false → Maybe goes Item None ts ts
  e_some : {a : A} {ts rest : List Token} → goes ts ≡ true → Item a ts rest → Maybe goes Item (Some a) ts rest

-- a bracket, what stands in it, and the bracket that closes it
pub record Closed {A : Type 0} (closes : List Token → Bool) (Item : A → List Token → List Token → Type 0) (a : A) (ts rest : List Token) : Type 0 where
  pub end : List Token
  pub inside : Item a (behind ts) end
  pub closed : closes end ≡ true
  pub next : rest ≡ behind end

-- ---- names

pub data IsName (x : Origin) (i : Layout) : Name → List Token → List Token → Type 0 where
  n_name : {tok : Token} {ts : List Token} → name_on i ts ≡ Some tok → IsName x i (name_of x tok) ts (behind ts)

-- names with commas between them
abbrev pub Names : Origin → Layout → List Name → List Token → List Token → Type 0
Names x i = Listed (IsName x i) (comma_at i) behind (IsName x Brackets)

-- the name that `name` finds, and `*`
pub data IsDeclared (x : Origin) (i : Layout) (name : List Token → Option Token) : Declared → List Token → List Token → Type 0 where
  n_declared : {tok : Token} {ts : List Token} → name ts ≡ Some tok
      → IsDeclared x i name (declared_of x tok (is_quoted tok.kind) (star_at x i (behind ts))) ts (past_star x i (behind ts))

-- the first goes on in the layout first
abbrev pub Declareds : Origin → (first : Layout) → Layout → List Declared → List Token → List Token → Type 0
Declareds x first i = Listed (IsDeclared x i (name_on first)) (comma_at i) behind (IsDeclared x i (name_on Brackets))

-- type parameters in brackets, where there are any
abbrev pub Generics : Origin → Layout → List Name → List Token → List Token → Type 0
Generics x i = Perhaps (opens_at i Square) [] (Closed (closes_at Square) (Names x Brackets))

pub data IsPragma (x : Origin) : Pragma → List Token → List Token → Type 0 where
  n_pragma : {tok : Token} {kind : PragmaKind} {ts : List Token} → name_on Brackets ts ≡ Some tok → pragma_named (spelling x tok) ≡ Some kind
      → IsPragma x (pragma_of x tok kind) ts (behind ts)

-- pragmas, where there are any
abbrev pub Pragmas : Origin → Layout → List Pragma → List Token → List Token → Type 0
Pragmas x i = Perhaps (pragmas_at i) [] (Closed (kind_at is_pragma_close) (Listed (IsPragma x) (comma_at Brackets) behind (IsPragma x)))

-- ---- written types
--
-- `array[` is the form with a length where an expression and a comma stand behind the bracket, whatever its levels; else it is
-- a name with types in brackets, as `array[int]`. Where no type begins behind the bracket, it can only be the form with a length.

-- no expression with a comma behind it begins here: the text can't go on as one, or no comma follows
pub data NoLength (x : Origin) (ts : List Token) : Type 0 where
  n_stops : {rest : List Token} → FaultsExpr x (stuck_at rest) Brackets most_levels ts → NoLength x ts
  n_more : {a : Term} {mid : List Token} → IsExpr x Brackets a ts mid → levels a ≤ most_levels → comma_at Brackets mid ≡ false → NoLength x ts

-- a name and a bracket with types in it, before these tokens behind the name
pub data HoldsTypes (x : Origin) (i : Layout) (tok : Token) (ts : List Token) : Type 0 where
  h_name : type_lead x i tok ts ≡ L.Name → opens_at i Square ts ≡ true → HoldsTypes x i tok ts
  h_array : type_lead x i tok ts ≡ L.Array → type_at (behind ts) ≡ true → NoLength x (behind ts) → HoldsTypes x i tok ts

mutual
  pub data IsType (x : Origin) : Layout → Written → List Token → List Token → Type 0 where
    t_name : {i : Layout} {tok : Token} {ts : List Token} → type_lead x i tok ts ≡ L.Name → opens_at i Square ts ≡ false
        → IsType x i (named (place_at x tok) (spelling x tok) no_arguments) (tok ∷ ts) ts
    t_generic : {i : Layout} {a : Written} {all : Arguments} {tok : Token} {ts mid end : List Token} → HoldsTypes x i tok ts
        → IsType x Brackets a (behind ts) mid → IsTypes x all mid end → closes_at Square end ≡ true
        → IsType x i (named (place_at x tok) (spelling x tok) (argument a all)) (tok ∷ ts) (behind end)
    t_array : {i : Layout} {length : Term} {a : Written} {tok : Token} {ts mid end : List Token} → type_lead x i tok ts ≡ L.Array
        → IsExpr x Brackets length (behind ts) mid → comma_at Brackets mid ≡ true → IsType x Brackets a (behind mid) end → closes_at Square end ≡ true
        → IsType x i (array (place_at x tok) length a) (tok ∷ ts) (behind end)
    t_ref : {i : Layout} {a : Written} {tok : Token} {ts rest : List Token} → type_lead x i tok ts ≡ L.Ref → stays i ts ≡ true → IsType x i a ts rest
        → IsType x i (ref_to (place_at x tok) a) (tok ∷ ts) rest
    t_empty : {i : Layout} {tok : Token} {ts : List Token} → type_lead x i tok ts ≡ L.Tuple → opens_at i Square ts ≡ true → closes_at Square (behind ts) ≡ true
        → IsType x i (tuple_of (place_at x tok) no_fields) (tok ∷ ts) (behind (behind ts))
    t_tuple : {i : Layout} {names : List Declared} {a : Written} {all : Fields} {tok : Token} {ts mid end : List Token} → type_lead x i tok ts ≡ L.Tuple
        → opens_at i Square ts ≡ true
        → closes_at Square (behind ts) ≡ false → IsField x names a (behind ts) mid → IsFields x all mid end → closes_at Square end ≡ true
        → IsType x i (tuple_of (place_at x tok) (fields names a all)) (tok ∷ ts) (behind end)

  -- what follows a type in brackets: { ',' type }
  pub data IsTypes (x : Origin) : Arguments → List Token → List Token → Type 0 where
    t_last : {rest : List Token} → comma_at Brackets rest ≡ false → IsTypes x no_arguments rest rest
    t_next : {a : Written} {all : Arguments} {ts mid rest : List Token} → comma_at Brackets ts ≡ true → IsType x Brackets a (behind ts) mid
        → IsTypes x all mid rest
        → IsTypes x (argument a all) ts rest

  -- names of fields of a tuple, and their type
  pub data IsField (x : Origin) : List Declared → Written → List Token → List Token → Type 0 where
    t_field : {names : List Declared} {a : Written} {ts mid rest : List Token} → Declareds x Brackets Brackets names ts mid → colon_at Brackets mid ≡ true
        → IsType x Brackets a (behind mid) rest → IsField x names a ts rest

  -- what follows a field of a tuple: { ',' field }
  pub data IsFields (x : Origin) : Fields → List Token → List Token → Type 0 where
    t_last_field : {rest : List Token} → comma_at Brackets rest ≡ false → IsFields x no_fields rest rest
    t_next_field : {names : List Declared} {a : Written} {all : Fields} {ts mid rest : List Token} → comma_at Brackets ts ≡ true
        → IsField x names a (behind ts) mid
        → IsFields x all mid rest → IsFields x (fields names a all) ts rest

-- a colon, and a type on its line
pub record IsTyped (x : Origin) (i : Layout) (a : Written) (ts rest : List Token) : Type 0 where
  pub colon : colon_at i ts ≡ true
  pub stays : stays i (behind ts) ≡ true
  pub of : IsType x i a (behind ts) rest

abbrev pub Annotation : Origin → Layout → Option Written → List Token → List Token → Type 0
Annotation x i = Maybe (colon_at i) (IsTyped x i)

-- ---- definitions

-- `=`, and a value on its line
pub record IsValue (x : Origin) (i : Layout) (a : Term) (ts rest : List Token) : Type 0 where
  pub stays : stays i (behind ts) ≡ true
  pub value : IsExpr x i a (behind ts) rest

abbrev pub Given : Origin → Layout → Option Term → List Token → List Token → Type 0
Given x i = Maybe (equals_at i) (IsValue x i)

-- a definition whose first name goes on in the layout first
pub record IsDefined (x : Origin) (first i : Layout) (d : Definition) (ts rest : List Token) : Type 0 where
  pub past_names : List Token
  pub past_pragmas : List Token
  pub past_type : List Token
  pub names : Declareds x first i d.names ts past_names
  pub pragmas : Pragmas x i d.pragmas past_names past_pragmas
  pub annotation : Annotation x i d.annotation past_pragmas past_type
  pub value : Given x i d.value past_type rest

abbrev pub IsDefinition : Origin → Layout → Definition → List Token → List Token → Type 0
IsDefinition x i = IsDefined x i i

-- definitions, each first on its line behind n spaces
abbrev pub Definitions : Origin → ℕ → List Definition → List Token → List Token → Type 0
Definitions x n = Each (stands_at n) (λ ts. ts) (IsDefined x Brackets (Lines n))

-- a block of definitions behind more than n spaces
pub record IsDefinitionBlock (x : Origin) (n : ℕ) (all : List Definition) (ts rest : List Token) : Type 0 where
  pub deeper : deeper_at n ts ≡ true
  pub lines : Definitions x (level_at ts) all ts rest

-- ---- declarations of types

-- `of` and the name of the parent, where there are these
abbrev pub Parent : Origin → Layout → Option Name → List Token → List Token → Type 0
Parent x i = Maybe (of_at i) (λ name ts rest. IsName x i name (behind ts) rest)

-- fields of an object, each first on its line behind n spaces
pub data IsFieldLines (x : Origin) (n : ℕ) : Fields → List Token → List Token → Type 0 where
  o_over : {rest : List Token} → stands_at n rest ≡ false → IsFieldLines x n no_fields rest rest
  o_field : {names : List Declared} {a : Written} {all : Fields} {ts mid end rest : List Token} → stands_at n ts ≡ true
      → Declareds x Brackets (Lines n) names ts mid
      → IsTyped x (Lines n) a mid end → IsFieldLines x n all end rest → IsFieldLines x n (fields names a all) ts rest

-- a block of fields behind more than n spaces, where there is one
abbrev pub FieldBlock : Origin → ℕ → Fields → List Token → List Token → Type 0
FieldBlock x n = Perhaps (deeper_at n) no_fields (λ all ts rest. IsFieldLines x (level_at ts) all ts rest)

-- the members of an enum: on its line, or in a block, where each stands behind a comma, on the same line, or first on a line
pub data IsMembers (x : Origin) (n : ℕ) : List Name → List Token → List Token → Type 0 where
  o_line : {all : List Name} {ts rest : List Token} → deeper_at n ts ≡ false → Names x (Lines n) all ts rest → IsMembers x n all ts rest
  o_block : {all : List Name} {ts rest : List Token} → deeper_at n ts ≡ true
      → Listed (IsName x Brackets) (more_members_at (level_at ts)) (past_comma (Lines (level_at ts))) (IsName x Brackets) all ts rest
      → IsMembers x n all ts rest

pub data IsBody (x : Origin) (n : ℕ) : Body → List Token → List Token → Type 0 where
  o_object : {parent : Option Name} {all : Fields} {tok : Token} {ts mid rest : List Token} → body_lead (Lines n) (tok ∷ ts) ≡ B.Object
      → Parent x (Lines n) parent ts mid → FieldBlock x n all mid rest → IsBody x n (object (place_at x tok) false parent all) (tok ∷ ts) rest
  o_ref_object : {parent : Option Name} {all : Fields} {tok : Token} {ts mid rest : List Token} → body_lead (Lines n) (tok ∷ ts) ≡ B.RefObject
      → Parent x (Lines n) parent (behind ts) mid → FieldBlock x n all mid rest → IsBody x n (object (place_at x tok) true parent all) (tok ∷ ts) rest
  o_enum : {all : List Name} {tok : Token} {ts rest : List Token} → body_lead (Lines n) (tok ∷ ts) ≡ B.Enum
      → IsMembers x n all ts rest → IsBody x n (enum (place_at x tok) all) (tok ∷ ts) rest
  o_distinct : {a : Written} {tok : Token} {ts rest : List Token} → body_lead (Lines n) (tok ∷ ts) ≡ B.Distinct → stays (Lines n) ts ≡ true
      → IsType x (Lines n) a ts rest → IsBody x n (distinct (place_at x tok) a) (tok ∷ ts) rest
  o_alias : {a : Written} {tok : Token} {ts rest : List Token} → body_lead (Lines n) (tok ∷ ts) ≡ B.Alias
      → IsType x (Lines n) a (tok ∷ ts) rest → IsBody x n (alias a) (tok ∷ ts) rest

-- a declaration whose name goes on in the layout first
pub record IsDeclaration (x : Origin) (first : Layout) (n : ℕ) (d : Declaration) (ts rest : List Token) : Type 0 where
  pub past_name : List Token
  pub past_parameters : List Token
  pub name : IsDeclared x (Lines n) (name_on first) d.name ts past_name
  pub parameters : Generics x (Lines n) d.parameters past_name past_parameters
  pub equals : equals_at (Lines n) past_parameters ≡ true
  pub stays : stays (Lines n) (behind past_parameters) ≡ true
  pub body : IsBody x n d.body (behind past_parameters) rest

-- what stands behind `type`: a block of declarations, each first on its line, or one on its line
pub data IsDeclarations (x : Origin) (n : ℕ) : List Declaration → List Token → List Token → Type 0 where
  o_declarations : {all : List Declaration} {ts rest : List Token} → deeper_at n ts ≡ true
      → Each (stands_at (level_at ts)) (λ ts. ts) (IsDeclaration x Brackets (level_at ts)) all ts rest → IsDeclarations x n all ts rest
  o_declaration : {d : Declaration} {ts rest : List Token} → deeper_at n ts ≡ false → IsDeclaration x (Lines n) n d ts rest
      → IsDeclarations x n (d ∷ []) ts rest

-- ---- heads of procedures

pub record IsParameter (x : Origin) (p : Parameters) (ts rest : List Token) : Type 0 where
  pub past_names : List Token
  pub names : Names x Brackets p.names ts past_names
  pub colon : colon_at Brackets past_names ≡ true
  pub mode : p.mode ≡ mode_at x (behind past_names)
  pub of : IsType x Brackets p.of (past_mode x (behind past_names)) rest

-- what stands behind `(`, up to the `)` and with it
pub data IsParameters (x : Origin) : List Parameters → List Token → List Token → Type 0 where
  h_none : {ts : List Token} → closes_at Round (behind ts) ≡ true → IsParameters x [] ts (behind (behind ts))
  h_some : {all : List Parameters} {ts rest : List Token} → closes_at Round (behind ts) ≡ false
      → Closed (closes_at Round) (Listed (IsParameter x) separator_at behind (IsParameter x)) all ts rest → IsParameters x all ts rest

-- parameters in parentheses, where there are any
abbrev pub ParameterList : Origin → Layout → List Parameters → List Token → List Token → Type 0
ParameterList x i = Perhaps (opens_at i Round) [] (IsParameters x)

-- what stands behind `proc`, up to its `=`
pub record IsHead (x : Origin) (i : Layout) (h : Head) (ts rest : List Token) : Type 0 where
  pub past_name : List Token
  pub past_generics : List Token
  pub past_params : List Token
  pub past_type : List Token
  pub name : IsDeclared x i (proc_name_on i) h.name ts past_name
  pub generics : Generics x i h.generics past_name past_generics
  pub params : ParameterList x i h.params past_generics past_params
  pub gives : Annotation x i h.gives past_params past_type
  pub pragmas : Pragmas x i h.pragmas past_type rest
