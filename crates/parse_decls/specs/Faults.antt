-- Where the text of a declaration can't go on.
--
-- It is read in the order of its tokens. The first that can't go on decides (`Why`): an expression or a written type opens a
-- level too many, which names the first token of the whole of it; or another token has to stand there, and where the language
-- leaves out what stands there, a keyword or a pragma, that is said. What was read before it is as the grammar says, and its
-- types and expressions have no level too many (`Short`).
use Rattle.std.specs.Prelude.{◌≡◌, ℕ, zero, suc, ◌≤◌, ◌<◌, Bool, true, false, List, [], ◌∷◌, Option, Some, None}
use Rattle.indent_scanner.specs.declared.token.Token.{Token}
use Rattle.nim_tree.specs.declared.name.Name.{Name}
use Rattle.nim_tree.specs.declared.name.Declared.{Declared}
use Rattle.nim_tree.specs.declared.name.Pragma.{Pragma}
use Rattle.nim_tree.specs.Lists.{highest, if_there}
use Rattle.nim_tree.specs.Terms.{Term, levels}
use Rattle.nim_tree.specs.Types.{Written, Arguments, Fields, Declaration, type_levels, most_type_levels, field_levels, declaration_levels}
use Rattle.nim_tree.specs.Statements.{Definition, Parameters, Head, definition_levels, parameter_type_levels, head_type_levels}
use Rattle.parse_exprs.specs.declared.layout.Layout.{Layout}
use Rattle.parse_exprs.specs.declared.layout.Layout.TheVariants.{Brackets, Lines}
use Rattle.parse_exprs.specs.declared.input.Bracket.TheVariants.{Round, Square}
use Rattle.parse_exprs.specs.Look.{Origin, spelling, closes_at, name_on, stays, colon_at, comma_at, kind_at}
use Rattle.parse_exprs.specs.Grammar.{IsExpr}
use Rattle.parse_exprs.specs.Faults as F
use Rattle.parse_decls.specs.declared.look.TypeLead.TheVariants as L
use Rattle.parse_decls.specs.declared.look.BodyLead.TheVariants as B
use Rattle.parse_decls.specs.Look.{behind, deeper_at, stands_at, level_at, proc_name_on, opens_at, equals_at, of_at, separator_at, is_pragma_close, pragmas_at}
use Rattle.parse_decls.specs.Look.{pragma_named, type_lead, type_at, past_mode, body_lead, more_members_at, past_comma}
use Rattle.parse_decls.specs.Outcome.{Why, too_deep, left_out, stuck_at}
use Rattle.parse_decls.specs.Run.{most_levels}
use Rattle.parse_decls.specs.Grammar.{Listed, Names, Declareds, IsName, IsDeclared, Generics, IsPragma, Pragmas, HoldsTypes, IsType, IsTypes, IsField, IsFields}
use Rattle.parse_decls.specs.Grammar.{IsTyped, Annotation, IsDefined, IsDefinitionBlock, Parent, IsDeclaration, IsDeclarations, IsParameter, ParameterList}
use Rattle.parse_decls.specs.Grammar.{IsHead}

-- this is read, and has at most n levels
pub record Short {A : Type 0} (n : ℕ) (levels : A → ℕ) (Reads : A → List Token → List Token → Type 0) (a : A) (ts rest : List Token) : Type 0 where
  pub reads : Reads a ts rest
  pub few : levels a ≤ n

-- ---- repetitions and optional parts

pub data FaultsEach {A : Type 0} (goes : List Token → Bool) (past : List Token → List Token) (Item : A → List Token → List Token → Type 0)
    (Fault : Why → List Token → Type 0) (why : Why) : List Token → Type 0 where
  f_here : {ts : List Token} → goes ts ≡ true → Fault why (past ts) → FaultsEach goes past Item Fault why ts
  f_later : {a : A} {ts mid : List Token} → goes ts ≡ true → Item a (past ts) mid → FaultsEach goes past Item Fault why mid
      → FaultsEach goes past Item Fault why ts

pub data FaultsListed {A : Type 0} (First : A → List Token → List Token → Type 0) (FirstFault : Why → List Token → Type 0)
    (goes : List Token → Bool) (past : List Token → List Token) (Item : A → List Token → List Token → Type 0) (Fault : Why → List Token → Type 0)
    (why : Why) : List Token → Type 0 where
  f_first : {ts : List Token} → FirstFault why ts → FaultsListed First FirstFault goes past Item Fault why ts
  f_next : {a : A} {ts mid : List Token} → First a ts mid → FaultsEach goes past Item Fault why mid → FaultsListed First FirstFault goes past Item Fault why ts

pub record FaultsPresent (goes : List Token → Bool) (Fault : Why → List Token → Type 0) (why : Why) (ts : List Token) : Type 0 where
  pub begins : goes ts ≡ true
  pub at : Fault why ts

pub data FaultsClosed {A : Type 0} (closes : List Token → Bool) (Item : A → List Token → List Token → Type 0) (Fault : Why → List Token → Type 0)
    (why : Why) : List Token → Type 0 where
  f_inside : {ts : List Token} → Fault why (behind ts) → FaultsClosed closes Item Fault why ts
  f_open : {a : A} {ts end : List Token} → Item a (behind ts) end → closes end ≡ false → why ≡ stuck_at end → FaultsClosed closes Item Fault why ts

-- ---- names

-- no name stands here
pub record FaultsName (name : List Token → Option Token) (why : Why) (ts : List Token) : Type 0 where
  pub missing : name ts ≡ None
  pub at : why ≡ stuck_at ts

abbrev pub FaultsNames : Origin → Layout → Why → List Token → Type 0
FaultsNames x i = FaultsListed (IsName x i) (FaultsName (name_on i)) (comma_at i) behind (IsName x Brackets) (FaultsName (name_on Brackets))

abbrev pub FaultsDeclareds : Origin → (first : Layout) → Layout → Why → List Token → Type 0
FaultsDeclareds x first i =
    FaultsListed (IsDeclared x i (name_on first)) (FaultsName (name_on first)) (comma_at i) behind (IsDeclared x i (name_on Brackets))
    (FaultsName (name_on Brackets))

abbrev pub FaultsGenerics : Origin → Layout → Why → List Token → Type 0
FaultsGenerics x i = FaultsPresent (opens_at i Square) (FaultsClosed (closes_at Square) (Names x Brackets) (FaultsNames x Brackets))

-- no name, or that of a pragma that the language leaves out
pub data FaultsPragma (x : Origin) (why : Why) : List Token → Type 0 where
  f_no_pragma : {ts : List Token} → name_on Brackets ts ≡ None → why ≡ stuck_at ts → FaultsPragma x why ts
  f_other_pragma : {tok : Token} {ts : List Token} → name_on Brackets ts ≡ Some tok → pragma_named (spelling x tok) ≡ None → why ≡ left_out ts
      → FaultsPragma x why ts

abbrev pub FaultsPragmas : Origin → Layout → Why → List Token → Type 0
FaultsPragmas x i = FaultsPresent (pragmas_at i) (FaultsClosed (kind_at is_pragma_close) (Listed (IsPragma x) (comma_at Brackets) behind (IsPragma x))
    (FaultsListed (IsPragma x) (FaultsPragma x) (comma_at Brackets) behind (IsPragma x) (FaultsPragma x)))

-- ---- expressions

-- of an expression in what begins at these tokens
abbrev pub of_fault : List Token → F.Fault → Why
of_fault whole F.too_deep = too_deep whole
of_fault whole (F.stuck_at rest) = stuck_at rest

-- an expression of at most n levels, in what begins at whole
pub record FaultsWithin (x : Origin) (i : Layout) (whole : List Token) (n : ℕ) (why : Why) (ts : List Token) : Type 0 where
  pub fault : F.Fault
  pub is : F.FaultsExpr x fault i n ts
  pub at : why ≡ of_fault whole fault

abbrev pub ShortExpr : Origin → Layout → ℕ → Term → List Token → List Token → Type 0
ShortExpr x i n = Short n levels (IsExpr x i)

-- a whole expression
abbrev pub FaultsTerm : Origin → Layout → Why → List Token → Type 0
FaultsTerm x i why ts = FaultsWithin x i ts most_levels why ts

abbrev pub ShortTerm : Origin → Layout → Term → List Token → List Token → Type 0
ShortTerm x i = ShortExpr x i most_levels

-- ---- written types

-- behind the bracket of an array, in what begins at whole, where n levels are left
pub data FaultsLength (x : Origin) (why : Why) (whole : List Token) (n : ℕ) (ts : List Token) : Type 0 where
  -- a length and a comma have to stand there, since no type begins
  f_no_length : type_at ts ≡ false → FaultsWithin x Brackets whole n why ts → FaultsLength x why whole n ts
  f_no_comma : {a : Term} {mid : List Token} → type_at ts ≡ false → ShortExpr x Brackets n a ts mid → comma_at Brackets mid ≡ false → why ≡ stuck_at mid
      → FaultsLength x why whole n ts
  -- a length opens a level too many
  f_opened : type_at ts ≡ true → F.FaultsExpr x F.too_deep Brackets most_levels ts → why ≡ too_deep whole → FaultsLength x why whole n ts
  f_high : {a : Term} {mid : List Token} → type_at ts ≡ true → ShortTerm x Brackets a ts mid → comma_at Brackets mid ≡ true → n < levels a
      → why ≡ too_deep whole → FaultsLength x why whole n ts

-- FaultsType x why i whole n ts: a part of the type that begins at whole, where n more levels are left
mutual
  pub data FaultsType (x : Origin) (why : Why) : Layout → List Token → ℕ → List Token → Type 0 where
    f_no_level : {i : Layout} {whole ts : List Token} → type_at ts ≡ true → why ≡ too_deep whole → FaultsType x why i whole zero ts
    f_no_type : {i : Layout} {whole : List Token} {n : ℕ} {ts : List Token} → type_at ts ≡ false → why ≡ stuck_at ts → FaultsType x why i whole n ts
    f_argument : {i : Layout} {whole : List Token} {n : ℕ} {tok : Token} {ts : List Token} → HoldsTypes x i tok ts
        → FaultsType x why Brackets whole n (behind ts) → FaultsType x why i whole (suc n) (tok ∷ ts)
    f_arguments : {i : Layout} {whole : List Token} {n : ℕ} {a : Written} {tok : Token} {ts mid : List Token} → HoldsTypes x i tok ts
        → Short n type_levels (IsType x Brackets) a (behind ts) mid → FaultsTypes x why whole n mid → FaultsType x why i whole (suc n) (tok ∷ ts)
    f_generic : {i : Layout} {whole : List Token} {n : ℕ} {a : Written} {all : Arguments} {tok : Token} {ts mid end : List Token} → HoldsTypes x i tok ts
        → Short n type_levels (IsType x Brackets) a (behind ts) mid → Short n most_type_levels (IsTypes x) all mid end
        → closes_at Square end ≡ false → why ≡ stuck_at end → FaultsType x why i whole (suc n) (tok ∷ ts)
    f_length : {i : Layout} {whole : List Token} {n : ℕ} {tok : Token} {ts : List Token} → type_lead x i tok ts ≡ L.Array
        → FaultsLength x why whole n (behind ts) → FaultsType x why i whole (suc n) (tok ∷ ts)
    f_element : {i : Layout} {whole : List Token} {n : ℕ} {length : Term} {tok : Token} {ts mid : List Token} → type_lead x i tok ts ≡ L.Array
        → ShortExpr x Brackets n length (behind ts) mid → comma_at Brackets mid ≡ true → FaultsType x why Brackets whole n (behind mid)
        → FaultsType x why i whole (suc n) (tok ∷ ts)
    f_array : {i : Layout} {whole : List Token} {n : ℕ} {length : Term} {a : Written} {tok : Token} {ts mid end : List Token} → type_lead x i tok ts ≡ L.Array
        → ShortExpr x Brackets n length (behind ts) mid → comma_at Brackets mid ≡ true → Short n type_levels (IsType x Brackets) a (behind mid) end
        → closes_at Square end ≡ false → why ≡ stuck_at end → FaultsType x why i whole (suc n) (tok ∷ ts)
    f_target_line : {i : Layout} {whole : List Token} {n : ℕ} {tok : Token} {ts : List Token} → type_lead x i tok ts ≡ L.Ref → stays i ts ≡ false
        → why ≡ stuck_at ts
        → FaultsType x why i whole (suc n) (tok ∷ ts)
    f_target : {i : Layout} {whole : List Token} {n : ℕ} {tok : Token} {ts : List Token} → type_lead x i tok ts ≡ L.Ref → stays i ts ≡ true
        → FaultsType x why i whole n ts
        → FaultsType x why i whole (suc n) (tok ∷ ts)
    f_no_bracket : {i : Layout} {whole : List Token} {n : ℕ} {tok : Token} {ts : List Token} → type_lead x i tok ts ≡ L.Tuple → opens_at i Square ts ≡ false
        → why ≡ stuck_at ts
        → FaultsType x why i whole (suc n) (tok ∷ ts)
    f_field : {i : Layout} {whole : List Token} {n : ℕ} {tok : Token} {ts : List Token} → type_lead x i tok ts ≡ L.Tuple → opens_at i Square ts ≡ true
        → closes_at Square (behind ts) ≡ false → FaultsField x why whole n (behind ts) → FaultsType x why i whole (suc n) (tok ∷ ts)
    f_fields : {i : Layout} {whole : List Token} {n : ℕ} {names : List Declared} {a : Written} {tok : Token} {ts mid : List Token}
        → type_lead x i tok ts ≡ L.Tuple → opens_at i Square ts ≡ true
        → closes_at Square (behind ts) ≡ false → Short n type_levels (IsField x names) a (behind ts) mid → FaultsFields x why whole n mid
        → FaultsType x why i whole (suc n) (tok ∷ ts)
    f_tuple : {i : Layout} {whole : List Token} {n : ℕ} {names : List Declared} {a : Written} {all : Fields} {tok : Token} {ts mid end : List Token}
        → type_lead x i tok ts ≡ L.Tuple
        → opens_at i Square ts ≡ true → closes_at Square (behind ts) ≡ false → Short n type_levels (IsField x names) a (behind ts) mid
        → Short n field_levels (IsFields x) all mid end → closes_at Square end ≡ false → why ≡ stuck_at end → FaultsType x why i whole (suc n) (tok ∷ ts)

  -- behind a type in brackets
  pub data FaultsTypes (x : Origin) (why : Why) : List Token → ℕ → List Token → Type 0 where
    f_next_type : {whole : List Token} {n : ℕ} {ts : List Token} → comma_at Brackets ts ≡ true → FaultsType x why Brackets whole n (behind ts)
        → FaultsTypes x why whole n ts
    f_later_type : {whole : List Token} {n : ℕ} {a : Written} {ts mid : List Token} → comma_at Brackets ts ≡ true
        → Short n type_levels (IsType x Brackets) a (behind ts) mid → FaultsTypes x why whole n mid → FaultsTypes x why whole n ts

  -- a field of a tuple
  pub data FaultsField (x : Origin) (why : Why) : List Token → ℕ → List Token → Type 0 where
    f_field_names : {whole : List Token} {n : ℕ} {ts : List Token} → FaultsDeclareds x Brackets Brackets why ts → FaultsField x why whole n ts
    f_field_colon : {whole : List Token} {n : ℕ} {names : List Declared} {ts mid : List Token} → Declareds x Brackets Brackets names ts mid
        → colon_at Brackets mid ≡ false → why ≡ stuck_at mid
        → FaultsField x why whole n ts
    f_field_type : {whole : List Token} {n : ℕ} {names : List Declared} {ts mid : List Token} → Declareds x Brackets Brackets names ts mid
        → colon_at Brackets mid ≡ true
        → FaultsType x why Brackets whole n (behind mid) → FaultsField x why whole n ts

  -- behind a field of a tuple
  pub data FaultsFields (x : Origin) (why : Why) : List Token → ℕ → List Token → Type 0 where
    f_next_field : {whole : List Token} {n : ℕ} {ts : List Token} → comma_at Brackets ts ≡ true → FaultsField x why whole n (behind ts)
        → FaultsFields x why whole n ts
    f_later_field : {whole : List Token} {n : ℕ} {names : List Declared} {a : Written} {ts mid : List Token} → comma_at Brackets ts ≡ true
        → Short n type_levels (IsField x names) a (behind ts) mid → FaultsFields x why whole n mid → FaultsFields x why whole n ts

-- a whole type
abbrev pub FaultsWritten : Origin → Layout → Why → List Token → Type 0
FaultsWritten x i why ts = FaultsType x why i ts most_levels ts

-- a colon, and a type on its line
pub data FaultsTyped (x : Origin) (i : Layout) (why : Why) : List Token → Type 0 where
  f_no_colon : {ts : List Token} → colon_at i ts ≡ false → why ≡ stuck_at ts → FaultsTyped x i why ts
  f_type_line : {ts : List Token} → colon_at i ts ≡ true → stays i (behind ts) ≡ false → why ≡ stuck_at (behind ts) → FaultsTyped x i why ts
  f_type : {ts : List Token} → colon_at i ts ≡ true → stays i (behind ts) ≡ true → FaultsWritten x i why (behind ts) → FaultsTyped x i why ts

abbrev pub FaultsAnnotation : Origin → Layout → Why → List Token → Type 0
FaultsAnnotation x i = FaultsPresent (colon_at i) (FaultsTyped x i)

-- ---- definitions

-- `=`, and a value on its line
pub data FaultsValue (x : Origin) (i : Layout) (why : Why) : List Token → Type 0 where
  f_value_line : {ts : List Token} → stays i (behind ts) ≡ false → why ≡ stuck_at (behind ts) → FaultsValue x i why ts
  f_value : {ts : List Token} → stays i (behind ts) ≡ true → FaultsTerm x i why (behind ts) → FaultsValue x i why ts

abbrev pub ShortAnnotation : Origin → Layout → Option Written → List Token → List Token → Type 0
ShortAnnotation x i = Short most_levels (if_there type_levels) (Annotation x i)

-- its first name goes on in the layout first
pub data FaultsDefined (x : Origin) (first i : Layout) (why : Why) : List Token → Type 0 where
  f_def_names : {ts : List Token} → FaultsDeclareds x first i why ts → FaultsDefined x first i why ts
  f_def_pragmas : {names : List Declared} {ts a : List Token} → Declareds x first i names ts a → FaultsPragmas x i why a → FaultsDefined x first i why ts
  f_def_type : {names : List Declared} {pragmas : List Pragma} {ts a b : List Token} → Declareds x first i names ts a → Pragmas x i pragmas a b
      → FaultsAnnotation x i why b → FaultsDefined x first i why ts
  f_def_value : {names : List Declared} {pragmas : List Pragma} {annotation : Option Written} {ts a b c : List Token} → Declareds x first i names ts a
      → Pragmas x i pragmas a b
      → ShortAnnotation x i annotation b c → FaultsPresent (equals_at i) (FaultsValue x i) why c → FaultsDefined x first i why ts

abbrev pub FaultsDefinition : Origin → Layout → Why → List Token → Type 0
FaultsDefinition x i = FaultsDefined x i i

abbrev pub ShortDefined : Origin → (first : Layout) → Layout → Definition → List Token → List Token → Type 0
ShortDefined x first i = Short most_levels definition_levels (IsDefined x first i)

abbrev pub ShortDefinition : Origin → Layout → Definition → List Token → List Token → Type 0
ShortDefinition x i = ShortDefined x i i

abbrev pub FaultsDefinitions : Origin → ℕ → Why → List Token → Type 0
FaultsDefinitions x n = FaultsEach (stands_at n) (λ ts. ts) (ShortDefined x Brackets (Lines n)) (FaultsDefined x Brackets (Lines n))

pub data FaultsDefinitionBlock (x : Origin) (n : ℕ) (why : Why) : List Token → Type 0 where
  f_no_block : {ts : List Token} → deeper_at n ts ≡ false → why ≡ stuck_at ts → FaultsDefinitionBlock x n why ts
  f_block : {ts : List Token} → deeper_at n ts ≡ true → FaultsDefinitions x (level_at ts) why ts → FaultsDefinitionBlock x n why ts

-- ---- declarations of types

abbrev pub FaultsParent : Origin → Layout → Why → List Token → Type 0
FaultsParent x i = FaultsPresent (of_at i) (λ why ts. FaultsName (name_on i) why (behind ts))

pub data FaultsFieldLines (x : Origin) (n : ℕ) (why : Why) : List Token → Type 0 where
  f_line_names : {ts : List Token} → stands_at n ts ≡ true → FaultsDeclareds x Brackets (Lines n) why ts → FaultsFieldLines x n why ts
  f_line_type : {names : List Declared} {ts mid : List Token} → stands_at n ts ≡ true → Declareds x Brackets (Lines n) names ts mid
      → FaultsTyped x (Lines n) why mid → FaultsFieldLines x n why ts
  f_later_line : {names : List Declared} {a : Written} {ts mid end : List Token} → stands_at n ts ≡ true → Declareds x Brackets (Lines n) names ts mid
      → Short most_levels type_levels (IsTyped x (Lines n)) a mid end → FaultsFieldLines x n why end → FaultsFieldLines x n why ts

abbrev pub FaultsFieldBlock : Origin → ℕ → Why → List Token → Type 0
FaultsFieldBlock x n = FaultsPresent (deeper_at n) (λ why ts. FaultsFieldLines x (level_at ts) why ts)

pub data FaultsMembers (x : Origin) (n : ℕ) (why : Why) : List Token → Type 0 where
  f_members_line : {ts : List Token} → deeper_at n ts ≡ false → FaultsNames x (Lines n) why ts → FaultsMembers x n why ts
  f_members_block : {ts : List Token} → deeper_at n ts ≡ true
      → FaultsListed (IsName x Brackets) (FaultsName (name_on Brackets)) (more_members_at (level_at ts)) (past_comma (Lines (level_at ts))) (IsName x Brackets)
      (FaultsName (name_on Brackets)) why ts
      → FaultsMembers x n why ts

pub data FaultsBody (x : Origin) (n : ℕ) (why : Why) : List Token → Type 0 where
  f_no_body : why ≡ stuck_at [] → FaultsBody x n why []
  f_parent : {tok : Token} {ts : List Token} → body_lead (Lines n) (tok ∷ ts) ≡ B.Object → FaultsParent x (Lines n) why ts → FaultsBody x n why (tok ∷ ts)
  f_object : {parent : Option Name} {tok : Token} {ts mid : List Token} → body_lead (Lines n) (tok ∷ ts) ≡ B.Object → Parent x (Lines n) parent ts mid
      → FaultsFieldBlock x n why mid → FaultsBody x n why (tok ∷ ts)
  f_ref_parent : {tok : Token} {ts : List Token} → body_lead (Lines n) (tok ∷ ts) ≡ B.RefObject → FaultsParent x (Lines n) why (behind ts)
      → FaultsBody x n why (tok ∷ ts)
  f_ref_object : {parent : Option Name} {tok : Token} {ts mid : List Token} → body_lead (Lines n) (tok ∷ ts) ≡ B.RefObject
      → Parent x (Lines n) parent (behind ts) mid
      → FaultsFieldBlock x n why mid → FaultsBody x n why (tok ∷ ts)
  f_enum : {tok : Token} {ts : List Token} → body_lead (Lines n) (tok ∷ ts) ≡ B.Enum → FaultsMembers x n why ts → FaultsBody x n why (tok ∷ ts)
  f_base_line : {tok : Token} {ts : List Token} → body_lead (Lines n) (tok ∷ ts) ≡ B.Distinct → stays (Lines n) ts ≡ false → why ≡ stuck_at ts
      → FaultsBody x n why (tok ∷ ts)
  f_base : {tok : Token} {ts : List Token} → body_lead (Lines n) (tok ∷ ts) ≡ B.Distinct → stays (Lines n) ts ≡ true → FaultsWritten x (Lines n) why ts
      → FaultsBody x n why (tok ∷ ts)
  f_alias : {tok : Token} {ts : List Token} → body_lead (Lines n) (tok ∷ ts) ≡ B.Alias → FaultsWritten x (Lines n) why (tok ∷ ts)
      → FaultsBody x n why (tok ∷ ts)

-- its name goes on in the layout first
pub data FaultsDeclaration (x : Origin) (first : Layout) (n : ℕ) (why : Why) : List Token → Type 0 where
  f_type_name : {ts : List Token} → FaultsName (name_on first) why ts → FaultsDeclaration x first n why ts
  f_parameters : {name : Declared} {ts a : List Token} → IsDeclared x (Lines n) (name_on first) name ts a → FaultsGenerics x (Lines n) why a
      → FaultsDeclaration x first n why ts
  f_no_equals : {name : Declared} {parameters : List Name} {ts a b : List Token} → IsDeclared x (Lines n) (name_on first) name ts a
      → Generics x (Lines n) parameters a b
      → equals_at (Lines n) b ≡ false → why ≡ stuck_at b → FaultsDeclaration x first n why ts
  f_body_line : {name : Declared} {parameters : List Name} {ts a b : List Token} → IsDeclared x (Lines n) (name_on first) name ts a
      → Generics x (Lines n) parameters a b
      → equals_at (Lines n) b ≡ true → stays (Lines n) (behind b) ≡ false → why ≡ stuck_at (behind b) → FaultsDeclaration x first n why ts
  f_body : {name : Declared} {parameters : List Name} {ts a b : List Token} → IsDeclared x (Lines n) (name_on first) name ts a
      → Generics x (Lines n) parameters a b
      → equals_at (Lines n) b ≡ true → stays (Lines n) (behind b) ≡ true → FaultsBody x n why (behind b) → FaultsDeclaration x first n why ts

abbrev pub ShortDeclaration : Origin → (first : Layout) → ℕ → Declaration → List Token → List Token → Type 0
ShortDeclaration x first n = Short most_levels declaration_levels (IsDeclaration x first n)

-- behind `type`
pub data FaultsDeclarations (x : Origin) (n : ℕ) (why : Why) : List Token → Type 0 where
  f_declarations : {ts : List Token} → deeper_at n ts ≡ true
      → FaultsEach (stands_at (level_at ts)) (λ ts. ts) (ShortDeclaration x Brackets (level_at ts)) (FaultsDeclaration x Brackets (level_at ts)) why ts
      → FaultsDeclarations x n why ts
  f_declaration : {ts : List Token} → deeper_at n ts ≡ false → FaultsDeclaration x (Lines n) n why ts → FaultsDeclarations x n why ts

-- ---- heads of procedures

pub data FaultsParameter (x : Origin) (why : Why) : List Token → Type 0 where
  f_param_names : {ts : List Token} → FaultsNames x Brackets why ts → FaultsParameter x why ts
  f_param_colon : {names : List Name} {ts mid : List Token} → Names x Brackets names ts mid → colon_at Brackets mid ≡ false → why ≡ stuck_at mid
      → FaultsParameter x why ts
  f_param_type : {names : List Name} {ts mid : List Token} → Names x Brackets names ts mid → colon_at Brackets mid ≡ true
      → FaultsWritten x Brackets why (past_mode x (behind mid)) → FaultsParameter x why ts

abbrev pub ShortParameter : Origin → Parameters → List Token → List Token → Type 0
ShortParameter x = Short most_levels parameter_type_levels (IsParameter x)

-- what stands behind `(`
pub record FaultsParameters (x : Origin) (why : Why) (ts : List Token) : Type 0 where
  pub some : closes_at Round (behind ts) ≡ false
  pub at : FaultsClosed (closes_at Round) (Listed (ShortParameter x) separator_at behind (ShortParameter x))
      (FaultsListed (ShortParameter x) (FaultsParameter x) separator_at behind (ShortParameter x) (FaultsParameter x)) why ts

abbrev pub FaultsParameterList : Origin → Layout → Why → List Token → Type 0
FaultsParameterList x i = FaultsPresent (opens_at i Round) (FaultsParameters x)

abbrev pub ShortParameterList : Origin → Layout → List Parameters → List Token → List Token → Type 0
ShortParameterList x i = Short most_levels (highest parameter_type_levels) (ParameterList x i)

pub data FaultsHead (x : Origin) (i : Layout) (why : Why) : List Token → Type 0 where
  f_head_name : {ts : List Token} → FaultsName (proc_name_on i) why ts → FaultsHead x i why ts
  f_head_generics : {name : Declared} {ts a : List Token} → IsDeclared x i (proc_name_on i) name ts a → FaultsGenerics x i why a → FaultsHead x i why ts
  f_head_params : {name : Declared} {generics : List Name} {ts a b : List Token} → IsDeclared x i (proc_name_on i) name ts a → Generics x i generics a b
      → FaultsParameterList x i why b → FaultsHead x i why ts
  f_head_type : {name : Declared} {generics : List Name} {params : List Parameters} {ts a b c : List Token} → IsDeclared x i (proc_name_on i) name ts a
      → Generics x i generics a b
      → ShortParameterList x i params b c → FaultsAnnotation x i why c → FaultsHead x i why ts
  f_head_pragmas : {name : Declared} {generics : List Name} {params : List Parameters} {gives : Option Written} {ts a b c d : List Token}
      → IsDeclared x i (proc_name_on i) name ts a
      → Generics x i generics a b → ShortParameterList x i params b c → ShortAnnotation x i gives c d → FaultsPragmas x i why d → FaultsHead x i why ts

-- ---- what is read whole, with few levels

abbrev pub ShortDefinitionBlock : Origin → ℕ → List Definition → List Token → List Token → Type 0
ShortDefinitionBlock x n = Short most_levels (highest definition_levels) (IsDefinitionBlock x n)

abbrev pub ShortDeclarations : Origin → ℕ → List Declaration → List Token → List Token → Type 0
ShortDeclarations x n = Short most_levels (highest declaration_levels) (IsDeclarations x n)

abbrev pub ShortHead : Origin → Layout → Head → List Token → List Token → Type 0
ShortHead x i = Short most_levels head_type_levels (IsHead x i)
