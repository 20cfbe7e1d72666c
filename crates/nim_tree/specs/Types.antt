-- Written types and declarations of types, without where they lie in memory.
use Rattle.std.specs.Prelude.{ℕ, suc, ◌+◌, max, Bool, List, [], ◌∷◌, length, Option}
use Rattle.arc_base.specs.declared.place.Place.{Place}
use Rattle.nim_tree.specs.declared.name.Name.{Name}
use Rattle.nim_tree.specs.declared.name.Declared.{Declared}
use Rattle.nim_tree.specs.declared.types.Field.{Field}
use Rattle.nim_tree.specs.declared.types.TypeTree.{TypeTree}
use Rattle.nim_tree.specs.declared.types.TypeTree.TheBlock.{Row_of-TypeTree, end_of-TypeTree, more_of-TypeTree, Row_of-Field, end_of-Field, more_of-Field}
use Rattle.nim_tree.specs.declared.types.TypeTree.TheVariants as T
use Rattle.nim_tree.specs.declared.types.TypeBody.{TypeBody}
use Rattle.nim_tree.specs.declared.types.TypeBody.TheVariants as B
use Rattle.nim_tree.specs.declared.types.TypeDef.{TypeDef}
use Rattle.nim_tree.specs.Lists.{if_there, one}
use Rattle.nim_tree.specs.Terms.{Term, term_of, levels, nodes}

mutual
  -- a written type, with the place of its first token
  pub data Written : Type 0 where
    named : Place → List ℕ → Arguments → Written
    array : Place → (length : Term) → (element : Written) → Written
    ref_to : Place → Written → Written
    tuple_of : Place → Fields → Written

  pub data Arguments : Type 0 where
    no_arguments : Arguments
    argument : (first : Written) → (rest : Arguments) → Arguments

  -- the fields of a tuple or an object: names of one type, and more
  pub data Fields : Type 0 where
    no_fields : Fields
    fields : (names : List Declared) → (of : Written) → (rest : Fields) → Fields

-- what a declared type is
pub data Body : Type 0 where
  object : Place → (is_ref : Bool) → (parent : Option Name) → Fields → Body
  enum : Place → (members : List Name) → Body
  distinct : Place → Written → Body
  alias : Written → Body

-- the declaration of a type
pub record Declaration : Type 0 where
  pub name : Declared
  pub parameters : List Name
  pub body : Body

-- with one more argument behind
abbrev pub and_argument : Arguments → Written → Arguments
and_argument no_arguments a = argument a no_arguments
and_argument (argument first rest) a = argument first (and_argument rest a)

-- with one more field behind
abbrev pub and_field : Fields → List Declared → Written → Fields
and_field no_fields names of = fields names of no_fields
and_field (fields first a rest) names of = fields first a (and_field rest names of)

-- the arguments behind a name
abbrev pub arguments_in : Written → Arguments
arguments_in (named at text arguments) = arguments
arguments_in _ = no_arguments

-- the fields of a tuple
abbrev pub fields_in : Written → Fields
fields_in (tuple_of at inside) = inside
fields_in _ = no_fields

-- ---- how deep they are

abbrev mutual
  -- a name without arguments has one level, any other type one more than the highest of its arguments, length, element, target
  -- or fields
  pub type_levels : Written → ℕ
  type_levels (named at text arguments) = suc (most_type_levels arguments)
  type_levels (array at length element) = suc (max (levels length) (type_levels element))
  type_levels (ref_to at target) = suc (type_levels target)
  type_levels (tuple_of at inside) = suc (field_levels inside)

  -- those of the highest argument
  pub most_type_levels : Arguments → ℕ
  most_type_levels no_arguments = 0
  most_type_levels (argument first rest) = max (type_levels first) (most_type_levels rest)

  -- those of the highest type of a field
  pub field_levels : Fields → ℕ
  field_levels no_fields = 0
  field_levels (fields names of rest) = max (type_levels of) (field_levels rest)

-- those of the highest written type: of the fields of an object, the base of a distinct type, an alias
abbrev pub body_levels : Body → ℕ
body_levels (object at is_ref parent inside) = field_levels inside
body_levels (enum at members) = 0
body_levels (distinct at base) = type_levels base
body_levels (alias of) = type_levels of

abbrev pub declaration_levels : Declaration → ℕ
declaration_levels d = body_levels d.body

-- ---- how large they are

abbrev mutual
  -- what has a place of its own: itself, its parts, and each name of a field
  pub type_nodes : Written → ℕ
  type_nodes (named at text arguments) = suc (argument_nodes arguments)
  type_nodes (array at length element) = suc (nodes length + type_nodes element)
  type_nodes (ref_to at target) = suc (type_nodes target)
  type_nodes (tuple_of at inside) = suc (field_nodes inside)

  pub argument_nodes : Arguments → ℕ
  argument_nodes no_arguments = 0
  argument_nodes (argument first rest) = type_nodes first + argument_nodes rest

  pub field_nodes : Fields → ℕ
  field_nodes no_fields = 0
  field_nodes (fields names of rest) = length names + type_nodes of + field_nodes rest

-- `object`, `enum` or `distinct` itself, the parent, and each member; an alias is the type that it names
abbrev pub body_nodes : Body → ℕ
body_nodes (object at is_ref parent inside) = suc (if_there one parent + field_nodes inside)
body_nodes (enum at members) = suc (length members)
body_nodes (distinct at base) = suc (type_nodes base)
body_nodes (alias of) = type_nodes of

-- its name and each type parameter too
abbrev pub declaration_nodes : Declaration → ℕ
declaration_nodes d = suc (length d.parameters + body_nodes d.body)

-- ---- the trees of the parser

abbrev mutual
  -- the type without where it lies in memory
  pub written_of : TypeTree → Written
  written_of (T.Named' at text p arguments) = named at text (argument_row arguments)
  written_of (T.Array' at length p element) = array at (term_of length) (written_of element)
  written_of (T.Ref' at p target) = ref_to at (written_of target)
  written_of (T.Tuple' at p inside) = tuple_of at (field_row inside)

  -- the arguments, as a `TypeTree` of the code holds them
  pub argument_row : {m : _} → Row_of-TypeTree m → Arguments
  argument_row end_of-TypeTree = no_arguments
  argument_row (more_of-TypeTree first row) = argument (written_of first) (argument_row row)

  -- the fields, as a `TypeTree` of the code holds them
  pub field_row : {m : _} → Row_of-Field m → Fields
  field_row end_of-Field = no_fields
  field_row (more_of-Field names of row) = fields names.items (written_of of) (field_row row)

-- of a list of types
abbrev pub arguments_of : List TypeTree → Arguments
arguments_of [] = no_arguments
arguments_of (first ∷ rest) = argument (written_of first) (arguments_of rest)

-- of a list of fields
abbrev pub fields_of : List Field → Fields
fields_of [] = no_fields
fields_of (first ∷ rest) = fields first.names.items (written_of first.of) (fields_of rest)

abbrev pub body_of : TypeBody → Body
body_of (B.Object at is_ref parent inside) = object at is_ref parent (fields_of inside.items)
body_of (B.Enum at members) = enum at members.items
body_of (B.Distinct at base) = distinct at (written_of base)
body_of (B.Alias of) = alias (written_of of)

abbrev pub declaration_of : TypeDef → Declaration
declaration_of d = record { name = d.name; parameters = d.parameters.items; body = body_of d.body }
