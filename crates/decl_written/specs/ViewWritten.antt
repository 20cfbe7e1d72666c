-- What the code's values stand for where types are written. Contracts of the pass alone speak of it.
use Rattle.std.specs.Prelude.{◌≡◌, ℕ, List, [], ◌++◌, map, Ok}
use Rattle.std.specs.HashSet.{HashSet, contains}
use Rattle.indent_scanner.specs.Words.{normal}
use Rattle.arc_base.specs.Refusal.{and_then}
use Rattle.nim_tree.specs.declared.name.Declared.{Declared}
use Rattle.nim_tree.specs.declared.types.Field.{Field}
use Rattle.nim_tree.specs.Types.{Fields, fields, written_of}
use Rattle.nim_types.specs.declared.types.TypeDef.{TypeDef}
use Rattle.nim_types.specs.Types as type
use Rattle.nim_types.specs.Types.{Ty, Tys, Facts, same_text}
use Rattle.nim_types.specs.Table.{type_at, types_at}
use Rattle.expr_parts.specs.declared.scope.Scope.{Scope}
use Rattle.expr_rules.specs.Answers.{Answer}
use Rattle.expr_rules.specs.Constructions.{is_among}
use Rattle.expr_parts.specs.View.{Under, env_of}
use Rattle.decl_written.specs.declared.parts.Parts.{Parts}
use Rattle.decl_rules.specs.Written.{Spelled, spelled_as, at_once, field_names_rule, Part, Parted, names_of, types_of, parts_spelled}
use Rattle.expr_parts.specs.View.{valued_of}
use Rattle.decl_rules.specs.Values.{Value, as_value}
use Rattle.decl_written.specs.declared.values.Numbered.{Numbered}

-- a type whose size has been looked at
abbrev pub at_once_of : List Ty → ℕ → Spelled
at_once_of ts id = spelled_as (type_at ts id) []

-- the set has these names
abbrev pub HasNames : {S : Type 0} → HashSet (List ℕ) S → List (List ℕ) → Type 0
HasNames set names = (x : List ℕ) → contains same_text set x ≡ is_among x names

-- those behind further ones
abbrev pub HasNamesBehind : {S : Type 0} → HashSet (List ℕ) S → List (List ℕ) → List Declared → Type 0
HasNamesBehind set before all = (after : List (List ℕ)) × (field_names_rule before all ≡ Ok after) × HasNames set after

abbrev pub normal_names : List Declared → List (List ℕ)
normal_names all = map (λ d. normal d.text) all

abbrev pub tuple_in : List Ty → Parts → Ty
tuple_in ts p = type.tuple p.names (types_at ts p.types)

-- ---- parts so far

abbrev pub onto : Tys → Tys → Tys
onto type.no_types rest = rest
onto (type.types t ts) rest = type.types t (onto ts rest)

-- the type of a tuple with these parts before others
abbrev pub tuple_before : List (List ℕ) → Tys → List Part → Ty
tuple_before names ts all = type.tuple (names ++ names_of all) (onto ts (types_of all))

-- what is said of a tuple whose first parts these are
abbrev pub PartsLeft : List (List ℕ) → Tys → Answer Parted → Answer Ty
PartsLeft names ts rest = and_then rest (λ all. Ok (tuple_before names ts all.parts))

-- a group of fields before others
abbrev pub with_field : Field → Fields → Fields
with_field f rest = fields f.names.items (written_of f.of) rest

-- With a group of fields done, what is said of the rest is what was said of both.
abbrev pub GoesOn : {S : Type 0} → List TypeDef → Scope → List (List ℕ) → Field → Parts → HashSet (List ℕ) S → Parts → Type 0
GoesOn ds scope before f old seen new =
    (after : List (List ℕ)) × HasNames seen after × ((ts : List Ty) (facts : Facts) → Under ds ts facts → (rest : Fields)
    → PartsLeft old.names (types_at ts old.types) (parts_spelled at_once (env_of ts facts scope) before (with_field f rest))
    ≡ PartsLeft new.names (types_at ts new.types) (parts_spelled at_once (env_of ts facts scope) after rest))

-- ---- values

abbrev pub numbered_of : List Ty → Numbered → Value
numbered_of ts v = as_value (valued_of ts v.value) v.next
