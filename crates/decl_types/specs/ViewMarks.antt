-- Which marked definitions are named in others, by number. Contracts of the pass alone speak of it.
use Rattle.std.specs.Prelude.{◌≡◌, ◌<◌, ℕ, suc, Bool, true, false, not, ◌||◌, if◌then◌else◌, List, [], ◌∷◌, ◌++◌, Option, Some, None}
use Rattle.std.specs.Prelude.{slice_get, unwrap_or, length}
use Rattle.nim_types.specs.Types.{Ty, Key}
use Rattle.nim_types.specs.Table.{type_at}
use Rattle.decl_rules.specs.Meanings.{occurs, renamed}
use Rattle.decl_types.specs.declared.nodes.Node.{Node}
use Rattle.decl_types.specs.declared.nodes.Node.TheVariants as N
use Rattle.decl_types.specs.declared.known.Meaning.{Meaning}
use Rattle.decl_types.specs.declared.known.Meaning.TheVariants as M
use Rattle.decl_types.specs.declared.known.Definition.{Definition}
use Rattle.decl_types.specs.ViewNodes.{key_at}

abbrev pub is_unknown : Option ℕ → Bool
is_unknown None = true
is_unknown (Some id) = false

-- those beyond the marks aren't marked
abbrev pub mark_at : List Bool → ℕ → Bool
mark_at marks i = unwrap_or (slice_get marks i) false

abbrev pub any_at : List Bool → List ℕ → Bool
any_at marks [] = false
any_at marks (i ∷ is) = mark_at marks i || any_at marks is

-- whether a marked definition is named in a node, by the nodes before it
abbrev pub node_mark : List Bool → List Bool → Node → Bool
node_mark marks before (N.Known id) = false
node_mark marks before (N.Named k) = mark_at marks k
node_mark marks before (N.Sequence i) = mark_at before i
node_mark marks before (N.Array at len i) = mark_at before i
node_mark marks before (N.Tuple at names is) = any_at before is

abbrev pub marks_onto : List Bool → List Bool → List Node → List Bool
marks_onto marks before [] = before
marks_onto marks before (node ∷ rest) = marks_onto marks (before ++ node_mark marks before node ∷ []) rest

abbrev pub node_marks : List Bool → List Node → List Bool
node_marks marks nodes = marks_onto marks [] nodes

abbrev pub meaning_mark : List Bool → Meaning → Bool
meaning_mark before (M.Object names is) = any_at before is
meaning_mark before (M.Enum members) = false
meaning_mark before (M.Distinct i) = mark_at before i
meaning_mark before (M.Alias i) = mark_at before i

abbrev pub definition_mark : List Bool → Definition → Bool
definition_mark marks d = meaning_mark (node_marks marks d.nodes.items) d.meaning

abbrev pub is_next : List Bool → ℕ → Definition → Bool
is_next marks i d = if mark_at marks i then not (definition_mark marks d) else false

-- the first definition from a number on that is marked and names no marked ones
abbrev pub next_from : List Bool → ℕ → List Definition → Option ℕ
next_from marks i [] = None
next_from marks i (d ∷ rest) = if is_next marks i d then Some i else next_from marks (suc i) rest

-- each that is marked names a marked one
abbrev pub Stuck : List Bool → List Definition → Type 0
Stuck marks read = (i : ℕ) (d : Definition) → slice_get read i ≡ Some d → is_next marks i d ≡ false

abbrev pub is_enum : Meaning → Bool
is_enum (M.Enum members) = true
is_enum _ = false

-- those are marked that are meant
abbrev pub Marks : List Key → List Bool → (is_meant : Key → Bool) → Type 0
Marks keys marks is_meant = (k : ℕ) → mark_at marks k ≡ is_meant (key_at keys k)

-- none is marked
abbrev pub Unmarked : List Bool → Type 0
Unmarked marks = (i : ℕ) → mark_at marks i ≡ false

-- those types are renamed ones whose numbers aren't marked
abbrev pub RenamedWhere : List Bool → List Ty → (by : Key → Ty) → List Ty → Type 0
RenamedWhere marks ts by done = (i : ℕ) → i < length ts → mark_at marks i ≡ false → type_at ts i ≡ renamed by (type_at done i)

-- in the first so many types none occurs that is meant
abbrev pub Apart : List Ty → ℕ → (is_meant : Key → Bool) → Type 0
Apart ts n is_meant = (id : ℕ) → id < n → occurs is_meant (type_at ts id) ≡ false
