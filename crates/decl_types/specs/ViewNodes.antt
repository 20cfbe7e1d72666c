-- What the types that are written in a section stand for, by the types before them. Contracts of the pass alone speak of it.
use Rattle.std.specs.Prelude.{ℕ, zero, suc, ◌-◌, nat_lt, if◌then◌else◌, List, [], ◌∷◌, ◌++◌}
use Rattle.std.specs.Prelude.{slice_get}
use Rattle.std.specs.Prelude.{Option, Some, None}
use Rattle.nim_types.specs.Types as type
use Rattle.nim_types.specs.Types.{Ty, Key, Facts}
use Rattle.nim_types.specs.Table.{type_at, types_at}
use Rattle.expr_rules.specs.Env.{Env, Entry, named}
use Rattle.expr_parts.specs.declared.scope.Decl.{Decl}
use Rattle.expr_parts.specs.declared.scope.Scope.{Scope}
use Rattle.expr_parts.specs.View.{entry_of}
use Rattle.decl_rules.specs.Written.{Formed, later}
use Rattle.decl_types.specs.declared.nodes.Node.{Node}
use Rattle.decl_types.specs.declared.nodes.Node.TheVariants as N
use Rattle.decl_types.specs.declared.nodes.Names.{Names}

-- ---- names

abbrev pub no_key : Key
no_key = record { name = []; at = record { «module» = 0; line = 0; column = 0 } }

-- the key of the definition with a number
abbrev pub key_at : List Key → ℕ → Key
key_at [] k = no_key
key_at (key ∷ keys) zero = key
key_at (key ∷ keys) (suc k) = key_at keys k

-- the definition of the section whose declaration has a number
abbrev pub number_in : Names → Option ℕ → Option ℕ
number_in names None = None
number_in names (Some n) = if nat_lt n names.start then None else slice_get names.numbers.items (n - names.start)

-- a declaration, where types of the section are names
abbrev pub seen_entry : List Ty → List Key → Option ℕ → Decl → Entry
seen_entry ts keys None d = entry_of ts d
seen_entry ts keys (Some k) d = named d.name (type.distinct (key_at keys k))

-- those from a number on
abbrev pub seen_entries : List Ty → List Key → Names → ℕ → List Decl → List Entry
seen_entries ts keys names i [] = []
seen_entries ts keys names i (d ∷ ds) = seen_entry ts keys (number_in names (Some i)) d ∷ seen_entries ts keys names (suc i) ds

-- in types, where the types of the section are names
abbrev pub names_env_of : List Ty → Facts → List Key → Names → Scope → Env
names_env_of ts facts keys names scope =
    record { entries = seen_entries ts keys names 0 scope.decls; facts = facts; home = scope.home }

-- ---- types

-- by the types before it
abbrev pub node_type : List Ty → List Key → List Ty → Node → Ty
node_type ts keys done (N.Known id) = type_at ts id
node_type ts keys done (N.Named k) = type.distinct (key_at keys k)
node_type ts keys done (N.Sequence i) = type.sequence (type_at done i)
node_type ts keys done (N.Array at len i) = type.array len (type_at done i)
node_type ts keys done (N.Tuple at names is) = type.tuple names (types_at done is)

abbrev pub nodes_onto : List Ty → List Key → List Ty → List Node → List Ty
nodes_onto ts keys done [] = done
nodes_onto ts keys done (node ∷ rest) = nodes_onto ts keys (done ++ node_type ts keys done node ∷ []) rest

abbrev pub node_types : List Ty → List Key → List Node → List Ty
node_types ts keys nodes = nodes_onto ts keys [] nodes

-- of an array or a tuple, what is looked at later
abbrev pub node_formed : Node → Ty → List Formed
node_formed (N.Array at len i) ty = record { at = at; of = ty } ∷ []
node_formed (N.Tuple at names is) ty = record { at = at; of = ty } ∷ []
node_formed _ ty = []

abbrev pub formed_onto : List Ty → List Key → List Ty → List Node → List Formed
formed_onto ts keys done [] = []
formed_onto ts keys done (node ∷ rest) =
    node_formed node (node_type ts keys done node) ++ formed_onto ts keys (done ++ node_type ts keys done node ∷ []) rest

abbrev pub formed_nodes : List Ty → List Key → List Node → List Formed
formed_nodes ts keys nodes = formed_onto ts keys [] nodes
