-- Sections that are being read: what stands in the scope, in the table and in the lists beside them, by what the rules have read. No
-- public contract speaks of it.
use Rattle.std.specs.Prelude.{◌≡◌, ℕ, true, false, List, [], ◌∷◌, length}
use Rattle.std.specs.Prelude.{Option, None, Result, Ok, Err, ⊤}
use Rattle.std.specs.HashSet.{HashSet}
use Rattle.arc_base.specs.declared.place.Stop.{Stop}
use Rattle.arc_base.specs.declared.place.Stop.TheVariants as stop
use Rattle.arc_base.specs.Refusal.{IsRefusal}
use Rattle.nim_tree.specs.Types as body
use Rattle.nim_tree.specs.Types.{Body, Declaration}
use Rattle.nim_types.specs.declared.types.TypeDef.{TypeDef}
use Rattle.nim_types.specs.Types as type
use Rattle.nim_types.specs.Types.{Ty, Key}
use Rattle.expr_rules.specs.Answers.{Answer}
use Rattle.expr_rules.specs.Env.{Entry, constant}
use Rattle.expr_parts.specs.declared.scope.Decl.{Decl}
use Rattle.expr_parts.specs.declared.scope.Scope.{Scope}
use Rattle.expr_parts.specs.declared.scope.What.TheVariants as what
use Rattle.decl_rules.specs.State.{State, is_declared}
use Rattle.decl_rules.specs.Meanings.{known_of, keys_of}
use Rattle.decl_rules.specs.Sections.{Section, members_rule}
use Rattle.decl_written.specs.ViewWritten.{HasNames}
use Rattle.decl_types.specs.declared.known.Definition.{Definition}
use Rattle.decl_sections.specs.ViewBodies.{Said, said_with}
use Rattle.decl_types.specs.ViewKnown.{meant_by}
use Rattle.decl_types.specs.ViewNodes.{formed_nodes}
use Rattle.decl_types.specs.ViewReading.{all_defined}
use Rattle.decl_types.specs.ViewScoped.{Reads, Scoped, own_in}

-- ---- names of types

-- none is known
abbrev pub none_known : List Declaration → List (Option ℕ)
none_known [] = []
none_known (d ∷ rest) = None ∷ none_known rest

-- ---- definitions

-- the members of an enum
abbrev pub members_in : State → List (List ℕ) → Key → Body → Answer (List Entry)
members_in st names key (body.enum at all) = members_rule st names (type.enum key) 0 all
members_in st names key _ = Ok []

-- what a definition says by its nodes
abbrev pub said_in : List Ty → List Key → Definition → Said
said_in ts keys d = said_with (meant_by ts keys d) (formed_nodes ts keys d.nodes.items)

-- members are constants
abbrev pub IsConstant : Entry → Type 0
IsConstant (constant name of value) = Unit {0}
IsConstant _ = ⊥

abbrev pub AreConstants : List Entry → Type 0
AreConstants [] = Unit {0}
AreConstants (e ∷ rest) = IsConstant e × AreConstants rest

-- behind what has been read
pub record Stage {S : Type 0} (ts : List Ty) (st : State) (all : List Declaration) (old : List Decl) (n : ℕ) (ds : List TypeDef) (scope : Scope)
    (outside start : ℕ) (seen : HashSet (List ℕ) S) (known : List (Option ℕ)) (read : List Definition) (s : Section) : Type 0 where
  pub scoped : Scoped ts st all old known (known_of (keys_of all) s.defined) s.members ds scope
  pub defined : s.defined ≡ all_defined ts (keys_of all) read
  pub reads : Reads n (length all) (keys_of all) read
  pub names : HasNames seen s.names
  pub fresh : (x : List ℕ) → is_declared x s.members ≡ true → own_in st x ≡ false
  pub begins : outside ≡ st.outside
  pub starts : start ≡ length old
  pub constants : AreConstants s.members

-- a call is answered so, and behind it this holds
abbrev pub Leads : {A T : Type 0} → (A → Type 0) → Answer A → Result T Stop → Type 0
Leads {A} P said (Ok x) = (a : A) × (said ≡ Ok a) × P a
Leads P said (Err (stop.Refused code at)) = IsRefusal said code at
Leads P said (Err stop.Memory) = ⊤
