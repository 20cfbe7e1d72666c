-- What is added where the types that are written in a section are read, and what is said of that. Contracts of the pass alone speak of it.
use Rattle.std.specs.Prelude.{◌≡◌, ℕ, ◌<◌, List, [], ◌∷◌, ◌++◌, length, map}
use Rattle.std.specs.Prelude.{drop}
use Rattle.std.specs.Prelude.{Result, Ok, IfOk, OnOk, ◌+◌, Option, Some, None, slice_get}
use Rattle.std.proofs.Common.{Vec, Global}
use Rattle.arc_base.specs.declared.place.Place.{Place}
use Rattle.arc_base.specs.declared.place.Stop.{Stop}
use Rattle.arc_base.specs.Refusal.{and_then, Answers}
use Rattle.nim_types.specs.declared.types.TypeDef.{TypeDef}
use Rattle.nim_types.specs.Types as type
use Rattle.nim_types.specs.Types.{Ty, Key, Facts}
use Rattle.nim_types.specs.Table.{type_at, AllBelow}
use Rattle.expr_rules.specs.Env.{Env}
use Rattle.expr_rules.specs.Answers.{Answer}
use Rattle.expr_rules.specs.Names.{named_type, formed_type}
use Rattle.expr_parts.specs.declared.scope.Scope.{Scope}
use Rattle.expr_parts.specs.View.{Under, Grown, env_of}
use Rattle.decl_rules.specs.Written.{Spelled, spelled_as, Formed, Sizing, later, Parted, types_in, formed_in, names_of}
use Rattle.decl_written.specs.declared.parts.Parts.{Parts}
use Rattle.decl_types.specs.declared.nodes.Node.{Node}
use Rattle.decl_types.specs.declared.nodes.Names.{Names}
use Rattle.nim_tree.specs.Types.{Fields, no_fields, fields}
use Rattle.expr_parts.specs.declared.scope.Decl.{Decl}
use Rattle.expr_parts.specs.declared.scope.What.TheVariants as what
use Rattle.decl_types.specs.ViewKnown.{Ordered, NodesIn}
use Rattle.decl_types.specs.ViewNodes.{number_in, formed_onto, names_env_of, node_types}

-- behind what was there, and made of what stands before
abbrev pub Further : List Node → List Node → Type 0
Further old new = (more : List Node) × (new ≡ old ++ more) × (Ordered 0 old → Ordered 0 new)

-- the array and tuple types that were added
abbrev pub formed_since : List Ty → List Key → (old new : List Node) → List Formed
formed_since ts keys old new = formed_onto ts keys (node_types ts keys old) (drop (length old) new)

-- a type, with what was added
abbrev pub one_in : List Ty → List Formed → ℕ → Spelled
one_in done formed i = spelled_as (type_at done i) formed

abbrev pub IsNode : ℕ → ℕ → Type 0
IsNode n i = i < n

-- types in brackets, with what is written in them
pub record Given : Type 0 where
  pub of : List Ty
  pub formed : List Formed

abbrev pub given_as : List Ty → List Formed → Given
given_as of formed = record { of = of; formed = formed }

abbrev pub all_given : Answer (List Spelled) → Answer Given
all_given said = and_then said (λ all. Ok (given_as (types_in all) (formed_in all)))

abbrev pub given_in : List Ty → List Formed → Vec ℕ Global → Given
given_in done formed is = given_as (map (type_at done) is.items) formed

abbrev pub AreNodes : ℕ → Vec ℕ Global → Type 0
AreNodes n is = AllBelow n is.items

-- a name with types in brackets
abbrev pub named_with : Env → Place → List ℕ → List Ty → Answer Ty
named_with env at x [] = named_type env at x
named_with env at x (t ∷ ts) = formed_type env at x (t ∷ ts)

-- the parts of a tuple or an object, with what is written in them
pub record PartsMeant : Type 0 where
  pub names : List (List ℕ)
  pub of : List Ty
  pub formed : List Formed

abbrev pub parts_meant : List (List ℕ) → List Ty → List Formed → PartsMeant
parts_meant names of formed = record { names = names; of = of; formed = formed }

abbrev pub meant_parts : Parted → PartsMeant
meant_parts all = parts_meant (names_of all.parts) (map (λ p. p.of) all.parts) all.formed

abbrev pub all_parted : Answer Parted → Answer PartsMeant
all_parted said = and_then said (λ all. Ok (meant_parts all))

abbrev pub parts_in : List Ty → List Formed → Parts → PartsMeant
parts_in done formed parts = parts_meant parts.names (map (type_at done) parts.types) formed

abbrev pub part_count : Fields → ℕ
part_count no_fields = 0
part_count (fields names of rest) = length names + part_count rest

-- as many as there are names
abbrev pub ArePartNodes : ℕ → ℕ → Parts → Type 0
ArePartNodes count n parts = AllBelow n parts.types × (length parts.types ≡ count)

-- definitions have numbers below this one
abbrev pub NumbersBelow : ℕ → Names → Type 0
NumbersBelow m names = (o : Option ℕ) (k : ℕ) → number_in names o ≡ Some k → k < m

-- what isn't declared in a section names types below a number, and what is, definitions below another
pub record Outer (n m : ℕ) (names : Names) (ds : List Decl) : Type 0 where
  pub types : (i id : ℕ) (d : Decl) → slice_get ds i ≡ Some d → number_in names (Some i) ≡ None → d.what ≡ what.Type id → id < n
  pub numbers : NumbersBelow m names

-- so do the nodes that are added
abbrev pub AddsSound : {T : Type 0} → (old new : List Node) → Scope → Names → Result T Stop → Type 0
AddsSound old new scope names r = (n m : ℕ) → Outer n m names scope.decls → NodesIn n m old → OnOk r (NodesIn n m new)

-- What a call adds that looks at names alone: one node, as the rule says.
pub record Adds (old new : List Node) (scope : Scope) (names : Names) (rule : Env → List Ty → Answer Ty) (formed : Ty → List Formed)
    (r : Result ℕ Stop) : Type 0 where
  pub further : OnOk r (Further old new)
  pub since : IfOk r (λ i. (ts : List Ty) (keys : List Key) → formed_since ts keys old new ≡ formed (type_at (node_types ts keys new) i))
  pub answers : (ts : List Ty) (before : Facts) (keys : List Key)
      → Answers (type_at (node_types ts keys new)) (rule (names_env_of ts before keys names scope) (node_types ts keys old)) r
  pub within : IfOk r (IsNode (length new))
  pub sound : AddsSound old new scope names r

-- whatever is named
abbrev pub AddsIn : (old new : List Node) → Scope → (rule : Env → List Ty → Answer Ty) → (formed : Ty → List Formed) → Result ℕ Stop → Type 0
AddsIn old new scope rule formed r = (names : Names) → Adds old new scope names rule formed r

-- whatever is declared
abbrev pub AddsAnywhere : (old new : List Node) → (rule : Env → List Ty → Answer Ty) → (formed : Ty → List Formed) → Result ℕ Stop → Type 0
AddsAnywhere old new rule formed r = (scope : Scope) (names : Names) → Adds old new scope names rule formed r

-- What is spelled in a section means what the rule says, by the names and by what is known of them; it was added behind what was there.
pub record Spells {A T : Type 0} (ds es : List TypeDef) (old new : List Node) (scope : Scope) (names : Names) (of : List Ty → List Formed → T → A)
    (rule : Sizing → Env → Answer A) (Within : ℕ → T → Type 0) (r : Result T Stop) : Type 0 where
  pub grown : Grown ds es
  pub further : OnOk r (Further old new)
  pub answers : (ts : List Ty) (facts before : Facts) (keys : List Key) → Under es ts facts
      → Answers (of (node_types ts keys new) (formed_since ts keys old new))
      (rule (later (env_of ts facts scope)) (names_env_of ts before keys names scope)) r
  pub within : IfOk r (Within (length new))
  pub sound : AddsSound old new scope names r
