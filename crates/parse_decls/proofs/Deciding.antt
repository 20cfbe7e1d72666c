-- What reading comes to in the end is what is sought, or why there is none.
use Rattle.std.proofs.Common.{◌≡◌, ℕ, List, refl, subst, inl, inr, arith}
use Rattle.indent_scanner.specs.declared.token.Token.{Token}
use Rattle.parse_exprs.specs.declared.layout.Layout.{Layout}
use Rattle.parse_exprs.specs.Look.{Origin}
use Rattle.parse_decls.specs.Ends.{HasPlace, Ends, e_read, e_not, enough, Advances, AlwaysEnds, Decided, is_read, is_not}
use Rattle.parse_decls.specs.Outcome.{Why, tired, Out}
use Rattle.parse_decls.specs.Run.{run_names, run_def, run_def_block, run_types, run_head}
use Rattle.parse_decls.specs.Grammar.{Names}
use Rattle.parse_decls.specs.Faults.{FaultsNames, ShortDefinition, FaultsDefinition, ShortDefinitionBlock, FaultsDefinitionBlock, ShortDeclarations}
use Rattle.parse_decls.specs.Faults.{FaultsDeclarations, ShortHead, FaultsHead}
use Rattle.parse_decls.proofs.Declarations.{declarations}
use Rattle.parse_decls.proofs.Definitions.{definition, definition_block}
use Rattle.parse_decls.proofs.Ending.{wider, ends_names, ends_def, ends_def_block, ends_types, ends_head}
use Rattle.parse_decls.proofs.Heads.{head}
use Rattle.parse_decls.proofs.NameLists.{names}
use Rattle.parse_decls.proofs.Productions.{Parses}

no_place : {C : Type 0} {why : Why} → why ≡ tired → HasPlace why → C
no_place e p = absurd (subst HasPlace e p)

decided_by : {A : Type 0} {run : ℕ → List Token → Out A} {R D : A → List Token → List Token → Type 0} {F : Why → List Token → Type 0} {m : ℕ} {o : Out A}
    → Parses run R D F → (ts : List Token) (k : ℕ) → run k ts ≡ o → Ends m o → Decided D F ts
decided_by p ts k e (e_read lt) = is_read (p.sound k ts _ _ e)
decided_by p ts k e (e_not place) = elim (p.stops k ts _ e) [ inl t ↦ no_place t place | inr w ↦ is_not w place ]

-- where reading ends, each list of tokens is decided
decided : {A : Type 0} {run : ℕ → List Token → Out A} {R D : A → List Token → List Token → Type 0} {F : Why → List Token → Type 0} → Parses run R D F
    → AlwaysEnds (λ ts k. run k ts) → (ts : List Token) → Decided D F ts
decided p ends ts = decided_by p ts (enough ts) refl (ends ts (enough ts) (omega arith))

-- ---- reading ends

pub names_end : (x : Origin) (i : Layout) → Advances (λ ts k. run_names k x i ts)
names_end x i ts k le = ends_names k x i ts (omega (arith, le))

pub definitions_end : (x : Origin) (i : Layout) → Advances (λ ts k. run_def k x i ts)
definitions_end x i ts k le = ends_def k x i ts (omega (arith, le))

pub definition_blocks_end : (x : Origin) (n : ℕ) → AlwaysEnds (λ ts k. run_def_block k x n ts)
definition_blocks_end x n ts k le = ends_def_block k x n ts (omega (arith, le))

pub type_declarations_end : (x : Origin) (n : ℕ) → AlwaysEnds (λ ts k. run_types k x n ts)
type_declarations_end x n ts k le = ends_types k x n ts (omega (arith, le))

pub heads_end : (x : Origin) (i : Layout) → Advances (λ ts k. run_head k x i ts)
heads_end x i ts k le = ends_head k x i ts (omega (arith, le))

always : {X : Type 0} {run : List Token → ℕ → Out X} → Advances run → AlwaysEnds run
always h ts k le = wider (omega arith) (h ts k le)

-- ---- what it comes to

pub names_decided : (x : Origin) (i : Layout) (ts : List Token) → Decided (Names x i) (FaultsNames x i) ts
names_decided x i = decided (names x i) (always (names_end x i))

pub definitions_decided : (x : Origin) (i : Layout) (ts : List Token) → Decided (ShortDefinition x i) (FaultsDefinition x i) ts
definitions_decided x i = decided (definition x i) (always (definitions_end x i))

pub definition_blocks_decided : (x : Origin) (n : ℕ) (ts : List Token) → Decided (ShortDefinitionBlock x n) (FaultsDefinitionBlock x n) ts
definition_blocks_decided x n = decided (definition_block x n) (definition_blocks_end x n)

pub type_declarations_decided : (x : Origin) (n : ℕ) (ts : List Token) → Decided (ShortDeclarations x n) (FaultsDeclarations x n) ts
type_declarations_decided x n = decided (declarations x n) (type_declarations_end x n)

pub heads_decided : (x : Origin) (i : Layout) (ts : List Token) → Decided (ShortHead x i) (FaultsHead x i) ts
heads_decided x i = decided (head x i) (always (heads_end x i))
