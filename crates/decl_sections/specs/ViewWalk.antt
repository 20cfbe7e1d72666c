-- The walk through a section, by what the code holds. No public contract speaks of it.
use Rattle.std.specs.Prelude.{◌≡◌, ℕ, pos, Bool, List, [], ◌++◌, length, drop}
use Rattle.nim_tree.specs.Types.{Declaration}
use Rattle.nim_types.specs.declared.types.TypeDef.{TypeDef}
use Rattle.nim_types.specs.Types.{Ty}
use Rattle.nim_program.specs.declared.expr.Literal.TheVariants as V
use Rattle.expr_parts.specs.declared.scope.Decl.{Decl}
use Rattle.expr_parts.specs.declared.scope.Scope.{Scope}
use Rattle.expr_parts.specs.declared.scope.What.TheVariants as what
use Rattle.expr_parts.specs.View.{DeclsWithin}
use Rattle.expr_parts.specs.ViewDecls.{declares}
use Rattle.decl_rules.specs.State.{State}
use Rattle.decl_rules.specs.Sections.{Section, type_names}
use Rattle.decl_written.specs.ViewWritten.{HasNames}
use Rattle.decl_sections.specs.declared.starting.Frame.{Frame}
use Rattle.decl_sections.specs.declared.starting.Reading.{Reading}
use Rattle.decl_types.specs.ViewScoped.{numbers_by, decls_by, Fixed}
use Rattle.decl_sections.specs.ViewSections.{none_known, Stage}

abbrev pub own_by : ℕ → List Decl → List ℕ → Bool
own_by outside decls x = declares x (drop outside decls)

-- before the first definition
pub record Begins (old new : Scope) (outside : ℕ) (all : List Declaration) (frame : Frame) (reading : Reading) : Type 0 where
  pub decls : new.decls ≡ old.decls ++ decls_by (own_by outside old.decls) [] (none_known all) all
  pub kinds : new.kinds ≡ old.kinds
  pub home : new.home ≡ old.home
  pub known : reading.known.items ≡ none_known all
  pub numbers : frame.names.numbers.items ≡ numbers_by (own_by outside old.decls) [] 0 all
  pub start : frame.names.start ≡ length old.decls
  pub names : HasNames frame.all (type_names all)
  pub begins : reading.declared.outside ≡ outside
  pub starts : reading.declared.start ≡ length old.decls
  pub seen : HasNames reading.declared.seen []
  pub read : reading.read.items ≡ []

-- what stays the same
pub record Framed (ts : List Ty) (st : State) (all : List Declaration) (old : List Decl) (n : ℕ) (frame : Frame) : Type 0 where
  pub fixed : Fixed ts st all old frame.names n
  pub names : HasNames frame.all (type_names all)
  pub outer : DeclsWithin n old

-- behind what has been read
abbrev pub StageOf : List Ty → State → List Declaration → List Decl → ℕ → List TypeDef → Scope → Reading → Section → Type 0
StageOf ts st all old n ds scope reading s =
    Stage ts st all old n ds scope reading.declared.outside reading.declared.start reading.declared.seen reading.known.items
    reading.read.items s

-- ---- members

-- a member of an enum, as it is declared
abbrev pub member_decl : ℕ → ℕ → List ℕ → Decl
member_decl ty i x = record { name = x; what = what.Constant ty (V.Ordinal (pos i)) }
