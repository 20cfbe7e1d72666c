-- What bodies lend is safe. Places that stand for places of the caller lie apart: no two arguments of a call are one place or part of the other, and
-- none is a global that the procedure names, in its body or in that of what it calls, and so on. And what is lent to a body isn't written by it.
-- Fields are those of objects and tuples: an exception has a message that is typed like a field, but no rule reads it.
use Rattle.std.specs.Prelude.{◌≡◌, ℕ, Bool, true, false, List, [], ◌∷◌, Option, Some, None}
use Rattle.nim_types.specs.Types as type
use Rattle.nim_types.specs.Types.{Ty}
use Rattle.nim_program.specs.Program.{Act, type_at, Calling, Expr, Apply, Read, Early, Choose, Path, Variable, Fresh, Field, Element, Deref}
use Rattle.nim_program.specs.Program.{Args, NoArg, ByValue, ByPath, Stmt, Do, Idle, Give, Leave, Select, Loop, Raise, Try, Stmts, Empty, Then, Declare, Defer}
use Rattle.nim_program.specs.Program.{Blocks, Otherwise, Block, Handlers, NoHandler, Handler, Param, Body, Proc, Program}
use Rattle.expr_rules.specs.Paths.{overlap}
use Rattle.decl_rules.specs.Occurrences.{Occurrence, global, calls, hands, in_block}
use Rattle.decl_rules.specs.Naming.{Names}
use Rattle.lending_laws.specs.Writing.{lent_in, written_by, lent_params, kept_within, NoneBegins}

-- ---- one act

-- other roots, or a step at which both are fields and differ
abbrev pub PartsFrom : Path → List Path → Type 0
PartsFrom path [] = Unit {0}
PartsFrom path (other ∷ rest) = (overlap other path ≡ false) × PartsFrom path rest

-- each two of them
abbrev pub PartWays : List Path → Type 0
PartWays [] = Unit {0}
PartWays (path ∷ rest) = PartsFrom path rest × PartWays rest

abbrev pub ArgsPartWays : Act → Args → Type 0
ArgsPartWays (Calling proc types) operands = PartWays (lent_in operands)
ArgsPartWays act operands = Unit {0}

abbrev pub ActLends : (kept : ℕ → Bool) → Act → Args → Type 0
ActLends kept act operands = ArgsPartWays act operands × NoneBegins kept (written_by act operands)

-- an object or a tuple: no exception
abbrev pub has_fields : Option Ty → Bool
has_fields (Some (type.object key given)) = true
has_fields (Some (type.tuple names ts)) = true
has_fields _ = false

-- ---- all acts of a tree; a field is one of an object or a tuple

abbrev mutual
  pub ExprLends : (kept : ℕ → Bool) → Expr → Type 0
  ExprLends kept (Apply node ty act operands) = ActLends kept act operands × ArgsLend kept operands
  ExprLends kept (Read path) = PathLends kept path
  ExprLends kept (Early node ty short left right) = ExprLends kept left × ExprLends kept right
  ExprLends kept (Choose node ty chooser parts) = ArgsLend kept parts

  pub PathLends : (kept : ℕ → Bool) → Path → Type 0
  PathLends kept (Variable node ty place is_global) = Unit {0}
  PathLends kept (Fresh value) = ExprLends kept value
  PathLends kept (Field node ty base field) = (has_fields (type_at base) ≡ true) × PathLends kept base
  PathLends kept (Element node ty base index constant) = PathLends kept base × ExprLends kept index
  PathLends kept (Deref ty base) = PathLends kept base

  pub ArgsLend : (kept : ℕ → Bool) → Args → Type 0
  ArgsLend kept NoArg = Unit {0}
  ArgsLend kept (ByValue value rest) = ExprLends kept value × ArgsLend kept rest
  ArgsLend kept (ByPath path rest) = PathLends kept path × ArgsLend kept rest

abbrev mutual
  pub StmtLends : (kept : ℕ → Bool) → Stmt → Type 0
  StmtLends kept (Do value) = ExprLends kept value
  StmtLends kept (Idle node parts) = ArgsLend kept parts
  StmtLends kept (Give node back value) = ExprLends kept value
  StmtLends kept (Leave node leaving parts) = ArgsLend kept parts
  StmtLends kept (Select node chooser tests blocks) = ArgsLend kept tests × BlocksLend kept blocks
  StmtLends kept (Loop node kind head body) = ArgsLend kept head × BlockLends (kept_within kind kept) body
  StmtLends kept (Raise node exception message) = ArgsLend kept message
  StmtLends kept (Try node body handlers last) = BlockLends kept body × (HandlersLend kept handlers × BlockLends kept last)

  pub BlockLends : (kept : ℕ → Bool) → Stmts → Type 0
  BlockLends kept Empty = Unit {0}
  BlockLends kept (Then first rest) = StmtLends kept first × BlockLends kept rest
  BlockLends kept (Declare node place cursor value rest) = ArgsLend kept value × BlockLends kept rest
  BlockLends kept (Defer node last rest) = BlockLends kept last × BlockLends kept rest

  pub BlocksLend : (kept : ℕ → Bool) → Blocks → Type 0
  BlocksLend kept (Otherwise block) = BlockLends kept block
  BlocksLend kept (Block first rest) = BlockLends kept first × BlocksLend kept rest

  pub HandlersLend : (kept : ℕ → Bool) → Handlers → Type 0
  HandlersLend kept NoHandler = Unit {0}
  HandlersLend kept (Handler types name body rest) = BlockLends kept body × HandlersLend kept rest

-- ---- globals

-- no global that is handed over is one that the procedure names
abbrev pub HandsUnnamed : List Proc → List Occurrence → Type 0
HandsUnnamed procs [] = Unit {0}
HandsUnnamed procs (global place ∷ rest) = HandsUnnamed procs rest
HandsUnnamed procs (calls proc ∷ rest) = HandsUnnamed procs rest
HandsUnnamed procs (hands proc at place ∷ rest) = (Names procs place proc → ⊥) × HandsUnnamed procs rest

-- ---- programs

abbrev pub IfBody : (Stmts → Type 0) → Option Body → Type 0
IfBody holds None = Unit {0}
IfBody holds (Some body) = holds body.stmts

-- of bodies with these parameters
abbrev pub InProcs : (List Param → Stmts → Type 0) → List Proc → Type 0
InProcs holds [] = Unit {0}
InProcs holds (proc ∷ procs) = IfBody (holds proc.params) proc.body × InProcs holds procs

-- of the bodies of procedures and of the start code
abbrev pub InBodies : (List Param → Stmts → Type 0) → Program → Type 0
InBodies holds program = InProcs holds program.procs × holds [] program.start.stmts

pub record AreLentApart (program : Program) : Type 0 where
  pub acts : InBodies (λ params. BlockLends (lent_params params)) program
  pub unnamed : InBodies (λ params stmts. HandsUnnamed program.procs (in_block stmts)) program
