-- Trees of small programs with numbers of their own for their nodes, in order of text. No public contract but that of examples speaks of it.
use Rattle.std.specs.Prelude.{ℕ, suc, List, [], ◌∷◌, Option, Some, None}
use Rattle.nim_program.specs.declared.expr.Node.{Node}
use Rattle.nim_program.specs.Program.{Expr, Apply, Read, Early, Choose, Path, Variable, Fresh, Field, Element, Deref, Args, NoArg, ByValue, ByPath}
use Rattle.nim_program.specs.Program.{Stmt, Do, Idle, Give, Leave, Select, Loop, Raise, Try, Stmts, Empty, Then, Declare, Defer, Blocks, Otherwise, Block}
use Rattle.nim_program.specs.Program.{Body, Proc, Program}
use Rattle.nim_meaning.specs.Trees.{here}

abbrev pub at : ℕ → Node
at n = record { number = n; at = here }

-- a part with numbers from one on, and the next one
abbrev mutual
  pub expr : Expr → ℕ → Expr × ℕ
  expr (Apply node ty act operands) n = let r = args operands (suc n) in (Apply (at n) ty act r.0, r.1)
  expr (Read path) n = let r = steps path n in (Read r.0, r.1)
  expr (Early node ty short left right) n = let l = expr left (suc n) in let r = expr right l.1 in (Early (at n) ty short l.0 r.0, r.1)
  expr (Choose node ty chooser parts) n = let r = args parts (suc n) in (Choose (at n) ty chooser r.0, r.1)

  pub steps : Path → ℕ → Path × ℕ
  steps (Variable node ty place global) n = (Variable (at n) ty place global, suc n)
  steps (Fresh value) n = let r = expr value n in (Fresh r.0, r.1)
  steps (Field node ty base field) n = let r = steps base (suc n) in (Field (at n) ty r.0 field, r.1)
  steps (Element node ty base index constant) n =
      let r = steps base (suc n) in let i = expr index r.1 in (Element (at n) ty r.0 i.0 constant, i.1)
  steps (Deref ty base) n = let r = steps base n in (Deref ty r.0, r.1)

  pub args : Args → ℕ → Args × ℕ
  args NoArg n = (NoArg, n)
  args (ByValue value rest) n = let r = expr value n in let m = args rest r.1 in (ByValue r.0 m.0, m.1)
  args (ByPath path rest) n = let r = steps path n in let m = args rest r.1 in (ByPath r.0 m.0, m.1)

abbrev mutual
  pub stmt : Stmt → ℕ → Stmt × ℕ
  stmt (Do value) n = let r = expr value n in (Do r.0, r.1)
  stmt (Idle node parts) n = let r = args parts (suc n) in (Idle (at n) r.0, r.1)
  stmt (Give node back value) n = let r = expr value (suc n) in (Give (at n) back r.0, r.1)
  stmt (Leave node leaving parts) n = let r = args parts (suc n) in (Leave (at n) leaving r.0, r.1)
  stmt (Select node chooser tests blocks) n = let t = args tests (suc n) in let b = branches blocks t.1 in (Select (at n) chooser t.0 b.0, b.1)
  stmt (Loop node kind head body) n = let h = args head (suc n) in let b = block body h.1 in (Loop (at n) kind h.0 b.0, b.1)
  stmt (Raise node exception message) n = (Raise (at n) exception message, suc n)
  stmt (Try node body handlers last) n = (Try (at n) body handlers last, suc n)

  pub block : Stmts → ℕ → Stmts × ℕ
  block Empty n = (Empty, n)
  block (Then first rest) n = let f = stmt first n in let r = block rest f.1 in (Then f.0 r.0, r.1)
  block (Declare node place cursor value rest) n =
      let v = args value (suc n) in let r = block rest v.1 in (Declare (at n) place cursor v.0 r.0, r.1)
  block (Defer node last rest) n = (Defer (at n) last rest, suc n)

  pub branches : Blocks → ℕ → Blocks × ℕ
  branches (Otherwise last) n = let r = block last n in (Otherwise r.0, r.1)
  branches (Block first rest) n = let f = block first n in let r = branches rest f.1 in (Block f.0 r.0, r.1)

-- each body has numbers from 1 on
abbrev pub body : Body → Body
body b = record b { stmts = (block b.stmts 1).0 }

abbrev pub if_body : Option Body → Option Body
if_body None = None
if_body (Some b) = Some (body b)

abbrev pub procs : List Proc → List Proc
procs [] = []
procs (p ∷ rest) = record p { body = if_body p.body } ∷ procs rest

abbrev pub numbered : Program → Program
numbered program = record program { procs = procs program.procs; start = body program.start }
