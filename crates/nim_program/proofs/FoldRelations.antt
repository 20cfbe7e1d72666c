-- Two folds over one tree, related by what relates their parts.
use Rattle.std.specs.Prelude.{Bool, true, false, List, [], ◌∷◌, Option, Some, None}
use Rattle.nim_types.specs.Types.{Ty}
use Rattle.nim_program.specs.declared.expr.Node.{Node}
use Rattle.nim_program.specs.Program.{Literal, Expr, Apply, Read, Early, Choose, Path, Variable, Fresh, Field, Element, Deref, Args, NoArg, ByValue, ByPath}
use Rattle.nim_program.specs.Program.{constant_in}
use Rattle.nim_program.specs.Program.{Stmt, Do, Idle, Give, Leave, Select, Loop, Raise, Try, Stmts, Empty, Then, Declare, Defer, Blocks, Otherwise, Block}
use Rattle.nim_program.specs.Program.{Handlers, NoHandler, Handler, Body, Proc, Program}
use Rattle.nim_program.specs.Folds.{Step, Part, Seen, valued, led, if_constant, begun_by, Sum, total, total_at, totals, together, in_turn, each, each_block}
use Rattle.nim_program.specs.Folds.{total_in, total_of, total_of_handlers, if_body, in_procs, in_bodies}

-- what relates the parts is kept where they are put together
pub record Relates {A B : Type 0} (a : Sum A) (b : Sum B) (f : Seen → A) (g : Seen → B) (R : A → B → Type 0) : Type 0 where
  pub none : R a.none b.none
  pub plus : (x y : A) (u v : B) → R x u → R y v → R (a.plus x y) (b.plus u v)
  pub own : (seen : Seen) → R (f seen) (g seen)

-- the same of expressions alone
pub record InExprs {A B : Type 0} (a : Sum A) (b : Sum B) (f : Seen → A) (g : Seen → B) (R : A → B → Type 0) : Type 0 where
  pub none : R a.none b.none
  pub plus : (x y : A) (u v : B) → R x u → R y v → R (a.plus x y) (b.plus u v)
  pub node : (node : Node) (ty : Option Ty) (part : Part) → R (f (valued node ty part)) (g (valued node ty part))
  pub beside : (ty : Option Ty) (read written : Bool) (step : Step) → R (f (led ty read written step)) (g (led ty read written step))

module _ {A B : Type 0} (a : Sum A) (b : Sum B) (f : Seen → A) (g : Seen → B) (R : A → B → Type 0) (r : InExprs a b f g R) where
  -- what begins with a constant, or with another value
  begun : (constant : Option Literal) (read : Bool) (value : Expr) → R (total a f value) (total b g value) →
      R (if_constant constant (f (begun_by constant read value)) (a.plus (f (begun_by constant read value)) (total a f value)))
      (if_constant constant (g (begun_by constant read value)) (b.plus (g (begun_by constant read value)) (total b g value)))
  begun None read value h = r.plus _ _ _ _ (r.beside _ _ _ _) h
  begun (Some literal) read value h = r.node _ _ _

  mutual
    pub in_expr : (e : Expr) → R (total a f e) (total b g e)
    in_expr (Apply node ty act operands) = r.plus _ _ _ _ (r.node _ _ _) (in_args operands)
    in_expr (Read path) = in_path true path
    in_expr (Early node ty short left right) = r.plus _ _ _ _ (r.node _ _ _) (r.plus _ _ _ _ (in_expr left) (in_expr right))
    in_expr (Choose node ty chooser parts) = r.plus _ _ _ _ (r.node _ _ _) (in_args parts)

    pub in_path : (read : Bool) (path : Path) → R (total_at a f read path) (total_at b g read path)
    in_path read (Variable node ty place global) = r.node _ _ _
    in_path read (Fresh value) = begun (constant_in value) read value (in_expr value)
    in_path read (Field node ty base field) = r.plus _ _ _ _ (r.node _ _ _) (in_path false base)
    in_path read (Element node ty base index constant) = r.plus _ _ _ _ (r.node _ _ _) (r.plus _ _ _ _ (in_path false base) (in_expr index))
    in_path read (Deref ty base) = r.plus _ _ _ _ (r.beside _ _ _ _) (in_path false base)

    pub in_args : (args : Args) → R (totals a f args) (totals b g args)
    in_args NoArg = r.none
    in_args (ByValue value rest) = r.plus _ _ _ _ (in_expr value) (in_args rest)
    in_args (ByPath path rest) = r.plus _ _ _ _ (in_path false path) (in_args rest)

module _ {A B : Type 0} (a : Sum A) (b : Sum B) (f : Seen → A) (g : Seen → B) (R : A → B → Type 0) (r : Relates a b f g R) where
  -- of lists, one by one
  abbrev Rs : List A → List B → Type 0
  Rs [] [] = Unit {0}
  Rs (x ∷ xs) (y ∷ ys) = R x y × Rs xs ys
  Rs [] (y ∷ ys) = ⊥
  Rs (x ∷ xs) [] = ⊥

  exprs : InExprs a b f g R
  exprs = record { none = r.none; plus = r.plus; node = λ node ty part. r.own _; beside = λ ty read written step. r.own _ }

  pub related : (e : Expr) → R (total a f e) (total b g e)
  related e = in_expr a b f g R exprs e

  pub related_at : (read : Bool) (path : Path) → R (total_at a f read path) (total_at b g read path)
  related_at read path = in_path a b f g R exprs read path

  pub related_all : (args : Args) → R (totals a f args) (totals b g args)
  related_all args = in_args a b f g R exprs args

  related_each : (args : Args) → Rs (each a f args) (each b g args)
  related_each NoArg = tt
  related_each (ByValue value rest) = (related value, related_each rest)
  related_each (ByPath path rest) = (related_at false path, related_each rest)

  related_together : (xs : List A) (ys : List B) → Rs xs ys → R (together a xs) (together b ys)
  related_together [] [] h = r.none
  related_together [] (y ∷ ys) h = absurd h
  related_together (x ∷ xs) [] h = absurd h
  related_together (x ∷ xs) (y ∷ ys) h = r.plus _ _ _ _ h.0 (related_together xs ys h.1)

  related_turn : (xs us : List A) (ys vs : List B) → Rs xs ys → Rs us vs → R (in_turn a xs us) (in_turn b ys vs)
  related_turn [] us [] vs h k = related_together us vs k
  related_turn [] us (y ∷ ys) vs h k = absurd h
  related_turn (x ∷ xs) us [] vs h k = absurd h
  related_turn (x ∷ xs) [] (y ∷ ys) [] h k = r.plus _ _ _ _ h.0 (related_together xs ys h.1)
  related_turn (x ∷ xs) [] (y ∷ ys) (v ∷ vs) h k = absurd k
  related_turn (x ∷ xs) (u ∷ us) (y ∷ ys) [] h k = absurd k
  related_turn (x ∷ xs) (u ∷ us) (y ∷ ys) (v ∷ vs) h k = r.plus _ _ _ _ h.0 (r.plus _ _ _ _ k.0 (related_turn xs us ys vs h.1 k.1))

  mutual
    pub related_in : (stmt : Stmt) → R (total_in a f stmt) (total_in b g stmt)
    related_in (Do value) = related value
    related_in (Idle node parts) = r.plus _ _ _ _ (r.own _) (related_all parts)
    related_in (Give node back value) = r.plus _ _ _ _ (r.own _) (related value)
    related_in (Leave node leaving parts) = r.plus _ _ _ _ (r.own _) (related_all parts)
    related_in (Select node chooser tests blocks) = r.plus _ _ _ _ (r.own _) (related_turn _ _ _ _ (related_each tests) (related_blocks blocks))
    related_in (Loop node kind head body) = r.plus _ _ _ _ (r.own _) (r.plus _ _ _ _ (related_all head) (related_of body))
    related_in (Raise node exception message) = r.plus _ _ _ _ (r.own _) (related_all message)
    related_in (Try node body handlers last) =
        r.plus _ _ _ _ (r.own _) (r.plus _ _ _ _ (related_of body) (r.plus _ _ _ _ (related_handlers handlers) (related_of last)))

    pub related_of : (block : Stmts) → R (total_of a f block) (total_of b g block)
    related_of Empty = r.none
    related_of (Then first rest) = r.plus _ _ _ _ (related_in first) (related_of rest)
    related_of (Declare node place cursor value rest) = r.plus _ _ _ _ (r.own _) (r.plus _ _ _ _ (related_all value) (related_of rest))
    related_of (Defer node last rest) = r.plus _ _ _ _ (r.own _) (r.plus _ _ _ _ (related_of last) (related_of rest))

    related_blocks : (blocks : Blocks) → Rs (each_block a f blocks) (each_block b g blocks)
    related_blocks (Otherwise block) = (related_of block, tt)
    related_blocks (Block first rest) = (related_of first, related_blocks rest)

    pub related_handlers : (handlers : Handlers) → R (total_of_handlers a f handlers) (total_of_handlers b g handlers)
    related_handlers NoHandler = r.none
    related_handlers (Handler types name body rest) = r.plus _ _ _ _ (r.own _) (r.plus _ _ _ _ (related_of body) (related_handlers rest))

-- over the bodies of a program
module _ {A B : Type 0} (a : Sum A) (b : Sum B) (f : Body → A) (g : Body → B) (R : A → B → Type 0) (none : R a.none b.none)
    (plus : (x y : A) (u v : B) → R x u → R y v → R (a.plus x y) (b.plus u v)) (own : (body : Body) → R (f body) (g body)) where
  related_if : (body : Option Body) → R (if_body a f body) (if_body b g body)
  related_if None = none
  related_if (Some body) = own body

  pub related_procs : (procs : List Proc) → R (in_procs a f procs) (in_procs b g procs)
  related_procs [] = none
  related_procs (proc ∷ procs) = plus _ _ _ _ (related_if proc.body) (related_procs procs)

  pub related_bodies : (program : Program) → R (in_bodies a f program) (in_bodies b g program)
  related_bodies program = plus _ _ _ _ (related_procs program.procs) (own program.start)

-- what is so of each part is so of the whole
pub record Keeps {A : Type 0} (a : Sum A) (f : Seen → A) (P : A → Type 0) : Type 0 where
  pub none : P a.none
  pub plus : (x y : A) → P x → P y → P (a.plus x y)
  pub own : (seen : Seen) → P (f seen)

module _ {A : Type 0} (a : Sum A) (f : Seen → A) (P : A → Type 0) (k : Keeps a f P) where
  abbrev Of : A → A → Type 0
  Of x y = P x

  by_itself : Relates a a f f Of
  by_itself = record { none = k.none; plus = λ x y u v h g. k.plus x y h g; own = k.own }

  pub kept : (e : Expr) → P (total a f e)
  kept e = related a a f f Of by_itself e

  pub kept_at : (read : Bool) (path : Path) → P (total_at a f read path)
  kept_at read path = related_at a a f f Of by_itself read path

  pub kept_of : (block : Stmts) → P (total_of a f block)
  kept_of block = related_of a a f f Of by_itself block
