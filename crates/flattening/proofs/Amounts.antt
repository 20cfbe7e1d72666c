-- What is counted of a program by how much each part takes, each literal that is built, and each one that is read where it stands; where that is a
-- multiple of what is counted of each, so is the whole.
use Rattle.std.specs.Prelude.{if◌then◌else◌}
use Rattle.std.proofs.Common.{◌≡◌, ℕ, ◌+◌, ◌*◌, Bool, true, false, List, [], ◌∷◌, length, Option, Some, None, refl, arith}
use Rattle.nim_types.specs.Types.{Facts}
use Rattle.nim_program.specs.declared.operation.Use.TheVariants.{Owned}
use Rattle.nim_program.specs.declared.program.Mode.{Mode}
use Rattle.nim_program.specs.declared.stmt.Leaving.{Leaving}
use Rattle.nim_program.specs.declared.stmt.Leaving.TheVariants.{Break, Continue, Return}
use Rattle.nim_program.specs.Program.{Declared, While, Count, Each, Do, Idle, Give, Leave, Select, Loop, Raise, Try}
use Rattle.nim_program.specs.Program.{Empty, Then, Declare, Defer, Otherwise, Block, Param}
use Rattle.nim_program.specs.Program.{Literal, Label, Act, Doing, Building, Giving, Calling, Chooser, ByConditions, ByLabels}
use Rattle.nim_program.specs.Program.{Expr, Path, Args, Stmt, Stmts, Blocks, Handlers, Body, Proc, Program}
use Rattle.nim_program.specs.Folds.{Named, Standing, Begun, ToField, ToElement, ToObject}
use Rattle.nim_program.specs.Folds.{Part, Acting, Stopping, Choosing, Leading, Stating, Declaring, Looping, Handling, Seen}
use Rattle.nim_program.specs.Folds.{numbers, total, total_at, totals, total_in, total_of, total_of_handlers, if_body, in_procs, in_bodies}
use Rattle.nim_program.proofs.ForCallers.{sum_of_blocks, related_of, related_bodies}
use Rattle.nim_meaning.specs.Here.{is_hooked}
use Rattle.nim_meaning.specs.Waiting.{Wait, waiting_all, waiting_first}
use Rattle.flattening.specs.Counted.{Around, left_by, with_more, in_turn, all_ends, place_counts, in_scope, in_turns, pairs_in, pairs_of, block_pairs}
use Rattle.flattening.specs.Counted.{params_count, body_pairs, if_pairs, procs_pairs, all_pairs, program_pairs}
use Rattle.flattening.specs.Counted.{literal_parts, labels_parts, chooser_parts, part_parts, own_parts, block_parts, body_parts, program_parts}

module _ (part : ℕ) (built standing : Literal → ℕ) (said : Label → ℕ) where
  abbrev pub labels_counted : List Label → ℕ
  labels_counted [] = 0
  labels_counted (label ∷ labels) = part + said label + labels_counted labels

  abbrev pub branches_counted : List (List Label) → ℕ
  branches_counted [] = 0
  branches_counted (labels ∷ rest) = part + (labels_counted labels + branches_counted rest)

  abbrev pub chooser_counted : Chooser → ℕ
  chooser_counted ByConditions = 0
  chooser_counted (ByLabels labels) = branches_counted labels

  abbrev pub part_counted : Part → ℕ
  part_counted (Acting (Giving literal)) = part + built literal
  part_counted (Choosing chooser looked) = part + chooser_counted chooser
  part_counted (Leading read written (Standing literal)) = part + standing literal
  part_counted (Looping kind false) = part + part
  part_counted Handling = 0
  part_counted one = part

  abbrev pub own_counted : Seen → ℕ
  own_counted seen = part_counted seen.part

  abbrev pub act_counted : Act → ℕ
  act_counted act = part_counted (Acting act)

  abbrev pub expr_counted : Expr → ℕ
  expr_counted = total numbers own_counted

  abbrev pub path_counted : Path → ℕ
  path_counted = total_at numbers own_counted false

  abbrev pub args_counted : Args → ℕ
  args_counted = totals numbers own_counted

  abbrev pub stmt_counted : Stmt → ℕ
  stmt_counted = total_in numbers own_counted

  abbrev pub block_counted : Stmts → ℕ
  block_counted = total_of numbers own_counted

  abbrev pub blocks_counted : Blocks → ℕ
  blocks_counted = sum_of_blocks numbers own_counted

  abbrev pub handlers_counted : Handlers → ℕ
  handlers_counted = total_of_handlers numbers own_counted

  abbrev pub body_counted : Body → ℕ
  body_counted body = part + block_counted body.stmts

  abbrev pub if_counted : Option Body → ℕ
  if_counted = if_body numbers body_counted

  abbrev pub procs_counted : List Proc → ℕ
  procs_counted = in_procs numbers body_counted

  abbrev pub counted : Program → ℕ
  counted = in_bodies numbers body_counted

-- ---- in the measure of weights: a constant that is read where it stands is none of the code

abbrev pub taken : Literal → ℕ
taken literal = 44 * literal_parts literal

abbrev pub none_of : Literal → ℕ
none_of literal = 0

abbrev pub no_label : Label → ℕ
no_label label = 0

labels_scaled : (labels : List Label) → labels_counted 44 taken none_of no_label labels ≡ 44 * length labels
labels_scaled [] = refl
labels_scaled (label ∷ labels) = let h = labels_scaled labels in omega (arith, h)

branches_scaled : (labels : List (List Label)) → branches_counted 44 taken none_of no_label labels ≡ 44 * labels_parts labels
branches_scaled [] = refl
branches_scaled (labels ∷ rest) = let h = labels_scaled labels in let i = branches_scaled rest in omega (arith, h, i)

chooser_scaled : (chooser : Chooser) → chooser_counted 44 taken none_of no_label chooser ≡ 44 * chooser_parts chooser
chooser_scaled ByConditions = refl
chooser_scaled (ByLabels labels) = branches_scaled labels

part_scaled : (part : Part) → part_counted 44 taken none_of no_label part ≡ 44 * part_parts part
part_scaled (Acting (Giving literal)) = omega arith
part_scaled (Acting (Doing operation)) = refl
part_scaled (Acting (Building fields)) = refl
part_scaled (Acting (Calling proc of)) = refl
part_scaled (Stopping short) = refl
part_scaled (Choosing chooser looked) = let h = chooser_scaled chooser in omega (arith, h)
part_scaled (Leading read written (Named place global)) = refl
part_scaled (Leading read written (Standing literal)) = omega arith
part_scaled (Leading read written Begun) = refl
part_scaled (Leading read written (ToField field)) = refl
part_scaled (Leading read written (ToElement constant)) = refl
part_scaled (Leading read written ToObject) = refl
part_scaled Stating = refl
part_scaled (Declaring cursor) = refl
part_scaled (Looping kind true) = refl
part_scaled (Looping kind false) = omega arith
part_scaled Handling = refl

abbrev Scaled : ℕ → ℕ → Type 0
Scaled x y = x ≡ 44 * y

block_scaled : (block : Stmts) → block_counted 44 taken none_of no_label block ≡ 44 * block_parts block
block_scaled block = related_of numbers numbers (own_counted 44 taken none_of no_label) own_parts Scaled (record {
  none = refl;
  plus = λ x y u v h g. omega (arith, h, g);
  own = λ seen. part_scaled seen.part;
}) block

body_scaled : (body : Body) → body_counted 44 taken none_of no_label body ≡ 44 * body_parts body
body_scaled body = let h = block_scaled body.stmts in omega (arith, h)

pub program_scaled : (program : Program) → counted 44 taken none_of no_label program ≡ 44 * program_parts program
program_scaled program =
    related_bodies numbers numbers (body_counted 44 taken none_of no_label) body_parts Scaled refl (λ x y u v h g. omega (arith, h, g))
    (λ body. body_scaled body) program

-- ---- pairs of what ends and an exit, where they count otherwise

-- what stands for nothing, and for sums
pub record Alike (R : ℕ → ℕ → Type 0) : Type 0 where
  pub none : R 0 0
  pub plus : (x y u v : ℕ) → R x u → R y v → R (x + y) (u + v)

module _ (R : ℕ → ℕ → Type 0) (alike : Alike R) (facts : Facts) (modes : (proc position : ℕ) → Mode) (each other : ℕ) (same : R each other) where
  pub record Around2 (a b : Around) : Type 0 where
    pub breaks : R a.breaks b.breaks
    pub continues : R a.continues b.continues
    pub returns : R a.returns b.returns

  if_same : (b : Bool) (x y : ℕ) → R x y → R (if b then x else 0) (if b then y else 0)
  if_same true x y h = h
  if_same false x y h = alike.none

  left_same : (a b : Around) (way : Leaving) → Around2 a b → R (left_by a way) (left_by b way)
  left_same a b Break h = h.breaks
  left_same a b Continue h = h.continues
  left_same a b Return h = h.returns

  ends_same : (ws : List Wait) → R (all_ends each ws) (all_ends other ws)
  ends_same [] = alike.none
  ends_same (w ∷ ws) = alike.plus each (all_ends each ws) other (all_ends other ws) same (ends_same ws)

  more_same : (x y : ℕ) (a b : Around) → R x y → Around2 a b → Around2 (with_more x a) (with_more y b)
  more_same x y a b h i = record {
    breaks = alike.plus x a.breaks y b.breaks h i.breaks;
    continues = alike.plus x a.continues y b.continues h i.continues;
    returns = alike.plus x a.returns y b.returns h i.returns;
  }

  turn_same : (a b : Around) → Around2 a b → Around2 (in_turn a) (in_turn b)
  turn_same a b h = record { breaks = alike.none; continues = alike.none; returns = h.returns }

  scope_same : (place : Declared) (a b : Around) → Around2 a b → Around2 (in_scope facts modes each place a) (in_scope facts modes other place b)
  scope_same place a b h =
      more_same (place_counts facts modes each place) (place_counts facts modes other place) a b (if_same (is_hooked facts place.of) each other same) h

  turns_same : (place : Declared) (head : Args) (a b : Around) → Around2 a b →
      Around2 (in_turns facts modes each place head a) (in_turns facts modes other place head b)
  turns_same place head a b h =
      let ws = waiting_all facts modes head (λ i. Owned) 0 in
      scope_same place (in_turn (with_more (all_ends each ws) a)) (in_turn (with_more (all_ends other ws) b))
      (turn_same (with_more (all_ends each ws) a) (with_more (all_ends other ws) b)
      (more_same (all_ends each ws) (all_ends other ws) a b (ends_same ws) h))

  mutual
    stmt_same : (s : Stmt) (a b : Around) → Around2 a b → R (pairs_in facts modes each s a) (pairs_in facts modes other s b)
    stmt_same (Do value) a b h = alike.none
    stmt_same (Idle node parts) a b h = alike.none
    stmt_same (Give node back value) a b h = if_same back a.returns b.returns h.returns
    stmt_same (Leave node leaving parts) a b h = left_same a b leaving h
    stmt_same (Select node ByConditions tests blocks) a b h = blocks_same blocks a b h
    stmt_same (Select node (ByLabels labels) tests blocks) a b h =
        let ws = waiting_first facts modes tests in
        blocks_same blocks (with_more (all_ends each ws) a) (with_more (all_ends other ws) b)
        (more_same (all_ends each ws) (all_ends other ws) a b (ends_same ws) h)
    stmt_same (Loop node While head body) a b h = block_same body (in_turn a) (in_turn b) (turn_same a b h)
    stmt_same (Loop node (Count place inclusive) head body) a b h =
        block_same body (in_turns facts modes each place head a) (in_turns facts modes other place head b) (turns_same place head a b h)
    stmt_same (Loop node (Each place) head body) a b h =
        block_same body (in_turns facts modes each place head a) (in_turns facts modes other place head b) (turns_same place head a b h)
    stmt_same (Raise node exception message) a b h = alike.none
    stmt_same (Try node body handlers last) a b h = alike.none

    block_same : (block : Stmts) (a b : Around) → Around2 a b → R (pairs_of facts modes each block a) (pairs_of facts modes other block b)
    block_same Empty a b h = alike.none
    block_same (Then first rest) a b h =
        alike.plus (pairs_in facts modes each first a) (pairs_of facts modes each rest a) (pairs_in facts modes other first b)
        (pairs_of facts modes other rest b) (stmt_same first a b h) (block_same rest a b h)
    block_same (Declare node place cursor value rest) a b h =
        block_same rest (in_scope facts modes each place a) (in_scope facts modes other place b) (scope_same place a b h)
    block_same (Defer node last rest) a b h = alike.none

    blocks_same : (blocks : Blocks) (a b : Around) → Around2 a b → R (block_pairs facts modes each blocks a) (block_pairs facts modes other blocks b)
    blocks_same (Otherwise block) a b h = block_same block a b h
    blocks_same (Block first rest) a b h =
        alike.plus (pairs_of facts modes each first a) (block_pairs facts modes each rest a) (pairs_of facts modes other first b)
        (block_pairs facts modes other rest b) (block_same first a b h) (blocks_same rest a b h)

  params_same : (params : List Param) → R (params_count facts modes each params) (params_count facts modes other params)
  params_same [] = alike.none
  params_same (param ∷ params) =
      alike.plus (place_counts facts modes each param.place) (params_count facts modes each params) (place_counts facts modes other param.place)
      (params_count facts modes other params) (if_same (is_hooked facts param.place.of) each other same) (params_same params)

  pub body_same : (params : List Param) (body : Body) → R (body_pairs facts modes each params body) (body_pairs facts modes other params body)
  body_same params body =
      let x = params_count facts modes each params in
      let y = params_count facts modes other params in
      let h = params_same params in
      let a : Around = record { breaks = 0; continues = 0; returns = x } in
      let b : Around = record { breaks = 0; continues = 0; returns = y } in
      alike.plus x (pairs_of facts modes each body.stmts a) y (pairs_of facts modes other body.stmts b) h
      (block_same body.stmts a b (record { breaks = alike.none; continues = alike.none; returns = h }))

  procs_same : (procs : List Proc) → R (procs_pairs facts modes each procs) (procs_pairs facts modes other procs)
  procs_same [] = alike.none
  procs_same (proc ∷ procs) =
      alike.plus (if_pairs facts modes each proc.params proc.body) (procs_pairs facts modes each procs) (if_pairs facts modes other proc.params proc.body)
      (procs_pairs facts modes other procs) (of_body proc.body) (procs_same procs)
    where
      of_body : (body : Option Body) → R (if_pairs facts modes each proc.params body) (if_pairs facts modes other proc.params body)
      of_body None = alike.none
      of_body (Some body) = body_same proc.params body

  pub all_same : (program : Program) → R (all_pairs facts modes each program) (all_pairs facts modes other program)
  all_same program =
      alike.plus (procs_pairs facts modes each program.procs) (body_pairs facts modes each [] program.start) (procs_pairs facts modes other program.procs)
      (body_pairs facts modes other [] program.start) (procs_same program.procs) (body_same [] program.start)

abbrev Nines : ℕ → ℕ → Type 0
Nines x y = x ≡ 9 * y

pub pairs_scaled : (modes : (proc position : ℕ) → Mode) (program : Program) → all_pairs program.facts modes 9 program ≡ 9 * program_pairs modes program
pairs_scaled modes program =
    all_same Nines (record { none = refl; plus = λ x y u v h g. omega (arith, h, g) }) program.facts modes 9 1 refl program

abbrev Nothing : ℕ → ℕ → Type 0
Nothing x y = x ≡ 0

pub no_pairs : (facts : Facts) (modes : (proc position : ℕ) → Mode) (params : List Param) (body : Body) → body_pairs facts modes 0 params body ≡ 0
no_pairs facts modes params body =
    body_same Nothing (record { none = refl; plus = λ x y u v h g. omega (arith, h, g) }) facts modes 0 0 refl params body
