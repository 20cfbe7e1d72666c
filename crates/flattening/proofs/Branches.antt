-- Flat code follows the statement `if`.
use Rattle.std.proofs.Common.{◌≡◌, ℕ, suc, ◌+◌, ◌*◌, ◌<◌, Bool, true, false, List, ◌∷◌, Some, refl, ◌∙◌, arith}
use Rattle.nim_types.specs.Types.{Ty, Facts}
use Rattle.nim_program.specs.declared.expr.Node.{Node}
use Rattle.nim_program.specs.declared.operation.Use.TheVariants.{Owned}
use Rattle.nim_program.specs.declared.program.Mode.{Mode}
use Rattle.nim_program.specs.Ints.{is_true}
use Rattle.nim_program.specs.Program.{ByConditions, Expr, Path, Args, NoArg, ByValue, ByPath, Select, Stmts, Blocks, Otherwise, Block, node_of}
use Rattle.nim_meaning.specs.Values.{Value, number_of}
use Rattle.nim_meaning.specs.State.{State}
use Rattle.nim_meaning.specs.ActTree.{Asks, Decides, Begins}
use Rattle.nim_meaning.specs.Ways.{At as Point}
use Rattle.nim_meaning.specs.Acts.{Does, branch, worked, with_trail}
use Rattle.nim_meaning.specs.Here.{Here}
use Rattle.nim_meaning.specs.Waiting.{waiting}
use Rattle.nim_meaning.specs.Meaning.{exec_all, first_block}
use Rattle.flat_code.specs.declared.line.Line.{Line}
use Rattle.flat_code.specs.declared.line.Line.TheVariants as L
use Rattle.flat_code.specs.Scene.{Temps}
use Rattle.flattening.specs.declared.numbers.Purpose.TheVariants.{End, Arm}
use Rattle.flattening.specs.Numbering.{width, widths, width_in, width_of, label}
use Rattle.flattening.specs.StmtLines.{Exits, lines_of, branch_lines}
use Rattle.flattening.specs.Flattened.{modes_of}
use Rattle.flattening.specs.Formed.{Scope, AllFormed, BlocksFormed}
use Rattle.flattening.proofs.Runs.{Runs, pays, spares}
use Rattle.flattening.proofs.Worlds.{since_none}
use Rattle.flattening.proofs.Temps.{kept_none, kept_wide}
use Rattle.flattening.proofs.Puts.{Puts, found, found_here, puts_none, puts_line, puts_label, puts_wide, ◌>>◌}
use Rattle.flattening.proofs.PutsParts.{puts_expr}
use Rattle.flattening.proofs.PutsStmts.{puts_stmts, puts_branches}
use Rattle.flattening.proofs.Spots.{Spot, here_of, there, after, goes, leaps}
use Rattle.flattening.proofs.Standing.{grounded, Stands, stands_since}
use Rattle.flattening.proofs.Acting.{CallsFollow}
use Rattle.flattening.proofs.Choices.{unless_is}
use Rattle.flattening.proofs.Exprs.{expr_follows}
use Rattle.flattening.proofs.Groups.{alone_follows, waits_listed}
use Rattle.flattening.proofs.Leaving.{puts_ends, Around, Reaches, reaches, reaches_later, Leads, leads_on, Left, further_left, rejoin, stays}
use Rattle.flattening.proofs.Stmts.{IsListedResult, StmtFollows, BlockFollows}
use Rattle.flattening.proofs.Widths.{some_width, width_of_blocks, turn_width}

module _ (c : Spot) (top : Bool) (room : ℕ → Type 0) (names : (proc place : ℕ) → Type 0) (calls : CallsFollow c names)
    (outermost : top ≡ true → c.level ≡ 0) (gives_listed : IsListedResult c.fixed.program.types c.result) where
  abbrev facts : Facts
  facts = c.fixed.program.facts

  abbrev types : List Ty
  types = c.fixed.program.types

  abbrev modes : (proc position : ℕ) → Mode
  modes = modes_of c.fixed.program c.fixed.plan

  abbrev here : Here
  here = here_of c

  abbrev Follows : Stmts → Type 1
  Follows block = BlockFollows c top room names calls outermost gives_listed block

  -- the block behind the first condition that holds, up to where the whole ends
  abbrev pub BranchesFollow : (tests : Args) (blocks : Blocks) → Type 1
  BranchesFollow tests blocks = (inside : Bool) (Open : Scope) → AllFormed (grounded c top room names) Open tests →
      BlocksFormed (grounded c top room names) inside Open blocks → (exits : Exits) (around : Around c exits inside) (t n : ℕ) → t < n → (k : List Line) →
      Reaches around n (L.Label (label End t) ∷ k) → Leads c n (branch_lines types facts modes c.result tests blocks exits t n (L.Label (label End t) ∷ k)) →
      (temps : Temps)
      (s : State) → Stands c room Open s.world →
      Runs c.fixed (Left c around (L.Label (label End t) ∷ k) n (n + (widths tests + width_of_blocks blocks)) temps s.world) 12 1
      (there c (branch_lines types facts modes c.result tests blocks exits t n (L.Label (label End t) ∷ k)) temps s.world) s.meter
      (first_block tests blocks here s)

  pub otherwise : (block : Stmts) → Follows block → BranchesFollow NoArg (Otherwise block)
  otherwise block follows inside Open f g exits around t n less k r l temps s h =
      spares 0 0 (omega arith) (omega arith)
      (further_left c around {lo' = n} {hi' = n + width_of block} (omega arith) (omega arith) (kept_none n _ temps) (since_none c.level s.world)
      (follows inside Open g exits around n (L.Label (label End t) ∷ k) r l temps s h))

  pub block_alone : (first : Stmts) (rest : Blocks) → Follows first → BranchesFollow NoArg (Block first rest)
  block_alone first rest follows inside Open f g exits around t n less k r l temps s h =
      spares 0 0 (omega arith) (omega arith)
      (further_left c around {lo' = n} {hi' = n + width_of first} (omega arith) (omega arith) (kept_none n _ temps) (since_none c.level s.world)
      (follows inside Open g.0 exits around n (L.Label (label End t) ∷ k) r l temps s h))

  pub no_test : (path : Path) (tests : Args) (blocks : Blocks) → BranchesFollow (ByPath path tests) blocks
  no_test path tests blocks inside Open f g exits around t n less k r l temps s h =
      stays c around s temps (omega arith) (kept_none n _ temps) (since_none c.level s.world)

  pub no_block : (condition : Expr) (tests : Args) (block : Stmts) → BranchesFollow (ByValue condition tests) (Otherwise block)
  no_block condition tests block inside Open f g exits around t n less k r l temps s h =
      stays c around s temps (omega arith) (kept_none n _ temps) (since_none c.level s.world)

  module _ (condition : Expr) (tests : Args) (first : Stmts) (rest : Blocks) (follows : Follows first) (more : BranchesFollow tests rest) (inside : Bool)
      (Open : Scope)
      (f : AllFormed (grounded c top room names) Open (ByValue condition tests)) (g : BlocksFormed (grounded c top room names) inside Open (Block first rest))
      (exits : Exits) (around : Around c exits inside) (t n : ℕ) (less : t < n) (k : List Line) (r : Reaches around n (L.Label (label End t) ∷ k)) where
    abbrev n2 : ℕ
    n2 = n + width condition

    abbrev n3 : ℕ
    n3 = n2 + width_of first

    abbrev hi : ℕ
    hi = n + (widths (ByValue condition tests) + width_of_blocks (Block first rest))

    abbrev ending : List Line
    ending = L.Label (label End t) ∷ k

    abbrev others : List Line
    others = branch_lines types facts modes c.result tests rest exits t n3 ending

    abbrev behind : List Line
    behind = L.Jump (label End t) ∷ L.Label (label Arm n) ∷ others

    abbrev block_lines : List Line
    block_lines = lines_of types facts modes c.result first exits n2 behind

    puts_others : Puts (4 * n) (4 * (n3 + (widths tests + width_of_blocks rest)))
        (λ k. L.Label (label Arm n) ∷ branch_lines types facts modes c.result tests rest exits t n3 k)
    puts_others =
        let w = some_width condition in
        puts_label (label Arm n) (omega arith) (omega (arith, w))
        >> puts_wide (omega arith) (omega arith) (puts_branches types facts modes c.result tests rest exits t n3 around.puts)

    end_is_found : found (label End t) (L.Label (label Arm n) ∷ others) ≡ Some ending
    end_is_found = puts_others.skips (label End t) ending (λ le. absurd (omega (arith, le, less))) ∙ found_here (label End t) k

    arm_is_found : found (label Arm n) block_lines ≡ Some (L.Label (label Arm n) ∷ others)
    arm_is_found =
        let w = some_width condition in
        (puts_stmts types facts modes c.result first exits n2 around.puts).skips (label Arm n) behind (λ le. absurd (omega (arith, le, w))) ∙ found_here
        (label Arm n) others

    module _ (l : Leads c n (branch_lines types facts modes c.result (ByValue condition tests) (Block first rest) exits t n ending)) where
      block_leads : Leads c n2 block_lines
      block_leads =
          leads_on {lo = 0} {hi = 4 * n2} (omega arith) (omega arith)
          (puts_wide (omega arith) (omega arith) (puts_expr types facts modes condition Owned n)
          >> (puts_ends c (waiting facts modes condition Owned) 0 (4 * n2) >> puts_line (L.Unless n (label Arm n)) refl)) l

      others_lead : Leads c n3 others
      others_lead =
          let w = some_width condition in
          leads_on {lo = 0} {hi = 4 * n3} (omega arith) (omega arith)
          (puts_wide {lo = 0} {hi = 4 * n3} (omega arith) (omega arith) (puts_stmts types facts modes c.result first exits n2 around.puts)
          >> (puts_line (L.Jump (label End t)) refl >> puts_label (label Arm n) (omega arith) (omega (arith, w)))) block_leads

      chosen : (b : Bool) (x : Value) (now : Temps) (d : State) → is_true (number_of x) ≡ b → now.values n ≡ Some x → Stands c room Open d.world →
          Runs c.fixed (Left c around ending n hi now d.world) 14 1 (there c (L.Unless n (label Arm n) ∷ block_lines) now d.world) d.meter
          (branch {A = Does (Unit {0})} b (exec_all first here) (first_block tests rest here) d)
      chosen true x now d is has h =
          goes c 13 1 (omega arith) (unless_is c now d.world n (label Arm n) x true has is)
          (rejoin c around {lo' = n2} {hi' = n3} 13 (omega arith) (omega arith) (omega arith) (omega arith) (omega arith) (kept_none n hi now)
          (since_none c.level d.world)
          (follows inside Open g.0 exits around n2 behind (reaches (omega arith) (omega arith)
          (puts_line (L.Jump (label End t)) refl >> puts_others) r) block_leads now d h)
          (λ b last kept since. leaps c 12 (label End t) 1 (omega arith) refl end_is_found (stays c around b last (omega arith) kept since)))
      chosen false x now d is has h =
          leaps c 13 (label Arm n) 1 (omega arith) (unless_is c now d.world n (label Arm n) x false has is) arm_is_found
          (goes c 12 1 (omega arith) refl
          (further_left c around (omega arith) (omega arith) (kept_none n hi now) (since_none c.level d.world)
          (more inside Open f.1 g.1 exits around t n3 (omega (arith, less)) k (reaches_later (omega arith) r) others_lead now d h)))

  pub a_branch : (condition : Expr) (tests : Args) (first : Stmts) (rest : Blocks) → Follows first → BranchesFollow tests rest →
      BranchesFollow (ByValue condition tests) (Block first rest)
  a_branch condition tests first rest follows more inside Open f g exits around t n less k r l temps s h =
      let number = (node_of condition).number in
      let block = block_lines condition tests first rest follows more inside Open f g exits around t n less k r in
      after 14 (omega arith) (omega arith)
      (alone_follows c top room names Open condition Owned (waits_listed c top room names Open condition Owned f.0)
      (expr_follows c top room names Open calls condition f.0) n (L.Unless n (label Arm n) ∷ block) temps (with_trail (Point number Asks ∷ s.trail) s) h)
      (λ x b now comes kept since.
      further_left c around {lo' = n} {hi' = hi condition tests first rest follows more inside Open f g exits around t n less k r} (omega arith) (omega arith)
      (kept_wide (omega arith) (omega arith) kept) since
      (chosen condition tests first rest follows more inside Open f g exits around t n less k r l (is_true (number_of x)) x now
      (with_trail (Point number Decides ∷ b.trail) b) refl comes (stands_since h since)))

  pub by_conditions : (node : Node) (tests : Args) (blocks : Blocks) → BranchesFollow tests blocks →
      StmtFollows c top room names calls outermost gives_listed (Select node ByConditions tests blocks)
  by_conditions node tests blocks follows inside Open f exits around t k r l temps s h =
      let hi = t + width_in (Select node ByConditions tests blocks) in
      let w = turn_width tests blocks in
      pays 12 1 (omega arith)
      (rejoin c around {lo' = suc t} {hi' = suc t + (widths tests + width_of_blocks blocks)} 1 (omega arith) (omega arith) (omega arith) (omega arith)
      (omega (arith, w))
      (kept_none t hi temps) (since_none c.level s.world)
      (follows inside Open f.2 f.3 exits around t (suc t) (omega arith) k
      (reaches {lo = 4 * t} {hi = 4 * t + 2} (omega arith) (omega arith) (puts_label (label End t) (omega arith) (omega arith)) r)
      (leads_on {lo = 0} {hi = 0} {F = λ k. k} (omega arith) (omega arith) puts_none l) temps
      (with_trail (Point node.number Begins ∷ s.trail) (worked 1 s)) h)
      (λ b last kept since. goes c 0 1 (omega arith) refl (stays c around b last (omega arith) kept since)))
