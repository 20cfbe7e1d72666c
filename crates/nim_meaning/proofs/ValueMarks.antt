-- In an expression's acts no mark stands oftener than the expression weighs.
use Rattle.std.proofs.Common.{◌≡◌, refl, ap, arith, ◌≤◌, ℕ, suc, ◌+◌, Bool, true, false, ◌&&◌, if◌then◌else◌, List, [], ◌∷◌, Option, Some, None}
use Rattle.nim_types.specs.Types.{Ty}
use Rattle.nim_program.specs.declared.operation.Short.{Short}
use Rattle.nim_program.specs.declared.operation.Short.TheVariants.{And, Or}
use Rattle.nim_program.specs.declared.operation.Use.{Use}
use Rattle.nim_program.specs.declared.operation.Use.TheVariants.{Owned, Given, Held, Lent, Looked}
use Rattle.nim_program.specs.declared.program.Mode.{Mode}
use Rattle.nim_program.specs.Program as T
use Rattle.nim_program.specs.Program.{Label, Literal, Expr, Args, type_of, node_of, node_at, constant_in}
use Rattle.nim_program.specs.Folds.{by_constant, if_constant, begun_by, numbers, total, total_at, totals}
use Rattle.nim_program.specs.Uses.{use_of}
use Rattle.nim_meaning.specs.ActTree.{Root, Temporary, Path, Operands, Role, Does, Fills, Chooses, Turns, Asks, Decides}
use Rattle.nim_meaning.specs.ActTree.{Act, Look, Operate, Control, Do, Choose, Loop, Group, Arms, No_arm, An_arm, Acts, Done, Then}
use Rattle.nim_meaning.specs.Shapes.{is_covered, is_last_value, is_held, waits, waits_from}
use Rattle.nim_meaning.specs.ActsOf.{path_of, one_act, used, read_act, makes, ended, either, early_arms, act_by, done_by}
use Rattle.nim_meaning.specs.ActsOf.{receiver, looked_at, is_hooked, works_on, read_acts, acts_of, aimed, ready_acts, first_acts, selected_acts, value_arms}
use Rattle.nim_meaning.specs.Marks.{Mark, Spot, Scope}
use Rattle.nim_meaning.proofs.RunParts.{act_makes_none}
use Rattle.nim_meaning.proofs.MarkCounts.{one, scopes_of, arms_weight, weight, all_weight, marked_within, ended_weight}
use Rattle.nim_meaning.proofs.MarkWeights.{inner, node_weight, own, inner_roles, outer_roles}

module _ (m : Mark) where
  -- acts that put so much before any rest, and acts that hold so much
  pub record Puts (w : ℕ) (F : Acts → Acts) : Type 0 where
    pub it : (rest : Acts) → all_weight m (F rest) ≤ w + all_weight m rest

  pub record Holds (w : ℕ) (b : Acts) : Type 0 where
    pub it : all_weight m b ≤ w

  pub record ArmsHold (w : ℕ) (arms : Arms) : Type 0 where
    pub it : arms_weight m arms ≤ w

  pub puts_none : Puts 0 (λ r. r)
  puts_none = record { it = λ rest. omega arith }

  pub puts_at_most : {F : Acts → Acts} (v w : ℕ) → v ≤ w → Puts v F → Puts w F
  puts_at_most v w le f = record { it = λ rest. let h = f.it rest in omega (arith, le, h) }

  pub puts_then : {F G : Acts → Acts} (v w u : ℕ) → v + w ≤ u → Puts v F → Puts w G → Puts u (λ r. F (G r))
  puts_then {F} {G} v w u le f g = record { it = λ rest. let h = f.it (G rest) in let k = g.it rest in omega (arith, le, h, k) }

  pub puts_control : (s : Control) (w : ℕ) → weight m s ≤ w → Puts w (λ b. Then s b)
  puts_control s w le = record { it = λ rest. omega (arith, le) }

  pub holds_all : {F : Acts → Acts} (w : ℕ) → Puts w F → Holds w (F Done)
  holds_all w f = record { it = let h = f.it Done in omega (arith, h) }

  pub holds_then : {F : Acts → Acts} {b : Acts} (v w u : ℕ) → v + w ≤ u → Puts v F → Holds w b → Holds u (F b)
  holds_then {F} {b} v w u le f g = record { it = let h = f.it b in let k = g.it in omega (arith, le, h, k) }

  pub holds_at_most : {b : Acts} (v w : ℕ) → v ≤ w → Holds v b → Holds w b
  holds_at_most v w le f = record { it = let h = f.it in omega (arith, le, h) }

  pub holds_ended : {b : Acts} (w : ℕ) → Holds w b → Holds w (ended b)
  holds_ended {b} w f = record { it = let e = ended_weight m b in let h = f.it in omega (arith, e, h) }

  pub puts_group : {b : Acts} (n : ℕ) (r : Role) (w : ℕ) → Holds w b → Puts (one m (Spot n r) + w) (λ rest. Then (Group n r b) rest)
  puts_group {b} n r w f =
      puts_control (Group n r b) (one m (Spot n r) + w) (let h = f.it in let e = marked_within m b in omega (arith, h, e))

  pub puts_choice : {arms : Arms} (n : ℕ) (r : Role) (w : ℕ) → ArmsHold w arms → Puts (one m (Spot n r) + w) (λ rest. Then (Choose n r arms) rest)
  puts_choice {arms} n r w f = puts_control (Choose n r arms) (one m (Spot n r) + w) (let h = f.it in omega (arith, h))

  pub puts_loop : {c b : Acts} (n : ℕ) (v w : ℕ) → Holds v c → Holds w b →
      Puts (one m (Spot n Turns) + (one m (Spot n Chooses) + (v + w))) (λ rest. Then (Loop n c b) rest)
  puts_loop {c} {b} n v w f g =
      puts_control (Loop n c b) (one m (Spot n Turns) + (one m (Spot n Chooses) + (v + w)))
      (let h = f.it in let k = g.it in let d = marked_within m c in let e = marked_within m b in omega (arith, h, k, d, e))

  pub no_arm_holds : ArmsHold 0 No_arm
  no_arm_holds = record { it = omega arith }

  pub arm_holds : {a : Acts} {rest : Arms} (v w u : ℕ) → v + w ≤ u → Holds v a → ArmsHold w rest → ArmsHold u (An_arm a rest)
  arm_holds v w u le f g = record { it = let h = f.it in let k = g.it in omega (arith, le, h, k) }

  pub arms_if : {arms : Arms} (last : Bool) (w : ℕ) → ArmsHold w arms → ArmsHold w (if last then No_arm else arms)
  arms_if true w f = record { it = omega arith }
  arms_if false w f = f

  pub done_holds : (w : ℕ) → Holds w Done
  done_holds w = record { it = omega arith }

  pub either_holds : {a b : Acts} (n : ℕ) (r : Role) (v w : ℕ) → Holds v a → Holds w b → Holds (one m (Spot n r) + (v + w)) (either n r a b)
  either_holds {a} {b} n r v w f g = record { it = let h = f.it in let k = g.it in omega (arith, h, k) }

  -- ---- what a node does

  -- an act that makes no temporary
  pub puts_act : (n : ℕ) (r : Role) (a : Act) → makes a ≡ [] → Puts (one m (Spot n r)) (λ b. Then (Do n r a) b)
  puts_act n r a e = puts_control (Do n r a) (one m (Spot n r)) (let f : scopes_of m (makes a) ≡ 0 = ap (scopes_of m) e in omega (arith, f))

  puts_done : (n : ℕ) (a : T.Act) (operands : Args) (on : Operands) → Puts (one m (Spot n Does)) (λ b. Then (done_by n a operands on) b)
  puts_done n (T.Doing operation) operands on = puts_act n Does (act_by operation operands on) (act_makes_none operation operands on)
  puts_done n (T.Building fields) operands on = puts_act n Does (Operate on) refl
  puts_done n (T.Giving literal) operands on = puts_act n Does (Operate on) refl
  puts_done n (T.Calling proc types) operands on = puts_control _ (one m (Spot n Does)) (omega arith)

  abbrev temporary : ℕ → ℕ
  temporary n = one m (Spot n Fills) + one m (Scope (Temporary n))

  puts_used : (waits : Bool) (n : ℕ) → Puts (temporary n) (used waits n)
  puts_used true n = puts_control _ (temporary n) (omega arith)
  puts_used false n = puts_at_most 0 (temporary n) (omega arith) puts_none

  abbrev Reads : Bool → Use → Option Root → ℕ → Path → Type 0
  Reads hook how to n path = Puts (one m (Spot n Does) + temporary n) (λ r. one_act n Does (read_act hook how to n path) (used (hook && is_held how) n r))

  looks_only : (n : ℕ) (a : Act) → makes a ≡ [] → Puts (one m (Spot n Does) + temporary n) (λ b. Then (Do n Does a) b)
  looks_only n a e = puts_at_most (one m (Spot n Does)) (one m (Spot n Does) + temporary n) (omega arith) (puts_act n Does a e)

  puts_read : (hook : Bool) (how : Use) (to : Option Root) (n : ℕ) (path : Path) → Reads hook how to n path
  puts_read false how to n path = looks_only n (read_act false how to n path) refl
  puts_read true Owned to n path = looks_only n (read_act true Owned to n path) refl
  puts_read true Given to n path = looks_only n (read_act true Given to n path) refl
  puts_read true Held to n path =
      puts_then (one m (Spot n Does)) (temporary n) (one m (Spot n Does) + temporary n) (omega arith)
      (puts_act n Does (read_act true Held to n path) refl) (puts_used true n)
  puts_read true Lent to n path = puts_control _ (one m (Spot n Does) + temporary n) (omega arith)
  puts_read true Looked to n path = looks_only n (read_act true Looked to n path) refl

  -- ---- weights of expressions

  abbrev pub of_value : Expr → ℕ
  of_value = total numbers (own m)

  abbrev pub of_path : Bool → T.Path → ℕ
  of_path = total_at numbers (own m)

  abbrev pub of_args : Args → ℕ
  of_args = totals numbers (own m)

  -- without the node itself
  abbrev mutual
    pub behind : Expr → ℕ
    behind (T.Apply node ty act operands) = of_args operands
    behind (T.Read path) = behind_at path
    behind (T.Early node ty short left right) = of_value left + of_value right
    behind (T.Choose node ty chooser parts) = of_args parts

    pub behind_at : T.Path → ℕ
    behind_at (T.Variable node ty place global) = 0
    behind_at (T.Fresh value) = by_constant (constant_in value) (λ literal. 0) (behind value)
    behind_at (T.Field node ty base field) = of_path false base
    behind_at (T.Element node ty base index constant) = of_path false base + of_value index
    behind_at (T.Deref ty base) = behind_at base

  with_constant : (c : Option Literal) (read : Bool) (value : Expr) → of_value value ≡ node_weight m (node_of value).number + behind value →
      if_constant c (own m (begun_by c read value)) (own m (begun_by c read value) + of_value value)
      ≡ node_weight m (node_of value).number + by_constant c (λ literal. 0) (behind value)
  with_constant None read value e = omega (arith, e)
  with_constant (Some literal) read value e = omega arith

  mutual
    pub with_node : (e : Expr) → of_value e ≡ node_weight m (node_of e).number + behind e
    with_node (T.Apply node ty act operands) = refl
    with_node (T.Read path) = with_node_at true path
    with_node (T.Early node ty short left right) = refl
    with_node (T.Choose node ty chooser parts) = refl

    pub with_node_at : (read : Bool) (path : T.Path) → of_path read path ≡ node_weight m (node_at path).number + behind_at path
    with_node_at read (T.Variable node ty place global) = omega arith
    with_node_at read (T.Fresh value) = with_constant (constant_in value) read value (with_node value)
    with_node_at read (T.Field node ty base field) = refl
    with_node_at read (T.Element node ty base index constant) = refl
    with_node_at read (T.Deref ty base) = let e = with_node_at false base in omega (arith, e)

  -- ---- expressions

  -- with all marks of its node
  pub entire : {F : Acts → Acts} (e : Expr) → Puts (inner m (node_of e).number + behind e) F → Puts (of_value e) F
  entire e f = puts_at_most (inner m (node_of e).number + behind e) (of_value e) (let h = with_node e in omega (arith, h)) f

  -- alone, with its temporaries
  pub alone : {F : Acts → Acts} (e : Expr) → Puts (inner m (node_of e).number + behind e) F → Holds (of_value e) (ended (F Done))
  alone e f = holds_ended (of_value e) (holds_all (of_value e) (entire e f))

  early_hold : (short : Short) {b : Acts} (w : ℕ) → Holds w b → ArmsHold w (early_arms short b)
  early_hold And w f = arm_holds w 0 w (omega arith) f (arm_holds 0 0 0 (omega arith) (done_holds 0) no_arm_holds)
  early_hold Or w f = arm_holds 0 w w (omega arith) (done_holds 0) (arm_holds w 0 w (omega arith) f no_arm_holds)

  puts_looked : (path : T.Path) → Puts (inner m (node_at path).number) (looked_at path)
  puts_looked (T.Variable node ty place global) =
      let r = inner_roles m node.number in
      puts_at_most (one m (Spot node.number Does)) (inner m node.number) (omega (arith, r))
      (puts_act node.number Does (Look (path_of (T.Variable node ty place global))) refl)
  puts_looked (T.Fresh value) = puts_at_most 0 (inner m (node_of value).number) (omega arith) puts_none
  puts_looked (T.Field node ty base field) =
      let r = inner_roles m node.number in
      puts_at_most (one m (Spot node.number Does)) (inner m node.number) (omega (arith, r))
      (puts_act node.number Does (Look (path_of (T.Field node ty base field))) refl)
  puts_looked (T.Element node ty base index constant) =
      let r = inner_roles m node.number in
      puts_at_most (one m (Spot node.number Does)) (inner m node.number) (omega (arith, r))
      (puts_act node.number Does (Look (path_of (T.Element node ty base index constant))) refl)
  puts_looked (T.Deref ty base) = puts_at_most 0 (inner m (node_at base).number) (omega arith) puts_none

  module _ (hooked : Ty → Bool) (at_call : ℕ → ℕ → Mode) where
    -- an act behind operands, and the value that waits
    puts_apply : (n : ℕ) (a : T.Act) (operands : Args) (on : Operands) (waits : Bool) →
        Puts (inner m n) (λ r. Then (done_by n a operands on) (used waits n r))
    puts_apply n a operands on waits =
        let r = inner_roles m n in
        puts_then (one m (Spot n Does)) (temporary n) (inner m n) (omega (arith, r)) (puts_done n a operands on) (puts_used waits n)

    read_at_node : (n : ℕ) (hook : Bool) (how : Use) (to : Option Root) (path : Path) →
        Puts (inner m n) (λ r. one_act n Does (read_act hook how to n path) (used (hook && is_held how) n r))
    read_at_node n hook how to path =
        let r = inner_roles m n in
        puts_at_most (one m (Spot n Does) + temporary n) (inner m n) (omega (arith, r)) (puts_read hook how to n path)

    -- a constant that a path begins with is read where it stands, and another value is evaluated
    aimed_from : (c : Option Literal) (value : Expr) → Puts (of_value value) (acts_of hooked at_call Looked None value) →
        Puts (if_constant c (own m (begun_by c false value)) (own m (begun_by c false value) + of_value value))
        (λ r. by_constant c (λ literal. r) (acts_of hooked at_call Looked None value r))
    aimed_from None value f = puts_at_most (of_value value) (0 + of_value value) (omega arith) f
    aimed_from (Some literal) value f = puts_at_most 0 (node_weight m (node_of value).number) (omega arith) puts_none

    aimed_whole : (c : Option Literal) (value : Expr) →
        Puts (inner m (node_of value).number + behind value) (acts_of hooked at_call Looked None value) →
        Puts (inner m (node_of value).number + by_constant c (λ literal. 0) (behind value))
        (λ r. by_constant c (λ literal. r) (acts_of hooked at_call Looked None value r))
    aimed_whole None value f = f
    aimed_whole (Some literal) value f = puts_at_most 0 (inner m (node_of value).number + 0) (omega arith) puts_none

    mutual
      -- a node's own marks, and those of what is behind it
      pub puts_value : (how : Use) (to : Option Root) (e : Expr) → Puts (inner m (node_of e).number + behind e) (acts_of hooked at_call how to e)
      puts_value how to (T.Apply node ty act operands) =
          puts_then (of_args operands) (inner m node.number) (inner m node.number + of_args operands) (omega arith)
          (puts_ready (use_of at_call act) 0 (receiver operands) operands)
          (puts_apply node.number act operands (works_on hooked at_call act 0 operands) (is_hooked hooked at_call ty && waits_from act how))
      puts_value how to (T.Read path) = puts_path how to path
      puts_value how to (T.Early node ty short left right) =
          let r = inner_roles m node.number in
          let e = with_node left in
          puts_then (inner m (node_of left).number + behind left) (one m (Spot node.number Chooses) + of_value right)
          (inner m node.number + (of_value left + of_value right)) (omega (arith, r, e))
          (puts_value Owned None left)
          (puts_choice node.number Chooses (of_value right)
          (early_hold short (of_value right) (holds_all (of_value right) (entire right (puts_value Owned None right)))))
      puts_value how to (T.Choose node ty T.ByConditions parts) =
          let r = inner_roles m node.number in
          puts_then (one m (Spot node.number Chooses) + of_args parts) (temporary node.number) (inner m node.number + of_args parts) (omega (arith, r))
          (puts_group node.number Chooses (of_args parts) (first_holds parts)) (puts_used (is_hooked hooked at_call ty && waits how) node.number)
      puts_value how to (T.Choose node ty (T.ByLabels labels) parts) =
          let r = inner_roles m node.number in
          puts_then (one m (Spot node.number Chooses) + of_args parts) (temporary node.number) (inner m node.number + of_args parts) (omega (arith, r))
          (puts_selected node.number labels parts) (puts_used (is_hooked hooked at_call ty && waits how) node.number)

      puts_path : (how : Use) (to : Option Root) (path : T.Path) →
          Puts (inner m (node_at path).number + behind_at path) (λ r. aimed hooked at_call path (read_acts hooked at_call how to path r))
      puts_path how to (T.Variable node ty place global) =
          puts_at_most (inner m node.number) (inner m node.number + 0) (omega arith)
          (read_at_node node.number (hooked ty) how to (path_of (T.Variable node ty place global)))
      puts_path how to (T.Fresh value) = aimed_whole (constant_in value) value (puts_value Looked None value)
      puts_path how to (T.Field node ty base field) =
          puts_then (of_path false base) (inner m node.number) (inner m node.number + of_path false base) (omega arith) (puts_aimed base)
          (read_at_node node.number (hooked ty) how to (path_of (T.Field node ty base field)))
      puts_path how to (T.Element node ty base index constant) =
          puts_then (of_path false base + of_value index) (inner m node.number) (inner m node.number + (of_path false base + of_value index)) (omega arith)
          (puts_then (of_path false base) (of_value index) (of_path false base + of_value index) (omega arith) (puts_aimed base)
          (entire index (puts_value Owned None index)))
          (read_at_node node.number (hooked ty) how to (path_of (T.Element node ty base index constant)))
      puts_path how to (T.Deref ty base) = aimed_at_node base

      -- what a path needs, within the marks of its last node
      aimed_at_node : (path : T.Path) → Puts (inner m (node_at path).number + behind_at path) (aimed hooked at_call path)
      aimed_at_node (T.Variable node ty place global) = puts_at_most 0 (inner m node.number + 0) (omega arith) puts_none
      aimed_at_node (T.Fresh value) = aimed_whole (constant_in value) value (puts_value Looked None value)
      aimed_at_node (T.Field node ty base field) =
          puts_at_most (of_path false base) (inner m node.number + of_path false base) (omega arith) (puts_aimed base)
      aimed_at_node (T.Element node ty base index constant) =
          puts_then (of_path false base) (of_value index) (inner m node.number + (of_path false base + of_value index)) (omega arith)
          (puts_aimed base) (entire index (puts_value Owned None index))
      aimed_at_node (T.Deref ty base) = aimed_at_node base

      pub puts_aimed : (path : T.Path) → Puts (of_path false path) (aimed hooked at_call path)
      puts_aimed (T.Variable node ty place global) = puts_at_most 0 (node_weight m node.number) (omega arith) puts_none
      puts_aimed (T.Fresh value) =
          aimed_from (constant_in value) value (entire value (puts_value Looked None value))
      puts_aimed (T.Field node ty base field) =
          puts_at_most (of_path false base) (node_weight m node.number + of_path false base) (omega arith) (puts_aimed base)
      puts_aimed (T.Element node ty base index constant) =
          puts_then (of_path false base) (of_value index) (node_weight m node.number + (of_path false base + of_value index)) (omega arith)
          (puts_aimed base) (entire index (puts_value Owned None index))
      puts_aimed (T.Deref ty base) = puts_at_most (of_path false base) (0 + of_path false base) (omega arith) (puts_aimed base)

      pub puts_ready : (uses : ℕ → Use) (i : ℕ) (to : Option Root) (args : Args) → Puts (of_args args) (ready_acts hooked at_call uses i to args)
      puts_ready uses i to T.NoArg = puts_none
      puts_ready uses i to (T.ByValue value rest) =
          puts_then (of_value value) (of_args rest) (of_value value + of_args rest) (omega arith) (entire value (puts_value (uses i) to value))
          (puts_ready uses (suc i) to rest)
      puts_ready uses i to (T.ByPath path rest) =
          puts_then (of_path false path) (of_args rest) (of_path false path + of_args rest) (omega arith) (puts_aimed path)
          (puts_ready uses (suc i) to rest)

      first_holds : (parts : Args) → Holds (of_args parts) (first_acts hooked at_call parts)
      first_holds T.NoArg = done_holds 0
      first_holds (T.ByPath path rest) = done_holds (of_args (T.ByPath path rest))
      first_holds (T.ByValue last T.NoArg) =
          holds_at_most (of_value last) (of_value last + 0) (omega arith) (alone last (puts_value Owned None last))
      first_holds (T.ByValue condition (T.ByPath path rest)) = done_holds (of_args (T.ByValue condition (T.ByPath path rest)))
      first_holds (T.ByValue condition (T.ByValue value rest)) =
          let n = (node_of condition).number in
          let r = outer_roles m n in
          let e = with_node condition in
          holds_then (one m (Spot n Asks) + (inner m n + behind condition)) (one m (Spot n Decides) + (of_value value + of_args rest))
          (of_value condition + (of_value value + of_args rest)) (omega (arith, r, e))
          (puts_group n Asks (inner m n + behind condition) (holds_ended (inner m n + behind condition)
          (holds_all (inner m n + behind condition) (puts_value Owned None condition))))
          (either_holds n Decides (of_value value) (of_args rest) (alone value (puts_value Owned None value)) (first_holds rest))

      puts_selected : (n : ℕ) (labels : List (List Label)) (parts : Args) →
          Puts (one m (Spot n Chooses) + of_args parts) (selected_acts hooked at_call n labels parts)
      puts_selected n labels T.NoArg = puts_at_most 0 (one m (Spot n Chooses) + 0) (omega arith) puts_none
      puts_selected n labels (T.ByValue selector values) =
          puts_then (of_value selector) (one m (Spot n Chooses) + of_args values) (one m (Spot n Chooses) + (of_value selector + of_args values))
          (omega arith) (entire selector (puts_value Looked None selector))
          (puts_choice n Chooses (of_args values) (arms_hold (is_covered (type_of selector)) labels values))
      puts_selected n labels (T.ByPath path values) =
          let e = with_node_at false path in
          puts_then (of_path false path) (one m (Spot n Chooses) + of_args values) (one m (Spot n Chooses) + (of_path false path + of_args values))
          (omega arith) (puts_in_place path)
          (puts_choice n Chooses (of_args values) (arms_hold (is_covered (T.type_at path)) labels values))

      -- a path that is read in place
      pub puts_in_place : (path : T.Path) → Puts (of_path false path) (λ r. aimed hooked at_call path (looked_at path r))
      puts_in_place (T.Variable node ty place global) =
          puts_at_most (inner m node.number) (node_weight m node.number) (omega arith) (puts_looked (T.Variable node ty place global))
      puts_in_place (T.Fresh value) = aimed_from (constant_in value) value (entire value (puts_value Looked None value))
      puts_in_place (T.Field node ty base field) =
          puts_then (of_path false base) (inner m node.number) (node_weight m node.number + of_path false base) (omega arith) (puts_aimed base)
          (puts_looked (T.Field node ty base field))
      puts_in_place (T.Element node ty base index constant) =
          puts_then (of_path false base + of_value index) (inner m node.number) (node_weight m node.number + (of_path false base + of_value index))
          (omega arith)
          (puts_then (of_path false base) (of_value index) (of_path false base + of_value index) (omega arith) (puts_aimed base)
          (entire index (puts_value Owned None index)))
          (puts_looked (T.Element node ty base index constant))
      puts_in_place (T.Deref ty base) = puts_at_most (of_path false base) (0 + of_path false base) (omega arith) (puts_aimed base)

      arms_hold : (covered : Bool) (labels : List (List Label)) (values : Args) → ArmsHold (of_args values) (value_arms hooked at_call covered labels values)
      arms_hold covered labels T.NoArg = arm_holds 0 0 0 (omega arith) (done_holds 0) no_arm_holds
      arms_hold covered labels (T.ByPath path rest) =
          arm_holds 0 0 (of_args (T.ByPath path rest)) (omega arith) (done_holds 0) no_arm_holds
      arms_hold covered [] (T.ByValue value rest) =
          arm_holds (of_value value) 0 (of_value value + of_args rest) (omega arith) (alone value (puts_value Owned None value)) no_arm_holds
      arms_hold covered (these ∷ labels) (T.ByValue value rest) =
          arm_holds (of_value value) (of_args rest) (of_value value + of_args rest) (omega arith) (alone value (puts_value Owned None value))
          (arms_if (covered && is_last_value rest) (of_args rest) (arms_hold covered labels rest))
