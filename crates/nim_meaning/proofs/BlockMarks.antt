-- In a block's acts no mark stands oftener than the block weighs.
use Rattle.std.proofs.Common.{◌≡◌, refl, arith, ℕ, ◌+◌, Bool, true, false, ◌&&◌, if◌then◌else◌, List, [], ◌∷◌, Option, Some, None}
use Rattle.nim_types.specs.Types.{Ty}
use Rattle.nim_program.specs.declared.operation.Use.TheVariants.{Owned, Given, Looked}
use Rattle.nim_program.specs.declared.program.Mode.{Mode}
use Rattle.nim_program.specs.declared.stmt.Leaving.{Leaving}
use Rattle.nim_program.specs.declared.stmt.Leaving.TheVariants as K
use Rattle.nim_program.specs.Program as T
use Rattle.nim_program.specs.Program.{Label, Args, Declared, Stmt, Stmts, Blocks, node_of, last_after, last_of}
use Rattle.nim_program.specs.Folds.{loop_places, numbers, total_in, total_of}
use Rattle.nim_program.proofs.ForCallers.{sum_of_blocks, in_turn_sum}
use Rattle.nim_meaning.specs.ActTree.{Path, Named, Begins, Does, Fills, Looks, Chooses, Turns, Asks, Decides, Leaves, Pass, Fill, Lend, Index, Bind, Acts, Then}
use Rattle.nim_meaning.specs.Shapes.{selector_type, is_covered, is_last_block}
use Rattle.nim_meaning.specs.ActsOf.{makes, ended, result_act, result_root, back_or_on, left, looked_up, path_before, site_at, scope, element_act}
use Rattle.nim_meaning.specs.ActsOf.{condition_acts, head_acts, loop_acts}
use Rattle.nim_meaning.specs.ActsOf.{selector_acts, stmt_acts, stmts_acts, first_block_acts, block_arms}
use Rattle.nim_meaning.specs.Marks.{Mark, Spot}
use Rattle.nim_meaning.proofs.RunParts.{looked_makes_none, result_makes_none}
use Rattle.nim_meaning.proofs.MarkCounts.{one, marked_within}
use Rattle.nim_meaning.proofs.MarkWeights.{inner, node_weight, place_weight, with_places, own, inner_roles, outer_roles}
use Rattle.nim_meaning.proofs.ValueMarks.{Puts, Holds, ArmsHold, puts_none, puts_at_most, puts_then, puts_control, holds_all, holds_then, holds_at_most}
use Rattle.nim_meaning.proofs.ValueMarks.{holds_ended}
use Rattle.nim_meaning.proofs.ValueMarks.{puts_group, puts_choice, puts_loop, no_arm_holds, arm_holds, arms_if, done_holds, either_holds, puts_act, of_value}
use Rattle.nim_meaning.proofs.ValueMarks.{of_path}
use Rattle.nim_meaning.proofs.ValueMarks.{of_args, behind, with_node, entire, alone, puts_value, puts_ready, puts_in_place}

module _ (m : Mark) (hooked : Ty → Bool) (at_call : ℕ → ℕ → Mode) where
  pub scope_holds : {b : Acts} (place : Declared) (last w : ℕ) → Holds m w b → Holds m (place_weight m place + w) (scope hooked at_call place last b)
  scope_holds {b} place last w f = by (hooked place.of)
    where
      by : (c : Bool) → Holds m (place_weight m place + w) (if c then Bind (Named place.number) last b else b)
      by true = record { it = let h = f.it in let e = marked_within m b in omega (arith, h, e) }
      by false = holds_at_most m w (place_weight m place + w) (omega arith) f

  -- ---- loops

  head_puts : (head : Args) → Puts m (of_args m head) (head_acts hooked at_call head)
  head_puts head = puts_ready m hooked at_call (λ i. Owned) 0 None head

  test_holds : (head : Args) → Holds m (of_args m head) (ended (condition_acts hooked at_call head))
  test_holds T.NoArg = done_holds m 0
  test_holds (T.ByValue condition rest) =
      holds_at_most m (of_value m condition) (of_value m condition + of_args m rest) (omega arith)
      (alone m condition (puts_value m hooked at_call Owned None condition))
  test_holds (T.ByPath path rest) = done_holds m (of_args m (T.ByPath path rest))

  either_makes_none : (c : Bool) (site : Option ℕ) (place : ℕ) (path : Path) → makes (if c then Lend site (Named place) path else Fill (Named place)) ≡ []
  either_makes_none true site place path = refl
  either_makes_none false site place path = refl

  element_makes_none : (variable : Declared) (head : Args) → makes (element_act hooked at_call variable head) ≡ []
  element_makes_none variable T.NoArg = refl
  element_makes_none variable (T.ByValue value rest) = refl
  element_makes_none variable (T.ByPath path rest) =
      either_makes_none (hooked variable.of) (site_at path) variable.number (path_before path (Index None ∷ []))

  loop_puts : {b : Acts} (n : ℕ) (kind : T.Kind) (head : Args) (last w : ℕ) → Holds m w b →
      Puts m (with_places m (loop_places kind) (node_weight m n) + (of_args m head + w)) (loop_acts hooked at_call n kind head last b)
  loop_puts n T.While head last w f =
      let r = inner_roles m n in
      puts_at_most m (one m (Spot n Turns) + (one m (Spot n Chooses) + (of_args m head + w))) (node_weight m n + (of_args m head + w))
      (omega (arith, r)) (puts_loop m n (of_args m head) w (test_holds head) f)
  loop_puts n (T.Count variable inclusive) head last w f =
      let r = inner_roles m n in
      let o = outer_roles m n in
      let v = place_weight m variable in
      let turn = one m (Spot n Fills) + (v + w) in
      let loop = one m (Spot n Turns) + (one m (Spot n Chooses) + (0 + turn)) in
      puts_at_most m (one m (Spot n Begins) + (of_args m head + loop)) ((v + node_weight m n) + (of_args m head + w)) (omega (arith, r, o))
      (puts_group m n Begins (of_args m head + loop) (holds_ended m (of_args m head + loop) (holds_all m (of_args m head + loop)
      (puts_then m (of_args m head) loop (of_args m head + loop) (omega arith) (head_puts head)
      (puts_loop m n 0 turn (done_holds m 0)
      (holds_then m (one m (Spot n Fills)) (v + w) turn (omega arith) (puts_act m n Fills (Fill (Named variable.number)) refl)
      (scope_holds variable last w f)))))))
  loop_puts n (T.Each variable) head last w f =
      let r = inner_roles m n in
      let o = outer_roles m n in
      let v = place_weight m variable in
      let turn = one m (Spot n Does) + (one m (Spot n Fills) + (v + w)) in
      let loop = one m (Spot n Turns) + (one m (Spot n Chooses) + (0 + turn)) in
      let looks = one m (Spot n Looks) + loop in
      puts_at_most m (one m (Spot n Begins) + (of_args m head + looks)) ((v + node_weight m n) + (of_args m head + w)) (omega (arith, r, o))
      (puts_group m n Begins (of_args m head + looks) (holds_ended m (of_args m head + looks) (holds_all m (of_args m head + looks)
      (puts_then m (of_args m head) looks (of_args m head + looks) (omega arith) (head_puts head)
      (puts_then m (one m (Spot n Looks)) loop looks (omega arith) (puts_act m n Looks (looked_up head []) (looked_makes_none head []))
      (puts_loop m n 0 turn (done_holds m 0)
      (holds_then m (one m (Spot n Does)) (one m (Spot n Fills) + (v + w)) turn (omega arith)
      (puts_act m n Does (looked_up head (Index None ∷ [])) (looked_makes_none head (Index None ∷ [])))
      (holds_then m (one m (Spot n Fills)) (v + w) (one m (Spot n Fills) + (v + w)) (omega arith)
      (puts_act m n Fills (element_act hooked at_call variable head) (element_makes_none variable head))
      (scope_holds variable last w f)))))))))

  -- ---- statements

  selector_puts : (tests : Args) → Puts m (of_args m tests) (selector_acts hooked at_call tests)
  selector_puts T.NoArg = puts_none m
  selector_puts (T.ByValue selector more) =
      puts_at_most m (of_value m selector) (of_value m selector + of_args m more) (omega arith)
      (entire m selector (puts_value m hooked at_call Looked None selector))
  selector_puts (T.ByPath path more) =
      puts_at_most m (of_path m false path) (of_path m false path + of_args m more) (omega arith) (puts_in_place m hooked at_call path)

  left_puts : (n : ℕ) (leaving : Leaving) → Puts m (one m (Spot n Leaves)) (λ b. Then (left leaving n) b)
  left_puts n K.Break = puts_control m _ (one m (Spot n Leaves)) (omega arith)
  left_puts n K.Continue = puts_control m _ (one m (Spot n Leaves)) (omega arith)
  left_puts n K.Return = puts_control m _ (one m (Spot n Leaves)) (omega arith)

  back_holds : (back : Bool) (n : ℕ) → Holds m (one m (Spot n Leaves)) (back_or_on back n)
  back_holds true n = holds_all m (one m (Spot n Leaves)) (left_puts n K.Return)
  back_holds false n = done_holds m (one m (Spot n Leaves))

  module _ (result : Option Declared) where
    abbrev of_block : Stmts → ℕ
    of_block = total_of numbers (own m)

    abbrev of_blocks : Blocks → ℕ
    of_blocks = sum_of_blocks numbers (own m)

    mutual
      stmt_puts : (stmt : Stmt) → Puts m (total_in numbers (own m) stmt) (stmt_acts hooked at_call result stmt)
      stmt_puts (T.Do value) =
          let n = (node_of value).number in
          let o = outer_roles m n in
          let e = with_node m value in
          puts_at_most m (one m (Spot n Begins) + (inner m n + behind m value)) (of_value m value) (omega (arith, o, e))
          (puts_group m n Begins (inner m n + behind m value) (holds_ended m (inner m n + behind m value)
          (holds_all m (inner m n + behind m value) (puts_value m hooked at_call Owned None value))))
      stmt_puts (T.Idle node parts) =
          let r = inner_roles m node.number in
          puts_at_most m (one m (Spot node.number Does)) (node_weight m node.number + of_args m parts) (omega (arith, r))
          (puts_act m node.number Does Pass refl)
      stmt_puts (T.Give node back value) =
          let n = node.number in
          let r = inner_roles m n in
          let o = outer_roles m n in
          let gives = one m (Spot n Does) + one m (Spot n Leaves) in
          puts_at_most m (one m (Spot n Begins) + (of_value m value + gives)) (node_weight m n + of_value m value) (omega (arith, r, o))
          (puts_group m n Begins (of_value m value + gives) (holds_ended m (of_value m value + gives)
          (holds_then m (of_value m value) gives (of_value m value + gives) (omega arith)
          (entire m value (puts_value m hooked at_call Given (result_root result) value))
          (holds_then m (one m (Spot n Does)) (one m (Spot n Leaves)) gives (omega arith)
          (puts_act m n Does (result_act result) (result_makes_none result)) (back_holds back n)))))
      stmt_puts (T.Leave node leaving parts) =
          let r = inner_roles m node.number in
          puts_at_most m (one m (Spot node.number Leaves)) (node_weight m node.number + of_args m parts) (omega (arith, r)) (left_puts node.number leaving)
      stmt_puts (T.Select node T.ByConditions tests blocks) =
          let n = node.number in
          let o = outer_roles m n in
          let t = in_turn_sum (own m) tests blocks in
          puts_at_most m (one m (Spot n Begins) + (of_args m tests + of_blocks blocks)) (total_in numbers (own m) (T.Select node T.ByConditions tests blocks))
          (omega (arith, o, t)) (puts_group m n Begins (of_args m tests + of_blocks blocks) (first_block_holds tests blocks))
      stmt_puts (T.Select node (T.ByLabels labels) tests blocks) =
          let n = node.number in
          let r = inner_roles m n in
          let o = outer_roles m n in
          let picks = one m (Spot n Chooses) + of_blocks blocks in
          let t = in_turn_sum (own m) tests blocks in
          puts_at_most m (one m (Spot n Begins) + (of_args m tests + picks)) (total_in numbers (own m) (T.Select node (T.ByLabels labels) tests blocks))
          (omega (arith, r, o, t))
          (puts_group m n Begins (of_args m tests + picks) (holds_ended m (of_args m tests + picks) (holds_all m (of_args m tests + picks)
          (puts_then m (of_args m tests) picks (of_args m tests + picks) (omega arith) (selector_puts tests)
          (puts_choice m n Chooses (of_blocks blocks) (block_arms_hold (is_covered (selector_type tests)) labels blocks))))))
      stmt_puts (T.Loop node kind head body) = loop_puts node.number kind head (last_of body) (of_block body) (block_holds body)
      stmt_puts (T.Raise node exception message) =
          puts_at_most m 0 (total_in numbers (own m) (T.Raise node exception message)) (omega arith) (puts_none m)
      stmt_puts (T.Try node body handlers last) =
          puts_at_most m 0 (total_in numbers (own m) (T.Try node body handlers last)) (omega arith) (puts_none m)

      pub block_holds : (block : Stmts) → Holds m (of_block block) (stmts_acts hooked at_call result block)
      block_holds T.Empty = done_holds m 0
      block_holds (T.Then first rest) =
          let w = total_in numbers (own m) first in
          holds_then m w (of_block rest) (w + of_block rest) (omega arith) (stmt_puts first) (block_holds rest)
      block_holds (T.Declare node place cursor T.NoArg rest) =
          let r = inner_roles m node.number in
          holds_then m (one m (Spot node.number Does)) (place_weight m place + of_block rest)
          ((place_weight m place + node_weight m node.number) + (0 + of_block rest)) (omega (arith, r))
          (puts_act m node.number Does (Fill (Named place.number)) refl)
          (scope_holds place (last_after node.number rest) (of_block rest) (block_holds rest))
      block_holds (T.Declare node place cursor (T.ByValue value more) rest) =
          let n = node.number in
          let r = inner_roles m n in
          let o = outer_roles m n in
          let fills = of_value m value + one m (Spot n Does) in
          holds_then m (one m (Spot n Begins) + fills) (place_weight m place + of_block rest)
          ((place_weight m place + node_weight m n) + ((of_value m value + of_args m more) + of_block rest)) (omega (arith, r, o))
          (puts_group m n Begins fills (holds_ended m fills (holds_all m fills
          (puts_then m (of_value m value) (one m (Spot n Does)) fills (omega arith)
          (entire m value (puts_value m hooked at_call Given (Some (Named place.number)) value)) (puts_act m n Does (Fill (Named place.number)) refl)))))
          (scope_holds place (last_after n rest) (of_block rest) (block_holds rest))
      block_holds (T.Declare node place cursor (T.ByPath path more) rest) =
          done_holds m (of_block (T.Declare node place cursor (T.ByPath path more) rest))
      block_holds (T.Defer node last rest) = done_holds m (of_block (T.Defer node last rest))

      first_block_holds : (tests : Args) (blocks : Blocks) → Holds m (of_args m tests + of_blocks blocks) (first_block_acts hooked at_call result tests blocks)
      first_block_holds T.NoArg (T.Otherwise block) = holds_at_most m (of_block block) (0 + of_block block) (omega arith) (block_holds block)
      first_block_holds T.NoArg (T.Block first more) =
          holds_at_most m (of_block first) (0 + (of_block first + of_blocks more)) (omega arith) (block_holds first)
      first_block_holds (T.ByPath path rest) blocks = done_holds m (of_args m (T.ByPath path rest) + of_blocks blocks)
      first_block_holds (T.ByValue condition rest) (T.Otherwise block) = done_holds m (of_args m (T.ByValue condition rest) + of_block block)
      first_block_holds (T.ByValue condition rest) (T.Block first more) =
          let n = (node_of condition).number in
          let o = outer_roles m n in
          let e = with_node m condition in
          let c = inner m n + behind m condition in
          holds_then m (one m (Spot n Asks) + c) (one m (Spot n Decides) + (of_block first + (of_args m rest + of_blocks more)))
          ((of_value m condition + of_args m rest) + (of_block first + of_blocks more)) (omega (arith, o, e))
          (puts_group m n Asks c (holds_ended m c (holds_all m c (puts_value m hooked at_call Owned None condition))))
          (either_holds m n Decides (of_block first) (of_args m rest + of_blocks more) (block_holds first) (first_block_holds rest more))

      block_arms_hold : (covered : Bool) (labels : List (List Label)) (blocks : Blocks) →
          ArmsHold m (of_blocks blocks) (block_arms hooked at_call result covered labels blocks)
      block_arms_hold covered labels (T.Otherwise block) =
          arm_holds m (of_block block) 0 (of_block block) (omega arith) (block_holds block) (no_arm_holds m)
      block_arms_hold covered [] (T.Block first rest) =
          arm_holds m (of_block first) 0 (of_block first + of_blocks rest) (omega arith) (block_holds first) (no_arm_holds m)
      block_arms_hold covered (these ∷ labels) (T.Block first rest) =
          arm_holds m (of_block first) (of_blocks rest) (of_block first + of_blocks rest) (omega arith) (block_holds first)
          (arms_if m (covered && is_last_block rest) (of_blocks rest) (block_arms_hold covered labels rest))
