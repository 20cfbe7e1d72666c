-- Blocks go by ways through their acts, and do these acts.
use Rattle.std.proofs.Common.{◌≡◌, refl, sym, ap, subst, ℕ, suc, ℤ, pos, ◌+ℤ◌, Bool, true, false, not, ◌&&◌, if◌then◌else◌, List, [], ◌∷◌, ◌++◌, Option, Some}
use Rattle.std.proofs.Common.{None, length}
use Rattle.std.proofs.lemmas.Bool.{and_parts, false≢true}
use Rattle.std.specs.Prelude.{nat_lt, int_lt}
use Rattle.arc_base.specs.BigStep.{Turn}
use Rattle.nim_types.specs.Types.{Ty}
use Rattle.nim_program.specs.declared.operation.Use.TheVariants.{Owned, Given as ToPlace, Looked}
use Rattle.nim_program.specs.declared.program.Mode.{Mode}
use Rattle.nim_program.specs.declared.stmt.Leaving.TheVariants as K
use Rattle.nim_program.specs.Program as T
use Rattle.nim_program.specs.Program.{Label, Expr, Args, Declared, Stmt, Stmts, Blocks, type_of, node_of, last_after, last_of}
use Rattle.nim_program.specs.Ints.{is_true}
use Rattle.nim_meaning.specs.ActTree as tree
use Rattle.nim_meaning.specs.ActTree.{Named, Begins, Does as Done_by, Fills, Looks as Looks_up, Chooses, Turns, Asks, Decides}
use Rattle.nim_meaning.specs.ActTree.{Act, Pass, Lend, Fill, Acts, Done, Then, Do, Loop, Index, whole}
use Rattle.nim_meaning.specs.Ways.{At, Exits, Graph, Raises, turn_begins, in_condition, loop_goes_on, loop_ends, in_turn, doing, here as at_here, later}
use Rattle.nim_meaning.specs.Ways.{onto, looped}
use Rattle.nim_meaning.specs.Values.{Value, Number, Fixed, nothing, number_of, default_of}
use Rattle.nim_meaning.specs.State.{text_of, is_whole}
use Rattle.nim_meaning.specs.Acts.{Does, wrong, give, ◌>>=◌, ◌>>◌, branch, costs, again, no_more, looks, loop}
use Rattle.nim_meaning.specs.Here.{Here, is_hooked, gives_hooked}
use Rattle.nim_meaning.specs.Shapes.{is_read, is_given, selector_type, is_covered, is_last_block}
use Rattle.nim_meaning.specs.Waiting.{waiting_first}
use Rattle.nim_meaning.specs.ActsOf.{makes, all_made, ended, result_act, result_root, back_or_on, looked_up, acts_of, scope, filled, element_act}
use Rattle.nim_meaning.specs.ActsOf.{condition_acts}
use Rattle.nim_meaning.specs.ActsOf.{head_acts, site_at, path_before, path_of}
use Rattle.nim_meaning.specs.ActsOf.{loop_acts, selector_acts, stmt_acts, stmts_acts, first_block_acts, block_arms}
use Rattle.nim_meaning.specs.Meaning as M
use Rattle.nim_meaning.specs.Meaning.{at_node, waits_of, waits_in, ended_value, selecting, element_for, is_fresh, eval, fill, scoped, while_turn, limit}
use Rattle.nim_meaning.specs.Deeds.{carry}
use Rattle.nim_meaning.specs.Places.{length_at, item_at}
use Rattle.nim_meaning.specs.Meaning.{count_turn, still, element_at, each_turn, result_gets}
use Rattle.nim_meaning.specs.Aims.{Aim, ItemOf, find}
use Rattle.nim_meaning.specs.Meaning.{head_values, ready_operand, ready_rest, ready_aim, test_of, selector_of, loop_over, exec, exec_all, first_block}
use Rattle.nim_meaning.specs.Meaning.{picked_block}
use Rattle.nim_meaning.specs.Runs.{is_plain_loop, is_plain_value, is_plain_path, are_plain, is_plain_stmt, is_plain_block, are_plain_blocks}
use Rattle.nim_meaning.specs.AtPoints.{Answer, answer, A_value, An_aim, The_operands, Nothing, LooksFor, TurnsBy, No_counter, By_number, By_position}
use Rattle.nim_meaning.specs.AtPoints.{Counter, counter, passes, gives, loops, in_scope as ends_scope, fills, gives_result, counts}
use Rattle.nim_meaning.specs.AtPoints.{turn_follows, turn_passes, turn_again, turn_ends, turn_reads}
use Rattle.nim_meaning.proofs.RowPlaces.{paths_in}
use Rattle.nim_meaning.proofs.AimLemmas.{some_aim, some_operands, head_looks, element_looks}
use Rattle.nim_meaning.proofs.RunParts.{Part, Block, Chosen, InsideControl, looked_makes_none, part_gives, part_then, part_costs, part_block, block_gives}
use Rattle.nim_meaning.proofs.RunParts.{block_then}
use Rattle.nim_meaning.proofs.RunParts.{block_ended, part_do, part_left, part_group, part_choose, chosen_last, chosen_picked, block_either, part_loop}
use Rattle.nim_meaning.proofs.RunValues.{eval_part, aimed_part, ready_part, looked_part, alone_value, none_ended}
use Rattle.nim_meaning.proofs.WaitLemmas.{not_true, plain_value, plain_selector, none_waits, none_wait, none_first}

module _ (raises : Raises) (E : Graph) (at_call : ℕ → ℕ → Mode) (here : Here) where
  abbrev hooked : Ty → Bool
  hooked = is_hooked here.facts

  abbrev P : (a : Answer) → (Acts → Acts) → Does (answer a) → Type 0
  P a F act = Part raises E here a F act

  abbrev B : (a : Answer) → Acts → Does (answer a) → Type 0
  B a b act = Block raises E here a b act

  -- ---- places

  fill_part : (n : ℕ) (r : tree.Role) (place : ℕ) (v : Value) → P Nothing (λ b. Then (Do n r (Fill (Named place))) b) (at_node n r (fill here place v))
  fill_part n r place v = part_do raises E here n r (Fill (Named place)) refl (λ k e. fills v e)

  result_part : (n : ℕ) (hook : Bool) (result : Option Declared) (v : Value) → hook ≡ false →
      P A_value (λ b. Then (Do n Done_by (result_act result)) b) (at_node n Done_by (result_gets hook result here v))
  result_part n true result v plain = absurd (false≢true (sym plain))
  result_part n false None v plain = part_do raises E here n Done_by Pass refl (λ k e. passes e (gives tt))
  result_part n false (Some place) v plain = part_do raises E here n Done_by (tree.Give (whole (Named place.number))) refl (λ k e. gives_result v e)

  -- no place gets a copy of a value without hooks
  given_plainly : {a : Answer} {b : Acts} (hook given : Bool) (copies : Does (answer a)) {gives : Does (answer a)} → hook ≡ false → B a b gives →
      B a b (branch (hook && given) copies gives)
  given_plainly true given copies e f = absurd (false≢true (sym e))
  given_plainly false given copies e f = f

  plainly_chosen : {a : Answer} {b : Acts} (ty : Option Ty) (x : Value) (go : Value → Does (answer a)) → gives_hooked here.facts ty ≡ false →
      B a b (go x) → B a b (selecting here ty x go)
  plainly_chosen {a} {b} ty x go e f =
      subst (λ c. B a b (branch c (looks (λ world. branch (is_whole world x) (costs (length (text_of world x)) (go (Fixed (text_of world x)))) wrong)) (go x)))
      (sym e) f

  -- the scope of a place without hooks does nothing
  in_scope : {b : Acts} {act : Does (Unit {0})} (place : Declared) (last : ℕ) → hooked place.of ≡ false → B Nothing b act →
      B Nothing (scope hooked at_call place last b) (scoped here place last act)
  in_scope {b} {act} place last e f =
      subst (λ c. B Nothing (if c then tree.Bind (Named place.number) last b else b) (scoped here place last act)) (sym e)
      (record { makes = f.makes; does = λ k i. ends_scope place last e (f.does k i) })

  -- ---- loops

  -- behind the test of a loop: its body, and then the next turn, or what follows
  tested : {c : Counter} {b : Acts} {body : Does (Unit {0})} (n : ℕ) (test : Acts) (k : Exits) (x : counter c) (holds : Bool) →
      InsideControl raises E here (Loop n test b) k → B Nothing b body →
      TurnsBy E here c (At n Chooses) (At n Turns) (k tree.On) k (at_node n Chooses (branch holds (again body x) no_more))
  tested n test k x true i f =
      turn_passes (i _ _ _ loop_goes_on) (turn_again x (f.does (looped (At n Turns) k) (λ p d q e. i p d q (in_turn e))))
  tested n test k x false i f = turn_passes (i _ _ _ loop_ends) turn_ends

  while_part : {c b : Acts} {test : Does Value} {body : Does (Unit {0})} (n : ℕ) → B A_value c test → B Nothing b body →
      P Nothing (λ rest. Then (Loop n c b) rest) (loop (while_turn n test body) tt)
  while_part {c} {b} {test} {body} n t f =
      part_loop raises E here n c b
      (λ k i. loops {c = No_counter} tt
      (λ u. turn_follows {a = A_value} (passes (i _ _ _ turn_begins) (t.does (onto (At n Chooses) k) (λ p d q e. i p d q (in_condition e))))
      (λ x l. tested n c k tt (is_true (number_of x)) i f)))

  count_part : {b : Acts} {body : Does (Unit {0})} (n : ℕ) (place : Declared) (last : ℕ) (limit first : ℤ) → hooked place.of ≡ false → B Nothing b body →
      P Nothing (λ rest. Then (Loop n Done (filled n Fills place (scope hooked at_call place last b))) rest)
      (loop (count_turn n here place last body limit) first)
  count_part {b} {body} n place last limit first e f =
      part_loop raises E here n Done (filled n Fills place (scope hooked at_call place last b))
      (λ k i. loops {c = By_number} first
      (λ z. turn_passes (i _ _ _ turn_begins) (tested {c = By_number} n Done k (z +ℤ pos 1) (int_lt z limit) i
      (block_then raises E here {a = Nothing} tt tt (fill_part n Fills place.number (Number z)) (λ u l. in_scope place last e f)))))

  -- a turn over elements that are left
  module _ {b : Acts} {body : Does (Unit {0})} (n : ℕ) (place : Declared) (last : ℕ) (d : Act) (e : hooked place.of ≡ false) (f : B Nothing b body) (aim : Aim)
      (looks_for : (i : ℕ) → LooksFor here d (ItemOf aim (pos i))) where
    abbrev around : Acts
    around = Then (Do n Done_by d) (Then (Do n Fills (Fill (Named place.number))) (scope hooked at_call place last b))

    module _ (borrows : Bool) where
      abbrev turn_by : Bool → ℕ → ℕ → Does (Turn ℕ (Unit {0}))
      turn_by hook len x =
          find aim >>= (λ found. still found len >> branch hook
          (at_node n Done_by (carry (item_at found x))
          >>= (λ item. at_node n Fills (element_for here place borrows item) >> again (scoped here place last body) (suc x)))
          (at_node n Done_by (element_at found x)
          >>= (λ v. at_node n Fills (fill here place.number v) >> again (scoped here place last body) (suc x))))

      abbrev turn_does : ℕ → ℕ → Does (Turn ℕ (Unit {0}))
      turn_does len x = turn_by (hooked place.of) len x

      each_does : (k : Exits) (len x : ℕ) → InsideControl raises E here (Loop n Done around) k →
          TurnsBy E here By_position (At n Done_by) (At n Turns) (k tree.On) k (turn_does len x)
      each_does k len x i =
          subst (λ hook. TurnsBy E here By_position (At n Done_by) (At n Turns) (k tree.On) k (turn_by hook len x)) (sym e)
          (turn_reads len x (i _ _ _ (in_turn (at_here doing))) (looks_for x)
          (λ v. turn_follows {a = Nothing} (fills v (i _ _ _ (in_turn (later (at_here doing)))))
          (λ u l. turn_again (suc x) (Block.does (in_scope place last e f) (looped (At n Turns) k) (λ p d q z. i p d q (in_turn (later (later z))))))))

      each_tested : (k : Exits) (len x : ℕ) (more : Bool) → InsideControl raises E here (Loop n Done around) k →
          TurnsBy E here By_position (At n Chooses) (At n Turns) (k tree.On) k (at_node n Chooses (branch more (turn_does len x) no_more))
      each_tested k len x true i = turn_passes (i _ _ _ loop_goes_on) (each_does k len x i)
      each_tested k len x false i = turn_passes (i _ _ _ loop_ends) turn_ends

      each_part : (len : ℕ) → P Nothing (λ rest. Then (Loop n Done around) rest) (loop (each_turn n here place borrows last body aim len) 0)
      each_part len =
          part_loop raises E here n Done around
          (λ k i. loops {c = By_position} 0 (λ x. turn_passes (i _ _ _ turn_begins) (each_tested k len x (nat_lt x len) i)))

  -- the elements are counted where they are looked up
  counted_part : {F : Acts → Acts} {go : ℕ → Does (Unit {0})} (n : ℕ) (d : Act) (aim : Aim) → makes d ≡ [] → LooksFor here d aim →
      ((len : ℕ) → P Nothing F (go len)) →
      P Nothing (λ rest. Then (Do n Looks_up d) (F rest)) (at_node n Looks_up (find aim) >>= (λ found. carry (length_at found) >>= go))
  counted_part {F} {go} n d aim none l g = record {
    keeps = λ rest k p c q x. later ((g 0).keeps rest k p c q x);
    makes = λ rest. subst (λ ns. ns ++ all_made (F rest) ≡ all_made rest) (sym none) ((g 0).makes rest);
    does = λ rest k i.
        counts {go = go} (i _ _ _ (at_here doing)) l (λ len. (g len).does rest k (λ p c q x. i p c q (later x)));
  }

  -- without hooks a variable gets its element as it is
  element_fills : (place : Declared) (head : Args) → hooked place.of ≡ false → element_act hooked at_call place head ≡ Fill (Named place.number)
  element_fills place T.NoArg e = refl
  element_fills place (T.ByValue value rest) e = refl
  element_fills place (T.ByPath path rest) e =
      ap (λ (b : Bool). if b then Lend (site_at path) (Named place.number) (path_before path (Index None ∷ [])) else Fill (Named place.number)) e

  -- ---- statements

  abbrev PlainBlock : Stmts → Type 0
  PlainBlock block = is_plain_block hooked block ≡ true

  abbrev PlainArgs : Args → Type 0
  PlainArgs args = are_plain hooked false args ≡ true

  whole_value : (e : Expr) → is_plain_value hooked e ≡ true →
      B A_value (ended (acts_of hooked at_call Owned None e Done)) (ended_value here e Owned (eval e Owned here))
  whole_value e h = alone_value raises E at_call here e Owned h (eval_part raises E at_call here Owned None e Owned h)

  head_part : (head : Args) → PlainArgs head → P (The_operands (paths_in head)) (head_acts hooked at_call head) (head_values head here)
  head_part head h = ready_part raises E at_call here false (λ i. Owned) (λ i. Owned) (λ e. absurd (false≢true e)) 0 None head h

  -- none of the values of a head waits
  head_ended : {a : Answer} {b : Acts} {act : Does (answer a)} (head : Args) → PlainArgs head → B a b act → B a b (M.ended here (waits_in here head) act)
  head_ended head h f =
      none_ended raises E at_call here (waits_in here head) (none_wait here.facts here.modes false head (λ i. Owned) 0 (λ e. absurd (false≢true e)) h) f

  value_ended : {a : Answer} {b : Acts} {act : Does (answer a)} (e : Expr) → is_plain_value hooked e ≡ true → B a b act →
      B a b (M.ended here (waits_of here e ToPlace) act)
  value_ended e h f = none_ended raises E at_call here (waits_of here e ToPlace) (none_waits here.facts here.modes e ToPlace h) f

  no_value : (v : Value) → B A_value Done (give v)
  no_value v = block_gives raises E here tt

  done : B Nothing Done (give tt)
  done = block_gives raises E here tt

  test_block : (head : Args) → PlainArgs head → B A_value (ended (condition_acts hooked at_call head)) (test_of head here)
  test_block T.NoArg h = no_value nothing
  test_block (T.ByValue condition rest) h =
      whole_value condition (and_parts (is_plain_value hooked condition) (are_plain hooked false rest) h).0
  test_block (T.ByPath path rest) h = no_value nothing

  selector_part : (tests : Args) → PlainArgs tests → P A_value (selector_acts hooked at_call tests) (selector_of tests here)
  selector_part T.NoArg h = part_gives raises E here tt
  selector_part (T.ByValue selector rest) h =
      eval_part raises E at_call here Looked None selector Looked
      (and_parts (is_plain_value hooked selector) (are_plain hooked false rest) h).0
  selector_part (T.ByPath path rest) h =
      let p = and_parts (is_plain_path hooked path) (are_plain hooked false rest) h in
      let it = some_aim here path in
      part_then raises E here {a = An_aim (path_of path)} it.aim it.leads (aimed_part raises E at_call here path p.0)
      (λ aim l. looked_part raises E at_call here path aim l)

  back_block : (back : Bool) (n : ℕ) → B Nothing (back_or_on back n) (M.back_or_on back n)
  back_block true n = part_block raises E here (part_left raises E here n K.Return)
  back_block false n = done

  loop_part : {b : Acts} {body : Does (Unit {0})} (n : ℕ) (kind : T.Kind) (head : Args) (last : ℕ) → is_plain_loop hooked kind ≡ true → PlainArgs head →
      B Nothing b body → P Nothing (loop_acts hooked at_call n kind head last b) (loop_over kind n head last body here)
  loop_part n T.While head last e h f = while_part n (test_block head h) f
  loop_part n (T.Count variable inclusive) head last e h f =
      let some = some_operands here head in
      part_group raises E here n Begins (head_ended head h (block_ended raises E here (part_block raises E here
      (part_then raises E here {a = The_operands (paths_in head)} some.ready some.lead (head_part head h)
      (λ ready l. count_part n variable last (limit inclusive (number_of (ready_operand (ready_rest ready)))) (number_of (ready_operand ready))
      (not_true (hooked variable.of) e) f)))))
  loop_part {b} {body} n (T.Each variable) head last e h f =
      let some = some_operands here head in
      let plain = not_true (hooked variable.of) e in
      part_group raises E here n Begins (head_ended head h (block_ended raises E here (part_block raises E here
      (part_then raises E here {a = The_operands (paths_in head)} some.ready some.lead (head_part head h)
      (λ ready l. subst (λ a. P Nothing
      (λ rest. Then (Do n Looks_up (looked_up head []))
      (Then (Loop n Done (Then (Do n Done_by (looked_up head (Index None ∷ []))) (Then (Do n Fills a) (scope hooked at_call variable last b)))) rest))
      (at_node n Looks_up (find (ready_aim ready))
      >>= (λ found. carry (length_at found) >>= (λ len. loop (each_turn n here variable (is_fresh head) last body (ready_aim ready) len) 0))))
      (sym (element_fills variable head plain))
      (counted_part n (looked_up head []) (ready_aim ready) (looked_makes_none head []) (head_looks here head l)
      (λ len. each_part n variable last (looked_up head (Index None ∷ [])) plain f (ready_aim ready)
      (λ i. element_looks here head (pos i) l) (is_fresh head) len)))))))

  mutual
    pub exec_part : (stmt : Stmt) → is_plain_stmt hooked stmt ≡ true → P Nothing (stmt_acts hooked at_call here.result stmt) (exec stmt here)
    exec_part (T.Do value) h =
        part_then raises E here {a = A_value} nothing tt (part_group raises E here (node_of value).number Begins (whole_value value h))
        (λ v u. part_gives raises E here tt)
    exec_part (T.Idle node parts) h =
        part_costs raises E here 1 (part_do raises E here node.number Done_by Pass refl (λ k e. passes e (gives tt)))
    exec_part (T.Give node back value) h =
        let plain = plain_value here.facts value h in
        part_costs raises E here 1 (part_group raises E here node.number Begins (value_ended value h (block_ended raises E here
        (given_plainly (gives_hooked here.facts (type_of value)) (is_given ToPlace && is_read value) _ plain
        (block_then raises E here {a = A_value} nothing tt
        (eval_part raises E at_call here ToPlace (result_root here.result) value ToPlace h)
        (λ v u. block_then raises E here {a = A_value} nothing tt
        (result_part node.number (gives_hooked here.facts (type_of value)) here.result v plain)
        (λ given l. back_block back node.number)))))))
    exec_part (T.Leave node leaving parts) h = part_costs raises E here 1 (part_left raises E here node.number leaving)
    exec_part (T.Select node T.ByConditions tests blocks) h =
        let q = and_parts (are_plain hooked false tests) (are_plain_blocks hooked blocks) h in
        part_costs raises E here 1 (part_group raises E here node.number Begins (first_block_part tests blocks q.0 q.1))
    exec_part (T.Select node (T.ByLabels labels) tests blocks) h =
        let q = and_parts (are_plain hooked false tests) (are_plain_blocks hooked blocks) h in
        part_costs raises E here 1 (part_group raises E here node.number Begins
        (none_ended raises E at_call here (waiting_first here.facts here.modes tests) (none_first here.facts here.modes tests q.0)
        (block_ended raises E here (block_then raises E here {a = A_value} nothing tt (selector_part tests q.0)
        (λ x u. plainly_chosen (selector_type tests) x
        (λ x. at_node node.number Chooses (picked_block (is_covered (selector_type tests)) labels blocks x here)) (plain_selector here.facts tests q.0)
        (part_block raises E here
        (part_choose raises E here node.number Chooses (block_chosen (is_covered (selector_type tests)) labels blocks x q.1))))))))
    exec_part (T.Loop node kind head body) h =
        let p = and_parts (is_plain_loop hooked kind) (are_plain hooked false head && is_plain_block hooked body) h in
        let q = and_parts (are_plain hooked false head) (is_plain_block hooked body) p.1 in
        part_costs raises E here 1 (loop_part node.number kind head (last_of body) p.0 q.0 (exec_block body q.1))
    exec_part (T.Raise node exception message) h = part_gives raises E here tt
    exec_part (T.Try node body handlers last) h = part_gives raises E here tt

    pub exec_block : (block : Stmts) → PlainBlock block → B Nothing (stmts_acts hooked at_call here.result block) (exec_all block here)
    exec_block T.Empty h = done
    exec_block (T.Then first rest) h =
        let p = and_parts (is_plain_stmt hooked first) (is_plain_block hooked rest) h in
        block_then raises E here {a = Nothing} tt tt (exec_part first p.0) (λ u l. exec_block rest p.1)
    exec_block (T.Declare node place cursor T.NoArg rest) h =
        let p = and_parts (not (hooked place.of)) (true && is_plain_block hooked rest) h in
        let q = and_parts true (is_plain_block hooked rest) p.1 in
        block_then raises E here {a = Nothing} tt tt
        (part_costs raises E here 1 (fill_part node.number Done_by place.number (default_of here.facts place.of)))
        (λ u l. in_scope place (last_after node.number rest) (not_true (hooked place.of) p.0) (exec_block rest q.1))
    exec_block (T.Declare node place cursor (T.ByValue value more) rest) h =
        let values = is_plain_value hooked value && are_plain hooked false more in
        let p = and_parts (not (hooked place.of)) (values && is_plain_block hooked rest) h in
        let q = and_parts values (is_plain_block hooked rest) p.1 in
        let r = and_parts (is_plain_value hooked value) (are_plain hooked false more) q.0 in
        block_then raises E here {a = Nothing} tt tt
        (part_costs raises E here 1 (part_group raises E here node.number Begins (value_ended value r.0 (block_ended raises E here
        (given_plainly (gives_hooked here.facts (type_of value)) (is_given ToPlace && is_read value) _ (plain_value here.facts value r.0)
        (part_block raises E here (part_then raises E here {a = A_value} nothing tt
        (eval_part raises E at_call here ToPlace (Some (Named place.number)) value ToPlace r.0)
        (λ v u. fill_part node.number Done_by place.number v))))))))
        (λ u l. in_scope place (last_after node.number rest) (not_true (hooked place.of) p.0) (exec_block rest q.1))
    exec_block (T.Declare node place cursor (T.ByPath path more) rest) h = done
    exec_block (T.Defer node last rest) h = done

    first_block_part : (tests : Args) (blocks : Blocks) → PlainArgs tests → are_plain_blocks hooked blocks ≡ true →
        B Nothing (first_block_acts hooked at_call here.result tests blocks) (first_block tests blocks here)
    first_block_part T.NoArg (T.Otherwise block) h g = exec_block block g
    first_block_part T.NoArg (T.Block first more) h g =
        exec_block first (and_parts (is_plain_block hooked first) (are_plain_blocks hooked more) g).0
    first_block_part (T.ByPath path rest) blocks h g = done
    first_block_part (T.ByValue condition rest) (T.Otherwise block) h g = done
    first_block_part (T.ByValue condition rest) (T.Block first more) h g =
        let p = and_parts (is_plain_value hooked condition) (are_plain hooked false rest) h in
        let q = and_parts (is_plain_block hooked first) (are_plain_blocks hooked more) g in
        block_then raises E here {a = A_value} nothing tt (part_group raises E here (node_of condition).number Asks (whole_value condition p.0))
        (λ x u. block_either raises E here (node_of condition).number Decides (is_true (number_of x)) (exec_block first q.0)
        (first_block_part rest more p.1 q.1))

    block_chosen : (covered : Bool) (labels : List (List Label)) (blocks : Blocks) (x : Value) → are_plain_blocks hooked blocks ≡ true →
        Chosen raises E here Nothing (block_arms hooked at_call here.result covered labels blocks) (picked_block covered labels blocks x here)
    block_chosen covered labels (T.Otherwise block) x g = chosen_last raises E here (exec_block block g)
    block_chosen covered [] (T.Block first rest) x g =
        chosen_last raises E here
        (exec_block first (and_parts (is_plain_block hooked first) (are_plain_blocks hooked rest) g).0)
    block_chosen covered (these ∷ labels) (T.Block first rest) x g =
        let q = and_parts (is_plain_block hooked first) (are_plain_blocks hooked rest) g in
        chosen_picked raises E here these x (covered && is_last_block rest) (exec_block first q.0) (block_chosen covered labels rest x q.1)
