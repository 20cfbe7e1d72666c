-- What every part of a program has, if what parts are put together by keeps it: one line for each form of the tree, and for each form of deed.
use Rattle.std.proofs.Common.{ℕ, suc, ℤ, pos, ◌+ℤ◌, length, Bool, true, false, ◌&&◌, List, [], ◌∷◌, Option, Some, None}
use Rattle.std.specs.Prelude.{nat_lt, int_lt}
use Rattle.arc_base.specs.Event.{Event, writes}
use Rattle.arc_base.specs.declared.outside.Stream.{Stream}
use Rattle.arc_base.specs.BigStep.{Res, Got, then_do, Turn}
use Rattle.nim_types.specs.Types.{Ty}
use Rattle.nim_program.specs.declared.operation.Short.{Short}
use Rattle.nim_program.specs.declared.operation.Short.TheVariants.{And, Or}
use Rattle.nim_program.specs.Program.{Label, Literal, Act, Doing, Building, Giving, Calling, ByConditions, ByLabels, Expr, Apply, Read}
use Rattle.nim_program.specs.Program.{Early, Choose}
use Rattle.nim_program.specs.Program.{Path, Variable, Fresh, Field, Element, Deref, Args, NoArg, ByValue, ByPath, Declared, Kind, While, Count, Each}
use Rattle.nim_program.specs.Program.{Stmt, Do, Idle, Give, Leave, Select, Loop, Raise, Try, Stmts, Empty, Then, Declare, Defer, Blocks, Otherwise, Block}
use Rattle.nim_program.specs.Program.{type_of, type_at, node_of, node_at, constant_in, types_in, last_after, last_of}
use Rattle.nim_program.specs.Folds.{by_constant}
use Rattle.nim_program.specs.Traps.{Trap, OutOfMemory}
use Rattle.nim_program.specs.declared.operation.Use.{Use}
use Rattle.nim_program.specs.declared.operation.Use.TheVariants.{Owned, Given as ToPlace, Held, Looked}
use Rattle.nim_program.specs.Uses.{use_of}
use Rattle.nim_program.specs.Ints.{is_true}
use Rattle.nim_meaning.specs.ActTree.{Root as Root_of_acts, Named, Temporary, Flow, Role, Does as Done_by, Fills, Chooses, Turns}
use Rattle.nim_meaning.specs.Ways.{Point, At as Spot, Leave as Scope_left}
use Rattle.nim_meaning.specs.Heap.{Contents, has_room}
use Rattle.nim_types.specs.Forms.{form_of}
use Rattle.nim_meaning.specs.Deeds as deeds
use Rattle.nim_meaning.specs.Values.{Value, Number, Fixed, number_of, default_of, Location, Slot, Holds, Stands, Operand, Given, At, slots_for}
use Rattle.nim_meaning.specs.State.{World, State, text_of, is_whole}
use Rattle.nim_meaning.specs.Acts.{Broke, Continued, Returned, Raised, Outcome, On, Out, Does, exit_of, wrong, onward, ◌>>=◌, ◌>>◌, branch, costs, say, give}
use Rattle.nim_meaning.specs.Acts.{write, end, stop}
use Rattle.nim_meaning.specs.Acts.{left_as, looks, change, passing, leaving_scope, again, no_more, loop}
use Rattle.nim_meaning.specs.Deeds.{Change, Opens, Leaves, changed, with_block, Deed, Gives, Ends, Errs, Works, Says, Looks, Changes, Takes, carry}
use Rattle.nim_meaning.specs.Here.{Here, is_hooked, gives_hooked}
use Rattle.nim_meaning.specs.Lifted.{assigned, assigns, temporary_ends}
use Rattle.nim_meaning.specs.Waiting.{Wait, waiting_first, held_from}
use Rattle.nim_meaning.specs.Places.{place_at, rooted, made, to_part, to_item, to_object, Destination, kept_if, fetched, put, length_at, item_at, fetched_item}
use Rattle.nim_meaning.specs.Places.{as_long}
use Rattle.nim_meaning.specs.Shapes.{has_node, selector_type, is_covered, is_last_value, is_last_block}
use Rattle.nim_meaning.specs.Meaning.{at_node, at_path, all_end, ended, waits_of, waits_in, ended_value, branch_by, branch_value, destination, row, taking_up}
use Rattle.nim_meaning.specs.Aims.{Aim, Root, Value_of, Waits_at, PartOf, ItemOf, ObjectOf, find, Ready, Evaluated, Aimed, settle, handed_over}
use Rattle.nim_meaning.specs.Meaning.{left_at, carried, got_by, gets_copy, early, selecting, source, place_copies, fill_from, place_ends, element_for, is_fresh}
use Rattle.nim_meaning.specs.Meaning.{result_copies}
use Rattle.nim_meaning.specs.Meaning.{picked, handed_by, handed_on, eval, aimed, ready_all, first_value, selected, picked_value, fill, ends, scoped}
use Rattle.nim_meaning.specs.Meaning.{while_turn, limit}
use Rattle.nim_meaning.specs.Meaning.{count_turn, still, element_at, each_turn, result_gets, back_or_on, head_values, ready_operand, ready_rest, ready_aim}
use Rattle.nim_meaning.specs.Meaning.{test_of, selector_of, loop_over, exec, exec_all, first_block, picked_block}

-- What may be said of what a part of a program does, and of a turn of a loop.
pub record Said : Type 1 where
  pub of : {A : Type 0} → (State → Res State A) → Type 0
  pub turn : {X Y : Type 0} → Does (Turn X Y) → Type 0

-- a block is taken where there is room for it
abbrev pub taking : {A : Type 0} → (class : ℕ) → Contents → (World → Does A) → Does A → Does A
taking class contents rest fails = looks (λ world. branch (has_room world.heap class) (change (with_block class contents) >> rest world) fails)

-- it is kept where parts are put together
pub record Closed (P : Said) : Type 1 where
  pub got : {A : Type 0} (x : A) → P.of (λ (s : State). Got x s)
  pub ended : {A : Type 0} (status : ℕ) → P.of (end {A = A} status)
  pub errs : {A : Type 0} → P.of (wrong {A = A})
  pub then : {A B : Type 0} (act : State → Res State A) (go : A → State → Res State B) → P.of act → ((x : A) → P.of (go x)) → P.of (λ s. then_do (act s) go)
  pub costs : {A : Type 0} (n : ℕ) (act : Does A) → P.of act → P.of (costs n act)
  pub says : (es : List Event) → P.of (say es)
  pub looks : {A : Type 0} (act : World → Does A) → ((world : World) → P.of (act world)) → P.of (looks act)
  pub changes : (c : Change) → P.of (change (changed c))
  pub takes : {A : Type 0} (class : ℕ) (contents : Contents) (rest : World → Does A) (fails : Does A) →
      ((world : World) → P.of (rest world)) → P.of fails → P.of (taking class contents rest fails)
  pub passes : {A : Type 0} (point : Point) (act : Does A) → P.of act → P.of (passing point act)
  -- turns, and loops of them
  pub turn_again : {X : Type 0} (body : Does (Unit {0})) (x : X) → P.of body → P.turn (again body x)
  pub turn_last : {X : Type 0} → P.turn (no_more {X = X})
  pub turn_then : {A X Y : Type 0} (act : Does A) (rest : A → Does (Turn X Y)) → P.of act → ((x : A) → P.turn (rest x)) → P.turn (act >>= rest)
  pub turn_passes : {X Y : Type 0} (point : Point) (act : Does (Turn X Y)) → P.turn act → P.turn (passing point act)
  pub loops : {X Y : Type 0} (turn : X → Does (Turn X Y)) → ((x : X) → P.turn (turn x)) → (x : X) → P.of (loop turn x)

module _ (P : Said) (closed : Closed P) where
  on : {A B : Type 0} (rest : A → Does B) → ((x : A) → P.of (rest x)) → (flow : Outcome A) → P.of (onward rest flow)
  on rest h (On x) = h x
  on rest h (Out way) = closed.got (Out way)

  pub seq : {A B : Type 0} (act : Does A) (rest : A → Does B) → P.of act → ((x : A) → P.of (rest x)) → P.of (act >>= rest)
  seq act rest h g = closed.then act (onward rest) h (on rest g)

  pub both : {A B : Type 0} (act : Does A) (rest : Does B) → P.of act → P.of rest → P.of (act >> rest)
  both act rest h g = closed.then act (onward (λ _. rest)) h (on (λ _. rest) (λ _. g))

  pub chosen : {A : Type 0} (b : Bool) (holds fails : Does A) → P.of holds → P.of fails → P.of (branch b holds fails)
  chosen true holds fails h f = h
  chosen false holds fails h f = f

  written : (stream : Stream) (text : List ℕ) → P.of (write stream text)
  written stream text = closed.costs _ (say (writes stream text)) (closed.says (writes stream text))

  pub stops : {A : Type 0} (trap : Trap) → P.of (stop {A = A} trap)
  stops trap = both (write _ _) (end 1) (written _ _) (closed.ended 1)

  pub at : {A : Type 0} (node : ℕ) (role : Role) (act : Does A) → P.of act → P.of (at_node node role act)
  at node role act h = closed.passes (Spot node role) act h

  -- ---- deeds

  pub carries : {A : Type 0} (deed : Deed A) → P.of (carry deed)
  carries (Gives x) = closed.got _
  carries (Ends status) = closed.ended status
  carries Errs = closed.errs
  carries (Works n rest) = closed.costs n _ (carries rest)
  carries (Says es rest) = both (say es) _ (closed.says es) (carries rest)
  carries (Looks rest) = closed.looks _ (λ world. carries (rest world))
  carries (Changes c rest) = both (change (changed c)) _ (closed.changes c) (carries rest)
  carries (Takes class contents rest) =
      closed.takes class contents (λ world. carry (rest (length world.heap.blocks))) (stop OutOfMemory)
      (λ world. carries (rest (length world.heap.blocks))) (stops OutOfMemory)

  -- ---- paths and operands

  pub finds : (aim : Aim) → P.of (find aim)
  finds (Root base) = carries (rooted base)
  finds (Value_of v) = carries (made v)
  finds (Waits_at level node) = closed.got _
  finds (PartOf aim i) = seq (find aim) _ (finds aim) (λ location. carries (to_part location i))
  finds (ItemOf aim z) = seq (find aim) _ (finds aim) (λ location. carries (to_item location z))
  finds (ObjectOf aim) = seq (find aim) _ (finds aim) (λ location. carries (to_object location))

  pub settles : (ready : List Ready) → P.of (settle ready)
  settles [] = closed.got _
  settles (Evaluated x ∷ rest) = seq (settle rest) _ (settles rest) (λ xs. closed.got _)
  settles (Aimed aim ∷ rest) = seq (find aim) _ (finds aim) (λ location. seq (settle rest) _ (settles rest) (λ xs. closed.got _))

  pub fetches : (location : Location) → P.of (carry (fetched location))
  fetches location = carries (fetched location)

  -- the value that a call gave
  makes : (here : Here) (to : Destination) (ty : Option Ty) (v : Value) → P.of (carry (kept_if (gives_hooked here.facts ty) to v))
  makes here to ty v = carries (kept_if (gives_hooked here.facts ty) to v)

  takes_up : {A : Type 0} (here : Here) (nodes : List ℕ) (act : Does A) → P.of act → P.of (taking_up here nodes act)
  takes_up here [] act h = h
  takes_up here (node ∷ nodes) act h = both _ _ (closed.changes (Leaves here.level node)) (takes_up here nodes act h)

  leaves_scope : {A : Type 0} (hooked : Bool) (root : Root_of_acts) (flow : Flow) (act : Does A) → P.of act → P.of (leaving_scope hooked root flow act)
  leaves_scope false root flow act h = h
  leaves_scope true root flow act h = closed.passes (Scope_left root flow) act h

  all_ends : (level : ℕ) (flow : Flow) (waits : List Wait) → P.of (all_end level flow waits)
  all_ends level flow [] = closed.got _
  all_ends level flow (w ∷ ws) =
      both _ _ (all_ends level flow ws) (leaves_scope true (Temporary w.node) flow _ (carries (temporary_ends w.form level w.node)))

  -- a part with its temporaries
  ended_is : {A : Type 0} (here : Here) (waits : List Wait) (part : Does A) → P.of part → P.of (ended here waits part)
  ended_is here [] part h = h
  ended_is here (w ∷ ws) part h =
      closed.then part _ h (λ flow. both _ _ (all_ends here.level (left_as flow) (w ∷ ws)) (closed.got flow))

  earlies : (short : Short) (b : Bool) (right : Does Value) → P.of right → P.of (early short b right)
  earlies And b right h = chosen b right _ h (closed.got _)
  earlies Or b right h = chosen b _ right (closed.got _) h

  picks : {A : Type 0} (labels : List Label) (x : Value) (holds fails : Does A) → P.of holds → P.of fails → P.of (picked labels x holds fails)
  picks [] x holds fails h f = f
  picks (label ∷ labels) x holds fails h f = closed.costs _ _ (chosen _ _ _ h (picks labels x holds fails h f))

  hands_on : (here : Here) (how : Use) (node : ℕ) (ty : Option Ty) (v : Value) → P.of (handed_on here how node ty v)
  hands_on here how node ty v = carries (handed_by here.facts (destination here how node) ty v)

  selects : {A : Type 0} (here : Here) (ty : Option Ty) (x : Value) (go : Value → Does A) → ((x : Value) → P.of (go x)) →
      P.of (selecting here ty x go)
  selects here ty x go h =
      chosen (gives_hooked here.facts ty) _ (go x)
      (closed.looks (λ world. branch (is_whole world x) (costs (length (text_of world x)) (go (Fixed (text_of world x)))) wrong)
      (λ world. chosen (is_whole world x) (costs (length (text_of world x)) (go (Fixed (text_of world x)))) wrong
      (closed.costs (length (text_of world x)) (go (Fixed (text_of world x))) (h (Fixed (text_of world x)))) closed.errs)) (h x)

  -- a path that is read may be no node
  path_at : {A : Type 0} (path : Path) (act : Does A) → P.of act → P.of (at_path path act)
  path_at path act h = chosen (has_node path) (at_node (node_at path).number Done_by act) act (at (node_at path).number Done_by act h) h

  -- what passes a call
  left : {A : Type 0} (node : ℕ) (flow : Outcome A) → P.of (left_at node flow)
  left node (On x) = closed.got _
  left node (Out (Broke by)) = closed.got _
  left node (Out (Continued by)) = closed.got _
  left node (Out (Returned by)) = closed.got _
  left node (Out (Raised exception by)) = closed.got _

  -- ---- places and loops

  pub fill_is : (here : Here) (place : ℕ) (v : Value) → P.of (fill here place v)
  fill_is here place v = closed.costs _ _ (closed.changes (Opens here.level place (Holds v)))

  pub ends_is : (here : Here) (place : Declared) (exit : ℕ) → P.of (ends here place exit)
  ends_is here place exit =
      let f = form_of here.facts place.of in
      closed.costs 1 _ (chosen (is_hooked here.facts place.of) (carry (place_ends f here.level place.number)) _
      (carries (place_ends f here.level place.number)) (closed.got _))

  -- a place that gets a copy
  copies_is : (here : Here) (place : Declared) (location : Location) → P.of (fill_from here place location)
  copies_is here place location =
      let f = form_of here.facts place.of in
      carries (place_copies f here.level place.number location)

  pub scope_is : (here : Here) (place : Declared) (last : ℕ) (rest : Does (Unit {0})) → P.of rest → P.of (scoped here place last rest)
  scope_is here place last rest h =
      closed.then rest _ h
      (λ flow. both _ _ (leaves_scope (is_hooked here.facts place.of) (Named place.number) (left_as flow) _ (ends_is here place (exit_of last flow)))
      (closed.got flow))

  chosen_turn : {X Y : Type 0} (b : Bool) (holds fails : Does (Turn X Y)) → P.turn holds → P.turn fails → P.turn (branch b holds fails)
  chosen_turn true holds fails h f = h
  chosen_turn false holds fails h f = f

  pub turn_while : (node : ℕ) (test : Does Value) (body : Does (Unit {0})) → P.of test → P.of body → (u : Unit {0}) → P.turn (while_turn node test body u)
  turn_while node test body t b u =
      closed.turn_then _ _ (at node _ test t)
      (λ x. closed.turn_passes _ _ (chosen_turn (is_true (number_of x)) (again body tt) no_more (closed.turn_again body tt b) closed.turn_last))

  pub turn_count : (node : ℕ) (here : Here) (place : Declared) (last : ℕ) (body : Does (Unit {0})) → P.of body → (top i : ℤ) →
      P.turn (count_turn node here place last body top i)
  turn_count node here place last body b top i =
      closed.turn_passes (Spot node Turns) _ (closed.turn_passes (Spot node Chooses) _ (chosen_turn (int_lt i top) _ no_more
      (closed.turn_again _ (i +ℤ pos 1) (both _ _ (at node Fills _ (fill_is here place.number (Number i))) (scope_is here place last body b)))
      closed.turn_last))

  stills : (location : Location) (len : ℕ) → P.of (still location len)
  stills location len = carries (as_long location len)

  elements : (location : Location) (i : ℕ) → P.of (element_at location i)
  elements location i = carries (fetched_item location i)

  element_is : (here : Here) (place : Declared) (borrows : Bool) (item : Location) → P.of (element_for here place borrows item)
  element_is here place true item = closed.changes (Opens here.level place.number (Stands item))
  element_is here place false item = copies_is here place item

  pub turn_each : (node : ℕ) (here : Here) (place : Declared) (borrows : Bool) (last : ℕ) (body : Does (Unit {0})) → P.of body →
      (aim : Aim) (len i : ℕ) → P.turn (each_turn node here place borrows last body aim len i)
  turn_each node here place borrows last body b aim len i =
      let again = closed.turn_again (scoped here place last body) (suc i) (scope_is here place last body b) in
      closed.turn_passes (Spot node Turns) _ (closed.turn_passes (Spot node Chooses) _ (chosen_turn (nat_lt i len) _ no_more
      (closed.turn_then (find aim) _ (finds aim) (λ location. closed.turn_then (still location len) _ (stills location len)
      (λ _. chosen_turn (is_hooked here.facts place.of) _ _ (closed.turn_then _ _ (at node Done_by _ (carries (item_at location i)))
      (λ item. closed.turn_then _ _ (at node Fills _ (element_is here place borrows item)) (λ _. again)))
      (closed.turn_then _ _ (at node Done_by _ (elements location i))
      (λ v. closed.turn_then _ _ (at node Fills _ (fill_is here place.number v)) (λ _. again)))))) closed.turn_last))

  -- ---- expressions and statements, from where all calls have it

  module _ (here : Here) (call : (proc : ℕ) (slots : List Slot) → P.of (here.calls proc slots)) where
    pub acted : (node : ℕ) (act : Act) (how : Use) (ty : Option Ty) (operands : Args) (xs : List Operand) →
        P.of (carried here node act how ty operands xs)
    acted node (Doing operation) how ty operands xs = carries (row here.facts (Doing operation) (destination here how node) ty (types_in operands) xs)
    acted node (Building fields) how ty operands xs = carries (row here.facts (Building fields) (destination here how node) ty (types_in operands) xs)
    acted node (Giving literal) how ty operands xs = carries (row here.facts (Giving literal) (destination here how node) ty (types_in operands) xs)
    acted node (Calling proc types) how ty operands xs =
        let handed = handed_over here.facts operands (use_of here.modes (Calling proc types)) 0 xs in
        seq _ _ (closed.costs _ _ (closed.then _ _ (call proc (slots_for handed)) (left node))) (makes here (destination here how node) ty)

    -- the value of a branch
    branched : (hooked : Bool) (value : Expr) (by : Use → Does Value) → ((how : Use) → P.of (by how)) → P.of (branch_by hooked here value by)
    branched false value by h = ended_is here (waits_of here value Owned) (by Owned) (h Owned)
    branched true value by h = seq _ _ (ended_is here (waits_of here value Owned) (by Held) (h Held))
        (λ v. takes_up here ((node_of value).number ∷ []) (give v) (closed.got _))

    unless_constant : {A : Type 0} (c : Option Literal) (x : Literal → Does A) (y : Does A) → ((literal : Literal) → P.of (x literal)) → P.of y →
        P.of (by_constant c x y)
    unless_constant None x y h k = k
    unless_constant (Some literal) x y h k = h literal

    mutual
      pub all_eval : (expr : Expr) (how : Use) → P.of (eval expr how here)
      all_eval (Apply node ty act operands) how =
          let uses = use_of here.modes act in
          seq (ready_all operands uses 0 here) _ (all_args operands uses 0) (λ ready. seq (settle ready) _ (settles ready)
          (λ xs. at node.number _ _ (takes_up here (held_from here.facts here.modes operands uses 0) _ (acted node.number act how ty operands xs))))
      all_eval (Read path) how =
          let to = destination here how (node_at path).number in
          let deed = got_by here.facts here.plan to (node_at path).number (type_at path) in
          seq (aimed path here) _ (all_aimed path) (λ aim. seq (find aim) _ (finds aim) (λ location. path_at path _ (carries (deed location))))
      all_eval (Early node ty short left right) how =
          closed.costs 1 _ (seq (eval left Owned here) _ (all_eval left Owned) (λ x. at node.number _ _ (earlies short _ (eval right Owned here)
          (all_eval right Owned))))
      all_eval (Choose node ty ByConditions parts) how =
          closed.costs 1 _ (seq _ _ (at node.number _ (first_value parts ty here) (all_firsts parts ty)) (hands_on here how node.number ty))
      all_eval (Choose node ty (ByLabels labels) parts) how =
          closed.costs 1 _ (seq (selected node.number labels parts ty here) _ (all_selected node.number labels parts ty)
          (hands_on here how node.number ty))

      pub all_aimed : (path : Path) → P.of (aimed path here)
      all_aimed (Variable node ty place global) = closed.got _
      all_aimed (Fresh value) =
          unless_constant (constant_in value) _ _ (λ literal. closed.got _)
          (seq (eval value Looked here) _ (all_eval value Looked) (λ v. closed.got _))
      all_aimed (Field node ty base field) =
          seq (aimed base here) _ (all_aimed base) (λ aim. closed.got _)
      all_aimed (Element node ty base index constant) =
          seq (aimed base here) _ (all_aimed base) (λ aim. seq (eval index Owned here) _ (all_eval index Owned) (λ z. closed.got _))
      all_aimed (Deref ty base) = seq (aimed base here) _ (all_aimed base) (λ aim. closed.got _)

      all_sources : (value : Expr) → P.of (source value here)
      all_sources (Read path) =
          seq (aimed path here) _ (all_aimed path) (λ aim. seq (find aim) _ (finds aim) (λ location. path_at path _ (closed.got _)))
      all_sources _ = closed.got _

      pub all_args : (args : Args) (uses : (position : ℕ) → Use) (i : ℕ) → P.of (ready_all args uses i here)
      all_args NoArg uses i = closed.got _
      all_args (ByValue value rest) uses i =
          let others = all_args rest uses (suc i) in
          chosen (gets_copy here (uses i) value) _ _ (seq (source value here) _ (all_sources value)
          (λ location. seq (ready_all rest uses (suc i) here) _ others (λ ready. closed.got _)))
          (seq (eval value (uses i) here) _ (all_eval value (uses i)) (λ v. seq (ready_all rest uses (suc i) here) _ others (λ ready. closed.got _)))
      all_args (ByPath path rest) uses i =
          let others = all_args rest uses (suc i) in
          seq (aimed path here) _ (all_aimed path) (λ aim. seq (ready_all rest uses (suc i) here) _ others (λ ready. closed.got _))

      all_firsts : (parts : Args) (ty : Option Ty) → P.of (first_value parts ty here)
      all_firsts NoArg ty = closed.got _
      all_firsts (ByPath path rest) ty = closed.got _
      all_firsts (ByValue last NoArg) ty =
          branched (gives_hooked here.facts (type_of last)) last _ (λ how. all_eval last how)
      all_firsts (ByValue condition (ByPath path rest)) ty = closed.got _
      all_firsts (ByValue condition (ByValue value rest)) ty =
          seq _ _ (at (node_of condition).number _ (ended_value here condition Owned (eval condition Owned here))
          (ended_is here (waits_of here condition Owned) (eval condition Owned here) (all_eval condition Owned)))
          (λ x. at (node_of condition).number _ _ (chosen _ (branch_value here value (λ how. eval value how here)) (first_value rest ty here)
          (branched (gives_hooked here.facts (type_of value)) value _ (λ how. all_eval value how)) (all_firsts rest ty)))

      all_selected : (node : ℕ) (labels : List (List Label)) (parts : Args) (ty : Option Ty) →
          P.of (selected node labels parts ty here)
      all_selected node labels NoArg ty = closed.got _
      all_selected node labels (ByValue selector rest) ty =
          seq (eval selector Looked here) _ (all_eval selector Looked) (λ x. selects here (type_of selector) x
          (λ x. at_node node Chooses (picked_value (is_covered (type_of selector)) labels rest x ty here))
          (λ x. at node _ _ (all_picked (is_covered (type_of selector)) labels rest x ty)))
      all_selected node labels (ByPath path rest) ty =
          seq (aimed path here) _ (all_aimed path) (λ aim. seq (find aim) _ (finds aim) (λ location. seq _ _ (path_at path _ (fetches location))
          (λ x. selects here (type_at path) x (λ x. at_node node Chooses (picked_value (is_covered (type_at path)) labels rest x ty here))
          (λ x. at node Chooses _ (all_picked (is_covered (type_at path)) labels rest x ty)))))

      all_picked : (covered : Bool) (labels : List (List Label)) (values : Args) (x : Value) (ty : Option Ty) →
          P.of (picked_value covered labels values x ty here)
      all_picked covered labels NoArg x ty = closed.got _
      all_picked covered labels (ByPath path rest) x ty = closed.got _
      all_picked covered [] (ByValue value rest) x ty =
          branched (gives_hooked here.facts (type_of value)) value _ (λ how. all_eval value how)
      all_picked covered (these ∷ labels) (ByValue value rest) x ty =
          let chosen_one = branch_value here value (λ how. eval value how here) in
          let it = branched (gives_hooked here.facts (type_of value)) value (λ how. eval value how here)
          (λ how. all_eval value how) in
          picks these x chosen_one _ it (chosen (covered && is_last_value rest) chosen_one (picked_value covered labels rest x ty here) it
          (all_picked covered labels rest x ty))

    tests : (head : Args) → P.of (test_of head here)
    tests (ByValue condition rest) = ended_is here (waits_of here condition Owned) (eval condition Owned here)
        (all_eval condition Owned)
    tests _ = closed.got _

    selectors : (head : Args) → P.of (selector_of head here)
    selectors NoArg = closed.got _
    selectors (ByValue selector rest) =
        all_eval selector Looked
    selectors (ByPath path rest) =
        seq (aimed path here) _ (all_aimed path) (λ aim. seq (find aim) _ (finds aim) (λ location. path_at path _ (fetches location)))

    -- the values of a head
    heads : (head : Args) → P.of (head_values head here)
    heads head = all_args head (λ i. Owned) 0

    pub repetitions : (kind : Kind) (node : ℕ) (head : Args) (last : ℕ) (body : Does (Unit {0})) → P.of body →
        P.of (loop_over kind node head last body here)
    repetitions While node head last body b = closed.loops (while_turn node (test_of head here) body) (turn_while node _ body (tests head) b) tt
    repetitions (Count place inclusive) node head last body b =
        at node _ _ (ended_is here (waits_in here head) _ (seq (head_values head here) _ (heads head)
        (λ ready. closed.loops (count_turn node here place last body (limit inclusive (number_of (ready_operand (ready_rest ready)))))
        (turn_count node here place last body b (limit inclusive (number_of (ready_operand (ready_rest ready))))) (number_of (ready_operand ready)))))
    repetitions (Each place) node head last body b =
        at node _ _ (ended_is here (waits_in here head) _ (seq (head_values head here) _ (heads head)
        (λ ready. seq _ _ (at node _ _ (finds (ready_aim ready))) (λ location. seq _ _ (carries (length_at location))
        (λ len. closed.loops (each_turn node here place (is_fresh head) last body (ready_aim ready) len)
        (turn_each node here place (is_fresh head) last body b (ready_aim ready) len) 0)))))

    result_is : (hooked : Bool) (result : Option Declared) (v : Value) → P.of (result_gets hooked result here v)
    result_is true None v = closed.got _
    result_is false None v = closed.got _
    result_is false (Some place) v = carries (put (place_at here.level place.number) v)
    result_is true (Some place) v =
        let at = place_at here.level place.number in
        let f = form_of here.facts place.of in
        carries (assigns f at (Given v))

    copy_is : (result : Option Declared) (location : Location) → P.of (result_copies result here location)
    copy_is None location = closed.got _
    copy_is (Some place) location =
        let at = place_at here.level place.number in
        let f = form_of here.facts place.of in
        carries (assigned f at (At location))

    back_is : (back : Bool) (node : ℕ) → P.of (back_or_on back node)
    back_is true node = at node _ _ (closed.got (Out (Returned node)))
    back_is false node = closed.got _

    mutual
      pub all_exec : (stmt : Stmt) → P.of (exec stmt here)
      all_exec (Do value) =
          both _ _ (at _ _ _ (ended_is here (waits_of here value Owned) (eval value Owned here) (all_eval value Owned))) (closed.got _)
      all_exec (Idle node parts) = closed.costs 1 _ (at node.number _ _ (closed.got _))
      all_exec (Give node back value) =
          closed.costs 1 _ (at node.number _ _ (ended_is here (waits_of here value ToPlace) _ (chosen (gets_copy here ToPlace value) _ _
          (seq (source value here) _ (all_sources value)
          (λ location. both _ _ (at node.number _ (result_copies here.result here location) (copy_is here.result location)) (back_is back node.number)))
          (seq (eval value ToPlace here) _ (all_eval value ToPlace)
          (λ v. seq _ _ (at node.number _ (result_gets (gives_hooked here.facts (type_of value)) here.result here v)
          (result_is (gives_hooked here.facts (type_of value)) here.result v)) (λ given. back_is back node.number))))))
      all_exec (Leave node leaving parts) = closed.costs 1 _ (at node.number _ _ (closed.got _))
      all_exec (Select node ByConditions tests blocks) =
          closed.costs 1 _ (at node.number _ (first_block tests blocks here) (all_first tests blocks))
      all_exec (Select node (ByLabels labels) tests blocks) =
          closed.costs 1 _ (at node.number _ _ (ended_is here (waiting_first here.facts here.modes tests) _
          (seq (selector_of tests here) _ (selectors tests) (λ x. selects here (selector_type tests) x
          (λ x. at_node node.number Chooses (picked_block (is_covered (selector_type tests)) labels blocks x here))
          (λ x. at node.number _ _ (all_picks (is_covered (selector_type tests)) labels blocks x))))))
      all_exec (Loop node kind head body) =
          closed.costs 1 _ (repetitions kind node.number head (last_of body) (exec_all body here) (all_stmts body))
      all_exec (Raise node exception message) = closed.got _
      all_exec (Try node body handlers last) = closed.got _

      pub all_stmts : (stmts : Stmts) → P.of (exec_all stmts here)
      all_stmts Empty = closed.got _
      all_stmts (Then first rest) =
          both (exec first here) _ (all_exec first) (all_stmts rest)
      all_stmts (Declare node place cursor NoArg rest) =
          both _ _ (closed.costs 1 _ (at node.number _ _ (fill_is here place.number (default_of here.facts place.of))))
          (scope_is here place (last_after node.number rest) (exec_all rest here) (all_stmts rest))
      all_stmts (Declare node place cursor (ByValue value others) rest) =
          both _ _ (closed.costs 1 _ (at node.number _ _ (ended_is here (waits_of here value ToPlace) _ (chosen (gets_copy here ToPlace value) _ _
          (seq (source value here) _ (all_sources value) (λ location. at node.number _ _ (copies_is here place location)))
          (seq (eval value ToPlace here) _ (all_eval value ToPlace) (λ v. at node.number _ _ (fill_is here place.number v)))))))
          (scope_is here place (last_after node.number rest) (exec_all rest here) (all_stmts rest))
      all_stmts (Declare node place cursor (ByPath path others) rest) = closed.got _
      all_stmts (Defer node last rest) = closed.got _

      all_first : (conditions : Args) (blocks : Blocks) →
          P.of (first_block conditions blocks here)
      all_first NoArg (Otherwise block) = all_stmts block
      all_first NoArg (Block first more) = all_stmts first
      all_first (ByPath path rest) blocks = closed.got _
      all_first (ByValue condition rest) (Otherwise block) = closed.got _
      all_first (ByValue condition rest) (Block first more) =
          seq _ _ (at (node_of condition).number _ (ended_value here condition Owned (eval condition Owned here))
          (ended_is here (waits_of here condition Owned) (eval condition Owned here) (all_eval condition Owned)))
          (λ x. at (node_of condition).number _ _ (chosen _ (exec_all first here) (first_block rest more here) (all_stmts first)
          (all_first rest more)))

      all_picks : (covered : Bool) (labels : List (List Label)) (blocks : Blocks) (x : Value) →
          P.of (picked_block covered labels blocks x here)
      all_picks covered labels (Otherwise block) x = all_stmts block
      all_picks covered [] (Block first rest) x = all_stmts first
      all_picks covered (these ∷ labels) (Block first rest) x =
          let it = all_stmts first in
          picks these x (exec_all first here) _ it
          (chosen (covered && is_last_block rest) (exec_all first here) (picked_block covered labels rest x here) it
          (all_picks covered labels rest x))
