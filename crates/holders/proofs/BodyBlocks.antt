-- All statements and blocks of a body, by induction.
use Rattle.std.proofs.Common.{◌≡◌, refl, sym, subst, ◌∙◌, ℕ, suc, inl, inr, Bool, true, false, List, [], ◌∷◌, ◌++◌, Option, None, Some}
use Rattle.std.specs.Prelude.{◌&&◌, not}
use Rattle.std.proofs.lemmas.Bool.{false≢true, and_parts}
use Rattle.nim_program.specs.declared.expr.Node.{Node}
use Rattle.nim_program.specs.declared.stmt.Leaving.{Leaving}
use Rattle.nim_program.specs.declared.stmt.Leaving.TheVariants.{Break, Continue, Return}
use Rattle.nim_program.specs.declared.operation.Use.TheVariants.{Owned, Given as ToPlace, Looked}
use Rattle.nim_program.specs.Ints.{is_true}
use Rattle.nim_program.specs.Program.{Label, ByConditions, ByLabels, Expr, Path, Args, NoArg, ByValue, ByPath, Declared, Kind, While, Count, Each}
use Rattle.nim_program.specs.Program.{Stmt, Do, Idle, Give, Leave, Select, Loop, Raise, Try, Stmts, Empty, Then, Declare, Defer, Blocks, Otherwise, Block}
use Rattle.nim_program.specs.Program.{type_of, type_at, types_in, node_of, last_of, last_after}
use Rattle.nim_program.specs.Folds.{Seen, lists, node_numbers, own_places, loop_places, total, total_at, totals, total_in, total_of, each, each_block, together}
use Rattle.nim_program.specs.Folds.{in_turn}
use Rattle.nim_program.specs.Numbering.{numbers_of}
use Rattle.nim_program.specs.Kinds.{is_bool, kind_if, is_of, is_there}
use Rattle.nim_program.specs.Scopes as scopes
use Rattle.nim_program.specs.Scopes.{with_place}
use Rattle.nim_program.specs.Typed.{Around, looping, is_typed, is_typed_path, are_typed, is_whole, starts, type_of_place, is_selector, labels_select}
use Rattle.nim_program.specs.Typed.{selector_kind, chooses, head_fits, with_places, are_conditions, are_blocks, is_empty}
use Rattle.nim_program.specs.Typed.{is_typed_stmt, is_typed_block, are_typed_blocks}
use Rattle.nim_meaning.specs.ActTree as points
use Rattle.nim_meaning.specs.Values.{Value, number_of, default_of}
use Rattle.nim_meaning.specs.Acts.{Does, give, branch, costs, leave, loop, ◌>>=◌}
use Rattle.nim_meaning.specs.Here.{Here, gives_hooked}
use Rattle.nim_meaning.specs.Waiting.{waiting, waiting_at}
use Rattle.nim_meaning.specs.Shapes.{is_covered, is_last_block}
use Rattle.nim_meaning.specs.Steps.{at_node, grouped, ended_value, waits_of, gets_copy, selecting}
use Rattle.nim_meaning.specs.Meaning.{eval, source, exec, exec_all, first_block, picked_block, loop_over, exit_by, fill, fill_from, selector_of, while_turn}
use Rattle.nim_meaning.specs.Meaning.{test_of}
use Rattle.holders.specs.Territory.{Owner}
use Rattle.holders.specs.Asked.{Limits, AskedStmt, AskedBlock, AskedBlocks, Asked, AskedAt, AllAsked, FactsOfTheirSort, within}
use Rattle.holders.specs.Claimed.{known_at}
use Rattle.nim_meaning.specs.State.{World}
use Rattle.holders.specs.BodyParts.{own_cell, Sights, PartSo}
use Rattle.holders.specs.Numbered.{Numbered}
use Rattle.holders.proofs.Owning.{in_first, in_second}
use Rattle.holders.proofs.WholeExpressions.{CallsSo}
use Rattle.holders.proofs.NodesRise.{rise_first}
use Rattle.holders.proofs.BodyParts.{starts_over, part_in, nothing_so, work_part, node_part, branch_part, tried_part, part_then}
use Rattle.holders.proofs.BodyNumbers.{numbered_first, numbered_second, numbered_behind, numbered_in, numbers_first, numbers_second}
use Rattle.holders.proofs.BodySights.{sights_more}
use Rattle.holders.proofs.BodyStatements.{do_so, test_so}
use Rattle.holders.proofs.BodyGiven.{default_declares, value_declares, declare_then, give_so}
use Rattle.holders.proofs.BodyChoices.{by_value_so, by_path_so}
use Rattle.holders.proofs.BodyLoops.{while_so}
use Rattle.holders.proofs.BodyEach.{count_so, each_so}
use Rattle.nim_types.specs.Types.{Ty}

module _ (here : Here) (first places : ℕ) (sorted : FactsOfTheirSort here.facts) (OfCall : Limits → ℕ → Args → Type 0) (Known : scopes.Here → Type 0)
    (known_more : (scope : scopes.Here) (place : Declared) → Known scope → Known (with_place scope place))
    (calls : (scope : scopes.Here) → Known scope → (limits : Limits) (root : (global : Bool) → ℕ → ℕ) (os : List Owner) →
    CallsSo here scope limits root first places os (OfCall limits)) where
  abbrev known : scopes.Here → scopes.Here
  known scope = known_at here scope

  abbrev pub Part : {A : Type 0} → scopes.Here → Limits → (ps ns : List ℕ) → Does A → Type 0
  Part scope limits ps ns act = PartSo here first places (known scope) limits ps ns act

  abbrev pub Placed_in : scopes.Here → Limits → List Declared → List ℕ → Type 0
  Placed_in scope limits ds ns = Numbered here first places (known scope) limits ds ns

  -- all places of a body may be named in it
  abbrev pub NamesOwn : Limits → Type 0
  NamesOwn limits = (n : ℕ) → limits.seen false n ≡ true

  -- ---- what leaves

  leaves_so : (scope : scopes.Here) (limits : Limits) (node : ℕ) (leaving : Leaving) (ps ns : List ℕ) →
      Part scope limits ps ns (costs 1 (at_node node points.Leaves (leave {A = Unit {0}} (exit_by leaving node))))
  leaves_so scope limits node Break ps ns os nodes s b sights = (tt, starts_over ps ns b)
  leaves_so scope limits node Continue ps ns os nodes s b sights = (tt, starts_over ps ns b)
  leaves_so scope limits node Return ps ns os nodes s b sights = (tt, starts_over ps ns b)

  -- a block is a part of one with more
  first_in : {A : Type 0} (scope : scopes.Here) (limits : Limits) (ds es : List Declared) (ns ms : List ℕ) (act : Does A) →
      Part scope limits (numbers_of ds) ns act → Part scope limits (numbers_of (ds ++ es)) (ns ++ ms) act
  first_in scope limits ds es ns ms act so =
      part_in here first places (known scope) limits (numbers_of (ds ++ es)) (ns ++ ms) (numbers_of ds) ns act (λ n m. numbers_first n ds es m)
      (λ n m. in_first n ns ms m) so

  second_in : {A : Type 0} (scope : scopes.Here) (limits : Limits) (ds es : List Declared) (ns ms : List ℕ) (act : Does A) →
      Part scope limits (numbers_of es) ms act → Part scope limits (numbers_of (ds ++ es)) (ns ++ ms) act
  second_in scope limits ds es ns ms act so =
      part_in here first places (known scope) limits (numbers_of (ds ++ es)) (ns ++ ms) (numbers_of es) ms act (λ n m. numbers_second n ds es m)
      (λ n m. in_second n ns ms m) so

  -- ---- what typing says of heads and selectors

  loop_typed : (scope : scopes.Here) (around : Around) (kind : Kind) (head : Args) (body : Stmts) →
      (head_fits here.facts kind head && are_typed (known scope) head)
      && (not (is_empty body) && is_typed_block (with_places (known scope) (loop_places kind)) (looping around) body) ≡ true →
      ((head_fits here.facts kind head ≡ true) × (are_typed (known scope) head ≡ true))
      × ((not (is_empty body) ≡ true) × (is_typed_block (with_places (known scope) (loop_places kind)) (looping around) body ≡ true))
  loop_typed scope around kind head body typed =
      let body_typed = is_typed_block (with_places (known scope) (loop_places kind)) (looping around) body in
      let t = and_parts (head_fits here.facts kind head && are_typed (known scope) head) (not (is_empty body) && body_typed) typed in
      (and_parts (head_fits here.facts kind head) (are_typed (known scope) head) t.0, and_parts (not (is_empty body)) body_typed t.1)

  chosen_typed : (scope : scopes.Here) (around : Around) (labels : List (List Label)) (tests : Args) (blocks : Blocks) →
      ((is_selector tests && labels_select (selector_kind here.facts tests) labels blocks) && are_typed (known scope) tests)
      && are_typed_blocks (known scope) around blocks ≡ true →
      ((labels_select (selector_kind here.facts tests) labels blocks ≡ true) × (are_typed (known scope) tests ≡ true))
      × (are_typed_blocks (known scope) around blocks ≡ true)
  chosen_typed scope around labels tests blocks typed =
      let select = labels_select (selector_kind here.facts tests) labels blocks in
      let t = and_parts ((is_selector tests && select) && are_typed (known scope) tests) (are_typed_blocks (known scope) around blocks) typed in
      let u = and_parts (is_selector tests && select) (are_typed (known scope) tests) t.0 in
      (((and_parts (is_selector tests) select u.0).1, u.1), t.1)

  no_selector : {A : Type 0} (scope : scopes.Here) (around : Around) (labels : List (List Label)) (tests : Args) (blocks : Blocks) →
      labels_select (selector_kind here.facts tests) labels blocks ≡ false →
      ((is_selector tests && labels_select (selector_kind here.facts tests) labels blocks) && are_typed (known scope) tests)
      && are_typed_blocks (known scope) around blocks ≡ true → A
  no_selector scope around labels tests blocks none typed =
      absurd (false≢true (sym none ∙ (chosen_typed scope around labels tests blocks typed).0.0))

  -- the body of a loop, in the scope of its place; likewise what follows a declaration
  behind_loop : (scope : scopes.Here) (limits more : Limits) → ((g : Bool) (n : ℕ) → more.seen g n ≡ true → limits.seen g n ≡ true) → (place : Declared)
      (hd bd : List Declared) (hn bn : List ℕ) → Placed_in scope limits (place ∷ (hd ++ bd)) (hn ++ bn) → Placed_in (with_place scope place) more bd bn
  behind_loop scope limits more seen place hd bd hn bn k = numbered_second hd bd hn bn (numbered_in more place (hd ++ bd) seen k)

  -- a place that is declared is in scope then
  in_scope : (scope : scopes.Here) (limits : Limits) → NamesOwn limits → (place : Declared) {ds : List Declared} {ns : List ℕ} →
      Placed_in scope limits (place ∷ ds) ns → (os : List Owner) (world : World) → Sights here (known scope) limits os world →
      Sights here (known (with_place scope place)) limits (own_cell here place ∷ os) world
  in_scope scope limits own place numbers os world sights =
      sights_more here (known scope) limits limits place (λ ty e. numbers.none false place.number ty (own place.number) e refl (inl refl)) (λ g n e. e)
      (λ g n e. e) sights

  -- a declaration with a value
  abbrev pub declared_by : (node : ℕ) → Declared → Expr → Does (Unit {0})
  declared_by node place e = grouped here node (waits_of here e ToPlace) (branch (gets_copy here ToPlace e)
      (source e here >>= (λ l. at_node node points.Does (fill_from here place l)))
      (eval e ToPlace here >>= (λ v. at_node node points.Does (fill here place.number v))))

  -- a `case` by a value, and by what stands at a path
  by_value : (scope : scopes.Here) → Known scope → (limits : Limits) (around : Around) (node : Node) (labels : List (List Label)) (e : Expr)
      (blocks : Blocks) → is_typed_stmt (known scope) around (Select node (ByLabels labels) (ByValue e NoArg) blocks) ≡ true →
      Asked here.facts limits (OfCall limits) e → (de bd : List Declared) (bn : List ℕ) →
      Placed_in scope limits (de ++ bd) (total lists node_numbers e ++ bn) →
      ((y : Value) → Part scope limits (numbers_of bd) bn (picked_block (is_covered (type_of e)) labels blocks y here)) →
      Part scope limits (numbers_of (de ++ bd)) (node.number ∷ (total lists node_numbers e ++ bn))
      (exec (Select node (ByLabels labels) (ByValue e NoArg) blocks) here)
  by_value scope ok limits around node labels e blocks typed asked de bd bn numbers picks =
      let t = chosen_typed scope around labels (ByValue e NoArg) blocks typed in
      let te = total lists node_numbers e in
      let ps = numbers_of (de ++ bd) in
      let go : Value → Does (Unit {0}) = λ y. at_node node.number points.Chooses (picked_block (is_covered (type_of e)) labels blocks y here) in
      let act = grouped here node.number (waiting here.facts here.modes e Looked) (eval e Looked here >>= (λ x. selecting here (type_of e) x go)) in
      part_in here first places (known scope) limits ps (node.number ∷ (te ++ bn)) ps (te ++ bn) (costs 1 act) (λ n m. m) (λ n m. inr m)
      (work_part here first places (known scope) limits ps (te ++ bn) 1 act
      (by_value_so here first places sorted OfCall Known calls scope ok limits node.number e (and_parts (is_typed (known scope) e) true t.0.1).0
      asked de bd bn numbers go
      (λ y. node_part here first places (known scope) limits (numbers_of bd) bn node.number points.Chooses
      (picked_block (is_covered (type_of e)) labels blocks y here) (picks y))))

  by_path : (scope : scopes.Here) → Known scope → (limits : Limits) (around : Around) (node : Node) (labels : List (List Label)) (path : Path)
      (blocks : Blocks) → is_typed_stmt (known scope) around (Select node (ByLabels labels) (ByPath path NoArg) blocks) ≡ true →
      AskedAt here.facts limits (OfCall limits) path → (de bd : List Declared) (bn : List ℕ) →
      Placed_in scope limits (de ++ bd) (total_at lists node_numbers false path ++ bn) →
      ((y : Value) → Part scope limits (numbers_of bd) bn (picked_block (is_covered (type_at path)) labels blocks y here)) →
      Part scope limits (numbers_of (de ++ bd)) (node.number ∷ (total_at lists node_numbers false path ++ bn))
      (exec (Select node (ByLabels labels) (ByPath path NoArg) blocks) here)
  by_path scope ok limits around node labels path blocks typed asked de bd bn numbers picks =
      let t = chosen_typed scope around labels (ByPath path NoArg) blocks typed in
      let u = and_parts (is_whole here.facts path && is_typed_path (known scope) path) true t.0.1 in
      let te = total_at lists node_numbers false path in
      let ps = numbers_of (de ++ bd) in
      let go : Value → Does (Unit {0}) = λ y. at_node node.number points.Chooses (picked_block (is_covered (type_at path)) labels blocks y here) in
      let act = grouped here node.number (waiting_at here.facts here.modes path)
      (selector_of (ByPath path NoArg) here >>= (λ x. selecting here (type_at path) x go)) in
      part_in here first places (known scope) limits ps (node.number ∷ (te ++ bn)) ps (te ++ bn) (costs 1 act) (λ n m. m) (λ n m. inr m)
      (work_part here first places (known scope) limits ps (te ++ bn) 1 act
      (by_path_so here first places sorted OfCall Known calls scope ok limits node.number path
      (and_parts (is_whole here.facts path) (is_typed_path (known scope) path) u.0).1 asked de bd bn numbers go
      (λ y. node_part here first places (known scope) limits (numbers_of bd) bn node.number points.Chooses
      (picked_block (is_covered (type_at path)) labels blocks y here) (picks y)) NoArg))

  -- the one selector comes before all blocks
  turn_is : {A : Type 0} (own : Seen → List A) (x : List A) (blocks : Blocks) →
      in_turn lists (x ∷ []) (each_block lists own blocks) ≡ x ++ together lists (each_block lists own blocks)
  turn_is own x (Otherwise block) = refl
  turn_is own x (Block one more) = refl

  turned : (scope : scopes.Here) (limits : Limits) (de : List Declared) (te : List ℕ) (blocks : Blocks) →
      Placed_in scope limits (in_turn lists (de ∷ []) (each_block lists own_places blocks)) (in_turn lists (te ∷ []) (each_block lists node_numbers blocks)) →
      Placed_in scope limits (de ++ together lists (each_block lists own_places blocks)) (te ++ together lists (each_block lists node_numbers blocks))
  turned scope limits de te blocks k =
      subst (λ ds. Placed_in scope limits ds (te ++ together lists (each_block lists node_numbers blocks))) (turn_is own_places de blocks)
      (subst (λ ns. Placed_in scope limits (in_turn lists (de ∷ []) (each_block lists own_places blocks)) ns) (turn_is node_numbers te blocks) k)

  turned_back : (scope : scopes.Here) (limits : Limits) (node : ℕ) (act : Does (Unit {0})) (de : List Declared) (te : List ℕ) (blocks : Blocks) →
      Part scope limits (numbers_of (de ++ together lists (each_block lists own_places blocks)))
      (node ∷ (te ++ together lists (each_block lists node_numbers blocks))) act →
      Part scope limits (numbers_of (in_turn lists (de ∷ []) (each_block lists own_places blocks)))
      (node ∷ in_turn lists (te ∷ []) (each_block lists node_numbers blocks)) act
  turned_back scope limits node act de te blocks so =
      subst (λ ds. Part scope limits (numbers_of ds) (node ∷ in_turn lists (te ∷ []) (each_block lists node_numbers blocks)) act)
      (sym (turn_is own_places de blocks))
      (subst (λ ns. Part scope limits (numbers_of (de ++ together lists (each_block lists own_places blocks))) (node ∷ ns) act)
      (sym (turn_is node_numbers te blocks)) so)

  -- a `while`
  while_loop : (scope : scopes.Here) → Known scope → (limits : Limits) (node : ℕ) (head : Args) → head_fits here.facts While head ≡ true →
      are_typed (known scope) head ≡ true → AllAsked here.facts limits (OfCall limits) head → (hd bd : List Declared) (bn : List ℕ) (body : Does (Unit {0})) →
      Placed_in scope limits (hd ++ bd) (totals lists node_numbers head ++ bn) → Part scope limits (numbers_of bd) bn body →
      Part scope limits (numbers_of (hd ++ bd)) (totals lists node_numbers head ++ bn) (loop (while_turn node (test_of head here) body) tt)
  while_loop scope ok limits node NoArg fits typed asked hd bd bn body numbers body_so = absurd (false≢true fits)
  while_loop scope ok limits node (ByPath path rest) fits typed asked hd bd bn body numbers body_so = absurd (false≢true fits)
  while_loop scope ok limits node (ByValue e (ByValue f rest)) fits typed asked hd bd bn body numbers body_so = absurd (false≢true fits)
  while_loop scope ok limits node (ByValue e (ByPath f rest)) fits typed asked hd bd bn body numbers body_so = absurd (false≢true fits)
  while_loop scope ok limits node (ByValue e NoArg) fits typed asked hd bd bn body numbers body_so =
      while_so here first places sorted OfCall Known calls scope ok limits node e (and_parts (is_typed (known scope) e) true typed).0 asked.0 fits hd bd bn body
      numbers body_so

  no_type : (ty : Option Ty) → not (is_there ty) ≡ true → gives_hooked here.facts ty ≡ false
  no_type None e = refl
  no_type (Some ty) e = absurd (false≢true e)

  mutual
    pub stmt_so : (scope : scopes.Here) → Known scope → (limits : Limits) → NamesOwn limits → (around : Around) → around.gives ≡ type_of_place here.result →
        (x : Stmt) → is_typed_stmt (known scope) around x ≡ true → AskedStmt here.facts OfCall limits x →
        Placed_in scope limits (total_in lists own_places x) (total_in lists node_numbers x) →
        Part scope limits (numbers_of (total_in lists own_places x)) (total_in lists node_numbers x) (exec x here)
    stmt_so scope ok limits own around gives (Do e) typed asked numbers =
        let ns = total lists node_numbers e in
        part_in here first places (known scope) limits (numbers_of (total lists own_places e)) ns [] ns (exec (Do e) here) (λ n m. elim m [ ]) (λ n m. m)
        (do_so here first places sorted OfCall Known calls scope ok limits e
        (no_type (type_of e) (and_parts (not (is_there (type_of e))) (is_typed (known scope) e) typed).0)
        (and_parts (not (is_there (type_of e))) (is_typed (known scope) e) typed).1 asked
        numbers.from_node numbers.nodes)
    stmt_so scope ok limits own around gives (Idle node parts) typed asked numbers =
        let ps = numbers_of (totals lists own_places parts) in
        let ns = node.number ∷ totals lists node_numbers parts in
        work_part here first places (known scope) limits ps ns 1 (at_node node.number points.Does (give {A = Unit {0}} tt))
        (node_part here first places (known scope) limits ps ns node.number points.Does (give {A = Unit {0}} tt)
        (nothing_so here first places (known scope) limits ps ns))
    stmt_so scope ok limits own around gives (Give node back e) typed asked numbers =
        let ns = total lists node_numbers e in
        give_so here first places sorted OfCall Known calls scope ok limits around gives node back e typed asked (suc node.number) numbers.nodes.1
        (numbers_of (total lists own_places e)) (node.number ∷ ns) (λ n m. inr m)
    stmt_so scope ok limits own around gives (Leave node leaving parts) typed asked numbers =
        leaves_so scope limits node.number leaving (numbers_of (totals lists own_places parts)) (node.number ∷ totals lists node_numbers parts)
    stmt_so scope ok limits own around gives (Select node ByConditions tests blocks) typed asked numbers =
        let t = and_parts (chooses here.facts ByConditions tests blocks && are_typed (known scope) tests) (are_typed_blocks (known scope) around blocks)
        typed in
        let u = and_parts (chooses here.facts ByConditions tests blocks) (are_typed (known scope) tests) t.0 in
        let c = and_parts (are_conditions here.facts tests) (are_blocks (types_in tests) blocks) u.0 in
        let ds = in_turn lists (each lists own_places tests) (each_block lists own_places blocks) in
        let ns = in_turn lists (each lists node_numbers tests) (each_block lists node_numbers blocks) in
        let act = first_block tests blocks here in
        part_in here first places (known scope) limits (numbers_of ds) (node.number ∷ ns) (numbers_of ds) ns (costs 1 (grouped here node.number [] act))
        (λ n m. m) (λ n m. inr m)
        (work_part here first places (known scope) limits (numbers_of ds) ns 1 (at_node node.number points.Begins act)
        (node_part here first places (known scope) limits (numbers_of ds) ns node.number points.Begins act
        (first_so scope ok limits own around gives tests blocks c.0 c.1 u.1 t.1 asked.0 asked.1 (numbered_behind node.number numbers))))
    stmt_so scope ok limits own around gives (Select node (ByLabels labels) NoArg blocks) typed asked numbers =
        no_selector scope around labels NoArg blocks refl typed
    stmt_so scope ok limits own around gives (Select node (ByLabels labels) (ByValue e NoArg) blocks) typed asked numbers =
        let t = chosen_typed scope around labels (ByValue e NoArg) blocks typed in
        let de = total lists own_places e in
        let te = total lists node_numbers e in
        let bd = together lists (each_block lists own_places blocks) in
        let bn = together lists (each_block lists node_numbers blocks) in
        let k = turned scope limits de te blocks (numbered_behind node.number numbers) in
        turned_back scope limits node.number (exec (Select node (ByLabels labels) (ByValue e NoArg) blocks) here) de te blocks
        (by_value scope ok limits around node labels e blocks typed asked.0.0 de bd bn k
        (λ y. picked_so scope ok limits own around gives (is_covered (type_of e)) labels blocks t.1 asked.1 (numbered_second de bd te bn k) y))
    stmt_so scope ok limits own around gives (Select node (ByLabels labels) (ByPath path NoArg) blocks) typed asked numbers =
        let t = chosen_typed scope around labels (ByPath path NoArg) blocks typed in
        let de = total_at lists own_places false path in
        let te = total_at lists node_numbers false path in
        let bd = together lists (each_block lists own_places blocks) in
        let bn = together lists (each_block lists node_numbers blocks) in
        let k = turned scope limits de te blocks (numbered_behind node.number numbers) in
        turned_back scope limits node.number (exec (Select node (ByLabels labels) (ByPath path NoArg) blocks) here) de te blocks
        (by_path scope ok limits around node labels path blocks typed asked.0.0 de bd bn k
        (λ y. picked_so scope ok limits own around gives (is_covered (type_at path)) labels blocks t.1 asked.1 (numbered_second de bd te bn k) y))
    stmt_so scope ok limits own around gives (Select node (ByLabels labels) (ByValue e (ByValue f rest)) blocks) typed asked numbers =
        no_selector scope around labels (ByValue e (ByValue f rest)) blocks refl typed
    stmt_so scope ok limits own around gives (Select node (ByLabels labels) (ByValue e (ByPath f rest)) blocks) typed asked numbers =
        no_selector scope around labels (ByValue e (ByPath f rest)) blocks refl typed
    stmt_so scope ok limits own around gives (Select node (ByLabels labels) (ByPath e (ByValue f rest)) blocks) typed asked numbers =
        no_selector scope around labels (ByPath e (ByValue f rest)) blocks refl typed
    stmt_so scope ok limits own around gives (Select node (ByLabels labels) (ByPath e (ByPath f rest)) blocks) typed asked numbers =
        no_selector scope around labels (ByPath e (ByPath f rest)) blocks refl typed
    stmt_so scope ok limits own around gives (Loop node While head body) typed asked numbers =
        let t = loop_typed scope around While head body typed in
        let hd = totals lists own_places head in
        let hn = totals lists node_numbers head in
        let bd = total_of lists own_places body in
        let bn = total_of lists node_numbers body in
        let ps = numbers_of (hd ++ bd) in
        let k = numbered_behind node.number numbers in
        let act = loop (while_turn node.number (test_of head here) (exec_all body here)) tt in
        part_in here first places (known scope) limits ps (node.number ∷ (hn ++ bn)) ps (hn ++ bn) (costs 1 act) (λ n m. m) (λ n m. inr m)
        (work_part here first places (known scope) limits ps (hn ++ bn) 1 act
        (while_loop scope ok limits node.number head t.0.0 t.0.1 asked.0 hd bd bn (exec_all body here) k
        (block_so scope ok limits own (looping around) gives body t.1.1 asked.1.1 (numbered_second hd bd hn bn k))))
    stmt_so scope ok limits own around gives (Loop node (Count place inclusive) head body) typed asked numbers =
        let t = loop_typed scope around (Count place inclusive) head body typed in
        let k = numbered_behind node.number numbers in
        let ps = numbers_of (place ∷ (totals lists own_places head ++ total_of lists own_places body)) in
        let ns = totals lists node_numbers head ++ total_of lists node_numbers body in
        let act = loop_over (Count place inclusive) node.number head (last_of body) (exec_all body here) here in
        part_in here first places (known scope) limits ps (node.number ∷ ns) ps ns (costs 1 act) (λ n m. m) (λ n m. inr m)
        (work_part here first places (known scope) limits ps ns 1 act
        (count_so here first places sorted OfCall Known calls scope ok limits own place inclusive node.number head t.0 asked.0 asked.1.0.0
        (totals lists own_places head) (total_of lists own_places body) (total_of lists node_numbers body) k (last_of body) (exec_all body here)
        (block_so (with_place scope place) (known_more scope place ok) (within (Count place inclusive) limits) own (looping around) gives body t.1.1 asked.1.1
        (behind_loop scope limits (within (Count place inclusive) limits) (λ g n e. e) place (totals lists own_places head) (total_of lists own_places body)
        (totals lists node_numbers head) (total_of lists node_numbers body) k))))
    stmt_so scope ok limits own around gives (Loop node (Each place) head body) typed asked numbers =
        let t = loop_typed scope around (Each place) head body typed in
        let k = numbered_behind node.number numbers in
        let ps = numbers_of (place ∷ (totals lists own_places head ++ total_of lists own_places body)) in
        let ns = totals lists node_numbers head ++ total_of lists node_numbers body in
        let act = loop_over (Each place) node.number head (last_of body) (exec_all body here) here in
        part_in here first places (known scope) limits ps (node.number ∷ ns) ps ns (costs 1 act) (λ n m. m) (λ n m. inr m)
        (work_part here first places (known scope) limits ps ns 1 act
        (each_so here first places sorted OfCall Known calls scope ok limits own place node.number head t.0 asked.0 asked.1.0.0
        (totals lists own_places head) (total_of lists own_places body) (total_of lists node_numbers body) k (last_of body) (exec_all body here)
        (block_so (with_place scope place) (known_more scope place ok) (within (Each place) limits) own (looping around) gives body t.1.1 asked.1.1
        (behind_loop scope limits (within (Each place) limits) (λ g n e. e) place (totals lists own_places head) (total_of lists own_places body)
        (totals lists node_numbers head) (total_of lists node_numbers body) k))))
    stmt_so scope ok limits own around gives (Raise node exception message) typed asked numbers = elim asked [ ]
    stmt_so scope ok limits own around gives (Try node body handlers last) typed asked numbers = elim asked [ ]

    pub block_so : (scope : scopes.Here) → Known scope → (limits : Limits) → NamesOwn limits → (around : Around) → around.gives ≡ type_of_place here.result →
        (x : Stmts) → is_typed_block (known scope) around x ≡ true → AskedBlock here.facts OfCall limits x →
        Placed_in scope limits (total_of lists own_places x) (total_of lists node_numbers x) →
        Part scope limits (numbers_of (total_of lists own_places x)) (total_of lists node_numbers x) (exec_all x here)
    block_so scope ok limits own around gives Empty typed asked numbers = nothing_so here first places (known scope) limits [] []
    block_so scope ok limits own around gives (Then x rest) typed asked numbers =
        let t = and_parts (is_typed_stmt (known scope) around x) (is_typed_block (known scope) around rest) typed in
        let ds = total_in lists own_places x in
        let es = total_of lists own_places rest in
        let ns = total_in lists node_numbers x in
        let ms = total_of lists node_numbers rest in
        let k = numbered_first ds es ns ms numbers in
        part_then here first places (known scope) limits (numbers_of (ds ++ es)) (ns ++ ms) (numbers_of ds) ns (numbers_of es) ms (exec x here)
        (λ u. exec_all rest here) (λ n m. numbers_first n ds es m) (λ n m. in_first n ns ms m) (λ n m. numbers_second n ds es m) (λ n m. in_second n ns ms m)
        k.none (stmt_so scope ok limits own around gives x t.0 asked.0 k)
        (λ u. block_so scope ok limits own around gives rest t.1 asked.1 (numbered_second ds es ns ms numbers))
    block_so scope ok limits own around gives (Declare node place cursor NoArg rest) typed asked numbers =
        let t = and_parts (starts here.facts place.of NoArg && true) (is_typed_block (known (with_place scope place)) around rest) typed in
        let rd = total_of lists own_places rest in
        let rn = total_of lists node_numbers rest in
        let at = numbers.bounds place.number (inl refl) in
        declare_then here first places sorted OfCall Known calls scope (with_place scope place) limits place [] rd (node.number ∷ []) rn numbers
        (costs 1 (at_node node.number points.Does (fill here place.number (default_of here.facts place.of)))) (exec_all rest here)
        (last_after node.number rest) (in_scope scope limits own place numbers)
        (default_declares here first places sorted OfCall Known calls scope limits place (numbers_of (place ∷ rd)) (node.number ∷ rn) node.number asked.0
        (inl refl) at.0 at.1)
        (block_so (with_place scope place) (known_more scope place ok) limits own around gives rest t.1 asked.1.1
        (numbered_in limits place rd (λ g n e. e) (numbered_behind node.number numbers)))
    block_so scope ok limits own around gives (Declare node place cursor (ByValue e NoArg) rest) typed asked numbers =
        let t = and_parts (is_of (type_of e) (Some place.of) && (is_typed (known scope) e && true))
        (is_typed_block (known (with_place scope place)) around rest)
        typed in
        let u = and_parts (is_of (type_of e) (Some place.of)) (is_typed (known scope) e && true) t.0 in
        let rd = total_of lists own_places rest in
        let rn = total_of lists node_numbers rest in
        let vd = totals lists own_places (ByValue e NoArg) in
        let vn = node.number ∷ totals lists node_numbers (ByValue e NoArg) in
        let te = total lists node_numbers e in
        let at = numbers.bounds place.number (inl refl) in
        declare_then here first places sorted OfCall Known calls scope (with_place scope place) limits place vd rd vn rn numbers
        (costs 1 (declared_by node.number place e)) (exec_all rest here) (last_after node.number rest) (in_scope scope limits own place numbers)
        (value_declares here first places sorted OfCall Known calls scope ok limits place e (and_parts (is_typed (known scope) e) true u.1).0 asked.1.0.0 u.0
        (suc node.number) (rise_first (suc node.number) te [] (rise_first (suc node.number) (te ++ []) rn numbers.nodes.1))
        (numbers_of (place ∷ (vd ++ rd))) (vn ++ rn) node.number (inl refl) at.0 at.1 (λ n m. inr (in_first n (te ++ []) rn (in_first n te [] m))))
        (block_so (with_place scope place) (known_more scope place ok) limits own around gives rest t.1 asked.1.1
        (behind_loop scope limits limits (λ g n e. e) place vd rd vn rn numbers))
    block_so scope ok limits own around gives (Declare node place cursor (ByValue e (ByValue f more)) rest) typed asked numbers = absurd (false≢true typed)
    block_so scope ok limits own around gives (Declare node place cursor (ByValue e (ByPath f more)) rest) typed asked numbers = absurd (false≢true typed)
    block_so scope ok limits own around gives (Declare node place cursor (ByPath path more) rest) typed asked numbers = absurd (false≢true typed)
    block_so scope ok limits own around gives (Defer node last rest) typed asked numbers = elim asked [ ]

    -- the block behind the first condition that holds
    first_so : (scope : scopes.Here) → Known scope → (limits : Limits) → NamesOwn limits → (around : Around) → around.gives ≡ type_of_place here.result →
        (tests : Args) (blocks : Blocks) → are_conditions here.facts tests ≡ true → are_blocks (types_in tests) blocks ≡ true →
        are_typed (known scope) tests ≡ true → are_typed_blocks (known scope) around blocks ≡ true → AllAsked here.facts limits (OfCall limits) tests →
        AskedBlocks here.facts OfCall limits blocks →
        Placed_in scope limits (in_turn lists (each lists own_places tests) (each_block lists own_places blocks))
        (in_turn lists (each lists node_numbers tests) (each_block lists node_numbers blocks)) →
        Part scope limits (numbers_of (in_turn lists (each lists own_places tests) (each_block lists own_places blocks)))
        (in_turn lists (each lists node_numbers tests) (each_block lists node_numbers blocks)) (first_block tests blocks here)
    first_so scope ok limits own around gives NoArg (Otherwise block) conditions fit typed blocks_typed asked blocks_asked numbers =
        let ds = total_of lists own_places block in
        let ns = total_of lists node_numbers block in
        first_in scope limits ds [] ns [] (exec_all block here)
        (block_so scope ok limits own around gives block blocks_typed blocks_asked (numbered_first ds [] ns [] numbers))
    first_so scope ok limits own around gives NoArg (Block x more) conditions fit typed blocks_typed asked blocks_asked numbers = absurd (false≢true fit)
    first_so scope ok limits own around gives (ByPath path rest) blocks conditions fit typed blocks_typed asked blocks_asked numbers =
        absurd (false≢true conditions)
    first_so scope ok limits own around gives (ByValue e rest) (Otherwise block) conditions fit typed blocks_typed asked blocks_asked numbers =
        absurd (false≢true fit)
    first_so scope ok limits own around gives (ByValue e rest) (Block x more) conditions fit typed blocks_typed asked blocks_asked numbers =
        let c = and_parts (is_bool (kind_if here.facts (type_of e))) (are_conditions here.facts rest) conditions in
        let t = and_parts (is_typed (known scope) e) (are_typed (known scope) rest) typed in
        let u = and_parts (not (is_empty x) && is_typed_block (known scope) around x) (are_typed_blocks (known scope) around more) blocks_typed in
        let v = and_parts (not (is_empty x)) (is_typed_block (known scope) around x) u.0 in
        let te = total lists node_numbers e in
        let de = total lists own_places e in
        let xd = total_of lists own_places x in
        let xn = total_of lists node_numbers x in
        let md = in_turn lists (each lists own_places rest) (each_block lists own_places more) in
        let mn = in_turn lists (each lists node_numbers rest) (each_block lists node_numbers more) in
        let test = ended_value here e Owned (eval e Owned here) in
        let others = numbered_second de (xd ++ md) te (xn ++ mn) numbers in
        part_then here first places (known scope) limits (numbers_of (de ++ (xd ++ md))) (te ++ (xn ++ mn)) [] te (numbers_of (xd ++ md)) (xn ++ mn)
        (at_node (node_of e).number points.Asks test)
        (λ y. at_node (node_of e).number points.Decides (branch (is_true (number_of y)) (exec_all x here) (first_block rest more here)))
        (λ n m. elim m [ ]) (λ n m. in_first n te (xn ++ mn) m) (λ n m. numbers_second n de (xd ++ md) m) (λ n m. in_second n te (xn ++ mn) m)
        (λ g n ty s q same m. elim m [ ])
        (node_part here first places (known scope) limits [] te (node_of e).number points.Asks test
        (test_so here first places sorted OfCall Known calls scope ok limits e t.0 asked.0 c.0 numbers.from_node
        (rise_first numbers.from_node te (xn ++ mn) numbers.nodes)))
        (λ y. node_part here first places (known scope) limits (numbers_of (xd ++ md)) (xn ++ mn) (node_of e).number points.Decides
        (branch (is_true (number_of y)) (exec_all x here) (first_block rest more here))
        (branch_part here first places (known scope) limits (numbers_of (xd ++ md)) (xn ++ mn) (is_true (number_of y)) (exec_all x here)
        (first_block rest more here)
        (first_in scope limits xd md xn mn (exec_all x here)
        (block_so scope ok limits own around gives x v.1 blocks_asked.0 (numbered_first xd md xn mn others)))
        (second_in scope limits xd md xn mn (first_block rest more here)
        (first_so scope ok limits own around gives rest more c.1 fit t.1 u.1 asked.1 blocks_asked.1 (numbered_second xd md xn mn others)))))

    -- the first block with a label that fits
    picked_so : (scope : scopes.Here) → Known scope → (limits : Limits) → NamesOwn limits → (around : Around) → around.gives ≡ type_of_place here.result →
        (covered : Bool) (labels : List (List Label)) (blocks : Blocks) → are_typed_blocks (known scope) around blocks ≡ true →
        AskedBlocks here.facts OfCall limits blocks →
        Placed_in scope limits (together lists (each_block lists own_places blocks)) (together lists (each_block lists node_numbers blocks)) → (y : Value) →
        Part scope limits (numbers_of (together lists (each_block lists own_places blocks))) (together lists (each_block lists node_numbers blocks))
        (picked_block covered labels blocks y here)
    picked_so scope ok limits own around gives covered labels (Otherwise block) typed asked numbers y =
        let ds = total_of lists own_places block in
        let ns = total_of lists node_numbers block in
        first_in scope limits ds [] ns [] (exec_all block here)
        (block_so scope ok limits own around gives block typed asked (numbered_first ds [] ns [] numbers))
    picked_so scope ok limits own around gives covered [] (Block x more) typed asked numbers y =
        let u = and_parts (not (is_empty x) && is_typed_block (known scope) around x) (are_typed_blocks (known scope) around more) typed in
        let xd = total_of lists own_places x in
        let xn = total_of lists node_numbers x in
        let md = together lists (each_block lists own_places more) in
        let mn = together lists (each_block lists node_numbers more) in
        first_in scope limits xd md xn mn (exec_all x here)
        (block_so scope ok limits own around gives x (and_parts (not (is_empty x)) (is_typed_block (known scope) around x) u.0).1 asked.0
        (numbered_first xd md xn mn numbers))
    picked_so scope ok limits own around gives covered (these ∷ labels) (Block x more) typed asked numbers y =
        let u = and_parts (not (is_empty x) && is_typed_block (known scope) around x) (are_typed_blocks (known scope) around more) typed in
        let xd = total_of lists own_places x in
        let xn = total_of lists node_numbers x in
        let md = together lists (each_block lists own_places more) in
        let mn = together lists (each_block lists node_numbers more) in
        let ps = numbers_of (xd ++ md) in
        let others = picked_block covered labels more y here in
        let this_so = first_in scope limits xd md xn mn (exec_all x here)
        (block_so scope ok limits own around gives x (and_parts (not (is_empty x)) (is_typed_block (known scope) around x) u.0).1 asked.0
        (numbered_first xd md xn mn numbers)) in
        tried_part here first places (known scope) limits ps (xn ++ mn) these y (exec_all x here)
        (branch (covered && is_last_block more) (exec_all x here) others) this_so
        (branch_part here first places (known scope) limits ps (xn ++ mn) (covered && is_last_block more) (exec_all x here) others this_so
        (second_in scope limits xd md xn mn others
        (picked_so scope ok limits own around gives covered labels more u.1 asked.1 (numbered_second xd md xn mn numbers) y)))
