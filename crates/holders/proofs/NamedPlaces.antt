-- What is typed is typed where no places are in scope but those that it names.
use Rattle.std.proofs.Common.{◌≡◌, refl, sym, ap, ap₂, ◌∙◌, arith, ℕ, length, inl, Bool, true, false, List, [], ◌∷◌, ◌++◌, Option, Some, None}
use Rattle.std.specs.Prelude.{◌&&◌, ◌||◌, not, nat_eq, if◌then◌else◌, slice_get}
use Rattle.nim_types.specs.Types.{Ty}
use Rattle.nim_program.specs.declared.operation.Operation.{Operation}
use Rattle.nim_program.specs.Program.{Act, Doing, Building, Giving, Calling, Expr, Apply, Read, Early, Choose, Path, Variable, Fresh, Field, Element, Deref}
use Rattle.nim_program.specs.Program.{Args, NoArg, ByValue, ByPath, type_of, type_at, types_in, Declared, Body, Proc, While, Count, Each, Stmt, Do, Idle, Give}
use Rattle.nim_program.specs.Program.{Leave, Select, Loop, Raise, Try, Stmts, Empty, Then, Declare, Defer, Blocks, Otherwise}
use Rattle.nim_program.specs.Program.{Block, Handlers, NoHandler, Handler}
use Rattle.nim_program.specs.Folds.{lists, together, in_turn, total, total_at, totals, each, total_in, total_of, each_block, total_of_handlers}
use Rattle.nim_program.specs.Kinds.{kind_if, field_at, element_of, object_of, is_of, is_int, is_there, same_value}
use Rattle.nim_program.specs.Fitting.{fits, places_in, early_fits, chooser_fits}
use Rattle.nim_program.specs.Scopes.{Here, Placed, placed, look, is_ready, is_no_hook, given_if, are_taken, call_fits}
use Rattle.nim_program.specs.Typed.{Around, act_fits, are_placed, may_take, may_take_all, choice_is_placed, is_fresh, is_read, is_whole, is_typed}
use Rattle.nim_program.specs.Typed.{is_typed_path, are_typed, may_leave, chooses, head_fits, is_empty, looping, raises}
use Rattle.nim_program.specs.Typed.{has_handler, in_any_case, handling, starts}
use Rattle.nim_program.specs.Typed.{is_typed_stmt, is_typed_block, are_typed_blocks, are_typed_handlers, are_exceptions, is_caught}
use Rattle.nim_program.proofs.ForCallers.{in_fresh}
use Rattle.nim_meaning.specs.Marks.{Member}
use Rattle.holders.specs.Holdings.{own_named}
use Rattle.holders.proofs.Owning.{in_first, in_second}
use Rattle.holders.proofs.Copying.{either_block}

-- ---- lists that stand in turn

none_more : (n : ℕ) (xs : List ℕ) → Member n xs → Member n (xs ++ [])
none_more n xs m = in_first n xs [] m

turn_first : (n : ℕ) (xs ys : List (List ℕ)) → Member n (together lists xs) → Member n (in_turn lists xs ys)
turn_first n [] ys m = elim m [ ]
turn_first n (x ∷ xs) [] m = m
turn_first n (x ∷ xs) (y ∷ ys) m =
    either_block n x (together lists xs) (Member n (x ++ (y ++ in_turn lists xs ys))) m (λ q. in_first n x (y ++ in_turn lists xs ys) q)
    (λ q. in_second n x (y ++ in_turn lists xs ys) (in_second n y (in_turn lists xs ys) (turn_first n xs ys q)))

turn_second : (n : ℕ) (xs ys : List (List ℕ)) → Member n (together lists ys) → Member n (in_turn lists xs ys)
turn_second n [] ys m = m
turn_second n (x ∷ xs) [] m = elim m [ ]
turn_second n (x ∷ xs) (y ∷ ys) m =
    in_second n x (y ++ in_turn lists xs ys)
    (either_block n y (together lists ys) (Member n (y ++ in_turn lists xs ys)) m (λ q. in_first n y (in_turn lists xs ys) q)
    (λ q. in_second n y (in_turn lists xs ys) (turn_second n xs ys q)))

each_of : (n : ℕ) (args : Args) → Member n (totals lists own_named args) → Member n (together lists (each lists own_named args))
each_of n NoArg m = m
each_of n (ByValue value rest) m =
    let first = total lists own_named value in
    let tests = together lists (each lists own_named rest) in
    either_block n first (totals lists own_named rest) (Member n (first ++ tests)) m (λ q. in_first n first tests q)
    (λ q. in_second n first tests (each_of n rest q))
each_of n (ByPath path rest) m =
    let first = total_at lists own_named false path in
    let tests = together lists (each lists own_named rest) in
    either_block n first (totals lists own_named rest) (Member n (first ++ tests)) m (λ q. in_first n first tests q)
    (λ q. in_second n first tests (each_of n rest q))

-- ---- places

-- the same types at these
abbrev pub SameAt : (ps qs : List Placed) → List ℕ → Type 0
SameAt ps qs ns = (n : ℕ) → Member n ns → look ps n ≡ look qs n

-- with one place more
look_more : (ps qs : List Placed) (p : Placed) (n : ℕ) → look ps n ≡ look qs n → look (ps ++ p ∷ []) n ≡ look (qs ++ p ∷ []) n
look_more ps qs p n e = behind ps ∙ (ap (λ o. or_else o) e ∙ sym (behind qs))
  where
    or_else : Option Ty → Option Ty
    or_else None = look (p ∷ []) n
    or_else (Some ty) = Some ty

    behind : (rs : List Placed) → look (rs ++ p ∷ []) n ≡ or_else (look rs n)
    behind [] = refl
    behind (r ∷ rs) = by (nat_eq r.number n) (behind rs)
      where
        by : (b : Bool) → look (rs ++ p ∷ []) n ≡ or_else (look rs n) →
            (if b then Some r.of else look (rs ++ p ∷ []) n) ≡ or_else (if b then Some r.of else look rs n)
        by true rest = refl
        by false rest = rest

module _ (h : Here) where
  abbrev pub at : List Placed → Here
  at ps = record h { places = ps }

  -- ---- acts look at no places

  take_same : (ps qs : List Placed) (operation : Operation) (path : Path) → may_take (at ps) operation path ≡ may_take (at qs) operation path
  take_same ps qs operation path = grind arith

  all_take_same : (ps qs : List Placed) (operation : Operation) (operands : Args) →
      may_take_all (at ps) operation operands ≡ may_take_all (at qs) operation operands
  all_take_same ps qs operation NoArg = refl
  all_take_same ps qs operation (ByValue value rest) = all_take_same ps qs operation rest
  all_take_same ps qs operation (ByPath path rest) = ap₂ (λ a b. a && b) (take_same ps qs operation path) (all_take_same ps qs operation rest)

  ready_same : (ps qs : List Placed) (o : Option Body) → is_ready (at ps) o ≡ is_ready (at qs) o
  ready_same ps qs None = refl
  ready_same ps qs (Some body) = refl

  call_same : (ps qs : List Placed) (found : Option Proc) (types : List Ty) (ty : Option Ty) (operands : Args) →
      call_fits (at ps) found types ty operands ≡ call_fits (at qs) found types ty operands
  call_same ps qs None types ty operands = refl
  call_same ps qs (Some p) types ty operands =
      ap (λ r. ((is_no_hook p.hook && r) && nat_eq (length types) p.type_params)
      && (same_value (given_if types p.gives) ty && are_taken types p.params operands)) (ready_same ps qs p.body)

  act_same : (ps qs : List Placed) (ty : Option Ty) (act : Act) (operands : Args) → act_fits (at ps) ty act operands ≡ act_fits (at qs) ty act operands
  act_same ps qs ty (Doing operation) operands =
      ap (λ b. fits h.facts operation ty (types_in operands) && (are_placed (places_in operation) operands && b)) (all_take_same ps qs operation operands)
  act_same ps qs ty (Building fields) operands = refl
  act_same ps qs ty (Giving literal) NoArg = refl
  act_same ps qs ty (Giving literal) (ByValue value rest) = refl
  act_same ps qs ty (Giving literal) (ByPath path rest) = refl
  act_same ps qs ty (Calling proc types) operands = call_same ps qs (slice_get h.procs proc) types ty operands

  -- ---- expressions

  abbrev Same : (ps qs : List Placed) → List ℕ → Type 0
  Same ps qs ns = SameAt ps qs ns

  first_same : (ps qs : List Placed) (xs ys : List ℕ) → Same ps qs (xs ++ ys) → Same ps qs xs
  first_same ps qs xs ys s n m = s n (in_first n xs ys m)

  second_same : (ps qs : List Placed) (xs ys : List ℕ) → Same ps qs (xs ++ ys) → Same ps qs ys
  second_same ps qs xs ys s n m = s n (in_second n xs ys m)

  alone_same : (ps qs : List Placed) (xs : List ℕ) → Same ps qs xs → Same ps qs (xs ++ [])
  alone_same ps qs xs s n m = either_block n xs [] (look ps n ≡ look qs n) m (λ q. s n q) (λ q. elim q [ ])

  mutual
    pub expr_same : (ps qs : List Placed) (e : Expr) → Same ps qs (total lists own_named e) → is_typed (at ps) e ≡ is_typed (at qs) e
    expr_same ps qs (Apply node ty act operands) s = ap₂ (λ a b. a && b) (act_same ps qs ty act operands) (args_same ps qs operands s)
    expr_same ps qs (Read path) s = ap (λ b. is_read h.facts path && b) (path_same ps qs true path s)
    expr_same ps qs (Early node ty short left right) s =
        let one = total lists own_named left in
        let two = total lists own_named right in
        ap₂ (λ a b. early_fits h.facts ty (type_of left) (type_of right) && (a && b)) (expr_same ps qs left (first_same ps qs one two s))
        (expr_same ps qs right (second_same ps qs one two s))
    expr_same ps qs (Choose node ty chooser parts) s =
        ap (λ b. (chooser_fits h.facts ty chooser (types_in parts) && choice_is_placed chooser parts) && b) (args_same ps qs parts s)

    path_same : (ps qs : List Placed) (read : Bool) (path : Path) → Same ps qs (total_at lists own_named read path) →
        is_typed_path (at ps) path ≡ is_typed_path (at qs) path
    path_same ps qs read (Variable node ty place true) s = refl
    path_same ps qs read (Variable node ty place false) s = ap (λ o. is_of o (Some ty)) (s place (inl refl))
    path_same ps qs read (Fresh value) s =
        ap (λ b. (is_fresh value && is_there (type_of value)) && b)
        (expr_same ps qs value (in_fresh own_named (λ node ty read literal. refl) (λ ns. Same ps qs ns) (λ xs ys k. second_same ps qs xs ys k)
        (λ xs k. alone_same ps qs xs k) read value s))
    path_same ps qs read (Field node ty base field) s =
        ap (λ b. is_of (field_at (kind_if h.facts (type_at base)) field) (Some ty) && b) (path_same ps qs false base s)
    path_same ps qs read (Element node ty base index constant) s =
        let one = total_at lists own_named false base in
        let two = total lists own_named index in
        ap₂ (λ a b. (is_of (element_of (kind_if h.facts (type_at base))) (Some ty) && is_int (kind_if h.facts (type_of index))) && (a && b))
        (path_same ps qs false base (first_same ps qs one two s)) (expr_same ps qs index (second_same ps qs one two s))
    path_same ps qs read (Deref ty base) s =
        ap (λ b. is_of (object_of (kind_if h.facts (type_at base))) (Some ty) && b) (path_same ps qs false base s)

    pub args_same : (ps qs : List Placed) (args : Args) → Same ps qs (totals lists own_named args) → are_typed (at ps) args ≡ are_typed (at qs) args
    args_same ps qs NoArg s = refl
    args_same ps qs (ByValue value rest) s =
        let one = total lists own_named value in
        let two = totals lists own_named rest in
        ap₂ (λ a b. a && b) (expr_same ps qs value (first_same ps qs one two s)) (args_same ps qs rest (second_same ps qs one two s))
    args_same ps qs (ByPath path rest) s =
        let one = total_at lists own_named false path in
        let two = totals lists own_named rest in
        ap₂ (λ a b. (is_whole h.facts path && a) && b) (path_same ps qs false path (first_same ps qs one two s))
        (args_same ps qs rest (second_same ps qs one two s))

  -- ---- statements

  more_same : (ps qs : List Placed) (place : Declared) (ns : List ℕ) → Same ps qs ns → Same (ps ++ placed place ∷ []) (qs ++ placed place ∷ []) ns
  more_same ps qs place ns s n m = look_more ps qs (placed place) n (s n m)

  mutual
    pub stmt_same : (ps qs : List Placed) (around : Around) (x : Stmt) → Same ps qs (total_in lists own_named x) →
        is_typed_stmt (at ps) around x ≡ is_typed_stmt (at qs) around x
    stmt_same ps qs around (Do value) s = ap (λ b. not (is_there (type_of value)) && b) (expr_same ps qs value s)
    stmt_same ps qs around (Idle node parts) s = args_same ps qs parts s
    stmt_same ps qs around (Give node back value) s =
        ap (λ b. (is_of (type_of value) around.gives && (not back || around.returns)) && b) (expr_same ps qs value s)
    stmt_same ps qs around (Leave node leaving parts) s = ap (λ b. may_leave around leaving && b) (args_same ps qs parts s)
    stmt_same ps qs around (Select node chooser tests blocks) s =
        let xs = each lists own_named tests in
        let ys = each_block lists own_named blocks in
        ap₂ (λ a b. (chooses h.facts chooser tests blocks && a) && b)
        (args_same ps qs tests (λ n m. s n (turn_first n xs ys (each_of n tests m))))
        (blocks_same ps qs around blocks (λ n m. s n (turn_second n xs ys m)))
    stmt_same ps qs around (Loop node While head body) s =
        let one = totals lists own_named head in
        let two = total_of lists own_named body in
        ap₂ (λ a b. (head_fits h.facts While head && a) && (not (is_empty body) && b)) (args_same ps qs head (first_same ps qs one two s))
        (block_same ps qs (looping around) body (second_same ps qs one two s))
    stmt_same ps qs around (Loop node (Count place inclusive) head body) s =
        let one = totals lists own_named head in
        let two = total_of lists own_named body in
        ap₂ (λ a b. (head_fits h.facts (Count place inclusive) head && a) && (not (is_empty body) && b)) (args_same ps qs head (first_same ps qs one two s))
        (block_same (ps ++ placed place ∷ []) (qs ++ placed place ∷ []) (looping around) body (more_same ps qs place two (second_same ps qs one two s)))
    stmt_same ps qs around (Loop node (Each place) head body) s =
        let one = totals lists own_named head in
        let two = total_of lists own_named body in
        ap₂ (λ a b. (head_fits h.facts (Each place) head && a) && (not (is_empty body) && b)) (args_same ps qs head (first_same ps qs one two s))
        (block_same (ps ++ placed place ∷ []) (qs ++ placed place ∷ []) (looping around) body (more_same ps qs place two (second_same ps qs one two s)))
    stmt_same ps qs around (Raise node exception message) s =
        ap (λ b. raises h.facts around.in_handler exception message && b) (args_same ps qs message s)
    stmt_same ps qs around (Try node body handlers last) s =
        let one = total_of lists own_named body in
        let two = total_of_handlers lists own_named handlers in
        let three = total_of lists own_named last in
        let rest = second_same ps qs one (two ++ three) s in
        ap₂ (λ a b. ((has_handler handlers || not (is_empty last)) && (not (is_empty body) && a)) && b)
        (block_same ps qs around body (first_same ps qs one (two ++ three) s))
        (ap₂ (λ a b. a && b) (handlers_same ps qs around handlers (first_same ps qs two three rest))
        (block_same ps qs (in_any_case around) last (second_same ps qs two three rest)))

    block_same : (ps qs : List Placed) (around : Around) (x : Stmts) → Same ps qs (total_of lists own_named x) →
        is_typed_block (at ps) around x ≡ is_typed_block (at qs) around x
    block_same ps qs around Empty s = refl
    block_same ps qs around (Then first rest) s =
        let one = total_in lists own_named first in
        let two = total_of lists own_named rest in
        ap₂ (λ a b. a && b) (stmt_same ps qs around first (first_same ps qs one two s)) (block_same ps qs around rest (second_same ps qs one two s))
    block_same ps qs around (Declare node place cursor value rest) s =
        let one = totals lists own_named value in
        let two = total_of lists own_named rest in
        ap₂ (λ a b. (starts h.facts place.of value && a) && b) (args_same ps qs value (first_same ps qs one two s))
        (block_same (ps ++ placed place ∷ []) (qs ++ placed place ∷ []) around rest (more_same ps qs place two (second_same ps qs one two s)))
    block_same ps qs around (Defer node last rest) s =
        let one = total_of lists own_named last in
        let two = total_of lists own_named rest in
        ap₂ (λ a b. (not (is_empty last) && a) && b) (block_same ps qs (in_any_case around) last (first_same ps qs one two s))
        (block_same ps qs around rest (second_same ps qs one two s))

    blocks_same : (ps qs : List Placed) (around : Around) (x : Blocks) → Same ps qs (together lists (each_block lists own_named x)) →
        are_typed_blocks (at ps) around x ≡ are_typed_blocks (at qs) around x
    blocks_same ps qs around (Otherwise block) s = block_same ps qs around block (first_same ps qs (total_of lists own_named block) [] s)
    blocks_same ps qs around (Block first rest) s =
        let one = total_of lists own_named first in
        let two = together lists (each_block lists own_named rest) in
        ap₂ (λ a b. (not (is_empty first) && a) && b) (block_same ps qs around first (first_same ps qs one two s))
        (blocks_same ps qs around rest (second_same ps qs one two s))

    handlers_same : (ps qs : List Placed) (around : Around) (x : Handlers) → Same ps qs (total_of_handlers lists own_named x) →
        are_typed_handlers (at ps) around x ≡ are_typed_handlers (at qs) around x
    handlers_same ps qs around NoHandler s = refl
    handlers_same ps qs around (Handler types None body rest) s =
        let one = total_of lists own_named body in
        let two = total_of_handlers lists own_named rest in
        ap₂ (λ a b. (are_exceptions h.facts types && true) && ((not (is_empty body) && a) && b))
        (block_same ps qs (handling around) body (first_same ps qs one two s)) (handlers_same ps qs around rest (second_same ps qs one two s))
    handlers_same ps qs around (Handler types (Some place) body rest) s =
        let one = total_of lists own_named body in
        let two = total_of_handlers lists own_named rest in
        ap₂ (λ a b. (are_exceptions h.facts types && is_caught h.facts (Some place)) && ((not (is_empty body) && a) && b))
        (block_same (ps ++ placed place ∷ []) (qs ++ placed place ∷ []) (handling around) body (more_same ps qs place one (first_same ps qs one two s)))
        (handlers_same ps qs around rest (second_same ps qs one two s))
