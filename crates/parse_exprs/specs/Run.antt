-- Reading as a computation by steps: the same as Grammar.antt and Faults.antt say, in the order of the tokens.
--
-- Each function takes the steps that are left; where there are none, it says so. n is the number of levels that are left.
use Rattle.std.specs.Prelude.{ℕ, zero, suc, Bool, true, false, nat_lt, if◌then◌else◌, List, [], ◌∷◌, Option, Some, None}
use Rattle.arc_base.specs.declared.place.Place.{Place}
use Rattle.indent_scanner.specs.declared.token.Token.{Token}
use Rattle.nim_tree.specs.declared.expr.UnaryOp.{UnaryOp}
use Rattle.nim_tree.specs.declared.expr.BinaryOp.{BinaryOp}
use Rattle.nim_tree.specs.Terms.{Term, field, unary, binary, sequence, named, if_term, case_term, case_else, range, Parts, no_parts, part, and_part, Choices}
use Rattle.nim_tree.specs.Terms.{no_choices, choice, and_choice, place_of, levels}
use Rattle.parse_exprs.specs.declared.layout.Layout.{Layout}
use Rattle.parse_exprs.specs.declared.layout.Layout.TheVariants.{Brackets}
use Rattle.parse_exprs.specs.declared.input.Bracket.{Bracket}
use Rattle.parse_exprs.specs.declared.input.Bracket.TheVariants.{Square}
use Rattle.parse_exprs.specs.declared.input.Lead.{Lead}
use Rattle.parse_exprs.specs.declared.input.Lead.TheVariants as L
use Rattle.parse_exprs.specs.Look.{Origin, spelling, place_at, op_at, op_levels, single, grouped, applied, sign_of, is_at_sign, is_punct, bracket_at, kind_at}
use Rattle.parse_exprs.specs.Look.{closes_at, names_in, names_behind, name_on, suffix_at, stays, square_at, operand_at, lead_at, branch_at, is_elif, is_else}
use Rattle.parse_exprs.specs.Look.{is_of, first_of_at, branch_layout, colon_at, comma_at, past_colon, dots_at, is_name, at_start, past_start, no_command_on}
use Rattle.parse_exprs.specs.Look.{else_on, deeper_line_at, line_layout, closed_at}
use Rattle.parse_exprs.specs.Outcome.{deep, stuck, tired, Out, got, bad, then_do, unless_stuck}

-- a condition or labels, and the value behind them
pub record Tail : Type 0 where
  pub tests : Parts
  pub value : Term

-- the tokens behind the first
abbrev pub behind : List Token → List Token
behind [] = []
behind (tok ∷ ts) = ts

-- a tree that the tokens may not make
abbrev pub made : Option Term → List Token → List Token → Out Term
made None at rest = bad (stuck at)
made (Some t) at rest = got t rest

-- `.` and a name
abbrev pub run_field : Option Token → Origin → Term → List Token → Out Term
run_field None x a ts = bad (stuck (behind ts))
run_field (Some tok) x a ts = got (field (place_of a) a (spelling x tok)) (behind (behind ts))

abbrev mutual
  -- an expression
  pub run_expr : ℕ → Origin → Layout → ℕ → List Token → Out Term
  run_expr zero x i n ts = bad tired
  run_expr (suc k) x i n ts = run_lead k (lead_at ts) x i n ts

  pub run_lead : ℕ → Lead → Origin → Layout → ℕ → List Token → Out Term
  run_lead zero lead x i n ts = bad tired
  run_lead (suc k) L.Operand x i n ts = run_level k x i op_levels n ts
  run_lead (suc k) L.If x i n ts = run_if k x i n ts
  run_lead (suc k) L.Case x i n ts = run_case k x i n ts

  -- ---- operators

  pub run_level : ℕ → Origin → Layout → ℕ → ℕ → List Token → Out Term
  run_level zero x i l n ts = bad tired
  run_level (suc k) x i zero n ts = run_unary k x i n ts
  run_level (suc k) x i (suc l) n ts = then_do (run_level k x i l n ts) (λ a mid. run_chain k x (past_start i) l n a mid)

  -- what follows a
  pub run_chain : ℕ → Origin → Layout → ℕ → ℕ → Term → List Token → Out Term
  run_chain zero x i l n a ts = bad tired
  run_chain (suc k) x i l n a ts = run_more k (op_at x i l ts) x i l n a ts

  pub run_more : ℕ → Option BinaryOp → Origin → Layout → ℕ → ℕ → Term → List Token → Out Term
  run_more zero op x i l n a ts = bad tired
  run_more (suc k) None x i l n a ts = got a ts
  run_more (suc k) (Some op) x i l zero a ts = bad deep
  run_more (suc k) (Some op) x i l (suc n) a ts =
      if nat_lt n (levels a) then bad deep else
      then_do (run_level k x i l n (behind ts)) (λ b mid. run_chain k x i l (suc n) (binary (place_of a) op a b) mid)

  pub run_unary : ℕ → Origin → Layout → ℕ → List Token → Out Term
  run_unary zero x i n ts = bad tired
  run_unary (suc k) x i zero ts = bad (if operand_at x ts then deep else stuck ts)
  run_unary (suc k) x i (suc n) [] = bad (stuck [])
  run_unary (suc k) x i (suc n) (tok ∷ ts) = run_signed k (sign_of tok.kind (spelling x tok)) x i n tok ts

  pub run_signed : ℕ → Option UnaryOp → Origin → Layout → ℕ → Token → List Token → Out Term
  run_signed zero op x i n tok ts = bad tired
  run_signed (suc k) None x i n tok ts = then_do (run_primary k x i (at_start i) (suc n) (tok ∷ ts))
      (λ a rest. unless_stuck (no_command_on x i rest) rest (got a rest))
  run_signed (suc k) (Some op) x i n tok ts =
      unless_stuck (stays i ts) ts (then_do (run_unary k x (past_start i) n ts) (λ a rest. got (unary (place_at x tok) op a) rest))

  -- ---- what stands behind an atom; c says whether a command may begin

  pub run_primary : ℕ → Origin → Layout → Bool → ℕ → List Token → Out Term
  run_primary zero x i c n ts = bad tired
  run_primary (suc k) x i c n ts = then_do (run_atom k x i n ts) (λ a mid. run_suffixes k x i c n a mid)

  pub run_suffixes : ℕ → Origin → Layout → Bool → ℕ → Term → List Token → Out Term
  run_suffixes zero x i c n a ts = bad tired
  run_suffixes (suc k) x i c n a ts = if suffix_at i c ts then run_suffix k x i c n a ts else got a ts

  pub run_suffix : ℕ → Origin → Layout → Bool → ℕ → Term → List Token → Out Term
  run_suffix zero x i c n a ts = bad tired
  run_suffix (suc k) x i c zero a ts = bad deep
  run_suffix (suc k) x i c (suc n) a ts = if nat_lt n (levels a) then bad deep else then_do (run_applied k (bracket_at ts) x i n a ts)
      (λ b mid. run_suffixes k x i c (suc n) b mid)

  pub run_applied : ℕ → Option Bracket → Origin → Layout → ℕ → Term → List Token → Out Term
  run_applied zero b x i n a ts = bad tired
  run_applied (suc k) None x i n a ts = run_field (name_on i (behind ts)) x a ts
  run_applied (suc k) (Some b) x i n a ts =
      then_do (run_enclosed k x b (names_behind a b (behind ts)) n ts) (λ parts rest. made (applied b (names_behind a b (behind ts)) a parts) (behind ts) rest)

  -- ---- atoms

  pub run_atom : ℕ → Origin → Layout → ℕ → List Token → Out Term
  run_atom zero x i n ts = bad tired
  run_atom (suc k) x i n [] = bad (stuck [])
  run_atom (suc k) x i n (tok ∷ ts) = run_group k (single x tok) (bracket_at (tok ∷ ts)) x i n tok ts

  pub run_group : ℕ → Option Term → Option Bracket → Origin → Layout → ℕ → Token → List Token → Out Term
  run_group zero t b x i n tok ts = bad tired
  run_group (suc k) (Some t) b x i n tok ts = got t ts
  run_group (suc k) None b x i zero tok ts = bad deep
  run_group (suc k) None (Some b) x i (suc n) tok ts =
      then_do (run_enclosed k x b (names_in b ts) n (tok ∷ ts)) (λ parts rest. made (grouped b (names_in b ts) (place_at x tok) parts) ts rest)
  run_group (suc k) None None x i (suc n) tok ts =
      unless_stuck (is_at_sign tok.kind (spelling x tok)) (tok ∷ ts) (
      unless_stuck (stays i ts) ts (
      unless_stuck (square_at ts) ts (
      then_do (run_enclosed k x Square false n ts) (λ parts rest. got (sequence (place_at x tok) parts) rest))))

  -- ---- parts in brackets; m says whether they have names

  pub run_enclosed : ℕ → Origin → Bracket → Bool → ℕ → List Token → Out Parts
  run_enclosed zero x b m n ts = bad tired
  run_enclosed (suc k) x b m n ts =
      if closes_at b (behind ts) then got no_parts (behind (behind ts)) else
      then_do (run_list k x m n (behind ts)) (λ parts mid. unless_stuck (closes_at b mid) mid (got parts (behind mid)))

  pub run_list : ℕ → Origin → Bool → ℕ → List Token → Out Parts
  run_list zero x m n ts = bad tired
  run_list (suc k) x m n ts = then_do (run_part k x m n ts) (λ a mid. run_parts k x m n (part a no_parts) mid)

  -- what follows some parts
  pub run_parts : ℕ → Origin → Bool → ℕ → Parts → List Token → Out Parts
  run_parts zero x m n some ts = bad tired
  run_parts (suc k) x m n some ts =
      if kind_at (is_punct 44) ts then then_do (run_part k x m n (behind ts)) (λ a mid. run_parts k x m n (and_part some a) mid) else got some ts

  pub run_part : ℕ → Origin → Bool → ℕ → List Token → Out Term
  run_part zero x m n ts = bad tired
  run_part (suc k) x false n ts = run_expr k x Brackets n ts
  run_part (suc k) x true n [] = bad (stuck [])
  run_part (suc k) x true n (tok ∷ ts) =
      unless_stuck (kind_at is_name (tok ∷ ts)) (tok ∷ ts) (
      unless_stuck (kind_at (is_punct 58) ts) ts (
      then_do (run_expr k x Brackets n (behind ts)) (λ a rest. got (named (place_at x tok) (spelling x tok) a) rest)))

  -- ---- `if`

  pub run_if : ℕ → Origin → Layout → ℕ → List Token → Out Term
  run_if zero x i n ts = bad tired
  run_if (suc k) x i zero ts = bad deep
  run_if (suc k) x i (suc n) [] = bad (stuck [])
  run_if (suc k) x i (suc n) (tok ∷ ts) =
      then_do (run_tail k x i n ts) (λ one mid.
      then_do (run_elifs k x i n (choice (place_at x tok) one.tests one.value no_choices) mid) (λ all end.
      then_do (run_else k x i n end) (λ e rest.
      got (if_term (place_at x tok) all e) rest)))

  -- a condition, a colon and a value
  pub run_tail : ℕ → Origin → Layout → ℕ → List Token → Out Tail
  run_tail zero x i n ts = bad tired
  run_tail (suc k) x i n ts =
      unless_stuck (stays i ts) ts (
      then_do (run_expr k x (past_start i) n ts) (λ c mid.
      then_do (run_value k x i n mid) (λ v rest.
      got (record { tests = part c no_parts; value = v }) rest)))

  -- a colon and a value
  pub run_value : ℕ → Origin → Layout → ℕ → List Token → Out Term
  run_value zero x i n ts = bad tired
  run_value (suc k) x i n ts =
      unless_stuck (colon_at i ts) ts (
      if stays i (behind ts) then run_expr k x i n (behind ts) else run_own_line k x i n (behind ts))

  -- a value on lines of its own
  pub run_own_line : ℕ → Origin → Layout → ℕ → List Token → Out Term
  run_own_line zero x i n ts = bad tired
  run_own_line (suc k) x i n ts =
      unless_stuck (deeper_line_at i ts) ts (
      then_do (run_expr k x (line_layout i ts) n ts) (λ v rest.
      unless_stuck (closed_at (line_layout i ts) rest) rest (got v rest)))

  pub run_elifs : ℕ → Origin → Layout → ℕ → Choices → List Token → Out Choices
  run_elifs zero x i n some ts = bad tired
  run_elifs (suc k) x i n some [] = got some []
  run_elifs (suc k) x i n some (tok ∷ ts) =
      if branch_at i is_elif (tok ∷ ts) then then_do (run_tail k x i n ts)
      (λ one mid. run_elifs k x i n (and_choice some (place_at x tok) one.tests one.value) mid) else got some (tok ∷ ts)

  -- `else`, a colon and a value
  pub run_else : ℕ → Origin → Layout → ℕ → List Token → Out Term
  run_else zero x i n ts = bad tired
  run_else (suc k) x i n ts = unless_stuck (branch_at i is_else ts) ts (run_value k x i n (behind ts))

  -- ---- `case`

  pub run_case : ℕ → Origin → Layout → ℕ → List Token → Out Term
  run_case zero x i n ts = bad tired
  run_case (suc k) x i zero ts = bad deep
  run_case (suc k) x i (suc n) [] = bad (stuck [])
  run_case (suc k) x i (suc n) (tok ∷ ts) =
      unless_stuck (stays i ts) ts (
      then_do (run_expr k x (past_start i) n ts) (λ s mid. run_branches k x i n (place_at x tok) s (past_colon i mid)))

  pub run_branches : ℕ → Origin → Layout → ℕ → Place → Term → List Token → Out Term
  run_branches zero x i n at s ts = bad tired
  run_branches (suc k) x i n at s [] = bad (stuck [])
  run_branches (suc k) x i n at s (tok ∷ ts) =
      unless_stuck (first_of_at i (tok ∷ ts)) (tok ∷ ts) (
      then_do (run_of k x (branch_layout i tok.indent) n ts) (λ one mid.
      then_do (run_ofs k x (branch_layout i tok.indent) n (choice (place_at x tok) one.tests one.value no_choices) mid) (λ all end.
      run_otherwise k x (branch_layout i tok.indent) n at s all end)))

  -- labels, a colon and a value
  pub run_of : ℕ → Origin → Layout → ℕ → List Token → Out Tail
  run_of zero x i n ts = bad tired
  run_of (suc k) x i n ts =
      unless_stuck (stays i ts) ts (
      then_do (run_label k x (past_start i) n ts) (λ a mid.
      then_do (run_labels k x (past_start i) n (part a no_parts) mid) (λ labels end.
      then_do (run_value k x i n end) (λ v rest.
      got (record { tests = labels; value = v }) rest))))

  pub run_labels : ℕ → Origin → Layout → ℕ → Parts → List Token → Out Parts
  run_labels zero x i n some ts = bad tired
  run_labels (suc k) x i n some ts =
      if comma_at i ts then then_do (run_label k x i n (behind ts)) (λ a mid. run_labels k x i n (and_part some a) mid) else got some ts

  -- an expression, or two with `..` between them
  pub run_label : ℕ → Origin → Layout → ℕ → List Token → Out Term
  run_label zero x i n ts = bad tired
  run_label (suc k) x i n ts =
      then_do (run_expr k x i n ts) (λ a mid.
      if dots_at x i mid then unless_stuck (stays i (behind mid)) (behind mid)
      (then_do (run_expr k x i n (behind mid)) (λ b rest. got (range (place_of a) a b) rest)) else got a mid)

  pub run_ofs : ℕ → Origin → Layout → ℕ → Choices → List Token → Out Choices
  run_ofs zero x i n some ts = bad tired
  run_ofs (suc k) x i n some [] = got some []
  run_ofs (suc k) x i n some (tok ∷ ts) =
      if branch_at i is_of (tok ∷ ts) then then_do (run_of k x i n ts) (λ one mid. run_ofs k x i n (and_choice some (place_at x tok) one.tests one.value) mid)
      else got some (tok ∷ ts)

  -- `else` and its value, where there is one
  pub run_otherwise : ℕ → Origin → Layout → ℕ → Place → Term → Choices → List Token → Out Term
  run_otherwise zero x i n at s all ts = bad tired
  run_otherwise (suc k) x i n at s all ts =
      if else_on i ts then then_do (run_value k x i n (behind ts)) (λ e rest. got (case_else at s all e) rest) else got (case_term at s all) ts
