-- Where the text of an expression can't go on.
--
-- It is read in the order of its tokens. The first that can't go on decides: either it opens a level more than are left, or
-- another token has to stand there. A token opens a level too many where it begins an operand, an `if` or a `case` and no
-- level is left for it, and where it is an operator, a bracket or a point behind an operand that has all levels that are
-- left. What was read before it is finished and of at most so many levels.
use Rattle.std.specs.Prelude.{◌≡◌, ℕ, zero, suc, max, ◌≤◌, Bool, true, false, List, [], ◌∷◌, Some, None}
use Rattle.indent_scanner.specs.declared.token.Token.{Token}
use Rattle.nim_tree.specs.declared.expr.UnaryOp.{UnaryOp}
use Rattle.nim_tree.specs.declared.expr.BinaryOp.{BinaryOp}
use Rattle.nim_tree.specs.Terms.{Term, binary, Parts, no_parts, part, Choices, no_choices, choice, place_of, levels, most_levels, levels_in}
use Rattle.parse_exprs.specs.declared.layout.Layout.{Layout}
use Rattle.parse_exprs.specs.declared.layout.Layout.TheVariants.{Brackets}
use Rattle.parse_exprs.specs.declared.input.Bracket.{Bracket}
use Rattle.parse_exprs.specs.declared.input.Bracket.TheVariants.{Round, Square}
use Rattle.parse_exprs.specs.declared.input.Lead.TheVariants as L
use Rattle.parse_exprs.specs.Look.{Origin, spelling, op_at, op_levels, single, sign_of, is_at_sign, is_name, is_punct, kind_at, place_at, name_on, bracket_at}
use Rattle.parse_exprs.specs.Look.{square_at, closes_at, names_in, names_behind, suffix_at, stays, operand_at, lead_at, branch_at, is_elif, is_else, is_of}
use Rattle.parse_exprs.specs.Look.{first_of_at, branch_layout, colon_at, comma_at, past_colon, dots_at, at_start, past_start, no_command_on, else_on}
use Rattle.parse_exprs.specs.Look.{deeper_line_at, line_layout, closed_at}
use Rattle.parse_exprs.specs.Grammar.{SpellsExpr, Spells, SpellsPrimary, SpellsAtom, SpellsSuffix, SpellsParts, SpellsPart, SpellsTail, SpellsElifs, SpellsOf}
use Rattle.parse_exprs.specs.Grammar.{SpellsOfs, SpellsLabel, SpellsLabels, Stops}

pub data Fault : Type 0 where
  -- a level too many is opened
  too_deep : Fault
  -- another token has to stand where the first of these stands
  stuck_at : (rest : List Token) → Fault

-- this was read and is finished: it has at most n levels, and no operator below the level l and nothing that stands behind
-- an atom follows
pub record Done (x : Origin) (i : Layout) (l n most : ℕ) (spelled : Type 0) (rest : List Token) : Type 0 where
  pub spells : spelled
  pub few : most ≤ n
  pub stops : Stops x i l rest

-- FaultsExpr x why i n ts: where n levels are left, the expression that begins here can't go on, for that reason. The rest
-- are its parts, as in Grammar.antt.
mutual
  pub data FaultsExpr (x : Origin) (why : Fault) : Layout → ℕ → List Token → Type 0 where
    f_operators : {i : Layout} {n : ℕ} {ts : List Token} → lead_at ts ≡ L.Operand → Faults x why i op_levels n ts → FaultsExpr x why i n ts
    f_no_if : {i : Layout} {ts : List Token} → lead_at ts ≡ L.If → why ≡ too_deep → FaultsExpr x why i zero ts
    f_if : {i : Layout} {n : ℕ} {tok : Token} {ts : List Token} → lead_at (tok ∷ ts) ≡ L.If → FaultsIf x why i n tok ts → FaultsExpr x why i (suc n) (tok ∷ ts)
    f_no_case : {i : Layout} {ts : List Token} → lead_at ts ≡ L.Case → why ≡ too_deep → FaultsExpr x why i zero ts
    f_case : {i : Layout} {n : ℕ} {tok : Token} {ts : List Token} → lead_at (tok ∷ ts) ≡ L.Case → FaultsCase x why i n ts
        → FaultsExpr x why i (suc n) (tok ∷ ts)

  -- ---- operators

  pub data Faults (x : Origin) (why : Fault) : Layout → ℕ → ℕ → List Token → Type 0 where
    f_tight : {i : Layout} {n : ℕ} {ts : List Token} → FaultsUnary x why i n ts → Faults x why i zero n ts
    f_operand : {i : Layout} {l n : ℕ} {ts : List Token} → Faults x why i l n ts → Faults x why i (suc l) n ts
    f_more : {i : Layout} {l n : ℕ} {a : Term} {ts mid : List Token} → Done x i l n (levels a) (Spells x i l a ts mid) mid
        → FaultsMore x why (past_start i) l n a mid → Faults x why i (suc l) n ts

  -- what follows a
  pub data FaultsMore (x : Origin) (why : Fault) : Layout → ℕ → ℕ → Term → List Token → Type 0 where
    f_operator : {i : Layout} {l n : ℕ} {a : Term} {op : BinaryOp} {ts : List Token} → op_at x i l ts ≡ Some op
        → n ≤ levels a → why ≡ too_deep → FaultsMore x why i l n a ts
    f_next : {i : Layout} {l n : ℕ} {a : Term} {op : BinaryOp} {tok : Token} {ts : List Token} → op_at x i l (tok ∷ ts) ≡ Some op
        → levels a ≤ n → Faults x why i l n ts → FaultsMore x why i l (suc n) a (tok ∷ ts)
    f_beyond : {i : Layout} {l n : ℕ} {a b : Term} {op : BinaryOp} {tok : Token} {ts mid : List Token} → op_at x i l (tok ∷ ts) ≡ Some op
        → levels a ≤ n → Done x i l n (levels b) (Spells x i l b ts mid) mid
        → FaultsMore x why i l (suc n) (binary (place_of a) op a b) mid → FaultsMore x why i l (suc n) a (tok ∷ ts)

  pub data FaultsUnary (x : Origin) (why : Fault) : Layout → ℕ → List Token → Type 0 where
    f_no_level : {i : Layout} {ts : List Token} → operand_at x ts ≡ true → why ≡ too_deep → FaultsUnary x why i zero ts
    f_no_operand : {i : Layout} {ts : List Token} → operand_at x ts ≡ false → why ≡ stuck_at ts → FaultsUnary x why i zero ts
    f_nothing : {i : Layout} {n : ℕ} → why ≡ stuck_at [] → FaultsUnary x why i (suc n) []
    f_sign_line : {i : Layout} {n : ℕ} {op : UnaryOp} {tok : Token} {ts : List Token} → sign_of tok.kind (spelling x tok) ≡ Some op
        → stays i ts ≡ false → why ≡ stuck_at ts → FaultsUnary x why i (suc n) (tok ∷ ts)
    f_sign : {i : Layout} {n : ℕ} {op : UnaryOp} {tok : Token} {ts : List Token} → sign_of tok.kind (spelling x tok) ≡ Some op
        → stays i ts ≡ true → FaultsUnary x why (past_start i) n ts → FaultsUnary x why i (suc n) (tok ∷ ts)
    f_plain : {i : Layout} {n : ℕ} {tok : Token} {ts : List Token} → sign_of tok.kind (spelling x tok) ≡ None
        → FaultsPrimary x why i (at_start i) n (tok ∷ ts) → FaultsUnary x why i (suc n) (tok ∷ ts)
    -- a command begins
    f_command : {i : Layout} {n : ℕ} {a : Term} {tok : Token} {ts mid : List Token} → sign_of tok.kind (spelling x tok) ≡ None
        → SpellsPrimary x i (at_start i) a (tok ∷ ts) mid → levels a ≤ suc n → suffix_at i (at_start i) mid ≡ false → no_command_on x i mid ≡ false
        → why ≡ stuck_at mid → FaultsUnary x why i (suc n) (tok ∷ ts)

  -- where one level more than n is left
  pub data FaultsPrimary (x : Origin) (why : Fault) : Layout → Bool → ℕ → List Token → Type 0 where
    f_atom : {i : Layout} {c : Bool} {n : ℕ} {ts : List Token} → FaultsAtom x why i n ts → FaultsPrimary x why i c n ts
    f_behind : {i : Layout} {c : Bool} {n : ℕ} {a : Term} {ts mid : List Token} → SpellsAtom x i a ts mid → levels a ≤ suc n
        → FaultsSuffixes x why i c n a mid → FaultsPrimary x why i c n ts

  -- what follows a
  pub data FaultsSuffixes (x : Origin) (why : Fault) : Layout → Bool → ℕ → Term → List Token → Type 0 where
    f_full : {i : Layout} {c : Bool} {n : ℕ} {a : Term} {ts : List Token} → suffix_at i c ts ≡ true → suc n ≤ levels a → why ≡ too_deep
        → FaultsSuffixes x why i c n a ts
    f_suffix : {i : Layout} {c : Bool} {n : ℕ} {a : Term} {tok : Token} {ts : List Token} → suffix_at i c (tok ∷ ts) ≡ true → levels a ≤ n
        → FaultsSuffix x why i n a tok ts → FaultsSuffixes x why i c n a (tok ∷ ts)
    f_further : {i : Layout} {c : Bool} {n : ℕ} {a b : Term} {ts mid : List Token} → suffix_at i c ts ≡ true → levels a ≤ n
        → SpellsSuffix x i a b ts mid → levels b ≤ suc n → FaultsSuffixes x why i c n b mid → FaultsSuffixes x why i c n a ts

  -- behind a, a point or bracket and what stands behind it
  pub data FaultsSuffix (x : Origin) (why : Fault) : Layout → ℕ → Term → Token → List Token → Type 0 where
    f_field : {i : Layout} {n : ℕ} {a : Term} {tok : Token} {ts : List Token} → bracket_at (tok ∷ ts) ≡ None → name_on i ts ≡ None → why ≡ stuck_at ts
        → FaultsSuffix x why i n a tok ts
    f_applied : {i : Layout} {n : ℕ} {b : Bracket} {a : Term} {tok : Token} {ts : List Token} → bracket_at (tok ∷ ts) ≡ Some b
        → FaultsEnclosed x why b (names_behind a b ts) n ts → FaultsSuffix x why i n a tok ts

  -- where one level more than n is left
  pub data FaultsAtom (x : Origin) (why : Fault) : Layout → ℕ → List Token → Type 0 where
    f_no_atom : {i : Layout} {n : ℕ} → why ≡ stuck_at [] → FaultsAtom x why i n []
    f_other : {i : Layout} {n : ℕ} {tok : Token} {ts : List Token} → single x tok ≡ None → bracket_at (tok ∷ ts) ≡ None
        → is_at_sign tok.kind (spelling x tok) ≡ false → why ≡ stuck_at (tok ∷ ts) → FaultsAtom x why i n (tok ∷ ts)
    f_no_square : {i : Layout} {n : ℕ} {tok : Token} {ts : List Token} → is_at_sign tok.kind (spelling x tok) ≡ true
        → stays i ts ≡ false → why ≡ stuck_at ts → FaultsAtom x why i n (tok ∷ ts)
    f_not_square : {i : Layout} {n : ℕ} {tok : Token} {ts : List Token} → is_at_sign tok.kind (spelling x tok) ≡ true
        → stays i ts ≡ true → square_at ts ≡ false → why ≡ stuck_at ts → FaultsAtom x why i n (tok ∷ ts)
    f_sequence : {i : Layout} {n : ℕ} {tok at : Token} {ts : List Token} → is_at_sign at.kind (spelling x at) ≡ true
        → stays i (tok ∷ ts) ≡ true → square_at (tok ∷ ts) ≡ true → FaultsEnclosed x why Square false n ts → FaultsAtom x why i n (at ∷ tok ∷ ts)
    -- no expression is `()`
    f_empty : {i : Layout} {n : ℕ} {tok : Token} {ts : List Token} → bracket_at (tok ∷ ts) ≡ Some Round → closes_at Round ts ≡ true
        → why ≡ stuck_at ts → FaultsAtom x why i n (tok ∷ ts)
    f_group : {i : Layout} {n : ℕ} {b : Bracket} {tok : Token} {ts : List Token} → bracket_at (tok ∷ ts) ≡ Some b
        → FaultsEnclosed x why b (names_in b ts) n ts → FaultsAtom x why i n (tok ∷ ts)

  -- ---- parts in brackets

  -- what stands behind the bracket
  pub data FaultsEnclosed (x : Origin) (why : Fault) : Bracket → Bool → ℕ → List Token → Type 0 where
    f_list : {b : Bracket} {m : Bool} {n : ℕ} {ts : List Token} → closes_at b ts ≡ false → FaultsListed x why m n ts → FaultsEnclosed x why b m n ts
    f_no_end : {b : Bracket} {m : Bool} {n : ℕ} {parts : Parts} {ts mid : List Token} → closes_at b ts ≡ false
        → Done x Brackets op_levels n (most_levels parts) (SpellsParts x m parts ts mid) mid → closes_at b mid ≡ false → why ≡ stuck_at mid
        → FaultsEnclosed x why b m n ts

  pub data FaultsListed (x : Origin) (why : Fault) : Bool → ℕ → List Token → Type 0 where
    f_part : {m : Bool} {n : ℕ} {ts : List Token} → FaultsPart x why m n ts → FaultsListed x why m n ts
    f_parts : {m : Bool} {n : ℕ} {a : Term} {ts mid : List Token} → Done x Brackets op_levels n (levels a) (SpellsPart x m a ts mid) mid
        → FaultsParts x why m n mid → FaultsListed x why m n ts

  -- behind a part
  pub data FaultsParts (x : Origin) (why : Fault) : Bool → ℕ → List Token → Type 0 where
    f_next_part : {m : Bool} {n : ℕ} {tok : Token} {ts : List Token} → kind_at (is_punct 44) (tok ∷ ts) ≡ true → FaultsPart x why m n ts
        → FaultsParts x why m n (tok ∷ ts)
    f_later_part : {m : Bool} {n : ℕ} {a : Term} {tok : Token} {ts mid : List Token} → kind_at (is_punct 44) (tok ∷ ts) ≡ true
        → Done x Brackets op_levels n (levels a) (SpellsPart x m a ts mid) mid → FaultsParts x why m n mid → FaultsParts x why m n (tok ∷ ts)

  pub data FaultsPart (x : Origin) (why : Fault) : Bool → ℕ → List Token → Type 0 where
    f_unnamed : {n : ℕ} {ts : List Token} → FaultsExpr x why Brackets n ts → FaultsPart x why false n ts
    f_no_name : {n : ℕ} {ts : List Token} → kind_at is_name ts ≡ false → why ≡ stuck_at ts → FaultsPart x why true n ts
    f_name_alone : {n : ℕ} {tok : Token} {ts : List Token} → kind_at is_name (tok ∷ ts) ≡ true → kind_at (is_punct 58) ts ≡ false → why ≡ stuck_at ts
        → FaultsPart x why true n (tok ∷ ts)
    f_named : {n : ℕ} {tok colon : Token} {ts : List Token} → kind_at is_name (tok ∷ colon ∷ ts) ≡ true → kind_at (is_punct 58) (colon ∷ ts) ≡ true
        → FaultsExpr x why Brackets n ts → FaultsPart x why true n (tok ∷ colon ∷ ts)

  -- ---- branches

  -- behind the token `if`
  pub data FaultsIf (x : Origin) (why : Fault) : Layout → ℕ → Token → List Token → Type 0 where
    f_tail : {i : Layout} {n : ℕ} {tok : Token} {ts : List Token} → FaultsTail x why i n ts → FaultsIf x why i n tok ts
    f_elifs : {i : Layout} {n : ℕ} {tests : Parts} {v : Term} {tok : Token} {ts mid : List Token}
        → Done x i op_levels n (max (most_levels tests) (levels v)) (SpellsTail x i tests v ts mid) mid → FaultsElifs x why i n mid → FaultsIf x why i n tok ts
    f_else : {i : Layout} {n : ℕ} {tests : Parts} {v : Term} {all : Choices} {tok : Token} {ts mid end : List Token}
        → Done x i op_levels n (max (most_levels tests) (levels v)) (SpellsTail x i tests v ts mid) mid
        → Done x i op_levels n (levels_in all) (SpellsElifs x i (choice (place_at x tok) tests v no_choices) all mid end) end
        → FaultsElse x why i n end → FaultsIf x why i n tok ts

  -- a condition, a colon and a value
  pub data FaultsTail (x : Origin) (why : Fault) : Layout → ℕ → List Token → Type 0 where
    f_tail_line : {i : Layout} {n : ℕ} {ts : List Token} → stays i ts ≡ false → why ≡ stuck_at ts → FaultsTail x why i n ts
    f_condition : {i : Layout} {n : ℕ} {ts : List Token} → stays i ts ≡ true → FaultsExpr x why (past_start i) n ts → FaultsTail x why i n ts
    f_tail_value : {i : Layout} {n : ℕ} {c : Term} {ts mid : List Token} → stays i ts ≡ true
        → Done x (past_start i) op_levels n (levels c) (SpellsExpr x (past_start i) c ts mid) mid
        → FaultsValue x why i n mid → FaultsTail x why i n ts

  -- a colon and a value
  pub data FaultsValue (x : Origin) (why : Fault) : Layout → ℕ → List Token → Type 0 where
    f_no_colon : {i : Layout} {n : ℕ} {ts : List Token} → colon_at i ts ≡ false → why ≡ stuck_at ts → FaultsValue x why i n ts
    f_value_line : {i : Layout} {n : ℕ} {tok : Token} {ts : List Token} → colon_at i (tok ∷ ts) ≡ true → stays i ts ≡ false
        → deeper_line_at i ts ≡ false → why ≡ stuck_at ts → FaultsValue x why i n (tok ∷ ts)
    f_value : {i : Layout} {n : ℕ} {tok : Token} {ts : List Token} → colon_at i (tok ∷ ts) ≡ true → stays i ts ≡ true → FaultsExpr x why i n ts
        → FaultsValue x why i n (tok ∷ ts)
    f_own_line : {i : Layout} {n : ℕ} {tok : Token} {ts : List Token} → colon_at i (tok ∷ ts) ≡ true → deeper_line_at i ts ≡ true
        → FaultsExpr x why (line_layout i ts) n ts → FaultsValue x why i n (tok ∷ ts)
    -- something else stands on the lines of the value
    f_not_closed : {i : Layout} {n : ℕ} {v : Term} {tok : Token} {ts rest : List Token} → colon_at i (tok ∷ ts) ≡ true → deeper_line_at i ts ≡ true
        → Done x (line_layout i ts) op_levels n (levels v) (SpellsExpr x (line_layout i ts) v ts rest) rest
        → closed_at (line_layout i ts) rest ≡ false → why ≡ stuck_at rest → FaultsValue x why i n (tok ∷ ts)

  -- behind a branch of `if`
  pub data FaultsElifs (x : Origin) (why : Fault) : Layout → ℕ → List Token → Type 0 where
    f_elif : {i : Layout} {n : ℕ} {tok : Token} {ts : List Token} → branch_at i is_elif (tok ∷ ts) ≡ true → FaultsTail x why i n ts
        → FaultsElifs x why i n (tok ∷ ts)
    f_next_elif : {i : Layout} {n : ℕ} {tests : Parts} {v : Term} {tok : Token} {ts mid : List Token} → branch_at i is_elif (tok ∷ ts) ≡ true
        → Done x i op_levels n (max (most_levels tests) (levels v)) (SpellsTail x i tests v ts mid) mid → FaultsElifs x why i n mid
        → FaultsElifs x why i n (tok ∷ ts)

  pub data FaultsElse (x : Origin) (why : Fault) : Layout → ℕ → List Token → Type 0 where
    f_no_else : {i : Layout} {n : ℕ} {ts : List Token} → branch_at i is_else ts ≡ false → why ≡ stuck_at ts → FaultsElse x why i n ts
    f_else_value : {i : Layout} {n : ℕ} {tok : Token} {ts : List Token} → branch_at i is_else (tok ∷ ts) ≡ true → FaultsValue x why i n ts
        → FaultsElse x why i n (tok ∷ ts)

  -- behind the token `case`
  pub data FaultsCase (x : Origin) (why : Fault) : Layout → ℕ → List Token → Type 0 where
    f_case_line : {i : Layout} {n : ℕ} {ts : List Token} → stays i ts ≡ false → why ≡ stuck_at ts → FaultsCase x why i n ts
    f_subject : {i : Layout} {n : ℕ} {ts : List Token} → stays i ts ≡ true → FaultsExpr x why (past_start i) n ts → FaultsCase x why i n ts
    f_branches : {i : Layout} {n : ℕ} {s : Term} {ts mid : List Token} → stays i ts ≡ true
        → Done x (past_start i) op_levels n (levels s) (SpellsExpr x (past_start i) s ts mid) mid
        → FaultsBranches x why i n (past_colon i mid) → FaultsCase x why i n ts

  pub data FaultsBranches (x : Origin) (why : Fault) : Layout → ℕ → List Token → Type 0 where
    f_no_of : {i : Layout} {n : ℕ} {ts : List Token} → first_of_at i ts ≡ false → why ≡ stuck_at ts → FaultsBranches x why i n ts
    f_first_of : {i : Layout} {n : ℕ} {tok : Token} {ts : List Token} → first_of_at i (tok ∷ ts) ≡ true → FaultsOf x why (branch_layout i tok.indent) n ts
        → FaultsBranches x why i n (tok ∷ ts)
    f_ofs : {i : Layout} {n : ℕ} {tests : Parts} {v : Term} {tok : Token} {ts mid : List Token} → first_of_at i (tok ∷ ts) ≡ true
        → Done x (branch_layout i tok.indent) op_levels n (max (most_levels tests) (levels v)) (SpellsOf x (branch_layout i tok.indent) tests v ts mid) mid
        → FaultsOfs x why (branch_layout i tok.indent) n mid → FaultsBranches x why i n (tok ∷ ts)
    f_otherwise : {i : Layout} {n : ℕ} {tests : Parts} {v : Term} {all : Choices} {tok other : Token} {ts mid end : List Token}
        → first_of_at i (tok ∷ ts) ≡ true
        → Done x (branch_layout i tok.indent) op_levels n (max (most_levels tests) (levels v)) (SpellsOf x (branch_layout i tok.indent) tests v ts mid) mid
        → Done x (branch_layout i tok.indent) op_levels n (levels_in all)
        (SpellsOfs x (branch_layout i tok.indent) (choice (place_at x tok) tests v no_choices) all mid (other ∷ end)) (other ∷ end)
        → else_on (branch_layout i tok.indent) (other ∷ end) ≡ true → FaultsValue x why (branch_layout i tok.indent) n end
        → FaultsBranches x why i n (tok ∷ ts)

  -- behind `of`
  pub data FaultsOf (x : Origin) (why : Fault) : Layout → ℕ → List Token → Type 0 where
    f_of_line : {i : Layout} {n : ℕ} {ts : List Token} → stays i ts ≡ false → why ≡ stuck_at ts → FaultsOf x why i n ts
    f_label : {i : Layout} {n : ℕ} {ts : List Token} → stays i ts ≡ true → FaultsLabel x why (past_start i) n ts → FaultsOf x why i n ts
    f_labels : {i : Layout} {n : ℕ} {a : Term} {ts mid : List Token} → stays i ts ≡ true
        → Done x (past_start i) op_levels n (levels a) (SpellsLabel x (past_start i) a ts mid) mid
        → FaultsLabels x why (past_start i) n mid → FaultsOf x why i n ts
    f_of_value : {i : Layout} {n : ℕ} {a : Term} {tests : Parts} {ts mid end : List Token} → stays i ts ≡ true
        → Done x (past_start i) op_levels n (levels a) (SpellsLabel x (past_start i) a ts mid) mid
        → Done x (past_start i) op_levels n (most_levels tests) (SpellsLabels x (past_start i) (part a no_parts) tests mid end) end
        → FaultsValue x why i n end → FaultsOf x why i n ts

  -- behind a label
  pub data FaultsLabels (x : Origin) (why : Fault) : Layout → ℕ → List Token → Type 0 where
    f_next_label : {i : Layout} {n : ℕ} {tok : Token} {ts : List Token} → comma_at i (tok ∷ ts) ≡ true → FaultsLabel x why i n ts
        → FaultsLabels x why i n (tok ∷ ts)
    f_later_label : {i : Layout} {n : ℕ} {a : Term} {tok : Token} {ts mid : List Token} → comma_at i (tok ∷ ts) ≡ true
        → Done x i op_levels n (levels a) (SpellsLabel x i a ts mid) mid → FaultsLabels x why i n mid → FaultsLabels x why i n (tok ∷ ts)

  pub data FaultsLabel (x : Origin) (why : Fault) : Layout → ℕ → List Token → Type 0 where
    f_one : {i : Layout} {n : ℕ} {ts : List Token} → FaultsExpr x why i n ts → FaultsLabel x why i n ts
    f_range_line : {i : Layout} {n : ℕ} {a : Term} {tok : Token} {ts mid : List Token} → Done x i op_levels n (levels a) (SpellsExpr x i a ts (tok ∷ mid))
        (tok ∷ mid)
        → dots_at x i (tok ∷ mid) ≡ true → stays i mid ≡ false → why ≡ stuck_at mid → FaultsLabel x why i n ts
    f_range : {i : Layout} {n : ℕ} {a : Term} {tok : Token} {ts mid : List Token} → Done x i op_levels n (levels a) (SpellsExpr x i a ts (tok ∷ mid))
        (tok ∷ mid)
        → dots_at x i (tok ∷ mid) ≡ true → stays i mid ≡ true → FaultsExpr x why i n mid → FaultsLabel x why i n ts

  -- behind a branch of `case`
  pub data FaultsOfs (x : Origin) (why : Fault) : Layout → ℕ → List Token → Type 0 where
    f_of : {i : Layout} {n : ℕ} {tok : Token} {ts : List Token} → branch_at i is_of (tok ∷ ts) ≡ true → FaultsOf x why i n ts → FaultsOfs x why i n (tok ∷ ts)
    f_next_of : {i : Layout} {n : ℕ} {tests : Parts} {v : Term} {tok : Token} {ts mid : List Token} → branch_at i is_of (tok ∷ ts) ≡ true
        → Done x i op_levels n (max (most_levels tests) (levels v)) (SpellsOf x i tests v ts mid) mid → FaultsOfs x why i n mid → FaultsOfs x why i n (tok ∷ ts)
