-- The grammar of expressions as it stands: any front of the tokens that it spells.
--
--     expr    = 'if' tail { 'elif' tail } 'else' value
--             | 'case' expr [ ':' ] of { of } [ 'else' value ]
--             | xor { ('or' | 'xor') xor }, and so on, from loose to tight:
--               'or' 'xor'; 'and'; '==' '<=' '<' '>=' '>' '!='; '&'; '+' '-'; '*' 'div' 'mod' 'shl' 'shr'
--     tail    = expr value
--     value   = ':' ( expr | IND expr DED )
--     of      = 'of' label { ',' label } value
--     label   = expr [ '..' expr ]
--     unary   = ('-' | '+' | 'not' | '$') unary | primary
--     primary = atom { '.' name | '(' parts ')' | '[' exprs ']' }
--     atom    = int | char | text | name | quoted | 'nil' | '(' parts ')' | '[' exprs ']' | '@' '[' exprs ']'
--     parts   = exprs | name ':' expr { ',' name ':' expr }
--     exprs   = [ expr { ',' expr } ]
--
-- Parentheses hold one expression or are a tuple; behind an expression they are a call, and an object where a name
-- stands before them and their parts have names. An `elif`, `of` or `else` belongs to the nearest `if` or `case` before it
-- that can have it; a `case` can have an `else` only with its colon.
--
-- Outside brackets an expression goes on over the end of a line only behind a comma or an operator between operands; but
-- `elif` and `else` may begin a line at the level of the statement, and so may `of`, or deeper, where it sets the level of
-- those that follow. The value of a branch begins on the line of its colon, or on the next (IND), behind more spaces than the
-- level of its branch; its line then sets the level of what stands in it, and behind it the tokens end, or a line begins behind
-- fewer spaces (DED).
--
-- An `if` or `case` that begins a statement is read as one at its start. A value in it begins like a line: where an operand of a
-- command goes on behind what may be called, a command begins there, and no expression. Conditions and labels, and what stands
-- behind an operator, don't begin like a line, so there spaces don't matter.
--
-- Where a repetition, or an optional part, that begins with a token of its own (a comma between parts or labels, `..`,
-- `elif`, `of`, `else`) ends, that token doesn't stand: what can go on goes on. Operators and what stands behind an atom
-- are left open here; that nothing of them follows is said of the whole, in IsExpr.
use Rattle.std.specs.Prelude.{◌≡◌, ℕ, zero, suc, ◌<◌, Bool, true, false, List, ◌∷◌, Some, None}
use Rattle.arc_base.specs.declared.place.Place.{Place}
use Rattle.indent_scanner.specs.declared.token.Tok.TheVariants as T
use Rattle.indent_scanner.specs.declared.token.Token.{Token}
use Rattle.nim_tree.specs.declared.expr.UnaryOp.{UnaryOp}
use Rattle.nim_tree.specs.declared.expr.BinaryOp.{BinaryOp}
use Rattle.nim_tree.specs.Terms.{Term, sequence, named, field, unary, binary, if_term, case_term, case_else, range, Parts, no_parts, part, and_part, Choices}
use Rattle.nim_tree.specs.Terms.{no_choices, choice, and_choice, place_of}
use Rattle.parse_exprs.specs.declared.layout.Layout.{Layout}
use Rattle.parse_exprs.specs.declared.layout.Layout.TheVariants.{Brackets}
use Rattle.parse_exprs.specs.declared.input.Bracket.{Bracket}
use Rattle.parse_exprs.specs.declared.input.Bracket.TheVariants.{Square}
use Rattle.parse_exprs.specs.declared.input.Lead.TheVariants as L
use Rattle.parse_exprs.specs.Look.{Origin, spelling, place_at, goes_on, op_at, op_levels, single, grouped, applied, sign_of, is_at_sign, is_punct, kind_at}
use Rattle.parse_exprs.specs.Look.{bracket_at, closes_at, names_in, names_behind, suffix_at, stays, lead_at, branch_at, is_elif, is_else, is_of, first_of_at}
use Rattle.parse_exprs.specs.Look.{branch_layout, colon_at, comma_at, past_colon, dots_at, at_start, past_start, no_command_on, else_on, deeper_line_at}
use Rattle.parse_exprs.specs.Look.{line_layout, closed_at}

mutual
  -- SpellsExpr x i t ts rest: the tokens ts of x begin with those of t, and rest is what follows. i says whether it
  -- stands inside brackets, or at which level its statement stands, and whether it begins like a line.
  pub data SpellsExpr (x : Origin) : Layout → Term → List Token → List Token → Type 0 where
    p_operators : {i : Layout} {t : Term} {ts rest : List Token} → Spells x i op_levels t ts rest → SpellsExpr x i t ts rest
    p_if : {i : Layout} {tests : Parts} {v e : Term} {all : Choices} {tok : Token} {ts mid end rest : List Token} → lead_at (tok ∷ ts) ≡ L.If
        → SpellsTail x i tests v ts mid → SpellsElifs x i (choice (place_at x tok) tests v no_choices) all mid end → SpellsElse x i e end rest
        → SpellsExpr x i (if_term (place_at x tok) all e) (tok ∷ ts) rest
    p_case : {i : Layout} {s t : Term} {tok : Token} {ts mid rest : List Token} → lead_at (tok ∷ ts) ≡ L.Case → stays i ts ≡ true
        → SpellsExpr x (past_start i) s ts mid → SpellsBranches x i (place_at x tok) s t (past_colon i mid) rest → SpellsExpr x i t (tok ∷ ts) rest

  -- ---- operators

  -- Spells x i l t ts rest: the same of a t whose loosest operators are those below the level l
  pub data Spells (x : Origin) : Layout → ℕ → Term → List Token → List Token → Type 0 where
    p_unary : {i : Layout} {t : Term} {ts rest : List Token} → SpellsUnary x i t ts rest → Spells x i zero t ts rest
    p_binary : {i : Layout} {l : ℕ} {a t : Term} {ts mid rest : List Token} → Spells x i l a ts mid → SpellsMore x (past_start i) l a t mid rest
        → Spells x i (suc l) t ts rest

  -- what follows a: { operator operand }
  pub data SpellsMore (x : Origin) : Layout → ℕ → Term → Term → List Token → List Token → Type 0 where
    p_none : {i : Layout} {l : ℕ} {a : Term} {rest : List Token} → SpellsMore x i l a a rest rest
    p_more : {i : Layout} {l : ℕ} {a b t : Term} {op : BinaryOp} {tok : Token} {ts mid rest : List Token} → op_at x i l (tok ∷ ts) ≡ Some op
        → Spells x i l b ts mid → SpellsMore x i l (binary (place_of a) op a b) t mid rest → SpellsMore x i l a t (tok ∷ ts) rest

  -- the operand of an operator before it begins on the operator's line; what begins like a line begins no command
  pub data SpellsUnary (x : Origin) : Layout → Term → List Token → List Token → Type 0 where
    p_sign : {i : Layout} {a : Term} {op : UnaryOp} {tok : Token} {ts rest : List Token} → sign_of tok.kind (spelling x tok) ≡ Some op
        → stays i ts ≡ true → SpellsUnary x (past_start i) a ts rest → SpellsUnary x i (unary (place_at x tok) op a) (tok ∷ ts) rest
    p_plain : {i : Layout} {a : Term} {ts rest : List Token} → SpellsPrimary x i (at_start i) a ts rest → no_command_on x i rest ≡ true
        → SpellsUnary x i a ts rest

  -- the Bool says whether a command may begin behind it
  pub data SpellsPrimary (x : Origin) : Layout → Bool → Term → List Token → List Token → Type 0 where
    p_primary : {i : Layout} {c : Bool} {a t : Term} {ts mid rest : List Token} → SpellsAtom x i a ts mid → SpellsSuffixes x i c a t mid rest
        → SpellsPrimary x i c t ts rest

  -- what follows a: { suffix }
  pub data SpellsSuffixes (x : Origin) : Layout → Bool → Term → Term → List Token → List Token → Type 0 where
    p_done : {i : Layout} {c : Bool} {a : Term} {rest : List Token} → SpellsSuffixes x i c a a rest rest
    p_suffix : {i : Layout} {c : Bool} {a b t : Term} {ts mid rest : List Token} → suffix_at i c ts ≡ true → SpellsSuffix x i a b ts mid
        → SpellsSuffixes x i c b t mid rest → SpellsSuffixes x i c a t ts rest

  pub data SpellsSuffix (x : Origin) : Layout → Term → Term → List Token → List Token → Type 0 where
    p_field : {i : Layout} {a : Term} {dot tok : Token} {rest : List Token} → dot.kind ≡ T.Punct 46
        → goes_on i tok.indent ≡ true → tok.kind ≡ T.Name → SpellsSuffix x i a (field (place_of a) a (spelling x tok)) (dot ∷ tok ∷ rest) rest
    p_applied : {i : Layout} {m : Bool} {b : Bracket} {a t : Term} {parts : Parts} {tok : Token} {ts rest : List Token} → names_behind a b ts ≡ m
        → SpellsEnclosed x b m parts (tok ∷ ts) rest → applied b m a parts ≡ Some t → SpellsSuffix x i a t (tok ∷ ts) rest

  pub data SpellsAtom (x : Origin) : Layout → Term → List Token → List Token → Type 0 where
    p_token : {i : Layout} {t : Term} {tok : Token} {rest : List Token} → single x tok ≡ Some t → SpellsAtom x i t (tok ∷ rest) rest
    p_group : {i : Layout} {m : Bool} {b : Bracket} {t : Term} {parts : Parts} {tok : Token} {ts rest : List Token} → names_in b ts ≡ m
        → SpellsEnclosed x b m parts (tok ∷ ts) rest → grouped b m (place_at x tok) parts ≡ Some t → SpellsAtom x i t (tok ∷ ts) rest
    p_sequence : {i : Layout} {parts : Parts} {tok : Token} {ts rest : List Token} → is_at_sign tok.kind (spelling x tok) ≡ true
        → stays i ts ≡ true → SpellsEnclosed x Square false parts ts rest → SpellsAtom x i (sequence (place_at x tok) parts) (tok ∷ ts) rest

  -- ---- parts in brackets; the Bool says whether they have names

  pub data SpellsEnclosed (x : Origin) : Bracket → Bool → Parts → List Token → List Token → Type 0 where
    p_empty : {b : Bracket} {m : Bool} {tok end : Token} {rest : List Token} → bracket_at (tok ∷ end ∷ rest) ≡ Some b
        → closes_at b (end ∷ rest) ≡ true → SpellsEnclosed x b m no_parts (tok ∷ end ∷ rest) rest
    p_parts : {b : Bracket} {m : Bool} {parts : Parts} {tok end : Token} {ts rest : List Token} → bracket_at (tok ∷ ts) ≡ Some b
        → closes_at b ts ≡ false → SpellsParts x m parts ts (end ∷ rest) → closes_at b (end ∷ rest) ≡ true → SpellsEnclosed x b m parts (tok ∷ ts) rest

  pub data SpellsParts (x : Origin) : Bool → Parts → List Token → List Token → Type 0 where
    p_first : {m : Bool} {a : Term} {parts : Parts} {ts mid rest : List Token} → SpellsPart x m a ts mid
        → SpellsMoreParts x m (part a no_parts) parts mid rest → SpellsParts x m parts ts rest

  -- what follows some parts: { ',' part }
  pub data SpellsMoreParts (x : Origin) : Bool → Parts → Parts → List Token → List Token → Type 0 where
    p_over : {m : Bool} {parts : Parts} {rest : List Token} → kind_at (is_punct 44) rest ≡ false → SpellsMoreParts x m parts parts rest rest
    p_part : {m : Bool} {b : Term} {some parts : Parts} {tok : Token} {ts mid rest : List Token} → kind_at (is_punct 44) (tok ∷ ts) ≡ true
        → SpellsPart x m b ts mid → SpellsMoreParts x m (and_part some b) parts mid rest → SpellsMoreParts x m some parts (tok ∷ ts) rest

  pub data SpellsPart (x : Origin) : Bool → Term → List Token → List Token → Type 0 where
    p_unnamed : {a : Term} {ts rest : List Token} → SpellsExpr x Brackets a ts rest → SpellsPart x false a ts rest
    p_named : {a : Term} {tok colon : Token} {ts rest : List Token} → tok.kind ≡ T.Name → colon.kind ≡ T.Punct 58
        → SpellsExpr x Brackets a ts rest → SpellsPart x true (named (place_at x tok) (spelling x tok) a) (tok ∷ colon ∷ ts) rest

  -- ---- branches

  -- a condition, a colon and a value
  pub data SpellsTail (x : Origin) : Layout → Parts → Term → List Token → List Token → Type 0 where
    p_tail : {i : Layout} {c v : Term} {ts mid rest : List Token} → stays i ts ≡ true → SpellsExpr x (past_start i) c ts mid
        → SpellsValue x i v mid rest → SpellsTail x i (part c no_parts) v ts rest

  -- a colon, and a value on its line, or on deeper lines of its own
  pub data SpellsValue (x : Origin) : Layout → Term → List Token → List Token → Type 0 where
    p_value : {i : Layout} {v : Term} {tok : Token} {ts rest : List Token} → colon_at i (tok ∷ ts) ≡ true → stays i ts ≡ true
        → SpellsExpr x i v ts rest → SpellsValue x i v (tok ∷ ts) rest
    p_own_line : {i : Layout} {v : Term} {tok : Token} {ts rest : List Token} → colon_at i (tok ∷ ts) ≡ true → deeper_line_at i ts ≡ true
        → SpellsExpr x (line_layout i ts) v ts rest → closed_at (line_layout i ts) rest ≡ true → SpellsValue x i v (tok ∷ ts) rest

  -- what follows some branches of `if`: { 'elif' tail }
  pub data SpellsElifs (x : Origin) : Layout → Choices → Choices → List Token → List Token → Type 0 where
    p_no_elif : {i : Layout} {all : Choices} {rest : List Token} → branch_at i is_elif rest ≡ false → SpellsElifs x i all all rest rest
    p_elif : {i : Layout} {tests : Parts} {v : Term} {some all : Choices} {tok : Token} {ts mid rest : List Token} → branch_at i is_elif (tok ∷ ts) ≡ true
        → SpellsTail x i tests v ts mid → SpellsElifs x i (and_choice some (place_at x tok) tests v) all mid rest → SpellsElifs x i some all (tok ∷ ts) rest

  pub data SpellsElse (x : Origin) : Layout → Term → List Token → List Token → Type 0 where
    p_else : {i : Layout} {v : Term} {tok : Token} {ts rest : List Token} → branch_at i is_else (tok ∷ ts) ≡ true
        → SpellsValue x i v ts rest → SpellsElse x i v (tok ∷ ts) rest

  -- SpellsBranches x i at s t ts rest: these are the branches of the `case` t, which begins at the place at and is over s.
  -- Where the first `of` begins a line, its level is that of the further words.
  pub data SpellsBranches (x : Origin) : Layout → Place → Term → Term → List Token → List Token → Type 0 where
    p_branches : {i : Layout} {at : Place} {s v t : Term} {tests : Parts} {all : Choices} {tok : Token} {ts mid end rest : List Token}
        → first_of_at i (tok ∷ ts) ≡ true
        → SpellsOf x (branch_layout i tok.indent) tests v ts mid
        → SpellsOfs x (branch_layout i tok.indent) (choice (place_at x tok) tests v no_choices) all mid end
        → SpellsOtherwise x (branch_layout i tok.indent) at s all t end rest → SpellsBranches x i at s t (tok ∷ ts) rest

  -- what stands behind `of`: labels, a colon and a value
  pub data SpellsOf (x : Origin) : Layout → Parts → Term → List Token → List Token → Type 0 where
    p_of : {i : Layout} {a v : Term} {tests : Parts} {ts mid end rest : List Token} → stays i ts ≡ true → SpellsLabel x (past_start i) a ts mid
        → SpellsLabels x (past_start i) (part a no_parts) tests mid end → SpellsValue x i v end rest → SpellsOf x i tests v ts rest

  -- what follows some labels: { ',' label }
  pub data SpellsLabels (x : Origin) : Layout → Parts → Parts → List Token → List Token → Type 0 where
    p_last_label : {i : Layout} {all : Parts} {rest : List Token} → comma_at i rest ≡ false → SpellsLabels x i all all rest rest
    p_label : {i : Layout} {a : Term} {some all : Parts} {tok : Token} {ts mid rest : List Token} → comma_at i (tok ∷ ts) ≡ true
        → SpellsLabel x i a ts mid → SpellsLabels x i (and_part some a) all mid rest → SpellsLabels x i some all (tok ∷ ts) rest

  pub data SpellsLabel (x : Origin) : Layout → Term → List Token → List Token → Type 0 where
    p_one : {i : Layout} {a : Term} {ts rest : List Token} → SpellsExpr x i a ts rest → dots_at x i rest ≡ false → SpellsLabel x i a ts rest
    p_range : {i : Layout} {a b : Term} {tok : Token} {ts mid rest : List Token} → SpellsExpr x i a ts (tok ∷ mid) → dots_at x i (tok ∷ mid) ≡ true
        → stays i mid ≡ true → SpellsExpr x i b mid rest → SpellsLabel x i (range (place_of a) a b) ts rest

  -- what follows some branches of `case`: { of }
  pub data SpellsOfs (x : Origin) : Layout → Choices → Choices → List Token → List Token → Type 0 where
    p_last_of : {i : Layout} {all : Choices} {rest : List Token} → branch_at i is_of rest ≡ false → SpellsOfs x i all all rest rest
    p_next_of : {i : Layout} {tests : Parts} {v : Term} {some all : Choices} {tok : Token} {ts mid rest : List Token} → branch_at i is_of (tok ∷ ts) ≡ true
        → SpellsOf x i tests v ts mid → SpellsOfs x i (and_choice some (place_at x tok) tests v) all mid rest → SpellsOfs x i some all (tok ∷ ts) rest

  -- the `case` with these branches, without `else` or with
  pub data SpellsOtherwise (x : Origin) : Layout → Place → Term → Choices → Term → List Token → List Token → Type 0 where
    p_no_else : {i : Layout} {at : Place} {s : Term} {all : Choices} {rest : List Token} → else_on i rest ≡ false
        → SpellsOtherwise x i at s all (case_term at s all) rest rest
    p_with_else : {i : Layout} {at : Place} {s v : Term} {all : Choices} {tok : Token} {ts rest : List Token} → branch_at i is_else (tok ∷ ts) ≡ true
        → SpellsValue x i v ts rest → SpellsOtherwise x i at s all (case_else at s all v) (tok ∷ ts) rest

-- no bracket, no point and no operator below the level goes on here
pub record Stops (x : Origin) (i : Layout) (l : ℕ) (rest : List Token) : Type 0 where
  pub ops : (k : ℕ) → k < l → op_at x i k rest ≡ None
  pub suffix : suffix_at i false rest ≡ false

-- The expression that begins here: the grammar spells it, and neither a bracket, a point nor an operator goes on with it.
pub record IsExpr (x : Origin) (i : Layout) (t : Term) (ts rest : List Token) : Type 0 where
  pub spells : SpellsExpr x i t ts rest
  pub stops : Stops x i op_levels rest

-- An atom with all that stands behind it, where a command may begin.
pub record IsCallee (x : Origin) (i : Layout) (t : Term) (ts rest : List Token) : Type 0 where
  pub spells : SpellsPrimary x i true t ts rest
  pub stops : suffix_at i true rest ≡ false
