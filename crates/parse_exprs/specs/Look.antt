-- What stands at a place of the tokens.
use Rattle.std.specs.Prelude.{ℕ, suc, Bool, true, false, not, ◌&&◌, ◌||◌, ◌==◌, nat_lt, if◌then◌else◌, List, [], ◌∷◌, take, drop, codes, bytes_eq, Option, Some}
use Rattle.std.specs.Prelude.{None, is_some}
use Rattle.arc_base.specs.declared.place.Place.{Place}
use Rattle.indent_scanner.specs.declared.token.Key.{Key}
use Rattle.indent_scanner.specs.declared.token.Key.TheVariants as K
use Rattle.indent_scanner.specs.declared.token.Tok.{Tok}
use Rattle.indent_scanner.specs.declared.token.Tok.TheVariants as T
use Rattle.indent_scanner.specs.declared.token.Token.{Token}
use Rattle.nim_tree.specs.declared.expr.UnaryOp.{UnaryOp}
use Rattle.nim_tree.specs.declared.expr.UnaryOp.TheVariants as U
use Rattle.nim_tree.specs.declared.expr.BinaryOp.{BinaryOp}
use Rattle.nim_tree.specs.declared.expr.BinaryOp.TheVariants as B
use Rattle.parse_exprs.specs.declared.input.Bracket.{Bracket}
use Rattle.parse_exprs.specs.declared.input.Bracket.TheVariants.{Round, Square}
use Rattle.parse_exprs.specs.declared.layout.Layout.{Layout}
use Rattle.parse_exprs.specs.declared.layout.Layout.TheVariants.{Brackets, Lines, Start}
use Rattle.parse_exprs.specs.declared.input.Lead.{Lead}
use Rattle.parse_exprs.specs.declared.input.Lead.TheVariants as L
use Rattle.indent_scanner.specs.Words.{is_left_out as is_left_out_key}
use Rattle.nim_tree.specs.declared.name.Name.{Name}
use Rattle.nim_tree.specs.Terms.{Term, int, char, text, name, quoted, nil, paren, tuple, array, construct, call, index, Parts, no_parts, part, place_of}

-- where the tokens come from: the bytes of a source, and the number of its module
pub record Origin : Type 0 where
  pub source : List ℕ
  pub number : ℕ

-- the bytes of a token
abbrev pub spelling : Origin → Token → List ℕ
spelling x tok = take tok.len (drop tok.start x.source)

-- the place of a token
abbrev pub place_at : Origin → Token → Place
place_at x tok = record { «module» = x.number; line = tok.line; column = tok.column }

-- the place of the first token that is left; where none is, that where the module begins
abbrev pub next_at : Origin → List Token → Place
next_at x [] = record { «module» = x.number; line = 1; column = 1 }
next_at x (tok ∷ rest) = place_at x tok

-- what begins a line goes on only inside brackets
abbrev pub goes_on : Layout → Option ℕ → Bool
goes_on layout None = true
goes_on Brackets (Some spaces) = true
goes_on (Lines n) (Some spaces) = false
goes_on (Start n) (Some spaces) = false

-- a word of a further branch goes on, and may begin a line at the level of its statement
abbrev pub branch_goes_on : Layout → Option ℕ → Bool
branch_goes_on layout None = true
branch_goes_on Brackets (Some spaces) = true
branch_goes_on (Lines n) (Some spaces) = spaces == n
branch_goes_on (Start n) (Some spaces) = spaces == n

-- the first `of` goes on, and may begin a line at the level of its statement or deeper
abbrev pub first_goes_on : Layout → Option ℕ → Bool
first_goes_on layout None = true
first_goes_on Brackets (Some spaces) = true
first_goes_on (Lines n) (Some spaces) = not (nat_lt spaces n)
first_goes_on (Start n) (Some spaces) = not (nat_lt spaces n)

-- the level that the first `of` sets for those that follow
abbrev pub branch_layout : Layout → Option ℕ → Layout
branch_layout layout None = layout
branch_layout Brackets (Some spaces) = Brackets
branch_layout (Lines n) (Some spaces) = Lines spaces
branch_layout (Start n) (Some spaces) = Start spaces

-- whether a line behind so many spaces stands deeper
abbrev pub is_deeper : Layout → Option ℕ → Bool
is_deeper layout None = false
is_deeper Brackets (Some spaces) = false
is_deeper (Lines n) (Some spaces) = nat_lt n spaces
is_deeper (Start n) (Some spaces) = nat_lt n spaces

-- or less deep
abbrev pub is_shallower : Layout → Option ℕ → Bool
is_shallower layout None = false
is_shallower Brackets (Some spaces) = false
is_shallower (Lines n) (Some spaces) = nat_lt spaces n
is_shallower (Start n) (Some spaces) = nat_lt spaces n

-- whether the start of a statement stands there, where a command may begin
abbrev pub at_start : Layout → Bool
at_start Brackets = false
at_start (Lines n) = false
at_start (Start n) = true

-- behind the start
abbrev pub past_start : Layout → Layout
past_start Brackets = Brackets
past_start (Lines n) = Lines n
past_start (Start n) = Lines n

-- ---- operators

abbrev pub op_named : List ℕ → Option BinaryOp
op_named bytes =
    if bytes_eq bytes (codes "*") then Some B.Times else
    if bytes_eq bytes (codes "+") then Some B.Plus else
    if bytes_eq bytes (codes "-") then Some B.Minus else
    if bytes_eq bytes (codes "&") then Some B.Join else
    if bytes_eq bytes (codes "==") then Some B.Equal else
    if bytes_eq bytes (codes "<=") then Some B.AtMost else
    if bytes_eq bytes (codes "<") then Some B.Less else
    if bytes_eq bytes (codes ">=") then Some B.AtLeast else
    if bytes_eq bytes (codes ">") then Some B.Greater else
    if bytes_eq bytes (codes "!=") then Some B.Unequal else
    None

abbrev pub op_of_key : Key → Option BinaryOp
op_of_key K.Div = Some B.Div
op_of_key K.Mod = Some B.Mod
op_of_key K.Shl = Some B.Shl
op_of_key K.Shr = Some B.Shr
op_of_key K.And = Some B.And
op_of_key K.Or = Some B.Or
op_of_key K.Xor = Some B.Xor
op_of_key _ = None

-- the operator between operands that a token of this kind and these bytes is
abbrev pub op_of : Tok → List ℕ → Option BinaryOp
op_of T.Op bytes = op_named bytes
op_of (T.Key key) bytes = op_of_key key
op_of _ bytes = None

-- from tight to loose
abbrev pub level_of : BinaryOp → ℕ
level_of B.Times = 0
level_of B.Div = 0
level_of B.Mod = 0
level_of B.Shl = 0
level_of B.Shr = 0
level_of B.Plus = 1
level_of B.Minus = 1
level_of B.Join = 2
level_of B.Equal = 3
level_of B.AtMost = 3
level_of B.Less = 3
level_of B.AtLeast = 3
level_of B.Greater = 3
level_of B.Unequal = 3
level_of B.And = 4
level_of B.Or = 5
level_of B.Xor = 5

-- the levels of operators
abbrev pub op_levels : ℕ
op_levels = 6

-- the operator, where it has this level
abbrev pub of_level : ℕ → Option BinaryOp → Option BinaryOp
of_level l None = None
of_level l (Some op) = if level_of op == l then Some op else None

-- the operator of this level that goes on here
abbrev pub op_at : Origin → Layout → ℕ → List Token → Option BinaryOp
op_at x layout l [] = None
op_at x layout l (tok ∷ rest) = if goes_on layout tok.indent then of_level l (op_of tok.kind (spelling x tok)) else None

abbrev pub sign_named : List ℕ → Option UnaryOp
sign_named bytes =
    if bytes_eq bytes (codes "-") then Some U.Minus else
    if bytes_eq bytes (codes "+") then Some U.Plus else
    if bytes_eq bytes (codes "$") then Some U.Dollar else
    None

abbrev pub sign_of_key : Key → Option UnaryOp
sign_of_key K.Not = Some U.Not
sign_of_key _ = None

-- the operator before one operand that a token of this kind and these bytes is
abbrev pub sign_of : Tok → List ℕ → Option UnaryOp
sign_of T.Op bytes = sign_named bytes
sign_of (T.Key key) bytes = sign_of_key key
sign_of _ bytes = None

-- ---- brackets

abbrev pub some_tuple : Place → Parts → Option Term
some_tuple at no_parts = None
some_tuple at (part first rest) = Some (tuple at (part first rest))

-- what parts in brackets are: a tuple of names, a parenthesis, a tuple of two or more, or an array
abbrev pub grouped : Bracket → Bool → Place → Parts → Option Term
grouped Round true at parts = some_tuple at parts
grouped Round false at (part a no_parts) = Some (paren at a)
grouped Round false at parts = some_tuple at parts
grouped Square names at parts = Some (array at parts)

-- an expression that is a name
abbrev pub as_name : Term → Option Name
as_name (name at bytes) = Some (record { at = at; text = bytes })
as_name _ = None

-- an object of the type with that name
abbrev pub object : Option Name → Parts → Option Term
object None parts = None
object (Some n) no_parts = None
object (Some n) (part first rest) = Some (construct n.at n.text (part first rest))

-- what brackets behind an expression make of it: a call, an object, or an index
abbrev pub applied : Bracket → Bool → Term → Parts → Option Term
applied Round false a parts = Some (call (place_of a) a parts)
applied Round true a parts = object (as_name a) parts
applied Square names a parts = Some (index (place_of a) a parts)

-- ---- other tokens

-- the expression that a token of this kind and these bytes is alone
abbrev pub single_of : Place → List ℕ → Tok → Option Term
single_of at bytes (T.Int value) = Some (int at value)
single_of at bytes (T.Char value) = Some (char at value)
single_of at bytes T.Text = Some (text at bytes)
single_of at bytes T.Name = Some (name at bytes)
single_of at bytes T.Quoted = Some (quoted at bytes)
single_of at bytes (T.Key K.Nil) = Some (nil at)
single_of at bytes _ = None

abbrev pub single : Origin → Token → Option Term
single x tok = single_of (place_at x tok) (spelling x tok) tok.kind

-- whether it is this one of `( ) [ ] , : .`
abbrev pub is_punct : ℕ → Tok → Bool
is_punct b (T.Punct c) = c == b
is_punct b _ = false

-- the bracket that opens
abbrev pub bracket_named : ℕ → Option Bracket
bracket_named b = if b == 40 then Some Round else if b == 91 then Some Square else None

abbrev pub bracket_of : Tok → Option Bracket
bracket_of (T.Punct b) = bracket_named b
bracket_of _ = None

-- the byte that closes it
abbrev pub closing : Bracket → ℕ
closing Round = 41
closing Square = 93

abbrev pub is_name : Tok → Bool
is_name T.Name = true
is_name _ = false

-- whether it is this run of operator bytes
abbrev pub is_run : List ℕ → Tok → List ℕ → Bool
is_run run T.Op bytes = bytes_eq bytes run
is_run run _ bytes = false

-- `@`, which stands before the brackets of a sequence
abbrev pub is_at_sign : Tok → List ℕ → Bool
is_at_sign kind bytes = is_run (codes "@") kind bytes

-- a bracket or a point
abbrev pub is_suffix : Tok → Bool
is_suffix kind = is_some (bracket_of kind) || is_punct 46 kind

-- Where a command may begin, a `(` with a space before it begins an operand, so it goes on with nothing.
abbrev pub is_apart : Bool → Token → Bool
is_apart command tok = command && (tok.space_before && is_punct 40 tok.kind)

-- whether a bracket or a point goes on here; `command` says whether a command may begin
abbrev pub suffix_at : Layout → Bool → List Token → Bool
suffix_at layout command [] = false
suffix_at layout command (tok ∷ rest) = goes_on layout tok.indent && (is_suffix tok.kind && not (is_apart command tok))

-- whether the next token goes on here
abbrev pub stays : Layout → List Token → Bool
stays layout [] = false
stays layout (tok ∷ rest) = goes_on layout tok.indent

-- whether the token that stands here is such a one
abbrev pub kind_at : (Tok → Bool) → List Token → Bool
kind_at is [] = false
kind_at is (tok ∷ rest) = is tok.kind

-- the bracket that opens here
abbrev pub bracket_at : List Token → Option Bracket
bracket_at [] = None
bracket_at (tok ∷ rest) = bracket_of tok.kind

abbrev pub is_square : Option Bracket → Bool
is_square (Some Square) = true
is_square _ = false

-- whether the bracket of a sequence opens here
abbrev pub square_at : List Token → Bool
square_at ts = is_square (bracket_at ts)

-- whether it is closed here
abbrev pub closes_at : Bracket → List Token → Bool
closes_at bracket ts = kind_at (is_punct (closing bracket)) ts

-- whether a name and a colon stand here
abbrev pub named_part_at : List Token → Bool
named_part_at [] = false
named_part_at (tok ∷ rest) = is_name tok.kind && kind_at (is_punct 58) rest

-- whether the parts behind this bracket have names
abbrev pub names_in : Bracket → List Token → Bool
names_in Round ts = named_part_at ts
names_in Square ts = false

-- whether the parts in these brackets behind an expression have names: only those of an object have, whose type is a name
abbrev pub names_behind : Term → Bracket → List Token → Bool
names_behind a bracket ts = is_some (as_name a) && names_in bracket ts

-- the name that goes on here
abbrev pub name_on : Layout → List Token → Option Token
name_on layout [] = None
name_on layout (tok ∷ rest) = if goes_on layout tok.indent && is_name tok.kind then Some tok else None

-- whether a token of this kind begins an atom
abbrev pub begins_atom : Tok → Bool
begins_atom (T.Int value) = true
begins_atom (T.Char value) = true
begins_atom T.Text = true
begins_atom T.Name = true
begins_atom T.Quoted = true
begins_atom (T.Key K.Nil) = true
begins_atom (T.Punct b) = is_some (bracket_named b)
begins_atom _ = false

-- whether a token of this kind and these bytes begins an operand
abbrev pub begins : Tok → List ℕ → Bool
begins kind bytes = is_some (sign_of kind bytes) || (begins_atom kind || is_at_sign kind bytes)

-- whether an operand begins here
abbrev pub operand_at : Origin → List Token → Bool
operand_at x [] = false
operand_at x (tok ∷ rest) = begins tok.kind (spelling x tok)

-- ---- what an expression begins with

-- what an expression begins with
abbrev pub lead_of : Tok → Lead
lead_of (T.Key K.If) = L.If
lead_of (T.Key K.Case) = L.Case
lead_of _ = L.Operand

abbrev pub lead_at : List Token → Lead
lead_at [] = L.Operand
lead_at (tok ∷ rest) = lead_of tok.kind

abbrev pub begins_branches : Lead → Bool
begins_branches L.If = true
begins_branches L.Case = true
begins_branches L.Operand = false

-- whether an expression begins here
abbrev pub expr_at : Origin → List Token → Bool
expr_at x [] = false
expr_at x (tok ∷ rest) = begins_branches (lead_of tok.kind) || begins tok.kind (spelling x tok)

-- ---- commands

-- an operator of the language, `@` among them
abbrev pub is_operator : List ℕ → Bool
is_operator bytes = is_some (op_named bytes) || (is_some (sign_named bytes) || is_at_sign T.Op bytes)

-- What begins an operand of a command: an operator only with a space before it and none behind it.
abbrev pub begins_operand : Origin → Token → Tok → Bool
begins_operand x tok T.Op = is_operator (spelling x tok) && (tok.space_before && not tok.space_after)
begins_operand x tok kind = expr_at x (tok ∷ [])

-- whether an operand of a command goes on here
abbrev pub operand_on : Origin → Layout → List Token → Bool
operand_on x layout [] = false
operand_on x layout (tok ∷ rest) = goes_on layout tok.indent && begins_operand x tok tok.kind

-- Whether what ends here begins no command: at the start of a statement no operand goes on behind it.
abbrev pub no_command_on : Origin → Layout → List Token → Bool
no_command_on x layout ts = not (at_start layout && operand_on x layout ts)

-- ---- branches

abbrev pub is_elif : Tok → Bool
is_elif (T.Key K.Elif) = true
is_elif _ = false

abbrev pub is_else : Tok → Bool
is_else (T.Key K.Else) = true
is_else _ = false

abbrev pub is_of : Tok → Bool
is_of (T.Key K.Of) = true
is_of _ = false

-- whether such a keyword of a further branch goes on here
abbrev pub branch_at : Layout → (Tok → Bool) → List Token → Bool
branch_at layout is [] = false
branch_at layout is (tok ∷ rest) = branch_goes_on layout tok.indent && is tok.kind

-- whether a colon goes on here
abbrev pub colon_at : Layout → List Token → Bool
colon_at layout [] = false
colon_at layout (tok ∷ rest) = goes_on layout tok.indent && is_punct 58 tok.kind

-- whether an `else` with its colon goes on here
abbrev pub else_on : Layout → List Token → Bool
else_on layout [] = false
else_on layout (tok ∷ rest) = (branch_goes_on layout tok.indent && is_else tok.kind) && colon_at layout rest

-- whether the first `of` goes on here
abbrev pub first_of_at : Layout → List Token → Bool
first_of_at layout [] = false
first_of_at layout (tok ∷ rest) = first_goes_on layout tok.indent && is_of tok.kind

-- whether a comma goes on here
abbrev pub comma_at : Layout → List Token → Bool
comma_at layout [] = false
comma_at layout (tok ∷ rest) = goes_on layout tok.indent && is_punct 44 tok.kind

-- what is behind the colon that may follow the value of `case`
abbrev pub past_colon : Layout → List Token → List Token
past_colon layout [] = []
past_colon layout (tok ∷ rest) = if goes_on layout tok.indent && is_punct 58 tok.kind then rest else tok ∷ rest

-- whether `..` goes on here
abbrev pub dots_at : Origin → Layout → List Token → Bool
dots_at x layout [] = false
dots_at x layout (tok ∷ rest) = goes_on layout tok.indent && is_run (codes "..") tok.kind (spelling x tok)

-- ---- lines

abbrev pub is_end : Tok → Bool
is_end T.End = true
is_end _ = false

-- whether a deeper line begins here
abbrev pub deeper_line_at : Layout → List Token → Bool
deeper_line_at layout [] = false
deeper_line_at layout (tok ∷ rest) = is_deeper layout tok.indent

-- the layout of what stands on the line that begins here
abbrev pub line_layout : Layout → List Token → Layout
line_layout layout [] = layout
line_layout layout (tok ∷ rest) = branch_layout layout tok.indent

-- whether the lines of that level end here: the tokens end, or a line that is less deep begins
abbrev pub closed_at : Layout → List Token → Bool
closed_at layout [] = true
closed_at layout (tok ∷ rest) = is_end tok.kind || is_shallower layout tok.indent

abbrev pub spaces_or : ℕ → Option ℕ → ℕ
spaces_or n None = n
spaces_or n (Some spaces) = spaces

-- the number of spaces of the last of these tokens that begins a line, or n where none does
abbrev pub last_spaces : ℕ → List Token → ℕ
last_spaces n [] = n
last_spaces n (tok ∷ rest) = last_spaces (spaces_or n tok.indent) rest

-- the number of spaces before the line that this token stands on, 0 where none of the tokens up to it begins a line
abbrev pub line_spaces : ℕ → List Token → ℕ
line_spaces from tokens = last_spaces 0 (take (suc from) tokens)

-- ---- what is left out

abbrev pub is_left_out : Tok → Bool
is_left_out (T.Key key) = is_left_out_key key
is_left_out _ = false

-- whether a keyword that the language leaves out stands here
abbrev pub left_out_at : List Token → Bool
left_out_at [] = false
left_out_at (tok ∷ rest) = is_left_out tok.kind
