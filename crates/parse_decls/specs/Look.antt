-- What stands at a place of the tokens.
use Rattle.std.specs.Prelude.{ℕ, Bool, true, false, ◌&&◌, ◌||◌, ◌==◌, nat_lt, if◌then◌else◌, List, [], ◌∷◌, codes, Option, Some, None}
use Rattle.indent_scanner.specs.declared.token.Key.TheVariants as K
use Rattle.indent_scanner.specs.declared.token.Tok.{Tok}
use Rattle.indent_scanner.specs.declared.token.Tok.TheVariants as T
use Rattle.indent_scanner.specs.declared.token.Token.{Token}
use Rattle.indent_scanner.specs.Words.{is_named}
use Rattle.nim_tree.specs.declared.name.Name.{Name}
use Rattle.nim_tree.specs.declared.name.Declared.{Declared}
use Rattle.nim_tree.specs.declared.name.Pragma.{Pragma}
use Rattle.nim_tree.specs.declared.name.PragmaKind.{PragmaKind}
use Rattle.nim_tree.specs.declared.name.PragmaKind.TheVariants as P
use Rattle.nim_tree.specs.declared.stmt.ParamMode.{ParamMode}
use Rattle.nim_tree.specs.declared.stmt.ParamMode.TheVariants as M
use Rattle.parse_exprs.specs.declared.layout.Layout.{Layout}
use Rattle.parse_exprs.specs.declared.layout.Layout.TheVariants.{Lines}
use Rattle.parse_exprs.specs.declared.input.Bracket.{Bracket}
use Rattle.parse_exprs.specs.declared.input.Bracket.TheVariants.{Round, Square}
use Rattle.parse_exprs.specs.Look.{Origin, spelling, place_at, goes_on, is_punct, is_name, is_run, bracket_of, kind_at, comma_at}
use Rattle.parse_decls.specs.declared.look.TypeLead.{TypeLead}
use Rattle.parse_decls.specs.declared.look.TypeLead.TheVariants as L
use Rattle.parse_decls.specs.declared.look.BodyLead.{BodyLead}
use Rattle.parse_decls.specs.declared.look.BodyLead.TheVariants as B

-- the tokens behind the first
abbrev pub behind : List Token → List Token
behind [] = []
behind (tok ∷ ts) = ts

abbrev pub is_end : Tok → Bool
is_end T.End = true
is_end _ = false

-- the spaces before the first of these tokens, where it begins a line and isn't the end of the source
abbrev pub spaces_at : List Token → Option ℕ
spaces_at [] = None
spaces_at (tok ∷ ts) = if is_end tok.kind then None else tok.indent

abbrev pub deeper_than : ℕ → Option ℕ → Bool
deeper_than n None = false
deeper_than n (Some m) = nat_lt n m

-- whether a line behind more than n spaces begins here
abbrev pub deeper_at : ℕ → List Token → Bool
deeper_at n ts = deeper_than n (spaces_at ts)

abbrev pub equals : ℕ → Option ℕ → Bool
equals n None = false
equals n (Some m) = m == n

-- whether a line behind n spaces begins here
abbrev pub stands_at : ℕ → List Token → Bool
stands_at n ts = equals n (spaces_at ts)

abbrev pub number_or : ℕ → Option ℕ → ℕ
number_or n None = n
number_or n (Some m) = m

-- the number of spaces before the line that begins here
abbrev pub level_at : List Token → ℕ
level_at ts = number_or 0 (spaces_at ts)

-- ---- names

abbrev pub name_of : Origin → Token → Name
name_of x tok = record { at = place_at x tok; text = spelling x tok }

abbrev pub declared_of : Origin → Token → Bool → Bool → Declared
declared_of x tok quoted shown = record { at = place_at x tok; text = spelling x tok; quoted = quoted; shown = shown }

-- whether `*` goes on here
abbrev pub star_at : Origin → Layout → List Token → Bool
star_at x layout [] = false
star_at x layout (tok ∷ ts) = goes_on layout tok.indent && is_run (codes "*") tok.kind (spelling x tok)

-- what is behind the `*` that may stand here
abbrev pub past_star : Origin → Layout → List Token → List Token
past_star x layout [] = []
past_star x layout (tok ∷ ts) = if goes_on layout tok.indent && is_run (codes "*") tok.kind (spelling x tok) then ts else tok ∷ ts

abbrev pub is_quoted : Tok → Bool
is_quoted T.Quoted = true
is_quoted _ = false

-- the name of a procedure, in backticks or not, that goes on here
abbrev pub proc_name_on : Layout → List Token → Option Token
proc_name_on layout [] = None
proc_name_on layout (tok ∷ ts) = if goes_on layout tok.indent && (is_name tok.kind || is_quoted tok.kind) then Some tok else None

-- ---- brackets and other marks

-- whether this bracket opens here
abbrev pub is_bracket : Bracket → Option Bracket → Bool
is_bracket Round (Some Round) = true
is_bracket Square (Some Square) = true
is_bracket b other = false

abbrev pub opens_at : Layout → Bracket → List Token → Bool
opens_at layout b [] = false
opens_at layout b (tok ∷ ts) = goes_on layout tok.indent && is_bracket b (bracket_of tok.kind)

-- whether `=` goes on here
abbrev pub equals_at : Layout → List Token → Bool
equals_at layout [] = false
equals_at layout (tok ∷ ts) = goes_on layout tok.indent && is_punct 61 tok.kind

abbrev pub is_of : Tok → Bool
is_of (T.Key K.Of) = true
is_of _ = false

-- whether `of` goes on here
abbrev pub of_at : Layout → List Token → Bool
of_at layout [] = false
of_at layout (tok ∷ ts) = goes_on layout tok.indent && is_of tok.kind

-- whether a comma or a semicolon stands here
abbrev pub separator_at : List Token → Bool
separator_at ts = kind_at (is_punct 44) ts || kind_at (is_punct 59) ts

-- ---- pragmas

abbrev pub is_pragma_open : Tok → Bool
is_pragma_open T.PragmaOpen = true
is_pragma_open _ = false

abbrev pub is_pragma_close : Tok → Bool
is_pragma_close T.PragmaClose = true
is_pragma_close _ = false

-- whether pragmas go on here
abbrev pub pragmas_at : Layout → List Token → Bool
pragmas_at layout [] = false
pragmas_at layout (tok ∷ ts) = goes_on layout tok.indent && is_pragma_open tok.kind

-- the pragmas of the language
abbrev pub pragma_named : List ℕ → Option PragmaKind
pragma_named bytes =
    if is_named bytes (codes "error") then Some P.Error else
    if is_named bytes (codes "borrow") then Some P.Borrow else
    if is_named bytes (codes "cursor") then Some P.Cursor else
    if is_named bytes (codes "inline") then Some P.Inline else
    None

abbrev pub pragma_of : Origin → Token → PragmaKind → Pragma
pragma_of x tok kind = record { at = place_at x tok; kind = kind }

-- ---- types

-- `array` and a bracket begin an array; any other name is that of a type
abbrev pub named_lead : Bool → Bool → TypeLead
named_lead true true = L.Array
named_lead _ _ = L.Name

abbrev pub type_lead_of : Origin → Layout → Token → List Token → Tok → TypeLead
type_lead_of x layout tok ts T.Name = named_lead (is_named (spelling x tok) (codes "array")) (opens_at layout Square ts)
type_lead_of x layout tok ts (T.Key K.Ref) = L.Ref
type_lead_of x layout tok ts (T.Key K.Tuple) = L.Tuple
type_lead_of x layout tok ts _ = L.Other

-- what a written type begins with
abbrev pub type_lead : Origin → Layout → Token → List Token → TypeLead
type_lead x layout tok ts = type_lead_of x layout tok ts tok.kind

abbrev pub begins_type : Tok → Bool
begins_type T.Name = true
begins_type (T.Key K.Ref) = true
begins_type (T.Key K.Tuple) = true
begins_type _ = false

-- whether a written type begins here
abbrev pub type_at : List Token → Bool
type_at ts = kind_at begins_type ts

-- `var`, or `sink` before a type
abbrev pub mode_of : Origin → Token → List Token → Tok → ParamMode
mode_of x tok ts (T.Key K.Var) = M.Var
mode_of x tok ts T.Name = if is_named (spelling x tok) (codes "sink") && type_at ts then M.Sink else M.Plain
mode_of x tok ts _ = M.Plain

abbrev pub mode_at : Origin → List Token → ParamMode
mode_at x [] = M.Plain
mode_at x (tok ∷ ts) = mode_of x tok ts tok.kind

abbrev pub past_if_mode : ParamMode → List Token → List Token
past_if_mode M.Plain ts = ts
past_if_mode M.Var ts = behind ts
past_if_mode M.Sink ts = behind ts

-- what is behind the mode that may stand here
abbrev pub past_mode : Origin → List Token → List Token
past_mode x ts = past_if_mode (mode_at x ts) ts

abbrev pub is_object : Tok → Bool
is_object (T.Key K.Object) = true
is_object _ = false

-- whether `object` goes on here
abbrev pub object_at : Layout → List Token → Bool
object_at layout [] = false
object_at layout (tok ∷ ts) = goes_on layout tok.indent && is_object tok.kind

abbrev pub body_lead_of : Layout → List Token → Tok → BodyLead
body_lead_of layout ts (T.Key K.Object) = B.Object
body_lead_of layout ts (T.Key K.Ref) = if object_at layout ts then B.RefObject else B.Alias
body_lead_of layout ts (T.Key K.Enum) = B.Enum
body_lead_of layout ts (T.Key K.Distinct) = B.Distinct
body_lead_of layout ts _ = B.Alias

-- what the body of a declared type begins with
abbrev pub body_lead : Layout → List Token → BodyLead
body_lead layout [] = B.Alias
body_lead layout (tok ∷ ts) = body_lead_of layout ts tok.kind

-- whether a member goes on here, or begins a line behind m spaces
abbrev pub member_at : ℕ → List Token → Bool
member_at m [] = false
member_at m (tok ∷ ts) = (goes_on (Lines m) tok.indent || equals m tok.indent) && is_name tok.kind

-- whether a comma, or a further member, stands here
abbrev pub more_members_at : ℕ → List Token → Bool
more_members_at m ts = comma_at (Lines m) ts || member_at m ts

-- what is behind the comma that may stand here
abbrev pub past_comma : Layout → List Token → List Token
past_comma layout ts = if comma_at layout ts then behind ts else ts
