-- What stands at a place of the tokens.
use Rattle.std.specs.Prelude.{ℕ, Bool, true, false, not, ◌&&◌, ◌||◌, ◌==◌, nat_lt, if◌then◌else◌, List, [], ◌∷◌, codes, bytes_eq, Option, Some, None, is_some}
use Rattle.indent_scanner.specs.declared.token.Key.TheVariants as K
use Rattle.indent_scanner.specs.declared.token.Tok.{Tok}
use Rattle.indent_scanner.specs.declared.token.Tok.TheVariants as T
use Rattle.indent_scanner.specs.declared.token.Token.{Token}
use Rattle.nim_tree.specs.declared.stmt.AssignOp.{AssignOp}
use Rattle.nim_tree.specs.declared.stmt.AssignOp.TheVariants as A
use Rattle.nim_tree.specs.declared.stmt.Binding.{Binding}
use Rattle.nim_tree.specs.declared.stmt.Binding.TheVariants as B
use Rattle.parse_exprs.specs.declared.layout.Layout.{Layout}
use Rattle.parse_exprs.specs.declared.layout.Layout.TheVariants.{Lines}
use Rattle.parse_exprs.specs.declared.input.Lead.{Lead as ExprLead}
use Rattle.parse_exprs.specs.declared.input.Lead.TheVariants as E
use Rattle.parse_exprs.specs.Look.{Origin, spelling, goes_on, is_run, is_at_sign, is_name, is_of, is_elif, is_else, begins_atom, expr_at}
use Rattle.parse_decls.specs.Look.{is_end, spaces_at, deeper_at}
use Rattle.parse_stmts.specs.declared.look.Lead.{Lead}
use Rattle.parse_stmts.specs.declared.look.Lead.TheVariants as L
use Rattle.parse_stmts.specs.declared.look.Simple.{Simple}
use Rattle.parse_stmts.specs.declared.look.Simple.TheVariants as S

-- ---- lines

-- whether the source ends here
abbrev pub end_at : List Token → Bool
end_at [] = true
end_at (tok ∷ ts) = is_end tok.kind

-- whether a token stands here that begins no line
abbrev pub on_line_at : List Token → Bool
on_line_at [] = false
on_line_at (tok ∷ ts) = not (is_end tok.kind) && goes_on (Lines 0) tok.indent

abbrev pub less_than : ℕ → Option ℕ → Bool
less_than n None = false
less_than n (Some m) = nat_lt m n

-- whether statements behind n spaces end before this
abbrev pub ends_at : ℕ → List Token → Bool
ends_at n ts = end_at ts || less_than n (spaces_at ts)

-- whether it begins a line behind n spaces or more
abbrev pub goes_deeper : ℕ → Option ℕ → Bool
goes_deeper n None = false
goes_deeper n (Some m) = not (nat_lt m n)

abbrev pub is_branch_word : Tok → Bool
is_branch_word kind = is_of kind || (is_elif kind || is_else kind)

-- Whether an expression that began a statement behind n spaces is alone on its line: the source ends, or a line begins, and no
-- further branch at the level of the statement or deeper.
abbrev pub line_over : ℕ → List Token → Bool
line_over n [] = true
line_over n (tok ∷ ts) = is_end tok.kind || (is_some tok.indent && not (goes_deeper n tok.indent && is_branch_word tok.kind))

-- ---- what a statement begins with

abbrev pub section_or_line : Bool → Lead
section_or_line true = L.Section
section_or_line false = L.Line

abbrev pub lead_of : ℕ → List Token → Tok → Lead
lead_of n ts (T.Key K.If) = L.If
lead_of n ts (T.Key K.Case) = L.Case
lead_of n ts (T.Key K.While) = L.While
lead_of n ts (T.Key K.For) = L.For
lead_of n ts (T.Key K.Try) = L.Try
lead_of n ts (T.Key K.Defer) = L.Defer
lead_of n ts (T.Key K.Proc) = L.Proc
lead_of n ts (T.Key K.Type) = L.Type
lead_of n ts (T.Key K.Let) = section_or_line (deeper_at n ts)
lead_of n ts (T.Key K.Var) = section_or_line (deeper_at n ts)
lead_of n ts (T.Key K.Const) = section_or_line (deeper_at n ts)
lead_of n ts _ = L.Line

-- a statement behind n spaces that begins with this token, behind which are these
abbrev pub lead : ℕ → Token → List Token → Lead
lead n tok ts = lead_of n ts tok.kind

abbrev pub simple_of : Tok → Simple
simple_of (T.Key K.Discard) = S.Discard
simple_of (T.Key K.Return) = S.Return
simple_of (T.Key K.Raise) = S.Raise
simple_of (T.Key K.Break) = S.Break
simple_of (T.Key K.Continue) = S.Continue
simple_of (T.Key K.Import) = S.Import
simple_of (T.Key K.Let) = S.Let
simple_of (T.Key K.Var) = S.Var
simple_of (T.Key K.Const) = S.Const
simple_of _ = S.Plain

-- whether it is a word, and no expression, assignment or command
abbrev pub is_simple_word : Simple → Bool
is_simple_word S.Plain = false
is_simple_word _ = true

-- whether it begins a statement with blocks or declarations
abbrev pub begins_compound : Tok → Bool
begins_compound (T.Key K.If) = true
begins_compound (T.Key K.Case) = true
begins_compound (T.Key K.While) = true
begins_compound (T.Key K.For) = true
begins_compound (T.Key K.Try) = true
begins_compound (T.Key K.Defer) = true
begins_compound (T.Key K.Proc) = true
begins_compound (T.Key K.Type) = true
begins_compound _ = false

-- whether a line of simple statements begins here
abbrev pub line_at : Origin → List Token → Bool
line_at x [] = false
line_at x (tok ∷ ts) = is_simple_word (simple_of tok.kind) || expr_at x (tok ∷ ts)

-- whether a statement begins here
abbrev pub statement_at : Origin → List Token → Bool
statement_at x [] = false
statement_at x (tok ∷ ts) = begins_compound tok.kind || line_at x (tok ∷ ts)

-- whether a block begins here: a line on the line of its colon, or a statement that begins a line behind more than n spaces
abbrev pub opens_block : Origin → ℕ → List Token → Bool
opens_block x n ts = (on_line_at ts && line_at x ts) || (deeper_at n ts && statement_at x ts)

-- whether it begins an `if` or a `case`
abbrev pub chooses : Lead → Bool
chooses L.If = true
chooses L.Case = true
chooses _ = false

-- ---- commands and assignments

-- whether an atom begins here
abbrev pub atom_at : Origin → List Token → Bool
atom_at x [] = false
atom_at x (tok ∷ ts) = begins_atom tok.kind || is_at_sign tok.kind (spelling x tok)

abbrev pub assign_named : List ℕ → Option AssignOp
assign_named bytes =
    if bytes_eq bytes (codes "+=") then Some A.Plus else
    if bytes_eq bytes (codes "-=") then Some A.Minus else
    if bytes_eq bytes (codes "*=") then Some A.Times else
    if bytes_eq bytes (codes "&=") then Some A.Join else
    None

abbrev pub assign_of : Tok → List ℕ → Option AssignOp
assign_of T.Op bytes = assign_named bytes
assign_of (T.Punct b) bytes = if b == 61 then Some A.Set else None
assign_of _ bytes = None

-- the operator of an assignment that goes on here
abbrev pub assign_on : Origin → ℕ → List Token → Option AssignOp
assign_on x n [] = None
assign_on x n (tok ∷ ts) = if goes_on (Lines n) tok.indent then assign_of tok.kind (spelling x tok) else None

-- only operators are assigned to
abbrev pub assigned_by : ExprLead → Option AssignOp → Option AssignOp
assigned_by E.Operand op = op
assigned_by _ op = None

-- ---- keywords and marks

abbrev pub is_in : Tok → Bool
is_in (T.Key K.In) = true
is_in _ = false

abbrev pub is_as : Tok → Bool
is_as (T.Key K.As) = true
is_as _ = false

abbrev pub is_except : Tok → Bool
is_except (T.Key K.Except) = true
is_except _ = false

abbrev pub is_finally : Tok → Bool
is_finally (T.Key K.Finally) = true
is_finally _ = false

-- whether such a token goes on here
abbrev pub word_on : ℕ → (Tok → Bool) → List Token → Bool
word_on n is [] = false
word_on n is (tok ∷ ts) = goes_on (Lines n) tok.indent && is tok.kind

-- whether `..<` goes on here
abbrev pub below_at : Origin → ℕ → List Token → Bool
below_at x n [] = false
below_at x n (tok ∷ ts) = goes_on (Lines n) tok.indent && is_run (codes "..<") tok.kind (spelling x tok)

-- the level of the branches whose first word has this indent, in a statement behind n spaces
abbrev pub branch_level : ℕ → Option ℕ → ℕ
branch_level n None = n
branch_level n (Some m) = m

-- ---- sections

-- what a section binds its names to
abbrev pub binding_of : Tok → Binding
binding_of (T.Key K.Let) = B.Let
binding_of (T.Key K.Var) = B.Var
binding_of _ = B.Const

-- ---- imports

abbrev pub has_slash : List ℕ → Bool
has_slash [] = false
has_slash (b ∷ bytes) = b == 47 || has_slash bytes

abbrev pub is_slash : Origin → Token → Tok → Bool
is_slash x tok T.Op = has_slash (spelling x tok)
is_slash x tok _ = false

-- whether operators with a `/` go on here
abbrev pub slash_on : Origin → Layout → List Token → Bool
slash_on x layout [] = false
slash_on x layout (tok ∷ ts) = goes_on layout tok.indent && is_slash x tok tok.kind

-- whether a path with a `/` begins here in place of the name of a module
abbrev pub path_at : Origin → Layout → List Token → Bool
path_at x layout [] = false
path_at x layout (tok ∷ ts) = slash_on x layout (tok ∷ ts) || (goes_on layout tok.indent && (is_name tok.kind && slash_on x layout ts))
