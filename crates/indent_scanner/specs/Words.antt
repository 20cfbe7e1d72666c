-- Names and keywords.
use Rattle.std.specs.Prelude.{ℕ, ◌+◌, Bool, true, false, ◌&&◌, ◌==◌, if◌then◌else◌, List, [], ◌∷◌, Option, Some, None, codes}
use Rattle.indent_scanner.specs.declared.token.Key.{Key}
use Rattle.indent_scanner.specs.declared.token.Key.TheVariants as K
use Rattle.indent_scanner.specs.Bytes.{is_in}

-- a letter in lower case
abbrev pub lower : ℕ → ℕ
lower b = if is_in 65 90 b then b + 32 else b

-- without `_`, in lower case
abbrev pub folded : List ℕ → List ℕ
folded [] = []
folded (b ∷ bytes) = if b == 95 then folded bytes else lower b ∷ folded bytes

-- the normal form of a name, which equal names share: its first byte, and the rest folded
abbrev pub normal : List ℕ → List ℕ
normal [] = []
normal (b ∷ bytes) = b ∷ folded bytes

abbrev pub same : List ℕ → List ℕ → Bool
same [] [] = true
same [] (k ∷ key) = false
same (b ∷ bytes) [] = false
same (b ∷ bytes) (k ∷ key) = b == k && same bytes key

-- whether a name is the keyword, which is in normal form
unfoldable pub is_named : List ℕ → List ℕ → Bool
is_named name key = same (normal name) key

-- keywords that the language leaves out, from `is` to `yield`
abbrev pub other_left_keys : List ℕ → Option Key
other_left_keys name =
    if is_named name (codes "is") then Some K.Is else
    if is_named name (codes "isnot") then Some K.IsNot else
    if is_named name (codes "iterator") then Some K.Iterator else
    if is_named name (codes "macro") then Some K.Macro else
    if is_named name (codes "method") then Some K.Method else
    if is_named name (codes "mixin") then Some K.Mixin else
    if is_named name (codes "notin") then Some K.NotIn else
    if is_named name (codes "out") then Some K.Out else
    if is_named name (codes "ptr") then Some K.Ptr else
    if is_named name (codes "static") then Some K.Static else
    if is_named name (codes "template") then Some K.Template else
    if is_named name (codes "using") then Some K.Using else
    if is_named name (codes "when") then Some K.When else
    if is_named name (codes "yield") then Some K.Yield else
    None

-- keywords that the language leaves out, from `addr` to `interface`
abbrev pub left_keys : List ℕ → Option Key
left_keys name =
    if is_named name (codes "addr") then Some K.Addr else
    if is_named name (codes "asm") then Some K.Asm else
    if is_named name (codes "bind") then Some K.Bind else
    if is_named name (codes "block") then Some K.Block else
    if is_named name (codes "cast") then Some K.Cast else
    if is_named name (codes "concept") then Some K.Concept else
    if is_named name (codes "converter") then Some K.Converter else
    if is_named name (codes "do") then Some K.Do else
    if is_named name (codes "end") then Some K.End else
    if is_named name (codes "export") then Some K.Export else
    if is_named name (codes "from") then Some K.From else
    if is_named name (codes "func") then Some K.Func else
    if is_named name (codes "include") then Some K.Include else
    if is_named name (codes "interface") then Some K.Interface else
    None

-- keywords in use, from `mod` to `xor`
abbrev pub more_keys : List ℕ → Option Key
more_keys name =
    if is_named name (codes "mod") then Some K.Mod else
    if is_named name (codes "nil") then Some K.Nil else
    if is_named name (codes "not") then Some K.Not else
    if is_named name (codes "object") then Some K.Object else
    if is_named name (codes "of") then Some K.Of else
    if is_named name (codes "or") then Some K.Or else
    if is_named name (codes "proc") then Some K.Proc else
    if is_named name (codes "raise") then Some K.Raise else
    if is_named name (codes "ref") then Some K.Ref else
    if is_named name (codes "return") then Some K.Return else
    if is_named name (codes "shl") then Some K.Shl else
    if is_named name (codes "shr") then Some K.Shr else
    if is_named name (codes "try") then Some K.Try else
    if is_named name (codes "tuple") then Some K.Tuple else
    if is_named name (codes "type") then Some K.Type else
    if is_named name (codes "var") then Some K.Var else
    if is_named name (codes "while") then Some K.While else
    if is_named name (codes "xor") then Some K.Xor else
    None

-- keywords in use, from `and` to `let`
abbrev pub first_keys : List ℕ → Option Key
first_keys name =
    if is_named name (codes "and") then Some K.And else
    if is_named name (codes "as") then Some K.As else
    if is_named name (codes "break") then Some K.Break else
    if is_named name (codes "case") then Some K.Case else
    if is_named name (codes "const") then Some K.Const else
    if is_named name (codes "continue") then Some K.Continue else
    if is_named name (codes "defer") then Some K.Defer else
    if is_named name (codes "discard") then Some K.Discard else
    if is_named name (codes "distinct") then Some K.Distinct else
    if is_named name (codes "div") then Some K.Div else
    if is_named name (codes "elif") then Some K.Elif else
    if is_named name (codes "else") then Some K.Else else
    if is_named name (codes "enum") then Some K.Enum else
    if is_named name (codes "except") then Some K.Except else
    if is_named name (codes "finally") then Some K.Finally else
    if is_named name (codes "for") then Some K.For else
    if is_named name (codes "if") then Some K.If else
    if is_named name (codes "import") then Some K.Import else
    if is_named name (codes "in") then Some K.In else
    if is_named name (codes "let") then Some K.Let else
    None

abbrev pub or_else : Option Key → Option Key → Option Key
or_else None other = other
or_else (Some key) other = Some key

-- the keyword that a name is
unfoldable pub key_of : List ℕ → Option Key
key_of name = or_else (first_keys name) (or_else (more_keys name) (or_else (left_keys name) (other_left_keys name)))

-- whether the language leaves the keyword out
abbrev pub is_left_out : Key → Bool
is_left_out K.Addr = true
is_left_out K.Asm = true
is_left_out K.Bind = true
is_left_out K.Block = true
is_left_out K.Cast = true
is_left_out K.Concept = true
is_left_out K.Converter = true
is_left_out K.Do = true
is_left_out K.End = true
is_left_out K.Export = true
is_left_out K.From = true
is_left_out K.Func = true
is_left_out K.Include = true
is_left_out K.Interface = true
is_left_out K.Is = true
is_left_out K.IsNot = true
is_left_out K.Iterator = true
is_left_out K.Macro = true
is_left_out K.Method = true
is_left_out K.Mixin = true
is_left_out K.NotIn = true
is_left_out K.Out = true
is_left_out K.Ptr = true
is_left_out K.Static = true
is_left_out K.Template = true
is_left_out K.Using = true
is_left_out K.When = true
is_left_out K.Yield = true
is_left_out _ = false
