-- Paths: a name or a fresh value, followed by fields and elements.
use Rattle.std.specs.Prelude.{ℕ, Bool, true, false, not, ◌&&◌, ◌||◌, nat_eq, List, [], ◌∷◌, ◌++◌, Option, Some, None}
use Rattle.nim_tree.specs.Terms as term
use Rattle.nim_tree.specs.Terms.{Term}
use Rattle.nim_program.specs.Program.{Expr, Read, Path, Variable, Fresh, Field, Element, Deref}
use Rattle.expr_rules.specs.Env.{Env, Known, a_variable, known}

-- an expression as the beginning of a path
abbrev pub path_of : Expr → Path
path_of (Read path) = path
path_of other = Fresh other

-- the place at its root, None where that is a fresh value
abbrev pub root_of : Path → Option ℕ
root_of (Variable node ty place global) = Some place
root_of (Fresh value) = None
root_of (Field node ty base field) = root_of base
root_of (Element node ty base index constant) = root_of base
root_of (Deref ty base) = root_of base

-- ---- what can be written

abbrev pub is_some : Option ℕ → Bool
is_some (Some place) = true
is_some None = false

abbrev pub is_writable : Known → Bool
is_writable (a_variable place of writable global) = writable
is_writable _ = false

-- whether the name at the root of a term is that of a variable that can be written
abbrev pub has_writable_root : Env → Term → Bool
has_writable_root env (term.name at x) = is_writable (known env x)
has_writable_root env (term.paren at a) = has_writable_root env a
has_writable_root env (term.field at a x) = has_writable_root env a
has_writable_root env (term.index at a inside) = has_writable_root env a
has_writable_root env _ = false

-- whether what stands for the term can be written: it is a path from such a variable
abbrev pub can_be_written : Env → Term → Expr → Bool
can_be_written env t e = is_some (root_of (path_of e)) && has_writable_root env t

-- ---- overlap of two `var` arguments

pub data Step : Type 0 where
  field : ℕ → Step
  element : Step

-- from the root on
abbrev pub steps_of : Path → List Step
steps_of (Variable node ty place global) = []
steps_of (Fresh value) = []
steps_of (Field node ty base number) = steps_of base ++ field number ∷ []
steps_of (Element node ty base index constant) = steps_of base ++ element ∷ []
steps_of (Deref ty base) = steps_of base

-- whether some step of one is a field, and the same step of the other is another field
abbrev pub differ : List Step → List Step → Bool
differ (field i ∷ rest) (field j ∷ others) = not (nat_eq i j) || differ rest others
differ (_ ∷ rest) (_ ∷ others) = differ rest others
differ _ _ = false

abbrev pub same_root : Option ℕ → Option ℕ → Bool
same_root (Some p) (Some q) = nat_eq p q
same_root _ _ = false

-- whether they have one root and no differing field
abbrev pub overlap : Path → Path → Bool
overlap a b = same_root (root_of a) (root_of b) && not (differ (steps_of a) (steps_of b))

abbrev pub overlaps_any : Path → List Path → Bool
overlaps_any a [] = false
overlaps_any a (b ∷ rest) = overlap a b || overlaps_any a rest
