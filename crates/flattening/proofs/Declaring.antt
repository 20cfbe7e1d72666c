-- The places that a body declares, by a fold over all its parts and by what its statements declare.
use Rattle.std.proofs.Common.{◌≡◌, ℕ, Bool, List, [], ◌∷◌, ◌++◌, Option, Some, None, refl, ap, ap₂, ◌∙◌}
use Rattle.std.proofs.lemmas.List.{append-nil}
use Rattle.nim_types.specs.Types.{Ty, Facts}
use Rattle.nim_program.specs.declared.program.Mode.{Mode}
use Rattle.nim_program.specs.Program.{Expr, Apply, Read, Early, Choose, Path, Variable, Fresh, Field, Element, Deref, Args, NoArg, ByValue, ByPath}
use Rattle.nim_program.specs.Program.{Literal, constant_in, Declared, While, Count, Each, Stmt, Do, Idle, Give, Leave, Select, Loop, Raise, Try}
use Rattle.nim_program.specs.Program.{Stmts, Empty, Then, Declare, Defer, Blocks, Otherwise, Block, Handlers, NoHandler, Handler}
use Rattle.nim_program.specs.Folds.{if_constant, begun_by, lists, together, in_turn, total, total_at, totals, each, total_in, total_of, each_block}
use Rattle.nim_program.specs.Folds.{total_of_handlers}
use Rattle.nim_program.specs.Sizes.{is_global}
use Rattle.flat_code.specs.declared.place.PlaceKind.TheVariants as K
use Rattle.flat_code.specs.declared.place.FlatPlace.{FlatPlace}
use Rattle.flattening.specs.Places.{of_declared, own_declared}
use Rattle.flattening.specs.PlaceViews.{kind_declared, declared_by, declared_in, declared_in_blocks, declared_in_handlers}

module _ (types : List Ty) (facts : Facts) (modes : (proc position : ℕ) → Mode) (globals : List Declared) where
  -- ---- expressions declare nothing

  none_begun : (constant : Option Literal) (read : Bool) (value : Expr) → total lists (own_declared types facts modes globals) value ≡ [] →
      if_constant constant (own_declared types facts modes globals (begun_by constant read value))
      (own_declared types facts modes globals (begun_by constant read value) ++ total lists (own_declared types facts modes globals) value) ≡ []
  none_begun None read value h = h
  none_begun (Some literal) read value h = refl

  mutual
    none : (e : Expr) → total lists (own_declared types facts modes globals) e ≡ []
    none (Apply node ty act operands) = none_of operands
    none (Read path) = none_at _ path
    none (Early node ty short left right) = ap₂ (λ x y. x ++ y) (none left) (none right)
    none (Choose node ty chooser parts) = none_of parts

    none_at : (read : Bool) (path : Path) → total_at lists (own_declared types facts modes globals) read path ≡ []
    none_at read (Variable node ty place global) = refl
    none_at read (Fresh value) = none_begun (constant_in value) read value (none value)
    none_at read (Field node ty base field) = none_at _ base
    none_at read (Element node ty base index constant) = ap₂ (λ x y. x ++ y) (none_at _ base) (none index)
    none_at read (Deref ty base) = none_at _ base

    none_of : (args : Args) → totals lists (own_declared types facts modes globals) args ≡ []
    none_of NoArg = refl
    none_of (ByValue value rest) = ap₂ (λ x y. x ++ y) (none value) (none_of rest)
    none_of (ByPath path rest) = ap₂ (λ x y. x ++ y) (none_at _ path) (none_of rest)

  all_none : (args : Args) → together lists (each lists (own_declared types facts modes globals) args) ≡ []
  all_none NoArg = refl
  all_none (ByValue value rest) = ap₂ (λ x y. x ++ y) (none value) (all_none rest)
  all_none (ByPath path rest) = ap₂ (λ x y. x ++ y) (none_at _ path) (all_none rest)

  -- what only blocks declare
  blocks_alone : (args : Args) (xs : List (List FlatPlace)) → in_turn lists (each lists (own_declared types facts modes globals) args) xs ≡ together lists xs
  blocks_alone NoArg xs = refl
  blocks_alone (ByValue value rest) [] = ap₂ (λ x y. x ++ y) (none value) (all_none rest)
  blocks_alone (ByPath path rest) [] = ap₂ (λ x y. x ++ y) (none_at _ path) (all_none rest)
  blocks_alone (ByValue value rest) (x ∷ xs) = ap₂ (λ y z. y ++ (x ++ z)) (none value) (blocks_alone rest xs)
  blocks_alone (ByPath path rest) (x ∷ xs) = ap₂ (λ y z. y ++ (x ++ z)) (none_at _ path) (blocks_alone rest xs)

  mutual
    stmt_declares : (stmt : Stmt) → total_in lists (own_declared types facts modes globals) stmt ≡ declared_by types facts modes (is_global globals) stmt
    stmt_declares (Do value) = none value
    stmt_declares (Idle node parts) = none_of parts
    stmt_declares (Give node back value) = none value
    stmt_declares (Leave node leaving parts) = none_of parts
    stmt_declares (Select node chooser tests blocks) = blocks_alone tests _ ∙ blocks_declare blocks
    stmt_declares (Loop node While head body) = ap₂ (λ x y. x ++ y) (none_of head) (declares body)
    stmt_declares (Loop node (Count variable inclusive) head body) =
        ap (λ x. of_declared types facts modes K.ForVar variable ∷ x) (ap₂ (λ x y. x ++ y) (none_of head) (declares body))
    stmt_declares (Loop node (Each variable) head body) =
        ap (λ x. of_declared types facts modes K.ForVar variable ∷ x) (ap₂ (λ x y. x ++ y) (none_of head) (declares body))
    stmt_declares (Raise node exception message) = none_of message
    stmt_declares (Try node body handlers last) = ap₂ (λ x y. x ++ y) (declares body) (ap₂ (λ x y. x ++ y) (handlers_declare handlers) (declares last))

    pub declares : (block : Stmts) → total_of lists (own_declared types facts modes globals) block ≡ declared_in types facts modes (is_global globals) block
    declares Empty = refl
    declares (Then first rest) = ap₂ (λ x y. x ++ y) (stmt_declares first) (declares rest)
    declares (Declare node place cursor value rest) =
        ap (λ x. of_declared types facts modes (kind_declared (is_global globals) place.number cursor) place ∷ x)
        (ap₂ (λ x y. x ++ y) (none_of value) (declares rest))
    declares (Defer node last rest) = ap₂ (λ x y. x ++ y) (declares last) (declares rest)

    blocks_declare : (blocks : Blocks) → together lists (each_block lists (own_declared types facts modes globals) blocks)
        ≡ declared_in_blocks types facts modes (is_global globals) blocks
    blocks_declare (Otherwise block) = append-nil _ ∙ declares block
    blocks_declare (Block first rest) = ap₂ (λ x y. x ++ y) (declares first) (blocks_declare rest)

    handlers_declare : (handlers : Handlers) →
        total_of_handlers lists (own_declared types facts modes globals) handlers ≡ declared_in_handlers types facts modes (is_global globals) handlers
    handlers_declare NoHandler = refl
    handlers_declare (Handler kinds None body rest) = ap₂ (λ x y. x ++ y) (declares body) (handlers_declare rest)
    handlers_declare (Handler kinds (Some name) body rest) =
        ap (λ x. of_declared types facts modes K.Caught name ∷ x) (ap₂ (λ x y. x ++ y) (declares body) (handlers_declare rest))
