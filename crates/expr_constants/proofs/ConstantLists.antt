-- Evaluation of operands, one after another, and how much there is to evaluate.
use Rattle.std.proofs.Common.{◌≡◌, ℕ, suc, ◌+◌, ◌<◌, List, [], ◌∷◌, ◌++◌, length, refl, ap, arith}
use Rattle.std.specs.Prelude.{Bool, true, false, if◌then◌else◌}
use Rattle.std.proofs.lemmas.Bool.{both_ways}
use Rattle.nim_types.specs.Types.{Ty, Facts}
use Rattle.nim_program.specs.declared.expr.Literal.{Literal as RustLiteral}
use Rattle.nim_program.specs.declared.expr.Operand.{Operand as RustArgument}
use Rattle.nim_program.specs.declared.expr.Operand.TheVariants as argument
use Rattle.nim_program.specs.View.{expr_of, path_of, operand_before, literal_of, literals_of}
use Rattle.nim_program.specs.Program as P
use Rattle.nim_program.specs.Program.{Expr, Path, Args, Literal, Literals, Number, Characters, NoObject, PartsOf, ElementsOf, NoLiteral, ALiteral}
use Rattle.expr_rules.specs.Constants.{Evaluated, comes_to, traps, varies, on_one, on_two, alone, in_pair, limited, of_literal, values_in}
use Rattle.plain_values.specs.Entries.{and_last}
use Rattle.expr_constants.specs.ViewConstants.{and_value, is_text, value_of}

-- ---- how many expressions may be evaluated, with itself

abbrev mutual
  pub expr_count : Expr → ℕ
  expr_count (P.Apply node ty act operands) = suc (args_count operands)
  expr_count (P.Early node ty short left right) = suc (expr_count left + expr_count right)
  expr_count _ = 1

  pub path_count : Path → ℕ
  path_count (P.Fresh e) = suc (expr_count e)
  path_count _ = 1

  pub args_count : Args → ℕ
  args_count P.NoArg = 0
  args_count (P.ByValue e rest) = suc (expr_count e + args_count rest)
  args_count (P.ByPath path rest) = suc (path_count path + args_count rest)

-- of an operand
abbrev pub argument_count : RustArgument → ℕ
argument_count (argument.Value e) = expr_count (expr_of [] e)
argument_count (argument.At path) = path_count (path_of [] path)

pub one_counted : (a : RustArgument) (rest : Args) → args_count (operand_before [] a rest) ≡ suc (argument_count a + args_count rest)
one_counted (argument.Value e) rest = refl
one_counted (argument.At path) rest = refl

-- ---- values before others

abbrev pub joined : Literals → Literals → Literals
joined NoLiteral ys = ys
joined (ALiteral x xs) ys = ALiteral x (joined xs ys)

abbrev pub all_before : Evaluated Literals → Evaluated Literals → Evaluated Literals
all_before a b = on_two (λ xs ys. comes_to (joined xs ys)) a b

abbrev pub value_before : Evaluated Literal → Evaluated Literals → Evaluated Literals
value_before a b = on_two (λ l all. comes_to (ALiteral l all)) a b

last_joined : (xs : Literals) (l : Literal) (ys : Literals) → joined (and_last xs l) ys ≡ joined xs (ALiteral l ys)
last_joined NoLiteral l ys = refl
last_joined (ALiteral x xs) l ys = ap (ALiteral x) (last_joined xs l ys)

pub one_value : (done : Evaluated Literals) (v : Evaluated Literal) (rest : Evaluated Literals)
    → all_before (on_two and_value done v) rest ≡ all_before done (value_before v rest)
one_value varies v rest = refl
one_value traps varies rest = refl
one_value traps traps varies = refl
one_value traps traps traps = refl
one_value traps traps (comes_to r) = refl
one_value traps (comes_to l) varies = refl
one_value traps (comes_to l) traps = refl
one_value traps (comes_to l) (comes_to r) = refl
one_value (comes_to a) varies rest = refl
one_value (comes_to a) traps varies = refl
one_value (comes_to a) traps traps = refl
one_value (comes_to a) traps (comes_to r) = refl
one_value (comes_to a) (comes_to l) varies = refl
one_value (comes_to a) (comes_to l) traps = refl
one_value (comes_to a) (comes_to l) (comes_to r) = ap comes_to (last_joined a l r)

joined_none : (xs : Literals) → joined xs NoLiteral ≡ xs
joined_none NoLiteral = refl
joined_none (ALiteral x xs) = ap (ALiteral x) (joined_none xs)

pub values_all : (done : Evaluated Literals) → all_before done (comes_to NoLiteral) ≡ done
values_all varies = refl
values_all traps = refl
values_all (comes_to a) = ap comes_to (joined_none a)

-- the value of an operand before those of others
pub one_valued : (facts : Facts) (ts : List Ty) (a : RustArgument) (rest : Args)
    → values_in facts (operand_before ts a rest) ≡ value_before (value_of facts ts a) (values_in facts rest)
one_valued facts ts (argument.Value e) rest = refl
one_valued facts ts (argument.At path) rest = refl

-- ---- before any

pub first_values : (all : Evaluated Literals) → all_before (comes_to NoLiteral) all ≡ all
first_values varies = refl
first_values traps = refl
first_values (comes_to a) = refl

-- ---- literals

-- a text has a limit
pub literal_by : (l : Literal) (b : Bool) → is_text l ≡ b → of_literal l ≡ (if b then limited l else comes_to l)
literal_by (Number z) true h = absurd (both_ways false refl h)
literal_by (Number z) false h = refl
literal_by (Characters bytes) true h = refl
literal_by (Characters bytes) false h = absurd (both_ways true h refl)
literal_by NoObject true h = absurd (both_ways false refl h)
literal_by NoObject false h = refl
literal_by (PartsOf all) true h = absurd (both_ways false refl h)
literal_by (PartsOf all) false h = refl
literal_by (ElementsOf all) true h = absurd (both_ways false refl h)
literal_by (ElementsOf all) false h = refl

-- ---- one value alone, and two

-- one behind others isn't alone
pub not_alone : (go : Literal → Evaluated Literal) (xs : List RustLiteral) (w : RustLiteral) → 0 < length xs
    → alone go (literals_of (xs ++ w ∷ [])) ≡ varies
not_alone go [] w h = absurd (omega (arith, h))
not_alone go (x ∷ []) w h = refl
not_alone go (x ∷ y ∷ xs) w h = refl

abbrev pub behind_one : (Literal → Literal → Evaluated Literal) → RustLiteral → Literal → Evaluated Literal
behind_one go w l = go l (literal_of w)

pub pair_last : (go : Literal → Literal → Evaluated Literal) (xs : List RustLiteral) (w : RustLiteral)
    → in_pair go (literals_of (xs ++ w ∷ [])) ≡ alone (behind_one go w) (literals_of xs)
pair_last go [] w = refl
pair_last go (x ∷ []) w = refl
pair_last go (x ∷ y ∷ []) w = refl
pair_last go (x ∷ y ∷ z ∷ xs) w = refl

-- where the left one alone may be none
pub behind_is : (go : Literal → Literal → Evaluated Literal) (w : RustLiteral) (a : Evaluated Literal)
    → on_one (behind_one go w) a ≡ on_two go a (comes_to (literal_of w))
behind_is go w (comes_to l) = refl
behind_is go w traps = refl
behind_is go w varies = refl
