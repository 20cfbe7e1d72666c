-- What folds have in common, whatever is put together.
use Rattle.std.proofs.Common.{◌≡◌, ℕ, List, [], ◌∷◌, ◌++◌, length, max, Bool, true, false, Option, Some, None, refl, ap, ap₂, subst, ◌∙◌, arith, length-append}
use Rattle.nim_types.specs.Types.{Ty}
use Rattle.nim_program.specs.declared.expr.Node.{Node}
use Rattle.nim_program.specs.Program.{Literal, Doing, Building, Giving, Calling, Expr, Apply, Read, Early, Choose, Path, Variable, Fresh, Field, Element, Deref}
use Rattle.nim_program.specs.Program.{Args, NoArg, ByValue, ByPath, Declared, Stmts, node_of, type_of, type_at, is_written, constant_in}
use Rattle.nim_program.specs.Folds.{Step, Named, Standing, Begun, ToField, ToElement, ToObject, Acting, Leading, Seen, valued, led, if_constant, begun_by}
use Rattle.nim_program.specs.Folds.{Sum, together, in_turn, total, total_at, totals, total_of}
use Rattle.nim_program.specs.Folds.{numbers, capped, capped_numbers, lists, greatest, greatest_of, own_places}
use Rattle.nim_program.proofs.FoldRelations.{InExprs, in_expr, in_path, in_args, Relates, related, related_at, related_all, related_of}

-- one before all others
pub one_first : {A : Type 0} (sum : Sum A) (x : A) (ys : List A) → in_turn sum (x ∷ []) ys ≡ sum.plus x (together sum ys)
one_first sum x [] = refl
one_first sum x (y ∷ ys) = refl

-- what keeps none and plus
pub record Maps {A B : Type 0} (a : Sum A) (b : Sum B) (f : A → B) : Type 0 where
  pub none : f a.none ≡ b.none
  pub plus : (x y : A) → f (a.plus x y) ≡ b.plus (f x) (f y)

-- A fold of what all parts are taken to is what their fold is taken to.
module _ {A B : Type 0} (a : Sum A) (b : Sum B) (f : A → B) (maps : Maps a b f) (own : Seen → A) where
  abbrev To : A → B → Type 0
  To x u = f x ≡ u

  abbrev taken : Seen → B
  taken seen = f (own seen)

  by_parts : Relates a b own taken To
  by_parts = record { none = maps.none; plus = λ x y u v h g. maps.plus x y ∙ ap₂ b.plus h g; own = λ seen. refl }

  pub mapped : (e : Expr) → f (total a own e) ≡ total b taken e
  mapped e = related a b own taken To by_parts e

  pub mapped_at : (read : Bool) (path : Path) → f (total_at a own read path) ≡ total_at b taken read path
  mapped_at read path = related_at a b own taken To by_parts read path

  pub all_mapped : (args : Args) → f (totals a own args) ≡ totals b taken args
  all_mapped args = related_all a b own taken To by_parts args

  pub mapped_of : (block : Stmts) → f (total_of a own block) ≡ total_of b taken block
  mapped_of block = related_of a b own taken To by_parts block

-- numbers as far as they matter
pub capping : (most : ℕ) → Maps numbers (capped_numbers most) (capped most)
capping most = record { none = omega arith; plus = λ x y. omega arith }

-- as many as a list has
pub counted : {A : Type 0} → Maps (lists {A = A}) numbers length
counted = record { none = refl; plus = length-append }

greatest_both : (xs ys : List ℕ) → greatest_of (xs ++ ys) ≡ max (greatest_of xs) (greatest_of ys)
greatest_both [] ys = omega arith
greatest_both (x ∷ xs) ys = ap (max x) (greatest_both xs ys) ∙ omega arith

pub greatest_maps : Maps lists greatest greatest_of
greatest_maps = record { none = refl; plus = greatest_both }

-- whether a path is read makes no difference where it makes none to its last part
module _ {A : Type 0} (sum : Sum A) (own : Seen → A)
    (at_node : (node : Node) (ty : Option Ty) (written : Bool) (step : Step) →
    own (valued node ty (Leading true written step)) ≡ own (valued node ty (Leading false written step)))
    (at_none : (ty : Option Ty) (written : Bool) (step : Step) → own (led ty true written step) ≡ own (led ty false written step)) where
  from_constant : (constant : Option Literal) (value : Expr) →
      if_constant constant (own (begun_by constant true value)) (sum.plus (own (begun_by constant true value)) (total sum own value))
      ≡ if_constant constant (own (begun_by constant false value)) (sum.plus (own (begun_by constant false value)) (total sum own value))
  from_constant None value = ap (λ r. sum.plus r (total sum own value)) (at_none (type_of value) false Begun)
  from_constant (Some literal) value = at_node (node_of value) (type_of value) false (Standing literal)

  pub either_way : (path : Path) → total_at sum own true path ≡ total_at sum own false path
  either_way (Variable node ty place global) = at_node node (Some ty) true (Named place global)
  either_way (Fresh value) = from_constant (constant_in value) value
  either_way (Field node ty base field) =
      ap (λ r. sum.plus r (total_at sum own false base)) (at_node node (Some ty) (is_written base) (ToField field))
  either_way (Element node ty base index constant) =
      ap (λ r. sum.plus r (sum.plus (total_at sum own false base) (total sum own index))) (at_node node (Some ty) (is_written base) (ToElement constant))
  either_way (Deref ty base) = ap (λ r. sum.plus r (total_at sum own false base)) (at_none (Some ty) true ToObject)

-- A path that is a fresh value is as the value, where the place that it begins at is nothing beside it.
module _ {A : Type 0} (sum : Sum A) (own : Seen → A)
    (nothing_beside : (ty : Option Ty) (read : Bool) (x : A) → sum.plus (own (led ty read false Begun)) x ≡ x)
    (same_constant : (node : Node) (ty : Option Ty) (read : Bool) (literal : Literal) →
    own (valued node ty (Leading read false (Standing literal))) ≡ sum.plus (own (valued node ty (Acting (Giving literal)))) sum.none) where
  pub fresh_same : (read : Bool) (value : Expr) → total_at sum own read (Fresh value) ≡ total sum own value
  fresh_same read (Apply node ty (Giving literal) NoArg) = same_constant node ty read literal
  fresh_same read (Apply node ty (Giving literal) (ByValue value rest)) = nothing_beside ty read _
  fresh_same read (Apply node ty (Giving literal) (ByPath path rest)) = nothing_beside ty read _
  fresh_same read (Apply node ty (Doing operation) operands) = nothing_beside ty read _
  fresh_same read (Apply node ty (Building fields) operands) = nothing_beside ty read _
  fresh_same read (Apply node ty (Calling proc types) operands) = nothing_beside ty read _
  fresh_same read (Read path) = nothing_beside (type_at path) read _
  fresh_same read (Early node ty short left right) = nothing_beside (Some ty) read _
  fresh_same read (Choose node ty chooser parts) = nothing_beside ty read _

-- What is so of all that is listed where a path begins with a value is so of what is listed in the value.
module _ {A : Type 0} (own : Seen → List A)
    (same_constant : (node : Node) (ty : Option Ty) (read : Bool) (literal : Literal) →
    own (valued node ty (Leading read false (Standing literal))) ≡ own (valued node ty (Acting (Giving literal))))
    (P : List A → Type 0) (behind : (xs ys : List A) → P (xs ++ ys) → P ys) (alone : (xs : List A) → P xs → P (xs ++ [])) where
  pub in_fresh : (read : Bool) (value : Expr) → P (total_at lists own read (Fresh value)) → P (total lists own value)
  in_fresh read (Apply node ty (Giving literal) NoArg) h = alone _ (subst P (same_constant node ty read literal) h)
  in_fresh read (Apply node ty (Giving literal) (ByValue value rest)) h = behind (own (led ty read false Begun)) _ h
  in_fresh read (Apply node ty (Giving literal) (ByPath path rest)) h = behind (own (led ty read false Begun)) _ h
  in_fresh read (Apply node ty (Doing operation) operands) h = behind (own (led ty read false Begun)) _ h
  in_fresh read (Apply node ty (Building fields) operands) h = behind (own (led ty read false Begun)) _ h
  in_fresh read (Apply node ty (Calling proc types) operands) h = behind (own (led ty read false Begun)) _ h
  in_fresh read (Read path) h = behind (own (led (type_at path) read false Begun)) _ h
  in_fresh read (Early node ty short left right) h = behind (own (led (Some ty) read false Begun)) _ h
  in_fresh read (Choose node ty chooser parts) h = behind (own (led ty read false Begun)) _ h

-- ---- expressions declare no places

abbrev NoPlace : List Declared → List Declared → Type 0
NoPlace xs ys = xs ≡ []

no_places : InExprs lists lists own_places own_places NoPlace
no_places = record {
  none = refl;
  plus = λ x y u v h g. ap (λ zs. zs ++ y) h ∙ g;
  node = λ node ty part. refl;
  beside = λ ty read written step. refl;
}

pub declares_none : (e : Expr) → total lists own_places e ≡ []
declares_none e = in_expr lists lists own_places own_places NoPlace no_places e

pub path_declares_none : (read : Bool) (path : Path) → total_at lists own_places read path ≡ []
path_declares_none read path = in_path lists lists own_places own_places NoPlace no_places read path

pub all_declare_none : (args : Args) → totals lists own_places args ≡ []
all_declare_none args = in_args lists lists own_places own_places NoPlace no_places args
