-- Nodes of paths that are written, and of operations by their rows.
use Rattle.std.proofs.Common.{◌≡◌, List, [], ◌∷◌, Some, None, refl, sym, ap, ap₂, ◌∙◌, subst, ℕ, ◌<◌, length, arith}
use Rattle.std.specs.Prelude.{Bool, true, false, is_some, Option, option_map, map, Ok, Err, IfSome}
use Rattle.std.proofs.lemmas.Bool.{both_ways}
use Rattle.arc_base.specs.declared.place.Place.{Place}
use Rattle.arc_base.specs.declared.place.Code.TheVariants.{NotTyped}
use Rattle.arc_base.specs.declared.place.Stop.{Stop}
use Rattle.arc_base.specs.declared.place.Stop.TheVariants as stop
use Rattle.arc_base.specs.Refusal.{refused, and_then, Answers}
use Rattle.nim_types.specs.Types.{Ty, Facts}
use Rattle.nim_types.specs.declared.types.TypeDef.{TypeDef}
use Rattle.nim_program.specs.declared.expr.Node.{Node}
use Rattle.nim_program.specs.declared.expr.Expr.{Expr as RustExpr}
use Rattle.nim_types.specs.Table.{IsBelow}
use Rattle.nim_types.specs.Types as type
use Rattle.nim_program.specs.declared.operation.Operation.TheVariants as operation
use Rattle.nim_program.specs.Program.{Expr, Path, Apply, Doing}
use Rattle.nim_program.specs.Nodes.{one_path}
use Rattle.nim_program.specs.View.{expr_of, if_type}
use Rattle.expr_parts.specs.declared.scope.Kinds.{Kinds}
use Rattle.expr_parts.specs.declared.value.Operand.{Operand as RustOperand}
use Rattle.expr_operations.specs.declared.built_in.BuiltIn.TheVariants as built_in
use Rattle.expr_operations.specs.declared.built_in.Makes.{Makes}
use Rattle.expr_rules.specs.Answers.{Valued, Operand, value, open_sequence, a_type, the_input, only_if, place_in}
use Rattle.expr_rules.specs.Builtins.{Done, done, BuiltIn, on_nothing, on_one, on_place_and_value, on_places, on_type, on_input, on_input_and_place}
use Rattle.expr_rules.specs.Builtins.{on_operands, or_later, first_row, write_by, written_by, handed, with_type, with_value, settled_in, is_text, popped}
use Rattle.expr_rules.specs.Builtins.{writes_rule, written, operation_by, first_settled, joined_to, elements_of}
use Rattle.expr_rules.specs.Paths.{path_of}
use Rattle.expr_parts.specs.View.{Under, KindsIn, operand_of, no_fit_at}
use Rattle.expr_operations.specs.ViewOperations.{AreKinds, KindsBelow, rows_of, popped_type, pop_makes, done_by, hand_of}
use Rattle.expr_parts.proofs.ForCallers.{refuses}
use Rattle.expr_parts.proofs.ForCallers.{no_fit_is}
use Rattle.expr_parts.proofs.ForCallers.{int_under, bool_under, char_under, text_under, int_below, bool_below, char_below, text_below}

-- ---- paths that are written

-- one
pub writes_one : (v : Valued) (j : Path → Expr)
    → and_then (writes_rule (v ∷ [])) (λ _. Ok (j (path_of v.expr))) ≡ and_then (written v) (λ path. Ok (j path))
writes_one v j = by_test v.writable
  where
    by_test : (b : Bool)
        → and_then (and_then (write_by b (place_in v.expr)) (λ _. writes_rule [])) (λ _. Ok (j (path_of v.expr)))
        ≡ and_then (and_then (write_by b (place_in v.expr)) (λ _. Ok (path_of v.expr))) (λ path. Ok (j path))
    by_test true = refl
    by_test false = refl

-- two
pub writes_two : (v w : Valued) (j : Path → Path → Expr)
    → and_then (writes_rule (v ∷ w ∷ [])) (λ _. Ok (j (path_of v.expr) (path_of w.expr)))
    ≡ and_then (written v) (λ p. and_then (written w) (λ q. Ok (j p q)))
writes_two v w j = by_tests v.writable w.writable
  where
    by_tests : (a b : Bool)
        → and_then (and_then (write_by a (place_in v.expr)) (λ _. and_then (write_by b (place_in w.expr)) (λ _. writes_rule [])))
        (λ _. Ok (j (path_of v.expr) (path_of w.expr)))
        ≡ and_then (and_then (write_by a (place_in v.expr)) (λ _. Ok (path_of v.expr)))
        (λ p. and_then (and_then (write_by b (place_in w.expr)) (λ _. Ok (path_of w.expr))) (λ q. Ok (j p q)))
    by_tests true true = refl
    by_tests true false = refl
    by_tests false true = refl
    by_tests false false = refl

-- ---- rows

-- what a row makes of a value, where it gives a value of the type or none
abbrev pub row_makes : Node → Valued → Makes → Option Ty → Done
row_makes n v m ty = done (written_by (hand_of m.hand) v) (Apply n ty (Doing m.operation) (handed (hand_of m.hand) v))

only_map : (ts : List Ty) (n : Node) (v : Valued) (m : Makes) (b : Bool)
    → or_later (with_type (only_if b (if_type ts m.ty)) (row_makes n v m)) None ≡ option_map (done_by ts n v) (only_if b m)
only_map ts n v m true = refl
only_map ts n v m false = refl

-- what a row gives where its test holds
pub row_if : (ts : List Ty) (n : Node) (v : Valued) (m : Makes) (given : Option Ty) (a b : Bool) (r : Option Makes) → a ≡ b → given ≡ if_type ts m.ty
    → r ≡ only_if b m → or_later (with_type (only_if a given) (row_makes n v m)) None ≡ option_map (done_by ts n v) r
row_if ts n v m given a b r p q e =
    ap₂ (λ x g. or_later (with_type (only_if x g) (row_makes n v m)) None) p q ∙ only_map ts n v m b ∙ ap (option_map (done_by ts n v)) (sym e)

-- operands that some row takes
takes : List Operand → Bool
takes [] = true
takes (value v ∷ []) = true
takes (value v ∷ o ∷ []) = true
takes (a_type t ∷ []) = true
takes (the_input ∷ []) = true
takes (the_input ∷ value v ∷ []) = true
takes _ = false

row_takes : (n : Node) (row : BuiltIn) (os : List Operand) → takes os ≡ false → on_operands n row os ≡ None
unfolding takes
row_takes n (on_nothing o) [] h = absurd (both_ways true h refl)
row_takes n (on_one hand gives o) (value v ∷ []) h = absurd (both_ways true h refl)
row_takes n (on_place_and_value goes o) (value v ∷ w ∷ []) h = absurd (both_ways true h refl)
row_takes n (on_places o) (value v ∷ value w ∷ []) h = absurd (both_ways true h refl)
row_takes n (on_type gives act) (a_type t ∷ []) h = absurd (both_ways true h refl)
row_takes n (on_input ty o) (the_input ∷ []) h = absurd (both_ways true h refl)
row_takes n (on_input_and_place test ty o) (the_input ∷ value v ∷ []) h = absurd (both_ways true h refl)
row_takes n row os h = refl

rows_take : (n : Node) (rows : List BuiltIn) (os : List Operand) → takes os ≡ false → first_row n rows os ≡ None
rows_take n [] os h = refl
rows_take n (row ∷ rest) os h = ap (λ d. or_later d (first_row n rest os)) (row_takes n row os h) ∙ rows_take n rest os h

three : (a b c : Operand) (rest : List Operand) → takes (a ∷ b ∷ c ∷ rest) ≡ false
unfolding takes
three (value v) b c rest = refl
three (open_sequence p k) b c rest = refl
three (a_type t) b c rest = refl
three the_input (value v) c rest = refl
three the_input (open_sequence p k) c rest = refl
three the_input (a_type t) c rest = refl
three the_input the_input c rest = refl

-- of more than two
pub many_rows : (ts : List Ty) (n : Node) (rows : List BuiltIn) (os : List RustOperand) → 2 < length os
    → first_row n rows (map (operand_of ts) os) ≡ None
many_rows ts n rows [] h = absurd (omega (arith, h))
many_rows ts n rows (a ∷ []) h = absurd (omega (arith, h))
many_rows ts n rows (a ∷ b ∷ []) h = absurd (omega (arith, h))
many_rows ts n rows (a ∷ b ∷ c ∷ rest) h =
    rows_take n rows (map (operand_of ts) (a ∷ b ∷ c ∷ rest)) (three (operand_of ts a) (operand_of ts b) (operand_of ts c) (map (operand_of ts) rest))

-- behind what no row takes
pub open_rows : (n : Node) (rows : List BuiltIn) (p : Place) (k : ℕ) (os : List Operand) → first_row n rows (open_sequence p k ∷ os) ≡ None
unfolding takes
open_rows n rows p k os = rows_take n rows (open_sequence p k ∷ os) refl

pub type_rows : (n : Node) (rows : List BuiltIn) (t : Ty) (o : Operand) → first_row n rows (a_type t ∷ o ∷ []) ≡ None
unfolding takes
type_rows n rows t o = rows_take n rows (a_type t ∷ o ∷ []) refl

-- where no row fits, the first operand without a type by itself is named, else the operation
pub misses : (ts : List Ty) (at place : Place) (os : List RustOperand) (d : Option Done) (s : Stop) → d ≡ None → no_fit_at at os ≡ place
    → s ≡ stop.Refused NotTyped place → Answers {T = RustExpr} (expr_of ts) (operation_by at (map (operand_of ts) os) d) (Err s)
misses ts at place os d s none e is =
    refuses (expr_of ts) (operation_by at (map (operand_of ts) os) d) NotTyped place s is
    (ap (operation_by at (map (operand_of ts) os)) none ∙ no_fit_is ts at os ∙ ap (λ p. refused NotTyped p) e)

-- ---- types that no source declares

pub are_kinds : {ds : List TypeDef} {ts : List Ty} {facts : Facts} {k : Kinds} → Under ds ts facts → KindsIn ds k → AreKinds ts k
are_kinds u h = record { int = int_under u h; bool = bool_under u h; char = char_under u h; text = text_under u h }

pub kinds_below : {ds : List TypeDef} {k : Kinds} → KindsIn ds k → KindsBelow (length ds) k
kinds_below h = record { int = int_below h; bool = bool_below h; char = char_below h; text = text_below h }

-- ---- an operand of one of two types

pub first_settles : (a b : Option Valued) → first_settled a (first_settled b None) ≡ first_settled a b
first_settles (Some v) b = refl
first_settles None (Some w) = refl
first_settles None None = refl

pub one_settles : (a : Option Valued) → first_settled a None ≡ a
one_settles (Some v) = refl
one_settles None = refl

-- ---- what is made

pub pop_row : (ts : List Ty) (n : Node) (v : Valued) (o : Option ℕ) → popped v.of ≡ popped_type ts o
    → first_row n (rows_of built_in.Pop) (value v ∷ []) ≡ option_map (done_by ts n v) (pop_makes o)
pop_row ts n v None e =
    ap (λ g. or_later (with_type g (λ ty. done (v ∷ []) (Apply n ty (Doing operation.Pop) (one_path (path_of v.expr))))) None) e
pop_row ts n v (Some i) e =
    ap (λ g. or_later (with_type g (λ ty. done (v ∷ []) (Apply n ty (Doing operation.Pop) (one_path (path_of v.expr))))) None) e

pub some_if : {A : Type 0} (P : A → Type 0) (b : Bool) (m : A) (r : Option A) → r ≡ only_if b m → P m → IfSome r P
some_if P true m r e p = subst (λ o. IfSome o P) (sym e) p
some_if P false m r e p = subst (λ o. IfSome o P) (sym e) tt

pub pop_within : (n : ℕ) (o : Option ℕ) (r : Option Makes) → r ≡ pop_makes o → IsBelow n o → IfSome r (λ m. IsBelow n m.ty)
pop_within n None r e h = subst (λ o. IfSome o (λ m. IsBelow n m.ty)) (sym e) tt
pop_within n (Some i) r e h = subst (λ o. IfSome o (λ m. IsBelow n m.ty)) (sym e) h

pub either_first : (a b : Option Valued) → is_some a ≡ true → first_settled a (first_settled b None) ≡ a
either_first (Some v) b h = refl
either_first None b h = absurd (both_ways false refl h)

pub either_second : (a b : Option Valued) → is_some a ≡ false → first_settled a (first_settled b None) ≡ b
either_second (Some v) b h = absurd (both_ways true h refl)
either_second None b h = one_settles b

-- ---- `add`: to a text, and to a sequence

abbrev pub add_rows : Ty → Operand → (f g : Valued → Done) → Option Done
add_rows t o f g = or_later (with_value (settled_in (joined_to t) o) f) (or_later (with_value (settled_in (elements_of t) o) g) None)

pub add_text : (t : Ty) (o : Operand) (f g : Valued → Done) → is_text t ≡ true
    → add_rows t o f g ≡ or_later (with_value (settled_in (joined_to t) o) f) None
add_text type.int o f g h = absurd (both_ways false refl h)
add_text type.bool o f g h = absurd (both_ways false refl h)
add_text type.char o f g h = absurd (both_ways false refl h)
add_text type.text o f g h = refl
add_text (type.sequence t) o f g h = absurd (both_ways false refl h)
add_text (type.array k t) o f g h = absurd (both_ways false refl h)
add_text (type.tuple names ts) o f g h = absurd (both_ways false refl h)
add_text (type.parameter k) o f g h = absurd (both_ways false refl h)
add_text (type.enum key) o f g h = absurd (both_ways false refl h)
add_text (type.object key ts) o f g h = absurd (both_ways false refl h)
add_text (type.distinct key) o f g h = absurd (both_ways false refl h)
add_text (type.ref name t) o f g h = absurd (both_ways false refl h)
add_text (type.exception key) o f g h = absurd (both_ways false refl h)

pub add_other : (t : Ty) (o : Operand) (f g : Valued → Done) → is_text t ≡ false
    → add_rows t o f g ≡ or_later (with_value (settled_in (elements_of t) o) g) None
add_other type.int o f g h = refl
add_other type.bool o f g h = refl
add_other type.char o f g h = refl
add_other type.text o f g h = absurd (both_ways true h refl)
add_other (type.sequence t) o f g h = refl
add_other (type.array k t) o f g h = refl
add_other (type.tuple names ts) o f g h = refl
add_other (type.parameter k) o f g h = refl
add_other (type.enum key) o f g h = refl
add_other (type.object key ts) o f g h = refl
add_other (type.distinct key) o f g h = refl
add_other (type.ref name t) o f g h = refl
add_other (type.exception key) o f g h = refl
