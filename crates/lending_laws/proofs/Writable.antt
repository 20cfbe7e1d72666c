-- What rules have tested to be writable, and which built-in operations read in place.
use Rattle.std.proofs.Common.{◌≡◌, ℕ, Bool, true, false, List, [], ◌∷◌, refl}
use Rattle.nim_types.specs.Types.{same_text}
use Rattle.nim_program.specs.declared.operation.Operation.{Operation}
use Rattle.nim_program.specs.declared.operation.Operation.TheVariants as operation
use Rattle.expr_rules.specs.Answers.{Valued, place_in}
use Rattle.expr_rules.specs.Builtins.{BuiltIn, on_one, in_place, if_operation, operations_in, operations, operations_named, write_by, write_rule, writes_rule}
use Rattle.lending_laws.proofs.Sure.{Sure, s_ok, s_err, sure_then, sure_as}

-- ---- what may be written

pub write_sure : (v : Valued) → Sure (λ u. v.writable ≡ true) (write_rule v)
write_sure v = by_test v.writable refl
  where
    by_test : (b : Bool) → v.writable ≡ b → Sure (λ u. v.writable ≡ true) (write_by b (place_in v.expr))
    by_test true e = s_ok e
    by_test false e = s_err

abbrev pub EachWritable : List Valued → Type 0
EachWritable [] = Unit {0}
EachWritable (v ∷ vs) = (v.writable ≡ true) × EachWritable vs

pub writes_sure : (vs : List Valued) → Sure (λ u. EachWritable vs) (writes_rule vs)
writes_sure [] = s_ok tt
writes_sure (v ∷ vs) = sure_then (write_sure v) (λ u e. sure_as (λ w h. (e, h)) (writes_sure vs))

-- ---- what is read in place

abbrev pub measures : Operation → Bool
measures (operation.Measure measure) = true
measures _ = false

abbrev pub RowFine : BuiltIn → Type 0
RowFine (on_one in_place gives o) = measures o ≡ true
RowFine _ = Unit {0}

abbrev pub AllRowsFine : List BuiltIn → Type 0
AllRowsFine [] = Unit {0}
AllRowsFine (row ∷ rest) = RowFine row × AllRowsFine rest

abbrev EachFine : List (List ℕ × List BuiltIn) → Type 0
EachFine [] = Unit {0}
EachFine (row ∷ rest) = AllRowsFine row.1 × EachFine rest

table_fine : EachFine operations
table_fine = (
  (refl, tt),
  (
    (refl, (tt, tt)),
    (
      (tt, tt),
      (
        (tt, tt),
        (
          (tt, tt),
          (
            (tt, tt),
            (
              (tt, (tt, tt)),
              (
                (tt, (tt, tt)),
                (
                  (tt, (tt, tt)),
                  ((tt, tt), ((tt, tt), ((tt, tt), ((tt, tt), ((tt, tt), ((tt, (tt, tt)), ((tt, (tt, tt)), tt))))))),
                ),
              ),
            ),
          ),
        ),
      ),
    ),
  ),
)

fine_in : (x : List ℕ) (rows : List (List ℕ × List BuiltIn)) → EachFine rows → AllRowsFine (operations_in x rows)
fine_in x [] h = tt
fine_in x (row ∷ rest) h = by_name (same_text x row.0) (fine_in x rest h.1)
  where
    by_name : (b : Bool) → AllRowsFine (operations_in x rest) → AllRowsFine (if_operation b row.1 (operations_in x rest))
    by_name true k = h.0
    by_name false k = k

pub rows_fine : (x : List ℕ) → AllRowsFine (operations_named x)
rows_fine x = fine_in x operations table_fine
