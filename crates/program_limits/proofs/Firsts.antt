-- The first nodes of parts, put together.
use Rattle.std.proofs.Common.{◌≡◌, ℕ, Bool, true, false, List, [], ◌∷◌, ◌++◌, refl, sym, ap, ◌∙◌, arith, Option, Some, None}
use Rattle.std.proofs.lemmas.Bool.{ltb-true, ltb-false, lt-ltb, le-ltb}
use Rattle.std.specs.Prelude.{nat_lt, ◌||◌}
use Rattle.nim_types.specs.Types.{Facts}
use Rattle.nim_program.specs.declared.expr.Node.{Node}
use Rattle.nim_program.specs.Program.{Expr, Declared, Stmt, Stmts, Then}
use Rattle.nim_meaning.specs.Unbuilt.{is_unbuilt}
use Rattle.nim_meaning.specs.LeftOut.{out_if, ◌or_then◌, left_out_in, left_out_in_stmt, left_out_in_block, left_out_in_head, earlier}
use Rattle.program_limits.specs.Frames.{is_deep, deep_place}

pub or_false : (b : Bool) → (b || false) ≡ b
or_false true = refl
or_false false = refl

pub or_nothing : (x : Option Node) → (x or_then None) ≡ x
or_nothing None = refl
or_nothing (Some n) = refl

pub or_assoc : (x y z : Option Node) → ((x or_then y) or_then z) ≡ (x or_then (y or_then z))
or_assoc None y z = refl
or_assoc (Some n) y z = refl

-- an expression that is known
pub out_as : (facts : Facts) (whole known : Expr) (r : Option Node) → whole ≡ known → r ≡ left_out_in facts known → r ≡ left_out_in facts whole
out_as facts whole known r e f = f ∙ sym (ap (left_out_in facts) e)

-- a statement that is known
pub stmt_out : (facts : Facts) (whole rest : Stmts) (known : Stmt) (r : Option Node) → whole ≡ Then known rest → r ≡ left_out_in_stmt facts known →
    left_out_in_block facts whole ≡ (r or_then left_out_in_block facts rest)
stmt_out facts whole rest known r e f = ap (left_out_in_block facts) e ∙ ap (λ x. x or_then left_out_in_block facts rest) (sym f)

-- ---- heads

pub head_append : (facts : Facts) (n : ℕ) (some more : List Declared) →
    left_out_in_head facts n (some ++ more) ≡ (left_out_in_head facts n some or_then left_out_in_head facts n more)
head_append facts n [] more = refl
head_append facts n (place ∷ places) more =
    let first = out_if (is_unbuilt facts place.of) (record { number = n; at = place.at }) in
    ap (λ x. first or_then x) (head_append facts n places more) ∙ sym (or_assoc first (left_out_in_head facts n places) (left_out_in_head facts n more))

pub deep_append : (facts : Facts) (n : ℕ) (some more : List Declared) →
    deep_place facts n (some ++ more) ≡ (deep_place facts n some or_then deep_place facts n more)
deep_append facts n [] more = refl
deep_append facts n (place ∷ places) more =
    let first = out_if (is_deep facts place.of) (record { number = n; at = place.at }) in
    ap (λ x. first or_then x) (deep_append facts n places more) ∙ sym (or_assoc first (deep_place facts n places) (deep_place facts n more))

-- ---- the earlier of several

pub earlier_none : (x : Option Node) → earlier x None ≡ x
earlier_none None = refl
earlier_none (Some n) = refl

abbrev one_of : Bool → Node → Node → Option Node
one_of b x y = out_if b x or_then Some y

three : (a b c : Node) (p q : Bool) → nat_lt a.number b.number ≡ p → nat_lt b.number c.number ≡ q →
    earlier (one_of p a b) (Some c) ≡ earlier (Some a) (one_of q b c)
three a b c true true e f =
    let lt = lt-ltb a.number c.number (omega (arith, ltb-true a.number b.number e, ltb-true b.number c.number f)) in
    ap (λ s. one_of s a c) lt ∙ sym (ap (λ s. one_of s a b) e)
three a b c true false e f = refl
three a b c false true e f = ap (λ s. one_of s b c) f ∙ sym (ap (λ s. one_of s a b) e)
three a b c false false e f =
    let le = le-ltb a.number c.number (omega (arith, ltb-false a.number b.number e, ltb-false b.number c.number f)) in
    ap (λ s. one_of s b c) f ∙ sym (ap (λ s. one_of s a c) le)

pub earlier_assoc : (x y z : Option Node) → earlier (earlier x y) z ≡ earlier x (earlier y z)
earlier_assoc None y z = refl
earlier_assoc (Some a) None z = refl
earlier_assoc (Some a) (Some b) None = earlier_none (earlier (Some a) (Some b))
earlier_assoc (Some a) (Some b) (Some c) =
    three a b c (nat_lt a.number b.number) (nat_lt b.number c.number) refl refl
