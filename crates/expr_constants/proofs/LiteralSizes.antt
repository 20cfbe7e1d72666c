-- Sizes of values of constants, which stop at the most.
use Rattle.std.proofs.Common.{◌≡◌, ℕ, zero, suc, ◌+◌, ◌<◌, ◌≤◌, List, Vec, Global, refl, sym, ap, ◌∙◌, arith, min}
use Rattle.nim_types.specs.Forms.{or_word}
use Rattle.nim_types.specs.declared.types.TheConstants.{LIST_BYTES}
use Rattle.nim_program.specs.declared.expr.Literal.{Literal}
use Rattle.nim_program.specs.declared.expr.Literal.TheVariants as V
use Rattle.nim_program.specs.View.{literal_of, literals_of}
use Rattle.expr_rules.specs.Literals.{literal_bytes, part_bytes, all_bytes}
use Rattle.expr_constants.specs.ViewConstants.{most}
use Rattle.nim_program.proofs.ForCallers.{parts_of, elements_of}

or_word_same : (n : ℕ) → 0 < n → or_word n ≡ n
or_word_same zero h = absurd (omega (arith, h))
or_word_same (suc n) h = refl

or_word_min : (n : ℕ) → or_word (min n most) ≡ min (or_word n) most
or_word_min zero = refl
or_word_min (suc n) = or_word_same (min (suc n) most) (omega arith)

list_min : (n a b : ℕ) → a ≡ min (LIST_BYTES + b) most → b ≡ min n most → a ≡ min (LIST_BYTES + n) most
list_min n a b h g = omega (arith, h, g)

pub one_part : (bytes part n rest : ℕ) → part ≡ min n most → min (min (bytes + part) most + rest) most ≡ min (bytes + (n + rest)) most
one_part bytes part n rest e = omega (arith, e)

pub no_part : (bytes : ℕ) → bytes ≤ most → bytes ≡ min (bytes + 0) most
no_part bytes h = omega (arith, h)

pub parts_bytes : (a b : ℕ) (all : Vec Literal Global) (l : Literal) (xs : List Literal) → a ≡ or_word b → b ≡ min (all_bytes (literals_of xs)) most
    → xs ≡ all.items → l ≡ V.Parts all → a ≡ min (part_bytes (literal_of l)) most
parts_bytes a b all l xs h g e is =
    h ∙ ap or_word g ∙ or_word_min (all_bytes (literals_of xs)) ∙ ap (λ z. min (or_word (all_bytes (literals_of z))) most) e
    ∙ sym (ap (λ z. min (part_bytes z) most) (ap literal_of is ∙ parts_of all))

pub elements_bytes : (a b : ℕ) (all : Vec Literal Global) (l : Literal) (xs : List Literal) → a ≡ min (LIST_BYTES + b) most
    → b ≡ min (all_bytes (literals_of xs)) most → xs ≡ all.items → l ≡ V.Elements all → a ≡ min (part_bytes (literal_of l)) most
elements_bytes a b all l xs h g e is =
    list_min (all_bytes (literals_of xs)) a b h g ∙ ap (λ z. min (LIST_BYTES + all_bytes (literals_of z)) most) e
    ∙ sym (ap (λ z. min (part_bytes z) most) (ap literal_of is ∙ elements_of all))

pub parts_alone : (a b : ℕ) (all : Vec Literal Global) (l : Literal) (xs : List Literal) → a ≡ or_word b → b ≡ min (all_bytes (literals_of xs)) most
    → xs ≡ all.items → l ≡ V.Parts all → a ≡ min (literal_bytes (literal_of l)) most
parts_alone a b all l xs h g e is =
    h ∙ ap or_word g ∙ or_word_min (all_bytes (literals_of xs)) ∙ ap (λ z. min (or_word (all_bytes (literals_of z))) most) e
    ∙ sym (ap (λ z. min (literal_bytes z) most) (ap literal_of is ∙ parts_of all))

pub elements_alone : (b : ℕ) (all : Vec Literal Global) (l : Literal) (xs : List Literal) → b ≡ min (all_bytes (literals_of xs)) most
    → xs ≡ all.items → l ≡ V.Elements all → b ≡ min (literal_bytes (literal_of l)) most
elements_alone b all l xs g e is =
    g ∙ ap (λ z. min (all_bytes (literals_of z)) most) e ∙ sym (ap (λ z. min (literal_bytes z) most) (ap literal_of is ∙ elements_of all))
