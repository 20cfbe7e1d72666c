-- How many levels there are.
use Rattle.std.proofs.Common.{◌≡◌, ℕ, suc, ◌<◌, List, Bool, true, false, sym, ap, arith}
use Rattle.std.specs.Prelude.{Some, max}
use Rattle.arc_base.specs.declared.place.Place.{Place}
use Rattle.indent_scanner.specs.declared.token.Token.{Token}
use Rattle.indent_scanner.specs.declared.token.Key.TheVariants as K
use Rattle.indent_scanner.specs.declared.token.Tok.{Tok}
use Rattle.indent_scanner.specs.declared.token.Tok.TheVariants as T
use Rattle.nim_tree.specs.Terms.{Term, int, char, text, name, quoted, nil, paren, tuple, array, sequence, construct, named, field, call, index, unary, binary}
use Rattle.nim_tree.specs.Terms.{if_term, case_term, case_else, range, Parts, no_parts, part, and_part, Choices, no_choices, choice, and_choice, levels}
use Rattle.nim_tree.specs.Terms.{most_levels, levels_in}
use Rattle.parse_exprs.specs.declared.input.Bracket.{Bracket}
use Rattle.parse_exprs.specs.declared.input.Bracket.TheVariants.{Round, Square}
use Rattle.parse_exprs.specs.Look.{Origin, spelling, place_at, single_of, single, grouped, applied}

pub some_level : (t : Term) → 0 < levels t
some_level (int at v) = omega arith
some_level (char at v) = omega arith
some_level (text at s) = omega arith
some_level (name at s) = omega arith
some_level (quoted at s) = omega arith
some_level (nil at) = omega arith
some_level (paren at a) = omega arith
some_level (tuple at ps) = omega arith
some_level (array at ps) = omega arith
some_level (sequence at ps) = omega arith
some_level (construct at s ps) = omega arith
some_level (named at s a) = some_level a
some_level (field at a s) = omega arith
some_level (call at a ps) = omega arith
some_level (index at a ps) = omega arith
some_level (unary at op a) = omega arith
some_level (binary at op a b) = omega arith
some_level (if_term at cs a) = omega arith
some_level (case_term at a cs) = omega arith
some_level (case_else at a cs b) = omega arith
some_level (range at a b) = let h = some_level a in omega (arith, h)

pub most_and : (ps : Parts) (a : Term) → most_levels (and_part ps a) ≡ max (most_levels ps) (levels a)
most_and no_parts a = omega arith
most_and (part b ps) a = let h = most_and ps a in omega (arith, h)

pub levels_and : (cs : Choices) (at : Place) (tests : Parts) (a : Term) → levels_in (and_choice cs at tests a) ≡ max (levels_in cs)
    (max (most_levels tests) (levels a))
levels_and no_choices at tests a = omega arith
levels_and (choice p ps b cs) at tests a = let h = levels_and cs at tests a in omega (arith, h)

unsome : {A : Type 0} {a b : A} → Some a ≡ Some b → a ≡ b
unsome e = cc

-- a token alone is of one level
single_level_of : (at : Place) (bytes : List ℕ) (k : Tok) (t : Term) → single_of at bytes k ≡ Some t → levels t ≡ 1
single_level_of at bytes (T.Int value) t e = ap levels (sym (unsome e))
single_level_of at bytes (T.Char value) t e = ap levels (sym (unsome e))
single_level_of at bytes T.Text t e = ap levels (sym (unsome e))
single_level_of at bytes T.Name t e = ap levels (sym (unsome e))
single_level_of at bytes T.Quoted t e = ap levels (sym (unsome e))
single_level_of at bytes (T.Key K.Nil) t e = ap levels (sym (unsome e))
single_level_of at bytes (T.Key _) t e = cc
single_level_of at bytes _ t e = cc

pub single_level : (x : Origin) (tok : Token) (t : Term) → single x tok ≡ Some t → levels t ≡ 1
single_level x tok t e = single_level_of (place_at x tok) (spelling x tok) tok.kind t e

pub grouped_levels : (b : Bracket) (m : Bool) (at : Place) (ps : Parts) (t : Term) → grouped b m at ps ≡ Some t → levels t ≡ suc (most_levels ps)
grouped_levels Square m at ps t e = ap levels (sym (unsome e))
grouped_levels Round true at no_parts t e = cc
grouped_levels Round true at (part a ps) t e = ap levels (sym (unsome e))
grouped_levels Round false at no_parts t e = cc
grouped_levels Round false at (part a no_parts) t e = let h = ap levels (sym (unsome e)) in omega (arith, h)
grouped_levels Round false at (part a (part b ps)) t e = ap levels (sym (unsome e))

pub applied_levels : (b : Bracket) (m : Bool) (a : Term) (ps : Parts) (t : Term) → applied b m a ps ≡ Some t → levels t ≡ suc (max (levels a) (most_levels ps))
applied_levels Square m a ps t e = ap levels (sym (unsome e))
applied_levels Round false a ps t e = ap levels (sym (unsome e))
applied_levels Round true (name at s) no_parts t e = cc
applied_levels Round true (name at s) (part b ps) t e = let h = ap levels (sym (unsome e)) in let g = some_level b in omega (arith, h, g)
applied_levels Round true _ ps t e = cc
