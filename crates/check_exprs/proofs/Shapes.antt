-- Terms that no rule but the last is for, and lists of one part or two.
use Rattle.std.proofs.Common.{◌≡◌, ℕ, suc, List, [], ◌∷◌, length, refl, sym, ap, arith, Vec, Box, Global, Option, Some, None}
use Rattle.std.proofs.lemmas.Bool.{false≢true}
use Rattle.std.proofs.lemmas.Bool.Decides.{nat_tests}
use Rattle.std.specs.Prelude.{false, nat_eq}
use Rattle.arc_base.specs.declared.place.Place.{Place}
use Rattle.nim_tree.specs.declared.expr.Choice.{Choice}
use Rattle.nim_tree.specs.declared.expr.Expr.{Expr as Tree}
use Rattle.nim_tree.specs.declared.expr.Expr.TheVariants as tree
use Rattle.nim_tree.specs.Terms as term
use Rattle.nim_tree.specs.Terms.{Term, Parts, no_parts, part, term_of, parts_of, choices_of, place_of}
use Rattle.nim_tree.proofs.ForCallers.{selected, selected_else}
use Rattle.nim_types.specs.Types.{Ty}
use Rattle.expr_rules.specs.Env.{Env}
use Rattle.expr_rules.specs.Answers.{Want, not_typed}
use Rattle.expr_rules.specs.Constructions.{part_count}
use Rattle.expr_rules.specs.Names.{is_single}
use Rattle.expr_rules.specs.Typed.{is_callee, is_range, is_type_term, is_pair, typed, read_type, read_array}
use Rattle.check_exprs.specs.ViewTyped.{conversion_said, label_said, one_label_said, test_said, case_by}

-- what can't be called
pub call_none : (env : Env) (want : Want) (n : ℕ) (at : Place) (a : Term) (ps : Parts) → is_callee a ≡ false
    → typed env want n (term.call at a ps) ≡ not_typed at
call_none env want n at (term.int b_at b_z) ps h = refl
call_none env want n at (term.char b_at b_z) ps h = refl
call_none env want n at (term.text b_at b_z) ps h = refl
call_none env want n at (term.name b_at b_z) ps h = absurd (false≢true (sym h))
call_none env want n at (term.quoted b_at b_z) ps h = absurd (false≢true (sym h))
call_none env want n at (term.nil b_at) ps h = refl
call_none env want n at (term.paren b_at b_a) ps h = refl
call_none env want n at (term.tuple b_at b_ps) ps h = refl
call_none env want n at (term.array b_at b_ps) ps h = refl
call_none env want n at (term.sequence b_at b_ps) ps h = refl
call_none env want n at (term.construct b_at b_x b_ps) ps h = refl
call_none env want n at (term.named b_at b_x b_a) ps h = refl
call_none env want n at (term.field b_at b_a b_x) ps h = absurd (false≢true (sym h))
call_none env want n at (term.call b_at b_a b_ps) ps h = refl
call_none env want n at (term.index p (term.int c_at c_z) given) ps h = refl
call_none env want n at (term.index p (term.char c_at c_z) given) ps h = refl
call_none env want n at (term.index p (term.text c_at c_z) given) ps h = refl
call_none env want n at (term.index p (term.name q x) given) ps h = absurd (false≢true (sym h))
call_none env want n at (term.index p (term.quoted c_at c_z) given) ps h = refl
call_none env want n at (term.index p (term.nil c_at) given) ps h = refl
call_none env want n at (term.index p (term.paren c_at c_a) given) ps h = refl
call_none env want n at (term.index p (term.tuple c_at c_ps) given) ps h = refl
call_none env want n at (term.index p (term.array c_at c_ps) given) ps h = refl
call_none env want n at (term.index p (term.sequence c_at c_ps) given) ps h = refl
call_none env want n at (term.index p (term.construct c_at c_x c_ps) given) ps h = refl
call_none env want n at (term.index p (term.named c_at c_x c_a) given) ps h = refl
call_none env want n at (term.index p (term.field c_at c_a c_x) given) ps h = refl
call_none env want n at (term.index p (term.call c_at c_a c_ps) given) ps h = refl
call_none env want n at (term.index p (term.index c_at c_a c_ps) given) ps h = refl
call_none env want n at (term.index p (term.unary c_at c_op c_a) given) ps h = refl
call_none env want n at (term.index p (term.binary c_at c_op c_a c_b) given) ps h = refl
call_none env want n at (term.index p (term.if_term c_at c_cs c_a) given) ps h = refl
call_none env want n at (term.index p (term.case_term c_at c_a c_cs) given) ps h = refl
call_none env want n at (term.index p (term.case_else c_at c_a c_cs c_b) given) ps h = refl
call_none env want n at (term.index p (term.range c_at c_a c_b) given) ps h = refl
call_none env want n at (term.unary b_at b_op b_a) ps h = refl
call_none env want n at (term.binary b_at b_op b_a b_b) ps h = refl
call_none env want n at (term.if_term b_at b_cs b_a) ps h = refl
call_none env want n at (term.case_term b_at b_a b_cs) ps h = refl
call_none env want n at (term.case_else b_at b_a b_cs b_b) ps h = refl
call_none env want n at (term.range b_at b_a b_b) ps h = refl

-- what spells no type
pub read_none : (env : Env) (a : Term) → is_type_term a ≡ false → read_type env a ≡ not_typed (place_of a)
read_none env (term.int at z) h = refl
read_none env (term.char at z) h = refl
read_none env (term.text at z) h = refl
read_none env (term.name at z) h = absurd (false≢true (sym h))
read_none env (term.quoted at z) h = refl
read_none env (term.nil at) h = refl
read_none env (term.paren at a) h = absurd (false≢true (sym h))
read_none env (term.tuple at ps) h = refl
read_none env (term.array at ps) h = refl
read_none env (term.sequence at ps) h = refl
read_none env (term.construct at x ps) h = refl
read_none env (term.named at x a) h = refl
read_none env (term.field at a x) h = refl
read_none env (term.call at a ps) h = refl
read_none env (term.index p (term.int c_at c_z) given) h = refl
read_none env (term.index p (term.char c_at c_z) given) h = refl
read_none env (term.index p (term.text c_at c_z) given) h = refl
read_none env (term.index p (term.name q x) given) h = absurd (false≢true (sym h))
read_none env (term.index p (term.quoted c_at c_z) given) h = refl
read_none env (term.index p (term.nil c_at) given) h = refl
read_none env (term.index p (term.paren c_at c_a) given) h = refl
read_none env (term.index p (term.tuple c_at c_ps) given) h = refl
read_none env (term.index p (term.array c_at c_ps) given) h = refl
read_none env (term.index p (term.sequence c_at c_ps) given) h = refl
read_none env (term.index p (term.construct c_at c_x c_ps) given) h = refl
read_none env (term.index p (term.named c_at c_x c_a) given) h = refl
read_none env (term.index p (term.field c_at c_a c_x) given) h = refl
read_none env (term.index p (term.call c_at c_a c_ps) given) h = refl
read_none env (term.index p (term.index c_at c_a c_ps) given) h = refl
read_none env (term.index p (term.unary c_at c_op c_a) given) h = refl
read_none env (term.index p (term.binary c_at c_op c_a c_b) given) h = refl
read_none env (term.index p (term.if_term c_at c_cs c_a) given) h = refl
read_none env (term.index p (term.case_term c_at c_a c_cs) given) h = refl
read_none env (term.index p (term.case_else c_at c_a c_cs c_b) given) h = refl
read_none env (term.index p (term.range c_at c_a c_b) given) h = refl
read_none env (term.unary at op a) h = refl
read_none env (term.binary at op a b) h = refl
read_none env (term.if_term at cs a) h = refl
read_none env (term.case_term at a cs) h = refl
read_none env (term.case_else at a cs b) h = refl
read_none env (term.range at a b) h = refl

-- a label by itself
pub label_plain : (env : Env) (ty : Ty) (a : Term) → is_range a ≡ false → label_said env ty a ≡ one_label_said env ty a
label_plain env ty (term.int at z) h = refl
label_plain env ty (term.char at z) h = refl
label_plain env ty (term.text at z) h = refl
label_plain env ty (term.name at z) h = refl
label_plain env ty (term.quoted at z) h = refl
label_plain env ty (term.nil at) h = refl
label_plain env ty (term.paren at a) h = refl
label_plain env ty (term.tuple at ps) h = refl
label_plain env ty (term.array at ps) h = refl
label_plain env ty (term.sequence at ps) h = refl
label_plain env ty (term.construct at x ps) h = refl
label_plain env ty (term.named at x a) h = refl
label_plain env ty (term.field at a x) h = refl
label_plain env ty (term.call at a ps) h = refl
label_plain env ty (term.index at a ps) h = refl
label_plain env ty (term.unary at op a) h = refl
label_plain env ty (term.binary at op a b) h = refl
label_plain env ty (term.if_term at cs a) h = refl
label_plain env ty (term.case_term at a cs) h = refl
label_plain env ty (term.case_else at a cs b) h = refl
label_plain env ty (term.range at a b) h = absurd (false≢true (sym h))

-- ---- `case`

pub case_is : (at : Place) (selector : Box Tree Global) (branches : Vec Choice Global) (otherwise : Option (Box Tree Global))
    → term_of (tree.Case at selector branches otherwise) ≡ case_by at (term_of selector.value) (choices_of branches.items) otherwise
case_is at selector branches None = selected at selector branches
case_is at selector branches (Some value) = selected_else at selector branches value

-- ---- lists

pub index_none : (env : Env) (want : Want) (n : ℕ) (at : Place) (a : Term) (xs : List Tree) → nat_eq (length xs) 1 ≡ false
    → typed env want n (term.index at a (parts_of xs)) ≡ not_typed at
index_none env want n at a [] h = refl
index_none env want n at a (x ∷ []) h = absurd (false≢true (sym h))
index_none env want n at a (x ∷ (y ∷ xs)) h = refl

pub bracket_none : (env : Env) (want : Want) (n : ℕ) (at p q : Place) (x : List ℕ) (xs : List Tree) (ps : Parts) → nat_eq (length xs) 1 ≡ false
    → typed env want n (term.call at (term.index p (term.name q x) (parts_of xs)) ps) ≡ conversion_said env n at p q x (parts_of xs) ps
bracket_none env want n at p q x [] ps h = refl
bracket_none env want n at p q x (y ∷ []) ps h = absurd (false≢true (sym h))
bracket_none env want n at p q x (y ∷ (z ∷ xs)) ps h = refl

pub test_none : (env : Env) (n : ℕ) (at : Place) (xs : List Tree) → nat_eq (length xs) 1 ≡ false → test_said env n at (parts_of xs) ≡ not_typed at
test_none env n at [] h = refl
test_none env n at (x ∷ []) h = absurd (false≢true (sym h))
test_none env n at (x ∷ (y ∷ xs)) h = refl

pub array_none : (env : Env) (at : Place) (xs : List Tree) → nat_eq (length xs) 2 ≡ false → read_array env at (parts_of xs) ≡ not_typed at
array_none env at [] h = refl
array_none env at (x ∷ []) h = refl
array_none env at (x ∷ (y ∷ [])) h = absurd (false≢true (sym h))
array_none env at (x ∷ (y ∷ (z ∷ xs))) h = refl

more_than_one : (n : ℕ) → nat_eq (suc (suc n)) 1 ≡ false
more_than_one n = grind (arith, nat_tests)

more_than_two : (n : ℕ) → nat_eq (suc (suc (suc n))) 2 ≡ false
more_than_two n = grind (arith, nat_tests)

pub single_is : (xs : List Tree) → is_single (parts_of xs) ≡ nat_eq (length xs) 1
single_is [] = refl
single_is (x ∷ []) = refl
single_is (x ∷ (y ∷ xs)) = sym (more_than_one (length xs))

pub pair_is : (xs : List Tree) → is_pair (parts_of xs) ≡ nat_eq (length xs) 2
pair_is [] = refl
pair_is (x ∷ []) = refl
pair_is (x ∷ (y ∷ [])) = refl
pair_is (x ∷ (y ∷ (z ∷ xs))) = sym (more_than_two (length xs))

pub counted_parts : (xs : List Tree) → part_count (parts_of xs) ≡ length xs
counted_parts [] = refl
counted_parts (x ∷ xs) = ap suc (counted_parts xs)
