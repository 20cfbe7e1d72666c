-- Expressions that are parsed are read: ints and chars are values of their types, and each branch of a `case` has a label.
use Rattle.std.proofs.Common.{◌≡◌, ℕ, Bool, true, false, List, Option, Some, None, refl, subst}
use Rattle.arc_base.specs.declared.place.Place.{Place}
use Rattle.indent_scanner.specs.declared.token.Key.TheVariants as K
use Rattle.indent_scanner.specs.declared.token.Tok.{Tok}
use Rattle.indent_scanner.specs.declared.token.Tok.TheVariants as T
use Rattle.indent_scanner.specs.declared.token.Token.{Token}
use Rattle.nim_tree.specs.declared.name.Name.{Name}
use Rattle.nim_tree.specs.Terms.{Term, Parts, no_parts, part, and_part, Choices, no_choices, choice, and_choice}
use Rattle.parse_exprs.specs.declared.layout.Layout.{Layout}
use Rattle.parse_exprs.specs.declared.input.Bracket.{Bracket}
use Rattle.parse_exprs.specs.declared.input.Bracket.TheVariants.{Round, Square}
use Rattle.parse_exprs.specs.Look.{Origin, spelling, single_of, some_tuple, grouped, as_name, object, applied}
use Rattle.parse_exprs.specs.Grammar as G
use Rattle.parse_exprs.specs.Grammar.{SpellsExpr, Spells, SpellsMore, SpellsUnary, SpellsPrimary, SpellsSuffixes, SpellsSuffix, SpellsAtom, SpellsEnclosed}
use Rattle.parse_exprs.specs.Grammar.{SpellsParts, SpellsMoreParts, SpellsPart, SpellsTail, SpellsValue, SpellsElifs, SpellsElse, SpellsBranches, SpellsOf}
use Rattle.parse_exprs.specs.Grammar.{SpellsLabels, SpellsLabel, SpellsOfs, SpellsOtherwise, IsExpr, IsCallee}
use Rattle.typing_laws.specs.Trees.{has_part, IsRead, AreRead, ChoicesRead}
use Rattle.source_compiler.proofs.ReadTokens.{some_one, none_some, KindRead, Good, tail, past_colon_good}

-- ---- one more behind

pub and_part_read : (some : Parts) (a : Term) → AreRead some → IsRead a → AreRead (and_part some a)
and_part_read no_parts a h k = (k, tt)
and_part_read (part first rest) a h k = (h.0, and_part_read rest a h.1 k)

pub and_part_some : (some : Parts) (a : Term) → has_part (and_part some a) ≡ true
and_part_some no_parts a = refl
and_part_some (part first rest) a = refl

-- labels or a condition
abbrev pub TestsRead : Parts → Type 0
TestsRead tests = (has_part tests ≡ true) × AreRead tests

and_choice_read : (some : Choices) (at : Place) (tests : Parts) (v : Term) → ChoicesRead some → TestsRead tests → IsRead v
    → ChoicesRead (and_choice some at tests v)
and_choice_read no_choices at tests v h t k = (t, (k, tt))
and_choice_read (choice p first a rest) at tests v h t k = (h.0, (h.1.0, and_choice_read rest at tests v h.1.1 t k))

-- ---- tokens and brackets

single_read : (at : Place) (bytes : List ℕ) (kind : Tok) (t : Term) → KindRead kind bytes → single_of at bytes kind ≡ Some t → IsRead t
single_read at bytes (T.Int value) t h e = subst IsRead (some_one e) h
single_read at bytes (T.Char value) t h e = subst IsRead (some_one e) h
single_read at bytes T.Text t h e = subst IsRead (some_one e) tt
single_read at bytes T.Name t h e = subst IsRead (some_one e) tt
single_read at bytes T.Quoted t h e = subst IsRead (some_one e) tt
single_read at bytes (T.Key K.Nil) t h e = subst IsRead (some_one e) tt
single_read at bytes other t h e = none_some e

tuple_read : (at : Place) (parts : Parts) (t : Term) → AreRead parts → some_tuple at parts ≡ Some t → IsRead t
tuple_read at no_parts t h e = none_some e
tuple_read at (part first rest) t h e = subst IsRead (some_one e) h

grouped_read : (b : Bracket) (m : Bool) (at : Place) (parts : Parts) (t : Term) → AreRead parts → grouped b m at parts ≡ Some t → IsRead t
grouped_read Round true at parts t h e = tuple_read at parts t h e
grouped_read Round false at no_parts t h e = none_some e
grouped_read Round false at (part a no_parts) t h e = subst IsRead (some_one e) h.0
grouped_read Round false at (part a (part b rest)) t h e = subst IsRead (some_one e) h
grouped_read Square m at parts t h e = subst IsRead (some_one e) h

object_read : (n : Option Name) (parts : Parts) (t : Term) → AreRead parts → object n parts ≡ Some t → IsRead t
object_read None parts t h e = none_some e
object_read (Some n) no_parts t h e = none_some e
object_read (Some n) (part first rest) t h e = subst IsRead (some_one e) h

applied_read : (b : Bracket) (m : Bool) (a : Term) (parts : Parts) (t : Term) → IsRead a → AreRead parts → applied b m a parts ≡ Some t → IsRead t
applied_read Round false a parts t k h e = subst IsRead (some_one e) (k, h)
applied_read Round true a parts t k h e = object_read (as_name a) parts t h e
applied_read Square m a parts t k h e = subst IsRead (some_one e) (k, h)

module _ (x : Origin) where
  -- what it is, and what is left
  abbrev Reads : Type 0 → List Token → Type 0
  Reads A rest = A × Good x rest

  mutual
    expr : {i : Layout} {t : Term} {ts rest : List Token} → SpellsExpr x i t ts rest → Good x ts → Reads (IsRead t) rest
    expr (G.p_operators h) g = operators h g
    expr (G.p_if l h k e) g =
        let a = branch_tail h (tail x g) in
        let b = elifs k a.1 (a.0.0, (a.0.1, tt)) in
        let c = other e b.1 in ((b.0, c.0), c.1)
    expr (G.p_case {i = i} {mid = mid} l s h k) g =
        let a = expr h (tail x g) in branches k (past_colon_good x i mid a.1) a.0

    operators : {i : Layout} {l : ℕ} {t : Term} {ts rest : List Token} → Spells x i l t ts rest → Good x ts → Reads (IsRead t) rest
    operators (G.p_unary h) g = unary h g
    operators (G.p_binary h k) g = let a = operators h g in more k a.1 a.0

    more : {i : Layout} {l : ℕ} {a t : Term} {ts rest : List Token} → SpellsMore x i l a t ts rest → Good x ts → IsRead a → Reads (IsRead t) rest
    more G.p_none g r = (r, g)
    more (G.p_more o h k) g r = let b = operators h (tail x g) in more k b.1 (r, b.0)

    unary : {i : Layout} {t : Term} {ts rest : List Token} → SpellsUnary x i t ts rest → Good x ts → Reads (IsRead t) rest
    unary (G.p_sign o s h) g = unary h (tail x g)
    unary (G.p_plain h n) g = primary h g

    primary : {i : Layout} {c : Bool} {t : Term} {ts rest : List Token} → SpellsPrimary x i c t ts rest → Good x ts → Reads (IsRead t) rest
    primary (G.p_primary h k) g = let a = atom h g in suffixes k a.1 a.0

    suffixes : {i : Layout} {c : Bool} {a t : Term} {ts rest : List Token} → SpellsSuffixes x i c a t ts rest → Good x ts → IsRead a → Reads (IsRead t) rest
    suffixes G.p_done g r = (r, g)
    suffixes (G.p_suffix o h k) g r = let b = suffix h g r in suffixes k b.1 b.0

    suffix : {i : Layout} {a t : Term} {ts rest : List Token} → SpellsSuffix x i a t ts rest → Good x ts → IsRead a → Reads (IsRead t) rest
    suffix (G.p_field d o n) g r = (r, tail x (tail x g))
    suffix (G.p_applied {m = m} {b = b} {a = a} {t = t} {parts = parts} n h e) g r =
        let p = enclosed h g in (applied_read b m a parts t r p.0 e, p.1)

    atom : {i : Layout} {t : Term} {ts rest : List Token} → SpellsAtom x i t ts rest → Good x ts → Reads (IsRead t) rest
    atom (G.p_token {t = t} {tok = tok} e) g = (single_read _ (spelling x tok) tok.kind t g.read.0 e, tail x g)
    atom (G.p_group {m = m} {b = b} {t = t} {parts = parts} n h e) g = let p = enclosed h g in (grouped_read b m _ parts t p.0 e, p.1)
    atom (G.p_sequence a s h) g = enclosed h (tail x g)

    enclosed : {b : Bracket} {m : Bool} {parts : Parts} {ts rest : List Token} → SpellsEnclosed x b m parts ts rest → Good x ts
        → Reads (AreRead parts) rest
    enclosed (G.p_empty o c) g = (tt, tail x (tail x g))
    enclosed (G.p_parts o c h e) g = let p = some_parts h (tail x g) in (p.0, tail x p.1)

    some_parts : {m : Bool} {parts : Parts} {ts rest : List Token} → SpellsParts x m parts ts rest → Good x ts → Reads (AreRead parts) rest
    some_parts (G.p_first h k) g = let a = one_part h g in more_parts k a.1 (a.0, tt)

    more_parts : {m : Bool} {some parts : Parts} {ts rest : List Token} → SpellsMoreParts x m some parts ts rest → Good x ts → AreRead some
        → Reads (AreRead parts) rest
    more_parts (G.p_over e) g r = (r, g)
    more_parts (G.p_part {b = b} {some = some} e h k) g r = let a = one_part h (tail x g) in more_parts k a.1 (and_part_read some b r a.0)

    one_part : {m : Bool} {a : Term} {ts rest : List Token} → SpellsPart x m a ts rest → Good x ts → Reads (IsRead a) rest
    one_part (G.p_unnamed h) g = expr h g
    one_part (G.p_named n c h) g = expr h (tail x (tail x g))

    branch_tail : {i : Layout} {tests : Parts} {v : Term} {ts rest : List Token} → SpellsTail x i tests v ts rest → Good x ts
        → Reads (TestsRead tests × IsRead v) rest
    branch_tail (G.p_tail s h k) g =
        let a = expr h g in
        let b = branch_value k a.1 in (((refl, (a.0, tt)), b.0), b.1)

    branch_value : {i : Layout} {v : Term} {ts rest : List Token} → SpellsValue x i v ts rest → Good x ts → Reads (IsRead v) rest
    branch_value (G.p_value c s h) g = expr h (tail x g)
    branch_value (G.p_own_line c d h e) g = expr h (tail x g)

    elifs : {i : Layout} {some all : Choices} {ts rest : List Token} → SpellsElifs x i some all ts rest → Good x ts → ChoicesRead some
        → Reads (ChoicesRead all) rest
    elifs (G.p_no_elif e) g r = (r, g)
    elifs (G.p_elif {tests = tests} {v = v} {some = some} e h k) g r =
        let a = branch_tail h (tail x g) in elifs k a.1 (and_choice_read some _ tests v r a.0.0 a.0.1)

    other : {i : Layout} {v : Term} {ts rest : List Token} → SpellsElse x i v ts rest → Good x ts → Reads (IsRead v) rest
    other (G.p_else e h) g = branch_value h (tail x g)

    branches : {i : Layout} {at : Place} {s t : Term} {ts rest : List Token} → SpellsBranches x i at s t ts rest → Good x ts → IsRead s
        → Reads (IsRead t) rest
    branches (G.p_branches f h k e) g r =
        let a = one_of h (tail x g) in
        let b = ofs k a.1 (a.0.0, (a.0.1, tt)) in otherwise e b.1 r b.0

    one_of : {i : Layout} {tests : Parts} {v : Term} {ts rest : List Token} → SpellsOf x i tests v ts rest → Good x ts
        → Reads (TestsRead tests × IsRead v) rest
    one_of (G.p_of s h k v) g =
        let a = label h g in
        let b = more_labels k a.1 (refl, (a.0, tt)) in
        let c = branch_value v b.1 in ((b.0, c.0), c.1)

    more_labels : {i : Layout} {some all : Parts} {ts rest : List Token} → SpellsLabels x i some all ts rest → Good x ts → TestsRead some
        → Reads (TestsRead all) rest
    more_labels (G.p_last_label e) g r = (r, g)
    more_labels (G.p_label {a = a} {some = some} e h k) g r =
        let b = label h (tail x g) in more_labels k b.1 (and_part_some some a, and_part_read some a r.1 b.0)

    label : {i : Layout} {a : Term} {ts rest : List Token} → SpellsLabel x i a ts rest → Good x ts → Reads (IsRead a) rest
    label (G.p_one h e) g = expr h g
    label (G.p_range h e s k) g =
        let a = expr h g in
        let b = expr k (tail x a.1) in ((a.0, b.0), b.1)

    ofs : {i : Layout} {some all : Choices} {ts rest : List Token} → SpellsOfs x i some all ts rest → Good x ts → ChoicesRead some
        → Reads (ChoicesRead all) rest
    ofs (G.p_last_of e) g r = (r, g)
    ofs (G.p_next_of {tests = tests} {v = v} {some = some} e h k) g r =
        let a = one_of h (tail x g) in ofs k a.1 (and_choice_read some _ tests v r a.0.0 a.0.1)

    otherwise : {i : Layout} {at : Place} {s : Term} {all : Choices} {t : Term} {ts rest : List Token} → SpellsOtherwise x i at s all t ts rest → Good x ts
        → IsRead s → ChoicesRead all → Reads (IsRead t) rest
    otherwise (G.p_no_else e) g r c = ((r, c), g)
    otherwise (G.p_with_else e h) g r c = let v = branch_value h (tail x g) in ((r, (c, v.0)), v.1)

  pub expr_read : {i : Layout} {t : Term} {ts rest : List Token} → IsExpr x i t ts rest → Good x ts → Reads (IsRead t) rest
  expr_read h g = expr h.spells g

  pub callee_read : {i : Layout} {t : Term} {ts rest : List Token} → IsCallee x i t ts rest → Good x ts → Reads (IsRead t) rest
  callee_read h g = primary h.spells g
