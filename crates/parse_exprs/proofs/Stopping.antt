-- What stands at a place, and what ends an expression.
use Rattle.std.proofs.Common.{◌≡◌, ℕ, suc, ◌<◌, List, [], ◌∷◌, Bool, true, false, refl, sym, ap, ◌∙◌, inl, inr, arith}
use Rattle.std.specs.Prelude.{Option, Some, None, ◌⊎◌, ◌==◌, ◌&&◌, ◌||◌, not, if◌then◌else◌, codes}
use Rattle.std.proofs.lemmas.Bool.{eqb-true, ne_eqb}
use Rattle.std.proofs.lemmas.Slice.Eq.{bytes_eq-Decides}
use Rattle.indent_scanner.specs.declared.token.Key.TheVariants as K
use Rattle.indent_scanner.specs.declared.token.Tok.{Tok}
use Rattle.indent_scanner.specs.declared.token.Tok.TheVariants as T
use Rattle.indent_scanner.specs.declared.token.Token.{Token}
use Rattle.nim_tree.specs.declared.expr.BinaryOp.{BinaryOp}
use Rattle.parse_exprs.specs.declared.layout.Layout.{Layout}
use Rattle.parse_exprs.specs.declared.layout.Layout.TheVariants.{Brackets, Lines, Start}
use Rattle.parse_exprs.specs.declared.input.Bracket.{Bracket}
use Rattle.parse_exprs.specs.declared.input.Bracket.TheVariants.{Round, Square}
use Rattle.parse_exprs.specs.Look.{Origin, spelling, goes_on, branch_goes_on, first_goes_on, branch_layout, op_of, op_named, level_of, of_level, op_at}
use Rattle.parse_exprs.specs.Look.{is_punct, is_run, closing, closes_at, kind_at, is_suffix, is_apart, suffix_at, branch_at, is_elif, is_else, is_of}
use Rattle.parse_exprs.specs.Look.{first_of_at, colon_at, comma_at, past_colon, dots_at, begins_branches, lead_of, begins, begins_operand, operand_on, at_start}
use Rattle.parse_exprs.specs.Look.{past_start, no_command_on, else_on, is_deeper, deeper_line_at, line_layout, stays}
use Rattle.parse_exprs.specs.Grammar.{Stops}

pub none_some : {A C : Type 0} {x : A} (o : Option A) → o ≡ None → o ≡ Some x → C
none_some o p q = cc

pub false_true : {C : Type 0} (b : Bool) → b ≡ false → b ≡ true → C
false_true b p q = cc

pub both_of : (a b : Bool) → (a && b) ≡ true → (a ≡ true) × (b ≡ true)
both_of true b e = (refl, e)
both_of false b e = cc

pub both : (a b : Bool) → a ≡ true → b ≡ true → (a && b) ≡ true
both a b p q = cc

pub none_of : {A : Type 0} (o : Option A) → ((a : A) → o ≡ Some a → ⊥) → o ≡ None
none_of None h = refl
none_of (Some a) h = absurd (h a refl)

-- ---- operators

if_some : {A : Type 0} {v : A} {o : Option A} (b : Bool) → (if b then o else None) ≡ Some v → (b ≡ true) × (o ≡ Some v)
if_some true e = (refl, e)
if_some false e = cc

-- an operator has one level
other_level : (l k : ℕ) (o : Option BinaryOp) (op : BinaryOp) → of_level l o ≡ Some op → k < l → of_level k o ≡ None
other_level l k None op e lt = refl
other_level l k (Some o) op e lt =
    let h = (if_some (level_of o == l) e).0 in
    let is : level_of o ≡ l = eqb-true (level_of o) l h in
    let not : (level_of o == k) ≡ false = ne_eqb (level_of o) k (λ same. omega arith) in
    ap (λ b. if b then Some o else None) not

-- and is neither a bracket nor a point
no_suffix : (l : ℕ) (op : BinaryOp) (kind : Tok) (bytes : List ℕ) → of_level l (op_of kind bytes) ≡ Some op → is_suffix kind ≡ false
no_suffix l op T.Op bytes e = refl
no_suffix l op (T.Key key) bytes e = refl
no_suffix l op _ bytes e = cc

and_false : (b : Bool) → (b && false) ≡ false
and_false true = refl
and_false false = refl

none_either : (b : Bool) → ◌≡◌ {A = Option BinaryOp} (if b then None else None) None
none_either true = refl
none_either false = refl

-- what is neither a bracket nor a point ends what stands behind an atom
pub no_suffix_at : (i : Layout) (c : Bool) (tok : Token) (ts : List Token) → is_suffix tok.kind ≡ false → suffix_at i c (tok ∷ ts) ≡ false
no_suffix_at i c tok ts h = ap (λ b. goes_on i tok.indent && (b && not (is_apart c tok))) h ∙ and_false (goes_on i tok.indent)

pub operator_stops : (x : Origin) (i : Layout) (l : ℕ) (op : BinaryOp) (tok : Token) (ts : List Token) → op_at x i l (tok ∷ ts) ≡ Some op
    → Stops x i l (tok ∷ ts)
operator_stops x i l op tok ts e =
    let h = if_some (goes_on i tok.indent) e in
    record {
      ops = λ k lt. ap (λ b. if b then of_level k (op_of tok.kind (spelling x tok)) else None) h.0
          ∙ other_level l k (op_of tok.kind (spelling x tok)) op h.1 lt;
      suffix = no_suffix_at i false tok ts (no_suffix l op tok.kind (spelling x tok) h.1);
    }

pub fewer : {x : Origin} {i : Layout} {l : ℕ} {rest : List Token} → Stops x i (suc l) rest → Stops x i l rest
fewer s = record { ops = λ k lt. s.ops k (omega arith); suffix = s.suffix }

below_or : (k l : ℕ) → k < suc l → (k < l) ⊎ (k ≡ l)
below_or k l lt = grind arith

pub one_more : (x : Origin) (i : Layout) (l : ℕ) (rest : List Token) → Stops x i l rest → op_at x i l rest ≡ None → Stops x i (suc l) rest
one_more x i l rest s h = record {
  ops = λ k lt. elim (below_or k l lt) as (λ w. op_at x i k rest ≡ None) [ inl less ↦ s.ops k less | inr same ↦ ap (λ m. op_at x i m rest) same ∙ h ];
  suffix = s.suffix;
}

pub suffix_stops : (x : Origin) (i : Layout) (rest : List Token) → suffix_at i false rest ≡ false → Stops x i 0 rest
suffix_stops x i rest h = record { ops = λ k lt. (let f : ⊥ = omega (arith, lt) in absurd f); suffix = h }

-- ---- other tokens that end it

-- a token that is neither operator nor bracket nor point
quiet_stops : (x : Origin) (i : Layout) (l : ℕ) (tok : Token) (ts : List Token) → op_of tok.kind (spelling x tok) ≡ None → is_suffix tok.kind ≡ false
    → Stops x i l (tok ∷ ts)
quiet_stops x i l tok ts e h = record {
  ops = λ k lt. ap (λ m. if goes_on i tok.indent then of_level k m else None) e ∙ none_either (goes_on i tok.indent);
  suffix = no_suffix_at i false tok ts h;
}

pub punct_is : (b : ℕ) (k : Tok) → is_punct b k ≡ true → k ≡ T.Punct b
punct_is b (T.Punct c) e = ap T.Punct (eqb-true c b e)
punct_is b _ e = cc

punct_stops : (x : Origin) (i : Layout) (l b : ℕ) (tok : Token) (ts : List Token) → is_punct b tok.kind ≡ true → is_suffix (T.Punct b) ≡ false
    → Stops x i l (tok ∷ ts)
punct_stops x i l b tok ts e h =
    let is = punct_is b tok.kind e in
    quiet_stops x i l tok ts (ap (λ k. op_of k (spelling x tok)) is) (ap is_suffix is ∙ h)

no_opening : (b : Bracket) → is_suffix (T.Punct (closing b)) ≡ false
no_opening Round = refl
no_opening Square = refl

pub closing_stops : (x : Origin) (i : Layout) (l : ℕ) (b : Bracket) (ts : List Token) → closes_at b ts ≡ true → Stops x i l ts
closing_stops x i l b [] e = cc
closing_stops x i l b (tok ∷ ts) e = punct_stops x i l (closing b) tok ts e (no_opening b)

pub comma_stops : (x : Origin) (i : Layout) (l : ℕ) (ts : List Token) → kind_at (is_punct 44) ts ≡ true → Stops x i l ts
comma_stops x i l [] e = cc
comma_stops x i l (tok ∷ ts) e = punct_stops x i l 44 tok ts e refl

pub label_comma_stops : (x : Origin) (i j : Layout) (l : ℕ) (ts : List Token) → comma_at i ts ≡ true → Stops x j l ts
label_comma_stops x i j l [] e = cc
label_comma_stops x i j l (tok ∷ ts) e = punct_stops x j l 44 tok ts (both_of (goes_on i tok.indent) (is_punct 44 tok.kind) e).1 refl

pub colon_stops : (x : Origin) (i j : Layout) (l : ℕ) (ts : List Token) → colon_at i ts ≡ true → Stops x j l ts
colon_stops x i j l [] e = cc
colon_stops x i j l (tok ∷ ts) e = punct_stops x j l 58 tok ts (both_of (goes_on i tok.indent) (is_punct 58 tok.kind) e).1 refl

elif_op : (k : Tok) (bytes : List ℕ) → is_elif k ≡ true → (op_of k bytes ≡ None) × (is_suffix k ≡ false)
elif_op (T.Key K.Elif) bytes e = (refl, refl)
elif_op (T.Key _) bytes e = cc
elif_op _ bytes e = cc

else_op : (k : Tok) (bytes : List ℕ) → is_else k ≡ true → (op_of k bytes ≡ None) × (is_suffix k ≡ false)
else_op (T.Key K.Else) bytes e = (refl, refl)
else_op (T.Key _) bytes e = cc
else_op _ bytes e = cc

of_op : (k : Tok) (bytes : List ℕ) → is_of k ≡ true → (op_of k bytes ≡ None) × (is_suffix k ≡ false)
of_op (T.Key K.Of) bytes e = (refl, refl)
of_op (T.Key _) bytes e = cc
of_op _ bytes e = cc

pub elif_stops : (x : Origin) (i j : Layout) (l : ℕ) (ts : List Token) → branch_at i is_elif ts ≡ true → Stops x j l ts
elif_stops x i j l [] e = cc
elif_stops x i j l (tok ∷ ts) e =
    let h = elif_op tok.kind (spelling x tok) (both_of (branch_goes_on i tok.indent) (is_elif tok.kind) e).1 in quiet_stops x j l tok ts h.0 h.1

pub else_stops : (x : Origin) (i j : Layout) (l : ℕ) (ts : List Token) → branch_at i is_else ts ≡ true → Stops x j l ts
else_stops x i j l [] e = cc
else_stops x i j l (tok ∷ ts) e =
    let h = else_op tok.kind (spelling x tok) (both_of (branch_goes_on i tok.indent) (is_else tok.kind) e).1 in quiet_stops x j l tok ts h.0 h.1

pub of_stops : (x : Origin) (i j : Layout) (l : ℕ) (ts : List Token) → branch_at i is_of ts ≡ true → Stops x j l ts
of_stops x i j l [] e = cc
of_stops x i j l (tok ∷ ts) e =
    let h = of_op tok.kind (spelling x tok) (both_of (branch_goes_on i tok.indent) (is_of tok.kind) e).1 in quiet_stops x j l tok ts h.0 h.1

first_stops : (x : Origin) (i j : Layout) (l : ℕ) (ts : List Token) → first_of_at i ts ≡ true → Stops x j l ts
first_stops x i j l [] e = cc
first_stops x i j l (tok ∷ ts) e =
    let h = of_op tok.kind (spelling x tok) (both_of (first_goes_on i tok.indent) (is_of tok.kind) e).1 in quiet_stops x j l tok ts h.0 h.1

past_stops : (x : Origin) (i j : Layout) (l : ℕ) (b : Bool) (tok : Token) (ts : List Token) → colon_at i (tok ∷ ts) ≡ b
    → first_of_at i (if b then ts else tok ∷ ts) ≡ true → Stops x j l (tok ∷ ts)
past_stops x i j l true tok ts h e = colon_stops x i j l (tok ∷ ts) h
past_stops x i j l false tok ts h e = first_stops x i j l (tok ∷ ts) e

-- a colon or an `of` behind the value of `case`
pub subject_stops : (x : Origin) (i j : Layout) (l : ℕ) (ts : List Token) → first_of_at i (past_colon i ts) ≡ true → Stops x j l ts
subject_stops x i j l [] e = cc
subject_stops x i j l (tok ∷ ts) e = past_stops x i j l _ tok ts refl e

dots_op : (k : Tok) (bytes : List ℕ) → is_run (codes "..") k bytes ≡ true → (op_of k bytes ≡ None) × (is_suffix k ≡ false)
dots_op T.Op bytes e = (ap op_named ((bytes_eq-Decides bytes (codes "..")).0 e), refl)
dots_op _ bytes e = cc

pub dots_stops : (x : Origin) (i j : Layout) (l : ℕ) (ts : List Token) → dots_at x i ts ≡ true → Stops x j l ts
dots_stops x i j l [] e = cc
dots_stops x i j l (tok ∷ ts) e =
    let h = dots_op tok.kind (spelling x tok) (both_of (goes_on i tok.indent) (is_run (codes "..") tok.kind (spelling x tok)) e).1 in
    quiet_stops x j l tok ts h.0 h.1

-- ---- layouts in which the same tokens go on

abbrev Alike : Layout → Layout → Type 0
Alike i j = (indent : Option ℕ) → goes_on i indent ≡ goes_on j indent

alike_suffix : (i j : Layout) (c : Bool) (ts : List Token) → Alike i j → suffix_at j c ts ≡ suffix_at i c ts
alike_suffix i j c [] e = refl
alike_suffix i j c (tok ∷ ts) e = ap (λ b. b && (is_suffix tok.kind && not (is_apart c tok))) (sym (e tok.indent))

alike_op : (x : Origin) (i j : Layout) (l : ℕ) (ts : List Token) → Alike i j → op_at x j l ts ≡ op_at x i l ts
alike_op x i j l [] e = refl
alike_op x i j l (tok ∷ ts) e = ap (λ b. if b then of_level l (op_of tok.kind (spelling x tok)) else None) (sym (e tok.indent))

alike_stops : (x : Origin) (i j : Layout) (l : ℕ) (ts : List Token) → Alike i j → Stops x i l ts → Stops x j l ts
alike_stops x i j l ts e s = record { ops = λ k lt. alike_op x i j k ts e ∙ s.ops k lt; suffix = alike_suffix i j false ts e ∙ s.suffix }

-- the level that the first `of` sets
same_branch : (i : Layout) (indent other : Option ℕ) → goes_on (branch_layout i indent) other ≡ goes_on i other
same_branch i None other = refl
same_branch Brackets (Some m) other = refl
same_branch (Lines n) (Some m) None = refl
same_branch (Lines n) (Some m) (Some k) = refl
same_branch (Start n) (Some m) None = refl
same_branch (Start n) (Some m) (Some k) = refl

pub branch_stops : (x : Origin) (i : Layout) (indent : Option ℕ) (l : ℕ) (ts : List Token) → Stops x (branch_layout i indent) l ts → Stops x i l ts
branch_stops x i indent l ts s = alike_stops x (branch_layout i indent) i l ts (same_branch i indent) s

pub stops_branch : (x : Origin) (i : Layout) (indent : Option ℕ) (l : ℕ) (ts : List Token) → Stops x i l ts → Stops x (branch_layout i indent) l ts
stops_branch x i indent l ts s = alike_stops x i (branch_layout i indent) l ts (λ o. sym (same_branch i indent o)) s

-- that of a value on lines of its own
same_line : (i : Layout) (line : List Token) → Alike (line_layout i line) i
same_line i [] = λ o. refl
same_line i (tok ∷ ts) = same_branch i tok.indent

pub line_stops : (x : Origin) (i : Layout) (line : List Token) (l : ℕ) (ts : List Token) → Stops x (line_layout i line) l ts → Stops x i l ts
line_stops x i line l ts s = alike_stops x (line_layout i line) i l ts (same_line i line) s

pub stops_line : (x : Origin) (i : Layout) (line : List Token) (l : ℕ) (ts : List Token) → Stops x i l ts → Stops x (line_layout i line) l ts
stops_line x i line l ts s = alike_stops x i (line_layout i line) l ts (λ o. sym (same_line i line o)) s

deeper_goes : (i : Layout) (indent : Option ℕ) → is_deeper i indent ≡ true → goes_on i indent ≡ false
deeper_goes i None e = cc
deeper_goes Brackets (Some m) e = cc
deeper_goes (Lines n) (Some m) e = refl
deeper_goes (Start n) (Some m) e = refl

-- what begins a deeper line doesn't go on
pub deeper_stays : (i : Layout) (ts : List Token) → deeper_line_at i ts ≡ true → stays i ts ≡ false
deeper_stays i [] e = cc
deeper_stays i (tok ∷ ts) e = deeper_goes i tok.indent e

-- behind the start of a statement
same_start : (i : Layout) → Alike (past_start i) i
same_start Brackets o = refl
same_start (Lines n) o = refl
same_start (Start n) None = refl
same_start (Start n) (Some m) = refl

pub start_stops : (x : Origin) (i : Layout) (l : ℕ) (ts : List Token) → Stops x (past_start i) l ts → Stops x i l ts
start_stops x i l ts s = alike_stops x (past_start i) i l ts (same_start i) s

pub stops_start : (x : Origin) (i : Layout) (l : ℕ) (ts : List Token) → Stops x i l ts → Stops x (past_start i) l ts
stops_start x i l ts s = alike_stops x i (past_start i) l ts (λ o. sym (same_start i o)) s

pub suffix_start : (i : Layout) (ts : List Token) → suffix_at i false ts ≡ false → suffix_at (past_start i) false ts ≡ false
suffix_start i ts e = alike_suffix i (past_start i) false ts (λ o. sym (same_start i o)) ∙ e

-- ---- where a command may begin

-- a bracket is an operand
open_operand : (x : Origin) (tok : Token) → is_punct 40 tok.kind ≡ true → begins_operand x tok tok.kind ≡ true
open_operand x tok e =
    let is = punct_is 40 tok.kind e in
    ap (begins_operand x tok) is ∙ ap (λ k. begins_branches (lead_of k) || begins k (spelling x tok)) is

no_more : (goes suffix space round operand : Bool) → (round ≡ true → operand ≡ true) → (goes && (suffix && not (true && (space && round)))) ≡ false
    → (goes && operand) ≡ false
    → (goes && (suffix && not (false && (space && round)))) ≡ false
no_more false suffix space round operand f e h = refl
no_more true suffix true false operand f e h = e
no_more true suffix false false operand f e h = e
no_more true suffix space true operand f e h = let g = f refl in cc

not_true : (b : Bool) → not b ≡ true → b ≡ false
not_true true e = cc
not_true false e = refl

-- where neither a bracket or point nor an operand goes on, nothing that stands behind an atom does
pub command_stops : (x : Origin) (i : Layout) (ts : List Token) → suffix_at i (at_start i) ts ≡ false → no_command_on x i ts ≡ true
    → suffix_at i false ts ≡ false
command_stops x Brackets ts e h = e
command_stops x (Lines n) ts e h = e
command_stops x (Start n) [] e h = refl
command_stops x (Start n) (tok ∷ ts) e h =
    no_more (goes_on (Start n) tok.indent) (is_suffix tok.kind) tok.space_before (is_punct 40 tok.kind) (begins_operand x tok tok.kind) (open_operand x tok) e
    (not_true (operand_on x (Start n) (tok ∷ ts)) h)

fewer_suffix : (goes suffix apart : Bool) → (goes && (suffix && not (false && apart))) ≡ false → (goes && (suffix && not (true && apart))) ≡ false
fewer_suffix false suffix apart e = refl
fewer_suffix true false apart e = refl
fewer_suffix true true apart e = cc

-- fewer go on where a command may begin
pub suffix_stays : (i : Layout) (c : Bool) (ts : List Token) → suffix_at i false ts ≡ false → suffix_at i c ts ≡ false
suffix_stays i false ts e = e
suffix_stays i true [] e = refl
suffix_stays i true (tok ∷ ts) e = fewer_suffix (goes_on i tok.indent) (is_suffix tok.kind) (tok.space_before && is_punct 40 tok.kind) e

-- ---- an `else` with its colon

pub else_with_colon : (i : Layout) (ts : List Token) → else_on i ts ≡ true → branch_at i is_else ts ≡ true
else_with_colon i [] e = cc
else_with_colon i (tok ∷ ts) e = (both_of (branch_goes_on i tok.indent && is_else tok.kind) (colon_at i ts) e).0
