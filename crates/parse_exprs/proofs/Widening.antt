-- Where more levels are left, a computation comes to the same, unless a level too many was opened before.
use Rattle.std.proofs.Common.{◌≡◌, ℕ, zero, suc, ◌≤◌, List, [], ◌∷◌, Bool, true, false, refl, sym, ap, subst, arith}
use Rattle.std.specs.Prelude.{Option, Some, None, nat_lt, ◌||◌, is_some, if◌then◌else◌}
use Rattle.std.proofs.lemmas.Bool.{le-ltb, ltb-false}
use Rattle.arc_base.specs.declared.place.Place.{Place}
use Rattle.indent_scanner.specs.declared.token.Key.TheVariants as K
use Rattle.indent_scanner.specs.declared.token.Tok.{Tok}
use Rattle.indent_scanner.specs.declared.token.Tok.TheVariants as T
use Rattle.indent_scanner.specs.declared.token.Token.{Token}
use Rattle.nim_tree.specs.declared.expr.UnaryOp.{UnaryOp}
use Rattle.nim_tree.specs.declared.expr.BinaryOp.{BinaryOp}
use Rattle.nim_tree.specs.Terms.{Term, binary, Parts, no_parts, part, and_part, Choices, no_choices, choice, and_choice, place_of, levels}
use Rattle.parse_exprs.specs.declared.layout.Layout.{Layout}
use Rattle.parse_exprs.specs.declared.layout.Layout.TheVariants.{Brackets}
use Rattle.parse_exprs.specs.declared.input.Bracket.{Bracket}
use Rattle.parse_exprs.specs.declared.input.Bracket.TheVariants.{Square}
use Rattle.parse_exprs.specs.declared.input.Lead.{Lead}
use Rattle.parse_exprs.specs.declared.input.Lead.TheVariants as L
use Rattle.parse_exprs.specs.Look.{Origin, spelling, place_at, op_at, op_levels, single_of, single, sign_of, is_at_sign, is_name, is_punct, kind_at, bracket_of}
use Rattle.parse_exprs.specs.Look.{bracket_named, bracket_at, square_at, closes_at, names_in, names_behind, suffix_at, stays, begins_atom, begins, operand_at}
use Rattle.parse_exprs.specs.Look.{lead_at, branch_at, is_elif, is_else, is_of, first_of_at, branch_layout, colon_at, comma_at, past_colon, dots_at, at_start}
use Rattle.parse_exprs.specs.Look.{past_start, else_on, deeper_line_at, line_layout}
use Rattle.parse_exprs.specs.Outcome.{deep, stuck, tired, Out, got, bad, then_do, unless_stuck}
use Rattle.parse_exprs.specs.Run.{behind, run_expr, run_lead, run_level, run_chain, run_more, run_unary, run_signed, run_primary, run_suffixes, run_suffix}
use Rattle.parse_exprs.specs.Run.{run_applied, run_atom, run_group, run_enclosed, run_list, run_parts, run_part, run_if, run_tail, run_value, run_own_line}
use Rattle.parse_exprs.specs.Run.{run_elifs, run_else, run_case, run_branches, run_of, run_labels, run_label, run_ofs, run_otherwise}

-- what it comes to with more levels
pub data Kept {X : Type 0} (o p : Out X) : Type 0 where
  opened : o ≡ bad deep → Kept o p
  early : p ≡ bad tired → Kept o p
  alike : p ≡ o → Kept o p

kept_same : {X Y : Type 0} (o : Out X) (f g : X → List Token → Out Y) → ((a : X) (mid : List Token) → Kept (f a mid) (g a mid))
    → Kept (then_do o f) (then_do o g)
kept_same (got a mid) f g h = h a mid
kept_same (bad why) f g h = alike refl

kept_then : {X Y : Type 0} {o p : Out X} (f g : X → List Token → Out Y) → Kept o p → ((a : X) (mid : List Token) → Kept (f a mid) (g a mid))
    → Kept (then_do o f) (then_do p g)
kept_then f g (opened e) h = opened (ap (λ w. then_do w f) e)
kept_then f g (early e) h = early (ap (λ w. then_do w g) e)
kept_then {o = o} f g (alike e) h = subst (λ w. Kept (then_do o f) (then_do w g)) (sym e) (kept_same o f g h)

kept_last : {X Y : Type 0} {o p : Out X} (f : X → List Token → Out Y) → Kept o p → Kept (then_do o f) (then_do p f)
kept_last f h = kept_then f f h (λ a mid. alike refl)

kept_unless : {X : Type 0} {o p : Out X} (b : Bool) (ts : List Token) → Kept o p → Kept (unless_stuck b ts o) (unless_stuck b ts p)
kept_unless true ts h = h
kept_unless false ts h = alike refl

kept_if : {X : Type 0} {o p : Out X} (b : Bool) (q : Out X) → Kept o p → Kept (if b then o else q) (if b then p else q)
kept_if true q h = h
kept_if false q h = alike refl

kept_else : {X : Type 0} {o p : Out X} (b : Bool) (q : Out X) → Kept o p → Kept (if b then q else o) (if b then q else p)
kept_else true q h = alike refl
kept_else false q h = h

kept_both : {X : Type 0} {o p q r : Out X} (b : Bool) → Kept o p → Kept q r → Kept (if b then o else q) (if b then p else r)
kept_both true h g = h
kept_both false h g = g

kept_free : {X : Type 0} {o p : Out X} (b c : Bool) → (b ≡ false → c ≡ false) → Kept o p → Kept (if b then bad deep else o) (if c then bad deep else p)
kept_free true c f h = opened refl
kept_free false true f h = (let e = f refl in cc)
kept_free false false f h = h

kept_limit : {X : Type 0} {o p : Out X} (n m l : ℕ) → n ≤ m → Kept o p → Kept (if nat_lt n l then bad deep else o) (if nat_lt m l then bad deep else p)
kept_limit n m l le h = kept_free (nat_lt n l) (nat_lt m l) (λ e. le-ltb m l (let f = ltb-false n l e in omega (arith, f, le))) h

-- ---- where no operand begins, none is read

no_sign : (k : Tok) (bytes : List ℕ) → begins k bytes ≡ false → sign_of k bytes ≡ None
no_sign k bytes e = none (sign_of k bytes) (begins_atom k || is_at_sign k bytes) e
  where
    none : (o : Option UnaryOp) (b : Bool) → (is_some o || b) ≡ false → o ≡ None
    none None b e = refl
    none (Some op) b e = cc

or_false : (a b : Bool) → (a || b) ≡ false → (a ≡ false) × (b ≡ false)
or_false true b e = cc
or_false false b e = (refl, e)

no_atom : (k : Tok) (bytes : List ℕ) → begins k bytes ≡ false → (begins_atom k ≡ false) × (is_at_sign k bytes ≡ false)
no_atom k bytes e = or_false (begins_atom k) (is_at_sign k bytes) (or_false (is_some (sign_of k bytes)) (begins_atom k || is_at_sign k bytes) e).1

no_single : (at : Place) (bytes : List ℕ) (k : Tok) → begins_atom k ≡ false → single_of at bytes k ≡ None
no_single at bytes (T.Int value) e = cc
no_single at bytes (T.Char value) e = cc
no_single at bytes T.Text e = cc
no_single at bytes T.Name e = cc
no_single at bytes T.Quoted e = cc
no_single at bytes (T.Key K.Nil) e = cc
no_single at bytes (T.Key _) e = refl
no_single at bytes _ e = refl

no_bracket_named : (o : Option Bracket) → is_some o ≡ false → o ≡ None
no_bracket_named None e = refl
no_bracket_named (Some b) e = cc

no_bracket : (k : Tok) → begins_atom k ≡ false → bracket_of k ≡ None
no_bracket (T.Punct b) e = no_bracket_named (bracket_named b) e
no_bracket _ e = refl

stuck_test : {X : Type 0} (b : Bool) (ts : List Token) (go : Out X) → b ≡ false → unless_stuck b ts go ≡ bad (stuck ts)
stuck_test b ts go e = ap (λ c. unless_stuck c ts go) e

kept_group : (k : ℕ) (o : Option Term) (b : Option Bracket) (x : Origin) (i : Layout) (n : ℕ) (tok : Token) (ts : List Token) → o ≡ None → b ≡ None
    → is_at_sign tok.kind (spelling x tok) ≡ false
    → Kept (bad (stuck (tok ∷ ts))) (run_group k o b x i (suc n) tok ts)
kept_group zero o b x i n tok ts e h at = early refl
kept_group (suc k) (Some t) b x i n tok ts e h at = cc
kept_group (suc k) None (Some b) x i n tok ts e h at = cc
kept_group (suc k) None None x i n tok ts e h at = alike (stuck_test (is_at_sign tok.kind (spelling x tok)) (tok ∷ ts) _ at)

kept_atom_none : (k : ℕ) (x : Origin) (i : Layout) (c : Bool) (n : ℕ) (tok : Token) (ts : List Token) → begins tok.kind (spelling x tok) ≡ false
    → Kept (bad (stuck (tok ∷ ts))) (run_primary k x i c (suc n) (tok ∷ ts))
kept_atom_none zero x i c n tok ts e = early refl
kept_atom_none (suc zero) x i c n tok ts e = early refl
kept_atom_none (suc (suc k)) x i c n tok ts e =
    let h = no_atom tok.kind (spelling x tok) e in
    kept_last {o = bad (stuck (tok ∷ ts))} (λ a mid. run_suffixes (suc k) x i c (suc n) a mid)
    (kept_group k (single x tok) (bracket_at (tok ∷ ts)) x i n tok ts (no_single (place_at x tok) (spelling x tok) tok.kind h.0) (no_bracket tok.kind h.0) h.1)

kept_signed_none : (k : ℕ) (o : Option UnaryOp) (x : Origin) (i : Layout) (n : ℕ) (tok : Token) (ts : List Token) → o ≡ None
    → begins tok.kind (spelling x tok) ≡ false
    → Kept (bad (stuck (tok ∷ ts))) (run_signed k o x i n tok ts)
kept_signed_none zero o x i n tok ts e h = early refl
kept_signed_none (suc k) (Some op) x i n tok ts e h = cc
kept_signed_none (suc k) None x i n tok ts e h = kept_last {o = bad (stuck (tok ∷ ts))} _ (kept_atom_none k x i (at_start i) n tok ts h)

kept_none : (k : ℕ) (x : Origin) (i : Layout) (m : ℕ) (ts : List Token) → operand_at x ts ≡ false → Kept (bad (stuck ts)) (run_unary k x i m ts)
kept_none zero x i m ts e = early refl
kept_none (suc k) x i zero ts e = alike (ap (λ b. bad (if b then deep else stuck ts)) e)
kept_none (suc k) x i (suc m) [] e = alike refl
kept_none (suc k) x i (suc m) (tok ∷ ts) e = kept_signed_none k (sign_of tok.kind (spelling x tok)) x i m tok ts (no_sign tok.kind (spelling x tok) e) e

kept_operand : (k : ℕ) (b : Bool) (x : Origin) (i : Layout) (m : ℕ) (ts : List Token) → operand_at x ts ≡ b → Kept (bad (if b then deep else stuck ts))
    (run_unary k x i m ts)
kept_operand k true x i m ts e = opened refl
kept_operand k false x i m ts e = kept_none k x i m ts e

no_less : {C : Type 0} (n : ℕ) → suc n ≤ 0 → C
no_less n le = let f : ⊥ = omega (arith, le) in absurd f

less : (n m : ℕ) → suc n ≤ suc m → n ≤ m
less n m le = omega (arith, le)

mutual
  pub kept_expr : (k : ℕ) (x : Origin) (i : Layout) (n m : ℕ) (ts : List Token) → n ≤ m → Kept (run_expr k x i n ts) (run_expr k x i m ts)
  kept_expr zero x i n m ts le = early refl
  kept_expr (suc k) x i n m ts le = kept_lead k (lead_at ts) x i n m ts le

  kept_lead : (k : ℕ) (lead : Lead) (x : Origin) (i : Layout) (n m : ℕ) (ts : List Token) → n ≤ m → Kept (run_lead k lead x i n ts) (run_lead k lead x i m ts)
  kept_lead zero lead x i n m ts le = early refl
  kept_lead (suc k) L.Operand x i n m ts le = kept_level k x i op_levels n m ts le
  kept_lead (suc k) L.If x i n m ts le = kept_the_if k x i n m ts le
  kept_lead (suc k) L.Case x i n m ts le = kept_case k x i n m ts le

  kept_level : (k : ℕ) (x : Origin) (i : Layout) (l n m : ℕ) (ts : List Token) → n ≤ m → Kept (run_level k x i l n ts) (run_level k x i l m ts)
  kept_level zero x i l n m ts le = early refl
  kept_level (suc k) x i zero n m ts le = kept_unary k x i n m ts le
  kept_level (suc k) x i (suc l) n m ts le = kept_then _ _ (kept_level k x i l n m ts le) (λ a mid. kept_chain k x (past_start i) l n m a mid le)

  kept_chain : (k : ℕ) (x : Origin) (i : Layout) (l n m : ℕ) (a : Term) (ts : List Token) → n ≤ m → Kept (run_chain k x i l n a ts) (run_chain k x i l m a ts)
  kept_chain zero x i l n m a ts le = early refl
  kept_chain (suc k) x i l n m a ts le = kept_more k (op_at x i l ts) x i l n m a ts le

  kept_more : (k : ℕ) (op : Option BinaryOp) (x : Origin) (i : Layout) (l n m : ℕ) (a : Term) (ts : List Token) → n ≤ m
      → Kept (run_more k op x i l n a ts) (run_more k op x i l m a ts)
  kept_more zero op x i l n m a ts le = early refl
  kept_more (suc k) None x i l n m a ts le = alike refl
  kept_more (suc k) (Some op) x i l zero m a ts le = opened refl
  kept_more (suc k) (Some op) x i l (suc n) zero a ts le = no_less n le
  kept_more (suc k) (Some op) x i l (suc n) (suc m) a ts le =
      kept_limit n m (levels a) (less n m le)
      (kept_then _ _ (kept_level k x i l n m (behind ts) (less n m le)) (λ b mid. kept_chain k x i l (suc n) (suc m) (binary (place_of a) op a b) mid le))

  kept_unary : (k : ℕ) (x : Origin) (i : Layout) (n m : ℕ) (ts : List Token) → n ≤ m → Kept (run_unary k x i n ts) (run_unary k x i m ts)
  kept_unary zero x i n m ts le = early refl
  kept_unary (suc k) x i zero m ts le = kept_operand (suc k) (operand_at x ts) x i m ts refl
  kept_unary (suc k) x i (suc n) zero ts le = no_less n le
  kept_unary (suc k) x i (suc n) (suc m) [] le = alike refl
  kept_unary (suc k) x i (suc n) (suc m) (tok ∷ ts) le = kept_signed k (sign_of tok.kind (spelling x tok)) x i n m tok ts (less n m le)

  kept_signed : (k : ℕ) (op : Option UnaryOp) (x : Origin) (i : Layout) (n m : ℕ) (tok : Token) (ts : List Token) → n ≤ m
      → Kept (run_signed k op x i n tok ts) (run_signed k op x i m tok ts)
  kept_signed zero op x i n m tok ts le = early refl
  kept_signed (suc k) None x i n m tok ts le = kept_last _ (kept_primary k x i (at_start i) (suc n) (suc m) (tok ∷ ts) (omega (arith, le)))
  kept_signed (suc k) (Some op) x i n m tok ts le = kept_unless (stays i ts) ts (kept_last _ (kept_unary k x (past_start i) n m ts le))

  pub kept_primary : (k : ℕ) (x : Origin) (i : Layout) (c : Bool) (n m : ℕ) (ts : List Token) → n ≤ m
      → Kept (run_primary k x i c n ts) (run_primary k x i c m ts)
  kept_primary zero x i c n m ts le = early refl
  kept_primary (suc k) x i c n m ts le = kept_then _ _ (kept_atom k x i n m ts le) (λ a mid. kept_suffixes k x i c n m a mid le)

  kept_suffixes : (k : ℕ) (x : Origin) (i : Layout) (c : Bool) (n m : ℕ) (a : Term) (ts : List Token) → n ≤ m
      → Kept (run_suffixes k x i c n a ts) (run_suffixes k x i c m a ts)
  kept_suffixes zero x i c n m a ts le = early refl
  kept_suffixes (suc k) x i c n m a ts le = kept_if (suffix_at i c ts) (got a ts) (kept_suffix k x i c n m a ts le)

  kept_suffix : (k : ℕ) (x : Origin) (i : Layout) (c : Bool) (n m : ℕ) (a : Term) (ts : List Token) → n ≤ m
      → Kept (run_suffix k x i c n a ts) (run_suffix k x i c m a ts)
  kept_suffix zero x i c n m a ts le = early refl
  kept_suffix (suc k) x i c zero m a ts le = opened refl
  kept_suffix (suc k) x i c (suc n) zero a ts le = no_less n le
  kept_suffix (suc k) x i c (suc n) (suc m) a ts le =
      kept_limit n m (levels a) (less n m le) (kept_then _ _ (kept_applied k (bracket_at ts) x i n m a ts (less n m le))
      (λ b mid. kept_suffixes k x i c (suc n) (suc m) b mid le))

  kept_applied : (k : ℕ) (b : Option Bracket) (x : Origin) (i : Layout) (n m : ℕ) (a : Term) (ts : List Token) → n ≤ m
      → Kept (run_applied k b x i n a ts) (run_applied k b x i m a ts)
  kept_applied zero b x i n m a ts le = early refl
  kept_applied (suc k) None x i n m a ts le = alike refl
  kept_applied (suc k) (Some b) x i n m a ts le = kept_last _ (kept_enclosed k x b (names_behind a b (behind ts)) n m ts le)

  kept_atom : (k : ℕ) (x : Origin) (i : Layout) (n m : ℕ) (ts : List Token) → n ≤ m → Kept (run_atom k x i n ts) (run_atom k x i m ts)
  kept_atom zero x i n m ts le = early refl
  kept_atom (suc k) x i n m [] le = alike refl
  kept_atom (suc k) x i n m (tok ∷ ts) le = kept_grouped k (single x tok) (bracket_at (tok ∷ ts)) x i n m tok ts le

  kept_grouped : (k : ℕ) (o : Option Term) (b : Option Bracket) (x : Origin) (i : Layout) (n m : ℕ) (tok : Token) (ts : List Token) → n ≤ m
      → Kept (run_group k o b x i n tok ts) (run_group k o b x i m tok ts)
  kept_grouped zero o b x i n m tok ts le = early refl
  kept_grouped (suc k) (Some t) b x i n m tok ts le = alike refl
  kept_grouped (suc k) None None x i zero m tok ts le = opened refl
  kept_grouped (suc k) None (Some b) x i zero m tok ts le = opened refl
  kept_grouped (suc k) None b x i (suc n) zero tok ts le = no_less n le
  kept_grouped (suc k) None (Some b) x i (suc n) (suc m) tok ts le = kept_last _ (kept_enclosed k x b (names_in b ts) n m (tok ∷ ts) (less n m le))
  kept_grouped (suc k) None None x i (suc n) (suc m) tok ts le =
      kept_unless (is_at_sign tok.kind (spelling x tok)) (tok ∷ ts)
      (kept_unless (stays i ts) ts (kept_unless (square_at ts) ts (kept_last _ (kept_enclosed k x Square false n m ts (less n m le)))))

  kept_enclosed : (k : ℕ) (x : Origin) (b : Bracket) (names : Bool) (n m : ℕ) (ts : List Token) → n ≤ m
      → Kept (run_enclosed k x b names n ts) (run_enclosed k x b names m ts)
  kept_enclosed zero x b names n m ts le = early refl
  kept_enclosed (suc k) x b names n m ts le = kept_else (closes_at b (behind ts)) (got no_parts (behind (behind ts)))
      (kept_last _ (kept_list k x names n m (behind ts) le))

  kept_list : (k : ℕ) (x : Origin) (names : Bool) (n m : ℕ) (ts : List Token) → n ≤ m → Kept (run_list k x names n ts) (run_list k x names m ts)
  kept_list zero x names n m ts le = early refl
  kept_list (suc k) x names n m ts le = kept_then _ _ (kept_part k x names n m ts le) (λ a mid. kept_parts k x names n m (part a no_parts) mid le)

  kept_parts : (k : ℕ) (x : Origin) (names : Bool) (n m : ℕ) (some : Parts) (ts : List Token) → n ≤ m
      → Kept (run_parts k x names n some ts) (run_parts k x names m some ts)
  kept_parts zero x names n m some ts le = early refl
  kept_parts (suc k) x names n m some ts le =
      kept_if (kind_at (is_punct 44) ts) (got some ts)
      (kept_then _ _ (kept_part k x names n m (behind ts) le) (λ a mid. kept_parts k x names n m (and_part some a) mid le))

  kept_part : (k : ℕ) (x : Origin) (names : Bool) (n m : ℕ) (ts : List Token) → n ≤ m → Kept (run_part k x names n ts) (run_part k x names m ts)
  kept_part zero x names n m ts le = early refl
  kept_part (suc k) x false n m ts le = kept_expr k x Brackets n m ts le
  kept_part (suc k) x true n m [] le = alike refl
  kept_part (suc k) x true n m (tok ∷ ts) le =
      kept_unless (kind_at is_name (tok ∷ ts)) (tok ∷ ts) (kept_unless (kind_at (is_punct 58) ts) ts (kept_last _ (kept_expr k x Brackets n m (behind ts) le)))

  kept_the_if : (k : ℕ) (x : Origin) (i : Layout) (n m : ℕ) (ts : List Token) → n ≤ m → Kept (run_if k x i n ts) (run_if k x i m ts)
  kept_the_if zero x i n m ts le = early refl
  kept_the_if (suc k) x i zero m ts le = opened refl
  kept_the_if (suc k) x i (suc n) zero ts le = no_less n le
  kept_the_if (suc k) x i (suc n) (suc m) [] le = alike refl
  kept_the_if (suc k) x i (suc n) (suc m) (tok ∷ ts) le =
      kept_then _ _ (kept_tail k x i n m ts (less n m le)) (λ one mid.
      kept_then _ _ (kept_elifs k x i n m (choice (place_at x tok) one.tests one.value no_choices) mid (less n m le)) (λ all end.
      kept_last _ (kept_the_else k x i n m end (less n m le))))

  kept_tail : (k : ℕ) (x : Origin) (i : Layout) (n m : ℕ) (ts : List Token) → n ≤ m → Kept (run_tail k x i n ts) (run_tail k x i m ts)
  kept_tail zero x i n m ts le = early refl
  kept_tail (suc k) x i n m ts le =
      kept_unless (stays i ts) ts (kept_then _ _ (kept_expr k x (past_start i) n m ts le) (λ c mid. kept_last _ (kept_value k x i n m mid le)))

  kept_value : (k : ℕ) (x : Origin) (i : Layout) (n m : ℕ) (ts : List Token) → n ≤ m → Kept (run_value k x i n ts) (run_value k x i m ts)
  kept_value zero x i n m ts le = early refl
  kept_value (suc k) x i n m ts le =
      kept_unless (colon_at i ts) ts (kept_both (stays i (behind ts)) (kept_expr k x i n m (behind ts) le) (kept_own_line k x i n m (behind ts) le))

  kept_own_line : (k : ℕ) (x : Origin) (i : Layout) (n m : ℕ) (ts : List Token) → n ≤ m → Kept (run_own_line k x i n ts) (run_own_line k x i m ts)
  kept_own_line zero x i n m ts le = early refl
  kept_own_line (suc k) x i n m ts le = kept_unless (deeper_line_at i ts) ts (kept_last _ (kept_expr k x (line_layout i ts) n m ts le))

  kept_elifs : (k : ℕ) (x : Origin) (i : Layout) (n m : ℕ) (some : Choices) (ts : List Token) → n ≤ m
      → Kept (run_elifs k x i n some ts) (run_elifs k x i m some ts)
  kept_elifs zero x i n m some ts le = early refl
  kept_elifs (suc k) x i n m some [] le = alike refl
  kept_elifs (suc k) x i n m some (tok ∷ ts) le =
      kept_if (branch_at i is_elif (tok ∷ ts)) (got some (tok ∷ ts))
      (kept_then _ _ (kept_tail k x i n m ts le) (λ one mid. kept_elifs k x i n m (and_choice some (place_at x tok) one.tests one.value) mid le))

  kept_the_else : (k : ℕ) (x : Origin) (i : Layout) (n m : ℕ) (ts : List Token) → n ≤ m → Kept (run_else k x i n ts) (run_else k x i m ts)
  kept_the_else zero x i n m ts le = early refl
  kept_the_else (suc k) x i n m ts le = kept_unless (branch_at i is_else ts) ts (kept_value k x i n m (behind ts) le)

  kept_case : (k : ℕ) (x : Origin) (i : Layout) (n m : ℕ) (ts : List Token) → n ≤ m → Kept (run_case k x i n ts) (run_case k x i m ts)
  kept_case zero x i n m ts le = early refl
  kept_case (suc k) x i zero m ts le = opened refl
  kept_case (suc k) x i (suc n) zero ts le = no_less n le
  kept_case (suc k) x i (suc n) (suc m) [] le = alike refl
  kept_case (suc k) x i (suc n) (suc m) (tok ∷ ts) le =
      kept_unless (stays i ts) ts
      (kept_then _ _ (kept_expr k x (past_start i) n m ts (less n m le))
      (λ s mid. kept_branches k x i n m (place_at x tok) s (past_colon i mid) (less n m le)))

  kept_branches : (k : ℕ) (x : Origin) (i : Layout) (n m : ℕ) (at : Place) (s : Term) (ts : List Token) → n ≤ m
      → Kept (run_branches k x i n at s ts) (run_branches k x i m at s ts)
  kept_branches zero x i n m at s ts le = early refl
  kept_branches (suc k) x i n m at s [] le = alike refl
  kept_branches (suc k) x i n m at s (tok ∷ ts) le =
      kept_unless (first_of_at i (tok ∷ ts)) (tok ∷ ts) (
      kept_then _ _ (kept_of k x (branch_layout i tok.indent) n m ts le) (λ one mid.
      kept_then _ _ (kept_ofs k x (branch_layout i tok.indent) n m (choice (place_at x tok) one.tests one.value no_choices) mid le) (λ all end.
      kept_otherwise k x (branch_layout i tok.indent) n m at s all end le)))

  kept_of : (k : ℕ) (x : Origin) (i : Layout) (n m : ℕ) (ts : List Token) → n ≤ m → Kept (run_of k x i n ts) (run_of k x i m ts)
  kept_of zero x i n m ts le = early refl
  kept_of (suc k) x i n m ts le =
      kept_unless (stays i ts) ts (
      kept_then _ _ (kept_label k x (past_start i) n m ts le) (λ a mid.
      kept_then _ _ (kept_labels k x (past_start i) n m (part a no_parts) mid le) (λ labels end.
      kept_last _ (kept_value k x i n m end le))))

  kept_labels : (k : ℕ) (x : Origin) (i : Layout) (n m : ℕ) (some : Parts) (ts : List Token) → n ≤ m
      → Kept (run_labels k x i n some ts) (run_labels k x i m some ts)
  kept_labels zero x i n m some ts le = early refl
  kept_labels (suc k) x i n m some ts le =
      kept_if (comma_at i ts) (got some ts) (kept_then _ _ (kept_label k x i n m (behind ts) le) (λ a mid. kept_labels k x i n m (and_part some a) mid le))

  kept_label : (k : ℕ) (x : Origin) (i : Layout) (n m : ℕ) (ts : List Token) → n ≤ m → Kept (run_label k x i n ts) (run_label k x i m ts)
  kept_label zero x i n m ts le = early refl
  kept_label (suc k) x i n m ts le =
      kept_then _ _ (kept_expr k x i n m ts le) (λ a mid.
      kept_if (dots_at x i mid) (got a mid) (kept_unless (stays i (behind mid)) (behind mid) (kept_last _ (kept_expr k x i n m (behind mid) le))))

  kept_ofs : (k : ℕ) (x : Origin) (i : Layout) (n m : ℕ) (some : Choices) (ts : List Token) → n ≤ m → Kept (run_ofs k x i n some ts) (run_ofs k x i m some ts)
  kept_ofs zero x i n m some ts le = early refl
  kept_ofs (suc k) x i n m some [] le = alike refl
  kept_ofs (suc k) x i n m some (tok ∷ ts) le =
      kept_if (branch_at i is_of (tok ∷ ts)) (got some (tok ∷ ts))
      (kept_then _ _ (kept_of k x i n m ts le) (λ one mid. kept_ofs k x i n m (and_choice some (place_at x tok) one.tests one.value) mid le))

  kept_otherwise : (k : ℕ) (x : Origin) (i : Layout) (n m : ℕ) (at : Place) (s : Term) (all : Choices) (ts : List Token) → n ≤ m
      → Kept (run_otherwise k x i n at s all ts) (run_otherwise k x i m at s all ts)
  kept_otherwise zero x i n m at s all ts le = early refl
  kept_otherwise (suc k) x i n m at s all ts le = kept_if (else_on i ts) _ (kept_last _ (kept_value k x i n m (behind ts) le))
