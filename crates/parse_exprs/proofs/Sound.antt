-- What a computation reads is what the grammar spells, it is finished, and it has no more levels than were left.
use Rattle.std.proofs.Common.{◌≡◌, ℕ, zero, suc, ◌≤◌, List, [], ◌∷◌, Bool, true, false, refl, sym, ap, subst, ◌∙◌, inl, inr, arith}
use Rattle.std.specs.Prelude.{Option, Some, None, max, nat_lt, ◌&&◌, ◌||◌, is_some, not, if◌then◌else◌}
use Rattle.std.proofs.lemmas.Bool.{ltb-false}
use Rattle.arc_base.specs.declared.place.Place.{Place}
use Rattle.indent_scanner.specs.declared.token.Tok.{Tok}
use Rattle.indent_scanner.specs.declared.token.Tok.TheVariants as T
use Rattle.indent_scanner.specs.declared.token.Token.{Token}
use Rattle.nim_tree.specs.declared.expr.UnaryOp.{UnaryOp}
use Rattle.nim_tree.specs.declared.expr.BinaryOp.{BinaryOp}
use Rattle.nim_tree.specs.Terms.{Term, field, binary, range, Parts, no_parts, part, and_part, Choices, no_choices, choice, and_choice, place_of, levels}
use Rattle.nim_tree.specs.Terms.{most_levels, levels_in}
use Rattle.parse_exprs.specs.declared.layout.Layout.{Layout}
use Rattle.parse_exprs.specs.declared.layout.Layout.TheVariants.{Brackets}
use Rattle.parse_exprs.specs.declared.input.Bracket.{Bracket}
use Rattle.parse_exprs.specs.declared.input.Bracket.TheVariants.{Square}
use Rattle.parse_exprs.specs.declared.input.Lead.{Lead}
use Rattle.parse_exprs.specs.declared.input.Lead.TheVariants as L
use Rattle.parse_exprs.specs.Look.{Origin, spelling, place_at, goes_on, op_at, op_levels, single, grouped, applied, sign_of, is_at_sign, is_punct, bracket_of}
use Rattle.parse_exprs.specs.Look.{bracket_at, kind_at, closes_at, names_in, names_behind, name_on, is_suffix, is_apart, suffix_at, stays, square_at, is_square}
use Rattle.parse_exprs.specs.Look.{lead_at, branch_at, is_elif, is_else, is_of, first_of_at, branch_layout, colon_at, comma_at, past_colon, dots_at, is_name}
use Rattle.parse_exprs.specs.Look.{at_start, past_start, no_command_on, else_on, deeper_line_at, line_layout, closed_at}
use Rattle.parse_exprs.specs.Outcome.{Out, got, bad, deep}
use Rattle.parse_exprs.specs.Run.{Tail, behind, made, run_field, run_expr, run_lead, run_level, run_chain, run_more, run_unary, run_signed, run_primary}
use Rattle.parse_exprs.specs.Run.{run_suffixes, run_suffix, run_applied, run_atom, run_group, run_enclosed, run_list, run_parts, run_part, run_if, run_tail}
use Rattle.parse_exprs.specs.Run.{run_value, run_own_line, run_elifs, run_else, run_case, run_branches, run_of, run_labels, run_label, run_ofs, run_otherwise}
use Rattle.parse_exprs.specs.Grammar.{SpellsExpr, p_operators, p_if, p_case, Spells, p_unary, p_binary, SpellsMore, p_none, p_more, SpellsUnary, p_sign}
use Rattle.parse_exprs.specs.Grammar.{p_plain, SpellsPrimary, p_primary, SpellsSuffixes, p_done, p_suffix, SpellsSuffix, p_field, p_applied, SpellsAtom}
use Rattle.parse_exprs.specs.Grammar.{p_token, p_group, p_sequence, SpellsEnclosed, p_empty, p_parts, SpellsParts, p_first, SpellsMoreParts, p_over, p_part}
use Rattle.parse_exprs.specs.Grammar.{SpellsPart, p_unnamed, p_named, SpellsTail, p_tail, SpellsValue, p_value, p_own_line, SpellsElifs, p_no_elif, p_elif}
use Rattle.parse_exprs.specs.Grammar.{SpellsElse, p_else, SpellsBranches, p_branches, SpellsOf, p_of, SpellsLabels, p_last_label, p_label, SpellsLabel, p_one}
use Rattle.parse_exprs.specs.Grammar.{p_range, SpellsOfs, p_last_of, p_next_of, SpellsOtherwise, p_no_else, p_with_else, Stops}
use Rattle.parse_exprs.specs.Faults.{Done}
use Rattle.parse_exprs.proofs.Settling.{then_got, unless_got, got_one, if_split}
use Rattle.parse_exprs.proofs.Stopping.{both_of, punct_is, one_more, suffix_stops, branch_stops, start_stops, stops_start, line_stops, command_stops}
use Rattle.parse_exprs.proofs.Stopping.{else_with_colon}
use Rattle.parse_exprs.proofs.Levels.{most_and, levels_and, single_level, grouped_levels, applied_levels}

-- of at most n levels
pub record Read (n most : ℕ) (spelled : Type 0) : Type 0 where
  pub spells : spelled
  pub few : most ≤ n

-- and nothing that stands behind an atom follows
pub record Behind (i : Layout) (c : Bool) (n most : ℕ) (spelled : Type 0) (rest : List Token) : Type 0 where
  pub spells : spelled
  pub few : most ≤ n
  pub stops : suffix_at i c rest ≡ false

pub same_got : {X : Type 0} {a t : X} {r s : List Token} (P : X → List Token → Type 0) → got a r ≡ got t s → P a r → P t s
same_got {t = t} {r = r} P e p = let h = got_one e in subst (P t) h.1 (subst (λ u. P u r) h.0 p)

-- a level is left, and it goes on
pub record Free {X : Type 0} (n m : ℕ) (go o : Out X) : Type 0 where
  pub few : m ≤ n
  pub same : go ≡ o

pub limit_got : {X : Type 0} {t : X} {rest : List Token} (n m : ℕ) (go : Out X) → (if nat_lt n m then bad deep else go) ≡ got t rest → Free n m go (got t rest)
limit_got {X} {t} {rest} n m go e = elim (if_split (nat_lt n m) (bad deep) go e) as (λ w. Free n m go (got t rest)) [
  | inl h ↦ (let f = h.same in cc)
  | inr h ↦
      record { few = ltb-false n m h.is; same = h.same }
]

made_got : {t : Term} {rest : List Token} (o : Option Term) (at mid : List Token) → made o at mid ≡ got t rest → (o ≡ Some t) × (mid ≡ rest)
made_got None at mid e = cc
made_got (Some u) at mid e = let h = got_one e in (ap (λ w. Some w) h.0, h.1)

-- ---- a field

point_of : (k : Tok) → is_suffix k ≡ true → bracket_of k ≡ None → k ≡ T.Punct 46
point_of k e h = punct_is 46 k (sym (ap (λ o. is_some o || is_punct 46 k) h) ∙ e)

pub name_is : (k : Tok) → is_name k ≡ true → k ≡ T.Name
name_is T.Name e = refl
name_is _ e = cc

record NameHere (i : Layout) (here tok : Token) : Type 0 where
  pub same : here ≡ tok
  pub on : goes_on i here.indent ≡ true
  pub name : here.kind ≡ T.Name

name_here : (i : Layout) (b : Bool) (here tok : Token) → (goes_on i here.indent && is_name here.kind) ≡ b → (if b then Some here else None) ≡ Some tok
    → NameHere i here tok
name_here i true here tok h e = let g = both_of (goes_on i here.indent) (is_name here.kind) h in record { same = cc; on = g.0; name = name_is here.kind g.1 }
name_here i false here tok h e = cc

sound_field : {t : Term} {rest : List Token} (x : Origin) (i : Layout) (c : Bool) (n : ℕ) (a : Term) (ts : List Token) (o : Option Token) → bracket_at ts ≡ None
    → suffix_at i c ts ≡ true → levels a ≤ n
    → name_on i (behind ts) ≡ o → run_field o x a ts ≡ got t rest → Read (suc n) (levels t) (SpellsSuffix x i a t ts rest)
sound_field x i c n a ts None is on few h e = cc
sound_field x i c n a [] (Some tok) is on few h e = cc
sound_field x i c n a (dot ∷ []) (Some tok) is on few h e = cc
sound_field x i c n a (dot ∷ here ∷ ts) (Some tok) is on few h e =
    let g = name_here i _ here tok refl h in
    let s = both_of (is_suffix dot.kind) (not (is_apart c dot)) (both_of (goes_on i dot.indent) (is_suffix dot.kind && not (is_apart c dot)) on).1 in
    same_got (λ t rest. Read (suc n) (levels t) (SpellsSuffix x i a t (dot ∷ here ∷ ts) rest))
    (ap (λ w. got (field (place_of a) a (spelling x w)) ts) g.same ∙ e)
    (record { spells = p_field (point_of dot.kind s.0 is) g.on g.name; few = omega (arith, few) })

pub square_is : (ts : List Token) (o : Option Bracket) → bracket_at ts ≡ o → is_square o ≡ true → bracket_at ts ≡ Some Square
square_is ts (Some Square) h e = h
square_is ts _ h e = cc

-- ---- brackets

sound_empty : {parts : Parts} {rest : List Token} (x : Origin) (b : Bracket) (m : Bool) (n : ℕ) (tok : Token) (ts : List Token) → bracket_at (tok ∷ ts) ≡ Some b
    → closes_at b ts ≡ true
    → got no_parts (behind ts) ≡ got parts rest → Read n (most_levels parts) (SpellsEnclosed x b m parts (tok ∷ ts) rest)
sound_empty x b m n tok [] is h e = cc
sound_empty x b m n tok (end ∷ ts) is h e =
    same_got (λ parts rest. Read n (most_levels parts) (SpellsEnclosed x b m parts (tok ∷ end ∷ ts) rest)) e
    (record { spells = p_empty is h; few = omega arith })

sound_closed : {parts : Parts} {rest : List Token} (x : Origin) (b : Bracket) (m : Bool) (n : ℕ) (tok : Token) (ts : List Token) (all : Parts)
    (mid : List Token) → bracket_at (tok ∷ ts) ≡ Some b → closes_at b ts ≡ false
    → Done x Brackets op_levels n (most_levels all) (SpellsParts x m all ts mid) mid → closes_at b mid ≡ true → got all (behind mid) ≡ got parts rest
    → Read n (most_levels parts) (SpellsEnclosed x b m parts (tok ∷ ts) rest)
sound_closed x b m n tok ts all [] is h d k e = cc
sound_closed x b m n tok ts all (end ∷ mid) is h d k e =
    same_got (λ parts rest. Read n (most_levels parts) (SpellsEnclosed x b m parts (tok ∷ ts) rest)) e
    (record { spells = p_parts is h d.spells k; few = d.few })

-- ---- a range

ranged : (x : Origin) (i : Layout) (n : ℕ) (a b : Term) (ts mid rest : List Token) → Done x i op_levels n (levels a) (SpellsExpr x i a ts mid) mid
    → dots_at x i mid ≡ true → stays i (behind mid) ≡ true
    → Done x i op_levels n (levels b) (SpellsExpr x i b (behind mid) rest) rest → Done x i op_levels n (levels (range (place_of a) a b))
    (SpellsLabel x i (range (place_of a) a b) ts rest) rest
ranged x i n a b ts [] rest d h on c = cc
ranged x i n a b ts (tok ∷ mid) rest d h on c = record {
  spells = p_range d.spells h on c.spells;
  few = (let p = d.few in let q = c.few in omega (arith, p, q));
  stops = c.stops;
}

-- a value on lines of its own
pub record OwnLine (x : Origin) (i : Layout) (n : ℕ) (v : Term) (ts rest : List Token) : Type 0 where
  pub deeper : deeper_line_at i ts ≡ true
  pub value : Done x (line_layout i ts) op_levels n (levels v) (SpellsExpr x (line_layout i ts) v ts rest) rest
  pub closed : closed_at (line_layout i ts) rest ≡ true

mutual
  pub sound_expr : {t : Term} {rest : List Token} (k : ℕ) (x : Origin) (i : Layout) (n : ℕ) (ts : List Token) → run_expr k x i n ts ≡ got t rest
      → Done x i op_levels n (levels t) (SpellsExpr x i t ts rest) rest
  sound_expr zero x i n ts e = cc
  sound_expr (suc k) x i n ts e = sound_lead k (lead_at ts) x i n ts refl e

  sound_lead : {t : Term} {rest : List Token} (k : ℕ) (lead : Lead) (x : Origin) (i : Layout) (n : ℕ) (ts : List Token) → lead_at ts ≡ lead
      → run_lead k lead x i n ts ≡ got t rest
      → Done x i op_levels n (levels t) (SpellsExpr x i t ts rest) rest
  sound_lead zero lead x i n ts is e = cc
  sound_lead (suc k) L.Operand x i n ts is e =
      let h = sound_level k x i op_levels n ts e in
      record { spells = p_operators h.spells; few = h.few; stops = h.stops }
  sound_lead (suc k) L.If x i n ts is e = sound_if k x i n ts is e
  sound_lead (suc k) L.Case x i n ts is e = sound_case k x i n ts is e

  -- ---- operators

  pub sound_level : {t : Term} {rest : List Token} (k : ℕ) (x : Origin) (i : Layout) (l n : ℕ) (ts : List Token) → run_level k x i l n ts ≡ got t rest
      → Done x i l n (levels t) (Spells x i l t ts rest) rest
  sound_level zero x i l n ts e = cc
  sound_level (suc k) x i zero n ts e = let h = sound_unary k x i n ts e in record { spells = p_unary h.spells; few = h.few; stops = h.stops }
  sound_level {rest = rest} (suc k) x i (suc l) n ts e =
      let f = then_got (run_level k x i l n ts) (λ a mid. run_chain k x (past_start i) l n a mid) e in
      let d = sound_level k x i l n ts f.first in
      let c = sound_chain k x (past_start i) l n f.value f.mid d.few (stops_start x i l f.mid d.stops) f.next in
      record { spells = p_binary d.spells c.spells; few = c.few; stops = start_stops x i (suc l) rest c.stops }

  sound_chain : {t : Term} {rest : List Token} (k : ℕ) (x : Origin) (i : Layout) (l n : ℕ) (a : Term) (ts : List Token) → levels a ≤ n → Stops x i l ts
      → run_chain k x i l n a ts ≡ got t rest
      → Done x i (suc l) n (levels t) (SpellsMore x i l a t ts rest) rest
  sound_chain zero x i l n a ts few s e = cc
  sound_chain (suc k) x i l n a ts few s e = sound_more k (op_at x i l ts) x i l n a ts refl few s e

  sound_more : {t : Term} {rest : List Token} (k : ℕ) (op : Option BinaryOp) (x : Origin) (i : Layout) (l n : ℕ) (a : Term) (ts : List Token)
      → op_at x i l ts ≡ op → levels a ≤ n → Stops x i l ts
      → run_more k op x i l n a ts ≡ got t rest → Done x i (suc l) n (levels t) (SpellsMore x i l a t ts rest) rest
  sound_more zero op x i l n a ts is few s e = cc
  sound_more (suc k) None x i l n a ts is few s e =
      same_got (λ t rest. Done x i (suc l) n (levels t) (SpellsMore x i l a t ts rest) rest) e
      (record { spells = p_none; few = few; stops = one_more x i l ts s is })
  sound_more (suc k) (Some op) x i l zero a ts is few s e = cc
  sound_more (suc k) (Some op) x i l (suc n) a [] is few s e = cc
  sound_more (suc k) (Some op) x i l (suc n) a (tok ∷ ts) is few s e =
      let g = limit_got n (levels a) _ e in
      let f = then_got _ _ g.same in
      let d = sound_level k x i l n ts f.first in
      let c = sound_chain k x i l (suc n) (binary (place_of a) op a f.value) f.mid (let p = g.few in let q = d.few in omega (arith, p, q)) d.stops f.next in
      record { spells = p_more is d.spells c.spells; few = c.few; stops = c.stops }

  sound_unary : {t : Term} {rest : List Token} (k : ℕ) (x : Origin) (i : Layout) (n : ℕ) (ts : List Token) → run_unary k x i n ts ≡ got t rest
      → Done x i 0 n (levels t) (SpellsUnary x i t ts rest) rest
  sound_unary zero x i n ts e = cc
  sound_unary (suc k) x i zero ts e = cc
  sound_unary (suc k) x i (suc n) [] e = cc
  sound_unary (suc k) x i (suc n) (tok ∷ ts) e = sound_signed k (sign_of tok.kind (spelling x tok)) x i n tok ts refl e

  sound_signed : {t : Term} {rest : List Token} (k : ℕ) (op : Option UnaryOp) (x : Origin) (i : Layout) (n : ℕ) (tok : Token) (ts : List Token)
      → sign_of tok.kind (spelling x tok) ≡ op
      → run_signed k op x i n tok ts ≡ got t rest → Done x i 0 (suc n) (levels t) (SpellsUnary x i t (tok ∷ ts) rest) rest
  sound_signed zero op x i n tok ts is e = cc
  sound_signed (suc k) None x i n tok ts is e =
      let f = then_got _ _ e in
      let h = sound_primary k x i (at_start i) n (tok ∷ ts) f.first in
      let g = unless_got (no_command_on x i f.mid) f.mid _ f.next in
      same_got (λ t rest. Done x i 0 (suc n) (levels t) (SpellsUnary x i t (tok ∷ ts) rest) rest) g.1
      (record { spells = p_plain h.spells g.0; few = h.few; stops = suffix_stops x i f.mid (command_stops x i f.mid h.stops g.0) })
  sound_signed (suc k) (Some op) x i n tok ts is e =
      let g = unless_got (stays i ts) ts _ e in
      let f = then_got _ _ g.1 in
      let h = sound_unary k x (past_start i) n ts f.first in
      same_got (λ t rest. Done x i 0 (suc n) (levels t) (SpellsUnary x i t (tok ∷ ts) rest) rest) f.next
      (record { spells = p_sign is g.0 h.spells; few = (let p = h.few in omega (arith, p)); stops = start_stops x i 0 f.mid h.stops })

  -- ---- what stands behind an atom

  pub sound_primary : {t : Term} {rest : List Token} (k : ℕ) (x : Origin) (i : Layout) (c : Bool) (n : ℕ) (ts : List Token) → run_primary k x i c (suc n) ts
      ≡ got t rest
      → Behind i c (suc n) (levels t) (SpellsPrimary x i c t ts rest) rest
  sound_primary zero x i c n ts e = cc
  sound_primary (suc k) x i c n ts e =
      let f = then_got _ _ e in
      let d = sound_atom k x i n ts f.first in
      let s = sound_suffixes k x i c n f.value f.mid d.few f.next in
      record { spells = p_primary d.spells s.spells; few = s.few; stops = s.stops }

  sound_suffixes : {t : Term} {rest : List Token} (k : ℕ) (x : Origin) (i : Layout) (c : Bool) (n : ℕ) (a : Term) (ts : List Token) → levels a ≤ suc n
      → run_suffixes k x i c (suc n) a ts ≡ got t rest
      → Behind i c (suc n) (levels t) (SpellsSuffixes x i c a t ts rest) rest
  sound_suffixes zero x i c n a ts few e = cc
  sound_suffixes {t} {rest} (suc k) x i c n a ts few e =
      elim (if_split (suffix_at i c ts) _ _ e) as (λ w. Behind i c (suc n) (levels t) (SpellsSuffixes x i c a t ts rest) rest) [
        | inl h ↦ sound_suffix k x i c n a ts h.is h.same
        | inr h ↦ same_got (λ t rest. Behind i c (suc n) (levels t) (SpellsSuffixes x i c a t ts rest) rest) h.same
            (record { spells = p_done; few = few; stops = h.is })
      ]

  sound_suffix : {t : Term} {rest : List Token} (k : ℕ) (x : Origin) (i : Layout) (c : Bool) (n : ℕ) (a : Term) (ts : List Token) → suffix_at i c ts ≡ true
      → run_suffix k x i c (suc n) a ts ≡ got t rest
      → Behind i c (suc n) (levels t) (SpellsSuffixes x i c a t ts rest) rest
  sound_suffix zero x i c n a ts on e = cc
  sound_suffix (suc k) x i c n a ts on e =
      let g = limit_got n (levels a) _ e in
      let f = then_got _ _ g.same in
      let d = sound_applied k (bracket_at ts) x i c n a ts refl on g.few f.first in
      let s = sound_suffixes k x i c n f.value f.mid d.few f.next in
      record { spells = p_suffix on d.spells s.spells; few = s.few; stops = s.stops }

  pub sound_applied : {t : Term} {rest : List Token} (k : ℕ) (b : Option Bracket) (x : Origin) (i : Layout) (c : Bool) (n : ℕ) (a : Term) (ts : List Token)
      → bracket_at ts ≡ b → suffix_at i c ts ≡ true → levels a ≤ n
      → run_applied k b x i n a ts ≡ got t rest → Read (suc n) (levels t) (SpellsSuffix x i a t ts rest)
  sound_applied zero b x i c n a ts is on few e = cc
  sound_applied (suc k) None x i c n a ts is on few e = sound_field x i c n a ts (name_on i (behind ts)) is on few refl e
  sound_applied (suc k) (Some b) x i c n a [] is on few e = cc
  sound_applied {t} (suc k) (Some b) x i c n a (tok ∷ ts) is on few e =
      let m = names_behind a b ts in
      let f = then_got _ _ e in
      let d = sound_enclosed k x b m n (tok ∷ ts) is f.first in
      let g = made_got (applied b m a f.value) ts f.mid f.next in
      subst (λ r. Read (suc n) (levels t) (SpellsSuffix x i a t (tok ∷ ts) r)) g.1
      (record { spells = p_applied refl d.spells g.0; few = (let p = applied_levels b m a f.value t g.0 in let q = d.few in omega (arith, p, q, few)) })

  pub sound_atom : {t : Term} {rest : List Token} (k : ℕ) (x : Origin) (i : Layout) (n : ℕ) (ts : List Token) → run_atom k x i (suc n) ts ≡ got t rest
      → Read (suc n) (levels t) (SpellsAtom x i t ts rest)
  sound_atom zero x i n ts e = cc
  sound_atom (suc k) x i n [] e = cc
  sound_atom (suc k) x i n (tok ∷ ts) e = sound_group k (single x tok) (bracket_at (tok ∷ ts)) x i n tok ts refl refl e

  sound_group : {t : Term} {rest : List Token} (k : ℕ) (o : Option Term) (b : Option Bracket) (x : Origin) (i : Layout) (n : ℕ) (tok : Token) (ts : List Token)
      → single x tok ≡ o → bracket_at (tok ∷ ts) ≡ b
      → run_group k o b x i (suc n) tok ts ≡ got t rest → Read (suc n) (levels t) (SpellsAtom x i t (tok ∷ ts) rest)
  sound_group zero o b x i n tok ts is h e = cc
  sound_group (suc k) (Some u) b x i n tok ts is h e =
      same_got (λ t rest. Read (suc n) (levels t) (SpellsAtom x i t (tok ∷ ts) rest)) e
      (record { spells = p_token is; few = (let one = single_level x tok u is in omega (arith, one)) })
  sound_group {t} (suc k) None (Some b) x i n tok ts is h e =
      let m = names_in b ts in
      let f = then_got _ _ e in
      let d = sound_enclosed k x b m n (tok ∷ ts) h f.first in
      let g = made_got (grouped b m (place_at x tok) f.value) ts f.mid f.next in
      subst (λ r. Read (suc n) (levels t) (SpellsAtom x i t (tok ∷ ts) r)) g.1
      (record { spells = p_group refl d.spells g.0; few = (let p = grouped_levels b m (place_at x tok) f.value t g.0 in let q = d.few in omega (arith, p, q)) })
  sound_group (suc k) None None x i n tok ts is h e =
      let at = unless_got (is_at_sign tok.kind (spelling x tok)) (tok ∷ ts) _ e in
      let on = unless_got (stays i ts) ts _ at.1 in
      let square = unless_got (square_at ts) ts _ on.1 in
      let f = then_got _ _ square.1 in
      let d = sound_enclosed k x Square false n ts (square_is ts (bracket_at ts) refl square.0) f.first in
      same_got (λ t rest. Read (suc n) (levels t) (SpellsAtom x i t (tok ∷ ts) rest)) f.next
      (record { spells = p_sequence at.0 on.0 d.spells; few = (let q = d.few in omega (arith, q)) })

  -- ---- parts in brackets

  pub sound_enclosed : {parts : Parts} {rest : List Token} (k : ℕ) (x : Origin) (b : Bracket) (m : Bool) (n : ℕ) (ts : List Token) → bracket_at ts ≡ Some b
      → run_enclosed k x b m n ts ≡ got parts rest
      → Read n (most_levels parts) (SpellsEnclosed x b m parts ts rest)
  sound_enclosed zero x b m n ts is e = cc
  sound_enclosed (suc k) x b m n [] is e = cc
  sound_enclosed {parts} {rest} (suc k) x b m n (tok ∷ ts) is e =
      elim (if_split (closes_at b ts) _ _ e) as (λ w. Read n (most_levels parts) (SpellsEnclosed x b m parts (tok ∷ ts) rest)) [
        | inl h ↦ sound_empty x b m n tok ts is h.is h.same
        | inr h ↦ (
            let f = then_got _ _ h.same in
            let d = sound_list k x m n ts f.first in
            let g = unless_got (closes_at b f.mid) f.mid _ f.next in
            sound_closed x b m n tok ts f.value f.mid is h.is d g.0 g.1)
      ]

  pub sound_list : {parts : Parts} {rest : List Token} (k : ℕ) (x : Origin) (m : Bool) (n : ℕ) (ts : List Token) → run_list k x m n ts ≡ got parts rest
      → Done x Brackets op_levels n (most_levels parts) (SpellsParts x m parts ts rest) rest
  sound_list zero x m n ts e = cc
  sound_list (suc k) x m n ts e =
      let f = then_got _ _ e in
      let d = sound_part k x m n ts f.first in
      let c = sound_parts k x m n (part f.value no_parts) f.mid (let p = d.few in omega (arith, p)) d.stops f.next in
      record { spells = p_first d.spells c.spells; few = c.few; stops = c.stops }

  sound_parts : {parts : Parts} {rest : List Token} (k : ℕ) (x : Origin) (m : Bool) (n : ℕ) (some : Parts) (ts : List Token) → most_levels some ≤ n
      → Stops x Brackets op_levels ts
      → run_parts k x m n some ts ≡ got parts rest → Done x Brackets op_levels n (most_levels parts) (SpellsMoreParts x m some parts ts rest) rest
  sound_parts zero x m n some ts few s e = cc
  sound_parts (suc k) x m n some [] few s e =
      same_got (λ parts rest. Done x Brackets op_levels n (most_levels parts) (SpellsMoreParts x m some parts [] rest) rest) e
      (record { spells = p_over refl; few = few; stops = s })
  sound_parts {parts} {rest} (suc k) x m n some (tok ∷ ts) few s e =
      elim (if_split (kind_at (is_punct 44) (tok ∷ ts)) _ _ e) as (λ w. Done x Brackets op_levels n (most_levels parts)
      (SpellsMoreParts x m some parts (tok ∷ ts) rest) rest) [
        | inl h ↦ (
            let f = then_got _ _ h.same in
            let d = sound_part k x m n ts f.first in
            let c = sound_parts k x m n (and_part some f.value) f.mid (let p = most_and some f.value in let q = d.few in omega (arith, p, q, few))
            d.stops f.next in
            record { spells = p_part h.is d.spells c.spells; few = c.few; stops = c.stops })
        | inr h ↦ same_got (λ parts rest. Done x Brackets op_levels n (most_levels parts) (SpellsMoreParts x m some parts (tok ∷ ts) rest) rest) h.same
            (record { spells = p_over h.is; few = few; stops = s })
      ]

  pub sound_part : {t : Term} {rest : List Token} (k : ℕ) (x : Origin) (m : Bool) (n : ℕ) (ts : List Token) → run_part k x m n ts ≡ got t rest
      → Done x Brackets op_levels n (levels t) (SpellsPart x m t ts rest) rest
  sound_part zero x m n ts e = cc
  sound_part (suc k) x false n ts e = let h = sound_expr k x Brackets n ts e in record { spells = p_unnamed h.spells; few = h.few; stops = h.stops }
  sound_part (suc k) x true n [] e = cc
  sound_part (suc k) x true n (tok ∷ []) e = let h = unless_got (kind_at is_name (tok ∷ [])) (tok ∷ []) _ e in let f = h.1 in cc
  sound_part (suc k) x true n (tok ∷ colon ∷ ts) e =
      let g = unless_got (kind_at is_name (tok ∷ colon ∷ ts)) (tok ∷ colon ∷ ts) _ e in
      let h = unless_got (kind_at (is_punct 58) (colon ∷ ts)) (colon ∷ ts) _ g.1 in
      let f = then_got _ _ h.1 in
      let d = sound_expr k x Brackets n ts f.first in
      same_got (λ t rest. Done x Brackets op_levels n (levels t) (SpellsPart x true t (tok ∷ colon ∷ ts) rest) rest) f.next
      (record { spells = p_named (name_is tok.kind g.0) (punct_is 58 colon.kind h.0) d.spells; few = d.few; stops = d.stops })

  -- ---- branches

  sound_if : {t : Term} {rest : List Token} (k : ℕ) (x : Origin) (i : Layout) (n : ℕ) (ts : List Token) → lead_at ts ≡ L.If → run_if k x i n ts ≡ got t rest
      → Done x i op_levels n (levels t) (SpellsExpr x i t ts rest) rest
  sound_if zero x i n ts is e = cc
  sound_if (suc k) x i zero ts is e = cc
  sound_if (suc k) x i (suc n) [] is e = cc
  sound_if (suc k) x i (suc n) (tok ∷ ts) is e =
      let f = then_got _ _ e in
      let d = sound_tail k x i n ts f.first in
      let g = then_got _ _ f.next in
      let c = sound_elifs k x i n (choice (place_at x tok) f.value.tests f.value.value no_choices) f.mid (let p = d.few in omega (arith, p)) d.stops g.first in
      let h = then_got _ _ g.next in
      let b = sound_else k x i n g.mid h.first in
      same_got (λ t rest. Done x i op_levels (suc n) (levels t) (SpellsExpr x i t (tok ∷ ts) rest) rest) h.next
      (record { spells = p_if is d.spells c.spells b.spells; few = (let p = c.few in let q = b.few in omega (arith, p, q)); stops = b.stops })

  pub sound_tail : {one : Tail} {rest : List Token} (k : ℕ) (x : Origin) (i : Layout) (n : ℕ) (ts : List Token) → run_tail k x i n ts ≡ got one rest
      → Done x i op_levels n (max (most_levels one.tests) (levels one.value)) (SpellsTail x i one.tests one.value ts rest) rest
  sound_tail zero x i n ts e = cc
  sound_tail (suc k) x i n ts e =
      let on = unless_got (stays i ts) ts _ e in
      let f = then_got _ _ on.1 in
      let d = sound_expr k x (past_start i) n ts f.first in
      let g = then_got _ _ f.next in
      let c = sound_value k x i n f.mid g.first in
      same_got (λ one rest. Done x i op_levels n (max (most_levels one.tests) (levels one.value)) (SpellsTail x i one.tests one.value ts rest) rest) g.next
      (record { spells = p_tail on.0 d.spells c.spells; few = (let p = d.few in let q = c.few in omega (arith, p, q)); stops = c.stops })

  pub sound_value : {t : Term} {rest : List Token} (k : ℕ) (x : Origin) (i : Layout) (n : ℕ) (ts : List Token) → run_value k x i n ts ≡ got t rest
      → Done x i op_levels n (levels t) (SpellsValue x i t ts rest) rest
  sound_value zero x i n ts e = cc
  sound_value (suc k) x i n [] e = cc
  sound_value {t} {rest} (suc k) x i n (tok ∷ ts) e =
      let g = unless_got (colon_at i (tok ∷ ts)) (tok ∷ ts) _ e in
      elim (if_split (stays i ts) _ _ g.1) as (λ w. Done x i op_levels n (levels t) (SpellsValue x i t (tok ∷ ts) rest) rest) [
        | inl h ↦ (let d = sound_expr k x i n ts h.same in record { spells = p_value g.0 h.is d.spells; few = d.few; stops = d.stops })
        | inr h ↦ (
            let o = sound_own_line k x i n ts h.same in
            record { spells = p_own_line g.0 o.deeper o.value.spells o.closed; few = o.value.few; stops = line_stops x i ts op_levels rest o.value.stops })
      ]

  pub sound_own_line : {t : Term} {rest : List Token} (k : ℕ) (x : Origin) (i : Layout) (n : ℕ) (ts : List Token) → run_own_line k x i n ts ≡ got t rest
      → OwnLine x i n t ts rest
  sound_own_line zero x i n ts e = cc
  sound_own_line (suc k) x i n ts e =
      let g = unless_got (deeper_line_at i ts) ts _ e in
      let f = then_got _ _ g.1 in
      let d = sound_expr k x (line_layout i ts) n ts f.first in
      let h = unless_got (closed_at (line_layout i ts) f.mid) f.mid _ f.next in
      same_got (λ t rest. OwnLine x i n t ts rest) h.1 (record { deeper = g.0; value = d; closed = h.0 })

  pub sound_elifs : {all : Choices} {rest : List Token} (k : ℕ) (x : Origin) (i : Layout) (n : ℕ) (some : Choices) (ts : List Token) → levels_in some ≤ n
      → Stops x i op_levels ts
      → run_elifs k x i n some ts ≡ got all rest → Done x i op_levels n (levels_in all) (SpellsElifs x i some all ts rest) rest
  sound_elifs zero x i n some ts few s e = cc
  sound_elifs (suc k) x i n some [] few s e =
      same_got (λ all rest. Done x i op_levels n (levels_in all) (SpellsElifs x i some all [] rest) rest) e
      (record { spells = p_no_elif refl; few = few; stops = s })
  sound_elifs {all} {rest} (suc k) x i n some (tok ∷ ts) few s e =
      elim (if_split (branch_at i is_elif (tok ∷ ts)) _ _ e) as (λ w. Done x i op_levels n (levels_in all) (SpellsElifs x i some all (tok ∷ ts) rest) rest) [
        | inl h ↦ (
            let f = then_got _ _ h.same in
            let d = sound_tail k x i n ts f.first in
            let some_more = levels_and some (place_at x tok) f.value.tests f.value.value in
            let c = sound_elifs k x i n (and_choice some (place_at x tok) f.value.tests f.value.value) f.mid (let q = d.few in omega (arith, some_more, q, few))
            d.stops f.next in
            record { spells = p_elif h.is d.spells c.spells; few = c.few; stops = c.stops })
        | inr h ↦ same_got (λ all rest. Done x i op_levels n (levels_in all) (SpellsElifs x i some all (tok ∷ ts) rest) rest) h.same
            (record { spells = p_no_elif h.is; few = few; stops = s })
      ]

  pub sound_else : {t : Term} {rest : List Token} (k : ℕ) (x : Origin) (i : Layout) (n : ℕ) (ts : List Token) → run_else k x i n ts ≡ got t rest
      → Done x i op_levels n (levels t) (SpellsElse x i t ts rest) rest
  sound_else zero x i n ts e = cc
  sound_else (suc k) x i n [] e = cc
  sound_else (suc k) x i n (tok ∷ ts) e =
      let g = unless_got (branch_at i is_else (tok ∷ ts)) (tok ∷ ts) _ e in
      let d = sound_value k x i n ts g.1 in
      record { spells = p_else g.0 d.spells; few = d.few; stops = d.stops }

  sound_case : {t : Term} {rest : List Token} (k : ℕ) (x : Origin) (i : Layout) (n : ℕ) (ts : List Token) → lead_at ts ≡ L.Case
      → run_case k x i n ts ≡ got t rest
      → Done x i op_levels n (levels t) (SpellsExpr x i t ts rest) rest
  sound_case zero x i n ts is e = cc
  sound_case (suc k) x i zero ts is e = cc
  sound_case (suc k) x i (suc n) [] is e = cc
  sound_case (suc k) x i (suc n) (tok ∷ ts) is e =
      let on = unless_got (stays i ts) ts _ e in
      let f = then_got _ _ on.1 in
      let d = sound_expr k x (past_start i) n ts f.first in
      let b = sound_branches k x i n (place_at x tok) f.value (past_colon i f.mid) d.few f.next in
      record { spells = p_case is on.0 d.spells b.spells; few = b.few; stops = b.stops }

  sound_branches : {t : Term} {rest : List Token} (k : ℕ) (x : Origin) (i : Layout) (n : ℕ) (at : Place) (s : Term) (ts : List Token) → levels s ≤ n
      → run_branches k x i n at s ts ≡ got t rest
      → Done x i op_levels (suc n) (levels t) (SpellsBranches x i at s t ts rest) rest
  sound_branches zero x i n at s ts few e = cc
  sound_branches (suc k) x i n at s [] few e = cc
  sound_branches {t} {rest} (suc k) x i n at s (tok ∷ ts) few e =
      let on = unless_got (first_of_at i (tok ∷ ts)) (tok ∷ ts) _ e in
      let f = then_got _ _ on.1 in
      let j = branch_layout i tok.indent in
      let d = sound_of k x j n ts f.first in
      let g = then_got _ _ f.next in
      let c = sound_ofs k x j n (choice (place_at x tok) f.value.tests f.value.value no_choices) f.mid (let p = d.few in omega (arith, p)) d.stops g.first in
      let b = sound_otherwise k x j n at s g.value g.mid few c.few c.stops g.next in
      record { spells = p_branches on.0 d.spells c.spells b.spells; few = b.few; stops = branch_stops x i tok.indent op_levels rest b.stops }

  pub sound_of : {one : Tail} {rest : List Token} (k : ℕ) (x : Origin) (i : Layout) (n : ℕ) (ts : List Token) → run_of k x i n ts ≡ got one rest
      → Done x i op_levels n (max (most_levels one.tests) (levels one.value)) (SpellsOf x i one.tests one.value ts rest) rest
  sound_of zero x i n ts e = cc
  sound_of (suc k) x i n ts e =
      let on = unless_got (stays i ts) ts _ e in
      let f = then_got _ _ on.1 in
      let d = sound_label k x (past_start i) n ts f.first in
      let g = then_got _ _ f.next in
      let c = sound_labels k x (past_start i) n (part f.value no_parts) f.mid (let p = d.few in omega (arith, p)) d.stops g.first in
      let h = then_got _ _ g.next in
      let v = sound_value k x i n g.mid h.first in
      same_got (λ one rest. Done x i op_levels n (max (most_levels one.tests) (levels one.value)) (SpellsOf x i one.tests one.value ts rest) rest) h.next
      (record { spells = p_of on.0 d.spells c.spells v.spells; few = (let p = c.few in let q = v.few in omega (arith, p, q)); stops = v.stops })

  pub sound_labels : {all : Parts} {rest : List Token} (k : ℕ) (x : Origin) (i : Layout) (n : ℕ) (some : Parts) (ts : List Token) → most_levels some ≤ n
      → Stops x i op_levels ts
      → run_labels k x i n some ts ≡ got all rest → Done x i op_levels n (most_levels all) (SpellsLabels x i some all ts rest) rest
  sound_labels zero x i n some ts few s e = cc
  sound_labels (suc k) x i n some [] few s e =
      same_got (λ all rest. Done x i op_levels n (most_levels all) (SpellsLabels x i some all [] rest) rest) e
      (record { spells = p_last_label refl; few = few; stops = s })
  sound_labels {all} {rest} (suc k) x i n some (tok ∷ ts) few s e =
      elim (if_split (comma_at i (tok ∷ ts)) _ _ e) as (λ w. Done x i op_levels n (most_levels all) (SpellsLabels x i some all (tok ∷ ts) rest) rest) [
        | inl h ↦ (
            let f = then_got _ _ h.same in
            let d = sound_label k x i n ts f.first in
            let c = sound_labels k x i n (and_part some f.value) f.mid (let p = most_and some f.value in let q = d.few in omega (arith, p, q, few))
            d.stops f.next in
            record { spells = p_label h.is d.spells c.spells; few = c.few; stops = c.stops })
        | inr h ↦ same_got (λ all rest. Done x i op_levels n (most_levels all) (SpellsLabels x i some all (tok ∷ ts) rest) rest) h.same
            (record { spells = p_last_label h.is; few = few; stops = s })
      ]

  pub sound_label : {t : Term} {rest : List Token} (k : ℕ) (x : Origin) (i : Layout) (n : ℕ) (ts : List Token) → run_label k x i n ts ≡ got t rest
      → Done x i op_levels n (levels t) (SpellsLabel x i t ts rest) rest
  sound_label zero x i n ts e = cc
  sound_label {t} {rest} (suc k) x i n ts e =
      let f = then_got _ _ e in
      let d = sound_expr k x i n ts f.first in
      elim (if_split (dots_at x i f.mid) _ _ f.next) as (λ w. Done x i op_levels n (levels t) (SpellsLabel x i t ts rest) rest) [
        | inl h ↦ (
            let on = unless_got (stays i (behind f.mid)) (behind f.mid) _ h.same in
            let g = then_got _ _ on.1 in
            let b = sound_expr k x i n (behind f.mid) g.first in
            same_got (λ t rest. Done x i op_levels n (levels t) (SpellsLabel x i t ts rest) rest) g.next
            (ranged x i n f.value g.value ts f.mid g.mid d h.is on.0 b))
        | inr h ↦ same_got (λ t rest. Done x i op_levels n (levels t) (SpellsLabel x i t ts rest) rest) h.same
            (record { spells = p_one d.spells h.is; few = d.few; stops = d.stops })
      ]

  pub sound_ofs : {all : Choices} {rest : List Token} (k : ℕ) (x : Origin) (i : Layout) (n : ℕ) (some : Choices) (ts : List Token) → levels_in some ≤ n
      → Stops x i op_levels ts
      → run_ofs k x i n some ts ≡ got all rest → Done x i op_levels n (levels_in all) (SpellsOfs x i some all ts rest) rest
  sound_ofs zero x i n some ts few s e = cc
  sound_ofs (suc k) x i n some [] few s e =
      same_got (λ all rest. Done x i op_levels n (levels_in all) (SpellsOfs x i some all [] rest) rest) e
      (record { spells = p_last_of refl; few = few; stops = s })
  sound_ofs {all} {rest} (suc k) x i n some (tok ∷ ts) few s e =
      elim (if_split (branch_at i is_of (tok ∷ ts)) _ _ e) as (λ w. Done x i op_levels n (levels_in all) (SpellsOfs x i some all (tok ∷ ts) rest) rest) [
        | inl h ↦ (
            let f = then_got _ _ h.same in
            let d = sound_of k x i n ts f.first in
            let some_more = levels_and some (place_at x tok) f.value.tests f.value.value in
            let c = sound_ofs k x i n (and_choice some (place_at x tok) f.value.tests f.value.value) f.mid (let q = d.few in omega (arith, some_more, q, few))
            d.stops f.next in
            record { spells = p_next_of h.is d.spells c.spells; few = c.few; stops = c.stops })
        | inr h ↦ same_got (λ all rest. Done x i op_levels n (levels_in all) (SpellsOfs x i some all (tok ∷ ts) rest) rest) h.same
            (record { spells = p_last_of h.is; few = few; stops = s })
      ]

  sound_otherwise : {t : Term} {rest : List Token} (k : ℕ) (x : Origin) (i : Layout) (n : ℕ) (at : Place) (s : Term) (all : Choices) (ts : List Token)
      → levels s ≤ n → levels_in all ≤ n → Stops x i op_levels ts
      → run_otherwise k x i n at s all ts ≡ got t rest → Done x i op_levels (suc n) (levels t) (SpellsOtherwise x i at s all t ts rest) rest
  sound_otherwise zero x i n at s all ts few fewer stops e = cc
  sound_otherwise (suc k) x i n at s all [] few fewer stops e =
      same_got (λ t rest. Done x i op_levels (suc n) (levels t) (SpellsOtherwise x i at s all t [] rest) rest) e
      (record { spells = p_no_else refl; few = omega (arith, few, fewer); stops = stops })
  sound_otherwise {t} {rest} (suc k) x i n at s all (tok ∷ ts) few fewer stops e =
      elim (if_split (else_on i (tok ∷ ts)) _ _ e) as (λ w. Done x i op_levels (suc n) (levels t) (SpellsOtherwise x i at s all t (tok ∷ ts) rest) rest) [
        | inl h ↦ (
            let f = then_got _ _ h.same in
            let d = sound_value k x i n ts f.first in
            same_got (λ t rest. Done x i op_levels (suc n) (levels t) (SpellsOtherwise x i at s all t (tok ∷ ts) rest) rest) f.next
            (record {
              spells = p_with_else (else_with_colon i (tok ∷ ts) h.is) d.spells;
              few = (let p = d.few in omega (arith, p, few, fewer));
              stops = d.stops;
            }))
        | inr h ↦ same_got (λ t rest. Done x i op_levels (suc n) (levels t) (SpellsOtherwise x i at s all t (tok ∷ ts) rest) rest) h.same
            (record { spells = p_no_else h.is; few = omega (arith, few, fewer); stops = stops })
      ]
