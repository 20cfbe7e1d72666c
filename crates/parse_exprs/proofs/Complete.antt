-- What the grammar spells, up to a place that nothing goes on from, is what a computation reads where enough levels are left.
use Rattle.std.proofs.Common.{◌≡◌, ℕ, zero, suc, ◌≤◌, List, [], ◌∷◌, Bool, true, false, refl, sym, ap, ap₂, subst, arith}
use Rattle.std.specs.Prelude.{Option, Some, None, max, ◌&&◌, if◌then◌else◌}
use Rattle.std.proofs.lemmas.Bool.{le-ltb}
use Rattle.arc_base.specs.declared.place.Place.{Place}
use Rattle.indent_scanner.specs.declared.token.Tok.TheVariants as T
use Rattle.indent_scanner.specs.declared.token.Token.{Token}
use Rattle.nim_tree.specs.declared.expr.UnaryOp.{UnaryOp}
use Rattle.nim_tree.specs.declared.expr.BinaryOp.{BinaryOp}
use Rattle.nim_tree.specs.Terms.{Term, Parts, Choices, levels, most_levels, levels_in}
use Rattle.parse_exprs.specs.declared.layout.Layout.{Layout}
use Rattle.parse_exprs.specs.declared.layout.Layout.TheVariants.{Brackets}
use Rattle.parse_exprs.specs.declared.input.Bracket.{Bracket}
use Rattle.parse_exprs.specs.declared.input.Lead.{Lead}
use Rattle.parse_exprs.specs.declared.input.Lead.TheVariants as L
use Rattle.parse_exprs.specs.Look.{Origin, spelling, place_at, goes_on, op_at, op_levels, single, grouped, applied, sign_of, is_punct, bracket_at, name_on}
use Rattle.parse_exprs.specs.Look.{suffix_at, lead_at, branch_at, is_elif, is_of, is_name, at_start, past_start, no_command_on}
use Rattle.parse_exprs.specs.Outcome.{Out, got, bad, deep, then_do, unless_stuck, Settles}
use Rattle.parse_exprs.specs.Run.{made, run_field, run_expr, run_lead, run_level, run_chain, run_more, run_unary, run_signed, run_primary, run_suffixes}
use Rattle.parse_exprs.specs.Run.{run_applied, run_atom, run_group, run_enclosed, run_list, run_parts, run_part, run_tail, run_value, run_elifs}
use Rattle.parse_exprs.specs.Run.{run_else, run_branches, run_of, run_labels, run_label, run_ofs, run_otherwise}
use Rattle.parse_exprs.specs.Grammar.{SpellsExpr, p_operators, p_if, p_case, Spells, p_unary, p_binary, SpellsMore, p_none, p_more, SpellsUnary, p_sign}
use Rattle.parse_exprs.specs.Grammar.{p_plain, SpellsPrimary, p_primary, SpellsSuffixes, p_done, p_suffix, SpellsSuffix, p_field, p_applied, SpellsAtom}
use Rattle.parse_exprs.specs.Grammar.{p_token, p_group, p_sequence, SpellsEnclosed, p_empty, p_parts, SpellsParts, p_first, SpellsMoreParts, p_over, p_part}
use Rattle.parse_exprs.specs.Grammar.{SpellsPart, p_unnamed, p_named, SpellsTail, p_tail, SpellsValue, p_value, p_own_line, SpellsElifs, p_no_elif, p_elif}
use Rattle.parse_exprs.specs.Grammar.{SpellsElse, p_else, SpellsBranches, p_branches, SpellsOf, p_of, SpellsLabels, p_last_label, p_label, SpellsLabel, p_one}
use Rattle.parse_exprs.specs.Grammar.{p_range, SpellsOfs, p_last_of, p_next_of, SpellsOtherwise, p_no_else, p_with_else, Stops}
use Rattle.parse_exprs.proofs.Settling.{settles_suc, settles_got, settles_is, settles_then, settles_unless, settles_if, settles_else}
use Rattle.parse_exprs.proofs.Stopping.{subject_stops, closing_stops, dots_stops, stops_branch, start_stops, stops_start, stops_line, suffix_start}
use Rattle.parse_exprs.proofs.Stopping.{suffix_stays, deeper_stays}
use Rattle.parse_exprs.proofs.Levels.{some_level, most_and, levels_and, grouped_levels, applied_levels}
use Rattle.parse_exprs.proofs.Beginning.{group_alone, at_alone, at_bracket, point_bracket, enclosed_bracket, square_of, IsUnsigned, primary_unsigned}
use Rattle.parse_exprs.proofs.Beginning.{spells_lead, more_stops, parts_stop, value_stops, else_word, elifs_stop, ofs_stop, otherwise_stops, labels_stop}
use Rattle.parse_exprs.proofs.Beginning.{branches_word, more_grows, suffix_grows, suffixes_grow, parts_grow, labels_grow, elifs_grow, ofs_grow}
use Rattle.parse_exprs.proofs.Beginning.{otherwise_levels, branches_levels, else_of}

-- ---- where the first test has that outcome

pub by_lead : {o : Out Term} (x : Origin) (i : Layout) (n : ℕ) (ts : List Token) (lead : Lead) → lead_at ts ≡ lead → Settles (λ k. run_lead k lead x i n ts) o
    → Settles (λ k. run_expr k x i n ts) o
by_lead x i n ts lead is h = settles_suc h (λ k. ap (λ w. run_lead k w x i n ts) is)

pub by_op : {o : Out Term} (x : Origin) (i : Layout) (l n : ℕ) (a : Term) (ts : List Token) (op : Option BinaryOp) → op_at x i l ts ≡ op
    → Settles (λ k. run_more k op x i l n a ts) o
    → Settles (λ k. run_chain k x i l n a ts) o
by_op x i l n a ts op is h = settles_suc h (λ k. ap (λ w. run_more k w x i l n a ts) is)

pub by_sign : {o : Out Term} (x : Origin) (i : Layout) (n : ℕ) (tok : Token) (ts : List Token) (op : Option UnaryOp) → sign_of tok.kind (spelling x tok) ≡ op
    → Settles (λ k. run_signed k op x i n tok ts) o
    → Settles (λ k. run_unary k x i (suc n) (tok ∷ ts)) o
by_sign x i n tok ts op is h = settles_suc h (λ k. ap (λ w. run_signed k w x i n tok ts) is)

-- what was read begins no command
abbrev pub unsigned_last : Origin → Layout → Term → List Token → Out Term
unsigned_last x i a rest = unless_stuck (no_command_on x i rest) rest (got a rest)

pub by_primary : {o : Out Term} (x : Origin) (i : Layout) (n : ℕ) (ts : List Token) → IsUnsigned x ts
    → Settles (λ k. then_do (run_primary k x i (at_start i) (suc n) ts) (unsigned_last x i)) o → Settles (λ k. run_unary k x i (suc n) ts) o
by_primary x i n [] unsigned h = absurd unsigned
by_primary x i n (tok ∷ ts) unsigned h = by_sign x i n tok ts None unsigned (settles_suc h (λ k. refl))

pub by_bracket : {o : Out Term} (x : Origin) (i : Layout) (n : ℕ) (a : Term) (ts : List Token) (b : Option Bracket) → bracket_at ts ≡ b
    → Settles (λ k. run_applied k b x i n a ts) o
    → Settles (λ k. run_applied k (bracket_at ts) x i n a ts) o
by_bracket x i n a ts b is h = settles_is h (λ k. ap (λ w. run_applied k w x i n a ts) is)

pub by_atom : {out : Out Term} (x : Origin) (i : Layout) (n : ℕ) (tok : Token) (ts : List Token) (o : Option Term) (b : Option Bracket) → single x tok ≡ o
    → bracket_at (tok ∷ ts) ≡ b
    → Settles (λ k. run_group k o b x i n tok ts) out → Settles (λ k. run_atom k x i n (tok ∷ ts)) out
by_atom x i n tok ts o b is h s = settles_suc s (λ k. ap₂ (λ v w. run_group k v w x i n tok ts) is h)

settles_made : {t : Term} {o : Option Term} (at rest : List Token) → o ≡ Some t → Settles (λ k. made o at rest) (got t rest)
settles_made at rest e = settles_is settles_got (λ k. ap (λ w. made w at rest) e)

pub name_goes : (i : Layout) (tok : Token) (rest : List Token) → goes_on i tok.indent ≡ true → tok.kind ≡ T.Name → name_on i (tok ∷ rest) ≡ Some tok
name_goes i tok rest g n = ap₂ (λ a b. if a && b then Some tok else None) g (ap is_name n)

-- ---- where a repetition ends

no_elif : (x : Origin) (i : Layout) (n : ℕ) (all : Choices) (rest : List Token) → branch_at i is_elif rest ≡ false → Settles (λ k. run_elifs k x i n all rest)
    (got all rest)
no_elif x i n all [] h = settles_suc settles_got (λ k. refl)
no_elif x i n all (tok ∷ rest) h = settles_suc (settles_else _ h settles_got) (λ k. refl)

no_of : (x : Origin) (i : Layout) (n : ℕ) (all : Choices) (rest : List Token) → branch_at i is_of rest ≡ false → Settles (λ k. run_ofs k x i n all rest)
    (got all rest)
no_of x i n all [] h = settles_suc settles_got (λ k. refl)
no_of x i n all (tok ∷ rest) h = settles_suc (settles_else _ h settles_got) (λ k. refl)

none_left : {C : Type 0} (t : Term) → levels t ≤ 0 → C
none_left t few = let h = some_level t in let f : ⊥ = omega (arith, h, few) in absurd f

mutual
  pub complete_expr : {x : Origin} {i : Layout} {t : Term} {ts rest : List Token} → SpellsExpr x i t ts rest → Stops x i op_levels rest → (n : ℕ) → levels t ≤ n
      → Settles (λ k. run_expr k x i n ts) (got t rest)
  complete_expr {x = x} {i = i} {ts = ts} (p_operators d) s n few = by_lead x i n ts L.Operand (spells_lead d)
      (settles_suc (complete_level d s n few) (λ k. refl))
  complete_expr {t = t} (p_if is d c e) s zero few = none_left t few
  complete_expr {x = x} {i = i} {ts = tok ∷ ts} (p_if is d c e) s (suc n) few =
      let stop = else_word e in
      let g = elifs_grow c in
      by_lead x i (suc n) (tok ∷ ts) L.If is (settles_suc (settles_suc
      (settles_then _ (complete_tail d (elifs_stop c stop) n (omega (arith, g, few)))
      (settles_then _ (complete_elifs c stop n (omega (arith, few)))
      (settles_then _ (complete_else e s n (omega (arith, few))) settles_got))) (λ k. refl)) (λ k. refl))
  complete_expr {t = t} (p_case is on d b) s zero few = none_left t few
  complete_expr {x = x} {i = i} {ts = tok ∷ ts} (p_case {mid = mid} is on d b) s (suc n) few =
      let g = branches_levels b in
      by_lead x i (suc n) (tok ∷ ts) L.Case is (settles_suc (settles_suc (settles_unless ts on
      (settles_then _ (complete_expr d (subject_stops x i (past_start i) op_levels mid (branches_word b)) n (omega (arith, g, few)))
      (complete_branches b s n few))) (λ k. refl)) (λ k. refl))

  -- ---- operators

  pub complete_level : {x : Origin} {i : Layout} {l : ℕ} {t : Term} {ts rest : List Token} → Spells x i l t ts rest → Stops x i l rest → (n : ℕ) → levels t ≤ n
      → Settles (λ k. run_level k x i l n ts) (got t rest)
  complete_level (p_unary d) s n few = settles_suc (complete_unary d s.suffix n few) (λ k. refl)
  complete_level {x = x} {i = i} {l = suc l} {rest = rest} (p_binary {mid = mid} d c) s n few =
      let g = more_grows c in let t = stops_start x i (suc l) rest s in
      settles_suc (settles_then _ (complete_level d (start_stops x i l mid (more_stops c t)) n (omega (arith, g, few))) (complete_chain c t n few)) (λ k. refl)

  complete_chain : {x : Origin} {i : Layout} {l : ℕ} {a t : Term} {ts rest : List Token} → SpellsMore x i l a t ts rest → Stops x i (suc l) rest → (n : ℕ)
      → levels t ≤ n
      → Settles (λ k. run_chain k x i l n a ts) (got t rest)
  complete_chain {x = x} {i = i} {l = l} {a = a} {rest = rest} p_none s n few = by_op x i l n a rest None (s.ops l (omega arith))
      (settles_suc settles_got (λ k. refl))
  complete_chain {t = t} (p_more h d c) s zero few = none_left t few
  complete_chain {x = x} {i = i} {l = l} {a = a} {ts = ts} (p_more {op = op} h d c) s (suc n) few =
      let g = more_grows c in
      by_op x i l (suc n) a ts (Some op) h (settles_suc (settles_else (λ k. bad deep) (le-ltb n (levels a) (omega (arith, g, few)))
      (settles_then _ (complete_level d (more_stops c s) n (omega (arith, g, few))) (complete_chain c s (suc n) few))) (λ k. refl))

  complete_unary : {x : Origin} {i : Layout} {t : Term} {ts rest : List Token} → SpellsUnary x i t ts rest → suffix_at i false rest ≡ false → (n : ℕ)
      → levels t ≤ n → Settles (λ k. run_unary k x i n ts) (got t rest)
  complete_unary {t = t} (p_sign h on d) s zero few = none_left t few
  complete_unary {x = x} {i = i} (p_sign {op = op} {tok = tok} {ts = ts} {rest = rest} h on d) s (suc n) few =
      by_sign x i n tok ts (Some op) h
      (settles_suc (settles_unless ts on (settles_then _ (complete_unary d (suffix_start i rest s) n (omega (arith, few))) settles_got)) (λ k. refl))
  complete_unary {t = t} (p_plain d h) s zero few = none_left t few
  complete_unary {x = x} {i = i} {ts = ts} {rest = rest} (p_plain d h) s (suc n) few =
      by_primary x i n ts (primary_unsigned d)
      (settles_then _ (complete_primary d (suffix_stays i (at_start i) rest s) n few) (settles_unless rest h settles_got))

  -- ---- what stands behind an atom

  pub complete_primary : {x : Origin} {i : Layout} {c : Bool} {t : Term} {ts rest : List Token} → SpellsPrimary x i c t ts rest → suffix_at i c rest ≡ false
      → (n : ℕ) → levels t ≤ suc n
      → Settles (λ k. run_primary k x i c (suc n) ts) (got t rest)
  complete_primary (p_primary d c) s n few =
      let g = suffixes_grow c in
      settles_suc (settles_then _ (complete_atom d n (omega (arith, g, few))) (complete_suffixes c s n few)) (λ k. refl)

  complete_suffixes : {x : Origin} {i : Layout} {c : Bool} {a t : Term} {ts rest : List Token} → SpellsSuffixes x i c a t ts rest → suffix_at i c rest ≡ false
      → (n : ℕ) → levels t ≤ suc n
      → Settles (λ k. run_suffixes k x i c (suc n) a ts) (got t rest)
  complete_suffixes p_done s n few = settles_suc (settles_else _ s settles_got) (λ k. refl)
  complete_suffixes {a = a} (p_suffix on d c) s n few =
      let g = suffixes_grow c in let h = suffix_grows d in
      settles_suc (settles_if _ on (settles_suc (settles_else (λ k. bad deep) (le-ltb n (levels a) (omega (arith, g, h, few)))
      (settles_then _ (complete_suffix d n (omega (arith, g, few))) (complete_suffixes c s n few))) (λ k. refl))) (λ k. refl)

  pub complete_suffix : {x : Origin} {i : Layout} {a t : Term} {ts rest : List Token} → SpellsSuffix x i a t ts rest → (n : ℕ) → levels t ≤ suc n
      → Settles (λ k. run_applied k (bracket_at ts) x i n a ts) (got t rest)
  complete_suffix {x = x} {i = i} {a = a} {ts = ts} (p_field {dot = dot} {tok = tok} {rest = rest} p g e) n few =
      by_bracket x i n a ts None (point_bracket dot.kind p)
      (settles_suc (settles_is settles_got (λ k. ap (λ o. run_field o x a (dot ∷ tok ∷ rest)) (name_goes i tok rest g e))) (λ k. refl))
  complete_suffix {x = x} {i = i} {a = a} {t = t} {ts = ts} {rest = rest} (p_applied {m = m} {b = b} {parts = ps} {tok = tok} {ts = inner} names d e) n few =
      let h = applied_levels b m a ps t e in
      by_bracket x i n a ts (Some b) (enclosed_bracket d) (settles_suc
      (subst (λ w. Settles (λ k. then_do (run_enclosed k x b w n (tok ∷ inner)) (λ parts rest. made (applied b w a parts) inner rest)) (got t rest)) (sym names)
      (settles_then _ (complete_enclosed d n (omega (arith, h, few))) (settles_made inner rest e))) (λ k. refl))

  pub complete_atom : {x : Origin} {i : Layout} {t : Term} {ts rest : List Token} → SpellsAtom x i t ts rest → (n : ℕ) → levels t ≤ suc n
      → Settles (λ k. run_atom k x i (suc n) ts) (got t rest)
  complete_atom {x = x} {i = i} {t = t} (p_token {tok = tok} {rest = rest} h) n few =
      by_atom x i (suc n) tok rest (Some t) (bracket_at (tok ∷ rest)) h refl (settles_suc settles_got (λ k. refl))
  complete_atom {x = x} {i = i} {t = t} {rest = rest} (p_group {m = m} {b = b} {parts = ps} {tok = tok} {ts = ts} names d e) n few =
      let h = grouped_levels b m (place_at x tok) ps t e in
      by_atom x i (suc n) tok ts None (Some b) (group_alone x tok (enclosed_bracket d)) (enclosed_bracket d) (settles_suc
      (subst (λ w. Settles (λ k. then_do (run_enclosed k x b w n (tok ∷ ts)) (λ parts rest. made (grouped b w (place_at x tok) parts) ts rest)) (got t rest))
      (sym names)
      (settles_then _ (complete_enclosed d n (omega (arith, h, few))) (settles_made ts rest e))) (λ k. refl))
  complete_atom {x = x} {i = i} (p_sequence {tok = tok} {ts = ts} h on d) n few =
      by_atom x i (suc n) tok ts None None (at_alone x tok h) (at_bracket x tok h) (settles_suc
      (settles_unless (tok ∷ ts) h (settles_unless ts on (settles_unless ts (square_of ts (enclosed_bracket d))
      (settles_then _ (complete_enclosed d n (omega (arith, few))) settles_got)))) (λ k. refl))

  -- ---- parts in brackets

  complete_enclosed : {x : Origin} {b : Bracket} {m : Bool} {parts : Parts} {ts rest : List Token} → SpellsEnclosed x b m parts ts rest → (n : ℕ)
      → most_levels parts ≤ n
      → Settles (λ k. run_enclosed k x b m n ts) (got parts rest)
  complete_enclosed (p_empty h c) n few = settles_suc (settles_if _ c settles_got) (λ k. refl)
  complete_enclosed {x = x} {b = b} {rest = rest} (p_parts {end = end} h o d c) n few =
      settles_suc (settles_else _ o (settles_then _ (complete_parts d (closing_stops x Brackets op_levels b (end ∷ rest) c) n few)
      (settles_unless (end ∷ rest) c settles_got))) (λ k. refl)

  pub complete_parts : {x : Origin} {m : Bool} {parts : Parts} {ts rest : List Token} → SpellsParts x m parts ts rest → Stops x Brackets op_levels rest
      → (n : ℕ) → most_levels parts ≤ n
      → Settles (λ k. run_list k x m n ts) (got parts rest)
  complete_parts (p_first d c) s n few =
      let g = parts_grow c in
      settles_suc (settles_then _ (complete_part d (parts_stop c s) n (omega (arith, g, few))) (complete_more_parts c s n few)) (λ k. refl)

  complete_more_parts : {x : Origin} {m : Bool} {some parts : Parts} {ts rest : List Token} → SpellsMoreParts x m some parts ts rest
      → Stops x Brackets op_levels rest → (n : ℕ) → most_levels parts ≤ n
      → Settles (λ k. run_parts k x m n some ts) (got parts rest)
  complete_more_parts (p_over h) s n few = settles_suc (settles_else _ h settles_got) (λ k. refl)
  complete_more_parts {some = some} (p_part {b = b} h d c) s n few =
      let g = parts_grow c in let e = most_and some b in
      settles_suc (settles_if _ h (settles_then _ (complete_part d (parts_stop c s) n (omega (arith, g, e, few))) (complete_more_parts c s n few))) (λ k. refl)

  pub complete_part : {x : Origin} {m : Bool} {t : Term} {ts rest : List Token} → SpellsPart x m t ts rest → Stops x Brackets op_levels rest → (n : ℕ)
      → levels t ≤ n
      → Settles (λ k. run_part k x m n ts) (got t rest)
  complete_part (p_unnamed d) s n few = settles_suc (complete_expr d s n few) (λ k. refl)
  complete_part (p_named {tok = tok} {colon = colon} {ts = ts} h c d) s n few =
      settles_suc (settles_unless (tok ∷ colon ∷ ts) (ap is_name h)
      (settles_unless (colon ∷ ts) (ap (is_punct 58) c) (settles_then _ (complete_expr d s n few) settles_got))) (λ k. refl)

  -- ---- branches

  pub complete_tail : {x : Origin} {i : Layout} {tests : Parts} {v : Term} {ts rest : List Token} → SpellsTail x i tests v ts rest → Stops x i op_levels rest
      → (n : ℕ) → max (most_levels tests) (levels v) ≤ n
      → Settles (λ k. run_tail k x i n ts) (got (record { tests = tests; value = v }) rest)
  complete_tail {x = x} {i = i} {ts = ts} (p_tail {mid = mid} on d c) s n few =
      settles_suc (settles_unless ts on (settles_then _ (complete_expr d (stops_start x i op_levels mid (value_stops c)) n (omega (arith, few)))
      (settles_then _ (complete_value c s n (omega (arith, few))) settles_got))) (λ k. refl)

  pub complete_value : {x : Origin} {i : Layout} {v : Term} {ts rest : List Token} → SpellsValue x i v ts rest → Stops x i op_levels rest → (n : ℕ)
      → levels v ≤ n → Settles (λ k. run_value k x i n ts) (got v rest)
  complete_value (p_value {tok = tok} {ts = ts} h on d) s n few = settles_suc (settles_unless (tok ∷ ts) h (settles_if _ on (complete_expr d s n few)))
      (λ k. refl)
  complete_value {x = x} {i = i} (p_own_line {tok = tok} {ts = ts} {rest = rest} h on d c) s n few =
      settles_suc (settles_unless (tok ∷ ts) h (settles_else _ (deeper_stays i ts on)
      (settles_suc (settles_unless ts on (settles_then _ (complete_expr d (stops_line x i ts op_levels rest s) n few) (settles_unless rest c settles_got)))
      (λ k. refl)))) (λ k. refl)

  pub complete_elifs : {x : Origin} {i : Layout} {some all : Choices} {ts rest : List Token} → SpellsElifs x i some all ts rest → Stops x i op_levels rest
      → (n : ℕ) → levels_in all ≤ n
      → Settles (λ k. run_elifs k x i n some ts) (got all rest)
  complete_elifs {x = x} {i = i} {all = all} {rest = rest} (p_no_elif h) s n few = no_elif x i n all rest h
  complete_elifs {x = x} {some = some} (p_elif {tests = tests} {v = v} {tok = tok} h d c) s n few =
      let g = elifs_grow c in let e = levels_and some (place_at x tok) tests v in
      settles_suc (settles_if _ h (settles_then _ (complete_tail d (elifs_stop c s) n (omega (arith, g, e, few))) (complete_elifs c s n few))) (λ k. refl)

  complete_else : {x : Origin} {i : Layout} {v : Term} {ts rest : List Token} → SpellsElse x i v ts rest → Stops x i op_levels rest → (n : ℕ) → levels v ≤ n
      → Settles (λ k. run_else k x i n ts) (got v rest)
  complete_else (p_else {tok = tok} {ts = ts} h d) s n few = settles_suc (settles_unless (tok ∷ ts) h (complete_value d s n few)) (λ k. refl)

  complete_branches : {x : Origin} {i : Layout} {at : Place} {s t : Term} {ts rest : List Token} → SpellsBranches x i at s t ts rest → Stops x i op_levels rest
      → (n : ℕ) → levels t ≤ suc n
      → Settles (λ k. run_branches k x i n at s ts) (got t rest)
  complete_branches {x = x} {i = i} {rest = rest} (p_branches {tok = tok} {ts = ts} on d c o) stops n few =
      let stop = stops_branch x i tok.indent op_levels rest stops in
      let other = otherwise_stops o stop in
      let h = otherwise_levels o in let g = ofs_grow c in
      settles_suc (settles_unless (tok ∷ ts) on
      (settles_then _ (complete_of d (ofs_stop c other) n (omega (arith, h, g, few)))
      (settles_then _ (complete_ofs c other n (omega (arith, h, few))) (complete_otherwise o stop n few)))) (λ k. refl)

  pub complete_of : {x : Origin} {i : Layout} {tests : Parts} {v : Term} {ts rest : List Token} → SpellsOf x i tests v ts rest → Stops x i op_levels rest
      → (n : ℕ) → max (most_levels tests) (levels v) ≤ n
      → Settles (λ k. run_of k x i n ts) (got (record { tests = tests; value = v }) rest)
  complete_of {x = x} {i = i} {ts = ts} (p_of {end = end} on d c v) s n few =
      let g = labels_grow c in let t = stops_start x i op_levels end (value_stops v) in
      settles_suc (settles_unless ts on (settles_then _ (complete_label d (labels_stop c t) n (omega (arith, g, few)))
      (settles_then _ (complete_labels c t n (omega (arith, few))) (settles_then _ (complete_value v s n (omega (arith, few))) settles_got)))) (λ k. refl)

  pub complete_labels : {x : Origin} {i : Layout} {some all : Parts} {ts rest : List Token} → SpellsLabels x i some all ts rest → Stops x i op_levels rest
      → (n : ℕ) → most_levels all ≤ n
      → Settles (λ k. run_labels k x i n some ts) (got all rest)
  complete_labels (p_last_label h) s n few = settles_suc (settles_else _ h settles_got) (λ k. refl)
  complete_labels {some = some} (p_label {a = a} h d c) s n few =
      let g = labels_grow c in let e = most_and some a in
      settles_suc (settles_if _ h (settles_then _ (complete_label d (labels_stop c s) n (omega (arith, g, e, few))) (complete_labels c s n few))) (λ k. refl)

  pub complete_label : {x : Origin} {i : Layout} {t : Term} {ts rest : List Token} → SpellsLabel x i t ts rest → Stops x i op_levels rest → (n : ℕ)
      → levels t ≤ n → Settles (λ k. run_label k x i n ts) (got t rest)
  complete_label (p_one d h) s n few = settles_suc (settles_then _ (complete_expr d s n few) (settles_else _ h settles_got)) (λ k. refl)
  complete_label {x = x} {i = i} (p_range {tok = tok} {mid = mid} d h on c) s n few =
      settles_suc (settles_then _ (complete_expr d (dots_stops x i i op_levels (tok ∷ mid) h) n (omega (arith, few)))
      (settles_if _ h (settles_unless mid on (settles_then _ (complete_expr c s n (omega (arith, few))) settles_got)))) (λ k. refl)

  pub complete_ofs : {x : Origin} {i : Layout} {some all : Choices} {ts rest : List Token} → SpellsOfs x i some all ts rest → Stops x i op_levels rest → (n : ℕ)
      → levels_in all ≤ n
      → Settles (λ k. run_ofs k x i n some ts) (got all rest)
  complete_ofs {x = x} {i = i} {all = all} {rest = rest} (p_last_of h) s n few = no_of x i n all rest h
  complete_ofs {x = x} {some = some} (p_next_of {tests = tests} {v = v} {tok = tok} h d c) s n few =
      let g = ofs_grow c in let e = levels_and some (place_at x tok) tests v in
      settles_suc (settles_if _ h (settles_then _ (complete_of d (ofs_stop c s) n (omega (arith, g, e, few))) (complete_ofs c s n few))) (λ k. refl)

  complete_otherwise : {x : Origin} {i : Layout} {at : Place} {s t : Term} {all : Choices} {ts rest : List Token} → SpellsOtherwise x i at s all t ts rest
      → Stops x i op_levels rest → (n : ℕ) → levels t ≤ suc n
      → Settles (λ k. run_otherwise k x i n at s all ts) (got t rest)
  complete_otherwise (p_no_else h) stops n few = settles_suc (settles_else _ h settles_got) (λ k. refl)
  complete_otherwise (p_with_else {tok = tok} h d) stops n few =
      settles_suc (settles_if _ (else_of tok h d) (settles_then _ (complete_value d stops n (omega (arith, few))) settles_got)) (λ k. refl)
