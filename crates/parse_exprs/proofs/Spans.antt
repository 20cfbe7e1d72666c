-- A tree has at least as many tokens as nodes, and the end of the source is none of them.
use Rattle.std.proofs.Common.{◌≡◌, ℕ, zero, suc, ◌<◌, ◌≤◌, ◌+◌, ◌-◌, List, [], ◌∷◌, length, drop, Bool, true, false, refl, sym, ap, subst, ◌∙◌, arith}
use Rattle.std.specs.Prelude.{Some, None, ◌&&◌, codes, if◌then◌else◌}
use Rattle.std.proofs.lemmas.List.{length-drop, drop-drop}
use Rattle.indent_scanner.specs.declared.token.Token.{Token}
use Rattle.arc_base.specs.declared.place.Place.{Place}
use Rattle.indent_scanner.specs.declared.token.Key.TheVariants as K
use Rattle.indent_scanner.specs.declared.token.Tok.{Tok}
use Rattle.indent_scanner.specs.declared.token.Tok.TheVariants as T
use Rattle.nim_tree.specs.declared.expr.BinaryOp.{BinaryOp}
use Rattle.nim_tree.specs.declared.expr.UnaryOp.{UnaryOp}
use Rattle.nim_tree.specs.Terms.{Term, name, Parts, no_parts, part, and_part, Choices, no_choices, choice, and_choice, nodes, nodes_in, nodes_of}
use Rattle.parse_exprs.specs.declared.layout.Layout.{Layout}
use Rattle.parse_exprs.specs.declared.input.Bracket.{Bracket}
use Rattle.parse_exprs.specs.declared.input.Bracket.TheVariants.{Round, Square}
use Rattle.parse_exprs.specs.declared.input.Lead.TheVariants as L
use Rattle.parse_exprs.specs.Look.{Origin, spelling, goes_on, branch_goes_on, first_goes_on, op_of, of_level, op_at, place_at, single_of, single, grouped}
use Rattle.parse_exprs.specs.Look.{applied, sign_of, is_punct, is_run, is_at_sign, bracket_of, closing, lead_of, is_elif, is_else, is_of, colon_at, past_colon}
use Rattle.parse_exprs.specs.Grammar.{SpellsExpr, p_operators, p_if, p_case, Spells, p_unary, p_binary, SpellsMore, p_none, p_more, SpellsUnary, p_sign}
use Rattle.parse_exprs.specs.Grammar.{p_plain, SpellsPrimary, p_primary, SpellsSuffixes, p_done, p_suffix, SpellsSuffix, p_field, p_applied, SpellsAtom}
use Rattle.parse_exprs.specs.Grammar.{p_token, p_group, p_sequence, SpellsEnclosed, p_empty, p_parts, SpellsParts, p_first, SpellsMoreParts, p_over, p_part}
use Rattle.parse_exprs.specs.Grammar.{SpellsPart, p_unnamed, p_named, SpellsTail, p_tail, SpellsValue, p_value, p_own_line, SpellsElifs, p_no_elif, p_elif}
use Rattle.parse_exprs.specs.Grammar.{SpellsElse, p_else, SpellsBranches, p_branches, SpellsOf, p_of, SpellsLabels, p_last_label, p_label, SpellsLabel, p_one}
use Rattle.parse_exprs.specs.Grammar.{p_range, SpellsOfs, p_last_of, p_next_of, SpellsOtherwise, p_no_else, p_with_else}
use Rattle.parse_exprs.specs.Parsed.{HasNoEnd}
use Rattle.parse_exprs.proofs.Stopping.{none_some, false_true, both_of}

-- the tokens of ts before rest, none of which is the end
pub data Free : List Token → List Token → Type 0 where
  stop : {ts : List Token} → Free ts ts
  step : {tok : Token} {ts rest : List Token} → (tok.kind ≡ T.End → ⊥) → Free ts rest → Free (tok ∷ ts) rest

joined : {ts mid rest : List Token} → Free ts mid → Free mid rest → Free ts rest
joined stop g = g
joined (step h f) g = step h (joined f g)

-- before nodes, and then so many tokens, make after nodes
pub record Spans (before after : ℕ) (ts rest : List Token) : Type 0 where
  pub size : after + length rest ≤ before + length ts
  pub free : Free ts rest

-- ---- no token of a tree is the end

op_of_end : (b : Bool) (l : ℕ) (op : BinaryOp) (kind : Tok) (bytes : List ℕ) → kind ≡ T.End → (if b then of_level l (op_of kind bytes) else None) ≡ Some op → ⊥
op_of_end true l op kind bytes e h = let k = subst (λ m. of_level l (op_of m bytes) ≡ Some op) e h in cc
op_of_end false l op kind bytes e h = cc

op_no_end : (x : Origin) (i : Layout) (l : ℕ) (op : BinaryOp) (tok : Token) (ts : List Token) → op_at x i l (tok ∷ ts) ≡ Some op → tok.kind ≡ T.End → ⊥
op_no_end x i l op tok ts h e = op_of_end (goes_on i tok.indent) l op tok.kind (spelling x tok) e h

sign_no_end : (op : UnaryOp) (kind : Tok) (bytes : List ℕ) → sign_of kind bytes ≡ Some op → kind ≡ T.End → ⊥
sign_no_end op kind bytes h e = let k = subst (λ m. sign_of m bytes ≡ Some op) e h in cc

name_no_end : (kind : Tok) → kind ≡ T.Name → kind ≡ T.End → ⊥
name_no_end kind h e = cc

bracket_no_end : {b : Bracket} (kind : Tok) → bracket_of kind ≡ Some b → kind ≡ T.End → ⊥
bracket_no_end kind h e = none_some (bracket_of kind) (ap bracket_of e) h

-- a test that the end doesn't pass
test_no_end : (test : Tok → Bool) (kind : Tok) → test T.End ≡ false → test kind ≡ true → kind ≡ T.End → ⊥
test_no_end test kind no_end h e = false_true (test kind) (ap test e ∙ no_end) h

behind_no_end : (test : Tok → Bool) (b : Bool) (kind : Tok) → test T.End ≡ false → (b && test kind) ≡ true → kind ≡ T.End → ⊥
behind_no_end test b kind no_end h e = test_no_end test kind no_end (both_of b (test kind) h).1 e

lead_no_end : {lead : _} (kind : Tok) → lead_of kind ≡ lead → (lead ≡ L.Operand → ⊥) → kind ≡ T.End → ⊥
lead_no_end kind h f e = f (sym h ∙ ap lead_of e)

single_no_end : (x : Origin) (tok : Token) (t : Term) → single x tok ≡ Some t → tok.kind ≡ T.End → ⊥
single_no_end x tok t h e = none_some (single x tok) (ap (single_of (place_at x tok) (spelling x tok)) e) h

punct_no_end : (kind : Tok) (b : ℕ) → kind ≡ T.Punct b → kind ≡ T.End → ⊥
punct_no_end kind b h e = cc

-- ---- how many nodes there are

unsome : {A : Type 0} {a b : A} → Some a ≡ Some b → a ≡ b
unsome e = cc

grouped_nodes : (b : Bracket) (m : Bool) (at : Place) (ps : Parts) (t : Term) → grouped b m at ps ≡ Some t → nodes t ≡ suc (nodes_in ps)
grouped_nodes Square m at ps t e = ap nodes (sym (unsome e))
grouped_nodes Round true at no_parts t e = cc
grouped_nodes Round true at (part a ps) t e = ap nodes (sym (unsome e))
grouped_nodes Round false at no_parts t e = cc
grouped_nodes Round false at (part a no_parts) t e = let h = ap nodes (sym (unsome e)) in omega (arith, h)
grouped_nodes Round false at (part a (part b ps)) t e = ap nodes (sym (unsome e))

applied_nodes : (b : Bracket) (m : Bool) (a : Term) (ps : Parts) (t : Term) → applied b m a ps ≡ Some t → nodes t ≤ suc (nodes a + nodes_in ps)
applied_nodes Square m a ps t e = let h = ap nodes (sym (unsome e)) in omega (arith, h)
applied_nodes Round false a ps t e = let h = ap nodes (sym (unsome e)) in omega (arith, h)
applied_nodes Round true (name at s) no_parts t e = cc
applied_nodes Round true (name at s) (part b ps) t e = let h = ap nodes (sym (unsome e)) in omega (arith, h)
applied_nodes Round true _ ps t e = cc

nodes_and : (ps : Parts) (a : Term) → nodes_in (and_part ps a) ≡ nodes_in ps + nodes a
nodes_and no_parts a = omega arith
nodes_and (part b ps) a = let h = nodes_and ps a in omega (arith, h)

nodes_choice : (cs : Choices) (at : Place) (tests : Parts) (a : Term) → nodes_of (and_choice cs at tests a) ≡ nodes_of cs + suc (nodes_in tests + nodes a)
nodes_choice no_choices at tests a = omega arith
nodes_choice (choice p ps b cs) at tests a = let h = nodes_choice cs at tests a in omega (arith, h)

single_node_of : (at : Place) (bytes : List ℕ) (k : Tok) (t : Term) → single_of at bytes k ≡ Some t → nodes t ≡ 1
single_node_of at bytes (T.Int value) t e = ap nodes (sym (unsome e))
single_node_of at bytes (T.Char value) t e = ap nodes (sym (unsome e))
single_node_of at bytes T.Text t e = ap nodes (sym (unsome e))
single_node_of at bytes T.Name t e = ap nodes (sym (unsome e))
single_node_of at bytes T.Quoted t e = ap nodes (sym (unsome e))
single_node_of at bytes (T.Key K.Nil) t e = ap nodes (sym (unsome e))
single_node_of at bytes (T.Key _) t e = cc
single_node_of at bytes _ t e = cc

past_spans_by : (b : Bool) (i : Layout) (tok : Token) (ts : List Token) → colon_at i (tok ∷ ts) ≡ b → Spans 0 0 (tok ∷ ts) (if b then ts else tok ∷ ts)
past_spans_by true i tok ts e = record { size = omega arith; free = step (behind_no_end (is_punct 58) (goes_on i tok.indent) tok.kind refl e) stop }
past_spans_by false i tok ts e = record { size = omega arith; free = stop }

past_spans : (i : Layout) (ts : List Token) → Spans 0 0 ts (past_colon i ts)
past_spans i [] = record { size = omega arith; free = stop }
past_spans i (tok ∷ ts) = past_spans_by (colon_at i (tok ∷ ts)) i tok ts refl

-- one after the other
then_spans : {a b c d : ℕ} {ts mid rest : List Token} → Spans a b ts mid → Spans c d mid rest → Spans (a + c) (b + d) ts rest
then_spans f g = record { size = (let p = f.size in let q = g.size in omega (arith, p, q)); free = joined f.free g.free }

-- behind one token more
token_spans : {a b : ℕ} {tok : Token} {ts rest : List Token} → (tok.kind ≡ T.End → ⊥) → Spans a b ts rest → Spans a (suc b) (tok ∷ ts) rest
token_spans h f = record { size = (let p = f.size in omega (arith, p)); free = step h f.free }

within : {a b c d : ℕ} {ts rest : List Token} → Spans a b ts rest → d + a ≤ b + c → Spans c d ts rest
within f le = record { size = (let p = f.size in omega (arith, p, le)); free = f.free }

no_spans : {a : ℕ} {ts : List Token} → Spans a a ts ts
no_spans = record { size = omega arith; free = stop }

mutual
  pub expr_spans : {x : Origin} {i : Layout} {t : Term} {ts rest : List Token} → SpellsExpr x i t ts rest → Spans 0 (nodes t) ts rest
  expr_spans (p_operators d) = level_spans d
  expr_spans (p_if {tok = tok} is d c e) =
      within (token_spans (lead_no_end tok.kind is (λ h. cc)) (then_spans (tail_spans d) (then_spans (elifs_spans c) (else_spans e)))) (omega arith)
  expr_spans {i = i} {t = t} (p_case {tok = tok} {mid = mid} is on d b) =
      within (token_spans (lead_no_end tok.kind is (λ h. cc)) (then_spans (expr_spans d) (then_spans (past_spans i mid) (branches_spans b)))) (omega arith)

  level_spans : {x : Origin} {i : Layout} {l : ℕ} {t : Term} {ts rest : List Token} → Spells x i l t ts rest → Spans 0 (nodes t) ts rest
  level_spans (p_unary d) = unary_spans d
  level_spans (p_binary d c) = within (then_spans (level_spans d) (more_spans c)) (omega arith)

  more_spans : {x : Origin} {i : Layout} {l : ℕ} {a t : Term} {ts rest : List Token} → SpellsMore x i l a t ts rest → Spans (nodes a) (nodes t) ts rest
  more_spans p_none = no_spans
  more_spans {x = x} {i = i} {l = l} (p_more {op = op} {tok = tok} {ts = ts} h d c) =
      within (token_spans (op_no_end x i l op tok ts h) (then_spans (level_spans d) (more_spans c))) (omega arith)

  unary_spans : {x : Origin} {i : Layout} {t : Term} {ts rest : List Token} → SpellsUnary x i t ts rest → Spans 0 (nodes t) ts rest
  unary_spans {x = x} (p_sign {op = op} {tok = tok} h on d) = token_spans (sign_no_end op tok.kind (spelling x tok) h) (unary_spans d)
  unary_spans (p_plain d h) = primary_spans d

  pub primary_spans : {x : Origin} {i : Layout} {c : Bool} {t : Term} {ts rest : List Token} → SpellsPrimary x i c t ts rest → Spans 0 (nodes t) ts rest
  primary_spans (p_primary d c) = within (then_spans (atom_spans d) (suffixes_spans c)) (omega arith)

  suffixes_spans : {x : Origin} {i : Layout} {c : Bool} {a t : Term} {ts rest : List Token} → SpellsSuffixes x i c a t ts rest
      → Spans (nodes a) (nodes t) ts rest
  suffixes_spans p_done = no_spans
  suffixes_spans (p_suffix on d c) = within (then_spans (suffix_spans d) (suffixes_spans c)) (omega arith)

  suffix_spans : {x : Origin} {i : Layout} {a t : Term} {ts rest : List Token} → SpellsSuffix x i a t ts rest → Spans (nodes a) (nodes t) ts rest
  suffix_spans (p_field {dot = dot} {tok = tok} p g n) =
      record { size = omega arith; free = step (punct_no_end dot.kind 46 p) (step (name_no_end tok.kind n) stop) }
  suffix_spans {a = a} {t = t} (p_applied {m = m} {b = b} {parts = ps} k d e) =
      let h = applied_nodes b m a ps t e in
      within (enclosed_spans d) (omega (arith, h))

  atom_spans : {x : Origin} {i : Layout} {t : Term} {ts rest : List Token} → SpellsAtom x i t ts rest → Spans 0 (nodes t) ts rest
  atom_spans {x = x} {t = t} (p_token {tok = tok} h) =
      record {
        size = (let one = single_node_of (place_at x tok) (spelling x tok) tok.kind t h in omega (arith, one));
        free = step (single_no_end x tok t h) stop;
      }
  atom_spans {x = x} {t = t} (p_group {m = m} {b = b} {parts = ps} {tok = tok} k d g) =
      let h = grouped_nodes b m (place_at x tok) ps t g in
      within (enclosed_spans d) (omega (arith, h))
  atom_spans {x = x} (p_sequence {tok = tok} h on d) =
      within (token_spans (test_no_end (λ k. is_at_sign k (spelling x tok)) tok.kind refl h) (enclosed_spans d)) (omega arith)

  enclosed_spans : {x : Origin} {b : Bracket} {m : Bool} {ps : Parts} {ts rest : List Token} → SpellsEnclosed x b m ps ts rest
      → Spans 0 (suc (nodes_in ps)) ts rest
  enclosed_spans {b = b} (p_empty {tok = tok} {end = end} h c) =
      record { size = omega arith; free = step (bracket_no_end tok.kind h) (step (test_no_end (is_punct (closing b)) end.kind refl c) stop) }
  enclosed_spans {b = b} (p_parts {tok = tok} {end = end} h o d c) = let f = parts_spans d in
      record {
        size = (let p = f.size in omega (arith, p));
        free = step (bracket_no_end tok.kind h)
            (joined f.free (step (test_no_end (is_punct (closing b)) end.kind refl c) stop));
      }

  parts_spans : {x : Origin} {m : Bool} {ps : Parts} {ts rest : List Token} → SpellsParts x m ps ts rest → Spans 0 (nodes_in ps) ts rest
  parts_spans (p_first d c) = within (then_spans (part_spans d) (more_parts_spans c)) (omega arith)

  more_parts_spans : {x : Origin} {m : Bool} {some ps : Parts} {ts rest : List Token} → SpellsMoreParts x m some ps ts rest
      → Spans (nodes_in some) (nodes_in ps) ts rest
  more_parts_spans (p_over h) = no_spans
  more_parts_spans {some = some} (p_part {b = b} {tok = tok} h d c) =
      let e = nodes_and some b in within (token_spans (test_no_end (is_punct 44) tok.kind refl h) (then_spans (part_spans d) (more_parts_spans c)))
      (omega (arith, e))

  part_spans : {x : Origin} {m : Bool} {t : Term} {ts rest : List Token} → SpellsPart x m t ts rest → Spans 0 (nodes t) ts rest
  part_spans (p_unnamed d) = expr_spans d
  part_spans (p_named {tok = tok} {colon = colon} h k d) =
      within (token_spans (name_no_end tok.kind h) (token_spans (punct_no_end colon.kind 58 k) (expr_spans d))) (omega arith)

  tail_spans : {x : Origin} {i : Layout} {tests : Parts} {v : Term} {ts rest : List Token} → SpellsTail x i tests v ts rest
      → Spans 0 (suc (nodes_in tests + nodes v)) ts rest
  tail_spans (p_tail on d c) = within (then_spans (expr_spans d) (value_spans c)) (omega arith)

  value_spans : {x : Origin} {i : Layout} {v : Term} {ts rest : List Token} → SpellsValue x i v ts rest → Spans 0 (suc (nodes v)) ts rest
  value_spans {i = i} (p_value {tok = tok} h on d) = token_spans (behind_no_end (is_punct 58) (goes_on i tok.indent) tok.kind refl h) (expr_spans d)
  value_spans {i = i} (p_own_line {tok = tok} h on d c) = token_spans (behind_no_end (is_punct 58) (goes_on i tok.indent) tok.kind refl h) (expr_spans d)

  elifs_spans : {x : Origin} {i : Layout} {some all : Choices} {ts rest : List Token} → SpellsElifs x i some all ts rest
      → Spans (nodes_of some) (nodes_of all) ts rest
  elifs_spans (p_no_elif h) = no_spans
  elifs_spans {x = x} {i = i} {some = some} (p_elif {tests = tests} {v = v} {tok = tok} h d c) =
      let e = nodes_choice some (place_at x tok) tests v in
      within (token_spans (behind_no_end is_elif (branch_goes_on i tok.indent) tok.kind refl h) (then_spans (tail_spans d) (elifs_spans c))) (omega (arith, e))

  else_spans : {x : Origin} {i : Layout} {v : Term} {ts rest : List Token} → SpellsElse x i v ts rest → Spans 0 (nodes v) ts rest
  else_spans {i = i} (p_else {tok = tok} h d) = within (token_spans (behind_no_end is_else (branch_goes_on i tok.indent) tok.kind refl h) (value_spans d))
      (omega arith)

  branches_spans : {x : Origin} {i : Layout} {at : Place} {s t : Term} {ts rest : List Token} → SpellsBranches x i at s t ts rest
      → Spans (suc (nodes s)) (nodes t) ts rest
  branches_spans {i = i} (p_branches {tok = tok} on d c o) =
      within (token_spans (behind_no_end is_of (first_goes_on i tok.indent) tok.kind refl on)
      (then_spans (of_spans d) (then_spans (ofs_spans c) (otherwise_spans o)))) (omega arith)

  of_spans : {x : Origin} {i : Layout} {tests : Parts} {v : Term} {ts rest : List Token} → SpellsOf x i tests v ts rest
      → Spans 0 (suc (nodes_in tests + nodes v)) ts rest
  of_spans (p_of on a c v) = within (then_spans (label_spans a) (then_spans (labels_spans c) (value_spans v))) (omega arith)

  labels_spans : {x : Origin} {i : Layout} {some all : Parts} {ts rest : List Token} → SpellsLabels x i some all ts rest
      → Spans (nodes_in some) (nodes_in all) ts rest
  labels_spans (p_last_label h) = no_spans
  labels_spans {i = i} {some = some} (p_label {a = a} {tok = tok} h d c) =
      let e = nodes_and some a in
      within (token_spans (behind_no_end (is_punct 44) (goes_on i tok.indent) tok.kind refl h) (then_spans (label_spans d) (labels_spans c)))
      (omega (arith, e))

  label_spans : {x : Origin} {i : Layout} {t : Term} {ts rest : List Token} → SpellsLabel x i t ts rest → Spans 0 (nodes t) ts rest
  label_spans (p_one d h) = expr_spans d
  label_spans {x = x} {i = i} (p_range {tok = tok} d h on c) =
      within (then_spans (expr_spans d) (token_spans (behind_no_end (λ k. is_run (codes "..") k (spelling x tok)) (goes_on i tok.indent) tok.kind refl h)
      (expr_spans c))) (omega arith)

  ofs_spans : {x : Origin} {i : Layout} {some all : Choices} {ts rest : List Token} → SpellsOfs x i some all ts rest
      → Spans (nodes_of some) (nodes_of all) ts rest
  ofs_spans (p_last_of h) = no_spans
  ofs_spans {x = x} {i = i} {some = some} (p_next_of {tests = tests} {v = v} {tok = tok} h d c) =
      let e = nodes_choice some (place_at x tok) tests v in
      within (token_spans (behind_no_end is_of (branch_goes_on i tok.indent) tok.kind refl h) (then_spans (of_spans d) (ofs_spans c))) (omega (arith, e))

  otherwise_spans : {x : Origin} {i : Layout} {at : Place} {s t : Term} {all : Choices} {ts rest : List Token} → SpellsOtherwise x i at s all t ts rest
      → Spans (suc (nodes s + nodes_of all)) (nodes t) ts rest
  otherwise_spans (p_no_else h) = no_spans
  otherwise_spans {i = i} (p_with_else {tok = tok} h d) =
      within (token_spans (behind_no_end is_else (branch_goes_on i tok.indent) tok.kind refl h) (value_spans d)) (omega arith)

-- ---- at places of all tokens

head_once : {x y : Token} {r s : List Token} → x ∷ r ≡ y ∷ s → x ≡ y
head_once p = cc

free_at : {ts rest : List Token} → Free ts rest → (k : ℕ) (tok : Token) (after : List Token) → drop k ts ≡ tok ∷ after → length rest < length (drop k ts)
    → tok.kind ≡ T.End → ⊥
free_at {ts = ts} stop k tok after is lt e = let h = length-drop k ts in omega (arith, h, lt)
free_at (step h f) zero tok after is lt e = h (ap (λ w. w.kind) (head_once is) ∙ e)
free_at (step h f) (suc k) tok after is lt e = free_at f k tok after is lt e

pub size_at : (tokens : List Token) (at next n : ℕ) → Spans 0 n (drop at tokens) (drop next tokens) → at < next → next ≤ length tokens → n ≤ next - at
size_at tokens at next n f goes inside =
    let s = f.size in let a = length-drop at tokens in let b = length-drop next tokens in omega (arith, s, a, b, goes, inside)

pub no_end_at : (tokens : List Token) (at next n : ℕ) → Spans 0 n (drop at tokens) (drop next tokens) → next ≤ length tokens → HasNoEnd tokens at next
no_end_at tokens at next n f inside = λ k tok rest from to is e.
    let same : at + (k - at) ≡ k = omega (arith, from) in
    let there : drop (k - at) (drop at tokens) ≡ drop k tokens = drop-drop (k - at) at tokens ∙ ap (λ m. drop m tokens) same in
    let a = length-drop k tokens in
    let b = length-drop next tokens in
    let c = ap length there in
    free_at f.free (k - at) tok rest (there ∙ is) (omega (arith, a, b, c, inside, to)) e
