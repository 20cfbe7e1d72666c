-- Reading ends: one line for each function of specs/Run.antt, by induction over the steps. A call has fewer tokens, or a lower number behind `64 *`.
use Rattle.std.proofs.Common.{◌≡◌, ℕ, zero, suc, ◌<◌, ◌≤◌, ◌+◌, ◌*◌, List, [], ◌∷◌, length, Bool, true, false, refl, arith}
use Rattle.std.specs.Prelude.{Option, Some, None, nat_lt, ◌&&◌, if◌then◌else◌}
use Rattle.arc_base.specs.declared.place.Place.{Place}
use Rattle.indent_scanner.specs.declared.token.Token.{Token}
use Rattle.nim_tree.specs.declared.expr.UnaryOp.{UnaryOp}
use Rattle.nim_tree.specs.declared.expr.BinaryOp.{BinaryOp}
use Rattle.nim_tree.specs.Terms.{Term, binary, Parts, no_parts, part, and_part, Choices, no_choices, choice, and_choice, place_of, levels}
use Rattle.parse_exprs.specs.declared.layout.Layout.{Layout}
use Rattle.parse_exprs.specs.declared.layout.Layout.TheVariants.{Brackets}
use Rattle.parse_exprs.specs.declared.input.Bracket.{Bracket}
use Rattle.parse_exprs.specs.declared.input.Bracket.TheVariants.{Square}
use Rattle.parse_exprs.specs.declared.input.Lead.{Lead}
use Rattle.parse_exprs.specs.declared.input.Lead.TheVariants as L
use Rattle.parse_exprs.specs.Look.{Origin, spelling, place_at, goes_on, op_at, op_levels, single, sign_of, is_at_sign, is_name, is_punct, kind_at, bracket_at}
use Rattle.parse_exprs.specs.Look.{square_at, closes_at, names_in, names_behind, name_on, suffix_at, stays, operand_at, lead_at, branch_at, is_elif, is_else}
use Rattle.parse_exprs.specs.Look.{is_of, first_of_at, branch_layout, colon_at, comma_at, past_colon, dots_at, at_start, past_start, no_command_on, else_on}
use Rattle.parse_exprs.specs.Look.{deeper_line_at, line_layout, closed_at}
use Rattle.parse_exprs.specs.Outcome.{deep, stuck, Out, bad, then_do, unless_stuck}
use Rattle.parse_exprs.specs.Run.{behind, made, run_field, run_expr, run_lead, run_level, run_chain, run_more, run_unary, run_signed, run_primary, run_suffixes}
use Rattle.parse_exprs.specs.Run.{run_suffix, run_applied, run_atom, run_group, run_enclosed, run_list, run_parts, run_part, run_if, run_tail, run_value}
use Rattle.parse_exprs.specs.Run.{run_own_line, run_elifs, run_else, run_case, run_branches, run_of, run_labels, run_label, run_ofs, run_otherwise}
use Rattle.parse_exprs.specs.Ends.{Ends, e_read, e_deep, e_stuck}

-- ---- steps put together

wider : {X : Type 0} {m n : ℕ} {o : Out X} → m ≤ n → Ends m o → Ends n o
wider le (e_read lt) = e_read (omega (arith, le, lt))
wider le (e_deep some) = e_deep (omega (arith, le, some))
wider le e_stuck = e_stuck

ends_then : {X Y : Type 0} {m n : ℕ} {o : Out X} (go : X → List Token → Out Y) → m ≤ n → Ends m o →
    ((a : X) (mid : List Token) → length mid < m → Ends n (go a mid)) → Ends n (then_do o go)
ends_then go le (e_read lt) f = f _ _ lt
ends_then go le (e_deep some) f = e_deep (omega (arith, le, some))
ends_then go le e_stuck f = e_stuck

ends_unless : {X : Type 0} {n : ℕ} {go : Out X} (b : Bool) (ts : List Token) → Ends n go → Ends n (unless_stuck b ts go)
ends_unless true ts h = h
ends_unless false ts h = e_stuck

ends_if : {X : Type 0} {n : ℕ} {f g : Out X} (b : Bool) → Ends n f → Ends n g → Ends n (if b then f else g)
ends_if true h k = h
ends_if false h k = k

ends_made : {n : ℕ} (o : Option Term) (at rest : List Token) → length rest < n → Ends n (made o at rest)
ends_made None at rest lt = e_stuck
ends_made (Some t) at rest lt = e_read lt

behind_within : (ts : List Token) → length (behind ts) ≤ length ts
behind_within [] = omega arith
behind_within (tok ∷ ts) = omega arith

ends_field : (o : Option Token) (x : Origin) (a : Term) (ts : List Token) → 0 < length ts → Ends (length ts) (run_field o x a ts)
ends_field None x a ts some = e_stuck
ends_field (Some tok) x a [] some = e_read some
ends_field (Some tok) x a (dot ∷ ts) some = let h = behind_within ts in e_read (omega (arith, h))

ends_operand : (b : Bool) (m : ℕ) (ts : List Token) → Ends {X = Term} (suc m) (bad (if b then deep else stuck ts))
ends_operand true m ts = e_deep (omega arith)
ends_operand false m ts = e_stuck

past_within_by : (b : Bool) (tok : Token) (ts : List Token) → length (if b then ts else tok ∷ ts) ≤ suc (length ts)
past_within_by true tok ts = omega arith
past_within_by false tok ts = omega arith

past_within : (i : Layout) (ts : List Token) → length (past_colon i ts) ≤ length ts
past_within i [] = omega arith
past_within i (tok ∷ ts) = past_within_by (goes_on i tok.indent && is_punct 58 tok.kind) tok ts

-- ---- the functions

mutual
  pub ends_expr : (k : ℕ) (x : Origin) (i : Layout) (n : ℕ) (ts : List Token) → 64 * length ts + 20 ≤ k → Ends (length ts) (run_expr k x i n ts)
  ends_expr zero x i n ts le = absurd (omega (arith, le))
  ends_expr (suc k) x i n ts le = ends_lead k (lead_at ts) x i n ts refl (omega (arith, le))

  ends_lead : (k : ℕ) (lead : Lead) (x : Origin) (i : Layout) (n : ℕ) (ts : List Token) → lead_at ts ≡ lead → 64 * length ts + 19 ≤ k
      → Ends (length ts) (run_lead k lead x i n ts)
  ends_lead zero lead x i n ts is le = absurd (omega (arith, le))
  ends_lead (suc k) L.Operand x i n ts is le = ends_level k x i op_levels n ts (omega arith) (omega (arith, le))
  ends_lead (suc k) L.If x i n [] is le = cc
  ends_lead (suc k) L.If x i n (tok ∷ ts) is le = ends_the_if k x i n tok ts (omega (arith, le))
  ends_lead (suc k) L.Case x i n [] is le = cc
  ends_lead (suc k) L.Case x i n (tok ∷ ts) is le = ends_case k x i n tok ts (omega (arith, le))

  -- ---- operators

  ends_level : (k : ℕ) (x : Origin) (i : Layout) (l n : ℕ) (ts : List Token) → l ≤ 6 → 64 * length ts + 12 + l ≤ k → Ends (length ts) (run_level k x i l n ts)
  ends_level zero x i l n ts few le = absurd (omega (arith, le))
  ends_level (suc k) x i zero n ts few le = ends_unary k x i n ts (omega (arith, le))
  ends_level (suc k) x i (suc l) n ts few le =
      ends_then _ (omega arith) (ends_level k x i l n ts (omega (arith, few)) (omega (arith, le)))
      (λ a mid lt. wider (omega (arith, lt)) (ends_chain k x (past_start i) l n a mid (omega (arith, few)) (omega (arith, le, lt))))

  ends_chain : (k : ℕ) (x : Origin) (i : Layout) (l n : ℕ) (a : Term) (ts : List Token) → l ≤ 6 → 64 * length ts + 20 ≤ k
      → Ends (suc (length ts)) (run_chain k x i l n a ts)
  ends_chain zero x i l n a ts few le = absurd (omega (arith, le))
  ends_chain (suc k) x i l n a ts few le = ends_more k (op_at x i l ts) x i l n a ts few (omega (arith, le))

  ends_more : (k : ℕ) (op : Option BinaryOp) (x : Origin) (i : Layout) (l n : ℕ) (a : Term) (ts : List Token) → l ≤ 6 → 64 * length ts + 19 ≤ k
      → Ends (suc (length ts)) (run_more k op x i l n a ts)
  ends_more zero op x i l n a ts few le = absurd (omega (arith, le))
  ends_more (suc k) None x i l n a ts few le = e_read (omega arith)
  ends_more (suc k) (Some op) x i l zero a ts few le = e_deep (omega arith)
  ends_more (suc k) (Some op) x i l (suc n) a ts few le =
      let h = behind_within ts in
      ends_if (nat_lt n (levels a)) (e_deep (omega arith)) (ends_then _ (omega (arith, h)) (ends_level k x i l n (behind ts) few (omega (arith, few, le, h)))
      (λ b mid lt. wider (omega (arith, lt, h)) (ends_chain k x i l (suc n) (binary (place_of a) op a b) mid few (omega (arith, le, lt, h)))))

  ends_unary : (k : ℕ) (x : Origin) (i : Layout) (n : ℕ) (ts : List Token) → 64 * length ts + 11 ≤ k → Ends (length ts) (run_unary k x i n ts)
  ends_unary zero x i n ts le = absurd (omega (arith, le))
  ends_unary (suc k) x i zero [] le = e_stuck
  ends_unary (suc k) x i zero (tok ∷ ts) le = ends_operand (operand_at x (tok ∷ ts)) (length ts) (tok ∷ ts)
  ends_unary (suc k) x i (suc n) [] le = e_stuck
  ends_unary (suc k) x i (suc n) (tok ∷ ts) le = ends_signed k (sign_of tok.kind (spelling x tok)) x i n tok ts (omega (arith, le))

  ends_signed : (k : ℕ) (op : Option UnaryOp) (x : Origin) (i : Layout) (n : ℕ) (tok : Token) (ts : List Token) → 64 * suc (length ts) + 10 ≤ k
      → Ends (suc (length ts)) (run_signed k op x i n tok ts)
  ends_signed zero op x i n tok ts le = absurd (omega (arith, le))
  ends_signed (suc k) None x i n tok ts le =
      ends_then _ (omega arith) (ends_primary k x i (at_start i) (suc n) (tok ∷ ts) (omega (arith, le)))
      (λ a rest lt. ends_unless (no_command_on x i rest) rest (e_read lt))
  ends_signed (suc k) (Some op) x i n tok ts le =
      ends_unless (stays i ts) ts (ends_then _ (omega arith) (ends_unary k x (past_start i) n ts (omega (arith, le))) (λ a rest lt. e_read (omega (arith, lt))))

  -- ---- what stands behind an atom

  pub ends_primary : (k : ℕ) (x : Origin) (i : Layout) (c : Bool) (n : ℕ) (ts : List Token) → 64 * length ts + 9 ≤ k
      → Ends (length ts) (run_primary k x i c n ts)
  ends_primary zero x i c n ts le = absurd (omega (arith, le))
  ends_primary (suc k) x i c n ts le =
      ends_then _ (omega arith) (ends_atom k x i n ts (omega (arith, le)))
      (λ a mid lt. wider (omega (arith, lt)) (ends_suffixes k x i c n a mid (omega (arith, le, lt))))

  ends_suffixes : (k : ℕ) (x : Origin) (i : Layout) (c : Bool) (n : ℕ) (a : Term) (ts : List Token) → 64 * length ts + 8 ≤ k
      → Ends (suc (length ts)) (run_suffixes k x i c n a ts)
  ends_suffixes zero x i c n a ts le = absurd (omega (arith, le))
  ends_suffixes (suc k) x i c n a [] le = e_read (omega arith)
  ends_suffixes (suc k) x i c n a (tok ∷ ts) le = ends_if (suffix_at i c (tok ∷ ts)) (ends_suffix k x i c n a tok ts (omega (arith, le))) (e_read (omega arith))

  ends_suffix : (k : ℕ) (x : Origin) (i : Layout) (c : Bool) (n : ℕ) (a : Term) (tok : Token) (ts : List Token) → 64 * suc (length ts) + 7 ≤ k
      → Ends (suc (suc (length ts))) (run_suffix k x i c n a (tok ∷ ts))
  ends_suffix zero x i c n a tok ts le = absurd (omega (arith, le))
  ends_suffix (suc k) x i c zero a tok ts le = e_deep (omega arith)
  ends_suffix (suc k) x i c (suc n) a tok ts le =
      ends_if (nat_lt n (levels a)) (e_deep (omega arith)) (ends_then _ (omega arith)
      (ends_applied k (bracket_at (tok ∷ ts)) x i n a tok ts (omega (arith, le)))
      (λ b mid lt. wider (omega (arith, lt)) (ends_suffixes k x i c (suc n) b mid (omega (arith, le, lt)))))

  ends_applied : (k : ℕ) (b : Option Bracket) (x : Origin) (i : Layout) (n : ℕ) (a : Term) (tok : Token) (ts : List Token) → 64 * suc (length ts) + 6 ≤ k
      → Ends (suc (length ts)) (run_applied k b x i n a (tok ∷ ts))
  ends_applied zero b x i n a tok ts le = absurd (omega (arith, le))
  ends_applied (suc k) None x i n a tok ts le = ends_field (name_on i ts) x a (tok ∷ ts) (omega arith)
  ends_applied (suc k) (Some b) x i n a tok ts le = ends_then _ (omega arith) (ends_enclosed k x b (names_behind a b ts) n tok ts (omega (arith, le)))
      (λ parts rest lt. ends_made _ _ rest lt)

  -- ---- atoms

  ends_atom : (k : ℕ) (x : Origin) (i : Layout) (n : ℕ) (ts : List Token) → 64 * length ts + 5 ≤ k → Ends (length ts) (run_atom k x i n ts)
  ends_atom zero x i n ts le = absurd (omega (arith, le))
  ends_atom (suc k) x i n [] le = e_stuck
  ends_atom (suc k) x i n (tok ∷ ts) le = ends_group k (single x tok) (bracket_at (tok ∷ ts)) x i n tok ts (omega (arith, le))

  ends_group : (k : ℕ) (o : Option Term) (b : Option Bracket) (x : Origin) (i : Layout) (n : ℕ) (tok : Token) (ts : List Token)
      → 64 * suc (length ts) + 4 ≤ k → Ends (suc (length ts)) (run_group k o b x i n tok ts)
  ends_group zero o b x i n tok ts le = absurd (omega (arith, le))
  ends_group (suc k) (Some t) b x i n tok ts le = e_read (omega arith)
  ends_group (suc k) None None x i zero tok ts le = e_deep (omega arith)
  ends_group (suc k) None (Some b) x i zero tok ts le = e_deep (omega arith)
  ends_group (suc k) None (Some b) x i (suc n) tok ts le = ends_then _ (omega arith) (ends_enclosed k x b (names_in b ts) n tok ts (omega (arith, le)))
      (λ parts rest lt. ends_made _ ts rest lt)
  ends_group (suc k) None None x i (suc n) tok [] le = ends_unless (is_at_sign tok.kind (spelling x tok)) (tok ∷ []) e_stuck
  ends_group (suc k) None None x i (suc n) tok (next ∷ ts) le =
      ends_unless (is_at_sign tok.kind (spelling x tok)) (tok ∷ next ∷ ts)
      (ends_unless (stays i (next ∷ ts)) (next ∷ ts) (ends_unless (square_at (next ∷ ts)) (next ∷ ts)
      (ends_then _ (omega arith) (ends_enclosed k x Square false n next ts (omega (arith, le))) (λ parts rest lt. e_read (omega (arith, lt))))))

  -- ---- parts in brackets

  ends_enclosed : (k : ℕ) (x : Origin) (b : Bracket) (names : Bool) (n : ℕ) (tok : Token) (ts : List Token) → 64 * suc (length ts) + 3 ≤ k
      → Ends (suc (length ts)) (run_enclosed k x b names n (tok ∷ ts))
  ends_enclosed zero x b names n tok ts le = absurd (omega (arith, le))
  ends_enclosed (suc k) x b names n tok ts le =
      let h = behind_within ts in
      ends_if (closes_at b ts) (e_read (omega (arith, h))) (ends_then _ (omega arith) (ends_list k x names n ts (omega (arith, le)))
      (λ parts mid lt. let g = behind_within mid in ends_unless (closes_at b mid) mid (e_read (omega (arith, lt, g)))))

  ends_list : (k : ℕ) (x : Origin) (names : Bool) (n : ℕ) (ts : List Token) → 64 * length ts + 22 ≤ k → Ends (length ts) (run_list k x names n ts)
  ends_list zero x names n ts le = absurd (omega (arith, le))
  ends_list (suc k) x names n ts le =
      ends_then _ (omega arith) (ends_part k x names n ts (omega (arith, le)))
      (λ a mid lt. wider (omega (arith, lt)) (ends_parts k x names n (part a no_parts) mid (omega (arith, le, lt))))

  ends_parts : (k : ℕ) (x : Origin) (names : Bool) (n : ℕ) (some : Parts) (ts : List Token) → 64 * length ts + 1 ≤ k
      → Ends (suc (length ts)) (run_parts k x names n some ts)
  ends_parts zero x names n some ts le = absurd (omega (arith, le))
  ends_parts (suc k) x names n some [] le = e_read (omega arith)
  ends_parts (suc k) x names n some (tok ∷ ts) le =
      ends_if (kind_at (is_punct 44) (tok ∷ ts)) (ends_then _ (omega arith) (ends_part k x names n ts (omega (arith, le)))
      (λ a mid lt. wider (omega (arith, lt)) (ends_parts k x names n (and_part some a) mid (omega (arith, le, lt))))) (e_read (omega arith))

  ends_part : (k : ℕ) (x : Origin) (names : Bool) (n : ℕ) (ts : List Token) → 64 * length ts + 21 ≤ k → Ends (length ts) (run_part k x names n ts)
  ends_part zero x names n ts le = absurd (omega (arith, le))
  ends_part (suc k) x false n ts le = ends_expr k x Brackets n ts (omega (arith, le))
  ends_part (suc k) x true n [] le = e_stuck
  ends_part (suc k) x true n (tok ∷ ts) le =
      let h = behind_within ts in
      ends_unless (kind_at is_name (tok ∷ ts)) (tok ∷ ts) (ends_unless (kind_at (is_punct 58) ts) ts
      (ends_then _ (omega (arith, h)) (ends_expr k x Brackets n (behind ts) (omega (arith, le, h))) (λ a rest lt. e_read (omega (arith, lt, h)))))

  -- ---- `if`

  ends_the_if : (k : ℕ) (x : Origin) (i : Layout) (n : ℕ) (tok : Token) (ts : List Token) → 64 * suc (length ts) + 1 ≤ k
      → Ends (suc (length ts)) (run_if k x i n (tok ∷ ts))
  ends_the_if zero x i n tok ts le = absurd (omega (arith, le))
  ends_the_if (suc k) x i zero tok ts le = e_deep (omega arith)
  ends_the_if (suc k) x i (suc n) tok ts le =
      ends_then _ (omega arith) (ends_tail k x i n ts (omega (arith, le))) (λ one mid lt.
      ends_then _ (omega (arith, lt)) (ends_elifs k x i n (choice (place_at x tok) one.tests one.value no_choices) mid (omega (arith, le, lt))) (λ all end less.
      ends_then _ (omega (arith, lt, less)) (ends_else k x i n end (omega (arith, le, lt, less))) (λ e rest least. e_read (omega (arith, lt, less, least)))))

  ends_tail : (k : ℕ) (x : Origin) (i : Layout) (n : ℕ) (ts : List Token) → 64 * length ts + 21 ≤ k → Ends (length ts) (run_tail k x i n ts)
  ends_tail zero x i n ts le = absurd (omega (arith, le))
  ends_tail (suc k) x i n ts le =
      ends_unless (stays i ts) ts (ends_then _ (omega arith) (ends_expr k x (past_start i) n ts (omega (arith, le))) (λ c mid lt.
      ends_then _ (omega (arith, lt)) (ends_value k x i n mid (omega (arith, le, lt))) (λ v rest less. e_read (omega (arith, lt, less)))))

  ends_value : (k : ℕ) (x : Origin) (i : Layout) (n : ℕ) (ts : List Token) → 64 * length ts + 22 ≤ k → Ends (length ts) (run_value k x i n ts)
  ends_value zero x i n ts le = absurd (omega (arith, le))
  ends_value (suc k) x i n ts le =
      let h = behind_within ts in
      ends_unless (colon_at i ts) ts (wider h (ends_if (stays i (behind ts)) (ends_expr k x i n (behind ts) (omega (arith, le, h)))
      (ends_own_line k x i n (behind ts) (omega (arith, le, h)))))

  ends_own_line : (k : ℕ) (x : Origin) (i : Layout) (n : ℕ) (ts : List Token) → 64 * length ts + 21 ≤ k → Ends (length ts) (run_own_line k x i n ts)
  ends_own_line zero x i n ts le = absurd (omega (arith, le))
  ends_own_line (suc k) x i n ts le =
      ends_unless (deeper_line_at i ts) ts (ends_then _ (omega arith) (ends_expr k x (line_layout i ts) n ts (omega (arith, le)))
      (λ v rest lt. ends_unless (closed_at (line_layout i ts) rest) rest (e_read lt)))

  ends_elifs : (k : ℕ) (x : Origin) (i : Layout) (n : ℕ) (some : Choices) (ts : List Token) → 64 * length ts + 1 ≤ k
      → Ends (suc (length ts)) (run_elifs k x i n some ts)
  ends_elifs zero x i n some ts le = absurd (omega (arith, le))
  ends_elifs (suc k) x i n some [] le = e_read (omega arith)
  ends_elifs (suc k) x i n some (tok ∷ ts) le =
      ends_if (branch_at i is_elif (tok ∷ ts)) (ends_then _ (omega arith) (ends_tail k x i n ts (omega (arith, le)))
      (λ one mid lt. wider (omega (arith, lt)) (ends_elifs k x i n (and_choice some (place_at x tok) one.tests one.value) mid (omega (arith, le, lt)))))
      (e_read (omega arith))

  ends_else : (k : ℕ) (x : Origin) (i : Layout) (n : ℕ) (ts : List Token) → 64 * length ts + 23 ≤ k → Ends (length ts) (run_else k x i n ts)
  ends_else zero x i n ts le = absurd (omega (arith, le))
  ends_else (suc k) x i n ts le = let h = behind_within ts in ends_unless (branch_at i is_else ts) ts
      (wider h (ends_value k x i n (behind ts) (omega (arith, le, h))))

  -- ---- `case`

  ends_case : (k : ℕ) (x : Origin) (i : Layout) (n : ℕ) (tok : Token) (ts : List Token) → 64 * suc (length ts) + 1 ≤ k
      → Ends (suc (length ts)) (run_case k x i n (tok ∷ ts))
  ends_case zero x i n tok ts le = absurd (omega (arith, le))
  ends_case (suc k) x i zero tok ts le = e_deep (omega arith)
  ends_case (suc k) x i (suc n) tok ts le =
      ends_unless (stays i ts) ts (ends_then _ (omega arith) (ends_expr k x (past_start i) n ts (omega (arith, le))) (λ s mid lt.
      let h = past_within i mid in wider (omega (arith, lt, h)) (ends_branches k x i n (place_at x tok) s (past_colon i mid) (omega (arith, le, lt, h)))))

  ends_branches : (k : ℕ) (x : Origin) (i : Layout) (n : ℕ) (at : Place) (s : Term) (ts : List Token) → 64 * length ts + 1 ≤ k
      → Ends (length ts) (run_branches k x i n at s ts)
  ends_branches zero x i n at s ts le = absurd (omega (arith, le))
  ends_branches (suc k) x i n at s [] le = e_stuck
  ends_branches (suc k) x i n at s (tok ∷ ts) le =
      let j : Layout = branch_layout i tok.indent in
      ends_unless (first_of_at i (tok ∷ ts)) (tok ∷ ts) (
      ends_then _ (omega arith) (ends_of k x j n ts (omega (arith, le))) (λ one mid lt.
      ends_then _ (omega (arith, lt)) (ends_ofs k x j n (choice (place_at x tok) one.tests one.value no_choices) mid (omega (arith, le, lt))) (λ all end less.
      wider (omega (arith, lt, less)) (ends_otherwise k x j n at s all end (omega (arith, le, lt, less))))))

  ends_of : (k : ℕ) (x : Origin) (i : Layout) (n : ℕ) (ts : List Token) → 64 * length ts + 22 ≤ k → Ends (length ts) (run_of k x i n ts)
  ends_of zero x i n ts le = absurd (omega (arith, le))
  ends_of (suc k) x i n ts le =
      ends_unless (stays i ts) ts (
      ends_then _ (omega arith) (ends_label k x (past_start i) n ts (omega (arith, le))) (λ a mid lt.
      ends_then _ (omega (arith, lt)) (ends_labels k x (past_start i) n (part a no_parts) mid (omega (arith, le, lt))) (λ labels end less.
      ends_then _ (omega (arith, lt, less)) (ends_value k x i n end (omega (arith, le, lt, less))) (λ v rest least. e_read (omega (arith, lt, less, least))))))

  ends_labels : (k : ℕ) (x : Origin) (i : Layout) (n : ℕ) (some : Parts) (ts : List Token) → 64 * length ts + 1 ≤ k
      → Ends (suc (length ts)) (run_labels k x i n some ts)
  ends_labels zero x i n some ts le = absurd (omega (arith, le))
  ends_labels (suc k) x i n some [] le = e_read (omega arith)
  ends_labels (suc k) x i n some (tok ∷ ts) le =
      ends_if (comma_at i (tok ∷ ts)) (ends_then _ (omega arith) (ends_label k x i n ts (omega (arith, le)))
      (λ a mid lt. wider (omega (arith, lt)) (ends_labels k x i n (and_part some a) mid (omega (arith, le, lt))))) (e_read (omega arith))

  ends_label : (k : ℕ) (x : Origin) (i : Layout) (n : ℕ) (ts : List Token) → 64 * length ts + 21 ≤ k → Ends (length ts) (run_label k x i n ts)
  ends_label zero x i n ts le = absurd (omega (arith, le))
  ends_label (suc k) x i n ts le =
      ends_then _ (omega arith) (ends_expr k x i n ts (omega (arith, le))) (λ a mid lt.
      let h = behind_within mid in
      ends_if (dots_at x i mid) (ends_unless (stays i (behind mid)) (behind mid)
      (ends_then _ (omega (arith, lt, h)) (ends_expr k x i n (behind mid) (omega (arith, le, lt, h))) (λ b rest less. e_read (omega (arith, lt, h, less)))))
      (e_read lt))

  ends_ofs : (k : ℕ) (x : Origin) (i : Layout) (n : ℕ) (some : Choices) (ts : List Token) → 64 * length ts + 1 ≤ k
      → Ends (suc (length ts)) (run_ofs k x i n some ts)
  ends_ofs zero x i n some ts le = absurd (omega (arith, le))
  ends_ofs (suc k) x i n some [] le = e_read (omega arith)
  ends_ofs (suc k) x i n some (tok ∷ ts) le =
      ends_if (branch_at i is_of (tok ∷ ts)) (ends_then _ (omega arith) (ends_of k x i n ts (omega (arith, le)))
      (λ one mid lt. wider (omega (arith, lt)) (ends_ofs k x i n (and_choice some (place_at x tok) one.tests one.value) mid (omega (arith, le, lt)))))
      (e_read (omega arith))

  ends_otherwise : (k : ℕ) (x : Origin) (i : Layout) (n : ℕ) (at : Place) (s : Term) (all : Choices) (ts : List Token) → 64 * length ts + 24 ≤ k
      → Ends (suc (length ts)) (run_otherwise k x i n at s all ts)
  ends_otherwise zero x i n at s all ts le = absurd (omega (arith, le))
  ends_otherwise (suc k) x i n at s all ts le =
      let h = behind_within ts in
      ends_if (else_on i ts) (ends_then _ (omega (arith, h)) (ends_value k x i n (behind ts) (omega (arith, le, h)))
      (λ e rest lt. e_read (omega (arith, lt, h)))) (e_read (omega arith))
