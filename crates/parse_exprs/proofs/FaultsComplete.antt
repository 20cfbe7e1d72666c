-- Where the text can't go on, a computation reads nothing, for that reason.
use Rattle.std.proofs.Common.{◌≡◌, ℕ, zero, suc, List, [], ◌∷◌, Bool, true, false, refl, sym, ap, subst, arith}
use Rattle.std.specs.Prelude.{Some, None, if◌then◌else◌}
use Rattle.std.proofs.lemmas.Bool.{lt-ltb, le-ltb}
use Rattle.arc_base.specs.declared.place.Place.{Place}
use Rattle.indent_scanner.specs.declared.token.Token.{Token}
use Rattle.nim_tree.specs.Terms.{Term, Parts, no_parts, part, and_part, Choices, no_choices, choice, and_choice, levels}
use Rattle.parse_exprs.specs.declared.layout.Layout.{Layout}
use Rattle.parse_exprs.specs.declared.input.Bracket.{Bracket}
use Rattle.parse_exprs.specs.declared.input.Bracket.TheVariants.{Round}
use Rattle.parse_exprs.specs.declared.input.Lead.TheVariants as L
use Rattle.parse_exprs.specs.Look.{Origin, place_at, grouped, bracket_at, closes_at, names_in}
use Rattle.parse_exprs.specs.Outcome.{Out, got, bad, deep, stuck, unless_stuck, Settles}
use Rattle.parse_exprs.specs.Run.{behind, run_field, run_expr, run_level, run_chain, run_unary, run_primary, run_suffixes, run_applied, run_atom, run_enclosed}
use Rattle.parse_exprs.specs.Run.{run_list, run_parts, run_part, run_if, run_tail, run_value, run_elifs, run_else, run_case, run_branches, run_of}
use Rattle.parse_exprs.specs.Run.{run_labels, run_label, run_ofs, made}
use Rattle.parse_exprs.specs.Faults.{Fault, too_deep, stuck_at, FaultsExpr, f_operators, f_no_if, f_if, f_no_case, f_case, Faults, f_tight, f_operand, f_more}
use Rattle.parse_exprs.specs.Faults.{FaultsMore, f_operator, f_next, f_beyond, FaultsUnary, f_no_level, f_no_operand, f_nothing, f_sign_line, f_sign, f_plain}
use Rattle.parse_exprs.specs.Faults.{f_command, FaultsPrimary, f_atom, f_behind, FaultsSuffixes, f_full, f_suffix, f_further, FaultsSuffix, f_field, f_applied}
use Rattle.parse_exprs.specs.Faults.{FaultsAtom, f_no_atom, f_other, f_no_square, f_not_square, f_sequence, f_empty, f_group, FaultsEnclosed, f_list, f_no_end}
use Rattle.parse_exprs.specs.Faults.{FaultsListed, f_part, f_parts, FaultsParts, f_next_part, f_later_part, FaultsPart, f_unnamed, f_no_name, f_name_alone}
use Rattle.parse_exprs.specs.Faults.{f_named, FaultsIf, f_tail, f_elifs, f_else, FaultsTail, f_tail_line, f_condition, f_tail_value, FaultsValue, f_no_colon}
use Rattle.parse_exprs.specs.Faults.{f_value_line, f_value, f_own_line, f_not_closed, FaultsElifs, f_elif, f_next_elif, FaultsElse, f_no_else, f_else_value}
use Rattle.parse_exprs.specs.Faults.{FaultsCase, f_case_line, f_subject, f_branches, FaultsBranches, f_no_of, f_first_of, f_ofs, f_otherwise, FaultsOf}
use Rattle.parse_exprs.specs.Faults.{f_of_line, f_label, f_labels, f_of_value, FaultsLabels, f_next_label, f_later_label, FaultsLabel, f_one, f_range_line}
use Rattle.parse_exprs.specs.Faults.{f_range, FaultsOfs, f_of, f_next_of}
use Rattle.parse_exprs.proofs.Settling.{settles_suc, settles_got, settles_is, settles_then, settles_bad, settles_unless, settles_stuck, settles_if}
use Rattle.parse_exprs.proofs.Settling.{settles_else}
use Rattle.parse_exprs.proofs.Beginning.{group_alone, at_alone, at_bracket}
use Rattle.parse_exprs.proofs.Stopping.{deeper_stays}
use Rattle.parse_exprs.proofs.Complete.{by_lead, by_op, by_sign, by_bracket, by_atom, complete_expr, complete_level, complete_primary, complete_atom}
use Rattle.parse_exprs.proofs.Complete.{complete_suffix, complete_part, complete_parts, complete_tail, complete_elifs, complete_of, complete_ofs}
use Rattle.parse_exprs.proofs.Complete.{complete_label, complete_labels}
use Rattle.parse_exprs.proofs.FaultsSound.{why_of}

deep_here : {X : Type 0} {f : ℕ → Out X} {why : Fault} → why ≡ too_deep → Settles f (bad deep) → Settles f (bad (why_of why))
deep_here {f = f} e h = subst (λ w. Settles f (bad (why_of w))) (sym e) h

stuck_here : {X : Type 0} {f : ℕ → Out X} {why : Fault} {ts : List Token} → why ≡ stuck_at ts → Settles f (bad (stuck ts)) → Settles f (bad (why_of why))
stuck_here {f = f} e h = subst (λ w. Settles f (bad (why_of w))) (sym e) h

-- it is stuck at a test
test_here : {X : Type 0} {why : Fault} {b : Bool} (f : ℕ → Out X) (ts : List Token) → b ≡ false → why ≡ stuck_at ts → Settles (λ k. unless_stuck b ts (f k))
    (bad (why_of why))
test_here f ts h e = stuck_here e (settles_stuck f ts h)

empty_stuck : (ts : List Token) (m : Bool) (x : Origin) (tok : Token) → Settles (λ k. made (grouped Round m (place_at x tok) no_parts) ts (behind ts))
    (bad (stuck ts))
empty_stuck ts true x tok = settles_got
empty_stuck ts false x tok = settles_got

empty_read : (x : Origin) (b : Bracket) (m : Bool) (n : ℕ) (tok : Token) (ts : List Token) → closes_at b ts ≡ true
    → Settles (λ k. run_enclosed k x b m n (tok ∷ ts)) (got no_parts (behind ts))
empty_read x b m n tok ts c = settles_suc (settles_if _ c settles_got) (λ k. refl)

mutual
  pub fails_expr : {x : Origin} {why : Fault} {i : Layout} {n : ℕ} {ts : List Token} → FaultsExpr x why i n ts
      → Settles (λ k. run_expr k x i n ts) (bad (why_of why))
  fails_expr {x = x} {i = i} {n = n} {ts = ts} (f_operators is d) = by_lead x i n ts L.Operand is (settles_suc (fails_level d) (λ k. refl))
  fails_expr {x = x} {i = i} {n = n} {ts = ts} (f_no_if is w) =
      by_lead x i n ts L.If is (settles_suc (settles_suc (deep_here w settles_got) (λ k. refl)) (λ k. refl))
  fails_expr {x = x} {i = i} {n = n} {ts = ts} (f_if is d) = by_lead x i n ts L.If is (settles_suc (fails_if d) (λ k. refl))
  fails_expr {x = x} {i = i} {n = n} {ts = ts} (f_no_case is w) =
      by_lead x i n ts L.Case is (settles_suc (settles_suc (deep_here w settles_got) (λ k. refl)) (λ k. refl))
  fails_expr {x = x} {i = i} {n = n} {ts = ts} (f_case {tok = tok} is d) = by_lead x i n ts L.Case is (settles_suc (fails_case tok d) (λ k. refl))

  -- ---- operators

  fails_level : {x : Origin} {why : Fault} {i : Layout} {l n : ℕ} {ts : List Token} → Faults x why i l n ts
      → Settles (λ k. run_level k x i l n ts) (bad (why_of why))
  fails_level (f_tight d) = settles_suc (fails_unary d) (λ k. refl)
  fails_level (f_operand d) = settles_suc (settles_bad _ (fails_level d)) (λ k. refl)
  fails_level {n = n} (f_more d c) = settles_suc (settles_then _ (complete_level d.spells d.stops n d.few) (fails_more c)) (λ k. refl)

  fails_more : {x : Origin} {why : Fault} {i : Layout} {l n : ℕ} {a : Term} {ts : List Token} → FaultsMore x why i l n a ts
      → Settles (λ k. run_chain k x i l n a ts) (bad (why_of why))
  fails_more {x = x} {i = i} {l = l} {n = zero} {a = a} {ts = ts} (f_operator {op = op} h le w) = by_op x i l zero a ts (Some op) h
      (settles_suc (deep_here w settles_got) (λ k. refl))
  fails_more {x = x} {i = i} {l = l} {n = suc n} {a = a} {ts = ts} (f_operator {op = op} h le w) =
      by_op x i l (suc n) a ts (Some op) h (settles_suc (settles_if _ (lt-ltb n (levels a) (omega (arith, le))) (deep_here w settles_got)) (λ k. refl))
  fails_more {x = x} {i = i} {l = l} {n = n} {a = a} {ts = ts} (f_next {n = less} {op = op} h le d) =
      by_op x i l n a ts (Some op) h (settles_suc (settles_else (λ k. bad deep) (le-ltb less (levels a) le) (settles_bad _ (fails_level d))) (λ k. refl))
  fails_more {x = x} {i = i} {l = l} {n = n} {a = a} {ts = ts} (f_beyond {n = less} {op = op} h le d c) =
      by_op x i l n a ts (Some op) h
      (settles_suc (settles_else (λ k. bad deep) (le-ltb less (levels a) le) (settles_then _ (complete_level d.spells d.stops less d.few) (fails_more c)))
      (λ k. refl))

  fails_unary : {x : Origin} {why : Fault} {i : Layout} {n : ℕ} {ts : List Token} → FaultsUnary x why i n ts
      → Settles (λ k. run_unary k x i n ts) (bad (why_of why))
  fails_unary {ts = ts} (f_no_level h w) = deep_here w (settles_suc settles_got (λ k. ap (λ b. bad (if b then deep else stuck ts)) h))
  fails_unary {ts = ts} (f_no_operand h w) = stuck_here w (settles_suc settles_got (λ k. ap (λ b. bad (if b then deep else stuck ts)) h))
  fails_unary (f_nothing w) = stuck_here w (settles_suc settles_got (λ k. refl))
  fails_unary {x = x} {i = i} (f_sign_line {n = n} {op = op} {tok = tok} {ts = ts} h on w) =
      by_sign x i n tok ts (Some op) h (settles_suc (test_here _ ts on w) (λ k. refl))
  fails_unary {x = x} {i = i} (f_sign {n = n} {op = op} {tok = tok} {ts = ts} h on d) =
      by_sign x i n tok ts (Some op) h (settles_suc (settles_unless ts on (settles_bad _ (fails_unary d))) (λ k. refl))
  fails_unary {x = x} {i = i} (f_plain {n = n} {tok = tok} {ts = ts} h d) =
      by_sign x i n tok ts None h (settles_suc (settles_bad _ (fails_primary d)) (λ k. refl))
  fails_unary {x = x} {i = i} (f_command {n = n} {tok = tok} {ts = ts} {mid = mid} h d few s apart w) =
      by_sign x i n tok ts None h (settles_suc (settles_then _ (complete_primary d s n few) (test_here _ mid apart w)) (λ k. refl))

  -- ---- what stands behind an atom

  pub fails_primary : {x : Origin} {why : Fault} {i : Layout} {c : Bool} {n : ℕ} {ts : List Token} → FaultsPrimary x why i c n ts
      → Settles (λ k. run_primary k x i c (suc n) ts) (bad (why_of why))
  fails_primary (f_atom d) = settles_suc (settles_bad _ (fails_atom d)) (λ k. refl)
  fails_primary {n = n} (f_behind d few c) = settles_suc (settles_then _ (complete_atom d n few) (fails_suffixes c)) (λ k. refl)

  fails_suffixes : {x : Origin} {why : Fault} {i : Layout} {c : Bool} {n : ℕ} {a : Term} {ts : List Token} → FaultsSuffixes x why i c n a ts
      → Settles (λ k. run_suffixes k x i c (suc n) a ts) (bad (why_of why))
  fails_suffixes {n = n} {a = a} (f_full on le w) =
      settles_suc (settles_if _ on (settles_suc (settles_if _ (lt-ltb n (levels a) (omega (arith, le))) (deep_here w settles_got)) (λ k. refl))) (λ k. refl)
  fails_suffixes {n = n} {a = a} (f_suffix on le d) =
      settles_suc (settles_if _ on (settles_suc (settles_else (λ k. bad deep) (le-ltb n (levels a) le) (settles_bad _ (fails_suffix d))) (λ k. refl)))
      (λ k. refl)
  fails_suffixes {n = n} {a = a} (f_further on le d few c) =
      settles_suc (settles_if _ on
      (settles_suc (settles_else (λ k. bad deep) (le-ltb n (levels a) le) (settles_then _ (complete_suffix d n few) (fails_suffixes c))) (λ k. refl)))
      (λ k. refl)

  fails_suffix : {x : Origin} {why : Fault} {i : Layout} {n : ℕ} {a : Term} {tok : Token} {ts : List Token} → FaultsSuffix x why i n a tok ts
      → Settles (λ k. run_applied k (bracket_at (tok ∷ ts)) x i n a (tok ∷ ts)) (bad (why_of why))
  fails_suffix {x = x} {i = i} {n = n} {a = a} {tok = tok} {ts = ts} (f_field is h w) =
      by_bracket x i n a (tok ∷ ts) None is (settles_suc (stuck_here w (settles_is settles_got (λ k. ap (λ o. run_field o x a (tok ∷ ts)) h))) (λ k. refl))
  fails_suffix {x = x} {i = i} {n = n} {a = a} {tok = tok} {ts = ts} (f_applied {b = b} is d) =
      by_bracket x i n a (tok ∷ ts) (Some b) is (settles_suc (settles_bad _ (fails_enclosed tok d)) (λ k. refl))

  fails_atom : {x : Origin} {why : Fault} {i : Layout} {n : ℕ} {ts : List Token} → FaultsAtom x why i n ts → Settles (λ k. run_atom k x i (suc n) ts)
      (bad (why_of why))
  fails_atom (f_no_atom w) = stuck_here w (settles_suc settles_got (λ k. refl))
  fails_atom {x = x} {i = i} {n = n} (f_other {tok = tok} {ts = ts} h b at w) = by_atom x i (suc n) tok ts None None h b
      (settles_suc (test_here _ (tok ∷ ts) at w) (λ k. refl))
  fails_atom {x = x} {i = i} {n = n} (f_no_square {tok = tok} {ts = ts} at on w) =
      by_atom x i (suc n) tok ts None None (at_alone x tok at) (at_bracket x tok at)
      (settles_suc (settles_unless (tok ∷ ts) at (test_here _ ts on w)) (λ k. refl))
  fails_atom {x = x} {i = i} {n = n} (f_not_square {tok = tok} {ts = ts} at on square w) =
      by_atom x i (suc n) tok ts None None (at_alone x tok at) (at_bracket x tok at)
      (settles_suc (settles_unless (tok ∷ ts) at (settles_unless ts on (test_here _ ts square w))) (λ k. refl))
  fails_atom {x = x} {i = i} {n = n} (f_sequence {tok = tok} {at = at} {ts = ts} is on square d) =
      by_atom x i (suc n) at (tok ∷ ts) None None (at_alone x at is) (at_bracket x at is)
      (settles_suc (settles_unless (at ∷ tok ∷ ts) is (settles_unless (tok ∷ ts) on (settles_unless (tok ∷ ts) square (settles_bad _ (fails_enclosed tok d)))))
      (λ k. refl))
  fails_atom {x = x} {i = i} {n = n} (f_empty {tok = tok} {ts = ts} b c w) =
      by_atom x i (suc n) tok ts None (Some Round) (group_alone x tok b) b
      (settles_suc (settles_then _ (empty_read x Round (names_in Round ts) n tok ts c) (stuck_here w (empty_stuck ts (names_in Round ts) x tok)))
      (λ k. refl))
  fails_atom {x = x} {i = i} {n = n} (f_group {b = b} {tok = tok} {ts = ts} is d) =
      by_atom x i (suc n) tok ts None (Some b) (group_alone x tok is) is (settles_suc (settles_bad _ (fails_enclosed tok d)) (λ k. refl))

  -- ---- parts in brackets

  fails_enclosed : {x : Origin} {why : Fault} {b : Bracket} {m : Bool} {n : ℕ} {ts : List Token} (tok : Token) → FaultsEnclosed x why b m n ts
      → Settles (λ k. run_enclosed k x b m n (tok ∷ ts)) (bad (why_of why))
  fails_enclosed tok (f_list o d) = settles_suc (settles_else _ o (settles_bad _ (fails_list d))) (λ k. refl)
  fails_enclosed {n = n} tok (f_no_end {mid = mid} o d c w) =
      settles_suc (settles_else _ o (settles_then _ (complete_parts d.spells d.stops n d.few) (test_here _ mid c w))) (λ k. refl)

  fails_list : {x : Origin} {why : Fault} {m : Bool} {n : ℕ} {ts : List Token} → FaultsListed x why m n ts
      → Settles (λ k. run_list k x m n ts) (bad (why_of why))
  fails_list (f_part d) = settles_suc (settles_bad _ (fails_part d)) (λ k. refl)
  fails_list {n = n} (f_parts {a = a} d c) = settles_suc (settles_then _ (complete_part d.spells d.stops n d.few) (fails_parts (part a no_parts) c)) (λ k. refl)

  fails_parts : {x : Origin} {why : Fault} {m : Bool} {n : ℕ} {ts : List Token} (some : Parts) → FaultsParts x why m n ts
      → Settles (λ k. run_parts k x m n some ts) (bad (why_of why))
  fails_parts some (f_next_part h d) = settles_suc (settles_if _ h (settles_bad _ (fails_part d))) (λ k. refl)
  fails_parts {n = n} some (f_later_part {a = a} h d c) =
      settles_suc (settles_if _ h (settles_then _ (complete_part d.spells d.stops n d.few) (fails_parts (and_part some a) c))) (λ k. refl)

  fails_part : {x : Origin} {why : Fault} {m : Bool} {n : ℕ} {ts : List Token} → FaultsPart x why m n ts → Settles (λ k. run_part k x m n ts) (bad (why_of why))
  fails_part (f_unnamed d) = settles_suc (fails_expr d) (λ k. refl)
  fails_part {ts = []} (f_no_name h w) = stuck_here w (settles_suc settles_got (λ k. refl))
  fails_part {ts = tok ∷ ts} (f_no_name h w) = settles_suc (test_here _ (tok ∷ ts) h w) (λ k. refl)
  fails_part (f_name_alone {tok = tok} {ts = ts} h c w) = settles_suc (settles_unless (tok ∷ ts) h (test_here _ ts c w)) (λ k. refl)
  fails_part (f_named {tok = tok} {colon = colon} {ts = ts} h c d) =
      settles_suc (settles_unless (tok ∷ colon ∷ ts) h (settles_unless (colon ∷ ts) c (settles_bad _ (fails_expr d)))) (λ k. refl)

  -- ---- branches

  fails_if : {x : Origin} {why : Fault} {i : Layout} {n : ℕ} {tok : Token} {ts : List Token} → FaultsIf x why i n tok ts
      → Settles (λ k. run_if k x i (suc n) (tok ∷ ts)) (bad (why_of why))
  fails_if (f_tail d) = settles_suc (settles_bad _ (fails_tail d)) (λ k. refl)
  fails_if {x = x} {n = n} {tok = tok} (f_elifs {tests = tests} {v = v} d c) =
      settles_suc (settles_then _ (complete_tail d.spells d.stops n d.few) (settles_bad _ (fails_elifs (choice (place_at x tok) tests v no_choices) c)))
      (λ k. refl)
  fails_if {n = n} (f_else d c b) =
      settles_suc (settles_then _ (complete_tail d.spells d.stops n d.few)
      (settles_then _ (complete_elifs c.spells c.stops n c.few) (settles_bad _ (fails_else b)))) (λ k. refl)

  fails_tail : {x : Origin} {why : Fault} {i : Layout} {n : ℕ} {ts : List Token} → FaultsTail x why i n ts
      → Settles (λ k. run_tail k x i n ts) (bad (why_of why))
  fails_tail {ts = ts} (f_tail_line on w) = settles_suc (test_here _ ts on w) (λ k. refl)
  fails_tail {ts = ts} (f_condition on d) = settles_suc (settles_unless ts on (settles_bad _ (fails_expr d))) (λ k. refl)
  fails_tail {n = n} {ts = ts} (f_tail_value on d c) =
      settles_suc (settles_unless ts on (settles_then _ (complete_expr d.spells d.stops n d.few) (settles_bad _ (fails_value c)))) (λ k. refl)

  fails_value : {x : Origin} {why : Fault} {i : Layout} {n : ℕ} {ts : List Token} → FaultsValue x why i n ts
      → Settles (λ k. run_value k x i n ts) (bad (why_of why))
  fails_value {ts = ts} (f_no_colon h w) = settles_suc (test_here _ ts h w) (λ k. refl)
  fails_value (f_value_line {tok = tok} {ts = ts} h on level w) =
      settles_suc (settles_unless (tok ∷ ts) h (settles_else _ on (settles_suc (test_here _ ts level w) (λ k. refl)))) (λ k. refl)
  fails_value (f_value {tok = tok} {ts = ts} h on d) = settles_suc (settles_unless (tok ∷ ts) h (settles_if _ on (fails_expr d))) (λ k. refl)
  fails_value {i = i} (f_own_line {tok = tok} {ts = ts} h on d) =
      settles_suc (settles_unless (tok ∷ ts) h
      (settles_else _ (deeper_stays i ts on) (settles_suc (settles_unless ts on (settles_bad _ (fails_expr d))) (λ k. refl)))) (λ k. refl)
  fails_value {i = i} {n = n} (f_not_closed {tok = tok} {ts = ts} {rest = rest} h on d c w) =
      settles_suc (settles_unless (tok ∷ ts) h (settles_else _ (deeper_stays i ts on)
      (settles_suc (settles_unless ts on (settles_then _ (complete_expr d.spells d.stops n d.few) (test_here _ rest c w))) (λ k. refl)))) (λ k. refl)

  fails_elifs : {x : Origin} {why : Fault} {i : Layout} {n : ℕ} {ts : List Token} (some : Choices) → FaultsElifs x why i n ts
      → Settles (λ k. run_elifs k x i n some ts) (bad (why_of why))
  fails_elifs some (f_elif h d) = settles_suc (settles_if _ h (settles_bad _ (fails_tail d))) (λ k. refl)
  fails_elifs {x = x} {n = n} some (f_next_elif {tests = tests} {v = v} {tok = tok} h d c) =
      settles_suc (settles_if _ h (settles_then _ (complete_tail d.spells d.stops n d.few) (fails_elifs (and_choice some (place_at x tok) tests v) c)))
      (λ k. refl)

  fails_else : {x : Origin} {why : Fault} {i : Layout} {n : ℕ} {ts : List Token} → FaultsElse x why i n ts
      → Settles (λ k. run_else k x i n ts) (bad (why_of why))
  fails_else {ts = ts} (f_no_else h w) = settles_suc (test_here _ ts h w) (λ k. refl)
  fails_else (f_else_value {tok = tok} {ts = ts} h d) = settles_suc (settles_unless (tok ∷ ts) h (fails_value d)) (λ k. refl)

  fails_case : {x : Origin} {why : Fault} {i : Layout} {n : ℕ} {ts : List Token} (tok : Token) → FaultsCase x why i n ts
      → Settles (λ k. run_case k x i (suc n) (tok ∷ ts)) (bad (why_of why))
  fails_case {ts = ts} tok (f_case_line on w) = settles_suc (test_here _ ts on w) (λ k. refl)
  fails_case {ts = ts} tok (f_subject on d) = settles_suc (settles_unless ts on (settles_bad _ (fails_expr d))) (λ k. refl)
  fails_case {x = x} {n = n} {ts = ts} tok (f_branches {s = s} on d c) =
      settles_suc (settles_unless ts on (settles_then _ (complete_expr d.spells d.stops n d.few) (fails_branches (place_at x tok) s c))) (λ k. refl)

  fails_branches : {x : Origin} {why : Fault} {i : Layout} {n : ℕ} {ts : List Token} (at : Place) (s : Term) → FaultsBranches x why i n ts
      → Settles (λ k. run_branches k x i n at s ts) (bad (why_of why))
  fails_branches {ts = []} at s (f_no_of h w) = stuck_here w (settles_suc settles_got (λ k. refl))
  fails_branches {ts = tok ∷ ts} at s (f_no_of h w) = settles_suc (test_here _ (tok ∷ ts) h w) (λ k. refl)
  fails_branches at s (f_first_of {tok = tok} {ts = ts} on d) = settles_suc (settles_unless (tok ∷ ts) on (settles_bad _ (fails_of d))) (λ k. refl)
  fails_branches {x = x} {n = n} at s (f_ofs {tests = tests} {v = v} {tok = tok} {ts = ts} on d c) =
      settles_suc (settles_unless (tok ∷ ts) on
      (settles_then _ (complete_of d.spells d.stops n d.few) (settles_bad _ (fails_ofs (choice (place_at x tok) tests v no_choices) c)))) (λ k. refl)
  fails_branches {n = n} at s (f_otherwise {tok = tok} {ts = ts} on d c h b) =
      settles_suc (settles_unless (tok ∷ ts) on (settles_then _ (complete_of d.spells d.stops n d.few) (settles_then _ (complete_ofs c.spells c.stops n c.few)
      (settles_suc (settles_if _ h (settles_bad _ (fails_value b))) (λ k. refl))))) (λ k. refl)

  fails_of : {x : Origin} {why : Fault} {i : Layout} {n : ℕ} {ts : List Token} → FaultsOf x why i n ts → Settles (λ k. run_of k x i n ts) (bad (why_of why))
  fails_of {ts = ts} (f_of_line on w) = settles_suc (test_here _ ts on w) (λ k. refl)
  fails_of {ts = ts} (f_label on d) = settles_suc (settles_unless ts on (settles_bad _ (fails_label d))) (λ k. refl)
  fails_of {n = n} {ts = ts} (f_labels {a = a} on d c) =
      settles_suc (settles_unless ts on (settles_then _ (complete_label d.spells d.stops n d.few) (settles_bad _ (fails_labels (part a no_parts) c))))
      (λ k. refl)
  fails_of {n = n} {ts = ts} (f_of_value on d c v) =
      settles_suc (settles_unless ts on
      (settles_then _ (complete_label d.spells d.stops n d.few)
      (settles_then _ (complete_labels c.spells c.stops n c.few) (settles_bad _ (fails_value v))))) (λ k. refl)

  fails_labels : {x : Origin} {why : Fault} {i : Layout} {n : ℕ} {ts : List Token} (some : Parts) → FaultsLabels x why i n ts
      → Settles (λ k. run_labels k x i n some ts) (bad (why_of why))
  fails_labels some (f_next_label h d) = settles_suc (settles_if _ h (settles_bad _ (fails_label d))) (λ k. refl)
  fails_labels {n = n} some (f_later_label {a = a} h d c) =
      settles_suc (settles_if _ h (settles_then _ (complete_label d.spells d.stops n d.few) (fails_labels (and_part some a) c))) (λ k. refl)

  fails_label : {x : Origin} {why : Fault} {i : Layout} {n : ℕ} {ts : List Token} → FaultsLabel x why i n ts
      → Settles (λ k. run_label k x i n ts) (bad (why_of why))
  fails_label (f_one d) = settles_suc (settles_bad _ (fails_expr d)) (λ k. refl)
  fails_label {n = n} (f_range_line {mid = mid} d h on w) =
      settles_suc (settles_then _ (complete_expr d.spells d.stops n d.few) (settles_if _ h (test_here _ mid on w))) (λ k. refl)
  fails_label {n = n} (f_range {mid = mid} d h on c) =
      settles_suc (settles_then _ (complete_expr d.spells d.stops n d.few) (settles_if _ h (settles_unless mid on (settles_bad _ (fails_expr c))))) (λ k. refl)

  fails_ofs : {x : Origin} {why : Fault} {i : Layout} {n : ℕ} {ts : List Token} (some : Choices) → FaultsOfs x why i n ts
      → Settles (λ k. run_ofs k x i n some ts) (bad (why_of why))
  fails_ofs some (f_of h d) = settles_suc (settles_if _ h (settles_bad _ (fails_of d))) (λ k. refl)
  fails_ofs {x = x} {n = n} some (f_next_of {tests = tests} {v = v} {tok = tok} h d c) =
      settles_suc (settles_if _ h (settles_then _ (complete_of d.spells d.stops n d.few) (fails_ofs (and_choice some (place_at x tok) tests v) c))) (λ k. refl)
