-- Where a computation reads nothing, the text can't go on, for that reason.
use Rattle.std.proofs.Common.{◌≡◌, ℕ, zero, suc, ◌<◌, ◌≤◌, List, [], ◌∷◌, Bool, true, false, refl, sym, ap, subst, inl, inr, arith}
use Rattle.std.specs.Prelude.{Option, Some, None, ◌⊎◌, max, nat_lt, ◌&&◌, is_some, if◌then◌else◌}
use Rattle.std.proofs.lemmas.Bool.{ltb-true, ltb-false}
use Rattle.arc_base.specs.declared.place.Place.{Place}
use Rattle.indent_scanner.specs.declared.token.Token.{Token}
use Rattle.nim_tree.specs.declared.expr.UnaryOp.{UnaryOp}
use Rattle.nim_tree.specs.declared.expr.BinaryOp.{BinaryOp}
use Rattle.nim_tree.specs.declared.name.Name.{Name}
use Rattle.nim_tree.specs.Terms.{Term, binary, Parts, no_parts, part, and_part, Choices, no_choices, choice, and_choice, range, place_of, levels, most_levels}
use Rattle.nim_tree.specs.Terms.{levels_in}
use Rattle.parse_exprs.specs.declared.layout.Layout.{Layout}
use Rattle.parse_exprs.specs.declared.layout.Layout.TheVariants.{Brackets}
use Rattle.parse_exprs.specs.declared.input.Bracket.{Bracket}
use Rattle.parse_exprs.specs.declared.input.Bracket.TheVariants.{Round, Square}
use Rattle.parse_exprs.specs.declared.input.Lead.{Lead}
use Rattle.parse_exprs.specs.declared.input.Lead.TheVariants as L
use Rattle.parse_exprs.specs.Look.{Origin, spelling, place_at, op_at, op_levels, single, grouped, object, as_name, applied, sign_of, is_at_sign, is_name}
use Rattle.parse_exprs.specs.Look.{is_punct, kind_at, name_on, named_part_at, bracket_at, square_at, closes_at, names_in, names_behind, suffix_at, stays}
use Rattle.parse_exprs.specs.Look.{operand_at, lead_at, branch_at, is_elif, is_else, is_of, first_of_at, branch_layout, colon_at, comma_at, past_colon, dots_at}
use Rattle.parse_exprs.specs.Look.{at_start, past_start, no_command_on, else_on, deeper_line_at, line_layout, closed_at}
use Rattle.parse_exprs.specs.Outcome.{Why, deep, stuck, tired, Out, got, bad, then_do, unless_stuck}
use Rattle.parse_exprs.specs.Run.{behind, made, run_field, run_expr, run_lead, run_level, run_chain, run_more, run_unary, run_signed, run_primary, run_suffixes}
use Rattle.parse_exprs.specs.Run.{run_suffix, run_applied, run_atom, run_group, run_enclosed, run_list, run_parts, run_part, run_if, run_tail, run_value}
use Rattle.parse_exprs.specs.Run.{run_own_line, run_elifs, run_else, run_case, run_branches, run_of, run_labels, run_label, run_ofs, run_otherwise}
use Rattle.parse_exprs.specs.Grammar.{SpellsExpr, SpellsOf, SpellsOfs, SpellsEnclosed, p_empty, p_parts, SpellsParts, p_first, SpellsMoreParts, p_over, p_part}
use Rattle.parse_exprs.specs.Faults.{Done, Fault, too_deep, stuck_at, FaultsExpr, f_operators, f_no_if, f_if, f_no_case, f_case, Faults, f_tight, f_operand}
use Rattle.parse_exprs.specs.Faults.{f_more, FaultsMore, f_operator, f_next, f_beyond, FaultsUnary, f_no_level, f_no_operand, f_nothing, f_sign_line, f_sign}
use Rattle.parse_exprs.specs.Faults.{f_plain, f_command, FaultsPrimary, f_atom, f_behind, FaultsSuffixes, f_full, f_suffix, f_further, f_field, f_applied}
use Rattle.parse_exprs.specs.Faults.{FaultsAtom, f_no_atom, f_other, f_no_square, f_not_square, f_sequence, f_empty, f_group, FaultsEnclosed, f_list, f_no_end}
use Rattle.parse_exprs.specs.Faults.{FaultsListed, f_part, f_parts, FaultsParts, f_next_part, f_later_part, FaultsPart, f_unnamed, f_no_name, f_name_alone}
use Rattle.parse_exprs.specs.Faults.{f_named, f_tail, f_elifs, f_else, FaultsTail, f_tail_line, f_condition, f_tail_value, FaultsValue, f_no_colon}
use Rattle.parse_exprs.specs.Faults.{f_value_line, f_value, f_own_line, f_not_closed, FaultsElifs, f_elif, f_next_elif, FaultsElse, f_no_else, f_else_value}
use Rattle.parse_exprs.specs.Faults.{f_case_line, f_subject, f_branches, FaultsBranches, f_no_of, f_first_of, f_ofs, f_otherwise, FaultsOf, f_of_line, f_label}
use Rattle.parse_exprs.specs.Faults.{f_labels, f_of_value, FaultsLabels, f_next_label, f_later_label, FaultsLabel, f_one, f_range_line, f_range, FaultsOfs}
use Rattle.parse_exprs.specs.Faults.{f_of, f_next_of}
use Rattle.parse_exprs.proofs.Settling.{then_bad, unless_bad, got_bad, if_split}
use Rattle.parse_exprs.proofs.Stopping.{both_of, punct_is, false_true}
use Rattle.parse_exprs.proofs.Sound.{sound_expr, sound_level, sound_primary, sound_atom, sound_applied, sound_enclosed, sound_list, sound_part, sound_tail}
use Rattle.parse_exprs.proofs.Sound.{sound_elifs, sound_of, sound_ofs, sound_label, sound_labels}

-- the reason, as a computation says it
abbrev pub why_of : Fault → Why
why_of too_deep = deep
why_of (stuck_at rest) = stuck rest

not_tired : {X C : Type 0} (why : Fault) → ◌≡◌ {A = Out X} (bad tired) (bad (why_of why)) → C
not_tired too_deep e = cc
not_tired (stuck_at rest) e = cc

is_deep : {X : Type 0} (why : Fault) → ◌≡◌ {A = Out X} (bad deep) (bad (why_of why)) → why ≡ too_deep
is_deep too_deep e = refl
is_deep (stuck_at rest) e = cc

is_stuck : {X : Type 0} {ts : List Token} (why : Fault) → ◌≡◌ {A = Out X} (bad (stuck ts)) (bad (why_of why)) → why ≡ stuck_at ts
is_stuck too_deep e = cc
is_stuck (stuck_at rest) e = ap stuck_at cc

stuck_is : {ts : List Token} (why : Fault) → why_of why ≡ stuck ts → why ≡ stuck_at ts
stuck_is too_deep e = cc
stuck_is (stuck_at rest) e = ap stuck_at cc

-- no level is left
record Over (n m : ℕ) (why : Fault) : Type 0 where
  pub full : n < m
  pub deep : why ≡ too_deep

-- a level is left, and it goes on
record Free {X : Type 0} (n m : ℕ) (go o : Out X) : Type 0 where
  pub few : m ≤ n
  pub same : go ≡ o

limit_bad : {X : Type 0} (why : Fault) (n m : ℕ) (go : Out X) → (if nat_lt n m then bad deep else go) ≡ bad (why_of why)
    → Over n m why ⊎ Free n m go (bad (why_of why))
limit_bad {X} why n m go e = elim (if_split (nat_lt n m) (bad deep) go e) as (λ w. Over n m why ⊎ Free n m go (bad (why_of why))) [
  | inl h ↦ inl (record { full = ltb-true n m h.is; deep = is_deep why h.same })
  | inr h ↦ inr (record { few = ltb-false n m h.is; same = h.same })
]

made_bad : (why : Fault) (o : Option Term) (at rest : List Token) → made o at rest ≡ bad (why_of why) → (o ≡ None) × (why ≡ stuck_at at)
made_bad why None at rest e = (refl, is_stuck why e)
made_bad why (Some t) at rest e = got_bad e

field_bad : (why : Fault) (o : Option Token) (x : Origin) (a : Term) (tok : Token) (ts : List Token) → run_field o x a (tok ∷ ts) ≡ bad (why_of why)
    → (o ≡ None) × (why ≡ stuck_at ts)
field_bad why None x a tok ts e = (refl, is_stuck why e)
field_bad why (Some name) x a tok ts e = got_bad e

-- ---- brackets that make no tree

and_full : (some : Parts) (a : Term) → and_part some a ≡ no_parts → ⊥
and_full no_parts a e = cc
and_full (part b some) a e = cc

more_full : {x : Origin} {m : Bool} {some parts : Parts} {ts rest : List Token} → SpellsMoreParts x m some parts ts rest → (some ≡ no_parts → ⊥)
    → parts ≡ no_parts → ⊥
more_full (p_over h) f e = f e
more_full {some = some} (p_part {b = b} h d c) f e = more_full c (and_full some b) e

parts_full : {x : Origin} {m : Bool} {parts : Parts} {ts rest : List Token} → SpellsParts x m parts ts rest → parts ≡ no_parts → ⊥
parts_full (p_first d c) e = more_full c (λ h. cc) e

closed_empty : {x : Origin} {b : Bracket} {m : Bool} {parts : Parts} {ts rest : List Token} → SpellsEnclosed x b m parts ts rest → parts ≡ no_parts
    → closes_at b (behind ts) ≡ true
closed_empty (p_empty h c) e = c
closed_empty (p_parts h o d c) e = absurd (parts_full d e)

grouped_none : (b : Bracket) (m : Bool) (at : Place) (parts : Parts) → grouped b m at parts ≡ None → (b ≡ Round) × (parts ≡ no_parts)
grouped_none Square m at parts e = cc
grouped_none Round true at no_parts e = (refl, refl)
grouped_none Round true at (part a ps) e = cc
grouped_none Round false at no_parts e = (refl, refl)
grouped_none Round false at (part a no_parts) e = cc
grouped_none Round false at (part a (part b ps)) e = cc

object_none : (o : Option Name) (parts : Parts) → is_some o ≡ true → object o parts ≡ None → parts ≡ no_parts
object_none None parts h e = cc
object_none (Some n) no_parts h e = refl
object_none (Some n) (part a ps) h e = cc

no_name : (ts : List Token) → closes_at Round ts ≡ true → named_part_at ts ≡ false
no_name [] e = refl
no_name (tok ∷ ts) e = ap (λ k. is_name k && kind_at (is_punct 58) ts) (punct_is 41 tok.kind e)

applied_some : {C : Type 0} {x : Origin} {tok : Token} {ts rest : List Token} {parts : Parts} (b : Bracket) (m : Bool) (a : Term) → names_behind a b ts ≡ m
    → SpellsEnclosed x b m parts (tok ∷ ts) rest
    → applied b m a parts ≡ None → C
applied_some Square m a is d e = cc
applied_some Round false a is d e = cc
applied_some {ts = ts} {parts = parts} Round true a is d e =
    let h = both_of (is_some (as_name a)) (named_part_at ts) is in
    false_true (named_part_at ts) (no_name ts (closed_empty d (object_none (as_name a) parts h.0 e))) h.1

-- ---- what a token alone tells

faults_none : (why : Fault) (b : Bool) (x : Origin) (i : Layout) (ts : List Token) → operand_at x ts ≡ b
    → ◌≡◌ {A = Out Term} (bad (if b then deep else stuck ts)) (bad (why_of why)) → FaultsUnary x why i zero ts
faults_none why true x i ts is e = f_no_level is (is_deep why e)
faults_none why false x i ts is e = f_no_operand is (is_stuck why e)

faults_empty : (why : Fault) (b : Bracket) (x : Origin) (i : Layout) (n : ℕ) (tok : Token) (ts : List Token) → b ≡ Round
    → bracket_at (tok ∷ ts) ≡ Some b
    → closes_at b ts ≡ true → why ≡ stuck_at ts → FaultsAtom x why i n (tok ∷ ts)
faults_empty why b x i n tok ts is h c w =
    subst (λ b. bracket_at (tok ∷ ts) ≡ Some b → closes_at b ts ≡ true → FaultsAtom x why i n (tok ∷ ts)) (sym is) (λ h c. f_empty h c w) h c

-- behind the first value of a label
faults_range : (why : Fault) (k : ℕ) (x : Origin) (i : Layout) (n : ℕ) (a : Term) (ts mid : List Token)
    → Done x i op_levels n (levels a) (SpellsExpr x i a ts mid) mid
    → ((rest : List Token) → run_expr k x i n rest ≡ bad (why_of why) → FaultsExpr x why i n rest)
    → (if dots_at x i mid then unless_stuck (stays i (behind mid)) (behind mid)
    (then_do (run_expr k x i n (behind mid)) (λ b rest. got (range (place_of a) a b) rest)) else got a mid) ≡ bad (why_of why)
    → FaultsLabel x why i n ts
faults_range why k x i n a ts [] d more e = got_bad e
faults_range why k x i n a ts (tok ∷ mid) d more e =
    let go : Out Term = then_do (run_expr k x i n mid) (λ b rest. got (range (place_of a) a b) rest) in
    elim (if_split (dots_at x i (tok ∷ mid)) (unless_stuck (stays i mid) mid go) (got a (tok ∷ mid)) e) as (λ w. FaultsLabel x why i n ts) [
      | inl h ↦ elim (unless_bad (stays i mid) mid go h.same) as (λ w. FaultsLabel x why i n ts) [
        | inl s ↦ f_range_line d h.is s.not (stuck_is why s.at)
        | inr on ↦ elim (then_bad (run_expr k x i n mid) (λ b rest. got (range (place_of a) a b) rest) on.same) as (λ w. FaultsLabel x why i n ts) [
          | inl g ↦
              f_range d h.is on.is (more mid g)
          | inr f ↦ got_bad f.next
        ]
      ]
      | inr h ↦ got_bad h.same
    ]

mutual
  pub faults_expr : (why : Fault) (k : ℕ) (x : Origin) (i : Layout) (n : ℕ) (ts : List Token) → run_expr k x i n ts ≡ bad (why_of why)
      → FaultsExpr x why i n ts
  faults_expr why zero x i n ts e = not_tired why e
  faults_expr why (suc k) x i n ts e = faults_lead why k (lead_at ts) x i n ts refl e

  faults_lead : (why : Fault) (k : ℕ) (lead : Lead) (x : Origin) (i : Layout) (n : ℕ) (ts : List Token) → lead_at ts ≡ lead → run_lead k lead x i n ts
      ≡ bad (why_of why) → FaultsExpr x why i n ts
  faults_lead why zero lead x i n ts is e = not_tired why e
  faults_lead why (suc k) L.Operand x i n ts is e = f_operators is (faults_level why k x i op_levels n ts e)
  faults_lead why (suc k) L.If x i n ts is e = faults_if why k x i n ts is e
  faults_lead why (suc k) L.Case x i n ts is e = faults_case why k x i n ts is e

  -- ---- operators

  faults_level : (why : Fault) (k : ℕ) (x : Origin) (i : Layout) (l n : ℕ) (ts : List Token) → run_level k x i l n ts ≡ bad (why_of why)
      → Faults x why i l n ts
  faults_level why zero x i l n ts e = not_tired why e
  faults_level why (suc k) x i zero n ts e = f_tight (faults_unary why k x i n ts e)
  faults_level why (suc k) x i (suc l) n ts e =
      elim (then_bad (run_level k x i l n ts) (λ a mid. run_chain k x (past_start i) l n a mid) e) as (λ w. Faults x why i (suc l) n ts) [
        | inl h ↦ f_operand (faults_level why k x i l n ts h)
        | inr f ↦ f_more (sound_level k x i l n ts f.first) (faults_chain why k x (past_start i) l n f.value f.mid f.next)
      ]

  faults_chain : (why : Fault) (k : ℕ) (x : Origin) (i : Layout) (l n : ℕ) (a : Term) (ts : List Token) → run_chain k x i l n a ts ≡ bad (why_of why)
      → FaultsMore x why i l n a ts
  faults_chain why zero x i l n a ts e = not_tired why e
  faults_chain why (suc k) x i l n a ts e = faults_more why k (op_at x i l ts) x i l n a ts refl e

  faults_more : (why : Fault) (k : ℕ) (op : Option BinaryOp) (x : Origin) (i : Layout) (l n : ℕ) (a : Term) (ts : List Token) → op_at x i l ts ≡ op
      → run_more k op x i l n a ts ≡ bad (why_of why) → FaultsMore x why i l n a ts
  faults_more why zero op x i l n a ts is e = not_tired why e
  faults_more why (suc k) None x i l n a ts is e = got_bad e
  faults_more why (suc k) (Some op) x i l zero a ts is e = f_operator is (omega arith) (is_deep why e)
  faults_more why (suc k) (Some op) x i l (suc n) a [] is e = cc
  faults_more why (suc k) (Some op) x i l (suc n) a (tok ∷ ts) is e =
      let next : Term → List Token → Out Term = λ b mid. run_chain k x i l (suc n) (binary (place_of a) op a b) mid in
      elim (limit_bad why n (levels a) (then_do (run_level k x i l n ts) next) e) as (λ w. FaultsMore x why i l (suc n) a (tok ∷ ts)) [
        | inl o ↦ f_operator is (let h = o.full in omega (arith, h)) o.deep
        | inr g ↦ elim (then_bad (run_level k x i l n ts) next g.same) as (λ w. FaultsMore x why i l (suc n) a (tok ∷ ts)) [
          | inl h ↦ f_next is g.few (faults_level why k x i l n ts h)
          | inr f ↦ f_beyond is g.few (sound_level k x i l n ts f.first) (faults_chain why k x i l (suc n) (binary (place_of a) op a f.value) f.mid f.next)
        ]
      ]

  faults_unary : (why : Fault) (k : ℕ) (x : Origin) (i : Layout) (n : ℕ) (ts : List Token) → run_unary k x i n ts ≡ bad (why_of why)
      → FaultsUnary x why i n ts
  faults_unary why zero x i n ts e = not_tired why e
  faults_unary why (suc k) x i zero ts e = faults_none why (operand_at x ts) x i ts refl e
  faults_unary why (suc k) x i (suc n) [] e = f_nothing (is_stuck why e)
  faults_unary why (suc k) x i (suc n) (tok ∷ ts) e = faults_signed why k (sign_of tok.kind (spelling x tok)) x i n tok ts refl e

  faults_signed : (why : Fault) (k : ℕ) (op : Option UnaryOp) (x : Origin) (i : Layout) (n : ℕ) (tok : Token) (ts : List Token)
      → sign_of tok.kind (spelling x tok) ≡ op
      → run_signed k op x i n tok ts ≡ bad (why_of why) → FaultsUnary x why i (suc n) (tok ∷ ts)
  faults_signed why zero op x i n tok ts is e = not_tired why e
  faults_signed why (suc k) None x i n tok ts is e =
      elim (then_bad (run_primary k x i (at_start i) (suc n) (tok ∷ ts)) _ e) as (λ w. FaultsUnary x why i (suc n) (tok ∷ ts)) [
        | inl h ↦ f_plain is (faults_primary why k x i (at_start i) n (tok ∷ ts) h)
        | inr f ↦ elim (unless_bad (no_command_on x i f.mid) f.mid _ f.next) as (λ w. FaultsUnary x why i (suc n) (tok ∷ ts)) [
          | inl s ↦ (let d = sound_primary k x i (at_start i) n (tok ∷ ts) f.first in f_command is d.spells d.few d.stops s.not (stuck_is why s.at))
          | inr g ↦ got_bad g.same
        ]
      ]
  faults_signed why (suc k) (Some op) x i n tok ts is e =
      elim (unless_bad (stays i ts) ts _ e) as (λ w. FaultsUnary x why i (suc n) (tok ∷ ts)) [
        | inl s ↦ f_sign_line is s.not (stuck_is why s.at)
        | inr g ↦ elim (then_bad (run_unary k x (past_start i) n ts) _ g.same) as (λ w. FaultsUnary x why i (suc n) (tok ∷ ts)) [
          | inl h ↦
              f_sign is g.is (faults_unary why k x (past_start i) n ts h)
          | inr f ↦ got_bad f.next
        ]
      ]

  -- ---- what stands behind an atom

  pub faults_primary : (why : Fault) (k : ℕ) (x : Origin) (i : Layout) (c : Bool) (n : ℕ) (ts : List Token)
      → run_primary k x i c (suc n) ts ≡ bad (why_of why)
      → FaultsPrimary x why i c n ts
  faults_primary why zero x i c n ts e = not_tired why e
  faults_primary why (suc k) x i c n ts e =
      elim (then_bad (run_atom k x i (suc n) ts) _ e) as (λ w. FaultsPrimary x why i c n ts) [
        | inl h ↦ f_atom (faults_atom why k x i n ts h)
        | inr f ↦ (let d = sound_atom k x i n ts f.first in f_behind d.spells d.few (faults_suffixes why k x i c n f.value f.mid f.next))
      ]

  faults_suffixes : (why : Fault) (k : ℕ) (x : Origin) (i : Layout) (c : Bool) (n : ℕ) (a : Term) (ts : List Token) → run_suffixes k x i c (suc n) a ts
      ≡ bad (why_of why) → FaultsSuffixes x why i c n a ts
  faults_suffixes why zero x i c n a ts e = not_tired why e
  faults_suffixes why (suc k) x i c n a ts e =
      elim (if_split (suffix_at i c ts) _ _ e) as (λ w. FaultsSuffixes x why i c n a ts) [
        | inl h ↦ faults_suffix why k x i c n a ts h.is h.same
        | inr h ↦
            got_bad h.same
      ]

  faults_suffix : (why : Fault) (k : ℕ) (x : Origin) (i : Layout) (c : Bool) (n : ℕ) (a : Term) (ts : List Token) → suffix_at i c ts ≡ true
      → run_suffix k x i c (suc n) a ts ≡ bad (why_of why)
      → FaultsSuffixes x why i c n a ts
  faults_suffix why zero x i c n a ts on e = not_tired why e
  faults_suffix why (suc k) x i c n a ts on e =
      elim (limit_bad why n (levels a) _ e) as (λ w. FaultsSuffixes x why i c n a ts) [
        | inl o ↦ f_full on (let h = o.full in omega (arith, h)) o.deep
        | inr g ↦ elim (then_bad (run_applied k (bracket_at ts) x i n a ts) _ g.same) as (λ w. FaultsSuffixes x why i c n a ts) [
          | inl h ↦ faults_applied why k (bracket_at ts) x i c n a ts refl on g.few h
          | inr f ↦ (let d = sound_applied k (bracket_at ts) x i c n a ts refl on g.few f.first in
              f_further on g.few d.spells d.few (faults_suffixes why k x i c n f.value f.mid f.next))
        ]
      ]

  faults_applied : (why : Fault) (k : ℕ) (b : Option Bracket) (x : Origin) (i : Layout) (c : Bool) (n : ℕ) (a : Term) (ts : List Token)
      → bracket_at ts ≡ b
      → suffix_at i c ts ≡ true → levels a ≤ n
      → run_applied k b x i n a ts ≡ bad (why_of why) → FaultsSuffixes x why i c n a ts
  faults_applied why zero b x i c n a ts is on few e = not_tired why e
  faults_applied why (suc k) None x i c n a [] is on few e = cc
  faults_applied why (suc k) None x i c n a (tok ∷ ts) is on few e = let h = field_bad why (name_on i ts) x a tok ts e in f_suffix on few (f_field is h.0 h.1)
  faults_applied why (suc k) (Some b) x i c n a [] is on few e = cc
  faults_applied why (suc k) (Some b) x i c n a (tok ∷ ts) is on few e =
      elim (then_bad (run_enclosed k x b (names_behind a b ts) n (tok ∷ ts)) _ e) as (λ w. FaultsSuffixes x why i c n a (tok ∷ ts)) [
        | inl h ↦ f_suffix on few (f_applied is (faults_enclosed why k x b (names_behind a b ts) n tok ts h))
        | inr f ↦ applied_some b (names_behind a b ts) a refl (sound_enclosed k x b (names_behind a b ts) n (tok ∷ ts) is f.first).spells
            (made_bad why _ ts f.mid f.next).0
      ]

  faults_atom : (why : Fault) (k : ℕ) (x : Origin) (i : Layout) (n : ℕ) (ts : List Token) → run_atom k x i (suc n) ts ≡ bad (why_of why)
      → FaultsAtom x why i n ts
  faults_atom why zero x i n ts e = not_tired why e
  faults_atom why (suc k) x i n [] e = f_no_atom (is_stuck why e)
  faults_atom why (suc k) x i n (tok ∷ ts) e = faults_group why k (single x tok) (bracket_at (tok ∷ ts)) x i n tok ts refl refl e

  faults_group : (why : Fault) (k : ℕ) (o : Option Term) (b : Option Bracket) (x : Origin) (i : Layout) (n : ℕ) (tok : Token) (ts : List Token)
      → single x tok ≡ o → bracket_at (tok ∷ ts) ≡ b
      → run_group k o b x i (suc n) tok ts ≡ bad (why_of why) → FaultsAtom x why i n (tok ∷ ts)
  faults_group why zero o b x i n tok ts is h e = not_tired why e
  faults_group why (suc k) (Some u) b x i n tok ts is h e = got_bad e
  faults_group why (suc k) None (Some b) x i n tok ts is h e =
      elim (then_bad (run_enclosed k x b (names_in b ts) n (tok ∷ ts)) _ e) as (λ w. FaultsAtom x why i n (tok ∷ ts)) [
        | inl g ↦ f_group h (faults_enclosed why k x b (names_in b ts) n tok ts g)
        | inr f ↦ (
            let m = made_bad why _ ts f.mid f.next in
            let g = grouped_none b (names_in b ts) (place_at x tok) f.value m.0 in
            let c = closed_empty (sound_enclosed k x b (names_in b ts) n (tok ∷ ts) h f.first).spells g.1 in
            faults_empty why b x i n tok ts g.0 h c m.1)
      ]
  faults_group why (suc k) None None x i n tok [] is h e =
      elim (unless_bad (is_at_sign tok.kind (spelling x tok)) (tok ∷ []) _ e) as (λ w. FaultsAtom x why i n (tok ∷ [])) [
        | inl s ↦ f_other is h s.not (stuck_is why s.at)
        | inr g ↦ f_no_square g.is refl (is_stuck why g.same)
      ]
  faults_group why (suc k) None None x i n tok (next ∷ ts) is h e =
      elim (unless_bad (is_at_sign tok.kind (spelling x tok)) (tok ∷ next ∷ ts) _ e) as (λ w. FaultsAtom x why i n (tok ∷ next ∷ ts)) [
        | inl s ↦ f_other is h s.not (stuck_is why s.at)
        | inr at ↦ elim (unless_bad (stays i (next ∷ ts)) (next ∷ ts) _ at.same) as (λ w. FaultsAtom x why i n (tok ∷ next ∷ ts)) [
          | inl s ↦ f_no_square at.is s.not (stuck_is why s.at)
          | inr on ↦ elim (unless_bad (square_at (next ∷ ts)) (next ∷ ts) _ on.same) as (λ w. FaultsAtom x why i n (tok ∷ next ∷ ts)) [
            | inl s ↦ f_not_square at.is on.is s.not (stuck_is why s.at)
            | inr square ↦ elim (then_bad (run_enclosed k x Square false n (next ∷ ts)) _ square.same) as (λ w.
                FaultsAtom x why i n (tok ∷ next ∷ ts)) [
                  | inl g ↦ f_sequence at.is on.is square.is (faults_enclosed why k x Square false n next ts g)
                  | inr f ↦ got_bad f.next
                ]
          ]
        ]
      ]

  -- ---- parts in brackets

  faults_enclosed : (why : Fault) (k : ℕ) (x : Origin) (b : Bracket) (m : Bool) (n : ℕ) (tok : Token) (ts : List Token)
      → run_enclosed k x b m n (tok ∷ ts)
      ≡ bad (why_of why) → FaultsEnclosed x why b m n ts
  faults_enclosed why zero x b m n tok ts e = not_tired why e
  faults_enclosed why (suc k) x b m n tok ts e =
      elim (if_split (closes_at b ts) _ _ e) as (λ w. FaultsEnclosed x why b m n ts) [
        | inl h ↦ got_bad h.same
        | inr h ↦ elim (then_bad (run_list k x m n ts) _ h.same) as (λ w. FaultsEnclosed x why b m n ts) [
          | inl g ↦ f_list h.is (faults_list why k x m n ts g)
          | inr f ↦ elim (unless_bad (closes_at b f.mid) f.mid _ f.next) as (λ w. FaultsEnclosed x why b m n ts) [
            | inl s ↦ f_no_end h.is (sound_list k x m n ts f.first) s.not (stuck_is why s.at)
            | inr g ↦ got_bad g.same
          ]
        ]
      ]

  faults_list : (why : Fault) (k : ℕ) (x : Origin) (m : Bool) (n : ℕ) (ts : List Token) → run_list k x m n ts ≡ bad (why_of why)
      → FaultsListed x why m n ts
  faults_list why zero x m n ts e = not_tired why e
  faults_list why (suc k) x m n ts e =
      elim (then_bad (run_part k x m n ts) _ e) as (λ w. FaultsListed x why m n ts) [
        | inl h ↦ f_part (faults_part why k x m n ts h)
        | inr f ↦ f_parts (sound_part k x m n ts f.first) (faults_parts why k x m n (part f.value no_parts) f.mid f.next)
      ]

  faults_parts : (why : Fault) (k : ℕ) (x : Origin) (m : Bool) (n : ℕ) (some : Parts) (ts : List Token) → run_parts k x m n some ts ≡ bad (why_of why)
      → FaultsParts x why m n ts
  faults_parts why zero x m n some ts e = not_tired why e
  faults_parts why (suc k) x m n some [] e = got_bad e
  faults_parts why (suc k) x m n some (tok ∷ ts) e =
      elim (if_split (kind_at (is_punct 44) (tok ∷ ts)) _ _ e) as (λ w. FaultsParts x why m n (tok ∷ ts)) [
        | inl h ↦ elim (then_bad (run_part k x m n ts) _ h.same) as (λ w. FaultsParts x why m n (tok ∷ ts)) [
          | inl g ↦ f_next_part h.is (faults_part why k x m n ts g)
          | inr f ↦ f_later_part h.is (sound_part k x m n ts f.first) (faults_parts why k x m n (and_part some f.value) f.mid f.next)
        ]
        | inr h ↦ got_bad h.same
      ]

  faults_part : (why : Fault) (k : ℕ) (x : Origin) (m : Bool) (n : ℕ) (ts : List Token) → run_part k x m n ts ≡ bad (why_of why)
      → FaultsPart x why m n ts
  faults_part why zero x m n ts e = not_tired why e
  faults_part why (suc k) x false n ts e = f_unnamed (faults_expr why k x Brackets n ts e)
  faults_part why (suc k) x true n [] e = f_no_name refl (is_stuck why e)
  faults_part why (suc k) x true n (tok ∷ []) e =
      elim (unless_bad (kind_at is_name (tok ∷ [])) (tok ∷ []) _ e) as (λ w. FaultsPart x why true n (tok ∷ [])) [
        | inl s ↦ f_no_name s.not (stuck_is why s.at)
        | inr g ↦ f_name_alone g.is refl (is_stuck why g.same)
      ]
  faults_part why (suc k) x true n (tok ∷ colon ∷ ts) e =
      elim (unless_bad (kind_at is_name (tok ∷ colon ∷ ts)) (tok ∷ colon ∷ ts) _ e) as (λ w. FaultsPart x why true n (tok ∷ colon ∷ ts)) [
        | inl s ↦ f_no_name s.not (stuck_is why s.at)
        | inr g ↦ elim (unless_bad (kind_at (is_punct 58) (colon ∷ ts)) (colon ∷ ts) _ g.same) as (λ w. FaultsPart x why true n (tok ∷ colon ∷ ts)) [
          | inl s ↦ f_name_alone g.is s.not (stuck_is why s.at)
          | inr h ↦ elim (then_bad (run_expr k x Brackets n ts) _ h.same) as (λ w. FaultsPart x why true n (tok ∷ colon ∷ ts)) [
            | inl d ↦ f_named g.is h.is (faults_expr why k x Brackets n ts d)
            | inr f ↦ got_bad f.next
          ]
        ]
      ]

  -- ---- branches

  faults_if : (why : Fault) (k : ℕ) (x : Origin) (i : Layout) (n : ℕ) (ts : List Token) → lead_at ts ≡ L.If → run_if k x i n ts ≡ bad (why_of why)
      → FaultsExpr x why i n ts
  faults_if why zero x i n ts is e = not_tired why e
  faults_if why (suc k) x i zero ts is e = f_no_if is (is_deep why e)
  faults_if why (suc k) x i (suc n) [] is e = cc
  faults_if why (suc k) x i (suc n) (tok ∷ ts) is e =
      elim (then_bad (run_tail k x i n ts) _ e) as (λ w. FaultsExpr x why i (suc n) (tok ∷ ts)) [
        | inl h ↦ f_if is (f_tail (faults_tail why k x i n ts h))
        | inr f ↦ (
            let d = sound_tail k x i n ts f.first in
            let first = choice (place_at x tok) f.value.tests f.value.value no_choices in
            elim (then_bad (run_elifs k x i n first f.mid) _ f.next) as (λ w. FaultsExpr x why i (suc n) (tok ∷ ts)) [
              | inl h ↦ f_if is (f_elifs d (faults_elifs why k x i n first f.mid h))
              | inr g ↦ elim (then_bad (run_else k x i n g.mid) _ g.next) as (λ w. FaultsExpr x why i (suc n) (tok ∷ ts)) [
                | inl h ↦ f_if is (f_else d (sound_elifs k x i n first f.mid (let p = d.few in omega (arith, p)) d.stops g.first)
                    (faults_else why k x i n g.mid h))
                | inr h ↦ got_bad h.next
              ]
            ])
      ]

  faults_tail : (why : Fault) (k : ℕ) (x : Origin) (i : Layout) (n : ℕ) (ts : List Token) → run_tail k x i n ts ≡ bad (why_of why)
      → FaultsTail x why i n ts
  faults_tail why zero x i n ts e = not_tired why e
  faults_tail why (suc k) x i n ts e =
      elim (unless_bad (stays i ts) ts _ e) as (λ w. FaultsTail x why i n ts) [
        | inl s ↦ f_tail_line s.not (stuck_is why s.at)
        | inr on ↦ elim (then_bad (run_expr k x (past_start i) n ts) _ on.same) as (λ w. FaultsTail x why i n ts) [
          | inl h ↦ f_condition on.is (faults_expr why k x (past_start i) n ts h)
          | inr f ↦ elim (then_bad (run_value k x i n f.mid) _ f.next) as (λ w. FaultsTail x why i n ts) [
            | inl h ↦ f_tail_value on.is (sound_expr k x (past_start i) n ts f.first) (faults_value why k x i n f.mid h)
            | inr g ↦ got_bad g.next
          ]
        ]
      ]

  faults_value : (why : Fault) (k : ℕ) (x : Origin) (i : Layout) (n : ℕ) (ts : List Token) → run_value k x i n ts ≡ bad (why_of why)
      → FaultsValue x why i n ts
  faults_value why zero x i n ts e = not_tired why e
  faults_value why (suc k) x i n [] e = f_no_colon refl (is_stuck why e)
  faults_value why (suc k) x i n (tok ∷ ts) e =
      elim (unless_bad (colon_at i (tok ∷ ts)) (tok ∷ ts) _ e) as (λ w. FaultsValue x why i n (tok ∷ ts)) [
        | inl s ↦ f_no_colon s.not (stuck_is why s.at)
        | inr g ↦ elim (if_split (stays i ts) _ _ g.same) as (λ w. FaultsValue x why i n (tok ∷ ts)) [
          | inl on ↦ f_value g.is on.is (faults_expr why k x i n ts on.same)
          | inr off ↦ faults_own_line why k x i n tok ts g.is off.is off.same
        ]
      ]

  faults_own_line : (why : Fault) (k : ℕ) (x : Origin) (i : Layout) (n : ℕ) (tok : Token) (ts : List Token) → colon_at i (tok ∷ ts) ≡ true
      → stays i ts ≡ false
      → run_own_line k x i n ts ≡ bad (why_of why) → FaultsValue x why i n (tok ∷ ts)
  faults_own_line why zero x i n tok ts c off e = not_tired why e
  faults_own_line why (suc k) x i n tok ts c off e =
      elim (unless_bad (deeper_line_at i ts) ts _ e) as (λ w. FaultsValue x why i n (tok ∷ ts)) [
        | inl s ↦ f_value_line c off s.not (stuck_is why s.at)
        | inr g ↦ elim (then_bad (run_expr k x (line_layout i ts) n ts) _ g.same) as (λ w. FaultsValue x why i n (tok ∷ ts)) [
          | inl h ↦ f_own_line c g.is (faults_expr why k x (line_layout i ts) n ts h)
          | inr f ↦ elim (unless_bad (closed_at (line_layout i ts) f.mid) f.mid _ f.next) as (λ w. FaultsValue x why i n (tok ∷ ts)) [
            | inl s ↦ f_not_closed c g.is (sound_expr k x (line_layout i ts) n ts f.first) s.not (stuck_is why s.at)
            | inr h ↦ got_bad h.same
          ]
        ]
      ]

  faults_elifs : (why : Fault) (k : ℕ) (x : Origin) (i : Layout) (n : ℕ) (some : Choices) (ts : List Token)
      → run_elifs k x i n some ts ≡ bad (why_of why)
      → FaultsElifs x why i n ts
  faults_elifs why zero x i n some ts e = not_tired why e
  faults_elifs why (suc k) x i n some [] e = got_bad e
  faults_elifs why (suc k) x i n some (tok ∷ ts) e =
      elim (if_split (branch_at i is_elif (tok ∷ ts)) _ _ e) as (λ w. FaultsElifs x why i n (tok ∷ ts)) [
        | inl h ↦ elim (then_bad (run_tail k x i n ts) _ h.same) as (λ w. FaultsElifs x why i n (tok ∷ ts)) [
          | inl g ↦ f_elif h.is (faults_tail why k x i n ts g)
          | inr f ↦ f_next_elif h.is (sound_tail k x i n ts f.first)
              (faults_elifs why k x i n (and_choice some (place_at x tok) f.value.tests f.value.value) f.mid f.next)
        ]
        | inr h ↦ got_bad h.same
      ]

  faults_else : (why : Fault) (k : ℕ) (x : Origin) (i : Layout) (n : ℕ) (ts : List Token) → run_else k x i n ts ≡ bad (why_of why)
      → FaultsElse x why i n ts
  faults_else why zero x i n ts e = not_tired why e
  faults_else why (suc k) x i n [] e = f_no_else refl (is_stuck why e)
  faults_else why (suc k) x i n (tok ∷ ts) e =
      elim (unless_bad (branch_at i is_else (tok ∷ ts)) (tok ∷ ts) _ e) as (λ w. FaultsElse x why i n (tok ∷ ts)) [
        | inl s ↦ f_no_else s.not (stuck_is why s.at)
        | inr g ↦ f_else_value g.is (faults_value why k x i n ts g.same)
      ]

  faults_case : (why : Fault) (k : ℕ) (x : Origin) (i : Layout) (n : ℕ) (ts : List Token) → lead_at ts ≡ L.Case
      → run_case k x i n ts ≡ bad (why_of why)
      → FaultsExpr x why i n ts
  faults_case why zero x i n ts is e = not_tired why e
  faults_case why (suc k) x i zero ts is e = f_no_case is (is_deep why e)
  faults_case why (suc k) x i (suc n) [] is e = cc
  faults_case why (suc k) x i (suc n) (tok ∷ ts) is e =
      elim (unless_bad (stays i ts) ts _ e) as (λ w. FaultsExpr x why i (suc n) (tok ∷ ts)) [
        | inl s ↦ f_case is (f_case_line s.not (stuck_is why s.at))
        | inr on ↦ elim (then_bad (run_expr k x (past_start i) n ts) _ on.same) as (λ w. FaultsExpr x why i (suc n) (tok ∷ ts)) [
          | inl h ↦ f_case is (f_subject on.is (faults_expr why k x (past_start i) n ts h))
          | inr f ↦ f_case is
              (f_branches on.is (sound_expr k x (past_start i) n ts f.first) (faults_branches why k x i n (place_at x tok) f.value (past_colon i f.mid) f.next))
        ]
      ]

  faults_branches : (why : Fault) (k : ℕ) (x : Origin) (i : Layout) (n : ℕ) (at : Place) (s : Term) (ts : List Token) → run_branches k x i n at s ts
      ≡ bad (why_of why) → FaultsBranches x why i n ts
  faults_branches why zero x i n at s ts e = not_tired why e
  faults_branches why (suc k) x i n at s [] e = f_no_of refl (is_stuck why e)
  faults_branches why (suc k) x i n at s (tok ∷ ts) e =
      let j = branch_layout i tok.indent in
      elim (unless_bad (first_of_at i (tok ∷ ts)) (tok ∷ ts) _ e) as (λ w. FaultsBranches x why i n (tok ∷ ts)) [
        | inl s ↦ f_no_of s.not (stuck_is why s.at)
        | inr on ↦ elim (then_bad (run_of k x j n ts) _ on.same) as (λ w. FaultsBranches x why i n (tok ∷ ts)) [
          | inl h ↦ f_first_of on.is (faults_of why k x j n ts h)
          | inr f ↦ (
              let d = sound_of k x j n ts f.first in
              let first = choice (place_at x tok) f.value.tests f.value.value no_choices in
              elim (then_bad (run_ofs k x j n first f.mid) _ f.next) as (λ w. FaultsBranches x why i n (tok ∷ ts)) [
                | inl h ↦ f_ofs on.is d (faults_ofs why k x j n first f.mid h)
                | inr g ↦ faults_otherwise why k x i n at s tok ts f.value.tests f.value.value g.value f.mid g.mid on.is d
                    (sound_ofs k x j n first f.mid (let p = d.few in omega (arith, p)) d.stops g.first) g.next
              ])
        ]
      ]

  faults_of : (why : Fault) (k : ℕ) (x : Origin) (i : Layout) (n : ℕ) (ts : List Token) → run_of k x i n ts ≡ bad (why_of why) → FaultsOf x why i n ts
  faults_of why zero x i n ts e = not_tired why e
  faults_of why (suc k) x i n ts e =
      elim (unless_bad (stays i ts) ts _ e) as (λ w. FaultsOf x why i n ts) [
        | inl s ↦ f_of_line s.not (stuck_is why s.at)
        | inr on ↦ elim (then_bad (run_label k x (past_start i) n ts) _ on.same) as (λ w. FaultsOf x why i n ts) [
          | inl h ↦ f_label on.is (faults_label why k x (past_start i) n ts h)
          | inr f ↦ (
              let d = sound_label k x (past_start i) n ts f.first in
              elim (then_bad (run_labels k x (past_start i) n (part f.value no_parts) f.mid) _ f.next) as (λ w. FaultsOf x why i n ts) [
                | inl h ↦ f_labels on.is d (faults_labels why k x (past_start i) n (part f.value no_parts) f.mid h)
                | inr g ↦ elim (then_bad (run_value k x i n g.mid) _ g.next) as (λ w. FaultsOf x why i n ts) [
                  | inl h ↦ f_of_value on.is d (sound_labels k x (past_start i) n (part f.value no_parts) f.mid (let p = d.few in omega (arith, p)) d.stops
                      g.first) (faults_value why k x i n g.mid h)
                  | inr h ↦ got_bad h.next
                ]
              ])
        ]
      ]

  faults_labels : (why : Fault) (k : ℕ) (x : Origin) (i : Layout) (n : ℕ) (some : Parts) (ts : List Token)
      → run_labels k x i n some ts ≡ bad (why_of why)
      → FaultsLabels x why i n ts
  faults_labels why zero x i n some ts e = not_tired why e
  faults_labels why (suc k) x i n some [] e = got_bad e
  faults_labels why (suc k) x i n some (tok ∷ ts) e =
      elim (if_split (comma_at i (tok ∷ ts)) _ _ e) as (λ w. FaultsLabels x why i n (tok ∷ ts)) [
        | inl h ↦ elim (then_bad (run_label k x i n ts) _ h.same) as (λ w. FaultsLabels x why i n (tok ∷ ts)) [
          | inl g ↦ f_next_label h.is (faults_label why k x i n ts g)
          | inr f ↦ f_later_label h.is (sound_label k x i n ts f.first) (faults_labels why k x i n (and_part some f.value) f.mid f.next)
        ]
        | inr h ↦ got_bad h.same
      ]

  faults_label : (why : Fault) (k : ℕ) (x : Origin) (i : Layout) (n : ℕ) (ts : List Token) → run_label k x i n ts ≡ bad (why_of why)
      → FaultsLabel x why i n ts
  faults_label why zero x i n ts e = not_tired why e
  faults_label why (suc k) x i n ts e =
      elim (then_bad (run_expr k x i n ts) _ e) as (λ w. FaultsLabel x why i n ts) [
        | inl h ↦ f_one (faults_expr why k x i n ts h)
        | inr f ↦ faults_range why k x i n f.value ts f.mid (sound_expr k x i n ts f.first) (λ rest g. faults_expr why k x i n rest g) f.next
      ]

  faults_ofs : (why : Fault) (k : ℕ) (x : Origin) (i : Layout) (n : ℕ) (some : Choices) (ts : List Token) → run_ofs k x i n some ts ≡ bad (why_of why)
      → FaultsOfs x why i n ts
  faults_ofs why zero x i n some ts e = not_tired why e
  faults_ofs why (suc k) x i n some [] e = got_bad e
  faults_ofs why (suc k) x i n some (tok ∷ ts) e =
      elim (if_split (branch_at i is_of (tok ∷ ts)) _ _ e) as (λ w. FaultsOfs x why i n (tok ∷ ts)) [
        | inl h ↦ elim (then_bad (run_of k x i n ts) _ h.same) as (λ w. FaultsOfs x why i n (tok ∷ ts)) [
          | inl g ↦ f_of h.is (faults_of why k x i n ts g)
          | inr f ↦ f_next_of h.is (sound_of k x i n ts f.first)
              (faults_ofs why k x i n (and_choice some (place_at x tok) f.value.tests f.value.value) f.mid f.next)
        ]
        | inr h ↦ got_bad h.same
      ]

  faults_otherwise : (why : Fault) (k : ℕ) (x : Origin) (i : Layout) (n : ℕ) (at : Place) (s : Term) (tok : Token) (ts : List Token)
      (tests : Parts) (v : Term)
      (all : Choices) (mid end : List Token) → first_of_at i (tok ∷ ts) ≡ true
      → Done x (branch_layout i tok.indent) op_levels n (max (most_levels tests) (levels v)) (SpellsOf x (branch_layout i tok.indent) tests v ts mid) mid
      → Done x (branch_layout i tok.indent) op_levels n (levels_in all)
      (SpellsOfs x (branch_layout i tok.indent) (choice (place_at x tok) tests v no_choices) all mid end) end
      → run_otherwise k x (branch_layout i tok.indent) n at s all end ≡ bad (why_of why) → FaultsBranches x why i n (tok ∷ ts)
  faults_otherwise why zero x i n at s tok ts tests v all mid end on d c e = not_tired why e
  faults_otherwise why (suc k) x i n at s tok ts tests v all mid [] on d c e = got_bad e
  faults_otherwise why (suc k) x i n at s tok ts tests v all mid (other ∷ end) on d c e =
      elim (if_split (else_on (branch_layout i tok.indent) (other ∷ end)) _ _ e) as (λ w. FaultsBranches x why i n (tok ∷ ts)) [
        | inl h ↦ elim (then_bad (run_value k x (branch_layout i tok.indent) n end) _ h.same) as (λ w. FaultsBranches x why i n (tok ∷ ts)) [
          | inl g ↦ f_otherwise on d c h.is (faults_value why k x (branch_layout i tok.indent) n end g)
          | inr f ↦ got_bad f.next
        ]
        | inr h ↦ got_bad h.same
      ]
