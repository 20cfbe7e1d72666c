-- How the runs of operators, atoms and parts go, by those of their parts.
use Rattle.std.proofs.Common.{◌≡◌, ℕ, zero, suc, ◌≤◌, ◌<◌, List, [], ◌∷◌, Bool, true, false, refl, sym, ap, ap₂, subst, ◌∙◌, arith}
use Rattle.std.specs.Prelude.{Option, Some, None, if◌then◌else◌}
use Rattle.std.proofs.lemmas.Bool.{lt-ltb, le-ltb}
use Rattle.indent_scanner.specs.declared.token.Token.{Token}
use Rattle.nim_tree.specs.declared.expr.UnaryOp.{UnaryOp}
use Rattle.nim_tree.specs.declared.expr.BinaryOp.{BinaryOp}
use Rattle.nim_tree.specs.Terms.{Term, field, unary, binary, sequence, named, Parts, no_parts, part, and_part, place_of, levels}
use Rattle.parse_exprs.specs.declared.layout.Layout.{Layout}
use Rattle.parse_exprs.specs.declared.layout.Layout.TheVariants.{Brackets}
use Rattle.parse_exprs.specs.declared.input.Bracket.{Bracket}
use Rattle.parse_exprs.specs.declared.input.Bracket.TheVariants.{Square}
use Rattle.parse_exprs.specs.declared.input.Lead.{Lead}
use Rattle.parse_exprs.specs.declared.input.Lead.TheVariants as L
use Rattle.parse_exprs.specs.Look.{Origin, spelling, place_at, op_at, op_levels, single, grouped, applied, sign_of, is_at_sign, is_punct, is_name, bracket_at}
use Rattle.parse_exprs.specs.Look.{kind_at, closes_at, names_in, names_behind, name_on, suffix_at, stays, square_at, operand_at, lead_at, at_start, past_start}
use Rattle.parse_exprs.specs.Look.{no_command_on}
use Rattle.parse_exprs.specs.Outcome.{deep, stuck, Out, got, bad, then_do, unless_stuck, Settles}
use Rattle.parse_exprs.specs.Run.{behind, made, run_expr, run_lead, run_level, run_chain, run_more, run_unary, run_signed, run_primary, run_suffixes}
use Rattle.parse_exprs.specs.Run.{run_suffix, run_applied, run_field, run_atom, run_group, run_enclosed, run_list, run_parts, run_part, run_if, run_case}
use Rattle.parse_exprs.specs.Gives.{Leads}
use Rattle.parse_exprs.proofs.Settling.{settles_suc, settles_is, settles_got, settles_then, settles_bad, settles_unless, settles_stuck, settles_if}
use Rattle.parse_exprs.proofs.Settling.{settles_else}
use Rattle.parse_exprs.proofs.Coming.{Passes}

module _ (x : Origin) (i : Layout) where
  -- ---- expressions
  expr_leads : (lead : Lead) (n : ℕ) (ts : List Token) → lead_at ts ≡ lead → Leads (λ k. run_lead k lead x i n ts) (λ k. run_expr k x i n ts)
  expr_leads lead n ts e = λ o h. settles_suc h (λ k. ap (λ l. run_lead k l x i n ts) e)

  pub expr_if : (n : ℕ) (ts : List Token) → lead_at ts ≡ L.If → Leads (λ k. run_if k x i n ts) (λ k. run_expr k x i n ts)
  expr_if n ts e = λ o h. expr_leads L.If n ts e o (settles_suc h (λ k. refl))

  pub expr_case : (n : ℕ) (ts : List Token) → lead_at ts ≡ L.Case → Leads (λ k. run_case k x i n ts) (λ k. run_expr k x i n ts)
  expr_case n ts e = λ o h. expr_leads L.Case n ts e o (settles_suc h (λ k. refl))

  pub expr_operators : (n : ℕ) (ts : List Token) → lead_at ts ≡ L.Operand → Leads (λ k. run_level k x i op_levels n ts) (λ k. run_expr k x i n ts)
  expr_operators n ts e = λ o h. expr_leads L.Operand n ts e o (settles_suc h (λ k. refl))

  -- ---- operators
  pub level_unary : (m n : ℕ) (ts : List Token) → m ≡ 0 → Leads (λ k. run_unary k x i n ts) (λ k. run_level k x i m n ts)
  level_unary m n ts e = λ o h. settles_suc h (λ k. ap (λ j. run_level (suc k) x i j n ts) e)

  module _ (l m n : ℕ) (same : suc l ≡ m) (j : Layout) (past : past_start i ≡ j) (ts : List Token) where
    level_step : (k : ℕ) → run_level (suc k) x i m n ts ≡ then_do (run_level k x i l n ts) (λ a mid. run_chain k x j l n a mid)
    level_step k = ap (λ w. run_level (suc k) x i w n ts) (sym same) ∙ ap (λ w. then_do (run_level k x i l n ts) (λ a mid. run_chain k x w l n a mid)) past

    pub level_bad : Passes (λ k. run_level k x i l n ts) (λ k. run_level k x i m n ts)
    level_bad why h = settles_suc (settles_bad (λ k a mid. run_chain k x j l n a mid) h) level_step

    pub level_on : (a : Term) (mid : List Token) → Settles (λ k. run_level k x i l n ts) (got a mid) → Leads (λ k. run_chain k x j l n a mid)
        (λ k. run_level k x i m n ts)
    level_on a mid h = λ o g. settles_suc (settles_then (λ k b us. run_chain k x j l n b us) h g) level_step

  chain_leads : (op : Option BinaryOp) (l n : ℕ) (a : Term) (ts : List Token) → op_at x i l ts ≡ op → Leads (λ k. run_more k op x i l n a ts)
      (λ k. run_chain k x i l n a ts)
  chain_leads op l n a ts e = λ o h. settles_suc h (λ k. ap (λ p. run_more k p x i l n a ts) e)

  pub chain_ends : (l n : ℕ) (a : Term) (ts : List Token) → op_at x i l ts ≡ None → Settles (λ k. run_chain k x i l n a ts) (got a ts)
  chain_ends l n a ts e = chain_leads None l n a ts e (got a ts) (settles_suc settles_got (λ k. refl))

  abbrev more_go : ℕ → ℕ → BinaryOp → Term → List Token → ℕ → Out Term
  more_go l n op a ts k = then_do (run_level k x i l n (behind ts)) (λ b mid. run_chain k x i l (suc n) (binary (place_of a) op a b) mid)

  module _ (l : ℕ) (a : Term) (op : BinaryOp) (ts : List Token) (e : op_at x i l ts ≡ Some op) where
    more_deep : (n : ℕ) → n ≤ levels a → Settles (λ k. run_more k (Some op) x i l n a ts) (bad deep)
    more_deep zero le = settles_suc settles_got (λ k. refl)
    more_deep (suc n) le = settles_suc (settles_if (more_go l n op a ts) (lt-ltb n (levels a) le) settles_got) (λ k. refl)

    pub chain_deep : (n : ℕ) → n ≤ levels a → Settles (λ k. run_chain k x i l n a ts) (bad deep)
    chain_deep n le = chain_leads (Some op) l n a ts e (bad deep) (more_deep n le)

    module _ (m n : ℕ) (same : suc n ≡ m) (few : levels a ≤ n) where
      more_leads : Leads (more_go l n op a ts) (λ k. run_chain k x i l m a ts)
      more_leads o h = chain_leads (Some op) l m a ts e o
          (settles_suc (settles_else (λ k. bad deep) (le-ltb n (levels a) few) h) (λ k. ap (λ j. run_more (suc k) (Some op) x i l j a ts) (sym same)))

      pub chain_bad : Passes (λ k. run_level k x i l n (behind ts)) (λ k. run_chain k x i l m a ts)
      chain_bad why h = more_leads (bad why) (settles_bad (λ k b mid. run_chain k x i l (suc n) (binary (place_of a) op a b) mid) h)

      pub chain_on : (b : Term) (mid : List Token) → Settles (λ k. run_level k x i l n (behind ts)) (got b mid)
          → Leads (λ k. run_chain k x i l m (binary (place_of a) op a b) mid) (λ k. run_chain k x i l m a ts)
      chain_on b mid h =
          λ o g. more_leads o (settles_then (λ k c us. run_chain k x i l (suc n) (binary (place_of a) op a c) us) h
          (subst (λ j. Settles (λ k. run_chain k x i l j (binary (place_of a) op a b) mid) o) (sym same) g))

  -- ---- an operator before its operand
  pub unary_none : (n : ℕ) (ts : List Token) → 0 < n → ts ≡ [] → Settles (λ k. run_unary k x i n ts) (bad (stuck ts))
  unary_none n ts some e = subst (λ us. Settles (λ k. run_unary k x i n us) (bad (stuck us))) (sym e) (none n some)
    where
      none : (n : ℕ) → 0 < n → Settles (λ k. run_unary k x i n []) (bad (stuck []))
      none zero some = (let f : ⊥ = omega (arith, some) in absurd f)
      none (suc n) some = settles_suc settles_got (λ k. refl)

  pub unary_deep : (ts : List Token) → operand_at x ts ≡ true → Settles (λ k. run_unary k x i zero ts) (bad deep)
  unary_deep ts e = settles_suc settles_got (λ k. ap (λ b. bad (if b then deep else stuck ts)) e)

  pub unary_stuck : (ts : List Token) → operand_at x ts ≡ false → Settles (λ k. run_unary k x i zero ts) (bad (stuck ts))
  unary_stuck ts e = settles_suc settles_got (λ k. ap (λ b. bad (if b then deep else stuck ts)) e)

  module _ (m n : ℕ) (same : suc n ≡ m) (tok : Token) (ts all : List Token) (is : all ≡ tok ∷ ts) where
    pub unary_signed : (op : Option UnaryOp) → sign_of tok.kind (spelling x tok) ≡ op → Leads (λ k. run_signed k op x i n tok ts) (λ k. run_unary k x i m all)
    unary_signed op e = λ o h. settles_suc h (λ k. ap₂ (λ j us. run_unary (suc k) x i j us) (sym same) is ∙ ap (λ p. run_signed k p x i n tok ts) e)

    abbrev unsigned_last : Term → List Token → Out Term
    unsigned_last a rest = unless_stuck (no_command_on x i rest) rest (got a rest)

    module _ (c : Bool) (start : at_start i ≡ c) where
      unsigned_step : (k : ℕ) → run_signed (suc k) None x i n tok ts ≡ then_do (run_primary k x i c m all) unsigned_last
      unsigned_step k = ap₂ (λ j us. then_do (run_primary k x i (at_start i) j us) unsigned_last) same (sym is)
          ∙ ap (λ w. then_do (run_primary k x i w m all) unsigned_last) start

      pub unsigned_bad : Passes (λ k. run_primary k x i c m all) (λ k. run_signed k None x i n tok ts)
      unsigned_bad why h = settles_suc (settles_bad (λ k. unsigned_last) h) unsigned_step

      module _ (a : Term) (rest : List Token) (h : Settles (λ k. run_primary k x i c m all) (got a rest)) where
        pub unsigned_command : no_command_on x i rest ≡ false → Settles (λ k. run_signed k None x i n tok ts) (bad (stuck rest))
        unsigned_command e = settles_suc (settles_then (λ k. unsigned_last) h (settles_stuck (λ k. got a rest) rest e)) unsigned_step

        pub unsigned_got : no_command_on x i rest ≡ true → Settles (λ k. run_signed k None x i n tok ts) (got a rest)
        unsigned_got e = settles_suc (settles_then (λ k. unsigned_last) h (settles_unless rest e settles_got)) unsigned_step

  module _ (n : ℕ) (op : UnaryOp) (tok : Token) (ts : List Token) where
    abbrev signed_last : Term → List Token → Out Term
    signed_last a rest = got (unary (place_at x tok) op a) rest

    pub signed_stuck : stays i ts ≡ false → Settles (λ k. run_signed k (Some op) x i n tok ts) (bad (stuck ts))
    signed_stuck e = settles_suc (settles_stuck (λ k. then_do (run_unary k x (past_start i) n ts) signed_last) ts e) (λ k. refl)

    module _ (j : Layout) (past : past_start i ≡ j) (e : stays i ts ≡ true) where
      signed_step : (k : ℕ) → run_signed (suc k) (Some op) x i n tok ts ≡ unless_stuck (stays i ts) ts (then_do (run_unary k x j n ts) signed_last)
      signed_step k = ap (λ w. unless_stuck (stays i ts) ts (then_do (run_unary k x w n ts) signed_last)) past

      pub signed_bad : Passes (λ k. run_unary k x j n ts) (λ k. run_signed k (Some op) x i n tok ts)
      signed_bad why h = settles_suc (settles_unless ts e (settles_bad (λ k. signed_last) h)) signed_step

      pub signed_got : (a : Term) (rest : List Token) → Settles (λ k. run_unary k x j n ts) (got a rest) → Settles (λ k. run_signed k (Some op) x i n tok ts)
          (got (unary (place_at x tok) op a) rest)
      signed_got a rest h = settles_suc (settles_unless ts e (settles_then (λ k. signed_last) h settles_got)) signed_step

  -- ---- what stands behind an atom
  module _ (c : Bool) (n : ℕ) (ts : List Token) where
    pub primary_bad : Passes (λ k. run_atom k x i n ts) (λ k. run_primary k x i c n ts)
    primary_bad why h = settles_suc (settles_bad (λ k a mid. run_suffixes k x i c n a mid) h) (λ k. refl)

    pub primary_on : (a : Term) (mid : List Token) → Settles (λ k. run_atom k x i n ts) (got a mid) → Leads (λ k. run_suffixes k x i c n a mid)
        (λ k. run_primary k x i c n ts)
    primary_on a mid h = λ o g. settles_suc (settles_then (λ k b us. run_suffixes k x i c n b us) h g) (λ k. refl)

  pub suffixes_end : (c : Bool) (n : ℕ) (a : Term) (ts : List Token) → suffix_at i c ts ≡ false → Settles (λ k. run_suffixes k x i c n a ts) (got a ts)
  suffixes_end c n a ts e = settles_suc (settles_else (λ k. run_suffix k x i c n a ts) e settles_got) (λ k. refl)

  abbrev suffix_go : Bool → ℕ → Term → List Token → ℕ → Out Term
  suffix_go c n a ts k = then_do (run_applied k (bracket_at ts) x i n a ts) (λ b mid. run_suffixes k x i c (suc n) b mid)

  module _ (c : Bool) (a : Term) (ts : List Token) (e : suffix_at i c ts ≡ true) where
    suffix_leads : (n : ℕ) → Leads (λ k. run_suffix k x i c n a ts) (λ k. run_suffixes k x i c n a ts)
    suffix_leads n o h = settles_suc (settles_if (λ k. got a ts) e h) (λ k. refl)

    suffix_deep : (n : ℕ) → n ≤ levels a → Settles (λ k. run_suffix k x i c n a ts) (bad deep)
    suffix_deep zero le = settles_suc settles_got (λ k. refl)
    suffix_deep (suc n) le = settles_suc (settles_if (suffix_go c n a ts) (lt-ltb n (levels a) le) settles_got) (λ k. refl)

    pub suffixes_deep : (n : ℕ) → n ≤ levels a → Settles (λ k. run_suffixes k x i c n a ts) (bad deep)
    suffixes_deep n le = suffix_leads n (bad deep) (suffix_deep n le)

    module _ (m n : ℕ) (same : suc n ≡ m) (few : levels a ≤ n) (b : Option Bracket) (is : bracket_at ts ≡ b) where
      suffix_more : Leads (suffix_go c n a ts) (λ k. run_suffixes k x i c m a ts)
      suffix_more o h =
          suffix_leads m o (settles_suc (settles_else (λ k. bad deep) (le-ltb n (levels a) few) h) (λ k. ap (λ j. run_suffix (suc k) x i c j a ts) (sym same)))

      pub suffixes_bad : Passes (λ k. run_applied k b x i n a ts) (λ k. run_suffixes k x i c m a ts)
      suffixes_bad why h =
          suffix_more (bad why)
          (settles_bad (λ k d mid. run_suffixes k x i c (suc n) d mid) (subst (λ p. Settles (λ k. run_applied k p x i n a ts) (bad why)) (sym is) h))

      pub suffixes_on : (d : Term) (mid : List Token) → Settles (λ k. run_applied k b x i n a ts) (got d mid) → Leads (λ k. run_suffixes k x i c m d mid)
          (λ k. run_suffixes k x i c m a ts)
      suffixes_on d mid h = λ o g. suffix_more o
          (settles_then (λ k t us. run_suffixes k x i c (suc n) t us) (subst (λ p. Settles (λ k. run_applied k p x i n a ts) (got d mid)) (sym is) h)
          (subst (λ j. Settles (λ k. run_suffixes k x i c j d mid) o) (sym same) g))

  module _ (n : ℕ) (a : Term) (ts : List Token) where
    pub field_stuck : name_on i (behind ts) ≡ None → Settles (λ k. run_applied k None x i n a ts) (bad (stuck (behind ts)))
    field_stuck e = settles_suc settles_got (λ k. ap (λ o. run_field o x a ts) e)

    pub field_got : (tok : Token) → name_on i (behind ts) ≡ Some tok → Settles (λ k. run_applied k None x i n a ts)
        (got (field (place_of a) a (spelling x tok)) (behind (behind ts)))
    field_got tok e = settles_suc settles_got (λ k. ap (λ o. run_field o x a ts) e)

    module _ (b : Bracket) (m : Bool) (is : names_behind a b (behind ts) ≡ m) where
      applied_step : (k : ℕ) → run_applied (suc k) (Some b) x i n a ts ≡ then_do (run_enclosed k x b m n ts)
          (λ parts rest. made (applied b m a parts) (behind ts) rest)
      applied_step k = ap (λ w. then_do (run_enclosed k x b w n ts) (λ parts rest. made (applied b w a parts) (behind ts) rest)) is

      pub applied_bad : Passes (λ k. run_enclosed k x b m n ts) (λ k. run_applied k (Some b) x i n a ts)
      applied_bad why h = settles_suc (settles_bad (λ k parts rest. made (applied b m a parts) (behind ts) rest) h) applied_step

      pub applied_none : (parts : Parts) (rest : List Token) → applied b m a parts ≡ None → Settles (λ k. run_enclosed k x b m n ts) (got parts rest)
          → Settles (λ k. run_applied k (Some b) x i n a ts) (bad (stuck (behind ts)))
      applied_none parts rest e h =
          settles_suc (settles_then (λ k ps us. made (applied b m a ps) (behind ts) us) h (settles_is settles_got (λ k. ap (λ t. made t (behind ts) rest) e)))
          applied_step

      pub applied_got : (parts : Parts) (rest : List Token) (t : Term) → applied b m a parts ≡ Some t → Settles (λ k. run_enclosed k x b m n ts)
          (got parts rest) → Settles (λ k. run_applied k (Some b) x i n a ts) (got t rest)
      applied_got parts rest t e h =
          settles_suc (settles_then (λ k ps us. made (applied b m a ps) (behind ts) us) h (settles_is settles_got (λ k. ap (λ u. made u (behind ts) rest) e)))
          applied_step

  -- ---- atoms
  pub atom_none : (n : ℕ) (ts : List Token) → ts ≡ [] → Settles (λ k. run_atom k x i n ts) (bad (stuck ts))
  atom_none n ts e = subst (λ us. Settles (λ k. run_atom k x i n us) (bad (stuck us))) (sym e) (settles_suc settles_got (λ k. refl))

  module _ (n : ℕ) (tok : Token) (ts all : List Token) (is : all ≡ tok ∷ ts) where
    atom_leads : (t : Option Term) (b : Option Bracket) → single x tok ≡ t → bracket_at all ≡ b → Leads (λ k. run_group k t b x i n tok ts)
        (λ k. run_atom k x i n all)
    atom_leads t b e h =
        λ o g. settles_suc g (λ k. ap (λ us. run_atom (suc k) x i n us) is ∙ ap₂ (λ u c. run_group k u c x i n tok ts) e (sym (ap bracket_at is) ∙ h))

    pub atom_single : (t : Term) → single x tok ≡ Some t → Settles (λ k. run_atom k x i n all) (got t ts)
    atom_single t e = atom_leads (Some t) (bracket_at all) e refl (got t ts) (settles_suc settles_got (λ k. refl))

    pub atom_group : (b : Option Bracket) → single x tok ≡ None → bracket_at all ≡ b → Leads (λ k. run_group k None b x i n tok ts) (λ k. run_atom k x i n all)
    atom_group b e h = atom_leads None b e h

  module _ (m n : ℕ) (same : suc n ≡ m) (tok : Token) (ts : List Token) where
    module _ (b : Bracket) (w : Bool) (is : names_in b ts ≡ w) (all : List Token) (here : all ≡ tok ∷ ts) where
      group_step : (k : ℕ) → run_group (suc k) None (Some b) x i m tok ts ≡ then_do (run_enclosed k x b w n all)
          (λ parts rest. made (grouped b w (place_at x tok) parts) ts rest)
      group_step k = ap (λ j. run_group (suc k) None (Some b) x i j tok ts) (sym same)
          ∙ ap₂ (λ v us. then_do (run_enclosed k x b v n us) (λ parts rest. made (grouped b v (place_at x tok) parts) ts rest)) is (sym here)

      pub group_bad : Passes (λ k. run_enclosed k x b w n all) (λ k. run_group k None (Some b) x i m tok ts)
      group_bad why h = settles_suc (settles_bad (λ k parts rest. made (grouped b w (place_at x tok) parts) ts rest) h) group_step

      pub group_none : (parts : Parts) (rest : List Token) → grouped b w (place_at x tok) parts ≡ None → Settles (λ k. run_enclosed k x b w n all)
          (got parts rest) → Settles (λ k. run_group k None (Some b) x i m tok ts) (bad (stuck ts))
      group_none parts rest e h =
          settles_suc (settles_then (λ k ps us. made (grouped b w (place_at x tok) ps) ts us) h (settles_is settles_got (λ k. ap (λ t. made t ts rest) e)))
          group_step

      pub group_got : (parts : Parts) (rest : List Token) (t : Term) → grouped b w (place_at x tok) parts ≡ Some t → Settles (λ k. run_enclosed k x b w n all)
          (got parts rest) → Settles (λ k. run_group k None (Some b) x i m tok ts) (got t rest)
      group_got parts rest t e h =
          settles_suc (settles_then (λ k ps us. made (grouped b w (place_at x tok) ps) ts us) h (settles_is settles_got (λ k. ap (λ u. made u ts rest) e)))
          group_step

    abbrev square_go : ℕ → Out Term
    square_go k = then_do (run_enclosed k x Square false n ts) (λ parts rest. got (sequence (place_at x tok) parts) rest)

    abbrev seq_go : ℕ → Out Term
    seq_go k = unless_stuck (stays i ts) ts (unless_stuck (square_at ts) ts (square_go k))

    seq_leads : Leads (λ k. unless_stuck (is_at_sign tok.kind (spelling x tok)) (tok ∷ ts) (seq_go k)) (λ k. run_group k None None x i m tok ts)
    seq_leads o h = settles_suc h (λ k. ap (λ j. run_group (suc k) None None x i j tok ts) (sym same))

    pub seq_no_at : is_at_sign tok.kind (spelling x tok) ≡ false → Settles (λ k. run_group k None None x i m tok ts) (bad (stuck (tok ∷ ts)))
    seq_no_at e = seq_leads (bad (stuck (tok ∷ ts))) (settles_stuck seq_go (tok ∷ ts) e)

    module _ (e : is_at_sign tok.kind (spelling x tok) ≡ true) where
      pub seq_no_stay : stays i ts ≡ false → Settles (λ k. run_group k None None x i m tok ts) (bad (stuck ts))
      seq_no_stay s = seq_leads (bad (stuck ts)) (settles_unless (tok ∷ ts) e (settles_stuck (λ k. unless_stuck (square_at ts) ts (square_go k)) ts s))

      module _ (s : stays i ts ≡ true) where
        pub seq_no_square : square_at ts ≡ false → Settles (λ k. run_group k None None x i m tok ts) (bad (stuck ts))
        seq_no_square q = seq_leads (bad (stuck ts)) (settles_unless (tok ∷ ts) e (settles_unless ts s (settles_stuck square_go ts q)))

        module _ (q : square_at ts ≡ true) where
          pub seq_bad : Passes (λ k. run_enclosed k x Square false n ts) (λ k. run_group k None None x i m tok ts)
          seq_bad why h =
              seq_leads (bad why)
              (settles_unless (tok ∷ ts) e
              (settles_unless ts s (settles_unless ts q (settles_bad (λ k parts rest. got (sequence (place_at x tok) parts) rest) h))))

          pub seq_got : (parts : Parts) (rest : List Token) → Settles (λ k. run_enclosed k x Square false n ts) (got parts rest)
              → Settles (λ k. run_group k None None x i m tok ts) (got (sequence (place_at x tok) parts) rest)
          seq_got parts rest h = seq_leads (got (sequence (place_at x tok) parts) rest)
              (settles_unless (tok ∷ ts) e
              (settles_unless ts s (settles_unless ts q (settles_then (λ k ps us. got (sequence (place_at x tok) ps) us) h settles_got))))

-- ---- parts in brackets
module _ (x : Origin) where
  abbrev enclosed_go : Bracket → Bool → ℕ → List Token → ℕ → Out Parts
  enclosed_go b m n ts k = then_do (run_list k x m n (behind ts)) (λ parts mid. unless_stuck (closes_at b mid) mid (got parts (behind mid)))

  module _ (b : Bracket) (m : Bool) (n : ℕ) (ts : List Token) where
    pub enclosed_empty : closes_at b (behind ts) ≡ true → Settles (λ k. run_enclosed k x b m n ts) (got no_parts (behind (behind ts)))
    enclosed_empty e = settles_suc (settles_if (enclosed_go b m n ts) e settles_got) (λ k. refl)

    module _ (e : closes_at b (behind ts) ≡ false) where
      enclosed_leads : Leads (enclosed_go b m n ts) (λ k. run_enclosed k x b m n ts)
      enclosed_leads o h = settles_suc (settles_else (λ k. got no_parts (behind (behind ts))) e h) (λ k. refl)

      pub enclosed_bad : Passes (λ k. run_list k x m n (behind ts)) (λ k. run_enclosed k x b m n ts)
      enclosed_bad why h = enclosed_leads (bad why) (settles_bad (λ k parts mid. unless_stuck (closes_at b mid) mid (got parts (behind mid))) h)

      pub enclosed_open : (parts : Parts) (mid : List Token) → closes_at b mid ≡ false → Settles (λ k. run_list k x m n (behind ts)) (got parts mid)
          → Settles (λ k. run_enclosed k x b m n ts) (bad (stuck mid))
      enclosed_open parts mid c h = enclosed_leads (bad (stuck mid)) (settles_then (λ k ps us. unless_stuck (closes_at b us) us (got ps (behind us))) h
          (settles_stuck (λ k. got parts (behind mid)) mid c))

      pub enclosed_got : (parts : Parts) (mid : List Token) → closes_at b mid ≡ true → Settles (λ k. run_list k x m n (behind ts)) (got parts mid)
          → Settles (λ k. run_enclosed k x b m n ts) (got parts (behind mid))
      enclosed_got parts mid c h = enclosed_leads (got parts (behind mid)) (settles_then (λ k ps us. unless_stuck (closes_at b us) us (got ps (behind us))) h
          (settles_unless mid c settles_got))

  module _ (m : Bool) (n : ℕ) (ts : List Token) where
    pub list_bad : Passes (λ k. run_part k x m n ts) (λ k. run_list k x m n ts)
    list_bad why h = settles_suc (settles_bad (λ k a mid. run_parts k x m n (part a no_parts) mid) h) (λ k. refl)

    pub list_on : (a : Term) (mid : List Token) → Settles (λ k. run_part k x m n ts) (got a mid) → Leads (λ k. run_parts k x m n (part a no_parts) mid)
        (λ k. run_list k x m n ts)
    list_on a mid h = λ o g. settles_suc (settles_then (λ k b us. run_parts k x m n (part b no_parts) us) h g) (λ k. refl)

    abbrev parts_go : Parts → ℕ → Out Parts
    parts_go some k = then_do (run_part k x m n (behind ts)) (λ a mid. run_parts k x m n (and_part some a) mid)

    pub parts_end : (some : Parts) → kind_at (is_punct 44) ts ≡ false → Settles (λ k. run_parts k x m n some ts) (got some ts)
    parts_end some e = settles_suc (settles_else (parts_go some) e settles_got) (λ k. refl)

    module _ (some : Parts) (e : kind_at (is_punct 44) ts ≡ true) where
      pub parts_bad : Passes (λ k. run_part k x m n (behind ts)) (λ k. run_parts k x m n some ts)
      parts_bad why h = settles_suc (settles_if (λ k. got some ts) e (settles_bad (λ k a mid. run_parts k x m n (and_part some a) mid) h)) (λ k. refl)

      pub parts_on : (a : Term) (mid : List Token) → Settles (λ k. run_part k x m n (behind ts)) (got a mid)
          → Leads (λ k. run_parts k x m n (and_part some a) mid) (λ k. run_parts k x m n some ts)
      parts_on a mid h = λ o g. settles_suc (settles_if (λ k. got some ts) e (settles_then (λ k b us. run_parts k x m n (and_part some b) us) h g)) (λ k. refl)

  pub part_plain : (n : ℕ) (ts : List Token) → Leads (λ k. run_expr k x Brackets n ts) (λ k. run_part k x false n ts)
  part_plain n ts = λ o h. settles_suc h (λ k. refl)

  pub named_none : (n : ℕ) (ts : List Token) → ts ≡ [] → Settles (λ k. run_part k x true n ts) (bad (stuck ts))
  named_none n ts e = subst (λ us. Settles (λ k. run_part k x true n us) (bad (stuck us))) (sym e) (settles_suc settles_got (λ k. refl))

  module _ (n : ℕ) (tok : Token) (ts all : List Token) (is : all ≡ tok ∷ ts) where
    abbrev value_go : ℕ → Out Term
    value_go k = then_do (run_expr k x Brackets n (behind ts)) (λ a rest. got (named (place_at x tok) (spelling x tok) a) rest)

    named_leads : Leads (λ k. unless_stuck (kind_at is_name all) all (unless_stuck (kind_at (is_punct 58) ts) ts (value_go k))) (λ k. run_part k x true n all)
    named_leads o h =
        settles_suc h (λ k. ap (λ us. run_part (suc k) x true n us) is
        ∙ ap (λ us. unless_stuck (kind_at is_name us) us (unless_stuck (kind_at (is_punct 58) ts) ts (value_go k))) (sym is))

    pub named_no_name : kind_at is_name all ≡ false → Settles (λ k. run_part k x true n all) (bad (stuck all))
    named_no_name e = named_leads (bad (stuck all)) (settles_stuck (λ k. unless_stuck (kind_at (is_punct 58) ts) ts (value_go k)) all e)

    module _ (e : kind_at is_name all ≡ true) where
      pub named_no_colon : kind_at (is_punct 58) ts ≡ false → Settles (λ k. run_part k x true n all) (bad (stuck ts))
      named_no_colon c = named_leads (bad (stuck ts)) (settles_unless all e (settles_stuck value_go ts c))

      module _ (c : kind_at (is_punct 58) ts ≡ true) where
        pub named_bad : Passes (λ k. run_expr k x Brackets n (behind ts)) (λ k. run_part k x true n all)
        named_bad why h =
            named_leads (bad why)
            (settles_unless all e (settles_unless ts c (settles_bad (λ k a rest. got (named (place_at x tok) (spelling x tok) a) rest) h)))

        pub named_got : (a : Term) (rest : List Token) → Settles (λ k. run_expr k x Brackets n (behind ts)) (got a rest)
            → Settles (λ k. run_part k x true n all) (got (named (place_at x tok) (spelling x tok) a) rest)
        named_got a rest h = named_leads (got (named (place_at x tok) (spelling x tok) a) rest)
            (settles_unless all e (settles_unless ts c (settles_then (λ k b us. got (named (place_at x tok) (spelling x tok) b) us) h settles_got)))
