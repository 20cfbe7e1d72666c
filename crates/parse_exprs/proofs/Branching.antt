-- How the runs of `if` and `case` go, by those of their parts.
use Rattle.std.proofs.Common.{◌≡◌, ℕ, suc, List, [], ◌∷◌, true, false, refl, sym, ap, ap₂, ◌∙◌}
use Rattle.std.specs.Prelude.{if◌then◌else◌}
use Rattle.arc_base.specs.declared.place.Place.{Place}
use Rattle.indent_scanner.specs.declared.token.Token.{Token}
use Rattle.nim_tree.specs.Terms.{Term, if_term, case_term, case_else, range, Parts, no_parts, part, and_part, Choices, no_choices, choice, and_choice, place_of}
use Rattle.parse_exprs.specs.declared.layout.Layout.{Layout}
use Rattle.parse_exprs.specs.Look.{Origin, place_at, stays, branch_at, is_elif, is_else, is_of, first_of_at, branch_layout, colon_at, comma_at, past_colon}
use Rattle.parse_exprs.specs.Look.{dots_at, past_start, else_on, deeper_line_at, line_layout, closed_at}
use Rattle.parse_exprs.specs.Outcome.{deep, stuck, Out, got, bad, then_do, unless_stuck, Settles}
use Rattle.parse_exprs.specs.Run.{behind, Tail, run_expr, run_if, run_tail, run_value, run_own_line, run_elifs, run_else, run_case, run_branches, run_of}
use Rattle.parse_exprs.specs.Run.{run_labels, run_label, run_ofs, run_otherwise}
use Rattle.parse_exprs.specs.Gives.{Leads}
use Rattle.parse_exprs.proofs.Settling.{settles_suc, settles_got, settles_then, settles_bad, settles_unless, settles_stuck, settles_if, settles_else}
use Rattle.parse_exprs.proofs.Coming.{Passes}

module _ (x : Origin) (i : Layout) where
  -- ---- a colon and a value
  module _ (n : ℕ) (ts : List Token) where
    abbrev value_go : ℕ → Out Term
    value_go k = if stays i (behind ts) then run_expr k x i n (behind ts) else run_own_line k x i n (behind ts)

    pub value_no_colon : colon_at i ts ≡ false → Settles (λ k. run_value k x i n ts) (bad (stuck ts))
    value_no_colon e = settles_suc (settles_stuck value_go ts e) (λ k. refl)

    module _ (e : colon_at i ts ≡ true) where
      pub value_on : stays i (behind ts) ≡ true → Leads (λ k. run_expr k x i n (behind ts)) (λ k. run_value k x i n ts)
      value_on s = λ o h. settles_suc (settles_unless ts e (settles_if (λ k. run_own_line k x i n (behind ts)) s h)) (λ k. refl)

      pub value_below : stays i (behind ts) ≡ false → Leads (λ k. run_own_line k x i n (behind ts)) (λ k. run_value k x i n ts)
      value_below s = λ o h. settles_suc (settles_unless ts e (settles_else (λ k. run_expr k x i n (behind ts)) s h)) (λ k. refl)

  -- ---- a value on lines of its own
  module _ (n : ℕ) (ts : List Token) where
    abbrev own_last : Layout → Term → List Token → Out Term
    own_last j v rest = unless_stuck (closed_at j rest) rest (got v rest)

    pub own_not_deeper : deeper_line_at i ts ≡ false → Settles (λ k. run_own_line k x i n ts) (bad (stuck ts))
    own_not_deeper e = settles_suc (settles_stuck (λ k. then_do (run_expr k x (line_layout i ts) n ts) (own_last (line_layout i ts))) ts e) (λ k. refl)

    module _ (e : deeper_line_at i ts ≡ true) (j : Layout) (own : line_layout i ts ≡ j) where
      own_step : (k : ℕ) → run_own_line (suc k) x i n ts ≡ unless_stuck (deeper_line_at i ts) ts (then_do (run_expr k x j n ts) (own_last j))
      own_step k = ap (λ w. unless_stuck (deeper_line_at i ts) ts (then_do (run_expr k x w n ts) (own_last w))) own

      pub own_bad : Passes (λ k. run_expr k x j n ts) (λ k. run_own_line k x i n ts)
      own_bad why h = settles_suc (settles_unless ts e (settles_bad (λ k. own_last j) h)) own_step

      module _ (v : Term) (rest : List Token) (h : Settles (λ k. run_expr k x j n ts) (got v rest)) where
        pub own_open : closed_at j rest ≡ false → Settles (λ k. run_own_line k x i n ts) (bad (stuck rest))
        own_open c = settles_suc (settles_unless ts e (settles_then (λ k. own_last j) h (settles_stuck (λ k. got v rest) rest c))) own_step

        pub own_got : closed_at j rest ≡ true → Settles (λ k. run_own_line k x i n ts) (got v rest)
        own_got c = settles_suc (settles_unless ts e (settles_then (λ k. own_last j) h (settles_unless rest c settles_got))) own_step

  -- ---- a condition and a value
  module _ (n : ℕ) (ts : List Token) where
    abbrev tail_last : Term → Term → List Token → Out Tail
    tail_last c v rest = got (record { tests = part c no_parts; value = v }) rest

    abbrev tail_next : ℕ → Term → List Token → Out Tail
    tail_next k c mid = then_do (run_value k x i n mid) (tail_last c)

    pub tail_no_stay : stays i ts ≡ false → Settles (λ k. run_tail k x i n ts) (bad (stuck ts))
    tail_no_stay s = settles_suc (settles_stuck (λ k. then_do (run_expr k x (past_start i) n ts) (tail_next k)) ts s) (λ k. refl)

    module _ (s : stays i ts ≡ true) (j : Layout) (past : past_start i ≡ j) where
      tail_step : (k : ℕ) → run_tail (suc k) x i n ts ≡ unless_stuck (stays i ts) ts (then_do (run_expr k x j n ts) (tail_next k))
      tail_step k = ap (λ w. unless_stuck (stays i ts) ts (then_do (run_expr k x w n ts) (tail_next k))) past

      pub tail_bad : Passes (λ k. run_expr k x j n ts) (λ k. run_tail k x i n ts)
      tail_bad why h = settles_suc (settles_unless ts s (settles_bad tail_next h)) tail_step

      module _ (c : Term) (mid : List Token) (g : Settles (λ k. run_expr k x j n ts) (got c mid)) where
        pub tail_value_bad : Passes (λ k. run_value k x i n mid) (λ k. run_tail k x i n ts)
        tail_value_bad why h = settles_suc (settles_unless ts s (settles_then tail_next g (settles_bad (λ k. tail_last c) h))) tail_step

        pub tail_got : (v : Term) (rest : List Token) → Settles (λ k. run_value k x i n mid) (got v rest)
            → Settles (λ k. run_tail k x i n ts) (got (record { tests = part c no_parts; value = v }) rest)
        tail_got v rest h = settles_suc (settles_unless ts s (settles_then tail_next g (settles_then (λ k. tail_last c) h settles_got))) tail_step

  -- ---- `elif`
  pub elifs_end : (n : ℕ) (some : Choices) (ts : List Token) → branch_at i is_elif ts ≡ false → Settles (λ k. run_elifs k x i n some ts) (got some ts)
  elifs_end n some [] e = settles_suc settles_got (λ k. refl)
  elifs_end n some (tok ∷ ts) e =
      settles_suc (settles_else (λ k. then_do (run_tail k x i n ts) (λ one mid. run_elifs k x i n (and_choice some (place_at x tok) one.tests one.value) mid)) e
      settles_got) (λ k. refl)

  module _ (n : ℕ) (some : Choices) (tok : Token) (ts all : List Token) (is : all ≡ tok ∷ ts) (e : branch_at i is_elif all ≡ true) where
    elifs_leads : Leads (λ k. then_do (run_tail k x i n ts) (λ one mid. run_elifs k x i n (and_choice some (place_at x tok) one.tests one.value) mid))
        (λ k. run_elifs k x i n some all)
    elifs_leads o h = settles_suc (settles_if (λ k. got some (tok ∷ ts)) (ap (branch_at i is_elif) (sym is) ∙ e) h)
        (λ k. ap (λ us. run_elifs (suc k) x i n some us) is)

    pub elifs_bad : Passes (λ k. run_tail k x i n ts) (λ k. run_elifs k x i n some all)
    elifs_bad why h = elifs_leads (bad why) (settles_bad (λ k one mid. run_elifs k x i n (and_choice some (place_at x tok) one.tests one.value) mid) h)

    pub elifs_on : (one : Tail) (mid : List Token) → Settles (λ k. run_tail k x i n ts) (got one mid)
        → Leads (λ k. run_elifs k x i n (and_choice some (place_at x tok) one.tests one.value) mid) (λ k. run_elifs k x i n some all)
    elifs_on one mid h = λ o g. elifs_leads o (settles_then (λ k a us. run_elifs k x i n (and_choice some (place_at x tok) a.tests a.value) us) h g)

  -- ---- `else`
  module _ (n : ℕ) (ts : List Token) where
    pub else_stuck : branch_at i is_else ts ≡ false → Settles (λ k. run_else k x i n ts) (bad (stuck ts))
    else_stuck e = settles_suc (settles_stuck (λ k. run_value k x i n (behind ts)) ts e) (λ k. refl)

    pub else_goes : branch_at i is_else ts ≡ true → Leads (λ k. run_value k x i n (behind ts)) (λ k. run_else k x i n ts)
    else_goes e = λ o h. settles_suc (settles_unless ts e h) (λ k. refl)

  -- ---- `if`
  pub if_deep : (m : ℕ) (ts : List Token) → m ≡ 0 → Settles (λ k. run_if k x i m ts) (bad deep)
  if_deep m ts e = settles_suc settles_got (λ k. ap (λ j. run_if (suc k) x i j ts) e)

  pub if_none : (m n : ℕ) → suc n ≡ m → (ts : List Token) → ts ≡ [] → Settles (λ k. run_if k x i m ts) (bad (stuck ts))
  if_none m n same ts e = settles_suc settles_got (λ k. ap₂ (λ j us. run_if (suc k) x i j us) (sym same) e ∙ ap (λ us. bad (stuck us)) (sym e))

  module _ (m n : ℕ) (same : suc n ≡ m) (tok : Token) (ts all : List Token) (is : all ≡ tok ∷ ts) where
    abbrev if_last : Choices → Term → List Token → Out Term
    if_last bs e rest = got (if_term (place_at x tok) bs e) rest

    abbrev if_else : ℕ → Choices → List Token → Out Term
    if_else k bs end = then_do (run_else k x i n end) (if_last bs)

    abbrev if_next : ℕ → Tail → List Token → Out Term
    if_next k one mid = then_do (run_elifs k x i n (choice (place_at x tok) one.tests one.value no_choices) mid) (if_else k)

    if_step : (k : ℕ) → run_if (suc k) x i m all ≡ then_do (run_tail k x i n ts) (if_next k)
    if_step k = ap₂ (λ j us. run_if (suc k) x i j us) (sym same) is

    pub if_bad : Passes (λ k. run_tail k x i n ts) (λ k. run_if k x i m all)
    if_bad why h = settles_suc (settles_bad if_next h) if_step

    module _ (one : Tail) (mid : List Token) (g : Settles (λ k. run_tail k x i n ts) (got one mid)) where
      pub if_elifs_bad : Passes (λ k. run_elifs k x i n (choice (place_at x tok) one.tests one.value no_choices) mid) (λ k. run_if k x i m all)
      if_elifs_bad why h = settles_suc (settles_then if_next g (settles_bad if_else h)) if_step

      module _ (bs : Choices) (end : List Token) (b : Settles (λ k. run_elifs k x i n (choice (place_at x tok) one.tests one.value no_choices) mid)
          (got bs end)) where
        pub if_else_bad : Passes (λ k. run_else k x i n end) (λ k. run_if k x i m all)
        if_else_bad why h = settles_suc (settles_then if_next g (settles_then if_else b (settles_bad (λ k. if_last bs) h))) if_step

        pub if_got : (e : Term) (rest : List Token) → Settles (λ k. run_else k x i n end) (got e rest)
            → Settles (λ k. run_if k x i m all) (got (if_term (place_at x tok) bs e) rest)
        if_got e rest h = settles_suc (settles_then if_next g (settles_then if_else b (settles_then (λ k. if_last bs) h settles_got))) if_step

  -- ---- labels
  module _ (n : ℕ) (ts : List Token) where
    abbrev label_last : Term → Term → List Token → Out Term
    label_last a b rest = got (range (place_of a) a b) rest

    abbrev label_high : Term → List Token → ℕ → Out Term
    label_high a mid k = then_do (run_expr k x i n (behind mid)) (label_last a)

    abbrev label_next : ℕ → Term → List Token → Out Term
    label_next k a mid = if dots_at x i mid then unless_stuck (stays i (behind mid)) (behind mid) (label_high a mid k) else got a mid

    pub label_bad : Passes (λ k. run_expr k x i n ts) (λ k. run_label k x i n ts)
    label_bad why h = settles_suc (settles_bad label_next h) (λ k. refl)

    module _ (a : Term) (mid : List Token) (g : Settles (λ k. run_expr k x i n ts) (got a mid)) where
      pub label_one : dots_at x i mid ≡ false → Settles (λ k. run_label k x i n ts) (got a mid)
      label_one e =
          settles_suc (settles_then label_next g (settles_else (λ k. unless_stuck (stays i (behind mid)) (behind mid) (label_high a mid k)) e settles_got))
          (λ k. refl)

      module _ (e : dots_at x i mid ≡ true) where
        label_on : Leads (λ k. unless_stuck (stays i (behind mid)) (behind mid) (label_high a mid k)) (λ k. run_label k x i n ts)
        label_on o h = settles_suc (settles_then label_next g (settles_if (λ k. got a mid) e h)) (λ k. refl)

        pub label_no_stay : stays i (behind mid) ≡ false → Settles (λ k. run_label k x i n ts) (bad (stuck (behind mid)))
        label_no_stay s = label_on (bad (stuck (behind mid))) (settles_stuck (label_high a mid) (behind mid) s)

        module _ (s : stays i (behind mid) ≡ true) where
          pub label_high_bad : Passes (λ k. run_expr k x i n (behind mid)) (λ k. run_label k x i n ts)
          label_high_bad why h = label_on (bad why) (settles_unless (behind mid) s (settles_bad (λ k. label_last a) h))

          pub label_got : (b : Term) (rest : List Token) → Settles (λ k. run_expr k x i n (behind mid)) (got b rest)
              → Settles (λ k. run_label k x i n ts) (got (range (place_of a) a b) rest)
          label_got b rest h = label_on (got (range (place_of a) a b) rest) (settles_unless (behind mid) s (settles_then (λ k. label_last a) h settles_got))

  module _ (n : ℕ) (some : Parts) (ts : List Token) where
    abbrev labels_next : ℕ → Term → List Token → Out Parts
    labels_next k a mid = run_labels k x i n (and_part some a) mid

    pub labels_end : comma_at i ts ≡ false → Settles (λ k. run_labels k x i n some ts) (got some ts)
    labels_end e = settles_suc (settles_else (λ k. then_do (run_label k x i n (behind ts)) (labels_next k)) e settles_got) (λ k. refl)

    module _ (e : comma_at i ts ≡ true) where
      pub labels_bad : Passes (λ k. run_label k x i n (behind ts)) (λ k. run_labels k x i n some ts)
      labels_bad why h = settles_suc (settles_if (λ k. got some ts) e (settles_bad labels_next h)) (λ k. refl)

      pub labels_on : (a : Term) (mid : List Token) → Settles (λ k. run_label k x i n (behind ts)) (got a mid)
          → Leads (λ k. run_labels k x i n (and_part some a) mid) (λ k. run_labels k x i n some ts)
      labels_on a mid h = λ o g. settles_suc (settles_if (λ k. got some ts) e (settles_then labels_next h g)) (λ k. refl)

  -- ---- `of`
  module _ (n : ℕ) (ts : List Token) where
    abbrev of_last : Parts → Term → List Token → Out Tail
    of_last labels v rest = got (record { tests = labels; value = v }) rest

    abbrev of_value : ℕ → Parts → List Token → Out Tail
    of_value k labels end = then_do (run_value k x i n end) (of_last labels)

    abbrev of_next : Layout → ℕ → Term → List Token → Out Tail
    of_next j k a mid = then_do (run_labels k x j n (part a no_parts) mid) (of_value k)

    pub of_no_stay : stays i ts ≡ false → Settles (λ k. run_of k x i n ts) (bad (stuck ts))
    of_no_stay s = settles_suc (settles_stuck (λ k. then_do (run_label k x (past_start i) n ts) (of_next (past_start i) k)) ts s) (λ k. refl)

    module _ (s : stays i ts ≡ true) (j : Layout) (past : past_start i ≡ j) where
      of_step : (k : ℕ) → run_of (suc k) x i n ts ≡ unless_stuck (stays i ts) ts (then_do (run_label k x j n ts) (of_next j k))
      of_step k = ap (λ w. unless_stuck (stays i ts) ts (then_do (run_label k x w n ts) (of_next w k))) past

      pub of_bad : Passes (λ k. run_label k x j n ts) (λ k. run_of k x i n ts)
      of_bad why h = settles_suc (settles_unless ts s (settles_bad (of_next j) h)) of_step

      module _ (a : Term) (mid : List Token) (g : Settles (λ k. run_label k x j n ts) (got a mid)) where
        pub of_labels_bad : Passes (λ k. run_labels k x j n (part a no_parts) mid) (λ k. run_of k x i n ts)
        of_labels_bad why h = settles_suc (settles_unless ts s (settles_then (of_next j) g (settles_bad of_value h))) of_step

        module _ (labels : Parts) (end : List Token) (b : Settles (λ k. run_labels k x j n (part a no_parts) mid) (got labels end)) where
          pub of_value_bad : Passes (λ k. run_value k x i n end) (λ k. run_of k x i n ts)
          of_value_bad why h = settles_suc (settles_unless ts s (settles_then (of_next j) g (settles_then of_value b (settles_bad (λ k. of_last labels) h))))
              of_step

          pub of_got : (v : Term) (rest : List Token) → Settles (λ k. run_value k x i n end) (got v rest)
              → Settles (λ k. run_of k x i n ts) (got (record { tests = labels; value = v }) rest)
          of_got v rest h =
              settles_suc (settles_unless ts s (settles_then (of_next j) g (settles_then of_value b (settles_then (λ k. of_last labels) h settles_got))))
              of_step

  pub ofs_end : (n : ℕ) (some : Choices) (ts : List Token) → branch_at i is_of ts ≡ false → Settles (λ k. run_ofs k x i n some ts) (got some ts)
  ofs_end n some [] e = settles_suc settles_got (λ k. refl)
  ofs_end n some (tok ∷ ts) e =
      settles_suc (settles_else (λ k. then_do (run_of k x i n ts) (λ one mid. run_ofs k x i n (and_choice some (place_at x tok) one.tests one.value) mid)) e
      settles_got) (λ k. refl)

  module _ (n : ℕ) (some : Choices) (tok : Token) (ts all : List Token) (is : all ≡ tok ∷ ts) (e : branch_at i is_of all ≡ true) where
    ofs_leads : Leads (λ k. then_do (run_of k x i n ts) (λ one mid. run_ofs k x i n (and_choice some (place_at x tok) one.tests one.value) mid))
        (λ k. run_ofs k x i n some all)
    ofs_leads o h = settles_suc (settles_if (λ k. got some (tok ∷ ts)) (ap (branch_at i is_of) (sym is) ∙ e) h)
        (λ k. ap (λ us. run_ofs (suc k) x i n some us) is)

    pub ofs_bad : Passes (λ k. run_of k x i n ts) (λ k. run_ofs k x i n some all)
    ofs_bad why h = ofs_leads (bad why) (settles_bad (λ k one mid. run_ofs k x i n (and_choice some (place_at x tok) one.tests one.value) mid) h)

    pub ofs_on : (one : Tail) (mid : List Token) → Settles (λ k. run_of k x i n ts) (got one mid)
        → Leads (λ k. run_ofs k x i n (and_choice some (place_at x tok) one.tests one.value) mid) (λ k. run_ofs k x i n some all)
    ofs_on one mid h = λ o g. ofs_leads o (settles_then (λ k a us. run_ofs k x i n (and_choice some (place_at x tok) a.tests a.value) us) h g)

  -- ---- `case`
  module _ (n : ℕ) (at : Place) (s : Term) (bs : Choices) (ts : List Token) where
    abbrev otherwise_last : Term → List Token → Out Term
    otherwise_last e rest = got (case_else at s bs e) rest

    pub otherwise_none : else_on i ts ≡ false → Settles (λ k. run_otherwise k x i n at s bs ts) (got (case_term at s bs) ts)
    otherwise_none e = settles_suc (settles_else (λ k. then_do (run_value k x i n (behind ts)) otherwise_last) e settles_got) (λ k. refl)

    module _ (e : else_on i ts ≡ true) where
      pub otherwise_bad : Passes (λ k. run_value k x i n (behind ts)) (λ k. run_otherwise k x i n at s bs ts)
      otherwise_bad why h = settles_suc (settles_if (λ k. got (case_term at s bs) ts) e (settles_bad (λ k. otherwise_last) h)) (λ k. refl)

      pub otherwise_got : (v : Term) (rest : List Token) → Settles (λ k. run_value k x i n (behind ts)) (got v rest)
          → Settles (λ k. run_otherwise k x i n at s bs ts) (got (case_else at s bs v) rest)
      otherwise_got v rest h = settles_suc (settles_if (λ k. got (case_term at s bs) ts) e (settles_then (λ k. otherwise_last) h settles_got)) (λ k. refl)

  pub branches_stuck : (n : ℕ) (at : Place) (s : Term) (ts : List Token) → first_of_at i ts ≡ false → Settles (λ k. run_branches k x i n at s ts)
      (bad (stuck ts))
  branches_stuck n at s [] e = settles_suc settles_got (λ k. refl)
  branches_stuck n at s (tok ∷ ts) e = settles_suc (settles_stuck (λ k.
      then_do (run_of k x (branch_layout i tok.indent) n ts) (λ one mid.
      then_do (run_ofs k x (branch_layout i tok.indent) n (choice (place_at x tok) one.tests one.value no_choices) mid) (λ bs end.
      run_otherwise k x (branch_layout i tok.indent) n at s bs end))) (tok ∷ ts) e) (λ k. refl)

  module _ (n : ℕ) (at : Place) (s : Term) (tok : Token) (ts all : List Token) (is : all ≡ tok ∷ ts) (e : first_of_at i all ≡ true) (j : Layout)
      (inner : branch_layout i tok.indent ≡ j) where
    abbrev branches_last : ℕ → Choices → List Token → Out Term
    branches_last k bs end = run_otherwise k x j n at s bs end

    abbrev branches_next : ℕ → Tail → List Token → Out Term
    branches_next k one mid = then_do (run_ofs k x j n (choice (place_at x tok) one.tests one.value no_choices) mid) (branches_last k)

    branches_leads : Leads (λ k. then_do (run_of k x j n ts) (branches_next k)) (λ k. run_branches k x i n at s all)
    branches_leads o h = settles_suc (settles_unless (tok ∷ ts) (ap (first_of_at i) (sym is) ∙ e) h) (λ k. ap (λ us. run_branches (suc k) x i n at s us) is
        ∙ ap (λ w. unless_stuck (first_of_at i (tok ∷ ts)) (tok ∷ ts) (
        then_do (run_of k x w n ts) (λ one mid. then_do (run_ofs k x w n (choice (place_at x tok) one.tests one.value no_choices) mid)
        (λ bs end. run_otherwise k x w n at s bs end)))) inner)

    pub branches_bad : Passes (λ k. run_of k x j n ts) (λ k. run_branches k x i n at s all)
    branches_bad why h = branches_leads (bad why) (settles_bad branches_next h)

    module _ (one : Tail) (mid : List Token) (g : Settles (λ k. run_of k x j n ts) (got one mid)) where
      pub branches_ofs_bad : Passes (λ k. run_ofs k x j n (choice (place_at x tok) one.tests one.value no_choices) mid) (λ k. run_branches k x i n at s all)
      branches_ofs_bad why h = branches_leads (bad why) (settles_then branches_next g (settles_bad branches_last h))

      pub branches_on : (bs : Choices) (end : List Token) → Settles (λ k. run_ofs k x j n (choice (place_at x tok) one.tests one.value no_choices) mid)
          (got bs end)
          → Leads (λ k. run_otherwise k x j n at s bs end) (λ k. run_branches k x i n at s all)
      branches_on bs end b = λ o h. branches_leads o (settles_then branches_next g (settles_then branches_last b h))

  pub case_deep : (m : ℕ) (ts : List Token) → m ≡ 0 → Settles (λ k. run_case k x i m ts) (bad deep)
  case_deep m ts e = settles_suc settles_got (λ k. ap (λ j. run_case (suc k) x i j ts) e)

  pub case_none : (m n : ℕ) → suc n ≡ m → (ts : List Token) → ts ≡ [] → Settles (λ k. run_case k x i m ts) (bad (stuck ts))
  case_none m n same ts e = settles_suc settles_got (λ k. ap₂ (λ j us. run_case (suc k) x i j us) (sym same) e ∙ ap (λ us. bad (stuck us)) (sym e))

  module _ (m n : ℕ) (same : suc n ≡ m) (tok : Token) (ts all : List Token) (is : all ≡ tok ∷ ts) where
    abbrev case_next : ℕ → Term → List Token → Out Term
    case_next k s mid = run_branches k x i n (place_at x tok) s (past_colon i mid)

    pub case_no_stay : stays i ts ≡ false → Settles (λ k. run_case k x i m all) (bad (stuck ts))
    case_no_stay s = settles_suc (settles_stuck (λ k. then_do (run_expr k x (past_start i) n ts) (case_next k)) ts s)
        (λ k. ap₂ (λ j us. run_case (suc k) x i j us) (sym same) is)

    module _ (s : stays i ts ≡ true) (j : Layout) (past : past_start i ≡ j) where
      case_step : (k : ℕ) → run_case (suc k) x i m all ≡ unless_stuck (stays i ts) ts (then_do (run_expr k x j n ts) (case_next k))
      case_step k = ap₂ (λ w us. run_case (suc k) x i w us) (sym same) is
          ∙ ap (λ w. unless_stuck (stays i ts) ts (then_do (run_expr k x w n ts) (case_next k))) past

      pub case_bad : Passes (λ k. run_expr k x j n ts) (λ k. run_case k x i m all)
      case_bad why h = settles_suc (settles_unless ts s (settles_bad case_next h)) case_step

      pub case_on : (a : Term) (mid : List Token) → Settles (λ k. run_expr k x j n ts) (got a mid)
          → Leads (λ k. run_branches k x i n (place_at x tok) a (past_colon i mid)) (λ k. run_case k x i m all)
      case_on a mid g = λ o h. settles_suc (settles_unless ts s (settles_then case_next g h)) case_step
