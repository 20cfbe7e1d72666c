-- Heads of procedures, as computations and as relations.
use Rattle.std.proofs.Common.{◌≡◌, ◌≤◌, List, [], refl, sym, ap, subst, inl, inr, arith}
use Rattle.std.specs.Prelude.{Option}
use Rattle.indent_scanner.specs.declared.token.Token.{Token}
use Rattle.nim_tree.specs.declared.name.Name.{Name}
use Rattle.nim_tree.specs.declared.name.Declared.{Declared}
use Rattle.nim_tree.specs.declared.name.Pragma.{Pragma}
use Rattle.nim_tree.specs.declared.stmt.ParamMode.{ParamMode}
use Rattle.nim_tree.specs.Lists.{highest, if_there}
use Rattle.nim_tree.specs.Types.{Written, type_levels}
use Rattle.nim_tree.specs.Statements.{Parameters, Head, parameter_type_levels}
use Rattle.parse_exprs.specs.declared.layout.Layout.{Layout}
use Rattle.parse_exprs.specs.declared.layout.Layout.TheVariants.{Brackets}
use Rattle.parse_exprs.specs.declared.input.Bracket.TheVariants.{Round}
use Rattle.parse_exprs.specs.Look.{Origin, closes_at, colon_at}
use Rattle.parse_decls.specs.Look.{behind, proc_name_on, opens_at, separator_at, mode_at, past_mode}
use Rattle.parse_decls.specs.Outcome.{Why}
use Rattle.parse_decls.specs.Run.{most_levels, run_param, run_more_params, run_params, run_head}
use Rattle.parse_decls.specs.Grammar.{Listed, Closed, Perhaps, e_missing, e_present, Names, IsDeclared, Generics, Pragmas, IsType, Annotation, IsParameter}
use Rattle.parse_decls.specs.Grammar.{IsParameters, h_none, h_some, ParameterList, IsHead}
use Rattle.parse_decls.specs.Faults.{Short, ShortHead, FaultsListed, FaultsClosed, FaultsName, FaultsNames, FaultsGenerics, FaultsPragmas, FaultsWritten}
use Rattle.parse_decls.specs.Faults.{FaultsAnnotation, ShortAnnotation, FaultsParameter, f_param_names, f_param_colon, f_param_type, ShortParameter}
use Rattle.parse_decls.specs.Faults.{FaultsParameters, FaultsParameterList, ShortParameterList, FaultsHead, f_head_name, f_head_generics, f_head_params}
use Rattle.parse_decls.specs.Faults.{f_head_type, f_head_pragmas}
use Rattle.parse_decls.proofs.Productions.{Parses, restated, placed, Just, just, shifted, Then, FaultsThen, seq, Mapped, mapped, Guarded, FaultsGuarded}
use Rattle.parse_decls.proofs.Productions.{guarded, Either, FaultsEither, either}
use Rattle.parse_decls.proofs.Pieces.{along, closed_list, perhaps}
use Rattle.parse_decls.proofs.NameLists.{names, declared, generics, pragmas}
use Rattle.parse_decls.proofs.TypeLists.{both_few, left_few, right_few}
use Rattle.parse_decls.proofs.TypeForms.{ShortType}
use Rattle.parse_decls.proofs.Shorts.{listed_short, short_listed}
use Rattle.parse_decls.proofs.Definitions.{written, annotation}

-- ---- parameters of one type

abbrev made_param : List Name → ParamMode → Written → Parameters
made_param names mode a = record { names = names; mode = mode; of = a }

-- behind the colon, with the mode that stands at these tokens
abbrev Moded : Origin → List Name → (Written → List Token → List Token → Type 0) → Parameters → List Token → List Token → Type 0
Moded x names R p ts rest = Mapped (made_param names (mode_at x (behind ts))) (λ a ts rest. R a (past_mode x (behind ts)) rest) p ts rest

abbrev WholeParam : Origin → (Written → List Token → List Token → Type 0) → Parameters → List Token → List Token → Type 0
WholeParam x R = Then (Names x Brackets) (λ names. Guarded (colon_at Brackets) (Moded x names R))

abbrev WholeParamFaults : Origin → Why → List Token → Type 0
WholeParamFaults x = FaultsThen (Names x Brackets) (FaultsNames x Brackets)
    (λ names. FaultsGuarded (colon_at Brackets) (λ why ts. FaultsWritten x Brackets why (past_mode x (behind ts))))

pub parameter : (x : Origin) → Parses (λ k ts. run_param k x ts) (IsParameter x) (ShortParameter x) (FaultsParameter x)
parameter x =
    restated (seq (names x Brackets)
    (λ names. guarded (colon_at Brackets)
    (placed (λ at. mapped (made_param names (mode_at x (behind at))) (shifted (λ ts. past_mode x (behind ts)) (written x Brackets))))))
    (λ p ts rest w. done p ts rest w) (λ p ts rest s. from p ts rest s) (λ p ts rest r. reads p ts rest r) fault back
  where
    done : (p : Parameters) (ts rest : List Token) → WholeParam x (ShortType x Brackets most_levels) p ts rest → ShortParameter x p ts rest
    done p ts rest w =
        subst (λ p. ShortParameter x p ts rest) (sym w.3.1.1)
        (record { reads = record { past_names = w.1; names = w.2; colon = w.3.0; mode = refl; of = w.3.1.2.reads }; few = w.3.1.2.few })

    same_mode : (names : List Name) (a : Written) {m mode : ParamMode} → m ≡ mode → made_param names m a ≡ made_param names mode a
    same_mode names a e = ap (λ m. made_param names m a) e

    from : (p : Parameters) (ts rest : List Token) → ShortParameter x p ts rest → WholeParam x (ShortType x Brackets most_levels) p ts rest
    from p ts rest s =
        let r = s.reads in
        let a : ShortType x Brackets most_levels p.of (past_mode x (behind r.past_names)) rest = record { reads = r.of; few = s.few } in
        (p.names, r.past_names, r.names, (r.colon, (p.of, same_mode p.names p.of r.mode, a)))

    reads : (p : Parameters) (ts rest : List Token) → IsParameter x p ts rest → WholeParam x (IsType x Brackets) p ts rest
    reads p ts rest r = (p.names, r.past_names, r.names, (r.colon, (p.of, same_mode p.names p.of r.mode, r.of)))

    fault : (why : Why) (ts : List Token) → WholeParamFaults x why ts → FaultsParameter x why ts
    fault why ts (inl w) = f_param_names w
    fault why ts (inr w) = elim w.3 [ inl v ↦ f_param_colon w.2 v.0 v.1 | inr v ↦ f_param_type w.2 v.0 v.1 ]

    back : (why : Why) (ts : List Token) → FaultsParameter x why ts → WholeParamFaults x why ts
    back why ts (f_param_names w) = inl w
    back why ts (f_param_colon {names = names} {mid = mid} d c w) = inr (names, mid, d, inl (c, w))
    back why ts (f_param_type {names = names} {mid = mid} d c w) = inr (names, mid, d, inr (c, w))

-- ---- parameters in parentheses

abbrev InParentheses : Origin → (Parameters → List Token → List Token → Type 0) → List Parameters → List Token → List Token → Type 0
InParentheses x P = Either (λ ts. closes_at Round (behind ts)) (λ a ts rest. Just [] a (behind (behind ts)) rest)
    (Closed (closes_at Round) (Listed P separator_at behind P))

abbrev ShortParameters : Origin → List Parameters → List Token → List Token → Type 0
ShortParameters x = Short most_levels (highest parameter_type_levels) (IsParameters x)

abbrev ParenthesesFaults : Origin → Why → List Token → Type 0
ParenthesesFaults x = FaultsEither (λ ts. closes_at Round (behind ts)) (λ why ts. ⊥)
    (FaultsClosed (closes_at Round) (Listed (ShortParameter x) separator_at behind (ShortParameter x))
    (FaultsListed (ShortParameter x) (FaultsParameter x) separator_at behind (ShortParameter x) (FaultsParameter x)))

pub parameter_list : (x : Origin) (i : Layout) → Parses (λ k ts. run_params k x i ts) (ParameterList x i) (ShortParameterList x i) (FaultsParameterList x i)
parameter_list x i =
    restated (perhaps (opens_at i Round) []
    (restated (either (λ ts. closes_at Round (behind ts)) (shifted (λ ts. behind (behind ts)) (just []))
    (closed_list separator_at behind (closes_at Round) (λ k some ts. run_more_params k x some ts) (parameter x) (λ some ts. refl)
    (λ k some ts. refl)))
    (λ a ts rest d. done a ts rest d) (λ a ts rest d. from d.reads d.few) (λ a ts rest d. reads d) fault back))
    (λ a ts rest d. short d) (λ a ts rest d. long d.reads d.few) (λ a ts rest d. d) (λ why ts w. w) (λ why ts w. w)
  where
    done : (a : List Parameters) (ts rest : List Token) → InParentheses x (ShortParameter x) a ts rest → ShortParameters x a ts rest
    done a ts rest (inl e) = along (λ a r. ShortParameters x a ts r) e.1.0 e.1.1 (record { reads = h_none e.0; few = omega arith })
    done a ts rest (inr e) =
        let s = listed_short e.1.inside in
        record { reads = h_some e.0 (record { end = e.1.end; inside = s.reads; closed = e.1.closed; next = e.1.next }); few = s.few }

    from : {a : List Parameters} {ts rest : List Token} → IsParameters x a ts rest → highest parameter_type_levels a ≤ most_levels
        → InParentheses x (ShortParameter x) a ts rest
    from (h_none h) p = inl (h, (refl, refl))
    from (h_some h d) p = inr (h, record { end = d.end; inside = short_listed d.inside p; closed = d.closed; next = d.next })

    reads : {a : List Parameters} {ts rest : List Token} → IsParameters x a ts rest → InParentheses x (IsParameter x) a ts rest
    reads (h_none h) = inl (h, (refl, refl))
    reads (h_some h d) = inr (h, d)

    fault : (why : Why) (ts : List Token) → ParenthesesFaults x why ts → FaultsParameters x why ts
    fault why ts (inl w) = absurd w.1
    fault why ts (inr w) = record { some = w.0; at = w.1 }

    back : (why : Why) (ts : List Token) → FaultsParameters x why ts → ParenthesesFaults x why ts
    back why ts w = inr (w.some, w.at)

    short : {a : List Parameters} {ts rest : List Token} → Perhaps (opens_at i Round) [] (ShortParameters x) a ts rest → ShortParameterList x i a ts rest
    short (e_missing h) = record { reads = e_missing h; few = omega arith }
    short (e_present h d) = record { reads = e_present h d.reads; few = d.few }

    long : {a : List Parameters} {ts rest : List Token} → ParameterList x i a ts rest → highest parameter_type_levels a ≤ most_levels
        → Perhaps (opens_at i Round) [] (ShortParameters x) a ts rest
    long (e_missing h) p = e_missing h
    long (e_present h d) p = e_present h (record { reads = d; few = p })

-- ---- heads

abbrev made : Declared → List Name → List Parameters → Option Written → List Pragma → Head
made name generics params gives pragmas = record { name = name; generics = generics; params = params; gives = gives; pragmas = pragmas }

abbrev Whole : Origin → Layout → (List Parameters → List Token → List Token → Type 0) → (Option Written → List Token → List Token → Type 0) → Head → List Token
    → List Token → Type 0
Whole x i P R = Then (IsDeclared x i (proc_name_on i))
    (λ name. Then (Generics x i) (λ generics. Then P (λ params. Then R (λ gives. Mapped (made name generics params gives) (Pragmas x i)))))

abbrev WholeFaults : Origin → Layout → Why → List Token → Type 0
WholeFaults x i = FaultsThen (IsDeclared x i (proc_name_on i)) (FaultsName (proc_name_on i)) (λ name. FaultsThen (Generics x i) (FaultsGenerics x i)
    (λ generics. FaultsThen (ShortParameterList x i) (FaultsParameterList x i)
    (λ params. FaultsThen (ShortAnnotation x i) (FaultsAnnotation x i) (λ gives. FaultsPragmas x i))))

pub head : (x : Origin) (i : Layout) → Parses (λ k ts. run_head k x i ts) (IsHead x i) (ShortHead x i) (FaultsHead x i)
head x i =
    restated (seq (declared x i (proc_name_on i))
    (λ name. seq (generics x i)
    (λ generics. seq (parameter_list x i) (λ params. seq (annotation x i) (λ gives. mapped (made name generics params gives) (pragmas x i))))))
    (λ h ts rest w. done h ts rest w) (λ h ts rest s. from h ts rest s) (λ h ts rest r. reads h ts rest r) fault back
  where
    done : (h : Head) (ts rest : List Token) → Whole x i (ShortParameterList x i) (ShortAnnotation x i) h ts rest → ShortHead x i h ts rest
    done h ts rest w =
        let p = w.3.3.2 in let a = w.3.3.3.2 in
        subst (λ h. ShortHead x i h ts rest) (sym w.3.3.3.3.1)
        (record {
          reads = record {
            past_name = w.1;
            past_generics = w.3.1;
            past_params = w.3.3.1;
            past_type = w.3.3.3.1;
            name = w.2;
            generics = w.3.2;
            params = p.reads;
            gives = a.reads;
            pragmas = w.3.3.3.3.2;
          };
          few = both_few p.few a.few;
        })

    from : (h : Head) (ts rest : List Token) → ShortHead x i h ts rest → Whole x i (ShortParameterList x i) (ShortAnnotation x i) h ts rest
    from h ts rest s =
        let r = s.reads in
        let p : ShortParameterList x i h.params r.past_generics r.past_params =
        record { reads = r.params; few = left_few (if_there type_levels h.gives) s.few } in
        let a : ShortAnnotation x i h.gives r.past_params r.past_type =
        record { reads = r.gives; few = right_few (highest parameter_type_levels h.params) s.few } in (
          h.name,
          r.past_name,
          r.name,
          (h.generics, r.past_generics, r.generics, (h.params, r.past_params, p, (h.gives, r.past_type, a, (h.pragmas, refl, r.pragmas)))),
        )

    reads : (h : Head) (ts rest : List Token) → IsHead x i h ts rest → Whole x i (ParameterList x i) (Annotation x i) h ts rest
    reads h ts rest r = (
      h.name,
      r.past_name,
      r.name,
      (h.generics, r.past_generics, r.generics, (h.params, r.past_params, r.params, (h.gives, r.past_type, r.gives, (h.pragmas, refl, r.pragmas)))),
    )

    fault : (why : Why) (ts : List Token) → WholeFaults x i why ts → FaultsHead x i why ts
    fault why ts (inl w) = f_head_name w
    fault why ts (inr w) = elim w.3 [
      | inl v ↦ f_head_generics w.2 v
      | inr v ↦ elim v.3 [
        | inl u ↦ f_head_params w.2 v.2 u
        | inr u ↦ elim u.3 [ inl z ↦ f_head_type w.2 v.2 u.2 z | inr z ↦ f_head_pragmas w.2 v.2 u.2 z.2 z.3 ]
      ]
    ]

    back : (why : Why) (ts : List Token) → FaultsHead x i why ts → WholeFaults x i why ts
    back why ts (f_head_name w) = inl w
    back why ts (f_head_generics {name = name} {a = a} n w) = inr (name, a, n, inl w)
    back why ts (f_head_params {name = name} {generics = g} {a = a} {b = b} n d w) = inr (name, a, n, inr (g, b, d, inl w))
    back why ts (f_head_type {name = name} {generics = g} {params = p} {a = a} {b = b} {c = c} n d s w) = inr (name, a, n, inr (g, b, d, inr (p, c, s, inl w)))
    back why ts (f_head_pragmas {name = name} {generics = g} {params = p} {gives = t} {a = a} {b = b} {c = c} {d = d} n e s r w) =
        inr (name, a, n, inr (g, b, e, inr (p, c, s, inr (t, d, r, w))))
