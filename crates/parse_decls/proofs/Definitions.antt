-- Definitions, as computations and as relations.
use Rattle.std.proofs.Common.{ℕ, ◌≤◌, List, [], refl, sym, subst, inl, inr, arith}
use Rattle.std.specs.Prelude.{Option, Some, None}
use Rattle.indent_scanner.specs.declared.token.Token.{Token}
use Rattle.nim_tree.specs.declared.name.Declared.{Declared}
use Rattle.nim_tree.specs.declared.name.Pragma.{Pragma}
use Rattle.nim_tree.specs.Lists.{highest, if_there}
use Rattle.nim_tree.specs.Terms.{Term, levels}
use Rattle.nim_tree.specs.Types.{Written, type_levels}
use Rattle.nim_tree.specs.Statements.{Definition, definition_levels}
use Rattle.parse_exprs.specs.declared.layout.Layout.{Layout}
use Rattle.parse_exprs.specs.declared.layout.Layout.TheVariants.{Brackets, Lines}
use Rattle.parse_exprs.specs.Look.{Origin, stays, colon_at}
use Rattle.parse_exprs.specs.Grammar.{IsExpr}
use Rattle.parse_decls.specs.Look.{behind, deeper_at, stands_at, level_at, equals_at}
use Rattle.parse_decls.specs.Outcome.{Why}
use Rattle.parse_decls.specs.Run.{most_levels, run_written, run_typed, run_annotation, run_given, run_def, run_defined, run_defs, run_def_block}
use Rattle.parse_decls.specs.Grammar.{e_none, e_some, Declareds, Pragmas, IsType, IsTyped, Annotation, Given, IsDefined, IsDefinition, Definitions}
use Rattle.parse_decls.specs.Grammar.{IsDefinitionBlock}
use Rattle.parse_decls.specs.Faults.{Short, ShortDefinitionBlock, FaultsPresent, FaultsTerm, ShortTerm, FaultsDeclareds, FaultsPragmas, FaultsWritten}
use Rattle.parse_decls.specs.Faults.{FaultsTyped, f_no_colon, f_type_line, f_type, FaultsAnnotation, FaultsValue, f_value_line, f_value, ShortAnnotation}
use Rattle.parse_decls.specs.Faults.{FaultsDefined, FaultsDefinition, f_def_names, f_def_pragmas, f_def_type, f_def_value, ShortDefined, ShortDefinition}
use Rattle.parse_decls.specs.Faults.{FaultsDefinitions, FaultsDefinitionBlock, f_no_block, f_block}
use Rattle.parse_decls.proofs.Productions.{Parses, restated, placed, Just, just, shifted, Then, FaultsThen, seq, Mapped, mapped, Guarded, FaultsGuarded}
use Rattle.parse_decls.proofs.Productions.{guarded, Either, FaultsEither, either}
use Rattle.parse_decls.proofs.Pieces.{along, each, maybe}
use Rattle.parse_decls.proofs.NameLists.{declareds, pragmas}
use Rattle.parse_decls.proofs.Exprs.{term}
use Rattle.parse_decls.proofs.TypeLists.{both_few, left_few, right_few}
use Rattle.parse_decls.proofs.TypeForms.{ShortType}
use Rattle.parse_decls.proofs.Types.{types}
use Rattle.parse_decls.proofs.Shorts.{each_short, short_each, maybe_short, short_maybe}

-- ---- written types

pub written : (x : Origin) (i : Layout) → Parses (λ k ts. run_written k x i ts) (IsType x i) (ShortType x i most_levels) (FaultsWritten x i)
written x i = placed (λ at. types x most_levels (omega arith) i at)

abbrev pub ShortTyped : Origin → Layout → Written → List Token → List Token → Type 0
ShortTyped x i = Short most_levels type_levels (IsTyped x i)

pub typed : (x : Origin) (i : Layout) → Parses (λ k ts. run_typed k x i ts) (IsTyped x i) (ShortTyped x i) (FaultsTyped x i)
typed x i = restated (guarded (colon_at i) (shifted behind (guarded (stays i) (written x i))))
    (λ a ts rest d. record { reads = record { colon = d.0; stays = d.1.0; of = d.1.1.reads }; few = d.1.1.few })
    (λ a ts rest d. (d.reads.colon, (d.reads.stays, record { reads = d.reads.of; few = d.few })))
    (λ a ts rest d. (d.colon, (d.stays, d.of)))
    fault back
  where
    fault : (why : Why) (ts : List Token) → FaultsGuarded (colon_at i) (λ why ts. FaultsGuarded (stays i) (FaultsWritten x i) why (behind ts)) why ts
        → FaultsTyped x i why ts
    fault why ts (inl w) = f_no_colon w.0 w.1
    fault why ts (inr w) = elim w.1 [ inl v ↦ f_type_line w.0 v.0 v.1 | inr v ↦ f_type w.0 v.0 v.1 ]

    back : (why : Why) (ts : List Token) → FaultsTyped x i why ts
        → FaultsGuarded (colon_at i) (λ why ts. FaultsGuarded (stays i) (FaultsWritten x i) why (behind ts)) why ts
    back why ts (f_no_colon c w) = inl (c, w)
    back why ts (f_type_line c s w) = inr (c, inl (s, w))
    back why ts (f_type c s w) = inr (c, inr (s, w))

pub annotation : (x : Origin) (i : Layout) → Parses (λ k ts. run_annotation k x i ts) (Annotation x i) (ShortAnnotation x i) (FaultsAnnotation x i)
annotation x i = restated (maybe (colon_at i) (typed x i)) (λ a ts rest d. maybe_short d) (λ a ts rest d. short_maybe d.reads d.few) (λ a ts rest d. d)
    (λ why ts w. w) (λ why ts w. w)

-- ---- values

pub record ShortGiven (x : Origin) (i : Layout) (o : Option Term) (ts rest : List Token) : Type 0 where
  pub reads : Given x i o ts rest
  pub few : if_there levels o ≤ most_levels

pub given : (x : Origin) (i : Layout) → Parses (λ k ts. run_given k x i ts) (Given x i) (ShortGiven x i) (FaultsPresent (equals_at i) (FaultsValue x i))
given x i = restated (either (equals_at i) (shifted behind (guarded (stays i) (mapped Some (term x i)))) (just None)) (λ a ts rest e. done a ts rest e)
    (λ a ts rest d. from d.reads d.few) (λ a ts rest d. reads d) fault back
  where
    done : (a : Option Term) (ts rest : List Token) → Either (equals_at i) (λ a ts rest. Guarded (stays i) (Mapped Some (ShortTerm x i)) a (behind ts) rest)
        (Just None) a ts rest → ShortGiven x i a ts rest
    done a ts rest (inl e) = subst (λ o. ShortGiven x i o ts rest) (sym e.1.1.1)
        (record { reads = e_some e.0 (record { stays = e.1.0; value = e.1.1.2.reads }); few = e.1.1.2.few })
    done a ts rest (inr e) = along (λ a r. ShortGiven x i a ts r) e.1.0 e.1.1 (record { reads = e_none e.0; few = omega arith })

    from : {a : Option Term} {ts rest : List Token} → Given x i a ts rest → if_there levels a ≤ most_levels
        → Either (equals_at i) (λ a ts rest. Guarded (stays i) (Mapped Some (ShortTerm x i)) a (behind ts) rest) (Just None) a ts rest
    from (e_none n) h = inr (n, (refl, refl))
    from (e_some {a = a} g d) h = inl (g, (d.stays, (a, refl, record { reads = d.value; few = h })))

    reads : {a : Option Term} {ts rest : List Token} → Given x i a ts rest
        → Either (equals_at i) (λ a ts rest. Guarded (stays i) (Mapped Some (IsExpr x i)) a (behind ts) rest) (Just None) a ts rest
    reads (e_none n) = inr (n, (refl, refl))
    reads (e_some {a = a} g d) = inl (g, (d.stays, (a, refl, d.value)))

    fault : (why : Why) (ts : List Token) → FaultsEither (equals_at i) (λ why ts. FaultsGuarded (stays i) (FaultsTerm x i) why (behind ts)) (λ why ts. ⊥) why ts
        → FaultsPresent (equals_at i) (FaultsValue x i) why ts
    fault why ts (inr w) = absurd w.1
    fault why ts (inl w) = elim w.1 [ inl v ↦ record { begins = w.0; at = f_value_line v.0 v.1 } | inr v ↦ record { begins = w.0; at = f_value v.0 v.1 } ]

    value_back : (why : Why) (ts : List Token) → FaultsValue x i why ts → FaultsGuarded (stays i) (FaultsTerm x i) why (behind ts)
    value_back why ts (f_value_line s w) = inl (s, w)
    value_back why ts (f_value s w) = inr (s, w)

    back : (why : Why) (ts : List Token) → FaultsPresent (equals_at i) (FaultsValue x i) why ts
        → FaultsEither (equals_at i) (λ why ts. FaultsGuarded (stays i) (FaultsTerm x i) why (behind ts)) (λ why ts. ⊥) why ts
    back why ts w = inl (w.begins, value_back why ts w.at)

-- ---- definitions

abbrev made : List Declared → List Pragma → Option Written → Option Term → Definition
made names pragmas annotation value = record { names = names; pragmas = pragmas; annotation = annotation; value = value }

pub defined : (x : Origin) (first i : Layout) → Parses (λ k ts. run_defined k x first i ts) (IsDefined x first i) (ShortDefined x first i)
    (FaultsDefined x first i)
defined x first i =
    restated (seq (declareds x first i) (λ names. seq (pragmas x i) (λ all. seq (annotation x i) (λ a. mapped (made names all a) (given x i)))))
    (λ d ts rest w. done d ts rest w) (λ d ts rest s. from d ts rest s) (λ d ts rest r. reads d ts rest r) fault back
  where
    done : (d : Definition) (ts rest : List Token)
        → Then (Declareds x first i) (λ names. Then (Pragmas x i) (λ all. Then (ShortAnnotation x i) (λ a. Mapped (made names all a) (ShortGiven x i)))) d ts
        rest → ShortDefined x first i d ts rest
    done d ts rest w =
        subst (λ d. ShortDefined x first i d ts rest) (sym w.3.3.3.1)
        (record {
          reads = record {
            past_names = w.1;
            past_pragmas = w.3.1;
            past_type = w.3.3.1;
            names = w.2;
            pragmas = w.3.2;
            annotation = w.3.3.2.reads;
            value = w.3.3.3.2.reads;
          };
          few = both_few w.3.3.2.few w.3.3.3.2.few;
        })

    from : (d : Definition) (ts rest : List Token) → ShortDefined x first i d ts rest
        → Then (Declareds x first i) (λ names. Then (Pragmas x i) (λ all. Then (ShortAnnotation x i) (λ a. Mapped (made names all a) (ShortGiven x i)))) d ts
        rest
    from d ts rest s =
        let r = s.reads in
        let a : ShortAnnotation x i d.annotation r.past_pragmas r.past_type = record { reads = r.annotation; few = left_few (if_there levels d.value) s.few } in
        let v : ShortGiven x i d.value r.past_type rest = record { reads = r.value; few = right_few (if_there type_levels d.annotation) s.few } in
        (d.names, r.past_names, r.names, (d.pragmas, r.past_pragmas, r.pragmas, (d.annotation, r.past_type, a, (d.value, refl, v))))

    reads : (d : Definition) (ts rest : List Token) → IsDefined x first i d ts rest
        → Then (Declareds x first i) (λ names. Then (Pragmas x i) (λ all. Then (Annotation x i) (λ a. Mapped (made names all a) (Given x i)))) d ts rest
    reads d ts rest r =
        (d.names, r.past_names, r.names, (d.pragmas, r.past_pragmas, r.pragmas, (d.annotation, r.past_type, r.annotation, (d.value, refl, r.value))))

    fault : (why : Why) (ts : List Token) → FaultsThen (Declareds x first i) (FaultsDeclareds x first i)
        (λ names. FaultsThen (Pragmas x i) (FaultsPragmas x i)
        (λ all. FaultsThen (ShortAnnotation x i) (FaultsAnnotation x i) (λ a. FaultsPresent (equals_at i) (FaultsValue x i)))) why ts
        → FaultsDefined x first i why ts
    fault why ts (inl w) = f_def_names w
    fault why ts (inr w) = elim w.3 [
      | inl v ↦ f_def_pragmas w.2 v
      | inr v ↦ elim v.3 [ inl u ↦ f_def_type w.2 v.2 u | inr u ↦ f_def_value w.2 v.2 u.2 u.3 ]
    ]

    back : (why : Why) (ts : List Token) → FaultsDefined x first i why ts
        → FaultsThen (Declareds x first i) (FaultsDeclareds x first i)
        (λ names. FaultsThen (Pragmas x i) (FaultsPragmas x i)
        (λ all. FaultsThen (ShortAnnotation x i) (FaultsAnnotation x i) (λ a. FaultsPresent (equals_at i) (FaultsValue x i)))) why ts
    back why ts (f_def_names w) = inl w
    back why ts (f_def_pragmas {names = names} {a = a} d w) = inr (names, a, d, inl w)
    back why ts (f_def_type {names = names} {pragmas = all} {a = a} {b = b} d p w) = inr (names, a, d, inr (all, b, p, inl w))
    back why ts (f_def_value {names = names} {pragmas = all} {annotation = t} {a = a} {b = b} {c = c} d p s w) =
        inr (names, a, d, inr (all, b, p, inr (t, c, s, w)))

pub definition : (x : Origin) (i : Layout) → Parses (λ k ts. run_def k x i ts) (IsDefinition x i) (ShortDefinition x i) (FaultsDefinition x i)
definition x i = defined x i i

abbrev pub ShortDefinitions : Origin → ℕ → List Definition → List Token → List Token → Type 0
ShortDefinitions x n = Short most_levels (highest definition_levels) (Definitions x n)

pub definitions : (x : Origin) (n : ℕ) → Parses (λ k ts. run_defs k x n [] ts) (Definitions x n) (ShortDefinitions x n) (FaultsDefinitions x n)
definitions x n = restated (each (stands_at n) (λ ts. ts) (λ k some ts. run_defs k x n some ts) (defined x Brackets (Lines n)) (λ some ts. refl)
    (λ k some ts. refl))
    (λ a ts rest d. each_short d) (λ a ts rest d. short_each d.reads d.few) (λ a ts rest d. d) (λ why ts w. w) (λ why ts w. w)

pub definition_block : (x : Origin) (n : ℕ) → Parses (λ k ts. run_def_block k x n ts) (IsDefinitionBlock x n) (ShortDefinitionBlock x n)
    (FaultsDefinitionBlock x n)
definition_block x n = restated (guarded (deeper_at n) (placed (λ at. definitions x (level_at at))))
    (λ a ts rest d. record { reads = record { deeper = d.0; lines = d.1.reads }; few = d.1.few })
    (λ a ts rest d. (d.reads.deeper, record { reads = d.reads.lines; few = d.few }))
    (λ a ts rest d. (d.deeper, d.lines))
    fault back
  where
    fault : (why : Why) (ts : List Token) → FaultsGuarded (deeper_at n) (λ why ts. FaultsDefinitions x (level_at ts) why ts) why ts
        → FaultsDefinitionBlock x n why ts
    fault why ts (inl w) = f_no_block w.0 w.1
    fault why ts (inr w) = f_block w.0 w.1

    back : (why : Why) (ts : List Token) → FaultsDefinitionBlock x n why ts
        → FaultsGuarded (deeper_at n) (λ why ts. FaultsDefinitions x (level_at ts) why ts) why ts
    back why ts (f_no_block d w) = inl (d, w)
    back why ts (f_block d w) = inr (d, w)
