-- Names, type parameters and pragmas.
use Rattle.std.proofs.Common.{◌≡◌, List, [], refl, sym, ap, ◌∙◌, inl, inr}
use Rattle.std.specs.Prelude.{◌⊎◌, Option, Some, None}
use Rattle.indent_scanner.specs.declared.token.Token.{Token}
use Rattle.nim_tree.specs.declared.name.Name.{Name}
use Rattle.nim_tree.specs.declared.name.Declared.{Declared}
use Rattle.nim_tree.specs.declared.name.Pragma.{Pragma}
use Rattle.nim_tree.specs.declared.name.PragmaKind.{PragmaKind}
use Rattle.parse_exprs.specs.declared.layout.Layout.{Layout}
use Rattle.parse_exprs.specs.declared.layout.Layout.TheVariants.{Brackets}
use Rattle.parse_exprs.specs.declared.input.Bracket.TheVariants.{Square}
use Rattle.parse_exprs.specs.Look.{Origin, spelling, name_on, closes_at, comma_at, kind_at}
use Rattle.parse_decls.specs.Look.{behind, opens_at, is_pragma_close, pragmas_at, pragma_named}
use Rattle.parse_decls.specs.Outcome.{Why, tired, got, bad, Settles}
use Rattle.parse_decls.specs.Run.{run_named, run_name, run_more_names, run_names, run_shown, run_more_declared, run_declareds, run_generics, run_known}
use Rattle.parse_decls.specs.Run.{run_pragma_name, run_pragma, run_more_pragmas, run_pragmas}
use Rattle.parse_decls.specs.Grammar.{IsName, n_name, Names, IsDeclared, n_declared, Declareds, Generics, IsPragma, n_pragma, Pragmas}
use Rattle.parse_decls.specs.Faults.{FaultsName, FaultsNames, FaultsDeclareds, FaultsGenerics, FaultsPragma, f_no_pragma, f_other_pragma, FaultsPragmas}
use Rattle.parse_decls.proofs.Settling.{got_one, got_bad}
use Rattle.parse_decls.proofs.Productions.{Parses, bad_one}
use Rattle.parse_decls.proofs.Pieces.{along, listed, closed, closed_list, perhaps}

-- ---- one name

name_sound : {x : Origin} {i : Layout} {a : Name} {rest : List Token} (ts : List Token) (o : Option Token) → name_on i ts ≡ o → run_named x o ts ≡ got a rest
    → IsName x i a ts rest
name_sound ts None q e = got_bad (sym e)
name_sound {x} {i} ts (Some tok) q e = let g = got_one e in along (λ a r. IsName x i a ts r) (sym g.0) (sym g.1) (n_name q)

name_stops : (x : Origin) (i : Layout) {why : Why} (ts : List Token) (o : Option Token) → name_on i ts ≡ o → run_named x o ts ≡ bad why
    → (why ≡ tired) ⊎ FaultsName (name_on i) why ts
name_stops x i ts None q e = inr (record { missing = q; at = sym (bad_one e) })
name_stops x i ts (Some tok) q e = got_bad e

name_complete : {x : Origin} {i : Layout} {a : Name} {ts rest : List Token} → IsName x i a ts rest → Settles (λ k. run_name x i ts) (got a rest)
name_complete {x} (n_name {ts = ts} q) = record { steps = 0; same = λ k le. ap (λ o. run_named x o ts) q }

pub name : (x : Origin) (i : Layout) → Parses (λ k ts. run_name x i ts) (IsName x i) (IsName x i) (FaultsName (name_on i))
name x i = record {
  sound = λ k ts a rest e. name_sound ts (name_on i ts) refl e;
  complete = λ a ts rest d. name_complete d;
  deep = λ a ts rest d. inl d;
  stops = λ k ts why e. name_stops x i ts (name_on i ts) refl e;
  faults = λ why ts w. record { steps = 0; same = λ k le. ap (λ o. run_named x o ts) w.missing ∙ ap bad (sym w.at) };
}

-- ---- a name and `*`

declared_sound : {x : Origin} {i : Layout} {on : List Token → Option Token} {a : Declared} {rest : List Token} (ts : List Token) (o : Option Token) → on ts ≡ o
    → run_shown x i o ts ≡ got a rest → IsDeclared x i on a ts rest
declared_sound ts None q e = got_bad (sym e)
declared_sound {x} {i} {on} ts (Some tok) q e = let g = got_one e in along (λ a r. IsDeclared x i on a ts r) (sym g.0) (sym g.1) (n_declared q)

declared_stops : (x : Origin) (i : Layout) {on : List Token → Option Token} {why : Why} (ts : List Token) (o : Option Token) → on ts ≡ o
    → run_shown x i o ts ≡ bad why → (why ≡ tired) ⊎ FaultsName on why ts
declared_stops x i ts None q e = inr (record { missing = q; at = sym (bad_one e) })
declared_stops x i ts (Some tok) q e = got_bad e

declared_complete : {x : Origin} {i : Layout} {on : List Token → Option Token} {a : Declared} {ts rest : List Token} → IsDeclared x i on a ts rest
    → Settles (λ k. run_shown x i (on ts) ts) (got a rest)
declared_complete {x} {i} (n_declared {ts = ts} q) = record { steps = 0; same = λ k le. ap (λ o. run_shown x i o ts) q }

pub declared : (x : Origin) (i : Layout) (on : List Token → Option Token) → Parses (λ k ts. run_shown x i (on ts) ts) (IsDeclared x i on) (IsDeclared x i on)
    (FaultsName on)
declared x i on = record {
  sound = λ k ts a rest e. declared_sound ts (on ts) refl e;
  complete = λ a ts rest d. declared_complete d;
  deep = λ a ts rest d. inl d;
  stops = λ k ts why e. declared_stops x i ts (on ts) refl e;
  faults = λ why ts w. record { steps = 0; same = λ k le. ap (λ o. run_shown x i o ts) w.missing ∙ ap bad (sym w.at) };
}

-- ---- a pragma

known_sound : {x : Origin} {a : Pragma} {rest : List Token} (ts : List Token) (tok : Token) (o : Option PragmaKind) → name_on Brackets ts ≡ Some tok
    → pragma_named (spelling x tok) ≡ o
    → run_known x tok o ts ≡ got a rest → IsPragma x a ts rest
known_sound ts tok None q h e = got_bad (sym e)
known_sound {x} ts tok (Some kind) q h e = let g = got_one e in along (λ a r. IsPragma x a ts r) (sym g.0) (sym g.1) (n_pragma q h)

pragma_sound : {x : Origin} {a : Pragma} {rest : List Token} (ts : List Token) (o : Option Token) → name_on Brackets ts ≡ o
    → run_pragma_name x o ts ≡ got a rest → IsPragma x a ts rest
pragma_sound ts None q e = got_bad (sym e)
pragma_sound {x} ts (Some tok) q e = known_sound ts tok (pragma_named (spelling x tok)) q refl e

known_stops : {x : Origin} {why : Why} (ts : List Token) (tok : Token) (o : Option PragmaKind) → name_on Brackets ts ≡ Some tok
    → pragma_named (spelling x tok) ≡ o
    → run_known x tok o ts ≡ bad why → (why ≡ tired) ⊎ FaultsPragma x why ts
known_stops ts tok None q h e = inr (f_other_pragma q h (sym (bad_one e)))
known_stops ts tok (Some kind) q h e = got_bad e

pragma_stops : {x : Origin} {why : Why} (ts : List Token) (o : Option Token) → name_on Brackets ts ≡ o → run_pragma_name x o ts ≡ bad why
    → (why ≡ tired) ⊎ FaultsPragma x why ts
pragma_stops ts None q e = inr (f_no_pragma q (sym (bad_one e)))
pragma_stops {x} ts (Some tok) q e = known_stops ts tok (pragma_named (spelling x tok)) q refl e

pragma_complete : {x : Origin} {a : Pragma} {ts rest : List Token} → IsPragma x a ts rest → Settles (λ k. run_pragma x ts) (got a rest)
pragma_complete {x} (n_pragma {tok = tok} {ts = ts} q h) =
    record { steps = 0; same = λ k le. ap (λ o. run_pragma_name x o ts) q ∙ ap (λ o. run_known x tok o ts) h }

pragma_faults : {x : Origin} {why : Why} {ts : List Token} → FaultsPragma x why ts → Settles (λ k. run_pragma x ts) (bad why)
pragma_faults {x} (f_no_pragma {ts = ts} q y) = record { steps = 0; same = λ k le. ap (λ o. run_pragma_name x o ts) q ∙ ap bad (sym y) }
pragma_faults {x} (f_other_pragma {tok = tok} {ts = ts} q h y) =
    record { steps = 0; same = λ k le. ap (λ o. run_pragma_name x o ts) q ∙ ap (λ o. run_known x tok o ts) h ∙ ap bad (sym y) }

pub pragma : (x : Origin) → Parses (λ k ts. run_pragma x ts) (IsPragma x) (IsPragma x) (FaultsPragma x)
pragma x = record {
  sound = λ k ts a rest e. pragma_sound ts (name_on Brackets ts) refl e;
  complete = λ a ts rest d. pragma_complete d;
  deep = λ a ts rest d. inl d;
  stops = λ k ts why e. pragma_stops ts (name_on Brackets ts) refl e;
  faults = λ why ts w. pragma_faults w;
}

-- ---- lists of them

pub names : (x : Origin) (i : Layout) → Parses (λ k ts. run_names k x i ts) (Names x i) (Names x i) (FaultsNames x i)
names x i = listed (comma_at i) behind (λ k some ts. run_more_names k x i some ts) (name x i) (name x Brackets) (λ some ts. refl) (λ k some ts. refl)

pub declareds : (x : Origin) (first i : Layout) → Parses (λ k ts. run_declareds k x first i ts) (Declareds x first i) (Declareds x first i)
    (FaultsDeclareds x first i)
declareds x first i = listed (comma_at i) behind (λ k some ts. run_more_declared k x i some ts) (declared x i (name_on first)) (declared x i (name_on Brackets))
    (λ some ts. refl) (λ k some ts. refl)

pub generics : (x : Origin) (i : Layout) → Parses (λ k ts. run_generics k x i ts) (Generics x i) (Generics x i) (FaultsGenerics x i)
generics x i = perhaps (opens_at i Square) [] (closed (closes_at Square) (names x Brackets))

pub pragmas : (x : Origin) (i : Layout) → Parses (λ k ts. run_pragmas k x i ts) (Pragmas x i) (Pragmas x i) (FaultsPragmas x i)
pragmas x i = perhaps (pragmas_at i) [] (closed_list (comma_at Brackets) behind (kind_at is_pragma_close) (λ k some ts. run_more_pragmas k x some ts) (pragma x)
    (λ some ts. refl) (λ k some ts. refl))
