-- Written types, as computations and as relations.
use Rattle.std.proofs.Common.{◌≡◌, ℕ, zero, suc, ◌≤◌, List, ◌∷◌, Bool, true, false, refl, sym, ap, subst, ◌∙◌, inl, inr, arith}
use Rattle.std.specs.Prelude.{◌⊎◌, if◌then◌else◌, Option, Some, None}
use Rattle.indent_scanner.specs.declared.token.Token.{Token}
use Rattle.nim_tree.specs.declared.name.Declared.{Declared}
use Rattle.nim_tree.specs.Terms.{Term}
use Rattle.nim_tree.specs.Types.{Written, named, array, ref_to, tuple_of, no_arguments, argument, no_fields, fields, and_argument, type_levels}
use Rattle.parse_exprs.specs.declared.layout.Layout.{Layout}
use Rattle.parse_exprs.specs.declared.layout.Layout.TheVariants.{Brackets}
use Rattle.parse_exprs.specs.declared.input.Bracket.TheVariants.{Square}
use Rattle.parse_exprs.specs.Look.{Origin, spelling, place_at, closes_at, stays, colon_at, comma_at}
use Rattle.parse_decls.specs.declared.look.TypeLead.{TypeLead}
use Rattle.parse_decls.specs.declared.look.TypeLead.TheVariants as L
use Rattle.parse_decls.specs.Look.{behind, opens_at, type_lead, type_at}
use Rattle.parse_decls.specs.Outcome.{Why, too_deep, stuck_at, tired, Out, got, bad, Settles}
use Rattle.parse_decls.specs.Run.{most_levels, Typed, run_type, run_sort, run_inside, run_arguments, run_part, run_parts}
use Rattle.parse_decls.specs.Grammar.{IsType, IsField, t_field, Declareds}
use Rattle.parse_decls.specs.Faults.{FaultsDeclareds, FaultsType, f_no_level, f_no_type, FaultsField, f_field_names, f_field_colon, f_field_type}
use Rattle.parse_decls.proofs.Settling.{got_bad, settles_suc}
use Rattle.parse_decls.proofs.Productions.{IsDeep, Parses, bad_one, restated, stepped, failing, headed, placed, just, shifted, Then, FaultsThen, seq, Mapped}
use Rattle.parse_decls.proofs.Productions.{mapped, Guarded, FaultsGuarded, guarded, either}
use Rattle.parse_decls.proofs.Pieces.{gathers}
use Rattle.parse_decls.proofs.NameLists.{declareds}
use Rattle.parse_decls.proofs.Lengths.{length}
use Rattle.parse_decls.proofs.TypeLists.{add_field, Part, ShortPart}
use Rattle.parse_decls.proofs.TypeForms.{type_begins, some_type_level, Inside, FaultsInside, SortReads, ShortSort, SortFaults, ShortType, sort_reads}
use Rattle.parse_decls.proofs.TypeForms.{sort_short, short_sort}
use Rattle.parse_decls.proofs.TypeFaults.{type_fault, fault_type}

-- types of at most n levels
abbrev pub TypesParse : Origin → ℕ → Type 0
TypesParse x n = (i : Layout) (whole : List Token) → Parses (λ k ts. run_type k x i whole n ts) (IsType x i) (ShortType x i n)
    (λ why ts. FaultsType x why i whole n ts)

-- ---- where no level is left

if_bad : {C : Type 0} (b : Bool) (v w : Why) → (why : Why) → ◌≡◌ {A = Out Written} (bad (if b then v else w)) (bad why) → (b ≡ true → why ≡ v → C)
    → (b ≡ false → why ≡ w → C) → C
if_bad true v w why e f g = f refl (sym (bad_one e))
if_bad false v w why e f g = g refl (sym (bad_one e))

no_level : (x : Origin) → TypesParse x zero
no_level x i whole = record { sound = sound; complete = λ a ts rest d. some_type_level a d.few; deep = deep; stops = stops; faults = λ why ts w. faults w }
  where
    sound : (k : ℕ) (ts : List Token) (a : Written) (rest : List Token) → run_type k x i whole zero ts ≡ got a rest → ShortType x i zero a ts rest
    sound zero ts a rest e = got_bad (sym e)
    sound (suc k) ts a rest e = got_bad (sym e)

    settles : {w : Why} (ts : List Token) (b : Bool) → type_at ts ≡ b → w ≡ (if b then too_deep whole else stuck_at ts)
        → Settles (λ k. run_type k x i whole zero ts) (bad w)
    settles ts b q e = settles_suc {f = λ k. bad (if type_at ts then too_deep whole else stuck_at ts)}
        (record { steps = 0; same = λ k le. ap (λ b. bad (if b then too_deep whole else stuck_at ts)) q ∙ ap bad (sym e) }) (λ k. refl)

    deep : (a : Written) (ts rest : List Token) → IsType x i a ts rest → ShortType x i zero a ts rest ⊎ IsDeep (λ k. run_type k x i whole zero ts)
    deep a ts rest d = inr (record { at = whole; runs = settles ts true (type_begins d) refl })

    stops : (k : ℕ) (ts : List Token) (why : Why) → run_type k x i whole zero ts ≡ bad why → (why ≡ tired) ⊎ FaultsType x why i whole zero ts
    stops zero ts why e = inl (sym (bad_one e))
    stops (suc k) ts why e = inr (if_bad (type_at ts) (too_deep whole) (stuck_at ts) why e (λ t w. f_no_level t w) (λ t w. f_no_type t w))

    faults : {why : Why} {ts : List Token} → FaultsType x why i whole zero ts → Settles (λ k. run_type k x i whole zero ts) (bad why)
    faults (f_no_level {ts = ts} t w) = settles ts true t w
    faults (f_no_type {ts = ts} t w) = settles ts false t w

-- ---- a field of a tuple

pub part : (x : Origin) (n : ℕ) → TypesParse x n → (whole : List Token) → Parses (λ k ts. run_part k x whole n ts) (Part x) (ShortPart x n)
    (λ why ts. FaultsField x why whole n ts)
part x n p whole =
    restated (stepped
    (seq (declareds x Brackets Brackets)
    (λ names. guarded (colon_at Brackets)
    (mapped (λ a. let one : Typed = record { names = names; of = a } in one) (shifted behind (p Brackets whole))))) (λ ts. refl) (λ k ts. refl))
    (λ one ts rest d. done one ts rest d) (λ one ts rest d. from d.reads d.few) (λ one ts rest d. reads d) fault back
  where
    done : (one : Typed) (ts rest : List Token) → Then (Declareds x Brackets Brackets)
        (λ names. Guarded (colon_at Brackets)
        (Mapped (λ a. let one : Typed = record { names = names; of = a } in one) (λ a ts rest. ShortType x Brackets n a (behind ts) rest))) one ts rest
        → ShortPart x n one ts rest
    done one ts rest d = subst (λ one. ShortPart x n one ts rest) (sym d.3.1.1) (record { reads = t_field d.2 d.3.0 d.3.1.2.reads; few = d.3.1.2.few })

    from : {names : List Declared} {a : Written} {ts rest : List Token} → IsField x names a ts rest → type_levels a ≤ n
        → let one : Typed = record { names = names; of = a } in Then (Declareds x Brackets Brackets)
        (λ names. Guarded (colon_at Brackets)
        (Mapped (λ a. let one : Typed = record { names = names; of = a } in one) (λ a ts rest. ShortType x Brackets n a (behind ts) rest))) one ts rest
    from (t_field {names = names} {a = a} {mid = mid} d c t) h = (names, mid, d, (c, (a, refl, record { reads = t; few = h })))

    reads : {names : List Declared} {a : Written} {ts rest : List Token} → IsField x names a ts rest
        → let one : Typed = record { names = names; of = a } in Then (Declareds x Brackets Brackets)
        (λ names. Guarded (colon_at Brackets)
        (Mapped (λ a. let one : Typed = record { names = names; of = a } in one) (λ a ts rest. IsType x Brackets a (behind ts) rest))) one ts rest
    reads (t_field {names = names} {a = a} {mid = mid} d c t) = (names, mid, d, (c, (a, refl, t)))

    fault : (why : Why) (ts : List Token) → FaultsThen (Declareds x Brackets Brackets) (FaultsDeclareds x Brackets Brackets)
        (λ names. FaultsGuarded (colon_at Brackets) (λ why ts. FaultsType x why Brackets whole n (behind ts))) why ts → FaultsField x why whole n ts
    fault why ts (inl w) = f_field_names w
    fault why ts (inr w) = elim w.3 [ inl v ↦ f_field_colon w.2 v.0 v.1 | inr v ↦ f_field_type w.2 v.0 v.1 ]

    back : (why : Why) (ts : List Token) → FaultsField x why whole n ts → FaultsThen (Declareds x Brackets Brackets) (FaultsDeclareds x Brackets Brackets)
        (λ names. FaultsGuarded (colon_at Brackets) (λ why ts. FaultsType x why Brackets whole n (behind ts))) why ts
    back why ts (f_field_names w) = inl w
    back why ts (f_field_colon {names = names} {mid = mid} d c w) = inr (names, mid, d, inl (c, w))
    back why ts (f_field_type {names = names} {mid = mid} d c w) = inr (names, mid, d, inr (c, w))

-- ---- behind a token that begins a type

inside : (x : Origin) (n : ℕ) → TypesParse x n → (whole : List Token) (tok : Token) (o : Option Term)
    → Parses (λ k ts. run_inside k o x whole n tok ts) (Inside x tok (IsType x) o) (Inside x tok (λ i. ShortType x i n) o)
    (FaultsInside (λ i. ShortType x i n) (λ i why ts. FaultsType x why i whole n ts) o)
inside x n p whole tok None =
    stepped (seq (p Brackets whole)
    (λ a. seq (gathers (comma_at Brackets) behind and_argument (λ k some ts. run_arguments k x whole n some ts) (p Brackets whole) (λ some ts. refl)
    (λ k some ts. refl) (argument a no_arguments))
    (λ all. guarded (closes_at Square) (shifted behind (just (named (place_at x tok) (spelling x tok) all)))))) (λ ts. refl) (λ k ts. refl)
inside x n p whole tok (Some length) =
    stepped (seq (p Brackets whole) (λ a. guarded (closes_at Square) (shifted behind (just (array (place_at x tok) length a))))) (λ ts. refl) (λ k ts. refl)

sort : (x : Origin) (n : ℕ) → n ≤ most_levels → TypesParse x n → (i : Layout) (whole : List Token) (tok : Token) (l : TypeLead)
    → Parses (λ k ts. run_sort k l x i whole n tok ts) (SortReads x i tok l) (ShortSort x i n tok l) (SortFaults x i whole n tok l)
sort x n le p i whole tok L.Other = stepped (failing (λ ts. stuck_at (tok ∷ ts))) (λ ts. refl) (λ k ts. refl)
sort x n le p i whole tok L.Name =
    stepped (either (opens_at i Square) (shifted behind (inside x n p whole tok None)) (just (named (place_at x tok) (spelling x tok) no_arguments)))
    (λ ts. refl) (λ k ts. refl)
sort x n le p i whole tok L.Array = stepped (seq (shifted behind (length x whole n le)) (λ o. inside x n p whole tok o)) (λ ts. refl) (λ k ts. refl)
sort x n le p i whole tok L.Ref = stepped (guarded (stays i) (mapped (ref_to (place_at x tok)) (p i whole))) (λ ts. refl) (λ k ts. refl)
sort x n le p i whole tok L.Tuple =
    stepped (guarded (opens_at i Square)
    (either (λ ts. closes_at Square (behind ts)) (shifted (λ ts. behind (behind ts)) (just (tuple_of (place_at x tok) no_fields)))
    (seq (shifted behind (part x n p whole))
    (λ one. seq (gathers (comma_at Brackets) behind add_field (λ k some ts. run_parts k x whole n some ts) (part x n p whole) (λ some ts. refl)
    (λ k some ts. refl) (fields one.names one.of no_fields))
    (λ all. guarded (closes_at Square) (shifted behind (just (tuple_of (place_at x tok) all)))))))) (λ ts. refl) (λ k ts. refl)

pub types : (x : Origin) (n : ℕ) → n ≤ most_levels → TypesParse x n
types x zero le i whole = no_level x i whole
types x (suc n) le i whole =
    let few : n ≤ most_levels = omega (arith, le) in
    restated (stepped
    (headed (λ k ts. run_type (suc k) x i whole (suc n) ts) (λ tok. placed (λ at. sort x n few (types x n few) i whole tok (type_lead x i tok at)))
    (λ k. refl) (λ k tok ts. refl)) (λ ts. refl) (λ k ts. refl))
    short_sort (λ b ts rest s. sort_short s) (λ b ts rest d. sort_reads d) type_fault (λ why ts w. fault_type w)
