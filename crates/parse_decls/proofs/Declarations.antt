-- Declarations of types, as computations and as relations.
use Rattle.std.proofs.Common.{◌≡◌, ℕ, ◌≤◌, List, [], ◌∷◌, ◌++◌, Bool, true, false, refl, sym, ap, subst, ◌∙◌, inl, inr, arith}
use Rattle.std.specs.Prelude.{◌||◌, if◌then◌else◌}
use Rattle.indent_scanner.specs.declared.token.Token.{Token}
use Rattle.nim_tree.specs.declared.name.Name.{Name}
use Rattle.nim_tree.specs.declared.name.Declared.{Declared}
use Rattle.nim_tree.specs.Lists.{highest}
use Rattle.nim_tree.specs.Types.{Written, Fields, no_fields, fields, Body, object, enum, distinct, alias, Declaration, type_levels, field_levels, body_levels}
use Rattle.nim_tree.specs.Types.{declaration_levels}
use Rattle.parse_exprs.specs.declared.layout.Layout.{Layout}
use Rattle.parse_exprs.specs.declared.layout.Layout.TheVariants.{Brackets, Lines}
use Rattle.parse_exprs.specs.Look.{Origin, place_at, name_on, stays, comma_at}
use Rattle.parse_decls.specs.declared.look.BodyLead.{BodyLead}
use Rattle.parse_decls.specs.declared.look.BodyLead.TheVariants as B
use Rattle.parse_decls.specs.Look.{behind, deeper_at, stands_at, level_at, equals_at, of_at, body_lead, member_at, more_members_at, past_comma}
use Rattle.parse_decls.specs.Outcome.{Why, got, then_do}
use Rattle.parse_decls.specs.Run.{most_levels, Typed, run_name, run_parent, run_field, run_fields, run_field_block, run_more_members, run_members, run_body_by}
use Rattle.parse_decls.specs.Run.{run_body, run_declaration, run_declarations, run_types}
use Rattle.parse_decls.specs.Grammar.{Each, e_over, e_next, Listed, Names, Declareds, IsName, IsDeclared, Generics, IsType, IsTyped, Parent, IsFieldLines}
use Rattle.parse_decls.specs.Grammar.{o_over, o_field, FieldBlock, IsMembers, o_line, o_block, Perhaps, e_missing, e_present, IsBody, o_object, o_ref_object}
use Rattle.parse_decls.specs.Grammar.{o_enum, o_distinct, o_alias, IsDeclaration, IsDeclarations, o_declarations, o_declaration}
use Rattle.parse_decls.specs.Faults.{Short, ShortDeclarations, FaultsEach, f_here, f_later, FaultsListed, FaultsName, FaultsNames, FaultsDeclareds}
use Rattle.parse_decls.specs.Faults.{FaultsGenerics, FaultsWritten, FaultsTyped, FaultsParent, FaultsFieldLines, f_line_names, f_line_type, f_later_line}
use Rattle.parse_decls.specs.Faults.{FaultsFieldBlock, FaultsMembers, f_members_line, f_members_block, FaultsBody, f_no_body, f_parent, f_object, f_ref_parent}
use Rattle.parse_decls.specs.Faults.{f_ref_object, f_enum, f_base_line, f_base, f_alias, FaultsDeclaration, f_type_name, f_parameters, f_no_equals, f_body_line}
use Rattle.parse_decls.specs.Faults.{f_body, ShortDeclaration, FaultsDeclarations, f_declarations, f_declaration}
use Rattle.parse_decls.proofs.Productions.{Parses, restated, headed, Headed, FaultsHeaded, placed, shifted, Then, FaultsThen, seq, Mapped, mapped, Guarded}
use Rattle.parse_decls.proofs.Productions.{FaultsGuarded, guarded, Either, FaultsEither, either}
use Rattle.parse_decls.proofs.Pieces.{each, gathers, listed, maybe, perhaps}
use Rattle.parse_decls.proofs.NameLists.{name, names, declared, declareds, generics}
use Rattle.parse_decls.proofs.TypeLists.{both_few, left_few, right_few, fields_from, add_field, gathered_fields}
use Rattle.parse_decls.proofs.TypeForms.{ShortType}
use Rattle.parse_decls.proofs.Shorts.{each_short, short_each}
use Rattle.parse_decls.proofs.Definitions.{written, typed, ShortTyped}

-- ---- fields of an object

-- one line of fields
abbrev Line : Origin → ℕ → (Written → List Token → List Token → Type 0) → Typed → List Token → List Token → Type 0
Line x n R one ts rest = (mid : List Token) × Declareds x Brackets (Lines n) one.names ts mid × R one.of mid rest

abbrev a_line : List Declared → Written → Typed
a_line names a = record { names = names; of = a }

line_is : {x : Origin} {n : ℕ} (R : Written → List Token → List Token → Type 0) (one : Typed) (ts rest : List Token) → Then (Declareds x Brackets (Lines n))
    (λ names. Mapped (a_line names) R) one ts rest → Line x n R one ts rest
line_is {x} {n} R one ts rest d = subst (λ one. Line x n R one ts rest) (sym d.3.1) (d.1, d.2, d.3.2)

line_from : {x : Origin} {n : ℕ} (R : Written → List Token → List Token → Type 0) (one : Typed) (ts rest : List Token) → Line x n R one ts rest
    → Then (Declareds x Brackets (Lines n)) (λ names. Mapped (a_line names) R) one ts rest
line_from R one ts rest d = (one.names, d.0, d.1, (one.of, refl, d.2))

line : (x : Origin) (n : ℕ) → Parses (λ k ts. run_field k x n ts)
    (Line x n (IsTyped x (Lines n))) (Line x n (ShortTyped x (Lines n))) (FaultsThen (Declareds x Brackets (Lines n)) (FaultsDeclareds x Brackets (Lines n))
    (λ names. FaultsTyped x (Lines n)))
line x n = restated (seq (declareds x Brackets (Lines n)) (λ names. mapped (a_line names) (typed x (Lines n)))) (line_is (ShortTyped x (Lines n)))
    (line_from (ShortTyped x (Lines n))) (line_from (IsTyped x (Lines n))) (λ why ts w. w) (λ why ts w. w)

lines_from : {x : Origin} {n : ℕ} {all : Fields} {ts rest : List Token} → IsFieldLines x n all ts rest → (items : List Typed) × (all ≡ fields_from items)
    × Each (stands_at n) (λ ts. ts) (Line x n (IsTyped x (Lines n))) items ts rest
lines_from (o_over h) = ([], refl, e_over h)
lines_from (o_field {names = names} {a = a} {mid = mid} g d s t) =
    let r = lines_from t in
    let one : Typed = a_line names a in
    (one ∷ r.0, ap (fields names a) r.1, e_next {a = one} g (mid, d, s) r.2)

lines_short : {x : Origin} {n : ℕ} {all : Fields} {ts rest : List Token} → IsFieldLines x n all ts rest → field_levels all ≤ most_levels
    → (items : List Typed) × (all ≡ fields_from items) × Each (stands_at n) (λ ts. ts) (Line x n (ShortTyped x (Lines n))) items ts rest
lines_short (o_over h) p = ([], refl, e_over h)
lines_short {x} {n} (o_field {names = names} {a = a} {all = all} {mid = mid} {end = end} g d s t) p =
    let r = lines_short t (right_few (type_levels a) p) in
    let one : Typed = a_line names a in
    let f : ShortTyped x (Lines n) a mid end = record { reads = s; few = left_few (field_levels all) p } in
    (one ∷ r.0, ap (fields names a) r.1, e_next {a = one} g (mid, d, f) r.2)

abbrev pub ShortFieldLines : Origin → ℕ → Fields → List Token → List Token → Type 0
ShortFieldLines x n = Short most_levels field_levels (IsFieldLines x n)

short_lines : {x : Origin} {n : ℕ} {items : List Typed} {ts rest : List Token} → Each (stands_at n) (λ ts. ts) (Line x n (ShortTyped x (Lines n))) items ts rest
    → ShortFieldLines x n (fields_from items) ts rest
short_lines (e_over h) = record { reads = o_over h; few = omega arith }
short_lines (e_next g d t) = let r = short_lines t in record { reads = o_field g d.1 d.2.reads r.reads; few = both_few d.2.few r.few }

line_fault : {x : Origin} {n : ℕ} {why : Why} {ts : List Token} → FaultsEach (stands_at n) (λ ts. ts) (Line x n (ShortTyped x (Lines n)))
    (FaultsThen (Declareds x Brackets (Lines n)) (FaultsDeclareds x Brackets (Lines n)) (λ names. FaultsTyped x (Lines n))) why ts
    → FaultsFieldLines x n why ts
line_fault (f_here g w) = elim w [ inl v ↦ f_line_names g v | inr v ↦ f_line_type g v.2 v.3 ]
line_fault (f_later g d w) = f_later_line g d.1 d.2 (line_fault w)

fault_line : {x : Origin} {n : ℕ} {why : Why} {ts : List Token} → FaultsFieldLines x n why ts
    → FaultsEach (stands_at n) (λ ts. ts) (Line x n (ShortTyped x (Lines n)))
    (FaultsThen (Declareds x Brackets (Lines n)) (FaultsDeclareds x Brackets (Lines n)) (λ names. FaultsTyped x (Lines n))) why ts
fault_line (f_line_names g w) = f_here g (inl w)
fault_line (f_line_type {names = names} {mid = mid} g d w) = f_here g (inr (names, mid, d, w))
fault_line (f_later_line {names = names} {a = a} {mid = mid} g d s w) = let one : Typed = a_line names a in f_later {a = one} g (mid, d, s) (fault_line w)

field_lines : (x : Origin) (n : ℕ) → Parses (λ k ts. run_fields k x n no_fields ts) (IsFieldLines x n) (ShortFieldLines x n) (FaultsFieldLines x n)
field_lines x n =
    restated (gathers (stands_at n) (λ ts. ts) add_field (λ k some ts. run_fields k x n some ts) (line x n) (λ some ts. refl)
    (λ k some ts. refl) no_fields)
    (λ a ts rest d. subst (λ a. ShortFieldLines x n a ts rest) (sym (d.1 ∙ gathered_fields d.0)) (short_lines d.2))
    (λ a ts rest d. let r = lines_short d.reads d.few in (r.0, r.1 ∙ sym (gathered_fields r.0), r.2))
    (λ a ts rest d. let r = lines_from d in (r.0, r.1 ∙ sym (gathered_fields r.0), r.2))
    (λ why ts w. line_fault w) (λ why ts w. fault_line w)

abbrev pub ShortFieldBlock : Origin → ℕ → Fields → List Token → List Token → Type 0
ShortFieldBlock x n = Short most_levels field_levels (FieldBlock x n)

pub field_block : (x : Origin) (n : ℕ) → Parses (λ k ts. run_field_block k x n ts) (FieldBlock x n) (ShortFieldBlock x n) (FaultsFieldBlock x n)
field_block x n = restated (perhaps (deeper_at n) no_fields (placed (λ at. field_lines x (level_at at)))) (λ a ts rest d. done d)
    (λ a ts rest d. from d.reads d.few) (λ a ts rest d. d) (λ why ts w. w) (λ why ts w. w)
  where
    done : {a : Fields} {ts rest : List Token} → Perhaps (deeper_at n) no_fields (λ a ts rest. ShortFieldLines x (level_at ts) a ts rest) a ts rest
        → ShortFieldBlock x n a ts rest
    done (e_missing h) = record { reads = e_missing h; few = omega arith }
    done (e_present h d) = record { reads = e_present h d.reads; few = d.few }

    from : {a : Fields} {ts rest : List Token} → FieldBlock x n a ts rest → field_levels a ≤ most_levels
        → Perhaps (deeper_at n) no_fields (λ a ts rest. ShortFieldLines x (level_at ts) a ts rest) a ts rest
    from (e_missing h) p = e_missing h
    from (e_present h d) p = e_present h (record { reads = d; few = p })

-- ---- members

pub members_step : {X : Type 0} (b c : Bool) (ts : List Token) (go : List Token → X) (stop : X) → (if b then go (behind ts) else (if c then go ts else stop))
    ≡ (if b || c then go (if b then behind ts else ts) else stop)
members_step true c ts go stop = refl
members_step false true ts go stop = refl
members_step false false ts go stop = refl

pub members : (x : Origin) (n : ℕ) → Parses (λ k ts. run_members k x n ts) (IsMembers x n) (IsMembers x n) (FaultsMembers x n)
members x n =
    restated (either (deeper_at n)
    (placed (λ at. listed (more_members_at (level_at at)) (past_comma (Lines (level_at at))) (λ k some ts. run_more_members k x (level_at at) some ts)
    (name x Brackets) (name x Brackets) (λ some ts. refl)
    (λ k some ts. members_step (comma_at (Lines (level_at at)) ts) (member_at (level_at at) ts) ts
    (λ ts. then_do (run_name x Brackets ts) (λ name mid. run_more_members k x (level_at at) (some ++ name ∷ []) mid)) (got some ts))))
    (names x (Lines n)))
    (λ a ts rest d. done d) (λ a ts rest d. from d) (λ a ts rest d. from d) fault back
  where
    done : {a : List Name} {ts rest : List Token}
        → Either (deeper_at n) (λ a ts rest. Listed (IsName x Brackets) (more_members_at (level_at ts)) (past_comma (Lines (level_at ts))) (IsName x Brackets) a
        ts rest) (Names x (Lines n)) a ts rest → IsMembers x n a ts rest
    done (inl e) = o_block e.0 e.1
    done (inr e) = o_line e.0 e.1

    from : {a : List Name} {ts rest : List Token} → IsMembers x n a ts rest
        → Either (deeper_at n) (λ a ts rest. Listed (IsName x Brackets) (more_members_at (level_at ts)) (past_comma (Lines (level_at ts))) (IsName x Brackets) a
        ts rest) (Names x (Lines n)) a ts rest
    from (o_block h d) = inl (h, d)
    from (o_line h d) = inr (h, d)

    fault : (why : Why) (ts : List Token)
        → FaultsEither (deeper_at n) (λ why ts. FaultsListed (IsName x Brackets) (FaultsName (name_on Brackets)) (more_members_at (level_at ts))
        (past_comma (Lines (level_at ts))) (IsName x Brackets) (FaultsName (name_on Brackets)) why ts)
        (FaultsNames x (Lines n)) why ts → FaultsMembers x n why ts
    fault why ts (inl w) = f_members_block w.0 w.1
    fault why ts (inr w) = f_members_line w.0 w.1

    back : (why : Why) (ts : List Token) → FaultsMembers x n why ts
        → FaultsEither (deeper_at n) (λ why ts. FaultsListed (IsName x Brackets) (FaultsName (name_on Brackets)) (more_members_at (level_at ts))
        (past_comma (Lines (level_at ts))) (IsName x Brackets) (FaultsName (name_on Brackets)) why ts)
        (FaultsNames x (Lines n)) why ts
    back why ts (f_members_block h w) = inl (h, w)
    back why ts (f_members_line h w) = inr (h, w)

-- ---- bodies

pub parent : (x : Origin) (i : Layout) → Parses (λ k ts. run_parent x i ts) (Parent x i) (Parent x i) (FaultsParent x i)
parent x i = maybe (of_at i) (shifted behind (name x i))

-- behind the token tok, which begins such a body, where T and F are what types and blocks of fields in it are
abbrev pub Form : Origin → ℕ → Token → (Written → List Token → List Token → Type 0) → (Fields → List Token → List Token → Type 0) → BodyLead → Body → List Token
    → List Token → Type 0
Form x n tok T F B.Object = Then (Parent x (Lines n)) (λ parent. Mapped (object (place_at x tok) false parent) F)
Form x n tok T F B.RefObject = λ b ts rest. Then (Parent x (Lines n)) (λ parent. Mapped (object (place_at x tok) true parent) F) b (behind ts) rest
Form x n tok T F B.Enum = Mapped (enum (place_at x tok)) (IsMembers x n)
Form x n tok T F B.Distinct = Guarded (stays (Lines n)) (Mapped (distinct (place_at x tok)) T)
Form x n tok T F B.Alias = λ b ts rest. Mapped alias T b (tok ∷ ts) rest

abbrev pub FormFaults : Origin → ℕ → Token → BodyLead → Why → List Token → Type 0
FormFaults x n tok B.Object = FaultsThen (Parent x (Lines n)) (FaultsParent x (Lines n)) (λ parent. FaultsFieldBlock x n)
FormFaults x n tok B.RefObject = λ why ts. FaultsThen (Parent x (Lines n)) (FaultsParent x (Lines n)) (λ parent. FaultsFieldBlock x n) why (behind ts)
FormFaults x n tok B.Enum = FaultsMembers x n
FormFaults x n tok B.Distinct = FaultsGuarded (stays (Lines n)) (FaultsWritten x (Lines n))
FormFaults x n tok B.Alias = λ why ts. FaultsWritten x (Lines n) why (tok ∷ ts)

abbrev pub ShortForm : Origin → ℕ → Token → BodyLead → Body → List Token → List Token → Type 0
ShortForm x n tok = Form x n tok (ShortType x (Lines n) most_levels) (ShortFieldBlock x n)

form : (x : Origin) (n : ℕ) (tok : Token) (l : BodyLead)
    → Parses (λ k ts. run_body_by k l x n (place_at x tok) (tok ∷ ts)) (Form x n tok (IsType x (Lines n)) (FieldBlock x n) l) (ShortForm x n tok l)
    (FormFaults x n tok l)
form x n tok B.Object = seq (parent x (Lines n)) (λ parent. mapped (object (place_at x tok) false parent) (field_block x n))
form x n tok B.RefObject = shifted behind (seq (parent x (Lines n)) (λ parent. mapped (object (place_at x tok) true parent) (field_block x n)))
form x n tok B.Enum = mapped (enum (place_at x tok)) (members x n)
form x n tok B.Distinct = guarded (stays (Lines n)) (mapped (distinct (place_at x tok)) (written x (Lines n)))
form x n tok B.Alias = shifted (λ ts. tok ∷ ts) (mapped alias (written x (Lines n)))

abbrev pub ShortBody : Origin → ℕ → Body → List Token → List Token → Type 0
ShortBody x n = Short most_levels body_levels (IsBody x n)

body_reads : {x : Origin} {n : ℕ} {b : Body} {ts rest : List Token} → IsBody x n b ts rest
    → Headed (λ tok b ts rest. Form x n tok (IsType x (Lines n)) (FieldBlock x n) (body_lead (Lines n) (tok ∷ ts)) b ts rest) b ts rest
body_reads {x} {n} (o_object {parent = parent} {all = all} {tok = tok} {ts = ts} {mid = mid} {rest = rest} q p f) =
    subst (λ l. Form x n tok (IsType x (Lines n)) (FieldBlock x n) l (object (place_at x tok) false parent all) ts rest) (sym q)
    (parent, mid, p, (all, refl, f))
body_reads {x} {n} (o_ref_object {parent = parent} {all = all} {tok = tok} {ts = ts} {mid = mid} {rest = rest} q p f) =
    subst (λ l. Form x n tok (IsType x (Lines n)) (FieldBlock x n) l (object (place_at x tok) true parent all) ts rest) (sym q) (parent, mid, p, (all, refl, f))
body_reads {x} {n} (o_enum {all = all} {tok = tok} {ts = ts} {rest = rest} q d) =
    subst (λ l. Form x n tok (IsType x (Lines n)) (FieldBlock x n) l (enum (place_at x tok) all) ts rest) (sym q) (all, refl, d)
body_reads {x} {n} (o_distinct {a = a} {tok = tok} {ts = ts} {rest = rest} q s d) =
    subst (λ l. Form x n tok (IsType x (Lines n)) (FieldBlock x n) l (distinct (place_at x tok) a) ts rest) (sym q) (s, (a, refl, d))
body_reads {x} {n} (o_alias {a = a} {tok = tok} {ts = ts} {rest = rest} q d) =
    subst (λ l. Form x n tok (IsType x (Lines n)) (FieldBlock x n) l (alias a) ts rest) (sym q) (a, refl, d)

body_short : {x : Origin} {n : ℕ} {b : Body} {ts rest : List Token} → IsBody x n b ts rest → body_levels b ≤ most_levels
    → Headed (λ tok b ts rest. ShortForm x n tok (body_lead (Lines n) (tok ∷ ts)) b ts rest) b ts rest
body_short {x} {n} (o_object {parent = parent} {all = all} {tok = tok} {ts = ts} {mid = mid} {rest = rest} q p f) h =
    let s : ShortFieldBlock x n all mid rest = record { reads = f; few = h } in
    subst (λ l. ShortForm x n tok l (object (place_at x tok) false parent all) ts rest) (sym q) (parent, mid, p, (all, refl, s))
body_short {x} {n} (o_ref_object {parent = parent} {all = all} {tok = tok} {ts = ts} {mid = mid} {rest = rest} q p f) h =
    let s : ShortFieldBlock x n all mid rest = record { reads = f; few = h } in
    subst (λ l. ShortForm x n tok l (object (place_at x tok) true parent all) ts rest) (sym q) (parent, mid, p, (all, refl, s))
body_short {x} {n} (o_enum {all = all} {tok = tok} {ts = ts} {rest = rest} q d) h = subst (λ l. ShortForm x n tok l (enum (place_at x tok) all) ts rest) (sym q)
    (all, refl, d)
body_short {x} {n} (o_distinct {a = a} {tok = tok} {ts = ts} {rest = rest} q v d) h =
    let s : ShortType x (Lines n) most_levels a ts rest = record { reads = d; few = h } in
    subst (λ l. ShortForm x n tok l (distinct (place_at x tok) a) ts rest) (sym q) (v, (a, refl, s))
body_short {x} {n} (o_alias {a = a} {tok = tok} {ts = ts} {rest = rest} q d) h =
    let s : ShortType x (Lines n) most_levels a (tok ∷ ts) rest = record { reads = d; few = h } in
    subst (λ l. ShortForm x n tok l (alias a) ts rest) (sym q) (a, refl, s)

form_is : {x : Origin} {n : ℕ} {b : Body} {tok : Token} {ts rest : List Token} (l : BodyLead) → body_lead (Lines n) (tok ∷ ts) ≡ l
    → ShortForm x n tok l b ts rest → ShortBody x n b (tok ∷ ts) rest
form_is {x} {n} {tok = tok} {ts = ts} {rest = rest} B.Object q s = subst (λ b. ShortBody x n b (tok ∷ ts) rest) (sym s.3.1)
    (record { reads = o_object q s.2 s.3.2.reads; few = s.3.2.few })
form_is {x} {n} {tok = tok} {ts = ts} {rest = rest} B.RefObject q s = subst (λ b. ShortBody x n b (tok ∷ ts) rest) (sym s.3.1)
    (record { reads = o_ref_object q s.2 s.3.2.reads; few = s.3.2.few })
form_is {x} {n} {tok = tok} {ts = ts} {rest = rest} B.Enum q s = subst (λ b. ShortBody x n b (tok ∷ ts) rest) (sym s.1)
    (record { reads = o_enum q s.2; few = omega arith })
form_is {x} {n} {tok = tok} {ts = ts} {rest = rest} B.Distinct q s = subst (λ b. ShortBody x n b (tok ∷ ts) rest) (sym s.1.1)
    (record { reads = o_distinct q s.0 s.1.2.reads; few = s.1.2.few })
form_is {x} {n} {tok = tok} {ts = ts} {rest = rest} B.Alias q s = subst (λ b. ShortBody x n b (tok ∷ ts) rest) (sym s.1)
    (record { reads = o_alias q s.2.reads; few = s.2.few })

short_body : {x : Origin} {n : ℕ} (b : Body) (ts rest : List Token) → Headed (λ tok b ts rest. ShortForm x n tok (body_lead (Lines n) (tok ∷ ts)) b ts rest) b
    ts rest → ShortBody x n b ts rest
short_body b [] rest s = absurd s
short_body {x} {n} b (tok ∷ ts) rest s = form_is (body_lead (Lines n) (tok ∷ ts)) refl s

form_fault : {x : Origin} {n : ℕ} {why : Why} {tok : Token} {ts : List Token} (l : BodyLead) → body_lead (Lines n) (tok ∷ ts) ≡ l → FormFaults x n tok l why ts
    → FaultsBody x n why (tok ∷ ts)
form_fault B.Object q (inl w) = f_parent q w
form_fault B.Object q (inr w) = f_object q w.2 w.3
form_fault B.RefObject q (inl w) = f_ref_parent q w
form_fault B.RefObject q (inr w) = f_ref_object q w.2 w.3
form_fault B.Enum q w = f_enum q w
form_fault B.Distinct q (inl w) = f_base_line q w.0 w.1
form_fault B.Distinct q (inr w) = f_base q w.0 w.1
form_fault B.Alias q w = f_alias q w

body_fault : {x : Origin} {n : ℕ} (why : Why) (ts : List Token) → FaultsHeaded (λ tok why ts. FormFaults x n tok (body_lead (Lines n) (tok ∷ ts)) why ts) why ts
    → FaultsBody x n why ts
body_fault why [] w = f_no_body w
body_fault {x} {n} why (tok ∷ ts) w = form_fault (body_lead (Lines n) (tok ∷ ts)) refl w

fault_body : {x : Origin} {n : ℕ} {why : Why} {ts : List Token} → FaultsBody x n why ts
    → FaultsHeaded (λ tok why ts. FormFaults x n tok (body_lead (Lines n) (tok ∷ ts)) why ts) why ts
fault_body (f_no_body w) = w
fault_body {x} {n} {why} (f_parent {tok = tok} {ts = ts} q w) = subst (λ l. FormFaults x n tok l why ts) (sym q) (inl w)
fault_body {x} {n} {why} (f_object {parent = parent} {tok = tok} {ts = ts} {mid = mid} q p w) = subst (λ l. FormFaults x n tok l why ts) (sym q)
    (inr (parent, mid, p, w))
fault_body {x} {n} {why} (f_ref_parent {tok = tok} {ts = ts} q w) = subst (λ l. FormFaults x n tok l why ts) (sym q) (inl w)
fault_body {x} {n} {why} (f_ref_object {parent = parent} {tok = tok} {ts = ts} {mid = mid} q p w) = subst (λ l. FormFaults x n tok l why ts) (sym q)
    (inr (parent, mid, p, w))
fault_body {x} {n} {why} (f_enum {tok = tok} {ts = ts} q w) = subst (λ l. FormFaults x n tok l why ts) (sym q) w
fault_body {x} {n} {why} (f_base_line {tok = tok} {ts = ts} q s w) = subst (λ l. FormFaults x n tok l why ts) (sym q) (inl (s, w))
fault_body {x} {n} {why} (f_base {tok = tok} {ts = ts} q s w) = subst (λ l. FormFaults x n tok l why ts) (sym q) (inr (s, w))
fault_body {x} {n} {why} (f_alias {tok = tok} {ts = ts} q w) = subst (λ l. FormFaults x n tok l why ts) (sym q) w

pub body : (x : Origin) (n : ℕ) → Parses (λ k ts. run_body k x n ts) (IsBody x n) (ShortBody x n) (FaultsBody x n)
body x n =
    restated (headed (λ k ts. run_body k x n ts) (λ tok. placed (λ at. form x n tok (body_lead (Lines n) (tok ∷ at)))) (λ k. refl) (λ k tok ts. refl))
    short_body (λ b ts rest s. body_short s.reads s.few) (λ b ts rest d. body_reads d) body_fault (λ why ts w. fault_body w)

-- ---- declarations

abbrev made : Declared → List Name → Body → Declaration
made name parameters body = record { name = name; parameters = parameters; body = body }

abbrev Whole : Origin → (first : Layout) → ℕ → (Body → List Token → List Token → Type 0) → Declaration → List Token → List Token → Type 0
Whole x first n R = Then (IsDeclared x (Lines n) (name_on first))
    (λ name. Then (Generics x (Lines n))
    (λ parameters. Guarded (equals_at (Lines n)) (λ d ts rest. Guarded (stays (Lines n)) (Mapped (made name parameters) R) d (behind ts) rest)))

abbrev WholeFaults : Origin → (first : Layout) → ℕ → Why → List Token → Type 0
WholeFaults x first n = FaultsThen (IsDeclared x (Lines n) (name_on first)) (FaultsName (name_on first))
    (λ name. FaultsThen (Generics x (Lines n)) (FaultsGenerics x (Lines n))
    (λ parameters. FaultsGuarded (equals_at (Lines n)) (λ why ts. FaultsGuarded (stays (Lines n)) (FaultsBody x n) why (behind ts))))

pub declaration : (x : Origin) (first : Layout) (n : ℕ) → Parses (λ k ts. run_declaration k x first n ts) (IsDeclaration x first n) (ShortDeclaration x first n)
    (FaultsDeclaration x first n)
declaration x first n =
    restated (seq (declared x (Lines n) (name_on first))
    (λ name. seq (generics x (Lines n))
    (λ parameters. guarded (equals_at (Lines n)) (shifted behind (guarded (stays (Lines n)) (mapped (made name parameters) (body x n)))))))
    (λ d ts rest w. done d ts rest w) (λ d ts rest s. from d ts rest s) (λ d ts rest r. reads d ts rest r) fault back
  where
    done : (d : Declaration) (ts rest : List Token) → Whole x first n (ShortBody x n) d ts rest → ShortDeclaration x first n d ts rest
    done d ts rest w =
        subst (λ d. ShortDeclaration x first n d ts rest) (sym w.3.3.1.1.1)
        (record {
          reads = record {
            past_name = w.1;
            past_parameters = w.3.1;
            name = w.2;
            parameters = w.3.2;
            equals = w.3.3.0;
            stays = w.3.3.1.0;
            body = w.3.3.1.1.2.reads;
          };
          few = w.3.3.1.1.2.few;
        })

    from : (d : Declaration) (ts rest : List Token) → ShortDeclaration x first n d ts rest → Whole x first n (ShortBody x n) d ts rest
    from d ts rest s =
        let r = s.reads in
        let b : ShortBody x n d.body (behind r.past_parameters) rest = record { reads = r.body; few = s.few } in
        (d.name, r.past_name, r.name, (d.parameters, r.past_parameters, r.parameters, (r.equals, (r.stays, (d.body, refl, b)))))

    reads : (d : Declaration) (ts rest : List Token) → IsDeclaration x first n d ts rest → Whole x first n (IsBody x n) d ts rest
    reads d ts rest r = (d.name, r.past_name, r.name, (d.parameters, r.past_parameters, r.parameters, (r.equals, (r.stays, (d.body, refl, r.body)))))

    fault : (why : Why) (ts : List Token) → WholeFaults x first n why ts → FaultsDeclaration x first n why ts
    fault why ts (inl w) = f_type_name w
    fault why ts (inr w) = elim w.3 [
      | inl v ↦ f_parameters w.2 v
      | inr v ↦ elim v.3 [
        | inl u ↦ f_no_equals w.2 v.2 u.0 u.1
        | inr u ↦ elim u.1 [ inl z ↦ f_body_line w.2 v.2 u.0 z.0 z.1 | inr z ↦ f_body w.2 v.2 u.0 z.0 z.1 ]
      ]
    ]

    back : (why : Why) (ts : List Token) → FaultsDeclaration x first n why ts → WholeFaults x first n why ts
    back why ts (f_type_name w) = inl w
    back why ts (f_parameters {name = name} {a = a} d w) = inr (name, a, d, inl w)
    back why ts (f_no_equals {name = name} {parameters = all} {a = a} {b = b} d p e w) = inr (name, a, d, inr (all, b, p, inl (e, w)))
    back why ts (f_body_line {name = name} {parameters = all} {a = a} {b = b} d p e s w) = inr (name, a, d, inr (all, b, p, inr (e, inl (s, w))))
    back why ts (f_body {name = name} {parameters = all} {a = a} {b = b} d p e s w) = inr (name, a, d, inr (all, b, p, inr (e, inr (s, w))))

pub declarations : (x : Origin) (n : ℕ) → Parses (λ k ts. run_types k x n ts) (IsDeclarations x n) (ShortDeclarations x n) (FaultsDeclarations x n)
declarations x n =
    restated (either (deeper_at n)
    (placed (λ at. each (stands_at (level_at at)) (λ ts. ts) (λ k some ts. run_declarations k x (level_at at) some ts) (declaration x Brackets (level_at at))
    (λ some ts. refl) (λ k some ts. refl)))
    (mapped (λ d. d ∷ []) (declaration x (Lines n) n)))
    (λ a ts rest d. done a ts rest d) (λ a ts rest d. from d.reads d.few) (λ a ts rest d. reads d) fault back
  where
    done : (a : List Declaration) (ts rest : List Token)
        → Either (deeper_at n) (λ a ts rest. Each (stands_at (level_at ts)) (λ ts. ts) (ShortDeclaration x Brackets (level_at ts)) a ts rest)
        (Mapped (λ d. d ∷ []) (ShortDeclaration x (Lines n) n)) a ts rest
        → ShortDeclarations x n a ts rest
    done a ts rest (inl e) = let s = each_short e.1 in record { reads = o_declarations e.0 s.reads; few = s.few }
    done a ts rest (inr e) = subst (λ a. ShortDeclarations x n a ts rest) (sym e.1.1)
        (record { reads = o_declaration e.0 e.1.2.reads; few = both_few e.1.2.few (omega arith) })

    from : {a : List Declaration} {ts rest : List Token} → IsDeclarations x n a ts rest → highest declaration_levels a ≤ most_levels
        → Either (deeper_at n) (λ a ts rest. Each (stands_at (level_at ts)) (λ ts. ts) (ShortDeclaration x Brackets (level_at ts)) a ts rest)
        (Mapped (λ d. d ∷ []) (ShortDeclaration x (Lines n) n)) a ts rest
    from (o_declarations h d) p = inl (h, short_each d p)
    from (o_declaration {d = one} h d) p = inr (h, (one, refl, record { reads = d; few = left_few 0 p }))

    reads : {a : List Declaration} {ts rest : List Token} → IsDeclarations x n a ts rest
        → Either (deeper_at n) (λ a ts rest. Each (stands_at (level_at ts)) (λ ts. ts) (IsDeclaration x Brackets (level_at ts)) a ts rest)
        (Mapped (λ d. d ∷ []) (IsDeclaration x (Lines n) n)) a ts rest
    reads (o_declarations h d) = inl (h, d)
    reads (o_declaration {d = one} h d) = inr (h, (one, refl, d))

    fault : (why : Why) (ts : List Token)
        → FaultsEither (deeper_at n) (λ why ts. FaultsEach (stands_at (level_at ts)) (λ ts. ts) (ShortDeclaration x Brackets (level_at ts))
        (FaultsDeclaration x Brackets (level_at ts)) why ts) (FaultsDeclaration x (Lines n) n) why ts
        → FaultsDeclarations x n why ts
    fault why ts (inl w) = f_declarations w.0 w.1
    fault why ts (inr w) = f_declaration w.0 w.1

    back : (why : Why) (ts : List Token) → FaultsDeclarations x n why ts
        → FaultsEither (deeper_at n) (λ why ts. FaultsEach (stands_at (level_at ts)) (λ ts. ts) (ShortDeclaration x Brackets (level_at ts))
        (FaultsDeclaration x Brackets (level_at ts)) why ts) (FaultsDeclaration x (Lines n) n) why ts
    back why ts (f_declarations h w) = inl (h, w)
    back why ts (f_declaration h w) = inr (h, w)
