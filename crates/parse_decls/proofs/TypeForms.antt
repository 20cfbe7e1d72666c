-- What a type is, by what it begins with: the same as the grammar says, in the form in which the computation goes.
use Rattle.std.proofs.Common.{◌≡◌, ℕ, suc, ◌≤◌, List, [], ◌∷◌, Bool, true, false, refl, sym, ap, subst, ◌∙◌, inl, inr, arith}
use Rattle.std.specs.Prelude.{◌⊎◌, Option, Some, None}
use Rattle.indent_scanner.specs.declared.token.Key.TheVariants as K
use Rattle.indent_scanner.specs.declared.token.Tok.{Tok}
use Rattle.indent_scanner.specs.declared.token.Tok.TheVariants as T
use Rattle.indent_scanner.specs.declared.token.Token.{Token}
use Rattle.nim_tree.specs.Terms.{Term, levels}
use Rattle.nim_tree.specs.Types.{Written, named, array, ref_to, tuple_of, no_arguments, argument, no_fields, fields, and_argument, type_levels}
use Rattle.nim_tree.specs.Types.{most_type_levels, field_levels}
use Rattle.parse_exprs.specs.declared.layout.Layout.{Layout}
use Rattle.parse_exprs.specs.declared.layout.Layout.TheVariants.{Brackets}
use Rattle.parse_exprs.specs.declared.input.Bracket.TheVariants.{Square}
use Rattle.parse_exprs.specs.Look.{Origin, spelling, place_at, closes_at, stays, comma_at}
use Rattle.parse_exprs.specs.Grammar.{IsExpr}
use Rattle.parse_decls.specs.declared.look.TypeLead.{TypeLead}
use Rattle.parse_decls.specs.declared.look.TypeLead.TheVariants as L
use Rattle.parse_decls.specs.Look.{behind, opens_at, type_lead, type_lead_of, named_lead, type_at, begins_type}
use Rattle.parse_decls.specs.Outcome.{Why, stuck_at}
use Rattle.parse_decls.specs.Run.{Typed}
use Rattle.parse_decls.specs.Grammar.{NoLength, HoldsTypes, h_name, h_array, IsType, t_name, t_generic, t_array, t_ref, t_empty, t_tuple}
use Rattle.parse_decls.specs.Faults.{Short, FaultsLength, FaultsEach, FaultsType, FaultsField}
use Rattle.parse_decls.proofs.Productions.{Just, Then, FaultsThen, Mapped, Guarded, FaultsGuarded, Either, FaultsEither, Headed}
use Rattle.parse_decls.proofs.Pieces.{along, Gathers}
use Rattle.parse_decls.proofs.Lengths.{r_length, r_types, Length, ShortLength}
use Rattle.parse_decls.proofs.TypeLists.{both_few, left_few, right_few, more_arguments, types_each, types_short, short_types, add_field, more_fields, Part}
use Rattle.parse_decls.proofs.TypeLists.{ShortPart, fields_each, fields_short, short_fields}

-- ---- what a type begins with

named_no_other : {C : Type 0} (a b : Bool) → named_lead a b ≡ L.Other → C
named_no_other true true e = cc
named_no_other true false e = cc
named_no_other false b e = cc

pub other_of : (x : Origin) (i : Layout) (tok : Token) (ts : List Token) (k : Tok) → begins_type k ≡ false → type_lead_of x i tok ts k ≡ L.Other
other_of x i tok ts T.Name e = cc
other_of x i tok ts (T.Key K.Ref) e = cc
other_of x i tok ts (T.Key K.Tuple) e = cc
other_of x i tok ts (T.Key _) e = refl
other_of x i tok ts _ e = refl

begins_or : (x : Origin) (i : Layout) (tok : Token) (ts : List Token) (k : Tok) → (begins_type k ≡ true) ⊎ (type_lead_of x i tok ts k ≡ L.Other)
begins_or x i tok ts T.Name = inl refl
begins_or x i tok ts (T.Key K.Ref) = inl refl
begins_or x i tok ts (T.Key K.Tuple) = inl refl
begins_or x i tok ts (T.Key _) = inr refl
begins_or x i tok ts _ = inr refl

pub no_begin : (x : Origin) (i : Layout) (tok : Token) (ts : List Token) (k : Tok) → type_lead_of x i tok ts k ≡ L.Other → begins_type k ≡ false
no_begin x i tok ts T.Name e = named_no_other _ _ e
no_begin x i tok ts (T.Key K.Ref) e = cc
no_begin x i tok ts (T.Key K.Tuple) e = cc
no_begin x i tok ts (T.Key _) e = refl
no_begin x i tok ts _ e = refl

begins_by : (x : Origin) (i : Layout) (tok : Token) (ts : List Token) {l : TypeLead} → type_lead x i tok ts ≡ l → (l ≡ L.Other → ⊥) → type_at (tok ∷ ts) ≡ true
begins_by x i tok ts q n = elim (begins_or x i tok ts tok.kind) [ inl h ↦ h | inr h ↦ absurd (n (sym q ∙ h)) ]

holds_begins : {x : Origin} {i : Layout} {tok : Token} {ts : List Token} → HoldsTypes x i tok ts → type_at (tok ∷ ts) ≡ true
holds_begins {x} {i} {tok} {ts} (h_name q o) = begins_by x i tok ts q (λ e. cc)
holds_begins {x} {i} {tok} {ts} (h_array q t lacks) = begins_by x i tok ts q (λ e. cc)

pub type_begins : {x : Origin} {i : Layout} {a : Written} {ts rest : List Token} → IsType x i a ts rest → type_at ts ≡ true
type_begins {x} {i} (t_name {tok = tok} {ts = ts} q o) = begins_by x i tok ts q (λ e. cc)
type_begins (t_generic q d t c) = holds_begins q
type_begins {x} {i} (t_array {tok = tok} {ts = ts} q d c t e) = begins_by x i tok ts q (λ e. cc)
type_begins {x} {i} (t_ref {tok = tok} {ts = ts} q s d) = begins_by x i tok ts q (λ e. cc)
type_begins {x} {i} (t_empty {tok = tok} {ts = ts} q o c) = begins_by x i tok ts q (λ e. cc)
type_begins {x} {i} (t_tuple {tok = tok} {ts = ts} q o n d t c) = begins_by x i tok ts q (λ e. cc)

pub some_type_level : {C : Type 0} (a : Written) → type_levels a ≤ 0 → C
some_type_level (named at text all) h = (let f : ⊥ = omega (arith, h) in absurd f)
some_type_level (array at length a) h = (let f : ⊥ = omega (arith, h) in absurd f)
some_type_level (ref_to at a) h = (let f : ⊥ = omega (arith, h) in absurd f)
some_type_level (tuple_of at all) h = (let f : ⊥ = omega (arith, h) in absurd f)

-- ---- the forms

-- in the bracket behind the token tok, where T is what types in it are: types, or an element behind a length
abbrev pub Inside : Origin → Token → (Layout → Written → List Token → List Token → Type 0) → Option Term → Written → List Token → List Token → Type 0
Inside x tok T None b ts rest =
    Then (T Brackets) (λ a. Then (Gathers (comma_at Brackets) behind and_argument (T Brackets) (argument a no_arguments))
    (λ all. Guarded (closes_at Square) (λ b ts rest. Just (named (place_at x tok) (spelling x tok) all) b (behind ts) rest))) b ts rest
Inside x tok T (Some length) b ts rest =
    Then (T Brackets) (λ a. Guarded (closes_at Square) (λ b ts rest. Just (array (place_at x tok) length a) b (behind ts) rest)) b ts rest

-- behind the token tok, which begins such a type, where T, E and P are what types, lengths and fields in it are
abbrev pub Sort : Origin → Layout → Token → (Layout → Written → List Token → List Token → Type 0) → (Option Term → List Token → List Token → Type 0)
    → (Typed → List Token → List Token → Type 0)
    → TypeLead → Written → List Token → List Token → Type 0
Sort x i tok T E P L.Other b ts rest = ⊥
Sort x i tok T E P L.Name b ts rest = Either (opens_at i Square) (λ b ts rest. Inside x tok T None b (behind ts) rest)
    (Just (named (place_at x tok) (spelling x tok) no_arguments)) b ts rest
Sort x i tok T E P L.Array b ts rest = Then (λ o ts rest. E o (behind ts) rest) (Inside x tok T) b ts rest
Sort x i tok T E P L.Ref b ts rest = Guarded (stays i) (Mapped (ref_to (place_at x tok)) (T i)) b ts rest
Sort x i tok T E P L.Tuple b ts rest =
    Guarded (opens_at i Square)
    (Either (λ ts. closes_at Square (behind ts)) (λ b ts rest. Just (tuple_of (place_at x tok) no_fields) b (behind (behind ts)) rest)
    (Then (λ one ts rest. P one (behind ts) rest) (λ one. Then (Gathers (comma_at Brackets) behind add_field P (fields one.names one.of no_fields))
    (λ all. Guarded (closes_at Square) (λ b ts rest. Just (tuple_of (place_at x tok) all) b (behind ts) rest))))) b ts rest

abbrev pub FaultsInside : (Layout → Written → List Token → List Token → Type 0) → (Layout → Why → List Token → Type 0) → Option Term → Why → List Token → Type 0
FaultsInside T F None why ts =
    FaultsThen (T Brackets) (F Brackets) (λ a. FaultsThen (Gathers (comma_at Brackets) behind and_argument (T Brackets) (argument a no_arguments))
    (FaultsEach (comma_at Brackets) behind (T Brackets) (F Brackets)) (λ all. FaultsGuarded (closes_at Square) (λ why ts. ⊥))) why ts
FaultsInside T F (Some length) why ts = FaultsThen (T Brackets) (F Brackets) (λ a. FaultsGuarded (closes_at Square) (λ why ts. ⊥)) why ts

abbrev pub FaultsSort : Origin → Layout → Token → (Layout → Written → List Token → List Token → Type 0) → (Option Term → List Token → List Token → Type 0)
    → (Typed → List Token → List Token → Type 0)
    → (Layout → Why → List Token → Type 0) → (Why → List Token → Type 0) → (Why → List Token → Type 0) → TypeLead → Why → List Token → Type 0
FaultsSort x i tok T E P F G H L.Other why ts = why ≡ stuck_at (tok ∷ ts)
FaultsSort x i tok T E P F G H L.Name why ts = FaultsEither (opens_at i Square) (λ why ts. FaultsInside T F None why (behind ts)) (λ why ts. ⊥) why ts
FaultsSort x i tok T E P F G H L.Array why ts = FaultsThen (λ o ts rest. E o (behind ts) rest) (λ why ts. G why (behind ts)) (FaultsInside T F) why ts
FaultsSort x i tok T E P F G H L.Ref why ts = FaultsGuarded (stays i) (F i) why ts
FaultsSort x i tok T E P F G H L.Tuple why ts =
    FaultsGuarded (opens_at i Square) (FaultsEither (λ ts. closes_at Square (behind ts)) (λ why ts. ⊥)
    (FaultsThen (λ one ts rest. P one (behind ts) rest) (λ why ts. H why (behind ts))
    (λ one. FaultsThen (Gathers (comma_at Brackets) behind add_field P (fields one.names one.of no_fields))
    (FaultsEach (comma_at Brackets) behind P H) (λ all. FaultsGuarded (closes_at Square) (λ why ts. ⊥))))) why ts

-- those of the grammar, and those with at most n levels in it
abbrev pub SortReads : Origin → Layout → Token → TypeLead → Written → List Token → List Token → Type 0
SortReads x i tok = Sort x i tok (IsType x) (Length x) (Part x)

abbrev pub ShortSort : Origin → Layout → ℕ → Token → TypeLead → Written → List Token → List Token → Type 0
ShortSort x i n tok = Sort x i tok (λ i. Short n type_levels (IsType x i)) (ShortLength x n) (ShortPart x n)

abbrev pub SortFaults : Origin → Layout → List Token → ℕ → Token → TypeLead → Why → List Token → Type 0
SortFaults x i whole n tok = FaultsSort x i tok (λ i. Short n type_levels (IsType x i)) (ShortLength x n) (ShortPart x n)
    (λ i why ts. FaultsType x why i whole n ts) (λ why ts. FaultsLength x why whole n ts) (λ why ts. FaultsField x why whole n ts)

abbrev pub ShortType : Origin → Layout → ℕ → Written → List Token → List Token → Type 0
ShortType x i n = Short n type_levels (IsType x i)

-- ---- from the grammar

-- a name with types in brackets, by what it begins with
holds_sort : {x : Origin} {i : Layout} {tok : Token} (T : Layout → Written → List Token → List Token → Type 0) (E : Option Term → List Token → List Token
    → Type 0) (P : Typed → List Token → List Token → Type 0)
    {b : Written} {ts rest : List Token} → ((us : List Token) → type_at us ≡ true → NoLength x us → E None us us) → HoldsTypes x i tok ts
    → Inside x tok T None b (behind ts) rest
    → Sort x i tok T E P (type_lead x i tok ts) b ts rest
holds_sort {x} {i} {tok} T E P {b} {ts} {rest} none (h_name q o) s = subst (λ l. Sort x i tok T E P l b ts rest) (sym q) (inl (o, s))
holds_sort {x} {i} {tok} T E P {b} {ts} {rest} none (h_array q t lacks) s = subst (λ l. Sort x i tok T E P l b ts rest) (sym q)
    (None, behind ts, none (behind ts) t lacks, s)

pub sort_reads : {x : Origin} {i : Layout} {b : Written} {ts rest : List Token} → IsType x i b ts rest
    → Headed (λ tok b ts rest. SortReads x i tok (type_lead x i tok ts) b ts rest) b ts rest
sort_reads {x} {i} (t_name {tok = tok} {ts = ts} q o) = subst (λ l. SortReads x i tok l (named (place_at x tok) (spelling x tok) no_arguments) ts ts) (sym q)
    (inr (o, (refl, refl)))
sort_reads {x} {i} (t_generic {a = a} {all = all} {tok = tok} {ts = ts} {mid = mid} {end = end} q d t c) =
    let e = types_each t in
    holds_sort (IsType x) (Length x) (Part x) (λ us h lacks. r_types h lacks) q
    (a, mid, d, (argument a all, end, (e.0, ap (argument a) e.1 ∙ sym (more_arguments a e.0), e.2), (c, (refl, refl))))
sort_reads {x} {i} (t_array {length = length} {a = a} {tok = tok} {ts = ts} {mid = mid} {end = end} q d c t e) =
    subst (λ l. SortReads x i tok l (array (place_at x tok) length a) ts (behind end)) (sym q)
    (Some length, behind mid, r_length d tt c, (a, end, t, (e, (refl, refl))))
sort_reads {x} {i} (t_ref {a = a} {tok = tok} {ts = ts} {rest = rest} q s d) = subst (λ l. SortReads x i tok l (ref_to (place_at x tok) a) ts rest) (sym q)
    (s, (a, refl, d))
sort_reads {x} {i} (t_empty {tok = tok} {ts = ts} q o c) = subst (λ l. SortReads x i tok l (tuple_of (place_at x tok) no_fields) ts (behind (behind ts)))
    (sym q) (o, inl (c, (refl, refl)))
sort_reads {x} {i} (t_tuple {names = names} {a = a} {all = all} {tok = tok} {ts = ts} {mid = mid} {end = end} q o n d t c) =
    let one : Typed = record { names = names; of = a } in
    let e = fields_each t in
    subst (λ l. SortReads x i tok l (tuple_of (place_at x tok) (fields names a all)) ts (behind end)) (sym q)
    (o, inr (n, (one, mid, d, (fields names a all, end, (e.0, ap (fields names a) e.1 ∙ sym (more_fields one e.0), e.2), (c, (refl, refl))))))

down : {m n : ℕ} → suc m ≤ suc n → m ≤ n
down h = omega (arith, h)

up : {m n : ℕ} → m ≤ n → suc m ≤ suc n
up h = omega (arith, h)

sort_short_of : {x : Origin} {i : Layout} {n : ℕ} {b : Written} {ts rest : List Token} → IsType x i b ts rest → type_levels b ≤ suc n
    → Headed (λ tok b ts rest. ShortSort x i n tok (type_lead x i tok ts) b ts rest) b ts rest
sort_short_of {x} {i} {n} (t_name {tok = tok} {ts = ts} q o) h = subst (λ l. ShortSort x i n tok l (named (place_at x tok) (spelling x tok) no_arguments) ts ts)
    (sym q) (inr (o, (refl, refl)))
sort_short_of {x} {i} {n} (t_generic {a = a} {all = all} {tok = tok} {ts = ts} {mid = mid} {end = end} q d t c) h =
    let e = short_types t (right_few (type_levels a) (down h)) in
    let s : ShortType x Brackets n a (behind ts) mid = record { reads = d; few = left_few (most_type_levels all) (down h) } in
    holds_sort (λ i. ShortType x i n) (ShortLength x n) (ShortPart x n) (λ us h lacks. r_types h lacks) q
    (a, mid, s, (argument a all, end, (e.0, ap (argument a) e.1 ∙ sym (more_arguments a e.0), e.2), (c, (refl, refl))))
sort_short_of {x} {i} {n} (t_array {length = length} {a = a} {tok = tok} {ts = ts} {mid = mid} {end = end} q d c t e) h =
    let s : ShortType x Brackets n a (behind mid) end = record { reads = t; few = right_few (levels length) (down h) } in
    subst (λ l. ShortSort x i n tok l (array (place_at x tok) length a) ts (behind end)) (sym q)
    (Some length, behind mid, r_length d (left_few (type_levels a) (down h)) c, (a, end, s, (e, (refl, refl))))
sort_short_of {x} {i} {n} (t_ref {a = a} {tok = tok} {ts = ts} {rest = rest} q s d) h =
    let r : ShortType x i n a ts rest = record { reads = d; few = down h } in
    subst (λ l. ShortSort x i n tok l (ref_to (place_at x tok) a) ts rest) (sym q) (s, (a, refl, r))
sort_short_of {x} {i} {n} (t_empty {tok = tok} {ts = ts} q o c) h =
    subst (λ l. ShortSort x i n tok l (tuple_of (place_at x tok) no_fields) ts (behind (behind ts))) (sym q) (o, inl (c, (refl, refl)))
sort_short_of {x} {i} {n} (t_tuple {names = names} {a = a} {all = all} {tok = tok} {ts = ts} {mid = mid} {end = end} q o v d t c) h =
    let one : Typed = record { names = names; of = a } in
    let e = short_fields t (right_few (type_levels a) (down h)) in
    let s : ShortPart x n one (behind ts) mid = record { reads = d; few = left_few (field_levels all) (down h) } in
    subst (λ l. ShortSort x i n tok l (tuple_of (place_at x tok) (fields names a all)) ts (behind end)) (sym q)
    (o, inr (v, (one, mid, s, (fields names a all, end, (e.0, ap (fields names a) e.1 ∙ sym (more_fields one e.0), e.2), (c, (refl, refl))))))

pub sort_short : {x : Origin} {i : Layout} {n : ℕ} {b : Written} {ts rest : List Token} → ShortType x i (suc n) b ts rest
    → Headed (λ tok b ts rest. ShortSort x i n tok (type_lead x i tok ts) b ts rest) b ts rest
sort_short s = sort_short_of s.reads s.few

-- ---- to the grammar

made_type : {x : Origin} {i : Layout} {n : ℕ} {a b : Written} {ts rest end : List Token} → b ≡ a → rest ≡ end → ShortType x i n a ts end
    → ShortType x i n b ts rest
made_type {x} {i} {n} {ts = ts} p q s = along (λ b r. ShortType x i n b ts r) p q s

inside_is : {x : Origin} {i : Layout} {n : ℕ} {b : Written} {tok : Token} {ts rest : List Token} → HoldsTypes x i tok ts
    → Inside x tok (λ i. ShortType x i n) None b (behind ts) rest → ShortType x i (suc n) b (tok ∷ ts) rest
inside_is {x} {tok = tok} q s =
    let a = s.0 in let g = s.3.2 in
    let t = types_short g.2 in
    made_type (s.3.3.1.0 ∙ ap (named (place_at x tok) (spelling x tok)) (g.1 ∙ more_arguments a g.0)) s.3.3.1.1
    (record { reads = t_generic q s.2.reads t.reads s.3.3.0; few = up (both_few s.2.few t.few) })

array_is : {x : Origin} {i : Layout} {n : ℕ} {b : Written} {tok : Token} {ts rest : List Token} {o : Option Term} {us mid : List Token}
    → type_lead x i tok ts ≡ L.Array → us ≡ behind ts
    → ShortLength x n o us mid → Inside x tok (λ i. ShortType x i n) o b mid rest → ShortType x i (suc n) b (tok ∷ ts) rest
array_is {x} {i} {n} {b} {tok} {ts} {rest} q e (r_length {a = length} {mid = mid} d few c) s =
    made_type s.3.1.0 s.3.1.1
    (record { reads = t_array q (subst (λ us. IsExpr x Brackets length us mid) e d) c s.2.reads s.3.0; few = up (both_few few s.2.few) })
array_is {x} {i} {n} {b} {tok} {ts} {rest} q e (r_types t lacks) s =
    inside_is (h_array q (subst (λ us. type_at us ≡ true) e t) (subst (NoLength x) e lacks))
    (subst (λ us. Inside x tok (λ i. ShortType x i n) None b us rest) e s)

sort_is : {x : Origin} {i : Layout} {n : ℕ} {b : Written} {tok : Token} {ts rest : List Token} (l : TypeLead) → type_lead x i tok ts ≡ l
    → ShortSort x i n tok l b ts rest → ShortType x i (suc n) b (tok ∷ ts) rest
sort_is L.Other q s = absurd s
sort_is L.Name q (inl s) = inside_is (h_name q s.0) s.1
sort_is L.Name q (inr s) = made_type s.1.0 s.1.1 (record { reads = t_name q s.0; few = omega arith })
sort_is L.Array q s = array_is q refl s.2 s.3
sort_is L.Ref q s = made_type s.1.1 refl (record { reads = t_ref q s.0 s.1.2.reads; few = up s.1.2.few })
sort_is L.Tuple q (o, inl s) = made_type s.1.0 s.1.1 (record { reads = t_empty q o s.0; few = omega arith })
sort_is {x} {tok = tok} L.Tuple q (o, inr s) =
    let one = s.1.0 in let g = s.1.3.2 in
    let t = fields_short g.2 in
    made_type (s.1.3.3.1.0 ∙ ap (tuple_of (place_at x tok)) (g.1 ∙ more_fields one g.0)) s.1.3.3.1.1
    (record { reads = t_tuple q o s.0 s.1.2.reads t.reads s.1.3.3.0; few = up (both_few s.1.2.few t.few) })

pub short_sort : {x : Origin} {i : Layout} {n : ℕ} (b : Written) (ts rest : List Token)
    → Headed (λ tok b ts rest. ShortSort x i n tok (type_lead x i tok ts) b ts rest) b ts rest → ShortType x i (suc n) b ts rest
short_sort b [] rest s = absurd s
short_sort {x} {i} b (tok ∷ ts) rest s = sort_is (type_lead x i tok ts) refl s
