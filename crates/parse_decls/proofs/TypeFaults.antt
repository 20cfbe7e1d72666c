-- Where a type can't go on, by what it begins with.
use Rattle.std.proofs.Common.{◌≡◌, ℕ, suc, List, [], ◌∷◌, true, false, refl, sym, ap, subst, ◌∙◌, inl, inr}
use Rattle.std.specs.Prelude.{Option, Some, None}
use Rattle.indent_scanner.specs.declared.token.Token.{Token}
use Rattle.nim_tree.specs.Terms.{Term}
use Rattle.nim_tree.specs.Types.{argument, fields}
use Rattle.parse_exprs.specs.declared.layout.Layout.{Layout}
use Rattle.parse_exprs.specs.declared.layout.Layout.TheVariants.{Brackets}
use Rattle.parse_exprs.specs.Look.{Origin, comma_at}
use Rattle.parse_exprs.specs.Grammar.{IsExpr}
use Rattle.parse_decls.specs.declared.look.TypeLead.{TypeLead}
use Rattle.parse_decls.specs.declared.look.TypeLead.TheVariants as L
use Rattle.parse_decls.specs.Look.{behind, type_lead, type_at}
use Rattle.parse_decls.specs.Outcome.{Why, stuck_at}
use Rattle.parse_decls.specs.Run.{Typed}
use Rattle.parse_decls.specs.Grammar.{NoLength, HoldsTypes, h_name, h_array}
use Rattle.parse_decls.specs.Faults.{ShortExpr, FaultsEach, f_here, f_later, FaultsType, f_no_type, f_argument, f_arguments, f_generic, f_length, f_element}
use Rattle.parse_decls.specs.Faults.{f_array, f_target_line, f_target, f_no_bracket, f_field, f_fields, f_tuple, FaultsTypes, f_next_type, f_later_type}
use Rattle.parse_decls.specs.Faults.{FaultsField, FaultsFields, f_next_field, f_later_field}
use Rattle.parse_decls.proofs.Productions.{FaultsHeaded}
use Rattle.parse_decls.proofs.TypeLists.{more_arguments, types_short, short_types, more_fields, ShortPart, fields_short, short_fields}
use Rattle.parse_decls.proofs.Lengths.{r_length, r_types, ShortLength}
use Rattle.parse_decls.proofs.TypeForms.{other_of, no_begin, FaultsInside, SortFaults, ShortType}

-- ---- behind a type or a field in brackets

types_fault : {x : Origin} {whole : List Token} {n : ℕ} {why : Why} {ts : List Token} → FaultsEach (comma_at Brackets) behind (ShortType x Brackets n)
    (λ why ts. FaultsType x why Brackets whole n ts) why ts → FaultsTypes x why whole n ts
types_fault (f_here g w) = f_next_type g w
types_fault (f_later g d w) = f_later_type g d (types_fault w)

fault_types : {x : Origin} {why : Why} {whole : List Token} {n : ℕ} {ts : List Token} → FaultsTypes x why whole n ts
    → FaultsEach (comma_at Brackets) behind (ShortType x Brackets n) (λ why ts. FaultsType x why Brackets whole n ts) why ts
fault_types (f_next_type g w) = f_here g w
fault_types (f_later_type g d w) = f_later g d (fault_types w)

fields_fault : {x : Origin} {whole : List Token} {n : ℕ} {why : Why} {ts : List Token} → FaultsEach (comma_at Brackets) behind (ShortPart x n)
    (λ why ts. FaultsField x why whole n ts) why ts → FaultsFields x why whole n ts
fields_fault (f_here g w) = f_next_field g w
fields_fault (f_later g d w) = f_later_field g d (fields_fault w)

fault_fields : {x : Origin} {why : Why} {whole : List Token} {n : ℕ} {ts : List Token} → FaultsFields x why whole n ts
    → FaultsEach (comma_at Brackets) behind (ShortPart x n) (λ why ts. FaultsField x why whole n ts) why ts
fault_fields (f_next_field g w) = f_here g w
fault_fields (f_later_field {names = names} {a = a} g d w) = let one : Typed = record { names = names; of = a } in f_later {a = one} g d (fault_fields w)

-- ---- to what is said of the text

inside_fault : {x : Origin} {i : Layout} {whole : List Token} {n : ℕ} {why : Why} {tok : Token} {ts : List Token} → HoldsTypes x i tok ts
    → FaultsInside (λ i. ShortType x i n) (λ i why ts. FaultsType x why i whole n ts) None why (behind ts) → FaultsType x why i whole (suc n) (tok ∷ ts)
inside_fault q (inl v) = f_argument q v
inside_fault q (inr v) = elim v.3 [
  | inl u ↦ f_arguments q v.2 (types_fault u)
  | inr u ↦ elim u.3 [ inl z ↦ f_generic q v.2 (types_short u.2.2) z.0 z.1 | inr z ↦ absurd z.1 ]
]

array_fault : {x : Origin} {i : Layout} {whole : List Token} {n : ℕ} {why : Why} {tok : Token} {ts : List Token} {o : Option Term} {us mid : List Token}
    → type_lead x i tok ts ≡ L.Array → us ≡ behind ts
    → ShortLength x n o us mid → FaultsInside (λ i. ShortType x i n) (λ i why ts. FaultsType x why i whole n ts) o why mid
    → FaultsType x why i whole (suc n) (tok ∷ ts)
array_fault {x} {n = n} q e (r_length {a = length} {mid = mid} d few c) w =
    let s : ShortExpr x Brackets n length _ mid = record { reads = subst (λ us. IsExpr x Brackets length us mid) e d; few = few } in
    elim w [
      | inl u ↦ f_element q s c u
      | inr u ↦ elim u.3 [ inl z ↦ f_array q s c u.2 z.0 z.1 | inr z ↦ absurd z.1 ]
    ]
array_fault {x} {whole = whole} {n = n} {why = why} q e (r_types t lacks) w =
    inside_fault (h_array q (subst (λ us. type_at us ≡ true) e t) (subst (NoLength x) e lacks))
    (subst (λ us. FaultsInside (λ i. ShortType x i n) (λ i why ts. FaultsType x why i whole n ts) None why us) e w)

sort_fault : {x : Origin} {i : Layout} {whole : List Token} {n : ℕ} {why : Why} {tok : Token} {ts : List Token} (l : TypeLead) → type_lead x i tok ts ≡ l
    → SortFaults x i whole n tok l why ts → FaultsType x why i whole (suc n) (tok ∷ ts)
sort_fault {x} {i} {tok = tok} {ts = ts} L.Other q w = f_no_type (no_begin x i tok ts tok.kind q) w
sort_fault L.Name q (inr w) = absurd w.1
sort_fault L.Name q (inl w) = inside_fault (h_name q w.0) w.1
sort_fault L.Array q (inl w) = f_length q w
sort_fault L.Array q (inr w) = array_fault q refl w.2 w.3
sort_fault L.Ref q (inl w) = f_target_line q w.0 w.1
sort_fault L.Ref q (inr w) = f_target q w.0 w.1
sort_fault L.Tuple q (inl w) = f_no_bracket q w.0 w.1
sort_fault L.Tuple q (inr w) = elim w.1 [
  | inl v ↦ absurd v.1
  | inr v ↦ elim v.1 [
    | inl u ↦ f_field q w.0 v.0 u
    | inr u ↦ elim u.3 [
      | inl z ↦ f_fields q w.0 v.0 u.2 (fields_fault z)
      | inr z ↦ elim z.3 [ inl y ↦ f_tuple q w.0 v.0 u.2 (fields_short z.2.2) y.0 y.1 | inr y ↦ absurd y.1 ]
    ]
  ]
]

pub type_fault : {x : Origin} {i : Layout} {whole : List Token} {n : ℕ} (why : Why) (ts : List Token)
    → FaultsHeaded (λ tok why ts. SortFaults x i whole n tok (type_lead x i tok ts) why ts) why ts → FaultsType x why i whole (suc n) ts
type_fault why [] w = f_no_type refl w
type_fault {x} {i} why (tok ∷ ts) w = sort_fault (type_lead x i tok ts) refl w

-- ---- from it

no_type : (x : Origin) (i : Layout) (whole : List Token) (n : ℕ) {why : Why} (ts : List Token) → type_at ts ≡ false → why ≡ stuck_at ts
    → FaultsHeaded (λ tok why ts. SortFaults x i whole n tok (type_lead x i tok ts) why ts) why ts
no_type x i whole n [] t w = w
no_type x i whole n {why} (tok ∷ ts) t w = subst (λ l. SortFaults x i whole n tok l why ts) (sym (other_of x i tok ts tok.kind t)) w

holds_fault : {x : Origin} {i : Layout} {whole : List Token} {n : ℕ} {why : Why} {tok : Token} {ts : List Token} → HoldsTypes x i tok ts
    → FaultsInside (λ i. ShortType x i n) (λ i why ts. FaultsType x why i whole n ts) None why (behind ts)
    → SortFaults x i whole n tok (type_lead x i tok ts) why ts
holds_fault {x} {i} {whole} {n} {why} {tok} {ts} (h_name q o) w = subst (λ l. SortFaults x i whole n tok l why ts) (sym q) (inl (o, w))
holds_fault {x} {i} {whole} {n} {why} {tok} {ts} (h_array q t lacks) w = subst (λ l. SortFaults x i whole n tok l why ts) (sym q)
    (inr (None, behind ts, r_types t lacks, w))

pub fault_type : {x : Origin} {i : Layout} {whole : List Token} {n : ℕ} {why : Why} {ts : List Token} → FaultsType x why i whole (suc n) ts
    → FaultsHeaded (λ tok why ts. SortFaults x i whole n tok (type_lead x i tok ts) why ts) why ts
fault_type {x} {i} {whole} {n} {why} (f_no_type {ts = ts} t w) = no_type x i whole n ts t w
fault_type (f_argument q w) = holds_fault q (inl w)
fault_type (f_arguments {a = a} {mid = mid} q d w) = holds_fault q (inr (a, mid, d, inl (fault_types w)))
fault_type (f_generic {a = a} {all = all} {mid = mid} {end = end} q d t c w) =
    let e = short_types t.reads t.few in
    holds_fault q (inr (a, mid, d, inr (argument a all, end, (e.0, ap (argument a) e.1 ∙ sym (more_arguments a e.0), e.2), inl (c, w))))
fault_type {x} {i} {whole} {n} {why} (f_length {tok = tok} {ts = ts} q w) = subst (λ l. SortFaults x i whole n tok l why ts) (sym q) (inl w)
fault_type {x} {i} {whole} {n} {why} (f_element {length = length} {tok = tok} {ts = ts} {mid = mid} q d c w) =
    subst (λ l. SortFaults x i whole n tok l why ts) (sym q) (inr (Some length, behind mid, r_length d.reads d.few c, inl w))
fault_type {x} {i} {whole} {n} {why} (f_array {length = length} {a = a} {tok = tok} {ts = ts} {mid = mid} {end = end} q d c t o w) =
    subst (λ l. SortFaults x i whole n tok l why ts) (sym q) (inr (Some length, behind mid, r_length d.reads d.few c, inr (a, end, t, inl (o, w))))
fault_type {x} {i} {whole} {n} {why} (f_target_line {tok = tok} {ts = ts} q s w) = subst (λ l. SortFaults x i whole n tok l why ts) (sym q) (inl (s, w))
fault_type {x} {i} {whole} {n} {why} (f_target {tok = tok} {ts = ts} q s w) = subst (λ l. SortFaults x i whole n tok l why ts) (sym q) (inr (s, w))
fault_type {x} {i} {whole} {n} {why} (f_no_bracket {tok = tok} {ts = ts} q o w) = subst (λ l. SortFaults x i whole n tok l why ts) (sym q) (inl (o, w))
fault_type {x} {i} {whole} {n} {why} (f_field {tok = tok} {ts = ts} q o c w) = subst (λ l. SortFaults x i whole n tok l why ts) (sym q)
    (inr (o, inr (c, inl w)))
fault_type {x} {i} {whole} {n} {why} (f_fields {names = names} {a = a} {tok = tok} {ts = ts} {mid = mid} q o c d w) =
    let one : Typed = record { names = names; of = a } in
    subst (λ l. SortFaults x i whole n tok l why ts) (sym q) (inr (o, inr (c, inr (one, mid, d, inl (fault_fields w)))))
fault_type {x} {i} {whole} {n} {why} (f_tuple {names = names} {a = a} {all = all} {tok = tok} {ts = ts} {mid = mid} {end = end} q o c d t v w) =
    let one : Typed = record { names = names; of = a } in
    let e = short_fields t.reads t.few in
    subst (λ l. SortFaults x i whole n tok l why ts) (sym q)
    (inr (o, inr (c, inr (one, mid, d, inr (fields names a all, end, (e.0, ap (fields names a) e.1 ∙ sym (more_fields one e.0), e.2), inl (v, w))))))
