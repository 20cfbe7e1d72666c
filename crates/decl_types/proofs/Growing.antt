-- Types that become known one after another.
use Rattle.std.proofs.Common.{◌≡◌, ℕ, zero, suc, ◌+◌, ◌<◌, List, [], ◌∷◌, ◌++◌, length, Some, None, refl, sym, ap, ap₂, subst}
use Rattle.std.proofs.Common.{◌∙◌, arith}
use Rattle.std.proofs.Common.{append_assoc}
use Rattle.std.specs.Prelude.{Option, slice_get, slice_set, map}
use Rattle.std.proofs.lemmas.Option.{none-some, same_Some}
use Rattle.nim_tree.specs.Types.{Declaration}
use Rattle.nim_types.specs.declared.types.TypeDef.{TypeDef}
use Rattle.nim_types.specs.Types.{Ty, Key}
use Rattle.nim_types.specs.Table.{facts_in}
use Rattle.expr_rules.specs.Env.{Entry}
use Rattle.expr_parts.specs.declared.scope.Decl.{Decl}
use Rattle.expr_parts.specs.declared.scope.Scope.{Scope}
use Rattle.expr_parts.specs.View.{Under}
use Rattle.decl_rules.specs.State.{State}
use Rattle.decl_rules.specs.Meanings.{KnownType, as_known, known_facts, known_keys, keys_of, or_name, next_in, known_more, and_known, is_key_among}
use Rattle.decl_rules.specs.Meanings.{is_next as is_next_key}
use Rattle.decl_types.specs.declared.known.Definition.{Definition}
use Rattle.decl_types.specs.declared.nodes.Names.{Names}
use Rattle.decl_types.specs.ViewKnown.{Kept, Becomes, Untouched, meaning_by, key_by}
use Rattle.decl_types.specs.ViewReading.{defined_by, all_defined, defined_at, defined_or, is_open, IsReading}
use Rattle.decl_types.specs.ViewScoped.{own_in, numbers_by, decls_by, declaration_from, mended_from, Knows, Fixed, Scoped, Reads, KnowsOne}
use Rattle.decl_types.specs.ViewMarks.{is_unknown}
use Rattle.decl_types.specs.ViewScoped.{KnowsAll}
use Rattle.decl_types.proofs.Positions.{key_among}
use Rattle.decl_types.proofs.Meaning.{known_count, known_as, closed_key, marks_open, knows_more, facts_more, next_holds, next_new}
use Rattle.decl_types.proofs.Scoping.{mended_types, keys_count}

-- ---- one

get_below : (read : List Definition) (i : ℕ) (d : Definition) → slice_get read i ≡ Some d → i < length read
get_below [] i d e = absurd (none-some d e)
get_below (x ∷ read) zero d e = omega arith
get_below (x ∷ read) (suc i) d e = let r = get_below read i d e in omega (arith, r)

get_there : (read : List Definition) (i : ℕ) → i < length read → (d : Definition) × (slice_get read i ≡ Some d)
get_there [] i h = absurd (omega (arith, h))
get_there (d ∷ read) zero h = (d, refl)
get_there (d ∷ read) (suc i) h = get_there read i (omega (arith, h))

pub names_untouched : (ts : List Ty) (st : State) (all : List Declaration) (old : List Decl) (names : Names) (n : ℕ) (k : List KnownType)
    (known : List (Option ℕ)) → Fixed ts st all old names n → Knows ts (keys_of all) k known → Untouched ts n (meaning_by k)
names_untouched ts st all old names n k known f h = f.away.untouched (meaning_by k) (λ key out. ap (or_name key) (h.only key out))

pub knows_one : (ds es : List TypeDef) (scope new : Scope) (names : Names) (known more : List (Option ℕ)) (read : List Definition) (number id : ℕ)
    (d : Definition) → slice_get read number ≡ Some d → Becomes ds es known d id → more ≡ slice_set known number (Some id)
    → new.decls ≡ mended_from scope.decls names.start (declaration_from 0 names.numbers.items number) id
    → new.home ≡ scope.home → KnowsOne ds es scope new names known more read number
knows_one ds es scope new names known more read number id d at b now decls home =
    λ ts st all old n m k members e u f r h get fresh.
    let keys = keys_of all in
    let same : d ≡ e = same_Some d e (sym at ∙ get) in
    let sound = r.sound number d at in
    let is = b.means n m sound ts (facts_in es) u keys k (known_as ts keys k known h.knows) (names_untouched ts st all old names n k known f h.knows) in
    let x = as_known k (defined_by ts keys d) in
    let lt : number < length keys = let a = get_below read number d at in let w = r.within in omega (arith, a, w) in
    let count : length known ≡ length all = known_count ts keys k known h.knows ∙ keys_count all in
    let zero_on : number ≡ 0 + number = omega arith in
    let start : names.start + 0 ≡ length old = omega (arith, f.start) in
    let types = decls_by (own_in st) [] known all in
    let done : Scoped ts st all old more (k ++ x ∷ []) members es new = record {
      seen = h.seen;
      decls =
          decls ∙ ap₂ (λ (xs : List Decl) (ns : List ℕ). mended_from xs names.start (declaration_from 0 ns number) id) h.decls f.numbers
          ∙ ap (λ j. mended_from (old ++ (types ++ h.seen)) names.start (declaration_from 0 (numbers_by (own_in st) [] 0 all) j) id) zero_on
          ∙ mended_types (own_in st) [] known all 0 0 names.start number id old h.seen count start
          ∙ ap (λ ks. old ++ (decls_by (own_in st) [] ks all ++ h.seen)) (sym now);
      shown = h.shown;
      home = home ∙ h.home;
      facts =
          is.1 ∙ ap (λ fs. fs ++ x.says) h.facts ∙ append_assoc st.env.facts (known_facts k) x.says
          ∙ ap (λ fs. st.env.facts ++ fs) (sym (facts_more k x));
      knows =
          subst (Knows ts keys (k ++ x ∷ [])) (sym now)
          (knows_more ts keys k x id known number h.knows f.differ lt (r.key number d at) (sym is.0)
          (ap (λ (z : Definition). is_key_among (key_by z) (known_keys k)) same ∙ fresh));
    } in
    subst (λ (z : Definition). Scoped ts st all old more (k ++ as_known k (defined_by ts keys z) ∷ []) members es new) same done

-- ---- all

abbrev pub IsNext : List (Option ℕ) → List Definition → Option ℕ → Type 0
IsNext known read next =
    (n m : ℕ) (ts : List Ty) (keys : List Key) (k : List KnownType) → IsReading n m ts keys k (map is_unknown known) read
    → next_in (is_next_key keys (all_defined ts keys read) k) (all_defined ts keys read) ≡ defined_at ts keys read next

-- what is known so far, and what the rest of the steps gives
abbrev pub KnowsLeft : (from ds : List TypeDef) → (before scope : Scope) → Names → (first known : List (Option ℕ)) → (read rest : List Definition)
    → Type 0
KnowsLeft from ds before scope names first known read rest =
    (ts : List Ty) (st : State) (all : List Declaration) (old : List Decl) (n m : ℕ) (k : List KnownType) (members : List Entry)
    → Under ds ts (facts_in ds) → Fixed ts st all old names n → Reads n m (keys_of all) read → Scoped ts st all old first k members from before
    → (now : List KnownType) × Scoped ts st all old known now members ds scope
    × (known_more (length read) (keys_of all) (all_defined ts (keys_of all) read) k
    ≡ known_more (length rest) (keys_of all) (all_defined ts (keys_of all) read) now)

reading_is : (ts : List Ty) (st : State) (all : List Declaration) (old : List Decl) (names : Names) (n m : ℕ) (k : List KnownType)
    (known : List (Option ℕ)) (read : List Definition) → Fixed ts st all old names n → Reads n m (keys_of all) read → Knows ts (keys_of all) k known
    → IsReading n m ts (keys_of all) k (map is_unknown known) read
reading_is ts st all old names n m k known read f r h = record {
  sound = r.sound;
  key = r.key;
  among = λ i lt. key_among (keys_of all) i (let w = r.within in omega (arith, lt, w));
  differ = λ i j a b e. let w = r.within in f.differ i j (omega (arith, a, w)) (omega (arith, b, w)) e;
  marked = marks_open ts (keys_of all) k known h f.none;
  apart = f.away.apart (is_open (keys_of all) k) (λ key out. closed_key (keys_of all) k key out);
}

pub knows_first : (ds : List TypeDef) (scope : Scope) (names : Names) (known : List (Option ℕ)) (read : List Definition)
    → KnowsLeft ds ds scope scope names known known read read
knows_first ds scope names known read = λ ts st all old n m k members u f r h. (k, h, refl)

pub knows_step : (from mid es : List TypeDef) (before scope new : Scope) (names : Names) (first known more : List (Option ℕ))
    (read rest : List Definition) (x : Definition) (number : ℕ) → KnowsLeft from mid before scope names first known read (x ∷ rest) → Kept mid es
    → IsNext known read (Some number) → number < length read → KnowsOne mid es scope new names known more read number
    → KnowsLeft from es before new names first more read rest
knows_step from mid es before scope new names first known more read rest x number left kept next lt one =
    λ ts st all old n m k members u f r h.
    let keys = keys_of all in
    let all_read = all_defined ts keys read in
    let now = left ts st all old n m k members (kept.under ts (facts_in es) u) f r h in
    let d = get_there read number lt in
    let due : next_in (is_next_key keys all_read now.0) all_read ≡ Some (defined_by ts keys d.0) =
    next n m ts keys now.0 (reading_is ts st all old names n m now.0 known read f r now.1.knows) ∙ ap (defined_or ts keys) d.1 in
    let fresh = next_new keys all_read now.0 (key_by d.0) (next_holds (is_next_key keys all_read now.0) all_read (defined_by ts keys d.0) due) in (
      now.0 ++ as_known now.0 (defined_by ts keys d.0) ∷ [],
      one ts st all old n m now.0 members d.0 u f r now.1 d.1 fresh,
      now.2 ∙ ap (and_known (known_more (length rest) keys all_read) now.0) due,
    )

defined_count : (ts : List Ty) (keys : List Key) (read : List Definition) → length (all_defined ts keys read) ≡ length read
defined_count ts keys [] = refl
defined_count ts keys (d ∷ read) = ap suc (defined_count ts keys read)

pub knows_none : (from ds : List TypeDef) (before scope : Scope) (names : Names) (first known : List (Option ℕ)) (read rest : List Definition)
    (x : Definition) → KnowsLeft from ds before scope names first known read (x ∷ rest) → IsNext known read None
    → KnowsAll from ds before scope names first known read
knows_none from ds before scope names first known read rest x left next =
    λ ts st all old n m k members u f r h.
    let keys = keys_of all in
    let all_read = all_defined ts keys read in
    let now = left ts st all old n m k members u f r h in
    let due : next_in (is_next_key keys all_read now.0) all_read ≡ None =
    next n m ts keys now.0 (reading_is ts st all old names n m now.0 known read f r now.1.knows) in
    subst (λ z. Scoped ts st all old known z members ds scope)
    (sym (ap (λ c. known_more c keys all_read k) (defined_count ts keys read) ∙ now.2 ∙ ap (and_known (known_more (length rest) keys all_read) now.0) due))
    now.1

pub knows_end : (from ds : List TypeDef) (before scope : Scope) (names : Names) (first known : List (Option ℕ)) (read : List Definition)
    → KnowsLeft from ds before scope names first known read [] → KnowsAll from ds before scope names first known read
knows_end from ds before scope names first known read left =
    λ ts st all old n m k members u f r h.
    let keys = keys_of all in
    let all_read = all_defined ts keys read in
    let now = left ts st all old n m k members u f r h in
    subst (λ z. Scoped ts st all old known z members ds scope) (sym (ap (λ c. known_more c keys all_read k) (defined_count ts keys read) ∙ now.2)) now.1
