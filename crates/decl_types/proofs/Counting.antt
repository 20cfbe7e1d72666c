-- Definitions that become known are fewer with each step.
use Rattle.std.proofs.Common.{◌≡◌, ℕ, zero, suc, ◌+◌, ◌<◌, ◌≤◌, List, [], ◌∷◌, length, Some, None, refl, sym, ap, ◌∙◌, arith}
use Rattle.std.specs.Prelude.{Bool, true, false, not, if◌then◌else◌, Option, IfSome, slice_get, slice_set, map}
use Rattle.std.proofs.lemmas.Bool.{both_ways}
use Rattle.std.proofs.lemmas.Option.{none-some, same_Some}
use Rattle.decl_types.specs.declared.known.Definition.{Definition}
use Rattle.decl_types.specs.declared.known.Meaning.{Meaning}
use Rattle.decl_types.specs.declared.known.Meaning.TheVariants as M
use Rattle.decl_types.specs.ViewMarks.{mark_at, node_marks, meaning_mark, definition_mark, is_next, next_from, Stuck, is_enum}
use Rattle.decl_types.specs.ViewMarks.{is_unknown}

-- ---- the next one

is_marked : (mark named : Bool) → (if mark then not named else false) ≡ true → mark ≡ true
is_marked true named e = refl
is_marked false named e = absurd (both_ways false refl e)

isnt_named : (mark named : Bool) → (if mark then not named else false) ≡ true → named ≡ false
isnt_named true true e = absurd (both_ways false refl e)
isnt_named true false e = refl
isnt_named false named e = absurd (both_ways false refl e)

-- from a number on
abbrev Found : List Bool → ℕ → List Definition → ℕ → Type 0
Found marks j read n = (i : ℕ) (d : Definition) → n ≡ j + i → slice_get read i ≡ Some d → is_next marks n d ≡ true

found_later : (marks : List Bool) (j : ℕ) (x : Definition) (rest : List Definition) (n : ℕ) → suc j ≤ n → Found marks (suc j) rest n
    → Found marks j (x ∷ rest) n
found_later marks j x rest n le h zero d e f = absurd (omega (arith, e, le))
found_later marks j x rest n le h (suc i) d e f = h i d (omega (arith, e)) f

found_here : (marks : List Bool) (j : ℕ) (x : Definition) (rest : List Definition) → is_next marks j x ≡ true → Found marks j (x ∷ rest) j
found_here marks j x rest t zero d e f = ap (is_next marks j) (sym (same_Some x d f)) ∙ t
found_here marks j x rest t (suc i) d e f = absurd (omega (arith, e))

found_either : (marks : List Bool) (j : ℕ) (x : Definition) (rest : List Definition) (o : Option ℕ)
    → IfSome o (λ n. (suc j ≤ n) × Found marks (suc j) rest n) → IfSome o (λ n. (j ≤ n) × Found marks j (x ∷ rest) n)
found_either marks j x rest None h = tt
found_either marks j x rest (Some n) h = (let le = h.0 in omega (arith, le), λ i d e f. found_later marks j x rest n h.0 h.1 i d e f)

found_from : (marks : List Bool) (j : ℕ) (read : List Definition) → IfSome (next_from marks j read) (λ n. (j ≤ n) × Found marks j read n)
found_from marks j [] = tt
found_from marks j (x ∷ rest) = by_test (is_next marks j x) refl (found_from marks (suc j) rest)
  where
    by_test : (b : Bool) → is_next marks j x ≡ b → IfSome (next_from marks (suc j) rest) (λ n. (suc j ≤ n) × Found marks (suc j) rest n)
        → IfSome (if b then Some j else next_from marks (suc j) rest) (λ n. (j ≤ n) × Found marks j (x ∷ rest) n)
    by_test true e go = (omega arith, λ i d f g. found_here marks j x rest e i d f g)
    by_test false e go = found_either marks j x rest (next_from marks (suc j) rest) go

pub next_found : (marks : List Bool) (read : List Definition)
    → IfSome (next_from marks 0 read) (λ n. (d : Definition) → slice_get read n ≡ Some d → is_next marks n d ≡ true)
next_found marks read = by_next (next_from marks 0 read) (found_from marks 0 read)
  where
    by_next : (o : Option ℕ) → IfSome o (λ n. (0 ≤ n) × Found marks 0 read n)
        → IfSome o (λ n. (d : Definition) → slice_get read n ≡ Some d → is_next marks n d ≡ true)
    by_next None h = tt
    by_next (Some n) h = λ d e. let at : n ≡ 0 + n = omega arith in h.1 n d at e

-- what that says of the definition
pub found_marked : (marks : List Bool) (n : ℕ) (d : Definition) → is_next marks n d ≡ true → mark_at marks n ≡ true
found_marked marks n d e = is_marked (mark_at marks n) (definition_mark marks d) e

pub found_named : (marks : List Bool) (n : ℕ) (d : Definition) → is_next marks n d ≡ true → definition_mark marks d ≡ false
found_named marks n d e = isnt_named (mark_at marks n) (definition_mark marks d) e

stuck_from : (marks : List Bool) (j : ℕ) (read : List Definition) → next_from marks j read ≡ None → (i : ℕ) (d : Definition)
    → slice_get read i ≡ Some d → is_next marks (j + i) d ≡ false
stuck_from marks j [] e i d f = absurd (none-some d f)
stuck_from marks j (x ∷ rest) e i d f = by_test (is_next marks j x) refl e (λ g. stuck_from marks (suc j) rest g) i f
  where
    by_test : (b : Bool) → is_next marks j x ≡ b → (if b then Some j else next_from marks (suc j) rest) ≡ None
        → (next_from marks (suc j) rest ≡ None → (i : ℕ) (d : Definition) → slice_get rest i ≡ Some d → is_next marks (suc j + i) d ≡ false)
        → (i : ℕ) → slice_get (x ∷ rest) i ≡ Some d → is_next marks (j + i) d ≡ false
    by_test true h e go i f = absurd (none-some j (sym e))
    by_test false h e go zero f =
        let n : j + 0 ≡ j = omega arith in
        ap (λ k. is_next marks k d) n ∙ ap (is_next marks j) (sym (same_Some x d f)) ∙ h
    by_test false h e go (suc i) f = let n : j + suc i ≡ suc j + i = omega arith in ap (λ k. is_next marks k d) n ∙ go e i d f

pub next_stuck : (marks : List Bool) (read : List Definition) → next_from marks 0 read ≡ None → Stuck marks read
next_stuck marks read e = λ i d f. let n : i ≡ 0 + i = omega arith in ap (λ k. is_next marks k d) n ∙ stuck_from marks 0 read e i d f

-- ---- how many aren't known

abbrev one_of : Option ℕ → ℕ
one_of None = 1
one_of (Some id) = 0

-- of the first so many
abbrev pub unknowns : ℕ → List (Option ℕ) → ℕ
unknowns zero known = 0
unknowns (suc n) [] = 0
unknowns (suc n) (o ∷ known) = one_of o + unknowns n known

pub unknowns_most : (n : ℕ) (known : List (Option ℕ)) → unknowns n known ≤ n
unknowns_most zero known = omega arith
unknowns_most (suc n) [] = omega arith
unknowns_most (suc n) (None ∷ known) = let r = unknowns_most n known in omega (arith, r)
unknowns_most (suc n) (Some id ∷ known) = let r = unknowns_most n known in omega (arith, r)

pub unknowns_less : (n : ℕ) (known : List (Option ℕ)) (i id : ℕ) → i < n → mark_at (map is_unknown known) i ≡ true
    → suc (unknowns n (slice_set known i (Some id))) ≡ unknowns n known
unknowns_less zero known i id h e = absurd (omega (arith, h))
unknowns_less (suc n) [] i id h e = absurd (both_ways false refl e)
unknowns_less (suc n) (None ∷ known) zero id h e = omega arith
unknowns_less (suc n) (Some x ∷ known) zero id h e = absurd (both_ways false refl e)
unknowns_less (suc n) (None ∷ known) (suc i) id h e = let r = unknowns_less n known i id (omega (arith, h)) e in omega (arith, r)
unknowns_less (suc n) (Some x ∷ known) (suc i) id h e = let r = unknowns_less n known i id (omega (arith, h)) e in omega (arith, r)

unknowns_none : (n : ℕ) (known : List (Option ℕ)) (i : ℕ) → unknowns n known ≡ 0 → i < n → mark_at (map is_unknown known) i ≡ false
unknowns_none zero known i e h = absurd (omega (arith, h))
unknowns_none (suc n) [] i e h = refl
unknowns_none (suc n) (None ∷ known) i e h = absurd (omega (arith, e))
unknowns_none (suc n) (Some x ∷ known) zero e h = refl
unknowns_none (suc n) (Some x ∷ known) (suc i) e h = unknowns_none n known i (omega (arith, e)) (omega (arith, h))

get_within : (read : List Definition) (i : ℕ) (d : Definition) → slice_get read i ≡ Some d → i < length read
get_within [] i d e = absurd (none-some d e)
get_within (x ∷ read) zero d e = omega arith
get_within (x ∷ read) (suc i) d e = let r = get_within read i d e in omega (arith, r)

-- where all are known
pub all_stuck : (known : List (Option ℕ)) (read : List Definition) → unknowns (length read) known ≡ 0 → Stuck (map is_unknown known) read
all_stuck known read e = λ i d f.
    ap (λ (b : Bool). if b then not (definition_mark (map is_unknown known) d) else false)
    (unknowns_none (length read) known i e (get_within read i d f))

-- ---- enums

pub known_there : (known : List (Option ℕ)) (i : ℕ) → i < length known → mark_at (map is_unknown known) i ≡ false
    → (id : ℕ) × (slice_get known i ≡ Some (Some id))
known_there [] i h e = absurd (omega (arith, h))
known_there (None ∷ known) zero h e = absurd (both_ways true e refl)
known_there (Some id ∷ known) zero h e = (id, refl)
known_there (o ∷ known) (suc i) h e = known_there known i (omega (arith, h)) e

names_none : (before : List Bool) (m : Meaning) → is_enum m ≡ true → meaning_mark before m ≡ false
names_none before (M.Enum members) e = refl
names_none before (M.Object names is) e = absurd (both_ways false refl e)
names_none before (M.Distinct i) e = absurd (both_ways false refl e)
names_none before (M.Alias i) e = absurd (both_ways false refl e)

unmarked : (mark named : Bool) → named ≡ false → (if mark then not named else false) ≡ false → mark ≡ false
unmarked false named e f = refl
unmarked true named e f = sym (ap not e) ∙ f

-- an enum names none
pub enum_known : (known : List (Option ℕ)) (read : List Definition) (i : ℕ) (d : Definition) → Stuck (map is_unknown known) read
    → slice_get read i ≡ Some d → is_enum d.meaning ≡ true → i < length known → (id : ℕ) × (slice_get known i ≡ Some (Some id))
enum_known known read i d h f e lt =
    let marks = map is_unknown known in
    known_there known i lt
    (unmarked (mark_at marks i) (definition_mark marks d) (names_none (node_marks marks d.nodes.items) d.meaning e) (h i d f))

pub none_stuck : (marks : List Bool) (read : List Definition) → read ≡ [] → Stuck marks read
none_stuck marks read e = λ i d f. absurd (none-some d (ap (λ (l : List Definition). slice_get l i) (sym e) ∙ f))
