-- Where no definition contains itself, all become known.
use Rattle.std.proofs.Common.{◌≡◌, ℕ, zero, suc, ◌<◌, ◌≤◌, List, [], ◌∷◌, ◌++◌, length, Some, refl, sym, ap, ◌∙◌, arith, length-append}
use Rattle.std.proofs.Common.{⊎_elim, inl, inr}
use Rattle.std.specs.Prelude.{Bool, true, false, not, ◌||◌, ◌&&◌, ◌⊎◌, if◌then◌else◌, Option, slice_get, slice_set, map}
use Rattle.std.proofs.lemmas.Bool.{both_ways}
use Rattle.std.proofs.lemmas.List.{length-map}
use Rattle.decl_types.specs.declared.nodes.Node.{Node}
use Rattle.decl_types.specs.declared.nodes.Node.TheVariants as N
use Rattle.decl_types.specs.declared.known.Definition.{Definition}
use Rattle.decl_types.specs.declared.known.Meaning.{Meaning}
use Rattle.decl_types.specs.declared.known.Meaning.TheVariants as M
use Rattle.decl_types.specs.ViewMarks.{mark_at, any_at, node_mark, marks_onto, node_marks, meaning_mark, definition_mark, is_unknown, Stuck, Unmarked}
use Rattle.decl_types.specs.ViewContained.{step_of, contained, NoneContained}
use Rattle.decl_types.proofs.Enclosing.{marks_count, mark_here, none_marked, mark_some, get_there}

-- what is marked here is marked there
abbrev Sub : List Bool → List Bool → Type 0
Sub xs ys = (k : ℕ) → mark_at xs k ≡ true → mark_at ys k ≡ true

-- what is marked here is marked in one of these
abbrev Split : List Bool → List Bool → List Bool → Type 0
Split xs ys zs = (k : ℕ) → mark_at xs k ≡ true → (mark_at ys k || mark_at zs k) ≡ true

-- ---- booleans

or_left : (a b : Bool) → a ≡ true → (a || b) ≡ true
or_left true b e = refl
or_left false b e = absurd (both_ways false refl e)

or_right : (a b : Bool) → b ≡ true → (a || b) ≡ true
or_right true b e = refl
or_right false b e = e

or_cases : {P : Type 0} (a b : Bool) → (a || b) ≡ true → (a ≡ true → P) → (b ≡ true → P) → P
or_cases true b e f g = f refl
or_cases false b e f g = g e

or_first : (p q r s : Bool) → (p || q) ≡ true → ((p || r) || (q || s)) ≡ true
or_first p q r s e =
    or_cases p q e (λ h. or_left (p || r) (q || s) (or_left p r h)) (λ h. or_right (p || r) (q || s) (or_left q s h))

or_second : (p q r s : Bool) → (r || s) ≡ true → ((p || r) || (q || s)) ≡ true
or_second p q r s e =
    or_cases r s e (λ h. or_left (p || r) (q || s) (or_right p r h)) (λ h. or_right (p || r) (q || s) (or_right q s h))

-- ---- what a definition names

any_split : (xs ys zs : List Bool) (is : List ℕ) → Split xs ys zs → any_at xs is ≡ true → (any_at ys is || any_at zs is) ≡ true
any_split xs ys zs [] h e = absurd (both_ways false refl e)
any_split xs ys zs (i ∷ is) h e =
    or_cases (mark_at xs i) (any_at xs is) e (λ f. or_first (mark_at ys i) (mark_at zs i) (any_at ys is) (any_at zs is) (h i f))
    (λ f. or_second (mark_at ys i) (mark_at zs i) (any_at ys is) (any_at zs is) (any_split xs ys zs is h f))

node_split : (ms ls rs xs ys zs : List Bool) (node : Node) → Split ms ls rs → Split xs ys zs → node_mark ms xs node ≡ true
    → (node_mark ls ys node || node_mark rs zs node) ≡ true
node_split ms ls rs xs ys zs (N.Known id) h g e = absurd (both_ways false refl e)
node_split ms ls rs xs ys zs (N.Named k) h g e = h k e
node_split ms ls rs xs ys zs (N.Sequence i) h g e = g i e
node_split ms ls rs xs ys zs (N.Array at len i) h g e = g i e
node_split ms ls rs xs ys zs (N.Tuple at names is) h g e = any_split xs ys zs is g e

split_last : (xs ys zs : List Bool) (x y z : Bool) → length ys ≡ length xs → length zs ≡ length xs → Split xs ys zs
    → (x ≡ true → (y || z) ≡ true) → (k : ℕ) → mark_at (xs ++ x ∷ []) k ≡ true → (mark_at (ys ++ y ∷ []) k || mark_at (zs ++ z ∷ []) k) ≡ true
split_last [] [] [] x y z l m h f zero e = f e
split_last [] [] [] x y z l m h f (suc k) e = absurd (both_ways false refl e)
split_last [] (b ∷ ys) zs x y z l m h f k e = absurd (omega (arith, l))
split_last [] [] (c ∷ zs) x y z l m h f k e = absurd (omega (arith, m))
split_last (a ∷ xs) [] zs x y z l m h f k e = absurd (omega (arith, l))
split_last (a ∷ xs) (b ∷ ys) [] x y z l m h f k e = absurd (omega (arith, m))
split_last (a ∷ xs) (b ∷ ys) (c ∷ zs) x y z l m h f zero e = h 0 e
split_last (a ∷ xs) (b ∷ ys) (c ∷ zs) x y z l m h f (suc k) e =
    split_last xs ys zs x y z (omega (arith, l)) (omega (arith, m)) (λ j g. h (suc j) g) f k e

onto_split : (ms ls rs xs ys zs : List Bool) (nodes : List Node) → Split ms ls rs → Split xs ys zs → length ys ≡ length xs → length zs ≡ length xs
    → (k : ℕ) → mark_at (marks_onto ms xs nodes) k ≡ true → (mark_at (marks_onto ls ys nodes) k || mark_at (marks_onto rs zs nodes) k) ≡ true
onto_split ms ls rs xs ys zs [] h g l m k e = g k e
onto_split ms ls rs xs ys zs (node ∷ nodes) h g l m k e =
    let x = node_mark ms xs node in
    let y = node_mark ls ys node in
    let z = node_mark rs zs node in
    onto_split ms ls rs (xs ++ x ∷ []) (ys ++ y ∷ []) (zs ++ z ∷ []) nodes h
    (λ j f. split_last xs ys zs x y z l m g (λ t. node_split ms ls rs xs ys zs node h g t) j f)
    (omega (arith, l, length-append xs (x ∷ []), length-append ys (y ∷ [])))
    (omega (arith, m, length-append xs (x ∷ []), length-append zs (z ∷ []))) k e

meaning_split : (xs ys zs : List Bool) (m : Meaning) → Split xs ys zs → meaning_mark xs m ≡ true → (meaning_mark ys m || meaning_mark zs m) ≡ true
meaning_split xs ys zs (M.Object names is) g e = any_split xs ys zs is g e
meaning_split xs ys zs (M.Enum members) g e = absurd (both_ways false refl e)
meaning_split xs ys zs (M.Distinct i) g e = g i e
meaning_split xs ys zs (M.Alias i) g e = g i e

definition_split : (ms ls rs : List Bool) (d : Definition) → Split ms ls rs → definition_mark ms d ≡ true
    → (definition_mark ls d || definition_mark rs d) ≡ true
definition_split ms ls rs d h e =
    let nodes = d.nodes.items in
    meaning_split (node_marks ms nodes) (node_marks ls nodes) (node_marks rs nodes) d.meaning
    (λ k f. onto_split ms ls rs [] [] [] nodes h (λ j g. absurd (both_ways false refl g)) refl refl k f) e

definition_sub : (ms ls : List Bool) (d : Definition) → Sub ms ls → definition_mark ms d ≡ true → definition_mark ls d ≡ true
definition_sub ms ls d h e =
    or_cases (definition_mark ls d) (definition_mark ls d)
    (definition_split ms ls ls d (λ k f. or_left (mark_at ls k) (mark_at ls k) (h k f)) e) (λ f. f) (λ f. f)

-- ---- how many are marked

abbrev tally : List Bool → ℕ
tally [] = 0
tally (true ∷ xs) = suc (tally xs)
tally (false ∷ xs) = tally xs

tally_most : (xs : List Bool) → tally xs ≤ length xs
tally_most [] = omega arith
tally_most (true ∷ xs) = let r = tally_most xs in omega (arith, r)
tally_most (false ∷ xs) = let r = tally_most xs in omega (arith, r)

tally_some : (xs : List Bool) (k : ℕ) → mark_at xs k ≡ true → 0 < tally xs
tally_some [] k e = absurd (both_ways false refl e)
tally_some (true ∷ xs) k e = omega arith
tally_some (false ∷ xs) zero e = absurd (both_ways false refl e)
tally_some (false ∷ xs) (suc k) e = tally_some xs k e

tally_sub : (xs ys : List Bool) → length xs ≡ length ys → Sub xs ys → (xs ≡ ys) ⊎ (tally xs < tally ys)
tally_sub [] [] l h = inl refl
tally_sub [] (y ∷ ys) l h = absurd (omega (arith, l))
tally_sub (x ∷ xs) [] l h = absurd (omega (arith, l))
tally_sub (x ∷ xs) (y ∷ ys) l h = by_first x y (h 0) (tally_sub xs ys (omega (arith, l)) (λ k e. h (suc k) e))
  where
    by_first : (x y : Bool) → (x ≡ true → y ≡ true) → (xs ≡ ys) ⊎ (tally xs < tally ys) → (x ∷ xs ≡ y ∷ ys) ⊎ (tally (x ∷ xs) < tally (y ∷ ys))
    by_first true true f r =
        ⊎_elim (λ (e : xs ≡ ys). inl (ap (λ (l : List Bool). true ∷ l) e)) (λ (lt : tally xs < tally ys). inr (omega (arith, lt))) r
    by_first false false f r =
        ⊎_elim (λ (e : xs ≡ ys). inl (ap (λ (l : List Bool). false ∷ l) e)) (λ (lt : tally xs < tally ys). inr lt) r
    by_first false true f r =
        ⊎_elim (λ (e : xs ≡ ys). inr (let t = ap tally e in omega (arith, t))) (λ (lt : tally xs < tally ys). inr (omega (arith, lt))) r
    by_first true false f r = absurd (both_ways false refl (f refl))

-- ---- definitions that contain one

sub_map : (f g : Definition → Bool) (read : List Definition) → ((d : Definition) → f d ≡ true → g d ≡ true) → (k : ℕ)
    → mark_at (map f read) k ≡ true → mark_at (map g read) k ≡ true
sub_map f g [] h k e = e
sub_map f g (d ∷ read) h zero e = h d e
sub_map f g (d ∷ read) h (suc k) e = sub_map f g read h k e

sub_set : (xs ys : List Bool) (i : ℕ) → length xs ≡ length ys → Sub xs ys → (k : ℕ) → mark_at (slice_set xs i true) k ≡ true
    → mark_at (slice_set ys i true) k ≡ true
sub_set [] [] i l h k e = e
sub_set [] (y ∷ ys) i l h k e = absurd (omega (arith, l))
sub_set (x ∷ xs) [] i l h k e = absurd (omega (arith, l))
sub_set (x ∷ xs) (y ∷ ys) zero l h zero e = refl
sub_set (x ∷ xs) (y ∷ ys) zero l h (suc k) e = h (suc k) e
sub_set (x ∷ xs) (y ∷ ys) (suc i) l h zero e = h 0 e
sub_set (x ∷ xs) (y ∷ ys) (suc i) l h (suc k) e = sub_set xs ys i (omega (arith, l)) (λ j f. h (suc j) f) k e

set_sub : (xs : List Bool) (i k : ℕ) → mark_at xs k ≡ true → mark_at (slice_set xs i true) k ≡ true
set_sub [] i k e = e
set_sub (x ∷ xs) zero zero e = refl
set_sub (x ∷ xs) zero (suc k) e = e
set_sub (x ∷ xs) (suc i) zero e = e
set_sub (x ∷ xs) (suc i) (suc k) e = set_sub xs i k e

rises : (n : ℕ) (read : List Definition) (j k : ℕ) → mark_at (contained n read j) k ≡ true → mark_at (contained (suc n) read j) k ≡ true
rises zero read j k e = absurd (both_ways (mark_at (map (λ _. false) read) k) (none_marked read k) e)
rises (suc n) read j k e =
    let before = contained n read j in
    let behind = contained (suc n) read j in
    let l : length before ≡ length behind = marks_count n read j ∙ sym (marks_count (suc n) read j) in
    sub_map (definition_mark (slice_set before j true)) (definition_mark (slice_set behind j true)) read
    (λ d f. definition_sub (slice_set before j true) (slice_set behind j true) d (λ i g. sub_set before behind j l (λ h t. rises n read j h t) i g) f) k e

grows : (n : ℕ) (read : List Definition) (j : ℕ) → (contained (suc n) read j ≡ contained n read j) ⊎ (n < tally (contained (suc n) read j))
grows zero read j =
    let l : length (contained 0 read j) ≡ length (contained 1 read j) = marks_count 0 read j ∙ sym (marks_count 1 read j) in
    ⊎_elim (λ (e : contained 0 read j ≡ contained 1 read j). inl (sym e))
    (λ (lt : tally (contained 0 read j) < tally (contained 1 read j)). inr (omega (arith, lt)))
    (tally_sub (contained 0 read j) (contained 1 read j) l (λ k e. rises 0 read j k e))
grows (suc n) read j =
    let now = contained (suc n) read j in
    let next = contained (suc (suc n)) read j in
    let l : length now ≡ length next = marks_count (suc n) read j ∙ sym (marks_count (suc (suc n)) read j) in
    ⊎_elim (λ (e : now ≡ contained n read j). inl (ap (step_of read j) e))
    (λ (lt : n < tally now).
    ⊎_elim (λ (e : now ≡ next). inl (sym e)) (λ (more : tally now < tally next). inr (omega (arith, lt, more)))
    (tally_sub now next l (λ k e. rises (suc n) read j k e))) (grows n read j)

stable : (read : List Definition) (j : ℕ) → contained (suc (length read)) read j ≡ contained (length read) read j
stable read j =
    let all = contained (suc (length read)) read j in
    ⊎_elim (λ (e : all ≡ contained (length read) read j). e)
    (λ (lt : length read < tally all). absurd (omega (arith, lt, tally_most all, marks_count (suc (length read)) read j))) (grows (length read) read j)

-- ---- marks without others

abbrev without : List Bool → List Bool → List Bool
without [] cs = []
without (u ∷ us) [] = u ∷ us
without (u ∷ us) (c ∷ cs) = (u && not c) ∷ without us cs

and_first : (u c : Bool) → (u && not c) ≡ true → u ≡ true
and_first true c e = refl
and_first false c e = e

and_second : (u c : Bool) → (u && not c) ≡ true → c ≡ false
and_second u false e = refl
and_second true true e = absurd (both_ways false refl e)
and_second false true e = absurd (both_ways false refl e)

and_or : (u c : Bool) → u ≡ true → (c || (u && not c)) ≡ true
and_or u true e = refl
and_or true false e = refl
and_or false false e = e

kept_in : (us cs : List Bool) (k : ℕ) → mark_at (without us cs) k ≡ true → mark_at us k ≡ true
kept_in [] cs k e = e
kept_in (u ∷ us) [] k e = e
kept_in (u ∷ us) (c ∷ cs) zero e = and_first u c e
kept_in (u ∷ us) (c ∷ cs) (suc k) e = kept_in us cs k e

kept_out : (us cs : List Bool) (k : ℕ) → length us ≡ length cs → mark_at (without us cs) k ≡ true → mark_at cs k ≡ false
kept_out [] cs k l e = absurd (both_ways false refl e)
kept_out (u ∷ us) [] k l e = absurd (omega (arith, l))
kept_out (u ∷ us) (c ∷ cs) zero l e = and_second u c e
kept_out (u ∷ us) (c ∷ cs) (suc k) l e = kept_out us cs k (omega (arith, l)) e

kept_split : (us cs : List Bool) (k : ℕ) → mark_at us k ≡ true → (mark_at cs k || mark_at (without us cs) k) ≡ true
kept_split [] cs k e = absurd (both_ways false refl e)
kept_split (u ∷ us) [] k e = e
kept_split (u ∷ us) (c ∷ cs) zero e = and_or u c e
kept_split (u ∷ us) (c ∷ cs) (suc k) e = kept_split us cs k e

kept_count : (us cs : List Bool) → length (without us cs) ≡ length us
kept_count [] cs = refl
kept_count (u ∷ us) [] = refl
kept_count (u ∷ us) (c ∷ cs) = ap suc (kept_count us cs)

marked_within : (xs : List Bool) (k : ℕ) → mark_at xs k ≡ true → k < length xs
marked_within [] k e = absurd (both_ways false refl e)
marked_within (x ∷ xs) zero e = omega arith
marked_within (x ∷ xs) (suc k) e = let r = marked_within xs k e in omega (arith, r)

set_count : (xs : List Bool) (i : ℕ) → length (slice_set xs i true) ≡ length xs
set_count [] i = refl
set_count (x ∷ xs) zero = refl
set_count (x ∷ xs) (suc i) = ap suc (set_count xs i)

-- ---- the whole

-- each that is marked names a marked one
abbrev Names : List Bool → List Definition → Type 0
Names us read = (k : ℕ) (d : Definition) → slice_get read k ≡ Some d → mark_at us k ≡ true → definition_mark us d ≡ true

-- what names one that contains it
closed : (read : List Definition) (i k : ℕ) (d : Definition) → slice_get read k ≡ Some d
    → definition_mark (slice_set (contained (length read) read i) i true) d ≡ true → mark_at (contained (length read) read i) k ≡ true
closed read i k d at e =
    ap (λ (m : List Bool). mark_at m k) (sym (stable read i))
    ∙ mark_some (definition_mark (slice_set (contained (length read) read i) i true)) read k d at ∙ e

one_named : (us : List Bool) (read : List Definition) → NoneContained read → length us ≡ length read → Names us read → (i : ℕ)
    → mark_at us i ≡ true → ((vs : List Bool) → tally vs < tally us → length vs ≡ length read → Names vs read → (k : ℕ) → mark_at vs k ≡ false) → ⊥
one_named us read none l names i e smaller =
    let all = contained (length read) read i in
    let set = slice_set all i true in
    let count : length all ≡ length read = marks_count (length read) read i in
    let lt : i < length read = let r = marked_within us i e in omega (arith, r, l) in
    let d = get_there read i lt in
    let same : length us ≡ length set = l ∙ sym (set_count all i ∙ count) in
    let vs = without us set in
    let here : mark_at set i ≡ true = mark_here all i (omega (arith, lt, count)) in
    let less : tally vs < tally us =
    ⊎_elim (λ (f : vs ≡ us). absurd (both_ways (mark_at set i) (kept_out us set i same (ap (λ (m : List Bool). mark_at m i) f ∙ e)) here))
    (λ (f : tally vs < tally us). f) (tally_sub vs us (kept_count us set) (λ k f. kept_in us set k f)) in
    let rest : Names vs read = λ k c at m.
    or_cases (definition_mark set c) (definition_mark vs c)
    (definition_split us set vs c (λ j f. kept_split us set j f) (names k c at (kept_in us set k m)))
    (λ f. absurd (both_ways (mark_at set k) (kept_out us set k same m) (set_sub all i k (closed read i k c at f)))) (λ f. f) in
    let gone = smaller vs less (kept_count us set ∙ l) rest in
    let mark : definition_mark set d.0 ≡ true =
    or_cases (definition_mark set d.0) (definition_mark vs d.0) (definition_split us set vs d.0 (λ j f. kept_split us set j f) (names i d.0 d.1 e))
    (λ f. f) (λ f. definition_sub vs set d.0 (λ k m. absurd (both_ways (mark_at vs k) (gone k) m)) f) in
    both_ways (mark_at all i) (none i lt) (closed read i i d.0 d.1 mark)

false_of : (b : Bool) → (b ≡ true → ⊥) → b ≡ false
false_of true h = absurd (h refl)
false_of false h = refl

none_named : (n : ℕ) (us : List Bool) (read : List Definition) → NoneContained read → tally us ≤ n → length us ≡ length read → Names us read
    → (i : ℕ) → mark_at us i ≡ false
none_named zero us read none most l names i = false_of (mark_at us i) (λ e. let t = tally_some us i e in omega (arith, most, t))
none_named (suc n) us read none most l names i =
    false_of (mark_at us i) (λ e. one_named us read none l names i e
    (λ vs less count rest k. none_named n vs read none (omega (arith, less, most)) count rest k))

named_by : (mark named : Bool) → (if mark then not named else false) ≡ false → mark ≡ true → named ≡ true
named_by true true e m = refl
named_by true false e m = absurd (both_ways true e refl)
named_by false named e m = absurd (both_ways false refl m)

pub all_known : (known : List (Option ℕ)) (read : List Definition) → length known ≡ length read → Stuck (map is_unknown known) read
    → NoneContained read → Unmarked (map is_unknown known)
all_known known read l h none =
    let us = map is_unknown known in
    none_named (tally us) us read none (omega arith) (length-map known is_unknown ∙ l)
    (λ k d at m. named_by (mark_at us k) (definition_mark us d) (h k d at) m)
