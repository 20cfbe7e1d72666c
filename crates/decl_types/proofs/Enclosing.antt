-- Definitions that contain one: by marks, and as the rule says.
use Rattle.std.proofs.Common.{◌≡◌, ℕ, zero, suc, ◌+◌, ◌<◌, ◌≤◌, List, [], ◌∷◌, length, drop, Some, None, refl, sym, ap, ap₂}
use Rattle.std.proofs.Common.{◌∙◌, arith, ⊎_elim}
use Rattle.std.specs.Prelude.{Bool, true, false, not, if◌then◌else◌, Option, slice_get, slice_set, map, nat_eq}
use Rattle.std.proofs.lemmas.Bool.{false_from_ne_true, cases_lt, eqb-true, eqb-false}
use Rattle.std.proofs.lemmas.Option.{none-some, same_Some}
use Rattle.arc_base.specs.Refusal.{and_then}
use Rattle.nim_types.specs.Types.{Ty, Key, same_key}
use Rattle.decl_rules.specs.State.{if_typed}
use Rattle.decl_rules.specs.Sections.{containment_rule}
use Rattle.decl_rules.specs.Meanings.{Defined, meant_in, made_of, occurs_in_any, contains, is_key_among}
use Rattle.decl_types.specs.declared.known.Definition.{Definition}
use Rattle.decl_types.specs.ViewNodes.{no_key, key_at}
use Rattle.decl_types.specs.ViewKnown.{key_by, meant_by}
use Rattle.decl_types.specs.ViewMarks.{mark_at, definition_mark, Marks}
use Rattle.decl_types.specs.ViewReading.{all_defined}
use Rattle.decl_types.proofs.Marking.{definition_is}
use Rattle.decl_types.specs.ViewContained.{step_of, contained}
use Rattle.decl_types.specs.ViewScoped.{Whole}
use Rattle.decl_types.proofs.Positions.{one_key, key_same, key_among}

-- ---- marks

pub marks_count : (steps : ℕ) (read : List Definition) (number : ℕ) → length (contained steps read number) ≡ length read
marks_count zero read number = count_map (λ _. false) read
  where
    count_map : (f : Definition → Bool) (read : List Definition) → length (map f read) ≡ length read
    count_map f [] = refl
    count_map f (d ∷ read) = ap suc (count_map f read)
marks_count (suc steps) read number = count_map (definition_mark (slice_set (contained steps read number) number true)) read
  where
    count_map : (f : Definition → Bool) (read : List Definition) → length (map f read) ≡ length read
    count_map f [] = refl
    count_map f (d ∷ read) = ap suc (count_map f read)

pub mark_here : (marks : List Bool) (i : ℕ) → i < length marks → mark_at (slice_set marks i true) i ≡ true
mark_here [] i h = absurd (omega (arith, h))
mark_here (m ∷ marks) zero h = refl
mark_here (m ∷ marks) (suc i) h = mark_here marks i (omega (arith, h))

mark_other : (marks : List Bool) (i j : ℕ) → (j ≡ i → ⊥) → mark_at (slice_set marks i true) j ≡ mark_at marks j
mark_other [] i j n = refl
mark_other (m ∷ marks) zero zero n = absurd (n refl)
mark_other (m ∷ marks) zero (suc j) n = refl
mark_other (m ∷ marks) (suc i) zero n = refl
mark_other (m ∷ marks) (suc i) (suc j) n = mark_other marks i j (λ e. n (ap suc e))

pub none_marked : (read : List Definition) (j : ℕ) → mark_at (map (λ _. false) read) j ≡ false
none_marked [] j = refl
none_marked (d ∷ read) zero = refl
none_marked (d ∷ read) (suc j) = none_marked read j

pub mark_some : (f : Definition → Bool) (read : List Definition) (j : ℕ) (d : Definition) → slice_get read j ≡ Some d → mark_at (map f read) j ≡ f d
mark_some f [] j d e = absurd (none-some d e)
mark_some f (x ∷ read) zero d e = ap f (same_Some x d e)
mark_some f (x ∷ read) (suc j) d e = mark_some f read j d e

mark_none : (f : Definition → Bool) (read : List Definition) (j : ℕ) → length read ≤ j → mark_at (map f read) j ≡ false
mark_none f [] j h = refl
mark_none f (x ∷ read) zero h = absurd (omega (arith, h))
mark_none f (x ∷ read) (suc j) h = mark_none f read j (omega (arith, h))

-- ---- what keys mean

meant_out : (ts : List Ty) (keys : List Key) (key : Key) (read : List Definition)
    → ((i : ℕ) (d : Definition) → slice_get read i ≡ Some d → same_key key (key_by d) ≡ false) → meant_in key (all_defined ts keys read) ≡ None
meant_out ts keys key [] h = refl
meant_out ts keys key (d ∷ read) h =
    ap (λ (b : Bool). if b then Some (meant_by ts keys d) else meant_in key (all_defined ts keys read)) (h 0 d refl)
    ∙ meant_out ts keys key read (λ i e at. h (suc i) e at)

meant_found : (ts : List Ty) (keys : List Key) (key : Key) (read : List Definition) (j : ℕ) (d : Definition) → slice_get read j ≡ Some d
    → same_key key (key_by d) ≡ true → ((i : ℕ) (e : Definition) → i < j → slice_get read i ≡ Some e → same_key key (key_by e) ≡ false)
    → meant_in key (all_defined ts keys read) ≡ Some (meant_by ts keys d)
meant_found ts keys key [] j d at same h = absurd (none-some d at)
meant_found ts keys key (x ∷ read) zero d at same h =
    let is = same_Some x d at in
    ap (λ (b : Bool). if b then Some (meant_by ts keys x) else meant_in key (all_defined ts keys read)) (ap (λ z. same_key key (key_by z)) is ∙ same)
    ∙ ap (λ z. Some (meant_by ts keys z)) is
meant_found ts keys key (x ∷ read) (suc j) d at same h =
    ap (λ (b : Bool). if b then Some (meant_by ts keys x) else meant_in key (all_defined ts keys read)) (h 0 x (omega arith) refl)
    ∙ meant_found ts keys key read j d at same (λ i e lt g. h (suc i) e (omega (arith, lt)) g)

get_below : (read : List Definition) (i : ℕ) (d : Definition) → slice_get read i ≡ Some d → i < length read
get_below [] i d e = absurd (none-some d e)
get_below (x ∷ read) zero d e = omega arith
get_below (x ∷ read) (suc i) d e = let r = get_below read i d e in omega (arith, r)

pub get_there : (read : List Definition) (i : ℕ) → i < length read → (d : Definition) × (slice_get read i ≡ Some d)
get_there [] i h = absurd (omega (arith, h))
get_there (d ∷ read) zero h = (d, refl)
get_there (d ∷ read) (suc i) h = get_there read i (omega (arith, h))

no_bool : {A : Type 0} (b : Bool) → b ≡ true → b ≡ false → A
no_bool b e f = cc

-- another key than one of these isn't the same
not_same : (keys : List Key) (key : Key) (i : ℕ) → i < length keys → is_key_among key keys ≡ false → same_key key (key_at keys i) ≡ false
not_same keys key i lt out =
    false_from_ne_true (same_key key (key_at keys i)) (λ e.
    no_bool (is_key_among key keys) (ap (λ z. is_key_among z keys) (one_key key (key_at keys i) e) ∙ key_among keys i lt) out)

outside_means : (ts : List Ty) (n m : ℕ) (keys : List Key) (read : List Definition) (key : Key) → Whole ts n m keys read → is_key_among key keys ≡ false
    → meant_in key (all_defined ts keys read) ≡ None
outside_means ts n m keys read key w out =
    meant_out ts keys key read (λ i d at.
    let lt : i < length keys = let a = get_below read i d at in let b = w.count in omega (arith, a, b) in
    ap (same_key key) (w.reads.key i d at) ∙ not_same keys key i lt out)

inside_means : (ts : List Ty) (n m : ℕ) (keys : List Key) (read : List Definition) (j : ℕ) (d : Definition) → Whole ts n m keys read
    → slice_get read j ≡ Some d → meant_in (key_at keys j) (all_defined ts keys read) ≡ Some (meant_by ts keys d)
inside_means ts n m keys read j d w at =
    let lt : j < length keys = let a = get_below read j d at in let b = w.count in omega (arith, a, b) in
    meant_found ts keys (key_at keys j) read j d at (ap (same_key (key_at keys j)) (w.reads.key j d at) ∙ key_same (key_at keys j)) (λ i e below get.
    false_from_ne_true (same_key (key_at keys j) (key_by e)) (λ s.
    let same : j ≡ i = w.differ j i lt (omega (arith, below, lt)) (ap (same_key (key_at keys j)) (sym (w.reads.key i e get)) ∙ s) in
    omega (arith, same, below)))

contains_none : (steps : ℕ) (all : List Defined) (inner key : Key) → meant_in key all ≡ None → contains steps all inner key ≡ false
contains_none zero all inner key h = refl
contains_none (suc steps) all inner key h =
    ap (λ o. occurs_in_any (λ z. if same_key z inner then true else contains steps all inner z) (made_of o)) h

key_beyond : (keys : List Key) (j : ℕ) → length keys ≤ j → key_at keys j ≡ no_key
key_beyond [] j h = refl
key_beyond (key ∷ keys) zero h = absurd (omega (arith, h))
key_beyond (key ∷ keys) (suc j) h = key_beyond keys j (omega (arith, h))

-- ---- both

abbrev Meant : List Defined → ℕ → Key → Key → Bool
Meant all steps inner key = if same_key key inner then true else contains steps all inner key

abbrev MarksContained : List Ty → List Key → List Definition → ℕ → ℕ → Type 0
MarksContained ts keys read steps number =
    (j : ℕ) → mark_at (contained steps read number) j ≡ contains steps (all_defined ts keys read) (key_at keys number) (key_at keys j)

marks_meant : (ts : List Ty) (n m : ℕ) (keys : List Key) (read : List Definition) (steps number : ℕ) → Whole ts n m keys read → number < length read
    → MarksContained ts keys read steps number
    → Marks keys (slice_set (contained steps read number) number true) (Meant (all_defined ts keys read) steps (key_at keys number))
marks_meant ts n m keys read steps number w lt h = λ j. by_number j (nat_eq j number) refl
  where
    within : number < length keys
    within = let b = w.count in omega (arith, b, lt)

    other : (j : ℕ) → (j ≡ number → ⊥) → same_key (key_at keys j) (key_at keys number) ≡ false
    other j n =
        ⊎_elim (λ (a : j < length keys). false_from_ne_true (same_key (key_at keys j) (key_at keys number)) (λ e. n (w.differ j number a within e)))
        (λ (a : length keys ≤ j). ap (λ z. same_key z (key_at keys number)) (key_beyond keys j a) ∙ not_same keys no_key number within w.none)
        (cases_lt j (length keys))

    by_number : (j : ℕ) (b : Bool) → nat_eq j number ≡ b
        → mark_at (slice_set (contained steps read number) number true) j
        ≡ (if same_key (key_at keys j) (key_at keys number) then true else contains steps (all_defined ts keys read) (key_at keys number) (key_at keys j))
    by_number j true e =
        let same : j ≡ number = eqb-true j number e in
        let here : mark_at (slice_set (contained steps read number) number true) number ≡ true =
        mark_here (contained steps read number) number (let c = marks_count steps read number in omega (arith, c, lt)) in
        ap (mark_at (slice_set (contained steps read number) number true)) same ∙ here
        ∙ sym (ap (λ (b : Bool). if b then true else contains steps (all_defined ts keys read) (key_at keys number) (key_at keys j))
        (ap (λ k. same_key (key_at keys k) (key_at keys number)) same ∙ key_same (key_at keys number)))
    by_number j false e =
        let differs : j ≡ number → ⊥ = eqb-false j number e in
        mark_other (contained steps read number) number j differs ∙ h j
        ∙ sym (ap (λ (b : Bool). if b then true else contains steps (all_defined ts keys read) (key_at keys number) (key_at keys j)) (other j differs))

pub marks_contained : (ts : List Ty) (n m : ℕ) (keys : List Key) (read : List Definition) (steps number : ℕ) → Whole ts n m keys read
    → number < length read → MarksContained ts keys read steps number
marks_contained ts n m keys read zero number w lt = λ j. none_marked read j
marks_contained ts n m keys read (suc steps) number w lt = λ j.
    ⊎_elim
    (λ (a : j < length read).
    let d = get_there read j a in
    let sound = w.reads.sound j d.0 d.1 in
    mark_some (definition_mark (slice_set (contained steps read number) number true)) read j d.0 d.1
    ∙ definition_is ts keys n m (slice_set (contained steps read number) number true) (Meant (all_defined ts keys read) steps (key_at keys number)) d.0
    (marks_meant ts n m keys read steps number w lt (marks_contained ts n m keys read steps number w lt))
    (w.away.apart (Meant (all_defined ts keys read) steps (key_at keys number)) (λ key out.
    ap (λ (b : Bool). if b then true else contains steps (all_defined ts keys read) (key_at keys number) key)
    (not_same keys key number (let b = w.count in omega (arith, b, lt)) out)
    ∙ contains_none steps (all_defined ts keys read) (key_at keys number) key (outside_means ts n m keys read key w out)))
    sound.nodes sound.fields
    ∙ ap (λ o. occurs_in_any (Meant (all_defined ts keys read) steps (key_at keys number)) (made_of o)) (sym (inside_means ts n m keys read j d.0 w d.1)))
    (λ (a : length read ≤ j).
    mark_none (definition_mark (slice_set (contained steps read number) number true)) read j a
    ∙ sym (contains_none (suc steps) (all_defined ts keys read) (key_at keys number) (key_at keys j)
    (ap (λ z. meant_in z (all_defined ts keys read)) (key_beyond keys j (let b = w.count in omega (arith, a, b)))
    ∙ outside_means ts n m keys read no_key w w.none)))
    (cases_lt j (length read))

-- where a step adds none, no further one does
pub steps_on : (read : List Definition) (number steps more : ℕ) → step_of read number (contained steps read number) ≡ contained steps read number
    → contained (more + steps) read number ≡ contained steps read number
steps_on read number steps zero h = let e : 0 + steps ≡ steps = omega arith in ap (λ k. contained k read number) e
steps_on read number steps (suc more) h =
    let e : suc more + steps ≡ suc (more + steps) = omega arith in
    ap (λ k. contained k read number) e ∙ ap (step_of read number) (steps_on read number steps more h) ∙ h

-- ---- the rule

defined_count : (ts : List Ty) (keys : List Key) (read : List Definition) → length (all_defined ts keys read) ≡ length read
defined_count ts keys [] = refl
defined_count ts keys (d ∷ read) = ap suc (defined_count ts keys read)

abbrev first_of : List Definition → Option Definition
first_of [] = None
first_of (d ∷ rest) = Some d

pub get_drop : (read : List Definition) (i : ℕ) (d : Definition) (rest : List Definition) → drop i read ≡ d ∷ rest → slice_get read i ≡ Some d
get_drop [] zero d rest e = cc
get_drop [] (suc i) d rest e = cc
get_drop (x ∷ read) zero d rest e = ap first_of e
get_drop (x ∷ read) (suc i) d rest e = get_drop read i d rest e

-- the next definition
pub contained_next : (ts : List Ty) (n m : ℕ) (keys : List Key) (read : List Definition) (i : ℕ) (d : Definition) (rest : List Definition)
    → Whole ts n m keys read → drop i read ≡ d ∷ rest
    → containment_rule (all_defined ts keys read) (all_defined ts keys (drop i read))
    ≡ and_then (if_typed (not (mark_at (contained (length read) read i) i)) d.at)
    (λ _. containment_rule (all_defined ts keys read) (all_defined ts keys rest))
contained_next ts n m keys read i d rest w e =
    let all = all_defined ts keys read in
    let at = get_drop read i d rest e in
    let lt = get_below read i d at in
    let key : key_by d ≡ key_at keys i = w.reads.key i d at in
    let mark : contains (length all) all (key_by d) (key_by d) ≡ mark_at (contained (length read) read i) i =
    ap₂ (λ (c : ℕ) (z : Key). contains c all z z) (defined_count ts keys read) key ∙ sym (marks_contained ts n m keys read (length read) i w lt i) in
    ap (λ ds. containment_rule all (all_defined ts keys ds)) e
    ∙ ap (λ (b : Bool). and_then (if_typed (not b) d.at) (λ _. containment_rule all (all_defined ts keys rest))) mark

pub by_last : {P : Type 0} (k i : ℕ) → (k < i → P) → (k ≡ i → P) → k < i + 1 → P
by_last zero zero f g h = g refl
by_last zero (suc i) f g h = f (omega arith)
by_last (suc k) zero f g h = absurd (omega (arith, h))
by_last (suc k) (suc i) f g h = by_last k i (λ lt. f (omega (arith, lt))) (λ e. g (ap suc e)) (omega (arith, h))
