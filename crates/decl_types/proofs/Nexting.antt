-- What becomes known next, by number.
use Rattle.std.proofs.Common.{◌≡◌, ℕ, zero, suc, ◌+◌, ◌<◌, List, [], ◌∷◌, ◌++◌, length, drop, Some, refl, sym, ap, ap₂, ◌∙◌}
use Rattle.std.proofs.Common.{arith}
use Rattle.std.proofs.Common.{append_assoc, length-append}
use Rattle.std.specs.Prelude.{Bool, true, false, not, ◌&&◌, ◌||◌, if◌then◌else◌, Option, slice_get}
use Rattle.std.proofs.lemmas.Bool.{both_ways, false_from_ne_true}
use Rattle.nim_types.specs.Types as type
use Rattle.nim_types.specs.Types.{Ty, Key, same_key}
use Rattle.nim_types.proofs.ForCallers.{same_refl}
use Rattle.decl_rules.specs.Meanings.{Defined, KnownType, meant_in, is_key_among, known_keys, is_usable, is_made_of, next_in}
use Rattle.decl_rules.specs.Meanings.{is_next as is_next_key}
use Rattle.decl_types.specs.declared.known.Definition.{Definition}
use Rattle.decl_types.specs.ViewKnown.{key_by, meant_by}
use Rattle.decl_types.specs.ViewMarks.{mark_at, definition_mark, is_next, next_from}
use Rattle.decl_types.specs.ViewReading.{defined_by, all_defined, defined_or, defined_at, is_open, IsReading, NoneBefore}
use Rattle.decl_types.proofs.Marking.{definition_is}

get_mid : (pre : List Definition) (d : Definition) (rest : List Definition) → slice_get (pre ++ d ∷ rest) (length pre) ≡ Some d
get_mid [] d rest = refl
get_mid (e ∷ pre) d rest = get_mid pre d rest

-- the one at a number, behind others
at_mid : (read pre rest : List Definition) (d : Definition) → read ≡ pre ++ d ∷ rest → slice_get read (length pre) ≡ Some d
at_mid read pre rest d e = ap (λ xs. slice_get xs (length pre)) e ∙ get_mid pre d rest

key_same : (a : Key) → same_key a a ≡ true
key_same a = same_refl (type.distinct a)

-- what is meant by a key, where those before have other keys
meant_behind : (ts : List Ty) (keys : List Key) (key : Key) (pre rest : List Definition) (d : Definition)
    → ((i : ℕ) (e : Definition) → slice_get pre i ≡ Some e → same_key key (key_by e) ≡ false) → same_key key (key_by d) ≡ true
    → meant_in key (all_defined ts keys (pre ++ d ∷ rest)) ≡ Some (meant_by ts keys d)
meant_behind ts keys key [] rest d h e = ap (λ (b : Bool). if b then Some (meant_by ts keys d) else meant_in key (all_defined ts keys rest)) e
meant_behind ts keys key (x ∷ pre) rest d h e =
    ap (λ (b : Bool). if b then Some (meant_by ts keys x) else meant_in key (all_defined ts keys (pre ++ d ∷ rest))) (h 0 x refl)
    ∙ meant_behind ts keys key pre rest d (λ i y at. h (suc i) y at) e

get_inside : (pre : List Definition) (i : ℕ) (e : Definition) → slice_get pre i ≡ Some e → i < length pre
get_inside [] i e at = cc
get_inside (x ∷ pre) zero e at = omega arith
get_inside (x ∷ pre) (suc i) e at = let l = get_inside pre i e at in omega (arith, l)

get_more : (pre rest : List Definition) (i : ℕ) (e : Definition) → slice_get pre i ≡ Some e → slice_get (pre ++ rest) i ≡ Some e
get_more [] rest i e at = cc
get_more (x ∷ pre) rest zero e at = at
get_more (x ∷ pre) rest (suc i) e at = get_more pre rest i e at

inside_mid : (read pre rest : List Definition) (d : Definition) → read ≡ pre ++ d ∷ rest → length pre < length read
inside_mid read pre rest d e = let l = ap length e in omega (arith, l, length-append pre (d ∷ rest))

meant_at : (n m : ℕ) (ts : List Ty) (keys : List Key) (known : List KnownType) (marks : List Bool) (read pre rest : List Definition) (d : Definition)
    → IsReading n m ts keys known marks read → read ≡ pre ++ d ∷ rest
    → meant_in (key_by d) (all_defined ts keys read) ≡ Some (meant_by ts keys d)
meant_at n m ts keys known marks read pre rest d r e =
    let key = r.key (length pre) d (at_mid read pre rest d e) in
    let other : (i : ℕ) (x : Definition) → slice_get pre i ≡ Some x → same_key (key_by d) (key_by x) ≡ false = λ i x at.
    let inside = get_inside pre i x at in
    let here : slice_get read i ≡ Some x = ap (λ xs. slice_get xs i) e ∙ get_more pre (d ∷ rest) i x at in
    let lt = inside_mid read pre rest d e in
    false_from_ne_true (same_key (key_by d) (key_by x)) (λ same.
    let is : length pre ≡ i = r.differ (length pre) i lt (omega (arith, inside, lt)) (ap₂ same_key (sym key) (sym (r.key i x here)) ∙ same) in
    omega (arith, is, inside)) in
    ap (λ xs. meant_in (key_by d) (all_defined ts keys xs)) e ∙ meant_behind ts keys (key_by d) pre rest d other (key_same (key_by d))

by_parts : (section known : Bool) (made : Bool) (mark named : Bool) → section ≡ true → mark ≡ not (not section || known) → made ≡ not named
    → (not known && made) ≡ (if mark then not named else false)
by_parts true true made mark named s e f = ap (λ (b : Bool). if b then not named else false) (sym e)
by_parts true false made mark named s e f = f ∙ ap (λ (b : Bool). if b then not named else false) (sym e)
by_parts false known made mark named s e f = absurd (both_ways false refl s)

-- of one definition
next_is : (n m : ℕ) (ts : List Ty) (keys : List Key) (known : List KnownType) (marks : List Bool) (read pre rest : List Definition) (d : Definition)
    → IsReading n m ts keys known marks read → read ≡ pre ++ d ∷ rest
    → is_next_key keys (all_defined ts keys read) known (key_by d) ≡ is_next marks (length pre) d
next_is n m ts keys known marks read pre rest d r e =
    let at = at_mid read pre rest d e in
    let key = r.key (length pre) d at in
    let sound = r.sound (length pre) d at in
    let named = definition_is ts keys n m marks (is_open keys known) d r.marked r.apart sound.nodes sound.fields in
    by_parts (is_key_among (key_by d) keys) (is_key_among (key_by d) (known_keys known))
    (is_made_of (is_usable keys known) (meant_in (key_by d) (all_defined ts keys read))) (mark_at marks (length pre)) (definition_mark marks d)
    (ap (λ k. is_key_among k keys) key ∙ r.among (length pre) (inside_mid read pre rest d e))
    (r.marked (length pre) ∙ ap (is_open keys known) (sym key))
    (ap (is_made_of (is_usable keys known)) (meant_at n m ts keys known marks read pre rest d r e)
    ∙ ap not (sym named))

-- of those from a number on
nexts_are : (n m : ℕ) (ts : List Ty) (keys : List Key) (known : List KnownType) (marks : List Bool) (read pre rest : List Definition)
    → IsReading n m ts keys known marks read → read ≡ pre ++ rest
    → next_in (is_next_key keys (all_defined ts keys read) known) (all_defined ts keys rest)
    ≡ defined_at ts keys read (next_from marks (length pre) rest)
nexts_are n m ts keys known marks read pre [] r e = refl
nexts_are n m ts keys known marks read pre (d ∷ rest) r e =
    let test = is_next_key keys (all_defined ts keys read) known in
    let at = at_mid read pre rest d e in
    let behind = nexts_are n m ts keys known marks read (pre ++ d ∷ []) rest r (e ∙ sym (append_assoc pre (d ∷ []) rest)) in
    let count : length (pre ++ d ∷ []) ≡ suc (length pre) = omega (arith, length-append pre (d ∷ [])) in
    ap (λ (b : Bool). if b then Some (defined_by ts keys d) else next_in test (all_defined ts keys rest))
    (next_is n m ts keys known marks read pre rest d r e)
    ∙ by_test (is_next marks (length pre) d) (next_in test (all_defined ts keys rest)) (next_from marks (suc (length pre)) rest)
    (sym (ap (defined_or ts keys) at)) (behind ∙ ap (λ k. defined_at ts keys read (next_from marks k rest)) count)
  where
    by_test : (b : Bool) (more : Option Defined) (o : Option ℕ) → Some (defined_by ts keys d) ≡ defined_or ts keys (slice_get read (length pre))
        → more ≡ defined_at ts keys read o
        → (if b then Some (defined_by ts keys d) else more) ≡ defined_at ts keys read (if b then Some (length pre) else o)
    by_test true more o h k = h
    by_test false more o h k = k

-- those that are known are passed over
passed : (marks : List Bool) (i n : ℕ) (read : List Definition) → ((k : ℕ) → k < i + n → mark_at marks k ≡ false)
    → next_from marks i read ≡ next_from marks (i + n) (drop n read)
passed marks i zero read h = let e : i + 0 ≡ i = omega arith in ap (λ k. next_from marks k read) (sym e)
passed marks i (suc n) [] h = refl
passed marks i (suc n) (d ∷ read) h =
    let e : suc i + n ≡ i + suc n = omega arith in
    ap (λ (b : Bool). if (if b then not (definition_mark marks d) else false) then Some i else next_from marks (suc i) read) (h i (omega arith))
    ∙ passed marks (suc i) n read (λ k l. h k (omega (arith, l))) ∙ ap (λ k. next_from marks k (drop n read)) e

-- what the rule says
pub next_by_rule : (n m : ℕ) (ts : List Ty) (keys : List Key) (known : List KnownType) (marks : List Bool) (read : List Definition) (from : ℕ)
    → IsReading n m ts keys known marks read → NoneBefore marks from
    → next_in (is_next_key keys (all_defined ts keys read) known) (all_defined ts keys read)
    ≡ defined_at ts keys read (next_from marks from (drop from read))
next_by_rule n m ts keys known marks read from r h =
    let e : 0 + from ≡ from = omega arith in
    nexts_are n m ts keys known marks read [] read r refl
    ∙ ap (defined_at ts keys read) (passed marks 0 from read (λ k l. h k (omega (arith, l))) ∙ ap (λ k. next_from marks k (drop from read)) e)
