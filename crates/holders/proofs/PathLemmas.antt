-- Parts of parts.
use Rattle.std.proofs.Common.{◌≡◌, refl, sym, ap, subst, ◌∙◌, arith, ℕ, zero, suc, ◌<◌, List, [], ◌∷◌, ◌++◌}
use Rattle.nim_meaning.specs.Values.{Value, Parts, Values, Nil, More, nth, count, with_nth, with_part, part, put_part, nth_part}
use Rattle.holders.specs.Owned.{HasPart, whole, row_part, Reaches, in_part}
use Rattle.holders.specs.Beside.{PartWays, further_on, here_apart}

pub count_with : (vs : Values) (i : ℕ) (x : Value) → count (with_nth vs i x) ≡ count vs
count_with Nil i x = refl
count_with (More v vs) zero x = refl
count_with (More v vs) (suc i) x = ap suc (count_with vs i x)

pub nth_with : (vs : Values) (i : ℕ) (x : Value) → i < count vs → nth (with_nth vs i x) i ≡ x
nth_with Nil i x le = absurd (omega (arith, le))
nth_with (More v vs) zero x le = refl
nth_with (More v vs) (suc i) x le = nth_with vs i x (omega (arith, le))

pub nth_without : (vs : Values) (i j : ℕ) (x : Value) → (j ≡ i → ⊥) → nth (with_nth vs i x) j ≡ nth vs j
nth_without Nil i j x d = refl
nth_without (More v vs) zero zero x d = absurd (d refl)
nth_without (More v vs) zero (suc j) x d = refl
nth_without (More v vs) (suc i) zero x d = refl
nth_without (More v vs) (suc i) (suc j) x d = nth_without vs i j x (λ e. d (ap suc e))

with_twice : (vs : Values) (i : ℕ) (x y : Value) → with_nth (with_nth vs i x) i y ≡ with_nth vs i y
with_twice Nil i x y = refl
with_twice (More v vs) zero x y = refl
with_twice (More v vs) (suc i) x y = ap (λ ws. More v ws) (with_twice vs i x y)

-- what was put at a path stands there, and is put again
pub part_of_put : {w : Value} {path : List ℕ} (x : Value) → HasPart w path → part (put_part w path x) path ≡ x
part_of_put x whole = refl
part_of_put x (row_part {all = all} {i = i} {path = path} le h) =
    ap (λ v. part v path) (nth_with all i (put_part (nth all i) path x) le) ∙ part_of_put x h

pub put_twice : {w : Value} {path : List ℕ} (x y : Value) → HasPart w path → put_part (put_part w path x) path y ≡ put_part w path y
put_twice x y whole = refl
put_twice x y (row_part {all = all} {i = i} {path = path} le h) =
    let first = put_part (nth all i) path x in
    ap (λ v. Parts (with_nth (with_nth all i first) i v)) (ap (λ v. put_part v path y) (nth_with all i first le) ∙ put_twice x y h)
    ∙ ap Parts (with_twice all i first (put_part (nth all i) path y))

pub has_put : {w : Value} {path : List ℕ} (x : Value) → HasPart w path → HasPart (put_part w path x) path
has_put x whole = whole
has_put x (row_part {all = all} {i = i} {path = path} le h) =
    let first = put_part (nth all i) path x in
    row_part (subst (λ n. i < n) (sym (count_with all i first)) le) (subst (λ v. HasPart v path) (sym (nth_with all i first le)) (has_put x h))

-- one part deeper
pub has_deeper : {w : Value} {path : List ℕ} (i : ℕ) (all : Values) → HasPart w path → part w path ≡ Parts all → i < count all → HasPart w (path ++ i ∷ [])
has_deeper i all whole e le = subst (λ v. HasPart v (i ∷ [])) (sym e) (row_part le whole)
has_deeper i all (row_part le h) e less = row_part le (has_deeper i all h e less)

pub part_deeper : (w : Value) (path : List ℕ) (i : ℕ) → part w (path ++ i ∷ []) ≡ nth_part (part w path) i
part_deeper w [] i = refl
part_deeper w (j ∷ path) i = part_deeper (nth_part w j) path i

pub put_deeper : {w : Value} {path : List ℕ} (i : ℕ) (all : Values) (x : Value) → HasPart w path → part w path ≡ Parts all →
    put_part w (path ++ i ∷ []) x ≡ put_part w path (Parts (with_nth all i x))
put_deeper i all x whole e = ap (λ v. with_part v i x) e
put_deeper i all x (row_part {all = outer} {i = j} le h) e = ap (λ v. Parts (with_nth outer j v)) (put_deeper i all x h e)

with_same : (vs : Values) (i : ℕ) → with_nth vs i (nth vs i) ≡ vs
with_same Nil i = refl
with_same (More v vs) zero = refl
with_same (More v vs) (suc i) = ap (λ ws. More v ws) (with_same vs i)

pub put_same : {w : Value} {path : List ℕ} → HasPart w path → put_part w path (part w path) ≡ w
put_same whole = refl
put_same (row_part {all = all} {i = i} {path = path} le h) = ap (λ v. Parts (with_nth all i v)) (put_same h) ∙ ap Parts (with_same all i)

-- ---- paths that part ways

pub part_beside : {w : Value} {path other : List ℕ} (x : Value) → HasPart w path → PartWays path other → part (put_part w path x) other ≡ part w other
part_beside x whole apart = elim apart [ ]
part_beside x (row_part {all = all} {i = i} {path = path} le h) (here_apart {j = j} {other = other} d) =
    ap (λ v. part v other) (nth_without all i j (put_part (nth all i) path x) d)
part_beside x (row_part {all = all} {i = i} {path = path} le h) (further_on {other = other} apart) =
    ap (λ v. part v other) (nth_with all i (put_part (nth all i) path x) le) ∙ part_beside x h apart

pub reaches_beside : {w : Value} {path other : List ℕ} (x : Value) → HasPart w path → PartWays path other → Reaches w other →
    Reaches (put_part w path x) other
reaches_beside x whole apart r = elim apart [ ]
reaches_beside x (row_part {all = all} {i = i} {path = path} le h) (here_apart {j = j} {other = other} d) (in_part less r) =
    let new = put_part (nth all i) path x in
    in_part (subst (λ n. j < n) (sym (count_with all i new)) less) (subst (λ v. Reaches v other) (sym (nth_without all i j new d)) r)
reaches_beside x (row_part {all = all} {i = i} {path = path} le h) (further_on {other = other} apart) (in_part less r) =
    let new = put_part (nth all i) path x in
    in_part (subst (λ n. i < n) (sym (count_with all i new)) less)
    (subst (λ v. Reaches v other) (sym (nth_with all i new le)) (reaches_beside x h apart r))

pub ways_deeper : {path other : List ℕ} (i j : ℕ) → PartWays path other → PartWays (path ++ i ∷ []) (other ++ j ∷ [])
ways_deeper i j (here_apart d) = here_apart d
ways_deeper i j (further_on apart) = further_on (ways_deeper i j apart)

pub has_beside : {w : Value} {path other : List ℕ} (x : Value) → HasPart w path → PartWays path other → HasPart w other → HasPart (put_part w path x) other
has_beside x whole apart r = elim apart [ ]
has_beside x (row_part {all = all} {i = i} {path = path} le h) (here_apart {j = j} {other = other} d) (row_part less r) =
    let new = put_part (nth all i) path x in
    row_part (subst (λ n. j < n) (sym (count_with all i new)) less) (subst (λ v. HasPart v other) (sym (nth_without all i j new d)) r)
has_beside x (row_part {all = all} {i = i} {path = path} le h) (further_on {other = other} apart) (row_part less r) =
    let new = put_part (nth all i) path x in
    row_part (subst (λ n. i < n) (sym (count_with all i new)) less)
    (subst (λ v. HasPart v other) (sym (nth_with all i new le)) (has_beside x h apart r))

pub ways_back : {path other : List ℕ} → PartWays path other → PartWays other path
ways_back (here_apart d) = here_apart (λ e. d (sym e))
ways_back (further_on w) = further_on (ways_back w)
