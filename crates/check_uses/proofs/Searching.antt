-- A search through calls finds whether a procedure names a global.
use Rattle.std.proofs.Common.{◌≡◌, ℕ, ◌+◌, ◌<◌, ◌≤◌, List, [], ◌∷◌, ◌++◌, length, refl, sym, ap, subst, ◌∙◌}
use Rattle.std.proofs.Common.{arith, inl, inr, Option, Some, None, append_assoc}
use Rattle.std.specs.Prelude.{◌⊎◌, Bool, true, false, nat_eq, slice_get}
use Rattle.std.proofs.lemmas.Bool.{both_ways, eqb-true}
use Rattle.std.proofs.lemmas.Option.{none-some, same_Some, slice_get_within}
use Rattle.std.proofs.lemmas.List.{append-nil}
use Rattle.nim_program.specs.Program.{Proc}
use Rattle.decl_rules.specs.Occurrences.{Occurrence, global, calls, hands}
use Rattle.decl_rules.specs.Naming.{OccursIn, here, further, Names, by_use, by_call, NamesFound}
use Rattle.decl_rules.specs.Whole.{occurring, names}
use Rattle.number_sets.specs.Numbers.{is_among, with_number}
use Rattle.check_uses.specs.Search.{unless, visited, Leaves, IsDone, Searches}
use Rattle.number_sets.proofs.ForCallers.{by_either, same_itself, with_is, with_more}
use Rattle.number_sets.proofs.ForCallers.{among_more, among_at, index_of, get_front, past_end, below_or_not, with_has}

-- ---- a visit

unless_some : (b : Bool) (found : Option (List ℕ)) (ys : List ℕ) → unless b found ≡ Some ys → (b ≡ false) × (found ≡ Some ys)
unless_some true found ys e = absurd (none-some ys e)
unless_some false found ys e = (refl, e)

unless_none : (b : Bool) (found : Option (List ℕ)) → unless b found ≡ None → (b ≡ true) ⊎ (found ≡ None)
unless_none true found e = inl refl
unless_none false found e = inr e

-- what is done behind the first
behind_first : (g : ℕ) (first : Occurrence) (rest : List Occurrence) (xs ys : List ℕ) → visited g (first ∷ rest) xs ≡ Some ys →
    (zs : List ℕ) × (visited g rest zs ≡ Some ys)
behind_first g (global place) rest xs ys e = (xs, (unless_some (nat_eq place g) (visited g rest xs) ys e).1)
behind_first g (calls p) rest xs ys e = (with_number p xs, e)
behind_first g (hands p at place) rest xs ys e = (xs, e)

visit_more : (g : ℕ) (os : List Occurrence) (xs ys : List ℕ) → visited g os xs ≡ Some ys → (more : List ℕ) × (ys ≡ xs ++ more)
visit_more g [] xs ys e = ([], sym (same_Some xs ys e) ∙ sym (append-nil xs))
visit_more g (global place ∷ rest) xs ys e = visit_more g rest xs ys (unless_some (nat_eq place g) (visited g rest xs) ys e).1
visit_more g (calls p ∷ rest) xs ys e =
    let first = with_more p xs in
    let next = visit_more g rest (with_number p xs) ys e in
    (first.0 ++ next.0, next.1 ∙ ap (λ l. l ++ next.0) first.1 ∙ append_assoc xs first.0 next.0)
visit_more g (hands p at place ∷ rest) xs ys e = visit_more g rest xs ys e

visit_keeps : (g : ℕ) (os : List Occurrence) (xs ys : List ℕ) (n : ℕ) → visited g os xs ≡ Some ys → is_among n xs ≡ true →
    is_among n ys ≡ true
visit_keeps g os xs ys n e h = let m = visit_more g os xs ys e in ap (is_among n) m.1 ∙ among_more n xs m.0 h

visit_only : (g : ℕ) (os : List Occurrence) (xs ys : List ℕ) (n : ℕ) → visited g os xs ≡ Some ys → is_among n ys ≡ true →
    (is_among n xs ≡ true) ⊎ OccursIn (calls n) os
visit_only g [] xs ys n e h = inl (ap (is_among n) (same_Some xs ys e) ∙ h)
visit_only g (global place ∷ rest) xs ys n e h =
    by_rest (visit_only g rest xs ys n (unless_some (nat_eq place g) (visited g rest xs) ys e).1 h)
  where
    by_rest : (is_among n xs ≡ true) ⊎ OccursIn (calls n) rest → (is_among n xs ≡ true) ⊎ OccursIn (calls n) (global place ∷ rest)
    by_rest (inl k) = inl k
    by_rest (inr k) = inr (further k)
visit_only g (calls p ∷ rest) xs ys n e h = by_rest (visit_only g rest (with_number p xs) ys n e h)
  where
    by_first : (nat_eq n p ≡ true) ⊎ (is_among n xs ≡ true) → (is_among n xs ≡ true) ⊎ OccursIn (calls n) (calls p ∷ rest)
    by_first (inl k) = inr (subst (λ x. OccursIn (calls n) (calls x ∷ rest)) (eqb-true n p k) here)
    by_first (inr k) = inl k

    by_rest : (is_among n (with_number p xs) ≡ true) ⊎ OccursIn (calls n) rest → (is_among n xs ≡ true) ⊎ OccursIn (calls n) (calls p ∷ rest)
    by_rest (inl k) = by_first (by_either (nat_eq n p) (is_among n xs) (sym (with_is n p xs) ∙ k))
    by_rest (inr k) = inr (further k)
visit_only g (hands p at place ∷ rest) xs ys n e h = by_rest (visit_only g rest xs ys n e h)
  where
    by_rest : (is_among n xs ≡ true) ⊎ OccursIn (calls n) rest → (is_among n xs ≡ true) ⊎ OccursIn (calls n) (hands p at place ∷ rest)
    by_rest (inl k) = inl k
    by_rest (inr k) = inr (further k)

visit_calls : (g : ℕ) {q : ℕ} {os : List Occurrence} (xs ys : List ℕ) → OccursIn (calls q) os → visited g os xs ≡ Some ys →
    is_among q ys ≡ true
visit_calls g {q} xs ys (here {rest = rest}) e = visit_keeps g rest (with_number q xs) ys q e (with_has q xs)
visit_calls g xs ys (further {first = first} {rest = rest} h) e = let s = behind_first g first rest xs ys e in visit_calls g s.0 ys h s.1

visit_unused : {g : ℕ} {os : List Occurrence} (xs ys : List ℕ) → OccursIn (global g) os → visited g os xs ≡ Some ys → ⊥
visit_unused {g} xs ys (here {rest = rest}) e =
    both_ways (nat_eq g g) (unless_some (nat_eq g g) (visited g rest xs) ys e).0 (same_itself g)
visit_unused {g} xs ys (further {first = first} {rest = rest} h) e = let s = behind_first g first rest xs ys e in visit_unused s.0 ys h s.1

visit_used : (g : ℕ) (os : List Occurrence) (xs : List ℕ) → visited g os xs ≡ None → OccursIn (global g) os
visit_used g [] xs e = absurd (none-some xs (sym e))
visit_used g (global place ∷ rest) xs e = by_first (unless_none (nat_eq place g) (visited g rest xs) e) (visit_used g rest xs)
  where
    by_first : (nat_eq place g ≡ true) ⊎ (visited g rest xs ≡ None) → (visited g rest xs ≡ None → OccursIn (global g) rest) →
        OccursIn (global g) (global place ∷ rest)
    by_first (inl h) go = subst (λ x. OccursIn (global x) (global place ∷ rest)) (eqb-true place g h) here
    by_first (inr h) go = further (go h)
visit_used g (calls p ∷ rest) xs e = further (visit_used g rest (with_number p xs) e)
visit_used g (hands p at place ∷ rest) xs e = further (visit_used g rest xs e)

-- ---- one visit after another

pub leaves_test : (b : Bool) (xs : List ℕ) → Leaves b xs (unless b (Some xs))
leaves_test true xs = refl
leaves_test false xs = refl

-- the first, where it doesn't use the global
pub visit_next : (g : ℕ) (o : Occurrence) (rest : List Occurrence) (xs ys : List ℕ) (found : Bool) → found ≡ false →
    Leaves found ys (visited g (o ∷ []) xs) → visited g rest ys ≡ visited g (o ∷ rest) xs
visit_next g o rest xs ys true e h = cc
visit_next g (global place) rest xs ys false e h = by_test (nat_eq place g) h
  where
    by_test : (b : Bool) → unless b (Some xs) ≡ Some ys → visited g rest ys ≡ unless b (visited g rest xs)
    by_test true k = absurd (none-some ys k)
    by_test false k = ap (visited g rest) (sym (same_Some xs ys k))
visit_next g (calls p) rest xs ys false e h = ap (visited g rest) (sym (same_Some (with_number p xs) ys h))
visit_next g (hands p at place) rest xs ys false e h = ap (visited g rest) (sym (same_Some xs ys h))

-- and where it does
pub visit_last : (g : ℕ) (o : Occurrence) (rest : List Occurrence) (xs ys : List ℕ) (found : Bool) → found ≡ true →
    Leaves found ys (visited g (o ∷ []) xs) → visited g (o ∷ rest) xs ≡ None
visit_last g o rest xs ys false e h = cc
visit_last g (global place) rest xs ys true e h = by_test (nat_eq place g) h
  where
    by_test : (b : Bool) → unless b (Some xs) ≡ None → unless b (visited g rest xs) ≡ None
    by_test true k = refl
    by_test false k = absurd (none-some xs (sym k))
visit_last g (calls p) rest xs ys true e h = absurd (none-some (with_number p xs) (sym h))
visit_last g (hands p at place) rest xs ys true e h = absurd (none-some xs (sym h))

-- ---- the search

pub search_begins : (all : List Proc) (g p : ℕ) (reached : List ℕ) → reached ≡ with_number p [] → Searches all g p 0 reached
search_begins all g p reached e = subst (λ xs. Searches all g p 0 xs) (sym e)
    (record {
      start = with_has p [];
      leads = λ q h n. by_first q n (by_either (nat_eq q p) false h);
      done = λ i q l k. absurd (omega (arith, l));
    })
  where
    by_first : (q : ℕ) → Names all g q → (nat_eq q p ≡ true) ⊎ (false ≡ true) → Names all g p
    by_first q n (inl h) = subst (λ x. Names all g x) (eqb-true q p h) n
    by_first q n (inr h) = cc

pub search_finds : (all : List Proc) (g p next q : ℕ) (reached : List ℕ) → Searches all g p next reached → slice_get reached next ≡ Some q →
    visited g (occurring all q) reached ≡ None → Names all g p
search_finds all g p next q reached s e h = s.leads q (among_at reached next q e) (by_use (visit_used g (occurring all q) reached h))

pub search_goes_on : (all : List Proc) (g p next q : ℕ) (reached more : List ℕ) → Searches all g p next reached → slice_get reached next ≡ Some q →
    visited g (occurring all q) reached ≡ Some more → Searches all g p (next + 1) more
search_goes_on all g p next q reached more s e h =
    record {
      start = kept p s.start;
      leads = λ r k n. by_origin r n (visit_only g (occurring all q) reached more r h k);
      done = λ i r l k. by_index i r k (by_step i l);
    }
  where
    kept : (r : ℕ) → is_among r reached ≡ true → is_among r more ≡ true
    kept r k = visit_keeps g (occurring all q) reached more r h k

    by_origin : (r : ℕ) → Names all g r → (is_among r reached ≡ true) ⊎ OccursIn (calls r) (occurring all q) → Names all g p
    by_origin r n (inl k) = s.leads r k n
    by_origin r n (inr k) = s.leads q (among_at reached next q e) (by_call k n)

    by_step : (i : ℕ) → i < next + 1 → (i < next) ⊎ (i ≡ next)
    by_step i l = by_side (below_or_not i next)
      where
        by_side : (i < next) ⊎ (next ≤ i) → (i < next) ⊎ (i ≡ next)
        by_side (inl k) = inl k
        by_side (inr k) = inr (omega (arith, l, k))

    now : IsDone all g more q
    now = record {
      unused = λ o. visit_unused reached more o h;
      onward = λ r o. visit_calls g reached more o h;
    }

    same_at : (i : ℕ) → i < length reached → slice_get more i ≡ slice_get reached i
    same_at i l = let m = visit_more g (occurring all q) reached more h in ap (λ xs. slice_get xs i) m.1 ∙ get_front reached m.0 i l

    by_index : (i r : ℕ) → slice_get more i ≡ Some r → (i < next) ⊎ (i ≡ next) → IsDone all g more r
    by_index i r k (inl l) =
        let d = s.done i r l (sym (same_at i (omega (arith, l, slice_get_within reached next q e))) ∙ k) in
        record { unused = d.unused; onward = λ x o. kept x (d.onward x o) }
    by_index i r k (inr l) =
        let at : slice_get more next ≡ slice_get reached next = same_at next (slice_get_within reached next q e) in
        subst (λ x. IsDone all g more x) (same_Some q r (sym e ∙ sym at ∙ ap (slice_get more) (sym l) ∙ k)) now

none_named : (all : List Proc) (g p next : ℕ) (reached : List ℕ) → Searches all g p next reached → slice_get reached next ≡ None →
    {q : ℕ} → Names all g q → is_among q reached ≡ true → ⊥
none_named all g p next reached s e {q} (by_use o) h =
    let at = index_of q reached h in
    let l : at.0 < next = omega (arith, slice_get_within reached at.0 q at.1, past_end reached next e) in
    (s.done at.0 q l at.1).unused o
none_named all g p next reached s e {q} (by_call {q = r} o n) h =
    let at = index_of q reached h in
    let l : at.0 < next = omega (arith, slice_get_within reached at.0 q at.1, past_end reached next e) in
    none_named all g p next reached s e n ((s.done at.0 q l at.1).onward r o)

pub search_ends : (all : List Proc) (g p next : ℕ) (reached : List ℕ) → Searches all g p next reached → slice_get reached next ≡ None →
    Names all g p → ⊥
search_ends all g p next reached s e n = none_named all g p next reached s e n s.start

-- ---- what is answered

pub names_so : NamesFound → (all : List Proc) (g p : ℕ) → Names all g p → true ≡ names all g p
names_so found all g p n = sym ((found all g p).1 n)

pub names_not : NamesFound → (all : List Proc) (g p : ℕ) → (Names all g p → ⊥) → false ≡ names all g p
names_not found all g p never = by_bool (names all g p) refl
  where
    by_bool : (b : Bool) → names all g p ≡ b → false ≡ b
    by_bool true e = absurd (never ((found all g p).0 e))
    by_bool false e = refl

pub leaves_none : (g : ℕ) (os uses : List Occurrence) (found : Bool) (old new : List ℕ) → found ≡ true → uses ≡ os →
    Leaves found new (visited g uses old) → visited g os old ≡ None
leaves_none g os uses true old new e f h = ap (λ l. visited g l old) (sym f) ∙ h
leaves_none g os uses false old new e f h = cc

pub leaves_some : (g : ℕ) (os uses : List Occurrence) (found : Bool) (old new : List ℕ) → found ≡ false → uses ≡ os →
    Leaves found new (visited g uses old) → visited g os old ≡ Some new
leaves_some g os uses true old new e f h = cc
leaves_some g os uses false old new e f h = ap (λ l. visited g l old) (sym f) ∙ h
