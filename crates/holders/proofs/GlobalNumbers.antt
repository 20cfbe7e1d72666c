-- The globals have numbers that differ: the code of modules declares them in turn. And what is known of the places of a numbered body.
use Rattle.std.proofs.Common.{◌≡◌, refl, sym, ap, subst, ◌∙◌, arith, ℕ, zero, suc, ◌+◌, ◌<◌, ◌≤◌, inl, inr, Bool, true, false, List, [], ◌∷◌, ◌++◌, length}
use Rattle.std.specs.Prelude.{◌&&◌, ◌||◌, nat_eq, slice_get, Some}
use Rattle.std.proofs.lemmas.Bool.{false≢true, and_parts, eqb-true, eq-eqb}
use Rattle.std.proofs.lemmas.Option.{none-some, same_Some}
use Rattle.nim_program.specs.declared.program.Mode.TheVariants as M
use Rattle.nim_program.specs.Program.{Declared, Param, Body, Stmts, Empty, Then, Declare, Defer}
use Rattle.nim_program.specs.Folds.{lists, own_places, totals, total_in, total_of, block_places}
use Rattle.nim_program.specs.Numbering.{follow, numbers_of, is_numbered}
use Rattle.nim_program.specs.Scopes as scopes
use Rattle.nim_program.specs.Scopes.{Placed, placed, with_global}
use Rattle.nim_program.specs.Typed.{module_code, is_typed_stmt, is_typed_code, is_next, starts, are_typed}
use Rattle.nim_meaning.specs.Marks.{Member, Distinct}
use Rattle.lending_laws.specs.Writing.{lent_params, is_lent}
use Rattle.holders.specs.Numbered.{Rise}
use Rattle.holders.proofs.Scenes.{numbers_in}
use Rattle.holders.proofs.NodesRise.{AreAmong, among_later, rise_among, rise_distinct}
use Rattle.holders.proofs.BodyCode.{next_is}
use Rattle.holders.proofs.BodyNumbering.{firsts, follows, within_body}
use Rattle.holders.proofs.BodyNumbers.{numbers_first}
use Rattle.holders.proofs.CallHands.{AllKept}

-- ---- globals

-- those from one on
abbrev pub drop : ℕ → List Placed → List Placed
drop zero gs = gs
drop (suc k) [] = []
drop (suc k) (g ∷ gs) = drop k gs

drop_next : (k : ℕ) (gs : List Placed) (g : Placed) → slice_get gs k ≡ Some g → drop k gs ≡ g ∷ drop (suc k) gs
drop_next zero [] g e = absurd (none-some g e)
drop_next zero (h ∷ gs) g e = ap (λ (p : Placed). p ∷ gs) (same_Some h g e)
drop_next (suc k) [] g e = absurd (none-some g e)
drop_next (suc k) (h ∷ gs) g e = drop_next k gs g e

drop_all : (gs : List Placed) → drop (length gs) gs ≡ []
drop_all [] = refl
drop_all (g ∷ gs) = drop_all gs

numbers_both : (ds es : List Declared) → numbers_of (ds ++ es) ≡ numbers_of ds ++ numbers_of es
numbers_both [] es = refl
numbers_both (d ∷ ds) es = ap (λ (ns : List ℕ). d.number ∷ ns) (numbers_both ds es)

among_behind : (ns : List ℕ) (ds es : List Declared) → AreAmong ns (numbers_of es) → AreAmong ns (numbers_of (ds ++ es))
among_behind ns ds es h = subst (λ ms. AreAmong ns ms) (sym (numbers_both ds es)) (among_later ns (numbers_of ds) (numbers_of es) h)

-- they are declared in turn
pub globals_among : (scope : scopes.Here) (x : Stmts) → is_typed_code scope x ≡ true →
    AreAmong (numbers_in (drop scope.filled scope.globals)) (numbers_of (total_of lists own_places x))
globals_among scope Empty typed =
    subst (λ gs. AreAmong (numbers_in gs) []) (sym (ap (λ k. drop k scope.globals) (eqb-true scope.filled (length scope.globals) typed)
    ∙ drop_all scope.globals)) tt
globals_among scope (Then x rest) typed =
    among_behind (numbers_in (drop scope.filled scope.globals)) (total_in lists own_places x) (total_of lists own_places rest)
    (globals_among scope rest (and_parts (is_typed_stmt scope module_code x) (is_typed_code scope rest) typed).1)
globals_among scope (Declare node place cursor value rest) typed =
    let next = is_next (slice_get scope.globals scope.filled) (placed place) in
    let t = and_parts (next && (starts scope.facts place.of value && are_typed scope value)) (is_typed_code (with_global scope) rest) typed in
    let e = next_is (slice_get scope.globals scope.filled) place (and_parts next (starts scope.facts place.of value && are_typed scope value) t.0).0 in
    subst (λ gs. AreAmong (numbers_in gs) (place.number ∷ numbers_of (totals lists own_places value ++ total_of lists own_places rest)))
    (sym (drop_next scope.filled scope.globals (placed place) e))
    (inl (
      refl,
      among_behind (numbers_in (drop (suc scope.filled) scope.globals)) (totals lists own_places value) (total_of lists own_places rest)
          (globals_among (with_global scope) rest t.1),
    ))
globals_among scope (Defer node last rest) typed = absurd (false≢true typed)

pub globals_distinct : (scope : scopes.Here) (x : Stmts) (from : ℕ) → is_typed_code scope x ≡ true → Rise from (numbers_of (total_of lists own_places x)) →
    Distinct (numbers_in (drop scope.filled scope.globals))
globals_distinct scope x from typed r =
    rise_distinct from (numbers_in (drop scope.filled scope.globals))
    (rise_among from (numbers_in (drop scope.filled scope.globals)) (numbers_of (total_of lists own_places x)) r (globals_among scope x typed))

-- ---- parameters

kept_more : (p : Param) (params some : List Param) → AllKept (lent_params params) some → AllKept (lent_params (p ∷ params)) some
kept_more p params [] h = tt
kept_more p params (q ∷ some) h =
    (λ e. by (is_lent p.mode && nat_eq p.place.number q.place.number) (h.0 e), kept_more p params some h.1)
  where
    by : (b : Bool) → lent_params params q.place.number ≡ true → (b || lent_params params q.place.number) ≡ true
    by true e = refl
    by false e = e

-- one that is no `var` and no `sink` is kept
pub all_kept : (params : List Param) → AllKept (lent_params params) params
all_kept [] = tt
all_kept (p ∷ params) = (λ e. own p e, kept_more p params params (all_kept params))
  where
    own : (q : Param) → q.mode ≡ M.Plain → lent_params (q ∷ params) q.place.number ≡ true
    own q e =
        subst (λ m. (is_lent m && nat_eq q.place.number q.place.number) || lent_params params q.place.number ≡ true) (sym e)
        (subst (λ b. (true && b) || lent_params params q.place.number ≡ true) (sym (eq-eqb q.place.number q.place.number refl)) refl)

-- ---- room in a frame

follow_last : (from : ℕ) (d : Declared) (ds : List Declared) → follow from (numbers_of (d ∷ ds)) ≡ true → Member (from + length ds) (numbers_of (d ∷ ds))
follow_last from d [] e =
    let q = eqb-true from d.number (and_parts (nat_eq from d.number) true e).0 in inl (omega (arith, q))
follow_last from d (f ∷ ds) e =
    let q = and_parts (nat_eq from d.number) (follow (suc from) (numbers_of (f ∷ ds))) e in
    inr (subst (λ n. Member n (numbers_of (f ∷ ds))) (omega arith) (follow_last (suc from) f ds q.1))

pub room_for : (params : List Param) (body : Body) (numbered : is_numbered params body ≡ true) → length (firsts params body numbered) ≤ body.places
room_for params body numbered = by (firsts params body numbered) (follows params body numbered) (λ n m. (within_body params body numbered n
    (numbers_first n (firsts params body numbered) (block_places body.stmts) m)).1)
  where
    by : (ds : List Declared) → follow body.first (numbers_of ds) ≡ true → ((n : ℕ) → Member n (numbers_of ds) → n < body.first + body.places) →
        length ds ≤ body.places
    by [] f h = omega arith
    by (d ∷ ds) f h = let less = h (body.first + length ds) (follow_last body.first d ds f) in omega (arith, less)
