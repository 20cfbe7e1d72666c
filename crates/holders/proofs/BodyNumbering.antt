-- The numbers of a body that is numbered: its block has places of its own, behind its parameters and its result, and none is a global.
use Rattle.std.proofs.Common.{◌≡◌, refl, sym, ap, subst, ◌∙◌, arith, ℕ, zero, suc, ◌+◌, ◌<◌, ◌≤◌, inl, inr, ◌⊎◌, Bool, true, false, List, [], ◌∷◌, ◌++◌, length}
use Rattle.std.specs.Prelude.{nat_eq, nat_le, nat_lt, if◌then◌else◌, map, take, Some}
use Rattle.std.proofs.lemmas.Bool.{false≢true, and_parts, leb-true, eqb-true, ltb-true, lt-ltb}
use Rattle.std.proofs.lemmas.Option.{none-some}
use Rattle.nim_types.specs.Types.{Ty}
use Rattle.nim_program.specs.declared.nodes.TheConstants.{MOST_NODES}
use Rattle.nim_program.specs.Program.{Declared, Param, Body}
use Rattle.nim_program.specs.Folds.{block_nodes, block_places, param_places, body_places, if_declared}
use Rattle.nim_program.specs.Numbering.{rise_to, follow, numbers_of, is_numbered}
use Rattle.nim_program.specs.Scopes as scopes
use Rattle.nim_program.specs.Scopes.{Placed, placed, look, count_below, one_more}
use Rattle.nim_program.specs.Typed.{param_declared}
use Rattle.nim_meaning.specs.Marks.{Member}
use Rattle.nim_meaning.specs.Here.{Here}
use Rattle.holders.specs.Asked.{Limits}
use Rattle.holders.specs.BodyParts.{NoneNamed}
use Rattle.holders.specs.Numbered.{Rise, Numbered}
use Rattle.holders.proofs.NodesRise.{rises, least}
use Rattle.holders.proofs.BodyNumbers.{numbers_second, numbers_apart}

-- ---- numbers that rise

reaches : (from to : ℕ) (ns : List ℕ) → rise_to from to ns ≡ true → from ≤ to
reaches from to [] e = leb-true from to e
reaches from to (n ∷ ns) e =
    let q = and_parts (nat_le from n) (rise_to (suc n) to ns) e in
    let le = leb-true from n q.0 in
    let more = reaches (suc n) to ns q.1 in
    omega (arith, le, more)

below_to : (from to : ℕ) (ns : List ℕ) → rise_to from to ns ≡ true → (n : ℕ) → Member n ns → n < to
below_to from to [] e n m = elim m [ ]
below_to from to (k ∷ ns) e n (inl q) =
    let more = reaches (suc k) to ns (and_parts (nat_le from k) (rise_to (suc k) to ns) e).1 in omega (arith, more, q)
below_to from to (k ∷ ns) e n (inr m) = below_to (suc k) to ns (and_parts (nat_le from k) (rise_to (suc k) to ns) e).1 n m

-- behind those that follow one another
pub follow_behind : (from : ℕ) (ds es : List Declared) → follow from (numbers_of ds) ≡ true → Rise from (numbers_of (ds ++ es)) →
    Rise (from + length ds) (numbers_of es)
follow_behind from [] es f r = subst (λ n. Rise n (numbers_of es)) (omega arith) r
follow_behind from (d ∷ ds) es f r =
    let q = and_parts (nat_eq from d.number) (follow (suc from) (numbers_of ds)) f in
    let same : from ≡ d.number = eqb-true from d.number q.0 in
    subst (λ n. Rise n (numbers_of es)) (omega arith)
    (follow_behind (suc from) ds es q.1 (subst (λ n. Rise (suc n) (numbers_of (ds ++ es))) (sym same) r.1))

pub same_params : (params : List Param) → param_places params ≡ param_declared params
same_params [] = refl
same_params (p ∷ params) = ap (λ (ds : List Declared). p.place ∷ ds) (same_params params)

pub lists_assoc : (ds bs cs : List Declared) → ds ++ (bs ++ cs) ≡ (ds ++ bs) ++ cs
lists_assoc [] bs cs = refl
lists_assoc (d ∷ ds) bs cs = ap (λ (es : List Declared). d ∷ es) (lists_assoc ds bs cs)

pub as_many : (ds : List Declared) → length (map placed ds) ≡ length ds
as_many [] = refl
as_many (d ∷ ds) = ap suc (as_many ds)

look_in : (ds : List Declared) (n : ℕ) (ty : Ty) → look (map placed ds) n ≡ Some ty → Member n (numbers_of ds)
look_in [] n ty e = absurd (none-some ty e)
look_in (d ∷ ds) n ty e = by (nat_eq d.number n) refl e (λ q. look_in ds n ty q)
  where
    by : (b : Bool) → nat_eq d.number n ≡ b → (if b then Some d.of else look (map placed ds) n) ≡ Some ty →
        (look (map placed ds) n ≡ Some ty → Member n (numbers_of ds)) → Member n (numbers_of (d ∷ ds))
    by true q e rest = inl (sym (eqb-true d.number n q))
    by false q e rest = inr (rest e)

-- ---- globals

look_take : (k : ℕ) (gs : List Placed) (n : ℕ) (ty : Ty) → look (take k gs) n ≡ Some ty → look gs n ≡ Some ty
look_take zero gs n ty e = absurd (none-some ty e)
look_take (suc k) [] n ty e = e
look_take (suc k) (g ∷ gs) n ty e = by (nat_eq g.number n) e (λ q. look_take k gs n ty q)
  where
    by : (b : Bool) → (if b then Some g.of else look (take k gs) n) ≡ Some ty → (look (take k gs) n ≡ Some ty → look gs n ≡ Some ty) →
        (if b then Some g.of else look gs n) ≡ Some ty
    by true e rest = e
    by false e rest = rest e

not_less : (m n : ℕ) → nat_lt m n ≡ false → n ≤ m
not_less m n e = by (split m n)
  where
    split : (m n : ℕ) → (m < n) ⊎ (n ≤ m)
    split m zero = inr (omega arith)
    split zero (suc n) = inl (omega arith)
    split (suc m) (suc n) = wide (split m n)
      where
        wide : (m < n) ⊎ (n ≤ m) → (suc m < suc n) ⊎ (suc n ≤ suc m)
        wide (inl q) = inl (omega (arith, q))
        wide (inr q) = inr (omega (arith, q))

    by : (m < n) ⊎ (n ≤ m) → n ≤ m
    by (inl q) = absurd (false≢true (sym e ∙ lt-ltb m n q))
    by (inr q) = q

one_less : (a b : Bool) (m n : ℕ) → (a ≡ true → b ≡ true) → m ≤ n → one_more a m ≤ one_more b n
one_less true true m n h le = omega (arith, le)
one_less true false m n h le = absurd (false≢true (h refl))
one_less false true m n h le = omega (arith, le)
one_less false false m n h le = le

one_strict : (a b : Bool) (m n : ℕ) → (a ≡ true → b ≡ true) → m < n → one_more a m < one_more b n
one_strict true true m n h le = omega (arith, le)
one_strict true false m n h le = absurd (false≢true (h refl))
one_strict false true m n h le = omega (arith, le)
one_strict false false m n h le = le

lower : (k a b : ℕ) → a ≤ b → nat_lt k a ≡ true → nat_lt k b ≡ true
lower k a b le e = let less = ltb-true k a e in lt-ltb k b (omega (arith, less, le))

counts_less : (a b : ℕ) (gs : List Placed) → a ≤ b → count_below a gs ≤ count_below b gs
counts_less a b [] le = omega arith
counts_less a b (g ∷ gs) le =
    one_less (nat_lt g.number a) (nat_lt g.number b) (count_below a gs) (count_below b gs) (λ e. lower g.number a b le e) (counts_less a b gs le)

-- as many below both ends: none lies between
counts_strict : (a b : ℕ) (gs : List Placed) (n : ℕ) (ty : Ty) → look gs n ≡ Some ty → a ≤ n → n < b → count_below a gs < count_below b gs
counts_strict a b [] n ty e le less = absurd (none-some ty e)
counts_strict a b (g ∷ gs) n ty e le less = by (nat_eq g.number n) refl e (λ q. counts_strict a b gs n ty q le less)
  where
    there : g.number ≡ n → count_below a (g ∷ gs) < count_below b (g ∷ gs)
    there same =
        let low : nat_lt g.number a ≡ false = not_true (nat_lt g.number a) (λ e. let q = ltb-true g.number a e in absurd (omega (arith, q, same, le))) in
        let high : nat_lt g.number b ≡ true = lt-ltb g.number b (omega (arith, same, less)) in
        let rest = counts_less a b gs (omega (arith, le, less)) in
        subst (λ x. one_more x (count_below a gs) < count_below b (g ∷ gs)) (sym low)
        (subst (λ y. count_below a gs < one_more y (count_below b gs)) (sym high) (omega (arith, rest)))
      where
        not_true : (x : Bool) → (x ≡ true → ⊥) → x ≡ false
        not_true true h = absurd (h refl)
        not_true false h = refl

    by : (c : Bool) → nat_eq g.number n ≡ c → (if c then Some g.of else look gs n) ≡ Some ty →
        (look gs n ≡ Some ty → count_below a gs < count_below b gs) → count_below a (g ∷ gs) < count_below b (g ∷ gs)
    by true q e rest = there (eqb-true g.number n q)
    by false q e rest =
        one_strict (nat_lt g.number a) (nat_lt g.number b) (count_below a gs) (count_below b gs) (λ z. lower g.number a b (omega (arith, le, less)) z) (rest e)

pub no_global : (a b k : ℕ) (gs : List Placed) → nat_eq (count_below a gs) (count_below b gs) ≡ true → (n : ℕ) (ty : Ty) → look (take k gs) n ≡ Some ty →
    a ≤ n → n < b → ⊥
no_global a b k gs same n ty e le less =
    let strict = counts_strict a b gs n ty (look_take k gs n ty e) le less in
    let equal = eqb-true (count_below a gs) (count_below b gs) same in
    omega (arith, strict, equal)

-- ---- a body

module _ (params : List Param) (body : Body) (numbered : is_numbered params body ≡ true) where
  abbrev pub firsts : List Declared
  firsts = param_declared params ++ if_declared body.result

  of_nodes : rise_to body.before MOST_NODES (block_nodes body.stmts) ≡ true
  of_nodes = (and_parts (rise_to body.before MOST_NODES (block_nodes body.stmts)) _ numbered).0

  of_places : (follow body.first (numbers_of (param_places params ++ if_declared body.result)) ≡ true)
      × (rise_to body.first (body.first + body.places) (numbers_of (body_places params body)) ≡ true)
  of_places =
      and_parts (follow body.first (numbers_of (param_places params ++ if_declared body.result)))
      (rise_to body.first (body.first + body.places) (numbers_of (body_places params body)))
      (and_parts (rise_to body.before MOST_NODES (block_nodes body.stmts)) _ numbered).1

  same_places : body_places params body ≡ firsts ++ block_places body.stmts
  same_places =
      ap (λ (ds : List Declared). ds ++ (if_declared body.result ++ block_places body.stmts)) (same_params params)
      ∙ lists_assoc (param_declared params) (if_declared body.result) (block_places body.stmts)

  rises_all : Rise body.first (numbers_of (firsts ++ block_places body.stmts))
  rises_all =
      subst (λ ds. Rise body.first (numbers_of ds)) same_places
      (rises body.first (body.first + body.places) (numbers_of (body_places params body)) of_places.1)

  pub follows_all : follow body.first (numbers_of (param_places params ++ if_declared body.result)) ≡ true
  follows_all = of_places.0

  pub follows : follow body.first (numbers_of firsts) ≡ true
  follows = subst (λ ds. follow body.first (numbers_of (ds ++ if_declared body.result)) ≡ true) (same_params params) of_places.0

  block_rises : Rise (body.first + length firsts) (numbers_of (block_places body.stmts))
  block_rises = follow_behind body.first firsts (block_places body.stmts) follows rises_all

  pub behind : (n : ℕ) → Member n (numbers_of (block_places body.stmts)) → body.first + length (map placed firsts) ≤ n
  behind n m = subst (λ k. body.first + k ≤ n) (sym (as_many firsts))
      (least (body.first + length firsts) n (numbers_of (block_places body.stmts)) block_rises m)

  pub within_body : (n : ℕ) → Member n (numbers_of (firsts ++ block_places body.stmts)) → (body.first ≤ n) × (n < body.first + body.places)
  within_body n m = (
    least body.first n (numbers_of (firsts ++ block_places body.stmts)) rises_all m,
    below_to body.first (body.first + body.places) (numbers_of (body_places params body)) of_places.1 n
        (subst (λ ds. Member n (numbers_of ds)) (sym same_places) m),
  )

  pub numbered_body : (here : Here) (scope : scopes.Here) (limits : Limits) → scope.places ≡ map placed firsts →
      ((n : ℕ) (ty : Ty) → look (take scope.filled scope.globals) n ≡ Some ty → body.first ≤ n → n < body.first + body.places → ⊥) →
      Numbered here body.first body.places scope limits (block_places body.stmts) (block_nodes body.stmts)
  numbered_body here scope limits places apart = record {
    from_node = body.before;
    nodes = rises body.before MOST_NODES (block_nodes body.stmts) of_nodes;
    from_place = body.first + length firsts;
    rises = block_rises;
    bounds = λ n m. within_body n (numbers_second n firsts (block_places body.stmts) m);
    none = none;
  }
    where
      none : NoneNamed here scope limits (numbers_of (block_places body.stmts))
      none true n ty seen e same m =
          let at = within_body n (numbers_second n firsts (block_places body.stmts) m) in
          apart n ty e at.0 at.1
      none false n ty seen e same m =
          numbers_apart body.first firsts (block_places body.stmts) rises_all n
          (look_in firsts n ty (subst (λ ps. look ps n ≡ Some ty) places e)) m
