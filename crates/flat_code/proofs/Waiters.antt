-- A node leads to the temporary whose value waits there.
use Rattle.std.proofs.Common.{◌≡◌, refl, sym, ap, ◌∙◌, subst, ℕ, Bool, true, false, ◌&&◌, List, [], ◌∷◌, Option, Some, None}
use Rattle.std.specs.Prelude.{◌||◌, not, nat_eq, if◌then◌else◌}
use Rattle.std.proofs.lemmas.Bool.{and_parts, or_parts, or_from, and_left, not-true, eqb-true}
use Rattle.flat_code.specs.declared.place.FlatPlace.{FlatPlace}
use Rattle.flat_code.specs.Fits.{is_value, place_named}
use Rattle.flat_code.specs.BuiltCode.{is_temporary}
use Rattle.flat_code.specs.Scene.{Known}
use Rattle.flat_code.specs.Waits.{is_node, any_waits, if_waits, waiter, waits_alone, wait_once, waits_in}
use Rattle.flat_code.proofs.ConstantShapes.{never}

-- one that waits
abbrev all : FlatPlace → Bool
all p = true

-- it has hooks, and no other of these waits there
alone : (o : Option ℕ) (node : ℕ) (p : FlatPlace) (places : List FlatPlace) → is_node node o ≡ true → waits_alone o p places ≡ true →
    (is_temporary p.kind && p.hooked ≡ true) × (any_waits all node places ≡ false)
alone None node p places e h = never e
alone (Some n) node p places e h =
    let q = and_parts (is_temporary p.kind && p.hooked) (not (any_waits all n places)) h in
    (q.0, subst (λ m. any_waits all m places ≡ false) (eqb-true n node e) (not-true (any_waits all n places) q.1))

none_holds : (holds : FlatPlace → Bool) (node : ℕ) (places : List FlatPlace) → any_waits all node places ≡ false → any_waits holds node places ≡ false
none_holds holds node [] h = refl
none_holds holds node (p ∷ places) h =
    let q = or_parts (is_node node p.waits && true) (any_waits all node places) h in
    or_from (is_node node p.waits && holds p) (any_waits holds node places) (and_left _ _ (of (is_node node p.waits) q.0)) (none_holds holds node places q.1)
  where
    of : (b : Bool) → b && true ≡ false → b ≡ false
    of true e = never (sym e)
    of false e = refl

none_waits : (node : ℕ) (places : List FlatPlace) → any_waits all node places ≡ false → waiter node places ≡ None
none_waits node [] h = refl
none_waits node (p ∷ places) h = by (is_node node p.waits) (λ e. none_waits node places e) h
  where
    by : (b : Bool) → (any_waits all node places ≡ false → waiter node places ≡ None) →
        (b && true) || any_waits all node places ≡ false → (if b then Some p else waiter node places) ≡ None
    by true rest e = never (sym e)
    by false rest e = rest e

-- the place found, of which that holds
abbrev pub Found : (holds : FlatPlace → Bool) (node : ℕ) → List FlatPlace → Type 0
Found holds node places = (p : FlatPlace) × ((waiter node places ≡ Some p) × (holds p ≡ true))

pub found : (holds : FlatPlace → Bool) (node : ℕ) (places : List FlatPlace) → wait_once places ≡ true → any_waits holds node places ≡ true →
    Found holds node places
found holds node [] once h = never h
found holds node (p ∷ places) once h =
    by (is_node node p.waits) refl
    (λ more. found holds node places (and_parts (waits_alone p.waits p places) (wait_once places) once).1 more)
  where
    by : (b : Bool) → is_node node p.waits ≡ b → (any_waits holds node places ≡ true → Found holds node places) → Found holds node (p ∷ places)
    by true e rest =
        let none = none_holds holds node places
        (alone p.waits node p places e (and_parts (waits_alone p.waits p places) (wait_once places) once).0).1 in (
          p,
          (
            ap (λ b. if b then Some p else waiter node places) e,
            it (holds p) (any_waits holds node places) none (ap (λ b. (b && holds p) || any_waits holds node places) (sym e) ∙ h),
          ),
        )
      where
        it : (b c : Bool) → c ≡ false → b || c ≡ true → b ≡ true
        it true c none h = refl
        it false c none h = sym none ∙ h
    by false e rest =
        let q = rest (ap (λ b. (b && holds p) || any_waits holds node places) (sym e) ∙ h) in
        (q.0, (ap (λ b. if b then Some p else waiter node places) e ∙ q.1.0, q.1.1))

pub temporary : (known : Known) (places : List FlatPlace) (t node : ℕ) → wait_once places ≡ true → waits_in known places t node ≡ true →
    waiter node places ≡ place_named is_value places t
temporary known [] t node once h = never h
temporary known (p ∷ places) t node once h =
    by (nat_eq p.number t && is_value p.kind)
    (λ more. temporary known places t node (and_parts (waits_alone p.waits p places) (wait_once places) once).1 more) h
  where
    Later : Type 0
    Later = if_waits node (place_named is_value places t) ≡ true → waiter node places ≡ place_named is_value places t

    -- it waits further on
    later : (b : Bool) → is_node node p.waits ≡ b → Later → if_waits node (place_named is_value places t) ≡ true →
        waiter node (p ∷ places) ≡ place_named is_value places t
    later true e rest h =
        let none = none_waits node places (alone p.waits node p places e (and_parts (waits_alone p.waits p places) (wait_once places) once).0).1 in
        never (ap (if_waits node) (sym none ∙ rest h) ∙ h)
    later false e rest h = ap (λ b. if b then Some p else waiter node places) e ∙ rest h

    by : (b : Bool) → Later → if_waits node (if b then Some p else place_named is_value places t) ≡ true →
        waiter node (p ∷ places) ≡ (if b then Some p else place_named is_value places t)
    by true rest h = ap (λ b. if b then Some p else waiter node places) h
    by false rest h = later (is_node node p.waits) refl rest h

-- it has hooks
pub hooked : (places : List FlatPlace) (node : ℕ) (p : FlatPlace) → wait_once places ≡ true → waiter node places ≡ Some p →
    is_temporary p.kind && p.hooked ≡ true
hooked [] node p once h = never (ap is_some (sym h))
  where
    is_some : Option FlatPlace → Bool
    is_some None = true
    is_some (Some q) = false
hooked (q ∷ places) node p once h =
    by (is_node node q.waits) refl (λ more. hooked places node p (and_parts (waits_alone q.waits q places) (wait_once places) once).1 more) (sym h)
  where
    or_q : Option FlatPlace → FlatPlace
    or_q None = q
    or_q (Some r) = r

    by : (b : Bool) → is_node node q.waits ≡ b → (waiter node places ≡ Some p → is_temporary p.kind && p.hooked ≡ true) →
        Some p ≡ waiter node (q ∷ places) → is_temporary p.kind && p.hooked ≡ true
    by true e rest h =
        let same : p ≡ q = ap or_q (h ∙ ap (λ b. if b then Some q else waiter node places) e) in
        ap (λ r. is_temporary r.kind && r.hooked) same
        ∙ (alone q.waits node q places e (and_parts (waits_alone q.waits q places) (wait_once places) once).0).0
    by false e rest h = rest (sym (h ∙ ap (λ b. if b then Some q else waiter node places) e))
