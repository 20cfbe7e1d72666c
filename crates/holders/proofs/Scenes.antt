-- Names that are looked up.
use Rattle.std.proofs.Common.{◌≡◌, refl, sym, ap, subst, ◌∙◌, arith, ℕ, suc, ◌+◌, inl, inr, Bool, true, false, not, List, [], ◌∷◌, ◌++◌, length, Some}
use Rattle.std.specs.Prelude.{nat_eq, if◌then◌else◌}
use Rattle.std.proofs.lemmas.Bool.{eqb-true, false≢true}
use Rattle.std.proofs.lemmas.Option.{none-some, same_Some}
use Rattle.nim_types.specs.Types.{Ty, Facts}
use Rattle.nim_types.specs.Forms.{Form, form_of}
use Rattle.nim_program.specs.Scopes.{Placed, look}
use Rattle.nim_meaning.specs.Values.{Value, Standing, Made, Location, at_base}
use Rattle.nim_meaning.specs.Marks.{Member}
use Rattle.nim_meaning.specs.State.{World}
use Rattle.holders.specs.Owned.{IsName, IsBase, in_program, From, here}
use Rattle.holders.specs.Territory.{Owner, first_owner, later_owner}
use Rattle.holders.specs.Finding.{PlaceOf, own_place, a_name_of, of_constant}
use Rattle.holders.specs.Scenes.{Named, no_names, its_own, another_name, a_constant}
use Rattle.holders.proofs.Owning.{has_stays}
use Rattle.holders.proofs.Working.{among_first, among_second, number_first, number_second}

-- a place behind one cell more
pub one_later : {os : List Owner} {o : Owner} {world : World} {level n : ℕ} {f : Form} {b : Bool} {root : ℕ} → PlaceOf os world level n f b root →
    PlaceOf (o ∷ os) world level n f b (suc root)
one_later (own_place i) = own_place (later_owner i)
one_later (a_name_of name i) = a_name_of name (later_owner i)
one_later (of_constant name made from h) = of_constant name made from h

-- among others, before and behind
pub place_first : (qs : List Owner) {os : List Owner} {world : World} {level n : ℕ} {f : Form} {b : Bool} {root : ℕ} → PlaceOf os world level n f b root →
    PlaceOf (os ++ qs) world level n f b root
place_first qs {os} {world} {level} {n} {f = f} {b = b} (own_place i) =
    subst (λ m. PlaceOf (os ++ qs) world level n f b m) (number_first qs i) (own_place (among_first qs i))
place_first qs {os} {world} {level} {n} {f = f} {b = b} (a_name_of name i) =
    subst (λ m. PlaceOf (os ++ qs) world level n f b m) (number_first qs i) (a_name_of name (among_first qs i))
place_first qs (of_constant name made from h) = of_constant name made from h

pub place_second : (os : List Owner) {qs : List Owner} {world : World} {level n : ℕ} {f : Form} {b : Bool} {root : ℕ} → PlaceOf qs world level n f b root →
    PlaceOf (os ++ qs) world level n f b (length os + root)
place_second os {qs} {world} {level} {n} {f = f} {b = b} (own_place i) =
    subst (λ m. PlaceOf (os ++ qs) world level n f b m) (number_second os i) (own_place (among_second os i))
place_second os {qs} {world} {level} {n} {f = f} {b = b} (a_name_of name i) =
    subst (λ m. PlaceOf (os ++ qs) world level n f b m) (number_second os i) (a_name_of name (among_second os i))
place_second os (of_constant name made from h) = of_constant name made from h

-- what stands in the program stays as it is
pub constant_stays : {world after : World} {l : Location} {u v constant : Value} → l.base ≡ Made constant → From world l u v → From after l u v
constant_stays {world} {after} {l} {u} made from = record {
  base = subst (λ b. IsBase after b u) (sym made) (again (subst (λ b. IsBase world b u) made from.base));
  there = from.there;
  is = from.is;
}
  where
    again : {x : Value} → IsBase world (Made x) u → IsBase after (Made x) u
    again in_program = in_program

-- a place is the same where its names are
pub place_kept : {os : List Owner} {world after : World} {level n : ℕ} {f : Form} {b : Bool} {m : ℕ} →
    ((l : Location) → IsName world.frames level n l → IsName after.frames level n l) → PlaceOf os world level n f b m → PlaceOf os after level n f b m
place_kept names (own_place i) = own_place i
place_kept names (a_name_of {l = l} name i) = a_name_of (names l name) i
place_kept {world = world} {after = after} names (of_constant {l = l} name made from h) =
    of_constant (names l name) made (constant_stays made from) (has_stays world after (λ k x m is. elim m [ ]) h)

-- ---- one that is looked up

module _ {facts : Facts} {lent : ℕ → Bool} {world : World} {level : ℕ} where
  -- the position of a place's cell
  abbrev pub position : {ps : List Placed} {os : List Owner} → Named facts lent world level ps os → (n : ℕ) → ℕ
  position no_names n = 0
  position (its_own {p = p} more) n = if nat_eq p.number n then 0 else suc (position more n)
  position (another_name {p = p} name more) n = if nat_eq p.number n then 0 else suc (position more n)
  position (a_constant {p = p} is_lent name h more) n = if nat_eq p.number n then 0 else position more n

  pub looked : {ps : List Placed} {os : List Owner} (n : ℕ) {ty : Ty} (names : Named facts lent world level ps os) → look ps n ≡ Some ty →
      PlaceOf os world level n (form_of facts ty) (not (lent n)) (position names n)
  looked n {ty} no_names e = absurd (none-some ty e)
  looked n {ty} (its_own {p = p} {ps = ps} {os = os} more) e = by (nat_eq p.number n) refl e (λ q. looked n more q)
    where
      own : Owner
      own = record { form = form_of facts p.of; at = at_base (Standing level p.number) }

      by : (b : Bool) → nat_eq p.number n ≡ b → (if b then Some p.of else look ps n) ≡ Some ty →
          (look ps n ≡ Some ty → PlaceOf os world level n (form_of facts ty) (not (lent n)) (position more n)) →
          PlaceOf (own ∷ os) world level n (form_of facts ty) (not (lent n)) (if b then 0 else suc (position more n))
      by true is e rest = subst (λ t. PlaceOf (own ∷ os) world level n (form_of facts t) (not (lent n)) 0) (same_Some p.of ty e)
          (subst (λ m. PlaceOf (own ∷ os) world level m (form_of facts p.of) (not (lent m)) 0) (eqb-true p.number n is) (own_place first_owner))
      by false is e rest = one_later (rest e)
  looked n {ty} (another_name {p = p} {ps = ps} {os = os} {l = l} name more) e = by (nat_eq p.number n) refl e (λ q. looked n more q)
    where
      that : Owner
      that = record { form = form_of facts p.of; at = l }

      by : (b : Bool) → nat_eq p.number n ≡ b → (if b then Some p.of else look ps n) ≡ Some ty →
          (look ps n ≡ Some ty → PlaceOf os world level n (form_of facts ty) (not (lent n)) (position more n)) →
          PlaceOf (that ∷ os) world level n (form_of facts ty) (not (lent n)) (if b then 0 else suc (position more n))
      by true is e rest = subst (λ t. PlaceOf (that ∷ os) world level n (form_of facts t) (not (lent n)) 0) (same_Some p.of ty e)
          (subst (λ m. PlaceOf (that ∷ os) world level m (form_of facts p.of) (not (lent m)) 0) (eqb-true p.number n is) (a_name_of name first_owner))
      by false is e rest = one_later (rest e)
  looked n {ty} (a_constant {p = p} {ps = ps} {os = os} is_lent name h more) e = by (nat_eq p.number n) refl e (λ q. looked n more q)
    where
      by : (b : Bool) → nat_eq p.number n ≡ b → (if b then Some p.of else look ps n) ≡ Some ty →
          (look ps n ≡ Some ty → PlaceOf os world level n (form_of facts ty) (not (lent n)) (position more n)) →
          PlaceOf os world level n (form_of facts ty) (not (lent n)) (if b then 0 else position more n)
      by true is e rest = subst (λ t. PlaceOf os world level n (form_of facts t) (not (lent n)) 0) (same_Some p.of ty e)
          (subst (λ m. PlaceOf os world level m (form_of facts p.of) (not (lent m)) 0) (eqb-true p.number n is)
          (subst (λ b. PlaceOf os world level p.number (form_of facts p.of) (not b) 0) (sym is_lent)
          (of_constant name refl (record { base = in_program; there = here; is = refl }) h)))
      by false is e rest = rest e

  -- different places that aren't lent have cells at different positions
  pub positions_two : {ps : List Placed} {os : List Owner} (n m : ℕ) {ty other : Ty} (names : Named facts lent world level ps os) → (n ≡ m → ⊥) →
      look ps n ≡ Some ty → look ps m ≡ Some other → lent n ≡ false → lent m ≡ false → position names n ≡ position names m → ⊥
  positions_two n m {ty} no_names apart a b x y e = none-some ty a
  positions_two n m {ty} {other} (its_own {p = p} {ps = ps} more) apart a b x y e =
      by (nat_eq p.number n) (nat_eq p.number m) refl refl a b e (λ c d q. positions_two n m more apart c d x y q)
    where
      by : (u v : Bool) → nat_eq p.number n ≡ u → nat_eq p.number m ≡ v → (if u then Some p.of else look ps n) ≡ Some ty →
          (if v then Some p.of else look ps m) ≡ Some other → (if u then 0 else suc (position more n)) ≡ (if v then 0 else suc (position more m)) →
          (look ps n ≡ Some ty → look ps m ≡ Some other → position more n ≡ position more m → ⊥) → ⊥
      by true true is also a b e rest = apart (sym (eqb-true p.number n is) ∙ eqb-true p.number m also)
      by true false is also a b e rest = omega (arith, e)
      by false true is also a b e rest = omega (arith, e)
      by false false is also a b e rest = rest a b (omega (arith, e))
  positions_two n m {ty} {other} (another_name {p = p} {ps = ps} name more) apart a b x y e =
      by (nat_eq p.number n) (nat_eq p.number m) refl refl a b e (λ c d q. positions_two n m more apart c d x y q)
    where
      by : (u v : Bool) → nat_eq p.number n ≡ u → nat_eq p.number m ≡ v → (if u then Some p.of else look ps n) ≡ Some ty →
          (if v then Some p.of else look ps m) ≡ Some other → (if u then 0 else suc (position more n)) ≡ (if v then 0 else suc (position more m)) →
          (look ps n ≡ Some ty → look ps m ≡ Some other → position more n ≡ position more m → ⊥) → ⊥
      by true true is also a b e rest = apart (sym (eqb-true p.number n is) ∙ eqb-true p.number m also)
      by true false is also a b e rest = omega (arith, e)
      by false true is also a b e rest = omega (arith, e)
      by false false is also a b e rest = rest a b (omega (arith, e))
  positions_two n m {ty} {other} (a_constant {p = p} {ps = ps} is_lent name h more) apart a b x y e =
      by (nat_eq p.number n) (nat_eq p.number m) refl refl a b e (λ c d q. positions_two n m more apart c d x y q)
    where
      never : (k : ℕ) → nat_eq p.number k ≡ true → lent k ≡ false → ⊥
      never k is no_lent = false≢true (sym no_lent ∙ sym (ap lent (eqb-true p.number k is)) ∙ is_lent)

      by : (u v : Bool) → nat_eq p.number n ≡ u → nat_eq p.number m ≡ v → (if u then Some p.of else look ps n) ≡ Some ty →
          (if v then Some p.of else look ps m) ≡ Some other → (if u then 0 else position more n) ≡ (if v then 0 else position more m) →
          (look ps n ≡ Some ty → look ps m ≡ Some other → position more n ≡ position more m → ⊥) → ⊥
      by true v is also a b e rest = never n is x
      by false true is also a b e rest = never m also y
      by false false is also a b e rest = rest a b e

-- ---- they stand for the same afterwards

abbrev pub numbers_in : List Placed → List ℕ
numbers_in [] = []
numbers_in (p ∷ ps) = p.number ∷ numbers_in ps

pub named_stays : {facts : Facts} {lent : ℕ → Bool} {world after : World} {level : ℕ} {ps : List Placed} {os : List Owner} →
    ((n : ℕ) (l : Location) → Member n (numbers_in ps) → IsName world.frames level n l → IsName after.frames level n l) →
    Named facts lent world level ps os → Named facts lent after level ps os
named_stays stay no_names = no_names
named_stays stay (its_own more) = its_own (named_stays (λ n l m. stay n l (inr m)) more)
named_stays stay (another_name {p = p} {l = l} name more) = another_name (stay p.number l (inl refl) name) (named_stays (λ n l m. stay n l (inr m)) more)
named_stays {world = world} {after = after} stay (a_constant {p = p} {v = v} is_lent name h more) =
    a_constant is_lent (stay p.number (at_base (Made v)) (inl refl) name) (has_stays world after (λ k x m is. elim m [ ]) h)
    (named_stays (λ n l m. stay n l (inr m)) more)

-- one more place in scope
pub named_more : {facts : Facts} {lent : ℕ → Bool} {world : World} {level : ℕ} {ps qs : List Placed} {os us : List Owner} →
    Named facts lent world level ps os → Named facts lent world level qs us → Named facts lent world level (ps ++ qs) (os ++ us)
named_more no_names rest = rest
named_more (its_own more) rest = its_own (named_more more rest)
named_more (another_name name more) rest = another_name name (named_more more rest)
named_more (a_constant is_lent name h more) rest = a_constant is_lent name h (named_more more rest)
