-- What the variables of a hook hold, by what is known of its temporaries.
use Rattle.std.proofs.Common.{◌≡◌, ◌≢◌, ◌⊎◌, inl, inr, ℕ, ◌+◌, ◌%◌, ◌^◌, ◌<◌, ◌≤◌, Bool, true, false, List, length, Option, Some, None}
use Rattle.std.proofs.Common.{refl, sym, ap, subst, ◌∙◌, arith}
use Rattle.std.specs.Prelude.{pos}
use Rattle.std.proofs.lemmas.Bool.{false≢true, cases_eq}
use Rattle.nim_types.specs.declared.types.TypeDef.{TypeDef}
use Rattle.nim_meaning.specs.Values.{Value, Number, InHand, Location, at_base}
use Rattle.flat_code.specs.Scene.{Located, Temps, with_value, with_place}
use Rattle.word_code.specs.Words.{Vars, put}
use Rattle.hook_code.specs.Surroundings.{Hand, IsFull, Stays, Surroundings}
pub use Rattle.hook_code.proofs.Variables.{put_here, put_there, put_word, set_here, set_there, got_here, got_there, none_some, same_some}
use Rattle.hook_code.proofs.Env.{Env, set, IsPart, IsCount, IsPair, Covers, counted, turned, located, handled, under_way}

-- ---- variables

-- variables that come between don't count
abbrev pub AreKept : (old new : Vars) → Type 0
AreKept old new = (u : ℕ) → u ≤ 10 → new u ≡ old u

pub kept_between : (old new : Vars) (to n : ℕ) → 11 ≤ to → AreKept old new → AreKept old (put new to n)
kept_between old new to n le kept u less = put_there new to n u (λ e. absurd (omega (arith, e, le, less))) ∙ kept u less

pub kept_none : (v : Vars) → AreKept v v
kept_none v u less = refl

pub part_few : (t : ℕ) → IsPart t → (2 ≤ t) × (t ≤ 3)
part_few t (inl e) = (omega (arith, e), omega (arith, e))
part_few t (inr e) = (omega (arith, e), omega (arith, e))

pub pair_few : (t : ℕ) → IsPair t → (6 ≤ t) × (t ≤ 7)
pair_few t (inl e) = (omega (arith, e), omega (arith, e))
pair_few t (inr e) = (omega (arith, e), omega (arith, e))

-- a count is neither a location nor part of a handle
pub record IsApart (t : ℕ) : Type 0 where
  pub low : 4 ≤ t
  pub high : t ≤ 8
  pub six : t ≢ 6
  pub seven : t ≢ 7

pub count_apart : (t : ℕ) → IsCount t → IsApart t
count_apart t (inl e) = record { low = omega (arith, e); high = omega (arith, e); six = λ f. omega (arith, e, f); seven = λ f. omega (arith, e, f) }
count_apart t (inr (inl e)) = record { low = omega (arith, e); high = omega (arith, e); six = λ f. omega (arith, e, f); seven = λ f. omega (arith, e, f) }
count_apart t (inr (inr e)) = record { low = omega (arith, e); high = omega (arith, e); six = λ f. omega (arith, e, f); seven = λ f. omega (arith, e, f) }

abbrev pub hand_length : Hand → ℕ
hand_length h = length h

-- what may not be put to a place stands where a hook works from
abbrev pub IsTied : (own : Bool) → Temps → Value → Type 0
IsTied true temps v = Unit {0}
IsTied false temps v = (l : Location) × (temps.places 1 ≡ Some (Located l)) × Stays l v

pub tied_as : (o : Bool) (temps now : Temps) (v : Value) → now.places 1 ≡ temps.places 1 → IsTied o temps v → IsTied o now v
tied_as true temps now v same t = t
tied_as false temps now v same t = (t.0, same ∙ t.1, t.2)

module _ (table : List TypeDef) (z : Surroundings table) (h : Hand) (own : ℕ) where
  -- a variable has the address of a location of a type
  pub record AtPlace (d : z.Blocks) (temps : Temps) (vars : Vars) (j : ℕ) (x : Bool × ℕ) : Type 0 where
    pub few : j ≤ 3
    pub location : Location
    pub address : ℕ
    pub place : temps.places j ≡ Some (Located location)
    pub variable : vars j ≡ Some address
    pub leads : z.Leads x.0 h d location address x.1

  pub record HasCount (temps : Temps) (vars : Vars) (t : ℕ) : Type 0 where
    pub is : IsCount t
    pub number : ℕ
    pub small : number < 2 ^ 32
    pub value : temps.values t ≡ Some (Number (pos number))
    pub variable : vars t ≡ Some number

  abbrev pub IfFull : Bool → Value → Type 0
  IfFull true v = IsFull v
  IfFull false v = Unit {0}

  pub record HasPair (d : z.Blocks) (temps : Temps) (vars : Vars) (t : ℕ) (full o : Bool) (ty : ℕ) : Type 0 where
    pub is : IsPair t
    pub value : Value
    pub length : ℕ
    pub place : ℕ
    pub there : temps.values t ≡ Some value
    pub long : vars t ≡ Some length
    pub contents : vars (t + 3) ≡ Some place
    pub handle : z.IsHandle o d ty value length place
    pub sure : IfFull full value
    pub tied : IsTied o temps value

  -- the next one of the loop's number has 32 bits
  pub record IsSmall (temps : Temps) : Type 0 where
    pub number : ℕ
    pub value : temps.values 4 ≡ Some (Number (pos number))
    pub next : number + 1 < 2 ^ 32

  -- the value under way stands in the hook's own places
  pub record IsBegun (e : Env) (temps : Temps) (vars : Vars) : Type 0 where
    pub place : temps.places 2 ≡ Some (Located (at_base (InHand (z.before + hand_length h))))
    pub variable : vars 2 ≡ Some own
    pub none : e.at 2 ≡ None

  pub record Knows (d : z.Blocks) (e : Env) (temps : Temps) (vars : Vars) : Type 0 where
    pub at : (j : ℕ) (x : Bool × ℕ) → e.at j ≡ Some x → AtPlace d temps vars j x
    pub counts : (t : ℕ) → e.counts t ≡ true → HasCount temps vars t
    pub has : (t : ℕ) (x : Bool × (Bool × ℕ)) → e.has t ≡ Some x → HasPair d temps vars t x.0 x.1.0 x.1.1
    pub small : e.small ≡ true → IsSmall temps
    pub begun : (ty : ℕ) → e.begun ≡ Some ty → IsBegun e temps vars

  -- ---- what stays known

  module _ (d : z.Blocks) (e : Env) (temps : Temps) (old : Vars) (k : Knows d e temps old) where
    pub knows_kept : (new : Vars) → AreKept old new → Knows d e temps new
    knows_kept new kept = record {
      at = λ j ty is. let x = k.at j ty is in record {
        few = x.few;
        location = x.location;
        address = x.address;
        place = x.place;
        variable = kept j (let few = x.few in omega (arith, few)) ∙ x.variable;
        leads = x.leads;
      };
      counts = λ t is. let x = k.counts t is in record {
        is = x.is;
        number = x.number;
        small = x.small;
        value = x.value;
        variable = kept t (let few = (count_apart t x.is).high in omega (arith, few)) ∙ x.variable;
      };
      has = λ t y is. let x = k.has t y is in let few = (pair_few t x.is).1 in record {
        is = x.is;
        value = x.value;
        length = x.length;
        place = x.place;
        there = x.there;
        long = kept t (omega (arith, few)) ∙ x.long;
        contents = kept (t + 3) (omega (arith, few)) ∙ x.contents;
        handle = x.handle;
        sure = x.sure;
        tied = x.tied;
      };
      small = k.small;
      begun = λ ty is. let x = k.begun ty is in record { place = x.place; variable = kept 2 (omega arith) ∙ x.variable; none = x.none };
    }

    pub knows_later : (later : z.Blocks) → z.Later d later → Knows later e temps old
    knows_later later ahead = record {
      at = λ j ty is. let x = k.at j ty is in record {
        few = x.few;
        location = x.location;
        address = x.address;
        place = x.place;
        variable = x.variable;
        leads = z.leads_later ty.0 h d later x.location x.address ty.1 ahead x.leads;
      };
      counts = k.counts;
      has = λ t y is. let x = k.has t y is in record {
        is = x.is;
        value = x.value;
        length = x.length;
        place = x.place;
        there = x.there;
        long = x.long;
        contents = x.contents;
        handle = z.handle_later y.1.0 d later x.value y.1.1 x.length x.place ahead x.handle;
        sure = x.sure;
        tied = x.tied;
      };
      small = k.small;
      begun = k.begun;
    }

    pub knows_covered : (f : Env) → Covers e f → Knows d f temps old
    knows_covered f covers = record {
      at = λ j ty is. k.at j ty (covers.at j ty is);
      counts = λ t is. k.counts t (covers.counts t is);
      has = λ t y is. k.has t y (covers.has t y is);
      small = λ is. k.small (covers.small is);
      begun = λ ty is. let x = k.begun ty (covers.begun ∙ is) in record { place = x.place; variable = x.variable; none = none x.none (f.at 2) refl };
    }
      where
        none : e.at 2 ≡ None → (o : Option (Bool × ℕ)) → f.at 2 ≡ o → f.at 2 ≡ None
        none is None g = g
        none is (Some ty) g = absurd (none_some (sym is ∙ covers.at 2 ty g))

    pub knows_small : IsSmall temps → Knows d (record e { small = true }) temps old
    knows_small small = record {
      at = k.at;
      counts = k.counts;
      has = k.has;
      small = λ is. small;
      begun = λ ty is. let x = k.begun ty is in
          record { place = x.place; variable = x.variable; none = x.none };
    }

    pub knows_over : Knows d (record e { begun = None }) temps old
    knows_over = record { at = k.at; counts = k.counts; has = k.has; small = k.small; begun = λ ty is. absurd (none_some is) }

    -- ---- what comes to be known

    -- another address in place of a location's
    pub knows_place : (to : ℕ) (o : Bool) (ty n : ℕ) (l : Location) → IsPart to → e.begun ≡ None → z.Leads o h d l (n % 2 ^ 32) ty
        → Knows d (located e to o ty) (with_place to temps (Located l)) (put old to n)
    knows_place to o ty n l part begun leads = record {
      at = λ j t is. by_place j t is (cases_eq j to);
      counts = λ t is. let x = k.counts t is in record {
        is = x.is;
        number = x.number;
        small = x.small;
        value = x.value;
        variable = put_there old to n t (λ f. let low = (count_apart t x.is).low in let few = (part_few to part).1 in omega (arith, f, low, few)) ∙ x.variable;
      };
      has = λ t y is. let x = k.has t y is in let low = (pair_few t x.is).0 in let few = (part_few to part).1 in record {
        is = x.is;
        value = x.value;
        length = x.length;
        place = x.place;
        there = x.there;
        long = put_there old to n t (λ f. omega (arith, f, low, few)) ∙ x.long;
        contents = put_there old to n (t + 3) (λ f. omega (arith, f, low, few)) ∙ x.contents;
        handle = x.handle;
        sure = x.sure;
        tied = tied_as y.1.0 temps (with_place to temps (Located l)) x.value (got_there temps.places to (Located l) 1 (λ f. omega (arith, f, few))) x.tied;
      };
      small = λ is. let x = k.small is in record { number = x.number; value = x.value; next = x.next };
      begun = λ t is. absurd (none_some (sym begun ∙ is));
    }
      where
        now : Temps
        now = with_place to temps (Located l)

        here : AtPlace d now (put old to n) to (o, ty)
        here = record {
          few = (part_few to part).1;
          location = l;
          address = n % 2 ^ 32;
          place = got_here temps.places to (Located l);
          variable = put_here old to n;
          leads = leads;
        }

        by_place : (j : ℕ) (t : Bool × ℕ) → set e.at to (Some (o, ty)) j ≡ Some t → (j ≡ to) ⊎ (j ≢ to) → AtPlace d now (put old to n) j t
        by_place j t is (inl same) =
            let type_is : (o, ty) ≡ t = same_some (o, ty) t (sym (set_here e.at to (Some (o, ty))) ∙ (ap (set e.at to (Some (o, ty))) (sym same) ∙ is)) in
            subst (λ i. AtPlace d now (put old to n) i t) (sym same) (subst (λ (s : Bool × ℕ). AtPlace d now (put old to n) to s) type_is here)
        by_place j t is (inr ne) =
            let x = k.at j t (sym (set_there e.at to (Some (o, ty)) j ne) ∙ is) in record {
              few = x.few;
              location = x.location;
              address = x.address;
              place = got_there temps.places to (Located l) j ne ∙ x.place;
              variable = put_there old to n j ne ∙ x.variable;
              leads = x.leads;
            }

    at_kept : (to n : ℕ) → 4 ≤ to → (j : ℕ) (ty : Bool × ℕ) → e.at j ≡ Some ty → (now : Temps) → now.places ≡ temps.places → AtPlace d now (put old to n) j ty
    at_kept to n low j ty is now same =
        let x = k.at j ty is in let few = x.few in record {
          few = x.few;
          location = x.location;
          address = x.address;
          place = ap (λ places. places j) same ∙ x.place;
          variable = put_there old to n j (λ f. omega (arith, f, few, low)) ∙ x.variable;
          leads = x.leads;
        }

    begun_kept : (to n : ℕ) → 4 ≤ to → (ty : ℕ) → e.begun ≡ Some ty → (f : Env) → f.at ≡ e.at → (now : Temps) → now.places ≡ temps.places
        → IsBegun f now (put old to n)
    begun_kept to n low ty is f same now places =
        let x = k.begun ty is in record {
          place = ap (λ p. p 2) places ∙ x.place;
          variable = put_there old to n 2 (λ g. omega (arith, g, low)) ∙ x.variable;
          none = ap (λ at. at 2) same ∙ x.none;
        }

    -- a number
    pub knows_count : (to n : ℕ) → IsCount to → n < 2 ^ 32 → Knows d (counted e to) (with_value to temps (Number (pos n))) (put old to n)
    knows_count to n is small = record {
      at = λ j ty f. at_kept to n (count_apart to is).low j ty f (with_value to temps (Number (pos n))) refl;
      counts = λ t f. by_count t f (cases_eq t to);
      has = λ t y f. let x = k.has t y f in let few = pair_few t x.is in let c = count_apart to is in let high = c.high in let low = few.0 in record {
        is = x.is;
        value = x.value;
        length = x.length;
        place = x.place;
        there = got_there temps.values to (Number (pos n)) t (away t x.is) ∙ x.there;
        long = put_there old to n t (away t x.is) ∙ x.long;
        contents = put_there old to n (t + 3) (λ g. omega (arith, g, high, low)) ∙ x.contents;
        handle = x.handle;
        sure = x.sure;
        tied = tied_as y.1.0 temps (with_value to temps (Number (pos n))) x.value refl x.tied;
      };
      small = λ f. absurd (false≢true f);
      begun = λ ty f. begun_kept to n (count_apart to is).low ty f (counted e to) refl (with_value to temps (Number (pos n))) refl;
    }
      where
        away : (t : ℕ) → IsPair t → t ≢ to
        away t (inl f) g = (count_apart to is).six (sym g ∙ f)
        away t (inr f) g = (count_apart to is).seven (sym g ∙ f)

        now : Temps
        now = with_value to temps (Number (pos n))

        here : HasCount now (put old to n) to
        here = record { is = is; number = n; small = small; value = got_here temps.values to (Number (pos n)); variable = put_word old to n small }

        by_count : (t : ℕ) → set e.counts to true t ≡ true → (t ≡ to) ⊎ (t ≢ to) → HasCount now (put old to n) t
        by_count t f (inl same) = subst (λ i. HasCount now (put old to n) i) (sym same) here
        by_count t f (inr ne) =
            let x = k.counts t (sym (set_there e.counts to true t ne) ∙ f) in record {
              is = x.is;
              number = x.number;
              small = x.small;
              value = got_there temps.values to (Number (pos n)) t ne ∙ x.value;
              variable = put_there old to n t ne ∙ x.variable;
            }

    -- the loop's number is no more
    pub knows_turned : (n : ℕ) → Knows d (turned e 4) temps (put old 4 n)
    knows_turned n = record {
      at = λ j ty f. at_kept 4 n (omega arith) j ty f temps refl;
      counts = λ t f. by_count t f (cases_eq t 4);
      has = λ t y f. let x = k.has t y f in let low = (pair_few t x.is).0 in record {
        is = x.is;
        value = x.value;
        length = x.length;
        place = x.place;
        there = x.there;
        long = put_there old 4 n t (λ g. omega (arith, g, low)) ∙ x.long;
        contents = put_there old 4 n (t + 3) (λ g. omega (arith, g, low)) ∙ x.contents;
        handle = x.handle;
        sure = x.sure;
        tied = x.tied;
      };
      small = λ f. absurd (false≢true f);
      begun = λ ty f. begun_kept 4 n (omega arith) ty f (turned e 4) refl temps refl;
    }
      where
        by_count : (t : ℕ) → set e.counts 4 false t ≡ true → (t ≡ 4) ⊎ (t ≢ 4) → HasCount temps (put old 4 n) t
        by_count t f (inl same) = absurd (false≢true (sym (set_here e.counts 4 false) ∙ (ap (set e.counts 4 false) (sym same) ∙ f)))
        by_count t f (inr ne) =
            let x = k.counts t (sym (set_there e.counts 4 false t ne) ∙ f) in record {
              is = x.is;
              number = x.number;
              small = x.small;
              value = x.value;
              variable = put_there old 4 n t ne ∙ x.variable;
            }

    -- a handle
    pub knows_pair : (to ty n p : ℕ) (full o : Bool) (v : Value) → IsPair to → z.IsHandle o d ty v (n % 2 ^ 32) (p % 2 ^ 32) → IfFull full v → IsTied o temps v
        → Knows d (handled e to full o ty) (with_value to temps v) (put (put old to n) (to + 3) p)
    knows_pair to ty n p full o v is handle is_full is_tied = record {
      at = λ j t f. let x = k.at j t f in let few = x.few in record {
        few = x.few;
        location = x.location;
        address = x.address;
        place = x.place;
        variable = both j (λ g. omega (arith, g, few, low)) (λ g. omega (arith, g, few, low)) ∙ x.variable;
        leads = x.leads;
      };
      counts = λ t f. let x = k.counts t f in let c = count_apart t x.is in let few = c.high in record {
        is = x.is;
        number = x.number;
        small = x.small;
        value = got_there temps.values to v t (away t c) ∙ x.value;
        variable = both t (away t c) (λ g. omega (arith, g, few, low)) ∙ x.variable;
      };
      has = λ t y f. by_pair t y f (cases_eq t to);
      small = λ f. let x = k.small f in record {
        number = x.number;
        value = got_there temps.values to v 4 (λ g. omega (arith, g, low)) ∙ x.value;
        next = x.next;
      };
      begun = λ t f. let x = k.begun t f in record {
        place = x.place;
        variable = both 2 (λ g. omega (arith, g, low)) (λ g. omega (arith, g, low)) ∙ x.variable;
        none = x.none;
      };
    }
      where
        low : 6 ≤ to
        low = (pair_few to is).0

        high : to ≤ 7
        high = (pair_few to is).1

        away : (t : ℕ) → IsApart t → t ≢ to
        away t c g = by is
          where
            by : IsPair to → ⊥
            by (inl f) = c.six (g ∙ f)
            by (inr f) = c.seven (g ∙ f)

        now : Temps
        now = with_value to temps v

        vars : Vars
        vars = put (put old to n) (to + 3) p

        both : (u : ℕ) → u ≢ to → u ≢ to + 3 → vars u ≡ old u
        both u ne other = put_there (put old to n) (to + 3) p u other ∙ put_there old to n u ne

        here : HasPair d now vars to full o ty
        here = record {
          is = is;
          value = v;
          length = n % 2 ^ 32;
          place = p % 2 ^ 32;
          there = got_here temps.values to v;
          long = put_there (put old to n) (to + 3) p to (λ g. omega (arith, g)) ∙ put_here old to n;
          contents = put_here (put old to n) (to + 3) p;
          handle = handle;
          sure = is_full;
          tied = tied_as o temps now v refl is_tied;
        }

        by_pair : (t : ℕ) (y : Bool × (Bool × ℕ)) → set e.has to (Some (full, (o, ty))) t ≡ Some y → (t ≡ to) ⊎ (t ≢ to)
            → HasPair d now vars t y.0 y.1.0 y.1.1
        by_pair t y f (inl same) =
            let is_y : (full, (o, ty)) ≡ y = same_some (full, (o, ty)) y
            (sym (set_here e.has to (Some (full, (o, ty)))) ∙ (ap (set e.has to (Some (full, (o, ty)))) (sym same) ∙ f)) in
            subst (λ i. HasPair d now vars i y.0 y.1.0 y.1.1) (sym same)
            (subst (λ (s : Bool × (Bool × ℕ)). HasPair d now vars to s.0 s.1.0 s.1.1) is_y here)
        by_pair t y f (inr ne) =
            let x = k.has t y (sym (set_there e.has to (Some (full, (o, ty))) t ne) ∙ f) in
            let few = pair_few t x.is in let a = few.0 in let b = few.1 in record {
              is = x.is;
              value = x.value;
              length = x.length;
              place = x.place;
              there = got_there temps.values to v t ne ∙ x.there;
              long = both t ne (λ g. omega (arith, g, low, b)) ∙ x.long;
              contents = both (t + 3) (λ g. omega (arith, g, a, high)) (λ g. ne (omega (arith, g))) ∙ x.contents;
              handle = x.handle;
              sure = x.sure;
              tied = tied_as y.1.0 temps now x.value refl x.tied;
            }

    -- the value under way
    pub knows_begun : (ty : ℕ) → e.begun ≡ None → own < 2 ^ 32
        → Knows d (under_way e ty) (with_place 2 temps (Located (at_base (InHand (z.before + hand_length h))))) (put old 2 own)
    knows_begun ty none small = record {
      at = λ j t f. by_place j t f (cases_eq j 2);
      counts = λ t f. let x = k.counts t f in let few = (count_apart t x.is).low in record {
        is = x.is;
        number = x.number;
        small = x.small;
        value = x.value;
        variable = put_there old 2 own t (λ g. omega (arith, g, few)) ∙ x.variable;
      };
      has = λ t y f. let x = k.has t y f in let few = (pair_few t x.is).0 in record {
        is = x.is;
        value = x.value;
        length = x.length;
        place = x.place;
        there = x.there;
        long = put_there old 2 own t (λ g. omega (arith, g, few)) ∙ x.long;
        contents = put_there old 2 own (t + 3) (λ g. omega (arith, g, few)) ∙ x.contents;
        handle = x.handle;
        sure = x.sure;
        tied = tied_as y.1.0 temps (with_place 2 temps (Located (at_base (InHand (z.before + hand_length h))))) x.value
            (got_there temps.places 2 (Located (at_base (InHand (z.before + hand_length h)))) 1 (λ g. omega (arith, g))) x.tied;
      };
      small = λ f. let x = k.small f in record { number = x.number; value = x.value; next = x.next };
      begun = λ t f. record {
        place = got_here temps.places 2 (Located (at_base (InHand (z.before + hand_length h))));
        variable = put_word old 2 own small;
        none = set_here e.at 2 None;
      };
    }
      where
        by_place : (j : ℕ) (t : Bool × ℕ) → set e.at 2 None j ≡ Some t → (j ≡ 2) ⊎ (j ≢ 2)
            → AtPlace d (with_place 2 temps (Located (at_base (InHand (z.before + hand_length h))))) (put old 2 own) j t
        by_place j t f (inl same) = absurd (none_some (sym (set_here e.at 2 None) ∙ (ap (set e.at 2 None) (sym same) ∙ f)))
        by_place j t f (inr ne) =
            let x = k.at j t (sym (set_there e.at 2 None j ne) ∙ f) in record {
              few = x.few;
              location = x.location;
              address = x.address;
              place = got_there temps.places 2 (Located (at_base (InHand (z.before + hand_length h)))) j ne ∙ x.place;
              variable = put_there old 2 own j ne ∙ x.variable;
              leads = x.leads;
            }
