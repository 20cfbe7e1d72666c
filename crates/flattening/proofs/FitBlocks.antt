-- What is known of typed statements where they stand.
use Rattle.std.proofs.Common.{◌≡◌, ℕ, zero, suc, ◌+◌, ◌≤◌, Bool, true, false, List, [], ◌∷◌, ◌++◌, Option, Some, None, refl, sym, ap, ◌∙◌, subst, arith}
use Rattle.std.proofs.Common.{append_assoc}
use Rattle.std.specs.Prelude.{nat_eq, if◌then◌else◌, take}
use Rattle.std.proofs.lemmas.Bool.{eqb-true}
use Rattle.nim_types.specs.Types.{Ty, Facts}
use Rattle.nim_types.specs.Types as type
use Rattle.nim_program.specs.declared.program.Mode.{Mode}
use Rattle.nim_program.specs.Program.{Expr, Args, NoArg, ByValue, ByPath, Proc, Declared}
use Rattle.nim_program.specs.Folds.{Seen, lists, total, total_at, totals, each}
use Rattle.nim_program.specs.Kinds.{kind_of, declared_kind, is_int}
use Rattle.nim_program.specs.Scopes.{Placed, placed, Here, look}
use Rattle.nim_program.specs.Typed.{own_types, is_typed}
use Rattle.flat_code.specs.declared.place.FlatPlace.{FlatPlace}
use Rattle.flat_code.specs.Fits.{Signature, own}
use Rattle.flat_code.specs.Leads.{may_fill, may_stand}
use Rattle.flattening.specs.Formed.{IsListed}
use Rattle.flattening.specs.Numbering.{width, selector_from, behind_selector}
use Rattle.flattening.specs.Places.{expr_places, part_places, selector_place}
use Rattle.flattening.proofs.Direct.{is_direct}
use Rattle.flattening.proofs.FitParts.{never}
use Rattle.flattening.proofs.FitParts as parts
use Rattle.flattening.proofs.Numbered.{Numbered, numbered_wide, ◌>>◌, Owns, owns_first, owns_second, owns_later}
use Rattle.flattening.proofs.Owned as owned
use Rattle.flattening.proofs.Owned.{selector_later}
use Rattle.flattening.proofs.Parts.{Each, EachIn, both}
use Rattle.flattening.proofs.PlaceNumbers.{part_numbers, selector_number}
use Rattle.flattening.proofs.StoodPlaces.{Mark}

-- ---- what is an int

no_int : {A : Type 0} (said : Option type.Fact) → is_int (declared_kind said) ≡ true → A
no_int None h = never h
no_int (Some (type.members names)) h = never h
no_int (Some (type.fields all resource)) h = never h
no_int (Some (type.base ty)) h = never h
no_int (Some (type.below parent)) h = never h

pub the_int : (facts : Facts) (ty : Ty) → is_int (kind_of facts ty) ≡ true → ty ≡ type.int
the_int facts type.int h = refl
the_int facts type.bool h = never h
the_int facts type.char h = never h
the_int facts type.text h = never h
the_int facts (type.sequence t) h = never h
the_int facts (type.array n t) h = never h
the_int facts (type.tuple names ts) h = never h
the_int facts (type.parameter n) h = never h
the_int facts (type.ref name t) h = never h
the_int facts (type.enum key) h = no_int (type.fact_of facts (type.enum key)) h
the_int facts (type.object key ts) h = no_int (type.fact_of facts (type.object key ts)) h
the_int facts (type.distinct key) h = no_int (type.fact_of facts (type.distinct key)) h
the_int facts (type.exception key) h = no_int (type.fact_of facts (type.exception key)) h

-- ---- places in scope

-- one more at the end
pub look_end : (places : List Placed) (p : Placed) (n : ℕ) (ty : Ty) (P : Type 0) → look (places ++ p ∷ []) n ≡ Some ty → (look places n ≡ Some ty → P) →
    (p.number ≡ n → p.of ≡ ty → P) → P
look_end [] p n ty P e there here = at (nat_eq p.number n) refl e
  where
    some_one : {x y : Ty} → Some x ≡ Some y → x ≡ y
    some_one e = cc

    none : None ≡ Some ty → P
    none e = cc

    at : (b : Bool) → nat_eq p.number n ≡ b → (if b then Some p.of else None) ≡ Some ty → P
    at true same e = here (eqb-true p.number n same) (some_one e)
    at false same e = none e
look_end (q ∷ qs) p n ty P e there here = at (nat_eq q.number n) refl e (λ f. look_end qs p n ty P f)
  where
    at : (b : Bool) → nat_eq q.number n ≡ b → (if b then Some q.of else look (qs ++ p ∷ []) n) ≡ Some ty →
        (look (qs ++ p ∷ []) n ≡ Some ty → (look qs n ≡ Some ty → P) → (p.number ≡ n → p.of ≡ ty → P) → P) → P
    at true same e rest = there (ap (λ b. if b then Some q.of else look qs n) same ∙ e)
    at false same e rest = rest e (λ f. there (ap (λ b. if b then Some q.of else look qs n) same ∙ f)) here

-- among the first ones, and among all
pub look_taken : (filled : ℕ) (places : List Placed) (n : ℕ) (ty : Ty) → look (take filled places) n ≡ Some ty → look places n ≡ Some ty
look_taken zero [] n ty e = e
look_taken zero (p ∷ places) n ty e = none e
  where
    none : {A : Type 0} → None ≡ Some ty → A
    none e = cc
look_taken (suc filled) [] n ty e = e
look_taken (suc filled) (p ∷ places) n ty e = at (nat_eq p.number n) e (look_taken filled places n ty)
  where
    at : (b : Bool) → (if b then Some p.of else look (take filled places) n) ≡ Some ty → (look (take filled places) n ≡ Some ty → look places n ≡ Some ty) →
        (if b then Some p.of else look places n) ≡ Some ty
    at true e rest = e
    at false e rest = rest e

-- ---- lists of operands

-- what holds of each operand's list holds of their list together
pub together_each : {A : Type 0} (holds : A → Type 0) (own : Seen → List A) (args : Args) → EachIn holds (each lists own args) →
    Each holds (totals lists own args)
together_each holds own NoArg h = tt
together_each holds own (ByValue e rest) h = both holds (total lists own e) (totals lists own rest) h.0 (together_each holds own rest h.1)
together_each holds own (ByPath path rest) h = both holds (total_at lists own false path) (totals lists own rest) h.0 (together_each holds own rest h.1)

module _ (types : List Ty) (facts : Facts) (modes : (proc position : ℕ) → Mode) (procs : List Proc) (globals : List Placed) (sigs : List Signature)
    (start whole : List FlatPlace) (stands_for : ℕ → Bool) where
  abbrev pub own_place : ℕ → Option Ty
  own_place = own (parts.known types facts modes procs globals sigs start whole stands_for) sigs start whole

  -- a declared place is one of the code, of its type
  pub record Held (d : Declared) : Type 0 where
    pub own : own_place d.number ≡ Some d.of
    pub named : parts.named types facts modes procs globals sigs start whole stands_for d.number false ≡ Some d.of

  -- a place is filled, or stands for others
  pub record Marked (m : Mark) : Type 0 where
    pub fills : m.stands ≡ false → may_fill (parts.known types facts modes procs globals sigs start whole stands_for) whole stands_for m.place.number ≡ true
    pub stands : m.stands ≡ true → IsListed types m.place.of →
        may_stand (parts.known types facts modes procs globals sigs start whole stands_for) whole stands_for m.place.number ≡ true

  abbrev Sees : ℕ → List Placed → Type 0
  Sees = parts.Sees types facts modes procs globals sigs start whole stands_for

  pub sees_place : (filled : ℕ) (places : List Placed) (d : Declared) → Sees filled places → Held d → Sees filled (places ++ placed d ∷ [])
  sees_place filled places d sees held = record {
    local = λ n ty e. look_end places (placed d) n ty (parts.named types facts modes procs globals sigs start whole stands_for n false ≡ Some ty) e
        (sees.local n ty)
        (λ same is. subst (λ m. parts.named types facts modes procs globals sigs start whole stands_for m false ≡ Some ty) same (held.named ∙ ap Some is));
    global = sees.global;
  }

  module _ (filled : ℕ) (places : List Placed) (dest : Option ℕ) where
    abbrev here : Here
    here = parts.seen types facts modes procs globals sigs start whole stands_for filled places dest

    abbrev Stood : Expr → ℕ → Type 0
    Stood = parts.Stood types facts modes procs globals sigs start whole stands_for filled places dest

    -- an expression that owns its temporaries
    pub stood : (e : Expr) (t : ℕ) → is_typed here e ≡ true → is_direct facts e ≡ true → Each (IsListed types) (total lists own_types e) →
        Owns whole (expr_places types facts modes e t) t t (t + width e) → Stood e t
    stood e t typed direct listed owns =
        record { typed = typed; direct = direct; listed = listed; owns = owns_later (suc t) (omega arith) owns }

    -- the selector of a `case`, before other places
    pub selector_owned : (selector : Args) (u v : ℕ) (more : List FlatPlace) → Numbered (behind_selector selector u) v more → behind_selector selector u ≤ v →
        Owns whole (selector_place types facts modes selector u ++ (part_places types facts modes selector (selector_from selector u) ++ more)) u u v →
        owned.ChoiceOwned (parts.known types facts modes procs globals sigs start whole stands_for) modes whole selector u
        × Owns whole more (behind_selector selector u) (behind_selector selector u) v
    selector_owned selector u v more behind le owns =
        let from = selector_from selector u in
        let end = behind_selector selector u in
        let later = selector_later selector u in
        let joined = subst (λ all. Owns whole all u u v)
        (sym (append_assoc (selector_place types facts modes selector u) (part_places types facts modes selector from) more)) owns in (
          owns_first end v le behind joined,
          owns_second u end v (omega (arith, later)) (omega (arith, later)) (omega arith)
              (selector_number types facts modes selector u (omega arith) (omega arith)
              >> numbered_wide (omega (arith, later)) (omega arith) (part_numbers types facts modes selector from)) joined,
        )
