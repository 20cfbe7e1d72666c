-- Types as such: what is built of parts, and what a declaration stands for. There are no numbers of a table here.
use Rattle.std.specs.Prelude.{ℕ, Bool, true, false, ◌&&◌, nat_eq, List, [], ◌∷◌, Option, Some, None}
use Rattle.std.specs.Cmp.Lexicographic.{pointwise}
use Rattle.arc_base.specs.declared.place.Place.{Place}

-- a declaration of a type: its name as declared, and the place of the name, whose line is 0 where no source declares it
pub record Key : Type 0 where
  pub name : List ℕ
  pub at : Place

mutual
  pub data Ty : Type 0 where
    int : Ty
    bool : Ty
    char : Ty
    text : Ty
    sequence : (of : Ty) → Ty
    array : (length : ℕ) → (of : Ty) → Ty
    -- the names of the parts in normal form, or none at all
    tuple : (names : List (List ℕ)) → (parts : Tys) → Ty
    -- the type parameter at a place, from 0
    parameter : (number : ℕ) → Ty
    enum : Key → Ty
    -- with the arguments of a generic one
    object : Key → (arguments : Tys) → Ty
    distinct : Key → Ty
    -- a ref type with the name of its `ref object`, or without
    ref : (name : Option (List ℕ)) → (to : Ty) → Ty
    exception : Key → Ty

  pub data Tys : Type 0 where
    no_types : Tys
    types : (first : Ty) → (rest : Tys) → Tys

-- ---- equality

abbrev pub same_place : Place → Place → Bool
same_place a b = nat_eq a.module b.module && nat_eq a.line b.line && nat_eq a.column b.column

abbrev pub same_text : List ℕ → List ℕ → Bool
same_text a b = pointwise nat_eq a b

abbrev pub same_key : Key → Key → Bool
same_key a b = same_text a.name b.name && same_place a.at b.at

abbrev pub same_name : Option (List ℕ) → Option (List ℕ) → Bool
same_name None None = true
same_name (Some a) (Some b) = same_text a b
same_name _ _ = false

abbrev mutual
  -- Declared types are equal where name and place of the declaration are, and for objects the arguments.
  pub same : Ty → Ty → Bool
  same int int = true
  same bool bool = true
  same char char = true
  same text text = true
  same (sequence a) (sequence b) = same a b
  same (array m a) (array n b) = nat_eq m n && same a b
  same (tuple xs us) (tuple ys vs) = pointwise same_text xs ys && same_all us vs
  same (parameter m) (parameter n) = nat_eq m n
  same (enum a) (enum b) = same_key a b
  same (object a us) (object b vs) = same_key a b && same_all us vs
  same (distinct a) (distinct b) = same_key a b
  same (ref x a) (ref y b) = same_name x y && same a b
  same (exception a) (exception b) = same_key a b
  same _ _ = false

  pub same_all : Tys → Tys → Bool
  same_all no_types no_types = true
  same_all (types a us) (types b vs) = same a b && same_all us vs
  same_all _ _ = false

abbrev pub list_of : Tys → List Ty
list_of no_types = []
list_of (types first rest) = first ∷ list_of rest

-- ---- what declarations say

-- a field of an object: its name as declared, whether other modules see it, and its type
pub record Field : Type 0 where
  pub name : List ℕ
  pub shown : Bool
  pub of : Ty

pub data Fact : Type 0 where
  -- the members of an enum, as declared
  members : List (List ℕ) → Fact
  -- the fields of an object, and whether it has hooks of its own
  fields : List Field → (resource : Bool) → Fact
  -- the base of a distinct type
  base : Ty → Fact
  -- the exception that one is below, but for the root
  below : Option Ty → Fact

-- a declared type with what its declaration says
pub record Declared : Type 0 where
  pub of : Ty
  pub fact : Fact

abbrev pub Facts : Type 0
Facts = List Declared

abbrev pub if_same : Bool → Fact → Option Fact → Option Fact
if_same true fact other = Some fact
if_same false fact other = other

-- what is said of a type, None of one that isn't declared
abbrev pub fact_of : Facts → Ty → Option Fact
fact_of [] ty = None
fact_of (d ∷ rest) ty = if_same (same d.of ty) d.fact (fact_of rest ty)

abbrev pub members_in : Option Fact → List (List ℕ)
members_in (Some (members names)) = names
members_in _ = []

abbrev pub fields_in : Option Fact → List Field
fields_in (Some (fields all resource)) = all
fields_in _ = []

abbrev pub base_in : Option Fact → Option Ty
base_in (Some (base ty)) = Some ty
base_in _ = None
